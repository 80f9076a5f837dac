-- What the program prints for each kind of fault of a pattern file.
use Rattle.std.specs.Prelude.{ℕ, List, codes}
use Rattle.pdll_syntax.specs.declared.fault.PatKind.{PatKind}
use Rattle.pdll_syntax.specs.declared.fault.PatKind.TheVariants.{TooLong, NotUtf8, BadByte, BadString, Syntax, CppBody, Include, TooMany, BenefitRange, Undefined, Redefined, WrongKind, WrongArity, UnknownNative, BadLiteral, TwoRanges, MultiRoot, Undetermined, NoResultTypes, BadRoot, AfterRoot, WrongPart}

abbrev pub code_text : PatKind → List ℕ
code_text TooLong = codes "P1 TooLong"
code_text NotUtf8 = codes "P2 NotUtf8"
code_text BadByte = codes "P3 BadByte"
code_text BadString = codes "P4 BadString"
code_text Syntax = codes "P5 Syntax"
code_text CppBody = codes "P6 CppBody"
code_text Include = codes "P7 Include"
code_text TooMany = codes "P8 TooMany"
code_text BenefitRange = codes "P9 BenefitRange"
code_text Undefined = codes "P10 Undefined"
code_text Redefined = codes "P11 Redefined"
code_text WrongKind = codes "P12 WrongKind"
code_text WrongArity = codes "P13 WrongArity"
code_text UnknownNative = codes "P14 UnknownNative"
code_text BadLiteral = codes "P15 BadLiteral"
code_text TwoRanges = codes "P16 TwoRanges"
code_text MultiRoot = codes "P17 MultiRoot"
code_text Undetermined = codes "P18 Undetermined"
code_text NoResultTypes = codes "P19 NoResultTypes"
code_text BadRoot = codes "P20 BadRoot"
code_text AfterRoot = codes "P21 AfterRoot"
code_text WrongPart = codes "P22 WrongPart"
