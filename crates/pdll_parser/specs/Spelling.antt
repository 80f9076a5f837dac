-- The kinds of faults for which a file isn't spelled.
use Rattle.std.specs.Prelude.{Bool, true, false}
use Rattle.pdll_syntax.specs.declared.fault.PatKind.{PatKind}
use Rattle.pdll_syntax.specs.declared.fault.PatKind.TheVariants.{NotUtf8, BadByte, BadString, Syntax, CppBody, Include, TooMany, BenefitRange}

abbrev pub is_spelling_fault : PatKind → Bool
is_spelling_fault NotUtf8 = true
is_spelling_fault BadByte = true
is_spelling_fault BadString = true
is_spelling_fault Syntax = true
is_spelling_fault CppBody = true
is_spelling_fault Include = true
is_spelling_fault TooMany = true
is_spelling_fault BenefitRange = true
is_spelling_fault k = false
