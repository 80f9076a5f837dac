-- What the program prints for each kind of fault of a module file.
use Rattle.std.specs.Prelude.{ℕ, Bool, true, false, List, codes}
use Rattle.mlir_attributes.specs.declared.fault.ModKind.{ModKind}
use Rattle.mlir_attributes.specs.declared.fault.ModKind.TheVariants.{TooLong, NotUtf8, BadByte, BadString, Syntax, CustomForm, Successors, ManyBlocks, WideInt, IntRange, AliasUnknown, AliasTwice, DictTwice, TooMany, Undefined, Redefined, NotVisible, ResultIndex, TypeDiffers, CountDiffers, PropAndAttr}

abbrev pub code_text : ModKind → List ℕ
code_text TooLong = codes "M1 TooLong"
code_text NotUtf8 = codes "M2 NotUtf8"
code_text BadByte = codes "M3 BadByte"
code_text BadString = codes "M4 BadString"
code_text Syntax = codes "M5 Syntax"
code_text CustomForm = codes "M6 CustomForm"
code_text Successors = codes "M7 Successors"
code_text ManyBlocks = codes "M8 ManyBlocks"
code_text WideInt = codes "M9 WideInt"
code_text IntRange = codes "M10 IntRange"
code_text AliasUnknown = codes "M11 AliasUnknown"
code_text AliasTwice = codes "M12 AliasTwice"
code_text DictTwice = codes "M13 DictTwice"
code_text TooMany = codes "M14 TooMany"
code_text Undefined = codes "M15 Undefined"
code_text Redefined = codes "M16 Redefined"
code_text NotVisible = codes "M17 NotVisible"
code_text ResultIndex = codes "M18 ResultIndex"
code_text TypeDiffers = codes "M19 TypeDiffers"
code_text CountDiffers = codes "M20 CountDiffers"
code_text PropAndAttr = codes "M21 PropAndAttr"

-- The faults of a text that is to be a type.
abbrev pub is_type_fault : ModKind → Bool
is_type_fault NotUtf8 = true
is_type_fault BadByte = true
is_type_fault BadString = true
is_type_fault Syntax = true
is_type_fault WideInt = true
is_type_fault AliasUnknown = true
is_type_fault TooMany = true
is_type_fault _ = false

-- The faults of a text that is to be an attribute.
abbrev pub is_attr_fault : ModKind → Bool
is_attr_fault IntRange = true
is_attr_fault DictTwice = true
is_attr_fault kind = is_type_fault kind

-- The faults of a file that isn't spelled.
abbrev pub is_spelling_fault : ModKind → Bool
is_spelling_fault CustomForm = true
is_spelling_fault Successors = true
is_spelling_fault ManyBlocks = true
is_spelling_fault AliasTwice = true
is_spelling_fault kind = is_attr_fault kind
