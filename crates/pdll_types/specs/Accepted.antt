-- When a pattern file is accepted, its first fault, and the kinds of its expressions and its roots (MLIR's document "PDLL -
-- PDL Language"). The order of faults is this project's.
use Rattle.std.specs.Prelude.{◌≡◌, ◌⊎◌, ℕ, ◌+◌, Bool, true, false, ◌&&◌, ◌||◌, ◌==◌, nat_lt, if◌then◌else◌, List, [], ◌∷◌, ◌++◌, map, flat_map, Option, Some, None, ⊤}
use Rattle.std.specs.Option.{unwrap_or}
use Rattle.pdll_syntax.specs.declared.fault.PatFault.{PatFault}
use Rattle.pdll_syntax.specs.declared.fault.PatKind.{PatKind}
use Rattle.pdll_syntax.specs.declared.fault.PatKind.TheVariants.{TooLong, NotUtf8, BadByte, BadString, Syntax, CppBody, Include, TooMany, BenefitRange, Undefined, Redefined, WrongKind, WrongArity, UnknownNative, BadLiteral, TwoRanges, MultiRoot, Undetermined, NoResultTypes, BadRoot, AfterRoot, WrongPart}
use Rattle.pdll_syntax.specs.declared.file.Decl.{Decl}
use Rattle.pdll_syntax.specs.declared.file.PatFile.{PatFile}
use Rattle.pdll_syntax.specs.declared.file.Decl.TheVariants as decl
use Rattle.native_set.specs.declared.native.Kind.{Kind as PlainKind}
use Rattle.native_set.specs.declared.native.Kind.TheVariants as kind
use Rattle.rewrite_model.specs.Size.{is_too_large}
use Rattle.rewrite_model.specs.Own.{Own, own, IsOpen, IsDeterminedAlone}
use Rattle.pdll_types.specs.declared.kind.Kind.{Kind}
use Rattle.pdll_types.specs.declared.kind.Kind.TheVariants.{Call}
use Rattle.pdll_types.specs.Kinds.{Asked, root}
use Rattle.pdll_types.specs.Signatures.{Declared, declared}
use Rattle.pdll_types.specs.Mentions.{Mention, use_of, mentions}
use Rattle.pdll_types.specs.Sight.{Seen, seen, kind_of}
use Rattle.pdll_types.specs.Names.{undefined_at, redefined_at, unknown_native_at}
use Rattle.pdll_types.specs.KindFaults.{wrong_kind_at, wrong_arity_at, two_ranges_at}
use Rattle.pdll_types.specs.Literals.{bad_literal_at}
use Rattle.pdll_types.specs.Parts.{no_result_types_at, bad_root_at, after_root_at, wrong_part_at}

-- ---- each condition, over a whole declaration

-- Each item of a list with those before it.
abbrev pub with_those_before : {A : Type 0} → List A → List A → List (List A × A)
with_those_before before [] = []
with_those_before before (x ∷ xs) = (before, x) ∷ with_those_before (before ++ x ∷ []) xs

-- What is found at each mention of a declaration, where these declarations stand before it.
unfoldable pub found_in : {A : Type 0} → (List Declared → Seen → Mention → List A) → List Declared → Decl → List A
found_in at c d = flat_map (λ m. at c (seen c m.0) m.1) (with_those_before [] (mentions c d))

abbrev pub undefined_places : List Declared → Decl → List ℕ
undefined_places = found_in undefined_at

abbrev pub redefined_places : List Declared → Decl → List ℕ
redefined_places = found_in redefined_at

abbrev pub wrong_kind_places : List Declared → Decl → List ℕ
wrong_kind_places = found_in wrong_kind_at

abbrev pub wrong_arity_places : List Declared → Decl → List ℕ
wrong_arity_places = found_in wrong_arity_at

abbrev pub unknown_native_places : List Declared → Decl → List ℕ
unknown_native_places = found_in unknown_native_at

abbrev pub bad_literal_places : List Declared → Decl → List ℕ
bad_literal_places = found_in bad_literal_at

abbrev pub two_ranges_places : List Declared → Decl → List ℕ
two_ranges_places = found_in two_ranges_at

abbrev pub no_result_types_places : List Declared → Decl → List ℕ
no_result_types_places = found_in no_result_types_at

abbrev pub bad_root_places : List Declared → Decl → List ℕ
bad_root_places = found_in bad_root_at

abbrev pub after_root_places : List Declared → Decl → List ℕ
after_root_places = found_in after_root_at

abbrev pub wrong_part_places : List Declared → Decl → List ℕ
wrong_part_places = found_in wrong_part_at

-- ---- faults

abbrev pub faults : PatKind → List ℕ → List PatFault
faults kind places = map (λ at. record { kind = kind; at = at }) places

-- All faults of a declaration.
unfoldable pub faults_of : List Declared → Decl → List PatFault
faults_of c d =
    faults Undefined (undefined_places c d)
    ++ (faults Redefined (redefined_places c d)
    ++ (faults WrongKind (wrong_kind_places c d)
    ++ (faults WrongArity (wrong_arity_places c d)
    ++ (faults UnknownNative (unknown_native_places c d)
    ++ (faults BadLiteral (bad_literal_places c d)
    ++ (faults TwoRanges (two_ranges_places c d)
    ++ (faults NoResultTypes (no_result_types_places c d)
    ++ (faults BadRoot (bad_root_places c d)
    ++ (faults AfterRoot (after_root_places c d)
    ++ faults WrongPart (wrong_part_places c d))))))))))

-- The number in a fault's code.
abbrev pub code_number : PatKind → ℕ
code_number TooLong = 1
code_number NotUtf8 = 2
code_number BadByte = 3
code_number BadString = 4
code_number Syntax = 5
code_number CppBody = 6
code_number Include = 7
code_number TooMany = 8
code_number BenefitRange = 9
code_number Undefined = 10
code_number Redefined = 11
code_number WrongKind = 12
code_number WrongArity = 13
code_number UnknownNative = 14
code_number BadLiteral = 15
code_number TwoRanges = 16
code_number MultiRoot = 17
code_number Undetermined = 18
code_number NoResultTypes = 19
code_number BadRoot = 20
code_number AfterRoot = 21
code_number WrongPart = 22

-- Whether a fault has a lesser place than another, or there a lower code.
abbrev pub is_before : PatFault → PatFault → Bool
is_before f g = nat_lt f.at g.at || ((f.at == g.at) && nat_lt (code_number f.kind) (code_number g.kind))

-- The first of a fault and others.
abbrev pub first_with : PatFault → Option PatFault → Option PatFault
first_with f None = Some f
first_with f (Some g) = if is_before g f then Some g else Some f

-- The first of these faults.
abbrev pub first_of_faults : List PatFault → Option PatFault
first_of_faults [] = None
first_of_faults (f ∷ fs) = first_with f (first_of_faults fs)

-- The first fault of a declaration.
abbrev pub decl_fault : List Declared → Decl → Option PatFault
decl_fault c d = first_of_faults (faults_of c d)

-- ---- what a declaration doesn't determine, and how large it is

-- An operation that isn't determined would be another root.
abbrev pub open_kind : PlainKind → PatKind
open_kind kind.Op = MultiRoot
open_kind k = Undetermined

-- A fault of a number that isn't determined.
pub record IsOpenFault (o : Own) (f : PatFault) : Type 0 where
  pub number : ℕ
  pub plain : PlainKind
  pub is_open : IsOpen o number plain f.at
  pub is_kind : f.kind ≡ open_kind plain

-- The first of these.
pub record IsFirstOpen (o : Own) (f : PatFault) : Type 0 where
  pub is_one : IsOpenFault o f
  pub is_first : (g : PatFault) → IsOpenFault o g → is_before g f ≡ false

-- where a declaration begins
abbrev pub decl_place : Decl → ℕ
decl_place (decl.Pattern p) = p.at
decl_place (decl.Constraint c) = c.at
decl_place (decl.Rewrite c) = c.at

-- A declaration behind these, the last one first, that has no fault.
pub record IsSound (c : List Declared) (earlier : List Decl) (d : Decl) : Type 0 where
  pub names : decl_fault c d ≡ None
  pub determined : IsDeterminedAlone (own earlier d)
  pub small : is_too_large earlier d ≡ false

-- Names, kinds, literals and parts come first, then what isn't determined, then the size.
pub data IsFault (c : List Declared) (earlier : List Decl) (d : Decl) (f : PatFault) : Type 0 where
  of_names : decl_fault c d ≡ Some f → IsFault c earlier d f
  of_numbers : decl_fault c d ≡ None → IsFirstOpen (own earlier d) f → IsFault c earlier d f
  of_size : decl_fault c d ≡ None → IsDeterminedAlone (own earlier d) → is_too_large earlier d ≡ true → f ≡ record { kind = TooMany; at = decl_place d } → IsFault c earlier d f

-- ---- declarations one behind the other

abbrev pub AreSound : List Declared → List Decl → List Decl → Type 0
AreSound c earlier [] = ⊤
AreSound c earlier (d ∷ ds) = IsSound c earlier d × AreSound (declared c d) (d ∷ earlier) ds

-- The fault of the first declaration that has one.
abbrev pub IsFirstFaultOf : List Declared → List Decl → List Decl → PatFault → Type 0
IsFirstFaultOf c earlier [] f = ⊥
IsFirstFaultOf c earlier (d ∷ ds) f = IsFault c earlier d f ⊎ (IsSound c earlier d × IsFirstFaultOf (declared c d) (d ∷ earlier) ds f)

-- ---- kinds and roots

-- The kind of the expression that is used.
abbrev pub kind_at : List Declared → Seen → Mention → List Kind
kind_at c s (use_of p a at form) = unwrap_or (kind_of c s.sight form) Call ∷ []
kind_at c s m = []

abbrev pub kinds_of : List Declared → List Decl → List Kind
kinds_of c [] = []
kinds_of c (d ∷ ds) = found_in kind_at c d ++ kinds_of (declared c d) ds

-- Whether the expression that is used is a root.
abbrev pub is_root : Asked → Bool
is_root root = true
is_root a = false

abbrev pub root_at : List Declared → Seen → Mention → List Bool
root_at c s (use_of p a at form) = is_root a ∷ []
root_at c s m = []

-- For each expression, whether it is a root.
abbrev pub roots_among : List Declared → List Decl → List Bool
roots_among c [] = []
roots_among c (d ∷ ds) = found_in root_at c d ++ roots_among (declared c d) ds

-- The numbers of those that hold, from this number on.
abbrev pub numbers_of : ℕ → List Bool → List ℕ
numbers_of n [] = []
numbers_of n (b ∷ bs) = if b then n ∷ numbers_of (n + 1) bs else numbers_of (n + 1) bs

-- ---- files

unfoldable pub IsAccepted : PatFile → Type 0
IsAccepted file = AreSound [] [] file.decls

unfoldable pub IsFirstFault : PatFile → PatFault → Type 0
IsFirstFault file f = IsFirstFaultOf [] [] file.decls f

-- The kinds of all expressions of a file, ordered by their first token, and at one token the longer first.
unfoldable pub expression_kinds : PatFile → List Kind
expression_kinds file = kinds_of [] file.decls

-- The number among them of the root of each pattern.
unfoldable pub root_numbers : PatFile → List ℕ
root_numbers file = numbers_of 0 (roots_among [] file.decls)
