-- Operations that a text spells without aliases are printable, with those inside them.
use Rattle.std.proofs.Common.{◌≡◌, ℕ, suc, ◌-◌, ◌<◌, ◌≤◌, if◌then◌else◌, List, [], ◌∷◌, length, map, sym, subst, ◌∙◌, arith, inl, inr}
use Rattle.std.specs.Prelude.{IsUtf8}
use Rattle.std.specs.List.{AllByRecursion}
use Rattle.mlir_lexer.specs.declared.token.TokenKind.TheVariants as k
use Rattle.mlir_tree.specs.Tree.{tys, entries}
use Rattle.mlir_print.specs.Text.{stands_bare}
use Rattle.mlir_parse.specs.declared.syn.SynArg.{SynArg}
use Rattle.mlir_attributes.specs.Place.{Place}
use Rattle.mlir_attributes.specs.Steps.{max_parts}
use Rattle.mlir_parse.specs.Lists.{AreListed}
use Rattle.mlir_parse.specs.SynTree.{Head, Operation, operation, Regions, no_regions, region_then, Operations, no_operations, operation_then}
use Rattle.mlir_parse.specs.OperationGrammar.{IsArgument, AreArguments, IsLabel, IsFront, IsBack, IsRegion, IsOperation, AreRegions, AreMoreRegions, AreOperations, region_count}
use Rattle.mlir_resolve.specs.Laid.{entry_pair, argument_types}
use Rattle.round_trip.specs.Printable.{AreBytes, IsPrintableTy, ArePrintableTys, ArePrintableEntries}
use Rattle.round_trip.proofs.SpelledTypes.{mark_text, ty_printable}
use Rattle.round_trip.proofs.SpelledAttributes.{Fine, at_same}
use Rattle.round_trip.proofs.SpelledOperations.{opened, same_place, listed_fine, value_text, location_text, results_text, name_fine, operands_fine, properties_fine, attributes_fine, operand_types_fine, result_types_fine}

-- ---- arguments

argument_fine : (room : ℕ) (x : SynArg) (s r : Place) → IsUtf8 s.bytes → IsArgument [] room s x r → Fine (IsPrintableTy room x.ty) s r
argument_fine room x s r utf8 (s1, s2, s3, at, name, colon, type, location) =
    let e0 = mark_text k.Colon s1 s2 colon ∙ value_text x.name s s1 name in
    let (fine, e1) = ty_printable room x.ty s2 s3 (at_same s s2 e0 utf8) type in
    (fine, location_text room s3 r location ∙ e1 ∙ e0)

types_of : (room : ℕ) (xs : List SynArg) → AllByRecursion (λ x. IsPrintableTy room x.ty) xs → ArePrintableTys room (tys (argument_types xs))
types_of room [] h = tt
types_of room (x ∷ xs) h = (h.0, types_of room xs h.1)

-- the arguments of a region that stands where so many brackets may be opened
abbrev pub AreArgumentsFine : ℕ → List SynArg → Type 0
AreArgumentsFine room xs = (0 < length xs → 1 ≤ room) × ArePrintableTys (room - 1) (tys (argument_types xs))

none_fine : (room : ℕ) (xs : List SynArg) → xs ≡ [] → AreArgumentsFine room xs
none_fine room xs none = subst (AreArgumentsFine room) (sym none) ((λ some. absurd (omega arith)), tt)

arguments_fine : (room : ℕ) (xs : List SynArg) (s r : Place) → IsUtf8 s.bytes → AreArguments [] room s xs r → Fine (AreArgumentsFine room xs) s r
arguments_fine room xs s r utf8 (inl (paren, none, same)) = (none_fine room xs none, same_place s r same)
arguments_fine room xs s r utf8 (inr h) =
    let o = opened k.LeftParen k.RightParen (λ inner u v. AreListed (IsArgument [] inner) u xs v × (length xs ≤ max_parts)) room s r h in
    let e0 = mark_text k.LeftParen s o.from o.left in
    let (fine, e1) = listed_fine (IsArgument [] o.inner) (λ x. IsPrintableTy o.inner x.ty) (argument_fine o.inner) xs o.from o.to (at_same s o.from e0 utf8) o.inside.0 in
    let less : o.inner ≡ room - 1 = omega (arith, o.less) in
    (((λ some. omega (arith, o.less)), subst (λ n. ArePrintableTys n (tys (argument_types xs))) less (types_of o.inner xs fine)), mark_text k.RightParen o.to r o.right ∙ e1 ∙ e0)

label_fine : (room : ℕ) (xs : List SynArg) (s r : Place) → IsUtf8 s.bytes → IsLabel [] room s xs r → Fine (AreArgumentsFine room xs) s r
label_fine room xs s r utf8 (inl (label, none, same)) = (none_fine room xs none, same_place s r same)
label_fine room xs s r utf8 (inr (s1, s2, label, args, colon)) =
    let e0 = mark_text k.Label s s1 label in
    let (fine, e1) = arguments_fine room xs s1 s2 (at_same s s1 e0 utf8) args in
    (fine, mark_text k.Colon s2 r colon ∙ e1 ∙ e0)

-- ---- operations

-- What the head of an operation says, where so many brackets may be opened.
pub record IsHeadFine (room : ℕ) (h : Head) : Type 0 where
  pub name : AreBytes h.name
  pub named : 0 < length h.name
  pub some : 1 ≤ room
  pub operand_types : AllByRecursion (IsPrintableTy (room - 1)) h.operand_types
  pub result_types : ArePrintableTys (if stands_bare (tys h.result_types) then room else room - 1) (tys h.result_types)
  pub two : 0 < length h.props → 2 ≤ room
  pub props : ArePrintableEntries (room - 2) (entries (map entry_pair h.props))
  pub attrs : ArePrintableEntries (room - 1) (entries (map entry_pair h.attrs))

abbrev mutual
  pub IsFineOperation : ℕ → Operation → Type 0
  IsFineOperation room (operation h rs) = IsHeadFine room h × AreFineRegions room rs

  pub AreFineRegions : ℕ → Regions → Type 0
  AreFineRegions room no_regions = Unit {0}
  AreFineRegions room (region_then xs os rs) = (2 ≤ room) × AreArgumentsFine (room - 2) xs × AreFineOperations (room - 2) os × AreFineRegions room rs

  pub AreFineOperations : ℕ → Operations → Type 0
  AreFineOperations room no_operations = Unit {0}
  AreFineOperations room (operation_then o os) = IsFineOperation room o × AreFineOperations room os

front_fine : (room : ℕ) (h : Head) (s r : Place) → IsUtf8 s.bytes → IsFront [] room h s r
    → Fine ((AreBytes h.name × (0 < length h.name)) × (1 ≤ room) × ((0 < length h.props → 2 ≤ room) × ArePrintableEntries (room - 2) (entries (map entry_pair h.props)))) s r
front_fine room h s r utf8 f =
    let e0 = results_text h.results s f.behind_results utf8 f.results in
    let (name, e1) = name_fine h.at h.name f.behind_results f.behind_name (at_same s f.behind_results e0 utf8) f.name in
    let (one, e2) = operands_fine room h.operands f.behind_name f.behind_operands (at_same s f.behind_name (e1 ∙ e0) utf8) f.operands in
    let (props, e3) = properties_fine room h.props f.behind_operands r (at_same s f.behind_operands (e2 ∙ e1 ∙ e0) utf8) f.properties in
    ((name, one, props), e3 ∙ e2 ∙ e1 ∙ e0)

back_fine : (room : ℕ) (h : Head) (s r : Place) → IsUtf8 s.bytes → IsBack [] room h s r
    → Fine (ArePrintableEntries (room - 1) (entries (map entry_pair h.attrs)) × AllByRecursion (IsPrintableTy (room - 1)) h.operand_types × ArePrintableTys (if stands_bare (tys h.result_types) then room else room - 1) (tys h.result_types)) s r
back_fine room h s r utf8 b =
    let (attrs, e0) = attributes_fine room h.attrs s b.behind_attributes utf8 b.attributes in
    let e1 = mark_text k.Colon b.behind_attributes b.types b.colon in
    let (from, e2) = operand_types_fine room h.operand_types b.types b.behind_from (at_same s b.types (e1 ∙ e0) utf8) b.operand_types in
    let e3 = mark_text k.Arrow b.behind_from b.to b.arrow in
    let (to, e4) = result_types_fine room h.result_types b.to b.behind_to (at_same s b.to (e3 ∙ e2 ∙ e1 ∙ e0) utf8) b.result_types in
    ((attrs, from, to), location_text room b.behind_to r b.location ∙ e4 ∙ e3 ∙ e2 ∙ e1 ∙ e0)

-- one bracket fewer may be opened
lowered : (inner room : ℕ) → suc inner ≡ room → (xs : List SynArg) (os : Operations) → (1 ≤ inner) × AreArgumentsFine (inner - 1) xs × AreFineOperations (inner - 1) os → (2 ≤ room) × AreArgumentsFine (room - 2) xs × AreFineOperations (room - 2) os
lowered inner room less xs os (one, args, ops) =
    let same : inner - 1 ≡ room - 2 = omega (arith, less) in
    (omega (arith, less, one), subst (λ n. AreArgumentsFine n xs) same args, subst (λ n. AreFineOperations n os) same ops)

region_fine : (room : ℕ) (xs : List SynArg) (os : Operations) (s r : Place) → IsUtf8 s.bytes → ((inner : ℕ) (u v : Place) → IsUtf8 u.bytes → AreOperations [] inner u os v → Fine (AreFineOperations inner os) u v)
    → IsRegion [] (λ deep x y. AreOperations [] deep x os y) room s xs r → Fine ((1 ≤ room) × AreArgumentsFine (room - 1) xs × AreFineOperations (room - 1) os) s r
region_fine room xs os s r utf8 go h =
    let o = opened k.LeftBrace k.RightBrace (λ inner u v. (m : Place) × IsLabel [] inner u xs m × AreOperations [] inner m os v) room s r h in
    let e0 = mark_text k.LeftBrace s o.from o.left in
    let (m, label, ops) = o.inside in
    let (args, e1) = label_fine o.inner xs o.from m (at_same s o.from e0 utf8) label in
    let (inside, e2) = go o.inner m o.to (at_same s m (e1 ∙ e0) utf8) ops in
    let less : o.inner ≡ room - 1 = omega (arith, o.less) in
    ((omega (arith, o.less), subst (λ n. AreArgumentsFine n xs) less args, subst (λ n. AreFineOperations n os) less inside), mark_text k.RightBrace o.to r o.right ∙ e2 ∙ e1 ∙ e0)

whole_head : (room : ℕ) (h : Head) → (AreBytes h.name × (0 < length h.name)) × (1 ≤ room) × ((0 < length h.props → 2 ≤ room) × ArePrintableEntries (room - 2) (entries (map entry_pair h.props)))
    → ArePrintableEntries (room - 1) (entries (map entry_pair h.attrs)) × AllByRecursion (IsPrintableTy (room - 1)) h.operand_types × ArePrintableTys (if stands_bare (tys h.result_types) then room else room - 1) (tys h.result_types) → IsHeadFine room h
whole_head room h front back = record { name = front.0.0; named = front.0.1; some = front.1; operand_types = back.1; result_types = back.2; two = front.2.0; props = front.2.1; attrs = back.0 }

mutual
  pub operation_fine : (room : ℕ) (o : Operation) (s r : Place) → IsUtf8 s.bytes → IsOperation [] room s o r → Fine (IsFineOperation room o) s r
  operation_fine room (operation h rs) s r utf8 (s1, s2, front, regions, back) =
      let (front_is, e0) = front_fine room h s s1 utf8 front in
      let (inside, e1) = regions_fine room rs s1 s2 (at_same s s1 e0 utf8) regions in
      let (back_is, e2) = back_fine room h s2 r (at_same s s2 (e1 ∙ e0) utf8) back in
      ((whole_head room h front_is back_is, inside), e2 ∙ e1 ∙ e0)

  regions_fine : (room : ℕ) (rs : Regions) (s r : Place) → IsUtf8 s.bytes → AreRegions [] room s rs r → Fine (AreFineRegions room rs) s r
  regions_fine room no_regions s r utf8 h = (tt, same_place s r h.1)
  regions_fine room (region_then xs os rs) s r utf8 h =
      let o = opened k.LeftParen k.RightParen (λ inner u v. (m : Place) × IsRegion [] (λ deep x y. AreOperations [] deep x os y) inner u xs m × AreMoreRegions [] inner m rs v × (region_count (region_then xs os rs) ≤ max_parts)) room s r h in
      let e0 = mark_text k.LeftParen s o.from o.left in
      let (m, first, more, count) = o.inside in
      let (one, e1) = region_fine o.inner xs os o.from m (at_same s o.from e0 utf8) (λ inner u v utf8 h. operations_fine inner os u v utf8 h) first in
      let (rest, e2) = more_fine_regions o.inner room o.less rs m o.to (at_same s m (e1 ∙ e0) utf8) more in
      let low = lowered o.inner room o.less xs os one in
      ((low.0, low.1, low.2, rest), mark_text k.RightParen o.to r o.right ∙ e2 ∙ e1 ∙ e0)

  more_fine_regions : (inner room : ℕ) → suc inner ≡ room → (rs : Regions) (s r : Place) → IsUtf8 s.bytes → AreMoreRegions [] inner s rs r → Fine (AreFineRegions room rs) s r
  more_fine_regions inner room less no_regions s r utf8 h = (tt, same_place s r h.1)
  more_fine_regions inner room less (region_then xs os rs) s r utf8 (s1, s2, comma, first, more) =
      let e0 = mark_text k.Comma s s1 comma in
      let (one, e1) = region_fine inner xs os s1 s2 (at_same s s1 e0 utf8) (λ deep u v utf8 h. operations_fine deep os u v utf8 h) first in
      let (rest, e2) = more_fine_regions inner room less rs s2 r (at_same s s2 (e1 ∙ e0) utf8) more in
      let low = lowered inner room less xs os one in
      ((low.0, low.1, low.2, rest), e2 ∙ e1 ∙ e0)

  operations_fine : (room : ℕ) (os : Operations) (s r : Place) → IsUtf8 s.bytes → AreOperations [] room s os r → Fine (AreFineOperations room os) s r
  operations_fine room no_operations s r utf8 h = (tt, same_place s r h)
  operations_fine room (operation_then o os) s r utf8 (s1, first, more) =
      let (one, e0) = operation_fine room o s s1 utf8 first in
      let (rest, e1) = operations_fine room os s1 r (at_same s s1 e0 utf8) more in
      ((one, rest), e1 ∙ e0)
