-- Each operation as a list of numbers that no other operation has. By it the logic stores an operation.
use Rattle.std.proofs.Common.{◌≡◌, ℕ, List, [], ◌∷◌, refl, ap}
use Rattle.std.specs.Coded.{Coded, code_by, coded×, coded_ℕ, coded_list}
use Rattle.mlir_tree.specs.Tree.{Ty, Attr}
use Rattle.mlir_tree.specs.Codes.{coded_ty, coded_attr}
use Rattle.mlir_parse.specs.declared.syn.SynResult.{SynResult}
use Rattle.mlir_parse.specs.declared.syn.SynUse.{SynUse}
use Rattle.mlir_parse.specs.declared.syn.SynEntry.{SynEntry}
use Rattle.mlir_parse.specs.declared.syn.SynArg.{SynArg}
use Rattle.mlir_parse.specs.SynTree.{Operation, operation, Head, Regions, no_regions, region_then, Operations, no_operations, operation_then}

-- ---- the parts

abbrev pub numbers : Coded (List ℕ)
numbers = coded_list coded_ℕ

abbrev pub coded_result : Coded SynResult
coded_result = code_by (ℕ × (List ℕ × ℕ)) (coded× coded_ℕ (coded× numbers coded_ℕ))
    (λ x. (x.at, (x.name, x.count))) (λ p. record { at = p.0; name = p.1.0; count = p.1.1 }) (λ _. refl)

abbrev pub coded_use : Coded SynUse
coded_use = code_by (ℕ × (List ℕ × ℕ)) (coded× coded_ℕ (coded× numbers coded_ℕ))
    (λ x. (x.at, (x.name, x.index))) (λ p. record { at = p.0; name = p.1.0; index = p.1.1 }) (λ _. refl)

abbrev pub coded_entry : Coded SynEntry
coded_entry = code_by (ℕ × (List ℕ × Attr)) (coded× coded_ℕ (coded× numbers coded_attr))
    (λ x. (x.at, (x.name, x.value))) (λ p. record { at = p.0; name = p.1.0; value = p.1.1 }) (λ _. refl)

abbrev pub coded_arg : Coded SynArg
coded_arg = code_by (ℕ × (List ℕ × Ty)) (coded× coded_ℕ (coded× numbers coded_ty))
    (λ x. (x.at, (x.name, x.ty))) (λ p. record { at = p.0; name = p.1.0; ty = p.1.1 }) (λ _. refl)

abbrev pub HeadParts : Type 0
HeadParts = ((ℕ × ℕ) × (List ℕ × List SynResult)) × ((List SynUse × (List SynEntry × List SynEntry)) × (List Ty × List Ty))

abbrev pub coded_parts : Coded HeadParts
coded_parts =
    coded× (coded× (coded× coded_ℕ coded_ℕ) (coded× numbers (coded_list coded_result)))
    (coded× (coded× (coded_list coded_use) (coded× (coded_list coded_entry) (coded_list coded_entry))) (coded× (coded_list coded_ty) (coded_list coded_ty)))

abbrev pub coded_head : Coded Head
coded_head = code_by HeadParts coded_parts
    (λ h. (((h.at, h.types_at), (h.name, h.results)), ((h.operands, (h.props, h.attrs)), (h.operand_types, h.result_types))))
    (λ p. record {
      at = p.0.0.0;
      types_at = p.0.0.1;
      name = p.0.1.0;
      results = p.0.1.1;
      operands = p.1.0.0;
      props = p.1.0.1.0;
      attrs = p.1.0.1.1;
      operand_types = p.1.1.0;
      result_types = p.1.1.1;
    })
    (λ _. refl)

-- A step of a list: how it goes on, and the part that stands there.
abbrev pub Cell : Type 0
Cell = ℕ × (List Head × List SynArg)

abbrev pub cells : Coded (List Cell)
cells = coded_list (coded× coded_ℕ (coded× (coded_list coded_head) (coded_list coded_arg)))

-- ---- the lists, each with what follows

abbrev mutual
  pub flat_operation : Operation → List Cell → List Cell
  flat_operation (operation h rs) r = (0, (h ∷ [], [])) ∷ flat_regions rs r

  pub flat_regions : Regions → List Cell → List Cell
  flat_regions no_regions r = (0, ([], [])) ∷ r
  flat_regions (region_then args os rs) r = (1, ([], args)) ∷ flat_operations os (flat_regions rs r)

  pub flat_operations : Operations → List Cell → List Cell
  flat_operations no_operations r = (0, ([], [])) ∷ r
  flat_operations (operation_then o os) r = (1, ([], [])) ∷ flat_operation o (flat_operations os r)

-- ---- equal lists come from equal trees, and leave equal rests

abbrev pub first : List Cell → Cell
first [] = (0, ([], []))
first (x ∷ xs) = x

abbrev pub rest : List Cell → List Cell
rest [] = []
rest (x ∷ xs) = xs

abbrev pub head_in : Head → Cell → Head
head_in h (n, ([], args)) = h
head_in h (n, (g ∷ more, args)) = g

abbrev pub args_in : Cell → List SynArg
args_in c = c.1.1

mutual
  same_operation : (x y : Operation) (r u : List Cell) → flat_operation x r ≡ flat_operation y u → (x ≡ y) × (r ≡ u)
  same_operation (operation h rs) (operation g qs) r u p =
      let a : h ≡ g = ap (λ c. head_in h (first c)) p in
      let b = same_regions rs qs r u (ap rest p) in
      (λ i. operation (a i) (b.0 i), b.1)

  same_regions : (x y : Regions) (r u : List Cell) → flat_regions x r ≡ flat_regions y u → (x ≡ y) × (r ≡ u)
  same_regions no_regions no_regions r u p = (refl, ap rest p)
  same_regions (region_then a os rs) (region_then b ps qs) r u p =
      let c : a ≡ b = ap (λ c. args_in (first c)) p in
      let d = same_operations os ps _ _ (ap rest p) in
      let e = same_regions rs qs r u d.1 in
      (λ i. region_then (c i) (d.0 i) (e.0 i), e.1)
  same_regions _ _ r u p =
      let n = ap (λ c. (first c).0) p in
      absurd (cc)

  same_operations : (x y : Operations) (r u : List Cell) → flat_operations x r ≡ flat_operations y u → (x ≡ y) × (r ≡ u)
  same_operations no_operations no_operations r u p = (refl, ap rest p)
  same_operations (operation_then x xs) (operation_then y ys) r u p =
      let a = same_operation x y _ _ (ap rest p) in
      let b = same_operations xs ys r u a.1 in
      (λ i. operation_then (a.0 i) (b.0 i), b.1)
  same_operations _ _ r u p =
      let n = ap (λ c. (first c).0) p in
      absurd (cc)

pub operation_inj : (x y : Operation) → cells.code (flat_operation x []) ≡ cells.code (flat_operation y []) → x ≡ y
operation_inj x y p = (same_operation x y [] [] (cells.inj (flat_operation x []) (flat_operation y []) p)).0

abbrev pub coded_operation : Coded Operation
coded_operation = record { code = λ x. cells.code (flat_operation x []); inj = operation_inj }
