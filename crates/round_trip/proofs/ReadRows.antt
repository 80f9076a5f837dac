-- The rows of a file of one module without aliases are printable.
use Rattle.std.proofs.Common.{◌≡◌, ℕ, suc, ◌+◌, ◌-◌, ◌*◌, ◌<◌, ◌≤◌, Bool, true, false, not, ◌&&◌, ◌||◌, if◌then◌else◌, List, [], ◌∷◌, ◌++◌, length, map, get_or, append-nil, refl, ap, sym, subst, ◌∙◌, arith, inl, inr, append_assoc, length-append, Option, Some, None}
use Rattle.std.specs.Prelude.{◌⊎◌, IfSome}
use Rattle.std.specs.List.{AllByRecursion, list_any}
use Rattle.std.proofs.lemmas.List.{get_or_at, length-map}
use Rattle.mlir_tree.specs.declared.row.Home.{Home}
use Rattle.mlir_tree.specs.declared.row.Row.{Row}
use Rattle.mlir_tree.specs.declared.value.Val.{Val}
use Rattle.mlir_tree.specs.Tree.{tys}
use Rattle.mlir_tree.specs.Module.{enclosing}
use Rattle.mlir_print.specs.ModuleText.{value_type, is_empty}
use Rattle.mlir_parse.specs.declared.syn.SynArg.{SynArg}
use Rattle.mlir_attributes.specs.Types.{max_open}
use Rattle.mlir_parse.specs.SynTree.{Head, Operation, operation, Regions, no_regions, region_then, Operations, no_operations, operation_then}
use Rattle.mlir_parse.specs.Limits.{operation_count, operations_count}
use Rattle.mlir_resolve.specs.Laid.{Laid, region, row_with, entry_pair, arguments_of, argument_types, laid_operation, laid_regions, laid_operations}
use Rattle.row_index.specs.Walking.{around_place}
use Rattle.mlir_resolve.proofs.Nested as nested_rows
use Rattle.mlir_resolve.proofs.Nested.{blank, rows_by}
use Rattle.mlir_resolve.proofs.Spans.{AllAt, all_behind, operation_length, operations_length}
use Rattle.round_trip.specs.Printable.{IsPrintableTy, ArePrintableTys}
use Rattle.round_trip.specs.PrintableRows.{IsPrintableRow}
use Rattle.round_trip.proofs.SpelledTrees.{IsHeadFine, AreArgumentsFine, IsFineOperation, AreFineRegions, AreFineOperations}
use Rattle.round_trip.proofs.ReadTypes.{IsThere}

-- ---- all operations by their places

all_from : (P : ℕ → Laid → Type 0) (n : ℕ) (xs : List Laid) → ((i : ℕ) → i < length xs → P (n + i) (get_or xs i blank)) → AllAt P n xs
all_from P n [] h = tt
all_from P n (l ∷ xs) h = (
  subst (λ k. P k l) (let e : n + 0 ≡ n = omega arith in e) (h 0 (omega arith)),
  all_from P (suc n) xs (λ i less. subst (λ k. P k (get_or xs i blank)) (let e : n + suc i ≡ suc n + i = omega arith in e) (h (suc i) (omega (arith, less)))),
)

regroup : (pre a b post : List Laid) → pre ++ ((a ++ b) ++ post) ≡ (pre ++ a) ++ (b ++ post)
regroup pre a b post = simp append_assoc

regroup_first : (pre a b post : List Laid) → pre ++ ((a ++ b) ++ post) ≡ pre ++ (a ++ (b ++ post))
regroup_first pre a b post = simp append_assoc

regroup_node : (pre b post : List Laid) (l : Laid) → pre ++ ((l ∷ b) ++ post) ≡ (pre ++ l ∷ []) ++ (b ++ post)
regroup_node pre b post l = simp append_assoc

-- what the regions of an operation say
abbrev pub AreFine : ℕ → List (List SynArg) → Type 0
AreFine room args = AllByRecursion (λ xs. (2 ≤ room) × AreArgumentsFine (room - 2) xs) args

fine_arguments : (room : ℕ) (rs : Regions) → AreFineRegions room rs → AreFine room (arguments_of rs)
fine_arguments room no_regions h = tt
fine_arguments room (region_then xs os rs) h = ((h.0, h.1), fine_arguments room rs h.3)

module _ (f : Laid → List Val) (o : Operation) where
  abbrev ls : List Laid
  ls = laid_operation 0 None o

  abbrev rows : List Row
  rows = rows_by f (laid_operation 0 None o)

  -- An operation at its depth.
  pub record Deep (k : ℕ) (l : Laid) : Type 0 where
    pub depth : ℕ
    pub around : length (enclosing (rows_by f (laid_operation 0 None o)) k) ≡ depth
    pub head : IsHeadFine (max_open - 2 * depth) l.head
    pub arguments : AreFine (max_open - 2 * depth) l.arguments

  home_at : (pre post : List Laid) (n : ℕ) (l : Laid) → laid_operation 0 None o ≡ pre ++ (l ∷ post) → length pre ≡ n → get_or (laid_operation 0 None o) n blank ≡ l
  home_at pre post n l all len = ap (λ xs. get_or xs n blank) all ∙ get_or_at pre l post blank n len

  inside_at : (pre post : List Laid) (n : ℕ) (l : Laid) → laid_operation 0 None o ≡ pre ++ (l ∷ post) → length pre ≡ n → n < length (laid_operation 0 None o)
  inside_at pre post n l all len = omega (arith, ap length all, length-append pre (l ∷ post), len)

  -- one region deeper
  deeper : (pre post : List Laid) (n d : ℕ) (h : Home) (l : Laid) (depth : ℕ) → laid_operation 0 None o ≡ pre ++ (l ∷ post) → length pre ≡ n → l.home ≡ Some h → h.row ≡ d → d < length (laid_operation 0 None o) → length (enclosing rows d) ≡ depth → length (enclosing rows n) ≡ suc depth
  deeper pre post n d h l depth all len home row less outer =
      let inside = inside_at pre post n l all len in
      let around : around_place rows n ≡ h ∷ around_place rows h.row = nested_rows.around_some f o n h inside (ap (λ (x : Laid). x.home) (home_at pre post n l all len) ∙ home) in
      ap length (nested_rows.enclosing_is f o n inside ∙ around) ∙ ap (λ k. suc (length (around_place rows k))) row ∙ ap (λ hs. suc (length hs)) (sym (nested_rows.enclosing_is f o d less)) ∙ ap suc outer

  outermost : 0 < length (laid_operation 0 None o) → (get_or (laid_operation 0 None o) 0 blank).home ≡ None → length (enclosing rows 0) ≡ 0
  outermost some home = ap length (nested_rows.enclosing_is f o 0 some ∙ nested_rows.around_none f o 0 some home)

  -- how deep an operation stands: at the top, or in a region of one at this depth
  IsDepth : Option Home → ℕ → Type 0
  IsDepth None depth = depth ≡ 0
  IsDepth (Some h) depth = (outer : ℕ) × (depth ≡ suc outer) × (h.row < length (laid_operation 0 None o)) × (length (enclosing (rows_by f (laid_operation 0 None o)) h.row) ≡ outer)

  depth_at : (pre post : List Laid) (n : ℕ) (home : Option Home) (l : Laid) (depth : ℕ) → laid_operation 0 None o ≡ pre ++ (l ∷ post) → length pre ≡ n → l.home ≡ home → (home ≡ None → n ≡ 0) → IsDepth home depth → length (enclosing rows n) ≡ depth
  unfolding IsDepth
  depth_at pre post n None l depth all len home first is =
      let zero_is : n ≡ 0 = first refl in
      let inside = inside_at pre post n l all len in
      let none : (get_or (laid_operation 0 None o) 0 blank).home ≡ None = ap (λ k. (get_or (laid_operation 0 None o) k blank).home) (sym zero_is) ∙ ap (λ (x : Laid). x.home) (home_at pre post n l all len) ∙ home in
      ap (λ k. length (enclosing rows k)) zero_is ∙ outermost (subst (λ k. k < length (laid_operation 0 None o)) zero_is inside) none ∙ sym is
  depth_at pre post n (Some h) l depth all len home first (outer, next, less, is) = deeper pre post n h.row h l outer all len home refl less is ∙ sym next

  mutual
    unfolding laid_operation IsDepth

    operation_deep : (pre post : List Laid) (n depth : ℕ) (home : Option Home) (p : Operation) → laid_operation 0 None o ≡ pre ++ (laid_operation n home p ++ post) → length pre ≡ n → (home ≡ None → n ≡ 0) → IsDepth home depth → IsFineOperation (max_open - 2 * depth) p → AllAt Deep n (laid_operation n home p)
    operation_deep pre post n depth home (operation h rs) all len first is fine =
        let l : Laid = record { id = n; home = home; head = h; arguments = arguments_of rs } in
        let here : length (enclosing rows n) ≡ depth = depth_at pre (laid_regions n 0 (suc n) rs ++ post) n home l depth all len refl first is in
        let inside = inside_at pre (laid_regions n 0 (suc n) rs ++ post) n l all len in (
          record { depth = depth; around = here; head = fine.0; arguments = fine_arguments (max_open - 2 * depth) rs fine.1 },
          regions_deep (pre ++ l ∷ []) post (suc n) depth n 0 rs (all ∙ regroup_node pre (laid_regions n 0 (suc n) rs) post l) (omega (arith, length-append pre (l ∷ []), len)) inside here fine.1,
        )

    regions_deep : (pre post : List Laid) (n depth d g : ℕ) (rs : Regions) → laid_operation 0 None o ≡ pre ++ (laid_regions d g n rs ++ post) → length pre ≡ n → d < length (laid_operation 0 None o) → length (enclosing rows d) ≡ depth → AreFineRegions (max_open - 2 * depth) rs → AllAt Deep n (laid_regions d g n rs)
    regions_deep pre post n depth d g no_regions all len less here fine = tt
    regions_deep pre post n depth d g (region_then xs os rs) all len less here fine =
        let count = operations_length (region d g) n os in
        all_behind Deep n (operations_count os) (laid_operations (region d g) n os) (laid_regions d (suc g) (n + operations_count os) rs) count
        (operations_deep pre (laid_regions d (suc g) (n + operations_count os) rs ++ post) n depth (region d g) os (all ∙ regroup_first pre (laid_operations (region d g) n os) (laid_regions d (suc g) (n + operations_count os) rs) post) len less here
        (subst (λ room. AreFineOperations room os) (let e : max_open - 2 * depth - 2 ≡ max_open - 2 * suc depth = omega arith in e) fine.2))
        (regions_deep (pre ++ laid_operations (region d g) n os) post (n + operations_count os) depth d (suc g) rs (all ∙ regroup pre (laid_operations (region d g) n os) (laid_regions d (suc g) (n + operations_count os) rs) post)
        (omega (arith, length-append pre (laid_operations (region d g) n os), len, count)) less here fine.3)

    operations_deep : (pre post : List Laid) (n depth : ℕ) (h : Home) (os : Operations) → laid_operation 0 None o ≡ pre ++ (laid_operations h n os ++ post) → length pre ≡ n → h.row < length (laid_operation 0 None o) → length (enclosing rows h.row) ≡ depth → AreFineOperations (max_open - 2 * suc depth) os → AllAt Deep n (laid_operations h n os)
    operations_deep pre post n depth h no_operations all len less here fine = tt
    operations_deep pre post n depth h (operation_then p os) all len less here fine =
        let count = operation_length n (Some h) p in
        all_behind Deep n (operation_count p) (laid_operation n (Some h) p) (laid_operations h (n + operation_count p) os) count
        (operation_deep pre (laid_operations h (n + operation_count p) os ++ post) n (suc depth) (Some h) p (all ∙ regroup_first pre (laid_operation n (Some h) p) (laid_operations h (n + operation_count p) os) post) len (λ e. absurd (cc)) (depth, refl, less, here) fine.0)
        (operations_deep (pre ++ laid_operation n (Some h) p) post (n + operation_count p) depth h os (all ∙ regroup pre (laid_operation n (Some h) p) (laid_operations h (n + operation_count p) os) post)
        (omega (arith, length-append pre (laid_operation n (Some h) p), len, count)) less here fine.1)

  pub all_deep : IsFineOperation max_open o → AllAt Deep 0 (laid_operation 0 None o)
  unfolding IsDepth
  all_deep fine = operation_deep [] [] 0 0 None o (sym (append-nil (laid_operation 0 None o))) refl (λ e. refl) refl fine

  -- ---- rows

  pub all_there : AllAt (IsThere (rows_by f (laid_operation 0 None o)) f) 0 (laid_operation 0 None o)
  all_there = all_from (IsThere (rows_by f (laid_operation 0 None o)) f) 0 (laid_operation 0 None o) (λ i less. there i less)
    where
      there : (i : ℕ) → i < length (laid_operation 0 None o) → IsThere (rows_by f (laid_operation 0 None o)) f (0 + i) (get_or (laid_operation 0 None o) i blank)
      there i less = subst (λ k. IsThere (rows_by f (laid_operation 0 None o)) f k (get_or (laid_operation 0 None o) i blank)) (let e : i ≡ 0 + i = omega arith in e)
          (record { id = nested_rows.id_is f o i less; row = nested_rows.row_of_is f o i less })

  no_and : (a b : Bool) → (a && b) ≡ false → (a ≡ false) ⊎ (b ≡ false)
  no_and true b h = inr h
  no_and false b h = inl refl

  some_length : {X : Type 0} (xs : List X) → is_empty xs ≡ false → 0 < length xs
  some_length [] h = absurd (cc)
  some_length (x ∷ xs) h = omega arith

  two_by : (room : ℕ) (args : List (List SynArg)) → AreFine room args → 0 < length args → 2 ≤ room
  two_by room [] h some = absurd (omega arith)
  two_by room (xs ∷ args) h some = h.0.0

  three_by : (room : ℕ) (args : List (List SynArg)) → AreFine room args → list_any (λ ts. not (is_empty ts)) (map argument_types args) ≡ true → 3 ≤ room
  three_by room [] h any = absurd (cc)
  three_by room (xs ∷ args) h any = by_first (not (is_empty (argument_types xs))) refl any (three_by room args h.1)
    where
      types_length : (ys : List SynArg) → length (argument_types ys) ≡ length ys
      types_length [] = refl
      types_length (y ∷ ys) = ap suc (types_length ys)

      by_not : (b : Bool) → not b ≡ true → b ≡ false
      by_not true h = absurd (cc)
      by_not false h = refl

      by_first : (b : Bool) → not (is_empty (argument_types xs)) ≡ b → (b || list_any (λ ts. not (is_empty ts)) (map argument_types args)) ≡ true → (list_any (λ ts. not (is_empty ts)) (map argument_types args) ≡ true → 3 ≤ room) → 3 ≤ room
      by_first true is any go =
          let some : 0 < length xs = subst (λ n. 0 < n) (types_length xs) (some_length (argument_types xs) (by_not (is_empty (argument_types xs)) is)) in
          let one = h.0.1.0 some in omega (arith, one)
      by_first false is any go = go any

  fits_by : (room : ℕ) (h : Head) (args : List (List SynArg)) → IsHeadFine room h → AreFine room args → (a b : Bool) → list_any (λ ts. not (is_empty ts)) (map argument_types args) ≡ a → (is_empty (map argument_types args) && is_empty (map entry_pair h.props)) ≡ b
      → (if a then 3 else (if b then 1 else 2)) ≤ room
  fits_by room h args head fine true b any is = three_by room args fine any
  fits_by room h args head fine false true any is = head.some
  fits_by room h args head fine false false any is = elim (no_and (is_empty (map argument_types args)) (is_empty (map entry_pair h.props)) is) [
    | inl regions ↦ two_by room args fine (omega (arith, some_length (map argument_types args) regions, length-map args argument_types))
    | inr props ↦ head.two (omega (arith, some_length (map entry_pair h.props) props, length-map h.props entry_pair))
  ]

  lower : (room : ℕ) (args : List (List SynArg)) → AreFine room args → AllByRecursion (λ ts. ArePrintableTys (room - 3) (tys ts)) (map argument_types args)
  lower room [] h = tt
  lower room (xs ∷ args) h = (subst (λ n. ArePrintableTys n (tys (argument_types xs))) (let e : room - 2 - 1 ≡ room - 3 = omega arith in e) h.0.1.1, lower room args h.1)

  pub row_printable : (room : ℕ) (l : Laid) → IsHeadFine room l.head → AreFine room l.arguments → AllByRecursion (λ v. IfSome (value_type rows v) (IsPrintableTy (room - 1))) (f l) → IsPrintableRow rows room (row_with (f l) l)
  row_printable room l head fine operands = record {
    fits = fits_by room l.head l.arguments head fine (list_any (λ ts. not (is_empty ts)) (map argument_types l.arguments)) (is_empty (map argument_types l.arguments) && is_empty (map entry_pair l.head.props)) refl refl;
    name = head.name;
    named = head.named;
    operands = operands;
    results = head.result_types;
    properties = head.props;
    attributes = head.attrs;
    arguments = lower room l.arguments fine;
  }
