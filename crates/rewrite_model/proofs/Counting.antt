-- How many numbers a step gives, and how many rows and slots it leaves.
use Rattle.std.proofs.Common.{◌≡◌, ℕ, zero, suc, ◌+◌, ◌≤◌, max, Bool, not, ◌&&◌, List, [], ◌∷◌, map, length, Some, Ok, refl, sym, ap, subst, ◌∙◌, arith}
use Rattle.std.specs.Prelude.{nat_eq, nat_le, filter, insert}
use Rattle.std.proofs.lemmas.List.Sums.{sum_by-insert, sum_by-cons}
use Rattle.std.proofs.lemmas.List.Filters.{sum_by-filter_both, length-filter_both}
use Rattle.mlir_tree.specs.declared.row.Row.{Row}
use Rattle.mlir_tree.specs.declared.rows.Rows.{Rows}
use Rattle.mlir_tree.specs.declared.value.Val.{Val}
use Rattle.mlir_tree.specs.Module.{row_of}
use Rattle.mlir_tree.specs.Edits.{place_before, substitute, substituted_row, is_removed, put_before, inserted, substituted, removed}
use Rattle.row_index.specs.BadUses.{bad_use}
use Rattle.rewrite_model.specs.declared.run.Break.TheVariants.{Gone, Count, Types, Top, NativeRefused}
use Rattle.rewrite_model.specs.declared.run.BoundKind.TheVariants.{RowLimit, SlotLimit}
use Rattle.rewrite_model.specs.Pattern.{Parts, Part, Making, attr_literal, type_literal, new_operation, result_of, only_result_of, results_of, result_types_of, native, Action, makes, replaces, erases, Pattern}
use Rattle.rewrite_model.specs.Things.{Thing, an_attr, a_type, result_at, only_result_at, each}
use Rattle.rewrite_model.specs.Making.{bound, Start, Progress, or_break, need_or, need, slots_of, all_slots, results, are_live, have_types, native_result, part, live_row, values_at, types_at, entries_at, new_row, need_room, giving, put_in, create, making, edited, replace, erase, act, act_all}
use Rattle.rewrite_model.specs.Step.{begun, start_at, rewritten, accepted, step}
use Rattle.rewrite_model.specs.Laws.{is_new, new_operations, StepsGiveNumbers, KeepsLimits, StepsKeepLimits}
use Rattle.rewrite_model.proofs.Told.{same_length}
use Rattle.rewrite_model.proofs.WellFormedSteps.{done as ok, same_ok, first_of, was_so, both_true, at_most, accepted_same}

-- ---- counts of the three edits

rows_put : (x : Row) (at : ℕ) (m : Rows) → length (inserted x (Some at) m).rows ≡ suc (length m.rows)
unfolding inserted put_before
rows_put x at m = put (place_before (Some at) m.rows) m.rows where
  put : (i : ℕ) (rows : List Row) → length (insert rows i x) ≡ suc (length rows)
  put zero [] = refl
  put (suc i) [] = refl
  put zero (r ∷ rows) = refl
  put (suc i) (r ∷ rows) = ap suc (put i rows)

slots_put : (x : Row) (at : ℕ) (m : Rows) → all_slots (inserted x (Some at) m).rows ≡ all_slots m.rows + slots_of x
unfolding inserted put_before
slots_put x at m = sum_by-insert slots_of m.rows (place_before (Some at) m.rows) x

next_put : (x : Row) (at : ℕ) (m : Rows) → x.id ≡ m.next → (inserted x (Some at) m).next ≡ m.next + 1
unfolding inserted
next_put x at m e = ap (λ n. max m.next (n + 1)) e ∙ greater m.next where
  greater : (n : ℕ) → max n (n + 1) ≡ n + 1
  greater n = omega arith

rows_substituted : (from to : List Val) (m : Rows) → length (substituted from to m).rows ≡ length m.rows
unfolding substituted
rows_substituted from to m = same_length (substituted_row from to) m.rows

slots_substituted : (from to : List Val) (m : Rows) → all_slots (substituted from to m).rows ≡ all_slots m.rows
unfolding substituted
slots_substituted from to m = all m.rows where
  one : (r : Row) → slots_of (substituted_row from to r) ≡ slots_of r
  one r = ap (λ n. n + length r.results) (same_length (substitute from to) r.operands)

  all : (rows : List Row) → all_slots (map (substituted_row from to) rows) ≡ all_slots rows
  all [] = refl
  all (r ∷ rows) =
      sum_by-cons slots_of (substituted_row from to r) (map (substituted_row from to) rows)
      ∙ ((λ i. one r i + all rows i) ∙ sym (sum_by-cons slots_of r rows))

fewer : (p : Row → Bool) (rows : List Row) → length (filter p rows) ≤ length rows
fewer p rows = let e = length-filter_both p (λ x. not (p x)) (λ x. refl) rows in omega (arith, e)

fewer_slots : (p : Row → Bool) (rows : List Row) → all_slots (filter p rows) ≤ all_slots rows
fewer_slots p rows = let e = sum_by-filter_both p (λ x. not (p x)) (λ x. refl) slots_of rows in omega (arith, e)

rows_removed : (id : ℕ) (m : Rows) → length (removed id m).rows ≤ length m.rows
unfolding removed
rows_removed id m = fewer (λ r. not (is_removed m.rows id r.id)) m.rows

slots_removed : (id : ℕ) (m : Rows) → all_slots (removed id m).rows ≤ all_slots m.rows
unfolding removed
slots_removed id m = fewer_slots (λ r. not (is_removed m.rows id r.id)) m.rows

next_removed : (id : ℕ) (m : Rows) → (removed id m).next ≡ m.next
unfolding removed
next_removed id m = refl

next_substituted : (from to : List Val) (m : Rows) → (substituted from to m).next ≡ m.next
unfolding substituted
next_substituted from to m = refl

-- ---- what an action leaves

-- how many rows and slots there are is at most what was counted, which is within the limits
record Counts (p : Progress) : Type 0 where
  rows : length p.now.rows ≤ p.rows
  slots : all_slots p.now.rows ≤ p.slots
  few_rows : p.rows ≤ 4000000
  few_slots : p.slots ≤ 16000000

-- the numbers that an action gave, and that the counts are kept
abbrev Leaves : Progress → ℕ → Progress → Type 0
Leaves p n q = (q.now.next ≡ p.now.next + n) × (Counts p → Counts q)

module _ (start : Start) where
  gives : (p q : Progress) (t : Thing) → ok (giving start p t) ≡ ok q → Leaves p 0 q
  gives p q t e = subst (Leaves p 0) (same_ok (giving start p t) q e) (omega arith, λ c. record { rows = c.rows; slots = c.slots; few_rows = c.few_rows; few_slots = c.few_slots })

  created : (p q : Progress) (name : List ℕ) (o : Parts Part) → create start p name o ≡ Ok q → Leaves p 1 q
  created p q name o e =
      let a = first_of (values_at start p o.operands) _ q e in
      let b = first_of (entries_at start p o.entries) _ q a.2 in
      let c = first_of (types_at start p o.types) _ q b.2 in
      let d = first_of (need (are_live p.now.rows a.0) Gone) _ q c.2 in
      let f = first_of (need (not (nat_eq start.root 0)) Top) _ q d.2 in
      let g = first_of (or_break Gone (row_of p.now.rows start.root)) _ q f.2 in
      let new = new_row start g.0 p.now.next name a.0 b.0 c.0 in
      let h = first_of (need_room start p new) _ q g.2 in
      subst (Leaves p 1) (same_ok (put_in start p new) q h.2) (next_put new start.root p.now refl, room new h.0 h.1) where
        room : (new : Row) (x : Unit {0}) → need_room start p new ≡ Ok x → Counts p → Counts (put_in start p new)
        room new x e c =
            let i = first_of (need_or (nat_le (p.rows + 1) 4000000) (bound RowLimit))
            (λ _. need_or (nat_le (p.slots + slots_of new) 16000000 && (nat_le (length new.operands) 65535 && nat_le (length new.results) 65535)) (bound SlotLimit)) x e in
            let few = at_most (p.rows + 1) 4000000 (was_so (nat_le (p.rows + 1) 4000000) (bound RowLimit) i.0 i.1) in
            let j = was_so (nat_le (p.slots + slots_of new) 16000000 && (nat_le (length new.operands) 65535 && nat_le (length new.results) 65535)) (bound SlotLimit) x i.2 in
            let slots = at_most (p.slots + slots_of new) 16000000 (both_true (nat_le (p.slots + slots_of new) 16000000) (nat_le (length new.operands) 65535 && nat_le (length new.results) 65535) j).0 in
            let n = rows_put new start.root p.now in
            let k = slots_put new start.root p.now in
            let l = c.rows in
            let w = c.slots in
            record { rows = omega (arith, n, l); slots = omega (arith, k, w); few_rows = few; few_slots = slots }

  made : (p q : Progress) (x : Making) → making start p x ≡ Ok q → Leaves p (is_new (makes x)) q
  made p q (new_operation name o) e = created p q name o e
  made p q (attr_literal v) e = gives p q (an_attr v) e
  made p q (type_literal t) e = gives p q (a_type t) e
  made p q (result_of x k) e =
      let a = first_of (live_row start p x) _ q e in
      let b = first_of (or_break Count (result_at k a.0)) _ q a.2 in
      gives p q b.0 b.2
  made p q (only_result_of x) e =
      let a = first_of (live_row start p x) _ q e in
      let b = first_of (or_break Count (only_result_at a.0)) _ q a.2 in
      gives p q b.0 b.2
  made p q (results_of x) e = let a = first_of (live_row start p x) _ q e in gives p q _ a.2
  made p q (result_types_of x) e = let a = first_of (live_row start p x) _ q e in gives p q _ a.2
  made p q (native f xs) e =
      let a = first_of (or_break Gone (each (part start p) xs)) _ q e in
      let b = first_of (or_break NativeRefused (native_result f a.0)) _ q a.2 in
      gives p q _ b.2

  replaced : (p q : Progress) (x : Part) (xs : List Part) → replace start p x xs ≡ Ok q → Leaves p 0 q
  replaced p q x xs e =
      let a = first_of (live_row start p x) _ q e in
      let b = first_of (values_at start p xs) _ q a.2 in
      let c = first_of (need (are_live p.now.rows b.0) Gone) _ q b.2 in
      let d = first_of (need (nat_eq (length b.0) (length a.0.results)) Count) _ q c.2 in
      let f = first_of (need (have_types p.now.rows b.0 a.0.results) Types) _ q d.2 in
      let g = first_of (need (not (nat_eq a.0.id 0)) Top) _ q f.2 in
      let m = substituted (results a.0) b.0 p.now in
      subst (Leaves p 0) (same_ok (edited start p (λ m. removed a.0.id (substituted (results a.0) b.0 m))) q g.2) (
        next_removed a.0.id m ∙ (next_substituted (results a.0) b.0 p.now ∙ none p.now.next),
        λ k.
            let r = rows_removed a.0.id m in
            let s = slots_removed a.0.id m in
            let t = rows_substituted (results a.0) b.0 p.now in
            let u = slots_substituted (results a.0) b.0 p.now in
            let v = k.rows in
            let w = k.slots in
            record { rows = omega (arith, r, t, v); slots = omega (arith, s, u, w); few_rows = k.few_rows; few_slots = k.few_slots },
      ) where
        none : (n : ℕ) → n ≡ n + 0
        none n = omega arith

  erased : (p q : Progress) (x : Part) → erase start p x ≡ Ok q → Leaves p 0 q
  erased p q x e =
      let a = first_of (live_row start p x) _ q e in
      let g = first_of (need (not (nat_eq a.0.id 0)) Top) _ q a.2 in
      subst (Leaves p 0) (same_ok (edited start p (removed a.0.id)) q g.2) (
        next_removed a.0.id p.now ∙ none p.now.next,
        λ k.
            let r = rows_removed a.0.id p.now in
            let s = slots_removed a.0.id p.now in
            let v = k.rows in
            let w = k.slots in
            record { rows = omega (arith, r, v); slots = omega (arith, s, w); few_rows = k.few_rows; few_slots = k.few_slots },
      ) where
        none : (n : ℕ) → n ≡ n + 0
        none n = omega arith

  acted : (p q : Progress) (x : Action) → act start p x ≡ Ok q → Leaves p (is_new x) q
  acted p q (makes x) e = made p q x e
  acted p q (replaces x xs) e = replaced p q x xs e
  acted p q (erases x) e = erased p q x e

  all_acted : (xs : List Action) (p q : Progress) → act_all start p xs ≡ Ok q → Leaves p (new_operations xs) q
  all_acted [] p q e = subst (Leaves p 0) (same_ok p q e) (omega arith, λ c. c)
  all_acted (x ∷ xs) p q e =
      let a = first_of (act start p x) (λ r. act_all start r xs) q e in
      let b = acted p a.0 x a.1 in
      let c = all_acted xs a.0 q a.2 in
      let n = b.0 in
      let m = c.0 in
      (omega (arith, n, m), λ k. c.1 (b.1 k))

-- ---- steps

done : (p : Pattern) (a : List Thing) (id : ℕ) (m : Rows) (q : Progress) → rewritten p a id m ≡ Ok q → Leaves (begun m) (new_operations p.actions) q
unfolding rewritten
done p a id m q e = all_acted (start_at m a id) p.actions (begun m) q e

after : (p : Pattern) (a : List Thing) (id : ℕ) (m n : Rows) → step p a id m ≡ Ok n → (q : Progress) × (q.now ≡ n) × (rewritten p a id m ≡ Ok q)
unfolding step
after p a id m n e =
    let r = first_of (rewritten p a id m) (λ q. accepted q.now (bad_use q.now.rows)) n e in
    (r.0, accepted_same r.0.now n (bad_use r.0.now.rows) r.2, r.1)

pub steps_give_numbers : StepsGiveNumbers
steps_give_numbers p a id m n e =
    let r = after p a id m n e in
    ap (λ (k : Rows). k.next) (sym r.1) ∙ (done p a id m r.0 r.2).0

pub steps_keep_limits : StepsKeepLimits
steps_keep_limits p a id m n l e =
    let r = after p a id m n e in
    let c = (done p a id m r.0 r.2).1 (record { rows = omega arith; slots = omega arith; few_rows = l.rows; few_slots = l.slots }) in
    let v = c.rows in
    let w = c.slots in
    let x = c.few_rows in
    let y = c.few_slots in
    subst KeepsLimits r.1 (record { rows = omega (arith, v, x); slots = omega (arith, w, y) })
