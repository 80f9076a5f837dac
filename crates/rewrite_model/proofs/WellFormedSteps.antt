-- Steps and runs lead from well-formed modules to well-formed modules.
use Rattle.std.proofs.Common.{◌≡◌, ◌≢◌, ℕ, suc, ◌+◌, ◌^◌, ◌<◌, ◌≤◌, Bool, true, false, not, ◌&&◌, List, [], ◌∷◌, length, Option, Some, None, Ok, Err, refl, ap, subst, arith}
use Rattle.std.specs.Prelude.{nat_eq, nat_le}
use Rattle.std.proofs.lemmas.Bool.Decides.{nat_tests}
use Rattle.std.proofs.lemmas.List.Elements.{All-nil}
use Rattle.mlir_tree.specs.declared.row.Row.{Row}
use Rattle.mlir_tree.specs.declared.rows.Rows.{Rows}
use Rattle.mlir_tree.specs.declared.value.Val.{Val}
use Rattle.mlir_tree.specs.declared.bad_use.BadUse.{BadUse}
use Rattle.mlir_tree.specs.Tree.{Ty, Attr}
use Rattle.mlir_tree.specs.Module.{row_of}
use Rattle.mlir_tree.specs.WellFormed.{HasSizes, IsWellFormed}
use Rattle.mlir_tree.specs.Edits.{substituted, removed}
use Rattle.row_index.specs.BadUses.{bad_use}
use Rattle.rewrite_model.specs.declared.run.Break.TheVariants.{Gone, Count, Types, Top, NativeRefused}
use Rattle.rewrite_model.specs.declared.run.BoundKind.TheVariants.{RowLimit, SlotLimit}
use Rattle.rewrite_model.specs.Pattern.{Parts, Part, Making, attr_literal, type_literal, new_operation, result_of, only_result_of, results_of, result_types_of, native, Action, makes, replaces, erases, Pattern}
use Rattle.rewrite_model.specs.Things.{Thing, an_attr, a_type, result_at, only_result_at, each}
use Rattle.rewrite_model.specs.Making.{Stop, breaks, bound, Start, Progress, Outcome, ◌>>=◌, or_break, or_stop, need_or, need, slots_of, results, are_live, have_types, native_result, part, live_row, values_at, types_at, entries_at, new_row, need_room, giving, put_in, create, making, edited, replace, erase, act, act_all}
use Rattle.rewrite_model.specs.Step.{begun, start_at, rewritten, accepted, step}
use Rattle.rewrite_model.specs.Running.{converges, is_bounded, is_stopped, goes_on, stays, steps_on}
use Rattle.rewrite_model.specs.Laws.{IsLaidOut, RewritesKeepLayout, StepsKeepWellFormed, RunsKeepWellFormed, RunsReachTheirEnd}
use Rattle.rewrite_model.proofs.Courses.{steps_keep_visible}
use Rattle.rewrite_model.proofs.LayoutSubstituted.{substituted_layout}
use Rattle.rewrite_model.proofs.LayoutRemoved.{removed_layout}
use Rattle.rewrite_model.proofs.Layouts.{new_dictionaries, inserted_layout}

-- ---- work that didn't stop

abbrev pub ok_or : {A : Type 0} → A → Outcome A → A
ok_or d (Ok x) = x
ok_or d (Err e) = d

abbrev pub done : {A : Type 0} → A → Outcome A
done x = Ok x

pub same_ok : {A : Type 0} (x y : A) → done x ≡ done y → x ≡ y
same_ok x y e = ap (ok_or x) e

pub first_of : {A B : Type 0} (o : Outcome A) (f : A → Outcome B) (y : B) → (o >>= f) ≡ Ok y → (x : A) × (o ≡ Ok x) × (f x ≡ Ok y)
first_of (Ok x) f y e = (x, refl, e)
first_of (Err s) f y e = absurd (cc)

was_there : {A : Type 0} (s : Stop) (o : Option A) (x : A) → or_stop s o ≡ Ok x → o ≡ Some x
was_there s (Some y) x e = ap Some (same_ok y x e)
was_there s None x e = absurd (cc)

pub was_so : (b : Bool) (s : Stop) (x : Unit {0}) → need_or b s ≡ Ok x → b ≡ true
was_so true s x e = refl
was_so false s x e = absurd (cc)

not_zero : (n : ℕ) → not (nat_eq n 0) ≡ true → n ≢ 0
not_zero n e z = grind (arith, nat_tests, e, z)

pub both_true : (a b : Bool) → (a && b) ≡ true → (a ≡ true) × (b ≡ true)
both_true true b p = (refl, p)
both_true false b p = absurd (cc)

pub at_most : (a b : ℕ) → nat_le a b ≡ true → a ≤ b
at_most a b e = grind (arith, nat_tests, e)

module _ (start : Start) where
  abbrev KeptBy : Progress → Outcome Progress → Type 0
  KeptBy p o = (q : Progress) → o ≡ Ok q → IsLaidOut q.now

  gives : (p : Progress) (t : Thing) → IsLaidOut p.now → KeptBy p (Ok (giving start p t))
  gives p t l q e = subst (λ z. IsLaidOut z.now) (same_ok (giving start p t) q e) l

  -- ---- new operations

  new_sizes : (p : Progress) (r : Row) (id : ℕ) (name : List ℕ) (vs : List Val) (es : List (List ℕ × Attr)) (ts : List Ty) (x : Unit {0}) → need_room start p (new_row start r id name vs es ts) ≡ Ok x → HasSizes (new_row start r id name vs es ts)
  new_sizes p r id name vs es ts x e =
      let new = new_row start r id name vs es ts in
      let a = first_of (need_or (nat_le (p.rows + 1) 4000000) (bound RowLimit))
      (λ _. need_or (nat_le (p.slots + slots_of new) 16000000 && (nat_le (length new.operands) 65535 && nat_le (length new.results) 65535)) (bound SlotLimit)) x e in
      let b = was_so (nat_le (p.slots + slots_of new) 16000000 && (nat_le (length new.operands) 65535 && nat_le (length new.results) 65535)) (bound SlotLimit) x a.2 in
      let c = both_true (nat_le (p.slots + slots_of new) 16000000) (nat_le (length new.operands) 65535 && nat_le (length new.results) 65535) b in
      let d = both_true (nat_le (length new.operands) 65535) (nat_le (length new.results) 65535) c.1 in
      let os = at_most (length new.operands) 65535 d.0 in
      let rs = at_most (length new.results) 65535 d.1 in
      record { operands = omega (arith, os); results = omega (arith, rs); regions = omega arith; arguments = All-nil (λ arguments. length arguments < 2 ^ 16) }

  created : (p : Progress) (name : List ℕ) (o : Parts Part) → IsLaidOut p.now → KeptBy p (create start p name o)
  created p name o l q e =
      let a = first_of (values_at start p o.operands) _ q e in
      let b = first_of (entries_at start p o.entries) _ q a.2 in
      let c = first_of (types_at start p o.types) _ q b.2 in
      let d = first_of (need (are_live p.now.rows a.0) Gone) _ q c.2 in
      let f = first_of (need (not (nat_eq start.root 0)) Top) _ q d.2 in
      let g = first_of (or_break Gone (row_of p.now.rows start.root)) _ q f.2 in
      let new = new_row start g.0 p.now.next name a.0 b.0 c.0 in
      let h = first_of (need_room start p new) _ q g.2 in
      subst (λ z. IsLaidOut z.now) (same_ok (put_in start p new) q h.2)
      (inserted_layout p.now l new start.root g.0 (was_there (breaks Gone) (row_of p.now.rows start.root) g.0 g.1)
      (not_zero start.root (was_so (not (nat_eq start.root 0)) (breaks Top) f.0 f.1)) refl refl (new_dictionaries new b.0 refl refl) (new_sizes p g.0 p.now.next name a.0 b.0 c.0 h.0 h.1))

  made : (p : Progress) (x : Making) → IsLaidOut p.now → KeptBy p (making start p x)
  made p (new_operation name o) l q e = created p name o l q e
  made p (attr_literal v) l q e = gives p (an_attr v) l q e
  made p (type_literal t) l q e = gives p (a_type t) l q e
  made p (result_of x k) l q e =
      let a = first_of (live_row start p x) _ q e in
      let b = first_of (or_break Count (result_at k a.0)) _ q a.2 in
      gives p b.0 l q b.2
  made p (only_result_of x) l q e =
      let a = first_of (live_row start p x) _ q e in
      let b = first_of (or_break Count (only_result_at a.0)) _ q a.2 in
      gives p b.0 l q b.2
  made p (results_of x) l q e = let a = first_of (live_row start p x) _ q e in gives p _ l q a.2
  made p (result_types_of x) l q e = let a = first_of (live_row start p x) _ q e in gives p _ l q a.2
  made p (native f xs) l q e =
      let a = first_of (or_break Gone (each (part start p) xs)) _ q e in
      let b = first_of (or_break NativeRefused (native_result f a.0)) _ q a.2 in
      gives p _ l q b.2

  -- ---- actions

  replaced : (p : Progress) (x : Part) (xs : List Part) → IsLaidOut p.now → KeptBy p (replace start p x xs)
  replaced p x xs l q e =
      let a = first_of (live_row start p x) _ q e in
      let b = first_of (values_at start p xs) _ q a.2 in
      let c = first_of (need (are_live p.now.rows b.0) Gone) _ q b.2 in
      let d = first_of (need (nat_eq (length b.0) (length a.0.results)) Count) _ q c.2 in
      let f = first_of (need (have_types p.now.rows b.0 a.0.results) Types) _ q d.2 in
      let g = first_of (need (not (nat_eq a.0.id 0)) Top) _ q f.2 in
      subst (λ z. IsLaidOut z.now) (same_ok (edited start p (λ m. removed a.0.id (substituted (results a.0) b.0 m))) q g.2)
      (removed_layout a.0.id (not_zero a.0.id (was_so (not (nat_eq a.0.id 0)) (breaks Top) g.0 g.1)) (substituted (results a.0) b.0 p.now) (substituted_layout (results a.0) b.0 p.now l))

  erased : (p : Progress) (x : Part) → IsLaidOut p.now → KeptBy p (erase start p x)
  erased p x l q e =
      let a = first_of (live_row start p x) _ q e in
      let g = first_of (need (not (nat_eq a.0.id 0)) Top) _ q a.2 in
      subst (λ z. IsLaidOut z.now) (same_ok (edited start p (removed a.0.id)) q g.2)
      (removed_layout a.0.id (not_zero a.0.id (was_so (not (nat_eq a.0.id 0)) (breaks Top) g.0 g.1)) p.now l)

  acted : (p : Progress) (x : Action) → IsLaidOut p.now → KeptBy p (act start p x)
  acted p (makes x) l q e = made p x l q e
  acted p (replaces x xs) l q e = replaced p x xs l q e
  acted p (erases x) l q e = erased p x l q e

  all_acted : (xs : List Action) (p : Progress) → IsLaidOut p.now → KeptBy p (act_all start p xs)
  all_acted [] p l q e = subst (λ z. IsLaidOut z.now) (same_ok p q e) l
  all_acted (x ∷ xs) p l q e =
      let a = first_of (act start p x) (λ r. act_all start r xs) q e in
      all_acted xs a.0 (acted p x l a.0 a.1) q a.2

-- ---- steps and runs

pub rewrites_keep_layout : RewritesKeepLayout
unfolding rewritten
rewrites_keep_layout p a id m q l e = all_acted (start_at m a id) p.actions (begun m) l q e

layout_of : (m : Rows) → IsWellFormed m → IsLaidOut m
layout_of m w = record { numbers = w.numbers; nesting = w.nesting; dictionaries = w.dictionaries; sizes = w.sizes }

pub accepted_same : (m n : Rows) (o : Option BadUse) → accepted m o ≡ Ok n → m ≡ n
accepted_same m n None e = same_ok m n e
accepted_same m n (Some u) e = absurd (cc)

laid_after : (p : Pattern) (a : List Thing) (id : ℕ) (m n : Rows) → IsLaidOut m → step p a id m ≡ Ok n → IsLaidOut n
unfolding step
laid_after p a id m n l e =
    let r = first_of (rewritten p a id m) (λ q. accepted q.now (bad_use q.now.rows)) n e in
    subst IsLaidOut (accepted_same r.0.now n (bad_use r.0.now.rows) r.2) (rewrites_keep_layout p a id m r.0 l r.1)

pub steps_keep_well_formed : StepsKeepWellFormed
steps_keep_well_formed p a id m n w e =
    let l = laid_after p a id m n (layout_of m w) e in
    record { numbers = l.numbers; nesting = l.nesting; operands = steps_keep_visible p a id m n e; dictionaries = l.dictionaries; sizes = l.sizes }

pub runs_keep_well_formed : RunsKeepWellFormed
runs_keep_well_formed order ps n m _ w stays = w
runs_keep_well_formed order ps (suc n) m k w (steps_on {m' = m'} {h = h} {p = p} {a = a} s i e r) =
    runs_keep_well_formed order ps n m' k (steps_keep_well_formed p a h.row m m' w e) r

pub runs_reach_their_end : RunsReachTheirEnd
runs_reach_their_end order ps n m _ (converges z) = stays
runs_reach_their_end order ps _ m _ (is_bounded s) = stays
runs_reach_their_end order ps _ m _ (is_stopped s a e) = stays
runs_reach_their_end order ps (suc n) m _ (goes_on {m' = m'} {c = c} s k e r) = steps_on s k e (runs_reach_their_end order ps n m' c r)
