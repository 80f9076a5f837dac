-- Work that may stop, in parts.
use Rattle.std.proofs.Common.{◌≡◌, ℕ, ◌+◌, Bool, true, false, List, length, Option, Some, None, refl, sym, ap, ◌∙◌}
use Rattle.std.specs.Prelude.{Ok, Err, not, nat_eq}
use Rattle.mlir_tree.specs.declared.row.Home.{Home}
use Rattle.mlir_tree.specs.declared.row.Row.{Row}
use Rattle.mlir_tree.specs.declared.value.Val.{Val}
use Rattle.mlir_tree.specs.declared.refusal.Refusal.{Refusal}
use Rattle.mlir_tree.specs.declared.refusal.Refusal.TheVariants.{Fault, NoMemory}
use Rattle.mlir_tree.specs.Tree.{Ty, Attr}
use Rattle.mlir_tree.specs.Module.{row_of}
use Rattle.mlir_tree.specs.Edits.{removed, substituted}
use Rattle.native_set.specs.declared.native.Rewrite.{Rewrite}
use Rattle.rewrite_model.specs.Pattern.{Part, result_of, only_result_of, results_of, result_types_of, native}
use Rattle.rewrite_model.specs.Things.{Thing, some_values, some_types, an_attr, result_at, only_result_at, each}
use Rattle.rewrite_model.specs.declared.run.Break.TheVariants.{Gone, Count, Types, Top, NativeRefused}
use Rattle.rewrite_model.specs.Making.{Start, Progress, Outcome, ◌>>=◌, ◌>>◌, or_break, need, are_live, have_types, results, native_result, part, live_row, values_at, giving, put_in, edited, replace, making}
use Rattle.rewrite_step.specs.declared.stop.Stop.{Stop as StopNode}
use Rattle.row_matcher.specs.View.{thing_of}
use Rattle.rewrite_step.specs.Ends.{Ends}
use Rattle.rewrite_step.specs.Worked.{the_result, the_only_result, all_results, all_result_types, of_native, the_native, given, room_for, slots_with, row_with, added, home_for, created, may_replace}

is_room : (o : Outcome (Unit {0})) (x n : ℕ) → (o >> Ok x) ≡ Ok n → (o ≡ Ok tt) × (n ≡ x)
is_room (Ok tt) x n is = (refl, cc)
is_room (Err e) x n is = absurd (cc)

-- where there is room, the row is put in, and the slots count
pub put_where : (start : Start) (p : Progress) (home : Option Home) (name : List ℕ) (vs : List Val) (es : List (List ℕ × Attr)) (ts : List Ty) (n : ℕ)
    → slots_with p.rows p.slots (length vs) (length ts) ≡ Ok n
    → (added start p home name vs es ts ≡ Ok (put_in start p (row_with home p.now.next name vs es ts))) × (n ≡ p.slots + (length vs + length ts))
put_where start p home name vs es ts n is =
    let r = is_room (room_for p.rows p.slots (length vs) (length ts)) (p.slots + (length vs + length ts)) n is in
    (ap (λ (o : Outcome (Unit {0})). o >> Ok (put_in start p (row_with home p.now.next name vs es ts))) r.0, r.1)

by_parts : (a b : Bool) (o : Option Row) (k : Option Home → Outcome Progress)
    → ((need a Gone >> (need b Top >> (or_break Gone o >>= (λ r. Ok r.home)))) >>= k) ≡ (need a Gone >> (need b Top >> (or_break Gone o >>= (λ r. k r.home))))
by_parts false b o k = refl
by_parts true false o k = refl
by_parts true true None k = refl
by_parts true true (Some r) k = refl

created_by_parts : (start : Start) (p : Progress) (name : List ℕ) (vs : List Val) (es : List (List ℕ × Attr)) (ts : List Ty)
    → (home_for p.now.rows vs start.root >>= (λ h. added start p h name vs es ts)) ≡ created start p name vs es ts
created_by_parts start p name vs es ts =
    by_parts (are_live p.now.rows vs) (not (nat_eq start.root 0)) (row_of p.now.rows start.root) (λ h. added start p h name vs es ts)

there : (rows now : List Row) (us vs : List Val) (root : ℕ) → rows ≡ now → us ≡ vs → home_for now vs root ≡ home_for rows us root
there rows now us vs root are same = sym (λ i. home_for (are i) (same i) root)

pub create_goes : (start : Start) (p q : Progress) (name : List ℕ) (vs us : List Val) (es : List (List ℕ × Attr)) (ts : List Ty) (rows : List Row) (h : Option Home) → rows ≡ p.now.rows → us ≡ vs
    → home_for rows us start.root ≡ Ok h → added start p h name vs es ts ≡ Ok q → created start p name vs es ts ≡ Ok q
create_goes start p q name vs us es ts rows h are same found is =
    sym (created_by_parts start p name vs es ts) ∙ (ap (λ o. o >>= (λ h. added start p h name vs es ts)) (there rows p.now.rows us vs start.root are same ∙ found) ∙ is)

pub create_stops : (w : Unit {0} → Progress) (start : Start) (p : Progress) (name : List ℕ) (vs us : List Val) (es : List (List ℕ × Attr)) (ts : List Ty) (rows : List Row) (e : Refusal StopNode)
    → rows ≡ p.now.rows → us ≡ vs → Ends (λ (h : Option Home). h) (home_for rows us start.root) (Err e) → Ends w (created start p name vs es ts) (Err e)
create_stops w start p name vs us es ts rows (Fault s) are same stops =
    sym (created_by_parts start p name vs es ts) ∙ ap (λ o. o >>= (λ h. added start p h name vs es ts)) (there rows p.now.rows us vs start.root are same ∙ stops)
create_stops w start p name vs us es ts rows NoMemory are same stops = tt

-- ---- replacements

in_turn : (a b c d : Bool) (k : Outcome Progress)
    → ((need a Gone >> (need b Count >> (need c Types >> need d Top))) >> k) ≡ (need a Gone >> (need b Count >> (need c Types >> (need d Top >> k))))
in_turn false b c d k = refl
in_turn true false c d k = refl
in_turn true true false d k = refl
in_turn true true true false k = refl
in_turn true true true true k = refl

abbrev replaced : Start → Progress → Row → List Val → Progress
replaced start p r vs = edited start p (λ m. removed r.id (substituted (results r) vs m))

replaced_by_parts : (start : Start) (p : Progress) (x : Part) (xs : List Part) (r : Row) (vs : List Val) → live_row start p x ≡ Ok r → values_at start p xs ≡ Ok vs
    → replace start p x xs ≡ (may_replace p.now.rows r vs >> Ok (replaced start p r vs))
replaced_by_parts start p x xs r vs row values =
    ap (λ o. o >>= (λ r. values_at start p xs >>= (λ vs. checked r vs))) row
    ∙ (ap (λ o. o >>= (λ vs. checked r vs)) values
    ∙ sym (in_turn (are_live p.now.rows vs) (nat_eq (length vs) (length r.results)) (have_types p.now.rows vs r.results) (not (nat_eq r.id 0)) (Ok (replaced start p r vs))))
  where
    checked : Row → List Val → Outcome Progress
    checked r vs =
        need (are_live p.now.rows vs) Gone
        >> (need (nat_eq (length vs) (length r.results)) Count
        >> (need (have_types p.now.rows vs r.results) Types >> (need (not (nat_eq r.id 0)) Top >> Ok (replaced start p r vs))))

pub replace_goes : (start : Start) (p q : Progress) (x : Part) (xs : List Part) (r : Row) (vs us : List Val) (rows : List Row) (u : Unit {0}) → live_row start p x ≡ Ok r → values_at start p xs ≡ Ok vs
    → rows ≡ p.now.rows → us ≡ vs → may_replace rows r us ≡ Ok u → q ≡ replaced start p r vs → replace start p x xs ≡ Ok q
replace_goes start p q x xs r vs us rows u row values are same may is =
    replaced_by_parts start p x xs r vs row values
    ∙ (ap (λ o. o >> Ok (replaced start p r vs)) (sym (λ i. may_replace (are i) r (same i)) ∙ may) ∙ ap Ok (sym is))

pub replace_stops : (w : Unit {0} → Progress) (start : Start) (p : Progress) (x : Part) (xs : List Part) (r : Row) (vs us : List Val) (rows : List Row) (e : Refusal StopNode)
    → live_row start p x ≡ Ok r → values_at start p xs ≡ Ok vs
    → rows ≡ p.now.rows → us ≡ vs → Ends (λ (u : Unit {0}). u) (may_replace rows r us) (Err e) → Ends w (replace start p x xs) (Err e)
replace_stops w start p x xs r vs us rows (Fault s) row values are same stops =
    replaced_by_parts start p x xs r vs row values
    ∙ ap (λ o. o >> Ok (replaced start p r vs)) (sym (λ i. may_replace (are i) r (same i)) ∙ stops)
replace_stops w start p x xs r vs us rows NoMemory row values are same stops = tt

-- ---- what is made

after : {A B C : Type 0} (o : Outcome A) (f : A → Outcome B) (g : B → Outcome C) → ((o >>= f) >>= g) ≡ (o >>= (λ a. f a >>= g))
after (Ok a) f g = refl
after (Err e) f g = refl

pub gives_result : (start : Start) (p : Progress) (x : Part) (k : ℕ) → given start p (the_result start p x k) ≡ making start p (result_of x k)
gives_result start p x k = after (live_row start p x) (λ r. or_break Count (result_at k r)) (λ t. Ok (giving start p t))

pub gives_only_result : (start : Start) (p : Progress) (x : Part) → given start p (the_only_result start p x) ≡ making start p (only_result_of x)
gives_only_result start p x = after (live_row start p x) (λ r. or_break Count (only_result_at r)) (λ t. Ok (giving start p t))

pub gives_results : (start : Start) (p : Progress) (x : Part) → given start p (all_results start p x) ≡ making start p (results_of x)
gives_results start p x = after (live_row start p x) (λ r. Ok (some_values (results r))) (λ t. Ok (giving start p t))

pub gives_result_types : (start : Start) (p : Progress) (x : Part) → given start p (all_result_types start p x) ≡ making start p (result_types_of x)
gives_result_types start p x = after (live_row start p x) (λ r. Ok (some_types r.results)) (λ t. Ok (giving start p t))

pub gives_native : (start : Start) (p : Progress) (f : Rewrite) (xs : List Part) → given start p (the_native start p f xs) ≡ making start p (native f xs)
gives_native start p f xs =
    after (or_break Gone (each (part start p) xs)) (of_native f) (λ t. Ok (giving start p t))
    ∙ by (or_break Gone (each (part start p) xs))
  where
    by : (o : Outcome (List Thing))
        → (o >>= (λ ts. of_native f ts >>= (λ t. Ok (giving start p t)))) ≡ (o >>= (λ ts. or_break NativeRefused (native_result f ts) >>= (λ v. Ok (giving start p (an_attr v)))))
    by (Ok ts) = after (or_break NativeRefused (native_result f ts)) (λ v. Ok (an_attr v)) (λ t. Ok (giving start p t))
    by (Err e) = refl

pub gives_or_stops : (w : Unit {0} → Progress) (start : Start) (p : Progress) (o : Outcome Thing) (q : Outcome Progress) (e : Refusal StopNode) → Ends thing_of o (Err e) → given start p o ≡ q → Ends w q (Err e)
gives_or_stops w start p o q (Fault s) stops is = sym is ∙ ap (given start p) stops
gives_or_stops w start p o q NoMemory stops is = tt
