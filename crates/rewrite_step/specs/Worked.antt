-- What is made, before it counts among what was made.
use Rattle.std.specs.Prelude.{ℕ, ◌+◌, not, ◌&&◌, nat_eq, nat_le, List, [], length, Option, Ok}
use Rattle.mlir_tree.specs.declared.row.Home.{Home}
use Rattle.mlir_tree.specs.declared.row.Row.{Row}
use Rattle.mlir_tree.specs.declared.value.Val.{Val}
use Rattle.mlir_tree.specs.Tree.{Ty, Attr}
use Rattle.mlir_tree.specs.Module.{row_of}
use Rattle.native_set.specs.declared.native.Rewrite.{Rewrite}
use Rattle.rewrite_model.specs.declared.run.Break.TheVariants.{Gone, Count, Types, Top, NativeRefused}
use Rattle.rewrite_model.specs.declared.run.BoundKind.TheVariants.{RowLimit, SlotLimit}
use Rattle.rewrite_model.specs.Pattern.{Part}
use Rattle.rewrite_model.specs.Things.{Thing, some_values, an_attr, some_types, result_at, only_result_at, each}
use Rattle.rewrite_model.specs.Making.{Start, Progress, Outcome, ◌>>=◌, ◌>>◌, bound, or_break, need_or, need, results, are_live, have_types, sorted, native_result, part, live_row, giving, put_in}

abbrev pub the_result : Start → Progress → Part → ℕ → Outcome Thing
the_result start p x k = live_row start p x >>= (λ r. or_break Count (result_at k r))

abbrev pub the_only_result : Start → Progress → Part → Outcome Thing
the_only_result start p x = live_row start p x >>= (λ r. or_break Count (only_result_at r))

abbrev pub all_results : Start → Progress → Part → Outcome Thing
all_results start p x = live_row start p x >>= (λ r. Ok (some_values (results r)))

abbrev pub all_result_types : Start → Progress → Part → Outcome Thing
all_result_types start p x = live_row start p x >>= (λ r. Ok (some_types r.results))

abbrev pub attr_outcome : Option Attr → Outcome Thing
attr_outcome o = or_break NativeRefused o >>= (λ v. Ok (an_attr v))

abbrev pub of_native : Rewrite → List Thing → Outcome Thing
of_native f ts = attr_outcome (native_result f ts)

abbrev pub the_native : Start → Progress → Rewrite → List Part → Outcome Thing
the_native start p f xs = or_break Gone (each (part start p) xs) >>= of_native f

abbrev pub given : Start → Progress → Outcome Thing → Outcome Progress
given start p o = o >>= (λ t. Ok (giving start p t))

-- ---- new operations

-- whether one more row with so many operands and results fits
abbrev pub room_for : ℕ → ℕ → ℕ → ℕ → Outcome (Unit {0})
room_for rows slots operands results =
    need_or (nat_le (rows + 1) 4000000) (bound RowLimit)
    >> need_or (nat_le (slots + (operands + results)) 16000000 && (nat_le operands 65535 && nat_le results 65535)) (bound SlotLimit)

-- how many slots there are then
abbrev pub slots_with : ℕ → ℕ → ℕ → ℕ → Outcome ℕ
slots_with rows slots operands results = room_for rows slots operands results >> Ok (slots + (operands + results))

abbrev pub row_with : Option Home → ℕ → List ℕ → List Val → List (List ℕ × Attr) → List Ty → Row
row_with home id name vs es ts = record { id = id; home = home; name = name; operands = vs; results = ts; props = []; attrs = sorted es; regions = [] }

abbrev pub added : Start → Progress → Option Home → List ℕ → List Val → List (List ℕ × Attr) → List Ty → Outcome Progress
added start p home name vs es ts = room_for p.rows p.slots (length vs) (length ts) >> Ok (put_in start p (row_with home p.now.next name vs es ts))

abbrev pub home_for : List Row → List Val → ℕ → Outcome (Option Home)
home_for rows vs root =
    need (are_live rows vs) Gone >> (need (not (nat_eq root 0)) Top >> (or_break Gone (row_of rows root) >>= (λ r. Ok r.home)))

abbrev pub created : Start → Progress → List ℕ → List Val → List (List ℕ × Attr) → List Ty → Outcome Progress
created start p name vs es ts =
    need (are_live p.now.rows vs) Gone
    >> (need (not (nat_eq start.root 0)) Top
    >> (or_break Gone (row_of p.now.rows start.root) >>= (λ root. added start p root.home name vs es ts)))

-- ---- replacements

abbrev pub may_replace : List Row → Row → List Val → Outcome (Unit {0})
may_replace rows r vs =
    need (are_live rows vs) Gone
    >> (need (nat_eq (length vs) (length r.results)) Count
    >> (need (have_types rows vs r.results) Types >> need (not (nat_eq r.id 0)) Top))
