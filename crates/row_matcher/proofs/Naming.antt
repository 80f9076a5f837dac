-- Where the root hasn't the name that is asked of it, the demands don't hold.
use Rattle.std.proofs.Common.{◌≡◌, ◌<◌, ℕ, zero, suc, false, List, [], ◌∷◌, map, length, slice_get, slice_index_or, Option, Some, sym, ap, subst, ◌∙◌, arith}
use Rattle.std.specs.Prelude.{option_and_then, IsTrue}
use Rattle.std.specs.List.{AllByRecursion}
use Rattle.mlir_tree.specs.declared.row.Row.{Row}
use Rattle.native_set.specs.declared.native.Kind.{Kind}
use Rattle.rewrite_model.specs.Pattern.{Pattern}
use Rattle.rewrite_model.specs.Things.{Thing, an_op, row_at}
use Rattle.rewrite_model.specs.Holding.{row_given, Holds}
use Rattle.rewrite_model.specs.Matching.{Matches}
use Rattle.mlir_tree.specs.Module.{row_of}
use Rattle.pdll_expand.specs.declared.demand.Demand.{Demand as DemandNode}
use Rattle.pdll_expand.specs.View.{demand_of}
use Rattle.row_matcher.specs.Asked.{Asks}

-- one of what holds for all
pub one_of_all : {A B : Type 0} (f : A → B) (P : B → Type 0) (xs : List A) (k : ℕ) (d : A) → k < length xs → AllByRecursion P (map f xs) → P (f (slice_index_or xs k d))
one_of_all f P [] k d l h = absurd (omega (arith, l))
one_of_all f P (x ∷ xs) zero d l h = h.0
one_of_all f P (x ∷ xs) (suc k) d l h = one_of_all f P xs k d (omega (arith, l)) h.1

never : IsTrue false → ⊥
never h = absurd (cc h)

-- a match makes the root's row the one of the operation
pub no_match : (rows : List Row) (kinds : List Kind) (ds : List DemandNode) (root id : ℕ) (row : Option Row) → row ≡ row_of rows id
    → ((all : List Row) (a : List Thing) → row ≡ row_given all a root → AllByRecursion (Holds all a) (map demand_of ds) → IsTrue false)
    → (p : Pattern) → Asks kinds ds root p → Matches rows p id → ⊥
no_match rows kinds ds root id row e fails p asks m =
    let by = m.1 in
    let at : slice_get m.0 root ≡ Some (an_op id) = ap (slice_get m.0) (sym asks.root_is) ∙ by.root in
    let given : row ≡ row_given rows m.0 root = e ∙ sym (ap (option_and_then (row_at rows)) at) in
    never (fails rows m.0 given (subst (AllByRecursion (Holds rows m.0)) asks.demands_are by.holds))
