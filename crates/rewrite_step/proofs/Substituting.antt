-- Rows that stay as they are where values are put in.
use Rattle.std.proofs.Common.{◌≡◌, ℕ, false, List, [], ◌∷◌, get_or, map, Option, Some, None, refl, sym, ap, ◌∙◌}
use Rattle.std.specs.Prelude.{position, slice_get, slice_set, slice_index_or}
use Rattle.std.specs.Option.{is_some, option_map_or}
use Rattle.std.proofs.lemmas.Bool.{true≢false, or_parts}
use Rattle.std.proofs.lemmas.List.{set-get_or}
use Rattle.std.proofs.lemmas.Option.{get_or_from_slice_get}
use Rattle.mlir_tree.specs.declared.row.Row.{Row}
use Rattle.mlir_tree.specs.declared.value.Val.{Val}
use Rattle.mlir_tree.specs.Edits.{val_eq, substitute, substituted_row}
use Rattle.rewrite_step.specs.Substituting.{is_replaced, uses_any}

same_value : (from to : List Val) (v : Val) → is_replaced from v ≡ false → substitute from to v ≡ v
same_value from to v none = by (position (val_eq v) from) none
  where
    by : (at : Option ℕ) → is_some at ≡ false → option_map_or (λ k. slice_index_or to k v) at v ≡ v
    by None none = refl
    by (Some k) none = absurd (true≢false none)

same_values : (from to vs : List Val) → uses_any from vs ≡ false → map (substitute from to) vs ≡ vs
same_values from to [] none = refl
same_values from to (v ∷ vs) none =
    let parts = or_parts (is_replaced from v) (uses_any from vs) none in
    λ i. same_value from to v parts.0 i ∷ same_values from to vs parts.1 i

same_row : (from to : List Val) (r : Row) → uses_any from r.operands ≡ false → substituted_row from to r ≡ r
same_row from to r none = ap (λ vs. record r { operands = vs }) (same_values from to r.operands none)

-- the item that is read is the one that stands there
pub read_there : {X : Type 0} (xs now : List X) (i : ℕ) (x r : X) → now ≡ xs → x ≡ get_or now i x → slice_get xs i ≡ Some r → x ≡ r
read_there xs now i x r are is here = is ∙ (ap (λ l. get_or l i x) are ∙ get_or_from_slice_get xs i r x here)

pub nothing_set : (from to : List Val) (rows : List Row) (i : ℕ) (r : Row) → slice_get rows i ≡ Some r → uses_any from r.operands ≡ false → rows ≡ slice_set rows i (substituted_row from to r)
nothing_set from to rows i r here none =
    sym (ap (slice_set rows i) (same_row from to r none ∙ sym (get_or_from_slice_get rows i r r here)) ∙ set-get_or rows i r)
