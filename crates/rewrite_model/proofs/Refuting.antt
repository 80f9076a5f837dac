-- A quick test by which a pattern doesn't match at an operation: its one candidate for an assignment is missing, or fails
-- a demand for a name or for one use. For worked examples.
use Rattle.std.proofs.Common.{◌≡◌, ℕ, Bool, true, false, ◌&&◌, List, [], ◌∷◌, Option, Some, None, option_map, refl, sym, ap, ◌∙◌, eq-eqb}
use Rattle.std.specs.Prelude.{◌==◌, bytes_eq}
use Rattle.std.specs.List.{AllByRecursion}
use Rattle.std.specs.Option.{option_map_or}
use Rattle.std.proofs.lemmas.Slice.Eq.{bytes_eq-Decides}
use Rattle.mlir_tree.specs.declared.row.Row.{Row}
use Rattle.native_set.specs.declared.native.Constraint.{Constraint}
use Rattle.native_set.specs.declared.native.Constraint.TheVariants.{HasOneUse}
use Rattle.rewrite_model.specs.Pattern.{Demand, is_attr, is_type, has_name, has_parts, has_type, stands, calls, Pattern}
use Rattle.rewrite_model.specs.Determined.{IsDetermined}
use Rattle.rewrite_model.specs.Things.{Thing, a_value, each, denoted}
use Rattle.rewrite_model.specs.Holding.{row_given, uses, NativeHolds, Holds}
use Rattle.rewrite_model.specs.Matching.{Matches}
use Rattle.rewrite_model.proofs.Told.{some_or}
use Rattle.rewrite_model.proofs.Unique.{candidate, is_candidate}

abbrev one_use : List Row → Option (List Thing) → Bool
one_use rows (Some (a_value v ∷ [])) = uses rows v == 1
one_use rows ts = true

abbrev native_passes : List Row → Constraint → Option (List Thing) → Bool
native_passes rows HasOneUse ts = one_use rows ts
native_passes rows c ts = true

abbrev passes : List Row → List Thing → Demand → Bool
passes rows a (has_name x n) = option_map_or (λ r. bytes_eq r.name n) (row_given rows a x) false
passes rows a (has_parts x o) = true
passes rows a (is_attr x v) = true
passes rows a (is_type x v) = true
passes rows a (has_type x e) = true
passes rows a (stands e) = true
passes rows a (calls c es) = native_passes rows c (each (denoted rows a) es)

abbrev all_pass : List Row → List Thing → List Demand → Bool
all_pass rows a [] = true
all_pass rows a (d ∷ ds) = passes rows a d && all_pass rows a ds

abbrev pub may_match : List Row → List Demand → Option (List Thing) → Bool
may_match rows ds None = false
may_match rows ds (Some a) = all_pass rows a ds

named : (n : List ℕ) (o : Option Row) → option_map (λ r. r.name) o ≡ Some n → option_map_or (λ r. bytes_eq r.name n) o false ≡ true
named n None e = absurd (cc)
named n (Some r) e = (bytes_eq-Decides r.name n).1 (ap (some_or n) e)

used_once : (rows : List Row) (ts : List Thing) → NativeHolds rows HasOneUse ts → one_use rows (Some ts) ≡ true
used_once rows (a_value v ∷ []) h = eq-eqb (uses rows v) 1 h
used_once rows ts h = refl

native_passing : (rows : List Row) (c : Constraint) (ts : List Thing) → NativeHolds rows c ts → native_passes rows c (Some ts) ≡ true
native_passing rows HasOneUse ts h = used_once rows ts h
native_passing rows c ts h = refl

passing : (rows : List Row) (a : List Thing) (d : Demand) → Holds rows a d → passes rows a d ≡ true
passing rows a (has_name x n) h = named n (row_given rows a x) h
passing rows a (has_parts x o) h = refl
passing rows a (is_attr x v) h = refl
passing rows a (is_type x v) h = refl
passing rows a (has_type x e) h = refl
passing rows a (stands e) h = refl
passing rows a (calls c es) h = ap (native_passes rows c) h.1 ∙ native_passing rows c h.0 h.2

all_passing : (rows : List Row) (a : List Thing) (ds : List Demand) → AllByRecursion (Holds rows a) ds → all_pass rows a ds ≡ true
all_passing rows a [] h = refl
all_passing rows a (d ∷ ds) h = λ i. passing rows a d h.0 i && all_passing rows a ds h.1 i

pub no_match : (rows : List Row) (p : Pattern) (d : IsDetermined p) (id : ℕ) → may_match rows p.demands (candidate rows p d id) ≡ false → Matches rows p id → ⊥
no_match rows p d id out m =
    let so : may_match rows p.demands (candidate rows p d id) ≡ true = ap (may_match rows p.demands) (is_candidate rows p d id m.0 m.1) ∙ all_passing rows m.0 p.demands m.1.holds in
    let no_way : true ≡ false = sym so ∙ out in cc
