-- Other operands leave the layout of a module as it is.
use Rattle.std.proofs.Common.{◌≡◌, ℕ, ◌<◌, ◌^◌, List, [], ◌∷◌, map, length, Option, Some, None, option_map, refl, sym, ap, subst, ◌∙◌}
use Rattle.std.specs.Prelude.{IfSome, IsSome, nat_eq}
use Rattle.std.specs.List.{list_any, IsDistinct}
use Rattle.std.proofs.lemmas.List.Elements.{All-map, All-weaker}
use Rattle.mlir_tree.specs.declared.row.Home.{Home}
use Rattle.mlir_tree.specs.declared.row.Row.{Row}
use Rattle.mlir_tree.specs.declared.rows.Rows.{Rows}
use Rattle.mlir_tree.specs.declared.value.Val.{Val}
use Rattle.mlir_tree.specs.Module.{row_of, home_eq, is_inside, is_contained}
use Rattle.mlir_tree.specs.WellFormed.{BeginsWithModule, IsEarlierRegion, AreNested, HasDictionaries, HasSizes}
use Rattle.mlir_tree.specs.Edits.{substitute, substituted_row, substituted}
use Rattle.mlir_tree.proofs.Substitution.{row_of-substituted, is_earlier-substituted, enclosing-substituted}
use Rattle.rewrite_model.specs.Laws.{IsLaidOut}
use Rattle.rewrite_model.proofs.Told.{same_length}

pub with_home : (o : Option Home) (P Q : Home → Type 0) → ((h : Home) → P h → Q h) → IfSome o P → IfSome o Q
with_home None P Q f h = h
with_home (Some x) P Q f h = f x h

module _ (from to : List Val) where
  abbrev all : List Row → List Row
  all rows = map (substituted_row from to) rows

  same_numbers : (rows : List Row) → map (λ r. r.id) (all rows) ≡ map (λ r. r.id) rows
  same_numbers [] = refl
  same_numbers (r ∷ rows) = ap (λ ns. r.id ∷ ns) (same_numbers rows)

  begins : (rows : List Row) → BeginsWithModule rows → BeginsWithModule (all rows)
  begins [] h = h
  begins (r ∷ rows) h = (
    record {
      number = h.0.number;
      no_home = h.0.no_home;
      name = h.0.name;
      one_region = h.0.one_region;
      no_operands = ap (map (substitute from to)) h.0.no_operands;
      no_results = h.0.no_results;
    },
    All-map (λ r. IsSome r.home) (substituted_row from to) rows h.1,
  )

  in_range : (h : Home) (o : Option Row) → IfSome o (λ r. h.region < length r.regions) → IfSome (option_map (substituted_row from to) o) (λ r. h.region < length r.regions)
  in_range h None i = i
  in_range h (Some r) i = i

  earlier_region : (rows : List Row) (u : ℕ) (h : Home) → IsEarlierRegion rows u h → IsEarlierRegion (all rows) u h
  earlier_region rows u h e = (
    is_earlier-substituted from to rows h.row u ∙ e.0,
    subst (λ o. IfSome o (λ r. h.region < length r.regions)) (sym (row_of-substituted from to rows h.row)) (in_range h (row_of rows h.row) e.1),
  )

  same_inside : (rows : List Row) (u : ℕ) (h : Home) → is_inside (all rows) u h ≡ is_inside rows u h
  same_inside rows u h = ap (list_any (home_eq h)) (enclosing-substituted from to rows u)

  same_contained : (rows : List Row) (u d : ℕ) → is_contained (all rows) u d ≡ is_contained rows u d
  same_contained rows u d = ap (list_any (λ (h : Home). nat_eq h.row d)) (enclosing-substituted from to rows u)

  nested : (rows : List Row) → AreNested rows → AreNested (all rows)
  nested rows n = record {
    homes = All-map (λ r. IfSome r.home (IsEarlierRegion (all rows) r.id)) (substituted_row from to) rows
        (All-weaker (λ r. IfSome r.home (IsEarlierRegion rows r.id)) (λ r. IfSome r.home (IsEarlierRegion (all rows) r.id))
        (λ r h. with_home r.home (IsEarlierRegion rows r.id) (IsEarlierRegion (all rows) r.id) (earlier_region rows r.id) h) rows n.homes);
    together = λ d between u p q c.
        same_contained rows between d ∙ n.together d between u (sym (is_earlier-substituted from to rows d between) ∙ p) (sym (is_earlier-substituted from to rows between u) ∙ q) (sym (same_contained rows u d) ∙ c);
    by_region = λ d g k u v p q e.
        n.by_region d g k u v (sym (same_inside rows u (record { row = d; region = g })) ∙ p) (sym (same_inside rows v (record { row = d; region = k })) ∙ q) (sym (is_earlier-substituted from to rows u v) ∙ e);
  }

  sizes : (r : Row) → HasSizes r → HasSizes (substituted_row from to r)
  sizes r s = record {
    operands = subst (λ n. n < 2 ^ 16) (sym (same_length (substitute from to) r.operands)) s.operands;
    results = s.results;
    regions = s.regions;
    arguments = s.arguments;
  }

  dictionaries : (r : Row) → HasDictionaries r → HasDictionaries (substituted_row from to r)
  dictionaries r s = record { properties = s.properties; attributes = s.attributes; apart = s.apart }

  pub substituted_layout : (m : Rows) → IsLaidOut m → IsLaidOut (substituted from to m)
  unfolding substituted
  substituted_layout m l = record {
    numbers = record {
      differ = subst (IsDistinct nat_eq) (sym (same_numbers m.rows)) l.numbers.differ;
      below_next = All-map (λ r. r.id < m.next) (substituted_row from to) m.rows l.numbers.below_next;
      begins = begins m.rows l.numbers.begins;
    };
    nesting = nested m.rows l.nesting;
    dictionaries = All-map HasDictionaries (substituted_row from to) m.rows (All-weaker HasDictionaries (λ r. HasDictionaries (substituted_row from to r)) dictionaries m.rows l.dictionaries);
    sizes = All-map HasSizes (substituted_row from to) m.rows (All-weaker HasSizes (λ r. HasSizes (substituted_row from to r)) sizes m.rows l.sizes);
  }
