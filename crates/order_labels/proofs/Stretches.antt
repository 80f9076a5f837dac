-- Stretches of slots that grow.
use Rattle.std.proofs.Common.{◌≡◌, inl, inr, ℕ, suc, ◌+◌, ◌-◌, ◌<◌, ◌≤◌, sym, ap, ◌∙◌, arith}
use Rattle.std.proofs.lemmas.Bool.{cases_eq}
use Rattle.order_labels.specs.declared.links.Link.{Link}
use Rattle.order_labels.specs.Chain.{label_of, prev_of, next_of, IsOrder, IsPlaced, IsStretch, limit_of, top}
use Rattle.order_labels.proofs.Positions.{spot, go_next, positive, sides, rise, back, end, not_head, gap_behind, limit_head, limit_other}

module _ (links : ℕ → Link) (count : ℕ) (order : IsOrder links count) (at : ℕ) where
  pub first_stretch : (p : IsPlaced links count at) → IsStretch links count at (prev_of links at) 0 at
  first_stretch p =
      let e : suc p.place ≡ suc (p.place + 0) = omega arith in
      record {
        start = p.place;
        place = p.place;
        within = omega (arith, p.within);
        from = ap (prev_of links) p.here ∙ back links count order p.place p.within;
        to = p.here ∙ ap (spot links) e;
        here = p.here;
        low = omega arith;
        high = omega arith;
      }

  module _ (before len after : ℕ) (s : IsStretch links count at before len after) where
    some_start : (base : ℕ) → base < label_of links before → 0 < s.start
    some_start base l = positive s.start (λ e. omega (arith, l, order.head, ap (label_of links) (s.from ∙ ap (spot links) e)))

    before_is : (base : ℕ) → base < label_of links before → prev_of links before ≡ spot links (s.start - 1)
    before_is base l =
        let e : s.start ≡ suc (s.start - 1) = omega (arith, some_start base l) in
        ap (prev_of links) (s.from ∙ ap (spot links) e) ∙ back links count order (s.start - 1) (omega (arith, s.within))

    -- one slot more in front
    pub one_before : (base : ℕ) → base < label_of links before → IsStretch links count at (prev_of links before) (len + 1) after
    one_before base l =
        let some = some_start base l in
        let e : suc (s.start + len) ≡ suc (s.start - 1 + (len + 1)) = omega (arith, some) in
        record {
          start = s.start - 1;
          place = s.place;
          within = omega (arith, some, s.within);
          from = before_is base l;
          to = s.to ∙ ap (spot links) e;
          here = s.here;
          low = omega (arith, s.low);
          high = omega (arith, some, s.high);
        }

    pub falls_before : (base : ℕ) → base < label_of links before → label_of links (prev_of links before) < label_of links before
    falls_before base l =
        omega (arith, ap (label_of links) (before_is base l), ap (label_of links) s.from, rise links count order (s.start - 1) s.start (omega (arith, some_start base l)) (omega (arith, s.within)))

    some_after : (bound : ℕ) → limit_of links after < bound → bound ≤ top → suc (s.start + len) ≤ count
    some_after bound l m = elim (sides (suc (s.start + len)) count) [
      | inl k ↦ k
      | inr k ↦ let e : suc (s.start + len) ≡ suc count = omega (arith, k, s.within) in
          absurd (omega (arith, l, m, limit_head links after (s.to ∙ (ap (spot links) e ∙ end links count order))))
    ]

    next_is : next_of links after ≡ spot links (suc (suc (s.start + len)))
    next_is = ap (next_of links) s.to ∙ sym (go_next (next_of links) 0 (suc (s.start + len)))

    -- one slot more behind
    pub one_after : (bound : ℕ) → limit_of links after < bound → bound ≤ top → IsStretch links count at before (len + 1) (next_of links after)
    one_after bound l m =
        let e : suc (suc (s.start + len)) ≡ suc (s.start + (len + 1)) = omega arith in
        record {
          start = s.start;
          place = s.place;
          within = omega (arith, some_after bound l m);
          from = s.from;
          to = next_is ∙ ap (spot links) e;
          here = s.here;
          low = s.low;
          high = omega (arith, s.high);
        }

    pub rises_after : (bound : ℕ) → limit_of links after < bound → bound ≤ top → limit_of links after < limit_of links (next_of links after)
    rises_after bound l m =
        let some = some_after bound l m in
        omega (
          arith,
          ap (limit_of links) s.to,
          limit_other links (spot links (suc (s.start + len))) (not_head links count order (suc (s.start + len)) (omega arith) some),
          gap_behind links count order (suc (s.start + len)) some,
          ap (limit_of links) next_is,
        )

    pub after_limit : limit_of links after ≤ top
    after_limit = elim (cases_eq after 0) [
      | inl e ↦ omega (arith, limit_head links after e)
      | inr n ↦ omega (arith, limit_other links after n, order.under after)
    ]
