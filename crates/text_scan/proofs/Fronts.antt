-- Fronts of a text, and parts between places.
use Rattle.std.proofs.Common.{◌≡◌, ℕ, ◌+◌, ◌-◌, ◌≤◌, List, ◌++◌, length, take, drop, refl, ap, sym, subst, ◌∙◌, arith, length-drop, length-take, length-append}
use Rattle.std.specs.Prelude.{slice_range}
use Rattle.std.proofs.lemmas.List.{take-append-drop, take_at}
use Rattle.std.proofs.lemmas.List.Folds.{drop_split}
use Rattle.text_scan.specs.Longest.{IsLongest}

-- the longest front of the text behind a place is the longest part from there
pub longest_from : (Form : List ℕ → Type 0) (bytes : List ℕ) (at n : ℕ) → at ≤ length bytes → n ≤ length (drop at bytes) → Form (take n (drop at bytes)) → ((front rest : List ℕ) → drop at bytes ≡ front ++ rest → Form front → length front ≤ n) → IsLongest Form bytes at (at + n)
longest_from Form bytes at n within fits form covers = record {
  in_order = omega arith;
  within = omega (arith, length-drop at bytes);
  form = subst (λ k. Form (take k (drop at bytes))) (let e : n ≡ (at + n) - at = omega arith in e) form;
  longest = λ other inside other_form.
      let front = take (other - at) (drop at bytes) in
      let rest = drop (other - at) (drop at bytes) in
      let short = covers front rest (sym (take-append-drop (other - at) (drop at bytes))) other_form in
      omega (arith, short, length-take (other - at) (drop at bytes), length-drop at bytes);
}

-- a front of the text behind a place is the part from there
pub front_part : (bytes : List ℕ) (at : ℕ) (front rest : List ℕ) → at ≤ length bytes → drop at bytes ≡ front ++ rest → (slice_range bytes at (at + length front) ≡ front) × (at + length front ≤ length bytes)
front_part bytes at front rest within e = (
  ap (λ k. take k (drop at bytes)) (let n : (at + length front) - at ≡ length front = omega arith in n) ∙ ap (take (length front)) e ∙ take_at front rest (length front) refl,
  omega (arith, length-drop at bytes, ap length e, length-append front rest),
)

-- a part from a place is a front of the text behind it
pub part_front : (bytes : List ℕ) (at end : ℕ) → at ≤ end → end ≤ length bytes → (drop at bytes ≡ slice_range bytes at end ++ drop end bytes) × (at + length (slice_range bytes at end) ≡ end)
part_front bytes at end order within = (drop_split bytes at end order, omega (arith, length-take (end - at) (drop at bytes), length-drop at bytes))
