use Rattle.std.proofs.Common.{◌≡◌, ℕ, zero, suc, ◌+◌, ◌∷◌, ◌++◌, [], ap, sym, ◌∙◌, add-one, arith}
use Rattle.std.specs.List.{range_with_len}
use Rattle.pdll_expand.proofs.own.numbers.Goals as goal

one_more : (a n m : ℕ) → m ≡ a + n → range_with_len a n ++ m ∷ [] ≡ range_with_len a (suc n)
one_more a zero m e = let f : m ≡ a = omega arith in ap (λ k. k ∷ []) f
one_more a (suc n) m e = let f : m ≡ a + 1 + n = omega arith in ap (λ ms. a ∷ ms) (one_more (a + 1) n m f)

pub loop-number-preserved : goal.loop-number-preserved
loop-number-preserved c =
    let n = c.loop-number.number in
    let e : n ≡ 0 + n = omega arith in
    c.in_ok-push.ensures.ok ∙ (ap (λ ns. ns ++ n ∷ []) c.loop-number.invariant ∙ (one_more 0 n n e ∙ ap (range_with_len 0) (sym (add-one n))))
