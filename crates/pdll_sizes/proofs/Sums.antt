-- Capped sizes put together.
use Rattle.std.proofs.Common.{◌≡◌, ℕ, suc, zero, ◌+◌, ◌<◌, ◌≤◌, List, [], ◌∷◌, length, get_or, take, ap, sym, ◌∙◌, arith, add-one}
use Rattle.std.proofs.Math.Seq.{take-length}
use Rattle.rewrite_model.specs.Size.{◌and◌, nothing}
use Rattle.rewrite_model.specs.Size.{Size as Count}
use Rattle.pdll_sizes.specs.Capped.{capped, capped_size, sum}
use Rattle.pdll_sizes.specs.Members.{total}
use Rattle.pdll_sizes.specs.declared.size.Size.{Size}

-- it doesn't matter where it is capped
pub capped_sum : (a b : ℕ) → capped (capped a + capped b) ≡ capped (a + b)
unfolding capped
capped_sum a b = omega arith

pub sum_capped : (x y : Count) → sum (capped_size x) (capped_size y) ≡ capped_size (x and y)
unfolding sum capped_size
sum_capped x y = λ i. record {
  statements = capped_sum x.statements y.statements i;
  operations = capped_sum x.operations y.operations i;
  expressions = capped_sum x.expressions y.expressions i;
}

pub and_nothing : (x : Count) → x and nothing ≡ nothing and x
and_nothing x = λ i. record {
  statements = let h : x.statements + 0 ≡ 0 + x.statements = omega arith in h i;
  operations = let h : x.operations + 0 ≡ 0 + x.operations = omega arith in h i;
  expressions = let h : x.expressions + 0 ≡ 0 + x.expressions = omega arith in h i;
}

pub and_assoc : (x y z : Count) → x and (y and z) ≡ (x and y) and z
and_assoc x y z = λ i. record {
  statements = let h : x.statements + (y.statements + z.statements) ≡ (x.statements + y.statements) + z.statements = omega arith in h i;
  operations = let h : x.operations + (y.operations + z.operations) ≡ (x.operations + y.operations) + z.operations = omega arith in h i;
  expressions = let h : x.expressions + (y.expressions + z.expressions) ≡ (x.expressions + y.expressions) + z.expressions = omega arith in h i;
}

total_suc : {A : Type 0} (f : A → Count) (xs : List A) (i : ℕ) (x : A) → i < length xs → x ≡ get_or xs i x → total f (take (suc i) xs) ≡ total f (take i xs) and f x
total_suc f [] i x h is = absurd (omega arith)
total_suc f (y ∷ xs) zero x h is = and_nothing (f y) ∙ ap (λ z. nothing and f z) (sym is)
total_suc f (y ∷ xs) (suc i) x h is = ap (λ t. f y and t) (total_suc f xs i x (omega arith) is) ∙ and_assoc (f y) (total f (take i xs)) (f x)

-- one more item
pub total_more : {A : Type 0} (f : A → Count) (xs : List A) (i : ℕ) (x : A) (s t r : Size) → i < length xs → x ≡ get_or xs i x
    → s ≡ capped_size (total f (take i xs)) → t ≡ capped_size (f x) → r ≡ sum s t → r ≡ capped_size (total f (take (i + 1) xs))
total_more f xs i x s t r h is p q u =
    u ∙ (ap (λ z. sum z t) p ∙ (ap (sum (capped_size (total f (take i xs)))) q
    ∙ (sum_capped (total f (take i xs)) (f x)
    ∙ (ap capped_size (sym (total_suc f xs i x h is)) ∙ ap (λ n. capped_size (total f (take n xs))) (sym (add-one i))))))

-- all items
pub total_all : {A : Type 0} (f : A → Count) (xs : List A) (i : ℕ) (s : Size) (u : Count) → length xs ≤ i → i ≤ length xs
    → s ≡ capped_size (total f (take i xs)) → total f xs ≡ u → s ≡ capped_size u
total_all f xs i s u above below p q =
    let end : i ≡ length xs = omega arith in
    p ∙ (ap (λ n. capped_size (total f (take n xs))) end ∙ (ap (λ l. capped_size (total f l)) (take-length xs) ∙ ap capped_size q))
