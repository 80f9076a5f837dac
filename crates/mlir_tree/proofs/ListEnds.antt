-- Where one of two lists ends, their order is that of their lengths.
use Rattle.std.proofs.Common.{◌≡◌, ℕ, zero, suc, ◌≤◌, ◌⊎◌, inl, inr, List, [], ◌∷◌, length, drop, refl, ◌∙◌, arith}
use Rattle.std.specs.Ordering.{nat_cmp}
use Rattle.mlir_tree.specs.Tree.{Ty, tys, Attr, attrs, entries}
use Rattle.mlir_tree.specs.Order.{tys_cmp, attrs_cmp, entries_cmp, texts_cmp}
use Rattle.mlir_tree.specs.Codes.{suc_cmp, cmp_zero, zero_cmp}

pub tys_end : (a b : List Ty) (at : ℕ) → at ≤ length a → at ≤ length b → (length a ≤ at) ⊎ (length b ≤ at) → nat_cmp (length a) (length b) ≡ tys_cmp (tys (drop at a)) (tys (drop at b))
tys_end [] [] zero p q r = refl
tys_end [] (y ∷ b) zero p q r = zero_cmp (length b)
tys_end (x ∷ a) [] zero p q r = cmp_zero (length a)
tys_end (x ∷ a) (y ∷ b) zero p q (inl r) = absurd (omega arith)
tys_end (x ∷ a) (y ∷ b) zero p q (inr r) = absurd (omega arith)
tys_end [] b (suc at) p q r = absurd (omega arith)
tys_end (x ∷ a) [] (suc at) p q r = absurd (omega arith)
tys_end (x ∷ a) (y ∷ b) (suc at) p q (inl r) = suc_cmp (length a) (length b) ∙ tys_end a b at (omega arith) (omega arith) (inl (omega arith))
tys_end (x ∷ a) (y ∷ b) (suc at) p q (inr r) = suc_cmp (length a) (length b) ∙ tys_end a b at (omega arith) (omega arith) (inr (omega arith))

pub attrs_end : (a b : List Attr) (at : ℕ) → at ≤ length a → at ≤ length b → (length a ≤ at) ⊎ (length b ≤ at) → nat_cmp (length a) (length b) ≡ attrs_cmp (attrs (drop at a)) (attrs (drop at b))
attrs_end [] [] zero p q r = refl
attrs_end [] (y ∷ b) zero p q r = zero_cmp (length b)
attrs_end (x ∷ a) [] zero p q r = cmp_zero (length a)
attrs_end (x ∷ a) (y ∷ b) zero p q (inl r) = absurd (omega arith)
attrs_end (x ∷ a) (y ∷ b) zero p q (inr r) = absurd (omega arith)
attrs_end [] b (suc at) p q r = absurd (omega arith)
attrs_end (x ∷ a) [] (suc at) p q r = absurd (omega arith)
attrs_end (x ∷ a) (y ∷ b) (suc at) p q (inl r) = suc_cmp (length a) (length b) ∙ attrs_end a b at (omega arith) (omega arith) (inl (omega arith))
attrs_end (x ∷ a) (y ∷ b) (suc at) p q (inr r) = suc_cmp (length a) (length b) ∙ attrs_end a b at (omega arith) (omega arith) (inr (omega arith))

pub entries_end : (a b : List (List ℕ × Attr)) (at : ℕ) → at ≤ length a → at ≤ length b → (length a ≤ at) ⊎ (length b ≤ at) → nat_cmp (length a) (length b) ≡ entries_cmp (entries (drop at a)) (entries (drop at b))
entries_end [] [] zero p q r = refl
entries_end [] (y ∷ b) zero p q r = zero_cmp (length b)
entries_end (x ∷ a) [] zero p q r = cmp_zero (length a)
entries_end (x ∷ a) (y ∷ b) zero p q (inl r) = absurd (omega arith)
entries_end (x ∷ a) (y ∷ b) zero p q (inr r) = absurd (omega arith)
entries_end [] b (suc at) p q r = absurd (omega arith)
entries_end (x ∷ a) [] (suc at) p q r = absurd (omega arith)
entries_end (x ∷ a) (y ∷ b) (suc at) p q (inl r) = suc_cmp (length a) (length b) ∙ entries_end a b at (omega arith) (omega arith) (inl (omega arith))
entries_end (x ∷ a) (y ∷ b) (suc at) p q (inr r) = suc_cmp (length a) (length b) ∙ entries_end a b at (omega arith) (omega arith) (inr (omega arith))

pub texts_end : (a b : List (List ℕ)) (at : ℕ) → at ≤ length a → at ≤ length b → (length a ≤ at) ⊎ (length b ≤ at) → nat_cmp (length a) (length b) ≡ texts_cmp (drop at a) (drop at b)
texts_end [] [] zero p q r = refl
texts_end [] (y ∷ b) zero p q r = zero_cmp (length b)
texts_end (x ∷ a) [] zero p q r = cmp_zero (length a)
texts_end (x ∷ a) (y ∷ b) zero p q (inl r) = absurd (omega arith)
texts_end (x ∷ a) (y ∷ b) zero p q (inr r) = absurd (omega arith)
texts_end [] b (suc at) p q r = absurd (omega arith)
texts_end (x ∷ a) [] (suc at) p q r = absurd (omega arith)
texts_end (x ∷ a) (y ∷ b) (suc at) p q (inl r) = suc_cmp (length a) (length b) ∙ texts_end a b at (omega arith) (omega arith) (inl (omega arith))
texts_end (x ∷ a) (y ∷ b) (suc at) p q (inr r) = suc_cmp (length a) (length b) ∙ texts_end a b at (omega arith) (omega arith) (inr (omega arith))
