-- Where one of two lists ends, they are the same exactly where the lengths are.
use Rattle.std.proofs.Common.{◌≡◌, ℕ, zero, suc, ◌≤◌, ◌⊎◌, inl, inr, Bool, true, false, List, [], ◌∷◌, length, drop, nat_eq, refl, sym as back, ◌∙◌, arith}
use Rattle.std.proofs.lemmas.Bool.Decides.{nat_tests}
use Rattle.pdll_syntax.specs.ExprTree.{exprs, entries, refs}
use Rattle.pdll_syntax.specs.StmtTree.{stmts}
use Rattle.pdll_syntax.specs.Equal.{exprs_eq, entries_eq, refs_eq, stmts_eq, list_eq}

suc_eq : (x y : ℕ) → nat_eq (suc x) (suc y) ≡ nat_eq x y
suc_eq x y = grind (arith, nat_tests)

zero_eq : (y : ℕ) → nat_eq 0 (suc y) ≡ false
zero_eq y = grind (arith, nat_tests)

eq_zero : (y : ℕ) → nat_eq (suc y) 0 ≡ false
eq_zero y = grind (arith, nat_tests)

-- a test of two lists that tells a list from a longer one
module _ {A : Type 0} (test : List A → List A → Bool) (none : test [] [] ≡ true) (less : (y : A) (b : List A) → test [] (y ∷ b) ≡ false) (more : (x : A) (a : List A) → test (x ∷ a) [] ≡ false) where
  pub list_end : (a b : List A) (at : ℕ) → at ≤ length a → at ≤ length b → (length a ≤ at) ⊎ (length b ≤ at) → nat_eq (length a) (length b) ≡ test (drop at a) (drop at b)
  list_end [] [] zero p q r = back none
  list_end [] (y ∷ b) zero p q r = zero_eq (length b) ∙ back (less y b)
  list_end (x ∷ a) [] zero p q r = eq_zero (length a) ∙ back (more x a)
  list_end (x ∷ a) (y ∷ b) zero p q (inl r) = absurd (omega arith)
  list_end (x ∷ a) (y ∷ b) zero p q (inr r) = absurd (omega arith)
  list_end [] b (suc at) p q r = absurd (omega arith)
  list_end (x ∷ a) [] (suc at) p q r = absurd (omega arith)
  list_end (x ∷ a) (y ∷ b) (suc at) p q (inl r) = suc_eq (length a) (length b) ∙ list_end a b at (omega arith) (omega arith) (inl (omega arith))
  list_end (x ∷ a) (y ∷ b) (suc at) p q (inr r) = suc_eq (length a) (length b) ∙ list_end a b at (omega arith) (omega arith) (inr (omega arith))

pub exprs_end : (a b : List _) (at : ℕ) → at ≤ length a → at ≤ length b → (length a ≤ at) ⊎ (length b ≤ at) → nat_eq (length a) (length b) ≡ exprs_eq (exprs (drop at a)) (exprs (drop at b))
exprs_end = list_end (λ a b. exprs_eq (exprs a) (exprs b)) refl (λ y b. refl) (λ x a. refl)

pub entries_end : (a b : List _) (at : ℕ) → at ≤ length a → at ≤ length b → (length a ≤ at) ⊎ (length b ≤ at) → nat_eq (length a) (length b) ≡ entries_eq (entries (drop at a)) (entries (drop at b))
entries_end = list_end (λ a b. entries_eq (entries a) (entries b)) refl (λ y b. refl) (λ x a. refl)

pub refs_end : (a b : List _) (at : ℕ) → at ≤ length a → at ≤ length b → (length a ≤ at) ⊎ (length b ≤ at) → nat_eq (length a) (length b) ≡ refs_eq (refs (drop at a)) (refs (drop at b))
refs_end = list_end (λ a b. refs_eq (refs a) (refs b)) refl (λ y b. refl) (λ x a. refl)

pub stmts_end : (a b : List _) (at : ℕ) → at ≤ length a → at ≤ length b → (length a ≤ at) ⊎ (length b ≤ at) → nat_eq (length a) (length b) ≡ stmts_eq (stmts (drop at a)) (stmts (drop at b))
stmts_end = list_end (λ a b. stmts_eq (stmts a) (stmts b)) refl (λ y b. refl) (λ x a. refl)

pub same_end : {A : Type 0} (test : A → A → Bool) (a b : List A) (at : ℕ) → at ≤ length a → at ≤ length b → (length a ≤ at) ⊎ (length b ≤ at) → nat_eq (length a) (length b) ≡ list_eq test (drop at a) (drop at b)
same_end test = list_end (list_eq test) refl (λ y b. refl) (λ x a. refl)
