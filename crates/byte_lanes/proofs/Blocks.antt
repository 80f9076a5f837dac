-- Runs and line feeds, block by block.
use Rattle.std.proofs.Common.{◌≡◌, ℕ, zero, suc, ◌+◌, ◌<◌, ◌≤◌, Bool, true, false, not, cond, eqb, List, [], ◌∷◌, ◌++◌, length, drop, take, replicate, map, refl, sym, ap, ◌∙◌, arith, inl, inr, length-drop}
use Rattle.std.specs.Prelude.{min, ◌⊎◌}
use Rattle.std.specs.List.{prefix_len, count_by}
use Rattle.std.proofs.Math.Seq.{take-add}
use Rattle.std.proofs.lemmas.Bool.{cases_lt}
use Rattle.std.proofs.lemmas.Bool.Decides.{nat_tests}
use Rattle.std.proofs.lemmas.Simd.{first_set_mask_l}
use Rattle.std.proofs.lemmas.List.{length-take-le, take_all, take-append-drop, drop-drop}
use Rattle.std.proofs.lemmas.List.Folds.{prefix_len-append}
use Rattle.std.proofs.lemmas.List.Sums.{prefix_len-le-length, sum_by-append}
use Rattle.byte_lanes.specs.Bytes.{is_line_feed}
use lib.Lanes.{mask_l}
use lib.Count.{count_trailing_zeros}

twice_at : (b : Bool) {m n : ℕ} → m ≡ n → cond (not (not b)) (1 + m) 0 ≡ cond b (1 + n) 0
twice_at true e = ap (λ n. 1 + n) e
twice_at false e = refl

twice : (p : ℕ → Bool) (xs : List ℕ) → prefix_len (λ x. not (not (p x))) xs ≡ prefix_len p xs
twice p [] = refl
twice p (x ∷ xs) = twice_at (p x) (twice p xs)

-- the lowest bit of the mask of the lanes that are not of the class
pub first_out : (p : ℕ → Bool) (v : List ℕ) (m : ℕ) → length v ≡ 32 → m ≡ mask_l (map (λ x. not (p x)) v) → cond (eqb m 0) 32 (count_trailing_zeros 64 m) ≡ prefix_len p v
first_out p v m long is =
    ap (λ k. cond (eqb k 0) 32 (count_trailing_zeros 64 k)) is ∙ (first_set_mask_l (λ x. not (p x)) v 32 long (omega arith) ∙ twice p v)

-- the run within a block does not see what stands behind the text
pub padded_run : (p : ℕ → Bool) (xs zs : List ℕ) → min (prefix_len p (xs ++ zs)) (length xs) ≡ prefix_len p xs
padded_run p xs zs = let a = prefix_len-append p xs zs in let l = prefix_len-le-length p xs in grind (arith, nat_tests, a, l)

no_lines : (k : ℕ) → count_by is_line_feed (replicate k 0) ≡ 0
no_lines zero = refl
no_lines (suc k) = no_lines k

-- zeros are no line feeds
pub padded_lines : (xs : List ℕ) (k : ℕ) → count_by is_line_feed (xs ++ replicate k 0) ≡ count_by is_line_feed xs
padded_lines xs k =
    let e = no_lines k in let a = sum_by-append (λ x. cond (is_line_feed x) 1 0) xs (replicate k 0) in omega (arith, a, e)

-- the run of a text, by that of its first block
module _ (p : ℕ → Bool) (xs : List ℕ) (n r : ℕ) (is : r ≡ prefix_len p (take n xs)) where
  by_block : n ≤ length xs → prefix_len p xs ≡ cond (eqb r n) (n + prefix_len p (drop n xs)) r
  by_block room = ap (prefix_len p) (sym (take-append-drop n xs)) ∙ (prefix_len-append p (take n xs) (drop n xs)
      ∙ (λ k. cond (eqb (sym is k) (length-take-le n xs room k)) (length-take-le n xs room k + prefix_len p (drop n xs)) (sym is k)))

  pub block_whole : r ≡ n → n ≤ length xs → prefix_len p xs ≡ n + prefix_len p (drop n xs)
  block_whole e room = let at = by_block room in grind (arith, nat_tests, at)

  whole_block : n ≤ length xs → r < n → prefix_len p xs ≡ r
  whole_block room h = let at = by_block room in grind (arith, nat_tests, at)

  part_of : (length xs < n) ⊎ (n ≤ length xs) → r < n → prefix_len p xs ≡ r
  part_of (inr room) h = whole_block room h
  part_of (inl all) h = ap (prefix_len p) (sym (take_all n xs (omega arith))) ∙ sym is

  -- a block that is not all of the class ends the run
  pub block_part : r < n → prefix_len p xs ≡ r
  block_part h = part_of (cases_lt (length xs) n) h

-- the same of the text at a place
pub block_whole_at : (p : ℕ → Bool) (xs : List ℕ) (at n r : ℕ) → r ≡ prefix_len p (take n (drop at xs)) → r ≡ n → at + r ≤ length xs → prefix_len p (drop at xs) ≡ r + prefix_len p (drop (at + r) xs)
block_whole_at p xs at n r is e fits =
    rw (e, ← drop-drop n at xs) (block_whole p (drop at xs) n r is e (omega (arith, length-drop at xs)))

-- the line feeds of a text and of the block behind it
pub lines_step : (xs : List ℕ) (at n : ℕ) → count_by is_line_feed (take (at + n) xs) ≡ count_by is_line_feed (take at xs) + count_by is_line_feed (take n (drop at xs))
lines_step xs at n =
    ap (count_by is_line_feed) (take-add at n xs) ∙ sum_by-append (λ x. cond (is_line_feed x) 1 0) (take at xs) (take n (drop at xs))
