-- Runs of bytes.
use Rattle.std.proofs.Common.{◌≡◌, ℕ, ◌+◌, ◌≤◌, Bool, true, false, cond, List, [], ◌∷◌, ◌++◌, length, take, drop, refl, ap, sym, subst, ◌∙◌, arith, one-add, take-append-drop, length-take-le, length-drop}
use Rattle.std.specs.Prelude.{slice_range}
use Rattle.std.specs.List.{prefix_len}
use Rattle.byte_lanes.specs.Bytes.{AllAre}
use Rattle.byte_lanes.specs.Runs.{IsRun}

-- a run is at the front of any text that begins with it
pub prefix_len-front : (p : ℕ → Bool) (xs ys : List ℕ) → AllAre p xs → prefix_len p (xs ++ ys) ≡ length xs + prefix_len p ys
prefix_len-front p [] ys h = omega arith
prefix_len-front p (x ∷ xs) ys h = rw h.0 (let e : prefix_len p (xs ++ ys) ≡ length xs + prefix_len p ys = prefix_len-front p xs ys h.1 in omega arith)

AllAre-step : (p : ℕ → Bool) (x : ℕ) (xs : List ℕ) (b : Bool) → p x ≡ b → AllAre p (take (prefix_len p xs) xs) → AllAre p (take (cond b (1 + prefix_len p xs) 0) (x ∷ xs))
AllAre-step p x xs true h all = rw one-add (h, all)
AllAre-step p x xs false h all = tt

-- the run at the front passes
pub AllAre-run : (p : ℕ → Bool) (xs : List ℕ) → AllAre p (take (prefix_len p xs) xs)
AllAre-run p [] = tt
AllAre-run p (x ∷ xs) = AllAre-step p x xs (p x) refl (AllAre-run p xs)

behind_step : (p : ℕ → Bool) (x : ℕ) (xs : List ℕ) (b : Bool) → p x ≡ b → prefix_len p (drop (prefix_len p xs) xs) ≡ 0 → prefix_len p (drop (cond b (1 + prefix_len p xs) 0) (x ∷ xs)) ≡ 0
behind_step p x xs true h e = rw one-add e
behind_step p x xs false h e = rw h refl

-- behind the run at the front there is none
pub prefix_len-behind : (p : ℕ → Bool) (xs : List ℕ) → prefix_len p (drop (prefix_len p xs) xs) ≡ 0
prefix_len-behind p [] = refl
prefix_len-behind p (x ∷ xs) = behind_step p x xs (p x) refl (prefix_len-behind p xs)

-- what passes at the front is no more than the run
front_most : (p : ℕ → Bool) (xs : List ℕ) (m : ℕ) → m ≤ length xs → AllAre p (take m xs) → m ≤ prefix_len p xs
front_most p xs m within all =
    let e = ap (prefix_len p) (sym (take-append-drop m xs)) ∙ prefix_len-front p (take m xs) (drop m xs) all in
    omega (arith, e, length-take-le m xs within)

slice_front : (bytes : List ℕ) (from m : ℕ) → slice_range bytes from (from + m) ≡ take m (drop from bytes)
slice_front bytes from m = ap (λ n. take n (drop from bytes)) (omega arith)

-- the run at a place is the greatest number of bytes that pass
pub run_is : (p : ℕ → Bool) (bytes : List ℕ) (from n : ℕ) → from + n ≤ length bytes → n ≡ prefix_len p (drop from bytes) → IsRun p bytes from n
run_is p bytes from n within is =
    record {
      within = within;
      passes = subst (AllAre p) (sym (slice_front bytes from n)) (subst (λ k. AllAre p (take k (drop from bytes))) (sym is) (AllAre-run p (drop from bytes)));
      greatest = λ m fits all.
          let most = front_most p (drop from bytes) m (omega (arith, length-drop from bytes)) (subst (AllAre p) (slice_front bytes from m) all) in
          omega arith;
    }
