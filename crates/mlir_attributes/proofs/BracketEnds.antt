-- A balanced text in brackets ends within the text.
use Rattle.std.proofs.Common.{◌≡◌, ℕ, zero, suc, ◌+◌, ◌-◌, ◌<◌, ◌≤◌, Bool, true, false, cond, List, length, refl, ap, Result, Ok, Err, arith}
use Rattle.std.specs.Prelude.{◌==◌, nat_le, Option, Some, None, drop, slice_index}
use Rattle.std.specs.Option.{option_map_or}
use Rattle.std.proofs.lemmas.Bool.Decides.{nat_tests}
use Rattle.text_scan.specs.Strings.{string_end}
use Rattle.text_scan.proofs.StringLaws.{string_found}
use Rattle.mlir_lexer.specs.declared.body.BodyFault.{BodyFault}
use Rattle.mlir_lexer.specs.declared.body.BodyFault.TheVariants as bodies
use Rattle.mlir_attributes.specs.Steps.{balanced}

pub not_le : (m n : ℕ) → nat_le m n ≡ false → n < m
not_le m n h = grind (arith, nat_tests)

or_end : ℕ → Result ℕ BodyFault → ℕ
or_end n (Ok m) = m
or_end n (Err e) = n

module _ (bytes : List ℕ) (room : ℕ) where
  behind_string : (n at end depth : ℕ) → ((depth at : ℕ) → at ≤ length bytes → balanced n bytes room depth at ≡ Ok end → end ≤ length bytes) → at ≤ length bytes → (o : Option ℕ) → string_end at (drop at bytes) ≡ o
      → option_map_or (λ e. balanced n bytes room depth e) o (Err (bodies.BadString at)) ≡ Ok end → end ≤ length bytes
  behind_string n at end depth go inside (Some e) is h = go depth e (string_found bytes at e inside is).within h
  behind_string n at end depth go inside None is h = absurd (cc)

  balanced_by : (n at end depth : ℕ) → ((depth at : ℕ) → at ≤ length bytes → balanced n bytes room depth at ≡ Ok end → end ≤ length bytes) → at ≤ length bytes
      → (a b c d e f : Bool) → nat_le (length bytes) at ≡ a
      → cond {A = Result ℕ BodyFault} a (Err (bodies.Unclosed (length bytes))) (cond b (option_map_or (λ e. balanced n bytes room depth e) (string_end at (drop at bytes)) (Err (bodies.BadString at)))
      (cond c (cond d (Err (bodies.TooDeep at)) (balanced n bytes room (depth + 1) (at + 1)))
      (cond e (cond f (Ok (at + 1)) (balanced n bytes room (depth - 1) (at + 1))) (balanced n bytes room depth (at + 1))))) ≡ Ok end → end ≤ length bytes
  unfolding or_end
  balanced_by n at end depth go inside true b c d e f is h = absurd (cc)
  balanced_by n at end depth go inside false true c d e f is h = behind_string n at end depth go inside (string_end at (drop at bytes)) refl h
  balanced_by n at end depth go inside false false true true e f is h = absurd (cc)
  balanced_by n at end depth go inside false false true false e f is h = go (depth + 1) (at + 1) (let below = not_le (length bytes) at is in omega (arith, below)) h
  balanced_by n at end depth go inside false false false d true true is h =
      let below = not_le (length bytes) at is in
      let same : at + 1 ≡ end = ap (or_end 0) h in
      omega (arith, below, same)
  balanced_by n at end depth go inside false false false d true false is h = go (depth - 1) (at + 1) (let below = not_le (length bytes) at is in omega (arith, below)) h
  balanced_by n at end depth go inside false false false d false f is h = go depth (at + 1) (let below = not_le (length bytes) at is in omega (arith, below)) h

  pub balanced_within : (n end depth at : ℕ) → at ≤ length bytes → balanced n bytes room depth at ≡ Ok end → end ≤ length bytes
  unfolding balanced
  balanced_within zero end depth at inside h = absurd (cc)
  balanced_within (suc n) end depth at inside h =
      balanced_by n at end depth (balanced_within n end) inside (nat_le (length bytes) at) (slice_index bytes at == 34) (slice_index bytes at == 40) (nat_le room depth) (slice_index bytes at == 41) (nat_le depth 1) refl h
