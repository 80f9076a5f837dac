-- Rows that are moved, the last first.
use Rattle.std.proofs.Common.{◌≡◌, ◌≤◌, ◌<◌, ◌++◌, ℕ, ◌+◌, ◌-◌, List, [], ◌∷◌, length, take, drop, reverse, sym, ap, ◌∙◌, arith}
use Rattle.std.proofs.lemmas.List.{append_assoc, reverse-append, append-nil, length-append}
use Rattle.std.proofs.Math.Seq.{take-append_seam, drop-append_seam}

-- of these rows, so many are left, and the others stand behind `moved`, the last first
pub record IsMoved {X : Type 0} (all moved rows now : List X) (at : ℕ) : Type 0 where
  pub above : at ≤ length rows
  pub rest : List X
  pub parts : all ≡ rows ++ rest
  pub turned : now ≡ moved ++ reverse rest

pub none_moved : {X : Type 0} (all moved : List X) (at : ℕ) → at ≤ length all → IsMoved all moved all moved at
none_moved all moved at le = record { above = le; rest = []; parts = sym (append-nil all); turned = sym (append-nil moved) }

pub one_moved : {X : Type 0} (all moved rows now less : List X) (x : X) (at : ℕ) → IsMoved all moved rows now at → at < length rows → rows ≡ less ++ x ∷ [] → IsMoved all moved less (now ++ x ∷ []) at
one_moved all moved rows now less x at m lt is =
    let long : length rows ≡ length less + 1 = ap length is ∙ length-append less (x ∷ []) in
    record {
      above = omega (arith, lt, long);
      rest = x ∷ m.rest;
      parts = m.parts ∙ (ap (λ l. l ++ m.rest) is ∙ append_assoc less (x ∷ []) m.rest);
      turned = ap (λ l. l ++ x ∷ []) m.turned ∙ (append_assoc moved (reverse m.rest) (x ∷ []) ∙ ap (λ l. moved ++ l) (sym (reverse-append (x ∷ []) m.rest)));
    }

pub front_left : {X : Type 0} (all moved rows now : List X) (at : ℕ) → IsMoved all moved rows now at → length rows ≤ at → rows ≡ take at all
front_left all moved rows now at m le =
    let long : length rows ≡ at = omega (arith, le, m.above) in
    sym (ap (λ (n : ℕ). take n all) (sym long) ∙ (ap (take (length rows)) m.parts ∙ take-append_seam rows m.rest))

pub back_moved : {X : Type 0} (all moved rows now : List X) (at : ℕ) → IsMoved all moved rows now at → length rows ≤ at → now ≡ moved ++ reverse (drop at all)
back_moved all moved rows now at m le =
    let long : length rows ≡ at = omega (arith, le, m.above) in
    m.turned ∙ ap (λ l. moved ++ reverse l) (sym (ap (λ (n : ℕ). drop n all) (sym long) ∙ (ap (drop (length rows)) m.parts ∙ drop-append_seam rows m.rest)))
