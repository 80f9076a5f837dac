use Rattle.std.proofs.Common.{◌≡◌, ℕ, ◌+◌, ◌-◌, ◌<◌, ◌≤◌, Bool, true, false, not, List, length, get_or, reverse, refl, sym, ap, ap₂, subst, ◌∙◌, arith, Option, Some, None}
use Rattle.std.specs.List.{prefix_len, count_by}
use Rattle.std.proofs.lemmas.List.{get_or-reverse, length-reverse}
use Rattle.std.proofs.lemmas.List.Sums.{prefix_len_is, length-filter}
use native.Mathlib.Numerals.{unary_clauses}
use Rattle.memchr.specs.Find.{IsLastByte, is_byte}
use Rattle.text_scan.specs.Bytes.{is_line_feed}
use Rattle.pdllrw_command.specs.Positions.{position_behind}
use Rattle.pdllrw_command.specs.declared.position.Position.{Position}
use Rattle.pdllrw_command.proofs.position.position_behind.Goals as goal
use Rattle.pdllrw_command.proofs.position.position_behind.Goals.{in-Some, in-None}

not_so : (b : Bool) → (b ≡ true → ⊥) → not b ≡ true
not_so true h = absurd (h refl)
not_so false h = refl

-- the bytes behind the last line feed, counted from the end
column_in : (text : List ℕ) (feed : ℕ) → IsLastByte (is_byte 10) text (Some feed) → prefix_len (λ b. not (is_line_feed b)) (reverse text) ≡ length text - (feed + 1)
column_in text feed h =
    let n = length text - (feed + 1) in
    prefix_len_is (λ b. not (is_line_feed b)) (reverse text) n 0
    (omega (arith, length-reverse text))
    (λ k l. subst (λ b. not (is_line_feed b) ≡ true) (sym (get_or-reverse text k 0 (omega (arith, h.0.high))))
    (not_so (is_line_feed (get_or text (length text - 1 - k) 0)) (h.0.after (length text - 1 - k) (omega (arith, h.0.high)) (omega (arith, h.0.high)))))
    (λ l. subst (λ b. not (is_line_feed b) ≡ false) (sym (get_or-reverse text n 0 (omega (arith, h.0.high))))
    (subst (λ j. not (is_line_feed (get_or text j 0)) ≡ false) (omega (arith, h.0.high)) (ap not h.1)))

column_without : (text : List ℕ) → IsLastByte (is_byte 10) text None → prefix_len (λ b. not (is_line_feed b)) (reverse text) ≡ length text
column_without text h =
    prefix_len_is (λ b. not (is_line_feed b)) (reverse text) (length text) 0
    (omega (arith, length-reverse text))
    (λ k l. subst (λ b. not (is_line_feed b) ≡ true) (sym (get_or-reverse text k 0 l))
    (not_so (is_line_feed (get_or text (length text - 1 - k) 0)) (h (length text - 1 - k) (omega arith) (omega arith))))
    (λ l. absurd (omega (arith, length-reverse text)))

placed : (text : List ℕ) (lines start : ℕ) → lines ≡ count_by is_line_feed text → length text - start ≡ prefix_len (λ b. not (is_line_feed b)) (reverse text) → ◌≡◌ {A = Position} (record { line = lines + 1; column = length text - start + 1 }) (position_behind text)
placed text lines start line column =
    ap₂ (λ (l n : ℕ). record { line = l + 1; column = n + 1 }) (line ∙ sym (length-filter is_line_feed text)) column

pub returns : goal.returns
returns c =
    let text = c.args.text.now in
    let from = λ (n : ℕ). length text - n in
    elim c.match-memrchr.branch [
      | in-Some w ↦ placed text c.count_newlines.result c.match-memrchr.line_start c.count_newlines.ensures.value
          (ap from w.line_start-is ∙ sym (column_in text w.in-Some.line_feed (subst (IsLastByte (is_byte 10) text) w.in-Some.is c.memrchr.ensures)))
      | in-None w ↦ placed text c.count_newlines.result c.match-memrchr.line_start c.count_newlines.ensures.value
          (ap from w.line_start-is ∙ simp unary_clauses (sym (column_without text (subst (IsLastByte (is_byte 10) text) w.in-None.is c.memrchr.ensures))))
    ]
