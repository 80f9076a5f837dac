use Rattle.std.proofs.Common.{◌≡◌, ◌∙◌, sym, subst, drop}
use Rattle.std.proofs.lemmas.List.{take_rest}
use Rattle.pdll_lexer.specs.Scan.{first_token, token_at}
use Rattle.pdll_lexer.proofs.Places.{token_only, bad_byte_is, bad_byte_only, bad_string_is, bad_string_only, found_only, order_only, some_only}
use Rattle.pdll_lexer.proofs.scan.next_token.Goals as goal
use Rattle.pdll_lexer.proofs.scan.next_token.Goals.{After-first_token}

is_first : (c : After-first_token) → c.first_token.result ≡ first_token c.gap_end-start.result (drop c.gap_end-start.result c.args.bytes.now)
is_first c = rw take_rest at c.first_token.ensures

pub returns-clause-found : goal.returns-clause-found
returns-clause-found c = found_only c.args.bytes.now c.args.at c.gap_end-start.result c.first_token.result c.gap_end-start.ensures.gap (is_first c)

pub returns-clause-only : goal.returns-clause-only
returns-clause-only c = λ t h. is_first c ∙ token_only c.args.bytes.now c.args.at c.gap_end-start.result t c.gap_end-start.ensures.gap h

pub returns-clause-bad_byte : goal.returns-clause-bad_byte
returns-clause-bad_byte c = λ p. (
  λ e. bad_byte_is c.args.bytes.now c.args.at c.gap_end-start.result p c.gap_end-start.ensures.gap (sym (is_first c) ∙ e),
  λ h. is_first c ∙ bad_byte_only c.args.bytes.now c.args.at c.gap_end-start.result p c.gap_end-start.ensures.gap h,
)

pub returns-clause-bad_string : goal.returns-clause-bad_string
returns-clause-bad_string c = λ p. (
  λ e. bad_string_is c.args.bytes.now c.args.at c.gap_end-start.result p c.gap_end-start.ensures.gap (sym (is_first c) ∙ e),
  λ h. is_first c ∙ bad_string_only c.args.bytes.now c.args.at c.gap_end-start.result p c.gap_end-start.ensures.gap h,
)

pub returns-clause-in_order : goal.returns-clause-in_order
returns-clause-in_order c = order_only c.args.bytes.now c.args.at c.gap_end-start.result c.first_token.result c.gap_end-start.ensures.gap (is_first c)

pub returns-clause-some : goal.returns-clause-some
returns-clause-some c = some_only c.args.bytes.now c.args.at c.gap_end-start.result c.first_token.result c.gap_end-start.ensures.gap (is_first c)

pub returns-clause-value : goal.returns-clause-value
unfolding token_at
returns-clause-value c = subst (λ n. c.first_token.result ≡ first_token n (drop n c.args.bytes.now)) c.gap_end-start.ensures.value (is_first c)
