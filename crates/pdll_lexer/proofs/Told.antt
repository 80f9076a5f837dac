-- What the scan computes is the token there.
use Rattle.std.proofs.Common.{◌≡◌, ℕ, ◌+◌, ◌≤◌, List, [], length, drop, refl, ap, sym, ◌∙◌, arith, inl, inr, Ok, Err}
use Rattle.std.proofs.lemmas.Bool.{cases_lt}
use Rattle.std.proofs.lemmas.List.{drop_all}
use Rattle.text_scan.specs.Gaps.{gap_len}
use Rattle.text_scan.proofs.GapLaws.{gap_is_longest}
use Rattle.pdll_lexer.specs.Scan.{token, token_at}
use Rattle.pdll_lexer.specs.Laws.{TokensAreTold, TokensGoOn, place_of}
use Rattle.pdll_lexer.specs.declared.token.Token.{Token}
use Rattle.pdll_lexer.specs.declared.token.TokenKind.TheVariants as kind
use Rattle.pdll_lexer.specs.declared.token.LexFault.{LexFault}
use Rattle.pdll_lexer.specs.declared.token.LexFault.TheVariants.{BadByte, BadString}
use Rattle.pdll_lexer.proofs.Places.{token_is, token_only, goes_on, bad_byte_is, bad_string_is}

pub tokens_are_told : TokensAreTold
unfolding token_at
tokens_are_told bytes at t within =
    let gap = gap_is_longest bytes at (at + gap_len (drop at bytes)) within refl in
    (λ e. token_is bytes at (at + gap_len (drop at bytes)) t gap e, λ h. token_only bytes at (at + gap_len (drop at bytes)) t gap h)

-- nothing is left behind the end
end_there : (bytes : List ℕ) (at : ℕ) → length bytes ≤ at → token_at bytes at ≡ token kind.End at 0
unfolding token_at
end_there bytes at past =
    let none : drop at bytes ≡ [] = drop_all at bytes past in
    let same : at + gap_len (drop at bytes) ≡ at = omega (arith, ap gap_len none) in
    rw (same, none) refl

end_kind : (at : ℕ) (t : Token) → token kind.End at 0 ≡ Ok t → t.kind ≡ kind.End
end_kind at t e = cc

pub tokens_go_on : TokensGoOn
tokens_go_on bytes at t e other =
    elim (cases_lt at (length bytes)) [
      | inl less ↦
          let (from, order, within, some) = goes_on bytes at t ((tokens_are_told bytes at t (omega arith)).0 e) in
          elim some [
            | inl ended ↦ absurd (other ended)
            | inr more ↦ (omega arith, within)
          ]
      | inr past ↦ absurd (other (end_kind at t (sym (end_there bytes at past) ∙ e)))
    ]

-- a token, and the place of a fault, lie within the text
pub tokens_within : (bytes : List ℕ) (at : ℕ) (t : Token) → at ≤ length bytes → token_at bytes at ≡ Ok t → (t.start ≤ t.end) × (t.end ≤ length bytes)
tokens_within bytes at t within e =
    let (from, order, last, some) = goes_on bytes at t ((tokens_are_told bytes at t within).0 e) in
    (order, last)

pub faults_within : (bytes : List ℕ) (at : ℕ) (f : LexFault) → at ≤ length bytes → token_at bytes at ≡ Err f → place_of f ≤ length bytes
unfolding token_at
faults_within bytes at (BadByte p) within e =
    let gap = gap_is_longest bytes at (at + gap_len (drop at bytes)) within refl in
    let bad = bad_byte_is bytes at (at + gap_len (drop at bytes)) p gap e in
    omega (arith, bad.inside)
faults_within bytes at (BadString p) within e =
    let gap = gap_is_longest bytes at (at + gap_len (drop at bytes)) within refl in
    let bad = bad_string_is bytes at (at + gap_len (drop at bytes)) p gap e in
    let longest = bad.gap in
    longest.within
