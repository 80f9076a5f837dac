-- The turns of the readers of bodies and of types whose tokens are all there.
use Rattle.std.proofs.Common.{◌≡◌, ℕ, suc, Bool, false, cond, List, ap, sym, ◌∙◌, Option, Ok}
use Rattle.mlir_lexer.specs.declared.token.TokenKind.{TokenKind}
use Rattle.mlir_attributes.specs.declared.complete.Body.{Body}
use Rattle.mlir_attributes.specs.declared.complete.Shape.{Shape}
use Rattle.mlir_attributes.specs.Place.{Place, kind}
use Rattle.mlir_attributes.specs.Input.{Parser, and_then, refuse, pure}
use Rattle.mlir_attributes.specs.Complete.{body_step, is_over, end_of, body_end, shape_step, past_token, is_broken, is_whole, type_tokens}

-- a body that isn't over goes on
pub body_goes_on : (n : ℕ) (bytes : List ℕ) (s t : Body) → t ≡ body_step bytes s → is_over t ≡ false → body_end (suc n) bytes s ≡ body_end n bytes t
unfolding body_end
body_goes_on n bytes s t e more =
    ap (λ u. cond (is_over u) (end_of u) (body_end n bytes u)) (sym e) ∙ ap (λ b. cond b (end_of t) (body_end n bytes t)) more

after_token : ℕ → Shape → Bool → Bool → Parser (Unit {0})
after_token n t b w = cond {A = Parser (Unit {0})} b refuse (cond w (pure tt) (type_tokens n t))

-- a type that isn't over goes on
pub type_goes_on : (n : ℕ) (q t : Shape) (j : Option TokenKind) (s r : Place) → j ≡ kind s → t ≡ shape_step q j → past_token s ≡ Ok (tt, r) → is_broken t.phase ≡ false → is_whole t ≡ false → type_tokens (suc n) q s ≡ type_tokens n t r
unfolding type_tokens after_token
type_goes_on n q t j s r same e passed fits more =
    let is : shape_step q (kind s) ≡ t = ap (shape_step q) (sym same) ∙ sym e in
    ap (λ u. and_then (past_token s) (λ _. after_token n u (is_broken u.phase) (is_whole u))) is
    ∙ ap (λ o. and_then o (λ _. after_token n t (is_broken t.phase) (is_whole t))) passed
    ∙ ap (λ b. after_token n t b (is_whole t) r) fits
    ∙ ap (λ w. after_token n t false w r) more
