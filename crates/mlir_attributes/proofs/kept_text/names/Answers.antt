use Rattle.std.proofs.Common.{◌≡◌, ℕ, List, ◌+◌, ◌-◌, ◌≤◌, ◌∷◌, [], ◌∙◌, sym, ap, arith, length, drop, take, get_or, option_copied, false, length-drop, add-zero}
use Rattle.std.specs.Prelude.{reverse, nat_le, ◌==◌}
use Rattle.std.proofs.lemmas.Bool.{and_parts, leb-true}
use Rattle.std.proofs.lemmas.List.{take_rest, length-reverse, get_or-drop}
use Rattle.mlir_lexer.specs.Scan.{suffix_len}
use Rattle.mlir_lexer.specs.Body.{effect_of, innermost}
use Rattle.mlir_attributes.specs.Aliases.{max_put}
use Rattle.mlir_attributes.specs.KeptText.{names, in_front, put_text, fits, closers_after}
use Rattle.mlir_attributes.proofs.Names.{front_again, at_string, at_use, at_byte}
use Rattle.mlir_attributes.proofs.kept_text.names.Goals as goal

pub loop-i-preserved-then-b-eq34 : goal.loop-i-preserved-then-b-eq34
loop-i-preserved-then-b-eq34 c =
    let string = c.in-Some.ensures {u = tt} in
    let closers = reverse c.loop-i.closers.items in
    let rest = names c.args.aliases.now c.args.room closers false 0 c.loop-i.put c.in-Some.end (drop c.in-Some.end c.args.body.now) in
    let step = at_string c.args.aliases.now c.args.room closers c.loop-i.dash c.loop-i.put c.args.body.now c.loop-i.i c.in-Some.end c.loop-i-test.true c.if-b-eq34.true (sym string.value) string.some string.found.within in (
      c.loop-i.invariant.0 ∙ (ap (in_front c.loop-i.text.items) step ∙ (front_again c.loop-i.text.items (take (c.in-Some.end - c.loop-i.i) (drop c.loop-i.i c.args.body.now)) rest
          ∙ ap (λ t. in_front t rest) (sym c.in_ok-extend_from_slice.ensures.items))),
      string.found.within,
      c.loop-i.invariant.2,
    )

pub loop-i-preserved-in-Some-used_at : goal.loop-i-preserved-in-Some-used_at
loop-i-preserved-in-Some-used_at c =
    let a = c.in-Some-used_at.alias.now in
    let body = c.args.body.now in
    let closers = reverse c.loop-i.closers.items in
    let used = sym (rw take_rest at c.used_at.ensures) ∙ ap option_copied c.in-Some-used_at.is in
    let count : length closers ≡ c.len.result = omega (arith, length-reverse c.loop-i.closers.items, c.len.ensures, c.loop-i.closers.ok) in
    let enough = ap (λ n. fits c.args.room a n c.loop-i.put) count ∙ sym c.fits.ensures ∙ c.if-not-fits.false in
    let suffix = rw take_rest at c.suffix_len.ensures.value in
    let inside = rw take_rest at c.suffix_len.ensures.within in
    let within : suffix_len (drop (c.loop-i.i + 1) body) ≤ length (drop (c.loop-i.i + 1) body) = rw (sym suffix) inside in
    let place : c.loop-i.i + 1 + suffix_len (drop (c.loop-i.i + 1) body) ≡ c.loop-i.i + (1 + c.suffix_len.result) = omega (arith, suffix) in
    let put : c.loop-i.put + length a.text ≡ c.loop-i.put + c.len-put.result = omega (arith, c.len-put.ensures) in
    let parts = and_parts (nat_le (a.brackets + length closers) c.args.room) (nat_le (c.loop-i.put + length a.text) max_put) enough in
    let step = at_use c.args.aliases.now c.args.room closers c.loop-i.dash c.loop-i.put body c.loop-i.i a c.loop-i-test.true c.if-b-eq34.false used enough within in
    let rest = (λ (p k : ℕ). names c.args.aliases.now c.args.room closers false 0 p k (drop k body)) in (
      c.loop-i.invariant.0 ∙ (ap (in_front c.loop-i.text.items) step ∙ (front_again c.loop-i.text.items (put_text a) (rest (c.loop-i.put + length a.text) (c.loop-i.i + 1 + suffix_len (drop (c.loop-i.i + 1) body)))
          ∙ (λ i. in_front (sym c.in_ok-put_alias.ensures i) (rest (put i) (place i))))),
      omega (arith, inside, length-drop (c.loop-i.i + 1) body, c.loop-i-test.true),
      omega (arith, put, leb-true (c.loop-i.put + length a.text) max_put parts.1),
    )

pub loop-i-preserved : goal.loop-i-preserved
loop-i-preserved c =
    let body = c.args.body.now in
    let closers = reverse c.loop-i.closers.items in
    let b = get_or body c.loop-i.i 0 in
    let used = sym (rw take_rest at c.used_at.ensures) ∙ ap option_copied c.in_default-used_at.is in
    let step = at_byte c.args.aliases.now c.args.room closers c.loop-i.dash c.loop-i.put body c.loop-i.i c.loop-i-test.true c.if-b-eq34.false used in
    let next : get_or (drop (c.loop-i.i + 1) body) 0 0 ≡ c.byte_at.result = get_or-drop (c.loop-i.i + 1) body 0 0 ∙ (ap (λ n. get_or body n 0) (add-zero (c.loop-i.i + 1)) ∙ sym c.byte_at.ensures) in
    let after : closers_after (effect_of b (get_or (drop (c.loop-i.i + 1) body) 0 0) c.loop-i.dash (innermost closers)) b closers ≡ reverse c.pass_byte.new.closers.items =
    ap (λ n. closers_after (effect_of b n c.loop-i.dash (innermost closers)) b closers) next ∙ sym c.in_ok-pass_byte.ensures in
    let rest = (λ (cs : List ℕ). names c.args.aliases.now c.args.room cs (b == 45) 0 c.loop-i.put (c.loop-i.i + 1) (drop (c.loop-i.i + 1) body)) in (
      c.loop-i.invariant.0 ∙ (ap (in_front c.loop-i.text.items) step ∙ (front_again c.loop-i.text.items (b ∷ []) (rest (closers_after (effect_of b (get_or (drop (c.loop-i.i + 1) body) 0 0) c.loop-i.dash (innermost closers)) b closers))
          ∙ (λ i. in_front (sym c.in_ok-push.ensures.items i) (rest (after i))))),
      omega (arith, c.loop-i-test.true),
      c.loop-i.invariant.2,
    )
