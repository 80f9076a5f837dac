use Rattle.std.proofs.Common.{◌≡◌, ◌∙◌, ◌-◌, Some, ◌<◌, sym, ap, get_or, length-set, arith}
use Rattle.mlir_lexer.specs.Body.{stack_of, effect_of, closer}
use Rattle.mlir_lexer.specs.declared.body.Effect.{Effect}
use Rattle.mlir_lexer.specs.declared.body.Effect.TheVariants.{Opens, Closes, Passes}
use Rattle.mlir_lexer.proofs.BodyLaws.{At, at_string, behind_string, at_opening, at_closing, at_other}
use Rattle.mlir_lexer.proofs.body.body_end.Goals as goal
use Rattle.mlir_lexer.proofs.body.body_end.Goals.{Joined-effect_of, in-Opens-2, in-Closes-2, in-Passes}

pub loop-i-preserved-then-b-eq34 : goal.loop-i-preserved-then-b-eq34
loop-i-preserved-then-b-eq34 c =
    let string = c.in-Some.ensures {u = tt} in
    let closers = stack_of c.loop-i.closers c.loop-i.count in
    let passed = at_string (256 - c.args.depth) closers c.loop-i.dash c.args.bytes.now c.loop-i.i (Some c.in-Some.end) c.loop-i-test.true c.if-b-eq34.true string.value in
    let behind = behind_string (256 - c.args.depth) closers c.args.bytes.now c.loop-i.i c.in-Some.end string.some string.found.within in
    record {
      end = c.loop-i.invariant.end ∙ passed ∙ behind;
      some = c.loop-i.invariant.some;
      few = c.loop-i.invariant.few;
      size = c.loop-i.invariant.size;
      after = omega (arith, string.some);
      within = string.found.within;
    }

at_effect : (c : Joined-effect_of) (effect : Effect) → c.effect_of.result ≡ effect → At (256 - c.args.depth) c.loop-i.count c.loop-i.closers c.loop-i.dash c.args.bytes.now c.loop-i.i effect
at_effect c effect is = record {
  inside = c.loop-i-test.true;
  other = c.if-b-eq34.false;
  some = c.loop-i.invariant.some;
  size = omega arith;
  is = sym is ∙ c.effect_of.ensures ∙ ap (λ n. effect_of (get_or c.args.bytes.now c.loop-i.i 0) n c.loop-i.dash (get_or c.loop-i.closers (c.loop-i.count - 1) 0)) c.byte_at.ensures;
}

pub loop-i-preserved : goal.loop-i-preserved
loop-i-preserved c =
    let room = 256 - c.args.depth in
    let before = c.loop-i.invariant in
    elim c.match-effect_of.branch [
      | in-Opens-2 w ↦
          let h = at_effect c Opens w.in-Opens-2.is in
          let next = at_opening room c.loop-i.count c.loop-i.closers c.loop-i.dash c.args.bytes.now c.loop-i.i h w.if-count-room.false (omega arith) in
          rw (w.closers-is, w.count-is, w.closer_of.ensures) (record {
            end = before.end ∙ next;
            some = omega arith;
            few = omega (arith, w.if-count-room.false);
            size = length-set c.loop-i.closers c.loop-i.count (closer (get_or c.args.bytes.now c.loop-i.i 0)) ∙ before.size;
            after = omega arith;
            within = omega arith;
          })
      | in-Closes-2 w ↦
          let h = at_effect c Closes w.in-Closes-2.is in
          let more : 1 < c.loop-i.count = omega (arith, w.if-count-eq1.false) in
          let next = at_closing room c.loop-i.count c.loop-i.closers c.loop-i.dash c.args.bytes.now c.loop-i.i h more in
          rw (w.closers-is, w.count-is) (record {
            end = before.end ∙ next;
            some = omega arith;
            few = omega arith;
            size = before.size;
            after = omega arith;
            within = omega arith;
          })
      | in-Passes w ↦
          let h = at_effect c Passes w.in-Passes.is in
          let next = at_other room c.loop-i.count c.loop-i.closers c.loop-i.dash c.args.bytes.now c.loop-i.i h in
          rw (w.closers-is, w.count-is) (record {
            end = before.end ∙ next;
            some = before.some;
            few = before.few;
            size = before.size;
            after = omega arith;
            within = omega arith;
          })
    ]
