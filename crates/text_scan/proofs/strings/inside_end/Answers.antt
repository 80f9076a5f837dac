use Rattle.std.proofs.Common.{◌≡◌, ◌∙◌, ◌+◌, ◌≤◌, length, length-drop, Some, None, sym, subst, arith, drop}
use Rattle.std.proofs.lemmas.List.{take_rest}
use Rattle.text_scan.specs.Strings.{IsNextSpecial, escape_at}
use Rattle.text_scan.proofs.StringLaws.{to_special, plain_to_end, at_quote, at_line_feed, at_backslash}
use Rattle.text_scan.proofs.strings.inside_end.Goals as goal

pub returns-then-b-eq34 : goal.returns-then-b-eq34
returns-then-b-eq34 c =
    let next = subst (IsNextSpecial c.args.bytes.now c.loop-stop.i) c.in-Some.is c.special_byte.ensures in
    sym (c.loop-stop.invariant.end ∙ to_special c.args.bytes.now c.loop-stop.i c.in-Some.stop next ∙ at_quote c.args.bytes.now c.in-Some.stop next.1 c.if-b-eq34.true)

pub returns-then-b-eq10 : goal.returns-then-b-eq10
returns-then-b-eq10 c =
    let next = subst (IsNextSpecial c.args.bytes.now c.loop-stop.i) c.in-Some.is c.special_byte.ensures in
    sym (c.loop-stop.invariant.end ∙ to_special c.args.bytes.now c.loop-stop.i c.in-Some.stop next ∙ at_line_feed c.args.bytes.now c.in-Some.stop next.1 c.if-b-eq10.true)

pub returns-in_err-i : goal.returns-in_err-i
returns-in_err-i c =
    let next = subst (IsNextSpecial c.args.bytes.now c.loop-stop.i) c.in-Some.is c.special_byte.ensures in
    let none : None ≡ escape_at (drop (c.in-Some.stop + 1) c.args.bytes.now) = sym (c.in_err-i.was {u = tt}) ∙ (rw take_rest at c.escape_at.ensures.value) in
    c.from_residual.ensures
    ∙ sym (c.loop-stop.invariant.end ∙ to_special c.args.bytes.now c.loop-stop.i c.in-Some.stop next
    ∙ at_backslash c.args.bytes.now c.in-Some.stop None next.1 next.2 c.if-b-eq34.false c.if-b-eq10.false none)

pub loop-stop-preserved : goal.loop-stop-preserved
loop-stop-preserved c =
    let next = subst (IsNextSpecial c.args.bytes.now c.loop-stop.i) c.in-Some.is c.special_byte.ensures in
    let some : Some c.in_ok-i.field-0 ≡ escape_at (drop (c.in-Some.stop + 1) c.args.bytes.now) = sym (c.in_ok-i.was {u = tt}) ∙ (rw take_rest at c.escape_at.ensures.value) in
    record {
      end = c.loop-stop.invariant.end ∙ to_special c.args.bytes.now c.loop-stop.i c.in-Some.stop next
          ∙ at_backslash c.args.bytes.now c.in-Some.stop (Some c.in_ok-i.field-0) next.1 next.2 c.if-b-eq34.false c.if-b-eq10.false some;
      within = let fits : c.in_ok-i.field-0.len ≤ length (drop (c.in-Some.stop + 1) c.args.bytes.now) = rw take_rest at (c.in_ok-i.ensures {u = tt}).within in omega (arith, next.1, fits, length-drop (c.in-Some.stop + 1) c.args.bytes.now);
    }

pub returns : goal.returns
returns c =
    let none = subst (IsNextSpecial c.args.bytes.now c.loop-stop.i) c.in_default.is c.special_byte.ensures in
    sym (c.loop-stop.invariant.end ∙ plain_to_end c.args.bytes.now c.loop-stop.i c.loop-stop.invariant.within none)
