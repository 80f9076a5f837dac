use Rattle.std.proofs.Common.{◌≡◌, ◌≤◌, ◌-◌, ◌+◌, ℕ, List, ◌∷◌, [], ◌++◌, max, sym, ap, ◌∙◌, arith}
use Rattle.std.specs.List.{range_with_len}
use Rattle.rewrite_step.proofs.Marking.{more}
use Rattle.rewrite_step.proofs.step.made_numbers.Goals as goal

pub loop-id-preserved : goal.loop-id-preserved
loop-id-preserved c =
    let a = c.args.before.now.next in
    let id = c.loop-id.id in
    let from : a ≤ id = omega (arith, c.loop-id.auto.id) in
    let within : id + 1 ≤ max a c.args.after.now.next = omega (arith, c.loop-id-test.true) in
    let count : (id - a) + 1 ≡ (id + 1) - a = omega (arith, from) in
    let place : a + (id - a) ≡ id = omega (arith, from) in
    record {
      given =
          c.in_ok-push.ensures.ok ∙ (ap (λ (l : List ℕ). l ++ id ∷ []) c.loop-id.invariant.given
          ∙ (sym (more a (id - a) id place) ∙ ap (λ (n : ℕ). range_with_len a n) count));
      within = within;
    }

pub returns : goal.returns
returns c =
    let a = c.args.before.now.next in
    let count : c.loop-id.id - a ≡ c.args.after.now.next - a = omega (arith, c.loop-id-test.false, c.loop-id.invariant.within) in
    c.loop-id.invariant.given ∙ ap (λ (n : ℕ). range_with_len a n) count
