use Rattle.std.proofs.Common.{[], ◌∷◌, ◌++◌, sym, ◌∙◌, subst}
use Rattle.pdll_expand.specs.Table.{Knows}
use Rattle.pdll_patterns.specs.declared.earlier.Earlier.{Earlier}
use Rattle.pdll_patterns.specs.Files.{IsEarlier}
use Rattle.pdll_patterns.proofs.Declaring.{pattern_more, constraint_more, rewrite_more}
use Rattle.pdll_patterns.proofs.earlier.Earlier.declare.Goals as goal

pub returns-in-Pattern : goal.returns-in-Pattern
returns-in-Pattern c = λ ds h.
    let e : Earlier = record { constraints = c.declare.new.self; rewrites = c.args.self.now.rewrites } in
    subst (λ d. IsEarlier e (d ∷ ds)) (sym c.in-Pattern.is) (record {
      constraints_are = subst (λ d. Knows e.constraints (d ∷ ds)) c.in-Pattern.is (c.in_ok-declare.ensures.added ds h.constraints_are);
      calls = h.calls;
      table = h.table;
      rewrites_are = pattern_more c.in-Pattern.field-0 ds ∙ h.rewrites_are;
    })

pub returns-in-Constraint : goal.returns-in-Constraint
returns-in-Constraint c = λ ds h.
    let e : Earlier = record { constraints = c.declare.new.self; rewrites = c.args.self.now.rewrites } in
    subst (λ d. IsEarlier e (d ∷ ds)) (sym c.in-Constraint.is) (record {
      constraints_are = subst (λ d. Knows e.constraints (d ∷ ds)) c.in-Constraint.is (c.in_ok-declare.ensures.added ds h.constraints_are);
      calls = h.calls;
      table = h.table;
      rewrites_are = constraint_more c.in-Constraint.field-0 ds ∙ h.rewrites_are;
    })

pub returns-in_ok-add-in-Rewrite : goal.returns-in_ok-add-in-Rewrite
returns-in_ok-add-in-Rewrite c = λ ds h.
    let call = c.in-Rewrite.call in
    let e : Earlier = record { constraints = c.declare.new.self; rewrites = c.add.new.self } in
    subst (λ d. IsEarlier e (d ∷ ds)) (sym c.in-Rewrite.is) (record {
      constraints_are = subst (λ d. Knows e.constraints (d ∷ ds)) c.in-Rewrite.is (c.in_ok-declare.ensures.added ds h.constraints_are);
      calls = h.calls ++ call ∷ [];
      table = c.in_ok-add-in-Rewrite.ensures.added h.calls h.table;
      rewrites_are = rewrite_more call ds h.calls h.rewrites_are;
    })
