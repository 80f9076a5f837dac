use Rattle.std.proofs.Common.{[], ◌∷◌, ◌++◌, map, option_map, ap, ◌∙◌, sym, subst}
use Rattle.native_set.specs.declared.native.Kind.TheVariants.{Tys}
use Rattle.rewrite_model.specs.Pattern.{result_types_of}
use Rattle.rewrite_model.specs.Doing.{pure}
use Rattle.rewrite_model.specs.RewritePart.{make, replaced_types}
use Rattle.pdll_patterns.specs.View.{part_of, meant_part_of}
use Rattle.pdll_patterns.specs.Scripts.{Gave}
use Rattle.pdll_patterns.proofs.Steps.{both, gave, then_gave}
use Rattle.pdll_patterns.proofs.script.Script.replaced_types.Goals as goal

pub returns-in_ok-push-in-Some : goal.returns-in_ok-push-in-Some
returns-in_ok-push-in-Some c = λ names.
    let y = c.in_ok-made-in-Some.made in
    let old = both names c.args.self.now in
    let new = both names c.make.new.self in
    let p = part_of c.in-Some.old in
    let one = c.in_ok-push-in-Some.ensures.ok ∙ ap (λ xs. xs ++ y.is ∷ []) c.new-types.ensures in
    subst (λ xs. Gave (map part_of) (replaced_types (option_map part_of c.args.replaced)) old xs new) (sym one)
    (subst (λ o. Gave (map part_of) (replaced_types (option_map part_of o)) old (y.is ∷ []) new) (sym c.in-Some.is)
    (then_gave meant_part_of (map part_of) (make Tys (result_types_of p)) (λ z. pure (z.is ∷ [])) old new new y (y.is ∷ []) (c.in_ok-made-in-Some.ensures names) (gave (map part_of) (y.is ∷ []) new)))
