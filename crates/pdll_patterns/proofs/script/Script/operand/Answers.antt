use Rattle.std.proofs.Common.{sym, subst}
use Rattle.native_set.specs.declared.native.Kind.TheVariants.{Value}
use Rattle.rewrite_model.specs.Pattern.{only_result_of}
use Rattle.rewrite_model.specs.Doing.{pure}
use Rattle.rewrite_model.specs.MatchPart.{meant}
use Rattle.rewrite_model.specs.RewritePart.{make, operand_part}
use Rattle.pdll_patterns.specs.View.{part_of, meant_part_of}
use Rattle.pdll_patterns.specs.Scripts.{Gave}
use Rattle.pdll_patterns.proofs.Steps.{both, gave, then_gave}
use Rattle.pdll_patterns.proofs.script.Script.operand.Goals as goal

pub returns-in_ok-make-in-Op : goal.returns-in_ok-make-in-Op
returns-in_ok-make-in-Op c = λ names.
    let x = c.args.x in
    let y = c.in_ok-make-in-Op.field-0 in
    let old = both names c.args.self.now in
    let new = both names c.make.new.self in
    subst (λ k. Gave part_of (operand_part (meant k (part_of x.is))) old y.is new) (sym c.in-Op.is)
    (then_gave meant_part_of part_of (make Value (only_result_of (part_of x.is))) (λ z. pure z.is) old new new y y.is (c.in_ok-make-in-Op.ensures names) (gave part_of y.is new))
