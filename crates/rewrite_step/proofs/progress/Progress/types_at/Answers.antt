use Rattle.std.proofs.Common.{List, Ok, map, subst, sym, arith}
use Rattle.mlir_tree.specs.Tree.{Ty}
use Rattle.std.specs.Option.{option_and_then}
use Rattle.rewrite_model.specs.declared.run.Break.TheVariants.{Gone}
use Rattle.rewrite_model.specs.Things.{types_in}
use Rattle.rewrite_model.specs.Making.{part, types_at}
use Rattle.pdll_patterns.specs.View.{part_of}
use Rattle.rewrite_step.specs.View.{start_of, progress_of}
use Rattle.rewrite_step.specs.Ends.{Ends}
use Rattle.rewrite_step.proofs.Concatenating.{none_found, one_found, one_missing, all_found}
use Rattle.rewrite_step.proofs.progress.Progress.types_at.Goals as goal

pub loop-x-init : goal.loop-x-init
loop-x-init c = none_found (λ x. option_and_then types_in (part (start_of c.args.start.now) (progress_of c.args.self.now) (part_of x))) c.args.xs.now c.new-found.result (c.new-found.ensures)

pub loop-x-preserved : goal.loop-x-preserved
loop-x-preserved c = one_found (λ x. option_and_then types_in (part (start_of c.args.start.now) (progress_of c.args.self.now) (part_of x))) Gone c.args.xs.now c.loop-x.x-index _ c.loop-x.found c.add_types.new.found (omega arith) c.loop-x.invariant c.in_default.ensures

pub returns-in-Err : goal.returns-in-Err
returns-in-Err c = one_missing (λ x. option_and_then types_in (part (start_of c.args.start.now) (progress_of c.args.self.now) x)) part_of Gone c.args.xs.now c.loop-x.x-index _ c.loop-x.found c.add_types.new.found (λ ts. ts) c.in-Err.e (omega arith) c.loop-x.invariant c.in-Err.ensures

pub returns : goal.returns
returns c =
    subst (λ (found : List Ty). Ends (λ (all : List Ty). all) (types_at (start_of c.args.start.now) (progress_of c.args.self.now) (map part_of c.args.xs.now)) (Ok found)) (sym c.in_ok-all.ensures)
    (all_found (λ x. option_and_then types_in (part (start_of c.args.start.now) (progress_of c.args.self.now) x)) part_of Gone c.args.xs.now c.loop-x.x-index c.loop-x.found (omega arith) c.loop-x.invariant)
