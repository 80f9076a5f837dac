use Rattle.std.proofs.Common.{[], ◌∷◌, map, arith, ap}
use Rattle.std.specs.Option.{option_map}
use Rattle.rewrite_model.specs.declared.run.Break.TheVariants.{Gone}
use Rattle.rewrite_model.specs.Making.{part}
use Rattle.row_matcher.specs.View.{thing_of}
use Rattle.pdll_patterns.specs.View.{part_of}
use Rattle.rewrite_step.specs.View.{start_of, progress_of}
use Rattle.rewrite_step.proofs.Concatenating.{none_found, one_found, one_missing, all_found}
use Rattle.rewrite_step.proofs.progress.Progress.things_at.Goals as goal

pub loop-x-init : goal.loop-x-init
loop-x-init c = none_found (λ x. option_map (λ t. t ∷ []) (part (start_of c.args.start.now) (progress_of c.args.self.now) (part_of x))) c.args.xs.now (map thing_of c.new-found.result) (ap (map thing_of) c.new-found.ensures)

pub loop-x-preserved : goal.loop-x-preserved
loop-x-preserved c = one_found (λ x. option_map (λ t. t ∷ []) (part (start_of c.args.start.now) (progress_of c.args.self.now) (part_of x))) Gone c.args.xs.now c.loop-x.x-index _ (map thing_of c.loop-x.found) (map thing_of c.add_part.new.found) (omega arith) c.loop-x.invariant c.in_default.ensures

pub returns-in-Err : goal.returns-in-Err
returns-in-Err c = one_missing (λ x. option_map (λ t. t ∷ []) (part (start_of c.args.start.now) (progress_of c.args.self.now) x)) part_of Gone c.args.xs.now c.loop-x.x-index _ (map thing_of c.loop-x.found) (map thing_of c.add_part.new.found) (map thing_of) c.in-Err.e (omega arith) c.loop-x.invariant c.in-Err.ensures

pub returns : goal.returns
returns c = all_found (λ x. option_map (λ t. t ∷ []) (part (start_of c.args.start.now) (progress_of c.args.self.now) x)) part_of Gone c.args.xs.now c.loop-x.x-index (map thing_of c.loop-x.found) (omega arith) c.loop-x.invariant
