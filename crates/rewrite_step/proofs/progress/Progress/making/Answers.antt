use Rattle.std.proofs.Common.{List, sym, ap, map, ◌∙◌}
use Rattle.std.specs.Prelude.{Ok}
use Rattle.mlir_tree.specs.Tree.{Ty, Attr}
use Rattle.rewrite_model.specs.Things.{an_attr, a_type}
use Rattle.rewrite_model.specs.Making.{making}
use Rattle.pdll_patterns.specs.View.{part_of, making_of}
use Rattle.pdll_patterns.specs.declared.action.Part.{Part}
use Rattle.pdll_patterns.specs.declared.action.Making.{Making}
use Rattle.rewrite_step.specs.View.{start_of, progress_of}
use Rattle.rewrite_step.specs.Worked.{the_result, the_only_result, all_results, all_result_types, the_native, given}
use Rattle.rewrite_step.proofs.Outcomes.{gives_result, gives_only_result, gives_results, gives_result_types, gives_native}
use Rattle.rewrite_step.proofs.progress.Progress.making.Goals as goal

pub returns-in_ok-copy-in-AttrLiteral : goal.returns-in_ok-copy-in-AttrLiteral
returns-in_ok-copy-in-AttrLiteral c =
    let s = start_of c.args.start.now in
    let p = progress_of c.args.self.now in
    c.give_ended.ensures s (Ok (an_attr c.in-AttrLiteral.value)) (making s p (making_of c.args.x.now)) (ap (λ (a : Attr). Ok (an_attr a)) (sym c.in_ok-copy-in-AttrLiteral.ensures))
    (ap (λ (m : Making). making s p (making_of m)) (sym c.in-AttrLiteral.is))

pub returns-in_ok-copy-in-TypeLiteral : goal.returns-in_ok-copy-in-TypeLiteral
returns-in_ok-copy-in-TypeLiteral c =
    let s = start_of c.args.start.now in
    let p = progress_of c.args.self.now in
    c.give_ended-in-TypeLiteral.ensures s (Ok (a_type c.in-TypeLiteral.ty)) (making s p (making_of c.args.x.now)) (ap (λ (t : Ty). Ok (a_type t)) (sym c.in_ok-copy-in-TypeLiteral.ensures))
    (ap (λ (m : Making). making s p (making_of m)) (sym c.in-TypeLiteral.is))

pub returns-in-ResultOf : goal.returns-in-ResultOf
returns-in-ResultOf c =
    let s = start_of c.args.start.now in
    let p = progress_of c.args.self.now in
    c.give_ended-in-ResultOf.ensures s (the_result s p (part_of c.in-ResultOf.x) c.in-ResultOf.k) (making s p (making_of c.args.x.now)) c.result_thing-thing.ensures
    (gives_result s p (part_of c.in-ResultOf.x) c.in-ResultOf.k ∙ ap (λ (m : Making). making s p (making_of m)) (sym c.in-ResultOf.is))

pub returns-in-OnlyResultOf : goal.returns-in-OnlyResultOf
returns-in-OnlyResultOf c =
    let s = start_of c.args.start.now in
    let p = progress_of c.args.self.now in
    c.give_ended-in-OnlyResultOf.ensures s (the_only_result s p (part_of c.in-OnlyResultOf.x)) (making s p (making_of c.args.x.now)) c.only_result_thing-thing.ensures
    (gives_only_result s p (part_of c.in-OnlyResultOf.x) ∙ ap (λ (m : Making). making s p (making_of m)) (sym c.in-OnlyResultOf.is))

pub returns-in-ResultsOf : goal.returns-in-ResultsOf
returns-in-ResultsOf c =
    let s = start_of c.args.start.now in
    let p = progress_of c.args.self.now in
    c.give_ended-in-ResultsOf.ensures s (all_results s p (part_of c.in-ResultsOf.x)) (making s p (making_of c.args.x.now)) c.results_thing-thing.ensures
    (gives_results s p (part_of c.in-ResultsOf.x) ∙ ap (λ (m : Making). making s p (making_of m)) (sym c.in-ResultsOf.is))

pub returns-in-ResultTypesOf : goal.returns-in-ResultTypesOf
returns-in-ResultTypesOf c =
    let s = start_of c.args.start.now in
    let p = progress_of c.args.self.now in
    c.give_ended-in-ResultTypesOf.ensures s (all_result_types s p (part_of c.in-ResultTypesOf.x)) (making s p (making_of c.args.x.now)) c.result_types_thing-thing.ensures
    (gives_result_types s p (part_of c.in-ResultTypesOf.x) ∙ ap (λ (m : Making). making s p (making_of m)) (sym c.in-ResultTypesOf.is))

pub returns-in-Native : goal.returns-in-Native
returns-in-Native c =
    let s = start_of c.args.start.now in
    let p = progress_of c.args.self.now in
    c.give_ended-in-Native.ensures s (the_native s p c.in-Native.f (map part_of c.as_slice.result.now)) (making s p (making_of c.args.x.now)) c.native_thing-thing.ensures
    (ap (λ (xs : List Part). given s p (the_native s p c.in-Native.f (map part_of xs))) c.as_slice.ensures
    ∙ (gives_native s p c.in-Native.f (map part_of c.in-Native.xs) ∙ ap (λ (m : Making). making s p (making_of m)) (sym c.in-Native.is)))
