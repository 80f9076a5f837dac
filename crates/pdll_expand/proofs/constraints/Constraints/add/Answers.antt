use Rattle.std.proofs.Common.{[], ◌∷◌, ◌++◌, map, sym, ap, ◌∙◌}
use Rattle.std.proofs.Math.Logic.{∥∥₁_elim}
use Rattle.std.proofs.Props.{props}
use Rattle.rewrite_model.specs.Expanding.{first_param_kind}
use Rattle.pdll_expand.specs.View.{written_of}
use Rattle.pdll_expand.specs.Called.{calls_in}
use Rattle.pdll_expand.specs.Behind.{behind, kinds_of}
use Rattle.pdll_expand.proofs.Behind.{kinds_one_more, silent_kind}
use Rattle.pdll_expand.proofs.Calling.{mapped_more, own_table, popped}
use Rattle.pdll_expand.proofs.Known.{one_more}
use Rattle.pdll_expand.proofs.constraints.Constraints.add.Goals as goal

pub invariant_of-self-in-Ok : goal.invariant_of-self-in-Ok
invariant_of-self-in-Ok c =
    let old = c.args.self.now in
    let cs = calls_in old.calls in
    let call = c.args.call.now in
    let w = c.first_param_kind-written.result in
    let kind = c.first_param_kind-written.ensures
    ∙ (ap (λ q. first_param_kind q c.as_slice.result.now) c.quiet.ensures
    ∙ (silent_kind (behind cs) c.as_slice.result.now ∙ ap (first_param_kind (behind cs)) c.as_slice.ensures)) in
    record {
      table = ∥∥₁_elim old.table (hlevel props) (λ h. ∣ own_table c.add.new.self (cs ++ call ∷ []) (c.in-Ok.ensures.added cs h) ∣₁);
      kinds = ap (map written_of) c.in_ok-push.ensures.ok
          ∙ (mapped_more written_of old.params w
          ∙ (ap (λ ks. ks ++ written_of w ∷ []) old.kinds
          ∙ (ap (λ k. kinds_of cs ++ k ∷ []) kind ∙ (sym (kinds_one_more cs call) ∙ ap kinds_of (sym c.in-Ok.ensures.more)))));
    }

pub invariant_of-self-in-Err : goal.invariant_of-self-in-Err
invariant_of-self-in-Err c =
    let old = c.args.self.now in
    let cs = calls_in old.calls in
    record {
      table = ∥∥₁_elim old.table (hlevel props) (λ h. ∣ own_table c.add.new.self cs (c.in-Err.ensures.kept cs h) ∣₁);
      kinds = ap (map written_of) (popped c.pop.result old.params c.push.new.self c.pop.new.self c.first_param_kind-written.result c.pop.ensures c.in_ok-push.ensures.ok)
          ∙ (old.kinds ∙ ap kinds_of (sym c.in-Err.ensures.same));
    }

pub returns-in-Ok : goal.returns-in-Ok
returns-in-Ok c = λ earlier h. one_more (calls_in c.args.self.now.calls) (calls_in c.add.new.self) c.args.call.now earlier c.in-Ok.ensures.more h
