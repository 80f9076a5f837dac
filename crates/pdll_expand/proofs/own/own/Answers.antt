use Rattle.std.proofs.Common.{subst, sym}
use Rattle.rewrite_model.specs.Own.{own}
use Rattle.pdll_expand.specs.declared.scene.Own.{Own as OwnNode}
use Rattle.pdll_expand.specs.Scenes.{IsOwn}
use Rattle.pdll_expand.proofs.own.own.Goals as goal

pub returns-in-Rewrite : goal.returns-in-Rewrite
unfolding own
returns-in-Rewrite c = record {
  exact = λ earlier h.
      let o : OwnNode = record { scene = c.new.result; given = c.new-in-Rewrite.result } in
      subst (λ d. IsOwn o (own earlier d)) (sym c.in-Rewrite.is) (record {
        kinds = c.new.ensures.kinds;
        places = c.new.ensures.places;
        demands = c.new.ensures.demands;
        given = c.new-in-Rewrite.ensures;
      });
}
