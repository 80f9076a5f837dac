use Rattle.std.proofs.Common.{refl}
use Rattle.pdll_expand.proofs.Names.{seen}
use Rattle.pdll_expand.proofs.scene.Scene.see_name.Goals as goal

pub returns : goal.returns
returns c = λ t i. (
  refl,
  record {
    kinds = i.kinds;
    places = i.places;
    demands = i.demands;
    names = seen c.args.name.now c.args.x c.args.self.now.names c.insert.new.self t.names c.in_ok-insert.ensures.updates i.names;
  },
)
