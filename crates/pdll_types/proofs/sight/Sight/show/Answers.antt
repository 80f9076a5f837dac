use Rattle.std.proofs.Common.{ap, ◌∙◌, sym, map}
use Rattle.pdll_types.specs.Sight.{is_in_sight, sight_with}
use Rattle.pdll_types.proofs.Maps.{shown_last, known_of}
use Rattle.pdll_types.proofs.sight.Sight.show.Goals as goal

pub returns : goal.returns
returns c =
    let q = c.args.name in
    let es = c.self.inside.variables.entries in
    let blank = sym c.is_blank.ensures ∙ c.if-is_blank.false in
    let absent = ap (λ s. is_in_sight s q.now) c.self.view_is ∙ (sym c.has.ensures ∙ c.if-has.false) in
    ap (map known_of) c.in_ok-insert.ensures.entries ∙ (shown_last q c.args.kind es blank absent ∙ ap (λ s. sight_with s q.now c.args.kind) c.self.view_is)
