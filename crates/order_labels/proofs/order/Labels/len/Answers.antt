use Rattle.std.proofs.Common.{length, ap, sym, ◌∙◌}
use Rattle.std.proofs.lemmas.List.{length-map}
use Rattle.order_labels.specs.Chain.{link_at, id_of, slots_of}
use Rattle.order_labels.proofs.Placing.{slots_len}
use Rattle.order_labels.proofs.order.Labels.len.Goals as goal

pub returns : goal.returns
returns c =
    let l = link_at c.self.inside.links in
    let n = c.self.inside.count in
    sym (slots_len l n) ∙ (sym (length-map (slots_of l n) (id_of l)) ∙ ap (λ v. length v.ids) c.self.view_is)
