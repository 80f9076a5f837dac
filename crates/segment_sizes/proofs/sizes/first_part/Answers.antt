use Rattle.std.proofs.Common.{◌∷◌, take, drop, ap, sym, ◌∙◌}
use Rattle.segment_sizes.proofs.Reading.{part_front, behind_comma, is_nothing}
use Rattle.segment_sizes.proofs.sizes.first_part.Goals as goal

pub returns-in-Some : goal.returns-in-Some
returns-in-Some c =
    let text = c.args.text.now in
    let front = sym (c.split_at.ensures.front ∙ ap (λ n. take n text) c.part_len.ensures.value) in
    let back = sym (c.split_at.ensures.back ∙ ap (λ n. drop n text) c.part_len.ensures.value) ∙ c.in-Some.ensures.cases.0 in
    part_front text ∙ (λ i. front i ∷ behind_comma (back i))

pub returns-in-None : goal.returns-in-None
returns-in-None c =
    let text = c.args.text.now in
    let front = sym (c.split_at.ensures.front ∙ ap (λ n. take n text) c.part_len.ensures.value) in
    let back = sym (c.split_at.ensures.back ∙ ap (λ n. drop n text) c.part_len.ensures.value) ∙ is_nothing c.split_at.result.1.now c.in-None.ensures.cases in
    part_front text ∙ (λ i. front i ∷ behind_comma (back i))
