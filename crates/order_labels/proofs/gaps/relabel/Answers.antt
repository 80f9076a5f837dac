use Rattle.std.proofs.Common.{◌≡◌, ◌≤◌, ◌+◌, ◌*◌, ◌/◌, suc, ap, sym, arith}
use Rattle.order_labels.specs.Chain.{link_at}
use Rattle.order_labels.proofs.Writes.{labelled_there}
use Rattle.order_labels.proofs.Levels.{two_apart, steps_within}
use Rattle.order_labels.proofs.Spreading.{spots_apart, spots_labelled, relabelled, gap_made}
use Rattle.order_labels.proofs.gaps.relabel.Goals as goal

pub spread-requires-clause-apart : goal.spread-requires-clause-apart
spread-requires-clause-apart c =
    spots_apart (link_at c.args.links.now) c.args.count c.args.at.0 c.requires.order c.uncrowded.result.0.before.0 c.uncrowded.result.0.len c.uncrowded.result.0.after.0 c.uncrowded.ensures.stretch

pub spread-requires-clause-there : goal.spread-requires-clause-there
spread-requires-clause-there c = λ i l m.
    labelled_there c.args.links.now _
    (spots_labelled (link_at c.args.links.now) c.args.count c.args.at.0 c.requires.order c.uncrowded.result.0.before.0 c.uncrowded.result.0.len c.uncrowded.result.0.after.0
    c.uncrowded.ensures.stretch i l m)

pub returns-clause-relabels : goal.returns-clause-relabels
returns-clause-relabels c =
    let l = link_at c.args.links.now in
    let n = c.uncrowded.result.0.len in
    let w = c.uncrowded.result.1.width in
    let more : suc n ≡ n + 1 = omega arith in
    let wide : 2 * suc n ≤ w = omega (arith, c.uncrowded.ensures.wide) in
    let same : w / (n + 1) ≡ w / suc n = ap (λ m. w / m) (sym more) in
    let within : suc n * (w / (n + 1)) ≤ w = omega (arith, steps_within w n, ap (λ m. suc n * m) same) in
    relabelled l (link_at c.spread.new.links) c.args.count c.args.at.0 c.requires.order c.uncrowded.result.0.before.0 n c.uncrowded.result.0.after.0 c.uncrowded.result.1.base (w / (n + 1))
    c.uncrowded.ensures.stretch c.spread.ensures.spreads (omega (arith, two_apart w n wide, same)) c.uncrowded.ensures.low (omega (arith, within, c.uncrowded.ensures.high))
    (omega (arith, within, c.uncrowded.ensures.top))

pub returns-clause-gap : goal.returns-clause-gap
returns-clause-gap c =
    let l = link_at c.args.links.now in
    let n = c.uncrowded.result.0.len in
    let w = c.uncrowded.result.1.width in
    let more : suc n ≡ n + 1 = omega arith in
    let wide : 2 * suc n ≤ w = omega (arith, c.uncrowded.ensures.wide) in
    let same : w / (n + 1) ≡ w / suc n = ap (λ m. w / m) (sym more) in
    let within : suc n * (w / (n + 1)) ≤ w = omega (arith, steps_within w n, ap (λ m. suc n * m) same) in
    gap_made l (link_at c.spread.new.links) c.args.count c.args.at.0 c.requires.order c.uncrowded.result.0.before.0 n c.uncrowded.result.0.after.0 c.uncrowded.result.1.base (w / (n + 1))
    c.uncrowded.ensures.stretch c.spread.ensures.spreads (omega (arith, two_apart w n wide, same)) c.uncrowded.ensures.low (omega (arith, within, c.uncrowded.ensures.high))
    (omega (arith, within, c.uncrowded.ensures.top))
