use Rattle.std.proofs.Common.{take, sym, ap, ◌∙◌, option_map}
use Rattle.std.specs.Option.{unwrap_or}
use Rattle.pdll_expand.specs.Behind.{behind}
use Rattle.pdll_expand.specs.View.{written_of}
use Rattle.pdll_expand.specs.Table.{calls_of}
use Rattle.pdll_expand.proofs.Behind.{kind_at}
use Rattle.pdll_expand.proofs.Known.{told_param}
use Rattle.pdll_expand.proofs.sight.Sight.param.Goals as goal

pub returns-in-None-param : goal.returns-in-None-param
returns-in-None-param c =
    let f = c.in-Some.found in
    let is = sym (ap (option_map written_of) c.in-None-param.is) ∙ (c.param.ensures ∙ kind_at (calls_of c.args.self.constraints.now) f.at f.call.now (sym c.in-Some.ensures.there)) in
    absurd (cc)

pub returns-in-Some-param : goal.returns-in-Some-param
returns-in-Some-param c =
    let s = c.args.self in
    let f = c.in-Some.found in
    let n = c.args.name.now in
    let w = written_of c.in-Some-param.written in
    let is = sym (ap (option_map written_of) c.in-Some-param.is) ∙ (c.param.ensures ∙ kind_at (calls_of s.constraints.now) f.at f.call.now (sym c.in-Some.ensures.there)) in
    let means = told_param s.bodies (behind (take s.count (calls_of s.constraints.now))) n ∙ ap (λ q. q.param) c.in-Some.ensures.means in
    ap (λ o. unwrap_or o w) is ∙ sym means
