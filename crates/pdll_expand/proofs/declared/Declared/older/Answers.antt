use Rattle.std.proofs.Common.{◌≡◌, ◌<◌, Option, Some, [], IfSome, option_copied, option_map, slice_get, take, ap, sym, ◌∙◌, subst}
use Rattle.std.specs.Option.{option_map_or}
use Rattle.pdll_syntax.specs.declared.file.CallDecl.{CallDecl}
use Rattle.pdll_expand.specs.Called.{last_named, name_at, call_of}
use Rattle.pdll_expand.proofs.Calling.{get_mapped, last_before}
use Rattle.pdll_expand.proofs.declared.Declared.older.Goals as goal

pub returns-in-Some-clause-found : goal.returns-in-Some-clause-found
returns-in-Some-clause-found c = λ calls h l.
    let at = c.args.at in
    let known = c.args.self.now.calls in
    let k = c.in-Some.known.now in
    let n = (call_of k).name.text in
    let e : Some k ≡ slice_get known at = sym (ap option_copied c.in-Some.is) ∙ c.get.ensures.value in
    let o = h.older_are at k e in
    let named = ap (λ cs. name_at cs at) (sym h.calls_are)
    ∙ ap (λ (q : Option CallDecl). option_map_or (λ c. c.name.text) q []) (get_mapped call_of known at ∙ ap (option_map call_of) (sym e)) in
    let same = c.below.ensures.same (subst (λ q. IfSome q (λ j. j < at)) (sym o) (last_before n calls at)) in
    same ∙ (o ∙ ap (λ m. last_named m (take at calls)) (sym named))
