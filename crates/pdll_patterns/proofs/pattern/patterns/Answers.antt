use Rattle.std.proofs.Common.{◌≡◌, ◌+◌, ◌∷◌, ◌++◌, [], map, drop, sym, ap, ◌∙◌, subst, arith}
use Rattle.rewrite_model.specs.Expanding.{patterns_from, patterns}
use Rattle.pdll_patterns.specs.View.{pattern_of}
use Rattle.pdll_patterns.specs.Files.{pattern_in}
use Rattle.pdll_patterns.proofs.Declaring.{patterns_more, joined}
use Rattle.pdll_patterns.proofs.Loops.{next_item, none_behind, append_none}
use Rattle.pdll_patterns.proofs.pattern.patterns.Goals as goal

pub loop-d-preserved : goal.loop-d-preserved
loop-d-preserved c =
    let ds = c.loop-d.invariant.0 in
    let h = c.loop-d.invariant.1.0 in
    let i = c.loop-d.d-index in
    let d = c.d-item.result in
    let found = map pattern_of c.loop-d.found in
    let rest = drop (i + 1) c.args.file.now.decls in
    let here = subst (λ xs. drop i xs ≡ d ∷ drop (i + 1) xs) c.as_slice-d-items.ensures (next_item c.as_slice-d-items.result.now i d (omega arith) c.d-item.is) in (
      d ∷ ds,
      (
        c.in_ok-declare.ensures ds h,
        c.loop-d.invariant.1.1
            ∙ (ap (λ xs. found ++ patterns_from ds xs) here
            ∙ (ap (λ ps. found ++ ps) (patterns_more ds d rest)
            ∙ (joined found (pattern_in ds d) (patterns_from (d ∷ ds) rest)
            ∙ ap (λ ps. ps ++ patterns_from (d ∷ ds) rest) (sym (c.in_ok-add_pattern.ensures ds h))))),
      ),
    )

pub returns : goal.returns
unfolding patterns
returns c =
    let ds = c.loop-d.invariant.0 in
    let i = c.loop-d.d-index in
    let found = map pattern_of c.loop-d.found in
    let here = subst (λ xs. drop i xs ≡ []) c.as_slice-d-items.ensures (none_behind c.as_slice-d-items.result.now i (omega arith)) in
    record { exact = sym (c.loop-d.invariant.1.1 ∙ (ap (λ xs. found ++ patterns_from ds xs) here ∙ append_none found)) }
