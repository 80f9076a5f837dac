use Rattle.std.proofs.Common.{◌≡◌, ℕ, List, Option, map, ap, sym, ◌∙◌, subst}
use Rattle.std.specs.Option.{option_map_or}
use Rattle.native_set.specs.declared.native.Kind.{Kind}
use Rattle.native_set.specs.declared.native.Kind.TheVariants as kind
use Rattle.native_set.specs.declared.native.Rewrite.{Rewrite}
use Rattle.native_set.specs.Table.{rewrite_of}
use Rattle.rewrite_model.specs.Pattern.{native}
use Rattle.rewrite_model.specs.RewritePart.{make}
use Rattle.rewrite_model.specs.Expanding.{make_native, given_kind}
use Rattle.pdll_patterns.specs.View.{part_of, meant_part_of}
use Rattle.pdll_patterns.specs.Scripts.{Gave, Does}
use Rattle.pdll_patterns.proofs.Loops.{map_twice}
use Rattle.pdll_patterns.proofs.Steps.{both}
use Rattle.pdll_patterns.proofs.natives.make_native.Goals as goal

-- the native of a name, kinds and what is given
same_native : (n m : List ℕ) (ks js hs : List Kind) (g f : Option Kind) (r : Option Rewrite) → r ≡ rewrite_of n ks g → n ≡ m → ks ≡ js → js ≡ hs → g ≡ f → r ≡ rewrite_of m hs f
same_native n m ks js hs g f r e a b d h = e ∙ (ap (λ x. rewrite_of x ks g) a ∙ (ap (λ x. rewrite_of m x g) (b ∙ d) ∙ ap (rewrite_of m hs) h))

pub returns-in-None : goal.returns-in-None
returns-in-None c = λ names.
    let call = c.args.call.now in
    let all = c.args.arguments.now in
    let xs = map meant_part_of all in
    let old = both names c.args.script.now in
    let e = same_native c.as_slice.result.now call.name.text c.as_slice-2.result.now c.in_ok-kinds.kinds (map (λ x. x.kind) xs) c.given_kind-given.result (given_kind call) c.rewrite.result
    c.rewrite.ensures c.as_slice.ensures c.as_slice-2.ensures (c.in_ok-kinds.ensures ∙ sym (map_twice meant_part_of (λ x. x.kind) all)) c.given_kind-given.ensures in
    subst (λ (r : Option Rewrite). Gave meant_part_of (make_native r (option_map_or (λ k. k) (given_kind call) kind.Attr) xs) old c.none.result old) (sym c.in-None.is ∙ e) (λ t i. (c.none.ensures, i))

pub returns : goal.returns
returns c = λ names.
    let call = c.args.call.now in
    let all = c.args.arguments.now in
    let xs = map meant_part_of all in
    let old = both names c.args.script.now in
    let new = both names c.make.new.self in
    let r = c.in-Some.native in
    let res = c.make.result in
    let e = same_native c.as_slice.result.now call.name.text c.as_slice-2.result.now c.in_ok-kinds.kinds (map (λ x. x.kind) xs) c.given_kind-given.result (given_kind call) c.rewrite.result
    c.rewrite.ensures c.as_slice.ensures c.as_slice-2.ensures (c.in_ok-kinds.ensures ∙ sym (map_twice meant_part_of (λ x. x.kind) all)) c.given_kind-given.ensures in
    let parts = ap (map part_of) c.in_ok-parts-in-Some.ensures ∙ (map_twice (λ x. x.is) part_of all ∙ sym (map_twice meant_part_of (λ x. x.is) all)) in
    let given = c.kind_or_attr.ensures ∙ ap (λ o. option_map_or (λ k. k) o kind.Attr) c.given_kind-given.ensures in
    let one = subst (λ ps. Does meant_part_of (make c.kind_or_attr.result (native r ps)) old res new) parts (c.make.ensures names) in
    let two = subst (λ k. Does meant_part_of (make k (native r (map (λ x. x.is) xs))) old res new) given one in
    subst (λ (q : Option Rewrite). Does meant_part_of (make_native q (option_map_or (λ k. k) (given_kind call) kind.Attr) xs) old res new) (sym c.in-Some.is ∙ e) two
