use Rattle.std.proofs.Common.{◌≡◌, ap, sym, subst, ◌∙◌, None, ◌++◌, ◌∷◌, []}
use Rattle.mlir_attributes.specs.Aliases.{find, defined, AreNamed}
use Rattle.mlir_attributes.proofs.Defined.{still_named, defined_last}
use Rattle.mlir_attributes.proofs.aliases.Aliases.define.Goals as goal

pub invariant_of-self-2 : goal.invariant_of-self-2
invariant_of-self-2 c =
    let m = c.self.inside.by_name in
    let same : (c.in_ok-name.name).items ≡ c.args.alias.name = c.in_ok-name.ensures.items ∙ c.as_slice.ensures in
    let new : find c.args.alias.name (defined m.entries) ≡ None = ap (find c.args.alias.name) c.self.view_is ∙ c.requires in
    subst AreNamed (sym c.in_ok-insert.ensures.entries) (still_named m c.in_ok-name.name c.args.alias c.self.invariant same new)

pub returns : goal.returns
returns c =
    let m = c.self.inside.by_name in
    let same : (c.in_ok-name.name).items ≡ c.args.alias.name = c.in_ok-name.ensures.items ∙ c.as_slice.ensures in
    let new : find c.args.alias.name (defined m.entries) ≡ None = ap (find c.args.alias.name) c.self.view_is ∙ c.requires in
    ap defined c.in_ok-insert.ensures.entries ∙ (defined_last m c.in_ok-name.name c.args.alias c.self.invariant same new ∙ ap (λ xs. xs ++ c.args.alias ∷ []) c.self.view_is)
