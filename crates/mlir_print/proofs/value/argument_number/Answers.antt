use Rattle.std.proofs.Common.{◌≡◌, ◌+◌, sym, ap, ◌∙◌, arith}
use Rattle.std.specs.Option.{option_copied}
use Rattle.std.proofs.lemmas.Option.{slice_get_within, get_or_from_slice_get}
use Rattle.mlir_print.proofs.Lookups.{kept_argument, argument_row}
use Rattle.mlir_print.proofs.value.argument_number.Goals as goal

pub index-requires : goal.index-requires
index-requires c =
    let a = kept_argument c.args.rows.now c.args.numbers.now c.requires.numbers c.args.id c.args.region c.args.place c.in-Some.found.now (sym c.entry.ensures ∙ ap option_copied c.in-Some.is) c.requires.there in
    rw c.in-Some.found.now.arguments.ok.0 (slice_get_within c.in-Some.found.now.arguments.items c.args.region a.first a.there)

pub overflow_add-result : goal.overflow_add-result
overflow_add-result c =
    let a = kept_argument c.args.rows.now c.args.numbers.now c.requires.numbers c.args.id c.args.region c.args.place c.in-Some.found.now (sym c.entry.ensures ∙ ap option_copied c.in-Some.is) c.requires.there in
    let first : c.index.result.now ≡ a.first = c.index.ensures ∙ get_or_from_slice_get c.in-Some.found.now.arguments.items c.args.region a.first c.index.result.now a.there in
    omega (arith, first, a.is, a.fits)

pub returns-in-Some : goal.returns-in-Some
returns-in-Some c =
    let a = kept_argument c.args.rows.now c.args.numbers.now c.requires.numbers c.args.id c.args.region c.args.place c.in-Some.found.now (sym c.entry.ensures ∙ ap option_copied c.in-Some.is) c.requires.there in
    let first : c.index.result.now ≡ a.first = c.index.ensures ∙ get_or_from_slice_get c.in-Some.found.now.arguments.items c.args.region a.first c.index.result.now a.there in
    ap (λ n. n + c.args.place) first ∙ a.is

pub returns-in-None : goal.returns-in-None
returns-in-None c =
    absurd (argument_row c.args.rows.now c.args.numbers.now c.requires.numbers c.args.id c.args.region c.args.place (sym c.entry.ensures ∙ ap option_copied c.in-None.is) c.requires.there)
