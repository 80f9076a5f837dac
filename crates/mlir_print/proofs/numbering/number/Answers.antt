use Rattle.std.proofs.Common.{◌≡◌, suc, ◌+◌, ◌≤◌, true, false, [], ◌∷◌, ◌++◌, length, take, refl, sym, ap, subst, ◌∙◌, arith}
use Rattle.std.specs.Prelude.{All, nat_lt}
use Rattle.std.proofs.lemmas.Bool.Decides.{nat_tests}
use Rattle.std.proofs.lemmas.Option.{slice_get_read}
use Rattle.mlir_tree.specs.declared.row.Row.{Row}
use Rattle.mlir_tree.specs.WellFormed.{HasSizes}
use Rattle.mlir_print.specs.declared.numbers.Numbers.{Numbers}
use Rattle.mlir_print.specs.ModuleText.{is_empty}
use Rattle.mlir_print.specs.Numbering.{has_results, with_results, arguments_of, arguments_in}
use Rattle.mlir_print.specs.Starts.{starts}
use Rattle.row_index.specs.Indexing.{Indexes}
use Rattle.mlir_print.specs.NumberMaps.{AreNumbersOf}
use Rattle.mlir_tree.proofs.Places.{IsAt, same_row, true_false}
use Rattle.mlir_print.proofs.Blocks.{some_items}
use Rattle.mlir_print.proofs.Counting.{AreKept, few_before, arguments_in-more, with_results-more, with_results-same, keep_more, numbers_are}
use Rattle.mlir_print.proofs.numbering.number.Goals.{then-not-is_empty, else-not-is_empty}
use Rattle.mlir_print.proofs.numbering.number.Goals as goal

pub starts-requires : goal.starts-requires
starts-requires c =
    let rows = c.as_slice-rows.result.now in
    let row = c.index-rows-place.result in
    let at_row = slice_get_read rows (length rows) c.loop-place.place row refl c.loop-place-test.true c.index-rows-place.is in
    let sizes : All HasSizes rows = subst (All HasSizes) (sym c.as_slice-rows.ensures) c.requires.sizes in
    omega (arith, c.loop-place.invariant.2, few_before rows sizes c.as_slice-rows.type_inv.0 c.loop-place.place row at_row, ap arguments_of c.as_slice.ensures)

pub overflow_add-argument : goal.overflow_add-argument
overflow_add-argument c =
    let rows = c.as_slice-rows.result.now in
    let row = c.index-rows-place.result in
    let at_row = slice_get_read rows (length rows) c.loop-place.place row refl c.loop-place-test.true c.index-rows-place.is in
    let sizes : All HasSizes rows = subst (All HasSizes) (sym c.as_slice-rows.ensures) c.requires.sizes in
    omega (arith, c.loop-place.invariant.2, few_before rows sizes c.as_slice-rows.type_inv.0 c.loop-place.place row at_row, c.argument_count-argument.ensures.count, ap arguments_of c.as_slice-in-loop-place.ensures)

pub loop-place-preserved : goal.loop-place-preserved
loop-place-preserved c =
    let rows = c.as_slice-rows.result.now in
    let row = c.index-rows-place.result in
    let place = c.loop-place.place in
    let inv = c.loop-place.invariant in
    let next : suc place ≡ place + 1 = omega arith in
    let at_row : IsAt rows place row = slice_get_read rows (length rows) place row refl c.loop-place-test.true c.index-rows-place.is in
    let counted : (c.if-not-is_empty.result ≡ with_results (take (suc place) rows)) × (c.if-not-is_empty.result ≤ suc place)
    = elim c.if-not-is_empty.branch [
      | then-not-is_empty w ↦
          let some : is_empty row.results ≡ false = some_items row.results (λ e. true_false c.is_empty.result (c.is_empty.ensures.1 e) w.if-not-is_empty.true) in
          let has : has_results row ≡ true = grind (arith, nat_tests, some) in
          let more = with_results-more rows place row at_row has in
          (omega (arith, w.result-is, inv.0, more), omega (arith, w.result-is, inv.1))
      | else-not-is_empty w ↦
          let none : has_results row ≡ false = ap (λ l. nat_lt 0 (length l)) (c.is_empty.ensures.0 w.if-not-is_empty.false) in
          let same = with_results-same rows place row at_row none in
          (omega (arith, w.result-is, inv.0, same), omega (arith, w.result-is, inv.1))
    ] in
    let more = arguments_in-more rows place row at_row in (
      counted.0 ∙ ap (λ n. with_results (take n rows)) next,
      omega (arith, counted.1),
      (let sum : c.loop-place.argument + c.argument_count-argument.result ≡ arguments_in (take (suc place) rows)
          = omega (arith, inv.2, more, c.argument_count-argument.ensures.count, ap arguments_of c.as_slice-in-loop-place.ensures) in sum)
          ∙ ap (λ n. arguments_in (take n rows)) next,
      subst (λ l. AreKept rows (place + 1) l) (sym c.in_ok-push.ensures.items) (subst (λ n. AreKept rows n (c.loop-place.found.items ++ (record { result = c.loop-place.result; arguments = c.in_ok-arguments.arguments } ∷ []))) next
          (keep_more rows place c.loop-place.found.items (record { result = c.loop-place.result; arguments = c.in_ok-arguments.arguments }) inv.3
          (record {
            result = inv.0;
            arguments = λ r p. c.in_ok-arguments.ensures ∙ (λ i. starts (inv.2 i) ((c.as_slice.ensures ∙ ap (λ (t : Row). t.regions) (same_row rows place row r at_row p)) i));
          }))),
    )

pub returns : goal.returns
returns c =
    let rows = c.as_slice-rows.result.now in
    let sizes : All HasSizes rows = subst (All HasSizes) (sym c.as_slice-rows.ensures) c.requires.sizes in
    let all : c.loop-place.place ≡ length rows = omega (arith, c.loop-place-test.false, c.loop-place.auto.place-end) in
    let m : Numbers = record { index = c.in_ok-index.index; rows = c.loop-place.found } in
    subst (λ l. AreNumbersOf l m) c.as_slice-rows.ensures
    (numbers_are rows sizes c.as_slice-rows.type_inv.0 m (subst (Indexes m.index) (sym c.as_slice-rows.ensures) c.in_ok-index.ensures) (subst (λ n. AreKept rows n m.rows.items) all c.loop-place.invariant.3))
