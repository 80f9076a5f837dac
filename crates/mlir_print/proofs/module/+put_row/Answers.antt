use Rattle.std.proofs.Common.{◌≡◌, ◌<◌, Bool, ◌+◌, ◌&&◌, [], true, false, not, length, get_or, refl, sym, ap, subst, ◌∙◌, arith}
use Rattle.std.specs.Option.{option_map_or}
use Rattle.std.proofs.lemmas.Option.{slice_get_read, slice_get_within}
use Rattle.mlir_tree.specs.declared.row.Row.{Row}
use Rattle.mlir_print.specs.ModuleText.{is_empty, region_of, region_text, row_text, inside_text}
use Rattle.mlir_print.specs.Cursor.{stands_at, IsOpen}
use Rattle.mlir_print.proofs.Printing.{prints_then, prints_as, prints_none}
use Rattle.mlir_print.proofs.Parts.{regions_more, regions_end, some_regions, no_regions, some_region, no_region}
use Rattle.mlir_tree.proofs.Places.{both_true, true_false}
use Rattle.mlir_print.proofs.Closing.{close_region, close_row, open_at, open_behind, none_yet, inside_behind, earlier_behind, inside_further, earlier_further}
use Rattle.mlir_print.proofs.Blocks.{ended, inside_blank, passed, skipped, arguments_at, arguments_there, some_items}
use Rattle.mlir_print.proofs.module.+put_row.Goals as goal

pub put_block-loop-sink-preserved : goal.put_block-loop-sink-preserved
put_block-loop-sink-preserved g t c =
    let rows = c.args.rows.now in
    let r = c.args.row.now in
    let inv = c.loop-sink.invariant in
    let ends = c.put_row-end.ensures.end in
    let behind : c.args.at < c.loop-sink.end = omega (arith, c.requires.behind, inv.0) in
    let stands : stands_at rows c.loop-sink.end (region_of r c.args.region) ≡ true = sym c.loop-sink-test.ensures in (
      omega (arith, inv.0, ends.later),
      open_behind rows c.args.at c.args.region c.loop-sink.end c.put_row-end.result inv.1 ends,
      inside_behind rows c.requires.printable.distinct c.args.at c.args.region c.args.from c.loop-sink.end c.put_row-end.result r c.requires.here behind stands inv.2 ends,
      earlier_behind rows c.args.at c.args.region c.args.from c.loop-sink.end c.put_row-end.result r c.requires.here behind stands inv.3 ends,
      λ is s more.
          inv.4 is s (prints_as _ is _ s _ _ (prints_then _ _ is _ _ s _ _ c.put_row-end.ensures.text more)
          (passed rows c.args.at c.args.region c.loop-sink.end c.put_row-end.result c.args.depth r c.requires.here behind stands ends)),
    )

pub put_block-returns-clause-text : goal.put_block-returns-clause-text
put_block-returns-clause-text g t c =
    let rows = c.args.rows.now in
    let r = c.args.row.now in
    let inv = c.loop-sink.invariant in
    let now = g.S.Sink.state c.loop-sink.sink in
    let none : stands_at rows c.loop-sink.end (region_of r c.args.region) ≡ false = sym c.loop-sink-test.ensures in
    inv.4 c.loop-sink.ok now (prints_as _ _ now now _ _ (prints_none c.loop-sink.ok now)
    (ended rows c.requires.printable.distinct c.requires.printable.nested c.args.at c.args.region c.loop-sink.end c.args.depth r c.requires.here (omega (arith, c.requires.behind, inv.0)) inv.1 none))

pub put_block-returns-clause-end : goal.put_block-returns-clause-end
put_block-returns-clause-end g t c =
    let rows = c.args.rows.now in
    let r = c.args.row.now in
    let inv = c.loop-sink.invariant in
    let none : stands_at rows c.loop-sink.end (region_of r c.args.region) ≡ false = sym c.loop-sink-test.ensures in
    record {
      later = inv.0;
      opened = close_region rows c.requires.printable.distinct c.requires.printable.nested c.args.at c.args.region c.loop-sink.end r c.requires.here (omega (arith, c.requires.behind, inv.0)) inv.1 none;
      inside = inv.2;
      earlier = inv.3;
    }

pub put_region-returns-then-is_blank-clause-text : goal.put_region-returns-then-is_blank-clause-text
put_region-returns-then-is_blank-clause-text g t c =
    let rows = c.args.rows.now in
    let r = c.args.row.now in
    let k = c.args.region in
    let found = c.as_slice-arguments.result.now in
    let inside = inside_text rows c.args.from (c.args.depth + 1) r k in
    let is : found ≡ get_or r.regions k []
    = arguments_at c.as_slice.result.now r.regions k c.index-as_slice-region.result found c.as_slice.ensures c.index-as_slice-region.is c.as_slice-arguments.ensures c.requires.region in
    let blank : (is_empty found && is_empty inside) ≡ true
    = ap (λ b. is_empty found && b) (inside_blank rows c.requires.printable.distinct c.requires.printable.nested c.args.at k c.args.from (c.args.depth + 1) r c.requires.here c.requires.behind c.requires.opened)
    ∙ sym c.if-is_blank.ensures in
    prints_as _ _ _ _ _ _ c.put.ensures (no_region rows c.args.depth r.id k found inside blank ∙ ap (λ l. region_text rows c.args.depth r.id k l inside) is)

pub put_region-returns-then-is_blank-clause-end : goal.put_region-returns-then-is_blank-clause-end
put_region-returns-then-is_blank-clause-end g t c =
    let rows = c.args.rows.now in
    let r = c.args.row.now in
    let blank : (is_empty c.as_slice-arguments.result.now && not (stands_at rows c.args.from (region_of r c.args.region))) ≡ true = sym c.if-is_blank.ensures in
    record {
      later = omega arith;
      opened = close_region rows c.requires.printable.distinct c.requires.printable.nested c.args.at c.args.region c.args.from r c.requires.here c.requires.behind c.requires.opened
          (not_true (stands_at rows c.args.from (region_of r c.args.region)) (both_true (is_empty c.as_slice-arguments.result.now) (not (stands_at rows c.args.from (region_of r c.args.region))) blank).1);
      inside = λ m s k p less. none_yet rows (region_of s k) c.args.from;
      earlier = λ s k p le. none_yet rows (region_of s k) c.args.from;
    }
  where
    not_true : (b : Bool) → not b ≡ true → b ≡ false
    not_true true p = sym p
    not_true false p = refl

pub put_region-put_label-requires-clause-there : goal.put_region-put_label-requires-clause-there
put_region-put_label-requires-clause-there g t c =
    arguments_there c.args.rows.now c.requires.printable.distinct c.args.at c.args.row.now c.requires.here c.args.region c.as_slice-arguments.result.now
    (arguments_at c.as_slice.result.now c.args.row.now.regions c.args.region c.index-as_slice-region.result c.as_slice-arguments.result.now c.as_slice.ensures c.index-as_slice-region.is c.as_slice-arguments.ensures c.requires.region)
    c.requires.region

pub put_region-put_block-end-requires : goal.put_region-put_block-end-requires
put_region-put_block-end-requires g t c κs within = (
  omega (arith, c.decreases, c.requires.behind, slice_get_within c.args.rows.now c.args.at c.args.row.now c.requires.here),
  (within, (c.requires.printable, (c.requires.here, (omega (arith, c.requires.deep), (c.requires.behind, c.requires.opened))))),
)

pub put_region-returns-clause-text : goal.put_region-returns-clause-text
put_region-returns-clause-text g t c =
    let rows = c.args.rows.now in
    let r = c.args.row.now in
    let k = c.args.region in
    let found = c.as_slice-arguments.result.now in
    let inside = inside_text rows c.args.from (c.args.depth + 1) r k in
    let is : found ≡ get_or r.regions k []
    = arguments_at c.as_slice.result.now r.regions k c.index-as_slice-region.result found c.as_slice.ensures c.index-as_slice-region.is c.as_slice-arguments.ensures c.requires.region in
    let filled : (is_empty found && is_empty inside) ≡ false
    = ap (λ b. is_empty found && b) (inside_blank rows c.requires.printable.distinct c.requires.printable.nested c.args.at k c.args.from (c.args.depth + 1) r c.requires.here c.requires.behind c.requires.opened)
    ∙ sym c.if-is_blank.ensures in
    prints_as _ _ _ _ _ _
    (prints_then _ _ _ _ _ _ _ _ c.put-2.ensures (prints_then _ _ _ _ _ _ _ _ c.put_label.ensures (prints_then _ _ _ _ _ _ _ _ c.put_block-end.ensures.text
    (prints_then _ _ _ _ _ _ _ _ c.put_indent.ensures c.put-3.ensures))))
    (some_region rows c.args.depth r.id k found inside filled ∙ ap (λ l. region_text rows c.args.depth r.id k l inside) is)

pub put_regions-returns-then-is_empty-clause-text : goal.put_regions-returns-then-is_empty-clause-text
put_regions-returns-then-is_empty-clause-text g t c =
    let r = c.args.row.now in
    let none : r.regions ≡ [] = c.is_empty.ensures.0 c.if-is_empty.true in
    prints_as _ _ _ _ _ _ (prints_none _ _)
    (no_regions c.args.rows.now c.args.depth r (inside_text c.args.rows.now (c.args.at + 1) (c.args.depth + 1) r) (ap is_empty none))

pub put_regions-returns-then-is_empty-clause-end : goal.put_regions-returns-then-is_empty-clause-end
put_regions-returns-then-is_empty-clause-end g t c =
    let rows = c.args.rows.now in
    let r = c.args.row.now in
    let none : r.regions ≡ [] = c.is_empty.ensures.0 c.if-is_empty.true in
    record {
      later = omega arith;
      behind = close_row rows c.requires.printable.distinct c.requires.printable.nested c.args.at (c.args.at + 1) r c.requires.here
          (subst (λ n. IsOpen rows c.args.at n (c.args.at + 1)) (sym (ap length none)) (open_at rows c.args.at));
      inside = λ m s k p less. none_yet rows (region_of s k) (c.args.at + 1);
    }

pub put_regions-loop-region-preserved : goal.put_regions-loop-region-preserved
put_regions-loop-region-preserved g t c =
    let rows = c.args.rows.now in
    let r = c.args.row.now in
    let k = c.loop-region.region in
    let inv = c.loop-region.invariant in
    let ends = c.put_region-end.ensures.end in (
      omega (arith, inv.0, ends.later),
      ends.opened,
      inside_further rows c.args.at (c.args.at + 1) c.loop-region.end c.put_region-end.result inv.2 ends.inside,
      earlier_further rows c.args.at k (c.args.at + 1) c.loop-region.end c.put_region-end.result inv.3 ends.earlier,
      λ is s more.
          let region = prints_as _ _ _ _ _ _ c.put_region-end.ensures.text
          (ap (λ text. region_text rows c.args.depth r.id k (get_or r.regions k []) text) (skipped rows c.args.at k c.loop-region.end (c.args.depth + 1) r c.requires.here inv.0 inv.3)) in
          inv.4 is s (prints_as _ is _ s _ _ (prints_then _ _ is _ _ s _ _ c.put_separator.ensures (prints_then _ _ is _ _ s _ _ region more))
          (regions_more rows c.args.depth r.id (inside_text rows (c.args.at + 1) (c.args.depth + 1) r) r.regions k (omega (arith, c.loop-region-test.true, c.len-region-end.ensures)))),
    )

pub put_regions-returns-clause-text : goal.put_regions-returns-clause-text
put_regions-returns-clause-text g t c =
    let rows = c.args.rows.now in
    let r = c.args.row.now in
    let inside = inside_text rows (c.args.at + 1) (c.args.depth + 1) r in
    let now = g.S.Sink.state c.loop-region.sink in
    let texts = c.loop-region.invariant.4 c.loop-region.ok now
    (prints_as _ _ now now _ _ (prints_none c.loop-region.ok now)
    (regions_end rows c.args.depth r.id inside r.regions c.loop-region.region (omega (arith, c.loop-region-test.false, c.len-region-end.ensures)))) in
    let some : is_empty r.regions ≡ false = some_items r.regions (λ e. true_false c.is_empty.result (c.is_empty.ensures.1 e) c.if-is_empty.false) in
    prints_as _ _ _ _ _ _ (prints_then _ _ _ _ _ _ _ _ c.put.ensures (prints_then _ _ _ _ _ _ _ _ texts c.put-2.ensures)) (some_regions rows c.args.depth r inside some)

pub put_regions-returns-clause-end : goal.put_regions-returns-clause-end
put_regions-returns-clause-end g t c =
    let rows = c.args.rows.now in
    let r = c.args.row.now in
    let inv = c.loop-region.invariant in
    let all : c.loop-region.region ≡ length r.regions = omega (arith, c.loop-region-test.false, c.len-region-end.ensures, c.loop-region.auto.region-end) in
    record {
      later = omega (arith, inv.0);
      behind = close_row rows c.requires.printable.distinct c.requires.printable.nested c.args.at c.loop-region.end r c.requires.here (subst (λ n. IsOpen rows c.args.at n c.loop-region.end) all inv.1);
      inside = inv.2;
    }

pub put_row-returns-clause-text : goal.put_row-returns-clause-text
unfolding row_text
put_row-returns-clause-text g t c =
    let rows = c.args.rows.now in
    let at_row = slice_get_read rows (length rows) c.args.at c.index-rows-at.result refl c.requires.within c.index-rows-at.is in
    prints_as _ _ _ _ _ _ (prints_then _ _ _ _ _ _ _ _ c.put_head.ensures (prints_then _ _ _ _ _ _ _ _ c.put_regions-end.ensures.text c.put_tail.ensures))
    (ap (λ o. option_map_or (λ (r : Row). row_text rows c.args.depth r (inside_text rows (c.args.at + 1) (c.args.depth + 1) r)) o []) (sym at_row))
