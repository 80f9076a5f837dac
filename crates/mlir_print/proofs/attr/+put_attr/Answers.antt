use Rattle.std.proofs.Common.{◌≡◌, ◌++◌, codes, length, rules, arith, sym, ap}
use Rattle.std.proofs.lemmas.Bool.Decides.{nat_tests}
use Rattle.std.proofs.lemmas.List.{at_drop_all}
use Rattle.mlir_tree.specs.Tree.{attrs, entries}
use Rattle.mlir_tree.specs.Measure.{attr_item, entry_item}
use Rattle.mlir_print.specs.Text.{string_text, typed_text, colon_type_text, is_unit, entry_by, attr_text, attrs_text, more_attrs_text, entries_text, more_entries_text}
use Rattle.mlir_print.proofs.Printing.{prints_then, prints_as, prints_none}
use Rattle.mlir_print.proofs.Lists.{attrs_none, attrs_more, attrs_first, entries_none, entries_more, entries_first}
use Rattle.mlir_print.proofs.attr.+put_attr.Goals as goal

pub put_attr-returns-in-Num : goal.put_attr-returns-in-Num
unfolding attr_text
put_attr-returns-in-Num g t c =
    let is : c.as_slice.result.now ++ colon_type_text c.in-Num.ty ≡ attr_text c.args.attr.now = search rules in
    prints_as _ _ _ _ _ _ (prints_then _ _ _ _ _ _ _ _ c.put-in-Num.ensures c.put_colon_ty.ensures) is

pub put_attr-returns-in-Str : goal.put_attr-returns-in-Str
unfolding attr_text
put_attr-returns-in-Str g t c =
    let is : string_text c.as_slice-in-Str.result.now ++ typed_text c.in-Str.ty ≡ attr_text c.args.attr.now = search rules in
    prints_as _ _ _ _ _ _ (prints_then _ _ _ _ _ _ _ _ c.put_string.ensures c.put_typed.ensures) is

pub put_attr-returns-in-Kept : goal.put_attr-returns-in-Kept
unfolding attr_text
put_attr-returns-in-Kept g t c =
    let is : c.as_slice-in-Kept.result.now ++ typed_text c.in-Kept.ty ≡ attr_text c.args.attr.now = search rules in
    prints_as _ _ _ _ _ _ (prints_then _ _ _ _ _ _ _ _ c.put-in-Kept.ensures c.put_typed-in-Kept.ensures) is

pub put_attr-returns-in-Array : goal.put_attr-returns-in-Array
unfolding attr_text
put_attr-returns-in-Array g t c =
    let is : codes "[" ++ (attrs_text (attrs c.as_slice-in-Array.result.now) ++ codes "]") ≡ attr_text c.args.attr.now = search rules in
    prints_as _ _ _ _ _ _ (prints_then _ _ _ _ _ _ _ _ c.put-in-Array.ensures (prints_then _ _ _ _ _ _ _ _ c.put_attrs.ensures c.put-in-Array-2.ensures)) is

pub put_attr-returns-in-Dict : goal.put_attr-returns-in-Dict
unfolding attr_text
put_attr-returns-in-Dict g t c =
    let is : codes "{" ++ (entries_text (entries c.as_slice-in-Dict.result.now) ++ codes "}") ≡ attr_text c.args.attr.now = search rules in
    prints_as _ _ _ _ _ _ (prints_then _ _ _ _ _ _ _ _ c.put-in-Dict.ensures (prints_then _ _ _ _ _ _ _ _ c.put_entries.ensures c.put-in-Dict-2.ensures)) is

pub put_attrs-returns-then-is_empty : goal.put_attrs-returns-then-is_empty
put_attrs-returns-then-is_empty g t c =
    let none : length c.args.all.now ≡ 0 = grind (arith, nat_tests) in
    prints_as _ _ _ _ _ _ (prints_none _ _) (attrs_none c.args.all.now none)

pub put_attrs-returns : goal.put_attrs-returns
put_attrs-returns g t c =
    prints_as _ _ _ _ _ _
    (prints_then _ _ _ _ _ _ _ _ c.put_attr.ensures (prints_as _ _ _ _ _ _ c.put_more_attrs.ensures (ap (λ xs. more_attrs_text (attrs xs)) c.split_at.ensures.back)))
    (attrs_first c.args.all.now c.index-all-0.result (grind (arith, nat_tests)) c.index-all-0.is)

pub put_more_attrs-put_attr-requires : goal.put_more_attrs-put_attr-requires
put_more_attrs-put_attr-requires g t c κs within =
    (omega (arith, c.decreases, attr_item c.args.all.now c.loop-attr.attr-index c.attr-item.result (omega arith) c.attr-item.is), within)

pub put_more_attrs-loop-attr-preserved : goal.put_more_attrs-loop-attr-preserved
put_more_attrs-loop-attr-preserved g t c = λ is s more.
    c.loop-attr.invariant is s (prints_as _ is _ s _ _
    (prints_then _ _ is _ _ s _ _ c.put.ensures (prints_then _ _ is _ _ s _ _ c.put_attr.ensures more))
    (attrs_more c.args.all.now c.loop-attr.attr-index c.attr-item.result (omega arith) c.attr-item.is))

pub put_more_attrs-returns : goal.put_more_attrs-returns
unfolding attr_text
put_more_attrs-returns g t c =
    let now = g.S.Sink.state c.loop-attr.sink in
    c.loop-attr.invariant c.loop-attr.ok now
    (prints_as _ _ now now _ _ (prints_none c.loop-attr.ok now) (sym (at_drop_all (λ xs. more_attrs_text (attrs xs)) c.args.all.now c.loop-attr.attr-index (omega arith))))

pub put_entry-returns : goal.put_entry-returns
put_entry-returns g t c =
    let name = c.args.name.now in
    let text = attr_text c.args.attr.now in
    prints_as _ _ _ _ _ _
    (prints_then _ _ _ _ _ _ _ _ c.put_name.ensures (prints_then _ _ _ _ _ _ _ _ c.put.ensures c.put_attr.ensures))
    (ap (λ b. entry_by b name text) c.if-is_unit.ensures)

pub put_entries-returns-then-is_empty : goal.put_entries-returns-then-is_empty
put_entries-returns-then-is_empty g t c =
    let none : length c.args.all.now ≡ 0 = grind (arith, nat_tests) in
    prints_as _ _ _ _ _ _ (prints_none _ _) (entries_none c.args.all.now none)

pub put_entries-returns : goal.put_entries-returns
put_entries-returns g t c =
    let first = c.index-all-0.result in
    let named = prints_as _ _ _ _ _ _ c.put_entry.ensures (ap (λ n. entry_by (is_unit first.1) n (attr_text first.1)) c.as_slice.ensures) in
    prints_as _ _ _ _ _ _
    (prints_then _ _ _ _ _ _ _ _ named (prints_as _ _ _ _ _ _ c.put_more_entries.ensures (ap (λ xs. more_entries_text (entries xs)) c.split_at.ensures.back)))
    (entries_first c.args.all.now first (grind (arith, nat_tests)) c.index-all-0.is)

pub put_more_entries-put_entry-requires : goal.put_more_entries-put_entry-requires
put_more_entries-put_entry-requires g t c κs within =
    (omega (arith, c.decreases, entry_item c.args.all.now c.loop-entry.entry-index c.entry-item.result (omega arith) c.entry-item.is), within)

pub put_more_entries-loop-entry-preserved : goal.put_more_entries-loop-entry-preserved
put_more_entries-loop-entry-preserved g t c = λ is s more.
    let item = c.entry-item.result in
    let named = prints_as _ _ _ _ _ _ c.put_entry.ensures (ap (λ n. entry_by (is_unit item.1) n (attr_text item.1)) c.as_slice.ensures) in
    c.loop-entry.invariant is s (prints_as _ is _ s _ _
    (prints_then _ _ is _ _ s _ _ c.put.ensures (prints_then _ _ is _ _ s _ _ named more))
    (entries_more c.args.all.now c.loop-entry.entry-index item (omega arith) c.entry-item.is))

pub put_more_entries-returns : goal.put_more_entries-returns
unfolding attr_text
put_more_entries-returns g t c =
    let now = g.S.Sink.state c.loop-entry.sink in
    c.loop-entry.invariant c.loop-entry.ok now
    (prints_as _ _ now now _ _ (prints_none c.loop-entry.ok now) (sym (at_drop_all (λ xs. more_entries_text (entries xs)) c.args.all.now c.loop-entry.entry-index (omega arith))))
