use Rattle.std.proofs.Common.{◌≡◌, ◌+◌, ◌-◌, ◌<◌, ◌≤◌, length, length-set, sym, ap, subst, ◌∙◌, arith}
use Rattle.std.proofs.lemmas.List.{length-replicate}
use Rattle.std.specs.Prelude.{get_or}
use Rattle.std.proofs.Math.ListN.{replicate}
use Rattle.row_index.specs.Indexing.{slot_of, place_from}
use Rattle.row_index.proofs.Indexing.{slots_none, slots_more}
use Rattle.row_index.proofs.index.dense_places.Goals as goal

pub loop-at-init : goal.loop-at-init
loop-at-init c = record {
  known = λ id. ap (λ l. slot_of l id) (c.in_ok-slots.ensures.items_if_clones_equal (λ y h. h)) ∙ slots_none c.args.rows.now c.args.len (length c.args.rows.now) id (omega arith);
  long = ap length (c.in_ok-slots.ensures.items_if_clones_equal (λ y h. h)) ∙ length-replicate c.args.len 0;
  within = omega arith;
}

pub loop-at-preserved : goal.loop-at-preserved
loop-at-preserved c =
    let few : (get_or c.args.rows.now (c.loop-at.at - 1) c.index-rows-at.result).id < length c.loop-at.slots.items
    = subst (λ n. (get_or c.args.rows.now (c.loop-at.at - 1) c.index-rows-at.result).id < n) (sym c.loop-at.invariant.long)
    (c.requires (c.loop-at.at - 1) c.index-rows-at.result (omega (arith, c.loop-at.invariant.within, c.loop-at-test.true))) in
    record {
      known = slots_more c.args.rows.now c.loop-at.slots.items c.loop-at.at (c.loop-at.at - 1) c.index-rows-at.result
          (omega (arith, c.loop-at-test.true)) (omega (arith, c.loop-at.invariant.within, c.loop-at-test.true)) few c.loop-at.invariant.known;
      long = length-set _ _ _ ∙ c.loop-at.invariant.long;
      within = omega (arith, c.loop-at.invariant.within);
    }
