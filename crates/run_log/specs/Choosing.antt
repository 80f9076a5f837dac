-- Which word may stand at the front of a text.
use Rattle.std.specs.Prelude.{ℕ, ◌==◌, if◌then◌else◌, List, slice_index}
use Rattle.rewrite_model.specs.declared.run.Break.{Break}
use Rattle.rewrite_model.specs.declared.run.Break.TheVariants.{Gone, Count, Types, Top, NativeRefused, BadUse}
use Rattle.rewrite_model.specs.declared.run.BoundKind.{BoundKind}
use Rattle.rewrite_model.specs.declared.run.BoundKind.TheVariants.{Rewrites, RowLimit, SlotLimit}

abbrev pub break_of : List ℕ → Break
break_of text =
    if slice_index text 0 == 103 then Gone
    else (if slice_index text 0 == 99 then Count
    else (if slice_index text 0 == 110 then NativeRefused
    else (if slice_index text 0 == 98 then BadUse 0 0
    else (if slice_index text 1 == 121 then Types else Top))))

abbrev pub bound_of : List ℕ → BoundKind
bound_of text = if slice_index text 1 == 101 then Rewrites else (if slice_index text 1 == 111 then RowLimit else SlotLimit)
