-- The text of a log. It is this project's.
use Rattle.std.specs.Prelude.{ℕ, ◌+◌, List, [], ◌∷◌, ◌++◌, length, codes, decimal}
use Rattle.std.specs.List.{concat, join_by}
use Rattle.mlir_print.specs.Text.{string_text}
use Rattle.rewrite_model.specs.declared.run.Break.{Break}
use Rattle.rewrite_model.specs.declared.run.Break.TheVariants.{Gone, Count, Types, Top, NativeRefused, BadUse}
use Rattle.rewrite_model.specs.declared.run.BoundKind.{BoundKind}
use Rattle.rewrite_model.specs.declared.run.BoundKind.TheVariants.{Rewrites, RowLimit, SlotLimit}
use Rattle.rewrite_model.specs.declared.run.Ending.{Ending}
use Rattle.rewrite_model.specs.declared.run.Ending.TheVariants.{Converged, Bound, Broken}
use Rattle.rewrite_model.specs.Taken.{Taken}

-- numbers with commas between, or a dash
abbrev pub numbers_text : List ℕ → List ℕ
numbers_text [] = codes "-"
numbers_text (n ∷ ns) = join_by decimal (codes ",") (n ∷ ns)

-- the k-th step, from 1
unfoldable pub step_line : ℕ → Taken → List ℕ
step_line k s =
    concat (codes "step " ∷ decimal k ∷ codes " pattern " ∷ decimal s.pattern ∷ codes " " ∷ string_text s.name ∷ codes " root " ∷ decimal s.root
    ∷ codes " made " ∷ numbers_text s.made ∷ codes " removed " ∷ numbers_text s.removed ∷ codes "\n" ∷ [])

unfoldable pub step_lines : ℕ → List Taken → List ℕ
step_lines k [] = []
step_lines k (s ∷ ss) = step_line k s ++ step_lines (k + 1) ss

abbrev pub break_text : Break → List ℕ
break_text Gone = codes "gone"
break_text Count = codes "count"
break_text Types = codes "types"
break_text Top = codes "top"
break_text NativeRefused = codes "native-refused"
break_text (BadUse row place) = concat (codes "bad-use row " ∷ decimal row ∷ codes " place " ∷ decimal place ∷ [])

abbrev pub bound_text : BoundKind → List ℕ
bound_text Rewrites = codes "rewrites"
bound_text RowLimit = codes "rows"
bound_text SlotLimit = codes "slots"

-- where the next step would be
abbrev pub place_text : ℕ → ℕ → List ℕ
place_text pattern root = concat (codes " pattern " ∷ decimal pattern ∷ codes " root " ∷ decimal root ∷ [])

-- how a run of n steps ended
unfoldable pub ending_line : ℕ → Ending → List ℕ
ending_line n Converged = concat (codes "end converged steps " ∷ decimal n ∷ codes "\n" ∷ [])
ending_line n (Bound k h) = concat (codes "end bound " ∷ bound_text k ∷ codes " steps " ∷ decimal n ∷ place_text h.pattern h.row ∷ codes "\n" ∷ [])
ending_line n (Broken b) = concat (codes "end broken steps " ∷ decimal n ∷ place_text b.pattern b.root ∷ codes " " ∷ break_text b.why ∷ codes "\n" ∷ [])

unfoldable pub header : List ℕ
header = codes "pdllrw-log 1\n"

-- The log of the steps that were taken and of the ending.
unfoldable pub log_text : List Taken → Ending → List ℕ
log_text taken ending = header ++ (step_lines 1 taken ++ ending_line (length taken) ending)
