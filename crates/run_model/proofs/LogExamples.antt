-- Logs that the checker computes.
use Rattle.std.specs.Prelude.{◌≡◌, ℕ, [], ◌∷◌, codes}
use Rattle.std.proofs.Common.{refl}
use Rattle.std.specs.Fmt.{digits}
use Rattle.mlir_print.specs.Text.{string_text}
use Rattle.rewrite_model.specs.declared.run.Hit.{Hit}
use Rattle.rewrite_model.specs.declared.run.Break.TheVariants.{NativeRefused, BadUse}
use Rattle.rewrite_model.specs.declared.run.BoundKind.TheVariants.{Rewrites, SlotLimit}
use Rattle.rewrite_model.specs.declared.run.Ending.TheVariants.{Converged, Bound, Broken}
use Rattle.run_model.specs.LogText.{header, step_line, step_lines, ending_line, log_text}

abbrev hit : ℕ → ℕ → Hit
hit k id = record { pattern = k; row = id }

two_steps : log_text
    (record { pattern = 1; name = codes "Drop"; root = 4; made = []; removed = 4 ∷ 5 ∷ [] }
    ∷ record { pattern = 0; name = codes "Fuse"; root = 3; made = 6 ∷ 12 ∷ []; removed = 3 ∷ [] } ∷ []) Converged
    ≡ codes "pdllrw-log 1\nstep 1 pattern 1 \"Drop\" root 4 made - removed 4,5\nstep 2 pattern 0 \"Fuse\" root 3 made 6,12 removed 3\nend converged steps 2\n"
unfolding log_text header step_lines step_line ending_line string_text digits
two_steps = refl

no_name : step_line 1 (record { pattern = 0; name = []; root = 0; made = []; removed = [] }) ≡ codes "step 1 pattern 0 \"\" root 0 made - removed -\n"
unfolding step_line string_text digits
no_name = refl

bounded : ending_line 3 (Bound Rewrites (hit 0 1)) ≡ codes "end bound rewrites steps 3 pattern 0 root 1\n"
unfolding ending_line digits
bounded = refl

no_slots : ending_line 0 (Bound SlotLimit (hit 2 10)) ≡ codes "end bound slots steps 0 pattern 2 root 10\n"
unfolding ending_line digits
no_slots = refl

bad_use : ending_line 0 (Broken (record { pattern = 0; root = 1; why = BadUse 2 0 })) ≡ codes "end broken steps 0 pattern 0 root 1 bad-use row 2 place 0\n"
unfolding ending_line digits
bad_use = refl

refused : ending_line 0 (Broken (record { pattern = 0; root = 3; why = NativeRefused })) ≡ codes "end broken steps 0 pattern 0 root 3 native-refused\n"
unfolding ending_line digits
refused = refl
