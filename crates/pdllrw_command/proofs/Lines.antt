-- The lines of refusals.
use Rattle.std.proofs.Common.{◌≡◌, ◌≢◌, ℕ, List, codes, refl, sym, ap, subst, ◌∙◌, inl}
use Rattle.std.specs.Prelude.{Result}
use Rattle.rw_outside.specs.Puts.{SinkState, Puts}
use Rattle.rw_outside.proofs.Put.{appended-nil}
use Rattle.pdll_syntax.specs.Faults.{code_text}
use Rattle.pdll_syntax.specs.declared.fault.PatKind.{PatKind}
use Rattle.pdll_syntax.specs.declared.fault.PatKind.TheVariants as pat_kinds
use Rattle.mlir_attributes.specs.Faults as module_faults
use Rattle.mlir_attributes.specs.declared.fault.ModKind.{ModKind}
use Rattle.mlir_attributes.specs.declared.fault.ModKind.TheVariants as mod_kinds
use Rattle.pdllrw_command.specs.declared.position.Position.{Position}
use Rattle.pdllrw_command.specs.declared.status.Status.{Status}
use Rattle.pdllrw_command.specs.declared.status.Status.TheVariants as statuses
use Rattle.pdllrw_command.specs.Outcome.{placed_line, patterns_line, module_line, line_of}
use Rattle.pdllrw_command.specs.Written.{Tells}

placed : (p : Position) (k : PatKind) → k ≢ pat_kinds.TooLong → placed_line (codes "patterns") p (code_text k) ≡ patterns_line p k
placed p pat_kinds.TooLong h = absurd (h refl)
placed p k h = refl

-- a line with a place, whose code is that of the kind
pub puts_placed : {A E : Type 0} (old new : SinkState) (r : Result A E) (p : Position) (k : PatKind) (code : List ℕ) → k ≢ pat_kinds.TooLong → code ≡ code_text k
    → Puts old new r (placed_line (codes "patterns") p code) → Puts old new r (patterns_line p k)
puts_placed old new r p k code h is put = subst (Puts old new r) (ap (placed_line (codes "patterns") p) is ∙ placed p k h) put

placed_in_module : (p : Position) (k : ModKind) → k ≢ mod_kinds.TooLong → placed_line (codes "module") p (module_faults.code_text k) ≡ module_line p k
placed_in_module p mod_kinds.TooLong h = absurd (h refl)
placed_in_module p k h = refl

pub puts_placed_in_module : {A E : Type 0} (old new : SinkState) (r : Result A E) (p : Position) (k : ModKind) (code : List ℕ) → k ≢ mod_kinds.TooLong → code ≡ module_faults.code_text k
    → Puts old new r (placed_line (codes "module") p code) → Puts old new r (module_line p k)
puts_placed_in_module old new r p k code h is put = subst (Puts old new r) (ap (placed_line (codes "module") p) is ∙ placed_in_module p k h) put

-- without memory there is no line
pub tells_nothing : (p : Position) (s : Status) (state : SinkState) → s ≡ statuses.NoMemory → Tells state state (line_of p s) s statuses.NoMemory
unfolding line_of
tells_nothing p s state e = subst (λ (q : Status). Tells state state (line_of p q) q statuses.NoMemory) (sym e) (inl (refl, sym (appended-nil state.bytes)))
