-- The parts of the command give its outcome.
use Rattle.std.proofs.Common.{◌≡◌, ◌⊎◌, ℕ, ◌≤◌, List, [], Option, None, refl, sym, subst, ◌∙◌, inl, inr, arith}
use Rattle.std.specs.Prelude.{IfSome}
use Rattle.rw_outside.specs.Outside.{Rose}
use Rattle.pdll_syntax.specs.declared.file.PatFile.{PatFile}
use Rattle.pdllrw_command.specs.Accepted.{AcceptsPatterns}
use Rattle.pdllrw_command.specs.declared.position.Position.{Position}
use Rattle.rewrite_model.specs.declared.run.Ending.{Ending}
use Rattle.rewrite_model.specs.declared.run.Ending.TheVariants as endings
use Rattle.pdllrw_command.specs.declared.status.Status.{Status}
use Rattle.pdllrw_command.specs.declared.status.Status.TheVariants as statuses
use Rattle.command_line.specs.Command.{command_of}
use Rattle.pdllrw_command.specs.Outcome
use Rattle.pdllrw_command.specs.Outcome.{Outside, Command, Rewrites, ReadsBadly, HasBadPatterns, HasBadModule, IsCause, IsAnswer, IsWritten, IsCutShort, IsOutcome, line_of, kind_of_ending}
use Rattle.pdllrw_command.specs.Stops.{StopsPatterns, StopsModule}
use Rattle.pdllrw_command.specs.Written.{Tells, Shows}
use Rattle.rw_outside.proofs.Put.{appended-nil}

pub rises : (a a' b : ℕ) → a ≤ a' → Rose a' b → Rose a b
rises a a' b le rose = omega (arith, rose)

module _ (old new : Outside) (words : List (List ℕ)) where
  -- ---- refusals

  answer_of : (p : Position) (s : Status) → IsCause old new words p s → IsAnswer old new words s [] (line_of p s)
  answer_of p statuses.Usage cause = (p, cause, refl, refl)
  answer_of p (statuses.PatternFault f) cause = (p, cause, refl, refl)
  answer_of p (statuses.ModuleFault f) cause = (p, cause, refl, refl)
  answer_of p statuses.ReadFault cause = (p, cause, refl, refl)
  answer_of p statuses.Done cause = absurd cause
  answer_of p (statuses.Bound k) cause = absurd cause
  answer_of p (statuses.Broken b) cause = absurd cause
  answer_of p statuses.WriteFault cause = absurd cause
  answer_of p statuses.NoMemory cause = absurd cause

  written_of : (p : Position) (s : Status) → IsCause old new words p s → IsWritten old new words s → IsOutcome old new words s
  written_of p statuses.Usage cause w = w
  written_of p (statuses.PatternFault f) cause w = w
  written_of p (statuses.ModuleFault f) cause w = w
  written_of p statuses.ReadFault cause w = w
  written_of p statuses.Done cause w = absurd cause
  written_of p (statuses.Bound k) cause w = absurd cause
  written_of p (statuses.Broken b) cause w = absurd cause
  written_of p statuses.WriteFault cause w = absurd cause
  written_of p statuses.NoMemory cause w = absurd cause

  pub refused : (p : Position) (s result : Status) → IsCause old new words p s → new.out.bytes ≡ old.out.bytes → Tells old.log new.log (line_of p s) s result → IsOutcome old new words result
  refused p s result cause same (inl told) =
      subst (IsOutcome old new words) (sym told.0) (written_of p s cause (record {
        out = [];
        log = line_of p s;
        is_answer = answer_of p s cause;
        out_put = same ∙ sym (appended-nil old.out.bytes);
        log_put = told.1;
      }))
  refused p s result cause same (inr failed) =
      subst (IsOutcome old new words) (sym failed.0) (record {
        status = s;
        out = [];
        log = line_of p s;
        is_answer = answer_of p s cause;
        cut = inr (same ∙ sym (appended-nil old.out.bytes), failed.1, failed.2);
      })

  pub refused_words : (p : Position) (s result : Status) → s ≡ statuses.Usage → command_of words ≡ None → new.out.bytes ≡ old.out.bytes → Tells old.log new.log (line_of p s) s result → IsOutcome old new words result
  refused_words p s result is none same tells = refused p s result (subst (λ (q : Status). IsCause old new words p q) (sym is) none) same tells

  pub out_of_memory : (result : Status) → new.out.bytes ≡ old.out.bytes → new.log.bytes ≡ old.log.bytes → result ≡ statuses.NoMemory → IsOutcome old new words result
  out_of_memory result out log is = subst (IsOutcome old new words) (sym is) (out, log)

  -- either a cause, or want of memory
  pub patterns_stop : (command : Command words) (p : Position) (s : Status) → StopsPatterns (old.files command.patterns) (old.faults command.patterns) (new.faults command.patterns) p s → IsCause old new words p s ⊎ (s ≡ statuses.NoMemory)
  patterns_stop command p (statuses.PatternFault f) stops = inl (record { command = command; refused = stops })
  patterns_stop command p statuses.ReadFault stops = inl (record { command = command; rose = inl stops })
  patterns_stop command p statuses.NoMemory stops = inr refl
  patterns_stop command p statuses.Done stops = absurd stops
  patterns_stop command p (statuses.Bound k) stops = absurd stops
  patterns_stop command p (statuses.Broken b) stops = absurd stops
  patterns_stop command p statuses.Usage stops = absurd stops
  patterns_stop command p (statuses.ModuleFault f) stops = absurd stops
  patterns_stop command p statuses.WriteFault stops = absurd stops

  pub module_stops : (command : Command words) (file : PatFile) → IfSome (old.files command.patterns) (AcceptsPatterns file)
      → (p : Position) (s : Status) → StopsModule (old.files command.module_file) (old.faults command.module_file) (new.faults command.module_file) p s → IsCause old new words p s ⊎ (s ≡ statuses.NoMemory)
  module_stops command file are p (statuses.ModuleFault f) stops = inl (record { command = command; file = file; are_patterns = are; refused = stops })
  module_stops command file are p statuses.ReadFault stops = inl (record { command = command; rose = inr (file, are, stops) })
  module_stops command file are p statuses.NoMemory stops = inr refl
  module_stops command file are p statuses.Done stops = absurd stops
  module_stops command file are p (statuses.Bound k) stops = absurd stops
  module_stops command file are p (statuses.Broken b) stops = absurd stops
  module_stops command file are p statuses.Usage stops = absurd stops
  module_stops command file are p (statuses.PatternFault f) stops = absurd stops
  module_stops command file are p statuses.WriteFault stops = absurd stops

  pub stopped : (p : Position) (s result : Status) → IsCause old new words p s ⊎ (s ≡ statuses.NoMemory) → new.out.bytes ≡ old.out.bytes
      → Tells old.log new.log (line_of p s) s result → (s ≡ statuses.NoMemory → (result ≡ statuses.NoMemory) × (new.log.bytes ≡ old.log.bytes)) → IsOutcome old new words result
  stopped p s result (inl cause) same tells silent = refused p s result cause same tells
  stopped p s result (inr memory) same tells silent = let (is, log) = silent memory in out_of_memory result same log is

  -- ---- the run

  pub rewritten : (e : Ending) (out log : List ℕ) → Rewrites old.files words e out log → IsAnswer old new words (kind_of_ending e) out log
  rewritten endings.Converged out log r = r
  rewritten (endings.Bound k h) out log r = (h, r)
  rewritten (endings.Broken b) out log r = r

  shown_outcome : (e : Ending) → IsWritten old new words (kind_of_ending e) → IsOutcome old new words (kind_of_ending e)
  shown_outcome endings.Converged w = w
  shown_outcome (endings.Bound k h) w = w
  shown_outcome (endings.Broken b) w = w

  pub shown : (e : Ending) (out log : List ℕ) (result : Status) → Rewrites old.files words e out log
      → Shows old.out new.out old.log new.log out log (kind_of_ending e) result → IsOutcome old new words result
  shown e out log result r (inl all) =
      subst (IsOutcome old new words) (sym all.0) (shown_outcome e (record { out = out; log = log; is_answer = rewritten e out log r; out_put = all.1; log_put = all.2 }))
  shown e out log result r (inr (inl cut)) =
      subst (IsOutcome old new words) (sym cut.0) (record { status = kind_of_ending e; out = out; log = log; is_answer = rewritten e out log r; cut = inl (cut.1, cut.2, cut.3) })
  shown e out log result r (inr (inr cut)) =
      subst (IsOutcome old new words) (sym cut.0) (record { status = kind_of_ending e; out = out; log = log; is_answer = rewritten e out log r; cut = inr (cut.1, cut.2, cut.3) })

-- a stop that is told of a later moment
pub stops_since : (file file' : Option (List ℕ)) (f f1 f2 : ℕ) (p : Position) (s : Status) → file' ≡ file → f ≤ f1 → StopsModule file' f1 f2 p s → StopsModule file f f2 p s
stops_since file file' f f1 f2 p (statuses.ModuleFault e) same le stops = subst (λ (o : Option (List ℕ)). IfSome o (Outcome.RefusesModule p e)) same stops
stops_since file file' f f1 f2 p statuses.ReadFault same le stops = rises f f1 f2 le stops
stops_since file file' f f1 f2 p statuses.NoMemory same le stops = tt
stops_since file file' f f1 f2 p statuses.Done same le stops = absurd stops
stops_since file file' f f1 f2 p (statuses.Bound k) same le stops = absurd stops
stops_since file file' f f1 f2 p (statuses.Broken b) same le stops = absurd stops
stops_since file file' f f1 f2 p statuses.Usage same le stops = absurd stops
stops_since file file' f f1 f2 p (statuses.PatternFault e) same le stops = absurd stops
stops_since file file' f f1 f2 p statuses.WriteFault same le stops = absurd stops
