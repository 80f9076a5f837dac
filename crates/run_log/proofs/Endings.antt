-- The line that says how a run ended.
use Rattle.std.proofs.Common.{◌≡◌, ℕ, List, ◌++◌, codes, decimal, refl, sym, append_assoc, subst, arith}
use Rattle.std.specs.Prelude.{slice_index}
use Rattle.rewrite_model.specs.declared.run.Hit.{Hit}
use Rattle.rewrite_model.specs.declared.run.Broken.{Broken as BrokenData}
use Rattle.rewrite_model.specs.declared.run.Break.{Break}
use Rattle.rewrite_model.specs.declared.run.Break.TheVariants.{Gone, Count, Types, Top, NativeRefused, BadUse}
use Rattle.rewrite_model.specs.declared.run.BoundKind.{BoundKind}
use Rattle.rewrite_model.specs.declared.run.BoundKind.TheVariants.{Rewrites, RowLimit, SlotLimit}
use Rattle.rewrite_model.specs.declared.run.Ending.{Ending}
use Rattle.rewrite_model.specs.declared.run.Ending.TheVariants.{Converged, Bound, Broken}
use Rattle.run_model.specs.LogText.{place_text, break_text, bound_text, ending_line}
use Rattle.run_log.specs.Choosing.{break_of, bound_of}

-- a cause without its numbers
abbrev pub bare : Break → Break
bare (BadUse row place) = BadUse 0 0
bare w = w

pub break_front : (w : Break) (r : List ℕ) → break_of (break_text w ++ r) ≡ bare w
break_front Gone r = refl
break_front Count r = refl
break_front Types r = refl
break_front Top r = refl
break_front NativeRefused r = refl
break_front (BadUse row place) r = refl

pub bare_use : (w : Break) (row place : ℕ) → bare w ≡ BadUse row place → (x y : ℕ) × (w ≡ BadUse x y)
bare_use Gone row place h = absurd (cc)
bare_use Count row place h = absurd (cc)
bare_use Types row place h = absurd (cc)
bare_use Top row place h = absurd (cc)
bare_use NativeRefused row place h = absurd (cc)
bare_use (BadUse x y) row place h = (x, y, refl)

abbrev IsPlain : Break → Type 0
IsPlain (BadUse row place) = ⊥
IsPlain w = Unit {0}

pub bare_same : (w v : Break) → bare w ≡ v → IsPlain v → w ≡ v
bare_same Gone v h plain = h
bare_same Count v h plain = h
bare_same Types v h plain = h
bare_same Top v h plain = h
bare_same NativeRefused v h plain = h
bare_same (BadUse x y) v h plain = absurd (subst IsPlain (sym h) plain)

pub bound_front : (k : BoundKind) (r : List ℕ) → bound_of (bound_text k ++ r) ≡ k
bound_front Rewrites r = refl
bound_front RowLimit r = refl
bound_front SlotLimit r = refl

-- the lines piece by piece, and what stands behind them

pub place_behind : (pattern row : ℕ) (r : List ℕ) → place_text pattern row ++ r ≡ codes " pattern " ++ (decimal pattern ++ (codes " root " ++ (decimal row ++ r)))
place_behind pattern row r = simp append_assoc

pub use_behind : (row place : ℕ) (r : List ℕ) → break_text (BadUse row place) ++ r ≡ codes "bad-use row " ++ (decimal row ++ (codes " place " ++ (decimal place ++ r)))
use_behind row place r = simp append_assoc

pub converged_behind : (n : ℕ) (r : List ℕ) → ending_line n Converged ++ r ≡ codes "end converged steps " ++ (decimal n ++ (codes "\n" ++ r))
unfolding ending_line
converged_behind n r = simp append_assoc

pub bound_behind : (n : ℕ) (k : BoundKind) (h : Hit) (r : List ℕ) → ending_line n (Bound k h) ++ r ≡ codes "end bound " ++ (bound_text k ++ (codes " steps " ++ (decimal n ++ (place_text h.pattern h.row ++ (codes "\n" ++ r)))))
unfolding ending_line
bound_behind n k h r = simp append_assoc

pub broken_behind : (n : ℕ) (b : BrokenData) (r : List ℕ) → ending_line n (Broken b) ++ r ≡ codes "end broken steps " ++ (decimal n ++ (place_text b.pattern b.root ++ (codes " " ++ (break_text b.why ++ (codes "\n" ++ r)))))
unfolding ending_line
broken_behind n b r = simp append_assoc

-- which line it is, by two bytes

pub is_converged : (n : ℕ) (e : Ending) (r : List ℕ) → slice_index (ending_line n e ++ r) 4 ≡ 99 → e ≡ Converged
unfolding ending_line
is_converged n Converged r h = refl
is_converged n (Bound k hit) r h = absurd (omega (arith, h))
is_converged n (Broken b) r h = absurd (omega (arith, h))

pub is_bound : (n : ℕ) (e : Ending) (r : List ℕ) → (slice_index (ending_line n e ++ r) 4 ≡ 99 → ⊥) → slice_index (ending_line n e ++ r) 5 ≡ 111 → (k : BoundKind) × (h : Hit) × (e ≡ Bound k h)
unfolding ending_line
is_bound n Converged r no_c o = absurd (no_c refl)
is_bound n (Bound k hit) r no_c o = (k, hit, refl)
is_bound n (Broken b) r no_c o = absurd (omega (arith, o))

pub is_broken : (n : ℕ) (e : Ending) (r : List ℕ) → (slice_index (ending_line n e ++ r) 4 ≡ 99 → ⊥) → (slice_index (ending_line n e ++ r) 5 ≡ 111 → ⊥) → (b : BrokenData) × (e ≡ Broken b)
unfolding ending_line
is_broken n Converged r no_c no_o = absurd (no_c refl)
is_broken n (Bound k hit) r no_c no_o = absurd (no_o refl)
is_broken n (Broken b) r no_c no_o = (b, refl)

pub broken_same : (b : BrokenData) (hit : Hit) (why : Break) → hit ≡ record { pattern = b.pattern; row = b.root } → why ≡ b.why → Broken (record { pattern = hit.pattern; root = hit.row; why = why }) ≡ Broken b
broken_same b hit why same_hit same_why = rw (same_hit, same_why) refl
