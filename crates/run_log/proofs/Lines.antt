-- The lines of a log from the pieces that are put.
use Rattle.std.proofs.Common.{◌≡◌, ℕ, ◌+◌, ◌<◌, ◌≤◌, List, [], ◌∷◌, ◌++◌, codes, decimal, length, drop, get_or, refl, sym, arith, append_assoc}
use Rattle.std.specs.List.{flat_map}
use Rattle.std.proofs.lemmas.List.{at_drop_more, at_drop_all}
use Rattle.mlir_print.specs.Text.{string_text}
use Rattle.mlir_print.proofs.Lists.{rest_at}
use Rattle.rewrite_model.specs.Taken.{Taken, step_of}
use Rattle.run_model.specs.LogText.{numbers_text, step_line, step_lines}

-- numbers, each behind a comma
abbrev pub more_numbers : List ℕ → List ℕ
more_numbers ns = flat_map (λ (n : ℕ). codes "," ++ decimal n) ns

pub numbers_more : (ns : List ℕ) (i : ℕ) → i < length ns → codes "," ++ (decimal (get_or ns i 0) ++ more_numbers (drop (i + 1) ns)) ≡ more_numbers (drop i ns)
numbers_more ns i h = sym (at_drop_more more_numbers ns i 0 h)

pub numbers_first : (ns : List ℕ) → 1 ≤ length ns → decimal (get_or ns 0 0) ++ more_numbers (drop 1 ns) ≡ numbers_text ns
numbers_first [] some = absurd (omega arith)
numbers_first (n ∷ ns) some = refl

pub step_pieces : (k : ℕ) (s : Taken) → codes "step " ++ (decimal k ++ (codes " pattern " ++ (decimal s.pattern ++ (codes " " ++ (string_text s.name ++ (codes " root " ++ (decimal s.root
    ++ (codes " made " ++ (numbers_text s.made ++ (codes " removed " ++ (numbers_text s.removed ++ codes "\n"))))))))))) ≡ step_line k s
unfolding step_line
step_pieces k s = refl

pub lines_more : (steps : List Taken) (i : ℕ) (s : Taken) → i < length steps → s ≡ get_or steps i s → step_line (i + 1) s ++ step_lines (i + 1 + 1) (drop (i + 1) steps) ≡ step_lines (i + 1) (drop i steps)
unfolding step_lines
lines_more steps i s h is = rest_at (step_lines (i + 1)) steps i s h is

pub lines_none : (steps : List Taken) (i : ℕ) → length steps ≤ i → step_lines (i + 1) (drop i steps) ≡ []
unfolding step_lines
lines_none steps i le = at_drop_all (step_lines (i + 1)) steps i le

-- a step's line piece by piece, and what stands behind it
pub step_behind : (k : ℕ) (s : Taken) (r : List ℕ) → step_line k s ++ r ≡ codes "step " ++ (decimal k ++ (codes " pattern " ++ (decimal s.pattern ++ (codes " " ++ (string_text s.name ++ (codes " root " ++ (decimal s.root
    ++ (codes " made " ++ (numbers_text s.made ++ (codes " removed " ++ (numbers_text s.removed ++ (codes "\n" ++ r))))))))))))
unfolding step_line
step_behind k s r = simp append_assoc

pub step_same : (s : Taken) (pattern root : ℕ) (name made removed : List ℕ) → pattern ≡ s.pattern → name ≡ s.name → root ≡ s.root → made ≡ s.made → removed ≡ s.removed → step_of pattern name root made removed ≡ s
step_same s pattern root name made removed a b d e f = rw (a, b, d, e, f) refl
