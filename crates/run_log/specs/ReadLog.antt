-- Which texts are a log, and the first line with which no log goes on.
use Rattle.std.specs.Prelude.{◌≡◌, ℕ, ◌+◌, ◌==◌, not, true, List, [], ◌++◌, length, codes, ⊤, ◌⊎◌}
use Rattle.std.specs.List.{AllByRecursion, concat, list_all}
use Rattle.mlir_tree.specs.declared.refusal.Refusal.{Refusal}
use Rattle.mlir_tree.specs.declared.refusal.Refusal.TheVariants.{Fault, NoMemory}
use Rattle.rewrite_model.specs.declared.run.Ending.{Ending}
use Rattle.rewrite_model.specs.Taken.{Taken}
use Rattle.run_model.specs.LogText.{log_text}
use Rattle.run_log.specs.declared.fault.LogFault.{LogFault}
use Rattle.run_log.specs.declared.fault.LogFault.TheVariants.{BadLine}
use Rattle.run_log.specs.Written.{IsStep, IsEnding}

abbrev pub AreSteps : List Taken → Type 0
AreSteps steps = AllByRecursion IsStep steps

-- The text is the log of these steps and this ending.
pub record IsLogOf (steps : List Taken) (ending : Ending) (text : List ℕ) : Type 0 where
  pub steps_are : AreSteps steps
  pub ending_is : IsEnding ending
  pub text_is : text ≡ log_text steps ending

-- No log has this text.
abbrev pub NoLog : List ℕ → Type 0
NoLog text = (steps : List Taken) (ending : Ending) → IsLogOf steps ending text → ⊥

-- Some log begins with the text.
abbrev pub IsFront : List ℕ → Type 0
IsFront text = (steps : List Taken) × (ending : Ending) × (more : List ℕ) × IsLogOf steps ending (text ++ more)

-- no line feed is in the text
abbrev pub NoFeed : List ℕ → Type 0
NoFeed text = list_all (λ b. not (b == 10)) text ≡ true

-- bytes other than a line feed, and a line feed
abbrev pub IsLine : List ℕ → Type 0
IsLine line = (text : List ℕ) × NoFeed text × (line ≡ text ++ codes "\n")

-- Line n, from 1, is the first one with which no log goes on: some log begins with the lines before it, and none with
-- these and this one. Where the text ends too early, it is what stands behind its last line feed.
pub record IsBadLine (bytes : List ℕ) (n : ℕ) : Type 0 where
  pub lines : List (List ℕ)
  pub line : List ℕ
  pub rest : List ℕ
  pub whole : AllByRecursion IsLine lines
  pub split : bytes ≡ concat lines ++ (line ++ rest)
  pub number : n ≡ length lines + 1
  pub goes_on : IsFront (concat lines)
  pub stops : (IsLine line × (IsFront (concat lines ++ line) → ⊥)) ⊎ (NoFeed line × (rest ≡ []))

-- Why a text isn't read: it is no log, and this is the first bad line.
abbrev pub IsFault : List ℕ → Refusal LogFault → Type 0
IsFault bytes (Fault (BadLine n)) = NoLog bytes × IsBadLine bytes n
IsFault bytes NoMemory = ⊤
