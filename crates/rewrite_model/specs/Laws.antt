-- What the definitions promise of one another.
use Rattle.std.specs.Prelude.{◌≡◌, ◌⊎◌, ℕ, ◌+◌, ◌≤◌, List, [], ◌∷◌, length, All, Ok, ⊤}
use Rattle.std.specs.List.{AllByRecursion}
use Rattle.mlir_tree.specs.declared.row.Row.{Row}
use Rattle.mlir_tree.specs.declared.rows.Rows.{Rows}
use Rattle.mlir_tree.specs.WellFormed.{AreNumbered, AreNested, HasVisibleOperands, HasDictionaries, HasSizes, IsWellFormed}
use Rattle.pdll_syntax.specs.declared.file.Decl.{Decl}
use Rattle.pdll_syntax.specs.declared.file.Decl.TheVariants as decl
use Rattle.pdll_syntax.specs.declared.file.PatternDecl.{PatternDecl}
use Rattle.rewrite_model.specs.declared.run.Hit.{Hit}
use Rattle.rewrite_model.specs.declared.run.Order.{Order}
use Rattle.rewrite_model.specs.declared.run.Ending.TheVariants.{Converged}
use Rattle.rewrite_model.specs.Pattern.{Expr, the, result, only_result, Demand, has_parts, has_type, new_operation, Action, makes, Pattern}
use Rattle.rewrite_model.specs.Expanding.{expanded}
use Rattle.rewrite_model.specs.Own.{own}
use Rattle.rewrite_model.specs.Size.{expanded_size}
use Rattle.rewrite_model.specs.Things.{Thing}
use Rattle.rewrite_model.specs.Determined.{values_of, IsDetermined, AreDetermined}
use Rattle.rewrite_model.specs.Matching.{MatchesBy, Matches}
use Rattle.rewrite_model.specs.Taken.{KeepsOrder}
use Rattle.rewrite_model.specs.Making.{Progress, all_slots}
use Rattle.rewrite_model.specs.Step.{rewritten, step}
use Rattle.rewrite_model.specs.Running.{Course, taken, NoneAmong, Runs, Reaches}

-- A pattern whose variables and operation expressions are all determined matches at an operation by at most one assignment.
abbrev pub AtMostOneAssignment : Type 0
AtMostOneAssignment =
    (p : Pattern) → IsDetermined p
    → (rows : List Row) (id : ℕ) (a b : List Thing) → MatchesBy rows p a id → MatchesBy rows p b id → a ≡ b

-- Whether it matches there is decided.
abbrev pub MatchesAreDecided : Type 0
MatchesAreDecided = (p : Pattern) → IsDetermined p → (rows : List Row) (id : ℕ) → Matches rows p id ⊎ (Matches rows p id → ⊥)

-- Of such patterns there is exactly one run in each order from each module with each bound.
abbrev pub OneRun : Type 0
OneRun =
    (order : Order) (ps : List Pattern) → AreDetermined ps
    → (n : ℕ) (m : Rows) → (c : Course) × Runs order ps n m c × ((d : Course) → Runs order ps n m d → d ≡ c)

-- Where a run has converged, no pattern matches at any operation that is left.
abbrev pub ConvergedRunsMatchNowhere : Type 0
ConvergedRunsMatchNowhere =
    (order : Order) (ps : List Pattern) (n : ℕ) (m : Rows) (c : Course) → Runs order ps n m c → c.ending ≡ Converged → NoneAmong ps c.rows.rows c.rows.rows

abbrev pub HasVisibleUses : Rows → Type 0
HasVisibleUses m = All (HasVisibleOperands m.rows) m.rows

-- In the module after a step each operand exists and is visible.
abbrev pub StepsKeepOperandsVisible : Type 0
StepsKeepOperandsVisible = (p : Pattern) (a : List Thing) (id : ℕ) (m n : Rows) → step p a id m ≡ Ok n → HasVisibleUses n

-- So it is in the module at the end of a run that begins at such a module.
abbrev pub RunsKeepOperandsVisible : Type 0
RunsKeepOperandsVisible = (order : Order) (ps : List Pattern) (n : ℕ) (m : Rows) (c : Course) → HasVisibleUses m → Runs order ps n m c → HasVisibleUses c.rows

-- All of well-formedness but that operands are visible.
pub record IsLaidOut (m : Rows) : Type 0 where
  pub numbers : AreNumbered m
  pub nesting : AreNested m.rows
  pub dictionaries : All HasDictionaries m.rows
  pub sizes : All HasSizes m.rows

-- What the actions of a rewrite leave is laid out.
abbrev pub RewritesKeepLayout : Type 0
RewritesKeepLayout = (p : Pattern) (a : List Thing) (id : ℕ) (m : Rows) (q : Progress) → IsLaidOut m → rewritten p a id m ≡ Ok q → IsLaidOut q.now

-- A step leads from a well-formed module to a well-formed module.
abbrev pub StepsKeepWellFormed : Type 0
StepsKeepWellFormed = (p : Pattern) (a : List Thing) (id : ℕ) (m n : Rows) → IsWellFormed m → step p a id m ≡ Ok n → IsWellFormed n

-- So every module of a run is well-formed that begins at a well-formed one.
abbrev pub RunsKeepWellFormed : Type 0
RunsKeepWellFormed = (order : Order) (ps : List Pattern) (n : ℕ) (m k : Rows) → IsWellFormed m → Reaches order ps n m k → IsWellFormed k

-- The module at the end of a run is one of its modules.
abbrev pub RunsReachTheirEnd : Type 0
RunsReachTheirEnd = (order : Order) (ps : List Pattern) (n : ℕ) (m : Rows) (c : Course) → Runs order ps n m c → Reaches order ps n m c.rows

-- Each number of a pattern has a place in the file, and so has each number of a declaration by itself.
abbrev pub NumbersHavePlaces : Type 0
NumbersHavePlaces =
    ((earlier : List Decl) (p : PatternDecl) → length (expanded earlier p).places ≡ length (expanded earlier p).kinds)
    × ((earlier : List Decl) (d : Decl) → length (own earlier d).scene.places ≡ length (own earlier d).scene.kinds)

abbrev pub number_in : Expr → ℕ
number_in (the x) = x
number_in (result x k) = x
number_in (only_result x) = x

abbrev pub AreUpTo : ℕ → List Expr → Type 0
AreUpTo x es = AllByRecursion (λ e. number_in e ≤ x) es

abbrev pub HasPartsUpTo : Demand → Type 0
HasPartsUpTo (has_parts x o) = AreUpTo x o.operands × AreUpTo x (values_of o.entries) × AreUpTo x o.types
HasPartsUpTo (has_type x e) = number_in e ≤ x
HasPartsUpTo d = ⊤

-- The numbers of the parts of an operation are not above its own, nor is that of a written type above the variable's.
abbrev pub PartsComeFirst : Type 0
PartsComeFirst = (earlier : List Decl) (p : PatternDecl) → AllByRecursion HasPartsUpTo (expanded earlier p).demands

abbrev pub is_new : Action → ℕ
is_new (makes (new_operation name o)) = 1
is_new x = 0

-- how many operations the actions make
abbrev pub new_operations : List Action → ℕ
new_operations [] = 0
new_operations (x ∷ xs) = is_new x + new_operations xs

-- A step gives as many numbers as its pattern makes operations.
abbrev pub StepsGiveNumbers : Type 0
StepsGiveNumbers = (p : Pattern) (a : List Thing) (id : ℕ) (m n : Rows) → step p a id m ≡ Ok n → n.next ≡ m.next + new_operations p.actions

-- A pattern makes at most as many operations as its declaration has operation expressions after expanding.
abbrev pub SizesBoundOperations : Type 0
SizesBoundOperations = (earlier : List Decl) (p : PatternDecl) → new_operations (expanded earlier p).actions ≤ (expanded_size earlier (decl.Pattern p)).operations

-- At most 4,000,000 rows, with at most 16,000,000 operands and results.
pub record KeepsLimits (m : Rows) : Type 0 where
  pub rows : length m.rows ≤ 4000000
  pub slots : all_slots m.rows ≤ 16000000

-- A step keeps these limits.
abbrev pub StepsKeepLimits : Type 0
StepsKeepLimits = (p : Pattern) (a : List Thing) (id : ℕ) (m n : Rows) → KeepsLimits m → step p a id m ≡ Ok n → KeepsLimits n

-- The numbers that a step made rise, and so do those that it removed.
abbrev pub NumbersRise : Type 0
NumbersRise = (p : Pattern) (h : Hit) (m n : Rows) → KeepsOrder (taken p h m n)
