-- One way through a declaration in the order of its text: what is known behind each mention, and the first fault so far.
use Rattle.std.specs.Prelude.{◌≡◌, ℕ, zero, suc, if◌then◌else◌, List, [], ◌∷◌, ◌++◌, length, Option, Some, None, Result, Ok, Err}
use Rattle.mlir_tree.specs.declared.refusal.Refusal.{Refusal}
use Rattle.mlir_tree.specs.declared.refusal.Refusal.TheVariants as refusal
use Rattle.pdll_syntax.specs.declared.fault.PatFault.{PatFault}
use Rattle.pdll_syntax.specs.declared.fault.PatKind.TheVariants.{Undefined, Redefined, WrongKind, WrongArity, UnknownNative, BadLiteral, TwoRanges, NoResultTypes, BadRoot, AfterRoot, WrongPart}
use Rattle.pdll_types.specs.declared.walk.Walk.{Walk}
use Rattle.pdll_types.specs.Kinds.{Asked, an_operation}
use Rattle.pdll_syntax.specs.declared.file.Decl.{Decl}
use Rattle.pdll_types.specs.Signatures.{Declared, declared}
use Rattle.pdll_syntax.specs.ExprTree.{expr, name_expr, member_expr}
use Rattle.pdll_types.specs.declared.section.Section.TheVariants.{Matched}
use Rattle.pdll_types.specs.Mentions.{Mention, use_of, mentions}
use Rattle.pdll_types.specs.Sight.{Seen, sight_behind, words_behind}
use Rattle.pdll_types.specs.Names.{undefined_at, redefined_at, unknown_native_at}
use Rattle.pdll_types.specs.KindFaults.{wrong_kind_at, wrong_arity_at, two_ranges_at}
use Rattle.pdll_types.specs.Literals.{bad_literal_at}
use Rattle.pdll_types.specs.Parts.{no_result_types_at, bad_root_at, after_root_at, wrong_part_at}
use Rattle.pdll_types.specs.Accepted.{faults, is_before, kind_at, root_at, numbers_of, AreSound, IsFirstFaultOf}

-- All faults of one mention.
unfoldable pub faults_at : List Declared → Seen → Mention → List PatFault
faults_at c s m =
    faults Undefined (undefined_at c s m)
    ++ (faults Redefined (redefined_at c s m)
    ++ (faults WrongKind (wrong_kind_at c s m)
    ++ (faults WrongArity (wrong_arity_at c s m)
    ++ (faults UnknownNative (unknown_native_at c s m)
    ++ (faults BadLiteral (bad_literal_at c s m)
    ++ (faults TwoRanges (two_ranges_at c s m)
    ++ (faults NoResultTypes (no_result_types_at c s m)
    ++ (faults BadRoot (bad_root_at c s m)
    ++ (faults AfterRoot (after_root_at c s m)
    ++ faults WrongPart (wrong_part_at c s m))))))))))

-- The first fault so far, with one more.
abbrev pub noted : PatFault → Option PatFault → Option PatFault
noted f None = Some f
noted f (Some g) = if is_before f g then Some f else Some g

-- With more, one after the other.
abbrev pub all_noted : List PatFault → Option PatFault → Option PatFault
all_noted [] least = least
all_noted (f ∷ fs) least = all_noted fs (noted f least)

abbrev pub seen_of : Walk → Seen
seen_of w = record { sight = w.sight; words = w.words }

-- What is known behind one more mention.
unfoldable pub step : List Declared → Mention → Walk → Walk
step c m w = record {
  sight = sight_behind c w.sight m;
  words = words_behind w.words m;
  kinds = w.kinds ++ kind_at c (seen_of w) m;
  roots = w.roots ++ numbers_of (length w.kinds) (root_at c (seen_of w) m);
  least = all_noted (faults_at c (seen_of w) m) w.least;
}

-- And behind all of these.
abbrev pub walked : List Declared → List Mention → Walk → Walk
walked c [] w = w
walked c (m ∷ ms) w = walked c ms (step c m w)

-- ---- declarations

-- Before a declaration: nothing is in sight, and no fault is found in it.
abbrev pub afresh : Walk → Walk
afresh w = record w { sight = []; words = []; least = None }

-- Behind a declaration.
unfoldable pub decl_walked : List Declared → Decl → Walk → Walk
decl_walked c d w = walked c (mentions c d) (afresh w)

-- Behind all of these declarations.
abbrev pub all_walked : List Declared → List Decl → Walk → Walk
all_walked c [] w = w
all_walked c (d ∷ ds) w = all_walked (declared c d) ds (decl_walked c d w)

-- What is known before the first declaration.
abbrev pub start : Walk
start = record { sight = []; words = []; kinds = []; roots = []; least = None }

-- What the way through declarations tells, which stand behind others: what is known behind them, where they have no fault,
-- or the first fault, unless memory fails.
abbrev pub Tells : List Declared → List Decl → List Decl → Walk → Result (Unit {0}) (Refusal PatFault) → Walk → Type 0
Tells c earlier ds old (Ok _) new = AreSound c earlier ds × (new ≡ all_walked c ds old)
Tells c earlier ds old (Err (refusal.Fault f)) new = IsFirstFaultOf c earlier ds f
Tells c earlier ds old (Err refusal.NoMemory) new = Unit {0}

-- ---- numbers behind an expression

-- What is asked of what stands before so many numbers.
abbrev pub asked_after : Asked → ℕ → Asked
asked_after a zero = a
asked_after a (suc n) = an_operation

-- An expression with a number behind it is a value, whatever the expression is.
abbrev pub member_use : Asked → ℕ → Mention
member_use a at = use_of Matched a at (member_expr (expr at (name_expr [])) 0)

-- Behind so many numbers of an expression, the longest part first.
abbrev pub members_walked : Asked → ℕ → ℕ → Walk → Walk
members_walked a at zero w = w
members_walked a at (suc n) w = step [] (member_use (asked_after a n) at) (members_walked a at n w)
