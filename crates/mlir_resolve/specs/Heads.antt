-- What the steps of an operation's head give.
use Rattle.std.specs.Prelude.{◌≡◌, ◌<◌, List, length, slice_get, filter_map, Option, Some, None, Result, Ok, Err, if◌then◌else◌}
use Rattle.mlir_tree.specs.declared.refusal.Refusal.{Refusal}
use Rattle.mlir_tree.specs.declared.refusal.Refusal.TheVariants as refusals
use Rattle.mlir_tree.specs.Tree.{Ty}
use Rattle.mlir_attributes.specs.declared.fault.ModFault.{ModFault}
use Rattle.mlir_attributes.specs.declared.fault.ModKind.TheVariants as faults
use Rattle.mlir_parse.specs.declared.syn.SynUse.{SynUse}
use Rattle.mlir_resolve.specs.declared.named.Named.{Named}
use Rattle.mlir_resolve.specs.declared.operands.Taken.{Taken}
use Rattle.mlir_resolve.specs.Scopes.{named}
use Rattle.mlir_resolve.specs.Resolving.{Names, fault, use_fault, uses_fault, types_fault, used_value, has_type}

-- what a step that finds no fault gives, or the fault, unless memory fails
abbrev pub Finds : {A : Type 0} → Option ModFault → (A → Type 0) → Result A (Refusal ModFault) → Type 0
Finds found gives (Ok a) = (found ≡ None) × gives a
Finds found gives (Err refusals.NoMemory) = Unit {0}
Finds found gives (Err (refusals.Fault f)) = found ≡ Some f

abbrev pub IsMeaning : Names → SynUse → Named → Type 0
IsMeaning names x n = (names.meaning x.name ≡ Some (named x.name n)) × (x.index < length n.types.now)

abbrev pub Means : Names → SynUse → Result Named (Refusal ModFault) → Type 0
Means names x result = Finds (use_fault names x) (IsMeaning names x) result

-- The fault of a use whose value is one of these types, with the type that is written for it.
abbrev pub type_step : List Ty → SynUse → Option Ty → Option ModFault
type_step types x None = None
type_step types x (Some t) = if has_type (slice_get types x.index) t then None else fault faults.TypeDiffers x.at

abbrev pub AreTaken : Names → List SynUse → List Ty → Taken → Type 0
AreTaken names uses written ops = (ops.values ≡ filter_map (used_value names) uses) × (ops.differs ≡ types_fault names uses written)

abbrev pub Takes : Names → List SynUse → List Ty → Result Taken (Refusal ModFault) → Type 0
Takes names uses written result = Finds (uses_fault names uses) (AreTaken names uses written) result
