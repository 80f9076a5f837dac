-- What is asked for, as the program keeps it.
use Rattle.std.specs.Prelude.{None}
use Rattle.pdll_types.specs.declared.asked.Asked.{Asked as Kept}
use Rattle.pdll_types.specs.declared.asked.Asked.TheVariants as k
use Rattle.pdll_types.specs.Kinds.{Asked, anything, root, constraint_call, written, operand, result_type, an_operation, an_attribute, a_type, types}

abbrev pub asked_of : Kept → Asked
asked_of k.Anything = anything
asked_of k.Root = root
asked_of k.ConstraintCall = constraint_call
asked_of (k.Written w) = written w.now
asked_of k.NotCall = written None
asked_of k.Operand = operand
asked_of k.ResultType = result_type
asked_of k.Operation = an_operation
asked_of k.Attribute = an_attribute
asked_of k.Type = a_type
asked_of k.Types = types
