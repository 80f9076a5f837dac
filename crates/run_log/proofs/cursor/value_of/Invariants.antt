use Rattle.std.proofs.Common.{◌≡◌, ◌<◌, ◌^◌, take}
use Rattle.std.specs.Str.Parse.{digits_value}
use Rattle.run_log.proofs.cursor.value_of.Given as goal

abbrev pub invariant-loop-b : goal.invariant-loop-b
invariant-loop-b l = digits_value 10 (take l.b-index l.digits) < 2 ^ 32 → l.value ≡ digits_value 10 (take l.b-index l.digits)
