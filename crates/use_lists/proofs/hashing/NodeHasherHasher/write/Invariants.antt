use Rattle.std.proofs.Common.{◌≡◌, fold, take}
use Rattle.use_lists.specs.Hashing.{mixed}
use Rattle.use_lists.proofs.hashing.NodeHasherHasher.write.Given as goal

abbrev pub invariant-loop-b : goal.invariant-loop-b
invariant-loop-b l = l.self.state ≡ fold mixed l.initial.self.state (take l.b-index l.bytes)
