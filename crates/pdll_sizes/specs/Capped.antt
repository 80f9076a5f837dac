-- Numbers and sizes up to the greatest number of 32 bits.
use Rattle.std.specs.Prelude.{ℕ, ◌+◌, min}
use Rattle.rewrite_model.specs.Size.{Size as Count}
use Rattle.pdll_sizes.specs.declared.size.Size.{Size}

-- the number, or the greatest where it is larger
unfoldable pub capped : ℕ → ℕ
capped n = min n 4294967295

-- a size of which each number is at most the greatest
unfoldable pub capped_size : Count → Size
capped_size s = record { statements = capped s.statements; operations = capped s.operations; expressions = capped s.expressions }

-- two such sizes together
unfoldable pub sum : Size → Size → Size
sum x y = record { statements = capped (x.statements + y.statements); operations = capped (x.operations + y.operations); expressions = capped (x.expressions + y.expressions) }
