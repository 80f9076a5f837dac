-- Aliases (MLIR Language Reference, "Type Aliases" and "Attribute Value Aliases").
use Rattle.std.specs.Prelude.{◌≡◌, ℕ, Bool, ◌==◌, if◌then◌else◌, List, [], ◌∷◌, map, Option, Some, None, Vec, ⊤}
use Rattle.std.specs.declared.alloc.Global.{Global}
use Rattle.std.specs.List.{list_any}
use Rattle.std.specs.Str.{bytes_eq}
use Rattle.mlir_tree.specs.Tree.{Ty, Attr}
use Rattle.mlir_attributes.specs.declared.aliases.Alias.{Alias}
use Rattle.mlir_attributes.specs.declared.aliases.Meaning.{Meaning}
use Rattle.mlir_attributes.specs.declared.aliases.Meaning.TheVariants as meanings

-- The definition of this name.
abbrev pub find : List ℕ → List Alias → Option Alias
find name [] = None
find name (a ∷ more) = if bytes_eq a.name name then Some a else find name more

-- The type or the attribute that an alias stands for.
abbrev pub ty_meant : Meaning → Option Ty
ty_meant (meanings.Ty t) = Some t
ty_meant (meanings.Attr x) = None
ty_meant meanings.Location = None

abbrev pub attr_meant : Meaning → Option Attr
attr_meant (meanings.Ty t) = None
attr_meant (meanings.Attr x) = Some x
attr_meant meanings.Location = None

-- A name with a point, as `!dialect.name`, is never an alias.
abbrev pub has_point : List ℕ → Bool
has_point name = list_any (λ b. b == 46) name

-- how many bytes of text may be put in for aliases
abbrev pub max_put : ℕ
max_put = 67108864

-- The aliases of a map by their names.
abbrev pub defined : List (Vec ℕ Global × Alias) → List Alias
defined es = map (λ e. e.1) es

-- Each stands under its own name.
abbrev pub AreNamed : List (Vec ℕ Global × Alias) → Type 0
AreNamed [] = ⊤
AreNamed (e ∷ es) = (e.0.items ≡ e.1.name) × AreNamed es
