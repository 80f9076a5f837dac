-- Which variables are in sight, and the kinds of expressions (MLIR's document "PDLL - PDL Language", "Variables").
use Rattle.std.specs.Prelude.{ℕ, Bool, ◌||◌, if◌then◌else◌, List, [], ◌∷◌, ◌++◌, fold, find, bytes_eq, codes, Option, Some, None}
use Rattle.std.specs.Option.{option_and_then, is_some}
use Rattle.std.specs.List.{list_any}
use Rattle.pdll_syntax.specs.ExprTree.{Expr, expr, ExprForm, name_expr, call_expr, declare_expr, attr_expr, type_expr, op_expr, member_expr, OpExpr, operation, Refs, no_refs, ref_then, MaybeExpr, no_expr, some_expr}
use Rattle.pdll_types.specs.declared.kind.Kind.{Kind}
use Rattle.pdll_types.specs.declared.kind.Kind.TheVariants as kind
use Rattle.pdll_types.specs.Signatures.{Declared, call_kind, kind_of_refs}
use Rattle.pdll_types.specs.Mentions.{Mention, word, shown}

-- A variable in sight, with its kind where it has one.
pub record Known : Type 0 where
  pub name : List ℕ
  pub kind : Option Kind

-- Whether the name is `_`, which is a variable of its own at each place.
abbrev pub is_blank : List ℕ → Bool
is_blank n = bytes_eq n (codes "_")

-- The first variable of this name.
abbrev pub variable_of : List Known → List ℕ → Option Known
variable_of s n = find (λ v. bytes_eq n v.name) s

abbrev pub name_of_operation : OpExpr → List ℕ
name_of_operation (operation n xs es ts) = n

-- The kind of an expression, among these declarations and these variables. A name that means nothing has none.
abbrev pub kind_of : List Declared → List Known → ExprForm → Option Kind
kind_of c s (name_expr n) = option_and_then (λ v. v.kind) (variable_of s n)
kind_of c s (call_expr n xs) = call_kind c n
kind_of c s (declare_expr n rs) = kind_of_refs c rs
kind_of c s (attr_expr l) = Some kind.Attr
kind_of c s (type_expr l) = Some kind.Ty
kind_of c s (op_expr o) = Some (kind.Row (Some (name_of_operation o)))
kind_of c s (member_expr x k) = Some kind.Value

abbrev pub form_of : Expr → ExprForm
form_of (expr at form) = form

abbrev pub place_of : Expr → ℕ
place_of (expr at form) = at

-- The kind of a variable: the one that is written, or without refs that of its value.
abbrev pub kind_of_variable : List Declared → List Known → Refs → MaybeExpr → Option Kind
kind_of_variable c s no_refs (some_expr x) = kind_of c s (form_of x)
kind_of_variable c s no_refs no_expr = None
kind_of_variable c s (ref_then r rs) x = kind_of_refs c (ref_then r rs)

abbrev pub is_in_sight : List Known → List ℕ → Bool
is_in_sight s n = is_some (variable_of s n)

-- One more variable, where it isn't `_` and its name is new.
abbrev pub sight_with : List Known → List ℕ → Option Kind → List Known
sight_with s n k = if is_blank n || is_in_sight s n then s else s ++ record { name = n; kind = k } ∷ []

abbrev pub is_word : List (List ℕ) → List ℕ → Bool
is_word ws n = list_any (bytes_eq n) ws

-- One more word, where it isn't there yet.
abbrev pub with_word : List (List ℕ) → List ℕ → List (List ℕ)
with_word ws n = if is_word ws n then ws else ws ++ n ∷ []

-- The variables in sight behind one more mention.
unfoldable pub sight_behind : List Declared → List Known → Mention → List Known
sight_behind c s (shown n rs x) = sight_with s n (kind_of_variable c s rs x)
sight_behind c s m = s

-- The words that declare variables, behind one more mention.
unfoldable pub words_behind : List (List ℕ) → Mention → List (List ℕ)
words_behind ws (word p given at n) = if is_blank n then ws else with_word ws n
words_behind ws m = ws

-- What stands before a mention: the variables in sight, and the words that declare variables.
pub record Seen : Type 0 where
  pub sight : List Known
  pub words : List (List ℕ)

abbrev pub seen_behind : List Declared → Seen → Mention → Seen
seen_behind c s m = record { sight = sight_behind c s.sight m; words = words_behind s.words m }

abbrev pub nothing : Seen
nothing = record { sight = []; words = [] }

-- What is seen behind all of these.
abbrev pub seen : List Declared → List Mention → Seen
seen c ms = fold (seen_behind c) nothing ms
