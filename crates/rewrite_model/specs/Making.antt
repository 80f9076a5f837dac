-- What the actions of a rewrite do to a module, one after another (PDLL document, "Rewrites"; pdl dialect, "pdl.replace",
-- "pdl.erase"). The breaks and their order are this project's.
use Rattle.std.specs.Prelude.{ℕ, ◌+◌, Bool, true, false, not, ◌&&◌, nat_eq, nat_le, List, [], ◌∷◌, ◌++◌, map, length, sum_by, slice_get, Option, Some, None, option_map, option_and_then, Result, Ok, Err}
use Rattle.std.specs.List.{list_all, range_with_len}
use Rattle.std.specs.Cmp.Lexicographic.{pointwise}
use Rattle.mlir_tree.specs.declared.row.Row.{Row}
use Rattle.mlir_tree.specs.declared.rows.Rows.{Rows}
use Rattle.mlir_tree.specs.declared.value.Val.{Val}
use Rattle.mlir_tree.specs.declared.value.Val.TheVariants.{Res}
use Rattle.mlir_tree.specs.Tree.{Ty, Attr}
use Rattle.mlir_tree.specs.Module.{row_of, has_row}
use Rattle.mlir_tree.specs.Edits.{inserted, substituted, removed}
use Rattle.mlir_tree.specs.Laws.{owner_of}
use Rattle.mlir_attributes.specs.Dictionary.{put_entry}
use Rattle.native_set.specs.declared.native.Rewrite.{Rewrite}
use Rattle.native_set.specs.declared.native.Rewrite.TheVariants.{AddInt, MulInt, NegInt}
use Rattle.native_set.specs.Arithmetic.{sum, product, negative, is_same}
use Rattle.rewrite_model.specs.declared.run.Break.{Break}
use Rattle.rewrite_model.specs.declared.run.Break.TheVariants.{Gone, Count, Types, Top, NativeRefused}
use Rattle.rewrite_model.specs.declared.run.BoundKind.{BoundKind}
use Rattle.rewrite_model.specs.declared.run.BoundKind.TheVariants.{RowLimit, SlotLimit}
use Rattle.rewrite_model.specs.Pattern.{Parts, Part, matched, made, Making, attr_literal, type_literal, new_operation, result_of, only_result_of, results_of, result_types_of, native, Action, makes, replaces, erases}
use Rattle.rewrite_model.specs.Things.{Thing, an_op, some_values, an_attr, a_type, some_types, row_at, result_at, only_result_at, type_of, values_in, types_in, attr_in, concatenated, each, denoted}

-- What ends a step before its time.
pub data Stop : Type 0 where
  breaks : Break → Stop
  bound : BoundKind → Stop

-- Where a step begins: the rows, the assignment of the match, the root.
pub record Start : Type 0 where
  pub rows : List Row
  pub given : List Thing
  pub root : ℕ

-- How far it came: the module now, what was made, and how many rows and slots stood there at the start or were made since.
pub record Progress : Type 0 where
  pub now : Rows
  pub made : List Thing
  pub rows : ℕ
  pub slots : ℕ

-- ---- work that may stop

abbrev pub Outcome : Type 0 → Type 0
Outcome A = Result A Stop

infixl 10 ◌>>=◌
abbrev pub ◌>>=◌ : {A B : Type 0} → Outcome A → (A → Outcome B) → Outcome B
(Ok a) >>= f = f a
(Err e) >>= f = Err e

infixl 10 ◌>>◌
abbrev pub ◌>>◌ : {A B : Type 0} → Outcome A → Outcome B → Outcome B
p >> q = p >>= (λ _. q)

abbrev pub or_stop : {A : Type 0} → Stop → Option A → Outcome A
or_stop e (Some x) = Ok x
or_stop e None = Err e

abbrev pub or_break : {A : Type 0} → Break → Option A → Outcome A
or_break b x = or_stop (breaks b) x

abbrev pub need_or : Bool → Stop → Outcome (Unit {0})
need_or true e = Ok tt
need_or false e = Err e

-- goes on where it is so
abbrev pub need : Bool → Break → Outcome (Unit {0})
need is b = need_or is (breaks b)

-- ---- rows and their slots

-- the operands and results of a row
abbrev pub slots_of : Row → ℕ
slots_of r = length r.operands + length r.results

abbrev pub all_slots : List Row → ℕ
all_slots rows = sum_by slots_of rows

-- the results of a row
abbrev pub results : Row → List Val
results r = map (λ k. Res r.id k) (range_with_len 0 (length r.results))

-- whether the operations that have these values are live
abbrev pub are_live : List Row → List Val → Bool
are_live rows vs = list_all (λ v. has_row rows (owner_of v)) vs

abbrev pub are_types : List Ty → List Ty → Bool
are_types = pointwise is_same

-- whether the values have these types, place by place
abbrev pub have_types : List Row → List Val → List Ty → Bool
have_types rows vs ts = has (each (type_of rows) vs) where
  has : Option (List Ty) → Bool
  has (Some us) = are_types us ts
  has None = false

-- a dictionary with these entries, in the order of their names
abbrev pub sorted : List (List ℕ × Attr) → List (List ℕ × Attr)
sorted [] = []
sorted (e ∷ es) = put_entry e.0 e.1 (sorted es)

abbrev pub native_result : Rewrite → List Thing → Option Attr
native_result AddInt (an_attr a ∷ an_attr b ∷ []) = sum a b
native_result MulInt (an_attr a ∷ an_attr b ∷ []) = product a b
native_result NegInt (an_attr a ∷ []) = negative a
native_result f ts = None

module _ (start : Start) where
  -- ---- parts

  -- What an expression of the match denoted when the step began, or what was made since.
  abbrev pub part : Progress → Part → Option Thing
  part p (matched e) = denoted start.rows start.given e
  part p (made k) = slice_get p.made k

  -- an operation that was removed is gone
  abbrev pub live_row : Progress → Part → Outcome Row
  live_row p x = or_break Gone (option_and_then (row_at p.now.rows) (part p x))

  abbrev pub values_at : Progress → List Part → Outcome (List Val)
  values_at p xs = or_break Gone (concatenated (λ x. option_and_then values_in (part p x)) xs)

  abbrev pub types_at : Progress → List Part → Outcome (List Ty)
  types_at p xs = or_break Gone (concatenated (λ x. option_and_then types_in (part p x)) xs)

  abbrev pub entry_at : Progress → List ℕ × Part → Option (List ℕ × Attr)
  entry_at p e = option_map (λ v. (e.0, v)) (option_and_then attr_in (part p e.1))

  abbrev pub entries_at : Progress → List (List ℕ × Part) → Outcome (List (List ℕ × Attr))
  entries_at p es = or_break Gone (each (entry_at p) es)

  -- ---- new operations

  -- without properties and regions, in the block of the root
  abbrev pub new_row : Row → ℕ → List ℕ → List Val → List (List ℕ × Attr) → List Ty → Row
  new_row root id name vs es ts =
      record { id = id; home = root.home; name = name; operands = vs; results = ts; props = []; attrs = sorted es; regions = [] }

  -- at most 4,000,000 rows, then at most 16,000,000 slots, and at most 65,535 operands and results of one row
  abbrev pub need_room : Progress → Row → Outcome (Unit {0})
  need_room p new = do
    need_or (nat_le (p.rows + 1) 4000000) (bound RowLimit)
    need_or (nat_le (p.slots + slots_of new) 16000000 && (nat_le (length new.operands) 65535 && nat_le (length new.results) 65535)) (bound SlotLimit)

  -- the thing, as the last that was made
  abbrev pub giving : Progress → Thing → Progress
  giving p t = record p { made = p.made ++ t ∷ [] }

  -- the row just before the root
  abbrev pub put_in : Progress → Row → Progress
  put_in p new = record {
    now = inserted new (Some start.root) p.now;
    made = p.made ++ an_op new.id ∷ [];
    rows = p.rows + 1;
    slots = p.slots + slots_of new;
  }

  abbrev pub create : Progress → List ℕ → Parts Part → Outcome Progress
  create p name o = do
    vs ← values_at p o.operands
    es ← entries_at p o.entries
    ts ← types_at p o.types
    need (are_live p.now.rows vs) Gone
    need (not (nat_eq start.root 0)) Top
    root ← or_break Gone (row_of p.now.rows start.root)
    need_room p (new_row root p.now.next name vs es ts)
    Ok (put_in p (new_row root p.now.next name vs es ts))

  -- ---- what is made

  abbrev pub making : Progress → Making → Outcome Progress
  making p (new_operation name o) = create p name o
  making p (attr_literal v) = Ok (giving p (an_attr v))
  making p (type_literal t) = Ok (giving p (a_type t))
  making p (result_of x k) = do
    r ← live_row p x
    t ← or_break Count (result_at k r)
    Ok (giving p t)
  making p (only_result_of x) = do
    r ← live_row p x
    t ← or_break Count (only_result_at r)
    Ok (giving p t)
  making p (results_of x) = do
    r ← live_row p x
    Ok (giving p (some_values (results r)))
  making p (result_types_of x) = do
    r ← live_row p x
    Ok (giving p (some_types r.results))
  making p (native f xs) = do
    ts ← or_break Gone (each (part p) xs)
    v ← or_break NativeRefused (native_result f ts)
    Ok (giving p (an_attr v))

  -- ---- actions

  abbrev pub edited : Progress → (Rows → Rows) → Progress
  edited p edit = record p { now = edit p.now }

  -- The values are used in place of the results, in every row at once; then the row is removed with the rows inside it.
  abbrev pub replace : Progress → Part → List Part → Outcome Progress
  replace p x xs = do
    r ← live_row p x
    vs ← values_at p xs
    need (are_live p.now.rows vs) Gone
    need (nat_eq (length vs) (length r.results)) Count
    need (have_types p.now.rows vs r.results) Types
    need (not (nat_eq r.id 0)) Top
    Ok (edited p (λ m. removed r.id (substituted (results r) vs m)))

  abbrev pub erase : Progress → Part → Outcome Progress
  erase p x = do
    r ← live_row p x
    need (not (nat_eq r.id 0)) Top
    Ok (edited p (removed r.id))

  abbrev pub act : Progress → Action → Outcome Progress
  act p (makes x) = making p x
  act p (replaces x xs) = replace p x xs
  act p (erases x) = erase p x

  abbrev pub act_all : Progress → List Action → Outcome Progress
  act_all p [] = Ok p
  act_all p (x ∷ xs) = act p x >>= (λ q. act_all q xs)
