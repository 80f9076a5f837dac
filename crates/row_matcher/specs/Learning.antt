-- What is known of the things that numbers have, and how it grows.
use Rattle.std.specs.Prelude.{◌≡◌, ℕ, zero, suc, ◌-◌, Bool, true, false, List, [], ◌∷◌, map, length, take, drop, replicate, slice_get, Option, Some, None, option_map, option_and_then}
use Rattle.mlir_tree.specs.declared.row.Row.{Row}
use Rattle.mlir_tree.specs.declared.value.Val.{Val}
use Rattle.mlir_tree.specs.declared.value.Val.TheVariants.{Res}
use Rattle.mlir_tree.specs.Edits.{attribute_of}
use Rattle.native_set.specs.declared.native.Kind.{Kind}
use Rattle.rewrite_model.specs.Pattern.{Parts, Expr, the, result, only_result, Demand, is_attr, is_type, has_parts, has_type}
use Rattle.rewrite_model.specs.Things.{Thing, an_op, a_value, some_values, an_attr, a_type, some_types, row_at}
use Rattle.rewrite_model.specs.Holding.{thing_type}
use Rattle.rewrite_model.specs.Ranges.{is_range, has_ranges}
use Rattle.rewrite_model.specs.Segments.{segments_of}
use Rattle.rewrite_model.specs.Laws.{number_in}
use Rattle.row_matcher.specs.declared.thing.Thing.{Thing as ThingNode}
use Rattle.row_matcher.specs.View.{thing_of}

abbrev pub Known : Type 0
Known = List (Option Thing)

abbrev pub known_of : List (Option ThingNode) → Known
known_of k = map (option_map thing_of) k

-- what is known of a number
abbrev pub known_at : Known → ℕ → Option Thing
known_at k x = option_and_then (λ o. o) (slice_get k x)

-- With this thing for a number of which nothing is known.
abbrev pub learnt : ℕ → Thing → Known → Known
learnt x t [] = []
learnt zero t (None ∷ k) = Some t ∷ k
learnt zero t (Some u ∷ k) = Some u ∷ k
learnt (suc x) t (o ∷ k) = o ∷ learnt x t k

abbrev pub learnt_if : ℕ → Option Thing → Known → Known
learnt_if x None k = k
learnt_if x (Some t) k = learnt x t k

-- ---- expressions that are told what they denote

-- the operation whose result a value is
abbrev pub holder : Thing → Option Thing
holder (a_value (Res d j)) = Some (an_op d)
holder t = None

-- the thing of the number in an expression, by what the expression denotes
abbrev pub variable_in : Expr → Thing → Option Thing
variable_in (the x) t = Some t
variable_in (result x k) t = holder t
variable_in (only_result x) t = holder t

abbrev pub tell : Expr → Option Thing → Known → Known
tell e t k = learnt_if (number_in e) (option_and_then (variable_in e) t) k

abbrev pub tells : List Expr → List Thing → Known → Known
tells [] ts k = k
tells (e ∷ es) [] k = k
tells (e ∷ es) (t ∷ ts) k = tells es ts (tell e (Some t) k)

-- A list cut into what expressions of these sorts denote: a range has what the others leave.
abbrev pub cut : {X : Type 0} → (X → Thing) → (List X → Thing) → List Bool → List X → List Thing
cut single many [] xs = []
cut single many (true ∷ fs) xs = many (take (length xs - length fs) xs) ∷ cut single many fs (drop (length xs - length fs) xs)
cut single many (false ∷ fs) [] = []
cut single many (false ∷ fs) (x ∷ xs) = single x ∷ cut single many fs xs

-- ---- parts

-- the first of them, with what is left, where so many are behind
abbrev pub cut_one : {X : Type 0} → (X → Thing) → (List X → Thing) → Bool → ℕ → List X → Option (Thing × List X)
cut_one single many true n xs = Some (many (take (length xs - n) xs), drop (length xs - n) xs)
cut_one single many false n [] = None
cut_one single many false n (x ∷ xs) = Some (single x, xs)

abbrev pub tell_list : {X : Type 0} → (X → Thing) → (List X → Thing) → List Kind → List Expr → List X → Known → Known
tell_list single many ks es xs k = tells es (cut single many (map (is_range ks) es) xs) k

-- what a member of a list of operands is by its segment: a range is the list, another member the one value
abbrev pub segment_thing : Bool → List Val → Option Thing
segment_thing true vs = Some (some_values vs)
segment_thing false (v ∷ []) = Some (a_value v)
segment_thing false vs = None

abbrev pub thing_then : Option Thing → List Thing → List Thing
thing_then None ts = []
thing_then (Some t) ts = t ∷ ts

-- Segments as what expressions of these sorts denote.
abbrev pub of_segments : List Bool → List (List Val) → List Thing
of_segments [] ss = []
of_segments (f ∷ fs) [] = []
of_segments (f ∷ fs) (s ∷ ss) = thing_then (segment_thing f s) (of_segments fs ss)

abbrev pub by_segments : List Bool → Option (List (List Val)) → List Thing
by_segments fs None = []
by_segments fs (Some ss) = of_segments fs ss

-- What the members of a list of operands are told, by whether it has two or more ranges.
abbrev pub operands_cut : Bool → List Bool → Row → List Thing
operands_cut true fs r = by_segments fs (segments_of r)
operands_cut false fs r = cut a_value some_values fs r.operands

abbrev pub tell_operands : List Kind → List Expr → Row → Known → Known
tell_operands ks es r k = tells es (operands_cut (has_ranges ks es) (map (is_range ks) es) r) k

abbrev pub tell_segments : List Kind → List Expr → Option (List (List Val)) → Known → Known
tell_segments ks es ss k = tells es (by_segments (map (is_range ks) es) ss) k

abbrev pub tell_entries : Row → List (List ℕ × Expr) → Known → Known
tell_entries r [] k = k
tell_entries r (x ∷ es) k = tell_entries r es (tell x.1 (option_map an_attr (attribute_of r x.0)) k)

abbrev pub tell_parts : List Kind → Row → Parts Expr → Known → Known
tell_parts ks r o k = tell_list a_type some_types ks o.types r.results (tell_entries r o.entries (tell_operands ks o.operands r k))

abbrev pub tell_row : List Kind → Option Row → Parts Expr → Known → Known
tell_row ks None o k = k
tell_row ks (Some r) o k = tell_parts ks r o k

-- ---- demands

-- What a demand tells.
unfoldable pub grown : List Row → List Kind → Demand → Known → Known
grown rows ks (is_attr x v) k = learnt x (an_attr v) k
grown rows ks (is_type x t) k = learnt x (a_type t) k
grown rows ks (has_parts x o) k = tell_row ks (option_and_then (row_at rows) (known_at k x)) o k
grown rows ks (has_type x e) k = tell e (option_and_then (thing_type rows) (known_at k x)) k
grown rows ks d k = k

-- One way through demands, the last one first.
abbrev pub passed : List Row → List Kind → List Demand → Known → Known
passed rows ks [] k = k
passed rows ks (d ∷ ds) k = grown rows ks d (passed rows ks ds k)

-- Of how many numbers something is known.
abbrev pub known_in : Known → ℕ
known_in [] = 0
known_in (None ∷ k) = known_in k
known_in (Some t ∷ k) = suc (known_in k)

-- The things of all numbers, if all are known.
abbrev pub all_known : Known → Option (List Thing)
all_known [] = Some []
all_known (None ∷ k) = None
all_known (Some t ∷ k) = option_map (λ ts. t ∷ ts) (all_known k)

-- so many times
abbrev pub times : {A : Type 0} → ℕ → (A → A) → A → A
times zero f x = x
times (suc n) f x = times n f (f x)

-- The new is known by some ways through the demands.
abbrev pub IsReached : List Row → List Kind → List Demand → Known → Known → Type 0
IsReached rows ks ds old new = (n : ℕ) × (new ≡ times n (passed rows ks ds) old)

-- What is known at first: the root is the operation.
abbrev pub start : ℕ → ℕ → ℕ → Known
start n root id = learnt root (an_op id) (replicate n None)

-- These are the things of all numbers, where as much is known as the demands tell.
abbrev pub AreTold : List Row → List Kind → List Demand → ℕ → ℕ → Option (List Thing) → Type 0
AreTold rows ks ds root id o = (k : Known) × (passed rows ks ds k ≡ k) × IsReached rows ks ds (start (length ks) root id) k × (o ≡ all_known k)
