-- Whether a list is an assignment by which a pattern matches is decided.
use Rattle.std.proofs.Common.{◌≡◌, ◌⊎◌, inl, inr, ℕ, Bool, true, false, List, [], ◌∷◌, map, Option, Some, None, option_map, refl, sym, ap, ◌∙◌, subst}
use Rattle.std.specs.Prelude.{slice_get, option_and_then, ◌==◌}
use Rattle.std.specs.List.{AllByRecursion, list_all}
use Rattle.std.specs.declared.cmp.Ordering.{Ordering}
use Rattle.std.specs.declared.cmp.Ordering.TheVariants.{Less, Equal, Greater}
use Rattle.std.proofs.lemmas.Bool.Decides.{eqb_tells}
use denote.Enum.Bare.{sameb, same_true, same_false}
use Rattle.mlir_tree.specs.declared.row.Home.{Home}
use Rattle.mlir_tree.specs.declared.row.Row.{Row}
use Rattle.mlir_tree.specs.declared.value.Val.{Val}
use Rattle.mlir_tree.specs.declared.value.Val.TheVariants.{Res, Arg}
use Rattle.mlir_tree.specs.Tree.{Ty, Attr}
use Rattle.mlir_tree.specs.Order.{ty_cmp, attr_cmp}
use Rattle.mlir_tree.specs.Module.{row_of, home_of}
use Rattle.mlir_tree.specs.Edits.{attribute_of}
use Rattle.mlir_tree.proofs.OrderLaws.{tied_tys_are_equal, tied_attrs_are_equal}
use Rattle.native_set.specs.contracts.native.Kind.{the_type}
use Rattle.native_set.specs.declared.native.Kind.{Kind}
use Rattle.native_set.specs.declared.native.Constraint.{Constraint}
use Rattle.native_set.specs.declared.native.Constraint.TheVariants.{HasOneUse, HasNoUse, IsInt, IsZero, SameBlock, NoRegions}
use Rattle.native_set.specs.Arithmetic.{is_int, is_zero}
use Rattle.rewrite_model.specs.Pattern.{Parts, Expr, Demand, is_attr, is_type, has_parts, has_name, has_type, stands, calls, Pattern}
use Rattle.rewrite_model.specs.Ranges.{has_ranges}
use Rattle.rewrite_model.specs.Segments.{segments_of}
use Rattle.rewrite_model.specs.Things.{Thing, an_op, a_value, some_values, an_attr, a_type, some_types, kind_of, is_thing, IsAssignment, each, concatenated, denoted, values_denoted, types_denoted}
use Rattle.rewrite_model.specs.Holding.{HasEntry, HasOperands, HasParts, row_given, thing_type, uses, result_uses, NativeHolds, Holds}
use Rattle.rewrite_model.specs.Matching.{MatchesBy, Matches}
use Rattle.rewrite_model.specs.Laws.{MatchesAreDecided}
use Rattle.rewrite_model.proofs.Told.{some_or}
use Rattle.rewrite_model.proofs.Unique.{candidate, is_candidate}

-- ---- equality

abbrev Decided : Type 0 → Type 0
Decided A = A ⊎ (A → ⊥)

abbrev Differs : Type 0 → Type 0
Differs A = (x y : A) → Decided (x ≡ y)

numbers : Differs ℕ
numbers x y = by (eqb_tells x y) where
  by : (((x == y) ≡ true) × (x ≡ y)) ⊎ (((x == y) ≡ false) × ((x ≡ y) → ⊥)) → Decided (x ≡ y)
  by (inl e) = inl e.1
  by (inr n) = inr n.1

both : {A B : Type 0} → Decided A → Decided B → Decided (A × B)
both (inl a) (inl b) = inl (a, b)
both (inr n) b = inr (λ p. n p.0)
both (inl a) (inr n) = inr (λ p. n p.1)

lists : {A : Type 0} → Differs A → Differs (List A)
lists d [] [] = inl refl
lists d [] (y ∷ ys) = inr (λ e. cc)
lists d (x ∷ xs) [] = inr (λ e. cc)
lists {A = A} d (x ∷ xs) (y ∷ ys) = by (d x y) (lists d xs ys) where
  by : Decided (x ≡ y) → Decided (xs ≡ ys) → Decided (x ∷ xs ≡ y ∷ ys)
  by (inl e) (inl es) = inl (λ i. e i ∷ es i)
  by (inr n) es = inr (λ e. n (cc))
  by (inl e) (inr n) = inr (λ e. n (cc))

options : {A : Type 0} → Differs A → Differs (Option A)
options d None None = inl refl
options d None (Some y) = inr (λ e. cc)
options d (Some x) None = inr (λ e. cc)
options d (Some x) (Some y) = by (d x y) where
  by : Decided (x ≡ y) → Decided (Some x ≡ Some y)
  by (inl e) = inl (ap Some e)
  by (inr n) = inr (λ e. n (ap (some_or x) e))

kinds : Differs Kind
kinds a b = by (sameb the_type a b) refl where
  by : (t : Bool) → sameb the_type a b ≡ t → Decided (a ≡ b)
  by true p = inl (same_true the_type tt a b p)
  by false p = inr (same_false the_type a b p)

tests : (b : Bool) → Decided (b ≡ true)
tests true = inl refl
tests false = inr (λ e. cc)

types : Differs Ty
types x y = by (ty_cmp x y) refl where
  by : (o : Ordering) → ty_cmp x y ≡ o → Decided (x ≡ y)
  by Equal p = inl ((tied_tys_are_equal x y).0 p)
  by Less p = inr (λ e. let q = (tied_tys_are_equal x y).1 e in cc)
  by Greater p = inr (λ e. let q = (tied_tys_are_equal x y).1 e in cc)

attrs : Differs Attr
attrs x y = by (attr_cmp x y) refl where
  by : (o : Ordering) → attr_cmp x y ≡ o → Decided (x ≡ y)
  by Equal p = inl ((tied_attrs_are_equal x y).0 p)
  by Less p = inr (λ e. let q = (tied_attrs_are_equal x y).1 e in cc)
  by Greater p = inr (λ e. let q = (tied_attrs_are_equal x y).1 e in cc)

vals : Differs Val
vals (Res d k) (Res e j) = by (numbers d e) (numbers k j) where
  by : Decided (d ≡ e) → Decided (k ≡ j) → Decided (Res d k ≡ Res e j)
  by (inl p) (inl q) = inl (λ i. Res (p i) (q i))
  by (inr n) q = inr (λ e. n (cc))
  by (inl p) (inr n) = inr (λ e. n (cc))
vals (Res d k) (Arg e h j) = inr (λ e. cc)
vals (Arg d g k) (Res e j) = inr (λ e. cc)
vals (Arg d g k) (Arg e h j) = by (numbers d e) (numbers g h) (numbers k j) where
  by : Decided (d ≡ e) → Decided (g ≡ h) → Decided (k ≡ j) → Decided (Arg d g k ≡ Arg e h j)
  by (inl p) (inl q) (inl r) = inl (λ i. Arg (p i) (q i) (r i))
  by (inr n) q r = inr (λ e. n (cc))
  by (inl p) (inr n) r = inr (λ e. n (cc))
  by (inl p) (inl q) (inr n) = inr (λ e. n (cc))

homes : Differs Home
homes h g = by (numbers h.row g.row) (numbers h.region g.region) where
  by : Decided (h.row ≡ g.row) → Decided (h.region ≡ g.region) → Decided (h ≡ g)
  by (inl p) (inl q) = inl (λ i. record { row = p i; region = q i })
  by (inr n) q = inr (λ e. n (ap (λ x. x.row) e))
  by (inl p) (inr n) = inr (λ e. n (ap (λ x. x.region) e))

inside : {A : Type 0} (f : A → Thing) (g : Thing → A → A) → ((x y : A) → g (f x) y ≡ x) → Differs A → (x y : A) → Decided (f x ≡ f y)
inside f g same d x y = by (d x y) where
  by : Decided (x ≡ y) → Decided (f x ≡ f y)
  by (inl e) = inl (ap f e)
  by (inr n) = inr (λ e. n (sym (same x x) ∙ (ap (λ t. g t x) e ∙ same y x)))

abbrev op_in : Thing → ℕ → ℕ
op_in (an_op id) y = id
op_in t y = y

abbrev value_in : Thing → Val → Val
value_in (a_value v) y = v
value_in t y = y

abbrev values_of : Thing → List Val → List Val
values_of (some_values vs) y = vs
values_of t y = y

abbrev attr_of : Thing → Attr → Attr
attr_of (an_attr v) y = v
attr_of t y = y

abbrev type_in : Thing → Ty → Ty
type_in (a_type v) y = v
type_in t y = y

abbrev types_of : Thing → List Ty → List Ty
types_of (some_types v) y = v
types_of t y = y

things : Differs Thing
things (an_op x) (an_op y) = inside an_op op_in (λ x y. refl) numbers x y
things (a_value x) (a_value y) = inside a_value value_in (λ x y. refl) vals x y
things (some_values x) (some_values y) = inside some_values values_of (λ x y. refl) (lists vals) x y
things (an_attr x) (an_attr y) = inside an_attr attr_of (λ x y. refl) attrs x y
things (a_type x) (a_type y) = inside a_type type_in (λ x y. refl) types x y
things (some_types x) (some_types y) = inside some_types types_of (λ x y. refl) (lists types) x y
things x y = inr (λ e. cc)

-- ---- what there is

-- there is a member, of which this is decided
found : {X : Type 0} (o : Option X) (P : X → Type 0) → ((x : X) → Decided (P x)) → Decided ((x : X) × (o ≡ Some x) × P x)
found None P d = inr (λ h. let e = h.1 in cc)
found (Some y) P d = by (d y) where
  by : Decided (P y) → Decided ((x : _) × (Some y ≡ Some x) × P x)
  by (inl p) = inl (y, refl, p)
  by (inr n) = inr (λ h. n (subst P (sym (ap (some_or y) h.1)) h.2))

all : {X : Type 0} (P : X → Type 0) → ((x : X) → Decided (P x)) → (xs : List X) → Decided (AllByRecursion P xs)
all P d [] = inl tt
all P d (x ∷ xs) = both (d x) (all P d xs)

-- ---- demands

texts : Differs (List ℕ)
texts = lists numbers

module _ (rows : List Row) (a : List Thing) where
  entries : (r : Row) (e : List ℕ × Expr) → Decided (HasEntry rows a r e)
  entries r e = found (attribute_of r e.0) (λ v. denoted rows a e.1 ≡ Some (an_attr v)) (λ v. options things (denoted rows a e.1) (Some (an_attr v)))

  operands : (ranges : Bool) (es : List Expr) (r : Row) → Decided (HasOperands ranges rows a es r)
  operands true es r = found (segments_of r) (λ ss. each (values_denoted rows a) es ≡ Some ss) (λ ss. options (lists (lists vals)) (each (values_denoted rows a) es) (Some ss))
  operands false es r = options (lists vals) (concatenated (values_denoted rows a) es) (Some r.operands)

  described : (o : Parts Expr) (r : Row) → Decided (HasParts rows a o r)
  described o r = by (operands (has_ranges (map kind_of a) o.operands) o.operands r)
      (all (HasEntry rows a r) (entries r) o.entries) (options (lists types) (concatenated (types_denoted rows a) o.types) (Some r.results)) where
        by : Decided (HasOperands (has_ranges (map kind_of a) o.operands) rows a o.operands r) → Decided (AllByRecursion (HasEntry rows a r) o.entries)
            → Decided (concatenated (types_denoted rows a) o.types ≡ Some r.results) → Decided (HasParts rows a o r)
        by (inl v) (inl e) (inl t) = inl (record { operands = v; entries = e; types = t })
        by (inr q) e t = inr (λ d. q d.operands)
        by (inl v) (inr q) t = inr (λ d. q d.entries)
        by (inl v) (inl e) (inr q) = inr (λ d. q d.types)

  natives : (c : Constraint) (ts : List Thing) → Decided (NativeHolds rows c ts)
  natives HasOneUse (a_value v ∷ []) = numbers (uses rows v) 1
  natives HasNoUse (an_op id ∷ []) = numbers (result_uses rows id) 0
  natives IsInt (an_attr v ∷ []) = tests (is_int v)
  natives IsZero (an_attr v ∷ []) = tests (is_zero v)
  natives SameBlock (an_op i ∷ an_op j ∷ []) = options homes (home_of rows i) (home_of rows j)
  natives NoRegions (an_op id ∷ []) = options (lists (lists types)) (option_map (λ r. r.regions) (row_of rows id)) (Some [])
  natives c ts = inr (λ h. h)

  holding : (d : Demand) → Decided (Holds rows a d)
  holding (has_parts x o) = found (row_given rows a x) (HasParts rows a o) (described o)
  holding (is_attr x v) = options things (slice_get a x) (Some (an_attr v))
  holding (is_type x t) = options things (slice_get a x) (Some (a_type t))
  holding (has_name x n) = options texts (option_map (λ r. r.name) (row_given rows a x)) (Some n)
  holding (has_type x e) = found (denoted rows a e) (λ t. option_and_then (thing_type rows) (slice_get a x) ≡ Some t) (λ t. options things (option_and_then (thing_type rows) (slice_get a x)) (Some t))
  holding (stands e) = by (denoted rows a e) where
    by : (o : Option Thing) → Decided ((t : Thing) × (o ≡ Some t))
    by None = inr (λ h. let e = h.1 in cc)
    by (Some t) = inl (t, refl)
  holding (calls c es) = found (each (denoted rows a) es) (NativeHolds rows c) (natives c)

-- ---- patterns

assigned : (rows : List Row) (ks : List Kind) (a : List Thing) → Decided (IsAssignment rows ks a)
assigned rows ks a = by (lists kinds (map kind_of a) ks) (tests (list_all (is_thing rows) a)) where
  by : Decided (map kind_of a ≡ ks) → Decided (list_all (is_thing rows) a ≡ true) → Decided (IsAssignment rows ks a)
  by (inl k) (inl t) = inl (record { kinds_fit = k; are_things = t })
  by (inr n) t = inr (λ h. n h.kinds_fit)
  by (inl k) (inr n) = inr (λ h. n h.are_things)

matching : (rows : List Row) (p : Pattern) (a : List Thing) (id : ℕ) → Decided (MatchesBy rows p a id)
matching rows p a id = by (assigned rows p.kinds a) (all (Holds rows a) (holding rows a) p.demands) (options things (slice_get a p.root) (Some (an_op id))) where
  by : Decided (IsAssignment rows p.kinds a) → Decided (AllByRecursion (Holds rows a) p.demands) → Decided (slice_get a p.root ≡ Some (an_op id)) → Decided (MatchesBy rows p a id)
  by (inl s) (inl h) (inl r) = inl (record { assigned = s; holds = h; root = r })
  by (inr n) h r = inr (λ m. n m.assigned)
  by (inl s) (inr n) r = inr (λ m. n m.holds)
  by (inl s) (inl h) (inr n) = inr (λ m. n m.root)

-- Only the candidate can be the assignment, and it is tested.
pub matches_are_decided : MatchesAreDecided
matches_are_decided p d rows id = by (candidate rows p d id) refl where
  by : (o : Option (List Thing)) → candidate rows p d id ≡ o → Matches rows p id ⊎ (Matches rows p id → ⊥)
  by None e = inr (λ m. let f = is_candidate rows p d id m.0 m.1 in cc)
  by (Some a) e = of (matching rows p a id) where
    of : Decided (MatchesBy rows p a id) → Matches rows p id ⊎ (Matches rows p id → ⊥)
    of (inl m) = inl (a, m)
    of (inr n) = inr (λ m. n (subst (λ b. MatchesBy rows p b id) (ap (some_or a) (sym (is_candidate rows p d id m.0 m.1) ∙ e)) m.1))
