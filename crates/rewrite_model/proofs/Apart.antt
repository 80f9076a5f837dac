-- What asks for parts or for a type is no literal, and no number gets to be a literal later.
use Rattle.std.proofs.Common.{◌≡◌, inl, inr, ℕ, ◌+◌, ◌≤◌, ◌<◌, Bool, true, false, List, [], ◌∷◌, ◌++◌, length, Option, Some, None, length-append, refl, sym, ap, subst, arith}
use Rattle.std.specs.Prelude.{◌⊎◌}
use Rattle.mlir_tree.specs.Tree.{Ty, Attr}
use Rattle.native_set.specs.declared.native.Kind.{Kind}
use Rattle.native_set.specs.declared.native.Kind.TheVariants as kind
use Rattle.rewrite_model.specs.Pattern.{Parts, Expr, the, Demand, stands, is_attr, is_type, has_name, has_parts, has_type}
use Rattle.rewrite_model.specs.MatchPart.{Scene, new_number, ask}
use Rattle.rewrite_model.specs.Determined.{IsIn}
use Rattle.rewrite_model.proofs.Reading.{with_variable, with_operation, Keeping}

-- a literal has this number
abbrev pub IsTold : ℕ → List Demand → Type 0
IsTold x ds = ((v : Attr) × IsIn (is_attr x v) ds) ⊎ ((t : Ty) × IsIn (is_type x t) ds)

-- what has this number is asked for its parts or its type
abbrev pub IsHead : ℕ → List Demand → Type 0
IsHead x ds = ((o : Parts Expr) × IsIn (has_parts x o) ds) ⊎ ((e : Expr) × IsIn (has_type x e) ds)

-- ---- lists

pub in_front : {X : Type 0} (x : X) (xs ys : List X) → IsIn x xs → IsIn x (xs ++ ys)
in_front x [] ys i = elim i [ ]
in_front x (y ∷ xs) ys (inl i) = inl i
in_front x (y ∷ xs) ys (inr i) = inr (in_front x xs ys i)

pub in_last : {X : Type 0} (xs : List X) (x : X) → IsIn x (xs ++ x ∷ [])
in_last [] x = inl refl
in_last (y ∷ xs) x = inr (in_last xs x)

pub in_either : {X : Type 0} (x : X) (xs : List X) (y : X) → IsIn x (xs ++ y ∷ []) → IsIn x xs ⊎ (x ≡ y)
in_either x [] y (inl i) = inr i
in_either x [] y (inr i) = elim i [ ]
in_either x (z ∷ xs) y (inl i) = inl (inl i)
in_either x (z ∷ xs) y (inr i) = by (in_either x xs y i) where
  by : IsIn x xs ⊎ (x ≡ y) → IsIn x (z ∷ xs) ⊎ (x ≡ y)
  by (inl j) = inl (inr j)
  by (inr e) = inr e

-- ---- demands

abbrev pub tells : Demand → Bool
tells (is_attr x v) = true
tells (is_type x t) = true
tells d = false

abbrev pub heads : Demand → Bool
heads (has_parts x o) = true
heads (has_type x e) = true
heads d = false

abbrev number : Demand → ℕ
number (is_attr x v) = x
number (is_type x t) = x
number (has_parts x o) = x
number (has_type x e) = x
number d = 0

pub told_last : (x : ℕ) (ds : List Demand) (d : Demand) → IsTold x (ds ++ d ∷ []) → IsTold x ds ⊎ ((tells d ≡ true) × (x ≡ number d))
told_last x ds d (inl i) = by (in_either (is_attr x i.0) ds d i.1) where
  by : IsIn (is_attr x i.0) ds ⊎ (is_attr x i.0 ≡ d) → IsTold x ds ⊎ ((tells d ≡ true) × (x ≡ number d))
  by (inl j) = inl (inl (i.0, j))
  by (inr e) = inr (ap tells (sym e), ap number e)
told_last x ds d (inr i) = by (in_either (is_type x i.0) ds d i.1) where
  by : IsIn (is_type x i.0) ds ⊎ (is_type x i.0 ≡ d) → IsTold x ds ⊎ ((tells d ≡ true) × (x ≡ number d))
  by (inl j) = inl (inr (i.0, j))
  by (inr e) = inr (ap tells (sym e), ap number e)

pub head_last : (x : ℕ) (ds : List Demand) (d : Demand) → IsHead x (ds ++ d ∷ []) → IsHead x ds ⊎ ((heads d ≡ true) × (x ≡ number d))
head_last x ds d (inl i) = by (in_either (has_parts x i.0) ds d i.1) where
  by : IsIn (has_parts x i.0) ds ⊎ (has_parts x i.0 ≡ d) → IsHead x ds ⊎ ((heads d ≡ true) × (x ≡ number d))
  by (inl j) = inl (inl (i.0, j))
  by (inr e) = inr (ap heads (sym e), ap number e)
head_last x ds d (inr i) = by (in_either (has_type x i.0) ds d i.1) where
  by : IsIn (has_type x i.0) ds ⊎ (has_type x i.0 ≡ d) → IsHead x ds ⊎ ((heads d ≡ true) × (x ≡ number d))
  by (inl j) = inl (inr (i.0, j))
  by (inr e) = inr (ap heads (sym e), ap number e)

-- ---- a number that no literal has

pub record IsUntold (x : ℕ) (s : Scene) : Type 0 where
  pub within : x < length s.kinds
  pub untold : IsTold x s.demands → ⊥

longer : (ks : List Kind) (k : Kind) → length (ks ++ k ∷ []) ≡ length ks + 1
longer ks k = length-append ks (k ∷ [])

untold_numbered : (x : ℕ) (at : ℕ) (k : Kind) (s : Scene) → IsUntold x s → IsUntold x (new_number at k s).1
untold_numbered x at k s h = let l = longer s.kinds k in let w = h.within in record { within = omega (arith, l, w); untold = h.untold }

-- a demand that tells no number but this one
untold_asked : (x : ℕ) (d : Demand) (s : Scene) → (tells d ≡ true → x ≡ number d → ⊥) → IsUntold x s → IsUntold x (ask d s).1
untold_asked x d s never h = record { within = h.within; untold = λ t. by (told_last x s.demands d t) } where
  by : IsTold x s.demands ⊎ ((tells d ≡ true) × (x ≡ number d)) → ⊥
  by (inl t) = h.untold t
  by (inr p) = never p.0 p.1

untelling : (x : ℕ) (d : Demand) (s : Scene) → tells d ≡ false → IsUntold x s → IsUntold x (ask d s).1
untelling x d s never h = untold_asked x d s (λ so same. absurd (cc)) h

untold_variable : (x : ℕ) (at : ℕ) (k : Kind) (n : Option (List ℕ)) (t : Option Expr) (s : Scene) → IsUntold x (new_number at k s).1 → IsUntold x (with_variable at k n t s)
untold_variable x at k None None s h = untelling x (stands (the (length s.kinds))) (new_number at k s).1 refl h
untold_variable x at k (Some n) None s h =
    let y = (new_number at k s).1 in
    let z = (ask (stands (the (length s.kinds))) y).1 in
    untelling x (has_name (length s.kinds) n) z refl (untelling x (stands (the (length s.kinds))) y refl h)
untold_variable x at k None (Some t) s h =
    let y = (new_number at k s).1 in
    let z = (ask (stands (the (length s.kinds))) y).1 in
    untelling x (has_type (length s.kinds) t) z refl (untelling x (stands (the (length s.kinds))) y refl h)
untold_variable x at k (Some n) (Some t) s h =
    let y = (new_number at k s).1 in
    let z = (ask (stands (the (length s.kinds))) y).1 in
    let w = (ask (has_name (length s.kinds) n) z).1 in
    untelling x (has_type (length s.kinds) t) w refl (untelling x (has_name (length s.kinds) n) z refl (untelling x (stands (the (length s.kinds))) y refl h))

untold_operation : (x : ℕ) (at : ℕ) (n : List ℕ) (o : Parts Expr) (s : Scene) → IsUntold x (new_number at kind.Op s).1 → IsUntold x (with_operation at n o s)
untold_operation x at n o s h =
    let y = (new_number at kind.Op s).1 in
    let z = (ask (has_name (length s.kinds) n) y).1 in
    untelling x (has_parts (length s.kinds) o) z refl (untelling x (has_name (length s.kinds) n) y refl h)

pub untold_kept : (x : ℕ) → Keeping (IsUntold x)
untold_kept x = record {
  names = λ ns s h. record { within = h.within; untold = h.untold };
  mention = λ e s h. untelling x (stands e) s refl h;
  attr = λ at v s h. let w = h.within in untold_asked x (is_attr (length s.kinds) v) (new_number at kind.Attr s).1 (λ so same. omega (arith, w, same)) (untold_numbered x at kind.Attr s h);
  type = λ at t s h. let w = h.within in untold_asked x (is_type (length s.kinds) t) (new_number at kind.Ty s).1 (λ so same. omega (arith, w, same)) (untold_numbered x at kind.Ty s h);
  variable = λ at k n t s h. untold_variable x at k n t s (untold_numbered x at k s h);
  operation = λ at n o s h. untold_operation x at n o s (untold_numbered x at kind.Op s h);
}

-- ---- from this number on, what is asked for parts or a type is no literal

pub record IsApart (n : ℕ) (s : Scene) : Type 0 where
  pub enough : n ≤ length s.kinds
  pub told : (x : ℕ) → IsTold x s.demands → x < length s.kinds
  pub from_on : (x : ℕ) → IsHead x s.demands → n ≤ x
  pub untold : (x : ℕ) → IsHead x s.demands → IsUntold x s

-- a new number is of no literal
new_untold : (n : ℕ) (at : ℕ) (k : Kind) (s : Scene) → IsApart n s → IsUntold (length s.kinds) (new_number at k s).1
new_untold n at k s h = let l = longer s.kinds k in record { within = omega (arith, l); untold = λ t. let b = h.told (length s.kinds) t in omega (arith, b) }

apart_numbered : (n : ℕ) (at : ℕ) (k : Kind) (s : Scene) → IsApart n s → IsApart n (new_number at k s).1
apart_numbered n at k s h =
    let l = longer s.kinds k in
    let e = h.enough in
    record {
      enough = omega (arith, l, e);
      told = λ x t. let b = h.told x t in omega (arith, l, b);
      from_on = h.from_on;
      untold = λ x i. untold_numbered x at k s (h.untold x i);
    }

-- one more demand, that tells and heads only what may be told and may be a head
apart_asked : (n : ℕ) (d : Demand) (s : Scene) → IsApart n s → (tells d ≡ true → (number d < length s.kinds) × (IsHead (number d) s.demands → ⊥))
    → (heads d ≡ true → (n ≤ number d) × IsUntold (number d) s) → tells d ≡ false ⊎ heads d ≡ false → IsApart n (ask d s).1
apart_asked n d s h may_tell may_head apart = record { enough = h.enough; told = told; from_on = from_on; untold = untold } where
  told : (x : ℕ) → IsTold x (s.demands ++ d ∷ []) → x < length s.kinds
  told x t = by (told_last x s.demands d t) where
    by : IsTold x s.demands ⊎ ((tells d ≡ true) × (x ≡ number d)) → x < length s.kinds
    by (inl i) = h.told x i
    by (inr p) = let a = (may_tell p.0).0 in let b = p.1 in omega (arith, a, b)

  from_on : (x : ℕ) → IsHead x (s.demands ++ d ∷ []) → n ≤ x
  from_on x t = by (head_last x s.demands d t) where
    by : IsHead x s.demands ⊎ ((heads d ≡ true) × (x ≡ number d)) → n ≤ x
    by (inl i) = h.from_on x i
    by (inr p) = let a = (may_head p.0).0 in let b = p.1 in omega (arith, a, b)

  untold : (x : ℕ) → IsHead x (s.demands ++ d ∷ []) → IsUntold x (ask d s).1
  untold x t = by (head_last x s.demands d t) where
    same : (y : ℕ) → x ≡ y → (IsHead y s.demands → ⊥) → IsHead x s.demands → ⊥
    same y e never i = never (subst (λ z. IsHead z s.demands) e i)

    by : IsHead x s.demands ⊎ ((heads d ≡ true) × (x ≡ number d)) → IsUntold x (ask d s).1
    by (inl i) = untold_asked x d s (λ so e. same (number d) e (may_tell so).1 i) (h.untold x i)
    by (inr p) = subst (λ z. IsUntold z (ask d s).1) (sym p.1) (untold_asked (number d) d s (λ so e. other so p.0 apart) (may_head p.0).1) where
      other : tells d ≡ true → heads d ≡ true → tells d ≡ false ⊎ heads d ≡ false → ⊥
      other a b (inl c) = absurd (cc)
      other a b (inr c) = absurd (cc)

quiet_asked : (n : ℕ) (d : Demand) (s : Scene) → tells d ≡ false → heads d ≡ false → IsApart n s → IsApart n (ask d s).1
quiet_asked n d s a b h = apart_asked n d s h (λ so. absurd (cc)) (λ so. absurd (cc)) (inl a)

head_asked : (n : ℕ) (d : Demand) (s : Scene) → tells d ≡ false → n ≤ number d → IsUntold (number d) s → IsApart n s → IsApart n (ask d s).1
head_asked n d s a l u h = apart_asked n d s h (λ so. absurd (cc)) (λ so. (l, u)) (inl a)

apart_variable : (n : ℕ) (at : ℕ) (k : Kind) (o : Option (List ℕ)) (t : Option Expr) (s : Scene) → IsApart n s → IsApart n (with_variable at k o t s)
apart_variable n at k o t s h = typed t (named o) (untold_variable (length s.kinds) at k o None s (new_untold n at k s h)) where
  x : ℕ
  x = length s.kinds

  stood : IsApart n (with_variable at k None None s)
  stood = quiet_asked n (stands (the x)) (new_number at k s).1 refl refl (apart_numbered n at k s h)

  named : (o : Option (List ℕ)) → IsApart n (with_variable at k o None s)
  named None = stood
  named (Some m) = quiet_asked n (has_name x m) (with_variable at k None None s) refl refl stood

  typed : (t : Option Expr) → IsApart n (with_variable at k o None s) → IsUntold x (with_variable at k o None s) → IsApart n (with_variable at k o t s)
  typed None a u = a
  typed (Some e) a u = head_asked n (has_type x e) (with_variable at k o None s) refl h.enough u a

apart_operation : (n : ℕ) (at : ℕ) (m : List ℕ) (o : Parts Expr) (s : Scene) → IsApart n s → IsApart n (with_operation at m o s)
apart_operation n at m o s h =
    let x = length s.kinds in
    let y = (new_number at kind.Op s).1 in
    let z = (ask (has_name x m) y).1 in
    let u = new_untold n at kind.Op s h in
    head_asked n (has_parts x o) z refl h.enough (untelling x (has_name x m) y refl u) (quiet_asked n (has_name x m) y refl refl (apart_numbered n at kind.Op s h))

-- a literal is asked for nothing else
no_head : (n : ℕ) (s : Scene) → IsApart n s → IsHead (length s.kinds) s.demands → ⊥
no_head n s h i = let w = (h.untold (length s.kinds) i).within in omega (arith, w)

apart_literal : (n : ℕ) (at : ℕ) (k : Kind) (d : Demand) (s : Scene) → number d ≡ length s.kinds → heads d ≡ false → IsApart n s → IsApart n (ask d (new_number at k s).1).1
apart_literal n at k d s same never h =
    let l = longer s.kinds k in
    apart_asked n d (new_number at k s).1 (apart_numbered n at k s h)
    (λ so. (omega (arith, l, same), λ i. no_head n s h (subst (λ z. IsHead z s.demands) same i))) (λ so. absurd (cc)) (inr never)

pub apart_kept : (n : ℕ) → Keeping (IsApart n)
apart_kept n = record {
  names = λ ns s h. record { enough = h.enough; told = h.told; from_on = h.from_on; untold = λ x i. let u = h.untold x i in record { within = u.within; untold = u.untold } };
  mention = λ e s h. quiet_asked n (stands e) s refl refl h;
  attr = λ at v s h. apart_literal n at kind.Attr (is_attr (length s.kinds) v) s refl refl h;
  type = λ at t s h. apart_literal n at kind.Ty (is_type (length s.kinds) t) s refl refl h;
  variable = apart_variable n;
  operation = apart_operation n;
}

-- what a new variable and an operation leave behind
pub variable_untold : (n : ℕ) (at : ℕ) (k : Kind) (m : Option (List ℕ)) (t : Option Expr) (s : Scene) → IsApart n s → IsUntold (length s.kinds) (with_variable at k m t s)
variable_untold n at k m t s h = untold_variable (length s.kinds) at k m t s (new_untold n at k s h)

pub operation_untold : (n : ℕ) (at : ℕ) (m : List ℕ) (o : Parts Expr) (s : Scene) → IsApart n s → IsUntold (length s.kinds) (with_operation at m o s)
operation_untold n at m o s h = untold_operation (length s.kinds) at m o s (new_untold n at kind.Op s h)
