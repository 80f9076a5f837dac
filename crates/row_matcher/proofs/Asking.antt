-- Whether a pattern matches under an assignment.
use Rattle.std.proofs.Common.{◌≡◌, ◌⊎◌, inl, inr, ℕ, suc, length, option_map, Bool, true, false, cond, List, [], ◌∷◌, map, Option, Some, None, refl, sym, ap, ◌∙◌}
use Rattle.std.specs.Prelude.{◌||◌, is_some, ◌==◌}
use Rattle.mlir_tree.specs.declared.row.Row.{Row}
use Rattle.mlir_tree.specs.Module.{row_of, has_row}
use Rattle.native_set.specs.declared.native.Constraint.{Constraint}
use Rattle.native_set.specs.declared.native.Constraint.TheVariants.{HasOneUse, HasNoUse, IsInt, IsZero, SameBlock, NoRegions}
use Rattle.rewrite_model.specs.Pattern.{calls}
use Rattle.rewrite_model.specs.Things.{Thing, an_op, a_value, an_attr, joined, each, denoted}
use Rattle.rewrite_model.specs.Holding.{NativeHolds, Holds}
use Rattle.rewrite_model.proofs.Told.{some_or, same_length}
use Rattle.pdll_expand.specs.declared.expr.Expr.{Expr as ExprNode}
use Rattle.pdll_expand.specs.View.{expr_of}

has_if : (rows : List Row) (id : ℕ) → is_some (row_of rows id) ≡ has_row rows id
has_if [] id = refl
has_if (r ∷ rows) id = by (r.id == id) (has_if rows id) where
  by : (b : Bool) → is_some (row_of rows id) ≡ has_row rows id → is_some (cond b (Some r) (row_of rows id)) ≡ (b || has_row rows id)
  by true go = refl
  by false go = go

pub row_is_there : (rows : List Row) (id : ℕ) (r : Row) → Some r ≡ row_of rows id → true ≡ has_row rows id
row_is_there rows id r e = ap is_some e ∙ has_if rows id

pub row_is_not_there : (rows : List Row) (id : ℕ) → None ≡ row_of rows id → false ≡ has_row rows id
row_is_not_there rows id e = ap is_some e ∙ has_if rows id

-- ---- natives

-- what natives hold of is one thing or two
one_or_two : (rows : List Row) (c : Constraint) (ts : List Thing) → NativeHolds rows c ts → (length ts ≡ 1) ⊎ (length ts ≡ 2)
one_or_two rows HasOneUse (a_value v ∷ []) h = inl refl
one_or_two rows HasNoUse (an_op id ∷ []) h = inl refl
one_or_two rows IsInt (an_attr v ∷ []) h = inl refl
one_or_two rows IsZero (an_attr v ∷ []) h = inl refl
one_or_two rows SameBlock (an_op i ∷ an_op j ∷ []) h = inr refl
one_or_two rows NoRegions (an_op id ∷ []) h = inl refl
one_or_two rows c ts h = elim h [ ]

as_many : {A X : Type 0} (f : A → Option X) (es : List A) (xs : List X) → each f es ≡ Some xs → length xs ≡ length es
as_many f [] xs e = ap (λ o. length (some_or [] o)) (sym e)
as_many {X = X} f (y ∷ es) xs e = by (f y) (each f es) (as_many f es) e where
  by : (o : Option X) (q : Option (List X)) → ((ys : List X) → q ≡ Some ys → length ys ≡ length es) → joined (option_map (λ z. z ∷ []) o) q ≡ Some xs → length xs ≡ suc (length es)
  by None q go e = absurd (cc)
  by (Some z) None go e = absurd (cc)
  by (Some z) (Some ys) go e = ap (λ o. length (some_or [] o)) (sym e) ∙ ap suc (go ys refl)

pub no_call : (rows : List Row) (a : List Thing) (c : Constraint) (es : List ExprNode) → (length es ≡ 1 → ⊥) → (length es ≡ 2 → ⊥) → Holds rows a (calls c (map expr_of es)) → ⊥
no_call rows a c es n m h =
    let l : length h.0 ≡ length es = as_many (denoted rows a) (map expr_of es) h.0 h.1 ∙ same_length expr_of es in
    by (one_or_two rows c h.0 h.2) l where
      by : (length h.0 ≡ 1) ⊎ (length h.0 ≡ 2) → length h.0 ≡ length es → ⊥
      by (inl e) l = n (sym l ∙ e)
      by (inr e) l = m (sym l ∙ e)
