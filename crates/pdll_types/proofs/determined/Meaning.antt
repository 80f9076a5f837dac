-- What stands where a kind is asked for: no call, and a range only where one is in sight.
use Rattle.std.proofs.Common.{◌≡◌, inl, inr, ℕ, ◌+◌, ◌≤◌, Bool, true, false, cond, List, [], ◌∷◌, Option, Some, None, refl, sym, ◌∙◌, subst, arith}
use Rattle.std.specs.Prelude.{⊤, not, ◌&&◌, ◌||◌}
use Rattle.std.specs.Option.{option_map_or}
use Rattle.pdll_syntax.specs.ExprTree.{ExprForm, call_expr, Exprs, no_exprs, expr_then}
use Rattle.native_set.specs.declared.native.Kind.{Kind as Plain}
use Rattle.native_set.specs.declared.native.Kind.TheVariants as plain
use Rattle.rewrite_model.specs.Pattern.{Expr}
use Rattle.rewrite_model.specs.Names.{Meant}
use Rattle.rewrite_model.specs.MatchPart.{Constrains}
use Rattle.rewrite_model.specs.Ranges.{is_range_kind}
use Rattle.rewrite_model.proofs.Following.{range_count}
use Rattle.pdll_types.specs.declared.kind.Kind.{Kind}
use Rattle.pdll_types.specs.declared.kind.Kind.TheVariants as kind
use Rattle.pdll_types.specs.declared.section.Section.TheVariants.{Matched}
use Rattle.pdll_types.specs.declared.signature.Signature.{Signature}
use Rattle.pdll_types.specs.declared.signature.Sort.{Sort}
use Rattle.pdll_types.specs.declared.signature.Sort.TheVariants as sort
use Rattle.pdll_types.specs.Kinds.{Asked, anything, root, constraint_call, written, operand, result_type, an_operation, an_attribute, a_type, types, is_range, is_row, is_taken, holds, answers}
use Rattle.pdll_types.specs.Signatures.{Declared, signature_of, is_constraint_sort, is_rewrite_sort, is_called_sort, is_constraint, is_rewrite, is_callable, call_kind}
use Rattle.pdll_types.specs.Mentions.{use_of}
use Rattle.pdll_types.specs.Sight.{Known, Seen, place_of}
use Rattle.pdll_types.specs.Names.{where_so}
use Rattle.pdll_types.specs.KindFaults.{is_untold, is_range_expr, ranges_behind}
use Rattle.pdll_types.proofs.determined.Fine.{IsFine, so_not, front_none, back_none}
use Rattle.pdll_types.proofs.determined.Refs.{plain_of, Knows, call_told, not_false}
use Rattle.pdll_types.proofs.determined.Seeing.{IsThe, Agrees}

-- ---- calls

-- something is asked for that no constraint is
abbrev pub IsAsked : Asked → Type 0
IsAsked anything = ⊥
IsAsked constraint_call = ⊥
IsAsked a = ⊤

abbrev pub Stands : Asked → ExprForm → Type 0
Stands a (call_expr n xs) = IsAsked a
Stands a form = ⊤

is_of_constraint : (c : List Declared) (n : List ℕ) → is_callable c n ≡ true → is_rewrite c n ≡ false → is_constraint c n ≡ true
is_of_constraint c n = by (signature_of c n) where
  by_sort : (s : Sort) → is_called_sort s ≡ true → is_rewrite_sort s ≡ false → is_constraint_sort s ≡ true
  by_sort sort.Pattern a b = absurd (cc)
  by_sort sort.Constraint a b = refl
  by_sort sort.Rewrite a b = absurd (cc)

  by : (o : Option Signature) → option_map_or (λ (g : Signature). is_called_sort g.sort) o false ≡ true → option_map_or (λ (g : Signature). is_rewrite_sort g.sort) o false ≡ false
      → option_map_or (λ (g : Signature). is_constraint_sort g.sort) o false ≡ true
  by None a b = absurd (cc)
  by (Some g) a b = by_sort g.sort a b

none_taken : (k : Kind) → is_taken k kind.Call ≡ true → ⊥
none_taken (kind.Row n) h = cc
none_taken kind.Value h = cc
none_taken kind.Values h = cc
none_taken kind.Attr h = cc
none_taken kind.Ty h = cc
none_taken kind.Tys h = cc
none_taken kind.Call h = cc

no_answer : (a : Asked) → IsAsked a → answers a (Some kind.Call) ≡ true → (a ≡ root → ⊥) → ⊥
no_answer anything i h n = absurd i
no_answer root i h n = n refl
no_answer constraint_call i h n = absurd i
no_answer (written None) i h n = cc
no_answer (written (Some k)) i h n = none_taken k h
no_answer operand i h n = cc
no_answer result_type i h n = cc
no_answer an_operation i h n = cc
no_answer an_attribute i h n = cc
no_answer a_type i h n = cc
no_answer types i h n = cc

-- where no root is asked for
asked_call : (a : Asked) → IsAsked a → (a ≡ root → ⊥) → (o : Option Kind) → o ≡ Some kind.Call → not (false || answers a o) ≡ false → ⊥
asked_call a i n o e h = no_answer a i (not_false (answers a (Some kind.Call)) (subst (λ p. not (answers a p) ≡ false) e h)) n

root_call : (o : Option Kind) → o ≡ Some kind.Call → not (holds is_row o) ≡ false → ⊥
root_call o e h = let f : not (holds is_row (Some kind.Call)) ≡ false = subst (λ p. not (holds is_row p) ≡ false) e h in cc

pub no_call : (c : List Declared) (f : List ℕ → Constrains) → Knows c f → (v : Seen) (a : Asked) → IsAsked a → (at : ℕ) (n : List ℕ) (xs : Exprs) → IsFine c v (use_of Matched a at (call_expr n xs)) → ⊥
no_call c f k v a i at n xs h = by a i h (call_told c f k n (is_of_constraint c n (not_false (is_callable c n) (so_not _ at h.undefined)) (so_not (is_rewrite c n) at h.wrong_part))) where
  by : (a : Asked) → IsAsked a → IsFine c v (use_of Matched a at (call_expr n xs)) → call_kind c n ≡ Some kind.Call → ⊥
  by anything i h e = absurd i
  by constraint_call i h e = absurd i
  by root i h e = root_call (call_kind c n) e (so_not _ at h.bad_root)
  by (written w) i h e = asked_call (written w) i (λ q. absurd (cc)) (call_kind c n) e (so_not _ at h.wrong_kind)
  by operand i h e = asked_call operand i (λ q. absurd (cc)) (call_kind c n) e (so_not _ at h.wrong_kind)
  by result_type i h e = asked_call result_type i (λ q. absurd (cc)) (call_kind c n) e (so_not _ at h.wrong_kind)
  by an_operation i h e = asked_call an_operation i (λ q. absurd (cc)) (call_kind c n) e (so_not _ at h.wrong_kind)
  by an_attribute i h e = asked_call an_attribute i (λ q. absurd (cc)) (call_kind c n) e (so_not _ at h.wrong_kind)
  by a_type i h e = asked_call a_type i (λ q. absurd (cc)) (call_kind c n) e (so_not _ at h.wrong_kind)
  by types i h e = asked_call types i (λ q. absurd (cc)) (call_kind c n) e (so_not _ at h.wrong_kind)

-- ---- kinds

-- What has this form and this kind in sight, and is this in a scene.
pub record Fits (form : ExprForm) (k : Option Kind) (x : Meant Expr) : Type 0 where
  pub agrees : Agrees k x
  pub untold : is_untold form k ≡ true → (x.kind ≡ plain.Value) × IsThe x.is

abbrev answered : (form : ExprForm) → Asked → Option Kind → Bool
answered form a k = is_untold form k || answers a k

plain_range : (k : Kind) → is_range_kind (Some (plain_of k)) ≡ true → is_range k ≡ true
plain_range (kind.Row n) h = absurd (cc)
plain_range kind.Value h = absurd (cc)
plain_range kind.Values h = refl
plain_range kind.Attr h = absurd (cc)
plain_range kind.Ty h = absurd (cc)
plain_range kind.Tys h = refl
plain_range kind.Call h = absurd (cc)

value_range : (k : Plain) → k ≡ plain.Value → is_range_kind (Some k) ≡ true → ⊥
value_range k e h = let g : is_range_kind (Some plain.Value) ≡ true = subst (λ j. is_range_kind (Some j) ≡ true) e h in cc

-- a range in a scene is a range in sight, where something is asked for
pub ranged : (form : ExprForm) (a : Asked) → answers a None ≡ false → (k : Option Kind) (x : Meant Expr) → Fits form k x → answered form a k ≡ true
    → is_range_kind (Some x.kind) ≡ true → holds is_range k ≡ true
ranged form a n (Some j) x f h g = by f.agrees where
  by : Agrees (Some j) x → is_range j ≡ true
  by (inl e) = plain_range j (subst (λ k. is_range_kind (Some k) ≡ true) (sym e) g)
  by (inr e) = absurd (value_range x.kind e.0 g)
ranged form a n None x f h g = by (is_untold form None) refl h where
  by : (b : Bool) → is_untold form None ≡ b → (b || answers a None) ≡ true → false ≡ true
  by true e t = absurd (value_range x.kind (f.untold e).0 g)
  by false e t = sym n ∙ t

-- ---- ranges of a list

-- each of these is a range only where the expression at its place is
abbrev pub AreRanges : List Declared → List Known → Exprs → List Plain → Type 0
AreRanges c s no_exprs [] = ⊤
AreRanges c s (expr_then e es) (k ∷ ks) = (is_range_kind (Some k) ≡ true → is_range_expr c s e ≡ true) × AreRanges c s es ks
AreRanges c s es ks = ⊥

fewer : (c : List Declared) (s : List Known) (one : Bool) (es : Exprs) (ks : List Plain) → AreRanges c s es ks → ranges_behind c s one es ≡ [] → range_count ks + cond one 1 0 ≤ 1
fewer c s true no_exprs [] h r = omega arith
fewer c s false no_exprs [] h r = omega arith
fewer c s one no_exprs (k ∷ ks) h r = absurd h
fewer c s one (expr_then e es) [] h r = absurd h
fewer c s one (expr_then e es) (k ∷ ks) h r =
    by (is_range_kind (Some k)) (is_range_expr c s e) h.0 one (front_none (where_so (one && is_range_expr c s e) (place_of e)) (ranges_behind c s (one || is_range_expr c s e) es) r)
    (fewer c s (one || is_range_expr c s e) es ks h.1 (back_none (where_so (one && is_range_expr c s e) (place_of e)) (ranges_behind c s (one || is_range_expr c s e) es) r)) where
      by : (a b : Bool) → (a ≡ true → b ≡ true) → (one : Bool) → where_so (one && b) (place_of e) ≡ [] → range_count ks + cond (one || b) 1 0 ≤ 1 → (cond a 1 0 + range_count ks) + cond one 1 0 ≤ 1
      by true true i true w l = absurd (cc)
      by true true i false w l = omega (arith, l)
      by true false i one w l = absurd (let e = i refl in cc)
      by false true i true w l = absurd (cc)
      by false true i false w l = omega (arith, l)
      by false false i true w l = omega (arith, l)
      by false false i false w l = omega (arith, l)

pub few_ranges : (c : List Declared) (s : List Known) (es : Exprs) (ks : List Plain) → AreRanges c s es ks → ranges_behind c s false es ≡ [] → range_count ks ≤ 1
few_ranges c s es ks h r = let l = fewer c s false es ks h r in omega (arith, l)
