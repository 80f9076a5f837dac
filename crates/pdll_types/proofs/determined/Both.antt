-- The steps of two readings at once, with calls that ask for nothing and with calls that add literals.
use Rattle.std.proofs.Common.{◌≡◌, inl, inr, ℕ, Bool, true, List, [], ◌∷◌, length, Option, Some, None, refl, sym, ap, ◌∙◌, subst}
use Rattle.std.specs.Prelude.{⊤, ◌||◌}
use Rattle.mlir_tree.specs.Tree.{Ty, Attr}
use Rattle.pdll_syntax.specs.ExprTree.{expr, ExprForm, Ref, ref, attr_ref, op_ref, type_ref, type_range_ref, value_ref, value_range_ref, named_ref, Exprs, Refs, no_refs, ref_then, no_expr, some_expr}
use Rattle.native_set.specs.declared.native.Kind.{Kind as Plain}
use Rattle.native_set.specs.declared.native.Kind.TheVariants as plain
use Rattle.rewrite_model.specs.Pattern.{Parts, Expr, the, result, only_result, stands, is_attr, is_type, has_name, has_parts, has_type}
use Rattle.rewrite_model.specs.Determined.{IsIn, values_of}
use Rattle.rewrite_model.specs.Ranges.{kind_in, is_range_kind}
use Rattle.rewrite_model.specs.Names.{Meant, ref_name}
use Rattle.rewrite_model.specs.MatchPart.{Scene, Constrains, meant, new_number, ask, mention, number_of, as_operand, call_named, call_refs, kind_of_refs as refs_written, variable}
use Rattle.rewrite_model.specs.Own.{silent}
use Rattle.rewrite_model.proofs.Reading.{with_variable, with_operation, with_attr, with_type}
use Rattle.rewrite_model.proofs.Apart.{in_last}
use Rattle.rewrite_model.proofs.Adding.{Adds, all_called}
use Rattle.rewrite_model.proofs.Following.{Renumbering, Same, AllSame, SameParts, AreOf, HasFewRanges, Pair, Follows, IsWithin, AreMore, same_more, all_same_more, are_of_more, pair_more, follows_adds, with_new, kinds_more, follows_numbered, new_pair, follows_asked}
use Rattle.pdll_types.specs.declared.kind.Kind.{Kind}
use Rattle.pdll_types.specs.declared.section.Section.TheVariants.{Matched}
use Rattle.pdll_types.specs.declared.section.Holder.{Holder}
use Rattle.pdll_types.specs.declared.section.Holder.TheVariants.{Valued}
use Rattle.pdll_types.specs.Signatures.{Declared}
use Rattle.pdll_types.specs.Mentions.{one_ref, is_kind, of_refs}
use Rattle.pdll_types.specs.Sight.{Known, Seen, seen_behind, kind_of}
use Rattle.pdll_types.proofs.determined.Fine.{AreFine, behind}
use Rattle.pdll_types.proofs.determined.Refs.{Knows}
use Rattle.pdll_types.proofs.determined.Seeing.{IsThe, InStep, with_scenes, over, IsSeen}
use Rattle.pdll_types.proofs.determined.Meaning.{Fits, AreRanges}

-- What two readings give and leave, the second one from this scene on, and what is seen behind them.
pub record Goes {A : Type 0} (Q : Renumbering → List Plain → A → A → Type 0) (ws : List (List ℕ)) (r : Renumbering) (t : Scene) (v : Seen) (p q : A × Scene) : Type 0 where
  pub new : Renumbering
  pub more : IsWithin r new
  pub kinds : AreMore t.kinds q.1.kinds
  pub step : InStep ws new v p.1 q.1
  pub gives : Q new q.1.kinds p.0 q.0

pub no_more : (r : Renumbering) → IsWithin r r
no_more r p i = i

pub none_more : (ks : List Plain) → AreMore ks ks
none_more ks x k h = h

pub goes_to : {A : Type 0} (Q : Renumbering → List Plain → A → A → Type 0) (ws : List (List ℕ)) (r : Renumbering) (t : Scene) (v w : Seen) (p q : A × Scene) → v ≡ w → Goes Q ws r t v p q → Goes Q ws r t w p q
goes_to Q ws r t v w p q e h = subst (λ z. Goes Q ws r t z p q) e h

-- ---- what is given

pub record Gives (c : List Declared) (v : Seen) (form : ExprForm) (r : Renumbering) (ks : List Plain) (x y : Meant Expr) : Type 0 where
  pub pair : Pair r ks x y
  pub fits : Fits form (kind_of c v.sight form) x
  pub seen : IsSeen v.sight form

abbrev pub SameMaybe : Renumbering → List Plain → Option Expr → Option Expr → Type 0
SameMaybe r ks None None = ⊤
SameMaybe r ks (Some d) (Some e) = Same r d e
SameMaybe r ks d e = ⊥

pub record GivesList (c : List Declared) (s : List Known) (es : Exprs) (r : Renumbering) (ks : List Plain) (ds gs : List Expr) : Type 0 where
  pub same : AllSame r ds gs
  pub plains : List Plain
  pub are : AreOf ks gs plains
  pub ranges : AreRanges c s es plains

-- ---- steps of both

pub literal_attr_goes : (ws : List (List ℕ)) (r : Renumbering) (v : Seen) (at : ℕ) (a : Attr) (s t : Scene) → InStep ws r v s t
    → Goes Pair ws r t v (meant plain.Attr (the (length s.kinds)), with_attr at a s) (meant plain.Attr (the (length t.kinds)), with_attr at a t)
literal_attr_goes ws r v at a s t h =
    let q = with_new r s t in
    let f = follows_numbered at plain.Attr r s t h.follows in
    let d = is_attr (length s.kinds) a in
    let e = is_attr (length t.kinds) a in
    record {
      new = q;
      more = λ p i. inr i;
      kinds = kinds_more plain.Attr t;
      step = with_scenes ws r q v s t (with_attr at a s) (with_attr at a t) h refl
          (follows_asked d e q (new_number at plain.Attr s).1 (new_number at plain.Attr t).1 (length t.kinds, inl refl, in_last t.demands e) tt f);
      gives = new_pair plain.Attr r s t;
    }

pub literal_type_goes : (ws : List (List ℕ)) (r : Renumbering) (v : Seen) (at : ℕ) (a : Ty) (s t : Scene) → InStep ws r v s t
    → Goes Pair ws r t v (meant plain.Ty (the (length s.kinds)), with_type at a s) (meant plain.Ty (the (length t.kinds)), with_type at a t)
literal_type_goes ws r v at a s t h =
    let q = with_new r s t in
    let f = follows_numbered at plain.Ty r s t h.follows in
    let d = is_type (length s.kinds) a in
    let e = is_type (length t.kinds) a in
    record {
      new = q;
      more = λ p i. inr i;
      kinds = kinds_more plain.Ty t;
      step = with_scenes ws r q v s t (with_type at a s) (with_type at a t) h refl
          (follows_asked d e q (new_number at plain.Ty s).1 (new_number at plain.Ty t).1 (length t.kinds, inl refl, in_last t.demands e) tt f);
      gives = new_pair plain.Ty r s t;
    }

-- a new variable, before its constraints
pub record Numbered (at : ℕ) (k : Plain) (n : Option (List ℕ)) (d e : Option Expr) (r : Renumbering) (s t : Scene) : Type 0 where
  pub follows : Follows (with_new r s t) (with_variable at k n d s) (with_variable at k n e t)
  pub kinds : AreMore t.kinds (with_variable at k n e t).kinds
  pub pair : Pair (with_new r s t) (with_variable at k n e t).kinds (meant k (the (length s.kinds))) (meant k (the (length t.kinds)))
  pub names : (with_variable at k n d s).names ≡ s.names

pub a_number : (at : ℕ) (k : Plain) (n : Option (List ℕ)) (d e : Option Expr) (r : Renumbering) (s t : Scene) → Follows r s t → SameMaybe r t.kinds d e → Numbered at k n d e r s t
a_number at k n d e r s t f h = typed n d e h (named n) where
  q : Renumbering
  q = with_new r s t

  stood : Follows q (with_variable at k None None s) (with_variable at k None None t)
  stood = follows_asked (stands (the (length s.kinds))) (stands (the (length t.kinds))) q (new_number at k s).1 (new_number at k t).1 tt tt (follows_numbered at k r s t f)

  named : (n : Option (List ℕ)) → Follows q (with_variable at k n None s) (with_variable at k n None t)
  named None = stood
  named (Some m) = follows_asked (has_name (length s.kinds) m) (has_name (length t.kinds) m) q (with_variable at k None None s) (with_variable at k None None t) tt tt stood

  typed : (n : Option (List ℕ)) (d e : Option Expr) → SameMaybe r t.kinds d e → Follows q (with_variable at k n None s) (with_variable at k n None t) → Numbered at k n d e r s t
  typed None None None h g = record { follows = g; kinds = kinds_more k t; pair = new_pair k r s t; names = refl }
  typed (Some m) None None h g = record { follows = g; kinds = kinds_more k t; pair = new_pair k r s t; names = refl }
  typed None (Some a) (Some b) h g = record {
    follows = follows_asked (has_type (length s.kinds) a) (has_type (length t.kinds) b) q (with_variable at k None None s) (with_variable at k None None t)
        (length t.kinds, b, inl refl, in_last (with_variable at k None None t).demands (has_type (length t.kinds) b), same_more r q (λ p i. inr i) a b h) tt g;
    kinds = kinds_more k t;
    pair = new_pair k r s t;
    names = refl;
  }
  typed (Some m) (Some a) (Some b) h g = record {
    follows = follows_asked (has_type (length s.kinds) a) (has_type (length t.kinds) b) q (with_variable at k (Some m) None s) (with_variable at k (Some m) None t)
        (length t.kinds, b, inl refl, in_last (with_variable at k (Some m) None t).demands (has_type (length t.kinds) b), same_more r q (λ p i. inr i) a b h) tt g;
    kinds = kinds_more k t;
    pair = new_pair k r s t;
    names = refl;
  }
  typed n None (Some b) h g = absurd h
  typed n (Some a) None h g = absurd h

-- an operation behind its parts
pub an_operation_goes : (ws : List (List ℕ)) (r : Renumbering) (v : Seen) (at : ℕ) (n : List ℕ) (o p : Parts Expr) (s t : Scene) → SameParts r o p → HasFewRanges t.kinds p.types → InStep ws r v s t
    → Goes Pair ws r t v (meant plain.Op (the (length s.kinds)), with_operation at n o s) (meant plain.Op (the (length t.kinds)), with_operation at n p t)
an_operation_goes ws r v at n o p s t m b h =
    let q = with_new r s t in
    let w : IsWithin r q = λ x i. inr i in
    let f = follows_numbered at plain.Op r s t h.follows in
    let s1 = (new_number at plain.Op s).1 in
    let t1 = (new_number at plain.Op t).1 in
    let s2 = (ask (has_name (length s.kinds) n) s1).1 in
    let t2 = (ask (has_name (length t.kinds) n) t1).1 in
    let g = follows_asked (has_name (length s.kinds) n) (has_name (length t.kinds) n) q s1 t1 tt tt f in
    let d = has_parts (length s.kinds) o in
    let e = has_parts (length t.kinds) p in
    let l = kinds_more plain.Op t in
    let parts : SameParts q o p = record { operands = all_same_more r q w o.operands p.operands m.operands; values = all_same_more r q w (values_of o.entries) (values_of p.entries) m.values; types = all_same_more r q w o.types p.types m.types } in
    record {
      new = q;
      more = w;
      kinds = l;
      step = with_scenes ws r q v s t (with_operation at n o s) (with_operation at n p t) h refl
          (follows_asked d e q s2 t2 (length t.kinds, p, inl refl, in_last t2.demands e, parts)
          (b.0, are_of_more t.kinds t1.kinds l p.types b.0 b.1, b.2) g);
      gives = new_pair plain.Op r s t;
    }

-- what both have to denote
pub mention_goes : (ws : List (List ℕ)) (r : Renumbering) (v : Seen) (k : Plain) (d e : Expr) (s t : Scene) → Same r d e → kind_in t.kinds e ≡ Some k → InStep ws r v s t → Goes Pair ws r t v (mention k d s) (mention k e t)
mention_goes ws r v k d e s t m i h = record {
  new = r;
  more = no_more r;
  kinds = none_more t.kinds;
  step = with_scenes ws r r v s t (ask (stands d) s).1 (ask (stands e) t).1 h refl (follows_asked (stands d) (stands e) r s t tt tt h.follows);
  gives = record { kind = refl; same = m; known = i };
}

-- the number of what is known by one
pub numbers_same : (r : Renumbering) (d e : Expr) → Same r d e → IsThe d → IsIn (number_of d, number_of e) r
numbers_same r (the x) (the y) h i = h
numbers_same r (the x) (result y j) h i = absurd h
numbers_same r (the x) (only_result y) h i = absurd h
numbers_same r (result x k) e h i = absurd i
numbers_same r (only_result x) e h i = absurd i

not_value : (k : Plain) → k ≡ plain.Op → Some plain.Value ≡ Some k → ⊥
not_value k e h = cc

pub operation_the : (r : Renumbering) (ks : List Plain) (d e : Expr) (k : Plain) → Same r d e → kind_in ks e ≡ Some k → k ≡ plain.Op → IsThe d
operation_the r ks (the x) e k h i o = tt
operation_the r ks (result x j) (the y) k h i o = absurd h
operation_the r ks (result x j) (result y l) k h i o = absurd (not_value k o i)
operation_the r ks (result x j) (only_result y) k h i o = absurd h
operation_the r ks (only_result x) (the y) k h i o = absurd h
operation_the r ks (only_result x) (result y l) k h i o = absurd h
operation_the r ks (only_result x) (only_result y) k h i o = absurd (not_value k o i)

-- an operand, which is a range only where the expression is
pub record GivesOperand (k : Plain) (r : Renumbering) (ks : List Plain) (x y : Meant Expr) : Type 0 where
  pub pair : Pair r ks x y
  pub range : is_range_kind (Some y.kind) ≡ true → is_range_kind (Some k) ≡ true

pub operand_goes : (ws : List (List ℕ)) (r : Renumbering) (v : Seen) (x y : Meant Expr) (s t : Scene) → Pair r t.kinds x y → InStep ws r v s t → Goes (GivesOperand x.kind) ws r t v (as_operand x s) (as_operand y t)
operand_goes ws r v x y s t p h = subst (λ k. Goes (GivesOperand x.kind) ws r t v (as_operand x s) (as_operand (record { kind = k; is = y.is }) t)) p.kind (by x.kind (p.known ∙ ap Some (sym p.kind))) where
  same : (k : Plain) → kind_in t.kinds y.is ≡ Some k → Goes (GivesOperand k) ws r t v (record { kind = k; is = x.is }, s) (record { kind = k; is = y.is }, t)
  same k i = record { new = r; more = no_more r; kinds = none_more t.kinds; step = h; gives = record { pair = record { kind = refl; same = p.same; known = i }; range = λ g. g } }

  by : (k : Plain) → kind_in t.kinds y.is ≡ Some k → Goes (GivesOperand k) ws r t v (as_operand (record { kind = k; is = x.is }) s) (as_operand (record { kind = k; is = y.is }) t)
  by plain.Op i =
      let n = numbers_same r x.is y.is p.same (operation_the r t.kinds x.is y.is plain.Op p.same i refl) in
      let a = mention_goes ws r v plain.Value (only_result (number_of x.is)) (only_result (number_of y.is)) s t n refl h in
      record { new = a.new; more = a.more; kinds = a.kinds; step = a.step; gives = record { pair = a.gives; range = λ g. absurd (cc) } }
  by plain.Attr i = same plain.Attr i
  by plain.Ty i = same plain.Ty i
  by plain.Tys i = same plain.Tys i
  by plain.Value i = same plain.Value i
  by plain.Values i = same plain.Values i

-- ---- expressions

module _ (c : List Declared) (g : List ℕ → Constrains) (knows : Knows c g)
    (calls : (n : List ℕ) (xs : List (Meant Expr)) (s : Scene) → Adds s ((g n).call xs s).1) (names : (n : List ℕ) (xs : List (Meant Expr)) (s : Scene) → ((g n).call xs s).1.names ≡ s.names) where
  abbrev f : List ℕ → Constrains
  f = silent g

  -- calls of constraints that refs name
  silent_named : (x : Meant Expr) (n : Option (List ℕ)) (s : Scene) → (call_named f x n s).1 ≡ s
  silent_named x None s = refl
  silent_named x (Some n) s = refl

  silent_refs : (rs : List Ref) (x : Meant Expr) (s : Scene) → (call_refs f rs x s).1 ≡ s
  silent_refs [] x s = refl
  silent_refs (r ∷ rs) x s = silent_refs rs x (call_named f x (ref_name r) s).1 ∙ silent_named x (ref_name r) s

  names_named : (x : Meant Expr) (n : Option (List ℕ)) (s : Scene) → (call_named g x n s).1.names ≡ s.names
  names_named x None s = refl
  names_named x (Some n) s = names n (x ∷ []) s

  names_refs : (rs : List Ref) (x : Meant Expr) (s : Scene) → (call_refs g rs x s).1.names ≡ s.names
  names_refs [] x s = refl
  names_refs (r ∷ rs) x s = names_refs rs x (call_named g x (ref_name r) s).1 ∙ names_named x (ref_name r) s

  pub refs_called : (ws : List (List ℕ)) (r : Renumbering) (v : Seen) (rs : List Ref) (x y : Meant Expr) (s t : Scene) → InStep ws r v s t → InStep ws r v (call_refs f rs x s).1 (call_refs g rs y t).1
  refs_called ws r v rs x y s t h =
      let t1 = (call_refs g rs y t).1 in
      subst (λ z. InStep ws r v z t1) (sym (silent_refs rs x s)) (with_scenes ws r r v s t s t1 h refl (follows_adds r s t t1 h.follows (all_called g calls rs y t) (names_refs rs y t)))

  pub refs_more : (rs : List Ref) (y : Meant Expr) (t : Scene) → AreMore t.kinds (call_refs g rs y t).1.kinds
  refs_more rs y t = (all_called g calls rs y t).kinds

  -- a variable without a value
  pub record GivesVariable (k : Plain) (r : Renumbering) (ks : List Plain) (x y : Meant Expr) : Type 0 where
    pub pair : Pair r ks x y
    pub kind : x.kind ≡ k
    pub is_the : IsThe x.is

  pub variable_goes : (ws : List (List ℕ)) (r : Renumbering) (v : Seen) (at : ℕ) (rs : List Ref) (d e : Option Expr) (s t : Scene) → SameMaybe r t.kinds d e → InStep ws r v s t
      → Goes (GivesVariable (refs_written g rs).kind) ws r t v (variable f at rs d s) (variable g at rs e t)
  variable_goes ws r v at rs d e s t m h =
      let w = refs_written g rs in
      let q = with_new r s t in
      let x : Meant Expr = meant w.kind (the (length s.kinds)) in
      let y : Meant Expr = meant w.kind (the (length t.kinds)) in
      let a = a_number at w.kind w.name d e r s t h.follows m in
      let s1 = with_variable at w.kind w.name d s in
      let t1 = with_variable at w.kind w.name e t in
      let l = refs_more rs y t1 in
      record {
        new = q;
        more = λ p i. inr i;
        kinds = λ i k j. l i k (a.kinds i k j);
        step = refs_called ws q v rs x y s1 t1 (with_scenes ws r q v s t s1 t1 h a.names a.follows);
        gives = record { pair = pair_more q q t1.kinds (call_refs g rs y t1).1.kinds (no_more q) l x y a.pair; kind = refl; is_the = tt };
      }

  -- ---- refs without types inside

  pub named_rest : (ws : List (List ℕ)) (r : Renumbering) (v : Seen) (h : Holder) (k : Option Kind) (rs : Refs) (s t : Scene) → AreFine c v (of_refs c Matched h k true rs) → InStep ws r v s t
      → InStep ws r (behind c v (of_refs c Matched h k true rs)) s t
  unfolding of_refs
  named_rest ws r v h k no_refs s t fine i = i
  named_rest ws r v h k (ref_then (ref at (named_ref n)) rs) s t fine i =
      let m = one_ref h k true (ref at (named_ref n)) in
      named_rest ws r (seen_behind c v m) h k rs s t fine.1 (over c m tt ws r v s t i)
  named_rest ws r v h k (ref_then (ref at (attr_ref e)) rs) s t fine i = let w = fine.0.wrong_kind in absurd (cc)
  named_rest ws r v h k (ref_then (ref at (op_ref n)) rs) s t fine i = let w = fine.0.wrong_kind in absurd (cc)
  named_rest ws r v h k (ref_then (ref at type_ref) rs) s t fine i = let w = fine.0.wrong_kind in absurd (cc)
  named_rest ws r v h k (ref_then (ref at type_range_ref) rs) s t fine i = let w = fine.0.wrong_kind in absurd (cc)
  named_rest ws r v h k (ref_then (ref at (value_ref e)) rs) s t fine i = let w = fine.0.wrong_kind in absurd (cc)
  named_rest ws r v h k (ref_then (ref at (value_range_ref e)) rs) s t fine i = let w = fine.0.wrong_kind in absurd (cc)

  -- beside a value no type is written
  pub valued_rest : (ws : List (List ℕ)) (r : Renumbering) (v : Seen) (k : Option Kind) (later : Bool) (rs : Refs) (s t : Scene) → AreFine c v (of_refs c Matched Valued k later rs) → InStep ws r v s t
      → InStep ws r (behind c v (of_refs c Matched Valued k later rs)) s t
  unfolding of_refs
  valued_rest ws r v k later no_refs s t fine i = i
  valued_rest ws r v k later (ref_then (ref at (named_ref n)) rs) s t fine i =
      let m = one_ref Valued k later (ref at (named_ref n)) in
      valued_rest ws r (seen_behind c v m) k (later || is_kind (ref at (named_ref n))) rs s t fine.1 (over c m tt ws r v s t i)
  valued_rest ws r v k later (ref_then (ref at (attr_ref no_expr)) rs) s t fine i =
      let m = one_ref Valued k later (ref at (attr_ref no_expr)) in
      valued_rest ws r (seen_behind c v m) k (later || is_kind (ref at (attr_ref no_expr))) rs s t fine.1 (over c m tt ws r v s t i)
  valued_rest ws r v k later (ref_then (ref at (op_ref n)) rs) s t fine i =
      let m = one_ref Valued k later (ref at (op_ref n)) in
      valued_rest ws r (seen_behind c v m) k (later || is_kind (ref at (op_ref n))) rs s t fine.1 (over c m tt ws r v s t i)
  valued_rest ws r v k later (ref_then (ref at type_ref) rs) s t fine i =
      let m = one_ref Valued k later (ref at type_ref) in
      valued_rest ws r (seen_behind c v m) k (later || is_kind (ref at type_ref)) rs s t fine.1 (over c m tt ws r v s t i)
  valued_rest ws r v k later (ref_then (ref at type_range_ref) rs) s t fine i =
      let m = one_ref Valued k later (ref at type_range_ref) in
      valued_rest ws r (seen_behind c v m) k (later || is_kind (ref at type_range_ref)) rs s t fine.1 (over c m tt ws r v s t i)
  valued_rest ws r v k later (ref_then (ref at (value_ref no_expr)) rs) s t fine i =
      let m = one_ref Valued k later (ref at (value_ref no_expr)) in
      valued_rest ws r (seen_behind c v m) k (later || is_kind (ref at (value_ref no_expr))) rs s t fine.1 (over c m tt ws r v s t i)
  valued_rest ws r v k later (ref_then (ref at (value_range_ref no_expr)) rs) s t fine i =
      let m = one_ref Valued k later (ref at (value_range_ref no_expr)) in
      valued_rest ws r (seen_behind c v m) k (later || is_kind (ref at (value_range_ref no_expr))) rs s t fine.1 (over c m tt ws r v s t i)
  valued_rest ws r v k later (ref_then (ref at (attr_ref (some_expr (expr b form)))) rs) s t fine i = let w = fine.0.wrong_part in absurd (cc)
  valued_rest ws r v k later (ref_then (ref at (value_ref (some_expr (expr b form)))) rs) s t fine i = let w = fine.0.wrong_part in absurd (cc)
  valued_rest ws r v k later (ref_then (ref at (value_range_ref (some_expr (expr b form)))) rs) s t fine i = let w = fine.0.wrong_part in absurd (cc)
