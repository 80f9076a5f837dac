-- The kinds that refs write in sight and in a scene are the same.
use Rattle.std.proofs.Common.{◌≡◌, ℕ, Bool, true, false, cond, List, [], ◌∷◌, ◌++◌, Option, Some, None, refl, sym, ap, ◌∙◌, subst}
use Rattle.std.specs.Prelude.{⊤, find, not, ◌&&◌, ◌||◌}
use Rattle.std.specs.Option.{option_or, option_map, option_map_or, option_and_then, unwrap_or, is_some}
use Rattle.std.specs.Str.{bytes_eq}
use Rattle.std.proofs.lemmas.Slice.Eq.{bytes_eq-Decides}
use Rattle.std.proofs.lemmas.Bool.Decides.{same_from_decides}
use Rattle.std.proofs.lemmas.List.Folds.{find-append}
use Rattle.pdll_syntax.specs.declared.name.Name.{Name}
use Rattle.pdll_syntax.specs.declared.stmt.Param.{Param}
use Rattle.pdll_syntax.specs.declared.file.Decl.{Decl}
use Rattle.pdll_syntax.specs.declared.file.Decl.TheVariants as decl
use Rattle.pdll_syntax.specs.declared.file.PatternDecl.{PatternDecl}
use Rattle.pdll_syntax.specs.declared.file.CallDecl.{CallDecl}
use Rattle.pdll_syntax.specs.ExprTree.{Ref, ref, RefForm, attr_ref, op_ref, type_ref, type_range_ref, value_ref, value_range_ref, named_ref, Refs, no_refs, ref_then, refs, ref_list, refs_back}
use Rattle.native_set.specs.declared.native.Kind.{Kind as Plain}
use Rattle.native_set.specs.declared.native.Kind.TheVariants as plain
use Rattle.rewrite_model.specs.Names.{Written, of_kind, kind_from, first_kind as first_written, named_kind}
use Rattle.rewrite_model.specs.MatchPart.{Constrains, kind_of_refs as refs_written}
use Rattle.rewrite_model.specs.Expanding.{constraints, constrains, constrains_if, first_param_kind}
use Rattle.pdll_types.specs.declared.kind.Kind.{Kind}
use Rattle.pdll_types.specs.declared.kind.Kind.TheVariants as kind
use Rattle.pdll_types.specs.declared.section.Section.{Section}
use Rattle.pdll_types.specs.declared.section.Section.TheVariants.{Matched}
use Rattle.pdll_types.specs.declared.section.Holder.{Holder}
use Rattle.pdll_types.specs.declared.section.Holder.TheVariants.{Parameter}
use Rattle.pdll_types.specs.declared.signature.Signature.{Signature}
use Rattle.pdll_types.specs.Signatures.{Declared, signature_of, is_constraint_sort, is_constraint, parameters, call_kind, only_of, only_parameter, first_kind, first_name, kind_of_refs, parameter_kinds, signature, declared}
use Rattle.pdll_types.specs.Mentions.{heading, one_ref, is_kind, of_refs, of_all_refs, inside_ref, of_param, of_params, mentions}
use Rattle.pdll_types.specs.Sight.{Seen, seen_behind, nothing}
use Rattle.pdll_types.specs.KindFaults.{is_one}
use Rattle.pdll_types.proofs.determined.Fine.{IsFine, AreFine, behind, fine_front, fine_back, so_not}

-- the kind in a scene of what has a kind in sight
abbrev pub plain_of : Kind → Plain
plain_of (kind.Row n) = plain.Op
plain_of kind.Value = plain.Value
plain_of kind.Values = plain.Values
plain_of kind.Attr = plain.Attr
plain_of kind.Ty = plain.Ty
plain_of kind.Tys = plain.Tys
plain_of kind.Call = plain.Value

-- Where no kind is written, a scene takes it for a value.
abbrev pub Tells : Option Kind → Plain → Type 0
Tells None k = k ≡ plain.Value
Tells (Some j) k = plain_of j ≡ k

-- what a declaration says and what its name stands for
abbrev pub Fit : Option Signature → Plain → Type 0
Fit None k = ⊤
Fit (Some g) k = is_constraint_sort g.sort ≡ true → (g.gives ≡ Some kind.Call) × (is_one g.params ≡ true → Tells (only_of g.params) k)

pub record Knows (c : List Declared) (f : List ℕ → Constrains) : Type 0 where
  pub fits : (n : List ℕ) → Fit (signature_of c n) (f n).param.kind

-- ---- refs

abbrev IsNamed : List Declared → RefForm → Type 0
IsNamed c (named_ref n) = (is_constraint c n ≡ true) × (is_one (parameters c n) ≡ true)
IsNamed c form = ⊤

abbrev pub AreNamed : List Declared → Refs → Type 0
AreNamed c no_refs = ⊤
AreNamed c (ref_then (ref at form) rs) = IsNamed c form × AreNamed c rs

pub not_false : (b : Bool) → not b ≡ false → b ≡ true
not_false true h = refl
not_false false h = absurd (cc)

and_false : (a b : Bool) → a ≡ true → (a && not b) ≡ false → b ≡ true
and_false true true h g = refl
and_false true false h g = absurd (cc)
and_false false b h g = absurd (cc)

one_named : (c : List Declared) (s : Seen) (h : Holder) (k : Option Kind) (later : Bool) (at : ℕ) (form : RefForm) → IsFine c s (one_ref h k later (ref at form)) → IsNamed c form
one_named c s h k later at (named_ref n) f =
    let a = not_false (is_constraint c n) (so_not _ at f.undefined) in
    (a, and_false (is_constraint c n) (is_one (parameters c n)) a (so_not _ at f.wrong_arity))
one_named c s h k later at (attr_ref t) f = tt
one_named c s h k later at (op_ref n) f = tt
one_named c s h k later at type_ref f = tt
one_named c s h k later at type_range_ref f = tt
one_named c s h k later at (value_ref t) f = tt
one_named c s h k later at (value_range_ref t) f = tt

pub refs_named : (c : List Declared) (s : Seen) (p : Section) (h : Holder) (k : Option Kind) (later : Bool) (rs : Refs) → AreFine c s (of_refs c p h k later rs) → AreNamed c rs
unfolding of_refs
refs_named c s p h k later no_refs f = tt
refs_named c s p h k later (ref_then (ref at form) rs) f =
    let m = one_ref h k later (ref at form) in
    (one_named c s h k later at form f.0, refs_named c (behind c (seen_behind c s m) (inside_ref c p (ref at form))) p h k (later || is_kind (ref at form)) rs (fine_back c (seen_behind c s m) (inside_ref c p (ref at form)) _ f.1))

-- ---- their kinds

abbrev Both : Option Kind → Option Written → Type 0
Both None None = ⊤
Both (Some j) (Some w) = plain_of j ≡ w.kind
Both a b = ⊥

firsts : (rs : Refs) → Both (first_kind rs) (first_written (ref_list rs))
firsts no_refs = tt
firsts (ref_then (ref at (named_ref n)) rs) = firsts rs
firsts (ref_then (ref at (attr_ref t)) rs) = refl
firsts (ref_then (ref at (op_ref n)) rs) = refl
firsts (ref_then (ref at type_ref) rs) = refl
firsts (ref_then (ref at type_range_ref) rs) = refl
firsts (ref_then (ref at (value_ref t)) rs) = refl
firsts (ref_then (ref at (value_range_ref t)) rs) = refl

param_told : (c : List Declared) (f : List ℕ → Constrains) → Knows c f → (n : List ℕ) → is_constraint c n ≡ true → is_one (parameters c n) ≡ true → Tells (only_parameter c n) (f n).param.kind
param_told c f k n = by (signature_of c n) (k.fits n) where
  by : (o : Option Signature) → Fit o (f n).param.kind → option_map_or (λ (g : Signature). is_constraint_sort g.sort) o false ≡ true
      → is_one (option_map_or (λ (g : Signature). g.params) o []) ≡ true
      → Tells (cond (option_map_or (λ (g : Signature). is_constraint_sort g.sort) o false) (only_of (option_map_or (λ (g : Signature). g.params) o [])) None) (f n).param.kind
  by None h a b = absurd (cc)
  by (Some g) h a b = subst (λ (t : Bool). Tells (cond t (only_of g.params) None) (f n).param.kind) (sym a) ((h a).1 b)

pub call_told : (c : List Declared) (f : List ℕ → Constrains) → Knows c f → (n : List ℕ) → is_constraint c n ≡ true → call_kind c n ≡ Some kind.Call
call_told c f k n = by (signature_of c n) (k.fits n) where
  by : (o : Option Signature) → Fit o (f n).param.kind → option_map_or (λ (g : Signature). is_constraint_sort g.sort) o false ≡ true → option_and_then (λ (g : Signature). g.gives) o ≡ Some kind.Call
  by None h a = absurd (cc)
  by (Some g) h a = (h a).0

names_told : (c : List Declared) (f : List ℕ → Constrains) → Knows c f → (rs : Refs) → AreNamed c rs
    → Tells (option_and_then (only_parameter c) (first_name rs)) (unwrap_or (named_kind (λ n. (f n).param) (ref_list rs)) (of_kind plain.Value)).kind
names_told c f k no_refs h = refl
names_told c f k (ref_then (ref at (named_ref n)) rs) h = param_told c f k n h.0.0 h.0.1
names_told c f k (ref_then (ref at (attr_ref t)) rs) h = names_told c f k rs h.1
names_told c f k (ref_then (ref at (op_ref n)) rs) h = names_told c f k rs h.1
names_told c f k (ref_then (ref at type_ref) rs) h = names_told c f k rs h.1
names_told c f k (ref_then (ref at type_range_ref) rs) h = names_told c f k rs h.1
names_told c f k (ref_then (ref at (value_ref t)) rs) h = names_told c f k rs h.1
names_told c f k (ref_then (ref at (value_range_ref t)) rs) h = names_told c f k rs h.1

pub refs_told : (c : List Declared) (f : List ℕ → Constrains) → Knows c f → (rs : Refs) → AreNamed c rs → Tells (kind_of_refs c rs) (refs_written f (ref_list rs)).kind
unfolding kind_of_refs
refs_told c f k rs h = by (first_kind rs) (first_written (ref_list rs)) (firsts rs) (names_told c f k rs h) where
  x : Option Kind
  x = option_and_then (only_parameter c) (first_name rs)

  y : Option Written
  y = named_kind (λ n. (f n).param) (ref_list rs)

  by : (a : Option Kind) (b : Option Written) → Both a b → Tells x (unwrap_or y (of_kind plain.Value)).kind → Tells (option_or a x) (unwrap_or (kind_from b y) (of_kind plain.Value)).kind
  by None None t h = h
  by (Some j) (Some w) t h = t
  by None (Some w) t h = absurd t
  by (Some j) None t h = absurd t

pub list_told : (c : List Declared) (f : List ℕ → Constrains) → Knows c f → (rs : List Ref) → AreNamed c (refs rs) → Tells (kind_of_refs c (refs rs)) (refs_written f rs).kind
list_told c f k rs h = subst (λ l. Tells (kind_of_refs c (refs rs)) (refs_written f l).kind) (refs_back rs) (refs_told c f k (refs rs) h)

-- ---- one more declaration

bytes_same : (n m : List ℕ) → bytes_eq n m ≡ bytes_eq m n
bytes_same n m =
    let a = bytes_eq-Decides m n in
    same_from_decides (bytes_eq n m) (bytes_eq m n) (bytes_eq-Decides n m) (λ h. sym (a.0 h), λ e. a.1 (sym e))

-- a signature behind others
abbrev later : Option Signature → Bool → Signature → Option Signature
later (Some g) b h = Some g
later None true h = Some h
later None false h = None

sign_next : (c : List Declared) (x : Declared) (n : List ℕ) → signature_of (c ++ x ∷ []) n ≡ later (signature_of c n) (bytes_eq n x.name) x.signature
sign_next c x n = ap (option_map (λ (d : Declared). d.signature)) (find-append (λ (d : Declared). bytes_eq n d.name) c (x ∷ [])) ∙ by (find (λ (d : Declared). bytes_eq n d.name) c) (bytes_eq n x.name) where
  by : (o : Option Declared) (b : Bool)
      → option_map (λ (d : Declared). d.signature) (option_or o (cond b (Some x) None)) ≡ later (option_map (λ (d : Declared). d.signature) o) b x.signature
  by (Some d) b = refl
  by None true = refl
  by None false = refl

knows_other : (c : List Declared) (f : List ℕ → Constrains) (x : Declared) → is_constraint_sort x.signature.sort ≡ false → Knows c f → Knows (c ++ x ∷ []) f
knows_other c f x other k = record { fits = λ n. subst (λ o. Fit o (f n).param.kind) (sym (sign_next c x n)) (by n (signature_of c n) (bytes_eq n x.name) (k.fits n)) } where
  by : (n : List ℕ) (o : Option Signature) (b : Bool) → Fit o (f n).param.kind → Fit (later o b x.signature) (f n).param.kind
  by n (Some g) b h = h
  by n None true h = λ t. absurd (cc)
  by n None false h = tt

not_some : {A : Type 0} (o : Option A) → is_some o ≡ false → o ≡ None
not_some None h = refl
not_some (Some x) h = absurd (cc)

params_told : (c : List Declared) (f : List ℕ → Constrains) → Knows c f → (s : Seen) (ps : List Param) → AreFine c s (of_params c Matched ps) → is_one (parameter_kinds c ps) ≡ true
    → Tells (only_of (parameter_kinds c ps)) (first_param_kind f ps).kind
unfolding of_params of_all_refs
params_told c f k s [] h one = absurd (cc)
params_told c f k s (q ∷ []) h one =
    let inner = fine_front c _ (of_all_refs c Matched Parameter (refs q.refs)) _ (fine_front c _ (of_param c Matched q) _ h).1 in
    list_told c f k q.refs (refs_named c _ Matched Parameter (kind_of_refs c (refs q.refs)) false (refs q.refs) inner.1)
params_told c f k s (q ∷ (r ∷ ps)) h one = absurd (cc)

knows_constraint : (c : List Declared) (ds : List Decl) (d : CallDecl) → Knows c (constraints ds) → AreFine c nothing (mentions c (decl.Constraint d)) → Knows (declared c (decl.Constraint d)) (constraints (decl.Constraint d ∷ ds))
unfolding declared mentions
knows_constraint c ds d k h = record { fits = λ n. subst (λ o. Fit o (constrains_if (bytes_eq d.name.text n) (constraints ds) d n).param.kind) (sym (sign_next c x n)) (at n (bytes_eq n d.name.text) refl) } where
  x : Declared
  x = record { name = d.name.text; signature = signature c (decl.Constraint d) }

  new : signature_of c d.name.text ≡ None
  new = not_some (signature_of c d.name.text) (so_not _ d.name.at h.0.redefined)

  told : is_one (parameter_kinds c d.params) ≡ true → Tells (only_of (parameter_kinds c d.params)) (first_param_kind (constraints ds) d.params).kind
  told one = params_told c (constraints ds) k (seen_behind c nothing (heading (decl.Constraint d))) d.params (fine_front c _ (of_params c Matched d.params) _ h.1) one

  at : (n : List ℕ) (b : Bool) → bytes_eq n d.name.text ≡ b → Fit (later (signature_of c n) (bytes_eq n d.name.text) x.signature) (constrains_if (bytes_eq d.name.text n) (constraints ds) d n).param.kind
  at n b e = subst (λ t. Fit (later (signature_of c n) t x.signature) (constrains_if (bytes_eq d.name.text n) (constraints ds) d n).param.kind) (sym e)
      (subst (λ t. Fit (later (signature_of c n) b x.signature) (constrains_if t (constraints ds) d n).param.kind) (sym (bytes_same d.name.text n ∙ e)) (by b e)) where
        kept : (o : Option Signature) → Fit o (constraints ds n).param.kind → Fit (later o false x.signature) (constraints ds n).param.kind
        kept None g = tt
        kept (Some s) g = g

        by : (b : Bool) → bytes_eq n d.name.text ≡ b → Fit (later (signature_of c n) b x.signature) (constrains_if b (constraints ds) d n).param.kind
        by true e =
            let none : signature_of c n ≡ None = ap (signature_of c) ((bytes_eq-Decides n d.name.text).0 e) ∙ new in
            subst (λ o. Fit (later o true x.signature) (constrains (constraints ds) d).param.kind) (sym none) (λ t. (refl, told))
        by false e = kept (signature_of c n) (k.fits n)

knows_rewrite : (c : List Declared) (ds : List Decl) (d : CallDecl) → Knows c (constraints ds) → Knows (declared c (decl.Rewrite d)) (constraints (decl.Rewrite d ∷ ds))
unfolding declared
knows_rewrite c ds d k = let a = knows_other c (constraints ds) (record { name = d.name.text; signature = signature c (decl.Rewrite d) }) refl k in record { fits = a.fits }

knows_pattern : (c : List Declared) (ds : List Decl) (p : PatternDecl) → Knows c (constraints ds) → Knows (declared c (decl.Pattern p)) (constraints (decl.Pattern p ∷ ds))
unfolding declared
knows_pattern c ds p k = by p.name where
  by : (o : Option Name) → Knows (declared c (decl.Pattern (record p { name = o }))) (constraints (decl.Pattern p ∷ ds))
  by None = record { fits = k.fits }
  by (Some n) = let a = knows_other c (constraints ds) (record { name = n.text; signature = signature c (decl.Pattern p) }) refl k in record { fits = a.fits }

pub knows_next : (c : List Declared) (ds : List Decl) (d : Decl) → Knows c (constraints ds) → AreFine c nothing (mentions c d) → Knows (declared c d) (constraints (d ∷ ds))
knows_next c ds (decl.Pattern p) k h = knows_pattern c ds p k
knows_next c ds (decl.Constraint d) k h = knows_constraint c ds d k h
knows_next c ds (decl.Rewrite d) k h = knows_rewrite c ds d k
