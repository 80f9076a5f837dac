-- Expressions of a match without a fault are read in step, with calls that ask for nothing and with calls that add literals.
use Rattle.std.proofs.Common.{◌≡◌, inl, inr, ℕ, ◌+◌, ◌≤◌, Bool, true, false, cond, List, [], ◌∷◌, ◌++◌, map, length, Option, Some, None, refl, sym, ap, ◌∙◌, subst, arith}
use Rattle.std.specs.Prelude.{⊤, ◌||◌}
use Rattle.std.specs.Option.{option_and_then}
use Rattle.mlir_tree.specs.Tree.{unit}
use Rattle.pdll_syntax.specs.declared.name.Literal.{Literal}
use Rattle.pdll_syntax.specs.ExprTree.{Expr as Syntax, expr, ExprForm, name_expr, call_expr, declare_expr, attr_expr, type_expr, op_expr, member_expr, OpExpr, operation, Entry, entry, ref, attr_ref, op_ref, type_ref, type_range_ref, value_ref, value_range_ref, named_ref, Exprs, no_exprs, expr_then, Entries, no_entries, entry_then, Refs, no_refs, ref_then, MaybeExpr, no_expr, some_expr, MaybeExprs, left_out, written, ref_list}
use Rattle.native_set.specs.declared.native.Kind.{Kind as Plain}
use Rattle.native_set.specs.declared.native.Kind.TheVariants as plain
use Rattle.rewrite_model.specs.Pattern.{Expr, the, result}
use Rattle.rewrite_model.specs.Determined.{values_of}
use Rattle.rewrite_model.specs.Ranges.{is_range_kind}
use Rattle.rewrite_model.specs.Names.{Meant}
use Rattle.rewrite_model.specs.MatchPart.{Scene, Constrains, meant, number_of, as_operand, kind_of_refs as refs_written, variable, expression, form_at, operation_at, operands_at, operand_list, types_at, expressions, entries_of, entry_of, given, type_of_refs}
use Rattle.rewrite_model.specs.Own.{silent}
use Rattle.rewrite_model.proofs.Reading.{with_variable}
use Rattle.rewrite_model.proofs.Adding.{Adds}
use Rattle.rewrite_model.proofs.Following.{Renumbering, Same, AllSame, HasFewRanges, Pair, with_new, same_more, all_same_more, kind_more, are_of_more, found_same}
use Rattle.pdll_types.specs.declared.kind.Kind.{Kind}
use Rattle.pdll_types.specs.declared.kind.Kind.TheVariants as kind
use Rattle.pdll_types.specs.declared.section.Section.TheVariants.{Matched}
use Rattle.pdll_types.specs.declared.section.Holder.TheVariants.{Variable}
use Rattle.pdll_types.specs.Kinds.{Asked, operand, result_type, an_operation, an_attribute, a_type, types, holds, is_row, is_range}
use Rattle.pdll_types.specs.Signatures.{Declared, kind_of_refs}
use Rattle.pdll_types.specs.Mentions.{Mention, use_of, listed, word, shown, ref_list as refs_of, one_ref, first_asked, others_asked, of_expr, inside_form, of_operation, of_list, of_exprs, of_arguments, of_entries, of_entry, of_maybe, of_refs}
use Rattle.pdll_types.specs.Sight.{Known, Seen, seen_behind, kind_of, kind_of_variable, form_of, place_of, is_in_sight}
use Rattle.pdll_types.specs.KindFaults.{is_untold, is_range_expr}
use Rattle.pdll_types.proofs.determined.Fine.{IsFine, AreFine, behind, behind_both, fine_front, fine_back, so_not}
use Rattle.pdll_types.proofs.determined.Refs.{plain_of, Tells, Knows, refs_named, refs_told, not_false}
use Rattle.pdll_types.proofs.determined.Seeing.{IsThe, Agrees, InStep, with_scenes, over, worded, showing, there, kind_stays}
use Rattle.pdll_types.proofs.determined.Meaning.{IsAsked, Stands, no_call, Fits, ranged, few_ranges}
use Rattle.pdll_types.proofs.determined.Both.{Goes, goes_to, no_more, none_more, Gives, SameMaybe, GivesList, literal_attr_goes, literal_type_goes, a_number, an_operation_goes, mention_goes, numbers_same, operation_the, operand_goes, variable_goes, named_rest}

-- ---- kinds

pub stands_there : (a : Asked) → IsAsked a → (form : ExprForm) → Stands a form
stands_there a i (name_expr n) = tt
stands_there a i (call_expr n xs) = i
stands_there a i (declare_expr n rs) = tt
stands_there a i (attr_expr l) = tt
stands_there a i (type_expr l) = tt
stands_there a i (op_expr o) = tt
stands_there a i (member_expr e k) = tt

pub told_agrees : (k : Option Kind) (j : Plain) (x : Meant Expr) → Tells k j → x.kind ≡ j → Agrees k x
told_agrees None j x t e = tt
told_agrees (Some i) j x t e = inl (t ∙ sym e)

untold_value : (n : List ℕ) (rs : Refs) (k : Option Kind) (j : Plain) → Tells k j → is_untold (declare_expr n rs) k ≡ true → j ≡ plain.Value
untold_value n rs None j t u = t
untold_value n rs (Some i) j t u = absurd (cc)

pub shown_agrees : (c : List Declared) (s : List Known) (rs : Refs) (x : Meant Expr) → Agrees (kind_of_refs c rs) x → Agrees (kind_of_variable c s rs no_expr) x
shown_agrees c s no_refs x a = tt
shown_agrees c s (ref_then r rs) x a = a

row_only : (j : Kind) → is_row j ≡ true → plain_of j ≡ plain.Op
row_only (kind.Row n) h = refl
row_only kind.Value h = absurd (cc)
row_only kind.Values h = absurd (cc)
row_only kind.Attr h = absurd (cc)
row_only kind.Ty h = absurd (cc)
row_only kind.Tys h = absurd (cc)
row_only kind.Call h = absurd (cc)

-- an operation is known by its number
pub is_the_one : (form : ExprForm) (k : Option Kind) (r : Renumbering) (ks : List Plain) (x y : Meant Expr) → Fits form k x → Pair r ks x y → (is_untold form k || holds is_row k) ≡ true → IsThe x.is
is_the_one form k r ks x y f p h = by (is_untold form k) refl h where
  row : (k : Option Kind) → Agrees k x → holds is_row k ≡ true → IsThe x.is
  row None a g = absurd (cc)
  row (Some j) (inl e) g = operation_the r ks x.is y.is y.kind p.same p.known (sym p.kind ∙ (sym e ∙ row_only j g))
  row (Some j) (inr e) g = e.1

  by : (b : Bool) → is_untold form k ≡ b → (b || holds is_row k) ≡ true → IsThe x.is
  by true e g = (f.untold e).1
  by false e g = row k f.agrees g

record GivesOp (r : Renumbering) (ks : List Plain) (x y : Meant Expr) : Type 0 where
  pair : Pair r ks x y
  kind : x.kind ≡ plain.Op

-- what is listed, with at most one range
record GivesFew (r : Renumbering) (ks : List Plain) (ds es : List Expr) : Type 0 where
  same : AllSame r ds es
  few : HasFewRanges ks es

-- what is listed
abbrev GivesSame : Renumbering → List Plain → List Expr → List Expr → Type 0
GivesSame r ks ds es = AllSame r ds es

abbrev pub GivesAny : {A : Type 0} → Renumbering → List Plain → A → A → Type 0
GivesAny r ks x y = ⊤

abbrev of_meant : List (Meant Expr) → List Expr
of_meant xs = map (λ x. x.is) xs

module _ (c : List Declared) (g : List ℕ → Constrains) (knows : Knows c g)
    (calls : (n : List ℕ) (xs : List (Meant Expr)) (s : Scene) → Adds s ((g n).call xs s).1) (names : (n : List ℕ) (xs : List (Meant Expr)) (s : Scene) → ((g n).call xs s).1.names ≡ s.names) where
  abbrev f : List ℕ → Constrains
  f = silent g

  pub use_fine : (a : Asked) (e : Syntax) (v : Seen) → AreFine c v (of_expr c Matched a e) → IsFine c v (use_of Matched a (place_of e) (form_of e))
  unfolding of_expr
  use_fine a (expr at form) v fine = fine.0

  -- literals
  attr_gives : (l : Literal) (u : Seen) (ws : List (List ℕ)) (r : Renumbering) (t : Scene) (v : Seen) (p q : Meant Expr × Scene) → p.0.kind ≡ plain.Attr → Goes Pair ws r t v p q → Goes (Gives c u (attr_expr l)) ws r t v p q
  attr_gives l u ws r t v p q e b =
      record { new = b.new; more = b.more; kinds = b.kinds; step = b.step; gives = record { pair = b.gives; fits = record { agrees = inl (sym e); untold = λ w. absurd (cc) }; seen = tt } }

  type_gives : (l : Literal) (u : Seen) (ws : List (List ℕ)) (r : Renumbering) (t : Scene) (v : Seen) (p q : Meant Expr × Scene) → p.0.kind ≡ plain.Ty → Goes Pair ws r t v p q → Goes (Gives c u (type_expr l)) ws r t v p q
  type_gives l u ws r t v p q e b =
      record { new = b.new; more = b.more; kinds = b.kinds; step = b.step; gives = record { pair = b.gives; fits = record { agrees = inl (sym e); untold = λ w. absurd (cc) }; seen = tt } }

  -- a left-out list is one range
  left_goes : (ws : List (List ℕ)) (r : Renumbering) (v : Seen) (at : ℕ) (k : Plain) (s t : Scene) → InStep ws r v s t
      → Goes GivesFew ws r t v (the (length s.kinds) ∷ [], with_variable at k None None s) (the (length t.kinds) ∷ [], with_variable at k None None t)
  left_goes ws r v at k s t h =
      let a = a_number at k None None None r s t h.follows tt in
      record {
        new = with_new r s t;
        more = λ p i. inr i;
        kinds = a.kinds;
        step = with_scenes ws r (with_new r s t) v s t (with_variable at k None None s) (with_variable at k None None t) h a.names a.follows;
        gives = record { same = (inl refl, tt); few = (k ∷ [], (a.pair.known, tt), by (is_range_kind (Some k))) };
      } where
        by : (b : Bool) → cond b 1 0 + 0 ≤ 1
        by true = omega arith
        by false = omega arith

  -- behind a kind without a type
  untyped : (k : Option Kind) (rs : Refs) (ws : List (List ℕ)) (r : Renumbering) (v : Seen) (s t : Scene) → AreFine c v (of_refs c Matched Variable k true rs) → InStep ws r v s t
      → Goes SameMaybe ws r t (behind c v (of_refs c Matched Variable k true rs)) (None, s) (None, t)
  untyped k rs ws r v s t fine h = record { new = r; more = no_more r; kinds = none_more t.kinds; step = named_rest c g knows calls names ws r v Variable k rs s t fine h; gives = tt }

  -- behind a kind with a type
  typed : (ma : List Mention) (e : MaybeExpr) (k : Option Kind) (rs : Refs) (ws : List (List ℕ)) (r : Renumbering) (v : Seen) (s t : Scene) → AreFine c v (ma ++ of_refs c Matched Variable k true rs)
      → Goes SameMaybe ws r t (behind c v ma) (given f e s) (given g e t) → Goes SameMaybe ws r t (behind c v (ma ++ of_refs c Matched Variable k true rs)) (given f e s) (given g e t)
  typed ma e k rs ws r v s t fine b =
      let mb = of_refs c Matched Variable k true rs in
      let va = behind c v ma in
      let x = given f e s in
      let y = given g e t in
      goes_to SameMaybe ws r t (behind c va mb) (behind c v (ma ++ mb)) x y (sym (behind_both c v ma mb)) (record {
        new = b.new;
        more = b.more;
        kinds = b.kinds;
        step = named_rest c g knows calls names ws b.new va Variable k rs x.1 y.1 (fine_back c v ma mb fine) b.step;
        gives = b.gives;
      })

  mutual
    unfolding of_expr

    pub read_expr : (a : Asked) (e : Syntax) → Stands a (form_of e) → (ws : List (List ℕ)) (r : Renumbering) (v : Seen) (s t : Scene) → AreFine c v (of_expr c Matched a e) → InStep ws r v s t
        → Goes (Gives c v (form_of e)) ws r t (behind c v (of_expr c Matched a e)) (expression f e s) (expression g e t)
    read_expr a (expr at form) i ws r v s t fine h = read_form a form at i ws r v s t fine h

    read_form : (a : Asked) (form : ExprForm) (at : ℕ) → Stands a form → (ws : List (List ℕ)) (r : Renumbering) (v : Seen) (s t : Scene) → AreFine c v (use_of Matched a at form ∷ inside_form c Matched at form) → InStep ws r v s t
        → Goes (Gives c v form) ws r t (behind c v (use_of Matched a at form ∷ inside_form c Matched at form)) (form_at f form at s) (form_at g form at t)
    read_form a (name_expr n) at i ws r v s t fine h =
        let seen = not_false (is_in_sight v.sight n) (so_not _ at fine.0.undefined) in
        let w = there v.sight n seen in
        let o = h.sees n w.0 w.1 in
        let b = found_same r t.kinds n (meant plain.Value (the 0)) s.names t.names o.1.0 h.follows.names o.1.1 in
        record {
          new = r;
          more = no_more r;
          kinds = none_more t.kinds;
          step = over c (use_of Matched a at (name_expr n)) tt ws r v s t h;
          gives = record {
            pair = b.1;
            fits = record {
              agrees = subst (λ k. Agrees k (expression f (expr at (name_expr n)) s).0) (sym (ap (option_and_then (λ (z : Known). z.kind)) w.1)) (subst (λ z. Agrees w.0.kind z) (sym b.0) o.1.2);
              untold = λ e. absurd (cc);
            };
            seen = seen;
          };
        }
    read_form a (call_expr n xs) at i ws r v s t fine h = absurd (no_call c g knows v a i at n xs fine.0)
    read_form a (declare_expr n rs) at i ws r v s t fine h =
        let m1 = use_of Matched a at (declare_expr n rs) in
        let m2 = word Matched false at n in
        let m3 = refs_of Matched Variable rs in
        let k = kind_of_refs c rs in
        let ms = of_refs c Matched Variable k false rs in
        let m5 = shown n rs no_expr in
        let v1 = seen_behind c v m1 in
        let v2 = seen_behind c v1 m2 in
        let v3 = seen_behind c v2 m3 in
        let v4 = behind c v3 ms in
        let h1 = over c m1 tt ws r v s t h in
        let h2 = worded c Matched false at n ws r v1 s t fine.1.0 h1 in
        let h3 = over c m3 tt (n ∷ ws) r v2 s t h2 in
        let inner = fine_front c v3 ms (m5 ∷ []) fine.1.1.1 in
        let b = read_refs k rs (n ∷ ws) r v3 s t inner h3 in
        let x = type_of_refs f rs s in
        let y = type_of_refs g rs t in
        let d = variable_goes c g knows calls names (n ∷ ws) b.new v4 at (ref_list rs) x.0 y.0 x.1 y.1 b.gives b.step in
        let z = variable f at (ref_list rs) x.0 x.1 in
        let u = variable g at (ref_list rs) y.0 y.1 in
        let told = refs_told c g knows rs (refs_named c v3 Matched Variable k false rs inner) in
        let agrees = told_agrees k (refs_written g (ref_list rs)).kind z.0 told d.gives.kind in
        goes_to (Gives c v (declare_expr n rs)) ws r t (seen_behind c v4 m5) (behind c v3 (ms ++ m5 ∷ [])) (form_at f (declare_expr n rs) at s) (form_at g (declare_expr n rs) at t) (sym (behind_both c v3 ms (m5 ∷ []))) (record {
          new = d.new;
          more = λ p j. d.more p (b.more p j);
          kinds = λ q l j. d.kinds q l (b.kinds q l j);
          step = showing c n rs no_expr ws d.new v4 z.1 u.1 z.0 u.0 (shown_agrees c v4.sight rs z.0 agrees) d.gives.pair d.step;
          gives = record { pair = d.gives.pair; fits = record { agrees = agrees; untold = λ e. (d.gives.kind ∙ untold_value n rs k (refs_written g (ref_list rs)).kind told e, d.gives.is_the) }; seen = tt };
        })
    read_form a (attr_expr l) at i ws r v s t fine h =
        let m = use_of Matched a at (attr_expr l) in
        attr_gives l v ws r t (seen_behind c v m) _ _ refl (literal_attr_goes ws r (seen_behind c v m) at _ s t (over c m tt ws r v s t h))
    read_form a (type_expr l) at i ws r v s t fine h =
        let m = use_of Matched a at (type_expr l) in
        type_gives l v ws r t (seen_behind c v m) _ _ refl (literal_type_goes ws r (seen_behind c v m) at _ s t (over c m tt ws r v s t h))
    read_form a (op_expr o) at i ws r v s t fine h =
        let m = use_of Matched a at (op_expr o) in
        let b = read_operation o at ws r (seen_behind c v m) s t fine.1 (over c m tt ws r v s t h) in
        record { new = b.new; more = b.more; kinds = b.kinds; step = b.step; gives = record { pair = b.gives.pair; fits = record { agrees = inl (sym b.gives.kind); untold = λ e. absurd (cc) }; seen = tt } }
    read_form a (member_expr e k) at i ws r v s t fine h =
        let form = form_of e in
        let m = use_of Matched a at (member_expr e k) in
        let v1 = seen_behind c v m in
        let b = read_expr an_operation e (stands_there an_operation tt form) ws r v1 s t fine.1 (over c m tt ws r v s t h) in
        let x = expression f e s in
        let y = expression g e t in
        let one = is_the_one form (kind_of c v1.sight form) b.new y.1.kinds x.0 y.0 b.gives.fits b.gives.pair (not_false _ (so_not _ (place_of e) (use_fine an_operation e v1 fine.1).wrong_kind)) in
        let n = numbers_same b.new x.0.is y.0.is b.gives.pair.same one in
        let d = mention_goes ws b.new (behind c v1 (of_expr c Matched an_operation e)) plain.Value (result (number_of x.0.is) k) (result (number_of y.0.is) k) x.1 y.1 (n, refl) refl b.step in
        record {
          new = d.new;
          more = λ p q. d.more p (b.more p q);
          kinds = λ q l p. d.kinds q l (b.kinds q l p);
          step = d.step;
          gives = record { pair = d.gives; fits = record { agrees = inl refl; untold = λ w. absurd (cc) }; seen = tt };
        }

    read_operation : (o : OpExpr) (at : ℕ) (ws : List (List ℕ)) (r : Renumbering) (v : Seen) (s t : Scene) → AreFine c v (of_operation c Matched o) → InStep ws r v s t
        → Goes GivesOp ws r t (behind c v (of_operation c Matched o)) (operation_at f o at s) (operation_at g o at t)
    read_operation (operation n os es ts) at ws r v s t fine h =
        let ma = of_list c Matched operand os in
        let mb = of_entries c Matched es in
        let mc = of_list c Matched result_type ts in
        let va = behind c v ma in
        let vb = behind c va mb in
        let vc = behind c vb mc in
        let rest = fine_back c v ma (mb ++ mc) fine in
        let a = read_operands os at ws r v s t (fine_front c v ma (mb ++ mc) fine) h in
        let x = operands_at f os at s in
        let y = operands_at g os at t in
        let b = read_entries es ws a.new va x.1 y.1 (fine_front c va mb mc rest) a.step in
        let z = entries_of f es x.1 in
        let u = entries_of g es y.1 in
        let d = read_types ts at ws b.new vb z.1 u.1 (fine_back c va mb mc rest) b.step in
        let p = types_at f ts at z.1 in
        let q = types_at g ts at u.1 in
        let e = an_operation_goes ws d.new vc at n (record { operands = x.0; entries = z.0; types = p.0 }) (record { operands = y.0; entries = u.0; types = q.0 }) p.1 q.1
        (record {
          operands = all_same_more a.new d.new (λ i j. d.more i (b.more i j)) x.0 y.0 a.gives;
          values = all_same_more b.new d.new d.more (values_of z.0) (values_of u.0) b.gives;
          types = d.gives.same;
        }) d.gives.few d.step in
        goes_to GivesOp ws r t vc (behind c v (ma ++ (mb ++ mc))) (operation_at f (operation n os es ts) at s) (operation_at g (operation n os es ts) at t)
        (sym (behind_both c v ma (mb ++ mc) ∙ behind_both c va mb mc)) (record {
          new = e.new;
          more = λ i j. e.more i (d.more i (b.more i (a.more i j)));
          kinds = λ i k j. e.kinds i k (d.kinds i k (b.kinds i k (a.kinds i k j)));
          step = e.step;
          gives = record { pair = e.gives; kind = refl };
        })

    read_operands : (os : MaybeExprs) (at : ℕ) (ws : List (List ℕ)) (r : Renumbering) (v : Seen) (s t : Scene) → AreFine c v (of_list c Matched operand os) → InStep ws r v s t
        → Goes GivesSame ws r t (behind c v (of_list c Matched operand os)) (operands_at f os at s) (operands_at g os at t)
    read_operands left_out at ws r v s t fine h =
        let l = left_goes ws r v at plain.Values s t h in
        record { new = l.new; more = l.more; kinds = l.kinds; step = l.step; gives = l.gives.same }
    read_operands (written es) at ws r v s t fine h =
        let ms = of_exprs c Matched operand es in
        let m = listed Matched operand es in
        let w = behind c v ms in
        let a = read_list es ws r v s t (fine_front c v ms (m ∷ []) fine) h in
        let x = operand_list f es s in
        let y = operand_list g es t in
        goes_to GivesSame ws r t (seen_behind c w m) (behind c v (ms ++ m ∷ [])) x y (sym (behind_both c v ms (m ∷ []))) (record {
          new = a.new;
          more = a.more;
          kinds = a.kinds;
          step = over c m tt ws a.new w x.1 y.1 a.step;
          gives = a.gives.same;
        })

    read_list : (es : Exprs) (ws : List (List ℕ)) (r : Renumbering) (v : Seen) (s t : Scene) → AreFine c v (of_exprs c Matched operand es) → InStep ws r v s t
        → Goes (GivesList c (behind c v (of_exprs c Matched operand es)).sight es) ws r t (behind c v (of_exprs c Matched operand es)) (operand_list f es s) (operand_list g es t)
    read_list no_exprs ws r v s t fine h = record { new = r; more = no_more r; kinds = none_more t.kinds; step = h; gives = record { same = tt; plains = []; are = tt; ranges = tt } }
    read_list (expr_then e es) ws r v s t fine h =
        let form = form_of e in
        let ma = of_expr c Matched operand e in
        let mb = of_exprs c Matched operand es in
        let va = behind c v ma in
        let vb = behind c va mb in
        let front = fine_front c v ma mb fine in
        let a = read_expr operand e (stands_there operand tt form) ws r v s t front h in
        let x = expression f e s in
        let y = expression g e t in
        let b = operand_goes ws a.new va x.0 y.0 x.1 y.1 a.gives.pair a.step in
        let z = as_operand x.0 x.1 in
        let u = as_operand y.0 y.1 in
        let d = read_list es ws b.new va z.1 u.1 (fine_back c v ma mb fine) b.step in
        let p = operand_list f es z.1 in
        let q = operand_list g es u.1 in
        let both = behind_both c v ma mb in
        let stays : kind_of c vb.sight form ≡ kind_of c v.sight form = ap (λ w. kind_of c w.sight form) (sym both) ∙ kind_stays c v (ma ++ mb) form a.gives.seen in
        let range : is_range_kind (Some u.0.kind) ≡ true → is_range_expr c vb.sight e ≡ true =
        λ k. ap (holds is_range) stays ∙ ranged form operand refl (kind_of c v.sight form) x.0 a.gives.fits (not_false _ (so_not _ (place_of e) (use_fine operand e v front).wrong_kind)) (b.gives.range k) in
        subst (λ w. Goes (GivesList c w.sight (expr_then e es)) ws r t w (operand_list f (expr_then e es) s) (operand_list g (expr_then e es) t)) (sym both) (record {
          new = d.new;
          more = λ i j. d.more i (b.more i (a.more i j));
          kinds = λ i k j. d.kinds i k (b.kinds i k (a.kinds i k j));
          step = d.step;
          gives = record {
            same = (same_more b.new d.new d.more z.0.is u.0.is b.gives.pair.same, d.gives.same);
            plains = u.0.kind ∷ d.gives.plains;
            are = (kind_more u.1.kinds q.1.kinds d.kinds u.0.is u.0.kind b.gives.pair.known, d.gives.are);
            ranges = (range, d.gives.ranges);
          };
        })

    read_types : (ts : MaybeExprs) (at : ℕ) (ws : List (List ℕ)) (r : Renumbering) (v : Seen) (s t : Scene) → AreFine c v (of_list c Matched result_type ts) → InStep ws r v s t
        → Goes GivesFew ws r t (behind c v (of_list c Matched result_type ts)) (types_at f ts at s) (types_at g ts at t)
    read_types left_out at ws r v s t fine h = left_goes ws r v at plain.Tys s t h
    read_types (written es) at ws r v s t fine h =
        let ms = of_exprs c Matched result_type es in
        let m = listed Matched result_type es in
        let w = behind c v ms in
        let last = (fine_back c v ms (m ∷ []) fine).0 in
        let a = read_all es ws r v s t (fine_front c v ms (m ∷ []) fine) h in
        let x = expressions f es s in
        let y = expressions g es t in
        goes_to GivesFew ws r t (seen_behind c w m) (behind c v (ms ++ m ∷ [])) (of_meant x.0, x.1) (of_meant y.0, y.1) (sym (behind_both c v ms (m ∷ []))) (record {
          new = a.new;
          more = a.more;
          kinds = a.kinds;
          step = over c m tt ws a.new w x.1 y.1 a.step;
          gives = record { same = a.gives.same; few = (a.gives.plains, a.gives.are, few_ranges c w.sight es a.gives.plains a.gives.ranges last.two_ranges) };
        })

    read_all : (es : Exprs) (ws : List (List ℕ)) (r : Renumbering) (v : Seen) (s t : Scene) → AreFine c v (of_exprs c Matched result_type es) → InStep ws r v s t
        → Goes (λ q ks xs ys. GivesList c (behind c v (of_exprs c Matched result_type es)).sight es q ks (of_meant xs) (of_meant ys)) ws r t (behind c v (of_exprs c Matched result_type es)) (expressions f es s) (expressions g es t)
    read_all no_exprs ws r v s t fine h = record { new = r; more = no_more r; kinds = none_more t.kinds; step = h; gives = record { same = tt; plains = []; are = tt; ranges = tt } }
    read_all (expr_then e es) ws r v s t fine h =
        let form = form_of e in
        let ma = of_expr c Matched result_type e in
        let mb = of_exprs c Matched result_type es in
        let va = behind c v ma in
        let vb = behind c va mb in
        let front = fine_front c v ma mb fine in
        let a = read_expr result_type e (stands_there result_type tt form) ws r v s t front h in
        let x = expression f e s in
        let y = expression g e t in
        let d = read_all es ws a.new va x.1 y.1 (fine_back c v ma mb fine) a.step in
        let q = expressions g es y.1 in
        let both = behind_both c v ma mb in
        let stays : kind_of c vb.sight form ≡ kind_of c v.sight form = ap (λ w. kind_of c w.sight form) (sym both) ∙ kind_stays c v (ma ++ mb) form a.gives.seen in
        let range : is_range_kind (Some y.0.kind) ≡ true → is_range_expr c vb.sight e ≡ true =
        λ k. ap (holds is_range) stays ∙ ranged form result_type refl (kind_of c v.sight form) x.0 a.gives.fits (not_false _ (so_not _ (place_of e) (use_fine result_type e v front).wrong_kind)) (subst (λ j. is_range_kind (Some j) ≡ true) (sym a.gives.pair.kind) k) in
        subst (λ w. Goes (λ l ks xs ys. GivesList c w.sight (expr_then e es) l ks (of_meant xs) (of_meant ys)) ws r t w (expressions f (expr_then e es) s) (expressions g (expr_then e es) t)) (sym both) (record {
          new = d.new;
          more = λ i j. d.more i (a.more i j);
          kinds = λ i k j. d.kinds i k (a.kinds i k j);
          step = d.step;
          gives = record {
            same = (same_more a.new d.new d.more x.0.is y.0.is a.gives.pair.same, d.gives.same);
            plains = y.0.kind ∷ d.gives.plains;
            are = (kind_more y.1.kinds q.1.kinds d.kinds y.0.is y.0.kind a.gives.pair.known, d.gives.are);
            ranges = (range, d.gives.ranges);
          };
        })

    read_entries : (es : Entries) (ws : List (List ℕ)) (r : Renumbering) (v : Seen) (s t : Scene) → AreFine c v (of_entries c Matched es) → InStep ws r v s t
        → Goes (λ q ks xs ys. AllSame q (values_of xs) (values_of ys)) ws r t (behind c v (of_entries c Matched es)) (entries_of f es s) (entries_of g es t)
    read_entries no_entries ws r v s t fine h = record { new = r; more = no_more r; kinds = none_more t.kinds; step = h; gives = tt }
    read_entries (entry_then e es) ws r v s t fine h =
        let ma = of_entry c Matched e in
        let mb = of_entries c Matched es in
        let va = behind c v ma in
        let a = read_entry e ws r v s t (fine_front c v ma mb fine) h in
        let x = entry_of f e s in
        let y = entry_of g e t in
        let d = read_entries es ws a.new va x.1 y.1 (fine_back c v ma mb fine) a.step in
        goes_to (λ q ks xs ys. AllSame q (values_of xs) (values_of ys)) ws r t (behind c va mb) (behind c v (ma ++ mb)) (entries_of f (entry_then e es) s) (entries_of g (entry_then e es) t) (sym (behind_both c v ma mb)) (record {
          new = d.new;
          more = λ i j. d.more i (a.more i j);
          kinds = λ i k j. d.kinds i k (a.kinds i k j);
          step = d.step;
          gives = (same_more a.new d.new d.more x.0.1 y.0.1 a.gives, d.gives);
        })

    read_entry : (e : Entry) (ws : List (List ℕ)) (r : Renumbering) (v : Seen) (s t : Scene) → AreFine c v (of_entry c Matched e) → InStep ws r v s t
        → Goes (λ q ks x y. Same q x.1 y.1) ws r t (behind c v (of_entry c Matched e)) (entry_of f e s) (entry_of g e t)
    read_entry (entry at n no_expr) ws r v s t fine h =
        let b = literal_attr_goes ws r v at unit s t h in
        record { new = b.new; more = b.more; kinds = b.kinds; step = b.step; gives = b.gives.same }
    read_entry (entry at n (some_expr e)) ws r v s t fine h =
        let b = read_expr an_attribute e (stands_there an_attribute tt (form_of e)) ws r v s t fine h in
        record { new = b.new; more = b.more; kinds = b.kinds; step = b.step; gives = b.gives.pair.same }

    read_given : (a : Asked) → IsAsked a → (e : MaybeExpr) (ws : List (List ℕ)) (r : Renumbering) (v : Seen) (s t : Scene) → AreFine c v (of_maybe c Matched a e) → InStep ws r v s t
        → Goes SameMaybe ws r t (behind c v (of_maybe c Matched a e)) (given f e s) (given g e t)
    read_given a i no_expr ws r v s t fine h = record { new = r; more = no_more r; kinds = none_more t.kinds; step = h; gives = tt }
    read_given a i (some_expr e) ws r v s t fine h =
        let b = read_expr a e (stands_there a i (form_of e)) ws r v s t fine h in
        record { new = b.new; more = b.more; kinds = b.kinds; step = b.step; gives = b.gives.pair.same }

    pub read_refs : (k : Option Kind) (rs : Refs) (ws : List (List ℕ)) (r : Renumbering) (v : Seen) (s t : Scene) → AreFine c v (of_refs c Matched Variable k false rs) → InStep ws r v s t
        → Goes SameMaybe ws r t (behind c v (of_refs c Matched Variable k false rs)) (type_of_refs f rs s) (type_of_refs g rs t)
    read_refs k no_refs ws r v s t fine h = record { new = r; more = no_more r; kinds = none_more t.kinds; step = h; gives = tt }
    read_refs k (ref_then (ref at (named_ref n)) rs) ws r v s t fine h =
        let m = one_ref Variable k false (ref at (named_ref n)) in
        read_refs k rs ws r (seen_behind c v m) s t fine.1 (over c m tt ws r v s t h)
    read_refs k (ref_then (ref at (op_ref n)) rs) ws r v s t fine h =
        let m = one_ref Variable k false (ref at (op_ref n)) in
        untyped k rs ws r (seen_behind c v m) s t fine.1 (over c m tt ws r v s t h)
    read_refs k (ref_then (ref at type_ref) rs) ws r v s t fine h =
        let m = one_ref Variable k false (ref at type_ref) in
        untyped k rs ws r (seen_behind c v m) s t fine.1 (over c m tt ws r v s t h)
    read_refs k (ref_then (ref at type_range_ref) rs) ws r v s t fine h =
        let m = one_ref Variable k false (ref at type_range_ref) in
        untyped k rs ws r (seen_behind c v m) s t fine.1 (over c m tt ws r v s t h)
    read_refs k (ref_then (ref at (attr_ref e)) rs) ws r v s t fine h =
        let m = one_ref Variable k false (ref at (attr_ref e)) in
        let v1 = seen_behind c v m in
        let ma = of_maybe c Matched a_type e in
        let front = fine_front c v1 ma (of_refs c Matched Variable k true rs) fine.1 in
        typed ma e k rs ws r v1 s t fine.1 (read_given a_type tt e ws r v1 s t front (over c m tt ws r v s t h))
    read_refs k (ref_then (ref at (value_ref e)) rs) ws r v s t fine h =
        let m = one_ref Variable k false (ref at (value_ref e)) in
        let v1 = seen_behind c v m in
        let ma = of_maybe c Matched a_type e in
        let front = fine_front c v1 ma (of_refs c Matched Variable k true rs) fine.1 in
        typed ma e k rs ws r v1 s t fine.1 (read_given a_type tt e ws r v1 s t front (over c m tt ws r v s t h))
    read_refs k (ref_then (ref at (value_range_ref e)) rs) ws r v s t fine h =
        let m = one_ref Variable k false (ref at (value_range_ref e)) in
        let v1 = seen_behind c v m in
        let ma = of_maybe c Matched types e in
        let front = fine_front c v1 ma (of_refs c Matched Variable k true rs) fine.1 in
        typed ma e k rs ws r v1 s t fine.1 (read_given types tt e ws r v1 s t front (over c m tt ws r v s t h))

  asked_first : (ks : List (Option Kind)) → IsAsked (first_asked ks)
  asked_first [] = tt
  asked_first (k ∷ ks) = tt

  -- arguments
  pub read_args : (ks : List (Option Kind)) (es : Exprs) (ws : List (List ℕ)) (r : Renumbering) (v : Seen) (s t : Scene) → AreFine c v (of_arguments c Matched ks es) → InStep ws r v s t
      → Goes GivesAny ws r t (behind c v (of_arguments c Matched ks es)) (expressions f es s) (expressions g es t)
  unfolding of_expr
  read_args ks no_exprs ws r v s t fine h = record { new = r; more = no_more r; kinds = none_more t.kinds; step = h; gives = tt }
  read_args ks (expr_then e es) ws r v s t fine h =
      let ma = of_expr c Matched (first_asked ks) e in
      let mb = of_arguments c Matched (others_asked ks) es in
      let va = behind c v ma in
      let a = read_expr (first_asked ks) e (stands_there (first_asked ks) (asked_first ks) (form_of e)) ws r v s t (fine_front c v ma mb fine) h in
      let x = expression f e s in
      let y = expression g e t in
      let d = read_args (others_asked ks) es ws a.new va x.1 y.1 (fine_back c v ma mb fine) a.step in
      goes_to GivesAny ws r t (behind c va mb) (behind c v (ma ++ mb)) (expressions f (expr_then e es) s) (expressions g (expr_then e es) t) (sym (behind_both c v ma mb)) (record {
        new = d.new;
        more = λ i j. d.more i (a.more i j);
        kinds = λ i k j. d.kinds i k (a.kinds i k j);
        step = d.step;
        gives = tt;
      })
