-- Statements of a match without a fault are read in step.
use Rattle.std.proofs.Common.{◌≡◌, inl, inr, ℕ, Bool, true, false, List, [], ◌∷◌, ◌++◌, Option, Some, None, refl, sym, ◌∙◌, subst}
use Rattle.std.specs.Prelude.{◌||◌}
use Rattle.pdll_syntax.specs.ExprTree.{Expr as Syntax, expr, ExprForm, name_expr, call_expr, declare_expr, attr_expr, type_expr, op_expr, member_expr, Ref, refs, no_expr, some_expr}
use Rattle.pdll_syntax.specs.declared.name.Name.{Name}
use Rattle.pdll_syntax.specs.StmtTree.{Stmt, stmt, let_stmt, erase_stmt, return_stmt, replace_stmt, rewrite_stmt, plain_stmt, Stmts, stmt_then, stmts}
use Rattle.rewrite_model.specs.Pattern.{Expr}
use Rattle.rewrite_model.specs.Determined.{IsIn}
use Rattle.rewrite_model.specs.Names.{Meant}
use Rattle.rewrite_model.specs.MatchPart.{Scene, Constrains, call_refs, kind_of_refs as refs_written, variable, expression, expressions, type_of_refs, plain as plain_at, statement as statement_at}
use Rattle.rewrite_model.specs.Expanding.{root_of, read_match}
use Rattle.rewrite_model.specs.Own.{silent}
use Rattle.rewrite_model.proofs.Adding.{Adds}
use Rattle.rewrite_model.proofs.Following.{Renumbering, Follows, pair_more, follows_adds}
use Rattle.pdll_types.specs.declared.kind.Kind.{Kind}
use Rattle.pdll_types.specs.declared.kind.Kind.TheVariants as kind
use Rattle.pdll_types.specs.declared.section.Section.TheVariants.{Matched}
use Rattle.pdll_types.specs.declared.section.Holder.TheVariants.{Variable, Valued}
use Rattle.pdll_types.specs.declared.section.Standing.TheVariants.{Matching, Final}
use Rattle.pdll_types.specs.Kinds.{anything, root, written, holds, is_row, is_taken, answers}
use Rattle.pdll_types.specs.Signatures.{Declared, parameters, kind_of_refs}
use Rattle.pdll_types.specs.Mentions.{use_of, word, shown, statement, ref_list as refs_of, of_expr, of_arguments, of_refs, of_all_refs, of_let, of_stmt, of_pattern, of_values, of_rewrite}
use Rattle.pdll_types.specs.Sight.{Known, Seen, seen_behind, kind_of, kind_of_variable, form_of, place_of}
use Rattle.pdll_types.specs.KindFaults.{is_untold}
use Rattle.pdll_types.specs.Parts.{ends_in_root}
use Rattle.pdll_types.proofs.determined.Fine.{AreFine, behind, behind_both, fine_front, fine_back, so_not}
use Rattle.pdll_types.proofs.determined.Refs.{plain_of, Knows, refs_named, list_told, not_false}
use Rattle.pdll_types.proofs.determined.Seeing.{Agrees, InStep, with_scenes, over, worded, showing, kind_stays}
use Rattle.pdll_types.proofs.determined.Meaning.{Fits}
use Rattle.pdll_types.proofs.determined.Both.{Goes, goes_to, no_more, numbers_same, refs_called, refs_more, variable_goes, valued_rest}
use Rattle.pdll_types.proofs.determined.Expressions.{GivesAny, stands_there, told_agrees, shown_agrees, is_the_one, use_fine, read_expr, read_refs, read_args}

-- ---- kinds of values

taken_same : (k j : Kind) → is_taken k j ≡ true → plain_of k ≡ plain_of j
taken_same (kind.Row n) (kind.Row m) h = refl
taken_same kind.Value kind.Value h = refl
taken_same kind.Values kind.Values h = refl
taken_same kind.Attr kind.Attr h = refl
taken_same kind.Ty kind.Ty h = refl
taken_same kind.Tys kind.Tys h = refl
taken_same k j h = absurd (cc)

-- a value is of the kind that is written for the variable
value_agrees : (form : ExprForm) (k j : Option Kind) (x : Meant Expr) → Fits form j x → (is_untold form j || answers (written k) j) ≡ true → Agrees k x
value_agrees form None j x f h = tt
value_agrees form (Some k) j x f h = by (is_untold form j) refl h where
  taken : (j : Option Kind) → Agrees j x → holds (is_taken k) j ≡ true → Agrees (Some k) x
  taken None a g = absurd (cc)
  taken (Some i) (inl e) g = inl (taken_same k i g ∙ e)
  taken (Some i) (inr e) g = inr e

  by : (b : Bool) → is_untold form j ≡ b → (b || answers (written (Some k)) j) ≡ true → Agrees (Some k) x
  by true e g = inr (f.untold e)
  by false e g = taken j f.agrees g

shown_value : (c : List Declared) (s : List Known) (rs : List Ref) (e : Syntax) (j : Option Kind) (x : Meant Expr) → kind_of c s (form_of e) ≡ j → Agrees j x → Agrees (kind_of_refs c (refs rs)) x
    → Agrees (kind_of_variable c s (refs rs) (some_expr e)) x
shown_value c s [] e j x same a b = subst (λ k. Agrees k x) (sym same) a
shown_value c s (r ∷ rs) e j x same a b = b

or_true : (b d : Bool) → d ≡ true → (b || d) ≡ true
or_true true d h = refl
or_true false d h = h

-- two readings whose roots are the same
pub record EndsAt (p q : ℕ × Scene) : Type 0 where
  pub numbers : Renumbering
  pub follows : Follows numbers p.1 q.1
  pub roots : IsIn (p.0, q.0) numbers

module _ (c : List Declared) (g : List ℕ → Constrains) (knows : Knows c g)
    (calls : (n : List ℕ) (xs : List (Meant Expr)) (s : Scene) → Adds s ((g n).call xs s).1) (names : (n : List ℕ) (xs : List (Meant Expr)) (s : Scene) → ((g n).call xs s).1.names ≡ s.names) where
  abbrev f : List ℕ → Constrains
  f = silent g

  called : (n : List ℕ) (xs : List (Meant Expr)) (ws : List (List ℕ)) (r : Renumbering) (v : Seen) (s t : Scene) → InStep ws r v s t → InStep ws r v s ((g n).call xs t).1
  called n xs ws r v s t h = let u = ((g n).call xs t).1 in with_scenes ws r r v s t s u h refl (follows_adds r s t u h.follows (calls n xs t) (names n xs t))

  -- an expression that stands alone
  read_plain : (e : Syntax) (ws : List (List ℕ)) (r : Renumbering) (v : Seen) (s t : Scene) → AreFine c v (of_expr c Matched anything e) → InStep ws r v s t
      → Goes GivesAny ws r t (behind c v (of_expr c Matched anything e)) (plain_at f e s) (plain_at g e t)
  unfolding of_expr
  read_plain (expr at (call_expr n es)) ws r v s t fine h =
      let m = use_of Matched anything at (call_expr n es) in
      let v1 = seen_behind c v m in
      let a = read_args c g knows calls names (parameters c n) es ws r v1 s t fine.1 (over c m tt ws r v s t h) in
      let x = expressions f es s in
      let y = expressions g es t in
      record {
        new = a.new;
        more = a.more;
        kinds = λ i k j. (calls n y.0 y.1).kinds i k (a.kinds i k j);
        step = called n y.0 ws a.new (behind c v1 (of_arguments c Matched (parameters c n) es)) x.1 y.1 a.step;
        gives = tt;
      }
  read_plain (expr at (name_expr n)) ws r v s t fine h =
      let a = read_expr c g knows calls names anything (expr at (name_expr n)) tt ws r v s t fine h in record { new = a.new; more = a.more; kinds = a.kinds; step = a.step; gives = tt }
  read_plain (expr at (declare_expr n rs)) ws r v s t fine h =
      let a = read_expr c g knows calls names anything (expr at (declare_expr n rs)) tt ws r v s t fine h in record { new = a.new; more = a.more; kinds = a.kinds; step = a.step; gives = tt }
  read_plain (expr at (attr_expr l)) ws r v s t fine h =
      let a = read_expr c g knows calls names anything (expr at (attr_expr l)) tt ws r v s t fine h in record { new = a.new; more = a.more; kinds = a.kinds; step = a.step; gives = tt }
  read_plain (expr at (type_expr l)) ws r v s t fine h =
      let a = read_expr c g knows calls names anything (expr at (type_expr l)) tt ws r v s t fine h in record { new = a.new; more = a.more; kinds = a.kinds; step = a.step; gives = tt }
  read_plain (expr at (op_expr o)) ws r v s t fine h =
      let a = read_expr c g knows calls names anything (expr at (op_expr o)) tt ws r v s t fine h in record { new = a.new; more = a.more; kinds = a.kinds; step = a.step; gives = tt }
  read_plain (expr at (member_expr e k)) ws r v s t fine h =
      let a = read_expr c g knows calls names anything (expr at (member_expr e k)) tt ws r v s t fine h in record { new = a.new; more = a.more; kinds = a.kinds; step = a.step; gives = tt }

  -- `let` of a variable or of a value
  read_let : (b : ℕ) (n : Name) (rs : List Ref) (value : Option Syntax) (ws : List (List ℕ)) (r : Renumbering) (v : Seen) (s t : Scene) → AreFine c v (of_let c Matched n.at n.text rs value) → InStep ws r v s t
      → Goes GivesAny ws r t (behind c v (of_let c Matched n.at n.text rs value)) (statement_at f (stmt b (let_stmt n rs value)) s) (statement_at g (stmt b (let_stmt n rs value)) t)
  unfolding of_let of_all_refs of_expr
  read_let b n rs None ws r v s t fine h =
      let m1 = word Matched false n.at n.text in
      let m2 = refs_of Matched Variable (refs rs) in
      let k = kind_of_refs c (refs rs) in
      let ms = of_refs c Matched Variable k false (refs rs) in
      let m5 = shown n.text (refs rs) no_expr in
      let v1 = seen_behind c v m1 in
      let v2 = seen_behind c v1 m2 in
      let v3 = behind c v2 ms in
      let us = n.text ∷ ws in
      let h1 = worded c Matched false n.at n.text ws r v s t fine.0 h in
      let h2 = over c m2 tt us r v1 s t h1 in
      let inner = fine_front c v2 ms (m5 ∷ []) fine.1.1 in
      let a = read_refs c g knows calls names k (refs rs) us r v2 s t inner h2 in
      let x = type_of_refs f (refs rs) s in
      let y = type_of_refs g (refs rs) t in
      let d = variable_goes c g knows calls names us a.new v3 n.at rs x.0 y.0 x.1 y.1 a.gives a.step in
      let z = variable f n.at rs x.0 x.1 in
      let u = variable g n.at rs y.0 y.1 in
      let told = list_told c g knows rs (refs_named c v2 Matched Variable k false (refs rs) inner) in
      let agrees = told_agrees k (refs_written g rs).kind z.0 told d.gives.kind in
      goes_to GivesAny ws r t (seen_behind c v3 m5) (behind c v2 (ms ++ m5 ∷ [])) (statement_at f (stmt b (let_stmt n rs None)) s) (statement_at g (stmt b (let_stmt n rs None)) t) (sym (behind_both c v2 ms (m5 ∷ []))) (record {
        new = d.new;
        more = λ p j. d.more p (a.more p j);
        kinds = λ q l j. d.kinds q l (a.kinds q l j);
        step = showing c n.text (refs rs) no_expr ws d.new v3 z.1 u.1 z.0 u.0 (shown_agrees c v3.sight (refs rs) z.0 agrees) d.gives.pair d.step;
        gives = tt;
      })
  read_let b n rs (Some e) ws r v s t fine h =
      let m1 = word Matched true n.at n.text in
      let m2 = refs_of Matched Valued (refs rs) in
      let k = kind_of_refs c (refs rs) in
      let ms = of_refs c Matched Valued k false (refs rs) in
      let es = of_expr c Matched (written k) e in
      let m5 = shown n.text (refs rs) (some_expr e) in
      let v1 = seen_behind c v m1 in
      let v2 = seen_behind c v1 m2 in
      let v3 = behind c v2 ms in
      let v4 = behind c v3 es in
      let us = n.text ∷ ws in
      let h1 = worded c Matched true n.at n.text ws r v s t fine.0 h in
      let h2 = over c m2 tt us r v1 s t h1 in
      let h3 = valued_rest c g knows calls names us r v2 k false (refs rs) s t (fine_front c v2 ms (es ++ m5 ∷ []) fine.1.1) h2 in
      let rest = fine_back c v2 ms (es ++ m5 ∷ []) fine.1.1 in
      let front = fine_front c v3 es (m5 ∷ []) rest in
      let a = read_expr c g knows calls names (written k) e (stands_there (written k) tt (form_of e)) us r v3 s t front h3 in
      let x = expression f e s in
      let y = expression g e t in
      let z = (call_refs f rs x.0 x.1).1 in
      let u = (call_refs g rs y.0 y.1).1 in
      let l = refs_more c g knows calls names rs y.0 y.1 in
      let told = value_agrees (form_of e) k (kind_of c v3.sight (form_of e)) x.0 a.gives.fits (not_false _ (so_not _ (place_of e) (use_fine c g knows calls names (written k) e v3 front).wrong_kind)) in
      let agrees = shown_value c v4.sight rs e (kind_of c v3.sight (form_of e)) x.0 (kind_stays c v3 es (form_of e) a.gives.seen) a.gives.fits.agrees told in
      goes_to GivesAny ws r t (seen_behind c v4 m5) (behind c v2 (ms ++ (es ++ m5 ∷ []))) (statement_at f (stmt b (let_stmt n rs (Some e))) s) (statement_at g (stmt b (let_stmt n rs (Some e))) t)
      (sym (behind_both c v2 ms (es ++ m5 ∷ []) ∙ behind_both c v3 es (m5 ∷ []))) (record {
        new = a.new;
        more = a.more;
        kinds = λ q j i. l q j (a.kinds q j i);
        step = showing c n.text (refs rs) (some_expr e) ws a.new v4 z u x.0 y.0 agrees (pair_more a.new a.new y.1.kinds u.kinds (no_more a.new) l x.0 y.0 a.gives.pair)
            (refs_called c g knows calls names us a.new v4 rs x.0 y.0 x.1 y.1 a.step);
        gives = tt;
      })

  -- ---- the root

  read_root : (e : Syntax) (ws : List (List ℕ)) (r : Renumbering) (v : Seen) (s t : Scene) → AreFine c v (of_expr c Matched root e) → InStep ws r v s t → EndsAt (root_of f e s) (root_of g e t)
  read_root e ws r v s t fine h =
      let form = form_of e in
      let a = read_expr c g knows calls names root e (stands_there root tt form) ws r v s t fine h in
      let x = expression f e s in
      let y = expression g e t in
      let k = kind_of c v.sight form in
      let row = not_false (holds is_row k) (so_not _ (place_of e) (use_fine c g knows calls names root e v fine).bad_root) in
      let one = is_the_one form k a.new y.1.kinds x.0 y.0 a.gives.fits a.gives.pair (or_true (is_untold form k) (holds is_row k) row) in
      record { numbers = a.new; follows = a.step.follows; roots = numbers_same a.new x.0.is y.0.is a.gives.pair.same one }

  -- nothing stands behind the root
  none_late : (u : Stmt) (us : Stmts) (v : Seen) → AreFine c v (of_pattern c true (stmt_then u us)) → ⊥
  unfolding of_pattern
  none_late (stmt b form) us v fine = let w = fine.0.after_root in cc

  pub read_all : (ss : List Stmt) → ends_in_root (stmts ss) ≡ true → (r : Renumbering) (v : Seen) (s t : Scene) → AreFine c v (of_pattern c false (stmts ss)) → InStep [] r v s t → EndsAt (read_match f ss s) (read_match g ss t)
  unfolding of_pattern of_stmt
  read_all [] ends r v s t fine h = absurd (cc)
  read_all ((stmt b (erase_stmt e)) ∷ []) ends r v s t fine h =
      let m = statement Final false (stmt b (erase_stmt e)) in
      let v1 = seen_behind c v m in
      read_root e [] r v1 s t (fine_front c v1 (of_expr c Matched root e) [] fine.1) (over c m tt [] r v s t h)
  read_all ((stmt b (replace_stmt e values)) ∷ []) ends r v s t fine h =
      let m = statement Final false (stmt b (replace_stmt e values)) in
      let v1 = seen_behind c v m in
      read_root e [] r v1 s t (fine_front c v1 (of_expr c Matched root e) _ (fine_front c v1 _ [] fine.1)) (over c m tt [] r v s t h)
  read_all ((stmt b (rewrite_stmt e us end)) ∷ []) ends r v s t fine h =
      let m = statement Final false (stmt b (rewrite_stmt e us end)) in
      let v1 = seen_behind c v m in
      read_root e [] r v1 s t (fine_front c v1 (of_expr c Matched root e) _ (fine_front c v1 _ [] fine.1)) (over c m tt [] r v s t h)
  read_all ((stmt b (let_stmt n rs value)) ∷ []) ends r v s t fine h = absurd (cc)
  read_all ((stmt b (return_stmt e)) ∷ []) ends r v s t fine h = absurd (cc)
  read_all ((stmt b (plain_stmt e)) ∷ []) ends r v s t fine h = absurd (cc)
  read_all ((stmt b (let_stmt n rs value)) ∷ (u ∷ us)) ends r v s t fine h =
      let st = stmt b (let_stmt n rs value) in
      let m = statement Matching false st in
      let v1 = seen_behind c v m in
      let ms = of_let c Matched n.at n.text rs value in
      let rest = of_pattern c false (stmt_then u (stmts us)) in
      let a = read_let b n rs value [] r v1 s t (fine_front c v1 ms rest fine.1) (over c m tt [] r v s t h) in
      read_all (u ∷ us) ends a.new (behind c v1 ms) (statement_at f st s).1 (statement_at g st t).1 (fine_back c v1 ms rest fine.1) a.step
  read_all ((stmt b (plain_stmt e)) ∷ (u ∷ us)) ends r v s t fine h =
      let st = stmt b (plain_stmt e) in
      let m = statement Matching false st in
      let v1 = seen_behind c v m in
      let ms = of_expr c Matched anything e in
      let rest = of_pattern c false (stmt_then u (stmts us)) in
      let a = read_plain e [] r v1 s t (fine_front c v1 ms rest fine.1) (over c m tt [] r v s t h) in
      read_all (u ∷ us) ends a.new (behind c v1 ms) (statement_at f st s).1 (statement_at g st t).1 (fine_back c v1 ms rest fine.1) a.step
  read_all ((stmt b (return_stmt e)) ∷ (u ∷ us)) ends r v s t fine h = let w = fine.0.wrong_part in absurd (cc)
  read_all ((stmt b (erase_stmt e)) ∷ (u ∷ us)) ends r v s t fine h = absurd (none_late u (stmts us) _ (fine_back c _ (of_expr c Matched anything e) _ fine.1))
  read_all ((stmt b (replace_stmt e values)) ∷ (u ∷ us)) ends r v s t fine h = absurd (none_late u (stmts us) _ (fine_back c _ (of_expr c Matched anything e ++ of_values c Matched values) _ fine.1))
  read_all ((stmt b (rewrite_stmt e rs end)) ∷ (u ∷ us)) ends r v s t fine h = absurd (none_late u (stmts us) _ (fine_back c _ (of_expr c Matched anything e ++ of_rewrite c None false rs) _ fine.1))
