-- Declarations and files that are spelled are read.
use Rattle.std.proofs.Common.{◌≡◌, ◌≢◌, ℕ, ◌+◌, ◌≤◌, Bool, true, false, List, [], ◌∷◌, ◌++◌, length, refl, ap, sym, subst, ◌∙◌, arith, Result, Ok, Err, Option, Some, None}
use Rattle.std.specs.Prelude.{nat_le, ◌==◌}
use Rattle.std.specs.Str.Lossy.{utf8_valid_len}
use Rattle.std.proofs.lemmas.Bool.Decides.{nat_tests}
use Rattle.std.proofs.lemmas.Str.{utf8_valid_len-IsUtf8}
use Rattle.mlir_tree.specs.declared.refusal.Refusal.{Refusal}
use Rattle.mlir_tree.specs.declared.refusal.Refusal.TheVariants as refusal
use Rattle.pdll_syntax.specs.declared.fault.PatFault.{PatFault}
use Rattle.pdll_syntax.specs.declared.name.Name.{Name}
use Rattle.pdll_syntax.specs.declared.stmt.Body.{Body}
use Rattle.pdll_syntax.specs.declared.stmt.Body.TheVariants as body
use Rattle.pdll_syntax.specs.declared.stmt.Param.{Param}
use Rattle.pdll_syntax.specs.declared.file.PatFile.{PatFile}
use Rattle.pdll_syntax.specs.declared.file.Decl.{Decl}
use Rattle.pdll_syntax.specs.declared.file.Decl.TheVariants as decl
use Rattle.pdll_syntax.specs.declared.file.PatternDecl.{PatternDecl}
use Rattle.pdll_syntax.specs.declared.file.CallDecl.{CallDecl}
use Rattle.pdll_syntax.specs.declared.file.Meta.{Meta}
use Rattle.pdll_syntax.specs.declared.file.MetaForm.{MetaForm}
use Rattle.pdll_syntax.specs.declared.file.MetaForm.TheVariants.{Benefit, Recursion}
use Rattle.pdll_syntax.specs.ExprTree.{Expr, Ref, refs, refs_back}
use Rattle.pdll_syntax.specs.StmtTree.{Stmt, stmts}
use Rattle.pdll_parser.specs.declared.terminal.Terminal.{Terminal}
use Rattle.pdll_parser.specs.declared.terminal.Terminal.TheVariants as t
use Rattle.pdll_parser.specs.Terminals.{is_name, is_kind}
use Rattle.pdll_parser.specs.Place.{Place, at_place, terminal, start, next, left, same}
use Rattle.pdll_parser.specs.Input.{Gives, Parser, items, list}
use Rattle.pdll_parser.specs.Tokens.{Tok, AreMore, AreListed, AreMany, InBrackets}
use Rattle.pdll_parser.specs.Expressions.{room_of, number, text_of, expression, reference, references}
use Rattle.pdll_parser.specs.Statements.{declared_name, statement, braces, inside_of}
use Rattle.pdll_parser.specs.Files.{max_depth, room, benefit, benefit_in_parens, a_meta, maybe_metas, maybe_name, pattern_body, call_body, a_parameter, parameters, a_kind, maybe_result, a_pattern, a_constraint, a_rewrite_declaration, max_patterns, is_pattern, patterns_in, declaration, declarations, file_in, pattern_file}
use Rattle.pdll_parser.specs.Laws.{SpelledOnce}
use Rattle.pdll_parser.specs.Grammar.{AreStmts}
use Rattle.pdll_parser.specs.FileGrammar.{IsBenefit, IsMetaForm, IsMeta, AreMaybeMetas, IsMaybeName, IsPatternBody, IsCallBody, IsParam, AreParams, IsMaybeResult, IsPattern, IsConstraint, IsRewrite, IsDecl, IsPatternFile}
use Rattle.pdll_parser.proofs.CompleteSteps.{seen, unseen, after_it, after_none, expects, text_read, tok_moves, Takes, Passes, in_brackets, bracket_opens}
use Rattle.pdll_parser.proofs.CompleteLists.{MoreRead, items_read, none_listed, some_listed, ManyRead, many_read}
use Rattle.pdll_parser.proofs.CompleteLeaves.{text_of_moves, declared_name_read}
use Rattle.pdll_parser.proofs.CompletePrimaries.{references_in, ends_expression, differ}
use Rattle.pdll_parser.proofs.CompleteParts.{passes}
use Rattle.pdll_parser.proofs.CompleteExpressions.{expr_read, ref_takes, refs_read}
use Rattle.pdll_parser.proofs.CompleteStatements.{stmt_read, braces_read}

-- ---- metas

benefit_by : (s r : Place) (digits : List ℕ) (b : Bool) → text_of t.Integer s ≡ Ok (digits, r) → nat_le (number digits) 65534 ≡ true → benefit s ≡ Ok (number digits, r)
unfolding benefit
benefit_by s r digits b e h = rw (e, h) refl

benefit_read : (s r : Place) (n : ℕ) → IsBenefit s n r → Takes benefit s n r
benefit_read s r n h =
    let within : nat_le (number h.digits) 65534 ≡ true = rw h.value (grind (arith, nat_tests, h.within)) in
    record {
      reads = benefit_by s r h.digits true (text_read (λ y. same y t.Integer) s r h.digits h.integer) within ∙ (λ i. Ok (h.value i, r));
      moves = text_of_moves t.Integer s r h.digits (λ e. cc) (λ e. cc) h.integer;
    }

benefit_in_parens_read : (s r : Place) (n : ℕ) → InBrackets t.LeftParen t.RightParen (λ e u v. IsBenefit u n v) max_depth s r → Takes benefit_in_parens s n r
unfolding benefit_in_parens
benefit_in_parens_read s r n h =
    in_brackets t.LeftParen t.RightParen (λ r. benefit) (λ e u v. IsBenefit u n v) n (λ e. cc) (λ e. cc) (λ e. cc) (λ e. cc) (λ e u v is closes. passes (benefit_read u v n is)) max_depth s r h

meta_benefit : (s s1 r : Place) (n : ℕ) → Tok t.BenefitName s s1 → benefit_in_parens s1 ≡ Ok (n, r) → a_meta s ≡ Ok (record { at = start s; form = Benefit n }, r)
unfolding a_meta
meta_benefit s s1 r n h e = rw (h.kind, h.rest, e) refl

meta_recursion : (s r : Place) → Tok t.RecursionName s r → a_meta s ≡ Ok (record { at = start s; form = Recursion }, r)
unfolding a_meta
meta_recursion s r h = rw (h.kind, h.rest) refl

meta_of : ℕ → MetaForm → Meta
meta_of at form = record { at = at; form = form }

meta_form_read : (s r : Place) (form : MetaForm) → IsMetaForm s form r → Takes a_meta s (meta_of (start s) form) r
unfolding meta_of
meta_form_read s r (Benefit n) (s1, tok, inside) =
    let found = benefit_in_parens_read s1 r n inside in
    record { reads = meta_benefit s s1 r n tok found.reads; moves = omega (arith, found.moves, tok_moves t.BenefitName s s1 (λ e. cc) (λ e. cc) tok) }
meta_form_read s r Recursion tok = record { reads = meta_recursion s r tok; moves = tok_moves t.RecursionName s r (λ e. cc) (λ e. cc) tok }

meta_read : (s r : Place) (m : Meta) → IsMeta s m r → Takes a_meta s m r
unfolding meta_of
meta_read s r m (place, is) = subst (λ n. Takes a_meta s (meta_of n m.form) r) (sym place) (meta_form_read s r m.form is)

more_metas : (ms : List Meta) (s r : Place) → AreMore IsMeta s ms r → MoreRead a_meta s ms r
more_metas [] s r h = h
more_metas (m ∷ ms) s r (s1, s2, comma, is, more) = (s1, s2, comma, meta_read s1 s2 m is, more_metas ms s2 r more)

no_metas : (s : Place) → terminal s ≢ t.With → maybe_metas s ≡ Ok ([], s)
unfolding maybe_metas
no_metas s h = rw (unseen t.With s h, after_none t.With s h) refl

some_metas : (s s1 r : Place) (ms : List Meta) → Tok t.With s s1 → items a_meta s1 ≡ Ok (ms, r) → maybe_metas s ≡ Ok (ms, r)
unfolding maybe_metas
some_metas s s1 r ms h e = rw (seen t.With s h.kind, after_it t.With s s1 h) e

metas_read : (ms : List Meta) (s r : Place) → AreMaybeMetas s ms r → terminal r ≢ t.With → terminal r ≢ t.Comma → Passes maybe_metas s ms r
metas_read [] s r h f g = record { reads = no_metas s (λ k. f (ap terminal (sym h) ∙ k)) ∙ (λ i. Ok ([], h i)); moves = omega (arith, ap left h) }
metas_read (m ∷ ms) s r (s1, tok, (s2, is, more)) f g =
    let found = items_read a_meta m ms s1 s2 r (meta_read s1 s2 m is) (more_metas ms s2 r more) g in
    record { reads = some_metas s s1 r (m ∷ ms) tok found.reads; moves = omega (arith, found.moves, tok_moves t.With s s1 (λ e. cc) (λ e. cc) tok) }

-- ---- names

no_name : (s : Place) → is_name (terminal s) ≡ false → maybe_name s ≡ Ok (None, s)
unfolding maybe_name
no_name s h = rw h refl

some_name : (s r : Place) (n : Name) → is_name (terminal s) ≡ true → declared_name s ≡ Ok (n, r) → maybe_name s ≡ Ok (Some n, r)
unfolding maybe_name
some_name s r n h e = rw (h, e) refl

maybe_name_read : (s r : Place) (n : Option Name) → IsMaybeName s n r → is_name (terminal r) ≡ false → Passes maybe_name s n r
maybe_name_read s r None h f = record { reads = no_name s (ap (λ u. is_name (terminal u)) h ∙ f) ∙ (λ i. Ok (None, h i)); moves = omega (arith, ap left h) }
maybe_name_read s r (Some n) h f =
    let found = declared_name_read s r n h in
    record { reads = some_name s r n h.1.kind found.reads; moves = omega (arith, found.moves) }

-- ---- bodies

braces_body : (s r : Place) (found : List Stmt) (end : ℕ) → terminal s ≡ t.LeftBrace → braces (inside_of max_depth) s ≡ Ok ((found, end), r)
    → (pattern_body s ≡ Ok (body.Braces found end, r)) × (call_body s ≡ Ok (body.Braces found end, r))
unfolding pattern_body call_body
braces_body s r found end h e = (rw (h, e) refl, rw (h, e) refl)

one_body : (s s1 r : Place) (x : Stmt) → Tok t.FatArrow s s1 → statement max_depth s1 ≡ Ok (x, r) → pattern_body s ≡ Ok (body.One x, r)
unfolding pattern_body
one_body s s1 r x h e = rw (h.kind, h.rest, e) refl

absent_body : (s r : Place) → Tok t.Semicolon s r → call_body s ≡ Ok (body.Absent, r)
unfolding call_body
absent_body s r h = rw (h.kind, h.rest) refl

value_body : (s s1 s2 r : Place) (x : Expr) → Tok t.FatArrow s s1 → expression room s1 ≡ Ok (x, s2) → Tok t.Semicolon s2 r → call_body s ≡ Ok (body.Value x, r)
unfolding call_body
value_body s s1 s2 r x h e k = rw (h.kind, h.rest, e, expects t.Semicolon s2 r k) refl

-- what a body begins with
abbrev begins_body : Terminal → Bool
begins_body t.Semicolon = true
begins_body t.LeftBrace = true
begins_body t.FatArrow = true
begins_body x = false

pattern_body_begins : (s r : Place) (b : Body) → IsPatternBody s b r → begins_body (terminal s) ≡ true
pattern_body_begins s r body.Absent h = absurd h
pattern_body_begins s r (body.Braces xs end) h = ap begins_body (bracket_opens t.LeftBrace t.RightBrace (λ e u v. AreStmts e u (stmts xs) v × (end ≡ start v)) max_depth s r h)
pattern_body_begins s r (body.One x) (s1, arrow, is) = ap begins_body arrow.kind
pattern_body_begins s r (body.Value x) h = absurd h

call_body_begins : (s r : Place) (b : Body) → IsCallBody s b r → begins_body (terminal s) ≡ true
call_body_begins s r body.Absent h = ap begins_body h.kind
call_body_begins s r (body.Braces xs end) h = ap begins_body (bracket_opens t.LeftBrace t.RightBrace (λ e u v. AreStmts e u (stmts xs) v × (end ≡ start v)) max_depth s r h)
call_body_begins s r (body.One x) h = absurd h
call_body_begins s r (body.Value x) (s1, s2, arrow, is, ends) = ap begins_body arrow.kind

body_no_name : (x : Terminal) → begins_body x ≡ true → is_name x ≡ false
body_no_name t.Semicolon h = refl
body_no_name t.LeftBrace h = refl
body_no_name t.FatArrow h = refl
body_no_name x h = absurd (cc)

pattern_body_read : (s r : Place) (b : Body) → IsPatternBody s b r → Takes pattern_body s b r
pattern_body_read s r body.Absent h = absurd h
pattern_body_read s r (body.Braces xs end) h =
    let found = braces_read max_depth xs end s r h in
    let both = braces_body s r xs end (bracket_opens t.LeftBrace t.RightBrace (λ e u v. AreStmts e u (stmts xs) v × (end ≡ start v)) max_depth s r h) found.reads in
    record { reads = both.0; moves = found.moves }
pattern_body_read s r (body.One x) (s1, arrow, is) =
    let one = stmt_read max_depth x s1 r is in
    let takes = one.takes in
    record { reads = one_body s s1 r x arrow takes.reads; moves = omega (arith, takes.moves, tok_moves t.FatArrow s s1 (λ e. cc) (λ e. cc) arrow) }
pattern_body_read s r (body.Value x) h = absurd h

call_body_read : (s r : Place) (b : Body) → IsCallBody s b r → Takes call_body s b r
call_body_read s r body.Absent h = record { reads = absent_body s r h; moves = tok_moves t.Semicolon s r (λ e. cc) (λ e. cc) h }
call_body_read s r (body.Braces xs end) h =
    let found = braces_read max_depth xs end s r h in
    let both = braces_body s r xs end (bracket_opens t.LeftBrace t.RightBrace (λ e u v. AreStmts e u (stmts xs) v × (end ≡ start v)) max_depth s r h) found.reads in
    record { reads = both.1; moves = found.moves }
call_body_read s r (body.One x) h = absurd h
call_body_read s r (body.Value x) (s1, s2, arrow, is, ends) =
    let one = expr_read max_depth x s1 s2 is (ap ends_expression ends.kind) in
    record {
      reads = value_body s s1 s2 r x arrow one.reads ends;
      moves = omega (arith, one.moves, tok_moves t.FatArrow s s1 (λ e. cc) (λ e. cc) arrow, tok_moves t.Semicolon s2 r (λ e. cc) (λ e. cc) ends);
    }

-- ---- parameters and results

parameter_step : (p : Parser (List Ref)) (s s1 s2 r : Place) (n : Name) (rs : List Ref) → declared_name s ≡ Ok (n, s1) → Tok t.Colon s1 s2 → p s2 ≡ Ok (rs, r) → a_parameter p s ≡ Ok (record { name = n; refs = rs }, r)
unfolding a_parameter
parameter_step p s s1 s2 r n rs e h f = rw (e, expects t.Colon s1 s2 h, f) refl

param_read : (d : ℕ) (s r : Place) (p : Param) → IsParam d s p r → terminal r ≢ t.Less → Takes (a_parameter (references (room_of d))) s p r
param_read d s r p (s1, s2, name, colon, is) f =
    let a = declared_name_read s s1 p.name name in
    let b = refs_read d (refs p.refs) s2 r is f in
    record {
      reads = parameter_step (references (room_of d)) s s1 s2 r p.name p.refs a.reads colon (b.reads ∙ (λ i. Ok (refs_back p.refs i, r)));
      moves = omega (arith, a.moves, b.moves, tok_moves t.Colon s1 s2 (λ e. cc) (λ e. cc) colon);
    }

more_params_end : (d : ℕ) (ps : List Param) (s r : Place) → AreMore (IsParam d) s ps r → terminal r ≢ t.Less → terminal s ≢ t.Less
more_params_end d [] s r h f = λ k. f (ap terminal (sym h) ∙ k)
more_params_end d (p ∷ ps) s r (s1, s2, comma, is, more) f = let seen_comma = comma.kind in λ k. cc

more_params : (d : ℕ) (ps : List Param) (s r : Place) → AreMore (IsParam d) s ps r → terminal r ≢ t.Less → MoreRead (a_parameter (references (room_of d))) s ps r
more_params d [] s r h f = h
more_params d (p ∷ ps) s r (s1, s2, comma, is, more) f = (s1, s2, comma, param_read d s1 s2 p is (more_params_end d ps s2 r more f), more_params d ps s2 r more f)

listed_params : (d : ℕ) (ps : List Param) (s r : Place) → AreListed (IsParam d) s ps r → terminal r ≡ t.RightParen → Passes (list t.RightParen (a_parameter (references (room_of d)))) s ps r
listed_params d [] s r h closes = none_listed t.RightParen (a_parameter (references (room_of d))) s r h closes
listed_params d (p ∷ ps) s r (s1, is, more) closes =
    some_listed t.RightParen (a_parameter (references (room_of d))) p ps s s1 r (differ is_name (terminal s) t.RightParen is.2.1.kind refl)
    (param_read d s s1 p is (more_params_end d ps s1 r more (λ k. cc))) (more_params d ps s1 r more (λ k. cc)) (λ k. cc)

params_read : (ps : List Param) (s r : Place) → AreParams s ps r → Takes parameters s ps r
unfolding parameters
params_read ps s r h =
    in_brackets t.LeftParen t.RightParen (λ r. list t.RightParen (a_parameter r.references)) (λ e u v. AreListed (IsParam e) u ps v) ps (λ e. cc) (λ e. cc) (λ e. cc) (λ e. cc)
    (λ e u v is closes. subst (λ p. Passes (list t.RightParen (a_parameter p)) u ps v) (sym (references_in e)) (listed_params e ps u v is closes)) max_depth s r h

kind_step : (s r : Place) (x : Ref) → is_kind (terminal s) ≡ true → reference room s ≡ Ok (x, r) → a_kind s ≡ Ok (x, r)
unfolding a_kind
kind_step s r x h e = rw h e

no_result : (s : Place) → terminal s ≢ t.Arrow → maybe_result s ≡ Ok (None, s)
unfolding maybe_result
no_result s h = rw (unseen t.Arrow s h, after_none t.Arrow s h) refl

some_result : (s s1 r : Place) (x : Ref) → Tok t.Arrow s s1 → a_kind s1 ≡ Ok (x, r) → maybe_result s ≡ Ok (Some x, r)
unfolding maybe_result
some_result s s1 r x h e = rw (seen t.Arrow s h.kind, after_it t.Arrow s s1 h, e) refl

result_read : (s r : Place) (x : Option Ref) → IsMaybeResult s x r → begins_body (terminal r) ≡ true → Passes maybe_result s x r
result_read s r None h f = record { reads = no_result s (λ k. differ begins_body (terminal r) t.Arrow f refl (ap terminal (sym h) ∙ k)) ∙ (λ i. Ok (None, h i)); moves = omega (arith, ap left h) }
result_read s r (Some x) (s1, arrow, is) f =
    let one = ref_takes max_depth x s1 r is.is_ref (differ begins_body (terminal r) t.Less f refl) in
    record { reads = some_result s s1 r x arrow (kind_step s1 r x is.kind one.reads); moves = omega (arith, one.moves, tok_moves t.Arrow s s1 (λ e. cc) (λ e. cc) arrow) }

-- ---- declarations

pattern_step : (s s1 s2 s3 r : Place) (n : Option Name) (ms : List Meta) (b : Body) → next s ≡ s1 → maybe_name s1 ≡ Ok (n, s2) → maybe_metas s2 ≡ Ok (ms, s3) → pattern_body s3 ≡ Ok (b, r)
    → a_pattern s ≡ Ok (record { at = start s; name = n; metas = ms; body = b }, r)
unfolding a_pattern
pattern_step s s1 s2 s3 r n ms b h e f g = rw (h, e, f, g) refl

metas_begin : (ms : List Meta) (s r : Place) → AreMaybeMetas s ms r → begins_body (terminal r) ≡ true → is_name (terminal s) ≡ false
metas_begin [] s r h f = body_no_name (terminal s) (ap (λ u. begins_body (terminal u)) h ∙ f)
metas_begin (m ∷ ms) s r (s1, tok, more) f = ap is_name tok.kind

pattern_read : (s r : Place) (p : PatternDecl) → IsPattern s p r → Takes a_pattern s p r
pattern_read s r p (s1, s2, s3, place, tok, name, metas, is) =
    let begins = pattern_body_begins s3 r p.body is in
    let a = maybe_name_read s1 s2 p.name name (metas_begin p.metas s2 s3 metas begins) in
    let b = metas_read p.metas s2 s3 metas (differ begins_body (terminal s3) t.With begins refl) (differ begins_body (terminal s3) t.Comma begins refl) in
    let c = pattern_body_read s3 r p.body is in
    record {
      reads = pattern_step s s1 s2 s3 r p.name p.metas p.body tok.rest a.reads b.reads c.reads ∙ (λ i. Ok (record { at = sym place i; name = p.name; metas = p.metas; body = p.body }, r));
      moves = omega (arith, a.moves, b.moves, c.moves, tok_moves t.Pattern s s1 (λ e. cc) (λ e. cc) tok);
    }

constraint_step : (s s1 s2 s3 r : Place) (n : Name) (ps : List Param) (b : Body) → next s ≡ s1 → declared_name s1 ≡ Ok (n, s2) → parameters s2 ≡ Ok (ps, s3) → call_body s3 ≡ Ok (b, r)
    → a_constraint s ≡ Ok (record { at = start s; name = n; params = ps; gives = None; body = b }, r)
unfolding a_constraint
constraint_step s s1 s2 s3 r n ps b h e f g = rw (h, e, f, g) refl

constraint_read : (s r : Place) (c : CallDecl) → IsConstraint s c r → Takes a_constraint s c r
constraint_read s r c (s1, s2, s3, place, tok, name, params, none, is) =
    let a = declared_name_read s1 s2 c.name name in
    let b = params_read c.params s2 s3 params in
    let k = call_body_read s3 r c.body is in
    record {
      reads = constraint_step s s1 s2 s3 r c.name c.params c.body tok.rest a.reads b.reads k.reads ∙ (λ i. Ok (record { at = sym place i; name = c.name; params = c.params; gives = sym none i; body = c.body }, r));
      moves = omega (arith, a.moves, b.moves, k.moves, tok_moves t.Constraint s s1 (λ e. cc) (λ e. cc) tok);
    }

rewrite_step : (s s1 s2 s3 s4 r : Place) (n : Name) (ps : List Param) (g : Option Ref) (b : Body) → next s ≡ s1 → declared_name s1 ≡ Ok (n, s2) → parameters s2 ≡ Ok (ps, s3) → maybe_result s3 ≡ Ok (g, s4)
    → call_body s4 ≡ Ok (b, r) → a_rewrite_declaration s ≡ Ok (record { at = start s; name = n; params = ps; gives = g; body = b }, r)
unfolding a_rewrite_declaration
rewrite_step s s1 s2 s3 s4 r n ps g b h e f k l = rw (h, e, f, k, l) refl

rewrite_read : (s r : Place) (c : CallDecl) → IsRewrite s c r → Takes a_rewrite_declaration s c r
rewrite_read s r c (s1, s2, s3, s4, place, tok, name, params, gives, is) =
    let a = declared_name_read s1 s2 c.name name in
    let b = params_read c.params s2 s3 params in
    let g = result_read s3 s4 c.gives gives (call_body_begins s4 r c.body is) in
    let k = call_body_read s4 r c.body is in
    record {
      reads = rewrite_step s s1 s2 s3 s4 r c.name c.params c.gives c.body tok.rest a.reads b.reads g.reads k.reads ∙ (λ i. Ok (record { at = sym place i; name = c.name; params = c.params; gives = c.gives; body = c.body }, r));
      moves = omega (arith, a.moves, b.moves, g.moves, k.moves, tok_moves t.Rewrite s s1 (λ e. cc) (λ e. cc) tok);
    }

decl_pattern : (n : ℕ) (s r : Place) (p : PatternDecl) → terminal s ≡ t.Pattern → nat_le max_patterns n ≡ false → a_pattern s ≡ Ok (p, r) → declaration n s ≡ Ok (decl.Pattern p, r)
unfolding declaration
decl_pattern n s r p h few e = rw (h, few, e) refl

decl_constraint : (n : ℕ) (s r : Place) (c : CallDecl) → terminal s ≡ t.Constraint → a_constraint s ≡ Ok (c, r) → declaration n s ≡ Ok (decl.Constraint c, r)
unfolding declaration
decl_constraint n s r c h e = rw (h, e) refl

decl_rewrite : (n : ℕ) (s r : Place) (c : CallDecl) → terminal s ≡ t.Rewrite → a_rewrite_declaration s ≡ Ok (c, r) → declaration n s ≡ Ok (decl.Rewrite c, r)
unfolding declaration
decl_rewrite n s r c h e = rw (h, e) refl

-- A declaration is read where the patterns before it and it aren't too many, and doesn't begin with the end.
decl_read : (n : ℕ) (x : Decl) (s r : Place) → IsDecl s x r → is_pattern x + n ≤ max_patterns → (terminal s ≢ t.End) × Takes (declaration n) s x r
decl_read n (decl.Pattern p) s r is few =
    let one = pattern_read s r p is in
    let begins = is.4.kind in
    let below : nat_le max_patterns n ≡ false = grind (arith, nat_tests, few) in
    (λ k. cc, record { reads = decl_pattern n s r p begins below one.reads; moves = one.moves })
decl_read n (decl.Constraint c) s r is few =
    let one = constraint_read s r c is in
    let begins = is.4.kind in
    (λ k. cc, record { reads = decl_constraint n s r c begins one.reads; moves = one.moves })
decl_read n (decl.Rewrite c) s r is few =
    let one = rewrite_read s r c is in
    let begins = is.5.kind in
    (λ k. cc, record { reads = decl_rewrite n s r c begins one.reads; moves = one.moves })

patterns_joined : (xs ys : List Decl) → patterns_in (xs ++ ys) ≡ patterns_in xs + patterns_in ys
patterns_joined [] ys = omega arith
patterns_joined (x ∷ xs) ys = omega (arith, patterns_joined xs ys)

decls_read : (xs found : List Decl) (s r : Place) → AreMany IsDecl s xs r → patterns_in found + patterns_in xs ≤ max_patterns → ManyRead t.End (λ before. declaration (patterns_in before)) found s xs r
decls_read [] found s r h few = h
decls_read (x ∷ xs) found s r (s1, is, more) few =
    let (begins, one) = decl_read (patterns_in found) x s s1 is (omega (arith, few)) in
    (s1, begins, one, decls_read xs (found ++ x ∷ []) s1 r more (omega (arith, few, patterns_joined found (x ∷ []))))

file_step : (bytes : List ℕ) (xs : List Decl) (r : Place) → declarations (at_place bytes 0) ≡ Ok (xs, r) → file_in bytes ≡ Ok (record { decls = xs })
unfolding file_in
file_step bytes xs r e = rw e refl

file_read : (bytes : List ℕ) (file : PatFile) → IsPatternFile bytes file → file_in bytes ≡ Ok file
unfolding declarations
file_read bytes file h =
    let found = many_read t.End (λ before. declaration (patterns_in before)) file.decls (at_place bytes 0) h.end (decls_read file.decls [] (at_place bytes 0) h.end h.declarations (omega (arith, h.few))) h.ends in
    file_step bytes file.decls h.end found.reads

-- What is spelled so is read.
pub file_complete : (bytes : List ℕ) (file : PatFile) → IsPatternFile bytes file → pattern_file bytes ≡ Ok file
unfolding pattern_file
file_complete bytes file h =
    let all : (utf8_valid_len bytes == length bytes) ≡ true = grind (arith, nat_tests, utf8_valid_len-IsUtf8 bytes h.utf8) in
    rw all (file_read bytes file h)

-- No text spells two files.
pub spelled_once : SpelledOnce
spelled_once bytes a b h k = let same = sym (file_complete bytes a h) ∙ file_complete bytes b k in cc

-- what a call that reads a whole text gives, where the text is spelled
pub file_only : (bytes : List ℕ) (r : Result PatFile (Refusal PatFault)) (file : PatFile) → Gives r (pattern_file bytes) → IsPatternFile bytes file → Gives r (Ok file)
file_only bytes (Ok f) file e h = sym (file_complete bytes file h) ∙ e
file_only bytes (Err refusal.NoMemory) file e h = tt
file_only bytes (Err (refusal.Fault f)) file e h = sym (file_complete bytes file h) ∙ e

-- a fault where the text is spelled
pub not_spelled : (bytes : List ℕ) (r : Result PatFile (Refusal PatFault)) (f : PatFault) → Gives r (pattern_file bytes) → r ≡ Err (refusal.Fault f) → (file : PatFile) → IsPatternFile bytes file → ⊥
not_spelled bytes r f e is file h = cc (file_complete bytes file h, subst (λ q. Gives q (pattern_file bytes)) is e)
