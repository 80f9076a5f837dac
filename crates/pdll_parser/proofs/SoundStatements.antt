-- Statements that are read are spelled so.
use Rattle.std.proofs.Common.{◌≡◌, ℕ, zero, suc, List, [], ◌∷◌, Option, Some, None, refl, inl, inr, Ok}
use Rattle.pdll_syntax.specs.declared.stmt.Values.{Values}
use Rattle.pdll_syntax.specs.ExprTree.{Ref, refs}
use Rattle.pdll_syntax.specs.StmtTree.{Stmt, StmtForm, stmts}
use Rattle.pdll_parser.specs.declared.terminal.Terminal.{Terminal}
use Rattle.pdll_parser.specs.declared.terminal.Terminal.TheVariants as t
use Rattle.pdll_parser.specs.Place.{Place, terminal, start, next, sees, after}
use Rattle.pdll_parser.specs.Input.{Parser, expect, deeper, all_up_to}
use Rattle.pdll_parser.specs.Expressions.{Rules, expression, arguments, maybe_value, room_of}
use Rattle.pdll_parser.specs.Statements.{declared_name, maybe_references, braces, values_by, new_values, a_let, a_replace, a_rewrite, statement_by, statement_form, a_statement, statement, inside_of}
use Rattle.pdll_parser.specs.Tokens.{Tok, AreMany, InBrackets}
use Rattle.pdll_parser.specs.Grammar.{IsRefs, AreMaybeRefs, AreValues, IsStmt, IsStmtForm, AreStmts}
use Rattle.pdll_parser.proofs.SoundSteps.{Sound, bind_ok, given, taken, refused, eaten, left_alone, expected, IsRoom, deeper_sound, in_brackets, all_sound, token_is}
use Rattle.pdll_parser.proofs.SoundLeaves.{declared_name_sound}
use Rattle.pdll_parser.proofs.SoundExpressions.{SoundRules, maybe_value_sound, arguments_sound, references_sound, expression_sound, room_sound}

-- what a rule of statements reads, where so many brackets may be open
abbrev pub SoundStatement : ℕ → Parser Stmt → Type 0
SoundStatement d p = Sound p (IsStmt d)

statements_are : (d : ℕ) (s r : Place) (xs : List Stmt) → AreMany (IsStmt d) s xs r → AreStmts d s (stmts xs) r
statements_are d s r [] h = h
statements_are d s r (x ∷ xs) (s1, is, more) = (s1, is, statements_are d s1 r xs more)

-- statements in braces, with the place of the closing one
abbrev pub AreBraced : ℕ → Place → List Stmt × ℕ → Place → Type 0
AreBraced d s found r = InBrackets t.LeftBrace t.RightBrace (λ e u v. AreStmts e u (stmts found.0) v × (found.1 ≡ start v)) d s r

pub braces_sound : (d : ℕ) (inside : Option (Parser Stmt)) → IsRoom SoundStatement d inside → Sound (braces inside) (AreBraced d)
unfolding braces
braces_sound d inside good s r x e = elim (taken (sees t.LeftBrace s) _ _ s r x e) [
  | inl h ↦
      let (found, u, e1, e2) = bind_ok (deeper inside (λ statement. all_up_to t.RightBrace (λ before. statement)) s) _ x r h.1 in
      let (unit, v, e3, e4) = bind_ok (expect t.RightBrace u) _ x r e2 in
      let (below, level, inner) = deeper_sound SoundStatement (λ e u xs v. AreStmts e u (stmts xs) v) (λ statement. all_up_to t.RightBrace (λ before. statement))
      (λ e p ok s r xs f. statements_are e s r xs (all_sound (IsStmt e) t.RightBrace (λ before. p) (λ before. ok) s r xs f).0) d inside good s u found e1 in
      given (AreBraced d s) e4 (in_brackets t.LeftBrace t.RightBrace (λ e from to. AreStmts e from (stmts found) to × (start u ≡ start to)) d below s u v level h.0 (inner, refl) (expected t.RightBrace u v unit e3))
  | inr h ↦ absurd (refused s r x h.1)
]

colon_refs : (d : ℕ) (s s1 r : Place) (xs : List Ref) → Tok t.Colon s s1 → IsRefs d s1 (refs xs) r → AreMaybeRefs d s xs r
colon_refs d s s1 r [] colon h = absurd h
colon_refs d s s1 r (x ∷ xs) colon h = (s1, colon, h)

module _ (d : ℕ) (room : Option Rules) (good : IsRoom SoundRules d room) where
  maybe_references_sound : Sound (maybe_references room) (AreMaybeRefs d)
  unfolding maybe_references
  maybe_references_sound s r xs e = elim (taken (sees t.Colon s) _ _ (after t.Colon s) r xs e) [
    | inl h ↦
        colon_refs d s (after t.Colon s) r xs (eaten t.Colon s h.0) (references_sound d room good (after t.Colon s) r xs h.1)
    | inr h ↦ given (AreMaybeRefs d s) h.1 (left_alone t.Colon s h.0)
  ]

  module _ (inside : Option (Parser Stmt)) (good_inside : IsRoom SoundStatement d inside) where
    values_go : (x : Terminal) (s r : Place) (new : Values) → values_by room inside x s ≡ Ok (new, r) → AreValues d s new r
    values_go t.LeftParen s r new e =
        let (xs, u, e1, e2) = bind_ok (arguments room s) _ new r e in
        given (AreValues d s) e2 (arguments_sound d room good s u xs e1)
    values_go x s r new e =
        let (y, u, e1, e2) = bind_ok (expression room s) _ new r e in
        given (AreValues d s) e2 (expression_sound d room good s u y e1)

    new_values_sound : Sound (new_values room inside) (AreValues d)
    unfolding new_values
    new_values_sound s r new e = values_go (terminal s) s r new e

    let_sound : (s r : Place) (form : StmtForm) → terminal s ≡ t.Let → a_let room inside (next s) ≡ Ok (form, r) → IsStmtForm d s form r
    unfolding a_let
    let_sound s r form h e =
        let (name, s2, e1, f1) = bind_ok (declared_name (next s)) _ form r e in
        let (rs, s3, e2, f2) = bind_ok (maybe_references room s2) _ form r f1 in
        let (value, s4, e3, f3) = bind_ok (maybe_value (expression room) s3) _ form r f2 in
        given (IsStmtForm d s) f3
        (next s, s2, s3, token_is t.Let s h, declared_name_sound (next s) s2 name e1, maybe_references_sound s2 s3 rs e2, maybe_value_sound d (expression room) (expression_sound d room good) s3 s4 value e3)

    replace_sound : (s r : Place) (form : StmtForm) → terminal s ≡ t.Replace → a_replace room inside (next s) ≡ Ok (form, r) → IsStmtForm d s form r
    unfolding a_replace
    replace_sound s r form h e =
        let (old, s2, e1, f1) = bind_ok (expression room (next s)) _ form r e in
        let (unit, s3, e2, f2) = bind_ok (expect t.With s2) _ form r f1 in
        let (new, s4, e3, f3) = bind_ok (new_values room inside s3) _ form r f2 in
        given (IsStmtForm d s) f3 (next s, s2, s3, token_is t.Replace s h, expression_sound d room good (next s) s2 old e1, expected t.With s2 s3 unit e2, new_values_sound s3 s4 new e3)

    rewrite_sound : (s r : Place) (form : StmtForm) → terminal s ≡ t.RewriteWith → a_rewrite room inside (next s) ≡ Ok (form, r) → IsStmtForm d s form r
    unfolding a_rewrite
    rewrite_sound s r form h e =
        let (root, s2, e1, f1) = bind_ok (expression room (next s)) _ form r e in
        let (unit, s3, e2, f2) = bind_ok (expect t.With s2) _ form r f1 in
        let (found, s4, e3, f3) = bind_ok (braces inside s3) _ form r f2 in
        given (IsStmtForm d s) f3 (next s, s2, s3, token_is t.RewriteWith s h, expression_sound d room good (next s) s2 root e1, expected t.With s2 s3 unit e2, braces_sound d inside good_inside s3 s4 found e3)

    form_go : (x : Terminal) (s r : Place) (form : StmtForm) → terminal s ≡ x → statement_by room inside x s ≡ Ok (form, r) → IsStmtForm d s form r
    form_go t.Let s r form h e = let_sound s r form h e
    form_go t.Erase s r form h e =
        let (x, u, e1, e2) = bind_ok (expression room (next s)) _ form r e in
        given (IsStmtForm d s) e2 (next s, token_is t.Erase s h, expression_sound d room good (next s) u x e1)
    form_go t.Return s r form h e =
        let (x, u, e1, e2) = bind_ok (expression room (next s)) _ form r e in
        given (IsStmtForm d s) e2 (next s, token_is t.Return s h, expression_sound d room good (next s) u x e1)
    form_go t.Replace s r form h e = replace_sound s r form h e
    form_go t.RewriteWith s r form h e = rewrite_sound s r form h e
    form_go x s r form h e =
        let (y, u, e1, e2) = bind_ok (expression room s) _ form r e in
        given (IsStmtForm d s) e2 (expression_sound d room good s u y e1)

    pub a_statement_sound : Sound (a_statement room inside) (IsStmt d)
    unfolding a_statement statement_form
    a_statement_sound s r x e =
        let (form, u, e1, e2) = bind_ok (statement_form room inside s) _ x r e in
        let (unit, v, e3, e4) = bind_ok (expect t.Semicolon u) _ x r e2 in
        given (IsStmt d s) e4 (u, refl, form_go (terminal s) s u form refl e1, expected t.Semicolon u v unit e3)

-- what is read is spelled so, where so many brackets may be open
pub statement_sound : (d : ℕ) → Sound (statement d) (IsStmt d)
statement_sound zero = a_statement_sound zero (room_of zero) (room_sound zero) None tt
statement_sound (suc d) = a_statement_sound (suc d) (room_of (suc d)) (room_sound (suc d)) (Some (statement d)) (statement_sound d)

pub inside_sound : (d : ℕ) → IsRoom SoundStatement d (inside_of d)
inside_sound zero = tt
inside_sound (suc d) = statement_sound d
