-- Declarations and pattern files that are read are spelled so.
use Rattle.std.proofs.Common.{◌≡◌, ℕ, zero, suc, ◌+◌, ◌≤◌, Bool, true, false, cond, List, [], ◌∷◌, ◌++◌, length, take, take_all, Option, Some, None, IsUtf8, refl, ap, sym, subst, ◌∙◌, arith, inl, inr, Result, Ok, Err, eqb-true, IfOk}
use Rattle.std.specs.Prelude.{◌==◌, nat_le}
use Rattle.std.specs.Str.{is_utf8}
use Rattle.std.specs.Str.Lossy.{utf8_valid_len, valid_len_up_to}
use Rattle.std.proofs.lemmas.Str.{IsUtf8-nil, IsUtf8-from_is_utf8}
use Rattle.std.proofs.lemmas.Bool.{leb-true, leb-false}
use Rattle.mlir_tree.specs.declared.refusal.Refusal.{Refusal}
use Rattle.pdll_syntax.specs.declared.fault.PatFault.{PatFault}
use Rattle.pdll_syntax.specs.declared.fault.PatKind.TheVariants.{BenefitRange, NotUtf8, TooMany}
use Rattle.pdll_syntax.specs.declared.stmt.Body.{Body}
use Rattle.pdll_syntax.specs.declared.file.PatFile.{PatFile}
use Rattle.pdll_syntax.specs.declared.file.Decl.{Decl}
use Rattle.pdll_syntax.specs.declared.file.Decl.TheVariants as decl
use Rattle.pdll_syntax.specs.declared.file.PatternDecl.{PatternDecl}
use Rattle.pdll_syntax.specs.declared.file.CallDecl.{CallDecl}
use Rattle.pdll_syntax.specs.declared.file.Meta.{Meta}
use Rattle.pdll_syntax.specs.declared.file.MetaForm.{MetaForm}
use Rattle.pdll_syntax.specs.ExprTree.{Ref, refs}
use Rattle.pdll_parser.specs.declared.terminal.Terminal.{Terminal}
use Rattle.pdll_parser.specs.declared.terminal.Terminal.TheVariants as t
use Rattle.pdll_parser.specs.Terminals.{is_name, is_kind}
use Rattle.pdll_parser.specs.Place.{Place, at_place, terminal, start, next, same, sees, after}
use Rattle.pdll_parser.specs.Input.{Outcome, Parser, Gives, fault, expect, bracket, list}
use Rattle.pdll_parser.specs.Expressions.{number, text_of, expression}
use Rattle.pdll_parser.specs.Statements.{declared_name, statement, braces, inside_of}
use Rattle.pdll_parser.specs.Files.{max_depth, room, benefit, meta_by, benefit_in_parens, a_meta, maybe_metas, maybe_name, pattern_body_by, pattern_body, call_body_by, call_body, a_parameter, parameters, a_kind, maybe_result, a_pattern, a_constraint, a_rewrite_declaration, max_patterns, is_pattern, patterns_in, declaration_by, declaration, declarations, file_of, file_in, pattern_file}
use Rattle.pdll_parser.specs.Tokens.{Tok, IsInteger, AreListed, AreSome}
use Rattle.pdll_parser.specs.Grammar.{IsRefs}
use Rattle.pdll_parser.specs.FileGrammar.{IsBenefit, IsMetaForm, IsMeta, AreMaybeMetas, IsMaybeName, IsPatternBody, IsCallBody, IsParam, AreParams, IsKind, IsMaybeResult, IsPattern, IsConstraint, IsRewrite, IsDecl, IsPatternFile}
use Rattle.pdll_parser.proofs.SoundSteps.{Sound, bind_ok, done, same_ok, given, taken, refused, failed, eaten, left_alone, expected, text_sound, bracket_sound, items_sound, list_sound, all_sound, all_keep, IsMaybe, Behind, maybe_eaten, token_is}
use Rattle.pdll_parser.proofs.SoundLeaves.{declared_name_sound}
use Rattle.pdll_parser.proofs.SoundExpressions.{SoundRules, room_sound, expression_sound, reference_sound}
use Rattle.pdll_parser.proofs.SoundStatements.{braces_sound, statement_sound, inside_sound}

-- ---- what is said of a pattern

benefit_by : (s u r : Place) (digits : List ℕ) (n : ℕ) → IsInteger s digits u → (b : Bool) → nat_le (number digits) 65534 ≡ b
    → cond b (done (number digits) u) (Err (fault BenefitRange (start s))) ≡ Ok (n, r) → IsBenefit s n r
benefit_by s u r digits n is true h e =
    let (same_number, same_place) = same_ok e in
    record { digits = digits; integer = subst (IsInteger s digits) same_place is; value = same_number; within = subst (λ k. k ≤ 65534) same_number (leb-true (number digits) 65534 h) }
benefit_by s u r digits n is false h e = absurd (cc)

benefit_sound : Sound benefit IsBenefit
unfolding benefit
benefit_sound s r n e =
    let (digits, u, e1, e2) = bind_ok (text_of t.Integer s) _ n r e in
    benefit_by s u r digits n (text_sound (λ x. same x t.Integer) s u digits e1) (nat_le (number digits) 65534) refl e2

meta_go : (x : Terminal) (s r : Place) (form : MetaForm) → terminal s ≡ x → meta_by x s ≡ Ok (form, r) → IsMetaForm s form r
unfolding benefit_in_parens
meta_go t.BenefitName s r form h e =
    let (n, u, e1, e2) = bind_ok (bracket room t.LeftParen (λ r. benefit) t.RightParen (next s)) _ form r e in
    given (IsMetaForm s) e2
    (next s, token_is t.BenefitName s h, bracket_sound SoundRules (λ e. IsBenefit) t.LeftParen t.RightParen (λ r. benefit) (λ e level ok. benefit_sound) max_depth room (room_sound max_depth) (next s) u n e1)
meta_go t.RecursionName s r form h e = given (IsMetaForm s) e (token_is t.RecursionName s h)
meta_go x s r form h e = absurd (refused s r form e)

meta_sound : Sound a_meta IsMeta
unfolding a_meta
meta_sound s r x e =
    let (form, u, e1, e2) = bind_ok (meta_by (terminal s) s) _ x r e in
    given (IsMeta s) e2 (refl, meta_go (terminal s) s u form refl e1)

some_metas : (s s1 r : Place) (xs : List Meta) → Tok t.With s s1 → AreSome IsMeta s1 xs r → AreMaybeMetas s xs r
some_metas s s1 r [] begins h = absurd h
some_metas s s1 r (x ∷ xs) begins h = (s1, begins, h)

maybe_metas_sound : Sound maybe_metas AreMaybeMetas
unfolding maybe_metas
maybe_metas_sound s r xs e = elim (taken (sees t.With s) _ _ (after t.With s) r xs e) [
  | inl h ↦
      some_metas s (after t.With s) r xs (eaten t.With s h.0) (items_sound IsMeta a_meta meta_sound (after t.With s) r xs h.1)
  | inr h ↦ given (AreMaybeMetas s) h.1 (left_alone t.With s h.0)
]

maybe_name_sound : Sound maybe_name IsMaybeName
unfolding maybe_name
maybe_name_sound s r o e = elim (taken (is_name (terminal s)) _ _ s r o e) [
  | inl h ↦
      let (name, u, e1, e2) = bind_ok (declared_name s) _ o r h.1 in
      given (IsMaybeName s) e2 (declared_name_sound s u name e1)
  | inr h ↦ given (IsMaybeName s) h.1 refl
]

-- ---- bodies

pattern_body_go : (x : Terminal) (s r : Place) (b : Body) → terminal s ≡ x → pattern_body_by x s ≡ Ok (b, r) → IsPatternBody s b r
pattern_body_go t.LeftBrace s r b h e =
    let (found, u, e1, e2) = bind_ok (braces (inside_of max_depth) s) _ b r e in
    given (IsPatternBody s) e2 (braces_sound max_depth (inside_of max_depth) (inside_sound max_depth) s u found e1)
pattern_body_go t.FatArrow s r b h e =
    let (x, u, e1, e2) = bind_ok (statement max_depth (next s)) _ b r e in
    given (IsPatternBody s) e2 (next s, token_is t.FatArrow s h, statement_sound max_depth (next s) u x e1)
pattern_body_go x s r b h e = absurd (refused s r b e)

pattern_body_sound : Sound pattern_body IsPatternBody
unfolding pattern_body
pattern_body_sound s r b e = pattern_body_go (terminal s) s r b refl e

call_body_go : (x : Terminal) (s r : Place) (b : Body) → terminal s ≡ x → call_body_by x s ≡ Ok (b, r) → IsCallBody s b r
call_body_go t.Semicolon s r b h e = given (IsCallBody s) e (token_is t.Semicolon s h)
call_body_go t.LeftBrace s r b h e =
    let (found, u, e1, e2) = bind_ok (braces (inside_of max_depth) s) _ b r e in
    given (IsCallBody s) e2 (braces_sound max_depth (inside_of max_depth) (inside_sound max_depth) s u found e1)
call_body_go t.FatArrow s r b h e =
    let (x, u, e1, e2) = bind_ok (expression room (next s)) _ b r e in
    let (unit, v, e3, e4) = bind_ok (expect t.Semicolon u) _ b r e2 in
    given (IsCallBody s) e4 (next s, u, token_is t.FatArrow s h, expression_sound max_depth room (room_sound max_depth) (next s) u x e1, expected t.Semicolon u v unit e3)
call_body_go x s r b h e = absurd (refused s r b e)

call_body_sound : Sound call_body IsCallBody
unfolding call_body
call_body_sound s r b e = call_body_go (terminal s) s r b refl e

-- ---- parameters and results

parameter_sound : (d : ℕ) (p : Parser (List Ref)) → Sound p (λ s xs r. IsRefs d s (refs xs) r) → Sound (a_parameter p) (IsParam d)
unfolding a_parameter
parameter_sound d p sound s r x e =
    let (name, s1, e1, f1) = bind_ok (declared_name s) _ x r e in
    let (unit, s2, e2, f2) = bind_ok (expect t.Colon s1) _ x r f1 in
    let (written, s3, e3, f3) = bind_ok (p s2) _ x r f2 in
    given (IsParam d s) f3 (s1, s2, declared_name_sound s s1 name e1, expected t.Colon s1 s2 unit e2, sound s2 s3 written e3)

parameters_sound : Sound parameters AreParams
unfolding parameters
parameters_sound = bracket_sound SoundRules (λ e u xs v. AreListed (IsParam e) u xs v) t.LeftParen t.RightParen (λ r. list t.RightParen (a_parameter r.references))
    (λ e level ok. list_sound (IsParam e) t.RightParen (a_parameter level.references) (parameter_sound e level.references ok.references)) max_depth room (room_sound max_depth)

kind_sound : Sound a_kind IsKind
unfolding a_kind
kind_sound s r x e = elim (taken (is_kind (terminal s)) _ _ s r x e) [
  | inl h ↦
      record { kind = h.0; is_ref = reference_sound max_depth room (room_sound max_depth) s r x h.1 }
  | inr h ↦ absurd (refused s r x h.1)
]

result_is : (s r : Place) (o : Option Ref) → IsMaybe (Behind t.Arrow IsKind) s o r → IsMaybeResult s o r
result_is s r None h = h
result_is s r (Some x) h = h

maybe_result_sound : Sound maybe_result IsMaybeResult
unfolding maybe_result
maybe_result_sound s r o e = result_is s r o (maybe_eaten IsKind t.Arrow a_kind kind_sound s r o e)

-- ---- declarations

pattern_sound : (s r : Place) (p : PatternDecl) → terminal s ≡ t.Pattern → a_pattern s ≡ Ok (p, r) → IsPattern s p r
unfolding a_pattern
pattern_sound s r p h e =
    let (name, s2, e1, f1) = bind_ok (maybe_name (next s)) _ p r e in
    let (metas, s3, e2, f2) = bind_ok (maybe_metas s2) _ p r f1 in
    let (b, s4, e3, f3) = bind_ok (pattern_body s3) _ p r f2 in
    given (IsPattern s) f3 (next s, s2, s3, refl, token_is t.Pattern s h, maybe_name_sound (next s) s2 name e1, maybe_metas_sound s2 s3 metas e2, pattern_body_sound s3 s4 b e3)

constraint_sound : (s r : Place) (c : CallDecl) → terminal s ≡ t.Constraint → a_constraint s ≡ Ok (c, r) → IsConstraint s c r
unfolding a_constraint
constraint_sound s r c h e =
    let (name, s2, e1, f1) = bind_ok (declared_name (next s)) _ c r e in
    let (params, s3, e2, f2) = bind_ok (parameters s2) _ c r f1 in
    let (b, s4, e3, f3) = bind_ok (call_body s3) _ c r f2 in
    given (IsConstraint s) f3 (next s, s2, s3, refl, token_is t.Constraint s h, declared_name_sound (next s) s2 name e1, parameters_sound s2 s3 params e2, refl, call_body_sound s3 s4 b e3)

rewrite_sound : (s r : Place) (c : CallDecl) → terminal s ≡ t.Rewrite → a_rewrite_declaration s ≡ Ok (c, r) → IsRewrite s c r
unfolding a_rewrite_declaration
rewrite_sound s r c h e =
    let (name, s2, e1, f1) = bind_ok (declared_name (next s)) _ c r e in
    let (params, s3, e2, f2) = bind_ok (parameters s2) _ c r f1 in
    let (gives, s4, e3, f3) = bind_ok (maybe_result s3) _ c r f2 in
    let (b, s5, e4, f4) = bind_ok (call_body s4) _ c r f3 in
    given (IsRewrite s) f4
    (next s, s2, s3, s4, refl, token_is t.Rewrite s h, declared_name_sound (next s) s2 name e1, parameters_sound s2 s3 params e2, maybe_result_sound s3 s4 gives e3, call_body_sound s4 s5 b e4)

declaration_go : (patterns : ℕ) (x : Terminal) (s r : Place) (d : Decl) → terminal s ≡ x → declaration_by patterns x s ≡ Ok (d, r) → IsDecl s d r
declaration_go patterns t.Pattern s r d h e = elim (taken (nat_le max_patterns patterns) _ _ s r d e) [
  | inl k ↦ absurd (failed TooMany s r d k.1)
  | inr k ↦
      let (p, u, e1, e2) = bind_ok (a_pattern s) _ d r k.1 in
      given (IsDecl s) e2 (pattern_sound s u p h e1)
]
declaration_go patterns t.Constraint s r d h e =
    let (c, u, e1, e2) = bind_ok (a_constraint s) _ d r e in
    given (IsDecl s) e2 (constraint_sound s u c h e1)
declaration_go patterns t.Rewrite s r d h e =
    let (c, u, e1, e2) = bind_ok (a_rewrite_declaration s) _ d r e in
    given (IsDecl s) e2 (rewrite_sound s u c h e1)
declaration_go patterns x s r d h e = absurd (refused s r d e)

declaration_sound : (patterns : ℕ) → Sound (declaration patterns) IsDecl
unfolding declaration
declaration_sound patterns s r d e = declaration_go patterns (terminal s) s r d refl e

-- ---- how many patterns there are

one_pattern : (d : Decl) → is_pattern d ≤ 1
one_pattern (decl.Pattern p) = omega arith
one_pattern d = omega arith

patterns_added : (ds : List Decl) (d : Decl) → patterns_in (ds ++ d ∷ []) ≡ patterns_in ds + is_pattern d
patterns_added [] d = omega arith
patterns_added (x ∷ xs) d = let more = patterns_added xs d in omega (arith, more)

room_go : (patterns : ℕ) (x : Terminal) (s r : Place) (d : Decl) → patterns ≤ max_patterns → declaration_by patterns x s ≡ Ok (d, r) → patterns + is_pattern d ≤ max_patterns
room_go patterns t.Pattern s r d few e = elim (taken (nat_le max_patterns patterns) _ _ s r d e) [
  | inl k ↦ absurd (failed TooMany s r d k.1)
  | inr k ↦
      let below = leb-false max_patterns patterns k.0 in
      let one = one_pattern d in
      omega (arith, below, one)
]
room_go patterns t.Constraint s r d few e =
    let (c, u, e1, e2) = bind_ok (a_constraint s) _ d r e in
    given (λ d u. patterns + is_pattern d ≤ max_patterns) e2 (omega (arith, few))
room_go patterns t.Rewrite s r d few e =
    let (c, u, e1, e2) = bind_ok (a_rewrite_declaration s) _ d r e in
    given (λ d u. patterns + is_pattern d ≤ max_patterns) e2 (omega (arith, few))
room_go patterns x s r d few e = absurd (refused s r d e)

few_more : (found : List Decl) (s r : Place) (d : Decl) → patterns_in found ≤ max_patterns → declaration (patterns_in found) s ≡ Ok (d, r) → patterns_in (found ++ d ∷ []) ≤ max_patterns
unfolding declaration
few_more found s r d few e = subst (λ n. n ≤ max_patterns) (sym (patterns_added found d)) (room_go (patterns_in found) (terminal s) s r d few e)

-- ---- whole files

or_file : Result PatFile PatFault → PatFile → PatFile
or_file (Ok f) g = f
or_file (Err e) g = g

outcome_sound : (bytes : List ℕ) (file : PatFile) → IsUtf8 bytes → (o : Outcome (List Decl)) → declarations (at_place bytes 0) ≡ o → file_of o ≡ Ok file → IsPatternFile bytes file
unfolding declarations or_file
outcome_sound bytes file utf8 (Ok p) h e =
    let (are, ends) = all_sound IsDecl t.End (λ before. declaration (patterns_in before)) (λ before. declaration_sound (patterns_in before)) (at_place bytes 0) p.1 p.0 h in
    let few = all_keep (λ found. patterns_in found ≤ max_patterns) t.End (λ before. declaration (patterns_in before)) few_more (omega arith) (at_place bytes 0) p.1 p.0 h in
    subst (IsPatternFile bytes) (ap (λ o. or_file o file) e) (record { utf8 = utf8; end = p.1; declarations = are; ends = ends; few = few })
outcome_sound bytes file utf8 (Err f) h e = absurd (cc)

file_in_sound : (bytes : List ℕ) (file : PatFile) → IsUtf8 bytes → file_in bytes ≡ Ok file → IsPatternFile bytes file
unfolding file_in
file_in_sound bytes file utf8 e = outcome_sound bytes file utf8 (declarations (at_place bytes 0)) refl e

-- the front that is found to be UTF-8 is UTF-8
valid_by : (bytes : List ℕ) (n m : ℕ) → IsUtf8 (take m bytes) → (b : Bool) → is_utf8 (take n bytes) ≡ b → IsUtf8 (take (cond b n m) bytes)
valid_by bytes n m below true h = IsUtf8-from_is_utf8 (take n bytes) h
valid_by bytes n m below false h = below

valid_front : (bytes : List ℕ) (n : ℕ) → IsUtf8 (take (valid_len_up_to bytes n) bytes)
valid_front bytes zero = IsUtf8-nil
valid_front bytes (suc n) = valid_by bytes (suc n) (valid_len_up_to bytes n) (valid_front bytes n) (is_utf8 (take (suc n) bytes)) refl

all_valid : (bytes : List ℕ) → utf8_valid_len bytes ≡ length bytes → IsUtf8 bytes
unfolding utf8_valid_len
all_valid bytes h = subst IsUtf8 (ap (λ n. take n bytes) h ∙ take_all (length bytes) bytes (omega arith)) (valid_front bytes (length bytes))

bytes_by : (bytes : List ℕ) (file : PatFile) (b : Bool) → utf8_valid_len bytes == length bytes ≡ b
    → cond b (file_in bytes) (Err (fault NotUtf8 (utf8_valid_len bytes))) ≡ Ok file → IsPatternFile bytes file
bytes_by bytes file true h e = file_in_sound bytes file (all_valid bytes (eqb-true (utf8_valid_len bytes) (length bytes) h)) e
bytes_by bytes file false h e = absurd (cc)

-- A pattern file that is read is spelled by the bytes.
pub file_sound : (bytes : List ℕ) (file : PatFile) → pattern_file bytes ≡ Ok file → IsPatternFile bytes file
unfolding pattern_file
file_sound bytes file e = bytes_by bytes file (utf8_valid_len bytes == length bytes) refl e

-- what a call that reads a whole text gives
pub file_found : (bytes : List ℕ) (r : Result PatFile (Refusal PatFault)) → Gives r (pattern_file bytes) → IfOk r (IsPatternFile bytes)
file_found bytes (Ok file) e = file_sound bytes file e
file_found bytes (Err e) h = tt
