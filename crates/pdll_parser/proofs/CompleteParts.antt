-- One step of a rule of refs, entries and operations: where its parts are read, the whole is read.
use Rattle.std.proofs.Common.{◌≡◌, ◌≢◌, ℕ, ◌<◌, true, List, [], ◌∷◌, refl, ap, sym, ◌∙◌, arith, Ok, Option, Some, None}
use Rattle.pdll_syntax.specs.ExprTree.{Expr, operation, Entry, entry, Ref, ref, RefForm, attr_ref, op_ref, type_ref, type_range_ref, value_ref, value_range_ref, named_ref, Exprs, no_exprs, expr_then, Entries, no_entries, entry_then, Refs, no_refs, ref_then, exprs, entries, refs, maybe_expr, maybe_exprs, expr_list, entry_list, ref_list}
use Rattle.pdll_parser.specs.declared.terminal.Terminal.{Terminal}
use Rattle.pdll_parser.specs.declared.terminal.Terminal.TheVariants as t
use Rattle.pdll_parser.specs.Terminals.{is_name, is_word}
use Rattle.pdll_parser.specs.Place.{Place, terminal, start, left}
use Rattle.pdll_parser.specs.Input.{Parser, ◌<$>◌, name, bracket, items}
use Rattle.pdll_parser.specs.Tokens.{Tok, IsName, IsDottedName, InBrackets}
use Rattle.pdll_parser.specs.Expressions.{Rules, room_of, dotted_name, entry_name, maybe_value, an_entry, arguments, of, maybe_of, operation_name, maybe_operation_name, reference_by, reference_form, reference, references, maybe_arguments, attributes, maybe_attributes, maybe_types, an_operation}
use Rattle.pdll_parser.specs.Grammar.{IsMaybeOperationName}
use Rattle.pdll_parser.proofs.CompleteSteps.{seen, unseen, after_it, after_none, text_read, tok_moves, Takes, Passes, in_brackets, bracket_opens}
use Rattle.pdll_parser.proofs.CompleteLeaves.{dotted_name_read}

pub exprs_again : (xs : Exprs) → exprs (expr_list xs) ≡ xs
exprs_again no_exprs = refl
exprs_again (expr_then x xs) = ap (λ ys. expr_then x ys) (exprs_again xs)

pub entries_again : (xs : Entries) → entries (entry_list xs) ≡ xs
entries_again no_entries = refl
entries_again (entry_then x xs) = ap (λ ys. entry_then x ys) (entries_again xs)

pub refs_again : (xs : Refs) → refs (ref_list xs) ≡ xs
refs_again no_refs = refl
refs_again (ref_then x xs) = ap (λ ys. ref_then x ys) (refs_again xs)

pub name_is_word : (x : Terminal) → is_name x ≡ true → is_word x ≡ true
name_is_word t.OtherName h = refl
name_is_word t.AttrName h = refl
name_is_word t.OpName h = refl
name_is_word t.TypeName h = refl
name_is_word t.BenefitName h = refl
name_is_word t.RecursionName h = refl
name_is_word _ h = absurd (cc)

pub passes : {A : Type 0} {p : Parser A} {s r : Place} {x : A} → Takes p s x r → Passes p s x r
passes h = record { reads = h.reads; moves = omega (arith, h.moves) }

-- ---- what may be left out

left_out_value : (p : Parser Expr) (s : Place) → terminal s ≢ t.Equal → maybe_value p s ≡ Ok (None, s)
unfolding maybe_value
left_out_value p s h = rw (unseen t.Equal s h, after_none t.Equal s h) refl

pub no_value : (p : Parser Expr) (s r : Place) → s ≡ r → terminal r ≢ t.Equal → Passes (maybe_value p) s None r
no_value p s r h none = record { reads = left_out_value p s (λ e. none (ap terminal (sym h) ∙ e)) ∙ (λ i. Ok (None, h i)); moves = omega (arith, ap left h) }

written_value : (p : Parser Expr) (s s1 r : Place) (x : Expr) → Tok t.Equal s s1 → p s1 ≡ Ok (x, r) → maybe_value p s ≡ Ok (Some x, r)
unfolding maybe_value
written_value p s s1 r x h e = rw (seen t.Equal s h.kind, after_it t.Equal s s1 h, e) refl

pub some_value : (p : Parser Expr) (s s1 r : Place) (x : Expr) → Tok t.Equal s s1 → Takes p s1 x r → Passes (maybe_value p) s (Some x) r
some_value p s s1 r x h is = record {
  reads = written_value p s s1 r x h is.reads;
  moves = omega (arith, is.moves, tok_moves t.Equal s s1 (λ e. cc) (λ e. cc) h);
}

pub no_of : (room : Option Rules) (s : Place) → terminal s ≢ t.Less → maybe_of room s ≡ Ok (None, s)
unfolding maybe_of
no_of room s h = rw (unseen t.Less s h) refl

pub some_of : (room : Option Rules) (s r : Place) (x : Expr) → terminal s ≡ t.Less → of room s ≡ Ok (x, r) → maybe_of room s ≡ Ok (Some x, r)
unfolding maybe_of
some_of room s r x h e = rw (seen t.Less s h, e) refl

no_operation_name : (room : Option Rules) (s : Place) → terminal s ≢ t.Less → maybe_operation_name room s ≡ Ok (None, s)
unfolding maybe_operation_name
no_operation_name room s h = rw (unseen t.Less s h) refl

some_operation_name : (room : Option Rules) (s r : Place) (x : List ℕ) → terminal s ≡ t.Less → operation_name room s ≡ Ok (x, r) → maybe_operation_name room s ≡ Ok (Some x, r)
unfolding maybe_operation_name
some_operation_name room s r x h e = rw (seen t.Less s h, e) refl

pub operation_name_read : (d : ℕ) (s r : Place) (name : List ℕ) → InBrackets t.Less t.Greater (λ e u v. IsDottedName u name v) d s r → Takes (operation_name (room_of d)) s name r
unfolding operation_name
operation_name_read d s r name h =
    in_brackets t.Less t.Greater (λ rules. dotted_name) (λ e u v. IsDottedName u name v) name (λ e. cc) (λ e. cc) (λ e. cc) (λ e. cc)
    (λ e u v is closes. passes (dotted_name_read u v name is (λ dot. cc))) d s r h

pub maybe_operation_name_read : (d : ℕ) (s r : Place) (name : Option (List ℕ)) → IsMaybeOperationName d s name r → terminal r ≢ t.Less → Passes (maybe_operation_name (room_of d)) s name r
maybe_operation_name_read d s r None h none =
    record { reads = no_operation_name (room_of d) s (λ e. none (ap terminal (sym h) ∙ e)) ∙ (λ i. Ok (None, h i)); moves = omega (arith, ap left h) }
maybe_operation_name_read d s r (Some name) h none =
    let is = operation_name_read d s r name h in
    record { reads = some_operation_name (room_of d) s r name (bracket_opens t.Less t.Greater _ d s r h) is.reads; moves = omega (arith, is.moves) }

pub no_arguments : (room : Option Rules) (s : Place) → terminal s ≢ t.LeftParen → maybe_arguments room s ≡ Ok (None, s)
unfolding maybe_arguments
no_arguments room s h = rw (unseen t.LeftParen s h) refl

pub some_arguments : (room : Option Rules) (s r : Place) (xs : List Expr) → terminal s ≡ t.LeftParen → arguments room s ≡ Ok (xs, r) → maybe_arguments room s ≡ Ok (Some xs, r)
unfolding maybe_arguments
some_arguments room s r xs h e = rw (seen t.LeftParen s h, e) refl

pub no_types : (room : Option Rules) (s : Place) → terminal s ≢ t.Arrow → maybe_types room s ≡ Ok (None, s)
unfolding maybe_types
no_types room s h = rw (unseen t.Arrow s h, after_none t.Arrow s h) refl

pub some_types : (room : Option Rules) (s s1 r : Place) (xs : List Expr) → Tok t.Arrow s s1 → arguments room s1 ≡ Ok (xs, r) → maybe_types room s ≡ Ok (Some xs, r)
unfolding maybe_types
some_types room s s1 r xs h e = rw (seen t.Arrow s h.kind, after_it t.Arrow s s1 h, e) refl

pub no_attributes : (room : Option Rules) (s : Place) → terminal s ≢ t.LeftBrace → maybe_attributes room s ≡ Ok ([], s)
unfolding maybe_attributes
no_attributes room s h = rw (unseen t.LeftBrace s h) refl

pub some_attributes : (room : Option Rules) (s r : Place) (xs : List Entry) → terminal s ≡ t.LeftBrace → attributes room s ≡ Ok (xs, r) → maybe_attributes room s ≡ Ok (xs, r)
unfolding maybe_attributes
some_attributes room s r xs h e = rw (seen t.LeftBrace s h) e

-- ---- refs

pub form_attr : (room : Option Rules) (s s1 r : Place) (o : Option Expr) → Tok t.Attr s s1 → maybe_of room s1 ≡ Ok (o, r) → reference_form room s ≡ Ok (attr_ref (maybe_expr o), r)
unfolding reference_form
form_attr room s s1 r o h e = rw (h.kind, h.rest, e) refl

pub form_value : (room : Option Rules) (s s1 r : Place) (o : Option Expr) → Tok t.Value s s1 → maybe_of room s1 ≡ Ok (o, r) → reference_form room s ≡ Ok (value_ref (maybe_expr o), r)
unfolding reference_form
form_value room s s1 r o h e = rw (h.kind, h.rest, e) refl

pub form_range : (room : Option Rules) (s s1 r : Place) (o : Option Expr) → Tok t.ValueRange s s1 → maybe_of room s1 ≡ Ok (o, r) → reference_form room s ≡ Ok (value_range_ref (maybe_expr o), r)
unfolding reference_form
form_range room s s1 r o h e = rw (h.kind, h.rest, e) refl

pub form_op : (room : Option Rules) (s s1 r : Place) (n : Option (List ℕ)) → Tok t.Op s s1 → maybe_operation_name room s1 ≡ Ok (n, r) → reference_form room s ≡ Ok (op_ref n, r)
unfolding reference_form
form_op room s s1 r n h e = rw (h.kind, h.rest, e) refl

pub form_type : (room : Option Rules) (s r : Place) → Tok t.Type s r → reference_form room s ≡ Ok (type_ref, r)
unfolding reference_form
form_type room s r h = rw (h.kind, h.rest) refl

pub form_types : (room : Option Rules) (s r : Place) → Tok t.TypeRange s r → reference_form room s ≡ Ok (type_range_ref, r)
unfolding reference_form
form_types room s r h = rw (h.kind, h.rest) refl

some_name : (w : List ℕ) (s r : Place) → IsName s w r → (named_ref <$> name) s ≡ Ok (named_ref w, r)
some_name w s r h = rw (text_read is_name s r w h) refl

by_name : (room : Option Rules) (w : List ℕ) (s r : Place) (x : Terminal) → is_name x ≡ true → (named_ref <$> name) s ≡ Ok (named_ref w, r) → reference_by room x s ≡ Ok (named_ref w, r)
by_name room w s r t.OtherName h e = e
by_name room w s r t.AttrName h e = e
by_name room w s r t.OpName h e = e
by_name room w s r t.TypeName h e = e
by_name room w s r t.BenefitName h e = e
by_name room w s r t.RecursionName h e = e
by_name room w s r _ h e = absurd (cc)

pub form_named : (room : Option Rules) (s r : Place) (w : List ℕ) → IsName s w r → reference_form room s ≡ Ok (named_ref w, r)
unfolding reference_form
form_named room s r w h = by_name room w s r (terminal s) h.kind (some_name w s r h)

ref_reads : (room : Option Rules) (s r : Place) (form : RefForm) → reference_form room s ≡ Ok (form, r) → reference room s ≡ Ok (ref (start s) form, r)
unfolding reference
ref_reads room s r form e = rw e refl

pub ref_read : (room : Option Rules) (s r : Place) (at : ℕ) (form : RefForm) → at ≡ start s → reference_form room s ≡ Ok (form, r) → left r < left s → Takes (reference room) s (ref at form) r
ref_read room s r at form place e moves = record { reads = ref_reads room s r form e ∙ (λ i. Ok (ref (sym place i) form, r)); moves = moves }

pub one_ref : (room : Option Rules) (s r : Place) (x : Ref) → terminal s ≢ t.LeftBracket → reference room s ≡ Ok (x, r) → references room s ≡ Ok (x ∷ [], r)
unfolding references
one_ref room s r x h e = rw (unseen t.LeftBracket s h, e) refl

pub some_refs : (room : Option Rules) (s r : Place) (xs : List Ref) → terminal s ≡ t.LeftBracket → bracket room t.LeftBracket (λ r. items r.reference) t.RightBracket s ≡ Ok (xs, r) → references room s ≡ Ok (xs, r)
unfolding references
some_refs room s r xs h e = rw (seen t.LeftBracket s h) e

-- ---- entries and operations

entry_reads : (p : Parser Expr) (s s1 r : Place) (n : List ℕ) (o : Option Expr) → entry_name s ≡ Ok (n, s1) → maybe_value p s1 ≡ Ok (o, r) → an_entry p s ≡ Ok (entry (start s) n (maybe_expr o), r)
unfolding an_entry
entry_reads p s s1 r n o e f = rw (e, f) refl

pub entry_read : (p : Parser Expr) (s s1 r : Place) (at : ℕ) (n : List ℕ) (o : Option Expr) → at ≡ start s → Takes entry_name s n s1 → Passes (maybe_value p) s1 o r → Takes (an_entry p) s (entry at n (maybe_expr o)) r
entry_read p s s1 r at n o place a b = record {
  reads = entry_reads p s s1 r n o a.reads b.reads ∙ (λ i. Ok (entry (sym place i) n (maybe_expr o), r));
  moves = omega (arith, a.moves, b.moves);
}

pub operation_reads : (room : Option Rules) (s s1 s2 s3 r : Place) (n : List ℕ) (xs : Option (List Expr)) (es : List Entry) (ts : Option (List Expr))
    → operation_name room s ≡ Ok (n, s1) → maybe_arguments room s1 ≡ Ok (xs, s2) → maybe_attributes room s2 ≡ Ok (es, s3) → maybe_types room s3 ≡ Ok (ts, r)
    → an_operation room s ≡ Ok (operation n (maybe_exprs xs) (entries es) (maybe_exprs ts), r)
unfolding an_operation
operation_reads room s s1 s2 s3 r n xs es ts a b c d = rw (a, b, c, d) refl
