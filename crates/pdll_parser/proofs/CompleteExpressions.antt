-- Expressions and refs that are spelled are read.
use Rattle.std.proofs.Common.{◌≡◌, ◌≢◌, ℕ, Bool, true, false, List, [], ◌∷◌, refl, ap, sym, subst, ◌∙◌, arith, inl, inr, Ok, Option, Some, None}
use Rattle.pdll_syntax.specs.declared.name.Literal.{Literal}
use Rattle.pdll_syntax.specs.ExprTree.{Expr, expr, name_expr, call_expr, declare_expr, attr_expr, type_expr, op_expr, member_expr, OpExpr, operation, Entry, entry, Ref, ref, attr_ref, op_ref, type_ref, type_range_ref, value_ref, value_range_ref, named_ref, Exprs, no_exprs, expr_then, Entries, no_entries, entry_then, Refs, no_refs, ref_then, MaybeExpr, no_expr, some_expr, MaybeExprs, left_out, written, maybe_expr, maybe_exprs, expr_list, entry_list, ref_list}
use Rattle.pdll_parser.specs.declared.terminal.Terminal.{Terminal}
use Rattle.pdll_parser.specs.declared.terminal.Terminal.TheVariants as t
use Rattle.pdll_parser.specs.Terminals.{is_name, is_word}
use Rattle.pdll_parser.specs.Place.{Place, terminal, left, same}
use Rattle.pdll_parser.specs.Input.{list, items, bracket}
use Rattle.pdll_parser.specs.Tokens.{IsLiteral, InBrackets}
use Rattle.pdll_parser.specs.Expressions.{room_of, literal, maybe_value, an_entry, arguments, of, maybe_of, reference, references, literal_in_angles, maybe_arguments, attributes, maybe_attributes, maybe_types, an_operation, primary, expression}
use Rattle.pdll_parser.specs.Grammar.{IsExpr, IsOperation, AreMaybeOperands, AreMaybeTypes, AreMaybeEntries, AreMoreEntries, IsEntry, IsMaybeValue, IsExprs, AreMoreExprs, IsRefs, AreMoreRefs, IsRef, IsMaybeOf}
use Rattle.pdll_parser.proofs.CompleteSteps.{tok_moves, Takes, Passes, in_brackets, bracket_opens}
use Rattle.pdll_parser.proofs.CompleteLists.{MoreRead, items_read, none_listed, some_listed}
use Rattle.pdll_parser.proofs.CompleteLeaves.{name_moves, literal_read, entry_name_read}
use Rattle.pdll_parser.proofs.CompletePrimaries.{expression_in, reference_in, ends_primary, ends_expression, differ, expression_ends, named_name, named_call, named_declare, primary_named, primary_attr, primary_type, primary_op, Chain, chain_of, chain_on, chain_end}
use Rattle.pdll_parser.proofs.CompleteParts.{exprs_again, entries_again, refs_again, name_is_word, passes, no_value, some_value, no_of, some_of, operation_name_read, maybe_operation_name_read, no_arguments, some_arguments, no_types, some_types, no_attributes, some_attributes, form_attr, form_value, form_range, form_op, form_type, form_types, form_named, ref_read, one_ref, some_refs, entry_read, operation_reads}

-- tokens that neither an expression nor an entry goes on with
abbrev pub ends_entry : Terminal → Bool
ends_entry t.Equal = false
ends_entry x = ends_expression x

pub entry_ends : (x : Terminal) → ends_entry x ≡ true → ends_expression x ≡ true
entry_ends t.Equal h = absurd (cc)
entry_ends x h = h

-- ---- what stands in brackets, given that what stands inside is read

pub arguments_read : (d : ℕ) (s r : Place) (xs : Exprs) → ((e : ℕ) (u v : Place) → IsExprs e u xs v → terminal v ≡ t.RightParen → Passes (list t.RightParen (expression (room_of e))) u (expr_list xs) v)
    → InBrackets t.LeftParen t.RightParen (λ e u v. IsExprs e u xs v) d s r → Takes (arguments (room_of d)) s (expr_list xs) r
unfolding arguments
arguments_read d s r xs reads h =
    in_brackets t.LeftParen t.RightParen (λ r. list t.RightParen r.expression) (λ e u v. IsExprs e u xs v) (expr_list xs) (λ e. cc) (λ e. cc) (λ e. cc) (λ e. cc)
    (λ e u v is closes. subst (λ p. Passes (list t.RightParen p) u (expr_list xs) v) (sym (expression_in e)) (reads e u v is closes)) d s r h

literal_in_angles_read : (d : ℕ) (s r : Place) (l : Literal) → InBrackets t.Less t.Greater (λ e u v. IsLiteral u l v) d s r → Takes (literal_in_angles (room_of d)) s l r
unfolding literal_in_angles
literal_in_angles_read d s r l h =
    in_brackets t.Less t.Greater (λ r. literal) (λ e u v. IsLiteral u l v) l (λ e. cc) (λ e. cc) (λ e. cc) (λ e. cc) (λ e u v is closes. passes (literal_read u v l is)) d s r h

of_read : (d : ℕ) (s r : Place) (x : Expr) → ((e : ℕ) (u v : Place) → IsExpr e u x v → ends_expression (terminal v) ≡ true → Takes (expression (room_of e)) u x v)
    → InBrackets t.Less t.Greater (λ e u v. IsExpr e u x v) d s r → Takes (of (room_of d)) s x r
unfolding of
of_read d s r x reads h =
    in_brackets t.Less t.Greater (λ r. r.expression) (λ e u v. IsExpr e u x v) x (λ e. cc) (λ e. cc) (λ e. cc) (λ e. cc)
    (λ e u v is closes. subst (λ p. Passes p u x v) (sym (expression_in e)) (passes (reads e u v is (ap ends_expression closes)))) d s r h

braces_read : (d : ℕ) (xs : List Entry) (s r : Place) (Inside : ℕ → Place → Place → Type 0)
    → ((e : ℕ) (u v : Place) → Inside e u v → terminal v ≡ t.RightBrace → Passes (list t.RightBrace (an_entry (expression (room_of e)))) u xs v)
    → InBrackets t.LeftBrace t.RightBrace Inside d s r → Passes (maybe_attributes (room_of d)) s xs r
unfolding attributes
braces_read d xs s r Inside reads h =
    let found : Takes (attributes (room_of d)) s xs r = in_brackets t.LeftBrace t.RightBrace (λ r. list t.RightBrace (an_entry r.expression)) Inside xs (λ e. cc) (λ e. cc) (λ e. cc) (λ e. cc)
    (λ e u v is closes. subst (λ p. Passes (list t.RightBrace (an_entry p)) u xs v) (sym (expression_in e)) (reads e u v is closes)) d s r h in
    record { reads = some_attributes (room_of d) s r xs (bracket_opens t.LeftBrace t.RightBrace Inside d s r h) found.reads; moves = omega (arith, found.moves) }

square_read : (d : ℕ) (xs : List Ref) (s r : Place) (Inside : ℕ → Place → Place → Type 0)
    → ((e : ℕ) (u v : Place) → Inside e u v → terminal v ≡ t.RightBracket → Takes (items (reference (room_of e))) u xs v)
    → InBrackets t.LeftBracket t.RightBracket Inside d s r → Takes (bracket (room_of d) t.LeftBracket (λ r. items r.reference) t.RightBracket) s xs r
square_read d xs s r Inside reads h =
    in_brackets t.LeftBracket t.RightBracket (λ r. items r.reference) Inside xs (λ e. cc) (λ e. cc) (λ e. cc) (λ e. cc)
    (λ e u v is closes. subst (λ p. Passes (items p) u xs v) (sym (reference_in e)) (passes (reads e u v is closes))) d s r h

-- ---- what follows

more_exprs_end : (e : ℕ) (xs : Exprs) (s r : Place) → AreMoreExprs e s xs r → ends_expression (terminal r) ≡ true → ends_expression (terminal s) ≡ true
more_exprs_end e no_exprs s r h f = ap (λ u. ends_expression (terminal u)) h ∙ f
more_exprs_end e (expr_then x xs) s r (s1, s2, comma, is, more) f = ap ends_expression comma.kind

more_entries_end : (e : ℕ) (xs : Entries) (s r : Place) → AreMoreEntries e s xs r → ends_entry (terminal r) ≡ true → ends_entry (terminal s) ≡ true
more_entries_end e no_entries s r h f = ap (λ u. ends_entry (terminal u)) h ∙ f
more_entries_end e (entry_then x xs) s r (s1, s2, comma, is, more) f = ap ends_entry comma.kind

more_refs_end : (e : ℕ) (xs : Refs) (s r : Place) → AreMoreRefs e s xs r → terminal r ≢ t.Less → terminal s ≢ t.Less
more_refs_end e no_refs s r h f = λ k. f (ap terminal (sym h) ∙ k)
more_refs_end e (ref_then x xs) s r (s1, s2, comma, is, more) f = λ k. let seen_comma = comma.kind in cc

types_end : (d : ℕ) (ts : MaybeExprs) (s r : Place) → AreMaybeTypes d s ts r → ends_primary (terminal r) ≡ true → (terminal s ≢ t.LeftBrace) × (terminal s ≢ t.LeftParen)
types_end d left_out s r h f =
    (λ k. differ ends_primary (terminal r) t.LeftBrace f refl (ap terminal (sym h) ∙ k), λ k. differ ends_primary (terminal r) t.LeftParen f refl (ap terminal (sym h) ∙ k))
types_end d (written xs) s r (s1, arrow, more) f = (λ k. let is = arrow.kind in cc, λ k. let is = arrow.kind in cc)

entries_end : (d : ℕ) (es : Entries) (s r : Place) → AreMaybeEntries d s es r → terminal r ≢ t.LeftParen → terminal s ≢ t.LeftParen
entries_end d no_entries s r (inl same) f = λ k. f (ap terminal (sym same) ∙ k)
entries_end d no_entries s r (inr h) f = λ k. let is = bracket_opens t.LeftBrace t.RightBrace _ d s r h in cc
entries_end d (entry_then x xs) s r h f = λ k. let is = bracket_opens t.LeftBrace t.RightBrace _ d s r h in cc

-- ---- what a part begins with

ref_begins : (d : ℕ) (x : Ref) (s r : Place) → IsRef d s x r → is_word (terminal s) ≡ true
ref_begins d (ref at (attr_ref x)) s r (place, (s1, tok, more)) = ap is_word tok.kind
ref_begins d (ref at (op_ref n)) s r (place, (s1, tok, more)) = ap is_word tok.kind
ref_begins d (ref at type_ref) s r (place, tok) = ap is_word tok.kind
ref_begins d (ref at type_range_ref) s r (place, tok) = ap is_word tok.kind
ref_begins d (ref at (value_ref x)) s r (place, (s1, tok, more)) = ap is_word tok.kind
ref_begins d (ref at (value_range_ref x)) s r (place, (s1, tok, more)) = ap is_word tok.kind
ref_begins d (ref at (named_ref w)) s r (place, is) = name_is_word (terminal s) is.kind

entry_begins : (d : ℕ) (x : Entry) (s r : Place) → IsEntry d s x r → terminal s ≢ t.RightBrace
unfolding same
entry_begins d (entry at n value) s r (s1, place, inl is, more) = differ is_word (terminal s) t.RightBrace is.kind refl
entry_begins d (entry at n value) s r (s1, place, inr (text, is, value_is), more) = differ (λ y. same y t.String) (terminal s) t.RightBrace is.kind refl

-- ---- the rules

mutual
  -- An expression is read up to its members.
  pub expr_chain : (d : ℕ) (x : Expr) (s r : Place) → IsExpr d s x r → ends_primary (terminal r) ≡ true → Chain d s x r
  expr_chain d (expr at (name_expr w)) s r (place, is) f =
      chain_of d s r at (name_expr w) place is.is_name.kind (primary_named (room_of d) w s r r (name_expr w) is.is_name is.no_angle (named_name (room_of d) w r f)) (name_moves s r w is.is_name)
  expr_chain d (expr at (call_expr w xs)) s r (place, (s1, is, inside)) f =
      let found = arguments_read d s1 r xs (λ e u v h closes. exprs_read e xs u v h closes) inside in
      let opens = bracket_opens t.LeftParen t.RightParen _ d s1 r inside in
      chain_of d s r at (call_expr w xs) place is.kind
      (subst (λ ys. primary (room_of d) s ≡ Ok (call_expr w ys, r)) (exprs_again xs)
      (primary_named (room_of d) w s s1 r _ is (λ m k. cc) (named_call (room_of d) w s1 r (expr_list xs) opens found.reads)))
      (omega (arith, found.moves, name_moves s s1 w is))
  expr_chain d (expr at (declare_expr w rs)) s r (place, (s1, s2, is, colon, refs_are)) f =
      let found = refs_read d rs s2 r refs_are (differ ends_primary (terminal r) t.Less f refl) in
      let opens = colon.kind in
      chain_of d s r at (declare_expr w rs) place is.kind
      (subst (λ ys. primary (room_of d) s ≡ Ok (declare_expr w ys, r)) (refs_again rs)
      (primary_named (room_of d) w s s1 r _ is (λ m k. cc) (named_declare (room_of d) w s1 s2 r (ref_list rs) colon found.reads)))
      (omega (arith, found.moves, name_moves s s1 w is, tok_moves t.Colon s1 s2 (λ e. cc) (λ e. cc) colon))
  expr_chain d (expr at (attr_expr l)) s r (place, (s1, tok, inside)) f =
      let found = literal_in_angles_read d s1 r l inside in
      chain_of d s r at (attr_expr l) place (ap is_name tok.kind)
      (primary_attr (room_of d) s s1 r l tok (bracket_opens t.Less t.Greater _ d s1 r inside) found.reads)
      (omega (arith, found.moves, tok_moves t.AttrName s s1 (λ e. cc) (λ e. cc) tok))
  expr_chain d (expr at (type_expr l)) s r (place, (s1, tok, inside)) f =
      let found = literal_in_angles_read d s1 r l inside in
      chain_of d s r at (type_expr l) place (ap is_name tok.kind)
      (primary_type (room_of d) s s1 r l tok (bracket_opens t.Less t.Greater _ d s1 r inside) found.reads)
      (omega (arith, found.moves, tok_moves t.TypeName s s1 (λ e. cc) (λ e. cc) tok))
  expr_chain d (expr at (op_expr o)) s r (place, (s1, tok, op)) f =
      let found = operation_read d o s1 r op f in
      chain_of d s r at (op_expr o) place (ap is_name tok.kind)
      (primary_op (room_of d) s s1 r o tok found.0 found.1.reads)
      (omega (arith, found.1.moves, tok_moves t.OpName s s1 (λ e. cc) (λ e. cc) tok))
  expr_chain d (expr at (member_expr x k)) s r (place, (s1, s2, is, dot, index)) f =
      chain_on d s s1 s2 r at x k place (expr_chain d x s s1 is (ap ends_primary dot.kind)) dot index

  -- expressions up to a closing parenthesis
  pub exprs_read : (e : ℕ) (xs : Exprs) (s r : Place) → IsExprs e s xs r → terminal r ≡ t.RightParen → Passes (list t.RightParen (expression (room_of e))) s (expr_list xs) r
  exprs_read e no_exprs s r h closes = none_listed t.RightParen (expression (room_of e)) s r h closes
  exprs_read e (expr_then x xs) s r (s1, is, more) closes =
      let ends = more_exprs_end e xs s1 r more (ap ends_expression closes) in
      let one = expr_chain e x s s1 is (expression_ends (terminal s1) ends) in
      some_listed t.RightParen (expression (room_of e)) x (expr_list xs) s s1 r (differ is_name (terminal s) t.RightParen one.begins refl)
      (chain_end e s s1 x one (differ ends_expression (terminal s1) t.Dot ends refl)) (more_exprs_read e xs s1 r more (ap ends_expression closes)) (λ comma. cc)

  more_exprs_read : (e : ℕ) (xs : Exprs) (s r : Place) → AreMoreExprs e s xs r → ends_expression (terminal r) ≡ true → MoreRead (expression (room_of e)) s (expr_list xs) r
  more_exprs_read e no_exprs s r h f = h
  more_exprs_read e (expr_then x xs) s r (s1, s2, comma, is, more) f =
      let ends = more_exprs_end e xs s2 r more f in
      (s1, s2, comma, chain_end e s1 s2 x (expr_chain e x s1 s2 is (expression_ends (terminal s2) ends)) (differ ends_expression (terminal s2) t.Dot ends refl), more_exprs_read e xs s2 r more f)

  -- what stands behind the word `op`, and that it begins with `<`
  operation_read : (d : ℕ) (o : OpExpr) (s r : Place) → IsOperation d s o r → ends_primary (terminal r) ≡ true → (terminal s ≡ t.Less) × Takes (an_operation (room_of d)) s o r
  operation_read d (operation n xs es ts) s r (s1, s2, s3, name, operands, entries_are, types) f =
      let ends = types_end d ts s3 r types f in
      let a = operation_name_read d s s1 n name in
      let b = operands_read d xs s1 s2 operands (entries_end d es s2 s3 entries_are ends.1) in
      let c = entries_read d es s2 s3 entries_are ends.0 in
      let k = types_read d ts s3 r types (differ ends_primary (terminal r) t.Arrow f refl) in (
        bracket_opens t.Less t.Greater _ d s s1 name,
        record {
          reads = operation_reads (room_of d) s s1 s2 s3 r n b.0 (entry_list es) k.0 a.reads b.2.reads c.reads k.2.reads ∙ (λ i. Ok (operation n (b.1 i) (entries_again es i) (k.1 i), r));
          moves = omega (arith, a.moves, b.2.moves, c.moves, k.2.moves);
        },
      )

  operands_read : (d : ℕ) (xs : MaybeExprs) (s r : Place) → AreMaybeOperands d s xs r → terminal r ≢ t.LeftParen → (o : Option (List Expr)) × (maybe_exprs o ≡ xs) × Passes (maybe_arguments (room_of d)) s o r
  operands_read d left_out s r h f =
      (None, refl, record { reads = no_arguments (room_of d) s (λ k. f (ap terminal (sym h) ∙ k)) ∙ (λ i. Ok (None, h i)); moves = omega (arith, ap left h) })
  operands_read d (written xs) s r h f =
      let found = arguments_read d s r xs (λ e u v h closes. exprs_read e xs u v h closes) h in (
        Some (expr_list xs),
        ap written (exprs_again xs),
        record { reads = some_arguments (room_of d) s r (expr_list xs) (bracket_opens t.LeftParen t.RightParen _ d s r h) found.reads; moves = omega (arith, found.moves) },
      )

  types_read : (d : ℕ) (xs : MaybeExprs) (s r : Place) → AreMaybeTypes d s xs r → terminal r ≢ t.Arrow → (o : Option (List Expr)) × (maybe_exprs o ≡ xs) × Passes (maybe_types (room_of d)) s o r
  types_read d left_out s r h f =
      (None, refl, record { reads = no_types (room_of d) s (λ k. f (ap terminal (sym h) ∙ k)) ∙ (λ i. Ok (None, h i)); moves = omega (arith, ap left h) })
  types_read d (written xs) s r (s1, arrow, h) f =
      let found = arguments_read d s1 r xs (λ e u v h closes. exprs_read e xs u v h closes) h in (
        Some (expr_list xs),
        ap written (exprs_again xs),
        record { reads = some_types (room_of d) s s1 r (expr_list xs) arrow found.reads; moves = omega (arith, found.moves, tok_moves t.Arrow s s1 (λ e. cc) (λ e. cc) arrow) },
      )

  entries_read : (d : ℕ) (es : Entries) (s r : Place) → AreMaybeEntries d s es r → terminal r ≢ t.LeftBrace → Passes (maybe_attributes (room_of d)) s (entry_list es) r
  entries_read d no_entries s r (inl same) f = record { reads = no_attributes (room_of d) s (λ k. f (ap terminal (sym same) ∙ k)) ∙ (λ i. Ok ([], same i)); moves = omega (arith, ap left same) }
  entries_read d no_entries s r (inr h) f = braces_read d [] s r (λ e u v. u ≡ v) (λ e u v is closes. none_listed t.RightBrace (an_entry (expression (room_of e))) u v is closes) h
  entries_read d (entry_then x xs) s r h f =
      braces_read d (x ∷ entry_list xs) s r (λ e u v. (u1 : Place) × IsEntry e u x u1 × AreMoreEntries e u1 xs v)
      (λ e u v (u1, is, more) closes.
      some_listed t.RightBrace (an_entry (expression (room_of e))) x (entry_list xs) u u1 v (entry_begins e x u u1 is)
      (entry_takes e x u u1 is (more_entries_end e xs u1 v more (ap ends_entry closes))) (more_entries_read e xs u1 v more (ap ends_entry closes)) (λ comma. cc)) h

  more_entries_read : (e : ℕ) (xs : Entries) (s r : Place) → AreMoreEntries e s xs r → ends_entry (terminal r) ≡ true → MoreRead (an_entry (expression (room_of e))) s (entry_list xs) r
  more_entries_read e no_entries s r h f = h
  more_entries_read e (entry_then x xs) s r (s1, s2, comma, is, more) f =
      (s1, s2, comma, entry_takes e x s1 s2 is (more_entries_end e xs s2 r more f), more_entries_read e xs s2 r more f)

  entry_takes : (d : ℕ) (x : Entry) (s r : Place) → IsEntry d s x r → ends_entry (terminal r) ≡ true → Takes (an_entry (expression (room_of d))) s x r
  entry_takes d (entry at n value) s r (s1, place, name, is) f =
      let v = value_read d value s1 r is f in
      subst (λ w. Takes (an_entry (expression (room_of d))) s (entry at n w) r) v.1 (entry_read (expression (room_of d)) s s1 r at n v.0 place (entry_name_read s s1 n name) v.2)

  pub value_read : (d : ℕ) (value : MaybeExpr) (s r : Place) → IsMaybeValue d s value r → ends_entry (terminal r) ≡ true → (o : Option Expr) × (maybe_expr o ≡ value) × Passes (maybe_value (expression (room_of d))) s o r
  value_read d no_expr s r h f = (None, refl, no_value (expression (room_of d)) s r h (differ ends_entry (terminal r) t.Equal f refl))
  value_read d (some_expr x) s r (s1, equal, is) f =
      let ends = entry_ends (terminal r) f in
      (Some x, refl, some_value (expression (room_of d)) s s1 r x equal (chain_end d s1 r x (expr_chain d x s1 r is (expression_ends (terminal r) ends)) (differ ends_expression (terminal r) t.Dot ends refl)))

  pub refs_read : (d : ℕ) (rs : Refs) (s r : Place) → IsRefs d s rs r → terminal r ≢ t.Less → Takes (references (room_of d)) s (ref_list rs) r
  refs_read d no_refs s r h f = absurd h
  refs_read d (ref_then x xs) s r (inl (is, none)) f =
      let one = ref_takes d x s r is f in
      subst (λ ys. Takes (references (room_of d)) s (x ∷ ref_list ys) r) (sym none)
      (record { reads = one_ref (room_of d) s r x (differ is_word (terminal s) t.LeftBracket (ref_begins d x s r is) refl) one.reads; moves = one.moves })
  refs_read d (ref_then x xs) s r (inr h) f =
      let found = square_read d (x ∷ ref_list xs) s r (λ e u v. (u1 : Place) × IsRef e u x u1 × AreMoreRefs e u1 xs v)
      (λ e u v (u1, is, more) closes.
      items_read (reference (room_of e)) x (ref_list xs) u u1 v (ref_takes e x u u1 is (more_refs_end e xs u1 v more (λ k. cc))) (more_refs_read e xs u1 v more (λ k. cc)) (λ k. cc)) h in
      record { reads = some_refs (room_of d) s r (x ∷ ref_list xs) (bracket_opens t.LeftBracket t.RightBracket _ d s r h) found.reads; moves = found.moves }

  more_refs_read : (e : ℕ) (xs : Refs) (s r : Place) → AreMoreRefs e s xs r → terminal r ≢ t.Less → MoreRead (reference (room_of e)) s (ref_list xs) r
  more_refs_read e no_refs s r h f = h
  more_refs_read e (ref_then x xs) s r (s1, s2, comma, is, more) f =
      (s1, s2, comma, ref_takes e x s1 s2 is (more_refs_end e xs s2 r more f), more_refs_read e xs s2 r more f)

  pub ref_takes : (d : ℕ) (x : Ref) (s r : Place) → IsRef d s x r → terminal r ≢ t.Less → Takes (reference (room_of d)) s x r
  ref_takes d (ref at (attr_ref x)) s r (place, (s1, tok, is)) f =
      let v = of_takes d x s1 r is f in
      ref_read (room_of d) s r at (attr_ref x) place (form_attr (room_of d) s s1 r v.0 tok v.2.reads ∙ (λ i. Ok (attr_ref (v.1 i), r))) (omega (arith, v.2.moves, tok_moves t.Attr s s1 (λ e. cc) (λ e. cc) tok))
  ref_takes d (ref at (op_ref n)) s r (place, (s1, tok, is)) f =
      let v = maybe_operation_name_read d s1 r n is f in
      ref_read (room_of d) s r at (op_ref n) place (form_op (room_of d) s s1 r n tok v.reads) (omega (arith, v.moves, tok_moves t.Op s s1 (λ e. cc) (λ e. cc) tok))
  ref_takes d (ref at type_ref) s r (place, tok) f = ref_read (room_of d) s r at type_ref place (form_type (room_of d) s r tok) (tok_moves t.Type s r (λ e. cc) (λ e. cc) tok)
  ref_takes d (ref at type_range_ref) s r (place, tok) f = ref_read (room_of d) s r at type_range_ref place (form_types (room_of d) s r tok) (tok_moves t.TypeRange s r (λ e. cc) (λ e. cc) tok)
  ref_takes d (ref at (value_ref x)) s r (place, (s1, tok, is)) f =
      let v = of_takes d x s1 r is f in
      ref_read (room_of d) s r at (value_ref x) place (form_value (room_of d) s s1 r v.0 tok v.2.reads ∙ (λ i. Ok (value_ref (v.1 i), r))) (omega (arith, v.2.moves, tok_moves t.Value s s1 (λ e. cc) (λ e. cc) tok))
  ref_takes d (ref at (value_range_ref x)) s r (place, (s1, tok, is)) f =
      let v = of_takes d x s1 r is f in
      ref_read (room_of d) s r at (value_range_ref x) place (form_range (room_of d) s s1 r v.0 tok v.2.reads ∙ (λ i. Ok (value_range_ref (v.1 i), r))) (omega (arith, v.2.moves, tok_moves t.ValueRange s s1 (λ e. cc) (λ e. cc) tok))
  ref_takes d (ref at (named_ref w)) s r (place, is) f = ref_read (room_of d) s r at (named_ref w) place (form_named (room_of d) s r w is) (name_moves s r w is)

  of_takes : (d : ℕ) (of : MaybeExpr) (s r : Place) → IsMaybeOf d s of r → terminal r ≢ t.Less → (o : Option Expr) × (maybe_expr o ≡ of) × Passes (maybe_of (room_of d)) s o r
  of_takes d no_expr s r h f = (None, refl, record { reads = no_of (room_of d) s (λ k. f (ap terminal (sym h) ∙ k)) ∙ (λ i. Ok (None, h i)); moves = omega (arith, ap left h) })
  of_takes d (some_expr x) s r h f =
      let found = of_read d s r x (λ e u v is ends. chain_end e u v x (expr_chain e x u v is (expression_ends (terminal v) ends)) (differ ends_expression (terminal v) t.Dot ends refl)) h in
      (Some x, refl, record { reads = some_of (room_of d) s r x (bracket_opens t.Less t.Greater _ d s r h) found.reads; moves = omega (arith, found.moves) })

-- An expression that is spelled is read, where what follows isn't a part of it.
pub expr_read : (d : ℕ) (x : Expr) (s r : Place) → IsExpr d s x r → ends_expression (terminal r) ≡ true → Takes (expression (room_of d)) s x r
expr_read d x s r is f = chain_end d s r x (expr_chain d x s r is (expression_ends (terminal r) f)) (differ ends_expression (terminal r) t.Dot f refl)
