-- One step of a rule of expressions: where its parts are read, the whole is read.
use Rattle.std.proofs.Common.{◌≡◌, ◌≢◌, ℕ, zero, suc, ◌<◌, ◌≤◌, Bool, true, false, List, refl, ap, sym, subst, ◌∙◌, arith, Ok, Option}
use Rattle.pdll_syntax.specs.declared.name.Literal.{Literal}
use Rattle.pdll_syntax.specs.ExprTree.{Expr, expr, ExprForm, name_expr, call_expr, declare_expr, attr_expr, type_expr, op_expr, member_expr, OpExpr, Ref, exprs, refs}
use Rattle.pdll_parser.specs.declared.terminal.Terminal.{Terminal}
use Rattle.pdll_parser.specs.declared.terminal.Terminal.TheVariants as t
use Rattle.pdll_parser.specs.Terminals.{begins_literal, is_name}
use Rattle.pdll_parser.specs.Place.{Place, terminal, start, next, left, same}
use Rattle.pdll_parser.specs.Input.{Parser, ◌>>=◌, name}
use Rattle.pdll_parser.specs.Tokens.{Tok, IsText, IsName, IsIndex}
use Rattle.pdll_parser.specs.Expressions.{Rules, rules, room_of, index_of, text_of, arguments, reference, references, literal_in_angles, an_operation, named_by, named, begins, primary_by, primary, members, expression}
use Rattle.pdll_parser.proofs.CompleteSteps.{seen, unseen, after_it, after_none, text_read, tok_moves, Takes}
use Rattle.pdll_parser.proofs.CompleteLeaves.{text_of_moves}

pub expression_in : (d : ℕ) → (rules d).expression ≡ expression (room_of d)
expression_in zero = refl
expression_in (suc d) = refl

pub reference_in : (d : ℕ) → (rules d).reference ≡ reference (room_of d)
reference_in zero = refl
reference_in (suc d) = refl

pub references_in : (d : ℕ) → (rules d).references ≡ references (room_of d)
references_in zero = refl
references_in (suc d) = refl

-- ---- what follows

-- tokens that a primary doesn't go on with
abbrev pub ends_primary : Terminal → Bool
ends_primary t.LeftParen = false
ends_primary t.Colon = false
ends_primary t.Less = false
ends_primary t.LeftBrace = false
ends_primary t.Arrow = false
ends_primary x = true

-- tokens that an expression doesn't go on with
abbrev pub ends_expression : Terminal → Bool
ends_expression t.Dot = false
ends_expression x = ends_primary x

pub differ : (test : Terminal → Bool) (x y : Terminal) → test x ≡ true → test y ≡ false → x ≢ y
differ test x y h k e = let same_test = ap test e in cc

pub expression_ends : (x : Terminal) → ends_expression x ≡ true → ends_primary x ≡ true
expression_ends t.Dot h = absurd (cc)
expression_ends x h = h

-- ---- primaries

named_end : (room : Option Rules) (w : List ℕ) (s : Place) (x : Terminal) → ends_primary x ≡ true → named_by room w x s ≡ Ok (name_expr w, s)
named_end room w s t.LeftParen h = absurd (cc)
named_end room w s t.Colon h = absurd (cc)
named_end room w s x h = refl

pub named_name : (room : Option Rules) (w : List ℕ) (s : Place) → ends_primary (terminal s) ≡ true → named room w s ≡ Ok (name_expr w, s)
unfolding named
named_name room w s h = named_end room w s (terminal s) h

pub named_call : (room : Option Rules) (w : List ℕ) (s r : Place) (xs : List Expr) → terminal s ≡ t.LeftParen → arguments room s ≡ Ok (xs, r) → named room w s ≡ Ok (call_expr w (exprs xs), r)
unfolding named
named_call room w s r xs h e = rw (h, e) refl

pub named_declare : (room : Option Rules) (w : List ℕ) (s s1 r : Place) (rs : List Ref) → Tok t.Colon s s1 → references room s1 ≡ Ok (rs, r) → named room w s ≡ Ok (declare_expr w (refs rs), r)
unfolding named
named_declare room w s s1 r rs h e = rw (h.kind, h.rest, e) refl

begins_name : (room : Option Rules) (other : Parser ExprForm) (w : List ℕ) (s s1 r : Place) (form : ExprForm) → IsName s w s1 → terminal s1 ≢ t.Less → named room w s1 ≡ Ok (form, r) → begins room other s ≡ Ok (form, r)
begins_name room other w s s1 r form is no_angle e = rw (is.spelled, is.rest, unseen t.Less s1 no_angle) e

any_name : (room : Option Rules) (w : List ℕ) (s s1 r : Place) (form : ExprForm) → IsName s w s1 → named room w s1 ≡ Ok (form, r) → (name >>= named room) s ≡ Ok (form, r)
any_name room w s s1 r form is e = rw (text_read is_name s s1 w is) e

primary_name : (room : Option Rules) (w : List ℕ) (s s1 r : Place) (form : ExprForm) (x : Terminal) → is_name x ≡ true → (begins_literal x ≡ true → terminal s1 ≢ t.Less)
    → IsName s w s1 → named room w s1 ≡ Ok (form, r) → primary_by room x s ≡ Ok (form, r)
primary_name room w s s1 r form t.AttrName h no_angle is e = begins_name room _ w s s1 r form is (no_angle refl) e
primary_name room w s s1 r form t.TypeName h no_angle is e = begins_name room _ w s s1 r form is (no_angle refl) e
primary_name room w s s1 r form t.OpName h no_angle is e = begins_name room _ w s s1 r form is (no_angle refl) e
primary_name room w s s1 r form x h no_angle is e = any_name room w s s1 r form is e

-- a name and what stands behind it
pub primary_named : (room : Option Rules) (w : List ℕ) (s s1 r : Place) (form : ExprForm) → IsName s w s1 → (begins_literal (terminal s) ≡ true → terminal s1 ≢ t.Less) → named room w s1 ≡ Ok (form, r)
    → primary room s ≡ Ok (form, r)
unfolding primary
primary_named room w s s1 r form is no_angle e = primary_name room w s s1 r form (terminal s) is.kind no_angle is e

begins_other : (room : Option Rules) (other : Parser ExprForm) (s s1 r : Place) (form : ExprForm) → next s ≡ s1 → terminal s1 ≡ t.Less → other s1 ≡ Ok (form, r) → begins room other s ≡ Ok (form, r)
begins_other room other s s1 r form h k e = rw (h, seen t.Less s1 k) e

pub primary_attr : (room : Option Rules) (s s1 r : Place) (l : Literal) → Tok t.AttrName s s1 → terminal s1 ≡ t.Less → literal_in_angles room s1 ≡ Ok (l, r) → primary room s ≡ Ok (attr_expr l, r)
unfolding primary
primary_attr room s s1 r l h k e = rw h.kind (begins_other room _ s s1 r (attr_expr l) h.rest k (rw e refl))

pub primary_type : (room : Option Rules) (s s1 r : Place) (l : Literal) → Tok t.TypeName s s1 → terminal s1 ≡ t.Less → literal_in_angles room s1 ≡ Ok (l, r) → primary room s ≡ Ok (type_expr l, r)
unfolding primary
primary_type room s s1 r l h k e = rw h.kind (begins_other room _ s s1 r (type_expr l) h.rest k (rw e refl))

pub primary_op : (room : Option Rules) (s s1 r : Place) (o : OpExpr) → Tok t.OpName s s1 → terminal s1 ≡ t.Less → an_operation room s1 ≡ Ok (o, r) → primary room s ≡ Ok (op_expr o, r)
unfolding primary
primary_op room s s1 r o h k e = rw h.kind (begins_other room _ s s1 r (op_expr o) h.rest k (rw e refl))

-- ---- members

-- The expression from a place on is read up to another one, and what is left are its members.
pub record Chain (d : ℕ) (s : Place) (x : Expr) (r : Place) : Type 0 where
  pub turns : ℕ
  pub enough : left r ≤ turns
  pub reads : expression (room_of d) s ≡ members (start s) turns x r
  pub begins : is_name (terminal s) ≡ true
  pub moves : left r < left s

base_reads : (room : Option Rules) (s r : Place) (form : ExprForm) → primary room s ≡ Ok (form, r) → expression room s ≡ members (start s) (left r) (expr (start s) form) r
unfolding expression
base_reads room s r form e = rw e refl

pub chain_of : (d : ℕ) (s r : Place) (at : ℕ) (form : ExprForm) → at ≡ start s → is_name (terminal s) ≡ true → primary (room_of d) s ≡ Ok (form, r) → left r < left s → Chain d s (expr at form) r
chain_of d s r at form place name e moves =
    subst (λ n. Chain d s (expr n form) r) (sym place) (record { turns = left r; enough = omega arith; reads = base_reads (room_of d) s r form e; begins = name; moves = moves })

member_reads : (room : Option Rules) (at n : ℕ) (x : Expr) (s1 s2 r : Place) (digits : List ℕ) → Tok t.Dot s1 s2 → text_of t.Integer s2 ≡ Ok (digits, r)
    → members at (suc n) x s1 ≡ members at n (expr at (member_expr x (index_of digits))) r
unfolding members
member_reads room at n x s1 s2 r digits dot e = rw (seen t.Dot s1 dot.kind, after_it t.Dot s1 s2 dot, e) refl

by_turns : (d n : ℕ) (s s1 s2 r : Place) (x : Expr) (digits : List ℕ) → left s1 ≤ n → expression (room_of d) s ≡ members (start s) n x s1 → is_name (terminal s) ≡ true → left s1 < left s
    → Tok t.Dot s1 s2 → IsText (λ y. same y t.Integer) s2 digits r → Chain d s (expr (start s) (member_expr x (index_of digits))) r
by_turns d zero s s1 s2 r x digits enough reads name moves dot is = absurd (let up = tok_moves t.Dot s1 s2 (λ e. cc) (λ e. cc) dot in omega arith)
by_turns d (suc n) s s1 s2 r x digits enough reads name moves dot is =
    let first = tok_moves t.Dot s1 s2 (λ e. cc) (λ e. cc) dot in
    let second = text_of_moves t.Integer s2 r digits (λ e. cc) (λ e. cc) is in
    record {
      turns = n;
      enough = omega arith;
      reads = reads ∙ member_reads (room_of d) (start s) n x s1 s2 r digits dot (text_read (λ y. same y t.Integer) s2 r digits is);
      begins = name;
      moves = omega arith;
    }

pub chain_on : (d : ℕ) (s s1 s2 r : Place) (at : ℕ) (x : Expr) (k : ℕ) → at ≡ start s → Chain d s x s1 → Tok t.Dot s1 s2 → IsIndex s2 k r → Chain d s (expr at (member_expr x k)) r
chain_on d s s1 s2 r at x k place c dot (digits, is, value) =
    subst (λ n. Chain d s (expr n (member_expr x k)) r) (sym place)
    (subst (λ m. Chain d s (expr (start s) (member_expr x m)) r) value (by_turns d c.turns s s1 s2 r x digits c.enough c.reads c.begins c.moves dot is))

members_end : (room : Option Rules) (at n : ℕ) (x : Expr) (r : Place) → terminal r ≢ t.Dot → members at n x r ≡ Ok (x, r)
unfolding members
members_end room at zero x r h = rw (unseen t.Dot r h) refl
members_end room at (suc n) x r h = rw (unseen t.Dot r h, after_none t.Dot r h) refl

pub chain_end : (d : ℕ) (s r : Place) (x : Expr) → Chain d s x r → terminal r ≢ t.Dot → Takes (expression (room_of d)) s x r
chain_end d s r x c h = record { reads = c.reads ∙ members_end (room_of d) (start s) c.turns x r h; moves = c.moves }
