-- Expressions and refs that are read are spelled so.
use Rattle.std.proofs.Common.{◌≡◌, ℕ, zero, suc, true, false, cond, List, [], ◌∷◌, Option, Some, None, refl, ap, sym, subst, ◌∙◌, inl, inr, Ok}
use Rattle.pdll_syntax.specs.ExprTree.{Expr, expr, ExprForm, member_expr, Entry, Ref, RefForm, exprs, entries, refs, maybe_expr, maybe_exprs}
use Rattle.pdll_parser.specs.declared.terminal.Terminal.{Terminal}
use Rattle.pdll_parser.specs.declared.terminal.Terminal.TheVariants as t
use Rattle.pdll_parser.specs.Terminals.{begins_literal, is_name}
use Rattle.pdll_parser.specs.Place.{Place, left, terminal, spelling, start, next, same, sees, after}
use Rattle.pdll_parser.specs.Input.{Parser, name, list, items}
use Rattle.pdll_parser.specs.Expressions.{Rules, index_of, text_of, literal, dotted_name, entry_name, maybe_value, an_entry, members, arguments, of, maybe_of, operation_name, maybe_operation_name, reference_by, reference_form, reference, references, literal_in_angles, maybe_arguments, attributes, maybe_attributes, maybe_types, an_operation, named_by, named, primary_by, primary, expression, rules, room_of}
use Rattle.pdll_parser.specs.Tokens.{IsLiteral, IsDottedName, AreMore, AreListed, AreSome, InBrackets}
use Rattle.pdll_parser.specs.Grammar.{IsUse, IsMaybeOperationName, IsExpr, IsExprForm, IsOperation, AreMaybeOperands, AreMaybeTypes, AreMaybeEntries, AreMoreEntries, IsEntry, IsMaybeValue, IsExprs, AreMoreExprs, IsRefs, AreMoreRefs, IsRef, IsRefForm, IsMaybeOf}
use Rattle.pdll_parser.proofs.SoundSteps.{Sound, bind_ok, given, taken, refused, sees_not, eaten, left_alone, text_sound, IsRoom, bracket_sound, items_sound, list_sound, IsMaybe, Behind, maybe_seen, maybe_eaten, token_is}
use Rattle.pdll_parser.proofs.SoundLeaves.{text_is, literal_sound, dotted_name_sound, entry_name_sound}

-- the lists of a tree

more_exprs : (d : ℕ) (s r : Place) (xs : List Expr) → AreMore (IsExpr d) s xs r → AreMoreExprs d s (exprs xs) r
more_exprs d s r [] h = h
more_exprs d s r (x ∷ xs) (s1, s2, comma, is, more) = (s1, s2, comma, is, more_exprs d s2 r xs more)

pub listed_exprs : (d : ℕ) (s r : Place) (xs : List Expr) → AreListed (IsExpr d) s xs r → IsExprs d s (exprs xs) r
listed_exprs d s r [] h = h
listed_exprs d s r (x ∷ xs) (s1, is, more) = (s1, is, more_exprs d s1 r xs more)

more_entries : (d : ℕ) (s r : Place) (xs : List Entry) → AreMore (IsEntry d) s xs r → AreMoreEntries d s (entries xs) r
more_entries d s r [] h = h
more_entries d s r (x ∷ xs) (s1, s2, comma, is, more) = (s1, s2, comma, is, more_entries d s2 r xs more)

more_refs : (d : ℕ) (s r : Place) (xs : List Ref) → AreMore (IsRef d) s xs r → AreMoreRefs d s (refs xs) r
more_refs d s r [] h = h
more_refs d s r (x ∷ xs) (s1, s2, comma, is, more) = (s1, s2, comma, is, more_refs d s2 r xs more)

-- entries within braces
abbrev AreEntries : ℕ → Place → List Entry → Place → Type 0
AreEntries d s xs r = AreListed (IsEntry d) s xs r

entries_in : (d : ℕ) (s r : Place) (xs : List Entry) → InBrackets t.LeftBrace t.RightBrace (λ e u v. AreEntries e u xs v) d s r → AreMaybeEntries d s (entries xs) r
entries_in d s r [] h = inr h
entries_in zero s r (x ∷ xs) h = absurd h
entries_in (suc d) s r (x ∷ xs) (s1, s2, opens, (u1, is, more), closes) = (s1, s2, opens, (u1, is, more_entries d u1 s2 xs more), closes)

refs_in : (d : ℕ) (s r : Place) (xs : List Ref) → InBrackets t.LeftBracket t.RightBracket (λ e u v. AreSome (IsRef e) u xs v) d s r → IsRefs d s (refs xs) r
refs_in zero s r xs h = absurd h
refs_in (suc d) s r [] (s1, s2, opens, none, closes) = absurd none
refs_in (suc d) s r (x ∷ xs) (s1, s2, opens, (u1, is, more), closes) = inr (s1, s2, opens, (u1, is, more_refs d u1 s2 xs more), closes)

-- `= value`, where it is written

value_is : (d : ℕ) (s r : Place) (o : Option Expr) → IsMaybe (Behind t.Equal (IsExpr d)) s o r → IsMaybeValue d s (maybe_expr o) r
value_is d s r None h = h
value_is d s r (Some x) h = h

pub maybe_value_sound : (d : ℕ) (p : Parser Expr) → Sound p (IsExpr d) → (s r : Place) (o : Option Expr) → maybe_value p s ≡ Ok (o, r) → IsMaybeValue d s (maybe_expr o) r
unfolding maybe_value
maybe_value_sound d p sound s r o e = value_is d s r o (maybe_eaten (IsExpr d) t.Equal p sound s r o e)

entry_sound : (d : ℕ) (p : Parser Expr) → Sound p (IsExpr d) → Sound (an_entry p) (IsEntry d)
unfolding an_entry
entry_sound d p sound s r x e =
    let (text, s1, e1, e2) = bind_ok (entry_name s) _ x r e in
    let (value, s2, e3, e4) = bind_ok (maybe_value p s1) _ x r e2 in
    given (IsEntry d s) e4 (s1, refl, entry_name_sound s s1 text e1, maybe_value_sound d p sound s1 s2 value e3)

-- `.` and numbers

members_sound : (d : ℕ) (s : Place) (n : ℕ) (x y : Expr) (u r : Place) → IsExpr d s x u → members (start s) n x u ≡ Ok (y, r) → IsExpr d s y r
unfolding members
members_sound d s zero x y u r is e = elim (taken (sees t.Dot u) _ _ u r y e) [ inl h ↦ absurd (refused u r y h.1) | inr h ↦ given (IsExpr d s) h.1 is ]
members_sound d s (suc n) x y u r is e = elim (taken (sees t.Dot u) _ _ (after t.Dot u) r y e) [
  | inl h ↦
      let (digits, v, e1, e2) = bind_ok (text_of t.Integer (after t.Dot u)) _ y r h.1 in
      members_sound d s n (expr (start s) (member_expr x (index_of digits))) y v r
      (refl, (u, after t.Dot u, is, eaten t.Dot u h.0, (digits, text_sound (λ z. same z t.Integer) (after t.Dot u) v digits e1, refl))) e2
  | inr h ↦ given (IsExpr d s) h.1 (subst (IsExpr d s x) (left_alone t.Dot u h.0) is)
]

-- what the rules of a level read, where so many brackets may be open
pub record SoundRules (d : ℕ) (level : Rules) : Type 0 where
  pub expression : Sound (level.expression) (IsExpr d)
  pub reference : Sound (level.reference) (IsRef d)
  pub references : Sound (level.references) (λ s xs r. IsRefs d s (refs xs) r)

module _ (d : ℕ) (room : Option Rules) (good : IsRoom SoundRules d room) where
  pub arguments_sound : Sound (arguments room) (λ s xs r. InBrackets t.LeftParen t.RightParen (λ e u v. IsExprs e u (exprs xs) v) d s r)
  unfolding arguments
  arguments_sound = bracket_sound SoundRules (λ e u xs v. IsExprs e u (exprs xs) v) t.LeftParen t.RightParen (λ r. list t.RightParen r.expression)
      (λ e level ok s r xs h. listed_exprs e s r xs (list_sound (IsExpr e) t.RightParen level.expression ok.expression s r xs h)) d room good

  of_sound : Sound (of room) (λ s x r. InBrackets t.Less t.Greater (λ e u v. IsExpr e u x v) d s r)
  unfolding of
  of_sound = bracket_sound SoundRules IsExpr t.Less t.Greater (λ r. r.expression) (λ e level ok. ok.expression) d room good

  of_is : (s r : Place) (o : Option Expr) → IsMaybe (λ s x r. InBrackets t.Less t.Greater (λ e u v. IsExpr e u x v) d s r) s o r → IsMaybeOf d s (maybe_expr o) r
  of_is s r None h = h
  of_is s r (Some x) h = h

  maybe_of_sound : Sound (maybe_of room) (λ s o r. IsMaybeOf d s (maybe_expr o) r)
  unfolding maybe_of
  maybe_of_sound s r o e = of_is s r o (maybe_seen (λ s x r. InBrackets t.Less t.Greater (λ e u v. IsExpr e u x v) d s r) t.Less (of room) of_sound s r o e)

  operation_name_sound : Sound (operation_name room) (λ s x r. InBrackets t.Less t.Greater (λ e u v. IsDottedName u x v) d s r)
  unfolding operation_name
  operation_name_sound = bracket_sound SoundRules (λ e. IsDottedName) t.Less t.Greater (λ r. dotted_name) (λ e level ok. dotted_name_sound) d room good

  name_is : (s r : Place) (o : Option (List ℕ)) → IsMaybe (λ s x r. InBrackets t.Less t.Greater (λ e u v. IsDottedName u x v) d s r) s o r → IsMaybeOperationName d s o r
  name_is s r None h = h
  name_is s r (Some x) h = h

  maybe_operation_name_sound : Sound (maybe_operation_name room) (IsMaybeOperationName d)
  unfolding maybe_operation_name
  maybe_operation_name_sound s r o e = name_is s r o (maybe_seen (λ s x r. InBrackets t.Less t.Greater (λ e u v. IsDottedName u x v) d s r) t.Less (operation_name room) operation_name_sound s r o e)

  -- refs

  reference_go : (x : Terminal) (s r : Place) (form : RefForm) → terminal s ≡ x → reference_by room x s ≡ Ok (form, r) → IsRefForm d s form r
  reference_go t.Attr s r form h e =
      let (o, u, e1, e2) = bind_ok (maybe_of room (next s)) _ form r e in
      given (IsRefForm d s) e2 (next s, token_is t.Attr s h, maybe_of_sound (next s) u o e1)
  reference_go t.Op s r form h e =
      let (o, u, e1, e2) = bind_ok (maybe_operation_name room (next s)) _ form r e in
      given (IsRefForm d s) e2 (next s, token_is t.Op s h, maybe_operation_name_sound (next s) u o e1)
  reference_go t.Type s r form h e = given (IsRefForm d s) e (token_is t.Type s h)
  reference_go t.TypeRange s r form h e = given (IsRefForm d s) e (token_is t.TypeRange s h)
  reference_go t.Value s r form h e =
      let (o, u, e1, e2) = bind_ok (maybe_of room (next s)) _ form r e in
      given (IsRefForm d s) e2 (next s, token_is t.Value s h, maybe_of_sound (next s) u o e1)
  reference_go t.ValueRange s r form h e =
      let (o, u, e1, e2) = bind_ok (maybe_of room (next s)) _ form r e in
      given (IsRefForm d s) e2 (next s, token_is t.ValueRange s h, maybe_of_sound (next s) u o e1)
  reference_go x s r form h e =
      let (text, u, e1, e2) = bind_ok (name s) _ form r e in
      given (IsRefForm d s) e2 (text_sound is_name s u text e1)

  pub reference_sound : Sound (reference room) (IsRef d)
  unfolding reference reference_form
  reference_sound s r x e =
      let (form, u, e1, e2) = bind_ok (reference_form room s) _ x r e in
      given (IsRef d s) e2 (refl, reference_go (terminal s) s u form refl e1)

  pub references_sound : Sound (references room) (λ s xs r. IsRefs d s (refs xs) r)
  unfolding references
  references_sound s r xs e = elim (taken (sees t.LeftBracket s) _ _ s r xs e) [
    | inl h ↦
        refs_in d s r xs (bracket_sound SoundRules (λ e u ys v. AreSome (IsRef e) u ys v) t.LeftBracket t.RightBracket (λ r. items r.reference)
        (λ e level ok. items_sound (IsRef e) level.reference ok.reference) d room good s r xs h.1)
    | inr h ↦
        let (x, u, e1, e2) = bind_ok (reference room s) _ xs r h.1 in
        given (λ ys v. IsRefs d s (refs ys) v) e2 (inl (reference_sound s u x e1, refl))
  ]

  -- operations

  literal_in_angles_sound : Sound (literal_in_angles room) (λ s x r. InBrackets t.Less t.Greater (λ e u v. IsLiteral u x v) d s r)
  unfolding literal_in_angles
  literal_in_angles_sound = bracket_sound SoundRules (λ e. IsLiteral) t.Less t.Greater (λ r. literal) (λ e level ok. literal_sound) d room good

  abbrev AreArguments : Place → List Expr → Place → Type 0
  AreArguments s xs r = InBrackets t.LeftParen t.RightParen (λ e u v. IsExprs e u (exprs xs) v) d s r

  operands_are : (s r : Place) (o : Option (List Expr)) → IsMaybe AreArguments s o r → AreMaybeOperands d s (maybe_exprs o) r
  operands_are s r None h = h
  operands_are s r (Some xs) h = h

  maybe_arguments_sound : Sound (maybe_arguments room) (λ s o r. AreMaybeOperands d s (maybe_exprs o) r)
  unfolding maybe_arguments
  maybe_arguments_sound s r o e = operands_are s r o (maybe_seen AreArguments t.LeftParen (arguments room) arguments_sound s r o e)

  types_are : (s r : Place) (o : Option (List Expr)) → IsMaybe (Behind t.Arrow AreArguments) s o r → AreMaybeTypes d s (maybe_exprs o) r
  types_are s r None h = h
  types_are s r (Some xs) h = h

  maybe_types_sound : Sound (maybe_types room) (λ s o r. AreMaybeTypes d s (maybe_exprs o) r)
  unfolding maybe_types
  maybe_types_sound s r o e = types_are s r o (maybe_eaten AreArguments t.Arrow (arguments room) arguments_sound s r o e)

  attributes_sound : Sound (attributes room) (λ s xs r. AreMaybeEntries d s (entries xs) r)
  unfolding attributes
  attributes_sound s r xs e = entries_in d s r xs (bracket_sound SoundRules AreEntries t.LeftBrace t.RightBrace (λ r. list t.RightBrace (an_entry r.expression))
      (λ e level ok. list_sound (IsEntry e) t.RightBrace (an_entry level.expression) (entry_sound e level.expression ok.expression)) d room good s r xs e)

  maybe_attributes_sound : Sound (maybe_attributes room) (λ s xs r. AreMaybeEntries d s (entries xs) r)
  unfolding maybe_attributes
  maybe_attributes_sound s r xs e = elim (taken (sees t.LeftBrace s) _ _ s r xs e) [ inl h ↦ attributes_sound s r xs h.1 | inr h ↦ given (λ ys v. AreMaybeEntries d s (entries ys) v) h.1 (inl refl) ]

  operation_sound : Sound (an_operation room) (IsOperation d)
  unfolding an_operation
  operation_sound s r x e =
      let (text, s1, e1, f1) = bind_ok (operation_name room s) _ x r e in
      let (operands, s2, e2, f2) = bind_ok (maybe_arguments room s1) _ x r f1 in
      let (found, s3, e3, f3) = bind_ok (maybe_attributes room s2) _ x r f2 in
      let (types, s4, e4, f4) = bind_ok (maybe_types room s3) _ x r f3 in
      given (IsOperation d s) f4
      (s1, s2, s3, operation_name_sound s s1 text e1, maybe_arguments_sound s1 s2 operands e2, maybe_attributes_sound s2 s3 found e3, maybe_types_sound s3 s4 types e4)

  -- expressions

  named_go : (x : Terminal) (s s1 r : Place) (text : List ℕ) (form : ExprForm) → IsUse s text s1 → terminal s1 ≡ x → named_by room text x s1 ≡ Ok (form, r) → IsExprForm d s form r
  named_go t.LeftParen s s1 r text form use_it h e =
      let (xs, u, e1, e2) = bind_ok (arguments room s1) _ form r e in
      given (IsExprForm d s) e2 (s1, use_it.is_name, arguments_sound s1 u xs e1)
  named_go t.Colon s s1 r text form use_it h e =
      let (xs, u, e1, e2) = bind_ok (references room (next s1)) _ form r e in
      given (IsExprForm d s) e2 (s1, next s1, use_it.is_name, token_is t.Colon s1 h, references_sound (next s1) u xs e1)
  named_go x s s1 r text form use_it h e = given (IsExprForm d s) e use_it

  named_sound : (s s1 r : Place) (text : List ℕ) (form : ExprForm) → IsUse s text s1 → named room text s1 ≡ Ok (form, r) → IsExprForm d s form r
  unfolding named
  named_sound s s1 r text form use_it e = named_go (terminal s1) s s1 r text form use_it refl e

  -- a word that is a name, or begins something else
  begins_sound : (x : Terminal) (other : Parser ExprForm) → is_name x ≡ true → (s r : Place) (form : ExprForm) → terminal s ≡ x
      → ((r : Place) (form : ExprForm) → other (next s) ≡ Ok (form, r) → IsExprForm d s form r)
      → cond (sees t.Less (next s)) other (named room (spelling s)) (next s) ≡ Ok (form, r) → IsExprForm d s form r
  begins_sound x other name_it s r form h sound e = elim (taken (sees t.Less (next s)) _ _ (next s) r form e) [
    | inl h ↦ sound r form h.1
    | inr k ↦
        named_sound s (next s) r (spelling s) form (record { is_name = text_is is_name s (ap is_name h ∙ name_it); no_angle = λ begins. sees_not t.Less (next s) k.0 }) k.1
  ]

  attr_sound : (s r : Place) (form : ExprForm) → terminal s ≡ t.AttrName → primary_by room t.AttrName s ≡ Ok (form, r) → IsExprForm d s form r
  attr_sound s r form h e = begins_sound t.AttrName _ refl s r form h
      (λ r form e.
      let (x, u, e1, e2) = bind_ok (literal_in_angles room (next s)) _ form r e in
      given (IsExprForm d s) e2 (next s, token_is t.AttrName s h, literal_in_angles_sound (next s) u x e1)) e

  type_sound : (s r : Place) (form : ExprForm) → terminal s ≡ t.TypeName → primary_by room t.TypeName s ≡ Ok (form, r) → IsExprForm d s form r
  type_sound s r form h e = begins_sound t.TypeName _ refl s r form h
      (λ r form e.
      let (x, u, e1, e2) = bind_ok (literal_in_angles room (next s)) _ form r e in
      given (IsExprForm d s) e2 (next s, token_is t.TypeName s h, literal_in_angles_sound (next s) u x e1)) e

  op_sound : (s r : Place) (form : ExprForm) → terminal s ≡ t.OpName → primary_by room t.OpName s ≡ Ok (form, r) → IsExprForm d s form r
  op_sound s r form h e = begins_sound t.OpName _ refl s r form h
      (λ r form e.
      let (x, u, e1, e2) = bind_ok (an_operation room (next s)) _ form r e in
      given (IsExprForm d s) e2 (next s, token_is t.OpName s h, operation_sound (next s) u x e1)) e

  -- a word that begins nothing else
  plain_sound : (x : Terminal) (s r : Place) (form : ExprForm) → terminal s ≡ x → begins_literal x ≡ false → (text : List ℕ) (u : Place) → name s ≡ Ok (text, u) → named room text u ≡ Ok (form, r) → IsExprForm d s form r
  plain_sound x s r form h none text u e1 e2 =
      named_sound s u r text form (record { is_name = text_sound is_name s u text e1; no_angle = λ begins. absurd (false_not (sym (ap begins_literal h ∙ none) ∙ begins)) }) e2
    where
      false_not : false ≡ true → ⊥
      false_not e = cc

  primary_go : (x : Terminal) (s r : Place) (form : ExprForm) → terminal s ≡ x → primary_by room x s ≡ Ok (form, r) → IsExprForm d s form r
  primary_go t.AttrName s r form h e = attr_sound s r form h e
  primary_go t.TypeName s r form h e = type_sound s r form h e
  primary_go t.OpName s r form h e = op_sound s r form h e
  primary_go x s r form h e =
      let (text, u, e1, e2) = bind_ok (name s) _ form r e in
      plain_sound x s r form h refl text u e1 e2

  primary_sound : Sound (primary room) (IsExprForm d)
  unfolding primary
  primary_sound s r form e = primary_go (terminal s) s r form refl e

  pub expression_sound : Sound (expression room) (IsExpr d)
  unfolding expression
  expression_sound s r x e =
      let (form, u, e1, e2) = bind_ok (primary room s) _ x r e in
      members_sound d s (left u) (expr (start s) form) x u r (refl, primary_sound s u form e1) e2

-- what is read is spelled so, where so many brackets may be open
pub rules_sound : (d : ℕ) → SoundRules d (rules d)
rules_sound zero = record { expression = expression_sound zero None tt; reference = reference_sound zero None tt; references = references_sound zero None tt }
rules_sound (suc d) =
    record { expression = expression_sound (suc d) (Some (rules d)) (rules_sound d); reference = reference_sound (suc d) (Some (rules d)) (rules_sound d); references = references_sound (suc d) (Some (rules d)) (rules_sound d) }

pub room_sound : (d : ℕ) → IsRoom SoundRules d (room_of d)
room_sound zero = tt
room_sound (suc d) = rules_sound d
