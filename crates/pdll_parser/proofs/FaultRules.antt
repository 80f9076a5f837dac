-- Each fault of a pattern file is of a kind that says why a file isn't spelled, and its place is within the text.
use Rattle.std.proofs.Common.{◌≡◌, ℕ, zero, suc, Bool, true, false, cond, List, [], ◌∷◌, ◌++◌, length, refl, subst, arith, Result, Ok, Err, Option, Some, None}
use Rattle.std.specs.Prelude.{nat_le, ◌==◌}
use Rattle.std.specs.Str.Lossy.{utf8_valid_len}
use Rattle.std.proofs.lemmas.Str.{utf8_valid_len_le}
use Rattle.mlir_tree.specs.declared.refusal.Refusal.{Refusal}
use Rattle.mlir_tree.specs.declared.refusal.Refusal.TheVariants as refusal
use Rattle.pdll_syntax.specs.declared.fault.PatFault.{PatFault}
use Rattle.pdll_syntax.specs.declared.fault.PatKind.TheVariants.{NotUtf8, TooMany, BenefitRange}
use Rattle.pdll_syntax.specs.declared.file.PatFile.{PatFile}
use Rattle.pdll_syntax.specs.declared.file.Decl.{Decl}
use Rattle.pdll_syntax.specs.ExprTree.{Expr, Ref}
use Rattle.pdll_syntax.specs.StmtTree.{Stmt}
use Rattle.pdll_parser.specs.declared.terminal.Terminal.{Terminal}
use Rattle.pdll_parser.specs.declared.terminal.Terminal.TheVariants as t
use Rattle.pdll_parser.specs.Terminals.{is_name, is_word, is_kind}
use Rattle.pdll_parser.specs.Place.{Place, at_place, terminal, start, next, left, sees, after}
use Rattle.pdll_parser.specs.Input.{Outcome, Parser, Gives, name, word, items, list, all_up_to, expect, deeper}
use Rattle.pdll_parser.specs.Expressions
use Rattle.pdll_parser.specs.Expressions.{Rules, rules, rules_in, room_of, number, text_of}
use Rattle.pdll_parser.specs.Statements
use Rattle.pdll_parser.specs.Files
use Rattle.pdll_parser.proofs.FaultSteps.{IsIn, IsSpellingFault, Judged, Good, GoodRoom, start_within, next_in, refused, failed, after_in, expected, text_judged, both, either, items_judged, list_judged, all_judged, bracket_judged, deeper_judged}

-- rules whose faults are such ones
pub record AreGood (bytes : List ℕ) (r : Rules) : Type 0 where
  pub expression : Good bytes r.expression
  pub reference : Good bytes r.reference
  pub references : Good bytes r.references

module _ (bytes : List ℕ) where
  literal : Good bytes Expressions.literal
  unfolding Expressions.literal
  literal s h = both bytes (text_of t.String s) _ (text_judged bytes _ s h) (λ x u k. k)

  dotted : (n : ℕ) (found : List ℕ) (s : Place) → IsIn bytes s → Judged bytes (Expressions.dotted n found s)
  unfolding Expressions.dotted
  dotted zero found s h = refused bytes _ s h
  dotted (suc n) found s h =
      both bytes (word s) _ (text_judged bytes is_word s h) (λ w u k. either bytes (sees t.Dot u) _ _ (after t.Dot u) (dotted n (found ++ (w ++ 46 ∷ [])) (after t.Dot u) (after_in bytes t.Dot u k)) (after_in bytes t.Dot u k))

  dotted_name : Good bytes Expressions.dotted_name
  unfolding Expressions.dotted_name
  dotted_name s h = dotted (left s) [] s h

  entry_name_by : (x : Terminal) → Good bytes (Expressions.entry_name_by x)
  entry_name_by t.String s h = next_in bytes s h
  entry_name_by x s h = text_judged bytes is_word s h

  entry_name : Good bytes Expressions.entry_name
  unfolding Expressions.entry_name
  entry_name s h = entry_name_by (terminal s) s h

  maybe_value : (p : Parser Expr) → Good bytes p → Good bytes (Expressions.maybe_value p)
  unfolding Expressions.maybe_value
  maybe_value p one s h =
      either bytes (sees t.Equal s) _ _ (after t.Equal s) (both bytes (p (after t.Equal s)) _ (one (after t.Equal s) (after_in bytes t.Equal s h)) (λ x u k. k)) (after_in bytes t.Equal s h)

  an_entry : (p : Parser Expr) → Good bytes p → Good bytes (Expressions.an_entry p)
  unfolding Expressions.an_entry
  an_entry p one s h = both bytes (Expressions.entry_name s) _ (entry_name s h) (λ n u k. both bytes (Expressions.maybe_value p u) _ (maybe_value p one u k) (λ v w j. j))

  members : (at n : ℕ) (x : Expr) (s : Place) → IsIn bytes s → Judged bytes (Expressions.members at n x s)
  unfolding Expressions.members
  members at zero x s h = either bytes (sees t.Dot s) _ _ s (refused bytes _ s h) h
  members at (suc n) x s h =
      either bytes (sees t.Dot s) _ _ (after t.Dot s)
      (both bytes (text_of t.Integer (after t.Dot s)) _ (text_judged bytes _ (after t.Dot s) (after_in bytes t.Dot s h)) (λ digits u k. members at n _ u k))
      (after_in bytes t.Dot s h)

  module _ (room : Option Rules) (ok : GoodRoom bytes (AreGood bytes) room) where
    arguments : Good bytes (Expressions.arguments room)
    unfolding Expressions.arguments
    arguments = bracket_judged bytes (AreGood bytes) room t.LeftParen t.RightParen (λ r. list t.RightParen r.expression) ok (λ r good. list_judged bytes t.RightParen r.expression good.expression)

    of : Good bytes (Expressions.of room)
    unfolding Expressions.of
    of = bracket_judged bytes (AreGood bytes) room t.Less t.Greater (λ r. r.expression) ok (λ r good. good.expression)

    maybe_of : Good bytes (Expressions.maybe_of room)
    unfolding Expressions.maybe_of
    maybe_of s h = either bytes (sees t.Less s) _ _ s (both bytes (Expressions.of room s) _ (of s h) (λ x u k. k)) h

    operation_name : Good bytes (Expressions.operation_name room)
    unfolding Expressions.operation_name
    operation_name = bracket_judged bytes (AreGood bytes) room t.Less t.Greater (λ r. Expressions.dotted_name) ok (λ r good. dotted_name)

    maybe_operation_name : Good bytes (Expressions.maybe_operation_name room)
    unfolding Expressions.maybe_operation_name
    maybe_operation_name s h = either bytes (sees t.Less s) _ _ s (both bytes (Expressions.operation_name room s) _ (operation_name s h) (λ x u k. k)) h

    reference_by : (x : Terminal) → Good bytes (Expressions.reference_by room x)
    reference_by t.Attr s h = both bytes (Expressions.maybe_of room (next s)) _ (maybe_of (next s) (next_in bytes s h)) (λ o u k. k)
    reference_by t.Op s h = both bytes (Expressions.maybe_operation_name room (next s)) _ (maybe_operation_name (next s) (next_in bytes s h)) (λ o u k. k)
    reference_by t.Type s h = next_in bytes s h
    reference_by t.TypeRange s h = next_in bytes s h
    reference_by t.Value s h = both bytes (Expressions.maybe_of room (next s)) _ (maybe_of (next s) (next_in bytes s h)) (λ o u k. k)
    reference_by t.ValueRange s h = both bytes (Expressions.maybe_of room (next s)) _ (maybe_of (next s) (next_in bytes s h)) (λ o u k. k)
    reference_by x s h = both bytes (name s) _ (text_judged bytes is_name s h) (λ o u k. k)

    reference_form : Good bytes (Expressions.reference_form room)
    unfolding Expressions.reference_form
    reference_form s h = reference_by (terminal s) s h

    reference : Good bytes (Expressions.reference room)
    unfolding Expressions.reference
    reference s h = both bytes (Expressions.reference_form room s) _ (reference_form s h) (λ x u k. k)

    references : Good bytes (Expressions.references room)
    unfolding Expressions.references
    references s h =
        either bytes (sees t.LeftBracket s) _ _ s
        (bracket_judged bytes (AreGood bytes) room t.LeftBracket t.RightBracket (λ r. items r.reference) ok (λ r good. items_judged bytes r.reference good.reference) s h)
        (both bytes (Expressions.reference room s) _ (reference s h) (λ x u k. k))

    literal_in_angles : Good bytes (Expressions.literal_in_angles room)
    unfolding Expressions.literal_in_angles
    literal_in_angles = bracket_judged bytes (AreGood bytes) room t.Less t.Greater (λ r. Expressions.literal) ok (λ r good. literal)

    maybe_arguments : Good bytes (Expressions.maybe_arguments room)
    unfolding Expressions.maybe_arguments
    maybe_arguments s h = either bytes (sees t.LeftParen s) _ _ s (both bytes (Expressions.arguments room s) _ (arguments s h) (λ x u k. k)) h

    attributes : Good bytes (Expressions.attributes room)
    unfolding Expressions.attributes
    attributes = bracket_judged bytes (AreGood bytes) room t.LeftBrace t.RightBrace (λ r. list t.RightBrace (Expressions.an_entry r.expression)) ok
        (λ r good. list_judged bytes t.RightBrace (Expressions.an_entry r.expression) (an_entry r.expression good.expression))

    maybe_attributes : Good bytes (Expressions.maybe_attributes room)
    unfolding Expressions.maybe_attributes
    maybe_attributes s h = either bytes (sees t.LeftBrace s) _ _ s (attributes s h) h

    maybe_types : Good bytes (Expressions.maybe_types room)
    unfolding Expressions.maybe_types
    maybe_types s h =
        either bytes (sees t.Arrow s) _ _ (after t.Arrow s) (both bytes (Expressions.arguments room (after t.Arrow s)) _ (arguments (after t.Arrow s) (after_in bytes t.Arrow s h)) (λ x u k. k)) (after_in bytes t.Arrow s h)

    an_operation : Good bytes (Expressions.an_operation room)
    unfolding Expressions.an_operation
    an_operation s h =
        both bytes (Expressions.operation_name room s) _ (operation_name s h)
        (λ n u k. both bytes (Expressions.maybe_arguments room u) _ (maybe_arguments u k)
        (λ xs v j. both bytes (Expressions.maybe_attributes room v) _ (maybe_attributes v j)
        (λ es w i. both bytes (Expressions.maybe_types room w) _ (maybe_types w i) (λ ts z l. l))))

    named_by : (n : List ℕ) (x : Terminal) → Good bytes (Expressions.named_by room n x)
    named_by n t.LeftParen s h = both bytes (Expressions.arguments room s) _ (arguments s h) (λ xs u k. k)
    named_by n t.Colon s h = both bytes (Expressions.references room (next s)) _ (references (next s) (next_in bytes s h)) (λ rs u k. k)
    named_by n x s h = h

    named : (n : List ℕ) → Good bytes (Expressions.named room n)
    unfolding Expressions.named
    named n s h = named_by n (terminal s) s h

    begins : (other : Parser _) → Good bytes other → Good bytes (Expressions.begins room other)
    begins other one s h = either bytes (sees t.Less (next s)) _ _ (next s) (one (next s) (next_in bytes s h)) (named _ (next s) (next_in bytes s h))

    primary_by : (x : Terminal) → Good bytes (Expressions.primary_by room x)
    primary_by t.AttrName s h = begins _ (λ u k. both bytes (Expressions.literal_in_angles room u) _ (literal_in_angles u k) (λ l v j. j)) s h
    primary_by t.TypeName s h = begins _ (λ u k. both bytes (Expressions.literal_in_angles room u) _ (literal_in_angles u k) (λ l v j. j)) s h
    primary_by t.OpName s h = begins _ (λ u k. both bytes (Expressions.an_operation room u) _ (an_operation u k) (λ l v j. j)) s h
    primary_by x s h = both bytes (name s) _ (text_judged bytes is_name s h) (λ n u k. named n u k)

    primary : Good bytes (Expressions.primary room)
    unfolding Expressions.primary
    primary s h = primary_by (terminal s) s h

    expression : Good bytes (Expressions.expression room)
    unfolding Expressions.expression
    expression s h = both bytes (Expressions.primary room s) _ (primary s h) (λ form u k. members (start s) (left u) _ u k)

    good_rules : AreGood bytes (rules_in room)
    good_rules = record { expression = expression; reference = reference; references = references }

  all_rules : (d : ℕ) → AreGood bytes (rules d)
  all_rules zero = good_rules None tt
  all_rules (suc d) = good_rules (Some (rules d)) (all_rules d)

  room_good : (d : ℕ) → GoodRoom bytes (AreGood bytes) (room_of d)
  room_good zero = tt
  room_good (suc d) = all_rules d

  -- ---- statements

  declared_name : Good bytes Statements.declared_name
  unfolding Statements.declared_name
  declared_name s h = both bytes (name s) _ (text_judged bytes is_name s h) (λ n u k. k)

  maybe_references : (room : Option Rules) → GoodRoom bytes (AreGood bytes) room → Good bytes (Statements.maybe_references room)
  unfolding Statements.maybe_references
  maybe_references room ok s h = either bytes (sees t.Colon s) _ _ (after t.Colon s) (references room ok (after t.Colon s) (after_in bytes t.Colon s h)) (after_in bytes t.Colon s h)

  braces : (inside : Option (Parser Stmt)) → GoodRoom bytes (Good bytes) inside → Good bytes (Statements.braces inside)
  unfolding Statements.braces
  braces inside ok s h =
      either bytes (sees t.LeftBrace s) _ _ s
      (both bytes (deeper inside (λ statement. all_up_to t.RightBrace (λ before. statement)) s) _
      (deeper_judged bytes _ (Good bytes) inside (λ statement. all_up_to t.RightBrace (λ before. statement)) ok (λ p one. all_judged bytes t.RightBrace (λ before. p) (λ before. one)) s h)
      (λ found u k. both bytes (expect t.RightBrace u) _ (expected bytes t.RightBrace u k) (λ x v j. j)))
      (refused bytes _ s h)

  module _ (room : Option Rules) (inside : Option (Parser Stmt)) (ok : GoodRoom bytes (AreGood bytes) room) (inner : GoodRoom bytes (Good bytes) inside) where
    value : Good bytes (Expressions.maybe_value (Expressions.expression room))
    value = maybe_value (Expressions.expression room) (expression room ok)

    values_by : (x : Terminal) → Good bytes (Statements.values_by room inside x)
    values_by t.LeftParen s h = both bytes (Expressions.arguments room s) _ (arguments room ok s h) (λ xs u k. k)
    values_by x s h = both bytes (Expressions.expression room s) _ (expression room ok s h) (λ y u k. k)

    new_values : Good bytes (Statements.new_values room inside)
    unfolding Statements.new_values
    new_values s h = values_by (terminal s) s h

    a_let : Good bytes (Statements.a_let room inside)
    unfolding Statements.a_let
    a_let s h =
        both bytes (Statements.declared_name s) _ (declared_name s h)
        (λ n u k. both bytes (Statements.maybe_references room u) _ (maybe_references room ok u k)
        (λ rs v j. both bytes (Expressions.maybe_value (Expressions.expression room) v) _ (value v j) (λ o w i. i)))

    a_replace : Good bytes (Statements.a_replace room inside)
    unfolding Statements.a_replace
    a_replace s h =
        both bytes (Expressions.expression room s) _ (expression room ok s h)
        (λ x u k. both bytes (expect t.With u) _ (expected bytes t.With u k) (λ y v j. both bytes (Statements.new_values room inside v) _ (new_values v j) (λ z w i. i)))

    a_rewrite : Good bytes (Statements.a_rewrite room inside)
    unfolding Statements.a_rewrite
    a_rewrite s h =
        both bytes (Expressions.expression room s) _ (expression room ok s h)
        (λ x u k. both bytes (expect t.With u) _ (expected bytes t.With u k) (λ y v j. both bytes (Statements.braces inside v) _ (braces inside inner v j) (λ z w i. i)))

    statement_by : (x : Terminal) → Good bytes (Statements.statement_by room inside x)
    statement_by t.Let s h = a_let (next s) (next_in bytes s h)
    statement_by t.Erase s h = both bytes (Expressions.expression room (next s)) _ (expression room ok (next s) (next_in bytes s h)) (λ x u k. k)
    statement_by t.Return s h = both bytes (Expressions.expression room (next s)) _ (expression room ok (next s) (next_in bytes s h)) (λ x u k. k)
    statement_by t.Replace s h = a_replace (next s) (next_in bytes s h)
    statement_by t.RewriteWith s h = a_rewrite (next s) (next_in bytes s h)
    statement_by x s h = both bytes (Expressions.expression room s) _ (expression room ok s h) (λ y u k. k)

    statement_form : Good bytes (Statements.statement_form room inside)
    unfolding Statements.statement_form
    statement_form s h = statement_by (terminal s) s h

    a_statement : Good bytes (Statements.a_statement room inside)
    unfolding Statements.a_statement
    a_statement s h = both bytes (Statements.statement_form room inside s) _ (statement_form s h) (λ x u k. both bytes (expect t.Semicolon u) _ (expected bytes t.Semicolon u k) (λ y v j. j))

  statement : (d : ℕ) → Good bytes (Statements.statement d)
  statement zero = a_statement (room_of zero) None tt tt
  statement (suc d) = a_statement (room_of (suc d)) (Some (Statements.statement d)) (room_good (suc d)) (statement d)

  inside_good : (d : ℕ) → GoodRoom bytes (Good bytes) (Statements.inside_of d)
  inside_good zero = tt
  inside_good (suc d) = statement d

  -- ---- declarations

  abbrev whole : GoodRoom bytes (AreGood bytes) Files.room
  whole = room_good Files.max_depth

  benefit_by : (n : ℕ) (b : Bool) (s u : Place) → IsIn bytes s → IsIn bytes u → Judged bytes (cond b (Ok (n, u)) (Err (record { kind = BenefitRange; at = start s })))
  benefit_by n true s u h k = k
  benefit_by n false s u h k = record { kind = refl; within = start_within bytes s h }

  benefit : Good bytes Files.benefit
  unfolding Files.benefit
  benefit s h = both bytes (text_of t.Integer s) _ (text_judged bytes _ s h) (λ digits u k. benefit_by (number digits) (nat_le (number digits) 65534) s u h k)

  benefit_in_parens : Good bytes Files.benefit_in_parens
  unfolding Files.benefit_in_parens
  benefit_in_parens = bracket_judged bytes (AreGood bytes) Files.room t.LeftParen t.RightParen (λ r. Files.benefit) whole (λ r good. benefit)

  meta_by : (x : Terminal) → Good bytes (Files.meta_by x)
  meta_by t.BenefitName s h = both bytes (Files.benefit_in_parens (next s)) _ (benefit_in_parens (next s) (next_in bytes s h)) (λ n u k. k)
  meta_by t.RecursionName s h = next_in bytes s h
  meta_by x s h = refused bytes _ s h

  a_meta : Good bytes Files.a_meta
  unfolding Files.a_meta
  a_meta s h = both bytes (Files.meta_by (terminal s) s) _ (meta_by (terminal s) s h) (λ x u k. k)

  maybe_metas : Good bytes Files.maybe_metas
  unfolding Files.maybe_metas
  maybe_metas s h = either bytes (sees t.With s) _ _ (after t.With s) (items_judged bytes Files.a_meta a_meta (after t.With s) (after_in bytes t.With s h)) (after_in bytes t.With s h)

  maybe_name : Good bytes Files.maybe_name
  unfolding Files.maybe_name
  maybe_name s h = either bytes (is_name (terminal s)) _ _ s (both bytes (Statements.declared_name s) _ (declared_name s h) (λ x u k. k)) h

  in_braces : Good bytes Files.in_braces
  in_braces s h = both bytes (Statements.braces (Statements.inside_of Files.max_depth) s) _ (braces (Statements.inside_of Files.max_depth) (inside_good Files.max_depth) s h) (λ x u k. k)

  pattern_body_by : (x : Terminal) → Good bytes (Files.pattern_body_by x)
  pattern_body_by t.LeftBrace s h = in_braces s h
  pattern_body_by t.FatArrow s h = both bytes (Statements.statement Files.max_depth (next s)) _ (statement Files.max_depth (next s) (next_in bytes s h)) (λ x u k. k)
  pattern_body_by x s h = refused bytes _ s h

  pattern_body : Good bytes Files.pattern_body
  unfolding Files.pattern_body
  pattern_body s h = pattern_body_by (terminal s) s h

  call_body_by : (x : Terminal) → Good bytes (Files.call_body_by x)
  call_body_by t.Semicolon s h = next_in bytes s h
  call_body_by t.LeftBrace s h = in_braces s h
  call_body_by t.FatArrow s h =
      both bytes (Expressions.expression Files.room (next s)) _ (expression Files.room whole (next s) (next_in bytes s h)) (λ x u k. both bytes (expect t.Semicolon u) _ (expected bytes t.Semicolon u k) (λ y v j. j))
  call_body_by x s h = refused bytes _ s h

  call_body : Good bytes Files.call_body
  unfolding Files.call_body
  call_body s h = call_body_by (terminal s) s h

  a_parameter : (p : Parser (List Ref)) → Good bytes p → Good bytes (Files.a_parameter p)
  unfolding Files.a_parameter
  a_parameter p one s h =
      both bytes (Statements.declared_name s) _ (declared_name s h) (λ n u k. both bytes (expect t.Colon u) _ (expected bytes t.Colon u k) (λ y v j. both bytes (p v) _ (one v j) (λ rs w i. i)))

  parameters : Good bytes Files.parameters
  unfolding Files.parameters
  parameters = bracket_judged bytes (AreGood bytes) Files.room t.LeftParen t.RightParen (λ r. list t.RightParen (Files.a_parameter r.references)) whole
      (λ r good. list_judged bytes t.RightParen (Files.a_parameter r.references) (a_parameter r.references good.references))

  a_kind : Good bytes Files.a_kind
  unfolding Files.a_kind
  a_kind s h = either bytes (is_kind (terminal s)) _ _ s (reference Files.room whole s h) (refused bytes _ s h)

  maybe_result : Good bytes Files.maybe_result
  unfolding Files.maybe_result
  maybe_result s h = either bytes (sees t.Arrow s) _ _ (after t.Arrow s) (both bytes (Files.a_kind (after t.Arrow s)) _ (a_kind (after t.Arrow s) (after_in bytes t.Arrow s h)) (λ x u k. k)) (after_in bytes t.Arrow s h)

  a_pattern : Good bytes Files.a_pattern
  unfolding Files.a_pattern
  a_pattern s h =
      both bytes (Files.maybe_name (next s)) _ (maybe_name (next s) (next_in bytes s h))
      (λ n u k. both bytes (Files.maybe_metas u) _ (maybe_metas u k) (λ ms v j. both bytes (Files.pattern_body v) _ (pattern_body v j) (λ b w i. i)))

  a_constraint : Good bytes Files.a_constraint
  unfolding Files.a_constraint
  a_constraint s h =
      both bytes (Statements.declared_name (next s)) _ (declared_name (next s) (next_in bytes s h))
      (λ n u k. both bytes (Files.parameters u) _ (parameters u k) (λ ps v j. both bytes (Files.call_body v) _ (call_body v j) (λ b w i. i)))

  a_rewrite_declaration : Good bytes Files.a_rewrite_declaration
  unfolding Files.a_rewrite_declaration
  a_rewrite_declaration s h =
      both bytes (Statements.declared_name (next s)) _ (declared_name (next s) (next_in bytes s h))
      (λ n u k. both bytes (Files.parameters u) _ (parameters u k) (λ ps v j. both bytes (Files.maybe_result v) _ (maybe_result v j) (λ g w i. both bytes (Files.call_body w) _ (call_body w i) (λ b z l. l))))

  declaration_by : (n : ℕ) (x : Terminal) → Good bytes (Files.declaration_by n x)
  declaration_by n t.Pattern s h =
      either bytes (nat_le Files.max_patterns n) _ _ s (failed bytes Decl TooMany s refl h) (both bytes (Files.a_pattern s) _ (a_pattern s h) (λ p u k. k))
  declaration_by n t.Constraint s h = both bytes (Files.a_constraint s) _ (a_constraint s h) (λ p u k. k)
  declaration_by n t.Rewrite s h = both bytes (Files.a_rewrite_declaration s) _ (a_rewrite_declaration s h) (λ p u k. k)
  declaration_by n x s h = refused bytes _ s h

  declaration : (n : ℕ) → Good bytes (Files.declaration n)
  unfolding Files.declaration
  declaration n s h = declaration_by n (terminal s) s h

  declarations : Good bytes Files.declarations
  unfolding Files.declarations
  declarations = all_judged bytes t.End (λ before. Files.declaration (Files.patterns_in before)) (λ before. declaration (Files.patterns_in before))

-- ---- whole files

abbrev AtFault : List ℕ → Result PatFile PatFault → Type 0
AtFault bytes (Ok file) = Unit {0}
AtFault bytes (Err e) = IsSpellingFault bytes e

file_by : (bytes : List ℕ) (o : Outcome (List Decl)) → Judged bytes o → AtFault bytes (Files.file_of o)
file_by bytes (Ok p) h = tt
file_by bytes (Err e) h = h

file_in : (bytes : List ℕ) → AtFault bytes (Files.file_in bytes)
unfolding Files.file_in
file_in bytes = file_by bytes (Files.declarations (at_place bytes 0)) (declarations bytes (at_place bytes 0) (record { same = refl; within = omega arith }))

file_if : (bytes : List ℕ) (b : Bool) → AtFault bytes (cond b (Files.file_in bytes) (Err (record { kind = NotUtf8; at = utf8_valid_len bytes })))
file_if bytes true = file_in bytes
file_if bytes false = record { kind = refl; within = utf8_valid_len_le bytes }

pattern_file : (bytes : List ℕ) → AtFault bytes (Files.pattern_file bytes)
unfolding Files.pattern_file
pattern_file bytes = file_if bytes (utf8_valid_len bytes == length bytes)

fault_by : (bytes : List ℕ) (o : Result PatFile PatFault) (f : PatFault) → AtFault bytes o → o ≡ Err f → IsSpellingFault bytes f
fault_by bytes (Ok file) f h e = absurd (cc)
fault_by bytes (Err g) f h e = let same : g ≡ f = cc in subst (IsSpellingFault bytes) same h

-- the fault of a call that reads a whole text
pub file_fault : (bytes : List ℕ) (r : Result PatFile (Refusal PatFault)) (f : PatFault) → Gives r (Files.pattern_file bytes) → r ≡ Err (refusal.Fault f) → IsSpellingFault bytes f
file_fault bytes r f e is = fault_by bytes (Files.pattern_file bytes) f (pattern_file bytes) (subst (λ q. Gives q (Files.pattern_file bytes)) is e)
