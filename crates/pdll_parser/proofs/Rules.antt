-- Brackets, one step each.
use Rattle.std.proofs.Common.{◌≡◌, ℕ, zero, suc, ◌-◌, ◌==◌, Bool, true, false, if◌then◌else◌, List, [], ◌∷◌, refl, ap, ap₂, ◌∙◌, arith}
use Rattle.std.specs.Prelude.{Some, None, Ok, Err}
use Rattle.std.proofs.lemmas.Bool.Decides.{nat_tests}
use Rattle.pdll_syntax.specs.declared.fault.PatKind.TheVariants.{TooMany}
use Rattle.pdll_parser.specs.declared.terminal.Terminal.{Terminal}
use Rattle.pdll_parser.specs.declared.terminal.Terminal.TheVariants as t
use Rattle.pdll_syntax.specs.StmtTree.{Stmt, StmtForm, stmt}
use Rattle.pdll_parser.specs.Place.{Place, sees, start, next}
use Rattle.pdll_parser.specs.Input.{Outcome, Parser, and_then, ◌>>=◌, ◌>>◌, ◌<$>◌, pure, fault, refuse, expect, here, bracket, deeper, items, list, all_up_to}
use Rattle.pdll_parser.specs.Reader.{opening}
use Rattle.pdll_parser.specs.Expressions.{Rules, rules, rules_in, room_of, dotted_name, literal, an_entry, expression, reference, references, arguments, of, operation_name, literal_in_angles, attributes}
use Rattle.pdll_parser.specs.Statements.{braces, statement, a_statement, statement_form, inside_of}
use Rattle.pdll_parser.specs.Files.{max_depth, benefit, benefit_in_parens, parameters, a_parameter}

-- what stands behind an opening bracket, and the closing one
abbrev pub inside : {A : Type 0} → Outcome (Unit {0}) → Parser A → Terminal → Outcome A
inside opened part close_mark = and_then opened (λ _. part >>= (λ x. expect close_mark >> pure x))

unopened : {A : Type 0} (b : Bool) (part : Rules → Parser A) (r : Rules) (c : Terminal) (s : Place) →
    (if b then (deeper None part >>= (λ x. expect c >> pure x)) else refuse) s ≡ inside (if b then Err (fault TooMany (start s)) else refuse s) (part r) c
unfolding refuse
unopened true part r c s = refl
unopened false part r c s = refl

opened : {A : Type 0} (b : Bool) (part : Rules → Parser A) (r : Rules) (c : Terminal) (s : Place) →
    (if b then (deeper (Some r) part >>= (λ x. expect c >> pure x)) else refuse) s ≡ inside (if b then Ok (tt, next s) else refuse s) (part r) c
unfolding refuse
opened true part r c s = refl
opened false part r c s = refl

pub rules_is : (d : ℕ) → rules d ≡ rules_in (room_of d)
rules_is zero = refl
rules_is (suc d) = refl

bracket_is : {A : Type 0} (d : ℕ) (o : Terminal) (part : Rules → Parser A) (c : Terminal) (s : Place) →
    bracket (room_of d) o part c s ≡ inside (opening o d s) (part (rules (d - 1))) c
unfolding bracket opening
bracket_is zero o part c s = unopened (sees o s) part (rules 0) c s
bracket_is (suc d) o part c s =
    let none : false ≡ (suc d == 0) = grind (arith, nat_tests) in
    let one : d ≡ suc d - 1 = omega arith in
    opened (sees o s) part (rules d) c s
    ∙ ap₂ (λ b n. inside (if sees o s then (if b then Err (fault TooMany (start s)) else Ok (tt, next s)) else refuse s) (part (rules n)) c) none one

-- what stands in brackets is read with the rules one level deeper
in_brackets : {A : Type 0} (d : ℕ) (o : Terminal) (part : Rules → Parser A) (c : Terminal) (s : Place) →
    bracket (room_of d) o part c s ≡ inside (opening o d s) (part (rules_in (room_of (d - 1)))) c
in_brackets d o part c s = bracket_is d o part c s ∙ ap (λ r. inside (opening o d s) (part r) c) (rules_is (d - 1))

pub arguments_is : (d : ℕ) (s : Place) →
    arguments (room_of d) s ≡ inside (opening t.LeftParen d s) (list t.RightParen (expression (room_of (d - 1)))) t.RightParen
unfolding arguments
arguments_is d s = in_brackets d t.LeftParen (λ r. list t.RightParen r.expression) t.RightParen s

pub of_is : (d : ℕ) (s : Place) → of (room_of d) s ≡ inside (opening t.Less d s) (expression (room_of (d - 1))) t.Greater
unfolding of
of_is d s = in_brackets d t.Less (λ r. r.expression) t.Greater s

pub operation_name_is : (d : ℕ) (s : Place) → operation_name (room_of d) s ≡ inside (opening t.Less d s) dotted_name t.Greater
unfolding operation_name
operation_name_is d s = in_brackets d t.Less (λ r. dotted_name) t.Greater s

pub literal_in_angles_is : (d : ℕ) (s : Place) → literal_in_angles (room_of d) s ≡ inside (opening t.Less d s) literal t.Greater
unfolding literal_in_angles
literal_in_angles_is d s = in_brackets d t.Less (λ r. literal) t.Greater s

pub attributes_is : (d : ℕ) (s : Place) →
    attributes (room_of d) s ≡ inside (opening t.LeftBrace d s) (list t.RightBrace (an_entry (expression (room_of (d - 1))))) t.RightBrace
unfolding attributes
attributes_is d s = in_brackets d t.LeftBrace (λ r. list t.RightBrace (an_entry r.expression)) t.RightBrace s

pub references_is : (d : ℕ) (s : Place) →
    references (room_of d) s ≡ (if sees t.LeftBracket s then inside (opening t.LeftBracket d s) (items (reference (room_of (d - 1)))) t.RightBracket else ((λ x. x ∷ []) <$> reference (room_of d)) s)
unfolding references
references_is d s = by_sees (sees t.LeftBracket s)
  where
    by_sees : (b : Bool) →
        (if b then bracket (room_of d) t.LeftBracket (λ r. items r.reference) t.RightBracket else (λ x. x ∷ []) <$> reference (room_of d)) s
        ≡ (if b then inside (opening t.LeftBracket d s) (items (reference (room_of (d - 1)))) t.RightBracket else ((λ x. x ∷ []) <$> reference (room_of d)) s)
    by_sees true = in_brackets d t.LeftBracket (λ r. items r.reference) t.RightBracket s
    by_sees false = refl

-- statements in braces are read with the rule one level deeper
abbrev pub in_braces : Outcome (Unit {0}) → Parser Stmt → Outcome (List Stmt × ℕ)
in_braces opened rule = and_then opened (λ _. all_up_to t.RightBrace (λ before. rule) >>= (λ found. here >>= (λ at. expect t.RightBrace >> pure (found, at))))

shut : (b : Bool) (rule : Parser Stmt) (s : Place) →
    (if b then (deeper None (λ statement. all_up_to t.RightBrace (λ before. statement)) >>= (λ found. here >>= (λ at. expect t.RightBrace >> pure (found, at)))) else refuse) s
    ≡ in_braces (if b then Err (fault TooMany (start s)) else refuse s) rule
unfolding refuse
shut true rule s = refl
shut false rule s = refl

unshut : (b : Bool) (rule : Parser Stmt) (s : Place) →
    (if b then (deeper (Some rule) (λ statement. all_up_to t.RightBrace (λ before. statement)) >>= (λ found. here >>= (λ at. expect t.RightBrace >> pure (found, at)))) else refuse) s
    ≡ in_braces (if b then Ok (tt, next s) else refuse s) rule
unfolding refuse
unshut true rule s = refl
unshut false rule s = refl

pub braces_is : (d : ℕ) (s : Place) → braces (inside_of d) s ≡ in_braces (opening t.LeftBrace d s) (statement (d - 1))
unfolding braces opening
braces_is zero s = shut (sees t.LeftBrace s) (statement 0) s
braces_is (suc d) s =
    let none : false ≡ (suc d == 0) = grind (arith, nat_tests) in
    let one : d ≡ suc d - 1 = omega arith in
    unshut (sees t.LeftBrace s) (statement d) s
    ∙ ap₂ (λ b n. in_braces (if sees t.LeftBrace s then (if b then Err (fault TooMany (start s)) else Ok (tt, next s)) else refuse s) (statement n)) none one

-- a form, and `;`
abbrev pub ended : ℕ → Outcome StmtForm → Outcome Stmt
ended at form = and_then form (λ found. expect t.Semicolon >> pure (stmt at found))

pub statement_is : (d : ℕ) (s : Place) → statement d s ≡ ended (start s) (statement_form (room_of d) (inside_of d) s)
unfolding a_statement
statement_is zero s = refl
statement_is (suc d) s = refl

pub benefit_in_parens_is : (s : Place) → benefit_in_parens s ≡ inside (opening t.LeftParen max_depth s) benefit t.RightParen
unfolding benefit_in_parens
benefit_in_parens_is s = in_brackets max_depth t.LeftParen (λ r. benefit) t.RightParen s

pub parameters_is : (s : Place) →
    parameters s ≡ inside (opening t.LeftParen max_depth s) (list t.RightParen (a_parameter (references (room_of (max_depth - 1))))) t.RightParen
unfolding parameters
parameters_is s = in_brackets max_depth t.LeftParen (λ r. list t.RightParen (a_parameter r.references)) t.RightParen s
