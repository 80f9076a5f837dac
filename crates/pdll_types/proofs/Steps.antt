-- How the way through a declaration goes on.
use Rattle.std.proofs.Common.{◌≡◌, ℕ, not, List, [], ◌∷◌, ◌++◌, length, Option, refl, sym, ap, ◌∙◌, append-nil}
use Rattle.pdll_syntax.specs.ExprTree.{Expr, expr, ExprForm, name_expr, member_expr, Refs, MaybeExpr}
use Rattle.pdll_syntax.specs.ExprView.{with_members}
use Rattle.pdll_syntax.specs.declared.fault.PatFault.{PatFault}
use Rattle.pdll_syntax.specs.declared.fault.PatKind.TheVariants.{Redefined, BadRoot}
use Rattle.pdll_syntax.specs.declared.file.PatternDecl.{PatternDecl}
use Rattle.pdll_syntax.specs.declared.file.Decl.TheVariants.{Pattern}
use Rattle.pdll_types.specs.declared.kind.Kind.{Kind}
use Rattle.pdll_types.specs.declared.section.Section.{Section}
use Rattle.pdll_types.specs.declared.section.Section.TheVariants.{Matched, Rewritten}
use Rattle.pdll_types.specs.declared.walk.Walk.{Walk}
use Rattle.pdll_types.specs.Kinds.{Asked, constraint_call, an_operation}
use Rattle.pdll_types.specs.Signatures.{Declared}
use Rattle.pdll_types.specs.Mentions.{Mention, heading, use_of, shown, body_stmts, of_expr, inside_form}
use Rattle.pdll_types.specs.Sight.{sight_behind, words_behind, sight_with, kind_of_variable}
use Rattle.pdll_types.specs.KindFaults.{is_wrong_kind}
use Rattle.pdll_types.specs.Names.{where_so, heading_twice}
use Rattle.pdll_types.specs.Parts.{lacks_types, is_wrong_call, ends_in_root, end_of}
use Rattle.pdll_types.specs.Accepted.{faults}
use Rattle.pdll_types.proofs.Noting.{noted_both}
use Rattle.pdll_types.specs.Walk.{step, faults_at, all_noted, walked, asked_after, member_use, members_walked}

pub walked_both : (c : List Declared) (ms ns : List Mention) (w : Walk) → walked c (ms ++ ns) w ≡ walked c ns (walked c ms w)
walked_both c [] ns w = refl
walked_both c (m ∷ ms) ns w = walked_both c ms ns (step c m w)

-- ---- variables that come into sight

shown_at : (c : List Declared) (w : Walk) (n : List ℕ) (rs : Refs) (x : MaybeExpr)
    → record w { sight = sight_with w.sight n (kind_of_variable c w.sight rs x) } ≡ step c (shown n rs x) w
unfolding step faults_at sight_behind words_behind
shown_at c w n rs x =
    let s = sight_with w.sight n (kind_of_variable c w.sight rs x) in
    ap (λ k. record w { sight = s; kinds = k }) (sym (append-nil w.kinds)) ∙ ap (λ r. record w { sight = s; kinds = w.kinds ++ []; roots = r }) (sym (append-nil w.roots))

pub shown_step : (c : List Declared) (w : Walk) (n : List ℕ) (rs : Refs) (x : MaybeExpr) (k : Option Kind) → k ≡ kind_of_variable c w.sight rs x
    → record w { sight = sight_with w.sight n k } ≡ step c (shown n rs x) w
shown_step c w n rs x k h = ap (λ j. record w { sight = sight_with w.sight n j }) h ∙ shown_at c w n rs x

-- ---- the head of a pattern

abbrev pub heading_noted : List Declared → PatternDecl → Option PatFault → Option PatFault
heading_noted c p least =
    all_noted (faults BadRoot (where_so (not (ends_in_root (body_stmts p.body))) (end_of p))) (all_noted (faults Redefined (heading_twice c (Pattern p))) least)

pub pattern_step : (c : List Declared) (p : PatternDecl) (w : Walk) (least : Option PatFault) → least ≡ heading_noted c p w.least
    → record w { least = least } ≡ step c (heading (Pattern p)) w
unfolding step faults_at sight_behind words_behind
pattern_step c p w least h =
    let one = faults Redefined (heading_twice c (Pattern p)) in
    let two = faults BadRoot (where_so (not (ends_in_root (body_stmts p.body))) (end_of p)) in
    let all = all_noted (one ++ (two ++ [])) w.least in
    ap (λ l. record w { least = l }) (h ∙ (sym (noted_both two [] (all_noted one w.least)) ∙ sym (noted_both one (two ++ []) w.least)))
    ∙ (ap (λ k. record w { kinds = k; least = all }) (sym (append-nil w.kinds))
    ∙ ap (λ r. record w { kinds = w.kinds ++ []; roots = r; least = all }) (sym (append-nil w.roots)))

-- ---- numbers behind an expression

wrong_same : (c : List Declared) (a : Asked) (x y : Expr) (j k : ℕ) (v : Option Kind) → is_wrong_kind c a (member_expr x j) v ≡ is_wrong_kind [] a (member_expr y k) v
wrong_same c constraint_call x y j k v = refl
wrong_same c a x y j k v = refl

lacks_same : (p : Section) (x y : Expr) (j k : ℕ) → lacks_types p (member_expr x j) ≡ lacks_types Matched (member_expr y k)
lacks_same Rewritten x y j k = refl
lacks_same p x y j k = refl

call_same : (c : List Declared) (p : Section) (x y : Expr) (j k : ℕ) → is_wrong_call c p (member_expr x j) ≡ is_wrong_call [] Matched (member_expr y k)
call_same c Matched x y j k = refl
call_same c p x y j k = refl

member_step : (c : List Declared) (p : Section) (a : Asked) (at : ℕ) (x : Expr) (k : ℕ) (w : Walk) → step c (use_of p a at (member_expr x k)) w ≡ step [] (member_use a at) w
unfolding step faults_at sight_behind words_behind
member_step c p a at x k w =
    let y = expr at (name_expr []) in
    rw (wrong_same c a x y k 0) (rw (lacks_same p x y k 0) (rw (call_same c p x y k 0) refl))

pub members_are : (c : List Declared) (p : Section) (a : Asked) (at : ℕ) (form : ExprForm) (ks : List ℕ) (w : Walk)
    → walked c (of_expr c p a (expr at (with_members at form ks))) w
    ≡ walked c (of_expr c p (asked_after a (length ks)) (expr at form)) (members_walked a at (length ks) w)
unfolding of_expr inside_form
members_are c p a at form [] w = refl
members_are c p a at form (k ∷ ks) w =
    members_are c p a at (member_expr (expr at form) k) ks w
    ∙ ap (walked c (of_expr c p an_operation (expr at form)))
    (member_step c p (asked_after a (length ks)) at (expr at form) k (members_walked a at (length ks) w))
