-- The patterns of an accepted file are determined.
use Rattle.std.proofs.Common.{◌≡◌, true, false, List, [], ◌∷◌, refl, subst, arith}
use Rattle.pdll_syntax.specs.declared.stmt.Body.{Body}
use Rattle.pdll_syntax.specs.declared.stmt.Body.TheVariants as body
use Rattle.pdll_syntax.specs.declared.file.Decl.{Decl}
use Rattle.pdll_syntax.specs.declared.file.Decl.TheVariants as decl
use Rattle.pdll_syntax.specs.declared.file.PatternDecl.{PatternDecl}
use Rattle.pdll_syntax.specs.StmtTree.{stmts}
use Rattle.rewrite_model.specs.MatchPart.{empty}
use Rattle.rewrite_model.specs.Expanding.{constraints, body_statements, read_match, expanded, patterns_from, patterns}
use Rattle.rewrite_model.specs.Determined.{IsDetermined, AreDetermined}
use Rattle.rewrite_model.specs.Own.{silent, own}
use Rattle.rewrite_model.proofs.Adding.{AreAlone, calls_add, calls_keep_names}
use Rattle.rewrite_model.proofs.Following.{all_carried, few_everywhere}
use Rattle.pdll_types.specs.Signatures.{Declared, declared}
use Rattle.pdll_types.specs.Mentions.{heading, mentions, of_pattern, body_stmts}
use Rattle.pdll_types.specs.Sight.{seen_behind, nothing}
use Rattle.pdll_types.specs.Parts.{ends_in_root, end_of}
use Rattle.pdll_types.specs.Accepted.{IsSound, AreSound, IsAccepted}
use Rattle.pdll_types.specs.Laws.{AcceptedFilesAreDetermined}
use Rattle.pdll_types.proofs.determined.Fine.{AreFine, so_not, are_fine}
use Rattle.pdll_types.proofs.determined.Refs.{Knows, knows_next, not_false}
use Rattle.pdll_types.proofs.determined.Seeing.{InStep, over}
use Rattle.pdll_types.proofs.determined.Statements.{EndsAt, read_all}

same_stmts : (b : Body) → body_stmts b ≡ stmts (body_statements b)
same_stmts body.Absent = refl
same_stmts (body.Braces ss end) = refl
same_stmts (body.One s) = refl
same_stmts (body.Value x) = refl

at_first : InStep [] [] nothing empty empty
at_first = record {
  follows = record { is_map = tt; names = tt; demands = λ d i. elim i [ ]; covered = λ y l. absurd (omega (arith, l)); few = λ y o i. elim i [ ] };
  sees = λ n v h. absurd (cc);
  known = λ n h. absurd (cc);
  waits = λ n i. elim i [ ];
  apart = tt;
}

-- both readings of a pattern
both_read : (c : List Declared) (earlier : List Decl) (p : PatternDecl) → Knows c (constraints earlier) → AreAlone earlier → AreFine c nothing (mentions c (decl.Pattern p))
    → EndsAt (read_match (silent (constraints earlier)) (body_statements p.body) empty) (read_match (constraints earlier) (body_statements p.body) empty)
unfolding mentions
both_read c earlier p k a h =
    let m = heading (decl.Pattern p) in
    let v = seen_behind c nothing m in
    let ends = not_false (ends_in_root (body_stmts p.body)) (so_not _ (end_of p) h.0.bad_root) in
    read_all c (constraints earlier) k (calls_add earlier a) (calls_keep_names earlier) (body_statements p.body) (subst (λ ss. ends_in_root ss ≡ true) (same_stmts p.body) ends) [] v empty empty
    (subst (λ ss. AreFine c v (of_pattern c false ss)) (same_stmts p.body) h.1) (over c m tt [] [] nothing empty empty at_first)

one_determined : (c : List Declared) (earlier : List Decl) (p : PatternDecl) → Knows c (constraints earlier) → AreAlone earlier → IsSound c earlier (decl.Pattern p) → IsDetermined (expanded earlier p)
unfolding expanded own
one_determined c earlier p k a h =
    let x = read_match (silent (constraints earlier)) (body_statements p.body) empty in
    let y = read_match (constraints earlier) (body_statements p.body) empty in
    let e = both_read c earlier p k a (are_fine c (decl.Pattern p) h.names) in
    record {
      each = all_carried e.numbers x.1 y.1 e.follows x.0 y.0 e.roots h.determined;
      ranges = few_everywhere e.numbers x.1 y.1 e.follows;
    }

all_determined : (c : List Declared) (earlier ds : List Decl) → Knows c (constraints earlier) → AreAlone earlier → AreSound c earlier ds → AreDetermined (patterns_from earlier ds)
all_determined c earlier [] k a h = tt
all_determined c earlier (d ∷ ds) k a h = by d h.0 (all_determined (declared c d) (d ∷ earlier) ds (knows_next c earlier d k (are_fine c d h.0.names)) (h.0.determined, a) h.1) where
  by : (d : Decl) → IsSound c earlier d → AreDetermined (patterns_from (d ∷ earlier) ds) → AreDetermined (patterns_from earlier (d ∷ ds))
  by (decl.Pattern p) s rest = (one_determined c earlier p k a s, rest)
  by (decl.Constraint e) s rest = rest
  by (decl.Rewrite e) s rest = rest

pub accepted_files_are_determined : AcceptedFilesAreDetermined
unfolding IsAccepted patterns
accepted_files_are_determined file h = all_determined [] [] file.decls (record { fits = λ n. tt }) tt h
