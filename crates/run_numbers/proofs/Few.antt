-- The patterns of an accepted file make few operations.
use Rattle.std.proofs.Common.{◌≡◌, ◌≤◌, ℕ, Bool, true, false, ◌||◌, List, [], ◌∷◌, refl, arith}
use Rattle.std.specs.Prelude.{nat_lt}
use Rattle.std.proofs.lemmas.Bool.Decides.{nat_tests}
use Rattle.pdll_syntax.specs.declared.file.Decl.{Decl}
use Rattle.pdll_syntax.specs.declared.file.Decl.TheVariants as decl
use Rattle.pdll_syntax.specs.declared.file.PatternDecl.{PatternDecl}
use Rattle.rewrite_model.specs.Expanding.{expanded, patterns_from}
use Rattle.rewrite_model.specs.Size.{expanded_size, is_long, pattern_expressions, is_too_large}
use Rattle.rewrite_model.specs.Laws.{new_operations, SizesBoundOperations}
use Rattle.pdll_types.specs.Signatures.{Declared, declared}
use Rattle.pdll_types.specs.Accepted.{IsSound, AreSound}
use Rattle.run_numbers.specs.Laws.{MakeFew}

neither : (a b c : Bool) → (a || (b || c)) ≡ false → b ≡ false
neither true b c e = absurd (cc)
neither false true c e = absurd (cc)
neither false false c e = refl

few_operations : (earlier : List Decl) (p : PatternDecl) → is_too_large earlier (decl.Pattern p) ≡ false → (expanded_size earlier (decl.Pattern p)).operations ≤ 256
unfolding is_too_large
few_operations earlier p e =
    let few = neither (is_long (expanded_size earlier (decl.Pattern p))) (nat_lt 256 (expanded_size earlier (decl.Pattern p)).operations) (nat_lt 1000000 (pattern_expressions (decl.Pattern p ∷ earlier))) e in
    grind (arith, nat_tests, few)

module _ (bound : SizesBoundOperations) where
  pub few_from : (c : List Declared) (earlier ds : List Decl) → AreSound c earlier ds → MakeFew (patterns_from earlier ds)
  few_from c earlier [] h = tt
  few_from c earlier ((decl.Pattern p) ∷ ds) h =
      (let made = bound earlier p in let few = few_operations earlier p h.0.small in omega (arith, made, few), few_from (declared c (decl.Pattern p)) (decl.Pattern p ∷ earlier) ds h.1)
  few_from c earlier ((decl.Constraint e) ∷ ds) h = few_from (declared c (decl.Constraint e)) (decl.Constraint e ∷ earlier) ds h.1
  few_from c earlier ((decl.Rewrite e) ∷ ds) h = few_from (declared c (decl.Rewrite e)) (decl.Rewrite e ∷ earlier) ds h.1
