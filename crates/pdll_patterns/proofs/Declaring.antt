-- One more declaration, and the last statement of a pattern.
use Rattle.std.proofs.Common.{◌≡◌, ℕ, zero, suc, List, [], ◌∷◌, ◌++◌, length, get_or, take, refl, sym, ap, ◌∙◌, arith}
use Rattle.std.specs.Str.{bytes_eq}
use Rattle.pdll_syntax.specs.StmtTree.{Stmt, stmt, StmtForm}
use Rattle.pdll_syntax.specs.declared.file.CallDecl.{CallDecl}
use Rattle.pdll_syntax.specs.declared.file.PatternDecl.{PatternDecl}
use Rattle.pdll_syntax.specs.declared.file.Decl.{Decl}
use Rattle.pdll_syntax.specs.declared.file.Decl.TheVariants as decl
use Rattle.rewrite_model.specs.Pattern.{Part}
use Rattle.rewrite_model.specs.RewritePart.{Rewrites}
use Rattle.rewrite_model.specs.Expanding.{rewrites, rewrites_if, form_rewrites, last_rewrites, patterns_from}
use Rattle.pdll_patterns.specs.InSight.{behind}
use Rattle.pdll_patterns.specs.Files.{pattern_in}

pub pattern_more : (p : PatternDecl) (ds : List Decl) → rewrites (decl.Pattern p ∷ ds) ≡ rewrites ds
pattern_more p ds = λ i n xs. rewrites ds n xs

pub constraint_more : (c : CallDecl) (ds : List Decl) → rewrites (decl.Constraint c ∷ ds) ≡ rewrites ds
constraint_more c ds = λ i n xs. rewrites ds n xs

behind_more : (ds : List Decl) (cs : List CallDecl) (c : CallDecl) → behind ds (cs ++ c ∷ []) ≡ decl.Rewrite c ∷ behind ds cs
behind_more ds [] c = refl
behind_more ds (d ∷ cs) c = behind_more (decl.Rewrite d ∷ ds) cs c

same_behind : (c : CallDecl) (ds es : List Decl) → rewrites ds ≡ rewrites es → rewrites (decl.Rewrite c ∷ ds) ≡ rewrites (decl.Rewrite c ∷ es)
same_behind c ds es h = λ i n xs. rewrites_if (bytes_eq c.name.text n) (h i) c n xs

pub rewrite_more : (c : CallDecl) (ds : List Decl) (cs : List CallDecl) → rewrites ds ≡ rewrites (behind [] cs) → rewrites (decl.Rewrite c ∷ ds) ≡ rewrites (behind [] (cs ++ c ∷ []))
rewrite_more c ds cs h = same_behind c ds (behind [] cs) h ∙ ap rewrites (sym (behind_more [] cs c))

-- the last statement rewrites
pub last_is : (w : Rewrites) (root : Part) (ss : List Stmt) (n : ℕ) (at : ℕ) (form : StmtForm) → suc n ≡ length ss → stmt at form ≡ get_or ss n (stmt at form)
    → form_rewrites w root form ≡ last_rewrites w root ss
last_is w root [] n at form h is = absurd (omega arith)
last_is w root (x ∷ []) zero at form h is = ap (λ s. last_rewrites w root (s ∷ [])) is
last_is w root (x ∷ []) (suc n) at form h is = absurd (omega arith)
last_is w root (x ∷ y ∷ ss) zero at form h is = absurd (omega arith)
last_is w root (stmt a f ∷ y ∷ ss) (suc n) at form h is = last_is w root (y ∷ ss) n at form (omega arith) is

pub patterns_more : (ds : List Decl) (d : Decl) (rest : List Decl) → patterns_from ds (d ∷ rest) ≡ pattern_in ds d ++ patterns_from (d ∷ ds) rest
patterns_more ds (decl.Pattern p) rest = refl
patterns_more ds (decl.Constraint c) rest = refl
patterns_more ds (decl.Rewrite c) rest = refl

pub joined : {A : Type 0} (xs ys zs : List A) → xs ++ (ys ++ zs) ≡ (xs ++ ys) ++ zs
joined [] ys zs = refl
joined (x ∷ xs) ys zs = ap (λ ws. x ∷ ws) (joined xs ys zs)

pub front_whole : {A : Type 0} (xs : List A) → take (length xs) xs ≡ xs
front_whole [] = refl
front_whole (x ∷ xs) = ap (λ ys. x ∷ ys) (front_whole xs)
