-- What the program knows of the constraints that are declared.
use Rattle.std.proofs.Common.{◌≡◌, ℕ, Bool, true, false, List, [], ◌∷◌, ◌++◌, refl, ap, ◌∙◌}
use Rattle.std.specs.Str.{bytes_eq}
use Rattle.pdll_syntax.specs.declared.file.CallDecl.{CallDecl}
use Rattle.pdll_syntax.specs.declared.file.Decl.{Decl}
use Rattle.pdll_syntax.specs.declared.file.Decl.TheVariants as decl
use Rattle.rewrite_model.specs.MatchPart.{Constrains}
use Rattle.rewrite_model.specs.Expanding.{constraints, constrains_if}
use Rattle.pdll_expand.specs.Behind.{behind}
use Rattle.pdll_expand.specs.Table.{told}
use Rattle.pdll_expand.proofs.Behind.{turned_more}

-- a constraint is added
pub one_more : (cs ds : List CallDecl) (c : CallDecl) (earlier : List Decl) → ds ≡ cs ++ c ∷ []
    → ((n : List ℕ) → behind cs n ≡ constraints earlier n) → (n : List ℕ) → behind ds n ≡ constraints (decl.Constraint c ∷ earlier) n
one_more cs ds c earlier e h n =
    ap (λ bs. behind bs n) e
    ∙ (ap (λ bs. constraints bs n) (turned_more cs c [])
    ∙ ap (λ (q : List ℕ → Constrains). constrains_if (bytes_eq c.name.text n) q c n) (λ i m. h m i))

-- all of them
pub all_known : (cs : List CallDecl) (earlier : List Decl) → ((n : List ℕ) → behind cs n ≡ constraints earlier n) → behind cs ≡ constraints earlier
all_known cs earlier h = λ i n. h n i

-- the first parameter's kind doesn't depend on what calls ask for
pub told_param : (b : Bool) (q : List ℕ → Constrains) (n : List ℕ) → (told b q n).param ≡ (q n).param
told_param true q n = refl
told_param false q n = refl
