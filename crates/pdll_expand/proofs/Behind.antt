-- The constraint that a name stands for is the last one of its name.
use Rattle.std.proofs.Common.{◌≡◌, ℕ, zero, suc, ◌<◌, Bool, true, false, List, [], ◌∷◌, ◌++◌, length, take, slice_get, Option, Some, None, IfSome, refl, sym, ap, ◌∙◌, subst, arith}
use Rattle.std.specs.Str.{bytes_eq}
use Rattle.pdll_syntax.specs.declared.file.CallDecl.{CallDecl}
use Rattle.pdll_syntax.specs.declared.file.Decl.{Decl}
use Rattle.pdll_syntax.specs.declared.file.Decl.TheVariants as decl
use Rattle.pdll_syntax.specs.declared.stmt.Param.{Param}
use Rattle.rewrite_model.specs.MatchPart.{Constrains}
use Rattle.rewrite_model.specs.Own.{silent}
use Rattle.rewrite_model.specs.Expanding.{constraints, constrains, constrains_if, first_param_kind}
use Rattle.pdll_expand.specs.Called.{last_named, later_or}
use Rattle.pdll_expand.specs.Behind.{turned, behind, kinds_from, kinds_of}
use Rattle.pdll_expand.proofs.Calling.{last_below, front_length, get_front}

one_or : (b : Bool) (o : Option ℕ) (c : CallDecl) (cs : List CallDecl) (ds : List Decl) (n : List ℕ) → b ≡ bytes_eq c.name.text n → None ≡ later_or b o
    → (None ≡ o → constraints (turned cs (decl.Constraint c ∷ ds)) n ≡ constrains_if (bytes_eq c.name.text n) (constraints ds) c n)
    → constraints (turned cs (decl.Constraint c ∷ ds)) n ≡ constraints ds n
one_or b (Some k) c cs ds n e h f = absurd (cc)
one_or true None c cs ds n e h f = absurd (cc)
one_or false None c cs ds n e h f = f refl ∙ ap (λ a. constrains_if a (constraints ds) c n) (sym e)

-- no constraint of the name
pub not_found : (n : List ℕ) (cs : List CallDecl) (ds : List Decl) → None ≡ last_named n cs → constraints (turned cs ds) n ≡ constraints ds n
not_found n [] ds h = refl
not_found n (c ∷ cs) ds h = one_or (bytes_eq c.name.text n) (last_named n cs) c cs ds n refl h (not_found n cs (decl.Constraint c ∷ ds))

here_or : (b : Bool) (o : Option ℕ) (k : ℕ) (d c : CallDecl) (cs : List CallDecl) (ds : List Decl) (n : List ℕ) → b ≡ bytes_eq c.name.text n → Some k ≡ later_or b o
    → Some d ≡ slice_get (c ∷ cs) k
    → (None ≡ o → constraints (turned cs (decl.Constraint c ∷ ds)) n ≡ constrains_if (bytes_eq c.name.text n) (constraints ds) c n)
    → ((j : ℕ) → Some j ≡ o → Some d ≡ slice_get cs j → constraints (turned cs (decl.Constraint c ∷ ds)) n ≡ constrains (constraints (turned (take j cs) (decl.Constraint c ∷ ds))) d)
    → constraints (turned cs (decl.Constraint c ∷ ds)) n ≡ constrains (constraints (turned (take k (c ∷ cs)) ds)) d
here_or b (Some j) zero d c cs ds n e h at f g = absurd (cc)
here_or b (Some j) (suc i) d c cs ds n e h at f g = g i (cc) at
here_or true None zero d c cs ds n e h at f g =
    let same : c ≡ d = cc in
    f refl ∙ (ap (λ a. constrains_if a (constraints ds) c n) (sym e) ∙ ap (constrains (constraints ds)) same)
here_or true None (suc i) d c cs ds n e h at f g = absurd (cc)
here_or false None k d c cs ds n e h at f g = absurd (cc)

-- the last constraint of the name, behind those before it
pub found : (n : List ℕ) (cs : List CallDecl) (ds : List Decl) (k : ℕ) (d : CallDecl) → Some k ≡ last_named n cs → Some d ≡ slice_get cs k
    → constraints (turned cs ds) n ≡ constrains (constraints (turned (take k cs) ds)) d
found n [] ds k d h at = absurd (cc)
found n (c ∷ cs) ds k d h at =
    here_or (bytes_eq c.name.text n) (last_named n cs) k d c cs ds n refl h at (not_found n cs (decl.Constraint c ∷ ds))
    (λ j. found n cs (decl.Constraint c ∷ ds) j d)

missing : {A : Type 0} (xs : List A) (k : ℕ) → k < length xs → None ≡ slice_get xs k → ⊥
missing [] k h e = omega arith
missing (x ∷ xs) zero h e = cc
missing (x ∷ xs) (suc k) h e = missing xs k (omega arith) e

-- what is found is there
pub no_gap : (n : List ℕ) (cs : List CallDecl) (m k : ℕ) → Some k ≡ last_named n (take m cs) → None ≡ slice_get cs k → ⊥
no_gap n cs m k h e =
    let inside : k < length (take m cs) = subst (λ o. IfSome o (λ j. j < length (take m cs))) (sym h) (last_below n (take m cs)) in
    let within : k < m = omega (arith, inside, front_length cs m) in
    missing (take m cs) k inside (e ∙ sym (get_front cs k m within))

-- the first parameter's kind doesn't depend on what calls ask for
pub silent_kind : (q : List ℕ → Constrains) (ps : List Param) → first_param_kind (silent q) ps ≡ first_param_kind q ps
silent_kind q [] = refl
silent_kind q (p ∷ ps) = refl

-- one more is declared
pub turned_more : (cs : List CallDecl) (c : CallDecl) (ds : List Decl) → turned (cs ++ c ∷ []) ds ≡ decl.Constraint c ∷ turned cs ds
turned_more [] c ds = refl
turned_more (d ∷ cs) c ds = turned_more cs c (decl.Constraint d ∷ ds)

kinds_more : (cs : List CallDecl) (c : CallDecl) (ds : List Decl) → kinds_from ds (cs ++ c ∷ []) ≡ kinds_from ds cs ++ first_param_kind (constraints (turned cs ds)) c.params ∷ []
kinds_more [] c ds = refl
kinds_more (d ∷ cs) c ds = ap (λ ks. first_param_kind (constraints ds) d.params ∷ ks) (kinds_more cs c (decl.Constraint d ∷ ds))

pub kinds_one_more : (cs : List CallDecl) (c : CallDecl) → kinds_of (cs ++ c ∷ []) ≡ kinds_of cs ++ first_param_kind (behind cs) c.params ∷ []
kinds_one_more cs c = kinds_more cs c []

kind_from : (cs : List CallDecl) (ds : List Decl) (k : ℕ) (c : CallDecl) → Some c ≡ slice_get cs k
    → slice_get (kinds_from ds cs) k ≡ Some (first_param_kind (constraints (turned (take k cs) ds)) c.params)
kind_from [] ds zero c h = absurd (cc)
kind_from [] ds (suc k) c h = absurd (cc)
kind_from (d ∷ cs) ds zero c h = let same : d ≡ c = cc in ap (λ (e : CallDecl). Some (first_param_kind (constraints ds) e.params)) same
kind_from (d ∷ cs) ds (suc k) c h = kind_from cs (decl.Constraint d ∷ ds) k c h

-- what is written for the first parameter of one
pub kind_at : (cs : List CallDecl) (k : ℕ) (c : CallDecl) → Some c ≡ slice_get cs k → slice_get (kinds_of cs) k ≡ Some (first_param_kind (behind (take k cs)) c.params)
kind_at cs k c h = kind_from cs [] k c h
