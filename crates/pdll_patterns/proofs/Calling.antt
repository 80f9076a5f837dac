-- What a call of a declared rewrite means.
use Rattle.std.proofs.Common.{◌≡◌, ℕ, zero, suc, ◌+◌, ◌*◌, ◌<◌, ◌≤◌, Bool, true, false, List, [], ◌∷◌, take, slice_get, Option, Some, None, refl, sym, ap, ◌∙◌, arith}
use Rattle.std.specs.Str.{bytes_eq}
use Rattle.pdll_syntax.specs.declared.file.Decl.{Decl}
use Rattle.pdll_syntax.specs.declared.file.Decl.TheVariants as decl
use Rattle.pdll_syntax.specs.declared.file.CallDecl.{CallDecl}
use Rattle.rewrite_model.specs.Pattern.{Part}
use Rattle.rewrite_model.specs.Names.{Meant}
use Rattle.rewrite_model.specs.Expanding.{rewrites, rewrites_if, call_rewrite}
use Rattle.pdll_expand.specs.Called.{later_or, last_named}
use Rattle.pdll_patterns.specs.InSight.{behind, body_size, weight}

-- ---- fronts of lists

pub get_front : {A : Type 0} (xs : List A) (i n : ℕ) → i < n → slice_get (take n xs) i ≡ slice_get xs i
get_front [] i zero h = absurd (omega arith)
get_front [] i (suc n) h = refl
get_front (x ∷ xs) i zero h = absurd (omega arith)
get_front (x ∷ xs) zero (suc n) h = refl
get_front (x ∷ xs) (suc i) (suc n) h = get_front xs i n (omega arith)

pub front_front : {A : Type 0} (xs : List A) (m n : ℕ) → n ≤ m → take n (take m xs) ≡ take n xs
front_front [] zero zero h = refl
front_front [] zero (suc n) h = absurd (omega arith)
front_front [] (suc m) zero h = refl
front_front [] (suc m) (suc n) h = refl
front_front (x ∷ xs) zero zero h = refl
front_front (x ∷ xs) zero (suc n) h = absurd (omega arith)
front_front (x ∷ xs) (suc m) zero h = refl
front_front (x ∷ xs) (suc m) (suc n) h = ap (λ ys. x ∷ ys) (front_front xs m n (omega arith))

-- the last one of a name is there
pub last_there : (n : List ℕ) (cs : List CallDecl) (k : ℕ) → Some k ≡ last_named n cs → None ≡ slice_get cs k → ⊥
last_there n [] k h e = absurd (cc)
last_there n (c ∷ cs) k h e = by (bytes_eq c.name.text n) (last_named n cs) k h e (last_there n cs) where
  by : (b : Bool) (o : Option ℕ) (k : ℕ) → Some k ≡ later_or b o → None ≡ slice_get (c ∷ cs) k → ((j : ℕ) → Some j ≡ o → None ≡ slice_get cs j → ⊥) → ⊥
  by b (Some j) zero h e f = absurd (cc)
  by b (Some j) (suc i) h e f = let s : i ≡ j = cc in f i (ap Some s) e
  by true None zero h e f = absurd (cc)
  by true None (suc i) h e f = absurd (cc)
  by false None k h e f = absurd (cc)

-- ---- calls

-- a body that may be called, and all that it may call
pub weight_before : (cs : List CallDecl) (at count : ℕ) (c : CallDecl) → at < count → Some c ≡ slice_get cs at
    → weight (take at cs) + 8 * body_size c.body + 8 ≤ weight (take count cs)
weight_before [] zero count c h e = absurd (cc)
weight_before [] (suc at) count c h e = absurd (cc)
weight_before (d ∷ cs) at zero c h e = absurd (omega arith)
weight_before (d ∷ cs) zero (suc count) c h e =
    let s : c ≡ d = cc in
    omega (arith, ap (λ (x : CallDecl). body_size x.body) s)
weight_before (d ∷ cs) (suc at) (suc count) c h e = omega (arith, weight_before cs at count c (omega arith) e)

-- no rewrite of the name
pub called_none : (n : List ℕ) (xs : List (Meant Part)) (ds : List Decl) (cs : List CallDecl) → None ≡ last_named n cs → rewrites (behind ds cs) n xs ≡ rewrites ds n xs
called_none n xs ds [] h = refl
called_none n xs ds (c ∷ cs) h = by (bytes_eq c.name.text n) (last_named n cs) h refl (called_none n xs (decl.Rewrite c ∷ ds) cs) where
  by : (b : Bool) (o : Option ℕ) → None ≡ later_or b o → b ≡ bytes_eq c.name.text n
      → (None ≡ o → rewrites (behind (decl.Rewrite c ∷ ds) cs) n xs ≡ rewrites (decl.Rewrite c ∷ ds) n xs)
      → rewrites (behind (decl.Rewrite c ∷ ds) cs) n xs ≡ rewrites ds n xs
  by b (Some k) e t f = absurd (cc)
  by true None e t f = absurd (cc)
  by false None e t f = f refl ∙ ap (λ b. rewrites_if b (rewrites ds) c n xs) (sym t)

-- the last rewrite of the name
pub called_last : (n : List ℕ) (xs : List (Meant Part)) (ds : List Decl) (cs : List CallDecl) (k : ℕ) (c : CallDecl)
    → Some k ≡ last_named n cs → Some c ≡ slice_get cs k
    → rewrites (behind ds cs) n xs ≡ call_rewrite (rewrites (behind ds (take k cs))) c c.body xs
called_last n xs ds [] k c h e = absurd (cc)
called_last n xs ds (d ∷ cs) k c h e =
    by (bytes_eq d.name.text n) (last_named n cs) k h e refl refl (λ j. called_last n xs (decl.Rewrite d ∷ ds) cs j c) (called_none n xs (decl.Rewrite d ∷ ds) cs) where
      by : (b : Bool) (o : Option ℕ) (k : ℕ) → Some k ≡ later_or b o → Some c ≡ slice_get (d ∷ cs) k → b ≡ bytes_eq d.name.text n → o ≡ last_named n cs
          → ((j : ℕ) → Some j ≡ last_named n cs → Some c ≡ slice_get cs j → rewrites (behind (decl.Rewrite d ∷ ds) cs) n xs ≡ call_rewrite (rewrites (behind (decl.Rewrite d ∷ ds) (take j cs))) c c.body xs)
          → (None ≡ last_named n cs → rewrites (behind (decl.Rewrite d ∷ ds) cs) n xs ≡ rewrites (decl.Rewrite d ∷ ds) n xs)
          → rewrites (behind (decl.Rewrite d ∷ ds) cs) n xs ≡ call_rewrite (rewrites (behind ds (take k (d ∷ cs)))) c c.body xs
      by b (Some j) zero h e t o f g = absurd (cc)
      by b (Some j) (suc i) h e t o f g =
          let s : i ≡ j = cc in
          f i (ap Some s ∙ o) e
      by true None zero h e t o f g =
          let s : d ≡ c = cc in
          g o ∙ (ap (λ b. rewrites_if b (rewrites ds) d n xs) (sym t) ∙ ap (λ (x : CallDecl). call_rewrite (rewrites ds) x x.body xs) s)
      by true None (suc i) h e t o f g = absurd (cc)
      by false None k h e t o f g = absurd (cc)
