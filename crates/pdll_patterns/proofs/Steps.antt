-- How parts of a rewrite follow one another.
use Rattle.std.proofs.Common.{◌≡◌, ℕ, ◌+◌, List, [], ◌∷◌, ◌++◌, map, drop, Result, Ok, Err, refl, sym, ap, ◌∙◌, subst}
use Rattle.rewrite_model.specs.Doing.{Doing, ◌>>=◌, pure}
use Rattle.rewrite_model.specs.RewritePart.{Script}
use Rattle.pdll_patterns.specs.declared.names.Names.{Names}
use Rattle.pdll_patterns.specs.declared.script.Script.{Script as ScriptNode}
use Rattle.pdll_patterns.specs.Scripts.{IsScript, Gave, Does}

abbrev pub Both : Type 0
Both = Names × ScriptNode

abbrev pub both : Names → ScriptNode → Both
both n s = (n, s)

-- ---- straight on

pub gave : {A B : Type 0} (of : A → B) (a : A) (s : Both) → Gave of (pure (of a)) s a s
gave of a s = λ t i. (refl, i)

pub then_gave : {A B C D : Type 0} (of : A → B) (for_ : C → D) (p : Doing Script B) (f : B → Doing Script D) (old mid new : Both) (a : A) (c : C)
    → Gave of p old a mid → Gave for_ (f (of a)) mid c new → Gave for_ (p >>= f) old c new
then_gave of for_ p f old mid new a c h g = λ t i.
    let x = h t i in
    let y = g (p t).1 x.1 in
    subst (λ b. (for_ c ≡ (f b (p t).1).0) × IsScript new (f b (p t).1).1) x.0 y

pub then_do : {A B C D E : Type 0} (of : A → B) (for_ : C → D) (p : Doing Script B) (f : B → Doing Script D) (old mid new : Both) (a : A) (r : Result C E)
    → Gave of p old a mid → Does for_ (f (of a)) mid r new → Does for_ (p >>= f) old r new
then_do of for_ p f old mid new a (Ok c) h g = then_gave of for_ p f old mid new a c h g
then_do of for_ p f old mid new a (Err e) h g = tt

-- ---- loops

-- What is left to do of the whole.
abbrev pub Left : {B : Type 0} → Doing Script B → Doing Script B → Both → Both → Type 0
Left whole rest old mid = (t : Script) → IsScript old t → (u : Script) × (IsScript mid u × (whole t ≡ rest u))

pub all_left : {B : Type 0} (whole : Doing Script B) (s : Both) → Left whole whole s s
all_left whole s = λ t i. (t, (i, refl))

pub left_after : {A B C : Type 0} (of : A → B) (whole : Doing Script C) (p : Doing Script B) (f : B → Doing Script C) (old mid new : Both) (a : A)
    → Left whole (p >>= f) old mid → Gave of p mid a new → Left whole (f (of a)) old new
left_after of whole p f old mid new a h g = λ t i.
    let l = h t i in
    let x = g l.0 l.1.0 in
    ((p l.0).1, (x.1, l.1.1 ∙ ap (λ b. f b (p l.0).1) (sym x.0)))

pub left_as : {C : Type 0} (whole rest more : Doing Script C) (old mid : Both) → ((u : Script) → rest u ≡ more u) → Left whole rest old mid → Left whole more old mid
left_as whole rest more old mid e h = λ t i.
    let l = h t i in
    (l.0, (l.1.0, l.1.1 ∙ e l.0))

pub none_left : {A B : Type 0} (of : A → B) (whole : Doing Script B) (old new : Both) (a : A) → Left whole (pure (of a)) old new → Gave of whole old a new
none_left of whole old new a h = λ t i.
    let l = h t i in
    (ap (λ r. r.0) (sym l.1.1), subst (λ r. IsScript new r.1) (sym l.1.1) l.1.0)

-- ---- what is read of a list, one after the other

map_one_more : {A B : Type 0} (of : A → B) (xs : List A) (x : A) (ys : List B) → map of xs ++ of x ∷ ys ≡ map of (xs ++ x ∷ []) ++ ys
map_one_more of [] x ys = refl
map_one_more of (z ∷ xs) x ys = ap (λ zs. of z ∷ zs) (map_one_more of xs x ys)

append_none : {A : Type 0} (xs : List A) → xs ++ [] ≡ xs
append_none [] = refl
append_none (x ∷ xs) = ap (λ ys. x ∷ ys) (append_none xs)

module _ {X A B : Type 0} (of : A → B) (one : X → Doing Script B) (list : List X → Doing Script (List B)) where
  -- so much is read of the list
  abbrev pub Reads : List X → ℕ → List A → Both → Both → Type 0
  Reads all i found old mid = Left (list all) (list (drop i all) >>= (λ ys. pure (map of found ++ ys))) old mid

  pub read_one : (cons : (x : X) (xs : List X) → list (x ∷ xs) ≡ (one x >>= (λ y. list xs >>= (λ ys. pure (y ∷ ys)))))
      → (all : List X) (i : ℕ) (x : X) (found : List A) (a : A) (old mid new : Both)
      → drop i all ≡ x ∷ drop (i + 1) all → Reads all i found old mid → Gave of (one x) mid a new → Reads all (i + 1) (found ++ a ∷ []) old new
  read_one cons all i x found a old mid new e h g =
      let rest = drop (i + 1) all in
      let go = λ (y : B). list rest >>= (λ ys. pure (map of found ++ y ∷ ys)) in
      let is = λ (u : Script). ap (λ xs. (list xs >>= (λ ys. pure (map of found ++ ys))) u) e ∙ ap (λ w. (w >>= (λ ys. pure (map of found ++ ys))) u) (cons x rest) in
      let before = left_as (list all) (list (drop i all) >>= (λ ys. pure (map of found ++ ys))) (one x >>= go) old mid is h in
      left_as (list all) (go (of a)) (list rest >>= (λ ys. pure (map of (found ++ a ∷ []) ++ ys))) old new
      (λ u. ap (λ zs. (zs, (list rest u).1)) (map_one_more of found a (list rest u).0))
      (left_after of (list all) (one x) go old mid new a before g)

  pub read_all : (list [] ≡ pure []) → (all : List X) (i : ℕ) (found : List A) (old mid : Both)
      → drop i all ≡ [] → Reads all i found old mid → Gave (map of) (list all) old found mid
  read_all nil all i found old mid e h =
      none_left (map of) (list all) old mid found
      (left_as (list all) (list (drop i all) >>= (λ ys. pure (map of found ++ ys))) (pure (map of found)) old mid
      (λ u. ap (λ xs. (list xs >>= (λ ys. pure (map of found ++ ys))) u) e
      ∙ (ap (λ w. (w >>= (λ ys. pure (map of found ++ ys))) u) nil ∙ ap (λ zs. (zs, u)) (append_none (map of found)))) h)

  pub none_read : (all : List X) (found : List A) (s : Both) → found ≡ [] → Reads all 0 found s s
  none_read all found s e = subst (λ f. Reads all 0 f s s) (sym e) (λ t i. (t, (i, refl)))

  pub one_read : (cons : (x : X) (xs : List X) → list (x ∷ xs) ≡ (one x >>= (λ y. list xs >>= (λ ys. pure (y ∷ ys)))))
      → (all : List X) (i : ℕ) (x : X) (found more : List A) (a : A) (old mid new : Both)
      → drop i all ≡ x ∷ drop (i + 1) all → more ≡ found ++ a ∷ [] → Reads all i found old mid → Gave of (one x) mid a new → Reads all (i + 1) more old new
  one_read cons all i x found more a old mid new e m h g = subst (λ f. Reads all (i + 1) f old new) (sym m) (read_one cons all i x found a old mid new e h g)
