-- The first of the numbers that aren't marked is the first fault of what isn't determined.
use Rattle.std.proofs.Common.{◌≡◌, ◌⊎◌, inl, inr, ℕ, zero, suc, ◌<◌, nat_lt, ◌==◌, Bool, true, false, ◌&&◌, ◌||◌, cond, List, [], ◌∷◌, map, length, get_or, slice_get, Option, Some, None, refl, sym, ap, subst, ◌∙◌, arith}
use Rattle.std.proofs.lemmas.Bool.Decides.{nat_tests}
use Rattle.pdll_syntax.specs.declared.fault.PatFault.{PatFault}
use Rattle.native_set.specs.declared.native.Kind.{Kind}
use Rattle.rewrite_model.specs.Determined.{Determined}
use Rattle.rewrite_model.specs.Own.{Own, IsOpen, IsDeterminedAlone}
use Rattle.pdll_expand.specs.Marking.{MarkDetermined}
use Rattle.pdll_types.specs.Accepted.{code_number, is_before, open_kind, IsOpenFault, IsFirstOpen}
use Rattle.rewrite_model.specs.Pattern.{Demand}
use Rattle.pdll_types.specs.Judged.{Opened}
use Rattle.pdll_types.specs.Walk.{noted}
use Rattle.pdll_types.specs.Open.{noted_there, noted_if, noted_number, least_open}

-- ---- the order of faults

not_itself : (f : PatFault) → is_before f f ≡ false
not_itself f = lower f.at (code_number f.kind) where
  lower : (a b : ℕ) → (nat_lt a a || ((a == a) && nat_lt b b)) ≡ false
  lower a b = grind (arith, nat_tests)

-- what isn't before one isn't before what that one isn't behind
not_before : (f g h : PatFault) → is_before g f ≡ false → is_before h g ≡ false → is_before h f ≡ false
not_before f g h p q = lower_not f.at (code_number f.kind) g.at (code_number g.kind) h.at (code_number h.kind) p q where
  lower_not : (a b c d e f : ℕ) → (nat_lt c a || ((c == a) && nat_lt d b)) ≡ false → (nat_lt e c || ((e == c) && nat_lt f d)) ≡ false
      → (nat_lt e a || ((e == a) && nat_lt f b)) ≡ false
  lower_not a b c d e f h k = grind (arith, nat_tests)

turned : (f g : PatFault) → is_before f g ≡ true → is_before g f ≡ false
turned f g p = asym f.at (code_number f.kind) g.at (code_number g.kind) p where
  asym : (a b c d : ℕ) → (nat_lt a c || ((a == c) && nat_lt b d)) ≡ true → (nat_lt c a || ((c == a) && nat_lt d b)) ≡ false
  asym a b c d h = grind (arith, nat_tests)

-- ---- the numbers that aren't marked

module _ (kinds : List Kind) (places : List ℕ) (marks : List Bool) where
  -- a fault of a number below this one that isn't marked
  pub record IsUnmarked (n : ℕ) (f : PatFault) : Type 0 where
    pub number : ℕ
    pub below : number < n
    pub plain : Kind
    pub kind : slice_get kinds number ≡ Some plain
    pub place : slice_get places number ≡ Some f.at
    pub unmarked : get_or marks number false ≡ false
    pub is_kind : f.kind ≡ open_kind plain

  -- the first of these, or none
  abbrev pub IsLeast : ℕ → Option PatFault → Type 0
  IsLeast n None = (f : PatFault) → IsUnmarked n f → ⊥
  IsLeast n (Some f) = IsUnmarked n f × ((g : PatFault) → IsUnmarked n g → is_before g f ≡ false)

  up : (n : ℕ) (f : PatFault) → IsUnmarked n f → IsUnmarked (suc n) f
  up n f u = record { number = u.number; below = let b = u.below in omega arith; plain = u.plain; kind = u.kind; place = u.place; unmarked = u.unmarked; is_kind = u.is_kind }

  -- of a greater number it is that one's, or one below
  down : (n : ℕ) (f : PatFault) → (u : IsUnmarked (suc n) f) → (u.number ≡ n) ⊎ IsUnmarked n f
  down n f u = by (u.number == n) refl where
    by : (b : Bool) → (u.number == n) ≡ b → (u.number ≡ n) ⊎ IsUnmarked n f
    by true e = inl (grind (arith, nat_tests))
    by false e = inr (record { number = u.number; below = less u.number n u.below e; plain = u.plain; kind = u.kind; place = u.place; unmarked = u.unmarked; is_kind = u.is_kind }) where
      less : (a b : ℕ) → a < suc b → (a == b) ≡ false → a < b
      less a b h k = grind (arith, nat_tests)

  -- a number that adds none
  adds_none : (n : ℕ) (o : Option PatFault) → ((f : PatFault) (u : IsUnmarked (suc n) f) → u.number ≡ n → ⊥) → IsLeast n o → IsLeast (suc n) o
  adds_none n None never h = λ f u. by f u (down n f u) where
    by : (f : PatFault) (u : IsUnmarked (suc n) f) → (u.number ≡ n) ⊎ IsUnmarked n f → ⊥
    by f u (inl e) = never f u e
    by f u (inr v) = h f v
  adds_none n (Some f) never h = (up n f h.0, λ g u. by g u (down n g u)) where
    by : (g : PatFault) (u : IsUnmarked (suc n) g) → (u.number ≡ n) ⊎ IsUnmarked n g → is_before g f ≡ false
    by g u (inl e) = elim (never g u e) [ ]
    by g u (inr v) = h.1 g v

  -- a number that adds this one
  adds_one : (n : ℕ) (o : Option PatFault) (e : PatFault) → IsUnmarked (suc n) e → ((f : PatFault) (u : IsUnmarked (suc n) f) → u.number ≡ n → f ≡ e) → IsLeast n o
      → IsLeast (suc n) (noted e o)
  adds_one n None e is only h = (is, λ g u. by g u (down n g u)) where
    by : (g : PatFault) (u : IsUnmarked (suc n) g) → (u.number ≡ n) ⊎ IsUnmarked n g → is_before g e ≡ false
    by g u (inl s) = subst (λ z. is_before z e ≡ false) (sym (only g u s)) (not_itself e)
    by g u (inr v) = elim (h g v) [ ]
  adds_one n (Some f) e is only h = by_test (is_before e f) refl where
    all_after : (k : PatFault) → is_before e k ≡ false → is_before f k ≡ false → (g : PatFault) (u : IsUnmarked (suc n) g) → (u.number ≡ n) ⊎ IsUnmarked n g → is_before g k ≡ false
    all_after k p q g u (inl s) = subst (λ z. is_before z k ≡ false) (sym (only g u s)) p
    all_after k p q g u (inr v) = not_before k f g q (h.1 g v)

    by_test : (b : Bool) → is_before e f ≡ b → IsLeast (suc n) (cond b (Some e) (Some f))
    by_test true t = (is, λ g u. all_after e (not_itself e) (turned e f t) g u (down n g u))
    by_test false t = (up n f h.0, λ g u. all_after f t (not_itself f) g u (down n g u))

  same_some : {A : Type 0} (x y : A) → Some x ≡ Some y → x ≡ y
  same_some x y h = cc

  fault_same : (f : PatFault) (k : Kind) (at : ℕ) → f.kind ≡ open_kind k → f.at ≡ at → f ≡ record { kind = open_kind k; at = at }
  fault_same f k at p q = ap (λ z. record { kind = z; at = f.at }) p ∙ ap (λ z. record { kind = open_kind k; at = z }) q

  step : (n : ℕ) (m : Bool) (k : Option Kind) (p : Option ℕ) (o : Option PatFault) → get_or marks n false ≡ m → slice_get kinds n ≡ k → slice_get places n ≡ p
      → IsLeast n o → IsLeast (suc n) (noted_if m k p o)
  step n true k p o em ek ep h = adds_none n o (λ f u e. marked f u e) h where
    marked : (f : PatFault) (u : IsUnmarked (suc n) f) → u.number ≡ n → ⊥
    marked f u e = cc (sym em ∙ (ap (λ z. get_or marks z false) (sym e) ∙ u.unmarked))
  step n false None p o em ek ep h = adds_none n o (λ f u e. without f u e) h where
    without : (f : PatFault) (u : IsUnmarked (suc n) f) → u.number ≡ n → ⊥
    without f u e = cc (sym ek ∙ (ap (slice_get kinds) (sym e) ∙ u.kind))
  step n false (Some k) None o em ek ep h = adds_none n o (λ f u e. without f u e) h where
    without : (f : PatFault) (u : IsUnmarked (suc n) f) → u.number ≡ n → ⊥
    without f u e = cc (sym ep ∙ (ap (slice_get places) (sym e) ∙ u.place))
  step n false (Some k) (Some at) o em ek ep h =
      adds_one n o (record { kind = open_kind k; at = at })
      (record { number = n; below = omega arith; plain = k; kind = ek; place = ep; unmarked = em; is_kind = refl }) only h where
        only : (f : PatFault) (u : IsUnmarked (suc n) f) → u.number ≡ n → f ≡ record { kind = open_kind k; at = at }
        only f u e =
            let sk = same_some u.plain k (sym u.kind ∙ (ap (slice_get kinds) e ∙ ek)) in
            let sp = same_some f.at at (sym u.place ∙ (ap (slice_get places) e ∙ ep)) in
            fault_same f k at (u.is_kind ∙ ap open_kind sk) sp

  pub is_least : (n : ℕ) → IsLeast n (least_open kinds places marks n)
  is_least zero = λ f u. let b = u.below in absurd (omega arith)
  is_least (suc n) = step n (get_or marks n false) (slice_get kinds n) (slice_get places n) (least_open kinds places marks n) refl refl refl (is_least n)

-- ---- a declaration

slice_there : {A : Type 0} (xs : List A) (n : ℕ) → n < length xs → (x : A) × (slice_get xs n ≡ Some x)
slice_there [] n h = absurd (omega arith)
slice_there (x ∷ xs) zero h = (x, refl)
slice_there (x ∷ xs) (suc n) h = slice_there xs n (omega arith)

pub slice_within : {A : Type 0} (xs : List A) (n : ℕ) (x : A) → slice_get xs n ≡ Some x → n < length xs
slice_within [] zero x h = absurd (cc)
slice_within [] (suc n) x h = absurd (cc)
slice_within (y ∷ xs) zero x h = omega arith
slice_within (y ∷ xs) (suc n) x h = let k = slice_within xs n x h in omega arith

module _ (o : Own) (marks : List Bool) (placed : length o.scene.places ≡ length o.scene.kinds) (exact : MarkDetermined o.given o.scene.demands marks) where
  open_one : (f : PatFault) → IsUnmarked o.scene.kinds o.scene.places marks (length o.scene.kinds) f → IsOpenFault o f
  open_one f u = record {
    number = u.number;
    plain = u.plain;
    is_open = record { kind = u.kind; place = u.place; is_open = λ d. cc (sym u.unmarked ∙ exact.complete u.number d) };
    is_kind = u.is_kind;
  }

  unmarked_one : (g : PatFault) → IsOpenFault o g → IsUnmarked o.scene.kinds o.scene.places marks (length o.scene.kinds) g
  unmarked_one g u = by (get_or marks u.number false) refl where
    by : (b : Bool) → get_or marks u.number false ≡ b → IsUnmarked o.scene.kinds o.scene.places marks (length o.scene.kinds) g
    by true e = elim (u.is_open.is_open (exact.sound u.number e)) [ ]
    by false e = record {
      number = u.number;
      below = slice_within o.scene.kinds u.number u.plain u.is_open.kind;
      plain = u.plain;
      kind = u.is_open.kind;
      place = u.is_open.place;
      unmarked = e;
      is_kind = u.is_kind;
    }

  none_open : ((f : PatFault) → IsUnmarked o.scene.kinds o.scene.places marks (length o.scene.kinds) f → ⊥) → IsDeterminedAlone o
  none_open none x h = by (get_or marks x false) refl where
    by : (b : Bool) → get_or marks x false ≡ b → Determined o.given o.scene.demands x
    by true e = exact.sound x e
    by false e =
        let k = slice_there o.scene.kinds x h in
        let p = slice_there o.scene.places x (subst (λ n. x < n) (sym placed) h) in
        elim (none (record { kind = open_kind k.0; at = p.0 })
        (record { number = x; below = h; plain = k.0; kind = k.1; place = p.1; unmarked = e; is_kind = refl })) [ ]

  opened_by : (r : Option PatFault) → IsLeast o.scene.kinds o.scene.places marks (length o.scene.kinds) r → Opened o r
  opened_by None h = none_open h
  opened_by (Some f) h = record { is_one = open_one f h.0; is_first = λ g u. h.1 g (unmarked_one g u) }

  pub opened : Opened o (least_open o.scene.kinds o.scene.places marks (length o.scene.kinds))
  opened = opened_by (least_open o.scene.kinds o.scene.places marks (length o.scene.kinds)) (is_least o.scene.kinds o.scene.places marks (length o.scene.kinds))

-- What is found over what stands there of a declaration.
pub opens : (o : Own) (kinds : List Kind) (places given : List ℕ) (demands : List Demand) (marks : List Bool) (r : Option PatFault)
    → kinds ≡ o.scene.kinds → places ≡ o.scene.places → demands ≡ o.scene.demands → given ≡ o.given → length o.scene.places ≡ length o.scene.kinds
    → MarkDetermined given demands marks → r ≡ least_open kinds places marks (length kinds) → Opened o r
opens o kinds places given demands marks r same_kinds same_places same_demands same_given placed exact found =
    let here : MarkDetermined o.given o.scene.demands marks =
    subst (λ g. MarkDetermined g o.scene.demands marks) same_given (subst (λ d. MarkDetermined given d marks) same_demands exact) in
    let same : r ≡ least_open o.scene.kinds o.scene.places marks (length o.scene.kinds) =
    found ∙ (ap (λ ks. least_open ks places marks (length ks)) same_kinds ∙ ap (λ ps. least_open o.scene.kinds ps marks (length o.scene.kinds)) same_places) in
    subst (Opened o) (sym same) (opened o marks placed here)
