-- The first of faults doesn't depend on the order in which they are looked at.
use Rattle.std.proofs.Common.{◌≡◌, ℕ, zero, suc, ◌==◌, nat_lt, Bool, true, false, ◌&&◌, ◌||◌, cond, List, [], ◌∷◌, ◌++◌, Option, Some, None, refl, sym, ap, ◌∙◌, arith}
use Rattle.std.proofs.lemmas.Bool.Decides.{nat_tests}
use Rattle.pdll_syntax.specs.declared.fault.PatFault.{PatFault}
use Rattle.pdll_syntax.specs.declared.fault.PatKind.{PatKind}
use Rattle.pdll_syntax.specs.declared.fault.PatKind.TheVariants.{TooLong, NotUtf8, BadByte, BadString, Syntax, CppBody, Include, TooMany, BenefitRange, Undefined, Redefined, WrongKind, WrongArity, UnknownNative, BadLiteral, TwoRanges, MultiRoot, Undetermined, NoResultTypes, BadRoot, AfterRoot, WrongPart}
use Rattle.pdll_types.specs.Accepted.{code_number, is_before, first_with, first_of_faults}
use Rattle.pdll_types.specs.Walk.{noted, all_noted}

-- ---- a code tells its kind

below : List PatKind → ℕ → PatKind
below [] n = TooLong
below (k ∷ ks) zero = k
below (k ∷ ks) (suc n) = below ks n

kinds : List PatKind
kinds =
    TooLong ∷ TooLong ∷ NotUtf8 ∷ BadByte ∷ BadString ∷ Syntax ∷ CppBody ∷ Include ∷ TooMany ∷ BenefitRange ∷ Undefined ∷ Redefined ∷ WrongKind
    ∷ WrongArity ∷ UnknownNative ∷ BadLiteral ∷ TwoRanges ∷ MultiRoot ∷ Undetermined ∷ NoResultTypes ∷ BadRoot ∷ AfterRoot ∷ WrongPart ∷ []

kind_back : (k : PatKind) → below kinds (code_number k) ≡ k
unfolding below kinds
kind_back TooLong = refl
kind_back NotUtf8 = refl
kind_back BadByte = refl
kind_back BadString = refl
kind_back Syntax = refl
kind_back CppBody = refl
kind_back Include = refl
kind_back TooMany = refl
kind_back BenefitRange = refl
kind_back Undefined = refl
kind_back Redefined = refl
kind_back WrongKind = refl
kind_back WrongArity = refl
kind_back UnknownNative = refl
kind_back BadLiteral = refl
kind_back TwoRanges = refl
kind_back MultiRoot = refl
kind_back Undetermined = refl
kind_back NoResultTypes = refl
kind_back BadRoot = refl
kind_back AfterRoot = refl
kind_back WrongPart = refl

same_fault : (f g : PatFault) → f.at ≡ g.at → code_number f.kind ≡ code_number g.kind → f ≡ g
same_fault f g p q =
    let k = sym (kind_back f.kind) ∙ (ap (below kinds) q ∙ kind_back g.kind) in
    ap (λ at. record { kind = f.kind; at = at }) p ∙ ap (λ j. record { kind = j; at = g.at }) k

-- ---- the order of faults, by two numbers each

abbrev lower : ℕ → ℕ → ℕ → ℕ → Bool
lower a b c d = nat_lt a c || ((a == c) && nat_lt b d)

lower_trans : (a b c d e f : ℕ) → lower c d a b ≡ true → lower e f c d ≡ true → lower e f a b ≡ true
lower_trans a b c d e f h k = grind (arith, nat_tests)

lower_not : (a b c d e f : ℕ) → lower c d a b ≡ false → lower e f c d ≡ false → lower e f a b ≡ false
lower_not a b c d e f h k = grind (arith, nat_tests)

lower_asym : (a b c d : ℕ) → lower a b c d ≡ true → lower c d a b ≡ false
lower_asym a b c d h = grind (arith, nat_tests)

same_first : (a b c d : ℕ) → lower a b c d ≡ false → lower c d a b ≡ false → a ≡ c
same_first a b c d h k = grind (arith, nat_tests)

same_second : (a b c d : ℕ) → lower a b c d ≡ false → lower c d a b ≡ false → b ≡ d
same_second a b c d h k = grind (arith, nat_tests)

-- ---- the first of two

unfoldable pub either : Option PatFault → Option PatFault → Option PatFault
either None y = y
either (Some f) None = Some f
either (Some f) (Some g) = cond (is_before g f) (Some g) (Some f)

swap_by : (f g : PatFault) (b d : Bool) → is_before g f ≡ b → is_before f g ≡ d → cond b (Some g) (Some f) ≡ cond d (Some f) (Some g)
swap_by f g true true p q = absurd (let e = lower_asym g.at (code_number g.kind) f.at (code_number f.kind) p in cc)
swap_by f g true false p q = refl
swap_by f g false true p q = refl
swap_by f g false false p q =
    let e = same_first g.at (code_number g.kind) f.at (code_number f.kind) p q in
    let k = same_second g.at (code_number g.kind) f.at (code_number f.kind) p q in
    ap (λ x. Some x) (sym (same_fault g f e k))

pub either_swap : (x y : Option PatFault) → either x y ≡ either y x
unfolding either
either_swap None None = refl
either_swap None (Some g) = refl
either_swap (Some f) None = refl
either_swap (Some f) (Some g) = swap_by f g _ _ refl refl

three_by : (f g h : PatFault) (a b : Bool) → is_before g f ≡ a → is_before h g ≡ b
    → either (cond a (Some g) (Some f)) (Some h) ≡ either (Some f) (cond b (Some h) (Some g))
unfolding either
three_by f g h true true p q =
    let e = lower_trans f.at (code_number f.kind) g.at (code_number g.kind) h.at (code_number h.kind) p q in
    ap (λ b. cond b (Some h) (Some g)) q ∙ sym (ap (λ b. cond b (Some h) (Some f)) e)
three_by f g h true false p q = ap (λ b. cond b (Some h) (Some g)) q ∙ sym (ap (λ b. cond b (Some g) (Some f)) p)
three_by f g h false true p q = refl
three_by f g h false false p q =
    let e = lower_not f.at (code_number f.kind) g.at (code_number g.kind) h.at (code_number h.kind) p q in
    ap (λ b. cond b (Some h) (Some f)) e ∙ sym (ap (λ b. cond b (Some g) (Some f)) p)

pub none_right : (o : Option PatFault) → either o None ≡ o
unfolding either
none_right None = refl
none_right (Some f) = refl

pub either_three : (x y z : Option PatFault) → either (either x y) z ≡ either x (either y z)
unfolding either
either_three None y z = refl
either_three (Some f) None z = refl
either_three (Some f) (Some g) None = none_right (cond (is_before g f) (Some g) (Some f))
either_three (Some f) (Some g) (Some h) = three_by f g h _ _ refl refl

-- the same four in another order
pub either_four : (a x b y : Option PatFault) → either (either a x) (either b y) ≡ either (either a b) (either x y)
either_four a x b y =
    either_three a x (either b y)
    ∙ (ap (either a) (sym (either_three x b y) ∙ (ap (λ z. either z y) (either_swap x b) ∙ either_three b x y)) ∙ sym (either_three a b (either x y)))

-- ---- the first of many

first_is : (f : PatFault) (o : Option PatFault) → first_with f o ≡ either (Some f) o
unfolding either
first_is f None = refl
first_is f (Some g) = refl

noted_is : (f : PatFault) (o : Option PatFault) → noted f o ≡ either o (Some f)
unfolding either
noted_is f None = refl
noted_is f (Some g) = refl

pub first_both : (fs gs : List PatFault) → first_of_faults (fs ++ gs) ≡ either (first_of_faults fs) (first_of_faults gs)
unfolding either
first_both [] gs = refl
first_both (f ∷ fs) gs =
    first_is f (first_of_faults (fs ++ gs)) ∙ (ap (either (Some f)) (first_both fs gs)
    ∙ (sym (either_three (Some f) (first_of_faults fs) (first_of_faults gs)) ∙ ap (λ o. either o (first_of_faults gs)) (sym (first_is f (first_of_faults fs)))))

-- noted one after the other they give the first one too
pub noted_first : (fs : List PatFault) (o : Option PatFault) → all_noted fs o ≡ either o (first_of_faults fs)
noted_first [] o = sym (none_right o)
noted_first (f ∷ fs) o =
    noted_first fs (noted f o) ∙ (ap (λ p. either p (first_of_faults fs)) (noted_is f o)
    ∙ (either_three o (Some f) (first_of_faults fs) ∙ ap (either o) (sym (first_is f (first_of_faults fs)))))
