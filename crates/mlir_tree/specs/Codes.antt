-- Each tree as a list of numbers whose order is the order of the trees. By it the logic stores a tree.
use Rattle.std.proofs.Common.{◌≡◌, ◌↔◌, IsTrue, ℕ, suc, Bool, true, false, List, [], ◌∷◌, Option, Some, None, refl, sym as back, ap, ◌∙◌, arith}
use Rattle.std.specs.Coded.{Coded, coded_ℕ, coded_list}
use Rattle.std.specs.Cmp.{IsTotalOrder}
use Rattle.std.specs.Cmp.Lexicographic.{on_texts}
use Rattle.std.specs.declared.cmp.Ordering.{Ordering}
use Rattle.std.specs.declared.cmp.Ordering.TheVariants.{Less, Equal, Greater}
use Rattle.std.specs.Ordering.{is_eq, ordering_then, ordering_reverse, nat_cmp, bool_cmp}
use Rattle.std.proofs.lemmas.Bool.Decides.{nat_tests}
use Rattle.std.proofs.lemmas.Cmp.{nat_cmp_total, nat_list_cmp_total, tied_itself, ranked}
use Rattle.mlir_tree.specs.declared.sign.Sign.{Sign}
use Rattle.mlir_tree.specs.declared.sign.Sign.TheVariants.{Signless, Signed, Unsigned}
use Rattle.mlir_tree.specs.declared.number.Number.{Number}
use Rattle.mlir_tree.specs.Tree.{Ty, int, index, func, word, Tys, no_tys, ty_then, tys}
use Rattle.mlir_tree.specs.Tree.{Attr, unit, int_attr, num, str, sym, of_ty, array, dict, kept, Attrs, no_attrs, attr_then, Entries, no_entries, entry_then, entries}
use Rattle.mlir_tree.specs.Order.{sign_rank, text_cmp, texts_cmp, ty_cmp, tys_cmp, ty_option_cmp, number_cmp, attr_cmp, attrs_cmp, entries_cmp}

-- Each takes what follows.
abbrev pub flat_text : List ℕ → List ℕ → List ℕ
flat_text [] r = 0 ∷ r
flat_text (b ∷ t) r = suc b ∷ flat_text t r

abbrev pub flat_texts : List (List ℕ) → List ℕ → List ℕ
flat_texts [] r = 0 ∷ r
flat_texts (t ∷ ts) r = 1 ∷ flat_text t (flat_texts ts r)

abbrev mutual
  pub flat_ty : Ty → List ℕ → List ℕ
  flat_ty (int s w) r = 0 ∷ sign_rank s ∷ w ∷ r
  flat_ty index r = 1 ∷ r
  flat_ty (func xs ys) r = 2 ∷ flat_tys xs (flat_tys ys r)
  flat_ty (word t) r = 3 ∷ flat_text t r

  pub flat_tys : Tys → List ℕ → List ℕ
  flat_tys no_tys r = 0 ∷ r
  flat_tys (ty_then t ts) r = 1 ∷ flat_ty t (flat_tys ts r)

abbrev pub flat_option : Option Ty → List ℕ → List ℕ
flat_option None r = 0 ∷ r
flat_option (Some t) r = 1 ∷ flat_ty t r

abbrev pub bool_rank : Bool → ℕ
bool_rank false = 0
bool_rank true = 1

abbrev mutual
  pub flat_attr : Attr → List ℕ → List ℕ
  flat_attr unit r = 0 ∷ r
  flat_attr (int_attr n t) r = 1 ∷ bool_rank n.neg ∷ n.mag ∷ flat_ty t r
  flat_attr (num s t) r = 2 ∷ flat_text s (flat_ty t r)
  flat_attr (str s t) r = 3 ∷ flat_text s (flat_option t r)
  flat_attr (sym ns) r = 4 ∷ flat_texts ns r
  flat_attr (of_ty t) r = 5 ∷ flat_ty t r
  flat_attr (array xs) r = 6 ∷ flat_attrs xs r
  flat_attr (dict es) r = 7 ∷ flat_entries es r
  flat_attr (kept s t) r = 8 ∷ flat_text s (flat_option t r)

  pub flat_attrs : Attrs → List ℕ → List ℕ
  flat_attrs no_attrs r = 0 ∷ r
  flat_attrs (attr_then x xs) r = 1 ∷ flat_attr x (flat_attrs xs r)

  pub flat_entries : Entries → List ℕ → List ℕ
  flat_entries no_entries r = 0 ∷ r
  flat_entries (entry_then n x xs) r = 1 ∷ flat_text n (flat_attr x (flat_entries xs r))

-- ---- the order of the lists is the order of the trees

pub then_assoc : (a b c : Ordering) → ordering_then a (ordering_then b c) ≡ ordering_then (ordering_then a b) c
then_assoc Less b c = refl
then_assoc Equal b c = refl
then_assoc Greater b c = refl

same : (x : ℕ) → nat_cmp x x ≡ Equal
same = tied_itself nat_cmp_total

pub suc_cmp : (x y : ℕ) → nat_cmp (suc x) (suc y) ≡ nat_cmp x y
suc_cmp x y = grind (arith, nat_tests)

pub zero_cmp : (y : ℕ) → nat_cmp 0 (suc y) ≡ Less
zero_cmp y = grind (arith, nat_tests)

pub cmp_zero : (y : ℕ) → nat_cmp (suc y) 0 ≡ Greater
cmp_zero y = grind (arith, nat_tests)

-- after a front that is settled
onto : (a b y : Ordering) {x : Ordering} → x ≡ ordering_then b y → ordering_then a x ≡ ordering_then (ordering_then a b) y
onto a b y p = ap (ordering_then a) p ∙ then_assoc a b y

pub text_flat : (s t r u : List ℕ) → text_cmp (flat_text s r) (flat_text t u) ≡ ordering_then (text_cmp s t) (text_cmp r u)
text_flat [] [] r u = refl
text_flat [] (y ∷ t) r u = ap (λ o. ordering_then o (text_cmp r (flat_text t u))) (zero_cmp y)
text_flat (x ∷ s) [] r u = ap (λ o. ordering_then o (text_cmp (flat_text s r) u)) (cmp_zero x)
text_flat (x ∷ s) (y ∷ t) r u =
    ap (λ o. ordering_then o (text_cmp (flat_text s r) (flat_text t u))) (suc_cmp x y) ∙ onto (nat_cmp x y) (text_cmp s t) _ (text_flat s t r u)

pub texts_flat : (s t : List (List ℕ)) (r u : List ℕ) → text_cmp (flat_texts s r) (flat_texts t u) ≡ ordering_then (texts_cmp s t) (text_cmp r u)
texts_flat [] [] r u = refl
texts_flat [] (y ∷ t) r u = refl
texts_flat (x ∷ s) [] r u = refl
texts_flat (x ∷ s) (y ∷ t) r u = text_flat x y (flat_texts s r) (flat_texts t u) ∙ onto (text_cmp x y) (texts_cmp s t) _ (texts_flat s t r u)

mutual
  pub ty_flat : (x y : Ty) (r u : List ℕ) → text_cmp (flat_ty x r) (flat_ty y u) ≡ ordering_then (ty_cmp x y) (text_cmp r u)
  ty_flat (int s w) (int t v) r u = onto (nat_cmp (sign_rank s) (sign_rank t)) (nat_cmp w v) _ refl
  ty_flat (func a b) (func c d) r u = tys_flat a c (flat_tys b r) (flat_tys d u) ∙ onto (tys_cmp a c) (tys_cmp b d) _ (tys_flat b d r u)
  ty_flat (word s) (word t) r u = text_flat s t r u
  ty_flat index index r u = refl
  ty_flat x y r u = refl

  pub tys_flat : (x y : Tys) (r u : List ℕ) → text_cmp (flat_tys x r) (flat_tys y u) ≡ ordering_then (tys_cmp x y) (text_cmp r u)
  tys_flat no_tys no_tys r u = refl
  tys_flat no_tys (ty_then y ys) r u = refl
  tys_flat (ty_then x xs) no_tys r u = refl
  tys_flat (ty_then x xs) (ty_then y ys) r u = ty_flat x y (flat_tys xs r) (flat_tys ys u) ∙ onto (ty_cmp x y) (tys_cmp xs ys) _ (tys_flat xs ys r u)

option_flat : (x y : Option Ty) (r u : List ℕ) → text_cmp (flat_option x r) (flat_option y u) ≡ ordering_then (ty_option_cmp x y) (text_cmp r u)
option_flat None None r u = refl
option_flat None (Some y) r u = refl
option_flat (Some x) None r u = refl
option_flat (Some x) (Some y) r u = ty_flat x y r u

bool_ranks : (x y : Bool) → nat_cmp (bool_rank x) (bool_rank y) ≡ bool_cmp x y
bool_ranks false false = refl
bool_ranks false true = refl
bool_ranks true false = refl
bool_ranks true true = refl

mutual
  pub attr_flat : (x y : Attr) (r u : List ℕ) → text_cmp (flat_attr x r) (flat_attr y u) ≡ ordering_then (attr_cmp x y) (text_cmp r u)
  attr_flat (int_attr m t) (int_attr n v) r u =
      ap (λ o. ordering_then o (ordering_then (nat_cmp m.mag n.mag) (text_cmp (flat_ty t r) (flat_ty v u)))) (bool_ranks m.neg n.neg)
      ∙ (then_assoc (bool_cmp m.neg n.neg) (nat_cmp m.mag n.mag) (text_cmp (flat_ty t r) (flat_ty v u)) ∙ onto (number_cmp m n) (ty_cmp t v) _ (ty_flat t v r u))
  attr_flat (num m t) (num n v) r u = text_flat m n (flat_ty t r) (flat_ty v u) ∙ onto (text_cmp m n) (ty_cmp t v) _ (ty_flat t v r u)
  attr_flat (str m t) (str n v) r u = text_flat m n (flat_option t r) (flat_option v u) ∙ onto (text_cmp m n) (ty_option_cmp t v) _ (option_flat t v r u)
  attr_flat unit unit r u = refl
  attr_flat (sym m) (sym n) r u = texts_flat m n r u
  attr_flat (of_ty t) (of_ty v) r u = ty_flat t v r u
  attr_flat (array xs) (array ys) r u = attrs_flat xs ys r u
  attr_flat (dict xs) (dict ys) r u = entries_flat xs ys r u
  attr_flat (kept m t) (kept n v) r u = text_flat m n (flat_option t r) (flat_option v u) ∙ onto (text_cmp m n) (ty_option_cmp t v) _ (option_flat t v r u)
  attr_flat x y r u = refl

  pub attrs_flat : (x y : Attrs) (r u : List ℕ) → text_cmp (flat_attrs x r) (flat_attrs y u) ≡ ordering_then (attrs_cmp x y) (text_cmp r u)
  attrs_flat no_attrs no_attrs r u = refl
  attrs_flat no_attrs (attr_then y ys) r u = refl
  attrs_flat (attr_then x xs) no_attrs r u = refl
  attrs_flat (attr_then x xs) (attr_then y ys) r u = attr_flat x y (flat_attrs xs r) (flat_attrs ys u) ∙ onto (attr_cmp x y) (attrs_cmp xs ys) _ (attrs_flat xs ys r u)

  pub entries_flat : (x y : Entries) (r u : List ℕ) → text_cmp (flat_entries x r) (flat_entries y u) ≡ ordering_then (entries_cmp x y) (text_cmp r u)
  entries_flat no_entries no_entries r u = refl
  entries_flat no_entries (entry_then n y ys) r u = refl
  entries_flat (entry_then m x xs) no_entries r u = refl
  entries_flat (entry_then m x xs) (entry_then n y ys) r u =
      text_flat m n (flat_attr x (flat_entries xs r)) (flat_attr y (flat_entries ys u))
      ∙ onto (text_cmp m n) (ordering_then (attr_cmp x y) (entries_cmp xs ys)) _ (attr_flat x y (flat_entries xs r) (flat_entries ys u) ∙ onto (attr_cmp x y) (entries_cmp xs ys) _ (entries_flat xs ys r u))

-- ---- trees that are not told apart are the same

both : (a b : Ordering) → ordering_then a b ≡ Equal → (a ≡ Equal) × (b ≡ Equal)
both Less b p = absurd (cc)
both Equal b p = (refl, p)
both Greater b p = absurd (cc)

nat_same : (x y : ℕ) → nat_cmp x y ≡ Equal → x ≡ y
nat_same x y p = ranked x y Equal (back p)

bool_same : (x y : Bool) → bool_cmp x y ≡ Equal → x ≡ y
bool_same false false p = refl
bool_same false true p = absurd (cc)
bool_same true false p = absurd (cc)
bool_same true true p = refl

text_same : (x y : List ℕ) → text_cmp x y ≡ Equal → x ≡ y
text_same [] [] p = refl
text_same [] (y ∷ ys) p = absurd (cc)
text_same (x ∷ xs) [] p = absurd (cc)
text_same (x ∷ xs) (y ∷ ys) p = let q = both (nat_cmp x y) (text_cmp xs ys) p in λ i. nat_same x y q.0 i ∷ text_same xs ys q.1 i

texts_same : (x y : List (List ℕ)) → texts_cmp x y ≡ Equal → x ≡ y
texts_same [] [] p = refl
texts_same [] (y ∷ ys) p = absurd (cc)
texts_same (x ∷ xs) [] p = absurd (cc)
texts_same (x ∷ xs) (y ∷ ys) p = let q = both (text_cmp x y) (texts_cmp xs ys) p in λ i. text_same x y q.0 i ∷ texts_same xs ys q.1 i

sign_same : (x y : Sign) → nat_cmp (sign_rank x) (sign_rank y) ≡ Equal → x ≡ y
sign_same Signless Signless p = refl
sign_same Signed Signed p = refl
sign_same Unsigned Unsigned p = refl
sign_same x y p = absurd (cc)

mutual
  pub ty_same : (x y : Ty) → ty_cmp x y ≡ Equal → x ≡ y
  ty_same (int s w) (int t v) p = let q = both (nat_cmp (sign_rank s) (sign_rank t)) (nat_cmp w v) p in λ i. int (sign_same s t q.0 i) (nat_same w v q.1 i)
  ty_same index index p = refl
  ty_same (func a b) (func c d) p = let q = both (tys_cmp a c) (tys_cmp b d) p in λ i. func (tys_same a c q.0 i) (tys_same b d q.1 i)
  ty_same (word s) (word t) p = ap word (text_same s t p)
  ty_same x y p = absurd (cc)

  pub tys_same : (x y : Tys) → tys_cmp x y ≡ Equal → x ≡ y
  tys_same no_tys no_tys p = refl
  tys_same no_tys (ty_then y ys) p = absurd (cc)
  tys_same (ty_then x xs) no_tys p = absurd (cc)
  tys_same (ty_then x xs) (ty_then y ys) p = let q = both (ty_cmp x y) (tys_cmp xs ys) p in λ i. ty_then (ty_same x y q.0 i) (tys_same xs ys q.1 i)

option_same : (x y : Option Ty) → ty_option_cmp x y ≡ Equal → x ≡ y
option_same None None p = refl
option_same None (Some y) p = absurd (cc)
option_same (Some x) None p = absurd (cc)
option_same (Some x) (Some y) p = ap Some (ty_same x y p)

number_same : (x y : Number) → number_cmp x y ≡ Equal → x ≡ y
number_same x y p = let q = both (bool_cmp x.neg y.neg) (nat_cmp x.mag y.mag) p in λ i. record { neg = bool_same x.neg y.neg q.0 i; mag = nat_same x.mag y.mag q.1 i }

mutual
  pub attr_same : (x y : Attr) → attr_cmp x y ≡ Equal → x ≡ y
  attr_same unit unit p = refl
  attr_same (int_attr m t) (int_attr n u) p = let q = both (number_cmp m n) (ty_cmp t u) p in λ i. int_attr (number_same m n q.0 i) (ty_same t u q.1 i)
  attr_same (num m t) (num n u) p = let q = both (text_cmp m n) (ty_cmp t u) p in λ i. num (text_same m n q.0 i) (ty_same t u q.1 i)
  attr_same (str m t) (str n u) p = let q = both (text_cmp m n) (ty_option_cmp t u) p in λ i. str (text_same m n q.0 i) (option_same t u q.1 i)
  attr_same (sym m) (sym n) p = ap sym (texts_same m n p)
  attr_same (of_ty t) (of_ty u) p = ap of_ty (ty_same t u p)
  attr_same (array xs) (array ys) p = ap array (attrs_same xs ys p)
  attr_same (dict xs) (dict ys) p = ap dict (entries_same xs ys p)
  attr_same (kept m t) (kept n u) p = let q = both (text_cmp m n) (ty_option_cmp t u) p in λ i. kept (text_same m n q.0 i) (option_same t u q.1 i)
  attr_same x y p = absurd (cc)

  pub attrs_same : (x y : Attrs) → attrs_cmp x y ≡ Equal → x ≡ y
  attrs_same no_attrs no_attrs p = refl
  attrs_same no_attrs (attr_then y ys) p = absurd (cc)
  attrs_same (attr_then x xs) no_attrs p = absurd (cc)
  attrs_same (attr_then x xs) (attr_then y ys) p = let q = both (attr_cmp x y) (attrs_cmp xs ys) p in λ i. attr_then (attr_same x y q.0 i) (attrs_same xs ys q.1 i)

  pub entries_same : (x y : Entries) → entries_cmp x y ≡ Equal → x ≡ y
  entries_same no_entries no_entries p = refl
  entries_same no_entries (entry_then n y ys) p = absurd (cc)
  entries_same (entry_then m x xs) no_entries p = absurd (cc)
  entries_same (entry_then m x xs) (entry_then n y ys) p =
      let q = both (text_cmp m n) (ordering_then (attr_cmp x y) (entries_cmp xs ys)) p in
      let s = both (attr_cmp x y) (entries_cmp xs ys) q.1 in
      λ i. entry_then (text_same m n q.0 i) (attr_same x y s.0 i) (entries_same xs ys s.1 i)

-- ---- the laws

end_of : (a : Ordering) → ordering_then a Equal ≡ a
end_of Less = refl
end_of Equal = refl
end_of Greater = refl

pub ty_is_flat : (x y : Ty) → text_cmp (flat_ty x []) (flat_ty y []) ≡ ty_cmp x y
ty_is_flat x y = ty_flat x y [] [] ∙ end_of (ty_cmp x y)

pub attr_is_flat : (x y : Attr) → text_cmp (flat_attr x []) (flat_attr y []) ≡ attr_cmp x y
attr_is_flat x y = attr_flat x y [] [] ∙ end_of (attr_cmp x y)

-- an order that is that of texts
by_texts : {K : Type 0} (R : K → K → Ordering) (f : K → List ℕ) → ((x y : K) → text_cmp (f x) (f y) ≡ R x y) → IsTotalOrder R
by_texts R f is =
    let o = on_texts f in
    record {
      antisymm = λ x y. back (is x y) ∙ (o.antisymm x y ∙ ap ordering_reverse (is y x));
      trans = λ x y z p q. back (is x z) ∙ o.trans x y z (is x y ∙ p) (is y z ∙ q);
      congr = λ x y z p. back (is x z) ∙ (o.congr x y z (is x y ∙ p) ∙ is y z);
    }

pub ty_total : IsTotalOrder ty_cmp
ty_total = by_texts ty_cmp (λ t. flat_ty t []) ty_is_flat

pub attr_total : IsTotalOrder attr_cmp
attr_total = by_texts attr_cmp (λ t. flat_attr t []) attr_is_flat

abbrev pub coded_numbers : Coded (List ℕ)
coded_numbers = coded_list coded_ℕ

pub ty_inj : (x y : Ty) → coded_numbers.code (flat_ty x []) ≡ coded_numbers.code (flat_ty y []) → x ≡ y
ty_inj x y p =
    let e = coded_numbers.inj (flat_ty x []) (flat_ty y []) p in
    ty_same x y (back (ty_is_flat x y) ∙ (ap (text_cmp (flat_ty x [])) (back e) ∙ tied_itself nat_list_cmp_total (flat_ty x [])))

pub attr_inj : (x y : Attr) → coded_numbers.code (flat_attr x []) ≡ coded_numbers.code (flat_attr y []) → x ≡ y
attr_inj x y p =
    let e = coded_numbers.inj (flat_attr x []) (flat_attr y []) p in
    attr_same x y (back (attr_is_flat x y) ∙ (ap (text_cmp (flat_attr x [])) (back e) ∙ tied_itself nat_list_cmp_total (flat_attr x [])))

abbrev pub coded_ty : Coded Ty
coded_ty = record { code = λ t. coded_numbers.code (flat_ty t []); inj = ty_inj }

abbrev pub coded_attr : Coded Attr
coded_attr = record { code = λ t. coded_numbers.code (flat_attr t []); inj = attr_inj }

pub is_equal : (o : Ordering) → is_eq o ≡ true → o ≡ Equal
is_equal Less p = absurd (cc)
is_equal Equal p = refl
is_equal Greater p = absurd (cc)

-- the test of the order tells whether the trees are equal
pub ty_equal : (x y : Ty) (r : Bool) → r ≡ is_eq (ty_cmp x y) → IsTrue r ↔ (x ≡ y)
ty_equal x y r e =
    (λ h. ty_same x y (is_equal (ty_cmp x y) (back e ∙ h)), λ h. e ∙ (ap (λ z. is_eq (ty_cmp x z)) (back h) ∙ ap is_eq (tied_itself ty_total x)))

pub attr_equal : (x y : Attr) (r : Bool) → r ≡ is_eq (attr_cmp x y) → IsTrue r ↔ (x ≡ y)
attr_equal x y r e =
    (λ h. attr_same x y (is_equal (attr_cmp x y) (back e ∙ h)), λ h. e ∙ (ap (λ z. is_eq (attr_cmp x z)) (back h) ∙ ap is_eq (tied_itself attr_total x)))

pub tys_tied : (x : Tys) → tys_cmp x x ≡ Equal
tys_tied x = back (end_of (tys_cmp x x)) ∙ (back (tys_flat x x [] []) ∙ tied_itself nat_list_cmp_total (flat_tys x []))

pub entries_tied : (x : Entries) → entries_cmp x x ≡ Equal
entries_tied x = back (end_of (entries_cmp x x)) ∙ (back (entries_flat x x [] []) ∙ tied_itself nat_list_cmp_total (flat_entries x []))

-- the lists that stand for one tree are the same list
pub tys_inj : (a b : List Ty) → tys a ≡ tys b → a ≡ b
tys_inj [] [] p = refl
tys_inj [] (y ∷ b) p = absurd (cc)
tys_inj (x ∷ a) [] p = absurd (cc)
tys_inj (x ∷ a) (y ∷ b) p = let head : x ≡ y = cc in let tail : tys a ≡ tys b = cc in λ i. head i ∷ tys_inj a b tail i

pub entries_inj : (a b : List (List ℕ × Attr)) → entries a ≡ entries b → a ≡ b
entries_inj [] [] p = refl
entries_inj [] (y ∷ b) p = absurd (cc)
entries_inj (x ∷ a) [] p = absurd (cc)
entries_inj (x ∷ a) (y ∷ b) p =
    let name : x.0 ≡ y.0 = cc in
    let value : x.1 ≡ y.1 = cc in
    let tail : entries a ≡ entries b = cc in
    λ i. (name i, value i) ∷ entries_inj a b tail i

pub tys_equal : (a b : List Ty) (r : Bool) → r ≡ is_eq (tys_cmp (tys a) (tys b)) → IsTrue r ↔ (a ≡ b)
tys_equal a b r e = (
  λ h. tys_inj a b (tys_same (tys a) (tys b) (is_equal (tys_cmp (tys a) (tys b)) (back e ∙ h))),
  λ h. e ∙ (ap (λ z. is_eq (tys_cmp (tys a) (tys z))) (back h) ∙ ap is_eq (tys_tied (tys a))),
)

pub entries_equal : (a b : List (List ℕ × Attr)) (r : Bool) → r ≡ is_eq (entries_cmp (entries a) (entries b)) → IsTrue r ↔ (a ≡ b)
entries_equal a b r e = (
  λ h. entries_inj a b (entries_same (entries a) (entries b) (is_equal (entries_cmp (entries a) (entries b)) (back e ∙ h))),
  λ h. e ∙ (ap (λ z. is_eq (entries_cmp (entries a) (entries z))) (back h) ∙ ap is_eq (entries_tied (entries a))),
)
