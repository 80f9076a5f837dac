-- What is found by a name and kinds is a line of the table.
use Rattle.std.proofs.Common.{◌≡◌, ◌↔◌, ◌∙◌, ℕ, suc, Bool, true, false, List, [], ◌∷◌, Option, Some, None, refl, sym, ap, subst, arith}
use Rattle.std.specs.Prelude.{◌&&◌, All, Contains, find, cond, bytes_eq, unwrap_or, option_map}
use Rattle.std.specs.Bool.{Decides}
use Rattle.std.proofs.lemmas.Bool.{and_parts}
use Rattle.std.proofs.lemmas.List.Elements.{All-from_recursion}
use Rattle.std.proofs.lemmas.Slice.Eq.{slice_eq-Decides, bytes_eq-Decides}
use denote.Enum.Bare.{same_true, true_same}
use Rattle.native_set.specs.contracts.native.Kind.{the_type}
use Rattle.native_set.specs.declared.native.Kind.{Kind}
use Rattle.native_set.specs.declared.native.Constraint.TheVariants.{HasOneUse, HasNoUse, IsInt, IsZero, SameBlock, NoRegions}
use Rattle.native_set.specs.declared.native.Rewrite.TheVariants.{AddInt, MulInt, NegInt}
use Rattle.native_set.specs.Table.{Native, constraint, rewrite, Line, table, native_of, name_of, params_of, gives_of, is_kind, are_kinds, is_kind_option, is_line}

kind_decides : (a b : Kind) → Decides (is_kind a b) (a ≡ b)
kind_decides a b = (same_true the_type tt a b, true_same the_type a b)

kinds_are : (ks js : List Kind) → are_kinds ks js ≡ true → ks ≡ js
kinds_are ks js h = (slice_eq-Decides kind_decides ks js (are_kinds ks js) refl).0 h

option_is : (a b : Option Kind) → is_kind_option a b ≡ true → a ≡ b
option_is None None h = refl
option_is None (Some k) h = absurd (cc)
option_is (Some k) None h = absurd (cc)
option_is (Some k) (Some j) h = ap Some (same_true the_type tt k j h)

abbrev line : List ℕ → List Kind → Option Kind → Native → Line
line s ks g n = record { name = s; params = ks; gives = g; native = n }

line_is : (s : List ℕ) (ks : List Kind) (g : Option Kind) (l : Line) → is_line s ks g l ≡ true → l ≡ line s ks g l.native
line_is s ks g l h =
    let p = and_parts (is_kind_option l.gives g) (bytes_eq s l.name && are_kinds ks l.params) h in
    let q = and_parts (bytes_eq s l.name) (are_kinds ks l.params) p.1 in
    let name : l.name ≡ s = sym ((bytes_eq-Decides s l.name).0 q.0) in
    let params : l.params ≡ ks = sym (kinds_are ks l.params q.1) in
    let gives : l.gives ≡ g = option_is l.gives g p.0 in
    ap (λ x. line x l.params l.gives l.native) name ∙ ap (λ x. line s x l.gives l.native) params ∙ ap (λ x. line s ks x l.native) gives

found_in : (test : Line → Bool) (ls : List Line) (l : Line) → find test ls ≡ Some l → Contains ls l × (test l ≡ true)
found_in test [] l e = absurd (cc)
found_in test (x ∷ xs) l e = by (test x) refl (found_in test xs l)
  where
    by : (t : Bool) → test x ≡ t → (find test xs ≡ Some l → Contains xs l × (test l ≡ true)) → Contains (x ∷ xs) l × (test l ≡ true)
    by true is rest =
        let same : x ≡ l = ap (λ o. unwrap_or o x) (sym (ap (λ b. cond b (Some x) (find test xs)) is) ∙ e) in
        ((0, omega arith, same), subst (λ y. test y ≡ true) same is)
    by false is rest =
        let later = rest (sym (ap (λ b. cond b (Some x) (find test xs)) is) ∙ e) in
        ((suc later.0.0, omega (arith, later.0.1), later.0.2), later.1)

all_found : All (λ l. native_of l.name l.params l.gives ≡ Some l.native) table
all_found = All-from_recursion (λ l. native_of l.name l.params l.gives ≡ Some l.native) table (refl, (refl, (refl, (refl, (refl, (refl, (refl, (refl, (refl, tt)))))))))

native_found : (ls : List Line) (o : Option Line) (s : List ℕ) (ks : List Kind) (g : Option Kind) (n : Native) → find (is_line s ks g) ls ≡ o → option_map (λ l. l.native) o ≡ Some n → Contains ls (line s ks g n)
native_found ls None s ks g n e h = absurd (cc)
native_found ls (Some l) s ks g n e h =
    let p = found_in (is_line s ks g) ls l e in
    let same : l.native ≡ n = ap (λ o. unwrap_or o n) h in
    subst (Contains ls) (line_is s ks g l p.1 ∙ ap (line s ks g) same) p.0

pub natives_are_lines : (s : List ℕ) (ks : List Kind) (g : Option Kind) (n : Native) → (native_of s ks g ≡ Some n) ↔ Contains table (line s ks g n)
natives_are_lines s ks g n =
    (native_found table (find (is_line s ks g) table) s ks g n refl, λ c. subst (λ l. native_of l.name l.params l.gives ≡ Some l.native) c.2 (all_found c.0 (line s ks g n) c.1))

pub each_has_a_line : (n : Native) → Contains table (record { name = name_of n; params = params_of n; gives = gives_of n; native = n })
each_has_a_line (constraint HasOneUse) = (0, omega arith, refl)
each_has_a_line (constraint HasNoUse) = (1, omega arith, refl)
each_has_a_line (constraint IsInt) = (2, omega arith, refl)
each_has_a_line (constraint IsZero) = (3, omega arith, refl)
each_has_a_line (constraint SameBlock) = (4, omega arith, refl)
each_has_a_line (constraint NoRegions) = (5, omega arith, refl)
each_has_a_line (rewrite AddInt) = (6, omega arith, refl)
each_has_a_line (rewrite MulInt) = (7, omega arith, refl)
each_has_a_line (rewrite NegInt) = (8, omega arith, refl)
