-- The program's steps of learning are those of the definitions.
use Rattle.std.proofs.Common.{◌≡◌, ℕ, zero, suc, ◌+◌, ◌-◌, ◌<◌, ◌≤◌, Bool, true, false, cond, List, [], ◌∷◌, map, length, set, take, drop, Option, Some, None, option_map, refl, sym, ap, subst, ◌∙◌, arith}
use Rattle.std.specs.Prelude.{slice_get, slice_index_or, option_and_then, nat_lt}
use Rattle.std.proofs.lemmas.Option.{slice_get-map}
use Rattle.std.proofs.lemmas.Bool.Decides.{nat_tests}
use Rattle.mlir_tree.specs.declared.row.Row.{Row}
use Rattle.native_set.specs.declared.native.Kind.{Kind}
use Rattle.rewrite_model.specs.Pattern.{Expr, Demand}
use Rattle.rewrite_model.specs.Ranges.{is_range}
use Rattle.rewrite_model.specs.Things.{Thing}
use Rattle.rewrite_model.proofs.Told.{some_or, same_length}
use Rattle.row_matcher.specs.declared.thing.Thing.{Thing as ThingNode}
use Rattle.row_matcher.specs.View.{thing_of}
use Rattle.row_matcher.specs.Learning.{Known, known_of, known_at, learnt, tell, tells, cut, cut_one, tell_list, passed, known_in, times, IsReached}
use Rattle.row_matcher.proofs.Learning.{Below, below_passed, below_length, below_same, counts_within}

-- ---- one number

pub learnt_open : (k : List (Option ThingNode)) (x : ℕ) (t : ThingNode) (u : Thing) → slice_get k x ≡ Some None → thing_of t ≡ u → known_of (set k x (Some t)) ≡ learnt x u (known_of k)
learnt_open [] zero t u o e = absurd (cc o)
learnt_open [] (suc x) t u o e = absurd (cc o)
learnt_open (None ∷ k) zero t u o e = ap (λ w. Some w ∷ known_of k) e
learnt_open (Some v ∷ k) zero t u o e = absurd (cc o)
learnt_open (q ∷ k) (suc x) t u o e = ap (λ l. option_map thing_of q ∷ l) (learnt_open k x t u o e)

pub learnt_shut : (k : List (Option ThingNode)) (x : ℕ) (u : Thing) → (slice_get k x ≡ Some None → ⊥) → known_of k ≡ learnt x u (known_of k)
learnt_shut [] zero u n = refl
learnt_shut [] (suc x) u n = refl
learnt_shut (None ∷ k) zero u n = elim (n refl) [ ]
learnt_shut (Some v ∷ k) zero u n = refl
learnt_shut (q ∷ k) (suc x) u n = ap (λ l. option_map thing_of q ∷ l) (learnt_shut k x u n)

pub known_there : (k : List (Option ThingNode)) (x : ℕ) (o : Option ThingNode) → Some o ≡ slice_get k x → option_map thing_of o ≡ known_at (known_of k) x
known_there k x o e = sym (ap (option_and_then (λ q. q)) (slice_get-map (option_map thing_of) k x ∙ ap (option_map (option_map thing_of)) (sym e)))

pub known_nowhere : (k : List (Option ThingNode)) (x : ℕ) → None ≡ slice_get k x → None ≡ known_at (known_of k) x
known_nowhere k x e = sym (ap (option_and_then (λ q. q)) (slice_get-map (option_map thing_of) k x ∙ ap (option_map (option_map thing_of)) (sym e)))

-- ---- pieces

module _ {X : Type 0} (single : X → Thing) (many : List X → Thing) where
  cut_next : (b : Bool) (fs : List Bool) (n : ℕ) (rest back : List X) (t : Thing) → n ≡ length fs → Some (t, back) ≡ cut_one single many b n rest → cut single many (b ∷ fs) rest ≡ t ∷ cut single many fs back
  cut_next true fs n rest back t e p =
      let l = ap (λ o. (some_or {X = Thing × List X} (t, back) o).0) p in
      let r = ap (λ o. (some_or {X = Thing × List X} (t, back) o).1) p in
      subst (λ k. (many (take (length rest - k) rest) ∷ cut single many fs (drop (length rest - k) rest)) ≡ t ∷ cut single many fs back) e (λ i. sym l i ∷ cut single many fs (sym r i))
  cut_next false fs n [] back t e p = absurd (cc p)
  cut_next false fs n (x ∷ xs) back t e p =
      let l = ap (λ o. (some_or {X = Thing × List X} (t, back) o).0) p in
      let r = ap (λ o. (some_or {X = Thing × List X} (t, back) o).1) p in
      λ i. sym l i ∷ cut single many fs (sym r i)

  cut_end : (b : Bool) (fs : List Bool) (n : ℕ) (rest : List X) → None ≡ cut_one single many b n rest → cut single many (b ∷ fs) rest ≡ []
  cut_end true fs n rest p = absurd (cc p)
  cut_end false fs n [] p = refl
  cut_end false fs n (x ∷ xs) p = absurd (cc p)

  module _ {B : Type 0} (g : B → Expr) (ks : List Kind) where
    next : (es : List B) (i : ℕ) (x : B) (rest back : List X) (t : Thing) (k : Known) → i < length es → x ≡ slice_index_or es i x
        → Some (t, back) ≡ cut_one single many (is_range ks (g x)) (length es - i - 1) rest
        → tell_list single many ks (map g (drop i es)) rest k ≡ tell_list single many ks (map g (drop (suc i) es)) back (tell (g x) (Some t) k)
    next [] i x rest back t k l e p = absurd (omega (arith, l))
    next (y ∷ es) zero x rest back t k l e p =
        let n : length (y ∷ es) - 0 - 1 ≡ length (map (is_range ks) (map g es)) = (let a = same_length (is_range ks) (map g es) in let b = same_length g es in omega (arith, a, b)) in
        subst (λ z. tell_list single many ks (g z ∷ map g es) rest k ≡ tell_list single many ks (map g es) back (tell (g x) (Some t) k)) e
        (ap (λ ts. tells (g x ∷ map g es) ts k) (cut_next (is_range ks (g x)) (map (is_range ks) (map g es)) _ rest back t n p))
    next (y ∷ es) (suc i) x rest back t k l e p =
        let n : length (y ∷ es) - suc i - 1 ≡ length es - i - 1 = omega arith in
        next es i x rest back t k (omega (arith, l)) e (subst (λ m. Some (t, back) ≡ cut_one single many (is_range ks (g x)) m rest) n p)

    pub told_next : (es : List B) (i : ℕ) (x : B) (rest back : List X) (t : Thing) (k : Known) → i < length es → x ≡ slice_index_or es i x
        → Some (t, back) ≡ cut_one single many (is_range ks (g x)) (length es - i - 1) rest
        → tell_list single many ks (map g (drop i es)) rest k ≡ tell_list single many ks (map g (drop (i + 1) es)) back (tell (g x) (Some t) k)
    told_next es i x rest back t k l e p =
        let n : suc i ≡ i + 1 = omega arith in
        subst (λ m. tell_list single many ks (map g (drop i es)) rest k ≡ tell_list single many ks (map g (drop m es)) back (tell (g x) (Some t) k)) n (next es i x rest back t k l e p)

    pub told_end : (es : List B) (i : ℕ) (x : B) (rest : List X) (n : ℕ) (k : Known) → i < length es → x ≡ slice_index_or es i x
        → None ≡ cut_one single many (is_range ks (g x)) n rest → tell_list single many ks (map g (drop i es)) rest k ≡ k
    told_end [] i x rest n k l e p = absurd (omega (arith, l))
    told_end (y ∷ es) zero x rest n k l e p =
        subst (λ z. tell_list single many ks (g z ∷ map g es) rest k ≡ k) e
        (ap (λ ts. tells (g x ∷ map g es) ts k) (cut_end (is_range ks (g x)) (map (is_range ks) (map g es)) n rest p))
    told_end (y ∷ es) (suc i) x rest n k l e p = told_end es i x rest n k (omega (arith, l)) e p

-- ---- ways through the demands

below_or : (a b : ℕ) → nat_lt a b ≡ true → a < b
below_or a b h = grind (arith, nat_tests)

not_below : (a b : ℕ) → nat_lt a b ≡ false → b ≤ a
not_below a b h = grind (arith, nat_tests)

module _ (rows : List Row) (ks : List Kind) (ds : List Demand) where
  pub fewer_wanted : (old new : Known) (m n : ℕ) → new ≡ passed rows ks ds old → m ≡ known_in old → n ≡ known_in new
      → cond (nat_lt m n) (suc (length new - known_in new)) 0 < suc (length old - known_in old)
  fewer_wanted old new m n is first last = by (nat_lt m n) refl where
    by : (b : Bool) → nat_lt m n ≡ b → cond b (suc (length new - known_in new)) 0 < suc (length old - known_in old)
    by true h =
        let size : length new ≡ length old = ap length is ∙ below_length old (passed rows ks ds old) (below_passed rows ks ds old) in
        let most = counts_within new in
        let more = below_or m n h in
        omega arith
    by false h = omega arith

  pub closed_there : (old new : Known) (m n : ℕ) → new ≡ passed rows ks ds old → m ≡ known_in old → n ≡ known_in new → nat_lt m n ≡ false → passed rows ks ds new ≡ new
  closed_there old new m n is first last h =
      let few = not_below m n h in
      let same : new ≡ old = below_same old new (subst (Below old) (sym is) (below_passed rows ks ds old)) (omega arith) in
      ap (passed rows ks ds) same ∙ sym is

  once_more : (n : ℕ) (k : Known) → times n (passed rows ks ds) (passed rows ks ds k) ≡ passed rows ks ds (times n (passed rows ks ds) k)
  once_more zero k = refl
  once_more (suc n) k = once_more n (passed rows ks ds k)

  pub reached_on : (first old new : Known) → IsReached rows ks ds first old → new ≡ passed rows ks ds old → IsReached rows ks ds first new
  reached_on first old new r e = (suc r.0, e ∙ (ap (passed rows ks ds) r.1 ∙ sym (once_more r.0 first)))
