-- Two scenes that are read in step with what is seen: a name in sight is a name of both.
use Rattle.std.proofs.Common.{◌≡◌, inl, inr, ℕ, Bool, true, false, cond, List, [], ◌∷◌, ◌++◌, Option, Some, None, refl, sym, ap, ◌∙◌, subst}
use Rattle.std.specs.Prelude.{◌⊎◌, ⊤, find, not, ◌&&◌, ◌||◌}
use Rattle.std.specs.Option.{option_or, option_and_then, is_some}
use Rattle.std.specs.Str.{bytes_eq}
use Rattle.std.proofs.lemmas.Slice.Eq.{bytes_eq-Decides}
use Rattle.std.proofs.lemmas.List.Folds.{find-append}
use Rattle.pdll_syntax.specs.ExprTree.{ExprForm, name_expr, call_expr, declare_expr, attr_expr, type_expr, op_expr, member_expr, Refs, MaybeExpr}
use Rattle.native_set.specs.declared.native.Kind.TheVariants as plain
use Rattle.rewrite_model.specs.Pattern.{Expr, the}
use Rattle.rewrite_model.specs.Names.{Meant, Names}
use Rattle.rewrite_model.specs.MatchPart.{Scene, see_name}
use Rattle.rewrite_model.specs.Determined.{IsIn}
use Rattle.rewrite_model.proofs.Following.{Renumbering, Pair, Follows, follows_named}
use Rattle.pdll_types.specs.declared.kind.Kind.{Kind}
use Rattle.pdll_types.specs.declared.section.Section.{Section}
use Rattle.pdll_types.specs.Signatures.{Declared}
use Rattle.pdll_types.specs.Mentions.{Mention, heading, use_of, listed, word, ref_list, one_ref, shown, statement}
use Rattle.pdll_types.specs.Sight.{Known, is_blank, variable_of, kind_of, kind_of_variable, is_in_sight, sight_with, is_word, with_word, sight_behind, words_behind, Seen, seen_behind}
use Rattle.pdll_types.proofs.determined.Fine.{IsFine, behind, so_not}
use Rattle.pdll_types.proofs.determined.Refs.{plain_of}

abbrev pub IsThe : Expr → Type 0
IsThe (the x) = ⊤
IsThe e = ⊥

-- What has this kind in sight has it in a scene, or is taken for a value there.
abbrev pub Agrees : Option Kind → Meant Expr → Type 0
Agrees None x = ⊤
Agrees (Some j) x = (plain_of j ≡ x.kind) ⊎ ((x.kind ≡ plain.Value) × IsThe x.is)

abbrev has_name : List ℕ → List ℕ × Meant Expr → Bool
has_name n e = bytes_eq e.0 n

-- each variable in sight is a name
abbrev pub Sees : List Known → Names Expr → Type 0
Sees s ns = (n : List ℕ) (v : Known) → variable_of s n ≡ Some v → (is_blank n ≡ false) × ((e : List ℕ × Meant Expr) × (find (λ e. bytes_eq e.0 n) ns ≡ Some e) × Agrees v.kind e.1)

-- no name waits twice
abbrev AreApart : List (List ℕ) → Type 0
AreApart [] = ⊤
AreApart (n ∷ ns) = (is_blank n ≡ false → IsIn n ns → ⊥) × AreApart ns

-- Two scenes in step with what is seen, while these names wait to come into sight.
pub record InStep (ws : List (List ℕ)) (r : Renumbering) (v : Seen) (s t : Scene) : Type 0 where
  pub follows : Follows r s t
  pub sees : Sees v.sight s.names
  pub known : (n : List ℕ) → is_in_sight v.sight n ≡ true → is_word v.words n ≡ true
  pub waits : (n : List ℕ) → IsIn n ws → is_blank n ≡ false → (is_word v.words n ≡ true) × (is_in_sight v.sight n ≡ false)
  pub apart : AreApart ws

pub with_scenes : (ws : List (List ℕ)) (r q : Renumbering) (v : Seen) (s t u w : Scene) → InStep ws r v s t → u.names ≡ s.names → Follows q u w → InStep ws q v u w
with_scenes ws r q v s t u w h e f = record { follows = f; sees = subst (Sees v.sight) (sym e) h.sees; known = h.known; waits = h.waits; apart = h.apart }

-- ---- mentions that show nothing

abbrev pub IsNeutral : Mention → Type 0
IsNeutral (word p given at n) = ⊥
IsNeutral (shown n rs x) = ⊥
IsNeutral m = ⊤

pub over : (c : List Declared) (m : Mention) → IsNeutral m → (ws : List (List ℕ)) (r : Renumbering) (v : Seen) (s t : Scene) → InStep ws r v s t → InStep ws r (seen_behind c v m) s t
unfolding sight_behind words_behind
over c (heading d) i ws r v s t h = record { follows = h.follows; sees = h.sees; known = h.known; waits = h.waits; apart = h.apart }
over c (use_of p a at form) i ws r v s t h = record { follows = h.follows; sees = h.sees; known = h.known; waits = h.waits; apart = h.apart }
over c (listed p a xs) i ws r v s t h = record { follows = h.follows; sees = h.sees; known = h.known; waits = h.waits; apart = h.apart }
over c (ref_list p k rs) i ws r v s t h = record { follows = h.follows; sees = h.sees; known = h.known; waits = h.waits; apart = h.apart }
over c (one_ref a k l rf) i ws r v s t h = record { follows = h.follows; sees = h.sees; known = h.known; waits = h.waits; apart = h.apart }
over c (statement st l u) i ws r v s t h = record { follows = h.follows; sees = h.sees; known = h.known; waits = h.waits; apart = h.apart }
over c (word p given at n) i ws r v s t h = absurd i
over c (shown n rs x) i ws r v s t h = absurd i

-- ---- a word

either_way : {A : Type 0} (b : Bool) → (b ≡ true → A) → (b ≡ false → A) → A
either_way true f g = f refl
either_way false f g = g refl

word_front : (ws : List (List ℕ)) (n m : List ℕ) → is_word ws m ≡ true → is_word (ws ++ n ∷ []) m ≡ true
word_front [] n m h = absurd (cc)
word_front (w ∷ ws) n m h = by (bytes_eq m w) h (word_front ws n m) where
  by : (b : Bool) → (b || is_word ws m) ≡ true → (is_word ws m ≡ true → is_word (ws ++ n ∷ []) m ≡ true) → (b || is_word (ws ++ n ∷ []) m) ≡ true
  by true g go = refl
  by false g go = go g

same_bytes : (n : List ℕ) → bytes_eq n n ≡ true
same_bytes n = (bytes_eq-Decides n n).1 refl

word_last : (ws : List (List ℕ)) (n : List ℕ) → is_word (ws ++ n ∷ []) n ≡ true
word_last [] n = ap (λ b. b || false) (same_bytes n)
word_last (w ∷ ws) n = by (bytes_eq n w) (word_last ws n) where
  by : (b : Bool) → is_word (ws ++ n ∷ []) n ≡ true → (b || is_word (ws ++ n ∷ []) n) ≡ true
  by true go = refl
  by false go = go

word_kept : (ws : List (List ℕ)) (n m : List ℕ) → is_word ws m ≡ true → is_word (with_word ws n) m ≡ true
word_kept ws n m h = by (is_word ws n) where
  by : (b : Bool) → is_word (cond b ws (ws ++ n ∷ [])) m ≡ true
  by true = h
  by false = word_front ws n m h

word_there : (ws : List (List ℕ)) (n : List ℕ) → is_word (with_word ws n) n ≡ true
word_there ws n = either_way (is_word ws n) (λ e. subst (λ b. is_word (cond b ws (ws ++ n ∷ [])) n ≡ true) (sym e) e) (λ e. subst (λ b. is_word (cond b ws (ws ++ n ∷ [])) n ≡ true) (sym e) (word_last ws n))

-- what was a word, or is the new one, is a word behind it
more_words : (ws : List (List ℕ)) (n m : List ℕ) (b : Bool) → is_word ws m ≡ true → is_word (cond b ws (with_word ws n)) m ≡ true
more_words ws n m true h = h
more_words ws n m false h = word_kept ws n m h

true_not_false : (b : Bool) → b ≡ true → b ≡ false → ⊥
true_not_false b g h = cc

-- a word that declares a variable, which waits from here on
pub worded : (c : List Declared) (p : Section) (given : Bool) (at : ℕ) (n : List ℕ) (ws : List (List ℕ)) (r : Renumbering) (v : Seen) (s t : Scene)
    → IsFine c v (word p given at n) → InStep ws r v s t → InStep (n ∷ ws) r (seen_behind c v (word p given at n)) s t
unfolding sight_behind words_behind
worded c p given at n ws r v s t f h = record {
  follows = h.follows;
  sees = h.sees;
  known = λ m i. more_words v.words n m (is_blank n) (h.known m i);
  waits = waits;
  apart = (λ b i. true_not_false (is_word v.words n) (h.waits n i b).0 (new b), h.apart);
} where
  new : is_blank n ≡ false → is_word v.words n ≡ false
  new b = subst (λ x. (not x && is_word v.words n) ≡ false) b (so_not (not (is_blank n) && is_word v.words n) at f.redefined)

  unseen : is_blank n ≡ false → is_in_sight v.sight n ≡ false
  unseen b = either_way (is_in_sight v.sight n) (λ i. absurd (true_not_false (is_word v.words n) (h.known n i) (new b))) (λ i. i)

  waits : (m : List ℕ) → IsIn m (n ∷ ws) → is_blank m ≡ false → (is_word (cond (is_blank n) v.words (with_word v.words n)) m ≡ true) × (is_in_sight v.sight m ≡ false)
  waits m (inl e) b =
      let g = subst (λ x. is_blank x ≡ false) e b in
      subst (λ x. (is_word (cond (is_blank n) v.words (with_word v.words n)) x ≡ true) × (is_in_sight v.sight x ≡ false)) (sym e)
      (subst (λ x. is_word (cond x v.words (with_word v.words n)) n ≡ true) (sym g) (word_there v.words n), unseen g)
  waits m (inr i) b = let w = h.waits m i b in (more_words v.words n m (is_blank n) w.0, w.1)

-- ---- a variable that comes into sight

next_of : (s : List Known) (k : Known) (m : List ℕ) → variable_of (s ++ k ∷ []) m ≡ option_or (variable_of s m) (cond (bytes_eq m k.name) (Some k) None)
next_of s k m = find-append (λ (v : Known). bytes_eq m v.name) s (k ∷ [])

-- a name in front of the others hides none but its own
behind_name : (n m : List ℕ) (x : Meant Expr) (ns : Names Expr) (e : List ℕ × Meant Expr) → bytes_eq n m ≡ false → find (has_name m) ns ≡ Some e → find (has_name m) ((n, x) ∷ ns) ≡ Some e
behind_name n m x ns e d h = ap (λ b. cond b (Some (n, x)) (find (has_name m) ns)) d ∙ h

other_name : (n m : List ℕ) → (n ≡ m → ⊥) → bytes_eq n m ≡ false
other_name n m d = either_way (bytes_eq n m) (λ e. absurd (d ((bytes_eq-Decides n m).0 e))) (λ e. e)

module _ (n : List ℕ) (x : Meant Expr) (s : List Known) (ns : Names Expr) (sees : Sees s ns) where
  -- where it is none that can be seen
  sees_blank : is_blank n ≡ true → Sees s ((n, x) ∷ ns)
  sees_blank b m v h =
      let o = sees m v h in
      let d : bytes_eq n m ≡ false = other_name n m (λ e. true_not_false (is_blank n) b (ap is_blank e ∙ o.0)) in
      (o.0, (o.1.0, behind_name n m x ns o.1.0 d o.1.1, o.1.2))

  sees_new : (k : Option Kind) → is_blank n ≡ false → is_in_sight s n ≡ false → Agrees k x → Sees (s ++ record { name = n; kind = k } ∷ []) ((n, x) ∷ ns)
  sees_new k b u a m v h = by (variable_of s m) refl (bytes_eq m n) refl (sym (next_of s (record { name = n; kind = k }) m) ∙ h) where
    by : (o : Option Known) → variable_of s m ≡ o → (d : Bool) → bytes_eq m n ≡ d → option_or o (cond d (Some (record { name = n; kind = k })) None) ≡ Some v
        → (is_blank m ≡ false) × ((e : List ℕ × Meant Expr) × (find (λ e. bytes_eq e.0 m) ((n, x) ∷ ns) ≡ Some e) × Agrees v.kind e.1)
    by (Some w) i d j g =
        let o = sees m v (i ∙ g) in
        let f : bytes_eq n m ≡ false = other_name n m (λ e. true_not_false (is_in_sight s n) (ap (λ y. is_in_sight s y) e ∙ ap is_some i) u) in
        (o.0, (o.1.0, behind_name n m x ns o.1.0 f o.1.1, o.1.2))
    by None i true j g =
        let e = (bytes_eq-Decides m n).0 j in
        let w : n ≡ m = sym e in
        (ap is_blank e ∙ b, ((n, x), ap (λ t. cond t (Some (n, x)) (find (has_name m) ns)) ((bytes_eq-Decides n m).1 w), subst (λ q. Agrees q x) (known_kind g) a)) where
          known_kind : Some (record { name = n; kind = k }) ≡ Some v → k ≡ v.kind
          known_kind g = ap (λ (o : Option Known). kind_or k o) g where
            kind_or : Option Kind → Option Known → Option Kind
            kind_or d None = d
            kind_or d (Some w) = w.kind
    by None i false j g = absurd (cc)

seen_more : (s : List Known) (k : Known) (n m : List ℕ) → k.name ≡ n → is_in_sight (s ++ k ∷ []) m ≡ true → (is_in_sight s m ≡ true) ⊎ (m ≡ n)
seen_more s k n m e h = by (variable_of s m) refl (bytes_eq m k.name) refl (ap is_some (sym (next_of s k m)) ∙ h) where
  by : (o : Option Known) → variable_of s m ≡ o → (d : Bool) → bytes_eq m k.name ≡ d → is_some (option_or o (cond d (Some k) None)) ≡ true → (is_in_sight s m ≡ true) ⊎ (m ≡ n)
  by (Some w) i d j g = inl (ap is_some i)
  by None i true j g = inr ((bytes_eq-Decides m k.name).0 j ∙ e)
  by None i false j g = absurd (cc)

shown_seen : (c : List Declared) (k : Option Kind) (n : List ℕ) (ws : List (List ℕ)) (r : Renumbering) (v : Seen) (s t : Scene) (x y : Meant Expr) → Agrees k x → Pair r t.kinds x y
    → InStep (n ∷ ws) r v s t → InStep ws r (record { sight = sight_with v.sight n k; words = v.words }) (see_name n x s).1 (see_name n y t).1
shown_seen c k n ws r v s t x y a p h = by (is_blank n) refl (is_in_sight v.sight n) refl where
  by : (b : Bool) → is_blank n ≡ b → (d : Bool) → is_in_sight v.sight n ≡ d → InStep ws r (record { sight = cond (b || d) v.sight (v.sight ++ record { name = n; kind = k } ∷ []); words = v.words }) (see_name n x s).1 (see_name n y t).1
  by true e d g = record {
    follows = follows_named n x y r s t p h.follows;
    sees = sees_blank n x v.sight s.names h.sees e;
    known = h.known;
    waits = λ m i. h.waits m (inr i);
    apart = h.apart.1;
  }
  by false e true g = absurd (true_not_false (is_in_sight v.sight n) g (h.waits n (inl refl) e).1)
  by false e false g = record {
    follows = follows_named n x y r s t p h.follows;
    sees = sees_new n x v.sight s.names h.sees k e g a;
    known = λ m i. known m (seen_more v.sight (record { name = n; kind = k }) n m refl i);
    waits = λ m i b. ((h.waits m (inr i) b).0, either_way (is_in_sight (v.sight ++ record { name = n; kind = k } ∷ []) m) (λ j. absurd (unseen m i b (seen_more v.sight (record { name = n; kind = k }) n m refl j))) (λ j. j));
    apart = h.apart.1;
  } where
    known : (m : List ℕ) → (is_in_sight v.sight m ≡ true) ⊎ (m ≡ n) → is_word v.words m ≡ true
    known m (inl i) = h.known m i
    known m (inr j) = ap (is_word v.words) j ∙ (h.waits n (inl refl) e).0

    unseen : (m : List ℕ) → IsIn m ws → is_blank m ≡ false → (is_in_sight v.sight m ≡ true) ⊎ (m ≡ n) → ⊥
    unseen m i b (inl j) = true_not_false (is_in_sight v.sight m) j (h.waits m (inr i) b).1
    unseen m i b (inr j) = h.apart.0 e (subst (λ z. IsIn z ws) j i)

pub showing : (c : List Declared) (n : List ℕ) (rs : Refs) (z : MaybeExpr) (ws : List (List ℕ)) (r : Renumbering) (v : Seen) (s t : Scene) (x y : Meant Expr)
    → Agrees (kind_of_variable c v.sight rs z) x → Pair r t.kinds x y → InStep (n ∷ ws) r v s t → InStep ws r (seen_behind c v (shown n rs z)) (see_name n x s).1 (see_name n y t).1
unfolding sight_behind words_behind
showing c n rs z ws r v s t x y a p h = shown_seen c (kind_of_variable c v.sight rs z) n ws r v s t x y a p h

-- ---- what is in sight stays so

stays_with : (s : List Known) (n : List ℕ) (k : Option Kind) (m : List ℕ) (w : Known) → variable_of s m ≡ Some w → variable_of (sight_with s n k) m ≡ Some w
stays_with s n k m w h = by (is_blank n || is_in_sight s n) where
  by : (b : Bool) → variable_of (cond b s (s ++ record { name = n; kind = k } ∷ [])) m ≡ Some w
  by true = h
  by false = next_of s (record { name = n; kind = k }) m ∙ ap (λ o. option_or o (cond (bytes_eq m n) (Some (record { name = n; kind = k })) None)) h

stays_one : (c : List Declared) (v : Seen) (m : Mention) (n : List ℕ) (w : Known) → variable_of v.sight n ≡ Some w → variable_of (seen_behind c v m).sight n ≡ Some w
unfolding sight_behind
stays_one c v (shown n rs x) m w h = stays_with v.sight n (kind_of_variable c v.sight rs x) m w h
stays_one c v (heading d) m w h = h
stays_one c v (use_of p a at form) m w h = h
stays_one c v (listed p a xs) m w h = h
stays_one c v (ref_list p k rs) m w h = h
stays_one c v (one_ref a k l rf) m w h = h
stays_one c v (statement st l u) m w h = h
stays_one c v (word p given at n) m w h = h

stays : (c : List Declared) (v : Seen) (ms : List Mention) (n : List ℕ) (w : Known) → variable_of v.sight n ≡ Some w → variable_of (behind c v ms).sight n ≡ Some w
stays c v [] n w h = h
stays c v (m ∷ ms) n w h = stays c (seen_behind c v m) ms n w (stays_one c v m n w h)

-- a form whose name, if it is one, is in sight
abbrev pub IsSeen : List Known → ExprForm → Type 0
IsSeen s (name_expr n) = is_in_sight s n ≡ true
IsSeen s form = ⊤

pub there : (s : List Known) (n : List ℕ) → is_in_sight s n ≡ true → (w : Known) × (variable_of s n ≡ Some w)
there s n h = by (variable_of s n) refl h where
  by : (o : Option Known) → variable_of s n ≡ o → is_some o ≡ true → (w : Known) × (variable_of s n ≡ Some w)
  by None i g = absurd (cc)
  by (Some w) i g = (w, i)

-- Its kind stays too.
pub kind_stays : (c : List Declared) (v : Seen) (ms : List Mention) (form : ExprForm) → IsSeen v.sight form → kind_of c (behind c v ms).sight form ≡ kind_of c v.sight form
kind_stays c v ms (name_expr n) h =
    let w = there v.sight n h in
    ap (option_and_then (λ (k : Known). k.kind)) (stays c v ms n w.0 w.1 ∙ sym w.1)
kind_stays c v ms (call_expr n xs) h = refl
kind_stays c v ms (declare_expr n rs) h = refl
kind_stays c v ms (attr_expr l) h = refl
kind_stays c v ms (type_expr l) h = refl
kind_stays c v ms (op_expr o) h = refl
kind_stays c v ms (member_expr x k) h = refl
