-- What maps and sets of names say of the lists that they stand for.
use Rattle.std.proofs.Common.{◌≡◌, ℕ, Bool, true, false, not, ◌||◌, cond, List, [], ◌∷◌, ◌++◌, map, Option, Some, None, refl, ap, ◌∙◌, Bor}
use Rattle.std.specs.Option.{option_map, option_and_then, option_copied, is_some}
use Rattle.std.specs.List.{list_any}
use Rattle.std.specs.Map.{lookup}
use Rattle.std.specs.Str.{bytes_eq}
use Rattle.indexmap.specs.IndexMap.{insert_entry}
use Rattle.indexmap.specs.IndexSet.{insert_key}
use Rattle.pdll_types.specs.declared.kind.Kind.{Kind}
use Rattle.pdll_types.specs.declared.signature.Signature.{Signature}
use Rattle.pdll_types.specs.Signatures.{Declared, signature_of}
use Rattle.pdll_types.specs.Sight.{Known, variable_of, is_in_sight, sight_with, is_blank, is_word, with_word}

abbrev pub Entry : Type 0 → Type 0
Entry X = Bor (List ℕ) × X

abbrev pub looked : {X : Type 0} → List ℕ → List (Entry X) → Option X
looked q es = lookup (λ (k : Bor (List ℕ)). bytes_eq q k.now) es

abbrev pub inserted : {X : Type 0} → List (Entry X) → Bor (List ℕ) → X → List (Entry X)
inserted es q x = insert_entry (λ (x y : Bor (List ℕ)). bytes_eq x.now y.now) es q x

-- ---- options

pub some_copied : {X : Type 0} (o : Option (Bor X)) → is_some o ≡ is_some (option_copied o)
some_copied None = refl
some_copied (Some x) = refl

pub some_mapped : {A B : Type 0} (f : A → B) (o : Option A) → is_some (option_map f o) ≡ is_some o
some_mapped f None = refl
some_mapped f (Some x) = refl

pub none_mapped : {A B : Type 0} (f : A → B) (o : Option A) → is_some o ≡ false → option_map f o ≡ None
none_mapped f None h = refl
none_mapped f (Some x) h = absurd (cc)

pub not_not : (b : Bool) → not (not b) ≡ b
not_not true = refl
not_not false = refl

-- ---- variables

abbrev pub known_of : Entry (Option Kind) → Known
known_of e = record { name = e.0.now; kind = e.1 }

known_step : (e : Entry (Option Kind)) (b : Bool) (r : Option (Option Kind)) (s : Option Known)
    → r ≡ option_map (λ v. v.kind) s → cond b (Some e.1) r ≡ option_map (λ v. v.kind) (cond b (Some (known_of e)) s)
known_step e true r s h = refl
known_step e false r s h = h

pub looked_kind : (q : List ℕ) (es : List (Entry (Option Kind))) → looked q es ≡ option_map (λ v. v.kind) (variable_of (map known_of es) q)
looked_kind q [] = refl
looked_kind q (e ∷ es) = known_step e (bytes_eq q e.0.now) _ _ (looked_kind q es)

last_known : (q : Bor (List ℕ)) (k : Option Kind) (e : Entry (Option Kind)) (es put : List (Entry (Option Kind))) (o : Option (Option Kind)) (b : Bool)
    → (o ≡ None → map known_of put ≡ map known_of es ++ known_of (q, k) ∷ []) → cond b (Some e.1) o ≡ None
    → map known_of (cond b ((e.0, k) ∷ es) (e ∷ put)) ≡ map known_of (e ∷ es) ++ known_of (q, k) ∷ []
last_known q k e es put o true h p = absurd (cc)
last_known q k e es put o false h p = ap (λ vs. known_of e ∷ vs) (h p)

-- a new variable goes last
pub known_last : (q : Bor (List ℕ)) (k : Option Kind) (es : List (Entry (Option Kind))) → looked q.now es ≡ None
    → map known_of (inserted es q k) ≡ map known_of es ++ known_of (q, k) ∷ []
known_last q k [] p = refl
known_last q k (e ∷ es) p = last_known q k e es (inserted es q k) _ (bytes_eq q.now e.0.now) (known_last q k es) p

pub kind_joined : (s : Option Known) → option_and_then (λ k. k) (option_map (λ v. v.kind) s) ≡ option_and_then (λ v. v.kind) s
kind_joined None = refl
kind_joined (Some v) = refl

with_tests : (q : List ℕ) (k : Option Kind) (s : List Known) (a b : Bool) → a ≡ false → b ≡ false
    → s ++ record { name = q; kind = k } ∷ [] ≡ cond (a || b) s (s ++ record { name = q; kind = k } ∷ [])
with_tests q k s true b h i = absurd (cc)
with_tests q k s false true h i = absurd (cc)
with_tests q k s false false h i = refl

pub shown_last : (q : Bor (List ℕ)) (k : Option Kind) (es : List (Entry (Option Kind))) → is_blank q.now ≡ false → is_in_sight (map known_of es) q.now ≡ false
    → map known_of (inserted es q k) ≡ sight_with (map known_of es) q.now k
shown_last q k es blank absent =
    known_last q k es (looked_kind q.now es ∙ none_mapped (λ v. v.kind) (variable_of (map known_of es) q.now) absent)
    ∙ with_tests q.now k (map known_of es) _ _ blank absent

-- ---- declarations

abbrev pub declared_of : Entry Signature → Declared
declared_of e = record { name = e.0.now; signature = e.1 }

declared_step : (e : Entry Signature) (b : Bool) (r : Option Signature) (s : Option Declared)
    → r ≡ option_map (λ d. d.signature) s → cond b (Some e.1) r ≡ option_map (λ d. d.signature) (cond b (Some (declared_of e)) s)
declared_step e true r s h = refl
declared_step e false r s h = h

pub looked_signature : (q : List ℕ) (es : List (Entry Signature)) → looked q es ≡ signature_of (map declared_of es) q
looked_signature q [] = refl
looked_signature q (e ∷ es) = declared_step e (bytes_eq q e.0.now) _ _ (looked_signature q es)

last_declared : (q : Bor (List ℕ)) (g : Signature) (e : Entry Signature) (es put : List (Entry Signature)) (o : Option Signature) (b : Bool)
    → (o ≡ None → map declared_of put ≡ map declared_of es ++ declared_of (q, g) ∷ []) → cond b (Some e.1) o ≡ None
    → map declared_of (cond b ((e.0, g) ∷ es) (e ∷ put)) ≡ map declared_of (e ∷ es) ++ declared_of (q, g) ∷ []
last_declared q g e es put o true h p = absurd (cc)
last_declared q g e es put o false h p = ap (λ ds. declared_of e ∷ ds) (h p)

-- a new declaration goes last
pub declared_last : (q : Bor (List ℕ)) (g : Signature) (es : List (Entry Signature)) → looked q.now es ≡ None
    → map declared_of (inserted es q g) ≡ map declared_of es ++ declared_of (q, g) ∷ []
declared_last q g [] p = refl
declared_last q g (e ∷ es) p = last_declared q g e es (inserted es q g) _ (bytes_eq q.now e.0.now) (declared_last q g es) p

-- ---- words

abbrev pub word_of : Bor (List ℕ) → List ℕ
word_of w = w.now

pub any_word : (q : Bor (List ℕ)) (ws : List (Bor (List ℕ))) → list_any (λ (w : Bor (List ℕ)). bytes_eq q.now w.now) ws ≡ is_word (map word_of ws) q.now
any_word q [] = refl
any_word q (w ∷ ws) = ap (λ b. bytes_eq q.now w.now || b) (any_word q ws)

map_word : (ws : List (Bor (List ℕ))) (q : Bor (List ℕ)) → map word_of (ws ++ q ∷ []) ≡ map word_of ws ++ q.now ∷ []
map_word [] q = refl
map_word (w ∷ ws) q = ap (λ vs. w.now ∷ vs) (map_word ws q)

put_step : (q : Bor (List ℕ)) (ws : List (Bor (List ℕ))) (a b : Bool) → a ≡ b
    → map word_of (cond a ws (ws ++ q ∷ [])) ≡ cond b (map word_of ws) (map word_of ws ++ q.now ∷ [])
put_step q ws true true h = refl
put_step q ws false false h = map_word ws q
put_step q ws true false h = absurd (cc)
put_step q ws false true h = absurd (cc)

pub word_put : (q : Bor (List ℕ)) (ws : List (Bor (List ℕ)))
    → map word_of (insert_key (λ (x y : Bor (List ℕ)). bytes_eq x.now y.now) ws q) ≡ with_word (map word_of ws) q.now
word_put q ws = put_step q ws _ _ (any_word q ws)
