-- What is kept for names.
use Rattle.std.proofs.Common.{◌≡◌, ℕ, Bool, true, false, cond, List, [], ◌∷◌, Option, Some, None, refl, ap, sym, ◌∙◌, subst, Bor}
use Rattle.std.specs.Map.{lookup}
use Rattle.std.specs.Str.{bytes_eq}
use Rattle.std.proofs.lemmas.Slice.Eq.{bytes_eq-Decides}
use Rattle.indexmap.specs.IndexMap.{insert_entry}
use Rattle.pdll_syntax.specs.declared.file.Decl.{Decl}
use Rattle.pdll_syntax.specs.declared.file.Decl.TheVariants as decl
use Rattle.pdll_syntax.specs.declared.file.PatternDecl.{PatternDecl}
use Rattle.rewrite_model.specs.Size.{sizes, pattern_expressions}
use Rattle.pdll_sizes.specs.Capped.{capped, capped_size}
use Rattle.pdll_sizes.specs.Kept.{kept, or_nothing, last_first, IsPut, IsKept}
use Rattle.pdll_sizes.specs.declared.size.Size.{Size}

abbrev pub Entry : Type 0
Entry = Bor (List ℕ) × Size

abbrev pub inserted : List Entry → Bor (List ℕ) → Size → List Entry
inserted es q x = insert_entry (λ (x y : Bor (List ℕ)). bytes_eq x.now y.now) es q x

told : (x y : List ℕ) → bytes_eq x y ≡ true → x ≡ y
told x y h = (bytes_eq-Decides x y).0 h

itself : (x : List ℕ) → bytes_eq x x ≡ true
itself x = (bytes_eq-Decides x x).1 refl

same : (a b : Bool) → (a ≡ true → b ≡ true) → (b ≡ true → a ≡ true) → a ≡ b
same true true f g = refl
same false false f g = refl
same true false f g = sym (f refl)
same false true f g = g refl

turned : (x y : List ℕ) → bytes_eq x y ≡ bytes_eq y x
turned x y = same _ _ (λ h. subst (λ z. bytes_eq z x ≡ true) (told x y h) (itself x)) (λ h. subst (λ z. bytes_eq z y ≡ true) (told y x h) (itself y))

-- the entry of the name is the one that was put
here_step : (n : List ℕ) (e : Entry) (es put : List Entry) (x : Size) (b : Bool) → bytes_eq n e.0.now ≡ b → kept put n ≡ x → kept (cond b ((e.0, x) ∷ es) (e ∷ put)) n ≡ x
here_step n e es put x true h p = ap (λ b. or_nothing (cond b (Some x) (lookup (λ (k : Bor (List ℕ)). bytes_eq n k.now) es))) h
here_step n e es put x false h p = ap (λ b. or_nothing (cond b (Some e.1) (lookup (λ (k : Bor (List ℕ)). bytes_eq n k.now) put))) h ∙ p

put_itself : (q : Bor (List ℕ)) (x : Size) (es : List Entry) → kept (inserted es q x) q.now ≡ x
put_itself q x [] = ap (λ b. or_nothing (cond b (Some x) None)) (itself q.now)
put_itself q x (e ∷ es) = here_step q.now e es (inserted es q x) x _ refl (put_itself q x es)

other_step : (n : List ℕ) (q : Bor (List ℕ)) (e : Entry) (es put : List Entry) (x : Size) (b : Bool) → bytes_eq q.now e.0.now ≡ b → bytes_eq q.now n ≡ false
    → kept put n ≡ kept es n → kept (cond b ((e.0, x) ∷ es) (e ∷ put)) n ≡ kept (e ∷ es) n
other_step n q e es put x true h other p =
    let apart : bytes_eq n e.0.now ≡ false = ap (λ m. bytes_eq n m) (sym (told q.now e.0.now h)) ∙ (turned n q.now ∙ other) in
    ap (λ b. or_nothing (cond b (Some x) (lookup (λ (k : Bor (List ℕ)). bytes_eq n k.now) es))) apart
    ∙ sym (ap (λ b. or_nothing (cond b (Some e.1) (lookup (λ (k : Bor (List ℕ)). bytes_eq n k.now) es))) apart)
other_step n q e es put x false h other p = chosen (bytes_eq n e.0.now) e.1 _ _ p
  where
    chosen : (b : Bool) (v : Size) (r s : Option Size) → or_nothing r ≡ or_nothing s → or_nothing (cond b (Some v) r) ≡ or_nothing (cond b (Some v) s)
    chosen true v r s k = refl
    chosen false v r s k = k

put_others : (n : List ℕ) (q : Bor (List ℕ)) (x : Size) (es : List Entry) → bytes_eq q.now n ≡ false → kept (inserted es q x) n ≡ kept es n
put_others n q x [] h = ap (λ b. or_nothing (cond b (Some x) None)) (turned n q.now ∙ h)
put_others n q x (e ∷ es) h = other_step n q e es (inserted es q x) x _ refl h (put_others n q x es h)

pub is_put : (q : Bor (List ℕ)) (x : Size) (es behind : List Entry) → behind ≡ inserted es q x → IsPut q.now x es behind
is_put q x es behind h = record {
  here = λ n same. ap (λ l. kept l n) h ∙ subst (λ m. kept (inserted es q x) m ≡ x) (told q.now n same) (put_itself q x es);
  others = λ n other. ap (λ l. kept l n) h ∙ put_others n q x es other;
}

-- one more pattern
pub pattern_kept : (earlier : List Decl) (p : PatternDecl) (cs rs : List Entry) (m all : ℕ) → all ≡ capped (pattern_expressions (decl.Pattern p ∷ earlier))
    → IsKept earlier cs rs m → IsKept (decl.Pattern p ∷ earlier) cs rs all
pattern_kept earlier p cs rs m all h before = record { constraint = before.constraint; rewrite = before.rewrite; all = h }

-- before the first declaration
pub nothing_kept : (ds : List (Bor Decl)) (cs rs : List Entry) → ds ≡ [] → cs ≡ [] → rs ≡ [] → IsKept (last_first ds) cs rs 0
unfolding capped
nothing_kept ds cs rs p q r = record {
  constraint = λ n. ap (λ es. kept es n) q ∙ sym (ap (λ l. capped_size ((sizes (last_first l)).constraint n)) p);
  rewrite = λ n. ap (λ es. kept es n) r ∙ sym (ap (λ l. capped_size ((sizes (last_first l)).rewrite n)) p);
  all = sym (ap (λ l. capped (pattern_expressions (last_first l))) p);
}
