-- Lists that are put together item by item, until one is missing.
use Rattle.std.proofs.Common.{◌≡◌, ℕ, ◌+◌, ◌<◌, ◌≤◌, List, [], ◌∷◌, ◌++◌, length, get_or, drop, map, Option, Some, None, refl, sym, ap, ◌∙◌, append_assoc}
use Rattle.std.specs.Prelude.{Ok, Err}
use Rattle.rewrite_model.specs.declared.run.Break.{Break}
use Rattle.rewrite_model.specs.Things.{joined, concatenated}
use Rattle.rewrite_model.specs.Making.{Stop, or_break}
use Rattle.mlir_tree.specs.declared.refusal.Refusal.{Refusal}
use Rattle.mlir_tree.specs.declared.refusal.Refusal.TheVariants.{Fault, NoMemory}
use Rattle.rewrite_step.specs.declared.stop.Stop.{Stop as StopNode}
use Rattle.rewrite_step.specs.View.{stop_of}
use Rattle.rewrite_step.specs.Ends.{Ends}
use Rattle.rewrite_step.proofs.Loops.{next_at, none_behind}

pub of_map : {A B X : Type 0} (f : B → Option (List X)) (g : A → B) (xs : List A) → concatenated f (map g xs) ≡ concatenated (λ x. f (g x)) xs
of_map f g [] = refl
of_map f g (x ∷ xs) = ap (joined (f (g x))) (of_map f g xs)

-- What was found of the items so far, and what those that are left give, are what all give.
abbrev pub IsFound : {A X : Type 0} → (A → Option (List X)) → List A → ℕ → List X → Type 0
IsFound f xs i found = concatenated f xs ≡ joined (Some found) (concatenated f (drop i xs))

none_yet : {X : Type 0} (o : Option (List X)) → o ≡ joined (Some []) o
none_yet None = refl
none_yet (Some xs) = refl

pub none_found : {A X : Type 0} (f : A → Option (List X)) (xs : List A) (found : List X) → found ≡ [] → IsFound f xs 0 found
none_found f xs found is = none_yet (concatenated f xs) ∙ ap (λ l. joined (Some l) (concatenated f xs)) (sym is)

joined_twice : {X : Type 0} (found : List X) (one more : Option (List X)) → joined (Some found) (joined one more) ≡ joined (joined (Some found) one) more
joined_twice found None more = refl
joined_twice found (Some xs) None = refl
joined_twice found (Some xs) (Some ys) = ap Some (sym (append_assoc found xs ys))

ahead : {A X : Type 0} (f : A → Option (List X)) (xs : List A) (i : ℕ) (d : A) (found : List X) → i < length xs → IsFound f xs i found
    → concatenated f xs ≡ joined (joined (Some found) (f (get_or xs i d))) (concatenated f (drop (i + 1) xs))
ahead f xs i d found h all = all ∙ (ap (λ l. joined (Some found) (concatenated f l)) (next_at xs i d h) ∙ joined_twice found (f (get_or xs i d)) (concatenated f (drop (i + 1) xs)))

there : {X : Type 0} (b : Break) (o : Option X) (x : X) → or_break b o ≡ Ok x → o ≡ Some x
there b (Some y) x is = cc
there b None x is = absurd (cc)

missing : {X : Type 0} (b : Break) (s : Stop) (o more : Option (List X)) → or_break b o ≡ Err s → or_break b (joined o more) ≡ Err s
missing b s (Some y) more is = absurd (cc)
missing b s None more is = is

pub one_found : {A X : Type 0} (f : A → Option (List X)) (b : Break) (xs : List A) (i : ℕ) (d : A) (found new : List X) → i < length xs → IsFound f xs i found
    → or_break b (joined (Some found) (f (get_or xs i d))) ≡ Ok new → IsFound f xs (i + 1) new
one_found f b xs i d found new h all gives =
    ahead f xs i d found h all ∙ ap (λ o. joined o (concatenated f (drop (i + 1) xs))) (there b (joined (Some found) (f (get_or xs i d))) new gives)

stopped : {A X : Type 0} (f : A → Option (List X)) (b : Break) (s : Stop) (xs : List A) (i : ℕ) (d : A) (found : List X) → i < length xs → IsFound f xs i found
    → or_break b (joined (Some found) (f (get_or xs i d))) ≡ Err s → or_break b (concatenated f xs) ≡ Err s
stopped f b s xs i d found h all stops =
    ap (or_break b) (ahead f xs i d found h all) ∙ missing b s (joined (Some found) (f (get_or xs i d))) (concatenated f (drop (i + 1) xs)) stops

pub one_missing : {A B X D : Type 0} (f : B → Option (List X)) (g : A → B) (b : Break) (xs : List A) (i : ℕ) (d : A) (found new : List X) (w : D → List X) (e : Refusal StopNode)
    → i < length xs → IsFound (λ x. f (g x)) xs i found
    → Ends (λ (_ : Unit {0}). new) (or_break b (joined (Some found) (f (g (get_or xs i d))))) (Err e) → Ends w (or_break b (concatenated f (map g xs))) (Err e)
one_missing f g b xs i d found new w (Fault s) h all stops = ap (or_break b) (of_map f g xs) ∙ stopped (λ x. f (g x)) b (stop_of s) xs i d found h all stops
one_missing f g b xs i d found new w NoMemory h all stops = tt

nothing_left : {X : Type 0} (found : List X) → joined (Some found) (Some []) ≡ Some found
nothing_left found = ap Some (append_nil found)
  where
    append_nil : {X : Type 0} (xs : List X) → xs ++ [] ≡ xs
    append_nil [] = refl
    append_nil (x ∷ xs) = ap (λ l. x ∷ l) (append_nil xs)

pub all_found : {A B X : Type 0} (f : B → Option (List X)) (g : A → B) (b : Break) (xs : List A) (i : ℕ) (found : List X) → length xs ≤ i → IsFound (λ x. f (g x)) xs i found
    → or_break b (concatenated f (map g xs)) ≡ Ok found
all_found f g b xs i found h all = ap (or_break b) (of_map f g xs ∙ (all ∙ (ap (λ l. joined (Some found) (concatenated (λ x. f (g x)) l)) (none_behind xs i h) ∙ nothing_left found)))
