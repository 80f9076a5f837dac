-- Lists whose members are read one by one are read.
use Rattle.std.proofs.Common.{◌≡◌, ◌≢◌, ℕ, zero, suc, ◌<◌, ◌≤◌, List, [], ◌∷◌, ◌++◌, refl, ap, sym, subst, ◌∙◌, arith, Ok, append_assoc}
use Rattle.std.proofs.lemmas.List.{append-nil}
use Rattle.pdll_parser.specs.declared.terminal.Terminal.{Terminal}
use Rattle.pdll_parser.specs.declared.terminal.Terminal.TheVariants as t
use Rattle.pdll_parser.specs.Place.{Place, terminal, left}
use Rattle.pdll_parser.specs.Input.{Parser, separated, items, list, many, all_up_to}
use Rattle.pdll_parser.specs.Tokens.{Tok}
use Rattle.pdll_parser.proofs.CompleteSteps.{seen, unseen, after_it, after_none, tok_moves, Takes, Passes}

-- the rest of a list, each member behind a comma
abbrev pub MoreRead : {A : Type 0} → Parser A → Place → List A → Place → Type 0
MoreRead item s [] r = s ≡ r
MoreRead item s (x ∷ xs) r = (s1 s2 : Place) × Tok t.Comma s s1 × Takes item s1 x s2 × MoreRead item s2 xs r

comma_moves : (s r : Place) → Tok t.Comma s r → left r < left s
comma_moves s r h = tok_moves t.Comma s r (λ e. cc) (λ e. cc) h

pub more_moves : {A : Type 0} (item : Parser A) (xs : List A) (s r : Place) → MoreRead item s xs r → left r ≤ left s
more_moves item [] s r h = omega (arith, ap left h)
more_moves item (x ∷ xs) s r (s1, s2, comma, one, more) = omega (arith, comma_moves s s1 comma, one.moves, more_moves item xs s2 r more)

one_more : {A : Type 0} (item : Parser A) (n : ℕ) (found : List A) (s s1 s2 : Place) (x : A) → item s ≡ Ok (x, s1) → Tok t.Comma s1 s2 → separated item (suc n) found s ≡ separated item n (found ++ x ∷ []) s2
unfolding separated
one_more item n found s s1 s2 x e c = rw (e, seen t.Comma s1 c.kind, after_it t.Comma s1 s2 c) refl

last_one : {A : Type 0} (item : Parser A) (n : ℕ) (found : List A) (s s1 : Place) (x : A) → item s ≡ Ok (x, s1) → terminal s1 ≢ t.Comma → separated item (suc n) found s ≡ Ok (found ++ x ∷ [], s1)
unfolding separated
last_one item n found s s1 x e c = rw (e, unseen t.Comma s1 c, after_none t.Comma s1 c) refl

separated_reads : {A : Type 0} (item : Parser A) (xs : List A) (n : ℕ) (found : List A) (x : A) (s s1 r : Place) → Takes item s x s1 → MoreRead item s1 xs r → left s ≤ n → terminal r ≢ t.Comma
    → separated item n found s ≡ Ok (found ++ x ∷ xs, r)
separated_reads item xs zero found x s s1 r one more enough ends = absurd (let up = one.moves in omega arith)
separated_reads item [] (suc n) found x s s1 r one more enough ends =
    subst (λ u. separated item (suc n) found s ≡ Ok (found ++ x ∷ [], u)) more (last_one item n found s s1 x one.reads (λ c. ends (subst (λ u. terminal u ≡ t.Comma) more c)))
separated_reads item (y ∷ ys) (suc n) found x s s1 r one (s2, s3, comma, two, more) enough ends =
    one_more item n found s s1 s2 x one.reads comma
    ∙ (separated_reads item ys n (found ++ x ∷ []) y s2 s3 r two more (omega (arith, one.moves, comma_moves s1 s2 comma)) ends
    ∙ (λ i. Ok (append_assoc found (x ∷ []) (y ∷ ys) i, r)))

pub items_read : {A : Type 0} (item : Parser A) (x : A) (xs : List A) (s s1 r : Place) → Takes item s x s1 → MoreRead item s1 xs r → terminal r ≢ t.Comma → Takes (items item) s (x ∷ xs) r
items_read item x xs s s1 r one more ends = record {
  reads = separated_reads item xs (left s) [] x s s1 r one more (omega arith) ends;
  moves = omega (arith, one.moves, more_moves item xs s1 r more);
}

empty_list : {A : Type 0} (close_mark : Terminal) (item : Parser A) (s : Place) → terminal s ≡ close_mark → list close_mark item s ≡ Ok ([], s)
unfolding list
empty_list close_mark item s h = rw (seen close_mark s h) refl

some_list : {A : Type 0} (close_mark : Terminal) (item : Parser A) (s : Place) → terminal s ≢ close_mark → list close_mark item s ≡ items item s
unfolding list
some_list close_mark item s h = rw (unseen close_mark s h) refl

pub none_listed : {A : Type 0} (close_mark : Terminal) (item : Parser A) (s r : Place) → s ≡ r → terminal r ≡ close_mark → Passes (list close_mark item) s [] r
none_listed close_mark item s r same ends = record {
  reads = empty_list close_mark item s (ap terminal same ∙ ends) ∙ (λ i. Ok ([], same i));
  moves = omega (arith, ap left same);
}

pub some_listed : {A : Type 0} (close_mark : Terminal) (item : Parser A) (x : A) (xs : List A) (s s1 r : Place) → terminal s ≢ close_mark → Takes item s x s1 → MoreRead item s1 xs r → terminal r ≢ t.Comma
    → Passes (list close_mark item) s (x ∷ xs) r
some_listed close_mark item x xs s s1 r begins one more ends =
    let all = items_read item x xs s s1 r one more ends in
    record { reads = some_list close_mark item s begins ∙ all.reads; moves = omega (arith, all.moves) }

-- one after the other, none at the mark where they end
abbrev pub ManyRead : {A : Type 0} → Terminal → (List A → Parser A) → List A → Place → List A → Place → Type 0
ManyRead stop item found s [] r = s ≡ r
ManyRead stop item found s (x ∷ xs) r = (s1 : Place) × (terminal s ≢ stop) × Takes (item found) s x s1 × ManyRead stop item (found ++ x ∷ []) s1 xs r

pub many_move : {A : Type 0} (stop : Terminal) (item : List A → Parser A) (xs found : List A) (s r : Place) → ManyRead stop item found s xs r → left r ≤ left s
many_move stop item [] found s r h = omega (arith, ap left h)
many_move stop item (x ∷ xs) found s r (s1, goes, one, more) = omega (arith, one.moves, many_move stop item xs (found ++ x ∷ []) s1 r more)

many_ends : {A : Type 0} (stop : Terminal) (item : List A → Parser A) (n : ℕ) (found : List A) (s : Place) → terminal s ≡ stop → many stop item n found s ≡ Ok (found, s)
unfolding many
many_ends stop item zero found s h = rw (seen stop s h) refl
many_ends stop item (suc n) found s h = rw (seen stop s h) refl

many_goes : {A : Type 0} (stop : Terminal) (item : List A → Parser A) (n : ℕ) (found : List A) (x : A) (s s1 : Place) → terminal s ≢ stop → item found s ≡ Ok (x, s1)
    → many stop item (suc n) found s ≡ many stop item n (found ++ x ∷ []) s1
unfolding many
many_goes stop item n found x s s1 h e = rw (unseen stop s h, e) refl

many_by : {A : Type 0} (stop : Terminal) (item : List A → Parser A) (xs : List A) (n : ℕ) (found : List A) (s r : Place) → ManyRead stop item found s xs r → left s ≤ n → terminal r ≡ stop
    → many stop item n found s ≡ Ok (found ++ xs, r)
many_by stop item [] n found s r same enough ends =
    many_ends stop item n found s (ap terminal same ∙ ends) ∙ (λ i. Ok (sym (append-nil found) i, same i))
many_by stop item (x ∷ xs) zero found s r (s1, goes, one, more) enough ends = absurd (let up = one.moves in omega arith)
many_by stop item (x ∷ xs) (suc n) found s r (s1, goes, one, more) enough ends =
    many_goes stop item n found x s s1 goes one.reads
    ∙ (many_by stop item xs n (found ++ x ∷ []) s1 r more (omega (arith, one.moves)) ends
    ∙ (λ i. Ok (append_assoc found (x ∷ []) xs i, r)))

pub many_read : {A : Type 0} (stop : Terminal) (item : List A → Parser A) (xs : List A) (s r : Place) → ManyRead stop item [] s xs r → terminal r ≡ stop → Passes (all_up_to stop item) s xs r
many_read stop item xs s r all ends = record {
  reads = many_by stop item xs (left s) [] s r all (omega arith) ends;
  moves = many_move stop item xs [] s r all;
}
