-- Names, literals, dotted names and numbers that are spelled are read.
use Rattle.std.proofs.Common.{◌≡◌, ◌≢◌, ℕ, zero, suc, ◌<◌, ◌≤◌, Bool, true, List, [], ◌∷◌, ◌++◌, refl, ap, sym, subst, ◌∙◌, arith, inl, inr, Ok, append_assoc}
use Rattle.std.proofs.lemmas.List.{append-nil}
use denote.Enum.Bare.{same_true}
use Rattle.text_scan.specs.Strings.{string_value}
use Rattle.pdll_syntax.specs.declared.name.Literal.{Literal}
use Rattle.pdll_syntax.specs.declared.name.Name.{Name}
use Rattle.pdll_parser.specs.contracts.terminal.Terminal.{the_type}
use Rattle.pdll_parser.specs.declared.terminal.Terminal.{Terminal}
use Rattle.pdll_parser.specs.declared.terminal.Terminal.TheVariants as t
use Rattle.pdll_parser.specs.Terminals.{is_name, is_word}
use Rattle.pdll_parser.specs.Place.{Place, terminal, left, same}
use Rattle.pdll_parser.specs.Input.{expect_some, name}
use Rattle.pdll_parser.specs.Tokens.{Tok, IsText, IsName, IsWord, IsLiteral, IsDeclaredName, AreMoreWords, with_dots, IsDottedName}
use Rattle.pdll_parser.specs.Expressions.{literal, dotted, dotted_name, entry_name, entry_name_by}
use Rattle.pdll_parser.specs.Statements.{declared_name}
use Rattle.pdll_parser.specs.Grammar.{IsEntryName}
use Rattle.pdll_parser.proofs.CompleteSteps.{seen, unseen, after_it, after_none, text_read, tok_moves, text_moves, Takes}

pub name_moves : (s r : Place) (w : List ℕ) → IsName s w r → left r < left s
name_moves s r w h = text_moves is_name s r w refl refl h

pub word_moves : (s r : Place) (w : List ℕ) → IsWord s w r → left r < left s
word_moves s r w h = text_moves is_word s r w refl refl h

abbrev pub is_this : Terminal → Terminal → Bool
is_this x y = same y x

pub text_of_moves : (x : Terminal) (s r : Place) (w : List ℕ) → x ≢ t.End → x ≢ t.Bad → IsText (λ y. same y x) s w r → left r < left s
unfolding same
text_of_moves x s r w no_end no_bad h =
    let is = same_true the_type tt (terminal s) x h.kind in
    tok_moves x s r no_end no_bad (record { kind = is; rest = h.rest })

pub literal_read : (s r : Place) (l : Literal) → IsLiteral s l r → Takes literal s l r
unfolding literal
literal_read s r l (at, (text, is, value)) = record {
  reads = rw (text_read (λ y. same y t.String) s r text is) (λ i. Ok (record { at = sym at i; bytes = value i }, r));
  moves = text_of_moves t.String s r text (λ e. cc) (λ e. cc) is;
}

pub declared_name_read : (s r : Place) (n : Name) → IsDeclaredName s n r → Takes declared_name s n r
unfolding declared_name
declared_name_read s r n (at, is) = record {
  reads = rw (text_read is_name s r n.text is) (λ i. Ok (record { at = sym at i; text = n.text }, r));
  moves = name_moves s r n.text is;
}

-- ---- words with `.` between

more_words : (n : ℕ) (found w : List ℕ) (s s1 s2 : Place) → IsWord s w s1 → Tok t.Dot s1 s2 → dotted (suc n) found s ≡ dotted n (found ++ (w ++ 46 ∷ [])) s2
unfolding dotted
more_words n found w s s1 s2 is dot = rw (text_read is_word s s1 w is, seen t.Dot s1 dot.kind, after_it t.Dot s1 s2 dot) refl

last_word : (n : ℕ) (found w : List ℕ) (s s1 : Place) → IsWord s w s1 → terminal s1 ≢ t.Dot → dotted (suc n) found s ≡ Ok (found ++ w, s1)
unfolding dotted
last_word n found w s s1 is ends = rw (text_read is_word s s1 w is, unseen t.Dot s1 ends, after_none t.Dot s1 ends) refl

dot_joins : (found w more : List ℕ) → (found ++ (w ++ 46 ∷ [])) ++ more ≡ found ++ (w ++ (46 ∷ more))
dot_joins found w more = append_assoc found (w ++ 46 ∷ []) more ∙ ap (λ x. found ++ x) (append_assoc w (46 ∷ []) more)

dotted_reads : (ws : List (List ℕ)) (n : ℕ) (found w : List ℕ) (s s1 r : Place) → IsWord s w s1 → AreMoreWords s1 ws r → left s ≤ n → terminal r ≢ t.Dot
    → dotted n found s ≡ Ok (found ++ (w ++ with_dots ws), r)
dotted_reads ws zero found w s s1 r is more enough ends = absurd (let up = word_moves s s1 w is in omega arith)
dotted_reads [] (suc n) found w s s1 r is more enough ends =
    last_word n found w s s1 is (λ c. ends (subst (λ u. terminal u ≡ t.Dot) more c))
    ∙ (λ i. Ok (found ++ sym (append-nil w) i, more i))
dotted_reads (v ∷ vs) (suc n) found w s s1 r is (s2, s3, dot, next_is, more) enough ends =
    more_words n found w s s1 s2 is dot
    ∙ (dotted_reads vs n (found ++ (w ++ 46 ∷ [])) v s2 s3 r next_is more
    (omega (arith, word_moves s s1 w is, tok_moves t.Dot s1 s2 (λ e. cc) (λ e. cc) dot)) ends
    ∙ (λ i. Ok (dot_joins found w (v ++ with_dots vs) i, r)))

more_words_move : (ws : List (List ℕ)) (s r : Place) → AreMoreWords s ws r → left r ≤ left s
more_words_move [] s r h = omega (arith, ap left h)
more_words_move (w ∷ ws) s r (s1, s2, dot, is, more) =
    omega (arith, tok_moves t.Dot s s1 (λ e. cc) (λ e. cc) dot, word_moves s1 s2 w is, more_words_move ws s2 r more)

pub dotted_name_read : (s r : Place) (name : List ℕ) → IsDottedName s name r → terminal r ≢ t.Dot → Takes dotted_name s name r
unfolding dotted_name
dotted_name_read s r name is ends = record {
  reads = dotted_reads is.others (left s) [] is.first s is.middle r is.is_first is.are_others (omega arith) ends ∙ (λ i. Ok (sym is.is_name i, r));
  moves = omega (arith, word_moves s is.middle is.first is.is_first, more_words_move is.others is.middle r is.are_others);
}

-- ---- names of entries

entry_word : (s r : Place) (w : List ℕ) (x : Terminal) → terminal s ≡ x → is_word x ≡ true → expect_some is_word s ≡ Ok (w, r) → entry_name_by x s ≡ Ok (w, r)
entry_word s r w t.String h is e = absurd (cc)
entry_word s r w x h is e = e

entry_string : (s r : Place) (w text : List ℕ) → IsText (λ y. same y t.String) s text r → string_value text ≡ w → entry_name_by (terminal s) s ≡ Ok (w, r)
unfolding same
entry_string s r w text is value =
    rw (same_true the_type tt (terminal s) t.String is.kind) (λ i. Ok ((ap string_value is.spelled ∙ value) i, is.rest i))

pub entry_name_read : (s r : Place) (w : List ℕ) → IsEntryName s w r → Takes entry_name s w r
unfolding entry_name
entry_name_read s r w (inl is) = record {
  reads = entry_word s r w (terminal s) refl is.kind (text_read is_word s r w is);
  moves = word_moves s r w is;
}
entry_name_read s r w (inr (text, is, value)) = record {
  reads = entry_string s r w text is value;
  moves = text_of_moves t.String s r text (λ e. cc) (λ e. cc) is;
}
