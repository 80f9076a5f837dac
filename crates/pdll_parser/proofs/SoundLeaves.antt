-- Names, literals and numbers that are read are spelled so.
use Rattle.std.proofs.Common.{◌≡◌, ℕ, zero, suc, Bool, true, List, [], ◌∷◌, ◌++◌, refl, ap, sym, ◌∙◌, inl, inr, Ok, append_assoc, append-nil}
use denote.Enum.Bare.{true_same}
use Rattle.pdll_parser.specs.contracts.terminal.Terminal.{the_type}
use Rattle.pdll_parser.specs.declared.terminal.Terminal.{Terminal}
use Rattle.pdll_parser.specs.declared.terminal.Terminal.TheVariants as t
use Rattle.pdll_parser.specs.Terminals.{is_name, is_word}
use Rattle.pdll_parser.specs.Place.{Place, left, terminal, spelling, next, same, sees, after}
use Rattle.pdll_parser.specs.Input.{name, word}
use Rattle.pdll_parser.specs.Expressions.{text_of, literal, dotted, dotted_name, entry_name, entry_name_by}
use Rattle.pdll_parser.specs.Statements.{declared_name}
use Rattle.pdll_parser.specs.Tokens.{IsText, IsWord, IsDeclaredName, IsLiteral, IsDottedName, AreMoreWords, with_dots}
use Rattle.pdll_parser.specs.Grammar.{IsEntryName}
use Rattle.pdll_parser.proofs.SoundSteps.{Sound, bind_ok, given, taken, refused, eaten, left_alone, text_sound}

pub same_seen : (x y : Terminal) → x ≡ y → same x y ≡ true
unfolding same
same_seen x y h = true_same the_type x y h

-- a token that passes the test is its text
pub text_is : (test : Terminal → Bool) (s : Place) → test (terminal s) ≡ true → IsText test s (spelling s) (next s)
text_is test s h = record { kind = h; spelled = refl; rest = refl }

pub literal_sound : Sound literal IsLiteral
unfolding literal
literal_sound s r x e =
    let (text, u, e1, e2) = bind_ok (text_of t.String s) _ x r e in
    given (IsLiteral s) e2 (refl, (text, text_sound (λ y. same y t.String) s u text e1, refl))

pub declared_name_sound : Sound declared_name IsDeclaredName
unfolding declared_name
declared_name_sound s r x e =
    let (text, u, e1, e2) = bind_ok (name s) _ x r e in
    given (IsDeclaredName s) e2 (refl, text_sound is_name s u text e1)

-- ---- words with `.` between

abbrev AddsWords : List ℕ → Place → List ℕ → Place → Type 0
AddsWords found s all r = (w : List ℕ) × (ws : List (List ℕ)) × (m : Place) × IsWord s w m × AreMoreWords m ws r × (all ≡ found ++ (w ++ with_dots ws))

words_joined : (found w v more : List ℕ) → (found ++ (w ++ 46 ∷ [])) ++ (v ++ more) ≡ found ++ (w ++ (46 ∷ (v ++ more)))
words_joined found w v more = append_assoc found (w ++ 46 ∷ []) (v ++ more) ∙ ap (λ x. found ++ x) (append_assoc w (46 ∷ []) (v ++ more))

dotted_sound : (n : ℕ) (found all : List ℕ) (s r : Place) → dotted n found s ≡ Ok (all, r) → AddsWords found s all r
unfolding dotted
dotted_sound zero found all s r e = absurd (refused s r all e)
dotted_sound (suc n) found all s r e =
    let (w, m, e1, e2) = bind_ok (word s) _ all r e in
    let is = text_sound is_word s m w e1 in
    elim (taken (sees t.Dot m) _ _ (after t.Dot m) r all e2) [
      | inl h ↦
          let (v, vs, k, is_v, more, joined) = dotted_sound n (found ++ (w ++ 46 ∷ [])) all (after t.Dot m) r h.1 in
          (w, v ∷ vs, m, is, (after t.Dot m, k, eaten t.Dot m h.0, is_v, more), joined ∙ words_joined found w v (with_dots vs))
      | inr h ↦ given (λ x u. AddsWords found s x u) h.1 (w, [], m, is, left_alone t.Dot m h.0, ap (λ x. found ++ x) (sym (append-nil w)))
    ]

pub dotted_name_sound : Sound dotted_name IsDottedName
unfolding dotted_name
dotted_name_sound s r all e =
    let (w, ws, m, is, more, joined) = dotted_sound (left s) [] all s r e in
    record { first = w; others = ws; middle = m; is_first = is; are_others = more; is_name = joined }

-- ---- a word, or a string

entry_name_go : (x : Terminal) (s r : Place) (text : List ℕ) → terminal s ≡ x → entry_name_by x s ≡ Ok (text, r) → IsEntryName s text r
entry_name_go t.String s r text h e = given (IsEntryName s) e (inr (spelling s, text_is (λ y. same y t.String) s (same_seen (terminal s) t.String h), refl))
entry_name_go x s r text h e = inl (text_sound is_word s r text e)

pub entry_name_sound : Sound entry_name IsEntryName
unfolding entry_name
entry_name_sound s r text e = entry_name_go (terminal s) s r text refl e
