-- What stands behind a place, and the token there.
use Rattle.std.proofs.Common.{◌≡◌, ℕ, suc, ◌+◌, ◌≤◌, true, false, List, [], ◌∷◌, ◌++◌, length, drop, refl, ap, sym, ◌∙◌, arith, Ok}
use Rattle.std.proofs.lemmas.List.{drop-drop, drop_at}
use Rattle.text_scan.specs.Bytes.{is_space, AllAre}
use Rattle.text_scan.specs.Gaps.{gap_len}
use Rattle.text_scan.proofs.Fronts.{front_part}
use Rattle.mlir_lexer.specs.Scan.{first_token, token, token_at}
use Rattle.mlir_lexer.specs.Tokens.{IsToken}
use Rattle.mlir_lexer.specs.declared.token.Token.{Token}
use Rattle.mlir_lexer.specs.declared.token.TokenKind.{TokenKind}
use Rattle.mlir_attributes.specs.Place.{Place, moved, sees, is_kind_by}
use Rattle.mlir_attributes.specs.Grammar.{IsSpelled, IsMark, IsNot}
use Rattle.mlir_attributes.proofs.Tokens.{token_stands, not_seen}

-- Behind the place stands this text.
pub record Is (s : Place) (z : List ℕ) : Type 0 where
  pub stands : drop s.at s.bytes ≡ z
  pub within : s.at ≤ length s.bytes

-- It stands behind spaces.
pub record Faces (s : Place) (z : List ℕ) : Type 0 where
  pub at : ℕ
  pub same : token_at s.bytes s.at ≡ token_at s.bytes at
  pub is : Is (moved s at) z
  pub within : s.at ≤ length s.bytes

-- From the place on stands what is asked, and behind it this text.
abbrev pub Reads : (Place → Place → Type 0) → Place → List ℕ → Type 0
Reads Stands s z = (e : ℕ) × Stands s (moved s e) × Is (moved s e) z

pub faces : (s : Place) (z : List ℕ) → Is s z → Faces s z
faces s z h = record { at = s.at; same = refl; is = h; within = h.within }

-- the text behind a front
pub behind : (s : Place) (w z : List ℕ) → Is s (w ++ z) → Is (moved s (s.at + length w)) z
behind s w z h =
    let part = front_part s.bytes s.at w z h.within h.stands in
    record { stands = sym (drop-drop (length w) s.at s.bytes) ∙ ap (drop (length w)) h.stands ∙ drop_at w z (length w) refl; within = part.1 }

there : (s : Place) (z : List ℕ) → Is s z → gap_len z ≡ 0 → token_at s.bytes s.at ≡ first_token s.at z
unfolding token_at
there s z h e =
    let none : gap_len (drop s.at s.bytes) ≡ 0 = ap gap_len h.stands ∙ e in
    let same : s.at + gap_len (drop s.at s.bytes) ≡ s.at = omega arith in
    ap (λ n. first_token n (drop n s.bytes)) same ∙ ap (first_token s.at) h.stands

past : (b : ℕ) (s : Place) (z : List ℕ) → is_space b ≡ true → Is s (b ∷ z) → token_at s.bytes s.at ≡ token_at s.bytes (s.at + 1)
unfolding token_at
past b s z space h =
    let next = behind s (b ∷ []) z h in
    let one : gap_len (b ∷ z) ≡ suc (gap_len z) = rw space refl in
    let gap : gap_len (drop s.at s.bytes) ≡ suc (gap_len (drop (s.at + 1) s.bytes)) = ap gap_len h.stands ∙ one ∙ ap (λ t. suc (gap_len t)) (sym next.stands) in
    let same : s.at + gap_len (drop s.at s.bytes) ≡ (s.at + 1) + gap_len (drop (s.at + 1) s.bytes) = omega arith in
    ap (λ n. first_token n (drop n s.bytes)) same

-- a space more
pub space : (b : ℕ) (s : Place) (z : List ℕ) → is_space b ≡ true → Faces s (b ∷ z) → Faces s z
space b s z is h = record {
  at = h.at + 1;
  same = h.same ∙ past b (moved s h.at) z is h.is;
  is = behind (moved s h.at) (b ∷ []) z h.is;
  within = h.within;
}

-- a token of this text
abbrev pub Begins : TokenKind → List ℕ → List ℕ → Type 0
Begins k w z = (gap_len (w ++ z) ≡ 0) × ((at : ℕ) → first_token at (w ++ z) ≡ token k at (length w))

pub spelled : (k : TokenKind) (w : List ℕ) (s : Place) (z : List ℕ) → Faces s (w ++ z) → Begins k w z → Reads (λ u v. IsSpelled k w u v) s z
spelled k w s z h b =
    let there_is = h.same ∙ there (moved s h.at) (w ++ z) h.is b.0 ∙ b.1 h.at in (
      h.at + length w,
      record {
        token = record { kind = k; start = h.at; end = h.at + length w };
        stands = token_stands s.bytes s.at (record { kind = k; start = h.at; end = h.at + length w }) h.within there_is;
        kind = refl;
        text_is = (front_part s.bytes h.at w z h.is.within h.is.stands).0;
        rest = refl;
      },
      behind (moved s h.at) w z h.is,
    )

pub marked : (k : TokenKind) (w : List ℕ) (s : Place) (z : List ℕ) → Faces s (w ++ z) → Begins k w z → Reads (IsMark k) s z
marked k w s z h b = let (e, is, rest) = spelled k w s z h b in (e, (w, is), rest)

-- the token where no space stands
pub token_there : (s : Place) (z : List ℕ) (t : Token) → Is s z → gap_len z ≡ 0 → first_token s.at z ≡ Ok t → IsToken s.bytes s.at t
token_there s z t h e is = token_stands s.bytes s.at t h.within (there s z h e ∙ is)

-- ---- spaces, and what ends a part

pub spaces : (gap z : List ℕ) (s : Place) → AllAre is_space gap → Faces s (gap ++ z) → Faces s z
spaces [] z s all h = h
spaces (b ∷ gap) z s all h = spaces gap z s all.1 (space b s (gap ++ z) all.0 h)

-- no such token
abbrev pub Lacks : TokenKind → List ℕ → Type 0
Lacks k z = (at : ℕ) → is_kind_by k (first_token at z) ≡ false

pub lacks : (k : TokenKind) (s : Place) (z : List ℕ) → Faces s z → gap_len z ≡ 0 → Lacks k z → IsNot k s
unfolding sees
lacks k s z h e other = not_seen k s (ap (is_kind_by k) (h.same ∙ there (moved s h.at) z h.is e) ∙ other h.at)
