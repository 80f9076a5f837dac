-- The text of a printable attribute spells it.
use Rattle.std.proofs.Common.{◌≡◌, ℕ, zero, suc, ◌+◌, ◌<◌, Bool, true, false, if◌then◌else◌, List, [], ◌∷◌, ◌++◌, length, refl, ap, sym, subst, arith, inl, inr, append_assoc}
use Rattle.std.specs.Prelude.{◌⊎◌, codes, Option, ◌==◌, ◌||◌}
use Rattle.std.specs.List.{AllByRecursion, list_all}
use Rattle.std.proofs.lemmas.Bool.{and_parts}
use Rattle.text_scan.specs.Bytes.{AllAre, is_word_start, is_word_byte, is_suffix_byte}
use Rattle.mlir_lexer.specs.Forms.{HasForm, IsSuffix, is_suffix_start}
use Rattle.mlir_lexer.specs.declared.token.TokenKind.TheVariants as k
use Rattle.mlir_lexer.proofs.Classes.{suffix_start_no_quote}
use Rattle.mlir_tree.specs.Tree.{Ty, Attr, unit, int_attr, num, str, sym as symbols, of_ty, array, dict, kept, Attrs, no_attrs, attr_then, Entries, no_entries, entry_then, attrs}
use Rattle.mlir_print.specs.Text.{string_text, is_bare, name_text, typed_text, more_symbols_text, symbols_text, is_unit, entry_by, attr_text, attrs_text, more_attrs_text, entries_text, more_entries_text}
use Rattle.mlir_attributes.specs.Place.{Place, moved}
use Rattle.mlir_attributes.specs.Types.{is_kept_word}
use Rattle.mlir_attributes.specs.Attributes.{symbol_name}
use Rattle.mlir_attributes.specs.Grammar.{IsSpelled}
use Rattle.mlir_attributes.specs.AttributeGrammar.{AreMore, IsString, IsSymbol, AreSymbols, IsEntryName, AreAttrs, IsBehindName, IsEntry, AreEntries, HasKeptBody, IsKeptAttr, IsPlainAttr, IsAttr}
use Rattle.round_trip.specs.Printable.{AreBytes, IsTyped, IsWholeBody, IsAttrFront, IsAttrWord, IsPrintableAttr, ArePrintableAttrs, ArePrintableEntries}
use Rattle.round_trip.proofs.Places.{Is, Faces, Reads, faces, space, spelled, marked, lacks}
use Rattle.round_trip.proofs.Tokens.{Stops, word_begins, hash_form, string_begins, symbol_begins, quoted_begins, word_suffix}
use Rattle.round_trip.proofs.Bodies.{body_again, less_there, opens_text}
use Rattle.round_trip.proofs.Strings.{string_is, string_means}
use Rattle.round_trip.proofs.Ends.{Ends, ends_lack, comma_ends, bracket_ends, brace_ends}
use Rattle.round_trip.proofs.Types.{ty_again}
use Rattle.round_trip.proofs.Numbers.{typed_again, typed_stops, typed_no_body, num_again, int_again}
use Rattle.round_trip.proofs.Filling.{pairs, pairs_are, fills}

-- ---- strings

pub string_again : (bytes : List ℕ) (s : Place) (z : List ℕ) → AreBytes bytes → Faces s (string_text bytes ++ z) → Reads (λ u v. IsString u bytes v) s z
string_again bytes s z h f =
    let (e, there, rest) = spelled k.String (string_text bytes) s z f (string_begins (string_text bytes) z (string_is bytes h)) in
    (e, (string_text bytes, there, string_means bytes h), rest)

str_again : (room : ℕ) (bytes : List ℕ) (t : Option Ty) (s : Place) (z : List ℕ) → AreBytes bytes → IsTyped room t → Faces s ((string_text bytes ++ typed_text t) ++ z) → Ends z → Reads (λ u v. IsPlainAttr [] room u (str bytes t) v) s z
str_again room bytes t s z h p f ends =
    let (a, string, r1) = string_again bytes s (typed_text t ++ z) h (subst (Faces s) (append_assoc (string_text bytes) (typed_text t) z) f) in
    let (b, typed, r2) = typed_again room t (moved s a) z p r1 ends in
    (b, (moved s a, string, typed), r2)

-- ---- names

all_of : (name : List ℕ) → list_all is_word_byte name ≡ true → AllAre is_word_byte name
all_of [] h = tt
all_of (c ∷ name) h = let parts = and_parts (is_word_byte c) (list_all is_word_byte name) h in (parts.0, all_of name parts.1)

bare_word : (name : List ℕ) → is_bare name ≡ true → HasForm k.Word name
bare_word [] h = absurd (cc)
bare_word (b ∷ name) h = let parts = and_parts (is_word_start b) (list_all is_word_byte name) h in (parts.0, all_of name parts.1)

suffix_bytes : (name : List ℕ) → AllAre is_word_byte name → AllAre is_suffix_byte name
suffix_bytes [] h = tt
suffix_bytes (c ∷ name) h = (word_suffix c h.0, suffix_bytes name h.1)

or_left : (a b : Bool) → a ≡ true → (a || b) ≡ true
or_left a b h = ap (λ x. x || b) h

start_suffix : (b : ℕ) → is_word_start b ≡ true → is_suffix_start b ≡ true
start_suffix b h = or_left _ (b == 45) (or_left _ (b == 46) (or_left (is_word_start b) (b == 36) h))

word_is_suffix : (name : List ℕ) → HasForm k.Word name → IsSuffix name
word_is_suffix [] h = absurd h
word_is_suffix (b ∷ name) h = inr (start_suffix b h.0, suffix_bytes name h.1)

bare_symbol : (name : List ℕ) → HasForm k.Word name → symbol_name (64 ∷ name) ≡ name
bare_symbol [] h = absurd h
bare_symbol (b ∷ name) h = rw (suffix_start_no_quote b (start_suffix b h.0)) refl

quoted_symbol : (name : List ℕ) → AreBytes name → symbol_name (64 ∷ string_text name) ≡ name
unfolding string_text
quoted_symbol name h = string_means name h

symbol_by : (name : List ℕ) (bare : Bool) (s : Place) (z : List ℕ) → is_bare name ≡ bare → AreBytes name → Faces s (64 ∷ ((if bare then name else string_text name) ++ z)) → Stops z → Reads (λ u v. IsSymbol u name v) s z
symbol_by name true s z is h f stops =
    let form = bare_word name is in
    let (e, there, rest) = spelled k.Symbol (64 ∷ name) s z f (symbol_begins name z (word_is_suffix name form) stops) in
    (e, (64 ∷ name, there, bare_symbol name form), rest)
symbol_by name false s z is h f stops =
    let (e, there, rest) = spelled k.Symbol (64 ∷ string_text name) s z f (quoted_begins (string_text name) z (string_is name h)) in
    (e, (64 ∷ string_text name, there, quoted_symbol name h), rest)

symbol_again : (name : List ℕ) (s : Place) (z : List ℕ) → AreBytes name → Faces s (64 ∷ (name_text name ++ z)) → Stops z → Reads (λ u v. IsSymbol u name v) s z
unfolding name_text
symbol_again name s z h f stops = symbol_by name (is_bare name) s z refl h f stops

more_stop : (names : List (List ℕ)) (z : List ℕ) → Ends z → Stops (more_symbols_text names ++ z)
more_stop [] z ends = ends.stops
more_stop (n ∷ names) z ends = refl

more_symbols_again : (names : List (List ℕ)) (s : Place) (z : List ℕ) → AllByRecursion AreBytes names → Is s (more_symbols_text names ++ z) → Ends z → Reads (λ u v. AreMore k.ColonColon IsSymbol u names v) s z
more_symbols_again [] s z h is ends = (s.at, (ends_lack k.ColonColon s z refl ends (faces s z is), refl), is)
more_symbols_again (n ∷ names) s z h is ends =
    let rest = more_symbols_text names ++ z in
    let tail = name_text n ++ rest in
    let joined : (name_text n ++ more_symbols_text names) ++ z ≡ tail = append_assoc (name_text n) (more_symbols_text names) z in
    let (a, colons, r1) = marked k.ColonColon (58 ∷ 58 ∷ []) s (64 ∷ tail) (subst (λ t. Faces s (58 ∷ 58 ∷ 64 ∷ t)) joined (faces s (58 ∷ 58 ∷ 64 ∷ ((name_text n ++ more_symbols_text names) ++ z)) is)) (refl, λ at. refl) in
    let (b, one, r2) = symbol_again n (moved s a) rest h.0 (faces (moved s a) (64 ∷ tail) r1) (more_stop names z ends) in
    let (c, more, r3) = more_symbols_again names (moved s b) z h.1 r2 ends in
    (c, (moved s a, moved s b, colons, one, more), r3)

symbols_again : (names : List (List ℕ)) (s : Place) (z : List ℕ) → 0 < length names → AllByRecursion AreBytes names → Faces s (symbols_text names ++ z) → Ends z → Reads (λ u v. AreSymbols u names v) s z
symbols_again [] s z some h f ends = absurd (omega arith)
symbols_again (n ∷ names) s z some h f ends =
    let joined : (name_text n ++ more_symbols_text names) ++ z ≡ name_text n ++ (more_symbols_text names ++ z) = append_assoc (name_text n) (more_symbols_text names) z in
    let (a, one, r1) = symbol_again n s (more_symbols_text names ++ z) h.0 (subst (λ t. Faces s (64 ∷ t)) joined f) (more_stop names z ends) in
    let (b, more, r2) = more_symbols_again names (moved s a) z h.1 r1 ends in
    (b, (moved s a, one, more), r2)

-- the name of an entry
entry_name_by : (name : List ℕ) (bare : Bool) (s : Place) (z : List ℕ) → is_bare name ≡ bare → AreBytes name → Faces s ((if bare then name else string_text name) ++ z) → Stops z → Reads (λ u v. IsEntryName u name v) s z
entry_name_by name true s z is h f stops = let (e, there, rest) = spelled k.Word name s z f (word_begins name z (bare_word name is) stops) in (e, inl there, rest)
entry_name_by name false s z is h f stops = let (e, there, rest) = string_again name s z h f in (e, inr there, rest)

pub entry_name_again : (name : List ℕ) (s : Place) (z : List ℕ) → AreBytes name → Faces s (name_text name ++ z) → Stops z → Reads (λ u v. IsEntryName u name v) s z
unfolding name_text
entry_name_again name s z h f stops = entry_name_by name (is_bare name) s z refl h f stops

-- ---- kept attributes

front_again : (front t : List ℕ) (s : Place) → IsAttrFront front → Stops t → Faces s (front ++ t) → Reads (λ u v. (IsSpelled k.Word front u v × (is_kept_word front ≡ true)) ⊎ IsSpelled k.Hash front u v) s t
front_again front t s (inl (form, kept_is)) stops f = let (e, there, rest) = spelled k.Word front s t f (word_begins front t form stops) in (e, inl (there, kept_is), rest)
front_again front t s (inr form) stops f = let (e, there, rest) = spelled k.Hash front s t f (hash_form front t form stops) in (e, inr there, rest)

with_body : (room : ℕ) (front body z : List ℕ) (s : Place) → IsAttrFront front → IsWholeBody room body → Faces s ((front ++ body) ++ z) → Reads (λ u v. HasKeptBody [] room (front ++ body) u v) s z
with_body room front body z s is whole f =
    let (tail, opens) = opens_text room body z whole in
    let stops : Stops (body ++ z) = subst Stops (sym opens) refl in
    let (e, begins, rest) = front_again front (body ++ z) s is stops (subst (Faces s) (append_assoc front body z) f) in
    let (past, mark, more) = less_there (moved s e) tail (subst (Is (moved s e)) opens rest) in
    let (body_is, last) = body_again room body z (moved s e) whole rest in
    (e + length body, (front, body, moved s e, moved s past, begins, mark, body_is, refl), last)

kept_again : (room : ℕ) (text : List ℕ) (t : Option Ty) (s : Place) (z : List ℕ) → IsAttrWord room text → IsTyped room t → Faces s ((text ++ typed_text t) ++ z) → Ends z → Reads (λ u v. IsKeptAttr [] room text t u v) s z
kept_again room text t s z (inl (front, body, is, whole, same)) p f ends =
    let at_text : Faces s (text ++ (typed_text t ++ z)) = subst (Faces s) (append_assoc text (typed_text t) z) f in
    let (a, there, r1) = with_body room front body (typed_text t ++ z) s is whole (subst (λ x. Faces s (x ++ (typed_text t ++ z))) (sym same) at_text) in
    let (b, typed, r2) = typed_again room t (moved s a) z p r1 ends in
    (b, (moved s a, inl (subst (λ x. HasKeptBody [] room x s (moved s a)) same there), typed), r2)
kept_again room text t s z (inr (form, point)) p f ends =
    let (a, there, r1) = spelled k.Hash text s (typed_text t ++ z) (subst (Faces s) (append_assoc text (typed_text t) z) f) (hash_form text (typed_text t ++ z) form (typed_stops t z ends)) in
    let (b, typed, r2) = typed_again room t (moved s a) z p r1 ends in
    (b, (moved s a, inr (there, point, typed_no_body t (moved s a) z ends r1), typed), r2)

-- ---- attributes

pub plain_of : (room : ℕ) (x : Attr) (s : Place) (z : List ℕ) → Reads (λ u v. IsPlainAttr [] room u x v) s z → Reads (λ u v. IsAttr [] room u x v) s z
plain_of zero x s z (e, there, rest) = (e, inl there, rest)
plain_of (suc room) x s z (e, there, rest) = (e, inl (inl there), rest)

abbrev listed : Attrs → List Attr
listed no_attrs = []
listed (attr_then x xs) = x ∷ listed xs

listed_are : (xs : Attrs) → attrs (listed xs) ≡ xs
listed_are no_attrs = refl
listed_are (attr_then x xs) = ap (attr_then x) (listed_are xs)

unit_is : (x : Attr) → is_unit x ≡ true → unit ≡ x
unit_is unit h = refl
unit_is (int_attr n t) h = absurd (cc)
unit_is (num text t) h = absurd (cc)
unit_is (str bytes t) h = absurd (cc)
unit_is (symbols names) h = absurd (cc)
unit_is (of_ty t) h = absurd (cc)
unit_is (array xs) h = absurd (cc)
unit_is (dict es) h = absurd (cc)
unit_is (kept text t) h = absurd (cc)

-- what an attribute's text is read as
abbrev pub Again : ℕ → Attr → Type 0
Again room x = (s : Place) (z : List ℕ) → Faces s (attr_text x ++ z) → Ends z → Reads (λ u v. IsAttr [] room u x v) s z

pub entry_again : (room : ℕ) (n : List ℕ) (x : Attr) (alone : Bool) → is_unit x ≡ alone → AreBytes n → Again room x → (s : Place) (z : List ℕ) → Faces s (entry_by alone n (attr_text x) ++ z) → Ends z
    → (m : Place) × IsEntryName s n m × Reads (λ u v. IsBehindName (IsAttr [] room) m x v) s z
entry_again room n x true is h go s z f ends =
    let (a, name, r1) = entry_name_again n s z h f ends.stops in
    (moved s a, name, (a, inr (ends_lack k.Equal (moved s a) z refl ends (faces (moved s a) z r1), refl, unit_is x is), r1))
entry_again room n x false is h go s z f ends =
    let value = attr_text x ++ z in
    let joined : (name_text n ++ (32 ∷ 61 ∷ 32 ∷ attr_text x)) ++ z ≡ name_text n ++ (32 ∷ 61 ∷ 32 ∷ value) = append_assoc (name_text n) (32 ∷ 61 ∷ 32 ∷ attr_text x) z in
    let (a, name, r1) = entry_name_again n s (32 ∷ 61 ∷ 32 ∷ value) h (subst (Faces s) joined f) refl in
    let (b, equal, r2) = marked k.Equal (61 ∷ []) (moved s a) (32 ∷ value) (space 32 (moved s a) (61 ∷ 32 ∷ value) refl (faces (moved s a) (32 ∷ 61 ∷ 32 ∷ value) r1)) (refl, λ at. refl) in
    let (c, there, r3) = go (moved s b) z (space 32 (moved s b) value refl (faces (moved s b) (32 ∷ value) r2)) ends in
    (moved s a, name, (c, inl (moved s b, equal, there), r3))

abbrev IsOne : ℕ → Place → List ℕ × Attr → Place → Type 0
IsOne room s e r = IsEntry (IsAttr [] room) s e r

one_entry : (room : ℕ) (n : List ℕ) (x : Attr) → AreBytes n → Again room x → (s : Place) (z : List ℕ) → Faces s (entry_by (is_unit x) n (attr_text x) ++ z) → Ends z → Reads (λ u v. IsOne room u (n, x) v) s z
one_entry room n x h go s z f ends =
    let (m, name, (e, there, rest)) = entry_again room n x (is_unit x) refl h go s z f ends in (e, (m, name, there), rest)

more_attrs_end : (xs : Attrs) (z : List ℕ) → Ends (more_attrs_text xs ++ (93 ∷ z))
unfolding more_attrs_text
more_attrs_end no_attrs z = bracket_ends z
more_attrs_end (attr_then x xs) z = comma_ends (32 ∷ ((attr_text x ++ more_attrs_text xs) ++ (93 ∷ z)))

more_entries_end : (es : Entries) (z : List ℕ) → Ends (more_entries_text es ++ (125 ∷ z))
unfolding more_entries_text
more_entries_end no_entries z = brace_ends z
more_entries_end (entry_then n x es) z = comma_ends (32 ∷ ((entry_by (is_unit x) n (attr_text x) ++ more_entries_text es) ++ (125 ∷ z)))

mutual
  unfolding attr_text attrs_text more_attrs_text entries_text more_entries_text

  pub attr_again : (room : ℕ) (x : Attr) (s : Place) (z : List ℕ) → IsPrintableAttr room x → Faces s (attr_text x ++ z) → Ends z → Reads (λ u v. IsAttr [] room u x v) s z
  attr_again room unit s z p f ends = plain_of room unit s z (spelled k.Word (codes "unit") s z f (word_begins (codes "unit") z (refl, (refl, (refl, (refl, tt)))) ends.stops))
  attr_again room (int_attr n t) s z p f ends = plain_of room (int_attr n t) s z (int_again room n t s z p f ends)
  attr_again room (num text t) s z p f ends = plain_of room (num text t) s z (num_again room text t s z p.0 p.1 p.2 f ends)
  attr_again room (str bytes t) s z p f ends = plain_of room (str bytes t) s z (str_again room bytes t s z p.0 p.1 f ends)
  attr_again room (symbols names) s z p f ends = plain_of room (symbols names) s z (symbols_again names s z p.0 p.1 f ends)
  attr_again room (of_ty t) s z p f ends = plain_of room (of_ty t) s z (ty_again room t s z p f ends)
  attr_again room (kept text t) s z p f ends = plain_of room (kept text t) s z (kept_again room text t s z p.0 p.2 f ends)
  attr_again zero (array xs) s z p f ends = absurd p
  attr_again (suc room) (array xs) s z p f ends =
      let tail = attrs_text xs ++ (93 ∷ z) in
      let (a, left, r1) = marked k.LeftBracket (91 ∷ []) s tail (subst (λ t. Faces s (91 ∷ t)) (append_assoc (attrs_text xs) (93 ∷ []) z) f) (refl, λ at. refl) in
      let (b, inside, r2) = attrs_again room xs (moved s a) z p r1 in
      let (c, right, r3) = marked k.RightBracket (93 ∷ []) (moved s b) z (faces (moved s b) (93 ∷ z) r2) (refl, λ at. refl) in
      (c, inr (inl (moved s a, moved s b, listed xs, left, inside, right, ap array (listed_are xs))), r3)
  attr_again zero (dict es) s z p f ends = absurd p
  attr_again (suc room) (dict es) s z p f ends =
      let tail = entries_text es ++ (125 ∷ z) in
      let (a, left, r1) = marked k.LeftBrace (123 ∷ []) s tail (subst (λ t. Faces s (123 ∷ t)) (append_assoc (entries_text es) (125 ∷ []) z) f) (refl, λ at. refl) in
      let (b, inside, r2) = entries_again room es (moved s a) z p.1 r1 in
      let (c, right, r3) = marked k.RightBrace (125 ∷ []) (moved s b) z (faces (moved s b) (125 ∷ z) r2) (refl, λ at. refl) in
      (c, inr (inr (moved s a, moved s b, pairs es, pairs es, left, inside, right, fills es p.0, ap dict (pairs_are es))), r3)

  attrs_again : (room : ℕ) (xs : Attrs) (s : Place) (z : List ℕ) → ArePrintableAttrs room xs → Is s (attrs_text xs ++ (93 ∷ z)) → Reads (λ u v. AreAttrs (IsAttr [] room) u (listed xs) v) s (93 ∷ z)
  attrs_again room no_attrs s z p h = (s.at, refl, h)
  attrs_again room (attr_then x xs) s z p h =
      let tail = more_attrs_text xs ++ (93 ∷ z) in
      let (a, one, r1) = attr_again room x s tail p.0 (faces s (attr_text x ++ tail) (subst (Is s) (append_assoc (attr_text x) (more_attrs_text xs) (93 ∷ z)) h)) (more_attrs_end xs z) in
      let (b, more, r2) = more_attrs_again room xs (moved s a) z p.1 r1 in
      (b, (moved s a, one, more), r2)

  more_attrs_again : (room : ℕ) (xs : Attrs) (s : Place) (z : List ℕ) → ArePrintableAttrs room xs → Is s (more_attrs_text xs ++ (93 ∷ z)) → Reads (λ u v. AreMore k.Comma (IsAttr [] room) u (listed xs) v) s (93 ∷ z)
  more_attrs_again room no_attrs s z p h = (s.at, (lacks k.Comma s (93 ∷ z) (faces s (93 ∷ z) h) refl (λ at. refl), refl), h)
  more_attrs_again room (attr_then x xs) s z p h =
      let tail = more_attrs_text xs ++ (93 ∷ z) in
      let rest = (attr_text x ++ more_attrs_text xs) ++ (93 ∷ z) in
      let (a, comma, r1) = marked k.Comma (44 ∷ []) s (32 ∷ rest) (faces s (44 ∷ 32 ∷ rest) h) (refl, λ at. refl) in
      let (b, one, r2) = attr_again room x (moved s a) tail p.0 (subst (Faces (moved s a)) (append_assoc (attr_text x) (more_attrs_text xs) (93 ∷ z)) (space 32 (moved s a) rest refl (faces (moved s a) (32 ∷ rest) r1))) (more_attrs_end xs z) in
      let (c, more, r3) = more_attrs_again room xs (moved s b) z p.1 r2 in
      (c, (moved s a, moved s b, comma, one, more), r3)

  entries_again : (room : ℕ) (es : Entries) (s : Place) (z : List ℕ) → ArePrintableEntries room es → Is s (entries_text es ++ (125 ∷ z)) → Reads (λ u v. AreEntries (IsAttr [] room) u (pairs es) v) s (125 ∷ z)
  entries_again room no_entries s z p h = (s.at, refl, h)
  entries_again room (entry_then n x es) s z p h =
      let tail = more_entries_text es ++ (125 ∷ z) in
      let first = entry_by (is_unit x) n (attr_text x) in
      let (a, one, r1) = one_entry room n x p.0 (λ u y f ends. attr_again room x u y p.1 f ends) s tail (faces s (first ++ tail) (subst (Is s) (append_assoc first (more_entries_text es) (125 ∷ z)) h)) (more_entries_end es z) in
      let (b, more, r2) = more_entries_again room es (moved s a) z p.2 r1 in
      (b, (moved s a, one, more), r2)

  more_entries_again : (room : ℕ) (es : Entries) (s : Place) (z : List ℕ) → ArePrintableEntries room es → Is s (more_entries_text es ++ (125 ∷ z)) → Reads (λ u v. AreMore k.Comma (IsOne room) u (pairs es) v) s (125 ∷ z)
  more_entries_again room no_entries s z p h = (s.at, (lacks k.Comma s (125 ∷ z) (faces s (125 ∷ z) h) refl (λ at. refl), refl), h)
  more_entries_again room (entry_then n x es) s z p h =
      let tail = more_entries_text es ++ (125 ∷ z) in
      let first = entry_by (is_unit x) n (attr_text x) in
      let rest = (first ++ more_entries_text es) ++ (125 ∷ z) in
      let (a, comma, r1) = marked k.Comma (44 ∷ []) s (32 ∷ rest) (faces s (44 ∷ 32 ∷ rest) h) (refl, λ at. refl) in
      let (b, one, r2) = one_entry room n x p.0 (λ u y f ends. attr_again room x u y p.1 f ends) (moved s a) tail (subst (Faces (moved s a)) (append_assoc first (more_entries_text es) (125 ∷ z)) (space 32 (moved s a) rest refl (faces (moved s a) (32 ∷ rest) r1))) (more_entries_end es z) in
      let (c, more, r3) = more_entries_again room es (moved s b) z p.2 r2 in
      (c, (moved s a, moved s b, comma, one, more), r3)
