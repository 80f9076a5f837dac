-- An attribute that a text spells without aliases is printable.
use Rattle.std.proofs.Common.{◌≡◌, ◌≢◌, ℕ, zero, suc, ◌<◌, Bool, true, false, cond, if◌then◌else◌, List, [], ◌∷◌, length, drop, refl, ap, sym, subst, ◌∙◌, arith, inl, inr, Some, None}
use Rattle.std.specs.Prelude.{◌⊎◌, codes, IsUtf8, Option, slice_index, ◌==◌}
use Rattle.std.specs.List.{AllByRecursion}
use Rattle.std.proofs.lemmas.Option.{none-some}
use Rattle.text_scan.specs.Strings.{string_value}
use Rattle.mlir_lexer.specs.Forms.{HasForm, IsSuffix}
use Rattle.mlir_lexer.specs.declared.token.TokenKind.{TokenKind}
use Rattle.mlir_lexer.specs.declared.token.TokenKind.TheVariants as k
use Rattle.mlir_lexer.proofs.Classes.{digit_no_quote, suffix_start_no_quote}
use Rattle.mlir_tree.specs.declared.number.Number.{Number}
use Rattle.mlir_tree.specs.declared.sign.Sign.{Sign}
use Rattle.mlir_tree.specs.declared.sign.Sign.TheVariants.{Signless, Signed, Unsigned}
use Rattle.mlir_tree.specs.Tree.{Ty, int, word, Attr, unit, int_attr, num, str, sym as symbols, of_ty, array, dict, kept, attrs, entries}
use Rattle.mlir_tree.specs.Range.{IsInRange}
use Rattle.mlir_attributes.specs.Place.{Place}
use Rattle.mlir_attributes.specs.Numbers.{is_integral}
use Rattle.mlir_attributes.specs.Attributes.{truth, number_type}
use Rattle.mlir_attributes.specs.Grammar.{IsMark}
use Rattle.mlir_attributes.specs.TypeGrammar.{IsIntWord}
use Rattle.mlir_attributes.specs.AttributeGrammar as grammar
use Rattle.mlir_attributes.specs.AttributeGrammar.{AreMore, IsString, IsSymbol, AreSymbols, IsEntryName, AreAttrs, IsBehindName, IsEntry, AreEntries, Fills, IsIn, IsArray, IsDict, IsNumber, IsInt, IsNum, HasKeptBody, IsKeptAttr, IsPlainAttr, IsAttr}
use Rattle.mlir_attributes.proofs.Keeps.{keeps_entries}
use Rattle.round_trip.specs.Printable.{AreBytes, IsTyped, IsNumberText, IsAttrWord, IsPrintableTy, IsPrintableAttr, ArePrintableAttrs, ArePrintableEntries}
use Rattle.round_trip.proofs.SpelledTypes.{form_of, same_text, mark_text, word_utf8, hash_utf8, whole_body, body_text, ty_printable}
use Rattle.round_trip.proofs.SpelledBytes.{bytes_drop, token_bytes, string_bytes}
use Rattle.round_trip.proofs.Utf8.{both}

-- What stands between two places is fine, and both are of one text.
abbrev pub Fine : Type 0 → Place → Place → Type 0
Fine P s r = P × (r.bytes ≡ s.bytes)

pub at_same : (s r : Place) → r.bytes ≡ s.bytes → IsUtf8 s.bytes → IsUtf8 r.bytes
at_same s r e utf8 = subst IsUtf8 (sym e) utf8

-- ---- types behind attributes

typed_fine : (room : ℕ) (t : Option Ty) (s r : Place) → IsUtf8 s.bytes → grammar.IsTyped [] room s t r → Fine (IsTyped room t) s r
typed_fine room None s r utf8 h = (tt, ap (λ (p : Place). p.bytes) (sym h.1))
typed_fine room (Some t) s r utf8 (m, colon, type) =
    let e = mark_text k.Colon s m colon in
    let (fine, same) = ty_printable room t m r (at_same s m e utf8) type in
    (fine, same ∙ e)

-- ---- strings and names

pub string_fine : (bytes : List ℕ) (s r : Place) → IsUtf8 s.bytes → IsString s bytes r → Fine (AreBytes bytes) s r
string_fine bytes s r utf8 (text, there, value) =
    (subst AreBytes value (string_bytes text (form_of k.String text s r (λ e. cc) there) (token_bytes k.String text s r utf8 there)), same_text k.String text s r there)

name_by : (text : List ℕ) (quoted : Bool) → slice_index text 1 == 34 ≡ quoted → HasForm k.Symbol text → AreBytes text → AreBytes (cond quoted (string_value (drop 1 text)) (drop 1 text))
name_by text false is form small = bytes_drop 1 text small
name_by [] true is form small = absurd form
name_by (b ∷ name) true is (mark, inl suffix) small = absurd (no_quote name suffix is)
  where
    no_quote : (name : List ℕ) → IsSuffix name → slice_index name 0 == 34 ≡ true → ⊥
    no_quote [] h q = h
    no_quote (c ∷ name) (inl all) q = let e : true ≡ false = sym q ∙ digit_no_quote c all.0 in cc
    no_quote (c ∷ name) (inr (start, all)) q = let e : true ≡ false = sym q ∙ suffix_start_no_quote c start in cc
name_by (b ∷ name) true is (mark, inr string) small = string_bytes name string small.1

symbol_fine : (name : List ℕ) (s r : Place) → IsUtf8 s.bytes → IsSymbol s name r → Fine (AreBytes name) s r
symbol_fine name s r utf8 (text, there, value) =
    (subst AreBytes value (name_by text (slice_index text 1 == 34) refl (form_of k.Symbol text s r (λ e. cc) there) (token_bytes k.Symbol text s r utf8 there)), same_text k.Symbol text s r there)

pub more_fine : {A : Type 0} (mark : TokenKind) (One : Place → A → Place → Type 0) (P : A → Type 0) → ((x : A) (s r : Place) → IsUtf8 s.bytes → One s x r → Fine (P x) s r) → (xs : List A) (s r : Place) → IsUtf8 s.bytes → AreMore mark One s xs r → Fine (AllByRecursion P xs) s r
more_fine mark One P one [] s r utf8 h = (tt, ap (λ (p : Place). p.bytes) (sym h.1))
more_fine mark One P one (x ∷ xs) s r utf8 (s1, s2, comma, here, more) =
    let e0 = mark_text mark s s1 comma in
    let (fine, e1) = one x s1 s2 (at_same s s1 e0 utf8) here in
    let (rest, e2) = more_fine mark One P one xs s2 r (at_same s s2 (e1 ∙ e0) utf8) more in
    ((fine, rest), e2 ∙ e1 ∙ e0)

pub symbols_fine : (names : List (List ℕ)) (s r : Place) → IsUtf8 s.bytes → AreSymbols s names r → Fine ((0 < length names) × AllByRecursion AreBytes names) s r
symbols_fine [] s r utf8 h = absurd h
symbols_fine (n ∷ names) s r utf8 (s1, one, more) =
    let (fine, e1) = symbol_fine n s s1 utf8 one in
    let (rest, e2) = more_fine k.ColonColon IsSymbol AreBytes symbol_fine names s1 r (at_same s s1 e1 utf8) more in
    ((omega arith, (fine, rest)), e2 ∙ e1)

pub entry_name_fine : (name : List ℕ) (s r : Place) → IsUtf8 s.bytes → IsEntryName s name r → Fine (AreBytes name) s r
entry_name_fine name s r utf8 (inl there) = (token_bytes k.Word name s r utf8 there, same_text k.Word name s r there)
entry_name_fine name s r utf8 (inr string) = string_fine name s r utf8 string

-- ---- numbers

pub no_int_float : (g : Sign) (w : ℕ) → IsIntWord g w (codes "f64") → ⊥
no_int_float Signless w (digits, is, text, value) = let e : ◌≡◌ {A = ℕ} 102 105 = ap (λ t. slice_index t 0) text in omega arith
no_int_float Signed w (digits, is, text, value) = let e : ◌≡◌ {A = ℕ} 102 115 = ap (λ t. slice_index t 0) text in omega arith
no_int_float Unsigned w (digits, is, text, value) = let e : ◌≡◌ {A = ℕ} 102 117 = ap (λ t. slice_index t 0) text in omega arith

float_type : (room : ℕ) → IsPrintableTy room (word (codes "f64"))
float_type room =
    let form : HasForm k.Word (codes "f64") = (refl, (refl, (refl, tt))) in
    (inl (form, record { no_other = refl; no_index = λ e. let b : ◌≡◌ {A = ℕ} 102 105 = ap (λ t. slice_index t 0) e in omega arith; no_int = no_int_float }), word_utf8 (codes "f64") form)

pub sign_fine : (neg : Bool) (s digits : Place) → ((neg ≡ false) × (s ≡ digits)) ⊎ ((neg ≡ true) × IsMark k.Minus s digits) → digits.bytes ≡ s.bytes
sign_fine neg s digits (inl (is, same)) = ap (λ (p : Place). p.bytes) (sym same)
sign_fine neg s digits (inr (is, mark)) = mark_text k.Minus s digits mark

pub no_end : (float : Bool) → (if float then k.Float else k.Integer) ≢ k.End
no_end true e = cc
no_end false e = cc

-- what a number says
number_fine : (room : ℕ) (neg float : Bool) (text : List ℕ) (t : Ty) (s r : Place) → IsUtf8 s.bytes → IsNumber [] room neg float text t s r
    → Fine (HasForm (if float then k.Float else k.Integer) text × ((is_integral t ≡ false) → IsPrintableTy room t)) s r
number_fine room neg float text t s r utf8 h =
    let e0 = sign_fine neg s h.digits h.sign in
    let e1 = same_text (if float then k.Float else k.Integer) text h.digits h.behind h.spelled in
    let (typed, e2) = typed_fine room h.type_is h.behind r (at_same s h.behind (e1 ∙ e0) utf8) h.typed in
    ((form_of (if float then k.Float else k.Integer) text h.digits h.behind (no_end float) h.spelled, λ other. type_by h.type_is typed h.type other), e2 ∙ e1 ∙ e0)
  where
    none_type : (float : Bool) → number_type float ≡ t → is_integral t ≡ false → IsPrintableTy room t
    none_type true same other = subst (IsPrintableTy room) same (float_type room)
    none_type false same other = let e : true ≡ false = ap is_integral same ∙ other in absurd (cc)

    type_by : (o : Option Ty) → IsTyped room o → ((o ≡ Some t) ⊎ ((o ≡ None) × (number_type float ≡ t))) → is_integral t ≡ false → IsPrintableTy room t
    type_by o typed (inl some) other = subst (IsTyped room) some typed
    type_by o typed (inr (none, same)) other = none_type float same other

num_of : Number → Attr → Number
num_of d (int_attr n t) = n
num_of d _ = d

type_of : Ty → Attr → Ty
type_of d (int_attr n t) = t
type_of d _ = d

truth_range : (b : Bool) → IsInRange (int Signless 1) (record { neg = b; mag = if b then 1 else 0 })
truth_range true = (omega arith, (omega arith, omega arith))
truth_range false = (omega arith, omega arith)

pub truth_fine : (b : Bool) (n : Number) (t : Ty) → truth b ≡ int_attr n t → IsInRange t n
unfolding num_of type_of
truth_fine b n t same =
    let number : record { neg = b; mag = if b then 1 else 0 } ≡ n = ap (num_of n) same in
    let type : int Signless 1 ≡ t = ap (type_of t) same in
    subst (λ m. IsInRange t m) number (subst (λ u. IsInRange u (record { neg = b; mag = if b then 1 else 0 })) type (truth_range b))

int_fine : (room : ℕ) (n : Number) (t : Ty) (s r : Place) → IsUtf8 s.bytes → IsInt [] room s n t r → Fine (IsInRange t n) s r
int_fine room n t s r utf8 (inl (neg, text, number, narrow, value)) = (value.0, (number_fine room neg false text t s r utf8 number).1)
int_fine room n t s r utf8 (inr (b, there, same)) = (truth_fine b n t same, same_text k.Word _ s r there)

num_fine : (room : ℕ) (written : List ℕ) (t : Ty) (s r : Place) → IsUtf8 s.bytes → IsNum [] room s written t r → Fine (IsNumberText written × (is_integral t ≡ false) × IsPrintableTy room t) s r
num_fine room written t s r utf8 (neg, float, text, number, other, sort, same) =
    let (fine, e) = number_fine room neg float text t s r utf8 number in
    (((neg, float, text, fine.0, sort, same), other, fine.1 other), e)

-- ---- kept attributes

front_fine : (room : ℕ) (text : List ℕ) (s r : Place) → IsUtf8 s.bytes → HasKeptBody [] room text s r → Fine (IsAttrWord room text × IsUtf8 text) s r
front_fine room text s r utf8 (front, body, m, m1, inl (there, is), less, h, same) =
    let form = form_of k.Word front s m (λ e. cc) there in
    let e0 = same_text k.Word front s m there in
    let w = whole_body room body m r (at_same s m e0 utf8) h in
    ((inl (front, body, inl (form, is), w.0, same), subst IsUtf8 same (both (word_utf8 front form) w.1)), body_text room body m r h ∙ e0)
front_fine room text s r utf8 (front, body, m, m1, inr there, less, h, same) =
    let form = form_of k.Hash front s m (λ e. cc) there in
    let e0 = same_text k.Hash front s m there in
    let w = whole_body room body m r (at_same s m e0 utf8) h in
    ((inl (front, body, inr form, w.0, same), subst IsUtf8 same (both (hash_utf8 front form) w.1)), body_text room body m r h ∙ e0)

kept_fine : (room : ℕ) (text : List ℕ) (t : Option Ty) (s r : Place) → IsUtf8 s.bytes → IsKeptAttr [] room text t s r → Fine (IsAttrWord room text × IsUtf8 text × IsTyped room t) s r
kept_fine room text t s r utf8 (m, inl front, typed) =
    let (word_fine, e0) = front_fine room text s m utf8 front in
    let (fine, e1) = typed_fine room t m r (at_same s m e0 utf8) typed in
    ((word_fine.0, word_fine.1, fine), e1 ∙ e0)
kept_fine room text t s r utf8 (m, inr (there, point, alone), typed) =
    let form = form_of k.Hash text s m (λ e. cc) there in
    let e0 = same_text k.Hash text s m there in
    let (fine, e1) = typed_fine room t m r (at_same s m e0 utf8) typed in
    ((inr (form, point), hash_utf8 text form, fine), e1 ∙ e0)

-- ---- attributes

plain_fine : (room : ℕ) (x : Attr) (s r : Place) → IsUtf8 s.bytes → IsPlainAttr [] room s x r → Fine (IsPrintableAttr room x) s r
plain_fine room unit s r utf8 h = (tt, same_text k.Word _ s r h)
plain_fine room (int_attr n t) s r utf8 h = int_fine room n t s r utf8 h
plain_fine room (num text t) s r utf8 h = num_fine room text t s r utf8 h
plain_fine room (str bytes t) s r utf8 (m, string, typed) =
    let (fine, e0) = string_fine bytes s m utf8 string in
    let (type, e1) = typed_fine room t m r (at_same s m e0 utf8) typed in
    ((fine, type), e1 ∙ e0)
plain_fine room (symbols names) s r utf8 h = symbols_fine names s r utf8 h
plain_fine room (of_ty t) s r utf8 h = ty_printable room t s r utf8 h
plain_fine room (array xs) s r utf8 h = absurd h
plain_fine room (dict es) s r utf8 h = absurd h
plain_fine room (kept text t) s r utf8 h = kept_fine room text t s r utf8 h

-- within brackets
abbrev Inner : ℕ → Type 0
Inner room = (x : Attr) (s r : Place) → IsUtf8 s.bytes → IsAttr [] room s x r → Fine (IsPrintableAttr room x) s r

all_attrs : (room : ℕ) (xs : List Attr) → AllByRecursion (IsPrintableAttr room) xs → ArePrintableAttrs room (attrs xs)
all_attrs room [] h = tt
all_attrs room (x ∷ xs) h = (h.0, all_attrs room xs h.1)

attrs_fine : (room : ℕ) → Inner room → (xs : List Attr) (s r : Place) → IsUtf8 s.bytes → AreAttrs (IsAttr [] room) s xs r → Fine (AllByRecursion (IsPrintableAttr room) xs) s r
attrs_fine room go [] s r utf8 h = (tt, ap (λ (p : Place). p.bytes) (sym h))
attrs_fine room go (x ∷ xs) s r utf8 (s1, one, more) =
    let (fine, e1) = go x s s1 utf8 one in
    let (rest, e2) = more_fine k.Comma (IsAttr [] room) (IsPrintableAttr room) go xs s1 r (at_same s s1 e1 utf8) more in
    ((fine, rest), e2 ∙ e1)

array_fine : (room : ℕ) → Inner room → (x : Attr) (s r : Place) → IsUtf8 s.bytes → IsArray (IsAttr [] room) s x r → Fine (IsPrintableAttr (suc room) x) s r
array_fine room go x s r utf8 (s1, s2, xs, left, inside, right, same) =
    let e0 = mark_text k.LeftBracket s s1 left in
    let (fine, e1) = attrs_fine room go xs s1 s2 (at_same s s1 e0 utf8) inside in
    (subst (IsPrintableAttr (suc room)) same (all_attrs room xs fine), mark_text k.RightBracket s2 r right ∙ e1 ∙ e0)

abbrev IsEntryFine : ℕ → List ℕ × Attr → Type 0
IsEntryFine room e = AreBytes e.0 × IsPrintableAttr room e.1

entry_fine : (room : ℕ) → Inner room → (e : List ℕ × Attr) (s r : Place) → IsUtf8 s.bytes → IsEntry (IsAttr [] room) s e r → Fine (IsEntryFine room e) s r
entry_fine room go e s r utf8 (m, name, inl (m1, equal, there)) =
    let (fine, e0) = entry_name_fine e.0 s m utf8 name in
    let e1 = mark_text k.Equal m m1 equal in
    let (value, e2) = go e.1 m1 r (at_same s m1 (e1 ∙ e0) utf8) there in
    ((fine, value), e2 ∙ e1 ∙ e0)
entry_fine room go e s r utf8 (m, name, inr (none, same, is)) =
    let (fine, e0) = entry_name_fine e.0 s m utf8 name in
    ((fine, subst (IsPrintableAttr room) is tt), ap (λ (p : Place). p.bytes) (sym same) ∙ e0)

entries_fine : (room : ℕ) → Inner room → (es : List (List ℕ × Attr)) (s r : Place) → IsUtf8 s.bytes → AreEntries (IsAttr [] room) s es r → Fine (AllByRecursion (IsEntryFine room) es) s r
entries_fine room go [] s r utf8 h = (tt, ap (λ (p : Place). p.bytes) (sym h))
entries_fine room go (e ∷ es) s r utf8 (s1, one, more) =
    let (fine, e1) = entry_fine room go e s s1 utf8 one in
    let (rest, e2) = more_fine k.Comma (IsEntry (IsAttr [] room)) (IsEntryFine room) (entry_fine room go) es s1 r (at_same s s1 e1 utf8) more in
    ((fine, rest), e2 ∙ e1)

written_fine : (room : ℕ) (written : List (List ℕ × Attr)) → AllByRecursion (IsEntryFine room) written → (e : List ℕ × Attr) → IsIn e written → IsEntryFine room e
written_fine room [] all e h = absurd h
written_fine room (d ∷ ds) all e (inl same) = subst (IsEntryFine room) (sym same) all.0
written_fine room (d ∷ ds) all e (inr more) = written_fine room ds all.1 e more

kept_entries : (room : ℕ) (es : List (List ℕ × Attr)) → ((e : List ℕ × Attr) → IsIn e es → IsEntryFine room e) → ArePrintableEntries room (entries es)
kept_entries room [] all = tt
kept_entries room (e ∷ es) all = let fine = all e (inl refl) in (fine.0, fine.1, kept_entries room es (λ d h. all d (inr h)))

dict_fine : (room : ℕ) → Inner room → (x : Attr) (s r : Place) → IsUtf8 s.bytes → IsDict (IsAttr [] room) s x r → Fine (IsPrintableAttr (suc room) x) s r
dict_fine room go x s r utf8 (s1, s2, written, es, left, inside, right, fills, same) =
    let e0 = mark_text k.LeftBrace s s1 left in
    let (fine, e1) = entries_fine room go written s1 s2 (at_same s s1 e0 utf8) inside in
    let keeps = keeps_entries written es fills in
    (subst (IsPrintableAttr (suc room)) same (keeps.0, kept_entries room es (λ e h. written_fine room written fine e ((keeps.1 e).1 h))), mark_text k.RightBrace s2 r right ∙ e1 ∙ e0)

pub attr_printable : (room : ℕ) → Inner room
attr_printable zero x s r utf8 (inl h) = plain_fine zero x s r utf8 h
attr_printable zero x s r utf8 (inr (a, used, plain, alone, means)) = absurd (none-some a used.defined)
attr_printable (suc room) x s r utf8 (inl (inl h)) = plain_fine (suc room) x s r utf8 h
attr_printable (suc room) x s r utf8 (inl (inr (a, used, plain, alone, means))) = absurd (none-some a used.defined)
attr_printable (suc room) x s r utf8 (inr (inl h)) = array_fine room (attr_printable room) x s r utf8 h
attr_printable (suc room) x s r utf8 (inr (inr h)) = dict_fine room (attr_printable room) x s r utf8 h
