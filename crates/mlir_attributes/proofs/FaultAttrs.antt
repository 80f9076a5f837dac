-- The faults of attributes.
use Rattle.std.proofs.Common.{◌≡◌, ℕ, zero, suc, ◌≤◌, Bool, true, false, cond, List, [], length, refl, Result, Ok, Err, Option, Some, None}
use Rattle.std.specs.Prelude.{◌&&◌, ◌||◌, nat_lt, codes}
use Rattle.std.specs.Str.{bytes_eq}
use Rattle.mlir_lexer.specs.declared.token.TokenKind.{TokenKind}
use Rattle.mlir_lexer.specs.declared.token.TokenKind.TheVariants as k
use Rattle.mlir_tree.specs.declared.number.Number.{Number}
use Rattle.mlir_tree.specs.Tree.{Ty, Attr, num, of_ty, sym as symbols, kept as kept_as}
use Rattle.mlir_attributes.specs.declared.fault.ModFault.{ModFault}
use Rattle.mlir_attributes.specs.declared.fault.ModKind.{ModKind}
use Rattle.mlir_attributes.specs.declared.fault.ModKind.TheVariants as faults
use Rattle.mlir_attributes.specs.declared.aliases.Alias.{Alias}
use Rattle.mlir_attributes.specs.Faults.{is_type_fault, is_attr_fault}
use Rattle.mlir_attributes.specs.Place.{Place, fault, left, kind, sees, start, next, spelling}
use Rattle.mlir_attributes.specs.Input.{Outcome, Parser, and_then, lift_to, after, expect, list, separated}
use Rattle.mlir_attributes.specs.Numbers.{is_wide, is_integral, is_hex, if_short, token_value}
use Rattle.mlir_attributes.specs.Dictionary.{has_name, put_entry}
use Rattle.mlir_attributes.specs.Aliases.{find, attr_meant, has_point}
use Rattle.mlir_attributes.specs.Types.{is_kept_word, kept, word_type, bang_type, ty}
use Rattle.mlir_attributes.specs.Complete.{is_complete_type}
use Rattle.mlir_attributes.specs.Attributes as read
use Rattle.mlir_attributes.proofs.FaultSteps.{Reading, IsIn, IsFault, Judged, Good, Told, start_within, next_in, after_in, refused, failed, failed_at, lifted, expected, both, mapped, either, separated_judged, list_judged}
use Rattle.mlir_attributes.proofs.FaultTypes.{use_judged, kept_judged, word_judged, bang_judged, ty_judged}

pub attr_kind : (n : ModKind) → is_type_fault n ≡ true → is_attr_fault n ≡ true
attr_kind faults.NotUtf8 h = refl
attr_kind faults.BadByte h = refl
attr_kind faults.BadString h = refl
attr_kind faults.Syntax h = refl
attr_kind faults.WideInt h = refl
attr_kind faults.AliasUnknown h = refl
attr_kind faults.TooMany h = refl
attr_kind faults.IntRange h = refl
attr_kind faults.DictTwice h = refl
attr_kind n h = absurd (cc)

module _ (j : Reading) (attr_in : (n : ModKind) → is_attr_fault n ≡ true → j.kinds n ≡ true) where
  -- ---- numbers

  int_told : (at : ℕ) (t : Ty) (o : Option Number) → at ≤ length j.base.bytes → Told j (read.int_of at t o)
  int_told at t (Some n) inside = tt
  int_told at t None inside = record { kind = attr_in faults.IntRange refl; within = inside }

  number_by : (at ty_at : ℕ) (t : Ty) (x : Attr) (o : Option Number) (w i g b : Bool) → at ≤ length j.base.bytes → ty_at ≤ length j.base.bytes
      → Told j (cond {A = Result Attr ModFault} w (Err (fault faults.WideInt ty_at)) (cond i (cond g (Err (fault faults.IntRange at)) (read.int_of at t o)) (cond b (Ok x) (Err (fault faults.IntRange at)))))
  number_by at ty_at t x o true i g b inside type_inside = record { kind = j.wide faults.WideInt refl; within = type_inside }
  number_by at ty_at t x o false true true b inside type_inside = record { kind = attr_in faults.IntRange refl; within = inside }
  number_by at ty_at t x o false true false b inside type_inside = int_told at t o inside
  number_by at ty_at t x o false false g true inside type_inside = tt
  number_by at ty_at t x o false false g false inside type_inside = record { kind = attr_in faults.IntRange refl; within = inside }

  number_told : (at ty_at : ℕ) (neg float : Bool) (text : List ℕ) (t : Ty) → at ≤ length j.base.bytes → ty_at ≤ length j.base.bytes → Told j (read.number_of at ty_at neg float text t)
  unfolding read.number_of
  number_told at ty_at neg float text t inside type_inside =
      number_by at ty_at t (num (read.signed_text neg text) t) (read.value_of t neg (if_short (token_value text))) (is_wide t) (is_integral t) float (float || is_hex text) inside type_inside

  float_judged : (n : Option TokenKind) → Good j (read.float_by n)
  float_judged (Some k.Integer) s h = h
  float_judged (Some k.Float) s h = h
  float_judged _ s h = refused j s h

  -- ---- names

  name_judged : (n : Option TokenKind) → Good j (read.entry_name_by n)
  name_judged (Some k.Word) s h = next_in j s h
  name_judged (Some k.String) s h = next_in j s h
  name_judged _ s h = refused j s h

  pub entry_name_judged : Good j read.entry_name
  entry_name_judged s h = name_judged (kind s) s h

  symbol_judged : Good j read.symbol
  unfolding read.symbol
  symbol_judged s h = either j (sees k.Symbol s) _ _ s (next_in j s h) (refused j s h)

  -- ---- within brackets

  module _ (inner : Parser Attr) (one : Good j inner) where
    pub value_judged : Good j (read.entry_value inner)
    unfolding read.entry_value
    value_judged s h = either j (sees k.Equal s) _ _ (after k.Equal s) (one (after k.Equal s) (after_in j k.Equal s h)) (after_in j k.Equal s h)

    entries_judged : (n : ℕ) (found : List (List ℕ × Attr)) → Good j (read.entries inner n found)
    unfolding read.entries
    entries_judged zero found s h = refused j s h
    entries_judged (suc n) found s h =
        both j (read.entry_name s) _ (entry_name_judged s h) (λ name u i.
        either j (has_name name found) _ _ u (failed_at j faults.DictTwice (start s) (attr_in faults.DictTwice refl) (start_within j s h))
        (both j (read.entry_value inner u) _ (value_judged u i) (λ value v l.
        either j (sees k.Comma v) _ _ (after k.Comma v) (entries_judged n (put_entry name value found) (after k.Comma v) (after_in j k.Comma v l)) (after_in j k.Comma v l))))

    dictionary_judged : Good j (read.dictionary inner)
    unfolding read.dictionary
    dictionary_judged s h =
        let there = after_in j k.RightBrace s h in
        either j (sees k.RightBrace s) _ _ (after k.RightBrace s) there
        (both j (read.all_entries inner (after k.RightBrace s)) _ (entries_judged (left (after k.RightBrace s)) [] (after k.RightBrace s) there) (λ es u i. both j (expect k.RightBrace u) _ (expected j k.RightBrace u i) (λ y v l. l)))

    dict_judged : Good j (read.dict_attr inner)
    unfolding read.dict_attr
    dict_judged s h = mapped j (read.dictionary inner s) _ (dictionary_judged s h)

    array_judged : Good j (read.array_attr inner)
    unfolding read.array_attr
    array_judged s h = mapped j (list k.RightBracket inner s) _ (list_judged j k.RightBracket inner one s h)

  module _ (aliases : List Alias) where
    typed_judged : (room : ℕ) → Good j (read.typed aliases room)
    unfolding read.typed
    typed_judged room s h =
        let there = after_in j k.Colon s h in
        either j (sees k.Colon s) _ _ (after k.Colon s) (mapped j (ty aliases room (after k.Colon s)) Some (ty_judged j aliases room (after k.Colon s) there)) there

    -- where the type of a number begins is within the text
    abbrev Placed : Outcome (ℕ × Ty) → Type 0
    Placed (Ok p) = IsIn j p.1 × (p.0.0 ≤ length j.base.bytes)
    Placed (Err e) = IsFault j e

    placed : (at : ℕ) (o : Outcome Ty) → at ≤ length j.base.bytes → Judged j o → Placed (and_then o (λ t u. Ok ((at, t), u)))
    placed at (Ok p) inside h = (h, inside)
    placed at (Err e) inside h = h

    placed_by : (b : Bool) (p q : Parser (ℕ × Ty)) (s : Place) → Placed (p s) → Placed (q s) → Placed ((cond b p q) s)
    placed_by true p q s one other = one
    placed_by false p q s one other = other

    number_typed : (room : ℕ) (float : Bool) (s : Place) → IsIn j s → Placed (read.typed_number aliases room float s)
    unfolding read.typed_number
    number_typed room float s h =
        let there = after_in j k.Colon s h in
        let inside = start_within j (after k.Colon s) there in
        placed_by (sees k.Colon s) _ _ (after k.Colon s) (placed (start (after k.Colon s)) (ty aliases room (after k.Colon s)) inside (ty_judged j aliases room (after k.Colon s) there)) (there, inside)

    -- the fault of a number is at its first token, which is within the text
    fault_by : (d b : Bool) (at : ℕ) (e : ModFault) → at ≤ length j.base.bytes → IsFault j e → IsFault j (cond d (cond b (fault faults.IntRange at) e) e)
    fault_by true true at e inside h = record { kind = attr_in faults.IntRange refl; within = inside }
    fault_by true false at e inside h = h
    fault_by false b at e inside h = h

    fitted : (d : Bool) (at : ℕ) (m : Place) (o : Outcome (ℕ × Ty)) → at ≤ length j.base.bytes → Placed o → Placed (read.or_number_fault d at m o)
    unfolding read.number_fault
    fitted d at m (Ok p) inside h = h
    fitted d at m (Err e) inside h = fault_by d ((read.is_inner e.kind && nat_lt (start m) e.at) && is_complete_type m) at e inside h

    number_fitted : (room at : ℕ) (float : Bool) (text : List ℕ) (s : Place) → at ≤ length j.base.bytes → IsIn j s → Placed (read.fitting_type aliases room at float text s)
    unfolding read.fitting_type
    number_fitted room at float text s inside h = fitted (read.is_decimal float text) at (after k.Colon s) (read.typed_number aliases room float s) inside (number_typed room float s h)

    number_ends : (at : ℕ) (neg float : Bool) (text : List ℕ) (o : Outcome (ℕ × Ty)) → at ≤ length j.base.bytes → Placed o
        → Judged j (and_then o (λ t u. lift_to u (read.number_of at t.0 neg float text t.1)))
    number_ends at neg float text (Ok p) inside h = lifted j (read.number_of at p.0.0 neg float text p.0.1) p.1 h.0 (number_told at p.0.0 neg float text p.0.1 inside h.1)
    number_ends at neg float text (Err e) inside h = h

    number_judged : (room at : ℕ) (neg : Bool) → at ≤ length j.base.bytes → Good j (read.number aliases room at neg)
    unfolding read.number
    number_judged room at neg inside s h =
        both j (read.number_kind s) _ (float_judged (kind s) s h) (λ float u i. number_ends at neg float (spelling u) (read.fitting_type aliases room at float (spelling u) (next u)) inside (number_fitted room at float (spelling u) (next u) inside (next_in j u i)))

    -- ---- strings, words and kept attributes

    string_judged : (room : ℕ) → Good j (read.string aliases room)
    unfolding read.string
    string_judged room s h = mapped j (read.typed aliases room (next s)) _ (typed_judged room (next s) (next_in j s h))

    kept_attr_judged : (room : ℕ) (front : List ℕ) → Good j (read.kept_attr aliases front room)
    unfolding read.kept_attr
    kept_attr_judged room front s h =
        both j (kept aliases front room s) _ (kept_judged j aliases front room s h) (λ text u i. mapped j (read.typed aliases room u) _ (typed_judged room u i))

    kept_word_judged : (room : ℕ) → Good j (read.kept_word aliases room)
    unfolding read.kept_word
    kept_word_judged room s h =
        let there = next_in j s h in
        either j (sees k.Less (next s)) _ _ (next s) (kept_attr_judged room (spelling s) (next s) there) (refused j (next s) there)

    word_attr_judged : (room : ℕ) (w : List ℕ) → Good j (read.word_attr aliases room w)
    unfolding read.word_attr
    word_attr_judged room w s h =
        either j (bytes_eq w (codes "unit")) _ _ s (next_in j s h)
        (either j (bytes_eq w (codes "true")) _ _ s (next_in j s h)
        (either j (bytes_eq w (codes "false")) _ _ s (next_in j s h)
        (either j (is_kept_word w) _ _ s (kept_word_judged room s h) (mapped j (word_type aliases room s) of_ty (word_judged j aliases room s h)))))

    alias_by : (room at : ℕ) (o : Option Alias) (s : Place) → at ≤ length j.base.bytes → IsIn j s → Judged j (read.alias_attr_by aliases room at o s)
    alias_by room at None s inside h = failed_at j faults.AliasUnknown at (j.wide faults.AliasUnknown refl) inside
    alias_by room at (Some a) s inside h = use_judged j room at a (attr_meant a.meaning) s inside h

    hash_judged : (room : ℕ) → Good j (read.hash_attr aliases room)
    unfolding read.hash_attr read.pointed read.alias_attr
    hash_judged room s h =
        let there = next_in j s h in
        either j (sees k.Less (next s)) _ _ (next s) (kept_attr_judged room (spelling s) (next s) there)
        (either j (has_point (spelling s)) _ _ (next s) (mapped j (read.typed aliases room (next s)) (kept_as (spelling s)) (typed_judged room (next s) there)) (alias_by room (start s) (find (spelling s) aliases) (next s) (start_within j s h) there))

    -- ---- an attribute by its first token

    flat_judged : (room : ℕ) (n : Option TokenKind) → Good j (read.flat_by aliases room n)
    flat_judged room (Some k.Word) s h = word_attr_judged room (spelling s) s h
    flat_judged room (Some k.Minus) s h = number_judged room (start s) true (start_within j s h) (next s) (next_in j s h)
    flat_judged room (Some k.Integer) s h = number_judged room (start s) false (start_within j s h) s h
    flat_judged room (Some k.Float) s h = number_judged room (start s) false (start_within j s h) s h
    flat_judged room (Some k.String) s h = string_judged room s h
    flat_judged room (Some k.Symbol) s h = mapped j (separated k.ColonColon read.symbol (left s) [] s) symbols (separated_judged j k.ColonColon read.symbol symbol_judged (left s) [] s h)
    flat_judged room (Some k.Hash) s h = hash_judged room s h
    flat_judged room (Some k.Bang) s h = mapped j (bang_type aliases room s) of_ty (bang_judged j aliases room s h)
    flat_judged room (Some k.LeftParen) s h = mapped j (ty aliases room s) of_ty (ty_judged j aliases room s h)
    flat_judged room _ s h = refused j s h

    by_judged : (room : ℕ) (a d : Parser Attr) → Good j a → Good j d → (n : Option TokenKind) → Good j (read.attr_by aliases room a d n)
    by_judged room a d in_brackets in_braces (Some k.LeftBracket) = in_brackets
    by_judged room a d in_brackets in_braces (Some k.LeftBrace) = in_braces
    by_judged room a d in_brackets in_braces n = flat_judged room n

    pub attr_judged : (room : ℕ) → Good j (read.attr aliases room)
    unfolding read.attr
    attr_judged zero s h = by_judged zero _ _ (λ s h. failed j faults.TooMany s (j.wide faults.TooMany refl) h) (λ s h. failed j faults.TooMany s (j.wide faults.TooMany refl) h) (kind s) s h
    attr_judged (suc room) s h =
        by_judged (suc room) _ _ (λ s h. array_judged (read.attr aliases room) (attr_judged room) (next s) (next_in j s h)) (λ s h. dict_judged (read.attr aliases room) (attr_judged room) (next s) (next_in j s h)) (kind s) s h
