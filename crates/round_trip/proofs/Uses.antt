-- The names of values, and the lists of operands, are read back.
use Rattle.std.proofs.Common.{◌≡◌, ℕ, ◌+◌, ◌<◌, ◌≤◌, ◌^◌, Bool, true, false, cond, List, [], ◌∷◌, ◌++◌, length, refl, ap, sym, subst, ◌∙◌, arith, append_assoc, append-nil, inl, inr}
use Rattle.std.specs.Prelude.{codes, decimal, ◌&&◌}
use Rattle.std.specs.Option.{option_map_or}
use Rattle.std.specs.List.{list_all}
use Rattle.std.proofs.lemmas.Bool.{le-leb}
use Rattle.text_scan.specs.Bytes.{AllAre, is_digit, is_suffix_byte}
use Rattle.mlir_lexer.specs.Forms.{AreSome, IsSuffix}
use Rattle.mlir_lexer.specs.declared.token.TokenKind.TheVariants as k
use Rattle.mlir_tree.specs.declared.row.Row.{Row}
use Rattle.mlir_tree.specs.declared.value.Val.{Val}
use Rattle.mlir_tree.specs.declared.value.Val.TheVariants.{Res, Arg}
use Rattle.mlir_tree.specs.Module.{row_of}
use Rattle.mlir_print.specs.ModuleText.{is_group, value_text}
use Rattle.mlir_print.specs.Numbering.{has_results, result_number, argument_number}
use Rattle.mlir_parse.specs.declared.syn.SynResult.{SynResult}
use Rattle.mlir_parse.specs.declared.syn.SynUse.{SynUse}
use Rattle.mlir_attributes.specs.Place.{Place, moved, start}
use Rattle.mlir_attributes.specs.Steps.{max_slots, one_slot}
use Rattle.mlir_parse.specs.Operations.{index_of}
use Rattle.mlir_parse.specs.OperationGrammar.{IsValueName, IsNoIndex, IsMaybeIndex, IsOperand}
use Rattle.round_trip.proofs.Places.{Is, Faces, Reads, faces, spelled}
use Rattle.round_trip.proofs.Tokens.{Stops, value_begins, hash_form, digit_word, word_suffix}
use Rattle.round_trip.proofs.Decimals.{decimal_wide}
use Rattle.round_trip.proofs.Ends.{Ends, ends_lack}
use Rattle.round_trip.proofs.Parts.{Member}

-- ---- the names

abbrev pub result_name : List Row → ℕ → List ℕ
result_name all d = decimal (result_number all d)

abbrev pub argument_name : ℕ → List ℕ
argument_name n = codes "arg" ++ decimal n

abbrev pub use_name : List Row → Val → List ℕ
use_name all (Res d i) = result_name all d
use_name all (Arg d g i) = argument_name (argument_number all d g i)

abbrev pub use_index : Val → ℕ
use_index (Res d i) = i
use_index (Arg d g i) = 0

-- What the text of a value rests on.
abbrev pub IsUsable : List Row → Val → Type 0
IsUsable all (Res d i) = (result_number all d < 10 ^ 64) × (i ≤ 65534) × (option_map_or is_group (row_of all d) false ≡ false → i ≡ 0)
IsUsable all (Arg d g i) = argument_number all d g i < 10 ^ 64

-- the use of a value
pub record IsUseOf (all : List Row) (v : Val) (x : SynUse) : Type 0 where
  pub name : x.name ≡ use_name all v
  pub index : x.index ≡ use_index v

digits_suffix : (ds : List ℕ) → AreSome is_digit ds → IsSuffix ds
digits_suffix [] h = absurd h
digits_suffix (d ∷ ds) h = inl h

suffix_bytes : (ds : List ℕ) → AllAre is_digit ds → AllAre is_suffix_byte ds
suffix_bytes [] h = tt
suffix_bytes (d ∷ ds) h = (word_suffix d (digit_word d h.0), suffix_bytes ds h.1)

pub result_suffix : (n : ℕ) → n < 10 ^ 64 → IsSuffix (decimal n)
result_suffix n h = digits_suffix (decimal n) (decimal_wide n h).some

argument_suffix : (n : ℕ) → n < 10 ^ 64 → IsSuffix (argument_name n)
argument_suffix n h = inr (refl, (refl, (refl, suffix_bytes (decimal n) (decimal_wide n h).all)))

-- `%` and a name
pub name_again : (name : List ℕ) (s : Place) (z : List ℕ) → IsSuffix name → Stops z → Faces s (37 ∷ (name ++ z)) → Reads (λ u v. IsValueName name u v) s z
name_again name s z h stops f =
    let (e, there, rest) = spelled k.Value (37 ∷ name) s z f (value_begins name z h stops) in (e, (37 ∷ name, there, refl), rest)

pub argument_again : (n : ℕ) (s : Place) (z : List ℕ) → n < 10 ^ 64 → Stops z → Faces s (37 ∷ (argument_name n ++ z)) → Reads (λ u v. IsValueName (argument_name n) u v) s z
argument_again n s z h stops f = name_again (argument_name n) s z (argument_suffix n h) stops f

-- ---- uses

no_index : (s : Place) (z : List ℕ) → Ends z → Is s z → IsNoIndex s
no_index s z ends h text r there = absurd (ends_lack k.Hash s z refl ends (faces s z h) there.token there.stands there.kind)

all_digits : (ds : List ℕ) → AllAre is_digit ds → list_all is_digit ds ≡ true
all_digits [] h = refl
all_digits (d ∷ ds) h = ap (λ b. b && list_all is_digit ds) h.0 ∙ all_digits ds h.1

index_is : (i : ℕ) → i ≤ 65534 → index_of (decimal i) ≡ i
index_is i h =
    let d = decimal_wide i (omega arith) in
    rw d.value (ap (λ b. cond b i 65535) (le-leb i 65534 h))

index_again : (i : ℕ) (s : Place) (z : List ℕ) → i ≤ 65534 → Is s (35 ∷ (decimal i ++ z)) → Ends z → Reads (λ u v. IsMaybeIndex i u v) s z
index_again i s z h is ends =
    let d = decimal_wide i (omega arith) in
    let (e, there, rest) = spelled k.Hash (35 ∷ decimal i) s z (faces s (35 ∷ (decimal i ++ z)) is) (hash_form (35 ∷ decimal i) z (refl, digits_suffix (decimal i) d.some) ends.stops) in
    (e, inr (35 ∷ decimal i, there, all_digits (decimal i) d.all, index_is i h), rest)

-- a place that counts one more slot
slotted : (s : Place) (z : List ℕ) → Faces s z → Faces (one_slot s) z
slotted s z f = record { at = f.at; same = f.same; is = record { stands = f.is.stands; within = f.is.within }; within = f.within }

with_use : (all : List Row) (v : Val) (s : Place) (z : List ℕ) (i : ℕ) (tail : List ℕ) → use_index v ≡ i → IsSuffix (use_name all v) → Stops (tail ++ z) → s.slots + 1 ≤ max_slots → Faces s ((37 ∷ (use_name all v ++ tail)) ++ z)
    → ((u : Place) → Is u (tail ++ z) → Reads (λ p q. IsMaybeIndex i p q) u z) → Member (IsUseOf all v) IsOperand 1 s z
with_use all v s z i tail same suffix stops few f index =
    let (a, name, r1) = name_again (use_name all v) (one_slot s) (tail ++ z) suffix stops (slotted s _ (subst (λ t. Faces s (37 ∷ t)) (append_assoc (use_name all v) tail z) f)) in
    let (b, number, r2) = index (moved (one_slot s) a) r1 in
    record {
      made = record { at = start (one_slot s); name = use_name all v; index = i };
      fits = record { name = refl; index = sym same };
      goes = record {
        end = moved (one_slot s) b;
        stands = (one_slot s, moved (one_slot s) a, (omega arith, refl), refl, name, number);
        is = r2;
        operations = omega arith;
        slots = refl;
      };
    }

result_by : (all : List Row) (d i : ℕ) (s : Place) (z : List ℕ) (group : Bool) → option_map_or is_group (row_of all d) false ≡ group → IsUsable all (Res d i) → s.slots + 1 ≤ max_slots
    → Faces s ((37 ∷ (result_name all d ++ cond group (35 ∷ decimal i) [])) ++ z) → Ends z → Member (IsUseOf all (Res d i)) IsOperand 1 s z
result_by all d i s z true is h few f ends =
    with_use all (Res d i) s z i (35 ∷ decimal i) refl (result_suffix (result_number all d) h.0) refl few f (λ u r. index_again i u z h.1 r ends)
result_by all d i s z false is h few f ends =
    with_use all (Res d i) s z 0 [] (h.2 is) (result_suffix (result_number all d) h.0) ends.stops few f (λ u r. (u.at, inl (no_index u z ends r, refl, refl), r))

pub use_again : (all : List Row) (v : Val) (s : Place) (z : List ℕ) → IsUsable all v → s.slots + 1 ≤ max_slots → Faces s (value_text all v ++ z) → Ends z → Member (IsUseOf all v) IsOperand 1 s z
unfolding value_text
use_again all (Res d i) s z h few f ends = result_by all d i s z (option_map_or is_group (row_of all d) false) refl h few f ends
use_again all (Arg d g i) s z h few f ends =
    with_use all (Arg d g i) s z 0 [] refl (argument_suffix (argument_number all d g i) h) ends.stops few
    (subst (λ t. Faces s ((37 ∷ t) ++ z)) (sym (append-nil (argument_name (argument_number all d g i)))) f) (λ u r. (u.at, inl (no_index u z ends r, refl, refl), r))

-- ---- results

-- the names of the results of a row
abbrev pub AreResultsOf : List Row → Row → List SynResult → Type 0
AreResultsOf all r [] = has_results r ≡ false
AreResultsOf all r (x ∷ []) = (has_results r ≡ true) × (x.name ≡ result_name all r.id) × (x.count ≡ length r.results)
AreResultsOf all r (x ∷ (y ∷ more)) = ⊥
