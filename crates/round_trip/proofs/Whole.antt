-- Whole texts.
use Rattle.std.proofs.Common.{ℕ, List, [], ◌∷◌, ◌++◌, refl, sym, subst, arith, append-nil}
use Rattle.mlir_lexer.specs.declared.token.TokenKind.TheVariants as k
use Rattle.mlir_print.specs.Text.{ty_text, attr_text}
use Rattle.mlir_attributes.specs.Place.{Place, moved, start_of}
use Rattle.mlir_attributes.specs.Types.{max_open}
use Rattle.mlir_attributes.specs.Grammar.{IsMark}
use Rattle.round_trip.specs.Laws.{TypesReadBack, SpelledTypesArePrintable, AttributesReadBack, SpelledAttributesArePrintable, ModulesAreSpelled}
use Rattle.round_trip.proofs.Places.{Is, Faces, Reads, faces, marked}
use Rattle.round_trip.proofs.Ends.{text_ends}
use Rattle.round_trip.proofs.Types.{ty_again}
use Rattle.round_trip.proofs.Attributes.{attr_again}
use Rattle.round_trip.proofs.Utf8.{ty_utf8, attr_utf8}
use Rattle.round_trip.proofs.Files.{tree_of, file_of}
use Rattle.round_trip.proofs.SpelledTypes.{ty_printable}
use Rattle.round_trip.proofs.SpelledAttributes.{attr_printable}

pub starts : (text : List ℕ) → Is (start_of text) text
starts text = record { stands = refl; within = omega arith }

-- the text with nothing behind it
faces_start : (text : List ℕ) → Faces (start_of text) (text ++ [])
faces_start text = faces (start_of text) (text ++ []) (subst (Is (start_of text)) (sym (append-nil text)) (starts text))

-- the end of the text
pub end_there : (s : Place) → Is s [] → Reads (IsMark k.End) s []
end_there s h = marked k.End [] s [] (faces s [] h) (refl, λ at. refl)

pub types_read_back : TypesReadBack
types_read_back t p =
    let (e, type, rest) = ty_again max_open t (start_of (ty_text t)) [] p (faces_start (ty_text t)) text_ends in
    let (b, ends, r) = end_there (moved (start_of (ty_text t)) e) rest in
    record { text = ty_utf8 max_open t p; end = moved (start_of (ty_text t)) e; behind = moved (start_of (ty_text t)) b; type = type; ends = ends }

pub attributes_read_back : AttributesReadBack
attributes_read_back x p =
    let (e, attr, rest) = attr_again max_open x (start_of (attr_text x)) [] p (faces_start (attr_text x)) text_ends in
    let (b, ends, r) = end_there (moved (start_of (attr_text x)) e) rest in
    record { text = attr_utf8 max_open x p; end = moved (start_of (attr_text x)) e; behind = moved (start_of (attr_text x)) b; attr = attr; ends = ends }

pub modules_are_spelled : ModulesAreSpelled
modules_are_spelled m p = let f = file_of m p (tree_of m p) in (record { ops = f.made ∷ [] }, f.file)

pub spelled_types_are_printable : SpelledTypesArePrintable
spelled_types_are_printable text t h = (ty_printable max_open t (start_of text) h.end h.text h.type).0

pub spelled_attributes_are_printable : SpelledAttributesArePrintable
spelled_attributes_are_printable text x h = (attr_printable max_open x (start_of text) h.end h.text h.attr).0
