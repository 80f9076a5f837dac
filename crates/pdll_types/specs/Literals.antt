-- Literals that aren't one attribute or type (MLIR's document "PDLL - PDL Language", "Attribute Expression" and "Type
-- Expression").
use Rattle.std.specs.Prelude.{ℕ, Bool, not, ◌&&◌, ◌==◌, List, [], length, is_ok}
use Rattle.std.specs.Str.Lossy.{utf8_valid_len}
use Rattle.mlir_attributes.specs.Types.{type_of}
use Rattle.mlir_attributes.specs.Attributes.{attr_of}
use Rattle.pdll_syntax.specs.ExprTree.{ExprForm, attr_expr, type_expr}
use Rattle.pdll_types.specs.Signatures.{Declared}
use Rattle.pdll_types.specs.Mentions.{Mention, use_of}
use Rattle.pdll_types.specs.Sight.{Seen}
use Rattle.pdll_types.specs.Names.{where_so}

abbrev pub is_utf8 : List ℕ → Bool
is_utf8 bytes = utf8_valid_len bytes == length bytes

-- Whether the bytes spell an attribute, a type.
unfoldable pub is_attr_text : List ℕ → Bool
is_attr_text bytes = is_utf8 bytes && is_ok (attr_of bytes)

unfoldable pub is_type_text : List ℕ → Bool
is_type_text bytes = is_utf8 bytes && is_ok (type_of bytes)

abbrev pub bad_literal : ExprForm → List ℕ
bad_literal (attr_expr l) = where_so (not (is_attr_text l.bytes)) l.at
bad_literal (type_expr l) = where_so (not (is_type_text l.bytes)) l.at
bad_literal form = []

abbrev pub bad_literal_at : List Declared → Seen → Mention → List ℕ
bad_literal_at c s (use_of p a at form) = bad_literal form
bad_literal_at c s m = []
