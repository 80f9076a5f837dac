-- Names that mean nothing, names that are declared twice, and natives that aren't known (MLIR's document "PDLL - PDL
-- Language", "Variables", "Constraints" and "Rewriters").
use Rattle.std.specs.Prelude.{ℕ, Bool, true, false, not, ◌&&◌, ◌||◌, if◌then◌else◌, List, [], ◌∷◌, ◌++◌, Option, Some, None}
use Rattle.std.specs.Option.{is_some, option_map, option_and_then}
use Rattle.native_set.specs.declared.native.Kind.{Kind as NativeKind}
use Rattle.native_set.specs.declared.native.Kind.TheVariants as native
use Rattle.native_set.specs.declared.native.Rewrite.{Rewrite}
use Rattle.native_set.specs.Table.{constraint_of, rewrite_of}
use Rattle.pdll_syntax.specs.declared.name.Name.{Name}
use Rattle.pdll_syntax.specs.declared.stmt.Body.{Body}
use Rattle.pdll_syntax.specs.declared.stmt.Body.TheVariants as body
use Rattle.pdll_syntax.specs.declared.stmt.Param.{Param}
use Rattle.pdll_syntax.specs.declared.file.Decl.{Decl}
use Rattle.pdll_syntax.specs.declared.file.Decl.TheVariants as decl
use Rattle.pdll_syntax.specs.declared.file.CallDecl.{CallDecl}
use Rattle.pdll_syntax.specs.declared.file.Meta.{Meta}
use Rattle.pdll_syntax.specs.declared.file.MetaForm.{MetaForm}
use Rattle.pdll_syntax.specs.declared.file.MetaForm.TheVariants.{Benefit, Recursion}
use Rattle.pdll_syntax.specs.ExprTree.{ExprForm, name_expr, call_expr, op_expr, OpExpr, operation, Entry, entry, Entries, no_entries, entry_then, Ref, ref, RefForm, attr_ref, op_ref, type_ref, type_range_ref, value_ref, value_range_ref, named_ref, Refs, no_refs, ref_then, refs, no_expr}
use Rattle.pdll_types.specs.Signatures.{Declared, signature_of, is_constraint, is_callable, form_of_ref}
use Rattle.pdll_types.specs.Mentions.{Mention, heading, use_of, word, one_ref}
use Rattle.pdll_types.specs.Sight.{Known, Seen, is_blank, is_in_sight, is_word, with_word}

-- A place, if this holds.
abbrev pub where_so : Bool → ℕ → List ℕ
where_so b at = if b then at ∷ [] else []

-- ---- names that mean nothing

-- A use of a name that no variable in sight has, or a call of what isn't declared before as a constraint or a rewrite.
abbrev pub is_undefined : List Declared → List Known → ExprForm → Bool
is_undefined c s (name_expr n) = not (is_in_sight s n)
is_undefined c s (call_expr n xs) = not (is_callable c n)
is_undefined c s form = false

-- A ref that isn't declared before as a constraint.
abbrev pub is_undefined_ref : List Declared → RefForm → Bool
is_undefined_ref c (named_ref n) = not (is_constraint c n)
is_undefined_ref c form = false

abbrev pub undefined_at : List Declared → Seen → Mention → List ℕ
undefined_at c s (use_of p a at form) = where_so (is_undefined c s.sight form) at
undefined_at c s (one_ref h k later (ref at form)) = where_so (is_undefined_ref c form) at
undefined_at c s m = []

-- ---- names twice

-- A name of a declaration that is declared before.
abbrev pub name_twice : List Declared → Option Name → List ℕ
name_twice c None = []
name_twice c (Some n) = where_so (is_some (signature_of c n.text)) n.at

abbrev pub is_benefit : MetaForm → Bool
is_benefit (Benefit n) = true
is_benefit Recursion = false

abbrev pub is_meta_before : Bool → Bool → MetaForm → Bool
is_meta_before benefit recursion form = if is_benefit form then benefit else recursion

-- Metas of a sort that stands before among them: benefits, or recursion.
abbrev pub metas_twice : Bool → Bool → List Meta → List ℕ
metas_twice benefit recursion [] = []
metas_twice benefit recursion (m ∷ ms) =
    where_so (is_meta_before benefit recursion m.form) m.at
    ++ metas_twice (benefit || is_benefit m.form) (recursion || not (is_benefit m.form)) ms

abbrev pub entry_name : Entry → List ℕ
entry_name (entry at n x) = n

abbrev pub entry_place : Entry → ℕ
entry_place (entry at n x) = at

-- Entries with a name that stands before among them.
abbrev pub entries_twice : List (List ℕ) → Entries → List ℕ
entries_twice before no_entries = []
entries_twice before (entry_then e es) =
    where_so (is_word before (entry_name e)) (entry_place e)
    ++ entries_twice (with_word before (entry_name e)) es

abbrev pub entries_of : OpExpr → Entries
entries_of (operation n xs es ts) = es

abbrev pub twice_in_form : ExprForm → List ℕ
twice_in_form (op_expr o) = entries_twice [] (entries_of o)
twice_in_form form = []

abbrev pub heading_twice : List Declared → Decl → List ℕ
heading_twice c (decl.Pattern p) = name_twice c p.name ++ metas_twice false false p.metas
heading_twice c (decl.Constraint d) = name_twice c (Some d.name)
heading_twice c (decl.Rewrite d) = name_twice c (Some d.name)

abbrev pub redefined_at : List Declared → Seen → Mention → List ℕ
redefined_at c s (heading d) = heading_twice c d
redefined_at c s (word p given at n) = where_so (not (is_blank n) && is_word s.words n) at
redefined_at c s (use_of p a at form) = twice_in_form form
redefined_at c s m = []

-- ---- natives

-- A kind that is written without `<`.
abbrev pub plain_form : RefForm → Option NativeKind
plain_form (attr_ref no_expr) = Some native.Attr
plain_form (op_ref None) = Some native.Op
plain_form type_ref = Some native.Ty
plain_form type_range_ref = Some native.Tys
plain_form (value_ref no_expr) = Some native.Value
plain_form (value_range_ref no_expr) = Some native.Values
plain_form form = None

-- Refs that are one such kind.
abbrev pub plain_kind : Refs → Option NativeKind
plain_kind (ref_then r no_refs) = plain_form (form_of_ref r)
plain_kind rs = None

abbrev pub plain_kinds : List Param → Option (List NativeKind)
plain_kinds [] = Some []
plain_kinds (p ∷ ps) = option_and_then (λ k. option_map (λ ks. k ∷ ks) (plain_kinds ps)) (plain_kind (refs p.refs))

-- What a native gives: nothing, or such a kind.
abbrev pub plain_result : Option Ref → Option (Option NativeKind)
plain_result None = Some None
plain_result (Some r) = option_map (λ k. Some k) (plain_form (form_of_ref r))

abbrev pub is_native_constraint : CallDecl → Bool
is_native_constraint d = is_some (option_and_then (constraint_of d.name.text) (plain_kinds d.params))

abbrev pub native_rewrite_of : List ℕ → Option Ref → List NativeKind → Option Rewrite
native_rewrite_of n gives ks = option_and_then (rewrite_of n ks) (plain_result gives)

abbrev pub is_native_rewrite : CallDecl → Bool
is_native_rewrite d = is_some (option_and_then (native_rewrite_of d.name.text d.gives) (plain_kinds d.params))

abbrev pub is_absent : Body → Bool
is_absent body.Absent = true
is_absent b = false

-- A declaration without a body that isn't a native.
abbrev pub unknown_native_at : List Declared → Seen → Mention → List ℕ
unknown_native_at c s (heading (decl.Constraint d)) = where_so (is_absent d.body && not (is_native_constraint d)) d.name.at
unknown_native_at c s (heading (decl.Rewrite d)) = where_so (is_absent d.body && not (is_native_rewrite d)) d.name.at
unknown_native_at c s m = []
