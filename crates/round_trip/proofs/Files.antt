-- The text of a printable module spells a file.
use Rattle.std.proofs.Common.{◌≡◌, ℕ, zero, suc, ◌+◌, ◌<◌, ◌≤◌, Bool, true, false, cond, List, [], ◌∷◌, ◌++◌, length, drop, reverse, refl, ap, sym, subst, ◌∙◌, arith, append-nil, inl, inr, Option, Some, None, length-append, map, eq-eqb}
use Rattle.std.specs.Prelude.{IsSome, IsUtf8, ◌==◌, nat_lt}
use Rattle.std.specs.Option.{option_map_or}
use Rattle.std.specs.List.{AllByRecursion, IsDistinct}
use Rattle.std.proofs.lemmas.Bool.{eqb-true, ltb-true, ltb-false, true≢false}
use Rattle.mlir_tree.specs.declared.row.Home.{Home}
use Rattle.mlir_tree.specs.declared.row.Row.{Row}
use Rattle.mlir_tree.specs.declared.rows.Rows.{Rows}
use Rattle.mlir_tree.specs.Module.{homes_around, enclosing}
use Rattle.mlir_tree.specs.WellFormed.{AreDistinct, AreNested, BeginsWithModule}
use Rattle.mlir_tree.proofs.Visibility.{reverse-cons}
use Rattle.mlir_print.specs.Cursor.{EndsRow}
use Rattle.mlir_print.specs.ModuleText.{module_text}
use Rattle.mlir_tree.proofs.Places.{true_or_false, IsAt, home_row}
use Rattle.mlir_lexer.specs.declared.token.TokenKind.TheVariants as k
use Rattle.mlir_attributes.specs.Place.{moved, start_of}
use Rattle.mlir_attributes.specs.Types.{max_open}
use Rattle.mlir_attributes.specs.Steps.{max_operations, max_slots}
use Rattle.mlir_parse.specs.SynTree.{Operation}
use Rattle.mlir_parse.specs.FileGrammar.{IsModuleFile}
use Rattle.mlir_resolve.specs.Resolving.{slots_of}
use Rattle.round_trip.specs.PrintableRows.{IsPrintable}
use Rattle.round_trip.proofs.Places.{Is, faces, space, marked}
use Rattle.round_trip.proofs.RowTree.{Tree, node, Branches, no_branches, branch_then, Trees, no_trees, tree_then, tree_text, tree_count, branches_count, trees_count, tree_slots, branches_slots, trees_slots, IsReady, IsTreeOf}
use Rattle.round_trip.proofs.Regions.{end_line}
use Rattle.round_trip.proofs.Rows.{Op, row_again}
use Rattle.round_trip.proofs.Forest.{flat, flat_branches, flat_trees, IsSound, AreRegionsSound, tree_at}
use Rattle.round_trip.proofs.Ready.{ready, at_place}
use Rattle.round_trip.proofs.RowUtf8.{tree_utf8}

-- ---- counts

mutual
  pub flat_count : (t : Tree) → tree_count t ≡ length (flat t)
  flat_count (node r bs) = ap suc (branches_flat_count bs)

  branches_flat_count : (bs : Branches) → branches_count bs ≡ length (flat_branches bs)
  branches_flat_count no_branches = refl
  branches_flat_count (branch_then args ts bs) = omega (arith, trees_flat_count ts, branches_flat_count bs, length-append (flat_trees ts) (flat_branches bs))

  trees_flat_count : (ts : Trees) → trees_count ts ≡ length (flat_trees ts)
  trees_flat_count no_trees = refl
  trees_flat_count (tree_then t ts) = omega (arith, flat_count t, trees_flat_count ts, length-append (flat t) (flat_trees ts))

slots_append : (xs ys : List Row) → slots_of (xs ++ ys) ≡ slots_of xs + slots_of ys
slots_append [] ys = omega arith
slots_append (x ∷ xs) ys = omega (arith, slots_append xs ys)

mutual
  pub flat_slots : (t : Tree) → tree_slots t ≡ slots_of (flat t)
  flat_slots (node r bs) = ap (λ n. (length r.operands + length r.results) + n) (branches_flat_slots bs)

  branches_flat_slots : (bs : Branches) → branches_slots bs ≡ slots_of (flat_branches bs)
  branches_flat_slots no_branches = refl
  branches_flat_slots (branch_then args ts bs) = omega (arith, trees_flat_slots ts, branches_flat_slots bs, slots_append (flat_trees ts) (flat_branches bs))

  trees_flat_slots : (ts : Trees) → trees_slots ts ≡ slots_of (flat_trees ts)
  trees_flat_slots no_trees = refl
  trees_flat_slots (tree_then t ts) = omega (arith, flat_slots t, trees_flat_slots ts, slots_append (flat t) (flat_trees ts))

-- ---- all rows stand inside the first one

pub some_home : (o : Option Home) → IsSome o → (h : Home) × (o ≡ Some h)
some_home None h = absurd (cc)
some_home (Some home) h = (home, refl)

nothing_left : (rows : List Row) (to : ℕ) → ((s : Row) → IsAt rows to s → ⊥) → drop to rows ≡ []
nothing_left [] zero none = refl
nothing_left [] (suc to) none = refl
nothing_left (x ∷ rows) zero none = absurd (none x refl)
nothing_left (x ∷ rows) (suc to) none = nothing_left rows to none

pub has_home : (rows : List Row) → BeginsWithModule rows → (j : ℕ) (s : Row) → 0 < j → IsAt rows j s → IsSome s.home
has_home [] begins j s some at_s = absurd begins
has_home (r ∷ rows) begins zero s some at_s = absurd (omega arith)
has_home (r ∷ rows) begins (suc j) s some at_s = at_place (λ t. IsSome t.home) rows begins.1 j s at_s

-- the row around one behind the first row's end stands behind that end too
outer_behind : (rows : List Row) → AreDistinct rows → AreNested rows → BeginsWithModule rows → (to : ℕ) → EndsRow rows 0 to → (j : ℕ) (s : Row) → to ≤ j → IsAt rows j s → (p : ℕ) × (t : Row) × (p < j) × (to ≤ p) × IsAt rows p t
outer_behind rows apart nested begins to ends j s le at_s =
    let (h, is) = some_home s.home (has_home rows begins j s (omega (arith, le, ends.later)) at_s) in
    let o = home_row rows apart nested j s h at_s is in
    elim (true_or_false (nat_lt o.place to)) [
      | inl before ↦ absurd (ends.behind o.place j o.row s h o.at at_s is (omega arith) (ltb-true o.place to before) le (sym o.is))
      | inr later ↦ (o.place, o.row, o.before, ltb-false o.place to later, o.at)
    ]

none_behind : (rows : List Row) → AreDistinct rows → AreNested rows → BeginsWithModule rows → (to : ℕ) → EndsRow rows 0 to → (n j : ℕ) (s : Row) → j < n → to ≤ j → IsAt rows j s → ⊥
none_behind rows apart nested begins to ends zero j s small le at_s = omega arith
none_behind rows apart nested begins to ends (suc n) j s small le at_s =
    let (p, t, less, more, at_t) = outer_behind rows apart nested begins to ends j s le at_s in
    none_behind rows apart nested begins to ends n p t (omega (arith, less, small)) more at_t

-- ---- no region is around the first row

-- rows with this number have no home
abbrev AreOuter : ℕ → List Row → Type 0
AreOuter u rows = AllByRecursion (λ r. (r.id == u) ≡ true → r.home ≡ None) rows

outer_join : (u : ℕ) (xs ys : List Row) → AreOuter u xs → AreOuter u ys → AreOuter u (xs ++ ys)
outer_join u [] ys x y = y
outer_join u (r ∷ xs) ys x y = (x.0, outer_join u xs ys x.1 y)

outer_reverse : (u : ℕ) (xs : List Row) → AreOuter u xs → AreOuter u (reverse xs)
outer_reverse u [] h = tt
outer_reverse u (r ∷ xs) h = subst (AreOuter u) (sym (reverse-cons r xs)) (outer_join u (reverse xs) (r ∷ []) (outer_reverse u xs h.1) (h.0, tt))

around_by : (u : ℕ) (r : Row) (rows : List Row) (b : Bool) → (r.id == u) ≡ b → ((r.id == u) ≡ true → r.home ≡ None) → homes_around rows u ≡ [] → cond b (option_map_or (λ h. h ∷ homes_around rows h.row) r.home []) (homes_around rows u) ≡ []
around_by u r rows true is home more = ap (λ o. option_map_or (λ h. h ∷ homes_around rows h.row) o []) (home is)
around_by u r rows false is home more = more

none_around : (u : ℕ) (rows : List Row) → AreOuter u rows → homes_around rows u ≡ []
none_around u [] h = refl
none_around u (r ∷ rows) h = around_by u r rows (r.id == u) refl h.0 (none_around u rows h.1)

others_outer : (u : ℕ) (rows : List Row) → AllByRecursion (λ y. (u == y) ≡ false) (map (λ r. r.id) rows) → AreOuter u rows
others_outer u [] h = tt
others_outer u (r ∷ rows) h = ((λ is. let e : r.id ≡ u = eqb-true r.id u is in absurd (true≢false (sym (eq-eqb u r.id (sym e)) ∙ h.0))), others_outer u rows h.1)

pub outermost : (r : Row) (rows : List Row) → AreDistinct (r ∷ rows) → r.home ≡ None → enclosing (r ∷ rows) r.id ≡ []
unfolding enclosing IsDistinct
outermost r rows apart home = none_around r.id (reverse (r ∷ rows)) (outer_reverse r.id (r ∷ rows) ((λ is. home), others_outer r.id rows apart.0))

-- ---- the tree of a module

-- The rows of a module are those of this tree, whose text is the module's.
pub record TreeOf (m : Rows) : Type 0 where
  pub tree : Tree
  pub rows : m.rows ≡ flat tree
  pub text : module_text m.rows ≡ tree_text m.rows 0 tree
  pub sound : IsSound m.rows 0 None tree
  pub ready : IsReady m.rows max_open tree

tree_by : (rows : List Row) → AreDistinct rows → AreNested rows → BeginsWithModule rows → (t : Tree) × (rows ≡ flat t) × (module_text rows ≡ tree_text rows 0 t) × IsSound rows 0 None t
unfolding module_text
tree_by [] apart nested begins = absurd begins
tree_by (r ∷ rows) apart nested begins =
    let all = r ∷ rows in
    let one = tree_at all apart nested 0 r refl in
    let left : drop one.to all ≡ [] = nothing_left all one.to (λ s at_s. none_behind all apart nested begins one.to one.ends (suc one.to) one.to s (omega arith) (omega arith) at_s) in
    let depth : enclosing all r.id ≡ [] = outermost r rows apart begins.0.no_home in (
      node r one.branches,
      ap (λ t. r ∷ t) (one.are ∙ ap (λ t. flat_branches one.branches ++ t) left ∙ append-nil (flat_branches one.branches)),
      sym (one.text 0),
      (record { place = 0; there = refl; home_is = begins.0.no_home; depth_is = ap length depth }, one.args, subst (λ n. AreRegionsSound all (suc n) r.id 0 one.branches) (ap length depth) one.sound),
    )

pub tree_of : (m : Rows) → IsPrintable m → TreeOf m
tree_of m p =
    let (t, rows, text, sound) = tree_by m.rows p.well_formed.numbers.differ p.well_formed.nesting p.well_formed.numbers.begins in
    record { tree = t; rows = rows; text = text; sound = sound; ready = ready m p 0 None t sound }

-- ---- the file

-- A file of one operation that fits the tree.
pub record FileOf (m : Rows) (t : Tree) : Type 0 where
  pub made : Operation
  pub fits : IsTreeOf m.rows t made
  pub file : IsModuleFile (module_text m.rows) (record { ops = made ∷ [] })

file_by : (m : Rows) (t : Tree) (text : List ℕ) → IsUtf8 text → (o : Op m.rows t max_open (start_of text) []) → module_text m.rows ≡ text → FileOf m t
file_by m t text utf8 o same =
    let line = space 10 o.goes.end [] refl (faces o.goes.end (10 ∷ []) o.goes.is) in
    let (e, ends, rest) = marked k.End [] o.goes.end [] line (refl, λ at. refl) in
    record {
      made = o.made;
      fits = o.fits;
      file = subst (λ x. IsModuleFile x (record { ops = o.made ∷ [] })) (sym same)
          (record { utf8 = utf8; end = o.goes.end; behind = moved o.goes.end e; operations = ([], start_of text, o.goes.end, refl, o.goes.stands, ([], refl)); ends = ends });
    }

pub file_of : (m : Rows) → IsPrintable m → (t : TreeOf m) → FileOf m t.tree
file_of m p t =
    let text = tree_text m.rows 0 t.tree in
    let begins : Is (start_of text) text = record { stands = refl; within = omega arith } in
    let utf8 = tree_utf8 m.rows 0 max_open t.tree t.ready in
    let few : (start_of text).operations + tree_count t.tree ≤ max_operations = omega (arith, flat_count t.tree, ap length t.rows, p.few) in
    let slots : (start_of text).slots + tree_slots t.tree ≤ max_slots = omega (arith, flat_slots t.tree, ap slots_of t.rows, p.slots) in
    file_by m t.tree text utf8
    (row_again m.rows t.tree 0 max_open (start_of text) [] t.ready few slots (faces (start_of text) (text ++ []) (subst (Is (start_of text)) (sym (append-nil text)) begins)) end_line)
    t.text
