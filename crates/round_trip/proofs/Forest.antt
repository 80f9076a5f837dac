-- Nested rows are those of a tree, and their text is the tree's.
use Rattle.std.proofs.Common.{◌≡◌, ℕ, zero, suc, ◌+◌, ◌<◌, ◌≤◌, true, false, if◌then◌else◌, List, [], ◌∷◌, ◌++◌, length, drop, refl, ap, sym, subst, ◌∙◌, arith, append_assoc, inl, inr, Option, Some}
use Rattle.std.specs.Prelude.{codes, ◌==◌}
use Rattle.std.specs.Option.{option_map_or}
use Rattle.std.proofs.lemmas.Bool.{ne_eqb}
use Rattle.std.proofs.lemmas.Option.{slice_get_within, none-some, same_Some}
use Rattle.mlir_tree.specs.declared.row.Home.{Home}
use Rattle.mlir_tree.specs.declared.row.Row.{Row}
use Rattle.mlir_tree.specs.Tree.{Ty}
use Rattle.mlir_tree.specs.Module.{enclosing}
use Rattle.mlir_tree.specs.WellFormed.{AreDistinct, AreNested}
use Rattle.mlir_print.specs.ModuleText.{separator, region_of, region_text, region_texts, regions_text, row_text, head_text, tail_text, inside_text}
use Rattle.mlir_print.specs.Cursor.{stands_at, IsOpen, AreInside, AreEarlier, EndsRow, EndsRegion, row_text_at}
use Rattle.mlir_tree.proofs.Places.{true_or_false, IsAt, home_row, around_home}
use Rattle.mlir_print.proofs.Closing.{Standing, standing, close_region, close_row, open_at, open_behind, none_yet, none_further, inside_behind, earlier_behind, inside_further, earlier_further}
use Rattle.mlir_print.proofs.Blocks.{ended, passed, skipped}
use Rattle.round_trip.proofs.RowTree.{Tree, node, Branches, no_branches, branch_then, Trees, no_trees, tree_then, arguments_in, in_parens, tree_text, branches_text, trees_text}

-- ---- the rows of a tree in text order

abbrev mutual
  pub flat : Tree → List Row
  flat (node r bs) = r ∷ flat_branches bs

  pub flat_branches : Branches → List Row
  flat_branches no_branches = []
  flat_branches (branch_then args ts bs) = flat_trees ts ++ flat_branches bs

  pub flat_trees : Trees → List Row
  flat_trees no_trees = []
  flat_trees (tree_then t ts) = flat t ++ flat_trees ts

-- ---- the rows of a list, each in its home and at its depth

-- The row is one of the list, has this home and so many regions around it.
pub record IsPlaced (rows : List Row) (depth : ℕ) (home : Option Home) (r : Row) : Type 0 where
  pub place : ℕ
  pub there : IsAt rows place r
  pub home_is : r.home ≡ home
  pub depth_is : length (enclosing rows r.id) ≡ depth

abbrev mutual
  pub IsSound : List Row → ℕ → Option Home → Tree → Type 0
  IsSound rows depth home (node r bs) = IsPlaced rows depth home r × (arguments_in bs ≡ r.regions) × AreRegionsSound rows (suc depth) r.id 0 bs

  pub AreRegionsSound : List Row → ℕ → ℕ → ℕ → Branches → Type 0
  AreRegionsSound rows depth d g no_branches = Unit {0}
  AreRegionsSound rows depth d g (branch_then args ts bs) = AreSound rows depth (record { row = d; region = g }) ts × AreRegionsSound rows depth d (suc g) bs

  pub AreSound : List Row → ℕ → Home → Trees → Type 0
  AreSound rows depth home no_trees = Unit {0}
  AreSound rows depth home (tree_then t ts) = IsSound rows depth (Some home) t × AreSound rows depth home ts

-- ---- texts

in_parens_text : (all : List Row) (depth : ℕ) (r : Row) (bs : Branches) (inside : ℕ → List ℕ) → arguments_in bs ≡ r.regions → branches_text all depth r.id 0 bs ≡ region_texts all depth r.id inside 0 r.regions
    → in_parens bs (branches_text all depth r.id 0 bs) ≡ regions_text all depth r inside
unfolding regions_text
in_parens_text all depth r no_branches inside args text = ap (λ n. if n == 0 then [] else codes " (" ++ (region_texts all depth r.id inside 0 r.regions ++ codes ")")) (ap length args)
in_parens_text all depth r (branch_then xs ts bs) inside args text =
    let some : length r.regions == 0 ≡ false = ne_eqb (length r.regions) 0 (λ e. omega (arith, ap length args)) in
    ap (λ t. codes " (" ++ (t ++ codes ")")) text ∙ ap (λ b. if b then [] else codes " (" ++ (region_texts all depth r.id inside 0 r.regions ++ codes ")")) (sym some)

drop_front : (rows : List Row) (cur : ℕ) (t : Row) → IsAt rows cur t → drop cur rows ≡ t ∷ drop (suc cur) rows
drop_front [] cur t p = absurd (none-some t p)
drop_front (x ∷ rows) zero t p = ap (λ y. y ∷ rows) (same_Some x t p)
drop_front (x ∷ rows) (suc cur) t p = drop_front rows cur t p

module _ (rows : List Row) (apart : AreDistinct rows) (nested : AreNested rows) where
  -- The trees of the rows in region g of row r, which stands at place i, from place `cur` on.
  pub record Block (i : ℕ) (r : Row) (g cur : ℕ) : Type 0 where
    pub trees : Trees
    pub to : ℕ
    pub are : drop cur rows ≡ flat_trees trees ++ drop to rows
    pub ends : EndsRegion rows i g cur to
    pub text : (depth : ℕ) → trees_text rows depth trees ≡ inside_text rows cur depth r g
    pub sound : AreSound rows (suc (length (enclosing rows r.id))) (region_of r g) trees

  -- The regions of the row at a place.
  pub record RowAt (at : ℕ) (r : Row) : Type 0 where
    pub branches : Branches
    pub to : ℕ
    pub are : drop (suc at) rows ≡ flat_branches branches ++ drop to rows
    pub ends : EndsRow rows at to
    pub text : (depth : ℕ) → tree_text rows depth (node r branches) ≡ row_text_at rows depth at
    pub args : arguments_in branches ≡ r.regions
    pub sound : AreRegionsSound rows (suc (length (enclosing rows r.id))) r.id 0 branches

  -- Some of its regions, from region g on.
  record Regions (at : ℕ) (r : Row) (g from : ℕ) (more : List (List Ty)) : Type 0 where
    branches : Branches
    to : ℕ
    are : drop from rows ≡ flat_branches branches ++ drop to rows
    later : from ≤ to
    opened : IsOpen rows at (g + length more) to
    inside : AreInside rows (at) (at + 1) to
    text : (depth : ℕ) → branches_text rows depth r.id g branches ≡ region_texts rows depth r.id (inside_text rows (at + 1) (depth + 1) r) g more
    args : arguments_in branches ≡ more
    sound : AreRegionsSound rows (suc (length (enclosing rows r.id))) r.id g branches

  abbrev Blocks : ℕ → Row → ℕ → Type 0
  Blocks i r low = (g cur : ℕ) → low ≤ cur → IsAt rows i r → i < cur → IsOpen rows i g cur → Block i r g cur

  region_more : (depth d g : ℕ) (inside : ℕ → List ℕ) (args : List Ty) (more : List (List Ty)) → region_texts rows depth d inside g (args ∷ more) ≡ separator g ++ (region_text rows depth d g args (inside g) ++ region_texts rows depth d inside (suc g) more)
  unfolding region_texts
  region_more depth d g inside args more = refl

  no_more : (depth d g : ℕ) (inside : ℕ → List ℕ) → region_texts rows depth d inside g [] ≡ []
  unfolding region_texts
  no_more depth d g inside = refl

  with_rest : (at : ℕ) (r : Row) (g from : ℕ) (args : List Ty) (more : List (List Ty)) → IsAt rows at r → at + 1 ≤ from → AreEarlier rows at g (at + 1) from → (b : Block at r g from) → Regions at r (suc g) b.to more → Regions at r g from (args ∷ more)
  with_rest at r g from args more at_r le earlier b rest = record {
    branches = branch_then args b.trees rest.branches;
    to = rest.to;
    are = b.are ∙ ap (λ t. flat_trees b.trees ++ t) rest.are ∙ sym (append_assoc (flat_trees b.trees) (flat_branches rest.branches) (drop rest.to rows));
    later = omega (arith, b.ends.later, rest.later);
    opened = subst (λ n. IsOpen rows at n rest.to) (let e : suc g + length more ≡ g + length (args ∷ more) = omega arith in e) rest.opened;
    inside = rest.inside;
    text = λ depth.
        let deeper : suc depth ≡ depth + 1 = omega arith in
        let block : trees_text rows (suc depth) b.trees ≡ inside_text rows (at + 1) (depth + 1) r g =
        ap (λ n. trees_text rows n b.trees) deeper ∙ b.text (depth + 1) ∙ skipped rows at g from (depth + 1) r at_r le earlier in
        (λ j. separator g ++ (region_text rows depth r.id g args (block j) ++ rest.text depth j)) ∙ sym (region_more depth r.id g (inside_text rows (at + 1) (depth + 1) r) args more);
    args = ap (λ t. args ∷ t) rest.args;
    sound = (b.sound, rest.sound);
  }

  regions_from : (at : ℕ) (r : Row) → Blocks at r (at + 1) → IsAt rows at r → (more : List (List Ty)) (g from : ℕ) → at + 1 ≤ from → IsOpen rows at g from → AreInside rows at (at + 1) from → AreEarlier rows at g (at + 1) from → Regions at r g from more
  regions_from at r go at_r [] g from le opened inside earlier = record {
    branches = no_branches;
    to = from;
    are = refl;
    later = omega arith;
    opened = subst (λ n. IsOpen rows at n from) (let e : g ≡ g + 0 = omega arith in e) opened;
    inside = inside;
    text = λ depth. sym (no_more depth r.id g (inside_text rows (at + 1) (depth + 1) r));
    args = refl;
    sound = tt;
  }
  regions_from at r go at_r (args ∷ more) g from le opened inside earlier =
      let b = go g from le at_r (omega (arith, le)) opened in
      with_rest at r g from args more at_r le earlier b
      (regions_from at r go at_r more (suc g) b.to (omega (arith, le, b.ends.later))
      (subst (λ n. IsOpen rows at n b.to) (let e : g + 1 ≡ suc g = omega arith in e) b.ends.opened)
      (inside_further rows at (at + 1) from b.to inside b.ends.inside)
      (subst (λ n. AreEarlier rows at n (at + 1) b.to) (let e : g + 1 ≡ suc g = omega arith in e) (earlier_further rows at g (at + 1) from b.to earlier b.ends.earlier)))

  node_text : (at : ℕ) (r : Row) (bs : Branches) (depth : ℕ) → IsAt rows at r → in_parens bs (branches_text rows depth r.id 0 bs) ≡ regions_text rows depth r (inside_text rows (at + 1) (depth + 1) r) → tree_text rows depth (node r bs) ≡ row_text_at rows depth at
  unfolding row_text
  node_text at r bs depth at_r text =
      ap (λ t. head_text rows depth r ++ (t ++ tail_text rows r)) text
      ∙ ap (λ o. option_map_or (λ (s : Row). row_text rows depth s (inside_text rows (at + 1) (depth + 1) s)) o []) (sym at_r)

  row_done : (at : ℕ) (r : Row) → IsAt rows at r → Regions at r 0 (at + 1) r.regions → RowAt at r
  row_done at r at_r g = record {
    branches = g.branches;
    to = g.to;
    are = ap (λ n. drop n rows) (let e : suc at ≡ at + 1 = omega arith in e) ∙ g.are;
    ends = record {
      later = omega (arith, g.later);
      behind = close_row rows apart nested at g.to r at_r (subst (λ n. IsOpen rows at n g.to) (let e : 0 + length r.regions ≡ length r.regions = omega arith in e) g.opened);
      inside = g.inside;
    };
    text = λ depth. node_text at r g.branches depth at_r (in_parens_text rows depth r g.branches (inside_text rows (at + 1) (depth + 1) r) g.args (g.text depth));
    args = g.args;
    sound = g.sound;
  }

  row_at : (at : ℕ) (r : Row) → Blocks at r (at + 1) → IsAt rows at r → RowAt at r
  row_at at r go at_r =
      row_done at r at_r (regions_from at r go at_r r.regions 0 (at + 1) (omega arith) (open_at rows at)
      (λ m s k p less. none_yet rows (region_of s k) (at + 1)) (λ s k p le. none_yet rows (region_of s k) (at + 1)))

  -- ---- the rows of a region

  no_rows : (i : ℕ) (r : Row) (g cur : ℕ) → IsAt rows i r → i < cur → IsOpen rows i g cur → stands_at rows cur (region_of r g) ≡ false → Block i r g cur
  no_rows i r g cur at_r lt opened none = record {
    trees = no_trees;
    to = cur;
    are = refl;
    ends = record {
      later = omega arith;
      opened = close_region rows apart nested i g cur r at_r lt opened none;
      inside = λ m s k p less. none_yet rows (region_of s k) cur;
      earlier = λ s k p le. none_yet rows (region_of s k) cur;
    };
    text = λ depth. ended rows apart nested i g cur depth r at_r lt opened none;
    sound = tt;
  }

  -- the depth of a row in a region
  deeper : (i : ℕ) (r : Row) (g cur : ℕ) (s : Row) → IsAt rows i r → IsAt rows cur s → s.home ≡ Some (region_of r g) → length (enclosing rows s.id) ≡ suc (length (enclosing rows r.id))
  deeper i r g cur s at_r at_s home =
      let o = home_row rows apart nested cur s (region_of r g) at_s home in
      let same : o.row.id ≡ r.id = o.is in
      ap length (around_home rows apart cur s (region_of r g) at_s home o) ∙ ap (λ d. suc (length (enclosing rows d))) same

  some_rows : (i : ℕ) (r : Row) (g cur : ℕ) → IsAt rows i r → i < cur → (s : Standing rows cur (region_of r g)) → stands_at rows cur (region_of r g) ≡ true → (one : RowAt cur s.row) → Block i r g one.to → Block i r g cur
  some_rows i r g cur at_r lt s stands one rest = record {
    trees = tree_then (node s.row one.branches) rest.trees;
    to = rest.to;
    are = drop_front rows cur s.row s.there ∙ ap (λ t. s.row ∷ t) (one.are ∙ ap (λ t. flat_branches one.branches ++ t) rest.are ∙ sym (append_assoc (flat_branches one.branches) (flat_trees rest.trees) (drop rest.to rows)));
    ends = record {
      later = omega (arith, one.ends.later, rest.ends.later);
      opened = rest.ends.opened;
      inside = inside_further rows i cur one.to rest.to (inside_behind rows apart i g cur cur one.to r at_r lt stands (λ m t k p less. none_yet rows (region_of t k) cur) one.ends) rest.ends.inside;
      earlier = λ t k p more. none_further rows (region_of t k) cur one.to rest.to
          (earlier_behind rows i g cur cur one.to r at_r lt stands (λ t k p le. none_yet rows (region_of t k) cur) one.ends t k p more) (rest.ends.earlier t k p more);
    };
    text = λ depth. (λ j. one.text depth j ++ rest.text depth j) ∙ passed rows i g cur one.to depth r at_r lt stands one.ends;
    sound = ((record { place = cur; there = s.there; home_is = s.home; depth_is = depth }, one.args, subst (λ n. AreRegionsSound rows (suc n) s.row.id 0 one.branches) depth one.sound), rest.sound);
  }
    where
      depth : length (enclosing rows s.row.id) ≡ suc (length (enclosing rows r.id))
      depth = deeper i r g cur s.row at_r s.there s.home

  block_at : (n : ℕ) (i : ℕ) (r : Row) (g cur : ℕ) → length rows ≤ n + cur → IsAt rows i r → i < cur → IsOpen rows i g cur → Block i r g cur
  block_at zero i r g cur long at_r lt opened = elim (true_or_false (stands_at rows cur (region_of r g))) [
    | inl stands ↦ let s = standing rows cur (region_of r g) stands in absurd (let w = slice_get_within rows cur s.row s.there in omega (arith, w, long))
    | inr none ↦ no_rows i r g cur at_r lt opened none
  ]
  block_at (suc n) i r g cur long at_r lt opened = elim (true_or_false (stands_at rows cur (region_of r g))) [
    | inl stands ↦
        let s = standing rows cur (region_of r g) stands in
        let one = row_at cur s.row (λ k from low at_s less open_here. block_at n cur s.row k from (omega (arith, long, low)) at_s less open_here) s.there in
        some_rows i r g cur at_r lt s stands one
        (block_at n i r g one.to (omega (arith, long, one.ends.later)) at_r (omega (arith, lt, one.ends.later)) (open_behind rows i g cur one.to opened one.ends))
    | inr none ↦ no_rows i r g cur at_r lt opened none
  ]

  -- the tree of the row at a place
  pub tree_at : (at : ℕ) (r : Row) → IsAt rows at r → RowAt at r
  tree_at at r at_r = row_at at r (λ k from low at_s less open_here. block_at (length rows) at r k from (omega arith) at_s less open_here) at_r
