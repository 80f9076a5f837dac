-- The rows of a module, as a tree, are read back.
use Rattle.std.proofs.Common.{◌≡◌, ℕ, suc, ◌+◌, ◌≤◌, List, [], ◌∷◌, ◌++◌, length, refl, sym, subst, arith, append_assoc}
use Rattle.std.specs.Prelude.{codes}
use Rattle.mlir_lexer.specs.declared.token.TokenKind.TheVariants as k
use Rattle.mlir_tree.specs.declared.row.Row.{Row}
use Rattle.mlir_print.specs.Text.{string_text}
use Rattle.mlir_print.specs.ModuleText.{indent, results_text, region_text}
use Rattle.mlir_attributes.specs.Place.{Place, moved}
use Rattle.mlir_attributes.specs.Steps.{max_slots, max_parts, max_operations}
use Rattle.mlir_parse.specs.SynTree.{Operation, operation, Regions, no_regions, region_then, no_operations, operation_then}
use Rattle.mlir_parse.specs.OperationGrammar.{IsRegion, IsOperation, AreRegions, AreMoreRegions, AreOperations, region_count}
use Rattle.round_trip.proofs.Places.{Is, Faces, faces, space, spaces, marked, lacks}
use Rattle.round_trip.proofs.Ends.{Ends, is_end}
use Rattle.round_trip.proofs.Parts.{Goes}
use Rattle.round_trip.proofs.Nexts.{Next, is_tail, next_lacks}
use Rattle.round_trip.proofs.RowTree.{Tree, node, Branches, no_branches, branch_then, Trees, no_trees, tree_then, arguments_in, in_parens, tree_text, branches_text, trees_text, tree_count, branches_count, tree_slots, branches_slots, IsRowReady, IsReady, AreRegionsReady, AreReady, IsTreeOf, AreBranchesOf}
use Rattle.round_trip.proofs.Regions.{indented, line_ends, brace_line, begin_next, behind_spaces}
use Rattle.round_trip.proofs.Fronts.{Front, Back, front_again, back_again}
use Rattle.round_trip.proofs.Operations.{behind_regions, behind_name, part_text, tail_next, regions_next, ReadsRows, NextRows, region_again}

-- ---- what begins a row

tree_next : (all : List Row) (room depth : ℕ) (t : Tree) (z : List ℕ) → IsReady all room t → Next is_end (tree_text all depth t ++ z)
tree_next all room depth (node r bs) z (less, same, ready, args, inside) =
    let regions = in_parens bs (branches_text all depth r.id 0 bs) in
    subst (Next is_end) (sym (part_text all depth r regions z))
    (behind_spaces (indent depth) (results_text all r ++ (string_text r.name ++ behind_name all r regions z)) (indented depth) (begin_next all r (behind_name all r regions z) ready.name ready.number))

rows_next : (all : List Row) (room depth : ℕ) (ts : Trees) → AreReady all room ts → NextRows all depth ts
rows_next all room depth no_trees h gap z spaces_all = brace_line gap z spaces_all
rows_next all room depth (tree_then t ts) h gap z spaces_all =
    subst (Next is_end) (sym (append_assoc (tree_text all depth t) (trees_text all depth ts) (gap ++ (125 ∷ z)))) (tree_next all room depth t (trees_text all depth ts ++ (gap ++ (125 ∷ z))) h.0)

-- ---- a row around its regions

-- What a row is read as.
pub record Op (all : List Row) (t : Tree) (room : ℕ) (s : Place) (z : List ℕ) : Type 0 where
  pub made : Operation
  pub fits : IsTreeOf all t made
  pub goes : Goes (λ u v. IsOperation [] room u made v) (tree_count t) (tree_slots t) s (10 ∷ z)

-- What regions are read as; the place behind them stands before spaces.
record Regs (all : List Row) (room d : ℕ) (bs : Branches) (s : Place) (z : List ℕ) : Type 0 where
  made : Regions
  fits : AreBranchesOf all d 0 bs made
  end : Place
  stands : AreRegions [] room s made end
  is : Faces end z
  operations : end.operations ≡ s.operations + branches_count bs
  slots : end.slots ≡ s.slots + branches_slots bs

whole_row : (all : List Row) (r : Row) (bs : Branches) (room : ℕ) (s : Place) (y x z : List ℕ) (front : Front all room r s y) (regs : Regs all (suc room) r.id bs front.end x) → Back all room r regs.end z → Op all (node r bs) (suc room) s z
whole_row all r bs room s y x z front regs back = record {
  made = operation (record { at = front.at; name = r.name; results = front.results; operands = front.uses; props = front.props; attrs = back.attrs; types_at = back.types_at; operand_types = back.from; result_types = r.results }) regs.made;
  fits = (record { name = refl; results = front.result_fits; operands = front.use_fits; props = front.pairs; attrs = back.pairs; operand_types = back.types; result_types = refl }, regs.fits);
  goes = record {
    end = back.end;
    stands = (front.end, regs.end, front.stands back.attrs back.types_at back.from r.results, regs.stands, back.stands front.at front.results front.uses front.props);
    is = back.is;
    operations = omega (arith, back.operations, regs.operations, front.operations);
    slots = omega (arith, back.slots, regs.slots, front.slots);
  };
}

behind_front : (all : List Row) (r : Row) (bs : Branches) (depth room : ℕ) (s : Place) (z : List ℕ) → IsRowReady all room r
    → ((u : Place) → u.operations + branches_count bs ≤ max_operations → u.slots + branches_slots bs ≤ max_slots → Faces u (in_parens bs (branches_text all depth r.id 0 bs) ++ behind_regions all r z) → Regs all (suc room) r.id bs u (behind_regions all r z))
    → s.operations + tree_count (node r bs) ≤ max_operations → s.slots + tree_slots (node r bs) ≤ max_slots → Ends (10 ∷ z) → Front all room r s (in_parens bs (branches_text all depth r.id 0 bs) ++ behind_regions all r z) → Op all (node r bs) (suc room) s z
behind_front all r bs depth room s z ready inside few_operations few_slots ends front =
    behind_regs (inside front.end (omega (arith, front.operations, few_operations)) (omega (arith, front.slots, few_slots)) front.is)
  where
    behind_regs : Regs all (suc room) r.id bs front.end (behind_regions all r z) → Op all (node r bs) (suc room) s z
    behind_regs regs =
        whole_row all r bs room s (in_parens bs (branches_text all depth r.id 0 bs) ++ behind_regions all r z) (behind_regions all r z) z front regs
        (back_again all room r regs.end z ready (omega (arith, regs.slots, front.slots, few_slots)) regs.is ends)

node_again : (all : List Row) (r : Row) (bs : Branches) (depth room : ℕ) (s : Place) (z : List ℕ) → IsRowReady all room r
    → ((u : Place) → u.operations + branches_count bs ≤ max_operations → u.slots + branches_slots bs ≤ max_slots → Faces u (in_parens bs (branches_text all depth r.id 0 bs) ++ behind_regions all r z) → Regs all (suc room) r.id bs u (behind_regions all r z))
    → s.operations + tree_count (node r bs) ≤ max_operations → s.slots + tree_slots (node r bs) ≤ max_slots → Faces s (tree_text all depth (node r bs) ++ z) → Next is_end z → Op all (node r bs) (suc room) s z
node_again all r bs depth room s z ready inside few_operations few_slots f next =
    let regions = in_parens bs (branches_text all depth r.id 0 bs) in
    behind_front all r bs depth room s z ready inside few_operations few_slots (line_ends z next)
    (front_again all room r s (regions ++ behind_regions all r z) ready (omega (arith, few_operations)) (omega (arith, few_slots))
    (spaces (indent depth) (results_text all r ++ (string_text r.name ++ behind_name all r regions z)) s (indented depth) (subst (Faces s) (part_text all depth r regions z) f))
    (regions_next bs (branches_text all depth r.id 0 bs) (behind_regions all r z) (tail_next all r z)))

-- ---- regions

-- What further regions are read as.
record More (all : List Row) (room d g : ℕ) (bs : Branches) (s : Place) (z : List ℕ) : Type 0 where
  made : Regions
  fits : AreBranchesOf all d g bs made
  count : region_count made ≡ length (arguments_in bs)
  goes : Goes (λ u v. AreMoreRegions [] room u made v) (branches_count bs) (branches_slots bs) s z

mutual
  pub row_again : (all : List Row) (t : Tree) (depth room : ℕ) (s : Place) (z : List ℕ) → IsReady all room t → s.operations + tree_count t ≤ max_operations → s.slots + tree_slots t ≤ max_slots
      → Faces s (tree_text all depth t ++ z) → Next is_end z → Op all t room s z
  row_again all (node r bs) depth room s z (less, same, ready, args, inside) few_operations few_slots f next =
      subst (λ n. Op all (node r bs) n s z) same
      (node_again all r bs depth less s z ready
      (λ u few more g. regions_again all bs depth less r.id u (behind_regions all r z) inside (subst (λ ts. length ts ≤ max_parts) (sym args) ready.few_regions) few more g (tail_next all r z))
      few_operations few_slots f next)

  regions_again : (all : List Row) (bs : Branches) (depth room d : ℕ) (s : Place) (z : List ℕ) → AreRegionsReady all room d 0 bs → length (arguments_in bs) ≤ max_parts → s.operations + branches_count bs ≤ max_operations → s.slots + branches_slots bs ≤ max_slots
      → Faces s (in_parens bs (branches_text all depth d 0 bs) ++ z) → Next is_tail z → Regs all (suc room) d bs s z
  regions_again all no_branches depth room d s z ready parts few_operations few_slots f next =
      record { made = no_regions; fits = tt; end = s; stands = (next_lacks is_tail k.LeftParen s z refl next f, refl); is = f; operations = omega arith; slots = omega arith }
  regions_again all (branch_then args ts bs) depth room d s z (less, same, args_ready, rows_ready, more_ready) parts few_operations few_slots f next =
      let first = region_text all depth d 0 args (trees_text all (suc depth) ts) in
      let more_text = branches_text all depth d 1 bs in
      let tail = more_text ++ (41 ∷ z) in
      let text : ((first ++ more_text) ++ codes ")") ++ z ≡ first ++ tail = simp append_assoc in
      let (a, left, r1) = marked k.LeftParen (40 ∷ []) s (first ++ tail) (subst (λ t. Faces s (40 ∷ t)) text (space 32 s (40 ∷ (((first ++ more_text) ++ codes ")") ++ z)) refl f)) (refl, λ at. refl) in
      let one = region_again all depth less d 0 args ts (moved s a) tail args_ready (rows_again all ts (suc depth) less rows_ready) (rows_next all less (suc depth) ts rows_ready)
      (omega (arith, few_operations)) (omega (arith, few_slots)) (faces (moved s a) (first ++ tail) r1) in
      let more = more_again all bs depth room d 0 one.goes.end z more_ready (omega (arith, one.goes.operations, few_operations)) (omega (arith, one.goes.slots, few_slots)) one.goes.is in
      let (c, right, r3) = marked k.RightParen (41 ∷ []) more.goes.end z (faces more.goes.end (41 ∷ z) more.goes.is) (refl, λ at. refl) in
      let stands = subst (λ n. IsRegion [] (λ deep x y. AreOperations [] deep x one.rows y) n (moved s a) one.arguments one.goes.end) same one.goes.stands in
      record {
        made = region_then one.arguments one.rows more.made;
        fits = (one.argument_fits, one.row_fits, more.fits);
        end = moved more.goes.end c;
        stands = (moved s a, more.goes.end, left, (one.goes.end, stands, more.goes.stands, omega (arith, more.count, parts)), right);
        is = faces (moved more.goes.end c) z r3;
        operations = omega (arith, more.goes.operations, one.goes.operations);
        slots = omega (arith, more.goes.slots, one.goes.slots);
      }

  more_again : (all : List Row) (bs : Branches) (depth room d g : ℕ) (s : Place) (z : List ℕ) → AreRegionsReady all room d (suc g) bs → s.operations + branches_count bs ≤ max_operations → s.slots + branches_slots bs ≤ max_slots
      → Is s (branches_text all depth d (suc g) bs ++ (41 ∷ z)) → More all room d (suc g) bs s (41 ∷ z)
  more_again all no_branches depth room d g s z ready few_operations few_slots is =
      record {
        made = no_regions;
        fits = tt;
        count = refl;
        goes = record { end = s; stands = (lacks k.Comma s (41 ∷ z) (faces s (41 ∷ z) is) refl (λ at. refl), refl); is = is; operations = omega arith; slots = omega arith };
      }
  more_again all (branch_then args ts bs) depth room d g s z (less, same, args_ready, rows_ready, more_ready) few_operations few_slots is =
      let first = region_text all depth d (suc g) args (trees_text all (suc depth) ts) in
      let more_text = branches_text all depth d (suc (suc g)) bs in
      let tail = more_text ++ (41 ∷ z) in
      let text : (first ++ more_text) ++ (41 ∷ z) ≡ first ++ tail = append_assoc first more_text (41 ∷ z) in
      let (a, comma, r1) = marked k.Comma (44 ∷ []) s (32 ∷ (first ++ tail)) (subst (λ t. Faces s (44 ∷ 32 ∷ t)) text (faces s (44 ∷ 32 ∷ ((first ++ more_text) ++ (41 ∷ z))) is)) (refl, λ at. refl) in
      let one = region_again all depth less d (suc g) args ts (moved s a) tail args_ready (rows_again all ts (suc depth) less rows_ready) (rows_next all less (suc depth) ts rows_ready)
      (omega (arith, few_operations)) (omega (arith, few_slots)) (space 32 (moved s a) (first ++ tail) refl (faces (moved s a) (32 ∷ (first ++ tail)) r1)) in
      let more = more_again all bs depth room d (suc g) one.goes.end z more_ready (omega (arith, one.goes.operations, few_operations)) (omega (arith, one.goes.slots, few_slots)) one.goes.is in
      let stands = subst (λ n. IsRegion [] (λ deep x y. AreOperations [] deep x one.rows y) n (moved s a) one.arguments one.goes.end) same one.goes.stands in
      record {
        made = region_then one.arguments one.rows more.made;
        fits = (one.argument_fits, one.row_fits, more.fits);
        count = omega (arith, more.count);
        goes = record {
          end = more.goes.end;
          stands = (moved s a, one.goes.end, comma, stands, more.goes.stands);
          is = more.goes.is;
          operations = omega (arith, more.goes.operations, one.goes.operations);
          slots = omega (arith, more.goes.slots, one.goes.slots);
        };
      }

  rows_again : (all : List Row) (ts : Trees) (depth room : ℕ) → AreReady all room ts → ReadsRows all depth room ts
  rows_again all no_trees depth room ready s gap z few_operations few_slots all_spaces f =
      record { made = no_operations; fits = tt; end = s; stands = refl; is = spaces gap (125 ∷ z) s all_spaces f; operations = omega arith; slots = omega arith }
  rows_again all (tree_then t ts) depth room ready s gap z few_operations few_slots all_spaces f =
      let rest = trees_text all depth ts ++ (gap ++ (125 ∷ z)) in
      let one = row_again all t depth room s rest ready.0 (omega (arith, few_operations)) (omega (arith, few_slots)) (subst (Faces s) (append_assoc (tree_text all depth t) (trees_text all depth ts) (gap ++ (125 ∷ z))) f) (rows_next all room depth ts ready.1 gap z all_spaces) in
      let more = rows_again all ts depth room ready.1 one.goes.end gap z (omega (arith, one.goes.operations, few_operations)) (omega (arith, one.goes.slots, few_slots)) all_spaces (space 10 one.goes.end rest refl (faces one.goes.end (10 ∷ rest) one.goes.is)) in
      record {
        made = operation_then one.made more.made;
        fits = (one.fits, more.fits);
        end = more.end;
        stands = (one.goes.end, one.goes.stands, more.stands);
        is = more.is;
        operations = omega (arith, more.operations, one.goes.operations);
        slots = omega (arith, more.slots, one.goes.slots);
      }
