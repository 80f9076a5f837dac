-- What the regions of an operation in the program stand for, each operation inside seen as what it stands for.
use Rattle.std.specs.Prelude.{List, [], ◌∷◌}
use Rattle.mlir_parse.specs.declared.syn.SynRegion.{SynRegion}
use Rattle.mlir_parse.specs.SynTree.{Regions, no_regions, region_then, operations}

abbrev pub region_tree : List SynRegion → Regions
region_tree [] = no_regions
region_tree (r ∷ rs) = region_then r.args (operations r.ops) (region_tree rs)
