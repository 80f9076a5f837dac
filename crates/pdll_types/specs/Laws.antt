-- What acceptance promises of patterns.
use Rattle.pdll_syntax.specs.declared.fault.PatFault.{PatFault}
use Rattle.pdll_syntax.specs.declared.file.PatFile.{PatFile}
use Rattle.rewrite_model.specs.Expanding.{patterns}
use Rattle.rewrite_model.specs.Determined.{AreDetermined}
use Rattle.pdll_types.specs.Accepted.{IsAccepted, IsFirstFault}

-- In the patterns of an accepted file all is determined by the root, and no list of types has two ranges.
abbrev pub AcceptedFilesAreDetermined : Type 0
AcceptedFilesAreDetermined = (file : PatFile) → IsAccepted file → AreDetermined (patterns file)

-- An accepted file has no first fault.
abbrev pub AcceptedFilesHaveNoFault : Type 0
AcceptedFilesHaveNoFault = (file : PatFile) (f : PatFault) → IsAccepted file → IsFirstFault file f → ⊥
