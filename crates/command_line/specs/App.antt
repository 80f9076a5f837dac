-- The command, as what a parse reads of it: three options with one value each, and files.
use Rattle.std.specs.Prelude.{ℕ, true, List, [], Some, codes}
use Rattle.clap.specs.Lexer.{usize_max}
use Rattle.clap.specs.Simple.{App, new_shape, new_rule, with_rule}
use Rattle.clap.specs.Walk.{Rule}

abbrev pub option : List ℕ → Rule
option name = record (new_rule name) { long = Some name }

abbrev pub files : Rule
files = record (new_rule (codes "FILE")) { range = Some (record { start_inclusive = 0; end_inclusive = usize_max }) }

-- without help and version flags
abbrev pub bare : App
bare = record { top = record (new_shape (codes "pdllrw")) { no_binary_name = true; disable_help_flag = true; disable_version_flag = true }; subs = [] }

abbrev pub the_app : App
the_app = with_rule (with_rule (with_rule (with_rule bare (option (codes "max-rewrites"))) (option (codes "emit"))) (option (codes "generate"))) files
