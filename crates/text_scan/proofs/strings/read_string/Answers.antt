use Rattle.std.proofs.Common.{◌≡◌, ℕ, List, subst}
use Rattle.std.specs.Prelude.{IfOk}
use Rattle.text_scan.proofs.StringLaws.{string_value_is}
use Rattle.text_scan.proofs.strings.read_string.Goals as goal

pub returns-clause-meant : goal.returns-clause-meant
returns-clause-meant c = λ bytes is.
    subst (λ (t : List ℕ). IfOk c.string_bytes.result (λ v. v.items ≡ t)) (string_value_is c.args.text.now bytes is) c.string_bytes.ensures
