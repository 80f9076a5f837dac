use Rattle.std.proofs.Common.{rules, ap, ap₂, codes, true, Option, Some, None, IsSomeAnd, ◌≡◌, ◌∙◌}
use Rattle.std.proofs.lemmas.Result.{IfOk-weaker}
use Rattle.clap.specs.Walk.{Rule, rule_of}
use Rattle.clap.specs.Simple.{app_of, app_of_fields, on_top, with_rule}
use Rattle.command_line.specs.App.{option, files, bare}
use Rattle.command_line.proofs.simple.app.Goals as goal

known : {X : Type 0} (o : Option X) (x : X) → IsSomeAnd o (λ y. y ≡ x) → o ≡ Some x
known None x h = absurd h
known (Some y) x h = ap Some h

pub returns : goal.returns
returns c =
    let rewrites_is : rule_of c.long-rewrites.result ≡ option (codes "max-rewrites") = search rules in
    let emit_is : rule_of c.long-emit.result ≡ option (codes "emit") = search rules in
    let generate_is : rule_of c.long-generate.result ≡ option (codes "generate") = search rules in
    let files_is : rule_of c.num_args-files.result ≡ files = ap rule_of c.num_args-files.ensures.0
    ∙ (ap (λ v. record (rule_of c.new-4.result) { range = v }) (known c.num_args-files.result.num_vals _ c.num_args-files.ensures.1)
    ∙ ap (λ (r : Rule). record r { range = files.range }) c.new-4.ensures.rule) in
    let bare_is : app_of c.disable_version_flag.result ≡ bare = ap app_of_fields c.disable_version_flag.ensures
    ∙ ap (on_top (λ s. record s { disable_version_flag = true })) (ap app_of_fields c.disable_help_flag.ensures
    ∙ ap (on_top (λ s. record s { disable_help_flag = true })) (ap app_of_fields c.no_binary_name.ensures
    ∙ ap (on_top (λ s. record s { no_binary_name = true })) c.new-5.ensures.app)) in
    let one = c.in_ok-arg.ensures.shape (search rules) ∙ ap₂ with_rule bare_is rewrites_is in
    let two = c.in_ok-arg-2.ensures.shape (search rules) ∙ ap₂ with_rule one emit_is in
    let three = c.in_ok-arg-3.ensures.shape (search rules) ∙ ap₂ with_rule two generate_is in
    IfOk-weaker c.arg-4.result _ _ (λ r h. h.shape (search rules) ∙ ap₂ with_rule three files_is) c.arg-4.ensures
