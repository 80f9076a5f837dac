use Rattle.std.proofs.Common.{sym, ◌∙◌, rules, arith}
use Rattle.std.proofs.lemmas.Grind.{common_steps}
use Rattle.mlir_resolve.proofs.Scopes.{put_new, put_old}
use Rattle.mlir_resolve.proofs.scope.Scope.put.Goals as goal
use Rattle.mlir_resolve.proofs.scope.Scope.put.Goals.{in-None, in-Some}

pub returns : goal.returns
returns c =
    elim c.match-branch-2.branch [
      | in-None w ↦
          let e = put_new c.args.name c.args.value c.args.at c.self.inside.names.entries (sym c.in_ok-insert.ensures.old ∙ w.in-None.is) in
          let d = c.in_ok-insert.ensures.entries in
          first_of (search rules, grind (arith, common_steps))
      | in-Some w ↦
          let e = put_old c.args.name c.args.value w.in-Some.field-0 c.args.at c.self.inside.names.entries (sym c.in_ok-insert.ensures.old ∙ w.in-Some.is) in
          first_of (search rules, grind (arith, common_steps))
    ]
