use Rattle.std.proofs.Common.{[], Ok, Err, subst}
use Rattle.pdll_types.specs.Walk.{Tells}
use Rattle.pdll_types.proofs.WholeFiles.{tells_file, refused_is}
use Rattle.pdll_types.proofs.files.kinds_and_roots.Goals as goal

pub returns-in-Ok : goal.returns-in-Ok
returns-in-Ok c =
    let file = c.args.file.now in
    tells_file file c.walk_file.new.walk (subst (λ w. Tells [] [] file.decls w (Ok tt) c.walk_file.new.walk) c.new-walk.ensures c.in-Ok.ensures)

pub returns-in-Err : goal.returns-in-Err
returns-in-Err c =
    let file = c.args.file.now in
    refused_is file c.in-Err.refusal c.walk_file.new.walk
    (subst (λ w. Tells [] [] file.decls w (Err c.in-Err.refusal) c.walk_file.new.walk) c.new-walk.ensures c.in-Err.ensures)
