use Rattle.std.proofs.Common.{◌≡◌, ◌∙◌}
use Rattle.pdll_syntax.specs.Equal.{list_eq, decl_eq, file_eq}
use Rattle.pdll_syntax.proofs.Told.{told, file_told, file_itself}
use Rattle.pdll_syntax.proofs.file.PatFile.equal.Goals as goal

pub returns : goal.returns
returns c =
    let lists : list_eq decl_eq c.as_slice.result.now c.as_slice-2.result.now ≡ file_eq c.args.self.now c.args.other.now =
    λ i. list_eq decl_eq (c.as_slice.ensures i) (c.as_slice-2.ensures i) in
    told file_eq file_told file_itself c.args.self.now c.args.other.now c.same_decls.result (c.same_decls.ensures ∙ lists)
