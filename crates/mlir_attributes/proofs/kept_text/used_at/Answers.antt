use Rattle.std.proofs.Common.{sym, ◌∙◌}
use Rattle.std.proofs.lemmas.List.{take_rest}
use Rattle.mlir_attributes.proofs.Names.{used_is}
use Rattle.mlir_attributes.proofs.kept_text.used_at.Goals as goal

pub returns : goal.returns
returns c =
    let len = rw take_rest at c.suffix_len-len.ensures.value in
    let may = rw take_rest at c.may_be_used.ensures in
    let test = c.if-not-may_be_used.false in
    let mark = c.is_mark.ensures in
    let is = c.find_text.ensures in
    used_is c.args.aliases.now c.args.text.now c.suffix_len-len.result _ c.in-len1-up.len_at_least (sym mark ∙ c.if-not-is_mark.false) len (sym may ∙ test) is
