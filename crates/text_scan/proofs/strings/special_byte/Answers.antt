use Rattle.std.proofs.Common.{Some, None}
use Rattle.std.proofs.lemmas.List.{take_rest}
use Rattle.memchr.specs.Find.{IsFirstByte, is_byte3}
use Rattle.std.proofs.Common.{drop}
use Rattle.text_scan.proofs.StringLaws.{special_is}
use Rattle.text_scan.proofs.strings.special_byte.Goals as goal

pub returns-in-Some : goal.returns-in-Some
returns-in-Some c =
    let first : IsFirstByte (is_byte3 34 10 92) (drop c.args.from c.args.bytes.now) (Some c.in-Some.plain) = rw (c.in-Some.is, take_rest) at c.memchr3.ensures in
    special_is c.args.bytes.now c.args.from (Some c.in-Some.plain) c.requires first

pub returns-in-None : goal.returns-in-None
returns-in-None c =
    let none : IsFirstByte (is_byte3 34 10 92) (drop c.args.from c.args.bytes.now) None = rw (c.in-None.is, take_rest) at c.memchr3.ensures in
    special_is c.args.bytes.now c.args.from None c.requires none
