use Rattle.std.proofs.Common.{◌≡◌, ◌≤◌, length, length-drop, drop, arith}
use Rattle.std.specs.List.{prefix_len}
use Rattle.std.proofs.lemmas.List.{take_rest}
use Rattle.byte_lanes.specs.Bytes.{is_in}
use Rattle.byte_lanes.proofs.Runs.{run_is}
use Rattle.byte_lanes.proofs.scan.run_len.Goals as goal

pub returns-clause-run : goal.returns-clause-run
returns-clause-run c =
    let xs = c.args.bytes.now in
    let is : c.front_run.result ≡ prefix_len (is_in c.args.class) (drop c.args.from xs) = rw take_rest at c.front_run.ensures.value in
    let fits : c.front_run.result ≤ length (drop c.args.from xs) = rw take_rest at c.front_run.ensures.within in
    run_is (is_in c.args.class) xs c.args.from c.front_run.result (omega (arith, fits, length-drop c.args.from xs)) is
