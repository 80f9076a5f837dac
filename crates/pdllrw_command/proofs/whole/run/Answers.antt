use Rattle.std.proofs.Common.{◌≡◌, ℕ, List, Option, map, Err, string_bytes, refl, sym, ap, subst}
use Rattle.std.specs.Prelude.{IfSome}
use Rattle.mlir_print.specs.ModuleText.{module_text}
use Rattle.run_model.specs.LogText.{log_text}
use Rattle.rewrite_model.specs.Expanding.{patterns}
use Rattle.greedy_driver.specs.Course.{course_of}
use Rattle.pdllrw_command.specs.Accepted.{AcceptsPatterns, AcceptsModule}
use Rattle.rewrite_model.specs.declared.run.Order.TheVariants.{First}
use Rattle.pdllrw_command.specs.Outcome.{Command, Rewrites}
use Rattle.pdllrw_command.proofs.Outcomes.{refused_words, stopped, patterns_stop, module_stops, shown, stops_since}
use Rattle.pdllrw_command.proofs.whole.run.Goals as goal

pub returns-in-Err-Usage : goal.returns-in-Err-Usage
returns-in-Err-Usage g c =
    refused_words _ _ _ c.placeless.result.place c.placeless.result.status c.refuse.result c.placeless.ensures.status (c.in-Err-Usage.ensures.usage (ap Err c.in-Err-Usage.field-0-is)) refl c.refuse.ensures.tells

pub returns-in-Err : goal.returns-in-Err
returns-in-Err g c =
    let stop = c.in-Err.ensures.stopped in
    let asked = c.in-Ok.command in
    let command : Command (map string_bytes c.args.words.now) = record { bound = asked.bound; patterns = asked.patterns.now; module_file = asked.module_file.now; is_command = sym c.in-Ok.ensures.found } in
    stopped _ _ _ c.in-Err.stop.place c.in-Err.stop.status c.refuse-in-Err.result (patterns_stop _ _ _ command c.in-Err.stop.place c.in-Err.stop.status stop) refl c.refuse-in-Err.ensures.tells c.refuse-in-Err.ensures.silent

pub returns-in-Err-read_module : goal.returns-in-Err-read_module
returns-in-Err-read_module g c =
    let stop = c.in-Err-read_module.ensures.stopped in
    let asked = c.in-Ok.command in
    let name = asked.module_file.now in
    let file = c.in-Ok-read_patterns.typed.file in
    let found : IfSome (g.H.Host.file c.args.host.now asked.patterns.now) (AcceptsPatterns file) = c.in-Ok-read_patterns.ensures.found in
    let command : Command (map string_bytes c.args.words.now) = record { bound = asked.bound; patterns = asked.patterns.now; module_file = name; is_command = sym c.in-Ok.ensures.found } in
    let since = stops_since (g.H.Host.file c.args.host.now name) (g.H.Host.file c.read_patterns.new.host name) (g.H.Host.faults c.args.host.now name) (g.H.Host.faults c.read_patterns.new.host name) (g.H.Host.faults c.read_module.new.host name)
    c.in-Err-read_module.stop.place c.in-Err-read_module.stop.status (c.read_patterns.ensures.files name) (c.read_patterns.ensures.never_falls name) stop in
    stopped _ _ _ c.in-Err-read_module.stop.place c.in-Err-read_module.stop.status c.refuse-in-Err-read_module.result (module_stops _ _ _ command file found c.in-Err-read_module.stop.place c.in-Err-read_module.stop.status since) refl
    c.refuse-in-Err-read_module.ensures.tells c.refuse-in-Err-read_module.ensures.silent

pub returns : goal.returns
returns g c =
    let asked = c.in-Ok.command in
    let name = asked.module_file.now in
    let file = c.in-Ok-read_patterns.typed.file in
    let rows = c.in-Ok-read_module.rows in
    let run = c.in-Ok-drive_rows.run' in
    let left = c.drive_rows.new.rows in
    let found : IfSome (g.H.Host.file c.args.host.now asked.patterns.now) (AcceptsPatterns file) = c.in-Ok-read_patterns.ensures.found in
    let found_later : IfSome (g.H.Host.file c.read_patterns.new.host name) (AcceptsModule rows) = c.in-Ok-read_module.ensures.found in
    let same_file : g.H.Host.file c.read_patterns.new.host name ≡ g.H.Host.file c.args.host.now name = c.read_patterns.ensures.files name in
    let is_module : IfSome (g.H.Host.file c.args.host.now name) (AcceptsModule rows) = subst (λ (o : Option (List ℕ)). IfSome o (AcceptsModule rows)) same_file found_later in
    let out = module_text left.rows in
    let log = log_text run.taken run.ending in
    let rewrites : Rewrites (g.H.Host.file c.args.host.now) (map string_bytes c.args.words.now) run.ending out log = record {
      command = record { bound = asked.bound; patterns = asked.patterns.now; module_file = name; is_command = sym c.in-Ok.ensures.found };
      file = file;
      are_patterns = found;
      rows = rows;
      is_module = is_module;
      course = course_of run left;
      runs = c.in-Ok-drive_rows.ensures.run;
      well_formed = λ m reached. c.runs_keep_well_formed.ensures First (patterns file) asked.bound rows m c.in-Ok-read_module.ensures.well_formed reached;
      ends = refl;
      out_is = refl;
      log_is = refl;
    } in
    shown _ _ _ run.ending out log c.show.result rewrites c.show.ensures
