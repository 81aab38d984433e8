use Rattle.std.proofs.Common.{map, refl, sym, ◌∙◌}
use Rattle.std.specs.String.{string_bytes}
use Rattle.aire_top.specs.Commands.{offline_command}
use Rattle.aire_top.specs.Endings.{outside}
use Rattle.aire_top.specs.Top.{words_of}
use Rattle.aire_top.specs.declared.words.Command.TheVariants.{Make, Run}
use Rattle.aire_top.proofs.Commands.{answers_as, offline_make, offline_run}
use Rattle.aire_top.proofs.Runs.{not_fitting, run_fits}
use Rattle.aire_top.proofs.top.done.Goals as goal

pub returns-then-is_make : goal.returns-then-is_make
returns-then-is_make g c =
    let words = map string_bytes c.args.words.now in
    let before = outside (g.F.Files.loads c.args.files.now) (g.S.Source.reads c.args.input.now) (g.K.Sink.writes c.args.out.now) in
    let now = outside (g.F.Files.loads c.args.files.now) (g.S.Source.reads c.args.input.now) (g.K.Sink.writes c.make.new.out) in
    answers_as (offline_command words) Make (offline_make words (sym c.is_make.ensures ∙ c.if-is_make.true)) words before now _ (record { ended = c.make.ensures; files = refl; input = refl })

pub returns-in-Ok : goal.returns-in-Ok
returns-in-Ok g c =
    let words = map string_bytes c.args.words.now in
    let before = outside (g.F.Files.loads c.args.files.now) (g.S.Source.reads c.args.input.now) (g.K.Sink.writes c.args.out.now) in
    let now = outside (g.F.Files.loads c.run.new.files) (g.S.Source.reads c.run.new.input) (g.K.Sink.writes c.run.new.out) in
    answers_as (offline_command words) Run (offline_run words (sym c.is_make.ensures ∙ c.if-is_make.false)) words before now _
    (run_fits words _ _ before now _ c.in-Ok.ensures.fit c.in-Ok.ensures.world c.in-Ok.ensures.script c.run.ensures)

pub returns-in-Err : goal.returns-in-Err
returns-in-Err g c =
    let words = map string_bytes c.args.words.now in
    let before = outside (g.F.Files.loads c.args.files.now) (g.S.Source.reads c.args.input.now) (g.K.Sink.writes c.args.out.now) in
    let now = outside (g.F.Files.loads c.args.files.now) (g.S.Source.reads c.args.input.now) (g.K.Sink.writes c.misused.new.out) in
    answers_as (offline_command words) Run (offline_run words (sym c.is_make.ensures ∙ c.if-is_make.false)) words before now _
    (not_fitting (words_of words) c.in-Err.place (g.F.Files.loads c.args.files.now) (g.S.Source.reads c.args.input.now) (g.K.Sink.writes c.args.out.now) (g.K.Sink.writes c.misused.new.out) _ c.in-Err.ensures.misfit c.misused.ensures)
