use Rattle.std.proofs.Common.{map}
use Rattle.std.specs.String.{string_bytes}
use Rattle.aire_top.specs.Endings.{answer_in, outside}
use Rattle.aire_top.proofs.Commands.{offline_well}
use Rattle.aire_top.proofs.top.offline.Goals as goal

pub returns-clause-ends : goal.returns-clause-ends
returns-clause-ends g c = (answer_in c.done.result.status c.done.result.world, c.closed.ensures.ends, c.done.ensures)

pub returns-clause-complete : goal.returns-clause-complete
returns-clause-complete g c = λ good.
    let words = map string_bytes c.args.words.now in
    let before = outside (g.F.Files.loads c.args.files.now) (g.S.Source.reads c.args.input.now) (g.K.Sink.writes c.args.out.now) in
    let now = outside (g.F.Files.loads c.done.new.files) (g.S.Source.reads c.done.new.input) (g.K.Sink.writes c.done.new.out) in
    offline_well words before now _ good (answer_in c.done.result.status c.done.result.world, c.closed.ensures.ends, c.done.ensures)
