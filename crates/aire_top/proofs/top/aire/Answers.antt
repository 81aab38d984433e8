use Rattle.std.proofs.Common.{map, subst, sym, ◌∙◌}
use Rattle.std.specs.String.{string_bytes}
use Rattle.aire_top.specs.Commands.{command_of}
use Rattle.aire_top.specs.Ended.{faults, whose}
use Rattle.aire_top.specs.Endings.{outside}
use Rattle.aire_top.specs.Serving.{ServingEnds}
use Rattle.aire_top.specs.declared.words.Command.TheVariants.{Audit, Order, Serve}
use Rattle.aire_top.proofs.Commands.{command_well, command_whole, ends_as, ends_make, ends_run}
use Rattle.aire_top.proofs.ServingLaws.{if_verdict, serving_allowed, serving_legal}
use Rattle.aire_top.proofs.top.aire.Goals as goal

pub returns-in-Run-clause-ends : goal.returns-in-Run-clause-ends
returns-in-Run-clause-ends g c =
    let words = map string_bytes c.args.words.now in
    let earlier = faults (g.D.Door.faults c.args.doors.now) (g.P.Spawner.faults c.args.spawner.now) in
    let before = outside (g.F.Files.loads c.args.files.now) (g.S.Source.reads c.args.input.now) (g.K.Sink.writes c.args.out.now) in
    let now = outside (g.F.Files.loads c.offline.new.files) (g.S.Source.reads c.offline.new.input) (g.K.Sink.writes c.offline.new.out) in
    ends_run words (sym c.command_of.ensures ∙ c.in-Run.is) earlier earlier before now _ c.offline.ensures.ends

pub returns-in-Run-clause-complete : goal.returns-in-Run-clause-complete
returns-in-Run-clause-complete g c = λ good.
    let words = map string_bytes c.args.words.now in
    let earlier = faults (g.D.Door.faults c.args.doors.now) (g.P.Spawner.faults c.args.spawner.now) in
    let before = outside (g.F.Files.loads c.args.files.now) (g.S.Source.reads c.args.input.now) (g.K.Sink.writes c.args.out.now) in
    let now = outside (g.F.Files.loads c.offline.new.files) (g.S.Source.reads c.offline.new.input) (g.K.Sink.writes c.offline.new.out) in
    command_well words earlier earlier before now _ good (ends_run words (sym c.command_of.ensures ∙ c.in-Run.is) earlier earlier before now _ c.offline.ensures.ends)

pub returns-in-Run-clause-receipts : goal.returns-in-Run-clause-receipts
returns-in-Run-clause-receipts g c =
    let words = map string_bytes c.args.words.now in
    let earlier = faults (g.D.Door.faults c.args.doors.now) (g.P.Spawner.faults c.args.spawner.now) in
    let before = outside (g.F.Files.loads c.args.files.now) (g.S.Source.reads c.args.input.now) (g.K.Sink.writes c.args.out.now) in
    let now = outside (g.F.Files.loads c.offline.new.files) (g.S.Source.reads c.offline.new.input) (g.K.Sink.writes c.offline.new.out) in
    command_whole words earlier earlier before now _ _ _ _ _ (λ l. whose l.service l.console) (ends_run words (sym c.command_of.ensures ∙ c.in-Run.is) earlier earlier before now _ c.offline.ensures.ends)

pub returns-in-Make-clause-ends : goal.returns-in-Make-clause-ends
returns-in-Make-clause-ends g c =
    let words = map string_bytes c.args.words.now in
    let earlier = faults (g.D.Door.faults c.args.doors.now) (g.P.Spawner.faults c.args.spawner.now) in
    let before = outside (g.F.Files.loads c.args.files.now) (g.S.Source.reads c.args.input.now) (g.K.Sink.writes c.args.out.now) in
    let now = outside (g.F.Files.loads c.offline-in-Make.new.files) (g.S.Source.reads c.offline-in-Make.new.input) (g.K.Sink.writes c.offline-in-Make.new.out) in
    ends_make words (sym c.command_of.ensures ∙ c.in-Make.is) earlier earlier before now _ c.offline-in-Make.ensures.ends

pub returns-in-Make-clause-complete : goal.returns-in-Make-clause-complete
returns-in-Make-clause-complete g c = λ good.
    let words = map string_bytes c.args.words.now in
    let earlier = faults (g.D.Door.faults c.args.doors.now) (g.P.Spawner.faults c.args.spawner.now) in
    let before = outside (g.F.Files.loads c.args.files.now) (g.S.Source.reads c.args.input.now) (g.K.Sink.writes c.args.out.now) in
    let now = outside (g.F.Files.loads c.offline-in-Make.new.files) (g.S.Source.reads c.offline-in-Make.new.input) (g.K.Sink.writes c.offline-in-Make.new.out) in
    command_well words earlier earlier before now _ good (ends_make words (sym c.command_of.ensures ∙ c.in-Make.is) earlier earlier before now _ c.offline-in-Make.ensures.ends)

pub returns-in-Make-clause-receipts : goal.returns-in-Make-clause-receipts
returns-in-Make-clause-receipts g c =
    let words = map string_bytes c.args.words.now in
    let earlier = faults (g.D.Door.faults c.args.doors.now) (g.P.Spawner.faults c.args.spawner.now) in
    let before = outside (g.F.Files.loads c.args.files.now) (g.S.Source.reads c.args.input.now) (g.K.Sink.writes c.args.out.now) in
    let now = outside (g.F.Files.loads c.offline-in-Make.new.files) (g.S.Source.reads c.offline-in-Make.new.input) (g.K.Sink.writes c.offline-in-Make.new.out) in
    command_whole words earlier earlier before now _ _ _ _ _ (λ l. whose l.service l.console) (ends_make words (sym c.command_of.ensures ∙ c.in-Make.is) earlier earlier before now _ c.offline-in-Make.ensures.ends)

pub returns-in-Audit-clause-ends : goal.returns-in-Audit-clause-ends
returns-in-Audit-clause-ends g c =
    let words = map string_bytes c.args.words.now in
    let earlier = faults (g.D.Door.faults c.args.doors.now) (g.P.Spawner.faults c.args.spawner.now) in
    let before = outside (g.F.Files.loads c.args.files.now) (g.S.Source.reads c.args.input.now) (g.K.Sink.writes c.args.out.now) in
    let now = outside (g.F.Files.loads c.audited.new.files) (g.S.Source.reads c.args.input.now) (g.K.Sink.writes c.audited.new.out) in
    ends_as (command_of words) Audit (sym c.command_of.ensures ∙ c.in-Audit.is) words earlier earlier before now _ (c.audited.ensures.ends (g.S.Source.reads c.args.input.now))

pub returns-in-Audit-clause-complete : goal.returns-in-Audit-clause-complete
returns-in-Audit-clause-complete g c = λ good.
    let words = map string_bytes c.args.words.now in
    let earlier = faults (g.D.Door.faults c.args.doors.now) (g.P.Spawner.faults c.args.spawner.now) in
    let before = outside (g.F.Files.loads c.args.files.now) (g.S.Source.reads c.args.input.now) (g.K.Sink.writes c.args.out.now) in
    let now = outside (g.F.Files.loads c.audited.new.files) (g.S.Source.reads c.args.input.now) (g.K.Sink.writes c.audited.new.out) in
    command_well words earlier earlier before now _ good (ends_as (command_of words) Audit (sym c.command_of.ensures ∙ c.in-Audit.is) words earlier earlier before now _ (c.audited.ensures.ends (g.S.Source.reads c.args.input.now)))

pub returns-in-Audit-clause-receipts : goal.returns-in-Audit-clause-receipts
returns-in-Audit-clause-receipts g c =
    let words = map string_bytes c.args.words.now in
    let earlier = faults (g.D.Door.faults c.args.doors.now) (g.P.Spawner.faults c.args.spawner.now) in
    let before = outside (g.F.Files.loads c.args.files.now) (g.S.Source.reads c.args.input.now) (g.K.Sink.writes c.args.out.now) in
    let now = outside (g.F.Files.loads c.audited.new.files) (g.S.Source.reads c.args.input.now) (g.K.Sink.writes c.audited.new.out) in
    command_whole words earlier earlier before now _ _ _ _ _ (λ l. whose l.service l.console) (ends_as (command_of words) Audit (sym c.command_of.ensures ∙ c.in-Audit.is) words earlier earlier before now _ (c.audited.ensures.ends (g.S.Source.reads c.args.input.now)))

pub returns-in-Order-clause-ends : goal.returns-in-Order-clause-ends
returns-in-Order-clause-ends g c =
    let words = map string_bytes c.args.words.now in
    let earlier = faults (g.D.Door.faults c.args.doors.now) (g.P.Spawner.faults c.args.spawner.now) in
    let before = outside (g.F.Files.loads c.args.files.now) (g.S.Source.reads c.args.input.now) (g.K.Sink.writes c.args.out.now) in
    let now = outside (g.F.Files.loads c.ordered.new.files) (g.S.Source.reads c.args.input.now) (g.K.Sink.writes c.ordered.new.out) in
    ends_as (command_of words) Order (sym c.command_of.ensures ∙ c.in-Order.is) words earlier earlier before now _ (c.ordered.ensures.ends (g.S.Source.reads c.args.input.now))

pub returns-in-Order-clause-complete : goal.returns-in-Order-clause-complete
returns-in-Order-clause-complete g c = λ good.
    let words = map string_bytes c.args.words.now in
    let earlier = faults (g.D.Door.faults c.args.doors.now) (g.P.Spawner.faults c.args.spawner.now) in
    let before = outside (g.F.Files.loads c.args.files.now) (g.S.Source.reads c.args.input.now) (g.K.Sink.writes c.args.out.now) in
    let now = outside (g.F.Files.loads c.ordered.new.files) (g.S.Source.reads c.args.input.now) (g.K.Sink.writes c.ordered.new.out) in
    command_well words earlier earlier before now _ good (ends_as (command_of words) Order (sym c.command_of.ensures ∙ c.in-Order.is) words earlier earlier before now _ (c.ordered.ensures.ends (g.S.Source.reads c.args.input.now)))

pub returns-in-Order-clause-receipts : goal.returns-in-Order-clause-receipts
returns-in-Order-clause-receipts g c =
    let words = map string_bytes c.args.words.now in
    let earlier = faults (g.D.Door.faults c.args.doors.now) (g.P.Spawner.faults c.args.spawner.now) in
    let before = outside (g.F.Files.loads c.args.files.now) (g.S.Source.reads c.args.input.now) (g.K.Sink.writes c.args.out.now) in
    let now = outside (g.F.Files.loads c.ordered.new.files) (g.S.Source.reads c.args.input.now) (g.K.Sink.writes c.ordered.new.out) in
    command_whole words earlier earlier before now _ _ _ _ _ (λ l. whose l.service l.console) (ends_as (command_of words) Order (sym c.command_of.ensures ∙ c.in-Order.is) words earlier earlier before now _ (c.ordered.ensures.ends (g.S.Source.reads c.args.input.now)))

pub returns-in-Serve-clause-ends : goal.returns-in-Serve-clause-ends
returns-in-Serve-clause-ends g c =
    let words = map string_bytes c.args.words.now in
    let earlier = faults (g.D.Door.faults c.args.doors.now) (g.P.Spawner.faults c.args.spawner.now) in
    let later = faults (g.D.Door.faults c.served.new.doors) (g.P.Spawner.faults c.served.new.spawner) in
    let before = outside (g.F.Files.loads c.args.files.now) (g.S.Source.reads c.args.input.now) (g.K.Sink.writes c.args.out.now) in
    let now = outside (g.F.Files.loads c.served.new.files) (g.S.Source.reads c.args.input.now) (g.K.Sink.writes c.served.new.out) in
    ends_as (command_of words) Serve (sym c.command_of.ensures ∙ c.in-Serve.is) words earlier later before now _ (subst (ServingEnds words earlier later before now) (sym c.looked_at.ensures.same) (c.served.ensures (g.S.Source.reads c.args.input.now)))

pub returns-in-Serve-clause-complete : goal.returns-in-Serve-clause-complete
returns-in-Serve-clause-complete g c = λ good.
    let words = map string_bytes c.args.words.now in
    let earlier = faults (g.D.Door.faults c.args.doors.now) (g.P.Spawner.faults c.args.spawner.now) in
    let later = faults (g.D.Door.faults c.served.new.doors) (g.P.Spawner.faults c.served.new.spawner) in
    let before = outside (g.F.Files.loads c.args.files.now) (g.S.Source.reads c.args.input.now) (g.K.Sink.writes c.args.out.now) in
    let now = outside (g.F.Files.loads c.served.new.files) (g.S.Source.reads c.args.input.now) (g.K.Sink.writes c.served.new.out) in
    command_well words earlier later before now _ good (ends_as (command_of words) Serve (sym c.command_of.ensures ∙ c.in-Serve.is) words earlier later before now _ (subst (ServingEnds words earlier later before now) (sym c.looked_at.ensures.same) (c.served.ensures (g.S.Source.reads c.args.input.now))))

pub returns-in-Serve-clause-receipts : goal.returns-in-Serve-clause-receipts
returns-in-Serve-clause-receipts g c =
    let words = map string_bytes c.args.words.now in
    let earlier = faults (g.D.Door.faults c.args.doors.now) (g.P.Spawner.faults c.args.spawner.now) in
    let later = faults (g.D.Door.faults c.served.new.doors) (g.P.Spawner.faults c.served.new.spawner) in
    let before = outside (g.F.Files.loads c.args.files.now) (g.S.Source.reads c.args.input.now) (g.K.Sink.writes c.args.out.now) in
    let now = outside (g.F.Files.loads c.served.new.files) (g.S.Source.reads c.args.input.now) (g.K.Sink.writes c.served.new.out) in
    command_whole words earlier later before now _ _ _ _ _ (λ l. whose l.service l.console) (ends_as (command_of words) Serve (sym c.command_of.ensures ∙ c.in-Serve.is) words earlier later before now _ (subst (ServingEnds words earlier later before now) (sym c.looked_at.ensures.same) (c.served.ensures (g.S.Source.reads c.args.input.now))))

pub returns-in-Serve-clause-legal : goal.returns-in-Serve-clause-legal
returns-in-Serve-clause-legal g c =
    let words = map string_bytes c.args.words.now in
    let earlier = faults (g.D.Door.faults c.args.doors.now) (g.P.Spawner.faults c.args.spawner.now) in
    let later = faults (g.D.Door.faults c.served.new.doors) (g.P.Spawner.faults c.served.new.spawner) in
    let before = outside (g.F.Files.loads c.args.files.now) (g.S.Source.reads c.args.input.now) (g.K.Sink.writes c.args.out.now) in
    let now = outside (g.F.Files.loads c.served.new.files) (g.S.Source.reads c.args.input.now) (g.K.Sink.writes c.served.new.out) in
    serving_legal words earlier later before now _ (subst (ServingEnds words earlier later before now) (sym c.looked_at.ensures.same) (c.served.ensures (g.S.Source.reads c.args.input.now)))

pub returns-in-Serve-clause-joined : goal.returns-in-Serve-clause-joined
returns-in-Serve-clause-joined g c = λ other. absurd (other (sym c.command_of.ensures ∙ c.in-Serve.is))

pub returns-in-Serve-clause-allowed : goal.returns-in-Serve-clause-allowed
returns-in-Serve-clause-allowed g c =
    let words = map string_bytes c.args.words.now in
    let earlier = faults (g.D.Door.faults c.args.doors.now) (g.P.Spawner.faults c.args.spawner.now) in
    let later = faults (g.D.Door.faults c.served.new.doors) (g.P.Spawner.faults c.served.new.spawner) in
    let before = outside (g.F.Files.loads c.args.files.now) (g.S.Source.reads c.args.input.now) (g.K.Sink.writes c.args.out.now) in
    let now = outside (g.F.Files.loads c.served.new.files) (g.S.Source.reads c.args.input.now) (g.K.Sink.writes c.served.new.out) in
    if_verdict _ _ (λ v is. serving_allowed words earlier later before now _ (subst (ServingEnds words earlier later before now) (sym c.looked_at.ensures.same) (c.served.ensures (g.S.Source.reads c.args.input.now))) v is)
