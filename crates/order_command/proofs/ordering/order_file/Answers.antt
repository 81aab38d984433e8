use Rattle.std.proofs.Common.{refl}
use Rattle.order_command.proofs.Endings.{refused_ends, told_ends}
use Rattle.order_command.proofs.ordering.order_file.Goals as goal

pub returns-in-Ok : goal.returns-in-Ok
returns-in-Ok g c = λ words fit at.
    told_ends words c.args.path.now (g.F.Files.loads c.args.files.now) (g.F.Files.loads c.load_dump.new.files) (g.K.Sink.writes c.args.out.now) (g.K.Sink.writes c.order_of.new.out) c.order_of.result fit at
    (c.in-Ok.ensures.asked (λ e. cc)) c.in-Ok.dump.services c.in-Ok.ensures.dump c.order_of.ensures

pub returns-in-Err-Refused : goal.returns-in-Err-Refused
returns-in-Err-Refused g c = λ words fit at.
    let asked = rw c.in-Err-Refused.field-0-is at c.in-Err-Refused.ensures.asked in
    let refused = rw c.in-Err-Refused.field-0-is at c.in-Err-Refused.ensures.refused in
    refused_ends words c.args.path.now (g.F.Files.loads c.args.files.now) (g.F.Files.loads c.load_dump.new.files) (g.K.Sink.writes c.args.out.now) (g.K.Sink.writes c.refused.new.out) c.refused.result fit at
    (asked (λ e. cc)) c.in-Err-Refused.why (refused c.in-Err-Refused.why refl) c.refused.ensures
