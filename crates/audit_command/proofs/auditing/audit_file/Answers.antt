use Rattle.std.proofs.Common.{refl}
use Rattle.audit_command.proofs.Endings.{refused_ends, told_ends}
use Rattle.audit_command.proofs.auditing.audit_file.Goals as goal

pub returns-in-Ok-judge_beside : goal.returns-in-Ok-judge_beside
returns-in-Ok-judge_beside g c = λ words fit at.
    told_ends words c.args.path.now (g.F.Files.loads c.args.files.now) (g.F.Files.loads c.load_dump.new.files) (g.K.Sink.writes c.args.out.now) (g.K.Sink.writes c.told.new.out) c.told.result fit at
    (c.in-Ok.ensures.asked (λ e. cc)) c.in-Ok.dump.services c.in-Ok-judge_beside.judged c.in-Ok.ensures.dump c.in-Ok-judge_beside.ensures.exact c.told.ensures

pub returns : goal.returns
returns g c = λ words fit at.
    let asked = rw c.in-Err-Refused.field-0-is at c.in-Err-Refused.ensures.asked in
    let refused = rw c.in-Err-Refused.field-0-is at c.in-Err-Refused.ensures.refused in
    refused_ends words c.args.path.now (g.F.Files.loads c.args.files.now) (g.F.Files.loads c.load_dump.new.files) (g.K.Sink.writes c.args.out.now) (g.K.Sink.writes c.refused.new.out) c.refused.result fit at
    (asked (λ e. cc)) c.in-Err-Refused.why (refused c.in-Err-Refused.why refl) c.refused.ensures
