use Rattle.wire_bytes.proofs.Heads.{host_carries}
use Rattle.wire_bytes.proofs.doors.add_host.Goals as goal

pub returns-in_err-value-clause-carries : goal.returns-in_err-value-clause-carries
returns-in_err-value-clause-carries c = host_carries c.args.address.now c.args.request.now

pub returns-clause-carries : goal.returns-clause-carries
returns-clause-carries c = host_carries c.args.address.now c.args.request.now
