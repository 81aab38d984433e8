use Rattle.aire_wire.proofs.BytesBack.{call_bytes}
use Rattle.aire_wire.proofs.FieldsRead.{of_result}
use Rattle.aire_wire.proofs.ReadCalls.{call_from}
use Rattle.aire_wire.specs.ReadBack.{CallBytesReadBack, CallReadsBack}
use Rattle.aire_wire.specs.Written.{call_asking}
use Rattle.aire_wire.proofs.outgoing.write_call.Goals as goal

pub returns-in-Some-clause-reads_back : goal.returns-in-Some-clause-reads_back
returns-in-Some-clause-reads_back c =
    of_result c.call_asking.result (call_asking c.args.set.now c.args.notifier.now c.args.secret.now c.in-Some.request)
    (CallReadsBack c.args.set.now c.args.notifier.now c.args.secret.now) c.call_asking.ensures
    (call_from c.args.set.now c.args.notifier.now c.args.secret.now c.in-Some.request c.in-Some.is)

pub returns-in-Some-clause-bytes_read_back : goal.returns-in-Some-clause-bytes_read_back
returns-in-Some-clause-bytes_read_back c =
    of_result c.call_asking.result (call_asking c.args.set.now c.args.notifier.now c.args.secret.now c.in-Some.request)
    (CallBytesReadBack c.args.set.now c.args.notifier.now c.args.secret.now) c.call_asking.ensures
    (call_bytes c.args.set.now c.args.notifier.now c.args.secret.now c.in-Some.request c.in-Some.is c.set_text.ensures)
