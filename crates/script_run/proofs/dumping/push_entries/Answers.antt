use Rattle.std.proofs.Common.{string_bytes}
use Rattle.service_events.specs.State.{answers}
use Rattle.dump_lines.specs.Dumps.{entry_lines}
use Rattle.script_run.proofs.DumpLemmas.{all_lines}
use Rattle.script_run.proofs.dumping.push_entries.Goals as goal

pub returns : goal.returns
returns c =
    let s = c.args.service.now in
    all_lines (entry_lines (answers s)) s.horizon s.entries (string_bytes c.args.text.now) (string_bytes c.push_all_folded.new.text)
    (string_bytes c.push_unfolded.new.text) c.push_unfolded.result c.in_ok-push_all_folded.ensures c.push_unfolded.ensures
