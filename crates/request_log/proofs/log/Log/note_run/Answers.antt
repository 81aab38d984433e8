use Rattle.std.proofs.Common.{refl}
use Rattle.request_log.specs.Entries.{with_run}
use Rattle.request_log.proofs.EntryLemmas.{log-note}
use Rattle.request_log.proofs.log.Log.note_run.Goals as goal

pub invariant_of-self : goal.invariant_of-self
invariant_of-self c =
    rw c.note_run.ensures (log-note c.args.self.now c.self.inside.folded c.self.inside.items.items c.self.inside.numbers.keys c.self.inside.origins.keys c.args.place c.index_mut.result.now
    (with_run c.args.made c.args.slots c.args.answer_version c.args.runs c.index_mut.result.now) c.self.view_is c.requires c.index_mut.ensures.value refl refl c.self.invariant)
