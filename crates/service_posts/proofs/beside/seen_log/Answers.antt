use Rattle.std.proofs.Common.{◌∙◌, ap, fold}
use Rattle.service_posts.specs.Walks.{seen_each}
use Rattle.service_posts.proofs.WalkLemmas.{log_walk, start_walk}
use Rattle.request_log.specs.declared.entry.Entry.{Entry}
use Rattle.request_log.specs.declared.folded.Folded.{Folded}
use Rattle.service_posts.proofs.beside.seen_log.Goals as goal

pub returns : goal.returns
returns c =
    let registers = c.args.registers.now.list in
    let dest = c.args.dest.now in
    log_walk registers dest c.args.of c.args.log.now.folded c.args.log.now.entries c.seen_all-past.result c.seen_all.result
    (c.seen_all-past.ensures ∙ ap (fold (seen_each (λ (f : Folded). f.slots) registers dest c.args.of) start_walk) (c.as_slice-folded.ensures ∙ c.folded.ensures))
    (c.seen_all.ensures ∙ ap (fold (seen_each (λ (e : Entry). e.slots) registers dest c.args.of) c.seen_all-past.result) c.as_slice-entries.ensures.entries)
