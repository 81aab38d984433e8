use Rattle.std.proofs.Common.{◌≡◌, rules}
use Rattle.request_names.proofs.IdLemmas.{reads_back}
use Rattle.request_names.specs.Ids.{id_text}
use Rattle.request_names.proofs.ids.print_id.Goals as goal

pub returns-clause-reads_back : goal.returns-clause-reads_back
returns-clause-reads_back c =
    let text : c.in_ok-shared.field-0 ≡ id_text c.args.service.now c.args.number = search rules in
    λ positive. rw text (reads_back c.args.service.now c.args.number c.text.ensures.name positive c.ranges.number.fits)
