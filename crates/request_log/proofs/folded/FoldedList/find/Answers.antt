use Rattle.std.proofs.Common.{◌∙◌, ap, option_and_then, slice_get}
use Rattle.request_log.specs.Folded.{has_number}
use Rattle.request_log.proofs.FoldedLemmas.{found_there}
use Rattle.request_log.proofs.folded.FoldedList.find.Goals as goal

pub returns : goal.returns
returns c =
    let passes = has_number c.args.id in
    let folded = c.args.self.now in
    c.found.ensures ∙ ap (option_and_then (slice_get folded)) c.place_of.ensures ∙ found_there passes folded
