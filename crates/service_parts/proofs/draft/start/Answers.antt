use Rattle.service_parts.proofs.DraftLemmas.{nothing_drafted}
use Rattle.service_parts.proofs.draft.start.Goals as goal

pub returns : goal.returns
returns c s = nothing_drafted s c.new.result.items c.none.result.changed.items c.none.result.added.items c.new.ensures.items c.none.ensures.changed c.none.ensures.added
