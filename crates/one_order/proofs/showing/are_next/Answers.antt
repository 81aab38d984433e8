use Rattle.std.proofs.Common.{ap, sym, ◌∙◌}
use Rattle.one_order.specs.Shown.{next_behind}
use Rattle.one_order.proofs.Neighbours.{next_found}
use Rattle.one_order.proofs.showing.are_next.Goals as goal

pub returns : goal.returns
returns c = c.next_behind.ensures ∙ ap (next_behind c.args.second) c.from_id.ensures ∙ sym (next_found c.args.first c.args.second c.args.service.now c.requires.kept)
