use Rattle.std.proofs.Common.{map, ap, ◌∙◌}
use Rattle.aire_wire.proofs.GoodHeads.{all_names}
use Rattle.aire_wire.proofs.texts.names_in.Goals as goal

pub names_of-requires : goal.names_of-requires
names_of-requires c = all_names (λ x. x.now) c.deref.result.now c.args.chain.now (ap (map (λ x. x.now)) c.deref.ensures.value ∙ c.in_ok-pieces.ensures) c.requires
