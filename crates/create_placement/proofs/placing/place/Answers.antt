use Rattle.create_placement.proofs.Placed.{is_placed}
use Rattle.create_placement.proofs.placing.place.Goals as goal

pub returns-clause-stands : goal.returns-clause-stands
returns-clause-stands c = is_placed c.args.before c.args.after c.args.log.now.folded c.args.log.now.entries _ c.place_among.ensures.place
