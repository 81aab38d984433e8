use Rattle.ground_tests.proofs.drawn.change.Goals as goal

pub returns-in-1 : goal.returns-in-1
returns-in-1 c = c.take_back.ensures.rising c.args.order.now.labels c.requires.rising
