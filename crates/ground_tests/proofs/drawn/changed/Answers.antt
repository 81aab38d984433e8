use Rattle.ground_tests.proofs.drawn.changed.Goals as goal

pub change-requires-clause-label : goal.change-requires-clause-label
change-requires-clause-label c = c.label_at.ensures c.args.order.now.labels c.requires.known c.in-Some.label c.in-Some.is
