use Rattle.ground_tests.proofs.drawn.compared.Goals as goal

pub agree-requires-clause-label : goal.agree-requires-clause-label
agree-requires-clause-label c = c.label_at-label.ensures c.args.order.now.labels c.requires.known
