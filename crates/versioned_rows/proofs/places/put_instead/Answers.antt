use Rattle.std.proofs.Common.{sym, ◌∙◌}
use Rattle.versioned_rows.proofs.InsteadLemmas.{instead, instead_rising, instead_indexed}
use Rattle.versioned_rows.proofs.places.put_instead.Goals as goal

pub returns-in-Some-clause-places : goal.returns-in-Some-clause-places
returns-in-Some-clause-places c =
    instead c.args.place c.args.places.now.items c.in-Some.at (sym c.requires.stands ∙ c.in-Some.ensures.stands) c.args.order.now.labels c.requires.rising

pub returns-in-Some-clause-rising : goal.returns-in-Some-clause-rising
returns-in-Some-clause-rising c =
    instead_rising c.args.place c.args.places.now.items c.in-Some.at (sym c.requires.stands ∙ c.in-Some.ensures.stands) c.args.order.now.labels c.requires.rising

pub returns-in-Some-clause-indexed : goal.returns-in-Some-clause-indexed
returns-in-Some-clause-indexed c =
    let keys = rw c.deref.ensures.value at c.in-Some.ensures.keys in
    instead_indexed c.args.place c.args.places.now.items c.in-Some.at (sym c.requires.stands ∙ c.in-Some.ensures.stands) c.args.rows.now.items
    (keys c.args.place) c.requires.writes c.requires.indexed
