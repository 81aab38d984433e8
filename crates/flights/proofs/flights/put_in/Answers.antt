use Rattle.std.proofs.Common.{◌∙◌}
use Rattle.std.proofs.lemmas.Result.{on_ok_weaker}
use Rattle.flights.proofs.NumberLemmas.{with_as_item, rising_put}
use Rattle.flights.proofs.flights.put_in.Goals as goal

pub returns-clause-ok : goal.returns-clause-ok
returns-clause-ok c = on_ok_weaker c.put.result (λ e. e ∙ with_as_item c.args.flight c.args.list.now.list) c.put.ensures.ok

pub returns-clause-rising : goal.returns-clause-rising
returns-clause-rising c =
    rising_put c.put.result c.args.flight c.args.list.now.list c.put.new.self.list c.put.ensures.ok c.put.ensures.err c.requires.from c.requires.rising
