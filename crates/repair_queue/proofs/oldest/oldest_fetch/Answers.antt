use Rattle.std.proofs.Common.{◌≡◌, ◌∙◌, Some, sym, ap, option_map}
use Rattle.std.specs.Option.{option_copied}
use Rattle.repair_queue.specs.Queue.{fetch_of}
use Rattle.repair_queue.proofs.FirstLemmas.{first_fetch_is}
use Rattle.repair_queue.proofs.oldest.oldest_fetch.Goals as goal

pub returns-in-None : goal.returns-in-None
returns-in-None c =
    ap (λ o. option_map fetch_of (option_copied o)) (sym c.in-None.is)
    ∙ first_fetch_is c.args.dest.now c.args.registers.now.list c.fetched.result.now c.fetched.ensures.numbered c.fetched.ensures.fetched (option_copied c.first_fetch.result) c.first_fetch.ensures

pub returns-in-Some : goal.returns-in-Some
returns-in-Some c =
    ap Some c.fetch_of.ensures
    ∙ ap (λ o. option_map fetch_of (option_copied o)) (sym c.in-Some.is)
    ∙ first_fetch_is c.args.dest.now c.args.registers.now.list c.fetched.result.now c.fetched.ensures.numbered c.fetched.ensures.fetched (option_copied c.first_fetch.result) c.first_fetch.ensures
