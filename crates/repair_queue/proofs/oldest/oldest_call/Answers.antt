use Rattle.std.proofs.Common.{◌≡◌, ◌∙◌, Some, sym, ap, map, option_map}
use Rattle.std.specs.Option.{option_copied}
use Rattle.service_events.specs.Flying.{awaited}
use Rattle.repair_queue.specs.Queue.{call_of}
use Rattle.repair_queue.proofs.FirstLemmas.{first_call_is}
use Rattle.repair_queue.proofs.oldest.oldest_call.Goals as goal

pub returns-in-None : goal.returns-in-None
returns-in-None c =
    ap (λ o. option_map call_of (option_copied o)) (sym c.in-None.is)
    ∙ first_call_is (map awaited c.args.flights.now) c.args.dest.now c.args.registers.now.list c.waiting.result.now c.waiting.ensures.numbered c.waiting.ensures.waiting (option_copied c.first_call.result) c.first_call.ensures

pub returns-in-Some : goal.returns-in-Some
returns-in-Some c =
    ap Some c.call_of.ensures
    ∙ ap (λ o. option_map call_of (option_copied o)) (sym c.in-Some.is)
    ∙ first_call_is (map awaited c.args.flights.now) c.args.dest.now c.args.registers.now.list c.waiting.result.now c.waiting.ensures.numbered c.waiting.ensures.waiting (option_copied c.first_call.result) c.first_call.ensures
