use Rattle.std.proofs.Common.{List, ◌∙◌, ap, sym, nat_eq}
use Rattle.std.specs.List.{list_any}
use Rattle.flights.specs.declared.flight.Flight.{Flight}
use Rattle.repair_queue.proofs.FoldLemmas.{any_map}
use Rattle.service_events.specs.Flying.{awaited}
use Rattle.preview_core.proofs.posts.is_awaited.Goals as goal

pub returns : goal.returns
returns c =
    c.awaits.ensures
    ∙ ap (λ (fs : List Flight). list_any (λ (f : Flight). nat_eq c.args.number (awaited f)) fs) (c.as_slice.ensures.list ∙ c.flights.ensures)
    ∙ sym (any_map (nat_eq c.args.number) awaited c.args.service.now.flights)
