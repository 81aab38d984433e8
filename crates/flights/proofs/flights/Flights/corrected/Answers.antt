use Rattle.std.proofs.Common.{List, map, sym, ap, ◌∙◌, subst}
use Rattle.flights.specs.Corrections.{corrected_flight}
use Rattle.flights.specs.Numbers.{IsRising, KeptFlights}
use Rattle.flights.specs.declared.flight.Flight.{Flight}
use Rattle.flights.proofs.CorrectionLemmas.{rising_corrected}
use Rattle.flights.proofs.flights.Flights.corrected.Goals as goal

pub all_corrected-requires : goal.all_corrected-requires
all_corrected-requires c =
    let P : List Flight → Type 0 = λ l. IsRising l in
    subst P (sym c.as_slice.ensures) c.self.invariant

pub invariant_of-result : goal.invariant_of-result
invariant_of-result c =
    rising_corrected c.args.number c.args.program.now c.self.inside.list.list c.in_ok-list.list.list
    (c.in_ok-list.ensures ∙ ap (map (corrected_flight c.args.number c.args.program.now)) c.as_slice.ensures) c.self.invariant

pub returns : goal.returns
returns c =
    let f = map (corrected_flight c.args.number c.args.program.now) in
    c.in_ok-list.ensures ∙ ap f (c.as_slice.ensures ∙ ap (λ (k : KeptFlights). k.list) c.self.view_is)
