use Rattle.std.proofs.Common.{◌≡◌, false, List, Option, length, slice_get, ap, subst, sym, ◌∙◌}
use Rattle.std.specs.List.{list_any}
use Rattle.std.specs.Option.{option_copied}
use Rattle.dump_tables.specs.Found.{IsOneOf}
use Rattle.dump_tables.specs.Indexed.{has_number}
use Rattle.dump_tables.specs.declared.dump.DumpEntry.{DumpEntry}
use Rattle.dump_tables.proofs.PlaceLemmas.{IsPlaced, at_place, placed, places_len}
use Rattle.dump_tables.proofs.entries.DumpEntries.with_number.Goals as goal

pub place_of-requires : goal.place_of-requires
place_of-requires c =
    ap length c.self.invariant.by_place ∙ places_len 0 c.self.inside.items.items ∙ sym (ap length c.self.invariant.by_call)

pub returns-in-Some : goal.returns-in-Some
returns-in-Some c =
    let number = c.args.number in
    let place = c.in-Some.place in
    let entries = c.self.inside.items.items in
    let found = placed number entries c.self.inside.ids.keys c.self.inside.origins.keys c.self.inside.calls.numbers.keys c.self.inside.calls.places.items c.self.invariant in
    let there = at_place number entries place (subst (IsPlaced number entries) (sym c.in-Some.ensures) found) in
    let here = subst (λ (es : List DumpEntry). IsOneOf (has_number number) es (slice_get es place)) c.self.view_is there in
    let got : option_copied c.item_at.result ≡ slice_get c.args.self.now place = c.item_at.ensures ∙ ap (λ (es : List DumpEntry). slice_get es place) c.as_slice.ensures in
    subst (λ (o : Option DumpEntry). IsOneOf (has_number number) c.args.self.now o) (sym got) here

pub returns-in-None : goal.returns-in-None
returns-in-None c =
    let number = c.args.number in
    let entries = c.self.inside.items.items in
    let found = placed number entries c.self.inside.ids.keys c.self.inside.origins.keys c.self.inside.calls.numbers.keys c.self.inside.calls.places.items c.self.invariant in
    subst (λ (es : List DumpEntry). list_any (has_number number) es ≡ false) c.self.view_is (subst (IsPlaced number entries) (sym c.in-None.ensures) found)
