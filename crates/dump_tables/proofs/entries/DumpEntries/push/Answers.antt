use Rattle.std.proofs.Common.{ℕ, ◌≡◌, ◌++◌, ◌∷◌, [], List, length, map, ap, ◌∙◌, arith}
use Rattle.dump_tables.specs.declared.dump.DumpEntry.{DumpEntry}
use Rattle.dump_tables.proofs.PlaceLemmas.{indexed_push}
use Rattle.dump_tables.proofs.entries.DumpEntries.push.Goals as goal

pub invariant_of-self-2 : goal.invariant_of-self-2
invariant_of-self-2 c =
    let e = c.args.entry in
    let place = c.len-place.result in
    let numbers = c.as_slice.result.now in
    let inside = c.self.inside in
    let at : place ≡ length inside.items.items = omega (arith, c.len-place.ensures, inside.items.ok.0) in
    indexed_push inside.items.items e place c.origin_key.result numbers inside.ids.keys inside.origins.keys inside.calls.numbers.keys inside.calls.places.items c.push_reserved.new.self.items c.push.new.self.keys c.push-2.new.self.keys
    c.push_all.new.self.numbers.keys c.push_all.new.self.places.items c.self.invariant
    (c.push_reserved.ensures.items ∙ ap (λ (es : List DumpEntry). es ++ e ∷ []) c.reserve.ensures.items)
    (c.push.ensures.keys ∙ ap (λ (l : List ℕ). l ++ e.id ∷ []) c.make_room.ensures.ids)
    (c.push-2.ensures.keys ∙ ap (λ (l : List ℕ). l ++ c.origin_key.result ∷ []) c.make_room.ensures.origins)
    (c.push_all.ensures.numbers ∙ ap (λ (l : List ℕ). l ++ numbers) c.make_room.ensures.numbers)
    (c.push_all.ensures.places ∙ ap (λ (l : List ℕ). l ++ map (λ _. place) numbers) c.make_room.ensures.places)
    c.origin_key.ensures c.as_slice.ensures at
