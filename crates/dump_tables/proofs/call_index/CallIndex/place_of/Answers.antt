use Rattle.std.proofs.Common.{◌-◌, ◌<◌, ◌≤◌, Some, length, nat_eq, ap, sym, ◌∙◌, arith}
use Rattle.std.proofs.lemmas.List.{get_or_read}
use Rattle.lang_lists.specs.Ends.{last_end}
use Rattle.lang_lists.proofs.HashEndLemmas.{last_end-within}
use Rattle.dump_tables.specs.Indexed.{place_at}
use Rattle.dump_tables.proofs.PlaceLemmas.{place_before}
use Rattle.dump_tables.proofs.call_index.CallIndex.place_of.Goals as goal

pub index-requires : goal.index-requires
index-requires c =
    let keys = c.args.self.now.numbers.keys in
    let within : last_end (nat_eq c.args.number) keys ≤ length keys = last_end-within (nat_eq c.args.number) keys in
    omega (arith, within, c.end_of-end.ensures, c.requires, c.args.self.now.places.ok.0)

pub returns-else-end-eq0 : goal.returns-else-end-eq0
returns-else-end-eq0 c =
    let keys = c.args.self.now.numbers.keys in
    let places = c.args.self.now.places.items in
    let end = c.end_of-end.result in
    let within : last_end (nat_eq c.args.number) keys ≤ length keys = last_end-within (nat_eq c.args.number) keys in
    let short : end - 1 < length places = omega (arith, within, c.end_of-end.ensures, c.requires) in
    ap Some (get_or_read places (end - 1) c.index.result.now short c.index.ensures 0) ∙ sym (place_before places end (omega arith)) ∙ ap (place_at places) c.end_of-end.ensures
