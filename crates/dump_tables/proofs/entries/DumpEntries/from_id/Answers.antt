use Rattle.std.proofs.Common.{ℕ, List, map, nat_eq, ◌∙◌, ap, sym, arith}
use Rattle.lang_lists.specs.Ends.{last_end}
use Rattle.dump_tables.specs.Indexed.{from_end, number_of}
use Rattle.dump_tables.specs.declared.dump.DumpEntry.{DumpEntry}
use Rattle.dump_tables.proofs.IndexLemmas.{end_of_number, end_within}
use Rattle.dump_tables.proofs.entries.DumpEntries.from_id.Goals as goal

pub from_end-requires : goal.from_end-requires
from_end-requires c =
    let keys = c.self.invariant.by_id ∙ ap (map number_of) (c.self.view_is ∙ sym c.as_slice.ensures) in
    omega (arith, c.end_of.ensures, end_within c.args.id c.self.inside.ids.keys c.as_slice.result.now keys)

pub returns : goal.returns
returns c =
    let keys = c.self.invariant.by_id ∙ ap (map number_of) (c.self.view_is ∙ sym c.as_slice.ensures) in
    let ends = c.end_of.ensures ∙ ap (last_end (nat_eq c.args.id)) keys ∙ end_of_number c.args.id c.as_slice.result.now in
    c.from_end.ensures
    ∙ ap (λ (n : ℕ). from_end n c.as_slice.result.now) ends
    ∙ ap (λ (entries : List DumpEntry). from_end (last_end (λ (e : DumpEntry). nat_eq c.args.id e.id) entries) entries) c.as_slice.ensures
