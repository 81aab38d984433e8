use Rattle.std.proofs.Common.{nat_eq, nat_lt, ap, ◌∙◌}
use Rattle.std.specs.List.{list_any}
use Rattle.dump_tables.specs.Indexed.{number_of}
use Rattle.dump_tables.proofs.FoundLemmas.{any_end, any_key}
use Rattle.dump_tables.proofs.entries.DumpEntries.has_id.Goals as goal

pub returns : goal.returns
returns c =
    ap (nat_lt 0) c.end_of.ensures
    ∙ any_end (nat_eq c.args.id) c.self.inside.ids.keys
    ∙ ap (list_any (nat_eq c.args.id)) c.self.invariant.by_id
    ∙ any_key number_of c.args.id c.self.inside.items.items
    ∙ ap (list_any (λ e. nat_eq (number_of e) c.args.id)) c.self.view_is
