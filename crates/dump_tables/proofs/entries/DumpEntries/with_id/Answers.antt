use Rattle.std.proofs.Common.{Bool, List, nat_eq, ◌∙◌, ap, map, rules, subst, sym}
use Rattle.std.specs.Cmp.{nat_eq_equiv}
use Rattle.std.specs.Option.{option_copied}
use Rattle.dump_tables.specs.Found.{IsOneOf}
use Rattle.dump_tables.specs.Indexed.{number_of}
use Rattle.dump_tables.specs.declared.dump.DumpEntry.{DumpEntry}
use Rattle.dump_tables.proofs.entries.DumpEntries.with_id.Goals as goal

pub returns : goal.returns
returns c =
    let numbered : DumpEntry → Bool = λ e. nat_eq e.id c.args.id in
    let keys = c.self.invariant.by_id ∙ ap (map number_of) (c.self.view_is ∙ sym c.as_slice.ensures) in
    subst (λ (entries : List DumpEntry). IsOneOf numbered entries (option_copied c.one_of.result)) c.as_slice.ensures
    (c.one_of.ensures number_of numbered keys (λ x r there e. search rules) (λ x other. nat_eq_equiv.symm x.id c.args.id ∙ other))
