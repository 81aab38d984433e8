use Rattle.std.proofs.Common.{Bool, List, ◌∙◌, ap, map, rules, subst, sym}
use Rattle.std.specs.Option.{option_copied}
use Rattle.lang_core.specs.Origins.{is_call}
use Rattle.dump_tables.specs.Found.{IsOneOf}
use Rattle.dump_tables.specs.Indexed.{entry_key}
use Rattle.dump_tables.specs.declared.dump.DumpEntry.{DumpEntry}
use Rattle.dump_tables.proofs.IndexLemmas.{other_origin}
use Rattle.dump_tables.proofs.entries.DumpEntries.of_call.Goals as goal

pub returns : goal.returns
returns c =
    let called : DumpEntry → Bool = λ e. is_call c.args.caller.now c.args.number e.origin in
    let keys = c.self.invariant.by_origin ∙ ap (map entry_key) (c.self.view_is ∙ sym c.as_slice.ensures) in
    let found = rw (c.call_key-key.ensures, c.text.ensures.text) at c.one_of.ensures in
    subst (λ (entries : List DumpEntry). IsOneOf called entries (option_copied c.one_of.result)) c.as_slice.ensures
    (found entry_key called keys (λ x r there e. search rules) (λ x other. other_origin c.args.caller.now c.args.number x.id x.origin other))
