use Rattle.std.proofs.Common.{◌∙◌, sym, ap}
use Rattle.std.specs.Option.{option_copied}
use Rattle.service_posts.proofs.OutwardLemmas.{slot_found}
use Rattle.service_posts.proofs.outward.slot_at.Goals as goal

pub returns-in-Some : goal.returns-in-Some
returns-in-Some c =
    slot_found c.args.number c.args.entries.now c.args.place c.in-Some.entry.now (sym c.entry_at.ensures ∙ ap option_copied c.in-Some.is) c.slot_in.result c.slot_in.ensures
