use Rattle.std.proofs.Common.{◌≡◌, length, nat_lt, position, slice_get, Some, sym, ap, ◌∙◌}
use Rattle.std.specs.List.{position_or_len}
use Rattle.std.proofs.lemmas.List.Folds.{find_at}
use Rattle.request_log.specs.Entries.{has_id}
use Rattle.request_log.proofs.ChangeLemmas.{not_found}
use Rattle.request_log.proofs.EntryLemmas.{placed}
use Rattle.request_log.proofs.log.Log.find.Goals as goal

pub returns-in-None : goal.returns-in-None
returns-in-None c = sym (not_found c.args.id c.args.self.now.entries (sym c.place_of.ensures ∙ c.in-None.is))

pub returns-in-Some : goal.returns-in-Some
returns-in-Some c =
    let entries = c.args.self.now.entries in
    let n = position_or_len (has_id c.args.id) entries in
    let at : position (has_id c.args.id) entries ≡ Some c.in-Some.place = sym c.place_of.ensures ∙ c.in-Some.is in
    let there : n ≡ c.in-Some.place = placed (nat_lt n (length entries)) n c.in-Some.place at in
    c.at.ensures ∙ ap (slice_get entries) (sym there) ∙ sym (find_at (has_id c.args.id) entries)
