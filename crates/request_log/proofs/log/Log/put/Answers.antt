use Rattle.std.proofs.Common.{◌≡◌, ◌∙◌, sym, position, Some}
use Rattle.request_log.specs.Entries.{has_id}
use Rattle.request_log.proofs.EntryLemmas.{known_place, log-put, put_old}
use Rattle.request_log.proofs.log.Log.put.Goals as goal

pub unwrap-place-requires : goal.unwrap-place-requires
unwrap-place-requires c =
    rw (c.place_of.ensures, c.deref.ensures.value) (known_place c.args.self.now c.args.entry c.self.inside.folded c.self.inside.items.items c.self.view_is c.requires)

pub invariant_of-self : goal.invariant_of-self
invariant_of-self c =
    let at : position (has_id c.args.entry.id) c.self.inside.items.items ≡ Some c.unwrap-place.result = rw c.deref.ensures.value at (sym c.place_of.ensures ∙ c.unwrap-place.ensures) in
    rw c.replace.ensures.new (log-put c.args.self.now c.args.entry c.self.inside.folded c.self.inside.items.items c.self.inside.numbers.keys c.self.inside.origins.keys c.unwrap-place.result c.self.view_is at c.requires c.self.invariant)

pub returns-clause-old : goal.returns-clause-old
returns-clause-old c =
    let at : position (has_id c.args.entry.id) c.self.inside.items.items ≡ Some c.unwrap-place.result = rw c.deref.ensures.value at (sym c.place_of.ensures ∙ c.unwrap-place.ensures) in
    rw c.replace.ensures.old (put_old c.args.self.now c.args.entry.id c.self.inside.folded c.self.inside.items.items c.unwrap-place.result c.index_mut.result.now c.self.view_is at c.index_mut.ensures.value)
