use Rattle.std.proofs.Common.{◌≡◌, ◌<◌, set, get_or, length, sym, ap, ◌∙◌, subst, arith}
use Rattle.std.specs.List.{Contains}
use Rattle.std.proofs.lemmas.List.{length-map}
use Rattle.lang_lists.specs.Room.{is_made}
use Rattle.versioned_rows.specs.Places.{label_of, without, with_place}
use Rattle.versioned_rows.specs.Versions.{call_code, write_call}
use Rattle.versioned_rows.specs.declared.places.PlaceWrites.{PlaceWrites}
use Rattle.dependency_index.proofs.HandedOn.{known}
use Rattle.log_index.specs.Rows.{KeptWrites}
use Rattle.log_index.proofs.EditLemmas.{replaced_writes, replaced_placed}
use Rattle.log_index.proofs.ReadyLemmas.{where_ok}
use Rattle.log_index.proofs.rows.EntryRows.set.Goals as goal

-- the place that is read
old_is : (c : goal.After-unwrap) → c.index-as_slice-place.result ≡ get_or c.self.inside.versions.versions c.args.place c.index-as_slice-place.result
old_is c = c.index-as_slice-place.is ∙ ap (λ l. get_or l c.args.place c.index-as_slice-place.result) c.as_slice.ensures

within_places : (c : goal.After-unwrap) → c.args.place < length c.self.inside.versions.versions
within_places c =
    let writes = ap length (ap (λ (k : KeptWrites). k.writes) c.self.view_is) in
    let n = length-map c.self.inside.versions.versions (λ (p : PlaceWrites). p.writes) in
    let within = c.requires.within in
    omega arith

pub write_at-requires-clause-label : goal.write_at-requires-clause-label
write_at-requires-clause-label c =
    let vs = c.self.inside.versions.versions in
    let old = c.index-as_slice-place.result in
    let writes = ap length (ap (λ (k : KeptWrites). k.writes) c.self.view_is) in
    let n = length-map vs (λ (p : PlaceWrites). p.writes) in
    let within = c.requires.within in
    let P : PlaceWrites → Type 0 = λ p. Contains c.self.inside.order.labels (label_of p) in
    subst P c.index-as_slice-place.is
    (known label_of c.self.inside.order.labels vs c.self.invariant.rising c.args.place old (omega arith) (c.index-as_slice-place.is ∙ ap (λ l. get_or l c.args.place old) c.as_slice.ensures))

wrote : (c : goal.After-unwrap) → c.write_at.new.self.versions
    ≡ with_place c.self.inside.order.labels (record { label = c.index-as_slice-place.result.label; writes = c.args.writes.now }) (without c.index-as_slice-place.result.label c.self.inside.versions.versions)
wrote c =
    let copies = ap (λ (k : KeptWrites). k.copies) c.self.view_is in
    where_ok c.write_at.result (c.write_at.ensures.ready (ap (is_made call_code (write_call c.args.writes.now)) copies ∙ c.requires.ready)) c.write_at.ensures.ok
    ∙ ap (λ (p : PlaceWrites). with_place c.self.inside.order.labels (record { label = p.label; writes = c.args.writes.now }) (without p.label c.self.inside.versions.versions)) (sym c.index-as_slice-place.is)

pub invariant_of-self : goal.invariant_of-self
invariant_of-self c =
    replaced_placed c.self.inside.order.labels c.self.inside.versions.versions c.self.invariant c.args.place c.index-as_slice-place.result c.args.writes.now (within_places c) (old_is c)
    c.write_at.new.self.versions (wrote c)

pub returns-clause-writes : goal.returns-clause-writes
returns-clause-writes c =
    replaced_writes c.self.inside.order.labels c.self.inside.versions.versions c.self.invariant c.args.place c.index-as_slice-place.result c.args.writes.now (within_places c) (old_is c)
    c.write_at.new.self.versions (wrote c)
    ∙ ap (λ w. set w c.args.place c.args.writes.now) (ap (λ (k : KeptWrites). k.writes) c.self.view_is)
