use Rattle.std.proofs.Common.{◌≡◌, insert, length, ap, ◌∙◌, arith}
use Rattle.std.proofs.lemmas.List.{length-map}
use Rattle.lang_lists.specs.Room.{is_made}
use Rattle.place_order.specs.Rooms.{call_code as label_code}
use Rattle.place_order.proofs.InsertLemmas.{put_there}
use Rattle.versioned_rows.specs.Places.{without, with_place}
use Rattle.versioned_rows.specs.Versions.{call_code, write_call}
use Rattle.versioned_rows.specs.declared.places.PlaceWrites.{PlaceWrites}
use Rattle.log_index.specs.Rows.{KeptWrites, label_at, call_before, call_at, place_before}
use Rattle.log_index.proofs.EditLemmas.{call_is, known_label, place_is, inserted_writes, inserted_placed}
use Rattle.log_index.proofs.ReadyLemmas.{where_ok}
use Rattle.log_index.proofs.rows.EntryRows.insert.Goals as goal

pub new_label-label-requires-clause-next : goal.new_label-label-requires-clause-next
new_label-label-requires-clause-next c =
    known_label c.self.inside.order.labels c.self.inside.versions.versions c.self.invariant c.args.place c.label_at-next.result (c.label_at-next.ensures ∙ ap (label_at c.args.place) c.as_slice.ensures)

pub new_label-label-requires-clause-ready : goal.new_label-label-requires-clause-ready
new_label-label-requires-clause-ready c =
    let place = c.args.place in
    let writes = ap (λ (k : KeptWrites). k.writes) c.self.view_is in
    let places = ap (λ (k : KeptWrites). k.places) c.self.view_is in
    let call : call_before c.label_at-next.result ≡ call_at place (length c.args.self.now.writes) =
    ap call_before (c.label_at-next.ensures ∙ ap (label_at place) c.as_slice.ensures) ∙ call_is c.self.inside.versions.versions place ∙ ap (λ w. call_at place (length w)) writes in
    ap (λ o. is_made label_code o c.self.inside.order.room) call ∙ ap (is_made label_code (call_at place (length c.args.self.now.writes))) places ∙ c.requires.ready.label

pub write_at-requires-clause-label : goal.write_at-requires-clause-label
write_at-requires-clause-label c =
    rw c.new_label-label.ensures.labels (put_there c.self.inside.order.labels (place_before c.label_at-next.result c.self.inside.order.labels) c.new_label-label.result)

-- the label stands at the place
stands : (c : goal.After-unwrap) → c.new_label-label.new.order.labels ≡ insert c.self.inside.order.labels c.args.place c.new_label-label.result
stands c =
    let vs = c.self.inside.versions.versions in
    let labels = c.self.inside.order.labels in
    let writes = ap length (ap (λ (k : KeptWrites). k.writes) c.self.view_is) in
    let n = length-map vs (λ (p : PlaceWrites). p.writes) in
    let within = c.requires.within in
    c.new_label-label.ensures.labels
    ∙ ap (λ i. insert labels i c.new_label-label.result)
    (ap (λ o. place_before o labels) (c.label_at-next.ensures ∙ ap (label_at c.args.place) c.as_slice.ensures) ∙ place_is labels vs c.self.invariant c.args.place (omega arith))

-- what was written
wrote : (c : goal.After-unwrap) → c.write_at.new.self.versions ≡ with_place c.new_label-label.new.order.labels (record { label = c.new_label-label.result; writes = c.args.writes.now }) (without c.new_label-label.result c.self.inside.versions.versions)
wrote c =
    let copies = ap (λ (k : KeptWrites). k.copies) c.self.view_is in
    where_ok c.write_at.result (c.write_at.ensures.ready (ap (is_made call_code (write_call c.args.writes.now)) copies ∙ c.requires.ready.copy)) c.write_at.ensures.ok

pub invariant_of-self : goal.invariant_of-self
invariant_of-self c =
    inserted_placed c.self.inside.order.labels c.self.inside.versions.versions c.self.invariant c.args.place c.new_label-label.result c.args.writes.now c.new_label-label.ensures.is_new
    c.new_label-label.new.order.labels c.write_at.new.self.versions (stands c) (wrote c)

pub returns-clause-writes : goal.returns-clause-writes
returns-clause-writes c =
    inserted_writes c.self.inside.order.labels c.self.inside.versions.versions c.self.invariant c.args.place c.new_label-label.result c.args.writes.now c.new_label-label.ensures.is_new
    c.new_label-label.new.order.labels c.write_at.new.self.versions (stands c) (wrote c)
    ∙ ap (λ w. insert w c.args.place c.args.writes.now) (ap (λ (k : KeptWrites). k.writes) c.self.view_is)
