-- Room that was made for an entry's writes is there.
use Rattle.std.proofs.Common.{◌≡◌, ℕ, List, [], ◌∷◌, ◌++◌, Result, Ok, Err, IsOk, OnOk, length, sym, ap, ◌∙◌}
use Rattle.lang_core.specs.declared.writes.Write.{Write}
use Rattle.lang_lists.specs.Room.{is_made}
use Rattle.lang_lists.proofs.RoomLemmas.{made_last}
use Rattle.place_order.specs.Rooms.{call_code as label_code}
use Rattle.place_order.specs.declared.room.OrderCall.{OrderCall}
use Rattle.versioned_rows.specs.Versions.{call_code, write_call}
use Rattle.versioned_rows.specs.declared.room.VersionsCall.{VersionsCall}
use Rattle.log_index.specs.Rows.{KeptWrites, call_at, IsReadyToSet, IsReadyToInsert}

pub ready_set : {T E : Type 0} (r : Result T E) (writes : List Write) (was : List VersionsCall) (kept : KeptWrites) → OnOk r (kept.copies ≡ was ++ write_call writes ∷ []) → OnOk r (IsReadyToSet writes kept)
ready_set (Ok _) writes was kept is = ap (is_made call_code (write_call writes)) is ∙ made_last call_code was (write_call writes)
ready_set (Err _) writes was kept is = tt

pub ready_insert : {T E : Type 0} (r : Result T E) (place : ℕ) (writes : List Write) (call : OrderCall) (labels : List OrderCall) (was : List VersionsCall) (kept : KeptWrites)
    → call ≡ call_at place (length kept.writes) → kept.places ≡ labels ++ call ∷ [] → OnOk r (kept.copies ≡ was ++ write_call writes ∷ []) → OnOk r (IsReadyToInsert place writes kept)
ready_insert (Ok _) place writes call labels was kept at label copy = record {
  label = ap (λ c. is_made label_code c kept.places) (sym at) ∙ ap (is_made label_code call) label ∙ made_last label_code labels call;
  copy = ap (is_made call_code (write_call writes)) copy ∙ made_last call_code was (write_call writes);
}
ready_insert (Err _) place writes call labels was kept at label copy = tt

-- what is said where there is a value, where there is one
pub where_ok : {T E P : Type 0} (r : Result T E) → IsOk r → OnOk r P → P
where_ok (Ok _) ok h = h
where_ok (Err _) ok h = cc
