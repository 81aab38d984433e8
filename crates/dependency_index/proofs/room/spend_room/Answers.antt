use Rattle.std.proofs.Common.{◌≡◌, ◌∙◌, ◌+◌, sym, ap, refl, cond, map}
use Rattle.std.specs.List.{list_any, remove}
use Rattle.key_labels.proofs.RoomLemmas.{IsSpent, spent, unmade}
use Rattle.dependency_index.specs.Index.{asked, call_code, call_reads, note_call}
use Rattle.dependency_index.specs.Reads.{is_at, read_at}
use Rattle.dependency_index.proofs.RoomLemmas.{asked_less}
use Rattle.dependency_index.proofs.room.spend_room.Goals as goal

-- the call that was found, and the copy in it
found : (c : goal.After-reads_of) → IsSpent call_code (note_call c.args.reads.now) c.args.room.now.items c.in-Some.place c.take_room.result
found c = spent call_code (note_call c.args.reads.now) c.deref.ensures.value c.room_place.ensures c.in-Some.is c.take_room.ensures.call

copied : (c : goal.After-reads_of) → c.reads_of.result ≡ map read_at c.args.reads.now
copied c = ap call_reads (sym c.reads_of.ensures ∙ (found c).same)

pub returns-in-Some-clause-made : goal.returns-in-Some-clause-made
returns-in-Some-clause-made c = (λ _. (found c).made, λ _. refl)

pub returns-in-Some-clause-copy : goal.returns-in-Some-clause-copy
returns-in-Some-clause-copy c = copied c

pub returns-in-Some-clause-asked : goal.returns-in-Some-clause-asked
returns-in-Some-clause-asked c = λ kind t k.
    let room = c.args.room.now.items in
    ap (λ l. asked kind t k l + cond (list_any (is_at kind t k) c.reads_of.result) 1 0) c.take_room.ensures.room
    ∙ ap (λ l. asked kind t k (remove room c.in-Some.place) + cond (list_any (is_at kind t k) l) 1 0) (copied c)
    ∙ asked_less kind t k room c.in-Some.place c.args.reads.now (found c).within (found c).is

pub returns-in-None-clause-made : goal.returns-in-None-clause-made
returns-in-None-clause-made c =
    let none = unmade call_code (note_call c.args.reads.now) c.deref.ensures.value c.room_place.ensures c.in-None.is in
    (λ e. cc, λ made. sym none ∙ made)
