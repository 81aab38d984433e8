use Rattle.std.proofs.Common.{◌≡◌, ◌∙◌, ◌+◌, ℕ, List, sym, ap, refl, subst, cond, Option, Some, IfSome, is_some, vec_len}
use Rattle.lang_core.specs.declared.writes.Write.{Write}
use Rattle.versioned_rows.specs.Places.{is_written}
use Rattle.versioned_rows.specs.Versions.{asked, call_code, write_call}
use Rattle.key_labels.proofs.RoomLemmas.{IsSpent, spent, unmade}
use Rattle.versioned_rows.proofs.RoomLemmas.{asked_less, covered_less, covered_none}
use Rattle.versioned_rows.proofs.room.spend_room.Goals as goal

-- the call that was found, and the copy in it
found : (c : goal.After-writes_of) → IsSpent call_code (write_call c.args.writes.now) c.args.room.now.items c.in-Some.place c.take_room.result
found c = spent call_code (write_call c.args.writes.now) c.deref.ensures.value c.room_place.ensures c.in-Some.is c.take_room.ensures.call

copied : (c : goal.After-writes_of) → c.writes_of.result ≡ Some c.args.writes.now
copied c = c.writes_of.ensures c.args.writes.now (found c).same

pub returns-in-Some-clause-made : goal.returns-in-Some-clause-made
returns-in-Some-clause-made c = (λ _. (found c).made, λ _. ap is_some (copied c))

pub returns-in-Some-clause-copy : goal.returns-in-Some-clause-copy
returns-in-Some-clause-copy c =
    let P : Option (List Write) → Type 0 = λ o. IfSome o (λ w. w ≡ c.args.writes.now) in
    subst P (sym (copied c)) refl

pub returns-in-Some-clause-less : goal.returns-in-Some-clause-less
returns-in-Some-clause-less c =
    let P : Option (List Write) → Type 0 = λ o. IfSome o (λ _. vec_len c.take_room.new.room + 1 ≡ vec_len c.args.room.now) in
    subst P (sym (copied c)) c.take_room.ensures.len

pub returns-in-Some-clause-asked : goal.returns-in-Some-clause-asked
returns-in-Some-clause-asked c =
    let room = c.args.room.now.items in
    let P : Option (List Write) → Type 0 = λ o. IfSome o (λ _. (t k : List ℕ) → asked t k c.take_room.new.room.items + cond (is_written t k c.args.writes.now) 1 0 ≡ asked t k room) in
    subst P (sym (copied c)) (λ t k. ap (λ l. asked t k l + cond (is_written t k c.args.writes.now) 1 0) c.take_room.ensures.room
    ∙ asked_less t k room c.in-Some.place c.args.writes.now (found c).within (found c).is)

pub returns-in-Some-clause-covered : goal.returns-in-Some-clause-covered
returns-in-Some-clause-covered c = λ rows had.
    rw c.take_room.ensures.room (covered_less c.args.room.now.items rows c.in-Some.place (write_call c.args.writes.now) (found c).within (found c).is had)

pub returns-in-Some-clause-none : goal.returns-in-Some-clause-none
returns-in-Some-clause-none c = λ none. let never = sym (copied c) ∙ none in cc

pub returns-in-None-clause-made : goal.returns-in-None-clause-made
returns-in-None-clause-made c =
    let none = unmade call_code (write_call c.args.writes.now) c.deref.ensures.value c.room_place.ensures c.in-None.is in
    (λ e. cc, λ made. sym none ∙ made)

pub returns-in-None-clause-covered : goal.returns-in-None-clause-covered
returns-in-None-clause-covered c = λ rows had. covered_none c.clear.new.self.items rows c.clear.ensures.items
