-- A repair step and an order leave no more entries and flights than a service may have.
use Rattle.std.proofs.Common.{◌≡◌, ℕ, ◌<◌, ◌≤◌, Bool, true, false, cond, List, length, Option, Some, None, nat_le, option_map, refl, arith, length-set, drop, insert, ◌+◌, ap}
use Rattle.std.proofs.lemmas.List.{length-map, length-drop}
use Rattle.std.specs.List.{position_or_len}
use Rattle.std.proofs.lemmas.Bool.Decides.{nat_tests}
use Rattle.lang_core.specs.declared.inputs.Inputs.{Inputs}
use Rattle.request_log.specs.Entries.{has_id, mark, replace, changed, with_entry}
use Rattle.request_log.specs.declared.entry.Entry.{Entry}
use Rattle.create_placement.specs.Placement.{created}
use Rattle.repair_messages.specs.declared.posts.PostName.TheVariants.{Call as OfCall, Reply as OfReply, Fetch as OfFetch}
use Rattle.local_repair.specs.Steps.{remade}
use Rattle.journal_rows.specs.declared.orders.Command.{Command}
use Rattle.journal_rows.specs.declared.orders.Command.TheVariants.{Cancel, Restore, Replace, Create, Retry, Fold, Deploy, Correct, Rules}
use Rattle.journal_rows.specs.declared.orders.OrderedRow.{OrderedRow}
use Rattle.flights.specs.Corrections.{corrected_flight}
use Rattle.service_events.specs.State.{Kept, in_all, is_crowded, is_heavy, next_id, or_else, unfolded}
use Rattle.service_events.specs.Orders.{brings_program, brought, carried_out, corrected_on, is_programmed, is_too_much, lacks_place, made_under, makes_entry, misnamed, order_by, order_decision, order_where, refused, unless_allowed, place_made, to_fold, unless_quiet}
use Rattle.service_events.specs.Steps.{new_record, new_numbers, Stale, step_by}
use Rattle.service_events.specs.declared.refusals.OrderRefused.{OrderRefused}
use Rattle.service_events.specs.declared.refusals.OrderRefused.TheVariants.{Full}
use Rattle.service_events.proofs.SearchLemmas.{neither, length_insert}
use Rattle.request_log.specs.Folded.{bare}
use Rattle.service_events.proofs.OrderLaw.{well_named}
use Rattle.service_events.proofs.CorrectLaw.{corrected_many}
use Rattle.service_events.proofs.HorizonLemmas.{mapped_behind}

-- ---- a step

pub step_by_bounded : (s : Kept) (o : Option Stale) → in_all s ≤ 100000 → in_all (step_by s o).service ≤ 100000
step_by_bounded s None h = h
step_by_bounded s (Some x) h =
    let m = new_record s x.rows x.entry in
    let same = length-set s.entries (position_or_len (has_id (x.entry).id) s.entries) (remade x.entry m (new_numbers s x.entry m)) in
    let left = length-drop s.horizon s.entries in
    let now = length-drop s.horizon (with_entry (remade x.entry m (new_numbers s x.entry m)) s.entries) in
    omega (arith, h, same, left, now)

-- ---- an order

not_full : (o : Option ℕ) → option_map (λ n. Full n) o ≡ None → o ≡ None
not_full None h = refl
not_full (Some n) h = cc

-- what isn't refused names what is there, what it folds is quiet, and there isn't too much
abbrev unless_much : Kept → Command → Option OrderRefused
unless_much s command = option_map (λ n. Full n) (is_too_much s command)

well_formed : (s : Kept) (command : Command) (who : List ℕ) → refused s command who ≡ None → or_else (or_else (misnamed s command) (unless_quiet s command)) (unless_much s command) ≡ None
well_formed s command who h =
    (neither (or_else (or_else (misnamed s command) (unless_quiet s command)) (unless_much s command)) (unless_allowed (order_decision s command who)) h).0

pub accepted_named : (s : Kept) (command : Command) (who : List ℕ) → refused s command who ≡ None → misnamed s command ≡ None
accepted_named s command who h = (well_named s command who h).0

little_enough : (s : Kept) (command : Command) (who : List ℕ) → refused s command who ≡ None → is_too_much s command ≡ None
little_enough s command who h = not_full (is_too_much s command) (neither (or_else (misnamed s command) (unless_quiet s command)) (unless_much s command) (well_formed s command who h)).1

below : (s : Kept) (b : Bool) → nat_le 100000 (in_all s) ≡ b → cond b (Some (in_all s)) None ≡ None → in_all s < 100000
below s true is h = cc
below s false is h = grind (arith, nat_tests)

has_place : (s : Kept) (command : Command) (who : List ℕ) → makes_entry command ≡ true → refused s command who ≡ None → in_all s < 100000
has_place s command who makes h =
    let none = (neither (is_heavy s) (lacks_place s command) (little_enough s command who h)).1 in
    below s (nat_le 100000 (in_all s)) refl (by_test (makes_entry command) makes none)
  where
    by_test : (b : Bool) → b ≡ true → cond b (is_crowded s) (cond (brings_program command) (is_programmed s) None) ≡ None → is_crowded s ≡ None
    by_test true is e = e
    by_test false is e = cc

-- a log of as many entries, or of one more
as_many : (s : Kept) (es : List Entry) → length es ≡ length s.entries → length (drop s.horizon es) ≤ length (unfolded s)
as_many s es same = (let left = length-drop s.horizon s.entries in let now = length-drop s.horizon es in omega (arith, same, left, now))

one_more : (s : Kept) (es : List Entry) → length es ≡ length s.entries + 1 → length (drop s.horizon es) ≤ length (unfolded s) + 1
one_more s es more = (let left = length-drop s.horizon s.entries in let now = length-drop s.horizon es in omega (arith, more, left, now))

carried_bounded : (s : Kept) (command : Command) (who : List ℕ) (i : Inputs) → refused s command who ≡ None → in_all s ≤ 100000 → in_all (carried_out s command who i) ≤ 100000
carried_bounded s (Cancel id) who i none h =
    (let few = as_many s (changed id (mark true) s.entries) (length-map s.entries (λ e. cond (has_id id e) (mark true e) e)) in omega (arith, h, few))
carried_bounded s (Restore id) who i none h =
    (let few = as_many s (changed id (mark false) s.entries) (length-map s.entries (λ e. cond (has_id id e) (mark false e) e)) in omega (arith, h, few))
carried_bounded s (Replace id method path body) who i none h =
    (let few = as_many s (changed id (replace method path body) s.entries) (length-map s.entries (λ e. cond (has_id id e) (replace method path body e) e)) in omega (arith, h, few))
carried_bounded s (Create before after q) who i none h =
    let at = place_made s before after in
    let entry = created (next_id s) q i (made_under s before after) in
    let more = one_more s (insert s.entries at entry) (length_insert s.entries at entry) in
    let few = has_place s (Create before after q) who refl none in
    omega (arith, few, more)
carried_bounded s (Fold id) who i none h =
    let n = length (to_fold id s) in
    let rest = ap length (mapped_behind bare (s.horizon + n) s.entries) in
    let left = length-drop s.horizon s.entries in
    let now = length-drop (s.horizon + n) s.entries in
    omega (arith, h, rest, left, now)
carried_bounded s (Correct k p) who i none h =
    let m = brought s p in
    let few = as_many s (corrected_on k m s).entries (corrected_many s k m) in
    let flights = length-map s.flights (corrected_flight k m) in
    omega (arith, h, few, flights)
carried_bounded s (Deploy p) who i none h = h
carried_bounded s (Rules g) who i none h = h
carried_bounded s (Retry (OfCall number)) who i none h = h
carried_bounded s (Retry (OfReply id)) who i none h = h
carried_bounded s (Retry (OfFetch number)) who i none h = h

by_bounded : (s : Kept) (command : Command) (token who : List ℕ) (i : Inputs) (why : Option OrderRefused) → refused s command who ≡ why → in_all s ≤ 100000
    → in_all (order_by s command token who i why).service ≤ 100000
by_bounded s command token who i (Some why) is h = h
by_bounded s command token who i None is h = carried_bounded s command who i is h

pub order_where_bounded : (s : Kept) (command : Command) (token who : List ℕ) (i : Inputs) (o : Option OrderedRow) → in_all s ≤ 100000
    → in_all (order_where s command token who i o).service ≤ 100000
order_where_bounded s command token who i (Some o) h = h
order_where_bounded s command token who i None h = by_bounded s command token who i (refused s command who) refl h
