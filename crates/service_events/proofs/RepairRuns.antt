-- Steps, messages and orders keep that records are what runs gave.
use Rattle.std.proofs.Common.{◌≡◌, ℕ, true, false, not, cond, List, [], ◌∷◌, Option, Some, None, Ok, Err, refl, ◌+◌, Bool, drop, find, length, sym, ◌∙◌, subst, drop-drop}
use Rattle.std.proofs.lemmas.Bool.{cond_both}
use Rattle.lang_base.specs.Texts.{same_text}
use Rattle.lang_core.specs.declared.inputs.Inputs.{Inputs}
use Rattle.lang_core.specs.declared.request.Request.{Request}
use Rattle.request_log.specs.Entries.{changed, corrected, find_call, has_origin, has_program, mark, replace, with_correction}
use Rattle.request_log.specs.declared.entry.Entry.{Entry}
use Rattle.repair_messages.specs.declared.messages.AnswerMessage.{AnswerMessage}
use Rattle.repair_messages.specs.declared.messages.SetMessage.{SetMessage}
use Rattle.repair_messages.specs.declared.messages.TokenMessage.{TokenMessage}
use Rattle.repair_messages.specs.declared.posts.Post.{Post}
use Rattle.repair_messages.specs.declared.posts.Post.TheVariants.{Set, Token, Fetch}
use Rattle.repair_messages.specs.declared.posts.PostName.TheVariants.{Call as OfCall, Reply as OfReply, Fetch as OfFetch}
use Rattle.local_repair.specs.Current.{AllRuns}
use Rattle.local_repair.specs.Steps.{remade}
use Rattle.journal_rows.specs.Words.{noted_at}
use Rattle.journal_rows.specs.declared.caller.NotedRow.{NotedRow}
use Rattle.journal_rows.specs.declared.orders.Command.{Command}
use Rattle.journal_rows.specs.declared.orders.Command.TheVariants.{Cancel, Restore, Replace, Create, Retry, Fold, Deploy, Correct, Rules}
use Rattle.journal_rows.specs.declared.orders.OrderedRow.{OrderedRow}
use Rattle.call_registers.specs.Registers.{is_news, is_newer, register}
use Rattle.call_registers.specs.declared.register.Hold.{Hold}
use Rattle.call_registers.specs.declared.register.Register.{Register}
use Rattle.create_placement.specs.Placement.{place_between, created}
use Rattle.service_events.specs.Calls.{noted}
use Rattle.service_events.specs.Messages.{taken, take_new, origin_of, is_known, acked_again, created_entry, created_place, at_version, taken_by, take_admitted, heard, hear_new, confirmed_row, token_taken_by, token_taken_where, fetched_row, fetched, is_now, hold_of, held_back, held_where, posted, neighbour}
use Rattle.service_events.specs.Orders.{refused, brought, carried_out, corrected_on, made_under, order_by, order_where, folded_on, place_made, to_fold}
use Rattle.service_events.specs.State.{Kept, After, after, next_id, answers, base, folded, unfolded}
use Rattle.service_events.specs.Steps.{new_record, new_numbers, Stale, step_by, stale_in}
use Rattle.service_events.specs.declared.answers.PostReply.{PostReply}
use Rattle.service_events.specs.declared.answers.PostReply.TheVariants.{Acked as WasAcked, Confirmed as WasConfirmedBack, Given, Refused, Lost}
use Rattle.service_events.specs.declared.answers.Posted.TheVariants.{Saw, Knew, Held, Left}
use Rattle.service_events.specs.declared.refusals.AnswerRefused.{AnswerRefused}
use Rattle.service_events.specs.declared.refusals.OrderRefused.{OrderRefused}
use Rattle.service_events.proofs.AskedLemmas.{take_either, hear_either}
use Rattle.service_events.proofs.RunLemmas.{HasRun, new_is_run, runs_with, runs_changed}
use Rattle.service_events.proofs.SearchLemmas.{found_all}
use Rattle.std.proofs.lemmas.List.Elements.{All-drop, All-map, All-weaker}
use Rattle.lang_programs.specs.Numbered.{Numbered}
use Rattle.request_log.specs.Folded.{bare}
use Rattle.service_events.specs.Fits.{Fits}
use Rattle.service_events.proofs.CorrectLaw.{corrected_unfolded}
use Rattle.service_events.proofs.HorizonLemmas.{behind_horizon, changed_unfolded, found_past, mapped_behind, number_past, runs_put, with_unfolded}
use Rattle.service_events.proofs.StepLaw.{is_taken}

-- what an event leaves has records that runs gave
abbrev pub LeavesRuns : {A : Type 0} → After A → Type 0
LeavesRuns a = AllRuns (a.service).setting (unfolded a.service)

module _ (s : Kept) (f : Fits s) where
  h : AllRuns s.setting (unfolded s)
  h = f.runs

  abbrev Runs : List Entry → Type 0
  Runs l = AllRuns s.setting l

  -- ---- a step

  pub step_by_runs : (o : Option Stale) → stale_in (answers s) (base s) (unfolded s) ≡ o → LeavesRuns (step_by s o)
  step_by_runs None is = h
  step_by_runs (Some x) is =
      let y = remade x.entry (new_record s x.rows x.entry) (new_numbers s x.entry (new_record s x.rows x.entry)) in
      subst Runs (sym (with_unfolded s y (is_taken s x is f.asked.distinct).past)) (runs_with s.setting (unfolded s) y (new_is_run s x.rows x.entry) h)

  -- ---- a version of a call

  taken_by_runs : (set : SetMessage) (i : Inputs) (o : Option Entry) (desired : Option Request) → find_call (origin_of set) (folded s) ≡ None → find_call (origin_of set) s.entries ≡ o
      → AllRuns (taken_by s set i o desired).setting (unfolded (taken_by s set i o desired))
  taken_by_runs set i (Some e) desired recent is =
      let p : Entry → Bool = has_origin set.caller set.number in
      let behind : find p (unfolded s) ≡ Some e = sym (found_past s p recent) ∙ is in
      subst Runs (sym (with_unfolded s (at_version set e) (number_past s p e f.asked.distinct behind)))
      (runs_with s.setting (unfolded s) (at_version set e) (found_all (HasRun s.setting) p (unfolded s) e h behind) h)
  taken_by_runs set i None (Some q) recent is =
      runs_put s (created_place s set) (created_entry s set q i)
      (behind_horizon s (place_between (neighbour s set.caller set.before) (neighbour s set.caller set.after) s.entries)) f.horizon.within tt h
  taken_by_runs set i None None recent is = h

  pub take_admitted_runs : (set : SetMessage) (i : Inputs) (full : Option ℕ) → LeavesRuns (take_admitted s set i full)
  take_admitted_runs set i (Some n) = h
  take_admitted_runs set i None =
      cond_both (is_known s set) (after (acked_again s set) (Ok (taken set None))) (take_new s set i) LeavesRuns
      (λ _. h)
      (λ _. take_either s set i LeavesRuns (λ e. h) h (λ recent. taken_by_runs set i (find_call (origin_of set) s.entries) set.desired recent refl))

  -- ---- a token

  token_taken_by_runs : (a : TokenMessage) (r : Register) → LeavesRuns (token_taken_by s a r)
  token_taken_by_runs a r =
      cond_both (not (same_text r.dest a.callee)) (after s (Err (AnswerRefused.Unknown a.number)))
      (cond (is_news r a.answer_version) (hear_new s a r) (after (noted (confirmed_row a ∷ []) s) (Ok (heard a None)))) LeavesRuns
      (λ _. h)
      (λ _. cond_both (is_news r a.answer_version) (hear_new s a r) (after (noted (confirmed_row a ∷ []) s) (Ok (heard a None))) LeavesRuns
      (λ _. hear_either s a r LeavesRuns h h (λ _. h))
      (λ _. h))

  pub token_taken_where_runs : (a : TokenMessage) (o : Option Register) → LeavesRuns (token_taken_where s a o)
  token_taken_where_runs a None = h
  token_taken_where_runs a (Some r) = token_taken_by_runs a r

  -- ---- what comes back of a post

  held_runs : (post : Post) (hold : Hold) → AllRuns (held_back s post hold).setting (unfolded (held_back s post hold))
  held_runs (Set set) hold = h
  held_runs (Token t) hold = h
  held_runs (Fetch f) hold = h

  held_where_runs : (post : Post) (o : Option Hold) → LeavesRuns (held_where s post o)
  held_where_runs post None = h
  held_where_runs post (Some hold) =
      cond_both (is_now s post) (after (held_back s post hold) (Ok Held)) (after s (Ok Left)) LeavesRuns (λ _. held_runs post hold) (λ _. h)

  fetched_runs : (a : AnswerMessage) (o : Option Register) (n : Option NotedRow) → LeavesRuns (fetched s a o n)
  fetched_runs a None n = h
  fetched_runs a (Some r) None = h
  fetched_runs a (Some r) (Some n) =
      cond_both (is_newer r.answer a.answer_version) (after (noted (fetched_row a n ∷ []) s) (Ok Saw)) (after s (Ok Knew)) LeavesRuns (λ _. h) (λ _. h)

  pub posted_by_runs : (post : Post) (answer : PostReply) → LeavesRuns (posted s post answer)
  posted_by_runs post (WasAcked ack) = h
  posted_by_runs post (WasConfirmedBack c) = h
  posted_by_runs post (Given a) = fetched_runs a (register a.number s.registers) (noted_at a.number a.answer_version s.journal)
  posted_by_runs post (Refused word number) = held_where_runs post (hold_of word number)
  posted_by_runs post (Lost note) = h

  -- ---- an order

  at_id_runs : (id : ℕ) (change : Entry → Entry) → ((e : Entry) → HasRun s.setting e → HasRun s.setting (change e)) → AllRuns s.setting (drop s.horizon (changed id change s.entries))
  at_id_runs id change keeps = subst Runs (sym (changed_unfolded s id change)) (runs_changed s.setting (unfolded s) id change keeps h)

  folded_runs : (n : ℕ) → AllRuns s.setting (unfolded (folded_on n s))
  folded_runs n =
      subst Runs (sym (mapped_behind bare (s.horizon + n) s.entries ∙ sym (drop-drop n s.horizon s.entries))) (All-drop (HasRun s.setting) n (unfolded s) h)

  corrected_runs : (k : ℕ) (p : Numbered) → AllRuns s.setting (unfolded (corrected_on k p s))
  corrected_runs k p =
      subst Runs (sym (corrected_unfolded s k p f.horizon.within))
      (All-map (HasRun s.setting) (corrected k p) (unfolded s)
      (All-weaker (HasRun s.setting) (λ e. HasRun s.setting (corrected k p e))
      (λ e here. cond_both (has_program k e) (with_correction p e) e (HasRun s.setting) (λ _. here) (λ _. here)) (unfolded s) h))

  carried_runs : (command : Command) (who : List ℕ) (i : Inputs) → AllRuns (carried_out s command who i).setting (unfolded (carried_out s command who i))
  carried_runs (Cancel id) who i = at_id_runs id (mark true) (λ e here. here)
  carried_runs (Restore id) who i = at_id_runs id (mark false) (λ e here. here)
  carried_runs (Replace id m p b) who i = at_id_runs id (replace m p b) (λ e here. here)
  carried_runs (Create before after q) who i =
      runs_put s (place_made s before after) (created (next_id s) q i (made_under s before after)) (behind_horizon s (place_between before after s.entries)) f.horizon.within tt h
  carried_runs (Fold id) who i = folded_runs (length (to_fold id s))
  carried_runs (Deploy p) who i = h
  carried_runs (Correct k p) who i = corrected_runs k (brought s p)
  carried_runs (Rules g) who i = h
  carried_runs (Retry (OfCall n)) who i = h
  carried_runs (Retry (OfReply n)) who i = h
  carried_runs (Retry (OfFetch n)) who i = h

  order_by_runs : (command : Command) (token who : List ℕ) (i : Inputs) (o : Option OrderRefused) → LeavesRuns (order_by s command token who i o)
  order_by_runs command token who i (Some why) = h
  order_by_runs command token who i None = carried_runs command who i

  pub order_where_runs : (command : Command) (token who : List ℕ) (i : Inputs) (o : Option OrderedRow) → LeavesRuns (order_where s command token who i o)
  order_where_runs command token who i (Some o) = h
  order_where_runs command token who i None = order_by_runs command token who i (refused s command who)
