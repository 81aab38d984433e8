-- What a service keeps of the requests that rules are asked about is what its journal says of them.
use Rattle.std.proofs.Common.{◌≡◌, ℕ, Bool, true, false, ◌&&◌, List, [], ◌∷◌, ◌++◌, Option, Some, None, IsSome, IfSome, IsSomeAnd, fold, is_some, option_map, refl, sym, ap, ◌∙◌, subst, inl, inr, nat_eq, eqb-true, append-nil, append_assoc, if◌then◌else◌}
use Rattle.std.specs.List.{list_any}
use Rattle.std.specs.Option.{option_map_or}
use Rattle.std.proofs.lemmas.Bool.{cases_Bool, false_from_ne_true}
use Rattle.std.proofs.lemmas.List.Sums.{fold_push}
use Rattle.lang_core.specs.declared.ids.Origin.{Origin}
use Rattle.lang_core.specs.declared.ids.Origin.TheVariants.{Outside, Call}
use Rattle.lang_core.specs.declared.inputs.Inputs.{Inputs}
use Rattle.lang_core.specs.declared.request.Request.{Request}
use Rattle.request_log.specs.Entries.{has_id, find_call}
use Rattle.request_log.specs.declared.entry.Entry.{Entry}
use Rattle.journal_rows.specs.Words.{asked, asked_step, first_asked, is_about, is_version_of, or_before, replaced_by, request_now, request_step}
use Rattle.journal_rows.specs.declared.callee.AskedRow.{AskedRow}
use Rattle.journal_rows.specs.declared.caller.SentRow.{SentRow}
use Rattle.journal_rows.specs.declared.orders.About.{About}
use Rattle.journal_rows.specs.declared.orders.About.TheVariants.{Request as AboutRequest, Post as AboutPost, Program as AboutProgram, Rules as AboutRules}
use Rattle.journal_rows.specs.declared.orders.Command.{Command}
use Rattle.journal_rows.specs.declared.orders.Command.TheVariants.{Cancel, Restore, Replace, Create, Retry, Fold, Deploy, Correct, Rules}
use Rattle.journal_rows.specs.declared.orders.OrderedRow.{OrderedRow}
use Rattle.journal_rows.specs.declared.row.Row.{Row}
use Rattle.journal_rows.specs.declared.row.Row.TheVariants.{Asked, Took, Ordered}
use Rattle.repair_messages.specs.declared.posts.PostName.TheVariants.{Call as OfCall, Reply as OfReply, Fetch as OfFetch}
use Rattle.call_registers.specs.Registers.{register}
use Rattle.call_registers.specs.declared.register.Register.{Register}
use Rattle.service_events.specs.Allowed.{known_step, or_else_before, request_known, request_sent, subject_in}
use Rattle.service_events.specs.Fits.{AsksOn, EachAfter, Fits, FitsAsked, FitsSent, IsAsNow, IsOrderAbout, asked_as, made_as, sent_by, takes_request}
use Rattle.service_events.specs.Orders.{request_retried, subject}
use Rattle.service_events.specs.State.{Kept}
use Rattle.service_events.proofs.EntryLemmas.{found_by_call}
use Rattle.service_events.proofs.OrderLaw.{found_as_told}
use Rattle.service_events.proofs.PartLemmas.{logged}
use Rattle.service_events.proofs.SearchLemmas.{found_all, some_none}

-- ---- an own call

sent_alike : (o : Option Register)
    → option_map_or (λ (r : Register). r.desired) o None ≡ option_map_or (λ (sent : SentRow). sent.desired) (option_map sent_by o) None
sent_alike None = refl
sent_alike (Some r) = refl

-- a register asks what was sent last
pub sent_as_told : (s : Kept) → FitsSent s.journal s.registers → (number : ℕ) → request_retried number s ≡ request_sent number s.journal
sent_as_told s h number =
    sent_alike (register number s.registers)
    ∙ ap (λ o. option_map_or (λ (sent : SentRow). sent.desired) o None) (h.registers number)

-- ---- another service's call, of which some version had a request, or none had

module _ (caller : List ℕ) (number : ℕ) where
  none_by : (b : Bool) (d before : Option Request) → (b && is_some d) ≡ false → (if b then or_else_before before d else before) ≡ before
  none_by false d before h = refl
  none_by true None before h = refl
  none_by true (Some q) before h = cc

  none_step : (row : Row) (before : Option Request) → takes_request caller number row ≡ false → known_step caller number before row ≡ before
  none_step (Took t) before h = none_by (is_version_of caller number t) t.desired before h
  none_step row before h = refl

  known_none : (rows : List Row) (before : Option Request) → list_any (takes_request caller number) rows ≡ false → fold (known_step caller number) before rows ≡ before
  known_none [] before h = refl
  known_none (row ∷ rows) before h = elim (cases_Bool (takes_request caller number row)) [
    | inl is ↦ (let never : true ≡ false = rw is at h in cc)
    | inr isnt ↦ ap (λ b. fold (known_step caller number) b rows) (none_step row before isnt) ∙ known_none rows before (rw isnt at h)
  ]

  some_by : (b : Bool) (d before : Option Request) → IsSome before → IsSome (if b then or_else_before before d else before)
  some_by false d before h = h
  some_by true None before h = h
  some_by true (Some q) before h = refl

  some_step : (row : Row) (before : Option Request) → IsSome before → IsSome (known_step caller number before row)
  some_step (Took t) before h = some_by (is_version_of caller number t) t.desired before h
  some_step row before h = h

  some_stays : (rows : List Row) (before : Option Request) → IsSome before → IsSome (fold (known_step caller number) before rows)
  some_stays [] before h = h
  some_stays (row ∷ rows) before h = some_stays rows (known_step caller number before row) (some_step row before h)

  taken_by : (b : Bool) (d before : Option Request) → (b && is_some d) ≡ true → IsSome (if b then or_else_before before d else before)
  taken_by false d before h = cc
  taken_by true None before h = cc
  taken_by true (Some q) before h = refl

  taken_step : (row : Row) (before : Option Request) → takes_request caller number row ≡ true → IsSome (known_step caller number before row)
  taken_step (Took t) before h = taken_by (is_version_of caller number t) t.desired before h
  taken_step row before h = cc

  known_some : (rows : List Row) (before : Option Request) → list_any (takes_request caller number) rows ≡ true → IsSome (fold (known_step caller number) before rows)
  known_some [] before h = cc
  known_some (row ∷ rows) before h = elim (cases_Bool (takes_request caller number row)) [
    | inl is ↦ some_stays rows (known_step caller number before row) (taken_step row before is)
    | inr isnt ↦ known_some rows (known_step caller number before row) (rw isnt at h)
  ]

-- ---- the request of a call's entry is the last that was taken of the call: no order replaces it

-- an entry of this number came from outside by then
abbrev IsOutside : ℕ → List Row → Type 0
IsOutside id before = IsSomeAnd (asked id before) (λ a. a.origin ≡ Outside)

module _ (caller : List ℕ) (number id : ℕ) (first : Request) where
  -- the request that was known, or else the first one, is what the entry asks
  abbrev Agree : List Row → Type 0
  Agree before = or_before first (request_known caller number before) ≡ request_now id (Call caller number) first before

  not_replaced : (before : List Row) (o : OrderedRow) (now : Request) (about : About) (command : Command) → (IsOutside id before → ⊥) → is_about id about ≡ true
      → IsOrderAbout about command before → now ≡ replaced_by now o command
  not_replaced before o now (AboutPost name) command apart is on = cc
  not_replaced before o now (AboutProgram m) command apart is on = cc
  not_replaced before o now AboutRules command apart is on = cc
  not_replaced before o now (AboutRequest k) (Replace x method path body) apart is on =
      absurd (apart (subst (λ n. IsOutside n before) (eqb-true k id is) on))
  not_replaced before o now (AboutRequest k) (Cancel x) apart is on = refl
  not_replaced before o now (AboutRequest k) (Restore x) apart is on = refl
  not_replaced before o now (AboutRequest k) (Create x y q) apart is on = refl
  not_replaced before o now (AboutRequest k) (Retry name) apart is on = refl
  not_replaced before o now (AboutRequest k) (Fold x) apart is on = refl
  not_replaced before o now (AboutRequest k) (Deploy p) apart is on = refl
  not_replaced before o now (AboutRequest k) (Correct n p) apart is on = refl
  not_replaced before o now (AboutRequest k) (Rules g) apart is on = refl

  took_agrees : (b : Bool) (d known : Option Request) (now : Request) → or_before first known ≡ now
      → or_before first (if b then or_else_before known d else known) ≡ (if b then or_before now d else now)
  took_agrees false d known now same = same
  took_agrees true None known now same = same
  took_agrees true (Some q) known now same = refl

  ordered_agrees : (before : List Row) (o : OrderedRow) (now : Request) (b : Bool) → (IsOutside id before → ⊥) → is_about id o.about ≡ b
      → IsOrderAbout o.about o.command before → now ≡ (if b then replaced_by now o o.command else now)
  ordered_agrees before o now true apart is on = not_replaced before o now o.about o.command apart is on
  ordered_agrees before o now false apart is on = refl

  step_agrees : (before : List Row) (row : Row) (known : Option Request) (now : Request) → AsksOn before row → (IsOutside id before → ⊥)
      → or_before first known ≡ now → or_before first (known_step caller number known row) ≡ request_step id (Call caller number) now row
  step_agrees before (Took t) known now on apart same = took_agrees (is_version_of caller number t) t.desired known now same
  step_agrees before (Ordered o) known now on apart same = same ∙ ordered_agrees before o now (is_about id o.about) apart refl on.0
  step_agrees before row known now on apart same = same

  -- an entry that came from outside before a row came from outside behind it
  outside_by : (b : Bool) (made : Option AskedRow) (a : AskedRow) → IsSomeAnd made (λ a. a.origin ≡ Outside) → IsSomeAnd (if b then first_asked made a else made) (λ a. a.origin ≡ Outside)
  outside_by true None a h = absurd h
  outside_by true (Some m) a h = h
  outside_by false made a h = h

  outside_step : (made : Option AskedRow) (row : Row) → IsSomeAnd made (λ a. a.origin ≡ Outside) → IsSomeAnd (asked_step id made row) (λ a. a.origin ≡ Outside)
  outside_step made (Asked a) h = outside_by (nat_eq a.id id) made a h
  outside_step made row h = h

  agrees_on : (before : List Row) (row : Row) → AsksOn before row → ((IsOutside id before → ⊥) → Agree before)
      → (IsOutside id (before ++ row ∷ []) → ⊥) → Agree (before ++ row ∷ [])
  agrees_on before row on h apart =
      let still : IsOutside id before → ⊥ = λ out. apart (subst (λ o. IsSomeAnd o (λ a. a.origin ≡ Outside)) (sym (fold_push (asked_step id) None before row)) (outside_step (asked id before) row out)) in
      ap (or_before first) (fold_push (known_step caller number) None before row)
      ∙ step_agrees before row (request_known caller number before) (request_now id (Call caller number) first before) on still (h still)
      ∙ sym (fold_push (request_step id (Call caller number)) first before row)

  agree : (rows before : List Row) → EachAfter AsksOn before rows → ((IsOutside id before → ⊥) → Agree before) → (IsOutside id (before ++ rows) → ⊥) → Agree (before ++ rows)
  agree [] before on h = subst (λ j. (IsOutside id j → ⊥) → Agree j) (sym (append-nil before)) h
  agree (row ∷ rows) before on h =
      subst (λ j. (IsOutside id j → ⊥) → Agree j) (append_assoc before (row ∷ []) rows)
      (agree rows (before ++ row ∷ []) on.1 (agrees_on before row on.0 h))

-- the request of a call's entry is the one that its journal knows
module _ (s : Kept) (h : FitsAsked s.journal s.entries) (caller : List ℕ) (number : ℕ) where
  known_is : (first now : Request) (known : Option Request) → IsSome known → or_before first known ≡ now → Some now ≡ known
  known_is first now None some same = cc
  known_is first now (Some q) some same = ap Some (sym same)

  told_by : (e : Entry) (made : Option AskedRow) → asked e.id s.journal ≡ made → Some (made_as e) ≡ option_map asked_as made
      → IfSome made (λ a. e.request ≡ request_now e.id e.origin a.request s.journal) → e.origin ≡ Call caller number → IsSome (request_known caller number s.journal)
      → Some e.request ≡ request_known caller number s.journal
  told_by e None is same now from some = cc
  told_by e (Some a) is same now from some =
      let one : made_as e ≡ asked_as a = cc in
      let origin : a.origin ≡ Call caller number = ap (λ (x : Origin × Inputs). x.0) (sym one) ∙ from in
      let apart : IsOutside e.id s.journal → ⊥ = λ out. not_both a.origin origin (subst (λ o. IsSomeAnd o (λ a. a.origin ≡ Outside)) is out) in
      let all = agree caller number e.id a.request s.journal [] h.rows (λ _. refl) apart in
      known_is a.request e.request (request_known caller number s.journal) some
      (all ∙ ap (λ o. request_now e.id o a.request s.journal) (sym from) ∙ sym now)
    where
      not_both : (o : Origin) → o ≡ Call caller number → o ≡ Outside → ⊥
      not_both Outside is out = cc
      not_both (Call c n) is out = cc

  by_entry : (o : Option Entry) → find_call (Call caller number) s.entries ≡ o → option_map (λ (e : Entry). e.request) o ≡ request_known caller number s.journal
  by_entry None is =
      sym (known_none caller number s.journal None
      (false_from_ne_true (list_any (takes_request caller number) s.journal)
      (λ took. some_none (find_call (Call caller number) s.entries) ((h.calls caller number).1 took) is)))
  by_entry (Some e) is =
      let at = found_by_call s.entries caller number e h.distinct is in
      let now = found_all (IsAsNow s.journal) (has_id e.id) s.entries e h.now at.1 in
      told_by e (asked e.id s.journal) refl (sym (ap (option_map made_as) at.1) ∙ h.entries e.id) now.request at.0
      (known_some caller number s.journal None ((h.calls caller number).0 (ap is_some is)))

  pub known_as_told : option_map (λ (e : Entry). e.request) (find_call (Call caller number) s.entries) ≡ request_known caller number s.journal
  known_as_told = by_entry (find_call (Call caller number) s.entries) refl

-- ---- what a command is about

pub subject_as_told : (s : Kept) → Fits s → (command : Command) → subject s command ≡ subject_in command s.journal
subject_as_told s f (Cancel id) = found_as_told s (logged s f) id
subject_as_told s f (Restore id) = found_as_told s (logged s f) id
subject_as_told s f (Replace id method path body) = found_as_told s (logged s f) id
subject_as_told s f (Create before after q) = refl
subject_as_told s f (Retry (OfCall number)) = sent_as_told s f.sent number
subject_as_told s f (Retry (OfReply id)) = found_as_told s (logged s f) id
subject_as_told s f (Retry (OfFetch number)) = refl
subject_as_told s f (Fold id) = refl
subject_as_told s f (Deploy p) = refl
subject_as_told s f (Correct k p) = refl
subject_as_told s f (Rules g) = refl
