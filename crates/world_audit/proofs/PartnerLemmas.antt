-- The tests of partners tell exactly which rows have one.
use Rattle.std.proofs.Common.{◌≡◌, ◌↔◌, ℕ, zero, suc, Bool, true, ◌&&◌, IsTrue, List, [], ◌∷◌, Option, Some, None, IsSomeAnd, Contains, nat_eq, refl, sym, ap, ◌∙◌, subst, inl, inr, eqb-true, eq-eqb, arith}
use Rattle.std.specs.List.{list_any}
use Rattle.std.proofs.lemmas.Bool.{cases_Bool, and_from, and_parts}
use Rattle.std.proofs.lemmas.List.Folds.{list_any_at}
use Rattle.std.proofs.lemmas.Slice.Eq.{bytes_eq-Decides}
use Rattle.lang_base.proofs.EqualLemmas.{equal-true, equal-same}
use Rattle.lang_base.specs.Equal.{equal}
use Rattle.lang_base.specs.Texts.{same_text}
use Rattle.lang_core.specs.Origins.{is_call}
use Rattle.lang_core.specs.contracts.request.Response as response
use Rattle.lang_core.specs.declared.ids.Origin.TheVariants.{Call}
use Rattle.lang_core.specs.declared.request.Response.{Response}
use Rattle.journal_rows.specs.Words.{last_sent}
use Rattle.journal_rows.specs.contracts.caller.SentRow as sent_row
use Rattle.journal_rows.specs.declared.callee.AnsweredRow.{AnsweredRow}
use Rattle.journal_rows.specs.declared.caller.AckHow.{AckHow}
use Rattle.journal_rows.specs.declared.caller.AckHow.TheVariants.{WithAnswer, ToPost}
use Rattle.journal_rows.specs.declared.caller.SentRow.{SentRow}
use Rattle.journal_rows.specs.declared.row.Row.{Row}
use Rattle.journal_rows.specs.declared.row.Row.TheVariants.{Asked, Took, Acked, Answered, WasConfirmed, Sent, SawAck, Noted, SawAnswer, Confirmed, Ordered}
use Rattle.service_events.specs.State.{Kept, me}
use Rattle.service_events.proofs.LogLemmas.{call_is, itself}
use Rattle.service_events.proofs.SearchLemmas.{text_is}
use Rattle.world_agreement.specs.Partners.{HasPartner, HasAcked, HasAcknowledged, HasAnswered, HasGiven, HasConfirmed, HasSent, JournalOf, service_of}
use Rattle.world_audit.specs.Conditions.{sends, acknowledges, is_answer, answers, gives, gives_any, confirms, acknowledges_so, has_row, callee_of, is_partnered}

-- ---- an element that passes

pub record Passes {X : Type 0} (p : X → Bool) (xs : List X) : Type 0 where
  pub element : X
  pub there : Contains xs element
  pub passes : p element ≡ true

further : {X : Type 0} (y : X) (ys : List X) (x : X) → Contains ys x → Contains (y ∷ ys) x
further y ys x c = (suc c.0, (let within = c.1 in omega (arith, within)), c.2)

any_passes : {X : Type 0} (p : X → Bool) (xs : List X) → list_any p xs ≡ true → Passes p xs
any_passes p [] h = cc
any_passes p (y ∷ ys) h = elim (cases_Bool (p y)) [
  | inl is ↦ record { element = y; there = (zero, omega arith, refl); passes = is }
  | inr other ↦ (let rest = any_passes p ys (rw other at h) in
      record { element = rest.element; there = further y ys rest.element rest.there; passes = rest.passes })
]

passes_any : {X : Type 0} (p : X → Bool) (xs : List X) (x : X) → Contains xs x → p x ≡ true → list_any p xs ≡ true
passes_any p xs x c h = list_any_at p xs c.0 x c.1 (ap p c.2 ∙ h)

-- ---- rows of the other service

sends_is : (w : SentRow) (row : Row) → sends w row ≡ true → row ≡ Sent w
sends_is w (Sent s) h = ap (λ r. Sent r) (equal-true sent_row.the_row.coded s w h)
sends_is w (Asked a) h = cc
sends_is w (Took t) h = cc
sends_is w (Acked a) h = cc
sends_is w (Answered a) h = cc
sends_is w (WasConfirmed c) h = cc
sends_is w (SawAck a) h = cc
sends_is w (Noted t) h = cc
sends_is w (SawAnswer a) h = cc
sends_is w (Confirmed c) h = cc
sends_is w (Ordered o) h = cc

acknowledges_is : (c : List ℕ) (n v : ℕ) (row : Row) → acknowledges c n v row ≡ true → row ≡ Acked (record { caller = c; number = n; version = v })
acknowledges_is c n v (Acked a) h =
    let first = and_parts (same_text a.caller c) (nat_eq a.number n && nat_eq a.version v) h in
    let rest = and_parts (nat_eq a.number n) (nat_eq a.version v) first.1 in
    let caller = text_is a.caller c first.0 in
    let number = eqb-true a.number n rest.0 in
    let version = eqb-true a.version v rest.1 in
    λ i. Acked (record { caller = caller i; number = number i; version = version i })
acknowledges_is c n v (Asked a) h = cc
acknowledges_is c n v (Took t) h = cc
acknowledges_is c n v (Answered a) h = cc
acknowledges_is c n v (WasConfirmed w) h = cc
acknowledges_is c n v (Sent s) h = cc
acknowledges_is c n v (SawAck a) h = cc
acknowledges_is c n v (Noted t) h = cc
acknowledges_is c n v (SawAnswer a) h = cc
acknowledges_is c n v (Confirmed w) h = cc
acknowledges_is c n v (Ordered o) h = cc

confirms_is : (n av : ℕ) (row : Row) → confirms n av row ≡ true → row ≡ Confirmed (record { number = n; answer_version = av })
confirms_is n av (Confirmed c) h =
    let parts = and_parts (nat_eq c.number n) (nat_eq c.answer_version av) h in
    let number = eqb-true c.number n parts.0 in
    let version = eqb-true c.answer_version av parts.1 in
    λ i. Confirmed (record { number = number i; answer_version = version i })
confirms_is n av (Asked a) h = cc
confirms_is n av (Took t) h = cc
confirms_is n av (Acked a) h = cc
confirms_is n av (Answered a) h = cc
confirms_is n av (WasConfirmed w) h = cc
confirms_is n av (Sent s) h = cc
confirms_is n av (SawAck a) h = cc
confirms_is n av (Noted t) h = cc
confirms_is n av (SawAnswer a) h = cc
confirms_is n av (Ordered o) h = cc

-- an answer of these versions to this call, with whatever response
abbrev answer_with : List ℕ → ℕ → ℕ → ℕ → Response → ℕ → Bool → Row
answer_with c n av v r id live =
    Answered (record { id = id; origin = Call c n; answer_version = av; version = v; response = r; live = live })

answer_is : (c : List ℕ) (n av v : ℕ) (a : AnsweredRow) → is_answer c n av v a ≡ true → Answered a ≡ answer_with c n av v a.response a.id a.live
answer_is c n av v a h =
    let first = and_parts (is_call c n a.origin) (nat_eq a.answer_version av && nat_eq a.version v) h in
    let rest = and_parts (nat_eq a.answer_version av) (nat_eq a.version v) first.1 in
    let origin = call_is c n a.origin first.0 in
    let answer_version = eqb-true a.answer_version av rest.0 in
    let version = eqb-true a.version v rest.1 in
    λ i. Answered (record { id = a.id; origin = origin i; answer_version = answer_version i; version = version i; response = a.response; live = a.live })

is_answer_with : (c : List ℕ) (n av v : ℕ) → (is_call c n (Call c n) && (nat_eq av av && nat_eq v v)) ≡ true
is_answer_with c n av v =
    and_from (is_call c n (Call c n)) (nat_eq av av && nat_eq v v) (itself c n) (and_from (nat_eq av av) (nat_eq v v) (eq-eqb av av refl) (eq-eqb v v refl))

-- ---- in a journal

abbrev IsTold : Bool → Type 0 → Type 0
IsTold b P = (b ≡ true → P) × (P → b ≡ true)

sent_told : (w : SentRow) (journal : List Row) → IsTold (list_any (sends w) journal) (Contains journal (Sent w))
sent_told w journal = (
  λ h. (let x = any_passes (sends w) journal h in let P : Row → Type 0 = Contains journal in subst P (sends_is w x.element x.passes) x.there),
  λ c. passes_any (sends w) journal (Sent w) c (equal-same sent_row.the_row.coded w w refl),
)

acked_told : (c : List ℕ) (n v : ℕ) (journal : List Row) → IsTold (list_any (acknowledges c n v) journal) (HasAcked c n v journal)
acked_told c n v journal = (
  λ h. (let x = any_passes (acknowledges c n v) journal h in let P : Row → Type 0 = Contains journal in subst P (acknowledges_is c n v x.element x.passes) x.there),
  λ there. passes_any (acknowledges c n v) journal (Acked (record { caller = c; number = n; version = v })) there
      (and_from (same_text c c) (nat_eq n n && nat_eq v v) ((bytes_eq-Decides c c).1 refl) (and_from (nat_eq n n) (nat_eq v v) (eq-eqb n n refl) (eq-eqb v v refl))),
)

confirmed_told : (n av : ℕ) (journal : List Row) → IsTold (list_any (confirms n av) journal) (HasConfirmed n av journal)
confirmed_told n av journal = (
  λ h. (let x = any_passes (confirms n av) journal h in let P : Row → Type 0 = Contains journal in subst P (confirms_is n av x.element x.passes) x.there),
  λ there. passes_any (confirms n av) journal (Confirmed (record { number = n; answer_version = av })) there
      (and_from (nat_eq n n) (nat_eq av av) (eq-eqb n n refl) (eq-eqb av av refl)),
)

-- what a row that passes says
answered_by : (c : List ℕ) (n av v : ℕ) (journal : List Row) (row : Row) → answers c n av v row ≡ true → Contains journal row
    → HasAcknowledged c n v (WithAnswer av) journal
answered_by c n av v journal (Answered a) h there =
    let P : Row → Type 0 = Contains journal in
    (a.response, (a.id, a.live, subst P (answer_is c n av v a h) there))
answered_by c n av v journal (Asked a) h there = cc
answered_by c n av v journal (Took t) h there = cc
answered_by c n av v journal (Acked a) h there = cc
answered_by c n av v journal (WasConfirmed w) h there = cc
answered_by c n av v journal (Sent s) h there = cc
answered_by c n av v journal (SawAck a) h there = cc
answered_by c n av v journal (Noted t) h there = cc
answered_by c n av v journal (SawAnswer a) h there = cc
answered_by c n av v journal (Confirmed w) h there = cc
answered_by c n av v journal (Ordered o) h there = cc

answered_told : (c : List ℕ) (n av v : ℕ) (journal : List Row) → IsTold (list_any (answers c n av v) journal) (HasAcknowledged c n v (WithAnswer av) journal)
answered_told c n av v journal = (
  λ h. (let x = any_passes (answers c n av v) journal h in answered_by c n av v journal x.element x.passes x.there),
  λ has. passes_any (answers c n av v) journal (answer_with c n av v has.0 has.1.0 has.1.1) has.1.2 (is_answer_with c n av v),
)

given_by : (c : List ℕ) (n av v : ℕ) (r : Response) (journal : List Row) (row : Row) → gives c n av v r row ≡ true → Contains journal row → HasAnswered c n av v r journal
given_by c n av v r journal (Answered a) h there =
    let parts = and_parts (is_answer c n av v a) (equal response.the_row.coded a.response r) h in
    let same = equal-true response.the_row.coded a.response r parts.1 in
    let P : Row → Type 0 = Contains journal in
    (a.id, a.live, subst P (answer_is c n av v a parts.0 ∙ ap (λ x. answer_with c n av v x a.id a.live) same) there)
given_by c n av v r journal (Asked a) h there = cc
given_by c n av v r journal (Took t) h there = cc
given_by c n av v r journal (Acked a) h there = cc
given_by c n av v r journal (WasConfirmed w) h there = cc
given_by c n av v r journal (Sent s) h there = cc
given_by c n av v r journal (SawAck a) h there = cc
given_by c n av v r journal (Noted t) h there = cc
given_by c n av v r journal (SawAnswer a) h there = cc
given_by c n av v r journal (Confirmed w) h there = cc
given_by c n av v r journal (Ordered o) h there = cc

given_told : (c : List ℕ) (n av v : ℕ) (r : Response) (journal : List Row) → IsTold (list_any (gives c n av v r) journal) (HasAnswered c n av v r journal)
given_told c n av v r journal = (
  λ h. (let x = any_passes (gives c n av v r) journal h in given_by c n av v r journal x.element x.passes x.there),
  λ has. passes_any (gives c n av v r) journal (answer_with c n av v r has.0 has.1) has.2
      (and_from (is_call c n (Call c n) && (nat_eq av av && nat_eq v v)) (equal response.the_row.coded r r) (is_answer_with c n av v) (equal-same response.the_row.coded r r refl)),
)

announced_by : (c : List ℕ) (n av : ℕ) (journal : List Row) (row : Row) → gives_any c n av row ≡ true → Contains journal row → HasGiven c n av journal
announced_by c n av journal (Answered a) h there =
    let parts = and_parts (is_call c n a.origin) (nat_eq a.answer_version av) h in
    let origin = call_is c n a.origin parts.0 in
    let answer_version = eqb-true a.answer_version av parts.1 in
    let P : Row → Type 0 = Contains journal in
    let same : Answered a ≡ answer_with c n av a.version a.response a.id a.live =
    λ i. Answered (record { id = a.id; origin = origin i; answer_version = answer_version i; version = a.version; response = a.response; live = a.live }) in
    (a.version, a.response, (a.id, a.live, subst P same there))
announced_by c n av journal (Asked a) h there = cc
announced_by c n av journal (Took t) h there = cc
announced_by c n av journal (Acked a) h there = cc
announced_by c n av journal (WasConfirmed w) h there = cc
announced_by c n av journal (Sent s) h there = cc
announced_by c n av journal (SawAck a) h there = cc
announced_by c n av journal (Noted t) h there = cc
announced_by c n av journal (SawAnswer a) h there = cc
announced_by c n av journal (Confirmed w) h there = cc
announced_by c n av journal (Ordered o) h there = cc

announced_told : (c : List ℕ) (n av : ℕ) (journal : List Row) → IsTold (list_any (gives_any c n av) journal) (HasGiven c n av journal)
announced_told c n av journal = (
  λ h. (let x = any_passes (gives_any c n av) journal h in announced_by c n av journal x.element x.passes x.there),
  λ has. passes_any (gives_any c n av) journal (answer_with c n av has.0 has.1 has.2.0 has.2.1) has.2.2
      (and_from (is_call c n (Call c n)) (nat_eq av av) (itself c n) (eq-eqb av av refl)),
)

acknowledged_told : (c : List ℕ) (n v : ℕ) (how : AckHow) (journal : List Row) → IsTold (list_any (acknowledges_so c n v how) journal) (HasAcknowledged c n v how journal)
acknowledged_told c n v (WithAnswer av) journal = answered_told c n av v journal
acknowledged_told c n v ToPost journal = acked_told c n v journal

-- ---- in the journal of a service

at_service : (o : Option Kept) (test : Row → Bool) (P : List Row → Type 0) → ((journal : List Row) → IsTold (list_any test journal) (P journal))
    → IsTold (has_row o test) (IsSomeAnd o (λ s. P s.journal))
at_service None test P told = (λ h. cc, λ no. absurd no)
at_service (Some s) test P told = told s.journal

at_dest : (services : List Kept) (o : Option SentRow) (test : Row → Bool) (P : List Row → Type 0) → ((journal : List Row) → IsTold (list_any test journal) (P journal))
    → IsTold (has_row (callee_of services o) test) (IsSomeAnd o (λ sent. JournalOf services sent.dest P))
at_dest services None test P told = (λ h. cc, λ no. absurd no)
at_dest services (Some sent) test P told = at_service (service_of sent.dest services) test P told

partner_told : (services : List Kept) (s : Kept) (row : Row) → IsTold (is_partnered services s row) (HasPartner services s row)
partner_told services s (Took t) =
    let w : SentRow = record { number = t.number; dest = me s; version = t.version; desired = t.desired } in
    at_service (service_of t.caller services) (sends w) (HasSent (me s) t.number t.version t.desired) (sent_told w)
partner_told services s (SawAck a) =
    at_dest services (last_sent a.number s.journal) (acknowledges_so (me s) a.number a.version a.how) (HasAcknowledged (me s) a.number a.version a.how)
    (acknowledged_told (me s) a.number a.version a.how)
partner_told services s (Noted t) =
    at_dest services (last_sent t.number s.journal) (gives_any (me s) t.number t.answer_version) (HasGiven (me s) t.number t.answer_version)
    (announced_told (me s) t.number t.answer_version)
partner_told services s (SawAnswer a) =
    at_dest services (last_sent a.number s.journal) (gives (me s) a.number a.answer_version a.version a.response)
    (HasAnswered (me s) a.number a.answer_version a.version a.response) (given_told (me s) a.number a.answer_version a.version a.response)
partner_told services s (WasConfirmed c) =
    at_service (service_of c.caller services) (confirms c.number c.answer_version) (HasConfirmed c.number c.answer_version) (confirmed_told c.number c.answer_version)
partner_told services s (Asked a) = (λ h. tt, λ h. refl)
partner_told services s (Acked a) = (λ h. tt, λ h. refl)
partner_told services s (Answered a) = (λ h. tt, λ h. refl)
partner_told services s (Sent x) = (λ h. tt, λ h. refl)
partner_told services s (Confirmed c) = (λ h. tt, λ h. refl)
partner_told services s (Ordered o) = (λ h. tt, λ h. refl)

-- what the test answers is whether the row has its partner
pub partner_exactly : (services : List Kept) (s : Kept) (row : Row) (b : Bool) → b ≡ is_partnered services s row → IsTrue b ↔ HasPartner services s row
partner_exactly services s row b is =
    let told = partner_told services s row in
    (λ h. told.0 (sym is ∙ h), λ p. is ∙ told.1 p)
