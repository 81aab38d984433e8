-- What comes of live calls.
use Rattle.std.proofs.Common.{◌≡◌, ℕ, ◌+◌, ◌<◌, inl, inr, Bool, true, false, List, [], ◌∷◌, ◌++◌, Option, Some, None, Result, Ok, Err, IfOk, refl, sym, ap, ◌∙◌, subst, arith, append_assoc, if◌then◌else◌}
use Rattle.std.proofs.lemmas.List.Elements.{All-append, All-cons, All-nil}
use Rattle.std.proofs.lemmas.List.{append-nil}
use Rattle.lang_base.specs.declared.memory.NoMemory.{NoMemory as LacksMemory}
use Rattle.repair_messages.specs.declared.messages.AnswerMessage.{AnswerMessage}
use Rattle.repair_messages.specs.declared.messages.SetMessage.{SetMessage}
use Rattle.call_registers.specs.declared.register.Why.{Why}
use Rattle.call_registers.specs.declared.register.Why.TheVariants as whys
use Rattle.service_events.specs.declared.refusals.ArriveRefused.{ArriveRefused}
use Rattle.service_events.specs.declared.refusals.ArriveRefused.TheVariants as arrive
use Rattle.io_edge.specs.Edge.{Rose}
use Rattle.io_links.specs.Exchanges.{Exchanges, IsFailure, Leaves}
use Rattle.io_links.specs.declared.links.Exchange.{Exchange}
use Rattle.io_links.specs.declared.links.Exchange.TheVariants as answers
use Rattle.io_links.specs.declared.links.Exchanged.{Exchanged}
use Rattle.http_front.specs.declared.message.FrontRefused.{FrontRefused}
use Rattle.wire_fields.specs.declared.refused.WireRefused.{WireRefused}
use Rattle.wire_replies.specs.declared.kinds.Asking.TheVariants as asked
use Rattle.wire_replies.specs.declared.replies.Outgoing.{Outgoing}
use Rattle.wire_replies.specs.declared.replies.Outgoing.TheVariants as replies
use Rattle.wire_words.specs.Failures.{arrive_refused, why_failed}
use Rattle.wire_bytes.specs.Hearing.{IsReplied}
use Rattle.wire_bytes.specs.declared.hearing.Replied.{Replied}
use Rattle.node_exchanges.specs.Calls.{AreCalls, AtLeast, CallSent, CallsIt, CallsMade, CameOf, FailsOnly, IsCall, IsLost, IsRefused, LinkTells, SendsAtMost, answers_call, answers_in, came_by, came_in, came_of, came_with, is_answer_to, lost_by_one, refused_by_one, replies_so}
use Rattle.node_exchanges.specs.Endpoints.{Endpoint}
use Rattle.node_exchanges.specs.Exchanging.{ComesBack, IsExchanged, back_of, if_reply}
use Rattle.node_exchanges.specs.declared.exchanges.Back.{Back}
use Rattle.node_exchanges.specs.declared.exchanges.Back.TheVariants as backs

-- ---- how many

pub at_least_none : {X : Type 0} (P : X → Type 0) → (xs : List X) → AtLeast P 0 xs
at_least_none P [] = refl
at_least_none P (x ∷ xs) = inl (at_least_none P xs)

at_least_both : {X : Type 0} (P : X → Type 0) → (m n : ℕ) (xs ys : List X) → AtLeast P m xs → AtLeast P n ys → AtLeast P (m + n) (xs ++ ys)
at_least_both P m n [] ys none h = let same : n ≡ m + n = omega (arith, none) in subst (λ (k : ℕ). AtLeast P k ys) same h
at_least_both P m n (x ∷ xs) ys (inl later) h = inl (at_least_both P m n xs ys later h)
at_least_both P m n (x ∷ xs) ys (inr here) h =
    let one = here.1 in
    inr (here.0 + n, omega (arith, one), here.2, at_least_both P here.0 n xs ys here.3 h)

at_least_one : {X : Type 0} (P : X → Type 0) → (x : X) → P x → AtLeast P 1 (x ∷ [])
at_least_one P x h = inr (0, refl, h, refl)

-- ---- exchanges, one after the other

both_calls : (e : Endpoint) (l m r q : ℕ) (xs ys : List Exchanged) → AreCalls e l r xs → AreCalls e m q ys → AreCalls e (l + m) (r + q) (xs ++ ys)
both_calls e l m r q xs ys one two =
    record {
      calls = All-append (IsCall e) xs ys one.calls two.calls;
      lost_so = at_least_both IsLost l m xs ys one.lost_so two.lost_so;
      refused_so = at_least_both (IsRefused e) r q xs ys one.refused_so two.refused_so;
    }

-- calls of two stretches
pub calls_on : (e : Endpoint) (l m r q : ℕ) (a b c : Exchanges) → CallsMade e l r a b → CallsMade e m q b c → CallsMade e (l + m) (r + q) a c
calls_on e l m r q a b c one two all is =
    let x = one all is in
    let y = two (all ++ x.0) x.1 in
    (x.0 ++ y.0, y.1 ∙ ap Some (append_assoc all x.0 y.0), both_calls e l m r q x.0 y.0 x.2 y.2)

no_calls : (e : Endpoint) → AreCalls e 0 0 []
no_calls e = record { calls = All-nil (IsCall e); lost_so = refl; refused_so = refl }

-- no exchange was made
pub none_told : (a b : Exchanges) → b ≡ a → LinkTells a b []
none_told a b same all is = ap (λ (x : Exchanges). x.made) same ∙ is ∙ ap Some (sym (append-nil all))

-- where no exchange was made
pub none_made : (e : Endpoint) (a b : Exchanges) → b ≡ a → CallsMade e 0 0 a b
none_made e a b same all is = ([], none_told a b same all is, no_calls e)

-- ---- one call

-- it is an answer to the call, or else a refusal, where the reply is none
abbrev IsReadAs : SetMessage → Bool → Result AnswerMessage Why → Type 0
IsReadAs set answers (Ok came) = is_answer_to set came ≡ true
IsReadAs set answers (Err (whys.Refused word number)) = answers ≡ false
IsReadAs set answers (Err why) = ⊥

reads_answer : (set : SetMessage) (status : ℕ) (a : AnswerMessage) (answers : Bool) → is_answer_to set a ≡ answers
    → IsReadAs set answers (if answers then Ok a else Err (why_failed None status))
reads_answer set status a true is = is
reads_answer set status a false is = refl

reads_refusal : (set : SetMessage) (refused : Option ArriveRefused) (status : ℕ) → IsReadAs set false (Err (why_failed refused status))
reads_refusal set None status = refl
reads_refusal set (Some arrive.NoMemory) status = refl
reads_refusal set (Some (arrive.Full n)) status = refl
reads_refusal set (Some (arrive.NotYet n)) status = refl
reads_refusal set (Some (arrive.Gone v)) status = refl

reads_reply : (set : SetMessage) (status : ℕ) (reply : Outgoing) → IsReadAs set (replies_so set reply) (came_in set status (Ok reply))
reads_reply set status (replies.Answered id None response) = refl
reads_reply set status (replies.Answered id (Some a) response) = reads_answer set status a (is_answer_to set a) refl
reads_reply set status (replies.Ack ack) = refl
reads_reply set status (replies.Confirm confirm) = refl
reads_reply set status (replies.Refused word n) = reads_refusal set (arrive_refused word n) status

reads_in : (set : SetMessage) (status : ℕ) (reply : Result Outgoing WireRefused) → IsReadAs set (answers_in set reply) (came_in set status reply)
reads_in set status (Ok reply) = reads_reply set status reply
reads_in set status (Err why) = refl

reads_so : (set : SetMessage) (read : Result Replied FrontRefused) → IsReadAs set (answers_call set read) (came_of set read)
reads_so set (Ok replied) = reads_in set replied.status replied.reply
reads_so set (Err why) = refl

-- what came of a call by its reply
pub spelled_by : (e : Endpoint) (set : SetMessage) (secret bytes : List ℕ) (came : Result AnswerMessage Why) → CameOf e set secret (answers.Reply bytes) came
    → (read : Result Replied FrontRefused) × (left : List ℕ) × IsReplied e.me set.dest secret asked.Call bytes read left × IsReadAs set (answers_call set read) came
spelled_by e set secret bytes came of = (of.0, of.1, of.2, subst (IsReadAs set (answers_call set of.0)) (sym of.3) (reads_so set of.0))

-- ---- its exchange

abbrev pub Came : Type 0
Came = Result (Result AnswerMessage Why) LacksMemory

module _ (e : Endpoint) (set : SetMessage) (secret address bytes : List ℕ) (before now : Exchanges) where
  abbrev exchanged : Exchange → Exchanged
  exchanged answer = record { address = address; bytes = bytes; answer = answer }

  abbrev Sent : Exchange → Type 0
  Sent answer = CallSent e set secret (exchanged answer)

  one_made : (answer : Exchange) (lost refused : ℕ) → Sent answer → AtLeast IsLost lost (exchanged answer ∷ []) → AtLeast (IsRefused e) refused (exchanged answer ∷ [])
      → AreCalls e lost refused (exchanged answer ∷ [])
  one_made answer lost refused sent lost_so refused_so =
      record {
        calls = All-cons (IsCall e) (exchanged answer) [] (record { set = set; secret = secret; sent = sent }) (All-nil (IsCall e));
        lost_so = lost_so;
        refused_so = refused_so;
      }

  not_counted : (answer : Exchange) → Sent answer → AreCalls e 0 0 (exchanged answer ∷ [])
  not_counted answer sent = one_made answer 0 0 sent (at_least_none IsLost (exchanged answer ∷ [])) (at_least_none (IsRefused e) (exchanged answer ∷ []))

  came_so : (answer : Exchange) (came : Came) → Sent answer → IfOk came (CameOf e set secret answer)
      → AreCalls e (lost_by_one came) (refused_by_one came) (exchanged answer ∷ [])
  came_so answer (Err why) sent of = not_counted answer sent
  came_so answer (Ok (Ok a)) sent of = not_counted answer sent
  came_so (answers.Reply back) (Ok (Err (whys.Refused word n))) sent of =
      one_made (answers.Reply back) 0 1 sent (at_least_none IsLost (exchanged (answers.Reply back) ∷ []))
      (at_least_one (IsRefused e) (exchanged (answers.Reply back))
      (record { set = set; secret = secret; sent = sent; bytes = back; reply = refl; no = spelled_by e set secret back (Err (whys.Refused word n)) of }))
  came_so (answers.Reply back) (Ok (Err (whys.Lost note))) sent of = absurd (spelled_by e set secret back (Err (whys.Lost note)) of).3
  came_so (answers.Reply back) (Ok (Err whys.Changes)) sent of = absurd (spelled_by e set secret back (Err whys.Changes) of).3
  came_so answers.NoMemory (Ok (Err why)) sent of = absurd of
  came_so (answers.Failed note) (Ok (Err (whys.Lost fault))) sent of =
      one_made (answers.Failed note) 1 0 sent (at_least_one IsLost (exchanged (answers.Failed note)) tt) (at_least_none (IsRefused e) (exchanged (answers.Failed note) ∷ []))
  came_so (answers.Failed note) (Ok (Err (whys.Refused word n))) sent of = absurd (cc of)
  came_so (answers.Failed note) (Ok (Err whys.Changes)) sent of = absurd (cc of)

  -- an exchange for which memory was wanting wasn't made, and nothing came of it
  unsent : (came : Came) → IfOk came (CameOf e set secret answers.NoMemory) → now ≡ before → CallsMade e (lost_by_one came) (refused_by_one came) before now
  unsent (Err why) of same = none_made e before now same
  unsent (Ok came) of same = absurd of

  -- what a call leaves of its link
  pub one_call : (answer : Exchange) (came : Came) → Sent answer → Leaves before now address bytes answer → IfOk came (CameOf e set secret answer)
      → CallsMade e (lost_by_one came) (refused_by_one came) before now
  one_call (answers.Reply back) came sent made of = λ all is. (exchanged (answers.Reply back) ∷ [], made all is, came_so (answers.Reply back) came sent of)
  one_call answers.NoMemory came sent same of = unsent came of same
  one_call (answers.Failed note) came sent made of = λ all is. (exchanged (answers.Failed note) ∷ [], made all is, came_so (answers.Failed note) came sent of)

  -- where something came of it, it was made
  call_made : (came : Result AnswerMessage Why) (answer : Exchange) → Sent answer → Leaves before now address bytes answer → CameOf e set secret answer came
      → CallsIt e set came before now
  call_made came (answers.Reply back) sent made of = (exchanged (answers.Reply back), made, record { secret = secret; sent = sent; so = of })
  call_made came answers.NoMemory sent same of = absurd of
  call_made came (answers.Failed note) sent made of = (exchanged (answers.Failed note), made, record { secret = secret; sent = sent; so = of })

  pub calls_it : (answer : Exchange) (came : Came) → Sent answer → Leaves before now address bytes answer → IfOk came (CameOf e set secret answer)
      → IfOk came (λ (c : Result AnswerMessage Why). CallsIt e set c before now)
  calls_it answer (Ok came) sent made of = call_made came answer sent made of
  calls_it answer (Err why) sent made of = tt

  -- it was sent once at most
  sent_at_most : (answer : Exchange) → Sent answer → Leaves before now address bytes answer → SendsAtMost e set before now
  sent_at_most (answers.Reply back) sent made = inr (exchanged (answers.Reply back), made, (secret, sent))
  sent_at_most answers.NoMemory sent same = inl same
  sent_at_most (answers.Failed note) sent made = inr (exchanged (answers.Failed note), made, (secret, sent))

-- ---- what was lost

-- a reply loses nothing
pub not_lost : (e : Endpoint) (set : SetMessage) (secret back : List ℕ) (came : Came) → IfOk came (CameOf e set secret (answers.Reply back)) → 0 < lost_by_one came → ⊥
not_lost e set secret back (Err why) of one = omega (arith, one)
not_lost e set secret back (Ok (Ok a)) of one = omega (arith, one)
not_lost e set secret back (Ok (Err (whys.Lost note))) of one = (spelled_by e set secret back (Err (whys.Lost note)) of).3
not_lost e set secret back (Ok (Err (whys.Refused word n))) of one = omega (arith, one)
not_lost e set secret back (Ok (Err whys.Changes)) of one = omega (arith, one)

-- a call fails by its exchange or by its reply
pub fails_only : (e : Endpoint) (set : SetMessage) (secret : List ℕ) (answer : Exchange) (came : Came) → IfOk came (CameOf e set secret answer) → IfOk came FailsOnly
fails_only e set secret answer (Err why) of = tt
fails_only e set secret answer (Ok (Ok a)) of = tt
fails_only e set secret answer (Ok (Err (whys.Lost note))) of = tt
fails_only e set secret answer (Ok (Err (whys.Refused word n))) of = tt
fails_only e set secret (answers.Reply back) (Ok (Err whys.Changes)) of = absurd (spelled_by e set secret back (Err whys.Changes) of).3
fails_only e set secret answers.NoMemory (Ok (Err whys.Changes)) of = absurd of
fails_only e set secret (answers.Failed note) (Ok (Err whys.Changes)) of = absurd (cc of)

-- ---- what is made of what came back

by_reply : (set : SetMessage) (status : ℕ) (reply : Result Outgoing WireRefused) → came_by set (backs.Response status (if_reply reply)) ≡ came_in set status reply
by_reply set status (Ok reply) = refl
by_reply set status (Err why) = refl

by_read : (set : SetMessage) (read : Result Replied FrontRefused) → came_by set (back_of read) ≡ came_of set read
by_read set (Ok replied) = by_reply set replied.status replied.reply
by_read set (Err why) = refl

-- what came back says what came of the call
came_from : (e : Endpoint) (set : SetMessage) (secret : List ℕ) (answer : Exchange) (came : Result Back LacksMemory)
    → IfOk came (ComesBack e.me set.dest secret asked.Call answer) → IfOk (came_with set came) (CameOf e set secret answer)
came_from e set secret (answers.Reply bytes) (Ok came) of = (of.0, of.1, of.2, ap (came_by set) of.3 ∙ by_read set of.0)
came_from e set secret answers.NoMemory (Ok came) of = of
came_from e set secret (answers.Failed note) (Ok came) of = ap (came_by set) of
came_from e set secret answer (Err why) of = tt

-- what is lost is so by a failure
lost_by_failure : (e : Endpoint) (set : SetMessage) (secret : List ℕ) (answer : Exchange) (came : Came) → IfOk came (CameOf e set secret answer) → 0 < lost_by_one came
    → IsFailure answer
lost_by_failure e set secret (answers.Reply bytes) came of lost = absurd (not_lost e set secret bytes came of lost)
lost_by_failure e set secret answers.NoMemory (Ok came) of lost = absurd of
lost_by_failure e set secret answers.NoMemory (Err why) of lost = absurd (omega (arith, lost))
lost_by_failure e set secret (answers.Failed note) came of lost = tt

-- a call, and what it leaves of its link
pub record IsCalled (e : Endpoint) (set : SetMessage) (before now : Exchanges) (what : Came) : Type 0 where
  pub came : IfOk what (λ (c : Result AnswerMessage Why). CallsIt e set c before now)
  pub calls : CallsMade e (lost_by_one what) (refused_by_one what) before now
  pub rose : 0 < lost_by_one what → Rose before.faults now.faults
  pub failure : IfOk what FailsOnly
  pub sends : SendsAtMost e set before now

pub called : (e : Endpoint) (set : SetMessage) (secret address bytes : List ℕ) (before now : Exchanges) (came : Result Back LacksMemory)
    → ((answer : Exchange) → CallSent e set secret (record { address = address; bytes = bytes; answer = answer }))
    → IsExchanged e.me set.dest secret asked.Call address bytes before now came → IsCalled e set before now (came_with set came)
called e set secret address bytes before now came sent made =
    let answer : Exchange = made.answer in
    let of = came_from e set secret answer came made.back in
    record {
      came = calls_it e set secret address bytes before now answer (came_with set came) (sent answer) made.left of;
      calls = one_call e set secret address bytes before now answer (came_with set came) (sent answer) made.left of;
      rose = λ lost. made.rose (lost_by_failure e set secret answer (came_with set came) of lost);
      failure = fails_only e set secret answer (came_with set came) of;
      sends = sent_at_most e set secret address bytes before now answer (sent answer) made.left;
    }
