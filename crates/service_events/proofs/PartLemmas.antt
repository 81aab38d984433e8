-- Entries and replies follow from the journal as rows come: rows that speak of no entry, and rows that speak of one.
use Rattle.std.proofs.Common.{◌≡◌, ℕ, ◌↔◌, true, false, not, ◌&&◌, List, [], ◌++◌, Option, Some, None, IsSome, IfSome, IsSomeAnd, find, length, All, is_some, option_map, refl, sym, ap, ◌∙◌, subst, inl, inr, nat_eq, eqb-true}
use Rattle.std.specs.List.{AllByRecursion as Each, list_any}
use Rattle.std.proofs.lemmas.Bool.{cases_Bool, cond-true, cond-false}
use Rattle.lang_core.specs.Origins.{is_call}
use Rattle.lang_core.specs.declared.ids.Origin.{Origin}
use Rattle.lang_core.specs.declared.ids.Origin.TheVariants.{Outside, Call}
use Rattle.request_log.specs.Entries.{has_id, find_call}
use Rattle.request_log.specs.declared.entry.Entry.{Entry}
use Rattle.journal_rows.specs.Words.{asked, asked_count, last_taken_of, version_in, wants, request_now, last_mark, settles}
use Rattle.journal_rows.specs.declared.callee.AskedRow.{AskedRow}
use Rattle.journal_rows.specs.declared.row.Row.{Row}
use Rattle.call_registers.specs.Replies.{reply, IsRising}
use Rattle.call_registers.specs.declared.reply.Reply.{Reply}
use Rattle.service_events.specs.Fits.{EachAfter, TakesOn, AsksOn, AnswersOn, ConfirmsOn, FitsAsked, FitsAnswered, FitsReplies, Fits, IsAsNow, HasAnswered, HasReply, IsReply, made_as, asked_as, answer_given, takes_request}
use Rattle.service_events.specs.State.{Kept as Service}
use Rattle.service_events.proofs.LogLemmas.{IsWith, all_with, call_is}
use Rattle.service_events.proofs.CallRowLemmas.{EachAfter-append}
use Rattle.service_events.proofs.EntryRowLemmas.{IsOf, AsksSame, SaysSame, says_same, made_same, calls_same}

-- the log and its replies follow from the journal, in all but that records are what runs gave
pub record IsLogged (journal : List Row) (log : List Entry) (kept : List Reply) : Type 0 where
  pub taken : EachAfter TakesOn [] journal
  pub asked : FitsAsked journal log
  pub answered : FitsAnswered journal log
  pub replies : FitsReplies journal log kept

-- a service that fits its journal has such a log
pub logged : (s : Service) → Fits s → IsLogged s.journal s.entries s.replies
logged s h = record { taken = h.taken; asked = h.asked; answered = h.answered; replies = h.replies }

-- rows that may come
pub record MayCome (journal rows : List Row) : Type 0 where
  pub takes : EachAfter TakesOn journal rows
  pub asks : EachAfter AsksOn journal rows
  pub answers : EachAfter AnswersOn journal rows
  pub confirms : EachAfter ConfirmsOn journal rows

-- ---- an entry of which nothing is said

wants_same : (o : Origin) (j j' : List Row) → last_taken_of o j' ≡ last_taken_of o j → wants o j' ≡ wants o j
wants_same Outside j j' h = refl
wants_same (Call c n) j j' h = rw h refl

pub request_same : (o o' : Option AskedRow) (P P' : AskedRow → Type 0) → o' ≡ o → ((a : AskedRow) → P a → P' a) → IfSome o P → IfSome o' P'
request_same o o' P P' is weaker h = subst (λ x. IfSome x P') (sym is) (here o h)
  where
    here : (o : Option AskedRow) → IfSome o P → IfSome o P'
    here None h = tt
    here (Some a) h = weaker a h

pub as_now_same : (j j' : List Row) (e : Entry) → AsksSame j j' e.id e.origin → IsAsNow j e → IsAsNow j' e
as_now_same j j' e s h = record {
  version = h.version ∙ ap version_in (sym s.taken);
  wanted = h.wanted ∙ sym (wants_same e.origin j j' s.taken);
  request = request_same (asked e.id j) (asked e.id j') (λ a. e.request ≡ request_now e.id e.origin a.request j) (λ a. e.request ≡ request_now e.id e.origin a.request j')
      s.made (λ a is. is ∙ sym (s.request a.request)) h.request;
  struck = h.struck ∙ sym s.struck;
}

pub answered_same : (j j' : List Row) (e : Entry) → SaysSame j j' e.id e.origin → HasAnswered j e → HasAnswered j' e
answered_same j j' e s h = record { answer = h.answer ∙ ap (option_map answer_given) (sym s.answered); first = h.first }

is_reply_same : (j j' : List Row) (c : List ℕ) (n : ℕ) (e : Entry) → last_mark e.id c n j' ≡ last_mark e.id c n j → (o : Option Reply) → IsSomeAnd o (IsReply j c n e)
    → IsSomeAnd o (IsReply j' c n e)
is_reply_same j j' c n e same None h = h
is_reply_same j j' c n e same (Some p) h = record {
  caller = h.caller;
  number = h.number;
  version = h.version;
  wanted = h.wanted;
  answer_version = h.answer_version;
  due = h.due ∙ ap (λ m. e.wanted && not (settles e.answer_version m)) (sym same);
}

reply_same : (j j' : List Row) (kept kept' : List Reply) (e : Entry) (o : Origin) → e.origin ≡ o → SaysSame j j' e.id e.origin → reply e.id kept' ≡ reply e.id kept
    → HasReply j kept e o → HasReply j' kept' e o
reply_same j j' kept kept' e Outside is s same h = same ∙ h
reply_same j j' kept kept' e (Call c n) is s same h =
    subst (λ o. IsSomeAnd o (IsReply j' c n e)) (sym same) (is_reply_same j j' c n e (s.mark c n is) (reply e.id kept) h)

-- ---- rows that speak of no entry

pub record IsOfNone (journal rows : List Row) (log : List Entry) : Type 0 where
  pub may : MayCome journal rows
  pub count : asked_count (journal ++ rows) ≡ asked_count journal
  pub made : (id : ℕ) → asked id (journal ++ rows) ≡ asked id journal
  pub calls : (c : List ℕ) (n : ℕ) → list_any (takes_request c n) (journal ++ rows) ≡ list_any (takes_request c n) journal
  pub same : All (λ e. SaysSame journal (journal ++ rows) e.id e.origin) log

all_both : {X : Type 0} (P Q R : X → Type 0) → ((x : X) → P x → Q x → R x) → (xs : List X) → All P xs → All Q xs → All R xs
all_both P Q R f xs p q = λ k d l. f _ (p k d l) (q k d l)

pub logged_none : (j rows : List Row) (log : List Entry) (kept : List Reply) → IsOfNone j rows log → IsLogged j log kept → IsLogged (j ++ rows) log kept
logged_none j rows log kept n h = record {
  taken = EachAfter-append TakesOn j rows [] h.taken n.may.takes;
  asked = record {
    rows = EachAfter-append AsksOn j rows [] h.asked.rows n.may.asks;
    count = h.asked.count ∙ sym n.count;
    distinct = h.asked.distinct;
    entries = λ id. h.asked.entries id ∙ ap (option_map asked_as) (sym (n.made id));
    calls = λ c m. (let old = h.asked.calls c m in let same = n.calls c m in (λ there. same ∙ old.0 there, λ took. old.1 (sym same ∙ took)));
    now = all_both (λ e. SaysSame j (j ++ rows) e.id e.origin) (IsAsNow j) (IsAsNow (j ++ rows)) (λ e s is. as_now_same j (j ++ rows) e s.asks is) log n.same h.asked.now;
  };
  answered = record {
    rows = EachAfter-append AnswersOn j rows [] h.answered.rows n.may.answers;
    entries = all_both (λ e. SaysSame j (j ++ rows) e.id e.origin) (HasAnswered j) (HasAnswered (j ++ rows)) (λ e s is. answered_same j (j ++ rows) e s is) log n.same h.answered.entries;
  };
  replies = record {
    rows = EachAfter-append ConfirmsOn j rows [] h.replies.rows n.may.confirms;
    entries = all_both (λ e. SaysSame j (j ++ rows) e.id e.origin) (λ e. HasReply j kept e e.origin) (λ e. HasReply (j ++ rows) kept e e.origin)
        (λ e s is. reply_same j (j ++ rows) kept kept e e.origin refl s refl is) log n.same h.replies.entries;
    others = h.replies.others;
    rising = h.replies.rising;
  };
}

-- ---- rows that speak of one entry, which is new or changed

pub record Owes (journal rows : List Row) (log log' : List Entry) (kept kept' : List Reply) (x : Entry) : Type 0 where
  pub may : MayCome journal rows
  pub only : Each (IsOf x.id x.origin) rows
  pub whole : IsWith x log log'
  pub count : length log' ≡ asked_count (journal ++ rows)
  pub made : Some (made_as x) ≡ option_map asked_as (asked x.id (journal ++ rows))
  pub called : (c : List ℕ) (n : ℕ) → x.origin ≡ Call c n → list_any (takes_request c n) (journal ++ rows) ≡ true
  pub now : IsAsNow (journal ++ rows) x
  pub answered : HasAnswered (journal ++ rows) x
  pub replied : HasReply (journal ++ rows) kept' x x.origin
  pub others : (id : ℕ) → nat_eq x.id id ≡ false → reply id kept' ≡ reply id kept
  pub theirs : All (λ (p : Reply). IsSome (find (has_id p.id) log')) kept'
  pub rising : IsRising kept'

module _ (j rows : List Row) (log log' : List Entry) (kept kept' : List Reply) (x : Entry) (o : Owes j rows log log' kept kept' x) where
  asked_one : FitsAsked j log → (id : ℕ) → option_map made_as (find (has_id id) log') ≡ option_map asked_as (asked id (j ++ rows))
  asked_one h id = elim (cases_Bool (nat_eq x.id id)) [
    | inl is ↦ ap (option_map made_as) (o.whole.found id ∙ cond-true (nat_eq x.id id) (Some x) (find (has_id id) log) is) ∙ o.made
        ∙ ap (λ k. option_map asked_as (asked k (j ++ rows))) (eqb-true x.id id is)
    | inr other ↦ ap (option_map made_as) (o.whole.found id ∙ cond-false (nat_eq x.id id) (Some x) (find (has_id id) log) other) ∙ h.entries id
        ∙ ap (option_map asked_as) (sym (made_same x.id x.origin j rows o.only id other))
  ]

  calls_one : FitsAsked j log → (c : List ℕ) (n : ℕ) → IsSome (find_call (Call c n) log') ↔ (list_any (takes_request c n) (j ++ rows) ≡ true)
  calls_one h c n = elim (cases_Bool (is_call c n x.origin)) [
    | inl is ↦ (λ there. o.called c n (call_is c n x.origin is), λ took. ap is_some (o.whole.calls c n ∙ cond-true (is_call c n x.origin) (Some x) (find_call (Call c n) log) is))
    | inr other ↦ (let found = o.whole.calls c n ∙ cond-false (is_call c n x.origin) (Some x) (find_call (Call c n) log) other in
        let same = calls_same x.id x.origin j rows o.only c n other in
        let old = h.calls c n in
        (λ there. same ∙ old.0 (sym (ap is_some found) ∙ there), λ took. ap is_some found ∙ old.1 (sym same ∙ took)))
  ]

  pub logged_one : IsLogged j log kept → IsLogged (j ++ rows) log' kept'
  logged_one h = record {
    taken = EachAfter-append TakesOn j rows [] h.taken o.may.takes;
    asked = record {
      rows = EachAfter-append AsksOn j rows [] h.asked.rows o.may.asks;
      count = o.count;
      distinct = o.whole.distinct;
      entries = asked_one h.asked;
      calls = calls_one h.asked;
      now = all_with (IsAsNow j) (IsAsNow (j ++ rows)) x log log' o.whole o.now
          (λ e other is. as_now_same j (j ++ rows) e (says_same x.id x.origin j rows o.only e.id e.origin other).asks is) h.asked.now;
    };
    answered = record {
      rows = EachAfter-append AnswersOn j rows [] h.answered.rows o.may.answers;
      entries = all_with (HasAnswered j) (HasAnswered (j ++ rows)) x log log' o.whole o.answered
          (λ e other is. answered_same j (j ++ rows) e (says_same x.id x.origin j rows o.only e.id e.origin other) is) h.answered.entries;
    };
    replies = record {
      rows = EachAfter-append ConfirmsOn j rows [] h.replies.rows o.may.confirms;
      entries = all_with (λ e. HasReply j kept e e.origin) (λ e. HasReply (j ++ rows) kept' e e.origin) x log log' o.whole o.replied
          (λ e other is. reply_same j (j ++ rows) kept kept' e e.origin refl (says_same x.id x.origin j rows o.only e.id e.origin other) (o.others e.id other.number) is)
          h.replies.entries;
      others = o.theirs;
      rising = o.rising;
    };
  }
