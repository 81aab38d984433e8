-- What a live request is answered without a run, and when it runs.
use Rattle.std.proofs.Common.{◌≡◌, ◌∙◌, ap, sym, refl, ℕ, ◌<◌, Bool, true, false, cond, List, Option, Some, None, Result, Err, find, option_map}
use Rattle.std.specs.Option.{option_or}
use Rattle.lang_core.specs.declared.ids.Origin.{Origin}
use Rattle.lang_core.specs.declared.ids.Origin.TheVariants.{Outside, Call}
use Rattle.lang_core.specs.declared.inputs.Inputs.{Inputs}
use Rattle.lang_core.specs.declared.request.Request.{Request}
use Rattle.request_log.specs.Entries.{find_call}
use Rattle.request_log.specs.Folded.{as_entry, has_caller}
use Rattle.request_log.specs.Records.{Record, record_of}
use Rattle.request_log.specs.declared.entry.Entry.{Entry}
use Rattle.request_log.specs.declared.folded.Folded.{Folded}
use Rattle.journal_rows.specs.Words.{last_taken}
use Rattle.journal_rows.specs.declared.callee.TookRow.{TookRow}
use Rattle.service_events.specs.State.{Kept, After, after, in_all, or_else, is_heavy, is_in_flight}
use Rattle.service_events.specs.Arriving.{accepted, new_flight, admitted, arrives, known_by, arrives_or_known, by_version, unless_gone, arrive_event}
use Rattle.service_events.specs.Flying.{goes_on}
use Rattle.service_events.specs.declared.answers.Arrived.{Arrived}
use Rattle.service_events.specs.declared.refusals.ArriveRefused.{ArriveRefused}
use Rattle.service_events.specs.declared.refusals.ArriveRefused.TheVariants.{NotYet}
use Rattle.service_parts.specs.Parts.{kept, whole_log}
use Rattle.service_parts.specs.declared.parts.Parts.{Parts}
use Rattle.service_parts.proofs.BoundLaws.{uncrowded}
use Rattle.service_parts.proofs.WholeLemmas.{call_found}
use Rattle.service_requests.specs.Arrivals.{Early, by_made, by_entry, deletion_of, deletion_in, unless_deleted, known, too_much, refusal, before_run}

-- what is left where it is answered early, or not
abbrev unless_early : Kept → Early → After (Result Arrived ArriveRefused) → After (Result Arrived ArriveRefused)
unless_early s (Some r) runs = after s r
unless_early s None runs = runs

module _ (s : Kept) (q : Request) (i : Inputs) where
  made_is : (c : List ℕ) (n : ℕ) (e : Entry) (m : Option Record) (runs : After (Result Arrived ArriveRefused)) → known_by s c n e m ≡ unless_early s (by_made s c n e m) runs
  made_is c n e None runs = refl
  made_is c n e (Some m) runs = refl

  entry_is : (c : List ℕ) (n : ℕ) (e : Option Entry) → arrives_or_known s c n q i e ≡ unless_early s (by_entry s c n e) (arrives s (Call c n) q i)
  entry_is c n None = refl
  entry_is c n (Some e) = made_is c n e (record_of e) (arrives s (Call c n) q i)

  version_is : (version : ℕ) (d : Option Request) (a runs : After (Result Arrived ArriveRefused)) (k : Early) → a ≡ unless_early s k runs
      → by_version s version d a ≡ unless_early s (unless_deleted (deletion_of version d) k) runs
  version_is version None a runs k h = refl
  version_is version (Some d) a runs k h = h

  deletion_is : (t : Option TookRow) (a runs : After (Result Arrived ArriveRefused)) (k : Early) → a ≡ unless_early s k runs
      → unless_gone s t a ≡ unless_early s (unless_deleted (deletion_in t) k) runs
  deletion_is None a runs k h = h
  deletion_is (Some t) a runs k h = version_is t.version t.desired a runs k h

  flying_is : (b : Bool) (r : Result Arrived ArriveRefused) (a runs : After (Result Arrived ArriveRefused)) (k : Early) → a ≡ unless_early s k runs
      → cond b (after s r) a ≡ unless_early s (cond b (Some r) k) runs
  flying_is true r a runs k h = refl
  flying_is false r a runs k h = h

  known_is : (o : Origin) → arrive_event s o q i ≡ unless_early s (known s o) (arrives s o q i)
  known_is Outside = refl
  known_is (Call c n) =
      let t = last_taken c n s.journal in
      let e = find_call (Call c n) s.entries in
      let runs = arrives s (Call c n) q i in
      flying_is (is_in_flight (Call c n) s) (Err (NotYet n)) (unless_gone s t (arrives_or_known s c n q i e)) runs (unless_deleted (deletion_in t) (by_entry s c n e))
      (deletion_is t (arrives_or_known s c n q i e) runs (by_entry s c n e) (entry_is c n e))

  admitted_is : (o : Origin) (full : Option ℕ) → admitted s o q i full ≡ unless_early s (option_map refusal full) (accepted (goes_on s (new_flight s o q i)))
  admitted_is o None = refl
  admitted_is o (Some n) = refl

  before_is : (o : Origin) (k : Early)
      → unless_early s k (arrives s o q i) ≡ unless_early s (or_else k (option_map refusal (too_much s))) (accepted (goes_on s (new_flight s o q i)))
  before_is o (Some r) = refl
  before_is o None = admitted_is o (too_much s)

  arrive_is : (o : Origin) → arrive_event s o q i ≡ unless_early s (before_run s o) (accepted (goes_on s (new_flight s o q i)))
  arrive_is o = known_is o ∙ before_is o (known s o)

  -- it is answered so, and nothing changes
  pub arrive_early : (o : Origin) (r : Result Arrived ArriveRefused) → Some r ≡ before_run s o → after s r ≡ arrive_event s o q i
  arrive_early o r e = ap (λ k. unless_early s k (accepted (goes_on s (new_flight s o q i)))) e ∙ sym (arrive_is o)

  -- it runs
  pub arrive_runs : (o : Origin) → before_run s o ≡ None → accepted (goes_on s (new_flight s o q i)) ≡ arrive_event s o q i
  arrive_runs o e = sym (arrive_is o ∙ ap (λ k. unless_early s k (accepted (goes_on s (new_flight s o q i)))) e)

-- ---- a call that runs has no entry

no_entry : (s : Kept) (c : List ℕ) (n : ℕ) (e : Option Entry) → by_entry s c n e ≡ None → e ≡ None
no_entry s c n None h = refl
no_entry s c n (Some e) h = absurd (known_made (record_of e) h)
  where
    known_made : (m : Option Record) → by_made s c n e m ≡ None → ⊥
    known_made None h = cc
    known_made (Some m) h = cc

undeleted : (d : Option ℕ) (k : Early) → unless_deleted d k ≡ None → k ≡ None
undeleted None k h = h
undeleted (Some v) k h = cc

unflown : (b : Bool) (r : Result Arrived ArriveRefused) (k : Early) → cond b (Some r) k ≡ None → k ≡ None
unflown true r k h = cc
unflown false r k h = h

neither : (k l : Early) → or_else k l ≡ None → (k ≡ None) × (l ≡ None)
neither None l h = (refl, h)
neither (Some r) l h = cc

unmapped : (full : Option ℕ) → option_map refusal full ≡ None → full ≡ None
unmapped None h = refl
unmapped (Some n) h = cc

unknown : (s : Kept) (o : Origin) → known s o ≡ None → find_call o s.entries ≡ None
unknown s Outside h = refl
unknown s (Call c n) h =
    let e = find_call (Call c n) s.entries in
    let d = deletion_in (last_taken c n s.journal) in
    no_entry s c n e (undeleted d (by_entry s c n e) (unflown (is_in_flight (Call c n) s) (Err (NotYet n)) (unless_deleted d (by_entry s c n e)) h))

-- a live request that runs has no entry, and there is a place for one more
pub record MayRun (s : Kept) (o : Origin) : Type 0 where
  pub alone : find_call o s.entries ≡ None
  pub place : in_all s < 100000

pub may_run : (s : Kept) (o : Origin) → before_run s o ≡ None → MayRun s o
may_run s o h =
    let parts = neither (known s o) (option_map refusal (too_much s)) h in
    record { alone = unknown s o parts.0; place = uncrowded s (is_heavy s) (unmapped (too_much s) parts.1) }

-- ---- by a folded entry, or by another one

module _ (p : Parts) (c : List ℕ) (n : ℕ) where
  abbrev answered : Option Entry → Early
  answered o = by_entry (kept p) c n o

  -- what is found among all
  found_by : (o : Option Folded) → find (has_caller c n) p.repairer.folded ≡ o
      → find_call (Call c n) (whole_log p.repairer) ≡ option_or (option_map as_entry o) (find_call (Call c n) p.repairer.entries)
  found_by o is =
      call_found c n p.repairer.folded p.repairer.entries ∙ ap (λ (x : Option Folded). option_or (option_map as_entry x) (find_call (Call c n) p.repairer.entries)) is

  pub past_answers : (f : Folded) → find (has_caller c n) p.repairer.folded ≡ Some f
      → by_made (kept p) c n (as_entry f) (record_of (as_entry f)) ≡ answered (find_call (Call c n) (whole_log p.repairer))
  past_answers f is = sym (ap answered (found_by (Some f) is))

  pub later_answers : find (has_caller c n) p.repairer.folded ≡ None
      → answered (find_call (Call c n) p.repairer.entries) ≡ answered (find_call (Call c n) (whole_log p.repairer))
  later_answers is = sym (ap answered (found_by None is))
