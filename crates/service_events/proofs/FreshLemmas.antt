-- The next number is that of no entry, and nothing was said of it.
use Rattle.std.proofs.Common.{◌≡◌, ◌+◌, ◌<◌, ◌≤◌, Bool, true, false, cond, List, Option, Some, None, IsSome, find, length, All, is_some, option_map, refl, sym, ap, ◌∙◌, subst, inl, inr, nat_eq, arith, eqb-true}
use Rattle.std.proofs.lemmas.List.Elements.{All-weaker}
use Rattle.lang_core.specs.declared.ids.Origin.{Origin}
use Rattle.lang_core.specs.declared.ids.Origin.TheVariants.{Outside, Call}
use Rattle.lang_core.specs.declared.request.Request.{Request}
use Rattle.request_log.specs.Entries.{has_id, find_call, IsNew}
use Rattle.request_log.specs.declared.entry.Entry.{Entry}
use Rattle.journal_rows.specs.Words.{asked, asked_count, last_taken_of, request_now, is_struck, last_answered}
use Rattle.journal_rows.specs.declared.row.Row.{Row}
use Rattle.call_registers.specs.Replies.{has_entry, reply}
use Rattle.call_registers.specs.declared.reply.Reply.{Reply}
use Rattle.service_events.specs.Fits.{made_as, asked_as}
use Rattle.service_events.proofs.JournalLemmas.{not_made, made_within, not_struck, IsUntaken, not_asked_anew, no_answer, untaken}
use Rattle.service_events.proofs.LogLemmas.{IsWith}
use Rattle.service_events.proofs.PartLemmas.{IsLogged}
use Rattle.service_events.proofs.SearchLemmas.{some_or_none, splits, found_all, some_none}

none_mapped : {X Y Z : Type 0} (f : X → Z) (g : Y → Z) (o : Option X) (p : Option Y) → option_map f o ≡ option_map g p → p ≡ None → o ≡ None
none_mapped f g None p e n = refl
none_mapped f g (Some x) None e n = cc
none_mapped f g (Some x) (Some y) e n = cc

some_mapped : {X Y Z : Type 0} (f : X → Z) (g : Y → Z) (o : Option X) (p : Option Y) → option_map f o ≡ option_map g p → IsSome o → IsSome p
some_mapped f g None p e some = cc
some_mapped f g (Some x) None e some = cc
some_mapped f g (Some x) (Some y) e some = refl

module _ (j : List Row) (log : List Entry) (kept : List Reply) (h : IsLogged j log kept) where
  pub unmade : asked (length log + 1) j ≡ None
  unmade = not_made j (length log + 1) h.asked.rows (omega (arith, h.asked.count))

  pub unfound : find (has_id (length log + 1)) log ≡ None
  unfound = none_mapped made_as asked_as (find (has_id (length log + 1)) log) (asked (length log + 1) j) (h.asked.entries (length log + 1)) unmade

  pub unanswered : last_answered (length log + 1) j ≡ None
  unanswered = no_answer j (length log + 1) h.answered.rows unmade

  pub unstruck : is_struck (length log + 1) j ≡ false
  unstruck = not_struck j (length log + 1) h.asked.rows unmade

  pub asks_as_made : (o : Origin) (q : Request) → IsUntaken o j → request_now (length log + 1) o q j ≡ q
  asks_as_made o q untaken = not_asked_anew j (length log + 1) o q h.asked.rows unmade untaken

  pub unreplied : reply (length log + 1) kept ≡ None
  unreplied = elim (some_or_none (reply (length log + 1) kept)) [
    | inl none ↦ none
    | inr some ↦ (let there : IsSome (find (has_id (some.0).id) log) = found_all (λ (p : Reply). IsSome (find (has_id p.id) log)) (has_entry (length log + 1)) kept some.0 h.replies.others some.1 in
        let is : (some.0).id ≡ length log + 1 = eqb-true (some.0).id (length log + 1) (splits (has_entry (length log + 1)) kept some.0 some.1).passes in
        absurd (some_none (find (has_id (some.0).id) log) there (ap (λ k. find (has_id k) log) is ∙ unfound)))
  ]

  pub below_next : All (λ (p : Reply). p.id < length log + 1) kept
  below_next = All-weaker (λ (p : Reply). IsSome (find (has_id p.id) log)) (λ (p : Reply). p.id < length log + 1)
      (λ p there.
      let made : IsSome (asked p.id j) = some_mapped made_as asked_as (find (has_id p.id) log) (asked p.id j) (h.asked.entries p.id) there in
      let most : p.id ≤ asked_count j = made_within j p.id h.asked.rows made in
      omega (arith, most, h.asked.count)) kept h.replies.others

  pub alone : (o : Origin) → IsUntaken o j → find_call o log ≡ None
  alone Outside untaken = refl
  alone (Call c n) untaken = elim (some_or_none (find_call (Call c n) log)) [
    | inl none ↦ none
    | inr some ↦ (let taken = (h.asked.calls c n).0 (ap is_some some.1) in cc)
  ]

  pub is_new : (x : Entry) → x.id ≡ length log + 1 → IsUntaken x.origin j → IsNew x log
  is_new x id untaken = record { id = ap (λ k. find (has_id k) log) id ∙ unfound; origin = alone x.origin untaken }

pub untaken_of : (o : Origin) (j : List Row) → last_taken_of o j ≡ None → IsUntaken o j
untaken_of Outside j h = tt
untaken_of (Call c n) j h = untaken c n j h

still_some : (b : Bool) (x : Entry) (o : Option Entry) → IsSome o → IsSome (cond b (Some x) o)
still_some true x o h = refl
still_some false x o h = h

-- what has an entry has one in a log with an entry more
pub still_found : (x : Entry) (log log' : List Entry) (kept : List Reply) → IsWith x log log' → All (λ (p : Reply). IsSome (find (has_id p.id) log)) kept
    → All (λ (p : Reply). IsSome (find (has_id p.id) log')) kept
still_found x log log' kept w h =
    All-weaker (λ (p : Reply). IsSome (find (has_id p.id) log)) (λ (p : Reply). IsSome (find (has_id p.id) log'))
    (λ p there. subst IsSome (sym (w.found p.id)) (still_some (nat_eq x.id p.id) x (find (has_id p.id) log) there)) kept h
