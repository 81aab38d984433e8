-- A reply that is held or released: what follows from the journal of it stays.
use Rattle.std.proofs.Common.{◌≡◌, ℕ, false, List, Option, Some, None, IsSome, IsSomeAnd, find, option_map, sym, ap, ◌∙◌, subst, inl, inr, nat_eq, eqb-true}
use Rattle.std.proofs.lemmas.Bool.{cases_Bool}
use Rattle.std.proofs.lemmas.List.Elements.{All-weaker}
use Rattle.lang_core.specs.declared.ids.Origin.{Origin}
use Rattle.lang_core.specs.declared.ids.Origin.TheVariants.{Outside, Call}
use Rattle.request_log.specs.Entries.{has_id}
use Rattle.request_log.specs.declared.entry.Entry.{Entry}
use Rattle.journal_rows.specs.declared.row.Row.{Row}
use Rattle.call_registers.specs.Replies.{reply, at_entry}
use Rattle.call_registers.specs.declared.reply.Reply.{Reply}
use Rattle.service_events.specs.Fits.{HasReply, IsReply}
use Rattle.service_events.proofs.PartLemmas.{IsLogged}
use Rattle.service_events.proofs.ReplyLemmas.{change_own, change_other, rising_change, all_change}

-- a reply like another, but for how it is sent
pub record IsLike (p q : Reply) : Type 0 where
  pub id : q.id ≡ p.id
  pub caller : q.caller ≡ p.caller
  pub number : q.number ≡ p.number
  pub version : q.version ≡ p.version
  pub wanted : q.wanted ≡ p.wanted
  pub answer_version : q.answer_version ≡ p.answer_version
  pub due : q.due ≡ p.due

like_reply : (j : List Row) (c : List ℕ) (n : ℕ) (e : Entry) (p q : Reply) → IsLike p q → IsReply j c n e p → IsReply j c n e q
like_reply j c n e p q l r = record {
  caller = l.caller ∙ r.caller;
  number = l.number ∙ r.number;
  version = l.version ∙ r.version;
  wanted = l.wanted ∙ r.wanted;
  answer_version = l.answer_version ∙ r.answer_version;
  due = l.due ∙ r.due;
}

module _ (j : List Row) (kept : List Reply) (id : ℕ) (f : Reply → Reply) (like : (p : Reply) → IsLike p (f p)) where
  like_some : (c : List ℕ) (n : ℕ) (e : Entry) (o : Option Reply) → IsSomeAnd o (IsReply j c n e) → IsSomeAnd (option_map f o) (IsReply j c n e)
  like_some c n e None h = h
  like_some c n e (Some p) h = like_reply j c n e p (f p) (like p) h

  here : (e : Entry) (o : Origin) → HasReply j kept e o → e.id ≡ id → HasReply j (at_entry id f kept) e o
  here e Outside h is =
      ap (λ k. reply k (at_entry id f kept)) is ∙ change_own id f (λ p. (like p).id) kept ∙ ap (option_map f) (ap (λ k. reply k kept) (sym is) ∙ h)
  here e (Call c n) h is =
      subst (λ o. IsSomeAnd o (IsReply j c n e)) (sym (ap (λ k. reply k (at_entry id f kept)) is ∙ change_own id f (λ p. (like p).id) kept ∙ ap (λ k. option_map f (reply k kept)) (sym is)))
      (like_some c n e (reply e.id kept) h)

  there : (e : Entry) (o : Origin) → HasReply j kept e o → nat_eq id e.id ≡ false → HasReply j (at_entry id f kept) e o
  there e Outside h other = change_other id f (λ p. (like p).id) e.id other kept ∙ h
  there e (Call c n) h other = subst (λ o. IsSomeAnd o (IsReply j c n e)) (sym (change_other id f (λ p. (like p).id) e.id other kept)) h

  still_has : (e : Entry) → HasReply j kept e e.origin → HasReply j (at_entry id f kept) e e.origin
  still_has e h = elim (cases_Bool (nat_eq id e.id)) [
    | inl is ↦ here e e.origin h (sym (eqb-true id e.id is))
    | inr other ↦ there e e.origin h other
  ]

pub replies_changed : (j : List Row) (log : List Entry) (kept : List Reply) (id : ℕ) (f : Reply → Reply) → ((p : Reply) → IsLike p (f p)) → IsLogged j log kept
    → IsLogged j log (at_entry id f kept)
replies_changed j log kept id f like h = record {
  taken = h.taken;
  asked = h.asked;
  answered = h.answered;
  replies = record {
    rows = h.replies.rows;
    entries = All-weaker (λ e. HasReply j kept e e.origin) (λ e. HasReply j (at_entry id f kept) e e.origin) (still_has j kept id f like) log h.replies.entries;
    others = all_change id f (λ p. (like p).id) (λ k. IsSome (find (has_id k) log)) kept h.replies.others;
    rising = rising_change id f (λ p. (like p).id) kept h.replies.rising;
  };
}
