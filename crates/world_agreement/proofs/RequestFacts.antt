-- What an entry of a call asks is what its caller asked last.
use Rattle.std.proofs.Common.{◌≡◌, ℕ, Bool, true, false, cond, List, [], Option, Some, None, IfSome, IsSomeAnd, nat_eq, subst, sym, refl, inl, inr, ◌∙◌, eqb-true}
use Rattle.std.proofs.lemmas.Bool.{cases_Bool}
use Rattle.std.proofs.lemmas.List.Sums.{fold_push}
use Rattle.lang_core.specs.declared.ids.Origin.TheVariants.{Outside, Call}
use Rattle.lang_core.specs.declared.request.Request.{Request}
use Rattle.journal_rows.specs.Words.{asked_step, asked, is_version_of, taken_step, last_taken, or_before, replaced_by, is_about, request_step, request_now}
use Rattle.journal_rows.specs.declared.callee.AskedRow.{AskedRow}
use Rattle.journal_rows.specs.declared.callee.TookRow.{TookRow}
use Rattle.journal_rows.specs.declared.orders.About.{About}
use Rattle.journal_rows.specs.declared.orders.About.TheVariants.{Request as OfRequest}
use Rattle.journal_rows.specs.declared.orders.Command.{Command}
use Rattle.journal_rows.specs.declared.orders.Command.TheVariants.{Replace}
use Rattle.journal_rows.specs.declared.orders.OrderedRow.{OrderedRow}
use Rattle.journal_rows.specs.declared.row.Row.{Row}
use Rattle.journal_rows.specs.declared.row.Row.TheVariants.{Asked, Took, Ordered}
use Rattle.service_events.specs.Fits.{EachAfter, AsksOn, IsOrderOn, IsOrderAbout}
use Rattle.service_events.proofs.CallRowLemmas.{go_on}

module _ (id : ℕ) (c : List ℕ) (n : ℕ) (first : Request) where
  -- if the entry was made, then for this call
  abbrev IsOfCall : Option AskedRow → Type 0
  IsOfCall made = IfSome made (λ a. a.origin ≡ Call c n)

  -- where the last version that was taken has a request, this is it
  abbrev AsksTaken : Option TookRow → Request → Type 0
  AsksTaken last now = IfSome last (λ t. IfSome t.desired (λ q. now ≡ q))

  earlier : (made : Option AskedRow) (row : Row) → IsOfCall (asked_step id made row) → IsOfCall made
  earlier None row h = tt
  earlier (Some x) (Asked a) h = same (nat_eq a.id id) h
    where
      same : (b : Bool) → IsOfCall (cond b (Some x) (Some x)) → x.origin ≡ Call c n
      same true h = h
      same false h = h
  earlier (Some x) row h = h

  takes_it : (before : Request) (desired : Option Request) → IfSome desired (λ q. or_before before desired ≡ q)
  takes_it before None = tt
  takes_it before (Some q) = refl

  takes : (b : Bool) (t : TookRow) (last : Option TookRow) (before : Request) → AsksTaken last before
      → AsksTaken (cond b (Some t) last) (cond b (or_before before t.desired) before)
  takes true t last before h = takes_it before t.desired
  takes false t last before h = h

  -- a replacement is of an entry from outside
  no_call : (made : Option AskedRow) → IsSomeAnd made (λ a. a.origin ≡ Outside) → IsOfCall made → ⊥
  no_call None h of = h
  no_call (Some a) h of = (let outside : Outside ≡ Call c n = sym h ∙ of in cc)

  unreplaced : (made : Option AskedRow) (o : OrderedRow) (before : Request) (command : Command) → IsOrderOn command made → IsOfCall made
      → replaced_by before o command ≡ before
  unreplaced made o before (Replace m method path body) h of = absurd (no_call made h of)
  unreplaced made o before command h of = refl

  unordered : (o : OrderedRow) (before : List Row) (now : Request) (about : About) → IsOrderAbout about o.command before → IsOfCall (asked id before)
      → cond (is_about id about) (replaced_by now o o.command) now ≡ now
  unordered o before now (OfRequest m) h of = elim (cases_Bool (nat_eq m id)) [
    | inl is ↦ rw is (unreplaced (asked id before) o now o.command (subst (λ k. IsOrderOn o.command (asked k before)) (eqb-true m id is) h) of)
    | inr other ↦ rw other refl
  ]
  unordered o before now about h of = refl

  asks_stays : (before : List Row) (row : Row) (last : Option TookRow) (now : Request) → AsksOn before row → IsOfCall (asked id before) → AsksTaken last now
      → AsksTaken (taken_step c n last row) (request_step id (Call c n) now row)
  asks_stays before (Took t) last now f of h = takes (is_version_of c n t) t last now h
  asks_stays before (Ordered o) last now f of h = subst (AsksTaken last) (sym (unordered o before now o.about f.0 of)) h
  asks_stays before row last now f of h = h

  pub asks_taken : (journal : List Row) → EachAfter AsksOn [] journal → IfSome (asked id journal) (λ a. a.origin ≡ Call c n)
      → IfSome (last_taken c n journal) (λ t. IfSome t.desired (λ q. request_now id (Call c n) first journal ≡ q))
  asks_taken journal may of = go_on AsksOn (λ j. IsOfCall (asked id j) → AsksTaken (last_taken c n j) (request_now id (Call c n) first j))
      (λ before row f h now. (let was = earlier (asked id before) row (rw (fold_push (asked_step id) None before row) at now) in
      rw (fold_push (taken_step c n) None before row, fold_push (request_step id (Call c n)) first before row)
      (asks_stays before row (last_taken c n before) (request_now id (Call c n) first before) f was (h was)))) journal [] may (λ _. tt) of
