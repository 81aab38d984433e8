-- What a service that fits its journal, and that nothing stale is in, has of an entry.
use Rattle.std.proofs.Common.{◌≡◌, ℕ, true, false, List, [], ◌∷◌, Option, Some, None, IfSome, IsSomeAnd, All, find, is_some, option_map, refl, sym, ap, ◌∙◌, subst, eqb-true}
use Rattle.std.specs.Option.{option_map_or}
use Rattle.std.proofs.lemmas.List.{take-append-drop}
use Rattle.std.proofs.lemmas.List.Elements.{All-append, All-cons, All-contains, All-nil}
use Rattle.lang_core.specs.Origins.{is_call}
use Rattle.lang_core.specs.declared.cells.Cell.{Cell}
use Rattle.lang_core.specs.declared.ids.Origin.TheVariants.{Call}
use Rattle.lang_core.specs.declared.request.Request.{Request}
use Rattle.request_log.specs.Entries.{is_alive, has_id, has_origin, find_call}
use Rattle.request_log.specs.declared.entry.Entry.{Entry}
use Rattle.request_log.specs.declared.entry.Made.{Made}
use Rattle.local_repair.specs.Current.{Consumed, after_entry, IsCurrentRecord, AllCurrent}
use Rattle.journal_rows.specs.Words.{asked, last_taken, version_in, taken_version_of, wants, request_now}
use Rattle.journal_rows.specs.declared.callee.AskedRow.{AskedRow}
use Rattle.journal_rows.specs.declared.callee.TookRow.{TookRow}
use Rattle.service_events.specs.State.{Kept, answers, base, folded, unfolded}
use Rattle.service_events.specs.Fits.{Fits, IsAsNow, IsBare, IsPast, made_as, asked_as}
use Rattle.service_events.proofs.SearchLemmas.{found_all}
use Rattle.service_events.proofs.JournalLemmas.{taken_with}
use Rattle.service_events.proofs.LogLemmas.{call_is, found_call, itself}
use Rattle.world_agreement.proofs.ListLemmas.{all_from, some_of, found_passes}
use Rattle.world_agreement.proofs.NameLemmas.{found_by_id}
use Rattle.world_agreement.proofs.RequestFacts.{asks_taken}

-- ---- records

-- a record is of the entry as it is now
pub record IsMadeNow (e : Entry) (m : Made) : Type 0 where
  pub alive : m.alive ≡ is_alive e
  pub version : m.version ≡ e.version

made_now : (consumed : Consumed) (rows : List Cell) (e : Entry) (made : Option Made) → IsSomeAnd made (λ m. IsCurrentRecord consumed rows e m) → IsSomeAnd made (IsMadeNow e)
made_now consumed rows e None h = h
made_now consumed rows e (Some m) h = record { alive = h.alive; version = h.version }

-- each entry that isn't stale has such a record
all_made_now : (consumed : Consumed) (rows : List Cell) (entries : List Entry) → AllCurrent consumed rows entries → All (λ e. IsSomeAnd e.made (IsMadeNow e)) entries
all_made_now consumed rows [] h = All-nil (λ e. IsSomeAnd e.made (IsMadeNow e))
all_made_now consumed rows (e ∷ es) h =
    All-cons (λ x. IsSomeAnd x.made (IsMadeNow x)) e es (made_now consumed rows e e.made h.0) (all_made_now consumed (after_entry rows e) es h.1)

-- and so has each that is folded
made_past : (e : Entry) (made : Option Made) → IsSomeAnd made (IsBare e) → IsSomeAnd made (IsMadeNow e)
made_past e None h = h
made_past e (Some m) h = record { alive = h.alive; version = h.version }

-- where nothing is stale, each entry has
pub each_made_now : (s : Kept) → Fits s → AllCurrent (answers s) (base s) (unfolded s) → All (λ e. IsSomeAnd e.made (IsMadeNow e)) s.entries
each_made_now s fits current =
    let Now : Entry → Type 0 = λ e. IsSomeAnd e.made (IsMadeNow e) in
    let past = all_from Now (folded s) (λ e has. made_past e e.made (All-contains (IsPast s) (folded s) e fits.horizon.each has).bare) in
    let all : List Entry → Type 0 = λ es. All Now es in
    subst all (take-append-drop s.horizon s.entries)
    (All-append Now (folded s) (unfolded s) past (all_made_now (answers s) (base s) (unfolded s) current))

-- ---- the entry of a call

-- how an entry was made
pub record Begun (t : Kept) (e : Entry) : Type 0 where
  pub row : AskedRow
  pub is : asked e.id t.journal ≡ Some row
  pub origin : row.origin ≡ e.origin

begun_by : (t : Kept) (e : Entry) (o : Option AskedRow) → asked e.id t.journal ≡ o → Some (made_as e) ≡ option_map asked_as o → Begun t e
begun_by t e None is h = cc
begun_by t e (Some row) is h = record { row = row; is = is; origin = origin_of h }
  where
    origin_of : Some (made_as e) ≡ Some (asked_as row) → row.origin ≡ e.origin
    origin_of h = (let same : made_as e ≡ asked_as row = cc in sym (ap (λ x. x.0) same))

module _ (t : Kept) (fits : Fits t) where
  pub begun : (e : Entry) → find (has_id e.id) t.entries ≡ Some e → Begun t e
  begun e found = begun_by t e (asked e.id t.journal) refl (sym (ap (option_map made_as) found) ∙ fits.asked.entries e.id)

  module _ (c : List ℕ) (n : ℕ) (last : TookRow) (took : last_taken c n t.journal ≡ Some last) (q : Request) (desired : last.desired ≡ Some q) where
    -- an entry of a call asks what was taken last
    pub asks_last : (e : Entry) → find (has_id e.id) t.entries ≡ Some e → e.origin ≡ Call c n → e.request ≡ q
    asks_last e found from =
        let b = begun e found in
        let now = found_all (IsAsNow t.journal) (has_id e.id) t.entries e fits.asked.now found in
        let is : e.request ≡ request_now e.id e.origin b.row.request t.journal =
        subst (λ o. IfSome o (λ a. e.request ≡ request_now e.id e.origin a.request t.journal)) b.is now.request in
        let of : IfSome (asked e.id t.journal) (λ a. a.origin ≡ Call c n) = subst (λ o. IfSome o (λ a. a.origin ≡ Call c n)) (sym b.is) (b.origin ∙ from) in
        let all = asks_taken e.id c n b.row.request t.journal fits.asked.rows of in
        let one = subst (λ o. IfSome o (λ x. IfSome x.desired (λ r. request_now e.id (Call c n) b.row.request t.journal ≡ r))) took all in
        let it : request_now e.id (Call c n) b.row.request t.journal ≡ q =
        subst (λ d. IfSome d (λ r. request_now e.id (Call c n) b.row.request t.journal ≡ r)) desired one in
        is ∙ ap (λ o. request_now e.id o b.row.request t.journal) from ∙ it

    -- the entry of a call that is wanted
    pub record Entered : Type 0 where
      pub entry : Entry
      pub found : find_call (Call c n) t.entries ≡ Some entry
      pub by_id : find (has_id entry.id) t.entries ≡ Some entry
      pub origin : entry.origin ≡ Call c n
      pub request : entry.request ≡ q
      pub version : entry.version ≡ last.version
      pub wanted : entry.wanted ≡ true

    pub entered : Entered
    entered =
        let some = some_of (find_call (Call c n) t.entries) ((fits.asked.calls c n).1 (taken_with c n t.journal last took (ap is_some desired))) in
        let e = some.0 in
        let origin : e.origin ≡ Call c n = call_is c n e.origin (found_passes (has_origin c n) t.entries e some.1) in
        let by_id = found_by_id (has_origin c n) t.entries e fits.asked.distinct some.1 in
        let now = found_all (IsAsNow t.journal) (has_origin c n) t.entries e fits.asked.now some.1 in
        record {
          entry = e;
          found = some.1;
          by_id = by_id;
          origin = origin;
          request = asks_last e by_id origin;
          version = now.version ∙ ap (λ o. taken_version_of o t.journal) origin ∙ ap version_in took;
          wanted = now.wanted ∙ ap (λ o. wants o t.journal) origin ∙ ap (λ o. option_map_or (λ (x : TookRow). is_some x.desired) o false) took ∙ ap is_some desired;
        }

  -- the entry that was made for a call is the one that is found by it
  pub same_entry : (c : List ℕ) (n id : ℕ) (e : Entry) → find_call (Call c n) t.entries ≡ Some e → IsSomeAnd (asked id t.journal) (λ made. made.origin ≡ Call c n) → id ≡ e.id
  same_entry c n id e found of = made_at (find (has_id id) t.entries) refl (asked id t.journal) (fits.asked.entries id) of
    where
      made_at : (o : Option Entry) → find (has_id id) t.entries ≡ o → (a : Option AskedRow) → option_map made_as (find (has_id id) t.entries) ≡ option_map asked_as a
          → IsSomeAnd a (λ made. made.origin ≡ Call c n) → id ≡ e.id
      made_at o is None h from = absurd from
      made_at None is (Some a) h from = (let none : None ≡ Some (asked_as a) = sym (ap (option_map made_as) is) ∙ h in cc)
      made_at (Some x) is (Some a) h from =
          let both : Some (made_as x) ≡ Some (asked_as a) = sym (ap (option_map made_as) is) ∙ h in
          let same : made_as x ≡ asked_as a = cc in
          let origin : x.origin ≡ Call c n = ap (λ p. p.0) same ∙ from in
          let mine : has_origin c n x ≡ true = ap (is_call c n) origin ∙ itself c n in
          let one : Some x ≡ Some e = sym (found_call t.entries id x c n is mine fits.asked.distinct) ∙ found in
          let it : x ≡ e = cc in
          let number : x.id ≡ id = eqb-true x.id id (found_passes (has_id id) t.entries x is) in
          sym number ∙ ap (λ (y : Entry). y.id) it
