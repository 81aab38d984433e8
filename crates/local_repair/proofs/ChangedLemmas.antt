-- What a repairer keeps where an entry was changed and its record left, ran again, or none is stale.
use Rattle.std.proofs.Common.{◌≡◌, ℕ, ◌+◌, ◌&&◌, ◌||◌, not, Bool, false, List, [], Option, Some, None, IsSomeAnd, MatchOption, nat_eq, nat_lt, find, position, length, get_or, take, set, map, refl, sym, ap, ◌∙◌, subst, arith}
use Rattle.std.specs.List.{position_or_len}
use Rattle.std.proofs.lemmas.List.{take_all}
use Rattle.std.proofs.lemmas.List.Folds.{find_at}
use Rattle.std.proofs.lemmas.Option.{get_or_from_slice_get}
use Rattle.lang_core.specs.declared.cells.Cell.{Cell}
use Rattle.lang_core.specs.declared.setting.Setting.{Setting}
use Rattle.lang_core.specs.declared.writes.Write.{Write}
use Rattle.request_log.specs.Entries.{changed, has_id, with_entry, KeptLog}
use Rattle.request_log.specs.Keys.{number_of, entry_key}
use Rattle.request_log.specs.declared.entry.Entry.{Entry}
use Rattle.request_log.proofs.ChangeLemmas.{changed_place, not_found, unknown}
use Rattle.request_log.proofs.FoldedLemmas.{Leaves}
use Rattle.log_index.proofs.HandedOn.{position_is}
use Rattle.log_index.specs.HandedOn.{read_at}
use Rattle.log_index.specs.Marks.{KeptMarks, changes, is_marked}
use Rattle.local_repair.specs.Current.{Consumed, AllCurrent, IsFirstStale, rows_after, writes_of}
use Rattle.local_repair.specs.Held.{IsHeld, IsIdMarked, IsKept, IsMarkedBehind}
use Rattle.local_repair.specs.Registers.{SlotsChange}
use Rattle.local_repair.specs.Repairs.{Amends, IsAmended}
use Rattle.local_repair.specs.Settling.{IsAgain, noted}
use Rattle.local_repair.specs.Written.{all_written}
use Rattle.local_repair.specs.declared.remaking.Rerun.{Rerun}
use Rattle.local_repair.proofs.AgreeLemmas.{alike_but_changes}
use Rattle.local_repair.proofs.CurrentLemmas.{current_at}
use Rattle.local_repair.proofs.GivesLemmas.{wrote}
use Rattle.local_repair.proofs.HeldLemmas.{held_current, kept_amended, kept_grown, kept_stepped}
use Rattle.local_repair.proofs.StepLemmas.{entry_at, rerun_reads}

-- how an entry of a number is marked
abbrev MarksAt : KeptMarks → KeptMarks → Option ℕ → Type 0
MarksAt m m' o = MatchOption o (m'.marks ≡ m.marks) (λ place. (q : ℕ) → is_marked q m'.marks ≡ (nat_eq q place || is_marked q m.marks))

-- a change that leaves an entry's record and its slots
pub record LeavesRecord (change : Entry → Entry) : Type 0 where
  pub number : Leaves change
  pub made : (e : Entry) → (change e).made ≡ e.made
  pub slots : (e : Entry) → (change e).slots ≡ e.slots

module _ (base : List Cell) (entries after : List Entry) (writes : List (List Write)) (m m' : KeptMarks) (calls : Bool) (kept : IsKept base entries writes m calls) where
  changed_by : (change : Entry → Entry) → LeavesRecord change → (id : ℕ) → IsIdMarked id entries m m' → after ≡ changed id change entries → (o : Option ℕ) → position (has_id id) entries ≡ o → MarksAt m m' o
      → IsKept base after writes m' calls
  changed_by change leaves id marked is None e marks =
      let k : KeptLog = record { folded = []; entries = entries } in
      let u = unknown change id k [] entries refl e in
      let P : List Entry → Type 0 = λ l. IsKept base l writes m' calls in
      subst P (u.entries ∙ sym is) (kept_grown base entries writes writes m m' calls kept refl marked.reads (λ q bare. sym (ap (is_marked q) marks) ∙ bare))
  changed_by change leaves id marked is (Some p) e marks =
      let there = position_is (has_id id) entries p e in
      let x = entry_at entries p there.1 in
      let k : KeptLog = record { folded = []; entries = entries } in
      let c = changed_place change leaves.number id k [] entries (map number_of entries) (map entry_key entries) p x.0 refl e (sym (x.1 x.0))
      (record { log = marked.log; apart = marked.log.distinct; by_number = refl; by_origin = refl }) in
      kept_amended base entries after writes m m' p (change x.0) calls kept there.1
      (leaves.made x.0 ∙ ap (λ (v : Entry). v.made) (sym (x.1 (change x.0))))
      (leaves.slots x.0 ∙ ap (λ (v : Entry). v.slots) (sym (x.1 (change x.0))))
      (is ∙ sym c.entries) marked.reads marks

  -- the entry of a number was changed
  pub kept_changed : (change : Entry → Entry) → LeavesRecord change → (id : ℕ) → IsIdMarked id entries m m' → after ≡ changed id change entries → IsKept base after writes m' calls
  kept_changed change leaves id marked is = changed_by change leaves id marked is (position (has_id id) entries) refl marked.marks

  replaced_by : (entry : Entry) → IsAmended entry entries → IsIdMarked entry.id entries m m' → after ≡ with_entry entry entries → (o : Option ℕ) → position (has_id entry.id) entries ≡ o → MarksAt m m' o
      → IsKept base after writes m' calls
  replaced_by entry amended marked is None e marks =
      let P : Option Entry → Type 0 = λ o. IsSomeAnd o (λ x. Amends x entry) in
      absurd (subst P (not_found entry.id entries e) amended)
  replaced_by entry amended marked is (Some p) e marks =
      let there = position_is (has_id entry.id) entries p e in
      let place = position_or_len (has_id entry.id) entries in
      let old = some_amended (find (has_id entry.id) entries) entry amended in
      let found : get_or entries place entry ≡ old.0 = get_or_from_slice_get entries place old.0 entry (sym (find_at (has_id entry.id) entries) ∙ old.1) in
      let at : get_or entries p entry ≡ old.0 = ap (λ n. get_or entries n entry) there.0 ∙ found in
      kept_amended base entries after writes m m' p entry calls kept there.1
      (ap (λ (v : Entry). v.made) old.2 ∙ ap (λ (v : Entry). v.made) (sym at)) (ap (λ (v : Entry). v.slots) old.2 ∙ ap (λ (v : Entry). v.slots) (sym at))
      (is ∙ ap (λ n. set entries n entry) (sym there.0)) marked.reads marks
    where
      some_amended : (o : Option Entry) (new : Entry) → IsSomeAnd o (λ x. Amends x new) → (old : Entry) × (o ≡ Some old) × Amends old new
      some_amended None new h = absurd h
      some_amended (Some x) new h = (x, refl, h)

  -- or another put in its place that amends it
  pub kept_replaced : (entry : Entry) → IsAmended entry entries → IsIdMarked entry.id entries m m' → after ≡ with_entry entry entries → IsKept base after writes m' calls
  kept_replaced entry amended marked is = replaced_by entry amended marked is (position (has_id entry.id) entries) refl marked.marks

-- where no entry is stale, none has to be marked
pub kept_idle : (consumed : Consumed) (base : List Cell) (entries : List Entry) (writes : List (List Write)) (m m' : KeptMarks) (calls : Bool) → IsKept base entries writes m calls → AllCurrent consumed base entries → m'.reads ≡ m.reads
    → IsKept base entries writes m' calls
kept_idle consumed base entries writes m m' calls kept all reads = record {
  ordered = kept.ordered;
  tied = kept.tied;
  looked = reads ∙ kept.looked;
  held = λ q d lt bare.
      let P : List Entry → Type 0 = λ l. AllCurrent consumed base l in
      held_current consumed (rows_after base (take q entries)) (get_or entries q d)
      (current_at consumed entries base (length entries) q d lt lt (subst P (sym (take_all (length entries) entries (omega arith))) all));
  quiet = kept.quiet;
}

-- calls that may be made since
pub kept_calls : (base : List Cell) (entries : List Entry) (writes : List (List Write)) (m : KeptMarks) (calls now : Bool) → IsKept base entries writes m calls → (now ≡ false → calls ≡ false) → IsKept base entries writes m now
kept_calls base entries writes m calls now kept called = record { ordered = kept.ordered; tied = kept.tied; looked = kept.looked; held = kept.held; quiet = λ none. kept.quiet (called none) }

-- the first stale entry ran again, and that was noted
pub kept_run : (setting : Setting) (c : SlotsChange) (base : List Cell) (entries after : List Entry) (writes written : List (List Write)) (m m1 m2 : KeptMarks) (place : ℕ) (again : Rerun) (calls now : Bool)
    → IsKept base entries writes m calls → IsFirstStale c.before base entries place → ((d : Entry) → IsAgain setting c (rows_after base (take place entries)) (get_or entries place d) again)
    → ((d : Entry) → IsMarkedBehind place (writes_of (get_or entries place d).made) again.made.trace.writes m m1)
    → ((d : Entry) → after ≡ set entries place (noted again (get_or entries place d)))
    → m2.reads ≡ set m1.reads place (map read_at again.made.trace.reads) → ((q : ℕ) → is_marked q m2.marks ≡ (not (nat_lt q (place + 1)) && is_marked q m1.marks))
    → (now ≡ false → (calls ≡ false) × (again.numbers ≡ [])) → written ≡ all_written after → IsKept base after written m2 now
kept_run setting c base entries after writes written m m1 m2 place again calls now kept first a marked put reads cleared called tied =
    let x = entry_at entries place first.within in
    let was : Entry = x.0 in
    let at : (d : Entry) → get_or entries place d ≡ was = x.1 in
    let rows : List Cell = rows_after base (take place entries) in
    let A : Entry → Type 0 = λ e. IsAgain setting c rows e again in
    let P : Entry → Type 0 = λ e. after ≡ set entries place (noted again e) in
    let M : Entry → Type 0 = λ e. IsMarkedBehind place (wrote e) again.made.trace.writes m m1 in
    let behind = subst M (at was) (marked was) in
    let ran = subst A (at was) (a was) in
    let held : IsHeld rows (noted again was) =
    record { alive = ran.rerun.alive; version = ran.rerun.version; request = ran.rerun.request; count = sym ran.settled.count; reads = rerun_reads setting c.before rows was again.made ran.rerun; handler = λ alive. refl } in
    kept_stepped c.before base entries after writes written m m1 m2 place was (noted again was) (changes (wrote was) again.made.trace.writes) calls now
    kept called first at (alike_but_changes (wrote was) again.made.trace.writes behind.old behind.new) behind.marked reads cleared held (subst P (at was) (put was)) tied
