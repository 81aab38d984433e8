-- What a repairer keeps of its entries, after each change of them.
use Rattle.std.proofs.Common.{◌≡◌, ◌≢◌, ℕ, zero, suc, ◌+◌, ◌-◌, ◌<◌, ◌≤◌, Bool, true, false, not, ◌&&◌, ◌||◌, List, [], ◌∷◌, Option, Some, None, IsSomeAnd, All, nat_eq, nat_lt, length, get_or, take, drop, set, map, refl, sym, ap, ◌∙◌, subst, inl, inr, arith, get_or-set_same, get_or-set_other, eq-eqb}
use Rattle.std.specs.List.{insert}
use Rattle.std.proofs.lemmas.Bool.{cases_order, lt-ltb, le-ltb}
use Rattle.std.proofs.lemmas.List.{take-map, take-set-le, get_or-map, length-map, map-set}
use Rattle.std.proofs.lemmas.List.Edits.{get_or-insert_at, get_or-insert_below, get_or-insert_above, length-insert}
use Rattle.std.proofs.lemmas.List.Elements.{All-append, All-cons, All-drop, All-get_or, All-set, All-take}
use Rattle.std.proofs.Math.ListN.{length-set}
use Rattle.std.proofs.Math.Seq.{map-set_same}
use Rattle.lang_core.specs.Places.{IsOrdered}
use Rattle.lang_core.specs.Rows.{cell_place}
use Rattle.lang_core.specs.declared.cells.Cell.{Cell}
use Rattle.lang_core.specs.declared.writes.Write.{Write}
use Rattle.lang_core.proofs.RowLemmas.{ordered-apply}
use Rattle.execution.specs.HandedOn.{GivesAll}
use Rattle.request_log.specs.declared.entry.Entry.{Entry}
use Rattle.request_log.specs.declared.entry.Made.{Made}
use Rattle.log_index.specs.HandedOn.{read_at}
use Rattle.log_index.specs.HandedOn.{ReadAt}
use Rattle.log_index.specs.Rows.{rows_made}
use Rattle.log_index.proofs.EditLemmas.{map_insert}
use Rattle.log_index.specs.Marks.{KeptMarks, is_marked, sees, sees_behind}
use Rattle.local_repair.specs.Current.{Consumed, after_entry, rows_after, writes_of, IsCurrent, IsCurrentRecord, IsFirstStale}
use Rattle.local_repair.specs.Held.{IsHeld, IsHeldRecord, IsKept, IsMarkedFrom, all_looked, looked, reads_of}
use Rattle.local_repair.specs.Written.{all_written}
use Rattle.local_repair.proofs.AgreeLemmas.{AlikeBut}
use Rattle.local_repair.proofs.CurrentLemmas.{current_at}
use Rattle.local_repair.proofs.GivesLemmas.{wrote, set_gives, insert_gives}
use Rattle.local_repair.proofs.WrittenLemmas.{made_rows}

-- ---- rows

pub rows_ordered : (entries : List Entry) (rows : List Cell) → IsOrdered cell_place rows → IsOrdered cell_place (rows_after rows entries)
rows_ordered [] rows o = o
rows_ordered (x ∷ xs) rows o = rows_ordered xs (after_entry rows x) (ordered-apply rows (wrote x) o)

of_written : (base : List Cell) (entries : List Entry) (n : ℕ) → rows_made base (take n (all_written entries)) ≡ rows_after base (take n entries)
of_written base entries n = ap (rows_made base) (take-map wrote n entries) ∙ made_rows base (take n entries)

pub rows_alike : (base : List Cell) (entries after : List Entry) (n : ℕ) → all_written after ≡ all_written entries → rows_after base (take n entries) ≡ rows_after base (take n after)
rows_alike base entries after n same = sym (of_written base entries n) ∙ ap (λ w. rows_made base (take n w)) (sym same) ∙ of_written base after n

-- ---- one entry

held_by : (consumed : Consumed) (rows : List Cell) (e : Entry) (made : Option Made) → IsSomeAnd made (λ m. IsCurrentRecord consumed rows e m) → IsSomeAnd made (λ m. IsHeldRecord rows e m)
held_by consumed rows e None h = h
held_by consumed rows e (Some m) h =
    record { alive = h.alive; version = h.version; request = h.request; count = ap length h.answers ∙ length-map e.slots consumed; reads = h.reads; handler = h.handler }

-- what is current is held
pub held_current : (consumed : Consumed) (rows : List Cell) (e : Entry) → IsCurrent consumed rows e → IsHeld rows e
held_current consumed rows e h = held_by consumed rows e e.made h

moved_by : (before after : List Cell) (e : Entry) (made : Option Made) → (GivesAll before (reads_of made) → GivesAll after (reads_of made))
    → IsSomeAnd made (λ m. IsHeldRecord before e m) → IsSomeAnd made (λ m. IsHeldRecord after e m)
moved_by before after e None give h = h
moved_by before after e (Some m) give h = record { alive = h.alive; version = h.version; request = h.request; count = h.count; reads = give h.reads; handler = h.handler }

-- an entry stays held on rows that give what it read
moved : (before after : List Cell) (e : Entry) → (GivesAll before (reads_of e.made) → GivesAll after (reads_of e.made)) → IsHeld before e → IsHeld after e
moved before after e give h = moved_by before after e e.made give h

looked_at : (entries : List Entry) (reads : List (List ReadAt)) (place : ℕ) (d : Entry) → reads ≡ all_looked entries → place < length entries → get_or reads place [] ≡ looked (get_or entries place d)
looked_at entries reads place d is lt = ap (λ l. get_or l place []) is ∙ get_or-map looked entries place d [] lt

-- ---- marks alone

-- more marks are as good
pub kept_grown : (base : List Cell) (entries : List Entry) (writes after : List (List Write)) (m m' : KeptMarks) (calls : Bool) → IsKept base entries writes m calls → after ≡ writes → m'.reads ≡ m.reads
    → ((q : ℕ) → is_marked q m'.marks ≡ false → is_marked q m.marks ≡ false) → IsKept base entries after m' calls
kept_grown base entries writes after m m' calls kept same reads more = record {
  ordered = kept.ordered;
  tied = same ∙ kept.tied;
  looked = reads ∙ kept.looked;
  held = λ place d lt bare. kept.held place d lt (more place bare);
  quiet = kept.quiet;
}

-- where some are marked, no mark is lost
pub marked_none : (place : ℕ) (ws : List Write) (m m' : KeptMarks) → IsMarkedFrom place ws m m' → IsMarkedFrom place [] m m'
marked_none place ws m m' from = record { reads = from.reads; stays = from.stays; sees = λ q le within bare. refl }

or_parts : (a b : Bool) → (a || b) ≡ false → (a ≡ false) × (b ≡ false)
or_parts true b h = let bare : true ≡ false = h in cc
or_parts false b h = (refl, h)

-- what looks at these writes behind a place was marked besides
pub marked_behind : (place : ℕ) (ws : List Write) (m m' : KeptMarks) → m'.reads ≡ m.reads → ((q : ℕ) → is_marked q m'.marks ≡ (is_marked q m.marks || sees_behind place ws m.reads q))
    → IsMarkedFrom (place + 1) ws m m'
marked_behind place ws m m' reads marks =
    let parts : (q : ℕ) → is_marked q m'.marks ≡ false → (is_marked q m.marks ≡ false) × (sees_behind place ws m.reads q ≡ false) =
    λ q bare. or_parts (is_marked q m.marks) (sees_behind place ws m.reads q) (sym (marks q) ∙ bare) in
    record {
      reads = reads;
      stays = λ q bare. (parts q bare).0;
      sees = λ q le within bare.
          let e : nat_lt place q ≡ true = lt-ltb place q (omega arith) in
          sym (ap (λ b. b && sees ws (get_or m.reads q [])) e) ∙ (parts q bare).1;
    }

either_false : (a b : Bool) → (not a && b) ≡ false → a ≡ false → b ≡ false
either_false true b h bare = let never : true ≡ false = bare in cc
either_false false b h bare = h

-- ---- a record of an entry made anew

module _ (base : List Cell) (entries after : List Entry) (place : ℕ) (z : Entry) (within : place < length entries) (is : after ≡ set entries place z) where
  front_is : (n : ℕ) → n ≤ place → take n after ≡ take n entries
  front_is n le = ap (take n) is ∙ take-set-le n entries place z le

  here_is : (d : Entry) → get_or after place d ≡ z
  here_is d = ap (λ l. get_or l place d) is ∙ get_or-set_same entries place z d within

  other_is : (q : ℕ) (d : Entry) → q ≢ place → get_or after q d ≡ get_or entries q d
  other_is q d ne = ap (λ l. get_or l q d) is ∙ get_or-set_other entries place q z d ne

  many : length after ≡ length entries
  many = ap length is ∙ length-set entries place z

  -- an entry behind it that looks at nothing that the new record changed
  behind_set : IsOrdered cell_place base → (q : ℕ) (d : Entry) (changed : List Write) → place < q → AlikeBut changed (wrote (get_or entries place d)) (wrote z) → sees changed (looked (get_or entries q d)) ≡ false
      → IsHeld (rows_after base (take q entries)) (get_or entries q d) → IsHeld (rows_after base (take q after)) (get_or after q d)
  behind_set ordered q d changed lt alike bare h =
      let e : Entry = get_or entries q d in
      let P : List Entry → Type 0 = λ l. GivesAll (rows_after base (take q l)) (reads_of e.made) in
      let Q : Entry → Type 0 = λ x. IsHeld (rows_after base (take q after)) x in
      subst Q (sym (other_is q d (λ same. omega arith)))
      (moved (rows_after base (take q entries)) (rows_after base (take q after)) e
      (λ g. subst P (sym is) (set_gives entries place q z d changed base (reads_of e.made) ordered lt within alike bare g)) h)

  -- an entry before it
  before_set : (q : ℕ) (d : Entry) → q < place → IsHeld (rows_after base (take q entries)) (get_or entries q d) → IsHeld (rows_after base (take q after)) (get_or after q d)
  before_set q d lt h =
      let P : List Entry → Entry → Type 0 = λ l x. IsHeld (rows_after base l) x in
      let R : List Entry → Type 0 = λ l. P l (get_or after q d) in
      let Q : Entry → Type 0 = λ x. P (take q entries) x in
      subst R (sym (front_is q (omega arith))) (subst Q (sym (other_is q d (λ same. omega arith))) h)

  -- the entry itself
  at_set : (d : Entry) → IsHeld (rows_after base (take place entries)) z → IsHeld (rows_after base (take place after)) (get_or after place d)
  at_set d h =
      let R : List Entry → Type 0 = λ l. IsHeld (rows_after base l) (get_or after place d) in
      let Q : Entry → Type 0 = λ x. IsHeld (rows_after base (take place entries)) x in
      subst R (sym (front_is place (omega arith))) (subst Q (sym (here_is d)) h)

-- what is kept after the first stale entry ran again
pub kept_stepped : (consumed : Consumed) (base : List Cell) (entries after : List Entry) (writes written : List (List Write)) (m m1 m2 : KeptMarks) (place : ℕ) (was z : Entry) (changed : List Write) (calls now : Bool)
    → IsKept base entries writes m calls → (now ≡ false → (calls ≡ false) × (z.slots ≡ [])) → IsFirstStale consumed base entries place → ((d : Entry) → get_or entries place d ≡ was)
    → AlikeBut changed (wrote was) (wrote z) → IsMarkedFrom (place + 1) changed m m1
    → m2.reads ≡ set m1.reads place (looked z) → ((q : ℕ) → is_marked q m2.marks ≡ (not (nat_lt q (place + 1)) && is_marked q m1.marks))
    → IsHeld (rows_after base (take place entries)) z → after ≡ set entries place z → written ≡ all_written after → IsKept base after written m2 now
kept_stepped consumed base entries after writes written m m1 m2 place was z changed calls now kept called first there alike marked reads cleared held is tied =
    let within = first.within in
    record {
      ordered = kept.ordered;
      tied = tied;
      looked = reads ∙ ap (λ r. set r place (looked z)) (marked.reads ∙ kept.looked) ∙ sym (map-set looked entries place z) ∙ ap all_looked (sym is);
      held = λ q d lt bare. elim (cases_order q place) [
        | inl e ↦ (let P : ℕ → Type 0 = λ n. IsHeld (rows_after base (take n after)) (get_or after n d) in subst P (sym e) (at_set base entries after place z within is d held))
        | inr (inl less) ↦ before_set base entries after place z within is q d less (held_current consumed (rows_after base (take q entries)) (get_or entries q d)
            (current_at consumed entries base place q d less (omega arith) first.before))
        | inr (inr more) ↦ (let e : nat_lt q (place + 1) ≡ false = le-ltb q (place + 1) (omega arith) in
            let n = many base entries after place z within is in
            let inside : q < length entries = omega arith in
            let no_mark : is_marked q m1.marks ≡ false = either_false (nat_lt q (place + 1)) (is_marked q m1.marks) (sym (cleared q) ∙ bare) e in
            let count : length m.reads ≡ length entries = ap length kept.looked ∙ length-map entries looked in
            let nothing : sees changed (looked (get_or entries q d)) ≡ false = ap (sees changed) (sym (looked_at entries m.reads q d kept.looked inside)) ∙ marked.sees q (omega arith) (omega arith) no_mark in
            let A : Entry → Type 0 = λ x. AlikeBut changed (wrote x) (wrote z) in
            behind_set base entries after place z within is kept.ordered q d changed more (subst A (sym (there d)) alike) nothing (kept.held q d inside (marked.stays q no_mark)))
      ];
      quiet = λ none.
          let before = called none in
          let P : List Entry → Type 0 = λ l. All (λ (e : Entry). e.slots ≡ []) l in
          subst P (sym is) (All-set (λ (e : Entry). e.slots ≡ []) entries place z before.1 (kept.quiet before.0));
    }

-- ---- an entry changed, its record left

marked_or : (a b now : Bool) → now ≡ (a || b) → now ≡ false → (a ≡ false) × (b ≡ false)
marked_or true b now is bare = let never : true ≡ false = sym is ∙ bare in cc
marked_or false b now is bare = (refl, sym is ∙ bare)

never_itself : (place : ℕ) → nat_eq place place ≡ false → ⊥
never_itself place h = let e = eq-eqb place place refl in let never : true ≡ false = sym e ∙ h in cc

pub kept_amended : (base : List Cell) (entries after : List Entry) (writes : List (List Write)) (m m' : KeptMarks) (place : ℕ) (z : Entry) (calls : Bool) → IsKept base entries writes m calls → place < length entries
    → z.made ≡ (get_or entries place z).made → z.slots ≡ (get_or entries place z).slots → after ≡ set entries place z → m'.reads ≡ m.reads → ((q : ℕ) → is_marked q m'.marks ≡ (nat_eq q place || is_marked q m.marks)) → IsKept base after writes m' calls
kept_amended base entries after writes m m' place z calls kept within same slots is reads marks =
    let w : all_written after ≡ all_written entries = ap all_written is ∙ map-set_same wrote entries place z z (ap writes_of same) in
    let l : all_looked after ≡ all_looked entries = ap all_looked is ∙ map-set_same looked entries place z z (ap (λ o. map read_at (reads_of o)) same) in
    let n = many base entries after place z within is in
    record {
      ordered = kept.ordered;
      tied = kept.tied ∙ sym w;
      looked = reads ∙ kept.looked ∙ sym l;
      held = λ q d lt bare.
          let parts = marked_or (nat_eq q place) (is_marked q m.marks) (is_marked q m'.marks) (marks q) bare in
          let differs : q ≢ place = λ e. never_itself place (ap (λ k. nat_eq k place) (sym e) ∙ parts.0) in
          let P : List Cell → Entry → Type 0 = λ rows x. IsHeld rows x in
          let Q : Entry → Type 0 = λ x. IsHeld (rows_after base (take q entries)) x in
          let R : List Cell → Type 0 = λ rows. IsHeld rows (get_or after q d) in
          subst R (rows_alike base entries after q w) (subst Q (sym (other_is base entries after place z within is q d differs)) (kept.held q d (omega arith) parts.1));
      quiet = λ none.
          let all = kept.quiet none in
          let P : List Entry → Type 0 = λ l. All (λ (e : Entry). e.slots ≡ []) l in
          subst P (sym is) (All-set (λ (e : Entry). e.slots ≡ []) entries place z (slots ∙ All-get_or (λ (e : Entry). e.slots ≡ []) entries place z within all) all);
    }

-- ---- one more entry

before_insert : (entries : List Entry) (n at : ℕ) (z : Entry) → n ≤ at → at ≤ length entries → take n (insert entries at z) ≡ take n entries
before_insert entries zero at z le within = refl
before_insert [] (suc n) at z le within = absurd (omega arith)
before_insert (x ∷ xs) (suc n) zero z le within = absurd (omega arith)
before_insert (x ∷ xs) (suc n) (suc at) z le within = ap (λ l. x ∷ l) (before_insert xs n at z (omega arith) (omega arith))

-- what is kept once an entry was put at a place, marked unless it is held there
pub kept_inserted : (base : List Cell) (entries after : List Entry) (writes written : List (List Write)) (m m1 m2 : KeptMarks) (place : ℕ) (z : Entry) (marked calls now : Bool)
    → IsKept base entries writes m calls → (now ≡ false → (calls ≡ false) × (z.slots ≡ [])) → place ≤ length entries → IsMarkedFrom place (wrote z) m m1 → (marked ≡ false → IsHeld (rows_after base (take place entries)) z)
    → m2.reads ≡ insert m1.reads place (looked z) → is_marked place m2.marks ≡ marked → ((q : ℕ) → q < place → is_marked q m2.marks ≡ is_marked q m1.marks)
    → ((q : ℕ) → place ≤ q → is_marked (q + 1) m2.marks ≡ is_marked q m1.marks)
    → after ≡ insert entries place z → written ≡ all_written after → IsKept base after written m2 now
kept_inserted base entries after writes written m m1 m2 place z marked calls now kept called within from held reads here before behind is tied = record {
  ordered = kept.ordered;
  tied = tied;
  looked = reads ∙ ap (λ r. insert r place (looked z)) (from.reads ∙ kept.looked) ∙ sym (map_insert looked entries place z) ∙ ap all_looked (sym is);
  held = λ q d lt bare. elim (cases_order q place) [
    | inl e ↦ (let P : ℕ → Type 0 = λ n. IsHeld (rows_after base (take n after)) (get_or after n d) in
        subst P (sym e) (at_place d (held (sym here ∙ ap (λ n. is_marked n m2.marks) (sym e) ∙ bare))))
    | inr (inl less) ↦ (let inside : q < length entries = omega arith in
        before_place q d less (kept.held q d inside (from.stays q (sym (before q less) ∙ bare))))
    | inr (inr more) ↦ (let k : ℕ = q - 1 in
        let e : k + 1 ≡ q = omega arith in
        let n : length after ≡ length entries + 1 = ap length is ∙ length-insert entries place z within in
        let P : ℕ → Type 0 = λ n. IsHeld (rows_after base (take n after)) (get_or after n d) in
        let no_mark : is_marked k m1.marks ≡ false = sym (behind k (omega arith)) ∙ ap (λ n. is_marked n m2.marks) e ∙ bare in
        subst P e (behind_place k d (omega arith) (omega arith) no_mark))
  ];
  quiet = λ none.
      let parts = called none in
      let all = kept.quiet parts.0 in
      let Q : Entry → Type 0 = λ e. e.slots ≡ [] in
      let P : List Entry → Type 0 = λ l. All Q l in
      subst P (sym is) (All-append Q (take place entries) (z ∷ drop place entries) (All-take Q place entries all) (All-cons Q z (drop place entries) parts.1 (All-drop Q place entries all)));
}
  where
    front_of : (n : ℕ) → n ≤ place → take n entries ≡ take n after
    front_of n le = sym (ap (take n) is ∙ before_insert entries n place z le within)

    at_place : (d : Entry) → IsHeld (rows_after base (take place entries)) z → IsHeld (rows_after base (take place after)) (get_or after place d)
    at_place d h =
        let there : z ≡ get_or after place d = sym (ap (λ l. get_or l place d) is ∙ get_or-insert_at entries place z d within) in
        let Q : Entry → Type 0 = λ x. IsHeld (rows_after base (take place entries)) x in
        let R : List Entry → Type 0 = λ l. IsHeld (rows_after base l) (get_or after place d) in
        subst R (front_of place (omega arith)) (subst Q there h)

    before_place : (q : ℕ) (d : Entry) → q < place → IsHeld (rows_after base (take q entries)) (get_or entries q d) → IsHeld (rows_after base (take q after)) (get_or after q d)
    before_place q d less h =
        let there : get_or entries q d ≡ get_or after q d = sym (ap (λ l. get_or l q d) is ∙ get_or-insert_below entries place z d q less within) in
        let Q : Entry → Type 0 = λ x. IsHeld (rows_after base (take q entries)) x in
        let R : List Entry → Type 0 = λ l. IsHeld (rows_after base l) (get_or after q d) in
        subst R (front_of q (omega arith)) (subst Q there h)

    behind_place : (k : ℕ) (d : Entry) → place ≤ k → k < length entries → is_marked k m1.marks ≡ false → IsHeld (rows_after base (take (k + 1) after)) (get_or after (k + 1) d)
    behind_place k d le lt bare =
        let e : Entry = get_or entries k d in
        let there : e ≡ get_or after (k + 1) d = sym (ap (λ l. get_or l (k + 1) d) is ∙ get_or-insert_above entries place z d k le within) in
        let count : length m.reads ≡ length entries = ap length kept.looked ∙ length-map entries looked in
        let nothing : sees (wrote z) (looked e) ≡ false = ap (sees (wrote z)) (sym (looked_at entries m.reads k d kept.looked lt)) ∙ from.sees k le (omega arith) bare in
        let P : List Entry → Type 0 = λ l. GivesAll (rows_after base (take (k + 1) l)) (reads_of e.made) in
        let Q : Entry → Type 0 = λ x. IsHeld (rows_after base (take (k + 1) after)) x in
        subst Q there (moved (rows_after base (take k entries)) (rows_after base (take (k + 1) after)) e
        (λ g. subst P (sym is) (insert_gives entries place k z base (reads_of e.made) kept.ordered le within nothing g)) (kept.held k d lt (from.stays k bare)))
