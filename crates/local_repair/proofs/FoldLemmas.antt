-- What a repairer keeps once the first of its entries are folded.
use Rattle.std.proofs.Common.{◌≡◌, ℕ, ◌+◌, ◌<◌, ◌≤◌, Bool, List, [], All, length, get_or, take, drop, map, sym, ap, ◌∙◌, subst, arith}
use Rattle.std.proofs.lemmas.List.{drop-map, get_or-drop, length-drop}
use Rattle.std.proofs.lemmas.List.Sums.{fold-append}
use Rattle.std.proofs.lemmas.List.Elements.{All-drop}
use Rattle.std.proofs.Math.Seq.{take-add}
use Rattle.lang_core.specs.Places.{IsOrdered}
use Rattle.lang_core.specs.Rows.{cell_place}
use Rattle.lang_core.specs.declared.cells.Cell.{Cell}
use Rattle.lang_core.specs.declared.writes.Write.{Write}
use Rattle.request_log.specs.declared.entry.Entry.{Entry}
use Rattle.log_index.specs.Marks.{KeptMarks, is_marked}
use Rattle.local_repair.specs.Current.{after_entry, rows_after}
use Rattle.local_repair.specs.Held.{looked, IsHeld, IsKept}
use Rattle.local_repair.specs.Repairs.{IsFolded, KeptRepairer}
use Rattle.local_repair.proofs.GivesLemmas.{wrote}
use Rattle.local_repair.proofs.HeldLemmas.{rows_ordered}

-- the rows before an entry behind those that are folded
rows_behind : (base : List Cell) (entries : List Entry) (n place : ℕ) → rows_after (rows_after base (take n entries)) (take place (drop n entries)) ≡ rows_after base (take (n + place) entries)
rows_behind base entries n place =
    sym (fold-append after_entry base (take n entries) (take place (drop n entries))) ∙ ap (rows_after base) (sym (take-add n place entries))

-- they are the rows that were before it
pub rows_stay : (n place : ℕ) (old new : KeptRepairer) → IsFolded n old new → rows_after new.base (take place new.entries) ≡ rows_after old.base (take (n + place) old.entries)
rows_stay n place old new folded =
    ap (λ base. rows_after base (take place new.entries)) folded.base
    ∙ (ap (λ entries. rows_after (rows_after old.base (take n old.entries)) (take place entries)) folded.entries ∙ rows_behind old.base old.entries n place)

-- the same is kept of the same
pub kept_same : (base base' : List Cell) (entries entries' : List Entry) (writes writes' : List (List Write)) (m m' : KeptMarks) (calls : Bool) → base' ≡ base → entries' ≡ entries → writes' ≡ writes → m'.reads ≡ m.reads
    → m'.marks ≡ m.marks → IsKept base entries writes m calls → IsKept base' entries' writes' m' calls
kept_same base base' entries entries' writes writes' m m' calls rows left wrote_left reads marks kept =
    let B : List Cell → Type 0 = λ b. IsKept b entries writes m' calls in
    let E : List Entry → Type 0 = λ es. IsKept base' es writes m' calls in
    let W : List (List Write) → Type 0 = λ ws. IsKept base' entries' ws m' calls in
    let marked : IsKept base entries writes m' calls = record {
      ordered = kept.ordered;
      tied = kept.tied;
      looked = reads ∙ kept.looked;
      held = λ place d within unmarked. kept.held place d within (ap (is_marked place) (sym marks) ∙ unmarked);
      quiet = kept.quiet;
    } in
    subst W (sym wrote_left) (subst E (sym left) (subst B (sym rows) marked))

-- what is kept behind them
pub kept_folded : (base now : List Cell) (entries after : List Entry) (writes written : List (List Write)) (m m' : KeptMarks) (n : ℕ) (calls : Bool) → IsKept base entries writes m calls → n ≤ length entries
    → now ≡ rows_after base (take n entries) → after ≡ drop n entries → written ≡ drop n writes → m'.reads ≡ drop n m.reads → ((q : ℕ) → is_marked q m'.marks ≡ is_marked (n + q) m.marks)
    → IsKept now after written m' calls
kept_folded base now entries after writes written m m' n calls kept within rows left wrote_left reads marks =
    let O : List Cell → Type 0 = λ r. IsOrdered cell_place r in
    let Q : Entry → Type 0 = λ e. e.slots ≡ [] in
    let S : List Entry → Type 0 = λ l. All Q l in
    record {
      ordered = subst O (sym rows) (rows_ordered (take n entries) base kept.ordered);
      tied = wrote_left ∙ ap (drop n) kept.tied ∙ drop-map wrote n entries ∙ ap (map wrote) (sym left);
      looked = reads ∙ ap (drop n) kept.looked ∙ drop-map looked n entries ∙ ap (map looked) (sym left);
      held = λ place d lt bare.
          let long = ap length left ∙ length-drop n entries in
          let inside : n + place < length entries = omega arith in
          let B : List Cell → Type 0 = λ r. IsHeld (rows_after r (take place after)) (get_or after place d) in
          let L : List Entry → Type 0 = λ l. IsHeld (rows_after (rows_after base (take n entries)) (take place l)) (get_or l place d) in
          let R : List Cell → Type 0 = λ r. IsHeld r (get_or (drop n entries) place d) in
          let E : Entry → Type 0 = λ e. IsHeld (rows_after base (take (n + place) entries)) e in
          subst B (sym rows) (subst L (sym left) (subst R (sym (rows_behind base entries n place))
          (subst E (sym (get_or-drop n entries place d)) (kept.held (n + place) d inside (sym (marks place) ∙ bare)))));
      quiet = λ none. subst S (sym left) (All-drop Q n entries (kept.quiet none));
    }
