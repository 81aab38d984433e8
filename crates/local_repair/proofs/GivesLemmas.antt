-- Rows give reads what they gave before something else was written, where the reads look at no cell of it.
use Rattle.std.proofs.Common.{◌≡◌, ℕ, zero, suc, ◌+◌, ◌<◌, ◌≤◌, false, List, [], ◌∷◌, length, get_or, take, set, map, fold, sym, ◌∙◌, subst, arith, add-one}
use Rattle.std.specs.List.{AllByRecursion, insert, list_any}
use Rattle.std.proofs.lemmas.List.Elements.{recursion_from_All, All-from_recursion}
use Rattle.std.proofs.lemmas.List.Folds.{fold-map}
use Rattle.lang_core.specs.Places.{IsOrdered, place_of}
use Rattle.lang_core.specs.Rows.{apply, cell_place}
use Rattle.lang_core.specs.declared.cells.Cell.{Cell}
use Rattle.lang_core.specs.declared.trace.Read.{Read}
use Rattle.lang_core.specs.declared.trace.Read.TheVariants.{Key, Scan}
use Rattle.lang_core.specs.declared.writes.Write.{Write}
use Rattle.lang_core.proofs.RowLemmas.{ordered-apply}
use Rattle.execution.specs.HandedOn.{Gives, GivesAll}
use Rattle.request_log.specs.declared.entry.Entry.{Entry}
use Rattle.log_index.specs.HandedOn.{read_at}
use Rattle.log_index.specs.Marks.{looks_at, sees}
use Rattle.local_repair.proofs.AgreeLemmas.{AlikeBut, alike_but_all, get_same, place_same_after, scan_same, key_not_written, scan_not_written, sees_parts, ordered_rows}
use Rattle.local_repair.specs.Current.{writes_of, after_entry, rows_after}

abbrev pub wrote : Entry → List Write
wrote e = writes_of e.made

module _ (rows : List Cell) (ordered : IsOrdered cell_place rows) (old new changed : List Write) (alike : AlikeBut changed old new) (back : List (List Write)) where
  abbrev before : List Cell
  before = fold apply (apply rows old) back

  abbrev after : List Cell
  after = fold apply (apply rows new) back

  gives_one : (r : Read) → list_any (λ (w : Write). looks_at w.table w.key (read_at r)) changed ≡ false → Gives before r → Gives after r
  gives_one (Key t k found) bare h = sym (get_same rows ordered old new changed alike back t k (key_not_written (place_of t k) changed bare)) ∙ h
  gives_one (Scan t prefix found) bare h =
      sym (scan_same t prefix before after (ordered_rows back (apply rows old) (ordered-apply rows old ordered)) (ordered_rows back (apply rows new) (ordered-apply rows new ordered))
      (λ z under. place_same_after rows ordered old new changed alike back z (scan_not_written t prefix z changed under bare))) ∙ h

  gives_each : (reads : List Read) → sees changed (map read_at reads) ≡ false → AllByRecursion (Gives before) reads → AllByRecursion (Gives after) reads
  gives_each [] bare h = tt
  gives_each (r ∷ rs) bare h =
      let parts = sees_parts changed (read_at r) (map read_at rs) bare in
      (gives_one r parts.0 h.0, gives_each rs parts.1 h.1)

  gives_same : (reads : List Read) → sees changed (map read_at reads) ≡ false → GivesAll before reads → GivesAll after reads
  gives_same reads bare h = All-from_recursion (Gives after) reads (gives_each reads bare (recursion_from_All (Gives before) reads h))

-- the rows after entries are made of what they wrote
made_of : (rows : List Cell) (entries : List Entry) → fold apply rows (map wrote entries) ≡ rows_after rows entries
made_of rows entries = fold-map apply wrote rows entries

gives_by : (rows : List Cell) → IsOrdered cell_place rows → (old new changed : List Write) → AlikeBut changed old new → (entries : List Entry) (reads : List Read) → sees changed (map read_at reads) ≡ false
    → GivesAll (rows_after (apply rows old) entries) reads → GivesAll (rows_after (apply rows new) entries) reads
gives_by rows ordered old new changed alike entries reads bare h =
    let P : List Cell → Type 0 = λ l. GivesAll l reads in
    subst P (made_of (apply rows new) entries) (gives_same rows ordered old new changed alike (map wrote entries) reads bare (subst P (sym (made_of (apply rows old) entries)) h))

-- another record of an entry at an earlier place
pub set_gives : (entries : List Entry) (p q : ℕ) (z d : Entry) (changed : List Write) (rows : List Cell) (reads : List Read) → IsOrdered cell_place rows → p < q → p < length entries
    → AlikeBut changed (wrote (get_or entries p d)) (wrote z) → sees changed (map read_at reads) ≡ false
    → GivesAll (rows_after rows (take q entries)) reads → GivesAll (rows_after rows (take q (set entries p z))) reads
set_gives [] p q z d changed rows reads o pq lt alike bare h = absurd (omega arith)
set_gives (x ∷ xs) p zero z d changed rows reads o pq lt alike bare h = absurd (omega arith)
set_gives (x ∷ xs) zero (suc q) z d changed rows reads o pq lt alike bare h = gives_by rows o (wrote x) (wrote z) changed alike (take q xs) reads bare h
set_gives (x ∷ xs) (suc p) (suc q) z d changed rows reads o pq lt alike bare h =
    set_gives xs p q z d changed (after_entry rows x) reads (ordered-apply rows (wrote x) o) (omega arith) (omega arith) alike bare h

-- one more entry at an earlier place
insert_gives_suc : (entries : List Entry) (p q : ℕ) (z : Entry) (rows : List Cell) (reads : List Read) → IsOrdered cell_place rows → p ≤ q → p ≤ length entries
    → sees (wrote z) (map read_at reads) ≡ false → GivesAll (rows_after rows (take q entries)) reads → GivesAll (rows_after rows (take (suc q) (insert entries p z))) reads
insert_gives_suc [] zero q z rows reads o pq le bare h = gives_by rows o [] (wrote z) (wrote z) (alike_but_all (wrote z)) (take q []) reads bare h
insert_gives_suc (x ∷ xs) zero q z rows reads o pq le bare h = gives_by rows o [] (wrote z) (wrote z) (alike_but_all (wrote z)) (take q (x ∷ xs)) reads bare h
insert_gives_suc [] (suc p) q z rows reads o pq le bare h = absurd (omega arith)
insert_gives_suc (x ∷ xs) (suc p) zero z rows reads o pq le bare h = absurd (omega arith)
insert_gives_suc (x ∷ xs) (suc p) (suc q) z rows reads o pq le bare h =
    insert_gives_suc xs p q z (after_entry rows x) reads (ordered-apply rows (wrote x) o) (omega arith) (omega arith) bare h

pub insert_gives : (entries : List Entry) (p q : ℕ) (z : Entry) (rows : List Cell) (reads : List Read) → IsOrdered cell_place rows → p ≤ q → p ≤ length entries
    → sees (wrote z) (map read_at reads) ≡ false → GivesAll (rows_after rows (take q entries)) reads → GivesAll (rows_after rows (take (q + 1) (insert entries p z))) reads
insert_gives entries p q z rows reads o pq le bare h = rw add-one (insert_gives_suc entries p q z rows reads o pq le bare h)
