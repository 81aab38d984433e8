-- Places for the labels of the calls for which room was made.
use Rattle.std.proofs.Common.{◌≡◌, ℕ, ◌+◌, ◌<◌, ◌≤◌, Bool, true, cond, List, [], ◌∷◌, ◌++◌, length, get_or, map, sym, ap, ◌∙◌, arith}
use Rattle.std.specs.List.{list_any, remove}
use Rattle.std.proofs.lemmas.List.Sums.{count_by-le-length, sum_by-append, sum_by-remove}
use Rattle.lang_core.specs.declared.trace.Read.{Read}
use Rattle.dependency_index.specs.Index.{asked, call_reads, note_call, IsCovered}
use Rattle.dependency_index.specs.Reads.{is_at, read_at}
use Rattle.dependency_index.specs.Rows.{spare_by}
use Rattle.dependency_index.specs.declared.reads.ReadAt.{ReadAt}
use Rattle.dependency_index.specs.declared.reads.ReadKind.{ReadKind}
use Rattle.dependency_index.specs.declared.room.IndexCall.{IndexCall}
use Rattle.dependency_index.specs.declared.rows.ReadRows.{ReadRows}
use Rattle.key_labels.proofs.RoomLemmas.{covers_by, one_by}

plus_none : (n : ℕ) → 0 + n ≡ n
plus_none n = omega arith

abbrev pub notes : ReadKind → List ℕ → List ℕ → List Read → Bool
notes kind t k reads = list_any (is_at kind t k) (map read_at reads)

asked_more : (kind : ReadKind) (t k : List ℕ) (room : List IndexCall) (reads : List Read) → asked kind t k (room ++ note_call reads ∷ []) ≡ asked kind t k room + cond (notes kind t k reads) 1 0
asked_more kind t k room reads =
    let g : IndexCall → ℕ = λ call. cond (list_any (is_at kind t k) (call_reads call)) 1 0 in
    sum_by-append g room (note_call reads ∷ []) ∙ ap (λ n. asked kind t k room + n) (plus_none (cond (notes kind t k reads) 1 0))

-- a call that leaves the room
pub asked_less : (kind : ReadKind) (t k : List ℕ) (room : List IndexCall) (place : ℕ) (reads : List Read) → place < length room → get_or room place (note_call reads) ≡ note_call reads
    → asked kind t k (remove room place) + cond (notes kind t k reads) 1 0 ≡ asked kind t k room
asked_less kind t k room place reads lt is =
    let g : IndexCall → ℕ = λ call. cond (list_any (is_at kind t k) (call_reads call)) 1 0 in
    sym (ap (λ c. asked kind t k (remove room place) + g c) is) ∙ sum_by-remove g room place (note_call reads) lt

-- one call more, with places for one label more than there were calls
pub covered_more : (room : List IndexCall) (rows after : ReadRows) (reads : List Read) → IsCovered room rows → ((kind : ReadKind) (t k : List ℕ) → spare_by rows kind t k ≤ spare_by after kind t k)
    → ((kind : ReadKind) (t k : List ℕ) → notes kind t k reads ≡ true → length room + 1 ≤ spare_by after kind t k) → IsCovered (room ++ note_call reads ∷ []) after
covered_more room rows after reads had more here kind t k =
    let e = asked_more kind t k room reads in
    let m = covers_by (notes kind t k reads) (asked kind t k room) (length room) (spare_by rows kind t k) (spare_by after kind t k)
    (count_by-le-length (λ call. list_any (is_at kind t k) (call_reads call)) room) (had kind t k) (more kind t k) (here kind t k) in
    omega arith

-- places for one label each, where no room is left
pub spare_one : (rows : ReadRows) (room : List IndexCall) (reads : List ReadAt) → room ≡ [] → ((kind : ReadKind) (t k : List ℕ) → list_any (is_at kind t k) reads ≡ true → 1 ≤ spare_by rows kind t k)
    → (kind : ReadKind) (t k : List ℕ) → asked kind t k room + cond (list_any (is_at kind t k) reads) 1 0 ≤ spare_by rows kind t k
spare_one rows room reads none here kind t k =
    let e = ap (asked kind t k) none in
    let m = one_by (list_any (is_at kind t k) reads) (spare_by rows kind t k) (here kind t k) in
    omega arith
