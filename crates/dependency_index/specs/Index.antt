-- What contracts see of an index, and what its rows keep.
use Rattle.std.specs.Prelude.{ℕ, ◌≡◌, ◌≤◌, List, map, count_by}
use Rattle.std.specs.List.{list_any}
use Rattle.lang_core.specs.declared.trace.Read.{Read}
use Rattle.dependency_index.specs.Numbers.{Rises}
use Rattle.dependency_index.specs.Reads.{read_at, is_at, label_of, labels_with}
use Rattle.dependency_index.specs.Rows.{AreOrdered, labels_by, spare_by}
use Rattle.dependency_index.specs.contracts.room.IndexCall as call
use Rattle.dependency_index.specs.declared.room.IndexCall.{IndexCall}
use Rattle.dependency_index.specs.declared.room.IndexCall.TheVariants.{NoteReads}
use Rattle.dependency_index.specs.declared.reads.ReadAt.{ReadAt}
use Rattle.dependency_index.specs.declared.reads.ReadKind.{ReadKind}
use Rattle.dependency_index.specs.declared.rows.ReadRows.{ReadRows}
use Rattle.dependency_index.specs.declared.noted.Noted.{Noted}
use base.Stored.{Coded}

-- where the reads of each label looked, in the order of the labels' numbers, and the calls for which room was made
pub record KeptIndex : Type 0 where
  pub reads : List Noted
  pub room : List IndexCall

-- by which calls are told apart
abbrev pub call_code : Coded IndexCall
call_code = call.the_row.coded

-- the call that notes these reads
abbrev pub note_call : List Read → IndexCall
note_call reads = NoteReads (map read_at reads)

abbrev pub call_reads : IndexCall → List ReadAt
call_reads (NoteReads reads) = reads

-- how many of these calls note a read of the key or prefix
abbrev pub asked : ReadKind → List ℕ → List ℕ → List IndexCall → ℕ
asked kind t k room = count_by (λ call. list_any (is_at kind t k) (call_reads call)) room

-- each row has places for the labels of the calls for which room was made
abbrev pub IsCovered : List IndexCall → ReadRows → Type 0
IsCovered room rows = (kind : ReadKind) (t k : List ℕ) → asked kind t k room ≤ spare_by rows kind t k

-- the rows name at each key those that read it, and at each prefix those that scan it
pub record IsIndexed (noted : List Noted) (rows : ReadRows) : Type 0 where
  pub rising : Rises (map label_of noted)
  pub ordered : AreOrdered rows
  pub each : (kind : ReadKind) (t k : List ℕ) → labels_by rows kind t k ≡ labels_with (is_at kind t k) noted
