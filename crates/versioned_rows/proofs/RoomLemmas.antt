-- Rows of labels have what the calls need for which room was made.
use Rattle.std.proofs.Common.{◌≡◌, ℕ, ◌+◌, ◌<◌, Bool, cond, List, [], length, get_or, sym, ap, ◌∙◌, subst, arith}
use Rattle.std.specs.List.{count_by, remove}
use Rattle.std.proofs.lemmas.List.Sums.{sum_by-remove}
use Rattle.lang_core.specs.declared.writes.Write.{Write}
use Rattle.versioned_rows.specs.Places.{is_written}
use Rattle.versioned_rows.specs.Versions.{asked, call_writes, write_call, IsCovered}
use Rattle.versioned_rows.specs.declared.room.VersionsCall.{VersionsCall}
use Rattle.key_labels.specs.declared.rows.KeyLabels.{KeyLabels}

-- how many pass without one call
module _ (p : VersionsCall → Bool) (room : List VersionsCall) where
  counted_less : (place : ℕ) (call : VersionsCall) → place < length room → get_or room place call ≡ call → count_by p (remove room place) + cond (p call) 1 0 ≡ count_by p room
  counted_less place call lt is =
      sym (ap (λ c. count_by p (remove room place) + cond (p c) 1 0) is) ∙ sum_by-remove (λ c. cond (p c) 1 0) room place call lt

pub asked_less : (t k : List ℕ) (room : List VersionsCall) (place : ℕ) (writes : List Write) → place < length room → get_or room place (write_call writes) ≡ write_call writes
    → asked t k (remove room place) + cond (is_written t k writes) 1 0 ≡ asked t k room
asked_less t k room place writes lt is = counted_less (λ call. is_written t k (call_writes call)) room place (write_call writes) lt is

-- a call leaves the room
pub covered_less : (room : List VersionsCall) (rows : List KeyLabels) (place : ℕ) (call : VersionsCall) → place < length room → get_or room place call ≡ call → IsCovered room rows → IsCovered (remove room place) rows
covered_less room rows place call lt is had t k = let h = had t k in let e = counted_less (λ call. is_written t k (call_writes call)) room place call lt is in omega arith

pub covered_none : (room : List VersionsCall) (rows : List KeyLabels) → room ≡ [] → IsCovered room rows
covered_none room rows none =
    let P : List VersionsCall → Type 0 = λ l. IsCovered l rows in
    subst P (sym none) (λ t k. omega arith)
