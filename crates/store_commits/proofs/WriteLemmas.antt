-- What is written behind the lines that a store has, and what a crash leaves of it.
use Rattle.std.proofs.Common.{◌≡◌, ◌⊎◌, inl, inr, ℕ, zero, suc, ◌+◌, ◌-◌, ◌^◌, ◌<◌, ◌≤◌, min, List, [], ◌∷◌, ◌++◌, length, map, replicate, take, refl, sym, ◌∙◌, ap, subst, arith, append_assoc, length-append}
use Rattle.std.specs.Prelude.{Option, Some, None, is_some, false}
use Rattle.std.proofs.lemmas.List.{append-nil, length-map, length-replicate}
use Rattle.sqlite_disk.specs.Disk.{MoreFaults, Only}
use Rattle.store_lines.specs.Lines.{recovered, encode, IsBetween}
use Rattle.store_lines.specs.Readings.{IsReadAs, MayLead, trusted}
use Rattle.store_lines.specs.Seals.{IsMark, IsPiece, spelled_from, texts, texts_from}
use Rattle.store_lines.specs.declared.piece.Piece.{Piece}
use Rattle.store_lines.specs.declared.piece.Piece.TheVariants.{Text, Safe}
use Rattle.store_lines.proofs.ReadAsLemmas.{long_enough, spelled_append, spelled_length}
use Rattle.store_disk.specs.State.{IsAtRest, IsLeftAs, IsLeftWith, IsNextBatch}
use Rattle.store_disk.specs.declared.store.Store.{Store}
use Rattle.store_commits.specs.Stands.{Appended, AreFirst, AreWritten, IsLeftWithTexts, IsRoomMark, behind_mark, texts_in}
use Rattle.store_commits.proofs.TextLemmas.{are_texts, first_texts, mark_tells_none, none_of_none, room_tells_none, texts_all, texts_behind}

-- ---- how many lines there are

pub count_behind : (lines : ℕ) (more : List Piece) (old new : List (List ℕ)) → lines ≡ length old → new ≡ old ++ spelled_from lines more → lines + length more ≡ length new
count_behind lines more old new is so = omega (arith, ap length so, length-append old (spelled_from lines more), spelled_length lines more)

-- behind a mark and texts
pub count_texts : (lines : ℕ) (mark : Piece) (ts old new : List (List ℕ)) → lines ≡ length old → new ≡ old ++ spelled_from lines (mark ∷ map Text ts) → lines + 1 + length ts ≡ length new
count_texts lines mark ts old new is so = omega (arith, count_behind lines (mark ∷ map Text ts) old new is so, length-map ts Text)

-- as many as the pieces that are read
count_pieces : (lines : ℕ) (pieces : List Piece) (bytes : List ℕ) → lines ≡ length (recovered bytes) → IsReadAs pieces bytes → lines ≡ length pieces
count_pieces lines pieces bytes is read = is ∙ ap length read.lines ∙ spelled_length 0 pieces

-- ---- one write

pub next_batch : (len lines : ℕ) (mark : Piece) (ts : List (List ℕ)) (pieces : List Piece) (bytes : List ℕ) (batch : List (List ℕ)) → lines < 2 ^ 64 → lines ≡ length (recovered bytes)
    → IsReadAs pieces bytes → MayLead len mark × IsPiece mark → batch ≡ spelled_from lines (mark ∷ map Text ts) → IsNextBatch len pieces (mark ∷ map Text ts) batch
next_batch len lines mark ts pieces bytes batch small is read may so =
    let at = count_pieces lines pieces bytes is read in
    record {
      lines = so ∙ ap (λ (n : ℕ). spelled_from n (mark ∷ map Text ts)) at;
      batch = (may.0, (are_texts ts).0);
      are = (may.1, (are_texts ts).1);
      small = subst (λ (n : ℕ). n < 2 ^ 64) at small;
    }

pub appended : (len lines : ℕ) (mark : Piece) (ts : List (List ℕ)) (old new : List ℕ) (batch : List (List ℕ)) → lines < 2 ^ 64 → lines ≡ length (recovered old)
    → MayLead len mark × IsPiece mark → batch ≡ spelled_from lines (mark ∷ map Text ts) → recovered new ≡ recovered old ++ batch
    → ((pieces more : List Piece) → IsReadAs pieces old → IsNextBatch len pieces more batch → IsReadAs (pieces ++ more) new) → Appended lines old new (mark ∷ map Text ts)
appended len lines mark ts old new batch small is may so found reads =
    record {
      found = found ∙ ap (λ (l : List (List ℕ)). recovered old ++ l) so;
      read = λ pieces read. reads pieces (mark ∷ map Text ts) read (next_batch len lines mark ts pieces old batch small is read may so);
    }

pub appended_none : (lines : ℕ) (old new : List ℕ) → new ≡ old → Appended lines old new []
appended_none lines old new is =
    record {
      found = ap recovered is ∙ sym (append-nil (recovered old));
      read = λ pieces read. subst (λ (ps : List Piece). IsReadAs ps new) (sym (append-nil pieces)) (subst (λ (b : List ℕ). IsReadAs pieces b) (sym is) read);
    }

-- one write behind another
pub both_appended : (lines now : ℕ) (old mid new : List ℕ) (marks more : List Piece) → lines ≡ length (recovered old) → now ≡ length (recovered mid) → Appended lines old mid marks
    → Appended now mid new more → Appended lines old new (marks ++ more)
both_appended lines now old mid new marks more is then a b =
    let at : now ≡ lines + length marks = then ∙ sym (count_behind lines marks (recovered old) (recovered mid) is a.found) in
    record {
      found = b.found ∙ ap (λ (l : List (List ℕ)). l ++ spelled_from now more) a.found ∙ append_assoc (recovered old) (spelled_from lines marks) (spelled_from now more)
          ∙ ap (λ (l : List (List ℕ)). recovered old ++ l) (ap (λ (n : ℕ). spelled_from lines marks ++ spelled_from n more) at ∙ sym (spelled_append lines marks more));
      read = λ pieces read. subst (λ (ps : List Piece). IsReadAs ps new) (append_assoc pieces marks more) (b.read (pieces ++ marks) (a.read pieces read));
    }

-- behind a file that was made longer
pub lengthened : (lines : ℕ) (old mid new : List ℕ) (more : List Piece) → recovered mid ≡ recovered old → ((pieces : List Piece) → IsReadAs pieces old → IsReadAs pieces mid)
    → Appended lines mid new more → Appended lines old new more
lengthened lines old mid new more same reads a =
    record { found = a.found ∙ ap (λ (l : List (List ℕ)). l ++ spelled_from lines more) same; read = λ pieces read. a.read pieces (reads pieces read) }

-- a file at rest is as long as its store says
rest_length : {D : Type 0} (seen : D → List ℕ) (may_leave : D → List ℕ → Type 0) (store : Store D) → IsAtRest seen may_leave store → length (seen store.disk) ≡ store.len
rest_length seen may_leave store rest =
    omega (arith, ap length rest.file, length-append (encode (recovered (seen store.disk))) (replicate (store.len - store.used) 0), length-replicate {A = ℕ} (store.len - store.used) 0, rest.used, rest.room)

-- and what a start reads from it may be read from one that is longer
pub grown_reads : {D : Type 0} (seen : D → List ℕ) (may_leave : D → List ℕ → Type 0) (store : Store D) (len : ℕ) (mid : List ℕ) → IsAtRest seen may_leave store → store.len ≤ len
    → ((pieces : List Piece) → recovered (seen store.disk) ≡ spelled_from 0 pieces → trusted pieces ≤ len → IsReadAs pieces mid) → (pieces : List Piece) → IsReadAs pieces (seen store.disk)
    → IsReadAs pieces mid
grown_reads seen may_leave store len mid rest longer reads pieces read =
    reads pieces read.lines (omega (arith, long_enough pieces (seen store.disk) read, rest_length seen may_leave store rest, longer))

-- ---- texts

pub texts_of_written : (lines before now : ℕ) (old new : List ℕ) (ts : List (List ℕ)) → lines ≡ length (recovered old) → AreWritten lines before now old new ts → texts_in new ≡ texts_in old ++ ts
texts_of_written lines before now old new ts is (marks, room, a) =
    ap (λ (l : List (List ℕ)). texts_from 0 l) a.found ∙ texts_behind lines (recovered old) (marks ++ behind_mark now ts) is
    ∙ ap (λ (l : List (List ℕ)). texts_in old ++ l) (room_tells_none before now marks (behind_mark now ts) room ∙ texts_all ts)

pub texts_of_room : (lines before now : ℕ) (old new : List ℕ) (marks : List Piece) → lines ≡ length (recovered old) → IsRoomMark before now marks → Appended lines old new marks
    → texts_in new ≡ texts_in old
texts_of_room lines before now old new marks is room a =
    ap (λ (l : List (List ℕ)). texts_from 0 l) a.found ∙ texts_behind lines (recovered old) marks is
    ∙ ap (λ (l : List (List ℕ)). texts_in old ++ l) (ap texts (sym (append-nil marks)) ∙ room_tells_none before now marks [] room) ∙ append-nil (texts_in old)

-- a mark alone has none
pub texts_of_mark : (lines : ℕ) (mark : Piece) (old new : List ℕ) → lines ≡ length (recovered old) → IsMark mark → Appended lines old new (mark ∷ []) → texts_in new ≡ texts_in old
texts_of_mark lines mark old new is mark_is a =
    ap (λ (l : List (List ℕ)). texts_from 0 l) a.found ∙ texts_behind lines (recovered old) (mark ∷ []) is
    ∙ ap (λ (l : List (List ℕ)). texts_in old ++ l) (mark_tells_none mark [] mark_is) ∙ append-nil (texts_in old)

-- ---- what a crash leaves

-- nothing was written
pub between_none : (c seen : List ℕ) (more : List (List ℕ)) → c ≡ seen → IsBetween (recovered seen) more (recovered c)
between_none c seen more is = (0, omega arith, ap recovered is ∙ sym (append-nil (recovered seen)))

pub left_none : (pieces more : List Piece) (seen : List ℕ) (outcomes : List ℕ → Type 0) → Only seen outcomes → IsReadAs pieces seen → IsLeftWith pieces more outcomes
left_none pieces more seen outcomes only read c left =
    (0, omega arith, subst (λ (ps : List Piece). IsReadAs ps c) (sym (append-nil pieces)) (subst (λ (b : List ℕ). IsReadAs pieces b) (sym (only c left)) read))

-- nothing but zeros
pub left_as : (pieces : List Piece) (new : List (List ℕ)) (outcomes : List ℕ → Type 0) → IsLeftAs pieces outcomes → IsLeftWithTexts pieces new outcomes
left_as pieces new outcomes every c left = ([], subst (λ (ps : List Piece). IsReadAs ps c) (sym (append-nil pieces)) (every c left), (0, omega arith, refl))

pub left_unwritten : (pieces : List Piece) (new : List (List ℕ)) (seen : List ℕ) (outcomes : List ℕ → Type 0) → Only seen outcomes → IsReadAs pieces seen → IsLeftWithTexts pieces new outcomes
left_unwritten pieces new seen outcomes only read = left_as pieces new outcomes (λ c left. subst (λ (b : List ℕ). IsReadAs pieces b) (sym (only c left)) read)

-- a mark and texts
pub left_behind : (pieces : List Piece) (mark : Piece) (ts : List (List ℕ)) (outcomes : List ℕ → Type 0) → IsMark mark → IsLeftWith pieces (mark ∷ map Text ts) outcomes
    → IsLeftWithTexts pieces ts outcomes
left_behind pieces mark ts outcomes is few c left =
    let some = few c left in (take some.0 (mark ∷ map Text ts), some.2, first_texts some.0 mark ts is some.1)

-- the same behind a mark that a file was made longer
pub left_behind_room : (before now : ℕ) (pieces marks : List Piece) (mark : Piece) (ts : List (List ℕ)) (outcomes : List ℕ → Type 0) → IsRoomMark before now marks → IsMark mark
    → IsLeftWith (pieces ++ marks) (mark ∷ map Text ts) outcomes → IsLeftWithTexts pieces ts outcomes
left_behind_room before now pieces marks mark ts outcomes room is few c left =
    let some = few c left in
    let first = first_texts some.0 mark ts is some.1 in (
      marks ++ take some.0 (mark ∷ map Text ts),
      subst (λ (ps : List Piece). IsReadAs ps c) (append_assoc pieces marks (take some.0 (mark ∷ map Text ts))) some.2,
      (first.0, first.1, room_tells_none before now marks (take some.0 (mark ∷ map Text ts)) room ∙ first.2),
    )

-- what has none of no texts has none of these
pub left_before : (pieces : List Piece) (new : List (List ℕ)) (outcomes : List ℕ → Type 0) → IsLeftWithTexts pieces [] outcomes → IsLeftWithTexts pieces new outcomes
left_before pieces new outcomes none c left = let some = none c left in (some.0, some.1, (0, omega arith, none_of_none (texts some.0) some.2))

-- ---- faults

pub some_failed : (old new : ℕ) → MoreFaults old new → 0 < new
some_failed old new more = grind (arith, more)

pub more_failed : (old mid new : ℕ) → old ≡ mid → MoreFaults mid new → MoreFaults old new
more_failed old mid new is more = subst (λ (n : ℕ). MoreFaults n new) (sym is) more

-- ---- what isn't there

pub not_some : {A : Type 0} (x : Option A) → is_some x ≡ false → x ≡ None
not_some None is = refl
not_some (Some x) is = cc
