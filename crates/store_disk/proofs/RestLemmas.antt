-- What the calls of a store make of one at rest, and of a file that was read.
use Rattle.std.proofs.Common.{◌≡◌, ℕ, zero, suc, ◌+◌, ◌-◌, ◌<◌, ◌≤◌, List, [], ◌∷◌, ◌++◌, length, take, drop, replicate, refl, sym, ◌∙◌, ap, subst, arith, append_assoc, length-append, length-drop}
use Rattle.std.proofs.lemmas.List.{append-nil, length-replicate, replicate-append-replicate, nil_from_length, take_all}
use Rattle.sqlite_disk.specs.Disk.{Holds, Torn, Mixed, Follows, Only}
use Rattle.store_lines.specs.Lines.{recovered, encode, AreLines, IsBetween}
use Rattle.store_lines.specs.Readings.{IsReadAs, trusted}
use Rattle.store_lines.specs.Seals.{spelled_from}
use Rattle.store_lines.specs.declared.piece.Piece.{Piece}
use Rattle.store_disk.specs.State.{IsAtRest, IsFound, IsLeftAs, IsLeftWith, IsNextBatch}
use Rattle.store_disk.specs.declared.store.Store.{Store}
use Rattle.store_lines.proofs.ReadAsLemmas.{TornBatch, at_rest_read, bounds_batch, byte_read, cleared_read, long_enough, longer_read, spelled_append, spelled_length, torn_batch_read, trusted_batch}
use Rattle.store_lines.proofs.WholeLemmas.{recovered_end, encode-append, AreLines-append}
use Rattle.store_disk.proofs.WriteLemmas.{ByteBehind, Cleared, written, extended, torn_end, torn_batch, torn_tail, torn_byte, recovered_gate}

recovered_zeros : (k : ℕ) → recovered (replicate k 0) ≡ []
recovered_zeros zero = refl
recovered_zeros (suc k) = refl

zeros_more : (n room : ℕ) → n ≤ room → replicate {A = ℕ} room 0 ≡ replicate n 0 ++ replicate (room - n) 0
zeros_more n room le = ap (λ (k : ℕ). replicate {A = ℕ} k 0) (let e : room ≡ n + (room - n) = omega arith in e) ∙ sym (replicate-append-replicate n (room - n) 0)

pub encode_none : (ys : List (List ℕ)) → length (encode ys) ≡ 0 → ys ≡ []
encode_none [] none = refl
encode_none (y ∷ ys) none = absurd (omega (arith, none, length-append y (10 ∷ encode ys)))

module _ {D : Type 0} (seen : D → List ℕ) (may_leave : D → List ℕ → Type 0) where
  size_of : (old : Store D) → IsAtRest seen may_leave old → length (seen old.disk) ≡ old.len
  size_of old rest =
      omega (arith, ap length rest.file, length-append (encode (recovered (seen old.disk))) (replicate (old.len - old.used) 0), length-replicate {A = ℕ} (old.len - old.used) 0, rest.used, rest.room)

  -- nothing has happened
  pub stays : (old : Store D) (ys : List (List ℕ)) → IsAtRest seen may_leave old → (c : List ℕ) → may_leave old.disk c → IsBetween (recovered (seen old.disk)) ys (recovered c)
  stays old ys rest c left = (0, omega arith, ap recovered (rest.durable c left) ∙ sym (append-nil (recovered (seen old.disk))))

  pub stays_told : (old : Store D) (pieces more : List Piece) → IsAtRest seen may_leave old → IsReadAs pieces (seen old.disk) → IsLeftWith pieces more (may_leave old.disk)
  stays_told old pieces more rest read c left =
      (0, omega arith, subst (λ (l : List Piece). IsReadAs l c) (sym (append-nil pieces)) (subst (λ (l : List ℕ). IsReadAs pieces l) (sym (rest.durable c left)) read))

  -- no lines were appended
  pub appended_none : (old : Store D) (ys : List (List ℕ)) → IsAtRest seen may_leave old → ys ≡ [] → IsAtRest seen may_leave old × (recovered (seen old.disk) ≡ recovered (seen old.disk) ++ ys)
  appended_none old ys rest none = (rest, sym (append-nil (recovered (seen old.disk))) ∙ ap (λ (l : List (List ℕ)). recovered (seen old.disk) ++ l) (sym none))

  -- the write of a batch, however torn
  module _ (old : Store D) (mid : D) (bytes : List ℕ) (ys : List (List ℕ)) (rest : IsAtRest seen may_leave old) (is : bytes ≡ encode ys) (lines : AreLines ys) (fits : length bytes < old.len - old.used)
      (follows : Follows (Mixed old.used bytes) (may_leave old.disk) (may_leave mid)) where
    left_of : (c : List ℕ) → may_leave mid c → (k : ℕ) × (k ≤ length ys) × TornBatch (recovered (seen old.disk)) ys k c
    left_of c left =
        let xs = recovered (seen old.disk) in
        let from = follows c left in
        let torn : Mixed old.used bytes (seen old.disk) c = subst (λ (d : List ℕ). Mixed old.used bytes d c) (rest.durable from.0 from.1) from.2 in
        let there : Mixed (length (encode xs)) bytes (seen old.disk) c = subst (λ (k : ℕ). Mixed k bytes (seen old.disk) c) rest.used torn in
        let encoded : Mixed (length (encode xs)) (encode ys) (seen old.disk) c = subst (λ (l : List ℕ). Mixed (length (encode xs)) l (seen old.disk) c) is there in
        torn_batch xs ys (old.len - old.used) (seen old.disk) c rest.lines lines rest.file (omega (arith, fits, ap length is)) encoded

    same_size : (c : List ℕ) → may_leave mid c → length c ≡ old.len
    same_size c left =
        let from = follows c left in
        let torn : Mixed old.used bytes (seen old.disk) c = subst (λ (d : List ℕ). Mixed old.used bytes d c) (rest.durable from.0 from.1) from.2 in
        omega (arith, torn.torn.no_shorter, torn.torn.no_longer, size_of old rest, rest.room, fits)

    pub append_torn : (c : List ℕ) → may_leave mid c → IsBetween (recovered (seen old.disk)) ys (recovered c)
    append_torn c left = let few = left_of c left in (few.0, few.1, few.2.found)

    pub append_told : (pieces more : List Piece) → IsReadAs pieces (seen old.disk) → IsNextBatch old.len pieces more ys → IsLeftWith pieces more (may_leave mid)
    append_told pieces more read next c left =
        let few = left_of c left in
        let k = few.0 in
        let size = same_size c left in
        let tells = long_enough pieces (seen old.disk) read in
        let from : TornBatch (spelled_from 0 pieces) ys k c = subst (λ (l : List (List ℕ)). TornBatch l ys k c) read.lines few.2 in
        let torn : TornBatch (spelled_from 0 pieces) (spelled_from (length pieces) more) k c = subst (λ (l : List (List ℕ)). TornBatch (spelled_from 0 pieces) l k c) next.lines from in
        let are : AreLines (spelled_from (length pieces) more) = subst AreLines next.lines lines in (
          k,
          omega (arith, few.1, ap length next.lines, spelled_length (length pieces) more),
          torn_batch_read pieces more k old.len c next.batch (bounds_batch (length pieces) old.len more next.small next.batch next.are) are torn
              (omega (arith, tells, size, size_of old rest)) (omega (arith, size)),
        )

  -- a batch that was written and synced
  pub appended : (old : Store D) (mid new : D) (bytes : List ℕ) (ys : List (List ℕ)) → IsAtRest seen may_leave old → bytes ≡ encode ys → AreLines ys → length bytes < old.len - old.used
      → Torn old.used (length bytes) (seen old.disk) (seen mid) → Holds (seen mid) old.used bytes → Only (seen mid) (may_leave new) → seen new ≡ seen mid
      → IsAtRest seen may_leave (record { disk = new; used = old.used + length bytes; len = old.len }) × (recovered (seen new) ≡ recovered (seen old.disk) ++ ys)
  appended old mid new bytes ys rest is lines fits torn holds only same =
      let xs = recovered (seen old.disk) in
      let room = old.len - old.used in
      let n = length bytes in
      let zeros = replicate {A = ℕ} (room - n) 0 in
      let split : seen old.disk ≡ encode xs ++ (replicate n 0 ++ zeros) = rest.file ∙ ap (λ (l : List ℕ). encode xs ++ l) (zeros_more n room (omega arith)) in
      let torn_there : Torn (length (encode xs)) n (seen old.disk) (seen mid) = subst (λ (k : ℕ). Torn k n (seen old.disk) (seen mid)) rest.used torn in
      let holds_there : Holds (seen mid) (length (encode xs)) bytes = subst (λ (k : ℕ). Holds (seen mid) k bytes) rest.used holds in
      let made : seen mid ≡ encode xs ++ (bytes ++ zeros) = written (encode xs) (replicate n 0) zeros bytes (seen old.disk) (seen mid) split (length-replicate {A = ℕ} n 0) torn_there holds_there in
      let together : encode xs ++ bytes ≡ encode (xs ++ ys) = ap (λ (l : List ℕ). encode xs ++ l) is ∙ sym (encode-append xs ys) in
      let file : seen new ≡ encode (xs ++ ys) ++ zeros = same ∙ made ∙ sym (append_assoc (encode xs) bytes zeros) ∙ ap (λ (l : List ℕ). l ++ zeros) together in
      let all_lines = AreLines-append xs ys rest.lines lines in
      let found : recovered (seen new) ≡ xs ++ ys = ap recovered file ∙ recovered_end (xs ++ ys) zeros all_lines (recovered_zeros (room - n)) in
      let size : length (encode (xs ++ ys)) ≡ old.used + n = omega (arith, ap length together, length-append (encode xs) bytes, rest.used) in (
        record {
          file = file ∙ ap (λ (l : List (List ℕ)). encode l ++ zeros) (sym found) ∙ ap (λ (k : ℕ). encode (recovered (seen new)) ++ replicate {A = ℕ} k 0) (let e : room - n ≡ old.len - (old.used + n) = omega arith in e);
          used = sym size ∙ ap (λ (l : List (List ℕ)). length (encode l)) (sym found);
          room = omega arith;
          lines = subst AreLines (sym found) all_lines;
          durable = subst (λ (l : List ℕ). Only l (may_leave new)) (sym same) only;
        },
        found,
      )

  -- lines at rest are read as their pieces
  pub rest_read : (store : Store D) (pieces : List Piece) → IsAtRest seen may_leave store → recovered (seen store.disk) ≡ spelled_from 0 pieces → trusted pieces ≤ store.len → IsReadAs pieces (seen store.disk)
  rest_read store pieces rest lines long = at_rest_read pieces (store.len - store.used) (seen store.disk) lines rest.file (omega (arith, size_of store rest, long))

  pub appended_read : (old new : Store D) (pieces more : List Piece) (ys : List (List ℕ)) → IsAtRest seen may_leave old → IsAtRest seen may_leave new → old.len ≡ new.len
      → recovered (seen new.disk) ≡ recovered (seen old.disk) ++ ys → IsReadAs pieces (seen old.disk) → IsNextBatch old.len pieces more ys → IsReadAs (pieces ++ more) (seen new.disk)
  appended_read old new pieces more ys before rest len found read next =
      let tells = long_enough pieces (seen old.disk) read in
      let long = trusted_batch old.len old.len (length more) pieces more (omega (arith, tells, size_of old before)) (omega arith) next.batch in
      let all : take (length more) more ≡ more = take_all (length more) more (omega arith) in
      let lines : recovered (seen new.disk) ≡ spelled_from 0 (pieces ++ more) =
      found ∙ ap (λ (l : List (List ℕ)). l ++ ys) read.lines ∙ ap (λ (l : List (List ℕ)). spelled_from 0 pieces ++ l) next.lines
      ∙ ap (λ (n : ℕ). spelled_from 0 pieces ++ spelled_from n more) (let e : length pieces ≡ 0 + length pieces = omega arith in e)
      ∙ sym (spelled_append 0 pieces more) in
      rest_read new (pieces ++ more) rest lines (omega (arith, long, ap (λ (l : List Piece). trusted (pieces ++ l)) all, len))

  gate : (old : Store D) → IsAtRest seen may_leave old → (behind : List ℕ) → recovered (seen old.disk ++ behind) ≡ recovered (seen old.disk)
  gate old rest behind =
      let xs = recovered (seen old.disk) in
      let k = old.len - old.used - 1 in
      let one : replicate {A = ℕ} (old.len - old.used) 0 ≡ 0 ∷ replicate k 0 = ap (λ (n : ℕ). replicate {A = ℕ} n 0) (let e : old.len - old.used ≡ suc k = omega (arith, rest.room) in e) in
      let file : seen old.disk ≡ encode xs ++ 0 ∷ replicate k 0 = rest.file ∙ ap (λ (l : List ℕ). encode xs ++ l) one in
      ap (λ (l : List ℕ). recovered (l ++ behind)) file ∙ ap recovered (append_assoc (encode xs) (0 ∷ replicate k 0) behind) ∙ recovered_gate xs (replicate k 0 ++ behind) rest.lines

  -- zeros that are written past the end, however torn
  pub grow_torn : (old : Store D) (mid : D) (n : ℕ) → IsAtRest seen may_leave old → Follows (Torn old.len n) (may_leave old.disk) (may_leave mid) → (c : List ℕ) → may_leave mid c → recovered c ≡ recovered (seen old.disk)
  grow_torn old mid n rest follows c left =
      let from = follows c left in
      let torn : Torn old.len n (seen old.disk) c = subst (λ (d : List ℕ). Torn old.len n d c) (rest.durable from.0 from.1) from.2 in
      let there : Torn (length (seen old.disk)) n (seen old.disk) c = subst (λ (k : ℕ). Torn k n (seen old.disk) c) (sym (size_of old rest)) torn in
      ap recovered (torn_end (seen old.disk) c n there) ∙ gate old rest (drop (length (seen old.disk)) c)

  pub grow_told : (old : Store D) (mid : D) (n : ℕ) → IsAtRest seen may_leave old → Follows (Torn old.len n) (may_leave old.disk) (may_leave mid) → (pieces : List Piece) → IsReadAs pieces (seen old.disk)
      → IsLeftAs pieces (may_leave mid)
  grow_told old mid n rest follows pieces read c left =
      let from = follows c left in
      let torn : Torn old.len n (seen old.disk) c = subst (λ (d : List ℕ). Torn old.len n d c) (rest.durable from.0 from.1) from.2 in
      let there : Torn (length (seen old.disk)) n (seen old.disk) c = subst (λ (k : ℕ). Torn k n (seen old.disk) c) (sym (size_of old rest)) torn in
      let more = drop (length (seen old.disk)) c in
      subst (λ (l : List ℕ). IsReadAs pieces l) (sym (torn_end (seen old.disk) c n there))
      (longer_read pieces (old.len - old.used) (seen old.disk) more read rest.file (omega (arith, rest.room)) (gate old rest more))

  pub grown : (old : Store D) (mid new : D) (zeros : List ℕ) → IsAtRest seen may_leave old → zeros ≡ replicate (length zeros) 0
      → Torn old.len (length zeros) (seen old.disk) (seen mid) → Holds (seen mid) old.len zeros → Only (seen mid) (may_leave new) → seen new ≡ seen mid
      → IsAtRest seen may_leave (record { disk = new; used = old.used; len = old.len + length zeros }) × (recovered (seen new) ≡ recovered (seen old.disk))
  grown old mid new zeros rest is torn holds only same =
      let xs = recovered (seen old.disk) in
      let n = length zeros in
      let size = size_of old rest in
      let made : seen mid ≡ seen old.disk ++ zeros = extended (seen old.disk) zeros (seen mid) (subst (λ (k : ℕ). Torn k n (seen old.disk) (seen mid)) (sym size) torn) (subst (λ (k : ℕ). Holds (seen mid) k zeros) (sym size) holds) in
      let found : recovered (seen new) ≡ xs = ap recovered (same ∙ made) ∙ gate old rest zeros in
      let file : seen new ≡ encode xs ++ replicate (old.len + n - old.used) 0 =
      same ∙ made ∙ ap (λ (l : List ℕ). l ++ zeros) rest.file ∙ append_assoc (encode xs) (replicate (old.len - old.used) 0) zeros
      ∙ ap (λ (l : List ℕ). encode xs ++ (replicate (old.len - old.used) 0 ++ l)) is
      ∙ ap (λ (l : List ℕ). encode xs ++ l) (replicate-append-replicate (old.len - old.used) n 0)
      ∙ ap (λ (k : ℕ). encode xs ++ replicate {A = ℕ} k 0) (let e : old.len - old.used + n ≡ old.len + n - old.used = omega (arith, rest.room) in e) in (
        record {
          file = file ∙ ap (λ (l : List (List ℕ)). encode l ++ replicate {A = ℕ} (old.len + n - old.used) 0) (sym found);
          used = rest.used ∙ ap (λ (l : List (List ℕ)). length (encode l)) (sym found);
          room = omega (arith, rest.room);
          lines = subst AreLines (sym found) rest.lines;
          durable = subst (λ (l : List ℕ). Only l (may_leave new)) (sym same) only;
        },
        found,
      )

  -- a file that was read up to the end of its lines
  module _ (old : D) (used len : ℕ) (is : IsFound seen may_leave old used len) where
    whole : seen old ≡ encode (recovered (seen old)) ++ drop used (seen old)
    whole = is.read.front

    nothing_behind : used ≡ length (seen old) → seen old ≡ encode (recovered (seen old))
    nothing_behind all =
        let none : drop used (seen old) ≡ [] = nil_from_length (drop used (seen old)) (omega (arith, length-drop used (seen old), all)) in
        whole ∙ ap (λ (l : List ℕ). encode (recovered (seen old)) ++ l) none ∙ append-nil (encode (recovered (seen old)))

    -- there is nothing behind the lines
    pub at_end : len - used ≡ 0 → used ≡ length (seen old)
    at_end none = omega (arith, none, is.len, ap length whole, length-append (encode (recovered (seen old))) (drop used (seen old)), is.read.place)

    -- so many zeros as there are bytes behind the lines
    pub zeros_for : (zeros : List ℕ) (n : ℕ) → zeros ≡ replicate n 0 → n ≡ len - used → zeros ≡ replicate (length (drop used (seen old))) 0
    zeros_for zeros n are size = are ∙ ap (λ (k : ℕ). replicate {A = ℕ} k 0) (let e : n ≡ length (drop used (seen old)) = omega (arith, size, length-drop used (seen old), is.len) in e)

    pub untouched : (c : List ℕ) → may_leave old c → recovered c ≡ recovered (seen old)
    untouched c left = ap recovered (is.durable c left)

    pub untouched_told : (pieces : List Piece) → IsReadAs pieces (seen old) → IsLeftAs pieces (may_leave old)
    untouched_told pieces read c left = subst (λ (l : List ℕ). IsReadAs pieces l) (sym (is.durable c left)) read

    -- the rest is made zeros, however torn
    tail_left : (mid : D) (zeros : List ℕ) → zeros ≡ replicate (length (drop used (seen old))) 0 → Follows (Mixed used zeros) (may_leave old) (may_leave mid) → (c : List ℕ) → may_leave mid c
        → Cleared (recovered (seen old)) (drop used (seen old)) c
    tail_left mid zeros are follows c left =
        let xs = recovered (seen old) in
        let from = follows c left in
        let torn : Mixed used zeros (seen old) c = subst (λ (d : List ℕ). Mixed used zeros d c) (is.durable from.0 from.1) from.2 in
        let there : Mixed (length (encode xs)) zeros (seen old) c = subst (λ (k : ℕ). Mixed k zeros (seen old) c) is.read.place torn in
        torn_tail xs (drop used (seen old)) (seen old) c is.read.are is.rest whole (subst (λ (l : List ℕ). Mixed (length (encode xs)) l (seen old) c) are there)

    pub tail_torn : (mid : D) (zeros : List ℕ) → zeros ≡ replicate (length (drop used (seen old))) 0 → Follows (Mixed used zeros) (may_leave old) (may_leave mid) → (c : List ℕ) → may_leave mid c → recovered c ≡ recovered (seen old)
    tail_torn mid zeros are follows c left = (tail_left mid zeros are follows c left).found

    pub tail_told : (mid : D) (zeros : List ℕ) → zeros ≡ replicate (length (drop used (seen old))) 0 → Follows (Mixed used zeros) (may_leave old) (may_leave mid) → (pieces : List Piece) → IsReadAs pieces (seen old)
        → IsLeftAs pieces (may_leave mid)
    tail_told mid zeros are follows pieces read c left =
        let cleared = tail_left mid zeros are follows c left in
        cleared_read pieces (drop used (seen old)) cleared.blended (seen old) c read whole cleared.blend cleared.is cleared.found

    -- one byte is written behind the lines, however torn
    byte_left : (mid : D) → used ≡ length (seen old) → Follows (Torn used 1) (may_leave old) (may_leave mid) → (c : List ℕ) → may_leave mid c → ByteBehind (recovered (seen old)) c
    byte_left mid all follows c left =
        let xs = recovered (seen old) in
        let from = follows c left in
        let torn : Torn used 1 (seen old) c = subst (λ (d : List ℕ). Torn used 1 d c) (is.durable from.0 from.1) from.2 in
        let there : Torn (length (encode xs)) 1 (seen old) c = subst (λ (k : ℕ). Torn k 1 (seen old) c) is.read.place torn in
        torn_byte xs c is.read.are (subst (λ (d : List ℕ). Torn (length (encode xs)) 1 d c) (nothing_behind all) there)

    pub byte_torn : (mid : D) → used ≡ length (seen old) → Follows (Torn used 1) (may_leave old) (may_leave mid) → (c : List ℕ) → may_leave mid c → recovered c ≡ recovered (seen old)
    byte_torn mid all follows c left = (byte_left mid all follows c left).found

    pub byte_told : (mid : D) → used ≡ length (seen old) → Follows (Torn used 1) (may_leave old) (may_leave mid) → (pieces : List Piece) → IsReadAs pieces (seen old) → IsLeftAs pieces (may_leave mid)
    byte_told mid all follows pieces read c left =
        let behind = byte_left mid all follows c left in
        let none = nothing_behind all in
        let now : c ≡ seen old ++ behind.byte = behind.is ∙ ap (λ (l : List ℕ). l ++ behind.byte) (sym none) in
        subst (λ (l : List ℕ). IsReadAs pieces l) (sym now) (byte_read pieces (seen old) behind.byte read none behind.one (ap recovered (sym now) ∙ behind.found))

    at_rest : (new : D) (now : ℕ) → seen new ≡ encode (recovered (seen old)) ++ replicate (now - used) 0 → used < now → Only (seen new) (may_leave new)
        → IsAtRest seen may_leave (record { disk = new; used = used; len = now }) × (recovered (seen new) ≡ recovered (seen old))
    at_rest new now file room durable =
        let xs = recovered (seen old) in
        let found : recovered (seen new) ≡ xs = ap recovered file ∙ recovered_end xs (replicate (now - used) 0) is.read.are (recovered_zeros (now - used)) in (
          record {
            file = file ∙ ap (λ (l : List (List ℕ)). encode l ++ replicate {A = ℕ} (now - used) 0) (sym found);
            used = is.read.place ∙ ap (λ (l : List (List ℕ)). length (encode l)) (sym found);
            room = room;
            lines = subst AreLines (sym found) is.read.are;
            durable = durable;
          },
          found,
        )

    pub tail_made : (mid new : D) (zeros : List ℕ) → used < len → zeros ≡ replicate (length (drop used (seen old))) 0
        → Torn used (length zeros) (seen old) (seen mid) → Holds (seen mid) used zeros → Only (seen mid) (may_leave new) → seen new ≡ seen mid
        → IsAtRest seen may_leave (record { disk = new; used = used; len = len }) × (recovered (seen new) ≡ recovered (seen old))
    tail_made mid new zeros room are torn holds durable same =
        let xs = recovered (seen old) in
        let tail = drop used (seen old) in
        let size : length tail ≡ len - used = omega (arith, length-drop used (seen old), is.len) in
        let zeros_size : length zeros ≡ length tail = ap length are ∙ length-replicate {A = ℕ} (length tail) 0 in
        let old_is : seen old ≡ encode xs ++ (tail ++ []) = whole ∙ ap (λ (l : List ℕ). encode xs ++ l) (sym (append-nil tail)) in
        let made : seen mid ≡ encode xs ++ (zeros ++ []) =
        written (encode xs) tail [] zeros (seen old) (seen mid) old_is (sym zeros_size) (subst (λ (k : ℕ). Torn k (length zeros) (seen old) (seen mid)) is.read.place torn)
        (subst (λ (k : ℕ). Holds (seen mid) k zeros) is.read.place holds) in
        at_rest new len
        (same ∙ made ∙ ap (λ (l : List ℕ). encode xs ++ l) (append-nil zeros ∙ are) ∙ ap (λ (k : ℕ). encode xs ++ replicate {A = ℕ} k 0) size)
        room (subst (λ (l : List ℕ). Only l (may_leave new)) (sym same) durable)

    pub byte_made : (mid new : D) (zeros : List ℕ) → used ≡ length (seen old) → zeros ≡ 0 ∷ []
        → Torn used (length zeros) (seen old) (seen mid) → Holds (seen mid) used zeros → Only (seen mid) (may_leave new) → seen new ≡ seen mid
        → IsAtRest seen may_leave (record { disk = new; used = used; len = used + 1 }) × (recovered (seen new) ≡ recovered (seen old))
    byte_made mid new zeros all are torn holds durable same =
        let xs = recovered (seen old) in
        let made : seen mid ≡ seen old ++ zeros = extended (seen old) zeros (seen mid) (subst (λ (k : ℕ). Torn k (length zeros) (seen old) (seen mid)) all torn) (subst (λ (k : ℕ). Holds (seen mid) k zeros) all holds) in
        at_rest new (used + 1)
        (same ∙ made ∙ ap (λ (l : List ℕ). l ++ zeros) (nothing_behind all) ∙ ap (λ (l : List ℕ). encode xs ++ l) are ∙ ap (λ (k : ℕ). encode xs ++ replicate {A = ℕ} k 0) (let e : 1 ≡ used + 1 - used = omega arith in e))
        (omega arith) (subst (λ (l : List ℕ). Only l (may_leave new)) (sym same) durable)
