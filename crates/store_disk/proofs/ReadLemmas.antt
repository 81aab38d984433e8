-- Lines and marks, read from pieces of a file.
use Rattle.std.proofs.Common.{min, ◌≡◌, ◌⊎◌, inl, inr, ⊎_elim, ℕ, zero, suc, ◌+◌, ◌-◌, ◌<◌, ◌≤◌, ◌==◌, false, List, [], ◌∷◌, ◌++◌, Option, Some, None, length, get_or, take, drop, refl, sym, ◌∙◌, ap, subst, arith, append_assoc, length-append, length-drop, take-append-drop}
use Rattle.std.proofs.lemmas.Bool.{cases_lt, false≢true}
use Rattle.std.proofs.lemmas.List.{append-nil, drop-drop, drop_all, drop_more, drop-append-le, ext_get_or, get_or-drop, get_or-take, length-take}
use Rattle.sqlite_disk.specs.Disk.{Holds}
use Rattle.store_lines.specs.Lines.{recovered, lines_from, encode, IsLine, IsText}
use Rattle.store_lines.specs.Readings.{BeginsAbove, IsAhead, Misses, is_broken}
use Rattle.store_disk.specs.State.{HasRead, IsNext, IsReading, place, read_to}
use Rattle.store_disk.specs.declared.reader.Reader.{Reader}
use Rattle.sqlite_disk.specs.declared.Disk.{Ghosts}
use Rattle.store_lines.proofs.WindowLemmas.{begins_in_window, begins_of_window}
use Rattle.store_lines.proofs.WholeLemmas.{encode-append, AreLines-append, lines_encode, lines_other}

-- ---- pieces

-- a read that was honest gave a piece of the file
pub piece_read : (file bytes : List ℕ) (at count : ℕ) → length bytes ≡ count → (0 < count → Holds file at bytes) → bytes ≡ take count (drop at file)
piece_read file [] at zero size holds = refl
piece_read file [] at (suc count) size holds = absurd (omega arith)
piece_read file (b ∷ bs) at zero size holds = absurd (omega arith)
piece_read file (b ∷ bs) at (suc count) size holds =
    let bytes = b ∷ bs in
    let there : Holds file at bytes = holds (omega arith) in
    let long : suc count ≤ length (drop at file) = omega (arith, length-drop at file, there.within, size) in
    ext_get_or 0 bytes (take (suc count) (drop at file)) (omega (arith, size, length-take (suc count) (drop at file), long))
    (λ i lt.
    let below : i < suc count = omega (arith, size) in
    sym (there.each i lt) ∙ sym (get_or-drop at file i 0) ∙ sym (get_or-take (suc count) (drop at file) i 0 below))

-- what stands at a place within a piece
pub place_has : (file piece : List ℕ) (at start : ℕ) → drop at file ≡ piece ++ drop (at + length piece) file → start ≤ length piece → drop (at + start) file ≡ drop start piece ++ drop (at + length piece) file
place_has file piece at start is le = sym (drop-drop start at file) ∙ ap (λ (l : List ℕ). drop start l) is ∙ drop-append-le start piece (drop (at + length piece) file) le

-- one piece more, behind what isn't taken yet
pub piece_more : (file piece next : List ℕ) (at start count : ℕ) → drop at file ≡ piece ++ drop (at + length piece) file → start ≤ length piece → next ≡ take count (drop (at + length piece) file) → length next ≡ count
    → drop (at + start) file ≡ (drop start piece ++ next) ++ drop (at + start + length (drop start piece ++ next)) file
piece_more file piece next at start count is le next_is size =
    let end = at + length piece in
    let unread = drop start piece in
    let behind : drop end file ≡ next ++ drop (end + count) file =
    sym (take-append-drop count (drop end file)) ∙ ap (λ (l : List ℕ). l ++ drop count (drop end file)) (sym next_is) ∙ ap (λ (l : List ℕ). next ++ l) (drop-drop count end file) in
    let place : end + count ≡ at + start + length (unread ++ next) = omega (arith, length-append unread next, length-drop start piece, size, le) in
    place_has file piece at start is le
    ∙ ap (λ (l : List ℕ). unread ++ l) behind
    ∙ sym (append_assoc unread next (drop (end + count) file))
    ∙ ap (λ (n : ℕ). (unread ++ next) ++ drop n file) place

-- a reader that has one piece more
pub reading_more : {D : Type 0} {g : Ghosts D} (seen : D → List ℕ) (old new : Reader D g) (next : List ℕ) (end count : ℕ) → IsReading seen old → seen new.disk ≡ seen old.disk → new.len ≡ old.len → new.at ≡ old.at + old.start
    → new.piece.items ≡ drop old.start old.piece.items ++ next → old.start ≤ length old.piece.items → end ≡ read_to old → next ≡ take count (drop end (seen old.disk)) → length next ≡ count → IsReading seen new
reading_more seen old new next end count reading same len_is at_is items taken end_is next_is size =
    let file = seen old.disk in
    let unread = drop old.start old.piece.items ++ next in
    let more = piece_more file old.piece.items next old.at old.start count reading.piece taken (next_is ∙ ap (λ (n : ℕ). take count (drop n file)) end_is) size in
    record {
      len = len_is ∙ reading.len ∙ ap length (sym same);
      piece = ap (λ (l : List ℕ). drop new.at l) same
          ∙ ap (λ (n : ℕ). drop n file) at_is
          ∙ more
          ∙ ap (λ (l : List ℕ). l ++ drop (old.at + old.start + length l) file) (sym items)
          ∙ ap (λ (n : ℕ). new.piece.items ++ drop (n + length new.piece.items) file) (sym at_is)
          ∙ ap (λ (l : List ℕ). new.piece.items ++ drop (read_to new) l) (sym same);
    }

-- ---- lines

line_from : (line : List ℕ) → 0 < length line → IsText line → IsLine line
line_from [] some text = absurd (omega arith)
line_from (b ∷ bs) some text = text

text_alone : (line text : List ℕ) → IsText text → lines_from line text ≡ []
text_alone line [] is = refl
text_alone line (b ∷ bs) is = lines_other line b bs is.0 is.1 ∙ text_alone (line ++ b ∷ []) bs is.2

text_zero : (line text behind : List ℕ) → IsText text → lines_from line (text ++ 0 ∷ behind) ≡ []
text_zero line [] behind is = refl
text_zero line (b ∷ bs) behind is = lines_other line b (bs ++ 0 ∷ behind) is.0 is.1 ∙ text_zero (line ++ b ∷ []) bs behind is.2

-- a text that is cut by the byte at its end
cut_at : (unread behind : List ℕ) (n b : ℕ) → n < length unread → get_or unread n 0 ≡ b → unread ++ behind ≡ take n unread ++ b ∷ (drop (n + 1) unread ++ behind)
cut_at unread behind n b within is =
    ap (λ (l : List ℕ). l ++ behind) (sym (take-append-drop n unread) ∙ ap (λ (l : List ℕ). take n unread ++ l) (drop_more unread n 0 within ∙ ap (λ (k : ℕ). k ∷ drop (n + 1) unread) is))
    ∙ append_assoc (take n unread) (b ∷ drop (n + 1) unread) behind

module _ (file piece : List ℕ) (at start : ℕ) (is : drop at file ≡ piece ++ drop (at + length piece) file) (le : start ≤ length piece) where
  -- a 0, or the end of a line that is empty
  pub next_ends : (n : ℕ) → start + n < length piece → IsText (take n (drop start piece)) → get_or piece (start + n) 0 ≡ 0 → IsNext file (at + start) (at + start) None
  next_ends n within text zeros =
      let unread = drop start piece in
      let behind = drop (at + length piece) file in
      let cut = cut_at unread behind n 0 (omega (arith, length-drop start piece)) (get_or-drop start piece n 0 ∙ zeros) in
      (ap recovered (place_has file piece at start is le ∙ cut) ∙ text_zero [] (take n unread) (drop (n + 1) unread ++ behind) text, refl)

  pub next_empty : (n : ℕ) → n ≡ 0 → start + n < length piece → (get_or piece (start + n) 0 ≡ 0) ⊎ (get_or piece (start + n) 0 ≡ 10) → IsText (take n (drop start piece)) → IsNext file (at + start) (at + start) None
  next_empty n none within ends text = ⊎_elim
      (λ zeros. next_ends n within text zeros)
      (λ ten.
      let unread = drop start piece in
      let behind = drop (at + length piece) file in
      let cut = cut_at unread behind n 10 (omega (arith, length-drop start piece)) (get_or-drop start piece n 0 ∙ ten) in
      let first : take n unread ≡ [] = ap (λ (k : ℕ). take k unread) none in
      (ap recovered (place_has file piece at start is le ∙ cut) ∙ ap (λ (l : List ℕ). recovered (l ++ 10 ∷ (drop (n + 1) unread ++ behind))) first, refl))
      ends

  -- nothing ends the line
  pub next_none : IsText (drop start piece) → length file ≤ at + length piece → IsNext file (at + start) (at + start) None
  next_none text all =
      let none : drop (at + length piece) file ≡ [] = drop_all (at + length piece) file all in
      (ap recovered (place_has file piece at start is le ∙ ap (λ (l : List ℕ). drop start piece ++ l) none ∙ append-nil (drop start piece)) ∙ text_alone [] (drop start piece) text, refl)

  -- a line
  pub next_line : (line : List ℕ) (n : ℕ) → start + n < length piece → IsText (take n (drop start piece)) → get_or piece (start + n) 0 ≡ 10 → 0 < n → line ≡ take n (drop start piece)
      → IsNext file (at + start) (at + (start + n + 1)) (Some line)
  next_line line n within text ten some line_is =
      let unread = drop start piece in
      let behind = drop (at + length piece) file in
      let inside : n < length unread = omega (arith, length-drop start piece) in
      let size : length line ≡ n = omega (arith, ap length line_is, length-take n unread, inside) in
      let cut = cut_at unread behind n 10 inside (get_or-drop start piece n 0 ∙ ten) in
      let there = place_has file piece at start is le in
      let further : drop (at + (start + n + 1)) file ≡ drop (n + 1) unread ++ behind =
      ap (λ (k : ℕ). drop k file) (let e : at + (start + n + 1) ≡ at + start + (n + 1) = omega arith in e)
      ∙ sym (drop-drop (n + 1) (at + start) file)
      ∙ ap (λ (l : List ℕ). drop (n + 1) l) there
      ∙ drop-append-le (n + 1) unread behind (omega (arith, inside)) in (
        subst IsLine (sym line_is) (line_from (take n unread) (omega (arith, ap length line_is, size, some)) text),
        there ∙ cut ∙ ap (λ (l : List ℕ). l ++ 10 ∷ (drop (n + 1) unread ++ behind)) (sym line_is) ∙ ap (λ (l : List ℕ). line ++ 10 ∷ l) (sym further),
        omega (arith, size),
      )

-- the same, where the file and the place were told in other words
moved : (file now : List ℕ) (from at to : ℕ) (r : Option (List ℕ)) → now ≡ file → at ≡ from → IsNext now at to r → IsNext file from to r
moved file now from at to r same place next = subst (λ (l : List ℕ). IsNext l from to r) same (subst (λ (n : ℕ). IsNext now n to r) place next)

module _ {D : Type 0} {g : Ghosts D} (seen : D → List ℕ) (old now : Reader D g) (reading : IsReading seen now) (le : now.start ≤ length now.piece.items) (same : seen now.disk ≡ seen old.disk) (here : place now ≡ place old) where
  pub reader_none : IsText (drop now.start now.piece.items) → read_to now ≡ now.len → IsNext (seen old.disk) (place old) (place now) None
  reader_none text all =
      moved (seen old.disk) (seen now.disk) (place old) (place now) (place now) None same here
      (next_none (seen now.disk) now.piece.items now.at now.start reading.piece le text (omega (arith, all, reading.len)))

  pub reader_ends : (n : ℕ) → now.start + n < length now.piece.items → IsText (take n (drop now.start now.piece.items)) → get_or now.piece.items (now.start + n) 0 ≡ 0 → IsNext (seen old.disk) (place old) (place now) None
  reader_ends n within text zeros =
      moved (seen old.disk) (seen now.disk) (place old) (place now) (place now) None same here (next_ends (seen now.disk) now.piece.items now.at now.start reading.piece le n within text zeros)

  pub reader_empty : (n : ℕ) → n ≡ 0 → now.start + n < length now.piece.items → (get_or now.piece.items (now.start + n) 0 ≡ 0) ⊎ (get_or now.piece.items (now.start + n) 0 ≡ 10) → IsText (take n (drop now.start now.piece.items))
      → IsNext (seen old.disk) (place old) (place now) None
  reader_empty n none within ends text =
      moved (seen old.disk) (seen now.disk) (place old) (place now) (place now) None same here (next_empty (seen now.disk) now.piece.items now.at now.start reading.piece le n none within ends text)

  pub reader_line : (line : List ℕ) (n : ℕ) → now.start + n < length now.piece.items → IsText (take n (drop now.start now.piece.items)) → get_or now.piece.items (now.start + n) 0 ≡ 10 → 0 < n → line ≡ take n (drop now.start now.piece.items)
      → IsNext (seen old.disk) (place old) (now.at + (now.start + n + 1)) (Some line)
  reader_line line n within text ten some is =
      moved (seen old.disk) (seen now.disk) (place old) (place now) (now.at + (now.start + n + 1)) (Some line) same here (next_line (seen now.disk) now.piece.items now.at now.start reading.piece le line n within text ten some is)

-- ---- for those who read a file to its end

pub has_read_none : (file : List ℕ) → HasRead file 0 []
has_read_none file = record { front = refl; place = refl; are = tt }

pub has_read_more : (file : List ℕ) (from to : ℕ) (lines : List (List ℕ)) (line : List ℕ) → HasRead file from lines → IsNext file from to (Some line) → HasRead file to (lines ++ line ∷ [])
has_read_more file from to lines line read next =
    let encoded : encode (lines ++ line ∷ []) ≡ encode lines ++ (line ++ 10 ∷ []) = encode-append lines (line ∷ []) in
    record {
      front = read.front ∙ ap (λ (l : List ℕ). encode lines ++ l) (next.1 ∙ sym (append_assoc line (10 ∷ []) (drop to file))) ∙ sym (append_assoc (encode lines) (line ++ 10 ∷ []) (drop to file))
          ∙ ap (λ (l : List ℕ). l ++ drop to file) (sym encoded);
      place = omega (arith, next.2, read.place, ap length encoded, length-append (encode lines) (line ++ 10 ∷ []), length-append line (10 ∷ []));
      are = AreLines-append lines (line ∷ []) read.are (next.0, tt);
    }

-- so far these are the first lines of the file
pub has_read_first : (file : List ℕ) (place : ℕ) (lines : List (List ℕ)) → HasRead file place lines → recovered file ≡ lines ++ recovered (drop place file)
has_read_first file place lines read = ap recovered read.front ∙ lines_encode lines (drop place file) read.are

-- and at the end they are all
pub has_read_all : (file : List ℕ) (place : ℕ) (lines : List (List ℕ)) → HasRead file place lines → recovered (drop place file) ≡ [] → (recovered file ≡ lines) × HasRead file place (recovered file)
has_read_all file place lines read none =
    let all : recovered file ≡ lines = has_read_first file place lines read ∙ ap (λ (l : List (List ℕ)). lines ++ l) none ∙ append-nil lines in
    (all, subst (λ (l : List (List ℕ)). HasRead file place l) (sym all) read)

-- ---- marks

-- what a window says of the file, of which the part behind `from` is looked through
pub ahead_from_window : (lines from to at count long : ℕ) (file : List ℕ) → from ≤ at → at + count ≤ to → IsAhead lines count (take long (drop at file)) → IsAhead lines (to - from) (drop from file)
ahead_from_window lines from to at count long file begun within ahead =
    let i = at - from + ahead.at in
    let same : drop ahead.at (drop at file) ≡ drop i (drop from file) =
    drop-drop ahead.at at file ∙ ap (λ (n : ℕ). drop n file) (let e : at + ahead.at ≡ from + i = omega arith in e) ∙ sym (drop-drop i from file) in
    record { at = i; begins = omega (arith, ahead.begins); above = subst (λ (l : List ℕ). BeginsAbove lines l) same (begins_in_window lines ahead.at long (drop at file) ahead.above) }

-- no mark begins in front of this place
abbrev pub NoneBelow : ℕ → ℕ → ℕ → List ℕ → Type 0
NoneBelow lines from at file = (i : ℕ) → from + i < at → BeginsAbove lines (drop i (drop from file)) → ⊥

pub none_in_window : (lines from at count long : ℕ) (file : List ℕ) → from ≤ at → NoneBelow lines from at file → (IsAhead lines count (take long (drop at file)) → ⊥)
    → (count + 67 ≤ long) ⊎ (length (drop at file) ≤ long) → NoneBelow lines from (at + count) file
none_in_window lines from at count long file begun none window fits i below begins = ⊎_elim
    (λ before. none i before begins)
    (λ here.
    let j = from + i - at in
    let same : drop i (drop from file) ≡ drop j (drop at file) =
    drop-drop i from file ∙ ap (λ (n : ℕ). drop n file) (let e : from + i ≡ at + j = omega (arith, here) in e) ∙ sym (drop-drop j at file) in
    let inside : (j + 67 ≤ long) ⊎ (length (drop at file) ≤ long) = ⊎_elim (λ wide. inl (omega (arith, wide, below, here))) (λ all. inr all) fits in
    window (record { at = j; begins = omega (arith, below, here); above = begins_of_window lines j long (drop at file) (subst (λ (l : List ℕ). BeginsAbove lines l) same begins) inside }))
    (cases_lt (from + i) at)

pub none_at_all : (lines from to : ℕ) (file : List ℕ) → NoneBelow lines from to file → IsAhead lines (to - from) (drop from file) → ⊥
none_at_all lines from to file none ahead = none ahead.at (omega (arith, ahead.begins)) ahead.above

-- ---- the end of a line behind the lines

pub broken_short : (bytes : List ℕ) → length bytes < 2 → is_broken bytes ≡ false
broken_short [] short = refl
broken_short (b ∷ []) short = refl
broken_short (b ∷ c ∷ bs) short = absurd (omega arith)

pub broken_is : (bytes front : List ℕ) → front ≡ take 2 bytes → 2 ≤ length bytes → (get_or front 0 0 == 10) ≡ is_broken bytes
broken_is [] front is long = absurd (omega arith)
broken_is (b ∷ []) front is long = absurd (omega arith)
broken_is (b ∷ c ∷ bs) front is long = ap (λ (l : List ℕ). get_or l 0 0 == 10) is

-- a window of a file, wide enough for each mark that begins in it
pub window_fits : (count at len long : ℕ) (file : List ℕ) → len ≡ length file → long ≡ min (count + 67) (len - at) → (count + 67 ≤ long) ⊎ (length (drop at file) ≤ long)
window_fits count at len long file len_is is = ⊎_elim
    (λ wide. inl (let e : count + 67 ≤ long = omega (arith, is, wide) in e))
    (λ all. inr (let e : length (drop at file) ≤ long = omega (arith, is, all, len_is, length-drop at file) in e))
    (cases_lt (count + 67) (len - at))

pub none_at_first : (lines from : ℕ) (file : List ℕ) → NoneBelow lines from from file
none_at_first lines from file i below begins = absurd (omega arith)

-- ---- what tells of more, part by part

pub misses_not : (lines trusted used : ℕ) (file : List ℕ) → (IsAhead lines (trusted - used) (drop used file) → ⊥) → is_broken (drop used file) ≡ false → trusted ≤ length file → Misses lines trusted used file → ⊥
misses_not lines trusted used file ahead whole long misses = ⊎_elim
    (λ more. ahead more)
    (λ others. ⊎_elim (λ broken. false≢true (sym whole ∙ broken)) (λ short. let e : ⊥ = omega (arith, short, long) in e) others)
    misses
