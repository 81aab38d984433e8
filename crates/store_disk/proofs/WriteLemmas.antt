-- What the calls of a disk make of a file at rest.
use Rattle.std.proofs.Common.{◌≡◌, inl, inr, ⊎_elim, ℕ, suc, ◌+◌, ◌-◌, ◌<◌, ◌≤◌, List, [], ◌∷◌, ◌++◌, length, get_or, take, drop, replicate, refl, sym, ◌∙◌, ap, arith, length-append, length-drop, take-append-drop}
use Rattle.std.proofs.lemmas.List.{append-nil, drop-drop, ext_get_or, get_or-take, get_or-drop, get_or_append_left, get_or-append-add, get_or-replicate, length-take, length-replicate}
use Rattle.std.proofs.lemmas.Bool.Decides.{nat_tests}
use Rattle.sqlite_disk.specs.Disk.{Holds, Torn, Mixed}
use Rattle.store_lines.specs.Lines.{recovered, encode, AreLines}
use Rattle.store_lines.proofs.WholeLemmas.{lines_encode, recovered_end}
use Rattle.store_lines.proofs.BlendLemmas.{Blend, blend_from, blend_lines, blend_none}
use Rattle.store_lines.proofs.ReadAsLemmas.{TornBatch}

three_parts : (c : List ℕ) (at n : ℕ) → c ≡ take at c ++ (take n (drop at c) ++ drop (at + n) c)
three_parts c at n =
    sym (take-append-drop at c) ∙ ap (λ (l : List ℕ). take at c ++ l) (sym (take-append-drop n (drop at c)) ∙ ap (λ (l : List ℕ). take n (drop at c) ++ l) (drop-drop n at c))

-- what lies before a write stays
front : (pre rest old c : List ℕ) (n : ℕ) → old ≡ pre ++ rest → Torn (length pre) n old c → take (length pre) c ≡ pre
front pre rest old c n is torn =
    let long : length pre + length rest ≡ length old = omega (arith, ap length is, length-append pre rest) in
    ext_get_or 0 (take (length pre) c) pre (omega (arith, length-take (length pre) c, torn.no_shorter))
    (λ i lt.
    let below : i < length pre = omega (arith, length-take (length pre) c) in
    get_or-take (length pre) c i 0 below ∙ torn.below i (omega arith) below ∙ ap (λ (l : List ℕ). get_or l i 0) is ∙ get_or_append_left pre rest 0 i below)

-- a write that was made
pub written : (pre mid post bytes old new : List ℕ) → old ≡ pre ++ (mid ++ post) → length mid ≡ length bytes → Torn (length pre) (length bytes) old new → Holds new (length pre) bytes → new ≡ pre ++ (bytes ++ post)
written pre mid post bytes old new is same torn holds =
    let n = length bytes in
    let long : length pre + (length mid + length post) ≡ length old = omega (arith, ap length is, length-append pre (mid ++ post), length-append mid post) in
    let size : length new ≡ length old = omega (arith, torn.no_shorter, torn.no_longer) in
    let middle : take n (drop (length pre) new) ≡ bytes = ext_get_or 0 (take n (drop (length pre) new)) bytes (omega (arith, length-take n (drop (length pre) new), length-drop (length pre) new))
    (λ i lt.
    let below : i < n = omega (arith, length-take n (drop (length pre) new)) in
    get_or-take n (drop (length pre) new) i 0 below ∙ get_or-drop (length pre) new i 0 ∙ holds.each i below) in
    let behind : drop (length pre + n) new ≡ post = ext_get_or 0 (drop (length pre + n) new) post (omega (arith, length-drop (length pre + n) new))
    (λ i lt.
    let below : i < length post = omega (arith, length-drop (length pre + n) new) in
    get_or-drop (length pre + n) new i 0
    ∙ torn.above (length pre + n + i) (omega arith) (omega arith)
    ∙ ap (λ (l : List ℕ). get_or l (length pre + n + i) 0) is
    ∙ ap (λ (k : ℕ). get_or (pre ++ (mid ++ post)) k 0) (let e : length pre + n + i ≡ length pre + (length mid + i) = omega arith in e)
    ∙ get_or-append-add pre (mid ++ post) (length mid + i) 0
    ∙ get_or-append-add mid post i 0) in
    three_parts new (length pre) n ∙ ap (λ (l : List ℕ). l ++ (take n (drop (length pre) new) ++ drop (length pre + n) new)) (front pre (mid ++ post) old new n is torn)
    ∙ ap (λ (l : List ℕ). pre ++ (l ++ drop (length pre + n) new)) middle
    ∙ ap (λ (l : List ℕ). pre ++ (bytes ++ l)) behind

-- a write at the end that was made
pub extended : (old bytes new : List ℕ) → Torn (length old) (length bytes) old new → Holds new (length old) bytes → new ≡ old ++ bytes
extended old bytes new torn holds =
    let n = length bytes in
    let size : length new ≡ length old + n = omega (arith, torn.no_longer, holds.within) in
    let behind : drop (length old) new ≡ bytes = ext_get_or 0 (drop (length old) new) bytes (omega (arith, length-drop (length old) new))
    (λ i lt. let below : i < n = omega (arith, length-drop (length old) new) in get_or-drop (length old) new i 0 ∙ holds.each i below) in
    sym (take-append-drop (length old) new) ∙ ap (λ (l : List ℕ). l ++ drop (length old) new) (front old [] old new n (sym (append-nil old)) torn) ∙ ap (λ (l : List ℕ). old ++ l) behind

-- a write past the end, however torn
pub torn_end : (old c : List ℕ) (n : ℕ) → Torn (length old) n old c → c ≡ old ++ drop (length old) c
torn_end old c n torn =
    sym (take-append-drop (length old) c) ∙ ap (λ (l : List ℕ). l ++ drop (length old) c) (front old [] old c n (sym (append-nil old)) torn)

-- records and a zero, whatever stands behind it
pub recovered_gate : (xs : List (List ℕ)) (rest : List ℕ) → AreLines xs → recovered (encode xs ++ 0 ∷ rest) ≡ xs
recovered_gate xs rest are = recovered_end xs (0 ∷ rest) are refl

-- lines that were written over zeros, one more than they take, each byte of them there or not
pub torn_batch : (xs ys : List (List ℕ)) (room : ℕ) (old c : List ℕ) → AreLines xs → AreLines ys → old ≡ encode xs ++ replicate room 0 → length (encode ys) < room
    → Mixed (length (encode xs)) (encode ys) old c → (k : ℕ) × (k ≤ length ys) × TornBatch xs ys k c
torn_batch xs ys room old c are lines is fits mixed =
    let at = length (encode xs) in
    let n = length (encode ys) in
    let long : length old ≡ at + room = omega (arith, ap length is, length-append (encode xs) (replicate room 0), length-replicate {A = ℕ} room 0) in
    let size : length c ≡ length old = omega (arith, mixed.torn.no_shorter, mixed.torn.no_longer) in
    let was : (i : ℕ) → i < room → get_or old (at + i) 0 ≡ 0 = λ i lt. ap (λ (l : List ℕ). get_or l (at + i) 0) is ∙ get_or-append-add (encode xs) (replicate room 0) i 0 ∙ get_or-replicate room i 0 0 lt in
    let ms = take n (drop at c) in
    let blend : Blend ms (encode ys) = blend_from ms (encode ys) (omega (arith, length-take n (drop at c), length-drop at c))
    (λ i lt.
    let here : get_or ms i 0 ≡ get_or c (at + i) 0 = get_or-take n (drop at c) i 0 lt ∙ get_or-drop at c i 0 in
    ⊎_elim (λ old_byte. inl (here ∙ old_byte ∙ was i (omega arith))) (λ new_byte. inr (here ∙ new_byte)) (mixed.each i lt (omega arith))) in
    let behind : drop (at + n) c ≡ replicate (room - n) 0 = ext_get_or 0 (drop (at + n) c) (replicate (room - n) 0) (omega (arith, length-drop (at + n) c, length-replicate {A = ℕ} (room - n) 0))
    (λ i lt.
    let below : i < room - n = omega (arith, length-drop (at + n) c) in
    get_or-drop (at + n) c i 0
    ∙ mixed.torn.above (at + n + i) (omega arith) (omega arith)
    ∙ ap (λ (k : ℕ). get_or old k 0) (let e : at + n + i ≡ at + (n + i) = omega arith in e)
    ∙ was (n + i) (omega arith)
    ∙ sym (get_or-replicate (room - n) i 0 0 below)) in
    let whole : c ≡ encode xs ++ (ms ++ replicate (room - n) 0) =
    three_parts c at n ∙ ap (λ (l : List ℕ). l ++ (ms ++ drop (at + n) c)) (front (encode xs) (replicate room 0) old c n is mixed.torn) ∙ ap (λ (l : List ℕ). encode xs ++ (ms ++ l)) behind in
    let gate : replicate {A = ℕ} (room - n) 0 ≡ 0 ∷ replicate (room - n - 1) 0 = ap (λ (k : ℕ). replicate {A = ℕ} k 0) (let e : room - n ≡ suc (room - n - 1) = omega arith in e) in
    let found = blend_lines ys ms (replicate (room - n - 1) 0) lines blend in (
      found.0,
      found.1,
      record {
        blended = ms;
        room = room - n;
        blend = blend;
        is = whole;
        found = ap recovered (whole ∙ ap (λ (l : List ℕ). encode xs ++ (ms ++ l)) gate) ∙ lines_encode xs (ms ++ 0 ∷ replicate (room - n - 1) 0) are ∙ ap (λ (l : List (List ℕ)). xs ++ l) found.2;
      },
    )

-- lines behind which some bytes of a tail were made zeros
pub record Cleared (xs : List (List ℕ)) (tail c : List ℕ) : Type 0 where
  pub blended : List ℕ
  pub blend : Blend blended tail
  pub is : c ≡ encode xs ++ blended
  pub found : recovered c ≡ xs

-- a tail with no whole line, of which some bytes were made zeros
pub torn_tail : (xs : List (List ℕ)) (tail old c : List ℕ) → AreLines xs → recovered tail ≡ [] → old ≡ encode xs ++ tail
    → Mixed (length (encode xs)) (replicate (length tail) 0) old c → Cleared xs tail c
torn_tail xs tail old c are none is mixed =
    let at = length (encode xs) in
    let n = length tail in
    let zeros : length (replicate {A = ℕ} (length tail) 0) ≡ length tail = length-replicate {A = ℕ} (length tail) 0 in
    let long : length old ≡ at + n = omega (arith, ap length is, length-append (encode xs) tail) in
    let size : length c ≡ length old = omega (arith, zeros, mixed.torn.no_shorter, mixed.torn.no_longer) in
    let blend : Blend (drop at c) tail = blend_from (drop at c) tail (omega (arith, length-drop at c))
    (λ i lt.
    let here : get_or (drop at c) i 0 ≡ get_or c (at + i) 0 = get_or-drop at c i 0 in
    ⊎_elim
    (λ old_byte. inr (here ∙ old_byte ∙ ap (λ (l : List ℕ). get_or l (at + i) 0) is ∙ get_or-append-add (encode xs) tail i 0))
    (λ new_byte. inl (here ∙ new_byte ∙ get_or-replicate n i 0 0 lt))
    (mixed.each i (omega (arith, zeros)) (omega (arith, long)))) in
    let whole : c ≡ encode xs ++ drop at c = sym (take-append-drop at c) ∙ ap (λ (l : List ℕ). l ++ drop at c) (front (encode xs) tail old c (length (replicate n 0)) is mixed.torn) in
    record { blended = drop at c; blend = blend; is = whole; found = ap recovered whole ∙ recovered_end xs (drop at c) are (blend_none [] (drop at c) tail blend none) }

one_byte : (b : ℕ) → recovered (b ∷ []) ≡ []
one_byte b = grind (arith, nat_tests)

-- lines behind which one byte was written, whichever it is now
pub record ByteBehind (xs : List (List ℕ)) (c : List ℕ) : Type 0 where
  pub byte : List ℕ
  pub one : length byte ≤ 1
  pub is : c ≡ encode xs ++ byte
  pub found : recovered c ≡ xs

pub torn_byte : (xs : List (List ℕ)) (c : List ℕ) → AreLines xs → Torn (length (encode xs)) 1 (encode xs) c → ByteBehind xs c
torn_byte xs c are torn =
    let at = length (encode xs) in
    let whole = torn_end (encode xs) c 1 torn in
    let one : length (drop at c) ≤ 1 = omega (arith, length-drop at c, torn.no_longer) in
    record { byte = drop at c; one = one; is = whole; found = ap recovered whole ∙ recovered_end xs (drop at c) are (short (drop at c) one) }
  where
    short : (l : List ℕ) → length l ≤ 1 → recovered l ≡ []
    short [] le = refl
    short (b ∷ []) le = one_byte b
    short (b ∷ b' ∷ bs) le = absurd (omega arith)
