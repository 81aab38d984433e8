-- The texts of sealed lines.
use Rattle.std.proofs.Common.{◌≡◌, ℕ, zero, suc, ◌+◌, ◌-◌, ◌≤◌, List, [], ◌∷◌, ◌++◌, length, map, take, drop, Bool, true, false, if◌then◌else◌, refl, sym, ◌∙◌, ap, arith, append_assoc, length-append}
use Rattle.std.specs.Prelude.{codes, decimal}
use Rattle.std.proofs.lemmas.Bool.Decides.{nat_tests}
use Rattle.std.proofs.lemmas.List.{take_at, drop_at}
use Rattle.sqlite_disk.specs.Digest.{digest}
use Rattle.store_lines.specs.Lines.{IsBetween}
use Rattle.store_lines.specs.Seals.{letters, numbered, sealed, marked, safe_words, spelled_from, last_byte, has_text, stripped, texts_from}
use Rattle.store_lines.specs.declared.piece.Piece.TheVariants.{Text, Safe}

-- the last byte is that of what stands last
pub last_behind : (xs : List ℕ) (b : ℕ) (bs : List ℕ) → last_byte (xs ++ b ∷ bs) ≡ last_byte (b ∷ bs)
last_behind [] b bs = refl
last_behind (x ∷ []) b bs = refl
last_behind (x ∷ y ∷ xs) b bs = last_behind (y ∷ xs) b bs

last_of_numbered : (first at : ℕ) (text : List ℕ) → last_byte (numbered first at text) ≡ last_byte (letters first (digest at text))
last_of_numbered first at text =
    ap last_byte (sym (append_assoc (decimal at) (codes " ") (text ++ (codes " " ++ letters first (digest at text))))
    ∙ sym (append_assoc (decimal at ++ codes " ") text (codes " " ++ letters first (digest at text)))
    ∙ sym (append_assoc ((decimal at ++ codes " ") ++ text) (codes " ") (letters first (digest at text))))
    ∙ last_behind (((decimal at ++ codes " ") ++ text) ++ codes " ") _ _

pub text_ends_small : (at : ℕ) (text : List ℕ) → has_text (sealed at text) ≡ true
text_ends_small at text = let last = last_of_numbered 97 at text in grind (arith, nat_tests, last)

pub mark_ends_great : (at : ℕ) (word : List ℕ) → has_text (marked at word) ≡ false
mark_ends_great at word = let last = last_of_numbered 65 at word in grind (arith, nat_tests, last)

-- what a line seals is read back
pub stripped_sealed : (at : ℕ) (text : List ℕ) → stripped at (sealed at text) ≡ text
stripped_sealed at text =
    let front = decimal at ++ codes " " in
    let end = codes " " ++ letters 97 (digest at text) in
    let whole : sealed at text ≡ front ++ (text ++ end) = sym (append_assoc (decimal at) (codes " ") (text ++ end)) in
    let long : length front ≡ length (decimal at) + 1 = length-append (decimal at) (codes " ") in
    let behind : drop (length (decimal at) + 1) (sealed at text) ≡ text ++ end = ap (λ (l : List ℕ). drop (length (decimal at) + 1) l) whole ∙ drop_at front (text ++ end) (length (decimal at) + 1) long in
    let size : length (sealed at text) - 17 - (length (decimal at) + 1) ≡ length text = omega (arith, ap length whole, length-append front (text ++ end), length-append text end, long) in
    ap (λ (n : ℕ). take n (drop (length (decimal at) + 1) (sealed at text))) size ∙ ap (λ (l : List ℕ). take (length text) l) behind ∙ take_at text end (length text) refl

-- the texts of lines, and then those of others
pub texts_append : (at : ℕ) (xs ys : List (List ℕ)) → texts_from at (xs ++ ys) ≡ texts_from at xs ++ texts_from (at + length xs) ys
texts_append at [] ys = ap (λ (n : ℕ). texts_from n ys) (let e : at ≡ at + 0 = omega arith in e)
texts_append at (x ∷ xs) ys =
    texts_more (has_text x) (stripped at x) (texts_from (at + 1) (xs ++ ys)) (texts_from (at + 1) xs) (texts_from (at + suc (length xs)) ys)
    (texts_append (at + 1) xs ys ∙ ap (λ (n : ℕ). texts_from (at + 1) xs ++ texts_from n ys) (let e : at + 1 + length xs ≡ at + suc (length xs) = omega arith in e))
  where
    texts_more : (b : Bool) (t : List ℕ) (all front behind : List (List ℕ)) → all ≡ front ++ behind → (if b then t ∷ all else all) ≡ (if b then t ∷ front else front) ++ behind
    texts_more true t all front behind is = ap (λ (l : List (List ℕ)). t ∷ l) is
    texts_more false t all front behind is = is

-- the first few of sealed texts
pub texts_sealed : (at k : ℕ) (ts : List (List ℕ)) → texts_from at (take k (spelled_from at (map Text ts))) ≡ take k ts
texts_sealed at zero ts = refl
texts_sealed at (suc k) [] = refl
texts_sealed at (suc k) (t ∷ ts) = rw (text_ends_small at t, stripped_sealed at t, texts_sealed (at + 1) k ts) refl

-- what is written behind so many lines are these texts, and so are the first few of it
pub texts_written : (at len : ℕ) (ts : List (List ℕ)) → texts_from at (spelled_from at (Safe len ∷ map Text ts)) ≡ ts
texts_written at len ts = rw (mark_ends_great at (safe_words len)) (ap (λ (l : List (List ℕ)). texts_from (at + 1) l) (sym (take_whole (spelled_from (at + 1) (map Text ts)))) ∙ texts_sealed (at + 1) (length (spelled_from (at + 1) (map Text ts))) ts ∙ take_enough ts (at + 1))
  where
    take_whole : (l : List (List ℕ)) → take (length l) l ≡ l
    take_whole [] = refl
    take_whole (x ∷ l) = ap (λ (m : List (List ℕ)). x ∷ m) (take_whole l)

    take_enough : (l : List (List ℕ)) (n : ℕ) → take (length (spelled_from n (map Text l))) l ≡ l
    take_enough [] n = refl
    take_enough (x ∷ l) n = ap (λ (m : List (List ℕ)). x ∷ m) (take_enough l (n + 1))

pub texts_between : (len : ℕ) (old : List (List ℕ)) (ts : List (List ℕ)) (found : List (List ℕ)) → IsBetween old (spelled_from (length old) (Safe len ∷ map Text ts)) found
    → IsBetween (texts_from 0 old) ts (texts_from 0 found)
texts_between len old ts found (zero, le, is) = (0, omega arith, ap (λ (l : List (List ℕ)). texts_from 0 l) is ∙ texts_append 0 old [])
texts_between len old ts found (suc k, le, is) =
    let few = sealed_few (length old + 1) k ts in (
      few.0,
      few.1,
      ap (λ (l : List (List ℕ)). texts_from 0 l) is ∙ texts_append 0 old (take (suc k) (spelled_from (length old) (Safe len ∷ map Text ts)))
          ∙ ap (λ (n : ℕ). texts_from 0 old ++ texts_from n (take (suc k) (spelled_from (length old) (Safe len ∷ map Text ts)))) (let e : 0 + length old ≡ length old = omega arith in e)
          ∙ ap (λ (l : List (List ℕ)). texts_from 0 old ++ l) (rw (mark_ends_great (length old) (safe_words len)) few.2),
    )
  where
    sealed_few : (n k : ℕ) (ts : List (List ℕ)) → (j : ℕ) × (j ≤ length ts) × (texts_from n (take k (spelled_from n (map Text ts))) ≡ take j ts)
    sealed_few n k [] = (0, omega arith, ap (λ (l : List (List ℕ)). texts_from n l) (none k))
      where
        none : (k : ℕ) → take {A = List ℕ} k [] ≡ []
        none zero = refl
        none (suc k) = refl
    sealed_few n zero (t ∷ ts) = (0, omega arith, refl)
    sealed_few n (suc k) (t ∷ ts) = let more = sealed_few (n + 1) k ts in (suc more.0, omega arith, rw (text_ends_small n t, stripped_sealed n t) (ap (λ (l : List (List ℕ)). t ∷ l) more.2))
