-- Lines that aren't empty end no head; an empty one behind them does.
use Rattle.std.proofs.Common.{◌≡◌, ℕ, ◌+◌, ◌-◌, ◌<◌, ◌≤◌, ◌⊎◌, inl, inr, Bool, true, false, List, [], ◌∷◌, ◌++◌, length, take, drop, reverse, nat_eq, IsTrue, refl, sym, subst, ap, ◌∙◌, arith, append_assoc, length-append}
use Rattle.std.specs.List.{list_all, list_any, ends_with}
use Rattle.std.specs.Cmp.Lexicographic.{pointwise}
use Rattle.std.proofs.Math.Seq.{drop-append-add, take-nil}
use Rattle.std.proofs.lemmas.Bool.{cases_lt}
use Rattle.std.proofs.lemmas.Bool.Decides.{nat_tests}
use Rattle.std.proofs.lemmas.List.{take_all, take-append-le, take-append-drop, reverse-append}
use Rattle.std.proofs.lemmas.Slice.Eq.{bytes_eq-Decides}
use Rattle.http_front.specs.Ends.{ends_head, ends_with_blank_line, is_of_line, IsWholeHead}
use Rattle.std.proofs.lemmas.Bool.{and_parts}

-- ---- what stands last

last_is : (xs ys : List ℕ) (b c : ℕ) → xs ++ b ∷ [] ≡ ys ++ c ∷ [] → b ≡ c
last_is xs ys b c same =
    let turned : b ∷ reverse xs ≡ c ∷ reverse ys = sym (reverse-append xs (b ∷ [])) ∙ ap reverse same ∙ reverse-append ys (c ∷ []) in cc

-- what ends with a needle has it behind a front
split_at_end : (xs needle : List ℕ) → ends_with nat_eq xs needle ≡ true → (front : List ℕ) × (xs ≡ front ++ needle)
split_at_end xs needle ends =
    let at = length xs - length needle in
    (take at xs, sym (take-append-drop at xs) ∙ ap (λ (rest : List ℕ). take at xs ++ rest) (sym ((bytes_eq-Decides needle (drop at xs)).0 ends)))

-- another byte than a needle's last stands last
not_last : (xs needle : List ℕ) (b c : ℕ) → (b ≡ c → ⊥) → ends_with nat_eq (xs ++ b ∷ []) (needle ++ c ∷ []) ≡ false
not_last xs needle b c other = by (ends_with nat_eq (xs ++ b ∷ []) (needle ++ c ∷ [])) refl
  where
    by : (test : Bool) → ends_with nat_eq (xs ++ b ∷ []) (needle ++ c ∷ []) ≡ test → test ≡ false
    by true ends =
        let split = split_at_end (xs ++ b ∷ []) (needle ++ c ∷ []) ends in
        absurd (other (last_is xs (split.0 ++ needle) b c (split.1 ∙ sym (append_assoc split.0 needle (c ∷ [])))))
    by false ends = refl

-- what stands behind a text decides what it ends with
ends_as : (text last needle : List ℕ) (k : ℕ) → length last ≡ k + length needle → ends_with nat_eq (text ++ last) needle ≡ pointwise nat_eq needle (drop k last)
ends_as text last needle k long =
    let at : length (text ++ last) - length needle ≡ length text + k = omega (arith, long, length-append text last) in
    ap (λ (n : ℕ). pointwise nat_eq needle (drop n (text ++ last))) at ∙ ap (λ (rest : List ℕ). pointwise nat_eq needle rest) (drop-append-add text last k)

-- ---- fronts that end no head

-- no front of these bytes, and they neither
abbrev pub Unended : List ℕ → Type 0
Unended bytes = (n : ℕ) → n ≤ length bytes → ends_head (take n bytes) ≡ false

pub nothing_ended : Unended []
unfolding ends_head
nothing_ended = λ n within. rw (take-nil {A = ℕ} n) refl

pub one_more : (bytes : List ℕ) (b : ℕ) → Unended bytes → ends_head (bytes ++ b ∷ []) ≡ false → Unended (bytes ++ b ∷ [])
one_more bytes b unended quiet = λ n within. by n within (cases_lt n (length bytes + 1))
  where
    by : (n : ℕ) → n ≤ length (bytes ++ b ∷ []) → (n < length bytes + 1) ⊎ (length bytes + 1 ≤ n) → ends_head (take n (bytes ++ b ∷ [])) ≡ false
    by n within (inl few) =
        let inside : n ≤ length bytes = omega (arith, few) in
        rw (take-append-le n bytes (b ∷ []) inside) (unended n inside)
    by n within (inr all) =
        let whole : length (bytes ++ b ∷ []) ≤ n = omega (arith, all, length-append bytes (b ∷ [])) in
        rw (take_all n (bytes ++ b ∷ []) whole) quiet

-- LF alone ends a head
goes_on : (bytes : List ℕ) (b : ℕ) → (b ≡ 10 → ⊥) → ends_head (bytes ++ b ∷ []) ≡ false
unfolding ends_head
goes_on bytes b other = rw (not_last bytes (10 ∷ []) b 10 other, not_last bytes (10 ∷ 13 ∷ []) b 10 other) refl

-- and the one of a line that isn't empty doesn't
line_ends : (bytes : List ℕ) (b : ℕ) → nat_eq 10 b ≡ false → ends_head (bytes ++ b ∷ 13 ∷ 10 ∷ []) ≡ false
unfolding ends_head
line_ends bytes b other =
    let short : ends_with nat_eq (bytes ++ b ∷ 13 ∷ 10 ∷ []) (10 ∷ 10 ∷ []) ≡ false = ends_as bytes (b ∷ 13 ∷ 10 ∷ []) (10 ∷ 10 ∷ []) 1 refl in
    let long : ends_with nat_eq (bytes ++ b ∷ 13 ∷ 10 ∷ []) (10 ∷ 13 ∷ 10 ∷ []) ≡ false =
    ends_as bytes (b ∷ 13 ∷ 10 ∷ []) (10 ∷ 13 ∷ 10 ∷ []) 0 refl ∙ rw other refl in
    rw (short, long) refl

no_end : (b : ℕ) → is_of_line b ≡ true → b ≡ 10 → ⊥
no_end b is same = let never : is_of_line 10 ≡ true = rw same at is in cc

no_feed : (b : ℕ) → is_of_line b ≡ true → nat_eq 10 b ≡ false
no_feed b is = grind (arith, nat_tests)

-- ---- lines

-- a line's last byte, CR and LF
ends_line : (bytes : List ℕ) (b : ℕ) → Unended bytes → is_of_line b ≡ true → Unended (bytes ++ b ∷ 13 ∷ 10 ∷ [])
ends_line bytes b unended is =
    let first = one_more bytes b unended (goes_on bytes b (no_end b is)) in
    let second = one_more (bytes ++ b ∷ []) 13 first (goes_on (bytes ++ b ∷ []) 13 (λ same. absurd (cc same))) in
    let whole : ((bytes ++ b ∷ []) ++ 13 ∷ []) ++ 10 ∷ [] ≡ bytes ++ b ∷ 13 ∷ 10 ∷ [] =
    append_assoc (bytes ++ b ∷ []) (13 ∷ []) (10 ∷ []) ∙ append_assoc bytes (b ∷ []) (13 ∷ 10 ∷ []) in
    subst Unended whole (one_more ((bytes ++ b ∷ []) ++ 13 ∷ []) 10 second (ap ends_head whole ∙ line_ends bytes b (no_feed b is)))

-- a whole line
pub line_more : (bytes : List ℕ) (b : ℕ) (line : List ℕ) → Unended bytes → is_of_line b ≡ true → list_all is_of_line line ≡ true
    → Unended (bytes ++ ((b ∷ line) ++ 13 ∷ 10 ∷ []))
line_more bytes b [] unended is all = ends_line bytes b unended is
line_more bytes b (c ∷ line) unended is all =
    let both = and_parts (is_of_line c) (list_all is_of_line line) all in
    let first = one_more bytes b unended (goes_on bytes b (no_end b is)) in
    subst Unended (append_assoc bytes (b ∷ []) ((c ∷ line) ++ 13 ∷ 10 ∷ [])) (line_more (bytes ++ b ∷ []) c line first both.0 both.1)

-- ---- heads

-- some lines, none of them empty
pub record AreLines (bytes : List ℕ) : Type 0 where
  pub unended : Unended bytes
  pub front : List ℕ
  pub ended : bytes ≡ front ++ 13 ∷ 10 ∷ []

pub first_line : (b : ℕ) (line : List ℕ) → is_of_line b ≡ true → list_all is_of_line line ≡ true → AreLines ((b ∷ line) ++ 13 ∷ 10 ∷ [])
first_line b line is all = record { unended = line_more [] b line nothing_ended is all; front = b ∷ line; ended = refl }

pub next_line : (bytes : List ℕ) (b : ℕ) (line : List ℕ) → AreLines bytes → is_of_line b ≡ true → list_all is_of_line line ≡ true
    → AreLines (bytes ++ ((b ∷ line) ++ 13 ∷ 10 ∷ []))
next_line bytes b line lines is all = record {
  unended = line_more bytes b line lines.unended is all;
  front = bytes ++ (b ∷ line);
  ended = sym (append_assoc bytes (b ∷ line) (13 ∷ 10 ∷ []));
}

blank_ends : (front : List ℕ) → ends_with_blank_line (front ++ 13 ∷ 10 ∷ 13 ∷ 10 ∷ []) ≡ true
blank_ends front =
    let short : ends_with nat_eq (front ++ 13 ∷ 10 ∷ 13 ∷ 10 ∷ []) (10 ∷ 10 ∷ []) ≡ false = ends_as front (13 ∷ 10 ∷ 13 ∷ 10 ∷ []) (10 ∷ 10 ∷ []) 2 refl in
    let long : ends_with nat_eq (front ++ 13 ∷ 10 ∷ 13 ∷ 10 ∷ []) (10 ∷ 13 ∷ 10 ∷ []) ≡ true = ends_as front (13 ∷ 10 ∷ 13 ∷ 10 ∷ []) (10 ∷ 13 ∷ 10 ∷ []) 1 refl in
    rw (short, long) refl

ends_whole : (bytes : List ℕ) → ends_with_blank_line bytes ≡ true → list_any is_of_line bytes ≡ true → IsTrue (ends_head bytes)
unfolding ends_head
ends_whole bytes blank some = rw (blank, some) refl

-- with an empty line they are a whole head
pub whole_head : (bytes : List ℕ) → AreLines bytes → list_any is_of_line (bytes ++ 13 ∷ 10 ∷ []) ≡ true → IsWholeHead (bytes ++ 13 ∷ 10 ∷ [])
whole_head bytes lines some =
    let apart : bytes ++ 13 ∷ 10 ∷ [] ≡ lines.front ++ 13 ∷ 10 ∷ 13 ∷ 10 ∷ [] =
    ap (λ (text : List ℕ). text ++ 13 ∷ 10 ∷ []) lines.ended ∙ append_assoc lines.front (13 ∷ 10 ∷ []) (13 ∷ 10 ∷ []) in
    let almost : Unended (bytes ++ 13 ∷ []) = one_more bytes 13 lines.unended (goes_on bytes 13 (λ same. absurd (cc same))) in
    let whole : (bytes ++ 13 ∷ []) ++ 10 ∷ [] ≡ bytes ++ 13 ∷ 10 ∷ [] = append_assoc bytes (13 ∷ []) (10 ∷ []) in (
      ends_whole (bytes ++ 13 ∷ 10 ∷ []) (ap ends_with_blank_line apart ∙ blank_ends lines.front) some,
      λ n few.
          let inside : n ≤ length (bytes ++ 13 ∷ []) = omega (arith, few, length-append bytes (13 ∷ []), length-append bytes (13 ∷ 10 ∷ [])) in
          ap (λ (text : List ℕ). ends_head (take n text)) (sym whole) ∙ ap ends_head (take-append-le n (bytes ++ 13 ∷ []) (10 ∷ []) inside) ∙ almost n inside,
    )
