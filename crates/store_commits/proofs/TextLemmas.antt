-- Texts among pieces and their lines.
use Rattle.std.proofs.Common.{◌≡◌, ◌⊎◌, inl, inr, ℕ, zero, suc, ◌+◌, ◌<◌, ◌≤◌, List, [], ◌∷◌, ◌++◌, length, get_or, map, take, length-take-le, refl, sym, ◌∙◌, ap, arith}
use Rattle.std.proofs.lemmas.List.{append-nil, length-map, take_more}
use Rattle.store_lines.specs.Lines.{IsBetween}
use Rattle.store_lines.specs.Seals.{ArePieces, AreTexts, IsMark, safe_words, spelled, spelled_from, stopped_words, text_before, texts, texts_from}
use Rattle.store_lines.specs.declared.piece.Piece.{Piece}
use Rattle.store_lines.specs.declared.piece.Piece.TheVariants.{Text, Safe, Stopped}
use Rattle.store_lines.proofs.ReadAsLemmas.{spelled_length, spelled_take}
use Rattle.store_lines.proofs.SealLemmas.{mark_ends_great, stripped_sealed, text_ends_small, texts_append}
use Rattle.store_commits.specs.Stands.{AreFirst, IsRoomMark}

-- the lines of one text more
spelled_more : (at : ℕ) (xs : List (List ℕ)) (x : List ℕ) → spelled_from at (map Text (xs ++ x ∷ [])) ≡ spelled_from at (map Text xs) ++ spelled (at + length xs) (Text x) ∷ []
spelled_more at [] x = ap (λ (n : ℕ). spelled n (Text x) ∷ []) (let e : at ≡ at + 0 = omega arith in e)
spelled_more at (y ∷ ys) x =
    ap (λ (l : List (List ℕ)). spelled at (Text y) ∷ l)
    (spelled_more (at + 1) ys x ∙ ap (λ (n : ℕ). spelled_from (at + 1) (map Text ys) ++ spelled n (Text x) ∷ []) (let e : at + 1 + length ys ≡ at + suc (length ys) = omega arith in e))

pub lines_more : (at : ℕ) (mark : Piece) (xs : List (List ℕ)) (i : ℕ) (x : List ℕ) → x ≡ get_or xs i x → i < length xs
    → spelled_from at (mark ∷ map Text (take i xs)) ++ spelled (at + 1 + i) (Text x) ∷ [] ≡ spelled_from at (mark ∷ map Text (take (i + 1) xs))
lines_more at mark xs i x is within =
    let few : length (take i xs) ≡ i = length-take-le i xs (omega arith) in
    let more : take (i + 1) xs ≡ take i xs ++ x ∷ [] = take_more xs i x within ∙ ap (λ (t : List ℕ). take i xs ++ t ∷ []) (sym is) in
    ap (λ (l : List (List ℕ)). spelled at mark ∷ l)
    (sym
    (ap (λ (ts : List (List ℕ)). spelled_from (at + 1) (map Text ts)) more ∙ spelled_more (at + 1) (take i xs) x
    ∙ ap (λ (n : ℕ). spelled_from (at + 1) (map Text (take i xs)) ++ spelled (at + 1 + n) (Text x) ∷ []) few))

-- texts are no marks, and may be written
pub are_texts : (ts : List (List ℕ)) → AreTexts (map Text ts) × ArePieces (map Text ts)
are_texts [] = (tt, tt)
are_texts (t ∷ ts) = let more = are_texts ts in (((λ is. is), more.0), (tt, more.1))

-- what lines tell are the texts of their pieces
pub texts_spelled : (at : ℕ) (ps : List Piece) → texts_from at (spelled_from at ps) ≡ texts ps
texts_spelled at [] = refl
texts_spelled at (Text t ∷ ps) = rw (text_ends_small at t, stripped_sealed at t) (ap (λ (l : List (List ℕ)). t ∷ l) (texts_spelled (at + 1) ps))
texts_spelled at (Safe len ∷ ps) = rw (mark_ends_great at (safe_words len)) (texts_spelled (at + 1) ps)
texts_spelled at (Stopped len ∷ ps) = rw (mark_ends_great at (stopped_words len)) (texts_spelled (at + 1) ps)

-- of texts that were written behind others
pub texts_behind : (at : ℕ) (old : List (List ℕ)) (ps : List Piece) → at ≡ length old → texts_from 0 (old ++ spelled_from at ps) ≡ texts_from 0 old ++ texts ps
texts_behind at old ps is =
    texts_append 0 old (spelled_from at ps)
    ∙ ap (λ (n : ℕ). texts_from 0 old ++ texts_from n (spelled_from at ps)) (let e : 0 + length old ≡ at = omega arith in e)
    ∙ ap (λ (l : List (List ℕ)). texts_from 0 old ++ l) (texts_spelled at ps)

pub texts_all : (ts : List (List ℕ)) → texts (map Text ts) ≡ ts
texts_all [] = refl
texts_all (t ∷ ts) = ap (λ (l : List (List ℕ)). t ∷ l) (texts_all ts)

texts_few : (k : ℕ) (ts : List (List ℕ)) → texts (take k (map Text ts)) ≡ take k ts
texts_few zero ts = refl
texts_few (suc k) [] = refl
texts_few (suc k) (t ∷ ts) = ap (λ (l : List (List ℕ)). t ∷ l) (texts_few k ts)

-- a mark has no text
pub mark_tells_none : (mark : Piece) (rest : List (List ℕ)) → IsMark mark → text_before mark rest ≡ rest
mark_tells_none (Text t) rest is = absurd is
mark_tells_none (Safe len) rest is = refl
mark_tells_none (Stopped len) rest is = refl

pub room_tells_none : (before now : ℕ) (marks more : List Piece) → IsRoomMark before now marks → texts (marks ++ more) ≡ texts more
room_tells_none before now marks more (inl (same, is)) = rw is refl
room_tells_none before now marks more (inr (longer, is)) = rw is refl

-- the first few pieces of a mark and texts tell the first few texts
pub first_texts : (k : ℕ) (mark : Piece) (ts : List (List ℕ)) → IsMark mark → k ≤ length (mark ∷ map Text ts) → AreFirst ts (texts (take k (mark ∷ map Text ts)))
first_texts zero mark ts is le = (0, omega arith, refl)
first_texts (suc k) mark ts is le = (k, omega (arith, length-map ts Text), mark_tells_none mark (texts (take k (map Text ts))) is ∙ texts_few k ts)

take_none : (k : ℕ) → take {A = List ℕ} k [] ≡ []
take_none zero = refl
take_none (suc k) = refl

-- the first few of no texts
pub none_of_none : (found : List (List ℕ)) → AreFirst [] found → found ≡ []
none_of_none found first = first.2 ∙ take_none first.0

pub between_no_texts : (old found : List (List ℕ)) → IsBetween old [] found → found ≡ old
between_no_texts old found few = few.2 ∙ ap (λ (l : List (List ℕ)). old ++ l) (take_none few.0) ∙ append-nil old

-- where a crash left the first few lines of a mark and texts, it left the first few texts
pub between_texts : (at : ℕ) (mark : Piece) (ts old found : List (List ℕ)) → at ≡ length old → IsMark mark → IsBetween old (spelled_from at (mark ∷ map Text ts)) found
    → IsBetween (texts_from 0 old) ts (texts_from 0 found)
between_texts at mark ts old found is mark_is (k, le, few) =
    let first = first_texts k mark ts mark_is (omega (arith, spelled_length at (mark ∷ map Text ts))) in (
      first.0,
      first.1,
      ap (λ (l : List (List ℕ)). texts_from 0 l) (few ∙ ap (λ (l : List (List ℕ)). old ++ l) (spelled_take at k (mark ∷ map Text ts)))
          ∙ texts_behind at old (take k (mark ∷ map Text ts)) is ∙ ap (λ (l : List (List ℕ)). texts_from 0 old ++ l) first.2,
    )
