-- What a torn write of records over zeros stands for: each of its bytes is there, or is still 0.
use Rattle.std.proofs.Common.{◌≡◌, ◌⊎◌, inl, inr, ⊎_elim, ℕ, zero, suc, ◌<◌, ◌≤◌, List, [], ◌∷◌, ◌++◌, length, take, drop, get_or, replicate, refl, sym, ◌∙◌, ap, arith, append_assoc}
use Rattle.std.proofs.lemmas.Bool.{cases_eq}
use Rattle.std.proofs.lemmas.List.{append-nil}
use Rattle.store_lines.specs.Lines.{ended, lines_from, encode, IsText, Lacks, AreLines}
use Rattle.store_lines.proofs.WholeLemmas.{lines_other}

abbrev pub Blend : List ℕ → List ℕ → Type 0
Blend [] [] = Unit {0}
Blend [] (w ∷ ws) = ⊥
Blend (m ∷ ms) [] = ⊥
Blend (m ∷ ms) (w ∷ ws) = ((m ≡ 0) ⊎ (m ≡ w)) × Blend ms ws

pub blend_from : (ms ws : List ℕ) → length ms ≡ length ws → ((i : ℕ) → i < length ws → (get_or ms i 0 ≡ 0) ⊎ (get_or ms i 0 ≡ get_or ws i 0)) → Blend ms ws
blend_from [] [] same each = tt
blend_from [] (w ∷ ws) same each = absurd (omega arith)
blend_from (m ∷ ms) [] same each = absurd (omega arith)
blend_from (m ∷ ms) (w ∷ ws) same each = (each 0 (omega arith), blend_from ms ws (omega arith) (λ i lt. each (suc i) (omega arith)))

-- a line is whole, or the text ends within it
blend_line : (line x more ms rest : List ℕ) → IsText x → Blend ms (x ++ 10 ∷ more)
    → (lines_from line (ms ++ 0 ∷ rest) ≡ []) ⊎ ((left : List ℕ) × Blend left more × (lines_from line (ms ++ 0 ∷ rest) ≡ ended (line ++ x) (lines_from [] (left ++ 0 ∷ rest))))
blend_line line [] more [] rest text blend = absurd blend
blend_line line [] more (m ∷ ms) rest text blend = ⊎_elim
    (λ lost. inl (ap (λ (k : ℕ). lines_from line (k ∷ (ms ++ 0 ∷ rest))) lost))
    (λ there. inr (ms, blend.1, ap (λ (k : ℕ). lines_from line (k ∷ (ms ++ 0 ∷ rest))) there ∙ ap (λ (l : List ℕ). ended l (lines_from [] (ms ++ 0 ∷ rest))) (sym (append-nil line))))
    blend.0
blend_line line (b ∷ bs) more [] rest text blend = absurd blend
blend_line line (b ∷ bs) more (m ∷ ms) rest text blend = ⊎_elim
    (λ lost. inl (ap (λ (k : ℕ). lines_from line (k ∷ (ms ++ 0 ∷ rest))) lost))
    (λ there.
    let step : lines_from line (m ∷ (ms ++ 0 ∷ rest)) ≡ lines_from (line ++ b ∷ []) (ms ++ 0 ∷ rest) = ap (λ (k : ℕ). lines_from line (k ∷ (ms ++ 0 ∷ rest))) there ∙ lines_other line b (ms ++ 0 ∷ rest) text.0 text.1 in
    ⊎_elim
    (λ none. inl (step ∙ none))
    (λ some. inr (some.0, some.1, step ∙ some.2 ∙ ap (λ (l : List ℕ). ended l (lines_from [] (some.0 ++ 0 ∷ rest))) (append_assoc line (b ∷ []) bs)))
    (blend_line (line ++ b ∷ []) bs more ms rest text.2 blend.1))
    blend.0

-- the first few of the records are there
pub blend_lines : (ys : List (List ℕ)) (ms rest : List ℕ) → AreLines ys → Blend ms (encode ys) → (k : ℕ) × (k ≤ length ys) × (lines_from [] (ms ++ 0 ∷ rest) ≡ take k ys)
blend_lines [] [] rest are blend = (0, omega arith, refl)
blend_lines [] (m ∷ ms) rest are blend = absurd blend
blend_lines ([] ∷ ys) ms rest are blend = absurd are.0
blend_lines ((b ∷ bs) ∷ ys) ms rest are blend = ⊎_elim
    (λ none. (0, omega arith, none))
    (λ some.
    let more = blend_lines ys some.0 rest are.1 some.1 in
    (suc more.0, omega arith, some.2 ∙ ap (λ (l : List (List ℕ)). (b ∷ bs) ∷ l) more.2))
    (blend_line [] (b ∷ bs) (encode ys) ms rest are.0 blend)

-- where no line was whole, none is once some bytes are zeros
pub blend_none : (line ms ws : List ℕ) → Blend ms ws → lines_from line ws ≡ [] → lines_from line ms ≡ []
blend_none line [] [] blend none = refl
blend_none line [] (w ∷ ws) blend none = absurd blend
blend_none line (m ∷ ms) [] blend none = absurd blend
blend_none line (m ∷ ms) (w ∷ ws) blend none = ⊎_elim
    (λ lost. ap (λ (k : ℕ). lines_from line (k ∷ ms)) lost)
    (λ there. ap (λ (k : ℕ). lines_from line (k ∷ ms)) there ∙ ⊎_elim
    (λ is. ap (λ (k : ℕ). lines_from line (k ∷ ms)) is)
    (λ text. ⊎_elim
    (λ is. ap (λ (k : ℕ). lines_from line (k ∷ ms)) is ∙ no_line line (lines_from [] ms) (lines_from [] ws) (sym (ap (λ (k : ℕ). lines_from line (k ∷ ws)) is) ∙ none))
    (λ inner. lines_other line w ms text inner ∙ blend_none (line ++ w ∷ []) ms ws blend.1 (sym (lines_other line w ws text inner) ∙ none))
    (cases_eq w 10))
    (cases_eq w 0))
    blend.0
  where
    no_line : (line : List ℕ) (here there : List (List ℕ)) → ended line there ≡ [] → ended line here ≡ []
    no_line [] here there is = refl
    no_line (b ∷ bs) here there is = cc

pub blend_length : (ms ws : List ℕ) → Blend ms ws → length ms ≡ length ws
blend_length [] [] blend = refl
blend_length [] (w ∷ ws) blend = absurd blend
blend_length (m ∷ ms) [] blend = absurd blend
blend_length (m ∷ ms) (w ∷ ws) blend = let more = blend_length ms ws blend.1 in omega (arith, more)

-- a byte of a blend that has zeros behind it is 0, or what was written there
pub blend_byte : (ms ws : List ℕ) (room i : ℕ) → Blend ms ws → (get_or (ms ++ replicate room 0) i 0 ≡ 0) ⊎ (get_or (ms ++ replicate room 0) i 0 ≡ get_or ws i 0)
blend_byte [] ws room i blend = inl (zero_at room i)
  where
    zero_at : (room i : ℕ) → get_or (replicate {A = ℕ} room 0) i 0 ≡ 0
    zero_at zero i = refl
    zero_at (suc room) zero = refl
    zero_at (suc room) (suc i) = zero_at room i
blend_byte (m ∷ ms) [] room i blend = absurd blend
blend_byte (m ∷ ms) (w ∷ ws) room zero blend = blend.0
blend_byte (m ∷ ms) (w ∷ ws) room (suc i) blend = blend_byte ms ws room i blend.1

-- a text without a 0 stands in front of a blend only where it stands in front of what was written
blend_front : (text ms ws behind : List ℕ) (room : ℕ) → Blend ms ws → Lacks 0 text → ms ++ replicate room 0 ≡ text ++ behind → (more : List ℕ) × (ws ≡ text ++ more)
blend_front [] ms ws behind room blend lacks is = (ws, refl)
blend_front (x ∷ xs) [] ws behind zero blend lacks is = absurd (let e : ⊥ = cc in e)
blend_front (x ∷ xs) [] ws behind (suc room) blend lacks is = let e : x ≡ 0 = cc in absurd (lacks.0 e)
blend_front (x ∷ xs) (m ∷ ms) [] behind room blend lacks is = absurd blend
blend_front (x ∷ xs) (m ∷ ms) (w ∷ ws) behind room blend lacks is =
    let head : m ≡ x = cc in
    let tail : ms ++ replicate room 0 ≡ xs ++ behind = cc in
    let more = blend_front xs ms ws behind room blend.1 lacks.1 tail in
    ⊎_elim
    (λ lost. absurd (lacks.0 (sym head ∙ lost)))
    (λ there. (more.0, ap (λ (k : ℕ). k ∷ ws) (sym there ∙ head) ∙ ap (λ (l : List ℕ). x ∷ l) more.1))
    blend.0

-- and at a place of it likewise
pub blend_at : (i : ℕ) (text ms ws behind : List ℕ) (room : ℕ) → Blend ms ws → Lacks 0 text → 0 < length text → drop i (ms ++ replicate room 0) ≡ text ++ behind
    → (more : List ℕ) × (drop i ws ≡ text ++ more)
blend_at zero text ms ws behind room blend lacks some is = blend_front text ms ws behind room blend lacks is
blend_at (suc i) text (m ∷ ms) (w ∷ ws) behind room blend lacks some is = blend_at i text ms ws behind room blend.1 lacks some is
blend_at (suc i) text (m ∷ ms) [] behind room blend lacks some is = absurd blend
blend_at (suc i) text [] (w ∷ ws) behind room blend lacks some is = absurd blend
blend_at (suc i) [] [] [] behind room blend lacks some is = absurd (omega arith)
blend_at (suc i) (x ∷ xs) [] [] behind room blend lacks some is = absurd (lacks.0 (only_zeros room (suc i) x (xs ++ behind) is))
  where
    only_zeros : (room i x : ℕ) (behind : List ℕ) → drop i (replicate room 0) ≡ x ∷ behind → x ≡ 0
    only_zeros zero zero x behind is = absurd (let e : ⊥ = cc in e)
    only_zeros zero (suc i) x behind is = absurd (let e : ⊥ = cc in e)
    only_zeros (suc room) zero x behind is = cc
    only_zeros (suc room) (suc i) x behind is = only_zeros room i x behind is
