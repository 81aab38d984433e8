-- Where `split_once` cuts a text.
use Rattle.std.proofs.Common.{◌≡◌, ◌≤◌, ◌<◌, ℕ, zero, suc, ◌-◌, Bool, true, false, cond, List, [], ◌∷◌, ◌++◌, length, take, drop, Option, Some, None, MatchOption, nat_eq, refl, sym, ap, ◌∙◌, arith, Bor}
use Rattle.std.specs.Option.{option_map}
use Rattle.std.specs.List.{starts_with}
use Rattle.std.specs.Str.Pattern.{LacksTextAt, FindsText, SplitsAroundMatch}
use Rattle.std.proofs.lemmas.List.{take-append-drop}
use lib.Pointwise.{bytes_decides}
use Rattle.lang_values.specs.Parts.{cut, after_byte, front, go_past, piece}
use Rattle.std.proofs.lemmas.Bool.{cond-false, cond-true}

-- a text that starts with another is that one and a rest
starts : (by s : List ℕ) → starts_with nat_eq s by ≡ true → s ≡ by ++ drop (length by) s
starts by s h =
    let e = (bytes_decides by (take (length by) s)).0 h in
    sym (take-append-drop (length by) s) ∙ ap (λ l. l ++ drop (length by) s) (sym e)

take_front : (by rest : List ℕ) → take (length by) (by ++ rest) ≡ by
take_front [] rest = refl
take_front (b ∷ bs) rest = ap (λ l. b ∷ l) (take_front bs rest)

drop_front : (by rest : List ℕ) → drop (length by) (by ++ rest) ≡ rest
drop_front [] rest = refl
drop_front (b ∷ bs) rest = drop_front bs rest

starts_so : (by s rest : List ℕ) → s ≡ by ++ rest → starts_with nat_eq s by ≡ true
starts_so by s rest e =
    (bytes_decides by (take (length by) s)).1 (sym (take_front by rest) ∙ ap (take (length by)) (sym e))

lacks_by : (t : Bool) (by s : List ℕ) → starts_with nat_eq s by ≡ t → LacksTextAt by s 0 → t ≡ false
lacks_by true by s e h = absurd (h (drop (length by) s) (starts by s e))
lacks_by false by s e h = refl

cut_none : (by s : List ℕ) → ((i : ℕ) → i ≤ length s → LacksTextAt by s i) → cut by s ≡ None
cut_none by [] h = cond-false _ _ _ (lacks_by _ by [] refl (h 0 (omega arith)))
cut_none by (b ∷ bs) h =
    cond-false _ _ _ (lacks_by _ by (b ∷ bs) refl (h 0 (omega arith)))
    ∙ ap (after_byte b) (cut_none by bs (λ i l. h (suc i) (omega arith)))

cut_at : (by s : List ℕ) (i : ℕ) (rest : List ℕ) → ((k : ℕ) → k < i → LacksTextAt by s k) → drop i s ≡ by ++ rest → i ≤ length s → cut by s ≡ Some (take i s, rest)
cut_at by [] zero rest h e l =
    cond-true _ _ _ (starts_so by [] rest e) ∙ ap (λ r. Some ([], r)) (ap (drop (length by)) e ∙ drop_front by rest)
cut_at by [] (suc i) rest h e l = absurd (omega arith)
cut_at by (b ∷ bs) zero rest h e l =
    cond-true _ _ _ (starts_so by (b ∷ bs) rest e)
    ∙ ap (λ r. Some ([], r)) (ap (drop (length by)) e ∙ drop_front by rest)
cut_at by (b ∷ bs) (suc i) rest h e l =
    cond-false _ _ _ (lacks_by _ by (b ∷ bs) refl (h 0 (omega arith)))
    ∙ ap (after_byte b) (cut_at by bs i rest (λ k m. h (suc k) (omega arith)) e (omega arith))

-- `split_once` cuts where the definition does
pub split_cuts : (by s : List ℕ) (r : Option (Bor (List ℕ) × Bor (List ℕ))) → MatchOption r (FindsText by s None) (λ x. SplitsAroundMatch (FindsText by) s x.0.now x.1.now) → option_map (λ p. (p.0.now, p.1.now)) r ≡ cut by s
split_cuts by s None h = sym (cut_none by s h)
split_cuts by s (Some x) h =
    let front : x.0.now ≡ take h.0 s = h.3 in
    let back : x.1.now ≡ drop h.1 s = h.4 in
    let within : h.0 ≤ length s = omega arith in
    rw (front, back) (sym (cut_at by s h.0 (drop h.1 s) h.2.0 h.2.1.split within))

pub piece_more : (n : ℕ) (by text : List ℕ) → 0 < n → piece n by text ≡ go_past (cut by text) (piece (n - 1) by)
piece_more zero by text h = absurd (omega arith)
piece_more (suc n) by text h = let e : suc n - 1 ≡ n = omega arith in rw e refl

pub piece_first : (n : ℕ) (by text : List ℕ) → n ≡ 0 → piece n by text ≡ Some (front text (cut by text))
piece_first n by text e = rw e refl
