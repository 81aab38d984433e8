-- Blank space, comments and runs of bytes.
use Rattle.std.proofs.Common.{◌≡◌, ℕ, suc, ◌+◌, ◌<◌, Bool, true, false, not, cond, List, [], ◌∷◌, length, get_or, take, drop, refl, arith, add-one}
use Rattle.std.specs.Prelude.{nat_eq}
use Rattle.std.specs.List.{prefix_len, list_all}
use Rattle.std.proofs.Math.Seq.{drop-cons}
use Rattle.lang_tokens.specs.Lexing.{is_blank, past_gap}

pub gap_in_comment : (bs : List ℕ) (i : ℕ) → i < length bs → past_gap true (drop i bs) ≡ past_gap (not (nat_eq (get_or bs i 0) 10)) (drop (i + 1) bs)
unfolding past_gap
gap_in_comment bs i lt = rw (add-one, drop-cons bs i 0) refl

pub gap_outside : (bs : List ℕ) (i : ℕ) → i < length bs → past_gap false (drop i bs) ≡ cond (nat_eq (get_or bs i 0) 35) (past_gap true (drop (i + 1) bs)) (cond (is_blank (get_or bs i 0)) (past_gap false (drop (i + 1) bs)) (drop i bs))
unfolding past_gap
gap_outside bs i lt = rw (add-one, drop-cons bs i 0) refl

first_in_run : (p : ℕ → Bool) (b : ℕ) (bs : List ℕ) (t : Bool) → p b ≡ t → (list_all p (take (prefix_len p bs) bs) ≡ true) → list_all p (take (prefix_len p (b ∷ bs)) (b ∷ bs)) ≡ true
first_in_run p b bs true e h = rw e (let one : 1 + prefix_len p bs ≡ suc (prefix_len p bs) = omega arith in rw one (rw (e, h) refl))
first_in_run p b bs false e h = rw e refl

-- all of a run pass its test
pub all_in_run : (p : ℕ → Bool) (bs : List ℕ) → list_all p (take (prefix_len p bs) bs) ≡ true
all_in_run p [] = refl
all_in_run p (b ∷ bs) = first_in_run p b bs (p b) refl (all_in_run p bs)
