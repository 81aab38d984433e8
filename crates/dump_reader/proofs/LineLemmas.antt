-- The first line of a text, and the others.
use Rattle.std.proofs.Common.{◌≡◌, ℕ, ◌+◌, ◌-◌, ◌<◌, ◌≤◌, Bool, true, false, cond, List, [], ◌∷◌, Option, Some, None, length, take, drop, ltb, ◌==◌, length-drop, refl, ap, ◌∙◌, arith}
use Rattle.std.specs.List.{position, position_or_len, slice_split}
use Rattle.std.proofs.lemmas.List.{take_all}
use Rattle.std.proofs.lemmas.List.Splits.{slice_split_first, slice_split_none}
use Rattle.std.proofs.lemmas.Bool.Decides.{nat_tests}
use Rattle.std.proofs.lemmas.Bool.{ltb-true}
use Rattle.std.proofs.lemmas.List.Sums.{fails_before_first}
use Rattle.dump_reader.specs.Reading.{ended, lines_of}

end_at : (b : Bool) (bytes : List ℕ) (end : ℕ) → ltb (position_or_len (λ b. b == 10) bytes) (length bytes) ≡ b → cond b (Some (position_or_len (λ b. b == 10) bytes)) None ≡ Some end
    → (position_or_len (λ b. b == 10) bytes < length bytes) × (position_or_len (λ b. b == 10) bytes ≡ end)
end_at true bytes end h e = (ltb-true _ _ h, cc)
end_at false bytes end h e = cc

no_end : (b : Bool) (bytes : List ℕ) (o : Option ℕ) → ltb (position_or_len (λ b. b == 10) bytes) (length bytes) ≡ b → cond b (Some (position_or_len (λ b. b == 10) bytes)) None ≡ o → o ≡ None → length bytes ≤ position_or_len (λ b. b == 10) bytes
no_end true bytes o h e none = cc
no_end false bytes o h e none = grind (arith, nat_tests)

-- a line and then what a split leaves, of which there is always a piece
ended_more : (line : List ℕ) (pieces : List (List ℕ)) (piece : List ℕ) (rest : List (List ℕ)) → pieces ≡ piece ∷ rest → ended (line ∷ pieces) ≡ line ∷ ended pieces
ended_more [] pieces piece rest is = rw is refl
ended_more (b ∷ line) pieces piece rest is = refl

record HasPiece (pieces : List (List ℕ)) : Type 0 where
  first : List ℕ
  rest : List (List ℕ)
  is : pieces ≡ first ∷ rest

piece_by : (o : Option ℕ) (bytes : List ℕ) → position (λ b. b == 10) bytes ≡ o → HasPiece (slice_split (λ b. b == 10) bytes)
piece_by (Some end) bytes e =
    let p = end_at _ bytes end refl e in
    record { first = _; rest = _; is = slice_split_first (λ b. b == 10) bytes 0 p.0 }
piece_by None bytes e =
    let far = no_end _ bytes None refl e refl in
    record { first = _; rest = _; is = slice_split_none (λ b. b == 10) bytes (λ k d h. fails_before_first (λ b. b == 10) bytes k d (omega (arith, far, h))) }

pub line_found : (bytes : List ℕ) (end : ℕ) → position (λ b. b == 10) bytes ≡ Some end → lines_of bytes ≡ take end bytes ∷ lines_of (drop (end + 1) bytes)
line_found bytes end e =
    let p = end_at _ bytes end refl e in
    let split : slice_split (λ b. b == 10) bytes ≡ take end bytes ∷ slice_split (λ b. b == 10) (drop (end + 1) bytes) = slice_split_first (λ b. b == 10) bytes 0 p.0 ∙ rw p.1 refl in
    let some = piece_by _ (drop (end + 1) bytes) refl in
    ap ended split ∙ ended_more (take end bytes) (slice_split (λ b. b == 10) (drop (end + 1) bytes)) some.first some.rest some.is

-- without a line feed all of it is the one line
pub line_last : (bytes : List ℕ) → 0 < length bytes → position (λ b. b == 10) bytes ≡ None → lines_of bytes ≡ bytes ∷ []
line_last [] some e = absurd (omega (arith, some))
line_last (b ∷ bytes) some e =
    let far = no_end _ (b ∷ bytes) None refl e refl in
    ap ended (slice_split_none (λ b. b == 10) (b ∷ bytes) (λ k d h. fails_before_first (λ b. b == 10) (b ∷ bytes) k d (omega (arith, far, h))))

-- a slice from a place to the end, as goals write it
pub slice_rest : (bytes : List ℕ) (at : ℕ) → take (length bytes - at) (drop at bytes) ≡ drop at bytes
slice_rest bytes at = take_all (length bytes - at) (drop at bytes) (omega (arith, length-drop at bytes))
