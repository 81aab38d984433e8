-- What a crash leaves of a file is read as the pieces that were safe, and the first few of those that were written.
use Rattle.std.proofs.Common.{◌≡◌, ◌≢◌, inl, inr, ⊎_elim, ℕ, zero, suc, ◌+◌, ◌-◌, ◌<◌, ◌≤◌, ◌^◌, true, List, [], ◌∷◌, ◌++◌, length, take, drop, get_or, replicate, fold, refl, sym, ◌∙◌, ap, arith, subst, append_assoc, length-append, length-drop, take-append-drop}
use Rattle.std.proofs.lemmas.Bool.{false≢true, cases_lt}
use Rattle.std.proofs.lemmas.Bool.Decides.{nat_tests}
use Rattle.std.proofs.lemmas.List.{append-nil, drop-drop, drop_at, drop-append-le, get_or-drop, get_or-append-add, get_or_append_left, get_or-replicate, length-replicate}
use Rattle.store_lines.specs.Lines.{recovered, encode, AreLines, Lacks}
use Rattle.store_lines.specs.Seals.{spelled, spelled_from, IsPiece, ArePieces, AreTexts}
use Rattle.store_lines.specs.Readings.{used, rest, trusted, trusted_step, BeginsAbove, is_broken, IsReadAs, IsBatch}
use Rattle.store_lines.specs.declared.piece.Piece.{Piece}
use Rattle.store_lines.specs.declared.piece.Piece.TheVariants.{Text, Safe, Stopped}
use Rattle.store_lines.proofs.WholeLemmas.{encode-append}
use Rattle.store_lines.proofs.TextLemmas.{lacks_append, lacks_behind, first_of, text_lacks_end}
use Rattle.store_lines.proofs.MarkLemmas.{MarkLine, is_mark_line, number_behind, no_text_behind}
use Rattle.store_lines.proofs.BlendLemmas.{Blend, blend_at, blend_byte, blend_length}

-- ---- marks in whole lines

-- a line that ends like a mark is none, or its number is at least that of the mark
abbrev pub Bounds : ℕ → List (List ℕ) → Type 0
Bounds n [] = Unit {0}
Bounds n (y ∷ ys) = ((front line : List ℕ) (m : ℕ) → m < 2 ^ 64 → MarkLine m line → y ≡ front ++ line → m ≤ n) × Bounds n ys

bounds_texts : (n at : ℕ) (ps : List Piece) → AreTexts ps → Bounds n (spelled_from at ps)
bounds_texts n at [] are = tt
bounds_texts n at (Text text ∷ ps) are = ((λ front line m small mark is. absurd (no_text_behind front line m at text mark (sym is))), bounds_texts n (at + 1) ps are.1)
bounds_texts n at (Safe len ∷ ps) are = absurd (are.0 tt)
bounds_texts n at (Stopped len ∷ ps) are = absurd (are.0 tt)

pub bounds_batch : (at len : ℕ) (ps : List Piece) → at < 2 ^ 64 → IsBatch len ps → ArePieces ps → Bounds at (spelled_from at ps)
bounds_batch at len [] small batch are = tt
bounds_batch at len (p ∷ ps) small batch are = (bounds_first at p small are.0, bounds_texts at (at + 1) ps batch.1)
  where
    bounds_first : (at : ℕ) (p : Piece) → at < 2 ^ 64 → IsPiece p → (front line : List ℕ) (m : ℕ) → m < 2 ^ 64 → MarkLine m line → spelled at p ≡ front ++ line → m ≤ at
    bounds_first at (Text text) small piece front line m m_small mark is = absurd (no_text_behind front line m at text mark (sym is))
    bounds_first at (Safe len) small piece front line m m_small mark is =
        number_behind front line m at m_small small mark (subst (λ (l : List ℕ). MarkLine at l) is (is_mark_line at (Safe len) small tt piece))
    bounds_first at (Stopped len) small piece front line m m_small mark is =
        number_behind front line m at m_small small mark (subst (λ (l : List ℕ). MarkLine at l) is (is_mark_line at (Stopped len) small tt piece))

line_lacks_end : (y : List ℕ) (ys : List (List ℕ)) → AreLines (y ∷ ys) → Lacks 10 y
line_lacks_end [] ys are = absurd are.0
line_lacks_end (b ∷ bs) ys are = text_lacks_end (b ∷ bs) are.0

-- a mark that stands anywhere in whole lines stands at the end of one
pub mark_in_lines : (n : ℕ) (ys : List (List ℕ)) (i m : ℕ) (line behind : List ℕ) → AreLines ys → Bounds n ys → m < 2 ^ 64 → MarkLine m line → drop i (encode ys) ≡ line ++ 10 ∷ behind → m ≤ n
mark_in_lines n [] i m line behind are bounds small mark is =
    absurd (omega (arith, ap length is, length-append line (10 ∷ behind), length-drop {A = ℕ} i []))
mark_in_lines n (y ∷ ys) i m line behind are bounds small mark is = ⊎_elim
    (λ past.
    let left = i - (length y + 1) in
    let more : drop i (y ++ 10 ∷ encode ys) ≡ drop left (encode ys) =
    ap (λ (k : ℕ). drop k (y ++ 10 ∷ encode ys)) (let e : i ≡ length y + 1 + left = omega arith in e)
    ∙ sym (drop-drop left (length y + 1) (y ++ 10 ∷ encode ys))
    ∙ ap (λ (l : List ℕ). drop left (drop (length y + 1) l)) (sym (append_assoc y (10 ∷ []) (encode ys)))
    ∙ ap (λ (l : List ℕ). drop left l) (drop_at (y ++ 10 ∷ []) (encode ys) (length y + 1) (length-append y (10 ∷ []))) in
    mark_in_lines n ys left m line behind are.1 bounds.1 small mark (sym more ∙ is))
    (λ within.
    let here : drop i y ++ 10 ∷ encode ys ≡ line ++ 10 ∷ behind = sym (drop-append-le i y (10 ∷ encode ys) within) ∙ is in
    let whole : take i y ++ drop i y ≡ y = take-append-drop i y in
    let end_lacks : Lacks 10 (drop i y) = lacks_behind 10 (take i y) (drop i y) (subst (λ (l : List ℕ). Lacks 10 l) (sym whole) (line_lacks_end y ys are)) in
    let same : drop i y ≡ line = (first_of 10 (drop i y) (encode ys) line behind end_lacks (mark.lacks 10 (omega arith)) here).0 in
    bounds.0 (take i y) line m small mark (sym whole ∙ ap (λ (l : List ℕ). take i y ++ l) same))
    (cases_lt (length y) i)

-- ---- pieces, one behind another

pub spelled_append : (at : ℕ) (ps qs : List Piece) → spelled_from at (ps ++ qs) ≡ spelled_from at ps ++ spelled_from (at + length ps) qs
spelled_append at [] qs = ap (λ (n : ℕ). spelled_from n qs) (let e : at ≡ at + 0 = omega arith in e)
spelled_append at (p ∷ ps) qs =
    ap (λ (l : List (List ℕ)). spelled at p ∷ l)
    (spelled_append (at + 1) ps qs ∙ ap (λ (n : ℕ). spelled_from (at + 1) ps ++ spelled_from n qs) (let e : at + 1 + length ps ≡ at + suc (length ps) = omega arith in e))

pub spelled_take : (at k : ℕ) (ps : List Piece) → take k (spelled_from at ps) ≡ spelled_from at (take k ps)
spelled_take at zero ps = refl
spelled_take at (suc k) [] = refl
spelled_take at (suc k) (p ∷ ps) = ap (λ (l : List (List ℕ)). spelled at p ∷ l) (spelled_take (at + 1) k ps)

pub spelled_length : (at : ℕ) (ps : List Piece) → length (spelled_from at ps) ≡ length ps
spelled_length at [] = refl
spelled_length at (p ∷ ps) = let more = spelled_length (at + 1) ps in omega (arith, more)

fold_append : (len : ℕ) (ps qs : List Piece) → fold trusted_step len (ps ++ qs) ≡ fold trusted_step (fold trusted_step len ps) qs
fold_append len [] qs = refl
fold_append len (p ∷ ps) qs = fold_append (trusted_step len p) ps qs

fold_texts : (len k : ℕ) (ps : List Piece) → AreTexts ps → fold trusted_step len (take k ps) ≡ len
fold_texts len zero ps are = refl
fold_texts len (suc k) [] are = refl
fold_texts len (suc k) (Text text ∷ ps) are = fold_texts len k ps are.1
fold_texts len (suc k) (Safe now ∷ ps) are = absurd (are.0 tt)
fold_texts len (suc k) (Stopped now ∷ ps) are = absurd (are.0 tt)

-- a batch tells no greater length than that of its file
pub trusted_batch : (n len k : ℕ) (ps more : List Piece) → trusted ps ≤ n → len ≤ n → IsBatch len more → trusted (ps ++ take k more) ≤ n
trusted_batch n len k ps more old new batch = let e = fold_append 1048576 ps (take k more) in omega (arith, e, few n len k (trusted ps) more old new batch)
  where
    few : (n len k was : ℕ) (more : List Piece) → was ≤ n → len ≤ n → IsBatch len more → fold trusted_step was (take k more) ≤ n
    few n len zero was more old new batch = old
    few n len (suc k) was [] old new batch = old
    few n len (suc k) was (Text text ∷ more) old new batch = omega (arith, fold_texts was k more batch.1)
    few n len (suc k) was (Safe told ∷ more) old new batch = omega (arith, fold_texts told k more batch.1, batch.0)
    few n len (suc k) was (Stopped told ∷ more) old new batch = omega (arith, fold_texts told k more batch.1, batch.0)

-- ---- bytes behind lines

-- behind so many bytes, and further on
drop_past : (front body : List ℕ) (i : ℕ) → length front ≤ i → drop i (front ++ body) ≡ drop (i - length front) body
drop_past front body i le =
    ap (λ (k : ℕ). drop k (front ++ body)) (let e : i ≡ length front + (i - length front) = omega arith in e)
    ∙ sym (drop-drop (i - length front) (length front) (front ++ body))
    ∙ ap (λ (l : List ℕ). drop (i - length front) l) (drop_at front body (length front) refl)

broken_first : (bytes : List ℕ) → is_broken bytes ≡ true → get_or bytes 0 0 ≡ 10
broken_first [] is = absurd (false≢true is)
broken_first (b ∷ []) is = absurd (false≢true is)
broken_first (b ∷ c ∷ bs) is = grind (arith, nat_tests)

lines_first : (ys : List (List ℕ)) → AreLines ys → get_or (encode ys) 0 0 ≢ 10
lines_first [] are = omega arith
lines_first ([] ∷ ys) are = absurd are.0
lines_first ((b ∷ bs) ∷ ys) are = are.0.1

lines_drop : (k : ℕ) (ys : List (List ℕ)) → AreLines ys → AreLines (drop k ys)
lines_drop zero ys are = are
lines_drop (suc k) [] are = tt
lines_drop (suc k) (y ∷ ys) are = lines_drop k ys are.1

-- a mark's first byte isn't 0
pub above_first : (lines : ℕ) (bytes : List ℕ) → BeginsAbove lines bytes → get_or bytes 0 0 ≢ 0
above_first lines bytes begins =
    let above = begins.above in
    let mark = subst (λ (l : List ℕ). MarkLine above.number l) (sym above.is) (is_mark_line above.number above.mark above.small above.is_mark above.is_piece) in
    first_byte begins.line begins.behind bytes begins.is mark.some (mark.lacks 0 (omega arith))
  where
    first_byte : (line behind bytes : List ℕ) → bytes ≡ line ++ 10 ∷ behind → 0 < length line → Lacks 0 line → get_or bytes 0 0 ≢ 0
    first_byte [] behind bytes is some lacks = absurd (omega arith)
    first_byte (b ∷ bs) behind bytes is some lacks = λ zeros. lacks.0 (sym (ap (λ (l : List ℕ). get_or l 0 0) is) ∙ zeros)

-- ---- what a crash leaves of a batch

-- the first few lines of a batch are there, and the rest of it is blended with zeros
pub record TornBatch (xs ys : List (List ℕ)) (k : ℕ) (c : List ℕ) : Type 0 where
  pub blended : List ℕ
  pub room : ℕ
  pub blend : Blend blended (encode ys)
  pub is : c ≡ encode xs ++ (blended ++ replicate room 0)
  pub found : recovered c ≡ xs ++ take k ys

module _ (ps more : List Piece) (k len : ℕ) (c : List ℕ) (batch : IsBatch len more) (bounds : Bounds (length ps) (spelled_from (length ps) more)) (lines : AreLines (spelled_from (length ps) more))
    (torn : TornBatch (spelled_from 0 ps) (spelled_from (length ps) more) k c) where
  used_is : used c ≡ length (encode (spelled_from 0 ps)) + length (encode (take k (spelled_from (length ps) more)))
  used_is =
      let few = take k (spelled_from (length ps) more) in
      ap (λ (l : List (List ℕ)). length (encode l)) torn.found ∙ ap length (encode-append (spelled_from 0 ps) few) ∙ length-append (encode (spelled_from 0 ps)) (encode few)

  no_mark : (at : ℕ) → BeginsAbove (length (ps ++ take k more)) (drop at (rest c)) → ⊥
  no_mark at begins =
      let front = encode (spelled_from 0 ps) in
      let body = torn.blended ++ replicate torn.room 0 in
      let place = used c + at - length front in
      let above = begins.above in
      let mark = subst (λ (l : List ℕ). MarkLine above.number l) (sym above.is) (is_mark_line above.number above.mark above.small above.is_mark above.is_piece) in
      let text = begins.line ++ 10 ∷ [] in
      let here : drop place body ≡ text ++ begins.behind =
      sym (drop_past front body (used c + at) (omega (arith, used_is)))
      ∙ ap (λ (l : List ℕ). drop (used c + at) l) (sym torn.is)
      ∙ sym (drop-drop at (used c) c)
      ∙ begins.is
      ∙ sym (append_assoc begins.line (10 ∷ []) begins.behind) in
      let end : ◌≢◌ {A = ℕ} 10 0 = omega arith in
      let was = blend_at place text torn.blended (encode (spelled_from (length ps) more)) begins.behind torn.room torn.blend
      (lacks_append 0 begins.line (10 ∷ []) (mark.lacks 0 (omega arith)) (end, tt)) (omega (arith, length-append begins.line (10 ∷ []))) here in
      let le = mark_in_lines (length ps) (spelled_from (length ps) more) place above.number begins.line was.0 lines bounds above.small mark
      (was.1 ∙ append_assoc begins.line (10 ∷ []) was.0) in
      omega (arith, le, above.more, length-append ps (take k more))

  not_broken : is_broken (rest c) ≡ true → ⊥
  not_broken is =
      let front = encode (spelled_from 0 ps) in
      let body = torn.blended ++ replicate torn.room 0 in
      let few = take k (spelled_from (length ps) more) in
      let left = drop k (spelled_from (length ps) more) in
      let at = length (encode few) in
      let first : get_or (rest c) 0 0 ≡ 10 = broken_first (rest c) is in
      let there : get_or body at 0 ≡ 10 =
      sym (get_or-append-add front body at 0)
      ∙ ap (λ (n : ℕ). get_or (front ++ body) n 0) (let e : length front + at ≡ used c + 0 = omega (arith, used_is) in e)
      ∙ ap (λ (l : List ℕ). get_or l (used c + 0) 0) (sym torn.is)
      ∙ sym (get_or-drop (used c) c 0 0)
      ∙ first in
      let split : encode (spelled_from (length ps) more) ≡ encode few ++ encode left = ap encode (sym (take-append-drop k (spelled_from (length ps) more))) ∙ encode-append few left in
      let written : get_or (encode (spelled_from (length ps) more)) at 0 ≡ get_or (encode left) 0 0 =
      ap (λ (l : List ℕ). get_or l at 0) split
      ∙ ap (λ (n : ℕ). get_or (encode few ++ encode left) n 0) (let e : at ≡ length (encode few) + 0 = omega arith in e)
      ∙ get_or-append-add (encode few) (encode left) 0 0 in
      ⊎_elim
      (λ lost. let e : ⊥ = omega (arith, lost, there) in e)
      (λ new. lines_first left (lines_drop k (spelled_from (length ps) more) lines) (sym written ∙ sym new ∙ there))
      (blend_byte torn.blended (encode (spelled_from (length ps) more)) torn.room at torn.blend)

  pub torn_batch_read : trusted ps ≤ length c → len ≤ length c → IsReadAs (ps ++ take k more) c
  torn_batch_read old new =
      let tells = trusted_batch (length c) len k ps more old new batch in
      record {
        lines = torn.found ∙ ap (λ (l : List (List ℕ)). spelled_from 0 ps ++ l) (spelled_take (length ps) k more)
            ∙ ap (λ (n : ℕ). spelled_from 0 ps ++ spelled_from n (take k more)) (let e : length ps ≡ 0 + length ps = omega arith in e)
            ∙ sym (spelled_append 0 ps (take k more));
        told = λ tells_more. ⊎_elim
            (λ ahead. no_mark ahead.at ahead.above)
            (λ others. ⊎_elim not_broken (λ short. let e : ⊥ = omega (arith, short, tells) in e) others)
            tells_more;
      }

-- lines, and then zeros alone
pub at_rest_read : (ps : List Piece) (room : ℕ) (bytes : List ℕ) → recovered bytes ≡ spelled_from 0 ps → bytes ≡ encode (recovered bytes) ++ replicate room 0 → trusted ps ≤ length bytes → IsReadAs ps bytes
at_rest_read ps room bytes found is long =
    subst (λ (l : List Piece). IsReadAs l bytes) (append-nil ps)
    (torn_batch_read ps [] 0 0 bytes tt tt tt
    (record { blended = []; room = room; blend = tt; is = is ∙ ap (λ (l : List (List ℕ)). encode l ++ replicate room 0) found; found = found ∙ sym (append-nil (spelled_from 0 ps)) })
    long (omega arith))

-- a file isn't shorter than its pieces tell
pub long_enough : (ps : List Piece) (old : List ℕ) → IsReadAs ps old → trusted ps ≤ length old
long_enough ps old read = ⊎_elim (λ short. absurd (read.told (inr (inr short)))) (λ le. le) (cases_lt (length old) (trusted ps))

-- ---- what a crash leaves of a file that is made longer

pub longer_read : (ps : List Piece) (room : ℕ) (old more : List ℕ) → IsReadAs ps old → old ≡ encode (recovered old) ++ replicate room 0 → 0 < room → recovered (old ++ more) ≡ recovered old → IsReadAs ps (old ++ more)
longer_read ps room old more read is some same =
    let c = old ++ more in
    let front = encode (recovered old) in
    let size : length old ≡ length front + room = ap length is ∙ length-append front (replicate room 0) ∙ ap (λ (n : ℕ). length front + n) (length-replicate {A = ℕ} room 0) in
    let used_is : used c ≡ length front = ap (λ (l : List (List ℕ)). length (encode l)) same in
    let zero_at : (i : ℕ) → i < room → get_or (rest c) i 0 ≡ 0 = λ i lt.
    get_or-drop (used c) c i 0
    ∙ ap (λ (n : ℕ). get_or c n 0) (let e : used c + i ≡ length front + i = omega (arith, used_is) in e)
    ∙ get_or_append_left old more 0 (length front + i) (omega (arith, size))
    ∙ ap (λ (l : List ℕ). get_or l (length front + i) 0) is
    ∙ get_or-append-add front (replicate room 0) i 0
    ∙ get_or-replicate room i 0 0 lt in
    let long : trusted ps ≤ length old = long_enough ps old read in
    record {
      lines = same ∙ read.lines;
      told = λ tells. ⊎_elim
          (λ ahead.
          let within : ahead.at < room = omega (arith, ahead.begins, used_is, size, long) in
          above_first (length ps) (drop ahead.at (rest c)) ahead.above (get_or-drop ahead.at (rest c) 0 0 ∙ ap (λ (n : ℕ). get_or (rest c) n 0) (let e : ahead.at + 0 ≡ ahead.at = omega arith in e) ∙ zero_at ahead.at within))
          (λ others. ⊎_elim
          (λ broken. let e : ⊥ = omega (arith, broken_first (rest c) broken, zero_at 0 some) in e)
          (λ short. let e : ⊥ = omega (arith, short, length-append old more, long) in e)
          others)
          tells;
    }

-- ---- what a crash leaves where the rest of a file is made zeros

pub cleared_read : (ps : List Piece) (tail blended old c : List ℕ) → IsReadAs ps old → old ≡ encode (recovered old) ++ tail → Blend blended tail → c ≡ encode (recovered old) ++ blended → recovered c ≡ recovered old
    → IsReadAs ps c
cleared_read ps tail blended old c read is blend c_is same =
    let front = encode (recovered old) in
    let used_is : used c ≡ used old = ap (λ (l : List (List ℕ)). length (encode l)) same in
    let rest_old : rest old ≡ tail = ap (λ (l : List ℕ). drop (used old) l) is ∙ drop_at front tail (used old) refl in
    let rest_c : rest c ≡ blended = ap (λ (n : ℕ). drop n c) used_is ∙ ap (λ (l : List ℕ). drop (used old) l) c_is ∙ drop_at front blended (used old) refl in
    let size : length c ≡ length old = omega (arith, ap length c_is, ap length is, length-append front blended, length-append front tail, blend_length blended tail blend) in
    record {
      lines = same ∙ read.lines;
      told = λ tells. read.told (⊎_elim
          (λ ahead.
          inl (record {
            at = ahead.at;
            begins = omega (arith, ahead.begins, used_is);
            above = subst (λ (l : List ℕ). BeginsAbove (length ps) (drop ahead.at l)) (sym rest_old)
                (begins_in (length ps) ahead.at tail blended blend (subst (λ (l : List ℕ). BeginsAbove (length ps) (drop ahead.at l)) rest_c ahead.above));
          }))
          (λ others. ⊎_elim
          (λ broken. inr (inl (ap is_broken rest_old ∙ broken_in tail blended blend (sym (ap is_broken rest_c) ∙ broken))))
          (λ short. inr (inr (omega (arith, short, size))))
          others)
          tells);
    }
  where
    begins_in : (lines at : ℕ) (tail blended : List ℕ) → Blend blended tail → BeginsAbove lines (drop at blended) → BeginsAbove lines (drop at tail)
    begins_in lines at tail blended blend begins =
        let above = begins.above in
        let mark = subst (λ (l : List ℕ). MarkLine above.number l) (sym above.is) (is_mark_line above.number above.mark above.small above.is_mark above.is_piece) in
        let text = begins.line ++ 10 ∷ [] in
        let end : ◌≢◌ {A = ℕ} 10 0 = omega arith in
        let was = blend_at at text blended tail begins.behind 0 blend (lacks_append 0 begins.line (10 ∷ []) (mark.lacks 0 (omega arith)) (end, tt)) (omega (arith, length-append begins.line (10 ∷ [])))
        (ap (λ (l : List ℕ). drop at l) (append-nil blended) ∙ begins.is ∙ sym (append_assoc begins.line (10 ∷ []) begins.behind)) in
        record { line = begins.line; behind = was.0; is = was.1 ∙ append_assoc begins.line (10 ∷ []) was.0; above = above }

    broken_in : (tail blended : List ℕ) → Blend blended tail → is_broken blended ≡ true → is_broken tail ≡ true
    broken_in tail [] blend is = absurd (false≢true is)
    broken_in tail (b ∷ []) blend is = absurd (false≢true is)
    broken_in [] (b ∷ c ∷ bs) blend is = absurd blend
    broken_in (t ∷ []) (b ∷ c ∷ bs) blend is = absurd blend.1
    broken_in (t ∷ u ∷ ts) (b ∷ c ∷ bs) blend is =
        ⊎_elim (λ lost. absurd (let e : ⊥ = grind (arith, nat_tests) in e)) (λ there. ap (λ (k : ℕ). is_broken (k ∷ u ∷ ts)) (sym there) ∙ is) blend.0

-- one byte behind lines that had none
pub byte_read : (ps : List Piece) (old more : List ℕ) → IsReadAs ps old → old ≡ encode (recovered old) → length more ≤ 1 → recovered (old ++ more) ≡ recovered old → IsReadAs ps (old ++ more)
byte_read ps old more read is one same =
    let c = old ++ more in
    let used_is : used c ≡ length old = ap (λ (l : List (List ℕ)). length (encode l)) same ∙ ap length (sym is) in
    let rest_c : rest c ≡ more = ap (λ (n : ℕ). drop n c) used_is ∙ drop_at old more (length old) refl in
    record {
      lines = same ∙ read.lines;
      told = λ tells. ⊎_elim
          (λ ahead. absurd (too_short (length ps) ahead.at more one (subst (λ (l : List ℕ). BeginsAbove (length ps) (drop ahead.at l)) rest_c ahead.above)))
          (λ others. ⊎_elim
          (λ broken. absurd (no_more more one (sym (ap is_broken rest_c) ∙ broken)))
          (λ short. read.told (inr (inr (omega (arith, short, length-append old more)))))
          others)
          tells;
    }
  where
    too_short : (lines at : ℕ) (more : List ℕ) → length more ≤ 1 → BeginsAbove lines (drop at more) → ⊥
    too_short lines at more one begins =
        let above = begins.above in
        let mark = subst (λ (l : List ℕ). MarkLine above.number l) (sym above.is) (is_mark_line above.number above.mark above.small above.is_mark above.is_piece) in
        let some = mark.some in
        let e : ⊥ = omega (arith, ap length begins.is, length-append begins.line (10 ∷ begins.behind), length-drop at more, some) in e

    no_more : (more : List ℕ) → length more ≤ 1 → is_broken more ≡ true → ⊥
    no_more [] one is = false≢true is
    no_more (b ∷ []) one is = false≢true is
    no_more (b ∷ c ∷ bs) one is = absurd (omega arith)
