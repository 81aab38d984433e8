-- Blocks as one list, and the places at which they begin.
use Rattle.std.proofs.Common.{◌≡◌, ℕ, zero, suc, ◌+◌, ◌-◌, ◌<◌, ◌≤◌, Bool, true, false, cond, List, [], ◌∷◌, ◌++◌, Result, Ok, Err, IsOk, is_ok, length, take, drop, map, get_or, set, refl, sym, ap, ◌∙◌, subst, inl, inr, arith, append_assoc}
use Rattle.std.specs.List.{concat, insert, AllByRecursion}
use Rattle.std.specs.List.Sorted.{IsPartitionedBy, IsPartitionPoint}
use Rattle.std.proofs.lemmas.Bool.{cases_lt, leb-true, leb-false, le-leb, both_ways}
use Rattle.std.proofs.Common.{leb}
use Rattle.std.proofs.lemmas.List.{append-nil, length-append, length-drop, length-take-le, take-append-drop, take_all, get_or_append_left, get_or-append-add, get_or_default}
use Rattle.std.proofs.lemmas.List.Edits.{insert-append_left, insert-append_right, length-insert}
use Rattle.number_blocks.specs.Blocks.{start_of, starts_from, AreBlocks, StandsIn}

-- ---- where blocks begin

start_more : (b : List ℕ) (bs : List (List ℕ)) (n : ℕ) → start_of (suc n) (b ∷ bs) ≡ length b + start_of n bs
start_more b bs n = length-append b (concat (take n bs))

pub start_at : (bs : List (List ℕ)) (here n d : ℕ) → n < length bs → get_or (starts_from here bs) n d ≡ here + start_of n bs
start_at [] here n d lt = absurd (omega (arith, lt))
start_at (b ∷ bs) here zero d lt = let none : start_of zero (b ∷ bs) ≡ 0 = refl in omega (arith, none)
start_at (b ∷ bs) here (suc n) d lt =
    let more = start_more b bs n in
    let same : here + length b + start_of n bs ≡ here + start_of (suc n) (b ∷ bs) = omega (arith, more) in
    start_at bs (here + length b) n d (omega (arith, lt)) ∙ same

pub starts_length : (bs : List (List ℕ)) (here : ℕ) → length (starts_from here bs) ≡ length bs
starts_length [] here = refl
starts_length (b ∷ bs) here = ap (λ n. suc n) (starts_length bs (here + length b))

pub next_start : (bs : List (List ℕ)) (n : ℕ) → n < length bs → start_of (suc n) bs ≡ start_of n bs + length (get_or bs n [])
next_start [] n lt = absurd (omega (arith, lt))
next_start (b ∷ bs) zero lt =
    let more = start_more b bs zero in
    let none : start_of zero bs ≡ 0 = refl in
    let also : start_of zero (b ∷ bs) ≡ 0 = refl in
    let is : start_of (suc zero) (b ∷ bs) ≡ start_of zero (b ∷ bs) + length b = omega (arith, more, none, also) in
    is
next_start (b ∷ bs) (suc n) lt =
    let this = start_more b bs n in
    let next = start_more b bs (suc n) in
    let rest = next_start bs n (omega (arith, lt)) in
    let is : start_of (suc (suc n)) (b ∷ bs) ≡ start_of (suc n) (b ∷ bs) + length (get_or bs n []) = omega (arith, this, next, rest) in
    is

pub rising : (bs : List (List ℕ)) (m n : ℕ) → m ≤ n → start_of m bs ≤ start_of n bs
rising [] zero n le = let none : start_of zero [] ≡ 0 = refl in omega (arith, none)
rising [] (suc m) n le = let none : start_of (suc m) [] ≡ 0 = refl in omega (arith, none)
rising (b ∷ bs) zero n le = let none : start_of zero (b ∷ bs) ≡ 0 = refl in omega (arith, none)
rising (b ∷ bs) (suc m) zero le = absurd (omega (arith, le))
rising (b ∷ bs) (suc m) (suc n) le =
    let low = start_more b bs m in
    let high = start_more b bs n in
    let rest = rising bs m n (omega (arith, le)) in
    omega (arith, low, high, rest)

pub end_start : (bs : List (List ℕ)) (n : ℕ) → length bs ≤ n → start_of n bs ≡ length (concat bs)
end_start bs n le = ap (λ l. length (concat l)) (take_all n bs le)

pub start_within : (bs : List (List ℕ)) (n : ℕ) → start_of n bs ≤ length (concat bs)
start_within bs n = elim (cases_lt n (length bs)) [
  | inl lt ↦ (let up = rising bs n (length bs) (omega (arith, lt)) in let all = end_start bs (length bs) (omega arith) in omega (arith, up, all))
  | inr ge ↦ (let all = end_start bs n ge in omega (arith, all))
]

-- ---- what is searched

pub starts_parted : (bs : List (List ℕ)) (starts : List ℕ) (place : ℕ) → AreBlocks bs starts → IsPartitionedBy (λ s. leb s place) starts
starts_parted bs starts place are i j d le lt h =
    let P : List ℕ → Type 0 = λ l. j < length l in
    let long = starts_length bs 0 in
    let inside : j < length (starts_from 0 bs) = subst P are.starts lt in
    let low : get_or starts i d ≡ 0 + start_of i bs = ap (λ l. get_or l i d) are.starts ∙ start_at bs 0 i d (omega (arith, le, inside, long)) in
    let high : get_or starts j d ≡ 0 + start_of j bs = ap (λ l. get_or l j d) are.starts ∙ start_at bs 0 j d (omega (arith, inside, long)) in
    let up = rising bs i j le in
    let below = leb-true (get_or starts j d) place h in
    le-leb (get_or starts i d) place (omega (arith, low, high, up, below))

-- the block before the first one that begins behind a place
pub stands : (bs : List (List ℕ)) (starts : List ℕ) (place n block : ℕ) → AreBlocks bs starts → 0 < length bs → place ≤ length (concat bs) → n ≤ length starts
    → IsPartitionPoint (λ s. leb s place ≡ true) (λ s. leb s place ≡ false) starts n → block ≡ n - 1 → StandsIn place bs block
stands bs starts place n block are some within most point is =
    let long : length starts ≡ length bs = ap length are.starts ∙ starts_length bs 0 in
    let begins : (k : ℕ) → k < length bs → get_or starts k 0 ≡ start_of k bs = λ k lt.
    let at : get_or starts k 0 ≡ 0 + start_of k bs = ap (λ l. get_or l k 0) are.starts ∙ start_at bs 0 k 0 lt in omega (arith, at) in
    let first : 0 < n = elim (cases_lt 0 n) [
      | inl lt ↦ lt
      | inr ge ↦ (let none : start_of zero bs ≡ 0 = refl in
          let zeroth = begins 0 some in
          absurd (both_ways (leb (get_or starts 0 0) place) (point.1 0 0 (omega (arith, ge)) (omega (arith, some, long))) (le-leb (get_or starts 0 0) place (omega (arith, none, zeroth)))))
    ] in
    let inside : block < length bs = omega (arith, is, first, most, long) in
    let low = leb-true (get_or starts block 0) place (point.0 block 0 (omega arith) (omega (arith, is, first))) in
    let at = begins block inside in
    let next = next_start bs block inside in
    record {
      within = inside;
      from = omega (arith, low, at);
      to = elim (cases_lt n (length bs)) [
        | inl lt ↦ (let high = leb-false (get_or starts n 0) place (point.1 n 0 (omega arith) (omega (arith, lt, long))) in
            let behind = begins n lt in
            let past : n ≡ suc block = omega (arith, is, first) in
            let same : start_of n bs ≡ start_of (suc block) bs = ap (λ k. start_of k bs) past in
            omega (arith, high, behind, same, next))
        | inr ge ↦ (let all = end_start bs (suc block) (omega (arith, is, first, ge)) in omega (arith, all, next, within))
      ];
      inside = λ short. elim (cases_lt n (length bs)) [
        | inl lt ↦ (let high = leb-false (get_or starts n 0) place (point.1 n 0 (omega arith) (omega (arith, lt, long))) in
            let behind = begins n lt in
            let past : n ≡ suc block = omega (arith, is, first) in
            let same : start_of n bs ≡ start_of (suc block) bs = ap (λ k. start_of k bs) past in
            omega (arith, high, behind, same, next))
        | inr ge ↦ (let all = end_start bs (suc block) (omega (arith, is, first, ge)) in omega (arith, all, next, short))
      ];
    }

-- the number at a place of a block
pub number_at : (bs : List (List ℕ)) (n k d : ℕ) → n < length bs → k < length (get_or bs n []) → get_or (concat bs) (start_of n bs + k) d ≡ get_or (get_or bs n []) k d
number_at [] n k d lt inside = absurd (omega (arith, lt))
number_at (b ∷ bs) zero k d lt inside =
    let none : start_of zero (b ∷ bs) + k ≡ k = (let no : start_of zero (b ∷ bs) ≡ 0 = refl in omega (arith, no)) in
    ap (λ i. get_or (b ++ concat bs) i d) none ∙ get_or_append_left b (concat bs) d k inside
number_at (b ∷ bs) (suc n) k d lt inside =
    let more = start_more b bs n in
    let same : start_of (suc n) (b ∷ bs) + k ≡ length b + (start_of n bs + k) = omega (arith, more) in
    ap (λ i. get_or (b ++ concat bs) i d) same ∙ get_or-append-add b (concat bs) (start_of n bs + k) d ∙ number_at bs n k d (omega (arith, lt)) inside

-- what a look-up in the starts tells
pub begins_at : (bs : List (List ℕ)) (starts : List ℕ) (block x : ℕ) → AreBlocks bs starts → block < length bs → x ≡ get_or starts block x → x ≡ start_of block bs
begins_at bs starts block x are lt is =
    let at : x ≡ 0 + start_of block bs = is ∙ ap (λ l. get_or l block x) are.starts ∙ start_at bs 0 block x lt in
    omega (arith, at)

pub as_many : (bs : List (List ℕ)) (starts : List ℕ) → AreBlocks bs starts → length starts ≡ length bs
as_many bs starts are = ap length are.starts ∙ starts_length bs 0

-- no block begins past the end
pub few_starts : (bs : List (List ℕ)) (starts : List ℕ) (most : ℕ) → AreBlocks bs starts → length (concat bs) < most → (k : ℕ) → k < length starts → get_or starts k 0 < most
few_starts bs starts most are few k lt =
    let many = as_many bs starts are in
    let x = get_or starts k 0 in
    let begins = begins_at bs starts k x are (omega (arith, lt, many)) (get_or_default starts k 0 x lt) in
    let within = start_within bs k in
    omega (arith, begins, within, few)

pub told_in : (bs : List (List ℕ)) (starts lent : List ℕ) (place block : ℕ) → AreBlocks bs starts → lent ≡ starts → place < length (concat bs)
    → ((blocks : List (List ℕ)) → AreBlocks blocks lent → 0 < length blocks → place ≤ length (concat blocks) → StandsIn place blocks block) → StandsIn place bs block
told_in [] starts lent place block are same lt told = absurd (omega (arith, lt))
told_in (b ∷ bs) starts lent place block are same lt told =
    let P : List ℕ → Type 0 = λ l. AreBlocks (b ∷ bs) l in
    told (b ∷ bs) (subst P (sym same) are) (omega arith) (omega (arith, lt))

-- ---- a number is put into a block

put_at : (bs : List (List ℕ)) (n at x : ℕ) → n < length bs → at ≤ length (get_or bs n []) → concat (set bs n (insert (get_or bs n []) at x)) ≡ insert (concat bs) (start_of n bs + at) x
put_at [] n at x lt le = absurd (omega (arith, lt))
put_at (b ∷ bs) zero at x lt le =
    let none : at ≡ start_of zero (b ∷ bs) + at = (let no : start_of zero (b ∷ bs) ≡ 0 = refl in omega (arith, no)) in
    sym (insert-append_left b (concat bs) at x le) ∙ ap (λ i. insert (b ++ concat bs) i x) none
put_at (b ∷ bs) (suc n) at x lt le =
    let more = start_more b bs n in
    let i = length b + (start_of n bs + at) in
    let same : i ≡ start_of (suc n) (b ∷ bs) + at = omega (arith, more) in
    let left : start_of n bs + at ≡ i - length b = omega arith in
    ap (λ l. b ++ l) (put_at bs n at x (omega (arith, lt)) le) ∙ ap (λ k. b ++ insert (concat bs) k x) left
    ∙ sym (insert-append_right b (concat bs) (length b) i x refl (omega arith)) ∙ ap (λ k. insert (b ++ concat bs) k x) same

shifted : (bs : List (List ℕ)) (here : ℕ) → starts_from (here + 1) bs ≡ map (λ n. n + 1) (starts_from here bs)
shifted [] here = refl
shifted (b ∷ bs) here =
    let same : here + 1 + length b ≡ here + length b + 1 = omega arith in
    ap (λ l. (here + 1) ∷ l) (ap (λ k. starts_from k bs) same ∙ shifted bs (here + length b))

raised : (bs : List (List ℕ)) (here n : ℕ) (new : List ℕ) → n < length bs → length new ≡ length (get_or bs n []) + 1
    → starts_from here (set bs n new) ≡ take (suc n) (starts_from here bs) ++ map (λ k. k + 1) (drop (suc n) (starts_from here bs))
raised [] here n new lt more = absurd (omega (arith, lt))
raised (b ∷ bs) here zero new lt more =
    let long : length new ≡ length b + 1 = more in
    let same : here + length new ≡ here + length b + 1 = omega (arith, long) in
    ap (λ l. here ∷ l) (ap (λ k. starts_from k bs) same ∙ shifted bs (here + length b))
raised (b ∷ bs) here (suc n) new lt more = ap (λ l. here ∷ l) (raised bs (here + length b) n new (omega (arith, lt)) more)

some_set : (bs : List (List ℕ)) (n : ℕ) (new : List ℕ) → AllByRecursion (λ b. 0 < length b) bs → 0 < length new → AllByRecursion (λ b. 0 < length b) (set bs n new)
some_set [] n new all some = tt
some_set (b ∷ bs) zero new all some = (some, all.1)
some_set (b ∷ bs) (suc n) new all some = (all.0, some_set bs n new all.1 some)

module _ (bs : List (List ℕ)) (starts : List ℕ) (place block x : ℕ) (are : AreBlocks bs starts) (s : StandsIn place bs block) where
  pub put_items : concat (set bs block (insert (get_or bs block []) (place - start_of block bs) x)) ≡ insert (concat bs) place x
  put_items =
      let from = s.from in
      let to = s.to in
      let there : start_of block bs + (place - start_of block bs) ≡ place = omega (arith, from) in
      put_at bs block (place - start_of block bs) x s.within (omega (arith, from, to)) ∙ ap (λ i. insert (concat bs) i x) there

  pub put_blocks : (after : List ℕ) → after ≡ take (suc block) starts ++ map (λ k. k + 1) (drop (suc block) starts)
      → AreBlocks (set bs block (insert (get_or bs block []) (place - start_of block bs) x)) after
  put_blocks after is =
      let from = s.from in
      let to = s.to in
      let b = get_or bs block [] in
      let new = insert b (place - start_of block bs) x in
      let long : length new ≡ length b + 1 = length-insert b (place - start_of block bs) x (omega (arith, from, to)) in
      record {
        starts = is ∙ ap (λ l. take (suc block) l ++ map (λ k. k + 1) (drop (suc block) l)) are.starts ∙ sym (raised bs 0 block new s.within long);
        some = some_set bs block new are.some (omega (arith, long));
      }

-- ---- a block is cut in two

cut_items : (bs : List (List ℕ)) (n half : ℕ) → n < length bs → concat (insert (set bs n (take half (get_or bs n []))) (suc n) (drop half (get_or bs n []))) ≡ concat bs
cut_items [] n half lt = absurd (omega (arith, lt))
cut_items (b ∷ bs) zero half lt = sym (append_assoc (take half b) (drop half b) (concat bs)) ∙ ap (λ l. l ++ concat bs) (take-append-drop half b)
cut_items (b ∷ bs) (suc n) half lt = ap (λ l. b ++ l) (cut_items bs n half (omega (arith, lt)))

cut_starts : (bs : List (List ℕ)) (here n half : ℕ) → n < length bs → half ≤ length (get_or bs n [])
    → starts_from here (insert (set bs n (take half (get_or bs n []))) (suc n) (drop half (get_or bs n []))) ≡ insert (starts_from here bs) (suc n) (here + start_of n bs + half)
cut_starts [] here n half lt le = absurd (omega (arith, lt))
cut_starts (b ∷ bs) here zero half lt le =
    let inside : half ≤ length b = le in
    let front : length (take half b) ≡ half = length-take-le half b inside in
    let back = length-drop half b in
    let no : start_of zero (b ∷ bs) ≡ 0 = refl in
    let this : here + length (take half b) ≡ here + start_of zero (b ∷ bs) + half = omega (arith, front, no) in
    let next : here + length (take half b) + length (drop half b) ≡ here + length b = omega (arith, front, back, inside) in
    ap (λ l. here ∷ (here + length (take half b)) ∷ l) (ap (λ k. starts_from k bs) next) ∙ ap (λ k. here ∷ k ∷ starts_from (here + length b) bs) this
cut_starts (b ∷ bs) here (suc n) half lt le =
    let more = start_more b bs n in
    let same : here + length b + start_of n bs + half ≡ here + start_of (suc n) (b ∷ bs) + half = omega (arith, more) in
    ap (λ l. here ∷ l) (cut_starts bs (here + length b) n half (omega (arith, lt)) le ∙ ap (λ k. insert (starts_from (here + length b) bs) (suc n) k) same)

some_insert : (bs : List (List ℕ)) (n : ℕ) (new : List ℕ) → AllByRecursion (λ b. 0 < length b) bs → 0 < length new → AllByRecursion (λ b. 0 < length b) (insert bs n new)
some_insert [] zero new all some = (some, tt)
some_insert [] (suc n) new all some = (some, tt)
some_insert (b ∷ bs) zero new all some = (some, all)
some_insert (b ∷ bs) (suc n) new all some = (all.0, some_insert bs n new all.1 some)

module _ (bs : List (List ℕ)) (starts : List ℕ) (block half : ℕ) (are : AreBlocks bs starts) (within : block < length bs) (less : half < length (get_or bs block [])) where
  cut : List (List ℕ)
  cut = insert (set bs block (take half (get_or bs block []))) (suc block) (drop half (get_or bs block []))

  pub cut_same : (new : List (List ℕ)) → new ≡ insert (set bs block (take half (get_or bs block []))) (suc block) (drop half (get_or bs block [])) → concat new ≡ concat bs
  cut_same new is = ap concat is ∙ cut_items bs block half within

  pub cut_blocks : (new : List (List ℕ)) (after : List ℕ) (start : ℕ) → 0 < half → new ≡ insert (set bs block (take half (get_or bs block []))) (suc block) (drop half (get_or bs block []))
      → start ≡ start_of block bs + half → after ≡ insert starts (suc block) start → AreBlocks new after
  cut_blocks new after start some is begins now =
      let front : length (take half (get_or bs block [])) ≡ half = length-take-le half (get_or bs block []) (omega (arith, less)) in
      let back = length-drop half (get_or bs block []) in
      let P : List (List ℕ) → Type 0 = λ l. AllByRecursion (λ b. 0 < length b) l in
      record {
        starts = now ∙ ap (λ l. insert l (suc block) start) are.starts ∙ ap (λ k. insert (starts_from 0 bs) (suc block) k) (omega (arith, begins))
            ∙ sym (cut_starts bs 0 block half within (omega (arith, less))) ∙ ap (starts_from 0) (sym is);
        some = subst P (sym is) (some_insert (set bs block (take half (get_or bs block []))) (suc block) (drop half (get_or bs block []))
            (some_set bs block (take half (get_or bs block [])) are.some (omega (arith, front, some))) (omega (arith, back, less)));
      }

-- ---- a block comes last

pub push_items : (bs : List (List ℕ)) (b : List ℕ) → concat (bs ++ b ∷ []) ≡ concat bs ++ b
push_items [] b = append-nil b
push_items (c ∷ bs) b = ap (λ l. c ++ l) (push_items bs b) ∙ sym (append_assoc c (concat bs) b)

push_starts : (bs : List (List ℕ)) (here : ℕ) (b : List ℕ) → starts_from here (bs ++ b ∷ []) ≡ starts_from here bs ++ (here + length (concat bs)) ∷ []
push_starts [] here b = (let none : length (concat []) ≡ 0 = refl in let same : here ≡ here + length (concat []) = omega (arith, none) in ap (λ k. k ∷ []) same)
push_starts (c ∷ bs) here b =
    let long = length-append c (concat bs) in
    let same : here + length c + length (concat bs) ≡ here + length (c ++ concat bs) = omega (arith, long) in
    ap (λ l. here ∷ l) (push_starts bs (here + length c) b ∙ ap (λ k. starts_from (here + length c) bs ++ k ∷ []) same)

some_push : (bs : List (List ℕ)) (b : List ℕ) → AllByRecursion (λ b. 0 < length b) bs → 0 < length b → AllByRecursion (λ b. 0 < length b) (bs ++ b ∷ [])
some_push [] b all some = (some, tt)
some_push (c ∷ bs) b all some = (all.0, some_push bs b all.1 some)

pub push_blocks : (bs : List (List ℕ)) (starts : List ℕ) (len x : ℕ) → AreBlocks bs starts → len ≡ length (concat bs) → AreBlocks (bs ++ (x ∷ []) ∷ []) (starts ++ len ∷ [])
push_blocks bs starts len x are is = record {
  starts = ap (λ l. l ++ len ∷ []) are.starts ∙ ap (λ k. starts_from 0 bs ++ k ∷ []) (omega (arith, is)) ∙ sym (push_starts bs 0 (x ∷ []));
  some = some_push bs (x ∷ []) are.some (omega arith);
}

-- ---- what went well

pub ok_is : {A B X : Type 0} (r : Result A B) (x y z : X) → IsOk r → z ≡ cond (is_ok r) x y → z ≡ x
ok_is (Ok a) x y z ok e = e
ok_is (Err b) x y z ok e = cc
