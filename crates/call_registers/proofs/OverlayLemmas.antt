-- Registers after changes that are drafted.
use Rattle.std.proofs.Common.{◌≡◌, ◌∙◌, sym, ap, refl, ℕ, zero, suc, ◌+◌, ◌<◌, ◌≤◌, ◌≢◌, Bool, true, false, cond, List, [], ◌∷◌, ◌++◌, length, set, get_or, slice_get, Option, Some, None, option_map, fold, nat_eq, is_some, arith, subst, drop, add-one, drop-cons, length-append, append_assoc}
use Rattle.std.specs.Option.{option_or}
use Rattle.std.proofs.lemmas.Bool.{eqb-true}
use Rattle.std.proofs.lemmas.Bool.Decides.{nat_tests}
use Rattle.std.proofs.lemmas.List.Folds.{find-append}
use Rattle.std.proofs.lemmas.List.Sums.{fold-append}
use Rattle.lang_base.proofs.EqualLemmas.{nat_same}
use Rattle.lang_core.specs.declared.request.Request.{Request}
use Rattle.call_registers.specs.Registers.{has_number, CountFrom, IsNumbered, register, at_number, changed, first_register, next_number, is_newer, with_call}
use Rattle.call_registers.specs.Overlays.{put, put_all, numbered, numbered_from, later}
use Rattle.call_registers.specs.declared.register.Register.{Register}
use Rattle.call_registers.specs.declared.register.RegisterChange.{RegisterChange}
use Rattle.call_registers.specs.declared.register.RegisterChange.TheVariants.{Send, Ack, SeeAnswer, Note, Tell, Hold, Release}
use Rattle.call_registers.proofs.ChangeLemmas.{at_place, fail, none_below, not_same, number_stays, pass, skip}

-- ---- the register of a number

abbrev or : Register → Option Register → Register
or d None = d
or d (Some r) = r

some_same : (r x : Register) → Some r ≡ Some x → r ≡ x
some_same r x h = ap (or r) h

found_step : (b : Bool) (n : ℕ) (r x : Register) (o : Option Register) → (b ≡ true → r.number ≡ n) → (o ≡ Some x → x.number ≡ n) → cond b (Some r) o ≡ Some x → x.number ≡ n
found_step true n r x o same rest h = sym (ap (λ (y : Register). y.number) (some_same r x h)) ∙ same refl
found_step false n r x o same rest h = rest h

pub found_number : (n : ℕ) (rs : List Register) (x : Register) → register n rs ≡ Some x → x.number ≡ n
found_number n [] x h = cc
found_number n (r ∷ rs) x h =
    found_step (nat_eq r.number n) n r x (register n rs) (eqb-true r.number n) (found_number n rs x) h

-- with the number that it has, it is the same
pub numbered_same : (n : ℕ) (r : Register) → r.number ≡ n → numbered n r ≡ r
numbered_same n r h = ap (λ m. numbered m r) (sym h)

-- ---- what is put

-- changed by its number or put there as changed, the register that is there is the same
as_step : (b : Bool) (f : Register → Register) (r x : Register) (rs l m : List Register) (o : Option Register) → cond b (Some r) o ≡ Some x → (o ≡ Some x → l ≡ m)
    → cond b (f r ∷ rs) (r ∷ l) ≡ cond b (f x ∷ rs) (r ∷ m)
as_step true f r x rs l m o h rest = ap (λ y. f y ∷ rs) (some_same r x h)
as_step false f r x rs l m o h rest = ap (λ k. r ∷ k) (rest h)

change_as : (n : ℕ) (f : Register → Register) (rs : List Register) (x : Register) → register n rs ≡ Some x → at_number n f rs ≡ at_number n (λ old. f x) rs
change_as n f [] x h = cc
change_as n f (r ∷ rs) x h =
    as_step (nat_eq r.number n) f r x rs (at_number n f rs) (at_number n (λ old. f x) rs) (register n rs) h (change_as n f rs x)

-- ---- a change among registers before others

front_step : (b : Bool) (f : Register → Register) (r x : Register) (rs ys l m : List Register) (o : Option Register) → cond b (Some r) o ≡ Some x → (o ≡ Some x → l ≡ m ++ ys)
    → cond b (f r ∷ (rs ++ ys)) (r ∷ l) ≡ cond b (f r ∷ rs) (r ∷ m) ++ ys
front_step true f r x rs ys l m o h rest = refl
front_step false f r x rs ys l m o h rest = ap (λ k. r ∷ k) (rest h)

change_front : (n : ℕ) (f : Register → Register) (rs ys : List Register) (x : Register) → register n rs ≡ Some x → at_number n f (rs ++ ys) ≡ at_number n f rs ++ ys
change_front n f [] ys x h = cc
change_front n f (r ∷ rs) ys x h =
    front_step (nat_eq r.number n) f r x rs ys (at_number n f (rs ++ ys)) (at_number n f rs) (register n rs) h (change_front n f rs ys x)

behind_step : (b : Bool) (f : Register → Register) (r : Register) (rs l m : List Register) (o : Option Register) → cond b (Some r) o ≡ None → (o ≡ None → l ≡ m)
    → cond b (f r ∷ rs) (r ∷ l) ≡ r ∷ m
behind_step true f r rs l m o h rest = cc
behind_step false f r rs l m o h rest = ap (λ k. r ∷ k) (rest h)

change_behind : (n : ℕ) (f : Register → Register) (rs ys : List Register) → register n rs ≡ None → at_number n f (rs ++ ys) ≡ rs ++ at_number n f ys
change_behind n f [] ys h = refl
change_behind n f (r ∷ rs) ys h =
    behind_step (nat_eq r.number n) f r (rs ++ ys) (at_number n f (rs ++ ys)) (rs ++ at_number n f ys) (register n rs) h (change_behind n f rs ys)

-- ---- registers that are found after those that are put

kept_map : (c : Register) (o : Option Register) → o ≡ option_map (λ x. cond false c x) o
kept_map c None = refl
kept_map c (Some x) = refl

same_place : (e d : Bool) (r c : Register) (o : Option Register) → e ≡ d → cond d (Some c) o ≡ option_map (λ x. cond d c x) (cond e (Some r) o)
same_place true true r c o h = refl
same_place true false r c o h = cc
same_place false true r c o h = cc
same_place false false r c o h = kept_map c o

other_place : (e d : Bool) (r c : Register) (o p : Option Register) → (e ≡ true → d ≡ false) → p ≡ option_map (λ x. cond d c x) o → cond e (Some r) p ≡ option_map (λ x. cond d c x) (cond e (Some r) o)
other_place true d r c o p differs rest = ap (λ k. Some (cond k c r)) (sym (differs refl))
other_place false d r c o p differs rest = rest

put_place : (b : Bool) (n : ℕ) (r c : Register) (rs l : List Register) → (b ≡ true → nat_eq r.number n ≡ nat_eq c.number n) → (b ≡ false → nat_eq r.number n ≡ true → nat_eq c.number n ≡ false)
    → register n l ≡ option_map (λ x. later n x c) (register n rs) → register n (cond b (c ∷ rs) (r ∷ l)) ≡ option_map (λ x. later n x c) (cond (nat_eq r.number n) (Some r) (register n rs))
put_place true n r c rs l same other rest = same_place (nat_eq r.number n) (nat_eq c.number n) r c (register n rs) (same refl)
put_place false n r c rs l same other rest = other_place (nat_eq r.number n) (nat_eq c.number n) r c (register n rs) (register n l) (other refl) rest

not_either : (a c n : ℕ) → nat_eq a c ≡ false → nat_eq a n ≡ true → nat_eq c n ≡ false
not_either a c n h e = grind (arith, nat_tests)

found_put : (n : ℕ) (rs : List Register) (c : Register) → register n (put rs c) ≡ option_map (λ x. later n x c) (register n rs)
found_put n [] c = refl
found_put n (r ∷ rs) c =
    put_place (nat_eq r.number c.number) n r c rs (put rs c) (λ t. ap (λ m. nat_eq m n) (eqb-true r.number c.number t)) (not_either r.number c.number n) (found_put n rs c)

map_same : (o : Option Register) → o ≡ option_map (λ x. x) o
map_same None = refl
map_same (Some x) = refl

map_twice : (f g : Register → Register) (o : Option Register) → option_map f (option_map g o) ≡ option_map (λ x. f (g x)) o
map_twice f g None = refl
map_twice f g (Some x) = refl

pub found_all : (n : ℕ) (changed rs : List Register) → register n (put_all changed rs) ≡ option_map (λ r. fold (later n) r changed) (register n rs)
found_all n [] rs = map_same (register n rs)
found_all n (c ∷ cs) rs =
    found_all n cs (put rs c)
    ∙ ap (option_map (λ r. fold (later n) r cs)) (found_put n rs c)
    ∙ map_twice (λ r. fold (later n) r cs) (λ x. later n x c) (register n rs)

pub none_all : (n : ℕ) (changed rs : List Register) → None ≡ register n rs → None ≡ register n (put_all changed rs)
none_all n changed rs h = sym (found_all n changed rs ∙ ap (option_map (λ r. fold (later n) r changed)) (sym h))

pub some_all : (n : ℕ) (changed rs : List Register) (r : Register) → Some r ≡ register n rs → Some (fold (later n) r changed) ≡ register n (put_all changed rs)
some_all n changed rs r h = sym (found_all n changed rs ∙ ap (option_map (λ r. fold (later n) r changed)) (sym h))

pub later_more : (n i : ℕ) (found : Register) (changed : List Register) (r : Register) → i < length changed → r ≡ get_or changed i r
    → fold (later n) found (drop i changed) ≡ fold (later n) (later n found r) (drop (i + 1) changed)
later_more n i found changed r w is =
    ap (fold (later n) found) (drop-cons changed i r w ∙ ap (λ x. x ∷ drop (suc i) changed) (sym is))
    ∙ ap (λ k. fold (later n) (later n found r) (drop k changed)) (sym (add-one i))

-- ---- lengths

put_length : (n : ℕ) (f : Register → Register) (rs : List Register) → length (at_number n f rs) ≡ length rs
put_length n f [] = refl
put_length n f (r ∷ rs) = longer (nat_eq r.number n) (f r) r rs (at_number n f rs) (put_length n f rs)
  where
    longer : (b : Bool) (x y : Register) (xs ys : List Register) → length ys ≡ length xs → length (cond b (x ∷ xs) (y ∷ ys)) ≡ length (y ∷ xs)
    longer true x y xs ys h = refl
    longer false x y xs ys h = ap suc h

pub put_all_length : (changed rs : List Register) → length (put_all changed rs) ≡ length rs
put_all_length [] rs = refl
put_all_length (c ∷ cs) rs = put_all_length cs (put rs c) ∙ put_length c.number (λ old. c) rs

numbered_length : (k : ℕ) (rs : List Register) → length (numbered_from k rs) ≡ length rs
numbered_length k [] = refl
numbered_length k (r ∷ rs) = ap suc (numbered_length (k + 1) rs)

pub overlaid_length : (changed rs added : List Register) (k : ℕ) → length (put_all changed rs ++ numbered_from k added) ≡ length rs + length added
overlaid_length changed rs added k =
    length-append (put_all changed rs) (numbered_from k added)
    ∙ ap (λ m. m + length (numbered_from k added)) (put_all_length changed rs)
    ∙ ap (λ m. length rs + m) (numbered_length k added)

-- ---- new registers

counts_from : (k : ℕ) (rs : List Register) → CountFrom k (numbered_from k rs)
counts_from k [] = tt
counts_from k (r ∷ rs) = (refl, counts_from (k + 1) rs)

numbered_at : (k place : ℕ) (rs : List Register) → slice_get (numbered_from k rs) place ≡ option_map (numbered (k + place)) (slice_get rs place)
numbered_at k place [] = refl
numbered_at k zero (r ∷ rs) = ap (λ m. Some (numbered m r)) (let e : k ≡ k + 0 = omega arith in e)
numbered_at k (suc place) (r ∷ rs) =
    numbered_at (k + 1) place rs
    ∙ ap (λ m. option_map (numbered m) (slice_get rs place)) (let e : k + 1 + place ≡ k + suc place = omega (arith, add-one place) in e)

pub found_added : (k n place : ℕ) (rs : List Register) → k + place ≡ n → register n (numbered_from k rs) ≡ option_map (numbered n) (slice_get rs place)
found_added k n place rs e =
    at_place k n place (numbered_from k rs) (counts_from k rs) e ∙ numbered_at k place rs ∙ ap (λ m. option_map (numbered m) (slice_get rs place)) e

pub none_added : (k n : ℕ) (rs : List Register) → n < k → register n (numbered_from k rs) ≡ None
none_added k n rs w = none_below k n (numbered_from k rs) (counts_from k rs) w

cond_number : (b : Bool) (m : ℕ) (r s : Register) → numbered m (cond b r s) ≡ cond b (numbered m r) (numbered m s)
cond_number true m r s = refl
cond_number false m r s = refl

change_numbered : (c : RegisterChange) (m : ℕ) (r : Register) → changed c (numbered m r) ≡ numbered m (changed c r)
change_numbered (Send desired since) m r = refl
change_numbered (Ack version) m r = refl
change_numbered (SeeAnswer answer) m r = sym (cond_number (is_newer r.answer answer.answer_version) m (record r { answer = Some answer }) r)
change_numbered (Note answer_version who rule since) m r = refl
change_numbered (Tell why) m r = refl
change_numbered (Hold hold) m r = refl
change_numbered (Release who) m r = refl

pub changed_added : (c : RegisterChange) (k n place : ℕ) (rs : List Register) (old : Register) → k + place ≡ n → old ≡ get_or rs place old
    → numbered_from k (set rs place (changed c old)) ≡ at_number n (changed c) (numbered_from k rs)
changed_added c k n place [] old e o = refl
changed_added c k n zero (r ∷ rs) old e o =
    let is : k ≡ n = omega (arith, e) in
    let same : nat_eq k n ≡ true = rw (← is) (nat_same k) in
    ap (λ x. x ∷ numbered_from (k + 1) rs) (ap (λ x. numbered k (changed c x)) o ∙ sym (change_numbered c k r))
    ∙ sym (pass (nat_eq k n) (changed c (numbered k r)) (numbered k r) (numbered_from (k + 1) rs) (at_number n (changed c) (numbered_from (k + 1) rs)) same)
changed_added c k n (suc place) (r ∷ rs) old e o =
    let w : n ≢ k = omega (arith, e) in
    let other : nat_eq k n ≡ false = not_same k n w in
    ap (λ l. numbered k r ∷ l) (changed_added c (k + 1) n place rs old (omega (arith, e)) o)
    ∙ sym (fail (nat_eq k n) (changed c (numbered k r)) (numbered k r) (numbered_from (k + 1) rs) (at_number n (changed c) (numbered_from (k + 1) rs)) other)

-- ---- a number that isn't there

absent_if : (b : Bool) (r : Register) (o : Option Register) → cond b (Some r) o ≡ None → (b ≡ false) × (o ≡ None)
absent_if true r o h = cc
absent_if false r o h = (refl, h)

unchanged_from : (n : ℕ) (f : Register → Register) (rs : List Register) → register n rs ≡ None → rs ≡ at_number n f rs
unchanged_from n f [] h = refl
unchanged_from n f (r ∷ rs) h =
    let a = absent_if (nat_eq r.number n) r (register n rs) h in
    ap (λ l. r ∷ l) (unchanged_from n f rs a.1)
    ∙ sym (fail (nat_eq r.number n) (f r) r rs (at_number n f rs) a.0)

pub below_added : (c : RegisterChange) (k n : ℕ) (rs : List Register) → n < k → numbered_from k rs ≡ at_number n (changed c) (numbered_from k rs)
below_added c k n rs w = unchanged_from n (changed c) (numbered_from k rs) (none_added k n rs w)

none_past : (k n : ℕ) (rs : List Register) → k + length rs ≤ n → register n (numbered_from k rs) ≡ None
none_past k n [] w = refl
none_past k n (r ∷ rs) w =
    let differs : n ≢ k = omega (arith, w, add-one (length rs)) in
    skip (nat_eq k n) (numbered k r) (register n (numbered_from (k + 1) rs)) None (not_same k n differs) (none_past (k + 1) n rs (omega (arith, w, add-one (length rs))))

pub past_added : (c : RegisterChange) (k n : ℕ) (rs : List Register) → k + length rs ≤ n → numbered_from k rs ≡ at_number n (changed c) (numbered_from k rs)
past_added c k n rs w = unchanged_from n (changed c) (numbered_from k rs) (none_past k n rs w)

-- ---- registers after the changes

pub change_put : (c : RegisterChange) (n : ℕ) (cs rs ys : List Register) (x : Register) → Some x ≡ register n (put_all cs rs)
    → put_all (cs ++ changed c x ∷ []) rs ++ ys ≡ at_number n (changed c) (put_all cs rs ++ ys)
change_put c n cs rs ys x h =
    let number : (changed c x).number ≡ n = number_stays c x ∙ found_number n (put_all cs rs) x (sym h) in
    ap (λ l. l ++ ys)
    (fold-append put rs cs (changed c x ∷ [])
    ∙ ap (λ m. at_number m (λ old. changed c x) (put_all cs rs)) number
    ∙ sym (change_as n (changed c) (put_all cs rs) x (sym h)))
    ∙ sym (change_front n (changed c) (put_all cs rs) ys x (sym h))

pub change_last : (c : RegisterChange) (n count : ℕ) (cs rs added more : List Register) → count ≡ length rs → None ≡ register n (put_all cs rs)
    → numbered_from (count + 1) more ≡ at_number n (changed c) (numbered_from (count + 1) added)
    → put_all cs rs ++ numbered_from (next_number rs) more ≡ at_number n (changed c) (put_all cs rs ++ numbered_from (next_number rs) added)
change_last c n count cs rs added more counts h e =
    let P : ℕ → Type 0 = λ m. numbered_from (m + 1) more ≡ at_number n (changed c) (numbered_from (m + 1) added) in
    ap (λ l. put_all cs rs ++ l) (subst P counts e)
    ∙ sym (change_behind n (changed c) (put_all cs rs) (numbered_from (next_number rs) added) (sym h))

numbered_append : (k : ℕ) (rs : List Register) (r : Register) → numbered_from k (rs ++ r ∷ []) ≡ numbered_from k rs ++ numbered (k + length rs) r ∷ []
numbered_append k [] r = ap (λ m. numbered m r ∷ []) (let e : k ≡ k + 0 = omega arith in e)
numbered_append k (x ∷ rs) r =
    ap (λ l. numbered k x ∷ l)
    (numbered_append (k + 1) rs r
    ∙ ap (λ m. numbered_from (k + 1) rs ++ numbered m r ∷ []) (let e : k + 1 + length rs ≡ k + suc (length rs) = omega (arith, add-one (length rs)) in e))

pub want_last : (dest : List ℕ) (q : Request) (since number : ℕ) (cs rs added : List Register) (r : Register) → number ≡ next_number (put_all cs rs ++ numbered_from (next_number rs) added) → r ≡ first_register number dest q since
    → put_all cs rs ++ numbered_from (next_number rs) (added ++ r ∷ []) ≡ with_call dest q since (put_all cs rs ++ numbered_from (next_number rs) added)
want_last dest q since number cs rs added r n e =
    let k = next_number rs in
    let counts = overlaid_length cs rs added k in
    let same : k + length added ≡ next_number (put_all cs rs ++ numbered_from k added) = omega (arith, counts) in
    ap (λ l. put_all cs rs ++ l)
    (numbered_append k added r
    ∙ ap (λ x. numbered_from k added ++ numbered (k + length added) x ∷ []) e
    ∙ ap (λ m. numbered_from k added ++ first_register m dest q since ∷ []) same)
    ∙ sym (append_assoc (put_all cs rs) (numbered_from k added) (first_register (next_number (put_all cs rs ++ numbered_from k added)) dest q since ∷ []))

-- one that is found among changed ones is found first
pub find_first : (n : ℕ) (rs ys : List Register) (r : Register) → Some r ≡ register n rs → register n (rs ++ ys) ≡ option_map (numbered n) (Some r)
find_first n rs ys r h =
    find-append (has_number n) rs ys
    ∙ ap (λ o. option_or o (register n ys)) (sym h)
    ∙ ap (λ x. Some x) (sym (numbered_same n r (found_number n rs r (sym h))))

pub find_last : (n count : ℕ) (cs rs added : List Register) (o : Option Register) → count ≡ length rs → None ≡ register n (put_all cs rs) → register n (numbered_from (count + 1) added) ≡ option_map (numbered n) o
    → register n (put_all cs rs ++ numbered_from (next_number rs) added) ≡ option_map (numbered n) o
find_last n count cs rs added o counts h e =
    let P : ℕ → Type 0 = λ m. register n (numbered_from (m + 1) added) ≡ option_map (numbered n) o in
    find-append (has_number n) (put_all cs rs) (numbered_from (next_number rs) added)
    ∙ ap (λ x. option_or x (register n (numbered_from (next_number rs) added))) (sym h)
    ∙ subst P counts e

-- ---- registers in place

set_from : (m place : ℕ) (rs : List Register) (r : Register) → CountFrom m rs → m + place ≡ r.number → set rs place r ≡ put rs r
set_from m place [] r h e = refl
set_from m zero (x ∷ rs) r h e =
    let is : m ≡ r.number = omega (arith, e) in
    let same : nat_eq x.number r.number ≡ true = rw (h.0, ← is) (nat_same m) in
    sym (pass (nat_eq x.number r.number) r x rs (put rs r) same)
set_from m (suc place) (x ∷ rs) r h e =
    let w : r.number ≢ m = omega (arith, e) in
    let other : nat_eq x.number r.number ≡ false = rw h.0 (not_same m r.number w) in
    ap (λ l. x ∷ l) (set_from (m + 1) place rs r h.1 (omega (arith, e)))
    ∙ sym (fail (nat_eq x.number r.number) r x rs (put rs r) other)

pub put_set : (rs : List Register) (place : ℕ) (r : Register) → IsNumbered rs → place + 1 ≡ r.number → set rs place r ≡ put rs r
put_set rs place r h e = set_from 1 place rs r h (omega (arith, e))

no_some : (o : Option Register) → is_some o ≡ false → o ≡ None
no_some None h = refl
no_some (Some r) h = cc

pub put_none : (rs l : List Register) (r : Register) (there : Bool) → l ≡ rs → there ≡ is_some (register r.number l) → there ≡ false → rs ≡ put rs r
put_none rs l r there same is absent =
    unchanged_from r.number (λ old. r) rs (no_some (register r.number rs) (sym (is ∙ ap (λ k. is_some (register r.number k)) same) ∙ absent))

counts_set : (m place : ℕ) (rs : List Register) (r : Register) → CountFrom m rs → m + place ≡ r.number → CountFrom m (set rs place r)
counts_set m place [] r h e = tt
counts_set m zero (x ∷ rs) r h e = (omega (arith, e), h.1)
counts_set m (suc place) (x ∷ rs) r h e = (h.0, counts_set (m + 1) place rs r h.1 (omega (arith, e)))

pub numbered_put : (rs : List Register) (place : ℕ) (r : Register) → IsNumbered rs → place + 1 ≡ r.number → IsNumbered (set rs place r)
numbered_put rs place r h e = counts_set 1 place rs r h (omega (arith, e))

pub add_next : (rs more : List Register) (r : Register) → (rs ++ numbered (next_number rs) r ∷ []) ++ numbered_from (next_number (rs ++ numbered (next_number rs) r ∷ [])) more ≡ rs ++ numbered_from (next_number rs) (r ∷ more)
add_next rs more r =
    let counts = length-append rs (numbered (next_number rs) r ∷ []) in
    let next : next_number (rs ++ numbered (next_number rs) r ∷ []) ≡ next_number rs + 1 = omega (arith, counts) in
    append_assoc rs (numbered (next_number rs) r ∷ []) (numbered_from (next_number (rs ++ numbered (next_number rs) r ∷ [])) more)
    ∙ ap (λ m. rs ++ numbered (next_number rs) r ∷ numbered_from m more) next

-- the new ones have the same numbers behind those that are changed
pub numbers_stay : (changed rs added : List Register) → put_all changed rs ++ numbered_from (next_number (put_all changed rs)) added ≡ put_all changed rs ++ numbered_from (next_number rs) added
numbers_stay changed rs added = ap (λ m. put_all changed rs ++ numbered_from (m + 1) added) (put_all_length changed rs)

pub add_more : (list l rest : List Register) (r : Register) (number : ℕ) → l ≡ list → number ≡ next_number l → 0 < length rest → r ≡ get_or rest 0 r
    → (list ++ numbered number r ∷ []) ++ numbered_from (next_number (list ++ numbered number r ∷ [])) (drop 1 rest) ≡ list ++ numbered_from (next_number list) rest
add_more list l rest r number same is w first =
    let next : next_number list ≡ number = sym (is ∙ ap (λ k. next_number k) same) in
    let P : ℕ → Type 0 = λ m. (list ++ numbered m r ∷ []) ++ numbered_from (next_number (list ++ numbered m r ∷ [])) (drop 1 rest) ≡ list ++ numbered_from (next_number list) rest in
    subst P next
    (add_next list (drop 1 rest) r
    ∙ ap (λ k. list ++ numbered_from (next_number list) k) (sym (drop-cons rest 0 r w ∙ ap (λ x. x ∷ drop 1 rest) (sym first))))
