-- A run makes the calls of a run with fewer answers and goes on, and it makes 16 at most: so a flight whose calls follow its runs is done in the end.
use Rattle.std.proofs.Common.{◌≡◌, ℕ, zero, suc, ◌+◌, ◌<◌, ◌≤◌, Bool, true, List, [], ◌∷◌, ◌++◌, length, take, drop, set, get_or, Option, Some, None, option_map, slice_get, refl, sym, ap, ◌∙◌, subst, inl, inr, arith, append_assoc, append-nil, length-append, length-set}
use Rattle.std.proofs.lemmas.Bool.{cases_Bool}
use Rattle.std.proofs.lemmas.List.{length-take-le, take-append-drop, take_all, take-take, take-append-le, take_more, take_more_set}
use Rattle.std.proofs.lemmas.Option.{get_or_from_slice_get}
use Rattle.lang_base.specs.Equal.{equal}
use Rattle.lang_base.proofs.EqualLemmas.{equal-true, equal-same}
use Rattle.lang_core.specs.contracts.trace.CallMade as call_made
use Rattle.lang_core.specs.declared.cells.Cell.{Cell}
use Rattle.lang_core.specs.declared.inputs.Inputs.{Inputs}
use Rattle.lang_core.specs.declared.request.Request.{Request}
use Rattle.lang_core.specs.declared.request.Response.{Response}
use Rattle.lang_core.specs.declared.setting.Setting.{Setting}
use Rattle.lang_core.specs.declared.trace.CallMade.{CallMade}
use Rattle.lang_core.specs.declared.trace.Trace.{Trace}
use Rattle.handler_run.specs.Handlers.{run_of}
use Rattle.handler_run.specs.Laws.{calls_of}
use Rattle.handler_run.specs.declared.state.Ran.{Ran}
use Rattle.handler_run.specs.declared.state.Ran.TheVariants.{Done, Wants}
use Rattle.local_repair.proofs.HandlerLemmas.{IsSteady, handler}
use Rattle.flights.specs.Moves.{calls_in, first_other}

-- ---- runs with more answers

-- a run takes its answers one by one, and one that ended ends so with more of them
pub record IsGrowing (run : List Response → Ran) : Type 0 where
  pub steady : IsSteady run
  pub stays : (xs ys : List Response) (t : Trace) → run xs ≡ Done t → run (xs ++ ys) ≡ Done t

pub growing : (setting : Setting) (q : Request) (i : Inputs) (rows : List Cell) → IsGrowing (λ xs. run_of setting q i xs rows)
growing setting q i rows = record {
  steady = (handler setting).steady q i rows;
  stays = λ xs ys t done.
      let took = ((handler setting).steady q i rows).takes xs t done in
      ap (λ zs. run_of setting q i zs rows) (ap (λ zs. zs ++ ys) took.1 ∙ append_assoc t.answers took.0 ys)
      ∙ (handler setting).same q i xs (took.0 ++ ys) rows rows t done ((handler setting).reads q i xs rows t done);
}

-- a list goes on from another one
pub record GoesOn (xs ys : List CallMade) : Type 0 where
  pub rest : List CallMade
  pub is : ys ≡ xs ++ rest

calls_go_on : (ran : Ran) → GoesOn (calls_of ran) (calls_in ran)
calls_go_on (Done t) = record { rest = []; is = sym (append-nil t.calls) }
calls_go_on (Wants slot calls call) = record { rest = call ∷ []; is = refl }

module _ (run : List Response → Ran) (g : IsGrowing run) where
  one_more : (xs : List Response) (x : Response) (ran : Ran) → run xs ≡ ran → GoesOn (calls_in ran) (calls_in (run (xs ++ x ∷ [])))
  one_more xs x (Done t) is = record { rest = []; is = ap calls_in (g.stays xs (x ∷ []) t is) ∙ sym (append-nil t.calls) }
  one_more xs x (Wants slot calls call) is =
      let later = calls_go_on (run (xs ++ x ∷ [])) in
      record { rest = later.rest; is = later.is ∙ ap (λ cs. cs ++ later.rest) ((g.steady).goes_on xs slot calls call x is) }

  pub goes_on_calls : (ys xs : List Response) → GoesOn (calls_in (run xs)) (calls_in (run (xs ++ ys)))
  goes_on_calls [] xs = record { rest = []; is = ap (λ zs. calls_in (run zs)) (append-nil xs) ∙ sym (append-nil (calls_in (run xs))) }
  goes_on_calls (y ∷ ys) xs =
      let first = one_more xs y (run xs) refl in
      let later = goes_on_calls ys (xs ++ y ∷ []) in
      record {
        rest = first.rest ++ later.rest;
        is = ap (λ zs. calls_in (run zs)) (sym (append_assoc xs (y ∷ []) ys)) ∙ later.is ∙ ap (λ cs. cs ++ later.rest) first.is
            ∙ append_assoc (calls_in (run xs)) first.rest later.rest;
      }

  few_step : (xs : List Response) (x : Response) (ran : Ran) → run xs ≡ ran → length (calls_of ran) ≤ 16 → length (calls_of (run (xs ++ x ∷ []))) ≤ 16
  few_step xs x (Done t) is h = (let same = ap (λ r. length (calls_of r)) (g.stays xs (x ∷ []) t is) in omega (arith, same, h))
  few_step xs x (Wants slot calls call) is h =
      let asks = (g.steady).asks xs slot calls call is in
      let more = ap length ((g.steady).goes_on xs slot calls call x is) in
      let one = length-append calls (call ∷ []) in
      let at = asks.0 in
      let many = asks.1 in
      let few = asks.2 in
      omega (arith, more, one, at, many, few)

  few_from : (ys xs : List Response) → length (calls_of (run xs)) ≤ 16 → length (calls_of (run (xs ++ ys))) ≤ 16
  few_from [] xs h = subst (λ zs. length (calls_of (run zs)) ≤ 16) (sym (append-nil xs)) h
  few_from (y ∷ ys) xs h =
      subst (λ zs. length (calls_of (run zs)) ≤ 16) (append_assoc xs (y ∷ []) ys) (few_from ys (xs ++ y ∷ []) (few_step xs y (run xs) refl h))

  few_answered : (xs : List Response) → length (calls_of (run xs)) ≤ 16
  few_answered xs = few_from xs [] (let none = ap length (g.steady).starts in omega (arith, none))

  few_in : (xs : List Response) (ran : Ran) → run xs ≡ ran → length (calls_of ran) ≤ 16 → length (calls_in ran) ≤ 16
  few_in xs (Done t) is h = h
  few_in xs (Wants slot calls call) is h =
      let asks = (g.steady).asks xs slot calls call is in
      let one = length-append calls (call ∷ []) in
      let at = asks.0 in
      let many = asks.1 in
      let few = asks.2 in
      omega (arith, one, at, many, few)

  -- a run makes 16 calls at most
  pub few_calls : (xs : List Response) → length (calls_in (run xs)) ≤ 16
  few_calls xs = few_in xs (run xs) refl (few_answered xs)

-- ---- the first place at which calls differ

same_call_at : CallMade → CallMade → Bool
same_call_at o n = equal call_made.the_row.coded o n

-- up to the first other call both are the same
pub record FirstOther (os ns : List CallMade) (k : ℕ) : Type 0 where
  pub old : k < length os
  pub new : k < length ns
  pub before : take k os ≡ take k ns

suc_of : (r : Option ℕ) (k : ℕ) → option_map suc r ≡ Some k → (m : ℕ) × (r ≡ Some m) × (k ≡ suc m)
suc_of None k e = cc
suc_of (Some m) k e = (let is : suc m ≡ k = cc in (m, refl, sym is))

none_of : (r : Option ℕ) → option_map suc r ≡ None → r ≡ None
none_of None e = refl
none_of (Some m) e = cc

pub first_is : (os ns : List CallMade) (k : ℕ) → first_other os ns ≡ Some k → FirstOther os ns k
first_is [] ns k e = cc
first_is (o ∷ os) [] k e = cc
first_is (o ∷ os) (n ∷ ns) k e = elim (cases_Bool (equal call_made.the_row.coded o n)) [
  | inl same ↦ (let more : option_map suc (first_other os ns) ≡ Some k = rw same at e in
      let at = suc_of (first_other os ns) k more in
      let later = first_is os ns at.0 at.1 in
      let is : o ≡ n = equal-true call_made.the_row.coded o n same in
      let place = at.2 in
      let old = later.old in
      let new = later.new in
      record {
        old = omega (arith, place, old);
        new = omega (arith, place, new);
        before = subst (λ m. take m (o ∷ os) ≡ take m (n ∷ ns)) (sym place) (ap (λ c. c ∷ take at.0 os) is ∙ ap (λ cs. n ∷ cs) later.before);
      })
  | inr other ↦ (let here : Some 0 ≡ Some k = rw other at e in
      let is : 0 ≡ k = cc in
      record { old = omega (arith, is); new = omega (arith, is); before = subst (λ m. take m (o ∷ os) ≡ take m (n ∷ ns)) is refl })
]

no_zero : (os ns : List CallMade) (o : Option ℕ) → o ≡ Some 0 → o ≡ None → take (length os) ns ≡ os
no_zero os ns o first none = cc

pub none_other : (os ns : List CallMade) → first_other os ns ≡ None → length os ≤ length ns → take (length os) ns ≡ os
none_other [] ns e l = refl
none_other (o ∷ os) [] e l = absurd (omega (arith, l))
none_other (o ∷ os) (n ∷ ns) e l = elim (cases_Bool (equal call_made.the_row.coded o n)) [
  | inl same ↦ (let more : option_map suc (first_other os ns) ≡ None = rw same at e in
      let later = none_other os ns (none_of (first_other os ns) more) (omega (arith, l)) in
      let is : n ≡ o = sym (equal-true call_made.the_row.coded o n same) in
      ap (λ c. c ∷ take (length os) ns) is ∙ ap (λ cs. o ∷ cs) later)
  | inr other ↦ no_zero (o ∷ os) (n ∷ ns) (first_other (o ∷ os) (n ∷ ns)) (rw other refl) e
]

head_of : (o n : CallMade) (os ns : List CallMade) → o ∷ os ≡ n ∷ ns → o ≡ n
head_of o n os ns e = cc

tail_of : (o n : CallMade) (os ns : List CallMade) → o ∷ os ≡ n ∷ ns → os ≡ ns
tail_of o n os ns e = cc

-- no call before that place is another
pub not_before : (m : ℕ) (os ns : List CallMade) (k : ℕ) → take m os ≡ take m ns → m ≤ length os → m ≤ length ns → first_other os ns ≡ Some k → m ≤ k
not_before zero os ns k same old new e = omega arith
not_before (suc m) [] ns k same old new e = absurd (omega (arith, old))
not_before (suc m) (o ∷ os) [] k same old new e = absurd (omega (arith, new))
not_before (suc m) (o ∷ os) (n ∷ ns) k same old new e =
    let is : o ≡ n = head_of o n (take m os) (take m ns) same in
    let equal_is : equal call_made.the_row.coded o n ≡ true = equal-same call_made.the_row.coded o n is in
    let more : option_map suc (first_other os ns) ≡ Some k = rw equal_is at e in
    let at = suc_of (first_other os ns) k more in
    let later = not_before m os ns at.0 (tail_of o n (take m os) (take m ns) same) (omega (arith, old)) (omega (arith, new)) at.1 in
    let place = at.2 in
    omega (arith, place, later)

-- ---- a flight's calls follow its runs up to a place

pub record Follows (run : List Response → Ran) (k : ℕ) (xs : List Response) (calls : List CallMade) : Type 0 where
  pub many : length xs ≡ length calls
  pub within : k ≤ length calls
  pub there : k ≤ length (calls_in (run xs))
  pub same : take k calls ≡ take k (calls_in (run xs))

pub follows_none : (run : List Response → Ran) (xs : List Response) (calls : List CallMade) → length xs ≡ length calls → Follows run 0 xs calls
follows_none run xs calls many = record { many = many; within = omega arith; there = omega arith; same = refl }

less : (m k : ℕ) (os ns : List CallMade) → m ≤ k → take k os ≡ take k ns → take m os ≡ take m ns
less m k os ns l same = sym (take-take m k os l) ∙ ap (take m) same ∙ take-take m k ns l

fewer : (run : List Response → Ran) (m k : ℕ) (xs : List Response) (calls : List CallMade) → m ≤ k → Follows run k xs calls → Follows run m xs calls
fewer run m k xs calls l f = record {
  many = f.many;
  within = (let w = f.within in omega (arith, w, l));
  there = (let w = f.there in omega (arith, w, l));
  same = less m k calls (calls_in (run xs)) l f.same;
}

module _ (run : List Response → Ran) (g : IsGrowing run) where
  -- the next call that a run wants is named
  pub follows_name : (k : ℕ) (xs : List Response) (calls : List CallMade) (slot : ℕ) (made : List CallMade) (call : CallMade) (x : Response) → run xs ≡ Wants slot made call
      → first_other calls (calls_in (run xs)) ≡ None → Follows run k xs calls → Follows run (k + 1) (xs ++ x ∷ []) (calls ++ call ∷ [])
  follows_name k xs calls slot made call x is none f =
      let asks = (g.steady).asks xs slot made call is in
      let as_many : length calls ≡ length made = sym f.many ∙ sym asks.1 in
      let in_run : calls_in (run xs) ≡ made ++ call ∷ [] = ap calls_in is in
      let one = length-append made (call ∷ []) in
      let room : length calls ≤ length (made ++ call ∷ []) = omega (arith, as_many, one) in
      let whole : take (length calls) (made ++ call ∷ []) ≡ calls = none_other calls (made ++ call ∷ []) (ap (first_other calls) (sym in_run) ∙ none) room in
      let front : take (length calls) (made ++ call ∷ []) ≡ made = take-append-le (length calls) made (call ∷ []) (omega (arith, as_many)) ∙ take_all (length calls) made (omega (arith, as_many)) in
      let own : calls ++ call ∷ [] ≡ calls_in (run xs) = ap (λ cs. cs ++ call ∷ []) (sym whole ∙ front) ∙ sym in_run in
      let later = goes_on_calls run g (x ∷ []) xs in
      let w = f.within in
      let own_many = length-append calls (call ∷ []) in
      let same_many = ap length own in
      let longer = ap length later.is ∙ length-append (calls_in (run xs)) later.rest in
      let enough : k + 1 ≤ length (calls_in (run xs)) = omega (arith, w, own_many, same_many) in
      record {
        many = length-append xs (x ∷ []) ∙ ap (λ n. n + 1) f.many ∙ sym own_many;
        within = omega (arith, w, own_many);
        there = omega (arith, enough, longer);
        same = ap (take (k + 1)) own ∙ sym (ap (take (k + 1)) later.is ∙ take-append-le (k + 1) (calls_in (run xs)) later.rest enough);
      }

  -- with the same answers before a place, the run makes the same calls up to it
  shares : (j : ℕ) (xs xs' zs : List Response) (ran : Ran) → run zs ≡ ran → length zs ≡ j → (rs rs' : List Response) → xs ≡ zs ++ rs → xs' ≡ zs ++ rs' → j < length (calls_in (run xs))
      → (take (j + 1) (calls_in (run xs')) ≡ take (j + 1) (calls_in (run xs))) × (j < length (calls_in (run xs')))
  shares j xs xs' zs (Done t) is many rs rs' whole whole' room =
      let first : run xs ≡ Done t = ap run whole ∙ g.stays zs rs t is in
      let second : run xs' ≡ Done t = ap run whole' ∙ g.stays zs rs' t is in
      let same : calls_in (run xs') ≡ calls_in (run xs) = ap calls_in (second ∙ sym first) in
      (ap (take (j + 1)) same, (let count = ap length same in omega (arith, count, room)))
  shares j xs xs' zs (Wants slot made call) is many rs rs' whole whole' room =
      let asks = (g.steady).asks zs slot made call is in
      let in_run : calls_in (run zs) ≡ made ++ call ∷ [] = ap calls_in is in
      let count : length (calls_in (run zs)) ≡ j + 1 = ap length in_run ∙ length-append made (call ∷ []) ∙ ap (λ n. n + 1) (asks.1 ∙ many) in
      let first = goes_on_calls run g rs zs in
      let second = goes_on_calls run g rs' zs in
      let calls : calls_in (run xs) ≡ calls_in (run zs) ++ first.rest = ap (λ ys. calls_in (run ys)) whole ∙ first.is in
      let calls' : calls_in (run xs') ≡ calls_in (run zs) ++ second.rest = ap (λ ys. calls_in (run ys)) whole' ∙ second.is in
      let longer = ap length calls' ∙ length-append (calls_in (run zs)) second.rest in (
        ap (take (j + 1)) calls' ∙ take-append-le (j + 1) (calls_in (run zs)) second.rest (omega (arith, count))
            ∙ sym (ap (take (j + 1)) calls ∙ take-append-le (j + 1) (calls_in (run zs)) first.rest (omega (arith, count))),
        omega (arith, count, longer),
      )

  -- the first other call is put in place of the flight's
  pub follows_change : (k : ℕ) (xs xs' : List Response) (calls : List CallMade) (j : ℕ) (call : CallMade) → first_other calls (calls_in (run xs)) ≡ Some j
      → slice_get (calls_in (run xs)) j ≡ Some call → length xs' ≡ length xs → take j xs' ≡ take j xs → Follows run k xs calls → Follows run (k + 1) xs' (set calls j call)
  follows_change k xs xs' calls j call first at long answers f =
      let other = first_is calls (calls_in (run xs)) j first in
      let old = other.old in
      let new = other.new in
      let many = f.many in
      let before : k ≤ j = not_before k calls (calls_in (run xs)) j f.same f.within f.there first in
      let zs = take j xs in
      let shared = shares j xs xs' zs (run zs) refl (length-take-le j xs (omega (arith, many, old))) (drop j xs) (drop j xs') (sym (take-append-drop j xs))
      (sym (take-append-drop j xs') ∙ ap (λ ys. ys ++ drop j xs') answers) new in
      let got : get_or (calls_in (run xs)) j call ≡ call = get_or_from_slice_get (calls_in (run xs)) j call call at in
      let mine : take (j + 1) (set calls j call) ≡ take j (calls_in (run xs)) ++ call ∷ [] = take_more_set calls j call old ∙ ap (λ cs. cs ++ call ∷ []) other.before in
      let theirs : take (j + 1) (calls_in (run xs)) ≡ take j (calls_in (run xs)) ++ call ∷ [] = take_more (calls_in (run xs)) j call new ∙ ap (λ c. take j (calls_in (run xs)) ++ c ∷ []) got in
      let size = length-set calls j call in
      let room = shared.1 in
      fewer run (k + 1) (j + 1) xs' (set calls j call) (omega (arith, before))
      (record {
        many = long ∙ many ∙ sym size;
        within = omega (arith, size, old);
        there = omega (arith, room);
        same = mine ∙ sym theirs ∙ sym shared.0;
      })
