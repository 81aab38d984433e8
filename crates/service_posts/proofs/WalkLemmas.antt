-- What a walk over the calls of entries finds is what stands next to the call.
use Rattle.std.proofs.Common.{◌≡◌, ◌∙◌, refl, sym, ap, ℕ, suc, ◌+◌, Bool, true, false, cond, not, List, [], ◌∷◌, ◌++◌, take, drop, Option, Some, None, fold, map, nat_eq, slice_get, arith}
use Rattle.std.proofs.lemmas.List.Concat.{flat_map-append}
use Rattle.std.proofs.lemmas.List.Sums.{fold-append}
use Rattle.std.specs.List.{after_first, before_first, last_or, position_or_len}
use Rattle.request_log.specs.Folded.{as_entry, whole}
use Rattle.request_log.specs.declared.entry.Entry.{Entry}
use Rattle.request_log.specs.declared.folded.Folded.{Folded}
use Rattle.call_registers.specs.declared.register.Register.{Register}
use Rattle.service_events.specs.Fits.{wanted_call}
use Rattle.service_events.specs.Posts.{calls_to, goes_to, next_of, previous_of}
use Rattle.service_events.specs.State.{Kept, or_else}
use Rattle.repair_queue.proofs.FoldLemmas.{fold_filter}
use Rattle.service_posts.specs.Walks.{calls_by, calls_in, pass, seen, seen_each}
use Rattle.service_posts.specs.declared.beside.Walk.{Walk}

abbrev walk : Option ℕ → Bool → Option ℕ → Walk
walk previous passed next = record { previous = previous; passed = passed; next = next }

abbrev pub start_walk : Walk
start_walk = walk None false None

-- ---- past the call: the first one is kept

kept_next : (n : Option ℕ) → or_else n None ≡ n
kept_next None = refl
kept_next (Some m) = refl

first_next : (n : Option ℕ) (m : ℕ) (o : Option ℕ) → or_else (or_else n (Some m)) o ≡ or_else n (Some m)
first_next None m o = refl
first_next (Some k) m o = refl

passed_on : (of : ℕ) (o n : Option ℕ) (ms : List ℕ) → fold (pass of) (walk o true n) ms ≡ walk o true (or_else n (slice_get ms 0))
passed_on of o n [] = ap (walk o true) (sym (kept_next n))
passed_on of o n (m ∷ ms) = passed_on of o (or_else n (Some m)) ms ∙ ap (walk o true) (first_next n m (slice_get ms 0))

-- ---- the first element that passes, or a later one

module _ {X : Type 0} (p : X → Bool) (x : X) (xs : List X) where
  place_here : p x ≡ true → position_or_len p (x ∷ xs) ≡ 0
  place_here is = ap (λ b. cond (not b) (1 + position_or_len p xs) 0) is

  place_later : p x ≡ false → position_or_len p (x ∷ xs) ≡ suc (position_or_len p xs)
  place_later other = ap (λ b. cond (not b) (1 + position_or_len p xs) 0) other ∙ omega arith

  pub before_here : p x ≡ true → before_first p (x ∷ xs) ≡ []
  before_here is = ap (λ n. take n (x ∷ xs)) (place_here is)

  pub before_later : p x ≡ false → before_first p (x ∷ xs) ≡ x ∷ before_first p xs
  before_later other = ap (λ n. take n (x ∷ xs)) (place_later other)

  pub after_here : p x ≡ true → after_first p (x ∷ xs) ≡ xs
  after_here is = ap (λ n. drop (n + 1) (x ∷ xs)) (place_here is)

  pub after_later : p x ≡ false → after_first p (x ∷ xs) ≡ after_first p xs
  after_later other =
      let on : position_or_len p (x ∷ xs) + 1 ≡ suc (position_or_len p xs + 1) = ap (λ n. n + 1) (place_later other) ∙ omega arith in
      ap (λ n. drop n (x ∷ xs)) on

-- ---- from the start

record Beside (of : ℕ) (o : Option ℕ) (ms : List ℕ) (w : Walk) : Type 0 where
  previous : w.previous ≡ last_or o (before_first (λ n. nat_eq n of) ms)
  next : w.next ≡ slice_get (after_first (λ n. nat_eq n of) ms) 0

one_more : (of : ℕ) (o : Option ℕ) (m : ℕ) (ms : List ℕ) (b : Bool) → nat_eq m of ≡ b
    → Beside of (Some m) ms (fold (pass of) (walk (Some m) false None) ms)
    → Beside of o (m ∷ ms) (fold (pass of) (cond b (walk o true None) (walk (Some m) false None)) ms)
one_more of o m ms true is rest =
    record {
      previous =
          ap (λ (w : Walk). w.previous) (passed_on of o None ms) ∙ sym (ap (last_or o) (before_here (λ n. nat_eq n of) m ms is));
      next =
          ap (λ (w : Walk). w.next) (passed_on of o None ms)
          ∙ sym (ap (λ (ns : List ℕ). slice_get ns 0) (after_here (λ n. nat_eq n of) m ms is));
    }
one_more of o m ms false other rest =
    record {
      previous = rest.previous ∙ sym (ap (last_or o) (before_later (λ n. nat_eq n of) m ms other));
      next = rest.next ∙ sym (ap (λ (ns : List ℕ). slice_get ns 0) (after_later (λ n. nat_eq n of) m ms other));
    }

walked : (of : ℕ) (o : Option ℕ) (ms : List ℕ) → Beside of o ms (fold (pass of) (walk o false None) ms)
walked of o [] = record { previous = refl; next = refl }
walked of o (m ∷ ms) = one_more of o m ms (nat_eq m of) refl (walked of (Some m) ms)

-- ---- over the entries

abbrev slots_of : Entry → List ℕ
slots_of e = e.slots

abbrev kept_slots : Folded → List ℕ
kept_slots f = f.slots

entries_walk : {X : Type 0} (slots : X → List ℕ) (registers : List Register) (dest : List ℕ) (of : ℕ) (w : Walk) (xs : List X)
    → fold (seen_each slots registers dest of) w xs ≡ fold (seen registers dest of) w (calls_by slots xs)
entries_walk slots registers dest of w [] = refl
entries_walk slots registers dest of w (x ∷ xs) =
    entries_walk slots registers dest of (seen_each slots registers dest of w x) xs
    ∙ sym (fold-append (seen registers dest of) w (slots x) (calls_by slots xs))

-- the calls of folded entries
pub calls_past : (fs : List Folded) → calls_by kept_slots fs ≡ calls_in (map as_entry fs)
calls_past [] = refl
calls_past (f ∷ fs) = ap (λ l. f.slots ++ l) (calls_past fs)

-- come first
pub calls_whole : (fs : List Folded) (es : List Entry) → calls_in (whole fs es) ≡ calls_by kept_slots fs ++ calls_in es
calls_whole fs es = flat_map-append slots_of (map as_entry fs) es ∙ ap (λ l. l ++ calls_in es) (sym (calls_past fs))

pub whole_same : {fs gs : List Folded} {es ds : List Entry} → fs ≡ gs → es ≡ ds → whole fs es ≡ whole gs ds
whole_same {gs = gs} {es = es} first rest = ap (λ l. whole l es) first ∙ ap (whole gs) rest

pub log_walk : (registers : List Register) (dest : List ℕ) (of : ℕ) (fs : List Folded) (es : List Entry) (past w : Walk)
    → past ≡ fold (seen_each kept_slots registers dest of) start_walk fs → w ≡ fold (seen_each slots_of registers dest of) past es
    → w ≡ fold (seen registers dest of) start_walk (calls_in (whole fs es))
log_walk registers dest of fs es past w first rest =
    let all = seen registers dest of in
    rest
    ∙ entries_walk slots_of registers dest of past es
    ∙ ap (λ x. fold all x (calls_in es)) (first ∙ entries_walk kept_slots registers dest of start_walk fs)
    ∙ sym (ap (fold all start_walk) (calls_whole fs es) ∙ fold-append all start_walk (calls_by kept_slots fs) (calls_in es))

calls_walk : (s : Kept) (dest : List ℕ) (of : ℕ) (w : Walk) → fold (seen s.registers dest of) w (calls_in s.entries) ≡ fold (pass of) w (calls_to dest s)
calls_walk s dest of w = fold_filter (λ n. goes_to dest (wanted_call s.registers n)) (pass of) w (calls_in s.entries)

pub next_is : (s : Kept) (dest : List ℕ) (of : ℕ) (w : Walk) → w ≡ fold (seen s.registers dest of) start_walk (calls_in s.entries)
    → w.next ≡ next_of of (calls_to dest s)
next_is s dest of w e =
    ap (λ (w : Walk). w.next) (e ∙ calls_walk s dest of start_walk) ∙ (walked of None (calls_to dest s)).next

pub previous_is : (s : Kept) (dest : List ℕ) (of : ℕ) (w : Walk) → w ≡ fold (seen s.registers dest of) start_walk (calls_in s.entries)
    → w.previous ≡ previous_of of (calls_to dest s)
previous_is s dest of w e =
    ap (λ (w : Walk). w.previous) (e ∙ calls_walk s dest of start_walk) ∙ (walked of None (calls_to dest s)).previous
