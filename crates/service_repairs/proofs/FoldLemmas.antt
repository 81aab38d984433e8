-- A fold in code is the fold of the service.
use Rattle.std.proofs.Common.{◌≡◌, ℕ, zero, suc, ◌+◌, ◌<◌, ◌≤◌, Bool, true, false, not, ◌&&◌, ◌||◌, cond, List, [], ◌∷◌, ◌++◌, Option, Some, None, Result, IsSome, IsSomeAnd, All, OnOk, drop, filter_map, find, length, map, nat_eq, nat_lt, option_map, position, take, refl, sym, ap, ◌∙◌, subst, inl, inr, arith, eq-eqb, length-append, drop-drop, take-append-drop}
use Rattle.std.specs.List.{list_all, position_or_len}
use Rattle.std.proofs.Math.Seq.{take-add, take-append_seam}
use Rattle.std.proofs.lemmas.Bool.{cases_Bool, ltb-false, ltb-true}
use Rattle.std.proofs.lemmas.List.{length-map, length-take, length-take-le}
use Rattle.std.proofs.lemmas.List.Elements.{All-cons, All-nil}
use Rattle.std.proofs.lemmas.Result.{on_ok_weaker}
use Rattle.lang_core.specs.declared.cells.Cell.{Cell}
use Rattle.request_log.specs.Entries.{has_id, IsDistinct}
use Rattle.request_log.specs.Folded.{as_entry, bare, folded_as, whole}
use Rattle.request_log.specs.declared.entry.Entry.{Entry}
use Rattle.request_log.specs.declared.entry.Made.{Made}
use Rattle.request_log.specs.declared.folded.Folded.{Folded}
use Rattle.request_log.proofs.FoldedLemmas.{kept_are_bare, whole_folded}
use Rattle.local_repair.specs.Current.{Consumed, IsCurrentRecord, after_entry, rows_after}
use Rattle.local_repair.specs.Repairs.{IsFolded, KeptRepairer, stale_id}
use Rattle.local_repair.specs.Tests.{is_current}
use Rattle.journal_rows.specs.declared.orders.Command.TheVariants.{Fold}
use Rattle.service_events.specs.Orders.{first_unquiet, folded_on, is_due, is_quiet_call, is_quiet_entry, to_fold, unless_quiet}
use Rattle.service_events.specs.State.{Kept, answers, base, folded, unfolded}
use Rattle.service_events.proofs.FoldLaw.{AreQuietEntries, quiet_are}
use Rattle.service_events.proofs.OrderLaw.{quiet_by}
use Rattle.service_events.proofs.SearchLemmas.{none_first}
use Rattle.service_parts.specs.Parts.{kept, whole_log}
use Rattle.service_parts.specs.declared.parts.Parts.{Parts}
use Rattle.service_parts.proofs.WholeLemmas.{folded_kept, unfolded_kept}
use Rattle.service_repairs.specs.Folding.{first_unquiet_among, is_settled, is_stale_one}

-- ---- how many a fold folds

past_all : (n l : ℕ) (b : Bool) → nat_lt n l ≡ b → None ≡ cond b (Some n) None → l ≤ n
past_all n l true is none = cc
past_all n l false is none = ltb-false n l is

stands : (n l k : ℕ) (b : Bool) → nat_lt n l ≡ b → Some k ≡ cond b (Some n) None → (k ≡ n) × (n < l)
stands n l k true is at = (cc, ltb-true n l is)
stands n l k false is at = cc

-- so many there are up to an entry among the others, wherever these are kept
counted : (p : Parts) (id : ℕ) → length (take (position_or_len (has_id id) p.repairer.entries + 1) p.repairer.entries) ≡ length (to_fold id (kept p))
counted p id = ap (λ (l : List Entry). length (take (position_or_len (has_id id) l + 1) l)) (sym (unfolded_kept p))

pub folds_all : (p : Parts) (id : ℕ) → None ≡ position (has_id id) p.repairer.entries → length p.repairer.entries ≡ length (to_fold id (kept p))
folds_all p id none =
    let es = p.repairer.entries in
    let n = position_or_len (has_id id) p.repairer.entries in
    let most : length es ≤ n = past_all n (length es) (nat_lt n (length es)) refl none in
    let taken = length-take (n + 1) es in
    let all : length es ≡ length (take (n + 1) es) = omega (arith, most, taken) in
    all ∙ counted p id

pub folds_some : (p : Parts) (id place : ℕ) → Some place ≡ position (has_id id) p.repairer.entries → place + 1 ≡ length (to_fold id (kept p))
folds_some p id place at =
    let es = p.repairer.entries in
    let n = position_or_len (has_id id) p.repairer.entries in
    let there = stands n (length es) place (nat_lt n (length es)) refl at in
    let same = there.0 in
    let less = there.1 in
    let taken = length-take (n + 1) es in
    let many : place + 1 ≡ length (take (n + 1) es) = omega (arith, same, less, taken) in
    many ∙ counted p id

take_taken : (k : ℕ) (es : List Entry) → take (length (take k es)) es ≡ take k es
take_taken k es = ap (take (length (take k es))) (sym (take-append-drop k es)) ∙ take-append_seam (take k es) (drop k es)

-- and these are they
folds_these : (p : Parts) (id n : ℕ) → n ≡ length (to_fold id (kept p)) → take n p.repairer.entries ≡ to_fold id (kept p)
folds_these p id n is =
    ap (λ (k : ℕ). take k p.repairer.entries) is
    ∙ ap (take (length (to_fold id (kept p)))) (sym (unfolded_kept p))
    ∙ take_taken (position_or_len (has_id id) (unfolded (kept p)) + 1) (unfolded (kept p))

-- ---- a fold

ran_count : (es : List Entry) → All (λ (e : Entry). IsSome e.made) es → length (filter_map folded_as es) ≡ length es
ran_count es ran = sym (length-map (filter_map folded_as es) as_entry) ∙ ap length (kept_are_bare es ran) ∙ length-map es bare

-- so many of the first entries behind the folded ones are folded, each of which ran
folds_on : (p : Parts) (now : KeptRepairer) (n : ℕ) → n ≤ length p.repairer.entries → All (λ (e : Entry). IsSome e.made) (take n p.repairer.entries) → IsFolded n p.repairer now
    → record (kept p) { entries = whole_log now; horizon = length now.folded; base = now.base } ≡ folded_on n (kept p)
folds_on p now n few ran is =
    let s : Kept = kept p in
    let fs = p.repairer.folded in
    let es = p.repairer.entries in
    let left : whole_log now ≡ whole (fs ++ filter_map folded_as (take n es)) (drop n es) = (λ i. whole (is.folded i) (is.entries i)) in
    let split : map bare (map as_entry fs ++ take n es) ++ drop n es ≡ map bare (take (length fs + n) s.entries) ++ drop (length fs + n) s.entries =
    (λ i. map bare (front p n i) ++ behind p n i) in
    let entries : whole_log now ≡ map bare (take (length fs + n) s.entries) ++ drop (length fs + n) s.entries = left ∙ whole_folded fs es n ran ∙ split in
    let many : length now.folded ≡ length fs + n =
    ap (λ (l : List Folded). length l) is.folded ∙ length-append fs (filter_map folded_as (take n es))
    ∙ ap (λ (k : ℕ). length fs + k) (ran_count (take n es) ran ∙ length-take-le n es few) in
    let rows : now.base ≡ rows_after (base s) (take n (unfolded s)) = is.base ∙ ap (λ (l : List Entry). rows_after (base s) (take n l)) (sym (unfolded_kept p)) in
    (λ i. record s { entries = entries i; horizon = many i; base = rows i })
  where
    front : (p : Parts) (n : ℕ) → map as_entry p.repairer.folded ++ take n p.repairer.entries ≡ take (length p.repairer.folded + n) (kept p).entries
    front p n =
        let both : folded (kept p) ++ take n (unfolded (kept p)) ≡ map as_entry p.repairer.folded ++ take n p.repairer.entries =
        (λ i. folded_kept p i ++ take n (unfolded_kept p i)) in
        sym (take-add (length p.repairer.folded) n (kept p).entries ∙ both)

    behind : (p : Parts) (n : ℕ) → drop n p.repairer.entries ≡ drop (length p.repairer.folded + n) (kept p).entries
    behind p n = ap (drop n) (sym (unfolded_kept p)) ∙ drop-drop n (length p.repairer.folded) (kept p).entries

abbrev HasRun : Entry → Type 0
HasRun e = IsSome e.made

has_record : (consumed : Consumed) (rows : List Cell) (e : Entry) (o : Option Made) → IsSomeAnd o (IsCurrentRecord consumed rows e) → IsSome o
has_record consumed rows e None h = absurd h
has_record consumed rows e (Some m) h = refl

have_run : (s : Kept) (es : List Entry) (rows : List Cell) → AreQuietEntries s rows es → All HasRun es
have_run s [] rows h = All-nil HasRun
have_run s (e ∷ es) rows h = All-cons HasRun e es (has_record (answers s) rows e e.made h.0.current) (have_run s es (after_entry rows e) h.1)

-- what is quiet ran
pub quiet_ran : (p : Parts) (id n : ℕ) → unless_quiet (kept p) (Fold id) ≡ None → n ≡ length (to_fold id (kept p)) → All (λ (e : Entry). IsSome e.made) (take n p.repairer.entries)
quiet_ran p id n quiet is =
    let s : Kept = kept p in
    let none = quiet_by (first_unquiet s (base s) (to_fold id s)) quiet in
    let A : List Entry → Type 0 = λ es. All HasRun es in
    subst A (sym (folds_these p id n is)) (have_run s (to_fold id s) (base s) (quiet_are s (to_fold id s) (base s) none))

pub fold_is : {X E : Type 0} (p : Parts) (now : KeptRepairer) (id n : ℕ) (r : Result X E) → unless_quiet (kept p) (Fold id) ≡ None → n ≡ length (to_fold id (kept p))
    → n ≤ length p.repairer.entries → OnOk r (IsFolded n p.repairer now)
    → OnOk r (record (kept p) { entries = whole_log now; horizon = length now.folded; base = now.base } ≡ folded_on (length (to_fold id (kept p))) (kept p))
fold_is p now id n r quiet is few done =
    on_ok_weaker r (λ (folds : IsFolded n p.repairer now). folds_on p now n few (quiet_ran p id n quiet is) folds ∙ ap (λ (k : ℕ). folded_on k (kept p)) is) done

-- ---- the first that isn't quiet

found_or : {X Y : Type 0} (f : X → Y) (x : X) (b : Bool) (o : Option X) (r : Option Y) → option_map f o ≡ r → option_map f (cond b (Some x) o) ≡ cond b (Some (f x)) r
found_or f x true o r later = refl
found_or f x false o r later = later

-- what is found first of those that pass a test
pub unquiet_found : (s : Kept) (stale : Option ℕ) (es : List Entry) → option_map (λ (e : Entry). e.id) (find (λ e. is_stale_one stale e || not (is_settled s e)) es) ≡ first_unquiet_among s stale es
unquiet_found s stale [] = refl
unquiet_found s stale (e ∷ es) =
    found_or (λ (x : Entry). x.id) e (is_stale_one stale e || not (is_settled s e)) (find (λ x. is_stale_one stale x || not (is_settled s x)) es) (first_unquiet_among s stale es) (unquiet_found s stale es)

-- the first stale one of these has another number than one that is new to them
is_another : (consumed : Consumed) (rows : List Cell) (us : List Entry) (e : Entry) → find (has_id e.id) us ≡ None → is_stale_one (stale_id consumed rows us) e ≡ false
is_another consumed rows [] e none = refl
is_another consumed rows (u ∷ us) e none =
    let parts = none_first (nat_eq u.id e.id) u (find (has_id e.id) us) none in
    elim (cases_Bool (is_current consumed rows u)) [
      | inl is ↦ rw is (is_another consumed (after_entry rows u) us e parts.1)
      | inr isnt ↦ rw isnt parts.0
    ]

-- one that isn't stale is quiet where it is settled
same_test : (due calls : Bool) (here later : Option ℕ) → cond (false || not (not due && calls)) here later ≡ cond ((true && not due) && calls) later here
same_test true calls here later = refl
same_test false true here later = refl
same_test false false here later = refl

-- one of these, whether another one is the stale one or this one
one_current : (s : Kept) (rows : List Cell) (e : Entry) (stale found first : Option ℕ) → is_current (answers s) rows e ≡ true → is_stale_one stale e ≡ false → found ≡ first
    → cond (is_stale_one stale e || not (is_settled s e)) (Some e.id) found ≡ cond (is_quiet_entry s rows e) first (Some e.id)
one_current s rows e stale found first current other later =
    rw (current, other) (same_test (is_due s e) (list_all (is_quiet_call s) e.slots) (Some e.id) found
    ∙ ap (λ (o : Option ℕ). cond ((true && not (is_due s e)) && list_all (is_quiet_call s) e.slots) o (Some e.id)) later)

one_stale : (s : Kept) (rows : List Cell) (e : Entry) (stale found first : Option ℕ) → is_current (answers s) rows e ≡ false → is_stale_one stale e ≡ true
    → cond (is_stale_one stale e || not (is_settled s e)) (Some e.id) found ≡ cond (is_quiet_entry s rows e) first (Some e.id)
one_stale s rows e stale found first current this = rw (current, this) refl

-- the first stale one of all, or one before it that isn't settled, is the first that isn't quiet
unquiet_is : (s : Kept) (us : List Entry) (rows : List Cell) (k : ℕ) → IsDistinct us
    → first_unquiet_among s (stale_id (answers s) rows us) (take k us) ≡ first_unquiet s rows (take k us)
unquiet_is s us rows zero apart = refl
unquiet_is s [] rows (suc k) apart = refl
unquiet_is s (e ∷ us) rows (suc k) apart =
    let stale = stale_id (answers s) rows (e ∷ us) in
    let found = first_unquiet_among s (stale_id (answers s) rows (e ∷ us)) (take k us) in
    let first = first_unquiet s (after_entry rows e) (take k us) in
    elim (cases_Bool (is_current (answers s) rows e)) [
      | inl is ↦ (let same : stale_id (answers s) rows (e ∷ us) ≡ stale_id (answers s) (after_entry rows e) us = rw is refl in
          one_current s rows e stale found first is
          (ap (λ (o : Option ℕ). is_stale_one o e) same ∙ is_another (answers s) (after_entry rows e) us e apart.0.id)
          (ap (λ (o : Option ℕ). first_unquiet_among s o (take k us)) same ∙ unquiet_is s us (after_entry rows e) k apart.1))
      | inr isnt ↦ (let same : stale_id (answers s) rows (e ∷ us) ≡ Some e.id = rw isnt refl in
          one_stale s rows e stale found first isnt (ap (λ (o : Option ℕ). is_stale_one o e) same ∙ eq-eqb e.id e.id refl))
    ]

-- so it is of these entries, where the first stale one of all is known
pub first_is : (p : Parts) (id n : ℕ) (stale : Option ℕ) → IsDistinct (unfolded (kept p)) → n ≡ length (to_fold id (kept p))
    → stale ≡ stale_id (answers (kept p)) (base (kept p)) p.repairer.entries
    → first_unquiet_among (kept p) stale (take n p.repairer.entries) ≡ first_unquiet (kept p) (base (kept p)) (to_fold id (kept p))
first_is p id n stale apart is test =
    let s : Kept = kept p in
    let known : stale ≡ stale_id (answers s) (base s) (unfolded s) = test ∙ ap (stale_id (answers s) (base s)) (sym (unfolded_kept p)) in
    ap (λ (es : List Entry). first_unquiet_among s stale es) (folds_these p id n is)
    ∙ ap (λ (o : Option ℕ). first_unquiet_among s o (to_fold id s)) known
    ∙ unquiet_is s (unfolded s) (base s) (position_or_len (has_id id) (unfolded s) + 1) apart
