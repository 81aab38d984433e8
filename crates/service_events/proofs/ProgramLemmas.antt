-- What rows make of a journal's programs and rules. Programs keep their numbers; rows that bring neither programs nor rules leave all that
-- follows from the journal of these.
use Rattle.std.proofs.Common.{◌≡◌, ℕ, zero, suc, ◌+◌, ◌<◌, ◌≤◌, Bool, true, false, ◌&&◌, cond, List, [], ◌∷◌, ◌++◌, All, Option, Some, None, IsSomeAnd, fold, length, nat_eq, nat_le, slice_get, refl, sym, ap, ◌∙◌, inl, inr, arith, append_assoc, append-nil, length-append, ne_eqb, if◌then◌else◌}
use Rattle.std.specs.List.{AllByRecursion as Each}
use Rattle.std.proofs.lemmas.Bool.{and_from, and_parts, cases_Bool, cond-true, le-leb, leb-true}
use Rattle.std.proofs.lemmas.List.Elements.{All-weaker}
use Rattle.std.proofs.lemmas.List.Sums.{fold_push, fold-append}
use Rattle.lang_tree.specs.declared.program.Route.{Route}
use Rattle.lang_programs.specs.Numbered.{Numbered}
use Rattle.request_log.specs.declared.entry.Entry.{Entry}
use Rattle.authorise_rules.specs.Given.{GivenRules}
use Rattle.journal_rows.specs.Programs.{brought_step, by_number, corrects, counted, is_number, is_replaced, move_step, moved, newer, newest_now, newest_step, program_count, program_now, program_step, programs, replaced_step, ruled, rules_now, rules_step, with_brought}
use Rattle.journal_rows.specs.Words.{asked, asked_step}
use Rattle.journal_rows.specs.declared.callee.AskedRow.{AskedRow}
use Rattle.journal_rows.specs.declared.orders.About.{About}
use Rattle.journal_rows.specs.declared.orders.Command.{Command}
use Rattle.journal_rows.specs.declared.orders.Command.TheVariants.{Deploy, Correct, Rules}
use Rattle.journal_rows.specs.declared.row.Row.{Row}
use Rattle.journal_rows.specs.declared.row.Row.TheVariants.{Asked, Ordered}
use Rattle.flights.specs.declared.flight.Flight.{Flight}
use Rattle.service_events.specs.Fits.{EachAfter, HasNumber, IsInUse, IsProgramOrder, IsThere, IsUnder, ProgramsFollow, ProgramsOn, WasUnder}
use Rattle.service_events.proofs.CallRowLemmas.{EachAfter-append, go_on}
use Rattle.service_events.proofs.EntryRowLemmas.{word_same}
use Rattle.service_events.proofs.SearchLemmas.{get_mid, some_and}

-- ---- rows that bring nothing

-- an order that brings neither a program nor rules
abbrev pub OrdersNone : Command → Type 0
OrdersNone (Deploy p) = ⊥
OrdersNone (Correct k p) = ⊥
OrdersNone (Rules g) = ⊥
OrdersNone command = Unit {0}

abbrev pub BringsNone : Row → Type 0
BringsNone (Ordered o) = OrdersNone o.command
BringsNone row = Unit {0}

brought_by : (all : List (List Route)) (command : Command) → OrdersNone command → with_brought all command ≡ all
brought_by all (Deploy p) h = absurd h
brought_by all (Correct k p) h = absurd h
brought_by all command h = refl

brought_same : (all : List (List Route)) (row : Row) → BringsNone row → brought_step all row ≡ all
brought_same all (Ordered o) h = brought_by all o.command h
brought_same all row h = refl

counted_by : (count : ℕ) (command : Command) → OrdersNone command → counted count command ≡ count
counted_by count (Deploy p) h = absurd h
counted_by count (Correct k p) h = absurd h
counted_by count command h = refl

count_same : (count : ℕ) (row : Row) → BringsNone row → program_step count row ≡ count
count_same count (Ordered o) h = counted_by count o.command h
count_same count row h = refl

moved_by : (n : ℕ) (about : About) (command : Command) → OrdersNone command → moved n about command ≡ n
moved_by n about (Correct k p) h = absurd h
moved_by n about command h = refl

move_same : (n : ℕ) (row : Row) → BringsNone row → move_step n row ≡ n
move_same n (Ordered o) h = moved_by n o.about o.command h
move_same n row h = refl

corrects_none : (n : ℕ) (command : Command) → OrdersNone command → corrects n command ≡ false
corrects_none n (Correct k p) h = absurd h
corrects_none n command h = refl

replaced_same : (n : ℕ) (before : Bool) (row : Row) → BringsNone row → replaced_step n before row ≡ before
replaced_same n before (Ordered o) h = rw (corrects_none n o.command h) refl
replaced_same n before row h = refl

newer_by : (newest : Numbered) (about : About) (command : Command) → OrdersNone command → newer newest about command ≡ newest
newer_by newest about (Deploy p) h = absurd h
newer_by newest about (Correct k p) h = absurd h
newer_by newest about command h = refl

newest_same : (newest : Numbered) (row : Row) → BringsNone row → newest_step newest row ≡ newest
newest_same newest (Ordered o) h = newer_by newest o.about o.command h
newest_same newest row h = refl

ruled_by : (rules : GivenRules) (command : Command) → OrdersNone command → ruled rules command ≡ rules
ruled_by rules (Rules g) h = absurd h
ruled_by rules command h = refl

rules_same : (rules : GivenRules) (row : Row) → BringsNone row → rules_step rules row ≡ rules
rules_same rules (Ordered o) h = ruled_by rules o.command h
rules_same rules row h = refl

module _ (j rows : List Row) (none : Each BringsNone rows) where
  pub programs_stay : (first : List Route) → programs first (j ++ rows) ≡ programs first j
  programs_stay first = word_same BringsNone brought_step brought_same (first ∷ []) j rows none

  pub count_stays : program_count (j ++ rows) ≡ program_count j
  count_stays = word_same BringsNone program_step count_same 1 j rows none

  pub now_stays : (n : ℕ) → program_now n (j ++ rows) ≡ program_now n j
  now_stays n = word_same BringsNone move_step move_same n j rows none

  pub replaced_stays : (n : ℕ) → is_replaced n (j ++ rows) ≡ is_replaced n j
  replaced_stays n = word_same BringsNone (replaced_step n) (replaced_same n) false j rows none

  pub newest_stays : (first : List Route) → newest_now first (j ++ rows) ≡ newest_now first j
  newest_stays first = word_same BringsNone newest_step newest_same (record { number = 1; program = first }) j rows none

  pub rules_stay : (began : GivenRules) → rules_now began (j ++ rows) ≡ rules_now began j
  rules_stay began = word_same BringsNone rules_step rules_same began j rows none

-- ---- programs keep their numbers

more_by : (all : List (List Route)) (command : Command) → (more : List (List Route)) × (with_brought all command ≡ all ++ more)
more_by all (Deploy p) = (p ∷ [], refl)
more_by all (Correct k p) = (p ∷ [], refl)
more_by all command = ([], sym (append-nil all))

more_step : (all : List (List Route)) (row : Row) → (more : List (List Route)) × (brought_step all row ≡ all ++ more)
more_step all (Ordered o) = more_by all o.command
more_step all row = ([], sym (append-nil all))

all_more : (rows : List Row) (all : List (List Route)) → (more : List (List Route)) × (fold brought_step all rows ≡ all ++ more)
all_more [] all = ([], sym (append-nil all))
all_more (row ∷ rows) all =
    let one = more_step all row in
    let rest = all_more rows (brought_step all row) in
    (one.0 ++ rest.0, rest.1 ∙ ap (λ l. l ++ rest.0) one.1 ∙ append_assoc all one.0 rest.0)

got_front : {X : Type 0} (xs ys : List X) (n : ℕ) (x : X) → slice_get xs n ≡ Some x → slice_get (xs ++ ys) n ≡ Some x
got_front [] ys zero x e = cc
got_front [] ys (suc n) x e = cc
got_front (y ∷ xs) ys zero x e = e
got_front (y ∷ xs) ys (suc n) x e = got_front xs ys n x e

numbered_front : {X : Type 0} (n : ℕ) (xs ys : List X) (x : X) → by_number n xs ≡ Some x → by_number n (xs ++ ys) ≡ Some x
numbered_front zero xs ys x e = cc
numbered_front (suc n) xs ys x e = got_front xs ys n x e

pub there_more : (first : List Route) (j rows : List Row) (n : Numbered) → IsThere first j n → IsThere first (j ++ rows) n
there_more first j rows n h =
    let more = all_more rows (programs first j) in
    ap (by_number n.number) (fold-append brought_step (first ∷ []) j rows ∙ more.1) ∙ numbered_front n.number (programs first j) more.0 n.program h

-- ---- how many there are

many_by : (all : List (List Route)) (count : ℕ) (command : Command) → length all ≡ count → length (with_brought all command) ≡ counted count command
many_by all count (Deploy p) h = length-append all (p ∷ []) ∙ ap (λ k. k + 1) h
many_by all count (Correct k p) h = length-append all (p ∷ []) ∙ ap (λ k. k + 1) h
many_by all count command h = h

many_step : (all : List (List Route)) (count : ℕ) (row : Row) → length all ≡ count → length (brought_step all row) ≡ program_step count row
many_step all count (Ordered o) h = many_by all count o.command h
many_step all count row h = h

many_all : (rows : List Row) (all : List (List Route)) (count : ℕ) → length all ≡ count → length (fold brought_step all rows) ≡ fold program_step count rows
many_all [] all count h = h
many_all (row ∷ rows) all count h = many_all rows (brought_step all row) (program_step count row) (many_step all count row h)

pub many_programs : (first : List Route) (j : List Row) → length (programs first j) ≡ program_count j
many_programs first j = many_all j (first ∷ []) 1 refl

got_within : {X : Type 0} (xs : List X) (n : ℕ) (x : X) → slice_get xs n ≡ Some x → n < length xs
got_within [] zero x e = cc
got_within [] (suc n) x e = cc
got_within (y ∷ xs) zero x e = omega arith
got_within (y ∷ xs) (suc n) x e = (let low = got_within xs n x e in omega (arith, low))

numbered_within : {X : Type 0} (n : ℕ) (xs : List X) (x : X) → by_number n xs ≡ Some x → (1 ≤ n) × (n ≤ length xs)
numbered_within zero xs x e = cc
numbered_within (suc n) xs x e = (let low = got_within xs n x e in (omega (arith, low), omega (arith, low)))

-- a program that is there has a number that there is
pub number_there : (first : List Route) (j : List Row) (n : Numbered) → IsThere first j n → is_number n.number j ≡ true
number_there first j n h =
    let within = numbered_within n.number (programs first j) n.program h in
    let most = within.1 in
    let many = many_programs first j in
    and_from (nat_le 1 n.number) (nat_le n.number (program_count j)) (le-leb 1 n.number within.0) (le-leb n.number (program_count j) (omega (arith, most, many)))

pub number_most : (n : ℕ) (j : List Row) → is_number n j ≡ true → n ≤ program_count j
number_most n j h = leb-true n (program_count j) (and_parts (nat_le 1 n) (nat_le n (program_count j)) h).1

-- what is brought next has the number after all these
pub last_there : (first : List Route) (j : List Row) (row : Row) (p : List Route) → programs first (j ++ row ∷ []) ≡ programs first j ++ p ∷ []
    → IsThere first (j ++ row ∷ []) (record { number = program_count j + 1; program = p })
last_there first j row p is =
    let next : program_count j + 1 ≡ suc (program_count j) = omega arith in
    ap (by_number (program_count j + 1)) is ∙ ap (λ n. by_number n (programs first j ++ p ∷ [])) next
    ∙ ap (slice_get (programs first j ++ p ∷ [])) (sym (many_programs first j)) ∙ get_mid (programs first j) p []

-- ---- what stands in whose place

abbrev IsFreeAbove : List Row → Type 0
IsFreeAbove j = (n : ℕ) → program_count j < n → is_replaced n j ≡ false

free_by : (before : List Row) (command : Command) (about : About) → IsProgramOrder command about before → IsFreeAbove before → (n : ℕ)
    → counted (program_count before) command < n → (if corrects n command then true else is_replaced n before) ≡ false
free_by before (Deploy p) about may h n above = (let high : program_count before + 1 < n = above in h n (omega (arith, high)))
free_by before (Correct k p) about may h n above =
    let high : program_count before + 1 < n = above in
    let most = number_most k before may.1 in
    let other : nat_eq n k ≡ false = ne_eqb n k (λ same. omega (arith, same, most, high)) in
    rw other (h n (omega (arith, high)))
free_by before command about may h n above = h n above

free_step : (before : List Row) (row : Row) → ProgramsOn before row → IsFreeAbove before → (n : ℕ) → program_step (program_count before) row < n
    → replaced_step n (is_replaced n before) row ≡ false
free_step before (Ordered o) may h n above = free_by before o.command o.about may h n above
free_step before row may h n above = h n above

-- nothing stands in the place of a number that isn't there yet
pub free_above : (j : List Row) → EachAfter ProgramsOn [] j → (n : ℕ) → program_count j < n → is_replaced n j ≡ false
free_above j may = go_on ProgramsOn IsFreeAbove
    (λ before row follows h n above. (let count = fold_push program_step 1 before row in
    fold_push (replaced_step n) false before row ∙ free_step before row follows h n (omega (arith, count, above))))
    j [] may (λ n above. refl)

both_true : (b : Bool) → cond b true true ≡ true
both_true true = refl
both_true false = refl

still_replaced : (n : ℕ) (row : Row) → replaced_step n true row ≡ true
still_replaced n (Ordered o) = both_true (corrects n o.command)
still_replaced n row = refl

stays_replaced : (n : ℕ) (rows : List Row) → fold (replaced_step n) true rows ≡ true
stays_replaced n [] = refl
stays_replaced n (row ∷ rows) = ap (λ b. fold (replaced_step n) b rows) (still_replaced n row) ∙ stays_replaced n rows

other_by : (b : Bool) (x n : ℕ) → cond b true false ≡ false → cond b x n ≡ n
other_by true x n h = cc
other_by false x n h = refl

unmoved_by : (n : ℕ) (about : About) (command : Command) → (if corrects n command then true else false) ≡ false → moved n about command ≡ n
unmoved_by n about (Correct k p) h = other_by (nat_eq n k) _ n h
unmoved_by n about command h = refl

unmoved_step : (n : ℕ) (row : Row) → replaced_step n false row ≡ false → move_step n row ≡ n
unmoved_step n (Ordered o) h = unmoved_by n o.about o.command h
unmoved_step n row h = refl

unmoved : (n : ℕ) (rows : List Row) → fold (replaced_step n) false rows ≡ false → fold move_step n rows ≡ n
unmoved n [] h = refl
unmoved n (row ∷ rows) h = elim (cases_Bool (replaced_step n false row)) [
  | inl is ↦ (let never : true ≡ false = sym (stays_replaced n rows) ∙ ap (λ b. fold (replaced_step n) b rows) (sym is) ∙ h in cc)
  | inr isnt ↦ ap (λ m. fold move_step m rows) (unmoved_step n row isnt) ∙ unmoved n rows (ap (λ b. fold (replaced_step n) b rows) (sym isnt) ∙ h)
]

-- a number in whose place no other stands stands there itself
pub number_stands : (n : ℕ) (j : List Row) → is_replaced n j ≡ false → program_now n j ≡ n
number_stands n j h = unmoved n j h

-- ---- how an entry was asked for

same_both : (b : Bool) (a : AskedRow) → cond b (Some a) (Some a) ≡ Some a
same_both true a = refl
same_both false a = refl

asked_still : (id : ℕ) (a : AskedRow) (row : Row) → asked_step id (Some a) row ≡ Some a
asked_still id a (Asked b) = same_both (nat_eq b.id id) a
asked_still id a row = refl

asked_stays : (id : ℕ) (a : AskedRow) (rows : List Row) → fold (asked_step id) (Some a) rows ≡ Some a
asked_stays id a [] = refl
asked_stays id a (row ∷ rows) = ap (λ o. fold (asked_step id) o rows) (asked_still id a row) ∙ asked_stays id a rows

pub asked_more : (id : ℕ) (j rows : List Row) (a : AskedRow) → asked id j ≡ Some a → asked id (j ++ rows) ≡ Some a
asked_more id j rows a is = fold-append (asked_step id) None j rows ∙ ap (λ o. fold (asked_step id) o rows) is ∙ asked_stays id a rows

-- a row that asks for no entry
abbrev pub IsUnasked : Row → Type 0
IsUnasked (Asked a) = ⊥
IsUnasked row = Unit {0}

unasked_same : (id : ℕ) (first : Option AskedRow) (row : Row) → IsUnasked row → asked_step id first row ≡ first
unasked_same id first (Asked a) h = absurd h
unasked_same id first row h = refl

pub asked_there : (id : ℕ) (j front back : List Row) (a : AskedRow) → asked id j ≡ None → Each IsUnasked front → nat_eq a.id id ≡ true
    → asked id (j ++ (front ++ Asked a ∷ back)) ≡ Some a
asked_there id j front back a none unasked same =
    fold-append (asked_step id) None j (front ++ Asked a ∷ back) ∙ ap (λ o. fold (asked_step id) o (front ++ Asked a ∷ back)) none
    ∙ fold-append (asked_step id) None front (Asked a ∷ back)
    ∙ ap (λ o. fold (asked_step id) o (Asked a ∷ back)) (word_same IsUnasked (asked_step id) (unasked_same id) None [] front unasked)
    ∙ ap (λ o. fold (asked_step id) o back) (cond-true (nat_eq a.id id) (Some a) None same) ∙ asked_stays id a back

-- ---- what goes on being so

pub some_at : {X : Type 0} (o : Option X) (P : X → Type 0) → IsSomeAnd o P → (x : X) × (o ≡ Some x) × P x
some_at None P h = absurd h
some_at (Some x) P h = (x, refl, h)

-- the same numbers stand in all places
pub record KeepsPlaces (j j' : List Row) : Type 0 where
  pub now : (n : ℕ) → program_now n j' ≡ program_now n j
  pub replaced : (n : ℕ) → is_replaced n j' ≡ is_replaced n j

module _ (first : List Route) (j rows : List Row) where
  pub was_more : (e : Entry) → WasUnder first j e → WasUnder first (j ++ rows) e
  was_more e h = record {
    before = h.before;
    order = h.order;
    rest = h.rest ++ rows;
    is = ap (λ l. l ++ rows) h.is ∙ append_assoc h.before (Ordered h.order ∷ h.rest) rows;
    folds = h.folds;
    number = h.number;
    there = there_more first j rows e.under.now h.there;
    ran = h.ran;
  }

  pub use_more : KeepsPlaces j (j ++ rows) → (n : Numbered) → IsInUse first j n → IsInUse first (j ++ rows) n
  use_more keeps n h = record { there = there_more first j rows n h.there; stands = keeps.replaced n.number ∙ h.stands }

  number_more : KeepsPlaces j (j ++ rows) → (e : Entry) → HasNumber j e → HasNumber (j ++ rows) e
  number_more keeps e h =
      let at = some_at (asked e.id j) (λ (a : AskedRow). e.under.now.number ≡ program_now a.program j) h in
      some_and (asked e.id (j ++ rows)) at.0 (λ (a : AskedRow). e.under.now.number ≡ program_now a.program (j ++ rows)) (asked_more e.id j rows at.0 at.1)
      (at.2 ∙ sym (keeps.now (at.0).program))

  pub under_more : KeepsPlaces j (j ++ rows) → (e : Entry) → IsUnder first j e → IsUnder first (j ++ rows) e
  under_more keeps e h = record {
    number = number_more keeps e h.number;
    now = use_more keeps e.under.now h.now;
    ran = there_more first j rows e.under.ran h.ran;
  }

-- ---- rows that may come

-- a row that brings nothing, and asks for an entry under a program that is there and in whose place no other stands
abbrev pub AsksUnder : List Row → Row → Type 0
AsksUnder j (Asked a) = (is_number a.program j ≡ true) × (is_replaced a.program j ≡ false)
AsksUnder j (Ordered o) = OrdersNone o.command
AsksUnder j row = Unit {0}

asks_none : (j : List Row) (row : Row) → AsksUnder j row → BringsNone row
asks_none j (Ordered o) h = h
asks_none j row h = tt

pub all_none : (j rows : List Row) → Each (AsksUnder j) rows → Each BringsNone rows
all_none j [] h = tt
all_none j (row ∷ rows) h = (asks_none j row h.0, all_none j rows h.1)

-- both have the same numbers
record SameNumbers (j j' : List Row) : Type 0 where
  pub number : (n : ℕ) → is_number n j' ≡ is_number n j
  pub replaced : (n : ℕ) → is_replaced n j' ≡ is_replaced n j

order_comes : (before : List Row) (command : Command) (about : About) → OrdersNone command → IsProgramOrder command about before
order_comes before (Deploy p) about h = absurd h
order_comes before (Correct k p) about h = absurd h
order_comes before command about h = tt

row_comes : (j before : List Row) (row : Row) → SameNumbers j before → AsksUnder j row → ProgramsOn before row
row_comes j before (Asked a) same h = (same.number a.program ∙ h.0, same.replaced a.program ∙ h.1)
row_comes j before (Ordered o) same h = order_comes before o.command o.about h
row_comes j before row same h = tt

rows_come : (j rows before : List Row) → SameNumbers j before → Each (AsksUnder j) rows → EachAfter ProgramsOn before rows
rows_come j [] before same h = tt
rows_come j (row ∷ rows) before same h =
    let none : Each BringsNone (row ∷ []) = (asks_none j row h.0, tt) in
    let count = count_stays before (row ∷ []) none in (
      row_comes j before row same h.0,
      rows_come j rows (before ++ row ∷ [])
          (record {
            number = λ n. ap (λ k. nat_le 1 n && nat_le n k) count ∙ same.number n;
            replaced = λ n. replaced_stays before (row ∷ []) none n ∙ same.replaced n;
          })
          h.1,
    )

-- ---- the law of such rows, and of entries and flights

module _ (first : List Route) (began rules : GivenRules) (newest : Numbered) (past es : List Entry) (fs : List Flight) where
  pub programs_more : (j rows : List Row) → Each (AsksUnder j) rows → ProgramsFollow first began rules newest j past es fs
      → ProgramsFollow first began rules newest (j ++ rows) past es fs
  programs_more j rows asks h =
      let none = all_none j rows asks in
      let keeps : KeepsPlaces j (j ++ rows) = record { now = now_stays j rows none; replaced = replaced_stays j rows none } in
      record {
        rows = EachAfter-append ProgramsOn j rows [] h.rows (rows_come j rows j (record { number = λ n. refl; replaced = λ n. refl }) asks);
        rules = h.rules ∙ sym (rules_stay j rows none began);
        newest = h.newest ∙ sym (newest_stays j rows none first);
        current = use_more first j rows keeps newest h.current;
        past = All-weaker (WasUnder first j) (WasUnder first (j ++ rows)) (was_more first j rows) past h.past;
        entries = All-weaker (IsUnder first j) (IsUnder first (j ++ rows)) (under_more first j rows keeps) es h.entries;
        flights = All-weaker (λ (f : Flight). IsInUse first j f.program) (λ (f : Flight). IsInUse first (j ++ rows) f.program)
            (λ f used. use_more first j rows keeps f.program used) fs h.flights;
      }

  pub programs_with : (j : List Row) (es' : List Entry) (fs' : List Flight) → ProgramsFollow first began rules newest j past es fs → All (IsUnder first j) es'
      → All (λ (f : Flight). IsInUse first j f.program) fs' → ProgramsFollow first began rules newest j past es' fs'
  programs_with j es' fs' h entries flights = record {
    rows = h.rows;
    rules = h.rules;
    newest = h.newest;
    current = h.current;
    past = h.past;
    entries = entries;
    flights = flights;
  }
