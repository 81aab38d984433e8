-- Registers and places as versions are sent: a call is named, replaced, deleted.
use Rattle.lang_core.specs.declared.request.Response.{Response}
use Rattle.local_repair.specs.Steps.{tentative, answer_or_tentative}
use Rattle.call_registers.specs.declared.register.Answer.{Answer}
use Rattle.std.proofs.Common.{◌≡◌, ℕ, ◌+◌, ◌^◌, ◌<◌, ◌≤◌, false, cond, List, [], ◌∷◌, ◌++◌, Option, Some, None, IsSome, max, length, nat_eq, option_map, refl, sym, ap, ◌∙◌, subst, arith, append_assoc, append-nil, length-append, eq-eqb, IfSome, ne_eqb, true, Bool}
use Rattle.std.specs.Option.{option_map_or}
use Rattle.lang_core.specs.declared.request.Request.{Request}
use Rattle.lang_core.specs.declared.trace.CallMade.{CallMade}
use Rattle.journal_rows.specs.Words.{last_sent, named}
use Rattle.journal_rows.specs.declared.caller.SentRow.{SentRow}
use Rattle.journal_rows.specs.declared.row.Row.{Row}
use Rattle.journal_rows.specs.declared.row.Row.TheVariants.{Sent, SawAck, Noted, SawAnswer}
use Rattle.call_registers.specs.Changes.{raised}
use Rattle.call_registers.specs.Registers.{register, next_number, answer_to, consumed_in, IsTimely}
use Rattle.call_registers.specs.declared.register.Register.{Register}
use Rattle.service_events.specs.Calls.{after_row, after_rows, named as named_row, replaced, deleted, version_of}
use Rattle.service_events.specs.Fits.{EachAfter, SendsOn, FitsSent, sent_by, NumberedCalls, call_to, call_in, wanted_call, count, times_held, WantsItsCalls, FitsPlaces}
use Rattle.service_events.proofs.CallRowLemmas.{Each, each_of_all, kind_follows, IsPlain}
use Rattle.service_events.proofs.RegisterLemmas.{next_none, found_within, some_is}
use Rattle.service_events.proofs.SentLemmas.{MaySend, not_sent, version_within, put, fits_row, fits_rows, answer_in, Put}
use Rattle.service_events.proofs.PlaceLemmas.{one_if, place, no_place, head_of, count_self, count_other, with_none, step_places}

-- ---- a journal and its registers

pub record Book : Type 0 where
  pub journal : List Row
  pub registers : List Register

-- rows come
abbrev pub entered : List Row → Book → Book
entered rows b = record { journal = b.journal ++ rows; registers = after_rows (length b.journal) b.registers rows }

after_rows-append : (at : ℕ) (now : List Register) (xs ys : List Row) → after_rows at now (xs ++ ys) ≡ after_rows (at + length xs) (after_rows at now xs) ys
after_rows-append at now [] ys = ap (λ k. after_rows k now ys) (omega arith)
after_rows-append at now (x ∷ xs) ys =
    let more : at + 1 + length xs ≡ at + length (x ∷ xs) = omega arith in
    after_rows-append (at + 1) (after_row at now x) xs ys ∙ ap (λ k. after_rows k (after_rows (at + 1) (after_row at now x) xs) ys) more

pub entered-append : (xs ys : List Row) (b : Book) → entered (xs ++ ys) b ≡ entered ys (entered xs b)
entered-append xs ys b =
    let journal = sym (append_assoc b.journal xs ys) in
    let registers = after_rows-append (length b.journal) b.registers xs ys
    ∙ ap (λ k. after_rows k (after_rows (length b.journal) b.registers xs) ys) (sym (length-append b.journal xs)) in
    (λ i. record { journal = journal i; registers = registers i })

pub entered-nil : (b : Book) → entered [] b ≡ b
entered-nil b = let journal = append-nil b.journal in (λ i. record { journal = journal i; registers = b.registers })

-- there is room for these rows: indexes of a journal are numbers of 64 bits
pub record HasRoom (b : Book) (rows : List Row) : Type 0 where
  pub counts : length b.journal + length rows < 2 ^ 64

pub room_first : (b : Book) (xs ys : List Row) → HasRoom b (xs ++ ys) → HasRoom b xs
room_first b xs ys h = record { counts = (let sum = length-append xs ys in let all = h.counts in omega (arith, all, sum)) }

pub room_then : (b : Book) (xs ys : List Row) → HasRoom b (xs ++ ys) → HasRoom (entered xs b) ys
room_then b xs ys h =
    record { counts = (let sum = length-append xs ys in let more = length-append b.journal xs in let all = h.counts in omega (arith, all, sum, more)) }

pub record Fitting (b : Book) (ps : List NumberedCalls) : Type 0 where
  pub sent : FitsSent b.journal b.registers
  pub places : FitsPlaces b.registers ps

pub fitting_then : (xs ys : List Row) (b : Book) (ps : List NumberedCalls) → Fitting (entered ys (entered xs b)) ps → Fitting (entered (xs ++ ys) b) ps
fitting_then xs ys b ps f = (let P : Book → Type 0 = λ x. Fitting x ps in subst P (sym (entered-append xs ys b)) f)

pub fitting_nil : (b : Book) (ps : List NumberedCalls) → Fitting b ps → Fitting (entered [] b) ps
fitting_nil b ps f = (let P : Book → Type 0 = λ x. Fitting x ps in subst P (sym (entered-nil b)) f)

-- ---- rows that change no register

plain_sends : (before : List Row) (row : Row) → IsPlain row → SendsOn before row
plain_sends before (Sent s) h = absurd h
plain_sends before row h = tt

plain_row : (at : ℕ) (now : List Register) (row : Row) → IsPlain row → after_row at now row ≡ now
plain_row at now (Sent s) h = absurd h
plain_row at now (SawAck a) h = absurd h
plain_row at now (Noted n) h = absurd h
plain_row at now (SawAnswer a) h = absurd h
plain_row at now row h = refl

pub plain_rows : (at : ℕ) (now : List Register) (rows : List Row) → Each IsPlain rows → after_rows at now rows ≡ now
plain_rows at now [] h = refl
plain_rows at now (row ∷ rows) h = ap (λ rs. after_rows (at + 1) rs rows) (plain_row at now row h.0) ∙ plain_rows (at + 1) now rows h.1

pub plain_follow : (rows before : List Row) → Each IsPlain rows → EachAfter SendsOn before rows
plain_follow rows before h = kind_follows SendsOn IsPlain plain_sends rows before h

pub fitting_plain : (rows : List Row) (b : Book) (ps : List NumberedCalls) → HasRoom b rows → Each IsPlain rows → Fitting b ps → Fitting (entered rows b) ps
fitting_plain rows b ps few h f = record {
  sent = fits_rows rows b.journal b.registers few.counts (plain_follow rows b.journal h) f.sent;
  places = (let P : List Register → Type 0 = λ rs. FitsPlaces rs ps in subst P (sym (plain_rows (length b.journal) b.registers rows h)) f.places);
}

-- ---- a version is sent

-- what a sent version leaves: the register of its number alone changes
pub record Went (b : Book) (s : SentRow) (p : NumberedCalls) (ps : List NumberedCalls) : Type 0 where
  pub fits : Fitting (entered (Sent s ∷ []) b) (p ∷ ps)
  pub others : (m : ℕ) → nat_eq s.number m ≡ false → register m (entered (Sent s ∷ []) b).registers ≡ register m b.registers
  pub count : length (entered (Sent s ∷ []) b).registers ≡ max (length b.registers) s.number
  pub made : Put b.journal b.registers s (entered (Sent s ∷ []) b).registers

send : (b : Book) (s : SentRow) (p q : NumberedCalls) (ps : List NumberedCalls) → HasRoom b (Sent s ∷ []) → SendsOn b.journal (Sent s)
    → ((m : ℕ) → nat_eq s.number m ≡ false → (count m p.numbers ≡ 0) × (count m q.numbers ≡ 0))
    → times_held s.number ps ≡ 0 → count s.number q.numbers ≡ one_if (call_to s.dest s.desired)
    → ((end : List Register) → wanted_call end s.number ≡ call_to s.dest s.desired → WantsItsCalls end q)
    → Fitting b (p ∷ ps) → Went b s q ps
send b s p q ps few may away none here wants f =
    let end = (entered (Sent s ∷ []) b).registers in
    let made = put b.journal b.registers (length b.journal) s f.sent few.counts may in
    let others : (m : ℕ) → nat_eq s.number m ≡ false → register m end ≡ register m b.registers =
    λ m differs. made.found m ∙ ap (λ c. cond c (Some made.made) (register m b.registers)) differs in
    let this : register s.number end ≡ Some made.made =
    made.found s.number ∙ ap (λ c. cond c (Some made.made) (register s.number b.registers)) (eq-eqb s.number s.number refl) in
    let wanted : wanted_call end s.number ≡ call_to s.dest s.desired = ap call_in this ∙ ap (λ (x : SentRow). call_to x.dest x.desired) made.sent in
    record {
      fits = record {
        sent = fits_row b.journal b.registers (Sent s) few.counts may f.sent;
        places = step_places b.registers end s.number p q ps others away none (here ∙ sym (ap one_if wanted)) (wants end wanted) f.places;
      };
      others = others;
      count = made.count ∙ ap (λ k. max k s.number) (sym f.sent.count);
      made = made;
    }

-- ---- what calls consume

-- what the call of a number consumes
abbrev pub answered : List Register → ℕ → Response
answered now n = answer_or_tentative (consumed_in (register n now))

-- no answer is held for a later version than its register's
abbrev pub IsOnTime : Option Register → Type 0
IsOnTime o = IfSome o (λ r. IfSome r.answer (λ a. a.version ≤ r.version))

on_time_one : (m : ℕ) (b : Bool) (made : Register) (o : Option Register) → (b ≡ true → IsOnTime (Some made)) → IsOnTime o → IsOnTime (cond b (Some made) o)
on_time_one m true made o this other = this refl
on_time_one m false made o this other = other

-- where the register that a sent version makes is on time, all stay so
timely_put : (b : Book) (s : SentRow) (p : Put b.journal b.registers s (entered (Sent s ∷ []) b).registers) → IsOnTime (Some p.made) → IsTimely b.registers
    → IsTimely (entered (Sent s ∷ []) b).registers
timely_put b s p this timely m =
    subst IsOnTime (sym (p.found m)) (on_time_one m (nat_eq s.number m) p.made (register m b.registers) (λ is. this) (timely m))

put_here : (b : Book) (s : SentRow) (p : Put b.journal b.registers s (entered (Sent s ∷ []) b).registers) → register s.number (entered (Sent s ∷ []) b).registers ≡ Some p.made
put_here b s p = p.found s.number ∙ ap (λ c. cond c (Some p.made) (register s.number b.registers)) (eq-eqb s.number s.number refl)

no_answer : (v : ℕ) (o : Option Answer) → o ≡ None → (answer_or_tentative (answer_to v o) ≡ tentative) × IfSome o (λ a. a.version ≤ v)
no_answer v None e = (refl, tt)
no_answer v (Some a) e = cc

not_yet : (v was : ℕ) (o : Option Answer) → IfSome o (λ a. a.version ≤ was) → v ≡ was + 1 → (answer_or_tentative (answer_to v o) ≡ tentative) × IfSome o (λ a. a.version ≤ v)
not_yet v was None h e = (refl, tt)
not_yet v was (Some a) h e =
    let differs : nat_eq a.version v ≡ false = ne_eqb a.version v (λ same. omega (arith, same, h, e)) in
    (rw differs refl, omega (arith, h, e))

-- ---- a call is named

may_by : (j : List Row) (s : SentRow) (last : Option SentRow) → last_sent s.number j ≡ last → MaySend (named j) s last → SendsOn j (Sent s)
may_by j s last is may = (let P : Option SentRow → Type 0 = λ o. MaySend (named j) s o in subst P (sym is) may)

pub next_unwanted : (now : List Register) (ps : List NumberedCalls) (next : ℕ) → register next now ≡ None → FitsPlaces now ps → times_held next ps ≡ 0
next_unwanted now ps next none f = f.once next ∙ ap (λ o. one_if (call_in o)) none

pub record Named (b : Book) (next : ℕ) (c : CallMade) (ps : List NumberedCalls) : Type 0 where
  pub fits : Fitting (entered (named_row next c ∷ []) b) (place (next ∷ []) (c ∷ []) ∷ ps)
  pub others : (m : ℕ) → nat_eq next m ≡ false → register m (entered (named_row next c ∷ []) b).registers ≡ register m b.registers
  pub later : next + 1 ≡ next_number (entered (named_row next c ∷ []) b).registers
  pub consumes : answered (entered (named_row next c ∷ []) b).registers next ≡ tentative
  pub timely : IsTimely b.registers → IsTimely (entered (named_row next c ∷ []) b).registers

pub name_call : (b : Book) (next : ℕ) (c : CallMade) (ps : List NumberedCalls) → HasRoom b (named_row next c ∷ []) → next ≡ next_number b.registers → Fitting b ps
    → Named b next c ps
name_call b next c ps few is f =
    let s : SentRow = record { number = next; dest = c.dest; version = 1; desired = Some c.request } in
    let unsent : last_sent next b.journal ≡ None = not_sent b.journal next (let count = f.sent.count in omega (arith, is, count)) in
    let gone : register next b.registers ≡ None = ap (λ k. register k b.registers) is ∙ next_none b.registers f.sent.numbered in
    let went = send b s no_place (place (next ∷ []) (c ∷ [])) ps few
    (may_by b.journal s None unsent ((let count = f.sent.count in omega (arith, is, count)), refl, refl))
    (λ m differs. (refl, count_other next m differs)) (next_unwanted b.registers ps next gone f.places) (count_self next) (λ end wanted. ap (λ o. o ∷ []) wanted)
    (record { sent = f.sent; places = with_none b.registers ps f.places }) in
    let none = no_answer went.made.made.version went.made.made.answer (went.made.answer ∙ ap answer_in gone) in
    record {
      fits = went.fits;
      others = went.others;
      later = (let count = went.count in omega (arith, count, is));
      consumes = ap (λ o. answer_or_tentative (consumed_in o)) (put_here b s went.made) ∙ none.0;
      timely = λ timely. timely_put b s went.made none.1 timely;
    }

-- ---- a call is replaced or deleted

-- the register of a call that is wanted
pub record Wanted (now : List Register) (n : ℕ) (o : CallMade) : Type 0 where
  pub made : Register
  pub found : register n now ≡ Some made
  pub dest : made.dest ≡ o.dest
  pub desired : made.desired ≡ Some o.request

call_parts : (dest : List ℕ) (d : Option Request) (o : CallMade) → call_to dest d ≡ Some o → (dest ≡ o.dest) × (d ≡ Some o.request)
call_parts dest None o e = cc
call_parts dest (Some q) o e =
    let same : record { dest = dest; request = q } ≡ o = some_is (record { dest = dest; request = q }) o e in
    (ap (λ (x : CallMade). x.dest) same, ap (λ (x : CallMade). Some x.request) same)

wanted_from : (now : List Register) (n : ℕ) (o : CallMade) (found : Option Register) → register n now ≡ found → call_in found ≡ Some o → Wanted now n o
wanted_from now n o None is e = cc
wanted_from now n o (Some r) is e = let parts = call_parts r.dest r.desired o e in record { made = r; found = is; dest = parts.0; desired = parts.1 }

pub wanted_by : (now : List Register) (n : ℕ) (o : CallMade) → wanted_call now n ≡ Some o → Wanted now n o
wanted_by now n o e = wanted_from now n o (register n now) refl e

pub wanted_at : (now : List Register) (n : ℕ) (o : CallMade) (ps : List NumberedCalls) → FitsPlaces now (place (n ∷ []) (o ∷ []) ∷ ps) → Wanted now n o
wanted_at now n o ps f =
    let each = each_of_all (WantsItsCalls now) (place (n ∷ []) (o ∷ []) ∷ ps) f.calls in
    wanted_by now n o (head_of (wanted_call now n) (Some o) [] [] each.0)

pub record Resent (b : Book) (s : SentRow) (p : NumberedCalls) (ps : List NumberedCalls) : Type 0 where
  pub fits : Fitting (entered (Sent s ∷ []) b) (p ∷ ps)
  pub others : (m : ℕ) → nat_eq s.number m ≡ false → register m (entered (Sent s ∷ []) b).registers ≡ register m b.registers
  pub next : next_number b.registers ≡ next_number (entered (Sent s ∷ []) b).registers
  pub consumes : IsTimely b.registers → answered (entered (Sent s ∷ []) b).registers s.number ≡ tentative
  pub timely : IsTimely b.registers → IsTimely (entered (Sent s ∷ []) b).registers

abbrev pub again : ℕ → List ℕ → ℕ → Option Request → SentRow
again n dest version d = record { number = n; dest = dest; version = version; desired = d }

some_there : (d : Option Request) (q : Request) → d ≡ Some q → IsSome d
some_there None q e = cc
some_there (Some x) q e = refl

resend : (b : Book) (n : ℕ) (o : CallMade) (version : ℕ) (d : Option Request) (q : NumberedCalls) (ps : List NumberedCalls) → HasRoom b (Sent (again n o.dest version d) ∷ [])
    → version ≡ raised (version_of b.registers n)
    → ((m : ℕ) → nat_eq n m ≡ false → count m q.numbers ≡ 0) → count n q.numbers ≡ one_if (call_to o.dest d)
    → ((end : List Register) → wanted_call end n ≡ call_to o.dest d → WantsItsCalls end q)
    → Fitting b (place (n ∷ []) (o ∷ []) ∷ ps) → Resent b (again n o.dest version d) q ps
resend b n o version d q ps few is away here wants f =
    let w = wanted_at b.registers n o ps f.places in
    let last : last_sent n b.journal ≡ Some (sent_by w.made) = sym (f.sent.registers n) ∙ ap (option_map sent_by) w.found in
    let within = version_within b.journal b.registers n w.made f.sent w.found in
    let this : version_of b.registers n ≡ w.made.version = ap (λ o. option_map_or (λ (r : Register). r.version) o 0) w.found in
    let next : version ≡ w.made.version + 1 = (let all = few.counts in omega (arith, is, this, within, all)) in
    let alone : times_held n ps ≡ 0 = (let all = f.places.once n in let one = count_self n in let most : one_if (wanted_call b.registers n) ≤ 1 = one_most (wanted_call b.registers n) in omega (arith, all, one, most)) in
    let went = send b (again n o.dest version d) (place (n ∷ []) (o ∷ [])) q ps few
    (may_by b.journal (again n o.dest version d) (Some (sent_by w.made)) last (sym w.dest, next, some_there w.made.desired o.request w.desired))
    (λ m differs. (count_other n m differs, away m differs)) alone here wants f in
    let below = found_within n b.registers w.made f.sent.numbered w.found in
    let s = again n o.dest version d in
    let made = went.made.made in
    let same : made.answer ≡ w.made.answer = went.made.answer ∙ ap answer_in w.found in
    let rises : made.version ≡ w.made.version + 1 = ap (λ (x : SentRow). x.version) went.made.sent ∙ next in
    let later : IsTimely b.registers → (answer_or_tentative (answer_to made.version made.answer) ≡ tentative) × IfSome made.answer (λ a. a.version ≤ made.version) =
    λ timely. (let held : IsOnTime (Some w.made) = subst IsOnTime w.found (timely n) in
    let H : Option Answer → Type 0 = λ x. IfSome x (λ a. a.version ≤ w.made.version) in
    not_yet made.version w.made.version made.answer (subst H (sym same) held) rises) in
    record {
      fits = went.fits;
      others = went.others;
      next = (let count = went.count in omega (arith, count, below));
      consumes = λ timely. ap (λ x. answer_or_tentative (consumed_in x)) (put_here b s went.made) ∙ (later timely).0;
      timely = λ timely. timely_put b s went.made (later timely).1 timely;
    }
  where
    one_most : (c : Option CallMade) → one_if c ≤ 1
    one_most None = omega arith
    one_most (Some c) = omega arith

-- a call is deleted
pub delete_call : (b : Book) (before : List Register) (n : ℕ) (o : CallMade) (ps : List NumberedCalls) → HasRoom b (deleted before n o ∷ [])
    → version_of before n ≡ version_of b.registers n → Fitting b (place (n ∷ []) (o ∷ []) ∷ ps)
    → Resent b (again n o.dest (raised (version_of before n)) None) no_place ps
delete_call b before n o ps few same f =
    resend b n o (raised (version_of before n)) None no_place ps few (ap raised same) (λ m differs. refl) refl (λ end wanted. refl) f

-- a call gets another request
pub replace_call : (b : Book) (before : List Register) (n : ℕ) (o : CallMade) (q : Request) (ps : List NumberedCalls) → HasRoom b (replaced before n o.dest q ∷ [])
    → version_of before n ≡ version_of b.registers n → Fitting b (place (n ∷ []) (o ∷ []) ∷ ps)
    → Resent b (again n o.dest (raised (version_of before n)) (Some q)) (place (n ∷ []) (record { dest = o.dest; request = q } ∷ [])) ps
replace_call b before n o q ps few same f =
    resend b n o (raised (version_of before n)) (Some q) (place (n ∷ []) (record { dest = o.dest; request = q } ∷ [])) ps few (ap raised same)
    (λ m differs. count_other n m differs) (count_self n) (λ end wanted. ap (λ x. x ∷ []) wanted) f
