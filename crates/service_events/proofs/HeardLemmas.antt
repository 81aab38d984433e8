-- What is seen of own calls: acknowledgements, answers and confirmations keep what fits of calls.
use Rattle.std.proofs.Common.{◌≡◌, ℕ, ◌+◌, ◌^◌, ◌<◌, ◌≤◌, true, false, List, [], ◌∷◌, ◌++◌, Option, Some, None, IsSome, IfSome, max, fold, length, nat_eq, option_map, refl, sym, ap, ◌∙◌, subst, inl, inr, arith, length-append, eqb-true, ltb-true, ltb-false}
use Rattle.std.proofs.lemmas.Bool.{cases_Bool}
use Rattle.std.specs.List.{list_any}
use Rattle.std.proofs.lemmas.List.Sums.{fold_push, fold-append}
use Rattle.journal_rows.specs.Words.{sent_step, last_sent, seen_acked, seen_step, last_seen, seen_version, claim_step, claimed, noting_step, last_noted, noted_version, confirm_step, confirmed_version}
use Rattle.journal_rows.specs.declared.caller.AckHow.TheVariants.{WithAnswer}
use Rattle.journal_rows.specs.declared.caller.SawAnswerRow.{SawAnswerRow}
use Rattle.journal_rows.specs.declared.caller.SawHow.{SawHow}
use Rattle.journal_rows.specs.declared.caller.SawHow.TheVariants.{Live as SeenLive}
use Rattle.journal_rows.specs.declared.row.Row.{Row}
use Rattle.journal_rows.specs.declared.row.Row.TheVariants.{Sent, SawAck, Noted, SawAnswer}
use Rattle.call_registers.specs.Registers.{register, with_ack, with_answer, with_note, is_newer}
use Rattle.call_registers.specs.declared.register.Answer.{Answer}
use Rattle.call_registers.specs.declared.register.Register.{Register}
use Rattle.service_events.specs.State.{Kept}
use Rattle.service_events.specs.Calls.{noted, seen_answer, after_row, after_rows}
use Rattle.service_events.specs.Fits.{EachAfter, SendsOn, sent_by, SeesOn, ComesBy, HasNoted, HasSeen, tells_of_answer, NumberedCalls, call_in, FitsPlaces, places}
use Rattle.service_events.proofs.CallRowLemmas.{Each, kind_follows, IsUnsent, IsUntaken, IsUnordered}
use Rattle.service_events.proofs.NoteLemmas.{told_more}
use Rattle.service_events.proofs.SentLemmas.{fits_rows, ack_aside, answer_aside, note_aside}
use Rattle.service_events.proofs.SeenLemmas.{sees_rows, answered_more}
use Rattle.service_events.proofs.PlaceLemmas.{places_aside}
use Rattle.service_events.proofs.FlightLemmas.{flies_from, flies_fit, flies_rows}
use Rattle.service_events.proofs.CallLaws.{FitsCalls, Goes, orders_unordered}

-- ---- rows that send nothing

unsent_sends : (before : List Row) (row : Row) → IsUnsent row → SendsOn before row
unsent_sends before (Sent s) h = absurd h
unsent_sends before row h = tt

unsent_follow : (rows before : List Row) → Each IsUnsent rows → EachAfter SendsOn before rows
unsent_follow rows before h = kind_follows SendsOn IsUnsent unsent_sends rows before h

answer_wants : (a : Answer) (r : Register) → call_in (Some (with_answer a r)) ≡ call_in (Some r)
answer_wants a r = elim (cases_Bool (is_newer r.answer a.answer_version)) [
  | inl is ↦ rw is refl
  | inr differs ↦ rw differs refl
]

places_row : (at : ℕ) (now : List Register) (row : Row) (ps : List NumberedCalls) → IsUnsent row → FitsPlaces now ps → FitsPlaces (after_row at now row) ps
places_row at now (Sent s) ps h f = absurd h
places_row at now (SawAck a) ps h f = places_aside now a.number (with_ack a.version) ps (ack_aside a.version).number (λ r. refl) f
places_row at now (Noted t) ps h f =
    places_aside now t.number (with_note t.answer_version t.who t.rule at) ps (note_aside t.answer_version t.who t.rule at).number (λ r. refl) f
places_row at now (SawAnswer a) ps h f =
    places_aside now a.number (with_answer (seen_answer a)) ps (answer_aside (seen_answer a)).number (answer_wants (seen_answer a)) f
places_row at now row ps h f = f

places_rows : (at : ℕ) (now : List Register) (rows : List Row) (ps : List NumberedCalls) → Each IsUnsent rows → FitsPlaces now ps → FitsPlaces (after_rows at now rows) ps
places_rows at now [] ps h f = f
places_rows at now (row ∷ rows) ps h f = places_rows (at + 1) (after_row at now row) rows ps h.1 (places_row at now row ps h.0 f)

-- what rows claim and tell of a number
abbrev pub HeardAfter : List Row → ℕ → List Row → Type 0
HeardAfter journal n rows =
    (list_any (tells_of_answer n) rows ≡ true → IsSome (fold (seen_step n) (last_seen n journal) rows))
    × (fold (claim_step n) (claimed n journal) rows ≤ seen_version (fold (seen_step n) (last_seen n journal) rows))
    × (fold (confirm_step n) (confirmed_version n journal) rows
    ≤ max (seen_version (fold (seen_step n) (last_seen n journal) rows)) (noted_version (fold (noting_step n) (last_noted n journal) rows)))

pub false_is_not_true : false ≡ true → ⊥
false_is_not_true h = cc

-- rows that tell what was seen
pub goes_heard : (s : Kept) (rows : List Row) → Each IsUnsent rows → Each IsUntaken rows → Each IsUnordered rows
    → (FitsCalls s → EachAfter SeesOn s.journal rows) → (FitsCalls s → (n : ℕ) → HeardAfter s.journal n rows) → Goes s (noted rows s)
goes_heard s rows unsent untaken unordered sees heard = record {
  grows = record { rows = rows; is = refl; setting = refl };
  keeps = λ few f. (
      let sum = length-append s.journal rows in
      let room : length s.journal + length rows < 2 ^ 64 = omega (arith, few, sum) in
      let may = unsent_follow rows s.journal unsent in
      let seen = sees_rows rows s.journal s.registers room may (sees f) f.sent (record { rows = f.seen.rows; registers = f.seen.registers }) in
      record {
        sent = fits_rows rows s.journal s.registers room may f.sent;
        seen = record {
          rows = seen.rows;
          registers = seen.registers;
          answered = λ n. answered_more s.journal rows n (f.seen.answered n) (heard f n).0;
          heard = λ n. rw (fold-append (claim_step n) 0 s.journal rows, fold-append (seen_step n) None s.journal rows) (heard f n).1;
          told = λ n. rw (fold-append (confirm_step n) 0 s.journal rows, fold-append (seen_step n) None s.journal rows, fold-append (noting_step n) None s.journal rows) (heard f n).2;
        };
        places = places_rows (length s.journal) s.registers rows (places s) unsent f.places;
        flights = flies_fit (s.journal ++ rows) s.flights (flies_rows s.journal rows s.flights untaken (flies_from s.journal s.flights f.flights));
        orders = orders_unordered s.journal rows unordered f.orders;
      });
}

-- ---- an answer is newer than the last one, or isn't

-- what is known of a number's register
pub record Known (s : Kept) (n : ℕ) (r : Register) : Type 0 where
  pub sent : IsSome (last_sent n s.journal)
  pub answer : r.answer ≡ option_map seen_answer (last_seen n s.journal)
  pub noted : HasNoted (last_noted n s.journal) r

pub known : (s : Kept) (n : ℕ) (r : Register) → register n s.registers ≡ Some r → FitsCalls s → Known s n r
known s n r found f =
    let P : Option Register → Type 0 = λ o. IfSome o (HasSeen (seen_acked n s.journal) (option_map seen_answer (last_seen n s.journal)) (last_noted n s.journal)) in
    record {
      sent = subst IsSome (sym (ap (option_map sent_by) found) ∙ f.sent.registers n) refl;
      answer = (subst P found (f.seen.registers n)).answer;
      noted = (subst P found (f.seen.registers n)).noted;
    }

pub older_by : (o : Option Answer) (v : ℕ) (last : Option SawAnswerRow) → o ≡ option_map seen_answer last → is_newer o v ≡ true
    → IfSome last (λ l. l.answer_version < v)
older_by o v None e new = tt
older_by None v (Some l) e new = cc
older_by (Some x) v (Some l) e new =
    let same : x.answer_version ≡ l.answer_version = ap (λ (y : Answer). y.answer_version) (answer_is x (seen_answer l) e) in
    let less = ltb-true x.answer_version v new in omega (arith, same, less)
  where
    answer_is : (x y : Answer) → Some x ≡ Some y → x ≡ y
    answer_is x y e = cc

pub as_new_by : (o : Option Answer) (v : ℕ) (last : Option SawAnswerRow) → o ≡ option_map seen_answer last → is_newer o v ≡ false → v ≤ seen_version last
as_new_by None v last e old = cc
as_new_by (Some x) v None e old = cc
as_new_by (Some x) v (Some l) e old =
    let same : x.answer_version ≡ l.answer_version = ap (λ (y : Answer). y.answer_version) (answer_is x (seen_answer l) e) in
    let least = ltb-false x.answer_version v old in omega (arith, same, least)
  where
    answer_is : (x y : Answer) → Some x ≡ Some y → x ≡ y
    answer_is x y e = cc

-- one that isn't newer follows one that was seen
pub seen_by : (o : Option Answer) (v : ℕ) (last : Option SawAnswerRow) → o ≡ option_map seen_answer last → is_newer o v ≡ false → IsSome last
seen_by None v last e old = cc
seen_by (Some x) v None e old = cc
seen_by (Some x) v (Some l) e old = refl

pub claims_below : (c v : ℕ) (last : Option SawAnswerRow) → c ≤ seen_version last → IfSome last (λ l. l.answer_version < v) → max c v ≤ v
claims_below c v None h new = omega (arith, h)
claims_below c v (Some l) h new = omega (arith, h, new)

-- ---- a live answer

pub live_new : (s : Kept) (n v version : ℕ) (a : SawAnswerRow) (r : Register) → a.number ≡ n → a.answer_version ≡ v → a.how ≡ SeenLive → register n s.registers ≡ Some r
    → is_newer r.answer v ≡ true → Goes s (noted (SawAck (record { number = n; version = version; how = WithAnswer v }) ∷ (SawAnswer a ∷ [])) s)
live_new s n v version a r an av live found new =
    let ack : Row = SawAck (record { number = n; version = version; how = WithAnswer v }) in
    goes_heard s (ack ∷ (SawAnswer a ∷ [])) (tt, (tt, tt)) (tt, (tt, tt)) (tt, (tt, tt))
    (λ f. (let k = known s n r found f in
    let S : ℕ → Type 0 = λ m. IsSome (last_sent m (s.journal ++ ack ∷ [])) in
    let A : ℕ → Type 0 = λ m. IfSome (last_seen m (s.journal ++ ack ∷ [])) (λ l. l.answer_version < a.answer_version) in
    let B : ℕ → Type 0 = λ x. IfSome (last_seen n (s.journal ++ ack ∷ [])) (λ l. l.answer_version < x) in
    let L : Option SawAnswerRow → Type 0 = λ o. IfSome o (λ l. l.answer_version < v) in
    let older = older_by r.answer v (last_seen n s.journal) k.answer new in (
      k.sent,
      (
        (
          subst S (sym an) (subst IsSome (sym (fold_push (sent_step n) None s.journal ack)) k.sent),
          subst A (sym an) (subst B (sym av) (subst L (sym (fold_push (seen_step n) None s.journal ack)) older)),
          (let H : SawHow → Type 0 = λ h. ComesBy h (s.journal ++ ack ∷ []) a in subst H (sym live) tt),
        ),
        tt,
      ),
    )))
    (λ f m. elim (cases_Bool (nat_eq n m)) [
      | inl is ↦ (let k = known s n r found f in
          let R : ℕ → Type 0 = λ j. max (claimed j s.journal) v ≤ a.answer_version in
          let below = subst R (eqb-true n m is) (above k f) in
          let also : nat_eq a.number m ≡ true = ap (λ j. nat_eq j m) an ∙ is in
          let T : ℕ → Type 0 = λ j. confirmed_version j s.journal ≤ max a.answer_version (noted_version (last_noted j s.journal)) in
          let told_of = subst T (eqb-true n m is) (under k f) in
          rw (is, also) ((λ told. refl), below, told_of))
      | inr differs ↦ (let also : nat_eq a.number m ≡ false = ap (λ j. nat_eq j m) an ∙ differs in rw (differs, also) ((λ told. absurd (false_is_not_true told)), f.seen.heard m, f.seen.told m))
    ])
  where
    above : Known s n r → FitsCalls s → max (claimed n s.journal) v ≤ a.answer_version
    above k f =
        let older = older_by r.answer v (last_seen n s.journal) k.answer new in
        let most = claims_below (claimed n s.journal) v (last_seen n s.journal) (f.seen.heard n) older in
        omega (arith, most, av)

    under : Known s n r → FitsCalls s → confirmed_version n s.journal ≤ max a.answer_version (noted_version (last_noted n s.journal))
    under k f =
        let older = older_by r.answer v (last_seen n s.journal) k.answer new in
        let most = told_more (confirmed_version n s.journal) v (noted_version (last_noted n s.journal)) (last_seen n s.journal) older (f.seen.told n) in
        omega (arith, most, av)

pub live_old : (s : Kept) (n v version : ℕ) (r : Register) → register n s.registers ≡ Some r → is_newer r.answer v ≡ false
    → Goes s (noted (SawAck (record { number = n; version = version; how = WithAnswer v }) ∷ []) s)
live_old s n v version r found old =
    goes_heard s (SawAck (record { number = n; version = version; how = WithAnswer v }) ∷ []) (tt, tt) (tt, tt) (tt, tt)
    (λ f. ((known s n r found f).sent, tt))
    (λ f m. elim (cases_Bool (nat_eq n m)) [
      | inl is ↦ (let k = known s n r found f in
          let R : ℕ → Type 0 = λ j. max (claimed j s.journal) v ≤ seen_version (last_seen j s.journal) in
          let S : ℕ → Type 0 = λ j. IsSome (last_seen j s.journal) in
          let some = subst S (eqb-true n m is) (seen_by r.answer v (last_seen n s.journal) k.answer old) in
          rw is ((λ told. some), subst R (eqb-true n m is) (above k f), f.seen.told m))
      | inr differs ↦ rw differs ((λ told. absurd (false_is_not_true told)), f.seen.heard m, f.seen.told m)
    ])
  where
    above : Known s n r → FitsCalls s → max (claimed n s.journal) v ≤ seen_version (last_seen n s.journal)
    above k f = (let most = as_new_by r.answer v (last_seen n s.journal) k.answer old in let heard = f.seen.heard n in omega (arith, most, heard))
