-- What orders of programs and of rules make of what follows from a journal of these: a new program has the next number, and stands in an
-- earlier one's place where it is a correction.
use Rattle.std.proofs.Common.{◌≡◌, ℕ, ◌+◌, true, false, List, [], ◌∷◌, ◌++◌, Option, map, nat_eq, refl, sym, ap, ◌∙◌, inl, inr, arith, ne_eqb, if◌then◌else◌}
use Rattle.std.proofs.lemmas.Bool.{cases_Bool, cond-true, cond-false}
use Rattle.std.proofs.lemmas.List.Elements.{All-map, All-weaker}
use Rattle.std.proofs.lemmas.List.Sums.{fold_push}
use Rattle.lang_core.specs.declared.request.Request.{Request}
use Rattle.lang_tree.specs.declared.program.Route.{Route}
use Rattle.lang_programs.specs.Numbered.{Numbered}
use Rattle.request_log.specs.Entries.{corrected, with_correction}
use Rattle.request_log.specs.declared.entry.Entry.{Entry}
use Rattle.authorise_rules.specs.Given.{GivenRules}
use Rattle.journal_rows.specs.Programs.{brought_step, is_number, is_replaced, move_step, newest_step, program_count, program_now, programs, replaced_step, rules_step}
use Rattle.journal_rows.specs.Words.{asked}
use Rattle.journal_rows.specs.declared.callee.AskedRow.{AskedRow}
use Rattle.journal_rows.specs.declared.orders.About.{About}
use Rattle.journal_rows.specs.declared.orders.About.TheVariants.{Program as AboutProgram, Rules as AboutRules}
use Rattle.journal_rows.specs.declared.orders.Command.{Command}
use Rattle.journal_rows.specs.declared.orders.Command.TheVariants.{Deploy, Correct, Rules}
use Rattle.journal_rows.specs.declared.row.Row.{Row}
use Rattle.journal_rows.specs.declared.row.Row.TheVariants.{Ordered}
use Rattle.flights.specs.Corrections.{corrected_flight}
use Rattle.flights.specs.declared.flight.Flight.{Flight}
use Rattle.service_events.specs.Fits.{HasNumber, IsInUse, IsUnder, ProgramsFollow, ProgramsOn, WasUnder}
use Rattle.service_events.specs.Orders.{newest_by}
use Rattle.service_events.proofs.CallRowLemmas.{EachAfter-append}
use Rattle.service_events.proofs.ProgramLemmas.{KeepsPlaces, asked_more, free_above, last_there, number_most, some_at, there_more, under_more, use_more, was_more}
use Rattle.service_events.proofs.SearchLemmas.{some_and}

module _ (first : List Route) (began rules : GivenRules) (newest : Numbered) (j : List Row) (past es : List Entry) (fs : List Flight)
    (h : ProgramsFollow first began rules newest j past es fs) (token who : List ℕ) (rule : ℕ) (original repaired : Option Request) where
  abbrev row : Command → About → Row
  row command about =
      Ordered (record { token = token; command = command; who = who; rule = rule; original = original; repaired = repaired; about = about })

  -- nothing stands in the place of the next number yet
  next_free : is_replaced (program_count j + 1) j ≡ false
  next_free = free_above j h.rows (program_count j + 1) (omega arith)

  -- ---- rules

  pub ruled_follow : (g : GivenRules) → ProgramsFollow first began g newest (j ++ row (Rules g) AboutRules ∷ []) past es fs
  ruled_follow g =
      let rows = row (Rules g) AboutRules ∷ [] in
      let keeps : KeepsPlaces j (j ++ row (Rules g) AboutRules ∷ []) =
      record { now = λ n. fold_push move_step n j (row (Rules g) AboutRules); replaced = λ n. fold_push (replaced_step n) false j (row (Rules g) AboutRules) } in
      record {
        rows = EachAfter-append ProgramsOn j rows [] h.rows (tt, tt);
        rules = sym (fold_push rules_step began j (row (Rules g) AboutRules));
        newest = h.newest ∙ sym (fold_push newest_step (record { number = 1; program = first }) j (row (Rules g) AboutRules));
        current = use_more first j rows keeps newest h.current;
        past = All-weaker (WasUnder first j) (WasUnder first (j ++ rows)) (was_more first j rows) past h.past;
        entries = All-weaker (IsUnder first j) (IsUnder first (j ++ rows)) (under_more first j rows keeps) es h.entries;
        flights = All-weaker (λ (f : Flight). IsInUse first j f.program) (λ (f : Flight). IsInUse first (j ++ rows) f.program)
            (λ f used. use_more first j rows keeps f.program used) fs h.flights;
      }

  module _ (p : List Route) where
    abbrev brought : Numbered
    brought = record { number = program_count j + 1; program = p }

    abbrev about : About
    about = AboutProgram (program_count j + 1)

    -- ---- a deployment

    deployed_use : IsInUse first (j ++ row (Deploy p) (AboutProgram (program_count j + 1)) ∷ []) (record { number = program_count j + 1; program = p })
    deployed_use = record {
      there = last_there first j (row (Deploy p) about) p (fold_push brought_step (first ∷ []) j (row (Deploy p) about));
      stands = fold_push (replaced_step (program_count j + 1)) false j (row (Deploy p) about) ∙ next_free;
    }

    pub deployed_follow : ProgramsFollow first began rules (record { number = program_count j + 1; program = p }) (j ++ row (Deploy p) (AboutProgram (program_count j + 1)) ∷ []) past es fs
    deployed_follow =
        let rows = row (Deploy p) about ∷ [] in
        let keeps : KeepsPlaces j (j ++ row (Deploy p) (AboutProgram (program_count j + 1)) ∷ []) =
        record { now = λ n. fold_push move_step n j (row (Deploy p) about); replaced = λ n. fold_push (replaced_step n) false j (row (Deploy p) about) } in
        record {
          rows = EachAfter-append ProgramsOn j rows [] h.rows (refl, tt);
          rules = h.rules ∙ sym (fold_push rules_step began j (row (Deploy p) about));
          newest = sym (fold_push newest_step (record { number = 1; program = first }) j (row (Deploy p) about));
          current = deployed_use;
          past = All-weaker (WasUnder first j) (WasUnder first (j ++ rows)) (was_more first j rows) past h.past;
          entries = All-weaker (IsUnder first j) (IsUnder first (j ++ rows)) (under_more first j rows keeps) es h.entries;
          flights = All-weaker (λ (f : Flight). IsInUse first j f.program) (λ (f : Flight). IsInUse first (j ++ rows) f.program)
              (λ f used. use_more first j rows keeps f.program used) fs h.flights;
        }

    -- ---- a correction

    module _ (k : ℕ) (known : is_number k j ≡ true) where
      abbrev rows : List Row
      rows = row (Correct k p) (AboutProgram (program_count j + 1)) ∷ []

      next_other : nat_eq (program_count j + 1) k ≡ false
      next_other = (let most = number_most k j known in ne_eqb (program_count j + 1) k (λ same. omega (arith, same, most)))

      replaced_now : (n : ℕ) → is_replaced n (j ++ rows) ≡ (if nat_eq n k then true else is_replaced n j)
      replaced_now n = fold_push (replaced_step n) false j (row (Correct k p) about)

      moved_now : (n : ℕ) → program_now n (j ++ rows) ≡ (if nat_eq (program_now n j) k then program_count j + 1 else program_now n j)
      moved_now n = fold_push move_step n j (row (Correct k p) about)

      -- the new program is in use
      brought_use : IsInUse first (j ++ rows) brought
      brought_use = record {
        there = last_there first j (row (Correct k p) about) p (fold_push brought_step (first ∷ []) j (row (Correct k p) about));
        stands = replaced_now (program_count j + 1) ∙ cond-false (nat_eq (program_count j + 1) k) true (is_replaced (program_count j + 1) j) next_other ∙ next_free;
      }

      -- another one is in use still
      other_use : (n : Numbered) → nat_eq n.number k ≡ false → IsInUse first j n → IsInUse first (j ++ rows) n
      other_use n other used = record {
        there = there_more first j rows n used.there;
        stands = replaced_now n.number ∙ cond-false (nat_eq n.number k) true (is_replaced n.number j) other ∙ used.stands;
      }

      newest_use : (n : Numbered) → IsInUse first j n → IsInUse first (j ++ rows) (newest_by k brought n)
      newest_use n used = elim (cases_Bool (nat_eq n.number k)) [
        | inl is ↦ rw is brought_use
        | inr isnt ↦ rw isnt (other_use n isnt used)
      ]

      flight_use : (f : Flight) → IsInUse first j f.program → IsInUse first (j ++ rows) (corrected_flight k brought f).program
      flight_use f used = elim (cases_Bool (nat_eq f.program.number k)) [
        | inl is ↦ rw is brought_use
        | inr isnt ↦ rw isnt (other_use f.program isnt used)
      ]

      -- the number of an entry follows
      number_by : (e : Entry) (m : ℕ) → ((a : AskedRow) → e.under.now.number ≡ program_now a.program j → m ≡ program_now a.program (j ++ rows)) → HasNumber j e
          → HasNumber (j ++ rows) (record e { under = record e.under { now = record { number = m; program = p } } })
      number_by e m follows number =
          let at = some_at (asked e.id j) (λ (a : AskedRow). e.under.now.number ≡ program_now a.program j) number in
          some_and (asked e.id (j ++ rows)) at.0 (λ (a : AskedRow). m ≡ program_now a.program (j ++ rows)) (asked_more e.id j rows at.0 at.1) (follows at.0 at.2)

      corrected_number : (e : Entry) → nat_eq e.under.now.number k ≡ true → HasNumber j e → HasNumber (j ++ rows) (with_correction brought e)
      corrected_number e is number =
          number_by e (program_count j + 1)
          (λ a same. sym (moved_now a.program
          ∙ cond-true (nat_eq (program_now a.program j) k) (program_count j + 1) (program_now a.program j) (ap (λ n. nat_eq n k) (sym same) ∙ is)))
          number

      other_number : (e : Entry) → nat_eq e.under.now.number k ≡ false → HasNumber j e → HasNumber (j ++ rows) e
      other_number e other number =
          let at = some_at (asked e.id j) (λ (a : AskedRow). e.under.now.number ≡ program_now a.program j) number in
          some_and (asked e.id (j ++ rows)) at.0 (λ (a : AskedRow). e.under.now.number ≡ program_now a.program (j ++ rows)) (asked_more e.id j rows at.0 at.1)
          (at.2 ∙ sym (moved_now (at.0).program
          ∙ cond-false (nat_eq (program_now (at.0).program j) k) (program_count j + 1) (program_now (at.0).program j) (ap (λ n. nat_eq n k) (sym at.2) ∙ other)))

      entry_use : (e : Entry) → IsUnder first j e → IsUnder first (j ++ rows) (corrected k brought e)
      entry_use e u = elim (cases_Bool (nat_eq e.under.now.number k)) [
        | inl is ↦ rw is (record {
          number = corrected_number e is u.number;
          now = brought_use;
          ran = there_more first j rows e.under.ran u.ran;
        })
        | inr isnt ↦ rw isnt (record {
          number = other_number e isnt u.number;
          now = other_use e.under.now isnt u.now;
          ran = there_more first j rows e.under.ran u.ran;
        })
      ]

      pub corrected_follow : ProgramsFollow first began rules (newest_by k (record { number = program_count j + 1; program = p }) newest)
          (j ++ row (Correct k p) (AboutProgram (program_count j + 1)) ∷ []) past (map (corrected k (record { number = program_count j + 1; program = p })) es)
          (map (corrected_flight k (record { number = program_count j + 1; program = p })) fs)
      corrected_follow = record {
        rows = EachAfter-append ProgramsOn j rows [] h.rows ((refl, known), tt);
        rules = h.rules ∙ sym (fold_push rules_step began j (row (Correct k p) about));
        newest = ap (newest_by k brought) h.newest ∙ sym (fold_push newest_step (record { number = 1; program = first }) j (row (Correct k p) about));
        current = newest_use newest h.current;
        past = All-weaker (WasUnder first j) (WasUnder first (j ++ rows)) (was_more first j rows) past h.past;
        entries = All-map (IsUnder first (j ++ rows)) (corrected k brought) es
            (All-weaker (IsUnder first j) (λ e. IsUnder first (j ++ rows) (corrected k brought e)) entry_use es h.entries);
        flights = All-map (λ (f : Flight). IsInUse first (j ++ rows) f.program) (corrected_flight k brought) fs
            (All-weaker (λ (f : Flight). IsInUse first j f.program) (λ (f : Flight). IsInUse first (j ++ rows) (corrected_flight k brought f).program) flight_use fs h.flights);
      }
