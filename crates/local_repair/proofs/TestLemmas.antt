-- The tests say what the facts say: which entry is current, which is the first that is stale, and what a step makes of a log.
use Rattle.std.proofs.Common.{◌≡◌, ℕ, zero, suc, ◌<◌, Bool, true, false, not, ◌&&◌, ◌||◌, List, [], ◌∷◌, Option, Some, None, IsSomeAnd, map, length, get_or, set, take, refl, sym, ap, inl, inr, arith, nat_eq, option_map, eqb-true, eq-eqb}
use Rattle.std.specs.Coded.{coded_ℕ, coded_bool, coded_list, coded_option}
use Rattle.std.specs.List.{list_all}
use Rattle.std.proofs.lemmas.Bool.{and_parts, and_from, cases_Bool}
use Rattle.std.proofs.lemmas.List.{get_or_default}
use Rattle.std.proofs.lemmas.List.Sums.{AllPass-from_list_all, list_all-from_AllPass}
use Rattle.std.proofs.lemmas.List.Elements.{All-weaker}
use Rattle.lang_base.specs.Equal.{equal}
use Rattle.lang_base.proofs.EqualLemmas.{equal-true, equal-same}
use Rattle.lang_core.specs.Rows.{get, scan}
use Rattle.lang_core.specs.contracts.cells.Cell as cell
use Rattle.lang_core.specs.contracts.request.Request as request
use Rattle.lang_core.specs.contracts.request.Response as response
use Rattle.lang_core.specs.declared.cells.Cell.{Cell}
use Rattle.lang_core.specs.declared.trace.Read.{Read}
use Rattle.lang_core.specs.declared.trace.Read.TheVariants.{Key, Scan}
use Rattle.request_log.specs.HandedOn.{block_code}
use Rattle.execution.specs.HandedOn.{Gives, GivesAll, handler_of}
use Rattle.request_log.specs.Entries.{is_alive}
use Rattle.request_log.specs.declared.entry.Entry.{Entry}
use Rattle.request_log.specs.declared.entry.Made.{Made}
use Rattle.local_repair.specs.Current.{Consumed, after_entry, rows_after, IsCurrentRecord, IsCurrent, AllCurrent, IsFirstStale}
use Rattle.local_repair.specs.Repairs.{IsStaleId, stale_id}
use Rattle.local_repair.specs.Programs.{HasItsHandler}
use Rattle.local_repair.specs.Tests.{gives, has_its_handler, is_current_record, has_current, is_current, first_stale, step_with}

pub gives-true : (rows : List Cell) (r : Read) → gives rows r ≡ true → Gives rows r
gives-true rows (Key t k found) h = equal-true (coded_option (coded_list coded_ℕ)) (get rows t k) found h
gives-true rows (Scan t prefix found) h = equal-true (coded_list cell.the_row.coded) (scan rows t prefix) found h

pub gives-from : (rows : List Cell) (r : Read) → Gives rows r → gives rows r ≡ true
gives-from rows (Key t k found) h = equal-same (coded_option (coded_list coded_ℕ)) (get rows t k) found h
gives-from rows (Scan t prefix found) h = equal-same (coded_list cell.the_row.coded) (scan rows t prefix) found h

reads-true : (rows : List Cell) (reads : List Read) → list_all (gives rows) reads ≡ true → GivesAll rows reads
reads-true rows reads h =
    All-weaker (λ r. gives rows r ≡ true) (Gives rows) (λ r. gives-true rows r) reads (AllPass-from_list_all (gives rows) reads h)

reads-from : (rows : List Cell) (reads : List Read) → GivesAll rows reads → list_all (gives rows) reads ≡ true
reads-from rows reads h =
    list_all-from_AllPass (gives rows) reads (All-weaker (Gives rows) (λ r. gives rows r ≡ true) (λ r. gives-from rows r) reads h)

alive_false : (b c : Bool) → (not b || c) ≡ true → b ≡ true → c ≡ true
alive_false true c h alive = h
alive_false false c h alive = cc

alive_or : (b c : Bool) → (b ≡ true → c ≡ true) → (not b || c) ≡ true
alive_or true c h = h refl
alive_or false c h = refl

-- whether the handler is the same
abbrev leads_alike : Entry → Bool
leads_alike e = equal (coded_option block_code) (handler_of e.under.ran.program e.request) (handler_of e.under.now.program e.request)

pub handler_true : (e : Entry) → has_its_handler e ≡ true → HasItsHandler e
handler_true e h = λ alive.
    equal-true (coded_option block_code) (handler_of e.under.ran.program e.request) (handler_of e.under.now.program e.request) (alive_false (is_alive e) (leads_alike e) h alive)

pub handler_from : (e : Entry) → HasItsHandler e → has_its_handler e ≡ true
handler_from e h =
    alive_or (is_alive e) (leads_alike e)
    (λ alive. equal-same (coded_option block_code) (handler_of e.under.ran.program e.request) (handler_of e.under.now.program e.request) (h alive))

record_true : (consumed : Consumed) (rows : List Cell) (e : Entry) (m : Made) → is_current_record consumed rows e m ≡ true → IsCurrentRecord consumed rows e m
record_true consumed rows e m h =
    let a = equal coded_bool m.alive (is_alive e) in
    let v = nat_eq m.version e.version in
    let q = equal request.the_row.coded m.request e.request in
    let r = list_all (gives rows) m.trace.reads in
    let s = equal (coded_list response.the_row.coded) m.trace.answers (map consumed e.slots) in
    let p5 = and_parts (a && v && q && r && s) (has_its_handler e) h in
    let p4 = and_parts (a && v && q && r) s p5.0 in
    let p3 = and_parts (a && v && q) r p4.0 in
    let p2 = and_parts (a && v) q p3.0 in
    let p1 = and_parts a v p2.0 in
    record {
      alive = equal-true coded_bool m.alive (is_alive e) p1.0;
      version = eqb-true m.version e.version p1.1;
      request = equal-true request.the_row.coded m.request e.request p2.1;
      reads = reads-true rows m.trace.reads p3.1;
      answers = equal-true (coded_list response.the_row.coded) m.trace.answers (map consumed e.slots) p4.1;
      handler = handler_true e p5.1;
    }

record_from : (consumed : Consumed) (rows : List Cell) (e : Entry) (m : Made) → IsCurrentRecord consumed rows e m → is_current_record consumed rows e m ≡ true
record_from consumed rows e m h =
    let a = equal coded_bool m.alive (is_alive e) in
    let v = nat_eq m.version e.version in
    let q = equal request.the_row.coded m.request e.request in
    let r = list_all (gives rows) m.trace.reads in
    let s = equal (coded_list response.the_row.coded) m.trace.answers (map consumed e.slots) in
    and_from (a && v && q && r && s) (has_its_handler e)
    (and_from (a && v && q && r) s
    (and_from (a && v && q) r
    (and_from (a && v) q
    (and_from a v (equal-same coded_bool m.alive (is_alive e) h.alive) (eq-eqb m.version e.version h.version))
    (equal-same request.the_row.coded m.request e.request h.request))
    (reads-from rows m.trace.reads h.reads))
    (equal-same (coded_list response.the_row.coded) m.trace.answers (map consumed e.slots) h.answers))
    (handler_from e h.handler)

has_true : (consumed : Consumed) (rows : List Cell) (e : Entry) (made : Option Made) → has_current consumed rows e made ≡ true
    → IsSomeAnd made (λ m. IsCurrentRecord consumed rows e m)
has_true consumed rows e None h = cc
has_true consumed rows e (Some m) h = record_true consumed rows e m h

has_from : (consumed : Consumed) (rows : List Cell) (e : Entry) (made : Option Made) → IsSomeAnd made (λ m. IsCurrentRecord consumed rows e m)
    → has_current consumed rows e made ≡ true
has_from consumed rows e None h = absurd h
has_from consumed rows e (Some m) h = record_from consumed rows e m h

-- the test passes exactly where the entry is current
pub is_current-true : (consumed : Consumed) (rows : List Cell) (e : Entry) → is_current consumed rows e ≡ true → IsCurrent consumed rows e
is_current-true consumed rows e h = has_true consumed rows e e.made h

pub is_current-from : (consumed : Consumed) (rows : List Cell) (e : Entry) → IsCurrent consumed rows e → is_current consumed rows e ≡ true
is_current-from consumed rows e h = has_from consumed rows e e.made h

pub is_current-false : (consumed : Consumed) (rows : List Cell) (e : Entry) → (IsCurrent consumed rows e → ⊥) → is_current consumed rows e ≡ false
is_current-false consumed rows e h = elim (cases_Bool (is_current consumed rows e)) [
  | inl is ↦ absurd (h (is_current-true consumed rows e is))
  | inr not ↦ not
]

-- where all are current, there is no first stale entry
pub first_stale_none : (consumed : Consumed) (entries : List Entry) (rows : List Cell) → AllCurrent consumed rows entries → first_stale consumed rows entries ≡ None
first_stale_none consumed [] rows h = refl
first_stale_none consumed (e ∷ es) rows h = rw (is_current-from consumed rows e h.0) (first_stale_none consumed es (after_entry rows e) h.1)

-- where all before a place are current, and the entry there isn't, it is the first stale entry
stale_from : (consumed : Consumed) (entries : List Entry) (rows : List Cell) (place : ℕ) (d : Entry) → place < length entries → AllCurrent consumed rows (take place entries)
    → (IsCurrent consumed (rows_after rows (take place entries)) (get_or entries place d) → ⊥) → first_stale consumed rows entries ≡ Some (get_or entries place d)
stale_from consumed [] rows place d l before stale = absurd (omega arith)
stale_from consumed (e ∷ es) rows zero d l before stale = rw (is_current-false consumed rows e stale) refl
stale_from consumed (e ∷ es) rows (suc place) d l before stale =
    rw (is_current-from consumed rows e before.0) (stale_from consumed es (after_entry rows e) place d (omega arith) before.1 stale)

pub first_stale_at : (consumed : Consumed) (base : List Cell) (entries : List Entry) (place : ℕ) (d : Entry) → IsFirstStale consumed base entries place
    → first_stale consumed base entries ≡ Some (get_or entries place d)
first_stale_at consumed base entries place d first = stale_from consumed entries base place d first.within first.before (first.stale d)

-- where all are current, none is the first stale entry
some_none : (o : Option Entry) (e : Entry) → o ≡ None → o ≡ Some e → ⊥
some_none None e n s = cc
some_none (Some x) e n s = cc

pub none_first : (consumed : Consumed) (base : List Cell) (entries : List Entry) (place : ℕ) → AllCurrent consumed base entries → IsFirstStale consumed base entries place → ⊥
none_first consumed base [] place all first = absurd (omega (arith, first.within))
none_first consumed base (e ∷ es) place all first =
    some_none (first_stale consumed base (e ∷ es)) (get_or (e ∷ es) place e) (first_stale_none consumed (e ∷ es) base all) (first_stale_at consumed base (e ∷ es) place e first)

-- a step where all are current changes nothing
pub step_with_none : (consumed : Consumed) (remake : List Cell → Entry → Entry) (entries : List Entry) (rows : List Cell) → AllCurrent consumed rows entries
    → step_with consumed remake rows entries ≡ entries
step_with_none consumed remake [] rows h = refl
step_with_none consumed remake (e ∷ es) rows h =
    rw (is_current-from consumed rows e h.0) (ap (λ xs. e ∷ xs) (step_with_none consumed remake es (after_entry rows e) h.1))

step_from : (consumed : Consumed) (remake : List Cell → Entry → Entry) (entries : List Entry) (rows : List Cell) (place : ℕ) (d : Entry) → place < length entries
    → AllCurrent consumed rows (take place entries) → (IsCurrent consumed (rows_after rows (take place entries)) (get_or entries place d) → ⊥)
    → step_with consumed remake rows entries ≡ set entries place (remake (rows_after rows (take place entries)) (get_or entries place d))
step_from consumed remake [] rows place d l before stale = absurd (omega arith)
step_from consumed remake (e ∷ es) rows zero d l before stale = rw (is_current-false consumed rows e stale) refl
step_from consumed remake (e ∷ es) rows (suc place) d l before stale =
    rw (is_current-from consumed rows e before.0)
    (ap (λ xs. e ∷ xs) (step_from consumed remake es (after_entry rows e) place d (omega arith) before.1 stale))

-- a step makes the first stale entry anew, at its place
pub step_with_at : (consumed : Consumed) (remake : List Cell → Entry → Entry) (base : List Cell) (entries : List Entry) (place : ℕ) (d : Entry) → IsFirstStale consumed base entries place
    → step_with consumed remake base entries ≡ set entries place (remake (rows_after base (take place entries)) (get_or entries place d))
step_with_at consumed remake base entries place d first = step_from consumed remake entries base place d first.within first.before (first.stale d)

pub stale_id_none : (consumed : Consumed) (base : List Cell) (entries : List Entry) → AllCurrent consumed base entries → None ≡ stale_id consumed base entries
stale_id_none consumed base entries h = sym (ap (λ o. option_map (λ (e : Entry). e.id) o) (first_stale_none consumed entries base h))

pub stale_id_at : (consumed : Consumed) (base : List Cell) (entries : List Entry) (place : ℕ) (d : Entry) → IsFirstStale consumed base entries place
    → Some (get_or entries place d).id ≡ stale_id consumed base entries
stale_id_at consumed base entries place d first = sym (ap (λ o. option_map (λ (e : Entry). e.id) o) (first_stale_at consumed base entries place d first))

-- its number, where the entry there has it
pub is_stale_id : (consumed : Consumed) (base : List Cell) (entries : List Entry) (place : ℕ) (x : Entry) → IsFirstStale consumed base entries place → IsStaleId consumed base entries (get_or entries place x).id
is_stale_id consumed base entries place x first = record {
  place = place;
  first = first;
  names = λ d. ap (λ (e : Entry). e.id) (get_or_default entries place d x first.within);
}
