-- A service without a fault of its own is its history's replay.
use Rattle.std.proofs.Common.{◌≡◌, Bool, true, false, cond, not, ◌&&◌, nat_eq, List, [], ◌∷◌, Option, Some, None, IfSome, Result, Ok, length, map, refl, sym, ap, ◌∙◌, subst, eqb-true, eq-eqb}
use Rattle.std.specs.Coded.{coded_list}
use Rattle.std.specs.List.{AllByRecursion}
use Rattle.std.specs.Option.{option_map}
use Rattle.std.proofs.lemmas.Bool.{and_from, and_parts}
use Rattle.lang_base.specs.Equal.{equal}
use Rattle.lang_base.proofs.EqualLemmas.{equal-true, equal-same}
use Rattle.lang_core.specs.Rows.{apply}
use Rattle.lang_core.specs.Traces.{dead_trace}
use Rattle.lang_core.specs.contracts.cells.Cell as cell
use Rattle.lang_core.specs.contracts.request.Response as response
use Rattle.lang_core.specs.contracts.trace.CallMade as call_made
use Rattle.lang_core.specs.declared.cells.Cell.{Cell}
use Rattle.lang_core.specs.declared.request.Response.{Response}
use Rattle.lang_core.specs.declared.setting.Setting.{Setting}
use Rattle.lang_core.specs.declared.trace.CallMade.{CallMade}
use Rattle.lang_core.specs.declared.trace.Trace.{Trace}
use Rattle.handler_run.specs.Handlers.{run_of}
use Rattle.handler_run.specs.HandedOn.{with_program}
use Rattle.handler_run.specs.declared.state.Ran.{Ran}
use Rattle.handler_run.specs.declared.state.Ran.TheVariants.{Done, Wants}
use Rattle.execution.specs.Executions.{Act, Deed, IsEmptyIfDead, IsPlayed, IsReplay, Replays, deed_of}
use Rattle.dump_tables.specs.declared.dump.DumpEntry.{DumpEntry}
use Rattle.dump_audit.specs.Histories.{act_of, deed}
use Rattle.dump_audit.specs.Judging.{Found, after, checked, difference, ended, goes_on, is_alive, is_response, is_told, replay_from, same_calls, stepped, trace_of}
use Rattle.dump_audit.specs.declared.judged.Fault.{Fault}
use Rattle.dump_audit.specs.declared.judged.Fault.TheVariants as fault
use Rattle.dump_audit.proofs.Firsts.{goes_none}

-- ---- parts

some_same : {X : Type 0} (x y : X) → Some x ≡ Some y → x ≡ y
some_same x y h = cc

pub told_is : (reply : Option Response) (r : Response) → is_response reply r ≡ true → reply ≡ Some r
told_is None r h = absurd cc
told_is (Some x) r h = ap Some (equal-true response.the_row.coded x r h)

pub is_told_so : (reply : Option Response) (r : Response) → reply ≡ Some r → is_response reply r ≡ true
is_told_so reply r e = ap (λ (o : Option Response). is_response o r) e ∙ equal-same response.the_row.coded r r refl

done_of : (ran : Ran) (t : Trace) → ended ran ≡ Some t → ran ≡ Done t
done_of (Done x) t h = ap Done (some_same x t h)
done_of (Wants slot calls call) t h = absurd cc

live_trace : (b : Bool) (ran : Ran) (t : Trace) → cond b (ended ran) (Some dead_trace) ≡ Some t → b ≡ true → ran ≡ Done t
live_trace true ran t h is = done_of ran t h
live_trace false ran t h is = absurd cc

dead_one : (b : Bool) (ran : Ran) (t : Trace) → cond b (ended ran) (Some dead_trace) ≡ Some t → b ≡ false → t ≡ dead_trace
dead_one true ran t h is = absurd cc
dead_one false ran t h is = sym (some_same dead_trace t h)

ok_of : (o : Option Fault) (rows next : List Cell) → stepped o rows ≡ Ok next → (o ≡ None) × (rows ≡ next)
ok_of None rows next h = let same : rows ≡ next = cc in (refl, same)
ok_of (Some what) rows next h = absurd cc

no_difference : (a b : Bool) → cond {A = Option Fault} (not a) (Some fault.Calls) (cond (not b) (Some fault.Reply) None) ≡ None → (a ≡ true) × (b ≡ true)
no_difference true true h = (refl, refl)
no_difference true false h = absurd cc
no_difference false b h = absurd cc

did_so : (e : DumpEntry) (t : Trace) → e.calls ≡ t.calls → e.reply ≡ Some t.response → option_map (deed e.calls) e.reply ≡ Some (deed_of t)
did_so e t calls told = ap (option_map (deed e.calls)) told ∙ ap (λ (cs : List CallMade). Some (deed cs t.response)) calls

-- ---- an entry without a fault

record PlaysOn (setting : Setting) (rows : List Cell) (e : DumpEntry) (next : List Cell) : Type 0 where
  trace : Trace
  plays : IsPlayed setting rows (act_of e) trace
  leads : apply rows trace.writes ≡ next

played : (setting : Setting) (rows : List Cell) (e : DumpEntry) (t : Trace) → trace_of setting rows e ≡ Some t → same_calls e t ≡ true
    → is_response e.reply t.response ≡ true → IsPlayed setting rows (act_of e) t
played setting rows e t is same reply =
    let ran = run_of (with_program e.program setting) e.request e.inputs e.answers rows in
    let parts = and_parts (is_told e) (equal (coded_list call_made.the_row.coded) e.calls t.calls && equal (coded_list response.the_row.coded) e.answers t.answers) same in
    let counts = and_parts (nat_eq (length e.numbers) (length e.calls)) (nat_eq (length e.answers) (length e.calls)) parts.0 in
    let lists = and_parts (equal (coded_list call_made.the_row.coded) e.calls t.calls) (equal (coded_list response.the_row.coded) e.answers t.answers) parts.1 in
    let calls : e.calls ≡ t.calls = equal-true (coded_list call_made.the_row.coded) e.calls t.calls lists.0 in
    record {
      live = λ alive. live_trace (is_alive e) ran t is alive;
      dead = λ dead. dead_one (is_alive e) ran t is dead;
      consumed = equal-true (coded_list response.the_row.coded) e.answers t.answers lists.1;
      answered = eqb-true (length e.answers) (length e.calls) counts.1 ∙ ap length calls;
      named = eqb-true (length e.numbers) (length e.calls) counts.0 ∙ ap length calls;
      did = did_so e t calls (told_is e.reply t.response reply);
    }

plays_by : (setting : Setting) (rows : List Cell) (e : DumpEntry) (o : Option Trace) (next : List Cell) → trace_of setting rows e ≡ o
    → checked e rows o ≡ Ok next → PlaysOn setting rows e next
plays_by setting rows e None next is h = absurd cc
plays_by setting rows e (Some t) next is h =
    let ok = ok_of (difference e t) (apply rows t.writes) next h in
    let both = no_difference (same_calls e t) (is_response e.reply t.response) ok.0 in
    record { trace = t; plays = played setting rows e t is both.0 both.1; leads = ok.1 }

same_rows : (b : Bool) (rows last : List Cell) → equal (coded_list cell.the_row.coded) rows last ≡ b → cond {A = Found} b None (Some (0, fault.Rows)) ≡ None → rows ≡ last
same_rows true rows last is h = equal-true (coded_list cell.the_row.coded) rows last is
same_rows false rows last is h = absurd cc

-- entries without a fault replay
pub replays : (setting : Setting) (rows : List Cell) (entries : List DumpEntry) (last : List Cell) → replay_from setting rows entries last ≡ None
    → Replays setting rows (map act_of entries) last
replays setting rows [] last h =
    record { traces = []; replay = same_rows (equal (coded_list cell.the_row.coded) rows last) rows last refl h }
replays setting rows (e ∷ entries) last h =
    let on = goes_none e.id (after setting rows e) (λ next. replay_from setting next entries last) h in
    let plays = plays_by setting rows e (trace_of setting rows e) on.rows refl on.is in
    let rest = replays setting on.rows entries last on.later in
    let R : List Cell → Type 0 = λ r. IsReplay setting r (map act_of entries) rest.traces last in
    record { traces = plays.trace ∷ rest.traces; replay = (plays.plays, subst R (sym plays.leads) rest.replay) }

-- ---- what a replay says of its requests

empty_if_dead : (setting : Setting) (rows : List Cell) (a : Act) (t : Trace) → IsPlayed setting rows a t → IsEmptyIfDead a
empty_if_dead setting rows a t p dead =
    subst (λ (o : Option Deed). IfSome o (λ (d : Deed). d.calls ≡ [])) (sym p.did) (ap (λ (x : Trace). x.calls) (p.dead dead))

each_empty : (setting : Setting) (rows : List Cell) (acts : List Act) (traces : List Trace) (last : List Cell) → IsReplay setting rows acts traces last
    → AllByRecursion IsEmptyIfDead acts
each_empty setting rows [] traces last r = tt
each_empty setting rows (a ∷ acts) [] last r = absurd r
each_empty setting rows (a ∷ acts) (t ∷ traces) last r =
    (empty_if_dead setting rows a t r.0, each_empty setting (apply rows t.writes) acts traces last r.1)

pub replay_empty : (setting : Setting) (rows : List Cell) (acts : List Act) (last : List Cell) → Replays setting rows acts last → AllByRecursion IsEmptyIfDead acts
replay_empty setting rows acts last r = each_empty setting rows acts r.traces last r.replay

-- ---- the other way round

alive_so : (b : Bool) (ran : Ran) (t : Trace) → (b ≡ true → ran ≡ Done t) → (b ≡ false → t ≡ dead_trace) → cond b (ended ran) (Some dead_trace) ≡ Some t
alive_so true ran t live dead = ap ended (live refl)
alive_so false ran t live dead = ap Some (sym (dead refl))

deed_parts : (e : DumpEntry) (reply : Option Response) (t : Trace) → option_map (deed e.calls) reply ≡ Some (deed_of t) → (e.calls ≡ t.calls) × (reply ≡ Some t.response)
deed_parts e None t h = absurd cc
deed_parts e (Some r) t h =
    let same : deed e.calls r ≡ deed_of t = some_same (deed e.calls r) (deed_of t) h in
    (ap (λ (d : Deed). d.calls) same, ap (λ (d : Deed). Some d.response) same)

no_fault : (setting : Setting) (rows : List Cell) (e : DumpEntry) (t : Trace) → IsPlayed setting rows (act_of e) t → after setting rows e ≡ Ok (apply rows t.writes)
no_fault setting rows e t p =
    let parts = deed_parts e e.reply t p.did in
    let is : trace_of setting rows e ≡ Some t = alive_so (is_alive e) (run_of (with_program e.program setting) e.request e.inputs e.answers rows) t p.live p.dead in
    let numbers = eq-eqb (length e.numbers) (length e.calls) (p.named ∙ ap length (sym parts.0)) in
    let answers = eq-eqb (length e.answers) (length e.calls) (p.answered ∙ ap length (sym parts.0)) in
    let counts = and_from (nat_eq (length e.numbers) (length e.calls)) (nat_eq (length e.answers) (length e.calls)) numbers answers in
    let lists = and_from (equal (coded_list call_made.the_row.coded) e.calls t.calls) (equal (coded_list response.the_row.coded) e.answers t.answers)
    (equal-same (coded_list call_made.the_row.coded) e.calls t.calls parts.0) (equal-same (coded_list response.the_row.coded) e.answers t.answers p.consumed) in
    let same : same_calls e t ≡ true = and_from (is_told e) (equal (coded_list call_made.the_row.coded) e.calls t.calls && equal (coded_list response.the_row.coded) e.answers t.answers) counts lists in
    let reply = is_told_so e.reply t.response parts.1 in
    let none : difference e t ≡ None =
    ap (λ (b : Bool). cond {A = Option Fault} (not b) (Some fault.Calls) (cond (not (is_response e.reply t.response)) (Some fault.Reply) None)) same
    ∙ ap (λ (b : Bool). cond {A = Option Fault} (not b) (Some fault.Reply) None) reply in
    ap (checked e rows) is ∙ ap (λ (o : Option Fault). stepped o (apply rows t.writes)) none

no_faults : (setting : Setting) (rows : List Cell) (entries : List DumpEntry) (traces : List Trace) (last : List Cell)
    → IsReplay setting rows (map act_of entries) traces last → replay_from setting rows entries last ≡ None
no_faults setting rows [] [] last r =
    ap (λ (b : Bool). cond {A = Found} b None (Some (0, fault.Rows))) (equal-same (coded_list cell.the_row.coded) rows last r)
no_faults setting rows [] (t ∷ traces) last r = absurd r
no_faults setting rows (e ∷ entries) [] last r = absurd r
no_faults setting rows (e ∷ entries) (t ∷ traces) last r =
    ap (λ (x : Result (List Cell) Fault). goes_on e.id x (λ next. replay_from setting next entries last)) (no_fault setting rows e t r.0)
    ∙ no_faults setting (apply rows t.writes) entries traces last r.1

-- entries that replay have no fault
pub faultless : (setting : Setting) (rows : List Cell) (entries : List DumpEntry) (last : List Cell) → Replays setting rows (map act_of entries) last
    → replay_from setting rows entries last ≡ None
faultless setting rows entries last r = no_faults setting rows entries r.traces last r.replay
