-- Requests under other programs, whose handlers are the same, replay alike.
use Rattle.std.proofs.Common.{◌≡◌, ℕ, true, List, [], ◌∷◌, Option, All, length, map, option_map, refl, sym, ap, ◌∙◌, subst}
use Rattle.std.specs.Option.{option_map_or}
use Rattle.std.proofs.lemmas.List.Elements.{All-head, All-tail}
use Rattle.lang_core.specs.Rows.{apply}
use Rattle.lang_core.specs.declared.cells.Cell.{Cell}
use Rattle.lang_core.specs.declared.inputs.Inputs.{Inputs}
use Rattle.lang_core.specs.declared.request.Request.{Request}
use Rattle.lang_core.specs.declared.request.Response.{Response}
use Rattle.lang_core.specs.declared.setting.Setting.{Setting}
use Rattle.lang_core.specs.declared.trace.Trace.{Trace}
use Rattle.request_log.specs.HandedOn.{with_program}
use Rattle.execution.specs.Executions.{survives, Act, IsPlayed, IsReplay, Replays}
use Rattle.execution.specs.HandedOn.{handler_of, run_of, Done, GivesAll}
use Rattle.execution.proofs.HandedOn.{runs_alike}
use Rattle.request_log.specs.Entries.{corrected, is_alive}
use Rattle.request_log.specs.HandedOn.{Numbered}
use Rattle.request_log.specs.Records.{record_in, Record}
use Rattle.request_log.specs.declared.entry.Entry.{Entry}
use Rattle.request_log.specs.declared.entry.Made.{Made}
use Rattle.local_repair.specs.Current.{Consumed, IsRun}
use Rattle.local_repair.specs.Histories.{act_kept, act_of, act_with, deed_in}
use Rattle.local_repair.specs.Programs.{setting_of, setting_ran}
use Rattle.local_repair.proofs.CorrectionLemmas.{but_program, IsButProgram}

-- ---- one request

-- the one request is the other, as far as a run goes, but for its program; where it survives, that leads to the same handler
pub record IsAlike (a b : Act) : Type 0 where
  pub alive : survives b ≡ survives a
  pub request : b.request ≡ a.request
  pub inputs : b.inputs ≡ a.inputs
  pub numbers : b.numbers ≡ a.numbers
  pub answers : b.answers ≡ a.answers
  pub did : b.did ≡ a.did
  pub handler : survives a ≡ true → handler_of a.program a.request ≡ handler_of b.program a.request

played_alike : (setting : Setting) (rows : List Cell) (a b : Act) (t : Trace) → IsAlike a b → IsPlayed setting rows a t → IsPlayed setting rows b t
played_alike setting rows a b t same played =
    let own : Setting = with_program b.program setting in
    record {
      live = λ alive.
          let before : survives a ≡ true = sym same.alive ∙ alive in
          ap (λ (q : Request). run_of own q b.inputs b.answers rows) same.request
          ∙ (ap (λ (i : Inputs). run_of own a.request i b.answers rows) same.inputs
          ∙ (ap (λ (xs : List Response). run_of own a.request a.inputs xs rows) same.answers
          ∙ (sym (runs_alike a.program b.program setting a.request a.inputs a.answers rows (same.handler before)) ∙ played.live before)));
      dead = λ dead. played.dead (sym same.alive ∙ dead);
      consumed = same.answers ∙ played.consumed;
      answered = ap length same.answers ∙ played.answered;
      named = ap length same.numbers ∙ played.named;
      did = same.did ∙ played.did;
    }

-- ---- all of them

-- each is like the one of the other list at its place
abbrev pub AreAlike : List Act → List Act → Type 0
AreAlike [] [] = Unit {0}
AreAlike (a ∷ acts) (b ∷ others) = IsAlike a b × AreAlike acts others
AreAlike acts others = ⊥

pub replay_alike : (setting : Setting) (acts others : List Act) (ts : List Trace) (rows last : List Cell) → AreAlike acts others → IsReplay setting rows acts ts last
    → IsReplay setting rows others ts last
replay_alike setting [] [] ts rows last alike replay = replay
replay_alike setting [] (b ∷ others) ts rows last alike replay = absurd alike
replay_alike setting (a ∷ acts) [] ts rows last alike replay = absurd alike
replay_alike setting (a ∷ acts) (b ∷ others) [] rows last alike replay = absurd replay
replay_alike setting (a ∷ acts) (b ∷ others) (t ∷ ts) rows last alike replay =
    (played_alike setting rows a b t alike.0 replay.0, replay_alike setting acts others ts (apply rows t.writes) last alike.1 replay.1)

pub replays_alike : (setting : Setting) (acts others : List Act) (rows last : List Cell) → AreAlike acts others → Replays setting rows acts last → Replays setting rows others last
replays_alike setting acts others rows last alike r = record { traces = r.traces; replay = replay_alike setting acts others r.traces rows last alike r.replay }

-- ---- entries of a log

-- where the entry is alive, the other one's program leads to the handler to which its own does
abbrev pub LeadsAlike : Entry → Entry → Type 0
LeadsAlike e x = is_alive e ≡ true → handler_of e.under.now.program e.request ≡ handler_of x.under.now.program e.request

pub alike_with : (xs : List Response) (e x : Entry) → IsButProgram e x → LeadsAlike e x → IsAlike (act_with xs e) (act_with xs x)
alike_with xs e x same leads = record {
  alive = same.alive;
  request = same.request;
  inputs = same.inputs;
  numbers = same.slots;
  answers = refl;
  did = ap (λ (o : Option Made). option_map deed_in (option_map record_in o)) same.made;
  handler = leads;
}

-- with other answers that are the same
alike_answers : (xs ys : List Response) (e x : Entry) → ys ≡ xs → IsButProgram e x → LeadsAlike e x → IsAlike (act_with xs e) (act_with ys x)
alike_answers xs ys e x is same leads =
    let P : List Response → Type 0 = λ l. IsAlike (act_with xs e) (act_with l x) in subst P (sym is) (alike_with xs e x same leads)

module _ (number : ℕ) (p : Numbered) where
  abbrev change : Entry → Entry
  change e = corrected number p e

  -- entries whose handlers are the same once a program stands in place of another one did the same with what their calls consume
  pub alike_now : (consumed : Consumed) (es : List Entry) → All (λ e. LeadsAlike e (change e)) es → AreAlike (map (act_of consumed) es) (map (act_of consumed) (map change es))
  alike_now consumed [] leads = tt
  alike_now consumed (e ∷ es) leads =
      let L : Entry → Type 0 = λ e. LeadsAlike e (change e) in
      let same = but_program number p e in (
        alike_answers (map consumed e.slots) (map consumed (change e).slots) e (change e) (ap (map consumed) same.slots) same (All-head L e es leads),
        alike_now consumed es (All-tail L e es leads),
      )

  -- and with what their records consumed
  pub alike_kept : (es : List Entry) → All (λ e. LeadsAlike e (change e)) es → AreAlike (map act_kept es) (map act_kept (map change es))
  alike_kept [] leads = tt
  alike_kept (e ∷ es) leads =
      let L : Entry → Type 0 = λ e. LeadsAlike e (change e) in
      let same = but_program number p e in
      let kept : Option Made → List Response = λ o. option_map_or (λ (r : Record). r.answers) (option_map record_in o) [] in (
        alike_answers (kept e.made) (kept (change e).made) e (change e) (ap kept same.made) same (All-head L e es leads),
        alike_kept es (All-tail L e es leads),
      )

-- a record that a run gave, and that is of the entry's request, is the run under the entry's program where the handler is the same
pub run_now : (setting : Setting) (e : Entry) (m : Made) (rows : List Cell) → IsRun (setting_ran setting e) e.inputs m → m.alive ≡ true → m.request ≡ e.request
    → handler_of e.under.ran.program e.request ≡ handler_of e.under.now.program e.request → GivesAll rows m.trace.reads
    → run_of (setting_of setting e) e.request e.inputs m.trace.answers rows ≡ Done m.trace
run_now setting e m rows run alive asked same gives =
    let before : Setting = setting_ran setting e in
    sym (runs_alike e.under.ran.program e.under.now.program setting e.request e.inputs m.trace.answers rows same)
    ∙ (ap (λ (q : Request). run_of before q e.inputs m.trace.answers rows) (sym asked) ∙ run.live alive rows gives)
