-- The histories of a dump are those of the services that it was written of, but for how heavy their journals may grow, which no history depends on.
use Rattle.std.proofs.Common.{◌≡◌, ℕ, Bool, true, false, cond, List, [], ◌∷◌, Option, Some, None, map, refl, sym, ap, ◌∙◌, subst}
use Rattle.std.specs.Prelude.{All, Any, IsSomeAnd, filter}
use Rattle.std.specs.List.{AllByRecursion}
use Rattle.std.specs.Option.{option_map}
use Rattle.std.proofs.lemmas.List.Elements.{All-from_recursion, recursion_from_All}
use Rattle.lang_base.specs.Texts.{same_text}
use Rattle.lang_core.specs.Rows.{apply}
use Rattle.lang_core.specs.declared.cells.Cell.{Cell}
use Rattle.lang_core.specs.declared.ids.Origin.{Origin}
use Rattle.lang_core.specs.declared.ids.Origin.TheVariants.{Outside, Call}
use Rattle.lang_core.specs.declared.request.Response.{Response}
use Rattle.lang_core.specs.declared.setting.Setting.{Setting}
use Rattle.lang_core.specs.declared.trace.CallMade.{CallMade}
use Rattle.lang_core.specs.declared.trace.Trace.{Trace}
use Rattle.execution.specs.Executions.{Act, Deed, History, IsEmptyIfDead, IsPlayed, IsReplay, Replays}
use Rattle.execution.specs.Together.{AreServed, CallsAreServed, IsCalledFor, IsLegalTogether, IsOne, IsServed, Makes, Serves, WantedIsCalledFor, comes_from, history_in, name_of}
use Rattle.request_log.specs.Records.{Record, record_of, recorded_calls}
use Rattle.request_log.specs.declared.entry.Entry.{Entry}
use Rattle.local_repair.specs.Current.{Consumed}
use Rattle.local_repair.specs.Histories as repair
use Rattle.local_repair.specs.Histories.{deed_in}
use Rattle.service_events.specs.State.{Kept, answers}
use Rattle.world_agreement.specs.Legal.{histories, history}
use Rattle.dump_audit.specs.Histories as audit
use Rattle.dump_audit.specs.Histories.{deed, histories_of, history_of}
use Rattle.dump_laws.specs.Dumped.{dumped, dumped_all, dumped_entry, reply_in, weightless}

-- ---- without weights

-- a history of the same requests, whose journal may not grow at all
abbrev pub unweighed : History → History
unweighed h = record { setting = weightless h.setting; acts = h.acts; rows = h.rows }

played_so : (s : Setting) (rows : List Cell) (a : Act) (t : Trace) → IsPlayed s rows a t → IsPlayed (weightless s) rows a t
played_so s rows a t p = record { live = p.live; dead = p.dead; consumed = p.consumed; answered = p.answered; named = p.named; did = p.did }

replay_so : (s : Setting) (rows : List Cell) (acts : List Act) (traces : List Trace) (last : List Cell) → IsReplay s rows acts traces last → IsReplay (weightless s) rows acts traces last
replay_so s rows [] [] last is = is
replay_so s rows [] (t ∷ traces) last is = absurd is
replay_so s rows (a ∷ acts) [] last is = absurd is
replay_so s rows (a ∷ acts) (t ∷ traces) last is = (played_so s rows a t is.0, replay_so s (apply rows t.writes) acts traces last is.1)

abbrev ReplaysAlone : History → Type 0
ReplaysAlone h = Replays h.setting [] h.acts h.rows

replays_so : (h : History) → ReplaysAlone h → ReplaysAlone (unweighed h)
replays_so h r = record { traces = r.traces; replay = replay_so h.setting [] h.acts r.traces h.rows r.replay }

-- what holds of each holds of what is made of each
mapped : {X : Type 0} (f : X → X) (P Q : X → Type 0) → ((x : X) → P x → Q (f x)) → (xs : List X) → AllByRecursion P xs → AllByRecursion Q (map f xs)
mapped f P Q so [] all = tt
mapped f P Q so (x ∷ xs) all = (so x all.0, mapped f P Q so xs all.1)

all_so : (P Q : History → Type 0) → ((h : History) → P h → Q (unweighed h)) → (world : List History) → All P world → All Q (map unweighed world)
all_so P Q so world all = All-from_recursion Q (map unweighed world) (mapped unweighed P Q so world (recursion_from_All P world all))

-- what holds of each act for one reason holds of it for another
weaker : (P Q : Act → Type 0) → ((a : Act) → P a → Q a) → (acts : List Act) → AllByRecursion P acts → AllByRecursion Q acts
weaker P Q so [] all = tt
weaker P Q so (a ∷ acts) all = (so a all.0, weaker P Q so acts all.1)

each_act : (P Q : Act → Type 0) → ((a : Act) → P a → Q a) → (acts : List Act) → All P acts → All Q acts
each_act P Q so acts all = All-from_recursion Q acts (weaker P Q so acts (recursion_from_All P acts all))

-- ---- a history by its name

found_by : (b : Bool) (h : History) (now before : Option History) → now ≡ option_map unweighed before → cond b (Some (unweighed h)) now ≡ option_map unweighed (cond b (Some h) before)
found_by true h now before is = refl
found_by false h now before is = is

found_same : (name : List ℕ) (world : List History) → history_in name (map unweighed world) ≡ option_map unweighed (history_in name world)
found_same name [] = refl
found_same name (h ∷ world) = found_by (same_text (name_of h) name) h (history_in name (map unweighed world)) (history_in name world) (found_same name world)

some_so : (o : Option History) (P : History → Type 0) → ((h : History) → P h → P (unweighed h)) → IsSomeAnd o P → IsSomeAnd (option_map unweighed o) P
some_so None P so is = is
some_so (Some h) P so is = so h is

there_so : (name : List ℕ) (world : List History) (P : History → Type 0) → ((h : History) → P h → P (unweighed h)) → IsSomeAnd (history_in name world) P → IsSomeAnd (history_in name (map unweighed world)) P
there_so name world P so is = subst (λ o. IsSomeAnd o P) (sym (found_same name world)) (some_so (history_in name world) P so is)

-- ---- calls

module _ (world : List History) where
  served_so : (caller : List ℕ) (n : ℕ) (c : CallMade) (r : Response) → IsServed world caller n c r → IsServed (map unweighed world) caller n c r
  served_so caller n c r is = there_so c.dest world (λ h. IsOne (Serves c r) (filter (comes_from caller n) h.acts)) (λ h one. one) is

  all_served_so : (caller : List ℕ) (ns : List ℕ) (cs : List CallMade) (rs : List Response) → AreServed world caller ns cs rs → AreServed (map unweighed world) caller ns cs rs
  all_served_so caller [] [] [] are = tt
  all_served_so caller [] [] (r ∷ rs) are = absurd are
  all_served_so caller [] (c ∷ cs) rs are = absurd are
  all_served_so caller (n ∷ ns) [] rs are = absurd are
  all_served_so caller (n ∷ ns) (c ∷ cs) [] are = absurd are
  all_served_so caller (n ∷ ns) (c ∷ cs) (r ∷ rs) are = (served_so caller n c r are.0, all_served_so caller ns cs rs are.1)

  deed_so : (o : Option Deed) (P Q : Deed → Type 0) → ((d : Deed) → P d → Q d) → IsSomeAnd o P → IsSomeAnd o Q
  deed_so None P Q so is = is
  deed_so (Some d) P Q so is = so d is

  calls_so : (h : History) (a : Act) → CallsAreServed world h a → CallsAreServed (map unweighed world) (unweighed h) a
  calls_so h a are survives =
      deed_so a.did (λ d. AreServed world (name_of h) a.numbers d.calls a.answers) (λ d. AreServed (map unweighed world) (name_of h) a.numbers d.calls a.answers)
      (λ d. all_served_so (name_of h) a.numbers d.calls a.answers) (are survives)

  called_so : (name : List ℕ) (a : Act) (o : Origin) → IsCalledFor world name a o → IsCalledFor (map unweighed world) name a o
  called_so name a Outside is = tt
  called_so name a (Call caller number) is = there_so caller world (λ h. Any (Makes number (record { dest = name; request = a.request })) h.acts) (λ h any. any) is

  wanted_so : (h : History) (a : Act) → WantedIsCalledFor world h a → WantedIsCalledFor (map unweighed world) (unweighed h) a
  wanted_so h a is wanted = called_so (name_of h) a a.origin (is wanted)

-- a legal execution is one whatever the journals may weigh
pub legal_unweighed : (world : List History) → IsLegalTogether world → IsLegalTogether (map unweighed world)
legal_unweighed world legal =
    let now = map unweighed world in
    record {
      alone = record {
        replayed = all_so ReplaysAlone ReplaysAlone replays_so world legal.alone.replayed;
        dead_are_empty = all_so (λ h. All IsEmptyIfDead h.acts) (λ h. All IsEmptyIfDead h.acts) (λ h all. all) world legal.alone.dead_are_empty;
      };
      served = all_so (λ h. All (CallsAreServed world h) h.acts) (λ h. All (CallsAreServed now h) h.acts)
          (λ h all. each_act (CallsAreServed world h) (CallsAreServed now (unweighed h)) (calls_so world h) h.acts all) world legal.served;
      called_for = all_so (λ h. All (WantedIsCalledFor world h) h.acts) (λ h. All (WantedIsCalledFor now h) h.acts)
          (λ h all. each_act (WantedIsCalledFor world h) (WantedIsCalledFor now (unweighed h)) (wanted_so world h) h.acts all) world legal.called_for;
    }

-- ---- what a dump says

did_same : (made : Option Record) → option_map (deed (recorded_calls made)) (reply_in made) ≡ option_map deed_in made
did_same None = refl
did_same (Some r) = refl

act_same : (consumed : Consumed) (e : Entry) → audit.act_of (dumped_entry consumed e) ≡ repair.act_of consumed e
act_same consumed e =
    ap (λ (did : Option Deed). record {
      id = e.id;
      origin = e.origin;
      wanted = e.wanted;
      struck = e.struck;
      request = e.request;
      inputs = e.inputs;
      program = e.under.now.program;
      numbers = e.slots;
      answers = map consumed e.slots;
      did = did;
    }) (did_same (record_of e))

acts_same : (consumed : Consumed) (entries : List Entry) → map audit.act_of (map (dumped_entry consumed) entries) ≡ map (repair.act_of consumed) entries
acts_same consumed [] = refl
acts_same consumed (e ∷ entries) =
    ap (λ (a : Act). a ∷ map audit.act_of (map (dumped_entry consumed) entries)) (act_same consumed e)
    ∙ ap (λ (acts : List Act). repair.act_of consumed e ∷ acts) (acts_same consumed entries)

history_same : (s : Kept) → history_of (dumped s) ≡ unweighed (history s)
history_same s =
    ap (λ (acts : List Act). record { setting = weightless s.setting; acts = acts; rows = (dumped s).rows }) (acts_same (answers s) s.entries)

pub histories_same : (services : List Kept) → histories_of (dumped_all services) ≡ map unweighed (histories services)
histories_same [] = refl
histories_same (s ∷ services) =
    ap (λ (h : History). h ∷ histories_of (dumped_all services)) (history_same s)
    ∙ ap (λ (hs : List History). unweighed (history s) ∷ hs) (histories_same services)

-- services of which the histories are one legal execution are written down as such
pub dump_legal : (services : List Kept) → IsLegalTogether (histories services) → IsLegalTogether (histories_of (dumped_all services))
dump_legal services legal = subst IsLegalTogether (sym (histories_same services)) (legal_unweighed (histories services) legal)
