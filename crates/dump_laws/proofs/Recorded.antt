-- What the records of a legal execution have keeps the limits of the language, and so do the rows and the answers in it.
use Rattle.std.proofs.Common.{◌≡◌, ℕ, ◌<◌, ◌≤◌, Bool, true, false, cond, List, [], ◌∷◌, Option, Some, None, map, length, refl, sym, ap, ◌∙◌, subst, arith}
use Rattle.std.specs.Prelude.{IfSome, IsSomeAnd, filter}
use Rattle.std.specs.List.{AllByRecursion}
use Rattle.std.specs.Option.{option_map}
use Rattle.std.specs.declared.cmp.Ordering.{Ordering}
use Rattle.std.specs.declared.cmp.Ordering.TheVariants.{Less, Equal, Greater}
use Rattle.lang_base.specs.Texts.{same_text}
use Rattle.lang_tree.specs.Depths.{routes_fit}
use Rattle.lang_tree.specs.Forms.{is_word}
use Rattle.lang_core.specs.Places.{Place, by_order, place_of, place_order, set_in, unset_in}
use Rattle.lang_core.specs.Rows.{after_write, apply, cell_place, with_text}
use Rattle.lang_core.specs.declared.cells.Cell.{Cell}
use Rattle.lang_core.specs.declared.request.Request.{Request}
use Rattle.lang_core.specs.declared.request.Response.{Response}
use Rattle.lang_core.specs.declared.setting.Setting.{Setting}
use Rattle.lang_core.specs.declared.trace.CallMade.{CallMade}
use Rattle.lang_core.specs.declared.trace.Trace.{Trace}
use Rattle.lang_core.specs.declared.writes.Write.{Write}
use Rattle.handler_run.specs.HandedOn.{with_program}
use Rattle.handler_run.specs.Laws.{IfDone}
use Rattle.handler_chains.specs.Onward.{IsOnward, calls_in}
use Rattle.handler_chains.proofs.OnwardLaws.{calls_onward}
use Rattle.execution.specs.Executions.{Act, Deed, History, IsPlayed, IsReplay, deed_of, survives}
use Rattle.execution.specs.Together.{AreServed, CallsAreServed, IsOne, IsServed, Serves, comes_from, history_in, name_of}
use Rattle.request_log.specs.Records.{Record, record_of, recorded_calls}
use Rattle.request_log.specs.declared.entry.Entry.{Entry}
use Rattle.local_repair.specs.Current.{Consumed}
use Rattle.local_repair.specs.Histories.{act_of, deed_in}
use Rattle.dump_laws.specs.Dumped.{reply_in}
use Rattle.dump_laws.specs.Forms.{IsCell, IsResponse}
use Rattle.dump_laws.proofs.Programs.{HasFormed}
use Rattle.dump_laws.proofs.RunLimits.{IsShort, IsShortCall, IsShortTrace, IsShortWrite, runs_short}

-- ---- a trace

-- a trace of a request, whose calls are sent onward from it, and which keeps the limits
record IsTraceOf (s : Setting) (q : Request) (t : Trace) : Type 0 where
  onward : AllByRecursion (IsOnward s.me s.peers q) t.calls
  short : IsShortTrace t

-- a request runs under a program whose parts are of the language's form
abbrev pub IsFormed : Act → Type 0
IsFormed a = routes_fit a.program ≡ true

trace_by : (s : Setting) (rows : List Cell) (a : Act) (t : Trace) (b : Bool) → survives a ≡ b → IsFormed a → IsPlayed s rows a t → IsTraceOf s a.request t
trace_by s rows a t true alive fits p =
    let is = p.live alive in
    record {
      onward = subst (λ r. AllByRecursion (IsOnward s.me s.peers a.request) (calls_in r)) is (calls_onward (with_program a.program s) a.request a.inputs a.answers rows);
      short = subst (λ r. IfDone r IsShortTrace) is (runs_short (with_program a.program s) a.request a.inputs a.answers rows fits);
    }
trace_by s rows a t false dead fits p =
    subst (IsTraceOf s a.request) (sym (p.dead dead))
    (record { onward = tt; short = record { calls = tt; writes = tt; response = record { status = omega arith; body = omega arith } } })

trace_is : (s : Setting) (rows : List Cell) (a : Act) (t : Trace) → IsFormed a → IsPlayed s rows a t → IsTraceOf s a.request t
trace_is s rows a t fits p = trace_by s rows a t (survives a) refl fits p

-- ---- what an entry's record has

pub record IsRecorded (s : Setting) (e : Entry) : Type 0 where
  pub onward : AllByRecursion (IsOnward s.me s.peers e.request) (recorded_calls (record_of e))
  pub calls : AllByRecursion IsShortCall (recorded_calls (record_of e))
  pub reply : IfSome (reply_in (record_of e)) IsResponse

record HasDone (made : Option Record) (t : Trace) : Type 0 where
  calls : recorded_calls made ≡ t.calls
  reply : reply_in made ≡ Some t.response

done_by : (made : Option Record) (t : Trace) → option_map deed_in made ≡ Some (deed_of t) → HasDone made t
done_by None t did = cc
done_by (Some r) t did =
    let same : deed_in r ≡ deed_of t = cc in
    record { calls = ap (λ (d : Deed). d.calls) same; reply = ap (λ (d : Deed). Some d.response) same }

entry_recorded : (s : Setting) (rows : List Cell) (consumed : Consumed) (e : Entry) (t : Trace) → HasFormed e → IsPlayed s rows (act_of consumed e) t → IsRecorded s e
entry_recorded s rows consumed e t fits p =
    let done = done_by (record_of e) t p.did in
    let good = trace_is s rows (act_of consumed e) t fits p in
    record {
      onward = subst (AllByRecursion (IsOnward s.me s.peers e.request)) (sym done.calls) good.onward;
      calls = subst (AllByRecursion IsShortCall) (sym done.calls) good.short.calls;
      reply = subst (λ o. IfSome o IsResponse) (sym done.reply) good.short.response;
    }

pub entries_recorded : (s : Setting) (rows : List Cell) (consumed : Consumed) (entries : List Entry) (traces : List Trace) (last : List Cell) → AllByRecursion HasFormed entries
    → IsReplay s rows (map (act_of consumed) entries) traces last → AllByRecursion (IsRecorded s) entries
entries_recorded s rows consumed [] traces last fits replay = tt
entries_recorded s rows consumed (e ∷ entries) [] last fits replay = absurd replay
entries_recorded s rows consumed (e ∷ entries) (t ∷ traces) last fits replay =
    (entry_recorded s rows consumed e t fits.0 replay.0, entries_recorded s (apply rows t.writes) consumed entries traces last fits.1 replay.1)

-- ---- rows

by_place : (o : Ordering) (a b c : List Cell) → AllByRecursion IsCell a → AllByRecursion IsCell b → AllByRecursion IsCell c → AllByRecursion IsCell (by_order o a b c)
by_place Less a b c p q r = p
by_place Equal a b c p q r = q
by_place Greater a b c p q r = r

set_cell : (c : Cell) (cells : List Cell) → IsCell c → AllByRecursion IsCell cells → AllByRecursion IsCell (set_in cell_place c cells)
set_cell c [] is all = (is, tt)
set_cell c (d ∷ cells) is all =
    by_place (place_order (cell_place c) (cell_place d)) (c ∷ d ∷ cells) (c ∷ cells) (d ∷ set_in cell_place c cells) (is, all) (is, all.1) (all.0, set_cell c cells is all.1)

unset_cell : (p : Place) (cells : List Cell) → AllByRecursion IsCell cells → AllByRecursion IsCell (unset_in cell_place p cells)
unset_cell p [] all = tt
unset_cell p (d ∷ cells) all = by_place (place_order p (cell_place d)) (d ∷ cells) cells (d ∷ unset_in cell_place p cells) all all.1 (all.0, unset_cell p cells all.1)

text_put : (t k : List ℕ) (o : Option (List ℕ)) (cells : List Cell) → is_word t ≡ true → 0 < length k → length k ≤ 256 → IsShort o → AllByRecursion IsCell cells → AllByRecursion IsCell (with_text t k o cells)
text_put t k None cells table some key text all = unset_cell (place_of t k) cells all
text_put t k (Some x) cells table some key text all = set_cell (record { table = t; key = k; text = x }) cells (record { table = table; some = some; key = key; text = text }) all

cells_after : (cells : List Cell) (writes : List Write) → AllByRecursion IsCell cells → AllByRecursion IsShortWrite writes → AllByRecursion IsCell (apply cells writes)
cells_after cells [] all short = all
cells_after cells (w ∷ writes) all short =
    let is = short.0 in
    cells_after (after_write cells w) writes (text_put w.table w.key w.text cells is.table is.some is.key is.text all) short.1

pub rows_short : (s : Setting) (rows : List Cell) (acts : List Act) (traces : List Trace) (last : List Cell) → AllByRecursion IsFormed acts → AllByRecursion IsCell rows → IsReplay s rows acts traces last → AllByRecursion IsCell last
rows_short s rows [] [] last fits all replay = subst (AllByRecursion IsCell) replay all
rows_short s rows [] (t ∷ traces) last fits all replay = absurd replay
rows_short s rows (a ∷ acts) [] last fits all replay = absurd replay
rows_short s rows (a ∷ acts) (t ∷ traces) last fits all replay =
    let good = trace_is s rows a t fits.0 replay.0 in
    rows_short s (apply rows t.writes) acts traces last fits.1 (cells_after rows t.writes all good.short.writes) replay.1

-- ---- responses

abbrev pub RespondsWell : Act → Type 0
RespondsWell a = IfSome a.did (λ (d : Deed). IsResponse d.response)

abbrev pub AllRespondWell : History → Type 0
AllRespondWell h = AllByRecursion RespondsWell h.acts

pub responses_short : (s : Setting) (rows : List Cell) (acts : List Act) (traces : List Trace) (last : List Cell) → AllByRecursion IsFormed acts → IsReplay s rows acts traces last → AllByRecursion RespondsWell acts
responses_short s rows [] traces last fits replay = tt
responses_short s rows (a ∷ acts) [] last fits replay = absurd replay
responses_short s rows (a ∷ acts) (t ∷ traces) last fits replay =
    let good = trace_is s rows a t fits.0 replay.0 in (
      subst (λ o. IfSome o (λ (d : Deed). IsResponse d.response)) (sym replay.0.did) good.short.response,
      responses_short s (apply rows t.writes) acts traces last fits.1 replay.1,
    )

-- what is found has what all have
record HasBoth {X : Type 0} (P Q : X → Type 0) : Type 0 where
  it : X
  first : P it
  second : Q it

found_by : (b : Bool) (h : History) (later : Option History) (P Q : History → Type 0) → Q h → (IsSomeAnd later P → HasBoth P Q) → IsSomeAnd (cond b (Some h) later) P → HasBoth P Q
found_by true h later P Q has more is = record { it = h; first = is; second = has }
found_by false h later P Q has more is = more is

found_both : (name : List ℕ) (world : List History) (P Q : History → Type 0) → AllByRecursion Q world → IsSomeAnd (history_in name world) P → HasBoth P Q
found_both name [] P Q all is = absurd is
found_both name (h ∷ world) P Q all is = found_by (same_text (name_of h) name) h (history_in name world) P Q all.0 (found_both name world P Q all.1) is

kept_by : (b : Bool) (a : Act) (acts : List Act) (Q : Act → Type 0) → Q a → AllByRecursion Q acts → AllByRecursion Q (cond b (a ∷ acts) acts)
kept_by true a acts Q is all = (is, all)
kept_by false a acts Q is all = all

filtered : (test : Act → Bool) (acts : List Act) (Q : Act → Type 0) → AllByRecursion Q acts → AllByRecursion Q (filter test acts)
filtered test [] Q all = tt
filtered test (a ∷ acts) Q all = kept_by (test a) a (filter test acts) Q all.0 (filtered test acts Q all.1)

one_both : (acts : List Act) (P Q : Act → Type 0) → AllByRecursion Q acts → IsOne P acts → HasBoth P Q
one_both [] P Q all one = absurd one
one_both (a ∷ []) P Q all one = record { it = a; first = one; second = all.0 }
one_both (a ∷ b ∷ acts) P Q all one = absurd one

its_response : (o : Option Deed) (r : Response) → IsSomeAnd o (λ (d : Deed). d.response ≡ r) → IfSome o (λ (d : Deed). IsResponse d.response) → IsResponse r
its_response None r is good = absurd is
its_response (Some d) r is good = subst IsResponse is good

module _ (world : List History) (well : AllByRecursion AllRespondWell world) where
  answer_short : (caller : List ℕ) (n : ℕ) (c : CallMade) (r : Response) → IsServed world caller n c r → IsResponse r
  answer_short caller n c r served =
      let there = found_both c.dest world (λ h. IsOne (Serves c r) (filter (comes_from caller n) h.acts)) AllRespondWell well served in
      let one = one_both (filter (comes_from caller n) there.it.acts) (Serves c r) RespondsWell (filtered (comes_from caller n) there.it.acts RespondsWell there.second) there.first in
      its_response one.it.did r one.first.response one.second

  answers_short : (caller : List ℕ) (ns : List ℕ) (cs : List CallMade) (rs : List Response) → AreServed world caller ns cs rs → AllByRecursion IsResponse rs
  answers_short caller [] [] [] are = tt
  answers_short caller [] [] (r ∷ rs) are = absurd are
  answers_short caller [] (c ∷ cs) rs are = absurd are
  answers_short caller (n ∷ ns) [] rs are = absurd are
  answers_short caller (n ∷ ns) (c ∷ cs) [] are = absurd are
  answers_short caller (n ∷ ns) (c ∷ cs) (r ∷ rs) are = (answer_short caller n c r are.0, answers_short caller ns cs rs are.1)

  told_answers : (caller : List ℕ) (a : Act) (o : Option Deed) → IsSomeAnd o (λ (d : Deed). AreServed world caller a.numbers d.calls a.answers) → AllByRecursion IsResponse a.answers
  told_answers caller a None is = absurd is
  told_answers caller a (Some d) is = answers_short caller a.numbers d.calls a.answers is

  consumed_by : (h : History) (a : Act) (rows : List Cell) (t : Trace) (b : Bool) → survives a ≡ b → CallsAreServed world h a → IsPlayed h.setting rows a t → AllByRecursion IsResponse a.answers
  consumed_by h a rows t true alive served p = told_answers (name_of h) a a.did (served alive)
  consumed_by h a rows t false dead served p =
      let none : a.answers ≡ [] = p.consumed ∙ ap (λ (x : Trace). x.answers) (p.dead dead) in
      subst (AllByRecursion IsResponse) (sym none) tt

  -- what the requests of a history consumed
  pub consumed_short : (h : History) (rows : List Cell) (acts : List Act) (traces : List Trace) (last : List Cell) → AllByRecursion (CallsAreServed world h) acts → IsReplay h.setting rows acts traces last
      → AllByRecursion (λ (a : Act). AllByRecursion IsResponse a.answers) acts
  consumed_short h rows [] traces last served replay = tt
  consumed_short h rows (a ∷ acts) [] last served replay = absurd replay
  consumed_short h rows (a ∷ acts) (t ∷ traces) last served replay =
      (consumed_by h a rows t (survives a) refl served.0 replay.0, consumed_short h (apply rows t.writes) acts traces last served.1 replay.1)
