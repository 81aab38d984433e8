-- The laws of a service's run, and the same of what a function answers for it.
use Rattle.std.proofs.Common.{◌≡◌, ◌∙◌, ap, ◌<◌, ℕ, List, [], ◌∷◌, ◌++◌, length, map, Option, Some, None, Result, Ok, Err, IfOk, refl, sym, subst}
use Rattle.std.proofs.lemmas.List.Elements.{All-nil}
use Rattle.std.proofs.lemmas.Result.{IfOk-weaker}
use Rattle.lang_base.specs.declared.memory.NoMemory.{NoMemory}
use Rattle.lang_tree.specs.declared.program.Route.{Route}
use Rattle.lang_core.specs.declared.cells.Cell.{Cell}
use Rattle.lang_core.specs.declared.inputs.Inputs.{Inputs}
use Rattle.lang_core.specs.declared.request.Request.{Request}
use Rattle.lang_core.specs.declared.request.Response.{Response}
use Rattle.lang_core.specs.declared.setting.Setting.{Setting}
use Rattle.lang_core.specs.declared.trace.CallMade.{CallMade}
use Rattle.lang_core.specs.declared.trace.Read.{Read}
use Rattle.lang_core.specs.declared.trace.Trace.{Trace}
use Rattle.handler_run.specs.Reads.{Gives, GivesAll}
use Rattle.lang_values.specs.Paths.{route_of, segments_of}
use Rattle.handler_run.specs.Handlers.{given, run_route, run_of}
use Rattle.handler_run.specs.Laws.{IfDone, IfWants, IsDone, calls_of}
use Rattle.lang_values.specs.Given.{Given, given_with}
use Rattle.handler_run.specs.declared.state.Ran.{Ran}
use Rattle.handler_run.specs.declared.state.Ran.TheVariants.{Done, Wants}
use Rattle.handler_run.proofs.TwoRuns.{with_answers}
use Rattle.handler_run.proofs.BlockLaws.{OneMore, Agrees, block_agrees, block_reads, block_same, block_counts, block_takes, block_starts, block_goes_on, block_few, block_alone}

-- the trace of a run that ended
trace_of : (x : Ran) → IsDone x → (t : Trace) × (x ≡ Done t)
trace_of (Done t) h = (t, refl)
trace_of (Wants slot calls call) h = absurd h

-- what holds of a run holds of what a function answers for it
answered_if_ok : (P : Ran → Type 0) (x : Ran) (r : Result Ran NoMemory) → P x → IfOk r (λ r. r ≡ x) → IfOk r P
answered_if_ok P x (Ok r) h e = subst P (sym e) h
answered_if_ok P x (Err m) h e = tt

-- each law where no route takes the request, and where one does
module _ (g : Given) (rows : List Cell) where
  route_reads : (o : Option Route) → IfDone (run_route o g rows) (λ t. GivesAll rows t.reads)
  route_reads None = All-nil (Gives rows)
  route_reads (Some r) = block_reads g rows r.block

  route_same : (o : Option Route) → IfDone (run_route o g rows) (λ t. (others : List Cell) → GivesAll others t.reads → (later : List Response) → run_route o (with_answers g (t.answers ++ later)) others ≡ Done t)
  route_same None = λ others gives later. refl
  route_same (Some r) = block_same g rows r.block

  route_agrees : (o : Option Route) → Agrees (λ r. run_route o g r) rows
  route_agrees None = ([], All-nil (Gives rows), λ others gives. refl)
  route_agrees (Some r) = block_agrees g rows r.block

  route_counts : (o : Option Route) → IfDone (run_route o g rows) (λ t. length t.answers ≡ length t.calls)
  route_counts None = refl
  route_counts (Some r) = block_counts g rows r.block

  route_takes : (o : Option Route) → IfDone (run_route o g rows) (λ t. (rest : List Response) × (g.answers ≡ t.answers ++ rest))
  route_takes None = (g.answers, refl)
  route_takes (Some r) = block_takes g rows r.block

  route_starts : (o : Option Route) → g.answers ≡ [] → calls_of (run_route o g rows) ≡ []
  route_starts None none = refl
  route_starts (Some r) none = block_starts g rows r.block none

  route_goes_on : (o : Option Route) → OneMore g.answers (λ x. run_route o (with_answers g (g.answers ++ x ∷ [])) rows) (run_route o g rows)
  route_goes_on None = tt
  route_goes_on (Some r) = block_goes_on g rows r.block

  route_few : (o : Option Route) → IfWants (run_route o g rows) (λ slot calls call. slot < 16)
  route_few None = tt
  route_few (Some r) = block_few g rows r.block

  route_alone : (o : Option Route) → g.peers ≡ [] → IsDone (run_route o g rows)
  route_alone None none = tt
  route_alone (Some r) none = block_alone g rows r.block none

module _ (s : Setting) (q : Request) (i : Inputs) (answers : List Response) (rows : List Cell) where
  -- the run
  abbrev run : Ran
  run = run_of s q i answers rows

  -- the route that takes the request
  abbrev taken : Option Route
  taken = route_of s.program q.method (segments_of q.path)

  -- the rows give what it recorded
  abbrev ReadsLaw : Ran → Type 0
  ReadsLaw r = IfDone r (λ t. GivesAll rows t.reads)

  -- it comes to the same from the answers that it took, whatever stands behind them, on rows that give what it recorded
  abbrev SameLaw : Ran → Type 0
  SameLaw r = IfDone r (λ t. (others : List Cell) → GivesAll others t.reads → (later : List Response) → run_of s q i (t.answers ++ later) others ≡ Done t)

  -- it took as many answers as it made calls
  abbrev CountsLaw : Ran → Type 0
  CountsLaw r = IfDone r (λ t. length t.answers ≡ length t.calls)

  -- the answers that it took are the first of those that it was given
  abbrev TakesLaw : Ran → Type 0
  TakesLaw r = IfDone r (λ t. (rest : List Response) × (answers ≡ t.answers ++ rest))

  -- where it wants an answer it took all that it was given, and with one answer more it has one call more
  abbrev GoesOnLaw : Ran → Type 0
  GoesOnLaw r = OneMore answers (λ x. run_of s q i (answers ++ x ∷ []) rows) r

  -- it wants at most 16 answers: the slots are 0 to 15
  abbrev FewLaw : Ran → Type 0
  FewLaw r = IfWants r (λ slot calls call. slot < 16)

  -- what a run recorded is what its rows give
  pub reads : IfDone (run_of s q i answers rows) (λ t. GivesAll rows t.reads)
  reads = route_reads (given s q i answers) rows taken

  -- a run depends only on the answers that it took and on what it recorded
  pub same : IfDone (run_of s q i answers rows) (λ t. (others : List Cell) → GivesAll others t.reads → (later : List Response) → run_of s q i (t.answers ++ later) others ≡ Done t)
  same = route_same (given s q i answers) rows taken

  -- a run, also one that wants an answer, is the same on all rows that give what it read
  pub agrees : (found : List Read) × GivesAll rows found × ((others : List Cell) → GivesAll others found → run_of s q i answers others ≡ run_of s q i answers rows)
  agrees = route_agrees (given s q i answers) rows taken

  -- a run took as many answers as it made calls
  pub counts : IfDone (run_of s q i answers rows) (λ t. length t.answers ≡ length t.calls)
  counts = route_counts (given s q i answers) rows taken

  -- the answers that a run took are the first of those that it was given
  pub takes : IfDone (run_of s q i answers rows) (λ t. (rest : List Response) × (answers ≡ t.answers ++ rest))
  takes = route_takes (given s q i answers) rows taken

  -- a run that wants an answer took all that it was given, and with one answer more it has one call more
  pub goes_on : IfWants (run_of s q i answers rows) (λ slot calls call.
      (slot ≡ length answers) × (length calls ≡ length answers) × ((x : Response) → calls_of (run_of s q i (answers ++ x ∷ []) rows) ≡ calls ++ call ∷ []))
  goes_on = route_goes_on (given s q i answers) rows taken

  -- a run wants at most 16 answers
  pub few : IfWants (run_of s q i answers rows) (λ slot calls call. slot < 16)
  few = route_few (given s q i answers) rows taken

  -- a service without peers never waits
  pub alone : s.peers ≡ [] → IsDone (run_of s q i answers rows)
  alone none = route_alone (given s q i answers) rows taken none

  -- with no answers a run has no calls that have one
  pub starts_at : answers ≡ [] → calls_of (run_of s q i answers rows) ≡ []
  starts_at none = route_starts (given s q i answers) rows taken none

  -- the same of a run that comes to this trace

  pub reads_done : (t : Trace) → run_of s q i answers rows ≡ Done t → GivesAll rows t.reads
  reads_done t e = subst ReadsLaw e reads

  pub same_done : (t : Trace) → run_of s q i answers rows ≡ Done t
      → (others : List Cell) → GivesAll others t.reads → (later : List Response) → run_of s q i (t.answers ++ later) others ≡ Done t
  same_done t e = subst SameLaw e same

  pub counts_done : (t : Trace) → run_of s q i answers rows ≡ Done t → length t.answers ≡ length t.calls
  counts_done t e = subst CountsLaw e counts

  pub takes_done : (t : Trace) → run_of s q i answers rows ≡ Done t → (rest : List Response) × (answers ≡ t.answers ++ rest)
  takes_done t e = subst TakesLaw e takes

  pub alone_done : s.peers ≡ [] → (t : Trace) × (run_of s q i answers rows ≡ Done t)
  alone_done none = trace_of run (alone none)

  -- the same of a run that wants the answer of this call

  pub goes_on_wants : (slot : ℕ) (calls : List CallMade) (call : CallMade) → run_of s q i answers rows ≡ Wants slot calls call
      → (slot ≡ length answers) × (length calls ≡ length answers) × ((x : Response) → calls_of (run_of s q i (answers ++ x ∷ []) rows) ≡ calls ++ call ∷ [])
  goes_on_wants slot calls call e = subst GoesOnLaw e goes_on

  pub few_wants : (slot : ℕ) (calls : List CallMade) (call : CallMade) → run_of s q i answers rows ≡ Wants slot calls call → slot < 16
  few_wants slot calls call e = subst FewLaw e few

  -- the same of what a function answers for the run, where memory suffices
  module _ (r : Result Ran NoMemory) where
    pub reads_if_ok : IfOk r (λ r. r ≡ run_of s q i answers rows) → IfOk r (λ r. IfDone r (λ t. GivesAll rows t.reads))
    reads_if_ok = answered_if_ok ReadsLaw run r reads

    pub same_if_ok : IfOk r (λ r. r ≡ run_of s q i answers rows)
        → IfOk r (λ r. IfDone r (λ t. (others : List Cell) → GivesAll others t.reads → (later : List Response) → run_of s q i (t.answers ++ later) others ≡ Done t))
    same_if_ok = answered_if_ok SameLaw run r same

    pub counts_if_ok : IfOk r (λ r. r ≡ run_of s q i answers rows) → IfOk r (λ r. IfDone r (λ t. length t.answers ≡ length t.calls))
    counts_if_ok = answered_if_ok CountsLaw run r counts

    pub takes_if_ok : IfOk r (λ r. r ≡ run_of s q i answers rows) → IfOk r (λ r. IfDone r (λ t. (rest : List Response) × (answers ≡ t.answers ++ rest)))
    takes_if_ok = answered_if_ok TakesLaw run r takes

    pub starts_if_ok : IfOk r (λ r. r ≡ run_of s q i answers rows) → answers ≡ [] → IfOk r (λ r. calls_of r ≡ [])
    starts_if_ok e none = answered_if_ok (λ r. calls_of r ≡ []) run r (starts_at none) e

    pub goes_on_if_ok : IfOk r (λ r. r ≡ run_of s q i answers rows)
        → IfOk r (λ r. IfWants r (λ slot calls call.
        (slot ≡ length answers) × (length calls ≡ length answers) × ((x : Response) → calls_of (run_of s q i (answers ++ x ∷ []) rows) ≡ calls ++ call ∷ [])))
    goes_on_if_ok = answered_if_ok GoesOnLaw run r goes_on

    pub few_if_ok : IfOk r (λ r. r ≡ run_of s q i answers rows) → IfOk r (λ r. IfWants r (λ slot calls call. slot < 16))
    few_if_ok = answered_if_ok FewLaw run r few

    pub alone_if_ok : IfOk r (λ r. r ≡ run_of s q i answers rows) → s.peers ≡ [] → IfOk r (λ r. IsDone r)
    alone_if_ok e none = answered_if_ok (λ r. IsDone r) run r (alone none) e

-- the first run has no calls
pub starts : (s : Setting) (q : Request) (i : Inputs) (rows : List Cell) → calls_of (run_of s q i [] rows) ≡ []
starts s q i rows = starts_at s q i [] rows refl

-- texts of equal lists
pub texts_same : {X : Type 0} (text : X → List ℕ) (xs ys : List X) (texts : List (List ℕ)) → xs ≡ ys → map text ys ≡ texts → map text xs ≡ texts
texts_same text xs ys texts same is = ap (map text) same ∙ is

-- what a function answers of the route that takes a request is its run, where memory suffices
pub route_if_ok : (s : Setting) (q : Request) (i : Inputs) (answers : List Response) (rows : List Cell) (segments : List (List ℕ)) (routes : List Route) (g : Given) (r : Result Ran NoMemory)
    → segments ≡ segments_of q.path → routes ≡ s.program → g ≡ given_with s q segments i answers
    → IfOk r (λ ran. ran ≡ run_route (route_of routes g.request.method g.segments) g rows) → IfOk r (λ ran. ran ≡ run_of s q i answers rows)
route_if_ok s q i answers rows segments routes g r cut all is =
    IfOk-weaker r _ _
    (λ ran e. e
    ∙ ap (λ (rs : List Route). run_route (route_of rs g.request.method g.segments) g rows) all
    ∙ ap (λ (h : Given). run_route (route_of s.program h.request.method h.segments) h rows) is
    ∙ ap (λ (xs : List (List ℕ)). run_route (route_of s.program q.method xs) (given_with s q xs i answers) rows) cut)
