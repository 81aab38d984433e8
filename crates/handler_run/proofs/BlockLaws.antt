-- What the run of a block does with its rows and its answers.
use Rattle.std.proofs.Common.{◌≡◌, ◌≤◌, ◌<◌, List, Some, [], ◌∷◌, ◌++◌, length, drop, refl, sym, ap, ◌∙◌, subst, arith, append-nil, length-append}
use Rattle.std.specs.Prelude.{slice_get}
use Rattle.std.proofs.lemmas.List.{length-take-le, take-append-drop, take_all}
use Rattle.std.proofs.lemmas.List.Elements.{All-nil}
use Rattle.std.proofs.lemmas.Option.{slice_get_past}
use Rattle.lang_tree.specs.declared.stmt.Block.{Block}
use Rattle.lang_core.specs.declared.cells.Cell.{Cell}
use Rattle.lang_core.specs.declared.request.Response.{Response}
use Rattle.lang_core.specs.declared.trace.CallMade.{CallMade}
use Rattle.lang_core.specs.declared.trace.Read.{Read}
use Rattle.handler_run.specs.Reads.{Gives, GivesAll}
use Rattle.handler_run.specs.Runs.{Ended, block_of}
use Rattle.handler_run.specs.Handlers.{finish, finish_of, start, run_block}
use Rattle.handler_run.specs.Laws.{IfDone, IfWants, IsDone, calls_of}
use Rattle.handler_run.specs.declared.state.Flow.{Flow}
use Rattle.handler_run.specs.declared.state.Flow.TheVariants.{GoesOn, Replied, Wants, Faulted}
use Rattle.lang_values.specs.Given.{Given}
use Rattle.handler_run.specs.declared.state.Ran.{Ran}
use Rattle.handler_run.specs.declared.state.Ran.TheVariants.{Done}
use Rattle.handler_run.specs.declared.state.State.{State}
use Rattle.handler_run.proofs.RunLists.{get_behind, no_rest}
use Rattle.handler_run.proofs.TwoRuns.{Notes, notes_of, with_answers, Extends, Holds, Serves, Ends, Meets, Follows}
use Rattle.handler_run.proofs.TwoBlocks.{both}

-- what holds of the notes at the end holds of the trace
done_notes : (P : Notes → Type 0) (f : Flow) (s : State) → P (notes_of s) → IfDone (finish f s) (λ t. P (record { reads = t.reads; calls = t.calls; answers = t.answers }))
done_notes P GoesOn s h = h
done_notes P (Replied r) s h = h
done_notes P (Wants c) s h = tt
done_notes P (Faulted f) s h = h

-- the calls of a run are those at its end
calls_finish : (f : Flow) (s : State) → calls_of (finish f s) ≡ s.calls
calls_finish GoesOn s = refl
calls_finish (Replied r) s = refl
calls_finish (Wants c) s = refl
calls_finish (Faulted f) s = refl

module _ (g : Given) (bs : List Response) (R Q : List Cell) where
  -- nothing is noted at the start
  start_holds : Holds g bs R Q (notes_of start)
  start_holds = record { reads = All-nil (Gives R); answers = refl; covered = omega arith }

  -- two runs of a block from the start
  runs : (b : Block) → Follows g bs R Q (notes_of start) (block_of g R b start) (block_of (with_answers g bs) Q b start)
  runs b = (both g bs R Q b).at start

  -- at the end each call has its answer, and the rows give the reads
  end_holds : (b : Block) → Holds g bs R Q (notes_of (block_of g R b start).state)
  end_holds b = (runs b).keeps start_holds

  -- and a run that wants an answer took all that it had
  end_is : (b : Block) → Ends g bs R Q (block_of g R b start).flow (notes_of (block_of g R b start).state)
  end_is b = (runs b).ends start_holds

module _ (g : Given) (R : List Cell) (b : Block) where
  -- the rows give what the run read
  pub block_reads : IfDone (run_block b g R) (λ t. GivesAll R t.reads)
  block_reads =
      let e = block_of g R b start in
      done_notes (λ n. GivesAll R n.reads) e.flow e.state (end_holds g [] R R b).reads

  -- it took one answer for each call
  pub block_counts : IfDone (run_block b g R) (λ t. length t.answers ≡ length t.calls)
  block_counts =
      let e = block_of g R b start in
      let h = end_holds g [] R R b in
      done_notes (λ n. length n.answers ≡ length n.calls) e.flow e.state
      (ap length h.answers ∙ length-take-le (length e.state.calls) g.answers h.covered)

  -- its answers are the first of those that it was given
  pub block_takes : IfDone (run_block b g R) (λ t. (rest : List Response) × (g.answers ≡ t.answers ++ rest))
  block_takes =
      let e = block_of g R b start in
      let h = end_holds g [] R R b in
      let n = length e.state.calls in
      done_notes (λ n. (rest : List Response) × (g.answers ≡ n.answers ++ rest)) e.flow e.state
      (drop n g.answers, sym (take-append-drop n g.answers) ∙ ap (λ l. l ++ drop n g.answers) (sym h.answers))

  -- it has no more calls than answers
  pub block_covers : length (calls_of (run_block b g R)) ≤ length g.answers
  block_covers =
      let e = block_of g R b start in
      subst (λ (l : List CallMade). length l ≤ length g.answers) (sym (calls_finish e.flow e.state)) (end_holds g [] R R b).covered

-- of a run that is given these answers and then wants one: its slot and its calls are as many as they, and the run that is
-- given one more has the calls and the one that wanted it
abbrev pub OneMore : List Response → (Response → Ran) → Ran → Type 0
OneMore answers next r =
    IfWants r (λ slot calls call. (slot ≡ length answers) × (length calls ≡ length answers) × ((x : Response) → calls_of (next x) ≡ calls ++ call ∷ []))

-- a run that ends so, and others that are given what it took and rows that give its reads
done_same : (f : Flow) (s : State) (g : Given) (R : List Cell) (e' : List Cell → List Response → Ended)
    → ((Q : List Cell) (later : List Response) → GivesAll Q s.reads → Meets g (s.answers ++ later) R Q f s (e' Q (s.answers ++ later)))
    → IfDone (finish f s) (λ t. (Q : List Cell) → GivesAll Q t.reads → (later : List Response) → finish_of (e' Q (t.answers ++ later)) ≡ Done t)
done_same GoesOn s g R e' h = λ Q gives later. ap finish_of (h Q later gives)
done_same (Replied r) s g R e' h = λ Q gives later. ap finish_of (h Q later gives)
done_same (Wants c) s g R e' h = tt
done_same (Faulted f) s g R e' h = λ Q gives later. ap finish_of (h Q later gives)

-- a run depends only on the answers that it took and on what it read
pub block_same : (g : Given) (R : List Cell) (b : Block)
    → IfDone (run_block b g R) (λ t. (Q : List Cell) → GivesAll Q t.reads → (later : List Response) → run_block b (with_answers g (t.answers ++ later)) Q ≡ Done t)
block_same g R b =
    let e = block_of g R b start in
    done_same e.flow e.state g R (λ Q bs. block_of (with_answers g bs) Q b start)
    (λ Q later gives.
    let bs = e.state.answers ++ later in
    ((runs g bs R Q b).meets (start_holds g bs R Q) (record { reads = gives; rest = later; answers = refl })).1)

-- with the same answers the second ends as the first
same_end : (f : Flow) (s : State) (g : Given) (R Q : List Cell) (e' : Ended) → Ends g g.answers R Q f (notes_of s) → Meets g g.answers R Q f s e' → finish_of e' ≡ finish f s
same_end GoesOn s g R Q e' n m = ap finish_of m
same_end (Replied r) s g R Q e' n m = ap finish_of m
same_end (Wants c) s g R Q e' n m = let all = n.all in ap finish_of (m.stops (slice_get_past g.answers (length s.calls) (omega arith)))
same_end (Faulted f) s g R Q e' n m = ap finish_of m

-- of a run on some rows, whether it ends or wants an answer: it reads something, and on any rows that give that it comes to the same
abbrev pub Agrees : (List Cell → Ran) → List Cell → Type 0
Agrees run rows = (found : List Read) × GivesAll rows found × ((others : List Cell) → GivesAll others found → run others ≡ run rows)

-- a run is the same on all rows that give what it read
pub block_agrees : (g : Given) (R : List Cell) (b : Block) → Agrees (λ rows. run_block b g rows) R
block_agrees g R b =
    let e = block_of g R b start in
    let h = end_holds g [] R R b in
    let n = length e.state.calls in (
      e.state.reads,
      h.reads,
      λ Q gives.
          let serves : Serves g g.answers R Q (notes_of e.state) = record {
            reads = gives;
            rest = drop n g.answers;
            answers = sym (take-append-drop n g.answers) ∙ ap (λ l. l ++ drop n g.answers) (sym h.answers);
          } in
          same_end e.flow e.state g R Q (block_of g Q b start) (end_is g g.answers R Q b) ((runs g g.answers R Q b).meets (start_holds g g.answers R Q) serves).1,
    )

-- the first run has no calls
pub block_starts : (g : Given) (R : List Cell) (b : Block) → g.answers ≡ [] → calls_of (run_block b g R) ≡ []
block_starts g R b none =
    no_rest [] (calls_of (run_block b g R)) (subst (λ (l : List Response). length (calls_of (run_block b g R)) ≤ length l) none (block_covers g R b))

-- calls that stand behind as many calls as there were answers, with no more calls than there are answers now
one_more : (calls : List CallMade) (c : CallMade) (answers : List Response) (x : Response) {after : List CallMade} (p : Extends (calls ++ c ∷ []) after)
    → length calls ≡ length answers → length after ≤ length (answers ++ x ∷ []) → length ((calls ++ c ∷ []) ++ p.rest) ≤ length (calls ++ c ∷ [])
one_more calls c answers x p all covered =
    let long = ap length p.is in
    let more = length-append calls (c ∷ []) in
    let given = length-append answers (x ∷ []) in
    omega arith

-- a run that wants an answer, and the run that is given one answer more
wants_past : (f : Flow) (s : State) (g : Given) (R : List Cell) (e' : Response → Ended)
    → Holds g [] R R (notes_of s) → Ends g [] R R f (notes_of s)
    → ((x : Response) → length (e' x).state.calls ≤ length (g.answers ++ x ∷ []))
    → ((x : Response) → Serves g (g.answers ++ x ∷ []) R R (notes_of s) → Meets g (g.answers ++ x ∷ []) R R f s (e' x))
    → OneMore g.answers (λ x. finish_of (e' x)) (finish f s)
wants_past GoesOn s g R e' h n covered meets = tt
wants_past (Replied r) s g R e' h n covered meets = tt
wants_past (Wants c) s g R e' h n covered meets = (
  n.all,
  n.all,
  λ x.
      let all : length s.calls ≡ length g.answers = n.all in
      let answers : s.answers ≡ g.answers = h.answers ∙ take_all (length s.calls) g.answers (omega arith) in
      let serves : Serves g (g.answers ++ x ∷ []) R R (notes_of s) = record { reads = h.reads; rest = x ∷ []; answers = ap (λ l. l ++ x ∷ []) (sym answers) } in
      let next : slice_get (g.answers ++ x ∷ []) (length s.calls) ≡ Some x = rw all (get_behind g.answers x []) in
      let past = (meets x serves).past x next in
      let none : past.rest ≡ [] = no_rest (s.calls ++ c ∷ []) past.rest (one_more s.calls c g.answers x past all (covered x)) in
      calls_finish (e' x).flow (e' x).state ∙ past.is ∙ ap (λ l. (s.calls ++ c ∷ []) ++ l) none ∙ append-nil (s.calls ++ c ∷ []),
)
wants_past (Faulted f) s g R e' h n covered meets = tt

-- one more answer to a run that wants one gives one more call
pub block_goes_on : (g : Given) (R : List Cell) (b : Block)
    → OneMore g.answers (λ x. run_block b (with_answers g (g.answers ++ x ∷ [])) R) (run_block b g R)
block_goes_on g R b =
    let e = block_of g R b start in
    wants_past e.flow e.state g R (λ x. block_of (with_answers g (g.answers ++ x ∷ [])) R b start)
    (end_holds g [] R R b) (end_is g [] R R b)
    (λ x. (end_holds (with_answers g (g.answers ++ x ∷ [])) [] R R b).covered)
    (λ x v. let bs = g.answers ++ x ∷ [] in ((runs g bs R R b).meets (start_holds g bs R R) v).1)

-- by how it ends
few_end : (f : Flow) (s : State) (g : Given) (R : List Cell) → Ends g [] R R f (notes_of s) → IfWants (finish f s) (λ slot calls call. slot < 16)
few_end GoesOn s g R n = tt
few_end (Replied r) s g R n = tt
few_end (Wants c) s g R n = n.few
few_end (Faulted f) s g R n = tt

-- a run wants at most 16 answers: the slots are 0 to 15
pub block_few : (g : Given) (R : List Cell) (b : Block) → IfWants (run_block b g R) (λ slot calls call. slot < 16)
block_few g R b = let e = block_of g R b start in few_end e.flow e.state g R (end_is g [] R R b)

-- by how it ends
alone_end : (f : Flow) (s : State) (g : Given) (R : List Cell) → g.peers ≡ [] → Ends g [] R R f (notes_of s) → IsDone (finish f s)
alone_end GoesOn s g R none n = tt
alone_end (Replied r) s g R none n = tt
alone_end (Wants c) s g R none n = n.peers none
alone_end (Faulted f) s g R none n = tt

-- without peers a run wants no answer
pub block_alone : (g : Given) (R : List Cell) (b : Block) → g.peers ≡ [] → IsDone (run_block b g R)
block_alone g R b none = let e = block_of g R b start in alone_end e.flow e.state g R none (end_is g [] R R b)
