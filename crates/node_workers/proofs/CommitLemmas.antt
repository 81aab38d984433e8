-- By which exchanges and events a live request ends.
use Rattle.std.proofs.Common.{◌≡◌, ℕ, inl, inr, List, [], ◌∷◌, ◌++◌, Some, Result, refl, ap, ◌∙◌, subst, append_assoc}
use Rattle.lang_core.specs.declared.ids.Origin.{Origin}
use Rattle.lang_core.specs.declared.ids.Origin.TheVariants.{Call}
use Rattle.lang_core.specs.declared.inputs.Inputs.{Inputs}
use Rattle.lang_core.specs.declared.request.Request.{Request}
use Rattle.repair_messages.specs.declared.messages.AnswerMessage.{AnswerMessage}
use Rattle.repair_messages.specs.declared.messages.SetMessage.{SetMessage}
use Rattle.call_registers.specs.declared.register.Why.{Why}
use Rattle.io_links.specs.Exchanges.{Exchanges}
use Rattle.io_links.specs.declared.links.Exchanged.{Exchanged}
use Rattle.aire_wire.specs.declared.incoming.Incoming.TheVariants as said
use Rattle.node_core.specs.declared.notes.Notes.{Notes}
use Rattle.node_core.specs.declared.receipt.Receipt.{Receipt}
use Rattle.node_exchanges.proofs.CallLemmas.{none_told}
use Rattle.node_exchanges.specs.Calls.{CallsIt, LinkTells, SendsAtMost}
use Rattle.node_workers.specs.Asking.{MakesFor, MakesLive}
use Rattle.node_workers.specs.Desks.{Endpoint}
use Rattle.node_workers.specs.Flying.{Flies, FliesOn, GivesUp, GoesBy, IsArrival, IsTold, Lives, MakesCall, MakesCalls, SendsNext}
use Rattle.node_workers.specs.declared.flying.Went.{Went}
use Rattle.node_workers.specs.declared.flying.Went.TheVariants as went
use Rattle.node_workers.specs.declared.live.Began.TheVariants as begins
use Rattle.node_workers.specs.declared.live.Ending.{Ending}
use Rattle.node_workers.specs.declared.live.Ending.TheVariants as ends

-- ---- calls, one after the other

calls_then : (e : Endpoint) (xs ys : List Exchanged) (before mid now : Notes) (had held have : List Receipt) (from via way : Went)
    → MakesCalls e xs before mid had held from via → MakesCalls e ys mid now held have via way → MakesCalls e (xs ++ ys) before now had have from way
calls_then e [] ys before mid now had held have from via way none calls =
    subst (λ (n : Notes). MakesCalls e ys n now had have from way) none.0
    (subst (λ (h : List Receipt). MakesCalls e ys mid now h have from way) none.1
    (subst (λ (w : Went). MakesCalls e ys mid now held have w way) none.2 calls))
calls_then e (x ∷ xs) ys before mid now had held have (went.Call flight set) via way first calls =
    (first.0, first.1, first.2, first.3, calls_then e xs ys first.0 mid now first.1 held have first.2 via way first.4 calls)
calls_then e (x ∷ xs) ys before mid now had held have (went.Committed index) via way first calls = absurd first
calls_then e (x ∷ xs) ys before mid now had held have went.Gone via way first calls = absurd first
calls_then e (x ∷ xs) ys before mid now had held have went.NoMemory via way first calls = absurd first

-- what the link tells of two stretches
tells_on : (a b c : Exchanges) (xs ys : List Exchanged) → LinkTells a b xs → LinkTells b c ys → LinkTells a c (xs ++ ys)
tells_on a b c xs ys one two all is = two (all ++ xs) (one all is) ∙ ap Some (append_assoc all xs ys)

-- where no exchange was made
pub flies_not : (e : Endpoint) (notes : Notes) (receipts : List Receipt) (link : Exchanges) (way : Went) → FliesOn e notes notes receipts receipts link link way way
flies_not e notes receipts link way = ([], none_told link link refl, (refl, refl, refl))

flies_then : (e : Endpoint) (before mid now : Notes) (had held have : List Receipt) (a b c : Exchanges) (from via way : Went)
    → FliesOn e before mid had held a b from via → FliesOn e mid now held have b c via way → FliesOn e before now had have a c from way
flies_then e before mid now had held have a b c from via way one two =
    (one.0 ++ two.0, tells_on a b c one.0 two.0 one.1 two.1, calls_then e one.0 two.0 before mid now had held have from via way one.2 two.2)

-- ---- one call

module _ (e : Endpoint) (flight : ℕ) (set : SetMessage) (before now : Notes) (had have : List Receipt) where
  goes_by : (x : Exchanged) (way : Went) → MakesCall e flight set x before now had have way → GoesBy e flight set (x ∷ []) before now had have way
  goes_by x went.NoMemory makes = inr (x, refl, makes)
  goes_by x (went.Committed index) makes = (now, have, went.Committed index, makes, (refl, refl, refl))
  goes_by x (went.Call next set) makes = (now, have, went.Call next set, makes, (refl, refl, refl))
  goes_by x went.Gone makes = (now, have, went.Gone, makes, (refl, refl, refl))

  -- a call that was made, and of which the service was told
  pub one_told : (a b : Exchanges) (came : Result AnswerMessage Why) (way : Went) → CallsIt e set came a b → IsTold e flight set.number came before now had have way
      → SendsNext e flight set before now had have a b way
  one_told a b came way calls told = (calls.0 ∷ [], calls.1, goes_by calls.0 way (record { came = came; of = calls.2; told = told }))

-- a call for which memory was wanting, and of which the service wasn't told
pub one_untold : (e : Endpoint) (flight : ℕ) (set : SetMessage) (notes : Notes) (receipts : List Receipt) (a b : Exchanges) → SendsAtMost e set a b
    → SendsNext e flight set notes notes receipts receipts a b went.NoMemory
one_untold e flight set notes receipts a b (inl same) = ([], none_told a b same, inl (tt, (refl, refl)))
one_untold e flight set notes receipts a b (inr sent) = (sent.0 ∷ [], sent.1, inl (sent.2, (refl, refl)))

-- ---- a flight

module _ (e : Endpoint) (first next : ℕ) (one set : SetMessage) (before mid now : Notes) (had held have : List Receipt) (a b c : Exchanges)
    (flown : FliesOn e before mid had held a b (went.Call first one) (went.Call next set)) where
  abbrev Goes : Went → Type 0
  Goes way = SendsNext e next set mid now held have b c way

  pub flies_until_call : (flight : ℕ) (call : SetMessage) → Goes (went.Call flight call) → FliesOn e before now had have a c (went.Call first one) (went.Call flight call)
  flies_until_call flight call goes = flies_then e before mid now had held have a b c (went.Call first one) (went.Call next set) (went.Call flight call) flown goes

  pub flies_until_commit : (index : ℕ) → Goes (went.Committed index) → Flies e first one before now had have a c (ends.Committed index)
  flies_until_commit index goes = flies_then e before mid now had held have a b c (went.Call first one) (went.Call next set) (went.Committed index) flown goes

  pub flies_until_gone : Goes went.Gone → Flies e first one before now had have a c ends.Gone
  flies_until_gone goes = flies_then e before mid now had held have a b c (went.Call first one) (went.Call next set) went.Gone flown goes

  -- where memory was wanting, it was given up
  pub flies_until_want : (last : Notes) (all : List Receipt) → Goes went.NoMemory → GivesUp next now last have all → Flies e first one before last had all a c ends.NoMemory
  flies_until_want last all goes up = (
    flown.0 ++ goes.0,
    tells_on a b c flown.0 goes.0 flown.1 goes.1,
    record {
      front = flown.0;
      rest = goes.0;
      is = refl;
      last = next;
      call = set;
      named = mid;
      stopped = now;
      held = held;
      kept = have;
      calls = flown.2;
      stops = goes.2;
      up = up;
    },
  )

-- ---- a live request

module _ (e : Endpoint) (o : Origin) (q : Request) (i : Inputs) (before : Notes) (had : List Receipt) where
  -- it ended as it arrived
  pub ends_at_once : (now : Notes) (have : List Receipt) (link : Exchanges) (ending : Ending) → IsArrival e o q i before now had have (begins.Ended ending)
      → Lives e o q i before now had have link link ending
  ends_at_once now have link ending arrival = (
    [],
    none_told link link refl,
    record { notes = now; receipts = have; began = begins.Ended ending; arrival = arrival; goes = (refl, refl, (refl, refl)) },
  )

  -- it ended as its flight did
  pub ends_flown : (mid now : Notes) (held have : List Receipt) (a b : Exchanges) (flight : ℕ) (set : SetMessage) (ending : Ending)
      → IsArrival e o q i before mid had held (begins.Call flight set) → Flies e flight set mid now held have a b ending
      → Lives e o q i before now had have a b ending
  ends_flown mid now held have a b flight set ending arrival flies =
      (flies.0, flies.1, record { notes = mid; receipts = held; began = begins.Call flight set; arrival = arrival; goes = flies.2 })

-- a peer's live call is one of that caller and number
pub call_makes : (e : Endpoint) (i : Inputs) (set : SetMessage) (caller : List ℕ) (number : ℕ) (q : Request) (before now : Notes) (had have : List Receipt) (a b : Exchanges)
    → caller ≡ set.caller → number ≡ set.number → set.desired ≡ Some q → MakesLive e (Call caller number) q i before now had have a b
    → MakesFor e i (said.Live set) before now had have a b
call_makes e i set caller number q before now had have a b by at desired makes =
    let here = subst (λ (c : List ℕ). MakesLive e (Call c number) q i before now had have a b) by makes in
    inr (q, desired, subst (λ (n : ℕ). MakesLive e (Call set.caller n) q i before now had have a b) at here)
