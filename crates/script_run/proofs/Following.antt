-- Events, one behind another, and what is said of them.
use Rattle.std.proofs.Common.{◌≡◌, ℕ, suc, List, [], ◌∷◌, ◌++◌, Option, Some, None, Result, Ok, Err, IfOk, OnErr, ◌<◌, length, take, refl, ap, sym, ◌∙◌, subst, append_assoc}
use Rattle.lang_core.specs.declared.request.Request.{Request}
use Rattle.world_events.specs.Events.{Answer, after_event, answer_to}
use Rattle.world_events.specs.Sound.{AreFew}
use Rattle.world_events.specs.Worlds.{World}
use Rattle.world_events.specs.declared.event.Event.{Event}
use Rattle.world_events.specs.declared.event.Event.TheVariants.{Begin, Deliver}
use Rattle.world_events.specs.declared.event.WorldStepRefused.{WorldStepRefused}
use Rattle.world_events.specs.declared.happened.Happened.{Happened}
use Rattle.world_laws.specs.InHand.{IsInHand, written_at}
use Rattle.world_laws.proofs.WorldWeights.{world_weight}
use Rattle.world_laws.proofs.DeliveryLaws.{begin_writes_live}
use Rattle.world_laws.specs.Runs.{IsAsking, IsRun, written}
use Rattle.world_laws.proofs.RunLaws.{hand_falls, hand_hands, has_asking, has_run}
use Rattle.script_text.specs.Details.{detail_of}
use Rattle.script_text.specs.declared.detail.Detail.{Detail}
use Rattle.script_text.specs.declared.detail.Detail.TheVariants.{Nothing, Packet}
use Rattle.script_lines.specs.Lines.{Read}
use Rattle.script_lines.specs.declared.line.Line.{Line}
use Rattle.script_lines.specs.declared.line.LineFault.{LineFault}
use Rattle.script_run.specs.Counting.{printed}
use Rattle.script_run.specs.Told.{LineAnswer, event_counts, events_said, fault_of, happened_or, is_cancel, last_at, last_line, last_of, line_of, said_of, saying}
use Rattle.script_run.specs.Plays.{AreEventsFor, AreEventsOf, Says, SaysFor}
use Rattle.script_run.specs.declared.counts.Said.{Said}
use Rattle.script_run.specs.Stops.{AreDone, Does, DoesFirst}
use Rattle.script_run.proofs.LineLaws.{events_for}
use Rattle.script_run.proofs.PlayLaws.{done_then}
use Rattle.script_run.specs.Deliveries.{Delivers}

-- ---- what an event answers, as a line takes it

pub heard_ok : (a : Answer) (h : Happened) → Ok h ≡ happened_or a → a ≡ Ok h
heard_ok (Ok x) h e = let same : x ≡ h = cc in ap Ok same
heard_ok (Err why) h e = let no : ⊥ = cc in absurd no

pub heard_err : (a : Answer) (fault : LineFault) → Err fault ≡ happened_or a → (why : WorldStepRefused) × (a ≡ Err why) × (fault_of why ≡ fault)
heard_err (Ok x) fault e = let no : ⊥ = cc in absurd no
heard_err (Err why) fault e = (why, refl, cc)

-- ---- no event, and one

-- nothing is done
pub done_nothing : (w : World) → AreDone w [] w
done_nothing w = record { world = refl; few = tt }

-- one event is
pub done_one : (w now : World) (e : Event) → now ≡ after_event w e → AreFew now → AreDone w (e ∷ []) now
done_one w now e same few = record { world = same; few = (subst AreFew same few, tt) }

-- a line of no events
pub does_nothing : (w : World) (Says : List Event → LineAnswer → Type 0) (said : LineAnswer) → Says [] said → Does w (λ events. events ≡ []) Says said w
does_nothing w Says said is = record { events = []; are = refl; done = done_nothing w; told = is }

-- nothing is done yet
pub does_none : (w now : World) (Are : List Event → Type 0) (events : List Event) → Are events → now ≡ w → DoesFirst w Are now
does_none w now Are events are same = record { events = events; are = are; count = 0; done = record { world = same; few = tt } }

-- nothing of a line of one event
pub one_first : (w : World) (e : Event) → DoesFirst w (λ events. events ≡ e ∷ []) w
one_first w e = does_none w w (λ events. events ≡ e ∷ []) (e ∷ []) refl refl

-- nothing of whatever was read
pub read_none : (w : World) (r : Read) → DoesFirst w (AreEventsFor w r) w
read_none w r = let h = events_for w r in does_none w w (AreEventsFor w r) h.0 h.1 refl

-- nothing of a line
pub act_none : (w : World) (line : Line) → DoesFirst w (AreEventsOf w line) w
act_none w line = let h = events_for w (Ok line) in does_none w w (AreEventsOf w line) h.0 h.1 refl

-- what can't be read does nothing
pub unread_does : (w : World) (r : Read) (fault : LineFault) → Err fault ≡ r → Does w (AreEventsFor w r) (SaysFor w r) (Err fault) w
unread_does w r fault is =
    let D : Read → Type 0 = λ x. Does w (AreEventsFor w x) (SaysFor w x) (Err fault) w in
    subst D is (does_nothing w (SaysFor w (Err fault)) (Err fault) refl)

-- what can is done
pub read_acts : {E : Type 0} (w now : World) (r : Read) (line : Line) (result : Result LineAnswer E) → Ok line ≡ r
    → IfOk result (λ said. Does w (AreEventsOf w line) (Says w line) said now) → IfOk result (λ said. Does w (AreEventsFor w r) (SaysFor w r) said now)
read_acts w now r line result is acts =
    let D : Read → Type 0 = λ x. IfOk result (λ said. Does w (AreEventsFor w x) (SaysFor w x) said now) in
    subst D is acts

pub read_first : {E : Type 0} (w now : World) (r : Read) (line : Line) (result : Result LineAnswer E) → Ok line ≡ r
    → OnErr result (DoesFirst w (AreEventsOf w line) now) → OnErr result (DoesFirst w (AreEventsFor w r) now)
read_first w now r line result is first =
    let D : Read → Type 0 = λ x. OnErr result (DoesFirst w (AreEventsFor w x) now) in
    subst D is first

-- all is done, and nothing is said
pub does_all_first : (w now : World) (Are : List Event → Type 0) (events : List Event) → Are events → AreDone w events now → DoesFirst w Are now
does_all_first w now Are events are done =
    let D : List Event → Type 0 = λ es. AreDone w es now in
    record { events = events; are = are; count = length events; done = subst D (sym (take_length events)) done }
  where
    take_length : (xs : List Event) → take (length xs) xs ≡ xs
    take_length [] = refl
    take_length (x ∷ xs) = ap (λ es. x ∷ es) (take_length xs)

-- what a line of one event says, where this happened and is printed so
abbrev pub one_said : Event → Happened → List ℕ → Said
one_said e h text = record { text = text; counts = event_counts (is_cancel e) h.what }

-- what is said of one event that happened
pub does_one : (w now : World) (e : Event) (h : Happened) (text : List ℕ) → Ok h ≡ happened_or (answer_to w e) → now ≡ after_event w e → AreFew now
    → text ≡ line_of now (Some (detail_of e, h)) → Does w (λ events. events ≡ e ∷ []) (saying (events_said w)) (Ok (one_said e h text)) now
does_one w now e h text heard same few told =
    let is = heard_ok (answer_to w e) h heard in
    let line : text ≡ last_line w (e ∷ []) =
    told ∙ ap (λ v. line_of v (Some (detail_of e, h))) same ∙ ap (λ a. line_of (after_event w e) (last_of None (detail_of e) a)) (sym is) in
    record {
      events = e ∷ [];
      are = refl;
      done = done_one w now e same few;
      told = ap (λ x. Ok (one_said e h x)) line ∙ sym (ap (λ a. said_of e a (last_line w (e ∷ []))) is);
    }

-- and of one that didn't
pub does_not : (w now : World) (e : Event) (fault : LineFault) → Err fault ≡ happened_or (answer_to w e) → now ≡ after_event w e → AreFew now
    → Does w (λ events. events ≡ e ∷ []) (saying (events_said w)) (Err fault) now
does_not w now e fault heard same few =
    let r = heard_err (answer_to w e) fault heard in
    record {
      events = e ∷ [];
      are = refl;
      done = done_one w now e same few;
      told = ap Err (sym r.2) ∙ sym (ap (λ a. said_of e a (last_line w (e ∷ []))) r.1);
    }

-- ---- deliveries, as far as they went

abbrev pub Last : Type 0
Last = Option (Detail × Happened)

-- behind what was in hand at first these are done, and whatever follows what is in hand now follows them
pub record Follows (start : World) (first : Option ℕ) (before : Last) (now : World) (next : Option ℕ) (last : Last) : Type 0 where
  pub done : List Event
  pub happened : AreDone start done now
  pub runs : (rest : List Event) → IsRun now next rest → IsRun start first (done ++ rest)
  pub told : (rest : List Event) → last_at before start (done ++ rest) ≡ last_at last now rest
  pub hand : IsInHand now next

pub follows_first : (w : World) (first : Option ℕ) (before : Last) → IsInHand w first → Follows w first before w first before
follows_first w first before hand = record {
  done = [];
  happened = done_nothing w;
  runs = λ rest run. run;
  told = λ rest. refl;
  hand = hand;
}

-- what is in hand is delivered
follows_on : (start : World) (first : Option ℕ) (before : Last) (now : World) (number : ℕ) (last : Last) → Follows start first before now (Some number) last
    → AreFew (after_event now (Deliver number))
    → Follows start first before (after_event now (Deliver number)) (written now (Deliver number)) (last_of last (Packet number) (answer_to now (Deliver number)))
follows_on start first before now number last f few =
    let e = Deliver number in
    let next = after_event now e in
    record {
      done = f.done ++ e ∷ [];
      happened = done_then start now next f.done (e ∷ []) f.happened (done_one now next e refl few);
      runs = λ rest run. subst (IsRun start first) (sym (append_assoc f.done (e ∷ []) rest)) (f.runs (e ∷ rest) (refl, run));
      told = λ rest. ap (last_at before start) (append_assoc f.done (e ∷ []) rest) ∙ f.told (e ∷ rest);
      hand = hand_hands now number f.hand;
    }

-- by what it answers
pub follows_answer : (start : World) (first : Option ℕ) (before : Last) (now then : World) (number : ℕ) (last : Last) (a : Answer) → Follows start first before now (Some number) last
    → answer_to now (Deliver number) ≡ a → then ≡ after_event now (Deliver number) → AreFew then → Follows start first before then (written_at a) (last_of last (Packet number) a)
follows_answer start first before now then number last a f is same few =
    let on = follows_on start first before now number last f (subst AreFew same few) in
    let A : Answer → Type 0 = λ x. Follows start first before (after_event now (Deliver number)) (written_at x) (last_of last (Packet number) x) in
    subst (λ w. Follows start first before w (written_at a) (last_of last (Packet number) a)) (sym same) (subst A is on)

-- and the world and what is in hand then are lighter
pub falls_answer : (now then : World) (next : Option ℕ) (number : ℕ) (a : Answer) → IsInHand now next → next ≡ Some number → answer_to now (Deliver number) ≡ a
    → then ≡ after_event now (Deliver number) → world_weight then (written_at a) < world_weight now next
falls_answer now then next number a hand some is same =
    let f = hand_falls now number (subst (IsInHand now) some hand) in
    let W : World → Option ℕ → Type 0 = λ v o. world_weight v (written_at a) < world_weight now o in
    let A : Answer → Type 0 = λ x. world_weight (after_event now (Deliver number)) (written_at x) < world_weight now (Some number) in
    subst (W then) (sym some) (subst (λ v. W v (Some number)) (sym same) (subst A is f))

-- ---- where they end

pub nothing_next : (o : Option ℕ) → ((x : ℕ) → o ≡ Some x → ⊥) → o ≡ None
nothing_next None none = refl
nothing_next (Some x) none = absurd (none x refl)

pub on_err : {A E : Type 0} (r : Result A E) {P : Type 0} → P → OnErr r P
on_err (Ok a) p = tt
on_err (Err e) p = p

pub followed : (start : World) (first : Option ℕ) (before : Last) (now : World) (last : Last) → Follows start first before now None last → Delivers start first before last now
followed start first before now last f = record {
  events = f.done ++ [];
  are = f.runs [] tt;
  done = done_then start now now f.done [] f.happened (done_nothing now);
  told = sym (f.told []);
}

pub take_done : (done more : List Event) → take (length done) (done ++ more) ≡ done
take_done [] more = refl
take_done (e ∷ done) more = ap (λ es. e ∷ es) (take_done done more)

-- and where memory is wanting, some first of them are done
pub followed_first : (start : World) (first : Option ℕ) (before : Last) (now : World) (next : Option ℕ) (last : Last) → Follows start first before now next last
    → DoesFirst start (IsRun start first) now
followed_first start first before now next last f =
    let rest = has_run now next f.hand in
    let D : List Event → Type 0 = λ es. AreDone start es now in
    record {
      events = f.done ++ rest.0;
      are = f.runs rest.0 rest.1;
      count = length f.done;
      done = subst D (sym (take_done f.done rest.0)) f.happened;
    }

-- ---- the request, and what follows

-- it arrived, so what it wrote is in hand
pub asked_hand : (w next : World) (name : List ℕ) (q : Request) (begun : Happened) → answer_to w (Begin name q) ≡ Ok begun → next ≡ after_event w (Begin name q) → IsInHand next begun.packet
asked_hand w next name q begun is same =
    subst (λ v. IsInHand v begun.packet) (sym same) (subst (λ (a : Answer). IsInHand (after_event w (Begin name q)) (written_at a)) is (begin_writes_live w name q))

-- what follows it, by the request
behind_request : (w next end : World) (name : List ℕ) (q : Request) (begun : Happened) (last : Last) → answer_to w (Begin name q) ≡ Ok begun → next ≡ after_event w (Begin name q)
    → Delivers next begun.packet (Some (Nothing, begun)) last end
    → Delivers (after_event w (Begin name q)) (written w (Begin name q)) (last_of None Nothing (answer_to w (Begin name q))) last end
behind_request w next end name q begun last is same d =
    let A : Answer → Type 0 = λ a. Delivers (after_event w (Begin name q)) (written_at a) (last_of None Nothing a) last end in
    let N : World → Type 0 = λ v. Delivers v begun.packet (Some (Nothing, begun)) last end in
    subst A (sym is) (subst N same d)

done_behind : (w end : World) (e : Event) (events : List Event) → AreFew (after_event w e) → AreDone (after_event w e) events end → AreDone w (e ∷ events) end
done_behind w end e events few d = record { world = d.world; few = (few, d.few) }

-- what is said of all of them
pub asked_does : (w next end : World) (name : List ℕ) (q : Request) (begun : Happened) (last : Detail × Happened) (text : List ℕ) → answer_to w (Begin name q) ≡ Ok begun
    → next ≡ after_event w (Begin name q) → AreFew next → Delivers next begun.packet (Some (Nothing, begun)) (Some last) end → text ≡ line_of end (Some last)
    → Does w (IsAsking w name q) (saying (events_said w)) (Ok (printed text)) end
asked_does w next end name q begun last text is same few d told =
    let e = Begin name q in
    let b = behind_request w next end name q begun (Some last) is same d in
    let line : text ≡ last_line w (e ∷ b.events) =
    told ∙ ap (line_of end) b.told ∙ ap (λ v. line_of v (last_at None w (e ∷ b.events))) (b.done).world in
    record {
      events = e ∷ b.events;
      are = (refl, b.are);
      done = done_behind w end e b.events (subst AreFew same few) b.done;
      told = ap (λ x. Ok (printed x)) line ∙ sym (ap (λ a. said_of e a (last_line w (e ∷ b.events))) is);
    }

-- all of them happened, and nothing is said
pub asked_all : (w next end : World) (name : List ℕ) (q : Request) (begun : Happened) (last : Last) → answer_to w (Begin name q) ≡ Ok begun → next ≡ after_event w (Begin name q) → AreFew next
    → Delivers next begun.packet (Some (Nothing, begun)) last end → DoesFirst w (IsAsking w name q) end
asked_all w next end name q begun last is same few d =
    let e = Begin name q in
    let b = behind_request w next end name q begun last is same d in
    does_all_first w end (IsAsking w name q) (e ∷ b.events) (refl, b.are) (done_behind w end e b.events (subst AreFew same few) b.done)

-- for want of memory the request and some deliveries happened
pub asked_first : (w next now : World) (name : List ℕ) (q : Request) (begun : Happened) → answer_to w (Begin name q) ≡ Ok begun → next ≡ after_event w (Begin name q) → AreFew next
    → DoesFirst next (IsRun next begun.packet) now → DoesFirst w (IsAsking w name q) now
asked_first w next now name q begun is same few d =
    let e = Begin name q in
    let A : Answer → Type 0 = λ a. DoesFirst (after_event w e) (IsRun (after_event w e) (written_at a)) now in
    let N : World → Type 0 = λ v. DoesFirst v (IsRun v begun.packet) now in
    let b = subst A (sym is) (subst N same d) in
    record {
      events = e ∷ b.events;
      are = (refl, b.are);
      count = suc b.count;
      done = done_behind w now e (take b.count b.events) (subst AreFew same few) b.done;
    }

-- it didn't arrive, so nothing follows
pub unasked_does : (w now : World) (name : List ℕ) (q : Request) (fault : LineFault) → Err fault ≡ happened_or (answer_to w (Begin name q)) → now ≡ after_event w (Begin name q)
    → AreFew now → Does w (IsAsking w name q) (saying (events_said w)) (Err fault) now
unasked_does w now name q fault heard same few =
    let e = Begin name q in
    let r = heard_err (answer_to w e) fault heard in
    let A : Answer → Type 0 = λ a. IsRun (after_event w e) (written_at a) [] in
    record {
      events = e ∷ [];
      are = (refl, subst A (sym r.1) tt);
      done = done_one w now e same few;
      told = ap Err (sym r.2) ∙ sym (ap (λ a. said_of e a (last_line w (e ∷ []))) r.1);
    }

-- nothing of it happened yet
pub unasked : (w now : World) (name : List ℕ) (q : Request) → now ≡ w → DoesFirst w (IsAsking w name q) now
unasked w now name q same = let h = has_asking w name q in does_none w now (IsAsking w name q) h.0 h.1 same
