-- Each line comes to one list of events, and one that is refused does nothing.
use Rattle.std.proofs.Common.{◌≡◌, ℕ, List, [], ◌∷◌, Option, Some, None, Result, Ok, Err, refl, ap, sym, ◌∙◌, subst}
use Rattle.lang_core.specs.declared.request.Request.{Request}
use Rattle.lang_tree.specs.declared.program.Route.{Route}
use Rattle.journal_rows.specs.declared.orders.Command.{Command}
use Rattle.order_texts.specs.Texts.{command_given, program_given}
use Rattle.order_texts.specs.declared.refused.TextFault.{TextFault}
use Rattle.service_events.specs.State.{Kept}
use Rattle.service_reports.specs.HandedOn.{Cancel, Correct, Trial}
use Rattle.service_reports.proofs.ShownLaws.{has_shown, one_shown}
use Rattle.world_agreement.specs.Partners.{service_of}
use Rattle.world_events.specs.Events.{Answer, after_events, answer_to}
use Rattle.world_events.specs.Live.{AllLiveEvents}
use Rattle.world_events.specs.Worlds.{World}
use Rattle.world_events.specs.declared.event.Event.{Event}
use Rattle.world_events.specs.declared.event.Event.TheVariants as event
use Rattle.world_events.specs.declared.event.WorldStepRefused.{WorldStepRefused}
use Rattle.world_laws.specs.Runs.{IsAsking}
use Rattle.world_laws.proofs.RunLaws.{asking_live, has_asking, one_asking}
use Rattle.world_laws.proofs.StillLaws.{event_still, asking_still}
use Rattle.world_settle.specs.declared.settled.Settled.{Settled}
use Rattle.world_settle.proofs.ComeToEnd.{settled}
use Rattle.script_lines.specs.Lines.{Read}
use Rattle.script_lines.specs.declared.line.Line.{Line}
use Rattle.script_lines.specs.declared.line.Line.TheVariants.{Blank, Event as One, Given, Ask, Settle, Rows, Log, Notices, Preview, Programs, Changed, Rehearse, Dump, Audit}
use Rattle.script_lines.specs.declared.line.LineFault.{LineFault}
use Rattle.script_lines.specs.declared.line.LineFault.TheVariants.{Service}
use Rattle.script_run.specs.Counting.{printed}
use Rattle.script_run.specs.Giving.{given_events, given_said}
use Rattle.script_run.specs.Previewing.{PrintsPreview, PrintsRehearsal, SaysShown, preview_text}
use Rattle.script_run.specs.Settling.{settled_said}
use Rattle.script_run.specs.Told.{LineAnswer, last_line, said_of, events_said}
use Rattle.script_run.specs.declared.counts.Said.{Said}
use Rattle.script_run.specs.Plays.{AreEventsFor, AreEventsOf, IsLiveLine, Says, SaysFor}

-- ---- the events of a line

-- there is such a list
has_events : (w : World) (line : Line) → (events : List Event) × AreEventsOf w line events
has_events w Blank = ([], refl)
has_events w (One e) = (e ∷ [], refl)
has_events w (Given service order token who text) = (given_events service token who (command_given order text), refl)
has_events w (Ask service q) = has_asking w service q
has_events w (Settle n) = let s = settled w n in (s.events, (s.counts, s.are))
has_events w (Rows service) = ([], refl)
has_events w (Log service) = ([], refl)
has_events w (Notices service) = ([], refl)
has_events w (Preview service id who) = ([], refl)
has_events w (Programs service) = ([], refl)
has_events w (Changed service) = ([], refl)
has_events w (Rehearse service number who text) = ([], refl)
has_events w Dump = ([], refl)
has_events w Audit = ([], refl)

pub events_for : (w : World) (r : Read) → (events : List Event) × AreEventsFor w r events
events_for w (Ok line) = has_events w line
events_for w (Err fault) = ([], refl)

-- and no other
one_list : (w : World) (line : Line) (xs ys : List Event) → AreEventsOf w line xs → AreEventsOf w line ys → xs ≡ ys
one_list w Blank xs ys a b = a ∙ sym b
one_list w (One e) xs ys a b = a ∙ sym b
one_list w (Given service order token who text) xs ys a b = a ∙ sym b
one_list w (Ask service q) xs ys a b = one_asking w service q xs ys a b
one_list w (Settle n) xs ys a b = let s = settled w n in (s.alone xs a.0 a.1).0 ∙ sym (s.alone ys b.0 b.1).0
one_list w (Rows service) xs ys a b = a ∙ sym b
one_list w (Log service) xs ys a b = a ∙ sym b
one_list w (Notices service) xs ys a b = a ∙ sym b
one_list w (Preview service id who) xs ys a b = a ∙ sym b
one_list w (Programs service) xs ys a b = a ∙ sym b
one_list w (Changed service) xs ys a b = a ∙ sym b
one_list w (Rehearse service number who text) xs ys a b = a ∙ sym b
one_list w Dump xs ys a b = a ∙ sym b
one_list w Audit xs ys a b = a ∙ sym b

pub one_for : (w : World) (r : Read) (xs ys : List Event) → AreEventsFor w r xs → AreEventsFor w r ys → xs ≡ ys
one_for w (Ok line) xs ys a b = one_list w line xs ys a b
one_for w (Err fault) xs ys a b = a ∙ sym b

-- ---- what a line says

-- something is printed of an order that is tried, and nothing else
has_preview : (trial : Trial) (who : List ℕ) (s : Kept) → (text : List ℕ) × PrintsPreview trial who s text
has_preview trial who s = let r = has_shown trial who s in (preview_text s r.0, (r.0, r.1, refl))

one_preview : (trial : Trial) (who : List ℕ) (s : Kept) (a b : List ℕ) → PrintsPreview trial who s a → PrintsPreview trial who s b → a ≡ b
one_preview trial who s a b x y = x.2 ∙ ap (preview_text s) (one_shown trial who s x.0 y.0 x.1 y.1) ∙ sym y.2

-- of a rehearsal
has_rehearsal : (number : ℕ) (who : List ℕ) (read : Result (List Route) ℕ) (s : Kept) → (text : List ℕ) × PrintsRehearsal number who read s text
has_rehearsal number who (Ok program) s = has_preview (Correct number program) who s
has_rehearsal number who (Err at) s = (_, refl)

one_rehearsal : (number : ℕ) (who : List ℕ) (read : Result (List Route) ℕ) (s : Kept) (a b : List ℕ) → PrintsRehearsal number who read s a → PrintsRehearsal number who read s b → a ≡ b
one_rehearsal number who (Ok program) s a b x y = one_preview (Correct number program) who s a b x y
one_rehearsal number who (Err at) s a b x y = x ∙ sym y

-- so it is said of a service, if that is there
shown_said : (Prints : Kept → List ℕ → Type 0) → ((s : Kept) → (text : List ℕ) × Prints s text) → (o : Option Kept) → (said : LineAnswer) × SaysShown Prints o said
shown_said Prints has None = (Err Service, refl)
shown_said Prints has (Some s) = let p = has s in (Ok (printed p.0), (p.0, p.1, refl))

one_shown_said : (Prints : Kept → List ℕ → Type 0) → ((s : Kept) (a b : List ℕ) → Prints s a → Prints s b → a ≡ b)
    → (o : Option Kept) (a b : LineAnswer) → SaysShown Prints o a → SaysShown Prints o b → a ≡ b
one_shown_said Prints one None a b x y = x ∙ sym y
one_shown_said Prints one (Some s) a b x y =
    let S : List ℕ → LineAnswer = λ t. Ok (printed t) in
    x.2 ∙ ap S (one s x.0 y.0 x.1 y.1) ∙ sym y.2

-- there is something that it says
has_said : (w : World) (line : Line) (events : List Event) → AreEventsOf w line events → (said : LineAnswer) × Says w line events said
has_said w Blank events are = (_, refl)
has_said w (One e) events are = (_, refl)
has_said w (Given service order token who text) events are = (_, refl)
has_said w (Ask service q) events are = (_, refl)
has_said w (Settle n) events are = (Ok (settled_said are.0), (are.0, are.1, refl))
has_said w (Rows service) events are = (_, refl)
has_said w (Log service) events are = (_, refl)
has_said w (Notices service) events are = (_, refl)
has_said w (Preview service id who) events are =
    shown_said (PrintsPreview (Cancel id) who) (has_preview (Cancel id) who) (service_of service w.services)
has_said w (Programs service) events are = (_, refl)
has_said w (Changed service) events are = (_, refl)
has_said w (Rehearse service number who text) events are =
    let read = program_given text in
    shown_said (PrintsRehearsal number who read) (has_rehearsal number who read) (service_of service w.services)
has_said w Dump events are = (_, refl)
has_said w Audit events are = (_, refl)

pub said_for : (w : World) (r : Read) (events : List Event) → AreEventsFor w r events → (said : LineAnswer) × SaysFor w r events said
said_for w (Ok line) events are = has_said w line events are
said_for w (Err fault) events are = (Err fault, refl)

-- and nothing else
one_said : (w : World) (line : Line) (events : List Event) (a b : LineAnswer) → Says w line events a → Says w line events b → a ≡ b
one_said w Blank events a b x y = x ∙ sym y
one_said w (One e) events a b x y = x ∙ sym y
one_said w (Given service order token who text) events a b x y = x ∙ sym y
one_said w (Ask service q) events a b x y = x ∙ sym y
one_said w (Settle n) events a b x y =
    let s = settled w n in
    let same : x.0 ≡ y.0 = (s.alone events x.0 x.1).1 ∙ sym (s.alone events y.0 y.1).1 in
    let S : Settled → LineAnswer = λ counts. Ok (settled_said counts) in
    x.2 ∙ ap S same ∙ sym y.2
one_said w (Rows service) events a b x y = x ∙ sym y
one_said w (Log service) events a b x y = x ∙ sym y
one_said w (Notices service) events a b x y = x ∙ sym y
one_said w (Preview service id who) events a b x y =
    one_shown_said (PrintsPreview (Cancel id) who) (one_preview (Cancel id) who) (service_of service w.services) a b x y
one_said w (Programs service) events a b x y = x ∙ sym y
one_said w (Changed service) events a b x y = x ∙ sym y
one_said w (Rehearse service number who text) events a b x y =
    let read = program_given text in
    one_shown_said (PrintsRehearsal number who read) (one_rehearsal number who read) (service_of service w.services) a b x y
one_said w Dump events a b x y = x ∙ sym y
one_said w Audit events a b x y = x ∙ sym y

pub one_answer : (w : World) (r : Read) (events : List Event) (a b : LineAnswer) → SaysFor w r events a → SaysFor w r events b → a ≡ b
one_answer w (Ok line) events a b x y = one_said w line events a b x y
one_answer w (Err fault) events a b x y = x ∙ sym y

-- ---- a line that is refused

-- its first event is refused
refusal : (e : Event) (a : Answer) (text : List ℕ) (fault : LineFault) → Err fault ≡ said_of e a text → (why : WorldStepRefused) × (a ≡ Err why)
refusal e (Ok h) text fault is = let no : ⊥ = cc in absurd no
refusal e (Err why) text fault is = (why, refl)

one_still : (w : World) (e : Event) (events : List Event) (fault : LineFault) → events ≡ e ∷ [] → Err fault ≡ events_said w events → after_events w events ≡ w
one_still w e events fault is says =
    let S : List Event → Type 0 = λ es. Err fault ≡ events_said w es in
    let r = refusal e (answer_to w e) (last_line w (e ∷ [])) fault (subst S is says) in
    ap (after_events w) is ∙ event_still w e r.0 r.1

none_still : (w : World) (events : List Event) → events ≡ [] → after_events w events ≡ w
none_still w events is = ap (after_events w) is

ask_still : (w : World) (service : List ℕ) (q : Request) (events : List Event) (fault : LineFault) → IsAsking w service q events → Err fault ≡ events_said w events → after_events w events ≡ w
ask_still w service q [] fault asks says = absurd asks
ask_still w service q (e ∷ events) fault asks says =
    let A : Event → Type 0 = λ x. Err fault ≡ said_of x (answer_to w x) (last_line w (x ∷ events)) in
    let r = refusal (event.Begin service q) (answer_to w (event.Begin service q)) (last_line w (event.Begin service q ∷ events)) fault (subst A asks.0 says) in
    asking_still w service q (e ∷ events) r.0 asks r.1

ok_is_no_fault : (fault : LineFault) (said : Said) → ◌≡◌ {A = LineAnswer} (Err fault) (Ok said) → ⊥
ok_is_no_fault fault said is = cc

given_still : (w : World) (service token who : List ℕ) (read : Result Command TextFault) (events : List Event) (fault : LineFault) → events ≡ given_events service token who read
    → Err fault ≡ given_said w service read events → after_events w events ≡ w
given_still w service token who (Ok command) events fault are e = one_still w (event.Order service command token who) events fault are e
given_still w service token who (Err why) events fault are e = none_still w events are

line_still : (w : World) (line : Line) (events : List Event) (fault : LineFault) → AreEventsOf w line events → Says w line events (Err fault) → after_events w events ≡ w
line_still w Blank events fault are e = none_still w events are
line_still w (One one) events fault are e = one_still w one events fault are e
line_still w (Given service order token who text) events fault are e = given_still w service token who (command_given order text) events fault are e
line_still w (Ask service q) events fault are e = ask_still w service q events fault are e
line_still w (Settle n) events fault are e = let no : ⊥ = ok_is_no_fault fault (settled_said e.0) e.2 in absurd no
line_still w (Rows service) events fault are e = none_still w events are
line_still w (Log service) events fault are e = none_still w events are
line_still w (Notices service) events fault are e = none_still w events are
line_still w (Preview service id who) events fault are e = none_still w events are
line_still w (Programs service) events fault are e = none_still w events are
line_still w (Changed service) events fault are e = none_still w events are
line_still w (Rehearse service number who text) events fault are e = none_still w events are
line_still w Dump events fault are e = none_still w events are
line_still w Audit events fault are e = none_still w events are

-- whatever was read as a line, it does nothing
pub refused_still : (w : World) (r : Read) (events : List Event) (fault : LineFault) → AreEventsFor w r events → SaysFor w r events (Err fault) → after_events w events ≡ w
refused_still w (Ok line) events fault are e = line_still w line events fault are e
refused_still w (Err other) events fault are e = none_still w events are

-- ---- a line of live requests

same_live : (events others : List Event) → events ≡ others → AllLiveEvents others → AllLiveEvents events
same_live events others is live = subst AllLiveEvents (sym is) live

line_live : (w : World) (line : Line) (events : List Event) → IsLiveLine (Ok line) → AreEventsOf w line events → AllLiveEvents events
line_live w Blank events live are = same_live events _ are tt
line_live w (One e) events live are = same_live events _ are (live, tt)
line_live w (Given service order token who text) events live are = absurd live
line_live w (Ask service q) events live are = asking_live w service q events are
line_live w (Settle n) events live are = absurd live
line_live w (Rows service) events live are = same_live events _ are tt
line_live w (Log service) events live are = same_live events _ are tt
line_live w (Notices service) events live are = same_live events _ are tt
line_live w (Preview service id who) events live are = same_live events _ are tt
line_live w (Programs service) events live are = same_live events _ are tt
line_live w (Changed service) events live are = same_live events _ are tt
line_live w (Rehearse service number who text) events live are = same_live events _ are tt
line_live w Dump events live are = same_live events _ are tt
line_live w Audit events live are = same_live events _ are tt

-- it has no other events
pub live_for : (w : World) (r : Read) (events : List Event) → IsLiveLine r → AreEventsFor w r events → AllLiveEvents events
live_for w (Ok line) events live are = line_live w line events live are
live_for w (Err fault) events live are = same_live events _ are tt
