-- A world stays closed at each event, and each event is refused exactly where it names what isn't there.
use Rattle.std.proofs.Common.{◌≡◌, Bool, true, false, Ok, sym, ap, ◌∙◌, subst}
use Rattle.lang_base.specs.Memory.{Unless, lacks}
use Rattle.world_events.specs.Ends.{IsClosed, PostsWell}
use Rattle.world_events.specs.Events.{Answer, Turn, turn}
use Rattle.world_events.specs.Reach.{AnswersBy, missing}
use Rattle.world_events.specs.Turns.{Turns, turned_to, world_memory}
use Rattle.world_events.specs.Worlds.{World}
use Rattle.world_events.specs.declared.event.Event.{Event}
use Rattle.world_events.specs.declared.happened.Happened.{Happened}
use Rattle.world_laws.proofs.EndLaws.{answers_by, turn_closed}

pub stays_closed : (w w' : World) (e : Event) (answer : Answer) → IsClosed w → Turns (turn w e) w answer w' → PostsWell w e → IsClosed w'
stays_closed w w' e answer closed turns well = by (lacks world_memory answer) turns
  where
    by : (lacking : Bool) → Unless lacking (turned_to w' answer ≡ turn w e) (w' ≡ w) → IsClosed w'
    by true same = subst IsClosed (sym same) closed
    by false is = subst IsClosed (sym (ap (λ (t : Turn). t.world) is)) (turn_closed w closed e well)

-- between the world as it is kept and as it is seen
pub turns_seen : (inside w w' : World) (e : Event) (answer : Answer) → inside ≡ w → Turns (turn inside e) inside answer w' → Turns (turn w e) w answer w'
turns_seen inside w w' e answer is turns = (let T : World → Type 0 = λ x. Turns (turn x e) x answer w' in subst T is turns)

pub named : (inside w w' : World) (e : Event) (answer : Answer) → inside ≡ w → IsClosed inside → Turns (turn inside e) inside answer w'
    → Unless (lacks world_memory answer) (AnswersBy (missing w e) answer) (Unit {0})
named inside w w' e answer is closed turns =
    (let N : World → Type 0 = λ x. Unless (lacks world_memory answer) (AnswersBy (missing x e) answer) (Unit {0}) in subst N is (by (lacks world_memory answer) turns))
  where
    by : (lacking : Bool) → Unless lacking (turned_to w' answer ≡ turn inside e) (w' ≡ inside) → Unless lacking (AnswersBy (missing inside e) answer) (Unit {0})
    by true same = tt
    by false is = subst (AnswersBy (missing inside e)) (sym (ap (λ (t : Turn). t.answer) is)) (answers_by inside closed e)

-- what is set is left, and told
pub set_turns : (w w' : World) (h h' : Happened) → w ≡ w' → h ≡ h' → turned_to w (Ok h) ≡ turned_to w' (Ok h')
set_turns w w' h h' left told = ap (λ x. turned_to x (Ok h)) left ∙ ap (λ x. turned_to w' (Ok x)) told
