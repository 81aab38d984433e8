-- What is told of an event, and what is delivered and exchanged by such events.
use Rattle.std.proofs.Common.{◌≡◌, ◌≢◌, ℕ, ◌||◌, ◌&&◌, Bool, true, false, List, [], ◌∷◌, ◌++◌, Option, Some, None, IfSome, Ok, Err, nat_lt, if◌then◌else◌, refl, ap, sym, ◌∙◌, subst}
use Rattle.std.proofs.lemmas.Bool.{lt-ltb}
use Rattle.lang_base.specs.Memory.{Unless}
use Rattle.call_registers.specs.Changes.{raised}
use Rattle.service_events.specs.Fits.{Fits}
use Rattle.service_events.specs.State.{Kept}
use Rattle.world_agreement.specs.Partners.{NamesDiffer, service_of}
use Rattle.world_events.specs.Events.{Answer, after_event, after_events, answer_to, turn}
use Rattle.world_events.specs.Sound.{AreFew}
use Rattle.world_events.specs.Turns.{Turns, turned_to, world_memory}
use Rattle.world_events.specs.Worlds.{World}
use Rattle.world_events.specs.declared.event.Event.{Event}
use Rattle.world_events.specs.declared.event.Event.TheVariants.{Deliver, Post as Posts}
use Rattle.world_events.specs.declared.event.WorldStepRefused.{WorldStepRefused}
use Rattle.world_events.specs.declared.happened.Happened.{Happened}
use Rattle.world_core.specs.HandedOn.{written_at}
use Rattle.world_settle.specs.Doing.{AllDiffer, Comes, Delivers, DoesFirst, Exchanges, HaveHappened, added, noted, told_of}
use Rattle.world_settle.specs.Settles.{IsDelivered, IsExchange, any_came, came, goes_on, is_done, is_post, is_run, is_work, outstanding_for}
use Rattle.world_settle.specs.declared.came.Came.{Came}
use Rattle.world_settle.specs.declared.tally.Tally.{Tally}
use Rattle.world_settle.proofs.ComeToEnd.{delivered_has, exchange_has}
use Rattle.world_settle.proofs.EventLemmas.{added_then, happened_then, none_first, one_happened}
use Rattle.world_settle.proofs.ExchangeLaws.{exchange_lowers, exchange_nothing}

-- ---- an event

-- what is counted of one answer
abbrev with_answer : Tally → Answer → Tally
with_answer t a = record {
  runs = if came is_run a then raised t.runs else t.runs;
  posts = if came is_post a then raised t.posts else t.posts;
  works = came is_work a || t.works;
}

-- it happened
pub comes_ok : (start now : World) (e : Event) (a : Answer) (h : Happened) (before after : Tally) (told : Came) → a ≡ Ok h → Turns (turn start e) start a now → AreFew now
    → NamesDiffer now.services → told ≡ told_of (Ok h) → after ≡ noted before h.what → Comes start e before after told now
comes_ok start now e a h before after told is turns few differ same counted =
    let T : Answer → Type 0 = λ x. Turns (turn start e) start x now in
    let t : turned_to now (Ok h) ≡ turn start e = subst T is turns in
    let answer : Ok h ≡ answer_to start e = ap (λ x. x.answer) t in
    record {
      told = same ∙ ap told_of answer;
      world = ap (λ x. x.world) t;
      few = few;
      differ = differ;
      tally = counted ∙ ap (with_answer before) answer;
    }

-- it didn't
pub comes_err : (start now : World) (e : Event) (a : Answer) (why : WorldStepRefused) (t : Tally) (told : Came) → a ≡ Err why → world_memory why ≡ false
    → Turns (turn start e) start a now → AreFew now → NamesDiffer now.services → told ≡ record { ran = false; is_done = false; packet = None } → Comes start e t t told now
comes_err start now e a why t told is memory turns few differ same =
    let T : Answer → Type 0 = λ x. Turns (turn start e) start x now in
    let U : Bool → Type 0 = λ b. Unless b (turned_to now (Err why) ≡ turn start e) (now ≡ start) in
    let is_turn : turned_to now (Err why) ≡ turn start e = subst U memory (subst T is turns) in
    let answer : Err why ≡ answer_to start e = ap (λ x. x.answer) is_turn in
    record {
      told = same ∙ ap told_of answer;
      world = ap (λ x. x.world) is_turn;
      few = few;
      differ = differ;
      tally = ap (with_answer t) answer;
    }

-- ---- deliveries

or_none : (b : Bool) → b ≡ (b || false)
or_none true = refl
or_none false = refl

pub delivers_back_none : (start : World) (packet : Option ℕ) (t : Tally) → packet ≡ None → Delivers start 1 packet t t false start
delivers_back_none start packet t none = record {
  events = [];
  are = (let D : Option ℕ → Type 0 = λ o. IsDelivered 1 start o [] in subst D (sym none) refl);
  happened = record { world = refl; few = tt };
  tally = refl;
  is = refl;
  differ = tt;
}

pub delivers_none : (start : World) (packet : Option ℕ) (t : Tally) → packet ≡ None → Delivers start 2 packet t t false start
delivers_none start packet t none = record {
  events = [];
  are = (let D : Option ℕ → Type 0 = λ o. IsDelivered 2 start o [] in subst D (sym none) refl);
  happened = record { world = refl; few = tt };
  tally = refl;
  is = refl;
  differ = tt;
}

pub delivers_back : (start now : World) (number : ℕ) (packet : Option ℕ) (before after : Tally) (told : Came) → packet ≡ Some number → Comes start (Deliver number) before after told now
    → Delivers start 1 packet before after told.is_done now
delivers_back start now number packet before after told is c =
    let e = Deliver number in
    let D : Option ℕ → Type 0 = λ o. IsDelivered 1 start o (e ∷ []) in
    let N : World → Type 0 = λ w. NamesDiffer w.services in
    record {
      events = e ∷ [];
      are = subst D (sym is) (refl, refl);
      happened = one_happened start now e c.world c.few;
      tally = c.tally;
      is = ap (λ x. x.is_done) c.told ∙ or_none (came is_done (answer_to start e));
      differ = (subst N c.world c.differ, tt);
    }

-- an event, and then what others are
module _ (start mid now : World) (e : Event) (t u v : Tally) (told : Came) (c : Comes start e t u told mid) where
  behind_happened : (events : List Event) → HaveHappened mid events now → HaveHappened start (e ∷ events) now
  behind_happened events h = happened_then start mid now (e ∷ []) events (one_happened start mid e c.world c.few) h

  behind_tally : (events : List Event) → v ≡ added u mid events → v ≡ added t start (e ∷ events)
  behind_tally events h = added_then t u v start mid (e ∷ []) events c.world c.tally h

  behind_delivered : (times : ℕ) (events : List Event) → IsDelivered times mid told.packet events → IsDelivered times (after_event start e) (written_at (answer_to start e)) events
  behind_delivered times events h =
      let W : World → Type 0 = λ w. IsDelivered times w told.packet events in
      let P : Option ℕ → Type 0 = λ o. IsDelivered times (after_event start e) o events in
      subst P (ap (λ x. x.packet) c.told) (subst W c.world h)

  behind_done : (done : Bool) (events : List Event) → done ≡ any_came is_done mid events → (told.is_done || done) ≡ any_came is_done start (e ∷ events)
  behind_done done events h =
      ap (λ b. b || done) (ap (λ x. x.is_done) c.told) ∙ ap (λ b. came is_done (answer_to start e) || b) (h ∙ ap (λ w. any_came is_done w events) c.world)

  behind_differ : (events : List Event) → AllDiffer mid events → AllDiffer start (e ∷ events)
  behind_differ events h =
      let N : World → Type 0 = λ w. NamesDiffer w.services in
      let A : World → Type 0 = λ w. AllDiffer w events in
      (subst N c.world c.differ, subst A c.world h)

pub delivers_on : (start mid now : World) (number : ℕ) (packet : Option ℕ) (t u v : Tally) (told : Came) (done : Bool) → packet ≡ Some number → Comes start (Deliver number) t u told mid
    → Delivers mid 1 told.packet u v done now → Delivers start 2 packet t v (told.is_done || done) now
delivers_on start mid now number packet t u v told done is c d =
    let e = Deliver number in
    let D : Option ℕ → Type 0 = λ o. IsDelivered 2 start o (e ∷ d.events) in
    record {
      events = e ∷ d.events;
      are = subst D (sym is) (refl, behind_delivered start mid now e t u v told c 1 d.events d.are);
      happened = behind_happened start mid now e t u v told c d.events d.happened;
      tally = behind_tally start mid now e t u v told c d.events d.tally;
      is = behind_done start mid now e t u v told c done d.events d.is;
      differ = behind_differ start mid now e t u v told c d.events d.differ;
    }

-- of the deliveries behind the first some happened
pub delivers_within : (start mid now : World) (number : ℕ) (packet : Option ℕ) (t u : Tally) (told : Came) → packet ≡ Some number → Comes start (Deliver number) t u told mid
    → DoesFirst mid (λ w events. IsDelivered 1 w told.packet events) now → DoesFirst start (λ w events. IsDelivered 2 w packet events) now
delivers_within start mid now number packet t u told is c d =
    let e = Deliver number in
    let D : Option ℕ → Type 0 = λ o. IsDelivered 2 start o (e ∷ (d.done ++ d.rest)) in
    record {
      done = e ∷ d.done;
      rest = d.rest;
      are = subst D (sym is) (refl, behind_delivered start mid now e t u u told c 1 (d.done ++ d.rest) d.are);
      happened = behind_happened start mid now e t u u told c d.done d.happened;
    }

-- nothing was delivered
pub delivers_back_first : (start now : World) (packet : Option ℕ) → now ≡ start → DoesFirst start (λ w events. IsDelivered 1 w packet events) now
delivers_back_first start now packet same = none_first start now (λ w events. IsDelivered 1 w packet events) (delivered_has 1 packet start) same

pub delivers_first : (start now : World) (packet : Option ℕ) → now ≡ start → DoesFirst start (λ w events. IsDelivered 2 w packet events) now
delivers_first start now packet same = none_first start now (λ w events. IsDelivered 2 w packet events) (delivered_has 2 packet start) same

-- what is told of two deliveries, by the first
pub either_then : (P : Bool → Type 0) (a b : Bool) → a ≡ true → P (a || b) → P a
either_then P true b e p = p
either_then P false b e p = cc

pub either_else : (P : Bool → Type 0) (a b : Bool) → a ≡ false → P (a || b) → P b
either_else P true b e p = cc
either_else P false b e p = p

-- ---- an exchange

-- another one follows where the sender is done with the post: fewer are outstanding then
goes_on_is : (start : World) (from to : List ℕ) → from ≢ to → IfSome (service_of from start.services) Fits → (events : List Event) → IsExchange from to start events → AllDiffer start events
    → any_came is_done start events ≡ goes_on from to start events
goes_on_is start from to apart fits events are differ = by_there (service_of from start.services) refl fits
  where
    fewer : (done : Bool) → (done ≡ true → nat_lt (outstanding_for from to (after_events start events)) (outstanding_for from to start) ≡ true)
        → done ≡ (done && nat_lt (outstanding_for from to (after_events start events)) (outstanding_for from to start))
    fewer true h = sym (h refl)
    fewer false h = refl

    by_there : (o : Option Kept) → service_of from start.services ≡ o → IfSome o Fits → any_came is_done start events ≡ goes_on from to start events
    by_there None gone fits = (let none = exchange_nothing start from to events gone are in fewer (any_came is_done start events) (λ done. (let no : false ≡ true = sym none ∙ done in cc)))
    by_there (Some s) here fits =
        fewer (any_came is_done start events)
        (λ done. lt-ltb (outstanding_for from to (after_events start events)) (outstanding_for from to start) (exchange_lowers start from to apart s fits here events are differ done))

pub exchanges : (start mid now : World) (from to : List ℕ) (t u v : Tally) (told : Came) (done : Bool) → from ≢ to → IfSome (service_of from start.services) Fits
    → Comes start (Posts from to) t u told mid → Delivers mid 2 told.packet u v done now → Exchanges start from to t v (told.is_done || done) now
exchanges start mid now from to t u v told done apart fits c d =
    let e = Posts from to in
    let are : IsExchange from to start (e ∷ d.events) = (refl, behind_delivered start mid now e t u v told c 2 d.events d.are) in
    record {
      events = e ∷ d.events;
      are = are;
      happened = behind_happened start mid now e t u v told c d.events d.happened;
      tally = behind_tally start mid now e t u v told c d.events d.tally;
      is = behind_done start mid now e t u v told c done d.events d.is
          ∙ goes_on_is start from to apart fits (e ∷ d.events) are (behind_differ start mid now e t u v told c d.events d.differ);
      done = behind_done start mid now e t u v told c done d.events d.is;
    }

pub exchange_within : (start mid now : World) (from to : List ℕ) (t u : Tally) (told : Came) → Comes start (Posts from to) t u told mid
    → DoesFirst mid (λ w events. IsDelivered 2 w told.packet events) now → DoesFirst start (IsExchange from to) now
exchange_within start mid now from to t u told c d =
    let e = Posts from to in
    record {
      done = e ∷ d.done;
      rest = d.rest;
      are = (refl, behind_delivered start mid now e t u u told c 2 (d.done ++ d.rest) d.are);
      happened = behind_happened start mid now e t u u told c d.done d.happened;
    }

pub exchange_first : (start now : World) (from to : List ℕ) → now ≡ start → DoesFirst start (IsExchange from to) now
exchange_first start now from to same = none_first start now (IsExchange from to) (exchange_has from to start) same
