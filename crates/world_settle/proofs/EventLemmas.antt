-- Events that happen part by part, and what is counted of them.
use Rattle.std.proofs.Common.{◌≡◌, ℕ, Bool, ◌||◌, List, [], ◌∷◌, ◌++◌, Result, Ok, Err, OnOk, OnErr, if◌then◌else◌, append_assoc, length, take, refl, ap, sym, ◌∙◌, subst}
use Rattle.call_registers.specs.Changes.{raised}
use Rattle.world_events.specs.Events.{after_event, after_events, answer_to}
use Rattle.world_events.specs.Sound.{AllFew, AreFew}
use Rattle.world_events.specs.Worlds.{World}
use Rattle.world_events.specs.declared.event.Event.{Event}
use Rattle.world_events.specs.declared.happened.What.{What}
use Rattle.world_settle.specs.Doing.{Does, DoesFirst, HaveHappened, added, risen, worked}
use Rattle.world_settle.specs.Settles.{came, is_post, is_run, is_work}
use Rattle.world_settle.specs.declared.tally.Tally.{Tally}
use Rattle.world_settle.proofs.ComeToEnd.{Has}

pub on_ok : {A E : Type 0} (r : Result A E) {P : Type 0} → P → OnOk r P
on_ok (Ok a) p = p
on_ok (Err e) p = tt

pub on_err : {A E : Type 0} (r : Result A E) {P : Type 0} → P → OnErr r P
on_err (Ok a) p = tt
on_err (Err e) p = p

-- ---- worlds

pub after_append : (w : World) (xs ys : List Event) → after_events w (xs ++ ys) ≡ after_events (after_events w xs) ys
after_append w [] ys = refl
after_append w (e ∷ xs) ys = after_append (after_event w e) xs ys

few_append : (w : World) (xs ys : List Event) → AllFew w xs → AllFew (after_events w xs) ys → AllFew w (xs ++ ys)
few_append w [] ys a b = b
few_append w (e ∷ xs) ys a b = (a.0, few_append (after_event w e) xs ys a.1 b)

pub nothing_happened : (w : World) → HaveHappened w [] w
nothing_happened w = record { world = refl; few = tt }

-- one event happened
pub one_happened : (w now : World) (e : Event) → now ≡ after_event w e → AreFew now → HaveHappened w (e ∷ []) now
one_happened w now e same few = record { world = same; few = (subst AreFew same few, tt) }

-- some events happened, and then others
pub happened_then : (start mid now : World) (xs ys : List Event) → HaveHappened start xs mid → HaveHappened mid ys now → HaveHappened start (xs ++ ys) now
happened_then start mid now xs ys a b =
    let F : World → Type 0 = λ w. AllFew w ys in
    record {
      world = b.world ∙ ap (λ w. after_events w ys) a.world ∙ sym (after_append start xs ys);
      few = few_append start xs ys a.few (subst F a.world b.few);
    }

-- the first of some events and others are these
pub take_done : (done rest : List Event) → take (length done) (done ++ rest) ≡ done
take_done [] rest = refl
take_done (e ∷ done) rest = ap (λ es. e ∷ es) (take_done done rest)

-- ---- counts

pub risen_append : (passes : What → Bool) (n : ℕ) (w : World) (xs ys : List Event) → risen passes n w (xs ++ ys) ≡ risen passes (risen passes n w xs) (after_events w xs) ys
risen_append passes n w [] ys = refl
risen_append passes n w (e ∷ xs) ys = risen_append passes (if came passes (answer_to w e) then raised n else n) (after_event w e) xs ys

worked_append : (before : Bool) (w : World) (xs ys : List Event) → worked before w (xs ++ ys) ≡ worked (worked before w xs) (after_events w xs) ys
worked_append before w [] ys = refl
worked_append before w (e ∷ xs) ys = worked_append (came is_work (answer_to w e) || before) (after_event w e) xs ys

-- what is counted of some events and then of others
pub added_then : (t u v : Tally) (start mid : World) (xs ys : List Event) → mid ≡ after_events start xs → u ≡ added t start xs → v ≡ added u mid ys → v ≡ added t start (xs ++ ys)
added_then t u v start mid xs ys world first rest =
    let A : added (added t start xs) (after_events start xs) ys ≡ added t start (xs ++ ys) =
    (λ i. record {
      runs = sym (risen_append is_run t.runs start xs ys) i;
      posts = sym (risen_append is_post t.posts start xs ys) i;
      works = sym (worked_append t.works start xs ys) i;
    }) in
    rest ∙ ap (λ w. added u w ys) world ∙ ap (λ x. added x (after_events start xs) ys) first ∙ A

-- ---- what is done, and what is to come

-- These events happened and were counted; whatever of the one kind comes behind them makes the whole be of the other kind.
pub record Goes (start : World) (Whole : World → List Event → Type 0) (before after : Tally) (now : World) (Rest : World → List Event → Type 0) : Type 0 where
  pub done : List Event
  pub happened : HaveHappened start done now
  pub tally : after ≡ added before start done
  pub leads : (rest : List Event) → Rest now rest → Whole start (done ++ rest)

-- nothing happened so far
pub goes_none : (start : World) (Whole : World → List Event → Type 0) (t : Tally) → Goes start Whole t t start Whole
goes_none start Whole t = record { done = []; happened = nothing_happened start; tally = refl; leads = λ rest h. h }

-- a part is done
pub goes_then : (start : World) (Whole : World → List Event → Type 0) (t u v : Tally) (mid : World) (Mid : World → List Event → Type 0) (now : World) (Rest : World → List Event → Type 0)
    → Goes start Whole t u mid Mid → Goes mid Mid u v now Rest → Goes start Whole t v now Rest
goes_then start Whole t u v mid Mid now Rest g h = record {
  done = g.done ++ h.done;
  happened = happened_then start mid now g.done h.done g.happened h.happened;
  tally = added_then t u v start mid g.done h.done (g.happened).world g.tally h.tally;
  leads = λ rest r. subst (Whole start) (sym (append_assoc g.done h.done rest)) (g.leads (h.done ++ rest) (h.leads rest r));
}

-- all of it is done
pub goes_does : (start : World) (Whole : World → List Event → Type 0) (t u : Tally) (now : World) (Rest : World → List Event → Type 0) → Goes start Whole t u now Rest → Rest now []
    → Does start Whole t u now
goes_does start Whole t u now Rest g h = record {
  events = g.done ++ [];
  are = g.leads [] h;
  happened = happened_then start now now g.done [] g.happened (nothing_happened now);
  tally = added_then t u u start now g.done [] (g.happened).world g.tally refl;
}

-- no more of it happened
pub goes_first : (start : World) (Whole : World → List Event → Type 0) (t u : Tally) (now end : World) (Rest : World → List Event → Type 0) → Goes start Whole t u now Rest
    → Has Rest now → end ≡ now → DoesFirst start Whole end
goes_first start Whole t u now end Rest g h same = record {
  done = g.done;
  rest = h.0;
  are = g.leads h.0 h.1;
  happened = subst (HaveHappened start g.done) (sym same) g.happened;
}

-- of the next part some first events happened
pub goes_within : (start : World) (Whole : World → List Event → Type 0) (t u : Tally) (mid now : World) (Mid Part : World → List Event → Type 0) → Goes start Whole t u mid Mid
    → DoesFirst mid Part now → ((events : List Event) → Part mid events → (more : List Event) × Mid mid (events ++ more)) → DoesFirst start Whole now
goes_within start Whole t u mid now Mid Part g d on =
    let more = on (d.done ++ d.rest) d.are in
    let whole : Whole start (g.done ++ ((d.done ++ d.rest) ++ more.0)) = g.leads ((d.done ++ d.rest) ++ more.0) more.1 in
    let same : g.done ++ ((d.done ++ d.rest) ++ more.0) ≡ (g.done ++ d.done) ++ (d.rest ++ more.0) =
    ap (λ es. g.done ++ es) (append_assoc d.done d.rest more.0) ∙ sym (append_assoc g.done d.done (d.rest ++ more.0)) in
    record {
      done = g.done ++ d.done;
      rest = d.rest ++ more.0;
      are = subst (Whole start) same whole;
      happened = happened_then start mid now g.done d.done g.happened d.happened;
    }

-- nothing of it happened
pub none_first : (start now : World) (Are : World → List Event → Type 0) → Has Are start → now ≡ start → DoesFirst start Are now
none_first start now Are h same = record { done = []; rest = h.0; are = h.1; happened = subst (HaveHappened start []) (sym same) (nothing_happened start) }

-- what is done of a kind goes on, where its events begin those of the other kind
pub does_goes : (start : World) (Are Whole Rest : World → List Event → Type 0) (t u : Tally) (now : World) → Does start Are t u now
    → ((events rest : List Event) → Are start events → Rest (after_events start events) rest → Whole start (events ++ rest)) → Goes start Whole t u now Rest
does_goes start Are Whole Rest t u now d on = record {
  done = d.events;
  happened = d.happened;
  tally = d.tally;
  leads = λ rest r. on d.events rest d.are (subst (λ w. Rest w rest) (d.happened).world r);
}
