-- What a service writes as a post, and what it gives up.
use Rattle.std.proofs.Common.{◌≡◌, ℕ, Bool, true, false, List, Option, Some, None, IsSome, IfSome, IsSomeAnd, refl, sym, ap, ◌∙◌, subst}
use Rattle.flights.specs.declared.flight.Flight.{Flight}
use Rattle.repair_messages.specs.declared.posts.Post.{Post}
use Rattle.repair_messages.specs.declared.posts.Post.TheVariants.{Set, Token, Fetch}
use Rattle.repair_messages.specs.declared.posts.PostName.{PostName}
use Rattle.service_events.specs.Arriving.{abandon_event, abandoned}
use Rattle.service_events.specs.Posts.{next_post, write_post}
use Rattle.service_events.specs.State.{Kept, After, after, flight_of}
use Rattle.service_core.specs.HandedOn.{GoesTo}
use Rattle.world_events.specs.Ends.{PostsTo, post_receiver}
use Rattle.world_events.specs.Events as world
use Rattle.world_events.specs.declared.happened.What.TheVariants.{Abandon}
use Rattle.world_core.specs.Acting.{GivesUp, served}
use Rattle.world_core.specs.declared.served.Served.{Served}

-- ---- a post

receives : (to : List ℕ) (post : Post) → GoesTo to post → post_receiver post ≡ to
receives to (Set set) goes = goes
receives to (Token t) goes = goes
receives to (Fetch f) goes = goes

message_goes : (to : List ℕ) (o : Option Post) → IsSomeAnd o (GoesTo to) → IfSome o (λ post. post_receiver post ≡ to)
message_goes to None goes = tt
message_goes to (Some post) goes = receives to post goes

-- the message of the next post goes to the service that it is for
pub post_goes : (to : List ℕ) (s : Kept) (name : Option PostName) → name ≡ next_post to s → IfSome name (λ n. IsSomeAnd (write_post s n) (GoesTo to)) → PostsTo to s
post_goes to s name is goes = subst (λ o. IfSome o (λ n. IfSome (write_post s n) (λ post. post_receiver post ≡ to))) is (by name goes)
  where
    by : (o : Option PostName) → IfSome o (λ n. IsSomeAnd (write_post s n) (GoesTo to)) → IfSome o (λ n. IfSome (write_post s n) (λ post. post_receiver post ≡ to))
    by None goes = tt
    by (Some n) goes = message_goes to (write_post s n) goes

pub has_message : (to : List ℕ) (o : Option Post) → IsSomeAnd o (GoesTo to) → IsSome o
has_message to None goes = absurd goes
has_message to (Some post) goes = refl

-- ---- a flight

abbrev told_of : After Bool → world.Served
told_of a = record { service = a.service; what = Abandon a.answer; packet = None }

was_there : (s s' : Kept) (o : Option Flight) → after s' true ≡ abandoned s o → IsSome o
was_there s s' None is = sym (ap (λ (a : After Bool). a.answer) is)
was_there s s' (Some f) is = refl

pub gives_up : (s s' : Kept) (flight : ℕ) (m : Served) → m ≡ record { what = Abandon true; packet = None } → after s' true ≡ abandon_event s flight → GivesUp flight s (Some m) s'
gives_up s s' flight m told is = (ap (served s') told ∙ ap told_of is, was_there s s' (flight_of flight s) is)

was_none : (s s' : Kept) (o : Option Flight) → after s' false ≡ abandoned s o → (s' ≡ s) × (o ≡ None)
was_none s s' None is = (ap (λ (a : After Bool). a.service) is, refl)
was_none s s' (Some f) is = (let clash : false ≡ true = ap (λ (a : After Bool). a.answer) is in cc)

pub not_there : (s s' : Kept) (flight : ℕ) → after s' false ≡ abandon_event s flight → GivesUp flight s None s'
not_there s s' flight is = was_none s s' (flight_of flight s) is
