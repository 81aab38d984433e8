-- What a service's answer to an event says, by the event's name.
use Rattle.std.specs.Prelude.{ℕ, ◌≡◌, List, Some, IfOk, IfSome, IsSomeAnd}
use Rattle.lang_core.specs.declared.ids.Origin.{Origin}
use Rattle.lang_core.specs.declared.inputs.Inputs.{Inputs}
use Rattle.lang_core.specs.declared.request.Request.{Request}
use Rattle.repair_messages.specs.declared.messages.AnswerMessage.{AnswerMessage}
use Rattle.repair_messages.specs.declared.messages.Fetch.{Fetch}
use Rattle.repair_messages.specs.declared.messages.SetMessage.{SetMessage}
use Rattle.repair_messages.specs.declared.messages.TokenMessage.{TokenMessage}
use Rattle.repair_messages.specs.declared.posts.Post.{Post}
use Rattle.repair_messages.specs.declared.posts.PostName.{PostName}
use Rattle.journal_rows.specs.declared.orders.Command.{Command}
use Rattle.call_registers.specs.declared.register.Why.{Why}
use Rattle.service_events.specs.Ages.{GoesFirst}
use Rattle.service_events.specs.Arriving.{abandon_event, arrive_event, call_answered_event, call_failed_event}
use Rattle.service_events.specs.Commits.{Commits, CommitsFlight}
use Rattle.service_events.specs.Doing.{answer_memory, arrive_memory, call_memory, give_memory, order_memory, post_memory, take_memory, Does}
use Rattle.service_events.specs.Messages.{give_event, posted_event, take_event, take_token_event}
use Rattle.service_events.specs.Orders.{order_event}
use Rattle.service_events.specs.Posts.{next_post, write_post}
use Rattle.service_events.specs.State.{Kept, after}
use Rattle.service_events.specs.declared.answers.PostReply.{PostReply}
use Rattle.service_events.specs.declared.event.Done.{Done}
use Rattle.service_events.specs.declared.event.Done.TheVariants as done
use Rattle.service_events.specs.declared.event.Event.{Event}
use Rattle.service_events.specs.declared.event.Event.TheVariants as events
use Rattle.service_posts.specs.Goes.{GoesTo}
use Rattle.service_repairs.specs.Answers.{Steps}

abbrev pub Arrives : Kept → Origin → Request → Inputs → Done → Kept → Type 0
Arrives s o q i (done.Arrive result) t = Does arrive_memory (arrive_event s o q i) s result t × Commits o q i s.newest s result t
Arrives s o q i answer t = ⊥

abbrev pub IsAnswered : Kept → ℕ → AnswerMessage → Done → Kept → Type 0
IsAnswered s flight a (done.CallAnswered result) t =
    Does call_memory (call_answered_event s flight a) s result t × CommitsFlight flight s result t
IsAnswered s flight a answer t = ⊥

abbrev pub Fails : Kept → ℕ → ℕ → Why → Done → Kept → Type 0
Fails s flight number why (done.CallFailed result) t =
    Does call_memory (call_failed_event s flight number why) s result t × CommitsFlight flight s result t
Fails s flight number why answer t = ⊥

abbrev pub IsAbandoned : Kept → ℕ → Done → Kept → Type 0
IsAbandoned s flight (done.Abandon found) t = after t found ≡ abandon_event s flight
IsAbandoned s flight answer t = ⊥

abbrev pub Takes : Kept → SetMessage → Inputs → Done → Kept → Type 0
Takes s set i (done.Take result) t = Does take_memory (take_event s set i) s result t
Takes s set i answer t = ⊥

abbrev pub Hears : Kept → TokenMessage → Done → Kept → Type 0
Hears s x (done.TakeToken result) t = Does answer_memory (take_token_event s x) s result t
Hears s x answer t = ⊥

-- nothing changes
abbrev pub Gives : Kept → Fetch → Done → Kept → Type 0
Gives s f (done.Give result) t = Does give_memory (give_event s f) s result t × (t ≡ s)
Gives s f answer t = ⊥

-- the post that goes next, which has a message to that service
abbrev pub Tells : Kept → List ℕ → Done → Kept → Type 0
Tells s dest (done.NextPost name) t =
    ((name ≡ next_post dest s) × IfSome name (λ n. GoesFirst dest s n × IsSomeAnd (write_post s n) (GoesTo dest))) × (t ≡ s)
Tells s dest answer t = ⊥

abbrev pub Writes : Kept → PostName → Done → Kept → Type 0
Writes s name (done.WritePost result) t = IfOk result (λ (p : Post). write_post s name ≡ Some p) × (t ≡ s)
Writes s name answer t = ⊥

abbrev pub Posts : Kept → Post → PostReply → Done → Kept → Type 0
Posts s p reply (done.Posted result) t = Does post_memory (posted_event s p reply) s result t
Posts s p reply answer t = ⊥

abbrev pub StepsOn : Kept → Done → Kept → Type 0
StepsOn s (done.Step result) t = Steps s result t
StepsOn s answer t = ⊥

abbrev pub Orders : Kept → Command → List ℕ → List ℕ → Inputs → Done → Kept → Type 0
Orders s command token who i (done.Order result) t = Does order_memory (order_event s command token who i) s result t
Orders s command token who i answer t = ⊥

-- this is what it answered to the event and left, and with a live request that was committed what is said of a commit
abbrev pub Answers : Kept → Event → Done → Kept → Type 0
Answers s (events.Arrive o q i) answer t = Arrives s o q i answer t
Answers s (events.CallAnswered flight a) answer t = IsAnswered s flight a answer t
Answers s (events.CallFailed flight number why) answer t = Fails s flight number why answer t
Answers s (events.Abandon flight) answer t = IsAbandoned s flight answer t
Answers s (events.Take set i) answer t = Takes s set i answer t
Answers s (events.TakeToken x) answer t = Hears s x answer t
Answers s (events.Give f) answer t = Gives s f answer t
Answers s (events.NextPost dest) answer t = Tells s dest answer t
Answers s (events.WritePost name) answer t = Writes s name answer t
Answers s (events.Posted p reply) answer t = Posts s p reply answer t
Answers s events.Step answer t = StepsOn s answer t
Answers s (events.Order command token who i) answer t = Orders s command token who i answer t
