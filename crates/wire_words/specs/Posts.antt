-- What a post asks, and what a reply to it comes to for the service that posted it.
use Rattle.std.specs.Prelude.{◌≡◌, ℕ, List, Option, Some, None, option_and_then, option_map}
use Rattle.repair_messages.specs.Refusals.{word_said, word_text}
use Rattle.repair_messages.specs.declared.messages.AnswerMessage.{AnswerMessage}
use Rattle.repair_messages.specs.declared.posts.Post.{Post}
use Rattle.repair_messages.specs.declared.posts.Post.TheVariants as posts
use Rattle.repair_messages.specs.declared.refusals.RefusalWord.TheVariants.{NoMemory, Full, NotYet, Denied, Unknown, TooOld}
use Rattle.service_events.specs.Refusals.{answer_refused, give_refused, refusing_post, set_refused}
use Rattle.service_events.specs.declared.answers.PostReply.{PostReply}
use Rattle.service_events.specs.declared.answers.PostReply.TheVariants as back
use Rattle.service_events.specs.declared.answers.PostWord.{PostWord}
use Rattle.service_events.specs.declared.answers.PostWord.TheVariants as words
use Rattle.service_events.specs.declared.refusals.AnswerRefused.{AnswerRefused}
use Rattle.service_events.specs.declared.refusals.GiveRefused.{GiveRefused}
use Rattle.service_events.specs.declared.refusals.TakeRefused.{TakeRefused}
use Rattle.wire_replies.specs.declared.kinds.Asking.{Asking}
use Rattle.wire_replies.specs.declared.kinds.Asking.TheVariants as asked
use Rattle.wire_replies.specs.declared.replies.Outgoing.{Outgoing}
use Rattle.wire_replies.specs.declared.replies.Outgoing.TheVariants as replies
use Rattle.wire_words.specs.Refusals.{answer_told, give_told, take_told}

-- what the peer that reads it is asked
abbrev pub asking_of : Post → Asking
asking_of (posts.Set set) = asked.Set
asking_of (posts.Token token) = asked.Token
asking_of (posts.Fetch fetch) = asked.Fetch

-- the word that refuses a post
abbrev pub post_word_text : PostWord → List ℕ
post_word_text words.NoMemory = word_text NoMemory
post_word_text words.Full = word_text Full
post_word_text words.NotYet = word_text NotYet
post_word_text words.Denied = word_text Denied
post_word_text words.Unknown = word_text Unknown
post_word_text words.TooOld = word_text TooOld

-- which word of these it is; None where it is none
unfoldable pub post_word : List ℕ → Option PostWord
post_word word = option_and_then refusing_post (word_said word)

abbrev pub refused_by : Option PostWord → ℕ → Option PostReply
refused_by None n = None
refused_by (Some word) n = Some (back.Refused word n)

-- an answer is given where it was fetched
abbrev pub given_to : Post → Option AnswerMessage → Option PostReply
given_to (posts.Set set) answer = None
given_to (posts.Token token) answer = None
given_to (posts.Fetch fetch) answer = option_map back.Given answer

-- what a reply says of this post; None where it says nothing of it, and the post stays as it is
abbrev pub post_reply : Post → Outgoing → Option PostReply
post_reply post (replies.Answered id answer response) = given_to post answer
post_reply post (replies.Ack ack) = Some (back.Acked ack)
post_reply post (replies.Confirm confirm) = Some (back.Confirmed confirm)
post_reply post (replies.Refused word n) = refused_by (post_word word) n

-- ---- laws

-- what tells a refusal comes back as that one
abbrev pub IsTakeTold : TakeRefused → Type 0
IsTakeTold refused = refused_by (post_word (take_told refused).0) (take_told refused).1 ≡ Some (set_refused refused)

abbrev pub IsAnswerTold : AnswerRefused → Type 0
IsAnswerTold refused = refused_by (post_word (answer_told refused).0) (answer_told refused).1 ≡ Some (answer_refused refused)

abbrev pub IsGiveTold : GiveRefused → Type 0
IsGiveTold refused = refused_by (post_word (give_told refused).0) (give_told refused).1 ≡ Some (give_refused refused)

-- a refused post was refused with that word
abbrev pub ReadsWordsAlone : Post → Outgoing → Type 0
ReadsWordsAlone post reply = (word : PostWord) (n : ℕ) → post_reply post reply ≡ Some (back.Refused word n) → reply ≡ replies.Refused (post_word_text word) n
