-- What tells a refusal has a spelling of its own, and is read as that refusal and no other.
use Rattle.std.proofs.Common.{◌≡◌, inl, inr, ℕ, ◌<◌, ◌^◌, Bool, true, false, cond, List, Option, Some, None, option_and_then, Result, Err, nat_eq, refl, sym, ap, ◌∙◌, arith}
use Rattle.std.proofs.lemmas.Bool.Decides.{nat_tests}
use Rattle.lang_base.specs.Texts.{same_text}
use Rattle.repair_messages.specs.Refusals.{word_said, word_text}
use Rattle.repair_messages.specs.declared.messages.AnswerMessage.{AnswerMessage}
use Rattle.repair_messages.specs.declared.posts.Post.{Post}
use Rattle.repair_messages.specs.declared.posts.Post.TheVariants as posts
use Rattle.repair_messages.specs.declared.refusals.RefusalWord.{RefusalWord}
use Rattle.repair_messages.specs.declared.refusals.RefusalWord.TheVariants.{NoMemory, Full, NotYet, Gone, NoFlight, Denied, Unknown, Foreign, NoSuchRequest, NotHeld, NotOutside, TooOld, NotQuiet, NoSuchProgram}
use Rattle.call_registers.specs.declared.register.Why.{Why}
use Rattle.call_registers.specs.declared.register.Why.TheVariants as why
use Rattle.service_events.specs.Refusals.{refusing_post}
use Rattle.service_events.specs.declared.answers.PostReply.TheVariants as back
use Rattle.service_events.specs.declared.answers.PostWord.{PostWord}
use Rattle.service_events.specs.declared.answers.PostWord.TheVariants as words
use Rattle.service_events.specs.declared.refusals.AnswerRefused.{AnswerRefused}
use Rattle.service_events.specs.declared.refusals.AnswerRefused.TheVariants as answer
use Rattle.service_events.specs.declared.refusals.ArriveRefused.{ArriveRefused}
use Rattle.service_events.specs.declared.refusals.ArriveRefused.TheVariants as arrive
use Rattle.service_events.specs.declared.refusals.GiveRefused.{GiveRefused}
use Rattle.service_events.specs.declared.refusals.GiveRefused.TheVariants as give
use Rattle.service_events.specs.declared.refusals.OrderRefused.{OrderRefused}
use Rattle.service_events.specs.declared.refusals.OrderRefused.TheVariants as order
use Rattle.service_events.specs.declared.refusals.TakeRefused.{TakeRefused}
use Rattle.service_events.specs.declared.refusals.TakeRefused.TheVariants as take
use Rattle.wire_fields.specs.Unread.{unread_word}
use Rattle.wire_fields.specs.Words.{lone_status, numbered_status, refusal_of, refusal_text}
use Rattle.wire_fields.proofs.WordLemmas.{lone_back, lone_text, numbered_back, numbered_text, said_spelled}
use Rattle.wire_replies.specs.declared.replies.Outgoing.{Outgoing}
use Rattle.wire_replies.specs.declared.replies.Outgoing.TheVariants as replies
use Rattle.wire_words.specs.Failures.{IsArriveTold, ReadsRefusals, ReadsRefusalsAlone, RefusesCall, arrive_refused, call_reply, refused_so, why_failed, why_refused}
use Rattle.wire_words.specs.Posts.{IsAnswerTold, IsGiveTold, IsTakeTold, ReadsWordsAlone, given_to, post_word, post_word_text, refused_by}
use Rattle.wire_words.specs.Refusals.{IsOrderTold, IsTold, Told, answer_told, arrive_told, give_told, order_told, take_told}

-- ---- spellings

pub arrive_spelt : (why : ArriveRefused) → IsTold (arrive_told why)
unfolding lone_status numbered_status unread_word word_said
arrive_spelt arrive.NoMemory = inl (refl, refl)
arrive_spelt (arrive.Full n) = inr refl
arrive_spelt (arrive.NotYet n) = inr refl
arrive_spelt (arrive.Gone v) = inr refl

pub take_spelt : (why : TakeRefused) → IsTold (take_told why)
unfolding lone_status numbered_status unread_word word_said
take_spelt take.NoMemory = inl (refl, refl)
take_spelt (take.Full n) = inr refl
take_spelt (take.NotYet n) = inr refl
take_spelt (take.Denied rule) = inr refl
take_spelt (take.TooOld id) = inr refl

pub answer_spelt : (why : AnswerRefused) → IsTold (answer_told why)
unfolding lone_status numbered_status unread_word word_said
answer_spelt answer.NoMemory = inl (refl, refl)
answer_spelt (answer.Unknown n) = inr refl
answer_spelt (answer.Denied rule) = inr refl
answer_spelt (answer.TooOld n) = inr refl

pub give_spelt : (why : GiveRefused) → IsTold (give_told why)
unfolding lone_status numbered_status unread_word word_said
give_spelt give.NoMemory = inl (refl, refl)
give_spelt (give.Unknown n) = inr refl

pub order_spelt : (why : OrderRefused) → IsTold (order_told why)
unfolding lone_status numbered_status unread_word word_said
order_spelt order.NoMemory = inl (refl, refl)
order_spelt (order.NoSuchRequest id) = inr refl
order_spelt (order.Denied rule) = inr refl
order_spelt (order.Full n) = inr refl
order_spelt order.NotHeld = inl (refl, refl)
order_spelt (order.NotOutside id) = inr refl
order_spelt (order.TooOld id) = inr refl
order_spelt (order.NotQuiet id) = inr refl
order_spelt (order.NoSuchProgram number) = inr refl

-- the text of what has a spelling is read as it
pub told_back : (word : List ℕ) (n : ℕ) → n < 2 ^ 64 → IsTold (word, n) → refusal_of (refusal_text word n) ≡ Some (word, n)
told_back word n small (inl lone) =
    ap refusal_of (lone_text word n lone.0) ∙ lone_back word lone.0 ∙ ap (λ (k : ℕ). Some (word, k)) (sym lone.1)
told_back word n small (inr numbered) = ap refusal_of (numbered_text word n numbered) ∙ numbered_back word n numbered small

-- ---- live calls

pub arrive_back : (why : ArriveRefused) → IsArriveTold why
unfolding arrive_refused word_said
arrive_back arrive.NoMemory = refl
arrive_back (arrive.Full n) = refl
arrive_back (arrive.NotYet n) = refl
arrive_back (arrive.Gone v) = refl

-- the refusal that a word tells is told so
told_so : (word : RefusalWord) (n : ℕ) (refused : ArriveRefused) → refused_so n word ≡ Some refused → ◌≡◌ {A = Told} (word_text word, n) (arrive_told refused)
told_so NoMemory n refused is = by (nat_eq n 0) refl is
  where
    by : (b : Bool) → nat_eq n 0 ≡ b → cond b (Some arrive.NoMemory) None ≡ Some refused → ◌≡◌ {A = Told} (word_text NoMemory, n) (arrive_told refused)
    by true zero first =
        let none : n ≡ 0 = grind (arith, nat_tests, zero) in
        let it : arrive.NoMemory ≡ refused = cc in
        ap (λ (k : ℕ). (word_text NoMemory, k)) none ∙ ap arrive_told it
    by false zero first = absurd (cc first)
told_so Full n refused is = let it : arrive.Full n ≡ refused = cc in ap arrive_told it
told_so NotYet n refused is = let it : arrive.NotYet n ≡ refused = cc in ap arrive_told it
told_so Gone n refused is = let it : arrive.Gone n ≡ refused = cc in ap arrive_told it
told_so NoFlight n refused is = absurd (cc is)
told_so Denied n refused is = absurd (cc is)
told_so Unknown n refused is = absurd (cc is)
told_so Foreign n refused is = absurd (cc is)
told_so NoSuchRequest n refused is = absurd (cc is)
told_so NotHeld n refused is = absurd (cc is)
told_so NotOutside n refused is = absurd (cc is)
told_so TooOld n refused is = absurd (cc is)
told_so NotQuiet n refused is = absurd (cc is)
told_so NoSuchProgram n refused is = absurd (cc is)

-- what is read as a refusal tells that one
arrive_only : (text : List ℕ) (n : ℕ) (refused : ArriveRefused) → arrive_refused text n ≡ Some refused → ◌≡◌ {A = Told} (text, n) (arrive_told refused)
unfolding arrive_refused
arrive_only text n refused is = by (word_said text) refl is
  where
    by : (o : Option RefusalWord) → word_said text ≡ o → option_and_then (refused_so n) o ≡ Some refused → ◌≡◌ {A = Told} (text, n) (arrive_told refused)
    by None none is = absurd (cc is)
    by (Some word) said is = ap (λ (t : List ℕ). (t, n)) (said_spelled text word said) ∙ told_so word n refused is

pub call_refused : (reply : Outgoing) (status : ℕ) → ReadsRefusals reply status
call_refused reply status = λ refused is.
    let failed : Option ArriveRefused → Result AnswerMessage Why = λ o. Err (why_failed o status) in
    ap (λ (r : Outgoing). call_reply r status) is ∙ ap failed (arrive_back refused)

none_above : (status word n : ℕ) → ◌≡◌ {A = Result AnswerMessage Why} (Err (why.Refused 0 status)) (Err (why.Refused word n)) → 0 < word → ⊥
none_above status word n same above = let it : 0 ≡ word = cc in omega (arith, it, above)

pub call_alone : (reply : Outgoing) (status : ℕ) → ReadsRefusalsAlone reply status
call_alone (replies.Answered id None response) status = λ word n same above. absurd (none_above status word n same above)
call_alone (replies.Answered id (Some message) response) status = λ word n same above. absurd (cc same)
call_alone (replies.Ack ack) status = λ word n same above. absurd (none_above status word n same above)
call_alone (replies.Confirm confirm) status = λ word n same above. absurd (none_above status word n same above)
call_alone (replies.Refused text k) status = λ word n same above. by (arrive_refused text k) refl word n same above
  where
    by : (o : Option ArriveRefused) → arrive_refused text k ≡ o → (word n : ℕ)
        → ◌≡◌ {A = Result AnswerMessage Why} (Err (why_failed o status)) (Err (why.Refused word n)) → 0 < word
        → (refused : ArriveRefused) × RefusesCall (replies.Refused text k) refused × (why_refused refused ≡ why.Refused word n)
    by None is word n same above = absurd (none_above status word n same above)
    by (Some refused) is word n same above =
        (refused, ap (λ (it : Told). replies.Refused it.0 it.1) (arrive_only text k refused is), cc)

-- ---- posts

pub take_back : (why : TakeRefused) → IsTakeTold why
unfolding post_word word_said
take_back take.NoMemory = refl
take_back (take.Full n) = refl
take_back (take.NotYet n) = refl
take_back (take.Denied rule) = refl
take_back (take.TooOld id) = refl

pub answer_back : (why : AnswerRefused) → IsAnswerTold why
unfolding post_word word_said
answer_back answer.NoMemory = refl
answer_back (answer.Unknown n) = refl
answer_back (answer.Denied rule) = refl
answer_back (answer.TooOld n) = refl

pub give_back : (why : GiveRefused) → IsGiveTold why
unfolding post_word word_said
give_back give.NoMemory = refl
give_back (give.Unknown n) = refl

-- the refusal of a post that a word tells is spelled so
post_spelled : (word : RefusalWord) (refuses : PostWord) → refusing_post word ≡ Some refuses → word_text word ≡ post_word_text refuses
post_spelled NoMemory refuses is = let it : words.NoMemory ≡ refuses = cc in ap post_word_text it
post_spelled Full refuses is = let it : words.Full ≡ refuses = cc in ap post_word_text it
post_spelled NotYet refuses is = let it : words.NotYet ≡ refuses = cc in ap post_word_text it
post_spelled Denied refuses is = let it : words.Denied ≡ refuses = cc in ap post_word_text it
post_spelled Unknown refuses is = let it : words.Unknown ≡ refuses = cc in ap post_word_text it
post_spelled TooOld refuses is = let it : words.TooOld ≡ refuses = cc in ap post_word_text it
post_spelled Gone refuses is = absurd (cc is)
post_spelled NoFlight refuses is = absurd (cc is)
post_spelled Foreign refuses is = absurd (cc is)
post_spelled NoSuchRequest refuses is = absurd (cc is)
post_spelled NotHeld refuses is = absurd (cc is)
post_spelled NotOutside refuses is = absurd (cc is)
post_spelled NotQuiet refuses is = absurd (cc is)
post_spelled NoSuchProgram refuses is = absurd (cc is)

word_only : (text : List ℕ) (refuses : PostWord) → post_word text ≡ Some refuses → text ≡ post_word_text refuses
unfolding post_word
word_only text refuses is = by (word_said text) refl is
  where
    by : (o : Option RefusalWord) → word_said text ≡ o → option_and_then refusing_post o ≡ Some refuses → text ≡ post_word_text refuses
    by None none is = absurd (cc is)
    by (Some word) said is = said_spelled text word said ∙ post_spelled word refuses is

-- an answer that is given refuses nothing
given_alone : (post : Post) (message : Option AnswerMessage) (word : PostWord) (n : ℕ) → given_to post message ≡ Some (back.Refused word n) → ⊥
given_alone (posts.Set set) message word n same = cc
given_alone (posts.Token token) message word n same = cc
given_alone (posts.Fetch fetch) None word n same = cc
given_alone (posts.Fetch fetch) (Some message) word n same = cc

pub words_alone : (post : Post) (reply : Outgoing) → ReadsWordsAlone post reply
words_alone post (replies.Answered id message response) = λ word n same. absurd (given_alone post message word n same)
words_alone post (replies.Ack ack) = λ word n same. absurd (cc same)
words_alone post (replies.Confirm confirm) = λ word n same. absurd (cc same)
words_alone post (replies.Refused text k) = λ word n same. by (post_word text) refl word n same
  where
    by : (o : Option PostWord) → post_word text ≡ o → (word : PostWord) (n : ℕ) → refused_by o k ≡ Some (back.Refused word n)
        → replies.Refused text k ≡ replies.Refused (post_word_text word) n
    by None is word n same = absurd (cc same)
    by (Some found) is word n same =
        let first : found ≡ word = cc in
        let second : k ≡ n = cc in
        let it : text ≡ post_word_text word = word_only text found is ∙ ap post_word_text first in
        rw (it, second) refl

-- ---- orders

order_named : List ℕ → ℕ → Option OrderRefused
order_named word n =
    cond (same_text word (word_text NoMemory)) (Some order.NoMemory)
    (cond (same_text word (word_text NoSuchRequest)) (Some (order.NoSuchRequest n))
    (cond (same_text word (word_text Denied)) (Some (order.Denied n))
    (cond (same_text word (word_text Full)) (Some (order.Full n))
    (cond (same_text word (word_text NotHeld)) (Some order.NotHeld)
    (cond (same_text word (word_text NotOutside)) (Some (order.NotOutside n))
    (cond (same_text word (word_text TooOld)) (Some (order.TooOld n))
    (cond (same_text word (word_text NotQuiet)) (Some (order.NotQuiet n))
    (cond (same_text word (word_text NoSuchProgram)) (Some (order.NoSuchProgram n)) None))))))))

order_back : (why : OrderRefused) → order_named (order_told why).0 (order_told why).1 ≡ Some why
unfolding order_named
order_back order.NoMemory = refl
order_back (order.NoSuchRequest id) = refl
order_back (order.Denied rule) = refl
order_back (order.Full n) = refl
order_back order.NotHeld = refl
order_back (order.NotOutside id) = refl
order_back (order.TooOld id) = refl
order_back (order.NotQuiet id) = refl
order_back (order.NoSuchProgram number) = refl

pub order_apart : (why : OrderRefused) → IsOrderTold why
order_apart why = λ other same.
    let it : ◌≡◌ {A = Option OrderRefused} (Some other) (Some why) =
    sym (order_back other) ∙ ap (λ (it : Told). order_named it.0 it.1) same ∙ order_back why in
    cc
