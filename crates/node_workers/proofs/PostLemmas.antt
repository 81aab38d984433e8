-- Which post a message is of, and what becomes of one that came back.
use Rattle.std.proofs.Common.{◌≡◌, ◌&&◌, ℕ, inl, inr, Bool, true, false, cond, List, [], ◌∷◌, Option, Some, None, Result, Ok, Err, IfOk, IsSome, IsSomeAnd, OnErr, find, is_some, nat_eq, nat_lt, option_map, refl, sym, ap, ◌∙◌, subst, eqb-true}
use Rattle.std.proofs.lemmas.Bool.{and_parts}
use Rattle.lang_base.specs.Texts.{same_text}
use Rattle.repair_messages.specs.declared.messages.AnswerMessage.{AnswerMessage}
use Rattle.repair_messages.specs.declared.messages.Fetch.{Fetch as FetchMessage}
use Rattle.repair_messages.specs.declared.posts.Post.{Post}
use Rattle.repair_messages.specs.declared.posts.Post.TheVariants.{Set, Token, Fetch}
use Rattle.repair_messages.specs.declared.posts.PostName.{PostName}
use Rattle.repair_messages.specs.declared.posts.PostName.TheVariants.{Call, Reply as OfReply, Fetch as OfFetch}
use Rattle.journal_rows.specs.Words.{noted_at}
use Rattle.journal_rows.specs.declared.caller.NotedRow.{NotedRow}
use Rattle.call_registers.specs.Registers.{has_number, is_newer, register}
use Rattle.call_registers.specs.Replies.{has_entry, reply}
use Rattle.call_registers.specs.declared.register.Hold.{Hold}
use Rattle.call_registers.specs.declared.register.Register.{Register}
use Rattle.call_registers.specs.declared.reply.Reply.{Reply}
use Rattle.service_events.specs.Calls.{noted}
use Rattle.service_events.specs.Messages.{fetched, fetched_row, had, has_call, held_back, held_where, hold_of, is_given_to, is_now, posted, posted_event, replies_to}
use Rattle.service_events.specs.Posts.{fetch_message, fetch_post, next_post, set_message, token_message, token_post, write_post}
use Rattle.service_events.specs.State.{After, Kept, after, me}
use Rattle.service_events.specs.declared.answers.PostReply.{PostReply}
use Rattle.service_events.specs.declared.answers.PostReply.TheVariants as back
use Rattle.service_events.specs.declared.answers.Posted.{Posted}
use Rattle.service_events.specs.declared.answers.Posted.TheVariants as became
use Rattle.service_events.specs.declared.event.Done.{Done as NodeDone}
use Rattle.service_events.specs.declared.event.Done.TheVariants as done
use Rattle.service_events.specs.declared.event.Event.TheVariants as events
use Rattle.service_events.specs.declared.refusals.PostRefused.{PostRefused}
use Rattle.service_events.specs.declared.refusals.PostRefused.TheVariants.{Foreign}
use Rattle.service_events.proofs.AskedLemmas.{posted_either}
use Rattle.node_core.specs.HandedOn.{GoesTo}
use Rattle.wire_bytes.specs.Sending.{receiver_of, sender_of}
use Rattle.lang_base.specs.declared.memory.NoMemory.{NoMemory as LacksMemory}
use Rattle.io_links.specs.Exchanges.{Exchanges}
use Rattle.node_core.specs.Notes.{post_name}
use Rattle.node_core.specs.declared.notes.Begun.{Begun}
use Rattle.node_core.specs.declared.notes.Notes.{Notes}
use Rattle.node_core.specs.declared.receipt.Receipt.{Receipt}
use Rattle.node_exchanges.specs.Endpoints.{Endpoint}
use Rattle.node_exchanges.specs.Posts.{PostsAtMost, PostsIt}
use Rattle.node_workers.specs.Posting.{EndsTurn, GoesNext, IsNextPost, IsPosted, MakesNext, SaysSo, WasWritten, asked_next, asked_text, outcome}
use Rattle.node_workers.specs.Turns.{IsUntouched, Made, MadeAt, MakesAll, MakesOnce}
use Rattle.node_workers.proofs.TurnLemmas.{makes_then}

-- ---- what a message is

found_by : {X : Type 0} (p : X → Bool) (y : X) (ys : List X) (x : X) → (find p ys ≡ Some x → p x ≡ true) → (b : Bool) → p y ≡ b
    → cond b (Some y) (find p ys) ≡ Some x → p x ≡ true
found_by p y ys x behind true here is = (let same : y ≡ x = cc in ap p (sym same) ∙ here)
found_by p y ys x behind false later is = behind is

-- what is found passes
found_passes : {X : Type 0} (p : X → Bool) (xs : List X) (x : X) → find p xs ≡ Some x → p x ≡ true
found_passes p [] x is = absurd (cc is)
found_passes p (y ∷ ys) x is = found_by p y ys x (found_passes p ys x) (p y) refl is

receives : (dest : List ℕ) (p : Post) → GoesTo dest p → receiver_of p ≡ dest
receives dest (Set set) goes = goes
receives dest (Token t) goes = goes
receives dest (Fetch f) goes = goes

-- the message of this name, from the service of this name to the peer
record IsWrittenPost (from_name dest : List ℕ) (name : PostName) (post : Post) : Type 0 where
  names : post_name post ≡ name
  from : sender_of post ≡ from_name
  goes : receiver_of post ≡ dest

module _ (s : Kept) (dest : List ℕ) where
  call_written : (n : ℕ) (o : Option Register) → register n s.registers ≡ o → (p : Post) → option_map (λ r. Set (set_message s r)) o ≡ Some p → GoesTo dest p
      → IsWrittenPost (me s) dest (Call n) p
  call_written n None found p is goes = absurd (cc is)
  call_written n (Some r) found p is goes =
      let number : r.number ≡ n = eqb-true r.number n (found_passes (has_number n) s.registers r found) in
      let same : Set (set_message s r) ≡ p = cc in
      record { names = ap post_name (sym same) ∙ ap Call number; from = ap sender_of (sym same); goes = receives dest p goes }

  token_written : (id : ℕ) (q : Reply) → q.id ≡ id → (b : Bool) → (p : Post) → cond b (Some (Token (token_message s q))) None ≡ Some p → GoesTo dest p
      → IsWrittenPost (me s) dest (OfReply id) p
  token_written id q number true p is goes =
      let same : Token (token_message s q) ≡ p = cc in
      record { names = ap post_name (sym same) ∙ ap OfReply number; from = ap sender_of (sym same); goes = receives dest p goes }
  token_written id q number false p is goes = absurd (cc is)

  reply_written : (id : ℕ) (o : Option Reply) → reply id s.replies ≡ o → (p : Post) → token_post s o ≡ Some p → GoesTo dest p → IsWrittenPost (me s) dest (OfReply id) p
  reply_written id None found p is goes = absurd (cc is)
  reply_written id (Some q) found p is goes =
      token_written id q (eqb-true q.id id (found_passes (has_entry id) s.replies q found)) (nat_lt 0 q.answer_version) p is goes

  noted_written : (n : ℕ) (r : Register) → r.number ≡ n → (b : Bool) → (p : Post) → cond b (Some (Fetch (fetch_message s r))) None ≡ Some p → GoesTo dest p
      → IsWrittenPost (me s) dest (OfFetch n) p
  noted_written n r number true p is goes =
      let same : Fetch (fetch_message s r) ≡ p = cc in
      record { names = ap post_name (sym same) ∙ ap OfFetch number; from = ap sender_of (sym same); goes = receives dest p goes }
  noted_written n r number false p is goes = absurd (cc is)

  fetch_written : (n : ℕ) (o : Option Register) → register n s.registers ≡ o → (p : Post) → fetch_post s o ≡ Some p → GoesTo dest p → IsWrittenPost (me s) dest (OfFetch n) p
  fetch_written n None found p is goes = absurd (cc is)
  fetch_written n (Some r) found p is goes =
      noted_written n r (eqb-true r.number n (found_passes (has_number n) s.registers r found)) (nat_lt 0 r.noted) p is goes

  -- the message of a name, where it goes there
  written_post : (name : PostName) (p : Post) → write_post s name ≡ Some p → GoesTo dest p → IsWrittenPost (me s) dest name p
  written_post (Call n) p is goes = call_written n (register n s.registers) refl p is goes
  written_post (OfReply id) p is goes = reply_written id (reply id s.replies) refl p is goes
  written_post (OfFetch n) p is goes = fetch_written n (register n s.registers) refl p is goes

-- ---- what becomes of one

held_by : (s held : Kept) (word : _) (n : ℕ) (made : Posted) (b : Bool)
    → (cond b (after {A = Result Posted PostRefused} held (Ok became.Held)) (after {A = Result Posted PostRefused} s (Ok became.Left))).answer ≡ Ok made
    → SaysSo (back.Refused word n) made
held_by s held word n made true is = inl cc
held_by s held word n made false is = inr cc

held_so : (s : Kept) (p : Post) (word : _) (n : ℕ) (o : Option Hold) (made : Posted) → (held_where s p o).answer ≡ Ok made → SaysSo (back.Refused word n) made
held_so s p word n None made is = inr cc
held_so s p word n (Some hold) made is = held_by s (held_back s p hold) word n made (is_now s p) is

saw_or_knew : (s seen : Kept) (a : AnswerMessage) (made : Posted) (b : Bool)
    → (cond b (after {A = Result Posted PostRefused} seen (Ok became.Saw)) (after {A = Result Posted PostRefused} s (Ok became.Knew))).answer ≡ Ok made
    → SaysSo (back.Given a) made
saw_or_knew s seen a made true is = inl cc
saw_or_knew s seen a made false is = inr cc

-- an answer is seen or known, where the service has that call and the answer was announced
fetched_so : (s : Kept) (a : AnswerMessage) (o : Option Register) (n : Option NotedRow) (made : Posted) → IsSome o → IsSome n → (fetched s a o n).answer ≡ Ok made
    → SaysSo (back.Given a) made
fetched_so s a (Some r) (Some n) made called announced is = saw_or_knew s (noted (fetched_row a n ∷ []) s) a made (is_newer r.answer a.answer_version) is
fetched_so s a (Some r) None made called announced is = absurd (cc announced)
fetched_so s a None n made called announced is = absurd (cc called)

has_one : (f : FetchMessage) (o : Option Register) → has_call f o ≡ true → IsSome o
has_one f None has = absurd (cc has)
has_one f (Some r) has = refl

given_so : (s : Kept) (f : FetchMessage) (a : AnswerMessage) (made : Posted) → had s (Fetch f) ≡ true → is_given_to f a ≡ true
    → (posted s (Fetch f) (back.Given a)).answer ≡ Ok made → SaysSo (back.Given a) made
given_so s f a made has to is =
    let own = and_parts (same_text f.caller (me s) && has_call f (register f.number s.registers)) (is_some (noted_at f.number f.answer_version s.journal)) has in
    let call = and_parts (same_text f.caller (me s)) (has_call f (register f.number s.registers)) own.0 in
    let asked = and_parts (same_text a.callee f.callee && nat_eq a.number f.number) (nat_eq a.answer_version f.answer_version) to in
    let number = eqb-true a.number f.number (and_parts (same_text a.callee f.callee) (nat_eq a.number f.number) asked.0).1 in
    let version = eqb-true a.answer_version f.answer_version asked.1 in
    let there : IsSome (register a.number s.registers) =
    subst (λ (n : ℕ). IsSome (register n s.registers)) (sym number) (has_one f (register f.number s.registers) call.1) in
    let announced : IsSome (noted_at a.number f.answer_version s.journal) =
    subst (λ (n : ℕ). IsSome (noted_at n f.answer_version s.journal)) (sym number) own.1 in
    fetched_so s a (register a.number s.registers) (noted_at a.number a.answer_version s.journal) made there
    (subst (λ (v : ℕ). IsSome (noted_at a.number v s.journal)) (sym version) announced) is

says_so : (s : Kept) (p : Post) (reply : PostReply) (made : Posted) → had s p ≡ true → replies_to p reply ≡ true → (posted s p reply).answer ≡ Ok made → SaysSo reply made
says_so s p (back.Acked ack) made has to is = cc
says_so s p (back.Confirmed confirm) made has to is = cc
says_so s (Set set) (back.Given a) made has to is = absurd (cc to)
says_so s (Token t) (back.Given a) made has to is = absurd (cc to)
says_so s (Fetch f) (back.Given a) made has to is = given_so s f a made has to is
says_so s p (back.Refused word n) made has to is = held_so s p word n (hold_of word n) made is
says_so s p (back.Lost note) made has to is = cc

foreign_says : (s : Kept) (reply : PostReply) (made : Posted) → (after {A = Result Posted PostRefused} s (Err Foreign)).answer ≡ Ok made → SaysSo reply made
foreign_says s reply made is = absurd (cc is)

-- what a service answers of a post says of the reply what it is
pub posted_so : (s : Kept) (p : Post) (reply : PostReply) (made : Posted) → (posted_event s p reply).answer ≡ Ok made → SaysSo reply made
posted_so s p reply made is =
    posted_either s p reply (λ (x : After (Result Posted PostRefused)). x.answer ≡ Ok made → SaysSo reply made) (foreign_says s reply made) (says_so s p reply made) is

-- ---- a turn

-- what holds of an answer holds of what it says, if it says anything
where_ok : {A E : Type 0} (P : Result A E → Type 0) (r : Result A E) → P r → IfOk r (λ (a : A). P (Ok a))
where_ok P (Ok a) so = so
where_ok P (Err why) so = tt

-- where one goes on with what is there, it is there
pub is_there : {X : Type 0} (o : Option X) (P : X → Type 0) → IsSomeAnd o P → IsSome o
is_there None P so = absurd so
is_there (Some x) P so = refl

module _ (name dest : List ℕ) (next : PostName) where
  -- a service that was asked which post goes next stays as it is
  pub goes_next : (to : List ℕ) (s t : Kept) (begun : Option Begun) → to ≡ dest → MadeAt name s t begun (events.NextPost to) (done.NextPost (Some next))
      → (next_post dest t ≡ Some next) × IsSomeAnd (write_post t next) (GoesTo dest)
  goes_next to s t begun same at =
      let told = at.made in
      let K : Kept → Type 0 = λ k. (next_post to k ≡ Some next) × IsSomeAnd (write_post k next) (GoesTo to) in
      let D : List ℕ → Type 0 = λ d. (next_post d t ≡ Some next) × IsSomeAnd (write_post t next) (GoesTo d) in
      subst D same (subst K (sym told.1) (sym told.0.0, told.0.1.1))

  module _ (s t : Kept) (begun : Option Begun) (p : Post) (at : MadeAt name s t begun (events.WritePost next) (done.WritePost (Ok p)))
      (goes : IsSomeAnd (write_post s next) (GoesTo dest)) where
    wrote : write_post s next ≡ Some p
    wrote = at.made.0

    message : IsWrittenPost (me s) dest next p
    message = written_post s dest next p wrote (subst (λ o. IsSomeAnd o (GoesTo dest)) wrote goes)

    -- what goes next is what was written in that hold
    pub next_so : next_post dest s ≡ Some next → IsNextPost name dest (Some p)
    next_so is =
        let named : next ≡ post_name p = sym message.names in
        let written : write_post s (post_name p) ≡ Some p = ap (λ (n : PostName). write_post s n) message.names ∙ wrote in
        (message.from ∙ at.is, message.goes, record { service = s; is = at.is; fits = at.fits; next = is ∙ ap Some named; written = written })

    pub next_makes : (mid now : Notes) (held have : List Receipt) → Made name mid now held have (events.WritePost next) (done.WritePost (Ok p))
        → GoesNext name dest next mid now held have (Ok (Some p))
    next_makes mid now held have made before had asked =
        subst (λ (n : PostName). MakesAll name ((events.NextPost dest, done.NextPost (Some n)) ∷ (events.WritePost n, done.WritePost (Ok p)) ∷ []) before now had have)
        (sym message.names) (mid, held, asked, (now, have, made, (refl, refl)))

  -- where it couldn't be written
  pub next_wants : (mid now : Notes) (held have : List Receipt) (lacks : LacksMemory) → MakesOnce name (events.WritePost next) mid now held have
      → GoesNext name dest next mid now held have (Err lacks)
  next_wants mid now held have lacks once before had asked = inr (next, mid, held, asked, once)

module _ (name : List ℕ) (next : PostName) where
  -- what was written, if it was
  pub written_at : (s t : Kept) (begun : Option Begun) (written : Result Post LacksMemory) → MadeAt name s t begun (events.WritePost next) (done.WritePost written)
      → IfOk written (λ (p : Post). MadeAt name s t begun (events.WritePost next) (done.WritePost (Ok p)))
  written_at s t begun written at = where_ok (λ (w : Result Post LacksMemory). MadeAt name s t begun (events.WritePost next) (done.WritePost w)) written at

  pub written_made : (before now : Notes) (had have : List Receipt) (written : Result Post LacksMemory)
      → Made name before now had have (events.WritePost next) (done.WritePost written)
      → IfOk written (λ (p : Post). Made name before now had have (events.WritePost next) (done.WritePost (Ok p)))
  written_made before now had have written made =
      where_ok (λ (w : Result Post LacksMemory). Made name before now had have (events.WritePost next) (done.WritePost w)) written made

-- the service was asked which post goes to this peer
pub asked_so : (name to dest : List ℕ) (next : Option PostName) (before now : Notes) (had have : List Receipt) (d : NodeDone) → to ≡ dest → d ≡ done.NextPost next
    → Made name before now had have (events.NextPost to) d → Made name before now had have (events.NextPost dest) (done.NextPost next)
asked_so name to dest next before now had have d same is made =
    subst (λ (x : List ℕ). Made name before now had have (events.NextPost x) (done.NextPost next)) same
    (subst (λ (x : NodeDone). Made name before now had have (events.NextPost to) x) is made)

-- none is outstanding
pub asked_none : (name dest : List ℕ) (before now : Notes) (had have : List Receipt) → Made name before now had have (events.NextPost dest) (done.NextPost None)
    → MakesNext name dest (Ok None) before now had have
asked_none name dest before now had have made = (now, have, made, (refl, refl))

module _ (e : Endpoint) (dest : List ℕ) (p : Post) (mid now : Notes) (held have : List Receipt) (link link_now : Exchanges) (was : WasWritten e.me dest p) where
  -- something came back, and was told to the service, which answered so
  module _ (reply : PostReply) (sent : PostsIt e dest p (Some reply) link link_now) where
    posted_by : (answer : Result Posted PostRefused) → IfOk answer (SaysSo reply) → Made e.me mid now held have (events.Posted p reply) (done.Posted answer)
        → (before : Notes) (had : List Receipt) → MakesNext e.me dest (Ok (Some p)) before mid had held → IsPosted e dest answer before now had have link link_now
    posted_by answer so made before had makes =
        record {
          post = p;
          reply = reply;
          written = was;
          made = makes_then e.me (asked_next dest (Some (post_name p)) ∷ asked_text p ∷ []) before mid now had held have (events.Posted p reply) (done.Posted answer) makes made;
          sent = sent;
          so = so;
        }

    pub turn_told : PostsAtMost e dest p link link_now → (told : Result (Result Posted PostRefused) LacksMemory)
        → IfOk told (λ (answer : Result Posted PostRefused). Made e.me mid now held have (events.Posted p reply) (done.Posted answer))
        → OnErr told (IsUntouched mid now held have) → EndsTurn e dest p mid now held have link link_now (outcome told)
    turn_told sends (Ok (Ok became)) made none before had makes =
        let answered = sym (ap (λ (a : After (Result Posted PostRefused)). a.answer) made.made) in
        posted_by (Ok became) (posted_so made.service p reply became answered) made before had makes
    turn_told sends (Ok (Err Foreign)) made none before had makes = posted_by (Err Foreign) tt made before had makes
    turn_told sends (Ok (Err PostRefused.NoMemory)) made none before had makes = inr (inr (posted_by (Err PostRefused.NoMemory) tt made before had makes))
    turn_told sends (Err why) made none before had makes =
        let here = subst (λ (h : List Receipt). MakesNext e.me dest (Ok (Some p)) before mid had h) (sym none.1) makes in
        let whole = subst (λ (n : Notes). MakesNext e.me dest (Ok (Some p)) before n had have) (sym none.0) here in
        inr (inl (record { post = p; written = was; made = whole; sends = sends }))
