-- How what was written on a connection answers the message that was read.
use Rattle.std.proofs.Common.{◌≡◌, ℕ, ◌-◌, false, inl, inr, ◌⊎◌, ◌++◌, ◌∷◌, List, [], Option, Some, Result, Ok, Err, IsSome, IsSomeAnd, is_some, codes, length, length-append, slice_get, refl, sym, ap, ◌∙◌, subst, arith}
use Rattle.lang_core.specs.declared.ids.Origin.{Origin}
use Rattle.lang_core.specs.declared.ids.Origin.TheVariants.{Call, Outside}
use Rattle.lang_core.specs.declared.inputs.Inputs.{Inputs}
use Rattle.lang_core.specs.declared.request.Request.{Request}
use Rattle.repair_messages.specs.declared.messages.Ack.{Ack}
use Rattle.repair_messages.specs.declared.messages.AnswerMessage.{AnswerMessage}
use Rattle.repair_messages.specs.declared.messages.Confirm.{Confirm}
use Rattle.repair_messages.specs.declared.messages.Fetch.{Fetch}
use Rattle.repair_messages.specs.declared.messages.SetMessage.{SetMessage}
use Rattle.repair_messages.specs.declared.messages.TokenMessage.{TokenMessage}
use Rattle.service_events.specs.Refusals.{answer_refusal, arrive_refusal, give_refusal, take_refusal}
use Rattle.service_events.specs.declared.answers.Arrived.TheVariants as arrived
use Rattle.service_events.specs.declared.answers.Heard.{Heard}
use Rattle.service_events.specs.declared.answers.Taken.{Taken}
use Rattle.service_events.specs.declared.event.Done.TheVariants as done
use Rattle.service_events.specs.declared.refusals.AnswerRefused.{AnswerRefused}
use Rattle.service_events.specs.declared.refusals.ArriveRefused.{ArriveRefused}
use Rattle.service_events.specs.declared.refusals.ArriveRefused.TheVariants as arrive
use Rattle.service_events.specs.declared.refusals.GiveRefused.{GiveRefused}
use Rattle.service_events.specs.declared.refusals.TakeRefused.{TakeRefused}
use Rattle.io_edge.specs.Edge.{ReadFails, Reads, Writes, Wrote}
use Rattle.http_front.specs.Writing.{response_bytes}
use Rattle.http_front.specs.declared.message.WireResponse.{WireResponse}
use Rattle.http_front.specs.declared.message.FrontRefused.{FrontRefused}
use Rattle.http_front.specs.declared.message.FrontRefused.TheVariants as front
use Rattle.wire_fields.specs.Secrets.{Secrets}
use Rattle.wire_fields.specs.declared.console.ConsoleRequest.{ConsoleRequest}
use Rattle.wire_fields.specs.declared.console.ConsoleWord.{ConsoleWord}
use Rattle.admin_console.specs.Asking.{is_of_the_run}
use Rattle.wire_fields.specs.declared.refused.WireRefused.{WireRefused}
use Rattle.wire_replies.specs.Writing.{IsFor, written}
use Rattle.wire_replies.specs.declared.replies.Outgoing.{Outgoing}
use Rattle.wire_replies.specs.declared.replies.Outgoing.TheVariants as replies
use Rattle.wire_words.specs.Refusals.{Told, answer_told, arrive_told, give_told, take_told}
use Rattle.wire_words.specs.Words.{front_word, wire_word}
use Rattle.aire_wire.specs.declared.incoming.Incoming.{Incoming}
use Rattle.aire_wire.specs.declared.incoming.Incoming.TheVariants as said
use Rattle.wire_bytes.specs.Hearing.{IsHeardFrom, IsKnownMessage}
use Rattle.wire_bytes.specs.declared.hearing.Unheard.{Unheard}
use Rattle.wire_bytes.specs.declared.hearing.Unheard.TheVariants as unheard
use Rattle.node_core.proofs.SearchLemmas.{last_there}
use Rattle.node_core.specs.Notes.{turn_by}
use Rattle.node_core.specs.declared.notes.Notes.{Notes}
use Rattle.node_core.specs.declared.notes.Turn.TheVariants as turns
use Rattle.node_core.specs.declared.receipt.Receipt.{Receipt}
use Rattle.node_exchanges.proofs.ReplyLemmas.{wrote_nothing}
use Rattle.node_exchanges.specs.Endpoints.{Endpoint}
use Rattle.node_exchanges.specs.Replies.{IsAnsweredBy, IsCutShort, IsRefusedSo, IsSaid, SaysIt, known_reply, refusal_bytes}
use Rattle.node_exchanges.specs.declared.served.Served.{Served}
use Rattle.node_exchanges.specs.declared.served.Served.TheVariants as served
use Rattle.node_workers.specs.Flying.{IsCaller, IsNoted, RefusesAs}
use Rattle.node_workers.specs.Messages.{IsGivenSo, IsHeardSo, IsTakenSo}
use Rattle.node_workers.specs.Serving.{Hears, IsCounted, IsForWorkers, IsLiveRequest, IsOperatorTold, IsPlainly, IsServed, IsToldOf, IsUntaken, OneReceipt, Owes, ServesMessage, ServesRequest, WantsMemory, client, sender}
use Rattle.node_workers.specs.Written.{IsCommitWritten, IsConsoleSo, last_of}

-- ---- refusals

plain_known : (message : Incoming) (a : AnswerMessage) → IsPlainly message (known_reply a)
plain_known (said.Outside q) a = tt
plain_known (said.Live set) a = tt
plain_known (said.Set set) a = tt
plain_known (said.Token t) a = tt
plain_known (said.Fetch f) a = tt
plain_known (said.Console asked) a = tt

plain_outside : (q : Request) (why : ArriveRefused) → RefusesAs Outside why → IsPlainly (said.Outside q) (replies.Refused (arrive_told why).0 (arrive_told why).1)
plain_outside q arrive.NoMemory how = inr refl
plain_outside q (arrive.Full n) how = inl refl
plain_outside q (arrive.NotYet n) (inl full) = absurd (cc full.1)
plain_outside q (arrive.NotYet n) (inr none) = absurd (cc none)
plain_outside q (arrive.Gone n) (inl full) = absurd (cc full.1)
plain_outside q (arrive.Gone n) (inr none) = absurd (cc none)

plain_refused : (message : Incoming) (origin : Origin) (request : Request) (why : ArriveRefused) → IsLiveRequest message origin request → RefusesAs origin why
    → IsPlainly message (replies.Refused (arrive_told why).0 (arrive_told why).1)
plain_refused (said.Outside q) origin request why live how = plain_outside q why (subst (λ (o : Origin). RefusesAs o why) live.0 how)
plain_refused (said.Live set) origin request why live how = tt
plain_refused (said.Set set) origin request why live how = tt
plain_refused (said.Token t) origin request why live how = tt
plain_refused (said.Fetch f) origin request why live how = tt
plain_refused (said.Console asked) origin request why live how = tt

-- ---- bytes that are no message

-- a fault of the source is one that it counted
counted_so : (why : FrontRefused) (before now : Reads)
    → (◌≡◌ {A = Result Incoming Unheard} (Err (unheard.Front why)) (Err (unheard.Front front.ReadFault)) → ReadFails before now) → IsCounted why before now
counted_so front.ReadFault before now fails = fails refl
counted_so why before now fails = tt

-- ---- an operator's word

pub not_for_workers : (word : ConsoleWord) → is_of_the_run word ≡ false → ¬ IsForWorkers word
not_for_workers word not = λ works. absurd (cc (not, works))

module _ (e : Endpoint) (i : Inputs) (asked : ConsoleRequest) (notes : Notes) (before now : Writes) (other : ¬ IsForWorkers asked.word) where
  -- what is told is written, or its write fails, or memory is wanting for that
  pub operator_told : (response : WireResponse) (answer : Served) → IsOperatorTold e i asked notes response → IsSaid response before now answer
      → IsConsoleSo e i asked notes before now answer
  operator_told response (served.Said said) told says = (other, (response, told, says))
  operator_told response served.WriteFault told says = (other, (response, told, says))
  operator_told response served.NoMemory told says = says
  operator_told response (served.Committed index) told says = absurd says
  operator_told response (served.Console given) told says = absurd says
  operator_told response (served.FrontRefused why) told says = absurd says
  operator_told response (served.WireRefused why) told says = absurd says
  operator_told response served.Gone told says = absurd says

-- ---- a receipt

shorter : (had : List Receipt) (r : Receipt) → length (had ++ r ∷ []) - 1 ≡ length had
shorter had r = omega (arith, length-append had (r ∷ []))

last_is : (had have : List Receipt) (r : Receipt) → have ≡ had ++ r ∷ [] → last_of have ≡ Some r
last_is had have r is =
    subst (λ (xs : List Receipt). last_of xs ≡ Some r) (sym is) (ap (λ (n : ℕ). slice_get (had ++ r ∷ []) n) (shorter had r) ∙ last_there had r)

pub has_last : (origin : Origin) (request : Request) (i : Inputs) (index : ℕ) (had have : List Receipt) → OneReceipt origin request i index had have → IsSome (last_of have)
has_last origin request i index had have one = ap (λ (o : Option Receipt). is_some o) (last_is had have one.receipt one.last)

-- an acknowledgement is for who sent the version, and a confirmation for who sent the token
pub ack_for : (me to : List ℕ) (set : SetMessage) (i : Inputs) (now : Notes) (taken : Taken) → IsTakenSo set i now (Ok taken) → set.dest ≡ me → to ≡ set.caller
    → IsFor me (Some to) (replies.Ack taken.ack)
ack_for me to set i now taken so dest whom = (ap (λ (a : Ack). a.dest) so.ack ∙ dest, ap Some (whom ∙ sym (ap (λ (a : Ack). a.caller) so.ack)))

pub confirm_for : (me to : List ℕ) (a : TokenMessage) (now : Notes) (heard : Heard) → IsHeardSo a now (Ok heard) → a.caller ≡ me → to ≡ a.callee
    → IsFor me (Some to) (replies.Confirm heard.confirm)
confirm_for me to a now heard so mine whom =
    (ap (λ (c : Confirm). c.caller) so.confirm ∙ mine, ap Some (whom ∙ sym (ap (λ (c : Confirm). c.callee) so.confirm)))

-- an answer that is given is the service's own, for who fetched it
pub given_for : (me to : List ℕ) (f : Fetch) (a : AnswerMessage) (now : Notes) → IsGivenSo me f now (Ok a) → to ≡ f.caller
    → (a.callee ≡ me) × (Some to ≡ Some a.caller)
given_for me to f a now so whom = (let by = so.answer in (by.from, ap Some (whom ∙ sym by.to)))

-- a live call asks for something
pub asks_so : (me : List ℕ) (peers : Secrets) (secret : List ℕ) (set : SetMessage) → IsKnownMessage me peers secret (said.Live set) → IsSome set.desired
asks_so me peers secret set known = ap (λ (o : Option Request). is_some o) known.1.live.desired

-- an answer that was known is for who called
pub known_for : (name : List ℕ) (o : Origin) (to : Option (List ℕ)) → IsCaller name o → to ≡ client o → to ≡ Some name
known_for name Outside to is whom = absurd is
known_for name (Call caller number) to is whom = whom ∙ ap Some (sym is)

-- ---- one connection

module _ (e : Endpoint) (i : Inputs) (before now : Reads) (wrote wrote_now : Writes) (notes : Notes) (had have : List Receipt) where
  abbrev Well : Served → Type 0
  Well answer = IsServed e i before now wrote wrote_now notes had have answer

  abbrev Owed : Served → List ℕ → Type 0
  Owed answer bytes = Owes e i before now notes had have answer bytes

  abbrev Why : Incoming → Outgoing → Type 0
  Why message reply = IsToldOf i message notes reply ⊎ WantsMemory message notes reply

  cut_short : (answer : Served) (bytes : List ℕ) → Owed answer bytes → IsCutShort wrote wrote_now bytes → Well served.WriteFault
  cut_short answer bytes owed cut = record { answer = answer; bytes = bytes; owed = owed; short = cut.0; fails = cut.1 }

  -- what is said of the message that was heard
  said_well : (message : Incoming) (to : Option (List ℕ)) (reply : Outgoing) (answer : Served) → Hears e before now message → to ≡ sender message → Why message reply
      → have ≡ had → SaysIt e.me e.secret to reply wrote wrote_now answer → Well answer
  said_well message to reply (served.Said response) heard whom so same says =
      record {
        bytes = response_bytes (written e.me to reply e.secret);
        owed = (inl (record { message = message; heard = heard; reply = reply; spelled = says.0 ∙ ap (λ (t : Option (List ℕ)). written e.me t reply e.secret) whom; so = so }), same, sym (ap response_bytes says.0));
        wrote = says.1;
      }
  said_well message to reply served.WriteFault heard whom so same says =
      cut_short (served.Said (written e.me to reply e.secret)) (response_bytes (written e.me to reply e.secret))
      (inl (record { message = message; heard = heard; reply = reply; spelled = ap (λ (t : Option (List ℕ)). written e.me t reply e.secret) whom; so = so }), same, refl) says
  said_well message to reply served.NoMemory heard whom so same says = (same, says)
  said_well message to reply (served.Committed index) heard whom so same says = absurd says
  said_well message to reply (served.Console asked) heard whom so same says = absurd says
  said_well message to reply (served.FrontRefused why) heard whom so same says = absurd says
  said_well message to reply (served.WireRefused why) heard whom so same says = absurd says
  said_well message to reply served.Gone heard whom so same says = absurd says

  committed_well : (message : Incoming) (origin : Origin) (request : Request) (index : ℕ) (answer : Served) → Hears e before now message → IsLiveRequest message origin request
      → (one : OneReceipt origin request i index had have) → IsCommitWritten index one.receipt.reply wrote wrote_now answer → Well answer
  committed_well message origin request index (served.Committed at) heard live one commit =
      record {
        bytes = one.receipt.reply;
        owed = record {
          message = message;
          heard = heard;
          origin = origin;
          request = request;
          is = live;
          one = record {
            receipt = one.receipt;
            last = one.last;
            of = record { answer = one.of.answer; row = one.of.row; of = one.of.of; asked = one.of.asked; inputs = one.of.inputs; at = one.of.at ∙ sym commit.0 };
          };
          reply = refl;
        };
        wrote = commit.1;
      }
  committed_well message origin request index served.WriteFault heard live one commit =
      cut_short (served.Committed index) one.receipt.reply
      (record { message = message; heard = heard; origin = origin; request = request; is = live; one = one; reply = refl }) commit
  committed_well message origin request index (served.Said response) heard live one commit = absurd commit
  committed_well message origin request index (served.Console asked) heard live one commit = absurd commit
  committed_well message origin request index (served.FrontRefused why) heard live one commit = absurd commit
  committed_well message origin request index (served.WireRefused why) heard live one commit = absurd commit
  committed_well message origin request index served.Gone heard live one commit = absurd commit
  committed_well message origin request index served.NoMemory heard live one commit = absurd commit

  operator_owes : (asked : ConsoleRequest) (response : WireResponse) → Hears e before now (said.Console asked) → ¬ IsForWorkers asked.word → IsOperatorTold e i asked notes response
      → have ≡ had → Owed (served.Said response) (response_bytes response)
  operator_owes asked response heard other told same = (inr (record { asked = asked; heard = heard; here = other; so = told }), same, refl)

  console_well : (asked : ConsoleRequest) (answer : Served) → Hears e before now (said.Console asked) → have ≡ had → IsConsoleSo e i asked notes wrote wrote_now answer → Well answer
  console_well asked (served.Console given) heard same so =
      record {
        bytes = [];
        owed = (subst (λ (x : ConsoleRequest). Hears e before now (said.Console x)) (sym so.0) heard, subst (λ (x : ConsoleRequest). IsForWorkers x.word) (sym so.0) so.1, same, refl);
        wrote = wrote_nothing wrote wrote_now so.2;
      }
  console_well asked (served.Said response) heard same so =
      let told = subst (λ (r : WireResponse). IsOperatorTold e i asked notes r) (sym so.1.2.0) so.1.1 in
      record {
        bytes = response_bytes response;
        owed = operator_owes asked response heard so.0 told same;
        wrote = subst (λ (r : WireResponse). Wrote wrote wrote_now (response_bytes r)) (sym so.1.2.0) so.1.2.1;
      }
  console_well asked served.WriteFault heard same so =
      cut_short (served.Said so.1.0) (response_bytes so.1.0) (operator_owes asked so.1.0 heard so.0 so.1.1 same) so.1.2
  console_well asked served.NoMemory heard same so = (same, so)
  console_well asked (served.Committed index) heard same so = absurd so.1.2
  console_well asked (served.FrontRefused why) heard same so = absurd so.1.2
  console_well asked (served.WireRefused why) heard same so = absurd so.1.2
  console_well asked served.Gone heard same so = absurd so.1.2

  gone_well : (message : Incoming) (origin : Origin) (request : Request) → Hears e before now message → IsLiveRequest message origin request → notes.turn ≡ Some turns.Gone
      → have ≡ had → wrote_now ≡ wrote → Well served.Gone
  gone_well message origin request heard live turn same none =
      record {
        bytes = [];
        owed = (record { message = message; heard = heard; origin = origin; request = request; is = live; turn = turn }, same, refl);
        wrote = wrote_nothing wrote wrote_now none;
      }

  front_well : (why : FrontRefused) (answer : Served) → IsHeardFrom e.me e.secrets e.console before now (Err (unheard.Front why)) → IsCounted why before now → have ≡ had
      → IsAnsweredBy (front_word why) (served.FrontRefused why) wrote wrote_now answer → Well answer
  front_well why (served.FrontRefused x) heard counted same so = subst Well (sym so.0) (record { bytes = refusal_bytes (front_word why); owed = (heard, counted, same, refl); wrote = so.1 })
  front_well why served.WriteFault heard counted same so = cut_short (served.FrontRefused why) (refusal_bytes (front_word why)) (heard, counted, same, refl) so
  front_well why served.NoMemory heard counted same so = (same, so)
  front_well why (served.Said response) heard counted same so = absurd (cc so.0)
  front_well why (served.Committed index) heard counted same so = absurd (cc so.0)
  front_well why (served.Console asked) heard counted same so = absurd (cc so.0)
  front_well why (served.WireRefused x) heard counted same so = absurd (cc so.0)
  front_well why served.Gone heard counted same so = absurd (cc so.0)

  wire_well : (why : WireRefused) (answer : Served) → IsHeardFrom e.me e.secrets e.console before now (Err (unheard.Wire why)) → have ≡ had
      → IsAnsweredBy (Some (wire_word why)) (served.WireRefused why) wrote wrote_now answer → Well answer
  wire_well why (served.WireRefused x) heard same so = subst Well (sym so.0) (record { bytes = refusal_bytes (Some (wire_word why)); owed = (heard, same, refl); wrote = so.1 })
  wire_well why served.WriteFault heard same so = cut_short (served.WireRefused why) (refusal_bytes (Some (wire_word why))) (heard, same, refl) so
  wire_well why served.NoMemory heard same so = (same, so)
  wire_well why (served.Said response) heard same so = absurd (cc so.0)
  wire_well why (served.Committed index) heard same so = absurd (cc so.0)
  wire_well why (served.Console asked) heard same so = absurd (cc so.0)
  wire_well why (served.FrontRefused x) heard same so = absurd (cc so.0)
  wire_well why served.Gone heard same so = absurd (cc so.0)

  pub refused_well : (why : Unheard) (answer : Served) → IsHeardFrom e.me e.secrets e.console before now (Err why)
      → (◌≡◌ {A = Result Incoming Unheard} (Err why) (Err (unheard.Front front.ReadFault)) → ReadFails before now) → have ≡ had
      → IsRefusedSo why wrote wrote_now answer → Well answer
  refused_well (unheard.Front why) answer heard fails same so = front_well why answer heard (counted_so why before now fails) same so
  refused_well (unheard.Wire why) answer heard fails same so = wire_well why answer heard same so

  -- a fault that is said was counted
  pub fault_counted : (answer : Served) → Well answer → answer ≡ served.FrontRefused front.ReadFault → ReadFails before now
  fault_counted answer well is = (let so : Well (served.FrontRefused front.ReadFault) = subst Well is well in so.owed.1)

-- ---- a message, wherever it began

module _ (e : Endpoint) (i : Inputs) (now : Reads) (wrote wrote_now : Writes) (notes : Notes) (had have : List Receipt) where
  abbrev Does : Incoming → Served → Type 0
  Does message answer = ServesMessage e i message now wrote wrote_now notes had have answer

  abbrev DoesLive : Origin → Request → Served → Type 0
  DoesLive origin request answer = ServesRequest e i origin request now wrote wrote_now notes had have answer

  -- the client of a live request is who sent it
  client_is : (message : Incoming) (origin : Origin) (request : Request) → IsLiveRequest message origin request → client origin ≡ sender message
  client_is (said.Outside q) origin request live = ap client live.0
  client_is (said.Live set) origin request live = ap client live.0
  client_is (said.Set set) origin request live = absurd live
  client_is (said.Token t) origin request live = absurd live
  client_is (said.Fetch f) origin request live = absurd live
  client_is (said.Console asked) origin request live = absurd live

  pub live_committed : (origin : Origin) (request : Request) (index : ℕ) (answer : Served) → OneReceipt origin request i index had have
      → IsSomeAnd (last_of have) (λ (r : Receipt). IsCommitWritten index r.reply wrote wrote_now answer) → DoesLive origin request answer
  live_committed origin request index answer one commit message live before heard =
      let last = last_is had have one.receipt one.last in
      committed_well e i before now wrote wrote_now notes had have message origin request index answer heard live one
      (subst (λ (o : Option Receipt). IsSomeAnd o (λ (r : Receipt). IsCommitWritten index r.reply wrote wrote_now answer)) last commit)

  live_said : (origin : Origin) (request : Request) (to : Option (List ℕ)) (reply : Outgoing) (answer : Served) → to ≡ client origin
      → ((message : Incoming) → IsLiveRequest message origin request → IsToldOf i message notes reply ⊎ WantsMemory message notes reply)
      → have ≡ had → SaysIt e.me e.secret to reply wrote wrote_now answer → DoesLive origin request answer
  live_said origin request to reply answer whom so same says message live before heard =
      said_well e i before now wrote wrote_now notes had have message to reply answer heard (whom ∙ client_is message origin request live) (so message live) same says

  pub live_known : (origin : Origin) (request : Request) (to : Option (List ℕ)) (a : AnswerMessage) (answer : Served) → to ≡ client origin
      → IsNoted origin request i notes (done.Arrive (Ok (arrived.Known a))) → have ≡ had → SaysIt e.me e.secret to (known_reply a) wrote wrote_now answer → DoesLive origin request answer
  live_known origin request to a answer whom noted same says =
      live_said origin request to (known_reply a) answer whom (λ message live. inl (record { gave = _; noted = noted; of = (live, refl); so = inr refl; plainly = plain_known message a })) same says

  pub live_refused : (origin : Origin) (request : Request) (to : Option (List ℕ)) (why : ArriveRefused) (told : Told) (answer : Served) → to ≡ client origin
      → IsNoted origin request i notes (done.Arrive (Err why)) → RefusesAs origin why → have ≡ had → told ≡ arrive_told why
      → SaysIt e.me e.secret to (replies.Refused told.0 told.1) wrote wrote_now answer → DoesLive origin request answer
  live_refused origin request to why told answer whom noted plainly same is says =
      live_said origin request to (replies.Refused (arrive_told why).0 (arrive_told why).1) answer whom
      (λ message live. inl (record { gave = _; noted = noted; of = (live, refl); so = inl (turn_by (arrive_refusal why), refl, refl); plainly = plain_refused message origin request why live plainly }))
      same (subst (λ (t : Told). SaysIt e.me e.secret to (replies.Refused t.0 t.1) wrote wrote_now answer) is says)

  pub live_gone : (origin : Origin) (request : Request) → notes.turn ≡ Some turns.Gone → have ≡ had → wrote_now ≡ wrote → DoesLive origin request served.Gone
  live_gone origin request turn same none message live before heard =
      gone_well e i before now wrote wrote_now notes had have message origin request heard live turn same none

  live_untaken : (message : Incoming) (origin : Origin) (request : Request) → IsLiveRequest message origin request → IsUntaken message notes
  live_untaken (said.Outside q) origin request live = tt
  live_untaken (said.Live set) origin request live = tt
  live_untaken (said.Set set) origin request live = absurd live
  live_untaken (said.Token t) origin request live = absurd live
  live_untaken (said.Fetch f) origin request live = absurd live
  live_untaken (said.Console asked) origin request live = absurd live

  pub live_wants : (origin : Origin) (request : Request) (to : Option (List ℕ)) (answer : Served) → to ≡ client origin → have ≡ had
      → SaysIt e.me e.secret to (replies.Refused (codes "nomemory") 0) wrote wrote_now answer → DoesLive origin request answer
  live_wants origin request to answer whom same says =
      live_said origin request to (replies.Refused (codes "nomemory") 0) answer whom (λ message live. inr (live_untaken message origin request live, refl)) same says

  -- a request from outside, and a peer's live call, is served as the live request that it is
  pub outside_served : (request : Request) (answer : Served) → DoesLive Outside request answer → Does (said.Outside request) answer
  outside_served request answer does = does (said.Outside request) (refl, refl)

  pub call_served : (set : SetMessage) (caller : List ℕ) (number : ℕ) (request : Request) (answer : Served) → caller ≡ set.caller → number ≡ set.number
      → set.desired ≡ Some request → DoesLive (Call caller number) request answer → Does (said.Live set) answer
  call_served set caller number request answer by at desired does = does (said.Live set) (cc, desired)

  pub set_taken : (set : SetMessage) (to : List ℕ) (taken : Taken) (answer : Served) → to ≡ set.caller → IsTakenSo set i notes (Ok taken) → have ≡ had
      → SaysIt e.me e.secret (Some to) (replies.Ack taken.ack) wrote wrote_now answer → Does (said.Set set) answer
  set_taken set to taken answer whom so same says before heard =
      said_well e i before now wrote wrote_now notes had have (said.Set set) (Some to) (replies.Ack taken.ack) answer heard (ap Some whom)
      (inl (record { gave = _; noted = so.noted; of = (refl, refl); so = inr refl; plainly = tt })) same says

  pub set_refused : (set : SetMessage) (to : List ℕ) (why : TakeRefused) (told : Told) (answer : Served) → to ≡ set.caller → IsTakenSo set i notes (Err why) → have ≡ had
      → told ≡ take_told why → SaysIt e.me e.secret (Some to) (replies.Refused told.0 told.1) wrote wrote_now answer → Does (said.Set set) answer
  set_refused set to why told answer whom so same is says before heard =
      said_well e i before now wrote wrote_now notes had have (said.Set set) (Some to) (replies.Refused (take_told why).0 (take_told why).1) answer heard (ap Some whom)
      (inl (record { gave = _; noted = so.noted; of = (refl, refl); so = inl (turn_by (take_refusal why), refl, refl); plainly = tt }))
      same (subst (λ (t : Told). SaysIt e.me e.secret (Some to) (replies.Refused t.0 t.1) wrote wrote_now answer) is says)

  pub token_heard : (a : TokenMessage) (to : List ℕ) (heard : Heard) (answer : Served) → to ≡ a.callee → IsHeardSo a notes (Ok heard) → have ≡ had
      → SaysIt e.me e.secret (Some to) (replies.Confirm heard.confirm) wrote wrote_now answer → Does (said.Token a) answer
  token_heard a to heard answer whom so same says before hears =
      said_well e i before now wrote wrote_now notes had have (said.Token a) (Some to) (replies.Confirm heard.confirm) answer hears (ap Some whom)
      (inl (record { gave = _; noted = so.noted; of = refl; so = inr refl; plainly = tt })) same says

  pub token_refused : (a : TokenMessage) (to : List ℕ) (why : AnswerRefused) (told : Told) (answer : Served) → to ≡ a.callee → IsHeardSo a notes (Err why) → have ≡ had
      → told ≡ answer_told why → SaysIt e.me e.secret (Some to) (replies.Refused told.0 told.1) wrote wrote_now answer → Does (said.Token a) answer
  token_refused a to why told answer whom so same is says before hears =
      said_well e i before now wrote wrote_now notes had have (said.Token a) (Some to) (replies.Refused (answer_told why).0 (answer_told why).1) answer hears (ap Some whom)
      (inl (record { gave = _; noted = so.noted; of = refl; so = inl (turn_by (answer_refusal why), refl, refl); plainly = tt }))
      same (subst (λ (t : Told). SaysIt e.me e.secret (Some to) (replies.Refused t.0 t.1) wrote wrote_now answer) is says)

  pub fetch_given : (f : Fetch) (to : List ℕ) (a : AnswerMessage) (answer : Served) → to ≡ f.caller → IsGivenSo e.me f notes (Ok a) → have ≡ had
      → SaysIt e.me e.secret (Some to) (known_reply a) wrote wrote_now answer → Does (said.Fetch f) answer
  fetch_given f to a answer whom so same says before hears =
      said_well e i before now wrote wrote_now notes had have (said.Fetch f) (Some to) (known_reply a) answer hears (ap Some whom)
      (inl (record { gave = _; noted = so.noted; of = refl; so = inr refl; plainly = tt })) same says

  pub fetch_refused : (f : Fetch) (to : List ℕ) (why : GiveRefused) (told : Told) (answer : Served) → to ≡ f.caller → IsGivenSo e.me f notes (Err why) → have ≡ had
      → told ≡ give_told why → SaysIt e.me e.secret (Some to) (replies.Refused told.0 told.1) wrote wrote_now answer → Does (said.Fetch f) answer
  fetch_refused f to why told answer whom so same is says before hears =
      said_well e i before now wrote wrote_now notes had have (said.Fetch f) (Some to) (replies.Refused (give_told why).0 (give_told why).1) answer hears (ap Some whom)
      (inl (record { gave = _; noted = so.noted; of = refl; so = inl (turn_by (give_refusal why), refl, refl); plainly = tt }))
      same (subst (λ (t : Told). SaysIt e.me e.secret (Some to) (replies.Refused t.0 t.1) wrote wrote_now answer) is says)

  -- memory was wanting for a message of a peer
  pub message_wants : (message : Incoming) (to : Option (List ℕ)) (answer : Served) → to ≡ sender message → IsUntaken message notes → have ≡ had
      → SaysIt e.me e.secret to (replies.Refused (codes "nomemory") 0) wrote wrote_now answer → Does message answer
  message_wants message to answer whom untaken same says before heard =
      said_well e i before now wrote wrote_now notes had have message to (replies.Refused (codes "nomemory") 0) answer heard whom (inr (untaken, refl)) same says

  -- likewise even for its sender's name
  pub message_dropped : (message : Incoming) → have ≡ had → wrote_now ≡ wrote → Does message served.NoMemory
  message_dropped message same none before heard = (same, none)

  pub console_served : (asked : ConsoleRequest) (answer : Served) → have ≡ had → IsConsoleSo e i asked notes wrote wrote_now answer → Does (said.Console asked) answer
  console_served asked answer same so before heard = console_well e i before now wrote wrote_now notes had have asked answer heard same so

-- what stands at the end
pub served_to : (e : Endpoint) (i : Inputs) (before mid now : Reads) (wrote between wrote_now : Writes) (notes : Notes) (had have : List Receipt) (answer : Served) → now ≡ mid
    → between ≡ wrote → IsServed e i before mid between wrote_now notes had have answer → IsServed e i before now wrote wrote_now notes had have answer
served_to e i before mid now wrote between wrote_now notes had have answer reads writes so =
    subst (λ (r : Reads). IsServed e i before r wrote wrote_now notes had have answer) (sym reads)
    (subst (λ (w : Writes). IsServed e i before mid w wrote_now notes had have answer) writes so)
