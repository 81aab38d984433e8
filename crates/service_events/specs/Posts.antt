-- What a service is to post to another one: which posts are outstanding, which of them is the oldest, and what its message says.
use Rattle.std.specs.Prelude.{ℕ, Bool, false, ◌&&◌, not, List, ◌++◌, Option, Some, None, if◌then◌else◌, nat_eq, nat_lt, filter, flat_map, fold, is_none, map, option_map, slice_get}
use Rattle.std.specs.List.{after_first, before_first, last_or, list_any}
use Rattle.std.specs.Option.{option_map_or}
use Rattle.lang_base.specs.Texts.{same_text}
use Rattle.lang_core.specs.declared.trace.CallMade.{CallMade}
use Rattle.request_log.specs.declared.entry.Entry.{Entry}
use Rattle.repair_messages.specs.declared.messages.Fetch.{Fetch as FetchMessage}
use Rattle.repair_messages.specs.declared.messages.SetMessage.{SetMessage}
use Rattle.repair_messages.specs.declared.messages.TokenMessage.{TokenMessage}
use Rattle.repair_messages.specs.declared.posts.Post.{Post}
use Rattle.repair_messages.specs.declared.posts.Post.TheVariants.{Set, Token, Fetch}
use Rattle.repair_messages.specs.declared.posts.PostName.{PostName}
use Rattle.repair_messages.specs.declared.posts.PostName.TheVariants.{Call, Reply as OfReply, Fetch as OfFetch}
use Rattle.call_registers.specs.Registers.{owes_fetch, register}
use Rattle.call_registers.specs.Replies.{reply}
use Rattle.call_registers.specs.declared.register.Register.{Register}
use Rattle.call_registers.specs.declared.reply.Reply.{Reply}
use Rattle.service_events.specs.Fits.{wanted_call}
use Rattle.service_events.specs.Flying.{awaited}
use Rattle.service_events.specs.State.{Kept, me}

-- ---- the oldest outstanding post

-- a call to this service, whose last version isn't acknowledged: nothing holds it, and no flight awaits it
abbrev pub is_unacknowledged : List ℕ → List ℕ → Register → Bool
is_unacknowledged awaited dest r =
    same_text r.dest dest && nat_lt r.acked r.version && is_none r.held && not (list_any (nat_eq r.number) awaited)

-- a reply to a call of this service that is due: it has an answer to announce, and nothing holds it
abbrev pub is_owed : List ℕ → Reply → Bool
is_owed caller p = same_text p.caller caller && p.due && nat_lt 0 p.answer_version && is_none p.held

-- a call of which an answer is to be fetched from this service, whether or not a flight awaits it
abbrev pub is_to_fetch : List ℕ → Register → Bool
is_to_fetch dest r = owes_fetch r && same_text r.dest dest

-- a post, and the index in the journal from which on it is to be sent
pub record Aged : Type 0 where
  pub name : PostName
  pub since : ℕ

abbrev pub aged_call : Register → Aged
aged_call r = record { name = Call r.number; since = r.since }

abbrev pub aged_reply : Reply → Aged
aged_reply p = record { name = OfReply p.id; since = p.since }

abbrev pub aged_fetch : Register → Aged
aged_fetch r = record { name = OfFetch r.number; since = r.noted_since }

-- those for this service, where flights await these numbers
abbrev pub outstanding : List Register → List Reply → List ℕ → List ℕ → List Aged
outstanding registers replies awaited dest =
    (map aged_call (filter (is_unacknowledged awaited dest) registers) ++ map aged_reply (filter (is_owed dest) replies))
    ++ map aged_fetch (filter (is_to_fetch dest) registers)

abbrev pub older : Option Aged → Aged → Option Aged
older None post = Some post
older (Some first) post = if nat_lt post.since first.since then Some post else Some first

abbrev pub oldest : List Aged → Option Aged
oldest posts = fold older None posts

-- the post that goes to this service next, if one is outstanding
abbrev pub next_post : List ℕ → Kept → Option PostName
next_post dest s =
    option_map (λ (p : Aged). p.name) (oldest (outstanding s.registers s.replies (map awaited s.flights) dest))

-- ---- its message

abbrev pub goes_to : List ℕ → Option CallMade → Bool
goes_to dest call = option_map_or (λ (c : CallMade). same_text c.dest dest) call false

-- the numbers of the wanted calls of entries to this service, in logged order
abbrev pub calls_to : List ℕ → Kept → List ℕ
calls_to dest s =
    filter (λ n. goes_to dest (wanted_call s.registers n)) (flat_map (λ (e : Entry). e.slots) s.entries)

-- the first of these behind a number, if that is among them
abbrev pub next_of : ℕ → List ℕ → Option ℕ
next_of number numbers = slice_get (after_first (λ n. nat_eq n number) numbers) 0

-- the last of these before a number, or of all if that isn't among them
abbrev pub previous_of : ℕ → List ℕ → Option ℕ
previous_of number numbers = last_or None (before_first (λ n. nat_eq n number) numbers)

-- a new call names its neighbours among the calls to the same service
abbrev pub where_new : Register → Option ℕ → Option ℕ
where_new r neighbour = if nat_eq r.version 1 then neighbour else None

-- a call as it is now
abbrev pub set_message : Kept → Register → SetMessage
set_message s r =
    record {
      caller = me s;
      dest = r.dest;
      number = r.number;
      version = r.version;
      desired = r.desired;
      before = where_new r (next_of r.number (calls_to r.dest s));
      after = where_new r (previous_of r.number (calls_to r.dest s));
      who = r.repair_who;
    }

-- the token of a reply's last answer
abbrev pub token_message : Kept → Reply → TokenMessage
token_message s p =
    record {
      caller = p.caller;
      callee = me s;
      id = p.id;
      number = p.number;
      answer_version = p.answer_version;
      who = p.repair_who;
    }

-- a reply has one once it has an answer
abbrev pub token_post : Kept → Option Reply → Option Post
token_post s None = None
token_post s (Some p) = if nat_lt 0 p.answer_version then Some (Token (token_message s p)) else None

-- the fetch of the last answer to a call that was announced
abbrev pub fetch_message : Kept → Register → FetchMessage
fetch_message s r = record { caller = me s; callee = r.dest; number = r.number; answer_version = r.noted }

-- there is one once any was announced
abbrev pub fetch_post : Kept → Option Register → Option Post
fetch_post s None = None
fetch_post s (Some r) = if nat_lt 0 r.noted then Some (Fetch (fetch_message s r)) else None

-- the message of a post as it is now, where there is such a call, such a reply with an answer, or such a call of which an answer was
-- announced
abbrev pub write_post : Kept → PostName → Option Post
write_post s (Call number) = option_map (λ r. Set (set_message s r)) (register number s.registers)
write_post s (OfReply id) = token_post s (reply id s.replies)
write_post s (OfFetch number) = fetch_post s (register number s.registers)
