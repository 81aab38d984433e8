-- What is written on a connection.
use Rattle.std.specs.Prelude.{ℕ, ◌≡◌, List, [], Option, Some, None}
use Rattle.repair_messages.specs.declared.messages.AnswerMessage.{AnswerMessage}
use Rattle.io_edge.specs.Edge.{Writes, Wrote, WroteShort, WriteFails}
use Rattle.http_front.specs.Writing.{response_bytes}
use Rattle.http_front.specs.declared.message.WireResponse.{WireResponse}
use Rattle.wire_replies.specs.Writing.{written}
use Rattle.wire_replies.specs.declared.replies.Outgoing.{Outgoing}
use Rattle.wire_replies.specs.declared.replies.Outgoing.TheVariants as replies
use Rattle.wire_words.specs.Words.{front_word, wire_word}
use Rattle.wire_bytes.specs.declared.hearing.Unheard.{Unheard}
use Rattle.wire_bytes.specs.declared.hearing.Unheard.TheVariants as unheard
use Rattle.node_exchanges.specs.declared.served.Served.{Served}
use Rattle.node_exchanges.specs.declared.served.Served.TheVariants as served

-- the write of these bytes failed
abbrev pub IsCutShort : Writes → Writes → List ℕ → Type 0
IsCutShort before now bytes = WroteShort before now bytes × WriteFails before now

-- the response was written, or its write failed, or memory was wanting and nothing was written
abbrev pub IsSaid : WireResponse → Writes → Writes → Served → Type 0
IsSaid response before now (served.Said said) = (said ≡ response) × Wrote before now (response_bytes response)
IsSaid response before now served.WriteFault = IsCutShort before now (response_bytes response)
IsSaid response before now served.NoMemory = now ≡ before
IsSaid response before now other = ⊥

-- the response that spells this reply of the service `me`, which seals with this secret
abbrev pub SaysIt : List ℕ → List ℕ → Option (List ℕ) → Outgoing → Writes → Writes → Served → Type 0
SaysIt me secret to reply before now answer = IsSaid (written me to reply secret) before now answer

-- an answer that is known, to a call that was answered before
abbrev pub known_reply : AnswerMessage → Outgoing
known_reply a = replies.Answered (record { service = a.callee; number = a.id }) (Some a) a.response

-- a refusal to a client that is no service; no bytes where there is no word
abbrev pub refusal_bytes : Option (List ℕ) → List ℕ
refusal_bytes None = []
refusal_bytes (Some word) = response_bytes (written [] None (replies.Refused word 0) [])

-- this answer, once something was said
abbrev pub instead : Served → Served → Served
instead (served.Said response) answer = answer
instead other answer = other

-- what bytes that are no message come to, by the word that is written
abbrev pub IsAnsweredBy : Option (List ℕ) → Served → Writes → Writes → Served → Type 0
IsAnsweredBy word answer before now served.WriteFault = IsCutShort before now (refusal_bytes word)
IsAnsweredBy word answer before now served.NoMemory = now ≡ before
IsAnsweredBy word answer before now result = (result ≡ answer) × Wrote before now (refusal_bytes word)

abbrev pub IsRefusedSo : Unheard → Writes → Writes → Served → Type 0
IsRefusedSo (unheard.Front why) before now answer = IsAnsweredBy (front_word why) (served.FrontRefused why) before now answer
IsRefusedSo (unheard.Wire why) before now answer = IsAnsweredBy (Some (wire_word why)) (served.WireRefused why) before now answer
