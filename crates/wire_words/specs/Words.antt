-- The words with which a service tells why bytes were no message, or no message for it.
use Rattle.std.specs.Prelude.{◌≡◌, ℕ, List, Option, Some, None, IsSome}
use Rattle.repair_messages.specs.Refusals.{word_text}
use Rattle.repair_messages.specs.declared.refusals.RefusalWord.TheVariants.{NoMemory}
use Rattle.http_front.specs.declared.header.AireHeader.TheVariants.{From}
use Rattle.http_front.specs.declared.message.FrontRefused.{FrontRefused}
use Rattle.http_front.specs.declared.message.FrontRefused.TheVariants as front
use Rattle.wire_fields.specs.Unread.{unread_text}
use Rattle.wire_fields.specs.Words.{lone_status}
use Rattle.wire_fields.specs.declared.refused.WireRefused.{WireRefused}
use Rattle.wire_fields.specs.declared.refused.WireRefused.TheVariants as wire
use Rattle.wire_fields.specs.declared.unread.UnreadWord.TheVariants.{Head, HeadTooLong, Length, Text, Body, Coding, Method, Missing, Bad, Kind, Seal}

-- why no HTTP message was read; where it was cut, or its source failed, nothing is told
abbrev pub front_word : FrontRefused → Option (List ℕ)
front_word front.NoMemory = Some (word_text NoMemory)
front_word front.ReadFault = None
front_word (front.Cut n) = None
front_word front.BadHead = Some (unread_text Head)
front_word front.HeadTooLong = Some (unread_text HeadTooLong)
front_word front.BodyTooLong = Some (unread_text Body)
front_word front.Coding = Some (unread_text Coding)
front_word front.BadLength = Some (unread_text Length)
front_word front.NotText = Some (unread_text Text)
front_word front.Method = Some (unread_text Method)

-- why an HTTP message is no message between services
abbrev pub wire_word : WireRefused → List ℕ
wire_word wire.NoMemory = word_text NoMemory
wire_word (wire.MissingHeader header) = unread_text Missing
wire_word (wire.BadHeader header) = unread_text Bad
wire_word wire.UnknownKind = unread_text Kind
wire_word wire.Seal = unread_text Seal

-- ---- told apart

-- another refusal has this word only where it is the same one
abbrev pub IsFrontWord : FrontRefused → Type 0
IsFrontWord why = (other : FrontRefused) → IsSome (front_word why) → front_word other ≡ front_word why → other ≡ why

-- the refusal, whichever header field it names
abbrev pub of_any_field : WireRefused → WireRefused
of_any_field wire.NoMemory = wire.NoMemory
of_any_field (wire.MissingHeader header) = wire.MissingHeader From
of_any_field (wire.BadHeader header) = wire.BadHeader From
of_any_field wire.UnknownKind = wire.UnknownKind
of_any_field wire.Seal = wire.Seal

abbrev pub IsWireWord : WireRefused → Type 0
IsWireWord why = (other : WireRefused) → wire_word other ≡ wire_word why → of_any_field other ≡ of_any_field why

-- ---- in the table of refusals

-- it stands there without a number
abbrev pub IsLone : List ℕ → Type 0
IsLone word = IsSome (lone_status word)
