-- Answers that the bytes read decide. Want of memory and a failed read may come at any time.
use Rattle.std.specs.Prelude.{◌≡◌, Bool, true, false, Result}
use Rattle.lang_base.specs.Memory.{lacks}
use Rattle.http_front.specs.declared.message.FrontRefused.{FrontRefused}
use Rattle.http_front.specs.declared.message.FrontRefused.TheVariants.{NoMemory, ReadFault, Cut, BadHead, HeadTooLong, BodyTooLong, Coding, BadLength, NotText, Method}

abbrev pub interrupts : FrontRefused → Bool
interrupts NoMemory = true
interrupts ReadFault = true
interrupts (Cut n) = false
interrupts BadHead = false
interrupts HeadTooLong = false
interrupts BodyTooLong = false
interrupts Coding = false
interrupts BadLength = false
interrupts NotText = false
interrupts Method = false

abbrev pub was_interrupted : {X : Type 0} → Result X FrontRefused → Bool
was_interrupted answer = lacks interrupts answer

-- this holds of the answer, unless the reading was interrupted
abbrev pub UnlessInterrupted : {X : Type 0} → Result X FrontRefused → Type 0 → Type 0
UnlessInterrupted answer P = was_interrupted answer ≡ false → P
