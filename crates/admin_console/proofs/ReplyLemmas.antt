-- Words and numbers that tell a refusal.
use Rattle.std.proofs.Common.{◌≡◌, ℕ, List, Result, IfOk, subst}
use Rattle.lang_base.specs.declared.memory.NoMemory.{NoMemory as LacksMemory}
use Rattle.http_front.specs.declared.message.WireResponse.{WireResponse}
use Rattle.wire_words.specs.Refusals.{Told}
use Rattle.wire_bytes.specs.Console.{console_refusal}
use Rattle.admin_console.specs.Replies.{refused_reply}

pub told_so : (told : Told) (word : List ℕ) (n : ℕ) (reply : Result WireResponse LacksMemory) → (word, n) ≡ told
    → IfOk reply (λ (response : WireResponse). response ≡ console_refusal word n) → IfOk reply (λ (response : WireResponse). response ≡ refused_reply told)
told_so told word n reply same is = subst (λ (t : Told). IfOk reply (λ (response : WireResponse). response ≡ console_refusal t.0 t.1)) same is
