-- What a text holds, as a contract sees it.
use Rattle.std.specs.Prelude.{ℕ, List}
use Rattle.std.specs.String.{string_bytes}
use Rattle.lang_base.specs.declared.text.Held.{Held}
use Rattle.lang_base.specs.declared.text.Held.TheVariants.{Inline, Owned}

-- the bytes, in whichever form they are held
abbrev pub held_bytes : Held → List ℕ
held_bytes (Inline bytes) = bytes
held_bytes (Owned text) = string_bytes text
