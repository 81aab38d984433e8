-- What a request is given of a clock and of words that stand behind a lock.
use Rattle.std.specs.Prelude.{◌≡◌, ℕ, Option, IfSome}
use Rattle.lang_core.specs.declared.inputs.Inputs.{Inputs}
use Rattle.recorded_inputs.specs.Drawing.{HasWords}

-- at some moment of the clock and of the words, these are the reading and the eight words that came next, where they tell what comes
pub record IsDrawnOf {C V : Type 0} (readings_of : C → Option (ℕ → ℕ)) (words_of : V → Option (ℕ → ℕ)) (inputs : Inputs) : Type 0 where
  pub clock : C
  pub words : V
  pub moment : IfSome (readings_of clock) (λ readings. inputs.moment ≡ readings 0)
  pub eight : IfSome (words_of words) (λ coming. HasWords coming inputs)
