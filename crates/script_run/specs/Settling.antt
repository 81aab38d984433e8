-- What is said of services that settle.
use Rattle.std.specs.Prelude.{ℕ, ◌≡◌, ◌++◌, List, Ok, codes, decimal}
use Rattle.world_events.specs.Worlds.{World}
use Rattle.world_events.specs.declared.event.Event.{Event}
use Rattle.world_settle.specs.Settles.{IsSettling}
use Rattle.world_settle.specs.declared.settled.Settled.{Settled}
use Rattle.script_run.specs.Counting.{line_counts}
use Rattle.script_run.specs.Told.{LineAnswer}
use Rattle.script_run.specs.declared.counts.Counts.{Counts}
use Rattle.script_run.specs.declared.counts.Said.{Said}

-- `settled R X P`: rounds that did something, runs, posts
abbrev pub settled_text : Settled → List ℕ
settled_text s =
    codes "settled " ++ (decimal s.rounds ++ (codes " " ++ (decimal s.runs ++ (codes " " ++ (decimal s.posts ++ codes "\n")))))

abbrev pub settled_counts : Settled → Counts
settled_counts s = record line_counts { rounds = s.rounds; runs = s.runs; posts = s.posts }

abbrev pub settled_said : Settled → Said
settled_said s = record { text = settled_text s; counts = settled_counts s }

-- events of at most n rounds, and what is said of their counts
abbrev pub SaysSettled : ℕ → World → List Event → LineAnswer → Type 0
SaysSettled n w events said = (settled : Settled) × IsSettling w n events settled × (said ≡ Ok (settled_said settled))
