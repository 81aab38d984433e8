-- What a script counts, and what its lines say.
use Rattle.std.specs.Prelude.{ℕ, ◌+◌, ◌-◌, ◌^◌, List, [], ◌++◌, min}
use Rattle.script_run.specs.declared.counts.Counts.{Counts}
use Rattle.script_run.specs.declared.counts.Said.{Said}

-- ---- counts

abbrev pub no_counts : Counts
no_counts = record { lines = 0; cancelled = 0; rounds = 0; runs = 0; posts = 0 }

-- of one line, which counts as nothing else
abbrev pub line_counts : Counts
line_counts = record { lines = 1; cancelled = 0; rounds = 0; runs = 0; posts = 0 }

abbrev pub both : Counts → Counts → Counts
both a b = record {
  lines = a.lines + b.lines;
  cancelled = a.cancelled + b.cancelled;
  rounds = a.rounds + b.rounds;
  runs = a.runs + b.runs;
  posts = a.posts + b.posts;
}

-- as far as a number of 64 bits counts
abbrev pub capped : ℕ → ℕ
capped n = min n (2 ^ 64 - 1)

abbrev pub counted : Counts → Counts
counted a = record {
  lines = capped a.lines;
  cancelled = capped a.cancelled;
  rounds = capped a.rounds;
  runs = capped a.runs;
  posts = capped a.posts;
}

-- ---- what lines say

-- what a line prints that counts as a line and as nothing else
abbrev pub printed : List ℕ → Said
printed text = record { text = text; counts = line_counts }

-- no line says anything
abbrev pub nothing_said : Said
nothing_said = record { text = []; counts = no_counts }

-- the one, and then the other
abbrev pub said_then : Said → Said → Said
said_then a b = record { text = a.text ++ b.text; counts = both a.counts b.counts }
