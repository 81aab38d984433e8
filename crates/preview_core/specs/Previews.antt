-- What a preview of a repair is.
use Rattle.std.specs.Prelude.{ℕ, ◌≡◌, Bool, true, false, List, Option, Result, Ok, Err, MatchOption, find, nat_lt, option_map, slice_get}
use Rattle.std.specs.Option.{option_map_or}
use Rattle.lang_core.specs.declared.cells.Cell.{Cell}
use Rattle.local_repair.specs.Current.{rows_after}
use Rattle.journal_rows.specs.declared.verdict.Outstanding.{Outstanding}
use Rattle.journal_rows.specs.declared.verdict.Outstanding.TheVariants.{Flight as InFlight, Stale}
use Rattle.call_registers.specs.declared.register.Answer.{Answer}
use Rattle.call_registers.specs.declared.register.Register.{Register}
use Rattle.flights.specs.declared.flight.Flight.{Flight}
use Rattle.service_core.specs.Readings.{AreReplayed, first_stale}
use Rattle.service_events.specs.State.{Kept, base, or_else, unfolded}
use Rattle.preview_core.specs.Differences.{LeadsTo, difference}
use Rattle.preview_core.specs.Posts.{new_posts}
use Rattle.preview_core.specs.Repairs.{AreResponses, HaveRunAtMost, HaveRunUntilIdle, all_asks}
use Rattle.preview_core.specs.Trials.{AreTried, Tried}
use Rattle.preview_core.specs.declared.refused.PreviewRefused.{PreviewRefused}
use Rattle.preview_core.specs.declared.refused.PreviewRefused.TheVariants.{NoMemory, NotIdle, Order, Untimely}
use Rattle.preview_core.specs.declared.told.Preview.{Preview}
use Rattle.preview_core.specs.declared.trial.Trial.{Trial}

-- want of memory among the reasons of a refusal
abbrev pub preview_memory : PreviewRefused → Bool
preview_memory NoMemory = true
preview_memory why = false

-- ---- whether a repair can be tried

-- the first live request that waits for a call, by number, else the first stale entry, in logged order
abbrev pub not_idle : Kept → Option Outstanding
not_idle s = or_else (option_map (λ (f : Flight). InFlight f.id) (slice_get s.flights 0)) (option_map Stale (first_stale s))

-- a call holds an answer to a later version of it than its own
abbrev pub is_early : Register → Bool
is_early r = option_map_or (λ (a : Answer). nat_lt r.version a.version) r.answer false

-- the least number of such a call: registers stand by their numbers
abbrev pub untimely : Kept → Option ℕ
untimely s = option_map (λ (r : Register). r.number) (find is_early s.registers)

-- why no trial is made, if none is
abbrev pub not_ready : Kept → Option PreviewRefused
not_ready s = or_else (option_map NotIdle (not_idle s)) (option_map Untimely (untimely s))

-- ---- what is shown

-- the rows of a service
abbrev pub rows_of : Kept → List Cell
rows_of s = rows_after (base s) (unfolded s)

-- what repair steps on a service are: the entries that ran at them, and the service then
abbrev pub Steps : Type 1
Steps = Kept → List ℕ → Kept → Type 0

-- It shows what a service comes to that trials left and that then steps: the entries that ran, in order, with what they
-- answer then; the writes in which its rows differ from those of the service that was; and the posts that weren't outstanding of it.
pub record IsShown (Are : Steps) (was tried : Kept) (p : Preview) : Type 0 where
  pub ids : List ℕ
  pub now : Kept
  pub repaired : Are tried ids now
  pub ran : AreResponses now ids p.ran
  pub rows : p.rows ≡ difference (rows_of was) (rows_of now)
  pub posts : p.posts ≡ new_posts was now

-- by what the trials come to: a refusal of one is told with its place
abbrev pub Shows : Steps → Kept → Tried → Result Preview PreviewRefused → Type 0
Shows Are was (Ok tried) result = (p : Preview) × (result ≡ Ok p) × IsShown Are was tried p
Shows Are was (Err r) result = result ≡ Err (Order r.at r.refused)

-- what the trials of this user come to is shown
abbrev pub ShowsTrials : Steps → Kept → List Trial → List ℕ → Result Preview PreviewRefused → Type 0
ShowsTrials Are s trials who result = (out : Tried) × AreTried s.journal who 0 0 s trials out × Shows Are s out result

-- a service that isn't idle or isn't timely is refused before any trial
abbrev pub IsPreviewBy : Steps → Kept → List Trial → List ℕ → Result Preview PreviewRefused → Type 0
IsPreviewBy Are s trials who result = MatchOption (not_ready s) (ShowsTrials Are s trials who result) (λ why. result ≡ Err why)

-- where steps are made until one is idle
abbrev pub IsPreview : Kept → List Trial → List ℕ → Result Preview PreviewRefused → Type 0
IsPreview s trials who result = IsPreviewBy HaveRunUntilIdle s trials who result

-- where at most as many steps are made as there are entries that aren't folded
abbrev pub IsPreviewAtMost : Kept → List Trial → List ℕ → Result Preview PreviewRefused → Type 0
IsPreviewAtMost s trials who result = IsPreviewBy HaveRunAtMost s trials who result

-- ---- what follows

-- The writes shown lead, each where something else stands, from the rows to those of a replay: of what the log is to answer that the trials
-- left, behind its folded entries and from the rows that these left, where each record is what the replay did.
pub record IsReplayOf (was tried : Kept) (p : Preview) : Type 0 where
  pub now : Kept
  pub same : all_asks now ≡ all_asks tried
  pub replayed : AreReplayed now (unfolded now)
  pub rows : LeadsTo (rows_of was) (rows_of now) p.rows

-- so it is with trials that were accepted, each after those before it
pub record HasReplay (s : Kept) (trials : List Trial) (who : List ℕ) (p : Preview) : Type 0 where
  pub tried : Kept
  pub accepted : AreTried s.journal who 0 0 s trials (Ok tried)
  pub replay : IsReplayOf s tried p
