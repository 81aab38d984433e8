-- Logs that go on, one behind another.
use Rattle.std.proofs.Common.{◌≡◌, List, [], ◌∷◌, ◌++◌, map, Some, None, refl, sym, ap, ◌∙◌, append_assoc, append-nil}
use Rattle.one_order.specs.Logs.{log_of}
use Rattle.one_order.specs.declared.logs.Log.{Log as LogLeft}
use Rattle.one_world.specs.Searches.{Log, Logs, and_logs}

-- those that have gone on, and those behind them
abbrev pub behind_front : List Log → Logs → Logs
behind_front done None = None
behind_front done (Some logs) = Some (done ++ logs)

pub front_none : (o : Logs) → behind_front [] o ≡ o
front_none None = refl
front_none (Some logs) = refl

pub front_more : (done : List Log) (l : Log) (o : Logs) → behind_front done (and_logs l o) ≡ behind_front (done ++ l ∷ []) o
front_more done l None = refl
front_more done l (Some logs) = ap Some (sym (append_assoc done (l ∷ []) logs))

pub front_end : (done : List Log) (o : Logs) → o ≡ Some [] → behind_front done o ≡ Some done
front_end done o e = ap (behind_front done) e ∙ ap Some (append-nil done)

-- a log more of those that have gone on
pub more_done : (done : List LogLeft) (x : LogLeft) → map log_of (done ++ x ∷ []) ≡ map log_of done ++ log_of x ∷ []
more_done [] x = refl
more_done (y ∷ done) x = ap (λ ls. log_of y ∷ ls) (more_done done x)

pub pushed : (done : List LogLeft) (x : LogLeft) (l : Log) (rest all : List Log) → map log_of done ++ l ∷ rest ≡ all → log_of x ≡ l → map log_of (done ++ x ∷ []) ++ rest ≡ all
pushed done x l rest all e is =
    ap (λ ls. ls ++ rest) (more_done done x ∙ ap (λ m. map log_of done ++ m ∷ []) is) ∙ append_assoc (map log_of done) (l ∷ []) rest ∙ e

pub gone_on : (done : List LogLeft) (x : LogLeft) (l : Log) (rest all : Logs) → behind_front (map log_of done) (and_logs l rest) ≡ all → log_of x ≡ l
    → behind_front (map log_of (done ++ x ∷ [])) rest ≡ all
gone_on done x l rest all e is =
    ap (λ ls. behind_front ls rest) (more_done done x ∙ ap (λ m. map log_of done ++ m ∷ []) is) ∙ sym (front_more (map log_of done) l rest) ∙ e
