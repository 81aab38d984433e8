-- How serving ends, by what its words name, and what follows for it.
use Rattle.std.specs.Option.{ForSome}
use Rattle.std.proofs.Common.{◌≡◌, ◌⊎◌, ◌∙◌, ℕ, inl, inr, List, [], All, Option, Some, None, Ok, Err, IfSome, codes, refl, ap, sym, subst}
use Rattle.std.proofs.lemmas.List.{append-nil}
use Rattle.io_edge.specs.Edge.{Reads, Writes}
use Rattle.io_edge.specs.Files.{LoadFails, Loads}
use Rattle.command_ends.specs.Ends.{unread_line, usage_line}
use Rattle.journal_rows.specs.declared.verdict.Verdict.{Verdict}
use Rattle.journal_rows.specs.declared.verdict.Verdict.TheVariants.{Legal}
use Rattle.service_events.specs.Allowed.{IsAllowed}
use Rattle.world_agreement.specs.Legal.{AreLegal}
use Rattle.world_file.specs.Numbers.{refusal_text}
use Rattle.world_file.specs.declared.setup.Setup.{Setup}
use Rattle.node_run.specs.HandedOn.{IsWhole}
use Rattle.aire_top.specs.Causes.{what_of}
use Rattle.aire_top.specs.Closings.{Closes, ClosesWorldless}
use Rattle.aire_top.specs.Commands.{IsDone}
use Rattle.aire_top.specs.Ended.{Ending, Faults, Whose, plain}
use Rattle.aire_top.specs.Endings.{Answer, Asked, Outside, nothing, outside, world_line}
use Rattle.aire_top.specs.Serves.{ServeEnds}
use Rattle.aire_top.specs.Serving.{IsGoodServe, LoadEnds, NotServed, ServingEnds, serve_misfit, serve_words}
use Rattle.aire_top.specs.Top.{Is, Words, world_path, world_told, world_word}
use Rattle.aire_top.specs.declared.loading.NoWorld.{NoWorld}
use Rattle.aire_top.specs.declared.loading.NoWorld.TheVariants.{NoMemory, Failed as LoadFailed, TooLong, Refused}
use Rattle.aire_top.proofs.Runs.{IsFor, some_none, stands_refused}
use Rattle.aire_top.proofs.ServeLaws.{ends_allowed, ends_legal, ends_well, ends_whole}

-- ---- the words

pub not_fitting : (words : List (List ℕ)) (place : ℕ) (loads : Loads) (reads : Reads) (writes now : Writes) (a : Answer) → serve_misfit words ≡ Some place → Closes writes now (nothing 2) (usage_line place) a
    → LoadEnds (serve_words words) (outside loads reads writes) (outside loads reads now) a
not_fitting words place loads reads writes now a at (inl good) =
    inl (record { place = place; at_word = at; answered = good.0; ends = good.1; asked = sym (append-nil loads.asked); input = refl })
not_fitting words place loads reads writes now a at (inr lacks) = inr (inr (inr lacks))

-- ---- the world

-- as loading is told of words that fit
abbrev pub for_world : List ℕ → Words
for_world world = record { misfit = None; world = world; script = [] }

words_fit : (words : List (List ℕ)) (world : List ℕ) → serve_misfit words ≡ None → world_word words ≡ world → serve_words words ≡ for_world world
words_fit words world fit is =
    ap (λ (o : Option ℕ). record { misfit = o; world = world_word words; script = [] }) fit ∙ ap (λ (w : List ℕ). record { misfit = None; world = w; script = [] }) is

refused_world : (world what : List ℕ) (loads mid : Loads) (reads : Reads) (writes now : Writes) (a : Answer) → Is (world_told loads.files world) (Err what) → Asked loads mid (world_path world) → Closes writes now (nothing 3) (world_line what) a
    → LoadEnds (for_world world) (outside loads reads writes) (outside mid reads now) a
refused_world world what loads mid reads writes now a is asked (inl good) =
    inr (inl (record { fit = refl; what = what; refused = is; answered = good.0; ends = good.1; asked = asked; input = refl }))
refused_world world what loads mid reads writes now a is asked (inr lacks) = inr (inr (inr lacks))

unread_world : (world : List ℕ) (loads mid : Loads) (reads : Reads) (writes now : Writes) (a : Answer) → LoadFails loads mid → Asked loads mid (world_path world) → Closes writes now (nothing 4) unread_line a
    → LoadEnds (for_world world) (outside loads reads writes) (outside mid reads now) a
unread_world world loads mid reads writes now a fails asked (inl good) =
    inr (inr (inl (record { fit = refl; answered = good.0; ends = good.1; cause = record { asked = asked; input = refl; fault = fails } })))
unread_world world loads mid reads writes now a fails asked (inr lacks) = inr (inr (inr lacks))

no_world : {X : Type 0} (why : NoWorld) (world : List ℕ) (loads mid : Loads) (reads : Reads) (writes now : Writes) (a : Answer) → ForSome (what_of why) (λ what. Is (world_told loads.files world) (Err what))
    → (¬ (IsFor X why NoMemory) → Asked loads mid (world_path world)) → (IsFor X why LoadFailed → LoadFails loads mid) → ClosesWorldless why writes now a → LoadEnds (for_world world) (outside loads reads writes) (outside mid reads now) a
no_world NoMemory world loads mid reads writes now a is asked fails ends = inr (inr (inr ends))
no_world LoadFailed world loads mid reads writes now a is asked fails ends = unread_world world loads mid reads writes now a (fails refl) (asked (λ e. cc)) ends
no_world TooLong world loads mid reads writes now a is asked fails ends = refused_world world (codes "8") loads mid reads writes now a (is (codes "8") refl) (asked (λ e. cc)) ends
no_world (Refused why) world loads mid reads writes now a is asked fails ends = refused_world world (refusal_text why) loads mid reads writes now a (is (refusal_text why) refl) (asked (λ e. cc)) ends

module _ (words : List (List ℕ)) (world : List ℕ) (fit : serve_misfit words ≡ None) (is : world_word words ≡ world) (earlier later : Faults) (loads mid : Loads) (reads : Reads) (writes now : Writes) (e : Ending) where
  -- the services of a world were served
  pub world_served : (setups : List Setup) → Is (world_told loads.files world) (Ok setups) → Asked loads mid (world_path world) → ServeEnds setups earlier later writes now e
      → ServingEnds words earlier later (outside loads reads writes) (outside mid reads now) e
  world_served setups told asked ended =
      let W : List ℕ → Type 0 = λ w. Is (world_told loads.files w) (Ok setups) in
      let A : List ℕ → Type 0 = λ w. Asked loads mid (world_path w) in
      inl (record { fit = fit; setups = setups; world = subst W (sym is) told; asked = subst A (sym is) asked; input = refl; ended = ended })

  -- there is no world to be served
  pub world_not_served : (X : Type 0) (why : NoWorld) (a : Answer) → e ≡ plain a → ForSome (what_of why) (λ what. Is (world_told loads.files world) (Err what)) → (¬ (IsFor X why NoMemory) → Asked loads mid (world_path world))
      → (IsFor X why LoadFailed → LoadFails loads mid) → ClosesWorldless why writes now a → ServingEnds words earlier later (outside loads reads writes) (outside mid reads now) e
  world_not_served X why a same told asked fails ends =
      let P : Words → Type 0 = λ x. LoadEnds x (outside loads reads writes) (outside mid reads now) a in
      inr (a, same, subst P (sym (words_fit words world fit is)) (no_world {X = X} why world loads mid reads writes now a told asked fails ends))

-- ---- what follows

answers_none : (words : Words) (before now : Outside) (a : Answer) → LoadEnds words before now a → a.verdict ≡ None
answers_none words before now a (inl misused) = ap (λ (x : Answer). x.verdict) misused.answered
answers_none words before now a (inr (inl none)) = ap (λ (x : Answer). x.verdict) none.answered
answers_none words before now a (inr (inr (inl unread))) = ap (λ (x : Answer). x.verdict) unread.answered
answers_none words before now a (inr (inr (inr lacks))) = ap (λ (x : Answer). x.verdict) lacks.answered

no_verdict : (words : List (List ℕ)) (before now : Outside) (e : Ending) → NotServed words before now e → e.verdict ≡ None
no_verdict words before now e none = ap (λ (x : Ending). x.verdict) none.1 ∙ answers_none (serve_words words) before now none.0 none.2

pub serving_legal : (words : List (List ℕ)) (earlier later : Faults) (before now : Outside) (e : Ending) → ServingEnds words earlier later before now e → e.verdict ≡ Some Legal → AreLegal e.services
serving_legal words earlier later before now e (inl has) = ends_legal has.setups earlier later before.writes now.writes e has.ended
serving_legal words earlier later before now e (inr none) = λ legal. absurd (some_none e.verdict Legal (no_verdict words before now e none) legal)

pub serving_allowed : (words : List (List ℕ)) (earlier later : Faults) (before now : Outside) (e : Ending) → ServingEnds words earlier later before now e → (v : Verdict) → e.verdict ≡ Some v → All IsAllowed e.services
serving_allowed words earlier later before now e (inl has) v is = ends_allowed has.setups earlier later before.writes now.writes e has.ended v is
serving_allowed words earlier later before now e (inr none) v is = absurd (some_none e.verdict v (no_verdict words before now e none) is)

pub serving_whole : (words : List (List ℕ)) (earlier later : Faults) (before now : Outside) (e : Ending) → ServingEnds words earlier later before now e → (w : Whose) → e.last ≡ Some w → IsWhole e.services e.receipts
serving_whole words earlier later before now e (inl has) w is = ends_whole has.setups earlier later before.writes now.writes e has.ended w is
serving_whole words earlier later before now e (inr none) w is = absurd (some_none e.last w (ap (λ (x : Ending). x.last) none.1) is)

load_well : (words : List (List ℕ)) (earlier later : Faults) (before now : Outside) (a : Answer) → IsGoodServe words earlier later before now → LoadEnds (serve_words words) before now a → a.status ≡ 6
load_well words earlier later before now a good (inl misused) = absurd (some_none (serve_misfit words) misused.place good.fit misused.at_word)
load_well words earlier later before now a good (inr (inl none)) = absurd (stands_refused good.setups none.what (Ok good.setups) (Err none.what) refl refl (none.refused (Some (Ok good.setups)) good.world))
load_well words earlier later before now a good (inr (inr (inl unread))) = absurd (good.loads unread.cause.fault)
load_well words earlier later before now a good (inr (inr (inr lacks))) = ap (λ (x : Answer). x.status) lacks.answered

pub serving_well : (words : List (List ℕ)) (earlier later : Faults) (before now : Outside) (e : Ending) → IsGoodServe words earlier later before now → ServingEnds words earlier later before now e → IsDone e.status ⊎ (e.status ≡ 9)
serving_well words earlier later before now e good (inl has) = ends_well has.setups earlier later before.writes now.writes e has.ended good.doors good.starts good.writes
serving_well words earlier later before now e good (inr none) = inl (inr (ap (λ (x : Ending). x.status) none.1 ∙ load_well words earlier later before now none.0 good none.2))

-- ---- of what a call answers

pub if_verdict : (verdict : Option Verdict) (P : Type 0) → ((v : Verdict) → verdict ≡ Some v → P) → IfSome verdict (λ _. P)
if_verdict None P gives = tt
if_verdict (Some v) P gives = gives v refl
