-- A legal execution whose logs stand in the order of a certificate runs as one program.
use Rattle.std.proofs.Common.{◌≡◌, ℕ, List, [], ◌∷◌, map, Option, Some, refl, sym, ap, ◌∙◌, subst, nat_eq}
use Rattle.std.specs.List.{AllByRecursion}
use Rattle.std.proofs.lemmas.List.Elements.{recursion_from_All}
use Rattle.lang_base.specs.Texts.{same_text}
use Rattle.lang_core.specs.declared.ids.RequestId.{RequestId}
use Rattle.handler_chains.proofs.Finding.{text_is}
use Rattle.execution.specs.Executions.{Act, History, Replays}
use Rattle.execution.specs.Together.{IsLegalTogether, history_in, name_of}
use Rattle.one_world.specs.Certificates.{AreNamed, Passes, numbers_at, survivors}
use Rattle.one_world.specs.OneWorld.{AreReplies, Run, RunsAsOne, after_all, and_roots, before_all, next_root, run_roots, settings_of, tapes_of}
use Rattle.one_world.specs.Tapes.{Played, in_place, said, setting_in, silent}
use Rattle.one_world.specs.Trees.{AreRoots, IsRoot, Trees, none, tree, call_order, calls_of, requests_of}
use Rattle.one_world.proofs.Facts.{lawful}
use Rattle.one_world.proofs.Fresh.{Fresh, end_order, roots_fresh, same_orders}
use Rattle.one_world.proofs.Lists.{Has, has_found}
use Rattle.one_world.proofs.Playing.{alive_is, alive_struck, end_alive, plays}
use Rattle.one_world.proofs.Stands.{AllStand, Stand, at_end, histories, setting_found, shown}

next_is : (o : Option Played) (k : Played → Option Run) (p : Played) (r : Run) → o ≡ Some p → k p ≡ Some r
    → next_root o k ≡ Some (record { world = r.world; responses = said p.response p.below r.responses })
next_is o k p r e f = ap (λ x. next_root x k) e ∙ ap (λ x. and_roots p x) f

-- where a root is
pub record IsAt (world : List History) (h : History) (a : Act) : Type 0 where
  pub there : Has h world
  pub found : history_in (name_of h) world ≡ Some h
  pub logged : Has a h.acts

pub root_at : (world : List History) (id : RequestId) (h : History) (a : Act) → IsRoot world id h a → IsAt world h a
root_at world id h a root =
    let at = has_found (λ (g : History). same_text (name_of g) id.service) world h root.served in
    let named = text_is (name_of h) id.service at.1 in
    record {
      there = at.0;
      found = subst (λ (d : List ℕ). history_in d world ≡ Some h) (sym named) root.served;
      logged = (has_found (λ (b : Act). nat_eq b.id id.number) h.acts a root.logged).0;
    }

module _ (world : List History) (legal : IsLegalTogether world) (named : AreNamed world) where
  -- what roots come to, one after the other, on a world that so stands
  record RootsRun (t : Trees) (ps : List Stand) : Type 0 where
    run : Run
    runs : run_roots (tapes_of t) (settings_of world) (requests_of t) (shown ps) ≡ Some run
    replies : AreReplies t run.responses
    after : List Stand
    same : histories after ≡ world
    shows : run.world ≡ shown after
    all : AllStand [] after

  roots_run : (t : Trees) (order : List RequestId) (ps : List Stand) → AreRoots t world order → Fresh t → histories ps ≡ world → AllStand (end_order t) ps → RootsRun t ps
  roots_run none [] ps roots fresh same stand =
      record { run = record { world = shown ps; responses = silent }; runs = refl; replies = tt; after = ps; same = same; shows = refl; all = stand }
  roots_run none (id ∷ order) ps roots fresh same stand = absurd roots
  roots_run (tree h a below behind) [] ps roots fresh same stand = absurd roots
  roots_run (tree h a below behind) (id ∷ order) ps roots fresh same stand =
      let at = root_at world id h a roots.0 in
      let law = lawful world legal h at.there a at.logged in
      let free = alive_struck a.wanted a.struck roots.0.alive in
      let first = plays world legal named below h a a.numbers (calls_of a) a.answers [] [] (end_order behind) ps at.there at.found at.logged roots.0.alive roots.1
      (law.served roots.0.alive) refl refl refl fresh.0 fresh.1 same (subst (λ xs. AllStand xs ps) (end_alive h a below behind roots.0.alive) stand) in
      let later = roots_run behind order first.after roots.2 fresh.2 first.same first.all in
      let goes : run_roots (tapes_of behind) (settings_of world) (requests_of behind) first.played.world ≡ Some later.run =
      ap (λ w. run_roots (tapes_of behind) (settings_of world) (requests_of behind) w) first.shows ∙ later.runs in
      record {
        run = record { world = later.run.world; responses = said first.played.response first.played.below later.run.responses };
        runs = next_is _ (λ p. run_roots (tapes_of behind) (settings_of world) (requests_of behind) p.world) first.played later.run
            (alive_is (setting_in (name_of h) (settings_of world)) h.setting a.program a.struck (shown ps) (λ s. in_place (tapes_of below) (settings_of world) s a.request a.inputs [] (shown ps))
            (setting_found (name_of h) world h at.found) free ∙ first.runs) goes;
        replies = (first.responds, first.replies, later.replies);
        after = later.after;
        same = later.same;
        shows = later.shows;
        all = later.all;
      }

-- ---- how it begins, and how it ends

abbrev at_first : History → Stand
at_first h = record { history = h; rows = []; left = h.acts }

first_histories : (world : List History) → histories (map at_first world) ≡ world
first_histories [] = refl
first_histories (h ∷ world) = ap (λ hs. h ∷ hs) (first_histories world)

first_shown : (world : List History) → shown (map at_first world) ≡ before_all world
first_shown [] = refl
first_shown (h ∷ world) = ap (λ rs. record { service = name_of h; rows = [] } ∷ rs) (first_shown world)

first_stand : (todo : List RequestId) (world : List History) → AllByRecursion (λ (h : History). Replays h.setting [] h.acts h.rows) world
    → AllByRecursion (λ h. survivors h.acts ≡ numbers_at (name_of h) todo) world → AllStand todo (map at_first world)
first_stand todo [] replays logged = tt
first_stand todo (h ∷ world) replays logged =
    (record { before = []; within = refl; replays = replays.0; next = logged.0 }, first_stand todo world replays.1 logged.1)

last_shown : (ps : List Stand) → AllStand [] ps → shown ps ≡ after_all (histories ps)
last_shown [] all = refl
last_shown (p ∷ ps) all =
    let last = at_end p.history.setting p.left all.0.replays.traces p.rows p.history.rows all.0.replays.replay all.0.next in
    ap (λ rows. record { service = name_of p.history; rows = rows } ∷ shown ps) last
    ∙ ap (λ rs. record { service = name_of p.history; rows = p.history.rows } ∷ rs) (last_shown ps all.1)

in_end_order : (t : Trees) → Fresh t → (world : List History) → AllByRecursion (λ h. numbers_at (name_of h) (call_order t) ≡ survivors h.acts) world
    → AllByRecursion (λ h. survivors h.acts ≡ numbers_at (name_of h) (end_order t)) world
in_end_order t fresh [] logged = tt
in_end_order t fresh (h ∷ world) logged = (sym logged.0 ∙ same_orders t (name_of h) fresh, in_end_order t fresh world logged.1)

pub runs_as_one : (world : List History) → IsLegalTogether world → AreNamed world → (order : List RequestId) → Passes world order → RunsAsOne world order
runs_as_one world legal named order passes =
    let t = passes.trees in
    let fresh = roots_fresh world legal t order passes.roots in
    let replays = recursion_from_All (λ (h : History). Replays h.setting [] h.acts h.rows) world legal.alone.replayed in
    let all = first_stand (end_order t) world replays (in_end_order t fresh world passes.logged) in
    let r = roots_run world legal named t order (map at_first world) passes.roots fresh (first_histories world) all in
    record {
      trees = t;
      roots = passes.roots;
      run = r.run;
      runs = subst (λ w. run_roots (tapes_of t) (settings_of world) (requests_of t) w ≡ Some r.run) (first_shown world) r.runs;
      rows = r.shows ∙ last_shown r.after r.all ∙ ap after_all r.same;
      replies = r.replies;
    }
