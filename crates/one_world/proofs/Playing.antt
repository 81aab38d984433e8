-- A request that runs in place does what its log says, where all that it calls stands in the logs in the order in which it ends.
use Rattle.std.proofs.Common.{◌≡◌, ℕ, ◌+◌, Bool, true, false, not, ◌&&◌, List, [], ◌∷◌, ◌++◌, length, map, Option, Some, None, IsSomeAnd, inl, inr, refl, sym, ap, ◌∙◌, subst, append_assoc, append-nil, length-append}
use Rattle.std.proofs.lemmas.Bool.{cases_Bool}
use Rattle.lang_base.specs.Texts.{same_text}
use Rattle.lang_core.specs.HandedOn.{Route}
use Rattle.lang_core.specs.Traces.{dead_trace}
use Rattle.lang_core.specs.declared.ids.RequestId.{RequestId}
use Rattle.lang_core.specs.declared.request.Response.{Response}
use Rattle.lang_core.specs.declared.setting.Setting.{Setting}
use Rattle.lang_core.specs.declared.trace.CallMade.{CallMade}
use Rattle.lang_core.specs.declared.trace.Trace.{Trace}
use Rattle.handler_run.specs.Handlers.{run_of}
use Rattle.handler_run.specs.HandedOn.{with_program}
use Rattle.handler_run.specs.declared.state.Ran.{Ran}
use Rattle.handler_run.specs.declared.state.Ran.TheVariants.{Done, Wants}
use Rattle.execution.specs.Executions.{Act, Deed, History, deed_of, survives}
use Rattle.execution.specs.Together.{AreServed, IsLegalTogether, history_in, name_of}
use Rattle.one_world.specs.Certificates.{AreApart, AreNamed, numbers_at}
use Rattle.one_world.specs.OneWorld.{AreReplies, settings_of, tapes_of}
use Rattle.one_world.specs.Tapes.{Played, World, and_behind, at_call, at_service, ended, go_on, in_place, rows_at, said, setting_in, silent, with_writes}
use Rattle.one_world.specs.Trees.{AreCalled, Trees, none, tree, calls_of, deed_calls, id_of, setting_of}
use Rattle.one_world.proofs.Facts.{callee_serves, callee_there, dead_did, dead_numbers, lawful}
use Rattle.one_world.proofs.Fresh.{Fresh, NoneAt, end_order, none_ended, nothing_called}
use Rattle.one_world.proofs.Lists.{Has, each_has, if_false, if_true, numbers_append, numbers_here, same_cut, same_self}
use Rattle.one_world.proofs.Prefixes.{wants_next}
use Rattle.one_world.proofs.Stands.{AllStand, Stand, advance, histories, peek, setting_found, shown}

-- ---- the run of one request, step by step

-- its response is what is told
abbrev pub Responds : Act → Response → Type 0
Responds a r = IsSomeAnd a.did (λ d. d.response ≡ r)

responds_by : (did : Option Deed) (d : Deed) (r : Response) → did ≡ Some d → d.response ≡ r → IsSomeAnd did (λ x. x.response ≡ r)
responds_by None d r e f = absurd cc
responds_by (Some x) d r e f = (let is : x ≡ d = cc in ap (λ (y : Deed). y.response) is ∙ f)

-- a request responds in one way
one_response : (did : Option Deed) (q r : Response) → IsSomeAnd did (λ x. x.response ≡ q) → IsSomeAnd did (λ x. x.response ≡ r) → q ≡ r
one_response None q r e f = absurd e
one_response (Some x) q r e f = sym e ∙ f

call_is : (ran : Ran) (dest : List ℕ) (next : CallMade → Option Played) (slot : ℕ) (calls : List CallMade) (call c : CallMade) → ran ≡ Wants slot calls call → call ≡ c
    → c.dest ≡ dest → at_call ran dest next ≡ next c
call_is ran dest next slot calls call c e is to =
    let named : same_text call.dest dest ≡ true = subst (λ d. same_text d dest ≡ true) (sym (ap (λ (x : CallMade). x.dest) is ∙ to)) (same_self dest) in
    ap (λ x. at_call x dest next) e ∙ if_true (same_text call.dest dest) (next call) None named ∙ ap next is

-- with what one call and those behind it gave
abbrev pub joined : Played → Played → Played
joined p q = record { world = q.world; response = q.response; below = said p.response p.below q.below }

goes : (o : Option Played) (k : Played → Option Played) (p q : Played) → o ≡ Some p → k p ≡ Some q → go_on o k ≡ Some (joined p q)
goes o k p q e f = ap (λ x. go_on x k) e ∙ ap (λ x. and_behind p x) f

ends : (me : List ℕ) (w : World) (ran : Ran) (t : Trace) → ran ≡ Done t → ended me w ran ≡ Some (record { world = with_writes me t.writes w; response = t.response; below = silent })
ends me w ran t e = ap (λ x. ended me w x) e

struck_is : (o : Option Setting) (s : Setting) (program : List Route) (struck : Bool) (w : World) (next : Setting → Option Played) → o ≡ Some s → struck ≡ true
    → at_service o program struck w next ≡ Some (record { world = w; response = dead_trace.response; below = silent })
struck_is o s program struck w next e is = ap (λ x. at_service x program struck w next) e ∙ ap (λ b. at_service (Some s) program b w next) is

pub alive_is : (o : Option Setting) (s : Setting) (program : List Route) (struck : Bool) (w : World) (next : Setting → Option Played) → o ≡ Some s → struck ≡ false
    → at_service o program struck w next ≡ next (with_program program s)
alive_is o s program struck w next e is = ap (λ x. at_service x program struck w next) e ∙ ap (λ b. at_service (Some s) program b w next) is

-- ---- what survives

pub alive_struck : (w s : Bool) → (w && not s) ≡ true → s ≡ false
alive_struck true true h = absurd cc
alive_struck false true h = absurd cc
alive_struck w false h = refl

dead_struck : (w s : Bool) → s ≡ true → (w && not s) ≡ false
dead_struck true true e = refl
dead_struck false true e = refl
dead_struck w false e = absurd cc

wanted_alive : (w s : Bool) → w ≡ true → s ≡ false → (w && not s) ≡ true
wanted_alive true false e f = refl
wanted_alive true true e f = absurd cc
wanted_alive false s e f = absurd cc

pub end_alive : (h : History) (a : Act) (below behind : Trees) → survives a ≡ true → end_order (tree h a below behind) ≡ end_order below ++ id_of h a ∷ end_order behind
end_alive h a below behind e = if_true (survives a) (end_order below ++ id_of h a ∷ end_order behind) (end_order behind) e

end_dead : (h : History) (a : Act) (below behind : Trees) → survives a ≡ false → end_order (tree h a below behind) ≡ end_order behind
end_dead h a below behind e = if_false (survives a) (end_order below ++ id_of h a ∷ end_order behind) (end_order behind) e

silent_below : (t : Trees) → t ≡ none → AreReplies t silent
silent_below t e = subst (λ x. AreReplies x silent) (sym e) tt

-- the service of a request has its turn, where none of those before is of that service
own_next : (t : Trees) (h : History) (a : Act) (rest : List RequestId) → NoneAt (name_of h) t
    → numbers_at (name_of h) (end_order t ++ id_of h a ∷ rest) ≡ a.id ∷ numbers_at (name_of h) rest
own_next t h a rest clear =
    numbers_append (name_of h) (end_order t) (id_of h a ∷ rest)
    ∙ ap (λ ns. ns ++ numbers_at (name_of h) (id_of h a ∷ rest)) (none_ended t (name_of h) clear)
    ∙ numbers_here (name_of h) (id_of h a) rest (same_self (name_of h))

module _ (world : List History) where
  -- what a request comes to that runs in place on a world that so stands, and how the world stands then
  pub record Plays (t : Trees) (h : History) (a : Act) (given : List Response) (rest : List RequestId) (ps : List Stand) : Type 0 where
    pub played : Played
    pub runs : in_place (tapes_of t) (settings_of world) (setting_of h a) a.request a.inputs given (shown ps) ≡ Some played
    pub responds : Responds a played.response
    pub replies : AreReplies t played.below
    pub after : List Stand
    pub same : histories after ≡ world
    pub shows : played.world ≡ shown after
    pub all : AllStand rest after

  module _ (legal : IsLegalTogether world) (named : AreNamed world) where
    apart_names : (ps : List Stand) → histories ps ≡ world → AreApart (map name_of (histories ps))
    apart_names ps e = subst (λ hs. AreApart (map name_of hs)) (sym e) named.names

    apart_of : (h : History) → Has h world → AreApart (map (λ (a : Act). a.id) h.acts)
    apart_of h there = each_has (λ (g : History). AreApart (map (λ (a : Act). a.id) g.acts)) h world named.ids there

    -- behind its last call a request ends
    at_last : (h : History) (a : Act) (given : List Response) (rest : List RequestId) (ps : List Stand) → Has h world → history_in (name_of h) world ≡ Some h → Has a h.acts
        → survives a ≡ true → a.answers ≡ given → histories ps ≡ world → AllStand (id_of h a ∷ rest) ps → Plays none h a given rest ps
    at_last h a given rest ps there found logged alive all same stand =
        let on = advance (name_of h) h a rest ps refl stand (apart_names ps same) (subst (λ hs. history_in (name_of h) hs ≡ Some h) (sym same) found) (apart_of h there) logged in
        let t = on.trace in
        let run : run_of (setting_of h a) a.request a.inputs given (rows_at (name_of h) (shown ps)) ≡ Done t =
        subst (λ xs. run_of (setting_of h a) a.request a.inputs xs (rows_at (name_of h) (shown ps)) ≡ Done t) all (on.played.live alive) in
        record {
          played = record { world = with_writes (name_of h) t.writes (shown ps); response = t.response; below = silent };
          runs = ends (name_of h) (shown ps) (run_of (setting_of h a) a.request a.inputs given (rows_at (name_of h) (shown ps))) t run;
          responds = responds_by a.did (deed_of t) t.response on.played.did refl;
          replies = tt;
          after = on.after;
          same = on.same ∙ same;
          shows = sym on.shows;
          all = on.all;
        }

    -- a request goes on behind a call that was played
    behind_call : (g : History) (b : Act) (below behind : Trees) (h : History) (a : Act) (given : List Response) (rest : List RequestId) (ps : List Stand)
        (slot : ℕ) (calls : List CallMade) (call c : CallMade) → run_of (setting_of h a) a.request a.inputs given (rows_at (name_of h) (shown ps)) ≡ Wants slot calls call
        → call ≡ c → c.dest ≡ name_of g
        → (p : Played)
        → at_service (setting_in (name_of g) (settings_of world)) b.program b.struck (shown ps) (λ callee. in_place (tapes_of below) (settings_of world) callee c.request b.inputs [] (shown ps)) ≡ Some p
        → Responds b p.response → AreReplies below p.below → (later : List Stand) → p.world ≡ shown later
        → Plays behind h a (given ++ p.response ∷ []) rest later → Plays (tree g b below behind) h a given rest ps
    behind_call g b below behind h a given rest ps slot calls call c wants is to p played responds replies later shows on =
        let next : CallMade → Option Played = λ call. go_on
        (at_service (setting_in (name_of g) (settings_of world)) b.program b.struck (shown ps) (λ callee. in_place (tapes_of below) (settings_of world) callee call.request b.inputs [] (shown ps)))
        (λ q. in_place (tapes_of behind) (settings_of world) (setting_of h a) a.request a.inputs (given ++ q.response ∷ []) q.world) in
        let goes_so : in_place (tapes_of behind) (settings_of world) (setting_of h a) a.request a.inputs (given ++ p.response ∷ []) p.world ≡ Some on.played =
        ap (λ w. in_place (tapes_of behind) (settings_of world) (setting_of h a) a.request a.inputs (given ++ p.response ∷ []) w) shows ∙ on.runs in
        record {
          played = joined p on.played;
          runs = call_is (run_of (setting_of h a) a.request a.inputs given (rows_at (name_of h) (shown ps))) (name_of g) next slot calls call c wants is to
              ∙ goes _ (λ q. in_place (tapes_of behind) (settings_of world) (setting_of h a) a.request a.inputs (given ++ q.response ∷ []) q.world) p on.played played goes_so;
          responds = on.responds;
          replies = (responds, replies, on.replies);
          after = on.after;
          same = on.same;
          shows = on.shows;
          all = on.all;
        }

    -- the call to which a request comes whose turn it is
    pub record Comes (h : History) (a : Act) (given : List Response) (ps : List Stand) (c : CallMade) : Type 0 where
      pub slot : ℕ
      pub calls : List CallMade
      pub call : CallMade
      pub wants : run_of (setting_of h a) a.request a.inputs given (rows_at (name_of h) (shown ps)) ≡ Wants slot calls call
      pub is : call ≡ c

    comes : (h : History) (a : Act) (given : List Response) (ps : List Stand) (todo : List RequestId) (ns : List ℕ) (c : CallMade) (cs : List CallMade) (r : Response) (rs : List Response)
        (front : List CallMade) → Has h world → history_in (name_of h) world ≡ Some h → Has a h.acts → survives a ≡ true → a.answers ≡ given ++ r ∷ rs
        → calls_of a ≡ front ++ c ∷ cs → length front ≡ length given → histories ps ≡ world → AllStand todo ps → numbers_at (name_of h) todo ≡ a.id ∷ ns → Comes h a given ps c
    comes h a given ps todo ns c cs r rs front there found logged alive answers calls count same stand next =
        let pk = peek (name_of h) h a ns todo ps stand (subst (λ hs. history_in (name_of h) hs ≡ Some h) (sym same) found) (apart_of h there) logged next in
        let rows = rows_at (name_of h) (shown ps) in
        let run : run_of (setting_of h a) a.request a.inputs (given ++ r ∷ rs) rows ≡ Done pk.trace =
        subst (λ xs. run_of (setting_of h a) a.request a.inputs xs rows ≡ Done pk.trace) answers (pk.played.live alive) in
        let w = wants_next (setting_of h a) a.request a.inputs rows pk.trace rs given r run (sym pk.played.consumed ∙ answers) in
        let made : w.calls ++ w.call ∷ w.more ≡ front ++ c ∷ cs = sym w.made ∙ sym (ap deed_calls pk.played.did) ∙ calls in
        record { slot = w.slot; calls = w.calls; call = w.call; wants = w.wants; is = (same_cut w.calls w.call w.more front c cs made (w.count ∙ sym count)).0 }

    answers_on : (a : Act) (given : List Response) (q r : Response) (rs : List Response) → a.answers ≡ given ++ r ∷ rs → q ≡ r → a.answers ≡ (given ++ q ∷ []) ++ rs
    answers_on a given q r rs e f = e ∙ ap (λ x. given ++ x ∷ rs) (sym f) ∙ sym (append_assoc given (q ∷ []) rs)

    calls_on : (a : Act) (front : List CallMade) (c : CallMade) (cs : List CallMade) → calls_of a ≡ front ++ c ∷ cs → calls_of a ≡ (front ++ c ∷ []) ++ cs
    calls_on a front c cs e = e ∙ sym (append_assoc front (c ∷ []) cs)

    count_on : (front : List CallMade) (c : CallMade) (given : List Response) (q : Response) → length front ≡ length given → length (front ++ c ∷ []) ≡ length (given ++ q ∷ [])
    count_on front c given q e = length-append front (c ∷ []) ∙ ap (λ n. n + 1) e ∙ sym (length-append given (q ∷ []))

    pub plays : (t : Trees) (h : History) (a : Act) (ns : List ℕ) (cs : List CallMade) (rs given : List Response) (front : List CallMade) (rest : List RequestId) (ps : List Stand)
        → Has h world → history_in (name_of h) world ≡ Some h → Has a h.acts → survives a ≡ true → AreCalled t world (name_of h) ns cs → AreServed world (name_of h) ns cs rs
        → a.answers ≡ given ++ rs → calls_of a ≡ front ++ cs → length front ≡ length given → NoneAt (name_of h) t → Fresh t → histories ps ≡ world
        → AllStand (end_order t ++ id_of h a ∷ rest) ps → Plays t h a given rest ps
    plays none h a [] [] [] given front rest ps there found logged alive called served answers calls count clear fresh same stand =
        at_last h a given rest ps there found logged alive (answers ∙ append-nil given) same stand
    plays none h a [] [] (r ∷ rs) given front rest ps there found logged alive called served answers calls count clear fresh same stand = absurd served
    plays none h a [] (c ∷ cs) rs given front rest ps there found logged alive called served answers calls count clear fresh same stand = absurd called
    plays none h a (n ∷ ns) cs rs given front rest ps there found logged alive called served answers calls count clear fresh same stand = absurd called
    plays (tree g b below behind) h a [] cs rs given front rest ps there found logged alive called served answers calls count clear fresh same stand = absurd called
    plays (tree g b below behind) h a (n ∷ ns) [] rs given front rest ps there found logged alive called served answers calls count clear fresh same stand = absurd called
    plays (tree g b below behind) h a (n ∷ ns) (c ∷ cs) [] given front rest ps there found logged alive called served answers calls count clear fresh same stand = absurd served
    plays (tree g b below behind) h a (n ∷ ns) (c ∷ cs) (r ∷ rs) given front rest ps there found logged alive called served answers calls count clear fresh same stand =
        let at = callee_there world (name_of h) n c g b called.0 in
        let serves = callee_serves world (name_of h) n c r g b called.0 served.0 in
        let law = lawful world legal g at.world_has b at.logged in
        let come = comes h a given ps (end_order (tree g b below behind) ++ id_of h a ∷ rest) (numbers_at (name_of h) rest) c cs r rs front there found logged alive answers calls count same stand
        (own_next (tree g b below behind) h a rest clear) in
        let setting = setting_found (name_of g) world g at.found in
        elim (cases_Bool b.struck) [
          | inl struck ↦ (let dead = dead_struck b.wanted b.struck struck in
              let p : Played = record { world = shown ps; response = dead_trace.response; below = silent } in
              let says = responds_by b.did (deed_of dead_trace) dead_trace.response (dead_did world g b law dead) refl in
              let later : AllStand (end_order behind ++ id_of h a ∷ rest) ps = subst (λ xs. AllStand (xs ++ id_of h a ∷ rest) ps) (end_dead g b below behind dead) stand in
              behind_call g b below behind h a given rest ps come.slot come.calls come.call c come.wants come.is (sym at.named) p
              (struck_is _ g.setting b.program b.struck (shown ps) _ setting struck) says
              (silent_below below (nothing_called below world (name_of g) b.numbers (calls_of b) called.1 (dead_numbers world g b law dead))) ps refl
              (plays behind h a ns cs rs (given ++ dead_trace.response ∷ []) (front ++ c ∷ []) rest ps there found logged alive called.2 served.1
              (answers_on a given dead_trace.response r rs answers (one_response b.did dead_trace.response r says serves.response))
              (calls_on a front c cs calls) (count_on front c given dead_trace.response count) clear.2 fresh.2 same later))
          | inr free ↦ (let lives = wanted_alive b.wanted b.struck serves.wanted free in
              let all : AllStand (end_order below ++ id_of g b ∷ (end_order behind ++ id_of h a ∷ rest)) ps =
              subst (λ xs. AllStand xs ps)
              (ap (λ xs. xs ++ id_of h a ∷ rest) (end_alive g b below behind lives) ∙ append_assoc (end_order below) (id_of g b ∷ end_order behind) (id_of h a ∷ rest)) stand in
              let under = plays below g b b.numbers (calls_of b) b.answers [] [] (end_order behind ++ id_of h a ∷ rest) ps at.world_has at.found at.logged lives called.1 (law.served lives)
              refl refl refl fresh.0 fresh.1 same all in
              let runs : in_place (tapes_of below) (settings_of world) (setting_of g b) c.request b.inputs [] (shown ps) ≡ Some under.played =
              subst (λ q. in_place (tapes_of below) (settings_of world) (setting_of g b) q b.inputs [] (shown ps) ≡ Some under.played) serves.request under.runs in
              behind_call g b below behind h a given rest ps come.slot come.calls come.call c come.wants come.is (sym at.named) under.played
              (alive_is _ g.setting b.program b.struck (shown ps) _ setting free ∙ runs) under.responds under.replies under.after under.shows
              (plays behind h a ns cs rs (given ++ under.played.response ∷ []) (front ++ c ∷ []) rest under.after there found logged alive called.2 served.1
              (answers_on a given under.played.response r rs answers (one_response b.did under.played.response r under.responds serves.response))
              (calls_on a front c cs calls) (count_on front c given under.played.response count) clear.2 fresh.2 under.same under.all))
        ]
