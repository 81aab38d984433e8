-- A world that stands in the middle of its histories: each service with its rows and what is left of its log.
use Rattle.std.proofs.Common.{◌≡◌, ℕ, true, false, List, [], ◌∷◌, ◌++◌, map, filter, Some, inl, inr, refl, sym, ap, ◌∙◌, subst, append_assoc, true≢false}
use Rattle.std.specs.List.{AllByRecursion}
use Rattle.std.proofs.lemmas.Bool.{cases_Bool}
use Rattle.lang_base.specs.Texts.{same_text}
use Rattle.lang_core.specs.Rows.{apply}
use Rattle.lang_core.specs.declared.cells.Cell.{Cell}
use Rattle.lang_core.specs.declared.ids.RequestId.{RequestId}
use Rattle.lang_core.specs.declared.setting.Setting.{Setting}
use Rattle.lang_core.specs.declared.trace.Trace.{Trace}
use Rattle.lang_core.specs.declared.writes.Write.{Write}
use Rattle.handler_chains.proofs.Finding.{text_is}
use Rattle.execution.specs.Executions.{Act, History, IsPlayed, IsReplay, Replays, survives}
use Rattle.execution.specs.Together.{history_in, name_of}
use Rattle.one_world.specs.Certificates.{AreApart, numbers_at, survivors}
use Rattle.one_world.specs.Tapes.{World, rows_at, setting_in, with_writes}
use Rattle.one_world.specs.OneWorld.{settings_of}
use Rattle.one_world.specs.Trees.{id_of}
use Rattle.one_world.specs.declared.rows.Rows.{Rows}
use Rattle.one_world.proofs.Lists.{Has, apart_ids, has_behind, if_false, if_true, numbers_here, numbers_there, same_apart, same_self}

pub record Stand : Type 0 where
  pub history : History
  pub rows : List Cell
  pub left : List Act

-- what is left replays from these rows to the last, and what survives of it stands in this order among what is to come
pub record Stands (todo : List RequestId) (p : Stand) : Type 0 where
  pub before : List Act
  pub within : p.history.acts ≡ before ++ p.left
  pub replays : Replays p.history.setting p.rows p.left p.history.rows
  pub next : survivors p.left ≡ numbers_at (name_of p.history) todo

abbrev pub AllStand : List RequestId → List Stand → Type 0
AllStand todo ps = AllByRecursion (Stands todo) ps

abbrev pub histories : List Stand → List History
histories ps = map (λ (p : Stand). p.history) ps

abbrev pub shown_one : Stand → Rows
shown_one p = record { service = name_of p.history; rows = p.rows }

-- the world as it stands
abbrev pub shown : List Stand → World
shown ps = map shown_one ps

-- ---- one service

-- the next request of a log that survives, and what it does
pub record Turn (setting : Setting) (rows : List Cell) (left : List Act) (last : List Cell) (n : ℕ) (ns : List ℕ) : Type 0 where
  pub act : Act
  pub number : act.id ≡ n
  pub trace : Trace
  pub played : IsPlayed setting rows act trace
  pub before : List Act
  pub later : List Act
  pub is : left ≡ before ++ act ∷ later
  pub replays : Replays setting (apply rows trace.writes) later last
  pub next : survivors later ≡ ns

numbers_alive : (a : Act) (acts : List Act) → survives a ≡ true → survivors (a ∷ acts) ≡ a.id ∷ survivors acts
numbers_alive a acts e = ap (λ xs. map (λ (b : Act). b.id) xs) (if_true (survives a) (a ∷ filter survives acts) (filter survives acts) e)

numbers_dead : (a : Act) (acts : List Act) → survives a ≡ false → survivors (a ∷ acts) ≡ survivors acts
numbers_dead a acts e = ap (λ xs. map (λ (b : Act). b.id) xs) (if_false (survives a) (a ∷ filter survives acts) (filter survives acts) e)

-- a request that doesn't survive leaves the rows
dead_rows : (setting : Setting) (rows : List Cell) (a : Act) (t : Trace) → IsPlayed setting rows a t → survives a ≡ false → apply rows t.writes ≡ rows
dead_rows setting rows a t played dead = ap (λ (x : Trace). apply rows x.writes) (played.dead dead)

earlier : {setting : Setting} {rows : List Cell} {left : List Act} {last : List Cell} {n : ℕ} {ns : List ℕ} (b : Act) → Turn setting rows left last n ns
    → Turn setting rows (b ∷ left) last n ns
earlier b t = record {
  act = t.act;
  number = t.number;
  trace = t.trace;
  played = t.played;
  before = b ∷ t.before;
  later = t.later;
  is = ap (λ xs. b ∷ xs) t.is;
  replays = t.replays;
  next = t.next;
}

pub turn : (setting : Setting) (left : List Act) (traces : List Trace) (rows last : List Cell) (n : ℕ) (ns : List ℕ) → IsReplay setting rows left traces last
    → survivors left ≡ n ∷ ns → Turn setting rows left last n ns
turn setting [] traces rows last n ns r e = absurd cc
turn setting (b ∷ left) [] rows last n ns r e = absurd r
turn setting (b ∷ left) (t ∷ traces) rows last n ns r e = elim (cases_Bool (survives b)) [
  | inl alive ↦ (let all : b.id ∷ survivors left ≡ n ∷ ns = sym (numbers_alive b left alive) ∙ e in
      let first : b.id ≡ n = cc in
      let rest : survivors left ≡ ns = cc in
      record { act = b; number = first; trace = t; played = r.0; before = []; later = left; is = refl; replays = record { traces = traces; replay = r.1 }; next = rest })
  | inr dead ↦ (let same = dead_rows setting rows b t r.0 dead in
      let on : IsReplay setting rows left traces last = subst (λ xs. IsReplay setting xs left traces last) same r.1 in
      earlier b (turn setting left traces rows last n ns on (sym (numbers_dead b left dead) ∙ e)))
]

-- where none survives the rows are the last
pub at_end : (setting : Setting) (left : List Act) (traces : List Trace) (rows last : List Cell) → IsReplay setting rows left traces last → survivors left ≡ []
    → rows ≡ last
at_end setting [] [] rows last r e = r
at_end setting [] (t ∷ traces) rows last r e = absurd r
at_end setting (b ∷ left) [] rows last r e = absurd r
at_end setting (b ∷ left) (t ∷ traces) rows last r e = elim (cases_Bool (survives b)) [
  | inl alive ↦ (let all : b.id ∷ survivors left ≡ [] = sym (numbers_alive b left alive) ∙ e in absurd cc)
  | inr dead ↦ (let same = dead_rows setting rows b t r.0 dead in
      at_end setting left traces rows last (subst (λ xs. IsReplay setting xs left traces last) same r.1) (sym (numbers_dead b left dead) ∙ e))
]

-- ---- whole worlds

found_first : (name : List ℕ) (g h : History) (world : List History) → same_text (name_of g) name ≡ true → history_in name (g ∷ world) ≡ Some h → g ≡ h
found_first name g h world is e = (let here : Some g ≡ Some h = sym (if_true (same_text (name_of g) name) (Some g) (history_in name world) is) ∙ e in cc)

found_later : (name : List ℕ) (g h : History) (world : List History) → same_text (name_of g) name ≡ false → history_in name (g ∷ world) ≡ Some h
    → history_in name world ≡ Some h
found_later name g h world isnt e = sym (if_false (same_text (name_of g) name) (Some g) (history_in name world) isnt) ∙ e

-- the setting of a service that is found
pub setting_found : (name : List ℕ) (world : List History) (h : History) → history_in name world ≡ Some h → setting_in name (settings_of world) ≡ Some h.setting
setting_found name [] h e = absurd cc
setting_found name (g ∷ world) h e = elim (cases_Bool (same_text (name_of g) name)) [
  | inl is ↦ if_true (same_text (name_of g) name) (Some g.setting) (setting_in name (settings_of world)) is ∙ ap (λ (x : History). Some x.setting) (found_first name g h world is e)
  | inr isnt ↦ if_false (same_text (name_of g) name) (Some g.setting) (setting_in name (settings_of world)) isnt ∙ setting_found name world h (found_later name g h world isnt e)
]

-- the request whose turn it is at the service of this name
pub record Peek (name : List ℕ) (h : History) (a : Act) (ps : List Stand) : Type 0 where
  pub trace : Trace
  pub played : IsPlayed h.setting (rows_at name (shown ps)) a trace

rows_first : (name : List ℕ) (p : Stand) (ps : List Stand) → same_text (name_of p.history) name ≡ true → rows_at name (shown (p ∷ ps)) ≡ p.rows
rows_first name p ps is = if_true (same_text (name_of p.history) name) p.rows (rows_at name (shown ps)) is

rows_later : (name : List ℕ) (p : Stand) (ps : List Stand) → same_text (name_of p.history) name ≡ false → rows_at name (shown (p ∷ ps)) ≡ rows_at name (shown ps)
rows_later name p ps isnt = if_false (same_text (name_of p.history) name) p.rows (rows_at name (shown ps)) isnt

-- the turn of a service is the turn of the request that has its number
own_turn : (p : Stand) (todo : List RequestId) (a : Act) (ns : List ℕ) → Stands todo p → AreApart (map (λ (b : Act). b.id) p.history.acts) → Has a p.history.acts
    → numbers_at (name_of p.history) todo ≡ a.id ∷ ns
    → (t : Turn p.history.setting p.rows p.left p.history.rows a.id ns) × (t.act ≡ a)
own_turn p todo a ns s apart logged next =
    let t = turn p.history.setting p.left s.replays.traces p.rows p.history.rows a.id ns s.replays.replay (s.next ∙ next) in
    let here : p.history.acts ≡ (s.before ++ t.before) ++ t.act ∷ t.later =
    s.within ∙ ap (λ xs. s.before ++ xs) t.is ∙ sym (append_assoc s.before t.before (t.act ∷ t.later)) in
    let there : Has t.act p.history.acts = subst (Has t.act) (sym here) (has_behind t.act (s.before ++ t.before) (t.act ∷ t.later) (inl refl)) in
    (t, apart_ids t.act a p.history.acts apart there logged t.number)

pub peek : (name : List ℕ) (h : History) (a : Act) (ns : List ℕ) (todo : List RequestId) (ps : List Stand) → AllStand todo ps → history_in name (histories ps) ≡ Some h
    → AreApart (map (λ (b : Act). b.id) h.acts) → Has a h.acts → numbers_at name todo ≡ a.id ∷ ns → Peek name h a ps
peek name h a ns todo [] all e apart logged next = absurd cc
peek name h a ns todo (p ∷ ps) all e apart logged next = elim (cases_Bool (same_text (name_of p.history) name)) [
  | inl is ↦ (let same = found_first name p.history h (histories ps) is e in
      let named = text_is (name_of p.history) name is in
      let t = own_turn p todo a ns all.0 (subst (λ (g : History). AreApart (map (λ (b : Act). b.id) g.acts)) (sym same) apart) (subst (λ (g : History). Has a g.acts) (sym same) logged)
      (subst (λ n. numbers_at n todo ≡ a.id ∷ ns) (sym named) next) in
      let mine : IsPlayed p.history.setting p.rows a t.0.trace = subst (λ (b : Act). IsPlayed p.history.setting p.rows b t.0.trace) t.1 t.0.played in
      let ours : IsPlayed h.setting p.rows a t.0.trace = subst (λ (g : History). IsPlayed g.setting p.rows a t.0.trace) same mine in
      record { trace = t.0.trace; played = subst (λ xs. IsPlayed h.setting xs a t.0.trace) (sym (rows_first name p ps is)) ours })
  | inr isnt ↦ (let later = peek name h a ns todo ps all.1 (found_later name p.history h (histories ps) isnt e) apart logged next in
      record { trace = later.trace; played = subst (λ xs. IsPlayed h.setting xs a later.trace) (sym (rows_later name p ps isnt)) later.played })
]

-- the world after the request whose turn it is
pub record Advanced (name : List ℕ) (h : History) (a : Act) (rest : List RequestId) (ps : List Stand) : Type 0 where
  pub trace : Trace
  pub played : IsPlayed h.setting (rows_at name (shown ps)) a trace
  pub after : List Stand
  pub all : AllStand rest after
  pub same : histories after ≡ histories ps
  pub shows : shown after ≡ with_writes name trace.writes (shown ps)

-- what comes next elsewhere stays
stays : (i : RequestId) (rest : List RequestId) (p : Stand) → ¬ (i.service ≡ name_of p.history) → Stands (i ∷ rest) p → Stands rest p
stays i rest p isnt s = record {
  before = s.before;
  within = s.within;
  replays = s.replays;
  next = s.next ∙ numbers_there (name_of p.history) i rest (same_apart i.service (name_of p.history) isnt);
}

all_stay : (i : RequestId) (rest : List RequestId) (ps : List Stand) → AllByRecursion (λ n. ¬ (i.service ≡ n)) (map name_of (histories ps)) → AllStand (i ∷ rest) ps → AllStand rest ps
all_stay i rest [] apart all = tt
all_stay i rest (p ∷ ps) apart all = (stays i rest p apart.0 all.0, all_stay i rest ps apart.1 all.1)

writes_first : (name : List ℕ) (ws : List Write) (p : Stand) (ps : List Stand) → same_text (name_of p.history) name ≡ true
    → with_writes name ws (shown (p ∷ ps)) ≡ record { service = name_of p.history; rows = apply p.rows ws } ∷ shown ps
writes_first name ws p ps is = if_true (same_text (name_of p.history) name) _ (shown_one p ∷ with_writes name ws (shown ps)) is

writes_later : (name : List ℕ) (ws : List Write) (p : Stand) (ps : List Stand) → same_text (name_of p.history) name ≡ false
    → with_writes name ws (shown (p ∷ ps)) ≡ shown_one p ∷ with_writes name ws (shown ps)
writes_later name ws p ps isnt = if_false (same_text (name_of p.history) name) _ (shown_one p ∷ with_writes name ws (shown ps)) isnt

pub advance : (name : List ℕ) (h : History) (a : Act) (rest : List RequestId) (ps : List Stand) → name_of h ≡ name → AllStand (id_of h a ∷ rest) ps
    → AreApart (map name_of (histories ps)) → history_in name (histories ps) ≡ Some h → AreApart (map (λ (b : Act). b.id) h.acts) → Has a h.acts
    → Advanced name h a rest ps
advance name h a rest [] mine all names e apart logged = absurd cc
advance name h a rest (p ∷ ps) mine all names e apart logged = elim (cases_Bool (same_text (name_of p.history) name)) [
  | inl is ↦ (let same = found_first name p.history h (histories ps) is e in
      let named = text_is (name_of p.history) name is in
      let next : numbers_at (name_of p.history) (id_of h a ∷ rest) ≡ a.id ∷ numbers_at (name_of p.history) rest =
      numbers_here (name_of p.history) (id_of h a) rest (subst (λ n. same_text n (name_of p.history) ≡ true) (named ∙ sym mine) (same_self (name_of p.history))) in
      let t = own_turn p (id_of h a ∷ rest) a (numbers_at (name_of p.history) rest) all.0 (subst (λ (g : History). AreApart (map (λ (b : Act). b.id) g.acts)) (sym same) apart)
      (subst (λ (g : History). Has a g.acts) (sym same) logged) next in
      let own : IsPlayed p.history.setting p.rows a t.0.trace = subst (λ (b : Act). IsPlayed p.history.setting p.rows b t.0.trace) t.1 t.0.played in
      let ours : IsPlayed h.setting p.rows a t.0.trace = subst (λ (g : History). IsPlayed g.setting p.rows a t.0.trace) same own in
      let stand : Stand = record { history = p.history; rows = apply p.rows t.0.trace.writes; left = t.0.later } in
      let first : Stands rest stand = record {
        before = all.0.before ++ (t.0.before ++ t.0.act ∷ []);
        within = all.0.within ∙ ap (λ xs. all.0.before ++ xs) (t.0.is ∙ sym (append_assoc t.0.before (t.0.act ∷ []) t.0.later)) ∙ sym (append_assoc all.0.before (t.0.before ++ t.0.act ∷ []) t.0.later);
        replays = t.0.replays;
        next = t.0.next;
      } in
      let others = all_stay (id_of h a) rest ps (subst (λ n. AllByRecursion (λ m. ¬ (n ≡ m)) (map name_of (histories ps))) (named ∙ sym mine) names.0) all.1 in
      record {
        trace = t.0.trace;
        played = subst (λ xs. IsPlayed h.setting xs a t.0.trace) (sym (rows_first name p ps is)) ours;
        after = stand ∷ ps;
        all = (first, others);
        same = refl;
        shows = sym (writes_first name t.0.trace.writes p ps is);
      })
  | inr isnt ↦ (let later = advance name h a rest ps mine all.1 names.1 (found_later name p.history h (histories ps) isnt e) apart logged in
      let other : ¬ (name_of h ≡ name_of p.history) = λ eq. true≢false (sym (subst (λ n. same_text n name ≡ true) (sym mine ∙ eq) (same_self name)) ∙ isnt) in
      record {
        trace = later.trace;
        played = subst (λ xs. IsPlayed h.setting xs a later.trace) (sym (rows_later name p ps isnt)) later.played;
        after = p ∷ later.after;
        all = (stays (id_of h a) rest p other all.0, later.all);
        same = ap (λ xs. p.history ∷ xs) later.same;
        shows = ap (λ xs. shown_one p ∷ xs) later.shows ∙ sym (writes_later name later.trace.writes p ps isnt);
      })
]
