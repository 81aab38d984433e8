-- An event that goes on behind the horizon: its rows fold nothing and say nothing of the calls of folded entries, and these entries stay. What
-- was told of them holds still.
use Rattle.std.proofs.Common.{◌≡◌, ℕ, ◌≤◌, List, [], ◌∷◌, ◌++◌, Option, Some, None, IsSomeAnd, length, map, option_map, refl, sym, ap, ◌∙◌, subst, append-nil, append_assoc}
use Rattle.std.specs.List.{last_or}
use Rattle.lang_core.specs.declared.cells.Cell.{Cell}
use Rattle.lang_core.specs.declared.setting.Setting.{Setting}
use Rattle.request_log.specs.Records.{Record, record_of}
use Rattle.request_log.specs.declared.entry.Entry.{Entry}
use Rattle.local_repair.specs.Histories.{ReplayAsKept}
use Rattle.journal_rows.specs.Words.{last_folded}
use Rattle.journal_rows.specs.declared.row.Row.{Row}
use Rattle.call_registers.specs.Registers.{register}
use Rattle.service_events.specs.Fits.{Fits, FitsHorizon, FitsSeen, FitsSent, IsDoneWith, IsPast}
use Rattle.service_events.specs.State.{Kept, answers, base, folded}
use Rattle.service_events.proofs.BehindLemmas.{FoldsNone, IsPastNumber, LeavesCall, each_both, last_folded_same, past_numbers, stays_done}
use Rattle.service_events.proofs.CallRowLemmas.{Each, all_of_each, each_append, each_of_all, each_weaker}

pub record GoesBehind (s t : Kept) : Type 0 where
  pub rows : List Row
  pub is : t.journal ≡ s.journal ++ rows
  pub none : Each FoldsNone rows
  pub leaves : (n : ℕ) → IsPastNumber s n → Each (LeavesCall n) rows
  pub folded : folded t ≡ folded s
  pub base : t.base ≡ s.base
  pub horizon : t.horizon ≡ s.horizon
  pub within : t.horizon ≤ length t.entries
  pub setting : t.setting ≡ s.setting

pub behind_same : (s : Kept) → s.horizon ≤ length s.entries → GoesBehind s s
behind_same s within = record {
  rows = [];
  is = sym (append-nil s.journal);
  none = tt;
  leaves = λ n p. tt;
  folded = refl;
  base = refl;
  horizon = refl;
  within = within;
  setting = refl;
}

-- rows more, and entries, registers and replies that change behind the horizon
pub behind_then : (s m t : Kept) (rows : List Row) → GoesBehind s m → t.journal ≡ m.journal ++ rows → Each FoldsNone rows
    → ((n : ℕ) → IsPastNumber s n → Each (LeavesCall n) rows) → folded t ≡ folded m → t.base ≡ m.base → t.horizon ≡ m.horizon → t.horizon ≤ length t.entries
    → t.setting ≡ m.setting → GoesBehind s t
behind_then s m t rows g is none leaves stay base horizon within setting = record {
  rows = g.rows ++ rows;
  is = is ∙ ap (λ j. j ++ rows) g.is ∙ append_assoc s.journal g.rows rows;
  none = each_append FoldsNone g.rows rows g.none none;
  leaves = λ n p. each_append (LeavesCall n) g.rows rows (g.leaves n p) (leaves n p);
  folded = stay ∙ g.folded;
  base = base ∙ g.base;
  horizon = horizon ∙ g.horizon;
  within = within;
  setting = setting ∙ g.setting;
}

some_weaker : {X : Type 0} (o : Option X) (P Q : X → Type 0) → ((x : X) → P x → Q x) → IsSomeAnd o P → IsSomeAnd o Q
some_weaker None P Q w h = h
some_weaker (Some x) P Q w h = w x h

answers_same : (s t : Kept) (ns : List ℕ) → Each (λ n. answers t n ≡ answers s n) ns → map (answers t) ns ≡ map (answers s) ns
answers_same s t [] h = refl
answers_same s t (n ∷ ns) h = (let rest = answers_same s t ns h.1 in (λ i. h.0 i ∷ rest i))

-- what was told of the folded entries holds still
pub behind_fits : (s t : Kept) → Fits s → FitsSent t.journal t.registers → FitsSeen t.journal t.registers → GoesBehind s t → FitsHorizon t
behind_fits s t f sent seen g = record {
  within = g.within;
  last = ap (λ l. option_map (λ (e : Entry). e.id) (last_or None l)) g.folded ∙ f.horizon.last
      ∙ sym (ap last_folded g.is ∙ last_folded_same s.journal g.rows g.none);
  each = (let P : List Entry → Type 0 = λ l. Each (IsPast t) l in all_of_each (IsPast t) (folded t) (subst P (sym g.folded) still));
  replayed = (let E : List Entry → Type 0 = λ l. ReplayAsKept t.setting l (base t) in
      let B : List Cell → Type 0 = λ b. ReplayAsKept t.setting (folded s) b in
      let S : Setting → Type 0 = λ k. ReplayAsKept k (folded s) (base s) in
      subst E (sym g.folded) (subst B (sym g.base) (subst S (sym g.setting) f.horizon.replayed)));
}
  where
    stays : (n : ℕ) → IsPastNumber s n → IsSomeAnd (register n t.registers) IsDoneWith × (answers t n ≡ answers s n)
    stays n p = stays_done s t g.rows n f.sent f.seen sent seen g.is (g.leaves n p) p.done

    one : (e : Entry) → Each (IsPastNumber s) e.slots → IsPast s e → IsPast t e
    one e numbers past = record {
      bare = past.bare;
      calls = all_of_each (λ n. IsSomeAnd (register n t.registers) IsDoneWith) e.slots
          (each_weaker (IsPastNumber s) (λ n. IsSomeAnd (register n t.registers) IsDoneWith) (λ n p. (stays n p).0) e.slots numbers);
      consumed = (let same = answers_same s t e.slots (each_weaker (IsPastNumber s) (λ n. answers t n ≡ answers s n) (λ n p. (stays n p).1) e.slots numbers) in
          some_weaker (record_of e) (λ (r : Record). r.answers ≡ map (answers s) e.slots) (λ (r : Record). r.answers ≡ map (answers t) e.slots) (λ r is. is ∙ sym same) past.consumed);
    }

    still : Each (IsPast t) (folded s)
    still = each_both (λ (e : Entry). Each (IsPastNumber s) e.slots) (IsPast s) (IsPast t) one (folded s) (past_numbers s f) (each_of_all (IsPast s) (folded s) f.horizon.each)
