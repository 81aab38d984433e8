-- What registers say of answers that were announced.
use Rattle.std.proofs.Common.{◌≡◌, ℕ, ◌<◌, ◌≤◌, true, false, List, Option, Some, None, IfSome, max, option_map, refl, sym, ap, ◌∙◌, subst, arith, ltb-true, ltb-false}
use Rattle.journal_rows.specs.Words.{seen_version, noted_version}
use Rattle.journal_rows.specs.declared.caller.NotedRow.{NotedRow}
use Rattle.journal_rows.specs.declared.caller.SawAnswerRow.{SawAnswerRow}
use Rattle.call_registers.specs.Registers.{held_version, is_news}
use Rattle.call_registers.specs.declared.register.Answer.{Answer}
use Rattle.call_registers.specs.declared.register.Register.{Register}
use Rattle.service_events.specs.Calls.{seen_answer}
use Rattle.service_events.specs.Fits.{HasNoted}

-- ---- the four fields together

pub record Notes : Type 0 where
  pub version : ℕ
  pub who : List ℕ
  pub rule : ℕ
  pub since : ℕ

abbrev pub notes_of : Register → Notes
notes_of r = record { version = r.noted; who = r.noted_who; rule = r.noted_rule; since = r.noted_since }

pub noted_same : (token : Option NotedRow) (x r : Register) → notes_of x ≡ notes_of r → HasNoted token r → HasNoted token x
noted_same None x r e h = (ap (λ (n : Notes). n.version) e ∙ h.0, ap (λ (n : Notes). n.rule) e ∙ h.1, ap (λ (n : Notes). n.since) e ∙ h.2)
noted_same (Some t) x r e h = (ap (λ (n : Notes). n.version) e ∙ h.0, ap (λ (n : Notes). n.who) e ∙ h.1, ap (λ (n : Notes). n.rule) e ∙ h.2)

-- ---- a version that is sent leaves them

-- a register says what the one before said, or, where there was none, that nothing was announced
abbrev pub KeepsNotes : Option Register → Register → Type 0
KeepsNotes None made = HasNoted None made
KeepsNotes (Some r) made = notes_of made ≡ notes_of r

-- what was announced last is what a register says, if there is one, and else nothing
abbrev pub StartsNoted : Option NotedRow → Option Register → Type 0
StartsNoted token None = token ≡ None
StartsNoted token (Some r) = HasNoted token r

pub notes_kept : (token : Option NotedRow) (o : Option Register) (made : Register) → KeepsNotes o made → StartsNoted token o → HasNoted token made
notes_kept token None made kept none = (let P : Option NotedRow → Type 0 = λ t. HasNoted t made in subst P (sym none) kept)
notes_kept token (Some r) made kept has = noted_same token made r kept has

-- ---- versions

pub noted_is : (token : Option NotedRow) (r : Register) → HasNoted token r → noted_version token ≡ r.noted
noted_is None r h = sym h.0
noted_is (Some t) r h = sym h.0

pub held_is : (o : Option Answer) (last : Option SawAnswerRow) → o ≡ option_map seen_answer last → seen_version last ≡ held_version o
held_is None None e = refl
held_is None (Some l) e = cc
held_is (Some x) None e = cc
held_is (Some x) (Some l) e = (let same : x ≡ seen_answer l = answer_is x (seen_answer l) e in sym (ap (λ (y : Answer). y.answer_version) same))
  where
    answer_is : (x y : Answer) → Some x ≡ Some y → x ≡ y
    answer_is x y e = cc

-- what is news is above what was announced and what was seen
pub news_above : (r : Register) (v : ℕ) (token : Option NotedRow) (last : Option SawAnswerRow) → HasNoted token r → r.answer ≡ option_map seen_answer last
    → is_news r v ≡ true → (noted_version token < v) × (seen_version last < v)
news_above r v token last noted answer new =
    let one = noted_is token r noted in
    let two = held_is r.answer last answer in
    let less = ltb-true (max (held_version r.answer) r.noted) v new in
    (omega (arith, one, less), omega (arith, two, less))

-- and what isn't, is at most one of them
pub no_news_below : (r : Register) (v : ℕ) (token : Option NotedRow) (last : Option SawAnswerRow) → HasNoted token r → r.answer ≡ option_map seen_answer last
    → is_news r v ≡ false → v ≤ max (seen_version last) (noted_version token)
no_news_below r v token last noted answer old =
    let one = noted_is token r noted in
    let two = held_is r.answer last answer in
    let most = ltb-false (max (held_version r.answer) r.noted) v old in
    omega (arith, one, two, most)

-- what an answer that is seen later is above stays below it
pub told_more : (confirmed v noted : ℕ) (last : Option SawAnswerRow) → IfSome last (λ l. l.answer_version < v) → confirmed ≤ max (seen_version last) noted
    → confirmed ≤ max v noted
told_more confirmed v noted None newer told = omega (arith, told)
told_more confirmed v noted (Some l) newer told = omega (arith, newer, told)
