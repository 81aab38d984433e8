use Rattle.std.specs.Prelude.{Bool}
use Rattle.std.proofs.Common.{◌≡◌, take, false, true, ⊎_elim}
use Rattle.std.proofs.lemmas.Result.{IfOk-weaker}
use Rattle.store_lines.specs.Readings.{BeginsAbove, IsMarkAbove}
use Rattle.store_lines.proofs.WindowLemmas.{begins_at_end, begins_in_front, begins_in_window, mark_at_end, no_mark_at_zero, no_mark_in_text}
use Rattle.store_lines.proofs.marks.begins_above.Goals as goal

pub returns-in_default-clause-no : goal.returns-in_default-clause-no
returns-in_default-clause-no c = λ _ begins.
    let bytes = c.args.bytes.now in
    no_mark_in_text c.args.lines (take c.min.result bytes) c.in_default.ensures.none (begins_in_front c.args.lines c.min.result bytes c.min.ensures begins)

pub returns-then-front-end-ne-LINE_END-clause-no : goal.returns-then-front-end-ne-LINE_END-clause-no
returns-then-front-end-ne-LINE_END-clause-no c = λ _ begins.
    let bytes = c.args.bytes.now in
    let front = take c.min.result bytes in
    let end = c.in-Some.end in
    no_mark_at_zero c.args.lines front end c.in-Some.ensures.within c.in-Some.ensures.front
    (⊎_elim (λ zeros. zeros) (λ ten. absurd (c.if-front-end-ne-LINE_END.true ten)) c.in-Some.ensures.ends)
    (begins_in_front c.args.lines c.min.result bytes c.min.ensures begins)

pub returns-clause-yes : goal.returns-clause-yes
returns-clause-yes c =
    let lines = c.args.lines in
    let bytes = c.args.bytes.now in
    let front = take c.min.result bytes in
    let end = c.in-Some.end in
    IfOk-weaker c.is_mark_above.result (λ (is : Bool). is ≡ true → IsMarkAbove lines (take end front)) (λ (is : Bool). is ≡ true → BeginsAbove lines bytes)
    (λ is above yes. begins_in_window lines 0 c.min.result bytes (begins_at_end lines front end c.in-Some.ensures.within c.if-front-end-ne-LINE_END.false (above yes)))
    c.is_mark_above.ensures.yes

pub returns-clause-no : goal.returns-clause-no
returns-clause-no c =
    let lines = c.args.lines in
    let bytes = c.args.bytes.now in
    let front = take c.min.result bytes in
    let end = c.in-Some.end in
    IfOk-weaker c.is_mark_above.result (λ (is : Bool). is ≡ false → IsMarkAbove lines (take end front) → ⊥) (λ (is : Bool). is ≡ false → BeginsAbove lines bytes → ⊥)
    (λ is none no begins.
    none no (mark_at_end lines front end c.in-Some.ensures.within c.in-Some.ensures.front c.if-front-end-ne-LINE_END.false (begins_in_front lines c.min.result bytes c.min.ensures begins)))
    c.is_mark_above.ensures.no
