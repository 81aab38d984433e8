-- What an event's answer tells of the order that it wrote.
use Rattle.std.proofs.Common.{◌≡◌, ◌+◌, ◌++◌, ◌∷◌, [], ℕ, List, Option, Some, None, Result, Ok, Err, MatchOption, length, slice_get, refl, sym, ap, ◌∙◌, subst, arith, length-append}
use Rattle.std.proofs.lemmas.List.Elements.{filter-append}
use Rattle.lang_core.specs.declared.inputs.Inputs.{Inputs}
use Rattle.journal_rows.specs.Words.{ordered}
use Rattle.journal_rows.specs.declared.orders.Command.{Command}
use Rattle.journal_rows.specs.declared.orders.Command.TheVariants.{Cancel, Restore, Replace, Create, Retry, Fold, Deploy, Correct, Rules}
use Rattle.journal_rows.specs.declared.orders.OrderedRow.{OrderedRow}
use Rattle.journal_rows.specs.declared.row.Row.{Row}
use Rattle.journal_rows.specs.declared.row.Row.TheVariants.{Ordered}
use Rattle.service_events.specs.Doing.{order_memory, Does}
use Rattle.service_events.specs.Event.{Happens}
use Rattle.service_events.specs.Orders.{about, asked_rows, order_by, order_event, order_rows, order_rule, order_where, original, refused, repaired}
use Rattle.service_events.specs.State.{After, Kept, after, me}
use Rattle.service_events.specs.declared.answers.Ordered.{Ordered as OrderAnswer}
use Rattle.service_events.specs.declared.event.Done.{Done}
use Rattle.service_events.specs.declared.event.Done.TheVariants as done
use Rattle.service_events.specs.declared.event.Event.{Event}
use Rattle.service_events.specs.declared.event.Event.TheVariants as events
use Rattle.service_events.specs.declared.refusals.OrderRefused.{OrderRefused}
use Rattle.service_events.specs.declared.refusals.OrderRefused.TheVariants.{NoMemory}
use Rattle.service_events.proofs.CallRowLemmas.{Each, IsUnordered}
use Rattle.service_events.proofs.LiveRows.{got_behind}
use Rattle.service_events.proofs.OrderLaws.{same_journal}
use Rattle.service_core.specs.Answers.{Answers}
use Rattle.node_core.specs.Memos.{count_of}
use Rattle.node_core.specs.Orders.{is_order_row, note_at, note_if_ordered, order_note, order_written, ordered_rows, with_note, NotesOrder, WritesOrder}
use Rattle.node_core.specs.declared.orders.OrderNote.{OrderNote}
use Rattle.node_core.proofs.OrderRowLaws.{event_orders_none, unordered_none}

-- nothing stands behind the last row
none_past : {X : Type 0} (xs : List X) → slice_get xs (length xs) ≡ None
none_past [] = refl
none_past (x ∷ xs) = none_past xs

-- where nothing changed, no order was written
none_noted : (s t : Kept) → t ≡ s → note_at (me t) (length s.journal) t.journal ≡ None
none_noted s t same = subst (λ (k : Kept). note_at (me k) (length s.journal) k.journal ≡ None) (sym same) (rw (none_past s.journal) refl)

module _ (s t : Kept) (command : Command) (token who : List ℕ) (i : Inputs) where
  abbrev Order : Event
  Order = events.Order command token who i

  -- the row that it writes
  abbrev row : OrderedRow
  row = record {
    token = token;
    command = command;
    who = who;
    rule = order_rule s command who;
    original = original s command;
    repaired = repaired s command;
    about = about s command;
  }

  -- what it comes to: its row and that of the entry that it makes come behind those of before, where it is accepted and its token is new; else nothing changed
  abbrev IsWritten : Type 0
  IsWritten = t.journal ≡ s.journal ++ order_rows s command token who i

  abbrev Comes : Option OrderedRow → Result OrderAnswer OrderRefused → Type 0
  Comes known (Ok answer) = MatchOption known IsWritten (λ (o : OrderedRow). t ≡ s)
  Comes known (Err why) = t ≡ s

  comes_by : (why : Option OrderRefused) (result : Result OrderAnswer OrderRefused) → after t result ≡ order_by s command token who i why → Comes None result
  comes_by (Some why) (Ok answer) is = (let answers = ap (λ (a : After (Result OrderAnswer OrderRefused)). a.answer) is in cc)
  comes_by (Some why) (Err other) is = ap (λ (a : After (Result OrderAnswer OrderRefused)). a.service) is
  comes_by None (Ok answer) is =
      ap (λ (a : After (Result OrderAnswer OrderRefused)). a.service.journal) is ∙ ap (λ (j : List Row). j ++ order_rows s command token who i) (same_journal s command who i)
  comes_by None (Err other) is = (let answers = ap (λ (a : After (Result OrderAnswer OrderRefused)). a.answer) is in cc)

  comes_where : (known : Option OrderedRow) (result : Result OrderAnswer OrderRefused) → after t result ≡ order_where s command token who i known → Comes known result
  comes_where None result is = comes_by (refused s command who) result is
  comes_where (Some o) (Ok answer) is = ap (λ (a : After (Result OrderAnswer OrderRefused)). a.service) is
  comes_where (Some o) (Err why) is = (let answers = ap (λ (a : After (Result OrderAnswer OrderRefused)). a.answer) is in cc)

  comes : (result : Result OrderAnswer OrderRefused) → Does order_memory (order_event s command token who i) s result t → Comes (ordered token s.journal) result
  comes (Ok answer) does = comes_where (ordered token s.journal) (Ok answer) does
  comes (Err NoMemory) same = same
  comes (Err why) does = comes_where (ordered token s.journal) (Err why) does

  -- ---- by that

  stands : IsWritten → slice_get t.journal (length s.journal) ≡ Some (Ordered row)
  stands is = ap (λ (j : List Row). slice_get j (length s.journal)) is ∙ got_behind s.journal (Ordered row) (asked_rows s command i)

  asked_unordered : (c : Command) → Each IsUnordered (asked_rows s c i)
  asked_unordered (Create before after q) = (tt, tt)
  asked_unordered (Cancel id) = tt
  asked_unordered (Restore id) = tt
  asked_unordered (Replace id method path body) = tt
  asked_unordered (Retry name) = tt
  asked_unordered (Fold id) = tt
  asked_unordered (Deploy program) = tt
  asked_unordered (Correct number program) = tt
  asked_unordered (Rules given) = tt

  noted_one : IsWritten → note_at (me t) (length s.journal) t.journal ≡ Some (order_note (me t) (length s.journal) row)
  noted_one is = rw (stands is) refl

  counts_written : IsWritten → length (ordered_rows t.journal) ≡ length (ordered_rows s.journal) + count_of (order_written s t Order)
  counts_written is =
      let asked = asked_rows s command i in
      let rows = order_rows s command token who i in
      let many = ap (λ (j : List Row). length (ordered_rows j)) is in
      let parts = ap length (filter-append is_order_row s.journal rows) ∙ length-append (ordered_rows s.journal) (ordered_rows rows) in
      let behind : length (ordered_rows rows) ≡ 1 = ap (λ (more : List Row). length (Ordered row ∷ more)) (unordered_none asked (asked_unordered command)) in
      let one = ap (λ (o : Option OrderNote). count_of o) (noted_one is) in
      omega (arith, many, parts, behind, one)

  counts_same : t ≡ s → length (ordered_rows t.journal) ≡ length (ordered_rows s.journal) + count_of (order_written s t Order)
  counts_same same =
      let many = ap (λ (k : Kept). length (ordered_rows k.journal)) same in
      let none = ap (λ (o : Option OrderNote). count_of o) (none_noted s t same) in
      omega (arith, many, none)

  counts_known : (known : Option OrderedRow) → MatchOption known IsWritten (λ (o : OrderedRow). t ≡ s)
      → length (ordered_rows t.journal) ≡ length (ordered_rows s.journal) + count_of (order_written s t Order)
  counts_known None is = counts_written is
  counts_known (Some o) same = counts_same same

  pub counts_order : (result : Result OrderAnswer OrderRefused) → Does order_memory (order_event s command token who i) s result t
      → length (ordered_rows t.journal) ≡ length (ordered_rows s.journal) + count_of (order_written s t Order)
  counts_order (Ok answer) does = counts_known (ordered token s.journal) (comes (Ok answer) does)
  counts_order (Err why) does = counts_same (comes (Err why) does)

  -- what is noted of it
  notes_known : (known : Option OrderedRow) (before behind : List OrderNote) → MatchOption known IsWritten (λ (o : OrderedRow). t ≡ s)
      → behind ≡ with_note (order_written s t Order) before
      → MatchOption known (WritesOrder s t command token who before behind) (λ (o : OrderedRow). behind ≡ before)
  notes_known None before behind is noted =
      record {
        row = row;
        commands = refl;
        named = refl;
        given = refl;
        there = stands is;
        last = noted ∙ ap (λ (o : Option OrderNote). with_note o before) (noted_one is);
      }
  notes_known (Some o) before behind same noted = noted ∙ ap (λ (o : Option OrderNote). with_note o before) (none_noted s t same)

  pub notes_order : (result : Result OrderAnswer OrderRefused) (before behind : List OrderNote) → Does order_memory (order_event s command token who i) s result t
      → behind ≡ with_note (order_written s t Order) before → NotesOrder s Order (done.Order result) t before behind
  notes_order (Ok answer) before behind does noted = notes_known (ordered token s.journal) before behind (comes (Ok answer) does) noted
  notes_order (Err why) before behind does noted = noted ∙ ap (λ (o : Option OrderNote). with_note o before) (none_noted s t (comes (Err why) does))

  -- what the answer tells of it
  pub note_of_order : (result : Result OrderAnswer OrderRefused) → Does order_memory (order_event s command token who i) s result t
      → note_if_ordered (me t) (length s.journal) t.journal (done.Order result) ≡ order_written s t Order
  note_of_order (Ok answer) does = refl
  note_of_order (Err why) does = sym (none_noted s t (comes (Err why) does))

-- ---- all events

module _ (s t : Kept) where
  -- it has as many orders more as were written
  pub counts_orders : (e : Event) (d : Done) → Happens e s d t → Answers s e d t → length (ordered_rows t.journal) ≡ length (ordered_rows s.journal) + count_of (order_written s t e)
  counts_orders (events.Order command token who i) (done.Order result) happens does = counts_order s t command token who i result does
  counts_orders (events.Order command token who i) d happens h = absurd h
  counts_orders e d happens h = omega (arith, ap length (event_orders_none s t e d tt happens))

  -- the note that was handed out is that of the order that was written
  pub note_written : (e : Event) (d : Done) → Answers s e d t → note_if_ordered (me t) (length s.journal) t.journal d ≡ order_written s t e
  note_written (events.Order command token who i) (done.Order result) h = note_of_order s t command token who i result h
  note_written (events.Arrive o q i) (done.Arrive r) h = refl
  note_written (events.CallAnswered flight a) (done.CallAnswered r) h = refl
  note_written (events.CallFailed flight number why) (done.CallFailed r) h = refl
  note_written (events.Abandon flight) (done.Abandon found) h = refl
  note_written (events.Take set i) (done.Take r) h = refl
  note_written (events.TakeToken x) (done.TakeToken r) h = refl
  note_written (events.Give f) (done.Give r) h = refl
  note_written (events.NextPost dest) (done.NextPost name) h = refl
  note_written (events.WritePost name) (done.WritePost r) h = refl
  note_written (events.Posted p reply) (done.Posted r) h = refl
  note_written events.Step (done.Step r) h = refl
  note_written e d h = absurd h

  -- that of the row at the end of the journal of before
  pub written_so : (e : Event) (d : Done) (index : ℕ) (written : Option OrderNote) → Answers s e d t → index ≡ length s.journal
      → written ≡ note_if_ordered (me t) index t.journal d → written ≡ order_written s t e
  written_so e d index written h at is = is ∙ ap (λ (n : ℕ). note_if_ordered (me t) n t.journal d) at ∙ note_written e d h

  -- and it is noted as it should be
  pub orders_so : (e : Event) (d : Done) (before behind : List OrderNote) → Answers s e d t → behind ≡ with_note (order_written s t e) before
      → NotesOrder s e d t before behind
  orders_so (events.Order command token who i) (done.Order result) before behind h noted = notes_order s t command token who i result before behind h noted
  orders_so (events.Order command token who i) d before behind h noted = absurd h
  orders_so e d before behind h noted = noted

-- ---- where the worker's flight isn't there

pub gone_orders : (s : Kept) (e : Event) (had : List OrderNote) → NotesOrder s e done.Gone s had had
gone_orders s (events.Order command token who i) had = refl
gone_orders s e had = refl
