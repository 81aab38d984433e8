-- A worked example, event by event: a shop whose request calls a bank, its cancellation, and what becomes of both.
use Rattle.std.proofs.Common.{◌≡◌, ℕ, Bool, true, false, List, [], ◌∷◌, ◌++◌, Option, Some, None, refl}
use Rattle.lang_base.specs.Equal.{equal}
use Rattle.lang_core.specs.Traces.{dead_trace}
use Rattle.lang_core.specs.declared.ids.Origin.TheVariants.{Outside, Call}
use Rattle.lang_core.specs.declared.inputs.Inputs.{Inputs}
use Rattle.lang_core.specs.declared.trace.Read.{Read}
use Rattle.lang_core.specs.declared.request.Request.{Request}
use Rattle.lang_core.specs.declared.request.Response.{Response}
use Rattle.lang_core.specs.declared.setting.Setting.{Setting}
use Rattle.lang_core.specs.declared.trace.CallMade.{CallMade}
use Rattle.lang_core.specs.declared.trace.Trace.{Trace}
use Rattle.lang_core.specs.declared.writes.Write.{Write}
use Rattle.lang_programs.specs.Numbered.{Numbered}
use Rattle.lang_programs.specs.Under.{under_of}
use Rattle.handler_run.specs.declared.state.Ran.TheVariants.{Wants}
use Rattle.request_log.specs.declared.entry.Entry.{Entry}
use Rattle.request_log.specs.declared.entry.Made.{Made}
use Rattle.repair_messages.specs.declared.messages.AnswerMessage.{AnswerMessage}
use Rattle.repair_messages.specs.declared.messages.SetMessage.{SetMessage}
use Rattle.authorise_rules.specs.Given.{GivenRules}
use Rattle.authorise_rules.specs.declared.rule.Kinds.TheVariants.{Any as AnyKind}
use Rattle.authorise_rules.specs.declared.rule.Rule.{Rule}
use Rattle.authorise_rules.specs.declared.rule.Senders.TheVariants.{Any as AnySender}
use Rattle.authorise_rules.specs.declared.rule.Users.TheVariants.{Any as AnyUser}
use Rattle.authorise_rules.specs.declared.rule.Verb.TheVariants.{Allow}
use Rattle.journal_rows.specs.declared.caller.AckHow.TheVariants.{WithAnswer}
use Rattle.journal_rows.specs.declared.callee.TookHow.TheVariants.{Live, Message}
use Rattle.journal_rows.specs.declared.caller.SawHow.TheVariants.{Live as SawLive}
use Rattle.journal_rows.specs.declared.orders.About.TheVariants.{Request as AboutRequest}
use Rattle.journal_rows.specs.declared.orders.Command.TheVariants.{Cancel}
use Rattle.journal_rows.specs.declared.row.Row.{Row}
use Rattle.journal_rows.specs.declared.row.Row.TheVariants.{Asked, Took, Acked, Answered, Sent, SawAck, SawAnswer, Ordered}
use Rattle.call_registers.specs.declared.register.Answer.{Answer}
use Rattle.call_registers.specs.declared.register.Register.{Register}
use Rattle.call_registers.specs.declared.reply.Reply.{Reply}
use Rattle.flights.specs.Moves.{next_move}
use Rattle.flights.specs.declared.flight.Flight.{Flight}
use Rattle.service_events.specs.State.{Kept}
use Rattle.service_events.specs.Calls.{noted}
use Rattle.service_events.specs.Flying.{moved, committed}
use Rattle.service_events.specs.Arriving.{new_flight, live_answer_rows}
use Rattle.service_events.specs.Orders.{order_rows, carried_out}
use Rattle.service_events.specs.Steps.{stepped}
use Rattle.service_events.specs.Messages.{taken_by, saw_ack_row}

abbrev pub shop_name : List ℕ
shop_name = 115 ∷ (104 ∷ (111 ∷ (112 ∷ [])))

abbrev pub bank_name : List ℕ
bank_name = 98 ∷ (97 ∷ (110 ∷ (107 ∷ [])))

abbrev pub ok : Response
ok = record { status = 200; body = 111 ∷ (107 ∷ []) }

-- a rule that allows every repair
abbrev pub allow_any : Rule
allow_any = record { verb = Allow; kind = AnyKind; from = AnySender; who = AnyUser; prefix = [] }

-- the rules with which both services begin; how their text reads makes no difference here
abbrev pub given : GivenRules
given = record { text = []; rules = allow_any ∷ [] }

module _ (setting : Setting) (buy pay : Request) (i : Inputs) (read : List Read) (written : List Write) (token ann : List ℕ) where
  abbrev pub start : Kept
  start =
      record {
        setting = setting;
        began = given;
        rules = given;
        newest = record { number = 1; program = setting.program };
        entries = [];
        horizon = 0;
        base = [];
        flights = [];
        journal = [];
        registers = [];
        replies = [];
      }

  -- nobody brings another program
  abbrev pub program : Numbered
  program = record { number = 1; program = setting.program }

  abbrev pub call : CallMade
  call = record { dest = bank_name; request = pay }

  -- ---- the shop

  abbrev pub flight : List CallMade → List ℕ → Flight
  flight calls numbers = record { id = 1; origin = Outside; request = buy; inputs = i; program = program; calls = calls; numbers = numbers; changes = 0 }

  abbrev pub sent : Row
  sent = Sent (record { number = 1; dest = bank_name; version = 1; desired = Some pay })

  abbrev pub register : ℕ → Option Request → ℕ → Option Answer → ℕ → Register
  register version desired acked answer since =
      record {
        number = 1;
        dest = bank_name;
        version = version;
        desired = desired;
        acked = acked;
        answer = answer;
        noted = 0;
        noted_who = pay.who;
        noted_rule = 0;
        noted_since = 0;
        told = None;
        held = None;
        repair_who = pay.who;
        since = since;
      }

  -- its first run wants the bank's answer: the call is named, and the flight waits
  abbrev pub named : Kept
  named = record start { flights = flight (call ∷ []) (1 ∷ []) ∷ []; journal = sent ∷ []; registers = register 1 (Some pay) 0 None 0 ∷ [] }

  first_run : (moved start (new_flight start Outside buy i) (Wants 0 [] call) (next_move (new_flight start Outside buy i) (Wants 0 [] call))).service ≡ named
  first_run = refl

  -- the bank's answer comes
  abbrev pub answer : AnswerMessage
  answer = record { caller = shop_name; callee = bank_name; id = 1; number = 1; answer_version = 1; version = 1; response = ok; who = bank_name }

  abbrev pub seen : List Row
  seen =
      SawAck (record { number = 1; version = 1; how = WithAnswer 1 })
      ∷ (SawAnswer (record { number = 1; answer_version = 1; version = 1; response = ok; how = SawLive; who = bank_name; rule = 0 }) ∷ [])

  abbrev pub held : Option Answer
  held = Some (record { answer_version = 1; version = 1; response = ok })

  abbrev pub answered : Kept
  answered = record named { journal = sent ∷ seen; registers = register 1 (Some pay) 1 held 0 ∷ [] }

  heard : noted (live_answer_rows named answer) named ≡ answered
  heard = refl

  -- the next run ends, and the flight is the first entry
  abbrev pub trace : Trace
  trace = record { reads = read; calls = call ∷ []; answers = ok ∷ []; writes = written; response = ok }

  abbrev pub entry : Bool → Made → List ℕ → ℕ → ℕ → Entry
  entry struck made slots answer_version runs =
      record {
        id = 1;
        origin = Outside;
        version = 0;
        request = buy;
        wanted = true;
        struck = struck;
        inputs = i;
        under = under_of program;
        made = Some made;
        slots = slots;
        answer_version = answer_version;
        runs = runs;
      }

  abbrev pub made : Made
  made = record { alive = true; version = 0; request = buy; trace = trace }

  abbrev pub commit_rows : List Row
  commit_rows =
      Asked (record { id = 1; origin = Outside; request = buy; inputs = i; program = 1 })
      ∷ (Answered (record { id = 1; origin = Outside; answer_version = 1; version = 0; response = ok; live = true }) ∷ [])

  abbrev pub bought : Kept
  bought = record answered { entries = entry false made (1 ∷ []) 1 1 ∷ []; flights = []; journal = (sent ∷ seen) ++ commit_rows }

  commit : (committed answered (flight (call ∷ []) (1 ∷ [])) trace).service ≡ bought
  commit = refl

  -- an operator cancels it
  abbrev pub cancel_row : Row
  cancel_row = Ordered (record { token = token; command = Cancel 1; who = ann; rule = 1; original = Some buy; repaired = None; about = AboutRequest 1 })

  abbrev pub cancelled : Kept
  cancelled = record bought { entries = entry true made (1 ∷ []) 1 1 ∷ []; journal = ((sent ∷ seen) ++ commit_rows) ++ cancel_row ∷ [] }

  cancel : noted (order_rows bought (Cancel 1) token ann i) (carried_out bought (Cancel 1) ann i) ≡ cancelled
  cancel = refl

  -- a step gives it the record of a dead request, and deletes its call
  abbrev pub dead : Made
  dead = record { alive = false; version = 0; request = buy; trace = dead_trace }

  abbrev pub step_rows : List Row
  step_rows =
      Sent (record { number = 1; dest = bank_name; version = 2; desired = None })
      ∷ (Answered (record { id = 1; origin = Outside; answer_version = 2; version = 0; response = record { status = 410; body = [] }; live = false }) ∷ [])

  abbrev pub remade : Kept
  remade =
      record cancelled {
        entries = entry true dead [] 2 2 ∷ [];
        journal = (((sent ∷ seen) ++ commit_rows) ++ cancel_row ∷ []) ++ step_rows;
        registers = register 2 None 1 held 6 ∷ [];
      }

  step : (stepped cancelled (entry true made (1 ∷ []) 1 1) dead).service ≡ remade
  unfolding equal
  step = refl

  -- the bank acknowledges the deletion
  acked : (noted (saw_ack_row (record { caller = shop_name; dest = bank_name; number = 1; version = 2 }) ∷ []) remade).registers ≡ register 2 None 2 held 6 ∷ []
  acked = refl

  -- ---- the bank

  abbrev pub paid_trace : Trace
  paid_trace = record { reads = read; calls = []; answers = []; writes = written; response = ok }

  abbrev pub paid_entry : ℕ → Bool → Made → ℕ → ℕ → Entry
  paid_entry version wanted made answer_version runs =
      record {
        id = 1;
        origin = Call shop_name 1;
        version = version;
        request = pay;
        wanted = wanted;
        struck = false;
        inputs = i;
        under = under_of program;
        made = Some made;
        slots = [];
        answer_version = answer_version;
        runs = runs;
      }

  abbrev pub reply : ℕ → ℕ → Bool → ℕ → Reply
  reply version answer_version wanted since =
      record {
        id = 1;
        caller = shop_name;
        number = 1;
        version = version;
        answer_version = answer_version;
        wanted = wanted;
        due = false;
        held = None;
        repair_who = setting.me;
        since = since;
      }

  abbrev pub paid_made : Made
  paid_made = record { alive = true; version = 1; request = pay; trace = paid_trace }

  abbrev pub paid_rows : List Row
  paid_rows =
      Asked (record { id = 1; origin = Call shop_name 1; request = pay; inputs = i; program = 1 })
      ∷ (Took (record { caller = shop_name; number = 1; version = 1; desired = Some pay; how = Live; who = pay.who; rule = 0 })
      ∷ (Answered (record { id = 1; origin = Call shop_name 1; answer_version = 1; version = 1; response = ok; live = true }) ∷ []))

  abbrev pub paid : Kept
  paid = record start { entries = paid_entry 1 true paid_made 1 1 ∷ []; journal = paid_rows; replies = reply 1 1 true 2 ∷ [] }

  paying : (committed start (new_flight start (Call shop_name 1) pay i) paid_trace).service ≡ paid
  paying = refl

  -- the deletion is taken
  abbrev pub deletion : SetMessage
  deletion = record { caller = shop_name; dest = bank_name; number = 1; version = 2; desired = None; before = None; after = None; who = ann }

  abbrev pub taken_rows : List Row
  taken_rows =
      Took (record { caller = shop_name; number = 1; version = 2; desired = None; how = Message; who = ann; rule = 1 })
      ∷ (Acked (record { caller = shop_name; number = 1; version = 2 }) ∷ [])

  abbrev pub unwanted : Kept
  unwanted = record paid { entries = paid_entry 2 false paid_made 1 1 ∷ []; journal = paid_rows ++ taken_rows; replies = reply 2 1 false 4 ∷ [] }

  taking : taken_by paid deletion i (Some (paid_entry 1 true paid_made 1 1)) None ≡ unwanted
  taking = refl

  -- and a step gives its entry the record of a dead request
  abbrev pub unpaid_made : Made
  unpaid_made = record { alive = false; version = 2; request = pay; trace = dead_trace }

  abbrev pub unpaid_rows : List Row
  unpaid_rows =
      Answered (record { id = 1; origin = Call shop_name 1; answer_version = 2; version = 2; response = record { status = 410; body = [] }; live = false }) ∷ []

  abbrev pub unpaid : Kept
  unpaid =
      record unwanted { entries = paid_entry 2 false unpaid_made 2 2 ∷ []; journal = (paid_rows ++ taken_rows) ++ unpaid_rows; replies = reply 2 2 false 5 ∷ [] }

  unpaying : (stepped unwanted (paid_entry 2 false paid_made 1 1) unpaid_made).service ≡ unpaid
  unfolding equal
  unpaying = refl
