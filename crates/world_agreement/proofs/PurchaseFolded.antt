-- The same purchase once the shop's request is folded: shop and bank are joined and quiet, and one legal execution still, in which the folded
-- request did what is kept of it. Behind the horizon it isn't cancelled any more, and its call isn't answered otherwise.
use Rattle.std.proofs.Common.{◌≡◌, ◌≢◌, ℕ, Bool, true, false, ◌&&◌, not, List, [], ◌∷◌, Some, None, IfSome, IsSomeAnd, Err, All, if◌then◌else◌, nat_eq, option_map, inl, inr, refl, ap, arith}
use Rattle.std.specs.List.{list_all}
use Rattle.std.proofs.lemmas.Bool.{cases_Bool}
use Rattle.std.proofs.lemmas.List.Elements.{All-nil, All-from_recursion}
use Rattle.lang_core.specs.declared.inputs.Inputs.{Inputs}
use Rattle.lang_core.specs.declared.request.Request.{Request}
use Rattle.lang_core.specs.declared.setting.Setting.{Setting}
use Rattle.lang_core.specs.declared.writes.Write.{Write}
use Rattle.execution.specs.Executions.{IsPlayed}
use Rattle.request_log.specs.Folded.{bare}
use Rattle.request_log.specs.declared.entry.Entry.{Entry}
use Rattle.local_repair.specs.Current.{IsRun}
use Rattle.local_repair.specs.Histories.{act_kept}
use Rattle.local_repair.specs.Programs.{setting_ran}
use Rattle.local_repair.proofs.TestLemmas.{is_current-from}
use Rattle.repair_messages.specs.declared.messages.TokenMessage.{TokenMessage}
use Rattle.journal_rows.specs.declared.orders.Command.TheVariants.{Cancel, Fold}
use Rattle.journal_rows.specs.declared.orders.OrderedRow.{OrderedRow}
use Rattle.call_registers.specs.Registers.{owes_fetch, register}
use Rattle.call_registers.specs.declared.register.Register.{Register}
use Rattle.call_registers.specs.declared.reply.Reply.{Reply}
use Rattle.service_events.specs.State.{Kept, after, answers, me}
use Rattle.service_events.specs.Calls.{noted}
use Rattle.service_events.specs.Messages.{take_token_event}
use Rattle.service_events.specs.Orders.{about, carried_out, is_due, is_quiet_call, order_rows, order_rule, original, refused, repaired, unless_quiet}
use Rattle.service_events.specs.Fits.{Fits, FitsSent, FitsSeen, FitsAsked, FitsHorizon, IsAsNow, IsDoneWith, IsPast, WasUnder, HasAnswered, HasReply, WantsItsCalls, AreOther}
use Rattle.service_events.specs.declared.refusals.AnswerRefused.{AnswerRefused}
use Rattle.service_events.specs.declared.refusals.OrderRefused.TheVariants.{NotQuiet, TooOld}
use Rattle.service_events.proofs.PurchaseExample.{shop_name, bank_name, ok, bought, entry, paid, made, paid_made, trace}
use Rattle.world_agreement.specs.Partners.{NamesDiffer, HasPartner, IsJoined}
use Rattle.world_agreement.specs.Quiet.{IsQuiet, AreQuiet}
use Rattle.world_agreement.specs.Legal.{AreLegal}
use Rattle.world_agreement.proofs.ListLemmas.{all_one, all_two, no_pairs, one_pair}
use Rattle.world_agreement.proofs.LegalLaws.{legal_together}
use Rattle.world_agreement.proofs.PurchaseTogether.{names_differ, at_shop, at_bank, bank_fits, bank_quiet}

module _ (setting : Setting) (buy pay : Request) (i : Inputs) (written : List Write) (token ann : List ℕ) where
  abbrev shop_setting : Setting
  shop_setting = at_shop setting buy pay i written token ann

  abbrev bank_setting : Setting
  bank_setting = at_bank setting buy pay i written token ann

  abbrev before : Kept
  before = bought shop_setting buy pay i [] written token ann

  abbrev shop : Kept
  shop = noted (order_rows before (Fold 1) token ann i) (carried_out before (Fold 1) ann i)

  abbrev fold_order : OrderedRow
  fold_order = record { token = token; command = Fold 1; who = ann; rule = order_rule before (Fold 1) ann; original = original before (Fold 1); repaired = repaired before (Fold 1); about = about before (Fold 1) }

  abbrev bank : Kept
  bank = paid bank_setting buy pay i [] written token ann

  abbrev both : List Kept
  both = shop ∷ (bank ∷ [])

  abbrev bought_entry : Entry
  bought_entry = entry shop_setting buy pay i [] written token ann false (made shop_setting buy pay i [] written token ann) (1 ∷ []) 1 1

  abbrev folded_entry : Entry
  folded_entry = bare bought_entry

  -- the shop's request isn't stale, owes no answer, and its call is acknowledged and owes no fetch: nothing stands in the way
  quiet_before : unless_quiet before (Fold 1) ≡ None
  quiet_before =
      ap (λ (b : Bool). option_map (λ n. NotQuiet n) (if b && not (is_due before bought_entry) && list_all (is_quiet_call before) bought_entry.slots then None else Some 1))
      (is_current-from (answers before) [] bought_entry (record { alive = refl; version = refl; request = refl; reads = All-nil _; answers = refl; handler = λ _. refl }))

  -- ---- joined and quiet

  differ : NamesDiffer both
  differ = one_pair (λ s t. me s ≢ me t) shop bank (names_differ shop_name bank_name refl)

  shop_joined : All (HasPartner both shop) shop.journal
  shop_joined = All-from_recursion (HasPartner both shop) shop.journal
      (tt, ((ok, (1, true, (2, omega arith, refl))), ((1, true, (2, omega arith, refl)), (tt, (tt, (tt, tt))))))

  bank_joined : All (HasPartner both bank) bank.journal
  bank_joined = All-from_recursion (HasPartner both bank) bank.journal (tt, ((0, omega arith, refl), (tt, tt)))

  joined : IsJoined both
  joined = all_two (λ s. All (HasPartner both s) s.journal) shop bank shop_joined bank_joined

  shop_quiet : IsQuiet shop
  shop_quiet = record {
    landed = refl;
    current = tt;
    acknowledged = all_one (λ (r : Register). r.acked ≡ r.version) _ refl;
    fetched = all_one (λ (r : Register). owes_fetch r ≡ false) _ refl;
    given = All-nil (λ (p : Reply). p.due ≡ false);
  }

  quiet : AreQuiet both
  quiet = all_two IsQuiet shop bank shop_quiet (bank_quiet setting buy pay i written token ann)

  -- ---- the shop fits its journal

  shop_sent : FitsSent shop.journal shop.registers
  shop_sent = record {
    rows = ((refl, refl, refl), (tt, (tt, (tt, (tt, (tt, tt))))));
    registers = λ n. elim (cases_Bool (nat_eq 1 n)) [
      | inl is ↦ rw is refl
      | inr other ↦ rw other refl
    ];
    count = refl;
    numbered = (refl, tt);
  }

  shop_seen : FitsSeen shop.journal shop.registers
  shop_seen = record {
    rows = (tt, (refl, ((refl, tt, tt), (tt, (tt, (tt, tt))))));
    registers = λ n. elim (cases_Bool (nat_eq 1 n)) [
      | inl is ↦ rw is (record { acked = refl; answer = refl; noted = (refl, refl, refl) })
      | inr other ↦ rw other tt
    ];
    answered = λ n told. elim (cases_Bool (nat_eq 1 n)) [
      | inl is ↦ rw is refl
      | inr other ↦ (let none : false ≡ true = rw other at told in cc)
    ];
    heard = λ n. elim (cases_Bool (nat_eq 1 n)) [
      | inl is ↦ rw is (omega arith)
      | inr other ↦ rw other (omega arith)
    ];
    told = λ n. omega arith;
  }

  shop_asked : FitsAsked shop.journal shop.entries
  shop_asked = record {
    rows = (tt, (tt, (tt, (refl, (tt, ((refl, (refl, refl)), tt))))));
    count = refl;
    distinct = (record { id = refl; origin = refl }, tt);
    entries = λ n. elim (cases_Bool (nat_eq 1 n)) [
      | inl is ↦ rw is refl
      | inr other ↦ rw other refl
    ];
    calls = λ c n. (λ h. h, λ h. h);
    now = all_one (IsAsNow shop.journal) _ (record { version = refl; wanted = refl; request = refl; struck = refl });
  }

  -- what is kept of the folded request is its run on empty rows with the answer that it consumed
  module _ (ran : IsRun shop_setting i (made shop_setting buy pay i [] written token ann)) where
    played : IsPlayed shop_setting [] (act_kept folded_entry) (trace shop_setting buy pay i [] written token ann)
    played = record { live = λ alive. ran.live refl [] (All-nil _); dead = λ dead. cc; consumed = refl; answered = refl; named = refl; did = refl }

    shop_horizon : FitsHorizon shop
    shop_horizon = record {
      within = omega arith;
      last = refl;
      each = all_one (IsPast shop) _ (record {
        bare = record { alive = refl; version = refl; request = refl; reads = refl; writes = refl };
        calls = all_one (λ number. IsSomeAnd (register number shop.registers) IsDoneWith) 1 (record { acked = omega arith; fetched = refl });
        consumed = refl;
      });
      replayed = record { traces = trace shop_setting buy pay i [] written token ann ∷ []; replay = (played, refl) };
    }

    shop_fits : Fits shop
    shop_fits = record {
      sent = shop_sent;
      seen = shop_seen;
      taken = (tt, (tt, (tt, (tt, (refl, (tt, tt))))));
      asked = shop_asked;
      runs = All-nil (λ (e : Entry). IfSome e.made (IsRun (setting_ran shop_setting e) e.inputs));
      answered = record {
        rows = (tt, (tt, (tt, (tt, ((refl, refl, λ _. (refl, tt)), (tt, tt))))));
        entries = all_one (HasAnswered shop.journal) _ (record { answer = refl; first = λ e. cc });
      };
      replies = record {
        rows = (tt, (tt, (tt, (tt, (tt, (tt, tt))))));
        entries = all_one (λ (e : Entry). HasReply shop.journal shop.replies e e.origin) _ refl;
        others = All-nil _;
        rising = tt;
      };
      places = record {
        calls = all_one (WantsItsCalls shop.registers) _ refl;
        once = λ n. elim (cases_Bool (nat_eq 1 n)) [
          | inl is ↦ rw is refl
          | inr other ↦ rw other refl
        ];
      };
      flights = record { numbered = All-nil _; others = no_pairs AreOther; untaken = All-nil _ };
      orders = (tt, (tt, (tt, (tt, (tt, (refl, tt))))));
      horizon = shop_horizon;
      programs = record {
        rows = (tt, (tt, (tt, ((refl, refl), (tt, (tt, tt))))));
        newest = refl;
        current = record { there = refl; stands = refl };
        rules = refl;
        past = all_one (WasUnder shop.setting.program shop.journal) folded_entry
            (record { before = before.journal; order = fold_order; rest = []; is = refl; folds = refl; number = refl; there = refl; ran = refl });
        entries = All-nil _;
        flights = All-nil _;
      };
    }

    -- ---- one legal execution, where the records were what runs gave

    legal : IsRun bank_setting i (paid_made bank_setting buy pay i [] written token ann) → AreLegal both
    legal bank_ran =
        legal_together both
        (all_two Fits shop bank shop_fits (bank_fits setting buy pay i written token ann (all_one (λ (e : Entry). IfSome e.made (IsRun (setting_ran bank_setting e) e.inputs)) _ bank_ran)))
        differ joined quiet

  -- ---- behind the horizon

  not_cancelled : refused shop (Cancel 1) ann ≡ Some (TooOld 1)
  not_cancelled = refl

  -- a token that announces another answer to its call
  abbrev another : TokenMessage
  another = record { caller = shop_name; callee = bank_name; id = 1; number = 1; answer_version = 2; who = bank_name }

  not_announced : take_token_event shop another ≡ after shop (Err (AnswerRefused.TooOld 1))
  not_announced = refl
