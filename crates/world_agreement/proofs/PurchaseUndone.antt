-- The same purchase once it is cancelled and all that follows from that is done: shop and bank are joined and quiet again, and one legal
-- execution in which neither request did anything. On the way there they aren't quiet.
use Rattle.std.proofs.Common.{◌≡◌, ◌≢◌, ℕ, Bool, true, false, cond, List, [], ◌∷◌, Some, None, IsSome, IfSome, ◌↔◌, ◌||◌, ◌&&◌, All, find, length, nat_eq, inl, inr, refl, ap, arith}
use Rattle.std.proofs.lemmas.Bool.{cases_Bool, true≢false}
use Rattle.std.proofs.lemmas.List.Elements.{All-nil, All-head, All-from_recursion}
use Rattle.lang_base.specs.Texts.{same_text}
use Rattle.lang_core.specs.declared.inputs.Inputs.{Inputs}
use Rattle.lang_core.specs.declared.request.Request.{Request}
use Rattle.lang_core.specs.declared.setting.Setting.{Setting}
use Rattle.lang_core.specs.declared.writes.Write.{Write}
use Rattle.request_log.specs.Entries.{has_id}
use Rattle.request_log.specs.declared.entry.Entry.{Entry}
use Rattle.local_repair.specs.Current.{IsRun, AllRuns}
use Rattle.local_repair.specs.Programs.{setting_ran}
use Rattle.call_registers.specs.Registers.{owes_fetch}
use Rattle.call_registers.specs.declared.register.Register.{Register}
use Rattle.call_registers.specs.declared.reply.Reply.{Reply}
use Rattle.service_events.specs.State.{Kept, me}
use Rattle.service_events.specs.Calls.{noted}
use Rattle.service_events.specs.Messages.{saw_ack_row}
use Rattle.service_events.specs.Fits.{Fits, FitsSent, FitsSeen, FitsAsked, IsAsNow, IsUnder, HasAnswered, HasReply, WantsItsCalls, AreOther}
use Rattle.service_events.proofs.PurchaseExample.{shop_name, bank_name, ok, named, cancelled, remade, unwanted, unpaid}
use Rattle.world_agreement.specs.Partners.{NamesDiffer, HasPartner, IsJoined}
use Rattle.world_agreement.specs.Quiet.{IsQuiet, AreQuiet}
use Rattle.world_agreement.specs.Legal.{AreLegal}
use Rattle.world_agreement.proofs.ListLemmas.{all_one, all_two, no_pairs, one_pair}
use Rattle.world_agreement.proofs.LegalLaws.{legal_together}
use Rattle.world_agreement.proofs.PurchaseTogether.{names_differ, at_shop, at_bank}

module _ (setting : Setting) (buy pay : Request) (i : Inputs) (written : List Write) (token ann : List ℕ) where
  abbrev shop_setting : Setting
  shop_setting = at_shop setting buy pay i written token ann

  abbrev bank_setting : Setting
  bank_setting = at_bank setting buy pay i written token ann

  -- the shop has seen that its deletion is acknowledged
  abbrev shop : Kept
  shop =
      noted (saw_ack_row (record { caller = shop_name; dest = bank_name; number = 1; version = 2 }) ∷ [])
      (remade shop_setting buy pay i [] written token ann)

  abbrev bank : Kept
  bank = unpaid bank_setting buy pay i [] written token ann

  abbrev both : List Kept
  both = shop ∷ (bank ∷ [])

  -- ---- joined and quiet

  differ : NamesDiffer both
  differ = one_pair (λ s t. me s ≢ me t) shop bank (names_differ shop_name bank_name refl)

  shop_joined : All (HasPartner both shop) shop.journal
  shop_joined = All-from_recursion (HasPartner both shop) shop.journal
      (tt, ((ok, (1, true, (2, omega arith, refl))), ((1, true, (2, omega arith, refl)), (tt, (tt, (tt, (tt, (tt, ((4, omega arith, refl), tt)))))))))

  bank_joined : All (HasPartner both bank) bank.journal
  bank_joined = All-from_recursion (HasPartner both bank) bank.journal
      (tt, ((0, omega arith, refl), (tt, ((6, omega arith, refl), (tt, (tt, tt))))))

  joined : IsJoined both
  joined = all_two (λ s. All (HasPartner both s) s.journal) shop bank shop_joined bank_joined

  shop_quiet : IsQuiet shop
  shop_quiet = record {
    landed = refl;
    current = (record { alive = refl; version = refl; request = refl; reads = All-nil _; answers = refl; handler = λ _. refl }, tt);
    acknowledged = all_one (λ (r : Register). r.acked ≡ r.version) _ refl;
    fetched = all_one (λ (r : Register). owes_fetch r ≡ false) _ refl;
    given = All-nil (λ (p : Reply). p.due ≡ false);
  }

  bank_quiet : IsQuiet bank
  bank_quiet = record {
    landed = refl;
    current = (record { alive = refl; version = refl; request = refl; reads = All-nil _; answers = refl; handler = λ _. refl }, tt);
    acknowledged = All-nil (λ (r : Register). r.acked ≡ r.version);
    fetched = All-nil (λ (r : Register). owes_fetch r ≡ false);
    given = all_one (λ (p : Reply). p.due ≡ false) _ refl;
  }

  quiet : AreQuiet both
  quiet = all_two IsQuiet shop bank shop_quiet bank_quiet

  -- ---- the shop fits its journal

  shop_sent : FitsSent shop.journal shop.registers
  shop_sent = record {
    rows = ((refl, refl, refl), (tt, (tt, (tt, (tt, (tt, ((refl, refl, refl), (tt, (tt, tt)))))))));
    registers = λ n. elim (cases_Bool (nat_eq 1 n)) [
      | inl is ↦ rw is refl
      | inr other ↦ rw other refl
    ];
    count = refl;
    numbered = (refl, tt);
  }

  shop_seen : FitsSeen shop.journal shop.registers
  shop_seen = record {
    rows = (tt, (refl, ((refl, tt, tt), (tt, (tt, (tt, (tt, (tt, (refl, tt)))))))));
    registers = λ n. elim (cases_Bool (nat_eq 1 n)) [
      | inl is ↦ rw is (record { acked = refl; answer = refl; noted = (refl, refl, refl) })
      | inr other ↦ rw other tt
    ];
    answered = λ n told. elim (cases_Bool (nat_eq 1 n)) [
      | inl is ↦ rw is refl
      | inr other ↦ (let none : false ≡ true = rw other at told in cc)
    ];
    heard = λ n. elim (cases_Bool (nat_eq 1 n)) [
      | inl is ↦ rw is (omega arith)
      | inr other ↦ rw other (omega arith)
    ];
    told = λ n. omega arith;
  }

  shop_asked : FitsAsked shop.journal shop.entries
  shop_asked = record {
    rows = (tt, (tt, (tt, (refl, (tt, ((refl, (refl, refl)), (tt, (tt, (tt, tt)))))))));
    count = refl;
    distinct = (record { id = refl; origin = refl }, tt);
    entries = λ n. elim (cases_Bool (nat_eq 1 n)) [
      | inl is ↦ rw is refl
      | inr other ↦ rw other refl
    ];
    calls = λ c n. (λ h. h, λ h. h);
    now = all_one (IsAsNow shop.journal) _ (record { version = refl; wanted = refl; request = refl; struck = refl });
  }

  shop_ran : AllRuns shop_setting shop.entries
  shop_ran = all_one (λ (e : Entry). IfSome e.made (IsRun (setting_ran shop_setting e) e.inputs)) _ (record { live = λ alive. cc; dead = λ _. refl })

  shop_fits : Fits shop
  shop_fits = record {
    sent = shop_sent;
    seen = shop_seen;
    taken = (tt, (tt, (tt, (tt, (refl, (tt, (tt, (refl, (tt, tt)))))))));
    asked = shop_asked;
    runs = shop_ran;
    answered = record {
      rows = (tt, (tt, (tt, (tt, ((refl, refl, λ _. (refl, tt)), (tt, (tt, ((refl, refl, λ live. cc), (tt, tt)))))))));
      entries = all_one (HasAnswered shop.journal) _ (record { answer = refl; first = λ e. cc });
    };
    replies = record {
      rows = (tt, (tt, (tt, (tt, (tt, (tt, (tt, (tt, (tt, tt)))))))));
      entries = all_one (λ (e : Entry). HasReply shop.journal shop.replies e e.origin) _ refl;
      others = All-nil _;
      rising = tt;
    };
    places = record {
      calls = all_one (WantsItsCalls shop.registers) _ refl;
      once = λ n. elim (cases_Bool (nat_eq 1 n)) [
        | inl is ↦ rw is refl
        | inr other ↦ rw other refl
      ];
    };
    flights = record { numbered = All-nil _; others = no_pairs AreOther; untaken = All-nil _ };
    orders = (tt, (tt, (tt, (tt, (tt, (refl, (tt, (tt, (tt, tt)))))))));
    horizon = record { within = omega arith; last = refl; each = All-nil _; replayed = record { traces = []; replay = refl } };
    programs = record {
      rows = (tt, (tt, (tt, ((refl, refl), (tt, (tt, (tt, (tt, (tt, tt)))))))));
      newest = refl;
      current = record { there = refl; stands = refl };
      rules = refl;
      past = All-nil _;
      entries = all_one (IsUnder shop.setting.program shop.journal) _ (record { number = refl; now = record { there = refl; stands = refl }; ran = refl });
      flights = All-nil _;
    };
  }

  -- ---- the bank fits its journal

  one_call : (b : Bool) (e : Entry) → IsSome (cond b (Some e) None)
      ↔ ((false || ((b && true) || (false || ((b && false) || (false || (false || false)))))) ≡ true)
  one_call true e = (λ _. refl, λ _. refl)
  one_call false e = (λ h. h, λ h. h)

  bank_asked : FitsAsked bank.journal bank.entries
  bank_asked = record {
    rows = (refl, (tt, (tt, (tt, (tt, (tt, tt))))));
    count = refl;
    distinct = (record { id = refl; origin = refl }, tt);
    entries = λ n. elim (cases_Bool (nat_eq 1 n)) [
      | inl is ↦ rw is refl
      | inr other ↦ rw other refl
    ];
    calls = λ c n. one_call (same_text shop_name c && nat_eq 1 n) _;
    now = all_one (IsAsNow bank.journal) _ (record { version = refl; wanted = refl; request = refl; struck = refl });
  }

  bank_ran : AllRuns bank_setting bank.entries
  bank_ran = all_one (λ (e : Entry). IfSome e.made (IsRun (setting_ran bank_setting e) e.inputs)) _ (record { live = λ alive. cc; dead = λ _. refl })

  bank_fits : Fits bank
  bank_fits = record {
    sent = record { rows = (tt, (tt, (tt, (tt, (tt, (tt, tt)))))); registers = λ n. refl; count = refl; numbered = tt };
    seen = record {
      rows = (tt, (tt, (tt, (tt, (tt, (tt, tt))))));
      registers = λ n. tt;
      answered = λ n told. cc;
      heard = λ n. omega arith;
      told = λ n. omega arith;
    };
    taken = (tt, ((omega arith, (refl, refl)), (refl, ((omega arith, tt), (omega arith, (refl, tt))))));
    asked = bank_asked;
    runs = bank_ran;
    answered = record {
      rows = (tt, (tt, ((refl, refl, λ _. (refl, (refl, refl, refl))), (tt, (tt, ((refl, refl, λ live. cc), tt))))));
      entries = all_one (HasAnswered bank.journal) _ (record { answer = refl; first = λ e. cc });
    };
    replies = record {
      rows = (tt, (tt, (tt, (tt, (tt, (tt, tt))))));
      entries = all_one (λ (e : Entry). HasReply bank.journal bank.replies e e.origin) _
          (record { caller = refl; number = refl; version = refl; wanted = refl; answer_version = refl; due = refl });
      others = all_one (λ (p : Reply). IsSome (find (has_id p.id) bank.entries)) _ refl;
      rising = (tt, tt);
    };
    places = record { calls = all_one (WantsItsCalls bank.registers) _ refl; once = λ n. refl };
    flights = record { numbered = All-nil _; others = no_pairs AreOther; untaken = All-nil _ };
    orders = (tt, (tt, (tt, (tt, (tt, (tt, tt))))));
    horizon = record { within = omega arith; last = refl; each = All-nil _; replayed = record { traces = []; replay = refl } };
    programs = record {
      rows = ((refl, refl), (tt, (tt, (tt, (tt, (tt, tt))))));
      newest = refl;
      current = record { there = refl; stands = refl };
      rules = refl;
      past = All-nil _;
      entries = all_one (IsUnder bank.setting.program bank.journal) _ (record { number = refl; now = record { there = refl; stands = refl }; ran = refl });
      flights = All-nil _;
    };
  }

  legal : AreLegal both
  legal = legal_together both (all_two Fits shop bank shop_fits bank_fits) differ joined quiet

  -- ---- what is outstanding on the way there

  -- the request that waits for the bank
  flying : IsQuiet (named shop_setting buy pay i [] written token ann) → ⊥
  flying h = (let none : length (named shop_setting buy pay i [] written token ann).flights ≡ 0 = ap length h.landed in absurd (omega (arith, none)))

  -- the cancelled request, and the one that is wanted no more, whose records are still those of live ones
  stale : IsQuiet (cancelled shop_setting buy pay i [] written token ann) → ⊥
  stale h = true≢false h.current.0.alive

  stale_too : IsQuiet (unwanted bank_setting buy pay i [] written token ann) → ⊥
  stale_too h = true≢false h.current.0.alive

  -- the deletion that the bank hasn't acknowledged
  unacknowledged : IsQuiet (remade shop_setting buy pay i [] written token ann) → ⊥
  unacknowledged h = (let behind : 1 ≡ 2 = All-head (λ (r : Register). r.acked ≡ r.version) _ [] h.acknowledged in absurd (omega (arith, behind)))
