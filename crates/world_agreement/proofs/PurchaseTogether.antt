-- A purchase on two services, worked out: once it is bought the shop and the bank fit their journals, are joined and quiet, and so are
-- one legal execution. A shop whose bank never answered is not joined, and one whose bank has no request for its call isn't legal.
use Rattle.std.proofs.Common.{◌≡◌, ◌≢◌, Contains, ℕ, Bool, true, false, cond, List, [], ◌∷◌, Some, None, IsSome, IfSome, ◌↔◌, ◌||◌, ◌&&◌, All, find, nat_eq, inl, inr, refl, sym, ap, ◌∙◌, arith}
use Rattle.std.proofs.lemmas.Bool.{cases_Bool, both_ways}
use Rattle.std.specs.Cmp.Lexicographic.{nat_list_eq_equiv}
use Rattle.std.proofs.lemmas.List.Elements.{All-nil, All-head, All-from_recursion}
use Rattle.lang_base.specs.Texts.{same_text}
use Rattle.lang_core.specs.declared.inputs.Inputs.{Inputs}
use Rattle.lang_core.specs.declared.request.Request.{Request}
use Rattle.lang_core.specs.declared.setting.Setting.{Setting}
use Rattle.lang_core.specs.declared.writes.Write.{Write}
use Rattle.execution.specs.Together.{CallsAreServed, IsLegalTogether}
use Rattle.request_log.specs.Entries.{has_id}
use Rattle.request_log.specs.declared.entry.Entry.{Entry}
use Rattle.local_repair.specs.Current.{AllRuns, IsRun}
use Rattle.local_repair.specs.Programs.{setting_ran}
use Rattle.call_registers.specs.Registers.{owes_fetch}
use Rattle.call_registers.specs.declared.register.Register.{Register}
use Rattle.call_registers.specs.declared.reply.Reply.{Reply}
use Rattle.service_events.specs.State.{Kept, me}
use Rattle.service_events.specs.Fits.{Fits, FitsSent, FitsSeen, FitsAsked, IsAsNow, IsUnder, HasAnswered, HasReply, WantsItsCalls, AreOther}
use Rattle.service_events.proofs.PurchaseExample.{shop_name, bank_name, ok, start, sent, bought, paid, made, paid_made}
use Rattle.world_agreement.specs.Partners.{NamesDiffer, HasPartner, IsJoined}
use Rattle.world_agreement.specs.Quiet.{IsQuiet, AreQuiet}
use Rattle.world_agreement.specs.Legal.{history, histories, AreLegal}
use Rattle.service_events.proofs.SearchLemmas.{contains_cases}
use Rattle.world_agreement.proofs.ListLemmas.{all_one, all_two, no_pairs, one_pair}
use Rattle.world_agreement.proofs.LegalLaws.{legal_together}

pub names_differ : (a b : List ℕ) → same_text a b ≡ false → a ≡ b → ⊥
names_differ a b other is = both_ways (same_text a b) other (ap (same_text a) (sym is) ∙ nat_list_eq_equiv.refl a)

pub other_name : Contains (bank_name ∷ []) shop_name → ⊥
other_name h = elim (contains_cases bank_name shop_name [] h) [
  | inl is ↦ names_differ bank_name shop_name refl is
  | inr later ↦ absurd (omega (arith, later.1))
]

pub no_name : Contains [] bank_name → ⊥
no_name h = absurd (omega (arith, h.1))

module _ (setting : Setting) (buy pay : Request) (i : Inputs) (written : List Write) (token ann : List ℕ) where
  abbrev pub at_shop : Setting
  at_shop = record { me = shop_name; peers = bank_name ∷ []; program = setting.program; weight = setting.weight; alone = other_name }

  abbrev pub at_bank : Setting
  at_bank = record { me = bank_name; peers = []; program = setting.program; weight = setting.weight; alone = no_name }

  abbrev shop : Kept
  shop = bought at_shop buy pay i [] written token ann

  abbrev pub bank : Kept
  bank = paid at_bank buy pay i [] written token ann

  abbrev both : List Kept
  both = shop ∷ (bank ∷ [])

  -- ---- joined and quiet

  differ : NamesDiffer both
  differ = one_pair (λ s t. me s ≢ me t) shop bank (names_differ shop_name bank_name refl)

  shop_joined : All (HasPartner both shop) shop.journal
  shop_joined = All-from_recursion (HasPartner both shop) shop.journal
      (tt, ((ok, (1, true, (2, omega arith, refl))), ((1, true, (2, omega arith, refl)), (tt, (tt, tt)))))

  bank_joined : All (HasPartner both bank) bank.journal
  bank_joined = All-from_recursion (HasPartner both bank) bank.journal (tt, ((0, omega arith, refl), (tt, tt)))

  joined : IsJoined both
  joined = all_two (λ s. All (HasPartner both s) s.journal) shop bank shop_joined bank_joined

  shop_quiet : IsQuiet shop
  shop_quiet = record {
    landed = refl;
    current = (record { alive = refl; version = refl; request = refl; reads = All-nil _; answers = refl; handler = λ _. refl }, tt);
    acknowledged = all_one (λ (r : Register). r.acked ≡ r.version) _ refl;
    fetched = all_one (λ (r : Register). owes_fetch r ≡ false) _ refl;
    given = All-nil (λ (p : Reply). p.due ≡ false);
  }

  pub bank_quiet : IsQuiet bank
  bank_quiet = record {
    landed = refl;
    current = (record { alive = refl; version = refl; request = refl; reads = All-nil _; answers = refl; handler = λ _. refl }, tt);
    acknowledged = All-nil (λ (r : Register). r.acked ≡ r.version);
    fetched = All-nil (λ (r : Register). owes_fetch r ≡ false);
    given = all_one (λ (p : Reply). p.due ≡ false) _ refl;
  }

  quiet : AreQuiet both
  quiet = all_two IsQuiet shop bank shop_quiet bank_quiet

  -- ---- the shop fits its journal

  shop_sent : FitsSent shop.journal shop.registers
  shop_sent = record {
    rows = ((refl, refl, refl), (tt, (tt, (tt, (tt, tt)))));
    registers = λ n. elim (cases_Bool (nat_eq 1 n)) [
      | inl is ↦ rw is refl
      | inr other ↦ rw other refl
    ];
    count = refl;
    numbered = (refl, tt);
  }

  shop_seen : FitsSeen shop.journal shop.registers
  shop_seen = record {
    rows = (tt, (refl, ((refl, tt, tt), (tt, (tt, tt)))));
    registers = λ n. elim (cases_Bool (nat_eq 1 n)) [
      | inl is ↦ rw is (record { acked = refl; answer = refl; noted = (refl, refl, refl) })
      | inr other ↦ rw other tt
    ];
    answered = λ n told. elim (cases_Bool (nat_eq 1 n)) [
      | inl is ↦ rw is refl
      | inr other ↦ (let none : false ≡ true = rw other at told in cc)
    ];
    heard = λ n. elim (cases_Bool (nat_eq 1 n)) [
      | inl is ↦ rw is (omega arith)
      | inr other ↦ rw other (omega arith)
    ];
    told = λ n. omega arith;
  }

  shop_asked : FitsAsked shop.journal shop.entries
  shop_asked = record {
    rows = (tt, (tt, (tt, (refl, (tt, tt)))));
    count = refl;
    distinct = (record { id = refl; origin = refl }, tt);
    entries = λ n. elim (cases_Bool (nat_eq 1 n)) [
      | inl is ↦ rw is refl
      | inr other ↦ rw other refl
    ];
    calls = λ c n. (λ h. h, λ h. h);
    now = all_one (IsAsNow shop.journal) _ (record { version = refl; wanted = refl; request = refl; struck = refl });
  }

  shop_fits : AllRuns at_shop shop.entries → Fits shop
  shop_fits runs = record {
    sent = shop_sent;
    seen = shop_seen;
    taken = (tt, (tt, (tt, (tt, (refl, tt)))));
    asked = shop_asked;
    runs = runs;
    answered = record {
      rows = (tt, (tt, (tt, (tt, ((refl, refl, λ _. (refl, tt)), tt)))));
      entries = all_one (HasAnswered shop.journal) _ (record { answer = refl; first = λ e. cc });
    };
    replies = record {
      rows = (tt, (tt, (tt, (tt, (tt, tt)))));
      entries = all_one (λ (e : Entry). HasReply shop.journal shop.replies e e.origin) _ refl;
      others = All-nil _;
      rising = tt;
    };
    places = record {
      calls = all_one (WantsItsCalls shop.registers) _ refl;
      once = λ n. elim (cases_Bool (nat_eq 1 n)) [
        | inl is ↦ rw is refl
        | inr other ↦ rw other refl
      ];
    };
    flights = record { numbered = All-nil _; others = no_pairs AreOther; untaken = All-nil _ };
    orders = (tt, (tt, (tt, (tt, (tt, tt)))));
    horizon = record { within = omega arith; last = refl; each = All-nil _; replayed = record { traces = []; replay = refl } };
    programs = record {
      rows = (tt, (tt, (tt, ((refl, refl), (tt, tt)))));
      newest = refl;
      current = record { there = refl; stands = refl };
      rules = refl;
      past = All-nil _;
      entries = all_one (IsUnder shop.setting.program shop.journal) _ (record { number = refl; now = record { there = refl; stands = refl }; ran = refl });
      flights = All-nil _;
    };
  }

  -- ---- the bank fits its journal

  one_call : (b : Bool) (e : Entry) → IsSome (cond b (Some e) None) ↔ ((false || ((b && true) || (false || false))) ≡ true)
  one_call true e = (λ _. refl, λ _. refl)
  one_call false e = (λ h. h, λ h. h)

  bank_asked : FitsAsked bank.journal bank.entries
  bank_asked = record {
    rows = (refl, (tt, (tt, tt)));
    count = refl;
    distinct = (record { id = refl; origin = refl }, tt);
    entries = λ n. elim (cases_Bool (nat_eq 1 n)) [
      | inl is ↦ rw is refl
      | inr other ↦ rw other refl
    ];
    calls = λ c n. one_call (same_text shop_name c && nat_eq 1 n) _;
    now = all_one (IsAsNow bank.journal) _ (record { version = refl; wanted = refl; request = refl; struck = refl });
  }

  pub bank_fits : AllRuns at_bank bank.entries → Fits bank
  bank_fits runs = record {
    sent = record { rows = (tt, (tt, (tt, tt))); registers = λ n. refl; count = refl; numbered = tt };
    seen = record { rows = (tt, (tt, (tt, tt))); registers = λ n. tt; answered = λ n told. cc; heard = λ n. omega arith; told = λ n. omega arith };
    taken = (tt, ((omega arith, (refl, refl)), (refl, tt)));
    asked = bank_asked;
    runs = runs;
    answered = record {
      rows = (tt, (tt, ((refl, refl, λ _. (refl, (refl, refl, refl))), tt)));
      entries = all_one (HasAnswered bank.journal) _ (record { answer = refl; first = λ e. cc });
    };
    replies = record {
      rows = (tt, (tt, (tt, tt)));
      entries = all_one (λ (e : Entry). HasReply bank.journal bank.replies e e.origin) _
          (record { caller = refl; number = refl; version = refl; wanted = refl; answer_version = refl; due = refl });
      others = all_one (λ (p : Reply). IsSome (find (has_id p.id) bank.entries)) _ refl;
      rising = (tt, tt);
    };
    places = record { calls = all_one (WantsItsCalls bank.registers) _ refl; once = λ n. refl };
    flights = record { numbered = All-nil _; others = no_pairs AreOther; untaken = All-nil _ };
    orders = (tt, (tt, (tt, tt)));
    horizon = record { within = omega arith; last = refl; each = All-nil _; replayed = record { traces = []; replay = refl } };
    programs = record {
      rows = ((refl, refl), (tt, (tt, tt)));
      newest = refl;
      current = record { there = refl; stands = refl };
      rules = refl;
      past = All-nil _;
      entries = all_one (IsUnder bank.setting.program bank.journal) _ (record { number = refl; now = record { there = refl; stands = refl }; ran = refl });
      flights = All-nil _;
    };
  }

  -- ---- one legal execution, where the records are what runs gave

  legal : IsRun at_shop i (made at_shop buy pay i [] written token ann) → IsRun at_bank i (paid_made at_bank buy pay i [] written token ann)
      → AreLegal both
  legal shop_ran bank_ran =
      legal_together both
      (all_two Fits shop bank (shop_fits (all_one (λ (e : Entry). IfSome e.made (IsRun (setting_ran at_shop e) e.inputs)) _ shop_ran))
      (bank_fits (all_one (λ (e : Entry). IfSome e.made (IsRun (setting_ran at_bank e) e.inputs)) _ bank_ran)))
      differ joined quiet

  -- ---- what is refused

  abbrev idle_bank : Kept
  idle_bank = start at_bank buy pay i [] written token ann

  abbrev apart : List Kept
  apart = shop ∷ (idle_bank ∷ [])

  -- the shop's rows have no partners at a bank that knows of nothing
  unjoined : IsJoined apart → ⊥
  unjoined h =
      let rows = All-head (λ s. All (HasPartner apart s) s.journal) shop (idle_bank ∷ []) h in
      let saw_ack = rows 1 (sent at_shop buy pay i [] written token ann) (omega arith) in
      absurd (omega (arith, saw_ack.1.2.1))

  -- and its call led to no request there
  illegal : IsLegalTogether (histories apart) → ⊥
  illegal h =
      let world = histories apart in
      let of_shop = All-head (λ y. All (CallsAreServed world y) y.acts) (history shop) (histories (idle_bank ∷ [])) h.served in
      (All-head (CallsAreServed world (history shop)) _ [] of_shop refl).0
