-- The dump of services that are one legal execution is read, and judged legal.
use Rattle.std.proofs.Common.{◌≡◌, ℕ, zero, suc, ◌<◌, true, List, [], ◌∷◌, map, length, sym, ap, ◌∙◌, subst, arith}
use Rattle.std.specs.Prelude.{All, Contains, slice_index_or}
use Rattle.std.specs.List.{AllByRecursion, list_all}
use Rattle.std.proofs.lemmas.Bool.{and_parts}
use Rattle.std.proofs.lemmas.List.Elements.{recursion_from_All}
use Rattle.lang_core.specs.Names.{is_name}
use Rattle.lang_core.specs.declared.ids.Origin.{Origin}
use Rattle.lang_core.specs.declared.ids.Origin.TheVariants.{Outside, Call}
use Rattle.lang_core.specs.declared.request.Request.{Request}
use Rattle.lang_core.specs.declared.setting.Setting.{Setting}
use Rattle.lang_core.specs.declared.trace.CallMade.{CallMade}
use Rattle.handler_chains.specs.Onward.{IsOnward}
use Rattle.execution.specs.Executions.{Act, History, Replays}
use Rattle.execution.specs.Together.{CallsAreServed, IsLegalTogether}
use Rattle.request_log.specs.Records.{record_of, recorded_calls}
use Rattle.request_log.specs.declared.entry.Entry.{Entry}
use Rattle.local_repair.specs.Current.{Consumed}
use Rattle.local_repair.specs.Histories.{act_of}
use Rattle.service_events.specs.Fits.{Fits}
use Rattle.service_events.specs.State.{Kept, answers, me}
use Rattle.world_agreement.specs.Legal.{histories, history}
use Rattle.world_agreement.specs.Partners.{IsJoined}
use Rattle.world_agreement.specs.Quiet.{AreQuiet}
use Rattle.world_agreement.proofs.LegalLaws.{legal_together}
use Rattle.dump_tables.specs.Kept.{IsSent}
use Rattle.dump_reader.proofs.OnlyLemmas.{read_only}
use Rattle.dump_lines.specs.Dumps.{dump_text}
use Rattle.dump_audit.proofs.LegalLaws.{so_legal}
use Rattle.dump_laws.specs.Dumped.{dumped, dumped_all, dumped_entry}
use Rattle.dump_laws.specs.Forms.{IsCallMade, IsDumpEntry, IsDumpService, IsFromOne, IsNumber, IsOrigin, IsProgram, IsResponse, IsSetting, IsWritten, IsWrittenEntry, IsWrittenOrigin}
use Rattle.dump_laws.specs.Law.{CanBeRead, IsReadAsLegal}
use Rattle.dump_laws.proofs.Histories.{dump_legal}
use Rattle.dump_laws.proofs.Keeping.{AreSent, dump_kept}
use Rattle.dump_laws.proofs.Numbered.{CountsFromOne, IsNumberedEntry, all_numbered}
use Rattle.dump_laws.proofs.Programs.{HasFormed, each_formed, programs_are}
use Rattle.dump_laws.proofs.Recorded.{AllRespondWell, IsFormed, IsRecorded, consumed_short, entries_recorded, responses_short, rows_short}
use Rattle.dump_laws.proofs.RunLimits.{IsShortCall}
use Rattle.dump_laws.proofs.Spelling.{dump_spells}

-- ---- calls

named_at : (names : List (List ℕ)) (d : List ℕ) (i : ℕ) → list_all is_name names ≡ true → i < length names → is_name (slice_index_or names i d) ≡ true
named_at [] d i all within = absurd (omega (arith, within))
named_at (name ∷ names) d zero all within = (and_parts (is_name name) (list_all is_name names) all).0
named_at (name ∷ names) d (suc i) all within = named_at names d i (and_parts (is_name name) (list_all is_name names) all).1 (omega (arith, within))

among_names : (names : List (List ℕ)) (name : List ℕ) → list_all is_name names ≡ true → Contains names name → is_name name ≡ true
among_names names name all there = ap is_name (sym there.2) ∙ named_at names name there.0 all there.1

calls_made : (me : List ℕ) (peers : List (List ℕ)) (q : Request) (cs : List CallMade) → list_all is_name peers ≡ true → AllByRecursion (IsOnward me peers q) cs → AllByRecursion IsShortCall cs → AllByRecursion IsCallMade cs
calls_made me peers q [] named onward short = tt
calls_made me peers q (c ∷ cs) named onward short =
    (record { dest = among_names peers c.dest named onward.0.peer; path = short.0.path; body = short.0.body }, calls_made me peers q cs named onward.1 short.1)

calls_sent : (me : List ℕ) (peers : List (List ℕ)) (q : Request) (cs : List CallMade) → AllByRecursion (IsOnward me peers q) cs → AllByRecursion (IsSent me q.chain) cs
calls_sent me peers q [] onward = tt
calls_sent me peers q (c ∷ cs) onward = ((onward.0.who, onward.0.chain), calls_sent me peers q cs onward.1)

-- ---- entries

ones : (ns : List ℕ) → AllByRecursion IsNumber ns → AllByRecursion (λ n. 0 < n) ns → AllByRecursion IsFromOne ns
ones [] small some = tt
ones (n ∷ ns) small some = ((some.0, small.0), ones ns small.1 some.1)

origin_form : (o : Origin) → IsWrittenOrigin o → CountsFromOne o → IsOrigin o
origin_form Outside written some = tt
origin_form (Call caller number) written some = (written.0, (some, written.1))

entry_form : (s : Setting) (consumed : Consumed) (e : Entry) → IsSetting s → IsWrittenEntry e → IsNumberedEntry e → IsRecorded s e → AllByRecursion IsResponse (map consumed e.slots) → IsDumpEntry (dumped_entry consumed e)
entry_form s consumed e setting written numbered recorded answered = record {
  id = (numbered.id, written.id);
  origin = origin_form e.origin written.origin numbered.origin;
  version = written.version;
  inputs = written.inputs;
  request = written.request;
  under = written.under;
  numbers = ones e.slots written.slots numbered.slots;
  calls = calls_made s.me s.peers e.request (recorded_calls (record_of e)) setting.peers recorded.onward recorded.calls;
  answers = answered;
  reply = recorded.reply;
}

abbrev Consumes : Act → Type 0
Consumes a = AllByRecursion IsResponse a.answers

entry_forms : (s : Setting) (consumed : Consumed) (entries : List Entry) → IsSetting s → AllByRecursion IsWrittenEntry entries → AllByRecursion IsNumberedEntry entries → AllByRecursion (IsRecorded s) entries
    → AllByRecursion Consumes (map (act_of consumed) entries) → AllByRecursion IsDumpEntry (map (dumped_entry consumed) entries)
entry_forms s consumed [] setting written numbered recorded answered = tt
entry_forms s consumed (e ∷ entries) setting written numbered recorded answered =
    (entry_form s consumed e setting written.0 numbered.0 recorded.0 answered.0, entry_forms s consumed entries setting written.1 numbered.1 recorded.1 answered.1)

entries_sent : (s : Setting) (entries : List Entry) → AllByRecursion (IsRecorded s) entries → AllByRecursion (AreSent s.me) entries
entries_sent s [] recorded = tt
entries_sent s (e ∷ entries) recorded = (calls_sent s.me s.peers e.request (recorded_calls (record_of e)) recorded.0.onward, entries_sent s entries recorded.1)

-- ---- services

abbrev ReplaysAlone : History → Type 0
ReplaysAlone h = Replays h.setting [] h.acts h.rows

abbrev AreServedIn : List History → History → Type 0
AreServedIn world h = All (CallsAreServed world h) h.acts

-- each request of its history runs under a program of the language's form
acts_formed : (consumed : Consumed) (entries : List Entry) → AllByRecursion HasFormed entries → AllByRecursion IsFormed (map (act_of consumed) entries)
acts_formed consumed [] formed = tt
acts_formed consumed (e ∷ entries) formed = (formed.0, acts_formed consumed entries formed.1)

formed_in : (s : Kept) → Fits s → IsWritten s → AllByRecursion IsFormed (history s).acts
formed_in s fits written = acts_formed (answers s) s.entries (each_formed s fits written)

recorded_in : (s : Kept) → Fits s → IsWritten s → ReplaysAlone (history s) → AllByRecursion (IsRecorded s.setting) s.entries
recorded_in s fits written r = entries_recorded s.setting [] (answers s) s.entries r.traces (history s).rows (each_formed s fits written) r.replay

service_form : (world : List History) → AllByRecursion AllRespondWell world → (s : Kept) → Fits s → IsWritten s → All IsNumberedEntry s.entries → ReplaysAlone (history s) → AreServedIn world (history s) → IsDumpService (dumped s)
service_form world well s fits written numbered r served =
    let set = written.setting in
    let each = recursion_from_All (CallsAreServed world (history s)) (history s).acts served in
    record {
      setting = record { me = set.me; peers = set.peers; program = set.program };
      later = (subst (AllByRecursion IsProgram) (programs_are s) written.programs).1;
      entries = entry_forms s.setting (answers s) s.entries set written.entries (recursion_from_All IsNumberedEntry s.entries numbered) (recorded_in s fits written r)
          (consumed_short world well (history s) [] (history s).acts r.traces (history s).rows each r.replay);
      rows = rows_short s.setting [] (history s).acts r.traces (history s).rows (formed_in s fits written) tt r.replay;
    }

abbrev IsNumberedService : Kept → Type 0
IsNumberedService s = All IsNumberedEntry s.entries

service_forms : (world : List History) → AllByRecursion AllRespondWell world → (services : List Kept) → AllByRecursion Fits services → AllByRecursion IsWritten services → AllByRecursion IsNumberedService services
    → AllByRecursion ReplaysAlone (histories services) → AllByRecursion (AreServedIn world) (histories services) → AllByRecursion IsDumpService (dumped_all services)
service_forms world well [] fits written numbered replay served = tt
service_forms world well (s ∷ services) fits written numbered replay served =
    (service_form world well s fits.0 written.0 numbered.0 replay.0 served.0, service_forms world well services fits.1 written.1 numbered.1 replay.1 served.1)

services_sent : (services : List Kept) → AllByRecursion Fits services → AllByRecursion IsWritten services → AllByRecursion ReplaysAlone (histories services) → AllByRecursion (λ (s : Kept). AllByRecursion (AreSent (me s)) s.entries) services
services_sent [] fits written replay = tt
services_sent (s ∷ services) fits written replay = (entries_sent s.setting s.entries (recorded_in s fits.0 written.0 replay.0), services_sent services fits.1 written.1 replay.1)

services_respond : (services : List Kept) → AllByRecursion Fits services → AllByRecursion IsWritten services → AllByRecursion ReplaysAlone (histories services) → AllByRecursion AllRespondWell (histories services)
services_respond [] fits written replay = tt
services_respond (s ∷ services) fits written replay = (
  responses_short s.setting [] (history s).acts replay.0.traces (history s).rows (formed_in s fits.0 written.0) replay.0.replay,
  services_respond services fits.1 written.1 replay.1,
)

-- ---- the law

read_and_legal : (services : List Kept) → CanBeRead services → AllByRecursion IsNumberedService services → IsLegalTogether (histories services) → IsReadAsLegal services
read_and_legal services can numbered legal =
    let world = histories services in
    let replay = recursion_from_All ReplaysAlone world legal.alone.replayed in
    let fits = recursion_from_All Fits services can.fit in
    let well = services_respond services fits can.written replay in
    let forms = service_forms world well services fits can.written numbered replay (recursion_from_All (AreServedIn world) world legal.served) in
    let kept = dump_kept services can.fit can.differ (services_sent services fits can.written replay) in
    record {
      read = read_only (dump_text services) (dumped_all services) kept (dump_spells services forms can.utf8) can.short;
      legal = so_legal (dumped_all services) (dump_legal services legal);
    }

-- where the audit of services is Legal, which is to say that they are joined and quiet, their dump is read as what it says of them, and judged legal
pub audited_is_read : (services : List Kept) → CanBeRead services → IsJoined services → AreQuiet services → IsReadAsLegal services
audited_is_read services can joined quiet =
    let numbered = all_numbered services (record { fits = can.fit; differ = can.differ; joined = joined }) in
    read_and_legal services can (recursion_from_All IsNumberedService services numbered) (legal_together services can.fit can.differ joined quiet).together
