-- Entries that are folded: nothing of them is repaired any more, and what they read and wrote is gone.
use Rattle.std.specs.Prelude.{ℕ, Bool, ◌&&◌, not, List, [], ◌++◌, Option, Some, None, nat_eq, map, option_map}
use Rattle.lang_core.specs.Origins.{is_call}
use Rattle.lang_programs.specs.Under.{under_of}
use Rattle.request_log.specs.Records.{Record, record_of}
use Rattle.request_log.specs.declared.entry.Entry.{Entry}
use Rattle.request_log.specs.declared.folded.Folded.{Folded}

-- what is kept of an entry with this record
abbrev pub folded_with : Entry → Record → Folded
folded_with e r =
    record {
      id = e.id;
      origin = e.origin;
      version = e.version;
      request = e.request;
      wanted = e.wanted;
      struck = e.struck;
      inputs = e.inputs;
      program = e.under.now;
      calls = r.calls;
      answers = r.answers;
      slots = e.slots;
      response = r.response;
      answer_version = e.answer_version;
      runs = e.runs;
    }

-- what is kept of an entry; nothing where it never ran
abbrev pub folded_as : Entry → Option Folded
folded_as e = option_map (folded_with e) (record_of e)

-- the folded entry has this number
abbrev pub has_number : ℕ → Folded → Bool
has_number id f = nat_eq f.id id

-- the folded entry comes from this call
abbrev pub has_caller : List ℕ → ℕ → Folded → Bool
has_caller caller number f = is_call caller number f.origin

-- a folded entry as an entry: its record is of it as it is, under its own program, and read and wrote nothing
abbrev pub as_entry : Folded → Entry
as_entry f =
    record {
      id = f.id;
      origin = f.origin;
      version = f.version;
      request = f.request;
      wanted = f.wanted;
      struck = f.struck;
      inputs = f.inputs;
      under = under_of f.program;
      made = Some (record {
        alive = f.wanted && not f.struck;
        version = f.version;
        request = f.request;
        trace = record { reads = []; calls = f.calls; answers = f.answers; writes = []; response = f.response };
      });
      slots = f.slots;
      answer_version = f.answer_version;
      runs = f.runs;
    }

-- all entries of a log, the folded ones first
abbrev pub whole : List Folded → List Entry → List Entry
whole folded entries = map as_entry folded ++ entries

abbrev pub bare_by : Entry → Option Record → Entry
bare_by e None = e
bare_by e (Some r) = as_entry (folded_with e r)

-- an entry as it is once it is folded; one that never ran stays
abbrev pub bare : Entry → Entry
bare e = bare_by e (record_of e)
