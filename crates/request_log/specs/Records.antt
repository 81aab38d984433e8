-- What is kept of an entry's last run, whatever else of it goes: what the entry was then, what it called and consumed, and what it answered.
use Rattle.std.specs.Prelude.{ℕ, Bool, List, [], Option, Some, None, option_map}
use Rattle.lang_core.specs.declared.request.Request.{Request}
use Rattle.lang_core.specs.declared.request.Response.{Response}
use Rattle.lang_core.specs.declared.trace.CallMade.{CallMade}
use Rattle.request_log.specs.declared.entry.Entry.{Entry}
use Rattle.request_log.specs.declared.entry.Made.{Made}

pub record Record : Type 0 where
  -- whether the entry was alive, and its version and request
  pub alive : Bool
  pub version : ℕ
  pub request : Request
  -- its calls by slot, the answers that they consumed, and its response
  pub calls : List CallMade
  pub answers : List Response
  pub response : Response

abbrev pub record_in : Made → Record
record_in m =
    record {
      alive = m.alive;
      version = m.version;
      request = m.request;
      calls = m.trace.calls;
      answers = m.trace.answers;
      response = m.trace.response;
    }

-- the record of an entry; none where it never ran
abbrev pub record_of : Entry → Option Record
record_of e = option_map record_in e.made

-- the calls of a record, if there is one
abbrev pub recorded_calls : Option Record → List CallMade
recorded_calls None = []
recorded_calls (Some r) = r.calls
