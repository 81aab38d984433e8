-- The connection on which an operator asked that a run ends.
use Rattle.std.specs.Prelude.{◌≡◌, ◌&&◌, ℕ, Bool, List, [], ◌++◌, Some, Ok, IsTrue, codes, length, take}
use Rattle.std.specs.List.{list_any}
use Rattle.std.specs.Option.{ForSome}
use Rattle.lang_base.specs.Texts.{same_text}
use Rattle.io_edge.specs.Edge.{Reads, Writes}
use Rattle.http_front.specs.Reading.{SpellsRequest}
use Rattle.http_front.specs.Writing.{response_bytes}
use Rattle.http_front.specs.declared.message.WireRequest.{WireRequest}
use Rattle.wire_fields.specs.Secrets.{Secrets}
use Rattle.wire_fields.specs.declared.console.ConsoleRequest.{ConsoleRequest}
use Rattle.wire_fields.specs.declared.console.ConsoleWord.TheVariants.{Stop}
use Rattle.aire_wire.specs.Incoming.{incoming}
use Rattle.aire_wire.specs.declared.incoming.Incoming.TheVariants.{Console}
use Rattle.wire_bytes.specs.Console.{console_reply}
use Rattle.world_file.specs.declared.setup.Setup.{Setup}

-- ---- what was asked

-- these bytes are this request of an operator and nothing more: to the service of this name, sealed with this console secret, whatever its peers
pub record IsAsked (me console bytes : List ℕ) (asked : ConsoleRequest) : Type 0 where
  pub request : WireRequest
  pub spelled : SpellsRequest bytes (Ok request) []
  pub says : (peers : Secrets) → incoming me peers console request ≡ Ok (Console asked)

-- where a connection tells its bytes, what was taken from it is that
abbrev pub WasAsked : List ℕ → List ℕ → Reads → ConsoleRequest → Type 0
WasAsked me console reads asked =
    ForSome reads.whole (λ all. (taken : List ℕ) × (rest : List ℕ) × (reads.left ≡ Some rest) × (all ≡ taken ++ rest) × IsAsked me console taken asked)

-- and it is to stop
pub record WasAskedToStop (me console : List ℕ) (reads : Reads) : Type 0 where
  pub asked : ConsoleRequest
  pub stop : asked.word ≡ Stop
  pub was : WasAsked me console reads asked

-- ---- what was replied

abbrev pub stop_json : List ℕ
stop_json = codes "{\"stopped\":true}"

-- the reply to it
abbrev pub stop_bytes : List ℕ
stop_bytes = response_bytes (console_reply stop_json)

-- of a connection that tells its bytes: this was written to it, or a front of it where a write failed
abbrev pub WasReplied : Reads → Writes → List ℕ → Type 0
WasReplied reads writes reply =
    ForSome reads.whole (λ _. ForSome writes.written (λ all. (all ≡ take (length all) reply) × (writes.faults ≡ 0 → all ≡ reply)))

-- nothing was written to it
abbrev pub IsUnwritten : Reads → Writes → Type 0
IsUnwritten reads writes = ForSome reads.whole (λ _. writes.written ≡ Some [])

-- ---- whose it is

-- it has this name, and its console this secret
abbrev pub is_of : List ℕ → List ℕ → Setup → Bool
is_of service console setup = same_text setup.setting.me service && same_text setup.console console

-- one of them is so
abbrev pub IsOfOne : List Setup → List ℕ → List ℕ → Type 0
IsOfOne setups service console = IsTrue (list_any (is_of service console) setups)
