-- What an operator's command comes to in a service: all that is asked of it before it is carried out.
use Rattle.std.specs.Prelude.{ℕ, Option, Some, None, option_map}
use Rattle.std.specs.Option.{option_copied}
use Rattle.lang_core.specs.declared.request.Request.{Request}
use Rattle.request_log.specs.Entries.{with_call}
use Rattle.repair_messages.specs.declared.kinds.Kind.{Kind}
use Rattle.journal_rows.specs.declared.orders.About.{About}
use Rattle.journal_rows.specs.declared.orders.Command.{Command}
use Rattle.journal_rows.specs.declared.orders.Command.TheVariants.{Create}
use Rattle.service_events.specs.State.{Kept}
use Rattle.service_events.specs.Orders.{about, made_under, misnamed, original, repaired, subject}
use Rattle.service_events.specs.Questions.{command_kind}
use Rattle.service_events.specs.declared.refusals.OrderRefused.{OrderRefused}
use Rattle.service_repairs.specs.declared.resolving.Created.{Created}
use Rattle.service_repairs.specs.declared.resolving.Put.{Put}
use Rattle.service_repairs.specs.declared.resolving.Resolved.{Resolved}

-- an entry that is made: its request, and the number of the program under which it runs
pub record Creation : Type 0 where
  pub request : Request
  pub program : ℕ

-- a command, with the answers to all that is asked of it
pub record Resolution : Type 0 where
  pub command : Command
  pub misnamed : Option OrderRefused
  pub kind : Kind
  pub about : About
  pub subject : Option Request
  pub original : Option Request
  pub repaired : Option Request
  pub created : Option Creation

-- the entry that a command makes
abbrev pub creation : Kept → Command → Option Creation
creation s (Create before after q) = Some (record { request = q; program = (made_under s before after).number })
creation s command = None

abbrev pub resolution : Kept → Command → Resolution
resolution s command =
    record {
      command = command;
      misnamed = misnamed s command;
      kind = command_kind command;
      about = about s command;
      subject = subject s command;
      original = original s command;
      repaired = repaired s command;
      created = creation s command;
    }

-- ---- as the code holds it

abbrev pub put_request : Put → Request
put_request p = with_call p.method p.path.now p.body.now p.like.now

abbrev pub creation_of : Created → Creation
creation_of c = record { request = c.request.now; program = c.program }

abbrev pub resolved : Resolved → Resolution
resolved r =
    record {
      command = r.command.now;
      misnamed = r.misnamed;
      kind = r.kind;
      about = r.about;
      subject = option_copied r.subject;
      original = option_copied r.original;
      repaired = option_map put_request r.put;
      created = option_map creation_of r.created;
    }
