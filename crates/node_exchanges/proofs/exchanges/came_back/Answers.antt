use Rattle.std.proofs.Common.{subst, sym}
use Rattle.io_links.specs.Exchanges.{IsFailure}
use Rattle.node_exchanges.specs.Exchanging.{NotesRise}
use Rattle.node_exchanges.proofs.exchanges.came_back.Goals as goal

pub returns-in-Reply-clause-rose : goal.returns-in-Reply-clause-rose
returns-in-Reply-clause-rose c fails = absurd (subst IsFailure c.in-Reply.is fails)

pub returns-in-NoMemory-clause-rose : goal.returns-in-NoMemory-clause-rose
returns-in-NoMemory-clause-rose c fails = absurd (subst IsFailure c.in-NoMemory.is fails)

pub returns-in-Failed-clause-rose : goal.returns-in-Failed-clause-rose
returns-in-Failed-clause-rose c fails = subst NotesRise (sym c.in-Failed.is) c.in-Failed.note.rose
