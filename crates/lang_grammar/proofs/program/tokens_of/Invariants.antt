use Rattle.std.proofs.Common.{◌≡◌, ◌++◌, drop}
use Rattle.lang_grammar.specs.Grammar.{program_tokens}
use Rattle.lang_grammar.proofs.program.tokens_of.Given as goal

abbrev pub invariant-loop-route : goal.invariant-loop-route
invariant-loop-route l = l.out.items ++ program_tokens (drop l.route-index l.routes) ≡ program_tokens l.fn.routes
