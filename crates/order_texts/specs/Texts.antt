-- Which orders are made of the texts that operators give with them.
use Rattle.std.specs.Prelude.{ℕ, List, Result, Ok, Err}
use Rattle.lang_tree.specs.declared.program.Route.{Route}
use Rattle.handler_lang.specs.Reading.{read_of}
use Rattle.handler_lang.specs.declared.refused.ProgramRefused.{ProgramRefused}
use Rattle.handler_lang.specs.declared.refused.ProgramRefused.TheVariants as refused
use Rattle.authorise_rules.specs.Given.{GivenRules, given_of}
use Rattle.authorise_rules.specs.Refusals.{line_refused}
use Rattle.authorise_rules.specs.declared.refused.RulesRefused.{RulesRefused}
use Rattle.journal_rows.specs.declared.orders.Command.{Command}
use Rattle.journal_rows.specs.declared.orders.Command.TheVariants as command
use Rattle.order_texts.specs.declared.refused.TextFault.{TextFault}
use Rattle.order_texts.specs.declared.refused.TextFault.TheVariants as fault
use Rattle.order_texts.specs.declared.text_order.TextOrder.{TextOrder}
use Rattle.order_texts.specs.declared.text_order.TextOrder.TheVariants.{Deploy, Correct, Rules}

-- the byte of a text at which it is refused as a program
abbrev pub place_refused : ProgramRefused → ℕ
place_refused refused.NoMemory = 0
place_refused (refused.Unexpected at) = at
place_refused (refused.BadString at) = at
place_refused (refused.BadNumber at) = at
place_refused (refused.BadPattern at) = at
place_refused (refused.TooDeep at) = at
place_refused (refused.TooLong at) = at

abbrev pub placed : Result (List Route) ProgramRefused → Result (List Route) ℕ
placed (Ok program) = Ok program
placed (Err why) = Err (place_refused why)

-- the program that a text spells, or the byte at which it spells none
abbrev pub program_given : List ℕ → Result (List Route) ℕ
program_given text = placed (read_of text)

abbrev pub lined : Result GivenRules RulesRefused → Result GivenRules ℕ
lined (Ok rules) = Ok rules
lined (Err why) = Err (line_refused why)

-- the rules that a text spells, or the first line that is none
abbrev pub rules_given : List ℕ → Result GivenRules ℕ
rules_given text = lined (given_of text)

abbrev pub order_of_program : (List Route → Command) → Result (List Route) ℕ → Result Command TextFault
order_of_program order (Ok program) = Ok (order program)
order_of_program order (Err at) = Err (fault.Program at)

abbrev pub deploy_given : List ℕ → Result Command TextFault
deploy_given text = order_of_program command.Deploy (program_given text)

abbrev pub correct_given : ℕ → List ℕ → Result Command TextFault
correct_given number text = order_of_program (command.Correct number) (program_given text)

abbrev pub ruled : Result GivenRules ℕ → Result Command TextFault
ruled (Ok rules) = Ok (command.Rules rules)
ruled (Err line) = Err (fault.Rules line)

abbrev pub order_of_rules : List ℕ → Result Command TextFault
order_of_rules text = ruled (rules_given text)

-- the order that a text is given for; or where the text is no program, or no rules
abbrev pub command_given : TextOrder → List ℕ → Result Command TextFault
command_given Deploy text = deploy_given text
command_given (Correct number) text = correct_given number text
command_given Rules text = order_of_rules text
