-- The texts of the services of `@posts` are programs and rules.
use Rattle.std.proofs.Common.{◌≡◌, true, length, is_ok, refl, codes}
use Rattle.lang_tokens.specs.Lexing.{is_word_part, mark_at, past_gap, quoted, run, string_from, tokens}
use Rattle.lang_reader.specs.Readers.{path_in, part_in, number_in as number_of, text_in, pair_in, expr_in, expr_at, let_in, get_in, put_in, drop_in, each_in, else_in, if_in, call_in, now_in, random_in, reply_in, stmt_in, stmts_in, block_in, block_at, route_in, route_at, routes_in, program_of}
use Rattle.handler_lang.specs.Reading.{read_of}
use Rattle.authorise_rules.specs.Given.{given_of as rules_of}
use Rattle.world_file.specs.Programs.{askbot_text, dpaste_text, oauth_text}
use Rattle.aire_top.proofs.PlainTexts.{are_plain, is_plain_at, plain, plain_at, plain_read}

pub rules_there : is_ok (rules_of (codes "allow any any any /")) ≡ true
rules_there = refl

oauth_plain : are_plain (length oauth_text) oauth_text ≡ true
unfolding are_plain plain_at is_plain_at oauth_text is_word_part past_gap run quoted string_from mark_at
oauth_plain = refl

oauth_program : is_ok (program_of (tokens (plain (length oauth_text) (length oauth_text) oauth_text))) ≡ true
unfolding plain plain_at oauth_text is_word_part past_gap run quoted string_from mark_at path_in part_in number_of text_in pair_in expr_in expr_at let_in get_in put_in drop_in each_in else_in if_in call_in now_in random_in reply_in stmt_in stmts_in block_in block_at route_in route_at routes_in
oauth_program = refl

pub oauth_there : is_ok (read_of oauth_text) ≡ true
oauth_there = plain_read oauth_text (unfold oauth_text in refl) oauth_plain oauth_program

askbot_plain : are_plain (length askbot_text) askbot_text ≡ true
unfolding are_plain plain_at is_plain_at askbot_text is_word_part past_gap run quoted string_from mark_at
askbot_plain = refl

askbot_program : is_ok (program_of (tokens (plain (length askbot_text) (length askbot_text) askbot_text))) ≡ true
unfolding plain plain_at askbot_text is_word_part past_gap run quoted string_from mark_at path_in part_in number_of text_in pair_in expr_in expr_at let_in get_in put_in drop_in each_in else_in if_in call_in now_in random_in reply_in stmt_in stmts_in block_in block_at route_in route_at routes_in
askbot_program = refl

pub askbot_there : is_ok (read_of askbot_text) ≡ true
askbot_there = plain_read askbot_text (unfold askbot_text in refl) askbot_plain askbot_program

dpaste_plain : are_plain (length dpaste_text) dpaste_text ≡ true
unfolding are_plain plain_at is_plain_at dpaste_text is_word_part past_gap run quoted string_from mark_at
dpaste_plain = refl

dpaste_program : is_ok (program_of (tokens (plain (length dpaste_text) (length dpaste_text) dpaste_text))) ≡ true
unfolding plain plain_at dpaste_text is_word_part past_gap run quoted string_from mark_at path_in part_in number_of text_in pair_in expr_in expr_at let_in get_in put_in drop_in each_in else_in if_in call_in now_in random_in reply_in stmt_in stmts_in block_in block_at route_in route_at routes_in
dpaste_program = refl

pub dpaste_there : is_ok (read_of dpaste_text) ≡ true
dpaste_there = plain_read dpaste_text (unfold dpaste_text in refl) dpaste_plain dpaste_program
