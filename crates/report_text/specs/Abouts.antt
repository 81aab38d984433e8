-- What an order is about, as a text.
use Rattle.std.specs.Prelude.{ℕ, ◌++◌, List, codes, decimal}
use Rattle.request_names.specs.Ids.{id_text}
use Rattle.journal_rows.specs.declared.orders.About.{About}
use Rattle.journal_rows.specs.declared.orders.About.TheVariants.{Request, Post, Program, Rules}
use Rattle.report_text.specs.Notices.{post_name_text}

-- `S/N` of a request of the service of this name, `call:N` or `reply:N` of a post, `program:N`, `rules`
abbrev pub about_text : List ℕ → About → List ℕ
about_text service (Request id) = id_text service id
about_text service (Post name) = post_name_text name
about_text service (Program number) = codes "program:" ++ decimal number
about_text service Rules = codes "rules"
