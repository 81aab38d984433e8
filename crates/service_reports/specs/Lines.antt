-- What a preview shows, as lines.
use Rattle.std.specs.Prelude.{ℕ, List, [], ◌∷◌, ◌++◌, Option, Some, None, codes}
use Rattle.std.specs.List.{flat_map}
use Rattle.std.specs.Option.{option_map_or}
use Rattle.lang_core.specs.declared.writes.Write.{Write}
use Rattle.request_names.specs.Ids.{id_text}
use Rattle.repair_messages.specs.Kinds.{kind_word}
use Rattle.repair_messages.specs.declared.posts.PostName.{PostName}
use Rattle.repair_messages.specs.declared.posts.PostName.TheVariants.{Call, Reply as OfReply, Fetch}
use Rattle.call_registers.specs.Replies.{reply}
use Rattle.call_registers.specs.declared.reply.Reply.{Reply}
use Rattle.service_events.specs.State.{Kept, me}
use Rattle.preview_core.specs.declared.told.PostOne.{PostOne}
use Rattle.preview_core.specs.declared.told.Preview.{Preview}
use Rattle.preview_core.specs.declared.told.RanOne.{RanOne}
use Rattle.report_text.specs.Reports.{body_behind, escaped_key, response_text}

-- `would run S/N = STATUS BODY`
abbrev pub run_line : List ℕ → RanOne → List ℕ
run_line me r = codes "would run " ++ (id_text me r.id ++ (codes " = " ++ (response_text r.response ++ codes "\n")))

-- `would VERB TABLE KEY`
abbrev pub place_text : List ℕ → List ℕ → List ℕ → List ℕ
place_text verb table key = codes "would " ++ (verb ++ (codes " " ++ (table ++ (codes " " ++ escaped_key key))))

-- `would set TABLE KEY TEXT`, `would drop TABLE KEY`
abbrev pub row_text : Write → Option (List ℕ) → List ℕ
row_text w None = place_text (codes "drop") w.table w.key ++ codes "\n"
row_text w (Some text) = place_text (codes "set") w.table w.key ++ (body_behind text ++ codes "\n")

abbrev pub row_line : Write → List ℕ
row_line w = row_text w w.text

-- CALL of a post: that of the call, or of the one that the reply is to
abbrev pub call_text : Kept → PostName → List ℕ
call_text s (Call number) = id_text (me s) number
call_text s (Fetch number) = id_text (me s) number
call_text s (OfReply id) = option_map_or (λ (p : Reply). id_text p.caller p.number) (reply id s.replies) []

-- `would post KIND CALL`
abbrev pub post_line : Kept → PostOne → List ℕ
post_line s p = codes "would post " ++ (kind_word p.kind ++ (codes " " ++ (call_text s p.name ++ codes "\n")))

-- the lines, or this one where there are none
abbrev pub or_line : List ℕ → List ℕ → List ℕ
or_line line [] = line
or_line line (b ∷ bytes) = b ∷ bytes

-- the lines, or `would nothing` where there are none
abbrev pub or_nothing : List ℕ → List ℕ
or_nothing lines = or_line (codes "would nothing\n") lines

abbrev pub shown_text : Kept → Preview → List ℕ
shown_text s p = flat_map (run_line (me s)) p.ran ++ (flat_map row_line p.rows ++ flat_map (post_line s) p.posts)
