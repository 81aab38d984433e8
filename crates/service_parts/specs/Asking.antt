-- The question that rules are asked of a repair, by the path that it brings.
use Rattle.std.specs.Prelude.{ℕ, List, Option, option_map}
use Rattle.lang_core.specs.declared.request.Request.{Request}
use Rattle.repair_messages.specs.declared.kinds.Kind.{Kind}
use Rattle.authorise_rules.specs.Deciding.{Question}

-- of a repair of this kind, from this sender, for this user, by the old request and the new path, where they exist
abbrev pub question_by : Kind → Option (List ℕ) → List ℕ → Option Request → Option (List ℕ) → Question
question_by kind from who old new_path =
    record {
      kind = kind;
      from = from;
      who = who;
      original = option_map (λ (q : Request). q.who) old;
      old_path = option_map (λ (q : Request). q.path) old;
      new_path = new_path;
    }
