use Rattle.std.proofs.Common.{◌≡◌, ◌++◌, flat_map, string_bytes, take}
use Rattle.report_text.specs.Notices.{notice_line}
use Rattle.report_text.proofs.holds.push_notices.Given as goal

abbrev pub invariant-loop-notice : goal.invariant-loop-notice
invariant-loop-notice l = string_bytes l.text ≡ string_bytes l.initial.text ++ flat_map notice_line (take l.notice-index l.notices)
