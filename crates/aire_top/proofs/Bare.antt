-- An end of which the status alone is known.
use Rattle.std.proofs.Common.{◌≡◌, ◌∙◌, ℕ, List, [], ap, inl, inr, refl}
use Rattle.io_edge.specs.Edge.{Writes}
use Rattle.command_ends.specs.Ends.{Closes as ClosesWith, EndsWith, LacksMemory as Lacks, unread_line}
use Rattle.aire_top.specs.Closings.{Closes}
use Rattle.aire_top.specs.Endings.{Answer, LacksMemory, nothing}

pub lacks_bare : (before now : Writes) (status : ℕ) (a : Answer) → a ≡ nothing status → Lacks before now status → LacksMemory before now a
lacks_bare before now status a is lacks = record { answered = is ∙ ap nothing lacks.answered; ends = lacks.ends }

pub closes_bare : (before now : Writes) (good : ℕ) (line : List ℕ) (status : ℕ) (a : Answer) → a ≡ nothing status → ClosesWith before now good line status → Closes before now (nothing good) line a
closes_bare before now good line status a is (inl ends) = inl (is ∙ ap nothing ends.0, ends.1)
closes_bare before now good line status a is (inr lacks) = inr (lacks_bare before now status a is lacks)

pub unread_bare : (before now : Writes) (status : ℕ) (a : Answer) → a ≡ nothing status → status ≡ 4 → EndsWith before now [] unread_line → Closes before now (nothing 4) unread_line a
unread_bare before now status a is four ends = inl (is ∙ ap nothing four, ends)

-- ---- the same of what is answered with this status

pub lacks_now : (before now : Writes) (status : ℕ) → Lacks before now status → LacksMemory before now (nothing status)
lacks_now before now status lacks = lacks_bare before now status (nothing status) refl lacks

pub unread_now : (before now : Writes) (status : ℕ) → status ≡ 4 → EndsWith before now [] unread_line → Closes before now (nothing 4) unread_line (nothing status)
unread_now before now status four ends = unread_bare before now status (nothing status) refl four ends

pub closes_now : (before now : Writes) (status : ℕ) (line : List ℕ) → EndsWith before now [] line → Closes before now (nothing status) line (nothing status)
closes_now before now status line ends = inl (refl, ends)

-- words that don't fit, of what is answered with this status
pub misused_now : (before now : Writes) (good : ℕ) (line : List ℕ) (status : ℕ) → ClosesWith before now good line status → Closes before now (nothing good) line (nothing status)
misused_now before now good line status closes = closes_bare before now good line status (nothing status) refl closes
