-- What the lines that are read stand for.
use Rattle.std.specs.Prelude.{ℕ, List, Option, Some, None, map, ◌==◌}
use Rattle.std.specs.Borrow.{Bor}
use Rattle.std.specs.List.{slice_split}
use Rattle.monitor_laws.specs.Lines.{Announcement as Said, TraceLine as Line, Joins as SaysJoins, Arrives as SaysArrives, Leaves as SaysLeaves, Waits as SaysWaits, Goes as SaysGoes, Ends as SaysEnds, Stands as SaysStands, SaysNothing as Silent, AsksReport as WantsReport, AsksList as WantsList, AreGone as Gone, Announces as Announced, PlaysAny as AnyMayPlay, PlaysOneOf as OneOf}
use Rattle.trace_lines.specs.declared.line.Announcement.{Announcement}
use Rattle.trace_lines.specs.declared.line.Announcement.TheVariants.{Joins, Arrives, Leaves, Waits, Goes, Ends, Stands}
use Rattle.trace_lines.specs.declared.line.TraceLine.{TraceLine}
use Rattle.trace_lines.specs.declared.line.TraceLine.TheVariants.{SaysNothing, AsksReport, AsksList, AreGone, Announces, PlaysAny, PlaysOneOf}
use Rattle.trace_lines.specs.Grammar.{kept_byte}

-- what is said
abbrev pub said_value : Announcement → Said
said_value (Joins p n) = SaysJoins p.now n
said_value (Arrives p) = SaysArrives p.now
said_value (Leaves p) = SaysLeaves p.now
said_value (Waits p n) = SaysWaits p.now n
said_value Goes = SaysGoes
said_value Ends = SaysEnds
said_value Stands = SaysStands

-- a place as it is kept
abbrev pub place_value : Option (Bor (List ℕ)) → Option (List ℕ)
place_value None = None
place_value (Some raw) = Some (map kept_byte raw.now)

-- a line; the names of those who may play a wildcard stand one behind the other, a space between
abbrev pub line_value : TraceLine → Line
line_value SaysNothing = Silent
line_value AsksReport = WantsReport
line_value AsksList = WantsList
line_value (AreGone beginning) = Gone beginning.now
line_value (Announces t what place) = Announced t.now (said_value what) (place_value place)
line_value (PlaysAny w) = AnyMayPlay w.now
line_value (PlaysOneOf w names) = OneOf w.now (slice_split (λ b. b == 32) names.now)
