use Rattle.std.proofs.Common.{◌≡◌, map, take}
use Rattle.trace_lines.specs.Grammar.{kept_byte}
use Rattle.monitor_state.proofs.places.kept_place.Given as goal

-- so far
abbrev pub invariant-loop-byte : goal.invariant-loop-byte
invariant-loop-byte l = l.place.items ≡ map kept_byte (take l.byte-index l.raw)
