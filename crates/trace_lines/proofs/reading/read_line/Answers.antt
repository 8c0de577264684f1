use Rattle.std.proofs.Common.{◌≡◌, ℕ, List, Option, Some, None}
use Rattle.std.specs.Prelude.{IfSome, IfNone}
use Rattle.std.specs.Option.{option_map}
use Rattle.monitor_laws.specs.Lines.{TraceLine as Line}
use Rattle.trace_lines.specs.declared.line.TraceLine.{TraceLine}
use Rattle.trace_lines.specs.Grammar.{IsLine}
use Rattle.trace_lines.specs.Values.{line_value}
use Rattle.trace_lines.specs.inside.Reading.{trace_line_at}
use Rattle.trace_lines.proofs.Again.{read_is}
use Rattle.trace_lines.proofs.reading.read_line.Goals as goal

by_value : (bytes : List ℕ) (o : Option TraceLine) → option_map line_value o ≡ trace_line_at bytes → IfSome o (λ l. IsLine bytes (line_value l)) × IfNone o ((l : Line) → IsLine bytes l → ⊥)
by_value bytes None e = read_is bytes None e
by_value bytes (Some l) e = read_is bytes (Some (line_value l)) e

pub returns : goal.returns
returns c = let r = by_value c.args.bytes.now c.trace_line_at.result c.trace_line_at.ensures in record { read = r.0; none = r.1 }
