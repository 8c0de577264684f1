use Rattle.explain_clock.proofs.KeptLines.{kept_more}
use Rattle.explain_clock.proofs.facts.ClockFacts.keep.Goals as goal

pub returns : goal.returns
returns c =
    kept_more c.args.self.now c.args.kept.now.items c.push.new.self.items (record { event = c.args.event; lines = c.in_ok-keeper_lines.field-0 }) c.requires.kept
    c.in_ok-push.ensures.items c.in_ok-keeper_lines.ensures
