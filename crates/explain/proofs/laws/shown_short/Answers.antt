use Rattle.explain.proofs.ShownShort.{shown_brief as brief_proved, shown_short as one_proved}
use Rattle.explain.proofs.laws.shown_short.Goals as goal

pub returns : goal.returns
returns c = record { usual = one_proved; short = brief_proved }
