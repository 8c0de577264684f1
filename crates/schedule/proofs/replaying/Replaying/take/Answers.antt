use Rattle.std.proofs.Common.{subst, sym}
use Rattle.schedule.specs.Replays.{IsFault, unreadable}
use Rattle.schedule.proofs.replaying.Replaying.take.Goals as goal

pub returns-in-Unreadable : goal.returns-in-Unreadable
returns-in-Unreadable c = record { taken = λ a of. subst (λ l. IsFault c.args.plan.now a l 1) (sym c.in-Unreadable.is) unreadable }
