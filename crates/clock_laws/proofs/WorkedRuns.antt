-- Small runs of the direct machine, by computation.
use Rattle.std.proofs.Common.{refl}
use Rattle.clock_laws.specs.calls.Direct.{has_ended, unstarted, waits_at_advance, waits_at_end}
use Rattle.clock_laws.specs.calls.WorkedRuns.{AreStuck, EndSo, stuck_runs, worked_runs}

pub runs_worked : EndSo worked_runs
runs_worked = (
  ((refl, waits_at_end 1 _ refl refl), ((refl, waits_at_advance 0 0 _ refl refl refl), tt)),
  (
    ((refl, has_ended refl refl), ((refl, has_ended refl refl), tt)),
    (
      ((refl, has_ended refl refl), tt),
      (
        ((refl, waits_at_end 1 _ refl refl), ((refl, waits_at_advance 0 0 _ refl refl refl), ((refl, unstarted refl), tt))),
        (
          ((refl, has_ended refl refl), ((refl, has_ended refl refl), ((refl, has_ended refl refl), tt))),
          (((refl, has_ended refl refl), ((refl, has_ended refl refl), tt)), tt),
        ),
      ),
    ),
  ),
)

pub runs_stuck : AreStuck stuck_runs
runs_stuck = (refl, (refl, (refl, (refl, (refl, tt)))))
