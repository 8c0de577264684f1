-- The least lawful state of a board that detects deadlock.
use mathlib.Core.Path.{fun_ext}
use Rattle.std.proofs.Common.{◌≡◌, ℕ, false, None, Option, sym, subst}
use Rattle.armus_base.specs.calls.Boards.{IsLawful, steps_of}
use Rattle.armus_base.specs.Deadlocks.{IsDeadIn}
use Rattle.armus_base.specs.Places.{state_at}
use Rattle.armus_base.specs.Plans.{Plan}
use Rattle.armus_base.specs.calls.Runs.{ArePrefixes, IsPrefix}
use Rattle.armus_base.specs.Runs.{Place, places, state_after}
use Rattle.armus_base.specs.calls.SeatLaws.{EarlierIsLawful, LeastLawfulExists}
use Rattle.armus_base.specs.calls.Seats.{IsAsFarOn}
use Rattle.armus_base.proofs.BoardRuns.{plain_is_lawful}
use Rattle.armus_base.proofs.EarlierPlaces.{earlier_places}
use Rattle.armus_base.proofs.KnownAreLeastDead.{known_are_least_dead}
use Rattle.armus_base.proofs.LeastExists.{least_exists}
use Rattle.armus_base.proofs.Stepping.{places_fix}

-- lawful places are those of the run that leads there
leads : (plan : Plan) (a : ℕ → Place) (lock : Option ℕ) → (l : IsLawful false plan a lock) → places (steps_of l.entries) ≡ a
leads plan a lock l = fun_ext l.there

pub earlier_is_lawful : EarlierIsLawful
earlier_is_lawful plan a b checked la lb =
    let r = earlier_places plan (steps_of la.entries) (steps_of lb.entries) checked la.run.0 lb.run.0 in (
      places r.0,
      plain_is_lawful plan r.0 r.1,
      λ t. (
        subst (λ v. IsPrefix (places r.0 t) v) (la.there t) (r.2 t).0,
        subst (λ v. IsPrefix (places r.0 t) v) (lb.there t) (r.2 t).1,
        λ d in_a in_b. (r.2 t).2 d (subst (λ v. IsPrefix d v) (sym (la.there t)) in_a) (subst (λ v. IsPrefix d v) (sym (lb.there t)) in_b),
      ),
    )

pub least_lawful_exists : LeastLawfulExists
least_lawful_exists plan seen a lock checked l far =
    let r = least_exists plan seen (steps_of l.entries) checked l.run.0 (subst (λ v. IsAsFarOn plan None v seen) (sym (leads plan a lock l)) far) in
    let same : state_after r.0 ≡ state_at plan (places r.0) = (places_fix plan checked r.0 r.1.run.0).0 in
    let known = known_are_least_dead plan seen r.0 in (
      places r.0,
      record {
        lawful = plain_is_lawful plan r.0 r.1.run;
        far = r.1.far;
        least = λ b held lb far_b.
            subst (λ v. ArePrefixes (places r.0) v) (leads plan b held lb)
            (r.1.least (steps_of lb.entries) lb.run.0 (subst (λ v. IsAsFarOn plan None v seen) (sym (leads plan b held lb)) far_b));
      },
      λ t. (
        λ dead. subst (λ s. IsDeadIn s t) same ((known t checked r.1).0 dead),
        λ dead. (known t checked r.1).1 (subst (λ s. IsDeadIn s t) (sym same) dead),
      ),
    )
