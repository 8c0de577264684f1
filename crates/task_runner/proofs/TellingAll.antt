-- What a run tells, from its rounds to its end.
use Rattle.std.proofs.Common.{◌≡◌, List, [], ◌++◌, arith, refl, sym, ap, ◌∙◌, subst, append_assoc, append-nil, Result, Ok, Err}
use Rattle.armus_base.specs.declared.ending.Final.{Final}
use Rattle.armus_base.specs.declared.status.Dead.{Dead}
use Rattle.armus_base.specs.CheckedPlans.{IsCheckedPlan}
use Rattle.armus_base.specs.Finals.{final_of, is_awaited}
use Rattle.armus_base.specs.Plans.{Plan}
use Rattle.armus_base.specs.calls.Statuses.{IsInOrder}
use Rattle.armus_base.proofs.Elements.{nothing_in_nil}
use Rattle.armus_base.proofs.StatusesAre.{statuses_are}
use Rattle.report.specs.NamedDead.{AreSomeDead, AreTheDead}
use Rattle.world_runs.specs.calls.PlainRuns.{IsPlainEnd}
use Rattle.task_runner.specs.calls.DetectRuns.{AreDeadAtTheEnd, HasWritten, TellsRun, SinkValue}
use Rattle.task_runner.specs.inside.Rests.{TellsRest}
use Rattle.task_runner.specs.inside.LiveReporters.{TellsMore, TellsOn}
use Rattle.task_runner.specs.declared.ran.Ran.{Ran}
use Rattle.task_runner.specs.declared.ran.RunEnd.{RunEnd}
use Rattle.task_runner.specs.declared.ran.RunEnd.TheVariants.{NoMemory, Write}
use Rattle.task_runner.proofs.TellingMore.{failed_on, none_written, written_on}

-- the end of a plan is one value
one_value : (plan : Plan) (x y : Final) → IsPlainEnd plan x → IsPlainEnd plan y → x ≡ y
one_value plan x y p q =
    p.is_it ∙ ap (final_of plan) (sym p.final.there ∙ q.every p.final.steps p.final.run p.final.maximal) ∙ sym q.is_it

-- its statuses are in order
pub blocked_in_order : (plan : Plan) (x : Final) → IsCheckedPlan plan → IsPlainEnd plan x → IsInOrder x.blocked
blocked_in_order plan x checked p =
    subst (λ (f : Final). IsInOrder f.blocked) (sym p.is_it) (statuses_are plan p.state (is_awaited plan p.state) checked).in_order

-- what is some of the dead at one value of the end is so at each
pub dead_at_each : (plan : Plan) (x : Final) → IsPlainEnd plan x → (named : List Dead) → AreSomeDead x.blocked named → AreDeadAtTheEnd plan named
dead_at_each plan x p named some y q = subst (λ (f : Final). AreSomeDead f.blocked named) (one_value plan x y p q) some

-- nothing more was told
pub none_on : (plan : Plan) (dead : List Dead) (a n : SinkValue) (r : Result Ran RunEnd) → r ≡ Err NoMemory → n ≡ a → AreDeadAtTheEnd plan dead → TellsOn plan dead a n r
none_on plan dead a n r is same at_end = subst (TellsOn plan dead a n) (sym is) ([], subst (AreDeadAtTheEnd plan) (sym (append-nil dead)) at_end, none_written a n same)

-- nothing was told at all
pub none_told : (plan : Plan) (a : SinkValue) (r : Result Ran RunEnd) → r ≡ Err NoMemory → TellsRun plan a a r
none_told plan a r is =
    subst (TellsRun plan a a) (sym is) (
      [],
      (λ end p. record { once = λ m n d l few. absurd (omega arith); dead = λ d i. absurd (nothing_in_nil d i) }),
      none_written a a refl,
    )

-- an error of a pass ends the run
pub pass_err :
    (A : Type 0) (plan : Plan) (first second : List Dead) (a n : SinkValue) (e : RunEnd) (r : Result Ran RunEnd) → r ≡ Err e →
    TellsMore {A = A} plan first second a n (Err e) → TellsOn plan first a n r
pass_err A plan first second a n Write r is p = subst (TellsOn plan first a n) (sym is) p
pass_err A plan first second a n NoMemory r is p = subst (TellsOn plan first a n) (sym is) p

module _ (plan : Plan) (x : Final) (is_end : IsPlainEnd plan x) (first second fresh : List Dead) (grown : second ≡ first ++ fresh) (a m n : SinkValue)
    (written : HasWritten fresh a m) where
  abbrev all : List Dead → List Dead
  all rest = first ++ (fresh ++ rest)

  regroup : (rest : List Dead) → second ++ rest ≡ all rest
  regroup rest = ap (λ ds. ds ++ rest) grown ∙ append_assoc first fresh rest

  pub rest_ok : (ran : Ran) → ran.end ≡ x → TellsRest x.blocked second m n (Ok tt) → TellsOn plan first a n (Ok ran)
  rest_ok ran same p = (
    fresh ++ p.0,
    subst (λ (f : Final). AreTheDead f.blocked (all p.0)) (sym same) (subst (AreTheDead x.blocked) (regroup p.0) p.1),
    written_on fresh p.0 a m n written p.2,
  )

  pub rest_err : AreDeadAtTheEnd plan second → (e : RunEnd) (r : Result Ran RunEnd) → r ≡ Err e → TellsRest x.blocked second m n (Err e) → TellsOn plan first a n r
  rest_err dead Write r is p =
      subst (TellsOn plan first a n) (sym is)
      (fresh ++ p.0, dead_at_each plan x is_end (all p.0) (subst (AreTheDead x.blocked) (regroup p.0) p.1).some, failed_on fresh p.0 a m n written p.2)
  rest_err dead NoMemory r is same =
      subst (TellsOn plan first a n) (sym is) (fresh, subst (AreDeadAtTheEnd plan) grown dead, subst (HasWritten fresh a) (sym same) written)

-- the rounds of a run, at whose beginning nobody is told
pub run_err :
    (A : Type 0) (plan : Plan) (first second : List Dead) (a n : SinkValue) (e : RunEnd) (r : Result Ran RunEnd) → r ≡ Err e → first ≡ [] →
    TellsMore {A = A} plan first second a n (Err e) → TellsRun plan a n r
run_err A plan first second a n Write r is none p = subst (TellsRun plan a n) (sym is) (p.0, subst (AreDeadAtTheEnd plan) (ap (λ ds. ds ++ p.0) none) p.1, p.2)
run_err A plan first second a n NoMemory r is none p = subst (TellsRun plan a n) (sym is) (p.0, subst (AreDeadAtTheEnd plan) (ap (λ ds. ds ++ p.0) none) p.1, p.2)

-- and its end
pub run_on :
    (plan : Plan) (first second fresh : List Dead) (a m n : SinkValue) (r : Result Ran RunEnd) → first ≡ [] → second ≡ first ++ fresh → HasWritten fresh a m →
    TellsOn plan second m n r → TellsRun plan a n r
run_on plan first second fresh a m n (Ok ran) none grown written p =
    (fresh ++ p.0, subst (AreTheDead ran.end.blocked) (ap (λ ds. ds ++ p.0) (grown ∙ ap (λ ds. ds ++ fresh) none)) p.1, written_on fresh p.0 a m n written p.2)
run_on plan first second fresh a m n (Err Write) none grown written p =
    (fresh ++ p.0, subst (AreDeadAtTheEnd plan) (ap (λ ds. ds ++ p.0) (grown ∙ ap (λ ds. ds ++ fresh) none)) p.1, failed_on fresh p.0 a m n written p.2)
run_on plan first second fresh a m n (Err NoMemory) none grown written p =
    (fresh ++ p.0, subst (AreDeadAtTheEnd plan) (ap (λ ds. ds ++ p.0) (grown ∙ ap (λ ds. ds ++ fresh) none)) p.1, written_on fresh p.0 a m n written p.2)
