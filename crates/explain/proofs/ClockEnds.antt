-- Where the runs of a clock text end, and what is explained there.
use Rattle.std.proofs.Common.{◌≡◌, ◌∙◌, ℕ, Bool, true, false, List, Option, Some, None, length, ap, inl, inr, refl, subst, sym}
use Rattle.std.specs.Prelude.{◌↔◌, Err, Ok}
use Rattle.std.specs.List.{list_any}
use Rattle.armus_base.specs.CheckedPlans.{IsCheckedPlan}
use Rattle.armus_base.specs.calls.FinalLaws.{IsOfPlan}
use Rattle.armus_base.specs.declared.event.Event.{Event}
use Rattle.armus_base.specs.Finals.{end_by, end_of, list_below}
use Rattle.armus_base.specs.Plans.{Plan}
use Rattle.armus_base.specs.Runs.{IsMaximal, IsPlainRun, places, state_after}
use Rattle.armus_base.specs.States.{Step}
use Rattle.armus_base.proofs.DeadByStatuses.{run_is_of_plan}
use Rattle.armus_base.proofs.OneEnd.{one_end}
use Rattle.explain_facts.specs.RunStates.{done_after}
use Rattle.pl_plan.specs.Unfolding.{Outcome, ◌>>=◌}
use Rattle.pl_plan.specs.declared.fault.CheckFault.{CheckFault}
use Rattle.clock_syntax.specs.Grammar.{IsClockText}
use Rattle.clock_syntax.specs.Trees.{ClockTree}
use Rattle.clock_syntax.proofs.ClockUnique.{not_both_clocks, one_clock_tree}
use Rattle.clock_semantics.specs.Unfolding.{ClockUnfolding, clock_plan_of, clock_unfolded, plan_of_moves}
use Rattle.clock_semantics.proofs.ClockPlanIsChecked.{clock_plan_is_checked}
use Rattle.clock_laws.proofs.TextEndsTold.{text_ends_are_told}
use Rattle.clock_source_map.proofs.Walked.{same_unfolding}
use Rattle.explain_clock.specs.ClockExplanations.{waits_there}
use Rattle.program_io.specs.Texts.{Text}
use Rattle.program_io.proofs.SomeBelow.{any_below, some_below}
use Rattle.explain.specs.ClockExplained.{AreToldActivities, HasSomeClockFault, IsMaximalClockRun}
use Rattle.explain.specs.Requests.{Form}
use Rattle.explain.specs.Explained.{WaitsIn}

-- ---- plans

fails_in : (o : Outcome ClockUnfolding) (fault : CheckFault) → (o >>= λ s. Ok (plan_of_moves s)) ≡ Err fault → o ≡ Err fault
fails_in (Ok u) fault e = absurd (cc)
fails_in (Err f) fault e = (let same : ◌≡◌ {A = Outcome Plan} (Err f) (Err fault) = e in cc)

-- and one whose plan has a fault has an unfolding with this fault
pub fails_so : (program : ClockTree) (fault : CheckFault) → clock_plan_of program ≡ Err fault → clock_unfolded program ≡ Err fault
unfolding clock_plan_of
fails_so program fault e = fails_in (clock_unfolded program) fault e

plan_is : (program : ClockTree) (u : ClockUnfolding) → clock_unfolded program ≡ Ok u → clock_plan_of program ≡ Ok (plan_of_moves u)
unfolding clock_plan_of
plan_is program u is = ap (λ o. o >>= λ s. Ok (plan_of_moves s)) is

pub checked_moves : (program : ClockTree) (u : ClockUnfolding) → clock_unfolded program ≡ Ok u → IsCheckedPlan (plan_of_moves u)
checked_moves program u is = clock_plan_is_checked program (plan_of_moves u) (plan_is program u is)

-- ---- runs

pub clock_run : (text : Text) (program : ClockTree) (u : ClockUnfolding) (steps : List Step) → IsClockText text program → clock_unfolded program ≡ Ok u →
    IsPlainRun (plan_of_moves u) steps → IsMaximal (plan_of_moves u) steps → IsMaximalClockRun text program u steps
clock_run text program u steps reads is run maximal = record {
  reads = reads;
  unfolds = is;
  run = run;
  maximal = maximal;
  told = text_ends_are_told program u (state_after steps) is (record { steps = steps; run = run; maximal = maximal; there = refl });
}

-- two runs of a text are runs of one unfolding, and end at the same places in the same state
pub record EndAlike (p q : ClockTree) (u v : ClockUnfolding) (g h : List Step) : Type 0 where
  pub programs : p ≡ q
  pub unfoldings : u ≡ v
  pub ends : ((t : ℕ) → places g t ≡ places h t) × (state_after g ≡ state_after h)

pub end_alike : (text : Text) (p q : ClockTree) (u v : ClockUnfolding) (g h : List Step) → IsMaximalClockRun text p u g → IsMaximalClockRun text q v h → EndAlike p q u v g h
end_alike text p q u v g h a b =
    let programs : p ≡ q = one_clock_tree text p q a.reads b.reads in
    let opens : clock_unfolded q ≡ Ok u = subst (λ r. clock_unfolded r ≡ Ok u) programs a.unfolds in
    let unfoldings : u ≡ v = same_unfolding q u v opens b.unfolds in
    let run : IsPlainRun (plan_of_moves v) g = subst (λ w. IsPlainRun (plan_of_moves w) g) unfoldings a.run in
    let maximal : IsMaximal (plan_of_moves v) g = subst (λ w. IsMaximal (plan_of_moves w) g) unfoldings a.maximal in
    let ends = one_end (plan_of_moves v) g h (checked_moves q v b.unfolds) run b.run maximal b.maximal in
    record { programs = programs; unfoldings = unfoldings; ends = (ends.0, ends.1) }

-- a text that has a run has no fault
pub run_or_fault : (text : Text) (p : ClockTree) (u : ClockUnfolding) (h : List Step) → IsMaximalClockRun text p u h → HasSomeClockFault text → ⊥
run_or_fault text p u h run (inl (fault, has)) = not_both_clocks text p fault run.reads has
run_or_fault text p u h run (inr (q, fault, reads, fails)) =
    let same : q ≡ p = one_clock_tree text q p reads run.reads in
    let both : clock_unfolded p ≡ Err fault = subst (λ r. clock_unfolded r ≡ Err fault) same fails in
    let opens : clock_unfolded p ≡ Ok u = run.unfolds in absurd (cc)

-- ---- who waits

published_end : (forked : Bool) (published refused : Option Event) → waits_there (end_by forked published refused) ≡ true → (e : Event) × (published ≡ Some e)
published_end forked (Some e) refused on = (e, refl)
published_end forked None (Some e) on = absurd cc
published_end true None None on = absurd cc
published_end false None None on = absurd cc

pub clocks_tell_waiting :
    (form : Form) (text : Text) (p : ClockTree) (u : ClockUnfolding) (steps : List Step) (lines : List ℕ) (some : Bool) → IsMaximalClockRun text p u steps →
    AreToldActivities form text p u (plan_of_moves u) (state_after steps) (done_after steps) lines some → (some ≡ true) ↔ ((t : ℕ) × WaitsIn (state_after steps) t)
clocks_tell_waiting form text p u steps lines some ended is =
    let plan = plan_of_moves u in
    let checked = checked_moves p u ended.unfolds in
    let of_plan : IsOfPlan plan (state_after steps) = run_is_of_plan plan steps checked ended.run.0 in
    let told : some ≡ list_any waits_there (list_below (end_of (state_after steps)) (length plan.parents)) =
    is.tells.waits_are ∙ ap (list_any waits_there) is.tells.are_facts.ends_are in (
      λ on.
          let (t, below, waits) = some_below waits_there (end_of (state_after steps)) (length plan.parents) (sym told ∙ on) in
          (t, published_end ((state_after steps).forked t) ((state_after steps).published t) ((state_after steps).refused t) waits),
      λ one.
          let (t, (e, published)) = one in
          told ∙ any_below waits_there (end_of (state_after steps)) (length plan.parents) t (of_plan.published t e published)
          (ap (λ x. waits_there (end_by ((state_after steps).forked t) x ((state_after steps).refused t))) published),
    )
