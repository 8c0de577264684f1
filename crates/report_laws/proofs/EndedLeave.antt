-- In PL 2 whoever has ended is a member of nothing, so a held task waits for an unforked one.
use Rattle.std.proofs.Common.{◌≡◌, ◌≤◌, ◌<◌, ◌+◌, ◌-◌, ◌∙◌, ℕ, zero, suc, List, Option, Some, None, true, false, length, ap, arith, inl, inr, refl, subst, sym}
use Rattle.std.specs.Prelude.{is_some}
use Rattle.std.proofs.lemmas.Bool.{cases_Bool, cases_lt, false≢true}
use Rattle.std.proofs.lemmas.List.{get_or_past}
use Rattle.std.proofs.lemmas.Option.{slice_get-get_or, slice_get_past}
use Rattle.armus_base.specs.declared.ending.TaskEnd.TheVariants.{Done}
use Rattle.armus_base.specs.AgreementLaws.{WaitsForEnded}
use Rattle.armus_base.specs.AgreementLaws as ended
use Rattle.armus_base.specs.CheckedPlans.{IsCheckedPlan}
use Rattle.armus_base.specs.Finals.{end_of}
use Rattle.armus_base.specs.calls.FinalLaws.{Tells}
use Rattle.armus_base.specs.Limits.{max_phasers, max_tasks}
use Rattle.armus_base.specs.Places.{done_by, first_phases, kept, own_phases, own_step, phases_after, phases_at, state_at}
use Rattle.armus_base.specs.Plans.{Action, Forks, Plan, action_at, actions, parent_of}
use Rattle.armus_base.specs.Runs.{IsFinal, IsMaximal, IsPlainRun, Place, places, state_after}
use Rattle.armus_base.specs.States.{Phases, State, Step}
use Rattle.armus_base.proofs.DeadByStatuses.{phaser_within}
use Rattle.armus_base.proofs.EndsTell.{ends_tell}
use Rattle.armus_base.proofs.Fixed.{forked_at_is, phases_forked}
use Rattle.armus_base.proofs.HeldHasEnd.{held_has_end}
use Rattle.armus_base.proofs.Members.{plain_undropped}
use Rattle.armus_base.proofs.Stepping.{places_fix}
use Rattle.pl_syntax.specs.declared.tree.Program.{Program}
use Rattle.pl_plan.proofs.Growth.{last_phases}
use Rattle.pl_plan.proofs.Sound.{is_begun}
use Rattle.program_io.specs.Texts.{Text}
use Rattle.program_io.specs.Programs.{IsChecked}
use Rattle.pl_plan.proofs.TextsAreNear.{text_is_near}
use Rattle.program_io.proofs.OnePlan.{checked_plan}
use Rattle.report_laws.specs.Held.{EndedHaveLeft, HeldWaitForUnforked, WaitsForUnforked, at_unforked, by_held}
use Rattle.report_laws.proofs.TasksLeft.{IsEndInTwo, end_in_two}

-- behind the last action the phases stay
phases_stay : (act : ℕ → Option Action) (m : Phases) (n d : ℕ) → ((j : ℕ) → n ≤ j → act j ≡ None) → own_phases act m (d + n) ≡ own_phases act m n
phases_stay act m n zero none = ap (own_phases act m) (let e : 0 + n ≡ n = omega arith in e)
phases_stay act m n (suc d) none =
    ap (own_phases act m) (let e : suc d + n ≡ suc (d + n) = omega arith in e)
    ∙ ap (λ o. own_step o (own_phases act m (d + n))) (none (d + n) (omega arith))
    ∙ phases_stay act m n d none

-- no action stands behind the last one
no_action : (plan : Plan) (t j : ℕ) → length (actions plan t) ≤ j → action_at plan t j ≡ None
unfolding action_at
no_action plan t j l = slice_get_past (actions plan t) j l

behind_last : (plan : Plan) (t k : ℕ) → action_at plan t k ≡ None → length (actions plan t) ≤ k
unfolding action_at
behind_last plan t k none = elim (cases_lt k (length (actions plan t))) [
  | inl l ↦ absurd (let some = slice_get-get_or (actions plan t) k (Forks 0) l in cc)
  | inr l ↦ l
]

phases_at_last : (plan : Plan) (t k : ℕ) → action_at plan t k ≡ None → phases_after plan t k ≡ last_phases plan t
unfolding phases_after
phases_at_last plan t k none =
    let n = length (actions plan t) in
    let far : n ≤ k = behind_last plan t k none in
    let d = k - n in
    ap (phases_after plan t) (let sum : k ≡ d + n = omega (arith, far) in sum)
    ∙ phases_stay (action_at plan t) _ n d (λ j l. no_action plan t j l)

module _ (plan : Plan) (checked : IsCheckedPlan plan) (two : IsEndInTwo plan) (h : List Step) (run : IsPlainRun plan h) (maximal : IsMaximal plan h) where
  abbrev a : ℕ → Place
  a = places h

  fixed : state_after h ≡ state_at plan a
  fixed = (places_fix plan checked h run.0).0

  -- who is forked has a start
  unforked : (c j : ℕ) → is_begun two.end c ≡ false → action_at plan (parent_of plan c) j ≡ Some (Forks c) → ⊥
  unfolding action_at actions parent_of
  unforked c j idle is =
      two.left.sound.unforked c j idle (subst (λ (q : Plan). action_at q (parent_of q c) j ≡ Some (Forks c)) (sym two.plan_is) is)

  begun : (u : ℕ) → (state_after h).forked u ≡ true → is_begun two.end u ≡ true
  begun u forked =
      elim (forked_at_is plan (done_by a) u (subst (λ (s : State). s.forked u ≡ true) fixed forked)) [
        | inl root ↦ subst (λ k. is_begun two.end k ≡ true) (sym root) two.left.root
        | inr by ↦ elim (cases_Bool (is_begun two.end u)) [ inl now ↦ now | inr idle ↦ absurd (unforked u by.0 idle by.2) ]
      ]

  below_all : (u : ℕ) → is_begun two.end u ≡ true → u < max_tasks
  below_all u now = elim (cases_lt u max_tasks) [
    | inl l ↦ l
    | inr l ↦
        let past = get_or_past two.end.starts u None (omega (arith, l, two.left.kept.starts, two.left.kept.few_tasks)) in
        absurd (false≢true (sym (ap is_some past) ∙ now))
  ]

  none_at_last : (u p : ℕ) → p < max_phasers → is_begun two.end u ≡ true → last_phases plan u p ≡ None
  unfolding phases_after first_phases action_at actions parent_of
  none_at_last u p small now =
      subst (λ (q : Plan). last_phases q u p ≡ None) two.plan_is (two.left.left u p (below_all u now) small now)

  left_there : (u p : ℕ) → Tells plan h u Done → (state_after h).phases u p ≡ None
  left_there u p (forked, none) = by ((state_after h).phases u p) refl
    where
      by : (o : Option ℕ) → (state_after h).phases u p ≡ o → o ≡ None
      by None is = refl
      by (Some n) is =
          let within = phaser_within plan h run.0 u p n is in
          let small : p < max_phasers = omega (arith, within, checked.limits.few_phasers) in
          let there : (state_at plan a).forked u ≡ true = subst (λ (s : State). s.forked u ≡ true) fixed forked in
          let phase : kept (a u).dropped (phases_at plan (done_by a) u) p ≡ Some n = subst (λ (s : State). s.phases u p ≡ Some n) fixed is in
          let undropped : phases_at plan (done_by a) u p ≡ Some n =
          subst (λ o. kept o (phases_at plan (done_by a) u) p ≡ Some n) (plain_undropped plan h run u) phase in
          let last : last_phases plan u p ≡ Some n =
          ap (λ m. m p) (sym (phases_forked plan checked (done_by a) u there ∙ phases_at_last plan u (a u).done none)) ∙ undropped in
          let left = none_at_last u p small (begun u forked) in
          absurd (cc)

pub ended_have_left : EndedHaveLeft
ended_have_left text program plan f u p is two final done =
    let checked = checked_plan text plan (program, is) in
    let h = final.steps in
    let end = end_in_two program plan (text_is_near text program is.reads) two is.unfolds in
    let end_is : end_of (state_after h) u ≡ Done = subst (λ (s : State). end_of s u ≡ Done) (sym final.there) done in
    let tells : Tells plan h u Done = subst (Tells plan h u) end_is (ends_tell plan h u checked final.run.0 final.maximal) in
    subst (λ (s : State). s.phases u p ≡ None) final.there (left_there plan checked end h final.run final.maximal u p tells)

module _ (text : Text) (program : Program) (plan : Plan) (f : State) (is : IsChecked text program plan) (two : program.two ≡ true) (final : IsFinal plan f) where
  unforked_waits : {t : ℕ} → WaitsForEnded f t → WaitsForUnforked f t
  unforked_waits (ended.at_end u waits (inl done)) =
      absurd (let left = ended_have_left text program plan f u waits.0.p.0 is two final done in let member = waits.3 in cc)
  unforked_waits (ended.at_end u waits (inr unforked)) = at_unforked u waits unforked
  unforked_waits (ended.by_held u waits held later) = by_held u waits held (unforked_waits later)

pub held_wait_for_unforked : HeldWaitForUnforked
held_wait_for_unforked text program plan f t is two final held =
    unforked_waits text program plan f is two final (held_has_end plan f t (checked_plan text plan (program, is)) final held)
