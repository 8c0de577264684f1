-- The highest phases on which tasks were published, after a task was set.
use Rattle.std.proofs.Common.{◌≡◌, ◌≢◌, ℕ, ◌<◌, ◌≤◌, true, false, List, Some, None, get_or, length, set, arith, ap, sym, ◌∙◌, subst, refl, inl, inr, ◌⊎◌}
use Rattle.std.specs.Prelude.{slice_get}
use Rattle.std.proofs.lemmas.Bool.{cases_eq, cases_lt}
use Rattle.std.proofs.lemmas.Option.{slice_get-get_or, slice_get_past}
use Rattle.std.proofs.lemmas.List.{length-set}
use Rattle.armus_base.specs.declared.event.Event.{Event}
use Rattle.pl_core.specs.declared.task.TaskRecord.{TaskRecord}
use Rattle.pl_core.specs.inside.Highest.{AreHighest, highest_at}
use Rattle.armus_base.specs.CheckedPlans.{IsCheckedPlan}
use Rattle.armus_base.specs.Plans.{Plan}
use Rattle.armus_base.specs.Runs.{IsReachable}
use Rattle.armus_base.proofs.Lists.{slice_get-set_same, slice_get-set_other}
use Rattle.pl_core.specs.declared.phase_table.MemberTable.{MemberTable}
use Rattle.pl_core.specs.inside.Changes.{unbegun}
use Rattle.pl_core.specs.inside.Kept.{KeepsState}
use Rattle.pl_core.specs.calls.Tables.{world_from}
use Rattle.pl_core.specs.calls.Worlds.{WorldValue, places_of, state_of}
use Rattle.pl_core.proofs.Bounds.{task_of_member}
use Rattle.pl_core.proofs.GoingOn.{member_when_waiting, phaser_of_waiting}
use Rattle.pl_core.proofs.Standing.{published_kept, refused_false, undropped_waiting}

-- the task, if it is published, waits for no later phase than the kept one
abbrev pub IsCovered : TaskRecord → ℕ → List ℕ → Type 0
IsCovered task phasers highest = (e : Event) → task.place.refused ≡ false → task.event ≡ Some e → e.p.0 < phasers → e.n ≤ highest_at highest e.p.0

-- a read of a changed list: at the place, or elsewhere
set_read : {A : Type 0} (xs : List A) (k j : ℕ) (v x : A) → slice_get (set xs k v) j ≡ Some x → (j ≡ k × v ≡ x) ⊎ (j ≢ k × slice_get xs j ≡ Some x)
set_read xs k j v x e = elim (cases_eq j k) [
  | inl same ↦ inl (
    same,
    elim (cases_lt k (length xs)) [
      | inl l ↦ (let here : slice_get (set xs k v) k ≡ Some x = subst (λ i. slice_get (set xs k v) i ≡ Some x) same e in let both : Some v ≡ Some x = sym (slice_get-set_same xs k v l) ∙ here in cc)
      | inr past ↦
          let long : length (set xs k v) ≤ j = (let n = length-set xs k v in omega arith) in
          absurd (let none : None ≡ Some x = sym (slice_get_past (set xs k v) j long) ∙ e in cc)
    ],
  )
  | inr other ↦ inr (other, sym (slice_get-set_other xs k j v other) ∙ e)
]

-- one task set, and the kept phases no lower
pub highest_set :
    (tasks : List TaskRecord) (phasers : ℕ) (old new : List ℕ) (t : ℕ) (task : TaskRecord) → AreHighest tasks phasers old → length new ≡ length old →
    ((p : ℕ) → highest_at old p ≤ highest_at new p) → IsCovered task phasers new → AreHighest (set tasks t task) phasers new
highest_set tasks phasers old new t task kept sized keeps own = record {
  one_each = sized ∙ kept.one_each;
  bound = λ u k e read unrefused event inside. elim (set_read tasks t u task k read) [
    | inl here ↦ own e (ap (λ v. v.place.refused) here.1 ∙ unrefused) (ap (λ v. v.event) here.1 ∙ event) inside
    | inr there ↦ let before = kept.bound u k e there.1 unrefused event inside in let no_lower = keeps e.p.0 in omega arith
  ];
}

-- one task set that waits for nothing
pub highest_idle :
    (tasks : List TaskRecord) (phasers : ℕ) (highest : List ℕ) (t : ℕ) (task : TaskRecord) → AreHighest tasks phasers highest → task.event ≡ None →
    AreHighest (set tasks t task) phasers highest
highest_idle tasks phasers highest t task kept idle =
    highest_set tasks phasers highest highest t task kept refl (λ p. omega arith) (λ e unrefused event inside. absurd (let no : None ≡ Some e = sym idle ∙ event in cc))

-- one task set that is refused
pub highest_refused :
    (tasks : List TaskRecord) (phasers : ℕ) (highest : List ℕ) (t : ℕ) (task : TaskRecord) → AreHighest tasks phasers highest → task.place.refused ≡ true →
    AreHighest (set tasks t task) phasers highest
highest_refused tasks phasers highest t task kept refused =
    highest_set tasks phasers highest highest t task kept refl (λ p. omega arith) (λ e unrefused event inside. absurd (let no : true ≡ false = sym refused ∙ unrefused in cc))

-- one task set that waits for what it waited for
pub highest_same :
    (tasks : List TaskRecord) (phasers : ℕ) (highest : List ℕ) (t : ℕ) (old new : TaskRecord) → AreHighest tasks phasers highest → slice_get tasks t ≡ Some old →
    new.event ≡ old.event → new.place ≡ old.place → AreHighest (set tasks t new) phasers highest
highest_same tasks phasers highest t old new kept read event place =
    highest_set tasks phasers highest highest t new kept refl (λ p. omega arith)
    (λ e unrefused is inside. kept.bound t old e read (ap (λ v. v.refused) (sym place) ∙ unrefused) (sym event ∙ is) inside)

module _ (plan : Plan) (tasks : List TaskRecord) (table : MemberTable) (kept : KeepsState plan tasks table) (highest : List ℕ) (are : AreHighest tasks (length plan.makers) highest) where
  abbrev now : WorldValue
  now = world_from plan tasks

  -- a published task waits for no later phase than the kept one
  pub published_bound : (u : ℕ) (e : Event) → (state_of now).published u ≡ Some e → e.n ≤ highest_at highest e.p.0
  published_bound u e waits =
      let member = member_when_waiting now kept.checked kept.reachable u e waits in
      let task_within = task_of_member now kept.checked kept.reachable u e.p.0 member.0 member.1 in
      let inside : u < length tasks = (let sized = kept.one_each in omega arith) in
      let read = slice_get-get_or tasks u unbegun inside in
      let task = get_or tasks u unbegun in
      let unrefused = refused_false plan tasks table kept u task read (undropped_waiting plan tasks table kept u task read e waits) in
      let event = sym (published_kept plan tasks table kept u task read unrefused) ∙ waits in
      are.bound u task e read unrefused event (phaser_of_waiting now kept.checked kept.reachable u e waits)

-- what is kept of a world is so of what contracts see of it
pub checked_there : {plan : Plan} {tasks : List TaskRecord} {table : MemberTable} {w : WorldValue} → world_from plan tasks ≡ w → KeepsState plan tasks table → IsCheckedPlan w.plan
checked_there is kept = subst (λ v. IsCheckedPlan v.plan) is kept.checked

pub reachable_there :
    {plan : Plan} {tasks : List TaskRecord} {table : MemberTable} {w : WorldValue} → world_from plan tasks ≡ w → KeepsState plan tasks table → IsReachable w.plan (places_of w)
reachable_there is kept = subst (λ v. IsReachable v.plan (places_of v)) is kept.reachable
