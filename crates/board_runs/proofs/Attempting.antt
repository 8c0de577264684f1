-- What an attempt to decide on an await makes of a seat.
use Rattle.std.proofs.Common.{◌≡◌, ◌≢◌, ℕ, ◌+◌, ◌≤◌, true, false, List, [], ◌∷◌, Option, Some, None, Result, Ok, Err, IfOk, OnErr, length, sym, ap, ◌∙◌, subst, arith, inl, inr}
use Rattle.std.proofs.lemmas.Bool.{cases_eq}
use Rattle.armus_base.specs.declared.event.Event.{Event}
use Rattle.armus_base.specs.declared.status.Status.{Status}
use Rattle.armus_base.specs.Plans.{Aim, Action, Blocks, Plan, Refuses, action_at}
use Rattle.armus_base.specs.Runs.{IsByCode, Place, next_place}
use Rattle.armus_base.specs.calls.Runs.{IsPrefix}
use Rattle.armus_base.specs.Places.{kept, members_below, phases_after}
use Rattle.armus_base.specs.calls.Boards.{IsLawful}
use Rattle.armus_base.specs.calls.Seats.{MayHold}
use Rattle.armus_base.specs.States.{Phases}
use Rattle.armus_base.proofs.Places.{precedes_itself}
use Rattle.board.specs.declared.view.View.{View}
use Rattle.board.specs.calls.Views.{avoids, next_action, own_place, seen, task_of}
use Rattle.board.specs.calls.Steps.{own_phase}
use Rattle.board.specs.calls.Locking.{FindsHeld, FreesLock, TakesLock}
use Rattle.board.specs.calls.Seats.{IsSeat, Known}
use Rattle.board.proofs.Seated.{next_there}
use Rattle.phase_scan.specs.calls.Looks.{LoadsAlone}
use Rattle.phase_scan.proofs.Columns.{column_goes}
use Rattle.phase_scan.proofs.Loads.{goes_both, longest_later}
use Rattle.phase_scan.proofs.Supposes.{own_phase_stays}
use Rattle.verdict.specs.declared.found.Cycle.{Cycle}
use Rattle.avoider.specs.calls.OnBoard.{HasPublished, HasRefused, IsUndecided, Judges}
use Rattle.board_runs.specs.declared.beginning.Attempt.{Attempt}
use Rattle.board_runs.specs.calls.Turns.{EndsTurn, Goes, LeadsByCode, is_locked_out}
use Rattle.board_runs.specs.inside.Attempts.{IsRefusedAt, drops_below, loads_at_least}
use Rattle.board_runs.proofs.Goings.{goes_loads, goes_made, goes_on, goes_step, goes_then, next_still, own_stays, same_task, stepped_place, task_is}
use Rattle.board_runs.proofs.Leaving.{drops_go, has_left_all}

-- steps between a taking and a freeing of the lock
pub goes_locked : (a b c d : Known) (own : List Action) → a.view.holds ≡ false → TakesLock a b → Goes own b c → FreesLock c d → Goes own a d
goes_locked a b c d own free taken goes freed =
    record {
      table = freed.table ∙ goes.table ∙ taken.table;
      same = record {
        plan = ap (λ (v : View). v.plan) freed.view ∙ goes.same.plan ∙ ap (λ (v : View). v.plan) taken.view;
        mode = ap (λ (v : View). v.mode) freed.view ∙ goes.same.mode ∙ ap (λ (v : View). v.mode) taken.view;
        own = ap (λ (v : View). v.own) freed.view ∙ goes.same.own ∙ ap (λ (v : View). v.own) taken.view;
        holds = ap (λ (v : View). v.holds) freed.view ∙ sym free;
        spent = ap (λ (v : View). v.spent) freed.view ∙ goes.same.spent ∙ ap (λ (v : View). v.spent) taken.view;
        count = ap (λ (v : View). length v.sight.places) freed.view ∙ goes.same.count ∙ ap (λ (v : View). length v.sight.places) taken.view;
      };
      place =
          subst (λ (v : View). LeadsByCode a.view.plan (task_of a.view) (own_place a.view) own (own_place v)) (sym freed.view)
          (subst (λ (v : View). LeadsByCode v.plan (task_of v) (own_place v) own (own_place c.view)) taken.view goes.place);
      later = λ u.
          subst (λ (v : View). IsPrefix ((seen a.view).places u) ((seen v).places u)) (sym freed.view)
          (subst (λ (v : View). IsPrefix ((seen v).places u) ((seen c.view).places u)) taken.view (goes.later u));
      exact = λ u. ap (λ (v : View). (seen v).exact u) freed.view ∙ goes.exact u ∙ ap (λ (v : View). (seen v).exact u) taken.view;
      loads = (let first = ap (λ (v : View). v.loads) taken.view in let some = goes.loads in let last = ap (λ (v : View). v.loads) freed.view in omega arith);
      kept = freed.kept;
    }

-- the loads of a decision
judged_goes : (list supposed : List Status) (aim : Aim) (event : Event) (before now : Known) → Judges list aim event supposed before now → LoadsAlone before now
judged_goes list supposed aim event before now j =
    let s = j.adds in
    let more = column_goes s.found.published event.p.0 before.view.plan s.column (length before.view.plan.parents) j.between now j.collected.goes_on.same.plan (omega arith) j.collected.goes_on.kept s.loads in
    goes_both before j.between now j.collected.goes_on more.goes

-- who holds the lock stands where it stood, with its phases
next_locked : (a b : Known) (o : Option Action) → TakesLock a b → next_action a.view ≡ o → next_action b.view ≡ o
next_locked a b o taken next = ap next_action taken.view ∙ next

own_locked : (a b : Known) (t : ℕ) → TakesLock a b → a.view.own ≡ Some t → b.view.own ≡ Some t
own_locked a b t taken own = ap (λ (v : View). v.own) taken.view ∙ own

-- a decision loads the await word of each task at least
judged_loads :
    (list supposed : List Status) (aim : Aim) (event : Event) (before now : Known) → Judges list aim event supposed before now →
    before.view.loads + length before.view.plan.parents ≤ now.view.loads
judged_loads list supposed aim event before now j =
    let s = j.adds in
    let more = column_goes s.found.published event.p.0 before.view.plan s.column (length before.view.plan.parents) j.between now j.collected.goes_on.same.plan (omega arith) j.collected.goes_on.kept s.loads in
    at_least before.view.loads j.between.view.loads now.view.loads (length before.view.plan.parents) _ j.collected.loads.loads more.goes.loads
  where
    at_least : (k b m t q : ℕ) → b ≡ k + (t + q) → b ≤ m → k + t ≤ m
    at_least k b m t q is l = omega arith

-- an attempt makes at least so many loads
pub attempt_loads :
    {E : Type 0} (plan : Plan) (tried : Result Attempt E) (n : ℕ) (a b : Known) → IfOk tried (λ t. n ≡ loads_at_least plan t) → OnErr tried (n ≡ 0) →
    IfOk tried (λ t. a.view.loads + loads_at_least plan t ≤ b.view.loads) → OnErr tried (Goes [] a b) → a.view.loads + n ≤ b.view.loads
attempt_loads plan (Ok t) n a b one none least goes = omega arith
attempt_loads plan (Err e) n a b one none least goes = (let l = goes.loads in omega arith)

module _ (a b now : Known) (t : ℕ) (aim : Aim) (own : a.view.own ≡ Some t) (free : a.view.holds ≡ false) (next : next_action a.view ≡ Some (Blocks aim)) (taken : TakesLock a b) where
  own_b : b.view.own ≡ Some t
  own_b = own_locked a b t taken own

  -- it stands there still when it has made its loads
  next_then : (store : Known) → LoadsAlone b store → next_action store.view ≡ Some (Blocks aim)
  next_then store goes = next_still b store goes.same (own_stays b store t own_b taken.kept goes) ∙ next_locked a b (Some (Blocks aim)) taken next

  -- the await was published
  pub goes_published : (list : List Status) (event : Event) → HasPublished list aim event b now → Goes (Blocks aim ∷ []) a now
  goes_published list event h =
      let loads = judged_goes list h.supposed aim event b h.store h.judges in
      goes_locked a b h.stored now (Blocks aim ∷ []) free taken
      (goes_then b h.store h.stored t (Blocks aim) own_b taken.kept loads (goes_step h.store h.stored (Blocks aim) (next_then h.store loads) (λ q e. cc) h.step)) h.freed

  pub loads_published : (list : List Status) (event : Event) → HasPublished list aim event b now → a.view.loads + length a.view.plan.parents ≤ now.view.loads
  loads_published list event h =
      (let j = judged_loads list h.supposed aim event b h.store h.judges in
      let first = ap (λ (v : View). v.loads) taken.view in
      let plan = ap (λ (v : View). length v.plan.parents) taken.view in
      let s = h.step.loads in
      let last = ap (λ (v : View). v.loads) h.freed.view in
      omega arith)

  -- nothing was decided
  pub goes_undecided : IsUndecided b now → Goes [] a now
  goes_undecided u = goes_locked a b u.between now [] free taken (goes_loads b u.between t own_b taken.kept u.goes_on) u.freed

  refuse_next : (plan : Plan) (u k : ℕ) (o : Option ℕ) → o ≡ None → action_at plan u k ≡ Some (Blocks aim) → IsByCode plan u k o (Refuses aim)
  refuse_next plan u k None e is = is
  refuse_next plan u k (Some d) e is = absurd (cc)

  -- the task was refused
  module _ (list : List Status) (cycle : Cycle) (h : HasRefused list aim cycle b now) where
    loads : LoadsAlone b h.store
    loads = judged_goes list h.supposed aim h.event b h.store h.judges

    there : ((own_place h.store.view).dropped ≡ None) × (action_at h.store.view.plan (task_of h.store.view) (own_place h.store.view).done ≡ Some (Blocks aim))
    there = next_there h.store.view (Blocks aim) (next_then h.store loads)

    judging : a.view.loads + length a.view.plan.parents ≤ h.leaves.free.view.loads
    judging =
        (let j = judged_loads list h.supposed aim h.event b h.store h.judges in
        let first = ap (λ (v : View). v.loads) taken.view in
        let plan = ap (λ (v : View). length v.plan.parents) taken.view in
        let s = h.leaves.step.loads in
        let last = ap (λ (v : View). v.loads) h.leaves.freed.view in
        omega arith)

    refuses : Goes (Refuses aim ∷ []) a h.leaves.free
    refuses =
        goes_locked a b h.leaves.stored h.leaves.free (Refuses aim ∷ []) free taken
        (goes_then b h.store h.leaves.stored t (Refuses aim) own_b taken.kept loads
        (goes_made h.store h.leaves.stored (Refuses aim)
        (refuse_next h.store.view.plan (task_of h.store.view) (own_place h.store.view).done (own_place h.store.view).dropped there.0 there.1) h.leaves.step))
        h.leaves.freed

    abbrev ph : Phases
    ph = own_phase h.store.view

    abbrev count : ℕ
    count = length h.store.view.plan.makers

    phases_same : ph ≡ own_phase a.view
    phases_same = own_phase_stays b h.store t taken.kept own_b loads ∙ ap own_phase taken.view

    plan_same : h.store.view.plan ≡ a.view.plan
    plan_same = loads.same.plan ∙ ap (λ (v : View). v.plan) taken.view

    place_free : own_place h.leaves.free.view ≡ record { done = (own_place h.store.view).done; dropped = Some 0 }
    place_free =
        ap own_place h.leaves.freed.view ∙ stepped_place h.store h.leaves.stored (Refuses aim) h.leaves.step
        ∙ ap (λ o. next_place (own_place h.store.view).done o (Refuses aim)) there.0

    dropping : Goes (drops_below ph count) h.leaves.free now × (own_place now.view ≡ record { done = (own_place h.leaves.free.view).done; dropped = Some (0 + members_below ph count) })
    dropping =
        let d = drops_go ph h.leaves.free 0 h.leaves.freed.kept (ap (λ (x : Place). x.dropped) place_free) count now h.leaves.drops in
        (d.goes, d.place)

    place_now : own_place now.view ≡ record { done = (own_place h.store.view).done; dropped = Some (members_below ph count) }
    place_now =
        dropping.1
        ∙ (λ i. record { done = (place_free i).done; dropped = Some (let z : 0 + members_below ph count ≡ members_below ph count = omega arith in z i) })

    all_phases : ph ≡ phases_after h.store.view.plan (task_of h.store.view) (own_place h.store.view).done
    all_phases = ap (λ o. kept o (phases_after h.store.view.plan (task_of h.store.view) (own_place h.store.view).done)) there.0

    plan_then : now.view.plan ≡ h.store.view.plan
    plan_then = dropping.0.same.plan ∙ ap (λ (v : View). v.plan) h.leaves.freed.view ∙ h.leaves.step.same.plan

    task_then : task_of now.view ≡ task_of h.store.view
    task_then = same_task h.leaves.free now dropping.0.same ∙ ap task_of h.leaves.freed.view ∙ same_task h.store h.leaves.stored h.leaves.step.same

    pub loads_refused : a.view.loads + length a.view.plan.parents ≤ now.view.loads
    loads_refused = (let j = judging in let d = dropping.0.loads in omega arith)

    pub goes_refused : (drops : ℕ) → drops ≡ members_below (own_phase a.view) (length a.view.plan.makers) → IsRefusedAt aim drops a now
    goes_refused drops counted =
        let n : count ≡ length a.view.plan.makers = ap (λ (q : Plan). length q.makers) plan_same in
        record {
          goes =
              subst (λ k. Goes (Refuses aim ∷ drops_below (own_phase a.view) k) a now) n
              (subst (λ m. Goes (Refuses aim ∷ drops_below m count) a now) phases_same
              (goes_on a h.leaves.free now (Refuses aim ∷ []) (drops_below ph count) refuses dropping.0));
          left = has_left_all h.store now ph (own_place h.store.view).done dropping.0.kept plan_then task_then all_phases place_now;
          counted = counted;
        }

-- the lock was found taken
module _ (h : ℕ) (a now : Known) (t : ℕ) (own : a.view.own ≡ Some t) (seat : IsSeat a) (avoiding : avoids a.view.mode ≡ true) (found : FindsHeld h a now) where
  other : t ≢ h
  other e = found.meets.other (own ∙ ap Some e)

  place : own_place now.view ≡ own_place a.view
  place =
      ap (seen now.view).places (same_task a now found.meets.same ∙ task_is a t own) ∙ found.meets.seen_now.place.others t other
      ∙ ap (seen a.view).places (sym (task_is a t own))

  later : (u : ℕ) → IsPrefix ((seen a.view).places u) ((seen now.view).places u)
  later u = elim (cases_eq u h) [
    | inl same ↦
        subst (λ v. IsPrefix ((seen a.view).places v) ((seen now.view).places v)) (sym same)
        (let w = found.meets.was.was in
        longest_later true a.view.plan seat.checked h (MayHold a.view.plan h) ((seen a.view).places h) ((seen now.view).places h) w.places w.lock
        (subst (λ m. IsLawful m a.view.plan w.places w.lock) avoiding w.lawful) (w.before_far.later h found.meets.within) found.meets.seen_now.place.here)
    | inr apart ↦
        subst (λ (b : Place). IsPrefix ((seen a.view).places u) b) (sym (found.meets.seen_now.place.others u apart))
        (precedes_itself ((seen a.view).places u).done ((seen a.view).places u).dropped)
  ]

  pub goes_locked_out : Goes [] a now
  goes_locked_out =
      record {
        table = found.table;
        same = found.meets.same;
        place = place;
        later = later;
        exact = found.meets.seen_now.place.exact;
        loads = (let same = found.meets.loads in omega arith);
        kept = found.kept;
      }

  pub ends_locked_out : (aim : Aim) → next_action a.view ≡ Some (Blocks aim) → EndsTurn a now
  ends_locked_out aim next =
      is_locked_out h (ap avoids found.meets.same.mode ∙ avoiding) (aim, next_still a now found.meets.same place ∙ next)
      (λ e. other (sym (e ∙ same_task a now found.meets.same ∙ task_is a t own)))
      (subst (λ (q : Plan). MayHold q h ((seen now.view).places h)) (sym found.meets.same.plan) found.meets.there)
      (record { between = a; since = omega arith; found = found })
