-- Walks over the tasks that may be dead, and the cycle in which one closes.
use Rattle.std.proofs.Common.{◌≡◌, ℕ, ◌+◌, ◌-◌, ◌<◌, ◌≤◌, Bool, true, false, Option, Some, None, List, [], ◌∷◌, ◌++◌, length, get_or, set, take, drop, arith, sym, ◌∙◌, ap, subst, refl, inl, inr, get_or-set_other, length-drop, length-set}
use Rattle.std.specs.Prelude.{Contains, MatchOption, is_some}
use Rattle.std.proofs.lemmas.Bool.{cases_eq, cases_lt}
use Rattle.std.proofs.lemmas.List.{get_or-drop, get_or_append_left, get_or_default, get_or_push, length_push, take_all, take_more}
use Rattle.std.proofs.lemmas.List.Elements.{Contains-get_or}
use Rattle.armus_base.specs.CheckedPlans.{IsCheckedPlan}
use Rattle.armus_base.specs.DeadLists.{IsDeadList}
use Rattle.armus_base.specs.Deadlocks.{IsDeadBy, NobodyDead}
use Rattle.armus_base.specs.Finals.{is_awaited}
use Rattle.armus_base.specs.Graphs.{WaitsFor}
use Rattle.armus_base.specs.Relations.{IsWalkCycle}
use Rattle.armus_base.specs.Runs.{IsReachable}
use Rattle.armus_base.specs.States.{State, if_published}
use Rattle.armus_base.specs.calls.FinalLaws.{AreStatuses}
use Rattle.armus_base.specs.declared.event.Event.{Event}
use Rattle.armus_base.specs.declared.ids.TaskId.{TaskId}
use Rattle.armus_base.specs.declared.status.Status.{Status}
use Rattle.armus_base.proofs.StatusesAre.{statuses_are}
use Rattle.armus_base.proofs.WalkCycles.{IsWalkTo, walk_done}
use Rattle.adaptive.proofs.DeadOrNot.{dead_list_exists}
use Rattle.dep_state.proofs.DeadSets.{dead_by_list, dead_in_list}
use Rattle.pl_core.specs.calls.HighestPhases.{IsPublishedImpeder}
use Rattle.pl_core.specs.calls.Stands.{IsAtAwaitOf}
use Rattle.pl_core.specs.calls.Worlds.{WorldValue, places_of, state_of}
use Rattle.verdict.specs.Cycles.{IsDeadStep}
use Rattle.verdict.specs.calls.Cycles.{HaveEvents, IsCycle, IsCycleOf}
use Rattle.verdict.specs.declared.found.Cycle.{Cycle}
use Rattle.verdict.proofs.Passes.{is_cycle}
use Rattle.avoider.specs.calls.Decisions.{ExplainsDeath, supposed_statuses}
use Rattle.avoider.specs.declared.walking.ImpederWalk.{ImpederWalk}
use Rattle.avoider.specs.inside.Walks.{AreAlive, ArePassed, GoesTo, IsAwaiting, IsOnItsWay, IsUnder}
use Rattle.avoider.proofs.CycleDead.{cycle_dead}
use Rattle.avoider.proofs.RefusedInCycle.{refused_in_cycle}
use Rattle.avoider.proofs.SamePairs.{awaited_by, pair_from, pair_is}
use Rattle.avoider.proofs.Supposing.{supposed_in_order, supposed_of_plan}

-- one more is passed
pub passed_more : (s : State) (e : Event) (alive : List Bool) (u : ℕ) → ArePassed s e alive u → (IsPublishedImpeder s e u → get_or alive u false ≡ true) → ArePassed s e alive (u + 1)
passed_more s e alive u passed here v lt imp =
    elim (cases_eq v u) [
      | inl same ↦ subst (λ x. get_or alive x false ≡ true) (sym same) (here (subst (λ x. IsPublishedImpeder s e x) same imp))
      | inr other ↦ passed v (omega arith) imp
    ]

-- nobody is left out up to a further number, where nobody between the two impedes
pub passed_on :
    (s : State) (e : Event) (alive : List Bool) (low high : ℕ) → ArePassed s e alive low → ((u : ℕ) → low ≤ u → u < high → IsPublishedImpeder s e u → ⊥) → ArePassed s e alive high
passed_on s e alive low high passed none u lt impedes =
    elim (cases_lt u low) [ inl l ↦ passed u l impedes | inr on ↦ absurd (none u on lt impedes) ]

-- one more is not dead
pub under_more : (ss : List Status) (u : ℕ) → IsUnder ss u → (IsDeadBy ss u → ⊥) → IsUnder ss (u + 1)
under_more ss u under here v lt dead =
    elim (cases_eq v u) [ inl same ↦ here (subst (IsDeadBy ss) same dead) | inr other ↦ under v (omega arith) dead ]

module _ (ss : List Status) where
  -- a dead task waits for a dead one
  pub dead_next : (a : TaskId) → IsDeadBy ss a.0 → (b : TaskId) × WaitsFor ss a b × IsDeadBy ss b.0
  dead_next a d =
      let (set', m, h) = dead_in_list ss a d in
      let (s, i, st, (v, j, k, p)) = h a m in
      (v.t, (s, i, st, (v, j, refl, p)), dead_by_list ss v.t (set', k, h))

  -- tasks each of which waits for one of them are dead
  pub dead_all : (all : List TaskId) → ((a : TaskId) → Contains all a → (b : TaskId) × WaitsFor ss a b × Contains all b) → (a : TaskId) → Contains all a → IsDeadBy ss a.0
  dead_all all each a m =
      dead_by_list ss a (
        all,
        m,
        λ x n. let (b, (s, i, st, (v, j, vt, p)), k) = each x n in (s, i, st, (v, j, subst (λ (y : TaskId). Contains all y) (sym vt) k, p)),
      )

  -- one more mark
  pub mark_more : (tasks : ℕ) (alive : List Bool) (at : ℕ) → AreAlive ss tasks alive → at < tasks → (IsDeadBy ss at → ⊥) → AreAlive ss tasks (set alive at true)
  mark_more tasks alive at are lt lives =
      record {
        sized = length-set alive at true ∙ are.sized;
        each = λ u on. elim (cases_eq u at) [
          | inl e ↦ subst (λ v. IsDeadBy ss v → ⊥) (sym e) lives
          | inr ne ↦ are.each u (sym (get_or-set_other alive at u true false ne) ∙ on)
        ];
      }

  module _ (start : TaskId) (path : List TaskId) (at : TaskId) (walk : IsWalkTo (GoesTo ss) start path at) (k : ℕ) (lt : k < length path)
      (there : (d : TaskId) → get_or path k d ≡ at) where
    at_in : Contains path at
    at_in = subst (λ (x : TaskId). Contains path x) (there at) (Contains-get_or path k at lt)

    next_on : (a : TaskId) → Contains path a → (b : TaskId) × WaitsFor ss a b × Contains path b
    next_on a (i, l, e) =
        elim (cases_lt (i + 1) (length path)) [
          | inl more ↦
              let step = walk.steps i a more in
              (get_or path (i + 1) a, subst (λ (x : TaskId). WaitsFor ss x (get_or path (i + 1) a)) e step.waits, Contains-get_or path (i + 1) a more)
          | inr last ↦
              let step = walk.next a (omega arith) in
              let here : get_or path (length path - 1) a ≡ a = ap (λ j. get_or path j a) (omega arith) ∙ e in
              (at, subst (λ (x : TaskId). WaitsFor ss x at) here step.waits, at_in)
        ]

    dead_path : (a : TaskId) → Contains path a → IsDeadBy ss a.0
    dead_path = dead_all path next_on

    to_dead : (a b : TaskId) → GoesTo ss a b → Contains path b → IsDeadStep ss a b
    to_dead a b goes m =
        record {
          waits = goes.waits;
          dead = dead_path b m;
          least = λ v w d. elim (cases_lt v.0 b.0) [ inl less ↦ absurd (goes.least v less w d) | inr more ↦ omega arith ];
        }

    dead_walk : IsWalkTo (IsDeadStep ss) start path at
    dead_walk =
        record {
          starts = walk.starts;
          none = walk.none;
          steps = λ i d more. to_dead (get_or path i d) (get_or path (i + 1) d) (walk.steps i d more) (Contains-get_or path (i + 1) d more);
          next = λ d some. to_dead (get_or path (length path - 1) d) at (walk.next d some) at_in;
          distinct = walk.distinct;
        }

    -- each task of the path is listed
    pub awaits_on : (a : TaskId) → Contains path a → IsAwaiting ss a
    awaits_on a m = let (b, (s, i, st, rest), n) = next_on a m in (s, i, st)

    start_in : Contains path start
    start_in = subst (λ (x : TaskId). Contains path x) (walk.starts at (omega arith)) (Contains-get_or path 0 at (omega arith))

    first_is : (dead : List TaskId) → IsDeadList ss dead → IsUnder ss start.0 → (d : TaskId) → get_or dead 0 d ≡ start
    first_is dead are under d = by_place ((are.exact start).1 (dead_path start start_in))
      where
        by_place : Contains dead start → get_or dead 0 d ≡ start
        by_place (j, jl, je) =
            elim (cases_eq j 0) [
              | inl e ↦ get_or_default dead 0 d start (omega arith) ∙ ap (λ i. get_or dead i start) (sym e) ∙ je
              | inr ne ↦
                  let below = are.ascends 0 j start (omega arith) jl in
                  let one : (get_or dead j start).0 ≡ start.0 = ap (λ (x : TaskId). x.0) je in
                  absurd (under (get_or dead 0 start).0 (omega arith) ((are.exact (get_or dead 0 start)).0 (Contains-get_or dead 0 start (omega arith))))
            ]

    pub cycle_is : (dead : List TaskId) → IsDeadList ss dead → IsUnder ss start.0 → (c : Cycle) → c.tasks ≡ drop k path → HaveEvents ss (drop k path) c.events → IsCycleOf ss dead c
    cycle_is dead are under c same have =
        record {
          start = start;
          first = first_is dead are under;
          walk = subst (λ xs. IsWalkCycle (IsDeadStep ss) start xs) (sym same) (walk_done (IsDeadStep ss) start path at dead_walk k lt there);
          events = subst (λ xs. HaveEvents ss xs c.events) (sym same) have;
        }

  -- the events of one more task
  pub events_more :
      (tasks : List TaskId) (events : List Event) (i : ℕ) (f : Event) (d : TaskId) → i < length tasks → HaveEvents ss (take i tasks) events →
      ((s : Status) × Contains ss s × (s.t ≡ get_or tasks i d) × (s.event ≡ f)) → HaveEvents ss (take (i + 1) tasks) (events ++ f ∷ [])
  events_more tasks events i f d lt have one =
      let more = take_more tasks i d lt in
      subst (λ xs. HaveEvents ss xs (events ++ f ∷ [])) (sym more) (grown (take i tasks) have)
    where
      grown : (xs : List TaskId) → HaveEvents ss xs events → HaveEvents ss (xs ++ get_or tasks i d ∷ []) (events ++ f ∷ [])
      grown xs h =
          record {
            sized = length_push events f ∙ ap (λ n. n + 1) h.sized ∙ sym (length_push xs (get_or tasks i d));
            each = λ k t e below. elim (cases_eq k (length xs)) [
              | inl same ↦
                  let a = get_or_push xs (get_or tasks i d) t k (sym same) in
                  let b = get_or_push events f e k (h.sized ∙ sym same) in
                  rw (a, b) one
              | inr ne ↦
                  let n = length_push xs (get_or tasks i d) in
                  let l : k < length xs = omega arith in
                  let a = get_or_append_left xs (get_or tasks i d ∷ []) t k l in
                  let b = get_or_append_left events (f ∷ []) e k (omega (arith, h.sized)) in
                  rw (a, b) (h.each k t e l)
            ];
          }

module _ (w : WorldValue) (checked : IsCheckedPlan w.plan) (reach : IsReachable w.plan (places_of w)) (t : ℕ) (task : t < length w.plan.parents) (e : Event) where
  abbrev s : State
  s = if_published (state_of w) t e

  abbrev ss : List Status
  ss = supposed_statuses w t e

  few : AreStatuses w.plan s (is_awaited w.plan s) ss
  few = statuses_are w.plan s (is_awaited w.plan s) checked

  pub link_from : (a b : TaskId) (f : Event) → a.0 < length w.plan.parents → s.published a.0 ≡ Some f → b.0 < length w.plan.parents → IsPublishedImpeder s f b.0 → WaitsFor ss a b
  link_from a b f lt p lt' (g, q, m, at, below) =
      pair_from ss a b
      (record {
        event = f;
        waits = (few.events a.0 f).1 (lt, p);
        phase = m;
        behind = (few.phases b.0 f.p.0 m).1
            (record { task = lt'; event = g; published = q; phaser = (supposed_of_plan w checked reach t task e).phaser b.0 f.p.0 m at; asked_for = awaited_by w.plan s a.0 f lt p; phase = at });
        below = below;
      })

  pub link_is : (a b : TaskId) → WaitsFor ss a b → (f : Event) × (s.published a.0 ≡ Some f) × (b.0 < length w.plan.parents) × IsPublishedImpeder s f b.0
  link_is a b h =
      let pair = pair_is ss a b h in
      let (lt, p) = (few.events a.0 pair.event).0 pair.waits in
      let at = (few.phases b.0 pair.event.p.0 pair.phase).0 pair.behind in
      (pair.event, p, at.task, (at.event, at.published, pair.phase, at.phase, pair.below))

  -- who is not published is not dead
  pub lives_unpublished : (a : TaskId) → s.published a.0 ≡ None → IsDeadBy ss a.0 → ⊥
  lives_unpublished a none d =
      let (b, waits, db) = dead_next ss a d in
      let (f, p, lt, imp) = link_is a b waits in
      let both : None ≡ Some f = sym none ∙ p in
      absurd (cc)

  module _ (alive : List Bool) (are : AreAlive ss (length w.plan.parents) alive) (a : TaskId) (f : Event) (p : s.published a.0 ≡ Some f) where
    same_event : (g : Event) → s.published a.0 ≡ Some g → g ≡ f
    same_event g q = let both : Some g ≡ Some f = sym q ∙ p in cc

    pub lives_passed : ArePassed s f alive (length w.plan.parents) → IsDeadBy ss a.0 → ⊥
    lives_passed passed d =
        let (b, waits, db) = dead_next ss a d in
        let (g, q, lt, imp) = link_is a b waits in
        are.each b.0 (passed b.0 lt (subst (λ x. IsPublishedImpeder s x b.0) (same_event g q) imp)) db

    pub goes_to : (b : TaskId) → a.0 < length w.plan.parents → b.0 < length w.plan.parents → IsPublishedImpeder s f b.0 → ArePassed s f alive b.0 → GoesTo ss a b
    goes_to b lt lt' imp passed =
        record {
          waits = link_from a b f lt p lt' imp;
          least = λ v less waits d.
              let (g, q, l, i) = link_is a v waits in
              are.each v.0 (passed v.0 less (subst (λ x. IsPublishedImpeder s x v.0) (same_event g q) i)) d;
        }

    -- so where the next is told
    pub next_told :
        a.0 < length w.plan.parents → (o : Option TaskId) →
        MatchOption o (ArePassed s f alive (length w.plan.parents)) (λ b. (b.0 < length w.plan.parents) × IsPublishedImpeder s f b.0 × ArePassed s f alive b.0) →
        MatchOption o (IsDeadBy ss a.0 → ⊥) (λ b. (b.0 < length w.plan.parents) × GoesTo ss a b)
    next_told lt None passed = lives_passed passed
    next_told lt (Some b) (lt', imp, passed) = (lt', goes_to b lt lt' imp passed)

  -- a task with a status is published on its event, and one that is published has a status
  pub listed_is : (u : TaskId) → IsAwaiting ss u → (f : Event) × (u.0 < length w.plan.parents) × (s.published u.0 ≡ Some f)
  listed_is u (v, i, vt) = let at = (few.events u.0 v.event).0 (v, i, ap (λ (x : TaskId). x.0) vt, refl) in (v.event, at.0, at.1)

  pub listed_from : (u : TaskId) (f : Event) → u.0 < length w.plan.parents → s.published u.0 ≡ Some f → (v : Status) × Contains ss v × (v.t.0 ≡ u.0) × (v.event ≡ f)
  listed_from u f lt p = (few.events u.0 f).1 (lt, p)

  -- the cycle in which a walk closes explains the death of the task whose await is decided
  pub outcome :
      IsAtAwaitOf w t e → NobodyDead (state_of w) → (walk : ImpederWalk) (on : IsOnItsWay ss (length w.plan.parents) walk) (k : ℕ) → k < length walk.path.items →
      ((d : TaskId) → get_or walk.path.items k d ≡ walk.at) → (c : Cycle) → c.tasks ≡ drop k walk.path.items → HaveEvents ss (drop k walk.path.items) c.events → ExplainsDeath ss t c
  outcome before nobody walk on k lt there c same have =
      let list = dead_list_exists ss in
      let cycle : IsCycleOf ss list.0 c = cycle_is ss on.start walk.path.items walk.at on.walk k lt there list.0 list.1 on.least c same have in
      let links : IsCycle ss c.tasks c.events = is_cycle ss (supposed_in_order w checked t e) list.0 c cycle in
      record {
        dead = list.0;
        are_dead = list.1;
        among = cycle_dead ss c.tasks c.events e links (record { 0 = t }) (refused_in_cycle w checked reach t e before nobody c.tasks c.events links);
        cycle = cycle;
        links = links;
      }

-- what stands behind a place of a list is one of its elements
pub in_drop : {A : Type 0} (xs : List A) (k : ℕ) (x : A) → Contains (drop k xs) x → Contains xs x
in_drop xs k x (i, l, e) = (k + i, (let n = length-drop k xs in omega arith), sym (get_or-drop k xs i x) ∙ e)

pub rest_of_list : {A : Type 0} (xs : List A) (k : ℕ) → take (length xs - k) (drop k xs) ≡ drop k xs
rest_of_list xs k = take_all (length xs - k) (drop k xs) (let n = length-drop k xs in omega arith)

-- where there is nothing
pub none_of : {A : Type 0} (o : Option A) → is_some o ≡ false → o ≡ None
none_of None e = refl
none_of (Some x) e = absurd (cc)
