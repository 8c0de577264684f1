-- The walk by places is that of the report.
use Rattle.std.proofs.Common.{◌≡◌, ℕ, zero, suc, ◌+◌, ◌-◌, ◌<◌, List, [], ◌∷◌, ◌++◌, length, refl, sym, ap, ◌∙◌, subst, arith, get_or, Bool, false, ◌==◌}
use Rattle.std.specs.Prelude.{Contains, map, All}
use Rattle.std.proofs.lemmas.List.{get_or_default, get_or-map, length-map, map-append, length-append, get_or-append-add}
use Rattle.std.proofs.lemmas.List.Elements.{Contains-get_or}
use Rattle.armus_base.specs.Counts.{IsDistinct}
use Rattle.armus_base.specs.DeadLists.{IsDeadList}
use Rattle.armus_base.specs.Deadlocks.{IsDeadBy}
use Rattle.armus_base.specs.Relations.{IsWalkCycle}
use Rattle.armus_base.specs.calls.Statuses.{IsInOrder}
use Rattle.armus_base.specs.declared.event.Event.{Event}
use Rattle.armus_base.specs.declared.ids.TaskId.{TaskId}
use Rattle.armus_base.specs.declared.status.Status.{Status}
use Rattle.armus_base.proofs.Elements.{Contains-head, Contains-tail}
use Rattle.dep_state.specs.calls.Deps.{Deps, IsDepsOf}
use Rattle.dep_state.proofs.DeadSets.{Contains-from_map, dead_in_list}
use Rattle.dep_state.proofs.TaskPlaces.{StandsAt, one_place, count, impeder_inside}
use Rattle.verdict.specs.Cycles.{IsDeadStep}
use Rattle.verdict.specs.calls.Cycles.{HaveEvents, IsCycleOf}
use Rattle.verdict.specs.inside.DeadWalks.{IsFlags, IsNextDead, IsMadeOf}
use Rattle.verdict.specs.declared.found.Cycle.{Cycle}
use Rattle.verdict.proofs.DeadPlaces.{dead_step}

distinct_map : {X Y : Type 0} (f : X → Y) (xs : List X) → ((a b : X) → Contains xs a → Contains xs b → f a ≡ f b → a ≡ b) → IsDistinct xs → IsDistinct (map f xs)
distinct_map f [] one d = tt
distinct_map f (x ∷ xs) one d = (
  λ c. let (z, m, e) = Contains-from_map f xs (f x) c in d.0 (subst (λ w. Contains xs w) (one z x (Contains-tail x xs z m) (Contains-head x xs) e) m),
  distinct_map f xs (λ a b i j e. one a b (Contains-tail x xs a i) (Contains-tail x xs b j) e) d.1,
)

-- a dead task has a status
pub dead_stands : (ss : List Status) (t : TaskId) → IsDeadBy ss t.0 → (s : Status) × Contains ss s × (s.t ≡ t)
dead_stands ss t by = let (set, here, keeps) = dead_in_list ss t by in let (s, i, e, rest) = keeps t here in (s, i, e)

-- a task whose status stands at a place
pub placed : (ss : List Status) (k : ℕ) (t : TaskId) → k < length ss → ((s : Status) → (get_or ss k s).t ≡ t) → Status → StandsAt ss k t
placed ss k t lt there s = (get_or ss k s, lt, get_or_default ss k (get_or ss k s) s lt, there s)

-- a list that is not empty
pub some_dead : (dead : List TaskId) (empty : Bool) → empty ≡ (length dead == 0) → empty ≡ false → 0 < length dead
some_dead [] empty e f = absurd cc
some_dead (t ∷ ts) empty e f = omega arith

-- the least dead task is the first
pub first_dead : (ss : List Status) (dead : List TaskId) → IsDeadList ss dead → (o : TaskId) → 0 < length dead → IsDeadBy ss (get_or dead 0 o).0
first_dead ss dead h o lt = (h.exact (get_or dead 0 o)).0 (Contains-get_or dead 0 o lt)

module _ (ss : List Status) (ok : IsInOrder ss) (d : Deps) (is : IsDepsOf ss d) (dead : List TaskId) (dl : IsDeadList ss dead) (flags : List Bool)
    (f : IsFlags d.tasks dead (length d.tasks) flags) where
  module _ (s0 : Status) (v : ℕ) (vl : v < length ss) (cycle : List ℕ) (w : IsWalkCycle (IsNextDead d flags) v cycle) where
    pub at : ℕ → TaskId
    at p = (get_or ss p s0).t

    stands : (p : ℕ) → p < length ss → StandsAt ss p (at p)
    unfolding at
    stands p lt = (get_or ss p s0, lt, get_or_default ss p (get_or ss p s0) s0 lt, refl)

    whole : List ℕ
    whole = w.before ++ cycle

    -- each node of the walk is a place
    inside : (k : ℕ) → k < length whole → get_or whole k 0 < length ss
    unfolding whole
    inside zero lt = rw (w.starts 0) vl
    inside (suc k) lt =
        let lt' : k + 1 < length whole = omega arith in
        let next = w.steps k 0 lt' in
        let e : suc k ≡ k + 1 = omega arith in
        subst (λ i. get_or whole i 0 < length ss) (sym e)
        (omega (arith, impeder_inside d is.formed (get_or d.awaits (get_or whole k 0) 0) (get_or whole (k + 1) 0) next.there, count ss ok d is))

    one_node : (p q : ℕ) → Contains whole p → Contains whole q → at p ≡ at q → p ≡ q
    one_node p q (j, jl, je) (k, kl, ke) e =
        let pl : p < length ss = subst (λ x. x < length ss) (get_or_default whole j 0 p jl ∙ je) (inside j jl) in
        let ql : q < length ss = subst (λ x. x < length ss) (get_or_default whole k 0 q kl ∙ ke) (inside k kl) in
        one_place ss ok (at q) p q (subst (λ t. StandsAt ss p t) e (stands p pl)) (stands q ql)

    step_at : (k : ℕ) (t : TaskId) → k + 1 < length whole → IsDeadStep ss (get_or (map at whole) k t) (get_or (map at whole) (k + 1) t)
    unfolding whole
    step_at k t lt =
        rw (get_or-map at whole k 0 t (omega arith), get_or-map at whole (k + 1) 0 t lt)
        (dead_step ss ok d is dead dl flags f (get_or whole k 0) (get_or whole (k + 1) 0) (at (get_or whole k 0)) (at (get_or whole (k + 1) 0)) (w.steps k 0 lt)
        (stands (get_or whole k 0) (inside k (omega arith))) (stands (get_or whole (k + 1) 0) (inside (k + 1) lt)))

    -- the nodes of the cycle stand in the walk
    in_cycle : (k : ℕ) (o : ℕ) → k < length cycle → (get_or cycle k o ≡ get_or whole (length w.before + k) 0) × (length w.before + k < length whole)
    unfolding whole
    in_cycle k o lt = (get_or_default cycle k o 0 lt ∙ sym (get_or-append-add w.before cycle k 0), omega (arith, length-append w.before cycle))

    pub places_inside : All (λ p. p < length ss) cycle
    places_inside k o lt = let (e, in') = in_cycle k o lt in subst (λ p. p < length ss) (sym e) (inside (length w.before + k) in')

    pub dead_cycle : IsWalkCycle (IsDeadStep ss) (at v) (map at cycle)
    unfolding whole
    dead_cycle =
        let e : map at whole ≡ map at w.before ++ map at cycle = map-append at w.before cycle in
        let n : length (map at whole) ≡ length whole = length-map whole at in
        let pos : 0 < length whole = omega (arith, w.some, length-append w.before cycle) in
        let last : length whole - 1 < length whole = omega arith in
        record {
          before = map at w.before;
          starts = λ t. rw (← e) (get_or-map at whole 0 0 t pos ∙ ap at (w.starts 0));
          steps = λ k t lt. rw (← e) (step_at k t (omega (arith, n, ap length e)));
          distinct = rw (← e) (distinct_map at whole one_node w.distinct);
          some = rw (length-map cycle at) w.some;
          back = λ t. rw (← e, n, get_or-map at whole (length whole - 1) 0 t last, get_or-map at cycle 0 0 t w.some)
              (dead_step ss ok d is dead dl flags f (get_or whole (length whole - 1) 0) (get_or cycle 0 0) (at (get_or whole (length whole - 1) 0))
              (at (get_or cycle 0 0)) (w.back 0)
              (stands (get_or whole (length whole - 1) 0) (inside (length whole - 1) last)) (stands (get_or cycle 0 0) (places_inside 0 0 w.some)));
        }

    have_events : (tasks : List TaskId) (events : List Event) → IsMadeOf ss cycle tasks events → HaveEvents ss tasks events
    have_events tasks events m =
        let et = m.tasks_are s0 in
        let ee = m.events_are s0 in
        let nt = ap length et ∙ length-map cycle (λ p. (get_or ss p s0).t) in
        let ne = ap length ee ∙ length-map cycle (λ p. (get_or ss p s0).event) in
        record {
          sized = ne ∙ sym nt;
          each = λ k t e lt.
              let in' : k < length cycle = omega (arith, nt) in
              let p : ℕ = get_or cycle k 0 in
              let pl : p < length ss = places_inside k 0 in' in (
                get_or ss p s0,
                (p, pl, get_or_default ss p (get_or ss p s0) s0 pl),
                sym (ap (λ ts. get_or ts k t) et ∙ get_or-map (λ q. (get_or ss q s0).t) cycle k 0 t in'),
                sym (ap (λ es. get_or es k e) ee ∙ get_or-map (λ q. (get_or ss q s0).event) cycle k 0 e in'),
              );
        }

    pub cycle_of :
        (o : TaskId) → 0 < length dead → ((s : Status) → (get_or ss v s).t ≡ get_or dead 0 o) →
        (c : Cycle) → IsMadeOf ss cycle c.tasks c.events → IsCycleOf ss dead c
    unfolding at
    cycle_of o lt there c m =
        record {
          start = (get_or ss v s0).t;
          first = λ t. get_or_default dead 0 t o lt ∙ sym (there s0);
          walk = subst (λ ts. IsWalkCycle (IsDeadStep ss) ((get_or ss v s0).t) ts) (sym (m.tasks_are s0)) dead_cycle;
          events = have_events c.tasks c.events m;
        }
