-- Sets of tasks that impede events, and which set is each task's own.
use Rattle.std.proofs.Common.{◌≡◌, ℕ, ◌+◌, ◌<◌, List, [], ◌∷◌, ◌++◌, length, sym, ap, ◌∙◌, subst, ◌⊎◌, inl, inr, arith, get_or, set, take, length-set, get_or-set_same, get_or-set_other}
use Rattle.std.specs.Prelude.{Contains, ◌↔◌, All, slice_index}
use Rattle.std.proofs.lemmas.Bool.{cases_eq}
use Rattle.std.proofs.lemmas.List.{get_or_append_left, get_or_default, get_or_push, length_push, map-append, take_more}
use Rattle.std.proofs.lemmas.List.Elements.{All-contains, Contains-append_left, Contains-get_or, Contains-push, Contains-push_cases}
use Rattle.armus_base.proofs.Elements.{nothing_in_nil}
use Rattle.armus_base.specs.declared.ids.TaskId.{TaskId}
use Rattle.armus_base.specs.declared.status.Status.{Status}
use Rattle.armus_base.specs.Graphs.{WaitsFor}
use Rattle.armus_base.specs.calls.Statuses.{IsInOrder}
use Rattle.dep_state.specs.calls.Deps.{AreRelations, Deps, IsDepsOf, impeders_of}
use Rattle.dep_state.specs.inside.Names.{named}
use Rattle.dep_state.proofs.DeadSets.{same_task}
use Rattle.dep_state.proofs.TaskPlaces.{stands_task, task_stands}
use Rattle.dep_state.proofs.WaitRows.{named_inside, row_is_waits}
use Rattle.order_graph.specs.calls.Waits.{AreWaitsAmong, Awaits, own_set}
use Rattle.order_graph.specs.declared.waits.Waits.{Waits}
use Rattle.order_graph.specs.inside.Gathered.{AreImpeding, AreOwnPlaces, IsImpedingAt}

-- one place more of a set
pub set_more :
    (tasks : List TaskId) (places : List ℕ) (i : ℕ) → i < length places → (t : TaskId) → get_or tasks (get_or places i 0) (record { 0 = 0 }) ≡ t → (old new : List TaskId) →
    ((u : TaskId) → Contains old u ↔ Contains (named tasks (take i places)) u) → ((u : TaskId) → Contains new u ↔ (Contains old u ⊎ (u ≡ t))) → (u : TaskId) →
    Contains new u ↔ Contains (named tasks (take (i + 1) places)) u
set_more tasks places i lt t at old new before more u =
    let e : named tasks (take (i + 1) places) ≡ named tasks (take i places) ++ t ∷ [] =
    ap (named tasks) (take_more places i 0 lt) ∙ map-append (λ k. get_or tasks k (record { 0 = 0 })) (take i places) (get_or places i 0 ∷ []) ∙
    ap (λ x. named tasks (take i places) ++ x ∷ []) at in
    rw e (
      λ m. elim ((more u).0 m) [
        | inl l ↦ Contains-append_left (named tasks (take i places)) (t ∷ []) u ((before u).0 l)
        | inr f ↦ subst (λ x. Contains (named tasks (take i places) ++ t ∷ []) x) (sym f) (Contains-push (named tasks (take i places)) t)
      ],
      λ m. (more u).1 (elim (Contains-push_cases (named tasks (take i places)) t u m) [ inl l ↦ inl ((before u).1 l) | inr f ↦ inr (sym f) ]),
    )

-- one event more
pub sets_more :
    (d : Deps) (sets : List (List TaskId)) (set' : List TaskId) → ((u : TaskId) → Contains set' u ↔ Contains (named d.tasks (impeders_of d (length sets))) u) →
    ((e : ℕ) → e < length sets → IsImpedingAt d sets e) → (e : ℕ) → e < length sets + 1 → IsImpedingAt d (sets ++ set' ∷ []) e
sets_more d sets set' is each e lt u =
    elim (cases_eq e (length sets)) [
      | inl f ↦ rw (get_or_push sets set' [] e (sym f), f) (is u)
      | inr ne ↦ rw (get_or_append_left sets (set' ∷ []) [] e (omega arith)) (each e (omega arith) u)
    ]

-- and the empty set behind all
pub sets_done :
    (d : Deps) (sets : List (List TaskId)) → length sets ≡ length d.events → ((e : ℕ) → e < length d.events → IsImpedingAt d sets e) → AreImpeding d (sets ++ [] ∷ [])
sets_done d sets sized each =
    record {
      sized = length_push sets [] ∙ ap (λ n. n + 1) sized;
      each = λ e lt u. rw (get_or_append_left sets ([] ∷ []) [] e (omega arith)) (each e lt u);
      last = get_or_push sets [] [] (length d.events) sized;
    }

-- one task more has the place of its event
pub places_more :
    (d : Deps) (own : List ℕ) (k : ℕ) (t : TaskId) → k < length d.tasks → get_or d.tasks k t ≡ t → AreOwnPlaces d k own →
    AreOwnPlaces d (k + 1) (set own t.0 (slice_index d.awaits k))
places_more d own k t lt at before x l =
    elim (cases_eq x t.0) [
      | inl e ↦
          inl (
            k,
            omega arith,
            λ u. ap (λ (y : TaskId). y.0) (get_or_default d.tasks k u t lt ∙ at) ∙ sym e,
            ap (λ i. slice_index (set own t.0 (slice_index d.awaits k)) i) e ∙
                get_or-set_same own t.0 (slice_index d.awaits k) 0 (let n = length-set own t.0 (slice_index d.awaits k) in omega arith),
          )
      | inr ne ↦
          let same : slice_index (set own t.0 (slice_index d.awaits k)) x ≡ slice_index own x = get_or-set_other own t.0 x (slice_index d.awaits k) 0 ne in
          elim (before x (let n = length-set own t.0 (slice_index d.awaits k) in omega arith)) [
            | inl h ↦ let (j, jk, is, place) = h in inl (j, omega arith, is, same ∙ place)
            | inr none ↦ inr (record {
              other = λ j u jk e. elim (cases_eq j k) [
                | inl f ↦ ne (sym e ∙ ap (λ i. (get_or d.tasks i u).0) f ∙ ap (λ (y : TaskId). y.0) (get_or_default d.tasks k u t lt ∙ at))
                | inr g ↦ none.other j u (omega arith) e
              ];
              behind = same ∙ none.behind;
            })
          ]
    ]

module _ (d : Deps) (formed : AreRelations d) (w : Waits) (sets : AreImpeding d w.sets.items) (own : AreOwnPlaces d (length d.tasks) w.own.items) where
  -- each task's own set is one of the sets
  place_inside : (t : ℕ) → t < length w.own.items → slice_index w.own.items t < length w.sets.items
  place_inside t lt =
      elim (own t lt) [
        | inl h ↦ let (j, jk, is, place) = h in omega (arith, formed.events_inside j 0 (omega (arith, formed.awaits_sized)), sets.sized)
        | inr none ↦ omega (arith, none.behind, sets.sized)
      ]

  set_tasks : (n : ℕ) → All (λ t. t.0 < n) d.tasks → (e : ℕ) (u : TaskId) → e < length w.sets.items → Contains (get_or w.sets.items e []) u → u.0 < n
  set_tasks n below e u lt m =
      elim (cases_eq e (length d.events)) [
        | inl f ↦ absurd (nothing_in_nil u (subst (λ r. Contains {X = TaskId} r u) (ap (λ i. get_or w.sets.items i []) f ∙ sets.last) m))
        | inr ne ↦
            let l : e < length d.events = omega (arith, sets.sized) in
            let names = named_inside d.tasks (impeders_of d e) (formed.tasks_inside e [] (omega (arith, formed.impeders_sized))) in
            let task = All-contains (Contains d.tasks) (named d.tasks (impeders_of d e)) u names ((sets.each e l u).0 m) in
            All-contains (λ (t : TaskId). t.0 < n) d.tasks u below task
      ]

  pub waits_among : (n : ℕ) → length w.own.items ≡ n → All (λ t. t.0 < n) d.tasks → AreWaitsAmong n w
  waits_among n sized below =
      record {
        sized = sized;
        own_inside = λ k z lt. subst (λ i. i < length w.sets.items) (get_or_default w.own.items k 0 z lt) (place_inside k lt);
        tasks_inside = λ e z lt k y l.
            set_tasks n below e (get_or (get_or w.sets.items e z) k y) lt
            (subst (λ r. Contains {X = TaskId} r (get_or (get_or w.sets.items e z) k y)) (get_or_default w.sets.items e z [] lt) (Contains-get_or (get_or w.sets.items e z) k y l));
      }

  module _ (ss : List Status) (ok : IsInOrder ss) (is : IsDepsOf ss d) (below : All (λ t. t.0 < length w.own.items) d.tasks) where
    -- whoever waits has a place among the tasks
    waiter_place : (a b : TaskId) → WaitsFor ss a b → (k : ℕ) × (k < length d.tasks) × (get_or d.tasks k a ≡ a)
    waiter_place a b (s, (k, lt, e), st, rest) = let (l, at) = stands_task ss ok d is k a (s, lt, e, st) in (k, l, at)

    -- those of the own set are those that are waited for
    pub waits_pairs : (a b : TaskId) → Awaits w a b ↔ WaitsFor ss a b
    waits_pairs a b = (
      λ (lt, m). elim (own a.0 lt) [
        | inl h ↦
            let (j, jk, here, place) = h in
            let at : get_or d.tasks j a ≡ a = same_task (get_or d.tasks j a) a (here a) in
            let e : slice_index d.awaits j < length d.events = formed.events_inside j 0 (omega (arith, formed.awaits_sized)) in
            (row_is_waits ss ok d is j a (task_stands ss ok d is j a jk at) b).0
            ((sets.each (slice_index d.awaits j) e b).0 (subst (λ i. Contains {X = TaskId} (get_or w.sets.items i []) b) place m))
        | inr none ↦ absurd (nothing_in_nil b (subst (λ r. Contains {X = TaskId} r b) (ap (λ i. get_or w.sets.items i []) none.behind ∙ sets.last) m))
      ],
      λ v.
          let (k, l, at) = waiter_place a b v in
          let lt : a.0 < length w.own.items = All-contains (λ (t : TaskId). t.0 < length w.own.items) d.tasks a below (k, l, at) in (
            lt,
            elim (own a.0 lt) [
              | inl h ↦
                  let (j, jk, here, place) = h in
                  let at' : get_or d.tasks j a ≡ a = same_task (get_or d.tasks j a) a (here a) in
                  let e : slice_index d.awaits j < length d.events = formed.events_inside j 0 (omega (arith, formed.awaits_sized)) in
                  subst (λ i. Contains {X = TaskId} (get_or w.sets.items i []) b) (sym place) ((sets.each (slice_index d.awaits j) e b).1
                  ((row_is_waits ss ok d is j a (task_stands ss ok d is j a jk at') b).1 v))
              | inr none ↦ absurd (none.other k a l (ap (λ (y : TaskId). y.0) at))
            ],
          ),
    )

-- the tasks of an own set are tasks
pub own_tasks :
    (w : Waits) (n : ℕ) → AreWaitsAmong n w → (t : TaskId) → t.0 < n → (set' : List TaskId) → set' ≡ own_set w t → All (λ u. u.0 < n) set'
own_tasks w n among t lt set' is =
    subst (All (λ (u : TaskId). u.0 < n)) (sym is)
    (among.tasks_inside (slice_index w.own.items t.0) [] (among.own_inside t.0 0 (omega (arith, among.sized))))
