-- A task is dead exactly where it reaches a closed set of the wait-for graph, its event one of the state graph, and either one of the general resource graph.
use Rattle.std.proofs.Common.{◌≡◌, ℕ, Bool, true, false, List, [], ◌∷◌, ◌++◌, refl, sym, ap, ◌∙◌, subst, inl, inr, arith, get_or}
use Rattle.std.specs.Prelude.{Contains, map, if◌then◌else◌}
use Rattle.std.proofs.Math.Dec.{eqb}
use Rattle.std.proofs.lemmas.Bool.{cases_order, cases_Bool, eqb-true, eq-eqb}
use Rattle.armus_base.specs.Deadlocks.{IsDeadBy}
use Rattle.armus_base.specs.declared.ids.PhaserId.{PhaserId}
use Rattle.armus_base.specs.declared.status.Member.{Member}
use Rattle.std.proofs.lemmas.List.{get_or_default, get_or-map, length-map}
use Rattle.std.proofs.lemmas.List.Elements.{Contains-append_left, Contains-append_right, Contains-append_cases}
use Rattle.armus_base.specs.calls.Relations.{KeepsOn, IsInClosedSet}
use Rattle.armus_base.proofs.Elements.{Contains-head, Contains-tail, Contains-cons_cases}
use Rattle.armus_base.specs.declared.ids.TaskId.{TaskId}
use Rattle.armus_base.specs.declared.event.Event.{Event}
use Rattle.armus_base.specs.declared.status.Status.{Status}
use Rattle.armus_base.specs.Statuses.{Impedes}
use Rattle.armus_base.specs.calls.Statuses.{IsInOrder}
use Rattle.armus_base.specs.Graphs.{WaitsFor, StateEdge, Resource, task, event, ResourceEdge}

-- a deadlocked set as a list: each task of it has an event in the list of statuses that some task of the set impedes
abbrev pub IsDeadlockedList : List Status → List TaskId → Type 0
IsDeadlockedList ss set =
    (t : TaskId) → Contains set t →
    (s : Status) × Contains ss s × (s.t ≡ t) × ((u : Status) × Contains ss u × Contains set u.t × Impedes u s.event)

-- the task stands in some such list
abbrev pub IsDead : List Status → TaskId → Type 0
IsDead ss t = (set : List TaskId) × Contains set t × IsDeadlockedList ss set

task_of : ℕ → TaskId
task_of n = record { 0 = n }

-- a task is its number
pub same_task : (t u : TaskId) → t.0 ≡ u.0 → t ≡ u
unfolding task_of
same_task t u e = ap task_of e

-- the tasks of statuses that pass a test
passing : (ℕ → Bool) → List Status → List TaskId
passing p [] = []
passing p (s ∷ ss) = if p s.t.0 then s.t ∷ passing p ss else passing p ss

passing-has : (p : ℕ → Bool) (ss : List Status) (s : Status) → Contains ss s → p s.t.0 ≡ true → Contains (passing p ss) s.t
unfolding passing
passing-has p [] s (k, lt, e) on = absurd (omega arith)
passing-has p (v ∷ ss) s m on =
    elim (Contains-cons_cases v ss s m) [
      | inl e ↦
          let here : p v.t.0 ≡ true = ap (λ x. p x.t.0) e ∙ on in
          rw here (subst (λ x. Contains (v.t ∷ passing p ss) x.t) e (Contains-head v.t (passing p ss)))
      | inr l ↦
          let rest = passing-has p ss s l on in
          elim (cases_Bool (p v.t.0)) [ inl yes_v ↦ rw yes_v (Contains-tail v.t (passing p ss) s.t rest) | inr no_v ↦ rw no_v rest ]
    ]

passing-from : (p : ℕ → Bool) (ss : List Status) (t : TaskId) → Contains (passing p ss) t → p t.0 ≡ true
unfolding passing
passing-from p [] t (k, lt, e) = absurd (omega arith)
passing-from p (v ∷ ss) t m =
    elim (cases_Bool (p v.t.0)) [
      | inl yes_v ↦ elim (Contains-cons_cases v.t (passing p ss) t (rw yes_v at m)) [
        | inl e ↦ ap (λ x. p x.0) (sym e) ∙ yes_v
        | inr l ↦ passing-from p ss t l
      ]
      | inr no_v ↦ passing-from p ss t (rw no_v at m)
    ]

-- whether a task of this number stands in a list
has_number : List TaskId → ℕ → Bool
has_number [] n = false
has_number (t ∷ ts) n = if eqb t.0 n then true else has_number ts n

has_number-has : (ts : List TaskId) (t : TaskId) → Contains ts t → has_number ts t.0 ≡ true
unfolding has_number
has_number-has [] t (k, lt, e) = absurd (omega arith)
has_number-has (u ∷ ts) t m =
    elim (Contains-cons_cases u ts t m) [
      | inl e ↦ let same : eqb u.0 t.0 ≡ true = eq-eqb u.0 t.0 (ap (λ x. x.0) e) in rw same refl
      | inr l ↦ elim (cases_Bool (eqb u.0 t.0)) [ inl yes_u ↦ rw yes_u refl | inr no_u ↦ rw no_u (has_number-has ts t l) ]
    ]

has_number-from : (ts : List TaskId) (n : ℕ) → has_number ts n ≡ true → (t : TaskId) × Contains ts t × (t.0 ≡ n)
unfolding has_number
has_number-from [] n on = absurd cc
has_number-from (u ∷ ts) n on =
    elim (cases_Bool (eqb u.0 n)) [
      | inl yes_u ↦ (u, Contains-head u ts, eqb-true u.0 n yes_u)
      | inr no_u ↦ let (t, m, e) = has_number-from ts n (rw no_u at on) in (t, Contains-tail u ts t m, e)
    ]

member_of : PhaserId → ℕ → Member
member_of p n = record { p = p; n = n }

-- dead by statuses is dead by a set that is a list
pub dead_in_list : (ss : List Status) (t : TaskId) → IsDeadBy ss t.0 → IsDead ss t
unfolding member_of
dead_in_list ss t d =
    let p : ℕ → Bool = d.tasks in (
      passing p ss,
      let (s, i, st, se) = (d.deadlocked.each t.0 d.inside).waits in
          subst (λ x. Contains (passing p ss) x) (same_task s.t t st) (passing-has p ss s i (ap p st ∙ d.inside)),
      λ u m.
          let on : p u.0 ≡ true = passing-from p ss u m in
          let w = d.deadlocked.each u.0 on in
          let (s, i, st, se) = w.waits in
          let (v, j, vt, (k, lt, at)) = w.impedes in
          let q : Impedes v w.event = (k, member_of w.event.p w.phase, lt, at, (refl, w.below)) in
          (s, i, same_task s.t u st, (v, j, passing-has p ss v j (ap p vt ∙ w.inside), subst (λ x. Impedes v x) (sym se) q)),
    )

pub dead_by_list : (ss : List Status) (t : TaskId) → IsDead ss t → IsDeadBy ss t.0
unfolding member_of
dead_by_list ss t (set, here, h) =
    record {
      tasks = has_number set;
      inside = has_number-has set t here;
      deadlocked = record {
        some = (t.0, has_number-has set t here);
        each = λ n on.
            let (u, m, e) = has_number-from set n on in
            let (s, i, st, (v, j, k, p)) = h u m in
            let (q, mem, lt, at, (mp, below)) = p in
            record {
              event = s.event;
              waits = (s, i, ap (λ x. x.0) st ∙ e, refl);
              by = v.t.0;
              inside = has_number-has set v.t k;
              phase = mem.n;
              impedes = (v, j, refl, subst (λ x. Contains v.phases x) (ap (λ x. member_of x mem.n) mp) (q, lt, at));
              below = below;
            };
      };
    }

-- an image of a set: for each member x some y with Q x y, and no other y
pub record Image {X Y : Type 0} (Q : X → Y → Type 0) (xs : List X) : Type 0 where
  pub list : List Y
  pub has : (x : X) → Contains xs x → (y : Y) × Contains list y × Q x y
  pub from : (y : Y) → Contains list y → (x : X) × Contains xs x × Q x y

pub image : {X Y : Type 0} (Q : X → Y → Type 0) (xs : List X) → ((x : X) → Contains xs x → (y : Y) × Q x y) → Image Q xs
image Q [] all = record { list = []; has = λ x (k, lt, e). absurd (omega arith); from = λ y (k, lt, e). absurd (omega arith) }
image {X} {Y} Q (x ∷ xs) all =
    let (y, q) = all x (Contains-head x xs) in
    let rest = image Q xs (λ z m. all z (Contains-tail x xs z m)) in
    record {
      list = y ∷ rest.list;
      has = λ z m. elim (Contains-cons_cases x xs z m) [
        | inl e ↦ subst (λ w. (v : Y) × Contains (y ∷ rest.list) v × Q w v) e (y, Contains-head y rest.list, q)
        | inr l ↦ let (v, i, p) = rest.has z l in (v, Contains-tail y rest.list v i, p)
      ];
      from = λ v m. elim (Contains-cons_cases y rest.list v m) [
        | inl e ↦ subst (λ w. (u : X) × Contains (x ∷ xs) u × Q u w) e (x, Contains-head x xs, q)
        | inr l ↦ let (u, i, p) = rest.from v l in (u, Contains-tail x xs u i, p)
      ];
    }

-- a task has one status
pub one_status : (ss : List Status) → IsInOrder ss → (s u : Status) → Contains ss s → Contains ss u → s.t ≡ u.t → s ≡ u
one_status ss ok s u (j, jl, je) (k, kl, ke) same =
    let a : (get_or ss j s).t.0 ≡ s.t.0 = ap (λ x. x.t.0) je in
    let b : (get_or ss k u).t.0 ≡ u.t.0 = ap (λ x. x.t.0) ke in
    let c : s.t.0 ≡ u.t.0 = ap (λ x. x.0) same in
    elim (cases_order j k) [
      | inl e ↦ sym je ∙ ap (λ i. get_or ss i s) e ∙ get_or_default ss k s u kl ∙ ke
      | inr apart ↦ elim apart [
        | inl l ↦ absurd (omega (arith, ok.tasks j k s u l kl))
        | inr g ↦ absurd (omega (arith, ok.tasks k j u s g jl))
      ]
    ]

pub Contains-map : {X Y : Type 0} (f : X → Y) (xs : List X) (x : X) → Contains xs x → Contains (map f xs) (f x)
Contains-map f xs x (k, lt, e) = (k, rw length-map lt, get_or-map f xs k x (f x) lt ∙ ap f e)

pub Contains-from_map : {X Y : Type 0} (f : X → Y) (xs : List X) (y : Y) → Contains (map f xs) y → (x : X) × Contains xs x × (f x ≡ y)
Contains-from_map f [] y (k, lt, e) = absurd (omega arith)
Contains-from_map f (x ∷ xs) y m =
    elim (Contains-cons_cases (f x) (map f xs) y m) [
      | inl e ↦ (x, Contains-head x xs, e)
      | inr l ↦ let (z, i, e) = Contains-from_map f xs y l in (z, Contains-tail x xs z i, e)
    ]

-- the tasks among resources
tasks_of : List Resource → List TaskId
tasks_of [] = []
tasks_of (task t ∷ rs) = t ∷ tasks_of rs
tasks_of (event e ∷ rs) = tasks_of rs

tasks_of-has : (rs : List Resource) (t : TaskId) → Contains rs (task t) → Contains (tasks_of rs) t
unfolding tasks_of
tasks_of-has [] t (k, lt, e) = absurd (omega arith)
tasks_of-has (task u ∷ rs) t m =
    elim (Contains-cons_cases (task u) rs (task t) m) [
      | inl e ↦ let f : u ≡ t = cc in subst (λ w. Contains (u ∷ tasks_of rs) w) f (Contains-head u (tasks_of rs))
      | inr l ↦ Contains-tail u (tasks_of rs) t (tasks_of-has rs t l)
    ]
tasks_of-has (event f ∷ rs) t m = elim (Contains-cons_cases (event f) rs (task t) m) [ inl e ↦ absurd cc | inr l ↦ tasks_of-has rs t l ]

tasks_of-from : (rs : List Resource) (t : TaskId) → Contains (tasks_of rs) t → Contains rs (task t)
unfolding tasks_of
tasks_of-from [] t (k, lt, e) = absurd (omega arith)
tasks_of-from (task u ∷ rs) t m =
    elim (Contains-cons_cases u (tasks_of rs) t m) [
      | inl e ↦ subst (λ w. Contains (task u ∷ rs) (task w)) e (Contains-head (task u) rs)
      | inr l ↦ Contains-tail (task u) rs (task t) (tasks_of-from rs t l)
    ]
tasks_of-from (event f ∷ rs) t m = Contains-tail (event f) rs (task t) (tasks_of-from rs t m)

module _ (ss : List Status) where
  -- a deadlocked set is a closed set of the wait-for graph
  pub dead_to_waits : (t : TaskId) → IsDead ss t → IsInClosedSet (WaitsFor ss) t
  dead_to_waits t (set, here, h) =
      (set, here, λ a m. let (s, i, e, (u, j, k, p)) = h a m in (u.t, (s, i, e, (u, j, refl, p)), k))

  pub waits_to_dead : (t : TaskId) → IsInClosedSet (WaitsFor ss) t → IsDead ss t
  waits_to_dead t (set, here, h) =
      (set, here, λ a m. let (b, (s, i, e, (u, j, f, p)), k) = h a m in (s, i, e, (u, j, subst (λ x. Contains set x) (sym f) k, p)))

  -- the events of a deadlocked set are a closed set of the state graph
  pub dead_to_state : IsInOrder ss → (s : Status) → Contains ss s → IsDead ss s.t → IsInClosedSet (StateEdge ss) s.event
  dead_to_state ok s in' (set, here, h) =
      let Q : TaskId → Event → Type 0 = λ t e. (v : Status) × Contains ss v × (v.t ≡ t) × (v.event ≡ e) in
      let im : Image Q set = image Q set (λ t m. let (v, i, e, rest) = h t m in (v.event, (v, i, e, refl))) in
      let start : Contains im.list s.event =
      let (e, m, (v, i, vt, ve)) = im.has s.t here in
      subst (λ x. Contains im.list x) (sym ve ∙ ap (λ x. x.event) (one_status ss ok v s i in' vt)) m in (
        im.list,
        start,
        λ a m.
            let (t, tm, (v, i, vt, ve)) = im.from a m in
            let (v', i', vt', (u, j, k, p)) = h t tm in
            let (e2, m2, (w, l, wt, we)) = im.has u.t k in
            let at : v'.event ≡ a = ap (λ x. x.event) (one_status ss ok v' v i' i (vt' ∙ sym vt)) ∙ ve in
            let to : u.event ≡ e2 = ap (λ x. x.event) (one_status ss ok u w j l (sym wt)) ∙ we in
            (e2, ((v, i, ve), (u, j, subst (λ x. Impedes u x) at p, to)), m2),
      )

  -- the tasks that await the events of a closed set of the state graph are a deadlocked set
  pub state_to_dead : (s : Status) → Contains ss s → IsInClosedSet (StateEdge ss) s.event → IsDead ss s.t
  state_to_dead s in' (events, here, h) =
      let Q : Event → TaskId → Type 0 = λ r t. (u : Status) × Contains ss u × (u.t ≡ t) × Impedes u r × Contains events u.event in
      let im : Image Q events =
      image Q events (λ r m. let (r2, (aw, (u, i, p, e)), m2) = h r m in (u.t, (u, i, refl, p, subst (λ x. Contains events x) (sym e) m2))) in
      let next : (v : Status) → Contains events v.event → (u : Status) × Contains ss u × Contains (s.t ∷ im.list) u.t × Impedes u v.event =
      λ v m. let (t, tm, (u, i, ut, p, ue)) = im.has v.event m in
      (u, i, Contains-tail s.t im.list u.t (subst (λ x. Contains im.list x) (sym ut) tm), p) in (
        s.t ∷ im.list,
        Contains-head s.t im.list,
        λ t m. elim (Contains-cons_cases s.t im.list t m) [
          | inl e ↦ (s, in', e, next s here)
          | inr l ↦ let (r, rm, (u, i, ut, p, ue)) = im.from t l in (u, i, ut, next u ue)
        ],
      )

  -- a deadlocked set with its events is a closed set of the general resource graph
  pub dead_to_resource : (t : TaskId) → IsDead ss t → IsInClosedSet (ResourceEdge ss) (task t)
  dead_to_resource t0 (set, here, h) =
      let Q : TaskId → Event → Type 0 =
      λ t e. (v : Status) × Contains ss v × (v.t ≡ t) × (v.event ≡ e) × ((u : Status) × Contains ss u × Contains set u.t × Impedes u e) in
      let im : Image Q set = image Q set (λ t m. let (v, i, e, rest) = h t m in (v.event, (v, i, e, refl, rest))) in
      let all : List Resource = map task set ++ map event im.list in
      let has_task : (t : TaskId) → Contains set t → Contains all (task t) = λ t m. Contains-append_left (map task set) (map event im.list) (task t) (Contains-map task set t m) in
      let has_event : (e : Event) → Contains im.list e →
      Contains all (event e) = λ e m. Contains-append_right (map task set) (map event im.list) (event e) (Contains-map event im.list e m) in (
        all,
        has_task t0 here,
        λ a m. elim (Contains-append_cases (map task set) (map event im.list) a m) [
          | inl l ↦
              let (t, tm, e) = Contains-from_map task set a l in
              let (r, rm, (v, i, vt, ve, rest)) = im.has t tm in
              subst (λ x. (b : Resource) × ResourceEdge ss x b × Contains all b) e (event r, (v, i, vt, ve), has_event r rm)
          | inr l ↦
              let (r, rm, e) = Contains-from_map event im.list a l in
              let (t, tm, (v, i, vt, ve, (u, j, k, p))) = im.from r rm in
              subst (λ x. (b : Resource) × ResourceEdge ss x b × Contains all b) e (task u.t, ((v, i, ve), (u, j, refl, p)), has_task u.t k)
        ],
      )

  -- an event of a closed set of the general resource graph is impeded by a task of it
  impeder_after :
      (all : List Resource) (e : Event) (b : Resource) → ResourceEdge ss (event e) b → Contains all b →
      (u : Status) × Contains ss u × Contains (tasks_of all) u.t × Impedes u e
  impeder_after all e (event f) edge m = absurd edge
  impeder_after all e (task u) (aw, (s, i, st, p)) m = (s, i, subst (λ x. Contains (tasks_of all) x) (sym st) (tasks_of-has all u m), p)

  wait_after :
      (all : List Resource) → KeepsOn (ResourceEdge ss) all → (t : TaskId) (b : Resource) → ResourceEdge ss (task t) b → Contains all b →
      (s : Status) × Contains ss s × (s.t ≡ t) × ((u : Status) × Contains ss u × Contains (tasks_of all) u.t × Impedes u s.event)
  wait_after all h t (task u) edge m = absurd edge
  wait_after all h t (event e) (s, i, st, se) m =
      let (b, edge, k) = h (event e) m in
      (s, i, st, subst (λ x. (u : Status) × Contains ss u × Contains (tasks_of all) u.t × Impedes u x) (sym se) (impeder_after all e b edge k))

  -- the tasks of a closed set of the general resource graph are a deadlocked set
  pub resource_to_dead : (t : TaskId) → IsInClosedSet (ResourceEdge ss) (task t) → IsDead ss t
  resource_to_dead t0 (all, here, h) = (
    tasks_of all,
    tasks_of-has all t0 here,
    λ t m. let (b, edge, k) = h (task t) (tasks_of-from all t m) in wait_after all h t b edge k,
  )
