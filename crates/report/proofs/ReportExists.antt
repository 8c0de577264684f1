-- A final state has a report.
use Rattle.std.proofs.Common.{◌≡◌, ℕ, zero, suc, ◌*◌, ◌<◌, ◌≤◌, List, [], ◌∷◌, ◌++◌, length, take, refl, ap, ◌∙◌, subst, ◌⊎◌, inl, inr, arith, get_or}
use Rattle.std.specs.Prelude.{Contains, map}
use Rattle.std.proofs.lemmas.Bool.{cases_lt}
use Rattle.std.proofs.lemmas.List.Elements.{Contains-append_left, Contains-append_right}
use Rattle.armus_base.specs.declared.ending.TaskEnd.{TaskEnd}
use Rattle.armus_base.specs.declared.ending.TaskEnd.TheVariants.{Blocked, Done as HasEnded, Refused as WasRefused, Unforked as WasNotForked}
use Rattle.armus_base.specs.declared.event.Event.{Event}
use Rattle.armus_base.specs.declared.ids.TaskId.{TaskId}
use Rattle.armus_base.specs.declared.status.Status.{Status}
use Rattle.armus_base.specs.Counts.{IsCount}
use Rattle.armus_base.specs.Deadlocks.{IsDeadBy}
use Rattle.armus_base.specs.Graphs.{WaitsFor, StateEdge, StateCount, Resource, task, event, ResourceEdge, StaysSmall}
use Rattle.armus_base.specs.Statuses.{Impedes, IsAwaited}
use Rattle.armus_base.proofs.Counts.{count_unique}
use Rattle.armus_base.proofs.Tasks.{all_or_one}
use Rattle.dep_state.proofs.DeadSets.{Contains-map}
use Rattle.adaptive.specs.Choice.{IsUsed, IsEdgeCount}
use Rattle.adaptive.specs.declared.analysis.Used.{Used}
use Rattle.adaptive.specs.declared.analysis.Used.TheVariants.{Wfg, Sg, Grg}
use Rattle.adaptive.specs.declared.analysis.Wanted.{Wanted}
use Rattle.adaptive.specs.declared.analysis.Wanted.TheVariants.{Auto, Wfg as WantWfg, Sg as WantSg, Grg as WantGrg}
use Rattle.report.specs.Counts.{counts_of}
use Rattle.report.specs.Lines.{counts_line, task_lines, graph_line}
use Rattle.report.specs.Reports.{IsGraphText}
use Rattle.report.specs.calls.Reports.{ReportExists}
use Rattle.report.specs.Standings.{Stands, AreStandings}
use Rattle.report.specs.declared.standing.Standing.{Standing}
use Rattle.report.specs.declared.standing.Standing.TheVariants.{Done, Dead, Held, Refused, Unforked}
use Rattle.adaptive.proofs.Deciding.{Told, told_both, told_number, told_pair, told_same, told_some, told_some_both, counted, pairs, pairs-has}
use Rattle.adaptive.proofs.DeadOrNot.{dead_or_not}
use Rattle.report.proofs.CycleExists.{told_impedes, told_phaser, told_task, told_waits, tasks, in_tasks, cycle_exists}

-- how a task stands
stand : (P : Type 0) → Told P → (e : TaskEnd) → (s : Standing) × Stands P e s
stand P told HasEnded = (Done, refl)
stand P (inl p) (Blocked e) = (Dead e, inl (p, refl))
stand P (inr n) (Blocked e) = (Held e, inr (n, refl))
stand P told (WasRefused e) = (Refused e, refl)
stand P told WasNotForked = (Unforked, refl)

-- one task ahead of the others
ahead :
    (P : ℕ → Type 0) (e : TaskEnd) (ends : List TaskEnd) (s : Standing) (all : List Standing) → Stands (P 0) e s → AreStandings (λ t. P (suc t)) ends all →
    (t : ℕ) (d : TaskEnd) (x : Standing) → t < length (e ∷ ends) → Stands (P t) (get_or (e ∷ ends) t d) (get_or (s ∷ all) t x)
ahead P e ends s all h rest zero d x lt = h
ahead P e ends s all h rest (suc t) d x lt = rest.each t d x (omega arith)

-- how all tasks stand
standings_exist : (P : ℕ → Type 0) → ((t : ℕ) → Told (P t)) → (ends : List TaskEnd) → (all : List Standing) × AreStandings P ends all
standings_exist P tell [] = ([], record { sized = refl; each = λ t e s lt. absurd (omega arith) })
standings_exist P tell (e ∷ ends) =
    let (s, h) = stand (P 0) (tell 0) e in
    let (all, rest) = standings_exist (λ t. P (suc t)) (λ t. tell (suc t)) ends in
    (s ∷ all, record { sized = ap suc rest.sized; each = ahead P e ends s all h rest })

-- an event is another, or it is not
told_event : (a b : Event) → Told (a ≡ b)
told_event a b =
    let join : (a.p ≡ b.p) × (a.n ≡ b.n) → a ≡ b =
    λ h. let left : (a.p ≡ b.p) → a ≡ record { p = b.p; n = a.n } = λ e. ap (λ x. record { p = x; n = a.n }) e in
    let right : (a.n ≡ b.n) → record { p = b.p; n = a.n } ≡ b = λ e. ap (λ x. record { p = b.p; n = x }) e in
    left h.0 ∙ right h.1 in
    told_same join (λ e. (ap (λ x. x.p) e, ap (λ x. x.n) e)) (told_both (told_phaser a.p b.p) (told_number a.n b.n))

tasks_same : (t u : TaskId) → task t ≡ task u → t ≡ u
tasks_same t u e = cc

events_same : (e f : Event) → event e ≡ event f → e ≡ f
events_same e f same = cc

told_resource : (a b : Resource) → Told (a ≡ b)
told_resource (task t) (task u) = told_same (λ e. ap task e) (tasks_same t u) (told_task t u)
told_resource (task t) (event e) = inr (λ same. absurd cc)
told_resource (event e) (task t) = inr (λ same. absurd cc)
told_resource (event e) (event f) = told_same (λ s. ap event s) (events_same e f) (told_event e f)

module _ (ss : List Status) where
  events : List Event
  events = map (λ s. s.event) ss

  in_events : (s : Status) (e : Event) → Contains ss s → s.event ≡ e → Contains events e
  unfolding events
  in_events s e i same = subst (λ x. Contains (map (λ v. v.event) ss) x) same (Contains-map (λ v. v.event) ss s i)

  told_awaited : (e : Event) → Told (IsAwaited ss e)
  told_awaited e = told_some (λ s. s.event ≡ e) (λ s. told_event s.event e) ss

  told_state_edge : (r1 r2 : Event) → Told (StateEdge ss r1 r2)
  told_state_edge r1 r2 =
      told_both (told_awaited r1)
      (told_some_both (λ u. Impedes u r1) (λ u. u.event ≡ r2) (λ u. told_impedes u r1) (λ u. told_event u.event r2) ss)

  told_resource_edge : (a b : Resource) → Told (ResourceEdge ss a b)
  told_resource_edge (task t) (task u) = inr (λ h. h)
  told_resource_edge (task t) (event e) =
      told_some_both (λ s. s.t ≡ t) (λ s. s.event ≡ e) (λ s. told_task s.t t) (λ s. told_event s.event e) ss
  told_resource_edge (event e) (task u) =
      told_both (told_awaited e) (told_some_both (λ s. s.t ≡ u) (λ s. Impedes s e) (λ s. told_task s.t u) (λ s. told_impedes s e) ss)
  told_resource_edge (event e) (event f) = inr (λ h. h)

  waits_count : (n : ℕ) × IsCount (λ (p : TaskId × TaskId). WaitsFor ss p.0 p.1) n
  waits_count =
      counted (λ (p : TaskId × TaskId). WaitsFor ss p.0 p.1) (told_pair told_task told_task) (λ p. told_waits ss p.0 p.1) (pairs (tasks ss) (tasks ss))
      (λ p (s, i, st, (u, j, ut, q)). pairs-has (tasks ss) (tasks ss) p.0 p.1 (in_tasks ss s p.0 i st) (in_tasks ss u p.1 j ut))

  state_count : (n : ℕ) × IsCount (λ (p : Event × Event). StateEdge ss p.0 p.1) n
  state_count =
      counted (λ (p : Event × Event). StateEdge ss p.0 p.1) (told_pair told_event told_event) (λ p. told_state_edge p.0 p.1) (pairs events events)
      (λ p ((s, i, se), (u, j, q, ue)). pairs-has events events p.0 p.1 (in_events s p.0 i se) (in_events u p.1 j ue))

  resources : List Resource
  resources = map task (tasks ss) ++ map event events

  has_task : (t : TaskId) → Contains (tasks ss) t → Contains resources (task t)
  unfolding resources
  has_task t m = Contains-append_left (map task (tasks ss)) (map event events) (task t) (Contains-map task (tasks ss) t m)

  has_event : (e : Event) → Contains events e → Contains resources (event e)
  unfolding resources
  has_event e m = Contains-append_right (map task (tasks ss)) (map event events) (event e) (Contains-map event events e m)

  ends_inside : (a b : Resource) → ResourceEdge ss a b → Contains resources a × Contains resources b
  ends_inside (task t) (task u) h = absurd h
  ends_inside (task t) (event e) (s, i, st, se) = (has_task t (in_tasks ss s t i st), has_event e (in_events s e i se))
  ends_inside (event e) (task u) ((s, i, se), (v, j, vt, p)) = (has_event e (in_events s e i se), has_task u (in_tasks ss v u j vt))
  ends_inside (event e) (event f) h = absurd h

  resource_count : (n : ℕ) × IsCount (λ (p : Resource × Resource). ResourceEdge ss p.0 p.1) n
  resource_count =
      counted (λ (p : Resource × Resource). ResourceEdge ss p.0 p.1) (told_pair told_resource told_resource) (λ p. told_resource_edge p.0 p.1)
      (pairs resources resources) (λ p h. let (a, b) = ends_inside p.0 p.1 h in pairs-has resources resources p.0 p.1 a b)

  edge_count : (used : Used) → (n : ℕ) × IsEdgeCount ss used n
  edge_count Wfg = waits_count
  edge_count Sg = state_count
  edge_count Grg = resource_count

-- over the first k statuses the state graph is small
abbrev IsSmall : List Status → ℕ → Type 0
IsSmall ss k = (n : ℕ) → StateCount ss k n → n ≤ 2 * k

-- or it is not
abbrev IsLarge : List Status → ℕ → Type 0
IsLarge ss k = (n : ℕ) × StateCount ss k n × (2 * k < n)

small_or_large : (ss : List Status) (k : ℕ) → IsSmall ss k ⊎ IsLarge ss k
small_or_large ss k =
    let (n, count) = state_count (take k ss) in
    elim (cases_lt (2 * k) n) [
      | inl more ↦ inr (n, count, more)
      | inr le ↦ inl (λ m other. let e = count_unique (λ (r : Event × Event). StateEdge (take k ss) r.0 r.1) m n other count in omega arith)
    ]

-- the state graph stays small, or it does not
told_small : (ss : List Status) → Told (StaysSmall ss)
told_small ss =
    elim (all_or_one (IsSmall ss) (IsLarge ss) (small_or_large ss) (suc (length ss))) [
      | inl all ↦ inl (λ k n le count. all k (omega arith) n count)
      | inr one ↦ inr (λ stays. let (k, lt, (n, count, more)) = one in let le = stays k n (omega arith) count in omega arith)
    ]

-- which graph is used
used_exists : (ss : List Status) (wanted : Wanted) → (used : Used) × IsUsed ss wanted used
used_exists ss Auto = elim (told_small ss) [ inl small ↦ (Sg, small) | inr large ↦ (Wfg, large) ]
used_exists ss WantWfg = (Wfg, refl)
used_exists ss WantSg = (Sg, refl)
used_exists ss WantGrg = (Grg, refl)

graph_exists : (ss : List Status) (wanted : Wanted) → (text : List ℕ) × IsGraphText ss wanted text
graph_exists ss wanted =
    let (used, is) = used_exists ss wanted in
    let (n, count) = edge_count ss used in
    (graph_line used n, (used, n, is, count, refl))

pub report_exists : ReportExists
report_exists end wanted =
    let (all, stand) = standings_exist (IsDeadBy end.blocked) (dead_or_not end.blocked) end.ends in
    let (cycle, cycle_is) = cycle_exists end.blocked in
    let (graph, graph_is) = graph_exists end.blocked wanted in (
      counts_line (counts_of all) ++ task_lines all ++ cycle ++ graph,
      record { standings = all; cycle_text = cycle; graph_text = graph; stand = stand; cycle = cycle_is; graph = graph_is; lines = refl },
    )
