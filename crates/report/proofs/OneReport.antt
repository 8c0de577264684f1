-- A final state has one report only.
use Rattle.std.proofs.Common.{◌≡◌, ℕ, ◌≤◌, ◌<◌, List, ◌++◌, length, refl, sym, ap, ◌∙◌, subst, inl, inr, arith, get_or}
use Rattle.std.proofs.lemmas.List.{same_lists}
use Rattle.armus_base.specs.declared.ending.TaskEnd.{TaskEnd}
use Rattle.armus_base.specs.declared.ending.TaskEnd.TheVariants.{Blocked, Done as HasEnded, Refused as WasRefused, Unforked as WasNotForked}
use Rattle.armus_base.specs.declared.ids.TaskId.{TaskId}
use Rattle.armus_base.specs.declared.status.Status.{Status}
use Rattle.armus_base.specs.Relations.{IsWalkCycle}
use Rattle.armus_base.proofs.Counts.{count_unique}
use Rattle.report.specs.Counts.{counts_of}
use Rattle.adaptive.specs.Choice.{IsUsed, IsEdgeCount}
use Rattle.verdict.specs.Cycles.{IsDeadStep}
use Rattle.report.specs.Lines.{counts_line, task_lines, cycle_line, graph_line}
use Rattle.report.specs.Reports.{IsReportedCycle, IsCycleText, IsGraphText}
use Rattle.report.specs.calls.Reports.{OneReport}
use Rattle.report.specs.Standings.{Stands, AreStandings}
use Rattle.adaptive.specs.declared.analysis.Used.{Used}
use Rattle.adaptive.specs.declared.analysis.Used.TheVariants.{Wfg, Sg, Grg}
use Rattle.adaptive.specs.declared.analysis.Wanted.{Wanted}
use Rattle.adaptive.specs.declared.analysis.Wanted.TheVariants.{Auto, Wfg as WantWfg, Sg as WantSg, Grg as WantGrg}
use Rattle.report.specs.declared.standing.Standing.{Standing}
use Rattle.verdict.proofs.OneCycle.{one_cycle}

-- a task stands in one way
one_standing : (P : Type 0) (e : TaskEnd) (s u : Standing) → Stands P e s → Stands P e u → s ≡ u
one_standing P HasEnded s u h k = h ∙ sym k
one_standing P (Blocked e) s u (inl (p, q)) (inl (p', q')) = q ∙ sym q'
one_standing P (Blocked e) s u (inl (p, q)) (inr (f, q')) = absurd (f p)
one_standing P (Blocked e) s u (inr (f, q)) (inl (p, q')) = absurd (f p)
one_standing P (Blocked e) s u (inr (f, q)) (inr (f', q')) = q ∙ sym q'
one_standing P (WasRefused e) s u h k = h ∙ sym k
one_standing P WasNotForked s u h k = h ∙ sym k

-- all tasks stand in one way
pub one_standings : (P : ℕ → Type 0) (ends : List TaskEnd) (a b : List Standing) → AreStandings P ends a → AreStandings P ends b → a ≡ b
one_standings P ends a b h k =
    same_lists a b (h.sized ∙ sym k.sized)
    (λ t d lt.
    let in' : t < length ends = omega (arith, h.sized) in
    one_standing (P t) (get_or ends t HasEnded) (get_or a t d) (get_or b t d) (h.each t HasEnded d in') (k.each t HasEnded d in'))

-- equal numbers are one task
same_task : (t u : TaskId) → t.0 ≤ u.0 → u.0 ≤ t.0 → t ≡ u
same_task t u a b = let e : t.0 ≡ u.0 = omega arith in let task : ℕ → TaskId = λ n. record { 0 = n } in ap task e

-- the walk goes on in one way
one_step : (blocked : List Status) (a b c : TaskId) → IsDeadStep blocked a b → IsDeadStep blocked a c → b ≡ c
one_step blocked a b c h k = same_task b c (h.least c k.waits k.dead) (k.least b h.waits h.dead)

-- there is one cycle
pub one_reported_cycle : (blocked : List Status) (a b : List TaskId) → IsReportedCycle blocked a → IsReportedCycle blocked b → a ≡ b
one_reported_cycle blocked a b (t, h, w) (u, k, v) =
    let e : t ≡ u = same_task t u (h.least u.0 k.dead) (k.least t.0 h.dead) in
    one_cycle (IsDeadStep blocked) (one_step blocked) u a b (subst (λ s. IsWalkCycle (IsDeadStep blocked) s a) e w) v

pub one_cycle_text : (blocked : List Status) (a b : List ℕ) → IsCycleText blocked a → IsCycleText blocked b → a ≡ b
one_cycle_text blocked a b (inl (none, q)) (inl (none', q')) = q ∙ sym q'
one_cycle_text blocked a b (inl (none, q)) (inr (c, (t, h, w), q')) = absurd (none (t.0, h.dead))
one_cycle_text blocked a b (inr (c, (t, h, w), q)) (inl (none, q')) = absurd (none (t.0, h.dead))
one_cycle_text blocked a b (inr (c, h, q)) (inr (d, k, q')) = q ∙ ap cycle_line (one_reported_cycle blocked c d h k) ∙ sym q'

-- one graph is used
one_used : (blocked : List Status) (wanted : Wanted) (a b : Used) → IsUsed blocked wanted a → IsUsed blocked wanted b → a ≡ b
one_used blocked Auto Wfg Wfg h k = refl
one_used blocked Auto Wfg Sg h k = absurd (h k)
one_used blocked Auto Sg Wfg h k = absurd (k h)
one_used blocked Auto Sg Sg h k = refl
one_used blocked Auto Wfg Grg h k = absurd k
one_used blocked Auto Sg Grg h k = absurd k
one_used blocked Auto Grg b h k = absurd h
one_used blocked WantWfg a b h k = h ∙ sym k
one_used blocked WantSg a b h k = h ∙ sym k
one_used blocked WantGrg a b h k = h ∙ sym k

-- and has one number of edges
one_count : (blocked : List Status) (used : Used) (m n : ℕ) → IsEdgeCount blocked used m → IsEdgeCount blocked used n → m ≡ n
one_count blocked Wfg m n h k = count_unique _ m n h k
one_count blocked Sg m n h k = count_unique _ m n h k
one_count blocked Grg m n h k = count_unique _ m n h k

one_graph_text : (blocked : List Status) (wanted : Wanted) (a b : List ℕ) → IsGraphText blocked wanted a → IsGraphText blocked wanted b → a ≡ b
one_graph_text blocked wanted a b (u, m, i, c, q) (v, n, j, d, q') =
    let e : u ≡ v = one_used blocked wanted u v i j in
    let f : m ≡ n = one_count blocked v m n (subst (λ w. IsEdgeCount blocked w m) e c) d in
    q ∙ ap (λ w. graph_line w m) e ∙ ap (λ k. graph_line v k) f ∙ sym q'

pub one_report : OneReport
one_report end wanted a b h k =
    let s = one_standings _ end.ends h.standings k.standings h.stand k.stand in
    let c = one_cycle_text end.blocked h.cycle_text k.cycle_text h.cycle k.cycle in
    let g = one_graph_text end.blocked wanted h.graph_text k.graph_text h.graph k.graph in
    h.lines
    ∙ ap (λ all. counts_line (counts_of all) ++ task_lines all ++ h.cycle_text ++ h.graph_text) s
    ∙ ap (λ t. counts_line (counts_of k.standings) ++ task_lines k.standings ++ t ++ h.graph_text) c
    ∙ ap (λ t. counts_line (counts_of k.standings) ++ task_lines k.standings ++ k.cycle_text ++ t) g
    ∙ sym k.lines
