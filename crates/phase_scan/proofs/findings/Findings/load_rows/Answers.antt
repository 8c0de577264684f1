use Rattle.std.proofs.Common.{◌≡◌, ◌<◌, ◌+◌, ◌∙◌, ap, arith, length, refl, sym, subst, vec_len, false, true, List, Bool, ℕ, None}
use Rattle.armus_base.specs.calls.StatusLists.{AreNexts, is_marked}
use Rattle.std.specs.Prelude.{unwrap_or, is_some}
use Rattle.std.proofs.lemmas.Option.{slice_get_read}
use Rattle.board.specs.calls.Seats.{IsOf}
use Rattle.phase_scan.specs.declared.findings.Findings.{Findings}
use Rattle.phase_scan.specs.calls.Collects.{LoadsRow, LoadsRows}
use Rattle.phase_scan.specs.calls.Tables.{awaited_in_findings, event_for, phases_in_found, state_of_findings}
use Rattle.phase_scan.specs.inside.Filling.{HasSameEvents}
use Rattle.phase_scan.proofs.Keeping.{rows_more, rows_skip}
use Rattle.phase_scan.proofs.findings.Findings.load_rows.Goals.{then-is_some, else-is_some}
use Rattle.phase_scan.proofs.findings.Findings.load_rows.Goals as goal

same_on : (a b c : Findings) → HasSameEvents a b → HasSameEvents b c → HasSameEvents a c
same_on a b c first more =
    record {
      tasks = more.tasks ∙ first.tasks;
      phasers = more.phasers ∙ first.phasers;
      events = more.events ∙ first.events;
      awaited = more.awaited ∙ first.awaited;
      nexts = more.nexts ∙ first.nexts;
    }

pub loop-number-preserved : goal.loop-number-preserved
loop-number-preserved g c =
    let i = c.loop-number.invariant in
    let self = c.loop-number.self in
    let first = c.args.self.now in
    let t = c.loop-number.number in
    let within : t < length self.events.items = (let count = self.task_count in let same = i.same.tasks in
    let counted : vec_len self.events ≡ length self.events.items = self.events.ok.0 in let l = c.loop-number-test.true in omega arith) in
    let event : event_for self.events.items t ≡ c.index.result.now =
    ap (λ o. unwrap_or o None) (slice_get_read self.events.items (length self.events.items) t c.index.result.now refl within c.index.ensures) in
    let before = g.L.Loads.known c.args.by.now in
    let between = g.L.Loads.known c.loop-number.by in
    elim c.if-is_some.branch [
      | then-is_some w ↦
          let row = w.load_row.ensures in
          let last = w.load_row.new.self in
          let j = g.L.Loads.known w.load_row.new.by in
          let told = ap g.L.Loads.known (sym w.by-is) in
          let waits : is_some (event_for self.events.items t) ≡ true = ap is_some event ∙ sym c.is_some.ensures ∙ w.if-is_some.true in
          let made : LoadsRow (awaited_in_findings first) t (phases_in_found last.phases t) first.phasers between j =
          subst (λ n. LoadsRow (awaited_in_findings first) t (phases_in_found last.phases t) n between j) i.same.phasers
          (subst (λ (xs : List Bool). LoadsRow (is_marked xs) t (phases_in_found last.phases t) self.phasers between j) i.same.awaited row.row.loads) in
          let more = rows_more first.phasers (awaited_in_findings first) (state_of_findings self) (state_of_findings last) t before between j i.loads waits made
          (ap event_for row.same.events) row.row.others in
          record {
            made = subst (λ k. IsOf k c.args.board.now) told row.made;
            same = subst (HasSameEvents first) (sym w.self-is) (same_on first self last i.same row.same);
            loads =
                subst (λ (f : Findings). LoadsRows first.phasers (awaited_in_findings first) (state_of_findings f) (t + 1) before (g.L.Loads.known c.if-is_some.by)) (sym w.self-is)
                (subst (λ k. LoadsRows first.phasers (awaited_in_findings first) (state_of_findings last) (t + 1) before k) told more);
          }
      | else-is_some w ↦
          let told = ap g.L.Loads.known (sym w.by-is) in
          let idle : is_some (event_for self.events.items t) ≡ false = ap is_some event ∙ sym c.is_some.ensures ∙ w.if-is_some.false in
          let skip = rows_skip first.phasers (awaited_in_findings first) (state_of_findings self) t before between i.loads idle in
          record {
            made = subst (λ k. IsOf k c.args.board.now) told i.made;
            same = subst (HasSameEvents first) (sym w.self-is) i.same;
            loads =
                subst (λ (f : Findings). LoadsRows first.phasers (awaited_in_findings first) (state_of_findings f) (t + 1) before (g.L.Loads.known c.if-is_some.by)) (sym w.self-is)
                (subst (λ k. LoadsRows first.phasers (awaited_in_findings first) (state_of_findings self) (t + 1) before k) told skip);
          }
    ]

pub load_row-requires-clause-nexts : goal.load_row-requires-clause-nexts
load_row-requires-clause-nexts g c =
    let i = c.loop-number.invariant in
    let first = c.args.self.now in
    let self = c.loop-number.self in
    subst (λ (xs : List ℕ). AreNexts (awaited_in_findings self) self.phasers xs) (sym i.same.nexts)
    (subst (λ n. AreNexts (awaited_in_findings self) n first.nexts.items) (sym i.same.phasers)
    (subst (λ (xs : List Bool). AreNexts (is_marked xs) first.phasers first.nexts.items) (sym i.same.awaited) c.requires.nexts))

pub returns-clause-same : goal.returns-clause-same
returns-clause-same g c = c.loop-number.invariant.same
