use Rattle.std.proofs.Common.{◌≡◌, ◌<◌, ◌∙◌, ap, arith, length, refl, sym, subst, vec_len, None, inl, inr}
use Rattle.std.specs.Prelude.{IfSome, unwrap_or}
use Rattle.std.proofs.lemmas.Bool.{cases_eq, false≢true}
use Rattle.std.proofs.lemmas.Option.{slice_get_read}
use Rattle.board.specs.calls.Seats.{Known}
use Rattle.board.specs.calls.Steps.{own_phase}
use Rattle.phase_scan.specs.calls.Tables.{event_for}
use Rattle.phase_scan.specs.inside.Behind.{IsBehindGiven}
use Rattle.phase_scan.proofs.Excluding.{phaser_within}
use Rattle.phase_scan.proofs.findings.Findings.own_is_behind.Goals as goal
use Rattle.phase_scan.proofs.findings.Findings.own_is_behind.Goals.{After-index}

-- what is looked at is the event of the task whose turn it is
event : (c : After-index) → event_for c.args.self.now.events.items c.loop-number.number ≡ c.index.result.now
event c =
    let self = c.args.self.now in
    let t = c.loop-number.number in
    let within : t < length self.events.items = (let many : vec_len self.events ≡ length self.events.items = self.events.ok.0 in
    let count = self.task_count in let l = c.loop-number-test.true in omega arith) in
    ap (λ o. unwrap_or o None) (slice_get_read self.events.items (length self.events.items) t c.index.result.now refl within c.index.ensures)

pub is_behind_given-requires-clause-phaser : goal.is_behind_given-requires-clause-phaser
is_behind_given-requires-clause-phaser c =
    let self = c.args.self.now in
    let counted : vec_len self.awaited ≡ length self.awaited.items = self.awaited.ok.0 in
    let room : length self.awaited.items ≡ length c.args.board.now.plan.makers = (let count = self.phaser_count in let same = c.requires.phasers in omega arith) in
    subst (λ n. IfSome c.index.result.now (λ e. e.p.0 < n)) room
    (phaser_within (event_for self.events.items) self.awaited.items self.tasks c.loop-number.number c.index.result.now c.requires.marked c.loop-number-test.true
    (event (goal.at.is_behind_given-requires-clause-phaser c).After-index))

pub loop-number-preserved : goal.loop-number-preserved
loop-number-preserved c =
    let i = c.loop-number.invariant in
    let self = c.args.self.now in
    record {
      seat = c.is_behind_given.ensures.seat ∙ i.seat;
      none = λ u l behind. elim (cases_eq u c.loop-number.number) [
        | inl same ↦
            let here : IsBehindGiven (own_phase c.args.seat.now.view) c.index.result.now =
            subst (IsBehindGiven (own_phase c.args.seat.now.view)) (ap (event_for self.events.items) same ∙ event (goal.at.loop-number-preserved c).After-index)
            behind in
            let then : IsBehindGiven (own_phase c.loop-number.seat.view) c.index.result.now =
            subst (λ (k : Known). IsBehindGiven (own_phase k.view) c.index.result.now) (sym i.seat) here in
            false≢true (sym c.if-is_behind_given.false ∙ c.is_behind_given.ensures.behind.1 then)
        | inr other ↦ i.none u (omega arith) behind
      ];
    }
