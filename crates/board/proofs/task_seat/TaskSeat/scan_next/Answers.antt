use Rattle.std.proofs.Common.{◌≡◌, ℕ, suc, Bool, true, false, Option, Some, None, refl, eq-eqb, add-one, ◌<◌, length, sym, ap, ◌∙◌, subst}
use Rattle.std.specs.Prelude.{if◌then◌else◌, ◌==◌, ◌&&◌}
use Rattle.armus_base.specs.calls.Seats.{is_not_behind, scanned_after}
use Rattle.armus_base.specs.declared.event.Event.{Event}
use Rattle.board.specs.calls.Views.{seen}
use Rattle.board.specs.calls.Seats.{AnswersPhase, Frame, IsOf, Known, event_of}
use Rattle.board.specs.inside.Sitting.{IsSitting}
use Rattle.board.proofs.Loading.{looks}
use Rattle.board.proofs.Loaded.{looked_answers, looked_told, phase_sitting}
use Rattle.board.proofs.Called.{of_board, phase_word, task_small}
use Rattle.board.proofs.task_seat.TaskSeat.scan_next.Goals as goal
use Rattle.board.proofs.task_seat.TaskSeat.scan_next.Goals.{After-phase_of-answer}

some_is_none : (e : Event) → Some e ≡ None → ⊥
some_is_none e is = absurd (cc)

-- nothing more is scanned where the next task is behind, and one task more where it is not
stays : (e : Event) (k : ℕ) (answer : Option ℕ) → is_not_behind answer e ≡ false → scanned_after (Some e) k k e.p.0 answer ≡ k
stays e k answer behind = ap (λ z. if (e.p.0 == e.p.0) && (k == k) && z then suc k else k) behind ∙ neither (e.p.0 == e.p.0) (k == k)
  where
    neither : (x y : Bool) → (if x && y && false then suc k else k) ≡ k
    neither false y = refl
    neither true false = refl
    neither true true = refl

rises : (e : Event) (k : ℕ) (answer : Option ℕ) → is_not_behind answer e ≡ true → scanned_after (Some e) k k e.p.0 answer ≡ suc k
rises e k answer ahead =
    ap (λ z. if (e.p.0 == e.p.0) && (k == k) && z then suc k else k) ahead
    ∙ ap (λ x. if x && (k == k) && true then suc k else k) (eq-eqb e.p.0 e.p.0 refl)
    ∙ ap (λ y. if true && y && true then suc k else k) (eq-eqb k k refl)

pub load-word-requires : goal.load-word-requires
load-word-requires c =
    let b = c.board.view_is in
    let o = of_board c.self.view_is b c.requires.made in
    let e = c.phase_index-index.ensures in
    let w = phase_word c.args.t.0 c.args.event.p.0 b c.requires.phaser e.inside e.index in (
      o.table,
      w.inside,
      looks _ _ _ _ _ _ _ _ c.self.invariant.sitting.seat.live o.plan (subst (λ (f : Frame). c.args.t.0 < length f.plan.parents) (sym b) c.requires.task)
          w.few w.is,
    )

pub phase_of-answer-requires : goal.phase_of-answer-requires
phase_of-answer-requires c = (looked_told 0 _ _ _ _ c.args.t.0 c.args.event.p.0 c.args.board.now c.self.inside.place.table_id c.load-word.ensures.2
    (subst (λ k. IsOf k c.args.board.now) (sym c.self.view_is) c.requires.made) c.requires.task c.requires.phaser c.phase_index-index.ensures.index).2

-- what the load answers
answers : (c : After-phase_of-answer) → AnswersPhase c.args.t.0 c.args.event.p.0 c.phase_of-answer.result
    (record { table = c.self.inside.place.table_id; view = c.self.inside.place.me.0 })
    (record { table = c.load-word.new.seat.table_id; view = c.load-word.new.seat.me.0 })
answers c =
    looked_answers _ _ 0 _ _ _ _ _ _ _ _ c.load-word.ensures.2 (subst (λ k. IsOf k c.args.board.now) (sym c.self.view_is) c.requires.made)
    c.self.invariant.sitting.seat
    c.requires.task c.requires.phaser c.phase_index-index.ensures.index c.load-word.ensures.0 c.phase_of-answer.ensures

answers_now : (c : After-phase_of-answer) → AnswersPhase c.args.t.0 c.args.event.p.0 c.phase_of-answer.result c.args.self.now
    (record { table = c.load-word.new.seat.table_id; view = c.load-word.new.seat.me.0 })
answers_now c =
    subst (λ (k : Known). AnswersPhase c.args.t.0 c.args.event.p.0 c.phase_of-answer.result k
    (record { table = c.load-word.new.seat.table_id; view = c.load-word.new.seat.me.0 })) c.self.view_is (answers c)

pub returns : goal.returns
returns c = record { answer = answers_now (goal.at.returns c).After-phase_of-answer }

pub returns-then-is_behind : goal.returns-then-is_behind
returns-then-is_behind c = record { answer = answers_now (goal.at.returns-then-is_behind c).After-phase_of-answer }

-- what the seat keeps, with the tasks that are scanned then
sits : (c : After-phase_of-answer) (m : ℕ) → m ≡ scanned_after (Some c.args.event) c.args.t.0 c.args.t.0 c.args.event.p.0 c.phase_of-answer.result →
    IsSitting c.self.inside.task.0 m c.self.inside.awaited (record { table = c.load-word.new.seat.table_id; view = c.load-word.new.seat.me.0 })
sits c m is =
    let i = c.self.invariant.sitting in
    let load = (answers c).load in
    let event = subst (λ (k : Known). Some c.args.event ≡ event_of k) (sym c.self.view_is) (sym c.requires.event) in
    let next = subst (λ (k : Known). c.args.t.0 ≡ (seen k.view).scanned) (sym c.self.view_is) (sym c.requires.next) in
    phase_sitting i (task_small c.self.view_is c.requires.made c.requires.task) load
    (is ∙ (λ j. scanned_after (event j) (next j) c.args.t.0 c.args.event.p.0 c.phase_of-answer.result) ∙ sym load.seen_now.scanned)
    (λ idle. absurd (some_is_none c.args.event (event ∙ idle)))

pub invariant_of-self : goal.invariant_of-self
invariant_of-self c = record {
  no_slot = c.load-word.ensures.2.0 ∙ c.self.invariant.no_slot;
  sitting = sits (goal.at.invariant_of-self c).After-phase_of-answer _ (c.self.invariant.sitting.scanned_is ∙ subst
      (λ (k : Known). (seen k.view).scanned ≡ c.args.t.0) (sym c.self.view_is) c.requires.next
      ∙ sym (stays c.args.event c.args.t.0 c.phase_of-answer.result (rw c.if-is_behind.true at c.is_behind.ensures)));
}

pub invariant_of-self-2 : goal.invariant_of-self-2
invariant_of-self-2 c = record {
  no_slot = c.load-word.ensures.2.0 ∙ c.self.invariant.no_slot;
  sitting = sits (goal.at.invariant_of-self-2 c).After-phase_of-answer _
      (add-one c.args.t.0 ∙ sym (rises c.args.event c.args.t.0 c.phase_of-answer.result (rw c.if-is_behind.false at c.is_behind.ensures)));
}
