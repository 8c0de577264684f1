use Rattle.std.proofs.Common.{◌≡◌, ◌<◌, ◌∙◌, ap, inl, inr, length, subst, sym}
use Rattle.std.proofs.lemmas.Bool.{cases_eq}
use Rattle.run_queue.specs.declared.ready.ReadyTasks.{ReadyTasks}
use Rattle.run_queue.specs.inside.ReadyTasks.{IsSet}
use Rattle.run_queue.specs.calls.RunQueues.{waiters_at}
use Rattle.run_queue.proofs.Waking.{wakes_on, wakes_one, wakes_same}
use Rattle.run_queue.proofs.run_queue.RunQueue.wake.Goals as goal

pub waiting-preserved : goal.waiting-preserved
waiting-preserved c =
    let taken = c.in-Some.ensures in
    let same = taken.ready in
    wakes_on c.args.self.now c.waiting.self _ c.waiting.invariant
    (wakes_one c.waiting.self (record { ready = c.add.new.self; waiting = c.take_reached.new.self.waiting; children = c.take_reached.new.self.children }) c.args.p.0 c.in-Some.t
    (ap (λ v. v.items) taken.children) taken.phasers taken.others taken.here
    (c.add.ensures.tasks ∙ ap (λ (a : ReadyTasks). length a.flags.items) same)
    (λ l. c.add.ensures.there (subst (λ (a : ReadyTasks). c.in-Some.t.0 < length a.flags.items) (sym same) l))
    (λ u is. c.add.ensures.keeps u (subst (λ (a : ReadyTasks). IsSet a.flags.items u) (sym same) is))
    (λ u is. elim (c.add.ensures.others u is) [
      | inl was ↦ inl (subst (λ (a : ReadyTasks). IsSet a.flags.items u) same was)
      | inr this ↦ inr this
    ]))

pub returns-clause-wakes : goal.returns-clause-wakes
returns-clause-wakes c =
    let none = c.in_default.ensures in
    wakes_on c.args.self.now c.waiting.self c.take_reached.new.self c.waiting.invariant
    (wakes_same c.waiting.self c.take_reached.new.self (ap (λ v. v.items) none.children) none.phasers
    (λ r. elim (cases_eq r c.args.p.0) [
      | inl same ↦ subst (λ k. waiters_at c.take_reached.new.self.waiting.items k ≡ waiters_at c.waiting.self.waiting.items k) (sym same) none.here.0
      | inr apart ↦ none.others r apart
    ])
    (ap (λ (a : ReadyTasks). a.flags.items) none.ready))
