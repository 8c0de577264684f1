use Rattle.std.proofs.Common.{◌≡◌, ap, arith, inl, inr, subst, sym}
use Rattle.std.specs.Prelude.{Contains}
use Rattle.run_queue.specs.declared.waiter.Waiter.{Waiter}
use Rattle.run_queue.proofs.Waiters.{here_new, queues_fewer, queues_stay}
use Rattle.run_queue.proofs.run_queue.RunQueue.put.Goals as goal

pub returns-in_err-put-clause-stays : goal.returns-in_err-put-clause-stays
returns-in_err-put-clause-stays c =
    queues_stay c.args.self.now.waiting.items c.args.event.p.0 c.index_mut.result.now c.put.new.self (omega arith) (sym c.index_mut.ensures.value) c.put.ensures.stays

pub returns-clause-stays : goal.returns-clause-stays
returns-clause-stays c =
    queues_stay c.args.self.now.waiting.items c.args.event.p.0 c.index_mut.result.now c.put.new.self (omega arith) (sym c.index_mut.ensures.value) c.put.ensures.stays

pub returns-in_err-put-clause-others : goal.returns-in_err-put-clause-others
returns-in_err-put-clause-others c =
    queues_fewer c.args.self.now.waiting.items c.args.event.p.0 c.index_mut.result.now c.put.new.self (omega arith) (sym c.index_mut.ensures.value) (λ v. v.task ≡ c.args.t)
    (λ v i. elim (c.put.ensures.others v i) [ inl was ↦ inl was | inr is ↦ inr (ap (λ (u : Waiter). u.task) is) ])

pub returns-clause-others : goal.returns-clause-others
returns-clause-others c =
    queues_fewer c.args.self.now.waiting.items c.args.event.p.0 c.index_mut.result.now c.put.new.self (omega arith) (sym c.index_mut.ensures.value) (λ v. v.task ≡ c.args.t)
    (λ v i. elim (c.put.ensures.others v i) [ inl was ↦ inl was | inr is ↦ inr (ap (λ (u : Waiter). u.task) is) ])

pub returns-clause-there : goal.returns-clause-there
returns-clause-there c = λ _.
    subst (λ vs. Contains vs (record { task = record { 0 = c.args.t.0 }; phase = c.args.event.n }))
    (sym (here_new c.args.self.now.waiting.items c.args.event.p.0 c.index_mut.result.now c.put.new.self (omega arith) (sym c.index_mut.ensures.value))) c.in_ok-put.ensures.there
