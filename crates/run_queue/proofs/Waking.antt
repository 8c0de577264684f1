-- Tasks that wait are given turns, one after the other.
use Rattle.std.proofs.Common.{◌≡◌, ℕ, ◌<◌, length, arith, sym, ◌∙◌, ap, subst, refl, ◌⊎◌, inl, inr}
use Rattle.std.specs.Prelude.{Contains}
use Rattle.std.proofs.lemmas.Bool.{cases_eq}
use Rattle.armus_base.specs.declared.ids.TaskId.{TaskId}
use Rattle.run_queue.specs.declared.run_queue.RunQueue.{RunQueue}
use Rattle.run_queue.specs.calls.RunQueues.{HasTurnLeft, waiters_at}
use Rattle.run_queue.specs.inside.ReadyTasks.{IsSet}
use Rattle.run_queue.specs.inside.WaitQueues.{TakesOut}
use Rattle.run_queue.specs.inside.Waking.{Wakes}

pub wakes_none : (q : RunQueue) → Wakes q q
wakes_none q = record {
  tasks = refl;
  phasers = refl;
  children = refl;
  ready = λ t r. r;
  turns = λ t r. inl r;
  stays = λ p v l i. inl i;
  fewer = λ p v i. i;
}

pub wakes_on : (a b c : RunQueue) → Wakes a b → Wakes b c → Wakes a c
wakes_on a b c f g = record {
  tasks = g.tasks ∙ f.tasks;
  phasers = g.phasers ∙ f.phasers;
  children = g.children ∙ f.children;
  ready = λ t r. g.ready t (f.ready t r);
  turns = λ t r. elim (g.turns t r) [
    | inl was ↦ f.turns t was
    | inr some ↦ inr (some.0, some.1, f.fewer some.0 some.1 some.2, some.3)
  ];
  stays = λ p v l i. elim (f.stays p v l i) [
    | inl still ↦ g.stays p v (let same = f.tasks in omega arith) still
    | inr r ↦ inr (g.ready v.task.0 r)
  ];
  fewer = λ p v i. f.fewer p v (g.fewer p v i);
}

-- one that waited at phaser p is taken out and has a turn
pub wakes_one :
    (a b : RunQueue) (p : ℕ) (t : TaskId) → b.children.items ≡ a.children.items → length b.waiting.items ≡ length a.waiting.items →
    ((r : ℕ) → (r ≡ p → ⊥) → waiters_at b.waiting.items r ≡ waiters_at a.waiting.items r) → TakesOut (waiters_at a.waiting.items p) (waiters_at b.waiting.items p) t →
    length b.ready.flags.items ≡ length a.ready.flags.items → (t.0 < length a.ready.flags.items → HasTurnLeft b t.0) → ((u : ℕ) → HasTurnLeft a u → HasTurnLeft b u) →
    ((u : ℕ) → HasTurnLeft b u → HasTurnLeft a u ⊎ (u ≡ t.0)) → Wakes a b
wakes_one a b p t children phasers others takes tasks there keeps only = record {
  tasks = tasks;
  phasers = phasers;
  children = children;
  ready = keeps;
  turns = λ u r. elim (only u r) [
    | inl was ↦ inl was
    | inr is ↦ inr (p, takes.one.0, takes.one.1, ap (λ (c : TaskId). c.0) takes.one.2 ∙ sym is)
  ];
  stays = λ r v l i. elim (cases_eq r p) [
    | inl same ↦
        elim (takes.stays v (subst (λ k. Contains (waiters_at a.waiting.items k) v) same i)) [
          | inl still ↦ inl (subst (λ k. Contains (waiters_at b.waiting.items k) v) (sym same) still)
          | inr is ↦
              inr (subst (λ (c : TaskId). HasTurnLeft b c.0) (sym is) (there (subst (λ (c : TaskId). c.0 < length a.ready.flags.items) is l)))
        ]
    | inr apart ↦ inl (subst (λ vs. Contains vs v) (sym (others r apart)) i)
  ];
  fewer = λ r v i. elim (cases_eq r p) [
    | inl same ↦
        subst (λ k. Contains (waiters_at a.waiting.items k) v) (sym same)
        (takes.fewer v (subst (λ k. Contains (waiters_at b.waiting.items k) v) same i))
    | inr apart ↦ subst (λ vs. Contains vs v) (others r apart) i
  ];
}

-- nothing has changed that counts
pub wakes_same :
    (a b : RunQueue) → b.children.items ≡ a.children.items → length b.waiting.items ≡ length a.waiting.items →
    ((r : ℕ) → waiters_at b.waiting.items r ≡ waiters_at a.waiting.items r) → b.ready.flags.items ≡ a.ready.flags.items → Wakes a b
wakes_same a b children phasers same flags = record {
  tasks = ap length flags;
  phasers = phasers;
  children = children;
  ready = λ t r. subst (λ fs. IsSet fs t) (sym flags) r;
  turns = λ t r. inl (subst (λ fs. IsSet fs t) flags r);
  stays = λ p v l i. inl (subst (λ vs. Contains vs v) (sym (same p)) i);
  fewer = λ p v i. subst (λ vs. Contains vs v) (same p) i;
}
