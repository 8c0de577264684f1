-- Those that wait at a phaser, and those that wait at each.
use Rattle.std.proofs.Common.{◌≡◌, ℕ, zero, suc, ◌<◌, ◌≤◌, ◌+◌, List, [], ◌∷◌, ◌++◌, Some, length, set, arith, sym, ◌∙◌, ap, subst, refl, ◌⊎◌, inl, inr}
use Rattle.std.specs.Prelude.{Contains, slice_index_or}
use Rattle.std.proofs.lemmas.Bool.{cases_eq}
use Rattle.std.proofs.lemmas.List.{get_or_default}
use Rattle.armus_base.specs.States.{IsReached, State, event_at}
use Rattle.std.proofs.lemmas.Option.{slice_get-get_or}
use Rattle.armus_base.proofs.Elements.{nothing_in_nil}
use Rattle.armus_base.proofs.Lists.{slice_get-set_other, slice_get-set_same}
use Rattle.run_queue.specs.declared.wait_queue.WaitQueue.{WaitQueue}
use Rattle.run_queue.specs.declared.waiter.Waiter.{Waiter}
use Rattle.run_queue.specs.calls.RunQueues.{waiters_at, waiters_from}
use Rattle.run_queue.specs.inside.WaitQueues.{IsUnreached, LaterFirst}

-- one queue more at which nobody waits
pub empty_more :
    (queues : List WaitQueue) (q : WaitQueue) → q.waiters.items ≡ [] → ((p : ℕ) → waiters_at queues p ≡ []) → (p : ℕ) → waiters_at (queues ++ q ∷ []) p ≡ []
empty_more [] q e none zero = e
empty_more [] q e none (suc p) = refl
empty_more (x ∷ xs) q e none zero = none zero
empty_more (x ∷ xs) q e none (suc p) = empty_more xs q e (λ r. none (suc r)) p

-- nobody waits at a phaser without a queue
pub waiters_within : (queues : List WaitQueue) (p : ℕ) (v : Waiter) → Contains (waiters_at queues p) v → p < length queues
waiters_within [] p v i = absurd (nothing_in_nil v i)
waiters_within (x ∷ xs) zero v i = omega arith
waiters_within (x ∷ xs) (suc p) v i = (let l = waiters_within xs p v i in omega arith)

-- the last one waits for the least phase
pub last_least : (vs : List Waiter) (k : ℕ) (d v : Waiter) → LaterFirst vs → k + 1 ≡ length vs → slice_index_or vs k d ≡ d → Contains vs v → d.phase ≤ v.phase
last_least vs k d v order end is (j, within, there) =
    elim (cases_eq j k) [
      | inl same ↦
          let at : slice_index_or vs k v ≡ v = subst (λ i. slice_index_or vs i v ≡ v) same there in
          let one : d ≡ v = sym is ∙ get_or_default vs k d v (omega arith) ∙ at in
          subst (λ (w : Waiter). d.phase ≤ w.phase) one (omega arith)
      | inr other ↦
          let l = order j k v (omega arith) (omega arith) in
          subst (λ (w : Waiter). d.phase ≤ w.phase) there
          (subst (λ (w : Waiter). w.phase ≤ (slice_index_or vs j v).phase) (get_or_default vs k v d (omega arith) ∙ is) l)
    ]

-- who waits for a later phase than one that is not reached waits for one that is not
pub unreached_later : (s : State) (p n : ℕ) (v : Waiter) → n ≤ v.phase → (IsReached s (event_at p n) → ⊥) → IsUnreached s p v
unreached_later s p n v l unreached reached = unreached (λ u m e. (let most = reached u m e in omega arith))

-- one queue has changed
module _ (queues : List WaitQueue) (p : ℕ) (old new : WaitQueue) (within : p < length queues) (there : slice_index_or queues p old ≡ old) where
  pub here_old : waiters_at queues p ≡ old.waiters.items
  here_old = ap waiters_from (slice_get-get_or queues p old within ∙ ap Some there)

  pub here_new : waiters_at (set queues p new) p ≡ new.waiters.items
  here_new = ap waiters_from (slice_get-set_same queues p new within)

  pub elsewhere : (r : ℕ) → (r ≡ p → ⊥) → waiters_at (set queues p new) r ≡ waiters_at queues r
  elsewhere r apart = ap waiters_from (slice_get-set_other queues p r new apart)

  pub queues_stay :
      ((v : Waiter) → Contains old.waiters.items v → Contains new.waiters.items v) → (r : ℕ) (v : Waiter) → Contains (waiters_at queues r) v →
      Contains (waiters_at (set queues p new) r) v
  queues_stay stays r v i = elim (cases_eq r p) [
    | inl same ↦
        subst (λ k. Contains (waiters_at (set queues p new) k) v) (sym same)
        (subst (λ vs. Contains vs v) (sym here_new) (stays v (subst (λ vs. Contains vs v) here_old (subst (λ k. Contains (waiters_at queues k) v) same i))))
    | inr apart ↦ subst (λ vs. Contains vs v) (sym (elsewhere r apart)) i
  ]

  pub queues_fewer :
      (Other : Waiter → Type 0) → ((v : Waiter) → Contains new.waiters.items v → Contains old.waiters.items v ⊎ Other v) → (r : ℕ) (v : Waiter) →
      Contains (waiters_at (set queues p new) r) v → Contains (waiters_at queues r) v ⊎ Other v
  queues_fewer Other others r v i = elim (cases_eq r p) [
    | inl same ↦
        elim (others v (subst (λ vs. Contains vs v) here_new (subst (λ k. Contains (waiters_at (set queues p new) k) v) same i))) [
          | inl was ↦ inl (subst (λ k. Contains (waiters_at queues k) v) (sym same) (subst (λ vs. Contains vs v) (sym here_old) was))
          | inr other ↦ inr other
        ]
    | inr apart ↦ inl (subst (λ vs. Contains vs v) (elsewhere r apart) i)
  ]
