-- At first all statuses remain, and those that remain at the end are the dead ones.
use Rattle.std.proofs.Common.{◌≡◌, ℕ, zero, suc, ◌<◌, Bool, true, false, List, length, replicate, refl, sym, ap, ◌∙◌, subst, inl, inr, arith, get_or}
use Rattle.std.specs.Prelude.{All, Contains, map}
use Rattle.std.proofs.lemmas.Bool.{cases_Bool}
use Rattle.std.proofs.lemmas.List.{get_or_default, get_or-map, length-map, length-replicate}
use Rattle.armus_base.specs.DeadLists.{IsDeadList}
use Rattle.armus_base.specs.Deadlocks.{IsDeadBy}
use Rattle.armus_base.specs.declared.ids.TaskId.{TaskId}
use Rattle.armus_base.specs.declared.status.Member.{Member}
use Rattle.armus_base.specs.declared.status.Status.{Status}
use Rattle.armus_base.specs.Statuses.{Impedes}
use Rattle.armus_base.specs.calls.Statuses.{IsInOrder}
use Rattle.dep_state.specs.calls.Picks.{Ascend, IsPick}
use Rattle.dep_state.proofs.DeadSets.{IsDeadlockedList, dead_by_list, dead_in_list}
use Rattle.dep_state.proofs.TaskPlaces.{element}
use Rattle.adaptive.specs.declared.standings.PhaseStanding.{PhaseStanding}
use Rattle.adaptive.specs.inside.Remaining.{AllImpeded}
use Rattle.adaptive.specs.inside.Standings.{AreStandingsOf, IsRemaining, remains_at}

-- at first all remain
all_remain : (n k : ℕ) → k < n → remains_at (replicate n true) k ≡ true
all_remain zero k l = absurd (omega arith)
all_remain (suc n) zero l = refl
all_remain (suc n) (suc k) l = all_remain n k (omega arith)

pub first_remaining : (ss : List Status) (remains : List Bool) → remains ≡ replicate (length ss) true → IsRemaining ss remains
first_remaining ss remains is = record {
  sized = ap length is ∙ length-replicate (length ss) true;
  gone = λ k s l e. absurd (let on : remains_at remains k ≡ true = ap (λ xs. remains_at xs k) is ∙ all_remain (length ss) k l in (let no : true ≡ false = sym on ∙ e in cc));
}

pub first_within : (ss : List Status) (standings : List PhaseStanding) (n : ℕ) → AreStandingsOf ss standings → n ≡ length ss → All (λ x. x.status < n) standings
first_within ss standings n are sized k x l =
    let y = get_or standings k x in
    let stands = (are.exact y.status y.at.p.0 y.at.n).0
    (k, l, get_or_default standings k (record { at = record { p = record { 0 = y.at.p.0 }; n = y.at.n }; status = y.status }) x l) in
    (let below = stands.0 in omega (arith, sized))

module _ (ss : List Status) (order : IsInOrder ss) (remains : List Bool) (are : IsRemaining ss remains) (all : AllImpeded ss remains)
    (tasks dead : List TaskId) (tasks_are : tasks ≡ map (λ s. s.t) ss) (picks : IsPick tasks remains dead) where
  count : length tasks ≡ length ss
  count = ap length tasks_are ∙ length-map ss (λ s. s.t)

  -- the task at a place is that of the status there
  task_at : (k : ℕ) (t : TaskId) (s : Status) → k < length ss → get_or tasks k t ≡ (get_or ss k s).t
  task_at k t s l = ap (λ ts. get_or ts k t) tasks_are ∙ get_or-map (λ x. x.t) ss k s t l

  ascend : Ascend tasks
  ascend j k c below l =
      let at_k : k < length ss = omega (arith, count) in
      let s = (element ss j (omega arith)).0 in
      let v = (element ss k at_k).0 in
      let a = ap (λ x. x.0) (task_at j c s (omega arith)) in
      let b = ap (λ x. x.0) (task_at k c v at_k) in
      omega (arith, order.tasks j k s v below at_k, a, b)

  -- the task of a status that remains is picked
  picked_at : (k : ℕ) (s : Status) → k < length ss → remains_at remains k ≡ true → get_or ss k s ≡ s → Contains dead s.t
  picked_at k s l on is = (picks.exact s.t).1 (k, omega (arith, count), on, task_at k s.t s l ∙ ap (λ x. x.t) is)

  -- the picked tasks are a deadlocked list
  keeps : IsDeadlockedList ss dead
  keeps t m =
      let at = (picks.exact t).0 m in
      let k = at.0 in
      let inside : k < length ss = (let l = at.1 in omega (arith, count)) in
      let s = (element ss k inside).0 in
      let is = (element ss k inside).1 in
      let link = all k s inside at.2 in
      let by = link.1 in
      let j = link.0 in
      let within = by.1.0 in
      let u = (element ss j within).0 in
      let there = (element ss j within).1 in
      let phaser = (get_or ss k s).event.p in
      let phase : Member = record { p = phaser; n = by.0 } in
      let phases : Contains u.phases phase = subst (λ x. Contains x.phases phase) there (by.1.1 u) in
      let impedes : Impedes u (get_or ss k s).event = (phases.0, phase, phases.1, phases.2, (refl, by.2)) in (
        s,
        (k, inside, is),
        sym (ap (λ x. x.t) is) ∙ sym (task_at k t s inside) ∙ at.3,
        (u, (j, within, there), picked_at j u within by.3 there, subst (λ x. Impedes u x.event) is impedes),
      )

  -- a dead task has a status, which remains
  picked_dead : (t : TaskId) → IsDeadBy ss t.0 → Contains dead t
  picked_dead t by =
      let found = dead_in_list ss t by in
      let status = found.2 t found.1 in
      let s = status.0 in
      let at = status.1 in
      elim (cases_Bool (remains_at remains at.0)) [
        | inl on ↦ subst (λ x. Contains dead x) status.2 (picked_at at.0 s at.1 on at.2)
        | inr off ↦ absurd (are.gone at.0 s at.1 off (subst (λ x. IsDeadBy ss x) (sym (ap (λ x. x.t.0) at.2 ∙ ap (λ x. x.0) status.2)) by))
      ]

  pub remaining_are_dead : IsDeadList ss dead
  remaining_are_dead = record {
    ascends = picks.ascends ascend;
    exact = λ t. (λ m. dead_by_list ss t (dead, m, keeps), picked_dead t);
  }
