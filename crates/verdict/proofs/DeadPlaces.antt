-- The walk over dead tasks by the places of their statuses.
use Rattle.std.proofs.Common.{◌≡◌, ℕ, ◌+◌, ◌<◌, Bool, true, false, List, [], ◌∷◌, ◌++◌, length, refl, sym, ap, ◌∙◌, subst, inl, inr, arith, get_or}
use Rattle.std.specs.Prelude.{Contains, ◌↔◌, MatchBool}
use Rattle.std.proofs.lemmas.Bool.{cases_eq, cases_lt}
use Rattle.std.proofs.lemmas.List.{get_or_default, get_or_past, get_or_push, length-append}
use Rattle.armus_base.specs.DeadLists.{IsDeadList}
use Rattle.armus_base.specs.Deadlocks.{IsDeadBy}
use Rattle.armus_base.specs.Statuses.{Impedes}
use Rattle.armus_base.specs.calls.Statuses.{IsInOrder}
use Rattle.armus_base.specs.declared.ids.TaskId.{TaskId}
use Rattle.armus_base.specs.declared.status.Status.{Status}
use Rattle.dep_state.specs.calls.Deps.{Deps, IsDepsOf, impeders_of}
use Rattle.dep_state.proofs.DeadSets.{one_status, dead_by_list, dead_in_list}
use Rattle.dep_state.proofs.EventPlaces.{awaited_at, impeded_at}
use Rattle.dep_state.proofs.Made.{left_of}
use Rattle.dep_state.proofs.TaskPlaces.{element, StandsAt, one_task, count, stands_task}
use Rattle.verdict.specs.Cycles.{IsDeadStep}
use Rattle.verdict.specs.inside.DeadWalks.{IsFlags, IsNextDead, IsWalkable}

-- what a test says
told : (b : Bool) (P : Type 0) → MatchBool b P (P → ⊥) → (b ≡ true) ↔ P
told true P p = (λ e. p, λ q. refl)
told false P off = (λ e. absurd cc, λ q. absurd (off q))

-- one more flag
pub flags_more :
    (tasks dead : List TaskId) (n : ℕ) (flags : List Bool) (x : Bool) (t : TaskId) → IsFlags tasks dead n flags → n < length tasks → get_or tasks n t ≡ t →
    MatchBool x (Contains dead t) (Contains dead t → ⊥) → IsFlags tasks dead (n + 1) (flags ++ x ∷ [])
flags_more tasks dead n flags x t h lt is says =
    record {
      sized = omega (arith, length-append flags (x ∷ []), h.sized);
      each = λ k u in'. elim (cases_eq k n) [
        | inl same ↦
            let a : get_or (flags ++ x ∷ []) k false ≡ x = get_or_push flags x false k (h.sized ∙ sym same) in
            let b : get_or tasks k u ≡ t = ap (λ i. get_or tasks i u) same ∙ get_or_default tasks n u t lt ∙ is in
            rw (a, b) (told x (Contains dead t) says)
        | inr ne ↦ rw (left_of flags (x ∷ []) k false (omega (arith, h.sized))) (h.each k u (omega arith))
      ];
    }

module _ (ss : List Status) (ok : IsInOrder ss) (d : Deps) (is : IsDepsOf ss d) (dead : List TaskId) (h : IsDeadList ss dead) (flags : List Bool)
    (f : IsFlags d.tasks dead (length d.tasks) flags) where
  -- the flag at a task's place says whether it is dead
  pub flag_dead : (k : ℕ) (t : TaskId) → StandsAt ss k t → (get_or flags k false ≡ true) ↔ IsDeadBy ss t.0
  flag_dead k t at =
      let (lt, e) = stands_task ss ok d is k t at in
      let says = rw e at (f.each k t lt) in
      (λ on. (h.exact t).0 (says.0 on), λ by. says.1 ((h.exact t).1 by))

  -- a flag is one of a task
  flag_inside : (k : ℕ) → get_or flags k false ≡ true → k < length ss
  flag_inside k on =
      elim (cases_lt k (length ss)) [
        | inl lt ↦ lt
        | inr past ↦ absurd (let none : get_or flags k false ≡ false = get_or_past flags k false (omega (arith, f.sized, count ss ok d is)) in cc)
      ]

  -- the task at a place impedes what the task at another awaits
  pub impedes_at : (a b : ℕ) (s v : Status) → a < length ss → get_or ss a s ≡ s → b < length ss → get_or ss b v ≡ v →
      Contains (impeders_of d (get_or d.awaits a 0)) b ↔ Impedes v s.event
  impedes_at a b s v al ae bl be = impeded_at ss ok d is (get_or d.awaits a 0) b s.event v (awaited_at ss ok d is a s al ae) bl be

  -- a dead task has a dead task that impedes its event
  next_of : (k : ℕ) → get_or flags k false ≡ true → (u : ℕ) × Contains (impeders_of d (get_or d.awaits k 0)) u × (get_or flags u false ≡ true)
  next_of k on =
      let lt = flag_inside k on in
      let (s, e) = element ss k lt in
      let by = (flag_dead k s.t (s, lt, e, refl)).0 on in
      let (set, here, keeps) = dead_in_list ss s.t by in
      let (s', i', same, (u, (q, ql, qe), m, p)) = keeps s.t here in
      let one = one_status ss ok s' s i' (k, lt, e) same in
      let p' : Impedes u s.event = subst (λ x. Impedes u x.event) one p in
      (q, (impedes_at k q s u lt e ql qe).1 p', (flag_dead q u.t (u, ql, qe, refl)).1 (dead_by_list ss u.t (set, m, keeps)))

  pub walkable : IsWalkable d flags
  walkable = record { sized = f.sized; ascend = is.ascend; keeps = next_of }

  -- a step by places is one of the report
  pub dead_step : (a b : ℕ) (t u : TaskId) → IsNextDead d flags a b → StandsAt ss a t → StandsAt ss b u → IsDeadStep ss t u
  dead_step a b t u s (st, al, ae, af) (su, bl, be, bf) =
      record {
        waits = (st, (a, al, ae), af, (su, (b, bl, be), bf, (impedes_at a b st su al ae bl be).0 s.there));
        dead = (flag_dead b u (su, bl, be, bf)).0 s.marked;
        least = λ w (s', i', st', (v, (j, jl, je), vt, p)) by.
            let one = one_status ss ok s' st i' (a, al, ae) (st' ∙ sym af) in
            let p' : Impedes v st.event = subst (λ x. Impedes v x.event) one p in
            let le = s.least j ((impedes_at a j st v al ae jl je).1 p') ((flag_dead j w (v, jl, je, vt)).1 by) in
            let x : (get_or ss b su).t.0 ≡ u.0 = ap (λ z. z.t.0) be ∙ ap (λ z. z.0) bf in
            let y : (get_or ss j v).t.0 ≡ w.0 = ap (λ z. z.t.0) je ∙ ap (λ z. z.0) vt in
            elim (cases_eq b j) [
              | inl same ↦ let q : u ≡ w = one_task ss ok j u w (subst (λ k. StandsAt ss k u) same (su, bl, be, bf)) (v, jl, je, vt) in omega (arith, ap (λ z. z.0) q)
              | inr ne ↦ omega (arith, ok.tasks b j su v (omega arith) jl)
            ];
      }
