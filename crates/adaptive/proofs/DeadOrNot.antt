-- Whether a task is dead can be told, over any statuses: tasks that nobody impedes are left out one by one.
use Rattle.std.proofs.Common.{◌≡◌, ℕ, zero, suc, ◌<◌, ◌≤◌, ◌+◌, Bool, true, false, Option, Some, None, List, [], ◌∷◌, arith, sym, ◌∙◌, ap, subst, refl, ◌⊎◌, inl, inr}
use Rattle.std.specs.Prelude.{if◌then◌else◌, nat_lt, Contains}
use Rattle.std.proofs.lemmas.Bool.{cases_Bool, cases_eq, false≢true, lt-ltb, ltb-true}
use Rattle.armus_base.specs.declared.event.Event.{Event}
use Rattle.armus_base.specs.declared.ids.TaskId.{TaskId}
use Rattle.armus_base.specs.declared.status.Member.{Member}
use Rattle.armus_base.specs.declared.status.Status.{Status}
use Rattle.armus_base.specs.Deadlocks.{WaitsOn, HasPhase, IsDead, IsDeadBy, IsImpededWithin, IsListedOn, IsListedAt}
use Rattle.armus_base.specs.DeadLists.{IsDeadList}
use Rattle.armus_base.specs.Finals.{given_below}
use Rattle.armus_base.specs.States.{updated}
use Rattle.armus_base.proofs.Below.{given_ascends, given_from, given_is}
use Rattle.armus_base.proofs.Elements.{nothing_in_nil, Contains-cons_cases}
use Rattle.armus_base.proofs.Impeded.{HaveAll, have_still}
use Rattle.armus_base.proofs.Steps.{updated_is, updated_other, updated_same}
use Rattle.armus_base.proofs.Tasks.{all_or_one}
use Rattle.adaptive.proofs.Deciding.{Told, told_less, told_number, told_same, told_some_both, told_true}

-- how many of the first n are marked
marked : (ℕ → Bool) → ℕ → ℕ
marked mark zero = 0
marked mark (suc n) = marked mark n + (if mark n then 1 else 0)

module _ (mark : ℕ → Bool) (u : ℕ) (is : mark u ≡ true) where
  same_below : (n : ℕ) → n ≤ u → marked (updated mark u false) n ≡ marked mark n
  unfolding marked
  same_below zero l = refl
  same_below (suc n) l =
      let rest = same_below n (omega arith) in
      let here : updated mark u false n ≡ mark n = updated_other mark u n false (λ e. absurd (omega arith)) in
      ap (λ k. k + (if updated mark u false n then 1 else 0)) rest ∙ ap (λ b. marked mark n + (if b then 1 else 0)) here

  -- one mark less
  less_marked : (n : ℕ) → u < n → marked (updated mark u false) n < marked mark n
  unfolding marked
  less_marked zero l = absurd (omega arith)
  less_marked (suc n) l =
      elim (cases_eq n u) [
        | inl same ↦
            let rest = same_below n (omega arith) in
            let now : updated mark u false n ≡ false = updated_same mark u n false same in
            let was : mark n ≡ true = ap mark same ∙ is in
            let one : (if updated mark u false n then 1 else 0) ≡ 0 = ap (λ b. if b then 1 else 0) now in
            let other : (if mark n then 1 else 0) ≡ 1 = ap (λ b. if b then 1 else 0) was in
            sums (marked (updated mark u false) n) (if updated mark u false n then 1 else 0) (marked mark n) (if mark n then 1 else 0) rest one other
        | inr other ↦
            let rest = less_marked n (omega arith) in
            let here : (if updated mark u false n then 1 else 0) ≡ (if mark n then 1 else 0) = ap (λ b. if b then 1 else 0) (updated_other mark u n false other) in
            more (marked (updated mark u false) n) (if updated mark u false n then 1 else 0) (marked mark n) (if mark n then 1 else 0) rest here
      ]
    where
      sums : (a b c d : ℕ) → a ≡ c → b ≡ 0 → d ≡ 1 → a + b < c + d
      sums a b c d e f g = omega arith

      more : (a b c d : ℕ) → a < c → b ≡ d → a + b < c + d
      more a b c d e f = omega arith

module _ (W : WaitsOn) (H : HasPhase) (n : ℕ) (waits_within : (u : ℕ) (e : Event) → W u e → u < n) (tell : (mark : ℕ → Bool) (u : ℕ) → Told (IsImpededWithin W H mark u)) where
  abbrev Impeded : (ℕ → Bool) → ℕ → Type 0
  Impeded mark u = IsImpededWithin W H mark u

  -- each marked task is impeded by a marked one, or one is not
  stuck_or_all : (mark : ℕ → Bool) → ((u : ℕ) → u < n → mark u ≡ true → Impeded mark u) ⊎ ((u : ℕ) × (u < n) × (mark u ≡ true) × (Impeded mark u → ⊥))
  stuck_or_all mark =
      elim (all_or_one (λ u. mark u ≡ true → Impeded mark u) (λ u. (mark u ≡ true) × (Impeded mark u → ⊥)) test n) [
        | inl all ↦ inl all
        | inr one ↦ inr (one.0, one.1, one.2.0, one.2.1)
      ]
    where
      test : (u : ℕ) → (mark u ≡ true → Impeded mark u) ⊎ ((mark u ≡ true) × (Impeded mark u → ⊥))
      test u =
          elim (cases_Bool (mark u)) [
            | inl on ↦ elim (tell mark u) [ inl held ↦ inl (λ _. held) | inr free ↦ inr (on, free) ]
            | inr off ↦ inl (λ on. absurd (false≢true (sym off ∙ on)))
          ]

  -- marks of which one is taken away
  module _ (mark : ℕ → Bool) (u : ℕ) where
    within_still : ((v : ℕ) → mark v ≡ true → v < n) → (v : ℕ) → updated mark u false v ≡ true → v < n
    within_still within v on =
        elim (updated_is mark u v false true on) [ inl own ↦ absurd (false≢true own.1) | inr other ↦ within v other.1 ]

  -- where each marked task is impeded by a marked one, the marked ones are dead, and only they
  by_marks : (mark : ℕ → Bool) → HaveAll W H mark → ((u : ℕ) → mark u ≡ true → u < n) → ((u : ℕ) → u < n → mark u ≡ true → Impeded mark u) → (t : ℕ) → Told (IsDead W H t)
  by_marks mark have within all t =
      elim (cases_Bool (mark t)) [
        | inl on ↦ inl (record { tasks = mark; inside = on; deadlocked = record { some = (t, on); each = λ u i. all u (within u i) i } })
        | inr off ↦ inr (λ dead. false≢true (sym off ∙ have dead.tasks dead.deadlocked t dead.inside))
      ]

  dead_by_marks :
      (fuel : ℕ) (mark : ℕ → Bool) → marked mark n ≤ fuel → HaveAll W H mark → ((u : ℕ) → mark u ≡ true → u < n) → (t : ℕ) → Told (IsDead W H t)
  dead_by_marks zero mark few have within t =
      elim (stuck_or_all mark) [
        | inl all ↦ by_marks mark have within all t
        | inr one ↦ absurd (let less = less_marked mark one.0 one.2 n one.1 in omega arith)
      ]
  dead_by_marks (suc fuel) mark few have within t =
      elim (stuck_or_all mark) [
        | inl all ↦ by_marks mark have within all t
        | inr one ↦
            dead_by_marks fuel (updated mark one.0 false) (let less = less_marked mark one.0 one.2 n one.1 in omega arith) (have_still W H mark have one.0 one.3)
            (within_still mark one.0 within) t
      ]

  abbrev all_tasks : ℕ → Bool
  all_tasks u = nat_lt u n

  -- a task is dead, or it is not, by any relations of which it can be told whether a task is impeded
  pub told_dead : (t : ℕ) → Told (IsDead W H t)
  told_dead t =
      dead_by_marks (marked all_tasks n) all_tasks (omega arith)
      (λ tasks deadlocked u inside. let held = deadlocked.each u inside in lt-ltb u n (waits_within u held.event held.waits)) (λ u on. ltb-true u n on) t

-- a number above each task of the statuses
above : List Status → ℕ
above [] = 0
above (s ∷ ss) = suc s.t.0 + above ss

above_is : (ss : List Status) (s : Status) → Contains ss s → s.t.0 < above ss
unfolding above
above_is [] s m = absurd (nothing_in_nil s m)
above_is (v ∷ ss) s m =
    elim (Contains-cons_cases v ss s m) [ inl e ↦ omega (arith, ap (λ x. x.t.0) e) | inr l ↦ omega (arith, above_is ss s l) ]

member_of : ℕ → ℕ → Member
member_of p n = record { p = record { 0 = p }; n = n }

module _ (ss : List Status) (mark : ℕ → Bool) (u : ℕ) where
  abbrev Phase : Status → Status → Type 0
  Phase s v = (m : Member) × Contains v.phases m × (m.p.0 ≡ s.event.p.0) × (m.n < s.event.n)

  abbrev By : Status → Type 0
  By s = (v : Status) × Contains ss v × (mark v.t.0 ≡ true) × Phase s v

  abbrev Found : Type 0
  Found = (s : Status) × Contains ss s × (s.t.0 ≡ u) × By s

  told_phase : (s v : Status) → Told (Phase s v)
  told_phase s v =
      told_some_both (λ m. m.p.0 ≡ s.event.p.0) (λ m. m.n < s.event.n) (λ m. told_number m.p.0 s.event.p.0) (λ m. told_less m.n s.event.n) v.phases

  told_by : (s : Status) → Told (By s)
  told_by s = told_some_both (λ v. mark v.t.0 ≡ true) (Phase s) (λ v. told_true (mark v.t.0)) (told_phase s) ss

  told_found : Told Found
  told_found = told_some_both (λ s. s.t.0 ≡ u) By (λ s. told_number s.t.0 u) told_by ss

  found_is : Found → IsImpededWithin (IsListedOn ss) (IsListedAt ss) mark u
  unfolding member_of
  found_is (s, i, st, (v, j, on, (m, k, same, below))) =
      record {
        event = s.event;
        waits = (s, i, st, refl);
        by = v.t.0;
        inside = on;
        phase = m.n;
        impedes = (v, j, refl, subst (λ p. Contains v.phases (member_of p m.n)) same k);
        below = below;
      }

  is_found : IsImpededWithin (IsListedOn ss) (IsListedAt ss) mark u → Found
  unfolding member_of
  is_found h =
      let (s, i, st, se) = h.waits in
      let (v, j, vt, k) = h.impedes in (
        s,
        i,
        st,
        (v, j, ap mark vt ∙ h.inside, (member_of h.event.p.0 h.phase, k, ap (λ e. e.p.0) (sym se), subst (λ e. h.phase < e.n) (sym se) h.below)),
      )

  told_impeded : Told (IsImpededWithin (IsListedOn ss) (IsListedAt ss) mark u)
  told_impeded = told_same found_is is_found told_found

-- a task is dead by the statuses, or it is not
pub dead_or_not : (ss : List Status) (t : ℕ) → Told (IsDeadBy ss t)
dead_or_not ss t =
    told_dead (IsListedOn ss) (IsListedAt ss) (above ss) (λ u e (s, i, st, se). subst (λ n. n < above ss) st (above_is ss s i))
    (λ mark u. told_impeded ss mark u) t

task_of : ℕ → TaskId
task_of n = record { 0 = n }

-- the task, where it holds
picked : {P : Type 0} → Told P → ℕ → Option TaskId
picked (inl p) t = Some (task_of t)
picked (inr n) t = None

picked_is : {P : Type 0} (told : Told P) (t : ℕ) (x : TaskId) → picked told t ≡ Some x → (task_of t ≡ x) × P
unfolding picked
picked_is (inl p) t x e = (cc, p)
picked_is (inr n) t x e = absurd cc

picked_from : {P : Type 0} (told : Told P) (t : ℕ) → P → picked told t ≡ Some (task_of t)
unfolding picked
picked_from (inl p) t h = refl
picked_from (inr n) t h = absurd (n h)

-- statuses have a list of their dead tasks
pub dead_list_exists : (ss : List Status) → (dead : List TaskId) × IsDeadList ss dead
unfolding task_of
dead_list_exists ss =
    let f : ℕ → Option TaskId = λ t. picked (dead_or_not ss t) t in (
      given_below f (above ss),
      record {
        ascends = given_ascends (λ x. x.0) f (λ k x e. sym (ap (λ y. y.0) (picked_is (dead_or_not ss k) k x e).0)) (above ss);
        exact = λ x. (
          λ m.
              let (k, lt, e) = given_is f (above ss) x m in
              let is = picked_is (dead_or_not ss k) k x e in
              subst (λ y. IsDeadBy ss y.0) is.0 is.1,
          λ d.
              let (s, i, st, se) = (d.deadlocked.each x.0 d.inside).waits in
              given_from f (above ss) x.0 x (subst (λ n. n < above ss) st (above_is ss s i)) (picked_from (dead_or_not ss x.0) x.0 d),
        );
      },
    )
