-- Whether a task is impeded by a marked one can be told, and marks that have each deadlocked set still have it without one that is not.
use Rattle.std.proofs.Common.{◌≡◌, ℕ, ◌<◌, Bool, true, false, Option, Some, None, arith, sym, ◌∙◌, ap, subst, refl, ◌⊎◌, inl, inr}
use Rattle.std.proofs.lemmas.Bool.{cases_eq, cases_lt, false≢true}
use Rattle.armus_base.specs.declared.event.Event.{Event}
use Rattle.armus_base.specs.Deadlocks.{HasPhase, IsAtPhase, IsDeadlockedSet, IsImpededWithin, IsPublishedOn, WaitsOn}
use Rattle.armus_base.specs.States.{State, updated}
use Rattle.armus_base.proofs.Steps.{updated_other}
use Rattle.armus_base.proofs.Tasks.{all_or_one}

-- a state of n tasks, and marks
module _ (s : State) (n : ℕ) (member_within : (u p m : ℕ) → s.phases u p ≡ Some m → u < n) (mark : ℕ → Bool) where
  abbrev Clear : Event → ℕ → Type 0
  Clear e v = mark v ≡ true → (m : ℕ) → s.phases v e.p.0 ≡ Some m → m < e.n → ⊥

  abbrev Impedes : Event → ℕ → Type 0
  Impedes e v = (mark v ≡ true) × (m : ℕ) × (s.phases v e.p.0 ≡ Some m) × (m < e.n)

  clear_or_not : (e : Event) (v : ℕ) → Clear e v ⊎ Impedes e v
  clear_or_not e v = by_mark (mark v) refl (s.phases v e.p.0) refl
    where
      by_mark : (b : Bool) → mark v ≡ b → (o : Option ℕ) → s.phases v e.p.0 ≡ o → Clear e v ⊎ Impedes e v
      by_mark false off o is = inl (λ on. absurd (false≢true (sym off ∙ on)))
      by_mark true on None is = inl (λ _ m at. absurd (cc))
      by_mark true on (Some m) is =
          elim (cases_lt m e.n) [
            | inl below ↦ inr (on, m, is, below)
            | inr above ↦ inl (λ _ k at l. let same : m ≡ k = (let both : Some m ≡ Some k = sym is ∙ at in cc) in absurd (omega arith))
          ]

  -- whether a task is impeded by a marked one
  pub impeded_or_not : (u : ℕ) → IsImpededWithin (IsPublishedOn s) (IsAtPhase s) mark u ⊎ (IsImpededWithin (IsPublishedOn s) (IsAtPhase s) mark u → ⊥)
  impeded_or_not u = by_event (s.published u) refl
    where
      by_event :
          (o : Option Event) → s.published u ≡ o → IsImpededWithin (IsPublishedOn s) (IsAtPhase s) mark u
          ⊎ (IsImpededWithin (IsPublishedOn s) (IsAtPhase s) mark u → ⊥)
      by_event None is = inr (λ held. absurd (let waits = held.waits in cc))
      by_event (Some e) is =
          elim (all_or_one (Clear e) (Impedes e) (clear_or_not e) n) [
            | inl all ↦ inr (λ held.
                let same : held.event ≡ e = (let both : Some held.event ≡ Some e = sym held.waits ∙ is in cc) in
                all held.by (member_within held.by held.event.p.0 held.phase held.impedes) held.inside held.phase
                (ap (λ f. s.phases held.by f.p.0) (sym same) ∙ held.impedes) (subst (λ f. held.phase < f.n) same held.below))
            | inr one ↦ inl (record { event = e; waits = is; by = one.0; inside = one.2.0; phase = one.2.1; impedes = one.2.2; below = one.2.3 })
          ]

-- each deadlocked set is marked
abbrev pub HaveAll : WaitsOn → HasPhase → (ℕ → Bool) → Type 0
HaveAll W H mark = (tasks : ℕ → Bool) → IsDeadlockedSet W H tasks → (u : ℕ) → tasks u ≡ true → mark u ≡ true

-- and still is, where a mark is taken away of a task that no marked one impedes
pub have_still :
    (W : WaitsOn) (H : HasPhase) (mark : ℕ → Bool) → HaveAll W H mark → (u : ℕ) → (IsImpededWithin W H mark u → ⊥) → HaveAll W H (updated mark u false)
have_still W H mark have u free tasks deadlocked v inside =
    elim (cases_eq v u) [
      | inl same ↦
          let held = deadlocked.each v inside in
          absurd (free (subst (IsImpededWithin W H mark) same
          (record {
            event = held.event;
            waits = held.waits;
            by = held.by;
            inside = have tasks deadlocked held.by held.inside;
            phase = held.phase;
            impedes = held.impedes;
            below = held.below;
          })))
      | inr other ↦ updated_other mark u v false other ∙ have tasks deadlocked v inside
    ]
