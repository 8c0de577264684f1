-- When a task would not be dead: its event is impeded by no published task, or it impedes no event on which one is published.
use Rattle.std.proofs.Common.{◌≡◌, ◌≢◌, ℕ, ◌<◌, ◌≤◌, ◌+◌, Bool, true, false, ◌==◌, if◌then◌else◌, Some, arith, sym, ◌∙◌, subst, refl, inl, inr}
use Rattle.std.proofs.lemmas.Bool.{cases_eq, cases_lt}
use Rattle.std.proofs.lemmas.Bool.Decides.{nat_tests}
use Rattle.armus_base.specs.declared.event.Event.{Event}
use Rattle.armus_base.specs.Deadlocks.{IsAtPhase, IsImpededWithin, IsPublishedOn, NobodyDead, WouldBeDead}
use Rattle.armus_base.specs.States.{IsReached, State, if_published}
use Rattle.armus_base.proofs.Steps.{updated_other, updated_same}
use Rattle.pl_core.specs.calls.HighestPhases.{ImpedesNobody, IsPublishedImpeder}
use Rattle.avoider.specs.inside.GoingOn.{GoesOnBeside, GoOnBesideFrom, ImpedersGoOn}

-- a set without one task
without_in : (u t : ℕ) (x : Bool) → u ≢ t → x ≡ true → (if u == t then false else x) ≡ true
without_in u t x other inside = grind (arith, nat_tests)

without_from : (u t : ℕ) (x : Bool) → (if u == t then false else x) ≡ true → u ≢ t × x ≡ true
without_from u t x inside = grind (arith, nat_tests)

module _ (s : State) (t : ℕ) (e : Event) where
  abbrev supposed : State
  supposed = if_published s t e

  -- on which event the task itself is published then
  own_event : (f : Event) → supposed.published t ≡ Some f → e ≡ f
  own_event f waits = (let own : Some e ≡ Some f = sym (updated_same s.published t t (Some e) refl) ∙ waits in cc)

  -- each published impeder of its event waits on one that is reached
  pub lives_behind : ((u : ℕ) → IsPublishedImpeder supposed e u → (f : Event) → supposed.published u ≡ Some f → IsReached s f) → WouldBeDead s t e → ⊥
  lives_behind free would =
      let link = would.deadlocked.each t would.inside in
      let back = sym (own_event link.event link.waits) in
      let next = would.deadlocked.each link.by link.inside in
      let impedes : IsPublishedImpeder supposed e link.by = (
        next.event,
        next.waits,
        link.phase,
        subst (λ v. supposed.phases link.by v.p.0 ≡ Some link.phase) back link.impedes,
        subst (λ v. link.phase < v.n) back link.below,
      ) in
      absurd (let least = free link.by impedes next.event next.waits next.by next.phase next.impedes in let low = next.below in omega arith)

  pub lives_unimpeded : ((u : ℕ) → IsPublishedImpeder supposed e u → ⊥) → WouldBeDead s t e → ⊥
  lives_unimpeded nobody = lives_behind (λ u impedes. absurd (nobody u impedes))

  pub lives_reached : IsReached s e → WouldBeDead s t e → ⊥
  lives_reached reached = lives_unimpeded (λ u impedes. let low = impedes.4 in let least = reached u impedes.2 impedes.3 in omega arith)

  module _ (nobody : NobodyDead s) (free : ImpedesNobody supposed t) (would : WouldBeDead s t e) where
    -- the set without the task
    rest : ℕ → Bool
    rest u = if u == t then false else would.tasks u

    in_rest : (u : ℕ) → u ≢ t → would.tasks u ≡ true → rest u ≡ true
    unfolding rest
    in_rest u other inside = without_in u t (would.tasks u) other inside

    from_rest : (u : ℕ) → rest u ≡ true → u ≢ t × would.tasks u ≡ true
    unfolding rest
    from_rest u inside = without_from u t (would.tasks u) inside

    -- who is impeded within the set is so without the task, which impedes nobody
    still : (u : ℕ) → rest u ≡ true → IsImpededWithin (IsPublishedOn s) (IsAtPhase s) rest u
    still u inside =
        let there = from_rest u inside in
        let link = would.deadlocked.each u there.1 in
        let other : link.by ≢ t = λ same. (let most = free u link.phase link.event link.waits (subst (λ v. supposed.phases v link.event.p.0 ≡ Some link.phase) same link.impedes)
        in let low = link.below in omega arith) in
        record {
          event = link.event;
          waits = sym (updated_other s.published t u (Some e) there.0) ∙ link.waits;
          by = link.by;
          inside = in_rest link.by other link.inside;
          phase = link.phase;
          impedes = link.impedes;
          below = link.below;
        }

    pub lives_impeding_nobody : ⊥
    lives_impeding_nobody =
        let link = would.deadlocked.each t would.inside in
        let other : link.by ≢ t = λ same. (let most = free t link.phase link.event link.waits (subst (λ v. supposed.phases v link.event.p.0 ≡ Some link.phase) same link.impedes)
        in let low = link.below in omega arith) in
        let inside = in_rest link.by other link.inside in
        nobody link.by (record { tasks = rest; inside = inside; deadlocked = record { some = (link.by, inside); each = still } })

-- an impeder below the number of the tasks, and one more
pub impeders_more :
    (s : State) (t : ℕ) (e : Event) (k u : ℕ) → ImpedersGoOn s t e k → ((v : ℕ) → k ≤ v → v < u → IsPublishedImpeder (if_published s t e) e v → ⊥) → u ≢ t →
    ((f : Event) → s.published u ≡ Some f → IsReached s f) → ImpedersGoOn s t e (u + 1)
impeders_more s t e k u before none other goes v l impedes f waits =
    elim (cases_eq v u) [
      | inl same ↦ goes f (sym (updated_other s.published t u (Some e) other) ∙ subst (λ x. (if_published s t e).published x ≡ Some f) same waits)
      | inr apart ↦
          elim (cases_lt v k) [
            | inl early ↦ before v early impedes f waits
            | inr late ↦ absurd (none v late (omega (arith, apart)) impedes)
          ]
    ]

pub impeders_all :
    (s : State) (t : ℕ) (e : Event) (k n : ℕ) → ImpedersGoOn s t e k → ((v : ℕ) → k ≤ v → IsPublishedImpeder (if_published s t e) e v → ⊥) → ImpedersGoOn s t e n
impeders_all s t e k n before none v l impedes f waits =
    elim (cases_lt v k) [
      | inl early ↦ before v early impedes f waits
      | inr late ↦ absurd (none v late impedes)
    ]

-- and those behind them that go on
pub impeders_behind : (s : State) (t : ℕ) (e : Event) (k n : ℕ) → ImpedersGoOn s t e k → GoOnBesideFrom s t k n → ImpedersGoOn s t e n
impeders_behind s t e k n before behind v l impedes f waits =
    elim (cases_lt v k) [
      | inl early ↦ before v early impedes f waits
      | inr late ↦ (let goes = behind v late l in goes.1 f (sym (updated_other s.published t v (Some e) goes.0) ∙ waits))
    ]

-- one more that goes on
pub go_on_more : (s : State) (t k n : ℕ) → GoOnBesideFrom s t k n → GoesOnBeside s t n → GoOnBesideFrom s t k (n + 1)
go_on_more s t k n before goes v l m =
    elim (cases_eq v n) [
      | inl same ↦ subst (GoesOnBeside s t) (sym same) goes
      | inr apart ↦ before v l (omega (arith, apart))
    ]
