-- What one op of a move does to the machine and to the plan.
use Rattle.std.proofs.Common.{◌≡◌, ◌≢◌, ℕ, true, false, Option, Some, None, List, ◌∷◌, arith, sym, ◌∙◌, ap, subst, refl, inl, inr}
use Rattle.std.specs.Prelude.{◌==◌}
use Rattle.std.proofs.lemmas.Bool.{cases_eq, eq-eqb}
use Rattle.armus_base.specs.Plans.{Action, Advances, Drops, Makes, Plan, action_at, maker_of}
use Rattle.armus_base.specs.States.{IsLegal, State, Step, next_phase, updated, with_phase}
use Rattle.armus_base.specs.Runs.{IsPlainRun, places, state_after}
use Rattle.armus_base.specs.Places.{done_by, made_at, makes}
use Rattle.armus_base.specs.CheckedPlans.{IsCheckedPlan}
use Rattle.armus_base.proofs.Codes.{maker_is}
use Rattle.armus_base.proofs.Fixed.{some_before_is}
use Rattle.armus_base.proofs.Members.{member_made}
use Rattle.armus_base.proofs.Steps.{updated_other, updated_same, with_phase_other, with_phase_same}
use Rattle.armus_base.proofs.Stepping.{places_fix}
use Rattle.clock_laws.proofs.Lawful.{ClockKinds}
use Rattle.clock_laws.specs.calls.Direct.{ClockState, departing, opening_clock, signalling, with_entry}
use Rattle.clock_laws.proofs.Acting.{next_legal_here, step_of}
use Rattle.clock_laws.proofs.Cells.{AgreesAt, agrees_from, begins_at, leaves_at, opens_at, outside_at, signals_at}
use Rattle.clock_laws.proofs.Entries.{entry_at, entry_other, everywhere}
use Rattle.clock_laws.proofs.Matching.{Goes, Midst, arrives, goes_first, goes_on}

-- the phaser of a member has been made by a task that is forked
pub maker_forked :
    (plan : Plan) → IsCheckedPlan plan → (h : List Step) → IsPlainRun plan h → (t p n : ℕ) → (state_after h).phases t p ≡ Some n →
    (state_after h).forked (maker_of plan p) ≡ true
unfolding made_at
maker_forked plan checked h run t p n m =
    let at = places_fix plan checked h run.0 in
    let made : made_at plan (done_by (places h)) p ≡ true = ap (λ s. s.made p) (sym at.0) ∙ member_made plan h run.0 t p n m in
    let by = some_before_is (λ j. makes (action_at plan (maker_of plan p) j) p) (done_by (places h) (maker_of plan p)) made in
    ap (λ s. s.forked (maker_of plan p)) at.0 ∙ at.1.begun (maker_of plan p) (omega (arith, by.1))

module _ (plan : Plan) (checked : IsCheckedPlan plan) (clock : ClockKinds) (t : ℕ) (e : Option ℕ) (s : ClockState) (h : List Step) where
  -- the next action is legal, unless it is a pass
  pub legal_next : (x : Action) (xs : List Action) → Midst plan clock t e s h (x ∷ xs) → IsLegal plan (state_after h) t x
  legal_next x xs m = next_legal_here plan checked h m.run t x xs m.own m.acting (m.quiet t)

  pub goes_next : (x : Action) (xs : List Action) → Midst plan clock t e s h (x ∷ xs) → Goes plan t h (step_of t x ∷ h) xs
  goes_next x xs m = goes_on plan checked t h h x xs (goes_first plan checked t h (x ∷ xs) m.run m.own) (legal_next x xs m)

  -- nobody is a member of a phaser that is just being made
  none_yet : (p : ℕ) (xs : List Action) → Midst plan clock t e s h (Makes p ∷ xs) → (u : ℕ) → (state_after h).phases u p ≡ None
  none_yet p xs m u = go ((state_after h).phases u p) refl
    where
      go : (o : Option ℕ) → (state_after h).phases u p ≡ o → o ≡ None
      go None is = refl
      go (Some n) is =
          absurd (let made = member_made plan h m.run.0 u p n is in let unmade = (legal_next (Makes p) xs m).2 in cc)

  -- who is idle stays idle, where the phases of t alone change
  idle_stays :
      (p : ℕ) (v : Option ℕ) (xs : List Action) → Midst plan clock t e s h xs → (u : ℕ) → e ≢ Some u → (state_after h).forked u ≡ false →
      (q : ℕ) → with_phase (state_after h).phases t p v u q ≡ None
  idle_stays p v xs m u n f q =
      with_phase_other (state_after h).phases t p v u q (λ same. absurd (let g = m.acting in let k : (state_after h).forked t ≡ false = subst (λ w.
      (state_after h).forked w ≡ false) same f in cc))
      ∙ m.idle u n f q

  pub opens_clock :
      (p : ℕ) (xs : List Action) → clock.is p ≡ true → Midst plan clock t e s h (Makes p ∷ xs) →
      Midst plan clock t e (opening_clock t p s) (step_of t (Makes p) ∷ h) xs
  opens_clock p xs is m =
      let σ : State = state_after h in
      let none = none_yet p xs m in
      arrives plan checked t clock e e s (opening_clock t p s) h (step_of t (Makes p) ∷ h) (Makes p ∷ xs) xs m (goes_next (Makes p) xs m) m.acting m.quiet m.started
      (everywhere
      (λ q u. AgreesAt (clock.is q) (u == maker_of plan q) (updated s.phase p 0 q) (with_entry s.enrolled p t true q u) (with_entry s.unsignalled p t true q u)
      (s.remembered q u) (s.open_set q u) (with_phase σ.phases t p (Some 0) u q))
      p t
      (agrees_from (clock.is p) (t == maker_of plan p) 0 (updated s.phase p 0 p) true (with_entry s.enrolled p t true p t) true (with_entry s.unsignalled p t true p t)
      (s.remembered p t) (s.remembered p t) (s.open_set p t) (s.open_set p t) (Some 0) (with_phase σ.phases t p (Some 0) t p)
      (updated_same s.phase p p 0 refl) (entry_at s.enrolled p t true p t refl refl) (entry_at s.unsignalled p t true p t refl refl) refl refl (with_phase_same σ.phases t p
      (Some 0))
      (opens_at (m.cells p t) is (none t)))
      (λ q u n.
      agrees_from (clock.is q) (u == maker_of plan q) (updated s.phase p 0 q) (updated s.phase p 0 q) (s.enrolled q u) (with_entry s.enrolled p t true q u) (s.unsignalled q u)
      (with_entry s.unsignalled p t true q u) (s.remembered q u) (s.remembered q u) (s.open_set q u) (s.open_set q u) (σ.phases u q) (with_phase σ.phases t p (Some 0) u q)
      refl (entry_other s.enrolled p t true q u n) (entry_other s.unsignalled p t true q u n) refl refl (with_phase_other σ.phases t p (Some 0) u q (λ a b. n b a))
      (elim (cases_eq q p) [
        | inl same ↦ outside_at (updated s.phase p 0 q) (m.cells q u) (ap (σ.phases u) same ∙ none u)
        | inr other ↦ subst (λ k. AgreesAt (clock.is q) (u == maker_of plan q) k (s.enrolled q u) (s.unsignalled q u) (s.remembered q u) (s.open_set q u) (σ.phases u q)) (sym
            (updated_other s.phase p q 0 other)) (m.cells q u)
      ])))
      (idle_stays p (Some 0) (Makes p ∷ xs) m) m.firsts (λ u n. refl) (λ q u n. refl)

  -- an op of the acting task on one phaser, which changes its own entry alone
  module _ (p : ℕ) (x : Action) (xs : List Action) (m : Midst plan clock t e s h (x ∷ xs)) (v : Option ℕ) (s' : ClockState)
      (g : Goes plan t h (step_of t x ∷ h) xs) (forks : (state_after (step_of t x ∷ h)).forked ≡ (state_after h).forked)
      (publishes : (state_after (step_of t x ∷ h)).published ≡ (state_after h).published)
      (phases : (state_after (step_of t x ∷ h)).phases ≡ with_phase (state_after h).phases t p v) where
    own_entry :
        s'.left ≡ s.left → s'.started ≡ s.started → s'.phase ≡ s.phase →
        ((q u : ℕ) → (q ≡ p → u ≢ t) → s'.enrolled q u ≡ s.enrolled q u) → ((q u : ℕ) → (q ≡ p → u ≢ t) → s'.unsignalled q u ≡ s.unsignalled q u) →
        ((q u : ℕ) → (q ≡ p → u ≢ t) → s'.remembered q u ≡ s.remembered q u) → s'.open_set ≡ s.open_set →
        AgreesAt (clock.is p) (t == maker_of plan p) (s.phase p) (s'.enrolled p t) (s'.unsignalled p t) (s'.remembered p t) (s.open_set p t) v →
        Midst plan clock t e s' (step_of t x ∷ h) xs
    own_entry lefts starteds nth er eu em eo here =
        let σ : State = state_after h in
        arrives plan checked t clock e e s s' h (step_of t x ∷ h) (x ∷ xs) xs m g (ap (λ f. f t) forks ∙ m.acting) (λ u. ap (λ f. f u) publishes ∙ m.quiet u)
        (λ u. ap (λ f. f u) starteds ∙ m.started u ∙ ap (λ f. f u) (sym forks))
        (everywhere
        (λ q u. AgreesAt (clock.is q) (u == maker_of plan q) (s'.phase q) (s'.enrolled q u) (s'.unsignalled q u) (s'.remembered q u) (s'.open_set q u) ((state_after
        (step_of t x ∷ h)).phases u q))
        p t
        (agrees_from (clock.is p) (t == maker_of plan p) (s.phase p) (s'.phase p) (s'.enrolled p t) (s'.enrolled p t) (s'.unsignalled p t) (s'.unsignalled p t)
        (s'.remembered p t) (s'.remembered p t) (s.open_set p t) (s'.open_set p t) v ((state_after (step_of t x ∷ h)).phases t p)
        (ap (λ f. f p) nth) refl refl refl (ap (λ f. f p t) eo) (ap (λ f. f t p) phases ∙ with_phase_same σ.phases t p v) here)
        (λ q u n.
        agrees_from (clock.is q) (u == maker_of plan q) (s.phase q) (s'.phase q) (s.enrolled q u) (s'.enrolled q u) (s.unsignalled q u) (s'.unsignalled q u) (s.remembered q u)
        (s'.remembered q u) (s.open_set q u) (s'.open_set q u) (σ.phases u q) ((state_after (step_of t x ∷ h)).phases u q)
        (ap (λ f. f q) nth) (er q u n) (eu q u n) (em q u n) (ap (λ f. f q u) eo) (ap (λ f. f u q) phases ∙ with_phase_other σ.phases t p v u q (λ a b. n b a))
        (m.cells q u)))
        (λ u n f q. ap (λ g. g u q) phases ∙ idle_stays p v (x ∷ xs) m u n (ap (λ g. g u) (sym forks) ∙ f) q)
        (λ u f. m.firsts u (ap (λ g. g u) (sym forks) ∙ f)) (λ u n. ap (λ f. f u) lefts) (λ q u n. em q u (λ _. n))

  pub begins_finish :
      (f : ℕ) (xs : List Action) → clock.is f ≡ false → Midst plan clock t e s h (Makes f ∷ xs) → Midst plan clock t e s (step_of t (Makes f) ∷ h) xs
  begins_finish f xs is m =
      own_entry f (Makes f) xs m (Some 0) s (goes_next (Makes f) xs m) refl refl refl refl refl refl (λ q u n. refl) (λ q u n. refl) (λ q u n. refl) refl
      (begins_at (m.cells f t) is (eq-eqb t (maker_of plan f) (sym (maker_is plan t f (legal_next (Makes f) xs m).1))) (none_yet f xs m t))

  pub signals :
      (p : ℕ) (xs : List Action) → clock.is p ≡ true → s.remembered p t ≡ None → Midst plan clock t e s h (Advances p ∷ xs) →
      Midst plan clock t e (signalling t p s) (step_of t (Advances p) ∷ h) xs
  signals p xs is none m =
      let member = (legal_next (Advances p) xs m).1 in
      own_entry p (Advances p) xs m (next_phase ((state_after h).phases t p)) (signalling t p s) (goes_next (Advances p) xs m) refl refl refl refl refl refl
      (λ q u n. refl) (entry_other s.unsignalled p t false) (entry_other s.remembered p t (Some (s.phase p))) refl
      (agrees_from (clock.is p) (t == maker_of plan p) (s.phase p) (s.phase p) (s.enrolled p t) (s.enrolled p t) false (with_entry s.unsignalled p t false p t) (Some
      (s.phase p)) (with_entry s.remembered p t (Some (s.phase p)) p t) (s.open_set p t) (s.open_set p t) (next_phase ((state_after h).phases t p)) (next_phase
      ((state_after h).phases t p))
      refl refl (entry_at s.unsignalled p t false p t refl refl) (entry_at s.remembered p t (Some (s.phase p)) p t refl refl) refl refl
      (signals_at (m.cells p t) is none member.0 member.1))

  pub leaves_clock :
      (p : ℕ) (xs : List Action) → clock.is p ≡ true → Midst plan clock t e s h (Drops p ∷ xs) →
      Midst plan clock t e (departing t p s) (step_of t (Drops p) ∷ h) xs
  leaves_clock p xs is m =
      own_entry p (Drops p) xs m None (departing t p s) (goes_next (Drops p) xs m) refl refl refl refl refl refl
      (entry_other s.enrolled p t false) (entry_other s.unsignalled p t false) (entry_other s.remembered p t None) refl
      (agrees_from (clock.is p) (t == maker_of plan p) (s.phase p) (s.phase p) false (with_entry s.enrolled p t false p t) false (with_entry s.unsignalled p t false p t) None
      (with_entry s.remembered p t None p t) (s.open_set p t) (s.open_set p t) None None
      refl (entry_at s.enrolled p t false p t refl refl) (entry_at s.unsignalled p t false p t refl refl) (entry_at s.remembered p t None p t refl refl) refl refl
      (leaves_at (m.cells p t) is))
