-- An activity that starts another: a Reg for each clock and for the finish, and the Fork.
use Rattle.std.proofs.Common.{◌≡◌, ◌≢◌, ℕ, Bool, true, false, Option, Some, None, List, [], ◌∷◌, ◌++◌, sym, ◌∙◌, ap, subst, refl, inl, inr}
use Rattle.std.specs.List.{list_any}
use Rattle.std.specs.Prelude.{◌==◌, ◌||◌, is_some, map, option_to_list}
use Rattle.std.proofs.lemmas.Bool.{cases_eq, eq-eqb, ne_eqb, false≢true}
use Rattle.armus_base.specs.declared.op.Op.{Op}
use Rattle.armus_base.specs.declared.op.Op.TheVariants as op
use Rattle.armus_base.specs.Numbers.{phaser, task}
use Rattle.armus_base.specs.Plans.{Action, Forks, Plan, Registers, actions_of, maker_of}
use Rattle.armus_base.specs.States.{Phases, State, Step, with_phase}
use Rattle.armus_base.specs.Runs.{IsPlainRun, places, state_after}
use Rattle.armus_base.specs.CheckedPlans.{IsCheckedPlan}
use Rattle.armus_base.specs.Places.{done_by, first_phases, kept, phases_after, phases_at}
use Rattle.armus_base.proofs.Fixed.{phases_forked}
use Rattle.armus_base.proofs.Members.{other_step, plain_undropped}
use Rattle.armus_base.proofs.Stepping.{places_fix, unforked_idle}
use Rattle.armus_base.proofs.Steps.{updated_other, updated_same, with_phase_other, with_phase_same}
use Rattle.clock_laws.specs.calls.Direct.{ClockState, enrolling, enrolling_all, joining, starting, with_entry}
use Rattle.clock_laws.proofs.Lawful.{AreIdleClocks, ClockKinds, IsFinishIfAny}
use Rattle.clock_laws.proofs.Acting.{step_of}
use Rattle.clock_laws.proofs.Cells.{AgreesAt, agrees_from, enrols_at, finish_phase, joins_at}
use Rattle.clock_laws.proofs.Entries.{entry_at, entry_other, everywhere}
use Rattle.clock_laws.proofs.Matching.{IdleOutside, Midst, arrives}
use Rattle.clock_laws.proofs.Moving.{goes_next, legal_next, maker_forked}

-- where nothing is pending, nothing is remembered
pub nothing_remembered : (b : Bool) (o : Option ℕ) → b ≡ is_some o → b ≡ false → o ≡ None
nothing_remembered b None e f = refl
nothing_remembered b (Some k) e f = absurd (false≢true (sym f ∙ e))

module _ (plan : Plan) (checked : IsCheckedPlan plan) (clock : ClockKinds) (t c : ℕ) where
  -- the child's idleness is in question from here on
  pub exempts : (s : ClockState) (h : List Step) (xs : List Action) → Midst plan clock t None s h xs → Midst plan clock t (Some c) s h xs
  exempts s h xs m =
      record {
        run = m.run;
        acting = m.acting;
        quiet = m.quiet;
        started = m.started;
        cells = m.cells;
        idle = λ u n. m.idle u (λ e. absurd (cc));
        firsts = m.firsts;
        others = m.others;
        own = m.own;
      }

  pub child_idle :
      (σ : State) (p : ℕ) (v : Option ℕ) → IdleOutside (Some c) σ → (u : ℕ) → Some c ≢ Some u → σ.forked u ≡ false → (q : ℕ) →
      with_phase σ.phases c p v u q ≡ None
  child_idle σ p v idle u n f q = with_phase_other σ.phases c p v u q (λ same. absurd (n (ap Some (sym same)))) ∙ idle u n f q

  pub enrols_child :
      (s : ClockState) (h : List Step) (p : ℕ) (xs : List Action) → clock.is p ≡ true → s.remembered p t ≡ None →
      Midst plan clock t (Some c) s h (Registers c p ∷ xs) → Midst plan clock t (Some c) (enrolling c p s) (step_of t (Registers c p) ∷ h) xs
  enrols_child s h p xs is none m =
      let σ : State = state_after h in
      let legal = legal_next plan checked clock t (Some c) s h (Registers c p) xs m in
      let member = legal.3 in
      arrives plan checked t clock (Some c) (Some c) s (enrolling c p s) h (step_of t (Registers c p) ∷ h) (Registers c p ∷ xs) xs m
      (goes_next plan checked clock t (Some c) s h (Registers c p) xs m) m.acting m.quiet m.started
      (everywhere
      (λ q u. AgreesAt (clock.is q) (u == maker_of plan q) (s.phase q) (with_entry s.enrolled p c true q u) (with_entry s.unsignalled p c true q u) (s.remembered q u)
      (s.open_set q u) (with_phase σ.phases c p (σ.phases t p) u q))
      p c
      (agrees_from (clock.is p) (c == maker_of plan p) (s.phase p) (s.phase p) true (with_entry s.enrolled p c true p c) true (with_entry s.unsignalled p c true p c)
      (s.remembered p c) (s.remembered p c) (s.open_set p c) (s.open_set p c) (σ.phases t p) (with_phase σ.phases c p (σ.phases t p) c p)
      refl (entry_at s.enrolled p c true p c refl refl) (entry_at s.unsignalled p c true p c refl refl) refl refl (with_phase_same σ.phases c p (σ.phases t p))
      (enrols_at (m.cells p t) (m.cells p c) is none member.0 member.1 legal.4))
      (λ q u n.
      agrees_from (clock.is q) (u == maker_of plan q) (s.phase q) (s.phase q) (s.enrolled q u) (with_entry s.enrolled p c true q u) (s.unsignalled q u)
      (with_entry s.unsignalled p c true q u) (s.remembered q u) (s.remembered q u) (s.open_set q u) (s.open_set q u) (σ.phases u q) (with_phase σ.phases c p
      (σ.phases t p) u q)
      refl (entry_other s.enrolled p c true q u n) (entry_other s.unsignalled p c true q u n) refl refl (with_phase_other σ.phases c p (σ.phases t p) u q (λ a b. n b a))
      (m.cells q u)))
      (child_idle σ p (σ.phases t p) m.idle) m.firsts (λ u n. refl) (λ q u n. refl)

  pub joins_finish :
      (s : ClockState) (h : List Step) (f : ℕ) (xs : List Action) → clock.is f ≡ false →
      Midst plan clock t (Some c) s h (Registers c f ∷ xs) → Midst plan clock t (Some c) (joining (Some f) c s) (step_of t (Registers c f) ∷ h) xs
  joins_finish s h f xs is m =
      let σ : State = state_after h in
      let legal = legal_next plan checked clock t (Some c) s h (Registers c f) xs m in
      let member = legal.3 in
      let first : σ.phases t f ≡ Some 0 = finish_phase (m.cells f t) is member.0 member.1 in
      let stranger : c ≢ maker_of plan f =
      λ same. absurd (let forked : σ.forked c ≡ true = ap σ.forked same ∙ maker_forked plan checked h m.run t f member.0 member.1 in let unforked = legal.2 in cc) in
      arrives plan checked t clock (Some c) (Some c) s (joining (Some f) c s) h (step_of t (Registers c f) ∷ h) (Registers c f ∷ xs) xs m
      (goes_next plan checked clock t (Some c) s h (Registers c f) xs m) m.acting m.quiet m.started
      (everywhere
      (λ q u. AgreesAt (clock.is q) (u == maker_of plan q) (s.phase q) (s.enrolled q u) (s.unsignalled q u) (s.remembered q u) (with_entry s.open_set f c true q u)
      (with_phase σ.phases c f (σ.phases t f) u q))
      f c
      (agrees_from (clock.is f) (c == maker_of plan f) (s.phase f) (s.phase f) (s.enrolled f c) (s.enrolled f c) (s.unsignalled f c) (s.unsignalled f c) (s.remembered f c)
      (s.remembered f c) true (with_entry s.open_set f c true f c) (Some 0) (with_phase σ.phases c f (σ.phases t f) c f)
      refl refl refl refl (entry_at s.open_set f c true f c refl refl) (with_phase_same σ.phases c f (σ.phases t f) ∙ first)
      (joins_at (m.cells f c) is (ne_eqb c (maker_of plan f) stranger) legal.4))
      (λ q u n.
      agrees_from (clock.is q) (u == maker_of plan q) (s.phase q) (s.phase q) (s.enrolled q u) (s.enrolled q u) (s.unsignalled q u) (s.unsignalled q u) (s.remembered q u)
      (s.remembered q u) (s.open_set q u) (with_entry s.open_set f c true q u) (σ.phases u q) (with_phase σ.phases c f (σ.phases t f) u q)
      refl refl refl refl (entry_other s.open_set f c true q u n) (with_phase_other σ.phases c f (σ.phases t f) u q (λ a b. n b a))
      (m.cells q u)))
      (child_idle σ f (σ.phases t f) m.idle) m.firsts (λ u n. refl) (λ q u n. refl)

  -- a task that has just been forked begins with the phases with which it is registered
  first_row :
      (h : List Step) → IsPlainRun plan h → (state_after h).forked c ≡ true → (places h c).done ≡ 0 → (q : ℕ) → (state_after h).phases c q ≡ first_phases plan c q
  unfolding phases_after
  first_row h run forked none q =
      let at = places_fix plan checked h run.0 in
      ap (λ s. s.phases c q) at.0
      ∙ ap (λ o. kept o (phases_at plan (done_by (places h)) c) q) (plain_undropped plan h run c)
      ∙ ap (λ f. f q) (phases_forked plan checked (done_by (places h)) c (ap (λ s. s.forked c) (sym at.0) ∙ forked))
      ∙ ap (λ k. phases_after plan c k q) none

  pub starts_child :
      (s : ClockState) (h : List Step) (xs : List Action) → ((q : ℕ) → (clock.first c).members q ≡ is_some ((state_after h).phases c q)) →
      Midst plan clock t (Some c) s h (Forks c ∷ xs) → Midst plan clock t None (starting c s) (step_of t (Forks c) ∷ h) xs
  starts_child s h xs row m =
      let σ : State = state_after h in
      let goes = goes_next plan checked clock t (Some c) s h (Forks c) xs m in
      let unforked = (legal_next plan checked clock t (Some c) s h (Forks c) xs m).2 in
      let at = places_fix plan checked h m.run.0 in
      let none : (places h c).done ≡ 0 = unforked_idle plan checked (places h) at.1 c (ap (λ s. s.forked c) (sym at.0) ∙ unforked) in
      let other : c ≢ t = λ same. absurd (false≢true (sym unforked ∙ ap σ.forked same ∙ m.acting)) in
      let begun : (places (step_of t (Forks c) ∷ h) c).done ≡ 0 = ap (λ v. v.done) (other_step (step_of t (Forks c)) h c other) ∙ none in
      arrives plan checked t clock (Some c) None s (starting c s) h (step_of t (Forks c) ∷ h) (Forks c ∷ xs) xs m
      goes
      (elim (cases_eq t c) [ inl same ↦ updated_same σ.forked c t true same | inr other ↦ updated_other σ.forked c t true other ∙ m.acting ])
      m.quiet
      (λ u. elim (cases_eq u c) [
        | inl same ↦ updated_same s.started c u true same ∙ sym (updated_same σ.forked c u true same)
        | inr other ↦ updated_other s.started c u true other ∙ m.started u ∙ sym (updated_other σ.forked c u true other)
      ])
      m.cells
      (λ u n f. elim (cases_eq u c) [
        | inl same ↦ absurd (false≢true (sym f ∙ updated_same σ.forked c u true same))
        | inr other ↦ m.idle u (λ is. other (cc)) (sym (updated_other σ.forked c u true other) ∙ f)
      ])
      (λ u f q. elim (cases_eq u c) [
        | inl same ↦
            subst (λ v. (clock.first v).members q ≡ is_some (first_phases plan v q)) (sym same)
            (row q ∙ ap is_some (first_row (step_of t (Forks c) ∷ h) goes.run (updated_same σ.forked c c true refl) begun q))
        | inr other ↦ m.firsts u (sym (updated_other σ.forked c u true other) ∙ f) q
      ])
      (λ u n. refl) (λ q u n. refl)

  -- the ops that register the child
  abbrev pub reg_ops : List ℕ → List Op
  reg_ops ps = map (λ p. op.Reg (task c) (phaser p)) ps

  -- the child has been registered on these
  pub record Registered (h g : List Step) (on : List ℕ) : Type 0 where
    pub forked : (u : ℕ) → (state_after g).forked u ≡ (state_after h).forked u
    pub row : (q : ℕ) → is_some ((state_after g).phases c q) ≡ (list_any (λ p. p == q) on || is_some ((state_after h).phases c q))

  -- one more
  row_more : (f : ℕ → Phases) (p : ℕ) (v : Option ℕ) (j : ℕ) → v ≡ Some j → (q : ℕ) → is_some (with_phase f c p v c q) ≡ ((p == q) || is_some (f c q))
  row_more f p v j e q =
      elim (cases_eq p q) [
        | inl same ↦
            ap is_some (ap (λ r. with_phase f c p v c r) (sym same) ∙ with_phase_same f c p v ∙ e)
            ∙ sym (ap (λ b. b || is_some (f c q)) (eq-eqb p q same))
        | inr other ↦
            ap is_some (with_phase_other f c p v c q (λ same here. absurd (other (sym here))))
            ∙ sym (ap (λ b. b || is_some (f c q)) (ne_eqb p q other))
      ]

  or_moved : (a b d : Bool) → (a || (b || d)) ≡ ((b || a) || d)
  or_moved true true d = refl
  or_moved true false d = refl
  or_moved false true d = refl
  or_moved false false d = refl

  pub enrols_all :
      (pending : ℕ → Bool) (ps : List ℕ) (rest : List Op) (s : ClockState) (h : List Step) → AreIdleClocks clock.is pending ps →
      ((p : ℕ) → pending p ≡ is_some (s.remembered p t)) → Midst plan clock t (Some c) s h (actions_of (reg_ops ps ++ rest)) →
      (g : List Step) × Midst plan clock t (Some c) (enrolling_all c ps s) g (actions_of rest) × Registered h g ps
  enrols_all pending [] rest s h are agree m = (h, m, record { forked = λ u. refl; row = λ q. refl })
  enrols_all pending (p ∷ ps) rest s h are agree m =
      let member = (legal_next plan checked clock t (Some c) s h (Registers c p) (actions_of (reg_ops ps ++ rest)) m).3 in
      let more = enrols_all pending ps rest (enrolling c p s) (step_of t (Registers c p) ∷ h) are.1 agree
      (enrols_child s h p (actions_of (reg_ops ps ++ rest)) are.0.0 (nothing_remembered (pending p) (s.remembered p t) (agree p) are.0.1) m) in (
        more.0,
        more.1,
        record {
          forked = more.2.forked;
          row = λ q.
              more.2.row q
              ∙ ap (λ b. list_any (λ p. p == q) ps || b) (row_more (state_after h).phases p ((state_after h).phases t p) member.0 member.1 q)
              ∙ or_moved (list_any (λ p. p == q) ps) (p == q) (is_some ((state_after h).phases c q));
        },
      )

  pub joins_any :
      (f : Option ℕ) (rest : List Op) (s : ClockState) (h : List Step) → IsFinishIfAny clock.is f →
      Midst plan clock t (Some c) s h (actions_of (reg_ops (option_to_list f) ++ rest)) →
      (g : List Step) × Midst plan clock t (Some c) (joining f c s) g (actions_of rest) × Registered h g (option_to_list f)
  joins_any None rest s h is m = (h, m, record { forked = λ u. refl; row = λ q. refl })
  joins_any (Some f) rest s h is m =
      let member = (legal_next plan checked clock t (Some c) s h (Registers c f) (actions_of rest) m).3 in (
        step_of t (Registers c f) ∷ h,
        joins_finish s h f (actions_of rest) is m,
        record {
          forked = λ u. refl;
          row = λ q.
              row_more (state_after h).phases f ((state_after h).phases t f) member.0 member.1 q
              ∙ or_none (f == q) (is_some ((state_after h).phases c q));
        },
      )
    where
      or_none : (a b : Bool) → (a || b) ≡ ((a || false) || b)
      or_none true b = refl
      or_none false b = refl
