-- The serial avoided run is one: each step of a turn is determined, so is the turn, the round, and the end.
use Rattle.std.proofs.Common.{◌≡◌, ℕ, zero, suc, ◌<◌, ◌≤◌, Bool, true, false, Option, Some, None, List, [], ◌∷◌, ◌++◌, length, arith, sym, ◌∙◌, ap, subst, refl, ◌⊎◌, inl, inr}
use Rattle.std.specs.Prelude.{IsSome, MatchBool}
use Rattle.std.proofs.lemmas.Bool.{cases_eq, cases_lt, cases_order, false≢true}
use Rattle.armus_base.specs.declared.event.Event.{Event}
use Rattle.armus_base.specs.CheckedPlans.{IsCheckedPlan}
use Rattle.armus_base.specs.Deadlocks.{WouldBeDead}
use Rattle.armus_base.specs.calls.Places.{IsConsistent}
use Rattle.armus_base.specs.Places.{state_at}
use Rattle.armus_base.specs.Plans.{Action, Advances, Blocks, Drops, Forks, Makes, Passes, Plan, Refuses, Registers, action_at, in_code, Aim}
use Rattle.armus_base.specs.calls.RunLaws.{OneSerialEnd}
use Rattle.armus_base.specs.Runs.{HasEnded, IsByCode, IsDrop, IsLegalRun, IsNextStep, is_done, is_refused, is_waiting, places, state_after}
use Rattle.armus_base.specs.Serial.{GoesOn, IsDecided, IsSerialAvoidedEnd, IsSerialAvoidedRun, IsTurn, RoundBelow, opens, rounds}
use Rattle.armus_base.specs.States.{IsLegal, State, Step}
use Rattle.armus_base.proofs.Members.{only_passes}
use Rattle.armus_base.proofs.NextIsLegal.{unrefused_undropped}
use Rattle.armus_base.proofs.Stepping.{places_fix}

-- an action is that of the code, or a refusal
code_or_refusal : (x : Action) → (x ≡ in_code x) ⊎ ((aim : Aim) × x ≡ Refuses aim)
code_or_refusal (Refuses p) = inr (p, refl)
code_or_refusal x = inl refl

-- a task does not both block and refuse
not_both_ways : (s : State) (t : ℕ) (aim : Aim) → IsDecided s t (Blocks aim) → IsDecided s t (Refuses aim) → ⊥
not_both_ways s t aim blocks refuses =
    let same : blocks.0 ≡ refuses.0 = (let both : Some blocks.0 ≡ Some refuses.0 = sym blocks.1 ∙ refuses.1 in cc) in
    blocks.2 (subst (λ e. WouldBeDead s t e) (sym same) refuses.2)

one_by_code : (s : State) (t : ℕ) (x y : Action) → in_code x ≡ in_code y → IsDecided s t x → IsDecided s t y → x ≡ y
one_by_code s t x y same dx dy =
    elim (code_or_refusal x) [
      | inl ex ↦ elim (code_or_refusal y) [
        | inl ey ↦ ex ∙ same ∙ sym ey
        | inr ry ↦
            let blocks : x ≡ Blocks ry.0 = ex ∙ same ∙ ap in_code ry.1 in
            absurd (not_both_ways s t ry.0 (subst (λ v. IsDecided s t v) blocks dx) (subst (λ v. IsDecided s t v) ry.1 dy))
      ]
      | inr rx ↦ elim (code_or_refusal y) [
        | inl ey ↦
            let blocks : y ≡ Blocks rx.0 = ey ∙ sym same ∙ ap in_code rx.1 in
            absurd (not_both_ways s t rx.0 (subst (λ v. IsDecided s t v) blocks dy) (subst (λ v. IsDecided s t v) rx.1 dx))
        | inr ry ↦
            let blocks : Blocks rx.0 ≡ Blocks ry.0 = sym (ap in_code rx.1) ∙ same ∙ ap in_code ry.1 in
            let aims : rx.0 ≡ ry.0 = cc in
            rx.1 ∙ ap Refuses aims ∙ sym ry.1
      ]
    ]

-- a refused task drops its least phaser
one_drop :
    (plan : Plan) (s : State) (t : ℕ) (x y : Action) → IsSome (s.refused t) → IsDrop x → IsDrop y → IsLegal plan s t x → IsLegal plan s t y → x ≡ y
one_drop plan s t (Drops p) (Drops q) refused dx dy lx ly =
    elim (cases_order p q) [
      | inl same ↦ ap Drops same
      | inr apart ↦ elim apart [
        | inl less ↦ absurd (let none = ly.3 refused p less in let some = lx.2.1 in cc)
        | inr more ↦ absurd (let none = lx.3 refused q more in let some = ly.2.1 in cc)
      ]
    ]
one_drop plan s t (Drops p) y refused dx dy lx ly = absurd dy
one_drop plan s t x y refused dx dy lx ly = absurd dx

abbrev step_of : ℕ → Action → Step
step_of t x = record { task = t; action = x }

module _ (plan : Plan) (checked : IsCheckedPlan plan) where
  -- where a task stands refused, the state has it so
  dropped_refused : (h : List Step) → IsLegalRun plan h → (t d : ℕ) → (places h t).dropped ≡ Some d → IsSome ((state_after h).refused t)
  dropped_refused h run t d is = go ((state_after h).refused t) refl
    where
      fixed : (state_after h ≡ state_at plan (places h)) × IsConsistent plan (places h)
      fixed = places_fix plan checked h run

      go : (o : Option Event) → (state_after h).refused t ≡ o → IsSome o
      go (Some e) same = refl
      go None same =
          absurd (let none = unrefused_undropped plan checked (places h) fixed.1 t (sym (ap (λ s. s.refused t) fixed.0) ∙ same) in cc)

  -- after a legal run a task makes one next step
  one_step :
      (h : List Step) → IsLegalRun plan h → (t : ℕ) (x y : Action) → (o : Option ℕ) → (places h t).dropped ≡ o → IsByCode plan t (places h t).done o x →
      IsByCode plan t (places h t).done o y → IsLegal plan (state_after h) t x → IsLegal plan (state_after h) t y → IsDecided (state_after h) t x →
      IsDecided (state_after h) t y → x ≡ y
  one_step h run t x y None is bx by lx ly dx dy =
      one_by_code (state_after h) t x y (let both : Some (in_code x) ≡ Some (in_code y) = sym bx ∙ by in cc) dx dy
  one_step h run t x y (Some d) is bx by lx ly dx dy =
      one_drop plan (state_after h) t x y (dropped_refused h run t d is) bx by lx ly

  -- after its end a task makes no step
  refused_stops :
      (s : State) (t : ℕ) (x : Action) → IsSome (s.refused t) → ((p : ℕ) → s.phases t p ≡ None) → IsLegal plan s t x → ⊥
  refused_stops s t (Makes q) some left legal = false≢true (subst IsSome legal.0.unrefused some)
  refused_stops s t (Registers c q) some left legal = false≢true (subst IsSome legal.0.unrefused some)
  refused_stops s t (Forks c) some left legal = false≢true (subst IsSome legal.0.unrefused some)
  refused_stops s t (Advances q) some left legal = false≢true (subst IsSome legal.0.unrefused some)
  refused_stops s t (Drops q) some left legal = absurd (let none = left q in let member = legal.2.1 in cc)
  refused_stops s t (Blocks q) some left legal = false≢true (subst IsSome legal.0.unrefused some)
  refused_stops s t (Passes q) some left legal = false≢true (subst IsSome legal.4 some)
  refused_stops s t (Refuses q) some left legal = false≢true (subst IsSome legal.0.unrefused some)

  done_stops :
      (h : List Step) → IsLegalRun plan h → (t : ℕ) → action_at plan t (places h t).done ≡ None → (x : Action) → (o : Option ℕ) →
      (places h t).dropped ≡ o → IsByCode plan t (places h t).done o x → ⊥
  done_stops h run t none x None is code = absurd (cc)
  done_stops h run t none x (Some d) is code =
      absurd (let stands = ((places_fix plan checked h run).1.refused t d is).1.1 in cc)

  ended_stops :
      (h : List Step) → IsLegalRun plan h → (t : ℕ) → HasEnded plan (state_after h) (places h t) t → (x : Action) →
      IsLegal plan (state_after h) t x → IsByCode plan t (places h t).done (places h t).dropped x → ⊥
  ended_stops h run t (is_done none) x legal code = done_stops h run t none x (places h t).dropped refl code
  ended_stops h run t (is_waiting e published unreached) x legal code =
      unreached (only_passes plan (state_after h) t x e legal published).1
  ended_stops h run t (is_refused some left) x legal code = refused_stops (state_after h) t x some left legal

  -- a next step, as one of task t
  own_legal : (h : List Step) (e : Step) (t : ℕ) → e.task ≡ t → IsNextStep plan h e → IsLegal plan (state_after h) t e.action
  own_legal h e t is next = subst (λ v. IsLegal plan (state_after h) v e.action) is next.legal

  own_code :
      (h : List Step) (e : Step) (t : ℕ) → e.task ≡ t → IsNextStep plan h e → IsByCode plan t (places h t).done (places h t).dropped e.action
  own_code h e t is next = subst (λ v. IsByCode plan v (places h v).done (places h v).dropped e.action) is next.by_code

  -- so turns of one length are one
  same_length :
      (t : ℕ) (h own more : List Step) → length own ≡ length more → IsLegalRun plan (own ++ h) → IsLegalRun plan (more ++ h) →
      GoesOn plan t h own → GoesOn plan t h more → own ≡ more
  same_length t h [] [] e run_a run_b goes_a goes_b = refl
  same_length t h [] (b ∷ more) e run_a run_b goes_a goes_b = absurd (omega arith)
  same_length t h (a ∷ own) [] e run_a run_b goes_a goes_b = absurd (omega arith)
  same_length t h (a ∷ own) (b ∷ more) e run_a run_b goes_a goes_b =
      let rest : own ≡ more = same_length t h own more (omega arith) run_a.0 run_b.0 goes_a.0 goes_b.0 in
      let next : IsNextStep plan (own ++ h) b = subst (λ v. IsNextStep plan (v ++ h) b) (sym rest) run_b.1 in
      let decided : IsDecided (state_after (own ++ h)) t b.action =
      subst (λ v. IsDecided (state_after (v ++ h)) t b.action) (sym rest) goes_b.2 in
      let action : a.action ≡ b.action =
      one_step (own ++ h) run_a.0 t a.action b.action (places (own ++ h) t).dropped refl (own_code (own ++ h) a t goes_a.1 run_a.1)
      (own_code (own ++ h) b t goes_b.1 next) (own_legal (own ++ h) a t goes_a.1 run_a.1) (own_legal (own ++ h) b t goes_b.1 next) goes_a.2
      decided in
      let step : a ≡ b = ap (λ v. step_of v a.action) (goes_a.1 ∙ sym goes_b.1) ∙ ap (λ v. step_of b.task v) action in
      ap (λ v. v ∷ own) step ∙ ap (λ v. b ∷ v) rest

  -- a longer list has a step right after as many as the shorter one has
  split_at : (xs : List Step) (n : ℕ) → n < length xs → (a : List Step) × (f : Step) × (b : List Step) × (xs ≡ a ++ f ∷ b) × (length b ≡ n)
  split_at [] n l = absurd (omega arith)
  split_at (x ∷ xs) n l =
      elim (cases_eq n (length xs)) [
        | inl same ↦ ([], x, xs, refl, sym same)
        | inr other ↦ let r = split_at xs n (omega arith) in (x ∷ r.0, r.1, r.2, ap (λ v. x ∷ v) r.3, r.4)
      ]

  legal_part : (a g h : List Step) → IsLegalRun plan ((a ++ g) ++ h) → IsLegalRun plan (g ++ h)
  legal_part [] g h run = run
  legal_part (x ∷ a) g h run = legal_part a g h run.0

  goes_part : (t : ℕ) (a g h : List Step) → GoesOn plan t h (a ++ g) → GoesOn plan t h g
  goes_part t [] g h goes = goes
  goes_part t (x ∷ a) g h goes = goes_part t a g h goes.0

  -- no turn goes on after the end of another
  not_longer : (t : ℕ) (h g k : List Step) → (first : IsTurn plan t h g) → (second : IsTurn plan t h k) → length first.own < length second.own → ⊥
  not_longer t h g k first second longer =
      let r = split_at second.own (length first.own) longer in
      let whole : IsLegalRun plan ((r.0 ++ r.1 ∷ r.2) ++ h) = subst (λ v. IsLegalRun plan (v ++ h)) r.3 (subst (λ v. IsLegalRun plan v) second.there second.run) in
      let goes : GoesOn plan t h (r.0 ++ r.1 ∷ r.2) = subst (λ v. GoesOn plan t h v) r.3 second.goes_on in
      let run : IsLegalRun plan (r.1 ∷ r.2 ++ h) = legal_part r.0 (r.1 ∷ r.2) h whole in
      let part : GoesOn plan t h (r.1 ∷ r.2) = goes_part t r.0 (r.1 ∷ r.2) h goes in
      let run_g : IsLegalRun plan (first.own ++ h) = subst (λ v. IsLegalRun plan v) first.there first.run in
      let same : r.2 ≡ first.own = same_length t h r.2 first.own r.4 run.0 run_g part.0 first.goes_on in
      let here : IsNextStep plan (first.own ++ h) r.1 = subst (λ v. IsNextStep plan (v ++ h) r.1) same run.1 in
      let ended : HasEnded plan (state_after (first.own ++ h)) (places (first.own ++ h) t) t =
      subst (λ v. HasEnded plan (state_after v) (places v t) t) first.there first.ended in
      ended_stops (first.own ++ h) run_g t ended r.1.action (own_legal (first.own ++ h) r.1 t part.1 here) (own_code (first.own ++ h) r.1 t part.1 here)

  one_turn : (t : ℕ) (h g k : List Step) → IsTurn plan t h g → IsTurn plan t h k → g ≡ k
  one_turn t h g k first second =
      elim (cases_order (length first.own) (length second.own)) [
        | inl same ↦
            first.there
            ∙ ap (λ v. v ++ h)
            (same_length t h first.own second.own same (subst (λ v. IsLegalRun plan v) first.there first.run)
            (subst (λ v. IsLegalRun plan v) second.there second.run) first.goes_on second.goes_on)
            ∙ sym second.there
        | inr apart ↦ elim apart [
          | inl longer ↦ absurd (not_longer t h g k first second longer)
          | inr longer ↦ absurd (not_longer t h k g second first longer)
        ]
      ]

  one_part : (t : ℕ) (b : Bool) (h g k : List Step) → MatchBool b (IsTurn plan t h g) (g ≡ h) → MatchBool b (IsTurn plan t h k) (k ≡ h) → g ≡ k
  one_part t true h g k first second = one_turn t h g k first second
  one_part t false h g k first second = first ∙ sym second

  one_round : (k : ℕ) (h f g : List Step) → RoundBelow plan k h f → RoundBelow plan k h g → f ≡ g
  one_round zero h f g first second = first ∙ sym second
  one_round (suc k) h f g first second =
      let before : first.0 ≡ second.0 = one_round k h first.0 second.0 first.1 second.1 in
      one_part k ((state_after h).forked k) second.0 f g
      (subst (λ v. MatchBool ((state_after h).forked k) (IsTurn plan k v f) (f ≡ v)) before first.2) second.2

  -- this many rounds lead to the run
  abbrev After : ℕ → List Step → Type 0
  After zero h = h ≡ []
  After (suc n) h = (g : List Step) × After n g × RoundBelow plan (length plan.parents) g h

  after_one : (n : ℕ) (h g : List Step) → After n h → After n g → h ≡ g
  after_one zero h g first second = first ∙ sym second
  after_one (suc n) h g first second =
      let before : first.0 ≡ second.0 = after_one n first.0 second.0 first.1 second.1 in
      one_round (length plan.parents) second.0 h g (subst (λ v. RoundBelow plan (length plan.parents) v h) before first.2) second.2

  -- each serial run comes after some number of rounds
  counted : {h : List Step} → IsSerialAvoidedRun plan h → (n : ℕ) × After n h
  counted opens = (0, refl)
  counted (rounds {h} {g} before round) = let r = counted before in (suc r.0, (h, r.1, round))

  -- and one that has ended comes after any greater number too
  still : (h : List Step) → RoundBelow plan (length plan.parents) h h → (n m : ℕ) → n ≤ m → After n h → After m h
  still h ended n zero l after = subst (λ v. After v h) (let e : n ≡ 0 = omega arith in e) after
  still h ended n (suc m) l after =
      elim (cases_eq n (suc m)) [
        | inl same ↦ subst (λ v. After v h) same after
        | inr other ↦ (h, still h ended n m (omega arith) after, ended)
      ]

  one_end_of : (h g : List Step) → IsSerialAvoidedEnd plan h → IsSerialAvoidedEnd plan g → h ≡ g
  one_end_of h g first second =
      let a = counted first.0 in
      let b = counted second.0 in
      elim (cases_lt a.0 b.0) [
        | inl less ↦ after_one b.0 h g (still h first.1 a.0 b.0 (omega arith) a.1) b.1
        | inr more ↦ after_one a.0 h g a.1 (still g second.1 b.0 a.0 (omega arith) b.1)
      ]

pub one_serial_end : OneSerialEnd
one_serial_end plan h g checked first second = one_end_of plan checked h g first second
