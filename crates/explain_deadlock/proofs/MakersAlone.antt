-- In each state of a run its maker alone is a member of a phaser on which no op registers a task.
use Rattle.std.proofs.Common.{◌≡◌, ◌∙◌, ◌<◌, ◌||◌, ◌==◌, ℕ, zero, suc, Bool, true, false, List, [], ◌∷◌, Option, Some, None, arith, eq-eqb, inl, inr, length, refl, slice_get, subst, sym}
use Rattle.std.specs.Prelude.{unwrap_or}
use Rattle.std.proofs.lemmas.Option.{slice_get_within}
use Rattle.armus_base.specs.CheckedPlans.{IsCheckedPlan}
use Rattle.armus_base.specs.declared.op.Op.{Op}
use Rattle.armus_base.specs.declared.op.Op.TheVariants.{Make, Reg, Fork, Adv, Drop, Await}
use Rattle.armus_base.specs.Plans.{Action, Advances, Blocks, Drops, Forks, IsMakerOf, Makes, Passes, Plan, Refuses, Registers, action_at, actions, actions_of, code_of}
use Rattle.armus_base.specs.Runs.{IsByCode, IsLegalRun, places, state_after}
use Rattle.armus_base.specs.States.{IsLegal, IsMember, State, Step, after, next_phase}
use Rattle.armus_base.proofs.Fixed.{some_before_from}
use Rattle.armus_base.proofs.Steps.{next_phase_is, with_phase_is}
use Rattle.explain_facts.specs.PhaserUses.{is_used_so, some_op}
use Rattle.explain_facts.specs.declared.uses.PhaserUse.TheVariants.{Registers as ToRegister}
use Rattle.explain_deadlock.specs.Laws.{OnlyMakersAreMembers}

or_right : (a b : Bool) → b ≡ true → (a || b) ≡ true
or_right true b e = refl
or_right false b e = e

or_left : (a b : Bool) → a ≡ true → (a || b) ≡ true
or_left true b e = refl
or_left false b e = absurd (cc)

-- an action of a code that registers a task on a phaser is of an op that does
registers_there : (ops : List Op) (j c q : ℕ) → slice_get (actions_of ops) j ≡ Some (Registers c q) → some_op ToRegister ops q ≡ true
registers_there [] j c q e = absurd (cc)
registers_there (Make p ∷ ops) zero c q e = absurd (cc)
registers_there (Make p ∷ ops) (suc j) c q e = registers_there ops j c q e
registers_there (Reg d p ∷ ops) zero c q e = or_left (p.0 == q) (some_op ToRegister ops q) (eq-eqb p.0 q (let same : p.0 ≡ q = cc in same))
registers_there (Reg d p ∷ ops) (suc j) c q e = or_right (p.0 == q) (some_op ToRegister ops q) (registers_there ops j c q e)
registers_there (Fork d ∷ ops) zero c q e = absurd (cc)
registers_there (Fork d ∷ ops) (suc j) c q e = registers_there ops j c q e
registers_there (Adv p ∷ ops) zero c q e = absurd (cc)
registers_there (Adv p ∷ ops) (suc j) c q e = registers_there ops j c q e
registers_there (Drop p ∷ ops) zero c q e = absurd (cc)
registers_there (Drop p ∷ ops) (suc j) c q e = registers_there ops j c q e
registers_there (Await p off ∷ ops) zero c q e = absurd (cc)
registers_there (Await p off ∷ ops) (suc zero) c q e = absurd (cc)
registers_there (Await p off ∷ ops) (suc (suc j)) c q e = registers_there ops j c q e

-- only tasks of the plan have ops
has_code : (plan : Plan) (t j : ℕ) (x : Action) (o : Option (List Op)) → slice_get plan.codes t ≡ o → slice_get (actions_of (unwrap_or o [])) j ≡ Some x →
    t < length plan.codes
has_code plan t j x None none is = absurd (cc)
has_code plan t j x (Some ops) some is = slice_get_within plan.codes t ops some

module _ (plan : Plan) (checked : IsCheckedPlan plan) (q : ℕ) (unused : is_used_so ToRegister plan q ≡ false) where
  nobody_registers : (u k c : ℕ) → action_at plan u k ≡ Some (Registers c q) → ⊥
  unfolding action_at actions
  nobody_registers u k c is =
      let inside = has_code plan u k (Registers c q) (slice_get plan.codes u) refl is in
      let below : u < length plan.parents = omega (arith, inside, checked.tables.one_code_each) in
      let used : is_used_so ToRegister plan q ≡ true =
      some_before_from (λ t. some_op ToRegister (code_of plan t) q) (length plan.parents) u below (registers_there (code_of plan u) k c q is) in
      let both : true ≡ false = sym used ∙ unused in absurd (cc)

  -- a step keeps it so
  kept_alone : (s : State) (u k : ℕ) (d : Option ℕ) (x : Action) → IsLegal plan s u x → IsByCode plan u k d x →
      ((t : ℕ) → IsMember s t q → IsMakerOf plan t q) → (t n : ℕ) → (after s u x).phases t q ≡ Some n → IsMakerOf plan t q
  kept_alone s u k d (Makes p) legal by before t n is =
      elim (with_phase_is s.phases u p (Some 0) t q (Some n) is) [
        | inl w ↦ subst (λ v. IsMakerOf plan v q) (sym w.0) (subst (λ v. IsMakerOf plan u v) (sym w.1) legal.1)
        | inr w ↦ before t (n, w.1)
      ]
  kept_alone s u k None (Registers c p) legal by before t n is =
      elim (with_phase_is s.phases c p (s.phases u p) t q (Some n) is) [
        | inl w ↦ absurd (nobody_registers u k c (subst (λ v. action_at plan u k ≡ Some (Registers c v)) (sym w.1) by))
        | inr w ↦ before t (n, w.1)
      ]
  kept_alone s u k (Some r) (Registers c p) legal by before t n is = absurd by
  kept_alone s u k d (Forks c) legal by before t n is = before t (n, is)
  kept_alone s u k d (Advances p) legal by before t n is =
      elim (with_phase_is s.phases u p (next_phase (s.phases u p)) t q (Some n) is) [
        | inl w ↦
            let (m, there, more) = next_phase_is (s.phases u p) n w.2 in
            before t (m, subst (λ v. s.phases v q ≡ Some m) (sym w.0) (subst (λ v. s.phases u v ≡ Some m) (sym w.1) there))
        | inr w ↦ before t (n, w.1)
      ]
  kept_alone s u k d (Drops p) legal by before t n is =
      elim (with_phase_is s.phases u p None t q (Some n) is) [ inl w ↦ absurd (cc) | inr w ↦ before t (n, w.1) ]
  kept_alone s u k d (Blocks aim) legal by before t n is = before t (n, is)
  kept_alone s u k d (Passes p) legal by before t n is = before t (n, is)
  kept_alone s u k d (Refuses aim) legal by before t n is = before t (n, is)

  alone_after : (steps : List Step) → IsLegalRun plan steps → (t : ℕ) → IsMember (state_after steps) t q → IsMakerOf plan t q
  alone_after [] run t member = absurd (let none = member.1 in cc)
  alone_after (e ∷ h) run t member =
      kept_alone (state_after h) e.task (places h e.task).done (places h e.task).dropped e.action run.1.legal run.1.by_code
      (λ u m. alone_after h run.0 u m) t member.0 member.1

pub only_makers_are_members : OnlyMakersAreMembers
only_makers_are_members plan steps q t checked run unused member = alone_after plan checked q unused steps run t member
