-- In no state of a run anybody waits at a phaser that no op awaits.
use Rattle.std.proofs.Common.{◌≡◌, ◌∙◌, ◌<◌, ◌||◌, ◌==◌, ℕ, suc, zero, Bool, true, false, List, [], ◌∷◌, Some, eq-eqb, length, refl, slice_get, subst, sym}
use Rattle.armus_base.specs.declared.op.Op.{Op}
use Rattle.armus_base.specs.declared.op.Op.TheVariants.{Make, Reg, Fork, Adv, Drop, Await}
use Rattle.armus_base.specs.Places.{state_at}
use Rattle.armus_base.specs.Plans.{Aim, Blocks, action_at, actions, actions_of, code_of}
use Rattle.armus_base.specs.Runs.{places, state_after}
use Rattle.armus_base.specs.States.{State}
use Rattle.armus_base.proofs.DeadByStatuses.{run_is_of_plan}
use Rattle.armus_base.proofs.Fixed.{some_before_from}
use Rattle.armus_base.proofs.Published.{published_after_is}
use Rattle.armus_base.proofs.Stepping.{places_fix}
use Rattle.explain_deadlock.specs.Laws.{NobodyWaitsThere}
use Rattle.explain_facts.specs.PhaserUses.{is_used_so, some_op}
use Rattle.explain_facts.specs.declared.uses.PhaserUse.TheVariants.{Awaits}

or_right : (a b : Bool) → b ≡ true → (a || b) ≡ true
or_right true b e = refl
or_right false b e = e

or_left : (a b : Bool) → a ≡ true → (a || b) ≡ true
or_left true b e = refl
or_left false b e = absurd (cc)

-- an action of a code that blocks at a phaser is of an op that awaits it
awaits_there : (ops : List Op) (j : ℕ) (aim : Aim) → slice_get (actions_of ops) j ≡ Some (Blocks aim) → some_op Awaits ops aim.phaser ≡ true
awaits_there [] j aim e = absurd (cc)
awaits_there (Make p ∷ ops) zero aim e = absurd (cc)
awaits_there (Make p ∷ ops) (suc j) aim e = awaits_there ops j aim e
awaits_there (Reg c p ∷ ops) zero aim e = absurd (cc)
awaits_there (Reg c p ∷ ops) (suc j) aim e = awaits_there ops j aim e
awaits_there (Fork c ∷ ops) zero aim e = absurd (cc)
awaits_there (Fork c ∷ ops) (suc j) aim e = awaits_there ops j aim e
awaits_there (Adv p ∷ ops) zero aim e = absurd (cc)
awaits_there (Adv p ∷ ops) (suc j) aim e = awaits_there ops j aim e
awaits_there (Drop p ∷ ops) zero aim e = absurd (cc)
awaits_there (Drop p ∷ ops) (suc j) aim e = awaits_there ops j aim e
awaits_there (Await p off ∷ ops) zero aim e =
    or_left (p.0 == aim.phaser) (some_op Awaits ops aim.phaser) (eq-eqb p.0 aim.phaser (let same : p.0 ≡ aim.phaser = cc in same))
awaits_there (Await p off ∷ ops) (suc zero) aim e = absurd (cc)
awaits_there (Await p off ∷ ops) (suc (suc j)) aim e = or_right (p.0 == aim.phaser) (some_op Awaits ops aim.phaser) (awaits_there ops j aim e)

pub nobody_waits_there : NobodyWaitsThere
unfolding actions action_at
nobody_waits_there plan steps q t e checked run unused published there =
    let fixed : state_after steps ≡ state_at plan (places steps) = (places_fix plan checked steps run.0).0 in
    let here : (state_at plan (places steps)).published t ≡ Some e = subst (λ (s : State). s.published t ≡ Some e) fixed published in
    let below : t < length plan.parents = (run_is_of_plan plan steps checked run.0).published t e published in
    let (j, ends, aim, phaser, action) = published_after_is plan t (places steps t).done e here in
    let some : some_op Awaits (code_of plan t) aim.phaser ≡ true = awaits_there (code_of plan t) j aim action in
    let own : some_op Awaits (code_of plan t) q ≡ true = subst (λ p. some_op Awaits (code_of plan t) p ≡ true) (sym phaser ∙ there) some in
    let used : is_used_so Awaits plan q ≡ true = some_before_from (λ u. some_op Awaits (code_of plan u) q) (length plan.parents) t below own in
    let both : true ≡ false = sym used ∙ unused in absurd (cc)
