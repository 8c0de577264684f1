-- Steps that publish nothing make nobody dead, and a decision makes nobody dead.
use Rattle.std.proofs.Common.{◌≡◌, ◌≢◌, ℕ, List, [], ◌∷◌, ◌++◌, Some, sym, ◌∙◌, ap, subst, refl}
use Rattle.armus_base.specs.declared.event.Event.{Event}
use Rattle.armus_base.specs.CheckedPlans.{IsCheckedPlan}
use Rattle.armus_base.specs.Deadlocks.{IsDeadIn, NobodyDead, WouldBeDead}
use Rattle.armus_base.specs.Places.{state_at}
use Rattle.armus_base.specs.Plans.{Aim, Action, Blocks, Plan, Refuses}
use Rattle.armus_base.specs.Runs.{IsReachable, Place}
use Rattle.armus_base.specs.States.{IsLegal, Step, after}
use Rattle.armus_base.proofs.OnlyBlocksKill.{only_blocks_kill}
use Rattle.armus_base.proofs.Reachable.{reachable_is_fixed, reachable_steps}
use Rattle.armus_base.proofs.SerialIsAvoided.{block_leaves_nobody_dead}
use Rattle.pl_core.specs.calls.Moves.{LeadsOn, MakesRefusal, IsWorldStep, drops_from}
use Rattle.pl_core.specs.declared.stand.Stand.{Stand}
use Rattle.pl_core.specs.declared.stand.Stand.TheVariants.{Unforked, Done, Refused, Ready, Await, Waits}
use Rattle.pl_core.specs.calls.Stands.{IsAtAwaitOf, StandsSo}
use Rattle.pl_core.specs.calls.Worlds.{IsOpeningWorld, WorldValue, action_by_code, places_of, state_of}
use Rattle.pl_core.proofs.Refusing.{leads_reachable}
use Rattle.avoider.proofs.Supposing.{blocks_next}

-- none of these steps is a block
abbrev pub PublishNothing : List Step → Type 0
PublishNothing [] = Unit {0}
PublishNothing (e ∷ h) = PublishNothing h × ((aim : Aim) → e.action ≢ Blocks aim)

module _ (plan : Plan) (checked : IsCheckedPlan plan) where
  pub nobody_dies :
      (a : ℕ → Place) (h : List Step) (b : ℕ → Place) → IsReachable plan a → LeadsOn plan a h b → PublishNothing h →
      NobodyDead (state_at plan a) → NobodyDead (state_at plan b)
  nobody_dies a [] b reach leads nothing nobody = subst (λ c. NobodyDead (state_at plan c)) leads nobody
  nobody_dies a (e ∷ h) b reach leads nothing nobody =
      λ u dead.
      let c = leads.0 in
      let there = leads_reachable plan checked a h c reach leads.1 in
      let before = nobody_dies a h c reach leads.1 nothing.0 nobody in
      let fixed = (reachable_is_fixed plan c checked there).0 in
      let step = (reachable_steps plan c e.task e.action checked there leads.2 leads.3).1 in
      let here : IsDeadIn (after (state_at plan c) e.task e.action) u =
      subst (λ s. IsDeadIn s u) (sym step) (subst (λ d. IsDeadIn (state_at plan d) u) (sym leads.4) dead) in
      before u
      (subst (λ s. IsDeadIn s u) fixed
      (only_blocks_kill plan there.steps e.task e.action u checked there.run (subst (λ s. IsLegal plan s e.task e.action) (sym fixed) leads.3) nothing.1
      (subst (λ s. IsDeadIn (after s e.task e.action) u) (sym fixed) here)))

drops_publish_nothing : (t : ℕ) (aim : Aim) (drops : List ℕ) → PublishNothing (drops_from t drops ++ record { task = t; action = Refuses aim } ∷ [])
drops_publish_nothing t aim [] = (tt, λ q e. absurd (cc))
drops_publish_nothing t aim (d ∷ drops) = (drops_publish_nothing t aim drops, λ q e. absurd (cc))

module _ (old new : WorldValue) (checked : IsCheckedPlan old.plan) (reach : IsReachable old.plan (places_of old)) (t : ℕ) (nobody : NobodyDead (state_of old)) where
  -- a step that is no block
  pub step_kills_nobody : (s : IsWorldStep old new t) → ((aim : Aim) → s.action ≢ Blocks aim) → NobodyDead (state_of new)
  unfolding state_of
  step_kills_nobody s other =
      subst (λ plan. NobodyDead (state_at plan (places_of new))) (sym s.plan)
      (nobody_dies old.plan checked (places_of old) (record { task = t; action = s.action } ∷ []) (places_of new) reach s.run (tt, other) nobody)

  pub refusal_kills_nobody : MakesRefusal old new t → NobodyDead (state_of new)
  unfolding state_of
  refusal_kills_nobody r =
      subst (λ plan. NobodyDead (state_at plan (places_of new))) (sym r.plan)
      (nobody_dies old.plan checked (places_of old) (drops_from t r.drops ++ record { task = t; action = Refuses r.aim } ∷ []) (places_of new) reach r.run
      (drops_publish_nothing t r.aim r.drops) nobody)

  -- a block where the task would not be dead
  pub block_kills_nobody : (e : Event) → IsAtAwaitOf old t e → (WouldBeDead (state_of old) t e → ⊥) → IsWorldStep old new t → NobodyDead (state_of new)
  block_kills_nobody e before alive s =
      let block = blocks_next old t e before in
      let is : s.action ≡ Blocks block.0 = (let both : Some s.action ≡ Some (Blocks block.0) = sym s.next ∙ block.1 in cc) in
      subst NobodyDead (sym (s.state ∙ ap (after (state_of old) t) is))
      (block_leaves_nobody_dead (state_of old) t block.0 e nobody block.2 alive)

-- only who stands at an await blocks
pub no_block_else :
    (w : WorldValue) (t : ℕ) (stand : Stand) → StandsSo w t stand → ((e : Event) → stand ≡ Await e → ⊥) →
    (x : Action) → action_by_code w t ≡ Some x → IsLegal w.plan (state_of w) t x → (aim : Aim) → x ≢ Blocks aim
no_block_else w t stand so other x next legal aim is = by_stand stand so other (subst (λ y. IsLegal w.plan (state_of w) t y) is legal)
  where
    by_stand : (stand : Stand) → StandsSo w t stand → ((e : Event) → stand ≡ Await e → ⊥) → IsLegal w.plan (state_of w) t (Blocks aim) → ⊥
    by_stand Unforked so other legal = absurd (let f = legal.0.forked in cc)
    by_stand Done so other legal = absurd (let none = so.1 in cc)
    by_stand (Refused e) so other legal = absurd (let none = legal.0.unrefused in cc)
    by_stand Ready so other legal = so.3 aim (let both : Some so.1 ≡ Some (Blocks aim) = sym so.2 ∙ next ∙ ap Some is in cc)
    by_stand (Await e) so other legal = other e refl
    by_stand (Waits e) so other legal = absurd (let none = legal.0.unpublished in cc)

-- nobody is dead at first
pub opening_alive : (plan : Plan) (w : WorldValue) → IsOpeningWorld plan w → NobodyDead (state_of w)
opening_alive plan w opens u dead =
    let held = (subst (λ s. IsDeadIn s u) opens.state dead).deadlocked.each u dead.inside in
    let waits = held.waits in absurd (cc)
