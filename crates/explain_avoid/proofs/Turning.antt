-- The turns of a round.
use Rattle.std.proofs.Common.{◌≡◌, ◌∙◌, ℕ, zero, suc, ◌+◌, ◌-◌, ◌<◌, ◌≤◌, Bool, true, false, List, [], ◌++◌, Option, add-one, append_assoc, ap, arith, refl, subst, sym}
use Rattle.std.specs.Prelude.{MatchBool}
use Rattle.std.proofs.lemmas.Bool.{false≢true}
use Rattle.armus_base.specs.CheckedPlans.{IsCheckedPlan}
use Rattle.armus_base.specs.Plans.{Plan}
use Rattle.armus_base.specs.Runs.{HasEnded, IsLegalRun, Place, places, state_after}
use Rattle.armus_base.specs.Serial.{GoesOn, IsTurn}
use Rattle.armus_base.specs.States.{State, Step}
use Rattle.armus_base.proofs.Stepping.{acting_forked}
use Rattle.pl_core.specs.calls.Stands.{IsEnabled}
use Rattle.pl_core.specs.calls.Worlds.{WorldValue, places_of, state_of}
use Rattle.pl_syntax.specs.declared.tree.Program.{Program}
use Rattle.explain_facts.specs.Accounts.{Layout}
use Rattle.world_runs.proofs.AvoidedEnds.{ended_here, reached_by}
use Rattle.world_runs.proofs.AvoidedSteps.{leads_state, goes_append}
use Rattle.world_runs.proofs.ForkedTasks.{forked_in_round, forked_later}
use Rattle.explain_avoid.specs.declared.avoiding.Avoiding.{Avoiding}
use Rattle.explain_avoid.specs.inside.SoFar.{RoundsGoTo, HasTurn, AreRefusalsSoFar, RoundTo}

module _ (file : Option (List ℕ)) (l : Layout) (p : Program) where
  -- no step yet
  pub goes_none : (t : ℕ) (a : Avoiding) → RoundsGoTo file l p t a a false
  goes_none t a h so_far = ([], so_far, tt, λ still. refl)

  -- and more
  pub goes_more :
      (t : ℕ) (old mid new : Avoiding) (moved : Bool) → mid.world.plan ≡ old.world.plan → RoundsGoTo file l p t old mid moved → RoundsGoTo file l p t mid new true →
      RoundsGoTo file l p t old new true
  goes_more t old mid new moved plan before more h so_far =
      let first = before h so_far in
      let later = more (first.0 ++ h) first.1 in (
        later.0 ++ first.0,
        subst (λ (g : List Step). AreRefusalsSoFar file l p g new) (sym (append_assoc later.0 first.0 h)) later.1,
        goes_append old.world.plan t h first.0 later.0 first.2 (subst (λ (q : Plan). GoesOn q t (first.0 ++ h) later.0) plan later.2),
        λ still. absurd (false≢true (sym still)),
      )

  -- no task has had its turn yet
  pub round_begun : (a : Avoiding) → RoundTo file l p 0 a a false
  round_begun a h so_far = (h, so_far, refl, λ still. refl)

  module _ (first mid new : Avoiding) (k : ℕ) (has before acted both : Bool) (checked : IsCheckedPlan first.world.plan)
      (plan : mid.world.plan ≡ first.world.plan) (same : new.world.plan ≡ mid.world.plan) (forked : (state_of first.world).forked k ≡ has)
      (round : RoundTo file l p k first mid before) (none : both ≡ false → (before ≡ false) × (acted ≡ false)) where
    -- the turn of one task more
    turn_more : RoundsGoTo file l p k mid new acted → (IsEnabled new.world k → ⊥) → has ≡ true → RoundTo file l p (suc k) first new both
    turn_more goes stuck on h so_far =
        let early = round h so_far in
        let g = early.0 in
        let late = goes g early.1 in
        let own = late.0 in
        let to_first : new.world.plan ≡ first.world.plan = same ∙ plan in
        let was : (state_after h).forked k ≡ true =
        ap (λ (s : State). s.forked k) (leads_state first.world.plan checked h first.world so_far.leads) ∙ forked ∙ on in
        let still : (state_after (own ++ g)).forked k ≡ true = forked_later own g k (forked_in_round first.world.plan k h g early.2 k was) in
        let checked_new : IsCheckedPlan new.world.plan = subst IsCheckedPlan (sym to_first) checked in
        let reach = reached_by new.world.plan (own ++ g) new.world late.1.leads in
        let state = leads_state new.world.plan checked_new (own ++ g) new.world late.1.leads in
        let here = ended_here new.world checked_new reach k (ap (λ (s : State). s.forked k) (sym state) ∙ still) stuck in
        let by_state : HasEnded new.world.plan (state_after (own ++ g)) (places_of new.world k) k =
        subst (λ (s : State). HasEnded new.world.plan s (places_of new.world k) k) (sym state) here in
        let by_place : HasEnded new.world.plan (state_after (own ++ g)) (places (own ++ g) k) k =
        subst (λ (a : ℕ → Place). HasEnded new.world.plan (state_after (own ++ g)) (a k) k) (sym late.1.leads.there) by_state in
        let turn : IsTurn first.world.plan k g (own ++ g) = record {
          own = own;
          there = refl;
          run = subst (λ (q : Plan). IsLegalRun q (own ++ g)) to_first late.1.leads.run;
          goes_on = subst (λ (q : Plan). GoesOn q k g own) plan late.2;
          ended = subst (λ (q : Plan). HasEnded q (state_after (own ++ g)) (places (own ++ g) k) k) to_first by_place;
        } in
        let flag : true ≡ (state_after h).forked k = sym was in (
          own ++ g,
          late.1,
          (g, early.2, subst (λ b. MatchBool b (IsTurn first.world.plan k g (own ++ g)) (own ++ g ≡ g)) flag turn),
          λ still. ap (λ (more : List Step). more ++ g) (late.3 (none still).1) ∙ early.3 (none still).0,
        )

    -- or none
    turn_none : new ≡ mid → has ≡ false → RoundTo file l p (suc k) first new both
    turn_none is off h so_far =
        let early = round h so_far in
        let g = early.0 in
        let flag : false ≡ (state_after h).forked k =
        sym (ap (λ (s : State). s.forked k) (leads_state first.world.plan checked h first.world so_far.leads) ∙ forked ∙ off) in (
          g,
          subst (λ (a : Avoiding). AreRefusalsSoFar file l p g a) (sym is) early.1,
          (g, early.2, subst (λ b. MatchBool b (IsTurn first.world.plan k g g) (g ≡ g)) flag refl),
          λ still. early.3 (none still).0,
        )

  pub round_more :
      (first mid new : Avoiding) (k : ℕ) (has before acted both : Bool) → IsCheckedPlan first.world.plan → mid.world.plan ≡ first.world.plan →
      new.world.plan ≡ mid.world.plan → (state_of first.world).forked k ≡ has → RoundTo file l p k first mid before →
      (both ≡ false → (before ≡ false) × (acted ≡ false)) → HasTurn file l p k has mid new acted → RoundTo file l p (k + 1) first new both
  round_more first mid new k true before acted both checked plan same forked round none turn =
      subst (λ n. RoundTo file l p n first new both) (sym (add-one k))
      (turn_more first mid new k true before acted both checked plan same forked round none turn.0 turn.1 refl)
  round_more first mid new k false before acted both checked plan same forked round none turn =
      subst (λ n. RoundTo file l p n first new both) (sym (add-one k))
      (turn_none first mid new k false before acted both checked plan same forked round none turn.0 refl)

  -- a task that may not act, or was not forked, has no part in a round
  turn_passed :
      (first mid : Avoiding) (u : ℕ) → ((state_of first.world).forked u ≡ true → IsEnabled mid.world u → ⊥) →
      HasTurn file l p u ((state_of first.world).forked u) mid mid false
  turn_passed first mid u rests = by ((state_of first.world).forked u) refl
    where
      by : (b : Bool) → (state_of first.world).forked u ≡ b → HasTurn file l p u b mid mid false
      by true is = (goes_none u mid, rests is)
      by false is = (refl, refl)

  module _ (first mid : Avoiding) (moved : Bool) (checked : IsCheckedPlan first.world.plan) (plan : mid.world.plan ≡ first.world.plan) where
    skip_by :
        (k d : ℕ) → RoundTo file l p k first mid moved → ((u : ℕ) → k ≤ u → u < k + d → (state_of first.world).forked u ≡ true → IsEnabled mid.world u → ⊥) →
        RoundTo file l p (k + d) first mid moved
    skip_by k zero round rest = subst (λ n. RoundTo file l p n first mid moved) (let e : k ≡ k + 0 = omega arith in e) round
    skip_by k (suc d) round rest =
        let before = skip_by k d round (λ u a b. rest u a (omega (arith, b))) in
        subst (λ n. RoundTo file l p n first mid moved) (let e : k + d + 1 ≡ k + suc d = omega arith in e)
        (round_more first mid mid (k + d) ((state_of first.world).forked (k + d)) moved false moved checked plan refl refl before (λ e. (e, refl))
        (turn_passed first mid (k + d) (rest (k + d) (omega arith) (omega arith))))

    -- those up to place n are passed over
    pub skip_turns :
        (k n : ℕ) → k ≤ n → RoundTo file l p k first mid moved → ((u : ℕ) → k ≤ u → u < n → (state_of first.world).forked u ≡ true → IsEnabled mid.world u → ⊥) →
        RoundTo file l p n first mid moved
    skip_turns k n within round rest =
        let e : k + (n - k) ≡ n = omega (arith, within) in
        subst (λ m. RoundTo file l p m first mid moved) e (skip_by k (n - k) round (λ u a b. rest u a (omega (arith, e, b))))

-- who was passed over may not go on where nothing has changed
pub passed_rests : (first mid : WorldValue) (u : ℕ) → mid ≡ first → ((state_of first).forked u ≡ true → IsEnabled mid u → ⊥) → IsEnabled mid u → ⊥
passed_rests first mid u same rests enabled =
    rests (subst (λ (w : WorldValue). (state_of w).forked u ≡ true) same (acting_forked mid.plan (state_of mid) u enabled.0 enabled.2)) enabled
