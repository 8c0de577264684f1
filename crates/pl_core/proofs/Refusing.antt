-- A refusal and the drops after it.
use mathlib.Core.Path.{fun_ext}
use Rattle.std.proofs.Common.{◌≡◌, ◌≢◌, ℕ, zero, suc, ◌<◌, List, [], ◌∷◌, ◌++◌, Option, Some, None, arith, sym, ◌∙◌, ap, subst, refl, inl, inr}
use Rattle.std.proofs.lemmas.Bool.{cases_eq, cases_lt}
use Rattle.armus_base.specs.Plans.{Blocks, Drops, Plan, Refuses, action_at, Aim}
use Rattle.armus_base.specs.States.{IsActive, IsLegal, Phases, Step, awaited, updated}
use Rattle.armus_base.specs.Runs.{IsByCode, IsReachable, Place, moved, next_place}
use Rattle.armus_base.specs.Places.{done_by, forked_at, kept, members_below, phases_after, phases_at, published_after, refused_at, state_at}
use Rattle.armus_base.specs.CheckedPlans.{IsCheckedPlan}
use Rattle.armus_base.proofs.Fixed.{kept_above, kept_below, members_below-none, members_below-suc, members_below_more, phases_forked}
use Rattle.armus_base.proofs.Reachable.{reachable_steps}
use Rattle.armus_base.proofs.Steps.{updated_same, updated_other}
use Rattle.pl_core.specs.calls.Moves.{LeadsOn, drops_from}

-- what leads on from reachable places leads to reachable ones
pub leads_reachable : (plan : Plan) → IsCheckedPlan plan → (a : ℕ → Place) (h : List Step) (b : ℕ → Place) → IsReachable plan a → LeadsOn plan a h b → IsReachable plan b
leads_reachable plan checked a [] b reach leads = subst (IsReachable plan) leads reach
leads_reachable plan checked a (e ∷ h) b reach leads =
    let before = leads_reachable plan checked a h leads.0 reach leads.1 in
    subst (IsReachable plan) leads.4 (reachable_steps plan leads.0 e.task e.action checked before leads.2 leads.3).0

-- the members below q are dropped, and only they
pub dropped_below : (m : Phases) (q r : ℕ) → r < q → kept (Some (members_below m q)) m r ≡ None
dropped_below m q r l = go (m r) refl
  where
    go : (o : Option ℕ) → m r ≡ o → kept (Some (members_below m q)) m r ≡ None
    go None e =
        elim (cases_lt (members_below m r) (members_below m q)) [
          | inl below ↦ kept_below (members_below m q) r m below
          | inr above ↦ kept_above (members_below m q) r m above ∙ e
        ]
    go (Some n) e =
        kept_below (members_below m q) r m
        (let more = members_below_more m (suc r) q (omega arith) in let one = members_below-suc m r n e in omega arith)

module _ (plan : Plan) (checked : IsCheckedPlan plan) (a : ℕ → Place) (t : ℕ) (aim : Aim) (active : IsActive (state_at plan a) t)
    (undropped : (a t).dropped ≡ None) (next : action_at plan t (a t).done ≡ Some (Blocks aim)) (legal : IsLegal plan (state_at plan a) t (Blocks aim)) where
  abbrev own : Phases
  own = phases_after plan t (a t).done

  -- the places when the task has dropped its phasers below q
  abbrev pub dropping : ℕ → ℕ → Place
  dropping q = updated a t (record { done = (a t).done; dropped = Some (members_below own q) })

  same_done : (q : ℕ) → done_by (dropping q) ≡ done_by a
  same_done q =
      fun_ext (λ u. elim (cases_eq u t) [
        | inl e ↦ ap (λ v. v.done) (updated_same a t u (record { done = (a t).done; dropped = Some (members_below own q) }) e) ∙ ap (done_by a) (sym e)
        | inr n ↦ ap (λ v. v.done) (updated_other a t u (record { done = (a t).done; dropped = Some (members_below own q) }) n)
      ])

  own_place : (q : ℕ) → dropping q t ≡ record { done = (a t).done; dropped = Some (members_below own q) }
  own_place q = updated_same a t t (record { done = (a t).done; dropped = Some (members_below own q) }) refl

  pub phases_own : (q r : ℕ) → (state_at plan (dropping q)).phases t r ≡ kept (Some (members_below own q)) own r
  phases_own q r =
      ap (λ v. kept v.dropped (phases_at plan (done_by (dropping q)) t) r) (own_place q)
      ∙ ap (λ b. kept (Some (members_below own q)) (phases_at plan b t) r) (same_done q)
      ∙ ap (λ m. kept (Some (members_below own q)) m r) (phases_forked plan checked (done_by a) t active.forked)

  drop_legal : (q n : ℕ) → own q ≡ Some n → IsLegal plan (state_at plan (dropping q)) t (Drops q)
  drop_legal q n member = (
    ap (λ b. forked_at plan b t) (same_done q) ∙ active.forked,
    ap (λ b. published_after plan t (b t)) (same_done q) ∙ active.unpublished,
    (n, phases_own q q ∙ kept_above (members_below own q) q own (omega arith) ∙ member),
    λ r u l. phases_own q u ∙ dropped_below own q u l,
  )

  drop_code : (q : ℕ) → IsByCode plan t (dropping q t).done (dropping q t).dropped (Drops q)
  drop_code q = subst (λ v. IsByCode plan t v.done v.dropped (Drops q)) (sym (own_place q)) tt

  refuse_code : IsByCode plan t (a t).done (a t).dropped (Refuses aim)
  refuse_code = subst (λ o. IsByCode plan t (a t).done o (Refuses aim)) (sym undropped) next

  twice : (f : ℕ → Place) (v w : Place) → updated (updated f t v) t w ≡ updated f t w
  twice f v w =
      fun_ext (λ u. elim (cases_eq u t) [
        | inl e ↦ updated_same (updated f t v) t u w e ∙ sym (updated_same f t u w e)
        | inr n ↦ updated_other (updated f t v) t u w n ∙ updated_other f t u v n ∙ sym (updated_other f t u w n)
      ])

  refuse_moves : moved a t (Refuses aim) ≡ dropping 0
  refuse_moves = ap (λ o. updated a t (next_place (a t).done o (Refuses aim))) undropped

  drop_moves : (q n : ℕ) → own q ≡ Some n → moved (dropping q) t (Drops q) ≡ dropping (suc q)
  drop_moves q n member =
      ap (λ v. updated (dropping q) t (next_place v.done v.dropped (Drops q))) (own_place q)
      ∙ twice a (record { done = (a t).done; dropped = Some (members_below own q) }) (record { done = (a t).done; dropped = Some (suc (members_below own q)) })
      ∙ ap (λ d. updated a t (record { done = (a t).done; dropped = Some d })) (sym (members_below-suc own q n member))

  refuse_legal : IsLegal plan (state_at plan a) t (Refuses aim)
  refuse_legal = (legal.0, legal.1)

  -- the refusal, and the drops of the phasers below q, the last one first
  pub drops_lead : (q : ℕ) → (drops : List ℕ) × LeadsOn plan a (drops_from t drops ++ record { task = t; action = Refuses aim } ∷ []) (dropping q)
  drops_lead zero = ([], (a, refl, refuse_code, refuse_legal, refuse_moves))
  drops_lead (suc q) = go (own q) refl (drops_lead q)
    where
      go :
          (o : Option ℕ) → own q ≡ o → (drops : List ℕ) × LeadsOn plan a (drops_from t drops ++ record { task = t; action = Refuses aim } ∷ []) (dropping q) →
          (drops : List ℕ) × LeadsOn plan a (drops_from t drops ++ record { task = t; action = Refuses aim } ∷ []) (dropping (suc q))
      go None e before = (
        before.0,
        subst (λ d. LeadsOn plan a (drops_from t before.0 ++ record { task = t; action = Refuses aim } ∷ []) (updated a t (record { done = (a t).done; dropped = Some d })))
            (sym (members_below-none own q e)) before.1,
      )
      go (Some n) e before = (q ∷ before.0, (dropping q, before.1, drop_code q, drop_legal q n e, drop_moves q n e))

  -- what the refusal changes of the state
  pub same_forked : (q u : ℕ) → (state_at plan (dropping q)).forked u ≡ (state_at plan a).forked u
  same_forked q u = ap (λ b. forked_at plan b u) (same_done q)

  pub same_published : (q u : ℕ) → (state_at plan (dropping q)).published u ≡ (state_at plan a).published u
  same_published q u = ap (λ b. published_after plan u (b u)) (same_done q)

  pub same_refused : (q u : ℕ) → u ≢ t → (state_at plan (dropping q)).refused u ≡ (state_at plan a).refused u
  same_refused q u n = ap (λ v. refused_at plan u v.done v.dropped) (updated_other a t u (record { done = (a t).done; dropped = Some (members_below own q) }) n)

  pub own_refused : (q : ℕ) → (state_at plan (dropping q)).refused t ≡ awaited (Some (Blocks aim)) ((state_at plan a).phases t)
  own_refused q =
      ap (λ v. refused_at plan t v.done v.dropped) (own_place q)
      ∙ ap (λ o. awaited o own) next
      ∙ ap (awaited (Some (Blocks aim))) (sym (phases_forked plan checked (done_by a) t active.forked))
      ∙ ap (λ o. awaited (Some (Blocks aim)) (kept o (phases_at plan (done_by a) t))) (sym undropped)

  pub same_phases : (q u : ℕ) → u ≢ t → (state_at plan (dropping q)).phases u ≡ (state_at plan a).phases u
  same_phases q u n =
      ap (λ v. kept v.dropped (phases_at plan (done_by (dropping q)) u)) (updated_other a t u (record { done = (a t).done; dropped = Some (members_below own q) }) n)
      ∙ ap (λ b. kept (a u).dropped (phases_at plan b u)) (same_done q)
