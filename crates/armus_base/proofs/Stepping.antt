-- A legal step that is next by the code leads from the state of the places to the state of the next places.
use mathlib.Core.Path.{fun_ext}
use Rattle.std.proofs.Common.{◌≡◌, ◌≢◌, ℕ, zero, suc, ◌<◌, ◌≤◌, true, false, Option, Some, None, List, [], ◌∷◌, arith, sym, ◌∙◌, ap, subst, refl, inl, inr}
use Rattle.std.specs.Prelude.{◌==◌, IsSome}
use Rattle.std.proofs.lemmas.Bool.{cases_eq, eq-eqb, or_left, ne_eqb, cond-true, cases_order, cases_lt}
use Rattle.armus_base.specs.declared.event.Event.{Event}
use Rattle.armus_base.specs.Plans.{Action, Advances, Blocks, Drops, Forks, Makes, Passes, Plan, Refuses, Registers, action_at, maker_of, parent_of, Aim}
use Rattle.armus_base.specs.States.{IsLegal, Phases, State, Step, after, awaited, next_phase, opening, updated, with_phase}
use Rattle.armus_base.specs.calls.Runs.{IsAtAwait}
use Rattle.armus_base.specs.Runs.{IsByCode, IsLegalRun, Place, first_place, moved, next_place, places, state_after}
use Rattle.armus_base.specs.calls.Places.{IsConsistent}
use Rattle.armus_base.specs.Places.{done_by, forked_at, forks, kept, made_at, makes, members_below, own_step, phases_after, phases_at, published_after, refused_at, register_step, registered_by, state_at}
use Rattle.armus_base.specs.CheckedPlans.{IsCheckedPlan}
use Rattle.armus_base.proofs.Steps.{updated_same, updated_other}
use Rattle.armus_base.proofs.Codes.{parent_is, maker_is, no_refusal, awaited_some}
use Rattle.armus_base.proofs.Fixed.{state_ext, phases_from, phases_same, updated_from, unchanged_from, advanced, advanced_same, advanced_other, forked_keeps, forked_more, made_keeps, made_more, phases_own, phases_child, phases_rest, phases_forked, kept_below, kept_above, members_below-suc, members_below-none, members_below_more, published_own, published_rest, forked_later, or_false}

-- who acts is forked
pub acting_forked : (plan : Plan) (s : State) (t : ℕ) (x : Action) → IsLegal plan s t x → s.forked t ≡ true
acting_forked plan s t (Makes p) l = l.0.forked
acting_forked plan s t (Registers c p) l = l.0.forked
acting_forked plan s t (Forks c) l = l.0.forked
acting_forked plan s t (Advances p) l = l.0.forked
acting_forked plan s t (Drops p) l = l.0
acting_forked plan s t (Blocks p) l = l.0.forked
acting_forked plan s t (Passes p) l = l.0
acting_forked plan s t (Refuses p) l = l.0.forked

-- who is not forked has done nothing
module _ (plan : Plan) (checked : IsCheckedPlan plan) (a : ℕ → Place) (consistent : IsConsistent plan a) where
  pub unforked_idle : (c : ℕ) → forked_at plan (done_by a) c ≡ false → done_by a c ≡ 0
  unforked_idle c e =
      elim (cases_eq (done_by a c) 0) [
        | inl z ↦ z
        | inr n ↦ absurd (let f : forked_at plan (done_by a) c ≡ true = consistent.begun c (omega arith) in cc)
      ]

  pub unforked_undropped : (c : ℕ) → forked_at plan (done_by a) c ≡ false → (a c).dropped ≡ None
  unforked_undropped c e = go (a c).dropped refl
    where
      go : (o : Option ℕ) → (a c).dropped ≡ o → o ≡ None
      go None h = refl
      go (Some q) h = absurd (let f : forked_at plan (done_by a) c ≡ true = (consistent.refused c q h).0 in cc)

-- task t, which stands at place k of its code and is forked, does its next action x
module _ (plan : Plan) (checked : IsCheckedPlan plan) (a : ℕ → Place) (consistent : IsConsistent plan a) (t : ℕ) (now : forked_at plan (done_by a) t ≡ true)
    (undropped : (a t).dropped ≡ None) (a' : ℕ → Place) (own : a' t ≡ record { done = suc (a t).done; dropped = None }) (rest : (u : ℕ) → u ≢ t → a' u ≡ a u)
    (x : Action) (next : action_at plan t (a t).done ≡ Some x) where
  pub done_advanced : done_by a' ≡ advanced (done_by a) t
  done_advanced =
      fun_ext (λ u. elim (cases_eq u t) [
        | inl e ↦ ap (λ v. (a' v).done) e ∙ ap (λ v. v.done) own ∙ sym (advanced_same (done_by a) t t refl) ∙ ap (advanced (done_by a) t) (sym e)
        | inr n ↦ ap (λ v. v.done) (rest u n) ∙ sym (advanced_other (done_by a) t u n)
      ])

  pub forked_same : ((c : ℕ) → forks (Some x) c ≡ false) → (c : ℕ) → forked_at plan (done_by a) c ≡ forked_at plan (done_by a') c
  forked_same no_fork c =
      sym (forked_keeps plan checked (done_by a) t x now next c (no_fork c)) ∙ ap (λ b. forked_at plan b c) (sym done_advanced)

  pub forked_new : (c : ℕ) → x ≡ Forks c → parent_of plan c ≡ t → (d : ℕ) → updated (forked_at plan (done_by a)) c true d ≡ forked_at plan (done_by a') d
  forked_new c is parent =
      subst (λ b. (d : ℕ) → updated (forked_at plan (done_by a)) c true d ≡ forked_at plan b d) (sym done_advanced)
      (updated_from (forked_at plan (done_by a)) (forked_at plan (advanced (done_by a) t)) c true
      (forked_more plan checked (done_by a) t x now next c parent
      ∙ or_left (forks (Some x) c) (forked_at plan (done_by a) c) (ap (λ y. forks (Some y) c) is ∙ eq-eqb c c refl))
      (λ d n. forked_keeps plan checked (done_by a) t x now next d (ap (λ y. forks (Some y) d) is ∙ ne_eqb d c n)))

  pub made_same : ((p : ℕ) → makes (Some x) p ≡ false) → (p : ℕ) → made_at plan (done_by a) p ≡ made_at plan (done_by a') p
  made_same no_make p =
      sym (made_keeps plan checked (done_by a) t x now next p (no_make p)) ∙ ap (λ b. made_at plan b p) (sym done_advanced)

  pub made_new : (q : ℕ) → x ≡ Makes q → maker_of plan q ≡ t → (p : ℕ) → updated (made_at plan (done_by a)) q true p ≡ made_at plan (done_by a') p
  made_new q is maker =
      subst (λ b. (p : ℕ) → updated (made_at plan (done_by a)) q true p ≡ made_at plan b p) (sym done_advanced)
      (updated_from (made_at plan (done_by a)) (made_at plan (advanced (done_by a) t)) q true
      (made_more plan checked (done_by a) t x now next q maker
      ∙ or_left (makes (Some x) q) (made_at plan (done_by a) q) (ap (λ y. makes (Some y) q) is ∙ eq-eqb q q refl))
      (λ p n. made_keeps plan checked (done_by a) t x now next p (ap (λ y. makes (Some y) p) is ∙ ne_eqb p q n)))

  pub phases_of_own : kept (a' t).dropped (phases_at plan (done_by a') t) ≡ own_step (Some x) (kept (a t).dropped (phases_at plan (done_by a) t))
  phases_of_own =
      ap (λ o. kept o (phases_at plan (done_by a') t)) (ap (λ v. v.dropped) own)
      ∙ ap (λ b. phases_at plan b t) done_advanced
      ∙ phases_own plan checked (done_by a) t x now next
      ∙ ap (λ o. own_step (Some x) (kept o (phases_at plan (done_by a) t))) (sym undropped)

  pub phases_of_rest :
      (u : ℕ) → u ≢ t → ((p : ℕ) → Some x ≢ Some (Registers u p)) →
      kept (a' u).dropped (phases_at plan (done_by a') u) ≡ kept (a u).dropped (phases_at plan (done_by a) u)
  phases_of_rest u other none =
      ap (λ o. kept o (phases_at plan (done_by a') u)) (ap (λ v. v.dropped) (rest u other))
      ∙ ap (λ b. kept (a u).dropped (phases_at plan b u)) done_advanced
      ∙ ap (kept (a u).dropped) (phases_rest plan checked (done_by a) t x now next u other none)

  pub phases_unchanged :
      own_step (Some x) (kept (a t).dropped (phases_at plan (done_by a) t)) ≡ kept (a t).dropped (phases_at plan (done_by a) t) →
      ((u p : ℕ) → Some x ≢ Some (Registers u p)) →
      (u p : ℕ) → kept (a u).dropped (phases_at plan (done_by a) u) p ≡ kept (a' u).dropped (phases_at plan (done_by a') u) p
  phases_unchanged keeps no_reg =
      phases_same (λ u. kept (a u).dropped (phases_at plan (done_by a) u)) (λ u. kept (a' u).dropped (phases_at plan (done_by a') u)) t
      (phases_of_own ∙ keeps) (λ u n. phases_of_rest u n (no_reg u))

  pub phases_changed :
      (q : ℕ) (v : Option ℕ) →
      own_step (Some x) (kept (a t).dropped (phases_at plan (done_by a) t)) ≡ updated (kept (a t).dropped (phases_at plan (done_by a) t)) q v →
      ((u p : ℕ) → Some x ≢ Some (Registers u p)) →
      (u p : ℕ) → with_phase (λ w. kept (a w).dropped (phases_at plan (done_by a) w)) t q v u p ≡ kept (a' u).dropped (phases_at plan (done_by a') u) p
  phases_changed q v changes no_reg =
      phases_from (λ u. kept (a u).dropped (phases_at plan (done_by a) u)) (λ u. kept (a' u).dropped (phases_at plan (done_by a') u)) t q v
      (phases_of_own ∙ changes) (λ u n. phases_of_rest u n (no_reg u))

  pub phases_registered :
      (c q : ℕ) → x ≡ Registers c q → parent_of plan c ≡ t → forked_at plan (done_by a) c ≡ false →
      (u p : ℕ) →
      with_phase (λ w. kept (a w).dropped (phases_at plan (done_by a) w)) c q (kept (a t).dropped (phases_at plan (done_by a) t) q) u p
      ≡ kept (a' u).dropped (phases_at plan (done_by a') u) p
  phases_registered c q is parent unforked =
      let f : ℕ → Phases = λ w. kept (a w).dropped (phases_at plan (done_by a) w) in
      let g : ℕ → Phases = λ w. kept (a' w).dropped (phases_at plan (done_by a') w) in
      let other : c ≢ t = λ e. absurd (let b : forked_at plan (done_by a) c ≡ true = subst (λ w. forked_at plan (done_by a) w ≡ true) (sym e) now in cc) in
      let idle : done_by a c ≡ 0 = unforked_idle plan checked a consistent c unforked in
      let undropped_c : (a c).dropped ≡ None = unforked_undropped plan checked a consistent c unforked in
      let changed : g c ≡ updated (phases_at plan (done_by a) c) q (phases_at plan (done_by a) t q) =
      ap (λ o. kept o (phases_at plan (done_by a') c)) (ap (λ v. v.dropped) (rest c other) ∙ undropped_c)
      ∙ ap (λ b. phases_at plan b c) done_advanced
      ∙ phases_child plan checked (done_by a) t x now next c other idle parent
      ∙ ap (λ y. register_step (Some y) c (phases_at plan (done_by a) t) (phases_at plan (done_by a) c)) is
      ∙ cond-true (c == c) (updated (phases_at plan (done_by a) c) q (phases_at plan (done_by a) t q)) (phases_at plan (done_by a) c) (eq-eqb c c refl) in
      let before : updated (phases_at plan (done_by a) c) q (phases_at plan (done_by a) t q) ≡ updated (f c) q (f t q) =
      ap (λ o. updated (kept o (phases_at plan (done_by a) c)) q (phases_at plan (done_by a) t q)) (sym undropped_c)
      ∙ ap (λ o. updated (f c) q (kept o (phases_at plan (done_by a) t) q)) (sym undropped) in
      phases_from f g c q (f t q) (changed ∙ before)
      (λ u n. elim (cases_eq u t) [
        | inl e ↦
            subst (λ w. g w ≡ f w) (sym e)
            (phases_of_own ∙ ap (λ y. own_step (Some y) (f t)) is)
        | inr m ↦ phases_of_rest u m (λ p e. n (let s : Some (Registers c q) ≡ Some (Registers u p) = ap Some (sym is) ∙ e in cc))
      ])

  pub published_unchanged :
      published_after plan t (a t).done ≡ None → awaited (Some x) (phases_at plan (done_by a) t) ≡ None →
      (u : ℕ) → published_after plan u (a u).done ≡ published_after plan u (a' u).done
  published_unchanged was becomes =
      subst (λ b. (u : ℕ) → published_after plan u (a u).done ≡ published_after plan u (b u)) (sym done_advanced)
      (unchanged_from (λ u. published_after plan u (done_by a u)) (λ u. published_after plan u (advanced (done_by a) t u)) t None was
      (published_own plan checked (done_by a) t x now next ∙ becomes) (published_rest plan checked (done_by a) t x now next))

  pub published_changed :
      (v : Option Event) → awaited (Some x) (phases_at plan (done_by a) t) ≡ v →
      (u : ℕ) → updated (λ w. published_after plan w (a w).done) t v u ≡ published_after plan u (a' u).done
  published_changed v becomes =
      subst (λ b. (u : ℕ) → updated (λ w. published_after plan w (a w).done) t v u ≡ published_after plan u (b u)) (sym done_advanced)
      (updated_from (λ u. published_after plan u (done_by a u)) (λ u. published_after plan u (advanced (done_by a) t u)) t v
      (published_own plan checked (done_by a) t x now next ∙ becomes) (published_rest plan checked (done_by a) t x now next))

  pub refused_same : (u : ℕ) → refused_at plan u (a u).done (a u).dropped ≡ refused_at plan u (a' u).done (a' u).dropped
  refused_same u =
      elim (cases_eq u t) [
        | inl e ↦
            subst (λ w. refused_at plan w (a w).done (a w).dropped ≡ refused_at plan w (a' w).done (a' w).dropped) (sym e)
            (ap (refused_at plan t (a t).done) undropped ∙ sym (ap (refused_at plan t (a' t).done) (ap (λ v. v.dropped) own)))
        | inr n ↦ ap (λ v. refused_at plan u v.done v.dropped) (sym (rest u n))
      ]

module _ (plan : Plan) (checked : IsCheckedPlan plan) (a : ℕ → Place) (consistent : IsConsistent plan a) (t : ℕ) (undropped : (a t).dropped ≡ None)
    (a' : ℕ → Place) (own : a' t ≡ record { done = suc (a t).done; dropped = None }) (rest : (u : ℕ) → u ≢ t → a' u ≡ a u) where
  pub regular_step :
      (x : Action) → action_at plan t (a t).done ≡ Some x → IsLegal plan (state_at plan a) t x →
      after (state_at plan a) t x ≡ state_at plan a'
  regular_step (Makes q) next legal =
      let now = acting_forked plan (state_at plan a) t (Makes q) legal in
      state_ext (after (state_at plan a) t (Makes q)) (state_at plan a')
      (forked_same plan checked a consistent t now undropped a' own rest (Makes q) next (λ c. refl))
      (made_new plan checked a consistent t now undropped a' own rest (Makes q) next q refl (maker_is plan t q legal.1))
      (phases_changed plan checked a consistent t now undropped a' own rest (Makes q) next q (Some 0) refl (λ u p e. absurd (cc)))
      (published_unchanged plan checked a consistent t now undropped a' own rest (Makes q) next legal.0.unpublished refl)
      (refused_same plan checked a consistent t now undropped a' own rest (Makes q) next)
  regular_step (Registers c q) next legal =
      let now = acting_forked plan (state_at plan a) t (Registers c q) legal in
      state_ext (after (state_at plan a) t (Registers c q)) (state_at plan a')
      (forked_same plan checked a consistent t now undropped a' own rest (Registers c q) next (λ c. refl))
      (made_same plan checked a consistent t now undropped a' own rest (Registers c q) next (λ p. refl))
      (phases_registered plan checked a consistent t now undropped a' own rest (Registers c q) next c q refl (parent_is plan t c legal.1) legal.2)
      (published_unchanged plan checked a consistent t now undropped a' own rest (Registers c q) next legal.0.unpublished refl)
      (refused_same plan checked a consistent t now undropped a' own rest (Registers c q) next)
  regular_step (Forks c) next legal =
      let now = acting_forked plan (state_at plan a) t (Forks c) legal in
      state_ext (after (state_at plan a) t (Forks c)) (state_at plan a')
      (forked_new plan checked a consistent t now undropped a' own rest (Forks c) next c refl (parent_is plan t c legal.1))
      (made_same plan checked a consistent t now undropped a' own rest (Forks c) next (λ p. refl))
      (phases_unchanged plan checked a consistent t now undropped a' own rest (Forks c) next refl (λ u p e. absurd (cc)))
      (published_unchanged plan checked a consistent t now undropped a' own rest (Forks c) next legal.0.unpublished refl)
      (refused_same plan checked a consistent t now undropped a' own rest (Forks c) next)
  regular_step (Advances q) next legal =
      let now = acting_forked plan (state_at plan a) t (Advances q) legal in
      state_ext (after (state_at plan a) t (Advances q)) (state_at plan a')
      (forked_same plan checked a consistent t now undropped a' own rest (Advances q) next (λ c. refl))
      (made_same plan checked a consistent t now undropped a' own rest (Advances q) next (λ p. refl))
      (phases_changed plan checked a consistent t now undropped a' own rest (Advances q) next q
      (next_phase (kept (a t).dropped (phases_at plan (done_by a) t) q)) refl (λ u p e. absurd (cc)))
      (published_unchanged plan checked a consistent t now undropped a' own rest (Advances q) next legal.0.unpublished refl)
      (refused_same plan checked a consistent t now undropped a' own rest (Advances q) next)
  regular_step (Drops q) next legal =
      let now = acting_forked plan (state_at plan a) t (Drops q) legal in
      state_ext (after (state_at plan a) t (Drops q)) (state_at plan a')
      (forked_same plan checked a consistent t now undropped a' own rest (Drops q) next (λ c. refl))
      (made_same plan checked a consistent t now undropped a' own rest (Drops q) next (λ p. refl))
      (phases_changed plan checked a consistent t now undropped a' own rest (Drops q) next q None refl (λ u p e. absurd (cc)))
      (published_unchanged plan checked a consistent t now undropped a' own rest (Drops q) next legal.1 refl)
      (refused_same plan checked a consistent t now undropped a' own rest (Drops q) next)
  regular_step (Blocks q) next legal =
      let now = acting_forked plan (state_at plan a) t (Blocks q) legal in
      state_ext (after (state_at plan a) t (Blocks q)) (state_at plan a')
      (forked_same plan checked a consistent t now undropped a' own rest (Blocks q) next (λ c. refl))
      (made_same plan checked a consistent t now undropped a' own rest (Blocks q) next (λ p. refl))
      (phases_unchanged plan checked a consistent t now undropped a' own rest (Blocks q) next refl (λ u p e. absurd (cc)))
      (published_changed plan checked a consistent t now undropped a' own rest (Blocks q) next
      (awaited (Some (Blocks q)) (kept (a t).dropped (phases_at plan (done_by a) t)))
      (ap (λ o. awaited (Some (Blocks q)) (kept o (phases_at plan (done_by a) t))) (sym undropped)))
      (refused_same plan checked a consistent t now undropped a' own rest (Blocks q) next)
  regular_step (Passes q) next legal =
      let now = acting_forked plan (state_at plan a) t (Passes q) legal in
      state_ext (after (state_at plan a) t (Passes q)) (state_at plan a')
      (forked_same plan checked a consistent t now undropped a' own rest (Passes q) next (λ c. refl))
      (made_same plan checked a consistent t now undropped a' own rest (Passes q) next (λ p. refl))
      (phases_unchanged plan checked a consistent t now undropped a' own rest (Passes q) next refl (λ u p e. absurd (cc)))
      (published_changed plan checked a consistent t now undropped a' own rest (Passes q) next None refl)
      (refused_same plan checked a consistent t now undropped a' own rest (Passes q) next)
  regular_step (Refuses q) next legal = absurd (no_refusal plan t (a t).done q next)

-- a refused task, or one that is refused now, leaves the counts as they are
module _ (plan : Plan) (checked : IsCheckedPlan plan) (a : ℕ → Place) (consistent : IsConsistent plan a) (t y : ℕ) (a' : ℕ → Place)
    (own : a' t ≡ record { done = (a t).done; dropped = Some y }) (rest : (u : ℕ) → u ≢ t → a' u ≡ a u) where
  pub done_same : done_by a ≡ done_by a'
  done_same =
      fun_ext (λ u. elim (cases_eq u t) [
        | inl e ↦ ap (done_by a) e ∙ sym (ap (λ v. v.done) own) ∙ ap (done_by a') (sym e)
        | inr n ↦ sym (ap (λ v. v.done) (rest u n))
      ])

  -- the phases of the others stay, and its own are kept from y on
  pub phases_dropped :
      (q : ℕ) (v : Option ℕ) → updated (kept (a t).dropped (phases_at plan (done_by a) t)) q v ≡ kept (Some y) (phases_at plan (done_by a) t) →
      (u p : ℕ) → with_phase (λ w. kept (a w).dropped (phases_at plan (done_by a) w)) t q v u p ≡ kept (a' u).dropped (phases_at plan (done_by a') u) p
  phases_dropped q v e =
      subst (λ b. (u p : ℕ) → with_phase (λ w. kept (a w).dropped (phases_at plan (done_by a) w)) t q v u p ≡ kept (a' u).dropped (phases_at plan b u) p) done_same
      (phases_from (λ w. kept (a w).dropped (phases_at plan (done_by a) w)) (λ w. kept (a' w).dropped (phases_at plan (done_by a) w)) t q v
      (ap (λ o. kept o (phases_at plan (done_by a) t)) (ap (λ v. v.dropped) own) ∙ sym e)
      (λ u n. ap (λ v. kept v.dropped (phases_at plan (done_by a) u)) (rest u n)))

  pub forked_of_same : (c : ℕ) → forked_at plan (done_by a) c ≡ forked_at plan (done_by a') c
  forked_of_same c = ap (λ b. forked_at plan b c) done_same

  pub made_of_same : (p : ℕ) → made_at plan (done_by a) p ≡ made_at plan (done_by a') p
  made_of_same p = ap (λ b. made_at plan b p) done_same

  pub published_of_same : (u : ℕ) → published_after plan u (a u).done ≡ published_after plan u (a' u).done
  published_of_same u = ap (λ b. published_after plan u (b u)) done_same

-- from nought on all phases are kept
pub kept-zero : (m : Phases) → kept (Some 0) m ≡ m
kept-zero m = fun_ext (λ p. kept_above 0 p m (omega arith))

-- a task refuses
pub refuse_step :
    (plan : Plan) (checked : IsCheckedPlan plan) (a : ℕ → Place) (consistent : IsConsistent plan a) (t : ℕ) (aim : Aim) (a' : ℕ → Place) →
    (a t).dropped ≡ None → a' t ≡ record { done = (a t).done; dropped = Some 0 } → ((u : ℕ) → u ≢ t → a' u ≡ a u) →
    action_at plan t (a t).done ≡ Some (Blocks aim) → IsLegal plan (state_at plan a) t (Refuses aim) →
    after (state_at plan a) t (Refuses aim) ≡ state_at plan a'
refuse_step plan checked a consistent t aim a' undropped own rest code legal =
    let now : forked_at plan (done_by a) t ≡ true = legal.0.forked in
    let same = done_same plan checked a consistent t 0 a' own rest in
    state_ext (after (state_at plan a) t (Refuses aim)) (state_at plan a')
    (forked_of_same plan checked a consistent t 0 a' own rest)
    (made_of_same plan checked a consistent t 0 a' own rest)
    (subst (λ b. (u q : ℕ) → kept (a u).dropped (phases_at plan (done_by a) u) q ≡ kept (a' u).dropped (phases_at plan b u) q) same
    (phases_same (λ u. kept (a u).dropped (phases_at plan (done_by a) u)) (λ u. kept (a' u).dropped (phases_at plan (done_by a) u)) t
    (ap (λ v. kept v.dropped (phases_at plan (done_by a) t)) own ∙ kept-zero (phases_at plan (done_by a) t) ∙ ap (λ o. kept o (phases_at plan (done_by a) t)) (sym undropped))
    (λ u n. ap (λ v. kept v.dropped (phases_at plan (done_by a) u)) (rest u n))))
    (published_of_same plan checked a consistent t 0 a' own rest)
    (updated_from (λ u. refused_at plan u (a u).done (a u).dropped) (λ u. refused_at plan u (a' u).done (a' u).dropped) t
    (awaited (Some (Blocks aim)) (kept (a t).dropped (phases_at plan (done_by a) t)))
    (ap (λ v. refused_at plan t v.done v.dropped) own
    ∙ ap (λ o. awaited o (phases_after plan t (a t).done)) code
    ∙ ap (awaited (Some (Blocks aim))) (sym (phases_forked plan checked (done_by a) t now))
    ∙ ap (λ o. awaited (Some (Blocks aim)) (kept o (phases_at plan (done_by a) t))) (sym undropped))
    (λ u n. ap (λ v. refused_at plan u v.done v.dropped) (rest u n)))

-- those below which nothing is kept are no more than those that were left
pub members_at_most :
    (d : ℕ) (m : Phases) (p : ℕ) → ((r : ℕ) → r < p → kept (Some d) m r ≡ None) → members_below m p ≤ d
members_at_most d m zero none = omega arith
members_at_most d m (suc p) none = go (members_at_most d m p (λ r l. none r (omega arith))) (m p) refl
  where
    go : members_below m p ≤ d → (o : Option ℕ) → m p ≡ o → members_below m (suc p) ≤ d
    go before None e = (let same = members_below-none m p e in omega arith)
    go before (Some n) e =
        elim (cases_lt (members_below m p) d) [
          | inl l ↦ (let one_more = members_below-suc m p n e in omega arith)
          | inr l ↦ absurd (let no_more = none p (omega arith) in let here = kept_above d p m l in cc)
        ]

-- what is kept once the least phaser of which it is a member is left
pub kept-drop :
    (d p : ℕ) (m : Phases) → ((n : ℕ) × (kept (Some d) m p ≡ Some n)) → ((r : ℕ) → r < p → kept (Some d) m r ≡ None) →
    updated (kept (Some d) m) p None ≡ kept (Some (suc d)) m
kept-drop d p m member least =
    fun_ext (λ r. elim (cases_order r p) [
      | inl e ↦ updated_same (kept (Some d) m) p r None e ∙ sym (kept_below (suc d) r m (let same = ap (members_below m) e in let h = here in omega arith))
      | inr (inl l) ↦
          updated_other (kept (Some d) m) p r None (λ e. absurd (omega arith))
          ∙ least r l ∙ sym (kept_below (suc d) r m (let more = members_below_more m r p (omega arith) in let h = here in omega arith))
      | inr (inr l) ↦
          let more = members_below_more m (suc p) r (omega arith) in
          let n = next in
          updated_other (kept (Some d) m) p r None (λ e. absurd (omega arith))
          ∙ kept_above d r m (omega arith) ∙ sym (kept_above (suc d) r m (omega arith))
    ])
  where
    at_least : d ≤ members_below m p
    at_least = elim (cases_lt (members_below m p) d) [
      | inl l ↦ absurd (let e = kept_below d p m l in let f = member.1 in cc)
      | inr l ↦ l
    ]

    here : members_below m p ≡ d
    here = (let l = at_least in let most = members_at_most d m p least in omega arith)

    next : members_below m (suc p) ≡ suc d
    next = members_below-suc m p member.0 (sym (kept_above d p m at_least) ∙ member.1) ∙ ap suc here

-- a refused task leaves its least phaser
pub drop_step :
    (plan : Plan) (checked : IsCheckedPlan plan) (a : ℕ → Place) (consistent : IsConsistent plan a) (t q p : ℕ) (a' : ℕ → Place) →
    (a t).dropped ≡ Some q → a' t ≡ record { done = (a t).done; dropped = Some (suc q) } → ((u : ℕ) → u ≢ t → a' u ≡ a u) →
    IsLegal plan (state_at plan a) t (Drops p) →
    after (state_at plan a) t (Drops p) ≡ state_at plan a'
drop_step plan checked a consistent t q p a' dropped own rest legal =
    let m = phases_at plan (done_by a) t in
    let stands = consistent.refused t q dropped in
    let member = checked.codes.well_formed t (a t).done (Blocks stands.1.0) stands.1.1 in
    let some = awaited_some stands.1.0 (phases_after plan t (a t).done) member.0 in
    let event : refused_at plan t (a t).done (a t).dropped ≡ Some some.0 =
    ap (refused_at plan t (a t).done) dropped
    ∙ ap (λ o. awaited o (phases_after plan t (a t).done)) stands.1.1
    ∙ some.1 in
    let is_refused : IsSome (refused_at plan t (a t).done (a t).dropped) = subst IsSome (sym event) refl in
    let member : (n : ℕ) × (kept (Some q) m p ≡ Some n) = subst (λ o. (n : ℕ) × (kept o m p ≡ Some n)) dropped legal.2 in
    let least : (r : ℕ) → r < p → kept (Some q) m r ≡ None = λ r l. subst (λ o. kept o m r ≡ None) dropped (legal.3 is_refused r l) in
    state_ext (after (state_at plan a) t (Drops p)) (state_at plan a')
    (forked_of_same plan checked a consistent t (suc q) a' own rest)
    (made_of_same plan checked a consistent t (suc q) a' own rest)
    (phases_dropped plan checked a consistent t (suc q) a' own rest p None
    (subst (λ o. updated (kept o m) p None ≡ kept (Some (suc q)) m) (sym dropped) (kept-drop q p m member least)))
    (published_of_same plan checked a consistent t (suc q) a' own rest)
    (unchanged_from (λ u. refused_at plan u (a u).done (a u).dropped) (λ u. refused_at plan u (a' u).done (a' u).dropped) t
    (awaited (action_at plan t (a t).done) (phases_after plan t (a t).done))
    (ap (refused_at plan t (a t).done) dropped)
    (ap (λ v. refused_at plan t v.done v.dropped) own)
    (λ u n. ap (λ v. refused_at plan u v.done v.dropped) (rest u n)))

pub next_place_more : (k : ℕ) (o : Option ℕ) (x : Action) → k ≤ (next_place k o x).done
next_place_more k None (Refuses p) = omega arith
next_place_more k None x = omega arith
next_place_more k (Some q) (Drops p) = omega arith
next_place_more k (Some q) x = omega arith

module _ (plan : Plan) (checked : IsCheckedPlan plan) (a : ℕ → Place) (consistent : IsConsistent plan a) (t : ℕ) where
  pub moved_own : (o : Option ℕ) (x : Action) → (a t).dropped ≡ o → moved a t x t ≡ next_place (a t).done o x
  moved_own o x h =
      updated_same a t t (next_place (a t).done (a t).dropped x) refl ∙ ap (λ l. next_place (a t).done l x) h

  pub moved_rest : (x : Action) (u : ℕ) → u ≢ t → moved a t x u ≡ a u
  moved_rest x u n = updated_other a t u (next_place (a t).done (a t).dropped x) n

  pub step_by :
      (o : Option ℕ) → (a t).dropped ≡ o → (x : Action) → IsByCode plan t (a t).done o x → IsLegal plan (state_at plan a) t x →
      after (state_at plan a) t x ≡ state_at plan (moved a t x)
  step_by None h (Refuses p) code legal =
      refuse_step plan checked a consistent t p (moved a t (Refuses p)) h (moved_own None (Refuses p) h) (moved_rest (Refuses p)) code legal
  step_by None h (Makes p) code legal =
      regular_step plan checked a consistent t h (moved a t (Makes p)) (moved_own None (Makes p) h) (moved_rest (Makes p)) (Makes p) code legal
  step_by None h (Registers c p) code legal =
      regular_step plan checked a consistent t h (moved a t (Registers c p)) (moved_own None (Registers c p) h) (moved_rest (Registers c p)) (Registers c p) code legal
  step_by None h (Forks c) code legal =
      regular_step plan checked a consistent t h (moved a t (Forks c)) (moved_own None (Forks c) h) (moved_rest (Forks c)) (Forks c) code legal
  step_by None h (Advances p) code legal =
      regular_step plan checked a consistent t h (moved a t (Advances p)) (moved_own None (Advances p) h) (moved_rest (Advances p)) (Advances p) code legal
  step_by None h (Drops p) code legal =
      regular_step plan checked a consistent t h (moved a t (Drops p)) (moved_own None (Drops p) h) (moved_rest (Drops p)) (Drops p) code legal
  step_by None h (Blocks p) code legal =
      regular_step plan checked a consistent t h (moved a t (Blocks p)) (moved_own None (Blocks p) h) (moved_rest (Blocks p)) (Blocks p) code legal
  step_by None h (Passes p) code legal =
      regular_step plan checked a consistent t h (moved a t (Passes p)) (moved_own None (Passes p) h) (moved_rest (Passes p)) (Passes p) code legal
  step_by (Some q) h (Drops p) code legal =
      drop_step plan checked a consistent t q p (moved a t (Drops p)) h (moved_own (Some q) (Drops p) h) (moved_rest (Drops p)) legal
  step_by (Some q) h x code legal = absurd code

  pub step_fixes :
      (x : Action) → IsByCode plan t (a t).done (a t).dropped x → IsLegal plan (state_at plan a) t x →
      after (state_at plan a) t x ≡ state_at plan (moved a t x)
  step_fixes x code legal = step_by (a t).dropped refl x code legal

  pub done_grows : (x : Action) (u : ℕ) → done_by a u ≤ done_by (moved a t x) u
  done_grows x u =
      elim (cases_eq u t) [
        | inl e ↦
            subst (λ w. done_by a w ≤ done_by (moved a t x) w) (sym e)
            (subst (λ v. (a t).done ≤ v.done) (sym (moved_own (a t).dropped x refl)) (next_place_more (a t).done (a t).dropped x))
        | inr n ↦ (let e : done_by (moved a t x) u ≡ done_by a u = ap (λ v. v.done) (moved_rest x u n) in omega arith)
      ]

  pub forked_stays : (x : Action) (c : ℕ) → forked_at plan (done_by a) c ≡ true → forked_at plan (done_by (moved a t x)) c ≡ true
  forked_stays x c f = forked_later plan (done_by a) (done_by (moved a t x)) c (done_grows x) f

  -- whoever is refused after the step stands before an await
  pub refused_own :
      (o : Option ℕ) → (a t).dropped ≡ o → (x : Action) → IsByCode plan t (a t).done o x → (q : ℕ) → (next_place (a t).done o x).dropped ≡ Some q →
      IsAtAwait plan t (next_place (a t).done o x)
  refused_own None h (Refuses p) code q e = (p, code)
  refused_own None h x code q e = absurd (cc)
  refused_own (Some r) h (Drops p) code q e = (consistent.refused t r h).1
  refused_own (Some r) h x code q e = absurd code

  pub consistent_moved :
      (x : Action) → IsByCode plan t (a t).done (a t).dropped x → IsLegal plan (state_at plan a) t x → IsConsistent plan (moved a t x)
  consistent_moved x code legal =
      let now : forked_at plan (done_by a) t ≡ true = acting_forked plan (state_at plan a) t x legal in
      record {
        begun = λ u l. elim (cases_eq u t) [
          | inl e ↦ forked_stays x u (subst (λ w. forked_at plan (done_by a) w ≡ true) (sym e) now)
          | inr n ↦ forked_stays x u (consistent.begun u (let m : (moved a t x u).done ≡ (a u).done = ap (λ v. v.done) (moved_rest x u n) in omega arith))
        ];
        refused = λ u q h. elim (cases_eq u t) [
          | inl e ↦
              let own = moved_own (a t).dropped x refl in
              let stands = refused_own (a t).dropped refl x code q (sym (ap (λ v. v.dropped) own) ∙ ap (λ w. (moved a t x w).dropped) (sym e) ∙ h) in
              subst (λ w. forked_at plan (done_by (moved a t x)) w ≡ true × IsAtAwait plan w (moved a t x w)) (sym e)
              (forked_stays x t now, (stands.0, ap (λ v. action_at plan t v.done) own ∙ stands.1))
          | inr n ↦
              let stands = consistent.refused u q (sym (ap (λ v. v.dropped) (moved_rest x u n)) ∙ h) in
              (forked_stays x u stands.0, (stands.1.0, ap (λ v. action_at plan u v.done) (moved_rest x u n) ∙ stands.1.1))
        ];
      }

module _ (plan : Plan) (checked : IsCheckedPlan plan) where
  pub opening_fixed : opening ≡ state_at plan (λ _. first_place)
  unfolding forked_at made_at phases_at registered_by
  opening_fixed =
      state_ext opening (state_at plan (λ _. first_place)) (λ t. or_false (t == 0)) (λ p. refl) (λ t p. refl) (λ t. refl) (λ t. refl)

  pub opening_consistent : IsConsistent plan (λ _. first_place)
  opening_consistent = record { begun = λ t l. absurd (omega arith); refused = λ t q e. absurd (cc) }

  -- after a run the places fix the state, and only those who are forked have begun
  pub places_fix :
      (h : List Step) → IsLegalRun plan h → (state_after h ≡ state_at plan (places h)) × IsConsistent plan (places h)
  places_fix [] r = (opening_fixed, opening_consistent)
  places_fix (e ∷ h) r =
      let before = places_fix h r.0 in
      let legal : IsLegal plan (state_at plan (places h)) e.task e.action =
      subst (λ s. IsLegal plan s e.task e.action) before.0 r.1.legal in (
        ap (λ s. after s e.task e.action) before.0
            ∙ step_fixes plan checked (places h) before.1 e.task e.action r.1.by_code legal,
        consistent_moved plan checked (places h) before.1 e.task e.action r.1.by_code legal,
      )
