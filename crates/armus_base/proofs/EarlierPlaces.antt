-- The earlier places of two plain runs are those of a plain run.
use Rattle.std.proofs.Common.{◌≡◌, ℕ, suc, ◌<◌, ◌≤◌, min, true, Some, List, [], ◌∷◌, arith, sym, ◌∙◌, ap, subst, ◌⊎◌, inl, inr}
use Rattle.std.proofs.lemmas.Bool.{cases_eq, cases_lt}
use Rattle.armus_base.specs.declared.event.Event.{Event}
use Rattle.armus_base.specs.Plans.{Action, Advances, Blocks, Drops, Forks, Makes, Passes, Plan, Refuses, Registers, parent_of}
use Rattle.armus_base.specs.States.{IsReached, State, Step, after, event_at}
use Rattle.armus_base.specs.Runs.{IsLegalRun, IsPlainRun, places, state_after}
use Rattle.armus_base.specs.calls.Runs.{Precedes}
use Rattle.armus_base.specs.calls.Places.{IsConsistent}
use Rattle.armus_base.specs.Places.{done_by, forked_at, kept, phases_after, phases_at, published_after, registered_by, state_at}
use Rattle.armus_base.specs.CheckedPlans.{IsCheckedPlan}
use Rattle.armus_base.specs.calls.SeatLaws.{EarlierPlaces}
use Rattle.armus_base.proofs.Steps.{updated_same, updated_other, reached_stays}
use Rattle.armus_base.proofs.Fixed.{forked_at_is, forked_at_from, root_forked, registered_none, registered_steady, phases_idle, phases_begun}
use Rattle.armus_base.proofs.Stepping.{places_fix, acting_forked}
use Rattle.armus_base.proofs.Members.{member_made, published_member, only_passes, other_step, plain_step, plain_undropped}
use Rattle.armus_base.proofs.Published.{same_place, step_at_most, undropped_before}
use Rattle.armus_base.proofs.ReachedLater.{later_done}
use Rattle.armus_base.proofs.Again.{again, plain_after}

-- made stays made
made_stays : (s : State) (u : ℕ) (x : Action) (p : ℕ) → s.made p ≡ true → (after s u x).made p ≡ true
made_stays s u (Makes q) p m =
    elim (cases_eq p q) [
      | inl e ↦ updated_same s.made q p true e
      | inr n ↦ updated_other s.made q p true n ∙ m
    ]
made_stays s u (Registers c q) p m = m
made_stays s u (Forks c) p m = m
made_stays s u (Advances q) p m = m
made_stays s u (Drops q) p m = m
made_stays s u (Blocks q) p m = m
made_stays s u (Passes q) p m = m
made_stays s u (Refuses q) p m = m

-- an event that a task has passed is reached
pub passed :
    (plan : Plan) → IsCheckedPlan plan → (g : List Step) → IsLegalRun plan g → (t k : ℕ) (e : Event) →
    published_after plan t k ≡ Some e → k < done_by (places g) t →
    (state_after g).made e.p.0 ≡ true × IsReached (state_after g) e
passed plan checked [] run t k e published l = absurd (omega arith)
passed plan checked (d ∷ g) run t k e published l =
    elim (cases_lt k (done_by (places g) t)) [
      | inl before ↦
          let r = passed plan checked g run.0 t k e published before in (
            made_stays (state_after g) d.task d.action e.p.0 r.0,
            reached_stays plan (state_after g) d.task d.action e.p.0 e.n run.1.legal r.0 r.1,
          )
      | inr now ↦
          let own : t ≡ d.task = elim (cases_eq t d.task) [
            | inl same ↦ same
            | inr other ↦ absurd (let s = ap (λ v. v.done) (other_step d g t other) in omega arith)
          ] in
          let here : done_by (places g) t ≡ k =
          (let one : done_by (places (d ∷ g)) d.task ≤ suc (done_by (places g) d.task) = step_at_most d g in
          let s : done_by (places (d ∷ g)) t ≡ done_by (places (d ∷ g)) d.task = ap (done_by (places (d ∷ g))) own in
          let s' : done_by (places g) t ≡ done_by (places g) d.task = ap (done_by (places g)) own in
          omega arith) in
          let at = places_fix plan checked g run.0 in
          let published_g : (state_after g).published d.task ≡ Some e =
          subst (λ v. (state_after g).published v ≡ Some e) own
          (ap (λ s. s.published t) at.0 ∙ ap (published_after plan t) here ∙ published) in
          let passes = only_passes plan (state_after g) d.task d.action e run.1.legal published_g in
          let member = published_member plan g run.0 d.task e published_g in
          let made = member_made plan g run.0 d.task e.p.0 member.0 member.1 in (
            made_stays (state_after g) d.task d.action e.p.0 made,
            reached_stays plan (state_after g) d.task d.action e.p.0 e.n run.1.legal made passes.1,
          )
    ]

-- the phases at the earlier of two places are those at one of the two
module _ (plan : Plan) (checked : IsCheckedPlan plan) where
  earlier_idle :
      (a b c : ℕ → ℕ) → ((t : ℕ) → a t ≡ min (c t) (b t)) → ((t : ℕ) → 0 < b t → forked_at plan b t ≡ true) →
      (w : ℕ) → a w ≡ 0 → c w ≡ 0 →
      (phases_at plan a w ≡ phases_at plan c w) ⊎ (phases_at plan a w ≡ phases_at plan b w)
  earlier_idle a b c earlier begun w z y =
      let u = parent_of plan w in
      let at_a = phases_idle plan checked a w z in
      let at_c = phases_idle plan checked c w y in
      let m = earlier u in
      elim (cases_lt (b u) (c u)) [
        | inr l ↦ inl (at_a ∙ ap (registered_by plan u w) (let e : a u ≡ c u = omega arith in e) ∙ sym at_c)
        | inl l ↦
            let same : a u ≡ b u = omega arith in
            elim (cases_eq (b w) 0) [
              | inl x ↦ inr (at_a ∙ ap (registered_by plan u w) same ∙ sym (phases_idle plan checked b w x))
              | inr n ↦ inl (elim (forked_at_is plan b w (begun w (omega arith))) [
                | inl root ↦
                    at_a ∙ subst (λ v. registered_by plan (parent_of plan v) v (a (parent_of plan v)) ≡ registered_by plan (parent_of plan v) v (c (parent_of plan v))) (sym root)
                    (registered_none plan checked (parent_of plan 0) (a (parent_of plan 0)) ∙
                    sym (registered_none plan checked (parent_of plan 0) (c (parent_of plan 0)))) ∙ sym at_c
                | inr f ↦
                    at_a ∙ registered_steady plan checked u w f.0 (a u) f.2 (omega arith)
                    ∙ sym (registered_steady plan checked u w f.0 (c u) f.2 (omega arith)) ∙ sym at_c
              ])
            ]
      ]

  swap : {A B : Type 0} → A ⊎ B → B ⊎ A
  swap (inl x) = inr x
  swap (inr x) = inl x

  earlier_phases :
      (a b c : ℕ → ℕ) → ((t : ℕ) → a t ≡ min (c t) (b t)) →
      ((t : ℕ) → 0 < b t → forked_at plan b t ≡ true) → ((t : ℕ) → 0 < c t → forked_at plan c t ≡ true) →
      (w : ℕ) → (phases_at plan a w ≡ phases_at plan c w) ⊎ (phases_at plan a w ≡ phases_at plan b w)
  earlier_phases a b c earlier begun_b begun_c w =
      let m = earlier w in
      elim (cases_eq (a w) 0) [
        | inr n ↦ elim (cases_lt (b w) (c w)) [
          | inl l ↦ inr (phases_begun plan checked a w n ∙ ap (phases_after plan w) (let e : a w ≡ b w = omega arith in e) ∙
              sym (phases_begun plan checked b w (λ z. n (omega arith))))
          | inr l ↦ inl (phases_begun plan checked a w n ∙ ap (phases_after plan w) (let e : a w ≡ c w = omega arith in e) ∙
              sym (phases_begun plan checked c w (λ z. n (omega arith))))
        ]
        | inl z ↦ elim (cases_eq (c w) 0) [
          | inl y ↦ earlier_idle a b c earlier begun_b w z y
          | inr n ↦ swap (earlier_idle a c b (λ t. (let e = earlier t in omega arith)) begun_c w z (omega arith))
        ]
      ]

  earlier_forked :
      (a b c : ℕ → ℕ) → ((t : ℕ) → a t ≡ min (c t) (b t)) → (t : ℕ) → forked_at plan c t ≡ true → forked_at plan b t ≡ true → forked_at plan a t ≡ true
  earlier_forked a b c earlier t f_c f_b =
      let m = earlier (parent_of plan t) in
      elim (forked_at_is plan c t f_c) [
        | inl root ↦ subst (λ v. forked_at plan a v ≡ true) (sym root) (root_forked plan a)
        | inr i ↦ elim (forked_at_is plan b t f_b) [
          | inl root ↦ subst (λ v. forked_at plan a v ≡ true) (sym root) (root_forked plan a)
          | inr j ↦ elim (cases_lt i.0 j.0) [
            | inl l ↦ forked_at_from plan a t i.0 (omega arith) i.2
            | inr l ↦ forked_at_from plan a t j.0 (omega arith) j.2
          ]
        ]
      ]

-- the next step of run h, at the earlier places of h and g, is a next step there too, where g has it
module _ (plan : Plan) (checked : IsCheckedPlan plan) (g : List Step) (run_g : IsPlainRun plan g) (h : List Step) (e : Step) (run : IsPlainRun plan (e ∷ h))
    (m : List Step) (run_m : IsPlainRun plan m) (earlier : (t : ℕ) → done_by (places m) t ≡ min (done_by (places h) t) (done_by (places g) t))
    (ahead : done_by (places h) e.task < done_by (places g) e.task) where
  run_h : IsPlainRun plan h
  run_h = (run.0.0, run.1.0)

  at_h : ((state_after h) ≡ state_at plan (places h)) × IsConsistent plan (places h)
  at_h = places_fix plan checked h run.0.0

  at_g : ((state_after g) ≡ state_at plan (places g)) × IsConsistent plan (places g)
  at_g = places_fix plan checked g run_g.0

  at_m : ((state_after m) ≡ state_at plan (places m)) × IsConsistent plan (places m)
  at_m = places_fix plan checked m run_m.0

  same_place_there : places h e.task ≡ places m e.task
  same_place_there =
      let l = earlier e.task in
      same_place (places h e.task) (places m e.task) (omega arith) (plain_undropped plan h run_h e.task) (plain_undropped plan m run_m e.task)

  forked_there : (state_after m).forked e.task ≡ true
  forked_there =
      ap (λ s. s.forked e.task) at_m.0
      ∙ earlier_forked plan checked (done_by (places m)) (done_by (places g)) (done_by (places h)) earlier e.task
      (ap (λ s. s.forked e.task) (sym at_h.0) ∙ acting_forked plan (state_after h) e.task e.action run.0.1.legal)
      (at_g.1.begun e.task (omega arith))

  -- what is reached in both states is reached there
  reached_there :
      (p n : ℕ) → IsReached (state_after h) (event_at p n) → IsReached (state_after g) (event_at p n) → IsReached (state_after m) (event_at p n)
  reached_there p n in_h in_g w k is =
      let phase : phases_at plan (done_by (places m)) w p ≡ Some k =
      ap (λ o. kept o (phases_at plan (done_by (places m)) w) p) (sym (plain_undropped plan m run_m w)) ∙ ap (λ s. s.phases w p) (sym at_m.0) ∙ is in
      elim (earlier_phases plan checked (done_by (places m)) (done_by (places g)) (done_by (places h)) earlier at_g.1.begun at_h.1.begun w) [
        | inl same ↦ in_h w k
            (ap (λ s. s.phases w p) at_h.0 ∙ ap (λ o. kept o (phases_at plan (done_by (places h)) w) p) (plain_undropped plan h run_h w) ∙ ap (λ f. f p) (sym same) ∙ phase)
        | inr same ↦ in_g w k
            (ap (λ s. s.phases w p) at_g.0 ∙ ap (λ o. kept o (phases_at plan (done_by (places g)) w) p) (plain_undropped plan g run_g w) ∙ ap (λ f. f p) (sym same) ∙ phase)
      ]

  pub one_more : IsPlainRun plan (e ∷ m)
  one_more =
      again plan checked h e run m run_m same_place_there forked_there (λ p n is published_h reached.
      let published : published_after plan e.task (done_by (places h) e.task) ≡ Some (event_at p n) =
      ap (λ s. s.published e.task) (sym at_h.0) ∙ published_h in
      let in_g = passed plan checked g run_g.0 e.task (done_by (places h) e.task) (event_at p n) published ahead in
      reached_there p n reached in_g.1)

pub earlier_of :
    (plan : Plan) → IsCheckedPlan plan → (g : List Step) → IsPlainRun plan g → (h : List Step) → IsPlainRun plan h →
    (m : List Step) × IsPlainRun plan m × ((t : ℕ) → (places m t).done ≡ min (places h t).done (places g t).done)
earlier_of plan checked g run_g [] run = ([], (tt, tt), (λ t. omega arith))
earlier_of plan checked g run_g (e ∷ h) run =
    let r = earlier_of plan checked g run_g h (run.0.0, run.1.0) in
    let grown : (places (e ∷ h) e.task).done ≡ suc (places h e.task).done = ap (λ v. v.done) (plain_step plan e h run) in
    elim (cases_lt (places h e.task).done (places g e.task).done) [
      | inl ahead ↦
          let more = one_more plan checked g run_g h e run r.0 r.1 r.2 ahead in
          let grown_m : (places (e ∷ r.0) e.task).done ≡ suc (places r.0 e.task).done = ap (λ v. v.done) (plain_step plan e r.0 more) in (
            e ∷ r.0,
            more,
            (λ t. let l = r.2 t in elim (cases_eq t e.task) [
              | inl same ↦
                  subst (λ v. (places (e ∷ r.0) v).done ≡ min (places (e ∷ h) v).done (places g v).done) (sym same)
                  (let l' = r.2 e.task in omega arith)
              | inr other ↦ (let x = ap (λ v. v.done) (other_step e h t other) in let y = ap (λ v. v.done) (other_step e r.0 t other) in omega arith)
            ]),
          )
      | inr behind ↦ (
        r.0,
        r.1,
        (λ t. let l = r.2 t in elim (cases_eq t e.task) [
          | inl same ↦
              subst (λ v. (places r.0 v).done ≡ min (places (e ∷ h) v).done (places g v).done) (sym same)
              (let l' = r.2 e.task in omega arith)
          | inr other ↦ (let x = ap (λ v. v.done) (other_step e h t other) in omega arith)
        ]),
      )
    ]

pub earlier_places : EarlierPlaces
earlier_places plan h g checked run_h run_g =
    let r = earlier_of plan checked g run_g h run_h in (
      r.0,
      r.1,
      λ t. (
        plain_after plan r.0 h r.1 (λ u. (let l = r.2 u in omega arith)) t,
        plain_after plan r.0 g r.1 (λ u. (let l = r.2 u in omega arith)) t,
        λ b in_h in_g.
            let k = later_done b.done (places h t).done b.dropped (places h t).dropped in_h in
            let j = later_done b.done (places g t).done b.dropped (places g t).dropped in_g in
            let l = r.2 t in
            let within : b.done ≤ (places r.0 t).done = omega arith in
            subst (λ o. Precedes b.done o (places r.0 t).done (places r.0 t).dropped)
            (sym (undropped_before b (places h t) in_h (plain_undropped plan h run_h t))) within,
      ),
    )
