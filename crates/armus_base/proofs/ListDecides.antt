-- A list of statuses decides on an await.
use mathlib.Core.Path.{fun_ext}
use Rattle.std.proofs.Common.{◌≡◌, ◌≢◌, ℕ, ◌<◌, ◌≤◌, Bool, true, false, Some, None, List, ◌∷◌, arith, sym, ◌∙◌, ap, subst, refl, inl, inr}
use Rattle.std.proofs.lemmas.Bool.{cases_eq, cases_lt, cases_Bool, cond-true, cond-false, eq-eqb, ne_eqb}
use Rattle.armus_base.specs.declared.event.Event.{Event}
use Rattle.armus_base.specs.declared.status.Status.{Status}
use Rattle.armus_base.specs.Plans.{Blocks, Plan}
use Rattle.armus_base.specs.States.{State, Step, awaited, updated}
use Rattle.armus_base.specs.Runs.{IsByCode, IsLegalRun, Place, places, state_after}
use Rattle.armus_base.specs.calls.Runs.{IsPrefix}
use Rattle.armus_base.specs.calls.Places.{IsConsistent, phases_at_place}
use Rattle.armus_base.specs.Places.{done_by, kept, published_after, state_at}
use Rattle.armus_base.specs.CheckedPlans.{IsCheckedPlan}
use Rattle.armus_base.specs.Deadlocks.{IsAtPhase, IsDeadBy, IsDeadIn, IsDeadlockedSet, IsListedAt, IsListedOn, IsPublishedOn, WouldBeDead}
use Rattle.armus_base.specs.calls.Decisions.{Decides, IsEnoughToDecide}
use Rattle.armus_base.specs.calls.DecisionLaws.{ListDecides, ListInHandDecides}
use Rattle.std.specs.Prelude.{◌==◌, if◌then◌else◌}
use Rattle.armus_base.proofs.Steps.{updated_is, updated_same, updated_other}
use Rattle.armus_base.proofs.Places.{precedes_itself}
use Rattle.armus_base.proofs.Members.{other_step}
use Rattle.armus_base.proofs.NextIsLegal.{next_is_legal, unrefused_undropped}
use Rattle.armus_base.proofs.Fixed.{phases_forked}
use Rattle.armus_base.proofs.ReachedLater.{later_done}
use Rattle.armus_base.proofs.EarlierPlaces.{passed}
use Rattle.armus_base.proofs.CollectedIsDead.{collected_is_dead}
use Rattle.armus_base.proofs.Published.{published_undropped, same_place, undropped_before}
use Rattle.armus_base.proofs.Stepping.{places_fix}
use Rattle.armus_base.proofs.BoardRuns.{lawful_is_reachable}
use Rattle.armus_base.proofs.FoundArePublished.{found_are_published}

-- the phases of a forked task after a run
phases_of_forked :
    (plan : Plan) → IsCheckedPlan plan → (h : List Step) → IsLegalRun plan h → (t : ℕ) → (state_after h).forked t ≡ true →
    (state_after h).phases t ≡ phases_at_place plan t (places h t)
phases_of_forked plan checked h run t forked =
    let at = places_fix plan checked h run in
    ap (λ s. s.phases t) at.0
    ∙ ap (kept (places h t).dropped) (phases_forked plan checked (done_by (places h)) t (ap (λ s. s.forked t) (sym at.0) ∙ forked))

module _ (plan : Plan) (checked : IsCheckedPlan plan) (h : List Step) (run : IsLegalRun plan h) (t : ℕ) (event : Event) (list : List Status)
    (enough : IsEnoughToDecide plan (state_after h) (places h) t event list) where
  s : State
  s = state_after h

  abbrev blocked : Step
  blocked = record { task = t; action = Blocks enough.aim }

  at_h : (state_after h ≡ state_at plan (places h)) × IsConsistent plan (places h)
  at_h = places_fix plan checked h run

  undropped : (places h t).dropped ≡ None
  undropped = unrefused_undropped plan checked (places h) at_h.1 t (ap (λ r. r.refused t) (sym at_h.0) ∙ enough.stands.active.unrefused)

  run' : IsLegalRun plan (blocked ∷ h)
  run' = (
    run,
    record {
      legal = next_is_legal plan h t (Blocks enough.aim) checked run enough.stands.active enough.stands.next;
      by_code = subst (λ o. IsByCode plan t (places h t).done o (Blocks enough.aim)) (sym undropped) enough.stands.next;
    },
  )

  abbrev would : State
  would = record (state_after h) { published = updated (state_after h).published t (Some event) }

  same_state : state_after (blocked ∷ h) ≡ would
  same_state = ap (λ o. record (state_after h) { published = updated (state_after h).published t o }) enough.stands.awaits

  at_h' : (state_after (blocked ∷ h) ≡ state_at plan (places (blocked ∷ h))) × IsConsistent plan (places (blocked ∷ h))
  at_h' = places_fix plan checked (blocked ∷ h) run'

  published_there : published_after plan t (places (blocked ∷ h) t).done ≡ Some event
  published_there = ap (λ r. r.published t) (sym at_h'.0) ∙ ap (λ r. r.published t) same_state ∙ updated_same (state_after h).published t t (Some event) refl

  -- the places where the list found its tasks, with t where it is published
  abbrev at' : ℕ → Place
  at' u = if u == t then places (blocked ∷ h) t else enough.others.at u

  abbrev found' : ℕ → ℕ → Place
  found' u p = if u == t then places (blocked ∷ h) t else enough.others.found u p

  at_own : (u : ℕ) → u ≡ t → at' u ≡ places (blocked ∷ h) t
  at_own u e = cond-true (u == t) (places (blocked ∷ h) t) (enough.others.at u) (eq-eqb u t e)

  at_other : (u : ℕ) → u ≢ t → at' u ≡ enough.others.at u
  at_other u n = cond-false (u == t) (places (blocked ∷ h) t) (enough.others.at u) (ne_eqb u t n)

  found_own : (u p : ℕ) → u ≡ t → found' u p ≡ places (blocked ∷ h) t
  found_own u p e = cond-true (u == t) (places (blocked ∷ h) t) (enough.others.found u p) (eq-eqb u t e)

  found_other : (u p : ℕ) → u ≢ t → found' u p ≡ enough.others.found u p
  found_other u p n = cond-false (u == t) (places (blocked ∷ h) t) (enough.others.found u p) (ne_eqb u t n)

  waiting : (u : ℕ) (e : Event) → IsListedOn list u e → published_after plan u (at' u).done ≡ Some e
  waiting u e listed =
      elim (cases_eq u t) [
        | inl same ↦
            ap (λ v. published_after plan u v.done) (at_own u same) ∙ ap (λ v. published_after plan v (places (blocked ∷ h) t).done) same
            ∙ published_there ∙ ap Some (sym (enough.own.only e (subst (λ v. IsListedOn list v e) same listed)))
        | inr other ↦ ap (λ v. published_after plan u v.done) (at_other u other) ∙ enough.others.found_there.waiting u e other listed
      ]

  reaches : (u : ℕ) (e : Event) → IsListedOn list u e → IsPrefix (at' u) (places (blocked ∷ h) u)
  reaches u e listed =
      elim (cases_eq u t) [
        | inl same ↦ subst (λ v. IsPrefix v (places (blocked ∷ h) u)) (sym (at_own u same))
            (subst (λ v. IsPrefix (places (blocked ∷ h) t) (places (blocked ∷ h) v)) (sym same)
            (precedes_itself (places (blocked ∷ h) t).done (places (blocked ∷ h) t).dropped))
        | inr other ↦
            subst (λ v. IsPrefix v (places (blocked ∷ h) u)) (sym (at_other u other))
            (subst (λ v. IsPrefix (enough.others.at u) v) (sym (other_step blocked h u other)) (enough.others.found_there.before u e other listed))
      ]

  seen : (u p n : ℕ) → IsListedAt list u p n → IsPrefix (at' u) (found' u p) × phases_at_place plan u (found' u p) p ≡ Some n
  seen u p n listed =
      elim (cases_eq u t) [
        | inl same ↦
            let forked' : (state_after (blocked ∷ h)).forked t ≡ true = enough.stands.active.forked in (
              subst (λ v. IsPrefix v (found' u p)) (sym (at_own u same))
                  (subst (λ v. IsPrefix (places (blocked ∷ h) t) v) (sym (found_own u p same)) (precedes_itself (places (blocked ∷ h) t).done (places (blocked ∷ h) t).dropped)),
              ap (λ v. phases_at_place plan u v p) (found_own u p same)
                  ∙ ap (λ v. phases_at_place plan v (places (blocked ∷ h) t) p) same
                  ∙ ap (λ m. m p) (sym (phases_of_forked plan checked (blocked ∷ h) run' t forked'))
                  ∙ enough.own.phases p n (subst (λ v. IsListedAt list v p n) same listed),
            )
        | inr other ↦
            let f = enough.others.found_there.phases u p n other listed in (
              subst (λ v. IsPrefix v (found' u p)) (sym (at_other u other)) (subst (λ v. IsPrefix (enough.others.at u) v) (sym (found_other u p other)) f.0),
              ap (λ v. phases_at_place plan u v p) (found_other u p other) ∙ f.1,
            )
      ]

  reaches_found : (u p n : ℕ) → IsListedAt list u p n → IsPrefix (found' u p) (places (blocked ∷ h) u)
  reaches_found u p n listed =
      elim (cases_eq u t) [
        | inl same ↦ subst (λ v. IsPrefix v (places (blocked ∷ h) u)) (sym (found_own u p same))
            (subst (λ v. IsPrefix (places (blocked ∷ h) t) (places (blocked ∷ h) v)) (sym same)
            (precedes_itself (places (blocked ∷ h) t).done (places (blocked ∷ h) t).dropped))
        | inr other ↦
            subst (λ v. IsPrefix v (places (blocked ∷ h) u)) (sym (found_other u p other))
            (subst (λ v. IsPrefix (enough.others.found u p) v) (sym (other_step blocked h u other)) (enough.others.found_there.phases_before u p n other listed))
      ]

  -- a deadlocked set of the list is deadlocked once t is published, and its tasks stand where they were found
  collected :
      (tasks : ℕ → Bool) → IsDeadlockedSet (IsListedOn list) (IsListedAt list) tasks →
      ((u : ℕ) → tasks u ≡ true → places (blocked ∷ h) u ≡ at' u) × IsDeadlockedSet (IsPublishedOn (state_after (blocked ∷ h))) (IsAtPhase (state_after (blocked ∷ h))) tasks
  collected tasks deadlocked =
      collected_is_dead plan (blocked ∷ h) list tasks at' found' checked run' deadlocked
      (record {
        waiting = λ u e inside listed. waiting u e listed;
        before = λ u e inside listed. reaches u e listed;
        phases = λ u p n inside listed. seen u p n listed;
        phases_before = λ u p n inside listed. reaches_found u p n listed;
      })

  refuses : IsDeadBy list t → WouldBeDead (state_after h) t event
  refuses dead =
      subst (λ r. IsDeadIn r t) same_state
      (record { tasks = dead.tasks; inside = dead.inside; deadlocked = (collected dead.tasks dead.deadlocked).1 })

  -- without t, the set was deadlocked before
  blocks : (IsDeadBy list t → ⊥) → (u : ℕ) → IsDeadBy list u → ⊥
  blocks alive u dead =
      elim (cases_Bool (dead.tasks t)) [
        | inl inside ↦ alive (record { tasks = dead.tasks; inside = inside; deadlocked = dead.deadlocked })
        | inr outside ↦
            enough.nobody u (record {
              tasks = dead.tasks;
              inside = dead.inside;
              deadlocked = record {
                some = dead.deadlocked.some;
                each = λ v inside.
                    let held = (collected dead.tasks dead.deadlocked).1.each v inside in
                    let other : v ≢ t = λ e. absurd (let b : dead.tasks v ≡ false = ap dead.tasks e ∙ outside in cc) in
                    record {
                      event = held.event;
                      waits = sym (updated_other (state_after h).published t v (awaited (Some (Blocks enough.aim)) ((state_after h).phases t)) other) ∙ held.waits;
                      by = held.by;
                      inside = held.inside;
                      phase = held.phase;
                      impedes = held.impedes;
                      below = held.below;
                    };
              };
            })
      ]

  others : (u : ℕ) (e : Event) → u ≢ t → IsDeadBy list u → IsListedOn list u e → (state_after h).published u ≡ Some e
  others u e other dead listed =
      let there = (collected dead.tasks dead.deadlocked).0 u dead.inside in
      sym (updated_other (state_after h).published t u (awaited (Some (Blocks enough.aim)) ((state_after h).phases t)) other)
      ∙ ap (λ r. r.published u) at_h'.0
      ∙ ap (λ v. published_after plan u v.done) there
      ∙ waiting u e listed

  -- a task that is published in a deadlocked set stands where the list found it
  stands_there :
      (w v m : ℕ) (e : Event) → w ≢ t → (state_after h).published w ≡ Some e → (state_after h).phases v e.p.0 ≡ Some m → m < e.n → places h w ≡ enough.others.at w
  stands_there w v m e other published impedes below =
      let listed = enough.all_published w e published in
      let waits = enough.others.found_there.waiting w e other listed in
      let before = enough.others.found_there.before w e other listed in
      let l = later_done (enough.others.at w).done (places h w).done (enough.others.at w).dropped (places h w).dropped before in
      let published_at : published_after plan w (places h w).done ≡ Some e = ap (λ r. r.published w) (sym at_h.0) ∙ published in
      let undropped_w = published_undropped plan (places h) at_h.1 w e published_at in
      elim (cases_lt (enough.others.at w).done (places h w).done) [
        | inl ahead ↦
            let reached = passed plan checked h run w (enough.others.at w).done e waits ahead in
            absurd (let above : e.n ≤ m = reached.1 v m impedes in omega arith)
        | inr not_ahead ↦ same_place (places h w) (enough.others.at w) (omega arith) undropped_w (undropped_before (enough.others.at w) (places h w) before undropped_w)
      ]

  misses_none : WouldBeDead (state_after h) t event → IsDeadBy list t
  misses_none dead =
      record {
        tasks = dead.tasks;
        inside = dead.inside;
        deadlocked = record {
          some = dead.deadlocked.some;
          each = λ u inside.
              let held = dead.deadlocked.each u inside in
              let listed = on_list u held.event held.waits in
              record {
                event = held.event;
                waits = listed;
                by = held.by;
                inside = held.inside;
                phase = held.phase;
                impedes = at_list u held.event listed held.by held.inside held.phase held.impedes;
                below = held.below;
              };
        };
      }
    where
      on_list : (u : ℕ) (e : Event) → updated (state_after h).published t (Some event) u ≡ Some e → IsListedOn list u e
      on_list u e p =
          elim (updated_is (state_after h).published t u (Some event) (Some e) p) [
            | inl own ↦ subst (λ v. IsListedOn list v e) (sym own.0) (subst (λ d. IsListedOn list t d) (let same : event ≡ e = (let x = own.1 in cc) in same) enough.own.listed)
            | inr other ↦ enough.all_published u e other.1
          ]

      at_list : (u : ℕ) (e : Event) → IsListedOn list u e → (w : ℕ) → dead.tasks w ≡ true → (m : ℕ) → (state_after h).phases w e.p.0 ≡ Some m → IsListedAt list w e.p.0 m
      at_list u e listed w inside m phase =
          elim (cases_eq w t) [
            | inl own ↦ subst (λ v. IsListedAt list v e.p.0 m) (sym own) (enough.own.all u m e listed (subst (λ v. (state_after h).phases v e.p.0 ≡ Some m) own phase))
            | inr other ↦
                let held = dead.deadlocked.each w inside in
                let published : (state_after h).published w ≡ Some held.event = sym (updated_other (state_after h).published t w (Some event) other) ∙ held.waits in
                enough.others.all w u m e held.event other (enough.all_published w held.event published)
                (stands_there w held.by held.phase held.event other published held.impedes held.below) listed phase
          ]

  decides : Decides (state_after h) t event list
  decides =
      record { refuses = refuses; misses_none = misses_none; blocks = blocks; others = others }

pub list_decides : ListDecides
list_decides plan a t event list checked reachable enough =
    let h = reachable.steps in
    let there = fun_ext reachable.there in
    let same : state_after h ≡ state_at plan a = (places_fix plan checked h reachable.run).0 ∙ ap (state_at plan) there in
    let enough_h : IsEnoughToDecide plan (state_after h) (places h) t event list =
    subst (λ s. IsEnoughToDecide plan s (places h) t event list) (sym same)
    (subst (λ b. IsEnoughToDecide plan (state_at plan a) b t event list) (sym there) enough) in
    subst (λ s. Decides s t event list) same (decides plan checked h reachable.run t event list enough_h)

pub list_in_hand_decides : ListInHandDecides
list_in_hand_decides plan t aim event seen list a lock checked found lawful has stands own others =
    let published = found_are_published plan t a lock seen list checked lawful has stands.active.unpublished found in
    list_decides plan a t event list checked (lawful_is_reachable true plan a lock lawful)
    (record { nobody = published.0; aim = aim; stands = stands; own = own; all_published = published.1; others = others })
