-- A refused task that leaves its phasers, one after the other.
use Rattle.std.proofs.Common.{◌≡◌, ℕ, zero, suc, ◌≤◌, ◌+◌, Bool, true, false, [], ◌∷◌, ◌++◌, Option, Some, None, length, sym, refl, ap, ◌∙◌, subst, arith, inl, inr, append-nil, length-append}
use Rattle.std.specs.Prelude.{IsSome, is_some, if◌then◌else◌}
use Rattle.std.proofs.lemmas.Bool.{cases_lt}
use Rattle.armus_base.specs.Limits.{max_phasers}
use Rattle.armus_base.specs.Plans.{Drops, Plan}
use Rattle.armus_base.specs.Runs.{IsByCode, Place, next_place}
use Rattle.armus_base.specs.Places.{kept, members_below, phases_after}
use Rattle.armus_base.specs.calls.Places.{phases_at_place}
use Rattle.armus_base.specs.States.{Phases}
use Rattle.armus_base.specs.CheckedPlans.{IsCheckedPlan}
use Rattle.armus_base.proofs.Fixed.{kept_above, kept_below, members_below-none, members_below-suc}
use Rattle.board.specs.calls.Views.{own_place, task_of}
use Rattle.board.specs.calls.Seats.{IsSeat, Known, MakesStep}
use Rattle.armus_base.proofs.MemberPhasers.{phaser_of_member}
use Rattle.pl_core.proofs.Refusing.{dropped_below}
use Rattle.phase_scan.specs.calls.Collects.{IfAsked}
use Rattle.avoider.specs.calls.OnBoard.{DropsBelow}
use Rattle.board_runs.specs.calls.Turns.{Goes, HasLeftAll, tasks_forked}
use Rattle.board_runs.specs.inside.Attempts.{drops_below}
use Rattle.board_runs.proofs.Goings.{forks_on, goes_itself, goes_made, goes_on, stepped_place}

-- as many drops as phasers of which the task is a member
counted_more : (m : Phases) (q : ℕ) → length (drops_below m q) ≡ members_below m q → (o : Option ℕ) → m q ≡ o → length (drops_below m (suc q)) ≡ members_below m (suc q)
counted_more m q r None e =
    (let s : length (drops_below m (suc q)) ≡ length (drops_below m q) = ap (λ o. length (drops_below m q ++ (if is_some o then Drops q ∷ [] else []))) e ∙ ap length (append-nil (drops_below m q)) in
    s ∙ r ∙ sym (members_below-none m q e))
counted_more m q r (Some n) e =
    (let s : length (drops_below m (suc q)) ≡ length (drops_below m q ++ Drops q ∷ []) = ap (λ o. length (drops_below m q ++ (if is_some o then Drops q ∷ [] else []))) e in
    let l = length-append (drops_below m q) (Drops q ∷ []) in
    let k = members_below-suc m q n e in
    omega arith)

pub drops_counted : (m : Phases) (q : ℕ) → length (drops_below m q) ≡ members_below m q
drops_counted m zero = refl
drops_counted m (suc q) = counted_more m q (drops_counted m q) (m q) refl

-- none of them forks anybody
pub drops_fork_nobody : (m : Phases) (q : ℕ) → tasks_forked (drops_below m q) ≡ []
drops_fork_nobody m zero = refl
drops_fork_nobody m (suc q) =
    forks_on (drops_below m q) (if is_some (m q) then Drops q ∷ [] else [])
    ∙ ap (λ cs. cs ++ tasks_forked (if is_some (m q) then Drops q ∷ [] else [])) (drops_fork_nobody m q)
    ∙ one (is_some (m q))
  where
    one : (b : Bool) → tasks_forked (if b then Drops q ∷ [] else []) ≡ []
    one true = refl
    one false = refl

-- there are no more of them than phasers
few_more : (m : Phases) (q : ℕ) → members_below m q ≤ q → (o : Option ℕ) → m q ≡ o → members_below m (suc q) ≤ suc q
few_more m q r None e = (let s = members_below-none m q e in omega arith)
few_more m q r (Some n) e = (let s = members_below-suc m q n e in omega arith)

pub few_members : (m : Phases) (q : ℕ) → members_below m q ≤ q
few_members m zero = omega arith
few_members m (suc q) = few_more m q (few_members m q) (m q) refl

pub few_memberships : (plan : Plan) (m : Phases) → IsCheckedPlan plan → members_below m (length plan.makers) ≤ max_phasers
few_memberships plan m checked = (let few = checked.limits.few_phasers in let l = few_members m (length plan.makers) in omega arith)

abbrev place_at : ℕ → ℕ → Place
place_at k d = record { done = k; dropped = Some d }

drop_next : (plan : Plan) (t k : ℕ) (o : Option ℕ) (d q : ℕ) → o ≡ Some d → IsByCode plan t k o (Drops q)
drop_next plan t k None d q e = absurd (cc)
drop_next plan t k (Some r) d q e = tt

-- the drops below q bring it so far
module _ (m : Phases) (first : Known) (d : ℕ) (seat : IsSeat first) (dropped : (own_place first.view).dropped ≡ Some d) where
  pub record HasDropped (q : ℕ) (now : Known) : Type 0 where
    pub goes : Goes (drops_below m q) first now
    pub place : own_place now.view ≡ place_at (own_place first.view).done (d + members_below m q)

  none_dropped : HasDropped 0 first
  none_dropped = record {
    goes = goes_itself first seat;
    place = λ i. record { done = (own_place first.view).done; dropped = (dropped ∙ ap Some (let z : d ≡ d + members_below m 0 = omega arith in z)) i };
  }

  pub drops_go : (q : ℕ) (now : Known) → DropsBelow m q first now → HasDropped q now
  drops_go zero now same = subst (HasDropped 0) (sym same) none_dropped
  drops_go (suc q) now (between, before, made) =
      let b = drops_go q between before in
      by_phase b (m q) refl
    where
      by_phase : HasDropped q between → (o : Option ℕ) → m q ≡ o → HasDropped (suc q) now
      by_phase b None e =
          let same : now ≡ between = subst (λ o. IfAsked (is_some o) (MakesStep (Drops q)) between now) e made in
          let none : drops_below m q ≡ drops_below m (suc q) =
          sym (ap (λ o. drops_below m q ++ (if is_some o then Drops q ∷ [] else [])) e ∙ append-nil (drops_below m q)) in
          record {
            goes = subst (λ k. Goes (drops_below m (suc q)) first k) (sym same) (subst (λ xs. Goes xs first between) none b.goes);
            place = ap (λ (k : Known). own_place k.view) same ∙ b.place ∙ ap (λ n. place_at (own_place first.view).done (d + n)) (sym (members_below-none m q e));
          }
      by_phase b (Some n) e =
          let step : MakesStep (Drops q) between now = subst (λ o. IfAsked (is_some o) (MakesStep (Drops q)) between now) e made in
          let at : (own_place between.view).dropped ≡ Some (d + members_below m q) = ap (λ (x : Place). x.dropped) b.place in
          let one : Goes (Drops q ∷ []) between now =
          goes_made between now (Drops q)
          (drop_next between.view.plan (task_of between.view) (own_place between.view).done (own_place between.view).dropped (d + members_below m q) q at) step in
          let some : drops_below m q ++ Drops q ∷ [] ≡ drops_below m (suc q) = sym (ap (λ o. drops_below m q ++ (if is_some o then Drops q ∷ [] else [])) e) in
          let more : suc (d + members_below m q) ≡ d + members_below m (suc q) = (let s = members_below-suc m q n e in omega arith) in
          record {
            goes = subst (λ xs. Goes xs first now) some (goes_on first between now (drops_below m q) (Drops q ∷ []) b.goes one);
            place = stepped_place between now (Drops q) step ∙ ap (λ (x : Place). next_place x.done x.dropped (Drops q)) b.place
                ∙ ap (place_at (own_place first.view).done) more;
          }

-- where all are dropped the task is a member of nothing
module _ (k m : Known) (ph : Phases) (done : ℕ) (seat : IsSeat m) (plan : m.view.plan ≡ k.view.plan) (task : task_of m.view ≡ task_of k.view) (is : ph ≡ phases_after k.view.plan (task_of k.view) done) where
  abbrev d : ℕ
  d = members_below ph (length k.view.plan.makers)

  checked : IsCheckedPlan k.view.plan
  checked = subst IsCheckedPlan plan seat.checked

  gone : (p : ℕ) (o : Option ℕ) → ph p ≡ o → kept (Some d) ph p ≡ None
  gone p None e = elim (cases_lt (members_below ph p) d) [
    | inl less ↦ kept_below d p ph less
    | inr more ↦ kept_above d p ph more ∙ e
  ]
  gone p (Some n) e =
      dropped_below ph (length k.view.plan.makers) p
      (phaser_of_member k.view.plan checked (task_of k.view) done p n (ap (λ h. h p) (sym is) ∙ e))

  pub has_left_all : own_place m.view ≡ place_at done (members_below ph (length k.view.plan.makers)) → HasLeftAll m
  has_left_all place =
      record {
        refused = subst (λ (x : Place). IsSome x.dropped) (sym place) refl;
        nothing = λ p. (λ i. phases_at_place (plan i) (task i) (place i) p) ∙ ap (λ h. kept (Some d) h p) (sym is) ∙ gone p (ph p) refl;
      }
