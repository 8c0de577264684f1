-- Where what is exact is closed under forks, a viewer knows all places.
use Rattle.std.proofs.Common.{◌≡◌, ℕ, zero, suc, ◌<◌, ◌≤◌, true, Option, Some, None, length, sym, ap, subst, arith, inl, inr}
use Rattle.std.proofs.lemmas.Bool.{cases_eq, cases_lt}
use Rattle.armus_base.specs.Plans.{Plan, parent_of}
use Rattle.armus_base.specs.Runs.{Place, first_place}
use Rattle.armus_base.specs.calls.Runs.{Precedes}
use Rattle.armus_base.specs.calls.Places.{IsConsistent}
use Rattle.armus_base.specs.Places.{done_by, forked_at}
use Rattle.armus_base.specs.CheckedPlans.{IsCheckedPlan}
use Rattle.armus_base.specs.calls.Boards.{IsLawful}
use Rattle.armus_base.specs.calls.Seats.{IsAsFarOn, SeenBy}
use Rattle.armus_base.proofs.Fixed.{forked_at_is, forked_later}
use Rattle.armus_base.proofs.BoardRuns.{lawful_is_reachable}
use Rattle.armus_base.proofs.Reachable.{reachable_is_fixed}
use Rattle.board.specs.declared.mode.Mode.{Mode}
use Rattle.board.specs.calls.Views.{avoids}
use Rattle.board.specs.calls.Closing.{AreAllExact}
use Rattle.board.proofs.Closing.{exact_places}
use Rattle.board_runs.specs.calls.TaskSeats.{IsClosed}

less_done : (k : ℕ) (o : Option ℕ) (j : ℕ) (r : Option ℕ) → Precedes k o j r → k ≤ j
less_done k None j r l = l
less_done k (Some p) j None l = absurd l
less_done k (Some p) j (Some q) l = (let e = l.0 in omega arith)

module _ (plan : Plan) (mode : Mode) (a : ℕ → Place) (lock : Option ℕ) (checked : IsCheckedPlan plan) (lawful : IsLawful (avoids mode) plan a lock) (seen : SeenBy) (far : IsAsFarOn plan None a seen) (closed : IsClosed plan seen) (past : (t : ℕ) → length plan.parents ≤ t → seen.places t ≡ first_place) where
  consistent : IsConsistent plan a
  consistent = (reachable_is_fixed plan a checked (lawful_is_reachable (avoids mode) plan a lock lawful)).1

  -- whoever is forked is exact, by the number of the task
  known : (n t : ℕ) → t < n → t < length plan.parents → forked_at plan (done_by a) t ≡ true → seen.exact t ≡ true
  known zero t l small f = absurd (omega arith)
  known (suc n) t l small f = elim (cases_eq t 0) [
    | inl z ↦ subst (λ u. seen.exact u ≡ true) (sym z) closed.root
    | inr not_root ↦ elim (forked_at_is plan (done_by a) t f) [
      | inl z ↦ absurd (not_root z)
      | inr g ↦
          let u : ℕ = parent_of plan t in
          let first : u < t = checked.tables.parents_first t (omega arith) in
          let begun : 0 < (a u).done = (let w = g.1 in omega arith) in
          let ih = known n u (omega arith) (omega arith) (consistent.begun u begun) in
          let same : (a u).done ≡ (seen.places u).done = ap (λ (x : Place). x.done) (far.equal u (omega arith) ih) in
          closed.forked u g.0 t ih (let w = g.1 in omega arith) g.2
    ]
  ]

  pub all_exact : AreAllExact plan seen
  all_exact t small f = known (suc t) t (omega arith) small (forked_later plan (done_by seen.places) (done_by a) t more f)
    where
      more : (u : ℕ) → done_by seen.places u ≤ done_by a u
      more u = elim (cases_lt u (length plan.parents)) [
        | inl l ↦ less_done (seen.places u).done (seen.places u).dropped (a u).done (a u).dropped (far.later u l)
        | inr l ↦ (let z : (seen.places u).done ≡ 0 = ap (λ (x : Place). x.done) (past u l) in omega arith)
      ]

  pub all_places : a ≡ seen.places
  all_places = exact_places plan mode a lock checked lawful seen far all_exact past
