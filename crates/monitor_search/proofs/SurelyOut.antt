-- Who is freed, or waits for those who are freed alone, stands in no closed set.
use Rattle.std.proofs.Common.{◌≡◌, ℕ, Bool, true, not, ◌==◌, List, refl, ap, subst, inl, inr}
use Rattle.std.specs.Prelude.{Contains}
use Rattle.std.specs.List.{list_any}
use Rattle.std.proofs.lemmas.Bool.{and_from, and_parts, cases_Bool, not_from_false}
use Rattle.monitor_laws.specs.States.{Condition, Running, Waiting, Ended, AnyTask, OneOf, Participant, TraceState, is_live_task}
use Rattle.monitor_laws.specs.Stuck.{IsClosedSet, IsKeptIn, has_phase_below}
use Rattle.monitor_laws.proofs.Filters.{any_from, any_is}
use Rattle.monitor_search.specs.inside.Leaving.{is_freed, is_surely_out, is_unfreed_below, runs_as_one_of, runs_now}
use Rattle.monitor_search.proofs.Parted.{has_number}

pub runs_is : (c : Condition) → runs_now c ≡ true → c ≡ Running
runs_is Running on = refl
runs_is (Waiting p n) on = absurd (cc)
runs_is Ended on = absurd (cc)
runs_is AnyTask on = absurd (cc)
runs_is (OneOf names tasks) on = absurd (cc)

-- a list of which each that runs is listed in the state
module _ (s : TraceState) (list : List Participant) (listed : (u : Participant) → Contains list u → runs_now u.condition ≡ true → Contains s.list u) (set : ℕ → Bool) (closed : IsClosedSet s set) where
  runner_out : (u : Participant) → Contains list u → runs_now u.condition ≡ true → set u.number ≡ true → ⊥
  runner_out u within runs inside = subst (λ c. IsKeptIn s set c) (runs_is u.condition runs) (closed u (listed u within runs) inside)

  runner_lives : (u : Participant) → runs_now u.condition ≡ true → is_live_task u.condition ≡ true
  runner_lives u runs = ap is_live_task (runs_is u.condition runs)

  pub freed_out : (c : Condition) → is_freed list c ≡ true → IsKeptIn s set c → ⊥
  freed_out Running on kept = kept
  freed_out (Waiting p n) on kept = absurd (cc)
  freed_out Ended on kept = absurd (cc)
  freed_out AnyTask on all =
      let u = any_is (λ v. runs_now v.condition) list on in
      runner_out u.0 u.1 u.2 (all u.0 (listed u.0 u.1 u.2) (runner_lives u.0 u.2))
  freed_out (OneOf names tasks) on all =
      let u = any_is (runs_as_one_of tasks) list on in
      let parts = and_parts (runs_now u.0.condition) (list_any (λ k. k == u.0.number) tasks) u.2 in
      runner_out u.0 u.1 parts.0 (all u.0 (listed u.0 u.1 parts.0) (runner_lives u.0 parts.0) (has_number tasks u.0 parts.1))

pub surely_out : (s : TraceState) (c : Condition) → is_surely_out s.list c ≡ true → (set : ℕ → Bool) → IsClosedSet s set → IsKeptIn s set c → ⊥
surely_out s Running on set closed kept = kept
surely_out s (Waiting p n) on set closed (u, within, below, inside) =
    elim (cases_Bool (is_freed s.list u.condition)) [
      | inl freed ↦ freed_out s s.list (λ v listed runs. listed) set closed u.condition freed (closed u within inside)
      | inr other ↦
          (let some = any_from (is_unfreed_below s.list p n) s.list u within (and_from (has_phase_below u p n) (not (is_freed s.list u.condition)) below (not_from_false (is_freed s.list u.condition) other)) in
          let e = ap not some in
          absurd (cc))
    ]
surely_out s Ended on set closed kept = absurd (cc)
surely_out s AnyTask on set closed kept = freed_out s s.list (λ v listed runs. listed) set closed AnyTask on kept
surely_out s (OneOf names tasks) on set closed kept = freed_out s s.list (λ v listed runs. listed) set closed (OneOf names tasks) on kept
