-- In a final state of a clock program whoever is a member of a clock or a finish waits.
use Rattle.std.proofs.Common.{◌≡◌, ◌≢◌, ℕ, false, Option, Some, None, List, [], ◌++◌, length, arith, sym, ◌∙◌, ap, subst, refl, inl, inr}
use Rattle.std.proofs.lemmas.Bool.{cases_Bool, cases_eq, cases_lt, false≢true}
use Rattle.armus_base.specs.Places.{done_by, made_at, makes, some_before, state_at}
use Rattle.armus_base.specs.Plans.{Plan, action_at, maker_of}
use Rattle.armus_base.specs.Runs.{places, state_after}
use Rattle.armus_base.specs.States.{Step}
use Rattle.armus_base.proofs.Members.{member_made}
use Rattle.armus_base.proofs.Stepping.{places_fix}
use Rattle.armus_base.specs.calls.Places.{IsConsistent}
use Rattle.armus_base.proofs.Tasks.{member_within}
use Rattle.clock_semantics.specs.Moves.{Move}
use Rattle.clock_semantics.specs.Unfolding.{plan_of_moves}
use Rattle.clock_laws.specs.calls.Direct.{ClockState, IsClockEnd, direct_opening}
use Rattle.clock_laws.specs.calls.Laws.{moves_of}
use Rattle.clock_laws.proofs.ClockRuns.{runs_end}
use Rattle.clock_laws.proofs.Ending.{Closes, Closing, blocked_task, done_task, final_is, is_closed, last_run, unstarted_task}
use Rattle.clock_laws.proofs.Lawful.{ClockKinds}
use Rattle.clock_laws.proofs.LawfulMoves.{kinds_now, plan_is_of_moves}
use Rattle.clock_laws.proofs.Leaving.{member_of_nothing}
use Rattle.clock_laws.proofs.Matching.{Matches}
use Rattle.clock_laws.proofs.Simulating.{IsPlanOfMoves, leaves_all_phasers, run_follows}
use Rattle.explain_clock.specs.calls.ParagraphLaws.{IsWaitingIn, MembersWait}

module _ (plan : Plan) (clock : ClockKinds) (moves : ℕ → List Move) (of : IsPlanOfMoves plan clock moves) (s : ClockState) (h : List Step)
    (matches : Matches plan clock s h) (at_rest : IsClockEnd (length plan.parents) s) where
  abbrev last : List Step
  last = last_run plan clock moves of s h matches at_rest

  closed : Closing plan clock moves of s h matches at_rest (length plan.parents) last
  closed = is_closed plan clock moves of s h matches at_rest

  fixed : (state_after last ≡ state_at plan (places last)) × IsConsistent plan (places last)
  fixed = places_fix plan of.checked last closed.run.0

  -- who is not forked has done nothing
  not_begun : (t : ℕ) → (state_after last).forked t ≡ false → done_by (places last) t ≡ 0
  not_begun t idle = elim (cases_lt 0 (done_by (places last) t)) [
    | inl some ↦ absurd (false≢true (sym idle ∙ ap (λ z. z.forked t) fixed.0 ∙ fixed.1.begun t some))
    | inr none ↦ omega arith
  ]

  -- and has made nothing
  not_made : (t q : ℕ) → (state_after last).forked t ≡ false → t ≡ maker_of plan q → made_at plan (done_by (places last)) q ≡ false
  unfolding made_at
  not_made t q idle maker =
      ap (some_before (λ j. makes (action_at plan (maker_of plan q) j) q)) (ap (done_by (places last)) (sym maker) ∙ not_begun t idle)

  member_waits : (t q n : ℕ) → (state_after last).phases t q ≡ Some n → Closes plan clock moves of s h matches at_rest last t → IsWaitingIn (state_after last) t
  member_waits t q n member (blocked_task e stands started published holds) = (e, published)
  member_waits t q n member (done_task started over none quiet) =
      absurd (let nothing = member_of_nothing plan of.checked t (leaves_all_phasers plan clock moves of s h matches t (sym (matches.started t) ∙ started)) last closed.run
      (closed.forked t ∙ sym (matches.started t) ∙ started) none q in cc)
  member_waits t q n member (unstarted_task idle quiet) = absurd (elim (cases_Bool (clock.is q)) [
    | inl is ↦ as_before (λ off. absurd (false≢true (sym off ∙ is)))
    | inr off ↦ elim (cases_eq t (maker_of plan q)) [
      | inl maker ↦
          false≢true (sym (not_made t q unforked maker) ∙ ap (λ z. z.made q) (sym fixed.0) ∙ member_made plan last closed.run.0 t q n member)
      | inr other ↦ as_before (λ z. other)
    ]
  ])
    where
      unforked : (state_after last).forked t ≡ false
      unforked = closed.forked t ∙ sym (matches.started t) ∙ idle

      as_before : (clock.is q ≡ false → t ≢ maker_of plan q) → ⊥
      as_before apart =
          let same = closed.phases t q apart in
          let none = matches.idle t (λ x. absurd cc) (sym (matches.started t) ∙ idle) q in
          let both : ◌≡◌ {A = Option ℕ} (Some n) None = sym member ∙ same ∙ none in
          cc

  pub members_wait_last : (t q n : ℕ) → (state_after last).phases t q ≡ Some n → IsWaitingIn (state_after last) t
  members_wait_last t q n member = member_waits t q n member (closed.closed t (member_within plan of.checked last closed.run.0 t q n member))

pub members_wait : MembersWait
members_wait p u s t q n e final member =
    let plan = plan_of_moves u in
    let of = plan_is_of_moves p u e in
    let end = runs_end p u [] (direct_opening (moves_of u)) e refl in
    let m = run_follows plan (kinds_now p u e) (moves_of u) of (end.0 ++ []) end.1 end.2 in
    let is = final_is plan (kinds_now p u e) (moves_of u) of end.1 m.0 m.1 end.3 s final in
    subst (λ z. IsWaitingIn z t) (sym is)
    (members_wait_last plan (kinds_now p u e) (moves_of u) of end.1 m.0 m.1 end.3 t q n (ap (λ z. z.phases t q) (sym is) ∙ member))
