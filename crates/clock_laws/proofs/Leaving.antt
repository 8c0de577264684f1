-- Going on at an advance, the end of a finish, and the end of an activity.
use Rattle.std.proofs.Common.{◌≡◌, ◌≢◌, ℕ, zero, suc, ◌+◌, ◌<◌, ◌≤◌, true, false, Option, Some, None, List, [], ◌∷◌, length, drop, arith, sym, ◌∙◌, ap, refl, inl, inr}
use Rattle.std.specs.Prelude.{◌==◌, map}
use Rattle.std.specs.Option.{option_map}
use Rattle.std.proofs.lemmas.Bool.{cases_eq, eq-eqb, ne_eqb, false≢true}
use Rattle.armus_base.specs.declared.op.Op.{Op}
use Rattle.armus_base.specs.declared.op.Op.TheVariants as op
use Rattle.armus_base.specs.declared.offset.Offset.TheVariants.{Here}
use Rattle.armus_base.specs.Offsets.{target}
use Rattle.armus_base.specs.Numbers.{phaser}
use Rattle.armus_base.specs.Plans.{Action, Advances, Blocks, Drops, Passes, Plan, actions, actions_of, maker_of}
use Rattle.armus_base.specs.calls.Plans.{here}
use Rattle.armus_base.specs.States.{IsReached, State, Step, awaited, event_at, event_on, next_phase}
use Rattle.armus_base.specs.Runs.{IsPlainRun, places, state_after}
use Rattle.armus_base.specs.Places.{done_by, kept, phases_after, phases_at, some_before}
use Rattle.armus_base.specs.CheckedPlans.{IsCheckedPlan}
use Rattle.armus_base.proofs.Fixed.{phases_forked, some_before_from}
use Rattle.armus_base.proofs.Members.{plain_undropped}
use Rattle.armus_base.proofs.Steps.{updated_other, updated_same, with_phase_other, with_phase_same}
use Rattle.armus_base.proofs.Stepping.{places_fix}
use Rattle.armus_base.proofs.Tasks.{done_within_code, member_within}
use Rattle.clock_laws.proofs.Lawful.{ClockKinds}
use Rattle.clock_laws.specs.calls.Direct.{ClockState, forgetting, departing_all, with_column, with_entry}
use Rattle.clock_laws.proofs.Acting.{actions_left, next_legal_here, step_of, unrefused}
use Rattle.clock_laws.proofs.Cells.{AgreesAt, agrees_from, drops_finish_at, finish_phase, forgets_at, is_least, member_open, outside, remembers_below}
use Rattle.clock_laws.proofs.Entries.{column_at, column_other, entry_at, entry_other, everywhere}
use Rattle.clock_laws.proofs.Matching.{Goes, Midst, arrives, goes_first, goes_on}
use Rattle.clock_laws.proofs.Moving.{goes_next, legal_next}

module _ (plan : Plan) (checked : IsCheckedPlan plan) (t : ℕ) where
  -- an await of an event that is reached: the task publishes it and passes
  module _ (h g : List Step) (p : ℕ) (xs : List Action) (goes : Goes plan t h g (Blocks (here p) ∷ (Passes p ∷ xs)))
      (forked : (state_after g).forked t ≡ true) (quiet : (u : ℕ) → (state_after g).published u ≡ None) (n : ℕ)
      (phase : (state_after g).phases t p ≡ Some n) where
    pub blocks_first : Goes plan t h (step_of t (Blocks (here p)) ∷ g) (Passes p ∷ xs)
    blocks_first =
        goes_on plan checked t h g (Blocks (here p)) (Passes p ∷ xs) goes
        (next_legal_here plan checked g goes.run t (Blocks (here p)) (Passes p ∷ xs) goes.own forked (quiet t))

    pub published_there : (state_after (step_of t (Blocks (here p)) ∷ g)).published t ≡ Some (event_at p n)
    published_there =
        updated_same (state_after g).published t t (awaited (Some (Blocks (here p))) ((state_after g).phases t)) refl
        ∙ ap (λ o. event_on p (option_map (target Here) o)) phase

    pub passes_then : IsReached (state_after g) (event_at p n) → Goes plan t h (step_of t (Passes p) ∷ (step_of t (Blocks (here p)) ∷ g)) xs
    passes_then reached =
        goes_on plan checked t h (step_of t (Blocks (here p)) ∷ g) (Passes p) xs blocks_first (
          forked,
          n,
          published_there,
          reached,
          unrefused plan checked (step_of t (Blocks (here p)) ∷ g) blocks_first.run t (Passes p) xs,
        )

    pub quiet_then : (u : ℕ) → (state_after (step_of t (Passes p) ∷ (step_of t (Blocks (here p)) ∷ g))).published u ≡ None
    quiet_then u =
        elim (cases_eq u t) [
          | inl same ↦ updated_same (state_after (step_of t (Blocks (here p)) ∷ g)).published t u None same
          | inr other ↦
              updated_other (state_after (step_of t (Blocks (here p)) ∷ g)).published t u None other
              ∙ updated_other (state_after g).published t u (awaited (Some (Blocks (here p))) ((state_after g).phases t)) other
              ∙ quiet u
        ]

  module _ (clock : ClockKinds) (e : Option ℕ) (s : ClockState) where
    -- an advance that has signalled goes on, once the clock's phase is above
    pub goes_on_at_advance :
        (h : List Step) (p k : ℕ) (xs : List Action) → clock.is p ≡ true → s.remembered p t ≡ Some k → k < s.phase p →
        Midst plan clock t e s h (Blocks (here p) ∷ (Passes p ∷ xs)) →
        Midst plan clock t e (forgetting t p s) (step_of t (Passes p) ∷ (step_of t (Blocks (here p)) ∷ h)) xs
    goes_on_at_advance h p k xs is memory above m =
        let σ : State = state_after h in
        let phase : σ.phases t p ≡ Some (k + 1) = remembers_below (m.cells p t) k memory in
        let g : Goes plan t h h (Blocks (here p) ∷ (Passes p ∷ xs)) = goes_first plan checked t h (Blocks (here p) ∷ (Passes p ∷ xs)) m.run m.own in
        let reached : IsReached σ (event_at p (k + 1)) = λ u j w. (let l : s.phase p ≤ j = is_least (m.cells p u) is j w in omega arith) in
        arrives plan checked t clock e e s (forgetting t p s) h (step_of t (Passes p) ∷ (step_of t (Blocks (here p)) ∷ h)) (Blocks (here p) ∷ (Passes p ∷ xs)) xs m
        (passes_then h h p xs g m.acting m.quiet (k + 1) phase reached) m.acting (quiet_then h h p xs g m.acting m.quiet (k + 1) phase) m.started
        (everywhere
        (λ q u. AgreesAt (clock.is q) (u == maker_of plan q) (s.phase q) (s.enrolled q u) (s.unsignalled q u) (with_entry s.remembered p t None q u) (s.open_set q u)
        (σ.phases u q))
        p t
        (agrees_from (clock.is p) (t == maker_of plan p) (s.phase p) (s.phase p) (s.enrolled p t) (s.enrolled p t) (s.unsignalled p t) (s.unsignalled p t) None
        (with_entry s.remembered p t None p t) (s.open_set p t) (s.open_set p t) (σ.phases t p) (σ.phases t p)
        refl refl refl (entry_at s.remembered p t None p t refl refl) refl refl
        (forgets_at (m.cells p t) k memory above))
        (λ q u n.
        agrees_from (clock.is q) (u == maker_of plan q) (s.phase q) (s.phase q) (s.enrolled q u) (s.enrolled q u) (s.unsignalled q u) (s.unsignalled q u) (s.remembered q u)
        (with_entry s.remembered p t None q u) (s.open_set q u) (s.open_set q u) (σ.phases u q) (σ.phases u q)
        refl refl refl (entry_other s.remembered p t None q u n) refl refl
        (m.cells q u)))
        m.idle m.firsts (λ u n. refl) (λ q u n. entry_other s.remembered p t None q u (λ _. n))

    -- the end of a finish of which nobody but its maker is a member
    module _ (h : List Step) (f : ℕ) (xs : List Action) (is : clock.is f ≡ false) (made : maker_of plan f ≡ t)
        (none : some_before (s.open_set f) (length plan.parents) ≡ false)
        (m : Midst plan clock t e s h (Advances f ∷ (Blocks (here f) ∷ (Passes f ∷ (Drops f ∷ xs))))) where
      first_phase : (state_after h).phases t f ≡ Some 0
      first_phase =
          let member = (legal_next plan checked clock t e s h (Advances f) (Blocks (here f) ∷ (Passes f ∷ (Drops f ∷ xs))) m).1 in
          finish_phase (m.cells f t) is member.0 member.1

      second_phase : (state_after (step_of t (Advances f) ∷ h)).phases t f ≡ Some 1
      second_phase = with_phase_same (state_after h).phases t f (next_phase ((state_after h).phases t f)) ∙ ap next_phase first_phase

      -- another member would be in the open set
      alone : (u j : ℕ) → u ≢ t → (state_after h).phases u f ≢ Some j
      alone u j other w =
          let opened : s.open_set f u ≡ true = member_open (m.cells f u) is (ne_eqb u (maker_of plan f) (λ same. other (same ∙ made))) j w in
          false≢true (sym none ∙ some_before_from (s.open_set f) (length plan.parents) u (member_within plan checked h m.run.0 u f j w) opened)

      reached_then : IsReached (state_after (step_of t (Advances f) ∷ h)) (event_at f 1)
      reached_then u j w =
          elim (cases_eq u t) [
            | inl same ↦
                (let both : Some 1 ≡ Some j = sym second_phase ∙ ap (λ v. (state_after (step_of t (Advances f) ∷ h)).phases v f) (sym same) ∙ w in
                let one : 1 ≡ j = (cc) in
                omega arith)
            | inr other ↦
                absurd (alone u j other
                (sym (with_phase_other (state_after h).phases t f (next_phase ((state_after h).phases t f)) u f (λ same. absurd (other same))) ∙ w))
          ]

      after_advance : Goes plan t h (step_of t (Advances f) ∷ h) (Blocks (here f) ∷ (Passes f ∷ (Drops f ∷ xs)))
      after_advance = goes_next plan checked clock t e s h (Advances f) (Blocks (here f) ∷ (Passes f ∷ (Drops f ∷ xs))) m

      abbrev passed_run : List Step
      passed_run = step_of t (Passes f) ∷ (step_of t (Blocks (here f)) ∷ (step_of t (Advances f) ∷ h))

      after_pass : Goes plan t h passed_run (Drops f ∷ xs)
      after_pass = passes_then h (step_of t (Advances f) ∷ h) f (Drops f ∷ xs) after_advance m.acting m.quiet 1 second_phase reached_then

      quiet_pass : (u : ℕ) → (state_after passed_run).published u ≡ None
      quiet_pass = quiet_then h (step_of t (Advances f) ∷ h) f (Drops f ∷ xs) after_advance m.acting m.quiet 1 second_phase

      after_drop : Goes plan t h (step_of t (Drops f) ∷ passed_run) xs
      after_drop =
          goes_on plan checked t h passed_run (Drops f) xs after_pass
          (next_legal_here plan checked passed_run after_pass.run t (Drops f) xs after_pass.own m.acting (quiet_pass t))

      phases_other :
          (u q : ℕ) → (q ≡ f → u ≢ t) → (state_after (step_of t (Drops f) ∷ passed_run)).phases u q ≡ (state_after h).phases u q
      phases_other u q n =
          with_phase_other (state_after passed_run).phases t f None u q (λ a b. n b a)
          ∙ with_phase_other (state_after h).phases t f (next_phase ((state_after h).phases t f)) u q (λ a b. n b a)

      pub ends_finish : Midst plan clock t e s (step_of t (Drops f) ∷ passed_run) xs
      ends_finish =
          let σ : State = state_after h in
          arrives plan checked t clock e e s s h (step_of t (Drops f) ∷ passed_run) (Advances f ∷ (Blocks (here f) ∷ (Passes f ∷ (Drops f ∷ xs)))) xs m
          after_drop m.acting quiet_pass m.started
          (everywhere
          (λ q u. AgreesAt (clock.is q) (u == maker_of plan q) (s.phase q) (s.enrolled q u) (s.unsignalled q u) (s.remembered q u) (s.open_set q u) ((state_after (step_of t
          (Drops f) ∷ passed_run)).phases u q))
          f t
          (agrees_from (clock.is f) (t == maker_of plan f) (s.phase f) (s.phase f) (s.enrolled f t) (s.enrolled f t) (s.unsignalled f t) (s.unsignalled f t) (s.remembered f t)
          (s.remembered f t) (s.open_set f t) (s.open_set f t) None ((state_after (step_of t (Drops f) ∷ passed_run)).phases t f)
          refl refl refl refl refl (with_phase_same (state_after passed_run).phases t f None)
          (drops_finish_at (m.cells f t) is (eq-eqb t (maker_of plan f) (sym made))))
          (λ q u n.
          agrees_from (clock.is q) (u == maker_of plan q) (s.phase q) (s.phase q) (s.enrolled q u) (s.enrolled q u) (s.unsignalled q u) (s.unsignalled q u) (s.remembered q u)
          (s.remembered q u) (s.open_set q u) (s.open_set q u) (σ.phases u q) ((state_after (step_of t (Drops f) ∷ passed_run)).phases u q)
          refl refl refl refl refl (phases_other u q n)
          (m.cells q u)))
          (λ u n d q. elim (cases_eq u t) [
            | inl same ↦ absurd (false≢true (sym d ∙ ap σ.forked same ∙ m.acting))
            | inr other ↦ phases_other u q (λ _. other) ∙ m.idle u n d q
          ])
          m.firsts (λ u n. refl) (λ q u n. refl)

  -- the Drops of an activity's end, one after the other
  abbrev pub drop_ops : List ℕ → List Op
  drop_ops ps = map (λ p. op.Drop (phaser p)) ps

  -- what these steps leave as it was
  pub record KeepsRest (g g' : List Step) : Type 0 where
    pub forked : (u : ℕ) → (state_after g').forked u ≡ (state_after g).forked u
    pub published : (u : ℕ) → (state_after g').published u ≡ (state_after g).published u
    pub phases : (u q : ℕ) → u ≢ t → (state_after g').phases u q ≡ (state_after g).phases u q

  pub drops_all :
      (ps : List ℕ) (h g : List Step) → Goes plan t h g (actions_of (drop_ops ps)) → (state_after g).forked t ≡ true →
      (state_after g).published t ≡ None → (g' : List Step) × Goes plan t h g' [] × KeepsRest g g'
  drops_all [] h g goes forked quiet = (g, goes, record { forked = λ u. refl; published = λ u. refl; phases = λ u q n. refl })
  drops_all (p ∷ ps) h g goes forked quiet =
      let legal = next_legal_here plan checked g goes.run t (Drops p) (actions_of (drop_ops ps)) goes.own forked quiet in
      let more = drops_all ps h (step_of t (Drops p) ∷ g) (goes_on plan checked t h g (Drops p) (actions_of (drop_ops ps)) goes legal) forked quiet in (
        more.0,
        more.1,
        record {
          forked = more.2.forked;
          published = more.2.published;
          phases = λ u q n. more.2.phases u q n ∙ with_phase_other (state_after g).phases t p None u q (λ same. absurd (n same));
        },
      )

  -- a task whose code is done is a member of nothing, where that is so of its whole code
  pub member_of_nothing :
      ((q : ℕ) → phases_after plan t (length (actions plan t)) q ≡ None) → (h : List Step) → IsPlainRun plan h →
      (state_after h).forked t ≡ true → actions_left plan h t ≡ [] → (q : ℕ) → (state_after h).phases t q ≡ None
  member_of_nothing leaves h run forked left q =
      let at = places_fix plan checked h run.0 in
      let all : (places h t).done ≡ length (actions plan t) = (let l = done_within_code plan checked h run t in let m = drop_nothing (places h t).done
      (actions plan t) left in omega arith) in
      ap (λ s. s.phases t q) at.0
      ∙ ap (λ o. kept o (phases_at plan (done_by (places h)) t) q) (plain_undropped plan h run t)
      ∙ ap (λ f. f q) (phases_forked plan checked (done_by (places h)) t (ap (λ s. s.forked t) (sym at.0) ∙ forked))
      ∙ ap (λ k. phases_after plan t k q) all
      ∙ leaves q
    where
      drop_nothing : {A : Type 0} (k : ℕ) (xs : List A) → drop k xs ≡ [] → length xs ≤ k
      drop_nothing k [] e = omega arith
      drop_nothing zero (x ∷ xs) e = absurd (cc)
      drop_nothing (suc k) (x ∷ xs) e = (let l = drop_nothing k xs e in omega arith)

  module _ (clock : ClockKinds) (s : ClockState) where
    -- the end of an activity
    pub leaves_all :
        (h : List Step) (ps : List ℕ) → ((q : ℕ) → phases_after plan t (length (actions plan t)) q ≡ None) →
        Midst plan clock t None s h (actions_of (drop_ops ps)) → (g : List Step) × Midst plan clock t None (departing_all t s) g []
    leaves_all h ps leaves m =
        let σ : State = state_after h in
        let done = drops_all ps h h (goes_first plan checked t h (actions_of (drop_ops ps)) m.run m.own) m.acting (m.quiet t) in
        let acting : (state_after done.0).forked t ≡ true = done.2.forked t ∙ m.acting in
        let nothing = member_of_nothing leaves done.0 done.1.run acting done.1.own in (
          done.0,
          arrives plan checked t clock None None s (departing_all t s) h done.0 (actions_of (drop_ops ps)) [] m done.1 acting
              (λ u. done.2.published u ∙ m.quiet u) (λ u. m.started u ∙ sym (done.2.forked u))
              (λ q u. elim (cases_eq u t) [
                | inl same ↦
                    agrees_from (clock.is q) (u == maker_of plan q) (s.phase q) (s.phase q) false (with_column s.enrolled t false q u) false
                    (with_column s.unsignalled t false q u) None (with_column s.remembered t None q u) false (with_column s.open_set t false q u) None
                    ((state_after done.0).phases u q)
                    refl (column_at s.enrolled t false q u same) (column_at s.unsignalled t false q u same) (column_at s.remembered t None q u same)
                    (column_at s.open_set t false q u same)
                    (ap (λ v. (state_after done.0).phases v q) same ∙ nothing q) outside
                | inr other ↦
                    agrees_from (clock.is q) (u == maker_of plan q) (s.phase q) (s.phase q) (s.enrolled q u) (with_column s.enrolled t false q u) (s.unsignalled q u)
                    (with_column s.unsignalled t false q u) (s.remembered q u) (with_column s.remembered t None q u) (s.open_set q u) (with_column s.open_set t false q u)
                    (σ.phases u q) ((state_after done.0).phases u q)
                    refl (column_other s.enrolled t false q u other) (column_other s.unsignalled t false q u other) (column_other s.remembered t None q u other)
                    (column_other s.open_set t false q u other)
                    (done.2.phases u q other) (m.cells q u)
              ])
              (λ u n d q. elim (cases_eq u t) [
                | inl same ↦ absurd (false≢true (sym d ∙ ap (state_after done.0).forked same ∙ acting))
                | inr other ↦ done.2.phases u q other ∙ m.idle u n (sym (done.2.forked u) ∙ d) q
              ])
              (λ u f. m.firsts u (sym (done.2.forked u) ∙ f)) (λ u n. refl) (λ q u n. column_other s.remembered t None q u n),
        )
