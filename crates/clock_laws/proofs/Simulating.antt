-- Each run of the direct machine is one of the plan.
use mathlib.Core.Path.{fun_ext}
use Rattle.std.proofs.Common.{◌≡◌, ℕ, ◌<◌, Bool, true, false, Option, Some, None, List, [], ◌∷◌, ◌++◌, length, append_assoc, append-nil, sym, ◌∙◌, ap, subst, refl, inl, inr}
use Rattle.std.specs.List.{list_any}
use Rattle.std.specs.Prelude.{◌==◌, ◌||◌, if◌then◌else◌, is_some, nat_lt, option_to_list}
use Rattle.std.specs.Option.{option_map}
use Rattle.std.proofs.lemmas.Bool.{cases_Bool, cases_eq, eqb-true, false≢true, ltb-true}
use Rattle.armus_base.specs.declared.op.Op.{Op}
use Rattle.armus_base.specs.declared.op.Op.TheVariants as op
use Rattle.armus_base.specs.declared.offset.Offset.TheVariants.{Here}
use Rattle.armus_base.specs.Numbers.{phaser, task}
use Rattle.armus_base.specs.Plans.{Action, Advances, Blocks, Drops, Forks, Passes, Plan, actions, actions_of, code_of, maker_of}
use Rattle.armus_base.specs.calls.Plans.{here}
use Rattle.armus_base.specs.States.{Step, updated}
use Rattle.armus_base.specs.Runs.{state_after}
use Rattle.armus_base.specs.Places.{first_phases, phases_after, some_before}
use Rattle.armus_base.specs.CheckedPlans.{HasFork, IsCheckedPlan}
use Rattle.armus_base.proofs.Steps.{updated_other, updated_same}
use Rattle.clock_semantics.specs.Moves.{Move, ActivityStanding, after_move, code_from, no_standing, with_pending, opens, starts, advances, resumes, drops, begins, ends, stops}
use Rattle.clock_laws.specs.calls.Direct.{ClockState, advance_of, direct_opening, clock_run, clock_step, enrolling, enrolling_all, forgetting, going, joining, departing, departing_all, move_of, opening_clock, settled, signalling, starting, step_from, with_entry}
use Rattle.clock_laws.proofs.Lawful.{AreLawfulMoves, ClockKinds}
use Rattle.clock_laws.proofs.Acting.{actions_left, step_of}
use Rattle.clock_laws.proofs.Cells.{finish_forgets, outside}
use Rattle.clock_laws.proofs.Entries.{column_at, drop_none, entry_at, entry_other, some_is}
use Rattle.clock_laws.proofs.LastPhases.{last_phases_none}
use Rattle.clock_laws.proofs.Leaving.{drop_ops, ends_finish, goes_on_at_advance, leaves_all}
use Rattle.clock_laws.proofs.Matching.{HasLeft, Matches, Midst}
use Rattle.clock_laws.proofs.Moving.{begins_finish, leaves_clock, legal_next, opens_clock, signals}
use Rattle.clock_laws.proofs.Registering.{enrols_all, exempts, joins_any, nothing_remembered, reg_ops, starts_child}
use Rattle.clock_laws.proofs.Settling.{begins_move, ends_move, has_moved, in_other_words}

-- a checked plan of activities that make these moves: its codes are theirs, they are lawful, and each task has a fork
pub record IsPlanOfMoves (plan : Plan) (clock : ClockKinds) (moves : ℕ → List Move) : Type 0 where
  pub checked : IsCheckedPlan plan
  pub root : (q : ℕ) → (clock.first 0).members q ≡ false
  pub idle : (t p : ℕ) → (clock.first t).pending p ≡ false
  pub codes : (t : ℕ) → code_of plan t ≡ code_from (clock.first t) (moves t)
  pub lawful : (t : ℕ) → AreLawfulMoves clock (maker_of plan) t (clock.first t) (moves t)
  pub forked : (c : ℕ) → 0 < c → c < length plan.parents → HasFork plan c

-- the ops of an advance, by whether the clock is pending, and those behind it
abbrev pub advance_actions : Bool → ℕ → List Op → List Action
advance_actions b p rest = actions_of (((if b then [] else op.Adv (phaser p) ∷ []) ++ op.Await (phaser p) Here ∷ []) ++ rest)

-- whether one of two lists has it
pub any_of : (test : ℕ → Bool) (ps fs : List ℕ) → list_any test (ps ++ fs) ≡ (list_any test fs || (list_any test ps || false))
any_of test [] fs = or_nothing (list_any test fs)
  where
    or_nothing : (b : Bool) → b ≡ (b || false)
    or_nothing true = refl
    or_nothing false = refl
any_of test (p ∷ ps) fs = ap (λ b. test p || b) (any_of test ps fs) ∙ swapped (test p) (list_any test fs) (list_any test ps)
  where
    swapped : (a b d : Bool) → (a || (b || (d || false))) ≡ (b || ((a || d) || false))
    swapped true true d = refl
    swapped true false d = refl
    swapped false true d = refl
    swapped false false d = refl

-- a forked task whose code is done is a member of nothing
pub leaves_all_phasers :
    (plan : Plan) (clock : ClockKinds) (moves : ℕ → List Move) → IsPlanOfMoves plan clock moves → (s : ClockState) (h : List Step) → Matches plan clock s h →
    (t : ℕ) → (state_after h).forked t ≡ true → (q : ℕ) → phases_after plan t (length (actions plan t)) q ≡ None
leaves_all_phasers plan clock moves of s h m t forked =
    last_phases_none plan clock (maker_of plan) t (clock.first t) (moves t) (of.codes t) (of.lawful t) (m.firsts t forked)

module _ (plan : Plan) (clock : ClockKinds) (moves : ℕ → List Move) (of : IsPlanOfMoves plan clock moves) (t : ℕ) where
  abbrev Follows : ClockState → Type 0
  Follows s = (h : List Step) × Matches plan clock s h

  -- a move that leaves the activity with these moves
  ends_with :
      (s : ClockState) (h : List Step) (ms : List Move) (standing : ActivityStanding) → ((p : ℕ) → standing.pending p ≡ is_some (s.remembered p t)) →
      AreLawfulMoves clock (maker_of plan) t standing ms → Midst plan clock t None s h (actions_of (code_from standing ms)) →
      Follows (settled (length plan.parents) (going t ms s))
  ends_with s h ms standing pending lawful m = (
    h,
    ends_move plan of.checked clock t (going t ms s) h (actions_of (code_from standing ms))
        (has_moved plan of.checked clock t s h ms (actions_of (code_from standing ms)) m)
        (record {
          standing = standing;
          pending = pending;
          code = ap (λ v. actions_of (code_from standing v)) (sym (updated_same s.left t t ms refl));
          lawful = subst (AreLawfulMoves clock (maker_of plan) t standing) (sym (updated_same s.left t t ms refl)) lawful;
        }),
  )

  -- what is pending and what is remembered changes alike
  pending_with :
      (pending : ℕ → Bool) (memory : ℕ → ℕ → Option ℕ) (p : ℕ) (b : Bool) (v : Option ℕ) → b ≡ is_some v →
      ((q : ℕ) → pending q ≡ is_some (memory q t)) → (q : ℕ) → updated pending p b q ≡ is_some (with_entry memory p t v q t)
  pending_with pending memory p b v e agree q =
      elim (cases_eq q p) [
        | inl same ↦ updated_same pending p q b same ∙ e ∙ ap is_some (sym (entry_at memory p t v q t same refl))
        | inr other ↦ updated_other pending p q b other ∙ agree q ∙ ap is_some (sym (entry_other memory p t v q t (λ same. absurd (other same))))
      ]

  -- a pending clock that is waited for, and one that is not pending, leave the same
  abbrev pended : ℕ → ActivityStanding → ActivityStanding
  pended p standing = with_pending p true standing

  same_standing : (p : ℕ) (standing : ActivityStanding) → after_move (advances p) (pended p standing) ≡ after_move (advances p) standing
  same_standing p standing =
      ap (λ f. record standing { pending = f }) (fun_ext (λ q. elim (cases_eq q p) [
        | inl same ↦ updated_same (updated standing.pending p true) p q false same ∙ sym (updated_same standing.pending p q false same)
        | inr other ↦
            updated_other (updated standing.pending p true) p q false other ∙ updated_other standing.pending p q true other
            ∙ sym (updated_other standing.pending p q false other)
      ]))

  module _ (s : ClockState) (h : List Step) (matches : Matches plan clock s h) (started : s.started t ≡ true) where
    abbrev LeftOf : List Move → Type 0
    LeftOf ms = HasLeft clock (maker_of plan) t (λ p. s.remembered p t) ms (actions_left plan h t)

    abbrev begun_move : (ms : List Move) (l : LeftOf ms) → Midst plan clock t None s h (actions_of (code_from l.standing ms))
    begun_move ms l =
        in_other_words plan of.checked clock t s h (actions_left plan h t) (actions_of (code_from l.standing ms))
        (begins_move plan of.checked clock t s h matches started) l.code

    -- an advance signals, where the activity remembers no signal
    module _ (p : ℕ) (ms : List Move) (l : LeftOf (advances p ∷ ms)) where
      abbrev rest_ops : List Op
      rest_ops = code_from (after_move (advances p) l.standing) ms

      abbrev waiting : List Action
      waiting = Blocks (here p) ∷ (Passes p ∷ actions_of rest_ops)

      signal_follows : s.left t ≡ advances p ∷ ms → s.remembered p t ≡ None → Follows (settled (length plan.parents) (signalling t p s))
      signal_follows is memory =
          let unpending : l.standing.pending p ≡ false = l.pending p ∙ ap is_some memory in
          let first : Midst plan clock t None s h (Advances p ∷ waiting) =
          in_other_words plan of.checked clock t s h (advance_actions (l.standing.pending p) p rest_ops) (advance_actions false p rest_ops)
          (begun_move (advances p ∷ ms) l) (ap (λ b. advance_actions b p rest_ops) unpending) in (
            step_of t (Advances p) ∷ h,
            ends_move plan of.checked clock t (signalling t p s) (step_of t (Advances p) ∷ h) waiting
                (signals plan of.checked clock t None s h p waiting l.lawful.0 memory first)
                (subst (λ v. HasLeft clock (maker_of plan) t (λ q. with_entry s.remembered p t (Some (s.phase p)) q t) v waiting) (sym is)
                (record {
                  standing = pended p l.standing;
                  pending = pending_with l.standing.pending s.remembered p true (Some (s.phase p)) refl l.pending;
                  code = sym (
                      ap (λ b. advance_actions b p (code_from (after_move (advances p) (pended p l.standing)) ms)) (updated_same l.standing.pending p p true refl)
                      ∙ ap (λ v. advance_actions true p (code_from v ms)) (same_standing p l.standing));
                  lawful = (l.lawful.0, tt, subst (λ v. AreLawfulMoves clock (maker_of plan) t v ms) (sym (same_standing p l.standing)) l.lawful.2);
                })),
          )

      -- and goes on, where the clock's phase is above the remembered one
      goes_follows :
          (k : ℕ) → s.remembered p t ≡ Some k → k < s.phase p → Follows (settled (length plan.parents) (going t ms (forgetting t p s)))
      goes_follows k memory above =
          let pending : l.standing.pending p ≡ true = l.pending p ∙ ap is_some memory in
          let first : Midst plan clock t None s h waiting =
          in_other_words plan of.checked clock t s h (advance_actions (l.standing.pending p) p rest_ops) (advance_actions true p rest_ops)
          (begun_move (advances p ∷ ms) l) (ap (λ b. advance_actions b p rest_ops) pending) in
          ends_with (forgetting t p s) (step_of t (Passes p) ∷ (step_of t (Blocks (here p)) ∷ h)) ms (after_move (advances p) l.standing)
          (pending_with l.standing.pending s.remembered p false None refl l.pending) l.lawful.2
          (goes_on_at_advance plan of.checked t clock None s h p k (actions_of rest_ops) l.lawful.0 memory above first)

      advance_follows :
          s.left t ≡ advances p ∷ ms → (o : Option ℕ) → s.remembered p t ≡ o → (r : ClockState) → advance_of t p ms o s ≡ Some r →
          Follows (settled (length plan.parents) r)
      advance_follows is None memory r e = subst (λ v. Follows (settled (length plan.parents) v)) (some_is e) (signal_follows is memory)
      advance_follows is (Some k) memory r e =
          elim (cases_Bool (nat_lt k (s.phase p))) [
            | inl above ↦
                subst (λ v. Follows (settled (length plan.parents) v))
                (some_is (sym (ap (λ b. if b then Some (going t ms (forgetting t p s)) else None) above) ∙ e))
                (goes_follows k memory (ltb-true k (s.phase p) above))
            | inr below ↦
                absurd (let none : None ≡ Some r = sym (ap (λ b. if b then Some (going t ms (forgetting t p s)) else None) below) ∙ e in cc)
          ]

    -- the end of a finish, by whether its open set is empty
    end_follows :
        (f : ℕ) (ms : List Move) → LeftOf (ends f ∷ ms) → (r : ClockState) →
        (if some_before (s.open_set f) (length plan.parents) then None else Some (going t ms s)) ≡ Some r → Follows (settled (length plan.parents) r)
    end_follows f ms l r e =
        elim (cases_Bool (some_before (s.open_set f) (length plan.parents))) [
          | inl some ↦ absurd (let none : None ≡ Some r = sym (ap (λ b. if b then None else Some (going t ms s)) some) ∙ e in cc)
          | inr none ↦
              subst (λ v. Follows (settled (length plan.parents) v)) (some_is (sym (ap (λ b. if b then None else Some (going t ms s)) none) ∙ e))
              (ends_with s (step_of t (Drops f) ∷ (step_of t (Passes f) ∷ (step_of t (Blocks (here f)) ∷ (step_of t (Advances f) ∷ h)))) ms (after_move (ends f) l.standing)
              (λ q. elim (cases_eq q f) [
                | inl same ↦
                    updated_same l.standing.pending f q false same
                    ∙ sym (ap is_some (ap (λ v. s.remembered v t) same ∙ finish_forgets (matches.cells f t) l.lawful.0.0))
                | inr other ↦ updated_other l.standing.pending f q false other ∙ l.pending q
              ])
              l.lawful.2
              (ends_finish plan of.checked t clock None s h f (actions_of (code_from (after_move (ends f) l.standing) ms)) l.lawful.0.0 l.lawful.0.1 none
              (begun_move (ends f ∷ ms) l)))
        ]

    start_follows :
        (c : ℕ) (ps : List ℕ) (f : Option ℕ) (ms : List Move) → LeftOf (starts c ps f ∷ ms) →
        Follows (settled (length plan.parents) (going t ms (starting c (joining f c (enrolling_all c ps s)))))
    start_follows c ps f ms l =
        let rest : List Op = code_from l.standing ms in
        let first : Midst plan clock t None s h (actions_of (reg_ops plan of.checked clock t c ps ++ (reg_ops plan of.checked clock t c (option_to_list f) ++ (op.Fork
        (task c) ∷ rest)))) =
        in_other_words plan of.checked clock t s h (actions_of ((reg_ops plan of.checked clock t c ps ++ (reg_ops plan of.checked clock t c (option_to_list f) ++ op.Fork
        (task c) ∷ [])) ++ rest)) _
        (begun_move (starts c ps f ∷ ms) l)
        (ap actions_of (append_assoc (reg_ops plan of.checked clock t c ps) (reg_ops plan of.checked clock t c (option_to_list f) ++ op.Fork (task c) ∷ []) rest
        ∙ ap (λ v. reg_ops plan of.checked clock t c ps ++ v) (append_assoc (reg_ops plan of.checked clock t c (option_to_list f)) (op.Fork (task c) ∷ []) rest))) in
        let enrolled = enrols_all plan of.checked clock t c l.standing.pending ps (reg_ops plan of.checked clock t c (option_to_list f) ++ (op.Fork
        (task c) ∷ rest)) s h l.lawful.0.0 l.pending
        (exempts plan of.checked clock t c s h _ first) in
        let joined = joins_any plan of.checked clock t c f (op.Fork (task c) ∷ rest) (enrolling_all c ps s) enrolled.0 l.lawful.0.1 enrolled.1 in
        let unforked = (legal_next plan of.checked clock t (Some c) (joining f c (enrolling_all c ps s)) joined.0 (Forks c) (actions_of rest) joined.1).2 in
        let before : (state_after h).forked c ≡ false = sym (joined.2.forked c ∙ enrolled.2.forked c) ∙ unforked in
        let row : (q : ℕ) → (clock.first c).members q ≡ is_some ((state_after joined.0).phases c q) =
        λ q. l.lawful.0.2 q
        ∙ row_of ps (option_to_list f) q (is_some ((state_after h).phases c q)) (ap is_some (matches.idle c (λ x. absurd (cc)) before q))
        ∙ ap (λ b. list_any (λ p. p == q) (option_to_list f) || b) (sym (enrolled.2.row q)) ∙ sym (joined.2.row q) in
        ends_with (starting c (joining f c (enrolling_all c ps s))) (step_of t (Forks c) ∷ joined.0) ms l.standing
        (λ q. l.pending q ∙ ap (λ g. is_some (g q t)) (sym (memory_kept c ps f s))) l.lawful.2
        (starts_child plan of.checked clock t c (joining f c (enrolling_all c ps s)) joined.0 (actions_of rest) row joined.1)
      where
        enrolling_keeps : (c : ℕ) (ps : List ℕ) (s : ClockState) → (enrolling_all c ps s).remembered ≡ s.remembered
        enrolling_keeps c [] s = refl
        enrolling_keeps c (p ∷ ps) s = enrolling_keeps c ps (enrolling c p s)

        memory_kept : (c : ℕ) (ps : List ℕ) (f : Option ℕ) (s : ClockState) → (joining f c (enrolling_all c ps s)).remembered ≡ s.remembered
        memory_kept c ps None s = enrolling_keeps c ps s
        memory_kept c ps (Some f) s = enrolling_keeps c ps s

        row_of :
            (ps fs : List ℕ) (q : ℕ) (b : Bool) → b ≡ false →
            list_any (λ p. p == q) (ps ++ fs) ≡ (list_any (λ p. p == q) fs || (list_any (λ p. p == q) ps || b))
        row_of ps fs q b e = any_of (λ p. p == q) ps fs ∙ ap (λ v. list_any (λ p. p == q) fs || (list_any (λ p. p == q) ps || v)) (sym e)

    stop_follows : (ps : List ℕ) (ms : List Move) → LeftOf (stops ps ∷ ms) → Follows (settled (length plan.parents) (going t ms (departing_all t s)))
    stop_follows ps ms l =
        let last : ms ≡ [] = l.lawful.1 in
        let done = leaves_all plan of.checked t clock s h ps (leaves_all_phasers plan clock moves of s h matches t (sym (matches.started t) ∙ started))
        (in_other_words plan of.checked clock t s h (actions_of (drop_ops plan of.checked t ps ++ code_from no_standing ms)) (actions_of (drop_ops plan of.checked t ps))
        (begun_move (stops ps ∷ ms) l)
        (ap (λ v. actions_of (drop_ops plan of.checked t ps ++ code_from no_standing v)) last ∙ ap actions_of (append-nil (drop_ops plan of.checked t ps)))) in
        ends_with (departing_all t s) done.0 ms no_standing (λ q. ap is_some (sym (column_at s.remembered t None q t refl))) l.lawful.2
        (in_other_words plan of.checked clock t (departing_all t s) done.0 [] (actions_of (code_from no_standing ms)) done.1 (ap (λ v. actions_of (code_from no_standing v))
        (sym last)))

    move_follows : (ms : List Move) → s.left t ≡ ms → LeftOf ms → (r : ClockState) → move_of (length plan.parents) t ms s ≡ Some r → Follows (settled (length plan.parents) r)
    move_follows [] is l r e = absurd (cc)
    move_follows (opens p ∷ ms) is l r e =
        subst (λ v. Follows (settled (length plan.parents) v)) (some_is e)
        (ends_with (opening_clock t p s) _ ms (after_move (opens p) l.standing) l.pending l.lawful.2
        (opens_clock plan of.checked clock t None s h p _ l.lawful.0 (begun_move (opens p ∷ ms) l)))
    move_follows (starts c ps f ∷ ms) is l r e = subst (λ v. Follows (settled (length plan.parents) v)) (some_is e) (start_follows c ps f ms l)
    move_follows (advances p ∷ ms) is l r e = advance_follows p ms l is (s.remembered p t) refl r e
    move_follows (resumes p ∷ ms) is l r e =
        subst (λ v. Follows (settled (length plan.parents) v)) (some_is e)
        (ends_with (signalling t p s) _ ms (after_move (resumes p) l.standing)
        (pending_with l.standing.pending s.remembered p true (Some (s.phase p)) refl l.pending) l.lawful.2
        (signals plan of.checked clock t None s h p _ l.lawful.0.0 (nothing_remembered (l.standing.pending p) (s.remembered p t) (l.pending p) l.lawful.0.1)
        (begun_move (resumes p ∷ ms) l)))
    move_follows (drops p ∷ ms) is l r e =
        subst (λ v. Follows (settled (length plan.parents) v)) (some_is e)
        (ends_with (departing t p s) _ ms (after_move (drops p) l.standing)
        (pending_with l.standing.pending s.remembered p false None refl l.pending) l.lawful.2
        (leaves_clock plan of.checked clock t None s h p _ l.lawful.0 (begun_move (drops p ∷ ms) l)))
    move_follows (begins f ∷ ms) is l r e =
        subst (λ v. Follows (settled (length plan.parents) v)) (some_is e)
        (ends_with s _ ms (after_move (begins f) l.standing) l.pending l.lawful.2
        (begins_finish plan of.checked clock t None s h f _ l.lawful.0 (begun_move (begins f ∷ ms) l)))
    move_follows (ends f ∷ ms) is l r e = end_follows f ms l r e
    move_follows (stops ps ∷ ms) is l r e = subst (λ v. Follows (settled (length plan.parents) v)) (some_is e) (stop_follows ps ms l)

  -- each step of the machine is a run of the plan
  pub step_follows :
      (s s' : ClockState) (h : List Step) → Matches plan clock s h → clock_step (length plan.parents) t s ≡ Some s' → (g : List Step) × Matches plan clock s' g
  step_follows s s' h m e =
      elim (cases_Bool (s.started t)) [
        | inr idle ↦
            absurd (let none : None ≡ Some s' =
            sym (ap (λ b. if b then option_map (settled (length plan.parents)) (move_of (length plan.parents) t (s.left t) s) else None) idle) ∙ e in cc)
        | inl started ↦
            moved (move_of (length plan.parents) t (s.left t) s) refl started
            (sym (ap (λ b. if b then option_map (settled (length plan.parents)) (move_of (length plan.parents) t (s.left t) s) else None) started) ∙ e)
      ]
    where
      moved :
          (o : Option ClockState) → move_of (length plan.parents) t (s.left t) s ≡ o → s.started t ≡ true →
          option_map (settled (length plan.parents)) o ≡ Some s' → (g : List Step) × Matches plan clock s' g
      moved None is started e = absurd (cc)
      moved (Some r) is started e =
          subst Follows (some_is e) (move_follows s h m started (s.left t) refl (m.left t) r is)

module _ (plan : Plan) (clock : ClockKinds) (moves : ℕ → List Move) (of : IsPlanOfMoves plan clock moves) where
  root_first : (q : ℕ) → first_phases plan 0 q ≡ None
  unfolding first_phases
  root_first q = refl

  -- before the first step
  pub opening_matches : Matches plan clock (direct_opening moves) []
  unfolding actions
  opening_matches =
      record {
        run = (tt, tt);
        quiet = λ u. refl;
        started = λ u. refl;
        cells = λ p u. outside;
        idle = λ u n f p. refl;
        firsts = λ u f q. subst (λ v. (clock.first v).members q ≡ is_some (first_phases plan v q)) (sym (eqb-true u 0 f)) (of.root q ∙ ap is_some (sym (root_first q)));
        left = λ u. record {
          standing = clock.first u;
          pending = of.idle u;
          code = drop_none (actions plan u) ∙ ap actions_of (of.codes u);
          lawful = of.lawful u;
        };
        live = λ p u e. absurd (false≢true e);
      }

  by_last :
      (t : ℕ) (s : ClockState) (o : Option ClockState) → ((r : ClockState) → o ≡ Some r → (h : List Step) × Matches plan clock r h) →
      step_from (length plan.parents) t o ≡ Some s → (h : List Step) × Matches plan clock s h
  by_last t s None before e = absurd (cc)
  by_last t s (Some r) before e = (let h = before r refl in step_follows plan clock moves of t r s h.0 h.1 e)

  pub run_follows :
      (ts : List ℕ) (s : ClockState) → clock_run (length plan.parents) (direct_opening moves) ts ≡ Some s → (h : List Step) × Matches plan clock s h
  run_follows [] s e = ([], subst (λ v. Matches plan clock v []) (some_is e) opening_matches)
  run_follows (t ∷ ts) s e = by_last t s (clock_run (length plan.parents) (direct_opening moves) ts) (λ r is. run_follows ts r is) e
