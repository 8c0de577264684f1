-- Who has made all its moves is a member of nothing.
use Rattle.std.proofs.Common.{◌≡◌, ℕ, zero, suc, Bool, true, false, Option, Some, None, List, [], ◌∷◌, ◌++◌, length, sym, ◌∙◌, ap, refl, inl, inr}
use Rattle.std.specs.List.{list_any}
use Rattle.std.specs.Prelude.{◌==◌, ◌||◌, if◌then◌else◌, is_some, map, option_to_list, slice_get}
use Rattle.std.proofs.lemmas.Bool.{cases_Bool, cases_eq, false≢true, ne_eqb}
use Rattle.std.proofs.lemmas.List.{append_assoc, append-nil}
use Rattle.armus_base.specs.declared.op.Op.{Op}
use Rattle.armus_base.specs.declared.op.Op.TheVariants as op
use Rattle.armus_base.specs.declared.offset.Offset.TheVariants.{Here}
use Rattle.armus_base.specs.Numbers.{phaser, task}
use Rattle.armus_base.specs.Plans.{Action, Plan, action_at, actions, actions_of, code_of}
use Rattle.armus_base.specs.States.{Phases, next_phase, updated}
use Rattle.armus_base.specs.Places.{first_phases, own_phases, own_step, phases_after}
use Rattle.armus_base.proofs.Steps.{updated_other, updated_same}
use Rattle.pl_plan.proofs.Growth.{own_steps}
use Rattle.clock_semantics.specs.Moves.{Move, ActivityStanding, after_move, code_from, no_standing, opens, starts, advances, resumes, drops, begins, ends, stops}
use Rattle.clock_laws.proofs.Lawful.{AreLawfulMoves, ClockKinds}

-- the members are those who have a phase
abbrev pub SameMembers : ActivityStanding → Phases → Type 0
SameMembers s m = (q : ℕ) → s.members q ≡ is_some (m q)

nobody : (o : Option ℕ) → is_some o ≡ false → o ≡ None
nobody None e = refl
nobody (Some k) e = absurd (false≢true (sym e))

-- one more, or one less
members_updated :
    (members : ℕ → Bool) (m : Phases) (p : ℕ) (b : Bool) (v : Option ℕ) → b ≡ is_some v → ((q : ℕ) → members q ≡ is_some (m q)) →
    (q : ℕ) → updated members p b q ≡ is_some (updated m p v q)
members_updated members m p b v e same q =
    elim (cases_eq q p) [
      | inl is ↦ updated_same members p q b is ∙ e ∙ ap is_some (sym (updated_same m p q v is))
      | inr other ↦ updated_other members p q b other ∙ same q ∙ ap is_some (sym (updated_other m p q v other))
    ]

-- an advance leaves the members
members_advanced : (members : ℕ → Bool) (m : Phases) (p : ℕ) → ((q : ℕ) → members q ≡ is_some (m q)) → (q : ℕ) → members q ≡ is_some (updated m p (next_phase (m p)) q)
members_advanced members m p same q =
    elim (cases_eq q p) [
      | inl is ↦ same q ∙ ap (λ v. is_some (m v)) is ∙ advanced (m p) ∙ ap is_some (sym (updated_same m p q (next_phase (m p)) is))
      | inr other ↦ same q ∙ ap is_some (sym (updated_other m p q (next_phase (m p)) other))
    ]
  where
    advanced : (o : Option ℕ) → is_some o ≡ is_some (next_phase o)
    advanced None = refl
    advanced (Some k) = refl

-- registrations of a child change nothing of one's own
registers_nothing :
    (c : ℕ) (ps : List ℕ) (rest : List Op) (m : Phases) → own_steps (actions_of (map (λ p. op.Reg (task c) (phaser p)) ps ++ rest)) m ≡ own_steps (actions_of rest) m
registers_nothing c [] rest m = refl
registers_nothing c (p ∷ ps) rest m = registers_nothing c ps rest m

-- the phases without these
dropped_all : List ℕ → Phases → Phases
dropped_all [] m = m
dropped_all (p ∷ ps) m = dropped_all ps (updated m p None)

drops_steps : (ps : List ℕ) (m : Phases) → own_steps (actions_of (map (λ p. op.Drop (phaser p)) ps)) m ≡ dropped_all ps m
unfolding dropped_all
drops_steps [] m = refl
drops_steps (p ∷ ps) m = drops_steps ps (updated m p None)

none_stays : (ps : List ℕ) (m : Phases) (q : ℕ) → m q ≡ None → dropped_all ps m q ≡ None
unfolding dropped_all
none_stays [] m q e = e
none_stays (p ∷ ps) m q e =
    none_stays ps (updated m p None) q
    (elim (cases_eq q p) [ inl is ↦ updated_same m p q None is | inr other ↦ updated_other m p q None other ∙ e ])

dropped_none : (ps : List ℕ) (m : Phases) (q : ℕ) → list_any (λ p. p == q) ps ≡ true → dropped_all ps m q ≡ None
unfolding dropped_all
dropped_none [] m q e = absurd (false≢true e)
dropped_none (p ∷ ps) m q e =
    elim (cases_eq q p) [
      | inl is ↦ none_stays ps (updated m p None) q (updated_same m p q None is)
      | inr other ↦
          dropped_none ps (updated m p None) q
          (sym (ap (λ b. b || list_any (λ p. p == q) ps) (ne_eqb p q (λ same. other (sym same)))) ∙ e)
    ]

-- an advance signals first, or not
by_pending :
    (b : Bool) (p : ℕ) (rest : List Op) (m : Phases) (q : ℕ) → own_steps (actions_of rest) m q ≡ None → own_steps (actions_of rest) (updated m p (next_phase (m p))) q ≡ None →
    own_steps (actions_of (((if b then [] else op.Adv (phaser p) ∷ []) ++ op.Await (phaser p) Here ∷ []) ++ rest)) m q ≡ None
by_pending true p rest m q pending idle = pending
by_pending false p rest m q pending idle = idle

module _ (clock : ClockKinds) (maker : ℕ → ℕ) (t : ℕ) where
  -- whoever makes these moves is a member of nothing then
  pub leaves_nothing :
      (ms : List Move) (s : ActivityStanding) (m : Phases) → AreLawfulMoves clock maker t s ms → SameMembers s m → (q : ℕ) → own_steps (actions_of (code_from s ms)) m q ≡ None
  leaves_nothing [] s m lawful same q = nobody (m q) (sym (same q) ∙ lawful q)
  leaves_nothing (opens p ∷ ms) s m lawful same q =
      leaves_nothing ms (after_move (opens p) s) (updated m p (Some 0)) lawful.2 (members_updated s.members m p true (Some 0) refl same) q
  leaves_nothing (starts c ps f ∷ ms) s m lawful same q =
      ap (λ xs. own_steps (actions_of xs) m q)
      (append_assoc (map (λ p. op.Reg (task c) (phaser p)) ps) (map (λ p. op.Reg (task c) (phaser p)) (option_to_list f) ++ op.Fork (task c) ∷ []) (code_from s ms)
      ∙ ap (λ xs. map (λ p. op.Reg (task c) (phaser p)) ps ++ xs) (append_assoc (map (λ p. op.Reg (task c) (phaser p)) (option_to_list f)) (op.Fork (task c) ∷ [])
      (code_from s ms)))
      ∙ ap (λ g. g q) (registers_nothing c ps (map (λ p. op.Reg (task c) (phaser p)) (option_to_list f) ++ (op.Fork (task c) ∷ code_from s ms)) m)
      ∙ ap (λ g. g q) (registers_nothing c (option_to_list f) (op.Fork (task c) ∷ code_from s ms) m)
      ∙ leaves_nothing ms s m lawful.2 same q
  leaves_nothing (advances p ∷ ms) s m lawful same q =
      by_pending (s.pending p) p (code_from (after_move (advances p) s) ms) m q
      (leaves_nothing ms (after_move (advances p) s) m lawful.2 same q)
      (leaves_nothing ms (after_move (advances p) s) (updated m p (next_phase (m p))) lawful.2 (members_advanced s.members m p same) q)
  leaves_nothing (resumes p ∷ ms) s m lawful same q =
      leaves_nothing ms (after_move (resumes p) s) (updated m p (next_phase (m p))) lawful.2 (members_advanced s.members m p same) q
  leaves_nothing (drops p ∷ ms) s m lawful same q =
      leaves_nothing ms (after_move (drops p) s) (updated m p None) lawful.2 (members_updated s.members m p false None refl same) q
  leaves_nothing (begins f ∷ ms) s m lawful same q =
      leaves_nothing ms (after_move (begins f) s) (updated m f (Some 0)) lawful.2 (members_updated s.members m f true (Some 0) refl same) q
  leaves_nothing (ends f ∷ ms) s m lawful same q =
      leaves_nothing ms (after_move (ends f) s) (updated (updated m f (next_phase (m f))) f None) lawful.2
      (members_updated s.members (updated m f (next_phase (m f))) f false None refl (members_advanced s.members m f same)) q
  leaves_nothing (stops ps ∷ ms) s m lawful same q =
      ap (λ xs. own_steps (actions_of (map (λ p. op.Drop (phaser p)) ps ++ code_from no_standing xs)) m q) lawful.1
      ∙ ap (λ xs. own_steps (actions_of xs) m q) (append-nil (map (λ p. op.Drop (phaser p)) ps))
      ∙ ap (λ g. g q) (drops_steps ps m)
      ∙ elim (cases_Bool (s.members q)) [
        | inl member ↦ dropped_none ps m q (lawful.0 q member)
        | inr stranger ↦ none_stays ps m q (nobody (m q) (sym (same q) ∙ stranger))
      ]

-- all actions of a task, one after the other
steps_first : (act : ℕ → Option Action) (m : Phases) (k : ℕ) → own_phases act m (suc k) ≡ own_phases (λ i. act (suc i)) (own_step (act 0) m) k
steps_first act m zero = refl
steps_first act m (suc k) = ap (own_step (act (suc k))) (steps_first act m k)

all_steps : (xs : List Action) (m : Phases) → own_phases (slice_get xs) m (length xs) ≡ own_steps xs m
all_steps [] m = refl
all_steps (x ∷ xs) m = steps_first (slice_get (x ∷ xs)) m (length xs) ∙ all_steps xs (own_step (Some x) m)

pub last_phases_are :
    (plan : Plan) (t : ℕ) → phases_after plan t (length (actions plan t)) ≡ own_steps (actions plan t) (first_phases plan t)
unfolding phases_after action_at
last_phases_are plan t = all_steps (actions plan t) (first_phases plan t)

-- so the phases after its whole code are none, where it begins as it stands first
pub last_phases_none :
    (plan : Plan) (clock : ClockKinds) (maker : ℕ → ℕ) (t : ℕ) (s : ActivityStanding) (ms : List Move) → code_of plan t ≡ code_from s ms → AreLawfulMoves clock maker t s ms →
    SameMembers s (first_phases plan t) → (q : ℕ) → phases_after plan t (length (actions plan t)) q ≡ None
unfolding actions
last_phases_none plan clock maker t s ms code lawful same q =
    ap (λ f. f q) (last_phases_are plan t)
    ∙ ap (λ os. own_steps (actions_of os) (first_phases plan t) q) code
    ∙ leaves_nothing clock maker t ms s (first_phases plan t) lawful same q
