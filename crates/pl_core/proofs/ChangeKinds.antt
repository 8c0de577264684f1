-- What is kept after an op that changes phases, and after a fork.
use Rattle.std.proofs.Common.{◌≡◌, ◌≢◌, ℕ, zero, suc, ◌<◌, true, List, [], ◌∷◌, Option, Some, None, length, set, add-one, arith, sym, ◌∙◌, ap, subst, refl, inl, inr}
use Rattle.std.specs.Prelude.{slice_get, option_map}
use Rattle.std.proofs.lemmas.Bool.{cases_eq}
use Rattle.std.proofs.lemmas.Option.{slice_get_within}
use Rattle.std.proofs.lemmas.List.{length-set, map-set}
use Rattle.armus_base.specs.declared.op.Op.{Op}
use Rattle.armus_base.specs.declared.op.Op.TheVariants.{Make, Reg, Fork, Adv, Drop, Await}
use Rattle.armus_base.specs.Plans.{Plan, Action, Advances, Blocks, Drops, Forks, Makes, Passes, Refuses, Registers, code_of, Aim}
use Rattle.armus_base.specs.States.{IsActive, IsLegal, State, after}
use Rattle.armus_base.proofs.Codes.{child_later, child_within, phaser_within}
use Rattle.armus_base.proofs.Steps.{updated_same, updated_other}
use Rattle.armus_base.proofs.Lists.{slice_get-set_same, slice_get-set_other}
use Rattle.pl_core.specs.declared.task.TaskRecord.{TaskRecord}
use Rattle.pl_core.specs.declared.phase_table.MemberTable.{MemberTable}
use Rattle.pl_core.specs.inside.Changes.{after_fork, after_op}
use Rattle.pl_core.specs.inside.Effects.{HasRoomFor}
use Rattle.pl_core.specs.calls.Moves.{IsWorldStep, further}
use Rattle.pl_core.specs.inside.Ops.{ChangesPhases, action_of, phases_moved}
use Rattle.pl_core.specs.inside.PhaseTables.{KeepsCells, phases_in}
use Rattle.pl_core.proofs.CellsStay.{enrols_made, enrols_registered}
use Rattle.pl_core.specs.inside.KeptTasks.{IsKeptOf, event_in}
use Rattle.pl_core.specs.Tasks.{actions_before}
use Rattle.pl_core.specs.inside.Kept.{KeepsState}
use Rattle.pl_core.specs.calls.Tables.{kept_places, world_from}
use Rattle.pl_core.specs.calls.Worlds.{WorldValue, action_by_code, places_of, state_of}
use Rattle.pl_core.proofs.Bounds.{child_bound, phaser_of_member, phase_fits}
use Rattle.pl_core.proofs.OpCounts.{actions_before-suc, one_unless_await}
use Rattle.pl_core.proofs.Standing.{begun_none, idle, next_of_idle, of_task, standing_there, undropped_of}
use Rattle.pl_core.proofs.OneStep.{event_of_other, flag, kept_after, kept_of_other, makes_after, stepped_set}
use Rattle.pl_core.proofs.StepKinds.{legal_next}

-- an op is what its action says
some_of : {A B : Type 0} (f : A → B) (o : Option A) (y : B) → option_map f o ≡ Some y → (x : A) × o ≡ Some x × f x ≡ y
some_of f None y e = absurd (cc)
some_of f (Some x) y e = (x, refl, cc)

no_block : (op : Op) → ChangesPhases op → (aim : Aim) → action_of op ≢ Blocks aim
no_block (Make q) c p e = absurd (cc)
no_block (Reg d q) c p e = absurd (cc)
no_block (Adv q) c p e = absurd (cc)
no_block (Drop q) c p e = absurd (cc)
no_block (Fork d) c p e = absurd c
no_block (Await q off) c p e = absurd c

no_fork : (op : Op) → ChangesPhases op → (u : ℕ) → action_of op ≢ Forks u
no_fork (Make q) c u e = absurd (cc)
no_fork (Reg d q) c u e = absurd (cc)
no_fork (Adv q) c u e = absurd (cc)
no_fork (Drop q) c u e = absurd (cc)
no_fork (Fork d) c u e = absurd c
no_fork (Await q off) c u e = absurd c

same_forked : (s : State) (t : ℕ) (op : Op) → ChangesPhases op → (after s t (action_of op)).forked ≡ s.forked
same_forked s t (Make q) c = refl
same_forked s t (Reg d q) c = refl
same_forked s t (Adv q) c = refl
same_forked s t (Drop q) c = refl
same_forked s t (Fork d) c = absurd c
same_forked s t (Await q off) c = absurd c

same_published : (s : State) (t : ℕ) (op : Op) → ChangesPhases op → (after s t (action_of op)).published ≡ s.published
same_published s t (Make q) c = refl
same_published s t (Reg d q) c = refl
same_published s t (Adv q) c = refl
same_published s t (Drop q) c = refl
same_published s t (Fork d) c = absurd c
same_published s t (Await q off) c = absurd c

pub phases_of_state : (s : State) (t : ℕ) (x : Action) → phases_moved s.phases t x ≡ (after s t x).phases
phases_of_state s t (Makes p) = refl
phases_of_state s t (Registers c p) = refl
phases_of_state s t (Forks c) = refl
phases_of_state s t (Advances p) = refl
phases_of_state s t (Drops p) = refl
phases_of_state s t (Blocks p) = refl
phases_of_state s t (Passes p) = refl
phases_of_state s t (Refuses p) = refl

-- a list with an entry set to what it is
set_there : {A : Type 0} (xs : List A) (k : ℕ) (v : A) → slice_get xs k ≡ Some v → set xs k v ≡ xs
set_there [] k v e = refl
set_there (x ∷ xs) zero v e = ap (λ y. y ∷ xs) (let is : v ≡ x = (cc) in is)
set_there (x ∷ xs) (suc k) v e = ap (λ ys. x ∷ ys) (set_there xs k v e)

module _ (plan : Plan) (tasks : List TaskRecord) (table : MemberTable) (kept : KeepsState plan tasks table) (t : ℕ) (task : TaskRecord)
    (read : slice_get tasks t ≡ Some task) (active : IsActive (state_of (world_from plan tasks)) t) where
  abbrev old : WorldValue
  old = world_from plan tasks

  no_event : task.event ≡ None
  no_event = idle plan tasks table kept t task read active.unpublished active.unrefused

  undropped_now : (places_of old t).dropped ≡ None
  undropped_now = undropped_of plan tasks table kept t task read active.unrefused

  -- what is kept of a task that has made an op of one action
  module _ (x : Action) (next : action_by_code old t ≡ Some x) (no_await : (aim : Aim) → x ≢ Blocks aim) where
    legal : IsLegal plan (state_of old) t x
    legal = legal_next plan tasks table kept t task read x active next

    own_op : (op : Op) × slice_get (code_of plan t) task.op ≡ Some op × action_of op ≡ x
    own_op = some_of action_of (slice_get (code_of plan t) task.op) x (sym (next_of_idle plan tasks table kept t task read no_event) ∙ next)

    own_after : (after (state_of old) t x).forked t ≡ (state_of old).forked t → (after (state_of old) t x).published t ≡ None →
        IsKeptOf plan (after (state_of old) t x) t (after_op task)
    own_after forked published =
        let k = of_task plan tasks table kept t task read in
        let flag_is = flag plan tasks table kept t task read x next legal in
        let here = slice_get_within (code_of plan t) task.op own_op.0 own_op.1 in
        record {
          forked = k.forked ∙ sym forked;
          event = sym published ∙ ap (event_in (after (state_of old) t x) t) (sym flag_is);
          within = omega arith;
          events =
              (let b = begun_none (after_op task) refl in
              let b' = begun_none task no_event in
              let more = actions_before-suc (code_of plan t) task.op own_op.0 own_op.1 in
              let single = one_unless_await own_op.0 (λ p e. no_await p (sym own_op.2 ∙ e)) in
              let n = k.events in
              let one = ap (actions_before (code_of plan t)) (add-one task.op) in
              omega arith);
        }

  -- an op that changes phases alone
  module _ (op : Op) (next : action_by_code old t ≡ Some (action_of op)) (kind : ChangesPhases op) where
    phaser_bound : (p n : ℕ) → (state_of old).phases t p ≡ Some n → p < table.phasers
    phaser_bound p n e = (let l = phaser_of_member old kept.checked kept.reachable t p n e in let c = kept.columns in omega arith)

    own_inside : t < length plan.parents
    own_inside = (let l = slice_get_within tasks t task read in let one = kept.one_each in omega arith)

    pub room : HasRoomFor table t op
    room = go op next kind
      where
        go : (o : Op) → action_by_code old t ≡ Some (action_of o) → ChangesPhases o → HasRoomFor table t o
        go (Make p) n c =
            let l = legal_next plan tasks table kept t task read (Makes p.0) active n in
            let w = phaser_within plan t p.0 l.1 in (
              (let k = kept.columns in omega arith),
              kept.cells t t p.0 own_inside own_inside w
                  (let own = own_op (Makes p.0) n (λ aim e. absurd (cc)) in (task.op, own.0, own.1, enrols_made own.0 t p.0 own.2)),
            )
        go (Reg d p) n c =
            let l = legal_next plan tasks table kept t task read (Registers d.0 p.0) active n in (
              phaser_bound p.0 l.3.0 l.3.1,
              kept.cells t d.0 p.0 own_inside (child_within plan t d.0 l.1) (phaser_of_member old kept.checked kept.reachable t p.0 l.3.0 l.3.1)
                  (let own = own_op (Registers d.0 p.0) n (λ aim e. absurd (cc)) in (task.op, own.0, own.1, enrols_registered own.0 t d.0 p.0 own.2)),
            )
        go (Adv p) n c =
            let l = legal_next plan tasks table kept t task read (Advances p.0) active n in (
              phaser_bound p.0 l.1.0 l.1.1,
              λ m e. (let f = phase_fits old kept.checked t p.0 m active.forked undropped_now (ap (λ f. f t p.0) (sym kept.phases) ∙ e) in omega arith),
            )
        go (Drop p) n c =
            let l = legal_next plan tasks table kept t task read (Drops p.0) active n in phaser_bound p.0 l.2.0 l.2.1
        go (Fork d) n c = absurd c
        go (Await p off) n c = absurd c

    pub change_stepped :
        (table' : MemberTable) → KeepsCells table table' → table'.phasers ≡ table.phasers →
        phases_in table' ≡ phases_moved (phases_in table) t (action_of op) →
        KeepsState plan (set tasks t (after_op task)) table' × IsWorldStep old (world_from plan (set tasks t (after_op task))) t
    change_stepped table' cells columns phases =
        let x = action_of op in
        stepped_set plan tasks table kept t task read x next (legal x next (no_block op kind)) (after_op task) refl
        (own_after x next (no_block op kind) (ap (λ f. f t) (same_forked (state_of old) t op kind)) (ap (λ f. f t) (same_published (state_of old) t op kind) ∙ active.unpublished))
        (no_fork op kind) table' cells columns
        (phases ∙ ap (λ f. phases_moved f t x) kept.phases ∙ phases_of_state (state_of old) t x)

  -- a fork
  module _ (c : ℕ) (next : action_by_code old t ≡ Some (Forks c)) where
    fork_legal : IsLegal plan (state_of old) t (Forks c)
    fork_legal = legal_next plan tasks table kept t task read (Forks c) active next

    child_here : c < length tasks
    child_here = child_bound plan tasks table kept t c next

    pub later : t < c
    later = child_later plan kept.checked.tables t c fork_legal.1

    module _ (child : TaskRecord) (child_read : slice_get tasks c ≡ Some child) where
      abbrev pub with_child : List TaskRecord
      with_child = set tasks c (after_fork child)

      other : t ≢ c
      other e = (let l = later in absurd (omega arith))

      -- the task itself is kept as before
      pub read_after : slice_get with_child t ≡ Some task
      read_after = slice_get-set_other tasks c t (after_fork child) other ∙ read

      same_places : kept_places (set with_child t (after_op task)) ≡ set (kept_places tasks) t (further task.place)
      same_places =
          map-set (λ (k : TaskRecord). k.place) with_child t (after_op task)
          ∙ ap (λ ps. set ps t (further task.place)) (map-set (λ (k : TaskRecord). k.place) tasks c (after_fork child) ∙
          set_there (kept_places tasks) c child.place (standing_there tasks c child child_read))

      kept_child : IsKeptOf plan (after (state_of old) t (Forks c)) c (after_fork child)
      kept_child =
          let k = of_task plan tasks table kept c child child_read in
          record {
            forked = sym (updated_same (state_of old).forked c c true refl);
            event = k.event ∙ sym (event_of_other (state_of old) t c (Forks c) child.place.refused (λ e. other (sym e)));
            within = k.within;
            events = k.events;
          }

      each : (u : ℕ) (k : TaskRecord) → slice_get (set with_child t (after_op task)) u ≡ Some k → IsKeptOf plan (after (state_of old) t (Forks c)) u k
      each u k e =
          elim (cases_eq u t) [
            | inl same ↦
                let is : after_op task ≡ k = (let one = slice_get-set_same with_child t (after_op task) (slice_get_within with_child t task read_after) in
                let two = subst (λ v. slice_get (set with_child t (after_op task)) v ≡ Some k) same e in cc) in
                subst (λ v. IsKeptOf plan (after (state_of old) t (Forks c)) v k) (sym same)
                (subst (IsKeptOf plan (after (state_of old) t (Forks c)) t) is
                (own_after (Forks c) next (λ p b. absurd (cc)) (updated_other (state_of old).forked c t true other) active.unpublished))
            | inr apart ↦
                let there : slice_get with_child u ≡ Some k = sym (slice_get-set_other with_child t u (after_op task) apart) ∙ e in
                elim (cases_eq u c) [
                  | inl same ↦
                      let is : after_fork child ≡ k = (let one = slice_get-set_same tasks c (after_fork child) child_here in
                      let two = subst (λ v. slice_get with_child v ≡ Some k) same there in cc) in
                      subst (λ v. IsKeptOf plan (after (state_of old) t (Forks c)) v k) (sym same)
                      (subst (IsKeptOf plan (after (state_of old) t (Forks c)) c) is kept_child)
                  | inr away ↦
                      kept_of_other plan (state_of old) t u (Forks c) k apart (λ f. away (let g : c ≡ u = (cc) in sym g))
                      (kept.each u k (sym (slice_get-set_other tasks c u (after_fork child) away) ∙ there))
                ]
          ]

      pub fork_stepped : KeepsState plan (set with_child t (after_op task)) table × IsWorldStep old (world_from plan (set with_child t (after_op task))) t
      fork_stepped = (
        kept_after plan tasks table kept t task read (Forks c) next fork_legal (set with_child t (after_op task)) table same_places (λ u q h. h) refl
            kept.phases (length-set with_child t (after_op task) ∙ length-set tasks c (after_fork child)) each,
        makes_after plan tasks table kept t task read (Forks c) next fork_legal (set with_child t (after_op task)) table same_places (λ u q h. h) refl
            kept.phases (length-set with_child t (after_op task) ∙ length-set tasks c (after_fork child)) each,
      )
