-- Stages that are no visit on the way to the first fault: a task begins, or leaves a phaser at its end.
use Rattle.std.proofs.Common.{◌≡◌, ℕ, zero, suc, ◌+◌, ◌-◌, ◌<◌, ◌^◌, Bool, true, false, List, [], ◌∷◌, ◌++◌, length, Option, Some, None, Ok, Err, append_assoc, arith, sym, ◌∙◌, ap, subst, refl}
use Rattle.std.specs.Prelude.{if◌then◌else◌, slice_index_or}
use Rattle.std.proofs.lemmas.Bool.{false≢true}
use Rattle.std.proofs.lemmas.List.{append-nil}
use Rattle.armus_base.specs.declared.ids.PhaserId.{PhaserId}
use Rattle.armus_base.specs.declared.ids.TaskId.{TaskId}
use Rattle.armus_base.specs.declared.op.Op.TheVariants as op
use Rattle.armus_base.specs.Numbers.{phaser}
use Rattle.pl_plan.specs.Unfolding.{Outcome, Start, UnfoldingState, add_op, fault_unless, leave, opening_state, too_many_ops, with_member, with_members, ◌>>=◌}
use Rattle.pl_plan.specs.Stages.{FailsAt, IsNextStage, Stage, StagePasses, after_stage, at_end, begins, has_op_left, leaves, leaves_below, with_code}
use Rattle.pl_plan.specs.declared.fault.CheckFault.{CheckFault}
use Rattle.pl_plan.specs.declared.step.FlatStep.{FlatStep}
use Rattle.pl_plan.specs.inside.Checker.{Checker, Keeps}
use Rattle.pl_plan.specs.inside.CheckerSteps.{checker_leave}
use Rattle.pl_plan.specs.inside.Shows.{ShowsState}
use Rattle.pl_plan.specs.inside.Simulates.{Simulates}
use Rattle.pl_plan.proofs.Simulating as simulating
use Rattle.pl_plan.proofs.Unfolds as unfolds
use Rattle.pl_plan.proofs.Walks.{keeps_ok}
use Rattle.explain_check.specs.Deeds as deeds
use Rattle.explain_check.specs.Turns.{turn_in, visits_among}
use Rattle.explain_check.specs.declared.notes.Deed.{Deed}
use Rattle.explain_check.specs.declared.notes.LastTurn.{LastTurn}
use Rattle.explain_check.specs.declared.notes.Note.{Note}
use Rattle.explain_check.specs.declared.seek.FaultPlace.TheVariants as p
use Rattle.explain_check.specs.declared.seek.FoundFault.{FoundFault}
use Rattle.explain_check.specs.inside.Noted.{LastTurnsTell, MeansDeed, NotesTell, means_drew, means_forked, means_left, means_made, means_registered}
use Rattle.explain_check.specs.inside.Seeks.{HasLeaving, IsAt, Leaving, NamedProgram, Stands, Stopped}
use Rattle.explain_check.proofs.TurnCounts.{among_append}
use Rattle.explain_check.proofs.Last.{tells_more}
use Rattle.explain_check.proofs.SoughtSteps.{start_later}

-- nothing is noted of a stage, and it is no visit
pub record IsQuiet (v : Stage) : Type 0 where
  pub unnoted : (s : UnfoldingState) (d : Deed) (did : deeds.Deed) → MeansDeed d did → did s v ≡ false
  pub unvisited : (u : ℕ) → visits_among u (v ∷ []) ≡ []

pub begins_quiet : (t : ℕ) → IsQuiet (begins t)
begins_quiet t = record { unnoted = unnoted; unvisited = λ u. refl }
  where
    unnoted : (s : UnfoldingState) (d : Deed) (did : deeds.Deed) → MeansDeed d did → did s (begins t) ≡ false
    unnoted s d did means_drew = refl
    unnoted s d did means_made = refl
    unnoted s d did means_forked = refl
    unnoted s d did means_registered = refl
    unnoted s d did means_left = refl

leaves_quiet : (t q : ℕ) → IsQuiet (leaves t q)
leaves_quiet t q = record { unnoted = unnoted; unvisited = λ u. refl }
  where
    unnoted : (s : UnfoldingState) (d : Deed) (did : deeds.Deed) → MeansDeed d did → did s (leaves t q) ≡ false
    unnoted s d did means_drew = refl
    unnoted s d did means_made = refl
    unnoted s d did means_forked = refl
    unnoted s d did means_registered = refl
    unnoted s d did means_left = refl

among_quiet : (u : ℕ) (xs : List Stage) (v : Stage) → IsQuiet v → visits_among u (xs ++ v ∷ []) ≡ visits_among u xs
among_quiet u xs v quiet = among_append u xs (v ∷ []) ∙ ap (λ z. visits_among u xs ++ z) (quiet.unvisited u) ∙ append-nil (visits_among u xs)

pub quiet_last_turns : (t steps visits : ℕ) (xs : List Stage) (last_turns : List LastTurn) (v : Stage) → IsQuiet v → LastTurnsTell t steps visits xs last_turns → LastTurnsTell t steps visits (xs ++ v ∷ []) last_turns
quiet_last_turns t steps visits xs last_turns v quiet tell =
    record {
      many = tell.many;
      earlier = tell.earlier;
      few = tell.few;
      later = λ u l. among_quiet u xs v quiet ∙ tell.later u l;
      turns = λ at. tell.turns at ∙ ap (turn_in (at + 1)) (sym (among_quiet t xs v quiet));
    }

ok_is : {a b : UnfoldingState} → ◌≡◌ {A = Outcome UnfoldingState} (Ok a) (Ok b) → a ≡ b
ok_is x = cc

err_is : {a b : CheckFault} → ◌≡◌ {A = Outcome UnfoldingState} (Err a) (Err b) → a ≡ b
err_is x = cc

module _ (g : NamedProgram) where
  abbrev two : Bool
  two = g.program.two

  -- a stage of which nothing is noted passed
  unfoldable pub quiet_on :
      (t : ℕ) (k : Checker) (notes : List Note) (last_turns : List LastTurn) (st : Stands g t k notes last_turns) (v : Stage) → IsQuiet v → IsNextStage two st.stages v st.state →
      StagePasses v st.state → (e : UnfoldingState) → after_stage v st.state ≡ e → unfolds.IsKept two e → e.visits ≡ st.state.visits → (new : Checker) → Keeps k new →
      ShowsState g.names new e → Stands g t new notes last_turns
  quiet_on t k notes last_turns st v quiet next passes e is kept visits new keeps shows =
      record {
        stages = st.stages ++ v ∷ [];
        state = e;
        past = record {
          leads = unfolds.leads_more two [] st.stages (v ∷ []) (opening_state g.program.body) st.state e st.past.leads (next, passes, is);
          kept = kept;
          few = omega (arith, st.past.few, visits);
        };
        shown = record {
          fits = keeps.fits;
          shows = shows;
          steps_are = keeps.steps ∙ st.shown.steps_are;
          small = subst (λ (ss : List FlatStep). length ss < 2 ^ 32) (sym keeps.steps) st.shown.small;
        };
        told =
            subst (λ ns. NotesTell g.names (opening_state g.program.body) (st.stages ++ v ∷ []) ns) (append-nil notes)
            (tells_more g.names two st.stages (opening_state g.program.body) st.state v notes [] st.past.leads st.told (λ d did means. quiet.unnoted st.state d did means));
        last_turns_tell =
            subst (λ (ss : List FlatStep). LastTurnsTell t (length ss) e.visits (st.stages ++ v ∷ []) last_turns) (sym keeps.steps)
            (subst (λ i. LastTurnsTell t (length k.steps) i (st.stages ++ v ∷ []) last_turns) (sym visits)
            (quiet_last_turns t (length k.steps) st.state.visits st.stages last_turns v quiet st.last_turns_tell));
      }

  -- ---- the end of a task

  left_state : ℕ → ℕ → UnfoldingState → UnfoldingState
  left_state t q s = with_code t (op.Drop (phaser q)) (with_members (with_member t q false s.members) s)

  -- by the unfolding's own word
  record LeftPast (t q : ℕ) (s e : UnfoldingState) : Type 0 where
    passes : StagePasses (leaves t q) s
    is : after_stage (leaves t q) s ≡ e
    parents : e.plan.parents ≡ s.plan.parents
    starts : e.starts ≡ s.starts
    visits : e.visits ≡ s.visits

  left_past : (t n q : ℕ) (s e : UnfoldingState) → leave t n q s ≡ Ok e → LeftPast t q s e
  unfolding leave add_op left_state
  left_past t n q s e is = by (s.members t q) refl (has_op_left s) refl
    where
      by : (b : Bool) → s.members t q ≡ b → (r : Bool) → has_op_left s ≡ r → LeftPast t q s e
      by false m r room =
          let same : s ≡ e =
          ok_is (sym (ap (λ (b : Bool). if b then add_op t n (op.Drop (phaser q)) (with_members (with_member t q false s.members) s) else Ok s) m) ∙ is) in
          record {
            passes = λ yes_. absurd (false≢true (sym m ∙ yes_));
            is = ap (λ (b : Bool). if b then left_state t q s else s) m ∙ same;
            parents = ap (λ (z : UnfoldingState). z.plan.parents) (sym same);
            starts = ap (λ (z : UnfoldingState). z.starts) (sym same);
            visits = ap (λ (z : UnfoldingState). z.visits) (sym same);
          }
      by true m true room =
          let same : left_state t q s ≡ e =
          ok_is (sym (ap (λ (b : Bool). if b then add_op t n (op.Drop (phaser q)) (with_members (with_member t q false s.members) s) else Ok s) m
          ∙ ap (λ (r : Bool). fault_unless r too_many_ops n >>= λ _. Ok (left_state t q s)) room) ∙ is) in
          record {
            passes = λ _. room;
            is = ap (λ (b : Bool). if b then left_state t q s else s) m ∙ same;
            parents = ap (λ (z : UnfoldingState). z.plan.parents) (sym same);
            starts = ap (λ (z : UnfoldingState). z.starts) (sym same);
            visits = ap (λ (z : UnfoldingState). z.visits) (sym same);
          }
      by true m false room =
          absurd (let x = sym (ap (λ (b : Bool). if b then add_op t n (op.Drop (phaser q)) (with_members (with_member t q false s.members) s) else Ok s) m
          ∙ ap (λ (r : Bool). fault_unless r too_many_ops n >>= λ _. Ok (left_state t q s)) room) ∙ is in cc)

  left_fails : (t n q : ℕ) (s : UnfoldingState) (f : CheckFault) (start : Start) → slice_index_or s.starts t None ≡ Some start → n ≡ start.first - 1 → leave t n q s ≡ Err f →
      FailsAt s (leaves t q) f
  unfolding leave add_op left_state
  left_fails t n q s f start starts number is = by (s.members t q) refl (has_op_left s) refl
    where
      by : (b : Bool) → s.members t q ≡ b → (r : Bool) → has_op_left s ≡ r → FailsAt s (leaves t q) f
      by false m r room =
          absurd (let x = sym (ap (λ (b : Bool). if b then add_op t n (op.Drop (phaser q)) (with_members (with_member t q false s.members) s) else Ok s) m) ∙ is in cc)
      by true m true room =
          absurd (let x = sym (ap (λ (b : Bool). if b then add_op t n (op.Drop (phaser q)) (with_members (with_member t q false s.members) s) else Ok s) m
          ∙ ap (λ (r : Bool). fault_unless r too_many_ops n >>= λ _. Ok (left_state t q s)) room) ∙ is in cc)
      by true m false room =
          let x = sym (ap (λ (b : Bool). if b then add_op t n (op.Drop (phaser q)) (with_members (with_member t q false s.members) s) else Ok s) m
          ∙ ap (λ (r : Bool). fault_unless r too_many_ops n >>= λ _. Ok (left_state t q s)) room) ∙ is in
          at_end start starts m room (sym (err_is x) ∙ ap (λ i. record { kind = 9; statement = i }) number)

  -- which phasers come first
  leaves_split : (t q d : ℕ) → (rest : List Stage) × (leaves_below t (q + 1 + d) ≡ leaves_below t q ++ (leaves t q ∷ rest))
  leaves_split t q zero = ([], ap (leaves_below t) (let e : q + 1 + 0 ≡ suc q = omega arith in e))
  leaves_split t q (suc d) =
      let r = leaves_split t q d in (
        r.0 ++ leaves t (q + 1 + d) ∷ [],
        ap (leaves_below t) (let e : q + 1 + suc d ≡ suc (q + 1 + d) = omega arith in e) ∙ ap (λ z. z ++ leaves t (q + 1 + d) ∷ []) r.1
            ∙ append_assoc (leaves_below t q) (leaves t q ∷ r.0) (leaves t (q + 1 + d) ∷ []),
      )

  module _ (t : TaskId) (first after q : ℕ) (k : Checker) (notes : List Note) (last_turns : List LastTurn) (now : Leaving g t.0 first after q k notes last_turns) (few : q < 1024) where
    run : t.0 < length k.parents
    run = subst (λ (ps : List (Option TaskId)). t.0 < length ps) now.stands.shown.shows.plan.parents now.here

    split : (rest : List Stage) × (leaves_below t.0 1024 ≡ leaves_below t.0 q ++ (leaves t.0 q ∷ rest))
    split =
        let r = leaves_split t.0 q (1023 - q) in
        (r.0, ap (leaves_below t.0) (let e : 1024 ≡ q + 1 + (1023 - q) = omega (arith, few) in e) ∙ r.1)

    next : IsNextStage two now.stands.stages (leaves t.0 q) now.stands.state
    next =
        unfolds.next_of two now.stands.stages t.0 (leaves t.0 q) split.0 now.stands.state now.here
        (ap (λ z. z ++ (leaves t.0 q ∷ split.0)) now.left ∙ append_assoc now.earlier (leaves_below t.0 q) (leaves t.0 q ∷ split.0)
        ∙ ap (λ z. now.earlier ++ z) (sym split.1) ∙ now.own)

    number : first ≡ now.started.start.first - 1
    number = omega (arith, now.started.first_is)

    pub leaving_on : (new : Checker) → checker_leave t.0 first q k ≡ Ok new → Leaving g t.0 first after (q + 1) new notes last_turns
    unfolding quiet_on
    leaving_on new is =
        let sim : Simulates g.names (Ok new) (leave t.0 first q now.stands.state) =
        subst (λ o. Simulates g.names o (leave t.0 first q now.stands.state)) is
        (simulating.simulates_leave g.names k now.stands.state now.stands.shown.fits now.stands.shown.shows t.0 first run q few) in
        let keeps = keeps_ok k (checker_leave t.0 first q k) new is (simulating.keeps_leave k now.stands.shown.fits t.0 first q) in
        let past = left_past t.0 first q now.stands.state sim.0 sim.1 in
        let kept = unfolds.same_kept two t.0 0 now.stands.state now.stands.past.kept now.here sim.0 past.parents past.starts in
        record {
          stands = quiet_on t.0 k notes last_turns now.stands (leaves t.0 q) (leaves_quiet t.0 q) next past.passes sim.0 past.is kept.kept past.visits new keeps sim.2;
          here = omega (arith, now.here, kept.more);
          started =
              start_later g t.0 first after (length k.bindings.slots) (length new.bindings.slots) now.stands.state sim.0 keeps.slots
              (ap (λ ss. slice_index_or ss t.0 None) past.starts) now.started;
          earlier = now.earlier;
          left = ap (λ z. z ++ leaves t.0 q ∷ []) now.left ∙ append_assoc now.earlier (leaves_below t.0 q) (leaves t.0 q ∷ [])
              ∙ ap (λ i. now.earlier ++ leaves_below t.0 i) (let e : suc q ≡ q + 1 = omega arith in e);
          own = now.own ∙ sym (unfolds.stages_same two (suc t.0) now.stands.state sim.0 (λ u l. ap (λ ss. slice_index_or ss u None) past.starts));
        }

    pub leaving_stop :
        (f : CheckFault) → checker_leave t.0 first q k ≡ Err f → (stop : FoundFault) (q' : PhaserId) → q'.0 ≡ q → stop.fault ≡ f → stop.place ≡ p.End t q' → Stopped g stop notes last_turns
    leaving_stop f is stop q' same fault_is place =
        let sim : leave t.0 first q now.stands.state ≡ Err f =
        subst (λ o. Simulates g.names o (leave t.0 first q now.stands.state)) is
        (simulating.simulates_leave g.names k now.stands.state now.stands.shown.fits now.stands.shown.shows t.0 first run q few) in
        record {
          stages = now.stands.stages;
          there = now.stands.state;
          past = now.stands.past;
          stage = leaves t.0 q;
          next = next;
          fails = subst (λ z. FailsAt now.stands.state (leaves t.0 q) z) (sym fault_is)
              (left_fails t.0 first q now.stands.state f now.started.start now.started.start_is number sim);
          told = now.stands.told;
          place =
              subst (λ z. IsAt g z stop.first stop.after now.stands.stages (leaves t.0 q) now.stands.state last_turns) (sym place)
              (ap (λ i. leaves t.0 i) (sym same));
        }

-- a task ends: there is something that is unfolded so, and whatever was, still is
pub record GoesAway (t first after : ℕ) (old : Checker) (old_notes : List Note) (old_last_turns : List LastTurn) (q : ℕ) (k : Checker) (notes : List Note) (last_turns : List LastTurn) : Type 0 where
  pub some : HasLeaving t first after q k notes last_turns
  pub all : (g : NamedProgram) → Leaving g t first after 0 old old_notes old_last_turns → Leaving g t first after q k notes last_turns
