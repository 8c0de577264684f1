-- Tasks, one after the other, on the way to the first fault.
use Rattle.std.proofs.Common.{◌≡◌, ℕ, zero, suc, ◌+◌, ◌-◌, ◌<◌, ◌≤◌, Bool, true, false, List, [], ◌∷◌, ◌++◌, length, Option, Some, None, Result, Ok, Err, inl, inr, append_assoc, arith, sym, ◌∙◌, ap, subst, refl}
use Rattle.std.specs.Prelude.{if◌then◌else◌, map, slice_index_or}
use Rattle.std.proofs.lemmas.Bool.Decides.{eqb_tells}
use Rattle.std.proofs.lemmas.List.{append-nil, get_or_past}
use Rattle.armus_base.specs.declared.ids.TaskId.{TaskId}
use Rattle.pl_syntax.specs.Tree.{done}
use Rattle.pl_plan.specs.Unfolding.{Start, UnfoldingState, Visit, visits_of, with_names}
use Rattle.pl_plan.specs.Stages.{IsNextStage, Stage, begins, comes, ends_of, stages_below, stages_of, with_start_names}
use Rattle.pl_plan.specs.inside.Checker.{Checker, CheckerStart, Keeps, range_of, with_start_things}
use Rattle.pl_plan.specs.inside.Shows.{MaybeStartShows, ShowsState}
use Rattle.pl_plan.specs.inside.Steps.{IsSpelled}
use Rattle.pl_plan.specs.declared.step.FlatStep.{FlatStep}
use Rattle.pl_plan.proofs.Beginning.{kept_begun, ready, range_is, spelled_there, shows_begun}
use Rattle.pl_plan.proofs.Unfolds as unfolds
use Rattle.explain_check.specs.Turns.{turn_in}
use Rattle.explain_check.specs.declared.notes.LastTurn.{LastTurn}
use Rattle.explain_check.specs.declared.notes.Note.{Note}
use Rattle.explain_check.specs.declared.seek.FoundFault.{FoundFault}
use Rattle.armus_base.specs.declared.errors.NoMemory.{NoMemory}
use Rattle.explain_check.specs.inside.Noted.{LastTurnsTell, no_turn, turn_by}
use Rattle.explain_check.specs.inside.Seeks.{Before, HasBefore, Leaving, Midst, Passed, SoughtEnd, SoughtTask, NamedProgram, Stands, whole_body}
use Rattle.explain_check.proofs.SoughtEnds.{begins_quiet, quiet_on}

-- the last turns of the next task
next_last_turns : (t steps visits : ℕ) (xs : List Stage) (last_turns : List LastTurn) → LastTurnsTell t steps visits xs last_turns → LastTurnsTell (t + 1) steps visits xs last_turns
next_last_turns t steps visits xs last_turns tell =
    record {
      many = tell.many;
      earlier = λ at. omega (arith, tell.earlier at);
      few = tell.few;
      later = λ u l. tell.later u (omega (arith, l));
      turns = λ at. none (slice_index_or last_turns at no_turn) (tell.earlier at) ∙ ap (turn_in (at + 1)) (sym (tell.later (t + 1) (omega arith)));
    }
  where
    none : (last : LastTurn) → last.task.0 ≤ t → turn_by (t + 1) last ≡ 0
    none last low = elim (eqb_tells last.task.0 (t + 1)) [
      | inl y ↦ absurd (let e = y.1 in omega (arith, e, low))
      | inr n ↦ ap (λ (b : Bool). if b then last.turn else 0) n.0
    ]

-- by the start that is kept
record FoundStart (names : ℕ → List ℕ) (k : Checker) (s : UnfoldingState) (t first after : ℕ) : Type 0 where
  start : Start
  start_is : slice_index_or s.starts t None ≡ Some start
  first_is : start.first ≡ first + 1
  spelled : IsSpelled (length k.bindings.slots) names k.steps first start.body after
  shows : ShowsState names (with_start_things (slice_index_or k.starts t None) k) (with_names start.names s)

found_by :
    (names : ℕ → List ℕ) (k : Checker) (s : UnfoldingState) (t first after : ℕ) (o : Option Start) (o' : Option CheckerStart) → slice_index_or s.starts t None ≡ o →
    slice_index_or k.starts t None ≡ o' → MaybeStartShows names k.bindings.slots k.steps o o' → Some (first, after) ≡ range_of o' → ShowsState names k s →
    FoundStart names k s t first after
found_by names k s t first after None None is is' m e h = absurd cc
found_by names k s t first after None (Some b) is is' m e h = absurd m
found_by names k s t first after (Some a) None is is' m e h = absurd m
found_by names k s t first after (Some a) (Some b) is is' m e h =
    let p = range_is first after b e in
    let sp = spelled_there names k a b m first after p in
    let begun = shows_begun names k a b m s h in
    record {
      start = a;
      start_is = is;
      first_is = m.first ∙ ap (λ i. i + 1) (sym p.0);
      spelled = sp;
      shows = subst (λ z. ShowsState names (with_start_things z k) (with_names a.names s)) (sym is') begun;
    }

none_by : (names : ℕ → List ℕ) (k : Checker) (o : Option Start) (o' : Option CheckerStart) → MaybeStartShows names k.bindings.slots k.steps o o' → None ≡ range_of o' →
    (o ≡ None) × (with_start_things o' k ≡ k)
none_by names k None None m e = (refl, refl)
none_by names k (Some a) (Some b) m e = absurd cc
none_by names k None (Some b) m e = absurd m
none_by names k (Some a) None m e = absurd m

module _ (g : NamedProgram) where
  abbrev two : Bool
  two = g.program.two

  -- the next task
  pub next_before :
      (t : ℕ) (k : Checker) (notes : List Note) (last_turns : List LastTurn) (st : Stands g t k notes last_turns) → st.stages ≡ stages_below two (suc t) st.state → Before g (t + 1) k notes last_turns
  next_before t k notes last_turns st own =
      record {
        stands = record {
          stages = st.stages;
          state = st.state;
          past = st.past;
          shown = st.shown;
          told = st.told;
          last_turns_tell = next_last_turns t (length k.steps) st.state.visits st.stages last_turns st.last_turns_tell;
        };
        own = own ∙ ap (λ i. stages_below two i st.state) (let e : suc t ≡ t + 1 = omega arith in e);
      }

  module _ (t : TaskId) (k : Checker) (notes : List Note) (last_turns : List LastTurn) (now : Before g t.0 k notes last_turns) where
    -- a task that is not forked
    pub task_idle : (new : Checker) → None ≡ range_of (slice_index_or k.starts t.0 None) → new ≡ with_start_things (slice_index_or k.starts t.0 None) k → Before g (t.0 + 1) new notes last_turns
    task_idle new none is =
        let n = none_by g.names k (slice_index_or now.stands.state.starts t.0 None) (slice_index_or k.starts t.0 None) (now.stands.shown.shows.starts t.0) none in
        subst (λ z. Before g (t.0 + 1) z notes last_turns) (sym (is ∙ n.1))
        (next_before t.0 k notes last_turns now.stands
        (now.own ∙ sym (append-nil (stages_below two t.0 now.stands.state)) ∙ ap (λ o. stages_below two t.0 now.stands.state ++ stages_of two t.0 o) (sym n.0)))

    module _ (here : t.0 < length k.parents) (first after : ℕ) (new : Checker) (range : Some (first, after) ≡ range_of (slice_index_or k.starts t.0 None))
        (is : new ≡ with_start_things (slice_index_or k.starts t.0 None) k) where
      f : FoundStart g.names k now.stands.state t.0 first after
      f =
          found_by g.names k now.stands.state t.0 first after (slice_index_or now.stands.state.starts t.0 None) (slice_index_or k.starts t.0 None) refl refl
          (now.stands.shown.shows.starts t.0) range now.stands.shown.shows

      keeps : Keeps k new
      keeps = kept_begun k new t.0 now.stands.shown.fits is

      here_now : t.0 < length now.stands.state.plan.parents
      here_now = subst (λ (ps : List (Option TaskId)). t.0 < length ps) (sym now.stands.shown.shows.plan.parents) here

      own_all : now.stands.stages ++ (begins t.0 ∷ (map (λ m. comes t.0 m) (visits_of f.start.first f.start.body) ++ ends_of two t.0)) ≡ stages_below two (suc t.0) now.stands.state
      own_all =
          ap (λ z. z ++ (begins t.0 ∷ (map (λ m. comes t.0 m) (visits_of f.start.first f.start.body) ++ ends_of two t.0))) now.own
          ∙ ap (λ o. stages_below two t.0 now.stands.state ++ stages_of two t.0 o) (sym f.start_is)

      next : IsNextStage two now.stands.stages (begins t.0) now.stands.state
      next =
          unfolds.next_of two now.stands.stages t.0 (begins t.0) (map (λ m. comes t.0 m) (visits_of f.start.first f.start.body) ++ ends_of two t.0) now.stands.state here_now own_all

      abbrev begun : UnfoldingState
      begun = with_names f.start.names now.stands.state

      stands : Stands g t.0 new notes last_turns
      stands =
          quiet_on g t.0 k notes last_turns now.stands (begins t.0) (begins_quiet t.0) next tt begun (ap (λ o. with_start_names o now.stands.state) f.start_is)
          (record { drawn = now.stands.past.kept.drawn; many = now.stands.past.kept.many; few = now.stands.past.kept.few }) refl new keeps
          (subst (λ z. ShowsState g.names z begun) (sym is) f.shows)

      pub task_begins : Midst g t.0 first after (whole_body first after ∷ []) new notes last_turns
      unfolding quiet_on stands
      task_begins =
          let r = ready k new t.0 first after now.stands.shown.fits range is in
          let steps = keeps.steps ∙ now.stands.shown.steps_are in
          let spelled : IsSpelled (length new.bindings.slots) g.names g.steps first f.start.body after =
          subst (λ n. IsSpelled n g.names g.steps first f.start.body after) (sym keeps.slots)
          (subst (λ ss. IsSpelled (length k.bindings.slots) g.names ss first f.start.body after) now.stands.shown.steps_are f.spelled) in
          let ms : List Visit = visits_of f.start.first f.start.body in
          record {
            stands = stands;
            here = here_now;
            started = record { start = f.start; start_is = f.start_is; first_is = f.first_is; spelled = spelled; within = subst (λ (ss : List FlatStep). after ≤ length ss) steps r.within };
            visits = ms;
            frames_are = (
              [],
              ms,
              record {
                rest = f.start.body;
                rest_there = spelled;
                body = done;
                body_there = λ l. absurd (omega (arith, l));
                within = subst (λ (ss : List FlatStep). after ≤ length ss) steps r.within;
                small = omega arith;
                visits_are = ap (λ i. visits_of i f.start.body) f.first_is ∙ sym (append-nil (visits_of (first + 1) f.start.body));
              },
              refl,
              refl,
            );
            own = append_assoc now.stands.stages (begins t.0 ∷ []) (map (λ m. comes t.0 m) ms ++ ends_of two t.0) ∙ own_all
                ∙ sym (unfolds.stages_same two (suc t.0) now.stands.state begun (λ u l. refl));
          }

  -- ---- the end of a task

  pub task_ends : (t first after : ℕ) (k : Checker) (notes : List Note) (last_turns : List LastTurn) → two ≡ false → Midst g t first after [] k notes last_turns → Before g (t + 1) k notes last_turns
  task_ends t first after k notes last_turns one m =
      next_before t k notes last_turns m.stands
      (sym (append-nil m.stands.stages) ∙ ap (λ b. m.stands.stages ++ ends_of b t) (sym one)
      ∙ ap (λ ms. m.stands.stages ++ (map (λ v. comes t v) ms ++ ends_of two t)) (sym m.frames_are) ∙ m.own)

  pub task_leaves :
      (t first after : ℕ) (k : Checker) (notes : List Note) (last_turns : List LastTurn) → two ≡ true → Midst g t first after [] k notes last_turns → Leaving g t first after 0 k notes last_turns
  task_leaves t first after k notes last_turns form m =
      record {
        stands = m.stands;
        here = m.here;
        started = m.started;
        earlier = m.stands.stages;
        left = sym (append-nil m.stands.stages);
        own = ap (λ b. m.stands.stages ++ ends_of b t) (sym form)
            ∙ ap (λ ms. m.stands.stages ++ (map (λ v. comes t v) ms ++ ends_of two t)) (sym m.frames_are) ∙ m.own;
      }

  pub task_left : (t first after : ℕ) (k : Checker) (notes : List Note) (last_turns : List LastTurn) → Leaving g t first after 1024 k notes last_turns → Before g (t + 1) k notes last_turns
  task_left t first after k notes last_turns m = next_before t k notes last_turns m.stands (m.left ∙ m.own)

  -- ---- all tasks

  stages_past : (n d : ℕ) (s : UnfoldingState) → length s.starts ≤ n → stages_below two (n + d) s ≡ stages_below two n s
  stages_past n zero s l = ap (λ m. stages_below two m s) (let e : n + 0 ≡ n = omega arith in e)
  stages_past n (suc d) s l =
      ap (λ m. stages_below two m s) (let e : n + suc d ≡ suc (n + d) = omega arith in e)
      ∙ ap (λ o. stages_below two (n + d) s ++ stages_of two (n + d) o) (get_or_past s.starts (n + d) None (omega (arith, l)))
      ∙ append-nil (stages_below two (n + d) s) ∙ stages_past n d s l

  pub all_passed : (t : ℕ) (k : Checker) (notes : List Note) (last_turns : List LastTurn) → Before g t k notes last_turns → length k.parents ≤ t → Passed g
  all_passed t k notes last_turns now all =
      let s = now.stands.state in
      let many : length s.plan.parents ≡ length k.parents = ap length now.stands.shown.shows.plan.parents in
      record {
        stages = now.stands.stages;
        state = s;
        leads = now.stands.past.leads;
        all =
            sym (stages_past (length s.plan.parents) (t - length s.plan.parents) s (omega (arith, now.stands.past.kept.many)))
            ∙ ap (λ i. stages_below two i s) (let e : length s.plan.parents + (t - length s.plan.parents) ≡ t = omega (arith, many, all) in e) ∙ sym now.own;
      }

  pub ends_task :
      (t first after : ℕ) (r : Result (Option FoundFault) NoMemory) (k : Checker) (notes : List Note) (last_turns : List LastTurn) → SoughtEnd g t first after r k notes last_turns →
      SoughtTask g (t + 1) r k notes last_turns
  ends_task t first after (Ok None) k notes last_turns h = task_left t first after k notes last_turns h
  ends_task t first after (Ok (Some stop)) k notes last_turns h = h
  ends_task t first after (Err e) k notes last_turns h = tt

-- the tasks go on: there is something that is unfolded so, and whatever was, still is
pub record GoesThrough (two : Bool) (old : Checker) (old_notes : List Note) (old_last_turns : List LastTurn) (t : ℕ) (k : Checker) (notes : List Note) (last_turns : List LastTurn) : Type 0 where
  pub some : HasBefore two t k notes last_turns
  pub all : (g : NamedProgram) → g.program.two ≡ two → Before g 0 old old_notes old_last_turns → Before g t k notes last_turns
