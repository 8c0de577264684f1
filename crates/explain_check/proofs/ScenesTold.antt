-- What is told of a fault is its scene.
use Rattle.std.proofs.Common.{◌≡◌, ℕ, ◌+◌, ◌-◌, ◌*◌, ◌<◌, ◌≤◌, Bool, true, false, not, List, [], ◌∷◌, ◌++◌, length, Option, Some, None, arith, sym, ◌∙◌, ap, subst, refl}
use Rattle.std.specs.Prelude.{◌&&◌, ◌||◌, ◌==◌, if◌then◌else◌, map, nat_le, nat_lt, slice_index_or, sum_by}
use Rattle.armus_base.specs.declared.ids.TaskId.{TaskId}
use Rattle.pl_syntax.specs.Tree.{Tree, done, plain, fork, loop, count, reg}
use Rattle.armus_base.specs.Numbers.{phaser, task}
use Rattle.pl_plan.specs.Unfolding.{Coming, UnfoldingState, Visit, a_plain, already_forked, already_member, not_drawn_here, not_member, opening_state, other_kind, unknown_name}
use Rattle.pl_plan.specs.Stages.{FailsAt, Stage, at_visit, comes, leaves}
use Rattle.pl_plan.specs.Tests.{first_thing, is_task, phaser_wanted, table, task_number}
use Rattle.pl_plan.specs.declared.fault.CheckFault.{CheckFault}
use Rattle.pl_plan.specs.declared.step.NameId.{NameId}
use Rattle.pl_plan.specs.declared.step.FlatStep.{FlatStep}
use Rattle.pl_plan.specs.declared.step.Thing as code
use Rattle.pl_plan.specs.declared.step.Thing.TheVariants as a_thing
use Rattle.pl_plan.specs.inside.Checker.{Checker, thing_at}
use Rattle.pl_plan.specs.inside.CheckerSteps.{thing_of}
use Rattle.pl_plan.specs.inside.Shows.{ShowsState}
use Rattle.pl_plan.proofs.ByTable.{first_kind, kind_some}
use Rattle.pl_plan.proofs.FirstRows.{kind_or}
use Rattle.explain_check.specs.Deeds.{did_draw, did_fork, did_leave, did_make, name_given, did_register, stage_statement}
use Rattle.explain_check.specs.Scenes.{IsScene, Past, about, about_cells, about_drawn, about_member, about_name, about_names, about_registered, about_visit, done_by, drawn_at, forked_at, made_at, named_phaser, named_task, parent_number, current_task, turns_around}
use Rattle.explain_check.specs.Turns.{loops_around, loops_of, turn_in, turns_in, visits_among}
use Rattle.explain_check.specs.declared.frames.Item.{Item}
use Rattle.explain_check.specs.declared.notes.LastTurn.{LastTurn}
use Rattle.explain_check.specs.declared.notes.Note.{Note}
use Rattle.explain_check.specs.declared.scene.LoopTurn.{LoopTurn}
use Rattle.explain_check.specs.declared.scene.Matter.{Matter}
use Rattle.explain_check.specs.declared.scene.Matter.TheVariants as m
use Rattle.explain_check.specs.declared.scene.Scene.{Scene}
use Rattle.explain_check.specs.declared.scene.Verb.{Verb}
use Rattle.explain_check.specs.declared.scene.Verb.TheVariants as v
use Rattle.explain_check.specs.declared.seek.FaultPlace.{FaultPlace}
use Rattle.explain_check.specs.declared.seek.FaultPlace.TheVariants as p
use Rattle.explain_check.specs.declared.seek.FoundFault.{FoundFault}
use Rattle.explain_check.specs.declared.sight.StepSight.{StepSight}
use Rattle.explain_check.specs.inside.Framed.{Comes, to_adv, to_await, to_dereg, to_fork, to_loop, to_new_phaser, to_new_task, to_reg, to_skip, to_turn}
use Rattle.explain_check.specs.inside.Noted.{MarkTells, NotesTell, a_deed, last_noted, means_drew, means_forked, means_left, means_made, means_registered, task_in}
use Rattle.explain_check.specs.inside.Seeks.{AtVisit, IsAt, NamedProgram, Stopped}
use Rattle.explain_check.specs.inside.Seen.{sight_of}
use Rattle.explain_check.specs.inside.Told.{EndScene, PlaceCanBeTold, PlaceScene, VisitScene, cells_told, drawn_told, forked_told, member_told, name_noted, names_told, parent_told, phaser_told, reg_told, registered_told, statement_noted, task_told, thing_told, turn_told, visit_told, wanted_told}
use Rattle.explain_check.proofs.Coming.{statement_is}
use Rattle.explain_check.proofs.NotesFitting.{phaser_named, task_named}

-- ---- notes

statement_same : (names : ℕ → List ℕ) (o : Option Note) (x : Option Stage) → MarkTells names o x → stage_statement x ≡ statement_noted o
statement_same names None None tells = refl
statement_same names (Some note) (Some stage) tells = tells.0
statement_same names None (Some stage) tells = absurd tells
statement_same names (Some note) None tells = absurd tells

name_same : (names : ℕ → List ℕ) (o : Option Note) (x : Option Stage) → MarkTells names o x → name_given x ≡ name_noted names o
name_same names None None tells = refl
name_same names (Some note) (Some stage) tells = tells.1
name_same names None (Some stage) tells = absurd tells
name_same names (Some note) None tells = absurd tells

-- the first row at fault is one of those that can be
kind_gives : (P : ℕ → Type 0) (b : Bool) (k : ℕ) (o : Option ℕ) (kind : ℕ) → kind_or b k o ≡ Some kind → P k → (o ≡ Some kind → P kind) → P kind
kind_gives P true k o kind e this rest = subst P (let same : k ≡ kind = cc in same) this
kind_gives P false k o kind e this rest = rest e

no_kind : (P : ℕ → Type 0) (kind : ℕ) → ◌≡◌ {A = Option ℕ} None (Some kind) → P kind
no_kind P kind e = absurd cc

one_gives : (P : ℕ → Type 0) (a : Bool) (i kind : ℕ) → kind_or a i None ≡ Some kind → P i → P kind
one_gives P a i kind e p = kind_gives P a i None kind e p (λ e. no_kind P kind e)

three_give : (P : ℕ → Type 0) (a b c : Bool) (i j l kind : ℕ) → kind_or a i (kind_or b j (kind_or c l None)) ≡ Some kind → P i → P j → P l → P kind
three_give P a b c i j l kind e p q r =
    kind_gives P a i (kind_or b j (kind_or c l None)) kind e p
    (λ e. kind_gives P b j (kind_or c l None) kind e q (λ e. one_gives P c l kind e r))

four_give : (P : ℕ → Type 0) (a b c d : Bool) (i j l n kind : ℕ) → kind_or a i (kind_or b j (kind_or c l (kind_or d n None))) ≡ Some kind → P i → P j → P l → P n → P kind
four_give P a b c d i j l n kind e p q r s =
    kind_gives P a i (kind_or b j (kind_or c l (kind_or d n None))) kind e p (λ e. three_give P b c d j l n kind e q r s)

module _ (names : ℕ → List ℕ) (notes : List Note) (past : Past) (told : NotesTell names past.first past.stages notes) where
  drawn_same : (c : ℕ) → drawn_at past c ≡ statement_noted (last_noted (a_deed 0 c 0) notes)
  drawn_same c = statement_same names (last_noted (a_deed 0 c 0) notes) (done_by past (did_draw c)) (told (a_deed 0 c 0) (did_draw c) means_drew)

  made_same : (q : ℕ) → made_at past q ≡ statement_noted (last_noted (a_deed 1 q 0) notes)
  made_same q = statement_same names (last_noted (a_deed 1 q 0) notes) (done_by past (did_make q)) (told (a_deed 1 q 0) (did_make q) means_made)

  pub forked_same : (c : ℕ) → forked_at past c ≡ statement_noted (last_noted (a_deed 2 c 0) notes)
  forked_same c = statement_same names (last_noted (a_deed 2 c 0) notes) (done_by past (did_fork c)) (told (a_deed 2 c 0) (did_fork c) means_forked)

  pub task_same : (c : ℕ) → named_task past c ≡ task_told names notes c
  task_same c =
      let e = name_same names (last_noted (a_deed 0 c 0) notes) (done_by past (did_draw c)) (told (a_deed 0 c 0) (did_draw c) means_drew) in
      ap (λ name. record { t = task c; name = name }) e

  pub phaser_same : (q : ℕ) → named_phaser past q ≡ phaser_told names notes q
  phaser_same q =
      let e = name_same names (last_noted (a_deed 1 q 0) notes) (done_by past (did_make q)) (told (a_deed 1 q 0) (did_make q) means_made) in
      ap (λ name. record { p = phaser q; name = name }) e

  thing_same : (verb : Verb) (x : List ℕ) (thing : code.Thing) → about_name past verb x (thing_of thing) ≡ thing_told names notes verb x thing
  thing_same verb x a_thing.Nothing = refl
  thing_same verb x (a_thing.Phaser q) = λ i. m.TaskWanted x verb (phaser_same q.0 i) (made_same q.0 i)
  thing_same verb x (a_thing.Task c) = λ i. m.PhaserWanted x verb (task_same c.0 i) (drawn_same c.0 i)

  member_by : (q : ℕ) (o : Option Note) (x : Option Stage) → MarkTells names o x → about_member past q x ≡ member_told names notes q o
  member_by q None None tells = ap m.NeverMember (phaser_same q)
  member_by q (Some note) (Some stage) tells = λ i. m.HasLeft (phaser_same q i) (tells.0 i)
  member_by q None (Some stage) tells = absurd tells
  member_by q (Some note) None tells = absurd tells

  member_same : (t q q' : ℕ) → q ≡ q' → about_member past q (done_by past (did_leave t q)) ≡ member_told names notes q' (last_noted (a_deed 4 t q') notes)
  member_same t q q' e =
      ap (λ z. about_member past z (done_by past (did_leave t z))) e
      ∙ member_by q' (last_noted (a_deed 4 t q') notes) (done_by past (did_leave t q')) (told (a_deed 4 t q') (did_leave t q') means_left)

  registered_same : (c c' q q' : ℕ) → c ≡ c' → q ≡ q' → about_registered past c q ≡ registered_told names notes c' q'
  registered_same c c' q q' e f =
      ap (λ z. about_registered past z q) e ∙ ap (λ z. about_registered past c' z) f
      ∙ (let s = statement_same names (last_noted (a_deed 3 c' q') notes) (done_by past (did_register c' q')) (told (a_deed 3 c' q') (did_register c' q') means_registered) in
      λ i. m.AlreadyMember (task_same c' i) (phaser_same q' i) (s i))

  parent_same : (o : Option TaskId) → parent_number past o ≡ parent_told o
  parent_same None = refl
  parent_same (Some u) = refl

  drawn_here : (c c' : ℕ) (parent : Option TaskId) → c ≡ c' → slice_index_or past.there.plan.parents c' None ≡ parent → about_drawn past c ≡ drawn_told names notes c' parent
  drawn_here c c' parent e f =
      ap (λ z. about_drawn past z) e
      ∙ (let by = ap (named_task past) (ap (parent_number past) f ∙ parent_same parent) ∙ task_same (parent_told parent) in
      λ i. m.NotDrawnHere (task_same c' i) (by i) (drawn_same c' i))

  forked_here : (c c' : ℕ) → c ≡ c' → ◌≡◌ {A = Matter} (m.AlreadyForked (named_task past c) (forked_at past c)) (forked_told names notes c')
  forked_here c c' e = ap (λ z. m.AlreadyForked (named_task past z) (forked_at past z)) e ∙ λ i. m.AlreadyForked (task_same c' i) (forked_same c' i)

  -- ---- by the coming

  module _ (k : Checker) (shows : ShowsState names k past.there) (t : TaskId) where
    reg_same : (x y : NameId) (thing other : code.Thing) → thing_at k x.0 ≡ thing → thing_at k y.0 ≡ other → x.0 < length k.bindings.slots → y.0 < length k.bindings.slots →
        about_names past (a_plain (reg (names x.0) (names y.0))) ≡ reg_told names notes (names x.0) (names y.0) thing other
    reg_same x y thing other is is' l r =
        ap (λ o. if is_task o then about_name past v.Reg (names y.0) (past.there.names (names y.0)) else about_name past v.Reg (names x.0) o) (shows.named x.0 l ∙ ap thing_of is)
        ∙ by thing
      where
        second : about_name past v.Reg (names y.0) (past.there.names (names y.0)) ≡ thing_told names notes v.Reg (names y.0) other
        second = ap (about_name past v.Reg (names y.0)) (shows.named y.0 r ∙ ap thing_of is') ∙ thing_same v.Reg (names y.0) other

        by : (z : code.Thing) →
            (if is_task (thing_of z) then about_name past v.Reg (names y.0) (past.there.names (names y.0)) else about_name past v.Reg (names x.0) (thing_of z))
            ≡ reg_told names notes (names x.0) (names y.0) z other
        by (a_thing.Task c) = second
        by (a_thing.Phaser q) = thing_same v.Reg (names x.0) (a_thing.Phaser q)
        by a_thing.Nothing = thing_same v.Reg (names x.0) a_thing.Nothing

    one_same : (verb : Verb) (x : NameId) → x.0 < length k.bindings.slots →
        about_name past verb (names x.0) (past.there.names (names x.0)) ≡ thing_told names notes verb (names x.0) (thing_at k x.0)
    one_same verb x l = ap (about_name past verb (names x.0)) (shows.named x.0 l) ∙ thing_same verb (names x.0) (thing_at k x.0)

    tasks_are : length past.there.plan.parents ≡ length k.parents
    tasks_are = ap length shows.plan.parents

    phasers_are : length past.there.plan.makers ≡ length k.makers
    phasers_are = ap length shows.plan.makers

    more_phasers : ◌≡◌ {A = Matter} (m.TooManyCells (length past.there.plan.parents) (length past.there.plan.makers + 1)) (m.TooManyCells (length k.parents) (length k.makers + 1))
    more_phasers = λ i. m.TooManyCells (tasks_are i) (phasers_are i + 1)

    more_tasks : ◌≡◌ {A = Matter} (m.TooManyCells (length past.there.plan.parents + 1) (length past.there.plan.makers)) (m.TooManyCells (length k.parents + 1) (length k.makers))
    more_tasks = λ i. m.TooManyCells (tasks_are i + 1) (phasers_are i)

    -- where a step has a name, each kind has its matter
    named_same :
        (kind : ℕ) (c : Coming) (s : StepSight) → s.t ≡ t → about_names past c ≡ names_told names notes s s.item.step → phaser_wanted past.there c ≡ wanted_told s s.item.step →
        task_number (first_thing past.there c) ≡ task_in s.x → slice_index_or past.there.plan.parents (task_in s.x) None ≡ s.parent → about_cells past c ≡ cells_told s s.item.step →
        about_visit past kind t.0 c ≡ visit_told names notes kind s
    named_same kind c s mine named wanted first parent cells =
        let t_is : t.0 ≡ s.t.0 = ap (λ (u : TaskId). u.0) (sym mine) in
        let member = ap (λ u. about_member past (phaser_wanted past.there c) (done_by past (did_leave u (phaser_wanted past.there c)))) t_is
        ∙ member_same s.t.0 (phaser_wanted past.there c) (wanted_told s s.item.step) wanted in
        let did_register = registered_same (task_number (first_thing past.there c)) (task_in s.x) (phaser_wanted past.there c) (wanted_told s s.item.step) first wanted in
        let drawn = drawn_here (task_number (first_thing past.there c)) (task_in s.x) s.parent first parent in
        let forks = forked_here (task_number (first_thing past.there c)) (task_in s.x) first in
        λ i. if (kind == unknown_name) || (kind == other_kind) then named i
        else (if kind == not_member then member i
        else (if kind == already_member then did_register i
        else (if kind == not_drawn_here then drawn i
        else (if kind == already_forked then forks i
        else (if kind == 7 then m.TooManyTasks
        else (if kind == 8 then m.TooManyPhasers
        else (if kind == 9 then m.TooManyOps
        else (if kind == 11 then cells i else m.TooManyVisits))))))))

    parent_is : (c : ℕ) → slice_index_or past.there.plan.parents c None ≡ slice_index_or k.parents c None
    parent_is c = ap (λ ps. slice_index_or ps c None) shows.plan.parents

    visit_by : (steps : List FlatStep) (kind : ℕ) (item : Item) (m : Visit) → Comes (length k.bindings.slots) names steps item m → first_kind table past.there t.0 m.coming ≡ Some kind →
        about_visit past kind t.0 m.coming ≡ visit_told names notes kind (sight_of k t item)
    visit_by steps kind item m (to_fork {at} x after body l within spelled) some =
        named_same kind m.coming (sight_of k t item) refl (one_same v.Fork x l) (phaser_named names k past.there shows t x l) (task_named names k past.there shows t x l)
        (parent_is (task_in (thing_at k x.0))) more_phasers
    visit_by steps kind item m (to_reg {at} x y l r) some =
        named_same kind m.coming (sight_of k t item) refl (reg_same x y (thing_at k x.0) (thing_at k y.0) refl refl l r) (phaser_named names k past.there shows t y r)
        (task_named names k past.there shows t x l) (parent_is (task_in (thing_at k x.0))) more_phasers
    visit_by steps kind item m (to_dereg {at} x l) some =
        named_same kind m.coming (sight_of k t item) refl (one_same v.Dereg x l) (phaser_named names k past.there shows t x l) (task_named names k past.there shows t x l)
        (parent_is (task_in (thing_at k x.0))) more_phasers
    visit_by steps kind item m (to_adv {at} x l) some =
        named_same kind m.coming (sight_of k t item) refl (one_same v.Adv x l) (phaser_named names k past.there shows t x l) (task_named names k past.there shows t x l)
        (parent_is (task_in (thing_at k x.0))) more_phasers
    visit_by steps kind item m (to_await {at} x off l near) some =
        named_same kind m.coming (sight_of k t item) refl (one_same v.Await x l) (phaser_named names k past.there shows t x l) (task_named names k past.there shows t x l)
        (parent_is (task_in (thing_at k x.0))) more_phasers
    visit_by steps kind item m (to_new_task {at} x l) some =
        three_give (λ z. about_visit past z t.0 m.coming ≡ visit_told names notes z (sight_of k t item)) (not (nat_lt past.there.visits 4194304))
        (not (nat_lt (length past.there.plan.parents) 4096)) (not (nat_le ((length past.there.plan.parents + 1) * (length past.there.plan.makers + 1)) 1048576)) 10 7 11 kind some
        refl refl more_tasks
    visit_by steps kind item m (to_new_phaser {at} x l) some =
        four_give (λ z. about_visit past z t.0 m.coming ≡ visit_told names notes z (sight_of k t item)) (not (nat_lt past.there.visits 4194304))
        (not (nat_lt (length past.there.plan.makers) 1024)) (not (nat_le (length past.there.plan.parents * (length past.there.plan.makers + 1 + 1)) 1048576))
        (not (nat_lt (sum_by length past.there.plan.codes) 1048576)) 10 8 11 9 kind some refl refl more_phasers refl
    visit_by steps kind item m (to_skip {at}) some =
        one_gives (λ z. about_visit past z t.0 m.coming ≡ visit_told names notes z (sight_of k t item)) (not (nat_lt past.there.visits 4194304)) 10 kind some refl
    visit_by steps kind item m (to_loop {at} n after steady) some =
        one_gives (λ z. about_visit past z t.0 m.coming ≡ visit_told names notes z (sight_of k t item)) (not (nat_lt past.there.visits 4194304)) 10 kind some refl
    visit_by steps kind item m (to_turn {at}) some =
        one_gives (λ z. about_visit past z t.0 m.coming ≡ visit_told names notes z (sight_of k t item)) (not (nat_lt past.there.visits 4194304)) 10 kind some refl

    -- the matter of a visit, by the kinds that the table gives
    pub visit_same :
        (steps : List FlatStep) (kind : ℕ) (s : StepSight) (m : Visit) → Comes (length k.bindings.slots) names steps s.item m → s ≡ sight_of k t s.item →
        first_kind table past.there t.0 m.coming ≡ Some kind → about_visit past kind t.0 m.coming ≡ visit_told names notes kind s
    visit_same steps kind s m comes_to is some =
        subst (λ z. about_visit past kind t.0 m.coming ≡ visit_told names notes kind z) (sym is) (visit_by steps kind s.item m comes_to some)

-- ---- the turns of loops

-- what is the same of all numbers from 1 on is the same of the loops around a statement
turns_same : (f h : ℕ → LoopTurn) → ((n : ℕ) → 1 ≤ n → f n ≡ h n) → (first : ℕ) (tree : Tree) (s : ℕ) → 1 ≤ first → map f (loops_around first tree s) ≡ map h (loops_around first tree s)
turns_same f h same first done s l = refl
turns_same f h same first (plain c rest) s l = turns_same f h same (first + 1) rest s (omega (arith, l))
turns_same f h same first (fork x body rest) s l = turns_same f h same (first + 1 + count body) rest s (omega (arith, l))
turns_same f h same first (loop k body rest) s l =
    by_test (nat_lt first s && nat_le s (first + count body)) f h (first) (loops_around (first + 1) body s) (loops_around (first + 1 + count body) rest s) (same first l)
    (turns_same f h same (first + 1) body s (omega (arith, l))) (turns_same f h same (first + 1 + count body) rest s (omega (arith, l)))
  where
    by_test : (b : Bool) (f h : ℕ → LoopTurn) (n : ℕ) (xs ys : List ℕ) → f n ≡ h n → map f xs ≡ map h xs → map f ys ≡ map h ys →
        map f (if b then n ∷ xs else ys) ≡ map h (if b then n ∷ xs else ys)
    by_test true f h n xs ys e p q = λ i. e i ∷ p i
    by_test false f h n xs ys e p q = q

-- ---- scenes

first_failing : (s : UnfoldingState) (t : ℕ) (m : Visit) (f : CheckFault) → FailsAt s (comes t m) f → first_kind table s t m.coming ≡ Some f.kind
first_failing s t m f (at_visit first is) = kind_some s t m.coming f.kind first

module _ (g : NamedProgram) (stop : FoundFault) (notes : List Note) (last_turns : List LastTurn) (st : Stopped g stop notes last_turns) where
  abbrev past : Past
  past = record { first = opening_state g.program.body; stages = st.stages; there = st.there }

  pub can_be_told : PlaceCanBeTold last_turns g.steps stop.first stop.after stop.place
  can_be_told = by stop.place st.place
    where
      by : (place : FaultPlace) → IsAt g place stop.first stop.after st.stages st.stage st.there last_turns → PlaceCanBeTold last_turns g.steps stop.first stop.after place
      by (p.Visit sight) at =
          let k = at.kept in
          let steps = at.shown.steps_are in
          record {
            few = omega (arith, at.shown.small, ap length steps);
            many = at.many;
            within = at.started.within;
            list = (length k.bindings.slots, (g.names, at.started.start.body, at.started.spelled));
            tasks = omega (arith, ap (λ (z : StepSight). z.tasks) at.seen.sight_is, at.shown.fits.few);
            phasers = omega (arith, ap (λ (z : StepSight). z.phasers) at.seen.sight_is, at.shown.fits.few_makers);
            small = omega (arith, at.seen.here, at.shown.small, ap length steps);
          }
      by (p.End t q) at = tt

  visit_scene : (scene : Scene) (sight : StepSight) → AtVisit g sight stop.first stop.after st.stages st.stage st.there last_turns → VisitScene g.names notes last_turns g.steps stop sight scene → IsScene g.program scene
  visit_scene scene sight at told =
      let t = sight.t.0 in
      let k = at.kept in
      let m_ = at.visit in
      let fails : FailsAt st.there (comes t m_) stop.fault = subst (λ z. FailsAt st.there z stop.fault) at.stage_is st.fails in
      let matter : about_visit past stop.fault.kind t m_.coming ≡ visit_told g.names notes stop.fault.kind sight =
      visit_same g.names notes past st.told k at.shown.shows sight.t g.steps stop.fault.kind sight m_ at.seen.comes_to at.seen.sight_is
      (first_failing st.there t m_ stop.fault fails) in
      let number : m_.statement ≡ sight.item.at + 1 = statement_is (length k.bindings.slots) g.names g.steps sight.item m_ at.seen.comes_to in
      let visits = visits_among t (st.stages ++ comes t m_ ∷ []) in
      let turn_is : (n : ℕ) → 1 ≤ n → turn_told last_turns t n ≡ record { statement = n; turn = turn_in n visits } =
      λ n l. ap (λ i. record { statement = n; turn = i })
      (at.turns (n - 1) ∙ ap (λ z. turn_in (n - 1 + 1) (visits_among t (st.stages ++ z ∷ []))) at.stage_is
      ∙ ap (λ i. turn_in i visits) (let e : n - 1 + 1 ≡ n = omega (arith, l) in e)) in
      let turns : scene.turns ≡ turns_around past (comes t m_) =
      told.turns_are (length k.bindings.slots) g.names at.started.start.body at.started.spelled
      ∙ turns_same (turn_told last_turns t) (λ n. record { statement = n; turn = turn_in n visits }) turn_is (stop.first + 1) at.started.start.body (sight.item.at + 1) (omega arith)
      ∙ ap (λ i. map (λ n. record { statement = n; turn = turn_in n visits }) (loops_around i at.started.start.body (sight.item.at + 1))) (sym at.started.first_is)
      ∙ ap (λ i. map (λ n. record { statement = n; turn = turn_in n visits }) (loops_around at.started.start.first at.started.start.body i)) (sym number)
      ∙ ap (λ o. turns_in (loops_of o m_.statement) visits) (sym at.started.start_is) in
      record {
        found = record {
          stages = st.stages;
          there = st.there;
          leads = st.past.leads;
          stage = st.stage;
          next = st.next;
          fails = subst (λ f. FailsAt st.there st.stage f) (sym told.fault_is) st.fails;
        };
        task_is = told.task_is ∙ sym (task_same g.names notes past st.told t) ∙ ap (λ z. named_task past (current_task z)) (sym at.stage_is);
        forked_is = told.forked_is ∙ sym (forked_same g.names notes past st.told t) ∙ ap (λ z. forked_at past (current_task z)) (sym at.stage_is);
        turns_are = turns ∙ ap (turns_around past) (sym at.stage_is);
        matter_is =
            told.matter_is ∙ sym matter ∙ ap (λ z. about past stop.fault.kind z) (sym at.stage_is) ∙ ap (λ (f : CheckFault). about past f.kind st.stage) (sym told.fault_is);
      }

  end_scene : (scene : Scene) (t q : ℕ) → st.stage ≡ leaves t q → EndScene g.names notes stop t q scene → IsScene g.program scene
  end_scene scene t q stage_is told =
      record {
        found = record {
          stages = st.stages;
          there = st.there;
          leads = st.past.leads;
          stage = st.stage;
          next = st.next;
          fails = subst (λ f. FailsAt st.there st.stage f) (sym told.fault_is) st.fails;
        };
        task_is = told.task_is ∙ sym (task_same g.names notes past st.told t) ∙ ap (λ z. named_task past (current_task z)) (sym stage_is);
        forked_is = told.forked_is ∙ sym (forked_same g.names notes past st.told t) ∙ ap (λ z. forked_at past (current_task z)) (sym stage_is);
        turns_are = told.turns_are ∙ ap (turns_around past) (sym stage_is);
        matter_is =
            told.matter_is ∙ ap m.TooManyOpsAtEnd (sym (phaser_same g.names notes past st.told q)) ∙ ap (λ z. about past scene.fault.kind z) (sym stage_is);
      }

  pub scene_is : (scene : Scene) → PlaceScene g.names notes last_turns g.steps stop stop.place scene → IsScene g.program scene
  scene_is scene told = by stop.place st.place told
    where
      by : (place : FaultPlace) → IsAt g place stop.first stop.after st.stages st.stage st.there last_turns → PlaceScene g.names notes last_turns g.steps stop place scene → IsScene g.program scene
      by (p.Visit sight) at told = visit_scene scene sight at told
      by (p.End t q) at told = end_scene scene t.0 q.0 at told
