use Rattle.std.proofs.Common.{◌≡◌, ◌++◌, ◌∙◌, ℕ, List, None, Some, Ok, Err, false, sym, refl, ap, subst, rules}
use Rattle.std.specs.Prelude.{slice_get}
use Rattle.armus_base.specs.declared.ids.TaskId.{TaskId}
use Rattle.armus_base.specs.declared.status.Dead.{Dead}
use Rattle.armus_base.specs.calls.Boards.{IsLawful}
use Rattle.armus_base.specs.CheckedPlans.{IsCheckedPlan}
use Rattle.armus_base.specs.DeadLists.{IsDeadList}
use Rattle.armus_base.specs.Plans.{Plan}
use Rattle.armus_base.specs.Places.{state_at}
use Rattle.armus_base.specs.Runs.{IsReachable}
use Rattle.armus_base.specs.calls.Statuses.{IsInOrder}
use Rattle.armus_base.specs.declared.status.Status.{Status}
use Rattle.pl_core.specs.declared.place.Place.{Place as KeptPlace}
use Rattle.pl_core.specs.calls.Worlds.{places_at}
use Rattle.board.specs.declared.mode.Mode.{Mode}
use Rattle.board.specs.declared.mode.Mode.TheVariants.{Detect}
use Rattle.board.specs.calls.Closing.{AreLastOf}
use Rattle.board.specs.calls.Seats.{Frame, IsOf, Known}
use Rattle.board.specs.calls.Views.{seen}
use Rattle.board.specs.calls.Words.{IsShown}
use Rattle.phase_scan.specs.calls.Looks.{LoadsAlone}
use Rattle.collector.specs.calls.Passes.{HasDeadOf}
use Rattle.report.specs.NamedDead.{AreSomeDead}
use Rattle.board_runs.specs.calls.Turns.{Working, loads_between}
use Rattle.board_runs.specs.calls.TaskSeats.{ArePlacesOf, AreTaskSeats, IsSeatIn, all_of}
use Rattle.task_runner.specs.calls.DetectRuns.{AreDeadAtTheEnd, AreSettledPlaces, told}
use Rattle.task_runner.specs.inside.Rests.{TellsRest}
use Rattle.task_runner.specs.inside.LiveReporters.{TellsMore, TellsOn}
use Rattle.task_runner.specs.declared.ran.RunEnd.TheVariants.{NoMemory}
use Rattle.task_runner.specs.inside.BoardRuns.{bound_on}
use Rattle.task_runner.proofs.EndedTurns.{turns_ended}
use Rattle.task_runner.proofs.BoardEnds.{lawful, plain, reachable, settled, shown}
use Rattle.task_runner.proofs.LastPasses.{dead_there, named_there, statuses_in}
use Rattle.task_runner.proofs.TellingAll.{blocked_in_order, none_on, pass_err, rest_err, rest_ok}
use Rattle.task_runner.proofs.detect.end_run.Goals.{After-close-words}
use Rattle.task_runner.proofs.detect.end_run.Goals as goal

-- where the tasks stood when the board was closed
module _ (g : _) (c : After-close-words g) where
  abbrev f : Frame
  f = c.args.board

  abbrev plan_is : f.plan ≡ c.args.run.plan.now
  plan_is = c.requires.under_way.on_board.of_plan

  abbrev tasks : List Working
  tasks = all_of c.args.run.board_tasks

  abbrev before : Known
  before = c.take_in.new.self.view

  abbrev now : Known
  now = c.last_pass.new.live_reporter.view

  abbrev words : List ℕ
  words = c.close-words.result.0.words

  abbrev places : List KeptPlace
  places = c.in_ok-places.places

  board_tasks : AreTaskSeats f (IsSeatIn tasks)
  board_tasks = c.requires.under_way.on_board.board_tasks.all.board_tasks

  made : IsOf before f
  made = c.take_in.ensures.watches.made

  goes : LoadsAlone before now
  goes = c.last_pass.ensures.goes_on

  of : IsOf now f
  of = record { table = goes.table ∙ made.table; plan = goes.same.plan ∙ made.plan; mode = goes.same.mode ∙ made.mode }

  last : AreLastOf f.plan Detect (seen now.view) words
  last = subst (λ (m : Mode). AreLastOf f.plan m (seen now.view) words) c.requires.under_way.detects c.close-words.ensures.words

  are : ArePlacesOf f.plan tasks places
  are = subst (λ (q : Plan). ArePlacesOf q tasks places) (sym plan_is) c.in_ok-places.ensures.places

  stands_reachable : IsReachable c.args.run.plan.now (places_at c.args.run.plan.now places)
  stands_reachable =
      subst (λ (q : Plan). IsReachable q (places_at q places)) plan_is
      (reachable f c.requires.under_way.detects tasks board_tasks places are before now c.take_in.ensures.known goes of words last)

  stands_plain : (t : ℕ) (place : KeptPlace) → slice_get places t ≡ Some place → place.refused ≡ false
  stands_plain = plain f c.requires.under_way.detects tasks board_tasks places are before now c.take_in.ensures.known goes of words last

pub world_end_from-requires-clause-reachable : goal.world_end_from-requires-clause-reachable
world_end_from-requires-clause-reachable g c κs within =
    subst (λ (xs : List KeptPlace). IsReachable c.args.run.plan.now (places_at c.args.run.plan.now xs)) (sym c.as_slice.ensures.items)
    (stands_reachable g (goal.at.world_end_from-requires-clause-reachable g c).After-close-words)

pub world_end_from-requires-clause-plain : goal.world_end_from-requires-clause-plain
world_end_from-requires-clause-plain g c κs within = λ t place is.
    stands_plain g (goal.at.world_end_from-requires-clause-plain g c).After-close-words t place
    (ap (λ (xs : List KeptPlace). slice_get xs t) (sym c.as_slice.ensures.items) ∙ is)

pub returns-in_err-places-clause-told : goal.returns-in_err-places-clause-told
returns-in_err-places-clause-told g c = λ live.
    let is : c.from_residual.result ≡ Err NoMemory = search rules in
    none_on c.args.run.plan.now c.args.live_reporter.dead (told g.K.Sink.taken g.K.Sink.faults c.args.out.now) (told g.K.Sink.taken g.K.Sink.faults c.args.out.now) c.from_residual.result is refl
    (subst (λ (q : Plan). AreDeadAtTheEnd q c.args.live_reporter.dead) c.requires.under_way.on_board.of_plan c.requires.under_way.watches.dead)

pub returns-in_err-last_pass-clause-told : goal.returns-in_err-last_pass-clause-told
returns-in_err-last_pass-clause-told g c = λ live.
    let a = told g.K.Sink.taken g.K.Sink.faults c.args.out.now in
    let m = told g.K.Sink.taken g.K.Sink.faults c.last_pass.new.out in
    let is : c.from_residual-in_err-last_pass.result ≡ Err c.in_err-last_pass.field-0.0 = search rules in
    pass_err (Unit {0}) c.args.run.plan.now c.args.live_reporter.dead c.last_pass.new.live_reporter.dead a m c.in_err-last_pass.field-0.0 c.from_residual-in_err-last_pass.result is
    (subst (λ (q : Plan). TellsMore {A = Unit {0}} q c.args.live_reporter.dead c.last_pass.new.live_reporter.dead a m (Err c.in_err-last_pass.field-0.0)) c.requires.under_way.on_board.of_plan
    (subst (λ (ds : List Dead). TellsMore {A = Unit {0}} c.args.board.plan ds c.last_pass.new.live_reporter.dead a m (Err c.in_err-last_pass.field-0.0))
    c.take_in.ensures.same (c.in_err-last_pass.ensures.told live)))

pub returns-in_err-ended-clause-told : goal.returns-in_err-ended-clause-told
returns-in_err-ended-clause-told g c = λ live.
    let t = c.in_ok-last_pass.ensures.told live in
    let a = told g.K.Sink.taken g.K.Sink.faults c.args.out.now in
    let m = told g.K.Sink.taken g.K.Sink.faults c.last_pass.new.out in
    let is : c.from_residual-in_err-ended.result ≡ Err NoMemory = search rules in
    let grown = t.1 ∙ ap (λ (ds : List Dead). ds ++ t.0) c.take_in.ensures.same in
    subst (TellsOn c.args.run.plan.now c.args.live_reporter.dead a m) (sym is) (
      t.0,
      subst (AreDeadAtTheEnd c.args.run.plan.now) grown (subst (λ (q : Plan). AreDeadAtTheEnd q c.last_pass.new.live_reporter.dead) c.requires.under_way.on_board.of_plan
          c.in_ok-last_pass.ensures.watches.dead),
      t.2,
    )

pub tell_rest-requires-clause-in_order : goal.tell_rest-requires-clause-in_order
tell_rest-requires-clause-in_order g c κs within =
    let watches = c.take_in.ensures.watches in
    let checked = subst IsCheckedPlan (watches.made.plan ∙ c.requires.under_way.on_board.of_plan) watches.kept.checked in
    subst IsInOrder (sym c.as_slice-2.ensures.items) (blocked_in_order c.args.run.plan.now c.in_ok-ended.ended.end checked c.in_ok-ended.ensures.end.plain)

pub tell_rest-requires-clause-some : goal.tell_rest-requires-clause-some
tell_rest-requires-clause-some g c κs within =
    let named : AreDeadAtTheEnd c.args.run.plan.now c.last_pass.new.live_reporter.dead =
    subst (λ (q : Plan). AreDeadAtTheEnd q c.last_pass.new.live_reporter.dead) c.requires.under_way.on_board.of_plan c.in_ok-last_pass.ensures.watches.dead in
    let dead : c.as_slice-3.result.now ≡ c.last_pass.new.live_reporter.dead = search rules in
    subst (AreSomeDead c.as_slice-2.result.now) (sym dead)
    (subst (λ (list : List Status). AreSomeDead list c.last_pass.new.live_reporter.dead) (sym c.as_slice-2.ensures.items)
    (named c.in_ok-ended.ended.end c.in_ok-ended.ensures.end.plain))

pub returns-in_err-tell_rest-clause-told : goal.returns-in_err-tell_rest-clause-told
returns-in_err-tell_rest-clause-told g c = λ live.
    let a = told g.K.Sink.taken g.K.Sink.faults c.args.out.now in
    let m = told g.K.Sink.taken g.K.Sink.faults c.last_pass.new.out in
    let n = told g.K.Sink.taken g.K.Sink.faults c.tell_rest.new.out in
    let t = c.in_ok-last_pass.ensures.told live in
    let grown = t.1 ∙ ap (λ (ds : List Dead). ds ++ t.0) c.take_in.ensures.same in
    let is : c.from_residual-in_err-tell_rest.result ≡ Err c.in_err-tell_rest.field-0.0 = search rules in
    let dead : c.as_slice-3.result.now ≡ c.last_pass.new.live_reporter.dead = search rules in
    rest_err c.args.run.plan.now c.in_ok-ended.ended.end c.in_ok-ended.ensures.end.plain c.args.live_reporter.dead c.last_pass.new.live_reporter.dead t.0 grown a m n t.2
    (subst (λ (q : Plan). AreDeadAtTheEnd q c.last_pass.new.live_reporter.dead) c.requires.under_way.on_board.of_plan c.in_ok-last_pass.ensures.watches.dead)
    c.in_err-tell_rest.field-0.0 c.from_residual-in_err-tell_rest.result is
    (subst (λ (ds : List Dead). TellsRest c.in_ok-ended.ended.end.blocked ds m n (Err c.in_err-tell_rest.field-0.0)) dead
    (subst (λ (list : List Status). TellsRest list c.as_slice-3.result.now m n (Err c.in_err-tell_rest.field-0.0)) c.as_slice-2.ensures.items
    (c.in_err-tell_rest.ensures.told live)))

pub returns-clause-ran : goal.returns-clause-ran
returns-clause-ran g c =
    let at = (goal.at.returns-clause-ran g c).After-close-words in
    let detects = c.requires.under_way.detects in
    let plan_is = c.requires.under_way.on_board.of_plan in
    let live = c.args.run.options.live in
    let tasks = all_of c.args.run.board_tasks in
    let seats = board_tasks g at in
    let before = c.take_in.new.self.view in
    let now = c.last_pass.new.live_reporter.view in
    let words = c.close-words.result.0.words in
    let places : List KeptPlace = c.in_ok-places.places in
    let dead = c.close-words.result.2 in
    let is : dead ≡ c.last_pass.new.live_reporter.last = c.close-words.ensures.last in
    let passed = c.in_ok-last_pass.ensures.passed in
    record {
      end = c.in_ok-ended.ensures.end.plain;
      one_each = c.in_ok-places.ensures.places.one_each;
      lawful = subst (λ (q : Plan). IsLawful false q (places_at q places) None) plan_is
          (lawful c.args.board detects tasks seats places (are g at) before now c.take_in.ensures.known (goes g at) (of g at) words (last g at));
      settled = subst (λ (q : Plan). AreSettledPlaces q (places_at q places)) plan_is
          (settled c.args.board detects tasks seats places (are g at) before now c.take_in.ensures.known (goes g at) (of g at) words (last g at) (bound_on c.args.board live) (loads_between (all_of c.requires.ends.before) tasks)
          (turns_ended c.args.board live c.args.run.board_tasks c.requires.ends));
      of_plan = c.close-words.ensures.board.0 ∙ c.requires.under_way.on_board.of_plan;
      words = subst (λ (q : Plan). IsShown q (state_at q (places_at q places)) None words) plan_is
          (shown c.args.board detects tasks seats places (are g at) before now c.take_in.ensures.known (goes g at) (of g at) words (last g at));
      named = subst (λ (ts : List TaskId). IsDeadList (statuses_in c.args.run.plan.now (state_at c.args.run.plan.now (places_at c.args.run.plan.now places))) ts) (sym is)
          (subst (λ (q : Plan). IsDeadList (statuses_in q (state_at q (places_at q places))) c.last_pass.new.live_reporter.last) plan_is
          (named_there c.args.board detects tasks seats places (are g at) before now c.take_in.ensures.known (goes g at) (of g at) words (last g at) c.take_in.ensures.watches.kept (made g at) c.last_pass.new.live_reporter passed));
      dead = subst (λ (ts : List TaskId). HasDeadOf (state_at c.args.run.plan.now (places_at c.args.run.plan.now places)) ts) (sym is)
          (subst (λ (q : Plan). HasDeadOf (state_at q (places_at q places)) c.last_pass.new.live_reporter.last) plan_is
          (dead_there c.args.board detects tasks seats places (are g at) before now c.take_in.ensures.known (goes g at) (of g at) words (last g at) c.take_in.ensures.watches.kept (made g at) c.last_pass.new.live_reporter passed));
    }

pub returns-clause-told : goal.returns-clause-told
returns-clause-told g c = λ live.
    let a = told g.K.Sink.taken g.K.Sink.faults c.args.out.now in
    let m = told g.K.Sink.taken g.K.Sink.faults c.last_pass.new.out in
    let n = told g.K.Sink.taken g.K.Sink.faults c.tell_rest.new.out in
    let t = c.in_ok-last_pass.ensures.told live in
    let grown = t.1 ∙ ap (λ (ds : List Dead). ds ++ t.0) c.take_in.ensures.same in
    let dead : c.as_slice-3.result.now ≡ c.last_pass.new.live_reporter.dead = search rules in
    rest_ok c.args.run.plan.now c.in_ok-ended.ended.end c.in_ok-ended.ensures.end.plain c.args.live_reporter.dead c.last_pass.new.live_reporter.dead t.0 grown a m n t.2
    (record { end = c.in_ok-ended.ended.end; places = c.in_ok-places.places; words = c.close-words.result.0; dead = c.close-words.result.2 }) refl
    (subst (λ (ds : List Dead). TellsRest c.in_ok-ended.ended.end.blocked ds m n (Ok tt)) dead
    (subst (λ (list : List Status). TellsRest list c.as_slice-3.result.now m n (Ok tt)) c.as_slice-2.ensures.items (c.in_ok-tell_rest.ensures.told live)))
