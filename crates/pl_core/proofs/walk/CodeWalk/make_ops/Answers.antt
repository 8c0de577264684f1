use Rattle.std.proofs.Common.{◌≡◌, ℕ, List, ◌+◌, ◌∙◌, Option, Some, None, false, add-one, ap, arith, drop, refl, subst, suc, sym}
use Rattle.std.specs.Prelude.{slice_get}
use Rattle.std.proofs.lemmas.Option.{slice_get_within}
use Rattle.armus_base.specs.declared.op.Op.{Op}
use Rattle.armus_base.specs.Plans.{code_of}
use Rattle.pl_core.specs.inside.Cursors.{op_index_of}
use Rattle.pl_core.specs.inside.Stops.{IsStopOf}
use Rattle.pl_core.specs.Tasks.{actions_before}
use Rattle.pl_core.specs.inside.Walks.{HasWalked, walking}
use Rattle.pl_core.specs.calls.Worlds.{places_at}
use Rattle.pl_core.proofs.KeptCursors.{first_left, gone_on, one_less_left, op_marked}
use Rattle.pl_core.proofs.StepKinds.{few_own_ops}
use Rattle.pl_core.proofs.Stopping.{made_before, made_less, past_the_last, stop_at_end, stop_here, stop_later}
use Rattle.pl_core.proofs.WalkBounds.{done_given, events_within}
use Rattle.pl_core.proofs.WalkOps.{child_here, room, walk_more}
use Rattle.pl_core.proofs.Walking.{walking_first}
use Rattle.pl_core.proofs.walk.CodeWalk.make_ops.Goals as goal

-- what a cursor shows is the op of the code at its index
shown : (code cursor : List Op) (k : ℕ) → cursor ≡ drop k code → (op o : Option Op) → op ≡ slice_get cursor 0 → op ≡ o → slice_get code k ≡ o
shown code cursor k at op o shows is = sym (first_left code k) ∙ ap (λ ops. slice_get ops 0) (sym at) ∙ sym shows ∙ is

pub loop-op-init : goal.loop-op-init
loop-op-init c =
    let plan = c.args.plan.now in
    let places = c.args.places.now in
    let t = c.args.t.0 in
    let done = done_given plan c.requires.walked.checked places c.requires.given t c.place_within-left.result c.place_within-left.ensures in
    record {
      within = omega arith;
      left = omega arith;
      cursor = c.requires.first;
      walking = subst (λ b. HasWalked plan places b t c.args.self.now.tasks.items c.args.self.now.phases) (walking_first (places_at plan places) t) c.requires.walked;
      ops = λ u. refl;
    }

pub returns-then-left-size-clause-stop : goal.returns-then-left-size-clause-stop
returns-then-left-size-clause-stop c =
    let code = code_of c.args.plan.now c.args.t.0 in
    let i = c.loop-op.invariant in
    let is = shown code c.loop-op.cursor c.loop-op.made i.cursor c.peek.result (Some c.in-Some.op) c.peek.ensures.next c.in-Some.is in
    stop_here code c.loop-op.made (places_at c.args.plan.now c.args.places.now c.args.t.0).done c.loop-op.left c.in-Some.op is i.left
    (let size = c.events_in-size.ensures in let less = c.if-left-size.true in omega arith)

pub make_op-requires-clause-child : goal.make_op-requires-clause-child
make_op-requires-clause-child c =
    let plan = c.args.plan.now in
    let places = c.args.places.now in
    let t = c.args.t.0 in
    let i = c.loop-op.invariant in
    let is = shown (code_of plan t) c.loop-op.cursor c.loop-op.made i.cursor c.peek.result (Some c.in-Some.op) c.peek.ensures.next c.in-Some.is in
    let less = made_less (code_of plan t) c.loop-op.made (places_at plan places t).done c.loop-op.left c.events_in-size.result c.in-Some.op is i.left
    c.events_in-size.ensures c.if-left-size.false in
    child_here plan c.requires.walked.checked places c.requires.given t c.loop-op.self.tasks.items c.loop-op.self.phases c.loop-op.made c.in-Some.op is i.walking less

pub make_op-requires-clause-room : goal.make_op-requires-clause-room
make_op-requires-clause-room c =
    let plan = c.args.plan.now in
    let places = c.args.places.now in
    let t = c.args.t.0 in
    let i = c.loop-op.invariant in
    let is = shown (code_of plan t) c.loop-op.cursor c.loop-op.made i.cursor c.peek.result (Some c.in-Some.op) c.peek.ensures.next c.in-Some.is in
    let less = made_less (code_of plan t) c.loop-op.made (places_at plan places t).done c.loop-op.left c.events_in-size.result c.in-Some.op is i.left
    c.events_in-size.ensures c.if-left-size.false in
    room plan c.requires.walked.checked places c.requires.given t c.loop-op.self.tasks.items c.loop-op.self.phases c.loop-op.made c.in-Some.op is i.walking less
    c.requires.task

pub overflow_add-made : goal.overflow_add-made
overflow_add-made c =
    let code = code_of c.args.plan.now c.args.t.0 in
    let is = shown code c.loop-op.cursor c.loop-op.made c.loop-op.invariant.cursor c.peek.result (Some c.in-Some.op) c.peek.ensures.next c.in-Some.is in
    let before = slice_get_within code c.loop-op.made c.in-Some.op is in
    let few = few_own_ops c.args.plan.now c.args.t.0 c.requires.walked.checked in
    omega arith

pub loop-op-preserved : goal.loop-op-preserved
loop-op-preserved c =
    let plan = c.args.plan.now in
    let places = c.args.places.now in
    let t = c.args.t.0 in
    let k = c.loop-op.made in
    let op = c.in-Some.op in
    let i = c.loop-op.invariant in
    let done = (places_at plan places t).done in
    let is = shown (code_of plan t) c.loop-op.cursor k i.cursor c.peek.result (Some op) c.peek.ensures.next c.in-Some.is in
    let less = made_less (code_of plan t) k done c.loop-op.left c.events_in-size.result op is i.left c.events_in-size.ensures c.if-left-size.false in
    let made = made_before (code_of plan t) k done c.loop-op.left c.events_in-size.result op is i.left c.events_in-size.ensures c.if-left-size.false in
    let before = slice_get_within (code_of plan t) k op is in
    record {
      within = omega arith;
      left = stop_later (code_of plan t) k done c.loop-op.left c.events_in-size.result op is i.left c.events_in-size.ensures c.if-left-size.false;
      cursor =
          gone_on c.next.result c.loop-op.cursor c.next.new.self c.next.ensures.some c.next.ensures.none
          ∙ ap (drop 1) i.cursor ∙ one_less_left (code_of plan t) k ∙ ap (λ n. drop n (code_of plan t)) (sym (add-one k));
      walking =
          subst (λ n. HasWalked plan places (walking (places_at plan places) t (actions_before (code_of plan t) n)) t c.make_op.new.self.tasks.items c.make_op.new.self.phases)
          (sym (add-one k))
          (subst (λ xs. HasWalked plan places (walking (places_at plan places) t (actions_before (code_of plan t) (suc k))) t xs c.make_op.new.self.phases)
          (sym c.make_op.ensures.tasks)
          (walk_more plan c.requires.walked.checked places c.requires.given t c.loop-op.self.tasks.items c.loop-op.self.phases k op is i.walking less
          c.make_op.new.self.phases c.make_op.ensures.cells c.make_op.ensures.columns c.make_op.ensures.moved made));
      ops = λ u. ap (λ tasks. op_index_of tasks u) c.make_op.ensures.tasks ∙ op_marked c.loop-op.self.tasks.items op u ∙ i.ops u;
    }

pub returns-clause-stop : goal.returns-clause-stop
returns-clause-stop c =
    let plan = c.args.plan.now in
    let places = c.args.places.now in
    let t = c.args.t.0 in
    let i = c.loop-op.invariant in
    let done = (places_at plan places t).done in
    let none = shown (code_of plan t) c.loop-op.cursor c.loop-op.made i.cursor c.peek.result None c.peek.ensures.next c.in_default.is in
    let last = past_the_last (code_of plan t) c.loop-op.made i.within none in
    let given = done_given plan c.requires.walked.checked places c.requires.given t c.place_within-left.result c.place_within-left.ensures in
    let within = events_within plan c.requires.walked.checked places c.requires.given t c.place_within-left.result c.place_within-left.ensures in
    subst (λ n. IsStopOf (code_of plan t) done (record { op = n; begun = false })) (sym last)
    (stop_at_end (code_of plan t) done c.loop-op.left (subst (λ n. c.loop-op.left + actions_before (code_of plan t) n ≡ done) last i.left) (omega arith))
