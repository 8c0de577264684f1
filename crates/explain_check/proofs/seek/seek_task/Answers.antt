use Rattle.std.proofs.Common.{Ok, [], ◌∷◌, ◌∙◌, sym, subst}
use Rattle.explain_check.specs.inside.Seeks.{Before, Midst, SoughtVisits, NamedProgram, whole_body}
use Rattle.explain_check.proofs.SoughtTasks.{ends_task, task_begins, task_ends, task_idle, task_leaves}
use Rattle.explain_check.proofs.seek.seek_task.Goals.{In-Some, In_ok-stop}
use Rattle.explain_check.proofs.seek.seek_task.Goals as goal

begun : (c : In-Some) (g : NamedProgram) → Before g c.args.t.0 c.args.seeker.now.checker c.args.seeker.now.notes c.args.seeker.now.last_turns.items →
    Midst g c.args.t.0 c.in-Some.first c.in-Some.after (whole_body c.in-Some.first c.in-Some.after ∷ []) c.begin.new.self c.args.seeker.now.notes c.args.seeker.now.last_turns.items
begun c g now =
    task_begins g c.args.t c.args.seeker.now.checker c.args.seeker.now.notes c.args.seeker.now.last_turns.items now c.requires.here c.in-Some.first c.in-Some.after c.begin.new.self
    (sym c.in-Some.is ∙ c.in_ok-first.ensures.range) c.in_ok-first.ensures.begun

visited : (c : In_ok-stop) (g : NamedProgram) →
    Midst g c.args.t.0 c.in-Some.first c.in-Some.after (whole_body c.in-Some.first c.in-Some.after ∷ []) c.begin.new.self c.args.seeker.now.notes c.args.seeker.now.last_turns.items →
    SoughtVisits g c.args.t.0 c.in-Some.first c.in-Some.after (Ok c.in_ok-stop.field-0) c.seek_visits.new.seeker.checker c.seek_visits.new.seeker.notes
    c.seek_visits.new.seeker.last_turns.items
visited c g m = c.in_ok-stop.ensures g m

pub returns-in_default : goal.returns-in_default
returns-in_default c = λ g form now.
    task_idle g c.args.t c.args.seeker.now.checker c.args.seeker.now.notes c.args.seeker.now.last_turns.items now c.begin.new.self
    (sym c.in_default.is ∙ c.in_ok-first.ensures.range) c.in_ok-first.ensures.begun

pub seek_visits-requires : goal.seek_visits-requires
seek_visits-requires c = record { begun = (c.requires.next.0, begun (goal.at.seek_visits-requires c).In-Some c.requires.next.0 c.requires.next.2) }

pub returns-in-Some-2 : goal.returns-in-Some-2
returns-in-Some-2 c = λ g form now.
    subst (λ o. SoughtVisits g c.args.t.0 c.in-Some.first c.in-Some.after (Ok o) c.seek_visits.new.seeker.checker c.seek_visits.new.seeker.notes
    c.seek_visits.new.seeker.last_turns.items) c.in-Some-2.is (visited (goal.at.returns-in-Some-2 c).In_ok-stop g (begun (goal.at.returns-in-Some-2 c).In-Some g now))

pub seek_end-requires : goal.seek_end-requires
seek_end-requires c = record {
  done = (
    c.requires.next.0,
    task_leaves c.requires.next.0 c.args.t.0 c.in-Some.first c.in-Some.after c.seek_visits.new.seeker.checker c.seek_visits.new.seeker.notes
        c.seek_visits.new.seeker.last_turns.items (c.requires.next.1 ∙ c.if-two.true)
        (subst (λ o. SoughtVisits c.requires.next.0 c.args.t.0 c.in-Some.first c.in-Some.after (Ok o) c.seek_visits.new.seeker.checker c.seek_visits.new.seeker.notes
        c.seek_visits.new.seeker.last_turns.items) c.in_default-2.is (visited (goal.at.seek_end-requires c).In_ok-stop c.requires.next.0 (begun (goal.at.seek_end-requires c).In-Some c.requires.next.0 c.requires.next.2))),
  );
}

pub returns-then-two : goal.returns-then-two
returns-then-two c = λ g form now.
    ends_task g c.args.t.0 c.in-Some.first c.in-Some.after c.seek_end.result c.seek_end.new.seeker.checker c.seek_end.new.seeker.notes c.seek_end.new.seeker.last_turns.items
    (c.seek_end.ensures g
    (task_leaves g c.args.t.0 c.in-Some.first c.in-Some.after c.seek_visits.new.seeker.checker c.seek_visits.new.seeker.notes
    c.seek_visits.new.seeker.last_turns.items (form ∙ c.if-two.true)
    (subst (λ o. SoughtVisits g c.args.t.0 c.in-Some.first c.in-Some.after (Ok o) c.seek_visits.new.seeker.checker c.seek_visits.new.seeker.notes
    c.seek_visits.new.seeker.last_turns.items) c.in_default-2.is (visited (goal.at.returns-then-two c).In_ok-stop g (begun (goal.at.returns-then-two c).In-Some g now)))))

pub returns : goal.returns
returns c = λ g form now.
    task_ends g c.args.t.0 c.in-Some.first c.in-Some.after c.seek_visits.new.seeker.checker c.seek_visits.new.seeker.notes c.seek_visits.new.seeker.last_turns.items
    (form ∙ c.if-two.false)
    (subst (λ o. SoughtVisits g c.args.t.0 c.in-Some.first c.in-Some.after (Ok o) c.seek_visits.new.seeker.checker c.seek_visits.new.seeker.notes
    c.seek_visits.new.seeker.last_turns.items) c.in_default-2.is (visited (goal.at.returns c).In_ok-stop g (begun (goal.at.returns c).In-Some g now)))
