use Rattle.std.proofs.Common.{[], ◌∷◌, ◌++◌, ◌≡◌, ◌∙◌, Ok, Some, ap, arith, rules, subst, sym, length}
use Rattle.explain_check.specs.inside.Framed.{next_item}
use Rattle.explain_check.specs.inside.Seeks.{CameTo, HasMidst, Midst, NamedProgram}
use Rattle.explain_check.proofs.SoughtSteps.{frame_small, frame_within, goes_further, item_here, item_names, item_small, midst_idle, midst_on, midst_stop, visits_fall}
use Rattle.explain_check.proofs.seek.seek_visits.Goals.{In-Some, In-Some-2}
use Rattle.explain_check.proofs.seek.seek_visits.Goals as goal

-- the frames with the one that was taken away
now : (c : In-Some) (g : NamedProgram) →
    Midst g c.args.t.0 c.args.first c.args.after c.frames.frames.items c.frames.seeker.checker c.frames.seeker.notes c.frames.seeker.last_turns.items →
    Midst g c.args.t.0 c.args.first c.args.after (c.pop.new.self.items ++ c.in-Some.frame ∷ []) c.frames.seeker.checker c.frames.seeker.notes c.frames.seeker.last_turns.items
now c g m = subst (λ fs. Midst g c.args.t.0 c.args.first c.args.after fs c.frames.seeker.checker c.frames.seeker.notes c.frames.seeker.last_turns.items) c.in-Some.ensures.items m

some : (c : In-Some) → HasMidst c.args.t.0 c.args.first c.args.after (c.pop.new.self.items ++ c.in-Some.frame ∷ []) c.frames.seeker.checker c.frames.seeker.notes
    c.frames.seeker.last_turns.items
some c = (c.frames.invariant.some.0, now c c.frames.invariant.some.0 c.frames.invariant.some.1)

item_is : (c : In-Some-2) → next_item c.frames.seeker.checker.steps c.in-Some.frame ≡ Some c.in-Some-2.item
item_is c = sym c.in_ok-item.ensures.item ∙ c.in-Some-2.is

pub go_on-requires-clause-within : goal.go_on-requires-clause-within
go_on-requires-clause-within c =
    let s = some (goal.at.go_on-requires-clause-within c).In-Some in
    frame_within s.0 c.args.t c.args.first c.args.after c.pop.new.self.items c.in-Some.frame c.frames.seeker.checker c.frames.seeker.notes c.frames.seeker.last_turns.items s.1

pub go_on-requires-clause-small : goal.go_on-requires-clause-small
go_on-requires-clause-small c =
    let s = some (goal.at.go_on-requires-clause-small c).In-Some in
    frame_small s.0 c.args.t c.args.first c.args.after c.pop.new.self.items c.in-Some.frame c.frames.seeker.checker c.frames.seeker.notes c.frames.seeker.last_turns.items s.1

pub frames-preserved-in_default-2 : goal.frames-preserved-in_default-2
frames-preserved-in_default-2 c =
    let k = c.frames.seeker.checker in
    goes_further c.args.t.0 c.args.first c.args.after _ c.args.seeker.now.checker c.args.seeker.now.notes c.args.seeker.now.last_turns.items c.frames.frames.items k
    c.frames.seeker.notes c.frames.seeker.last_turns.items c.go_on.new.frames.items k c.frames.seeker.notes c.frames.seeker.last_turns.items c.frames.invariant
    (λ g m. subst (λ fs. Midst g c.args.t.0 c.args.first c.args.after fs k c.frames.seeker.notes c.frames.seeker.last_turns.items) (sym c.in_ok-item.ensures.frames)
    (midst_idle g c.args.t c.args.first c.args.after c.pop.new.self.items c.in-Some.frame k c.frames.seeker.notes c.frames.seeker.last_turns.items
    (now (goal.at.frames-preserved-in_default-2 c).In-Some g m) (sym c.in_ok-item.ensures.item ∙ c.in_default-2.is)))

pub come_to-requires-clause-names : goal.come_to-requires-clause-names
come_to-requires-clause-names c =
    let s = some (goal.at.come_to-requires-clause-names c).In-Some in
    item_names s.0 c.args.t c.args.first c.args.after c.pop.new.self.items c.in-Some.frame c.frames.seeker.checker c.frames.seeker.notes c.frames.seeker.last_turns.items s.1
    c.in-Some-2.item (item_is (goal.at.come_to-requires-clause-names c).In-Some-2)

pub come_to-requires-clause-small : goal.come_to-requires-clause-small
come_to-requires-clause-small c =
    let s = some (goal.at.come_to-requires-clause-small c).In-Some in
    item_small s.0 c.args.t c.args.first c.args.after c.pop.new.self.items c.in-Some.frame c.frames.seeker.checker c.frames.seeker.notes c.frames.seeker.last_turns.items s.1
    c.in-Some-2.item (item_is (goal.at.come_to-requires-clause-small c).In-Some-2)

pub come_to-requires-clause-here : goal.come_to-requires-clause-here
come_to-requires-clause-here c =
    let s = some (goal.at.come_to-requires-clause-here c).In-Some in
    item_here s.0 c.args.t c.args.first c.args.after c.pop.new.self.items c.in-Some.frame c.frames.seeker.checker c.frames.seeker.notes c.frames.seeker.last_turns.items s.1
    c.in-Some-2.item (item_is (goal.at.come_to-requires-clause-here c).In-Some-2)

pub returns-in-Some-3 : goal.returns-in-Some-3
returns-in-Some-3 c = λ g m.
    midst_stop g c.args.t c.args.first c.args.after c.pop.new.self.items c.in-Some.frame c.frames.seeker.checker c.frames.seeker.notes c.frames.seeker.last_turns.items
    (now (goal.at.returns-in-Some-3 c).In-Some g (c.frames.invariant.all g m)) c.in-Some-2.item (item_is (goal.at.returns-in-Some-3 c).In-Some-2)
    c.in-Some-3.stop c.come_to.new.seeker.checker c.come_to.new.seeker.notes c.come_to.new.seeker.last_turns.items
    (subst (λ o. CameTo c.args.t c.in-Some-2.item c.args.first c.args.after (Ok o) c.frames.seeker.checker c.frames.seeker.notes c.frames.seeker.last_turns.items
    c.come_to.new.seeker.checker c.come_to.new.seeker.notes c.come_to.new.seeker.last_turns.items) c.in-Some-3.is c.in_ok-stop.ensures)

pub frames-smaller : goal.frames-smaller
frames-smaller c =
    let s = some (goal.at.frames-smaller c).In-Some in
    let falls = visits_fall s.0 c.args.t c.args.first c.args.after c.pop.new.self.items c.in-Some.frame c.frames.seeker.checker c.frames.seeker.notes c.frames.seeker.last_turns.items s.1
    c.in-Some-2.item (item_is (goal.at.frames-smaller c).In-Some-2) c.come_to.new.seeker.checker c.come_to.new.seeker.notes c.come_to.new.seeker.last_turns.items
    (subst (λ o. CameTo c.args.t c.in-Some-2.item c.args.first c.args.after (Ok o) c.frames.seeker.checker c.frames.seeker.notes c.frames.seeker.last_turns.items
    c.come_to.new.seeker.checker c.come_to.new.seeker.notes c.come_to.new.seeker.last_turns.items) c.in_default-3.is c.in_ok-stop.ensures) in
    let after = ap length c.in_ok-item.ensures.frames in
    let before = ap length c.in-Some.ensures.items in
    omega (arith, falls, after, before)

pub frames-preserved : goal.frames-preserved
frames-preserved c =
    let k = c.frames.seeker.checker in
    goes_further c.args.t.0 c.args.first c.args.after _ c.args.seeker.now.checker c.args.seeker.now.notes c.args.seeker.now.last_turns.items c.frames.frames.items k
    c.frames.seeker.notes c.frames.seeker.last_turns.items c.go_on.new.frames.items c.come_to.new.seeker.checker c.come_to.new.seeker.notes c.come_to.new.seeker.last_turns.items
    c.frames.invariant
    (λ g m. subst (λ fs. Midst g c.args.t.0 c.args.first c.args.after fs c.come_to.new.seeker.checker c.come_to.new.seeker.notes c.come_to.new.seeker.last_turns.items)
    (sym c.in_ok-item.ensures.frames)
    (midst_on g c.args.t c.args.first c.args.after c.pop.new.self.items c.in-Some.frame k c.frames.seeker.notes c.frames.seeker.last_turns.items
    (now (goal.at.frames-preserved c).In-Some g m) c.in-Some-2.item (item_is (goal.at.frames-preserved c).In-Some-2)
    c.come_to.new.seeker.checker c.come_to.new.seeker.notes c.come_to.new.seeker.last_turns.items
    (subst (λ o. CameTo c.args.t c.in-Some-2.item c.args.first c.args.after (Ok o) k c.frames.seeker.notes c.frames.seeker.last_turns.items
    c.come_to.new.seeker.checker c.come_to.new.seeker.notes c.come_to.new.seeker.last_turns.items) c.in_default-3.is c.in_ok-stop.ensures)))

pub returns : goal.returns
returns c = λ g m.
    let empty : c.frames.frames.items ≡ [] = search rules in
    subst (λ fs. Midst g c.args.t.0 c.args.first c.args.after fs c.frames.seeker.checker c.frames.seeker.notes c.frames.seeker.last_turns.items) empty (c.frames.invariant.all g m)
