use Rattle.std.proofs.Common.{◌+◌, ◌<◌, length, get_or, sym, ap, ◌∙◌, subst}
use Rattle.std.specs.Mem.Slots.{slots_items}
use Rattle.armus_base.specs.CheckedPlans.{IsCheckedPlan}
use Rattle.armus_base.specs.Places.{state_at}
use Rattle.board.specs.calls.Words.{await_number, found_in}
use Rattle.board.specs.calls.Ended.{Ended}
use Rattle.board.proofs.Reading.{read_at}
use Rattle.board.proofs.Ranges.{found_small}
use Rattle.board.proofs.words.Words.await_of.Goals as goal

pub seen_of-requires : goal.seen_of-requires
seen_of-requires c =
    let i = c.self.invariant in
    let t = c.args.t.0 in
    let small = subst (λ (e : Ended). t < length e.plan.parents) (sym c.self.view_is) c.requires.task in (
      found_in (state_at c.self.inside.setting.plan.value i.lawful.places) t,
      found_small c.self.inside.setting.plan.value i.checked i.lawful.places t,
      sym (read_at (slots_items c.self.inside.closed.words) (1 + t) _ 0 c.word.ensures) ∙ i.lawful.shown.awaits t small,
    )

pub returns-clause-number : goal.returns-clause-number
returns-clause-number c =
    let i = c.self.invariant in
    let t = c.args.t.0 in
    let small = subst (λ (e : Ended). t < length e.plan.parents) (sym c.self.view_is) c.requires.task in
    let word = sym (read_at (slots_items c.self.inside.closed.words) (1 + t) _ 0 c.word.ensures) in
    ap await_number (c.seen_of.ensures (found_in (state_at c.self.inside.setting.plan.value i.lawful.places) t)
    (found_small c.self.inside.setting.plan.value i.checked i.lawful.places t) (word ∙ i.lawful.shown.awaits t small))
    ∙ sym (i.lawful.shown.awaits t small) ∙ ap (λ (e : Ended). get_or e.words (1 + t) 0) c.self.view_is

pub returns-clause-meaning : goal.returns-clause-meaning
returns-clause-meaning c = λ l.
    let i = c.self.invariant in
    let t = c.args.t.0 in
    let word = sym (read_at (slots_items c.self.inside.closed.words) (1 + t) _ 0 c.word.ensures) ∙ ap (λ (e : Ended). get_or e.words (1 + t) 0) c.self.view_is in
    c.seen_of.ensures (found_in (state_at c.args.self.now.plan l.places) t)
    (found_small c.args.self.now.plan (subst IsCheckedPlan (ap (λ (e : Ended). e.plan) c.self.view_is) i.checked) l.places t)
    (word ∙ l.shown.awaits t c.requires.task)
