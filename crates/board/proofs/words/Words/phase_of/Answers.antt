use Rattle.std.proofs.Common.{◌<◌, length, get_or, sym, ap, ◌∙◌, subst}
use Rattle.armus_base.specs.Places.{state_at}
use Rattle.board.specs.calls.Words.{phase_index, phase_number}
use Rattle.board.specs.calls.Ended.{Ended}
use Rattle.board.proofs.Reading.{number_small, read_phase}
use Rattle.board.proofs.Ranges.{phases_small}
use Rattle.board.proofs.words.Words.phase_of.Goals as goal

pub phase_of-requires : goal.phase_of-requires
phase_of-requires c =
    let i = c.self.invariant in
    let t = c.args.t.0 in
    let p = c.args.p.0 in
    let small = subst (λ (e : Ended). t < length e.plan.parents) (sym c.self.view_is) c.requires.task in
    let few = subst (λ (e : Ended). p < length e.plan.makers) (sym c.self.view_is) c.requires.phaser in
    let word = read_phase _ c.self.inside.setting.plan.value t p i.tasks c.word.ensures in
    subst (λ n. n < 4294967296) (sym (word ∙ i.lawful.shown.phases t p small few))
    (number_small ((state_at c.self.inside.setting.plan.value i.lawful.places).phases t p)
    (phases_small c.self.inside.setting.plan.value i.checked i.lawful.places t p))

pub returns-clause-number : goal.returns-clause-number
returns-clause-number c =
    let i = c.self.invariant in
    let t = c.args.t.0 in
    let p = c.args.p.0 in
    let small = subst (λ (e : Ended). t < length e.plan.parents) (sym c.self.view_is) c.requires.task in
    let few = subst (λ (e : Ended). p < length e.plan.makers) (sym c.self.view_is) c.requires.phaser in
    let word = read_phase _ c.self.inside.setting.plan.value t p i.tasks c.word.ensures in
    ap phase_number (c.phase_of.ensures ((state_at c.self.inside.setting.plan.value i.lawful.places).phases t p) (word ∙ i.lawful.shown.phases t p small few))
    ∙ sym (i.lawful.shown.phases t p small few) ∙ ap (λ (e : Ended). get_or e.words (phase_index e.plan t p) 0) c.self.view_is

pub returns-clause-meaning : goal.returns-clause-meaning
returns-clause-meaning c = λ l.
    let i = c.self.invariant in
    let t = c.args.t.0 in
    let p = c.args.p.0 in
    let word = read_phase _ c.self.inside.setting.plan.value t p i.tasks c.word.ensures
    ∙ ap (λ (e : Ended). get_or e.words (phase_index e.plan t p) 0) c.self.view_is in
    c.phase_of.ensures ((state_at c.args.self.now.plan l.places).phases t p) (word ∙ l.shown.phases t p c.requires.task c.requires.phaser)
