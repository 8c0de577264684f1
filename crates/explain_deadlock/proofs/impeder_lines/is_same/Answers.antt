use Rattle.std.proofs.Common.{◌≡◌, ◌∙◌, eq-eqb}
use Rattle.std.specs.Str.{bytes_eq}
use Rattle.std.proofs.lemmas.Bool.{ne_eqb}
use Rattle.std.proofs.lemmas.Result.{IfOk-weaker}
use Rattle.explain_tasks.specs.Sayings.{impeder_next, impeder_said, same_said}
use Rattle.explain_deadlock.proofs.Numbered.{next_by_number, other_by_number}
use Rattle.explain_deadlock.proofs.impeder_lines.is_same.Goals as goal

pub returns-then-numbers-a : goal.returns-then-numbers-a
returns-then-numbers-a c =
    other_by_number c.args.facts.now c.args.numbers.now c.args.a c.args.b c.requires.numbers c.requires.a c.requires.b (ne_eqb _ _ c.if-numbers-a.true)

pub returns : goal.returns
returns c =
    let f = c.args.facts.now in
    let a = c.args.a in
    let b = c.args.b in
    IfOk-weaker c.is_same_next.result (λ same. same ≡ bytes_eq (impeder_next f a) (impeder_next f b)) (λ same. same ≡ same_said (impeder_said f a) (impeder_said f b))
    (λ same e. e ∙ next_by_number f c.args.numbers.now a b c.requires.numbers c.requires.a c.requires.b (eq-eqb _ _ c.if-a-b.false) (eq-eqb _ _ c.if-numbers-a.false))
    c.is_same_next.ensures
