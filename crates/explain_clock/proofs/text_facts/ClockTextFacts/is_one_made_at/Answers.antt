use Rattle.std.proofs.Common.{◌∙◌, sym}
use Rattle.std.specs.Prelude.{slice_get}
use Rattle.armus_base.proofs.Fixed.{some_before_from}
use Rattle.explain_clock.specs.ClockNotes.{is_made_at}
use Rattle.explain_clock.proofs.text_facts.ClockTextFacts.is_one_made_at.Goals as goal

pub returns-then-is_made_at : goal.returns-then-is_made_at
returns-then-is_made_at c =
    sym (some_before_from (λ p. is_made_at c.args.n (slice_get c.args.self.now.things p)) c.args.k c.loop-p.p c.loop-p-test.true
    (sym c.is_made_at.ensures ∙ c.if-is_made_at.true))
