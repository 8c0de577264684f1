use Rattle.std.proofs.Common.{◌∙◌, ap, sym}
use Rattle.std.specs.List.{list_any}
use Rattle.explain_clock.specs.inside.ToldTogether.{says_it}
use Rattle.explain_clock.proofs.ToldTogether.{adds_none, adds_one}
use Rattle.explain_clock.proofs.together.add_saying.Goals as goal

pub returns-then-is_among : goal.returns-then-is_among
returns-then-is_among c =
    adds_none c.args.said.now c.args.sayings.now.items
    (sym (c.is_among.ensures ∙ ap (list_any (says_it c.args.said.now)) c.as_slice.ensures.value) ∙ c.if-is_among.true)

pub returns : goal.returns
returns c =
    adds_one c.args.said.now c.in_ok-words.words c.args.sayings.now.items c.push.new.self.items
    (sym (c.is_among.ensures ∙ ap (list_any (says_it c.args.said.now)) c.as_slice.ensures.value) ∙ c.if-is_among.false) c.in_ok-words.ensures.items
    c.in_ok-push.ensures.items
