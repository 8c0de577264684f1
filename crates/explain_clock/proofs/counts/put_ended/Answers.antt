use Rattle.std.proofs.Common.{◌++◌, ap, length, ◌∙◌}
use Rattle.std.specs.Prelude.{codes, count_by, decimal}
use Rattle.explain_clock.specs.ClockExplanations.{is_ended}
use Rattle.explain_clock.proofs.Lines.{four_pieces}
use Rattle.explain_clock.proofs.counts.put_ended.Goals as goal

pub returns : goal.returns
returns c =
    four_pieces c.args.out.now.items c.put_words.new.out.items c.put_number.new.out.items c.put_words-2.new.out.items c.put_number-2.new.out.items
    (codes "activities ") (decimal (length c.args.ends.now)) (codes " ended ") (decimal (count_by is_ended c.args.ends.now))
    c.in_ok-put_words.ensures c.in_ok-put_number.ensures c.in_ok-put_words-2.ensures
    (c.in_ok-put_number-2.ensures ∙ ap (λ n. c.put_words-2.new.out.items ++ decimal n) c.count_ended.ensures)
