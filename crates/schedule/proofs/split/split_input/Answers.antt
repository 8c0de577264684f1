use Rattle.std.proofs.Common.{◌≡◌, ◌≢◌, ◌++◌, [], subst, sym, append-nil, length, rules, ◌∙◌, take, ◌+◌, ◌-◌, ap}
use Rattle.schedule.specs.Lines.{IsFirstLine}
use Rattle.schedule.specs.Split.{IsSplit, at_mark, mark}
use Rattle.schedule.proofs.Cuts.{Keeps, split_at_end, front_of, text_more, empty_of}
use Rattle.schedule.proofs.split.split_input.Goals as goal

pub returns-then-eq : goal.returns-then-eq
returns-then-eq c =
    let (same, within, splits) = c.loop-rest.invariant in
    let is_mark : c.first_line.result.0.now ≡ mark = search rules in
    let schedule = c.first_line.result.1.now in
    record {
      split = subst (λ t. IsSplit c.args.input.now t schedule) (append-nil _)
          (splits [] schedule (at_mark c.loop-rest.rest.now schedule (subst (λ l. IsFirstLine c.loop-rest.rest.now l schedule) is_mark c.first_line.ensures.cut)));
    }

pub loop-rest-preserved : goal.loop-rest-preserved
loop-rest-preserved c =
    let line = c.first_line.result.0.now in
    let more = c.first_line.result.1.now in
    let other : line ≢ mark = search rules in
    let (front, is) = front_of c.loop-rest.rest.now line more c.first_line.ensures.cut in
    subst (λ r. Keeps c.args.input.now (c.loop-rest.at + (length r - length more)) more) (sym is)
    (text_more c.args.input.now line front more c.loop-rest.at (subst (Keeps c.args.input.now c.loop-rest.at) is c.loop-rest.invariant)
    (subst (λ r. IsFirstLine r line more) is c.first_line.ensures.cut) other)

pub returns : goal.returns
returns c =
    let (same, within, splits) = c.loop-rest.invariant in
    let ended : length c.loop-rest.rest.now ≡ 0 = search rules in
    let nothing : c.loop-rest.rest.now ≡ [] = empty_of c.loop-rest.rest.now ended in
    let all : c.args.input.now ≡ take c.loop-rest.at c.args.input.now ++ [] = same ∙ ap (λ r. take c.loop-rest.at c.args.input.now ++ r) nothing in
    record { split = subst (λ t. IsSplit c.args.input.now t []) (sym all) (splits [] [] (split_at_end c.loop-rest.rest.now ended)) }
