use Rattle.std.proofs.Common.{◌∙◌, ◌++◌, ℕ, List, ap, flat_map, map}
use Rattle.std.proofs.lemmas.Result.{on_ok_weaker}
use Rattle.explain_clock.specs.ActivityLists.{those_said}
use Rattle.explain_clock.specs.ClockKeepers.{keeper_said, keepers, keepers_line, others_in, others_line}
use Rattle.explain_clock.specs.inside.ToldTogether.{said_bytes}
use Rattle.explain_clock.proofs.Lines.{two_pieces}
use Rattle.explain_clock.proofs.ToldTogether.{others_are}
use Rattle.explain_clock.proofs.facts.ClockFacts.put_lines.Goals as goal

pub returns : goal.returns
returns c =
    let f = c.args.self.now in
    let e = c.args.event in
    let says : ℕ → List ℕ = keeper_said f e in
    let told = map said_bytes c.args.sayings.now in
    on_ok_weaker c.put_more.result
    (λ last. two_pieces c.args.out.now.items c.put_each_saying.new.out.items c.put_more.new.out.items
    (flat_map (λ said. keepers_line f e (those_said says (keepers f e) said)) told) (others_line (others_in says (keepers f e) told)) c.in_ok-put_each_saying.ensures
    (last ∙ ap (λ n. c.put_each_saying.new.out.items ++ others_line n) (c.count_others.ensures ∙ others_are says c.args.sayings.now (keepers f e) c.args.told.now c.requires.told)))
    c.put_more.ensures
