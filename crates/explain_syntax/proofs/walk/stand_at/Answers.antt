use Rattle.std.proofs.Common.{List, true, false}
use Rattle.std.proofs.lemmas.Result.{IfOk-weaker}
use Rattle.pl_syntax.specs.Tokens.{Token}
use Rattle.explain_syntax.specs.Stands.{IsStand, StandsBehind}
use Rattle.explain_syntax.specs.inside.Walking.{WalkComesTo}
use Rattle.explain_syntax.proofs.Header.{at_fault, comes_one, comes_two, is_one, two_by_header}
use Rattle.explain_syntax.proofs.walk.stand_at.Goals as goal

pub stand_behind-requires-clause-comes : goal.stand_behind-requires-clause-comes
stand_behind-requires-clause-comes c =
    let b = c.requires.fault in
    (b.before, comes_two c.args.text.now c.args.fault b c.in-Some-behind_header.body.now c.in-Some-behind_header.ensures.some.0)

pub stand_behind-requires-in-None-clause-comes : goal.stand_behind-requires-in-None-clause-comes
stand_behind-requires-in-None-clause-comes c =
    let b = c.requires.fault in
    (b.before, comes_one c.args.text.now c.args.fault b c.in-None.ensures.none c.in_default.ensures.outside)

pub returns-in-Some-behind_header : goal.returns-in-Some-behind_header
returns-in-Some-behind_header c =
    let text = c.args.text.now in
    let b = c.requires.fault in
    let body = c.in-Some-behind_header.body.now in
    let leads = c.in-Some-behind_header.ensures.some.0 in
    record {
      stand = IfOk-weaker c.stand_behind.result (λ s. (before : List Token) → WalkComesTo text true body c.args.fault.at before → StandsBehind text true before s) (IsStand text c.args.fault)
          (λ s each. at_fault text c.args.fault b true s (two_by_header text body c.args.fault b leads) (each b.before (comes_two text c.args.fault b body leads)))
          c.stand_behind.ensures.stands;
    }

pub returns-in-None : goal.returns-in-None
returns-in-None c =
    let text = c.args.text.now in
    let b = c.requires.fault in
    let none = c.in-None.ensures.none in
    record {
      stand = IfOk-weaker c.stand_behind-in-None.result (λ s. (before : List Token) → WalkComesTo text false text c.args.fault.at before → StandsBehind text false before s)
          (IsStand text c.args.fault)
          (λ s each. at_fault text c.args.fault b false s (is_one text c.args.fault b none)
          (each b.before (comes_one text c.args.fault b none c.in_default.ensures.outside)))
          c.stand_behind-in-None.ensures.stands;
    }
