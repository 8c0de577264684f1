use Rattle.std.specs.Prelude.{option_copied}
use Rattle.std.proofs.Common.{refl}
use Rattle.explain_avoid.proofs.Rounds.{avoided_run}
use Rattle.explain_avoid.proofs.avoiding.avoid_through.Goals as goal

pub returns : goal.returns
returns c =
    let facts = c.args.facts.now in
    record {
      run = avoided_run facts c.requires.known (option_copied c.args.file) c.args.plan.now c.in_ok-world.field-0 c.in_ok-world.ensures.ended c.from_vec.result
          c.in_ok-end.end c.from_vec.ensures.items c.in_ok-end.ensures.end facts.places.now facts.program.now refl refl;
    }
