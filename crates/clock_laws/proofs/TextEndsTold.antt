-- What the final state of a plan tells of the ends of the machine on the text.
use Rattle.std.proofs.Common.{[], ◌++◌, refl}
use Rattle.clock_laws.specs.calls.TextLaws.{TextEndsAreTold}
use Rattle.clock_laws.specs.TextMachine.{text_opening}
use Rattle.clock_laws.proofs.Numbers.{number_is_named}
use Rattle.clock_laws.proofs.TextEnds.{text_ends_are_those_of_tasks, text_runs_are_direct, waits_at_one_made}
use Rattle.clock_laws.proofs.TextRunsEnd.{text_runs_end}

pub text_ends_are_told : TextEndsAreTold
text_ends_are_told p u σ e final =
    let g = text_runs_end p u [] (text_opening p) e refl in
    record {
      some = (g.1, record { steps = g.0 ++ []; run = g.2; at_rest = g.3 });
      each = λ s a end is. text_ends_are_those_of_tasks p u s σ a e end final is;
      waits = λ s a end is. waits_at_one_made p u e s a end is;
      inside = λ s a end there. (text_runs_are_direct p u end.steps s e end.run).4.inside a there;
      named = λ t l. let n = number_is_named p u e t l in (n.0, n.1, n.2);
    }
