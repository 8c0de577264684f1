-- What a saying of the program says.
use Rattle.std.specs.Prelude.{option_map}
use Rattle.explain_tasks.specs.Sayings.{Forking, Said}
use Rattle.explain_tasks.specs.declared.saying.ForkingWords.{ForkingWords}
use Rattle.explain_tasks.specs.declared.saying.Saying.{Saying}

-- who would fork a task, by these words
abbrev pub forking_said : ForkingWords → Forking
forking_said g = record { name = g.name.items; at = g.at.items; stands = g.stands.items }

-- what is said
abbrev pub said_by : Saying → Said
said_by s =
    record {
      front = s.front.items;
      name = s.name.items;
      phase = s.phase;
      words = s.words.items;
      event = option_map (λ e. record { p = record { 0 = e.0 }; n = e.1 }) s.event;
      forking = option_map forking_said s.forking;
      next = s.next.items;
    }
