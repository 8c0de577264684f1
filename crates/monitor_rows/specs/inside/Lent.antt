-- Those of the list that are lent.
use Rattle.std.specs.Prelude.{List, map}
use Rattle.std.specs.Borrow.{Bor}
use Rattle.monitor_laws.specs.States.{Participant}

-- each of them as it stands in the list
abbrev pub lent_ones : List (Bor Participant) → List Participant
lent_ones us = map (λ u. u.now) us
