-- What holds of a state that is kept.
use Rattle.std.specs.Prelude.{◌≡◌, ℕ, ◌≤◌, length}
use Rattle.monitor_laws.specs.States.{TraceState}
use Rattle.monitor_laws.specs.Faults.{memberships_in, most_listed, most_memberships}
use Rattle.monitor_laws.specs.Lawful.{AreAscending, IsLawfulState}

-- numbers and names are in order, the memberships are counted, and there are no more of both than there may be
pub record IsMonitorState (s : TraceState) (memberships : ℕ) : Type 0 where
  pub lawful : IsLawfulState s
  pub ascending : AreAscending s.list
  pub counted : memberships ≡ memberships_in s
  pub few : memberships ≤ most_memberships
  pub short : length s.list ≤ most_listed
