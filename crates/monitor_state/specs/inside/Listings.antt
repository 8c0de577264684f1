-- What holds of the list as it is kept.
use Rattle.std.specs.Prelude.{◌≡◌, ℕ, List, Option, if◌then◌else◌, sum_by}
use Rattle.monitor_laws.specs.States.{Participant, is_live_wildcard}
use Rattle.monitor_state.specs.Indexes.{IsIndexOf}
use Rattle.monitor_state.specs.inside.Numbers.{HasNumbersOf}
use Rattle.monitor_state.specs.declared.member_index.MemberIndex.{MemberIndex}

-- how many wildcards one is
abbrev pub wildcards_in : Participant → ℕ
wildcards_in u = if is_live_wildcard u.condition then 1 else 0

-- each name has the number of who is there with it, the index is that of the list, and its wildcards are counted
pub record IsListing (us : List Participant) (number : List ℕ → Option ℕ) (members : MemberIndex) (wildcards : ℕ) : Type 0 where
  pub numbers : HasNumbersOf us number
  pub index : IsIndexOf us members
  pub counted : wildcards ≡ sum_by wildcards_in us
