use Rattle.std.proofs.Common.{◌≡◌, ℕ, true, List, take}
use Rattle.std.specs.Prelude.{Contains, bytes_eq, is_some}
use Rattle.std.specs.Map.{lookup}
use Rattle.monitor_laws.specs.States.{Participant}
use Rattle.monitor_search.specs.inside.Cascades.{named_group}
use Rattle.monitor_search.proofs.grouping.add_member.Given as goal

-- so far
abbrev pub invariant-loop-membership : goal.invariant-loop-membership
invariant-loop-membership l = record {
  own : (q : List ℕ) → is_some (lookup (bytes_eq q) (take l.membership-index l.u.phases)) ≡ true → Contains (named_group l.groups q) l.u;
  others : (q : List ℕ) (v : Participant) → Contains (named_group l.fn.groups q) v → Contains (named_group l.groups q) v;
}
