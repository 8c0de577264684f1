use Rattle.std.proofs.Common.{◌≡◌, ◌++◌, not, take}
use Rattle.std.specs.Prelude.{filter}
use Rattle.monitor_search.specs.inside.Partings.{is_kept_by, referred}
use Rattle.monitor_search.proofs.parting.part_anew.Given as goal

-- so far
abbrev pub invariant-loop-u : goal.invariant-loop-u
invariant-loop-u l = record {
  inside : referred l.inside.items ≡ filter (λ u. is_kept_by (referred l.parting.inside.items) (referred l.parting.outside.items) u.condition) (referred (take l.u-index l.parting.inside.items));
  outside : referred l.outside.items ≡ referred l.parting.outside.items ++ filter (λ u. not (is_kept_by (referred l.parting.inside.items) (referred l.parting.outside.items) u.condition)) (referred (take l.u-index l.parting.inside.items));
}
