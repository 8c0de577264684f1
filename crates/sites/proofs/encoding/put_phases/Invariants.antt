use Rattle.std.proofs.Common.{◌≡◌, ℕ, ◌<◌, ◌++◌, get_or, take}
use Rattle.std.specs.List.{flat_map}
use Rattle.armus_base.specs.declared.status.Member.{Member}
use Rattle.sites.specs.calls.Rows.{HasPhaseNumbers, phase_bytes}
use Rattle.sites.proofs.encoding.put_phases.Given as goal

abbrev pub invariant-loop-m : goal.invariant-loop-m
invariant-loop-m l =
    record {
      bytes : l.out.items ≡ l.fn.out.items ++ flat_map phase_bytes (take l.m-index l.phases);
      numbers : (k : ℕ) (d : Member) → k < l.m-index → HasPhaseNumbers (get_or l.phases k d);
    }
