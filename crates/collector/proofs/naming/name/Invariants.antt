use Rattle.std.proofs.Common.{◌≡◌, take, vec_len}
use Rattle.collector.specs.calls.Passes.{NamesToo}
use Rattle.collector.proofs.naming.name.Given as goal

abbrev pub invariant-loop-t : goal.invariant-loop-t
invariant-loop-t l = record {
  count : vec_len l.names ≡ vec_len l.initial.names;
  named : NamesToo (take l.t-index l.dead) l.initial.names.items l.names.items;
}
