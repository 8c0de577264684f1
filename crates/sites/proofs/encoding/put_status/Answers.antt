use Rattle.std.specs.Int.{w32, to_be_bytes}
use Rattle.std.proofs.Common.{length, ap, ◌∙◌, ◌++◌, List}
use Rattle.std.specs.List.{flat_map}
use Rattle.armus_base.specs.declared.status.Member.{Member}
use Rattle.sites.specs.calls.Rows.{phase_bytes}
use Rattle.sites.proofs.Appending.{five}
use Rattle.sites.proofs.encoding.put_status.Goals as goal

pub returns-clause-bytes : goal.returns-clause-bytes
returns-clause-bytes c =
    let s = c.args.s.now in
    let phases = c.as_slice-phases.ensures.items in
    five c.args.out.now.items (to_be_bytes w32 s.t.0) (to_be_bytes w32 s.event.p.0) (to_be_bytes w32 s.event.n) (to_be_bytes w32 (length s.phases))
    (flat_map phase_bytes s.phases)
    c.put_number.new.out.items c.put_number-2.new.out.items c.put_number-3.new.out.items c.put_number-4.new.out.items c.put_phases.new.out.items
    c.in_ok-put_number.ensures c.in_ok-put_number-2.ensures c.in_ok-put_number-3.ensures
    (c.in_ok-put_number-4.ensures ∙ ap (λ (v : List Member). c.put_number-3.new.out.items ++ to_be_bytes w32 (length v)) phases)
    (c.in_ok-put_phases.ensures.bytes ∙ ap (λ (v : List Member). c.put_number-4.new.out.items ++ flat_map phase_bytes v) phases)
