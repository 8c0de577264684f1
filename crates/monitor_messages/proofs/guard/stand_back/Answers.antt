use Rattle.monitor_laws.specs.Lines.{Announces, Stands}
use Rattle.trace_lines.specs.Values.{place_value}
use Rattle.monitor_messages.specs.inside.Changes.{IsKnownBefore}
use Rattle.monitor_messages.proofs.Refused.{stands_known}
use Rattle.monitor_messages.proofs.guard.stand_back.Goals as goal

pub returns : goal.returns
returns c = λ s p n known.
    let place = place_value c.args.place in
    let t = c.args.t.now in
    let stands : IsKnownBefore s (Announces t Stands place) c.args.was c.take_line.new.self =
    stands_known s t p n place c.args.was c.args.state.now c.take_line.new.self _ known c.in_ok-take_line.ensures.fault c.in_ok-take_line.ensures.taken
    in
    let told = c.in_ok-stuck.ensures s stands (λ on. absurd (cc)) in
    (stands, told.0, (_, told.1))
