use Rattle.std.proofs.Common.{rules, ◌≡◌, ℕ, ◌-◌, [], length, ◌∙◌, ap, subst, take}
use Rattle.monitor.specs.inside.Listening.{Heard, HearsBytes}
use Rattle.monitor.proofs.Bytes.{quiet_kept, room_for}
use Rattle.monitor.proofs.listener.Listener.hear_quiet.Goals as goal

pub returns-clause-heard : goal.returns-clause-heard
returns-clause-heard c =
    let line = c.self.inside.line.items in
    let bytes = c.args.bytes.now in
    let count = c.quiet_count-count.result in
    let was : Heard = record { run = c.self.inside.monitor; line = line } in
    let long : c.len.result ≡ length line = search rules in
    let more = c.extend_from_slice.new.self.items in
    subst (λ h. HearsBytes h (take count bytes) [] (record { run = c.self.inside.monitor; line = more })) c.self.view_is
    (quiet_kept was (take count bytes) more c.in_ok-extend_from_slice.ensures.items c.quiet_count-count.ensures.quiet
    (room_for line bytes c.saturating_sub-room.result count (c.saturating_sub-room.ensures ∙ ap (λ (k : ℕ). 511 - k) long) c.quiet_count-count.ensures.room c.quiet_count-count.ensures.within))
