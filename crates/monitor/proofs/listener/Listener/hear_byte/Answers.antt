use Rattle.std.proofs.Common.{rules, [], sym, append-nil, subst}
use Rattle.std.proofs.lemmas.Bool.{ne_eqb}
use Rattle.monitor.specs.inside.Listening.{Heard, IsListening}
use Rattle.monitor.proofs.Bytes.{byte_kept, byte_passed, byte_too_many}
use Rattle.monitor.proofs.listener.Listener.hear_byte.Goals as goal

pub returns-in_ok-hear_line : goal.returns-in_ok-hear_line
returns-in_ok-hear_line c =
    let h = c.in_ok-hear_line.ensures in
    let was : Heard = record { run = c.self.inside.monitor; line = c.self.inside.line.items } in
    (h.0, h.1, λ options bytes output l. byte_too_many options bytes output was c.args.byte c.push.new.self.items _ h.0 (search rules) (subst (IsListening options bytes output) (sym c.self.view_is) l) (ne_eqb c.args.byte 10 (search rules)) (search rules) (search rules))

pub returns-else-len-eq-KEPT_BYTES : goal.returns-else-len-eq-KEPT_BYTES
returns-else-len-eq-KEPT_BYTES c =
    let was : Heard = record { run = c.self.inside.monitor; line = c.self.inside.line.items } in
    ([], sym (append-nil _), λ options bytes output l. byte_kept options bytes output was c.args.byte c.push.new.self.items (search rules) (subst (IsListening options bytes output) (sym c.self.view_is) l) (ne_eqb c.args.byte 10 (search rules)) (search rules))

pub returns-else-len-lt-KEPT_BYTES : goal.returns-else-len-lt-KEPT_BYTES
returns-else-len-lt-KEPT_BYTES c =
    ([], sym (append-nil _), λ options bytes output l. byte_passed options bytes output c.args.self.now c.args.byte l (ne_eqb c.args.byte 10 (search rules)) (search rules))
