use Rattle.std.proofs.Common.{rules, [], refl, sym, ◌∙◌, append-nil, ap, inl, inr, subst}
use Rattle.monitor.specs.inside.Listening.{Heard, IsListening}
use Rattle.monitor.proofs.Bytes.{EndOfLine, end_of_line_heard}
use Rattle.monitor.proofs.listener.Listener.hear_line_end.Goals.{then-len-lt-KEPT_BYTES+in_ok-hear_line, else-len-lt-KEPT_BYTES}
use Rattle.monitor.proofs.listener.Listener.hear_line_end.Goals as goal

pub returns : goal.returns
returns c =
    let line = c.self.inside.line.items in
    let was : Heard = record { run = c.self.inside.monitor; line = line } in
    let step : EndOfLine c.self.inside.monitor line c.args.out.now.items c.if-len-lt-KEPT_BYTES.self-inside.monitor c.if-len-lt-KEPT_BYTES.out.items =
    elim c.if-len-lt-KEPT_BYTES.branch [
      | then-len-lt-KEPT_BYTES+in_ok-hear_line w ↦
          let h = w.in_ok-hear_line.ensures in
          let step : EndOfLine c.self.inside.monitor line c.args.out.now.items w.hear_line.new.self w.hear_line.new.out.items = (h.0, h.1, inl (search rules, search rules)) in
          let moved = subst (λ inside. EndOfLine c.self.inside.monitor line c.args.out.now.items inside.monitor w.hear_line.new.out.items) (sym w.self-inside-is) step in
          subst (λ out. EndOfLine c.self.inside.monitor line c.args.out.now.items c.if-len-lt-KEPT_BYTES.self-inside.monitor out.items) (sym w.out-is) moved
      | else-len-lt-KEPT_BYTES w ↦
          ([], ap (λ out. out.items) w.out-is ∙ sym (append-nil _), inr (search rules, ap (λ inside. inside.monitor) w.self-inside-is, refl))
    ]
    in
    (step.0, step.1, λ options bytes output l. end_of_line_heard options bytes output was c.if-len-lt-KEPT_BYTES.self-inside.monitor c.clear.new.self.items step.0 c.clear.ensures.items (subst (IsListening options bytes output) (sym c.self.view_is) l) step.2)
