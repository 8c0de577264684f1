use Rattle.std.proofs.Common.{rules, ◌≡◌, ◌≤◌, [], sym, append-nil, subst, inl, inr, ◌⊎◌, length}
use Rattle.std.proofs.lemmas.List.{nil_from_length}
use Rattle.monitor.specs.inside.Listening.{Heard, IsListening}
use Rattle.monitor.proofs.Bytes.{end_behind_rest, end_unheard}
use Rattle.monitor.proofs.listener.Listener.hear_end.Goals.{else-not-is_empty-via-then-not-is_empty+else-len-lt-KEPT_BYTES, else-not-is_empty-via-else-not-is_empty}
use Rattle.monitor.proofs.listener.Listener.hear_end.Goals as goal

pub returns-in_ok-hear_line : goal.returns-in_ok-hear_line
returns-in_ok-hear_line c =
    let h = c.in_ok-hear_line.ensures in
    let was : Heard = record { run = c.self.inside.monitor; line = c.self.inside.line.items } in
    (h.0, h.1, λ options bytes output l. end_behind_rest options bytes output was c.hear_line.new.self h.0 (subst (IsListening options bytes output) (sym c.self.view_is) l) (search rules) (search rules) (search rules))

pub returns-else-not-is_empty : goal.returns-else-not-is_empty
returns-else-not-is_empty c =
    let was : Heard = record { run = c.self.inside.monitor; line = c.self.inside.line.items } in
    let kind : (was.line ≡ []) ⊎ (512 ≤ length was.line) =
    elim c.else-not-is_empty.branch [
      | else-not-is_empty-via-then-not-is_empty+else-len-lt-KEPT_BYTES w ↦ inr (search rules)
      | else-not-is_empty-via-else-not-is_empty w ↦ inl (nil_from_length was.line (search rules))
    ]
    in (
      [],
      sym (append-nil _),
      λ options bytes output l. end_unheard options bytes output c.args.self.now l
          (subst (λ (h : Heard). (h.line ≡ []) ⊎ (512 ≤ length h.line)) c.self.view_is kind),
    )
