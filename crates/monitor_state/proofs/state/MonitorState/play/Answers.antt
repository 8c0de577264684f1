use Rattle.std.proofs.Common.{◌≡◌, ◌≤◌, List, ℕ, sym, ◌∙◌, ap, subst}
use Rattle.std.specs.Prelude.{◌==◌}
use Rattle.std.specs.List.{slice_split}
use Rattle.monitor_laws.specs.Lines.{PlaysOneOf}
use Rattle.monitor_laws.specs.States.{OneOf, TraceState, changed_at}
use Rattle.monitor_laws.specs.Faults.{memberships_in, most_memberships}
use Rattle.monitor_laws.specs.Lawful.{AreAscending, IsLawfulState}
use Rattle.trace_lines.specs.inside.Reading.{spaced_words}
use Rattle.monitor_state.proofs.KeptStates.{room_after}
use Rattle.monitor_state.proofs.state.MonitorState.play.Goals as goal

-- what the line makes of the list, by the names and numbers that it is given
played : (s : TraceState) (w names bytes : List ℕ) (numbers known : List ℕ) → known ≡ numbers → bytes ≡ names → changed_at w (λ u. record u { condition = OneOf (spaced_words names) numbers }) s ≡ changed_at w (λ u. record u { condition = OneOf (slice_split (λ b. b == 32) bytes) known }) s
played s w names bytes numbers known same are =
    ap (λ (k : List ℕ). changed_at w (λ u. record u { condition = OneOf (spaced_words names) k }) s) (sym same)
    ∙ ap (λ (bs : List ℕ). changed_at w (λ u. record u { condition = OneOf (slice_split (λ b. b == 32) bs) known }) s) (sym are)

pub change-requires-clause-line : goal.change-requires-clause-line
change-requires-clause-line c =
    (PlaysOneOf c.args.w.now (spaced_words c.args.names.now), played c.args.self.now c.args.w.now c.args.names.now c.in_ok-names.names.items _ c.args.numbers.items c.requires.numbers c.in_ok-names.ensures.items)

pub change-requires-clause-few : goal.change-requires-clause-few
change-requires-clause-few c =
    let lawful : IsLawfulState c.args.self.now = subst IsLawfulState c.self.view_is c.self.invariant.lawful in
    let up = subst (λ (x : TraceState). AreAscending x.list) c.self.view_is c.self.invariant.ascending in
    let e = played c.args.self.now c.args.w.now c.args.names.now c.in_ok-names.names.items _ c.args.numbers.items c.requires.numbers c.in_ok-names.ensures.items in
    room_after c.args.self.now c.args.w.now _ lawful up (subst (λ (x : TraceState). memberships_in x ≤ most_memberships) e c.requires.few)

pub returns-clause-taken : goal.returns-clause-taken
returns-clause-taken c =
    c.in_ok-change.ensures.changed
    ∙ sym (played c.args.self.now c.args.w.now c.args.names.now c.in_ok-names.names.items _ c.args.numbers.items c.requires.numbers c.in_ok-names.ensures.items)
