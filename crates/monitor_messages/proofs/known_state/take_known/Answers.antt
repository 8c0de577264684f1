use Rattle.std.proofs.Common.{rules, ◌≡◌, ℕ, Some, None, List, sym, ap, subst, ◌∙◌}
use Rattle.std.specs.Option.{option_map}
use Rattle.trace_lines.specs.Values.{line_value}
use Rattle.monitor_laws.specs.Faults.{first_fault}
use Rattle.monitor_laws.specs.States.{after_line}
use Rattle.monitor_state.specs.Taking.{taken_state}
use Rattle.monitor_words.specs.calls.FaultValues.{fault_of_line}
use Rattle.monitor_search.specs.Known.{AreStuckTasks}
use Rattle.monitor_messages.specs.inside.Changes.{IsKnownBefore}
use Rattle.monitor_messages.proofs.TakenLines.{lawful_on, leads_on, taken_plain}
use Rattle.monitor_messages.proofs.known_state.take_known.Goals as goal

legal : (c : goal.In_ok-put_asked) → first_fault c.args.state.now (Some (line_value c.args.line.now)) ≡ None
legal c = let nothing : c.in_ok-fault.field-0 ≡ None = search rules in sym c.in_ok-fault.ensures.fault ∙ ap (option_map fault_of_line) nothing

leads : (c : goal.In_ok-put_asked) → c.take_line.new.self ≡ after_line c.args.state.now (line_value c.args.line.now)
leads c =
    let nothing : c.in_ok-fault.field-0 ≡ None = search rules in
    c.in_ok-fault.ensures.taken ∙ ap (λ f. taken_state c.args.state.now (line_value c.args.line.now) (option_map fault_of_line f)) nothing

known : (c : goal.In_ok-put_asked) → IsKnownBefore c.args.state.now (line_value c.args.line.now) c.replace-was.result c.take_line.new.self
known c =
    let s = c.args.state.now in
    leads_on s (line_value c.args.line.now) c.replace-was.result c.take_line.new.self
    (c.requires.0, subst (λ (k : List (ℕ × List ℕ)). AreStuckTasks s k) (sym c.replace-was.ensures.value) c.requires.1) (legal c) (leads c)

pub returns-clause-known : goal.returns-clause-known
returns-clause-known c =
    let s = c.args.state.now in
    let told = c.in_ok-found.ensures s (known c) c.keeps_stuck_ahead-keeps.ensures in
    (lawful_on s (line_value c.args.line.now) c.take_line.new.self c.requires.0 (leads c), told.0)

pub returns-clause-taken : goal.returns-clause-taken
returns-clause-taken c =
    let s = c.args.state.now in
    let told = c.in_ok-found.ensures s (known c) c.keeps_stuck_ahead-keeps.ensures in
    taken_plain s (line_value c.args.line.now) c.replace-was.result c.in_ok-found.found c.take_line.new.self c.args.out.now.items c.told_change.new.out.items c.put_asked.new.out.items c.in_ok-found.told
    (legal c) (known c) told.0 told.1 c.in_ok-put_asked.ensures
