use Rattle.std.proofs.Common.{rules, ◌≡◌, ◌++◌, Some, None, true, false, sym, ap, subst, ◌∙◌}
use Rattle.std.specs.Prelude.{Ok}
use Rattle.std.specs.Option.{option_map}
use Rattle.trace_lines.specs.Values.{line_value, place_value}
use Rattle.monitor_laws.specs.Faults.{first_fault}
use Rattle.monitor_laws.specs.Lines.{Announces, Stands, TraceLine, Waits}
use Rattle.monitor_laws.specs.States.{after_line}
use Rattle.monitor_search.specs.Known.{AreStuckTasks}
use Rattle.monitor_state.specs.Taking.{taken_state}
use Rattle.monitor_words.specs.calls.FaultValues.{fault_of_line}
use Rattle.monitor_messages.specs.inside.Changes.{IsKnownBefore, TellsChange}
use Rattle.monitor_messages.specs.inside.Guarded.{AnswersWait, may_wait_words}
use Rattle.monitor_messages.specs.inside.Taken.{IsTaken}
use Rattle.monitor_messages.proofs.Guarded.{taken_refused, taken_waiting}
use Rattle.monitor_messages.proofs.TakenLines.{lawful_on, leads_on}
use Rattle.monitor_messages.proofs.known_state.KnownState.take_wait.Goals as goal

pub invariant_of-drop-then-branch : goal.invariant_of-drop-then-branch
invariant_of-drop-then-branch c =
    let s = c.state.inside.state in
    let was = c.state.inside.stuck in
    let after = c.take_line.new.self in
    let l = line_value c.args.line.now in
    let nothing : c.in_ok-fault.field-0 ≡ None = search rules in
    let legal : first_fault s (Some l) ≡ None = sym c.in_ok-fault.ensures.fault ∙ ap (option_map fault_of_line) nothing in
    let leads : after ≡ after_line s l = c.in_ok-fault.ensures.taken ∙ ap (λ f. taken_state s l (option_map fault_of_line f)) nothing in
    let known = leads_on s l was after c.state.invariant legal leads in
    let t = c.args.t.now in
    let p = c.requires.line.0 in
    let n = c.requires.line.1 in
    let is = c.requires.line.2 in
    let place = place_value c.args.place in
    let wait : TraceLine = Announces t (Waits p n) place in
    let known_wait : IsKnownBefore s wait was after = subst (λ x. IsKnownBefore s x was after) is known in
    let stands = c.in_ok-stuck.ensures s p n known_wait in
    (lawful_on s (Announces t Stands place) c.stand_back.new.state stands.0.lawful stands.0.leads, stands.1)

pub returns-then-branch : goal.returns-then-branch
returns-then-branch c =
    let s = c.state.inside.state in
    let was = c.state.inside.stuck in
    let after = c.take_line.new.self in
    let l = line_value c.args.line.now in
    let nothing : c.in_ok-fault.field-0 ≡ None = search rules in
    let legal : first_fault s (Some l) ≡ None = sym c.in_ok-fault.ensures.fault ∙ ap (option_map fault_of_line) nothing in
    let leads : after ≡ after_line s l = c.in_ok-fault.ensures.taken ∙ ap (λ f. taken_state s l (option_map fault_of_line f)) nothing in
    let known = leads_on s l was after c.state.invariant legal leads in
    let t = c.args.t.now in
    let p = c.requires.line.0 in
    let n = c.requires.line.1 in
    let is = c.requires.line.2 in
    let place = place_value c.args.place in
    let wait : TraceLine = Announces t (Waits p n) place in
    let known_wait : IsKnownBefore s wait was after = subst (λ x. IsKnownBefore s x was after) is known in
    let judged = c.stuck_now-judged.result.now in
    let are : AreStuckTasks after judged = c.stuck_now-judged.ensures s after l c.in_ok-found.ensures.same c.in_ok-found.ensures.found known in
    let legal_wait : first_fault s (Some wait) ≡ None = subst (λ x. first_fault s (Some x) ≡ None) is legal in
    let stands = c.in_ok-stuck.ensures s p n known_wait in
    let answers : AnswersWait after judged t c.new-answer.result.items c.put_wait_answer.new.out.items true =
    subst (AnswersWait after judged t c.new-answer.result.items c.put_wait_answer.new.out.items) c.if-branch.true c.in_ok-put_wait_answer.ensures
    in
    let words = answers.3 in
    let old = c.args.out.now.items in
    let mid = c.stand_back.new.out.items in
    let new = c.extend_from_slice.new.self.items in
    let wrote = c.in_ok-extend_from_slice.ensures.items ∙ ap (λ x. mid ++ x) (c.deref.ensures.value ∙ answers.4 ∙ ap (λ x. x ++ words) c.new-answer.ensures.items) in
    let taken = taken_refused s t p n place was after judged known_wait are answers.0 words c.stand_back.new.state c.in_ok-stuck.stuck old mid new legal_wait answers.1 answers.2 answers.5 stands wrote in
    let taken_line = subst (λ x. IsTaken true s x c.stand_back.new.state old new (Ok true)) (sym is) taken in
    subst (λ x. IsTaken true x l c.stand_back.new.state old new (Ok true)) (c.state.view_is ∙ c.replace.ensures.value) taken_line

pub invariant_of-drop-2 : goal.invariant_of-drop-2
invariant_of-drop-2 c =
    let s = c.state.inside.state in
    let was = c.state.inside.stuck in
    let after = c.take_line.new.self in
    let l = line_value c.args.line.now in
    let nothing : c.in_ok-fault.field-0 ≡ None = search rules in
    let legal : first_fault s (Some l) ≡ None = sym c.in_ok-fault.ensures.fault ∙ ap (option_map fault_of_line) nothing in
    let leads : after ≡ after_line s l = c.in_ok-fault.ensures.taken ∙ ap (λ f. taken_state s l (option_map fault_of_line f)) nothing in
    let known = leads_on s l was after c.state.invariant legal leads in
    let told = c.in_ok-stuck-2.ensures s known in
    (lawful_on s l after c.state.invariant.0 leads, told.0)

pub returns : goal.returns
returns c =
    let s = c.state.inside.state in
    let was = c.state.inside.stuck in
    let after = c.take_line.new.self in
    let l = line_value c.args.line.now in
    let nothing : c.in_ok-fault.field-0 ≡ None = search rules in
    let legal : first_fault s (Some l) ≡ None = sym c.in_ok-fault.ensures.fault ∙ ap (option_map fault_of_line) nothing in
    let leads : after ≡ after_line s l = c.in_ok-fault.ensures.taken ∙ ap (λ f. taken_state s l (option_map fault_of_line f)) nothing in
    let known = leads_on s l was after c.state.invariant legal leads in
    let t = c.args.t.now in
    let p = c.requires.line.0 in
    let n = c.requires.line.1 in
    let is = c.requires.line.2 in
    let place = place_value c.args.place in
    let wait : TraceLine = Announces t (Waits p n) place in
    let known_wait : IsKnownBefore s wait was after = subst (λ x. IsKnownBefore s x was after) is known in
    let judged = c.stuck_now-judged.result.now in
    let are : AreStuckTasks after judged = c.stuck_now-judged.ensures s after l c.in_ok-found.ensures.same c.in_ok-found.ensures.found known in
    let legal_wait : first_fault s (Some wait) ≡ None = subst (λ x. first_fault s (Some x) ≡ None) is legal in
    let told = c.in_ok-stuck-2.ensures s known in
    let answers : AnswersWait after judged t c.new-answer.result.items c.put_wait_answer.new.out.items false =
    subst (AnswersWait after judged t c.new-answer.result.items c.put_wait_answer.new.out.items) c.if-branch.false c.in_ok-put_wait_answer.ensures
    in
    let old = c.args.out.now.items in
    let mid = c.told_by.new.out.items in
    let new = c.extend_from_slice-2.new.self.items in
    let wrote = c.in_ok-extend_from_slice-2.ensures.items ∙ ap (λ x. mid ++ x) (c.deref-2.ensures.value ∙ answers.1 ∙ ap (λ x. x ++ may_wait_words t) c.new-answer.ensures.items) in
    let change = subst (λ x. TellsChange s x was after c.in_ok-stuck-2.stuck old mid c.in_ok-stuck-2.told) is told.1 in
    let taken = taken_waiting s t p n place was after judged known_wait are c.in_ok-stuck-2.stuck old mid new c.in_ok-stuck-2.told legal_wait answers.0 told.0 change wrote in
    let taken_line = subst (λ x. IsTaken true s x after old new (Ok c.in_ok-stuck-2.told)) (sym is) taken in
    subst (λ x. IsTaken true x l after old new (Ok c.in_ok-stuck-2.told)) (c.state.view_is ∙ c.replace.ensures.value) taken_line
