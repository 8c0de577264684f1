use Rattle.std.proofs.Common.{◌≡◌, ◌<◌, ℕ, sym, ap, ◌∙◌, subst, arith, refl, Option, None, Some}
use Rattle.std.specs.Prelude.{IfSome}
use Rattle.armus_base.specs.declared.event.Event.{Event}
use Rattle.armus_base.specs.Finals.{is_event_of}
use Rattle.armus_base.specs.Places.{some_before}
use Rattle.board.specs.calls.Views.{found_of}
use Rattle.phase_scan.specs.calls.Collects.{LoadsAwaits}
use Rattle.phase_scan.specs.calls.Tables.{awaited_in_findings, event_for}
use Rattle.phase_scan.proofs.Keeping.{awaited_more, awaits_more, still_of, waits_within}
use Rattle.phase_scan.proofs.findings.Findings.load_awaits.Goals as goal

if_some : (o : Option Event) (n : ℕ) → ((e : Event) → o ≡ Some e → e.p.0 < n) → IfSome o (λ e. e.p.0 < n)
if_some None n small = tt
if_some (Some e) n small = small e refl

pub keep_event-requires-clause-phaser : goal.keep_event-requires-clause-phaser
keep_event-requires-clause-phaser g c =
    let i = c.loop-number.invariant in
    if_some c.waiting.result c.loop-number.self.phasers
    (λ e is. subst (λ n. e.p.0 < n) (sym (i.phasers ∙ c.requires.phasers))
    (waits_within (g.L.Loads.known c.loop-number.by) (g.L.Loads.known c.load_await-seen.new.self) c.args.board.now c.loop-number.number (found_of c.load_await-seen.result) e
    i.made c.load_await-seen.ensures.answer (sym c.waiting.ensures ∙ is)))

pub loop-number-preserved : goal.loop-number-preserved
loop-number-preserved g c =
    let i = c.loop-number.invariant in
    let load = c.load_await-seen.ensures.answer in
    let kept = c.keep_event.ensures in
    record {
      made = still_of (g.L.Loads.known c.loop-number.by) (g.L.Loads.known c.load_await-seen.new.self) c.args.board.now i.made load.table load.load.same;
      tasks = kept.tasks ∙ i.tasks;
      phasers = kept.phasers ∙ i.phasers;
      loads = awaits_more (event_for c.loop-number.self.events.items) (event_for c.keep_event.new.self.events.items) c.loop-number.number c.waiting.result
          (found_of c.load_await-seen.result)
          (g.L.Loads.known c.args.by.now) (g.L.Loads.known c.loop-number.by) (g.L.Loads.known c.load_await-seen.new.self) i.loads load c.waiting.ensures kept.events;
      awaited = λ p. awaited_more (event_for c.loop-number.self.events.items) (event_for c.keep_event.new.self.events.items) c.loop-number.number p c.waiting.result
          (awaited_in_findings c.loop-number.self p) (awaited_in_findings c.keep_event.new.self p) (i.awaited p) (kept.awaited p) kept.events;
    }

pub returns-clause-awaits : goal.returns-clause-awaits
returns-clause-awaits g c =
    let i = c.loop-number.invariant in
    let last = c.loop-number.self in
    let all : c.loop-number.number ≡ c.args.self.now.tasks = (let ended = c.loop-number-test.false in omega arith) in
    record {
      tasks = i.tasks;
      phasers = i.phasers;
      loads = subst (λ n. LoadsAwaits (event_for last.events.items) n (g.L.Loads.known c.args.by.now) (g.L.Loads.known c.loop-number.by)) all i.loads;
      awaited = λ p. i.awaited p ∙ ap (some_before (λ t. is_event_of p (event_for last.events.items t))) all;
    }
