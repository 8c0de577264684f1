use Rattle.std.proofs.Common.{◌∙◌, ap, subst, sym, refl, inl, ◌++◌}
use Rattle.std.specs.Prelude.{All, option_to_list}
use Rattle.sites.specs.calls.Rows.{HasPhaseNumbers}
use Rattle.std.proofs.lemmas.List.Elements.{All-append}
use Rattle.phase_scan.proofs.Keeping.{still_of}
use Rattle.sites.proofs.SnapSteps.{finds_more, finds_none, looked_both, looked_phase}
use Rattle.sites.proofs.snapping.load_row.Goals as goal

pub loop-number-init : goal.loop-number-init
loop-number-init c = record { made = c.requires.made; looked = inl refl; row = finds_none c.args.t.0 c.args.view.now c.new-list.result.items c.new-list.ensures.items }

pub returns-in_err-keep-clause-looked : goal.returns-in_err-keep-clause-looked
returns-in_err-keep-clause-looked c =
    let i = c.loop-number.invariant in
    looked_both c.args.view.now c.loop-number.view c.load_phase-found.new.self i.looked
    (looked_phase c.loop-number.view c.load_phase-found.new.self c.args.board.now c.args.t.0 c.loop-number.number c.load_phase-found.result i.made c.requires.task
    c.load_phase-found.ensures.answer)

pub loop-number-preserved : goal.loop-number-preserved
loop-number-preserved c =
    let i = c.loop-number.invariant in
    let j = c.loop-number.view in
    let m = c.load_phase-found.new.self in
    let load = c.load_phase-found.ensures.answer in
    let more = c.in_ok-keep.ensures ∙ ap (λ o. c.loop-number.list.items ++ option_to_list o) c.member_at.ensures.member in
    record {
      made = still_of j m c.args.board.now i.made load.table load.load.same;
      looked = looked_both c.args.view.now j m i.looked (looked_phase j m c.args.board.now c.args.t.0 c.loop-number.number c.load_phase-found.result i.made c.requires.task load);
      row = finds_more c.loop-number.number c.args.t.0 c.load_phase-found.result c.loop-number.list.items c.keep.new.items.items c.args.view.now j m i.row load more
          (subst (All HasPhaseNumbers) (sym c.in_ok-keep.ensures) (All-append HasPhaseNumbers c.loop-number.list.items (option_to_list c.member_at.result) i.row.numbers
          c.member_at.ensures.numbers));
    }
