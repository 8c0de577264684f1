use Rattle.std.proofs.Common.{◌≡◌, ◌||◌, Some, ◌∙◌, ap}
use Rattle.std.specs.Prelude.{bytes_eq, nat_lt}
use Rattle.std.specs.HashMap.{get_by}
use Rattle.std.proofs.lemmas.Map.Text.{hash_map_updates_str}
use Rattle.monitor_laws.specs.Stuck.{is_phase_below}
use Rattle.monitor_rows.proofs.LeastPhases.{noted_update}
use Rattle.monitor_rows.proofs.least_phases.note_phase.Goals as goal

pub returns : goal.returns
returns c = λ q n.
    let p = c.args.p.now in
    let was : is_phase_below (Some c.lesser_phase-lesser.result) n ≡ (is_phase_below (get_by (λ k. bytes_eq p k.now) c.args.least.now) n || nat_lt c.args.m n) =
    c.lesser_phase-lesser.ensures n ∙ ap (λ o. is_phase_below o n || nat_lt c.args.m n) (c.copied-known.ensures ∙ c.get.ensures.value) in
    ap (λ o. is_phase_below o n) (hash_map_updates_str p c.args.least.now c.insert.new.self _ c.in_ok-insert.ensures.updates q)
    ∙ noted_update (λ x. get_by (λ k. bytes_eq x k.now) c.args.least.now) p q c.args.m n (Some c.lesser_phase-lesser.result) was
