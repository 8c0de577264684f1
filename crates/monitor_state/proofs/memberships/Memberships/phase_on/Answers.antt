use Rattle.std.proofs.Common.{Some, ap, subst, sym, ◌∙◌}
use Rattle.std.specs.Prelude.{bytes_eq}
use Rattle.std.specs.List.{list_any}
use Rattle.std.specs.Map.{lookup}
use Rattle.monitor_state.specs.inside.FirstPlaces.{IsFirstAt}
use Rattle.monitor_state.specs.inside.PhaserLists.{is_of_phaser}
use Rattle.monitor_state.proofs.OnePhaser.{lookup_none, read_phase}
use Rattle.monitor_state.proofs.memberships.Memberships.phase_on.Goals as goal

pub returns-in_err-at : goal.returns-in_err-at
returns-in_err-at c =
    let ms = c.self.inside.items.items in
    let p = c.args.p.now in
    c.from_residual.ensures ∙ sym (lookup_none p ms (ap (list_any (is_of_phaser p)) (sym c.deref.ensures.value) ∙ c.in_err-at.ensures.none))
    ∙ ap (lookup (bytes_eq p)) c.self.view_is

pub returns : goal.returns
returns c =
    let ms = c.self.inside.items.items in
    let p = c.args.p.now in
    let first = subst (λ l. IsFirstAt (is_of_phaser p) l c.in_ok-at.at) c.deref.ensures.value c.in_ok-at.ensures.at in
    ap (λ n. Some n) c.phase.ensures ∙ sym (read_phase p ms c.in_ok-at.at c.index.result.now first c.index.ensures)
    ∙ ap (lookup (bytes_eq p)) c.self.view_is
