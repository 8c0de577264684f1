use Rattle.std.proofs.Common.{◌≡◌, subst, sym, ap, ◌∙◌}
use Rattle.std.specs.Prelude.{bytes_eq, not}
use Rattle.std.specs.List.{list_any}
use Rattle.monitor_state.specs.inside.FirstPlaces.{IsFirstAt}
use Rattle.monitor_state.specs.inside.PhaserLists.{HasNoPhaserTwice, is_of_phaser, without_phaser}
use Rattle.monitor_state.proofs.OnePhaser.{none_leaves, once_filtered, without_is}
use Rattle.monitor_state.proofs.memberships.Memberships.leave.Goals as goal

left : (c : goal.After-drop-remove) → c.remove.new.self.items ≡ without_phaser c.args.p.now c.self.inside.items.items
left c = c.remove.ensures.items ∙ sym (without_is c.args.p.now c.self.inside.items.items c.in-Some.at c.self.invariant (subst (λ l. IsFirstAt (is_of_phaser c.args.p.now) l c.in-Some.at) c.deref.ensures.value c.in-Some.ensures.at))

pub invariant_of-self : goal.invariant_of-self
invariant_of-self c =
    subst HasNoPhaserTwice (sym (left c)) (once_filtered (λ m. not (bytes_eq c.args.p.now m.0)) c.self.inside.items.items c.self.invariant)

pub returns-in-Some : goal.returns-in-Some
returns-in-Some c = left c ∙ ap (without_phaser c.args.p.now) c.self.view_is

pub returns-in_default : goal.returns-in_default
returns-in_default c =
    sym c.self.view_is ∙ sym (none_leaves c.args.p.now c.self.inside.items.items (ap (list_any (is_of_phaser c.args.p.now)) (sym c.deref.ensures.value) ∙ c.in_default.ensures.none)) ∙ ap (without_phaser c.args.p.now) c.self.view_is
