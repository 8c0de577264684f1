use Rattle.std.proofs.Common.{◌≡◌, ◌<◌, set, subst, sym, ap, ◌∙◌, ℕ, List}
use Rattle.std.specs.Prelude.{IfSome, bytes_eq}
use Rattle.std.specs.List.{list_any}
use Rattle.std.specs.Map.{lookup}
use Rattle.monitor_laws.specs.Faults.{last_phase}
use Rattle.monitor_state.specs.inside.FirstPlaces.{IsFirstAt}
use Rattle.monitor_state.specs.inside.PhaserLists.{HasNoPhaserTwice, is_of_phaser, risen_on}
use Rattle.monitor_state.proofs.OnePhaser.{none_rises, once_risen, read_below, risen_set}
use Rattle.monitor_state.proofs.memberships.Memberships.arrive.Goals as goal

pub arrive-requires : goal.arrive-requires
arrive-requires c =
    let ms = c.self.inside.items.items in
    let p = c.args.p.now in
    let below : IfSome (lookup (bytes_eq p) ms) (λ n. n < last_phase) = subst (λ l. IfSome (lookup (bytes_eq p) l) (λ n. n < last_phase)) (sym c.self.view_is) c.requires in
    read_below p ms c.in-Some.at c.index_mut.result.now last_phase below (subst (λ l. IsFirstAt (is_of_phaser c.args.p.now) l c.in-Some.at) c.deref.ensures.value c.in-Some.ensures.at) c.index_mut.ensures.value

risen : (c : goal.After-self-1) → set c.self.inside.items.items c.in-Some.at c.arrive.new.self ≡ risen_on c.args.p.now c.self.inside.items.items
risen c =
    ap (λ (m : List ℕ × ℕ). set c.self.inside.items.items c.in-Some.at m) c.arrive.ensures
    ∙ risen_set c.args.p.now c.self.inside.items.items c.in-Some.at c.index_mut.result.now c.self.invariant (subst (λ l. IsFirstAt (is_of_phaser c.args.p.now) l c.in-Some.at) c.deref.ensures.value c.in-Some.ensures.at) c.index_mut.ensures.value

pub invariant_of-self : goal.invariant_of-self
invariant_of-self c = subst HasNoPhaserTwice (sym (risen c)) (once_risen c.args.p.now c.self.inside.items.items c.self.invariant)

pub returns-in-Some : goal.returns-in-Some
returns-in-Some c = risen c ∙ ap (risen_on c.args.p.now) c.self.view_is

pub returns-in_default : goal.returns-in_default
returns-in_default c =
    sym c.self.view_is ∙ sym (none_rises c.args.p.now c.self.inside.items.items (ap (list_any (is_of_phaser c.args.p.now)) (sym c.deref.ensures.value) ∙ c.in_default.ensures.none)) ∙ ap (risen_on c.args.p.now) c.self.view_is
