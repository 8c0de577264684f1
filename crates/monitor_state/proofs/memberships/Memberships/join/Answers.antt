use Rattle.std.proofs.Common.{◌≡◌, ◌++◌, ◌∷◌, [], None, ℕ, List, subst, sym, ap, ◌∙◌}
use Rattle.std.specs.Prelude.{bytes_eq}
use Rattle.std.specs.Map.{lookup}
use Rattle.monitor_state.specs.inside.PhaserLists.{HasNoPhaserTwice}
use Rattle.monitor_state.proofs.OnePhaser.{once_joined}
use Rattle.monitor_state.proofs.memberships.Memberships.join.Goals as goal

pub invariant_of-self-2 : goal.invariant_of-self-2
invariant_of-self-2 c =
    let ms = c.self.inside.items.items in
    let p = c.args.p.now in
    let none : lookup (bytes_eq p) ms ≡ None = ap (lookup (bytes_eq p)) c.self.view_is ∙ c.requires in
    let pushed : c.push.new.self.items ≡ ms ++ (p, c.args.n) ∷ [] = c.in_ok-push.ensures.items ∙ ap (λ l. l ++ c.in_ok-membership.membership ∷ []) c.make_room.ensures ∙ ap (λ (m : List ℕ × ℕ). ms ++ m ∷ []) c.in_ok-membership.ensures in
    subst HasNoPhaserTwice (sym pushed) (once_joined p c.args.n ms c.self.invariant none)
