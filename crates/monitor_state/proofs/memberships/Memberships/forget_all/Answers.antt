use Rattle.std.proofs.Common.{◌≡◌, ◌&&◌, ◌∙◌, ℕ, List, ap}
use Rattle.std.specs.Prelude.{◌==◌, bytes_eq}
use Rattle.std.specs.Map.{lookup}
use Rattle.monitor_state.specs.Indexes.{is_phase}
use Rattle.monitor_state.specs.inside.PhaserLists.{are_here}
use Rattle.monitor_state.proofs.Noting.{all_forgotten, here_is}
use Rattle.monitor_state.proofs.memberships.Memberships.forget_all.Goals as goal

pub returns : goal.returns
returns c =
    let here : (q : List ℕ) (n j : ℕ) → are_here c.deref.result.now c.args.k q n j ≡ (c.args.k == j && is_phase (lookup (bytes_eq q) c.args.self.now) n) =
    λ q n j.
    ap (λ (l : List (List ℕ × ℕ)). are_here l c.args.k q n j) c.deref.ensures.value ∙ here_is c.self.inside.items.items c.args.k q n j c.self.invariant
    ∙ ap (λ (l : List (List ℕ × ℕ)). c.args.k == j && is_phase (lookup (bytes_eq q) l) n) c.self.view_is in
    all_forgotten c.args.k c.deref.result.now (λ q n. is_phase (lookup (bytes_eq q) c.args.self.now) n) here c.args.index.now c.forget_each.new.index c.requires c.forget_each.ensures
