use Rattle.std.proofs.Common.{◌≡◌, ◌||◌, ◌&&◌, ◌∙◌, ℕ, List, false, not, refl, sym, ap}
use Rattle.std.specs.Prelude.{◌==◌, bytes_eq}
use Rattle.std.specs.Map.{lookup}
use Rattle.monitor_members.specs.Noted.{is_noted}
use Rattle.monitor_state.specs.Indexes.{is_phase}
use Rattle.monitor_state.specs.inside.PhaserLists.{are_here}
use Rattle.monitor_state.proofs.Noting.{all_undone, here_is, more_noted}
use Rattle.monitor_state.proofs.memberships.Memberships.note_all.Goals as goal

pub returns-in-Ok-clause-noted : goal.returns-in-Ok-clause-noted
returns-in-Ok-clause-noted c =
    let here : (q : List ℕ) (n j : ℕ) → are_here c.deref.result.now c.args.k q n j ≡ (c.args.k == j && is_phase (lookup (bytes_eq q) c.args.self.now) n) =
    λ q n j.
    ap (λ (l : List (List ℕ × ℕ)). are_here l c.args.k q n j) c.deref.ensures.value ∙ here_is c.self.inside.items.items c.args.k q n j c.self.invariant
    ∙ ap (λ (l : List (List ℕ × ℕ)). c.args.k == j && is_phase (lookup (bytes_eq q) l) n) c.self.view_is in
    more_noted c.args.k c.args.index.now c.note_each.new.index (λ q n. false) (λ q n. is_phase (lookup (bytes_eq q) c.args.self.now) n) (λ q n. is_phase (lookup (bytes_eq q) c.args.self.now) n) c.requires
    (λ q n j. c.in-Ok.ensures.noted q n j ∙ ap (λ b. is_noted c.args.index.now q n j || b) (here q n j)) (λ q n. refl)

pub returns-in-Err-clause-kept : goal.returns-in-Err-clause-kept
returns-in-Err-clause-kept c =
    let here : (q : List ℕ) (n j : ℕ) → are_here c.deref.result.now c.args.k q n j ≡ (c.args.k == j && is_phase (lookup (bytes_eq q) c.args.self.now) n) =
    λ q n j.
    ap (λ (l : List (List ℕ × ℕ)). are_here l c.args.k q n j) c.deref.ensures.value ∙ here_is c.self.inside.items.items c.args.k q n j c.self.invariant
    ∙ ap (λ (l : List (List ℕ × ℕ)). c.args.k == j && is_phase (lookup (bytes_eq q) l) n) c.self.view_is in
    all_undone c.args.k c.deref.result.now (λ q n. is_phase (lookup (bytes_eq q) c.args.self.now) n) here c.args.index.now c.note_each.new.index c.forget_each.new.index c.requires
    c.note_each.ensures.others
    (λ q n j. c.forget_each.ensures q n j ∙ ap (λ (l : List (List ℕ × ℕ)). is_noted c.note_each.new.index q n j && not (are_here l c.args.k q n j)) (c.deref-in-Err.ensures.value ∙ sym c.deref.ensures.value))
