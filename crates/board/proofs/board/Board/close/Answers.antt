use Rattle.std.proofs.Common.{◌≡◌, ℕ, List, sym, ap, ◌∙◌, subst}
use Rattle.std.specs.Mem.Slots.{slots_items}
use Rattle.board.specs.declared.view.View.{View}
use Rattle.board.specs.calls.Views.{seen}
use Rattle.board.specs.calls.Closing.{AreLastOf}
use Rattle.board.specs.calls.Ended.{Ended}
use Rattle.board.specs.calls.Seats.{Frame}
use Rattle.board.proofs.Closing.{closes}
use Rattle.board.proofs.board.Board.close.Goals as goal

pub returns-clause-words : goal.returns-clause-words
returns-clause-words c =
    let v = c.into_place.result.me.0 in
    let is : v ≡ c.args.view.view = ap (λ m. m.0) c.into_place.ensures.place.1 in
    let seat = c.into_place.ensures.seat in
    subst (λ (f : Frame). AreLastOf f.plan f.mode (seen c.args.view.view) c.of.result.words) c.self.view_is
    (subst (λ (ws : List ℕ). AreLastOf c.self.inside.cells.shared.key.plan.value c.self.inside.cells.shared.key.mode (seen c.args.view.view) ws)
    (sym (ap (λ (e : Ended). e.words) c.of.ensures))
    (subst (λ (u : View). AreLastOf c.self.inside.cells.shared.key.plan.value c.self.inside.cells.shared.key.mode (seen u) (slots_items c.close_with-closed.result.words)) is
    (closes c.self.inside.cells.shared.key c.into_place.result.id v _ _ (ap (λ (u : View). u.own) is ∙ seat.0) (ap (λ (u : View). u.spent) is ∙ seat.1.live)
    c.close_with-closed.ensures.values.2)))
