use Rattle.std.proofs.Common.{◌≡◌, ◌∙◌, [], ◌∷◌, ◌++◌, rules, ap, sym, eqb-true}
use Rattle.armus_base.specs.calls.Seats.{SeenBy}
use Rattle.board_runs.specs.calls.Turns.{no_child, one_child}
use Rattle.board_runs.proofs.beginning.fork.Goals as goal

pub returns-clause-children : goal.returns-clause-children
returns-clause-children c =
    let grown : c.push.new.self.items ≡ c.args.children.now.items ++ c.in_ok-child.child ∷ [] = search rules in
    let new = c.in_ok-child.ensures.child in (
      c.in_ok-child.child ∷ [],
      grown,
      one_child (record { of_board = new.of_board; own = new.own_is; alone = λ u is. eqb-true u c.args.c.0 (sym (ap (λ (x : SeenBy). x.exact u) new.seen_is) ∙ is); first = c.in_ok-child.ensures.first; free = new.free; kept = new.kept }) no_child,
    )
