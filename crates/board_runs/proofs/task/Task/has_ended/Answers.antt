use Rattle.std.proofs.Common.{◌∙◌, inl, inr, sym, ap, subst}
use Rattle.std.specs.Prelude.{IsSome, is_some, not}
use Rattle.std.proofs.lemmas.Bool.{false≢true}
use Rattle.board_runs.specs.calls.Turns.{ActsNoMore, Working}
use Rattle.board_runs.proofs.Halting.{done_began, ends_done, no_one, true_for}
use Rattle.board_runs.proofs.task.Task.has_ended.Goals as goal

pub returns-then-is_none : goal.returns-then-is_none
returns-then-is_none c =
    let left = c.self.invariant.come.ops_are c.if-self.false in (
      λ none.
          let idle = sym c.event.ensures ∙ no_one _ (c.is_none.ensures ∙ ap not c.if-is_none.true) in
          let past = sym c.peek.ensures.next ∙ no_one _ (c.is_none-then-is_none.ensures ∙ ap not none) in
          subst (λ (w : Working). ActsNoMore w.seat) c.self.view_is (inl (ends_done c.self.inside.cursor c.self.inside.seat left idle past)),
      λ no_more. elim (subst (λ (w : Working). ActsNoMore w.seat) (sym c.self.view_is) no_more) [
        | inl done ↦
            (let none = c.peek.ensures.next ∙ done_began c.self.inside.cursor c.self.inside.seat left done in
            true_for _ (sym c.is_none-then-is_none.ensures ∙ ap is_some none))
        | inr gone ↦ absurd (false≢true (subst IsSome left.unrefused gone.refused))
      ],
    )
