use Rattle.std.proofs.Common.{◌≡◌, ◌<◌, List, ◌∷◌, ◌++◌, [], length, get_or, sym, ◌∙◌, ap, subst, Bor, rules}
use Rattle.std.specs.Global.{Vec}
use Rattle.monitor_laws.specs.States.{Participant}
use Rattle.monitor_words.specs.Messages.{is_kept_waiting}
use Rattle.monitor_rows.specs.inside.Lent.{lent_ones}
use Rattle.monitor_rows.proofs.OneMore.{lent_more, more_failing, more_passing}
use Rattle.monitor_rows.proofs.rows.kept_waiting.Goals as goal
use Rattle.monitor_rows.proofs.rows.kept_waiting.Goals.{then-is_kept_by_least+in_ok-push, else-is_kept_by_least}

pub loop-t-preserved : goal.loop-t-preserved
loop-t-preserved c =
    let s = c.args.state.now in
    let i = c.loop-t.t-index in
    let items = c.participants-t-items.ensures.list in
    let inside : i < length c.participants-t-items.result.now = search rules in
    let within : i < length s.list = subst (λ (l : List Participant). i < length l) items inside in
    let t : Participant = c.t-item.result in
    let is : t ≡ get_or s.list i t = c.t-item.is ∙ ap (λ (l : List Participant). get_or l i t) items in
    elim c.if-is_kept_by_least.branch [
      | then-is_kept_by_least+in_ok-push w ↦
          ap (λ (v : Vec (Bor Participant)). lent_ones v.items) w.tasks-is
          ∙ lent_more c.loop-t.tasks.items _ _ w.in_ok-push.ensures.items
          ∙ ap (λ (l : List Participant). l ++ t ∷ []) c.loop-t.invariant
          ∙ sym (more_passing (is_kept_waiting s) s.list i t within is (sym c.is_kept_by_least.ensures ∙ w.if-is_kept_by_least.true))
      | else-is_kept_by_least w ↦
          ap (λ (v : Vec (Bor Participant)). lent_ones v.items) w.tasks-is
          ∙ c.loop-t.invariant
          ∙ sym (more_failing (is_kept_waiting s) s.list i t within is (sym c.is_kept_by_least.ensures ∙ w.if-is_kept_by_least.false))
    ]
