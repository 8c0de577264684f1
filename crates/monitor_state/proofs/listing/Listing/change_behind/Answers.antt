use Rattle.std.proofs.Common.{◌≡◌, ◌++◌, ◌∷◌, [], rules, List, length, sym, ◌∙◌, ap, subst}
use Rattle.monitor_laws.specs.States.{Participant, is_there_as, new_participant}
use Rattle.std.specs.Prelude.{slice_index_or}
use Rattle.monitor_state.specs.inside.Changes.{changed_value, put_at}
use Rattle.monitor_state.specs.inside.FirstPlaces.{IsFirstAt}
use Rattle.monitor_state.specs.inside.Numbers.{HasEachNameOnce}
use Rattle.monitor_state.proofs.Newcomers.{first_behind, order_behind, put_last, read_behind}
use Rattle.monitor_state.proofs.listing.Listing.change_behind.Goals as goal

pub change_at-requires-clause-order : goal.change_at-requires-clause-order
change_at-requires-clause-order c =
    subst HasEachNameOnce (sym c.in_ok-push.ensures.pushed) (order_behind c.args.self.now c.args.number c.args.t.now c.requires.nobody c.requires.order c.requires.above)

pub change_at-requires-clause-first : goal.change_at-requires-clause-first
change_at-requires-clause-first c =
    let at : c.len-at.result ≡ length c.args.self.now = search rules in
    subst (λ i. IsFirstAt (is_there_as c.args.t.now) c.push.new.self i) (sym at)
    (subst (λ (l : List Participant). IsFirstAt (is_there_as c.args.t.now) l (length c.args.self.now)) (sym c.in_ok-push.ensures.pushed)
    (first_behind c.args.self.now c.args.number c.args.t.now c.requires.nobody))

pub returns-in-Ok-clause-changed : goal.returns-in-Ok-clause-changed
returns-in-Ok-clause-changed c =
    let us = c.args.self.now in
    let w = new_participant c.args.number c.args.t.now in
    let v = changed_value c.args.change w in
    let at : c.len-at.result ≡ length us = search rules in
    let read : w ≡ slice_index_or c.push.new.self c.len-at.result w =
    read_behind us c.args.number c.args.t.now c.requires.nobody
    ∙ ap (λ (l : List Participant). slice_index_or l (length us) w) (sym c.in_ok-push.ensures.pushed) ∙ ap (λ i. slice_index_or c.push.new.self i w) (sym at) in
    c.in-Ok.ensures.changed w read ∙ ap (λ (l : List Participant). put_at l c.len-at.result v) c.in_ok-push.ensures.pushed ∙ ap (λ i. put_at (us ++ w ∷ []) i v) at ∙ put_last us w v
