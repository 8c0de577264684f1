use Rattle.std.proofs.Common.{◌≡◌, ◌<◌, List, get_or, None, sym, ◌∙◌, ap, subst}
use Rattle.std.specs.Prelude.{bytes_eq, find, if◌then◌else◌}
use Rattle.std.specs.Option.{option_map}
use Rattle.std.proofs.lemmas.Bool.{not-false, not-true}
use Rattle.std.proofs.lemmas.List.{get_or_default}
use Rattle.monitor_laws.specs.States.{Participant, is_there_as, new_participant}
use Rattle.monitor_state.specs.inside.Changes.{changed_value}
use Rattle.monitor_state.specs.inside.FirstPlaces.{IsFirstAt}
use Rattle.monitor_state.specs.inside.Numbers.{HasEachNameOnce}
use Rattle.monitor_state.specs.inside.Players.{participant_number}
use Rattle.monitor_state.proofs.ByName.{changed_name, changed_number, number_lost, numbers_kept}
use Rattle.monitor_state.proofs.IndexChanges.{indexed_at, reindexed_at}
use Rattle.monitor_state.proofs.WildcardCounts.{counted_changed, one_counted}
use Rattle.monitor_state.proofs.listing.Listing.change_at.Goals as goal

pub is_wildcard_at-requires : goal.is_wildcard_at-requires
is_wildcard_at-requires c = c.requires.first.within

pub without_one-others-requires : goal.without_one-others-requires
without_one-others-requires c =
    let us = c.self.inside.list.items in
    let first : IsFirstAt (is_there_as c.args.t.now) us c.args.at = subst (λ l. IsFirstAt (is_there_as c.args.t.now) l c.args.at) (sym c.self.view_is) c.requires.first in
    let u = get_or us c.args.at (new_participant 0 c.args.t.now) in
    let read : u ≡ get_or us c.args.at u = get_or_default us c.args.at (new_participant 0 c.args.t.now) u first.within in
    λ on.
    subst (λ k. 0 < k) (sym c.self.invariant.counted)
    (one_counted us c.args.at u first.within read (sym (c.is_wildcard_at.ensures u (read ∙ ap (λ (l : List Participant). get_or l c.args.at u) c.self.view_is)) ∙ on))

pub change_listed-requires-clause-indexed : goal.change_listed-requires-clause-indexed
change_listed-requires-clause-indexed c =
    let us = c.self.inside.list.items in
    let order : HasEachNameOnce us = subst HasEachNameOnce (sym c.self.view_is) c.requires.order in
    let first : IsFirstAt (is_there_as c.args.t.now) us c.args.at = subst (λ l. IsFirstAt (is_there_as c.args.t.now) l c.args.at) (sym c.self.view_is) c.requires.first in
    λ u read. indexed_at us c.args.at u order.ascending first.within read c.self.inside.index c.self.invariant.index

pub invariant_of-self-then-not-after : goal.invariant_of-self-then-not-after
invariant_of-self-then-not-after c =
    let us = c.self.inside.list.items in
    let t = c.args.t.now in
    let order : HasEachNameOnce us = subst HasEachNameOnce (sym c.self.view_is) c.requires.order in
    let first : IsFirstAt (is_there_as t) us c.args.at = subst (λ l. IsFirstAt (is_there_as t) l c.args.at) (sym c.self.view_is) c.requires.first in
    let u = get_or us c.args.at (new_participant 0 t) in
    let read : u ≡ get_or us c.args.at u = get_or_default us c.args.at (new_participant 0 t) u first.within in
    let v = changed_value c.args.change u in
    let away = sym (c.in_ok-after.ensures.there u read) ∙ not-true _ c.if-not-after.true in
    record {
      numbers = λ x.
          c.remove_number.ensures x ∙ ap (λ o. if bytes_eq t x then None else o) (c.self.invariant.numbers x)
          ∙ number_lost us order t c.args.at u v first read (changed_name c.args.change u) away x
          ∙ sym (ap (λ (l : List Participant). option_map participant_number (find (is_there_as x) l)) (c.in_ok-after.ensures.changed u read));
      index = reindexed_at us c.args.at u v order.ascending first.within read (changed_number c.args.change u) _ _ c.self.invariant.index (c.in_ok-after.ensures.indexed u read) _ (c.in_ok-after.ensures.changed u read);
      counted = counted_changed us _ c.args.at u v c.without_one-others.result c.self.inside.wildcards c.one_more_if-self-inside.result _ _ first.within read c.without_one-others.ensures c.self.invariant.counted
          (c.is_wildcard_at.ensures u (read ∙ ap (λ (l : List Participant). get_or l c.args.at u) c.self.view_is)) (c.in_ok-after.ensures.wildcard u read) c.one_more_if-self-inside.ensures
          (c.in_ok-after.ensures.changed u read);
    }

pub invariant_of-self-else-not-after : goal.invariant_of-self-else-not-after
invariant_of-self-else-not-after c =
    let us = c.self.inside.list.items in
    let t = c.args.t.now in
    let order : HasEachNameOnce us = subst HasEachNameOnce (sym c.self.view_is) c.requires.order in
    let first : IsFirstAt (is_there_as t) us c.args.at = subst (λ l. IsFirstAt (is_there_as t) l c.args.at) (sym c.self.view_is) c.requires.first in
    let u = get_or us c.args.at (new_participant 0 t) in
    let read : u ≡ get_or us c.args.at u = get_or_default us c.args.at (new_participant 0 t) u first.within in
    let v = changed_value c.args.change u in
    let there = sym (c.in_ok-after.ensures.there u read) ∙ not-false _ c.if-not-after.false in
    record {
      numbers = λ x.
          c.self.invariant.numbers x
          ∙ sym (numbers_kept us order t c.args.at u v first read (changed_name c.args.change u) (changed_number c.args.change u) there x)
          ∙ sym (ap (λ (l : List Participant). option_map participant_number (find (is_there_as x) l)) (c.in_ok-after.ensures.changed u read));
      index = reindexed_at us c.args.at u v order.ascending first.within read (changed_number c.args.change u) _ _ c.self.invariant.index (c.in_ok-after.ensures.indexed u read) _ (c.in_ok-after.ensures.changed u read);
      counted = counted_changed us _ c.args.at u v c.without_one-others.result c.self.inside.wildcards c.one_more_if-self-inside.result _ _ first.within read c.without_one-others.ensures c.self.invariant.counted
          (c.is_wildcard_at.ensures u (read ∙ ap (λ (l : List Participant). get_or l c.args.at u) c.self.view_is)) (c.in_ok-after.ensures.wildcard u read) c.one_more_if-self-inside.ensures
          (c.in_ok-after.ensures.changed u read);
    }
