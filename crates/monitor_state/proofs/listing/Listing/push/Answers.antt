use Rattle.std.proofs.Common.{◌≡◌, ◌++◌, ◌∷◌, [], false, rules, List, Some, refl, sym, ◌∙◌, ap}
use Rattle.std.specs.Prelude.{bytes_eq, find, if◌then◌else◌, sum_by}
use Rattle.std.specs.List.{list_any}
use Rattle.std.specs.Option.{option_map}
use Rattle.monitor_laws.specs.States.{Participant, is_there_as, new_participant}
use Rattle.monitor_state.specs.inside.Listings.{wildcards_in}
use Rattle.monitor_state.specs.inside.Players.{participant_number}
use Rattle.monitor_state.proofs.ByName.{number_pushed}
use Rattle.monitor_state.proofs.IndexChanges.{pushed_index}
use Rattle.monitor_state.proofs.Newcomers.{there_now}
use Rattle.monitor_state.proofs.WildcardCounts.{counted_pushed}
use Rattle.monitor_state.proofs.listing.Listing.push.Goals as goal

pub invariant_of-self-in-Ok : goal.invariant_of-self-in-Ok
invariant_of-self-in-Ok c =
    let us = c.self.inside.list.items in
    let t = c.args.t.now in
    let w = new_participant c.args.number t in
    let behind : c.push.new.self.items ≡ us ++ c.in_ok-participant.participant ∷ [] = search rules in
    let pushed : c.push.new.self.items ≡ us ++ w ∷ [] = behind ∙ ap (λ (x : Participant). us ++ x ∷ []) c.in_ok-participant.ensures in
    let none : list_any (is_there_as t) us ≡ false = ap (list_any (is_there_as t)) c.self.view_is ∙ c.requires in
    record {
      numbers = λ x.
          c.in-Ok.ensures.put x
          ∙ ap (λ o. if bytes_eq t x then Some c.args.number else o) (c.self.invariant.numbers x)
          ∙ number_pushed us t w refl none (there_now us c.args.number t none) x
          ∙ sym (ap (λ (l : List Participant). option_map participant_number (find (is_there_as x) l)) pushed);
      index = pushed_index us c.push.new.self.items c.args.number t c.self.inside.index c.self.invariant.index pushed;
      counted = c.self.invariant.counted ∙ sym (counted_pushed us c.args.number t) ∙ sym (ap (sum_by wildcards_in) pushed);
    }
