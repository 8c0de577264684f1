use Rattle.std.proofs.Common.{◌≡◌, ◌++◌, ◌∷◌, [], rules, List, length, false, refl, sym, ◌∙◌, ap, subst}
use Rattle.std.specs.Prelude.{find, sum_by}
use Rattle.std.specs.List.{list_any}
use Rattle.std.specs.Option.{option_map}
use Rattle.monitor_laws.specs.States.{Participant, is_there_as, new_participant}
use Rattle.monitor_state.specs.inside.Listings.{IsListing, wildcards_in}
use Rattle.monitor_state.specs.inside.Numbers.{number_by_name}
use Rattle.monitor_state.specs.inside.Players.{participant_number}
use Rattle.monitor_state.proofs.ByName.{number_pushed}
use Rattle.monitor_state.proofs.IndexChanges.{popped_index}
use Rattle.monitor_state.proofs.Newcomers.{name_back, taken_last, there_now}
use Rattle.monitor_state.proofs.WildcardCounts.{counted_pushed}
use Rattle.monitor_state.proofs.listing.Listing.pop.Goals as goal

pub invariant_of-self : goal.invariant_of-self
invariant_of-self c =
    let us = c.requires.0 in
    let number = c.requires.1 in
    let t = c.args.t.now in
    let w = new_participant number t in
    let is : c.self.inside.list.items ≡ us ++ w ∷ [] = c.self.view_is ∙ c.requires.2 in
    let none : list_any (is_there_as t) us ≡ false = c.requires.3 in
    let long : c.self.inside.list.len ≡ length c.self.inside.list.items = search rules in
    let popped : c.pop.new.self.items ≡ us = c.pop.ensures.rest ∙ taken_last c.self.inside.list.items us w c.self.inside.list.len long is in
    subst (λ l. IsListing l (number_by_name c.remove_number.new.numbers) c.self.inside.index c.self.inside.wildcards) (sym popped) (record {
      numbers = λ x.
          c.remove_number.ensures x
          ∙ name_back us number t none x _
          (c.self.invariant.numbers x ∙ ap (λ (l : List Participant). option_map participant_number (find (is_there_as x) l)) is
          ∙ sym (number_pushed us t w refl none (there_now us number t none) x));
      index = popped_index us c.self.inside.list.items number t c.self.inside.index c.self.invariant.index is;
      counted = c.self.invariant.counted ∙ ap (sum_by wildcards_in) is ∙ counted_pushed us number t;
    })
