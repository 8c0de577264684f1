use Rattle.std.proofs.Common.{◌≡◌, List, None, map, sym, ◌∙◌, ap, subst}
use Rattle.std.specs.Prelude.{eqb, filter, find, if◌then◌else◌, sum_by}
use Rattle.std.specs.List.{starts_with}
use Rattle.std.specs.Option.{option_map}
use Rattle.monitor_laws.specs.States.{Participant, gone_by, is_there_as, stays_listed}
use Rattle.monitor_state.specs.Indexes.{IsIndexOf}
use Rattle.monitor_state.specs.inside.Listings.{wildcards_in}
use Rattle.monitor_state.specs.inside.Players.{participant_number}
use Rattle.monitor_state.proofs.ByName.{numbers_gone}
use Rattle.monitor_state.proofs.WildcardCounts.{counted_all}
use Rattle.monitor_state.proofs.listing.Listing.go_all.Goals as goal

pub invariant_of-self : goal.invariant_of-self
invariant_of-self c =
    let list : c.keep_listed.new.list.items ≡ filter stays_listed (map (gone_by c.args.beginning.now) c.self.inside.list.items) = c.keep_listed.ensures ∙ ap (filter stays_listed) c.end_all.ensures in
    record {
      numbers = λ x.
          c.remove_numbers.ensures x ∙ ap (λ o. if starts_with eqb x c.args.beginning.now then None else o) (c.self.invariant.numbers x)
          ∙ numbers_gone c.args.beginning.now c.self.inside.list.items x
          ∙ sym (ap (λ (l : List Participant). option_map participant_number (find (is_there_as x) l)) list);
      index = subst (λ (l : List Participant). IsIndexOf l c.in_ok-index.index) (sym list)
          (subst (λ (l : List Participant). IsIndexOf (filter stays_listed (map (gone_by c.args.beginning.now) l)) c.in_ok-index.index) c.deref.ensures.value c.in_ok-index.ensures);
      counted = c.wildcards_of-self-inside.ensures ∙ counted_all c.deref-2.result.now ∙ ap (sum_by wildcards_in) c.deref-2.ensures.value;
    }
