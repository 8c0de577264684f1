use Rattle.std.proofs.Common.{rules}
use Rattle.std.proofs.lemmas.List.Sorted.{IsNonDecreasingBy-from_sort_by_key}
use Rattle.sites.proofs.Gathered.{sorted_are_all}
use Rattle.sites.proofs.checking.in_order.Goals as goal

pub returns : goal.returns
returns c = λ rows gathered.
    sorted_are_all c.args.sites rows c.args.all.items c.sort_by_key.new.self.items c.requires.some c.requires.few gathered c.sort_by_key.ensures.permutation
    (IsNonDecreasingBy-from_sort_by_key (λ s. s.t.0) _ c.in_ok-sort_by_key.ensures.sorted (λ a r q k. search rules))
