-- Where the list has no wildcard that is not gone, nobody passes a test that only such pass.
use Rattle.std.proofs.Common.{◌≡◌, Bool, true, false, List, refl, sym, inl, inr}
use Rattle.std.specs.List.{list_any}
use Rattle.std.proofs.lemmas.Bool.{cases_Bool}
use Rattle.monitor_laws.specs.States.{Condition, Running, Waiting, Ended, AnyTask, OneOf, Participant, is_live_wildcard}
use Rattle.monitor_laws.proofs.Filters.{any_from, any_is}
use Rattle.monitor_search.specs.inside.Leaving.{asks_for_ended, is_for_any}

none_of_them : (list : List Participant) (test : Participant → Bool) → ((u : Participant) → test u ≡ true → is_live_wildcard u.condition ≡ true) →
    list_any (λ u. is_live_wildcard u.condition) list ≡ false → false ≡ list_any test list
none_of_them list test wild none = elim (cases_Bool (list_any test list)) [
  | inr off ↦ sym off
  | inl on ↦ absurd (let u = any_is test list on in let e = any_from (λ v. is_live_wildcard v.condition) list u.0 u.1 (wild u.0 u.2) in cc)
]

for_any_wild : (c : Condition) → is_for_any c ≡ true → is_live_wildcard c ≡ true
for_any_wild Running on = absurd (cc)
for_any_wild (Waiting p n) on = absurd (cc)
for_any_wild Ended on = absurd (cc)
for_any_wild AnyTask on = refl
for_any_wild (OneOf names tasks) on = refl

asks_wild : (list : List Participant) (c : Condition) → asks_for_ended list c ≡ true → is_live_wildcard c ≡ true
asks_wild list Running on = absurd (cc)
asks_wild list (Waiting p n) on = absurd (cc)
asks_wild list Ended on = absurd (cc)
asks_wild list AnyTask on = refl
asks_wild list (OneOf names tasks) on = refl

pub none_for_any : (list : List Participant) → list_any (λ u. is_live_wildcard u.condition) list ≡ false → false ≡ list_any (λ u. is_for_any u.condition) list
none_for_any list = none_of_them list (λ u. is_for_any u.condition) (λ u. for_any_wild u.condition)

pub none_asks : (list : List Participant) → list_any (λ u. is_live_wildcard u.condition) list ≡ false → false ≡ list_any (λ v. asks_for_ended list v.condition) list
none_asks list = none_of_them list (λ v. asks_for_ended list v.condition) (λ v. asks_wild list v.condition)
