-- What stands in the list after a change.
use Rattle.std.proofs.Common.{◌≡◌, ℕ, ◌+◌, true, false, List, [], ◌∷◌, ◌++◌, sym, ap, subst, inl, inr, ◌⊎◌}
use Rattle.std.specs.Prelude.{Contains, map, if◌then◌else◌}
use Rattle.std.specs.List.{list_any}
use Rattle.std.proofs.lemmas.Bool.{cases_Bool, cond-true, cond-false}
use Rattle.std.proofs.lemmas.List.Elements.{Contains-append_cases, Contains-append_left}
use Rattle.armus_base.proofs.Elements.{Contains-cons_cases, nothing_in_nil, in_map, from_map}
use Rattle.monitor_laws.specs.States.{Participant, TraceState, changed_by, is_there_as, new_participant, stays_listed, with_named}
use Rattle.monitor_laws.proofs.Filters.{from_filter, in_filter}

-- who is there with the name is changed
abbrev pub changed_there : List ℕ → (Participant → Participant) → Participant → Participant
changed_there t change u = if is_there_as t u then change u else u

-- somebody of the list after a change comes from somebody before it
pub from_change : (change : Participant → Participant) (s : TraceState) (v : Participant) → Contains (changed_by change s).list v → (u : Participant) × Contains s.list u × (change u ≡ v) × (stays_listed v ≡ true)
from_change change s v within =
    let f = from_filter stays_listed (map change s.list) v within in
    let m = from_map change s.list v f.0 in
    (m.0, m.1, m.2, f.1)

pub in_change : (change : Participant → Participant) (s : TraceState) (u : Participant) → Contains s.list u → stays_listed (change u) ≡ true → Contains (changed_by change s).list (change u)
in_change change s u within stays = in_filter stays_listed (map change s.list) (change u) (in_map change s.list u within) stays

-- the list with somebody new
pub from_named : (s : TraceState) (t : List ℕ) (u : Participant) → Contains (with_named s t).list u → Contains s.list u ⊎ ((list_any (is_there_as t) s.list ≡ false) × (u ≡ new_participant s.named t))
from_named s t u within = by_test (cases_Bool (list_any (is_there_as t) s.list))
  where
    more : TraceState
    more = record { list = s.list ++ new_participant s.named t ∷ []; named = s.named + 1 }

    by_test : ((list_any (is_there_as t) s.list ≡ true) ⊎ (list_any (is_there_as t) s.list ≡ false)) → Contains s.list u ⊎ ((list_any (is_there_as t) s.list ≡ false) × (u ≡ new_participant s.named t))
    by_test (inl there) = inl (subst (λ (x : TraceState). Contains x.list u) (cond-true (list_any (is_there_as t) s.list) s more there) within)
    by_test (inr none) =
        elim (Contains-append_cases s.list (new_participant s.named t ∷ []) u (subst (λ (x : TraceState). Contains x.list u) (cond-false (list_any (is_there_as t) s.list) s more none) within)) [
          | inl old ↦ inl old
          | inr new ↦ inr (none, elim (Contains-cons_cases (new_participant s.named t) [] u new) [ inl here ↦ sym here | inr there ↦ absurd (nothing_in_nil u there) ])
        ]

pub in_named : (s : TraceState) (t : List ℕ) (u : Participant) → Contains s.list u → Contains (with_named s t).list u
in_named s t u within = elim (cases_Bool (list_any (is_there_as t) s.list)) [
  | inl there ↦ subst (λ (x : TraceState). Contains x.list u) (sym (cond-true (list_any (is_there_as t) s.list) s (record { list = s.list ++ new_participant s.named t ∷ []; named = s.named + 1 }) there)) within
  | inr none ↦ subst (λ (x : TraceState). Contains x.list u) (sym (cond-false (list_any (is_there_as t) s.list) s (record { list = s.list ++ new_participant s.named t ∷ []; named = s.named + 1 }) none)) (Contains-append_left s.list (new_participant s.named t ∷ []) u within)
]

-- how many were named grows
pub named_grows : (s : TraceState) (t : List ℕ) → ((list_any (is_there_as t) s.list ≡ true) × ((with_named s t).named ≡ s.named)) ⊎ ((list_any (is_there_as t) s.list ≡ false) × ((with_named s t).named ≡ s.named + 1))
named_grows s t = elim (cases_Bool (list_any (is_there_as t) s.list)) [
  | inl there ↦ inl (there, ap (λ (x : TraceState). x.named) (cond-true (list_any (is_there_as t) s.list) s (record { list = s.list ++ new_participant s.named t ∷ []; named = s.named + 1 }) there))
  | inr none ↦ inr (none, ap (λ (x : TraceState). x.named) (cond-false (list_any (is_there_as t) s.list) s (record { list = s.list ++ new_participant s.named t ∷ []; named = s.named + 1 }) none))
]

-- whoever is there with the name is changed, and nobody else
pub there_is : (t : List ℕ) (change : Participant → Participant) (u : Participant) → is_there_as t u ≡ true → changed_there t change u ≡ change u
there_is t change u there = cond-true (is_there_as t u) (change u) u there

pub other_is : (t : List ℕ) (change : Participant → Participant) (u : Participant) → is_there_as t u ≡ false → changed_there t change u ≡ u
other_is t change u other = cond-false (is_there_as t u) (change u) u other
