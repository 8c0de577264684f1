-- What the index of members tells of those who wait for somebody.
use Rattle.std.proofs.Common.{◌≡◌, ◌==◌, ℕ, ◌<◌, ◌+◌, length, take, get_or, true, false, not, Some, List, [], ◌∷◌, ◌++◌, refl, sym, ◌∙◌, ap, subst, inl, inr, ◌⊎◌}
use Rattle.std.specs.Prelude.{Contains, bytes_eq, nat_lt}
use Rattle.std.specs.List.{list_any}
use Rattle.std.specs.Map.{lookup}
use Rattle.std.proofs.lemmas.Bool.{and_from, and_parts, cases_Bool, cond-true, cond-false}
use Rattle.std.proofs.lemmas.List.{take_more}
use Rattle.std.proofs.lemmas.List.Elements.{Contains-append_cases}
use Rattle.armus_base.proofs.Elements.{Contains-cons_cases, Contains-head, Contains-tail, nothing_in_nil}
use Rattle.monitor_laws.specs.States.{Condition, Running, Waiting, Ended, AnyTask, OneOf, Participant, is_live_wildcard}
use Rattle.monitor_laws.specs.Stuck.{has_phase_below, is_phase_below}
use Rattle.monitor_laws.proofs.Filters.{any_is, none_passes}
use Rattle.monitor_state.specs.Indexes.{is_wait_above, waits_above}
use Rattle.monitor_search.specs.Known.{has_stuck_number}
use Rattle.monitor_search.specs.inside.Waits.{NobodyAwaits, needs_in, needs_other}

-- the first of a list, where it has the name, and else the rest
found_here : (q : List ℕ) (m : List ℕ × ℕ) (ms : List (List ℕ × ℕ)) → bytes_eq q m.0 ≡ true → lookup (bytes_eq q) (m ∷ ms) ≡ Some m.1
found_here q m ms here = cond-true (bytes_eq q m.0) (Some m.1) (lookup (bytes_eq q) ms) here

found_later : (q : List ℕ) (m : List ℕ × ℕ) (ms : List (List ℕ × ℕ)) → bytes_eq q m.0 ≡ false → lookup (bytes_eq q) (m ∷ ms) ≡ lookup (bytes_eq q) ms
found_later q m ms other = cond-false (bytes_eq q m.0) (Some m.1) (lookup (bytes_eq q) ms) other

-- a phase that is looked up is one of the phases
pub phase_is_one : (phases : List (List ℕ × ℕ)) (q : List ℕ) (n : ℕ) → is_phase_below (lookup (bytes_eq q) phases) n ≡ true → (m : List ℕ × ℕ) × Contains phases m × (bytes_eq q m.0 ≡ true) × (nat_lt m.1 n ≡ true)
phase_is_one [] q n below = absurd (cc)
phase_is_one (m ∷ ms) q n below = by_test (phase_is_one ms q n) (cases_Bool (bytes_eq q m.0))
  where
    by_test : (is_phase_below (lookup (bytes_eq q) ms) n ≡ true → (k : List ℕ × ℕ) × Contains ms k × (bytes_eq q k.0 ≡ true) × (nat_lt k.1 n ≡ true)) →
        ((bytes_eq q m.0 ≡ true) ⊎ (bytes_eq q m.0 ≡ false)) → (k : List ℕ × ℕ) × Contains (m ∷ ms) k × (bytes_eq q k.0 ≡ true) × (nat_lt k.1 n ≡ true)
    by_test rest (inl here) = (m, Contains-head m ms, here, sym (ap (λ o. is_phase_below o n) (found_here q m ms here)) ∙ below)
    by_test rest (inr other) =
        let k = rest (sym (ap (λ o. is_phase_below o n) (found_later q m ms other)) ∙ below) in
        (k.0, Contains-tail m ms k.0 k.1, k.2, k.3)

-- where nobody waits for it, and there is no wildcard, nobody else needs it
pub none_needs : (list : List Participant) (known : List (ℕ × List ℕ)) (u : Participant) → NobodyAwaits list u.phases → list_any (λ v. is_live_wildcard v.condition) list ≡ false →
    false ≡ list_any (needs_other list known u) list
none_needs list known u nobody no_wildcard = elim (cases_Bool (list_any (needs_other list known u) list)) [
  | inr off ↦ sym off
  | inl on ↦
      absurd (let v = any_is (needs_other list known u) list on in
      let parts = and_parts (not (v.0.number == u.number)) (needs_in list known u v.0.number v.0.condition) v.2 in
      by_condition v.0 v.1 v.0.condition refl parts.1)
]
  where
    by_condition : (v : Participant) → Contains list v → (c : Condition) → v.condition ≡ c → needs_in list known u v.number c ≡ true → ⊥
    by_condition v within Running same needs = absurd (cc)
    by_condition v within (Waiting q n) same needs =
        let below = (and_parts (has_phase_below u q n) (not (has_stuck_number known v.number)) needs).0 in
        let m = phase_is_one u.phases q n below in
        let none : waits_above m.0.0 m.0.1 v ≡ false = none_passes (waits_above m.0.0 m.0.1) list v within (nobody m.0 m.1) in
        let on = ap (is_wait_above m.0.0 m.0.1) same ∙ and_from (bytes_eq q m.0.0) (nat_lt m.0.1 n) m.2 m.3 in
        absurd (cc)
    by_condition v within Ended same needs = absurd (cc)
    by_condition v within AnyTask same needs = let wild = ap is_live_wildcard same in let none = none_passes (λ x. is_live_wildcard x.condition) list v within no_wildcard in absurd (cc)
    by_condition v within (OneOf names tasks) same needs = let wild = ap is_live_wildcard same in let none = none_passes (λ x. is_live_wildcard x.condition) list v within no_wildcard in absurd (cc)

-- one phase more for which nobody waits
pub awaited_more : (list : List Participant) (items : List (List ℕ × ℕ)) (i : ℕ) (m : List ℕ × ℕ) → i < length items → m ≡ get_or items i m → list_any (waits_above m.0 m.1) list ≡ false →
    NobodyAwaits list (take i items) → NobodyAwaits list (take (i + 1) items)
awaited_more list items i m within is none before k listed =
    elim (Contains-append_cases (take i items) (m ∷ []) k (subst (λ l. Contains l k) (take_more items i m within ∙ ap (λ (x : List ℕ × ℕ). take i items ++ x ∷ []) (sym is)) listed)) [
      | inl old ↦ before k old
      | inr new ↦ elim (Contains-cons_cases m [] k new) [
        | inl here ↦ subst (λ x. list_any (waits_above x.0 x.1) list ≡ false) here none
        | inr there ↦ absurd (nothing_in_nil k there)
      ]
    ]
