-- Whether somebody of the list is a stuck task with a name.
use Rattle.std.proofs.Common.{◌≡◌, ◌<◌, ℕ, true, false, List, [], length, get_or, sym, ◌∙◌, ap, inl, inr, arith}
use Rattle.std.specs.List.{list_any}
use Rattle.std.proofs.lemmas.Bool.{and_from, and_parts, cases_Bool}
use Rattle.std.proofs.lemmas.List.{get_or_read}
use Rattle.std.proofs.lemmas.List.Elements.{Contains-get_or}
use Rattle.monitor_laws.specs.Lawful.{IsLawfulState}
use Rattle.monitor_laws.specs.States.{Participant, TraceState, is_there_as, new_participant}
use Rattle.monitor_laws.proofs.Filters.{any_from, any_is}
use Rattle.monitor_state.specs.inside.FirstPlaces.{IsFirstAt}
use Rattle.monitor_reasons.specs.Found.{participant_at}
use Rattle.monitor_search.specs.Known.{has_stuck_number}
use Rattle.monitor_messages.specs.inside.Guarded.{is_stuck_as}

-- where nobody is there with the name
pub none_stuck : (list : List Participant) (stuck : List (ℕ × List ℕ)) (t : List ℕ) → list_any (is_there_as t) list ≡ false → list_any (is_stuck_as stuck t) list ≡ false
none_stuck list stuck t none = elim (cases_Bool (list_any (is_stuck_as stuck t) list)) [
  | inr off ↦ off
  | inl on ↦
      absurd (let u = any_is (is_stuck_as stuck t) list on in
      let some = any_from (is_there_as t) list u.0 u.1 (and_parts (is_there_as t u.0) (has_stuck_number stuck u.0.number) u.2).0 in
      cc)
]

-- where somebody is there with it: u is read at the place of the first
module _ (s : TraceState) (lawful : IsLawfulState s) (stuck : List (ℕ × List ℕ)) (t : List ℕ) (i : ℕ) (first : IsFirstAt (is_there_as t) s.list i)
    (us : List Participant) (same : us ≡ s.list) (u : Participant) (read : u ≡ get_or us i u) where
  abbrev here : Participant
  here = participant_at s.list i

  stuck_is : has_stuck_number stuck here.number ≡ has_stuck_number stuck u.number
  stuck_is =
      let within : i < length us = (let lt = first.within in let e = ap length same in omega arith) in
      ap (λ (x : Participant). has_stuck_number stuck x.number)
      (sym (get_or_read us i u within read (new_participant 0 []) ∙ ap (λ (l : List Participant). participant_at l i) same))

  pub one_stuck : has_stuck_number stuck u.number ≡ true → (i < length s.list) × (is_stuck_as stuck t here ≡ true)
  one_stuck on = (first.within, and_from (is_there_as t here) (has_stuck_number stuck here.number) (first.here (new_participant 0 [])) (stuck_is ∙ on))

  pub one_not_stuck : has_stuck_number stuck u.number ≡ false → list_any (is_stuck_as stuck t) s.list ≡ false
  one_not_stuck off = elim (cases_Bool (list_any (is_stuck_as stuck t) s.list)) [
    | inr none ↦ none
    | inl on ↦
        absurd (let v = any_is (is_stuck_as stuck t) s.list on in
        let parts = and_parts (is_there_as t v.0) (has_stuck_number stuck v.0.number) v.2 in
        let own = lawful.one_name t v.0 here v.1 (Contains-get_or s.list i (new_participant 0 []) first.within) parts.0 (first.here (new_participant 0 [])) in
        let e = ap (λ (x : Participant). has_stuck_number stuck x.number) own ∙ stuck_is ∙ off in
        let f = parts.1 in
        cc)
  ]
