-- Somebody new behind all others of the list.
use Rattle.std.proofs.Common.{◌≡◌, ℕ, ◌<◌, true, false, Option, Some, None, List, [], ◌∷◌, ◌++◌, length, get_or, set, take, ◌-◌, refl, sym, ◌∙◌, ap, subst, inl, inr, arith}
use Rattle.std.specs.Prelude.{Contains, bytes_eq, find, if◌then◌else◌}
use Rattle.std.specs.List.{list_any, remove}
use Rattle.std.specs.Option.{option_map}
use Rattle.std.proofs.Math.Seq.{get_or-append_seam, take-append_seam}
use Rattle.std.proofs.lemmas.Bool.{cases_Bool, cond-true, cond-false}
use Rattle.std.proofs.lemmas.List.{get_or_append_left, length-append, set_at}
use Rattle.std.proofs.lemmas.List.Elements.{Contains-append_cases, Contains-get_or}
use Rattle.std.proofs.lemmas.List.Folds.{list_any_at}
use Rattle.std.proofs.lemmas.Slice.Eq.{bytes_eq-Decides}
use Rattle.armus_base.proofs.Elements.{Contains-cons_cases, Contains-head, Contains-tail, nothing_in_nil}
use Rattle.monitor_laws.specs.States.{Participant, is_there_as, new_participant, stays_listed}
use Rattle.monitor_laws.specs.Lawful.{AreAscending}
use Rattle.monitor_state.specs.inside.Changes.{put_at, put_behind}
use Rattle.monitor_state.specs.inside.FirstPlaces.{IsFirstAt}
use Rattle.monitor_state.specs.inside.Numbers.{HasEachNameOnce}
use Rattle.monitor_state.specs.inside.Players.{participant_number}
use Rattle.monitor_state.proofs.OnePassing.{found_none}

only_one : (w v : Participant) → Contains (w ∷ []) v → w ≡ v
only_one w v listed = elim (Contains-cons_cases w [] v listed) [ inl here ↦ here | inr there ↦ absurd (nothing_in_nil v there) ]

ascending_push : (us : List Participant) (w : Participant) → AreAscending us → ((u : Participant) → Contains us u → u.number < w.number) → AreAscending (us ++ w ∷ [])
ascending_push [] w up above = (λ v listed. absurd (nothing_in_nil v listed), tt)
ascending_push (u ∷ us) w up above = (
  λ v listed. elim (Contains-append_cases us (w ∷ []) v listed) [ inl old ↦ up.0 v old | inr new ↦ subst (λ (x : Participant). u.number < x.number) (only_one w v new) (above u (Contains-head u us)) ],
  ascending_push us w up.1 (λ x listed. above x (Contains-tail u us x listed)),
)

removed_last : (us : List Participant) (w : Participant) → remove (us ++ w ∷ []) (length us) ≡ us
removed_last [] w = refl
removed_last (u ∷ us) w = ap (λ l. u ∷ l) (removed_last us w)

module _ (us : List Participant) (number : ℕ) (t : List ℕ) (none : list_any (is_there_as t) us ≡ false) where
  newcomer : Participant
  newcomer = new_participant number t

  nobody_there : (u : Participant) → Contains us u → is_there_as t u ≡ true → true ≡ false
  nobody_there u listed there = sym (list_any_at (is_there_as t) us listed.0 u listed.1 (subst (λ x. is_there_as t x ≡ true) (sym listed.2) there)) ∙ none

  named_so : (x : List ℕ) → is_there_as x (new_participant number t) ≡ true → x ≡ t
  named_so x there = (bytes_eq-Decides x t).0 there

  pub there_now : is_there_as t (new_participant number t) ≡ true
  there_now = (bytes_eq-Decides t t).1 refl

  pub order_behind : HasEachNameOnce us → ((u : Participant) → Contains us u → u.number < number) → HasEachNameOnce (us ++ new_participant number t ∷ [])
  order_behind order above = record {
    ascending = ascending_push us (new_participant number t) order.ascending above;
    one_name = λ x u v first second on too.
        elim (Contains-append_cases us (new_participant number t ∷ []) u first) [
          | inl old ↦ elim (Contains-append_cases us (new_participant number t ∷ []) v second) [
            | inl old_too ↦ order.one_name x u v old old_too on too
            | inr new ↦ absurd (
                let name : x ≡ t = named_so x (subst (λ y. is_there_as x y ≡ true) (sym (only_one (new_participant number t) v new)) too) in
                let e = nobody_there u old (subst (λ y. is_there_as y u ≡ true) name on) in
                cc)
          ]
          | inr new ↦ elim (Contains-append_cases us (new_participant number t ∷ []) v second) [
            | inl old ↦ absurd (
                let name : x ≡ t = named_so x (subst (λ y. is_there_as x y ≡ true) (sym (only_one (new_participant number t) u new)) on) in
                let e = nobody_there v old (subst (λ y. is_there_as y v ≡ true) name too) in
                cc)
            | inr new_too ↦ sym (only_one (new_participant number t) u new) ∙ only_one (new_participant number t) v new_too
          ]
        ];
  }

  pub first_behind : IsFirstAt (is_there_as t) (us ++ new_participant number t ∷ []) (length us)
  first_behind = record {
    within = let e = length-append us (new_participant number t ∷ []) in omega arith;
    before = λ k d less. elim (cases_Bool (is_there_as t (get_or (us ++ new_participant number t ∷ []) k d))) [
      | inr off ↦ off
      | inl on ↦ absurd (
          let there : is_there_as t (get_or us k d) ≡ true = subst (λ x. is_there_as t x ≡ true) (get_or_append_left us (new_participant number t ∷ []) d k less) on in
          let e = nobody_there (get_or us k d) (Contains-get_or us k d less) there in
          cc)
    ];
    here = λ d. subst (λ x. is_there_as t x ≡ true) (sym (get_or-append_seam us (new_participant number t) [] d)) there_now;
  }

  pub read_behind : new_participant number t ≡ get_or (us ++ new_participant number t ∷ []) (length us) (new_participant number t)
  read_behind = sym (get_or-append_seam us (new_participant number t) [] (new_participant number t))

  -- a name that is given back
  pub name_back : (x : List ℕ) (o : Option ℕ) → o ≡ (if bytes_eq t x then Some number else option_map participant_number (find (is_there_as x) us)) →
      (if bytes_eq t x then None else o) ≡ option_map participant_number (find (is_there_as x) us)
  name_back x o is = elim (cases_Bool (bytes_eq t x)) [
    | inl same ↦
        cond-true (bytes_eq t x) None o same
        ∙ sym (subst (λ y. option_map participant_number (find (is_there_as y) us) ≡ None) ((bytes_eq-Decides t x).0 same) (ap (option_map participant_number) (found_none (is_there_as t) us none)))
    | inr other ↦ cond-false (bytes_eq t x) None o other ∙ is ∙ cond-false (bytes_eq t x) (Some number) (option_map participant_number (find (is_there_as x) us)) other
  ]

pub put_last : (us : List Participant) (w v : Participant) → put_at (us ++ w ∷ []) (length us) v ≡ put_behind us v
put_last us w v = elim (cases_Bool (stays_listed v)) [
  | inl stays ↦
      cond-true (stays_listed v) (set (us ++ w ∷ []) (length us) v) (remove (us ++ w ∷ []) (length us)) stays ∙ set_at us w [] v (length us) refl
      ∙ sym (cond-true (stays_listed v) (us ++ v ∷ []) us stays)
  | inr goes ↦
      cond-false (stays_listed v) (set (us ++ w ∷ []) (length us) v) (remove (us ++ w ∷ []) (length us)) goes ∙ removed_last us w
      ∙ sym (cond-false (stays_listed v) (us ++ v ∷ []) us goes)
]

pub taken_last : {A : Type 0} (old us : List A) (w : A) (n : ℕ) → n ≡ length old → old ≡ us ++ w ∷ [] → take (n - 1) old ≡ us
taken_last old us w n long is =
    let longer = ap length is ∙ length-append us (w ∷ []) in
    let e : n - 1 ≡ length us = omega arith in
    ap (take (n - 1)) is ∙ ap (λ k. take k (us ++ w ∷ [])) e ∙ take-append_seam us (w ∷ [])
