-- A line of who is there with a name changes nobody else.
use Rattle.std.proofs.Common.{◌≡◌, ℕ, ◌+◌, Bool, true, false, List, [], ◌∷◌, ◌++◌, map, refl, sym, ◌∙◌, ap, subst, ◌⊎◌, inl, inr, arith}
use Rattle.std.specs.Prelude.{Contains, filter}
use Rattle.std.specs.List.{list_any}
use Rattle.std.proofs.lemmas.Bool.{cases_Bool, cond-true, cond-false}
use Rattle.std.proofs.lemmas.Slice.Eq.{bytes_eq-Decides}
use Rattle.std.proofs.lemmas.List.{append-nil}
use Rattle.std.proofs.lemmas.List.Elements.{Contains-append_cases, filter-append}
use Rattle.armus_base.proofs.Elements.{Contains-cons_cases, Contains-head, Contains-tail, nothing_in_nil}
use Rattle.monitor_laws.specs.States.{Participant, TraceState, changed_at, is_there_as, new_participant, stays_listed, with_named}
use Rattle.monitor_laws.proofs.Changes.{changed_there, from_change, from_named, in_change, in_named, other_is, there_is}
use Rattle.monitor_laws.proofs.Filters.{none_passes}
use Rattle.monitor_laws.proofs.Lawful.{IsLawfulState}
use Rattle.monitor_laws.proofs.OwnLines.{kept, left_out}

module _ (s : TraceState) (lawful : IsLawfulState s) (t : List ℕ) (change : Participant → Participant) (number : (u : Participant) → (change u).number ≡ u.number) where
  abbrev after : TraceState
  after = changed_at t change s

  new_is_there : is_there_as t (new_participant s.named t) ≡ true
  new_is_there = (bytes_eq-Decides t t).1 refl

  -- who is there after it, as he was
  pub record WasThere (u : Participant) : Type 0 where
    pub was : Participant
    pub is : change was ≡ u
    pub there : is_there_as t was ≡ true
    pub from : Contains s.list was ⊎ ((list_any (is_there_as t) s.list ≡ false) × (was ≡ new_participant s.named t))

  pub was_there : (u : Participant) → Contains after.list u → is_there_as t u ≡ true → WasThere u
  was_there u within there =
      let m = from_change (changed_there t change) (with_named s t) u within in
      elim (cases_Bool (is_there_as t m.0)) [
        | inl on ↦ record { was = m.0; is = sym (there_is t change m.0 on) ∙ m.2; there = on; from = from_named s t m.0 m.1 }
        | inr off ↦ absurd (let e = ap (is_there_as t) (sym (other_is t change m.0 off) ∙ m.2) in cc)
      ]

  module _ (u : Participant) (old : WasThere u) where
    pub same_number : u.number ≡ old.was.number
    same_number = ap (λ (x : Participant). x.number) (sym old.is) ∙ number old.was

    -- whoever was there with the name is the same
    pub one_there : (v : Participant) → (Contains s.list v ⊎ ((list_any (is_there_as t) s.list ≡ false) × (v ≡ new_participant s.named t))) → is_there_as t v ≡ true → v ≡ old.was
    one_there v from there = elim from [
      | inl within ↦ elim old.from [
        | inl too ↦ lawful.one_name t v old.was within too there old.there
        | inr new ↦ absurd (let none = none_passes (is_there_as t) s.list v within new.0 in cc)
      ]
      | inr new ↦ elim old.from [
        | inl too ↦ absurd (let none = none_passes (is_there_as t) s.list old.was too new.0 in let o = old.there in cc)
        | inr also ↦ new.1 ∙ sym also.1
      ]
    ]

    pub others_were : (v : Participant) → Contains after.list v → (v.number ≡ u.number → ⊥) → Contains s.list v
    others_were v within different =
        let m = from_change (changed_there t change) (with_named s t) v within in
        elim (cases_Bool (is_there_as t m.0)) [
          | inl on ↦
              absurd (let same = one_there m.0 (from_named s t m.0 m.1) on in
              different (ap (λ (x : Participant). x.number) (sym m.2 ∙ there_is t change m.0 on ∙ ap change same ∙ old.is)))
          | inr off ↦ elim (from_named s t m.0 m.1) [
            | inl within_s ↦ subst (Contains s.list) (sym (other_is t change m.0 off) ∙ m.2) within_s
            | inr new ↦ absurd (let e = ap (is_there_as t) new.1 in let f = new_is_there in cc)
          ]
        ]

    pub others_are : (v : Participant) → Contains s.list v → (v.number ≡ u.number → ⊥) → Contains after.list v
    others_are v within different =
        let off : is_there_as t v ≡ false = elim (cases_Bool (is_there_as t v)) [
          | inl on ↦ absurd (different (ap (λ (x : Participant). x.number) (one_there v (inl within) on) ∙ sym same_number))
          | inr other ↦ other
        ] in
        let same = other_is t change v off in
        subst (Contains after.list) same
        (in_change (changed_there t change) (with_named s t) v (in_named s t v within) (subst (λ x. stays_listed x ≡ true) (sym same) (lawful.stays v within)))

    -- who had the number before
    pub had_number : (x : Participant) → Contains s.list x → x.number ≡ u.number → x ≡ old.was
    had_number x within same = elim old.from [
      | inl too ↦ lawful.one_number x old.was within too (same ∙ same_number)
      | inr new ↦ absurd (let n = lawful.numbers x within in let e = ap (λ (y : Participant). y.number) new.1 in let f = same_number in omega arith)
    ]

    pub new_number : old.was ≡ new_participant s.named t → u.number ≡ s.named
    new_number new = same_number ∙ ap (λ (y : Participant). y.number) new

  -- who passes a test that nobody new passes and nobody who is there with the name, passes it after the line
  passed_after : (p : Participant → Bool) → ((x : Participant) → p (change x) ≡ p x) → (xs : List Participant) →
      ((x : Participant) → Contains xs x → p x ≡ true → (is_there_as t x ≡ false) × (stays_listed x ≡ true)) →
      filter p (filter stays_listed (map (changed_there t change) xs)) ≡ filter p xs
  passed_after p same [] clean = refl
  passed_after p same (x ∷ xs) clean = by_test (passed_after p same xs (λ y within. clean y (Contains-tail x xs y within))) (cases_Bool (p x)) (cases_Bool (stays_listed (changed_there t change x)))
    where
      now : Participant
      now = changed_there t change x

      p_now : p now ≡ p x
      p_now = elim (cases_Bool (is_there_as t x)) [
        | inl on ↦ ap p (there_is t change x on) ∙ same x
        | inr off ↦ ap p (other_is t change x off)
      ]

      by_test : filter p (filter stays_listed (map (changed_there t change) xs)) ≡ filter p xs → ((p x ≡ true) ⊎ (p x ≡ false)) →
          ((stays_listed now ≡ true) ⊎ (stays_listed now ≡ false)) →
          filter p (filter stays_listed (map (changed_there t change) (x ∷ xs))) ≡ filter p (x ∷ xs)
      by_test rest (inl on) (inl stays) =
          let is : now ≡ x = other_is t change x (clean x (Contains-head x xs) on).0 in
          ap (filter p) (kept stays_listed now (map (changed_there t change) xs) stays)
          ∙ kept p now (filter stays_listed (map (changed_there t change) xs)) (p_now ∙ on)
          ∙ ap (λ y. y ∷ filter p (filter stays_listed (map (changed_there t change) xs))) is
          ∙ ap (λ l. x ∷ l) rest
          ∙ sym (kept p x xs on)
      by_test rest (inl on) (inr goes) =
          absurd (let c = clean x (Contains-head x xs) on in let is = ap stays_listed (other_is t change x c.0) in let d = c.1 in cc)
      by_test rest (inr off) (inl stays) =
          ap (filter p) (kept stays_listed now (map (changed_there t change) xs) stays)
          ∙ left_out p now (filter stays_listed (map (changed_there t change) xs)) (p_now ∙ off)
          ∙ rest
          ∙ sym (left_out p x xs off)
      by_test rest (inr off) (inr goes) =
          ap (filter p) (left_out stays_listed now (map (changed_there t change) xs) goes) ∙ rest ∙ sym (left_out p x xs off)

  pub same_passed : (p : Participant → Bool) → ((x : Participant) → p (change x) ≡ p x) → p (new_participant s.named t) ≡ false →
      ((x : Participant) → Contains s.list x → p x ≡ true → (is_there_as t x ≡ false) × (stays_listed x ≡ true)) →
      filter p after.list ≡ filter p s.list
  same_passed p same none clean = elim (cases_Bool (list_any (is_there_as t) s.list)) [
    | inl there ↦
        ap (λ (x : TraceState). filter p (filter stays_listed (map (changed_there t change) x.list))) (cond-true (list_any (is_there_as t) s.list) s more there)
        ∙ passed_after p same s.list clean
    | inr nobody ↦
        ap (λ (x : TraceState). filter p (filter stays_listed (map (changed_there t change) x.list))) (cond-false (list_any (is_there_as t) s.list) s more nobody)
        ∙ passed_after p same (s.list ++ new_participant s.named t ∷ []) (λ x within on. by_place x on (named x within))
        ∙ filter-append p s.list (new_participant s.named t ∷ [])
        ∙ ap (λ l. filter p s.list ++ l) (left_out p (new_participant s.named t) [] none)
        ∙ append-nil (filter p s.list)
  ]
    where
      more : TraceState
      more = record { list = s.list ++ new_participant s.named t ∷ []; named = s.named + 1 }

      named : (x : Participant) → Contains (s.list ++ new_participant s.named t ∷ []) x → Contains s.list x ⊎ (x ≡ new_participant s.named t)
      named x within = elim (Contains-append_cases s.list (new_participant s.named t ∷ []) x within) [
        | inl old ↦ inl old
        | inr new ↦ elim (Contains-cons_cases (new_participant s.named t) [] x new) [ inl here ↦ inr (sym here) | inr there ↦ absurd (nothing_in_nil x there) ]
      ]

      by_place : (x : Participant) → p x ≡ true → (Contains s.list x ⊎ (x ≡ new_participant s.named t)) → (is_there_as t x ≡ false) × (stays_listed x ≡ true)
      by_place x on (inl old) = clean x old on
      by_place x on (inr new) = absurd (let e = ap p new in cc)
