-- Who is there with a name after a line, where nobody has ended and there is no wildcard.
use Rattle.std.proofs.Common.{◌≡◌, ℕ, ◌+◌, Bool, true, false, ◌||◌, Some, None, List, [], ◌∷◌, ◌++◌, refl, sym, ◌∙◌, ap, subst, ◌⊎◌, inl, inr}
use Rattle.std.specs.Prelude.{Contains, ◌==◌, bytes_eq, find, length, not, unwrap_or}
use Rattle.std.specs.List.{list_any}
use Rattle.std.proofs.lemmas.Bool.{cases_Bool, and_from, or_left, cond-false}
use Rattle.std.proofs.lemmas.List.Elements.{Contains-append_right}
use Rattle.std.proofs.lemmas.Slice.Eq.{bytes_eq-Decides}
use Rattle.armus_base.proofs.Elements.{Contains-head}
use Rattle.monitor_laws.specs.Lines.{Announcement, Joins, Arrives, Leaves, Waits, Goes, Ends, Stands, Announces}
use Rattle.monitor_laws.specs.States.{Participant, TraceState, after_line, announced_by, is_live_task, is_live_wildcard, is_there_as, new_participant, stays_listed, with_named}
use Rattle.monitor_laws.specs.Faults.{participant_in}
use Rattle.monitor_laws.specs.Laws.{unnumbered}
use Rattle.monitor_laws.proofs.Filters.{any_is, none_passes}
use Rattle.monitor_laws.proofs.Changes.{changed_there, from_change, from_named, in_change, in_named, other_is, there_is}
use Rattle.monitor_laws.specs.Lawful.{IsLawfulState}
use Rattle.monitor_laws.proofs.Lawful.{announced_name, lawful_after}
use Rattle.monitor_laws.proofs.Rows.{name_is, named_is}

-- where none passes none is found
none_found : {A : Type 0} (p : A → Bool) (xs : List A) → list_any p xs ≡ false → find p xs ≡ None
none_found p [] none = refl
none_found p (x ∷ xs) none = by_test (none_found p xs) (cases_Bool (p x))
  where
    by_test : (list_any p xs ≡ false → find p xs ≡ None) → ((p x ≡ true) ⊎ (p x ≡ false)) → find p (x ∷ xs) ≡ None
    by_test rest (inl on) = absurd (let e = or_left (p x) (list_any p xs) on in cc)
    by_test rest (inr off) = cond-false (p x) (Some x) (find p xs) off ∙ rest (sym (ap (λ b. b || list_any p xs) off) ∙ none)

-- who is listed with the name, or would come
pub record IsListedAs (s : TraceState) (t : List ℕ) : Type 0 where
  pub listed : Contains s.list (participant_in s t)
  pub there : is_there_as t (participant_in s t) ≡ true

pub listed_or_new : (s : TraceState) → IsLawfulState s → (t : List ℕ) → IsListedAs s t ⊎ ((list_any (is_there_as t) s.list ≡ false) × (participant_in s t ≡ new_participant s.named t))
listed_or_new s lawful t = elim (cases_Bool (list_any (is_there_as t) s.list)) [
  | inl some ↦
      (let u = any_is (is_there_as t) s.list some in
      let is = named_is s lawful t u.0 u.1 u.2 in
      inl (record { listed = subst (Contains s.list) (sym is) u.1; there = subst (λ x. is_there_as t x ≡ true) (sym is) u.2 }))
  | inr none ↦ inr (none, ap (λ o. unwrap_or o (new_participant s.named t)) (none_found (is_there_as t) s.list none))
]

-- whoever is listed is the task of its name
pub is_participant : (s : TraceState) → IsLawfulState s → (u : Participant) → Contains s.list u → is_live_task u.condition ≡ true → (t : List ℕ) → u.name ≡ t → participant_in s t ≡ u
is_participant s lawful u within live t is =
    named_is s lawful t u within
    (and_from (is_live_task u.condition || is_live_wildcard u.condition) (bytes_eq t u.name) (or_left (is_live_task u.condition) (is_live_wildcard u.condition) live) ((bytes_eq-Decides t u.name).1 (sym is)))

pub name_of_participant : (s : TraceState) → IsLawfulState s → (t : List ℕ) → (participant_in s t).name ≡ t
name_of_participant s lawful t = elim (listed_or_new s lawful t) [
  | inl is ↦ sym (name_is t (participant_in s t) is.there)
  | inr new ↦ ap (λ (x : Participant). x.name) new.1
]

abbrev pub AllLive : TraceState → Type 0
AllLive s = (u : Participant) → Contains s.list u → is_live_task u.condition ≡ true

-- all but an end leave a task live
abbrev pub IsNoEnd : Announcement → Type 0
IsNoEnd (Joins p n) = Unit {0}
IsNoEnd (Arrives p) = Unit {0}
IsNoEnd (Leaves p) = Unit {0}
IsNoEnd (Waits p n) = Unit {0}
IsNoEnd Goes = Unit {0}
IsNoEnd Ends = ⊥
IsNoEnd Stands = Unit {0}

lives_on : (what : Announcement) → IsNoEnd what → (u : Participant) → is_live_task u.condition ≡ true → is_live_task (announced_by what u).condition ≡ true
lives_on (Joins p n) on u live = live
lives_on (Arrives p) on u live = live
lives_on (Leaves p) on u live = live
lives_on (Waits p n) on u live = refl
lives_on Goes on u live = refl
lives_on Ends on u live = absurd on
lives_on Stands on u live = live

module _ (s : TraceState) (lawful : IsLawfulState s) (live : AllLive s) (t : List ℕ) (what : Announcement) (no_end : IsNoEnd what) where
  abbrev after : TraceState
  after = after_line s (Announces t what None)

  lawful_too : IsLawfulState after
  lawful_too = lawful_after s (Announces t what None) lawful

  live_named : (u : Participant) → Contains (with_named s t).list u → is_live_task u.condition ≡ true
  live_named u within = elim (from_named s t u within) [
    | inl old ↦ live u old
    | inr new ↦ ap (λ (x : Participant). is_live_task x.condition) new.1
  ]

  live_changed : (u : Participant) → is_live_task u.condition ≡ true → is_live_task (changed_there t (announced_by what) u).condition ≡ true
  live_changed u alive = elim (cases_Bool (is_there_as t u)) [
    | inl there ↦ ap (λ (x : Participant). is_live_task x.condition) (there_is t (announced_by what) u there) ∙ lives_on what no_end u alive
    | inr other ↦ ap (λ (x : Participant). is_live_task x.condition) (other_is t (announced_by what) u other) ∙ alive
  ]

  pub all_live : AllLive after
  all_live v within =
      let m = from_change (changed_there t (announced_by what)) (with_named s t) v within in
      ap (λ (x : Participant). is_live_task x.condition) (sym m.2) ∙ live_changed m.0 (live_named m.0 m.1)

  stays : (u : Participant) → is_live_task u.condition ≡ true → stays_listed u ≡ true
  stays u alive = or_left (is_live_task u.condition || is_live_wildcard u.condition) (not (length u.phases == 0)) (or_left (is_live_task u.condition) (is_live_wildcard u.condition) alive)

  -- its own
  pub own_is : participant_in after t ≡ announced_by what (participant_in s t)
  own_is = elim (listed_or_new s lawful t) [
    | inl is ↦ changed_is (participant_in s t) (in_named s t (participant_in s t) is.listed) is.there
    | inr new ↦ changed_is (new_participant s.named t) (new_listed new.0) ((bytes_eq-Decides t t).1 refl) ∙ ap (announced_by what) (sym new.1)
  ]
    where
      new_listed : list_any (is_there_as t) s.list ≡ false → Contains (with_named s t).list (new_participant s.named t)
      new_listed none =
          subst (λ (x : TraceState). Contains x.list (new_participant s.named t))
          (sym (cond-false (list_any (is_there_as t) s.list) s (record { list = s.list ++ new_participant s.named t ∷ []; named = s.named + 1 }) none))
          (Contains-append_right s.list (new_participant s.named t ∷ []) (new_participant s.named t) (Contains-head (new_participant s.named t) []))

      changed_is : (u : Participant) → Contains (with_named s t).list u → is_there_as t u ≡ true → participant_in after t ≡ announced_by what u
      changed_is u within there =
          let alive = live_named u within in
          let is = there_is t (announced_by what) u there in
          is_participant after lawful_too (announced_by what u)
          (subst (Contains after.list) is (in_change (changed_there t (announced_by what)) (with_named s t) u within (stays (changed_there t (announced_by what) u) (live_changed u alive))))
          (lives_on what no_end u alive) t (announced_name what u ∙ sym (name_is t u there))

  -- and each other one
  pub other_same : (x : List ℕ) → bytes_eq x t ≡ false → unnumbered (participant_in after x) ≡ unnumbered (participant_in s x)
  other_same x other = elim (listed_or_new s lawful x) [
    | inl is ↦
        ap unnumbered (is_participant after lawful_too (participant_in s x)
        (subst (Contains after.list) (other_is t (announced_by what) (participant_in s x) (not_t (participant_in s x) is.there))
        (in_change (changed_there t (announced_by what)) (with_named s t) (participant_in s x) (in_named s t (participant_in s x) is.listed)
        (stays (changed_there t (announced_by what) (participant_in s x)) (live_changed (participant_in s x) (live (participant_in s x) is.listed)))))
        (live (participant_in s x) is.listed) x (sym (name_is x (participant_in s x) is.there)))
    | inr new ↦ elim (listed_or_new after lawful_too x) [
      | inr too ↦ ap unnumbered too.1 ∙ ap unnumbered (sym new.1)
      | inl is ↦ absurd (nobody new.0 (participant_in after x) is.listed is.there)
    ]
  ]
    where
      -- whose name is x is not there with the name t
      not_t : (u : Participant) → is_there_as x u ≡ true → is_there_as t u ≡ false
      not_t u there = elim (cases_Bool (is_there_as t u)) [
        | inl as_t ↦ absurd (let a = name_is x u there in let b = name_is t u as_t in let e : x ≡ t = a ∙ sym b in let d = (bytes_eq-Decides x t).1 e in cc)
        | inr off ↦ off
      ]

      nobody : list_any (is_there_as x) s.list ≡ false → (v : Participant) → Contains after.list v → is_there_as x v ≡ true → ⊥
      nobody none v within there =
          let m = from_change (changed_there t (announced_by what)) (with_named s t) v within in
          elim (cases_Bool (is_there_as t m.0)) [
            | inl as_t ↦
                (let a = name_is x v there in
                let b : v.name ≡ m.0.name = ap (λ (y : Participant). y.name) (sym m.2 ∙ there_is t (announced_by what) m.0 as_t) ∙ announced_name what m.0 in
                let c = name_is t m.0 as_t in
                let e : x ≡ t = a ∙ b ∙ sym c in let d = (bytes_eq-Decides x t).1 e in cc)
            | inr off ↦
                (let same : v ≡ m.0 = sym m.2 ∙ other_is t (announced_by what) m.0 off in
                elim (from_named s t m.0 m.1) [
                  | inl old ↦ (let no = none_passes (is_there_as x) s.list m.0 old none in let yes = subst (λ y. is_there_as x y ≡ true) same there in cc)
                  | inr new ↦ (let e = ap (λ y. is_there_as t y) new.1 in let d = (bytes_eq-Decides t t).1 refl in cc)
                ])
          ]
