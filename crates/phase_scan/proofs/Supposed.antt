-- The statuses where a task has published an event, by its phases on the marked phasers alone; and what is marked.
use mathlib.Core.Path.{fun_ext}
use Rattle.std.proofs.Common.{◌≡◌, ℕ, ◌<◌, ◌+◌, arith, zero, suc, Bool, true, false, List, [], ◌∷◌, Option, None, length, get_or, set, sym, ◌∙◌, ap, subst, refl, inl, inr}
use Rattle.std.specs.Prelude.{if◌then◌else◌, option_map, unwrap_or}
use Rattle.std.proofs.lemmas.Bool.{cases_eq, cases_lt}
use Rattle.std.proofs.lemmas.Option.{slice_get_past}
use Rattle.armus_base.specs.declared.event.Event.{Event}
use Rattle.armus_base.specs.Finals.{listed_phase}
use Rattle.armus_base.specs.States.{Phases, State, updated}
use Rattle.armus_base.specs.calls.StatusLists.{is_marked, statuses_among}
use Rattle.armus_base.proofs.Lists.{slice_get-set_same, slice_get-set_other}
use Rattle.armus_base.proofs.Steps.{updated_other, updated_same}
use Rattle.armus_base.proofs.StatusLists.{statuses_same}
use Rattle.phase_scan.specs.calls.Tables.{state_supposed}
use Rattle.phase_scan.specs.inside.Phases.{phase_in}

module _ (tasks phasers : ℕ) (s : State) (t : ℕ) (event : Event) (own other : Phases) (column : ℕ → Option ℕ) (marked : ℕ → Bool)
    (same : (p : ℕ) → marked p ≡ true → own p ≡ other p) where
  listed : (p : ℕ) → listed_phase marked own p ≡ listed_phase marked other p
  listed p = by_mark (marked p) refl
    where
      by_mark : (b : Bool) → marked p ≡ b → listed_phase marked own p ≡ listed_phase marked other p
      by_mark true is = ap (λ m. if marked p then option_map (λ n. record { p = record { 0 = p }; n = n }) m else None) (same p is)
      by_mark false is =
          ap (λ b. if b then option_map (λ n. record { p = record { 0 = p }; n = n }) (own p) else None) is
          ∙ sym (ap (λ b. if b then option_map (λ n. record { p = record { 0 = p }; n = n }) (other p) else None) is)

  phases_same : (u p : ℕ) →
      listed_phase marked ((state_supposed s t event own column).phases u) p ≡ listed_phase marked ((state_supposed s t event other column).phases u) p
  phases_same u p =
      elim (cases_eq u t) [
        | inl is ↦
            ap (λ (m : Phases). listed_phase marked m p) (updated_same (λ w. updated (s.phases w) event.p.0 (column w)) t u own is)
            ∙ listed p
            ∙ sym (ap (λ (m : Phases). listed_phase marked m p) (updated_same (λ w. updated (s.phases w) event.p.0 (column w)) t u other is))
        | inr apart ↦
            ap (λ (m : Phases). listed_phase marked m p) (updated_other (λ w. updated (s.phases w) event.p.0 (column w)) t u own apart)
            ∙ sym (ap (λ (m : Phases). listed_phase marked m p) (updated_other (λ w. updated (s.phases w) event.p.0 (column w)) t u other apart))
      ]

  pub supposed_same :
      statuses_among tasks phasers (state_supposed s t event own column) marked ≡ statuses_among tasks phasers (state_supposed s t event other column) marked
  supposed_same =
      statuses_same tasks phasers (state_supposed s t event own column) (state_supposed s t event other column) marked marked (λ u l. refl) (λ u p l k. phases_same u p)

-- one number more is marked
pub marked_too : (marks : List Bool) (p : ℕ) → p < length marks → is_marked (set marks p true) ≡ updated (is_marked marks) p true
marked_too marks p l =
    fun_ext (λ q. elim (cases_eq q p) [
      | inl is ↦
          subst (λ v. is_marked (set marks p true) v ≡ updated (is_marked marks) p true v) (sym is)
          (ap (λ o. unwrap_or o false) (slice_get-set_same marks p true l) ∙ sym (updated_same (is_marked marks) p p true refl))
      | inr apart ↦
          ap (λ o. unwrap_or o false) (slice_get-set_other marks p q true apart) ∙ sym (updated_other (is_marked marks) p q true apart)
    ])

-- what is marked is one of the marks
pub marked_inside : (marks : List Bool) (p : ℕ) → is_marked marks p ≡ true → p < length marks
marked_inside marks p is = elim (cases_lt p (length marks)) [
  | inl inside ↦ inside
  | inr past ↦ absurd (false_true (ap (λ o. unwrap_or o false) (sym (slice_get_past marks p past)) ∙ is))
]
  where
    false_true : false ≡ true → ⊥
    false_true e = cc

-- a row of phases on the marked ones of the first phasers, with one phaser more, which is marked or is not
module _ (marks : List Bool) (f : ℕ → Option ℕ) (n : ℕ) (old : List (Option ℕ)) (before : (p : ℕ) → p < n → is_marked marks p ≡ true → phase_in old p ≡ f p) where
  pub row_with : (new : List (Option ℕ)) (found : Option ℕ) → found ≡ f n → phase_in new ≡ updated (phase_in old) n found →
      (p : ℕ) → p < n + 1 → is_marked marks p ≡ true → phase_in new p ≡ f p
  row_with new found is set p l marked = elim (cases_eq p n) [
    | inl same ↦ ap (λ g. g p) set ∙ updated_same (phase_in old) n p found same ∙ is ∙ ap f (sym same)
    | inr apart ↦ ap (λ g. g p) set ∙ updated_other (phase_in old) n p found apart ∙ before p (omega arith) marked
  ]

  pub row_without : is_marked marks n ≡ false → (p : ℕ) → p < n + 1 → is_marked marks p ≡ true → phase_in old p ≡ f p
  row_without off p l marked = elim (cases_eq p n) [
    | inl same ↦ absurd (apart (sym off ∙ ap (is_marked marks) (sym same) ∙ marked))
    | inr other ↦ before p (omega arith) marked
  ]
    where
      apart : false ≡ true → ⊥
      apart e = cc

pub marked_read : (marks : List Bool) (k : ℕ) → is_marked marks k ≡ get_or marks k false
marked_read [] k = refl
marked_read (b ∷ marks) zero = refl
marked_read (b ∷ marks) (suc k) = marked_read marks k
