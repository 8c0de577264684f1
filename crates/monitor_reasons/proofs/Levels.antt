-- Distances level by level.
use Rattle.std.proofs.Common.{◌≡◌, ℕ, zero, suc, ◌<◌, ◌≤◌, ◌-◌, ◌==◌, Bool, true, false, ◌&&◌, ◌||◌, Option, Some, None, List, [], length, refl, sym, ◌∙◌, ap, subst, inl, inr, arith}
use Rattle.std.specs.Prelude.{nat_lt}
use Rattle.std.proofs.lemmas.Bool.{and_from, and_parts, cases_Bool, cases_lt, eqb-true, lt-ltb, ltb-true, or_cases, true≢false}
use Rattle.std.proofs.Common.{eq-eqb}
use Rattle.std.proofs.lemmas.List.Folds.{list_any_at}
use Rattle.monitor_laws.specs.States.{TraceState, new_participant}
use Rattle.monitor_words.specs.Stops.{stops}
use Rattle.monitor_words.proofs.Circles.{leads}
use Rattle.monitor_state.proofs.OnePassing.{first_place}
use Rattle.monitor_reasons.specs.Found.{participant_at}
use Rattle.monitor_reasons.specs.inside.Distances.{AreDistances, AreFilled, IsChainDistance, IsKnownDistance, any_below, distance_at, filled, is_before, is_behind, leads_at, stops_at}

-- ---- tests

pub any_below_is : (p : ℕ → Bool) (n : ℕ) → any_below p n ≡ true → (u : ℕ) × (u < n) × (p u ≡ true)
any_below_is p zero some = absurd (true≢false (sym some))
any_below_is p (suc n) some = elim (or_cases (any_below p n) (p n) some) [
  | inl below ↦ (let m = any_below_is p n below in (m.0, (let lt = m.1 in omega arith), m.2))
  | inr here ↦ (n, omega arith, here)
]

pub or_left : (a b : Bool) → a ≡ true → (a || b) ≡ true
or_left true b on = refl
or_left false b on = absurd (true≢false (sym on))

pub or_right : (a b : Bool) → b ≡ true → (a || b) ≡ true
or_right true b on = refl
or_right false b on = on

pub any_below_from : (p : ℕ → Bool) (n u : ℕ) → u < n → p u ≡ true → any_below p n ≡ true
any_below_from p zero u lt is = absurd (omega arith)
any_below_from p (suc n) u lt is = elim (cases_lt u n) [
  | inl less ↦ or_left (any_below p n) (p n) (any_below_from p n u less is)
  | inr not_less ↦ or_right (any_below p n) (p n) (let e : u ≡ n = omega arith in subst (λ k. p k ≡ true) e is)
]

pub before_is : (o : Option ℕ) (d : ℕ) → is_before o (suc d) ≡ true → o ≡ Some d
before_is None d is = absurd (true≢false (sym is))
before_is (Some n) d is =
    let parts = and_parts (nat_lt n (suc d)) (suc d - n == 1) is in
    let a = eqb-true (suc d - n) 1 parts.1 in
    let b = ltb-true n (suc d) parts.0 in
    let e : n ≡ d = omega arith in
    ap (λ (k : ℕ). Some k) e

pub before_zero : (o : Option ℕ) → is_before o 0 ≡ true → ⊥
before_zero None is = true≢false (sym is)
before_zero (Some n) is =
    let parts = and_parts (nat_lt n 0) (0 - n == 1) is in
    let b = ltb-true n 0 parts.0 in
    omega arith

pub before_from : (d : ℕ) → is_before (Some d) (suc d) ≡ true
before_from d = and_from (nat_lt d (suc d)) (suc d - d == 1) (lt-ltb d (suc d) (omega arith)) (eq-eqb (suc d - d) 1 (omega arith))

-- ---- levels

module _ (s : TraceState) (stuck : ℕ → Bool) (f : ℕ) where
  pub leads_more : (n u t : ℕ) → u < length s.list → stops_at s stuck u t ≡ true → leads_at s stuck f n u ≡ true → leads_at s stuck f (suc n) t ≡ true
  leads_more n u t lt goes leads_on =
      list_any_at (λ v. stops s stuck v (participant_at s.list t) && leads s stuck (participant_at s.list f) n v) s.list u (new_participant 0 []) lt
      (and_from (stops_at s stuck u t) (leads_at s stuck f n u) goes leads_on)

  pub leads_less : (n t : ℕ) → leads_at s stuck f (suc n) t ≡ true → (u : ℕ) × (u < length s.list) × (stops_at s stuck u t ≡ true) × (leads_at s stuck f n u ≡ true)
  leads_less n t is =
      let m = first_place (λ v. stops s stuck v (participant_at s.list t) && leads s stuck (participant_at s.list f) n v) s.list is in
      let parts = and_parts (stops_at s stuck m.0 t) (leads_at s stuck f n m.0) (m.1.here (new_participant 0 [])) in
      (m.0, m.1.within, parts.0, parts.1)

  pub is_known : (d t : ℕ) (o : Option ℕ) → IsChainDistance s stuck f d t o → IsKnownDistance s stuck f d t o
  is_known d t None far = far
  is_known d t (Some n) far = ((let lt = far.0 in omega arith), far.1, far.2)

  -- who stops t and leads on has the distance before that of t
  pub exact : (d n u t : ℕ) (o : Option ℕ) → IsKnownDistance s stuck f d u o → u < length s.list → n < d → leads_at s stuck f n u ≡ true → stops_at s stuck u t ≡ true →
      ((j : ℕ) → j < suc n → leads_at s stuck f j t ≡ false) → o ≡ Some n
  exact d n u t None far within lt leads_on goes none = absurd (true≢false (sym leads_on ∙ far n lt))
  exact d n u t (Some e) far within lt leads_on goes none = elim (cases_lt e n) [
    | inl less ↦ absurd (true≢false (sym (leads_more e u t within goes far.1) ∙ none (suc e) (omega arith)))
    | inr not_less ↦ elim (cases_lt n e) [
      | inl more ↦ absurd (true≢false (sym leads_on ∙ far.2 n more))
      | inr not_more ↦ (let same : e ≡ n = omega arith in ap (λ (k : ℕ). Some k) same)
    ]
  ]

  after_level : (d t : ℕ) (o : Option ℕ) (passes : Bool) → IsChainDistance s stuck f d t o → (passes ≡ true → leads_at s stuck f d t ≡ true) →
      (o ≡ None → passes ≡ false → leads_at s stuck f d t ≡ false) → IsChainDistance s stuck f (suc d) t (filled o passes d)
  after_level d t None true far on off = (omega arith, on refl, far)
  after_level d t None false far on off = λ j lt. elim (cases_lt j d) [
    | inl less ↦ far j less
    | inr not_less ↦ (let same : d ≡ j = omega arith in subst (λ k. leads_at s stuck f k t ≡ false) same (off refl refl))
  ]
  after_level d t (Some n) passes far on off = ((let lt = far.0 in omega arith), far.1, far.2)

  module _ (distances : List (Option ℕ)) where
    passes_at : ℕ → ℕ → ℕ → Bool
    passes_at d t u = is_behind distances f d u && stops_at s stuck u t

    behind_leads : (d t u : ℕ) → AreDistances s stuck f d distances → u < length s.list → is_behind distances f d u ≡ true → stops_at s stuck u t ≡ true → leads_at s stuck f d t ≡ true
    behind_leads zero t u known within is goes = elim (or_cases ((u == f) && (0 == 0)) (is_before (distance_at distances u) 0) is) [
      | inl here ↦ (let e = eqb-true u f (and_parts (u == f) (0 == 0) here).0 in subst (λ k. stops_at s stuck k t ≡ true) e goes)
      | inr there ↦ absurd (before_zero (distance_at distances u) there)
    ]
    behind_leads (suc d) t u known within is goes = elim (or_cases ((u == f) && (suc d == 0)) (is_before (distance_at distances u) (suc d)) is) [
      | inl here ↦ absurd (let e = eqb-true (suc d) 0 (and_parts (u == f) (suc d == 0) here).1 in omega arith)
      | inr there ↦
          (let far = subst (λ o. IsChainDistance s stuck f (suc d) u o) (before_is (distance_at distances u) d there) (known.each u within) in
          leads_more d u t within goes far.1)
    ]

    none_behind : (d t : ℕ) → AreDistances s stuck f d distances → f < length s.list → t < length s.list → distance_at distances t ≡ None →
        ((u : ℕ) → u < length s.list → is_behind distances f d u ≡ true → stops_at s stuck u t ≡ true → ⊥) → leads_at s stuck f d t ≡ true → ⊥
    none_behind zero t known listed within unknown none leads_on = none f listed (or_left ((f == f) && (0 == 0)) (is_before (distance_at distances f) 0) (and_from (f == f) (0 == 0) (eq-eqb f f refl) refl)) leads_on
    none_behind (suc d) t known listed within unknown none leads_on =
        let m = leads_less d t leads_on in
        let far = subst (λ o. IsChainDistance s stuck f (suc d) t o) unknown (known.each t within) in
        let e = exact (suc d) d m.0 t (distance_at distances m.0) (is_known (suc d) m.0 (distance_at distances m.0) (known.each m.0 m.1)) m.1 (omega arith) m.3 m.2 far in
        none m.0 m.1 (or_right ((m.0 == f) && (suc d == 0)) (is_before (distance_at distances m.0) (suc d)) (ap (λ o. is_before o (suc d)) e ∙ before_from d)) m.2

    some_lead : (d t bound : ℕ) → AreDistances s stuck f d distances → bound ≤ length s.list →
        any_below (λ u. is_behind distances f d u && stops_at s stuck u t) bound ≡ true → leads_at s stuck f d t ≡ true
    some_lead d t bound known within some =
        let m = any_below_is (λ u. is_behind distances f d u && stops_at s stuck u t) bound some in
        let parts = and_parts (is_behind distances f d m.0) (stops_at s stuck m.0 t) m.2 in
        behind_leads d t m.0 known (let lt = m.1 in omega arith) parts.0 parts.1

    -- one level more is known
    pub level_known : (d : ℕ) (new : List (Option ℕ)) → f < length s.list → AreDistances s stuck f d distances →
        AreFilled distances new d (λ t. any_below (λ u. is_behind distances f d u && stops_at s stuck u t) (length s.list)) → AreDistances s stuck f (suc d) new
    level_known d new listed known fills = record { long = fills.long ∙ known.long; each = λ t within. at_place t within }
      where
        at_place : (t : ℕ) → t < length s.list → IsChainDistance s stuck f (suc d) t (distance_at new t)
        at_place t within =
            let p : ℕ → Bool = λ u. is_behind distances f d u && stops_at s stuck u t in
            let shorter : t < length distances = (let e = known.long in omega arith) in
            subst (λ o. IsChainDistance s stuck f (suc d) t o) (sym (fills.each t shorter))
            (after_level d t (distance_at distances t) (any_below p (length s.list)) (known.each t within)
            (λ some. some_lead d t (length s.list) known (omega arith) some)
            (λ unknown none. elim (cases_Bool (leads_at s stuck f d t)) [
              | inl on ↦ absurd (none_behind d t known listed within unknown
                  (λ u lt is goes. true≢false (sym (any_below_from p (length s.list) u lt (and_from (is_behind distances f d u) (stops_at s stuck u t) is goes)) ∙ none)) on)
              | inr off ↦ off
            ]))

    -- where nobody is behind the next level, whose distance is not known leads to f by no chain
    pub known_if_leads : (d : ℕ) → AreDistances s stuck f (suc d) distances → ((u : ℕ) → u < length s.list → is_before (distance_at distances u) (suc d) ≡ false) →
        (j t : ℕ) → t < length s.list → leads_at s stuck f j t ≡ true → distance_at distances t ≡ None → ⊥
    known_if_leads d known none zero t within leads_on unknown =
        let far = subst (λ o. IsChainDistance s stuck f (suc d) t o) unknown (known.each t within) in
        true≢false (sym leads_on ∙ far 0 (omega arith))
    known_if_leads d known none (suc j) t within leads_on unknown =
        let m = leads_less j t leads_on in
        let far = subst (λ o. IsChainDistance s stuck f (suc d) t o) unknown (known.each t within) in
        by_case m.0 m.1 m.2 far (known_if_leads d known none j m.0 m.1 m.3) (distance_at distances m.0) refl
      where
        by_case : (u : ℕ) → u < length s.list → stops_at s stuck u t ≡ true → ((i : ℕ) → i < suc d → leads_at s stuck f i t ≡ false) →
            (distance_at distances u ≡ None → ⊥) → (o : Option ℕ) → distance_at distances u ≡ o → ⊥
        by_case u lt goes far some None is = some is
        by_case u lt goes far some (Some n) is =
            let near = subst (λ o. IsChainDistance s stuck f (suc d) u o) is (known.each u lt) in
            elim (cases_lt n d) [
              | inl less ↦ true≢false (sym (leads_more n u t lt goes near.1) ∙ far (suc n) (omega arith))
              | inr not_less ↦
                  (let a = near.0 in let e : d ≡ n = omega arith in
                  true≢false (sym (subst (λ k. is_before (Some k) (suc d) ≡ true) e (before_from d)) ∙ ap (λ o. is_before o (suc d)) (sym is) ∙ none u lt))
            ]
