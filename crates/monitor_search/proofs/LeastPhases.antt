-- The least phases, phase by phase.
use Rattle.std.proofs.Common.{◌≡◌, ℕ, ◌+◌, ◌<◌, true, false, ◌||◌, ◌==◌, Option, Some, None, List, [], ◌∷◌, ◌++◌, take, length, get_or, refl, sym, ◌∙◌, ap, subst, inl, inr, ◌⊎◌, arith, min}
use Rattle.std.specs.Prelude.{bytes_eq, nat_lt, if◌then◌else◌, IfSome}
use Rattle.std.specs.Map.{lookup, update}
use Rattle.std.proofs.lemmas.Bool.{cases_Bool, cond-true, cond-false, eq-eqb, eqb-true}
use Rattle.std.proofs.lemmas.Slice.Eq.{bytes_eq-Decides}
use Rattle.std.proofs.lemmas.List.{take_more}
use Rattle.std.proofs.lemmas.Bool.Decides.{nat_tests}
use Rattle.std.proofs.Math.Bool.{or-false}
use Rattle.monitor_laws.specs.Stuck.{is_phase_below}
use Rattle.monitor_search.specs.declared.phases.LeastPhase.{LeastPhase}
use Rattle.monitor_search.specs.inside.LeastPhases.{is_least_below, noted_phase, noted_phases}

-- a key that is written
pub noted_update :
    (f : List ℕ → Option LeastPhase) (p q : List ℕ) (m who : ℕ) (w : Option LeastPhase) → w ≡ noted_phase (f p) m who →
    update bytes_eq f p w q ≡ (if bytes_eq q p then noted_phase (f q) m who else f q)
noted_update f p q m who w is = elim (cases_Bool (bytes_eq p q)) [
  | inl same ↦
      (let e : p ≡ q = (bytes_eq-Decides p q).0 same in
      cond-true (bytes_eq p q) w (f q) same ∙ is ∙ ap (λ x. noted_phase (f x) m who) e
      ∙ sym (cond-true (bytes_eq q p) (noted_phase (f q) m who) (f q) ((bytes_eq-Decides q p).1 (sym e))))
  | inr other ↦
      cond-false (bytes_eq p q) w (f q) other
      ∙ sym (cond-false (bytes_eq q p) (noted_phase (f q) m who) (f q) (elim (cases_Bool (bytes_eq q p)) [
        | inr off ↦ off
        | inl on ↦ absurd (let e = (bytes_eq-Decides p q).1 (sym ((bytes_eq-Decides q p).0 on)) in cc)
      ]))
]

-- more phases behind
noted_behind : (ms more : List (List ℕ × ℕ)) (q : List ℕ) (who : ℕ) (known : Option LeastPhase) → noted_phases (ms ++ more) q who known ≡ noted_phases more q who (noted_phases ms q who known)
noted_behind [] more q who known = refl
noted_behind (m ∷ ms) more q who known = noted_behind ms more q who (if bytes_eq q m.0 then noted_phase known m.1 who else known)

pub noted_more : (ms : List (List ℕ × ℕ)) (i : ℕ) (m : List ℕ × ℕ) (q : List ℕ) (who : ℕ) (known : Option LeastPhase) → i < length ms → m ≡ get_or ms i m →
    noted_phases (take (i + 1) ms) q who known ≡ (if bytes_eq q m.0 then noted_phase (noted_phases (take i ms) q who known) m.1 who else noted_phases (take i ms) q who known)
noted_more ms i m q who known within is =
    ap (λ l. noted_phases l q who known) (take_more ms i m within ∙ ap (λ x. take i ms ++ x ∷ []) (sym is))
    ∙ noted_behind (take i ms) (m ∷ []) q who known

-- who was noted last
abbrev IsNotedBefore : Option LeastPhase → ℕ → Type 0
IsNotedBefore known who = IfSome known (λ k. k.last < who)

noted_phase_last : (known : Option LeastPhase) (m who : ℕ) → IsNotedBefore known (who + 1) → IsNotedBefore (noted_phase known m who) (who + 1)
noted_phase_last None m who before = omega arith
noted_phase_last (Some k) m who before = elim (cases_Bool (k.last == who)) [
  | inl same ↦ subst (λ o. IsNotedBefore o (who + 1)) (sym (cond-true (k.last == who) (Some k) (Some (record { phase = min k.phase m; last = who })) same)) before
  | inr other ↦
      subst (λ o. IsNotedBefore o (who + 1)) (sym (cond-false (k.last == who) (Some k) (Some (record { phase = min k.phase m; last = who })) other)) (let l : who < who + 1 = omega arith in l)
]

later_before : (known : Option LeastPhase) (who : ℕ) → IsNotedBefore known who → IsNotedBefore known (who + 1)
later_before None who before = tt
later_before (Some k) who before = omega arith

noted_last_by : (ms : List (List ℕ × ℕ)) (q : List ℕ) (who : ℕ) (known : Option LeastPhase) → IsNotedBefore known (who + 1) → IsNotedBefore (noted_phases ms q who known) (who + 1)
noted_last_by [] q who known before = before
noted_last_by (m ∷ ms) q who known before = noted_last_by ms q who (if bytes_eq q m.0 then noted_phase known m.1 who else known) (elim (cases_Bool (bytes_eq q m.0)) [
  | inl on ↦ subst (λ o. IsNotedBefore o (who + 1)) (sym (cond-true (bytes_eq q m.0) (noted_phase known m.1 who) known on)) (noted_phase_last known m.1 who before)
  | inr off ↦ subst (λ o. IsNotedBefore o (who + 1)) (sym (cond-false (bytes_eq q m.0) (noted_phase known m.1 who) known off)) before
])

pub noted_last : (ms : List (List ℕ × ℕ)) (q : List ℕ) (who : ℕ) (known : Option LeastPhase) → IsNotedBefore known who → IsNotedBefore (noted_phases ms q who known) (who + 1)
noted_last ms q who known before = noted_last_by ms q who known (later_before known who before)

-- once noted, the first phase counts
stays_noted : (ms : List (List ℕ × ℕ)) (q : List ℕ) (who : ℕ) (k : LeastPhase) → k.last ≡ who → noted_phases ms q who (Some k) ≡ Some k
stays_noted [] q who k is = refl
stays_noted (m ∷ ms) q who k is =
    ap (noted_phases ms q who) (elim (cases_Bool (bytes_eq q m.0)) [
      | inl on ↦
          cond-true (bytes_eq q m.0) (noted_phase (Some k) m.1 who) (Some k) on
          ∙ cond-true (k.last == who) (Some k) (Some (record { phase = min k.phase m.1; last = who })) (eq-eqb k.last who is)
      | inr off ↦ cond-false (bytes_eq q m.0) (noted_phase (Some k) m.1 who) (Some k) off
    ])
    ∙ stays_noted ms q who k is

min_below : (a b n : ℕ) → nat_lt (min a b) n ≡ (nat_lt a n || nat_lt b n)
min_below a b n = grind (arith, nat_tests)

-- the least phase of those before and of this one
pub noted_below : (ms : List (List ℕ × ℕ)) (q : List ℕ) (who : ℕ) (known : Option LeastPhase) (n : ℕ) → IsNotedBefore known who →
    is_least_below (noted_phases ms q who known) n ≡ (is_least_below known n || is_phase_below (lookup (bytes_eq q) ms) n)
noted_below [] q who known n before = sym (or-false (is_least_below known n))
noted_below (m ∷ ms) q who known n before = by_test (noted_below ms q who known n before) (cases_Bool (bytes_eq q m.0))
  where
    first : (o : Option LeastPhase) → IsNotedBefore o who → is_least_below (noted_phases ms q who (noted_phase o m.1 who)) n ≡ (is_least_below o n || nat_lt m.1 n)
    first None b = ap (λ o. is_least_below o n) (stays_noted ms q who (record { phase = m.1; last = who }) refl)
    first (Some k) b =
        let apart : (k.last == who) ≡ false = elim (cases_Bool (k.last == who)) [ inr off ↦ off | inl on ↦ absurd (let e = eqb-true k.last who on in omega arith) ] in
        ap (λ o. is_least_below (noted_phases ms q who o) n) (cond-false (k.last == who) (Some k) (Some (record { phase = min k.phase m.1; last = who })) apart)
        ∙ ap (λ o. is_least_below o n) (stays_noted ms q who (record { phase = min k.phase m.1; last = who }) refl)
        ∙ min_below k.phase m.1 n

    by_test : is_least_below (noted_phases ms q who known) n ≡ (is_least_below known n || is_phase_below (lookup (bytes_eq q) ms) n) → ((bytes_eq q m.0 ≡ true) ⊎ (bytes_eq q m.0 ≡ false)) →
        is_least_below (noted_phases (m ∷ ms) q who known) n ≡ (is_least_below known n || is_phase_below (lookup (bytes_eq q) (m ∷ ms)) n)
    by_test rest (inl on) =
        ap (λ o. is_least_below (noted_phases ms q who o) n) (cond-true (bytes_eq q m.0) (noted_phase known m.1 who) known on)
        ∙ first known before
        ∙ ap (λ o. is_least_below known n || is_phase_below o n) (sym (cond-true (bytes_eq q m.0) (Some m.1) (lookup (bytes_eq q) ms) on))
    by_test rest (inr off) =
        ap (λ o. is_least_below (noted_phases ms q who o) n) (cond-false (bytes_eq q m.0) (noted_phase known m.1 who) known off)
        ∙ rest
        ∙ ap (λ o. is_least_below known n || is_phase_below o n) (sym (cond-false (bytes_eq q m.0) (Some m.1) (lookup (bytes_eq q) ms) off))
