-- The greatest closed set, found by taking out whom the rest does not keep; and so a line by which each one became stuck.
use Rattle.std.proofs.Common.{◌≡◌, ℕ, zero, suc, ◌≤◌, Bool, true, false, List, [], ◌∷◌, ◌++◌, length, ◌==◌, ◌&&◌, not, ap, sym, refl, ◌∙◌, subst, ◌⊎◌, inl, inr, arith, length-append}
use Rattle.std.specs.Prelude.{Contains, eqb}
use Rattle.std.specs.List.{list_any}
use Rattle.std.proofs.lemmas.Bool.{and_from, and_parts, cases_Bool, eq-eqb, eqb-true, not_from_false}
use Rattle.std.proofs.lemmas.List.Elements.{Contains-append_cases, Contains-append_left, Contains-append_right}
use Rattle.armus_base.proofs.Elements.{Contains-cons_cases, Contains-head, Contains-tail, nothing_in_nil}
use Rattle.monitor_laws.specs.States.{Condition, Running, Waiting, Ended, AnyTask, OneOf, Participant, TraceState, is_live_task}
use Rattle.monitor_laws.specs.Stuck.{IsClosedSet, IsKeptIn, has_phase_below}
use Rattle.monitor_laws.specs.Told.{IsGreatestClosedSet, StuckIsKnown}
use Rattle.monitor_laws.proofs.Filters.{any_from, any_is}
use Rattle.monitor_laws.proofs.Deadlocked.{kept_in_larger}

module _ (s : TraceState) where
  -- some listed one passes a test and is in the set, or each one that passes is
  some_inside : (test : Participant → Bool) (set : ℕ → Bool) → ((u : Participant) × Contains s.list u × (test u ≡ true) × (set u.number ≡ true)) ⊎ ((u : Participant) → Contains s.list u → test u ≡ true → set u.number ≡ true → ⊥)
  some_inside test set = elim (cases_Bool (list_any (λ u. test u && set u.number) s.list)) [
    | inl some ↦ (let u = any_is (λ v. test v && set v.number) s.list some in let parts = and_parts (test u.0) (set u.0.number) u.2 in inl (u.0, u.1, parts.0, parts.1))
    | inr none ↦ inr (λ u within on inside. let a = any_from (λ v. test v && set v.number) s.list u within (and_from (test u) (set u.number) on inside) in cc)
  ]

  all_inside : (test : Participant → Bool) (set : ℕ → Bool) → ((u : Participant) → Contains s.list u → test u ≡ true → set u.number ≡ true) ⊎ (((u : Participant) → Contains s.list u → test u ≡ true → set u.number ≡ true) → ⊥)
  all_inside test set = elim (some_inside test (λ k. not (set k))) [
    | inl out ↦ inr (λ all. let inside = all out.0 out.1 out.2 in let outside = out.3 in let e = ap not inside in cc)
    | inr none ↦ inl (λ u within on. elim (cases_Bool (set u.number)) [ inl inside ↦ inside | inr outside ↦ absurd (none u within on (not_from_false (set u.number) outside)) ])
  ]

  -- does the set keep whoever is in this condition?
  kept_or_not : (set : ℕ → Bool) (c : Condition) → IsKeptIn s set c ⊎ (IsKeptIn s set c → ⊥)
  kept_or_not set Running = inr (λ kept. kept)
  kept_or_not set (Waiting p n) = elim (some_inside (λ u. has_phase_below u p n) set) [ inl kept ↦ inl kept | inr none ↦ inr (λ kept. none kept.0 kept.1 kept.2 kept.3) ]
  kept_or_not set Ended = inl tt
  kept_or_not set AnyTask = all_inside (λ u. is_live_task u.condition) set
  kept_or_not set (OneOf names tasks) = elim (all_inside (λ u. is_live_task u.condition && list_any (eqb u.number) tasks) set) [
    | inl all ↦ inl (λ u within live has. all u within (and_from (is_live_task u.condition) (list_any (eqb u.number) tasks) live (any_from (eqb u.number) tasks u.number has (eq-eqb u.number u.number refl))))
    | inr not_all ↦ inr (λ all. not_all (λ u within on.
        let parts = and_parts (is_live_task u.condition) (list_any (eqb u.number) tasks) on in
        let k = any_is (eqb u.number) tasks parts.1 in
        all u within parts.0 (subst (Contains tasks) (sym (eqb-true u.number k.0 k.2)) k.1)))
  ]

  -- one of the set whom it does not keep
  record Unkept (set : ℕ → Bool) (rest : List Participant) : Type 0 where
    one : Participant
    front : List Participant
    back : List Participant
    is : rest ≡ front ++ one ∷ back
    inside : set one.number ≡ true
    unkept : IsKeptIn s set one.condition → ⊥

  unkept_or_none : (set : ℕ → Bool) (rest : List Participant) → Unkept set rest ⊎ ((t : Participant) → Contains rest t → set t.number ≡ true → IsKeptIn s set t.condition)
  unkept_or_none set [] = inr (λ t within. absurd (nothing_in_nil t within))
  unkept_or_none set (u ∷ rest) = elim (unkept_or_none set rest) [
    | inl found ↦ inl (record { one = found.one; front = u ∷ found.front; back = found.back; is = ap (λ l. u ∷ l) found.is; inside = found.inside; unkept = found.unkept })
    | inr kept ↦ elim (cases_Bool (set u.number)) [
      | inr outside ↦ inr (λ t within inside. elim (Contains-cons_cases u rest t within) [
        | inl here ↦ absurd (let o = ap (λ (x : Participant). set x.number) here in cc)
        | inr there ↦ kept t there inside
      ])
      | inl inside ↦ elim (kept_or_not set u.condition) [
        | inr unkept ↦ inl (record { one = u; front = []; back = rest; is = refl; inside = inside; unkept = unkept })
        | inl own ↦ inr (λ t within i. elim (Contains-cons_cases u rest t within) [
          | inl here ↦ subst (λ (x : Participant). IsKeptIn s set x.condition) here own
          | inr there ↦ kept t there i
        ])
      ]
    ]
  ]

  -- the set has all that stand in a closed set
  abbrev HasAll : (ℕ → Bool) → Type 0
  HasAll set = (other : ℕ → Bool) → IsClosedSet s other → (t : Participant) → Contains s.list t → other t.number ≡ true → set t.number ≡ true

  -- one taken out
  without : (ℕ → Bool) → ℕ → ℕ → Bool
  without set k x = set x && not (x == k)

  in_without : (set : ℕ → Bool) (k x : ℕ) → set x ≡ true → (x == k) ≡ false → without set k x ≡ true
  unfolding without
  in_without set k x inside other = and_from (set x) (not (x == k)) inside (not_from_false (x == k) other)

  from_without : (set : ℕ → Bool) (k x : ℕ) → without set k x ≡ true → (set x ≡ true) × ((x == k) ≡ false)
  unfolding without
  from_without set k x inside =
      let parts = and_parts (set x) (not (x == k)) inside in
      (parts.0, elim (cases_Bool (x == k)) [ inl same ↦ absurd (let o = parts.1 in let e = ap not same in cc) | inr other ↦ other ])

  shrunk :
      (k : ℕ) (set : ℕ → Bool) (rest : List Participant) → length rest ≤ k → ((t : Participant) → Contains rest t → Contains s.list t) → HasAll set →
      ((t : Participant) → Contains s.list t → set t.number ≡ true → Contains rest t) → (known : ℕ → Bool) × IsGreatestClosedSet s known
  shrunk zero set rest short listed has_all cover =
      (set, record { closed = λ t within inside. absurd (let c = cover t within inside in let l = c.1 in omega arith); greatest = has_all })
  shrunk (suc k) set rest short listed has_all cover = elim (unkept_or_none set rest) [
    | inr kept ↦ (set, record { closed = λ t within inside. kept t (cover t within inside) inside; greatest = has_all })
    | inl found ↦
        shrunk k (without set found.one.number) (found.front ++ found.back)
        (let a = ap length found.is in let b = length-append found.front (found.one ∷ found.back) in let c = length-append found.front found.back in omega arith)
        (λ t within. listed t (subst (λ l. Contains l t) (sym found.is) (elim (Contains-append_cases found.front found.back t within) [
          | inl left ↦ Contains-append_left found.front (found.one ∷ found.back) t left
          | inr right ↦ Contains-append_right found.front (found.one ∷ found.back) t (Contains-tail found.one found.back t right)
        ])))
        (λ other closed t within inside. in_without set found.one.number t.number (has_all other closed t within inside) (elim (cases_Bool (t.number == found.one.number)) [
          | inr apart ↦ apart
          | inl same ↦ absurd (found.unkept (kept_in_larger s other set (λ u in_u i. has_all other closed u in_u i) found.one.condition (closed found.one
              (listed found.one (subst (λ l. Contains l found.one) (sym found.is) (Contains-append_right found.front (found.one ∷ found.back) found.one (Contains-head found.one found.back))))
              (ap other (sym (eqb-true t.number found.one.number same)) ∙ inside))))
        ]))
        (λ t within inside.
        let was = from_without set found.one.number t.number inside in
        elim (Contains-append_cases found.front (found.one ∷ found.back) t (subst (λ l. Contains l t) found.is (cover t within was.0))) [
          | inl left ↦ Contains-append_left found.front found.back t left
          | inr right ↦ elim (Contains-cons_cases found.one found.back t right) [
            | inl here ↦ absurd (let e = eq-eqb t.number found.one.number (ap (λ (x : Participant). x.number) (sym here)) in let o = was.1 in cc)
            | inr there ↦ Contains-append_right found.front found.back t there
          ]
        ])
  ]

pub stuck_is_known : StuckIsKnown
stuck_is_known s = shrunk s (length s.list) (λ k. true) s.list (omega arith) (λ t within. within) (λ other closed t within inside. refl) (λ t within inside. within)
