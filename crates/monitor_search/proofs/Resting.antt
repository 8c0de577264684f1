-- Whether somebody who does not run stands below a phase and passes a test, by the numbers of those who do not run.
use Rattle.std.proofs.Common.{◌≡◌, ◌==◌, ℕ, ◌≤◌, Bool, true, false, not, ◌&&◌, ◌||◌, List, [], ◌∷◌, refl, sym, ◌∙◌, ap, subst, inl, inr, arith}
use Rattle.std.specs.Prelude.{Contains, nat_lt}
use Rattle.std.specs.List.{list_any}
use Rattle.std.specs.List.Sorted.{IsStrictlySortedBy}
use Rattle.std.specs.Ordering.{is_gt, nat_cmp, ordering_then}
use Rattle.std.proofs.lemmas.Bool.{and_from, and_parts, cases_Bool, eq-eqb, eqb-true, ltb-true, not_from_false}
use Rattle.std.proofs.lemmas.Bool.Decides.{nat_tests}
use Rattle.std.proofs.lemmas.Map.Keys.{Less-from_sorted, sorted_tail}
use Rattle.monitor_laws.specs.States.{Condition, Running, Waiting, Ended, AnyTask, OneOf, Participant}
use Rattle.monitor_laws.specs.Stuck.{has_phase_below}
use Rattle.monitor_laws.proofs.Filters.{any_from, any_is}
use Rattle.monitor_members.specs.Noted.{has_pair}
use Rattle.monitor_members.proofs.PairSets.{pair_cmp}
use Rattle.monitor_state.specs.Indexes.{AreResting, is_running, rests_at}
use Rattle.monitor_state.proofs.Beyond.{less_tested, rests_from, rests_to}
use Rattle.monitor_search.specs.inside.Leaving.{is_freed, passes_below, passes_numbered}
use Rattle.monitor_search.specs.inside.Waits.{was_outside}

not_less : (m n k : ℕ) → m ≤ k → nat_lt m n ≡ false → nat_lt k n ≡ false
not_less m n k le off = grind (arith, nat_tests)

is_past : (m n : ℕ) → n ≤ m → nat_lt m n ≡ false
is_past m n le = grind (arith, nat_tests)

not_after : (a b c d : ℕ) → is_gt (ordering_then (nat_cmp a b) (nat_cmp c d)) ≡ false → a ≤ b
not_after a b c d off = grind (arith, nat_tests)

off_past : (test : ℕ → Bool) (n : ℕ) (e : ℕ × ℕ) (es : List (ℕ × ℕ)) → IsStrictlySortedBy pair_cmp (e ∷ es) → nat_lt e.0 n ≡ false → passes_below test n (e ∷ es) ≡ false
off_past test n e [] rise off = ap (λ b. (b && test e.1) || false) off
off_past test n e (d ∷ es) rise off =
    let less = Less-from_sorted pair_cmp (e ∷ d ∷ es) 0 1 e rise (omega arith) (omega arith) in
    let below : e.0 ≤ d.0 = not_after e.0 d.0 e.1 d.1 (ap is_gt less) in
    ap (λ b. (b && test e.1) || passes_below test n (d ∷ es)) off
    ∙ off_past test n d es (sorted_tail pair_cmp e (d ∷ es) rise) (not_less e.0 n d.0 below off)

-- of pairs in their order, from one on whose phase is not below, none passes
pub none_past : (test : ℕ → Bool) (n : ℕ) (e : ℕ × ℕ) (es : List (ℕ × ℕ)) → IsStrictlySortedBy pair_cmp (e ∷ es) → n ≤ e.0 → passes_below test n (e ∷ es) ≡ false
none_past test n e es rise past = off_past test n e es rise (is_past e.0 n past)

-- where the first of them has a number that does not pass, the others tell
pub passed_over : (test : ℕ → Bool) (n : ℕ) (e : ℕ × ℕ) (es : List (ℕ × ℕ)) → test e.1 ≡ false → passes_below test n (e ∷ es) ≡ passes_below test n es
passed_over test n e es off = ap (λ b. (nat_lt e.0 n && b) || passes_below test n es) off ∙ ap (λ b. b || passes_below test n es) (and_off (nat_lt e.0 n))
  where
    and_off : (b : Bool) → (b && false) ≡ false
    and_off true = refl
    and_off false = refl

module _ (list : List Participant) (one : (u v : Participant) → Contains list u → Contains list v → u.number ≡ v.number → u ≡ v) (p : List ℕ) (n : ℕ) (pairs : List (ℕ × ℕ)) (resting : AreResting list p pairs)
    (test : Participant → Bool) (idle : (u : Participant) → test u ≡ true → is_running u.condition ≡ false) where
  from_pairs : passes_below (passes_numbered test list) n pairs ≡ true → list_any (λ u. has_phase_below u p n && test u) list ≡ true
  from_pairs on =
      let e = any_is (λ (e : ℕ × ℕ). nat_lt e.0 n && passes_numbered test list e.1) pairs on in
      let parts = and_parts (nat_lt e.0.0 n) (passes_numbered test list e.0.1) e.2 in
      let u = any_is (λ u. test u && u.number == e.0.1) list parts.1 in
      let own = and_parts (test u.0) (u.0.number == e.0.1) u.2 in
      let noted : has_pair pairs e.0.0 e.0.1 ≡ true =
      any_from (λ (d : ℕ × ℕ). e.0.0 == d.0 && e.0.1 == d.1) pairs e.0 e.1 (and_from (e.0.0 == e.0.0) (e.0.1 == e.0.1) (eq-eqb e.0.0 e.0.0 refl) (eq-eqb e.0.1 e.0.1 refl)) in
      let v = any_is (λ v. v.number == e.0.1 && rests_at p e.0.0 v) list (sym (resting e.0.0 e.0.1) ∙ noted) in
      let there = and_parts (v.0.number == e.0.1) (rests_at p e.0.0 v.0) v.2 in
      let same : v.0 ≡ u.0 = one v.0 u.0 v.1 u.1 (eqb-true v.0.number e.0.1 there.0 ∙ sym (eqb-true u.0.number e.0.1 own.1)) in
      let below : has_phase_below v.0 p n ≡ true = (and_parts (not (is_running v.0.condition)) (has_phase_below v.0 p n) (rests_to p n v.0 e.0.0 there.1 (ltb-true e.0.0 n parts.0))).1 in
      any_from (λ u. has_phase_below u p n && test u) list u.0 u.1 (and_from (has_phase_below u.0 p n) (test u.0) (subst (λ (x : Participant). has_phase_below x p n ≡ true) same below) own.0)

  to_pairs : list_any (λ u. has_phase_below u p n && test u) list ≡ true → passes_below (passes_numbered test list) n pairs ≡ true
  to_pairs on =
      let u = any_is (λ u. has_phase_below u p n && test u) list on in
      let parts = and_parts (has_phase_below u.0 p n) (test u.0) u.2 in
      let at = rests_from p n u.0 (and_from (not (is_running u.0.condition)) (has_phase_below u.0 p n) (not_from_false (is_running u.0.condition) (idle u.0 parts.1)) parts.0) in
      let some = any_from (λ v. v.number == u.0.number && rests_at p at.0 v) list u.0 u.1 (and_from (u.0.number == u.0.number) (rests_at p at.0 u.0) (eq-eqb u.0.number u.0.number refl) at.2) in
      let e = any_is (λ (d : ℕ × ℕ). at.0 == d.0 && u.0.number == d.1) pairs (resting at.0 u.0.number ∙ some) in
      let same = and_parts (at.0 == e.0.0) (u.0.number == e.0.1) e.2 in
      any_from (λ (e : ℕ × ℕ). nat_lt e.0 n && passes_numbered test list e.1) pairs e.0 e.1
      (and_from (nat_lt e.0.0 n) (passes_numbered test list e.0.1) (subst (λ m. nat_lt m n ≡ true) (eqb-true at.0 e.0.0 same.0) (less_tested at.0 n at.1))
      (any_from (λ v. test v && v.number == e.0.1) list u.0 u.1 (and_from (test u.0) (u.0.number == e.0.1) parts.1 same.1)))

  pub resting_told : passes_below (passes_numbered test list) n pairs ≡ list_any (λ u. has_phase_below u p n && test u) list
  resting_told = elim (cases_Bool (passes_below (passes_numbered test list) n pairs)) [
    | inl on ↦ on ∙ sym (from_pairs on)
    | inr off ↦ elim (cases_Bool (list_any (λ u. has_phase_below u p n && test u) list)) [
      | inr none ↦ off ∙ sym none
      | inl on ↦ absurd (let e = to_pairs on in cc)
    ]
  ]

-- who is not freed does not run, nor does who may have stood in a closed set
pub unfreed_rests : (list : List Participant) (c : Condition) → not (is_freed list c) ≡ true → is_running c ≡ false
unfreed_rests list Running on = absurd (cc)
unfreed_rests list (Waiting p n) on = refl
unfreed_rests list Ended on = refl
unfreed_rests list AnyTask on = refl
unfreed_rests list (OneOf names tasks) on = refl

pub inside_rests : (list : List Participant) (known : List (ℕ × List ℕ)) (k number : ℕ) (c : Condition) → not (was_outside list known k number c) ≡ true → is_running c ≡ false
inside_rests list known k number Running on = absurd (cc)
inside_rests list known k number (Waiting p n) on = refl
inside_rests list known k number Ended on = refl
inside_rests list known k number AnyTask on = refl
inside_rests list known k number (OneOf names tasks) on = refl
