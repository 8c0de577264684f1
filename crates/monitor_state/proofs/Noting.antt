-- What is noted of a number, after it was noted or forgotten at some phases.
use Rattle.std.proofs.Common.{◌≡◌, ℕ, zero, suc, ◌+◌, ◌<◌, Bool, true, false, not, ◌&&◌, ◌||◌, Some, Result, Ok, Err, OnOk, OnErr, List, [], ◌∷◌, length, get_or, take, refl, sym, ◌∙◌, ap, subst, inl, inr, arith}
use Rattle.std.specs.Prelude.{◌==◌, bytes_eq}
use Rattle.std.specs.List.{list_any}
use Rattle.std.specs.Map.{lookup}
use Rattle.std.specs.Cmp.Lexicographic.{nat_list_eq_equiv}
use Rattle.std.proofs.lemmas.Bool.{cases_Bool, cond-true, cond-false}
use Rattle.std.proofs.lemmas.Bool.Decides.{nat_tests}
use Rattle.std.proofs.lemmas.List.Folds.{list_any_more}
use Rattle.std.proofs.lemmas.Slice.Eq.{bytes_eq-Decides}
use Rattle.monitor_members.specs.Noted.{is_here, is_noted}
use Rattle.monitor_members.specs.declared.index.PhaserIndex.{PhaserIndex}
use Rattle.monitor_state.specs.Indexes.{is_phase}
use Rattle.monitor_state.specs.inside.PhaserLists.{HasNoPhaserTwice, are_here, is_of_phaser}
use Rattle.monitor_state.specs.inside.Reindexing.{IsNotedAnew, IsNotedWhere, IsSameNoted}

-- facts on tests
pub or_more : (a b c : Bool) → ((a || b) || c) ≡ (a || (b || c))
or_more true b c = refl
or_more false b c = refl

pub and_less : (a b c : Bool) → ((a && not b) && not c) ≡ (a && not (b || c))
and_less true true c = refl
and_less true false c = refl
and_less false b c = refl

pub or_off : (a : Bool) → (a || false) ≡ a
or_off true = refl
or_off false = refl

pub and_on : (a : Bool) → (a && true) ≡ a
and_on true = refl
and_on false = refl

-- one more phase, or one less
module _ (ms : List (List ℕ × ℕ)) (i k : ℕ) (m : List ℕ × ℕ) (within : i < length ms) (is : m ≡ get_or ms i m) (q : List ℕ) (n j : ℕ) where
  one_more : are_here (take (i + 1) ms) k q n j ≡ (are_here (take i ms) k q n j || is_here m.0 m.1 k q n j)
  one_more = list_any_more _ ms i m within ∙ ap (λ x. are_here (take i ms) k q n j || is_here x.0 x.1 k q n j) (sym is)

  pub noted_more : (old now next : Bool) → now ≡ (old || are_here (take i ms) k q n j) → next ≡ (now || is_here m.0 m.1 k q n j) → next ≡ (old || are_here (take (i + 1) ms) k q n j)
  noted_more old now next before step =
      step ∙ ap (λ b. b || is_here m.0 m.1 k q n j) before ∙ or_more old (are_here (take i ms) k q n j) (is_here m.0 m.1 k q n j) ∙ ap (λ b. old || b) (sym one_more)

  pub noted_less : (old now next : Bool) → now ≡ (old && not (are_here (take i ms) k q n j)) → next ≡ (now && not (is_here m.0 m.1 k q n j)) → next ≡ (old && not (are_here (take (i + 1) ms) k q n j))
  noted_less old now next before step =
      step ∙ ap (λ b. b && not (is_here m.0 m.1 k q n j)) before ∙ and_less old (are_here (take i ms) k q n j) (is_here m.0 m.1 k q n j) ∙ ap (λ b. old && not b) (sym one_more)

-- none of some is none of the first ones
pub none_of_first : (ms : List (List ℕ × ℕ)) (i k : ℕ) (q : List ℕ) (n j : ℕ) → are_here ms k q n j ≡ false → are_here (take i ms) k q n j ≡ false
none_of_first [] zero k q n j none = refl
none_of_first [] (suc i) k q n j none = refl
none_of_first (m ∷ ms) zero k q n j none = refl
none_of_first (m ∷ ms) (suc i) k q n j none = both (is_here m.0 m.1 k q n j) (are_here ms k q n j) none (none_of_first ms i k q n j)
  where
    both : (a b : Bool) → (a || b) ≡ false → (b ≡ false → are_here (take i ms) k q n j ≡ false) → (a || are_here (take i ms) k q n j) ≡ false
    both true b none rest = absurd (let e : true ≡ false = none in cc)
    both false b none rest = rest none

-- nobody is here where none is of the phaser
nobody_here : (ms : List (List ℕ × ℕ)) (k : ℕ) (q : List ℕ) (n j : ℕ) → list_any (is_of_phaser q) ms ≡ false → are_here ms k q n j ≡ false
nobody_here [] k q n j none = refl
nobody_here (m ∷ ms) k q n j none = both (bytes_eq q m.0) (list_any (is_of_phaser q) ms) refl none (nobody_here ms k q n j)
  where
    both : (a b : Bool) → bytes_eq q m.0 ≡ a → (a || b) ≡ false → (b ≡ false → are_here ms k q n j ≡ false) → (is_here m.0 m.1 k q n j || are_here ms k q n j) ≡ false
    both true b e none rest = absurd (let f : true ≡ false = none in cc)
    both false b e none rest = ap (λ x. (x && (m.1 == n && k == j)) || are_here ms k q n j) (nat_list_eq_equiv.symm m.0 q ∙ e) ∙ rest none

pub and_off : (b : Bool) → (b && false) ≡ false
and_off true = refl
and_off false = refl

and_turned : (a b : Bool) → (a && b) ≡ (b && a)
and_turned true true = refl
and_turned true false = refl
and_turned false true = refl
and_turned false false = refl

-- of the memberships of different phasers one is here just where it has the phase
pub here_is : (ms : List (List ℕ × ℕ)) (k : ℕ) (q : List ℕ) (n j : ℕ) → HasNoPhaserTwice ms → are_here ms k q n j ≡ (k == j && is_phase (lookup (bytes_eq q) ms) n)
here_is [] k q n j once = sym (and_off (k == j))
here_is (m ∷ ms) k q n j once = elim (cases_Bool (bytes_eq q m.0)) [
  | inl here ↦
      (let e : q ≡ m.0 = (bytes_eq-Decides q m.0).0 here in
      ap (λ x. (x && (m.1 == n && k == j)) || are_here ms k q n j) (nat_list_eq_equiv.symm m.0 q ∙ here)
      ∙ ap (λ x. (m.1 == n && k == j) || x) (nobody_here ms k q n j (subst (λ x. list_any (is_of_phaser x) ms ≡ false) (sym e) once.0))
      ∙ or_off (m.1 == n && k == j) ∙ and_turned (m.1 == n) (k == j)
      ∙ ap (λ o. k == j && is_phase o n) (sym (cond-true (bytes_eq q m.0) (Some m.1) (lookup (bytes_eq q) ms) here)))
  | inr other ↦
      ap (λ x. (x && (m.1 == n && k == j)) || are_here ms k q n j) (nat_list_eq_equiv.symm m.0 q ∙ other)
      ∙ here_is ms k q n j once.1
      ∙ ap (λ o. k == j && is_phase o n) (sym (cond-false (bytes_eq q m.0) (Some m.1) (lookup (bytes_eq q) ms) other))
]

-- a test of two numbers that is the same number
same_number : (k j : ℕ) → (k == j) ≡ true → k ≡ j
same_number k j same = grind (arith, nat_tests)

self_number : (k : ℕ) → (k == k) ≡ true
self_number k = grind (arith, nat_tests)

-- a number is noted anew
module _ (k : ℕ) (old new : PhaserIndex) where
  pub by_number : (test : List ℕ → ℕ → Bool) → ((q : List ℕ) (n : ℕ) → is_noted new q n k ≡ test q n) → ((q : List ℕ) (n j : ℕ) → (k == j) ≡ false → is_noted new q n j ≡ is_noted old q n j) →
      IsNotedAnew old new k test
  by_number test own others q n j = elim (cases_Bool (k == j)) [
    | inl same ↦ subst (λ x. is_noted new q n x ≡ test q n) (same_number k j same) (own q n) ∙ sym (cond-true (k == j) (test q n) (is_noted old q n j) same)
    | inr other ↦ others q n j other ∙ sym (cond-false (k == j) (test q n) (is_noted old q n j) other)
  ]

  -- more is noted of it
  pub more_noted : (was more test : List ℕ → ℕ → Bool) → IsNotedWhere old k was → ((q : List ℕ) (n j : ℕ) → is_noted new q n j ≡ (is_noted old q n j || (k == j && more q n))) →
      ((q : List ℕ) (n : ℕ) → (was q n || more q n) ≡ test q n) → IsNotedAnew old new k test
  more_noted was more test before step is =
      by_number test (λ q n. step q n k ∙ ap (λ b. is_noted old q n k || (b && more q n)) (self_number k) ∙ ap (λ b. b || more q n) (before q n) ∙ is q n)
      (λ q n j other. step q n j ∙ ap (λ b. is_noted old q n j || (b && more q n)) other ∙ or_off (is_noted old q n j))

  -- less is noted of it
  pub less_noted : (was less test : List ℕ → ℕ → Bool) → IsNotedWhere old k was → ((q : List ℕ) (n j : ℕ) → is_noted new q n j ≡ (is_noted old q n j && not (k == j && less q n))) →
      ((q : List ℕ) (n : ℕ) → (was q n && not (less q n)) ≡ test q n) → IsNotedAnew old new k test
  less_noted was less test before step is =
      by_number test (λ q n. step q n k ∙ ap (λ b. is_noted old q n k && not (b && less q n)) (self_number k) ∙ ap (λ b. b && not (less q n)) (before q n) ∙ is q n)
      (λ q n j other. step q n j ∙ ap (λ b. is_noted old q n j && not (b && less q n)) other ∙ and_on (is_noted old q n j))

  -- what is noted of it now
  pub noted_where : (test : List ℕ → ℕ → Bool) → IsNotedAnew old new k test → IsNotedWhere new k test
  noted_where test anew q n = anew q n k ∙ cond-true (k == k) (test q n) (is_noted old q n k) (self_number k)

  -- noted anew as it was
  pub same_again : (test : List ℕ → ℕ → Bool) → IsNotedWhere old k test → IsNotedAnew old new k test → IsSameNoted old new
  same_again test before anew q n j = elim (cases_Bool (k == j)) [
    | inl same ↦ anew q n j ∙ cond-true (k == j) (test q n) (is_noted old q n j) same ∙ sym (subst (λ x. is_noted old q n x ≡ test q n) (same_number k j same) (before q n))
    | inr other ↦ anew q n j ∙ cond-false (k == j) (test q n) (is_noted old q n j) other
  ]

  -- where nobody else and nothing of it changes, it is noted anew
  pub anew_as_it_is : (was test : List ℕ → ℕ → Bool) → IsNotedWhere old k was → IsSameNoted old new → ((q : List ℕ) (n : ℕ) → was q n ≡ test q n) → IsNotedAnew old new k test
  anew_as_it_is was test before same is = by_number test (λ q n. same q n k ∙ before q n ∙ is q n) (λ q n j other. same q n j)

-- noted anew twice
pub anew_twice : (k : ℕ) (old now new : PhaserIndex) (one two : List ℕ → ℕ → Bool) → IsNotedAnew old now k one → IsNotedAnew now new k two → IsNotedAnew old new k two
anew_twice k old now new one two first second =
    by_number k old new two (noted_where k now new two second)
    (λ q n j other. second q n j ∙ cond-false (k == j) (two q n) (is_noted now q n j) other ∙ first q n j ∙ cond-false (k == j) (one q n) (is_noted old q n j) other)

-- one phase of a phaser
pub here_turned : (p : List ℕ) (m k : ℕ) (q : List ℕ) (n j : ℕ) → is_here p m k q n j ≡ (k == j && (bytes_eq p q && m == n))
here_turned p m k q n j = turned (bytes_eq p q) (m == n) (k == j)
  where
    turned : (a b c : Bool) → (a && (b && c)) ≡ (c && (a && b))
    turned true b c = and_turned b c
    turned false b c = sym (and_off c)

-- what was noted at some of these phases of it is forgotten
module _ (k : ℕ) (ms : List (List ℕ × ℕ)) (phase : List ℕ → ℕ → Bool) (here : (q : List ℕ) (n j : ℕ) → are_here ms k q n j ≡ (k == j && phase q n)) where
  here_own : (q : List ℕ) (n : ℕ) → are_here ms k q n k ≡ phase q n
  here_own q n = here q n k ∙ ap (λ b. b && phase q n) (self_number k)

  pub all_forgotten : (old new : PhaserIndex) → ((q : List ℕ) (n : ℕ) → is_noted old q n k ≡ true → phase q n ≡ true) →
      ((q : List ℕ) (n j : ℕ) → is_noted new q n j ≡ (is_noted old q n j && not (are_here ms k q n j))) → IsNotedAnew old new k (λ q n. false)
  all_forgotten old new some step =
      by_number k old new (λ q n. false)
      (λ q n. step q n k ∙ ap (λ b. is_noted old q n k && not b) (here_own q n) ∙ none (is_noted old q n k) (phase q n) (some q n))
      (λ q n j other. step q n j ∙ ap (λ b. is_noted old q n j && not b) (here q n j ∙ ap (λ b. b && phase q n) other) ∙ and_on (is_noted old q n j))
    where
      none : (a b : Bool) → (a ≡ true → b ≡ true) → (a && not b) ≡ false
      none true true follows = refl
      none true false follows = absurd (let e : false ≡ true = follows refl in cc)
      none false b follows = refl

  pub all_undone : (old now new : PhaserIndex) → IsNotedWhere old k (λ q n. false) → ((q : List ℕ) (n j : ℕ) → are_here ms k q n j ≡ false → is_noted now q n j ≡ is_noted old q n j) →
      ((q : List ℕ) (n j : ℕ) → is_noted new q n j ≡ (is_noted now q n j && not (are_here ms k q n j))) → IsSameNoted old new
  all_undone old now new before others step q n j = elim (cases_Bool (are_here ms k q n j)) [
    | inl on ↦
        (let same : k ≡ j = same_number k j (first_part (k == j) (phase q n) (sym (here q n j) ∙ on)) in
        step q n j ∙ ap (λ b. is_noted now q n j && not b) on ∙ and_off (is_noted now q n j) ∙ sym (subst (λ x. is_noted old q n x ≡ false) same (before q n)))
    | inr off ↦ step q n j ∙ ap (λ b. is_noted now q n j && not b) off ∙ and_on (is_noted now q n j) ∙ others q n j off
  ]
    where
      first_part : (a b : Bool) → (a && b) ≡ true → a ≡ true
      first_part true b both = refl
      first_part false b both = both

-- what follows from what holds of a success
pub on_ok : {A E : Type 0} (r : Result A E) (X Y : Type 0) → (X → Y) → OnOk r X → OnOk r Y
on_ok (Ok a) X Y follows holds = follows holds
on_ok (Err e) X Y follows holds = tt

pub on_ok_too : {A E : Type 0} (r : Result A E) (X : Type 0) → X → OnOk r X
on_ok_too (Ok a) X holds = holds
on_ok_too (Err e) X holds = tt

pub on_err_too : {A E : Type 0} (r : Result A E) (X : Type 0) → X → OnErr r X
on_err_too (Ok a) X holds = tt
on_err_too (Err e) X holds = holds
