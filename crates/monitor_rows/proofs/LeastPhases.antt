-- The least phases on phasers, one more noted after the other.
use Rattle.std.proofs.Common.{◌≡◌, ℕ, ◌<◌, ◌+◌, ◌&&◌, ◌||◌, Bool, true, false, Some, None, Option, List, [], ◌∷◌, length, get_or, take, refl, sym, ◌∙◌, ap, inl, inr, ◌⊎◌}
use Rattle.std.specs.Prelude.{bytes_eq, nat_lt, if◌then◌else◌}
use Rattle.std.specs.List.{list_any}
use Rattle.std.specs.Map.{lookup}
use Rattle.std.proofs.lemmas.Bool.{cases_Bool, cond-true, cond-false, true≢false}
use Rattle.std.proofs.lemmas.List.Folds.{list_any_more}
use Rattle.std.proofs.lemmas.Slice.Eq.{bytes_eq-Decides}
use Rattle.std.proofs.Math.Bool.{or-false}
use Rattle.monitor_laws.specs.Faults.{waits_now}
use Rattle.monitor_laws.specs.States.{AnyTask, Condition, Ended, OneOf, Participant, Running, Waiting}
use Rattle.monitor_laws.specs.Stuck.{is_phase_below}
use Rattle.monitor_words.specs.Stops.{impedes_wait, waited_for}

-- a phase is below n just where it is not above both
pub noted_update : (f : List ℕ → Option ℕ) (p q : List ℕ) (m n : ℕ) (w : Option ℕ) → is_phase_below w n ≡ (is_phase_below (f p) n || nat_lt m n) →
    is_phase_below (if bytes_eq p q then w else f q) n ≡ (is_phase_below (f q) n || (bytes_eq q p && nat_lt m n))
noted_update f p q m n w was = elim (cases_Bool (bytes_eq p q)) [
  | inl on ↦
      (let e = (bytes_eq-Decides p q).0 on in
      ap (λ o. is_phase_below o n) (cond-true (bytes_eq p q) w (f q) on) ∙ was
      ∙ ap (λ x. is_phase_below (f x) n || nat_lt m n) e
      ∙ ap (λ b. is_phase_below (f q) n || (b && nat_lt m n)) (sym ((bytes_eq-Decides q p).1 (sym e))))
  | inr off ↦
      (let other : bytes_eq q p ≡ false = elim (cases_Bool (bytes_eq q p)) [
        | inr none ↦ none
        | inl on ↦ absurd (true≢false (sym ((bytes_eq-Decides p q).1 (sym ((bytes_eq-Decides q p).0 on))) ∙ off))
      ] in
      ap (λ o. is_phase_below o n) (cond-false (bytes_eq p q) w (f q) off)
      ∙ sym (or-false (is_phase_below (f q) n))
      ∙ ap (λ b. is_phase_below (f q) n || (b && nat_lt m n)) (sym other))
]

or_three : (a b c d : Bool) → ((a || (b && d)) || (c && d)) ≡ (a || ((b || c) && d))
or_three true b c d = refl
or_three false true c true = refl
or_three false true true false = refl
or_three false true false false = refl
or_three false false c d = refl

-- one more phaser
pub named_more : (known : Bool) (ms : List (List ℕ × ℕ)) (i : ℕ) (m : List ℕ × ℕ) (q : List ℕ) (below : Bool) → i < length ms → m ≡ get_or ms i m →
    ((known || (list_any (λ (k : List ℕ × ℕ). bytes_eq q k.0) (take i ms) && below)) || (bytes_eq q m.0 && below))
    ≡ (known || (list_any (λ (k : List ℕ × ℕ). bytes_eq q k.0) (take (i + 1) ms) && below))
named_more known ms i m q below within is =
    or_three known (list_any (λ (k : List ℕ × ℕ). bytes_eq q k.0) (take i ms)) (bytes_eq q m.0) below
    ∙ ap (λ b. known || (b && below))
    (ap (λ (x : List ℕ × ℕ). list_any (λ (k : List ℕ × ℕ). bytes_eq q k.0) (take i ms) || bytes_eq q x.0) is
    ∙ sym (list_any_more (λ (k : List ℕ × ℕ). bytes_eq q k.0) ms i m within))

-- who is a member of none of them has no phase there
none_named : (ms : List (List ℕ × ℕ)) (q : List ℕ) → list_any (λ (k : List ℕ × ℕ). bytes_eq q k.0) ms ≡ false → lookup (bytes_eq q) ms ≡ None
none_named [] q none = refl
none_named (m ∷ ms) q none = by_test (λ rest. none_named ms q rest) (cases_Bool (bytes_eq q m.0))
  where
    by_test : (list_any (λ (k : List ℕ × ℕ). bytes_eq q k.0) ms ≡ false → lookup (bytes_eq q) ms ≡ None) → ((bytes_eq q m.0 ≡ true) ⊎ (bytes_eq q m.0 ≡ false)) → lookup (bytes_eq q) (m ∷ ms) ≡ None
    by_test rest (inl on) = absurd (true≢false (sym (ap (λ b. b || list_any (λ (k : List ℕ × ℕ). bytes_eq q k.0) ms) on) ∙ none))
    by_test rest (inr off) =
        cond-false (bytes_eq q m.0) (Some m.1) (lookup (bytes_eq q) ms) off
        ∙ rest (sym (ap (λ b. b || list_any (λ (k : List ℕ × ℕ). bytes_eq q k.0) ms) off) ∙ none)

-- all of them
pub noted_all : (known : Bool) (ms : List (List ℕ × ℕ)) (q : List ℕ) (n : ℕ) →
    (known || (list_any (λ (k : List ℕ × ℕ). bytes_eq q k.0) ms && is_phase_below (lookup (bytes_eq q) ms) n)) ≡ (known || is_phase_below (lookup (bytes_eq q) ms) n)
noted_all known ms q n = elim (cases_Bool (list_any (λ (k : List ℕ × ℕ). bytes_eq q k.0) ms)) [
  | inl on ↦ ap (λ b. known || (b && is_phase_below (lookup (bytes_eq q) ms) n)) on
  | inr off ↦
      ap (λ b. known || (b && is_phase_below (lookup (bytes_eq q) ms) n)) off
      ∙ ap (λ o. known || is_phase_below o n) (sym (none_named ms q off))
]

none_of : {A : Type 0} (xs : List A) → false ≡ list_any (λ x. false) xs
none_of [] = refl
none_of (x ∷ xs) = none_of xs

-- who does not wait is kept waiting by nobody
pub not_kept : (us : List Participant) (c : Condition) → waits_now c ≡ false → false ≡ list_any (λ u. impedes_wait u (waited_for c)) us
not_kept us Running none = none_of us
not_kept us (Waiting p n) none = absurd (true≢false none)
not_kept us Ended none = none_of us
not_kept us AnyTask none = none_of us
not_kept us (OneOf names tasks) none = none_of us
