-- What searches among events in order find.
use Rattle.std.proofs.Common.{◌≡◌, ℕ, ◌<◌, ◌≤◌, true, false, ◌⊎◌, List, length, sym, ◌∙◌, inl, inr, arith, get_or, leb}
use Rattle.std.specs.List.Sorted.{IsPartitionedBy, IsPartitionPoint}
use Rattle.std.proofs.lemmas.Bool.{cases_lt, cases_order, le-leb, leb-true}
use Rattle.armus_base.specs.declared.event.Event.{Event}
use Rattle.armus_base.specs.declared.status.Member.{Member}
use Rattle.dep_state.specs.inside.Made.{NeverFalls, NotAfter}
use Rattle.dep_state.proofs.AddedRows.{not_after_test, tests_not_after}
use Rattle.adaptive.specs.inside.Waits.{IsFirstOnLater, IsFirstPast}
use Rattle.adaptive.proofs.AwaitedEvents.{never_before, not_after_trans, phase_of, phaser_not_later}

-- whether an event is after another is decided
decides : (a b : Event) → NotAfter a b ⊎ (NotAfter a b → ⊥)
decides a b =
    elim (cases_order a.p.0 b.p.0) [
      | inl same ↦ elim (cases_lt b.n a.n) [
        | inl more ↦ inr (later same more)
        | inr less ↦ inl (inr (same, less))
      ]
      | inr apart ↦ elim apart [
        | inl less ↦ inl (inl less)
        | inr more ↦ inr (beyond more)
      ]
    ]
  where
    later : a.p.0 ≡ b.p.0 → b.n < a.n → NotAfter a b → ⊥
    later same more (inl l) = omega arith
    later same more (inr (s, l)) = omega arith

    beyond : b.p.0 < a.p.0 → NotAfter a b → ⊥
    beyond more (inl l) = omega arith
    beyond more (inr (s, l)) = omega arith

of_test : (a b : Event) → NotAfter a b → not_after_test a b ≡ true
of_test a b h = sym (tests_not_after a b true h)

test_true : (a b : Event) → not_after_test a b ≡ true → NotAfter a b
test_true a b e =
    elim (decides a b) [
      | inl h ↦ h
      | inr n ↦ absurd (let no : false ≡ true = tests_not_after a b false n ∙ e in cc)
    ]

test_false : (a b : Event) → not_after_test a b ≡ false → NotAfter a b → ⊥
test_false a b e h = (let no : true ≡ false = tests_not_after a b true h ∙ e in cc)

module _ (es : List Event) (m : Member) where
  pub past_parted : NeverFalls es → IsPartitionedBy (λ e. not_after_test e (phase_of m)) es
  past_parted falls i j d le lt on =
      of_test (get_or es i d) (phase_of m)
      (not_after_trans (get_or es i d) (get_or es j d) (phase_of m) (never_before es falls i j d le lt) (test_true (get_or es j d) (phase_of m) on))

  pub first_past_at : (n : ℕ) → n ≤ length es →
      IsPartitionPoint (λ e. not_after_test e (phase_of m) ≡ true) (λ e. not_after_test e (phase_of m) ≡ false) es n → IsFirstPast es m n
  first_past_at n le point =
      record {
        inside = le;
        ahead = λ k d lt. test_true (get_or es k d) (phase_of m) (point.0 k d (omega arith) lt);
        from = λ k d l lt. test_false (get_or es k d) (phase_of m) (point.1 k d l lt);
      }

module _ (es : List Event) (p : ℕ) where
  pub later_parted : NeverFalls es → IsPartitionedBy (λ (e : Event). leb e.p.0 p) es
  later_parted falls i j d le lt on =
      le-leb (get_or es i d).p.0 p
      (let a = phaser_not_later (get_or es i d) (get_or es j d) (never_before es falls i j d le lt) in let b = leb-true (get_or es j d).p.0 p on in omega arith)

  not_below : (a : ℕ) → leb a p ≡ false → p < a
  not_below a e = grind arith

  pub first_on_later_at : (n : ℕ) → n ≤ length es → IsPartitionPoint (λ e. leb e.p.0 p ≡ true) (λ e. leb e.p.0 p ≡ false) es n → IsFirstOnLater es p n
  first_on_later_at n le point =
      record {
        inside = le;
        ahead = λ k d lt. leb-true (get_or es k d).p.0 p (point.0 k d (omega arith) lt);
        from = λ k d l lt. not_below (get_or es k d).p.0 (point.1 k d l lt);
      }
