-- Distances that are filled in step by step.
use Rattle.std.proofs.Common.{◌≡◌, ℕ, ◌<◌, Bool, true, Some, None, Option, length, refl, sym, ◌∙◌, ap, subst, inl, inr}
use Rattle.std.specs.Prelude.{Contains}
use Rattle.monitor_reasons.specs.declared.reaching.DistanceSearch.{DistanceSearch}
use Rattle.monitor_reasons.specs.inside.Distances.{distance_at}
use Rattle.monitor_reasons.specs.inside.Reaching.{IsFilling, HasDistance}

pub some_known : (o : Option ℕ) (d : ℕ) → o ≡ Some d → o ≡ None → ⊥
some_known o d some none = let e : Some d ≡ None = sym some ∙ none in cc

-- nothing changes
pub fills_nothing : (a : DistanceSearch) (d : ℕ) (p : ℕ → Bool) → IsFilling a a d p
fills_nothing a d p = record { long = refl; kept = λ t within. within; only = λ t within. inl within; each = λ t. inl refl }

-- nor in another that has the same
pub fills_same : (a b c : DistanceSearch) (d : ℕ) (p : ℕ → Bool) → IsFilling a b d p → c.distances ≡ b.distances → c.fresh ≡ b.fresh → IsFilling a c d p
fills_same a b c d p fills distances fresh = record {
  long = ap (λ v. length v.items) distances ∙ fills.long;
  kept = λ t within. subst (λ v. Contains v.items t) (sym fresh) (fills.kept t within);
  only = λ t within. elim (fills.only t (subst (λ v. Contains v.items t) fresh within)) [
    | inl old ↦ inl old
    | inr new ↦ inr (new.0, ap (λ v. distance_at v.items t) distances ∙ new.1)
  ];
  each = λ t. elim (fills.each t) [
    | inl same ↦ inl (ap (λ v. distance_at v.items t) distances ∙ same)
    | inr now ↦ inr (now.0, ap (λ v. distance_at v.items t) distances ∙ now.1, subst (λ v. Contains v.items t) (sym fresh) now.2, now.3)
  ];
}

-- one after the other
pub fills_then : (a b c : DistanceSearch) (d : ℕ) (p : ℕ → Bool) → IsFilling a b d p → IsFilling b c d p → IsFilling a c d p
fills_then a b c d p one other = record {
  long = other.long ∙ one.long;
  kept = λ t within. other.kept t (one.kept t within);
  only = λ t within. elim (other.only t within) [
    | inr now ↦ inr (subst (λ n. t < n) one.long now.0, now.1)
    | inl before ↦ elim (one.only t before) [
      | inl old ↦ inl old
      | inr now ↦ inr (now.0, stays t now.1)
    ]
  ];
  each = λ t. elim (one.each t) [
    | inl same ↦ elim (other.each t) [
      | inl still ↦ inl (still ∙ same)
      | inr now ↦ inr (sym same ∙ now.0, now.1, now.2, now.3)
    ]
    | inr now ↦ inr (now.0, stays t now.1, other.kept t now.2, now.3)
  ];
}
  where
    stays : (t : ℕ) → distance_at b.distances.items t ≡ Some d → distance_at c.distances.items t ≡ Some d
    stays t is = elim (other.each t) [
      | inl still ↦ still ∙ is
      | inr now ↦ absurd (some_known (distance_at b.distances.items t) d is now.0)
    ]

-- by a test that more pass
pub fills_more : (a b : DistanceSearch) (d : ℕ) (p q : ℕ → Bool) → ((t : ℕ) → p t ≡ true → q t ≡ true) → IsFilling a b d p → IsFilling a b d q
fills_more a b d p q more fills = record {
  long = fills.long;
  kept = fills.kept;
  only = fills.only;
  each = λ t. elim (fills.each t) [
    | inl same ↦ inl same
    | inr now ↦ inr (now.0, now.1, now.2, more t now.3)
  ];
}

-- who has a distance keeps it
pub reached_then : (a b : DistanceSearch) (d : ℕ) (p : ℕ → Bool) (t : ℕ) → IsFilling a b d p → HasDistance a t → HasDistance b t
reached_then a b d p t fills reached none = elim (fills.each t) [
  | inl same ↦ reached (sym same ∙ none)
  | inr now ↦ some_known (distance_at b.distances.items t) d now.1 none
]
