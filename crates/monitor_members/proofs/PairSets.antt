-- Pairs of a phase and a number after one was put or taken.
use Rattle.std.proofs.Common.{Ordering, ◌≡◌, ◌<◌, ◌≤◌, ℕ, Bool, true, false, not, ◌&&◌, ◌||◌, List, [], ◌∷◌, refl, sym, ◌∙◌, ap, inl, inr, arith}
use Rattle.std.specs.Prelude.{◌==◌, cond, nat_lt}
use Rattle.std.specs.BTreeSet.{BTreeSet, IsLowerBound, IsUpperBound, Updates, contains}
use Rattle.std.specs.Cmp.{tied_then}
use Rattle.std.specs.List.{list_any}
use Rattle.std.specs.Ordering.{is_eq, is_gt, is_lt, nat_cmp, ordering_then}
use Rattle.std.proofs.lemmas.Bool.{cases_Bool, ltb-false}
use Rattle.std.proofs.lemmas.Bool.Decides.{nat_tests}
use Rattle.monitor_members.specs.Noted.{has_pair}

-- how pairs are ordered
abbrev pub pair_cmp : ℕ × ℕ → ℕ × ℕ → Ordering
pair_cmp x y = ordering_then (nat_cmp x.0 y.0) (nat_cmp x.1 y.1)

same_number : (m n : ℕ) → is_eq (nat_cmp m n) ≡ (m == n)
same_number m n = grind (arith, nat_tests)

pub same_pair : (m k n j : ℕ) → is_eq (ordering_then (nat_cmp m n) (nat_cmp k j)) ≡ (m == n && k == j)
same_pair m k n j = sym (tied_then (nat_cmp m n) (nat_cmp k j)) ∙ ap (λ b. b && is_eq (nat_cmp k j)) (same_number m n) ∙ ap (λ b. m == n && b) (same_number k j)

pub contained : (pairs : List (ℕ × ℕ)) (m k : ℕ) → list_any (λ e. is_eq (pair_cmp (m, k) e)) pairs ≡ has_pair pairs m k
contained [] m k = refl
contained (e ∷ pairs) m k = ap (λ b. b || list_any (λ e. is_eq (pair_cmp (m, k) e)) pairs) (same_pair m k e.0 e.1) ∙ ap (λ b. (m == e.0 && k == e.1) || b) (contained pairs m k)

on_cond : (b x : Bool) → cond b true x ≡ (x || b)
on_cond true true = refl
on_cond true false = refl
on_cond false true = refl
on_cond false false = refl

off_cond : (b x : Bool) → cond b false x ≡ (x && not b)
off_cond true true = refl
off_cond true false = refl
off_cond false true = refl
off_cond false false = refl

module _ (old new : BTreeSet (ℕ × ℕ)) (m k : ℕ) where
  pub put : Updates pair_cmp old new (m, k) true → (n j : ℕ) → has_pair new.keys n j ≡ (has_pair old.keys n j || (m == n && k == j))
  put updates n j =
      sym (contained new.keys n j) ∙ updates.0 (n, j) ∙ on_cond (is_eq (pair_cmp (m, k) (n, j))) (contains pair_cmp old (n, j))
      ∙ ap (λ b. b || is_eq (pair_cmp (m, k) (n, j))) (contained old.keys n j) ∙ ap (λ b. has_pair old.keys n j || b) (same_pair m k n j)

  pub taken : Updates pair_cmp old new (m, k) false → (n j : ℕ) → has_pair new.keys n j ≡ (has_pair old.keys n j && not (m == n && k == j))
  taken updates n j =
      sym (contained new.keys n j) ∙ updates.0 (n, j) ∙ off_cond (is_eq (pair_cmp (m, k) (n, j))) (contains pair_cmp old (n, j))
      ∙ ap (λ b. b && not (is_eq (pair_cmp (m, k) (n, j)))) (contained old.keys n j) ∙ ap (λ b. has_pair old.keys n j && not b) (same_pair m k n j)

-- the least pair and the greatest one
not_after : (a b c d : ℕ) → is_gt (ordering_then (nat_cmp a b) (nat_cmp c d)) ≡ false → a ≤ b
not_after a b c d off = grind (arith, nat_tests)

not_before : (a b c d : ℕ) → is_lt (ordering_then (nat_cmp a b) (nat_cmp c d)) ≡ false → b ≤ a
not_before a b c d off = grind (arith, nat_tests)

module _ (pairs : BTreeSet (ℕ × ℕ)) where
  pub found : (e : ℕ × ℕ) → contains pair_cmp pairs e ≡ true → has_pair pairs.keys e.0 e.1 ≡ true
  found e there = sym (contained pairs.keys e.0 e.1) ∙ there

  absent : (m k : ℕ) → (contains pair_cmp pairs (m, k) ≡ true → ⊥) → has_pair pairs.keys m k ≡ false
  absent m k never = elim (cases_Bool (has_pair pairs.keys m k)) [
    | inl on ↦ absurd (never (contained pairs.keys m k ∙ on))
    | inr off ↦ off
  ]

  pub none_below : (e : ℕ × ℕ) (n : ℕ) → IsLowerBound pair_cmp pairs e → nat_lt e.0 n ≡ false → (m k : ℕ) → m < n → has_pair pairs.keys m k ≡ false
  none_below e n least off m k less = absent m k (λ there. (let le = not_after e.0 m e.1 k (least (m, k) there) in let not_less : n ≤ e.0 = ltb-false e.0 n off in omega arith))

  pub none_above : (e : ℕ × ℕ) (n : ℕ) → IsUpperBound pair_cmp pairs e → nat_lt n e.0 ≡ false → (m k : ℕ) → n < m → has_pair pairs.keys m k ≡ false
  none_above e n greatest off m k more = absent m k (λ there. (let le = not_before e.0 m e.1 k (greatest (m, k) there) in let not_more : e.0 ≤ n = ltb-false n e.0 off in omega arith))
