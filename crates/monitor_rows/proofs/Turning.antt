-- One turn of those that find groups.
use Rattle.std.proofs.Common.{◌≡◌, ℕ, suc, Bool, List, [], ◌∷◌, ◌++◌, map, sym, ◌∙◌, ap, append_assoc}
use Rattle.std.specs.Prelude.{not, filter}
use Rattle.monitor_rows.specs.inside.Turns.{turn_groups, turns_leave}

module _ {A : Type 0} (alike : A → A → Bool) (x : A) (tail xs others : List A) (is : xs ≡ x ∷ tail) (left : others ≡ filter (λ y. not (alike x y)) xs) where
  -- what is shown so far and what later turns show is all
  pub turned : {B : Type 0} (shown : A × List A → B) (before after : List B) (g : B) → g ≡ shown (x, filter (alike x) xs) → after ≡ before ++ g ∷ [] → (k : ℕ) → after ++ map shown (turn_groups alike k others) ≡ before ++ map shown (turn_groups alike (suc k) xs)
  turned {B} shown before after g group more k =
      ap (λ (l : List B). l ++ map shown (turn_groups alike k others)) more
      ∙ append_assoc before (g ∷ []) (map shown (turn_groups alike k others))
      ∙ ap (λ (b : B). before ++ (b ∷ map shown (turn_groups alike k others))) group
      ∙ ap (λ (l : List A). before ++ (shown (x, filter (alike x) xs) ∷ map shown (turn_groups alike k l))) left
      ∙ ap (λ (l : List A). before ++ (shown (x, filter (alike x) l) ∷ map shown (turn_groups alike k (filter (λ y. not (alike x y)) l)))) is
      ∙ sym (ap (λ (l : List A). before ++ map shown (turn_groups alike (suc k) l)) is)

  -- those who are left behind the others are left behind all
  pub turned_left : (k : ℕ) → turns_leave alike k others ≡ turns_leave alike (suc k) xs
  turned_left k =
      ap (turns_leave alike k) left
      ∙ ap (λ (l : List A). turns_leave alike k (filter (λ y. not (alike x y)) l)) is
      ∙ sym (ap (turns_leave alike (suc k)) is)
