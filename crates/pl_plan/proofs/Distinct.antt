-- Two numbers have two names.
use Rattle.std.proofs.Common.{◌≡◌, ℕ, zero, suc, ◌<◌, Bool, true, false, List, [], ◌∷◌, length, Some, arith, sym, ◌∙◌, ap, refl}
use Rattle.std.specs.Prelude.{slice_get}
use Rattle.std.specs.Borrow.{Bor}
use Rattle.std.specs.Str.{bytes_eq}
use Rattle.std.specs.List.{IsDistinct, AllByRecursion}
use Rattle.std.proofs.lemmas.Slice.Eq.{bytes_eq-Decides}
use Rattle.std.proofs.lemmas.Bool.{false≢true}
use Rattle.std.proofs.lemmas.Option.{get_or_from_slice_get}
use Rattle.std.proofs.lemmas.List.{get_or-map}
use Rattle.pl_plan.specs.inside.Shows.{IsNumbering}
use Rattle.pl_plan.specs.inside.Numbers.{spelling}

pub spelling_at : (keys : List (Bor (List ℕ))) (i : ℕ) (k : Bor (List ℕ)) (name : List ℕ) → i < length keys → slice_get keys i ≡ Some k →
    bytes_eq name k.now ≡ true → spelling keys i ≡ name
spelling_at keys i k name lt e same =
    get_or-map (λ (b : Bor (List ℕ)). b.now) keys i k [] lt ∙ ap (λ (b : Bor (List ℕ)). b.now) (get_or_from_slice_get keys i k k e) ∙ sym ((bytes_eq-Decides name k.now).0 same)

pub other_way : (a b : List ℕ) → bytes_eq a b ≡ false → bytes_eq b a ≡ false
other_way a b e = by (bytes_eq b a) refl
  where
    by : (v : Bool) → bytes_eq b a ≡ v → bytes_eq b a ≡ false
    by false q = q
    by true q = absurd (false≢true (sym e ∙ (bytes_eq-Decides a b).1 (sym ((bytes_eq-Decides b a).0 q))))

all_at : (a : List ℕ) (keys : List (Bor (List ℕ))) → AllByRecursion (λ y. bytes_eq a y.now ≡ false) keys → (i : ℕ) → i < length keys → bytes_eq a (spelling keys i) ≡ false
all_at a [] h i lt = absurd (omega arith)
all_at a (k ∷ ks) h zero lt = h.0
all_at a (k ∷ ks) h (suc i) lt = all_at a ks h.1 i (omega arith)

pub numbering : (keys : List (Bor (List ℕ))) → IsDistinct (λ x y. bytes_eq x.now y.now) keys → IsNumbering (length keys) (spelling keys)
unfolding IsDistinct
numbering [] d x y lx ly ne = absurd (omega arith)
numbering (k ∷ ks) d zero zero lx ly ne = absurd (ne refl)
numbering (k ∷ ks) d zero (suc y) lx ly ne = all_at k.now ks d.0 y (omega arith)
numbering (k ∷ ks) d (suc x) zero lx ly ne = other_way k.now (spelling ks x) (all_at k.now ks d.0 x (omega arith))
numbering (k ∷ ks) d (suc x) (suc y) lx ly ne = numbering ks d.1 x y (omega arith) (omega arith) (λ e. ne (ap suc e))
