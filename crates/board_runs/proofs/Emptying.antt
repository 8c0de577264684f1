-- The children's seats are taken, task by task.
use Rattle.std.proofs.Common.{◌≡◌, ℕ, suc, ◌<◌, List, [], ◌∷◌, length, map, set, get_or, sym, refl, ap, subst, arith}
use Rattle.board_runs.specs.calls.Turns.{Working}
use Rattle.board_runs.specs.calls.Rounds.{emptied}

pub data IsEmptiedUpTo : ℕ → List Working → List Working → Type 0 where
  none_yet : {rest : List Working} → IsEmptiedUpTo 0 rest rest
  one_more : {n : ℕ} {w : Working} {olds news : List Working} → IsEmptiedUpTo n olds news → IsEmptiedUpTo (suc n) (w ∷ olds) (emptied w ∷ news)

pub there : {n : ℕ} {olds news : List Working} (d : Working) → IsEmptiedUpTo n olds news → get_or news n d ≡ get_or olds n d
there d none_yet = refl
there d (one_more p) = there d p

first_grows : (rest : List Working) (d x : Working) → 0 < length rest → x ≡ emptied (get_or rest 0 d) → IsEmptiedUpTo 1 rest (set rest 0 x)
first_grows [] d x l is = absurd (omega arith)
first_grows (w ∷ rest) d x l is = subst (λ (y : Working). IsEmptiedUpTo 1 (w ∷ rest) (y ∷ rest)) (sym is) (one_more none_yet)

pub grows : {n : ℕ} {olds news : List Working} (d x : Working) → IsEmptiedUpTo n olds news → n < length news → x ≡ emptied (get_or news n d) → IsEmptiedUpTo (suc n) olds (set news n x)
grows d x none_yet l is = first_grows _ d x l is
grows d x (one_more p) l is = one_more (grows d x p (omega arith) is)

all_none : (rest : List Working) → 0 ≡ length rest → rest ≡ map emptied rest
all_none [] e = refl
all_none (w ∷ rest) e = absurd (omega arith)

pub whole : {n : ℕ} {olds news : List Working} → IsEmptiedUpTo n olds news → n ≡ length news → news ≡ map emptied olds
whole none_yet e = all_none _ e
whole (one_more {w = w} p) e = ap (λ ws. emptied w ∷ ws) (whole p (omega arith))
