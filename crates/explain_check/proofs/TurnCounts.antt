-- In which turns a task is, when one visit more comes behind.
use Rattle.std.proofs.Common.{◌≡◌, ℕ, suc, ◌+◌, Bool, true, false, not, List, [], ◌∷◌, ◌++◌, arith, ◌∙◌, ap, refl}
use Rattle.std.specs.Prelude.{◌==◌, count_by, if◌then◌else◌, reverse, take}
use Rattle.std.specs.List.{before_first, position_or_len}
use Rattle.std.proofs.lemmas.List.{reverse-append}
use Rattle.std.proofs.lemmas.List.Sums.{sum_by-cons}
use Rattle.pl_plan.specs.Unfolding.{Visit}
use Rattle.pl_plan.specs.Stages.{Stage, begins, comes, leaves}
use Rattle.explain_check.specs.Turns.{begins_turn, comes_to_loop, turn_in, visits_among}

by_task : (b : Bool) (m : Visit) (all xs ys : List Visit) → all ≡ xs ++ ys → (if b then m ∷ all else all) ≡ (if b then m ∷ xs else xs) ++ ys
by_task true m all xs ys e = ap (λ z. m ∷ z) e
by_task false m all xs ys e = e

pub among_append : (u : ℕ) (xs ys : List Stage) → visits_among u (xs ++ ys) ≡ visits_among u xs ++ visits_among u ys
among_append u [] ys = refl
among_append u (begins t ∷ xs) ys = among_append u xs ys
among_append u (leaves t p ∷ xs) ys = among_append u xs ys
among_append u (comes t m ∷ xs) ys = by_task (t == u) m (visits_among u (xs ++ ys)) (visits_among u xs) (visits_among u ys) (among_append u xs ys)

before_cons : {X : Type 0} (p : X → Bool) (x : X) (xs : List X) (b : Bool) → p x ≡ b → before_first p (x ∷ xs) ≡ (if b then [] else x ∷ before_first p xs)
before_cons p x xs true is = ap (λ c. take (if not c then 1 + position_or_len p xs else 0) (x ∷ xs)) is
before_cons p x xs false is =
    let n = position_or_len p xs in
    ap (λ c. take (if not c then 1 + n else 0) (x ∷ xs)) is ∙ ap (λ k. take k (x ∷ xs)) (let e : 1 + n ≡ suc n = omega arith in e)

count_cons : {X : Type 0} (p : X → Bool) (x : X) (xs : List X) → count_by p (x ∷ xs) ≡ (if p x then 1 else 0) + count_by p xs
count_cons p x xs = sum_by-cons (λ y. if p y then 1 else 0) x xs

-- by what the new visit is
pub turn_more :
    (n : ℕ) (vs : List Visit) (m : Visit) (a b : Bool) → comes_to_loop n m ≡ a → begins_turn n m ≡ b →
    turn_in n (vs ++ m ∷ []) ≡ (if a then 0 else (if b then turn_in n vs + 1 else turn_in n vs))
turn_more n vs m a b comes_is begins_is =
    ap (λ ys. count_by (begins_turn n) (before_first (comes_to_loop n) ys)) (reverse-append vs (m ∷ []))
    ∙ ap (count_by (begins_turn n)) (before_cons (comes_to_loop n) m (reverse vs) a comes_is)
    ∙ by a b begins_is
  where
    by : (a b : Bool) → begins_turn n m ≡ b →
        count_by (begins_turn n) (if a then [] else m ∷ before_first (comes_to_loop n) (reverse vs)) ≡ (if a then 0 else (if b then turn_in n vs + 1 else turn_in n vs))
    by true b is = refl
    by false true is =
        count_cons (begins_turn n) m (before_first (comes_to_loop n) (reverse vs))
        ∙ ap (λ c. (if c then 1 else 0) + turn_in n vs) is ∙ (let e : 1 + turn_in n vs ≡ turn_in n vs + 1 = omega arith in e)
    by false false is =
        count_cons (begins_turn n) m (before_first (comes_to_loop n) (reverse vs))
        ∙ ap (λ c. (if c then 1 else 0) + turn_in n vs) is ∙ (let e : 0 + turn_in n vs ≡ turn_in n vs = omega arith in e)
