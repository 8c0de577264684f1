-- The members of a group are the tasks, or the impeders, of which this is said.
use Rattle.std.proofs.Common.{◌≡◌, Bool, true, false, List, [], ◌∷◌, ap, refl}
use Rattle.std.specs.Prelude.{filter, if◌then◌else◌, map}
use Rattle.armus_base.specs.declared.ids.TaskId.{TaskId}
use Rattle.explain_tasks.specs.Facts.{FactsValue}
use Rattle.explain_tasks.specs.Sayings.{Said, own_said, same_said}
use Rattle.explain_tasks.specs.calls.Grouped.{Told, members_of}
use Rattle.explain_deadlock.specs.inside.Grouped.{own_told, said_in}

-- what is said of tasks that are told
pub said_of_told : (f : FactsValue) (xs : List TaskId) → said_in (map (own_told f) xs) ≡ map (λ (t : TaskId). own_said f t.0) xs
said_of_told f [] = refl
said_of_told f (x ∷ xs) = ap (λ ys. own_said f x.0 ∷ ys) (said_of_told f xs)

-- the members by what is told of things
pub members_by : {A : Type 0} (told : A → Told) (said : Said) (xs : List A)
    → members_of (map told xs) said ≡ map (λ (x : A). (told x).task) (filter (λ (x : A). same_said said (told x).said) xs)
members_by told said [] = refl
members_by {A} told said (x ∷ xs) = step (same_said said (told x).said) (members_by told said xs)
  where
    step : (b : Bool) → members_of (map told xs) said ≡ map (λ (y : A). (told y).task) (filter (λ (y : A). same_said said (told y).said) xs)
        → map (λ (p : Told). p.task) (if b then told x ∷ filter (λ (p : Told). same_said said p.said) (map told xs) else filter (λ (p : Told). same_said said p.said) (map told xs))
        ≡ map (λ (y : A). (told y).task) (if b then x ∷ filter (λ (y : A). same_said said (told y).said) xs else filter (λ (y : A). same_said said (told y).said) xs)
    step true rest = ap (λ ys. (told x).task ∷ ys) rest
    step false rest = rest

-- tasks are their own tasks
pub own_tasks : (xs : List TaskId) → map (λ (x : TaskId). x) xs ≡ xs
own_tasks [] = refl
own_tasks (x ∷ xs) = ap (λ ys. x ∷ ys) (own_tasks xs)
