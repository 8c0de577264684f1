-- Circles as walks that come back.
use Rattle.std.proofs.Common.{◌≡◌, ℕ, zero, suc, ◌+◌, ◌-◌, ◌<◌, List, [], ◌∷◌, length, get_or, arith, subst, refl}
use Rattle.armus_base.specs.declared.ids.TaskId.{TaskId}
use Rattle.armus_base.specs.Relations.{IsWalk, IsWalkCycle}
use Rattle.explain_deadlock.specs.Circles.{IsCircleThrough, LeadsBackTo}
use Rattle.explain_deadlock.specs.Laws.{ShowsCircle}
use Rattle.explain_deadlock.proofs.WalksMapped.{circle_back, circle_steps}

-- a walk whose last task leads to another
walk_leads : (R : TaskId → TaskId → Type 0) (last u : TaskId) (xs : List TaskId) → IsWalk R (u ∷ xs) → R (get_or (u ∷ xs) (length xs) u) last → LeadsBackTo R last u xs
walk_leads R last u [] steps back = back
walk_leads R last u (x ∷ xs) steps back = (
  steps 0 u (omega arith),
  walk_leads R last x xs
      (λ k d lt.
      let n : suc k + 1 ≡ suc (k + 1) = omega arith in
      subst (λ m. R (get_or (u ∷ x ∷ xs) (suc k) d) (get_or (u ∷ x ∷ xs) m d)) n (steps (suc k) d (omega arith)))
      (subst (λ y. R y last) (same xs x (length xs) (omega arith)) back),
)
  where
    same : (ys : List TaskId) (y : TaskId) (k : ℕ) → k < suc (length ys) → get_or (y ∷ ys) k u ≡ get_or (y ∷ ys) k x
    same ys y zero lt = refl
    same [] y (suc k) lt = absurd (omega arith)
    same (z ∷ ys) y (suc k) lt = same ys z k (omega arith)

-- what a walk comes back to by R stands in a circle by S, where S holds wherever R does
pub circle_of : (R S : TaskId → TaskId → Type 0) → ((a b : TaskId) → R a b → S a b) → (start t : TaskId) (walked : List TaskId) → IsWalkCycle R start (t ∷ walked) →
    IsCircleThrough S t (t ∷ walked)
circle_of R S step start t walked c =
    let P = λ (x : TaskId). x ≡ x in
    let keeps : (x y : TaskId) → P x → R x y → P y = λ x y p r. refl in
    let maps : (x y : TaskId) → P x → R x y → S x y = λ x y p r. step x y r in
    let steps = circle_steps R P keeps start refl S maps (t ∷ walked) c in
    let back = circle_back R P keeps start refl S maps (t ∷ walked) c t in
    let n : length (t ∷ walked) - 1 ≡ length walked = omega arith in
    (refl, walk_leads S t t walked steps (subst (λ k. S (get_or (t ∷ walked) k t) t) n back))

-- a circle by R is one by S, where a property that its first task has and that R keeps brings the one to the other
pub leads_map : (R S : TaskId → TaskId → Type 0) (P : TaskId → Type 0) → ((a b : TaskId) → P a → R a b → S a b × P b) → (last u : TaskId) (xs : List TaskId) → P u → LeadsBackTo R last u xs →
    LeadsBackTo S last u xs
leads_map R S P step last u [] p leads = (step u last p leads).0
leads_map R S P step last u (x ∷ xs) p leads = let (s, q) = step u x p leads.0 in (s, leads_map R S P step last x xs q leads.1)

leads_steps : (R : TaskId → TaskId → Type 0) (last u : TaskId) (xs : List TaskId) → LeadsBackTo R last u xs → IsWalk R (u ∷ xs)
leads_steps R last u [] leads k d lt = absurd (omega arith)
leads_steps R last u (x ∷ xs) leads zero d lt = leads.0
leads_steps R last u (x ∷ xs) leads (suc k) d lt =
    let n : suc (k + 1) ≡ suc k + 1 = omega arith in
    subst (λ m. R (get_or (u ∷ x ∷ xs) (suc k) d) (get_or (u ∷ x ∷ xs) m d)) n (leads_steps R last x xs leads.1 k d (omega arith))

leads_back : (R : TaskId → TaskId → Type 0) (last u : TaskId) (xs : List TaskId) → LeadsBackTo R last u xs → (d : TaskId) → R (get_or (u ∷ xs) (length xs) d) last
leads_back R last u [] leads d = leads
leads_back R last u (x ∷ xs) leads d = leads_back R last x xs leads.1 d

-- a circle is shown
pub circle_shown : (R : TaskId → TaskId → Type 0) (t : TaskId) (xs : List TaskId) → LeadsBackTo R t t xs → ShowsCircle R (t ∷ xs)
circle_shown R t xs leads = record {
  some = omega arith;
  steps = leads_steps R t t xs leads;
  back = λ d. (let n : length xs ≡ length (t ∷ xs) - 1 = omega arith in subst (λ k. R (get_or (t ∷ xs) k d) t) n (leads_back R t t xs leads d));
}

-- and what is shown is a circle
pub shown_circle : (R : TaskId → TaskId → Type 0) (t : TaskId) (xs : List TaskId) → ShowsCircle R (t ∷ xs) → LeadsBackTo R t t xs
shown_circle R t xs c =
    let n : length (t ∷ xs) - 1 ≡ length xs = omega arith in
    walk_leads R t t xs c.steps (subst (λ k. R (get_or (t ∷ xs) k t) t) n (c.back t))
