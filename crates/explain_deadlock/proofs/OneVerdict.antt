-- The walk along the nexts shows one verdict only.
use Rattle.std.proofs.Common.{◌≡◌, ℕ, zero, suc, ◌+◌, ◌-◌, ◌<◌, Option, Some, None, List, [], ◌∷◌, ◌++◌, length, sym, ap, ◌∙◌, subst, inl, inr, arith, get_or, length-append}
use Rattle.std.proofs.lemmas.Bool.{cases_lt}
use Rattle.std.proofs.lemmas.List.{get_or-append-add}
use Rattle.armus_base.specs.declared.ids.TaskId.{TaskId}
use Rattle.armus_base.specs.Relations.{IsWalk, IsWalkCycle}
use Rattle.armus_base.specs.States.{Phases}
use Rattle.verdict.proofs.OneCycle.{one_cycle}
use Rattle.explain_deadlock.specs.declared.outcome.WaitVerdict.{WaitVerdict}
use Rattle.explain_deadlock.specs.declared.outcome.WaitVerdict.TheVariants.{Nobody, Circle, Chain}
use Rattle.explain_tasks.specs.Facts.{FactsValue}
use Rattle.explain_tasks.specs.Nexts.{IsNext, next_of}
use Rattle.explain_deadlock.specs.Verdicts.{IsVerdict, IsVerdictFrom, IsWalkTo, HasFollower, walk_start}
use Rattle.explain_deadlock.specs.Circles.{IsFirstThrough}
use Rattle.explain_deadlock.proofs.ListOrder.{no_later_same}

-- there is one first circle
one_first : (R : TaskId → TaskId → Type 0) (t : TaskId) (c d : List TaskId) → IsFirstThrough R t c → IsFirstThrough R t d → c ≡ d
one_first R t c d a b = no_later_same c d (a.first d b.closes) (b.first c a.closes)

-- what stands at a place of a list that is put together
at_behind : {A : Type 0} (xs ys : List A) (k : ℕ) (d : A) → get_or (xs ++ ys) (length xs + k) d ≡ get_or ys k d
at_behind xs ys k d = get_or-append-add xs ys k d

module _ (f : FactsValue) (phases : ℕ → Phases) where
  -- a task has one next
  one_next : (t u v : TaskId) → IsNext f phases t u → IsNext f phases t v → u ≡ v
  one_next t u v a b = let both : Some u ≡ Some v = sym a ∙ b in cc

  module _ (start : TaskId) where
    -- two walks from one start agree
    same_at :
        (xs ys : List TaskId) → IsWalk (IsNext f phases) xs → IsWalk (IsNext f phases) ys → ((d : TaskId) → get_or xs 0 d ≡ start) → ((d : TaskId) → get_or ys 0 d ≡ start) →
        (k : ℕ) (d : TaskId) → k < length xs → k < length ys → get_or xs k d ≡ get_or ys k d
    same_at xs ys wx wy sx sy zero d lx ly = sx d ∙ sym (sy d)
    same_at xs ys wx wy sx sy (suc k) d lx ly =
        let e = same_at xs ys wx wy sx sy k d (omega arith) (omega arith) in
        let n : k + 1 ≡ suc k = omega arith in
        let step = wx k d (omega arith) in
        let f' : get_or xs (k + 1) d ≡ get_or ys (k + 1) d =
        one_next (get_or ys k d) (get_or xs (k + 1) d) (get_or ys (k + 1) d) (subst (λ x. IsNext f phases x (get_or xs (k + 1) d)) e step) (wy k d (omega arith)) in
        subst (λ m. get_or xs m d ≡ get_or ys m d) n f'

    -- the whole walk to an end
    abbrev whole : (held last : TaskId) → IsWalkTo f phases start held last → List TaskId
    whole held last w = w.before ++ held ∷ last ∷ []

    whole_long : (held last : TaskId) (w : IsWalkTo f phases start held last) → length (whole held last w) ≡ length w.before + 2
    whole_long held last w = length-append w.before (held ∷ last ∷ [])

    last_at : (held last : TaskId) (w : IsWalkTo f phases start held last) (d : TaskId) → get_or (whole held last w) (length w.before + 1) d ≡ last
    last_at held last w d = at_behind w.before (held ∷ last ∷ []) 1 d

    held_at : (held last : TaskId) (w : IsWalkTo f phases start held last) (d : TaskId) → get_or (whole held last w) (length w.before + 0) d ≡ held
    held_at held last w d = at_behind w.before (held ∷ last ∷ []) 0 d

    -- no walk to an end is longer than another
    not_longer :
        (h l h' l' : TaskId) (w : IsWalkTo f phases start h l) (v : IsWalkTo f phases start h' l') → length w.before < length v.before → ⊥
    not_longer h l h' l' w v lt =
        let xs = whole h l w in let ys = whole h' l' v in
        let n1 = whole_long h l w in let n2 = whole_long h' l' v in
        let k = length w.before + 1 in
        let same : get_or xs k start ≡ get_or ys k start = same_at xs ys w.steps v.steps w.starts v.starts k start (omega arith) (omega arith) in
        let step : IsNext f phases (get_or ys k start) (get_or ys (k + 1) start) = v.steps k start (omega arith) in
        let at : get_or ys k start ≡ l = sym same ∙ last_at h l w start in
        let goes : next_of f phases l.0 ≡ Some (get_or ys (k + 1) start) = subst (λ (t : TaskId). next_of f phases t.0 ≡ Some (get_or ys (k + 1) start)) at step in
        let none = w.ends in
        cc

    one_end : (h l h' l' : TaskId) → IsWalkTo f phases start h l → IsWalkTo f phases start h' l' → (h ≡ h') × (l ≡ l')
    one_end h l h' l' w v =
        let xs = whole h l w in let ys = whole h' l' v in
        let n1 = whole_long h l w in let n2 = whole_long h' l' v in
        let sized : length w.before ≡ length v.before =
        elim (cases_lt (length w.before) (length v.before)) [
          | inl less ↦ absurd (not_longer h l h' l' w v less)
          | inr more ↦ elim (cases_lt (length v.before) (length w.before)) [ inl less ↦ absurd (not_longer h' l' h l v w less) | inr same ↦ omega arith ]
        ] in
        let at : (k : ℕ) → k < length xs → get_or xs k start ≡ get_or ys k start = λ k lt. same_at xs ys w.steps v.steps w.starts v.starts k start lt (omega (arith, lt, sized, n1, n2)) in (
          sym (held_at h l w start) ∙ at (length w.before + 0) (omega arith) ∙ ap (λ n. get_or ys (n + 0) start) sized ∙ held_at h' l' v start,
          sym (last_at h l w start) ∙ at (length w.before + 1) (omega arith) ∙ ap (λ n. get_or ys (n + 1) start) sized ∙ last_at h' l' v start,
        )

    module _ (cycle : List TaskId) (c : IsWalkCycle (IsNext f phases) start cycle) where
      abbrev all : List TaskId
      all = c.before ++ cycle

      -- the walk of a circle goes on from each of its tasks
      goes_on : (k : ℕ) → k < length all → (j : ℕ) × (j < length all) × ((d : TaskId) → IsNext f phases (get_or all k d) (get_or all j d))
      goes_on k lt =
          let n = length-append c.before cycle in
          elim (cases_lt (k + 1) (length all)) [
            | inl more ↦ (k + 1, more, λ d. c.steps k d more)
            | inr end ↦
                let here : length all - 1 ≡ k = omega arith in (
                  length c.before + 0,
                  omega (arith, n, c.some),
                  λ d. subst (λ (t : TaskId). IsNext f phases (get_or all k d) t) (sym (at_behind c.before cycle 0 d))
                      (subst (λ i. IsNext f phases (get_or all i d) (get_or cycle 0 d)) here (c.back d)),
                )
          ]

      -- so a walk from the same start stays in it
      stays : (xs : List TaskId) → IsWalk (IsNext f phases) xs → ((d : TaskId) → get_or xs 0 d ≡ start) → (k : ℕ) → k < length xs →
          (j : ℕ) × (j < length all) × (get_or xs k start ≡ get_or all j start)
      stays xs w s zero lt = let n = length-append c.before cycle in (0, omega (arith, n, c.some), s start ∙ sym (c.starts start))
      stays xs w s (suc k) lt =
          let (j, within, same) = stays xs w s k (omega arith) in
          let (i, inside, next) = goes_on j within in
          let n : k + 1 ≡ suc k = omega arith in
          let step = w k start (omega arith) in
          let one : get_or xs (k + 1) start ≡ get_or all i start =
          one_next (get_or all j start) (get_or xs (k + 1) start) (get_or all i start) (subst (λ t. IsNext f phases t (get_or xs (k + 1) start)) same step) (next start) in
          (i, inside, subst (λ m. get_or xs m start ≡ get_or all i start) n one)

      -- and comes to no end
      no_end : (held last : TaskId) → IsWalkTo f phases start held last → ⊥
      no_end held last w =
          let n1 = whole_long held last w in
          let (j, within, same) = stays (whole held last w) w.steps w.starts (length w.before + 1) (omega arith) in
          let (i, inside, next) = goes_on j within in
          let at : get_or all j start ≡ last = sym same ∙ last_at held last w start in
          let goes : next_of f phases last.0 ≡ Some (get_or all i start) = subst (λ (t : TaskId). next_of f phases t.0 ≡ Some (get_or all i start)) at (next start) in
          let none = w.ends in
          cc

  one_from : (start : Option TaskId) (v w : WaitVerdict) → IsVerdictFrom f phases start v → IsVerdictFrom f phases start w → v ≡ w
  one_from None v w a b = a ∙ sym b
  one_from (Some s) Nobody w a b = absurd a
  one_from (Some s) (Circle c) Nobody a b = absurd b
  one_from (Some s) (Chain h l) Nobody a b = absurd b
  one_from (Some s) (Circle c) (Circle d) a b =
      let cycles : a.task ∷ a.walked ≡ b.task ∷ b.walked = one_cycle (IsNext f phases) one_next s (a.task ∷ a.walked) (b.task ∷ b.walked) a.closes b.closes in
      let same : a.task ≡ b.task = cc in
      ap Circle (one_first (HasFollower f phases) b.task c d (subst (λ t. IsFirstThrough (HasFollower f phases) t c) same a.first) b.first)
  one_from (Some s) (Circle c) (Chain h l) a b = absurd (no_end s (a.task ∷ a.walked) a.closes h l b)
  one_from (Some s) (Chain h l) (Circle c) a b = absurd (no_end s (b.task ∷ b.walked) b.closes h l a)
  one_from (Some s) (Chain h l) (Chain h' l') a b =
      let both = one_end s h l h' l' a b in
      ap (λ x. Chain x l) both.0 ∙ ap (λ x. Chain h' x) both.1

  pub one_verdict : (v w : WaitVerdict) → IsVerdict f phases v → IsVerdict f phases w → v ≡ w
  one_verdict v w a b = one_from (walk_start f) v w a b
