-- What the walk along the nexts shows.
use Rattle.std.proofs.Common.{◌≡◌, ℕ, suc, ◌+◌, ◌-◌, ◌<◌, Bool, true, false, Some, None, List, [], ◌∷◌, ◌++◌, length, drop, drop-cons, get_or, set, take, arith, sym, ◌∙◌, ap, subst, refl, inl, inr, append_assoc}
use Rattle.std.specs.Prelude.{Contains, ◌↔◌}
use Rattle.std.proofs.lemmas.List.{get_or_default, take_more, take_all}
use Rattle.std.proofs.lemmas.List.Elements.{Contains-append_left, Contains-push, Contains-push_cases}
use Rattle.armus_base.specs.declared.ids.TaskId.{TaskId}
use Rattle.armus_base.specs.Relations.{IsWalk, IsWalkCycle}
use Rattle.armus_base.specs.States.{Phases}
use Rattle.armus_base.proofs.WalkCycles.{IsWalk-push, walk_done, IsWalkTo as Goes}
use Rattle.armus_base.proofs.Lists.{set_flag}
use Rattle.explain_deadlock.specs.declared.outcome.WaitVerdict.{WaitVerdict}
use Rattle.explain_deadlock.specs.declared.outcome.WaitVerdict.TheVariants.{Nobody, Circle, Chain}
use Rattle.explain_tasks.specs.Facts.{FactsValue}
use Rattle.explain_tasks.specs.Nexts.{IsNext, next_of}
use Rattle.explain_deadlock.specs.Verdicts.{IsVerdictFrom, HasFollower}
use Rattle.explain_deadlock.specs.inside.Searches.{HasCircle}
use Rattle.explain_deadlock.specs.inside.WalkEnds.{ShowsFirst, WalkEndsIn}
use Rattle.explain_deadlock.proofs.CircleWalks.{circle_of}
use Rattle.explain_deadlock.proofs.Followers.{next_follows}

-- task v
task : ℕ → TaskId
task v = record { 0 = v }

-- a list with an element is what stands before its last element, and this
pub last_split : {A : Type 0} (xs : List A) (x : A) → 0 < length xs → ((d : A) → get_or xs (length xs - 1) d ≡ x) → take (length xs - 1) xs ++ x ∷ [] ≡ xs
last_split xs x some at =
    let more : take (length xs - 1 + 1) xs ≡ take (length xs - 1) xs ++ get_or xs (length xs - 1) x ∷ [] = take_more xs (length xs - 1) x (omega arith) in
    let all : take (length xs - 1 + 1) xs ≡ xs = take_all (length xs - 1 + 1) xs (omega arith) in
    ap (λ y. take (length xs - 1) xs ++ y ∷ []) (sym (at x)) ∙ sym more ∙ all

module _ (f : FactsValue) (phases : ℕ → Phases) (start t : TaskId) (path : List TaskId) (goes : Goes (IsNext f phases) start path t) where
  -- it comes back to a task of its path
  pub closes_in : Contains path t → (walked : List TaskId) × IsWalkCycle (IsNext f phases) start (t ∷ walked)
  closes_in (at, lt, e) =
      let there : (d : TaskId) → get_or path at d ≡ t = λ d. get_or_default path at d t lt ∙ e in
      let whole : drop at path ≡ t ∷ drop (suc at) path = drop-cons path at t lt ∙ ap (λ x. x ∷ drop (suc at) path) (there t) in
      (drop (suc at) path, subst (λ xs. IsWalkCycle (IsNext f phases) start xs) whole (walk_done (IsNext f phases) start path t goes at lt there))

  -- so that there is a circle through it
  pub circle_there : Contains path t → HasCircle (HasFollower f phases) t
  circle_there there =
      let (walked, c) = closes_in there in
      (t ∷ walked, circle_of (IsNext f phases) (HasFollower f phases) (next_follows f phases) start t walked c)

  -- and its first one is shown
  pub closes : Contains path t → (v : WaitVerdict) → ShowsFirst (HasFollower f phases) t v → IsVerdictFrom f phases (Some start) v
  closes there Nobody is = is
  closes there (Chain held last) is = absurd is
  closes there (Circle shown) is = let (walked, c) = closes_in there in record { task = t; walked = walked; closes = c; first = is }

  -- it comes to its end
  pub ends : (v : WaitVerdict) → 0 < length path → next_of f phases t.0 ≡ None → WalkEndsIn path t v → IsVerdictFrom f phases (Some start) v
  ends Nobody some none is = is
  ends (Circle shown) some none is = absurd is
  ends (Chain held last) some none (at, same) =
      let before = take (length path - 1) path in
      let whole : before ++ held ∷ last ∷ [] ≡ path ++ t ∷ [] =
      sym (append_assoc before (held ∷ []) (last ∷ [])) ∙ ap (λ xs. xs ++ last ∷ []) (last_split path held some at) ∙ ap (λ x. path ++ x ∷ []) same in
      record {
        before = before;
        starts = λ d. ap (λ xs. get_or xs 0 d) whole ∙ first path some d ∙ goes.starts d some;
        steps = subst (λ xs. IsWalk (IsNext f phases) xs) (sym whole) (IsWalk-push (IsNext f phases) path t goes.steps goes.next);
        ends = ap (λ (u : TaskId). next_of f phases u.0) same ∙ none;
      }
    where
      first : (xs : List TaskId) → 0 < length xs → (d : TaskId) → get_or (xs ++ t ∷ []) 0 d ≡ get_or xs 0 d
      first [] l d = absurd (omega arith)
      first (x ∷ xs) l d = refl

-- the flags tell which tasks stand on a path, also where one more does
pub set_task_flags :
    (flags : List Bool) (path : List TaskId) (node : TaskId) → node.0 < length flags →
    ((v : ℕ) → (get_or flags v false ≡ true) ↔ Contains path (record { 0 = v })) →
    (v : ℕ) → (get_or (set flags node.0 true) v false ≡ true) ↔ Contains (path ++ node ∷ []) (record { 0 = v })
set_task_flags flags path node lt marks v =
    let flag = set_flag flags node.0 v lt in (
      λ t. elim (flag.0 t) [
        | inl e ↦ subst (λ (x : ℕ). Contains (path ++ node ∷ []) (record { 0 = x })) (sym e) (Contains-push path node)
        | inr o ↦ Contains-append_left path (node ∷ []) (record { 0 = v }) ((marks v).0 o)
      ],
      λ m. flag.1 (elim (Contains-push_cases path node (record { 0 = v }) m) [ inl l ↦ inr ((marks v).1 l) | inr e ↦ inl (sym (ap (λ (x : TaskId). x.0) e)) ]),
    )
