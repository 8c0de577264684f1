-- The impeders that are told in lines and those of the rest are all impeders, each once, and nothing is said twice.
use Rattle.std.proofs.Common.{◌≡◌, ℕ, suc, zero, ◌<◌, Bool, true, false, Some, None, Option, List, [], ◌∷◌, ◌++◌, length, arith, sym, ◌∙◌, ap, subst, refl, inl, inr, ◌⊎◌}
use Rattle.std.specs.Prelude.{AllPairs, Contains, filter, flat_map, if◌then◌else◌, map, not, take, ◌||◌}
use Rattle.std.specs.List.{list_any}
use Rattle.std.proofs.lemmas.Bool.{cases_Bool}
use Rattle.std.proofs.lemmas.List.Elements.{Contains-append_cases, Contains-append_left, Contains-append_right}
use Rattle.armus_base.specs.declared.ids.TaskId.{TaskId}
use Rattle.armus_base.specs.Counts.{IsDistinct}
use Rattle.armus_base.specs.States.{Phases}
use Rattle.armus_base.proofs.Elements.{Contains-cons_cases, Contains-head, Contains-tail, nothing_in_nil}
use Rattle.explain_facts.specs.declared.account.Waiting.{Waiting}
use Rattle.dep_state.proofs.DeadSets.{same_task}
use Rattle.explain_tasks.specs.declared.impeders.Impeder.{Impeder}
use Rattle.explain_tasks.specs.Facts.{FactsValue, wait_of}
use Rattle.explain_deadlock.specs.ImpederLines.{group_of, is_this_impeder, rest_of, told_of}
use Rattle.explain_tasks.specs.Impeders.{impeders_by, impeders_in, impeders_by_facts}
use Rattle.explain_deadlock.specs.Laws.{EachImpederIsTold, IsImpededBy, named_impeders, told_in_lines}
use Rattle.explain_deadlock.specs.calls.Laws.{NothingIsSaidTwice}
use Rattle.explain_tasks.specs.Nexts.{next_of}
use Rattle.explain_deadlock.specs.Paragraphs.{explained_tasks, shown_waiting}
use Rattle.explain_tasks.specs.Sayings.{Said, impeder_said, own_said, same_said}
use Rattle.explain_tasks.proofs.EachOnce.{AreOnce, are_once}
use Rattle.explain_tasks.proofs.Filters.{has_map, passed_from, passed_is}
use Rattle.explain_deadlock.proofs.ImpedersAre.{impeder, impeder_is, impeder_there, impeders_ascend}
use Rattle.explain_tasks.proofs.SameSaid.{same_said_is, same_said_itself}

-- ---- nothing is said twice

-- of which none is the same as one ahead, they are distinct
once_distinct : (xs : List Said) → AreOnce same_said same_said_is same_said_itself xs → IsDistinct xs
once_distinct [] once = tt
once_distinct (x ∷ xs) once = (
  λ again. let off = once.0 x again in let on = same_said_itself x in absurd (cc),
  once_distinct xs once.1,
)

pub nothing_twice : NothingIsSaidTwice
nothing_twice f shown =
    let all = map (λ (t : TaskId). own_said f t.0) (shown_waiting f shown ++ explained_tasks f) in
    once_distinct _ (are_once same_said same_said_is same_said_itself all)

-- ---- lists without repeats

module _ {A : Type 0} where
  -- both, one behind the other
  distinct_both : (xs ys : List A) → IsDistinct xs → IsDistinct ys → ((x : A) → Contains xs x → Contains ys x → ⊥) → IsDistinct (xs ++ ys)
  distinct_both [] ys a b apart = b
  distinct_both (x ∷ xs) ys a b apart = (
    λ again. elim (Contains-append_cases xs ys x again) [ inl l ↦ a.0 l | inr r ↦ apart x (Contains-head x xs) r ],
    distinct_both xs ys a.1 b (λ y l r. apart y (Contains-tail x xs y l) r),
  )

-- who stands in the list of tasks is the task of an impeder
of_task : (is : List Impeder) (t : TaskId) → Contains (map (λ (i : Impeder). i.t) is) t → (i : Impeder) × Contains is i × (i.t ≡ t)
of_task [] t m = absurd (nothing_in_nil t m)
of_task (i ∷ is) t m =
    elim (Contains-cons_cases i.t (map (λ (j : Impeder). j.t) is) t m) [
      | inl e ↦ (i, Contains-head i is, e)
      | inr n ↦ let (j, there, same) = of_task is t n in (j, Contains-tail i is j there, same)
    ]

-- of impeders in order of number, each task stands in the list of tasks once
abbrev Ascends : List Impeder → Type 0
Ascends is = AllPairs (λ (i j : Impeder). i.t.0 < j.t.0) is

tail_ascends : (i : Impeder) (is : List Impeder) → Ascends (i ∷ is) → Ascends is
tail_ascends i is all j k d l m = all (suc j) (suc k) d (omega arith) (omega arith)

later : (i : Impeder) (is : List Impeder) → Ascends (i ∷ is) → (j : Impeder) → Contains is j → i.t.0 < j.t.0
later i is all j (k, lt, e) = subst (λ (x : Impeder). i.t.0 < x.t.0) e (all 0 (suc k) j (omega arith) (omega arith))

-- one impeder of a task in such a list
one_of_task : (is : List Impeder) → Ascends is → (i j : Impeder) → Contains is i → Contains is j → i.t ≡ j.t → i ≡ j
one_of_task [] all i j a b same = absurd (nothing_in_nil i a)
one_of_task (x ∷ is) all i j a b same =
    let number : i.t.0 ≡ j.t.0 = ap (λ (t : TaskId). t.0) same in
    elim (Contains-cons_cases x is i a) [
      | inl e ↦ elim (Contains-cons_cases x is j b) [
        | inl e' ↦ sym e ∙ e'
        | inr n' ↦ absurd (let lt = later x is all j n' in let here : x.t.0 ≡ i.t.0 = ap (λ (y : Impeder). y.t.0) e in omega arith)
      ]
      | inr n ↦ elim (Contains-cons_cases x is j b) [
        | inl e' ↦ absurd (let lt = later x is all i n in let here : x.t.0 ≡ j.t.0 = ap (λ (y : Impeder). y.t.0) e' in omega arith)
        | inr n' ↦ one_of_task is (tail_ascends x is all) i j n n' same
      ]
    ]

distinct_tasks : (is : List Impeder) → Ascends is → (p : Impeder → Bool) → IsDistinct (map (λ (i : Impeder). i.t) (filter p is))
distinct_tasks [] all p = tt
distinct_tasks (i ∷ is) all p = by (cases_Bool (p i)) (distinct_tasks is (tail_ascends i is all) p)
  where
    new : Contains (map (λ (j : Impeder). j.t) (filter p is)) i.t → ⊥
    new m =
        let (j, there, same) = of_task (filter p is) i.t m in
        let lt = later i is all j (passed_is p is j there).0 in
        let number : j.t.0 ≡ i.t.0 = ap (λ (t : TaskId). t.0) same in
        omega arith

    by : ((p i ≡ true) ⊎ (p i ≡ false)) → IsDistinct (map (λ (j : Impeder). j.t) (filter p is)) → IsDistinct (map (λ (j : Impeder). j.t) (filter p (i ∷ is)))
    by (inl on) rest = subst (λ xs. IsDistinct (map (λ (j : Impeder). j.t) xs)) (sym (ap (λ b. if b then i ∷ filter p is else filter p is) on)) (new, rest)
    by (inr off) rest = subst (λ xs. IsDistinct (map (λ (j : Impeder). j.t) xs)) (sym (ap (λ b. if b then i ∷ filter p is else filter p is) off)) rest

-- ---- the groups

module _ (f : FactsValue) (is : List Impeder) (all : Ascends is) where
  in_group : (said : Said) (t : TaskId) → Contains (group_of f is said) t → (i : Impeder) × Contains is i × (i.t ≡ t) × (said ≡ impeder_said f i)
  in_group said t m =
      let (i, there, same) = of_task (filter (λ (j : Impeder). same_said said (impeder_said f j)) is) t m in
      let (inside, alike) = passed_is (λ (j : Impeder). same_said said (impeder_said f j)) is i there in
      (i, inside, same, same_said_is said (impeder_said f i) alike)

  group_has : (i : Impeder) → Contains is i → Contains (group_of f is (impeder_said f i)) i.t
  group_has i there =
      has_map (λ (j : Impeder). j.t) (filter (λ (j : Impeder). same_said (impeder_said f i) (impeder_said f j)) is) i
      (passed_from (λ (j : Impeder). same_said (impeder_said f i) (impeder_said f j)) is i there (same_said_itself (impeder_said f i)))

  abbrev groups : List Said → List TaskId
  groups told = flat_map (group_of f is) told

  in_groups : (told : List Said) (t : TaskId) → Contains (groups told) t → (i : Impeder) × Contains is i × (i.t ≡ t) × Contains told (impeder_said f i)
  in_groups [] t m = absurd (nothing_in_nil t m)
  in_groups (said ∷ told) t m =
      elim (Contains-append_cases (group_of f is said) (groups told) t m) [
        | inl l ↦ let (i, there, same, said_is) = in_group said t l in (i, there, same, subst (λ x. Contains (said ∷ told) x) said_is (Contains-head said told))
        | inr r ↦ let (i, there, same, more) = in_groups told t r in (i, there, same, Contains-tail said told (impeder_said f i) more)
      ]

  groups_have : (told : List Said) (i : Impeder) → Contains is i → Contains told (impeder_said f i) → Contains (groups told) i.t
  groups_have [] i there m = absurd (nothing_in_nil (impeder_said f i) m)
  groups_have (said ∷ told) i there m =
      elim (Contains-cons_cases said told (impeder_said f i) m) [
        | inl e ↦ Contains-append_left (group_of f is said) (groups told) i.t (subst (λ x. Contains (group_of f is x) i.t) (sym e) (group_has i there))
        | inr n ↦ Contains-append_right (group_of f is said) (groups told) i.t (groups_have told i there n)
      ]

  distinct_groups : (told : List Said) → IsDistinct told → IsDistinct (groups told)
  distinct_groups [] d = tt
  distinct_groups (said ∷ told) d =
      distinct_both (group_of f is said) (groups told) (distinct_tasks is all (λ (j : Impeder). same_said said (impeder_said f j))) (distinct_groups told d.1)
      (λ t l r.
      let (i, here, same, said_is) = in_group said t l in
      let (j, there, also, more) = in_groups told t r in
      let one = one_of_task is all i j here there (same ∙ sym also) in
      d.0 (subst (λ x. Contains told x) (ap (impeder_said f) (sym one) ∙ sym said_is) more))

  -- ---- the rest

  any_is : (told : List Said) (said : Said) → list_any (λ x. same_said x said) told ≡ true → Contains told said
  any_is [] said e = absurd (cc)
  any_is (x ∷ told) said e =
      elim (cases_Bool (same_said x said)) [
        | inl on ↦ subst (λ z. Contains (x ∷ told) z) (same_said_is x said on) (Contains-head x told)
        | inr off ↦ Contains-tail x told said (any_is told said (sym (ap (λ b. b || list_any (λ z. same_said z said) told) off) ∙ e))
      ]

  any_has : (told : List Said) (said : Said) → Contains told said → list_any (λ x. same_said x said) told ≡ true
  any_has [] said m = absurd (nothing_in_nil said m)
  any_has (x ∷ told) said m =
      elim (Contains-cons_cases x told said m) [
        | inl e ↦ ap (λ b. b || list_any (λ z. same_said z said) told) (subst (λ z. same_said z said ≡ true) (sym e) (same_said_itself said))
        | inr n ↦ either (same_said x said) (list_any (λ z. same_said z said) told) (any_has told said n)
      ]
    where
      either : (a b : Bool) → b ≡ true → (a || b) ≡ true
      either true b e = refl
      either false b e = e

  abbrev is_left : List Said → Impeder → Bool
  is_left told i = not (list_any (λ said. same_said said (impeder_said f i)) told)

  in_rest : (told : List Said) (t : TaskId) → Contains (rest_of f is told) t → (i : Impeder) × Contains is i × (i.t ≡ t) × (Contains told (impeder_said f i) → ⊥)
  in_rest told t m =
      let (i, there, same) = of_task (filter (is_left told) is) t m in
      let (inside, left) = passed_is (is_left told) is i there in
      (i, inside, same, λ told_too. let on = ap not (any_has told (impeder_said f i) told_too) in absurd (cc))

  rest_has : (told : List Said) (i : Impeder) → Contains is i → (Contains told (impeder_said f i) → ⊥) → Contains (rest_of f is told) i.t
  rest_has told i there untold =
      has_map (λ (j : Impeder). j.t) (filter (is_left told) is) i
      (passed_from (is_left told) is i there
      (elim (cases_Bool (list_any (λ said. same_said said (impeder_said f i)) told)) [
        | inl on ↦ absurd (untold (any_is told (impeder_said f i) on))
        | inr off ↦ ap not off
      ]))

  -- ---- all of them

  pub all_distinct : (told : List Said) → IsDistinct told → IsDistinct (groups told ++ rest_of f is told)
  all_distinct told d =
      distinct_both (groups told) (rest_of f is told) (distinct_groups told d) (distinct_tasks is all (is_left told))
      (λ t l r.
      let (i, here, same, told_is) = in_groups told t l in
      let (j, there, also, untold) = in_rest told t r in
      let one = one_of_task is all i j here there (same ∙ sym also) in
      untold (subst (λ x. Contains told x) (ap (impeder_said f) one) told_is))

  pub all_there : (told : List Said) (t : TaskId) → Contains (groups told ++ rest_of f is told) t → (i : Impeder) × Contains is i × (i.t ≡ t)
  all_there told t m =
      elim (Contains-append_cases (groups told) (rest_of f is told) t m) [
        | inl l ↦ let (i, there, same, told_is) = in_groups told t l in (i, there, same)
        | inr r ↦ let (i, there, same, untold) = in_rest told t r in (i, there, same)
      ]

  pub there_all : (told : List Said) (i : Impeder) → Contains is i → Contains (groups told ++ rest_of f is told) i.t
  there_all told i there =
      elim (cases_Bool (list_any (λ said. same_said said (impeder_said f i)) told)) [
        | inl on ↦ Contains-append_left (groups told) (rest_of f is told) i.t (groups_have told i there (any_is told (impeder_said f i) on))
        | inr off ↦
            Contains-append_right (groups told) (rest_of f is told) i.t
            (rest_has told i there (λ told_too. let on = any_has told (impeder_said f i) told_too in absurd (cc)))
      ]

-- ---- of a task

taken : {A : Type 0} (k : ℕ) (xs : List A) (x : A) → Contains (take k xs) x → Contains xs x
taken zero xs x m = absurd (nothing_in_nil x m)
taken (suc k) [] x m = absurd (nothing_in_nil x m)
taken (suc k) (y ∷ xs) x m =
    elim (Contains-cons_cases y (take k xs) x m) [
      | inl e ↦ subst (λ z. Contains (y ∷ xs) z) e (Contains-head y xs)
      | inr n ↦ Contains-tail y xs x (taken k xs x n)
    ]

-- the first of them
distinct_take : {A : Type 0} (k : ℕ) (xs : List A) → IsDistinct xs → IsDistinct (take k xs)
distinct_take zero xs d = tt
distinct_take (suc k) [] d = tt
distinct_take (suc k) (x ∷ xs) d = (λ m. d.0 (taken k xs x m), distinct_take k xs d.1)

module _ (n : ℕ) (phases : ℕ → Phases) where
  ascend_by : (o : Option Waiting) → Ascends (impeders_by n phases o)
  ascend_by None i j d l m = absurd (omega arith)
  ascend_by (Some w) i j d l m = impeders_ascend n phases w.event i j d l m

  abbrev IsBehind : Option Waiting → ℕ → ℕ → Type 0
  IsBehind o u m = (w : Waiting) × (o ≡ Some w) × (u < n) × (phases u w.event.p.0 ≡ Some m) × (m < w.event.n)

  behind_by : (o : Option Waiting) (i : Impeder) → Contains (impeders_by n phases o) i → IsBehind o i.t.0 i.phase
  behind_by None i there = absurd (nothing_in_nil i there)
  behind_by (Some w) i there = let (lt, phase, below) = impeder_is n phases w.event i there in (w, refl, lt, phase, below)

  from_behind : (o : Option Waiting) (w : Waiting) (u m : ℕ) → o ≡ Some w → u < n → phases u w.event.p.0 ≡ Some m → m < w.event.n → Contains (impeders_by n phases o) (impeder w.event u m)
  from_behind None w u m is lt phase below = absurd (cc)
  from_behind (Some v) w u m is lt phase below =
      let same : w ≡ v = cc in
      subst (λ (x : Waiting). Contains (impeders_in n phases x.event) (impeder w.event u m)) same (impeder_there n phases w.event u m lt phase below)

pub each_impeder_told : EachImpederIsTold
each_impeder_told f phases t =
    let n = length f.standings in
    let is = impeders_by_facts f phases t in
    let ascend = ascend_by n phases (wait_of f t) in
    let told = told_in_lines f phases t in
    let once = are_once same_said same_said_is same_said_itself (map (impeder_said f) (filter (is_this_impeder (next_of f phases t)) is ++ is)) in (
      all_distinct f is ascend told (distinct_take 3 (told_of f (next_of f phases t) is) (once_distinct (told_of f (next_of f phases t) is) once)),
      λ u. (
        λ m.
            let (i, there, same) = all_there f is ascend told u m in
            let (w, wait, lt, phase, below) = behind_by n phases (wait_of f t) i there in
            subst (IsImpededBy f phases t) same (w, wait, lt, i.phase, phase, below),
        λ (w, wait, lt, k, phase, below).
            let there = there_all f is ascend told (impeder w.event u.0 k) (from_behind n phases (wait_of f t) w u.0 k wait lt phase below) in
            subst (λ x. Contains (named_impeders f phases t) x) (same_task (record { 0 = u.0 }) u refl) there,
      ),
    )
