-- The items of a list of tasks name just these tasks, and no two runs are one.
use Rattle.std.proofs.Common.{◌≡◌, ◌≢◌, ◌≤◌, ℕ, zero, suc, ◌+◌, ◌-◌, Bool, true, false, List, [], ◌∷◌, ◌++◌, arith, sym, ◌∙◌, ap, subst, refl, ◌⊎◌, inl, inr, append_assoc, append-nil}
use Rattle.std.specs.Prelude.{Contains, ◌==◌, flat_map, if◌then◌else◌, slice_index_or}
use Rattle.std.proofs.lemmas.Bool.{cases_lt, eqb-true, eqb-false}
use Rattle.std.proofs.lemmas.Grind.{flat_map-append}
use Rattle.armus_base.specs.declared.ids.TaskId.{TaskId}
use Rattle.armus_base.specs.Finals.{list_below}
use Rattle.armus_base.specs.Relations.{IsWalk}
use Rattle.armus_base.proofs.Elements.{Contains-cons_cases, Contains-head, Contains-tail, nothing_in_nil}
use Rattle.std.proofs.lemmas.List.Elements.{Contains-append_cases}
use Rattle.explain_tasks.specs.declared.task_lists.Run.{Run}
use Rattle.explain_tasks.specs.calls.Laws.{ItemsAreNoPairs, ItemsNameTheTasks, RunsAreApart, tasks_in}
use Rattle.explain_tasks.specs.TaskLists.{items_of, runs_behind, runs_of}

abbrev one : ℕ → Run
one t = record { from = t; to = t }

abbrev task : ℕ → TaskId
task t = record { 0 = t }

-- tasks by the number of them
abbrev counted : ℕ → ℕ → List TaskId
counted from n = list_below (λ k. task (from + k)) n

one_task : (t : ℕ) → tasks_in (one t) ≡ task t ∷ []
one_task t = ap (counted t) (let e : t + 1 - t ≡ 1 = omega arith in e) ∙ ap (λ k. task k ∷ []) (let e : t + 0 ≡ t = omega arith in e)

-- a run of one task more
one_more : (from to : ℕ) → from ≤ to → tasks_in (record { from = from; to = to + 1 }) ≡ tasks_in (record { from = from; to = to }) ++ task (to + 1) ∷ []
one_more from to l =
    let n = to + 1 - from in
    ap (counted from) (let e : to + 1 + 1 - from ≡ suc n = omega (arith, l) in e)
    ∙ ap (λ k. counted from n ++ task k ∷ []) (let e : from + n ≡ to + 1 = omega (arith, l) in e)

-- ---- runs

behind_names : (run : Run) (rest : List TaskId) → run.from ≤ run.to → flat_map tasks_in (runs_behind run rest) ≡ tasks_in run ++ rest
behind_names run [] l = refl
behind_names run (t ∷ rest) l = by (λ r l. behind_names r rest l) (t.0 == run.to + 1) refl
  where
    by : ((r : Run) → r.from ≤ r.to → flat_map tasks_in (runs_behind r rest) ≡ tasks_in r ++ rest) → (b : Bool) → (t.0 == run.to + 1) ≡ b →
        flat_map tasks_in (if b then runs_behind (record { from = run.from; to = t.0 }) rest else run ∷ runs_behind (one t.0) rest) ≡ tasks_in run ++ t ∷ rest
    by names true e =
        let next : t.0 ≡ run.to + 1 = eqb-true t.0 (run.to + 1) e in
        names (record { from = run.from; to = t.0 }) (omega (arith, l, next))
        ∙ ap (λ xs. xs ++ rest)
        (ap (λ k. tasks_in (record { from = run.from; to = k })) next
        ∙ one_more run.from run.to l
        ∙ ap (λ k. tasks_in run ++ task k ∷ []) (sym next))
        ∙ append_assoc (tasks_in run) (t ∷ []) rest
    by names false e = ap (λ xs. tasks_in run ++ xs) (names (one t.0) (omega arith) ∙ ap (λ xs. xs ++ rest) (one_task t.0))

runs_name : (tasks : List TaskId) → flat_map tasks_in (runs_of tasks) ≡ tasks
runs_name [] = refl
runs_name (t ∷ rest) = behind_names (one t.0) rest (omega arith) ∙ ap (λ xs. xs ++ rest) (one_task t.0)

-- the first number of each run is at most its last
runs_go : (run : Run) (rest : List TaskId) → run.from ≤ run.to → (r : Run) → Contains (runs_behind run rest) r → r.from ≤ r.to
runs_go run [] l r m = elim (Contains-cons_cases run [] r m) [ inl e ↦ subst (λ (x : Run). x.from ≤ x.to) e l | inr n ↦ absurd (nothing_in_nil r n) ]
runs_go run (t ∷ rest) l r m = by (λ x l n. runs_go x rest l r n) (t.0 == run.to + 1) refl m
  where
    by : ((x : Run) → x.from ≤ x.to → Contains (runs_behind x rest) r → r.from ≤ r.to) → (b : Bool) → (t.0 == run.to + 1) ≡ b →
        Contains (if b then runs_behind (record { from = run.from; to = t.0 }) rest else run ∷ runs_behind (one t.0) rest) r → r.from ≤ r.to
    by go true e m = go (record { from = run.from; to = t.0 }) (let next = eqb-true t.0 (run.to + 1) e in omega (arith, l, next)) m
    by go false e m =
        elim (Contains-cons_cases run (runs_behind (one t.0) rest) r m) [
          | inl is ↦ subst (λ (x : Run). x.from ≤ x.to) is l
          | inr n ↦ go (one t.0) (omega arith) n
        ]

all_go : (tasks : List TaskId) (r : Run) → Contains (runs_of tasks) r → r.from ≤ r.to
all_go [] r m = absurd (nothing_in_nil r m)
all_go (t ∷ rest) r m = runs_go (one t.0) rest (omega arith) r m

-- ---- items

run_items : (r : Run) → r.from ≤ r.to → flat_map tasks_in (items_of r) ≡ tasks_in r
run_items r l = by (r.to == r.from + 1) refl
  where
    by : (b : Bool) → (r.to == r.from + 1) ≡ b → flat_map tasks_in (if b then one r.from ∷ one r.to ∷ [] else r ∷ []) ≡ tasks_in r
    by true e =
        let next : r.to ≡ r.from + 1 = eqb-true r.to (r.from + 1) e in
        ap (λ xs. tasks_in (one r.from) ++ xs) (append-nil (tasks_in (one r.to)) ∙ one_task r.to ∙ ap (λ k. task k ∷ []) next)
        ∙ sym (one_more r.from r.from (omega arith))
        ∙ ap (λ k. tasks_in (record { from = r.from; to = k })) (sym next)
    by false e = append-nil (tasks_in r)

items_name : (rs : List Run) → ((r : Run) → Contains rs r → r.from ≤ r.to) → flat_map tasks_in (flat_map items_of rs) ≡ flat_map tasks_in rs
items_name [] go = refl
items_name (r ∷ rs) go =
    flat_map-append tasks_in (items_of r) (flat_map items_of rs)
    ∙ ap (λ xs. xs ++ flat_map tasks_in (flat_map items_of rs)) (run_items r (go r (Contains-head r rs)))
    ∙ ap (λ xs. tasks_in r ++ xs) (items_name rs (λ x m. go x (Contains-tail r rs x m)))

pub items_name_the_tasks : ItemsNameTheTasks
items_name_the_tasks tasks = items_name (runs_of tasks) (all_go tasks) ∙ runs_name tasks

no_pair : (r item : Run) → r.from ≤ r.to → Contains (items_of r) item → (item.from ≡ item.to) ⊎ (item.from + 2 ≤ item.to)
no_pair r item l m = by (r.to == r.from + 1) refl m
  where
    by : (b : Bool) → (r.to == r.from + 1) ≡ b → Contains (if b then one r.from ∷ one r.to ∷ [] else r ∷ []) item →
        (item.from ≡ item.to) ⊎ (item.from + 2 ≤ item.to)
    by true e m =
        elim (Contains-cons_cases (one r.from) (one r.to ∷ []) item m) [
          | inl is ↦ inl (sym (ap (λ (x : Run). x.from) is) ∙ ap (λ (x : Run). x.to) is)
          | inr n ↦ elim (Contains-cons_cases (one r.to) [] item n) [
            | inl is ↦ inl (sym (ap (λ (x : Run). x.from) is) ∙ ap (λ (x : Run). x.to) is)
            | inr none ↦ absurd (nothing_in_nil item none)
          ]
        ]
    by false e m =
        elim (Contains-cons_cases r [] item m) [
          | inl is ↦ subst (λ (x : Run). (x.from ≡ x.to) ⊎ (x.from + 2 ≤ x.to)) is (
              elim (cases_lt r.from r.to) [
                | inl less ↦ inr (let off = eqb-false r.to (r.from + 1) e in omega (arith, less, off))
                | inr more ↦ inl (omega (arith, l, more))
              ]
              )
          | inr none ↦ absurd (nothing_in_nil item none)
        ]

pub items_are_no_pairs : ItemsAreNoPairs
items_are_no_pairs tasks item m = in_runs (runs_of tasks) (all_go tasks) m
  where
    in_runs : (rs : List Run) → ((r : Run) → Contains rs r → r.from ≤ r.to) → Contains (flat_map items_of rs) item →
        (item.from ≡ item.to) ⊎ (item.from + 2 ≤ item.to)
    in_runs [] go m = absurd (nothing_in_nil item m)
    in_runs (r ∷ rs) go m =
        elim (Contains-append_cases (items_of r) (flat_map items_of rs) item m) [
          | inl here ↦ no_pair r item (go r (Contains-head r rs)) here
          | inr there ↦ in_runs rs (λ x n. go x (Contains-tail r rs x n)) there
        ]

-- ---- apart

abbrev AreApart : Run → Run → Type 0
AreApart before behind = behind.from ≢ before.to + 1

-- the first run behind a run begins with it
begins : (run : Run) (rest : List TaskId) (d : Run) → (slice_index_or (runs_behind run rest) 0 d).from ≡ run.from
begins run [] d = refl
begins run (t ∷ rest) d = by (begins (record { from = run.from; to = t.0 }) rest d) (t.0 == run.to + 1)
  where
    by : (slice_index_or (runs_behind (record { from = run.from; to = t.0 }) rest) 0 d).from ≡ run.from → (b : Bool) →
        (slice_index_or (if b then runs_behind (record { from = run.from; to = t.0 }) rest else run ∷ runs_behind (one t.0) rest) 0 d).from ≡ run.from
    by on true = on
    by on false = refl

walk_more : (x : Run) (xs : List Run) → ((d : Run) → AreApart x (slice_index_or xs 0 d)) → IsWalk AreApart xs → IsWalk AreApart (x ∷ xs)
walk_more x xs head walk zero d l = head d
walk_more x xs head walk (suc k) d l =
    subst (λ j. AreApart (slice_index_or xs k d) (slice_index_or (x ∷ xs) j d)) (let e : suc (k + 1) ≡ suc k + 1 = omega arith in e) (walk k d (omega (arith, l)))

behind_apart : (run : Run) (rest : List TaskId) → IsWalk AreApart (runs_behind run rest)
behind_apart run [] = λ k d l. absurd (omega (arith, l))
behind_apart run (t ∷ rest) = by (λ r. behind_apart r rest) (t.0 == run.to + 1) refl
  where
    by : ((r : Run) → IsWalk AreApart (runs_behind r rest)) → (b : Bool) → (t.0 == run.to + 1) ≡ b → IsWalk AreApart (if b then runs_behind (record { from = run.from; to = t.0 }) rest else run ∷ runs_behind (one t.0) rest)
    by walks true e = walks (record { from = run.from; to = t.0 })
    by walks false e =
        walk_more run (runs_behind (one t.0) rest)
        (λ d is. eqb-false t.0 (run.to + 1) e (sym (begins (one t.0) rest d) ∙ is))
        (walks (one t.0))

pub runs_are_apart : RunsAreApart
runs_are_apart [] = λ k d l. absurd (omega (arith, l))
runs_are_apart (t ∷ rest) = behind_apart (one t.0) rest
