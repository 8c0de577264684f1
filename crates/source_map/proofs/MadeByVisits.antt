-- Each phaser and each task has its origin.
use Rattle.std.proofs.Common.{◌≡◌, ℕ, zero, suc, ◌+◌, ◌-◌, ◌<◌, ◌≤◌, Bool, true, Option, Some, None, List, [], ◌∷◌, ◌++◌, length, map, refl, sym, ap, subst, ◌∙◌, arith, inl, inr}
use Rattle.std.specs.Prelude.{Contains, filter, slice_index_or}
use Rattle.std.specs.List.{flat_map, slice_get}
use Rattle.std.proofs.lemmas.List.{length-map}
use Rattle.std.proofs.lemmas.List.Elements.{All-contains, All-contains_itself, All-filter, filter_passes}
use Rattle.armus_base.specs.declared.ids.TaskId.{TaskId}
use Rattle.pl_syntax.specs.declared.tree.Program.{Program}
use Rattle.pl_plan.specs.Forks.{starts_of}
use Rattle.armus_base.specs.Numbers.{task}
use Rattle.pl_plan.specs.Unfolding.{Coming, Start, Visit}
use Rattle.pl_plan.specs.Tests.{of_new_phaser, of_new_task}
use Rattle.source_map.specs.Origins.{phaser_origin, statements_where, visits_by}
use Rattle.source_map.specs.calls.OriginLaws.{IsOfVisit, PhasersHaveOrigins, TasksHaveOrigins, tasks_from, tasks_of_all}
use Rattle.source_map.proofs.CodesOfVisits.{get_cases, get_first, makers_are_of_visits, parents_are_of_visits}

-- ---- elements of lists

pub get_behind : {A : Type 0} (xs ys : List A) (i : ℕ) → slice_get (xs ++ ys) (length xs + i) ≡ slice_get ys i
get_behind [] ys i = ap (slice_get ys) (let e : 0 + i ≡ i = omega arith in e)
get_behind (x ∷ xs) ys i = ap (slice_get (x ∷ (xs ++ ys))) (let e : suc (length xs) + i ≡ suc (length xs + i) = omega arith in e) ∙ get_behind xs ys i

get_some : {A : Type 0} (xs : List A) (i : ℕ) → i < length xs → (x : A) × (slice_get xs i ≡ Some x)
get_some [] i lt = absurd (omega (arith, lt))
get_some (x ∷ xs) zero lt = (x, refl)
get_some (x ∷ xs) (suc i) lt = get_some xs i (omega (arith, lt))

get_mapped : {A B : Type 0} (f : A → B) (xs : List A) (i : ℕ) (x : A) (d : B) → slice_get xs i ≡ Some x → slice_index_or (map f xs) i d ≡ f x
get_mapped f [] i x d e = absurd (cc)
get_mapped f (y ∷ xs) zero x d e = ap f (let z : y ≡ x = cc in z)
get_mapped f (y ∷ xs) (suc i) x d e = get_mapped f xs i x d e

-- all are t
get_constant : (t : ℕ) (ns : List ℕ) (i u : ℕ) → slice_get (map (λ (n : ℕ). t) ns) i ≡ Some u → (u ≡ t) × ((n : ℕ) × (slice_get ns i ≡ Some n))
get_constant t [] i u e = absurd (cc)
get_constant t (n ∷ ns) zero u e = ((let z : u ≡ t = cc in z), (n, refl))
get_constant t (n ∷ ns) (suc i) u e = get_constant t ns i u e

record NumberedAt (vs : List Visit) (i n : ℕ) : Type 0 where
  by : Visit
  among : Contains vs by
  is : n ≡ by.statement

numbered_at : (vs : List Visit) (i n : ℕ) → slice_get (map (λ (m : Visit). m.statement) vs) i ≡ Some n → NumberedAt vs i n
numbered_at [] i n e = absurd (cc)
numbered_at (m ∷ vs) zero n e = record { by = m; among = (0, omega arith, refl); is = (let z : n ≡ m.statement = cc in z) }
numbered_at (m ∷ vs) (suc i) n e =
    let h = numbered_at vs i n e in record { by = h.by; among = (suc h.among.0, omega (arith, h.among.1), h.among.2); is = h.is }

-- ---- the visits of all tasks

module _ (test : Coming → Bool) where
  abbrev passing : List Visit → List Visit
  passing ms = filter (λ (m : Visit). test m.coming) ms

  -- the i-th of the visits of these tasks, of which the first is t, is one of task u
  record FromTask (t : ℕ) (starts : List (Option Start)) (i u : ℕ) : Type 0 where
    by : Visit
    later : t ≤ u
    among : Contains (visits_by (slice_index_or starts (u - t) None)) by
    passes : test by.coming ≡ true
    is : slice_get (flat_map (λ start. statements_where test (visits_by start)) starts) i ≡ Some by.statement

  of_first : (t : ℕ) (o : Option Start) (starts : List (Option Start)) (i u : ℕ) →
      slice_get (map (λ (n : ℕ). t) (statements_where test (visits_by o))) i ≡ Some u → FromTask t (o ∷ starts) i u
  of_first t o starts i u e =
      let c = get_constant t (statements_where test (visits_by o)) i u e in
      let m = numbered_at (passing (visits_by o)) i c.1.0 c.1.1 in
      let inside = All-contains (Contains (visits_by o)) (passing (visits_by o)) m.by
      (All-filter (λ (v : Visit). test v.coming) (Contains (visits_by o)) (visits_by o) (All-contains_itself (visits_by o))) m.among in
      record {
        by = m.by;
        later = omega (arith, c.0);
        among = subst (λ n. Contains (visits_by (slice_index_or (o ∷ starts) n None)) m.by) (let z : 0 ≡ u - t = omega (arith, c.0) in z) inside;
        passes = All-contains (λ (v : Visit). test v.coming ≡ true) (passing (visits_by o)) m.by (filter_passes (λ (v : Visit). test v.coming) (visits_by o)) m.among;
        is = get_first (statements_where test (visits_by o)) (flat_map (λ start. statements_where test (visits_by start)) starts) i m.by.statement
            (c.1.1 ∙ ap Some m.is);
      }

  of_later : (t : ℕ) (o : Option Start) (starts : List (Option Start)) (i j u : ℕ) →
      i ≡ length (map (λ (n : ℕ). t) (statements_where test (visits_by o))) + j → FromTask (t + 1) starts j u → FromTask t (o ∷ starts) i u
  of_later t o starts i j u at h = record {
    by = h.by;
    later = omega (arith, h.later);
    among = subst (λ n. Contains (visits_by (slice_index_or (o ∷ starts) n None)) h.by) (let z : suc (u - (t + 1)) ≡ u - t = omega (arith, h.later) in z) h.among;
    passes = h.passes;
    is = ap (slice_get (statements_where test (visits_by o) ++ flat_map (λ start. statements_where test (visits_by start)) starts))
        (at ∙ ap (λ n. n + j) (length-map (statements_where test (visits_by o)) (λ (n : ℕ). t)))
        ∙ get_behind (statements_where test (visits_by o)) (flat_map (λ start. statements_where test (visits_by start)) starts) j ∙ h.is;
  }

  from_task : (t : ℕ) (starts : List (Option Start)) (i u : ℕ) → slice_get (tasks_from test t starts) i ≡ Some u → FromTask t starts i u
  from_task t [] i u e = absurd (cc)
  from_task t (o ∷ starts) i u e =
      elim (get_cases (map (λ (n : ℕ). t) (statements_where test (visits_by o))) (tasks_from test (t + 1) starts) i u e) as (λ _. FromTask t (o ∷ starts) i u) [
        | inl there ↦ of_first t o starts i u there
        | inr h ↦ of_later t o starts i h.0 u h.1 (from_task (t + 1) starts h.0 u h.2)
      ]

  of_visit : (program : Program) (i u : ℕ) → slice_get (tasks_of_all test program) i ≡ Some u →
      IsOfVisit program test u (slice_get (flat_map (λ start. statements_where test (visits_by start)) (starts_of program)) i)
  of_visit program i u e =
      let h = from_task 0 (starts_of program) i u e in
      record {
        by = h.by;
        among = subst (λ n. Contains (visits_by (slice_index_or (starts_of program) n None)) h.by) (let z : u - 0 ≡ u = omega arith in z) h.among;
        passes = h.passes;
        is = h.is;
      }

-- ---- the laws

pub phasers_have_origins : PhasersHaveOrigins
phasers_have_origins program plan e p lt =
    let all = makers_are_of_visits program plan e in
    let w = get_some (tasks_of_all of_new_phaser program) p
    (omega (arith, lt, ap length all, length-map (tasks_of_all of_new_phaser program) task)) in
    let is : (slice_index_or plan.makers p (task 0)).0 ≡ w.0 =
    ap (λ (t : TaskId). t.0) (ap (λ ms. slice_index_or ms p (task 0)) all ∙ get_mapped task (tasks_of_all of_new_phaser program) p w.0 (task 0) w.1) in
    subst (λ u. IsOfVisit program of_new_phaser u (phaser_origin program p)) (sym is) (of_visit of_new_phaser program p w.0 w.1)

pub tasks_have_origins : TasksHaveOrigins
tasks_have_origins program plan e c lt =
    let all = parents_are_of_visits program plan e in
    let w = get_some (tasks_of_all of_new_task program) c
    (omega (arith, lt, ap length all, length-map (tasks_of_all of_new_task program) (λ t. Some (task t)))) in (
      w.0,
      ap (λ ps. slice_index_or ps (suc c) None) all ∙ get_mapped (λ t. Some (task t)) (tasks_of_all of_new_task program) c w.0 None w.1,
      of_visit of_new_task program c w.0 w.1,
    )
