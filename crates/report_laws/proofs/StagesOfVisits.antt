-- The stages of an unfolding that draw a task or make a phaser: the visits of all tasks that do, in order; and the last of them that drew or made this one.
use Rattle.std.proofs.Common.{◌≡◌, ◌⊎◌, ℕ, zero, suc, ◌+◌, ◌<◌, ◌≤◌, Bool, true, false, if◌then◌else◌, Option, Some, None, List, [], ◌∷◌, ◌++◌, append-nil, length, map, take, arith, sym, ◌∙◌, ap, refl, inl, inr}
use Rattle.std.specs.Prelude.{◌==◌, ◌&&◌, Contains, cond, filter, slice_index_or}
use Rattle.std.specs.List.{flat_map, slice_get}
use Rattle.std.proofs.lemmas.Bool.{cases_lt, eq-eqb, ne_eqb}
use Rattle.std.proofs.lemmas.Grind.{flat_map-append}
use Rattle.std.proofs.lemmas.List.{get_or_past, length-append, map-append, take_all, take_more}
use Rattle.pl_syntax.specs.Tree.{adv, await, dereg, new_phaser, new_task, reg, skip}
use Rattle.armus_base.specs.Numbers.{phaser}
use Rattle.armus_base.specs.declared.op.Op.TheVariants as op
use Rattle.pl_plan.specs.Stages.{Stage, StagesLead, after_stage, begins, comes, ends_of, leaves, leaves_below, stages_below, stages_of, with_code, with_start_names}
use Rattle.pl_plan.specs.Tests.{of_new_phaser, of_new_task}
use Rattle.pl_plan.specs.Unfolding.{Coming, Start, UnfoldingState, Visit, a_fork, a_loop, a_plain, a_turn, visit, visits_of, with_member, with_members}
use Rattle.source_map.specs.Origins.{statements_where, visits_by}
use Rattle.source_map.proofs.CodesOfVisits.{get_cases}
use Rattle.explain_check.specs.Deeds.{Deed, did_draw, did_make, last_that, or_else, stage_statement}

-- ---- which stages do so

module _ (test : Coming → Bool) where
  -- these stages, of which the coming passes the test
  abbrev pub stages_where : List Stage → List Stage
  stages_where [] = []
  stages_where (begins t ∷ vs) = stages_where vs
  stages_where (leaves t p ∷ vs) = stages_where vs
  stages_where (comes t m ∷ vs) = if test m.coming then comes t m ∷ stages_where vs else stages_where vs

  where_more : (vs ws : List Stage) → stages_where (vs ++ ws) ≡ stages_where vs ++ stages_where ws
  where_more [] ws = refl
  where_more (begins t ∷ vs) ws = where_more vs ws
  where_more (leaves t p ∷ vs) ws = where_more vs ws
  where_more (comes t m ∷ vs) ws = by (test m.coming) (where_more vs ws)
    where
      by : (b : Bool) → stages_where (vs ++ ws) ≡ stages_where vs ++ stages_where ws →
          (if b then comes t m ∷ stages_where (vs ++ ws) else stages_where (vs ++ ws)) ≡ (if b then comes t m ∷ stages_where vs else stages_where vs) ++ stages_where ws
      by true rest = ap (λ z. comes t m ∷ z) rest
      by false rest = rest

  abbrev passing : List Visit → List Visit
  passing ms = filter (λ (m : Visit). test m.coming) ms

  where_comes : (t : ℕ) (ms : List Visit) → stages_where (map (λ m. comes t m) ms) ≡ map (λ m. comes t m) (passing ms)
  where_comes t [] = refl
  where_comes t (m ∷ ms) = by (test m.coming) (where_comes t ms)
    where
      by : (b : Bool) → stages_where (map (λ m. comes t m) ms) ≡ map (λ m. comes t m) (passing ms) →
          (if b then comes t m ∷ stages_where (map (λ m. comes t m) ms) else stages_where (map (λ m. comes t m) ms)) ≡ map (λ m. comes t m) (cond b (m ∷ passing ms) (passing ms))
      by true rest = ap (λ z. comes t m ∷ z) rest
      by false rest = rest

  where_leaves : (t p : ℕ) → stages_where (leaves_below t p) ≡ []
  where_leaves t zero = refl
  where_leaves t (suc p) = where_more (leaves_below t p) (leaves t p ∷ []) ∙ append-nil (stages_where (leaves_below t p)) ∙ where_leaves t p

  where_ends : (two : Bool) (t : ℕ) → stages_where (ends_of two t) ≡ []
  where_ends false t = refl
  where_ends true t = where_leaves t 1024

  where_task : (two : Bool) (t : ℕ) (o : Option Start) → stages_where (stages_of two t o) ≡ map (λ m. comes t m) (passing (visits_by o))
  where_task two t None = refl
  where_task two t (Some start) =
      let ms = visits_of start.first start.body in
      where_more (map (λ m. comes t m) ms) (ends_of two t) ∙ ap (λ z. stages_where (map (λ m. comes t m) ms) ++ z) (where_ends two t)
      ∙ append-nil (stages_where (map (λ m. comes t m) ms)) ∙ where_comes t ms

  -- ---- their statements

  abbrev pub statements_of : List Stage → List ℕ
  statements_of vs = map (λ v. stage_statement (Some v)) vs

  statements_come : (t : ℕ) (ms : List Visit) → statements_of (map (λ m. comes t m) ms) ≡ map (λ (m : Visit). m.statement) ms
  statements_come t [] = refl
  statements_come t (m ∷ ms) = ap (λ z. m.statement ∷ z) (statements_come t ms)

  abbrev of_start : Option Start → List ℕ
  of_start o = statements_where test (visits_by o)

  statements_below : (two : Bool) (n : ℕ) (s : UnfoldingState) → statements_of (stages_where (stages_below two n s)) ≡ flat_map of_start (take n s.starts)
  statements_below two zero s = none s.starts
    where
      none : (starts : List (Option Start)) → [] ≡ flat_map of_start (take 0 starts)
      none [] = refl
      none (o ∷ starts) = refl
  statements_below two (suc n) s =
      let o = slice_index_or s.starts n None in
      ap statements_of (where_more (stages_below two n s) (stages_of two n o))
      ∙ map-append (λ v. stage_statement (Some v)) (stages_where (stages_below two n s)) (stages_where (stages_of two n o))
      ∙ ap (λ z. statements_of (stages_where (stages_below two n s)) ++ z) (ap statements_of (where_task two n o) ∙ statements_come n (passing (visits_by o)))
      ∙ ap (λ z. z ++ of_start o) (statements_below two n s) ∙ by (cases_lt n (length s.starts))
    where
      by : (n < length s.starts) ⊎ (length s.starts ≤ n) → flat_map of_start (take n s.starts) ++ of_start (slice_index_or s.starts n None) ≡ flat_map of_start (take (suc n) s.starts)
      by (inl lt) =
          let o = slice_index_or s.starts n None in
          ap (λ z. flat_map of_start (take n s.starts) ++ z) (sym (append-nil (of_start o)))
          ∙ sym (flat_map-append of_start (take n s.starts) (o ∷ []))
          ∙ ap (flat_map of_start) (sym (take_more s.starts n None lt) ∙ ap (λ m. take m s.starts) (let z : n + 1 ≡ suc n = omega arith in z))
      by (inr le) =
          ap (λ o. flat_map of_start (take n s.starts) ++ of_start o) (get_or_past s.starts n None le) ∙ append-nil (flat_map of_start (take n s.starts))
          ∙ ap (flat_map of_start) (take_all n s.starts le ∙ sym (take_all (suc n) s.starts (omega (arith, le))))

  -- those of all tasks
  pub statements_all : (two : Bool) (n : ℕ) (s : UnfoldingState) → length s.starts ≤ n → statements_of (stages_where (stages_below two n s)) ≡ flat_map of_start s.starts
  statements_all two n s le = statements_below two n s ∙ ap (flat_map of_start) (take_all n s.starts le)

  -- ---- their visits

  -- it is a coming of a task to a statement of its body that passes
  pub record IsOfTask (s : UnfoldingState) (v : Stage) : Type 0 where
    pub task : ℕ
    pub by : Visit
    pub is : v ≡ comes task by
    pub among : Contains (visits_by (slice_index_or s.starts task None)) by
    pub passes : test by.coming ≡ true

  among_passing : (ms : List Visit) (t i : ℕ) (v : Stage) → slice_get (map (λ m. comes t m) (passing ms)) i ≡ Some v →
      (m : Visit) × (v ≡ comes t m) × Contains ms m × (test m.coming ≡ true)
  among_passing [] t i v e = absurd (cc)
  among_passing (m ∷ ms) t i v e = by (test m.coming) refl i e (λ j is. among_passing ms t j v is)
    where
      later : ((n : Visit) × (v ≡ comes t n) × Contains ms n × (test n.coming ≡ true)) → (n : Visit) × (v ≡ comes t n) × Contains (m ∷ ms) n × (test n.coming ≡ true)
      later (n, is, there, passes) = (n, is, (suc there.0, omega (arith, there.1), there.2), passes)

      by : (b : Bool) → test m.coming ≡ b → (i : ℕ) → slice_get (map (λ m. comes t m) (cond b (m ∷ passing ms) (passing ms))) i ≡ Some v →
          ((j : ℕ) → slice_get (map (λ m. comes t m) (passing ms)) j ≡ Some v → (n : Visit) × (v ≡ comes t n) × Contains ms n × (test n.coming ≡ true)) →
          (n : Visit) × (v ≡ comes t n) × Contains (m ∷ ms) n × (test n.coming ≡ true)
      by true is zero e rest = (m, (let one : v ≡ comes t m = cc in one), (0, omega arith, refl), is)
      by true is (suc i) e rest = later (rest i e)
      by false is i e rest = later (rest i e)

  pub of_task : (two : Bool) (n i : ℕ) (s : UnfoldingState) (v : Stage) → slice_get (stages_where (stages_below two n s)) i ≡ Some v → IsOfTask s v
  of_task two zero i s v e = absurd (cc)
  of_task two (suc n) i s v e =
      let o = slice_index_or s.starts n None in
      let own = stages_where (stages_of two n o) in
      elim (get_cases (stages_where (stages_below two n s)) own i v (ap (λ z. slice_get z i) (sym (where_more (stages_below two n s) (stages_of two n o))) ∙ e)) as (λ _. IsOfTask s v) [
        | inl there ↦ of_task two n i s v there
        | inr h ↦
            let (m, is, among, passes) = among_passing (visits_by o) n h.0 v (ap (λ z. slice_get z h.0) (sym (where_task two n o)) ∙ h.2) in
            record { task = n; by = m; is = is; among = among; passes = passes }
      ]

-- ---- the last stage that did so

else_none : (o : Option Stage) → or_else None o ≡ o
else_none None = refl
else_none (Some v) = refl

-- such stages are counted: each of them, and no other, adds one to this number, and does so with the number that it had before
pub record AreCounted (test : Coming → Bool) (size : UnfoldingState → ℕ) (did : ℕ → Deed) : Type 0 where
  pub begins_not : (c t : ℕ) (s : UnfoldingState) → did c s (begins t) ≡ false
  pub leaves_not : (c t p : ℕ) (s : UnfoldingState) → did c s (leaves t p) ≡ false
  pub comes_so : (c t : ℕ) (m : Visit) (s : UnfoldingState) → did c s (comes t m) ≡ (test m.coming && (size s == c))
  pub begins_same : (t : ℕ) (s : UnfoldingState) → size (after_stage (begins t) s) ≡ size s
  pub leaves_same : (t p : ℕ) (s : UnfoldingState) → size (after_stage (leaves t p) s) ≡ size s
  pub comes_more : (t : ℕ) (m : Visit) (s : UnfoldingState) → size (after_stage (comes t m) s) ≡ (if test m.coming then suc (size s) else size s)

module _ (test : Coming → Bool) (size : UnfoldingState → ℕ) (did : ℕ → Deed) (h : AreCounted test size did) where
  skipped : (c : ℕ) (s : UnfoldingState) (v : Stage) (vs : List Stage) → did c s v ≡ false → last_that (did c) s (v ∷ vs) ≡ last_that (did c) (after_stage v s) vs
  skipped c s v vs none = ap (λ (b : Bool). or_else (if b then Some v else None) (last_that (did c) (after_stage v s) vs)) none ∙ else_none (last_that (did c) (after_stage v s) vs)

  -- none of these did it, where the number is passed
  none_that : (vs : List Stage) (s : UnfoldingState) (c : ℕ) → c < size s → last_that (did c) s vs ≡ None
  none_that [] s c lt = refl
  none_that (begins t ∷ vs) s c lt =
      skipped c s (begins t) vs (h.begins_not c t s) ∙ none_that vs (after_stage (begins t) s) c (omega (arith, lt, h.begins_same t s))
  none_that (leaves t p ∷ vs) s c lt =
      skipped c s (leaves t p) vs (h.leaves_not c t p s) ∙ none_that vs (after_stage (leaves t p) s) c (omega (arith, lt, h.leaves_same t p s))
  none_that (comes t m ∷ vs) s c lt =
      skipped c s (comes t m) vs (h.comes_so c t m s ∙ ap (λ b. test m.coming && b) (ne_eqb (size s) c (λ same. absurd (omega (arith, same, lt)))) ∙ never (test m.coming))
      ∙ none_that vs (after_stage (comes t m) s) c (more (test m.coming) (h.comes_more t m s))
    where
      never : (b : Bool) → (b && false) ≡ false
      never true = refl
      never false = refl

      more : (b : Bool) → size (after_stage (comes t m) s) ≡ (if b then suc (size s) else size s) → c < size (after_stage (comes t m) s)
      more true e = omega (arith, e, lt)
      more false e = omega (arith, e, lt)

  -- the last that did it is the one with this number
  pub last_is : (vs : List Stage) (s : UnfoldingState) (c i : ℕ) → size s + i ≡ c → last_that (did c) s vs ≡ slice_get (stages_where test vs) i
  last_is [] s c i at = refl
  last_is (begins t ∷ vs) s c i at =
      skipped c s (begins t) vs (h.begins_not c t s) ∙ last_is vs (after_stage (begins t) s) c i (omega (arith, at, h.begins_same t s))
  last_is (leaves t p ∷ vs) s c i at =
      skipped c s (leaves t p) vs (h.leaves_not c t p s) ∙ last_is vs (after_stage (leaves t p) s) c i (omega (arith, at, h.leaves_same t p s))
  last_is (comes t m ∷ vs) s c i at = by (test m.coming) refl i at (λ j next. last_is vs (after_stage (comes t m) s) c j next)
    where
      v : Stage
      v = comes t m

      -- it is this one, and no later one did it
      here : test m.coming ≡ true → size s ≡ c → last_that (did c) s (v ∷ vs) ≡ Some v
      here is same =
          let did_it : did c s v ≡ true = h.comes_so c t m s ∙ ap (λ b. b && (size s == c)) is ∙ eq-eqb (size s) c same in
          let grown : size (after_stage v s) ≡ suc (size s) = h.comes_more t m s ∙ ap (λ (b : Bool). if b then suc (size s) else size s) is in
          ap (λ (b : Bool). or_else (if b then Some v else None) (last_that (did c) (after_stage v s) vs)) did_it
          ∙ ap (or_else (Some v)) (none_that vs (after_stage v s) c (omega (arith, grown, same)))

      by : (b : Bool) → test m.coming ≡ b → (i : ℕ) → size s + i ≡ c →
          ((j : ℕ) → size (after_stage v s) + j ≡ c → last_that (did c) (after_stage v s) vs ≡ slice_get (stages_where test vs) j) →
          last_that (did c) s (v ∷ vs) ≡ slice_get (if b then v ∷ stages_where test vs else stages_where test vs) i
      by true is zero at rest = here is (omega (arith, at))
      by true is (suc i) at rest =
          let other : did c s v ≡ false = h.comes_so c t m s ∙ ap (λ b. b && (size s == c)) is ∙ ne_eqb (size s) c (λ same. absurd (omega (arith, same, at))) in
          let grown : size (after_stage v s) ≡ suc (size s) = h.comes_more t m s ∙ ap (λ (b : Bool). if b then suc (size s) else size s) is in
          skipped c s v vs other ∙ rest i (omega (arith, grown, at))
      by false is i at rest =
          let other : did c s v ≡ false = h.comes_so c t m s ∙ ap (λ b. b && (size s == c)) is in
          let same : size (after_stage v s) ≡ size s = h.comes_more t m s ∙ ap (λ (b : Bool). if b then suc (size s) else size s) is in
          skipped c s v vs other ∙ rest i (omega (arith, same, at))

  -- and so they are as many as were added
  pub all_counted : (two : Bool) (before vs : List Stage) (s e : UnfoldingState) → StagesLead two before vs s e → size e ≡ size s + length (stages_where test vs)
  all_counted two before [] s e leads = omega (arith, ap size leads)
  all_counted two before (begins t ∷ vs) s e leads =
      omega (arith, h.begins_same t s, all_counted two (before ++ begins t ∷ []) vs (after_stage (begins t) s) e leads.2)
  all_counted two before (leaves t p ∷ vs) s e leads =
      omega (arith, h.leaves_same t p s, all_counted two (before ++ leaves t p ∷ []) vs (after_stage (leaves t p) s) e leads.2)
  all_counted two before (comes t m ∷ vs) s e leads =
      by (test m.coming) (h.comes_more t m s) (all_counted two (before ++ comes t m ∷ []) vs (after_stage (comes t m) s) e leads.2)
    where
      by : (b : Bool) → size (after_stage (comes t m) s) ≡ (if b then suc (size s) else size s) → size e ≡ size (after_stage (comes t m) s) + length (stages_where test vs) →
          size e ≡ size s + length (if b then comes t m ∷ stages_where test vs else stages_where test vs)
      by true grown rest = omega (arith, grown, rest)
      by false same rest = omega (arith, same, rest)

-- ---- tasks, and phasers

tasks_after : (t n : ℕ) (c : Coming) (s : UnfoldingState) →
    length (after_stage (comes t (visit n c)) s).plan.parents ≡ (if of_new_task c then suc (length s.plan.parents) else length s.plan.parents)
tasks_after t n (a_plain (new_task x)) s = length-append s.plan.parents _ ∙ (let z : length s.plan.parents + 1 ≡ suc (length s.plan.parents) = omega arith in z)
tasks_after t n (a_plain (new_phaser x)) s = refl
tasks_after t n (a_plain (reg x y)) s = refl
tasks_after t n (a_plain (dereg x)) s = refl
tasks_after t n (a_plain (adv x)) s = refl
tasks_after t n (a_plain (await x off)) s = refl
tasks_after t n (a_plain skip) s = refl
tasks_after t n (a_fork x body) s = refl
tasks_after t n a_loop s = refl
tasks_after t n a_turn s = refl

phasers_after : (t n : ℕ) (c : Coming) (s : UnfoldingState) →
    length (after_stage (comes t (visit n c)) s).plan.makers ≡ (if of_new_phaser c then suc (length s.plan.makers) else length s.plan.makers)
phasers_after t n (a_plain (new_task x)) s = refl
phasers_after t n (a_plain (new_phaser x)) s = length-append s.plan.makers _ ∙ (let z : length s.plan.makers + 1 ≡ suc (length s.plan.makers) = omega arith in z)
phasers_after t n (a_plain (reg x y)) s = refl
phasers_after t n (a_plain (dereg x)) s = refl
phasers_after t n (a_plain (adv x)) s = refl
phasers_after t n (a_plain (await x off)) s = refl
phasers_after t n (a_plain skip) s = refl
phasers_after t n (a_fork x body) s = refl
phasers_after t n a_loop s = refl
phasers_after t n a_turn s = refl

-- a stage that begins a task, or by which it leaves a phaser, changes neither
begins_same : (o : Option Start) (s : UnfoldingState) → ((with_start_names o s).plan.parents ≡ s.plan.parents) × ((with_start_names o s).plan.makers ≡ s.plan.makers)
begins_same None s = (refl, refl)
begins_same (Some start) s = (refl, refl)

leaves_same : (t p : ℕ) (s : UnfoldingState) → ((after_stage (leaves t p) s).plan.parents ≡ s.plan.parents) × ((after_stage (leaves t p) s).plan.makers ≡ s.plan.makers)
leaves_same t p s = by (s.members t p)
  where
    gone : UnfoldingState
    gone = with_code t (op.Drop (phaser p)) (with_members (with_member t p false s.members) s)

    by : (b : Bool) → ((if b then gone else s).plan.parents ≡ s.plan.parents) × ((if b then gone else s).plan.makers ≡ s.plan.makers)
    by true = (refl, refl)
    by false = (refl, refl)

pub tasks_are_counted : AreCounted of_new_task (λ s. length s.plan.parents) did_draw
tasks_are_counted = record {
  begins_not = λ c t s. refl;
  leaves_not = λ c t p s. refl;
  comes_so = λ c t m s. refl;
  begins_same = λ t s. ap length (begins_same (slice_index_or s.starts t None) s).0;
  leaves_same = λ t p s. ap length (leaves_same t p s).0;
  comes_more = λ t m s. tasks_after t m.statement m.coming s;
}

pub phasers_are_counted : AreCounted of_new_phaser (λ s. length s.plan.makers) did_make
phasers_are_counted = record {
  begins_not = λ c t s. refl;
  leaves_not = λ c t p s. refl;
  comes_so = λ c t m s. refl;
  begins_same = λ t s. ap length (begins_same (slice_index_or s.starts t None) s).1;
  leaves_same = λ t p s. ap length (leaves_same t p s).1;
  comes_more = λ t m s. phasers_after t m.statement m.coming s;
}
