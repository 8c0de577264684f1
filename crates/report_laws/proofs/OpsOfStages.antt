-- The statement that is told of an op is that of the stage that adds it.
use Rattle.std.proofs.Common.{◌≡◌, ◌≢◌, ◌⊎◌, ℕ, zero, suc, ◌+◌, ◌<◌, ◌≤◌, Bool, true, false, if◌then◌else◌, Option, Some, None, List, [], ◌∷◌, ◌++◌, append-nil, length, map, arith, sym, ◌∙◌, ap, subst, refl, inl, inr}
use Rattle.std.specs.Prelude.{◌==◌, ◌&&◌, cond, option_map, slice_index_or, slice_set}
use Rattle.std.specs.List.{slice_get}
use Rattle.std.proofs.lemmas.Bool.{cases_eq, cases_lt, eq-eqb, ne_eqb}
use Rattle.std.proofs.lemmas.List.{get_or-set_other, get_or-set_same, length-append, length-set}
use Rattle.std.proofs.lemmas.Option.{slice_get-map}
use Rattle.armus_base.specs.Numbers.{phaser, task}
use Rattle.armus_base.specs.declared.op.Op.{Op}
use Rattle.armus_base.specs.declared.op.Op.TheVariants as op
use Rattle.armus_base.proofs.Lists.{slice_get-behind}
use Rattle.pl_syntax.specs.Tree.{adv, await, dereg, new_phaser, new_task, reg, skip}
use Rattle.pl_plan.specs.Stages.{Stage, StagesLead, after_stage, all_stages, begins, comes, ends_of, leaves, leaves_below, stages_below, stages_of, with_code, with_start_names}
use Rattle.pl_plan.specs.Tests.{first_thing, phaser_wanted, task_number}
use Rattle.pl_plan.specs.Unfolding.{Coming, Start, UnfoldingState, Visit, a_fork, a_loop, a_plain, a_turn, opening_state, visit, visits_of, with_member, with_members}
use Rattle.pl_plan.proofs.Places.{at_more}
use Rattle.source_map.specs.Origins.{comes_to_op, op_origin, start_of, visits_by}
use Rattle.source_map.specs.calls.OriginLaws.{op_visits}
use Rattle.report_laws.specs.OpsOfStages.{OpsAreToldByTheirStages}
use Rattle.report_laws.proofs.StagesThatFork.{start_in}
use Rattle.report_laws.proofs.StagesUnfold.{same_starts}

module _ (t : ℕ) where
  -- ---- the visits of task t among stages, of those that make an op

  abbrev own : List Stage → List Visit
  own [] = []
  own (begins u ∷ vs) = own vs
  own (leaves u p ∷ vs) = own vs
  own (comes u m ∷ vs) = if (u == t) && comes_to_op m.coming then m ∷ own vs else own vs

  own_more : (vs ws : List Stage) → own (vs ++ ws) ≡ own vs ++ own ws
  own_more [] ws = refl
  own_more (begins u ∷ vs) ws = own_more vs ws
  own_more (leaves u p ∷ vs) ws = own_more vs ws
  own_more (comes u m ∷ vs) ws = by ((u == t) && comes_to_op m.coming) (own_more vs ws)
    where
      by : (b : Bool) → own (vs ++ ws) ≡ own vs ++ own ws → (if b then m ∷ own (vs ++ ws) else own (vs ++ ws)) ≡ (if b then m ∷ own vs else own vs) ++ own ws
      by true rest = ap (λ z. m ∷ z) rest
      by false rest = rest

  own_comes : (ms : List Visit) → own (map (λ m. comes t m) ms) ≡ op_visits ms
  own_comes [] = refl
  own_comes (m ∷ ms) =
      ap (λ (b : Bool). if b && comes_to_op m.coming then m ∷ own (map (λ n. comes t n) ms) else own (map (λ n. comes t n) ms)) (eq-eqb t t refl)
      ∙ by (comes_to_op m.coming) (own_comes ms)
    where
      by : (b : Bool) → own (map (λ n. comes t n) ms) ≡ op_visits ms →
          (if b then m ∷ own (map (λ n. comes t n) ms) else own (map (λ n. comes t n) ms)) ≡ cond b (m ∷ op_visits ms) (op_visits ms)
      by true rest = ap (λ z. m ∷ z) rest
      by false rest = rest

  own_others : (u : ℕ) (ms : List Visit) → u ≢ t → own (map (λ m. comes u m) ms) ≡ []
  own_others u [] other = refl
  own_others u (m ∷ ms) other =
      ap (λ (b : Bool). if b && comes_to_op m.coming then m ∷ own (map (λ n. comes u n) ms) else own (map (λ n. comes u n) ms)) (ne_eqb u t other) ∙ own_others u ms other

  own_leaves : (u p : ℕ) → own (leaves_below u p) ≡ []
  own_leaves u zero = refl
  own_leaves u (suc p) = own_more (leaves_below u p) (leaves u p ∷ []) ∙ append-nil (own (leaves_below u p)) ∙ own_leaves u p

  own_ends : (two : Bool) (u : ℕ) → own (ends_of two u) ≡ []
  own_ends false u = refl
  own_ends true u = own_leaves u 1024

  own_task : (two : Bool) (o : Option Start) → own (stages_of two t o) ≡ op_visits (visits_by o)
  own_task two None = refl
  own_task two (Some start) =
      let ms = visits_of start.first start.body in
      own_more (map (λ m. comes t m) ms) (ends_of two t) ∙ ap (λ z. own (map (λ m. comes t m) ms) ++ z) (own_ends two t) ∙ append-nil (own (map (λ m. comes t m) ms))
      ∙ own_comes ms

  other_task : (two : Bool) (u : ℕ) (o : Option Start) → u ≢ t → own (stages_of two u o) ≡ []
  other_task two u None other = refl
  other_task two u (Some start) other =
      let ms = visits_of start.first start.body in
      own_more (map (λ m. comes u m) ms) (ends_of two u) ∙ ap (λ z. z ++ own (ends_of two u)) (own_others u ms other) ∙ own_ends two u

  own_before : (two : Bool) (n : ℕ) (s : UnfoldingState) → n ≤ t → own (stages_below two n s) ≡ []
  own_before two zero s le = refl
  own_before two (suc n) s le =
      own_more (stages_below two n s) (stages_of two n (start_in s n)) ∙ ap (λ z. z ++ own (stages_of two n (start_in s n))) (own_before two n s (omega (arith, le)))
      ∙ other_task two n (start_in s n) (λ same. absurd (omega (arith, same, le)))

  own_all : (two : Bool) (n : ℕ) (s : UnfoldingState) → t < n → own (stages_below two n s) ≡ op_visits (visits_by (start_in s t))
  own_all two zero s lt = absurd (omega (arith, lt))
  own_all two (suc n) s lt =
      own_more (stages_below two n s) (stages_of two n (start_in s n)) ∙ (elim (cases_eq n t) [
        | inl same ↦
            ap (λ z. z ++ own (stages_of two n (start_in s n))) (own_before two n s (omega (arith, same)))
            ∙ ap (λ k. own (stages_of two k (start_in s k))) same ∙ own_task two (start_in s t)
        | inr other ↦
            ap (λ z. own (stages_below two n s) ++ z) (other_task two n (start_in s n) other) ∙ append-nil (own (stages_below two n s))
            ∙ own_all two n s (omega (arith, lt, other))
      ])

  -- ---- no visit of a task behind its end

  -- it comes to nothing, or leaves nothing, in these stages
  abbrev ComesNot : List Stage → Type 0
  ComesNot [] = Unit {0}
  ComesNot (begins u ∷ vs) = ComesNot vs
  ComesNot (leaves u p ∷ vs) = ComesNot vs
  ComesNot (comes u m ∷ vs) = (u ≢ t) × ComesNot vs

  abbrev LeavesNot : List Stage → Type 0
  LeavesNot [] = Unit {0}
  LeavesNot (begins u ∷ vs) = LeavesNot vs
  LeavesNot (leaves u p ∷ vs) = (u ≢ t) × LeavesNot vs
  LeavesNot (comes u m ∷ vs) = LeavesNot vs

  -- behind the first phaser that it leaves it comes to nothing
  abbrev Ordered : List Stage → Type 0
  Ordered [] = Unit {0}
  Ordered (begins u ∷ vs) = Ordered vs
  Ordered (leaves u p ∷ vs) = (u ≡ t → ComesNot vs) × Ordered vs
  Ordered (comes u m ∷ vs) = Ordered vs

  comes_more : (vs ws : List Stage) → ComesNot vs → ComesNot ws → ComesNot (vs ++ ws)
  comes_more [] ws a b = b
  comes_more (begins u ∷ vs) ws a b = comes_more vs ws a b
  comes_more (leaves u p ∷ vs) ws a b = comes_more vs ws a b
  comes_more (comes u m ∷ vs) ws a b = (a.0, comes_more vs ws a.1 b)

  leaves_more : (vs ws : List Stage) → LeavesNot vs → LeavesNot ws → LeavesNot (vs ++ ws)
  leaves_more [] ws a b = b
  leaves_more (begins u ∷ vs) ws a b = leaves_more vs ws a b
  leaves_more (leaves u p ∷ vs) ws a b = (a.0, leaves_more vs ws a.1 b)
  leaves_more (comes u m ∷ vs) ws a b = leaves_more vs ws a b

  ordered_more : (vs ws : List Stage) → Ordered vs → Ordered ws → LeavesNot vs ⊎ ComesNot ws → Ordered (vs ++ ws)
  ordered_more [] ws a b one = b
  ordered_more (begins u ∷ vs) ws a b one = ordered_more vs ws a b one
  ordered_more (comes u m ∷ vs) ws a b one = ordered_more vs ws a b one
  ordered_more (leaves u p ∷ vs) ws a b (inl none) = ((λ same. absurd (none.0 same)), ordered_more vs ws a.1 b (inl none.1))
  ordered_more (leaves u p ∷ vs) ws a b (inr none) = ((λ same. comes_more vs ws (a.0 same) none), ordered_more vs ws a.1 b (inr none))

  -- the visits of a task, and its end
  comings : (u : ℕ) (ms : List Visit) → Ordered (map (λ m. comes u m) ms) × LeavesNot (map (λ m. comes u m) ms) × (u ≢ t → ComesNot (map (λ m. comes u m) ms))
  comings u [] = (tt, tt, λ other. tt)
  comings u (m ∷ ms) = let rest = comings u ms in (rest.0, rest.1, λ other. (other, rest.2 other))

  leavings : (u p : ℕ) → Ordered (leaves_below u p) × ComesNot (leaves_below u p) × (u ≢ t → LeavesNot (leaves_below u p))
  leavings u zero = (tt, tt, λ other. tt)
  leavings u (suc p) =
      let rest = leavings u p in (
        ordered_more (leaves_below u p) (leaves u p ∷ []) rest.0 ((λ same. tt), tt) (inr tt),
        comes_more (leaves_below u p) (leaves u p ∷ []) rest.1 tt,
        λ other. leaves_more (leaves_below u p) (leaves u p ∷ []) (rest.2 other) (other, tt),
      )

  endings : (two : Bool) (u : ℕ) → Ordered (ends_of two u) × ComesNot (ends_of two u) × (u ≢ t → LeavesNot (ends_of two u))
  endings false u = (tt, tt, λ other. tt)
  endings true u = leavings u 1024

  task_ordered : (two : Bool) (u : ℕ) (o : Option Start) → Ordered (stages_of two u o)
  task_ordered two u None = tt
  task_ordered two u (Some start) =
      let ms = visits_of start.first start.body in
      ordered_more (map (λ m. comes u m) ms) (ends_of two u) (comings u ms).0 (endings two u).0 (inl (comings u ms).1)

  task_comes_not : (two : Bool) (u : ℕ) (o : Option Start) → u ≢ t → ComesNot (stages_of two u o)
  task_comes_not two u None other = tt
  task_comes_not two u (Some start) other =
      let ms = visits_of start.first start.body in comes_more (map (λ m. comes u m) ms) (ends_of two u) ((comings u ms).2 other) (endings two u).1

  task_leaves_not : (two : Bool) (u : ℕ) (o : Option Start) → u ≢ t → LeavesNot (stages_of two u o)
  task_leaves_not two u None other = tt
  task_leaves_not two u (Some start) other =
      let ms = visits_of start.first start.body in leaves_more (map (λ m. comes u m) ms) (ends_of two u) (comings u ms).1 ((endings two u).2 other)

  below_comes_not : (two : Bool) (n : ℕ) (s : UnfoldingState) → n ≤ t → ComesNot (stages_below two n s)
  below_comes_not two zero s le = tt
  below_comes_not two (suc n) s le =
      comes_more (stages_below two n s) (stages_of two n (start_in s n)) (below_comes_not two n s (omega (arith, le)))
      (task_comes_not two n (start_in s n) (λ same. absurd (omega (arith, same, le))))

  below_leaves_not : (two : Bool) (n : ℕ) (s : UnfoldingState) → n ≤ t → LeavesNot (stages_below two n s)
  below_leaves_not two zero s le = tt
  below_leaves_not two (suc n) s le =
      leaves_more (stages_below two n s) (stages_of two n (start_in s n)) (below_leaves_not two n s (omega (arith, le)))
      (task_leaves_not two n (start_in s n) (λ same. absurd (omega (arith, same, le))))

  below_ordered : (two : Bool) (n : ℕ) (s : UnfoldingState) → Ordered (stages_below two n s)
  below_ordered two zero s = tt
  below_ordered two (suc n) s =
      ordered_more (stages_below two n s) (stages_of two n (start_in s n)) (below_ordered two n s) (task_ordered two n (start_in s n))
      (elim (cases_eq n t) as (λ _. LeavesNot (stages_below two n s) ⊎ ComesNot (stages_of two n (start_in s n))) [
        | inl same ↦ inl (below_leaves_not two n s (omega (arith, same)))
        | inr other ↦ inr (task_comes_not two n (start_in s n) other)
      ])

  comes_there : (before after : List Stage) (m : Visit) → ComesNot (before ++ (comes t m ∷ after)) → ⊥
  comes_there [] after m none = none.0 refl
  comes_there (begins u ∷ before) after m none = comes_there before after m none
  comes_there (leaves u p ∷ before) after m none = comes_there before after m none
  comes_there (comes u n ∷ before) after m none = comes_there before after m none.1

  leaves_before : (before after : List Stage) (m : Visit) → Ordered (before ++ (comes t m ∷ after)) → LeavesNot before
  leaves_before [] after m ordered = tt
  leaves_before (begins u ∷ before) after m ordered = leaves_before before after m ordered
  leaves_before (comes u n ∷ before) after m ordered = leaves_before before after m ordered
  leaves_before (leaves u p ∷ before) after m ordered = ((λ same. comes_there before after m (ordered.0 same)), leaves_before before after m ordered.1)

  -- ---- the length of its code

  abbrev many : UnfoldingState → ℕ
  many s = length (slice_index_or s.plan.codes t [])

  abbrev one_if : Bool → ℕ
  one_if b = if b then 1 else 0

  -- an op more for task u
  op_more : (u : ℕ) (o : Op) (codes : List (List Op)) → (u ≡ t → u < length codes) →
      length (slice_index_or (slice_set codes u (slice_index_or codes u [] ++ o ∷ [])) t []) ≡ length (slice_index_or codes t []) + one_if (u == t)
  op_more u o codes there =
      elim (cases_eq u t) [
        | inl same ↦
            ap (λ k. length (slice_index_or (slice_set codes u (slice_index_or codes u [] ++ o ∷ [])) k [])) (sym same)
            ∙ ap length (get_or-set_same codes u (slice_index_or codes u [] ++ o ∷ []) [] (there same))
            ∙ length-append (slice_index_or codes u []) (o ∷ []) ∙ ap (λ k. length (slice_index_or codes k []) + 1) same
            ∙ ap (λ b. length (slice_index_or codes t []) + one_if b) (sym (eq-eqb u t same))
        | inr other ↦
            ap length (get_or-set_other codes u t (slice_index_or codes u [] ++ o ∷ []) [] (λ same. absurd (other (sym same))))
            ∙ (let z : length (slice_index_or codes t []) ≡ length (slice_index_or codes t []) + 0 = omega arith in z)
            ∙ ap (λ b. length (slice_index_or codes t []) + one_if b) (sym (ne_eqb u t other))
      ]

  and_true : (b : Bool) → b ≡ (b && true)
  and_true true = refl
  and_true false = refl

  and_false : (b : Bool) → false ≡ (b && false)
  and_false true = refl
  and_false false = refl

  with_an_op : (u : ℕ) (o : Op) (s : UnfoldingState) → (u ≡ t → u < length s.plan.codes) → many (with_code u o s) ≡ many s + one_if ((u == t) && true)
  with_an_op u o s there = op_more u o s.plan.codes there ∙ ap (λ b. many s + one_if b) (and_true (u == t))

  without : (u : ℕ) (s v : UnfoldingState) → many v ≡ many s → many v ≡ many s + one_if ((u == t) && false)
  without u s v same = omega (arith, same, ap one_if (and_false (u == t)))

  come_more : (u n : ℕ) (c : Coming) (s : UnfoldingState) → (u ≡ t → u < length s.plan.codes) →
      many (after_stage (comes u (visit n c)) s) ≡ many s + one_if ((u == t) && comes_to_op c)
  come_more u n (a_plain (new_task x)) s there = without u s (after_stage (comes u (visit n (a_plain (new_task x)))) s) (ap length (at_more s.plan.codes [] t))
  come_more u n (a_plain (new_phaser x)) s there = with_an_op u (op.Make (phaser (length s.plan.makers))) s there
  come_more u n (a_plain (reg x y)) s there =
      let c = a_plain (reg x y) in with_an_op u (op.Reg (task (task_number (first_thing s c))) (phaser (phaser_wanted s c))) s there
  come_more u n (a_plain (dereg x)) s there = with_an_op u (op.Drop (phaser (phaser_wanted s (a_plain (dereg x))))) s there
  come_more u n (a_plain (adv x)) s there = with_an_op u (op.Adv (phaser (phaser_wanted s (a_plain (adv x))))) s there
  come_more u n (a_plain (await x off)) s there = with_an_op u (op.Await (phaser (phaser_wanted s (a_plain (await x off)))) off) s there
  come_more u n (a_plain skip) s there = without u s s refl
  come_more u n (a_fork x body) s there = with_an_op u (op.Fork (task (task_number (first_thing s (a_fork x body))))) s there
  come_more u n a_loop s there = without u s s refl
  come_more u n a_turn s there = without u s s refl

  begin_same : (u : ℕ) (s : UnfoldingState) → many (after_stage (begins u) s) ≡ many s
  begin_same u s = by (slice_index_or s.starts u None)
    where
      by : (o : Option Start) → many (with_start_names o s) ≡ many s
      by None = refl
      by (Some start) = refl

  leave_same : (u p : ℕ) (s : UnfoldingState) → u ≢ t → many (after_stage (leaves u p) s) ≡ many s
  leave_same u p s other = by (s.members u p)
    where
      gone : UnfoldingState
      gone = with_code u (op.Drop (phaser p)) (with_members (with_member u p false s.members) s)

      by : (b : Bool) → many (if b then gone else s) ≡ many s
      by true =
          ap length (get_or-set_other s.plan.codes u t (slice_index_or s.plan.codes u [] ++ op.Drop (phaser p) ∷ []) [] (λ same. absurd (other (sym same))))
      by false = refl

-- each task has a code
abbrev IsCoded : UnfoldingState → Type 0
IsCoded s = length s.plan.codes ≡ length s.plan.parents

come_coded : (u n : ℕ) (c : Coming) (s : UnfoldingState) → IsCoded s → IsCoded (after_stage (comes u (visit n c)) s)
come_coded u n (a_plain (new_task x)) s coded = omega (arith, coded, length-append s.plan.codes ([] ∷ []), length-append s.plan.parents (Some (task u) ∷ []))
come_coded u n (a_plain (new_phaser x)) s coded = length-set s.plan.codes u _ ∙ coded
come_coded u n (a_plain (reg x y)) s coded = length-set s.plan.codes u _ ∙ coded
come_coded u n (a_plain (dereg x)) s coded = length-set s.plan.codes u _ ∙ coded
come_coded u n (a_plain (adv x)) s coded = length-set s.plan.codes u _ ∙ coded
come_coded u n (a_plain (await x off)) s coded = length-set s.plan.codes u _ ∙ coded
come_coded u n (a_plain skip) s coded = coded
come_coded u n (a_fork x body) s coded = length-set s.plan.codes u _ ∙ coded
come_coded u n a_loop s coded = coded
come_coded u n a_turn s coded = coded

stage_coded : (v : Stage) (s : UnfoldingState) → IsCoded s → IsCoded (after_stage v s)
stage_coded (begins u) s coded = by (slice_index_or s.starts u None)
  where
    by : (o : Option Start) → IsCoded (with_start_names o s)
    by None = coded
    by (Some start) = coded
stage_coded (leaves u p) s coded = by (s.members u p)
  where
    gone : UnfoldingState
    gone = with_code u (op.Drop (phaser p)) (with_members (with_member u p false s.members) s)

    by : (b : Bool) → IsCoded (if b then gone else s)
    by true = length-set s.plan.codes u (slice_index_or s.plan.codes u [] ++ op.Drop (phaser p) ∷ []) ∙ coded
    by false = coded
stage_coded (comes u m) s coded = come_coded u m.statement m.coming s coded

module _ (two : Bool) (t : ℕ) where
  -- who comes to a statement is there
  comer_there : (u : ℕ) (m : Visit) (before rest : List Stage) (s : UnfoldingState) → all_stages two s ≡ before ++ (comes u m ∷ rest) → u < length s.plan.parents
  comer_there u m before rest s next =
      elim (cases_lt u (length s.plan.parents)) [
        | inl lt ↦ lt
        | inr le ↦ absurd (comes_there u before rest m (subst (ComesNot u) next (below_comes_not u two (length s.plan.parents) s le)))
      ]

  code_grows : (vs before : List Stage) (s e : UnfoldingState) → StagesLead two before vs s e → IsCoded s → LeavesNot t vs → many t e ≡ many t s + length (own t vs)
  code_grows [] before s e leads coded none = omega (arith, ap (many t) leads)
  code_grows (begins u ∷ vs) before s e leads coded none =
      omega (arith, begin_same t u s, code_grows vs (before ++ begins u ∷ []) (after_stage (begins u) s) e leads.2 (stage_coded (begins u) s coded) none)
  code_grows (leaves u p ∷ vs) before s e leads coded none =
      omega (arith, leave_same t u p s none.0, code_grows vs (before ++ leaves u p ∷ []) (after_stage (leaves u p) s) e leads.2 (stage_coded (leaves u p) s coded) none.1)
  code_grows (comes u m ∷ vs) before s e leads coded none =
      by ((u == t) && comes_to_op m.coming)
      (come_more t u m.statement m.coming s (λ same. omega (arith, coded, comer_there u m before leads.0.0 s leads.0.1)))
      (code_grows vs (before ++ comes u m ∷ []) (after_stage (comes u m) s) e leads.2 (stage_coded (comes u m) s coded) none)
    where
      by : (b : Bool) → many t (after_stage (comes u m) s) ≡ many t s + one_if t b → many t e ≡ many t (after_stage (comes u m) s) + length (own t vs) →
          many t e ≡ many t s + length (if b then m ∷ own t vs else own t vs)
      by true grown rest = omega (arith, grown, rest)
      by false same rest = omega (arith, same, rest)

-- ---- the law

pub ops_are_told_by_their_stages : OpsAreToldByTheirStages
ops_are_told_by_their_stages program stages before after end s t m leads all split before_leads makes =
    let two = program.two in
    let first = opening_state program.body in
    let count = length end.plan.parents in
    let ordered : Ordered t (before ++ (comes t m ∷ after)) = subst (Ordered t) (all ∙ split) (below_ordered t two count end) in
    let grown : many t s ≡ many t first + length (own t before) = code_grows two t before [] first s before_leads refl (leaves_before t before after m ordered) in
    let lt : t < count = comer_there two t t m before after end (all ∙ split) in
    let visits : op_visits (visits_by (start_of program t)) ≡ own t before ++ own t (comes t m ∷ after) =
    ap (λ ss. op_visits (visits_by (slice_index_or ss t None))) (same_starts program stages end leads all)
    ∙ sym (own_all t two count end lt) ∙ ap (own t) (all ∙ split) ∙ own_more t before (comes t m ∷ after) in
    let here : own t (comes t m ∷ after) ≡ m ∷ own t after =
    ap (λ (b : Bool). if b then m ∷ own t after else own t after) (ap (λ b. b && comes_to_op m.coming) (eq-eqb t t refl) ∙ makes) in
    let number : many t s ≡ length (own t before) + 0 = omega (arith, grown, none t) in
    ap (λ k. op_origin program t k) number
    ∙ ap (λ ms. slice_get (map (λ (n : Visit). n.statement) ms) (length (own t before) + 0)) visits
    ∙ slice_get-map (λ (n : Visit). n.statement) (own t before ++ own t (comes t m ∷ after)) (length (own t before) + 0)
    ∙ ap (option_map (λ (n : Visit). n.statement)) (slice_get-behind (own t before) (own t (comes t m ∷ after)) 0 ∙ ap (λ z. slice_get z 0) here)
  where
    none : (k : ℕ) → many k (opening_state program.body) ≡ 0
    none zero = refl
    none (suc k) = refl
