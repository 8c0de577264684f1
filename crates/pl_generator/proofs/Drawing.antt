-- Task 0 makes the phasers and the workers.
use Rattle.std.proofs.Common.{◌≡◌, ◌≢◌, ℕ, ◌+◌, ◌*◌, ◌<◌, ◌≤◌, Bool, true, false, Some, None, Option, [], ◌∷◌, ◌++◌, length, arith, sym, ◌∙◌, subst, refl}
use Rattle.std.specs.Prelude.{slice_index_or}
use Rattle.std.proofs.lemmas.Bool.Decides.{nat_tests}
use Rattle.std.proofs.lemmas.List.{length-append, get_or-set_other}
use Rattle.std.proofs.Math.Seq.{get_or-append_seam}
use Rattle.armus_base.specs.Limits.{max_cells, max_tasks, max_ops}
use Rattle.armus_base.specs.Pieces.{times}
use Rattle.armus_base.specs.Numbers.{task}
use Rattle.pl_plan.specs.Unfolding.{Names, a_phaser, UnfoldingState, Start, with_member, make_visits, visits_of, visit, a_turn}
use Rattle.pl_plan.proofs.Places.{at_set, at_more}
use Rattle.pl_generator.proofs.GeneratedProgram.{pc, pb, child, worker, draws}
use Rattle.pl_generator.proofs.Succeeding.{Succeeds, so, Parts, Has, has_more, comes, no_visit, turns}
use Rattle.pl_generator.proofs.Statements.{drawn, registered, started, turn_fits, new_task_fits, reg_fits, fork_fits}

-- ---- members

pub member_elsewhere : (t p : ℕ) (v : Bool) (ms : ℕ → ℕ → Bool) (u q : ℕ) → q ≢ p → with_member t p v ms u q ≡ ms u q
member_elsewhere t p v ms u q n = grind (arith, nat_tests)

pub member_other : (t p : ℕ) (v : Bool) (ms : ℕ → ℕ → Bool) (u q : ℕ) → u ≢ t → with_member t p v ms u q ≡ ms u q
member_other t p v ms u q n = grind (arith, nat_tests)

member_here : (t p : ℕ) (v : Bool) (ms : ℕ → ℕ → Bool) → with_member t p v ms t p ≡ v
member_here t p v ms = grind (arith, nat_tests)

-- a member stays one where another joins
stays : (t p : ℕ) (ms : ℕ → ℕ → Bool) (u q : ℕ) → ms u q ≡ true → with_member t p true ms u q ≡ true
stays t p ms u q e = grind (arith, nat_tests)

-- ---- workers

-- the two names stand for the two phasers
pub record HasNames (names : Names) : Type 0 where
  pub first : names pc ≡ Some (a_phaser 0)
  pub second : names pb ≡ Some (a_phaser 1)

-- a member of both phasers
pub record IsOnBoth (on : ℕ → Bool) : Type 0 where
  pub first : on 0 ≡ true
  pub second : on 1 ≡ true

-- a task that is a member where `on` says so is not forked, or it is forked as a worker and a member of both phasers
abbrev pub CanWork : (ℕ → Bool) → Option Start → Type 0
CanWork on None = Unit {0}
CanWork on (Some start) = (start.body ≡ worker) × HasNames start.names × IsOnBoth on

-- it can work also where it is a member of more
pub can_work_as : (on more : ℕ → Bool) (o : Option Start) → (on 0 ≡ true → more 0 ≡ true) → (on 1 ≡ true → more 1 ≡ true) → CanWork on o → CanWork more o
can_work_as on more None f g w = tt
can_work_as on more (Some start) f g w = (w.0, w.1, record { first = f w.2.first; second = g w.2.second })

-- behind the first i workers
pub record IsDrawing (i : ℕ) (a : Parts) : Type 0 where
  pub tasks : length a.parents ≤ i + 1
  pub phasers : a.phasers ≡ 2
  pub names : HasNames a.names
  pub own : IsOnBoth (a.members 0)
  pub fresh_start : (c : ℕ) → length a.parents ≤ c → slice_index_or a.starts c None ≡ None
  pub fresh_member : (c p : ℕ) → length a.parents ≤ c → a.members c p ≡ false
  pub workers : (c : ℕ) → 0 < c → CanWork (a.members c) (slice_index_or a.starts c None)

-- ---- a turn

module _ (i : ℕ) (a : Parts) (h : IsDrawing i a) where
  -- the task that the turn draws
  abbrev new : ℕ
  new = length a.parents

  new_parent : slice_index_or (drawn child a).parents new None ≡ Some (task 0)
  new_parent = get_or-append_seam a.parents (Some (task 0)) [] None

  new_start : slice_index_or (drawn child a).starts new None ≡ None
  new_start = at_more a.starts None new ∙ h.fresh_start new (omega arith)

  new_first : a.members new 0 ≡ false
  new_first = h.fresh_member new 0 (omega arith)

  new_second : with_member new 0 true a.members new 1 ≡ false
  new_second = member_elsewhere new 0 true a.members new 1 (λ e. absurd (omega arith)) ∙ h.fresh_member new 1 (omega arith)

  own_second : with_member new 0 true a.members 0 1 ≡ true
  own_second = stays new 0 a.members 0 1 h.own.second

  -- the members at the fork
  abbrev joined : ℕ → ℕ → Bool
  joined = with_member new 1 true (with_member new 0 true a.members)

  joined_more : (u p : ℕ) → a.members u p ≡ true → joined u p ≡ true
  joined_more u p e = stays new 1 (with_member new 0 true a.members) u p (stays new 0 a.members u p e)

  joined_other : (u p : ℕ) → u ≢ new → joined u p ≡ a.members u p
  joined_other u p n = member_other new 1 true (with_member new 0 true a.members) u p n ∙ member_other new 0 true a.members u p n

  new_on_both : IsOnBoth (joined new)
  new_on_both = record {
    first = stays new 1 (with_member new 0 true a.members) new 0 (member_here new 0 true a.members);
    second = member_here new 1 true (with_member new 0 true a.members);
  }

  -- what the new task is forked with
  abbrev new_worker : Start
  new_worker = record { body = worker; first = 8; names = (drawn child a).names }

  -- the parts behind the turn
  abbrev turned : Parts
  turned = started new new_worker (registered new 1 (registered new 0 (drawn child a)))

  drawn_names : HasNames (drawn child a).names
  drawn_names = record { first = h.names.first; second = h.names.second }

  draws_one : IsDrawing (i + 1) turned
  draws_one = record {
    tasks = omega (arith, length-append a.parents (Some (task 0) ∷ []), h.tasks);
    phasers = h.phasers;
    names = drawn_names;
    own = record { first = joined_more 0 0 h.own.first; second = joined_more 0 1 h.own.second };
    fresh_start = λ c l.
        let behind : new + 1 ≤ c = omega (arith, length-append a.parents (Some (task 0) ∷ [])) in
        get_or-set_other (a.starts ++ None ∷ []) new c (Some new_worker) None (λ e. absurd (omega arith)) ∙ at_more a.starts None c ∙ h.fresh_start c (omega arith);
    fresh_member = λ c p l.
        let behind : new + 1 ≤ c = omega (arith, length-append a.parents (Some (task 0) ∷ [])) in
        joined_other c p (λ e. absurd (omega arith)) ∙ h.fresh_member c p (omega arith);
    workers = λ c pos. at_set (CanWork (joined c)) (a.starts ++ None ∷ []) new (Some new_worker) None c
        (λ e lt. (refl, drawn_names, subst (λ (u : ℕ). IsOnBoth (joined u)) (sym e) new_on_both))
        (λ ne. subst (CanWork (joined c)) (sym (at_more a.starts None c))
        (can_work_as (a.members c) (joined c) (slice_index_or a.starts c None) (joined_more c 0) (joined_more c 1) (h.workers c pos)))
        (λ le. tt);
  }

-- some parts behind the first i workers, after so many visits
abbrev pub Drawing : ℕ → ℕ → UnfoldingState → Type 0
Drawing k i s = (a : Parts) × Has k a s × IsDrawing i a

turn_draws :
    (i k : ℕ) (a : Parts) (s : UnfoldingState) → Has k a s → IsDrawing i a → k + 5 < max_ops → i + 1 < max_tasks →
    Succeeds (Drawing (k + 5) (i + 1)) (make_visits 0 (visit 3 a_turn ∷ visits_of 4 draws) s)
turn_draws i k a s h d few room =
    let Q : UnfoldingState → Type 0 = Drawing (k + 5) (i + 1) in
    let c : ℕ = length a.parents in
    let cells : (c + 1) * (a.phasers + 1) ≤ max_cells =
    subst (λ p. (c + 1) * (p + 1) ≤ max_cells) (sym d.phasers) (let fits : (c + 1) * 3 ≤ max_cells = omega (arith, d.tasks) in fits) in
    comes (Has (k + 1) a) Q 0 s _ _ (turn_fits 3 k a s h (omega arith) 0)
    (λ s1 h1. comes (Has (k + 1 + 1) (drawn child a)) Q 0 s1 _ _ (new_task_fits 4 (k + 1) a s1 h1 (omega arith) child (omega (arith, d.tasks)) cells)
    (λ s2 h2. comes (Has (k + 1 + 1 + 1) (registered c 0 (drawn child a))) Q 0 s2 _ _
    (reg_fits 5 (k + 1 + 1) (drawn child a) s2 h2 (omega arith) child c pc 0 refl d.names.first (new_parent i a d) (new_start i a d) d.own.first (new_first i a d))
    (λ s3 h3. comes (Has (k + 1 + 1 + 1 + 1) (registered c 1 (registered c 0 (drawn child a)))) Q 0 s3 _ _
    (reg_fits 6 (k + 1 + 1 + 1) (registered c 0 (drawn child a)) s3 h3 (omega arith) child c pb 1 refl d.names.second (new_parent i a d) (new_start i a d)
    (own_second i a d) (new_second i a d))
    (λ s4 h4. comes (Has (k + 1 + 1 + 1 + 1 + 1) (turned i a d)) Q 0 s4 _ _
    (fork_fits 7 (k + 1 + 1 + 1 + 1) (registered c 1 (registered c 0 (drawn child a))) s4 h4 (omega arith) child c worker refl (new_parent i a d) (new_start i a d))
    (λ s5 h5. no_visit Q 0 s5 (turned i a d, has_more (k + 1 + 1 + 1 + 1 + 1) (k + 5) (turned i a d) s5 (omega arith) h5, draws_one i a d))))))

-- all turns
pub draws_all :
    (n k : ℕ) (s : UnfoldingState) → k + 5 * n < max_ops → n < max_tasks → Drawing k 0 s →
    Succeeds (Drawing (k + 5 * n) n) (make_visits 0 (times n (visit 3 a_turn ∷ visits_of 4 draws)) s)
draws_all n k s few room h =
    turns (λ i. Drawing (k + 5 * i) i) 0 n (visit 3 a_turn ∷ visits_of 4 draws)
    (λ i s' l d. so (Drawing (k + 5 * i + 5) (i + 1)) (Drawing (k + 5 * (i + 1)) (i + 1)) (make_visits 0 (visit 3 a_turn ∷ visits_of 4 draws) s')
    (turn_draws i (k + 5 * i) d.0 s' d.1 d.2 (omega arith) (omega arith))
    (λ r e. (e.0, has_more (k + 5 * i + 5) (k + 5 * (i + 1)) e.0 r (omega arith) e.1, e.2)))
    n 0 (omega arith) s (h.0, has_more k (k + 5 * 0) h.0 s (omega arith) h.1, h.2)
