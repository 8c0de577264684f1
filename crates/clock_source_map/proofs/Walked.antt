-- The activities of an unfolding, one after the other, with what each starts and makes.
use Rattle.std.proofs.Common.{◌≡◌, ℕ, zero, suc, ◌+◌, ◌<◌, ◌≤◌, Option, Some, None, Ok, List, [], ◌∷◌, ◌++◌, length, map, take, arith, refl, sym, ap, subst, ◌∙◌, append_assoc, append-nil}
use Rattle.std.specs.Prelude.{slice_get}
use Rattle.std.specs.List.{flat_map}
use Rattle.std.proofs.lemmas.Grind.{flat_map-append}
use Rattle.std.proofs.lemmas.List.{length-append, length-map, take_all}
use Rattle.armus_base.specs.Limits.{max_phasers, max_tasks}
use Rattle.clock_syntax.specs.Trees.{ClockPlain, ClockTree, advance, clock, drop, resume, skip}
use Rattle.clock_semantics.specs.calls.ClockTests.{after_end, left_at_end, visited}
use Rattle.clock_semantics.specs.Moves.{stops}
use Rattle.clock_semantics.specs.Unfolding.{ClockComing, ClockPart, ClockStart, ClockUnfolding, a_close, a_finish, a_loop, a_plain, a_turn, an_async, clock_opening, clock_plan_of, clock_unfolded, coming, plan_of_moves, with_known, with_move}
use Rattle.clock_semantics.proofs.ClockPlanIsChecked.{clock_plan_is_checked}
use Rattle.clock_semantics.proofs.PlanSteps.{map-append}
use Rattle.pl_plan.specs.Unfolding.{Outcome, ◌>>=◌}
use Rattle.clock_semantics.specs.calls.ClockUnfolds.{GoesToEnd, UnfoldsFrom, after_part, comes, no_more, one_more, stops_there}
use Rattle.clock_semantics.specs.calls.ProgramPoints.{ProgramPoint, behind, first_point}
use Rattle.clock_semantics.proofs.PointComings.{comings_at, first_left, none_left, whole_body}
use Rattle.clock_semantics.proofs.UnfoldsByPoints.{unfolding_is_unfolded}
use Rattle.clock_source_map.specs.ClockOrigins.{StartedActivity, MadeThing, all_begun, all_things, begun_by, comings_by, made_thing_at, things_in, waits_in}
use Rattle.clock_source_map.specs.calls.Begun.{activity_started_at, activities_started_in}
use Rattle.clock_source_map.specs.calls.Values.{AreOriginsOf}

-- ---- what comings add

-- from u to w these comings start and make what they do
record Adds (u w : ClockUnfolding) (ms : List ClockComing) : Type 0 where
  begun : all_begun w ≡ all_begun u ++ activities_started_in ms
  parents : length w.parents ≡ length u.parents + length (activities_started_in ms)
  makers : length w.makers ≡ length u.makers + length (things_in ms)

adds_both : (u v w : ClockUnfolding) (ms ns : List ClockComing) → Adds u v ms → Adds v w ns → Adds u w (ms ++ ns)
adds_both u v w ms ns a b =
    let begins : activities_started_in (ms ++ ns) ≡ activities_started_in ms ++ activities_started_in ns = flat_map-append (λ (m : ClockComing). activity_started_at m.statement m.part) ms ns in
    let makes : things_in (ms ++ ns) ≡ things_in ms ++ things_in ns = flat_map-append (λ (m : ClockComing). made_thing_at m.statement m.part) ms ns in
    record {
      begun = b.begun ∙ ap (λ z. z ++ activities_started_in ns) a.begun ∙ append_assoc (all_begun u) (activities_started_in ms) (activities_started_in ns) ∙ ap (λ z. all_begun u ++ z) (sym begins);
      parents = omega (arith, a.parents, b.parents, ap length begins, length-append (activities_started_in ms) (activities_started_in ns));
      makers = omega (arith, a.makers, b.makers, ap length makes, length-append (things_in ms) (things_in ns));
    }

-- a part that starts nobody and makes nothing
quiet : (u w : ClockUnfolding) (m : ClockComing) → w.starts ≡ u.starts → length w.parents ≡ length u.parents → length w.makers ≡ length u.makers →
    activity_started_at m.statement m.part ≡ [] → made_thing_at m.statement m.part ≡ [] → Adds u w (m ∷ [])
quiet u w m starts parents makers none nothing =
    let nobody : activities_started_in (m ∷ []) ≡ [] = append-nil (activity_started_at m.statement m.part) ∙ none in
    let no_thing : things_in (m ∷ []) ≡ [] = append-nil (made_thing_at m.statement m.part) ∙ nothing in
    record {
      begun = ap (map begun_by) starts ∙ sym (append-nil (all_begun u)) ∙ ap (λ z. all_begun u ++ z) (sym nobody);
      parents = omega (arith, parents, ap length nobody);
      makers = omega (arith, makers, ap length no_thing);
    }

module _ (t n : ℕ) (u : ClockUnfolding) where
  plain_adds : (p : ClockPlain) → Adds u (after_part t (coming n (a_plain p)) u) (coming n (a_plain p) ∷ [])
  plain_adds (clock x) = record {
    begun = sym (append-nil (all_begun u));
    parents = omega arith;
    makers = length-append u.makers _;
  }
  plain_adds (advance x) = quiet u (after_part t (coming n (a_plain (advance x))) u) (coming n (a_plain (advance x))) refl refl refl refl refl
  plain_adds (resume x) = quiet u (after_part t (coming n (a_plain (resume x))) u) (coming n (a_plain (resume x))) refl refl refl refl refl
  plain_adds (drop x) = quiet u (after_part t (coming n (a_plain (drop x))) u) (coming n (a_plain (drop x))) refl refl refl refl refl
  plain_adds skip = quiet u (after_part t (coming n (a_plain skip)) u) (coming n (a_plain skip)) refl refl refl refl refl

  close_adds : (fs : List ℕ) → Adds u (after_end t fs (visited a_close u)) (coming n a_close ∷ [])
  close_adds [] = quiet u (visited a_close u) (coming n a_close) refl refl refl refl refl
  close_adds (f ∷ fs) = quiet u (after_end t (f ∷ fs) (visited a_close u)) (coming n a_close) refl refl refl refl refl

  part_adds : (part : ClockPart) → Adds u (after_part t (coming n part) u) (coming n part ∷ [])
  part_adds (a_plain p) = plain_adds p
  part_adds (an_async xs body) = record {
    begun = map-append begun_by u.starts _;
    parents = length-append u.parents _;
    makers = omega arith;
  }
  part_adds a_finish = record {
    begun = sym (append-nil (all_begun u));
    parents = omega arith;
    makers = length-append u.makers _;
  }
  part_adds a_close = close_adds u.now.governing
  part_adds a_loop = quiet u (after_part t (coming n a_loop) u) (coming n a_loop) refl refl refl refl refl
  part_adds a_turn = quiet u (after_part t (coming n a_turn) u) (coming n a_turn) refl refl refl refl refl

-- an activity from a point to its end
goes_adds : (t : ℕ) (point : ProgramPoint) (u w : ClockUnfolding) → GoesToEnd t point u w → Adds u w (comings_at point)
goes_adds t point u w (comes m is passes rest) =
    let more = goes_adds t (behind (length u.makers) point) (after_part t m u) w rest in
    subst (Adds u w) (sym (first_left (length u.makers) point m is.part))
    (adds_both u (after_part t m u) w (m ∷ []) (comings_at (behind (length u.makers) point)) (part_adds t m.statement u m.part) more)
goes_adds t point u w (stops_there none room) =
    subst (Adds u (with_move t (stops (left_at_end u)) u)) (sym (none_left point none)) (record {
      begun = sym (append-nil (all_begun u));
      parents = omega arith;
      makers = omega arith;
    })

activity_adds : (t : ℕ) (start : ClockStart) (u w : ClockUnfolding) → GoesToEnd t (first_point start) (with_known start.known u) w → Adds u w (comings_by (begun_by start))
activity_adds t start u w goes =
    let adds = subst (Adds (with_known start.known u) w) (whole_body start) (goes_adds t (first_point start) (with_known start.known u) w goes) in
    record { begun = adds.begun; parents = adds.parents; makers = adds.makers }

-- ---- all activities

-- what is found of the first t activities
pub record Walked (u : ClockUnfolding) (t : ℕ) (begun : List StartedActivity) (things : List MadeThing) (waits : List (List ℕ)) : Type 0 where
  pub so_far : ClockUnfolding
  pub goes : UnfoldsFrom t so_far u
  pub begun_are : begun ≡ all_begun so_far
  pub things_are : things ≡ flat_map (λ b. things_in (comings_by b)) (take t begun)
  pub waits_are : waits ≡ map (λ b. waits_in (comings_by b)) (take t begun)
  pub parents_many : length so_far.parents ≡ length begun
  pub makers_many : length so_far.makers ≡ length things

pub walked_first : (p : ClockTree) (u : ClockUnfolding) → clock_unfolded p ≡ Ok u → Walked u 0 (record { first = 1; body = p } ∷ []) [] []
walked_first p u is = record {
  so_far = clock_opening p;
  goes = (unfolding_is_unfolded p u).0 is;
  begun_are = refl;
  things_are = refl;
  waits_are = refl;
  parents_many = refl;
  makers_many = refl;
}

pub walked_start :
    (p : ClockTree) (u : ClockUnfolding) (begun : List StartedActivity) (things : List MadeThing) (waits : List (List ℕ)) → clock_unfolded p ≡ Ok u →
    begun ≡ record { first = 1; body = p } ∷ [] → things ≡ [] → waits ≡ [] → Walked u 0 begun things waits
walked_start p u begun things waits is eb et ew =
    subst (λ w. Walked u 0 begun things w) (sym ew) (subst (λ z. Walked u 0 begun z []) (sym et)
    (subst (λ b. Walked u 0 b [] []) (sym eb) (walked_first p u is)))

take_one : {A : Type 0} (xs ys : List A) (t : ℕ) (x : A) → slice_get xs t ≡ Some x → take (suc t) (xs ++ ys) ≡ take t xs ++ x ∷ []
take_one [] ys t x is = absurd cc
take_one (y ∷ xs) ys zero x is = (let same : y ≡ x = cc in ap (λ z. z ∷ []) same)
take_one (y ∷ xs) ys (suc t) x is = ap (λ zs. y ∷ zs) (take_one xs ys t x is)

start_is : (xs : List ClockStart) (t : ℕ) (start : ClockStart) (b : StartedActivity) → slice_get xs t ≡ Some start → slice_get (map begun_by xs) t ≡ Some b → begun_by start ≡ b
start_is [] t start b is that = absurd cc
start_is (x ∷ xs) zero start b is that = (let same : x ≡ start = cc in let one : ◌≡◌ {A = Option StartedActivity} (Some (begun_by x)) (Some b) = that in let other : begun_by x ≡ b = cc in ap begun_by (sym same) ∙ other)
start_is (x ∷ xs) (suc t) start b is that = start_is xs t start b is that

none_there : (xs : List ClockStart) (t : ℕ) (b : StartedActivity) → slice_get xs t ≡ None → slice_get (map begun_by xs) t ≡ Some b → ⊥
none_there [] t b none some = cc
none_there (x ∷ xs) zero b none some = cc
none_there (x ∷ xs) (suc t) b none some = none_there xs t b none some

some_within : (xs : List ClockStart) (t : ℕ) (start : ClockStart) → slice_get xs t ≡ Some start → t < length xs
some_within [] t start is = absurd cc
some_within (x ∷ xs) zero start is = omega arith
some_within (x ∷ xs) (suc t) start is = (let h = some_within xs t start is in omega arith)

-- one activity more
pub walked_next :
    (u : ClockUnfolding) (t : ℕ) (begun next : List StartedActivity) (things more : List MadeThing) (waits others : List (List ℕ)) (b : StartedActivity) →
    Walked u t begun things waits → slice_get begun t ≡ Some b → next ≡ begun ++ activities_started_in (comings_by b) → more ≡ things ++ things_in (comings_by b) →
    others ≡ waits ++ waits_in (comings_by b) ∷ [] → Walked u (t + 1) next more others
walked_next u t begun next things more waits others b h is next_is more_is others_are =
    let there : slice_get (all_begun h.so_far) t ≡ Some b = ap (λ z. slice_get z t) (sym h.begun_are) ∙ is in
    go h.so_far h.goes there h.begun_are h.parents_many h.makers_many
  where
    taken : take (t + 1) next ≡ take t begun ++ b ∷ []
    taken =
        ap (λ k. take k next) (let e : t + 1 ≡ suc t = omega arith in e) ∙ ap (take (suc t)) next_is
        ∙ take_one begun (activities_started_in (comings_by b)) t b is

    things_so : more ≡ flat_map (λ c. things_in (comings_by c)) (take (t + 1) next)
    things_so =
        more_is ∙ ap (λ z. z ++ things_in (comings_by b)) h.things_are
        ∙ ap (λ z. flat_map (λ c. things_in (comings_by c)) (take t begun) ++ z) (sym (append-nil (things_in (comings_by b))))
        ∙ sym (flat_map-append (λ c. things_in (comings_by c)) (take t begun) (b ∷ []))
        ∙ ap (flat_map (λ c. things_in (comings_by c))) (sym taken)

    waits_so : others ≡ map (λ c. waits_in (comings_by c)) (take (t + 1) next)
    waits_so =
        others_are ∙ ap (λ z. z ++ waits_in (comings_by b) ∷ []) h.waits_are
        ∙ sym (map-append (λ c. waits_in (comings_by c)) (take t begun) (b ∷ []))
        ∙ ap (map (λ c. waits_in (comings_by c))) (sym taken)

    go : (v : ClockUnfolding) → UnfoldsFrom t v u → slice_get (all_begun v) t ≡ Some b → begun ≡ all_begun v → length v.parents ≡ length begun → length v.makers ≡ length things →
        Walked u (t + 1) next more others
    go v (no_more none) there are parents makers = absurd (none_there v.starts t b none there)
    go v (one_more {v = w} start path goes rest) there are parents makers =
        let same : begun_by start ≡ b = start_is v.starts t start b path there in
        let adds = subst (λ c. Adds v w (comings_by c)) same (activity_adds t start v w goes) in
        record {
          so_far = w;
          goes = rest;
          begun_are = next_is ∙ ap (λ z. z ++ activities_started_in (comings_by b)) are ∙ sym adds.begun;
          things_are = things_so;
          waits_are = waits_so;
          parents_many = omega (arith, adds.parents, parents, ap length next_is, length-append begun (activities_started_in (comings_by b)));
          makers_many = omega (arith, adds.makers, makers, ap length more_is, length-append things (things_in (comings_by b)));
        }

-- ---- limits

-- a program with an unfolding has a plan, whose limits bound it
pub plan_is : (p : ClockTree) (u : ClockUnfolding) → clock_unfolded p ≡ Ok u → clock_plan_of p ≡ Ok (plan_of_moves u)
unfolding clock_plan_of
plan_is p u is = ap (λ o. o >>= λ s. Ok (plan_of_moves s)) is

later_more : (t : ℕ) (v u : ClockUnfolding) → UnfoldsFrom t v u → (length v.parents ≤ length u.parents) × (length v.makers ≤ length u.makers)
later_more t v u (no_more none) = (omega arith, omega arith)
later_more t v u (one_more {v = w} start path goes rest) =
    let adds = activity_adds t start v w goes in
    let more = later_more (t + 1) w u rest in
    (omega (arith, adds.parents, more.0), omega (arith, adds.makers, more.1))

-- there are no more activities, clocks and finishes than a plan may have
pub walked_few : (p : ClockTree) (u : ClockUnfolding) (t : ℕ) (begun : List StartedActivity) (things : List MadeThing) (waits : List (List ℕ)) → clock_unfolded p ≡ Ok u →
    Walked u t begun things waits → (length begun ≤ max_tasks) × (length things ≤ max_phasers)
walked_few p u t begun things waits is h =
    let checked = clock_plan_is_checked p (plan_of_moves u) (plan_is p u is) in
    let more = later_more t h.so_far u h.goes in
    let tasks = checked.limits.few_tasks in
    let phasers = checked.limits.few_phasers in
    (omega (arith, more.0, h.parents_many, tasks), omega (arith, more.1, h.makers_many, phasers))

-- ---- the end

pub walked_end : (u : ClockUnfolding) (t : ℕ) (begun : List StartedActivity) (things : List MadeThing) (waits : List (List ℕ)) → Walked u t begun things waits → length begun ≤ t →
    AreOriginsOf u (record { begun = begun; things = things; waits = waits })
walked_end u t begun things waits h le = end h.so_far h.goes h.begun_are
  where
    all : take t begun ≡ begun
    all = take_all t begun le

    end : (v : ClockUnfolding) → UnfoldsFrom t v u → begun ≡ all_begun v → AreOriginsOf u (record { begun = begun; things = things; waits = waits })
    end v (no_more none) are = record {
      begun = are;
      things = h.things_are ∙ ap (flat_map (λ b. things_in (comings_by b))) (all ∙ are);
      waits = h.waits_are ∙ ap (map (λ b. waits_in (comings_by b))) (all ∙ are);
    }
    end v (one_more start path goes rest) are =
        absurd (let within = some_within v.starts t start path in let many = ap length are ∙ length-map v.starts begun_by in omega (arith, le))

-- and there are as many clocks and finishes as makers
pub walked_made : (u : ClockUnfolding) (t : ℕ) (begun : List StartedActivity) (things : List MadeThing) (waits : List (List ℕ)) → Walked u t begun things waits → length begun ≤ t →
    length (all_things u) ≡ length u.makers
walked_made u t begun things waits h le = ap length (sym (walked_end u t begun things waits h le).things) ∙ end h.so_far h.goes h.begun_are h.makers_many
  where
    end : (v : ClockUnfolding) → UnfoldsFrom t v u → begun ≡ all_begun v → length v.makers ≡ length things → length things ≡ length u.makers
    end v (no_more none) are makers = sym makers
    end v (one_more start path goes rest) are makers =
        absurd (let within = some_within v.starts t start path in let many = ap length are ∙ length-map v.starts begun_by in omega (arith, le))

-- a program has one unfolding
pub same_unfolding : (p : ClockTree) (u v : ClockUnfolding) → clock_unfolded p ≡ Ok u → clock_unfolded p ≡ Ok v → u ≡ v
same_unfolding p u v is that = (let both : ◌≡◌ {A = Outcome ClockUnfolding} (Ok u) (Ok v) = sym is ∙ that in cc)
