-- Tests that tell of a state after a small run which tasks are dead in it.
use Rattle.std.proofs.Common.{◌≡◌, ℕ, ◌<◌, Bool, true, false, Option, Some, None, List, [], ◌∷◌, length, sym, ◌∙◌, ap, subst, refl, inl, inr}
use Rattle.std.specs.Prelude.{◌==◌, ◌&&◌, ◌||◌, ◌↔◌, Contains, if◌then◌else◌, nat_lt}
use Rattle.std.proofs.lemmas.Bool.{eqb-true, eq-eqb, false≢true, lt-ltb, ltb-true, and_parts, or_cases, or_left, or_right, and_from}
use Rattle.armus_base.specs.declared.event.Event.{Event}
use Rattle.armus_base.specs.Deadlocks.{IsDeadIn, IsImpededWithin, IsAtPhase, IsPublishedOn}
use Rattle.armus_base.specs.Places.{some_before}
use Rattle.armus_base.specs.Plans.{Action, Advances, Blocks, Drops, Forks, Makes, Passes, Plan, Refuses, Registers}
use Rattle.armus_base.specs.Runs.{IsLegalRun, state_after}
use Rattle.armus_base.specs.States.{IsLegal, State, Step, after, next_phase}
use Rattle.armus_base.proofs.Codes.{child_within}
use Rattle.armus_base.proofs.Elements.{Contains-cons_cases, Contains-head, Contains-tail, nothing_in_nil}
use Rattle.armus_base.proofs.Fixed.{some_before_is}
use Rattle.armus_base.proofs.ForkedTasks.{forked_within}
use Rattle.armus_base.proofs.Members.{published_member}
use Rattle.armus_base.proofs.RunTests.{all_before, all_is, below_is, is_below, is_not, not_is}
use Rattle.armus_base.proofs.Stepping.{acting_forked}
use Rattle.armus_base.proofs.Steps.{with_phase_is}

member_after :
    (plan : Plan) (s : State) (u : ℕ) (x : Action) → IsLegal plan s u x → u < length plan.parents →
    ((t p n : ℕ) → s.phases t p ≡ Some n → t < length plan.parents) → (t p n : ℕ) → (after s u x).phases t p ≡ Some n → t < length plan.parents
member_after plan s u (Makes q) legal acts before t p n m =
    elim (with_phase_is s.phases u q (Some 0) t p (Some n) m) [
      | inl w ↦ subst (λ v. v < length plan.parents) (sym w.0) acts
      | inr w ↦ before t p n w.1
    ]
member_after plan s u (Registers c q) legal acts before t p n m =
    elim (with_phase_is s.phases c q (s.phases u q) t p (Some n) m) [
      | inl w ↦ subst (λ v. v < length plan.parents) (sym w.0) (child_within plan u c legal.1)
      | inr w ↦ before t p n w.1
    ]
member_after plan s u (Forks c) legal acts before t p n m = before t p n m
member_after plan s u (Advances q) legal acts before t p n m =
    elim (with_phase_is s.phases u q (next_phase (s.phases u q)) t p (Some n) m) [
      | inl w ↦ subst (λ v. v < length plan.parents) (sym w.0) acts
      | inr w ↦ before t p n w.1
    ]
member_after plan s u (Drops q) legal acts before t p n m =
    elim (with_phase_is s.phases u q None t p (Some n) m) [ inl w ↦ absurd (cc) | inr w ↦ before t p n w.1 ]
member_after plan s u (Blocks q) legal acts before t p n m = before t p n m
member_after plan s u (Passes q) legal acts before t p n m = before t p n m
member_after plan s u (Refuses q) legal acts before t p n m = before t p n m

-- after any legal run a member is a task of the plan
pub member_is_task :
    (plan : Plan) → 0 < length plan.parents → (h : List Step) → IsLegalRun plan h → (t p n : ℕ) → (state_after h).phases t p ≡ Some n →
    t < length plan.parents
member_is_task plan some [] run t p n m = absurd (cc)
member_is_task plan some (e ∷ h) run t p n m =
    member_after plan (state_after h) e.task e.action run.1.legal
    (forked_within plan some h run.0 e.task (acting_forked plan (state_after h) e.task e.action run.1.legal))
    (member_is_task plan some h run.0) t p n m

abbrev pub is_in : List ℕ → ℕ → Bool
is_in [] t = false
is_in (u ∷ us) t = (u == t) || is_in us t

in_contains : (us : List ℕ) (t : ℕ) → is_in us t ≡ true → Contains us t
in_contains [] t e = absurd (false≢true e)
in_contains (u ∷ us) t e =
    elim (or_cases (u == t) (is_in us t) e) [
      | inl here ↦ subst (λ v. Contains (u ∷ us) v) (eqb-true u t here) (Contains-head u us)
      | inr later ↦ Contains-tail u us t (in_contains us t later)
    ]

contains_in : (us : List ℕ) (t : ℕ) → Contains us t → is_in us t ≡ true
contains_in [] t m = absurd (nothing_in_nil t m)
contains_in (u ∷ us) t m =
    elim (Contains-cons_cases u us t m) [
      | inl same ↦ or_left (u == t) (is_in us t) (eq-eqb u t same)
      | inr later ↦ or_right (u == t) (is_in us t) (contains_in us t later)
    ]

-- one of the first k tasks, of those that are marked, impedes the event
abbrev is_impeded : State → ℕ → (ℕ → Bool) → Option Event → Bool
is_impeded s k mark None = false
is_impeded s k mark (Some e) = some_before (λ u. mark u && is_below e.n (s.phases u e.p.0)) k

-- none of the first k tasks impedes the event, but for those that are listed
abbrev is_free : State → ℕ → List ℕ → Option Event → Bool
is_free s k free None = true
is_free s k free (Some e) = all_before (λ u. is_not (is_below e.n (s.phases u e.p.0)) || is_in free u) k

-- each listed task is free by those after it
abbrev are_free : State → ℕ → List ℕ → Bool
are_free s k [] = true
are_free s k (t ∷ free) = are_free s k free && is_free s k free (s.published t)

abbrev are_below : ℕ → List ℕ → Bool
are_below k [] = true
are_below k (t ∷ ts) = nat_lt t k && are_below k ts

-- the dead ones are tasks, each of which is impeded by a dead one, and each other one is free
abbrev pub dead_test : State → ℕ → List ℕ → List ℕ → Bool
dead_test s k dead free =
    are_free s k free
    && (are_below k dead && all_before (λ t. if is_in dead t then is_impeded s k (is_in dead) (s.published t) else is_in free t) k)

below_in : (k : ℕ) (dead : List ℕ) → are_below k dead ≡ true → (t : ℕ) → is_in dead t ≡ true → t < k
below_in k [] test t e = absurd (false≢true e)
below_in k (u ∷ us) test t e =
    let a = and_parts (nat_lt u k) (are_below k us) test in
    elim (or_cases (u == t) (is_in us t) e) [
      | inl here ↦ subst (λ v. v < k) (eqb-true u t here) (ltb-true u k a.0)
      | inr later ↦ below_in k us a.1 t later
    ]

impeded_is :
    (s : State) (k : ℕ) (dead : List ℕ) (t : ℕ) (o : Option Event) → s.published t ≡ o → is_impeded s k (is_in dead) o ≡ true →
    IsImpededWithin (IsPublishedOn s) (IsAtPhase s) (λ u. nat_lt u k && is_in dead u) t
impeded_is s k dead t None is test = absurd (false≢true test)
impeded_is s k dead t (Some e) is test =
    let at = some_before_is (λ u. is_in dead u && is_below e.n (s.phases u e.p.0)) k test in
    let has = and_parts (is_in dead at.0) (is_below e.n (s.phases at.0 e.p.0)) at.2 in
    let below = below_is e.n (s.phases at.0 e.p.0) has.1 in
    record {
      event = e;
      waits = is;
      by = at.0;
      inside = and_from (nat_lt at.0 k) (is_in dead at.0) (lt-ltb at.0 k at.1) has.0;
      phase = below.0;
      impedes = below.1;
      below = below.2;
    }

-- none impedes the event but those that are listed
free_is :
    (s : State) (k : ℕ) (free : List ℕ) (o : Option Event) (e : Event) → o ≡ Some e → is_free s k free o ≡ true → (u m : ℕ) → u < k →
    s.phases u e.p.0 ≡ Some m → m < e.n → is_in free u ≡ true
free_is s k free None e is test u m l phase below = absurd (cc)
free_is s k free (Some f) e is test u m l phase below =
    let same : f ≡ e = cc in
    let all = subst (λ v. all_before (λ w. is_not (is_below v.n (s.phases w v.p.0)) || is_in free w) k ≡ true) same test in
    elim (or_cases (is_not (is_below e.n (s.phases u e.p.0))) (is_in free u)
    (all_is (λ w. is_not (is_below e.n (s.phases w e.p.0)) || is_in free w) k all u l)) [
      | inl not ↦
          absurd (false≢true
          (sym (not_is (is_below e.n (s.phases u e.p.0)) not) ∙ ap (is_below e.n) phase ∙ lt-ltb m e.n below))
      | inr listed ↦ listed
    ]

-- a free task is not dead
free_alive :
    (s : State) (k : ℕ) → ((t p n : ℕ) → s.phases t p ≡ Some n → t < k) → (free : List ℕ) → are_free s k free ≡ true → (t : ℕ) →
    is_in free t ≡ true → IsDeadIn s t → ⊥
free_alive s k tasks [] test t e dead = false≢true e
free_alive s k tasks (u ∷ free) test t e dead =
    let a = and_parts (are_free s k free) (is_free s k free (s.published u)) test in
    elim (or_cases (u == t) (is_in free t) e) [
      | inl here ↦
          let same : u ≡ t = eqb-true u t here in
          let one = dead.deadlocked.each t dead.inside in
          let listed = free_is s k free (s.published u) one.event (ap s.published same ∙ one.waits) a.1 one.by one.phase
          (tasks one.by one.event.p.0 one.phase one.impedes) one.impedes one.below in
          free_alive s k tasks free a.0 one.by listed (record { tasks = dead.tasks; inside = one.inside; deadlocked = dead.deadlocked })
      | inr later ↦ free_alive s k tasks free a.0 t later dead
    ]

by_case : (a b c : Bool) → a ≡ true → (if a then b else c) ≡ true → b ≡ true
by_case true b c e test = test
by_case false b c e test = absurd (false≢true e)

module _ (plan : Plan) (some : 0 < length plan.parents) (h : List Step) (run : IsLegalRun plan h) (dead free : List ℕ)
    (test : dead_test (state_after h) (length plan.parents) dead free ≡ true) where
  parts_free : are_free (state_after h) (length plan.parents) free ≡ true
  parts_free =
      (and_parts (are_free (state_after h) (length plan.parents) free)
      (are_below (length plan.parents) dead
      && all_before (λ t. if is_in dead t then is_impeded (state_after h) (length plan.parents) (is_in dead) ((state_after h).published t) else is_in free t)
      (length plan.parents))
      test).0

  parts_rest :
      are_below (length plan.parents) dead ≡ true
      × all_before (λ t. if is_in dead t then is_impeded (state_after h) (length plan.parents) (is_in dead) ((state_after h).published t) else is_in free t)
      (length plan.parents) ≡ true
  parts_rest =
      and_parts (are_below (length plan.parents) dead)
      (all_before (λ t. if is_in dead t then is_impeded (state_after h) (length plan.parents) (is_in dead) ((state_after h).published t) else is_in free t)
      (length plan.parents))
      (and_parts (are_free (state_after h) (length plan.parents) free)
      (are_below (length plan.parents) dead
      && all_before (λ t. if is_in dead t then is_impeded (state_after h) (length plan.parents) (is_in dead) ((state_after h).published t) else is_in free t)
      (length plan.parents))
      test).1

  at_task :
      (t : ℕ) → t < length plan.parents →
      (if is_in dead t then is_impeded (state_after h) (length plan.parents) (is_in dead) ((state_after h).published t) else is_in free t) ≡ true
  at_task t l =
      all_is (λ u. if is_in dead u then is_impeded (state_after h) (length plan.parents) (is_in dead) ((state_after h).published u) else is_in free u)
      (length plan.parents) parts_rest.1 t l

  listed_dead : (t : ℕ) → is_in dead t ≡ true → IsDeadIn (state_after h) t
  listed_dead t e = record {
    tasks = λ u. nat_lt u (length plan.parents) && is_in dead u;
    inside = and_from (nat_lt t (length plan.parents)) (is_in dead t) (lt-ltb t (length plan.parents) (below_in (length plan.parents) dead parts_rest.0 t e)) e;
    deadlocked = record {
      some = (
        t,
        and_from (nat_lt t (length plan.parents)) (is_in dead t)
            (lt-ltb t (length plan.parents) (below_in (length plan.parents) dead parts_rest.0 t e)) e,
      );
      each = λ u inside.
          let a = and_parts (nat_lt u (length plan.parents)) (is_in dead u) inside in
          impeded_is (state_after h) (length plan.parents) dead u ((state_after h).published u) refl
          (by_case (is_in dead u) (is_impeded (state_after h) (length plan.parents) (is_in dead) ((state_after h).published u)) (is_in free u) a.1
          (at_task u (ltb-true u (length plan.parents) a.0)));
    };
  }

  dead_listed : (t : ℕ) → IsDeadIn (state_after h) t → is_in dead t ≡ true
  dead_listed t one =
      let waits = one.deadlocked.each t one.inside in
      let member = published_member plan h run t waits.event waits.waits in
      go (is_in dead t) refl (at_task t (member_is_task plan some h run t waits.event.p.0 member.0 member.1))
    where
      go :
          (b : Bool) → is_in dead t ≡ b →
          (if b then is_impeded (state_after h) (length plan.parents) (is_in dead) ((state_after h).published t) else is_in free t) ≡ true → b ≡ true
      go true is test' = refl
      go false is test' = absurd (free_alive (state_after h) (length plan.parents) (member_is_task plan some h run) free parts_free t test' one)

  -- where the test says so, the dead tasks are just those of the list
  pub dead_if : (t : ℕ) → Contains dead t ↔ IsDeadIn (state_after h) t
  dead_if t = (λ listed. listed_dead t (contains_in dead t listed), λ one. in_contains dead t (dead_listed t one))
