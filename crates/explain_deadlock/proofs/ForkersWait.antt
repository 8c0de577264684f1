-- Who would fork a task that is not forked yet waits, or is not forked yet itself; and where a walk comes to an end, a held task waits for one that has ended
-- or is never forked.
use Rattle.std.proofs.Common.{◌≡◌, ℕ, ◌+◌, ◌<◌, Bool, true, false, Option, Some, None, IsSome, List, [], ◌∷◌, ◌++◌, get_or, length, length-append, arith, sym, ◌∙◌, ap, subst, refl, inl, inr, ◌⊎◌, eq-eqb}
use borrow.Author.Tests.{eqb-true}
use Rattle.std.specs.Prelude.{Contains, MatchOption, option_map, slice_index_or, ◌==◌, ◌||◌}
use Rattle.std.proofs.lemmas.Bool.{cases_eq, cases_lt, false≢true}
use Rattle.std.proofs.lemmas.List.{get_or-append-add, get_or_past}
use Rattle.std.proofs.lemmas.Option.{slice_get_cases, slice_get_within}
use Rattle.armus_base.specs.declared.ending.TaskEnd.{TaskEnd}
use Rattle.armus_base.specs.declared.ending.TaskEnd.TheVariants.{Blocked, Done as EndsDone, Refused as EndsRefused, Unforked as EndsUnforked}
use Rattle.armus_base.specs.declared.event.Event.{Event}
use Rattle.armus_base.specs.declared.ids.TaskId.{TaskId}
use Rattle.armus_base.specs.CheckedPlans.{HasFork}
use Rattle.armus_base.specs.Deadlocks.{IsAtPhase, IsDeadBy, IsDeadIn, IsImpededWithin, IsPublishedOn}
use Rattle.armus_base.specs.calls.FinalLaws.{Tells}
use Rattle.armus_base.specs.Finals.{end_of, final_of}
use Rattle.armus_base.specs.Places.{done_by, forked_at, forks, refused_at, some_before, state_at}
use Rattle.armus_base.specs.Plans.{Action, Forks, Plan, action_at, actions, parent_of}
use Rattle.armus_base.specs.Runs.{IsMaximal, IsPlainRun, Place, places, state_after}
use Rattle.armus_base.specs.States.{State, Step}
use Rattle.armus_base.proofs.DeadByStatuses.{dead_by_final}
use Rattle.armus_base.proofs.EndsTell.{ends_tell}
use Rattle.armus_base.proofs.Fixed.{some_before_from}
use Rattle.armus_base.proofs.Members.{plain_undropped}
use Rattle.armus_base.proofs.PlacesFixState.{places_fix_state}
use Rattle.report.specs.Standings.{Stands}
use Rattle.report.specs.declared.standing.Standing.{Standing}
use Rattle.report.specs.declared.standing.Standing.TheVariants.{Done, Dead, Held as WaitsAlive, Refused, Unforked}
use Rattle.explain_facts.specs.declared.account.Forked.{Forked}
use Rattle.explain_facts.specs.declared.account.TaskAccount.{TaskAccount}
use Rattle.explain_facts.proofs.Forkers.{forkers_fork}
use Rattle.explain_tasks.specs.Facts.{FactsValue, forking_of, is_deadlocked, stands_unforked, is_waiting, situation_by, situation_of}
use Rattle.explain_tasks.specs.Impeders.{impeders_by_facts}
use Rattle.explain_tasks.specs.Nexts.{IsNext, next_by, next_of}
use Rattle.explain_tasks.specs.declared.impeders.Impeder.{Impeder}
use Rattle.explain_tasks.specs.declared.situation.Situation.{Situation}
use Rattle.explain_tasks.specs.declared.situation.Situation.TheVariants.{Deadlocked, Held, HasEnded, NotForkedYet, NeverForked}
use Rattle.explain_deadlock.specs.declared.outcome.WaitVerdict.TheVariants.{Chain}
use Rattle.explain_deadlock.specs.calls.Laws.{ChainsEnd, ForkersAreToCome, HeldAreNotImpededByDead, IsToCome}
use Rattle.explain_deadlock.specs.RunEnds.{AreFactsAt}
use Rattle.explain_deadlock.specs.Verdicts.{IsVerdictFrom, walk_start}
use Rattle.explain_deadlock.proofs.AccountTold.{forker_before, part_of}
use Rattle.explain_deadlock.proofs.DeadNexts.{deadlocked_dead, impedes, next_dead}
use Rattle.explain_deadlock.proofs.FitsEnds.{all_stand, checked_here, dead_in_state, dead_is, of_plan_here, published_is, stands_here, waiting_is, waits_for_some}
use Rattle.explain_deadlock.proofs.RestsAtEnd.{rests_at_end}

-- ---- how a task has ended that stands so

unforked_ended : (P : Type 0) (end : TaskEnd) (s : Standing) (fork : Option Forked) → Stands P end s → stands_unforked (situation_by s fork) ≡ true → end ≡ EndsUnforked
unforked_ended P EndsDone s fork is e = absurd (let none = ap (λ x. stands_unforked (situation_by x fork)) is in cc)
unforked_ended P (Blocked v) s fork (inl (dead, is)) e = absurd (let none = ap (λ x. stands_unforked (situation_by x fork)) is in cc)
unforked_ended P (Blocked v) s fork (inr (alive, is)) e = absurd (let none = ap (λ x. stands_unforked (situation_by x fork)) is in cc)
unforked_ended P (EndsRefused v) s fork is e = absurd (let none = ap (λ x. stands_unforked (situation_by x fork)) is in cc)
unforked_ended P EndsUnforked s fork is e = refl

-- it has come to the end of its code, or was refused
abbrev ended_by : TaskEnd → Type 0
ended_by end = (end ≡ EndsDone) ⊎ ((e : Event) × (end ≡ EndsRefused e))

not_ended : (fork : Option Forked) → situation_by Unforked fork ≡ HasEnded → ⊥
not_ended None e = cc
not_ended (Some x) e = cc

has_ended : (P : Type 0) (end : TaskEnd) (s : Standing) (fork : Option Forked) → Stands P end s → situation_by s fork ≡ HasEnded → ended_by end
has_ended P EndsDone s fork is e = inl refl
has_ended P (Blocked v) s fork (inl (dead, is)) e = absurd (let also = ap (λ x. situation_by x fork) is in cc)
has_ended P (Blocked v) s fork (inr (alive, is)) e = absurd (let also = ap (λ x. situation_by x fork) is in cc)
has_ended P (EndsRefused v) s fork is e = inr (v, refl)
has_ended P EndsUnforked s fork is e = absurd (not_ended fork (sym (ap (λ x. situation_by x fork) is) ∙ e))

-- a task not forked yet has a fork, and one that is never forked has none
yet_has_fork : (s : Standing) (fork : Option Forked) → situation_by s fork ≡ NotForkedYet → (x : Forked) × (fork ≡ Some x)
yet_has_fork Done fork e = absurd (cc)
yet_has_fork (Dead v) fork e = absurd (cc)
yet_has_fork (WaitsAlive v) fork e = absurd (cc)
yet_has_fork (Refused v) fork e = absurd (cc)
yet_has_fork Unforked None e = absurd (cc)
yet_has_fork Unforked (Some x) e = (x, refl)

never_has_none : (s : Standing) (fork : Option Forked) → situation_by s fork ≡ NeverForked → fork ≡ None
never_has_none Done fork e = absurd (cc)
never_has_none (Dead v) fork e = absurd (cc)
never_has_none (WaitsAlive v) fork e = absurd (cc)
never_has_none (Refused v) fork e = absurd (cc)
never_has_none Unforked None e = refl
never_has_none Unforked (Some x) e = absurd (cc)

-- ---- actions

action_within : (plan : Plan) (t j k : ℕ) (x : Action) → action_at plan t j ≡ Some x → action_at plan t k ≡ None → j < k
unfolding action_at
action_within plan t j k x there none =
    let within = slice_get_within (actions plan t) j x there in
    elim (slice_get_cases (actions plan t) k).1 [ inl some ↦ absurd (let is = some.2 in cc) | inr past ↦ let le = past.0 in omega arith ]

-- a task is forked where its parent has made the fork, and task 0 always is
made_fork : (plan : Plan) (a : ℕ → Place) (t j : ℕ) → action_at plan (parent_of plan t) j ≡ Some (Forks t) → j < (a (parent_of plan t)).done → (state_at plan a).forked t ≡ true
unfolding forked_at
made_fork plan a t j there lt =
    second (t == 0) (some_before (λ i. forks (action_at plan (parent_of plan t) i) t) (a (parent_of plan t)).done)
    (some_before_from (λ i. forks (action_at plan (parent_of plan t) i) t) (a (parent_of plan t)).done j lt (ap (λ o. forks o t) there ∙ eq-eqb t t refl))
  where
    second : (b c : Bool) → c ≡ true → (b || c) ≡ true
    second true c e = refl
    second false c e = e

first_forked : (plan : Plan) (a : ℕ → Place) → (state_at plan a).forked 0 ≡ true
unfolding forked_at
first_forked plan a = refl

module _ (plan : Plan) (steps : List Step) (run : IsPlainRun plan steps) (maximal : IsMaximal plan steps) (f : FactsValue) (at : AreFactsAt plan (state_after steps) (done_by (places steps)) f) where
  abbrev a : ℕ → Place
  a = places steps

  abbrev s : State
  s = state_after steps

  abbrev done : ℕ → ℕ
  done = done_by a

  abbrev n : ℕ
  n = length plan.parents

  fixed : s ≡ state_at plan a
  fixed = places_fix_state plan steps (checked_here plan s done f at) run.0

  -- each task has ended as its end tells
  told : (t : ℕ) (end : TaskEnd) → end_of s t ≡ end → Tells plan steps t end
  told t end is = subst (Tells plan steps t) is (ends_tell plan steps t (checked_here plan s done f at) run.0 maximal)

  nobody_refused : (t : ℕ) (e : Event) → end_of s t ≡ EndsRefused e → ⊥
  nobody_refused t e is =
      let refused : s.refused t ≡ Some e = (told t (EndsRefused e) is).0 in
      let none : s.refused t ≡ None = ap (λ (x : State). x.refused t) fixed ∙ ap (refused_at plan t (a t).done) (plain_undropped plan steps run t) in
      cc

  inside : (t : ℕ) (x : Situation) → situation_of f t ≡ x → (x ≡ HasEnded → ⊥) → t < n
  inside t x is other =
      elim (cases_lt t n) [
        | inl lt ↦ lt
        | inr past ↦
            absurd (other (sym is ∙ ap (λ y. situation_by y (forking_of f t)) (get_or_past f.standings t Done (let e = all_stand plan s done f at in omega arith))))
      ]

  -- the fork of a task that is told
  fork_is : (t : ℕ) → t < n → (d : TaskAccount) → forking_of f t ≡ (slice_index_or f.account.tasks t d).fork
  fork_is t lt d = part_of (λ (y : TaskAccount). y.fork) f.account.tasks t d (let e = at.account.known.all_told in omega arith)

  fork_told : (t : ℕ) (o : Option Forked) → 0 < t → t < n → forking_of f t ≡ o → MatchOption o (HasFork plan t → ⊥) (λ x. HasFork plan t × (x.by.0 ≡ parent_of plan t))
  fork_told t o pos lt is =
      let d : TaskAccount = record { drawn = None; fork = None; ended = None; wait = None; nexts = [] } in
      subst (λ (p : Option Forked). MatchOption p (HasFork plan t → ⊥) (λ x. HasFork plan t × (x.by.0 ≡ parent_of plan t))) (sym (fork_is t lt d) ∙ is)
      (forkers_fork f.text at.account.program plan s done f.account at.account.unfolds at.account.known t d pos lt)

  -- a task not forked yet is not forked, and its forker has the fork in its code
  module _ (t : ℕ) (yet' : situation_of f t ≡ NotForkedYet) where
    below : t < n
    below = inside t NotForkedYet yet' (λ e. cc)

    unforked : s.forked t ≡ false
    unforked =
        let ended = unforked_ended (IsDeadBy (final_of plan s).blocked t) (end_of s t) (slice_index_or f.standings t Done) (forking_of f t) (stands_here plan s done f at t below)
        (ap stands_unforked yet') in
        told t EndsUnforked ended

    some_fork : (x : Forked) × (forking_of f t ≡ Some x)
    some_fork = yet_has_fork (slice_index_or f.standings t Done) (forking_of f t) yet'

    forker : ℕ
    forker = some_fork.0.by.0

    earlier : forker < t
    unfolding forker
    earlier =
        let d : TaskAccount = record { drawn = None; fork = None; ended = None; wait = None; nexts = [] } in
        forker_before at.account.known.layout at.account.program plan (checked_here plan s done f at) t some_fork.0 below
        (sym (at.account.known.each t d below).fork ∙ (sym (fork_is t below d) ∙ some_fork.1))

    has_fork : HasFork plan t × (forker ≡ parent_of plan t)
    unfolding forker
    has_fork = fork_told t (Some some_fork.0) (let lt = earlier in omega arith) below some_fork.1

    -- so its forker has not come to its end
    not_done : situation_of f forker ≡ HasEnded → ⊥
    not_done is =
        let ((j, there), parent) = has_fork in
        elim (has_ended (IsDeadBy (final_of plan s).blocked forker) (end_of s forker) (slice_index_or f.standings forker Done) (forking_of f forker)
        (stands_here plan s done f at forker (let lt = earlier in let l = below in omega arith)) is) [
          | inl done ↦
              let none : action_at plan (parent_of plan t) (a (parent_of plan t)).done ≡ None =
              subst (λ (u : ℕ). action_at plan u (a u).done ≡ None) parent (told forker EndsDone done).1 in
              let forked = ap (λ (x : State). x.forked t) fixed ∙ made_fork plan a t j there (action_within plan (parent_of plan t) j (a (parent_of plan t)).done (Forks t) there none) in
              false≢true (sym unforked ∙ forked)
          | inr refused ↦ nobody_refused forker refused.0 refused.1
        ]

    -- and is forked by somebody
    not_never : situation_of f forker ≡ NeverForked → ⊥
    not_never is =
        let ((j, there), parent) = has_fork in
        let lt : forker < n = (let l = earlier in let m = below in omega arith) in
        let action : action_at plan forker j ≡ Some (Forks t) = subst (λ (u : ℕ). action_at plan u j ≡ Some (Forks t)) (sym parent) there in
        elim (cases_eq forker 0) [
          | inl zero' ↦
              let ended = unforked_ended (IsDeadBy (final_of plan s).blocked forker) (end_of s forker) (slice_index_or f.standings forker Done) (forking_of f forker)
              (stands_here plan s done f at forker lt) (ap stands_unforked is) in
              let out : s.forked forker ≡ false = told forker EndsUnforked ended in
              false≢true (sym out ∙ (ap s.forked zero' ∙ (ap (λ (x : State). x.forked 0) fixed ∙ first_forked plan a)))
          | inr some ↦
              let pos : 0 < forker = omega arith in
              fork_told forker None pos lt (never_has_none (slice_index_or f.standings forker Done) (forking_of f forker) is)
              ((checked_here plan s done f at).codes.works forker j (Forks t) pos action)
        ]

  pub to_come : (t u : TaskId) → situation_of f t.0 ≡ NotForkedYet → IsNext f s.phases t u → IsToCome (situation_of f u.0)
  unfolding forker
  to_come t u yet' step =
      let next : option_map (λ (x : Forked). x.by) (forking_of f t.0) ≡ Some u = subst (λ (x : Situation). next_by f (impeders_by_facts f s.phases t.0) (forking_of f t.0) x ≡ Some u) yet' step in
      let by : Some (some_fork t.0 yet').0.by ≡ Some u = ap (option_map (λ (x : Forked). x.by)) (sym (some_fork t.0 yet').1) ∙ next in
      let is : (some_fork t.0 yet').0.by ≡ u = cc in
      subst (λ (v : TaskId). IsToCome (situation_of f v.0)) is (record { not_ended = not_done t.0 yet'; not_never = not_never t.0 yet' })

  -- ---- where a walk comes to an end

  waits : (t : ℕ) (x : Situation) → situation_of f t ≡ x → is_waiting x ≡ true → IsSome (next_of f s.phases t)
  waits t x is w = waits_for_some plan s done f at (rests_at_end plan steps (checked_here plan s done f at) run.0 maximal) t (ap is_waiting is ∙ w)

  none_some : {A : Type 0} (o : Option A) → o ≡ None → IsSome o → ⊥
  none_some o none some = false≢true (subst IsSome none some)

  -- a task without a next has ended or is never forked
  no_next : (t : ℕ) (x : Situation) → situation_of f t ≡ x → next_of f s.phases t ≡ None → (x ≡ HasEnded) ⊎ (x ≡ NeverForked)
  no_next t Deadlocked is none = absurd (none_some (next_of f s.phases t) none (waits t Deadlocked is refl))
  no_next t Held is none = absurd (none_some (next_of f s.phases t) none (waits t Held is refl))
  no_next t HasEnded is none = inl refl
  no_next t NotForkedYet is none =
      absurd (let next : option_map (λ (x : Forked). x.by) (forking_of f t) ≡ None = subst (λ (x : Situation). next_by f (impeders_by_facts f s.phases t) (forking_of f t) x ≡ None) is none in
      let also = ap (option_map (λ (x : Forked). x.by)) (some_fork t is).1 in cc)
  no_next t NeverForked is none = inr refl

  -- a task whose next has ended or is never forked is held
  before_end : (t u : TaskId) (x : Situation) → situation_of f t.0 ≡ x → IsNext f s.phases t u → ((situation_of f u.0 ≡ HasEnded) ⊎ (situation_of f u.0 ≡ NeverForked)) → x ≡ Held
  before_end t u Deadlocked is step end =
      let dead = next_dead plan s done f at t u (deadlocked_dead plan s done f at t.0 (ap is_deadlocked is)) step in
      let also = (dead_is plan s done f at u.0 dead).3 in
      elim end [ inl e ↦ absurd (cc) | inr e ↦ absurd (cc) ]
  before_end t u Held is step end = refl
  before_end t u HasEnded is step end = absurd (let none = subst (λ (x : Situation). next_by f (impeders_by_facts f s.phases t.0) (forking_of f t.0) x ≡ Some u) is step in cc)
  before_end t u NotForkedYet is step end =
      let come = to_come t u is step in elim end [ inl e ↦ absurd (come.not_ended e) | inr e ↦ absurd (come.not_never e) ]
  before_end t u NeverForked is step end = absurd (let none = subst (λ (x : Situation). next_by f (impeders_by_facts f s.phases t.0) (forking_of f t.0) x ≡ Some u) is step in cc)

  pub chain_ends : (start : Option TaskId) (held last : TaskId) → IsVerdictFrom f s.phases start (Chain held last) →
      (situation_of f held.0 ≡ Held) × ((situation_of f last.0 ≡ HasEnded) ⊎ (situation_of f last.0 ≡ NeverForked))
  chain_ends None held last is = absurd (cc)
  chain_ends (Some start) held last w =
      let end = no_next last.0 (situation_of f last.0) refl w.ends in
      let long = length-append w.before (held ∷ last ∷ []) in
      let step = w.steps (length w.before + 0) held (omega arith) in
      let first : get_or (w.before ++ held ∷ last ∷ []) (length w.before + 0) held ≡ held = get_or-append-add w.before (held ∷ last ∷ []) 0 held in
      let second : get_or (w.before ++ held ∷ last ∷ []) (length w.before + 0 + 1) held ≡ last =
      ap (λ k. get_or (w.before ++ held ∷ last ∷ []) k held) (omega arith) ∙ get_or-append-add w.before (held ∷ last ∷ []) 1 held in
      let next : IsNext f s.phases held last =
      subst (λ x. IsNext f s.phases x last) first (subst (λ y. IsNext f s.phases (get_or (w.before ++ held ∷ last ∷ []) (length w.before + 0) held) y) second step) in
      (before_end held last (situation_of f held.0) refl next end, end)

-- ---- the impeders of a held task

module _ (plan : Plan) (s : State) (done : ℕ → ℕ) (f : FactsValue) (at : AreFactsAt plan s done f) (t : ℕ) (held : situation_of f t ≡ Held) (i : Impeder) (there : Contains (impeders_by_facts f s.phases t) i)
    (deadlocked : situation_of f i.t.0 ≡ Deadlocked) where
  dead : IsDeadIn s i.t.0
  dead = dead_in_state plan s done f at i.t.0 (deadlocked_dead plan s done f at i.t.0 (ap is_deadlocked deadlocked))

  -- the deadlocked tasks, and the held one
  both : ℕ → Bool
  both u = (u == t) || dead.tasks u

  right : (b c : Bool) → c ≡ true → (b || c) ≡ true
  right true c e = refl
  right false c e = e

  left : (b c : Bool) → b ≡ true → (b || c) ≡ true
  left true c e = refl
  left false c e = absurd (cc)

  with_dead : (u : ℕ) → dead.tasks u ≡ true → both u ≡ true
  unfolding both
  with_dead u e = right (u == t) (dead.tasks u) e

  with_held : both t ≡ true
  unfolding both
  with_held = left (t == t) (dead.tasks t) (eq-eqb t t refl)

  of_both : (u : ℕ) → both u ≡ true → (u ≡ t) ⊎ (dead.tasks u ≡ true)
  unfolding both
  of_both u e = by (u == t) (dead.tasks u) (λ on. eqb-true u t on) e
    where
      by : (b c : Bool) → (b ≡ true → u ≡ t) → (b || c) ≡ true → (u ≡ t) ⊎ (c ≡ true)
      by true c on e' = inl (on refl)
      by false c on e' = inr e'

  would_be_dead : IsDeadIn s t
  would_be_dead =
      let (lt, e, ended, so) = waiting_is plan s done f at t (ap is_waiting held) in
      let (phase, below) = impedes plan s done f at t e lt ended i there in
      let own : IsImpededWithin (IsPublishedOn s) (IsAtPhase s) both t =
      record { event = e; waits = published_is plan s done f at t e ended; by = i.t.0; inside = with_dead i.t.0 dead.inside; phase = i.phase; impedes = phase; below = below } in
      record {
        tasks = both;
        inside = with_held;
        deadlocked = record {
          some = (t, with_held);
          each = λ u inside.
              elim (of_both u inside) [
                | inl same ↦ subst (λ v. IsImpededWithin (IsPublishedOn s) (IsAtPhase s) both v) (sym same) own
                | inr among ↦
                    let one = dead.deadlocked.each u among in
                    record { event = one.event; waits = one.waits; by = one.by; inside = with_dead one.by one.inside; phase = one.phase; impedes = one.impedes; below = one.below }
              ];
        };
      }

  never : ⊥
  never =
      let (lt, e, ended, so) = waiting_is plan s done f at t (ap is_waiting held) in
      elim so [
        | inl (is_dead, same) ↦ (let two : Held ≡ Deadlocked = sym held ∙ same in cc)
        | inr (alive, same) ↦ alive ((dead_by_final plan s t (of_plan_here plan s done f at)).1 would_be_dead)
      ]

pub held_not_by_dead : HeldAreNotImpededByDead
held_not_by_dead plan s done f t i at held there deadlocked = never plan s done f at t held i there deadlocked

pub forkers_to_come : ForkersAreToCome
forkers_to_come plan steps f t u run maximal at yet' step = to_come plan steps run maximal f at t u yet' step

pub chains_end : ChainsEnd
chains_end plan steps f held last run maximal at is = chain_ends plan steps run maximal f at (walk_start f) held last is
