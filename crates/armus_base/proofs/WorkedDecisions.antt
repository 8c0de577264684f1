-- Two decisions on a board that avoids deadlock, worked out: task 1 would be dead, and task 0 leaves nobody dead.
use Rattle.std.proofs.Common.{◌≡◌, ◌≢◌, ℕ, zero, suc, ◌<◌, true, Option, Some, None, List, [], ◌∷◌, arith, sym, ◌∙◌, ap, subst, refl, ◌⊎◌, inl, inr}
use Rattle.std.specs.Prelude.{Contains, IsSome}
use Rattle.armus_base.specs.declared.event.Event.{Event}
use Rattle.armus_base.specs.declared.status.Member.{Member}
use Rattle.armus_base.specs.declared.status.Status.{Status}
use Rattle.armus_base.specs.Plans.{Advances, action_at, actions, maker_of, parent_of}
use Rattle.armus_base.specs.calls.Plans.{here}
use Rattle.armus_base.specs.States.{Step, event_at}
use Rattle.armus_base.specs.Runs.{IsLegalRun, places, state_after}
use Rattle.armus_base.specs.Places.{first_phases, phases_after, published_after, registered_by, state_at}
use Rattle.armus_base.specs.calls.Places.{phases_at_place}
use Rattle.armus_base.specs.Avoidance.{IsAvoidedRun}
use Rattle.armus_base.specs.calls.Boards.{IsLawful, IsLocked}
use Rattle.armus_base.specs.Deadlocks.{IsDeadBy, IsListedAt, IsListedOn, WouldBeDead}
use Rattle.armus_base.specs.calls.Decisions.{Decides, HasAllFound, HasOtherStatuses, HasOwnStatus, StandsBefore}
use Rattle.armus_base.specs.calls.Seats.{FoundIdle, FoundWaiting, HasLockWith, IsAsFarOn, IsScanned, SeenBy, StillAgrees}
use Rattle.armus_base.specs.calls.TwoTasks.{all_turns, before_block, does, first_holds, first_turn, second_holds, two_tasks}
use Rattle.armus_base.specs.calls.WorkedDecisions.{DecidesAlive, DecidesDead, having_found}
use Rattle.armus_base.specs.calls.WorkedTexts.{at, status, two_tasks_end}
use Rattle.armus_base.proofs.Elements.{Contains-cons_cases, nothing_in_nil}
use Rattle.armus_base.proofs.ListDecides.{list_in_hand_decides}
use Rattle.armus_base.proofs.BoardRuns.{nobody_dead_at}
use Rattle.armus_base.proofs.Places.{precedes_itself, prefixes_itself}
use Rattle.armus_base.proofs.PlacesFixState.{places_fix_state}
use Rattle.armus_base.proofs.SerialIsAvoided.{publishing_leaves_nobody_dead, serial_is_avoided}
use Rattle.armus_base.proofs.Steps.{updated_is, updated_other}
use Rattle.armus_base.proofs.TwoTasksAvoided.{second_dead, serial_end, some_is}
use Rattle.armus_base.proofs.TwoTasksChecked.{two_tasks_checked}

abbrev h : List Step
h = does 1 (Advances 1) ∷ first_turn

avoided : IsAvoidedRun two_tasks h
avoided = (serial_is_avoided two_tasks all_turns two_tasks_checked serial_end.0).0.0.0.0

free : (o : Option ℕ) (t : ℕ) → o ≡ None → o ≡ Some t → ⊥
free o t n e = absurd (cc)

first_locked : IsLocked two_tasks first_holds
unfolding parent_of maker_of actions action_at
first_locked = (
  ((((((tt, free None 0 refl), free None 0 refl), free None 0 refl), free None 0 refl), free None 0 refl), free None 0 refl),
  refl,
  (record { forked = refl; unpublished = refl; unrefused = refl }, (here 0, refl)),
)

locked : IsLocked two_tasks second_holds
unfolding parent_of maker_of actions action_at
locked = (
  (((first_locked, refl), refl), free None 1 refl),
  refl,
  (record { forked = refl; unpublished = refl; unrefused = refl }, (here 1, refl)),
)

lawful : IsLawful true two_tasks (places h) (Some 1)
lawful = record { entries = second_holds; run = (avoided, locked); there = λ t. refl; held = refl }

first_lawful : IsLawful true two_tasks (places before_block) (Some 0)
first_lawful = record { entries = first_holds; run = (avoided.0.0, first_locked); there = λ t. refl; held = refl }

legal_of : (g : List Step) → IsAvoidedRun two_tasks g → IsLegalRun two_tasks g
legal_of [] r = tt
legal_of (e ∷ g) r = (legal_of g r.0, r.1)

same : state_after h ≡ state_at two_tasks (places h)
same = places_fix_state two_tasks h two_tasks_checked (legal_of h avoided)

first_same : state_after before_block ≡ state_at two_tasks (places before_block)
first_same = places_fix_state two_tasks before_block two_tasks_checked (legal_of before_block avoided.0.0)

abbrev seen : SeenBy
seen = having_found second_holds 1 0 (FoundWaiting (event_at 0 1))

abbrev first_seen : SeenBy
first_seen = having_found first_holds 0 1 FoundIdle

abbrev list : List Status
list = two_tasks_end.blocked

abbrev member : ℕ → ℕ → Member
member p n = record { p = record { 0 = p }; n = n }

abbrev first : Status
first = record { t = record { 0 = 0 }; event = event_at 0 1; phases = member 0 1 ∷ member 1 0 ∷ [] }

abbrev second : Status
second = record { t = record { 0 = 1 }; event = event_at 1 1; phases = member 0 0 ∷ member 1 1 ∷ [] }

which : (s : Status) → Contains list s → (first ≡ s) ⊎ (second ≡ s)
which s c =
    elim (Contains-cons_cases first (second ∷ []) s c) [
      | inl a ↦ inl a
      | inr r ↦ elim (Contains-cons_cases second [] s r) [ inl a ↦ inr a | inr z ↦ absurd (nothing_in_nil s z) ]
    ]

two_cases : (x y m : Member) → Contains (x ∷ y ∷ []) m → (x ≡ m) ⊎ (y ≡ m)
two_cases x y m c =
    elim (Contains-cons_cases x (y ∷ []) m c) [
      | inl a ↦ inl a
      | inr r ↦ elim (Contains-cons_cases y [] m r) [ inl a ↦ inr a | inr z ↦ absurd (nothing_in_nil m z) ]
    ]

first_on : IsListedOn list 0 (event_at 0 1)
first_on = (first, (0, (omega arith), refl), refl, refl)

second_on : IsListedOn list 1 (event_at 1 1)
second_on = (second, (1, (omega arith), refl), refl, refl)

-- on which events whom the list has
listed_on : (u : ℕ) (e : Event) → IsListedOn list u e → (u ≡ 0 × e ≡ event_at 0 1) ⊎ (u ≡ 1 × e ≡ event_at 1 1)
listed_on u e l =
    elim (which l.0 l.1) [
      | inl i ↦ inl (sym l.2 ∙ ap (λ s. s.t.0) (sym i), sym l.3 ∙ ap (λ s. s.event) (sym i))
      | inr i ↦ inr (sym l.2 ∙ ap (λ s. s.t.0) (sym i), sym l.3 ∙ ap (λ s. s.event) (sym i))
    ]

-- the phase that the list has of a task
abbrev listed : ℕ → ℕ → ℕ → Type 0
listed u p n = (u ≡ 0 × p ≡ 0 × n ≡ 1) ⊎ ((u ≡ 0 × p ≡ 1 × n ≡ 0) ⊎ ((u ≡ 1 × p ≡ 0 × n ≡ 0) ⊎ (u ≡ 1 × p ≡ 1 × n ≡ 1)))

listed_at : (u p n : ℕ) → IsListedAt list u p n → listed u p n
listed_at u p n l =
    elim (which l.0 l.1) [
      | inl i ↦
          let c : Contains first.phases (member p n) = subst (λ s. Contains s.phases (member p n)) (sym i) l.3 in
          let t : u ≡ 0 = sym l.2 ∙ ap (λ s. s.t.0) (sym i) in
          elim (two_cases (member 0 1) (member 1 0) (member p n) c) [
            | inl m ↦ inl (t, ap (λ x. x.p.0) (sym m), ap (λ x. x.n) (sym m))
            | inr m ↦ inr (inl (t, ap (λ x. x.p.0) (sym m), ap (λ x. x.n) (sym m)))
          ]
      | inr i ↦
          let c : Contains second.phases (member p n) = subst (λ s. Contains s.phases (member p n)) (sym i) l.3 in
          let t : u ≡ 1 = sym l.2 ∙ ap (λ s. s.t.0) (sym i) in
          elim (two_cases (member 0 0) (member 1 1) (member p n) c) [
            | inl m ↦ inr (inr (inl (t, ap (λ x. x.p.0) (sym m), ap (λ x. x.n) (sym m))))
            | inr m ↦ inr (inr (inr (t, ap (λ x. x.p.0) (sym m), ap (λ x. x.n) (sym m))))
          ]
    ]

all_found : HasAllFound two_tasks 1 seen list
all_found = record { all = λ u l n. found u l n; listed = λ u e l n is. on u e n is }
  where
    found : (u : ℕ) → u < 2 → u ≢ 1 → IsSome (seen.found u)
    found zero l n = refl
    found (suc zero) l n = absurd (n refl)
    found (suc (suc u)) l n = absurd (omega arith)

    on : (u : ℕ) (e : Event) → u ≢ 1 → seen.found u ≡ Some (FoundWaiting e) → IsListedOn list u e
    on u e n is =
        elim (updated_is (λ (v : ℕ). None) 0 u (Some (FoundWaiting (event_at 0 1))) (Some (FoundWaiting e)) is) [
          | inl first ↦
              subst (λ w. IsListedOn list w e) (sym first.0) (subst (λ f. IsListedOn list 0 f) (let i = first.1 in let j : event_at 0 1 ≡ e = (cc) in j) first_on)
          | inr other ↦ absurd (let none = other.1 in cc)
        ]

has_lock : HasLockWith two_tasks 1 (places h) (Some 1) seen
has_lock = record { holds = refl; agrees = λ u n. subst (λ s. StillAgrees s u (seen.found u)) same (agrees u n) }
  where
    agrees : (u : ℕ) → u ≢ 1 → StillAgrees (state_after h) u (seen.found u)
    agrees zero n = inl refl
    agrees (suc u) n =
        subst (λ o. StillAgrees (state_after h) (suc u) o)
        (sym (updated_other (λ (v : ℕ). None) 0 (suc u) (Some (FoundWaiting (event_at 0 1))) (λ e. absurd (omega arith)))) tt

far : IsAsFarOn two_tasks (Some 1) (places h) seen
unfolding parent_of maker_of actions action_at first_phases phases_after registered_by
far = record {
  later = λ t l. prefixes_itself (places h) t;
  equal = λ t l is. refl;
  scanned = λ t is. subst (λ u. IsScanned (state_at two_tasks (places h)) 0 (published_after two_tasks u (places h u).done)) (some_is 1 t is) tt;
}

stands : StandsBefore two_tasks (state_at two_tasks (places h)) (places h) 1 (here 1) (event_at 1 1)
unfolding actions action_at
stands = subst (λ s. StandsBefore two_tasks s (places h) 1 (here 1) (event_at 1 1)) same active
  where
    active : StandsBefore two_tasks (state_after h) (places h) 1 (here 1) (event_at 1 1)
    active = record { active = record { forked = refl; unpublished = refl; unrefused = refl }; next = refl; awaits = refl }

own_phases_are : (p n : ℕ) → listed 1 p n → (state_after h).phases 1 p ≡ Some n
own_phases_are p n l =
    elim l [
      | inl a ↦ absurd (let i = a.0 in omega arith)
      | inr b ↦ elim b [
        | inl a ↦ absurd (let i = a.0 in omega arith)
        | inr c ↦ elim c [
          | inl a ↦ subst (λ q. (state_after h).phases 1 q ≡ Some n) (sym a.1) (ap Some (sym a.2))
          | inr a ↦ subst (λ q. (state_after h).phases 1 q ≡ Some n) (sym a.1) (ap Some (sym a.2))
        ]
      ]
    ]

-- the phases of the second task, on the awaited phasers, are listed
second_all : (p n : ℕ) → (p ≡ 0) ⊎ (p ≡ 1) → (state_after h).phases 1 p ≡ Some n → IsListedAt list 1 p n
second_all p n which is =
    elim which [
      | inl z ↦
          let at : (state_after h).phases 1 0 ≡ Some n = subst (λ q. (state_after h).phases 1 q ≡ Some n) z is in
          let m : 0 ≡ n = (let e : Some 0 ≡ Some n = at in cc) in
          subst (λ q. IsListedAt list 1 q n) (sym z) (subst (λ k. IsListedAt list 1 0 k) m (second, (1, (omega arith), refl), refl, (0, (omega arith), refl)))
      | inr o ↦
          let at : (state_after h).phases 1 1 ≡ Some n = subst (λ q. (state_after h).phases 1 q ≡ Some n) o is in
          let m : 1 ≡ n = (let e : Some 1 ≡ Some n = at in cc) in
          subst (λ q. IsListedAt list 1 q n) (sym o) (subst (λ k. IsListedAt list 1 1 k) m (second, (1, (omega arith), refl), refl, (1, (omega arith), refl)))
    ]

first_all : (p n : ℕ) → (p ≡ 0) ⊎ (p ≡ 1) → (state_after h).phases 0 p ≡ Some n → IsListedAt list 0 p n
first_all p n which is =
    elim which [
      | inl z ↦
          let at : (state_after h).phases 0 0 ≡ Some n = subst (λ q. (state_after h).phases 0 q ≡ Some n) z is in
          let m : 1 ≡ n = (let e : Some 1 ≡ Some n = at in cc) in
          subst (λ q. IsListedAt list 0 q n) (sym z) (subst (λ k. IsListedAt list 0 0 k) m (first, (0, (omega arith), refl), refl, (0, (omega arith), refl)))
      | inr o ↦
          let at : (state_after h).phases 0 1 ≡ Some n = subst (λ q. (state_after h).phases 0 q ≡ Some n) o is in
          let m : 0 ≡ n = (let e : Some 0 ≡ Some n = at in cc) in
          subst (λ q. IsListedAt list 0 q n) (sym o) (subst (λ k. IsListedAt list 0 1 k) m (first, (0, (omega arith), refl), refl, (1, (omega arith), refl)))
    ]

awaited_phaser : (u : ℕ) (e : Event) → IsListedOn list u e → (e.p.0 ≡ 0) ⊎ (e.p.0 ≡ 1)
awaited_phaser u e l = elim (listed_on u e l) [ inl a ↦ inl (ap (λ x. x.p.0) a.1) | inr a ↦ inr (ap (λ x. x.p.0) a.1) ]

own_status : HasOwnStatus (state_at two_tasks (places h)) 1 (event_at 1 1) list
own_status =
    record {
      listed = second_on;
      only = λ e l. elim (listed_on 1 e l) [ inl a ↦ absurd (let i = a.0 in omega arith) | inr a ↦ a.1 ];
      phases = λ p n l. subst (λ s. s.phases 1 p ≡ Some n) same (own_phases_are p n (listed_at 1 p n l));
      all = λ u n e l is. second_all e.p.0 n (awaited_phaser u e l) (subst (λ s. s.phases 1 e.p.0 ≡ Some n) (sym same) is);
    }

other_is_first : (u p n : ℕ) → u ≢ 1 → listed u p n → u ≡ 0 × ((p ≡ 0 × n ≡ 1) ⊎ (p ≡ 1 × n ≡ 0))
other_is_first u p n ne l =
    elim l [
      | inl a ↦ (a.0, inl (a.1, a.2))
      | inr b ↦ elim b [
        | inl a ↦ (a.0, inr (a.1, a.2))
        | inr c ↦ elim c [ inl a ↦ absurd (ne a.0) | inr a ↦ absurd (ne a.0) ]
      ]
    ]

there : (p n : ℕ) → (p ≡ 0 × n ≡ 1) ⊎ (p ≡ 1 × n ≡ 0) → phases_at_place two_tasks 0 (places h 0) p ≡ Some n
unfolding parent_of maker_of actions action_at first_phases phases_after registered_by
there p n w =
    elim w [
      | inl a ↦ subst (λ q. phases_at_place two_tasks 0 (places h 0) q ≡ Some n) (sym a.0) (ap Some (sym a.1))
      | inr a ↦ subst (λ q. phases_at_place two_tasks 0 (places h 0) q ≡ Some n) (sym a.0) (ap Some (sym a.1))
    ]

others : HasOtherStatuses two_tasks (state_at two_tasks (places h)) (places h) 1 list
unfolding parent_of maker_of actions action_at first_phases phases_after registered_by
others =
    record {
      at = places h;
      found = λ u p. places h u;
      found_there =
          record {
            waiting = λ u e ne l. waits u e ne l;
            before = λ u e ne l. precedes_itself (places h u).done (places h u).dropped;
            phases = λ u p n ne l. (precedes_itself (places h u).done (places h u).dropped, at u p n ne l);
            phases_before = λ u p n ne l. precedes_itself (places h u).done (places h u).dropped;
          };
      all = λ u v n e f ne l now lv is. rest u v n e f ne l lv is;
    }
  where
    waits : (u : ℕ) (e : Event) → u ≢ 1 → IsListedOn list u e → published_after two_tasks u (places h u).done ≡ Some e
    waits u e ne l =
        elim (listed_on u e l) [
          | inl a ↦
              subst (λ v. published_after two_tasks v (places h v).done ≡ Some e) (sym a.0) (ap Some (sym a.1))
          | inr a ↦ absurd (ne a.0)
        ]

    at : (u p n : ℕ) → u ≢ 1 → IsListedAt list u p n → phases_at_place two_tasks u (places h u) p ≡ Some n
    at u p n ne l =
        let o = other_is_first u p n ne (listed_at u p n l) in
        subst (λ v. phases_at_place two_tasks v (places h v) p ≡ Some n) (sym o.0) (there p n o.1)

    rest :
        (u v n : ℕ) (e f : Event) → u ≢ 1 → IsListedOn list u f → IsListedOn list v e →
        (state_at two_tasks (places h)).phases u e.p.0 ≡ Some n → IsListedAt list u e.p.0 n
    rest u v n e f ne l lv is =
        elim (listed_on u f l) [
          | inl a ↦
              subst (λ w. IsListedAt list w e.p.0 n) (sym a.0)
              (first_all e.p.0 n (awaited_phaser v e lv)
              (subst (λ w. (state_after h).phases w e.p.0 ≡ Some n) a.0 (subst (λ s. s.phases u e.p.0 ≡ Some n) (sym same) is)))
          | inr a ↦ absurd (ne a.0)
        ]

decided : Decides (state_at two_tasks (places h)) 1 (event_at 1 1) list
decided =
    list_in_hand_decides two_tasks 1 (here 1) (event_at 1 1) seen list (places h) (Some 1) two_tasks_checked all_found lawful has_lock stands own_status others

second_would_be : WouldBeDead (state_at two_tasks (places h)) 1 (event_at 1 1)
second_would_be = subst (λ s. WouldBeDead s 1 (event_at 1 1)) same second_dead

pub decides_dead : DecidesDead
decides_dead =
    record {
      ready = record {
        lawful = lawful;
        with_lock = has_lock;
        far = far;
        finds = all_found;
        in_hand = record { stands = stands; own = own_status; others = others };
      };
      by_list = decided.misses_none second_would_be;
      would_be = second_would_be;
    }

-- the status of task 0 alone
abbrev alone : Status
alone = status 0 0 1 (at 0 1 ∷ [])

alone_on : (u : ℕ) (e : Event) → IsListedOn (alone ∷ []) u e → u ≡ 0 × e ≡ event_at 0 1
alone_on u e l =
    elim (Contains-cons_cases alone [] l.0 l.1) [
      | inl i ↦ (sym l.2 ∙ ap (λ s. s.t.0) (sym i), sym l.3 ∙ ap (λ s. s.event) (sym i))
      | inr z ↦ absurd (nothing_in_nil l.0 z)
    ]

alone_at : (u p n : ℕ) → IsListedAt (alone ∷ []) u p n → u ≡ 0 × p ≡ 0 × n ≡ 1
alone_at u p n l =
    elim (Contains-cons_cases alone [] l.0 l.1) [
      | inl i ↦
          let c : Contains alone.phases (member p n) = subst (λ s. Contains s.phases (member p n)) (sym i) l.3 in
          elim (Contains-cons_cases (member 0 1) [] (member p n) c) [
            | inl m ↦ (sym l.2 ∙ ap (λ s. s.t.0) (sym i), ap (λ x. x.p.0) (sym m), ap (λ x. x.n) (sym m))
            | inr z ↦ absurd (nothing_in_nil (member p n) z)
          ]
      | inr z ↦ absurd (nothing_in_nil l.0 z)
    ]

first_alive : IsDeadBy (alone ∷ []) 0 → ⊥
first_alive dead =
    let one = dead.deadlocked.each 0 dead.inside in
    let event = (alone_on 0 one.event one.waits).1 in
    let phase = (alone_at one.by one.event.p.0 one.phase one.impedes).2 in
    let same : one.event.n ≡ 1 = ap (λ e. e.n) event in
    let below = one.below in
    omega arith

first_finds : HasAllFound two_tasks 0 first_seen (alone ∷ [])
first_finds = record { all = λ u l n. found u l n; listed = λ u e l n is. on u e is }
  where
    found : (u : ℕ) → u < 2 → u ≢ 0 → IsSome (first_seen.found u)
    found zero l n = absurd (n refl)
    found (suc zero) l n = refl
    found (suc (suc u)) l n = absurd (omega arith)

    on : (u : ℕ) (e : Event) → first_seen.found u ≡ Some (FoundWaiting e) → IsListedOn (alone ∷ []) u e
    on u e is =
        elim (updated_is (λ (v : ℕ). None) 1 u (Some FoundIdle) (Some (FoundWaiting e)) is) [
          | inl first ↦ absurd (let idle = first.1 in cc)
          | inr other ↦ absurd (let none = other.1 in cc)
        ]

first_has_lock : HasLockWith two_tasks 0 (places before_block) (Some 0) first_seen
first_has_lock = record { holds = refl; agrees = λ u n. subst (λ s. StillAgrees s u (first_seen.found u)) first_same (agrees u n) }
  where
    agrees : (u : ℕ) → u ≢ 0 → StillAgrees (state_after before_block) u (first_seen.found u)
    agrees zero n = absurd (n refl)
    agrees (suc zero) n = (refl, refl)
    agrees (suc (suc u)) n =
        subst (λ o. StillAgrees (state_after before_block) (suc (suc u)) o)
        (sym (updated_other (λ (v : ℕ). None) 1 (suc (suc u)) (Some FoundIdle) (λ e. absurd (omega arith)))) tt

first_far : IsAsFarOn two_tasks (Some 0) (places before_block) first_seen
unfolding parent_of maker_of actions action_at first_phases phases_after registered_by
first_far = record {
  later = λ t l. prefixes_itself (places before_block) t;
  equal = λ t l is. refl;
  scanned = λ t is.
      subst (λ u. IsScanned (state_at two_tasks (places before_block)) 0 (published_after two_tasks u (places before_block u).done)) (some_is 0 t is) tt;
}

first_stands : StandsBefore two_tasks (state_at two_tasks (places before_block)) (places before_block) 0 (here 0) (event_at 0 1)
unfolding actions action_at
first_stands = subst (λ s. StandsBefore two_tasks s (places before_block) 0 (here 0) (event_at 0 1)) first_same active
  where
    active : StandsBefore two_tasks (state_after before_block) (places before_block) 0 (here 0) (event_at 0 1)
    active = record { active = record { forked = refl; unpublished = refl; unrefused = refl }; next = refl; awaits = refl }

first_own : HasOwnStatus (state_at two_tasks (places before_block)) 0 (event_at 0 1) (alone ∷ [])
first_own =
    record {
      listed = (alone, (0, (omega arith), refl), refl, refl);
      only = λ e l. (alone_on 0 e l).1;
      phases = λ p n l. subst (λ s. s.phases 0 p ≡ Some n) first_same (let at = alone_at 0 p n l in at_phaser p n at.1 at.2);
      all = λ u n e l is. listed_phase n e (alone_on u e l).1 (subst (λ s. s.phases 0 e.p.0 ≡ Some n) (sym first_same) is);
    }
  where
    at_phaser : (p n : ℕ) → p ≡ 0 → n ≡ 1 → (state_after before_block).phases 0 p ≡ Some n
    at_phaser p n phaser phase = subst (λ q. (state_after before_block).phases 0 q ≡ Some n) (sym phaser) (ap Some (sym phase))

    listed_phase : (n : ℕ) (e : Event) → e ≡ event_at 0 1 → (state_after before_block).phases 0 e.p.0 ≡ Some n → IsListedAt (alone ∷ []) 0 e.p.0 n
    listed_phase n e is phase =
        let phaser : e.p.0 ≡ 0 = ap (λ d. d.p.0) is in
        let there : (state_after before_block).phases 0 0 ≡ Some n = subst (λ q. (state_after before_block).phases 0 q ≡ Some n) phaser phase in
        subst (λ q. IsListedAt (alone ∷ []) 0 q n) (sym phaser)
        (subst (λ k. IsListedAt (alone ∷ []) 0 0 k) (some_is 1 n there) (alone, (0, (omega arith), refl), refl, (0, (omega arith), refl)))

first_others : HasOtherStatuses two_tasks (state_at two_tasks (places before_block)) (places before_block) 0 (alone ∷ [])
first_others =
    record {
      at = places before_block;
      found = λ u p. places before_block u;
      found_there = record {
        waiting = λ u e ne l. absurd (ne (alone_on u e l).0);
        before = λ u e ne l. absurd (ne (alone_on u e l).0);
        phases = λ u p n ne l. absurd (ne (alone_at u p n l).0);
        phases_before = λ u p n ne l. absurd (ne (alone_at u p n l).0);
      };
      all = λ u v n e f ne l now lv is. absurd (ne (alone_on u f l).0);
    }

first_decided : Decides (state_at two_tasks (places before_block)) 0 (event_at 0 1) (alone ∷ [])
first_decided =
    list_in_hand_decides two_tasks 0 (here 0) (event_at 0 1) first_seen (alone ∷ []) (places before_block) (Some 0) two_tasks_checked first_finds first_lawful
    first_has_lock first_stands first_own first_others

pub decides_alive : DecidesAlive
decides_alive =
    record {
      ready = record {
        lawful = first_lawful;
        with_lock = first_has_lock;
        far = first_far;
        finds = first_finds;
        in_hand = record { stands = first_stands; own = first_own; others = first_others };
      };
      by_list = first_alive;
      nobody =
          publishing_leaves_nobody_dead (state_at two_tasks (places before_block)) 0 (event_at 0 1)
          (nobody_dead_at two_tasks (places before_block) (Some 0) two_tasks_checked first_lawful) (λ would. first_alive (first_decided.misses_none would));
    }
