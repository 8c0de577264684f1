-- The state behind the ends of tasks that do not wait.
use Rattle.std.proofs.Common.{◌≡◌, ℕ, suc, ◌+◌, ◌<◌, ◌≤◌, Bool, true, false, ◌&&◌, ◌||◌, not, Some, None, Option, List, [], ◌∷◌, ◌++◌, length, refl, sym, ◌∙◌, ap, subst, ◌⊎◌, inl, inr, arith}
use Rattle.std.specs.Prelude.{Contains, ◌==◌, bytes_eq, filter, map, nat_le}
use Rattle.std.specs.List.{list_any}
use Rattle.std.specs.Map.{lookup}
use Rattle.std.proofs.lemmas.Bool.{cases_Bool, cases_eq, and_from, cond-true, cond-false, eq-eqb, eqb-true, ne_eqb, or_left, lt-leb}
use Rattle.std.proofs.lemmas.Slice.Eq.{bytes_eq-Decides}
use Rattle.armus_base.specs.declared.event.Event.{Event}
use Rattle.armus_base.specs.States.{State}
use Rattle.monitor_laws.specs.Lines.{Ends, Announces}
use Rattle.monitor_laws.specs.States.{Condition, Running, Ended, Participant, TraceState, after_line, announced_by, is_live_task, is_live_wildcard, is_there_as, new_participant, stays_listed, with_named}
use Rattle.monitor_laws.specs.Faults.{NamesWildcard, StillWaits, TooManyListed, TooManyMemberships, fault_where, faults_of, has_no_room, is_wildcard_in, memberships_in, most_listed, most_memberships, participant_in, phase_on, waits_now}
use Rattle.monitor_laws.proofs.Changes.{changed_there, from_change, from_named, in_change, in_named, other_is, there_is}
use Rattle.monitor_laws.proofs.Filters.{any_is, any_from}
use Rattle.monitor_laws.proofs.Lawful.{IsLawfulState}
use Rattle.monitor_laws.proofs.Phases.{below_from}
use Rattle.monitor_laws.proofs.Rows.{member_stays, name_is}
use Rattle.monitor_runs.specs.RunTraces.{Naming, TellsNumber, condition_by}
use Rattle.monitor_runs.proofs.Faultless.{all_empty, and_false, none_where}
use Rattle.monitor_runs.proofs.Named.{listed_or_new}

-- the list has the task
abbrev pub is_among : List ℕ → ℕ → Bool
is_among done t = list_any (λ k. k == t) done

-- in which condition a task is that has ended or not
abbrev pub condition_with : Naming → Bool → Option Event → Condition
condition_with phaser true o = Ended
condition_with phaser false o = condition_by phaser o

-- all that are listed are tasks, with the phases and the waits of the state, but that these have ended; members and those who wait are listed
pub record IsEndedState (task phaser : Naming) (g : TraceState) (s : State) (done : List ℕ) : Type 0 where
  pub names : (u : Participant) → Contains g.list u → (t : ℕ) × (u.name ≡ task t)
  pub phases : (u : Participant) → Contains g.list u → (t p : ℕ) → u.name ≡ task t → phase_on u (phaser p) ≡ s.phases t p
  pub conditions : (u : Participant) → Contains g.list u → (t : ℕ) → u.name ≡ task t → u.condition ≡ condition_with phaser (is_among done t) (s.published t)
  pub member : (t p m : ℕ) → s.phases t p ≡ Some m → (u : Participant) × Contains g.list u × (u.name ≡ task t)
  pub waiting : (t : ℕ) (e : Event) → s.published t ≡ Some e → (u : Participant) × Contains g.list u × (u.name ≡ task t)
  pub few : length g.list < most_listed

pub not_among : (done : List ℕ) (t : ℕ) → (Contains done t → ⊥) → is_among done t ≡ false
not_among done t out = elim (cases_Bool (is_among done t)) [
  | inr off ↦ off
  | inl on ↦ absurd (let k = any_is (λ x. x == t) done on in out (subst (Contains done) (eqb-true k.0 t k.2) k.1))
]

pub among : (done : List ℕ) (t : ℕ) → Contains done t → is_among done t ≡ true
among done t within = any_from (λ x. x == t) done t within (eq-eqb t t refl)

pub from_among : (done : List ℕ) (t : ℕ) → is_among done t ≡ true → Contains done t
from_among done t on = let k = any_is (λ x. x == t) done on in subst (Contains done) (eqb-true k.0 t k.2) k.1

no_wildcard_so : (phaser : Naming) (b : Bool) (o : Option Event) → is_live_wildcard (condition_with phaser b o) ≡ false
no_wildcard_so phaser true o = refl
no_wildcard_so phaser false None = refl
no_wildcard_so phaser false (Some e) = refl

no_wait_so : (phaser : Naming) (b : Bool) → waits_now (condition_with phaser b None) ≡ false
no_wait_so phaser true = refl
no_wait_so phaser false = refl

-- what is left of a list is not longer
filter_most : {A : Type 0} (p : A → Bool) (x : A) (xs : List A) (k : ℕ) → length (filter p xs) ≤ k → length (filter p (x ∷ xs)) ≤ suc k
filter_most p x xs k few = elim (cases_Bool (p x)) [
  | inl on ↦ (let e = ap length (cond-true (p x) (x ∷ filter p xs) (filter p xs) on) in omega arith)
  | inr off ↦ (let e = ap length (cond-false (p x) (x ∷ filter p xs) (filter p xs) off) in omega arith)
]

left_of : (change : Participant → Participant) (us : List Participant) → length (filter stays_listed (map change us)) ≤ length us
left_of change [] = omega arith
left_of change (u ∷ us) = filter_most stays_listed (change u) (map change us) (length us) (left_of change us)

left_without : (change : Participant → Participant) (x : Participant) → stays_listed (change x) ≡ false → (us : List Participant) → length (filter stays_listed (map change (us ++ x ∷ []))) ≤ length us
left_without change x gone [] = let e = ap length (cond-false (stays_listed (change x)) (change x ∷ []) [] gone) in omega arith
left_without change x gone (u ∷ us) = filter_most stays_listed (change u) (map change (us ++ x ∷ [])) (length us) (left_without change x gone us)

module _ (task phaser : Naming) (tells : TellsNumber task) (g : TraceState) (s : State) (done : List ℕ) (lawful : IsLawfulState g) (all : IsEndedState task phaser g s done) (t : ℕ) (out : Contains done t → ⊥) (idle : s.published t ≡ None) where
  abbrev after : TraceState
  after = after_line g (Announces (task t) Ends None)

  -- a task of one name is one
  one_task : (x y : ℕ) → task x ≡ task y → x ≡ y
  one_task x y same = sym (tells.1 x) ∙ ap tells.0 same ∙ tells.1 y

  new_gone : (k : ℕ) (name : List ℕ) → stays_listed (announced_by Ends (new_participant k name)) ≡ false
  new_gone k name = refl

  new_there : is_there_as (task t) (new_participant g.named (task t)) ≡ true
  new_there = (bytes_eq-Decides (task t) (task t)).1 refl

  -- somebody of the list has ended by the line, or stands there as before
  comes : (v : Participant) → Contains after.list v → ((u : Participant) × Contains g.list u × (is_there_as (task t) u ≡ true) × (announced_by Ends u ≡ v)) ⊎ (Contains g.list v × (is_there_as (task t) v ≡ false))
  comes v within =
      let m = from_change (changed_there (task t) (announced_by Ends)) (with_named g (task t)) v within in
      elim (cases_Bool (is_there_as (task t) m.0)) [
        | inl there ↦ (let is : announced_by Ends m.0 ≡ v = sym (there_is (task t) (announced_by Ends) m.0 there) ∙ m.2 in
            elim (from_named g (task t) m.0 m.1) [
              | inl old ↦ inl (m.0, old, there, is)
              | inr new ↦ absurd (let e : false ≡ true = sym (new_gone g.named (task t)) ∙ ap (λ x. stays_listed (announced_by Ends x)) (sym new.1) ∙ ap stays_listed is ∙ m.3 in cc)
            ])
        | inr other ↦ (let is : m.0 ≡ v = sym (other_is (task t) (announced_by Ends) m.0 other) ∙ m.2 in
            elim (from_named g (task t) m.0 m.1) [
              | inl old ↦ inr (subst (Contains g.list) is old, ap (is_there_as (task t)) (sym is) ∙ other)
              | inr new ↦ absurd (let e : true ≡ false = sym new_there ∙ ap (is_there_as (task t)) (sym new.1) ∙ other in cc)
            ])
      ]

  -- an end keeps the phases of a task
  phases_kept : (u : Participant) → Contains g.list u → (p : List ℕ) → phase_on (announced_by Ends u) p ≡ phase_on u p
  phases_kept u within p =
      let x = all.names u within in
      let no : is_live_wildcard u.condition ≡ false = ap is_live_wildcard (all.conditions u within x.0 x.1) ∙ no_wildcard_so phaser (is_among done x.0) (s.published x.0) in
      ap (lookup (bytes_eq p)) (cond-false (is_live_wildcard u.condition) [] u.phases no)

  keeps : (u : Participant) → Contains g.list u → stays_listed (changed_there (task t) (announced_by Ends) u) ≡ true → Contains after.list (changed_there (task t) (announced_by Ends) u)
  keeps u within stays = in_change (changed_there (task t) (announced_by Ends)) (with_named g (task t)) u (in_named g (task t) u within) stays

  -- who is not there with the name stands there as before
  keeps_other : (u : Participant) → Contains g.list u → is_there_as (task t) u ≡ false → Contains after.list u
  keeps_other u within other =
      let is = other_is (task t) (announced_by Ends) u other in
      subst (Contains after.list) is (keeps u within (ap stays_listed is ∙ lawful.stays u within))

  -- whoever has the name of a task that has not ended is there with it
  is_there : (v : Participant) → Contains g.list v → v.name ≡ task t → is_there_as (task t) v ≡ true
  is_there v within is =
      let runs : v.condition ≡ Running = all.conditions v within t is ∙ ap (λ b. condition_with phaser b (s.published t)) (not_among done t out) ∙ ap (condition_by phaser) idle in
      and_from (is_live_task v.condition || is_live_wildcard v.condition) (bytes_eq (task t) v.name) (ap (λ c. is_live_task c || is_live_wildcard c) runs) ((bytes_eq-Decides (task t) v.name).1 (sym is))

  pub faultless : faults_of g (Announces (task t) Ends None) ≡ []
  faultless =
      all_empty (fault_where (is_wildcard_in g (task t) && (false || false)) (NamesWildcard (task t)))
      (fault_where (waits_now (participant_in g (task t)).condition && true) (StillWaits (task t)))
      []
      (fault_where (has_no_room g (task t)) TooManyListed)
      (fault_where (false && nat_le most_memberships (memberships_in g)) TooManyMemberships)
      (none_where (is_wildcard_in g (task t) && (false || false)) (NamesWildcard (task t)) (and_false (is_wildcard_in g (task t)) (false || false) refl))
      (none_where (waits_now (participant_in g (task t)).condition && true) (StillWaits (task t)) (ap (λ b. b && true) no_wait))
      refl
      (none_where (has_no_room g (task t)) TooManyListed (and_false (not (list_any (is_there_as (task t)) g.list)) (nat_le most_listed (length g.list)) (lt-leb most_listed (length g.list) all.few)))
      refl
    where
      no_wait : waits_now (participant_in g (task t)).condition ≡ false
      no_wait = elim (listed_or_new g lawful (task t)) [
        | inl is ↦
            ap waits_now (all.conditions (participant_in g (task t)) is.listed t (sym (name_is (task t) (participant_in g (task t)) is.there)) ∙ ap (condition_with phaser (is_among done t)) idle)
            ∙ no_wait_so phaser (is_among done t)
        | inr new ↦ ap (λ (x : Participant). waits_now x.condition) new.1
      ]

  few_after : length after.list ≤ length g.list
  few_after = by_test (cases_Bool (list_any (is_there_as (task t)) g.list))
    where
      more : TraceState
      more = record { list = g.list ++ new_participant g.named (task t) ∷ []; named = g.named + 1 }

      left : TraceState → ℕ
      left x = length (filter stays_listed (map (changed_there (task t) (announced_by Ends)) x.list))

      by_test : (list_any (is_there_as (task t)) g.list ≡ true) ⊎ (list_any (is_there_as (task t)) g.list ≡ false) → length after.list ≤ length g.list
      by_test (inl there) =
          subst (λ k. k ≤ length g.list) (ap left (sym (cond-true (list_any (is_there_as (task t)) g.list) g more there)))
          (left_of (changed_there (task t) (announced_by Ends)) g.list)
      by_test (inr none) =
          subst (λ k. k ≤ length g.list) (ap left (sym (cond-false (list_any (is_there_as (task t)) g.list) g more none)))
          (left_without (changed_there (task t) (announced_by Ends)) (new_participant g.named (task t))
          (ap stays_listed (there_is (task t) (announced_by Ends) (new_participant g.named (task t)) new_there) ∙ new_gone g.named (task t)) g.list)

  conditions_after : (v : Participant) → Contains after.list v → (x : ℕ) → v.name ≡ task x → v.condition ≡ condition_with phaser (is_among (t ∷ done) x) (s.published x)
  conditions_after v within x is = elim (comes v within) [
    | inl own ↦ (let same : t ≡ x = one_task t x (name_is (task t) own.0 own.2 ∙ ap (λ (y : Participant). y.name) own.3 ∙ is) in
        ap (λ (y : Participant). y.condition) (sym own.3)
        ∙ ap (λ b. condition_with phaser b (s.published x)) (sym (or_left (t == x) (is_among done x) (eq-eqb t x same))))
    | inr old ↦ elim (cases_eq t x) [
      | inl same ↦ absurd (let there = is_there v old.0 (is ∙ ap task (sym same)) in let e : true ≡ false = sym there ∙ old.1 in cc)
      | inr apart ↦ all.conditions v old.0 x is ∙ ap (λ b. condition_with phaser (b || is_among done x) (s.published x)) (sym (ne_eqb t x apart))
    ]
  ]

  member_after : (x p m : ℕ) → s.phases x p ≡ Some m → (u : Participant) × Contains after.list u × (u.name ≡ task x)
  member_after x p m at =
      let u = all.member x p m at in
      elim (cases_Bool (is_there_as (task t) u.0)) [
        | inl there ↦ (
          announced_by Ends u.0,
          (let is = there_is (task t) (announced_by Ends) u.0 there in
              subst (Contains after.list) is (keeps u.0 u.1 (ap stays_listed is
              ∙ member_stays (announced_by Ends u.0) (phaser p) (suc m) (below_from (phase_on (announced_by Ends u.0) (phaser p)) m (suc m) (phases_kept u.0 u.1 (phaser p) ∙ all.phases u.0 u.1 x p u.2 ∙ at) (omega arith))))),
          u.2,
        )
        | inr other ↦ (u.0, keeps_other u.0 u.1 other, u.2)
      ]

  waiting_after : (x : ℕ) (e : Event) → s.published x ≡ Some e → (u : Participant) × Contains after.list u × (u.name ≡ task x)
  waiting_after x e at =
      let u = all.waiting x e at in
      elim (cases_Bool (is_there_as (task t) u.0)) [
        | inl there ↦ absurd (let same = one_task t x (name_is (task t) u.0 there ∙ u.2) in let o = sym idle ∙ ap s.published same ∙ at in cc)
        | inr other ↦ (u.0, keeps_other u.0 u.1 other, u.2)
      ]

  pub ended_after : IsEndedState task phaser after s (t ∷ done)
  ended_after = record {
    names = λ v within. elim (comes v within) [
      | inl own ↦ (let x = all.names own.0 own.1 in (x.0, ap (λ (y : Participant). y.name) (sym own.3) ∙ x.1))
      | inr old ↦ all.names v old.0
    ];
    phases = λ v within x p is. elim (comes v within) [
      | inl own ↦ ap (λ y. phase_on y (phaser p)) (sym own.3) ∙ phases_kept own.0 own.1 (phaser p) ∙ all.phases own.0 own.1 x p (ap (λ (y : Participant). y.name) own.3 ∙ is)
      | inr old ↦ all.phases v old.0 x p is
    ];
    conditions = conditions_after;
    member = member_after;
    waiting = waiting_after;
    few = let a = few_after in let b = all.few in omega arith;
  }
