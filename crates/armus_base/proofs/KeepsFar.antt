-- Lawful places stay as far on as what is seen after a load, and after a try for the lock that finds it held.
use Rattle.std.proofs.Common.{◌≡◌, ◌≢◌, ℕ, zero, suc, ◌<◌, ◌≤◌, Bool, true, false, Option, Some, None, length, arith, sym, ◌∙◌, ap, subst, refl, ◌⊎◌, inl, inr}
use Rattle.std.specs.Prelude.{◌==◌, ◌&&◌, if◌then◌else◌}
use Rattle.std.proofs.lemmas.Bool.{cases_eq, cases_lt, eqb-true, false≢true, lt-ltb}
use Rattle.armus_base.specs.declared.event.Event.{Event}
use Rattle.armus_base.specs.Plans.{Blocks, Plan}
use Rattle.armus_base.specs.calls.States.{IsReachedBelow}
use Rattle.armus_base.specs.States.{State}
use Rattle.armus_base.specs.calls.Runs.{IsPrefix, Precedes}
use Rattle.armus_base.specs.Runs.{Place, first_place}
use Rattle.armus_base.specs.calls.Places.{IsConsistent, phases_at_place}
use Rattle.armus_base.specs.Places.{done_by, forked_at, kept, published_after, state_at}
use Rattle.armus_base.specs.CheckedPlans.{IsCheckedPlan}
use Rattle.armus_base.specs.calls.Boards.{IsLawful}
use Rattle.armus_base.specs.calls.Seats.{ChangesPlace, IsAsFarOn, IsExactOf, IsLongestPrefix, IsScanned, MayHold, SeenBy, await_word, has_blocked, has_refused, is_not_behind, own_event, scanned_after, stands_before}
use Rattle.armus_base.specs.calls.PlaceLaws.{HolderIsTask}
use Rattle.armus_base.specs.calls.SeatLaws.{AwaitLoadKeepsFar, BusyKeepsFar, PhaseLoadKeepsFar}
use Rattle.armus_base.proofs.BoardRuns.{lawful_is_reachable}
use Rattle.armus_base.proofs.Fixed.{phases_forked}
use Rattle.armus_base.proofs.HolderMayHold.{holder_may_hold}
use Rattle.armus_base.proofs.LawfulPlaces.{lawful_places_are_of}
use Rattle.armus_base.proofs.Published.{published_after_is}
use Rattle.armus_base.proofs.Reachable.{reachable_is_fixed}
use Rattle.armus_base.proofs.Tasks.{action_of_task}

-- two places that are prefixes of one another are one
precedes_both :
    (k j : ℕ) (o r : Option ℕ) → Precedes k o j r → Precedes j r k o → k ≡ j × o ≡ r
precedes_both k j None None x y = (omega arith, refl)
precedes_both k j None (Some q) x y = absurd y
precedes_both k j (Some p) None x y = absurd x
precedes_both k j (Some p) (Some q) x y = (x.0, ap Some (let l = x.1 in let m = y.1 in let same : p ≡ q = omega arith in same))

pub prefixes_both : (a b : Place) → IsPrefix a b → IsPrefix b a → a ≡ b
prefixes_both a b x y =
    let both = precedes_both a.done b.done a.dropped b.dropped x y in
    ap (λ k. make k a.dropped) both.0 ∙ ap (λ o. make b.done o) both.1
  where
    make : ℕ → Option ℕ → Place
    make k o = record { done = k; dropped = o }

-- a longest prefix is the only one
pub one_longest_prefix :
    (avoids : Bool) (plan : Plan) (t : ℕ) (Means : Place → Type 0) (before b c : Place) → IsLongestPrefix avoids plan t Means before b →
    IsLongestPrefix avoids plan t Means before c → b ≡ c
one_longest_prefix avoids plan t Means before b c at_b at_c =
    prefixes_both b c (at_c.longest b at_b.place at_b.below) (at_b.longest c at_c.place at_c.below)

-- the place seen of one task becomes the longest with a meaning that its place in the lawful state has
module _ (avoids : Bool) (plan : Plan) (own : Option ℕ) (a : ℕ → Place) (lock : Option ℕ) (t : ℕ) (Means : Place → Type 0) (before now : SeenBy)
    (checked : IsCheckedPlan plan) (lawful : IsLawful avoids plan a lock) (within : t < length plan.parents) (exact : IsExactOf plan own before)
    (far : IsAsFarOn plan own a before) (change : ChangesPlace t (IsLongestPrefix avoids plan t Means) before now) (means : Means (a t)) where
  near : IsPrefix (now.places t) (a t)
  near = change.here.below (a t) (lawful_places_are_of avoids plan a lock t checked lawful) (far.later t within) means

  -- the place of an exact task is seen already
  exact_stays : before.exact t ≡ true → now.places t ≡ a t
  exact_stays is =
      let same = far.equal t within is in
      prefixes_both (now.places t) (a t) near
      (change.here.longest (a t) (lawful_places_are_of avoids plan a lock t checked lawful)
      (λ b place earlier means. subst (λ v. IsPrefix v b) (sym same) earlier))

  pub own_stays : (u : ℕ) → own ≡ Some u → now.places u ≡ before.places u
  own_stays u is =
      elim (cases_eq u t) [
        | inl same ↦
            let known : before.exact t ≡ true = subst (λ v. before.exact v ≡ true) same (exact u is).1 in
            ap now.places same ∙ exact_stays known ∙ far.equal t within known ∙ ap before.places (sym same)
        | inr other ↦ change.others u other
      ]

  pub far_where_scanned :
      ((u : ℕ) → own ≡ Some u → IsScanned (state_at plan a) now.scanned (published_after plan u (before.places u).done)) → IsAsFarOn plan own a now
  far_where_scanned scanned =
      record {
        later = λ u l. elim (cases_eq u t) [
          | inl same ↦ subst (λ v. IsPrefix (now.places v) (a v)) (sym same) near
          | inr other ↦ subst (λ v. IsPrefix v (a u)) (sym (change.others u other)) (far.later u l)
        ];
        equal = λ u l x.
            let was : before.exact u ≡ true = sym (change.exact u) ∙ x in
            elim (cases_eq u t) [
              | inl same ↦
                  subst (λ v. a v ≡ now.places v) (sym same) (sym (exact_stays (subst (λ v. before.exact v ≡ true) same was)))
              | inr other ↦ far.equal u l was ∙ sym (change.others u other)
            ];
        scanned = λ u is.
            subst (λ v. IsScanned (state_at plan a) now.scanned (published_after plan u v.done)) (sym (own_stays u is)) (scanned u is);
      }

  pub far_now : now.scanned ≡ before.scanned → IsAsFarOn plan own a now
  far_now same =
      far_where_scanned (λ u is.
      subst (λ k. IsScanned (state_at plan a) k (published_after plan u (before.places u).done)) (sym same) (far.scanned u is))

pub await_load_keeps_far : AwaitLoadKeepsFar
await_load_keeps_far avoids plan own a lock holds t before now checked lawful within exact far load =
    far_now avoids plan own a lock t (λ b. await_word plan t b ≡ await_word plan t (a t)) before now checked lawful within exact far load.place refl
    load.scanned

pub holder_is_task : HolderIsTask
holder_is_task plan a t checked lawful = elim (holder_may_hold plan a t checked lawful) [
  | stands_before undropped stands ↦ action_of_task plan checked t (a t).done (Blocks stands.0) stands.1
  | has_blocked e is ↦ let by = published_after_is plan t (a t).done e is in action_of_task plan checked t by.0 (Blocks by.2) by.4
  | has_refused is ↦
      let stands = ((reachable_is_fixed plan a checked (lawful_is_reachable true plan a (Some t) lawful)).1.refused t 0 is).1 in
      action_of_task plan checked t (a t).done (Blocks stands.0) stands.1
]

pub busy_keeps_far : BusyKeepsFar
busy_keeps_far plan own a h before now checked lawful exact far busy =
    far_now true plan own a (Some h) h (MayHold plan h) before now checked lawful (holder_is_task plan a h checked lawful) exact far busy.place
    (holder_may_hold plan a h checked lawful) busy.scanned

-- the phases of a task at a place that is not its first
pub phases_there :
    (avoids : Bool) (plan : Plan) (a : ℕ → Place) (lock : Option ℕ) (t p : ℕ) → IsCheckedPlan plan → IsLawful avoids plan a lock →
    a t ≢ first_place → (state_at plan a).phases t p ≡ phases_at_place plan t (a t) p
phases_there avoids plan a lock t p checked lawful n =
    ap (λ m. kept (a t).dropped m p) (phases_forked plan checked (done_by a) t forked)
  where
    consistent : IsConsistent plan a
    consistent = (reachable_is_fixed plan a checked (lawful_is_reachable avoids plan a lock lawful)).1

    by_parts : (k : ℕ) (o : Option ℕ) → (a t).done ≡ k → (a t).dropped ≡ o → forked_at plan (done_by a) t ≡ true
    by_parts (suc k) o d e = consistent.begun t (omega arith)
    by_parts zero (Some q) d e = (consistent.refused t q e).0
    by_parts zero None d e = absurd (n (λ i. record { done = d i; dropped = e i }))

    forked : forked_at plan (done_by a) t ≡ true
    forked = by_parts (a t).done (a t).dropped refl refl

-- a place after one that is not the first is not the first
pub not_first : (a b : Place) → IsPrefix a b → a ≢ first_place → b ≢ first_place
not_first a b later n is = n (by_parts a.done a.dropped refl refl (subst (λ (x : Place). IsPrefix a x) is later))
  where
    by_parts : (k : ℕ) (o : Option ℕ) → a.done ≡ k → a.dropped ≡ o → Precedes k o 0 None → a ≡ first_place
    by_parts k None x e h = λ i. record { done = (x ∙ (let z : k ≡ 0 = omega arith in z)) i; dropped = e i }
    by_parts k (Some d) x e h = absurd h

pub first_or_not : (a : Place) → (a ≡ first_place) ⊎ (a ≢ first_place)
first_or_not a = by_parts a.done a.dropped refl refl
  where
    by_parts : (k : ℕ) (o : Option ℕ) → a.done ≡ k → a.dropped ≡ o → (a ≡ first_place) ⊎ (a ≢ first_place)
    by_parts zero None d e = inl (λ i. record { done = d i; dropped = e i })
    by_parts (suc k) o d e = inr (λ first. let z : a.done ≡ 0 = ap (λ v. v.done) first in omega arith)
    by_parts zero (Some q) d e = inr (λ first. absurd (let z : a.dropped ≡ None = ap (λ v. v.dropped) first in cc))

-- a load of the phase of the task that is scanned next, where it is not behind
pub scan_goes :
    (s : State) (o : Option Event) (k t p : ℕ) → IsScanned s k o → IsScanned s (scanned_after o k t p (s.phases t p)) o
scan_goes s None k t p old = tt
scan_goes s (Some e) k t p old = by_test (e.p.0 == p) (t == k) (is_not_behind (s.phases t p) e) refl refl refl
  where
    not_behind : (o : Option ℕ) (m : ℕ) → o ≡ Some m → is_not_behind o e ≡ true → e.n ≤ m
    not_behind None m is h = absurd (cc)
    not_behind (Some i) m is h = elim (cases_lt i e.n) [
      | inl l ↦ absurd (false≢true (sym (ap (λ b. if b then false else true) (lt-ltb i e.n l)) ∙ h))
      | inr l ↦ (let same : i ≡ m = (cc) in omega arith)
    ]

    by_test :
        (x y z : Bool) → (e.p.0 == p) ≡ x → (t == k) ≡ y → is_not_behind (s.phases t p) e ≡ z → IsReachedBelow s (if x && y && z then suc k else k) e
    by_test false y z a b c = old
    by_test true false z a b c = old
    by_test true true false a b c = old
    by_test true true true a b c = λ u m lt h. elim (cases_eq u k) [
      | inr n ↦ old u m (omega arith) h
      | inl uk ↦
          let same : s.phases t p ≡ Some m = ap (λ w. s.phases w p) (eqb-true t k b ∙ sym uk) ∙ ap (s.phases u) (sym (eqb-true e.p.0 p a)) ∙ h in
          not_behind (s.phases t p) m same c
    ]

pub phase_load_keeps_far : PhaseLoadKeepsFar
phase_load_keeps_far avoids plan own a lock t p before now checked lawful within exact far load =
    elim (first_or_not (before.places t)) [
      | inl first ↦ record {
        later = λ u l. subst (λ v. IsPrefix v (a u)) (sym (load.empty first u)) (far.later u l);
        equal = λ u l x. far.equal u l (sym (load.exact u) ∙ x) ∙ sym (load.empty first u);
        scanned = λ u is.
            subst (λ v. IsScanned (state_at plan a) now.scanned (published_after plan u v.done)) (sym (load.empty first u)) (scanned u is);
      }
      | inr begun ↦
          let means : phases_at_place plan t (a t) p ≡ (state_at plan a).phases t p =
          sym (phases_there avoids plan a lock t p checked lawful (not_first (before.places t) (a t) (far.later t within) begun)) in
          far_where_scanned avoids plan own a lock t (λ b. phases_at_place plan t b p ≡ (state_at plan a).phases t p) before now checked lawful within
          exact far (load.place begun) means scanned
    ]
  where
    scanned : (u : ℕ) → own ≡ Some u → IsScanned (state_at plan a) now.scanned (published_after plan u (before.places u).done)
    scanned u is =
        let s = state_at plan a in
        let event : own_event plan own before ≡ published_after plan u (before.places u).done = ap (λ o. own_event plan o before) is in
        let count = load.scanned ∙ ap (λ o. scanned_after o before.scanned t p (s.phases t p)) event in
        subst (λ k. IsScanned s k (published_after plan u (before.places u).done)) (sym count)
        (scan_goes s (published_after plan u (before.places u).done) before.scanned t p (far.scanned u is))
