-- The activities that are named to one who waits are those that keep the event from being reached.
use Rattle.std.proofs.Common.{◌≡◌, ◌⊎◌, ℕ, ◌<◌, Bool, true, false, Some, List, [], ◌∷◌, length, arith, sym, ◌∙◌, ap, subst, refl, inl, inr}
use Rattle.std.specs.Prelude.{◌&&◌, ◌||◌, ◌==◌, AllPairs, Contains, if◌then◌else◌, map, nat_lt}
use Rattle.std.specs.List.{filter, list_any}
use Rattle.std.proofs.lemmas.Bool.{eq-eqb, eqb-true, false≢true, lt-ltb, ltb-true}
use Rattle.std.proofs.lemmas.List.{get_or-map, length-map}
use Rattle.std.proofs.lemmas.List.Kept.{AllPairs-filter}
use Rattle.armus_base.specs.declared.event.Event.{Event}
use Rattle.armus_base.specs.declared.ids.TaskId.{TaskId}
use Rattle.armus_base.specs.declared.status.Member.{Member}
use Rattle.armus_base.specs.declared.status.Status.{Status}
use Rattle.armus_base.specs.calls.FinalLaws.{IsOfPlan}
use Rattle.armus_base.specs.Finals.{is_awaited, is_event_of, status_of, statuses_on}
use Rattle.armus_base.specs.Plans.{Plan}
use Rattle.armus_base.specs.States.{State}
use Rattle.armus_base.proofs.Below.{given_ascends}
use Rattle.armus_base.proofs.Elements.{Contains-cons_cases, Contains-head, Contains-tail, nothing_in_nil}
use Rattle.armus_base.proofs.Fixed.{some_before_from}
use Rattle.armus_base.proofs.StatusesAre.{member_at, phases_are, phases_from, status_is}
use Rattle.explain_clock.specs.ClockKeepers.{is_below, is_missing, keepers_in}
use Rattle.explain_clock.specs.calls.ParagraphLaws.{IsMemberBelow, IsWaitingIn}

-- the numbers of the activities of these statuses that keep the event from being reached
abbrev pub named_in : Event → List Status → List ℕ
named_in e ss = map (λ (s : Status). s.t.0) (filter (is_missing e) ss)

pub keepers_named : (e : Event) (ss : List Status) → map (λ (t : TaskId). t.0) (keepers_in e ss) ≡ named_in e ss
keepers_named e ss = numbers (filter (is_missing e) ss)
  where
    numbers : (xs : List Status) → map (λ (t : TaskId). t.0) (map (λ (s : Status). s.t) xs) ≡ map (λ (s : Status). s.t.0) xs
    numbers [] = refl
    numbers (x ∷ xs) = ap (λ ns. x.t.0 ∷ ns) (numbers xs)

-- ---- one status

-- one of these phases is below the event
below_is : (e : Event) (ms : List Member) → list_any (is_below e) ms ≡ true → (n : ℕ) × Contains ms (member_at e.p.0 n) × (n < e.n)
below_is e [] is = absurd (false≢true is)
below_is e (m ∷ ms) is = by (m.p.0 == e.p.0) refl (nat_lt m.n e.n) refl (below_is e ms)
  where
    by :
        (a : Bool) → m.p.0 == e.p.0 ≡ a → (b : Bool) → nat_lt m.n e.n ≡ b →
        (list_any (is_below e) ms ≡ true → (n : ℕ) × Contains ms (member_at e.p.0 n) × (n < e.n)) → (n : ℕ) × Contains (m ∷ ms) (member_at e.p.0 n) × (n < e.n)
    by true here true less rest =
        let same : m.p.0 ≡ e.p.0 = eqb-true m.p.0 e.p.0 here in
        let it : member_at m.p.0 m.n ≡ member_at e.p.0 m.n = ap (λ p. member_at p m.n) same in
        (m.n, subst (Contains (m ∷ ms)) it (Contains-head m ms), ltb-true m.n e.n less)
    by true here false less rest =
        let more = rest (sym (ap (λ a. (a && nat_lt m.n e.n) || list_any (is_below e) ms) here ∙ ap (λ b. b || list_any (is_below e) ms) less) ∙ is) in
        (more.0, Contains-tail m ms (member_at e.p.0 more.0) more.1, more.2)
    by false here b less rest =
        let more = rest (sym (ap (λ a. (a && nat_lt m.n e.n) || list_any (is_below e) ms) here) ∙ is) in
        (more.0, Contains-tail m ms (member_at e.p.0 more.0) more.1, more.2)

below_from : (e : Event) (ms : List Member) (n : ℕ) → Contains ms (member_at e.p.0 n) → n < e.n → list_any (is_below e) ms ≡ true
below_from e [] n inside less = absurd (nothing_in_nil (member_at e.p.0 n) inside)
below_from e (m ∷ ms) n inside less =
    elim (Contains-cons_cases m ms (member_at e.p.0 n) inside) [
      | inl same ↦
          ap (λ (x : Member). (x.p.0 == e.p.0 && nat_lt x.n e.n) || list_any (is_below e) ms) same
          ∙ ap (λ b. (b && nat_lt n e.n) || list_any (is_below e) ms) (eq-eqb e.p.0 e.p.0 refl)
          ∙ ap (λ b. b || list_any (is_below e) ms) (lt-ltb n e.n less)
      | inr later ↦ or_right (is_below e m) (list_any (is_below e) ms) (below_from e ms n later less)
    ]
  where
    or_right : (a b : Bool) → b ≡ true → a || b ≡ true
    or_right true b is = refl
    or_right false b is = is

-- ---- who is named

pub named_is : (e : Event) (ss : List Status) (v : ℕ) → Contains (named_in e ss) v → (s : Status) × Contains ss s × (s.t.0 ≡ v) × (is_missing e s ≡ true)
named_is e [] v inside = absurd (nothing_in_nil v inside)
named_is e (s ∷ ss) v inside = by (is_missing e s) refl (named_is e ss v)
  where
    more : (x : Status) × Contains ss x × (x.t.0 ≡ v) × (is_missing e x ≡ true) → (x : Status) × Contains (s ∷ ss) x × (x.t.0 ≡ v) × (is_missing e x ≡ true)
    more found = (found.0, Contains-tail s ss found.0 found.1, found.2, found.3)

    by : (b : Bool) → is_missing e s ≡ b → (Contains (named_in e ss) v → (x : Status) × Contains ss x × (x.t.0 ≡ v) × (is_missing e x ≡ true)) →
        (x : Status) × Contains (s ∷ ss) x × (x.t.0 ≡ v) × (is_missing e x ≡ true)
    by true is rest =
        elim (Contains-cons_cases s.t.0 (named_in e ss) v
        (subst (λ b. Contains (map (λ (x : Status). x.t.0) (if b then s ∷ filter (is_missing e) ss else filter (is_missing e) ss)) v) is inside)) [
          | inl same ↦ (s, Contains-head s ss, same, is)
          | inr later ↦ more (rest later)
        ]
    by false is rest =
        more (rest (subst (λ b. Contains (map (λ (x : Status). x.t.0) (if b then s ∷ filter (is_missing e) ss else filter (is_missing e) ss)) v) is inside))

pub named_from : (e : Event) (ss : List Status) (s : Status) → Contains ss s → is_missing e s ≡ true → Contains (named_in e ss) s.t.0
named_from e [] s inside is = absurd (nothing_in_nil s inside)
named_from e (x ∷ ss) s inside is = by (is_missing e x) refl (Contains-cons_cases x ss s inside) (named_from e ss s)
  where
    by : (b : Bool) → is_missing e x ≡ b → (x ≡ s) ⊎ Contains ss s → (Contains ss s → is_missing e s ≡ true → Contains (named_in e ss) s.t.0) → Contains (named_in e (x ∷ ss)) s.t.0
    by true here (inl same) rest =
        subst (λ b. Contains (map (λ (y : Status). y.t.0) (if b then x ∷ filter (is_missing e) ss else filter (is_missing e) ss)) s.t.0) (sym here)
        (subst (λ (z : Status). Contains (x.t.0 ∷ named_in e ss) z.t.0) same (Contains-head x.t.0 (named_in e ss)))
    by true here (inr later) rest =
        subst (λ b. Contains (map (λ (y : Status). y.t.0) (if b then x ∷ filter (is_missing e) ss else filter (is_missing e) ss)) s.t.0) (sym here)
        (Contains-tail x.t.0 (named_in e ss) s.t.0 (rest later is))
    by false here (inl same) rest = absurd (false≢true (sym here ∙ ap (is_missing e) same ∙ is))
    by false here (inr later) rest =
        subst (λ b. Contains (map (λ (y : Status). y.t.0) (if b then x ∷ filter (is_missing e) ss else filter (is_missing e) ss)) s.t.0) (sym here) (rest later is)

-- ---- a state

module _ (plan : Plan) (s : State) (of : IsOfPlan plan s) (wait : (t q n : ℕ) → s.phases t q ≡ Some n → IsWaitingIn s t) (t : ℕ) (e : Event) (published : s.published t ≡ Some e) where
  abbrev blocked : List Status
  blocked = statuses_on plan s (is_awaited plan s)

  asked : is_awaited plan s e.p.0 ≡ true
  asked =
      some_before_from (λ v. is_event_of e.p.0 (s.published v)) (length plan.parents) t (of.published t e published)
      (ap (is_event_of e.p.0) published ∙ eq-eqb e.p.0 e.p.0 refl)

  pub behind : (v : ℕ) → Contains (named_in e blocked) v → IsMemberBelow s e v
  behind v inside =
      let found = named_is e blocked v inside in
      let below = below_is e found.0.phases found.3 in
      let has = phases_are plan s (is_awaited plan s) v e.p.0 below.0 (found.0, found.1, found.2, below.1) in
      (below.0, has.phase, below.2)

  pub from_behind : (v : ℕ) → IsMemberBelow s e v → Contains (named_in e blocked) v
  from_behind v (n, member, less) =
      let waits = wait v e.p.0 n member in
      let listed = phases_from plan s (is_awaited plan s) v e.p.0 n (record {
        task = of.member v e.p.0 n member;
        event = waits.0;
        published = waits.1;
        phaser = of.phaser v e.p.0 n member;
        asked_for = asked;
        phase = member;
      }) in
      subst (Contains (named_in e blocked)) listed.2 (named_from e blocked listed.0 listed.1 (below_from e listed.0.phases n listed.3 less))

  pub ascending : AllPairs (λ v w. v < w) (named_in e blocked)
  ascending j k d less within =
      let of_status = λ (x : Status). x.t.0 in
      let kept = filter (is_missing e) blocked in
      let none : Status = record { t = record { 0 = 0 }; event = e; phases = [] } in
      let inside : k < length kept = omega (arith, within, length-map kept of_status) in
      let first = get_or-map of_status kept j none d (omega arith) in
      let second = get_or-map of_status kept k none d inside in
      let in_order = AllPairs-filter (λ (x y : Status). x.t.0 < y.t.0) (is_missing e) blocked
      (given_ascends of_status (status_of plan s (is_awaited plan s)) (λ v x is. ap of_status (status_is plan s (is_awaited plan s) v x is).2) (length plan.parents)) in
      omega (arith, in_order j k none less inside, first, second)
