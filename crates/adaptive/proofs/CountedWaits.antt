-- The pairs of the wait-for graph, counted by the phases of the tasks that impede: a sum, and how large it can be.
use mathlib.Core.Path.{fun_ext}
use Rattle.std.proofs.Common.{◌≡◌, ◌≢◌, ℕ, suc, ◌+◌, ◌<◌, ◌≤◌, Bool, true, false, List, [], ◌∷◌, ◌++◌, ◌⊎◌, length, refl, sym, ap, ◌∙◌, subst, inl, inr, arith, get_or, length-append, map}
use Rattle.std.specs.Prelude.{AllPairs, Contains, ◌↔◌, count_by, cond, sum_by}
use Rattle.std.proofs.lemmas.Bool.{cases_Bool}
use Rattle.std.proofs.lemmas.List.{get_or_default, length-map}
use Rattle.std.proofs.lemmas.List.Sums.{sum_by-cons}
use Rattle.std.proofs.lemmas.List.Sorted.{sum_by-IsPermutation}
use Rattle.std.proofs.lemmas.List.Elements.{Contains-append_cases, Contains-append_left, Contains-append_right}
use Rattle.armus_base.specs.Counts.{IsCount, IsDistinct}
use Rattle.armus_base.specs.Graphs.{WaitsFor}
use Rattle.armus_base.specs.calls.Statuses.{IsInOrder}
use Rattle.armus_base.specs.declared.event.Event.{Event}
use Rattle.armus_base.specs.declared.ids.TaskId.{TaskId}
use Rattle.armus_base.specs.declared.status.Member.{Member}
use Rattle.armus_base.specs.declared.status.Status.{Status}
use Rattle.armus_base.proofs.Counts.{count_more, count_none, count_same, distinct_le}
use Rattle.armus_base.proofs.Elements.{Contains-cons_cases, Contains-head, Contains-tail, nothing_in_nil}
use Rattle.dep_state.proofs.DeadSets.{Contains-map, one_status}
use Rattle.adaptive.specs.inside.Waits.{AreAwaited, is_later, waits_on}
use Rattle.adaptive.proofs.LaterEvents.{later_says, says_later}

-- two lists of distinct elements that share none
distinct_both : {X : Type 0} (xs ys : List X) → IsDistinct xs → IsDistinct ys → ((x : X) → Contains xs x → Contains ys x → ⊥) → IsDistinct (xs ++ ys)
distinct_both [] ys d e apart = e
distinct_both (x ∷ xs) ys d e apart = (
  λ h. elim (Contains-append_cases xs ys x h) [ inl l ↦ d.0 l | inr r ↦ apart x (Contains-head x xs) r ],
  distinct_both xs ys d.1 e (λ z l r. apart z (Contains-tail x xs z l) r),
)

-- things of two kinds, none of both
pub count_both : {X : Type 0} (P Q R : X → Type 0) (m n : ℕ) → IsCount P m → IsCount Q n → ((x : X) → P x → Q x → ⊥) → ((x : X) → R x ↔ (P x ⊎ Q x)) → IsCount R (m + n)
count_both P Q R m n c d apart either =
    record {
      members = c.members ++ d.members;
      distinct = distinct_both c.members d.members c.distinct d.distinct (λ x l r. apart x ((c.exact x).0 l) ((d.exact x).0 r));
      exact = λ x. (
        λ h. (either x).1 (elim (Contains-append_cases c.members d.members x h) [ inl l ↦ inl ((c.exact x).0 l) | inr r ↦ inr ((d.exact x).0 r) ]),
        λ r. elim ((either x).0 r) [
          | inl p ↦ Contains-append_left c.members d.members x ((c.exact x).1 p)
          | inr q ↦ Contains-append_right c.members d.members x ((d.exact x).1 q)
        ],
      );
      counted = length-append c.members d.members ∙ ap (λ k. k + length d.members) c.counted ∙ ap (λ k. m + k) d.counted;
    }

-- no two elements have one image
abbrev Apart : {A X : Type 0} → (A → X) → List A → Type 0
Apart f [] = Unit {0}
Apart f (x ∷ xs) = ((y : _) → Contains xs y → f y ≢ f x) × Apart f xs

apart_rising : {A X : Type 0} (f : A → X) (g : A → ℕ) (xs : List A) → ((x y : A) → f x ≡ f y → g x ≡ g y) →
    ((i j : ℕ) (c d : A) → i < j → j < length xs → g (get_or xs i c) < g (get_or xs j d)) → Apart f xs
apart_rising f g [] same up = tt
apart_rising f g (x ∷ xs) same up = (
  λ y (k, l, e) is.
      (let less = up 0 (suc k) x y (omega arith) (omega arith) in
      let one : g (get_or xs k y) ≡ g y = ap g e in
      let two = same y x is in
      absurd (omega arith)),
  apart_rising f g xs same (λ i j c d l w. up (suc i) (suc j) c d (omega arith) (omega arith)),
)

-- the images of those that pass
Passing : {A X : Type 0} → (A → Bool) → (A → X) → List A → X → Type 0
Passing {A} p f xs z = (y : A) × Contains xs y × (p y ≡ true) × (f y ≡ z)

count_passing : {A X : Type 0} (p : A → Bool) (f : A → X) (xs : List A) → Apart f xs → IsCount (Passing p f xs) (count_by p xs)
unfolding Passing
count_passing p f [] apart = count_none (Passing p f []) (λ z h. nothing_in_nil h.0 h.1)
count_passing p f (x ∷ xs) apart =
    elim (cases_Bool (p x)) [
      | inl passes ↦
          subst (IsCount (Passing p f (x ∷ xs))) (sym (sum_by-cons (λ y. cond (p y) 1 0) x xs ∙ ap (λ b. cond b 1 0 + count_by p xs) passes ∙ (let e : 1 + count_by p xs ≡ count_by p xs + 1 = omega arith in e)))
          (count_more (Passing p f xs) (Passing p f (x ∷ xs)) (count_by p xs) (f x) (count_passing p f xs apart.1)
          (λ h. apart.0 h.0 h.1 h.3)
          (λ z. (
            λ h. elim (Contains-cons_cases x xs h.0 h.1) [
              | inl same ↦ inr (sym h.3 ∙ ap f (sym same))
              | inr later ↦ inl (h.0, later, h.2, h.3)
            ],
            λ h. elim h [
              | inl before ↦ (before.0, Contains-tail x xs before.0 before.1, before.2, before.3)
              | inr new ↦ (x, Contains-head x xs, passes, sym new)
            ],
          )))
      | inr fails ↦
          subst (IsCount (Passing p f (x ∷ xs))) (sym (sum_by-cons (λ y. cond (p y) 1 0) x xs ∙ ap (λ b. cond b 1 0 + count_by p xs) fails ∙ (let e : 0 + count_by p xs ≡ count_by p xs = omega arith in e)))
          (count_same (Passing p f xs) (Passing p f (x ∷ xs)) (count_by p xs) (count_passing p f xs apart.1)
          (λ z. (
            λ h. (h.0, Contains-tail x xs h.0 h.1, h.2, h.3),
            λ h. elim (Contains-cons_cases x xs h.0 h.1) [
              | inl same ↦ absurd (let passes : p x ≡ true = ap p same ∙ h.2 in let both : false ≡ true = sym fails ∙ passes in cc)
              | inr later ↦ (h.0, later, h.2, h.3)
            ],
          )))
    ]

count_map : {A B : Type 0} (p : B → Bool) (f : A → B) (xs : List A) → count_by p (map f xs) ≡ count_by (λ x. p (f x)) xs
count_map p f [] = refl
count_map p f (x ∷ xs) =
    sum_by-cons (λ y. cond (p y) 1 0) (f x) (map f xs)
    ∙ ap (λ n. cond (p (f x)) 1 0 + n) (count_map p f xs)
    ∙ sym (sum_by-cons (λ y. cond (p (f y)) 1 0) x xs)

-- the task of a status, with another one
abbrev pair_with : TaskId → Status → TaskId × TaskId
pair_with u s = (s.t, u)

pair_is : (a b : TaskId) (q : TaskId × TaskId) → a ≡ q.0 → q.1 ≡ b → (a, b) ≡ q
pair_is a b q e f = ap (λ x. (x, b)) e ∙ ap (λ y. (q.0, y)) (sym f)

module _ (ss : List Status) (ok : IsInOrder ss) where
  -- the events of the statuses
  abbrev events_of : List Event
  events_of = map (λ s. s.event) ss

  -- the second task is u, and one of these members impedes what the first awaits
  abbrev Via : TaskId → List Member → TaskId × TaskId → Type 0
  Via u ms q = (q.1 ≡ u) × ((s : Status) × Contains ss s × (s.t ≡ q.0) × ((m : Member) × Contains ms m × (is_later m s.event ≡ true)))

  apart_tasks : (u : TaskId) → Apart (pair_with u) ss
  apart_tasks u =
      apart_rising (pair_with u) (λ (s : Status). s.t.0) ss (λ x y e. ap (λ (q : TaskId × TaskId). q.0.0) e) (λ i j c d l w. ok.tasks i j c d l w)

  by_member : (u : TaskId) (m : Member) → IsCount (Passing (λ (s : Status). is_later m s.event) (pair_with u) ss) (count_by (is_later m) events_of)
  by_member u m =
      subst (IsCount (Passing (λ (s : Status). is_later m s.event) (pair_with u) ss)) (sym (count_map (is_later m) (λ (s : Status). s.event) ss))
      (count_passing (λ (s : Status). is_later m s.event) (pair_with u) ss (apart_tasks u))

  count_via : (u : TaskId) (ms : List Member) → Apart (λ (m : Member). m.p.0) ms → IsCount (Via u ms) (waits_on events_of ms)
  unfolding Passing
  count_via u [] apart = count_none (Via u []) (λ q h. nothing_in_nil h.1.3.0 h.1.3.1)
  count_via u (m ∷ ms) apart =
      subst (IsCount (Via u (m ∷ ms))) (sym (sum_by-cons (λ (x : Member). count_by (is_later x) events_of) m ms))
      (count_both (Passing (λ (s : Status). is_later m s.event) (pair_with u) ss) (Via u ms) (Via u (m ∷ ms)) (count_by (is_later m) events_of) (waits_on events_of ms)
      (by_member u m) (count_via u ms apart.1)
      (λ q (s, c, told, e) (e1, (s', c', t', (m', cm, told'))).
      let same = one_status ss ok s s' c c' (ap (λ (z : TaskId × TaskId). z.0) e ∙ sym t') in
      apart.0 m' cm ((later_says m' s'.event told').0 ∙ ap (λ (x : Status). x.event.p.0) (sym same) ∙ sym (later_says m s.event told).0))
      (λ q. (
        λ (e1, (s, c, t, (m', cm, told))). elim (Contains-cons_cases m ms m' cm) [
          | inl same ↦ inl (s, c, subst (λ x. is_later x s.event ≡ true) (sym same) told, pair_is s.t u q t e1)
          | inr later ↦ inr (e1, (s, c, t, (m', later, told)))
        ],
        λ h. elim h [
          | inl pass ↦
              let e = pass.3 in (
                sym (ap (λ (z : TaskId × TaskId). z.1) e),
                (pass.0, pass.1, ap (λ (z : TaskId × TaskId). z.0) e, (m, Contains-head m ms, pass.2)),
              )
          | inr via ↦ (via.0, (via.1.0, via.1.1, via.1.2, (via.1.3.0, Contains-tail m ms via.1.3.0 via.1.3.1, via.1.3.2)))
        ],
      )))

  apart_phases : (v : Status) → Contains ss v → Apart (λ (m : Member). m.p.0) v.phases
  apart_phases v (k, l, e) =
      apart_rising (λ (m : Member). m.p.0) (λ (m : Member). m.p.0) v.phases (λ x y f. f)
      (λ i j c d less w.
      let up = subst (λ (x : Status). AllPairs (λ (a b : Member). a.p.0 < b.p.0) x.phases) e (ok.phasers k v l) in
      let first : get_or v.phases i c ≡ get_or v.phases i d = get_or_default v.phases i c d (omega arith) in
      subst (λ (x : Member). x.p.0 < (get_or v.phases j d).p.0) (sym first) (up i j d less w))

  -- a task impedes the events of no more tasks than there are
  one_few : (v : Status) → Contains ss v → waits_on events_of v.phases ≤ length ss
  one_few v in' =
      let c = count_via v.t v.phases (apart_phases v in') in
      let all : List (TaskId × TaskId) = map (pair_with v.t) ss in
      let le = distinct_le c.members all c.distinct (λ q h.
      let (e1, (s, cs, t, rest)) = (c.exact q).0 h in
      subst (Contains all) (pair_is s.t v.t q t e1) (Contains-map (pair_with v.t) ss s cs)) in
      omega (arith, le, c.counted, length-map ss (pair_with v.t))

  -- the second task is one of these, and impedes what the first awaits
  abbrev Pairs : List Status → TaskId × TaskId → Type 0
  Pairs vs q = (v : Status) × Contains vs v × Via v.t v.phases q

  count_pairs : (vs : List Status) → Apart (λ (v : Status). v.t) vs → ((v : Status) → Contains vs v → Contains ss v) →
      IsCount (Pairs vs) (sum_by (λ (v : Status). waits_on events_of v.phases) vs)
  count_pairs [] apart among = count_none (Pairs []) (λ q h. nothing_in_nil h.0 h.1)
  count_pairs (v ∷ vs) apart among =
      subst (IsCount (Pairs (v ∷ vs))) (sym (sum_by-cons (λ (x : Status). waits_on events_of x.phases) v vs))
      (count_both (Via v.t v.phases) (Pairs vs) (Pairs (v ∷ vs)) (waits_on events_of v.phases) (sum_by (λ (x : Status). waits_on events_of x.phases) vs)
      (count_via v.t v.phases (apart_phases v (among v (Contains-head v vs)))) (count_pairs vs apart.1 (λ w h. among w (Contains-tail v vs w h)))
      (λ q here there. apart.0 there.0 there.1 (sym there.2.0 ∙ here.0))
      (λ q. (
        λ h. elim (Contains-cons_cases v vs h.0 h.1) [
          | inl same ↦ inl (subst (λ (x : Status). Via x.t x.phases q) (sym same) h.2)
          | inr later ↦ inr (h.0, later, h.2)
        ],
        λ h. elim h [
          | inl here ↦ (v, Contains-head v vs, here)
          | inr there ↦ (there.0, Contains-tail v vs there.0 there.1, there.2)
        ],
      )))

  are_waits : (q : TaskId × TaskId) → Pairs ss q ↔ WaitsFor ss q.0 q.1
  are_waits q = (
    λ (v, cv, (e1, (s, cs, t, (m, (k, l, e), told)))).
        let says = later_says m s.event told in
        let phaser : m.p ≡ s.event.p = ap (λ n. record { 0 = n }) says.0 in
        (s, cs, t, (v, cv, sym e1, (k, m, l, e, (phaser, says.1)))),
    λ (s, cs, t, (v, cv, tv, (k, m, l, e, (phaser, less)))).
        (v, cv, (sym tv, (s, cs, t, (m, (k, l, e), says_later m s.event (ap (λ p. p.0) phaser) less)))),
  )

  apart_statuses : Apart (λ (v : Status). v.t) ss
  apart_statuses = apart_rising (λ (v : Status). v.t) (λ (v : Status). v.t.0) ss (λ x y e. ap (λ (t : TaskId). t.0) e) (λ i j c d l w. ok.tasks i j c d l w)

  module _ (events : List Event) (awaited : AreAwaited ss events) where
    same_waits : (ms : List Member) → waits_on events ms ≡ waits_on events_of ms
    same_waits ms =
        ap (λ (g : Member → ℕ). sum_by g ms) (fun_ext (λ m. sum_by-IsPermutation (λ e. cond (is_later m e) 1 0) events_of events awaited.same))

    pub waits_few : (v : Status) → Contains ss v → waits_on events v.phases ≤ length ss
    waits_few v in' = (let one = one_few v in' in let same = same_waits v.phases in omega arith)

    pub waits_counted : IsCount (λ (p : TaskId × TaskId). WaitsFor ss p.0 p.1) (sum_by (λ (v : Status). waits_on events v.phases) ss)
    waits_counted =
        subst (IsCount (λ (p : TaskId × TaskId). WaitsFor ss p.0 p.1))
        (ap (λ (g : Status → ℕ). sum_by g ss) (fun_ext (λ v. sym (same_waits v.phases))))
        (count_same (Pairs ss) (λ p. WaitsFor ss p.0 p.1) (sum_by (λ (v : Status). waits_on events_of v.phases) ss) (count_pairs ss apart_statuses (λ v h. h)) are_waits)
