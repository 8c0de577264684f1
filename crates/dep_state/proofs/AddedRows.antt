-- A task is put into the rows of the events that it impedes.
use Rattle.std.proofs.Common.{◌≡◌, ℕ, ◌+◌, ◌-◌, ◌<◌, ◌≤◌, Bool, true, false, List, [], ◌∷◌, ◌++◌, length, refl, sym, ap, ◌∙◌, subst, ◌⊎◌, inl, inr, arith, get_or, set, take, replicate, get_or-set_same, get_or-set_other, length-set}
use Rattle.std.specs.Prelude.{Any, AllPairs, Contains, MatchBool, Vec}
use Rattle.std.specs.Global.{Global}
use Rattle.std.specs.List.Sorted.{IsPartitionedBy, IsPartitionPoint}
use Rattle.std.proofs.lemmas.Bool.{cases_eq, cases_lt, cases_Bool}
use Rattle.std.proofs.lemmas.List.{get_or_default, get_or-replicate, get_or-take, length-map, length-replicate, length-take-le, map-set, take_more}
use Rattle.std.proofs.lemmas.List.Elements.{Contains-append_left, Contains-push, Contains-push_cases}
use Rattle.armus_base.specs.declared.event.Event.{Event}
use Rattle.armus_base.specs.declared.ids.PhaserId.{PhaserId}
use Rattle.armus_base.specs.declared.status.Member.{Member}
use Rattle.armus_base.specs.declared.status.Status.{Status}
use Rattle.armus_base.specs.Statuses.{Impedes}
use Rattle.dep_state.specs.calls.Deps.{IsEventBefore, rows_of}
use Rattle.dep_state.specs.inside.Made.{NotAfter, IsFirstAfter, IsAdded, IsPhaseBelow, IsImpederRow, nth_event}
use Rattle.dep_state.proofs.TaskPlaces.{row_at}
use Rattle.dep_state.proofs.DistinctEvents.{before_not_after, before_then, not_before_itself}
use Rattle.dep_state.proofs.ImpederRows.{row_more, row_same}

-- the event that stands for none
abbrev pub none : Event
none = record { p = record { 0 = 0 }; n = 0 }

-- nothing was added to any row
pub added_none : (P : ℕ → Type 0) (k : ℕ) (rows : List (List ℕ)) → ((i : ℕ) → P i → ⊥) → IsAdded P k rows rows
added_none P k rows off = record { sized = refl; each = λ i lt. inr (off i, refl) }

-- what was added to the rows of P and then to those of Q was added to the rows of both
pub added_more :
    (P Q R : ℕ → Type 0) (k : ℕ) (old mid now : List (List ℕ)) → IsAdded P k old mid → IsAdded Q k mid now →
    ((i : ℕ) → i < length old → R i → P i ⊎ Q i) → ((i : ℕ) → i < length old → P i → R i × (Q i → ⊥)) → ((i : ℕ) → i < length old → Q i → R i) →
    IsAdded R k old now
added_more P Q R k old mid now h g split left right =
    record {
      sized = g.sized ∙ h.sized;
      each = λ i lt. elim (h.each i lt) [
        | inl p ↦ elim (g.each i (omega (arith, h.sized))) [
          | inl q ↦ absurd ((left i lt p.0).1 q.0)
          | inr q ↦ inl ((left i lt p.0).0, q.1 ∙ p.1)
        ]
        | inr p ↦ elim (g.each i (omega (arith, h.sized))) [
          | inl q ↦ inl (right i lt q.0, q.1 ∙ ap (λ r. r ++ k ∷ []) p.1)
          | inr q ↦ inr (λ r. elim (split i lt r) [ inl a ↦ p.0 a | inr b ↦ q.0 b ], q.1 ∙ p.1)
        ]
      ];
    }

-- one row of memory with one more number
pub added_one :
    (rows : List (Vec ℕ Global)) (i k : ℕ) (row more : Vec ℕ Global) → i < length rows → row ≡ get_or rows i row → more.items ≡ row.items ++ k ∷ [] →
    IsAdded (λ j. j ≡ i) k (rows_of rows) (rows_of (set rows i more))
added_one rows i k row more lt was is =
    let e : rows_of (set rows i more) ≡ set (rows_of rows) i more.items = map-set (λ r. r.items) rows i more in
    let n : i < length (rows_of rows) = rw length-map lt in
    rw e (record {
      sized = length-set (rows_of rows) i more.items;
      each = λ j in'. elim (cases_eq j i) [
        | inl same ↦
            let there = ap (λ v. get_or (set (rows_of rows) i more.items) v []) same ∙ get_or-set_same (rows_of rows) i more.items [] n in
            let was' : get_or (rows_of rows) j [] ≡ row.items = ap (λ v. get_or (rows_of rows) v []) same ∙ row_at rows i row lt was in
            inl (same, there ∙ is ∙ ap (λ r. r ++ k ∷ []) (sym was'))
        | inr ne ↦ inr (ne, get_or-set_other (rows_of rows) i j more.items [] ne)
      ];
    })

-- whether an event is not after another
not_after_or : (a b : Event) → (w : Bool) × MatchBool w (NotAfter a b) (NotAfter a b → ⊥)
not_after_or a b =
    elim (cases_lt a.p.0 b.p.0) [
      | inl l ↦ (true, inl l)
      | inr h ↦ elim (cases_eq a.p.0 b.p.0) [
        | inr ne ↦ (false, λ q. elim q [ inl l ↦ omega arith | inr r ↦ ne r.0 ])
        | inl s ↦ elim (cases_lt b.n a.n) [
          | inl l ↦ (false, λ q. elim q [ inl r ↦ omega arith | inr r ↦ omega (arith, r.1) ])
          | inr g ↦ (true, inr (s, g))
        ]
      ]
    ]

-- that as a test
pub not_after_test : Event → Event → Bool
not_after_test a b = (not_after_or a b).0

one_answer : (P : Type 0) (v w : Bool) → MatchBool v P (P → ⊥) → MatchBool w P (P → ⊥) → v ≡ w
one_answer P true true h g = refl
one_answer P true false h g = absurd (g h)
one_answer P false true h g = absurd (h g)
one_answer P false false h g = refl

pub tests_not_after : (a b : Event) (w : Bool) → MatchBool w (NotAfter a b) (NotAfter a b → ⊥) → w ≡ not_after_test a b
unfolding not_after_test
tests_not_after a b w h = one_answer (NotAfter a b) w (not_after_or a b).0 h (not_after_or a b).1

test_true : (a b : Event) → not_after_test a b ≡ true → NotAfter a b
unfolding not_after_test
test_true a b e = let h = (not_after_or a b).1 in rw e at h

test_false : (a b : Event) → not_after_test a b ≡ false → NotAfter a b → ⊥
unfolding not_after_test
test_false a b e = let h = (not_after_or a b).1 in rw e at h

of_test : (a b : Event) → NotAfter a b → not_after_test a b ≡ true
of_test a b h = elim (cases_Bool (not_after_test a b)) [ inl e ↦ e | inr e ↦ absurd (test_false a b e h) ]

module _ (es : List Event) (x : Event) (up : AllPairs IsEventBefore es) where
  pub not_after_ahead : IsPartitionedBy (λ e. not_after_test e x) es
  not_after_ahead i j d le lt on =
      elim (cases_eq i j) [
        | inl e ↦ ap (λ k. not_after_test (get_or es k d) x) e ∙ on
        | inr ne ↦
            let b : IsEventBefore (get_or es i d) (get_or es j d) = up i j d (omega arith) lt in
            of_test (get_or es i d) x (before_not_after (get_or es i d) x (before_then (get_or es i d) (get_or es j d) x b (test_true (get_or es j d) x on)))
      ]

  pub first_after_at : (n : ℕ) → n ≤ length es → IsPartitionPoint (λ e. not_after_test e x ≡ true) (λ e. not_after_test e x ≡ false) es n → IsFirstAfter es x n
  first_after_at n le point =
      record {
        inside = le;
        ahead = λ j lt. test_true (nth_event es j) x (point.0 j none (omega arith) lt);
        from = λ j le lt. test_false (nth_event es j) x (point.1 j none le lt);
      }

-- an event of the list stands ahead of the first one after it
pub place_ahead : (es : List Event) (x : Event) (n : ℕ) → AllPairs IsEventBefore es → IsFirstAfter es x n → Contains es x →
    (0 < n) × (n - 1 < length es) × (get_or es (n - 1) x ≡ x)
place_ahead es x n up point (p, lt, e) =
    let here : nth_event es p ≡ x = get_or_default es p none x lt ∙ e in
    let low : p < n = elim (cases_lt p n) [ inl l ↦ l | inr h ↦ absurd (point.from p h lt (subst (λ y. NotAfter y x) (sym here) (inr (refl, omega arith)))) ] in
    let last : n - 1 < length es = omega (arith, point.inside) in (
      omega arith,
      last,
      elim (cases_eq p (n - 1)) [
        | inl same ↦ subst (λ i. get_or es i x ≡ x) same e
        | inr ne ↦
            let b : IsEventBefore (get_or es p x) (get_or es (n - 1) x) = up p (n - 1) x (omega arith) last in
            let a : NotAfter (get_or es (n - 1) x) x = subst (λ y. NotAfter y x) (get_or_default es (n - 1) none x last) (point.ahead (n - 1) (omega arith)) in
            absurd (not_before_itself (get_or es p x) x e (before_then (get_or es p x) (get_or es (n - 1) x) x b a))
      ],
    )

phaser_of : ℕ → PhaserId
phaser_of n = record { 0 = n }

-- of the phase's phaser, what is after the phase is what it impedes
pub after_below : (m : Member) (e : Event) → (NotAfter e (record { p = m.p; n = m.n }) → ⊥) → e.p.0 ≡ m.p.0 → IsPhaseBelow m e
unfolding phaser_of
after_below m e off same = (ap phaser_of (sym same), elim (cases_lt m.n e.n) [ inl l ↦ l | inr h ↦ absurd (off (inr (same, h))) ])

pub below_after : (m : Member) (e : Event) → IsPhaseBelow m e → NotAfter e (record { p = m.p; n = m.n }) → ⊥
below_after m e (p, l) (inl q) = let s : m.p.0 ≡ e.p.0 = ap (λ x. x.0) p in omega arith
below_after m e (p, l) (inr q) = omega (arith, q.1)

module _ (ms : List Member) (m : Member) (e : Event) where
  any_left : Any (λ c. IsPhaseBelow c e) ms → Any (λ c. IsPhaseBelow c e) (ms ++ m ∷ [])
  any_left (j, c, lt, is, below) = let (i, l, f) = Contains-append_left ms (m ∷ []) c (j, lt, is) in (i, c, l, f, below)

  any_here : IsPhaseBelow m e → Any (λ c. IsPhaseBelow c e) (ms ++ m ∷ [])
  any_here below = let (i, l, f) = Contains-push ms m in (i, m, l, f, below)

  any_push_cases : Any (λ c. IsPhaseBelow c e) (ms ++ m ∷ []) → Any (λ c. IsPhaseBelow c e) ms ⊎ IsPhaseBelow m e
  any_push_cases (j, c, lt, is, below) =
      elim (Contains-push_cases ms m c (j, lt, is)) [
        | inl (i, l, f) ↦ inl (i, c, l, f, below)
        | inr f ↦ inr (subst (λ x. IsPhaseBelow x e) (sym f) below)
      ]

-- two phases of a task are of different phasers
apart :
    (ms : List Member) (n : ℕ) (m : Member) → AllPairs (λ c d. c.p.0 < d.p.0) ms → n < length ms → get_or ms n m ≡ m → (e : Event) →
    Any (λ c. IsPhaseBelow c e) (take n ms) → IsPhaseBelow m e → ⊥
apart ms n m up lt is e (j, c, in', at, (p, l)) (q, r) =
    let low : j < n = omega (arith, length-take-le n ms (omega arith)) in
    let here : get_or ms j m ≡ c = get_or_default ms j m c (omega arith) ∙ sym (get_or-take n ms j c low) ∙ at in
    let below = up j n m low lt in
    omega (arith, below, ap (λ x. x.p.0) here, ap (λ x. x.p.0) is, ap (λ x. x.0) p, ap (λ x. x.0) q)

module _ (es : List Event) (k : ℕ) where
  -- one more phase of a task
  pub phase_more :
      (ms : List Member) (n : ℕ) (m : Member) (old mid now : List (List ℕ)) → AllPairs (λ c d. c.p.0 < d.p.0) ms → n < length ms → get_or ms n m ≡ m →
      IsAdded (λ i. Any (λ c. IsPhaseBelow c (nth_event es i)) (take n ms)) k old mid → IsAdded (λ i. IsPhaseBelow m (nth_event es i)) k mid now →
      IsAdded (λ i. Any (λ c. IsPhaseBelow c (nth_event es i)) (take (n + 1) ms)) k old now
  phase_more ms n m old mid now up lt is g h =
      let Has : List Member → ℕ → Type 0 = λ cs i. Any (λ c. IsPhaseBelow c (nth_event es i)) cs in
      let e : take (n + 1) ms ≡ take n ms ++ m ∷ [] = rw is at (take_more ms n m lt) in
      rw e (added_more (Has (take n ms)) (λ i. IsPhaseBelow m (nth_event es i)) (Has (take n ms ++ m ∷ [])) k old mid now g h
      (λ i in' a. any_push_cases (take n ms) m (nth_event es i) a)
      (λ i in' a. (any_left (take n ms) m (nth_event es i) a, λ b. apart ms n m up lt is (nth_event es i) a b))
      (λ i in' b. any_here (take n ms) m (nth_event es i) b))

-- the rows with the places below n of the statuses that impede each event
pub record AreRowsTo (ss : List Status) (es : List Event) (n : ℕ) (rows : List (List ℕ)) : Type 0 where
  pub sized : length rows ≡ length es
  pub each : (i : ℕ) (e : Event) → i < length es → IsImpederRow ss (get_or es i e) n (get_or rows i [])

pub rows_none : (ss : List Status) (es : List Event) (rows : List (List ℕ)) → rows ≡ replicate (length es) [] → AreRowsTo ss es 0 rows
rows_none ss es rows is =
    record {
      sized = ap length is ∙ length-replicate (length es) [];
      each = λ i e lt.
          let f : get_or rows i [] ≡ [] = ap (λ r. get_or r i []) is ∙ get_or-replicate (length es) i [] [] lt in
          rw f (record {
            ascends = λ a b o l in'. absurd (omega arith);
            below = λ a o in'. absurd (omega arith);
            exact = λ a s l. absurd (omega arith);
          });
    }

-- the rows with one more task
pub rows_more :
    (ss : List Status) (es : List Event) (n : ℕ) (s : Status) (old now : List (List ℕ)) → AreRowsTo ss es n old → n < length ss → s ≡ get_or ss n s →
    IsAdded (λ i. Impedes s (nth_event es i)) n old now → AreRowsTo ss es (n + 1) now
rows_more ss es n s old now h lt is added =
    record {
      sized = added.sized ∙ h.sized;
      each = λ i e in'.
          let f : nth_event es i ≡ get_or es i e = get_or_default es i none e in' in
          let row = h.each i e in' in
          elim (added.each i (omega (arith, h.sized))) [
            | inl p ↦ rw p.1 (row_more ss (get_or es i e) n (get_or old i []) row s lt is (subst (λ x. Impedes s x) f p.0))
            | inr p ↦ rw p.1 (row_same ss (get_or es i e) n (get_or old i []) row s lt is (λ q. p.0 (subst (λ x. Impedes s x) (sym f) q)))
          ];
    }
