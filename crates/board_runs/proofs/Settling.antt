-- What a viewer knows that has taken in all seats of a board_tasks.
use Rattle.std.proofs.Common.{◌≡◌, ℕ, ◌<◌, Bool, true, false, List, [], ◌∷◌, ◌++◌, sym, refl, ap, ◌∙◌, subst, inl, inr, ◌⊎◌, eq-eqb, eqb-true}
use Rattle.std.specs.Prelude.{Contains, unwrap_or, ◌==◌, ◌||◌}
use Rattle.std.proofs.lemmas.Bool.{false≢true}
use Rattle.armus_base.specs.Plans.{action_at}
use Rattle.armus_base.specs.Runs.{Place}
use Rattle.armus_base.proofs.Elements.{Contains-cons_cases, Contains-head, Contains-tail, nothing_in_nil}
use Rattle.board.specs.calls.Views.{own_place, seen, task_of}
use Rattle.board.specs.calls.Seats.{Frame, IsSeat, Known, TakesIn}
use Rattle.board_runs.specs.calls.TaskSeats.{HasSeatOf, IsClosed, AreTaskSeats}
use Rattle.board_runs.specs.calls.Endings.{TakesAll}

-- one more
pub takes_more : (seats : List Known) (seat a b c : Known) → TakesAll seats a b → TakesIn seat b c → TakesAll (seats ++ seat ∷ []) a c
takes_more [] seat a b c none more = (c, subst (λ (x : Known). TakesIn seat x c) none more, refl)
takes_more (s ∷ seats) seat a b c takes more = (takes.0, takes.1, takes_more seats seat takes.0 b c takes.2 more)

or_true : (a b c : Bool) → ((a || b) || c) ≡ true → (a ≡ true) ⊎ ((b ≡ true) ⊎ (c ≡ true))
or_true true b c e = inl refl
or_true false true c e = inr (inl refl)
or_true false false c e = inr (inr e)

or_first : (a b c : Bool) → a ≡ true → ((a || b) || c) ≡ true
or_first true b c e = refl
or_first false b c e = absurd (false≢true e)

or_last : (a b c : Bool) → c ≡ true → ((a || b) || c) ≡ true
or_last true b c e = refl
or_last false true c e = refl
or_last false false c e = e

-- what is exact stays so
stays_all : (seats : List Known) (a b : Known) (u : ℕ) → TakesAll seats a b → (seen a.view).exact u ≡ true → ((seen b.view).exact u ≡ true) × ((seen b.view).places u ≡ (seen a.view).places u)
stays_all [] a b u same is = (ap (λ (k : Known). (seen k.view).exact u) same ∙ is, ap (λ (k : Known). (seen k.view).places u) same)
stays_all (s ∷ seats) a b u takes is =
    let t = takes.1 in
    let now = t.seen_now.exact u ∙ or_first ((seen a.view).exact u) ((seen s.view).exact u) (u == task_of s.view) is in
    let r = stays_all seats takes.0 b u takes.2 now in
    (r.0, r.1 ∙ t.stays u is)

-- the task of a seat that was taken in is seen at its seat's place, and exactly
pub taken_here : (seats : List Known) (a b k : Known) → TakesAll seats a b → Contains seats k → ((seen b.view).exact (task_of k.view) ≡ true) × ((seen b.view).places (task_of k.view) ≡ own_place k.view)
taken_here [] a b k takes i = absurd (nothing_in_nil k i)
taken_here (s ∷ seats) a b k takes i = elim (Contains-cons_cases s seats k i) [
  | inl here ↦
      subst (λ (m : Known). ((seen b.view).exact (task_of m.view) ≡ true) × ((seen b.view).places (task_of m.view) ≡ own_place m.view)) here
      (let t = takes.1 in
      let u : ℕ = task_of s.view in
      let now = t.seen_now.exact u ∙ or_last ((seen a.view).exact u) ((seen s.view).exact u) (u == u) (eq-eqb u u refl) in
      let r = stays_all seats takes.0 b u takes.2 now in
      (r.0, r.1 ∙ t.own))
  | inr there ↦ taken_here seats takes.0 b k takes.2 there
]

-- the viewer's seat stays one
pub kept_all : (seats : List Known) (a b : Known) → TakesAll seats a b → IsSeat a → IsSeat b
kept_all [] a b same kept = subst IsSeat (sym same) kept
kept_all (s ∷ seats) a b takes kept = kept_all seats takes.0 b takes.2 takes.1.kept

-- and no other becomes exact
pub exact_from :
    (seats : List Known) (a b : Known) (u : ℕ) → TakesAll seats a b → (seen b.view).exact u ≡ true →
    ((seen a.view).exact u ≡ true) ⊎ ((k : Known) × Contains seats k × (((seen k.view).exact u ≡ true) ⊎ (u ≡ task_of k.view)))
exact_from [] a b u same is = inl (ap (λ (k : Known). (seen k.view).exact u) (sym same) ∙ is)
exact_from (s ∷ seats) a b u takes is = elim (exact_from seats takes.0 b u takes.2 is) [
  | inl before ↦ elim (or_true ((seen a.view).exact u) ((seen s.view).exact u) (u == task_of s.view) (sym (takes.1.seen_now.exact u) ∙ before)) [
    | inl in_view ↦ inl in_view
    | inr rest ↦ elim rest [
      | inl in_seat ↦ inr (s, Contains-head s seats, inl in_seat)
      | inr own ↦ inr (s, Contains-head s seats, inr (eqb-true u (task_of s.view) own))
    ]
  ]
  | inr r ↦ inr (r.0, Contains-tail s seats r.0 r.1, r.2)
]

module _ (f : Frame) (seats : List Known) (before now : Known) (board_tasks : AreTaskSeats f (λ k. Contains seats k)) (takes : TakesAll seats before now) (unknown : (u : ℕ) → (seen before.view).exact u ≡ false) where
  -- whose seat it is that made a task exact
  pub whose : (u : ℕ) → (seen now.view).exact u ≡ true → (k : Known) × Contains seats k × (task_of k.view ≡ u)
  whose u is = elim (exact_from seats before now u takes is) [
    | inl old ↦ absurd (false≢true (sym (unknown u) ∙ old))
    | inr r ↦ (
      r.0,
      r.1,
      (let s = board_tasks.each r.0 r.1 in let task : task_of r.0.view ≡ s.task = ap (λ o. unwrap_or o 0) s.own in elim r.2 [
        | inl alone ↦ task ∙ sym (s.alone u alone)
        | inr own ↦ sym own
      ]),
    )
  ]

  has_exact : (c : ℕ) → HasSeatOf (λ k. Contains seats k) c → (seen now.view).exact c ≡ true
  has_exact c has =
      subst (λ u. (seen now.view).exact u ≡ true) (ap (λ o. unwrap_or o 0) has.2) (taken_here seats before now has.0 takes has.1).0

  pub closed : IsClosed f.plan (seen now.view)
  closed = record {
    root = has_exact 0 board_tasks.root;
    forked = λ t j c is l forks.
        let w = whose t is in
        let place : (seen now.view).places t ≡ own_place w.0.view = subst (λ u. (seen now.view).places u ≡ own_place w.0.view) w.2 (taken_here seats before now w.0 takes w.1).1 in
        has_exact c
        (board_tasks.forked w.0 w.1 j c (subst (λ (x : Place). j < x.done) place l) (ap (λ u. action_at f.plan u j) w.2 ∙ forks));
  }
