-- Where a task stands in a circle there is a first one through it.
use Rattle.std.proofs.Common.{◌≡◌, ℕ, zero, suc, ◌+◌, ◌<◌, List, [], ◌∷◌, length, arith, sym, subst, refl, inl, inr, ◌⊎◌}
use Rattle.std.specs.Prelude.{AllPairs, Contains}
use Rattle.std.proofs.lemmas.Bool.{cases_lt}
use Rattle.armus_base.specs.declared.ids.TaskId.{TaskId}
use Rattle.armus_base.proofs.Elements.{Contains-cons_cases, Contains-head, Contains-tail, nothing_in_nil}
use Rattle.adaptive.proofs.Deciding.{told_in}
use Rattle.report.proofs.CycleExists.{told_task}
use Rattle.explain_deadlock.specs.Circles.{IsCircleThrough, IsFirstThrough, IsNoLater, LeadsBackTo}
use Rattle.explain_deadlock.proofs.ListOrder.{no_later_cons, nothing_no_later}

module _ (next : TaskId → List TaskId) (ascend : (u : TaskId) → AllPairs (λ (a b : TaskId). a.0 < b.0) (next u)) (t : TaskId) where
  abbrev R : TaskId → TaskId → Type 0
  R a b = Contains (next a) b

  -- this is the first of the ways of so many tasks from u to t
  record IsLeast (n : ℕ) (u : TaskId) (way : List TaskId) : Type 0 where
    sized : length way ≡ n
    leads : LeadsBackTo R t u way
    least : (other : List TaskId) → length other ≡ n → LeadsBackTo R t u other → IsNoLater way other

  -- there is no such way
  abbrev HasNone : ℕ → TaskId → Type 0
  HasNone n u = (other : List TaskId) → length other ≡ n → LeadsBackTo R t u other → ⊥

  abbrev Found : ℕ → TaskId → Type 0
  Found n u = ((way : List TaskId) × IsLeast n u way) ⊎ HasNone n u

  -- this is the first of the ways that begin with one of these tasks
  record IsLeastVia (n : ℕ) (firsts : List TaskId) (x : TaskId) (way : List TaskId) : Type 0 where
    there : Contains firsts x
    sized : length way ≡ n
    leads : LeadsBackTo R t x way
    least : (y : TaskId) (other : List TaskId) → Contains firsts y → length other ≡ n → LeadsBackTo R t y other → IsNoLater (x ∷ way) (y ∷ other)

  abbrev HasNoneVia : ℕ → List TaskId → Type 0
  HasNoneVia n firsts = (y : TaskId) (other : List TaskId) → Contains firsts y → length other ≡ n → LeadsBackTo R t y other → ⊥

  via : (n : ℕ) → ((u : TaskId) → Found n u) → (firsts : List TaskId) → AllPairs (λ (a b : TaskId). a.0 < b.0) firsts →
      ((x : TaskId) × (way : List TaskId) × IsLeastVia n firsts x way) ⊎ HasNoneVia n firsts
  via n found [] up = inr (λ y other there. absurd (nothing_in_nil y there))
  via n found (x ∷ firsts) up =
      elim (found x) [
        | inl (way, is) ↦ inl (
          x,
          way,
          record {
            there = Contains-head x firsts;
            sized = is.sized;
            leads = is.leads;
            least = λ y other there sized leads.
                elim (Contains-cons_cases x firsts y there) [
                  | inl same ↦
                      subst (λ z. IsNoLater (x ∷ way) (z ∷ other)) same
                      (no_later_cons x way other (is.least other sized (subst (λ z. LeadsBackTo R t z other) (sym same) leads)))
                  | inr (k, lt, at) ↦
                      let less : x.0 < y.0 = subst (λ (z : TaskId). x.0 < z.0) at (up 0 (suc k) y (omega arith) (omega arith)) in
                      let n' = is.sized in
                      inr (inr (omega arith, inl less))
                ];
          },
        )
        | inr none ↦ elim (via n found firsts (λ i j d less lt. up (suc i) (suc j) d (omega arith) (omega arith))) [
          | inl (z, way, is) ↦ inl (
            z,
            way,
            record {
              there = Contains-tail x firsts z is.there;
              sized = is.sized;
              leads = is.leads;
              least = λ y other there sized leads.
                  elim (Contains-cons_cases x firsts y there) [
                    | inl same ↦ absurd (none other sized (subst (λ v. LeadsBackTo R t v other) (sym same) leads))
                    | inr in' ↦ is.least y other in' sized leads
                  ];
            },
          )
          | inr nowhere ↦ inr
              (λ y other there sized leads.
              elim (Contains-cons_cases x firsts y there) [
                | inl same ↦ none other sized (subst (λ v. LeadsBackTo R t v other) (sym same) leads)
                | inr in' ↦ nowhere y other in' sized leads
              ])
        ]
      ]

  none_empty : (u : TaskId) → (Contains (next u) t → ⊥) → HasNone zero u
  none_empty u not_there [] sized leads = not_there leads
  none_empty u not_there (x ∷ other) sized leads = omega arith

  least_of : (n : ℕ) (u x : TaskId) (way : List TaskId) → IsLeastVia n (next u) x way → (other : List TaskId) → length other ≡ suc n → LeadsBackTo R t u other → IsNoLater (x ∷ way) other
  least_of n u x way is [] sized leads = absurd (omega arith)
  least_of n u x way is (y ∷ other) sized leads = is.least y other leads.0 (omega arith) leads.1

  none_of : (n : ℕ) (u : TaskId) → HasNoneVia n (next u) → HasNone (suc n) u
  none_of n u none [] sized leads = omega arith
  none_of n u none (y ∷ other) sized leads = none y other leads.0 (omega arith) leads.1

  decide : (n : ℕ) (u : TaskId) → Found n u
  decide zero u =
      elim (told_in told_task (next u) t) [
        | inl there ↦ inl ([], record { sized = refl; leads = there; least = λ other sized leads. nothing_no_later other })
        | inr not_there ↦ inr (none_empty u not_there)
      ]
  decide (suc n) u =
      elim (via n (decide n) (next u) (ascend u)) [
        | inl (x, way, is) ↦ inl (x ∷ way, record { sized = (let e = is.sized in omega arith); leads = (is.there, is.leads); least = least_of n u x way is })
        | inr none ↦ inr (none_of n u none)
      ]

  -- the first circle of so many tasks and more
  first_from : (fuel k : ℕ) → ((other : List TaskId) → length other < k → LeadsBackTo R t t other → ⊥) → (way : List TaskId) → LeadsBackTo R t t way → length way < k + fuel →
      (circle : List TaskId) × IsFirstThrough R t circle
  first_from zero k none way leads lt = absurd (none way (omega arith) leads)
  first_from (suc fuel) k none way leads lt =
      elim (decide k t) [
        | inl (found, is) ↦ (t ∷ found, record { closes = (refl, is.leads); first = behind k none found is })
        | inr nowhere ↦
            first_from fuel (k + 1)
            (λ other less goes. elim (cases_lt (length other) k) [ inl shorter ↦ none other shorter goes | inr longer ↦ nowhere other (omega arith) goes ]) way leads (omega arith)
      ]
    where
      behind : (k : ℕ) → ((other : List TaskId) → length other < k → LeadsBackTo R t t other → ⊥) → (found : List TaskId) → IsLeast k t found → (other : List TaskId) → IsCircleThrough R t other →
          IsNoLater (t ∷ found) other
      behind k none found is [] closes = absurd closes
      behind k none found is (u ∷ other) closes =
          let n = is.sized in
          subst (λ x. IsNoLater (t ∷ found) (x ∷ other)) (sym closes.0)
          (elim (cases_lt (length other) k) [
            | inl shorter ↦ absurd (none other shorter closes.1)
            | inr more ↦ elim (cases_lt k (length other)) [
              | inl longer ↦ inr (inl (omega arith))
              | inr same ↦ no_later_cons t found other (is.least other (omega arith) closes.1)
            ]
          ])

  pub first_exists : (circle : List TaskId) → IsCircleThrough R t circle → (first : List TaskId) × IsFirstThrough R t first
  first_exists [] closes = absurd closes
  first_exists (u ∷ rest) closes = first_from (length rest + 1) 0 (λ other less goes. omega arith) rest closes.1 (omega arith)
