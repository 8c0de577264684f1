-- Edges that are added one after another.
use Rattle.std.proofs.Common.{◌≡◌, ℕ, ◌+◌, ◌<◌, List, [], ◌∷◌, ◌++◌, length, sym, subst, replicate, ◌⊎◌, inl, inr, arith, get_or, take, drop}
use Rattle.std.specs.Prelude.{Contains, ◌↔◌}
use Rattle.std.proofs.lemmas.Bool.{cases_eq, cases_lt}
use Rattle.std.proofs.lemmas.List.{take_more, get_or-replicate, get_or_past, length-replicate, take-append-drop}
use Rattle.std.proofs.lemmas.List.Elements.{Contains-append_left, Contains-push, Contains-push_cases}
use Rattle.digraph.specs.calls.Graph.{HasEdge, AddsEdge, AddsSomeEdges}
use Rattle.armus_base.proofs.Elements.{nothing_in_nil}

module _ (old mid now : List (List ℕ)) (from : ℕ) (to : List ℕ) (n : ℕ) (lt : n < length to) where
  pub one_more :
      ((i j : ℕ) → HasEdge mid i j ↔ (HasEdge old i j ⊎ ((i ≡ from) × Contains (take n to) j))) → AddsEdge mid now from (get_or to n 0) →
      (i j : ℕ) → HasEdge now i j ↔ (HasEdge old i j ⊎ ((i ≡ from) × Contains (take (n + 1) to) j))
  one_more inv adds i j =
      let e = take_more to n 0 lt in
      rw e (
        λ h. elim ((adds.edges i j).0 h) [
          | inl l ↦ elim ((inv i j).0 l) [ inl a ↦ inl a | inr b ↦ inr (b.0, Contains-append_left (take n to) (get_or to n 0 ∷ []) j b.1) ]
          | inr r ↦ inr (r.0, subst (λ x. Contains (take n to ++ get_or to n 0 ∷ []) x) (sym r.1) (Contains-push (take n to) (get_or to n 0)))
        ],
        λ h. (adds.edges i j).1 (elim h [
          | inl a ↦ inl ((inv i j).1 (inl a))
          | inr b ↦ elim (Contains-push_cases (take n to) (get_or to n 0) j b.1) [ inl c ↦ inl ((inv i j).1 (inr (b.0, c))) | inr d ↦ inr (b.0, sym d) ]
        ]),
      )

-- the edges of one more node
pub node_more :
    (mid now : List (List ℕ)) (row : ℕ → List ℕ) (n : ℕ) → ((i j : ℕ) → HasEdge mid i j ↔ ((i < n) × Contains (row i) j)) →
    ((i j : ℕ) → HasEdge now i j ↔ (HasEdge mid i j ⊎ ((i ≡ n) × Contains (row n) j))) →
    (i j : ℕ) → HasEdge now i j ↔ ((i < n + 1) × Contains (row i) j)
node_more mid now row n inv adds i j = (
  λ h. elim ((adds i j).0 h) [
    | inl l ↦ let (a, b) = (inv i j).0 l in (omega arith, b)
    | inr r ↦ (omega (arith, r.0), subst (λ x. Contains (row x) j) (sym r.0) r.1)
  ],
  λ (lt, h). (adds i j).1 (elim (cases_eq i n) [
    | inl e ↦ inr (e, subst (λ x. Contains (row x) j) e h)
    | inr ne ↦ inl ((inv i j).1 (omega arith, h))
  ]),
)

-- a loop that adds, for each element of a list in turn, the pairs that it stands for
pub any_more :
    (Old Mid Now : ℕ → ℕ → Type 0) (Adds : ℕ → ℕ → ℕ → Type 0) (xs : List ℕ) (n x : ℕ) → n < length xs → x ≡ get_or xs n 0 →
    ((i j : ℕ) → Mid i j ↔ (Old i j ⊎ ((u : ℕ) × Contains (take n xs) u × Adds u i j))) → ((i j : ℕ) → Now i j ↔ (Mid i j ⊎ Adds x i j)) →
    (i j : ℕ) → Now i j ↔ (Old i j ⊎ ((u : ℕ) × Contains (take (n + 1) xs) u × Adds u i j))
any_more Old Mid Now Adds xs n x lt is inv adds i j =
    let e : take (n + 1) xs ≡ take n xs ++ x ∷ [] = rw is (take_more xs n 0 lt) in
    rw e (
      λ h. elim ((adds i j).0 h) [
        | inl l ↦ elim ((inv i j).0 l) [ inl a ↦ inl a | inr b ↦ let (u, m, p) = b in inr (u, Contains-append_left (take n xs) (x ∷ []) u m, p) ]
        | inr r ↦ inr (x, Contains-push (take n xs) x, r)
      ],
      λ h. (adds i j).1 (elim h [
        | inl a ↦ inl ((inv i j).1 (inl a))
        | inr b ↦ let (u, m, p) = b in
            elim (Contains-push_cases (take n xs) x u m) [ inl c ↦ inl ((inv i j).1 (inr (u, c, p))) | inr d ↦ inr (subst (λ z. Adds z i j) (sym d) p) ]
      ]),
    )

pub push_members : (xs : List ℕ) (b x : ℕ) → Contains (xs ++ b ∷ []) x ↔ (Contains xs x ⊎ (x ≡ b))
push_members xs b x = (
  λ h. elim (Contains-push_cases xs b x h) [ inl l ↦ inl l | inr e ↦ inr (sym e) ],
  λ h. elim h [ inl l ↦ Contains-append_left xs (b ∷ []) x l | inr e ↦ subst (λ y. Contains (xs ++ b ∷ []) y) (sym e) (Contains-push xs b) ],
)

pub no_edge : (n x y : ℕ) → HasEdge (replicate n []) x y → ⊥
no_edge n x y h = elim (cases_lt x n) [
  | inl l ↦ nothing_in_nil y (subst (λ r. Contains {X = ℕ} r y) (get_or-replicate n x [] [] l) h)
  | inr m ↦ nothing_in_nil y (subst (λ r. Contains {X = ℕ} r y) (get_or_past (replicate n []) x [] (rw length-replicate m)) h)
]

-- one more node with one edge
pub single_more :
    (mid now : List (List ℕ)) (to : ℕ → ℕ) (n : ℕ) → ((i j : ℕ) → HasEdge mid i j ↔ ((i < n) × (j ≡ to i))) → AddsEdge mid now n (to n) →
    (i j : ℕ) → HasEdge now i j ↔ ((i < n + 1) × (j ≡ to i))
single_more mid now to n inv adds i j = (
  λ h. elim ((adds.edges i j).0 h) [
    | inl l ↦ let (a, b) = (inv i j).0 l in (omega arith, b)
    | inr r ↦ (omega (arith, r.0), subst (λ x. j ≡ to x) (sym r.0) r.1)
  ],
  λ (lt, h). (adds.edges i j).1 (elim (cases_eq i n) [
    | inl e ↦ inr (e, subst (λ x. j ≡ to x) e h)
    | inr ne ↦ inl ((inv i j).1 (omega arith, h))
  ]),
)

-- one more node that stands after others, with its row
pub later_more :
    (Old : ℕ → ℕ → Type 0) (mid now : List (List ℕ)) (row : ℕ → List ℕ) (m n : ℕ) →
    ((x y : ℕ) → HasEdge mid x y ↔ (Old x y ⊎ ((i : ℕ) × (i < n) × (x ≡ m + i) × Contains (row i) y))) →
    ((x y : ℕ) → HasEdge now x y ↔ (HasEdge mid x y ⊎ ((x ≡ m + n) × Contains (row n) y))) →
    (x y : ℕ) → HasEdge now x y ↔ (Old x y ⊎ ((i : ℕ) × (i < n + 1) × (x ≡ m + i) × Contains (row i) y))
later_more Old mid now row m n inv adds x y = (
  λ h. elim ((adds x y).0 h) [
    | inl l ↦ elim ((inv x y).0 l) [ inl a ↦ inl a | inr b ↦ let (i, lt, e, c) = b in inr (i, omega arith, e, c) ]
    | inr r ↦ inr (n, omega arith, r.0, r.1)
  ],
  λ h. (adds x y).1 (elim h [
    | inl a ↦ inl ((inv x y).1 (inl a))
    | inr b ↦ let (i, lt, e, c) = b in elim (cases_eq i n) [
      | inl same ↦ inr (subst (λ j. x ≡ m + j) same e, subst (λ j. Contains (row j) y) same c)
      | inr ne ↦ inl ((inv x y).1 (inr (i, omega arith, e, c)))
    ]
  ]),
)

-- what was added by a loop that was cut off
pub some_more :
    (old now : List (List ℕ)) (from : ℕ) (to : List ℕ) (n : ℕ) → ((i j : ℕ) → HasEdge now i j ↔ (HasEdge old i j ⊎ ((i ≡ from) × Contains (take n to) j))) →
    AddsSomeEdges old now from to
some_more old now from to n inv =
    record {
      kept = λ i j h. (inv i j).1 (inl h);
      within = λ i j h. elim ((inv i j).0 h) [
        | inl l ↦ inl l
        | inr r ↦ inr (r.0, subst (λ xs. Contains xs j) (take-append-drop n to) (Contains-append_left (take n to) (drop n to) j r.1))
      ];
    }
