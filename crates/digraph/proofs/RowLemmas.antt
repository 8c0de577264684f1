-- A number is put into an ascending row, and a row into a graph.
use Rattle.std.proofs.Common.{◌≡◌, ℕ, zero, suc, ◌+◌, ◌*◌, ◌-◌, ◌^◌, ◌<◌, ◌≤◌, List, [], length, refl, sym, ap, ◌∙◌, subst, ◌⊎◌, inl, inr, arith, get_or, set, length-set, Result, Err}
use Rattle.std.specs.Prelude.{Contains, All, insert, ◌↔◌, replicate}
use Rattle.std.proofs.lemmas.Bool.{cases_eq, cases_lt}
use Rattle.std.proofs.lemmas.List.{get_or_default, length-map, map-set, set-get_or, get_or-replicate, length-replicate, get_or_past}
use Rattle.std.proofs.lemmas.List.Edits.{length-insert, get_or-insert_below, get_or-insert_at, get_or-insert_above}
use Rattle.std.proofs.lemmas.List.Sums.{sum_by-set, sum_by-le}
use Rattle.std.proofs.lemmas.List.Sorted.{searched}
use Rattle.std.proofs.lemmas.Result.{MatchResult-at_err}
use Rattle.std.specs.List.Sorted.{IsBinarySearchResult}
use Rattle.std.specs.Ordering.{nat_cmp}
use Rattle.digraph.specs.calls.Graph.{HasEdge, AddsEdge, graph_of, Ascends}
use Rattle.digraph.specs.inside.Rows.{IsGraph, IsRow, edge_count, IsDigraph}
use Rattle.armus_base.proofs.Counts.{count_more, count_same, count_none}
use Rattle.armus_base.proofs.Elements.{nothing_in_nil}
use Rattle.digraph.proofs.SearchSteps.{row_at}
use Rattle.std.specs.Prelude.{Vec}
use Rattle.std.specs.Global.{Global}
use Rattle.digraph.proofs.SearchLemmas.{at_set}

-- where an element of a list after an insert stood before
data Place (xs : List ℕ) (i b k : ℕ) : Type 0 where
  place_low : k < i → get_or (insert xs i b) k 0 ≡ get_or xs k 0 → Place xs i b k
  place_here : k ≡ i → get_or (insert xs i b) k 0 ≡ b → Place xs i b k
  place_high : i < k → get_or (insert xs i b) k 0 ≡ get_or xs (k - 1) 0 → Place xs i b k

module _ (xs : List ℕ) (i b : ℕ) (le : i ≤ length xs) where
  -- a fact on each element after an insert
  at_insert : (P : ℕ → Type 0) → ((k : ℕ) → k < length xs → P (get_or xs k 0)) → P b → (k : ℕ) → k < length (insert xs i b) → P (get_or (insert xs i b) k 0)
  at_insert P all new k lt =
      let n = length-insert xs i b le in
      elim (cases_lt k i) [
        | inl low ↦ rw (get_or-insert_below xs i b 0 k low le) (all k (omega arith))
        | inr high ↦ elim (cases_eq k i) [
          | inl e ↦ subst (λ j. P (get_or (insert xs i b) j 0)) (sym e) (rw (get_or-insert_at xs i b 0 le) new)
          | inr ne ↦
              let e : k ≡ k - 1 + 1 = omega arith in
              subst (λ j. P (get_or (insert xs i b) j 0)) (sym e) (rw (get_or-insert_above xs i b 0 (k - 1) (omega arith) le) (all (k - 1) (omega arith)))
        ]
      ]

  pub All-insert : (n : ℕ) → b < n → All (λ x. x < n) xs → All (λ x. x < n) (insert xs i b)
  All-insert n lt below k d in' =
      subst (λ x. x < n) (get_or_default (insert xs i b) k 0 d in') (at_insert (λ x. x < n) (λ j l. below j 0 l) lt k in')

  pub Contains-from_insert : (x : ℕ) → Contains (insert xs i b) x → Contains xs x ⊎ (x ≡ b)
  Contains-from_insert x (k, lt, e) =
      at_insert (λ y. y ≡ x → Contains xs x ⊎ (x ≡ b)) (λ j l f. inl (j, l, get_or_default xs j x 0 l ∙ f)) (λ f. inr (sym f)) k lt
      (get_or_default (insert xs i b) k 0 x lt ∙ e)

  pub Contains-insert : (x : ℕ) → Contains xs x → Contains (insert xs i b) x
  Contains-insert x (k, lt, e) =
      let n = length-insert xs i b le in
      elim (cases_lt k i) [
        | inl low ↦ (k, omega arith, get_or-insert_below xs i b x k low le ∙ e)
        | inr high ↦ (k + 1, omega arith, get_or-insert_above xs i b x k high le ∙ e)
      ]

  pub Contains-insert_itself : Contains (insert xs i b) b
  Contains-insert_itself = (i, omega (arith, length-insert xs i b le), get_or-insert_at xs i b b le)

  place : (k : ℕ) → Place xs i b k
  place k =
      elim (cases_lt k i) [
        | inl l ↦ place_low l (get_or-insert_below xs i b 0 k l le)
        | inr h ↦ elim (cases_eq k i) [
          | inl e ↦ place_here e (subst (λ j. get_or (insert xs i b) j 0 ≡ b) (sym e) (get_or-insert_at xs i b 0 le))
          | inr ne ↦
              let e : k ≡ k - 1 + 1 = omega arith in
              place_high (omega arith) (subst (λ j. get_or (insert xs i b) j 0 ≡ get_or xs (k - 1) 0) (sym e) (get_or-insert_above xs i b 0 (k - 1) (omega arith) le))
        ]
      ]

  -- what comes before b is below it, and what comes after is above
  module _ (up : Ascends xs) (before : (k : ℕ) → k < i → get_or xs k 0 < b) (after : (k : ℕ) → i ≤ k → k < length xs → b < get_or xs k 0) where
    pub insert_absent : Contains xs b → ⊥
    insert_absent (k, lt, e) =
        let f = get_or_default xs k 0 b lt ∙ e in
        elim (cases_lt k i) [ inl low ↦ omega (arith, before k low, f) | inr high ↦ omega (arith, after k high lt, f) ]

    ascends_from : (j k : ℕ) → j < k → k < length (insert xs i b) → Place xs i b j → Place xs i b k → get_or (insert xs i b) j 0 < get_or (insert xs i b) k 0
    ascends_from j k jk lt (place_low p e) (place_low q f) = omega (arith, up j k jk (omega arith))
    ascends_from j k jk lt (place_low p e) (place_here q f) = omega (arith, before j p)
    ascends_from j k jk lt (place_low p e) (place_high q f) = let n = length-insert xs i b le in omega (arith, up j (k - 1) (omega arith) (omega arith))
    ascends_from j k jk lt (place_here p e) (place_low q f) = absurd (omega arith)
    ascends_from j k jk lt (place_here p e) (place_here q f) = absurd (omega arith)
    ascends_from j k jk lt (place_here p e) (place_high q f) = let n = length-insert xs i b le in omega (arith, after (k - 1) (omega arith) (omega arith))
    ascends_from j k jk lt (place_high p e) (place_low q f) = absurd (omega arith)
    ascends_from j k jk lt (place_high p e) (place_here q f) = absurd (omega arith)
    ascends_from j k jk lt (place_high p e) (place_high q f) = let n = length-insert xs i b le in omega (arith, up (j - 1) (k - 1) (omega arith) (omega arith))

    pub Ascends-insert : Ascends (insert xs i b)
    Ascends-insert j k jk lt = ascends_from j k jk lt (place j) (place k)

-- a row stands in place of another in a graph
pub rows_kept : (g : List (List ℕ)) (a : ℕ) (row : List ℕ) → a < length g → IsGraph g → IsRow (length g) row → IsGraph (set g a row)
rows_kept g a row lt ok new k d in' =
    let n = length-set g a row in
    rw n (at_set (λ v r. v < length g → IsRow (length g) r) g a row d lt (λ v _ l. ok v d l) (λ _. new) k (omega arith))

pub edges_added :
    (g : List (List ℕ)) (a b : ℕ) (row : List ℕ) → a < length g → ((x : ℕ) → Contains row x ↔ (Contains (get_or g a []) x ⊎ (x ≡ b))) → AddsEdge g (set g a row) a b
edges_added g a b row lt new =
    record {
      nodes = length-set g a row;
      edges = λ x y. at_set (λ v r. Contains r y ↔ (Contains (get_or g v []) y ⊎ ((v ≡ a) × (y ≡ b)))) g a row [] lt
          (λ v ne. (λ h. inl h, λ h. elim h [ inl l ↦ l | inr r ↦ absurd (ne r.0) ]))
          (λ h. elim ((new y).0 h) [ inl l ↦ inl l | inr r ↦ inr (refl, r) ], λ h. (new y).1 (elim h [ inl l ↦ inl l | inr r ↦ inr r.1 ]))
          x;
    }

-- an ascending row below n has at most n numbers
row_short : (row : List ℕ) (n : ℕ) → Ascends row → All (λ x. x < n) row → (k : ℕ) → k < length row → k ≤ get_or row k 0
row_short row n up below zero lt = omega arith
row_short row n up below (suc k) lt = omega (arith, row_short row n up below k (omega arith), up k (suc k) (omega arith) lt)

pub row_length : (row : List ℕ) (n : ℕ) → IsRow n row → length row ≤ n
row_length row n (up, below) =
    elim (cases_lt 0 (length row)) [
      | inl some ↦ omega (arith, row_short row n up below (length row - 1) (omega arith), below (length row - 1) 0 (omega arith))
      | inr none ↦ omega arith
    ]

-- so a graph has less than 2 ^ 64 edges
pub few_edges : (g : List (List ℕ)) → IsGraph g → length g < 2 ^ 32 → edge_count g + 1 < 2 ^ 64
few_edges g ok few =
    let le = sum_by-le length 4294967295 g (λ k d lt. omega (arith, row_length (get_or g k d) (length g) (ok k d lt))) in
    omega (arith, le)

-- what a search for b in an ascending row found, where b is not there
pub searched_row :
    (xs : List ℕ) (b i : ℕ) (r : Result ℕ ℕ) → r ≡ Err i → IsBinarySearchResult (λ y. nat_cmp y b) xs r → Ascends xs →
    (i ≤ length xs) × ((k : ℕ) → k < i → get_or xs k 0 < b) × ((k : ℕ) → i ≤ k → k < length xs → b < get_or xs k 0)
searched_row xs b i r is found up =
    MatchResult-at_err (λ j. (j < length xs) × (get_or xs j 0 ≡ b))
    (λ j. (j ≤ length xs) × ((k : ℕ) → k < j → get_or xs k 0 < b) × ((k : ℕ) → j ≤ k → k < length xs → b < get_or xs k 0)) i is
    (searched xs b r found (λ j k le lt. elim (cases_eq j k) [
      | inl e ↦ subst (λ u. get_or xs j 0 ≤ get_or xs u 0) e (omega arith)
      | inr ne ↦
          omega (arith, up j k (omega arith) lt)
    ]))

-- the rows of the code, one of which is replaced
module _ (rows : List (Vec ℕ Global)) (a : ℕ) (old new : Vec ℕ Global) (lt : a < length rows) (was : old ≡ get_or rows a old) where
  pub graph_set : graph_of (set rows a new) ≡ set (graph_of rows) a new.items
  graph_set = map-set (λ r. r.items) rows a new

  pub inside : a < length (graph_of rows)
  inside = rw length-map lt

  pub old_row : get_or (graph_of rows) a [] ≡ old.items
  old_row = row_at rows a old lt was

  pub old_is_row : IsGraph (graph_of rows) → IsRow (length (graph_of rows)) old.items
  old_is_row ok = subst (IsRow (length (graph_of rows))) old_row (ok a [] inside)

  pub graph_kept : IsGraph (graph_of rows) → Ascends new.items → All (λ x. x < length (graph_of rows)) new.items → IsGraph (graph_of (set rows a new))
  graph_kept ok up below = rw graph_set (rows_kept (graph_of rows) a new.items inside ok (up, below))

  pub graph_adds : (b : ℕ) → ((x : ℕ) → Contains new.items x ↔ (Contains old.items x ⊎ (x ≡ b))) → AddsEdge (graph_of rows) (graph_of (set rows a new)) a b
  graph_adds b adds = rw graph_set (edges_added (graph_of rows) a b new.items inside (λ x. rw old_row (adds x)))

  pub graph_same : new.items ≡ old.items → graph_of (set rows a new) ≡ graph_of rows
  graph_same e = graph_set ∙ ap (set (graph_of rows) a) (e ∙ sym old_row) ∙ set-get_or (graph_of rows) a []

  pub graph_count : (n : ℕ) → length new.items ≡ length old.items + n → edge_count (graph_of (set rows a new)) ≡ edge_count (graph_of rows) + n
  graph_count n e =
      let s = sum_by-set length (graph_of rows) a new.items [] inside in
      let l = ap length old_row in
      rw graph_set (omega (arith, s, l, e))

pair_parts : (y : ℕ × ℕ) (a b : ℕ) → (y ≡ (a, b)) ↔ ((y.0 ≡ a) × (y.1 ≡ b))
pair_parts y a b = (λ e. (ap (λ p. p.0) e, ap (λ p. p.1) e), λ r i. (r.0 i, r.1 i))

module _ (g h : List (List ℕ)) (a b n : ℕ) (ok : IsDigraph g n) (rows : IsGraph h) (adds : AddsEdge g h a b) where
  pub added_digraph : (HasEdge g a b → ⊥) → edge_count h ≡ edge_count g + 1 → IsDigraph h (n + 1)
  added_digraph new one =
      record {
        rows = rows;
        counted = omega (arith, one, ok.counted);
        exact = count_more (λ (p : ℕ × ℕ). HasEdge g p.0 p.1) (λ (p : ℕ × ℕ). HasEdge h p.0 p.1) n (a, b) ok.exact new (λ y. (
          λ q. elim ((adds.edges y.0 y.1).0 q) [ inl l ↦ inl l | inr r ↦ inr ((pair_parts y a b).1 r) ],
          λ q. (adds.edges y.0 y.1).1 (elim q [ inl l ↦ inl l | inr r ↦ inr ((pair_parts y a b).0 r) ]),
        ));
        few = rw adds.nodes ok.few;
      }

  pub same_digraph : HasEdge g a b → edge_count h ≡ edge_count g → IsDigraph h n
  same_digraph has none =
      record {
        rows = rows;
        counted = omega (arith, none, ok.counted);
        exact = count_same (λ (p : ℕ × ℕ). HasEdge g p.0 p.1) (λ (p : ℕ × ℕ). HasEdge h p.0 p.1) n ok.exact (λ y. (
          λ q. (adds.edges y.0 y.1).1 (inl q),
          λ q. elim ((adds.edges y.0 y.1).0 q) [ inl l ↦ l | inr r ↦ subst (λ u. HasEdge g u y.1) (sym r.0) (subst (λ u. HasEdge g a u) (sym r.1) has) ],
        ));
        few = rw adds.nodes ok.few;
      }

no_edges : (n x y : ℕ) → HasEdge (replicate n []) x y → ⊥
no_edges n x y h = elim (cases_lt x n) [
  | inl l ↦ nothing_in_nil y (subst (λ r. Contains {X = ℕ} r y) (get_or-replicate n x [] [] l) h)
  | inr m ↦ nothing_in_nil y (subst (λ r. Contains {X = ℕ} r y) (get_or_past (replicate n []) x [] (rw length-replicate m)) h)
]

-- no edges are none
no_count : (n : ℕ) → edge_count (replicate n []) ≤ n * 0
no_count n = subst (λ k. edge_count (replicate n []) ≤ k * 0) (length-replicate n [])
    (sum_by-le length 0 (replicate n []) (λ k d lt. rw (get_or-replicate n k [] d (rw length-replicate at lt)) (omega arith)))

pub empty_digraph : (n : ℕ) → n < 2 ^ 32 → IsDigraph (replicate n []) 0
empty_digraph n few =
    record {
      rows = λ k d lt. rw (get_or-replicate n k [] d (rw length-replicate at lt)) (λ i j ij l. absurd (omega arith), λ i c l. absurd (omega arith));
      counted = omega (arith, no_count n);
      exact = count_none (λ (p : ℕ × ℕ). HasEdge (replicate n []) p.0 p.1) (λ y. no_edges n y.0 y.1);
      few = rw length-replicate few;
    }
