-- A search in breadth comes to each task by the first way that leads there, so the first circle that it finds is the first of all.
use Rattle.std.proofs.Common.{◌≡◌, ◌↔◌, ℕ, ◌+◌, ◌<◌, ◌≤◌, Bool, true, false, List, [], ◌∷◌, ◌++◌, length, length-append, length-set, get_or, replicate, take, set, arith, sym, ◌∙◌, ap, subst, refl, inl, inr, ◌⊎◌, append_assoc}
use Rattle.std.specs.Prelude.{AllPairs, Contains, MatchBool}
use Rattle.std.proofs.lemmas.Bool.{cases_lt}
use Rattle.std.proofs.lemmas.List.{get_or-replicate, get_or-take, get_or_append_left, get_or_at, get_or_default, get_or_past, length-replicate, length-take-le, take_more}
use Rattle.std.proofs.lemmas.List.Elements.{Contains-append_left, Contains-push, Contains-push_cases}
use Rattle.armus_base.specs.declared.ids.TaskId.{TaskId}
use Rattle.armus_base.specs.Finals.{list_below}
use Rattle.armus_base.proofs.Below.{length-list_below}
use Rattle.armus_base.proofs.Counts.{IsDistinct-push, distinct_le}
use Rattle.armus_base.proofs.Elements.{nothing_in_nil}
use Rattle.explain_deadlock.specs.Circles.{IsListedBefore, IsCircleThrough, IsFirstThrough, IsNoLater, LeadsBackTo}
use Rattle.explain_deadlock.specs.declared.circle.Search.{Search}
use Rattle.explain_deadlock.specs.inside.Searches.{AreWays, IsFollower, IsLooking, IsSearched}
use Rattle.explain_deadlock.proofs.ListOrder.{before_last, before_push, no_later_cons, no_later_more, no_later_push, no_later_trans, nothing_before}
use Rattle.explain_deadlock.proofs.TasksThat.{task_below}
use Rattle.explain_deadlock.proofs.VerdictWalks.{set_task_flags}

module _ (next : TaskId → List TaskId) (t : TaskId) where
  abbrev R : TaskId → TaskId → Type 0
  R a b = Contains (next a) b

  -- a walk goes on to one more task
  leads_push : (x y u : TaskId) (xs : List TaskId) → LeadsBackTo R x u xs → R x y → LeadsBackTo R y u (xs ++ x ∷ [])
  leads_push x y u [] one step = (one, step)
  leads_push x y u (v ∷ xs) one step = (one.0, leads_push x y v xs one.1 step)

  module _ (at : ℕ) (looked : List TaskId) (queue : List TaskId) (parents : List ℕ) (seen : List Bool) (s : IsSearched next t at looked queue parents seen) where
    abbrev node : ℕ → TaskId
    node k = get_or queue k t

    abbrev mother : ℕ → ℕ
    mother k = get_or parents k 0

    abbrev way : ℕ → List TaskId
    way k = get_or s.ways k []

    -- ---- one more follower of the task at this place

    module _ (u : TaskId) (within : at < length queue) (is : R (node at) u) (ascend : (v : TaskId) → Contains looked v → v.0 < u.0) where
      -- each way so far is before the one to it
      later : (k : ℕ) → k < length queue → IsListedBefore (way k) (way at ++ u ∷ [])
      later k lt =
          elim (cases_lt 0 k) [
            | inl some ↦
                let e : way k ≡ way (mother k) ++ node k ∷ [] = s.are.longer k some lt in
                subst (λ w. IsListedBefore w (way at ++ u ∷ [])) (sym e)
                (elim (s.parent k some lt) [
                  | inl less ↦ before_push (way (mother k)) (way at) (node k) u (s.ordered (mother k) at less within)
                  | inr (same, there) ↦ subst (λ m. IsListedBefore (way m ++ node k ∷ []) (way at ++ u ∷ [])) (sym same) (before_last (way at) (node k) u (ascend (node k) there))
                ])
            | inr none ↦
                let zero_is : k ≡ 0 = omega arith in
                subst (λ m. IsListedBefore (way m) (way at ++ u ∷ [])) (sym zero_is) (subst (λ w. IsListedBefore w (way at ++ u ∷ [])) (sym s.are.none) (nothing_before (way at) u))
          ]

      more_looked : (v : TaskId) → Contains looked v → Contains (looked ++ u ∷ []) v
      more_looked v there = Contains-append_left looked (u ∷ []) v there

      -- the search has come to it already
      module _ (known : get_or seen u.0 false ≡ true) where
        to_it : (j : ℕ) × (j < length queue) × (node j ≡ u) × IsNoLater (way j) (way at ++ u ∷ [])
        to_it =
            let (j, lt, e) = (s.marks u.0).0 known in
            (j, lt, get_or_default queue j t u lt ∙ e, inr (later j lt))

        pub passed_by : IsSearched next t at (looked ++ u ∷ []) queue parents seen
        passed_by = record {
          ways = s.ways;
          are = s.are;
          distinct = s.distinct;
          inside = s.inside;
          marks = s.marks;
          leads = s.leads;
          ordered = s.ordered;
          parent = λ k some lt. elim (s.parent k some lt) [ inl less ↦ inl less | inr (same, there) ↦ inr (same, more_looked (node k) there) ];
          covered = λ k v lt follows which.
              elim which [
                | inl less ↦ s.covered k v lt follows (inl less)
                | inr (same, there) ↦ elim (Contains-push_cases looked u v there) [
                  | inl old ↦ s.covered k v lt follows (inr (same, old))
                  | inr new ↦
                      subst (λ x. (j : ℕ) × (j < length queue) × (node j ≡ x) × IsNoLater (way j) (way k ++ x ∷ [])) new
                      (subst (λ m. (j : ℕ) × (j < length queue) × (node j ≡ u) × IsNoLater (way j) (way m ++ u ∷ [])) (sym same) to_it)
                ]
              ];
          unmet = s.unmet;
        }

      -- or comes to it now
      module _ (new : get_or seen u.0 false ≡ false) (lt_seen : u.0 < length seen) where
        abbrev queue' : List TaskId
        queue' = queue ++ u ∷ []

        abbrev parents' : List ℕ
        parents' = parents ++ at ∷ []

        abbrev ways' : List (List TaskId)
        ways' = s.ways ++ (way at ++ u ∷ []) ∷ []

        n_queue : length queue' ≡ length queue + 1
        n_queue = length-append queue (u ∷ [])

        n_parents : length parents' ≡ length queue + 1
        n_parents = length-append parents (at ∷ []) ∙ ap (λ n. n + 1) s.are.parented

        n_ways : length ways' ≡ length queue + 1
        n_ways = length-append s.ways ((way at ++ u ∷ []) ∷ []) ∙ ap (λ n. n + 1) s.are.led

        node_is : (k : ℕ) → k < length queue → get_or queue' k t ≡ node k
        node_is k lt = get_or_append_left queue (u ∷ []) t k lt

        mother_is : (k : ℕ) → k < length queue → get_or parents' k 0 ≡ mother k
        mother_is k lt = get_or_append_left parents (at ∷ []) 0 k (let n = s.are.parented in omega arith)

        way_is : (k : ℕ) → k < length queue → get_or ways' k [] ≡ way k
        way_is k lt = get_or_append_left s.ways ((way at ++ u ∷ []) ∷ []) [] k (let n = s.are.led in omega arith)

        node_last : (k : ℕ) → k ≡ length queue → get_or queue' k t ≡ u
        node_last k e = get_or_at queue u [] t k (sym e)

        mother_last : (k : ℕ) → k ≡ length queue → get_or parents' k 0 ≡ at
        mother_last k e = get_or_at parents at [] 0 k (s.are.parented ∙ sym e)

        way_last : (k : ℕ) → k ≡ length queue → get_or ways' k [] ≡ way at ++ u ∷ []
        way_last k e = get_or_at s.ways (way at ++ u ∷ []) [] [] k (s.are.led ∙ sym e)

        split : (k : ℕ) → k < length queue' → (k < length queue) ⊎ (k ≡ length queue)
        split k lt = elim (cases_lt k (length queue)) [ inl less ↦ inl less | inr more ↦ inr (let n = n_queue in omega arith) ]

        are' : AreWays t queue' parents' ways'
        are' = record {
          some = let n = n_queue in omega arith;
          parented = n_parents ∙ sym n_queue;
          led = n_ways ∙ sym n_queue;
          first = node_is 0 s.are.some ∙ s.are.first;
          none = way_is 0 s.are.some ∙ s.are.none;
          before = λ k some lt. elim (split k lt) [
            | inl old ↦ subst (λ m. m < k) (sym (mother_is k old)) (s.are.before k some old)
            | inr last ↦ subst (λ m. m < k) (sym (mother_last k last)) (omega arith)
          ];
          longer = λ k some lt. elim (split k lt) [
            | inl old ↦
                let less : mother k < k = s.are.before k some old in
                let p : get_or ways' (get_or parents' k 0) [] ≡ way (mother k) = ap (λ m. get_or ways' m []) (mother_is k old) ∙ way_is (mother k) (omega arith) in
                way_is k old ∙ s.are.longer k some old ∙ sym (ap (λ w. w ++ get_or queue' k t ∷ []) p ∙ ap (λ x. way (mother k) ++ x ∷ []) (node_is k old))
            | inr last ↦
                let p : get_or ways' (get_or parents' k 0) [] ≡ way at = ap (λ m. get_or ways' m []) (mother_last k last) ∙ way_is at within in
                way_last k last ∙ sym (ap (λ w. w ++ get_or queue' k t ∷ []) p ∙ ap (λ x. way at ++ x ∷ []) (node_last k last))
          ];
        }

        fresh : Contains queue u → ⊥
        fresh there = let known : get_or seen u.0 false ≡ true = (s.marks u.0).1 there in cc

        leads' : (k : ℕ) → k < length queue' → (v : TaskId) → R (get_or queue' k t) v → LeadsBackTo R v t (get_or ways' k [])
        leads' k lt v follows =
            elim (split k lt) [
              | inl old ↦ subst (λ w. LeadsBackTo R v t w) (sym (way_is k old)) (s.leads k old v (subst (λ x. R x v) (node_is k old) follows))
              | inr last ↦
                  subst (λ w. LeadsBackTo R v t w) (sym (way_last k last)) (leads_push u v t (way at) (s.leads at within u is) (subst (λ x. R x v) (node_last k last) follows))
            ]

        ordered' : (j k : ℕ) → j < k → k < length queue' → IsListedBefore (get_or ways' j []) (get_or ways' k [])
        ordered' j k less lt =
            let old_j : j < length queue = (let n = n_queue in omega arith) in
            subst (λ w. IsListedBefore w (get_or ways' k [])) (sym (way_is j old_j))
            (elim (split k lt) [
              | inl old ↦ subst (λ w. IsListedBefore (way j) w) (sym (way_is k old)) (s.ordered j k less old)
              | inr last ↦ subst (λ w. IsListedBefore (way j) w) (sym (way_last k last)) (later j old_j)
            ])

        parent' : (k : ℕ) → 0 < k → k < length queue' → (get_or parents' k 0 < at) ⊎ ((get_or parents' k 0 ≡ at) × Contains (looked ++ u ∷ []) (get_or queue' k t))
        parent' k some lt =
            elim (split k lt) [
              | inl old ↦ elim (s.parent k some old) [
                | inl less ↦ inl (subst (λ m. m < at) (sym (mother_is k old)) less)
                | inr (same, there) ↦ inr (mother_is k old ∙ same, subst (λ x. Contains (looked ++ u ∷ []) x) (sym (node_is k old)) (more_looked (node k) there))
              ]
              | inr last ↦ inr (mother_last k last, subst (λ x. Contains (looked ++ u ∷ []) x) (sym (node_last k last)) (Contains-push looked u))
            ]

        -- what was found before is there still
        found' : (k : ℕ) (v : TaskId) → k < length queue → ((j : ℕ) × (j < length queue) × (node j ≡ v) × IsNoLater (way j) (way k ++ v ∷ [])) →
            (j : ℕ) × (j < length queue') × (get_or queue' j t ≡ v) × IsNoLater (get_or ways' j []) (get_or ways' k [] ++ v ∷ [])
        found' k v lt (j, old, there, way_to) = (
          j,
          (let n = n_queue in omega arith),
          node_is j old ∙ there,
          subst (λ w. IsNoLater (get_or ways' j []) (w ++ v ∷ [])) (sym (way_is k lt)) (subst (λ w. IsNoLater w (way k ++ v ∷ [])) (sym (way_is j old)) way_to),
        )

        covered' : (k : ℕ) (v : TaskId) → k < length queue' → R (get_or queue' k t) v → (k < at) ⊎ ((k ≡ at) × Contains (looked ++ u ∷ []) v) →
            (j : ℕ) × (j < length queue') × (get_or queue' j t ≡ v) × IsNoLater (get_or ways' j []) (get_or ways' k [] ++ v ∷ [])
        covered' k v lt follows which =
            elim which [
              | inl less ↦
                  let old : k < length queue = omega arith in
                  found' k v old (s.covered k v old (subst (λ x. R x v) (node_is k old) follows) (inl less))
              | inr (same, there) ↦
                  let old : k < length queue = omega arith in
                  elim (Contains-push_cases looked u v there) [
                    | inl before ↦ found' k v old (s.covered k v old (subst (λ x. R x v) (node_is k old) follows) (inr (same, before)))
                    | inr it ↦ (
                      length queue,
                      (let n = n_queue in omega arith),
                      node_last (length queue) refl ∙ it,
                      inl
                          (way_last (length queue) refl ∙ ap (λ x. way at ++ x ∷ []) it
                          ∙ ap (λ w. w ++ v ∷ []) (sym (ap (λ m. get_or ways' m []) same ∙ way_is at within))),
                    )
                  ]
            ]

        pub come_to : IsSearched next t at (looked ++ u ∷ []) queue' parents' (set seen u.0 true)
        come_to = record {
          ways = ways';
          are = are';
          distinct = IsDistinct-push queue u s.distinct fresh;
          inside = λ x there.
              let n : length (set seen u.0 true) ≡ length seen = length-set seen u.0 true in
              elim (Contains-push_cases queue u x there) [
                | inl old ↦ (let lt = s.inside x old in omega arith)
                | inr it ↦ subst (λ (y : TaskId). y.0 < length (set seen u.0 true)) it (omega arith)
              ];
          marks = set_task_flags seen queue u lt_seen s.marks;
          leads = leads';
          ordered = ordered';
          parent = parent';
          covered = covered';
          unmet = λ k less lt follows. (let old : k < length queue = omega arith in s.unmet k less old (subst (λ x. R x t) (node_is k old) follows));
        }

    -- ---- all followers of the task at this place are looked at

    pub looked_at : (followers : List TaskId) → at < length queue → next (node at) ≡ followers → ((v : TaskId) → Contains followers v → Contains looked v) →
        (Contains followers t → ⊥) → IsSearched next t (at + 1) [] queue parents seen
    looked_at followers within same all not_met = record {
      ways = s.ways;
      are = s.are;
      distinct = s.distinct;
      inside = s.inside;
      marks = s.marks;
      leads = s.leads;
      ordered = s.ordered;
      parent = λ k some lt. elim (s.parent k some lt) [ inl less ↦ inl (omega arith) | inr (equal, there) ↦ inl (omega arith) ];
      covered = λ k v lt follows which.
          elim which [
            | inl less ↦ elim (cases_lt k at) [
              | inl before ↦ s.covered k v lt follows (inl before)
              | inr here ↦
                  let e : k ≡ at = omega arith in
                  s.covered k v lt follows (inr (e, all v (subst (λ xs. Contains xs v) same (subst (λ m. Contains (next (node m)) v) e follows))))
            ]
            | inr (equal, there) ↦ absurd (nothing_in_nil v there)
          ];
      unmet = λ k less lt follows.
          elim (cases_lt k at) [
            | inl before ↦ s.unmet k before lt follows
            | inr here ↦
                let e : k ≡ at = omega arith in
                not_met (subst (λ xs. Contains xs t) same (subst (λ m. Contains (next (node m)) t) e follows))
          ];
    }

  -- ---- between two places

  module _ (at : ℕ) (queue : List TaskId) (parents : List ℕ) (seen : List Bool) (s : IsSearched next t at [] queue parents seen) where
    abbrev way_of : ℕ → List TaskId
    way_of k = get_or s.ways k []

    -- a walk back to t from a task of the queue passes one that was not looked at, and no way is before the one to it
    passes : (i : ℕ) (u : TaskId) (front rest : List TaskId) → i < length queue → get_or queue i t ≡ u → IsNoLater (way_of i) front → LeadsBackTo R t u rest →
        (j : ℕ) × (at ≤ j) × (j < length queue) × IsNoLater (way_of j) (front ++ rest)
    passes i u front [] lt there no_later leads =
        elim (cases_lt i at) [
          | inl looked ↦ absurd (s.unmet i looked lt (subst (λ x. R x t) (sym there) leads))
          | inr ahead ↦ (i, ahead, lt, no_later_more (way_of i) front [] no_later)
        ]
    passes i u front (x ∷ rest) lt there no_later leads =
        elim (cases_lt i at) [
          | inl looked ↦
              let (j, inside, is, way_to) = s.covered i x lt (subst (λ y. R y x) (sym there) leads.0) (inl looked) in
              let longer : IsNoLater (way_of j) (front ++ x ∷ []) =
              no_later_trans (way_of j) (way_of i ++ x ∷ []) (front ++ x ∷ []) way_to (no_later_push (way_of i) front x no_later) in
              let (k, after, within, found) = passes j x (front ++ x ∷ []) rest inside is longer leads.1 in
              (k, after, within, subst (λ xs. IsNoLater (way_of k) xs) (append_assoc front (x ∷ []) rest) found)
          | inr ahead ↦ (i, ahead, lt, no_later_more (way_of i) front (x ∷ rest) no_later)
        ]

    passes_from : (rest : List TaskId) → LeadsBackTo R t t rest → (j : ℕ) × (at ≤ j) × (j < length queue) × IsNoLater (way_of j) rest
    passes_from rest leads = passes 0 t [] rest s.are.some s.are.first (inl s.are.none) leads

    -- the first place that was not looked at has the first way
    first_ahead : (j : ℕ) → at ≤ j → j < length queue → IsNoLater (way_of at) (way_of j)
    first_ahead j after inside =
        elim (cases_lt at j) [ inl less ↦ inr (s.ordered at j less inside) | inr more ↦ (let e : at ≡ j = omega arith in inl (ap way_of e)) ]

    no_earlier : (other : List TaskId) → IsCircleThrough R t other → IsNoLater (t ∷ way_of at) other
    no_earlier [] closes = absurd closes
    no_earlier (u ∷ rest) closes =
        let (j, after, inside, is) = passes_from rest closes.1 in
        subst (λ x. IsNoLater (t ∷ way_of at) (x ∷ rest)) (sym closes.0)
        (no_later_cons t (way_of at) rest (no_later_trans (way_of at) (way_of j) rest (first_ahead j after inside) is))

    -- where the task at this place waits for t, the first circle is found
    pub first_found : at < length queue → R (get_or queue at t) t → IsFirstThrough R t (t ∷ way_of at)
    first_found within meets = record { closes = (refl, s.leads at within t meets); first = no_earlier }

    -- and a search that has looked at each task of its queue finds that there is no circle
    pub none_found : (circle : List TaskId) → IsCircleThrough R t circle → at < length queue
    none_found [] closes = absurd closes
    none_found (u ∷ rest) closes = let (j, after, inside, is) = passes_from rest closes.1 in omega arith

-- a search that has come to one task
pub begun : (next : TaskId → List TaskId) (t : TaskId) (seen : List Bool) → t.0 < length seen → ((v : ℕ) → (get_or seen v false ≡ true) ↔ (v ≡ t.0)) →
    IsSearched next t 0 [] (t ∷ []) (0 ∷ []) seen
begun next t seen lt marks = record {
  ways = [] ∷ [];
  are = record {
    some = omega arith;
    parented = refl;
    led = refl;
    first = refl;
    none = refl;
    before = λ k some lt. absurd (omega arith);
    longer = λ k some lt. absurd (omega arith);
  };
  distinct = IsDistinct-push [] t tt (λ there. nothing_in_nil t there);
  inside = λ u there. elim (Contains-push_cases [] t u there) [ inl none ↦ absurd (nothing_in_nil u none) | inr it ↦ subst (λ (x : TaskId). x.0 < length seen) it lt ];
  marks = λ v. (
    λ is. subst (λ (n : ℕ). Contains (t ∷ []) (record { 0 = n })) (sym ((marks v).0 is)) (Contains-push [] t),
    λ there. (marks v).1 (elim (Contains-push_cases [] t (record { 0 = v }) there) [ inl none ↦ absurd (nothing_in_nil (record { 0 = v }) none) | inr it ↦ sym (ap (λ (x : TaskId). x.0) it) ]),
  );
  leads = λ k lt v follows. (let zero_is : k ≡ 0 = omega arith in by k zero_is v follows);
  ordered = λ j k less lt. absurd (omega arith);
  parent = λ k some lt. absurd (omega arith);
  covered = λ k v lt follows which. elim which [ inl less ↦ absurd (omega arith) | inr (same, there) ↦ absurd (nothing_in_nil v there) ];
  unmet = λ k less lt follows. omega arith;
}
  where
    by : (k : ℕ) → k ≡ 0 → (v : TaskId) → Contains (next (get_or (t ∷ []) k t)) v → LeadsBackTo (λ a b. Contains (next a) b) v t (get_or ([] ∷ []) k [])
    by k is v follows =
        subst (λ m. LeadsBackTo (λ a b. Contains (next a) b) v t (get_or ([] ∷ []) m [])) (sym is) (subst (λ m. Contains (next (get_or (t ∷ []) m t)) v) is follows)

module _ (next : TaskId → List TaskId) (t : TaskId) (at : ℕ) (followers looked : List TaskId) (s : Search) (l : IsLooking next t at followers looked s) (u : TaskId)
    (f : IsFollower followers looked u) where
  follows : Contains (next (get_or s.queue.items at t)) u
  follows = subst (λ xs. Contains xs u) (sym l.are) f.there

  pub look_by : (new : Search) → new.queue.items ≡ s.queue.items → new.parents.items ≡ s.parents.items → new.seen.items ≡ s.seen.items →
      get_or s.seen.items u.0 false ≡ true → IsLooking next t at followers (looked ++ u ∷ []) new
  look_by new q p m known =
      let it = passed_by next t at looked s.queue.items s.parents.items s.seen.items l.searched u l.inside follows f.behind known in
      record { searched = rw (q, p, m) it; inside = rw q l.inside; are = rw q l.are }

  pub look_now : (new : Search) → new.queue.items ≡ s.queue.items ++ u ∷ [] → new.parents.items ≡ s.parents.items ++ at ∷ [] → new.seen.items ≡ set s.seen.items u.0 true →
      get_or s.seen.items u.0 false ≡ false → u.0 < length s.seen.items → IsLooking next t at followers (looked ++ u ∷ []) new
  look_now new q p m unknown lt =
      let it = come_to next t at looked s.queue.items s.parents.items s.seen.items l.searched u l.inside follows f.behind unknown lt in
      record {
        searched = rw (q, p, m) it;
        inside = rw q (let n = length-append s.queue.items (u ∷ []) in let i = l.inside in omega arith);
        are = rw q (ap next (get_or_append_left s.queue.items (u ∷ []) t at l.inside) ∙ l.are);
      }

-- one more of the followers is looked at
pub one_more : (next : TaskId → List TaskId) (t : TaskId) (at : ℕ) (followers : List TaskId) → AllPairs (λ (u v : TaskId). u.0 < v.0) followers → (k : ℕ) (d : TaskId) → k < length followers →
    (s new : Search) → IsLooking next t at followers (take k followers) s →
    ((looked : List TaskId) → IsLooking next t at followers looked s → IsFollower followers looked (get_or followers k d) → IsLooking next t at followers (looked ++ get_or followers k d ∷ []) new) →
    IsLooking next t at followers (take (k + 1) followers) new
one_more next t at followers ascend k d lt s new l more =
    let n = length-take-le k followers (omega arith) in
    let f : IsFollower followers (take k followers) (get_or followers k d) =
    record {
      there = (k, lt, get_or_default followers k (get_or followers k d) d lt);
      behind = λ v (j, inside, is).
          let less : j < k = omega arith in
          subst (λ (x : TaskId). x.0 < (get_or followers k d).0) (sym (get_or-take k followers j d less) ∙ get_or_default (take k followers) j d v inside ∙ is) (ascend j k d less lt);
    } in
    subst (λ xs. IsLooking next t at followers xs new) (sym (take_more followers k d lt)) (more (take k followers) l f)

-- all followers are looked at, and t is none of them
pub looked_all : (next : TaskId → List TaskId) (t : TaskId) (at : ℕ) (followers : List TaskId) (s : Search) → IsLooking next t at followers followers s → (Contains followers t → ⊥) →
    IsSearched next t (at + 1) [] s.queue.items s.parents.items s.seen.items
looked_all next t at followers s l not_met =
    looked_at next t at followers s.queue.items s.parents.items s.seen.items l.searched followers l.inside l.are (λ v there. there) not_met

-- no flag is set where none was
pub none_set : (flags : List Bool) (n : ℕ) → flags ≡ replicate n false → (v : ℕ) → get_or flags v false ≡ false
none_set flags n are v =
    elim (cases_lt v n) [
      | inl lt ↦ rw are (get_or-replicate n v false false lt)
      | inr out ↦ get_or_past flags v false (omega (arith, ap length are, length-replicate n false))
    ]

-- what an answer tells
pub met : (tasks : List TaskId) (t : TaskId) (b : Bool) → MatchBool b (Contains tasks t) (Contains tasks t → ⊥) → b ≡ true → Contains tasks t
met tasks t true there is = there
met tasks t false there is = absurd (cc)

pub not_met : (tasks : List TaskId) (t : TaskId) (b : Bool) → MatchBool b (Contains tasks t) (Contains tasks t → ⊥) → b ≡ false → Contains tasks t → ⊥
not_met tasks t true there is = absurd (cc)
not_met tasks t false there is = there

-- the queue is no longer than there are tasks
pub short : (next : TaskId → List TaskId) (t : TaskId) (at : ℕ) (looked queue : List TaskId) (parents : List ℕ) (seen : List Bool) → IsSearched next t at looked queue parents seen →
    length queue ≤ length seen
short next t at looked queue parents seen s =
    let le = distinct_le queue (list_below (λ u. record { 0 = u }) (length seen)) s.distinct (λ u there. task_below (length seen) u (s.inside u there)) in
    omega (arith, le, length-list_below {A = TaskId} (λ (u : ℕ). record { 0 = u }) (length seen))
