-- Distances from a goal, and the nearest of some tasks.
use Rattle.std.proofs.Common.{◌≡◌, ℕ, zero, suc, ◌+◌, ◌-◌, ◌<◌, ◌≤◌, ◌^◌, true, false, Option, None, List, [], ◌∷◌, ◌++◌, length, refl, sym, ap, ◌∙◌, subst, inl, inr, arith, get_or, take}
use Rattle.std.specs.Prelude.{All, nat_lt}
use Rattle.std.proofs.Math.Dec.{ltb}
use Rattle.std.proofs.lemmas.Bool.{cases_eq, cases_lt, lt-ltb, le-ltb}
use Rattle.std.proofs.lemmas.List.{get_or_default, get_or_push, get_or_append_left, get_or-take, length_push, length-take}
use Rattle.std.proofs.lemmas.List.Elements.{All-contains, Contains-push, Contains-push_cases}
use Rattle.armus_base.specs.declared.ids.TaskId.{TaskId}
use Rattle.armus_base.specs.calls.Relations.{Walk}
use Rattle.dep_state.specs.calls.Picks.{Ascend}
use Rattle.order_graph.specs.calls.Adding.{IsNearest}
use Rattle.order_graph.specs.calls.Orders.{OrderValue, IsEdge, IsOrder, IsTaskOf, position_of, successors_of}
use Rattle.order_graph.specs.declared.distances.Near.{Near}
use Rattle.order_graph.specs.inside.Distances.{IsDistance, IsListedIn, IsNearestOf, NeverReaches, TellDistances, TellsDistance, distance_in}
use Rattle.order_graph.specs.inside.Mending.{IsStretch}
use Rattle.order_graph.proofs.Climbing.{climbs, to_task}

-- a nearer one takes its place
pub is_nearer :
    (o : OrderValue) (goal : TaskId) (ts : List TaskId) (near : Near) (next : TaskId) (left : ℕ) → IsNearestOf o goal ts near →
    IsDistance o goal next left → left < near.left → IsNearestOf o goal (ts ++ next ∷ []) (record { next = next; left = left })
is_nearer o goal ts near next left is found lt =
    record {
      among = Contains-push ts next;
      walk = found.walk;
      least = λ c n m w. elim (Contains-push_cases ts next c m) [
        | inl l ↦ elim (is.least c n l w) [ inl a ↦ inl (omega arith) | inr b ↦ inl (omega (arith, b.0)) ]
        | inr e ↦
            let d : left ≤ n = found.least n (subst (λ x. Walk (IsEdge o) n x goal) (sym e) w) in
            let same : next.0 ≡ c.0 = ap (λ x. x.0) e in
            elim (cases_eq left n) [ inl f ↦ inr (f, omega arith) | inr ne ↦ inl (omega arith) ]
      ];
    }

module _ (o : OrderValue) (ok : IsOrder o) (goal : TaskId) where
  -- a task behind the goal does not reach it
  behind_never : (t : TaskId) → position_of o goal < position_of o t → NeverReaches o goal t
  behind_never t lt n w = omega (arith, climbs o ok n t goal w)

  -- a list that tells distances tells them of all tasks as far ahead as it reaches
  pub tells_each : (far : List (Option ℕ)) → TellDistances o goal far → (t : TaskId) → IsListedIn o goal far t → TellsDistance o goal t (distance_in o goal far t)
  tells_each far tells t listed =
      elim (cases_lt (position_of o goal) (position_of o t)) [
        | inl past ↦
            let on : nat_lt (position_of o goal) (position_of o t) ≡ true = lt-ltb (position_of o goal) (position_of o t) past in
            rw on (behind_never t past)
        | inr le ↦ tells t listed le
      ]

  -- the goal is at distance 0
  pub goal_distance : IsDistance o goal goal 0
  goal_distance = record { walk = refl; least = λ m w. omega arith }

  module _ (t : TaskId) (other : t ≡ goal → ⊥) where
    -- another task that reaches the goal has a successor that does
    pub by_successor : (n : ℕ) → Walk (IsEdge o) n t goal → (c : TaskId) × (m : ℕ) × IsEdge o t c × Walk (IsEdge o) m c goal × (suc m ≡ n)
    by_successor zero e = absurd (other e)
    by_successor (suc n) (c, h, w) = (c, n, h, w, refl)

    pub none_near : All (NeverReaches o goal) (successors_of o t) → NeverReaches o goal t
    none_near none n w = let (c, m, h, v, e) = by_successor n w in All-contains (NeverReaches o goal) (successors_of o t) c none h m v

    pub some_near : (near : Near) → IsNearestOf o goal (successors_of o t) near → IsDistance o goal t (near.left + 1)
    some_near near is =
        record {
          walk = let e : suc near.left ≡ near.left + 1 = omega arith in subst (λ k. Walk (IsEdge o) k t goal) e (near.next, is.among, is.walk);
          least = λ n w.
              let (c, m, h, v, e) = by_successor n w in
              elim (is.least c m h v) [ inl a ↦ omega arith | inr b ↦ omega (arith, b.0) ];
        }

  -- the nearest of a task's successors is its nearest successor
  pub nearest_is : (t : TaskId) (near : Near) → IsNearestOf o goal (successors_of o t) near → IsNearest o goal t near.next
  nearest_is t near is = record { edge = is.among; left = near.left; walk = is.walk; least = λ c n h w. is.least c n h w }

  -- a step to a nearest task leaves room for one more
  pub near_room : (t : TaskId) (near : Near) → IsTaskOf o goal → IsNearestOf o goal (successors_of o t) near → near.left + 1 < 2 ^ 32
  near_room t near task is = omega (arith, climbs o ok near.left near.next goal is.walk, ok.forward t near.next is.among, ok.inside goal task, ok.few)

  -- a successor is listed where a task is that stands ahead by one position at most
  pub listed_next : (far : List (Option ℕ)) (t c : TaskId) → position_of o goal ≤ length far + position_of o t → IsEdge o t c → IsListedIn o goal far c
  listed_next far t c ahead h = (to_task o ok t c h, omega (arith, ok.forward t c h, ahead))

  -- one more distance, of the task that is one position further ahead
  pub tells_more :
      (far : List (Option ℕ)) (t : TaskId) (found : Option ℕ) → TellDistances o goal far → IsTaskOf o t → length far + position_of o t ≡ position_of o goal →
      TellsDistance o goal t found → TellDistances o goal (far ++ found ∷ [])
  tells_more far t found tells task at is u listed le =
      let off : nat_lt (position_of o goal) (position_of o u) ≡ false = le-ltb (position_of o goal) (position_of o u) le in
      let n : length (far ++ found ∷ []) ≡ length far + 1 = length_push far found in
      elim (cases_eq (position_of o goal - position_of o u) (length far)) [
        | inl e ↦
            let same : t ≡ u = ok.distinct t u task listed.0 (omega arith) in
            rw (off, get_or_push far found None (position_of o goal - position_of o u) (sym e)) (subst (λ x. TellsDistance o goal x found) same is)
        | inr ne ↦
            let lt : position_of o goal - position_of o u < length far = omega (arith, listed.1) in
            let old = tells u (listed.0, omega arith) le in
            rw (off, get_or_append_left far (found ∷ []) None (position_of o goal - position_of o u) lt) (rw off at old)
      ]

  -- nothing is told by the empty list
  pub tells_none : TellDistances o goal []
  tells_none t listed le = absurd (omega (arith, listed.1))

-- those ahead of a task in a row are below it
pub ahead_below : (row : List TaskId) (i : ℕ) (t : TaskId) → Ascend row → i < length row → t ≡ get_or row i t → All (λ c. c.0 ≤ t.0) (take i row)
ahead_below row i t up lt at k d in' =
    let n = length-take i row in
    let l : k < i = omega arith in
    let e : t ≡ get_or row i d = at ∙ get_or_default row i t d lt in
    rw (get_or-take i row k d l) (omega (arith, up k i d l lt, ap (λ x. x.0) e))

-- the task that stands so many places ahead of the end of a stretch
pub ahead_of_end :
    (o : OrderValue) (b goal : TaskId) (ts : List TaskId) → IsStretch o b goal ts → (k : ℕ) (d : TaskId) → k < length ts →
    IsTaskOf o (get_or ts (length ts - 1 - k) d) × (k + position_of o (get_or ts (length ts - 1 - k) d) ≡ position_of o goal)
ahead_of_end o b goal ts is k d lt = (is.tasks (length ts - 1 - k) d (omega arith), omega (arith, is.sized, is.each (length ts - 1 - k) d (omega arith)))
