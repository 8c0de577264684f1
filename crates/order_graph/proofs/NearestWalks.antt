-- A walk by nearest successors that is under way.
use Rattle.std.proofs.Common.{◌≡◌, refl, ◌-◌, ◌<◌, List, [], ◌∷◌, ◌++◌, length, ◌∙◌, inl, inr, arith, get_or, length-append}
use Rattle.std.proofs.lemmas.Bool.{cases_lt}
use Rattle.std.proofs.lemmas.List.{get_or_append_left, get_or_at}
use Rattle.armus_base.specs.declared.ids.TaskId.{TaskId}
use Rattle.armus_base.specs.Relations.{IsWalk}
use Rattle.armus_base.proofs.WalkCycles.{IsWalk-push}
use Rattle.order_graph.specs.calls.Adding.{IsNearest, IsNearestWalk}
use Rattle.order_graph.specs.calls.Orders.{OrderValue}

-- the tasks that were passed, and the one that stands next
pub record IsWayTo (o : OrderValue) (start goal : TaskId) (list : List TaskId) (t : TaskId) : Type 0 where
  pub none : length list ≡ 0 → t ≡ start
  pub starts : (d : TaskId) → 0 < length list → get_or list 0 d ≡ start
  pub steps : IsWalk (IsNearest o goal) list
  pub next : (d : TaskId) → 0 < length list → IsNearest o goal (get_or list (length list - 1) d) t

module _ (o : OrderValue) (start goal : TaskId) where
  pub way_begins : IsWayTo o start goal [] start
  way_begins = record { none = λ e. refl; starts = λ d lt. absurd (omega arith); steps = λ k d lt. absurd (omega arith); next = λ d lt. absurd (omega arith) }

  module _ (list : List TaskId) (t : TaskId) (way : IsWayTo o start goal list t) where
    starts_so : (d : TaskId) → get_or (list ++ t ∷ []) 0 d ≡ start
    starts_so d = elim (cases_lt 0 (length list)) [
      | inl some ↦ get_or_append_left list (t ∷ []) d 0 some ∙ way.starts d some
      | inr none ↦ get_or_at list t [] d 0 (omega arith) ∙ way.none (omega arith)
    ]

    last : (d : TaskId) → get_or (list ++ t ∷ []) (length (list ++ t ∷ []) - 1) d ≡ t
    last d = let n = length-append list (t ∷ []) in get_or_at list t [] d (length (list ++ t ∷ []) - 1) (omega arith)

    pub way_more : (next : TaskId) → IsNearest o goal t next → IsWayTo o start goal (list ++ t ∷ []) next
    way_more next near =
        let n = length-append list (t ∷ []) in
        record {
          none = λ e. absurd (omega arith);
          starts = λ d _. starts_so d;
          steps = IsWalk-push (IsNearest o goal) list t way.steps way.next;
          next = λ d _. rw (last d) near;
        }

    pub way_done : t ≡ goal → IsNearestWalk o start goal (list ++ t ∷ [])
    way_done end =
        let n = length-append list (t ∷ []) in
        record {
          some = omega arith;
          starts = starts_so;
          steps = IsWalk-push (IsNearest o goal) list t way.steps way.next;
          ends = λ d. last d ∙ end;
        }
