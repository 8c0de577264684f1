-- What a viewer has seen after it took in a seat.
use Rattle.std.proofs.Common.{◌≡◌, ℕ, true, [], ◌∷◌, Option, Some, None, length, sym, refl, ap, ◌∙◌, subst, arith, eq-eqb}
use Rattle.std.specs.Prelude.{◌&&◌, ◌||◌}
use Rattle.std.proofs.lemmas.Bool.{and_parts}
use Rattle.atomic_table.specs.Seated.{TableId}
use Rattle.armus_base.specs.Plans.{Plan}
use Rattle.armus_base.specs.calls.Seats.{IsSeenAfterTakingIn}
use Rattle.board.specs.declared.view.View.{View}
use Rattle.board.specs.calls.Views.{is_among, place_in, seen, task_of}
use Rattle.board.specs.calls.Steps.{are_ahead, are_of_one_run, both, longer_places, may_join, with_seat}
use Rattle.board.specs.calls.Seats.{IsSeat, TakesIn}
use Rattle.board.proofs.Closing.{some_task}
use Rattle.board.proofs.Ending.{ahead_at, among_last, longer_at, longer_count, longer_left, longer_right, was_joined}

none_some : (o : Option ℕ) (u : ℕ) → o ≡ None → o ≡ Some u → ⊥
none_some o u a b = cc

module _ (table : TableId) (v w x : View) (alone : v.own ≡ None) (mine : IsSeat (record { table = table; view = v })) (same_plan : v.plan ≡ w.plan)
    (count : length w.sight.places ≡ length w.plan.parents) (is : x ≡ both v w) (told : length x.sight.places ≡ length x.plan.parents) where
  joined : both v w ≡ with_seat v w × may_join v w ≡ true
  joined = was_joined v w (some_task v.plan mine.checked) (subst (λ (u : View). length u.sight.places ≡ length u.plan.parents) is told)

  pub now_is : x ≡ with_seat v w
  now_is = is ∙ joined.0

  same_count : length v.sight.places ≡ length w.sight.places
  same_count = mine.count ∙ ap (λ (q : Plan). length q.parents) same_plan ∙ sym count

  tests : are_of_one_run v.sight.places w.sight.places ≡ true ×
      (are_ahead (task_of w ∷ []) w.sight.places v.sight.places && are_ahead v.sight.exact v.sight.places w.sight.places) ≡ true
  tests = and_parts (are_of_one_run v.sight.places w.sight.places)
      (are_ahead (task_of w ∷ []) w.sight.places v.sight.places && are_ahead v.sight.exact v.sight.places w.sight.places) joined.1

  ahead : are_ahead (task_of w ∷ []) w.sight.places v.sight.places ≡ true × are_ahead v.sight.exact v.sight.places w.sight.places ≡ true
  ahead = and_parts (are_ahead (task_of w ∷ []) w.sight.places v.sight.places) (are_ahead v.sight.exact v.sight.places w.sight.places) tests.1

  own_with : place_in (longer_places v.sight.places w.sight.places) (task_of w) ≡ place_in w.sight.places (task_of w)
  own_with =
      sym (longer_right (place_in v.sight.places (task_of w)) (place_in w.sight.places (task_of w))
      (place_in (longer_places v.sight.places w.sight.places) (task_of w)) (place_in w.sight.places (task_of w))
      (longer_at v.sight.places w.sight.places same_count tests.0 (task_of w))
      (ahead_at (task_of w ∷ []) w.sight.places v.sight.places ahead.0 (task_of w) (ap (λ b. b || is_among [] (task_of w)) (eq-eqb (task_of w) (task_of w) refl))) refl)

  stays_with : (u : ℕ) → is_among v.sight.exact u ≡ true → place_in (longer_places v.sight.places w.sight.places) u ≡ place_in v.sight.places u
  stays_with u is =
      sym (longer_left (place_in v.sight.places u) (place_in w.sight.places u) (place_in (longer_places v.sight.places w.sight.places) u) (place_in v.sight.places u)
      (longer_at v.sight.places w.sight.places same_count tests.0 u)
      (ahead_at v.sight.exact v.sight.places w.sight.places ahead.1 u is) refl)

  seen_with : IsSeenAfterTakingIn (task_of w) (seen v) (seen w) (seen (with_seat v w))
  seen_with = record {
    places = longer_at v.sight.places w.sight.places same_count tests.0;
    exact = among_last v.sight.exact w.sight.exact (task_of w);
    scanned = refl;
    found = λ _. refl;
  }

  pub taken_seat : (table' : TableId) → IsSeat (record { table = table'; view = x })
  taken_seat table' = subst (λ (u : View). IsSeat (record { table = table'; view = u })) (sym now_is) (record {
    live = mine.live;
    checked = mine.checked;
    count = longer_count v.sight.places w.sight.places same_count ∙ mine.count;
    few = omega arith;
    own = λ u e. absurd (none_some v.own u alone e);
    lock = mine.lock;
  })

  pub taken : (table' seat_table : TableId) → table' ≡ table →
      TakesIn (record { table = seat_table; view = w }) (record { table = table; view = v }) (record { table = table'; view = x })
  taken table' seat_table same = record {
    seen_now = subst (λ (u : View). IsSeenAfterTakingIn (task_of w) (seen v) (seen w) (seen u)) (sym now_is) seen_with;
    own = ap (λ (u : View). (seen u).places (task_of w)) now_is ∙ own_with;
    stays = λ u is. ap (λ (y : View). (seen y).places u) now_is ∙ stays_with u is;
    same = record {
      plan = ap (λ (u : View). u.plan) now_is;
      mode = ap (λ (u : View). u.mode) now_is;
      own = ap (λ (u : View). u.own) now_is;
      holds = ap (λ (u : View). u.holds) now_is;
      spent = ap (λ (u : View). u.spent) now_is;
      count = ap (λ (u : View). length u.sight.places) now_is ∙ longer_count v.sight.places w.sight.places same_count;
    };
    loads = ap (λ (u : View). u.loads) now_is;
    table = same;
    kept = taken_seat table';
  }
