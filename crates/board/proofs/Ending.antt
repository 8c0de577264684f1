-- A viewer takes in the seat of a task.
use Rattle.std.proofs.Common.{◌≡◌, ◌≢◌, ℕ, zero, suc, ◌<◌, ◌≤◌, Bool, true, false, List, [], ◌∷◌, ◌++◌, Option, Some, None, length, set, sym, refl, ap, ap₂, ◌∙◌, subst, arith, inl, inr, ◌⊎◌, eq-eqb, eqb-true}
use Rattle.std.specs.Prelude.{◌==◌, ◌||◌, ◌&&◌, if◌then◌else◌, nat_le, unwrap_or}
use Rattle.std.proofs.lemmas.Bool.{cases_eq, cases_lt, false≢true, le-leb, leb-true, and_parts, or_cases, or_right}
use mathlib.Core.Option.{some, none}
use lib.ListN.{get_elem?}
use Rattle.atomic_table.specs.Table.{Allows, Joins, Me, State as TableState, keeps, step}
use Rattle.atomic_table.proofs.Lists.{at_set}
use Rattle.armus_base.specs.Plans.{Plan}
use Rattle.armus_base.specs.States.{updated}
use Rattle.armus_base.specs.calls.Runs.{IsPrefix, Precedes}
use Rattle.armus_base.specs.Runs.{Place, first_place}
use Rattle.armus_base.specs.calls.Seats.{IsLonger}
use Rattle.armus_base.proofs.Steps.{updated_other, updated_same}
use Rattle.armus_base.proofs.KeepsFar.{prefixes_both}
use Rattle.board.specs.declared.mode.Mode.{Mode}
use Rattle.board.specs.declared.view.View.{View}
use Rattle.board.specs.calls.Views.{is_among, place_in, task_of}
use Rattle.board.specs.calls.Rule.{SeatFits, IsKeptBy, Owns, Stepper, by_seat, no_more, not_yet}
use Rattle.board.specs.calls.Steps.{Counted, are_ahead, are_of_one_run, both, is_prefix, longer, longer_places, may_join, precedes, spent_view, with_seat}
use Rattle.board.proofs.Seating.{GoesOnAs, as_before, seated_ends}
use Rattle.board.proofs.Fitting.{seats_same}
use Rattle.board.proofs.Acting.{sits}
use Rattle.board.proofs.Loading.{looks_kept}

abbrev T : Type 0
T = TableState (Unit {0}) View

-- the test of prefixes says whether a place is a prefix
precedes_from : (k : ℕ) (o : Option ℕ) (j : ℕ) (r : Option ℕ) → precedes k o j r ≡ true → Precedes k o j r
precedes_from k None j r e = leb-true k j e
precedes_from k (Some p) j None e = absurd (false≢true e)
precedes_from k (Some p) j (Some q) e = by_test (k == j) refl (nat_le p q) refl e
  where
    by_test : (x : Bool) → (k == j) ≡ x → (y : Bool) → nat_le p q ≡ y → (x && y) ≡ true → k ≡ j × p ≤ q
    by_test true a true b h = (eqb-true k j a, leb-true p q b)
    by_test true a false b h = absurd (false≢true h)
    by_test false a y b h = absurd (false≢true h)

precedes_to : (k : ℕ) (o : Option ℕ) (j : ℕ) (r : Option ℕ) → Precedes k o j r → precedes k o j r ≡ true
precedes_to k None j r l = le-leb k j l
precedes_to k (Some p) j None l = absurd l
precedes_to k (Some p) j (Some q) l = ap₂ (λ x y. x && y) (eq-eqb k j l.0) (le-leb p q l.1)

-- two prefixes of one place
one_of : (k : ℕ) (o : Option ℕ) (j : ℕ) (r : Option ℕ) (i : ℕ) (q : Option ℕ) → Precedes k o i q → Precedes j r i q → Precedes k o j r ⊎ Precedes j r k o
one_of k None j None i q x y = elim (cases_lt j k) [ inl l ↦ inr (omega arith) | inr l ↦ inl l ]
one_of k None j (Some p) i None x y = absurd y
one_of k None j (Some p) i (Some q) x y = inl (let e = y.0 in omega arith)
one_of k (Some p) j None i None x y = absurd x
one_of k (Some p) j None i (Some q) x y = inr (let e = x.0 in omega arith)
one_of k (Some p) j (Some r) i None x y = absurd x
one_of k (Some p) j (Some r) i (Some q) x y = elim (cases_lt r p) [
  | inl l ↦ inr (y.0 ∙ sym x.0, omega arith)
  | inr l ↦ inl (x.0 ∙ sym y.0, l)
]

-- the longer of two places of one run
longer_is : (a b : Place) → (is_prefix a b || is_prefix b a) ≡ true → IsLonger a b (longer a b)
longer_is a b e = by_test (is_prefix a b) refl (is_prefix b a) refl e
  where
    by_test : (x : Bool) → is_prefix a b ≡ x → (y : Bool) → is_prefix b a ≡ y → (x || y) ≡ true → IsLonger a b (if x then b else a)
    by_test true is y js h = inr (refl, precedes_from a.done a.dropped b.done b.dropped is)
    by_test false is true js h = inl (refl, precedes_from b.done b.dropped a.done a.dropped js)
    by_test false is false js h = absurd (false≢true h)

-- lists of places
pub longer_count : (xs ys : List Place) → length xs ≡ length ys → length (longer_places xs ys) ≡ length xs
longer_count [] ys e = refl
longer_count (x ∷ xs) [] e = absurd (omega arith)
longer_count (x ∷ xs) (y ∷ ys) e = (let r = longer_count xs ys (omega arith) in omega arith)

pub longer_at :
    (xs ys : List Place) → length xs ≡ length ys → are_of_one_run xs ys ≡ true → (u : ℕ) → IsLonger (place_in xs u) (place_in ys u) (place_in (longer_places xs ys) u)
longer_at [] [] e h u = inl (refl, (let z : 0 ≤ 0 = omega arith in z))
longer_at [] (y ∷ ys) e h u = absurd (omega arith)
longer_at (x ∷ xs) [] e h u = absurd (omega arith)
longer_at (x ∷ xs) (y ∷ ys) e h zero = longer_is x y (and_parts (is_prefix x y || is_prefix y x) (are_of_one_run xs ys) h).0
longer_at (x ∷ xs) (y ∷ ys) e h (suc u) = longer_at xs ys (omega arith) (and_parts (is_prefix x y || is_prefix y x) (are_of_one_run xs ys) h).1 u

one_run :
    (xs ys : List Place) → length xs ≡ length ys →
    ((u : ℕ) → u < length xs → (is_prefix (place_in xs u) (place_in ys u) || is_prefix (place_in ys u) (place_in xs u)) ≡ true) → are_of_one_run xs ys ≡ true
one_run [] ys e each = refl
one_run (x ∷ xs) [] e each = absurd (omega arith)
one_run (x ∷ xs) (y ∷ ys) e each =
    ap₂ (λ a b. a && b) (each 0 (omega arith)) (one_run xs ys (omega arith) (λ u l. each (suc u) (omega arith)))

-- one of two lists
pub among_either : (xs ys : List ℕ) (u : ℕ) → is_among (xs ++ ys) u ≡ (is_among xs u || is_among ys u)
among_either [] ys u = refl
among_either (x ∷ xs) ys u = ap (λ b. (u == x) || b) (among_either xs ys u) ∙ or_joins (u == x) (is_among xs u) (is_among ys u)
  where
    or_joins : (a b c : Bool) → (a || (b || c)) ≡ ((a || b) || c)
    or_joins true b c = refl
    or_joins false b c = refl

pub among_last : (xs ys : List ℕ) (t u : ℕ) → is_among ((xs ++ ys) ++ t ∷ []) u ≡ ((is_among xs u || is_among ys u) || (u == t))
among_last xs ys t u = among_either (xs ++ ys) (t ∷ []) u ∙ ap₂ (λ a b. a || b) (among_either xs ys u) (or_none (u == t))
  where
    or_none : (b : Bool) → (b || false) ≡ b
    or_none true = refl
    or_none false = refl

-- the tests that of each of some tasks one view's place is further on, and what they tell
ahead_each : (us : List ℕ) (xs ys : List Place) → ((u : ℕ) → is_among us u ≡ true → IsPrefix (place_in ys u) (place_in xs u)) → are_ahead us xs ys ≡ true
ahead_each [] xs ys each = refl
ahead_each (t ∷ us) xs ys each =
    ap₂ (λ a b. a && b)
    (precedes_to (place_in ys t).done (place_in ys t).dropped (place_in xs t).done (place_in xs t).dropped
    (each t (ap (λ b. b || is_among us t) (eq-eqb t t refl))))
    (ahead_each us xs ys (λ u is. each u (or_right (u == t) (is_among us u) is)))

pub ahead_at : (us : List ℕ) (xs ys : List Place) → are_ahead us xs ys ≡ true → (u : ℕ) → is_among us u ≡ true → IsPrefix (place_in ys u) (place_in xs u)
ahead_at [] xs ys e u is = absurd (false≢true is)
ahead_at (t ∷ us) xs ys e u is =
    let two = and_parts (is_prefix (place_in ys t) (place_in xs t)) (are_ahead us xs ys) e in
    elim (or_cases (u == t) (is_among us u) is) [
      | inl h ↦ subst (λ (z : ℕ). IsPrefix (place_in ys z) (place_in xs z)) (sym (eqb-true u t h))
          (precedes_from (place_in ys t).done (place_in ys t).dropped (place_in xs t).done (place_in xs t).dropped two.0)
      | inr h ↦ ahead_at us xs ys two.1 u h
    ]

-- no place is known of what is no task
place_beyond : (xs : List Place) (u : ℕ) → length xs ≤ u → place_in xs u ≡ first_place
place_beyond [] u l = refl
place_beyond (x ∷ xs) zero l = absurd (omega arith)
place_beyond (x ∷ xs) (suc u) l = place_beyond xs u (omega arith)

none_some : (o : Option ℕ) (u : ℕ) → o ≡ None → o ≡ Some u → ⊥
none_some o u a b = cc

some_same : (u w : ℕ) → Some u ≡ Some w → u ≡ w
some_same u w e = cc

seat_ends : (i : ℕ) → by_seat i ≡ no_more → ⊥
seat_ends i e = cc

ended_steps : no_more ≡ not_yet → ⊥
ended_steps e = cc

seat_steps : (j : ℕ) → by_seat j ≡ not_yet → ⊥
seat_steps j e = cc

-- the seat j of task t ends: no other seat's claim changes
ended_fits :
    (plan : Plan) (mode : Mode) (a : ℕ → Place) (lock : Option ℕ) (steppers : ℕ → Stepper) (t k : ℕ) → steppers t ≡ by_seat k → (j : ℕ) (v : View) → j ≢ k →
    SeatFits plan mode a lock steppers j v → SeatFits plan mode a lock (updated steppers t no_more) j v
ended_fits plan mode a lock steppers t k owner j v apart f =
    record {
      plan_is = f.plan_is;
      mode_is = f.mode_is;
      count = f.count;
      far = f.far;
      own = λ u own. let o = f.own u own in record {
        within = o.within;
        exact = o.exact;
        alone = updated_other steppers t u no_more (λ same. apart (seats_same j k (sym o.alone ∙ ap steppers same ∙ owner))) ∙ o.alone;
      };
      exact = λ u is. elim (f.exact u is) [
        | inl own ↦ inl own
        | inr ended ↦ elim (cases_eq u t) [
          | inl e ↦ inr (updated_same steppers t u no_more e)
          | inr n ↦ inr (updated_other steppers t u no_more n ∙ ended)
        ]
      ];
      holding = f.holding;
      viewer = f.viewer;
    }

-- the longer of two prefixes of a place is one, and is that place where one of them is
longer_near : (a b c x : Place) → IsLonger a b c → IsPrefix a x → IsPrefix b x → IsPrefix c x
longer_near a b c x l p q = elim l [ inl e ↦ subst (λ (y : Place). IsPrefix y x) (sym e.0) p | inr e ↦ subst (λ (y : Place). IsPrefix y x) (sym e.0) q ]

pub longer_left : (a b c x : Place) → IsLonger a b c → IsPrefix b x → x ≡ a → x ≡ c
longer_left a b c x l q is = elim l [
  | inl e ↦ is ∙ sym e.0
  | inr e ↦ prefixes_both x b (subst (λ (y : Place). IsPrefix y b) (sym is) e.1) q ∙ sym e.0
]

pub longer_right : (a b c x : Place) → IsLonger a b c → IsPrefix a x → x ≡ b → x ≡ c
longer_right a b c x l p is = elim l [
  | inl e ↦ prefixes_both x a (subst (λ (y : Place). IsPrefix y a) (sym is) e.1) p ∙ sym e.0
  | inr e ↦ is ∙ sym e.0
]

-- the viewer's view after
module _ (plan : Plan) (mode : Mode) (s : T) (l : IsKeptBy plan mode s) (id other : ℕ) (v w : View) (t : ℕ) (alone : v.own ≡ None)
    (mine : SeatFits plan mode l.places l.lock l.steppers id v) (theirs : SeatFits plan mode l.places l.lock l.steppers other w) (own : w.own ≡ Some t) where
  o : Owns plan l.steppers other w t
  o = theirs.own t own

  task : task_of w ≡ t
  task = ap (λ x. unwrap_or x 0) own

  same_count : length v.sight.places ≡ length w.sight.places
  same_count = mine.count ∙ sym theirs.count

  pub of_one_run : are_of_one_run v.sight.places w.sight.places ≡ true
  of_one_run = one_run v.sight.places w.sight.places same_count (λ u less.
      let small : u < length plan.parents = (let c = mine.count in omega arith) in
      let a : Place = place_in v.sight.places u in
      let b : Place = place_in w.sight.places u in
      elim (one_of a.done a.dropped b.done b.dropped (l.places u).done (l.places u).dropped (mine.far.later u small) (theirs.far.later u small)) [
        | inl x ↦ ap (λ y. y || is_prefix b a) (precedes_to a.done a.dropped b.done b.dropped x)
        | inr y ↦ or_right (is_prefix a b) (is_prefix b a) (precedes_to b.done b.dropped a.done a.dropped y)
      ])

  own_ahead : are_ahead (task_of w ∷ []) w.sight.places v.sight.places ≡ true
  own_ahead = ahead_each (task_of w ∷ []) w.sight.places v.sight.places (λ u is.
      let same : u ≡ t = elim (or_cases (u == task_of w) false is) [ inl e ↦ eqb-true u (task_of w) e ∙ task | inr e ↦ absurd (false≢true e) ] in
      subst (λ (z : ℕ). IsPrefix (place_in v.sight.places z) (place_in w.sight.places z)) (sym same)
      (subst (λ (x : Place). IsPrefix (place_in v.sight.places t) x) (theirs.far.equal t o.within o.exact) (mine.far.later t o.within)))

  exact_ahead : are_ahead v.sight.exact v.sight.places w.sight.places ≡ true
  exact_ahead = ahead_each v.sight.exact v.sight.places w.sight.places (λ u is. elim (cases_lt u (length plan.parents)) [
    | inl small ↦ subst (λ (x : Place). IsPrefix (place_in w.sight.places u) x) (mine.far.equal u small is) (theirs.far.later u small)
    | inr large ↦
        let a : place_in v.sight.places u ≡ first_place = place_beyond v.sight.places u (let c = mine.count in omega arith) in
        let b : place_in w.sight.places u ≡ first_place = place_beyond w.sight.places u (let c = theirs.count in omega arith) in
        subst (λ (x : Place). IsPrefix x (place_in v.sight.places u)) (sym b) (subst (λ (x : Place). IsPrefix first_place x) (sym a) (let z : 0 ≤ 0 = omega arith in z))
  ])

  pub joins : may_join v w ≡ true
  joins = ap₂ (λ a b. a && b) of_one_run (ap₂ (λ a b. a && b) own_ahead exact_ahead)

  long : (u : ℕ) → IsLonger (place_in v.sight.places u) (place_in w.sight.places u) (place_in (longer_places v.sight.places w.sight.places) u)
  long = longer_at v.sight.places w.sight.places same_count of_one_run

  pub with_fits : SeatFits plan mode l.places l.lock (updated l.steppers t no_more) id (with_seat v w)
  with_fits =
      record {
        plan_is = mine.plan_is;
        mode_is = mine.mode_is;
        count = longer_count v.sight.places w.sight.places same_count ∙ mine.count;
        far = record {
          later = λ u small. longer_near (place_in v.sight.places u) (place_in w.sight.places u) (place_in (longer_places v.sight.places w.sight.places) u)
              (l.places u) (long u) (mine.far.later u small) (theirs.far.later u small);
          equal = λ u small is. elim (which u is) [
            | inl in_view ↦ longer_left (place_in v.sight.places u) (place_in w.sight.places u) (place_in (longer_places v.sight.places w.sight.places) u)
                (l.places u) (long u) (theirs.far.later u small) (mine.far.equal u small in_view)
            | inr in_seat ↦ longer_right (place_in v.sight.places u) (place_in w.sight.places u) (place_in (longer_places v.sight.places w.sight.places) u)
                (l.places u) (long u) (mine.far.later u small) (theirs.far.equal u small in_seat)
          ];
          scanned = λ u e. absurd (none_some v.own u alone e);
        };
        own = λ u e. absurd (none_some v.own u alone e);
        exact = λ u is. elim (cases_eq u t) [
          | inl e ↦ inr (updated_same l.steppers t u no_more e)
          | inr n ↦ inr (updated_other l.steppers t u no_more n ∙ (elim (which u is) [
            | inl in_view ↦ elim (mine.exact u in_view) [ inl e ↦ absurd (none_some v.own u alone e) | inr e ↦ e ]
            | inr in_seat ↦ elim (theirs.exact u in_seat) [ inl e ↦ absurd (n (some_same u t (sym e ∙ own))) | inr e ↦ e ]
          ]))
        ];
        holding = λ u e. absurd (none_some v.own u alone e);
        viewer = mine.viewer;
      }
    where
      which : (u : ℕ) → is_among ((v.sight.exact ++ w.sight.exact) ++ task_of w ∷ []) u ≡ true → (is_among v.sight.exact u ≡ true) ⊎ (is_among w.sight.exact u ≡ true)
      which u is = elim (or_cases (is_among v.sight.exact u || is_among w.sight.exact u) (u == task_of w) (sym (among_last v.sight.exact w.sight.exact (task_of w) u) ∙ is)) [
        | inl e ↦ or_cases (is_among v.sight.exact u) (is_among w.sight.exact u) e
        | inr e ↦ inr (subst (λ x. is_among w.sight.exact x ≡ true) (sym (eqb-true u (task_of w) e ∙ task)) o.exact)
      ]

pub takes_in :
    (plan : Plan) (mode : Mode) (id : ℕ) (v : View) (other : ℕ) (w : View) (t : ℕ) → v.own ≡ None → v.spent ≡ false → w.own ≡ Some t → w.spent ≡ false →
    Joins (IsKeptBy plan mode) id v other w (both v w) spent_view
takes_in plan mode id v other w t alone live own live_too s l found apart there =
    let there_too : get_elem? s.views other ≡ some w = elim (at_set s.views id other (both v w) w there) [ inl x ↦ absurd (apart x.0) | inr x ↦ x.1 ] in
    let si = sits plan mode s l other w t own live_too there_too in
    let mine = l.views id v found live in
    let steppers' = updated l.steppers t no_more in
    let fits = with_fits plan mode s l id other v w t alone mine si.fits own in
    let joined : with_seat v w ≡ both v w = ap (λ b. if b then with_seat v w else record v
    { sight = record { places = []; exact = []; scanned = 0; found = [] } }) (sym (joins plan mode s l id other v w t alone mine si.fits own)) in
    record {
      places = l.places;
      lock = l.lock;
      steppers = steppers';
      checked = l.checked;
      lawful = l.lawful;
      shown = l.shown;
      seated =
          let goes : GoesOnAs v (with_seat v w) = record {
            own = refl;
            spent = refl;
            exact = λ u is. among_last v.sight.exact w.sight.exact (task_of w) u ∙
                ap (λ b. (b || is_among w.sight.exact u) || (u == task_of w)) is;
          } in
          seated_ends plan l.places l.steppers s.views id other t v w (both v w) spent_view found there_too apart live (subst (GoesOnAs v) joined goes) si.forked own
          (λ u is. subst (λ (x : View). is_among x.sight.exact u ≡ true) joined
          (among_last v.sight.exact w.sight.exact (task_of w) u ∙
          ap (λ b. b || (u == task_of w)) (or_right (is_among v.sight.exact u) (is_among w.sight.exact u) is)))
          (subst (λ (x : View). is_among x.sight.exact t ≡ true) joined
          (among_last v.sight.exact w.sight.exact (task_of w) t ∙
          or_right (is_among v.sight.exact t || is_among w.sight.exact t) (t == task_of w) (eq-eqb t (task_of w) (sym si.task))))
          l.seated;
      views = λ j u e unspent. elim (at_set (set s.views id (both v w)) other j spent_view u e) [
        | inl x ↦ absurd (false≢true (sym unspent ∙ sym (ap (λ (z : View). z.spent) x.1)))
        | inr x ↦ elim (at_set s.views id j (both v w) u x.1) [
          | inl y ↦
              subst (λ (z : ℕ × View). SeatFits plan mode l.places l.lock steppers' z.0 z.1) (λ i. (sym y.0 i, y.1 i))
              (subst (SeatFits plan mode l.places l.lock steppers' id) joined fits)
          | inr y ↦ ended_fits plan mode l.places l.lock l.steppers t other si.alone j u x.0 (l.views j u y.1 unspent)
        ]
      ];
    }

-- the view has a place for each task
pub counts :
    (plan : Plan) (mode : Mode) (slots id : ℕ) (me : Me (Unit {0}) View) → me.0.spent ≡ false →
    Allows (IsKeptBy plan mode) slots id me 0 (λ n. n) (Counted (step slots 0 0 0 none) me)
counts plan mode slots id me live s l _ at _ =
    let f = l.views id me.0 at live in
    (me.0, keeps, tt, looks_kept plan mode s l id 0 me.1 me.0 me.0 at (as_before me.0) f, (refl, refl, f.count ∙ ap (λ (p : Plan). length p.parents) (sym f.plan_is)))

-- so who has the view after two became one knows that they might be joined
pub was_joined : (v w : View) → 0 < length v.plan.parents → length (both v w).sight.places ≡ length (both v w).plan.parents → both v w ≡ with_seat v w × may_join v w ≡ true
was_joined v w some_task e = by_test (may_join v w) refl
  where
    either : Bool → View
    either b = if b then with_seat v w else record v { sight = record { places = []; exact = []; scanned = 0; found = [] } }

    by_test : (b : Bool) → may_join v w ≡ b → both v w ≡ with_seat v w × may_join v w ≡ true
    by_test true is = (ap either is, is)
    by_test false is = absurd
        (let z : 0 ≡ length v.plan.parents = sym (ap (λ b. length (either b).sight.places) is) ∙ e ∙ ap (λ b. length (either b).plan.parents) is in omega arith)

pub both_spent : (v w : View) → (both v w).spent ≡ v.spent
both_spent v w = by_test (may_join v w)
  where
    by_test : (b : Bool) → (if b then with_seat v w else record v { sight = record { places = []; exact = []; scanned = 0; found = [] } }).spent ≡ v.spent
    by_test true = refl
    by_test false = refl
