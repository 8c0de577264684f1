-- Who steps for each task, after one view or two have become others.
use Rattle.std.proofs.Common.{◌≡◌, ◌≢◌, ℕ, zero, suc, ◌<◌, true, false, List, [], ◌∷◌, ◌++◌, Some, length, set, sym, refl, ap, ◌∙◌, subst, arith, inl, inr}
use Rattle.std.proofs.lemmas.Bool.{cases_eq, false≢true}
use mathlib.Core.Option.{some, some-injective, some-ne-none}
use lib.ListN.{get_elem?}
use Rattle.atomic_table.proofs.Lists.{at_longer, set_else, set_here}
use Rattle.armus_base.specs.Plans.{Plan}
use Rattle.armus_base.specs.Runs.{Place}
use Rattle.armus_base.specs.Places.{done_by, forked_at}
use Rattle.armus_base.specs.States.{updated}
use Rattle.armus_base.proofs.Steps.{updated_other, updated_same}
use Rattle.board.specs.declared.view.View.{View}
use Rattle.board.specs.calls.Views.{is_among}
use Rattle.board.specs.calls.Rule.{AreSeated, IsThere, Stepper, by_seat, no_more, not_yet}

-- it is the view of the same task's seat, or of the same viewer, and knows exactly what it knew exactly
pub record GoesOnAs (v w : View) : Type 0 where
  pub own : w.own ≡ v.own
  pub spent : w.spent ≡ v.spent
  pub exact : (u : ℕ) → is_among v.sight.exact u ≡ true → is_among w.sight.exact u ≡ true

pub as_before : (v : View) → GoesOnAs v v
as_before v = record { own = refl; spent = refl; exact = λ u is. is }

-- each seat that is there stays there
abbrev pub AllGoOn : List View → List View → Type 0
AllGoOn views views' = (j : ℕ) (v : View) → IsThere views j v → (w : View) × IsThere views' j w × GoesOnAs v w

at_within : (views : List View) (j : ℕ) (v : View) → get_elem? views j ≡ some v → j < length views
at_within [] j v e = absurd (some-ne-none v (sym e))
at_within (x ∷ xs) zero v e = omega arith
at_within (x ∷ xs) (suc j) v e = (let l = at_within xs j v e in omega arith)

pub set_there : (views : List View) (id : ℕ) (v w : View) → get_elem? views id ≡ some v → get_elem? (set views id w) id ≡ some w
set_there views id v w found = set_here views id w (at_within views id v found)

same_view : (views : List View) (j : ℕ) (v w : View) → get_elem? views j ≡ some v → get_elem? views j ≡ some w → v ≡ w
same_view views j v w e f = some-injective v w (sym e ∙ f)

-- one view becomes another one
pub one_goes_on : (views : List View) (id : ℕ) (v w : View) → get_elem? views id ≡ some v → GoesOnAs v w → AllGoOn views (set views id w)
one_goes_on views id v w found goes j x there = elim (cases_eq j id) [
  | inl e ↦
      let same : x ≡ v = same_view views id x v (subst (λ k. get_elem? views k ≡ some x) e there.found) found in (
        w,
        record {
          found = subst (λ k. get_elem? (set views id w) k ≡ some w) (sym e) (set_there views id v w found);
          live = goes.spent ∙ sym (ap (λ (y : View). y.spent) same) ∙ there.live;
        },
        subst (λ (y : View). GoesOnAs y w) (sym same) goes,
      )
  | inr n ↦ (x, record { found = set_else views id j w n ∙ there.found; live = there.live }, as_before x)
]

-- and one more comes
pub one_comes : (views : List View) (w : View) → AllGoOn views (views ++ w ∷ [])
one_comes views w j x there =
    (x, record { found = at_longer views (w ∷ []) j x there.found; live = there.live }, as_before x)

pub both_go_on : (views views' views'' : List View) → AllGoOn views views' → AllGoOn views' views'' → AllGoOn views views''
both_go_on views views' views'' goes more j v there =
    let (w, at, on) = goes j v there in
    let (x, too, then) = more j w at in
    (x, too, record { own = then.own ∙ on.own; spent = then.spent ∙ on.spent; exact = λ u is. then.exact u (on.exact u is) })

-- where nobody else steps for any task, and all seats stay
pub seated_stays :
    (plan : Plan) (a b : ℕ → Place) (steppers : ℕ → Stepper) (views views' : List View) → AllGoOn views views' →
    ((t : ℕ) → forked_at plan (done_by b) t ≡ forked_at plan (done_by a) t) → AreSeated plan a steppers views → AreSeated plan b steppers views'
seated_stays plan a b steppers views views' goes forked seated =
    record {
      forks = λ t. (λ no. (seated.forks t).0 (sym (forked t) ∙ no), λ idle. forked t ∙ (seated.forks t).1 idle);
      seats = λ t j is.
          let (v, there, own) = seated.seats t j is in
          let (w, at, on) = goes j v there in
          (w, at, on.own ∙ own);
      ended = λ t is.
          let (j, v, there, exact) = seated.ended t is in
          let (w, at, on) = goes j v there in
          (j, w, at, on.exact t exact);
    }

seats_differ : (i j : ℕ) → by_seat i ≡ by_seat j → i ≡ j
seats_differ i j e = cc

seat_steps : (j : ℕ) → by_seat j ≡ not_yet → ⊥
seat_steps j e = cc

seat_ends : (j : ℕ) → by_seat j ≡ no_more → ⊥
seat_ends j e = cc

ended_steps : no_more ≡ not_yet → ⊥
ended_steps e = cc

some_same : (u w : ℕ) → Some u ≡ Some w → u ≡ w
some_same u w e = cc

-- a seat comes for a task that is forked now
pub seated_born :
    (plan : Plan) (a b : ℕ → Place) (steppers : ℕ → Stepper) (views views' : List View) (c k : ℕ) (w : View) → AllGoOn views views' → IsThere views' k w →
    w.own ≡ Some c → ((t : ℕ) → t ≡ c → forked_at plan (done_by b) t ≡ true) →
    ((t : ℕ) → t ≢ c → forked_at plan (done_by b) t ≡ forked_at plan (done_by a) t) → AreSeated plan a steppers views →
    AreSeated plan b (updated steppers c (by_seat k)) views'
seated_born plan a b steppers views views' c k w goes there own forked others seated =
    record {
      forks = λ t. elim (cases_eq t c) [
        | inl e ↦ (
          λ no. absurd (false≢true (sym no ∙ forked t e)),
          λ idle. absurd (seat_steps k (sym (updated_same steppers c t (by_seat k) e) ∙ idle)),
        )
        | inr n ↦ (
          λ no. updated_other steppers c t (by_seat k) n ∙ (seated.forks t).0 (sym (others t n) ∙ no),
          λ idle. others t n ∙ (seated.forks t).1 (sym (updated_other steppers c t (by_seat k) n) ∙ idle),
        )
      ];
      seats = λ t j is. elim (cases_eq t c) [
        | inl e ↦
            let same : k ≡ j = seats_differ k j (sym (updated_same steppers c t (by_seat k) e) ∙ is) in
            (w, subst (λ i. IsThere views' i w) same there, own ∙ ap Some (sym e))
        | inr n ↦
            let (v, at, of) = seated.seats t j (sym (updated_other steppers c t (by_seat k) n) ∙ is) in
            let (x, now, on) = goes j v at in
            (x, now, on.own ∙ of)
      ];
      ended = λ t is. elim (cases_eq t c) [
        | inl e ↦ absurd (seat_ends k (sym (updated_same steppers c t (by_seat k) e) ∙ is))
        | inr n ↦
            let (j, v, at, exact) = seated.ended t (sym (updated_other steppers c t (by_seat k) n) ∙ is) in
            let (x, now, on) = goes j v at in
            (j, x, now, on.exact t exact)
      ];
    }

-- a task ends, and its seat is taken in by another one
module _ (plan : Plan) (a : ℕ → Place) (steppers : ℕ → Stepper) (views : List View) (id other t : ℕ) (v w x spent : View) (found : get_elem? views id ≡ some v)
    (there : get_elem? views other ≡ some w) (apart : other ≢ id) (live : v.spent ≡ false) (goes : GoesOnAs v x) where
  views' : List View
  views' = set (set views id x) other spent

  taker : IsThere (set (set views id x) other spent) id x
  taker =
      record {
        found = set_else (set views id x) other id spent (λ e. apart (sym e)) ∙ set_there views id v x found;
        live = goes.spent ∙ live;
      }

  rest_stays : (j : ℕ) (y : View) → IsThere views j y → j ≢ other → (z : View) × IsThere (set (set views id x) other spent) j z × GoesOnAs y z
  rest_stays j y at n =
      let (z, now, on) = one_goes_on views id v x found goes j y at in
      (z, record { found = set_else (set views id x) other j spent n ∙ now.found; live = now.live }, on)

  pub seated_ends :
      forked_at plan (done_by a) t ≡ true → w.own ≡ Some t → ((u : ℕ) → is_among w.sight.exact u ≡ true → is_among x.sight.exact u ≡ true) →
      is_among x.sight.exact t ≡ true → AreSeated plan a steppers views → AreSeated plan a (updated steppers t no_more) (set (set views id x) other spent)
  seated_ends forked own from_seat exact_now seated =
      record {
        forks = λ u. elim (cases_eq u t) [
          | inl e ↦ (
            λ no. absurd (false≢true (sym no ∙ ap (forked_at plan (done_by a)) e ∙ forked)),
            λ idle. absurd (ended_steps (sym (updated_same steppers t u no_more e) ∙ idle)),
          )
          | inr n ↦ (
            λ no. updated_other steppers t u no_more n ∙ (seated.forks u).0 no,
            λ idle. (seated.forks u).1 (sym (updated_other steppers t u no_more n) ∙ idle),
          )
        ];
        seats = λ u j is. elim (cases_eq u t) [
          | inl e ↦ absurd (seat_ends j (sym is ∙ updated_same steppers t u no_more e))
          | inr n ↦
              let (y, at, of) = seated.seats u j (sym (updated_other steppers t u no_more n) ∙ is) in
              let else_seat : j ≢ other = λ e.
              let same : y ≡ w = some-injective y w (sym at.found ∙ ap (get_elem? views) e ∙ there) in
              n (some_same u t (sym of ∙ ap (λ (z : View). z.own) same ∙ own)) in
              let (z, now, on) = rest_stays j y at else_seat in
              (z, now, on.own ∙ of)
        ];
        ended = λ u is. elim (cases_eq u t) [
          | inl e ↦ (id, x, taker, ap (is_among x.sight.exact) e ∙ exact_now)
          | inr n ↦
              let (j, y, at, exact) = seated.ended u (sym (updated_other steppers t u no_more n) ∙ is) in
              elim (cases_eq j other) [
                | inl e ↦
                    let same : y ≡ w = some-injective y w (sym at.found ∙ ap (get_elem? views) e ∙ there) in
                    (id, x, taker, from_seat u (ap (λ (z : View). is_among z.sight.exact u) (sym same) ∙ exact))
                | inr m ↦
                    let (z, now, on) = rest_stays j y at m in
                    (j, z, now, on.exact u exact)
              ]
        ];
      }
