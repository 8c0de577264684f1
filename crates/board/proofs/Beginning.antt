-- The first seats.
use mathlib.Core.Path.{fun_ext}
use Rattle.std.proofs.Common.{◌≡◌, ℕ, ◌<◌, Bool, true, false, [], ◌∷◌, Some, None, length, replicate, sym, refl, ap, subst, arith}
use Rattle.std.specs.Prelude.{◌==◌, ◌||◌}
use Rattle.std.proofs.lemmas.Bool.{false≢true}
use Rattle.std.proofs.lemmas.List.{length-replicate}
use Rattle.atomic_table.specs.Seated.{TableId}
use Rattle.armus_base.specs.Runs.{Place, first_place}
use Rattle.armus_base.specs.Places.{published_after}
use Rattle.armus_base.specs.CheckedPlans.{IsCheckedPlan}
use Rattle.armus_base.specs.calls.Seats.{seen_by_child}
use Rattle.board.specs.declared.mode.Setting.{Setting}
use Rattle.board.specs.declared.view.View.{View}
use Rattle.board.specs.calls.Rule.{first_view}
use Rattle.board.specs.calls.Views.{is_among, place_in}
use Rattle.board.specs.calls.Steps.{viewer}
use Rattle.board.specs.calls.Seats.{Frame, IsNewSeat, IsSeat, nothing_seen}
use Rattle.board.specs.inside.Sitting.{IsSitting}
use Rattle.board.proofs.Closing.{first_places, some_task}

only_zero : (is_among (0 ∷ [])) ≡ (λ u. u == 0)
only_zero = fun_ext (λ u. or_none (u == 0))
  where
    or_none : (b : Bool) → (b || false) ≡ b
    or_none true = refl
    or_none false = refl

all_first : (n : ℕ) → place_in (replicate n first_place) ≡ (λ _. first_place)
all_first n = fun_ext (first_places n)

module _ (k : Setting) (f : Frame) (table : TableId) (plan_is : k.plan.value ≡ f.plan) (mode_is : k.mode ≡ f.mode) (same : table ≡ f.table) (v : View) (is : v ≡ first_view k) where
  first_seat : IsCheckedPlan k.plan.value → IsSeat (record { table = table; view = first_view k })
  first_seat checked = record {
    live = refl;
    checked = checked;
    count = length-replicate {A = Place} (length k.plan.value.parents) first_place;
    few = omega arith;
    own = λ t e. let z : 0 ≡ t = some_same 0 t e in (
      subst (λ x. x < length k.plan.value.parents) z (some_task k.plan.value checked),
      subst (λ x. is_among (0 ∷ []) x ≡ true) z refl,
    );
    lock = λ has. absurd (false≢true has);
  }
    where
      some_same : (u w : ℕ) → Some u ≡ Some w → u ≡ w
      some_same u w e = cc

  pub first_new : IsCheckedPlan k.plan.value → IsNewSeat f (Some 0) (seen_by_child 0 nothing_seen) (record { table = table; view = v })
  first_new checked = subst (λ (u : View). IsNewSeat f (Some 0) (seen_by_child 0 nothing_seen) (record { table = table; view = u })) (sym is) (record {
    of_board = record { table = same; plan = plan_is; mode = mode_is };
    own_is = refl;
    seen_is = λ i. record { places = all_first (length k.plan.value.parents) i; exact = only_zero i; scanned = 0; found = λ _. None };
    free = refl;
    loads = refl;
    kept = first_seat checked;
  })

  pub first_sitting : IsCheckedPlan k.plan.value → IsSitting 0 0 None (record { table = table; view = v })
  first_sitting checked = subst (λ (u : View). IsSitting 0 0 None (record { table = table; view = u })) (sym is) (record {
    task = refl;
    seat = first_seat checked;
    scanned_is = refl;
    event = sym (ap (λ (b : Place). published_after k.plan.value 0 b.done) (first_places (length k.plan.value.parents) 0));
    idle = λ _. refl;
  })

  first_viewer : IsCheckedPlan k.plan.value → IsSeat (record { table = table; view = viewer (first_view k) })
  first_viewer checked = record {
    live = refl;
    checked = checked;
    count = length-replicate {A = Place} (length k.plan.value.parents) first_place;
    few = omega arith;
    own = λ t e. absurd (none_some t e);
    lock = λ has. absurd (false≢true has);
  }
    where
      none_some : (t : ℕ) → None ≡ Some t → ⊥
      none_some t e = cc

  pub viewer_new : IsCheckedPlan k.plan.value → IsNewSeat f None nothing_seen (record { table = table; view = viewer v })
  viewer_new checked = subst (λ (u : View). IsNewSeat f None nothing_seen (record { table = table; view = viewer u })) (sym is) (record {
    of_board = record { table = same; plan = plan_is; mode = mode_is };
    own_is = refl;
    seen_is = λ i. record { places = all_first (length k.plan.value.parents) i; exact = λ _. false; scanned = 0; found = λ _. None };
    free = refl;
    loads = refl;
    kept = first_viewer checked;
  })
