-- Each activity of an unfolding makes its moves from the first point of its text on.
use Rattle.std.proofs.Common.{◌≡◌, ℕ, ◌+◌, ◌<◌, ◌≤◌, Some, Ok, ◌++◌, length, arith, sym, ◌∙◌, ap, subst, refl, inl, inr}
use Rattle.std.specs.Prelude.{slice_get}
use Rattle.std.proofs.lemmas.Bool.{cases_eq}
use Rattle.std.proofs.lemmas.Option.{slice_get_within}
use Rattle.armus_base.proofs.Lists.{slice_get-append, past_end}
use Rattle.clock_syntax.specs.Trees.{ClockTree}
use Rattle.clock_semantics.specs.Unfolding.{ClockStart, ClockUnfolding, activities, clock_opening, clock_unfolded, nothing_known, with_known}
use Rattle.clock_semantics.proofs.MoveCodes.{moves_at}
use Rattle.clock_semantics.specs.calls.ClockUnfolds.{UnfoldsFrom, no_more, one_more}
use Rattle.clock_semantics.specs.calls.ProgramPoints.{first_point}
use Rattle.clock_semantics.proofs.AddsMoves.{goes_adds}
use Rattle.clock_laws.proofs.Makes.{Makes, goes_makes}
use Rattle.clock_semantics.proofs.MoveRows.{AreRows, known_rows, next_rows, opening_rows}
use Rattle.clock_semantics.proofs.UnfoldsByPoints.{unfolding_is_unfolded}

-- what the later activities leave: the moves of the earlier ones, and each start
record Leaves (t : ℕ) (u w : ClockUnfolding) : Type 0 where
  moves : (a : ℕ) → a < t → moves_at w a ≡ moves_at u a
  starts : (k : ℕ) (start : ClockStart) → slice_get u.starts k ≡ Some start → slice_get w.starts k ≡ Some start

leaves : (t : ℕ) (u w : ClockUnfolding) → AreRows t u → UnfoldsFrom t u w → Leaves t u w
leaves t u w h (no_more none) = record { moves = λ a l. refl; starts = λ k start e. e }
leaves t u w h (one_more {v = v} start is goes rest) =
    let here : t < length u.parents = omega (arith, slice_get_within u.starts t start is, h.starts_many) in
    let began = known_rows t u start h in
    let a = goes_adds t (first_point start) (with_known start.known u) v (omega (arith, here, h.moves_many)) goes in
    let next = leaves (t + 1) v w (subst (λ n. AreRows n v) (omega arith) (next_rows t (with_known start.known u) v began here a.0 a.1)) rest in
    record {
      moves = λ k l. next.moves k (omega arith) ∙ a.1.others k (λ e. absurd (omega arith));
      starts = λ k s e.
          next.starts k s
          (ap (λ zs. slice_get zs k) a.1.starts_are ∙ slice_get-append u.starts a.1.later k (slice_get_within u.starts k s e) ∙ e);
    }

-- an activity begins with this, and makes its moves
pub record IsMade (u : ClockUnfolding) (a : ℕ) : Type 0 where
  pub start : ClockStart
  pub begun : slice_get u.starts a ≡ Some start
  pub makes : Makes u (first_point start) start.known.names start.known.standing (moves_at u a)

each_made : (t : ℕ) (u w : ClockUnfolding) → AreRows t u → UnfoldsFrom t u w → (a : ℕ) → t ≤ a → a < length w.parents → IsMade w a
each_made t u w h (no_more none) a l inside = absurd (omega (arith, h.starts_many, past_end u.starts t none))
each_made t u w h (one_more {v = v} start is goes rest) a l inside =
    let here : t < length u.parents = omega (arith, slice_get_within u.starts t start is, h.starts_many) in
    let began = known_rows t u start h in
    let added = goes_adds t (first_point start) (with_known start.known u) v (omega (arith, here, h.moves_many)) goes in
    let next : AreRows (t + 1) v = subst (λ n. AreRows n v) (omega arith) (next_rows t (with_known start.known u) v began here added.0 added.1) in
    let left = leaves (t + 1) v w next rest in
    elim (cases_eq a t) [
      | inl same ↦
          let m = goes_makes w t (first_point start) (with_known start.known u) v (omega (arith, here, h.moves_many)) h.starts_many left.starts goes in
          let own : moves_at w t ≡ m.moves = left.moves t (omega arith) ∙ m.adds.own ∙ ap (λ xs. xs ++ m.moves) (h.idle t (omega arith)) in
          subst (IsMade w) (sym same)
          (record {
            start = start;
            begun = left.starts t start
                (ap (λ zs. slice_get zs t) added.1.starts_are ∙ slice_get-append u.starts added.1.later t (slice_get_within u.starts t start is) ∙ is);
            makes = subst (Makes w (first_point start) start.known.names start.known.standing) (sym own) m.makes;
          })
      | inr other ↦ each_made (t + 1) v w next rest a (omega arith) inside
    ]

module _ (p : ClockTree) (u : ClockUnfolding) (e : clock_unfolded p ≡ Ok u) where
  pub is_made : (a : ℕ) → a < activities u → IsMade u a
  is_made a l = each_made 0 (clock_opening p) u (opening_rows p) ((unfolding_is_unfolded p u).0 e) a (omega arith) l

  -- the first one begins with the whole program
  abbrev pub whole : ClockStart
  whole = record { body = p; first = 1; known = nothing_known }

  pub root_begins : slice_get u.starts 0 ≡ Some whole
  root_begins = (leaves 0 (clock_opening p) u (opening_rows p) ((unfolding_is_unfolded p u).0 e)).starts 0 whole refl
