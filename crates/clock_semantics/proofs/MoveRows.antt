-- The numbers of the activities, clocks and finishes that an unfolding makes are rows, one activity's behind those of the activities before it.
use Rattle.std.proofs.Common.{◌≡◌, ℕ, zero, suc, ◌+◌, ◌-◌, ◌<◌, ◌≤◌, List, [], ◌++◌, length, arith, sym, ◌∙◌, ap, subst, refl, inl, inr}
use Rattle.std.proofs.lemmas.Bool.{cases_eq}
use Rattle.std.proofs.lemmas.Option.{slice_get_within}
use Rattle.armus_base.proofs.Lists.{past_end}
use Rattle.clock_syntax.specs.Trees.{ClockTree}
use Rattle.clock_semantics.specs.Moves.{Move, made_by, started_by}
use Rattle.clock_semantics.specs.Unfolding.{ClockStart, ClockUnfolding, activities, clock_opening, with_known}
use Rattle.clock_semantics.proofs.MoveCodes.{moves_at}
use Rattle.clock_semantics.specs.calls.ClockUnfolds.{UnfoldsFrom, no_more, one_more}
use Rattle.clock_semantics.specs.calls.ProgramPoints.{first_point}
use Rattle.clock_semantics.proofs.AddsMoves.{Adds, goes_adds}
use Rattle.clock_semantics.proofs.Rows.{row, row_length}

-- ---- where the rows begin

-- the number of the first activity that activity t starts, and of the first thing that it makes
abbrev pub first_child : ClockUnfolding → ℕ → ℕ
first_child u zero = 1
first_child u (suc t) = first_child u t + length (started_by (moves_at u t))

abbrev pub first_made : ClockUnfolding → ℕ → ℕ
first_made u zero = 0
first_made u (suc t) = first_made u t + length (made_by (moves_at u t))

same_first : (t : ℕ) (u v : ClockUnfolding) → ((a : ℕ) → a < t → moves_at v a ≡ moves_at u a) → first_child v t ≡ first_child u t
same_first zero u v same = refl
same_first (suc t) u v same =
    omega (arith, same_first t u v (λ a l. same a (omega arith)), ap (λ ms. length (started_by ms)) (same t (omega arith)))

same_first_made : (t : ℕ) (u v : ClockUnfolding) → ((a : ℕ) → a < t → moves_at v a ≡ moves_at u a) → first_made v t ≡ first_made u t
same_first_made zero u v same = refl
same_first_made (suc t) u v same =
    omega (arith, same_first_made t u v (λ a l. same a (omega arith)), ap (λ ms. length (made_by ms)) (same t (omega arith)))

-- the rows of activity a
pub record HasRows (u : ClockUnfolding) (a : ℕ) : Type 0 where
  pub started : started_by (moves_at u a) ≡ row (first_child u a) (length (started_by (moves_at u a)))
  pub made : made_by (moves_at u a) ≡ row (first_made u a) (length (made_by (moves_at u a)))
  pub ahead : a < first_child u a

-- the activities below t have ended, each with its rows, and the others have not begun
pub record AreRows (t : ℕ) (u : ClockUnfolding) : Type 0 where
  pub moves_many : length u.moves ≡ length u.parents
  pub starts_many : length u.starts ≡ length u.parents
  pub parents : length u.parents ≡ first_child u t
  pub makers : length u.makers ≡ first_made u t
  pub rows : (a : ℕ) → a < t → HasRows u a
  pub idle : (a : ℕ) → t ≤ a → moves_at u a ≡ []
  pub within : t ≤ length u.parents

rows_as : (xs : List ℕ) (n k : ℕ) → xs ≡ row n k → xs ≡ row n (length xs)
rows_as xs n k is = is ∙ ap (row n) (sym (row_length n k) ∙ ap length (sym is))

length_is : (xs : List ℕ) (n k : ℕ) → xs ≡ row n k → length xs ≡ k
length_is xs n k is = ap length is ∙ row_length n k

module _ (t : ℕ) (u v : ClockUnfolding) (h : AreRows t u) (here : t < length u.parents) (ms : List Move) (a : Adds t u v ms) where
  own : moves_at v t ≡ ms
  own = a.own ∙ ap (λ xs. xs ++ ms) (h.idle t (omega arith))

  earlier : (k : ℕ) → k < t → moves_at v k ≡ moves_at u k
  earlier k l = a.others k (λ e. absurd (omega arith))

  children : first_child v t ≡ first_child u t
  children = same_first t u v earlier

  things : first_made v t ≡ first_made u t
  things = same_first_made t u v earlier

  old_rows : (k : ℕ) → k < t → HasRows v k
  old_rows k l =
      let r = h.rows k l in
      let first = same_first k u v (λ b n. earlier b (omega arith)) in
      let first_thing = same_first_made k u v (λ b n. earlier b (omega arith)) in
      record {
        started = subst (λ xs. started_by xs ≡ row (first_child v k) (length (started_by xs))) (sym (earlier k l))
            (r.started ∙ ap (λ n. row n (length (started_by (moves_at u k)))) (sym first));
        made = subst (λ xs. made_by xs ≡ row (first_made v k) (length (made_by xs))) (sym (earlier k l))
            (r.made ∙ ap (λ n. row n (length (made_by (moves_at u k)))) (sym first_thing));
        ahead = omega (arith, r.ahead, first);
      }

  own_rows : HasRows v t
  own_rows =
      record {
        started = subst (λ xs. started_by xs ≡ row (first_child v t) (length (started_by xs))) (sym own)
            (rows_as (started_by ms) (first_child v t) a.children (a.started ∙ ap (λ n. row n a.children) (h.parents ∙ sym children)));
        made = subst (λ xs. made_by xs ≡ row (first_made v t) (length (made_by xs))) (sym own)
            (rows_as (made_by ms) (first_made v t) a.things (a.made ∙ ap (λ n. row n a.things) (h.makers ∙ sym things)));
        ahead = omega (arith, here, h.parents, children);
      }

  pub next_rows : AreRows (suc t) v
  next_rows =
      record {
        moves_many = omega (arith, a.moves_many, a.parents, h.moves_many);
        starts_many = omega (arith, a.starts_many, a.parents, h.starts_many);
        parents = omega (arith, a.parents, h.parents, children, ap (λ xs. length (started_by xs)) own, length_is (started_by ms) (length u.parents) a.children a.started);
        makers = omega (arith, a.makers, h.makers, things, ap (λ xs. length (made_by xs)) own, length_is (made_by ms) (length u.makers) a.things a.made);
        rows = λ k l. elim (cases_eq k t) [ inl same ↦ subst (HasRows v) (sym same) own_rows | inr other ↦ old_rows k (omega arith) ];
        idle = λ k l. a.others k (λ e. absurd (omega arith)) ∙ h.idle k (omega arith);
        within = omega (arith, here, a.parents);
      }

pub known_rows : (t : ℕ) (u : ClockUnfolding) (start : ClockStart) → AreRows t u → AreRows t (with_known start.known u)
known_rows t u start h =
    record {
      moves_many = h.moves_many;
      starts_many = h.starts_many;
      parents = h.parents ∙ same_first t (with_known start.known u) u (λ a l. refl);
      makers = h.makers ∙ same_first_made t (with_known start.known u) u (λ a l. refl);
      rows = λ a l.
          let r = h.rows a l in
          let first = same_first a (with_known start.known u) u (λ b n. refl) in
          let first_thing = same_first_made a (with_known start.known u) u (λ b n. refl) in
          record {
            started = r.started ∙ ap (λ n. row n (length (started_by (moves_at u a)))) first;
            made = r.made ∙ ap (λ n. row n (length (made_by (moves_at u a)))) first_thing;
            ahead = omega (arith, r.ahead, first);
          };
      idle = h.idle;
      within = h.within;
    }

pub all_rows : (t : ℕ) (u w : ClockUnfolding) → AreRows t u → UnfoldsFrom t u w → AreRows (length w.parents) w
all_rows t u w h (no_more none) =
    subst (λ n. AreRows n u) (omega (arith, h.within, h.starts_many, past_end u.starts t none)) h
all_rows t u w h (one_more {v = v} start is goes rest) =
    let here : t < length u.parents = omega (arith, slice_get_within u.starts t start is, h.starts_many) in
    let began = known_rows t u start h in
    let a = goes_adds t (first_point start) (with_known start.known u) v (omega (arith, here, h.moves_many)) goes in
    all_rows (t + 1) v w (subst (λ n. AreRows n v) (omega arith) (next_rows t (with_known start.known u) v began here a.0 a.1)) rest

pub opening_rows : (p : ClockTree) → AreRows 0 (clock_opening p)
opening_rows p =
    record {
      moves_many = refl;
      starts_many = refl;
      parents = refl;
      makers = refl;
      rows = λ a l. absurd (omega arith);
      idle = none;
      within = omega arith;
    }
  where
    none : (a : ℕ) → 0 ≤ a → moves_at (clock_opening p) a ≡ []
    none zero l = refl
    none (suc a) l = refl
