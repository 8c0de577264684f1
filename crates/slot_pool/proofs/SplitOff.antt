-- The views of the workers that are split off, one after the other.
use Rattle.std.proofs.Common.{◌≡◌, ℕ, suc, ◌+◌, ◌-◌, ◌<◌, ◌≤◌, [], ◌∷◌, Option, sym, refl, ap, ap₂, ◌∙◌, subst, arith, ne_eqb}
use Rattle.std.specs.Prelude.{Contains, drop, take, if◌then◌else◌}
use Rattle.std.specs.List.{range_with_len}
use Rattle.std.proofs.lemmas.List.FromFn.{length-range_with_len, get_or-range_with_len}
use Rattle.atomic_table.specs.Table.{Me, Splits}
use Rattle.armus_base.specs.calls.Limits.{max_workers}
use Rattle.slot_pool.specs.declared.setting.PoolSetting.{PoolSetting}
use Rattle.slot_pool.specs.declared.view.PoolView.{PoolView}
use Rattle.slot_pool.specs.inside.Parting.{left_for}
use Rattle.slot_pool.specs.inside.Rule.{PoolHolds}
use Rattle.slot_pool.specs.calls.Views.{starting_view}
use Rattle.slot_pool.specs.inside.Views.{left_over, split_off}
use Rattle.slot_pool.specs.inside.Workers.{IsAtWork}
use Rattle.slot_pool.proofs.Joining.{splits_off}
use Rattle.slot_pool.proofs.Members.{contains_none}

-- the numbers from k on begin with k
range_first : (k n m : ℕ) → n ≡ m + 1 → range_with_len k n ≡ k ∷ range_with_len (k + 1) m
range_first k n m e = ap (range_with_len k) (e ∙ (let s : m + 1 ≡ suc m = omega arith in s))

above : (a n x : ℕ) → Contains (range_with_len a n) x → a ≤ x
above a n x c =
    let l : c.0 < n = let b = c.1 in let d = length-range_with_len a n in omega arith in
    let e = get_or-range_with_len a n c.0 x l in
    let f = c.2 in omega arith

pub split_first : (workers k : ℕ) → k < workers → split_off (left_for workers k) ≡ starting_view workers k
split_first workers k l = ap (λ ns. record (left_for workers k) { numbers = take 1 ns }) (range_first k (workers - k) (workers - k - 1) (omega arith))

pub left_next : (workers k : ℕ) → k < workers → left_over (left_for workers k) ≡ left_for workers (k + 1)
left_next workers k l =
    ap₂ (λ ns ps. record (left_for workers k) { numbers = drop 1 ns; placed = ps }) (range_first k (workers - k) (workers - k - 1) (omega arith))
    (ap (λ b. if b then 0 ∷ [] else []) (sym (ne_eqb (k + 1) 0 (λ e. omega arith))))
    ∙ ap (λ n. record (left_for workers (k + 1)) { numbers = range_with_len (k + 1) n }) (let e : workers - k - 1 ≡ workers - (k + 1) = omega arith in e)

pub left_last : (workers k : ℕ) → workers ≡ k + 1 → left_for workers k ≡ starting_view workers k
left_last workers k e = ap (λ ns. record (left_for workers k) { numbers = ns }) (range_first k (workers - k) 0 (omega arith))

pub splits_left :
    {R : Type 0} (number_of : R → ℕ) (key : PoolSetting) (id workers k : ℕ) → k + 1 < workers →
    Splits (PoolHolds number_of key) id (left_for workers k) (left_over (left_for workers k)) (split_off (left_for workers k))
splits_left number_of key id workers k l =
    splits_off number_of key id (left_for workers k) k (k + 1) (range_with_len (k + 1 + 1) (workers - k - 2))
    (range_first k (workers - k) (workers - k - 1) (omega arith) ∙ ap (λ ns. k ∷ ns) (range_first (k + 1) (workers - k - 1) (workers - k - 2) (omega arith)))
    (λ c. let a = above (k + 1) (workers - k - 1) k (subst (λ ns. Contains ns k) (sym (range_first (k + 1) (workers - k - 1) (workers - k - 2) (omega arith)))
    c) in omega arith) refl

pub first_at_work : {R : Type 0} (tasks workers k : ℕ) (me : Me (Option R) PoolView) → workers ≤ max_workers → me ≡ (starting_view workers k, []) → IsAtWork tasks k me
first_at_work {R} tasks workers k me few is = subst (IsAtWork {R = R} tasks k) (sym is)
    (record { alone = refl; few = few; slots = refl; known = λ t c. absurd (contains_none t c); inside = λ t c. absurd (contains_none t c) })
