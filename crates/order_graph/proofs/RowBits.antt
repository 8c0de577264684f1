-- Sets of tasks by the bits of words.
use Rattle.std.proofs.Common.{◌≡◌, ℕ, ◌*◌, ◌/◌, ◌%◌, Bool, true, false, List, length, sym, ap, ◌∙◌, ◌⊎◌, inl, inr, arith, get_or, min}
use Rattle.std.specs.Prelude.{Contains, ◌↔◌, MatchBool}
use Rattle.std.proofs.lemmas.Bool.{cases_eq}
use Rattle.std.proofs.lemmas.Nat.Bits.{bit_at-lt}
use Rattle.armus_base.specs.declared.ids.TaskId.{TaskId}
use Rattle.dep_state.proofs.DeadSets.{same_task}
use Rattle.order_graph.specs.inside.Bits.{IsWithBit, bit_less, bit_of, tasks_by, tasks_by_bits}
use Rattle.order_graph.proofs.TaskBits.{by_from, by_has, in_from, in_has, in_not, in_words, not_one}

pub has_task : (words : List ℕ) (t : TaskId) (r : Bool) → MatchBool r (bit_of words t.0 ≡ 1) (bit_of words t.0 ≡ 0) →
    MatchBool r (Contains (tasks_by_bits words) t) (Contains (tasks_by_bits words) t → ⊥)
has_task words t true on = in_has words t on
has_task words t false off = in_not words t off

module _ (old mid new : List ℕ) (t : TaskId) where
  -- one task more
  module _ (same : (n : ℕ) → bit_of mid n ≡ bit_of old n) (is : IsWithBit mid t.0 1 new) where
    pub put_within : (u : TaskId) → Contains (tasks_by_bits new) u → Contains (tasks_by_bits old) u ⊎ (u ≡ t)
    put_within u m =
        elim (cases_eq u.0 t.0) [
          | inl e ↦ inr (same_task u t e)
          | inr ne ↦ inl (in_has old u (sym (same u.0) ∙ sym (is.others u.0 ne) ∙ in_from new u m))
        ]

    pub put_members : (u : TaskId) → Contains (tasks_by_bits new) u ↔ (Contains (tasks_by_bits old) u ⊎ (u ≡ t))
    put_members u = (
      put_within u,
      λ h. in_has new u (elim (cases_eq u.0 t.0) [
        | inl e ↦ ap (bit_of new) e ∙ is.here
        | inr ne ↦ elim h [
          | inl m ↦ is.others u.0 ne ∙ same u.0 ∙ in_from old u m
          | inr e ↦ absurd (ne (ap (λ (x : TaskId). x.0) e))
        ]
      ]),
    )

  -- one task less
  pub out_members : IsWithBit old t.0 0 new → (u : TaskId) → Contains (tasks_by_bits new) u ↔ (Contains (tasks_by_bits old) u × (u ≡ t → ⊥))
  out_members is u = (
    λ m.
        let on = in_from new u m in
        let ne : u.0 ≡ t.0 → ⊥ = λ e. let off : bit_of new u.0 ≡ 0 = ap (bit_of new) e ∙ is.here in omega arith in
        (in_has old u (sym (is.others u.0 ne) ∙ on), λ e. ne (ap (λ (x : TaskId). x.0) e)),
    λ (m, ne). in_has new u (is.others u.0 (λ e. ne (same_task u t e)) ∙ in_from old u m),
  )

-- only the common tasks
pub common_members :
    (old new other : List ℕ) → ((n : ℕ) → bit_of new n ≡ min (bit_of old n) (bit_of other n)) → (u : TaskId) →
    Contains (tasks_by_bits new) u ↔ (Contains (tasks_by_bits old) u × Contains (tasks_by_bits other) u)
common_members old new other are u = (
  λ m.
      let on = in_from new u m in
      let a = are u.0 in
      let l = bit_at-lt (get_or old (u.0 / 64) 0) (u.0 % 64) in
      let r = bit_at-lt (get_or other (u.0 / 64) 0) (u.0 % 64) in
      (in_has old u (omega arith), in_has other u (omega arith)),
  λ (m, n). in_has new u (let a = in_from old u m in let b = in_from other u n in let c = are u.0 in omega arith),
)

module _ (words other : List ℕ) where
  -- the tasks of the first words that the others do not have
  pub less_within :
      (u : TaskId) → Contains (tasks_by (bit_less words other) (64 * length words)) u → Contains (tasks_by_bits words) u × (Contains (tasks_by_bits other) u → ⊥)
  less_within u m =
      let on = (by_from (bit_less words other) (64 * length words) u m).1 in
      let l = bit_at-lt (get_or words (u.0 / 64) 0) (u.0 % 64) in (
        in_has words u (omega arith),
        λ n. let off = in_from other u n in omega arith,
      )

  pub less_all : (u : TaskId) → Contains (tasks_by_bits words) u → Contains (tasks_by (bit_less words other) (64 * length words)) u ⊎ Contains (tasks_by_bits other) u
  less_all u m =
      let on = in_from words u m in
      elim (cases_eq (bit_of other u.0) 1) [
        | inl e ↦ inr (in_has other u e)
        | inr ne ↦
            let off : bit_of other u.0 ≡ 0 = not_one (get_or other (u.0 / 64) 0) (u.0 % 64) ne in
            inl (by_has (bit_less words other) (64 * length words) u (in_words words u.0 on) (omega arith))
      ]
