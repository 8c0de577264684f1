-- The first ops on phasers, as far as the ops were gone through.
use Rattle.std.specs.Prelude.{◌≡◌, ℕ, ◌<◌, List, Option, Some, None, length, slice_index_or}
use Rattle.armus_base.specs.declared.op.Op.{Op}
use Rattle.explain_facts.specs.Accounts.{first_on}
use Rattle.explain_facts.specs.declared.account.Doing.{Doing}

-- the first, or else what is behind it
abbrev pub known_or : {A : Type 0} → Option A → Option A → Option A
known_or None behind = behind
known_or (Some x) behind = Some x

-- these are of each of so many phasers the first of the ops, of which the first has number i
pub record AreFirsts (ops : List Op) (i phasers : ℕ) (firsts : List (Option (Doing × ℕ))) : Type 0 where
  pub sized : length firsts ≡ phasers
  pub each : (q : ℕ) → q < phasers → slice_index_or firsts q None ≡ first_on q i ops

-- these are those as far as the ops were gone through, of which these are left, the first with this number
pub record AreFirstsBefore (ops : List Op) (i phasers : ℕ) (left : List Op) (at : ℕ) (firsts : List (Option (Doing × ℕ))) : Type 0 where
  pub sized : length firsts ≡ phasers
  pub each : (q : ℕ) → q < phasers → known_or (slice_index_or firsts q None) (first_on q at left) ≡ first_on q i ops
