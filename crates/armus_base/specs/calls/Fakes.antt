-- What contracts see of the source and the sink in memory, and what their calls answer and leave.
use Rattle.std.specs.Prelude.{◌≡◌, ℕ, ◌-◌, ◌==◌, ◌&&◌, ◌||◌, Bool, if◌then◌else◌, min, List, length, Result, IfOk, is_err, nat_lt}
use Rattle.std.specs.List.{list_any}
use Rattle.armus_base.specs.Causes.{counted}

-- a source in memory: the bytes left, the most bytes of a call, the numbers of the calls that fail, and the calls and faults so far
pub record MemRead : Type 0 where
  pub left : List ℕ
  pub cut : ℕ
  pub fails : List ℕ
  pub calls : ℕ
  pub faults : ℕ

-- a sink in memory: the bytes taken, its room, the most bytes of a call, the numbers of the calls that fail, and the calls and faults so far
pub record MemWrite : Type 0 where
  pub taken : List ℕ
  pub room : ℕ
  pub cut : ℕ
  pub fails : List ℕ
  pub calls : ℕ
  pub faults : ℕ

-- the call with this number, from 1, is one that fails
abbrev pub is_listed : ℕ → List ℕ → Bool
is_listed call fails = list_any (λ n. n == call) fails

-- a call of the source in memory, with a buffer of this length
pub record MemReads {E : Type 0} (old new : MemRead) (result : Result ℕ E) (space : ℕ) : Type 0 where
  pub calls : new.calls ≡ counted old.calls
  pub cut : new.cut ≡ old.cut
  pub fails : new.fails ≡ old.fails
  pub failed : is_err result ≡ is_listed (counted old.calls) old.fails
  pub count : IfOk result (λ n. n ≡ min (min (length old.left) old.cut) space)
  pub faults : new.faults ≡ (if is_err result then counted old.faults else old.faults)

-- a call of the sink in memory, with this piece
pub record MemWrites {E : Type 0} (old new : MemWrite) (result : Result ℕ E) (piece : List ℕ) : Type 0 where
  pub calls : new.calls ≡ counted old.calls
  pub room : new.room ≡ old.room
  pub cut : new.cut ≡ old.cut
  pub fails : new.fails ≡ old.fails
  pub failed : is_err result ≡ (is_listed (counted old.calls) old.fails
      || (nat_lt 0 (length piece) && old.room - length old.taken == 0))
  pub count : IfOk result (λ n. n ≡ min (min (length piece) old.cut) (old.room - length old.taken))
  pub faults : new.faults ≡ (if is_err result then counted old.faults else old.faults)
