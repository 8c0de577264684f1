-- What a keeper holds, and what it counts.
use Rattle.std.specs.Prelude.{ℕ, Bool, true, false, List, Option, None, Result, Ok, Err, slice_get, unwrap_or}
use Rattle.armus_base.specs.Causes.{counted}
use Rattle.sites.specs.declared.ends.KeepEnd.{KeepEnd}
use Rattle.sites.specs.declared.ends.KeepEnd.TheVariants.{Fault, NoMemory}

-- the row that is held of the site, if one is
abbrev pub held : List (Option (List ℕ)) → ℕ → Option (List ℕ)
held rows site = unwrap_or (slice_get rows site) None

-- the count of faults after a call that answers this: one more after a fault, and as before after every other answer
abbrev pub count_after : {T : Type 0} → Result T KeepEnd → ℕ → ℕ
count_after (Err Fault) n = counted n
count_after (Err NoMemory) n = n
count_after (Ok x) n = n

-- the answer is a fault
abbrev pub is_fault : {T : Type 0} → Result T KeepEnd → Bool
is_fault (Err Fault) = true
is_fault (Err NoMemory) = false
is_fault (Ok x) = false

-- a keeper in memory: the rows that it holds, the numbers of the calls that fail, and the calls and faults so far
pub record MemKept : Type 0 where
  pub rows : List (Option (List ℕ))
  pub fails : List ℕ
  pub calls : ℕ
  pub faults : ℕ
