-- Reading a row from left to right.
use Rattle.std.specs.Prelude.{◌≡◌, ◌<◌, ◌^◌, ℕ, zero, suc, true, All, List, [], ◌∷◌, length, take, drop, Option, Some, None, Result, Ok, Err, nat_lt, ◌==◌, if◌then◌else◌}
use Rattle.std.specs.Int.{w32, from_be_bytes}
use Rattle.armus_base.specs.declared.event.Event.{Event}
use Rattle.armus_base.specs.declared.status.Member.{Member}
use Rattle.armus_base.specs.declared.status.Status.{Status}
use Rattle.armus_base.specs.calls.Statuses.{IsInOrder}
use Rattle.sites.specs.declared.ends.DecodeEnd.{DecodeEnd}
use Rattle.sites.specs.declared.ends.DecodeEnd.TheVariants.{Bad, NoMemory}
use Rattle.sites.specs.calls.Rows.{is_of_site}

infixl 10 ◌>>=◌
-- one step of reading after another
abbrev pub ◌>>=◌ : {A B : Type 0} → Option A → (A → Option B) → Option B
(Some x) >>= f = f x
None >>= f = None

-- a reader that gave nothing: reading gives nothing, or memory ran out
abbrev pub FailsToRead : {Y : Type 0} → DecodeEnd → Option Y → Type 0
FailsToRead Bad read = read ≡ None
FailsToRead NoMemory read = Unit {0}

-- what a reader answered, seen by view, is what reading gives, unless memory ran out
abbrev pub GivesRead : {X Y : Type 0} → (X → Y) → Result X DecodeEnd → Option Y → Type 0
GivesRead view (Ok x) read = read ≡ Some (view x)
GivesRead view (Err e) read = FailsToRead e read

-- a number and the bytes after it
abbrev pub front_number : List ℕ → Option (ℕ × List ℕ)
front_number bytes = if nat_lt (length bytes) 4 then None else Some (from_be_bytes w32 (take 4 bytes), drop 4 bytes)

-- a phase and the bytes after it
unfoldable pub phase_at : List ℕ → Option (Member × List ℕ)
phase_at bytes = do
  p ← front_number bytes
  n ← front_number p.1
  Some (record { p = record { 0 = p.0 }; n = n.0 }, n.1)

-- so many things, one after the other, and the bytes after them
unfoldable pub items_at : {A : Type 0} → (List ℕ → Option (A × List ℕ)) → ℕ → List ℕ → Option (List A × List ℕ)
items_at read zero bytes = Some ([], bytes)
items_at read (suc n) bytes = do
  first ← read bytes
  others ← items_at read n first.1
  Some (first.0 ∷ others.0, others.1)

-- an event and the bytes after it
unfoldable pub front_event : List ℕ → Option (Event × List ℕ)
front_event bytes = do
  p ← front_number bytes
  n ← front_number p.1
  Some (record { p = record { 0 = p.0 }; n = n.0 }, n.1)

-- a status and the bytes after it
unfoldable pub status_at : List ℕ → Option (Status × List ℕ)
status_at bytes = do
  t ← front_number bytes
  event ← front_event t.1
  count ← front_number event.1
  phases ← items_at phase_at count.0 count.1
  Some (record { t = record { 0 = t.0 }; event = event.0; phases = phases.0 }, phases.1)

-- all of the bytes
unfoldable pub row_at : List ℕ → Option (List Status)
row_at bytes = do
  n ← front_number bytes
  ss ← items_at status_at n.0 n.1
  if length ss.1 == 0 then Some ss.0 else None

-- statuses of tasks of the site, in order, fewer than 2^28
pub record MayBeStored (sites site : ℕ) (ss : List Status) : Type 0 where
  pub in_order : IsInOrder ss
  pub few : length ss < 2 ^ 28
  pub own : All (λ s. is_of_site sites site s.t.0 ≡ true) ss
