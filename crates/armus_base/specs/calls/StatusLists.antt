-- Lists of statuses that are made from what shows how tasks stand.
use Rattle.std.specs.Prelude.{◌≡◌, ℕ, ◌<◌, ◌≤◌, Bool, true, false, List, Option, slice_get, slice_index, unwrap_or, option_map}
use Rattle.armus_base.specs.declared.status.Status.{Status}
use Rattle.armus_base.specs.Finals.{given_below, listed_phase}
use Rattle.armus_base.specs.States.{State}

-- the list marks number p
abbrev pub is_marked : List Bool → ℕ → Bool
is_marked marks p = unwrap_or (slice_get marks p) false

-- f is the first marked number from p on, or n where none is below n
pub record IsNextMarked (marked : ℕ → Bool) (n p f : ℕ) : Type 0 where
  pub from : p ≤ f
  pub within : f ≤ n
  pub is_marked : f < n → marked f ≡ true
  pub none : (q : ℕ) → p ≤ q → q < f → marked q ≡ false

-- the list has for each number up to n the first marked one from it on
abbrev pub AreNexts : (ℕ → Bool) → ℕ → List ℕ → Type 0
AreNexts marked n nexts = (p : ℕ) → p ≤ n → IsNextMarked marked n p (slice_index nexts p)

-- the status of task t, if it is published: its event, and its phases on the marked ones of so many phasers, in order of number
abbrev pub status_among : ℕ → State → (ℕ → Bool) → ℕ → Option Status
status_among phasers s marked t =
    option_map
    (λ e. record { t = record { 0 = t }; event = e; phases = given_below (listed_phase marked (s.phases t)) phasers })
    (s.published t)

-- the statuses of the published ones of so many tasks, in order of number, each with its phases on the marked ones of so many phasers
abbrev pub statuses_among : ℕ → ℕ → State → (ℕ → Bool) → List Status
statuses_among tasks phasers s marked = given_below (status_among phasers s marked) tasks
