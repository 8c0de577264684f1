-- The least phases on phasers, kept by their names.
use Rattle.std.specs.Prelude.{ℕ, ◌==◌, Bool, true, false, not, Option, Some, None, List, [], ◌∷◌, bytes_eq, nat_eq, nat_lt, min, if◌then◌else◌}
use Rattle.std.specs.Borrow.{Bor}
use Rattle.std.specs.HashMap.{HashMap, get_by}
use Rattle.std.specs.HashSet.{contains}
use Rattle.std.specs.List.{list_any}
use Rattle.monitor_laws.specs.States.{Condition, Running, Waiting, Ended, AnyTask, OneOf}
use Rattle.monitor_search.specs.declared.phases.LeastPhase.{LeastPhase}
use Rattle.monitor_search.specs.declared.phases.Keepers.{Keepers}

-- what is kept for a phaser
abbrev pub least_of : {S : Type 0} → HashMap (Bor (List ℕ)) LeastPhase S → List ℕ → Option LeastPhase
least_of least q = get_by (λ k. bytes_eq q k.now) least

-- with a phase of this one, of whom only the first phase counts
abbrev pub noted_phase : Option LeastPhase → ℕ → ℕ → Option LeastPhase
noted_phase None m who = Some (record { phase = m; last = who })
noted_phase (Some k) m who = if k.last == who then Some k else Some (record { phase = min k.phase m; last = who })

-- with all phases of this one on the phaser
abbrev pub noted_phases : List (List ℕ × ℕ) → List ℕ → ℕ → Option LeastPhase → Option LeastPhase
noted_phases [] q who known = known
noted_phases (m ∷ ms) q who known = noted_phases ms q who (if bytes_eq q m.0 then noted_phase known m.1 who else known)

-- the least phase is below n
abbrev pub is_least_below : Option LeastPhase → ℕ → Bool
is_least_below None n = false
is_least_below (Some k) n = nat_lt k.phase n

-- those of whom the table is made keep whoever is in this condition
abbrev pub keeps_condition : Keepers → Condition → Bool
keeps_condition keepers Running = false
keeps_condition keepers (Waiting p n) = is_least_below (least_of keepers.least p) n
keeps_condition keepers Ended = true
keeps_condition keepers AnyTask = not keepers.live_outside
keeps_condition keepers (OneOf names tasks) = not (list_any (contains nat_eq keepers.numbers) tasks)
