-- That what is told of a clock or finish is the statement at which the move is made that makes it, and the name that stands there.
use Rattle.std.specs.Prelude.{◌≡◌, ℕ, List, None, Ok, Some}
use Rattle.std.specs.List.{slice_get}
use Rattle.clock_syntax.specs.Trees.{ClockTree, clock}
use Rattle.clock_semantics.specs.Moves.{Move, begins, opens}
use Rattle.clock_semantics.specs.Unfolding.{ClockComing, ClockUnfolding, a_finish, a_plain, clock_unfolded}
use Rattle.clock_source_map.specs.ClockOrigins.{MadeThing, all_things}
use Rattle.report_laws.specs.MovesMade.{MakesMoveAt}

-- of the clock or finish that this move makes, if it makes one, these tell the statement of this coming, and the name of the clock there; a finish has none
abbrev pub AreToldOfMove : List MadeThing → ClockComing → Move → Type 0
AreToldOfMove things m (opens p) = (x : List ℕ) × (m.part ≡ a_plain (clock x)) × (slice_get things p ≡ Some (record { statement = m.statement; name = Some x }))
AreToldOfMove things m (begins f) = (m.part ≡ a_finish) × (slice_get things f ≡ Some (record { statement = m.statement; name = None }))
AreToldOfMove things m move = Unit {0}

-- the statement and the name that are told of a clock or finish, by its number, are those of the coming at which the move is made that makes it
abbrev pub ClocksAreToldByTheirMoves : Type 0
ClocksAreToldByTheirMoves =
    (p : ClockTree) (u : ClockUnfolding) (t k : ℕ) (m : ClockComing) (move : Move) → clock_unfolded p ≡ Ok u → MakesMoveAt u t k m move →
    AreToldOfMove (all_things u) m move
