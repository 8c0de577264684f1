-- After a collect some lawful state is as far on as what its seat has seen.
use Rattle.std.proofs.Common.{◌≡◌, ℕ, zero, suc, ◌<◌, Bool, true, false, List, Option, length, sym, subst, arith}
use Rattle.std.specs.Prelude.{is_some}
use Rattle.armus_base.specs.declared.event.Event.{Event}
use Rattle.armus_base.specs.declared.status.Status.{Status}
use Rattle.armus_base.specs.calls.Boards.{IsLawful}
use Rattle.armus_base.specs.Plans.{Plan}
use Rattle.armus_base.specs.Finals.{is_awaited}
use Rattle.armus_base.specs.calls.Seats.{IsAsFarOn}
use Rattle.armus_base.specs.States.{Phases, State}
use Rattle.board.specs.calls.Words.{found_in}
use Rattle.board.specs.declared.mode.Mode.{Mode}
use Rattle.board.specs.calls.Steps.{IsSameSeat, WasSo}
use Rattle.board.specs.calls.Views.{avoids, seen}
use Rattle.board.specs.calls.Seats.{AnswersPhase, Known}
use Rattle.phase_scan.specs.calls.Collects.{IfAsked, IsCollect, LoadsAwaits, LoadsRow, LoadsRows}
use Rattle.phase_scan.proofs.Farther.{IsPossible}

-- some such state there is
abbrev pub Possible : Known → Type 0
Possible k = IsPossible k (λ s. Unit {0})

-- there is one after each load
pub after_load :
    (Holds : State → Type 0) (before now : Known) → IsSameSeat before.view now.view → WasSo before.view.plan before.view.mode Holds before.view now.view →
    Possible now
after_load Holds before now same was =
    record {
      places = was.places;
      lock = was.lock;
      lawful = subst (λ (m : Mode). IsLawful (avoids m) now.view.plan was.places was.lock) (sym same.mode)
          (subst (λ (q : Plan). IsLawful (avoids before.view.mode) q was.places was.lock) (sym same.plan) was.lawful);
      far = subst (λ (o : Option ℕ). IsAsFarOn now.view.plan o was.places (seen now.view)) (sym same.own)
          (subst (λ (q : Plan). IsAsFarOn q before.view.own was.places (seen now.view)) (sym same.plan) was.now_far);
      holds = tt;
    }

if_asked : (b : Bool) (Loads : Known → Known → Type 0) (x y : Known) → (Loads x y → Possible y) → Possible x → IfAsked b Loads x y → Possible y
if_asked true Loads x y after p loads = after loads
if_asked false Loads x y after p same = subst Possible (sym same) p

row : (asked : ℕ → Bool) (t : ℕ) (phases : Phases) (n : ℕ) (before now : Known) → LoadsRow asked t phases n before now → Possible before → Possible now
row asked t phases zero before now same p = subst Possible (sym same) p
row asked t phases (suc n) before now loads p =
    if_asked (asked n) (AnswersPhase t n (phases n)) loads.0 now (λ load. after_load (λ s. s.phases t n ≡ phases n) loads.0 now load.load.same load.load.was)
    (row asked t phases n before loads.0 loads.1 p) loads.2

rows : (phasers : ℕ) (asked : ℕ → Bool) (found : State) (n : ℕ) (before now : Known) → LoadsRows phasers asked found n before now → Possible before → Possible now
rows phasers asked found zero before now same p = subst Possible (sym same) p
rows phasers asked found (suc n) before now loads p =
    let q = rows phasers asked found n before loads.0 loads.1 p in
    if_asked (is_some (found.published n)) (LoadsRow asked n (found.phases n) phasers) loads.0 now (λ r. row asked n (found.phases n) phasers loads.0 now r q) q loads.2

awaits_some : (events : ℕ → Option Event) (n : ℕ) (before now : Known) → 0 < n → LoadsAwaits events n before now → Possible now
awaits_some events zero before now l loads = absurd (omega arith)
awaits_some events (suc n) before now l loads =
    let load = loads.2.load.load in
    after_load (λ s. found_in s n ≡ loads.2.answer) loads.0 now load.same load.was

pub collect_possible : (plan : Plan) (list : List Status) (before now : Known) → 0 < length plan.parents → IsCollect plan list before now → Possible now
collect_possible plan list before now some c =
    rows (length plan.makers) (is_awaited plan c.found) c.found (length plan.parents) c.between now c.rows
    (awaits_some c.found.published (length plan.parents) before c.between some c.awaits)
