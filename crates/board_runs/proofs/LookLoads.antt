-- How many loads a look makes.
use Rattle.std.proofs.Common.{◌≡◌, ℕ, zero, suc, ◌+◌, ◌-◌, length, ap, arith}
use Rattle.armus_base.specs.declared.event.Event.{Event}
use Rattle.board.specs.calls.Seats.{Known}
use Rattle.board.specs.calls.Views.{seen}
use Rattle.phase_scan.specs.calls.Looks.{FindsBehind, FindsReached, LoadsAhead}

ahead_loads : (e : Event) (k n : ℕ) (a b : Known) → LoadsAhead e k n a b → b.view.loads ≡ a.view.loads + n
ahead_loads e k zero a b same = (let l = ap (λ (j : Known). j.view.loads) same in omega arith)
ahead_loads e k (suc n) a b (between, before, found, ahead, load) =
    (let l = ahead_loads e k n a between before in let one = load.load.loads in omega arith)

-- one for each task up to the last
pub reached_loads : (a b : Known) → FindsReached a b → b.view.loads + (seen a.view).scanned ≡ a.view.loads + length a.view.plan.parents
reached_loads a b f =
    (let l = ahead_loads f.event (seen a.view).scanned f.scans.count a b f.scans.loads in let up = f.scans.up_to in omega arith)

-- or up to the one that was found behind
pub behind_loads : (t n : ℕ) (a b : Known) → FindsBehind t n a b → b.view.loads ≡ a.view.loads + ((t - (seen a.view).scanned) + 1)
behind_loads t n a b f =
    (let l = ahead_loads f.event (seen a.view).scanned f.scans.count a f.between f.scans.loads in
    let up = f.scans.up_to in
    let one = f.load.load.loads in
    omega arith)
