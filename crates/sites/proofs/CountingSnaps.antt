-- How many loads a snap makes.
use Rattle.std.proofs.Common.{◌≡◌, ℕ, zero, suc, ◌+◌, ◌*◌, Bool, true, false, List, Option, Some, None, length, sym, ap, ◌∙◌, subst, arith, length-append}
use Rattle.std.specs.Prelude.{is_some, if◌then◌else◌, option_map, option_to_list}
use Rattle.armus_base.specs.declared.event.Event.{Event}
use Rattle.armus_base.specs.declared.status.Status.{Status}
use Rattle.armus_base.specs.Plans.{Plan}
use Rattle.armus_base.specs.States.{Phases, State}
use Rattle.armus_base.specs.Finals.{given_below, status_of}
use Rattle.board.specs.calls.Seats.{Known}
use Rattle.phase_scan.specs.calls.Collects.{FindsEvent, IfAsked, LoadsChosen, LoadsRow, LoadsRows}
use Rattle.phase_scan.proofs.Counting.{count_below, counts_below}
use Rattle.sites.specs.calls.Rows.{is_of_site}
use Rattle.sites.specs.calls.Snaps.{CountsSnap, IsSnap}
use Rattle.sites.specs.inside.Snapping.{whole_status}

chosen_loads : (chosen : ℕ → Bool) (events : ℕ → Option Event) (n : ℕ) (k m : Known) → LoadsChosen chosen events n k m → m.view.loads ≡ k.view.loads + count_below chosen n
unfolding count_below
chosen_loads chosen events zero k m same = (let e = ap (λ (j : Known). j.view.loads) same in omega arith)
chosen_loads chosen events (suc t) k m (between, before, made) = by_test (chosen_loads chosen events t k between before) (chosen t) made
  where
    by_test :
        between.view.loads ≡ k.view.loads + count_below chosen t → (b : Bool) → IfAsked b (FindsEvent t (events t)) between m →
        m.view.loads ≡ k.view.loads + (if b then count_below chosen t + 1 else count_below chosen t)
    by_test rest true finds = (let l = finds.load.load.loads in omega arith)
    by_test rest false same = (let l = ap (λ (j : Known). j.view.loads) same in omega arith)

row_loads : (t : ℕ) (phases : Phases) (q : ℕ) (k m : Known) → LoadsRow (λ p. true) t phases q k m → m.view.loads ≡ k.view.loads + q
row_loads t phases zero k m same = (let e = ap (λ (j : Known). j.view.loads) same in omega arith)
row_loads t phases (suc p) k m (between, before, load) =
    let b = row_loads t phases p k between before in let l = load.load.loads in omega arith

rows_loads :
    (plan : Plan) (found : State) (n : ℕ) (k m : Known) → LoadsRows (length plan.makers) (λ p. true) found n k m →
    m.view.loads ≡ k.view.loads + length (given_below (status_of plan found (λ p. true)) n) * length plan.makers
rows_loads plan found zero k m same = (let e = ap (λ (j : Known). j.view.loads) same in omega arith)
rows_loads plan found (suc t) k m (between, before, made) =
    by_event (length plan.makers) (length (given_below (status_of plan found (λ p. true)) t)) (rows_loads plan found t k between before)
    (λ row. row_loads t (found.phases t) (length plan.makers) between m row) (found.published t) made
    ∙ ap (λ n. k.view.loads + n * length plan.makers) (sym (length-append (given_below (status_of plan found (λ p. true)) t)
    (option_to_list (status_of plan found (λ p. true) t))))
  where
    by_event :
        (each rest : ℕ) → between.view.loads ≡ k.view.loads + rest * each →
        (LoadsRow (λ p. true) t (found.phases t) (length plan.makers) between m → m.view.loads ≡ between.view.loads + each) →
        (o : Option Event) → IfAsked (is_some o) (LoadsRow (λ p. true) t (found.phases t) (length plan.makers)) between m →
        m.view.loads ≡ k.view.loads + (rest + length (option_to_list (option_map (whole_status (length plan.makers) t (found.phases t)) o))) * each
    by_event each rest before one (Some e) row = (let l = one row in omega arith)
    by_event each rest before one None same = (let l = ap (λ (j : Known). j.view.loads) same in omega arith)

-- one load for each task of the site, and one for each status and each phaser
pub counts_snap : (plan : Plan) (sites site : ℕ) (list : List Status) (before now : Known) → IsSnap plan sites site list before now → CountsSnap plan sites site list before now
counts_snap plan sites site list before now c =
    record {
      tasks = count_below (is_of_site sites site) (length plan.parents);
      own = counts_below (is_of_site sites site) (length plan.parents);
      loads =
          (let a = chosen_loads (is_of_site sites site) c.found.published (length plan.parents) before c.between c.awaits in
          let r = rows_loads plan c.found (length plan.parents) c.between now c.rows in
          let n = ap length c.statuses in
          sums before.view.loads c.between.view.loads now.view.loads (count_below (is_of_site sites site) (length plan.parents))
          (length (given_below (status_of plan c.found (λ p. true)) (length plan.parents))) (length plan.makers) (length list) a r n);
    }
  where
    sums : (k b m t w q n : ℕ) → b ≡ k + t → m ≡ b + w * q → n ≡ w → m ≡ k + (t + n * q)
    sums k b m t w q n a r e = subst (λ v. m ≡ k + (t + v * q)) (sym e) (omega arith)
