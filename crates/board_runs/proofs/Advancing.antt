-- A round brings tasks further, and how far all may come.
use Rattle.std.proofs.Common.{◌≡◌, ℕ, suc, ◌<◌, ◌≤◌, ◌+◌, List, [], ◌∷◌, Option, Some, None, length, map, sym, refl, ap, ◌∙◌, subst, arith, inl, inr, ◌⊎◌}
use Rattle.std.specs.Prelude.{Contains, IsSome, is_some, sum_by, if◌then◌else◌}
use Rattle.std.proofs.lemmas.Bool.{cases_lt}
use Rattle.std.proofs.lemmas.List.Sums.{sum_by-cons}
use Rattle.armus_base.specs.Plans.{Action, Advances, Blocks, Drops, Forks, Makes, Passes, Plan, Refuses, Registers, actions}
use Rattle.armus_base.specs.Runs.{Place, next_place}
use Rattle.armus_base.specs.CheckedPlans.{IsCheckedPlan}
use Rattle.armus_base.proofs.Elements.{Contains-head, Contains-tail, from_map}
use Rattle.board.specs.calls.Views.{own_place, task_of}
use Rattle.board.specs.calls.Seats.{Frame}
use Rattle.board_runs.specs.calls.Turns.{MakesActions, EachActs, LeadsByCode, Working, no_task, one_task}
use Rattle.board_runs.specs.calls.TaskSeats.{AreTaskSeatsOf, all_steps, own_number, progress_of}
use Rattle.board_runs.specs.calls.Rounds.{emptied}
use Rattle.board_runs.proofs.Apart.{differ_sum, sum_over}
use Rattle.board_runs.proofs.Goings.{task_is}
use Rattle.board_runs.proofs.Shuffling.{once_differ}

-- how far a place is
abbrev steps_at : Place → ℕ
steps_at place = place.done + (if is_some place.dropped then 1 else 0)

steps_first : (k : ℕ) (x : Action) → steps_at (next_place k None x) ≡ suc k
steps_first k (Makes p) = omega arith
steps_first k (Registers c p) = omega arith
steps_first k (Forks c) = omega arith
steps_first k (Advances p) = omega arith
steps_first k (Drops p) = omega arith
steps_first k (Blocks p) = omega arith
steps_first k (Passes p) = omega arith
steps_first k (Refuses p) = omega arith

steps_refused : (k d : ℕ) (x : Action) → steps_at (next_place k (Some d) x) ≡ suc k
steps_refused k d (Makes p) = omega arith
steps_refused k d (Registers c p) = omega arith
steps_refused k d (Forks c) = omega arith
steps_refused k d (Advances p) = omega arith
steps_refused k d (Drops p) = omega arith
steps_refused k d (Blocks p) = omega arith
steps_refused k d (Passes p) = omega arith
steps_refused k d (Refuses p) = omega arith

-- one step more is no step back
no_less : (k : ℕ) (o : Option ℕ) (x : Action) → k + (if is_some o then 1 else 0) ≤ steps_at (next_place k o x)
no_less k None x = (let e = steps_first k x in omega arith)
no_less k (Some d) x = (let e = steps_refused k d x in omega arith)

more : (k : ℕ) (o : Option ℕ) (x : Action) → o ≡ None → k + (if is_some o then 1 else 0) < steps_at (next_place k o x)
more k None x e = (let s = steps_first k x in omega arith)
more k (Some d) x e = absurd (cc)

not_back : (plan : Plan) (t : ℕ) (a : Place) (own : List Action) (b : Place) → LeadsByCode plan t a own b → steps_at a ≤ steps_at b
not_back plan t a [] b same = (let e : steps_at b ≡ steps_at a = ap steps_at same in omega arith)
not_back plan t a (x ∷ own) b steps =
    let l = no_less a.done a.dropped x in
    let r = not_back plan t (next_place a.done a.dropped x) own b steps.1 in
    omega arith

further : (plan : Plan) (t : ℕ) (a : Place) (own : List Action) (b : Place) → a.dropped ≡ None → LeadsByCode plan t a own b → 0 < length own → steps_at a < steps_at b
further plan t a [] b none steps l = absurd (omega arith)
further plan t a (x ∷ own) b none steps l =
    let m = more a.done a.dropped x none in
    let r = not_back plan t (next_place a.done a.dropped x) own b steps.1 in
    omega arith

-- a task that is not refused has dropped nothing
pub no_drop : (o : Option ℕ) → (o ≡ None) ⊎ IsSome o
no_drop None = inl refl
no_drop (Some d) = inr refl

task_not_back : (f : Frame) (own : List Action) (w v : Working) → MakesActions f own w v → progress_of w ≤ progress_of v
task_not_back f own w v acts = not_back w.seat.view.plan (task_of w.seat.view) (own_place w.seat.view) own (own_place v.seat.view) acts.goes.place

pub task_further : (f : Frame) (own : List Action) (w v : Working) → MakesActions f own w v → 0 < length own → progress_of w < progress_of v
task_further f own w v acts l = elim (no_drop (own_place w.seat.view).dropped) [
  | inl none ↦ further w.seat.view.plan (task_of w.seat.view) (own_place w.seat.view) own (own_place v.seat.view) none acts.goes.place l
  | inr some ↦ (let e : length own ≡ 0 = ap length (acts.refused some) in absurd (omega arith))
]

-- so are the tasks of a round, and further by a step of one of them
pub all_not_back : {f : Frame} {owns : List (List Action)} {olds news : List Working} → EachActs f owns olds news → sum_by progress_of olds ≤ sum_by progress_of news
all_not_back no_task = omega arith
all_not_back {f = f} (one_task {own = own} {owns = owns} {before = a} {now = b} {befores = olds} {nows = news} acts p) =
    let x = sum_by-cons progress_of a olds in
    let y = sum_by-cons progress_of b news in
    let l = task_not_back f own a b acts in
    let r = all_not_back p in
    omega arith

pub all_further : {f : Frame} {owns : List (List Action)} {olds news : List Working} → EachActs f owns olds news → 0 < sum_by length owns → sum_by progress_of olds < sum_by progress_of news
all_further no_task l = absurd (omega arith)
all_further {f = f} (one_task {own = own} {owns = owns} {before = a} {now = b} {befores = olds} {nows = news} acts p) l =
    let x = sum_by-cons progress_of a olds in
    let y = sum_by-cons progress_of b news in
    let z = sum_by-cons length own owns in
    elim (cases_lt 0 (length own)) [
      | inl some ↦ (let m = task_further f own a b acts some in let r = all_not_back p in omega arith)
      | inr none ↦ (let m = task_not_back f own a b acts in let r = all_further p (omega arith) in omega arith)
    ]

-- taking the children's seats out changes no sum of what is the same without them
pub emptied_sum : (of : Working → ℕ) → ((w : Working) → of (emptied w) ≡ of w) → (ws : List Working) → sum_by of (map emptied ws) ≡ sum_by of ws
emptied_sum of same [] = refl
emptied_sum of same (w ∷ ws) =
    let x = sum_by-cons of (emptied w) (map emptied ws) in
    let y = sum_by-cons of w ws in
    let e = same w in
    let r = emptied_sum of same ws in
    omega arith

-- a sum over tasks is that over their numbers
over_numbers : (g : ℕ → ℕ) (ws : List Working) → sum_over g (map own_number ws) ≡ sum_by (λ (w : Working). g (own_number w)) ws
over_numbers g [] = refl
over_numbers g (w ∷ ws) =
    let x = sum_by-cons (λ (v : Working). g (own_number v)) w ws in
    let r = over_numbers g ws in
    omega arith

at_most_each : (g : ℕ → ℕ) (ws : List Working) → ((w : Working) → Contains ws w → progress_of w ≤ g (own_number w)) → sum_by progress_of ws ≤ sum_by (λ (w : Working). g (own_number w)) ws
at_most_each g [] each = omega arith
at_most_each g (w ∷ ws) each =
    let x = sum_by-cons progress_of w ws in
    let y = sum_by-cons (λ (v : Working). g (own_number v)) w ws in
    let l = each w (Contains-head w ws) in
    let r = at_most_each g ws (λ v i. each v (Contains-tail w ws v i)) in
    omega arith

ones : (ws : List Working) → sum_by (λ (w : Working). 1) ws ≡ length ws
ones [] = refl
ones (w ∷ ws) = (let x = sum_by-cons (λ (v : Working). 1) w ws in let r = ones ws in omega arith)

at_most_one : (o : Option ℕ) → (if is_some o then 1 else 0) ≤ 1
at_most_one None = omega arith
at_most_one (Some d) = omega arith

module _ (f : Frame) (checked : IsCheckedPlan f.plan) (ws : List Working) (whole : AreTaskSeatsOf f ws) where
  number_within : (t : ℕ) → Contains (map own_number ws) t → t < length f.plan.parents
  number_within t i =
      let r = from_map own_number ws t i in
      let s = whole.board_tasks.each r.0.seat (r.0, r.1, refl) in
      subst (λ u. u < length f.plan.parents) (sym (task_is r.0.seat s.task s.own) ∙ r.2)
      (subst (λ (q : Plan). s.task < length q.parents) s.of_board.plan (s.kept.own s.task s.own).0)

  step_bound : (w : Working) → Contains ws w → progress_of w ≤ length (actions f.plan (own_number w)) + 1
  step_bound w i =
      let s = whole.board_tasks.each w.seat (w, i, refl) in
      let l = s.within in
      let m = at_most_one (own_place w.seat.view).dropped in
      omega arith

  -- and come no further than their codes go
  pub within_all : sum_by progress_of ws ≤ all_steps f.plan
  within_all =
      let d = differ_sum (map own_number ws) (λ t. length (actions f.plan t) + 1) (length f.plan.parents) (once_differ ws whole.once) number_within in
      let a = over_numbers (λ t. length (actions f.plan t) + 1) ws in
      let l = at_most_each (λ t. length (actions f.plan t) + 1) ws step_bound in
      omega arith
