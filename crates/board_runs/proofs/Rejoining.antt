-- What a round makes of all tasks of a run, the ended ones among them.
use Rattle.std.proofs.Common.{◌≡◌, ◌⊎◌, ℕ, suc, ◌<◌, ◌≤◌, List, [], ◌∷◌, ◌++◌, Some, false, length, map, sym, refl, ap, ◌∙◌, subst, arith, inl, inr, append-nil, append_assoc}
use Rattle.std.specs.Prelude.{All, Contains, sum_by}
use Rattle.std.specs.List.{flat_map}
use Rattle.std.specs.List.Sorted.{IsPermutation}
use Rattle.std.proofs.lemmas.List.Elements.{All-append, Contains-append_left, Contains-append_right}
use Rattle.std.proofs.lemmas.List.Sorted.{All-permutation, IsPermutation-append_comm, IsPermutation-append_left, IsPermutation-append_right, IsPermutation-middle, IsPermutation-push_more, IsPermutation-sym, IsPermutation-to_front, IsPermutation-trans, sum_by-IsPermutation}
use Rattle.std.proofs.lemmas.List.Sums.{sum_by-append, sum_by-cons}
use Rattle.armus_base.specs.Plans.{Action, Plan}
use Rattle.armus_base.specs.CheckedPlans.{IsCheckedPlan}
use Rattle.armus_base.specs.calls.Seats.{seen_by_child}
use Rattle.armus_base.proofs.Elements.{Contains-cons_cases, nothing_in_nil}
use Rattle.board.specs.calls.Seats.{Frame, IsNewSeat, IsOf, Known, nothing_seen}
use Rattle.board_runs.specs.calls.Turns.{ActsNoMore, EachActs, MayTakeTurn, Working, in_32_bits, loads_between}
use Rattle.board_runs.specs.declared.board_tasks.Rounded.{Rounded}
use Rattle.board_runs.specs.calls.TaskSeats.{AreTasksOf, AreTaskSeatsOf, Tasks, all_of, all_steps, left_to, own_number, progress_of}
use Rattle.board_runs.specs.calls.Rounds.{HasTakenTurn, HaveEnded, MakesRound, all_forked, emptied, fresh_of}
use Rattle.board_runs.proofs.Advancing.{all_further, emptied_sum, within_all}
use Rattle.board_runs.proofs.Apart.{IsFamily, family_after}
use Rattle.board_runs.proofs.Between.{all_from, task_seats_ready, first_task_seats, then_task_seats, then_none, to_each}
use Rattle.board_runs.proofs.Forking.{forks_counted, have_turned, none_forked, not_forked, still_forks}
use Rattle.board_runs.proofs.Goings.{none_in, task_is}
use Rattle.board_runs.proofs.Rounding.{each_on, each_turned, loads_in, rest_each}
use Rattle.board_runs.proofs.Shuffling.{differ_once, once_differ, shuffled}

-- one more of them lives, or has ended
pub one_lives : (E Y L D : List Working) (x : Working) → IsPermutation (E ++ Y) (L ++ D) → IsPermutation (E ++ (Y ++ x ∷ [])) ((L ++ x ∷ []) ++ D)
one_lives E Y L D x p =
    subst (λ zs. IsPermutation zs ((L ++ x ∷ []) ++ D)) (append_assoc E Y (x ∷ []))
    (IsPermutation-push_more (E ++ Y) (L ++ D) ((L ++ x ∷ []) ++ D) x p
    (subst (λ zs. IsPermutation (x ∷ (L ++ D)) zs) (sym (append_assoc L (x ∷ []) D)) (IsPermutation-sym (L ++ x ∷ D) (x ∷ (L ++ D)) (IsPermutation-middle L x D))))

pub one_ends : (E Y L D : List Working) (x : Working) → IsPermutation (E ++ Y) (L ++ D) → IsPermutation (E ++ (Y ++ x ∷ [])) (L ++ (D ++ x ∷ []))
one_ends E Y L D x p =
    subst (λ zs. IsPermutation zs (L ++ (D ++ x ∷ []))) (append_assoc E Y (x ∷ []))
    (IsPermutation-push_more (E ++ Y) (L ++ D) (L ++ (D ++ x ∷ [])) x p
    (subst (λ zs. IsPermutation (x ∷ (L ++ D)) zs) (append_assoc L D (x ∷ [])) (IsPermutation-sym ((L ++ D) ++ x ∷ []) (x ∷ (L ++ D)) (IsPermutation-to_front (L ++ D) x))))

pub all_moved : (E A zs : List Working) → IsPermutation (E ++ A) zs → IsPermutation (A ++ E) zs
all_moved E A zs p = IsPermutation-trans (A ++ E) (E ++ A) zs (IsPermutation-append_comm A E) p

swap_last : (A B C : List Working) → IsPermutation ((A ++ B) ++ C) ((A ++ C) ++ B)
swap_last A B C =
    subst (λ zs. IsPermutation zs ((A ++ C) ++ B)) (sym (append_assoc A B C))
    (subst (λ zs. IsPermutation (A ++ (B ++ C)) zs) (sym (append_assoc A C B)) (IsPermutation-append_right A (B ++ C) (C ++ B) (IsPermutation-append_comm B C)))

-- who has no children is no other without them
map_more : (xs ys : List Working) → map emptied (xs ++ ys) ≡ map emptied xs ++ map emptied ys
map_more [] ys = refl
map_more (x ∷ xs) ys = ap (λ ws. emptied x ∷ ws) (map_more xs ys)

fresh_more : (xs ys : List Working) → flat_map fresh_of (xs ++ ys) ≡ flat_map fresh_of xs ++ flat_map fresh_of ys
fresh_more [] ys = refl
fresh_more (x ∷ xs) ys = ap (λ ws. fresh_of x ++ ws) (fresh_more xs ys) ∙ sym (append_assoc (fresh_of x) (flat_map fresh_of xs) (flat_map fresh_of ys))

rest_none : (w : Working) (ws : List Working) → All (λ (v : Working). v.children ≡ []) (w ∷ ws) → All (λ (v : Working). v.children ≡ []) ws
rest_none w ws all = λ k d l. all (suc k) d (omega arith)

none_emptied : (ws : List Working) → All (λ (w : Working). w.children ≡ []) ws → map emptied ws ≡ ws
none_emptied [] all = refl
none_emptied (w ∷ ws) all =
    (let here : w.children ≡ [] = all 0 w (omega arith) in
    let same : emptied w ≡ w = (λ i. record { seat = w.seat; children = sym here i }) in
    (λ i. same i ∷ none_emptied ws (rest_none w ws all) i))

none_fresh : (ws : List Working) → All (λ (w : Working). w.children ≡ []) ws → flat_map fresh_of ws ≡ []
none_fresh [] all = refl
none_fresh (w ∷ ws) all =
    (let here : w.children ≡ [] = all 0 w (omega arith) in
    ap (λ (ks : List Known). map (λ (k : Known). record { seat = k; children = [] }) ks ++ flat_map fresh_of ws) here ∙ none_fresh ws (rest_none w ws all))

abbrev no_steps : Working → List Action
no_steps w = []

zeros : (ws : List Working) → sum_by length (map no_steps ws) ≡ 0
zeros [] = refl
zeros (w ∷ ws) = (let r = zeros ws in let s = sum_by-cons (length {A = Action}) (no_steps w) (map no_steps ws) in omega arith)

module _ (bound : ℕ) (f : Frame) (live ended new : List Working) (told : Rounded) (tasks : AreTasksOf f (record { live = live; ended = ended }))
    (round : MakesRound bound f live new told) where
  abbrev olds : List Working
  olds = live ++ ended

  abbrev turned : List Working
  turned = round.turned ++ ended

  whole : AreTaskSeatsOf f olds
  whole = tasks.all

  ready : (w : Working) → Contains olds w → MayTakeTurn f w
  ready w i = to_each (MayTakeTurn f) olds (task_seats_ready f olds whole.board_tasks) w i

  abbrev owns : List (List Action)
  owns = round.owns ++ map no_steps ended

  each : EachActs f owns olds turned
  each = each_on (map no_steps ended) ended ended round.each (rest_each f ended (all_from (MayTakeTurn f) ended (λ w i. ready w (Contains-append_right live ended w i))))

  actions : told.actions ≡ in_32_bits (sum_by length owns)
  actions = (let s = sum_by-append (length {A = Action}) round.owns (map no_steps ended) in let z = zeros ended in let e = round.actions in omega arith)

  none : (w : Working) → Contains olds w → w.children ≡ []
  none w i = to_each (λ (v : Working). v.children ≡ []) olds whole.no_child w i

  ended_none : All (λ (w : Working). w.children ≡ []) ended
  ended_none = all_from (λ (w : Working). w.children ≡ []) ended (λ w i. none w (Contains-append_right live ended w i))

  planned : (w : Working) → Contains olds w → w.seat.view.plan ≡ f.plan
  planned w i = (whole.board_tasks.each w.seat (w, i, refl)).of_board.plan

  pub is_checked : IsCheckedPlan f.plan
  is_checked = (let root = whole.board_tasks.each whole.board_tasks.root.0 whole.board_tasks.root.1 in subst IsCheckedPlan root.of_board.plan root.kept.checked)

  family : IsFamily f olds
  family = record { differ = once_differ olds whole.once; origin = whole.origin }

  abbrev next : List Working
  next = map emptied turned ++ flat_map fresh_of turned

  after : IsFamily f next
  after = family_after f is_checked owns olds turned each planned none family

  next_whole : AreTaskSeatsOf f next
  next_whole = record {
    board_tasks = then_task_seats f owns olds turned each whole.board_tasks whole.no_child;
    no_child = then_none f owns olds turned each whole.board_tasks whole.no_child;
    once = differ_once next after.differ;
    origin = after.origin;
  }

  abbrev joined : List Working
  joined = map emptied round.turned ++ flat_map fresh_of round.turned

  next_is : next ≡ (map emptied round.turned ++ ended) ++ flat_map fresh_of round.turned
  next_is =
      ap (λ ws. ws ++ flat_map fresh_of turned) (map_more round.turned ended ∙ ap (λ ws. map emptied round.turned ++ ws) (none_emptied ended ended_none))
      ∙ ap (λ ws. (map emptied round.turned ++ ended) ++ ws)
      (fresh_more round.turned ended ∙ ap (λ ws. flat_map fresh_of round.turned ++ ws) (none_fresh ended ended_none) ∙ append-nil (flat_map fresh_of round.turned))

  moved : IsPermutation next (new ++ ended)
  moved =
      subst (λ zs. IsPermutation zs (new ++ ended)) (sym next_is)
      (IsPermutation-trans ((map emptied round.turned ++ ended) ++ flat_map fresh_of round.turned) (joined ++ ended) (new ++ ended)
      (swap_last (map emptied round.turned) ended (flat_map fresh_of round.turned))
      (IsPermutation-append_left ended joined new round.joined))

  pub after_round : AreTaskSeatsOf f (new ++ ended)
  after_round = shuffled f next (new ++ ended) moved next_whole

  next_steps : sum_by progress_of turned ≤ sum_by progress_of (new ++ ended)
  next_steps =
      (let p = sum_by-IsPermutation progress_of next (new ++ ended) moved in
      let s = sum_by-append progress_of (map emptied turned) (flat_map fresh_of turned) in
      let e = emptied_sum progress_of (λ w. refl) turned in
      omega arith)

  pub round_further : 0 < told.actions → sum_by progress_of olds < sum_by progress_of (new ++ ended)
  round_further l = (let e = actions in let m = all_further each (omega arith) in let n = next_steps in omega arith)

  abbrev loads : ℕ
  loads = loads_between olds (new ++ ended)

  -- the loads of the turns are among those of the round
  turns_made : loads_between live round.turned ≤ loads
  turns_made =
      (let p = sum_by-IsPermutation loads_in next (new ++ ended) moved in
      let s = sum_by-append loads_in (map emptied turned) (flat_map fresh_of turned) in
      let e = emptied_sum loads_in (λ w. refl) turned in
      let t = sum_by-append loads_in round.turned ended in
      let o = sum_by-append loads_in live ended in
      omega arith)

  -- where no step was made nobody was forked
  pub round_quiet : told.actions ≡ 0 → told.forked ≡ false
  round_quiet z = not_forked told.forked (all_forked round.owns) round.forked (still_forks round.owns (let e = round.actions in omega arith))

  abbrev HasEnded : Working → Type 0
  HasEnded w = HasTakenTurn bound loads live w ⊎ Contains ended w

  -- where nobody was forked each has ended its turn
  pub round_ends : told.forked ≡ false → All HasEnded (new ++ ended)
  round_ends not_so =
      let forks = none_forked told.forked (all_forked round.owns) round.forked not_so in
      let count = forks_counted round.each (λ w i. none w (Contains-append_left live ended w i)) in
      let nobody : flat_map fresh_of round.turned ≡ [] = none_in (flat_map fresh_of round.turned) (let z : length (all_forked round.owns) ≡ 0 = ap length forks in omega arith) in
      let just : IsPermutation (map emptied round.turned) new =
      subst (λ ws. IsPermutation ws new) (ap (λ ws. map emptied round.turned ++ ws) nobody ∙ append-nil (map emptied round.turned)) round.joined in
      let taken = All-permutation (HasTakenTurn bound loads live) (map emptied round.turned) new just (have_turned (each_turned loads turns_made round.ends) round.each) in
      All-append HasEnded new ended (λ k d l. inl (taken k d l)) (all_from HasEnded ended (λ w i. inr i))

-- what a round asks of the tasks that live
module _ (f : Frame) (tasks : Tasks) (are : AreTasksOf f tasks) where
  lives : (P : Working → Type 0) → ((w : Working) → Contains (all_of tasks) w → P w) → All P tasks.live
  lives P each = all_from P tasks.live (λ w i. each w (Contains-append_left tasks.live tasks.ended w i))

  pub live_ready : All (MayTakeTurn f) tasks.live
  live_ready = lives (MayTakeTurn f) (to_each (MayTakeTurn f) (all_of tasks) (task_seats_ready f (all_of tasks) are.all.board_tasks))

  pub live_none : All (λ (w : Working). w.children ≡ []) tasks.live
  live_none = lives (λ (w : Working). w.children ≡ []) (to_each (λ (w : Working). w.children ≡ []) (all_of tasks) are.all.no_child)

-- what is true of each is true of those that live, and of those that have ended
module _ (f : Frame) (tasks : Tasks) (are : AreTasksOf f tasks) where
  of_both : (P : Working → Type 0) → ((w : Working) → Contains (all_of tasks) w → P w) → All P tasks.live × All P tasks.ended
  of_both P each = (
    all_from P tasks.live (λ w i. each w (Contains-append_left tasks.live tasks.ended w i)),
    all_from P tasks.ended (λ w i. each w (Contains-append_right tasks.live tasks.ended w i)),
  )

  pub both_of : All (λ (w : Working). IsOf w.seat f) tasks.live × All (λ (w : Working). IsOf w.seat f) tasks.ended
  both_of = of_both (λ (w : Working). IsOf w.seat f) (λ w i. (are.all.board_tasks.each w.seat (w, i, refl)).of_board)

  pub both_none : All (λ (w : Working). w.children ≡ []) tasks.live × All (λ (w : Working). w.children ≡ []) tasks.ended
  both_none = of_both (λ (w : Working). w.children ≡ []) (to_each (λ (w : Working). w.children ≡ []) (all_of tasks) are.all.no_child)

  pub both_within : (n : ℕ) → length f.plan.parents ≡ n → All (λ (w : Working). own_number w < n) tasks.live × All (λ (w : Working). own_number w < n) tasks.ended
  both_within n e =
      of_both (λ (w : Working). own_number w < n)
      (λ w i.
      let s = are.all.board_tasks.each w.seat (w, i, refl) in
      let l : s.task < length f.plan.parents = subst (λ (q : Plan). s.task < length q.parents) s.of_board.plan (s.kept.own s.task s.own).0 in
      let t = task_is w.seat s.task s.own in
      omega arith)

-- and once the tasks that have done their code are among the ended ones
pub whole_round :
    (bound : ℕ) (f : Frame) (plan : Plan) (before now : Tasks) (new : List Working) (told : Rounded) → f.plan ≡ plan → AreTasksOf f before →
    MakesRound bound f before.live new told → IsPermutation (new ++ before.ended) (all_of now) → All (λ (w : Working). ActsNoMore w.seat) now.ended →
    AreTasksOf f now × (0 < told.actions → left_to plan now < left_to plan before) × (told.forked ≡ false → HaveEnded bound before now)
whole_round bound f plan before now new told same tasks round moved done =
    let middle = new ++ before.ended in
    let whole = shuffled f middle (all_of now) moved (after_round bound f before.live before.ended new told tasks round) in (
      record { all = whole; ended = done },
      (λ l.
          let more = round_further bound f before.live before.ended new told tasks round l in
          let e = sum_by-IsPermutation progress_of middle (all_of now) moved in
          let most = within_all f (is_checked bound f before.live before.ended new told tasks round) (all_of now) whole in
          let s : all_steps f.plan ≡ all_steps plan = ap all_steps same in
          omega arith),
      (λ not_so.
          let p = sum_by-IsPermutation loads_in middle (all_of now) moved in
          let same : loads_between (all_of before) middle ≡ loads_between (all_of before) (all_of now) = omega arith in
          record {
            each =
                subst (λ loads. All (λ w. HasTakenTurn bound loads before.live w ⊎ Contains before.ended w) (all_of now)) same
                (All-permutation (λ w. HasTakenTurn bound (loads_between (all_of before) middle) before.live w ⊎ Contains before.ended w) middle (all_of now) moved
                (round_ends bound f before.live before.ended new told tasks round not_so));
          }),
    )

-- task 0 alone
pub first_tasks : (f : Frame) (w : Working) → IsNewSeat f (Some 0) (seen_by_child 0 nothing_seen) w.seat → w.children ≡ [] → AreTasksOf f (record { live = w ∷ []; ended = [] })
first_tasks f w new none = record {
  all = record {
    board_tasks = first_task_seats f w new;
    no_child = all_from (λ (v : Working). v.children ≡ []) (w ∷ []) (λ v i. ap (λ (x : Working). x.children) (sym (only v i)) ∙ none);
    once = differ_once (w ∷ []) ((λ i. nothing_in_nil (own_number w) i), tt);
    origin = λ v i. inl (ap own_number (sym (only v i)) ∙ task_is w.seat 0 new.own_is);
  };
  ended = λ k d l. absurd (omega arith);
}
  where
    only : (v : Working) → Contains (w ∷ []) v → w ≡ v
    only v i = elim (Contains-cons_cases w [] v i) [ inl here ↦ here | inr there ↦ absurd (nothing_in_nil v there) ]
