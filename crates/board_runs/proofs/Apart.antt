-- No two tasks of a board_tasks are one: whoever is forked in a round has no seat before it.
use Rattle.std.proofs.Common.{◌≡◌, ℕ, zero, suc, ◌<◌, ◌≤◌, ◌+◌, List, [], ◌∷◌, ◌++◌, Option, Some, None, map, sym, refl, ap, ◌∙◌, subst, arith, inl, inr, ◌⊎◌}
use Rattle.std.specs.Prelude.{Contains, unwrap_or}
use Rattle.std.proofs.lemmas.List.Elements.{Contains-append_cases, Contains-append_left}
use Rattle.armus_base.specs.Plans.{Action, Advances, Blocks, Drops, Forks, Makes, Passes, Plan, Refuses, Registers, action_at, parent_of}
use Rattle.armus_base.specs.States.{updated}
use Rattle.armus_base.proofs.Steps.{updated_other, updated_same}
use Rattle.std.proofs.lemmas.Bool.{cases_eq}
use Rattle.armus_base.specs.Runs.{IsByCode, Place, next_place}
use Rattle.armus_base.specs.CheckedPlans.{IsCheckedPlan}
use Rattle.armus_base.proofs.Elements.{Contains-cons_cases, Contains-head, Contains-tail, from_map, in_map, nothing_in_nil}
use Rattle.armus_base.proofs.Codes.{child_later, parent_is}
use Rattle.board.specs.calls.Views.{own_place, task_of}
use Rattle.board.specs.calls.Seats.{Frame, Known}
use Rattle.board_runs.specs.calls.Turns.{MakesActions, AreChildSeats, EachActs, LeadsByCode, Working, tasks_forked, no_child, no_task, one_child, one_task}
use Rattle.board_runs.specs.calls.TaskSeats.{IsForkedWithin, done_of, own_number, sum_below}
use Rattle.board_runs.specs.calls.Rounds.{emptied, fresh, fresh_of}
use Rattle.board_runs.proofs.Goings.{same_task}
use Rattle.board_runs.proofs.Between.{from_fresh}
use Rattle.board_runs.proofs.TaskSeatsKept.{became, step_done, was}
use Rattle.std.specs.List.{flat_map}

-- these numbers differ pairwise
abbrev pub Differ : List ℕ → Type 0
Differ [] = Unit {0}
Differ (t ∷ ts) = (Contains ts t → ⊥) × Differ ts

pub differ_on : (xs ys : List ℕ) → Differ xs → Differ ys → ((t : ℕ) → Contains xs t → Contains ys t → ⊥) → Differ (xs ++ ys)
differ_on [] ys p q apart = q
differ_on (x ∷ xs) ys p q apart = (
  (λ i. elim (Contains-append_cases xs ys x i) [ inl here ↦ p.0 here | inr there ↦ apart x (Contains-head x xs) there ]),
  differ_on xs ys p.1 q (λ t i j. apart t (Contains-tail x xs t i) j),
)

go_less : (plan : Plan) (t : ℕ) (a : Place) (xs : List Action) (b : Place) → LeadsByCode plan t a xs b → a.done ≤ b.done
go_less plan t a [] b same = (let e : b.done ≡ a.done = ap (λ (x : Place). x.done) same in omega arith)
go_less plan t a (x ∷ xs) b steps =
    let l = go_less plan t (next_place a.done a.dropped x) xs b steps.1 in
    elim (step_done a.done a.dropped x) [ inl s ↦ omega arith | inr s ↦ (let e = s.0 in omega arith) ]

fork_step : (k : ℕ) (o : Option ℕ) (plan : Plan) (t c : ℕ) → IsByCode plan t k o (Forks c) → (action_at plan t k ≡ Some (Forks c)) × ((next_place k o (Forks c)).done ≡ suc k)
fork_step k None plan t c is = (is, refl)
fork_step k (Some d) plan t c is = absurd is

wider : (plan : Plan) (t from from' to c : ℕ) → from ≤ from' → IsForkedWithin plan t from' to c → IsForkedWithin plan t from to c
wider plan t from from' to c l s = (s.0, (let m = s.1 in omega arith), s.2, s.3)

next_more : (k : ℕ) (o : Option ℕ) (x : Action) → k ≤ (next_place k o x).done
next_more k o x = elim (step_done k o x) [ inl s ↦ omega arith | inr s ↦ (let e = s.0 in omega arith) ]

pub fork_stands : (plan : Plan) (t : ℕ) (a : Place) (own : List Action) (b : Place) (c : ℕ) → LeadsByCode plan t a own b → Contains (tasks_forked own) c → IsForkedWithin plan t a.done b.done c
fork_stands plan t a [] b c steps i = absurd (nothing_in_nil c i)
fork_stands plan t a (Forks d ∷ own) b c steps i =
    let f = fork_step a.done a.dropped plan t d steps.0 in
    let l = go_less plan t (next_place a.done a.dropped (Forks d)) own b steps.1 in
    elim (Contains-cons_cases d (tasks_forked own) c i) [
      | inl here ↦ (a.done, omega arith, (let e = f.1 in omega arith), f.0 ∙ ap (λ z. Some (Forks z)) here)
      | inr there ↦
          wider plan t a.done (next_place a.done a.dropped (Forks d)).done b.done c (next_more a.done a.dropped (Forks d))
          (fork_stands plan t (next_place a.done a.dropped (Forks d)) own b c steps.1 there)
    ]
fork_stands plan t a (Makes p ∷ own) b c steps i = wider plan t a.done (next_place a.done a.dropped (Makes p)).done b.done c (next_more a.done a.dropped (Makes p)) (fork_stands plan t (next_place a.done a.dropped (Makes p)) own b c steps.1 i)
fork_stands plan t a (Registers d p ∷ own) b c steps i = wider plan t a.done (next_place a.done a.dropped (Registers d p)).done b.done c (next_more a.done a.dropped (Registers d p)) (fork_stands plan t (next_place a.done a.dropped (Registers d p)) own b c steps.1 i)
fork_stands plan t a (Advances p ∷ own) b c steps i = wider plan t a.done (next_place a.done a.dropped (Advances p)).done b.done c (next_more a.done a.dropped (Advances p)) (fork_stands plan t (next_place a.done a.dropped (Advances p)) own b c steps.1 i)
fork_stands plan t a (Drops p ∷ own) b c steps i = wider plan t a.done (next_place a.done a.dropped (Drops p)).done b.done c (next_more a.done a.dropped (Drops p)) (fork_stands plan t (next_place a.done a.dropped (Drops p)) own b c steps.1 i)
fork_stands plan t a (Blocks p ∷ own) b c steps i = wider plan t a.done (next_place a.done a.dropped (Blocks p)).done b.done c (next_more a.done a.dropped (Blocks p)) (fork_stands plan t (next_place a.done a.dropped (Blocks p)) own b c steps.1 i)
fork_stands plan t a (Passes p ∷ own) b c steps i = wider plan t a.done (next_place a.done a.dropped (Passes p)).done b.done c (next_more a.done a.dropped (Passes p)) (fork_stands plan t (next_place a.done a.dropped (Passes p)) own b c steps.1 i)
fork_stands plan t a (Refuses p ∷ own) b c steps i = wider plan t a.done (next_place a.done a.dropped (Refuses p)).done b.done c (next_more a.done a.dropped (Refuses p)) (fork_stands plan t (next_place a.done a.dropped (Refuses p)) own b c steps.1 i)

-- a code forks each task once
pub forks_once : (plan : Plan) → IsCheckedPlan plan → (t i j c : ℕ) → i < j → action_at plan t i ≡ Some (Forks c) → action_at plan t j ≡ Some (Forks c) → ⊥
forks_once plan checked t i j c l first second = (checked.codes.well_formed t j (Forks c) second).1 i l first

-- so what one task forks in a round differs
fork_differ : (plan : Plan) → IsCheckedPlan plan → (t : ℕ) (a : Place) (own : List Action) (b : Place) → LeadsByCode plan t a own b → Differ (tasks_forked own)
fork_differ plan checked t a [] b steps = tt
fork_differ plan checked t a (Forks d ∷ own) b steps =
    let f = fork_step a.done a.dropped plan t d steps.0 in (
      (λ i. let s = fork_stands plan t (next_place a.done a.dropped (Forks d)) own b d steps.1 i in forks_once plan checked t a.done s.0 d (let e = f.1 in let l = s.1 in omega arith) f.0 s.3),
      fork_differ plan checked t (next_place a.done a.dropped (Forks d)) own b steps.1,
    )
fork_differ plan checked t a (Makes p ∷ own) b steps = fork_differ plan checked t (next_place a.done a.dropped (Makes p)) own b steps.1
fork_differ plan checked t a (Registers d p ∷ own) b steps = fork_differ plan checked t (next_place a.done a.dropped (Registers d p)) own b steps.1
fork_differ plan checked t a (Advances p ∷ own) b steps = fork_differ plan checked t (next_place a.done a.dropped (Advances p)) own b steps.1
fork_differ plan checked t a (Drops p ∷ own) b steps = fork_differ plan checked t (next_place a.done a.dropped (Drops p)) own b steps.1
fork_differ plan checked t a (Blocks p ∷ own) b steps = fork_differ plan checked t (next_place a.done a.dropped (Blocks p)) own b steps.1
fork_differ plan checked t a (Passes p ∷ own) b steps = fork_differ plan checked t (next_place a.done a.dropped (Passes p)) own b steps.1
fork_differ plan checked t a (Refuses p ∷ own) b steps = fork_differ plan checked t (next_place a.done a.dropped (Refuses p)) own b steps.1

abbrev pub all_forks : List (List Action) → List ℕ
all_forks [] = []
all_forks (own ∷ owns) = tasks_forked own ++ all_forks owns

same_number : (ws : List Working) (m v : Working) → Differ (map own_number ws) → Contains ws m → Contains ws v → own_number m ≡ own_number v → m ≡ v
same_number [] m v d i j e = absurd (nothing_in_nil m i)
same_number (w ∷ ws) m v d i j e = elim (Contains-cons_cases w ws m i) [
  | inl m_here ↦ elim (Contains-cons_cases w ws v j) [
    | inl v_here ↦ sym m_here ∙ v_here
    | inr v_there ↦ absurd (d.0 (subst (λ t. Contains (map own_number ws) t) (sym e ∙ ap own_number (sym m_here)) (in_map own_number ws v v_there)))
  ]
  | inr m_there ↦ elim (Contains-cons_cases w ws v j) [
    | inl v_here ↦ absurd (d.0 (subst (λ t. Contains (map own_number ws) t) (e ∙ ap own_number (sym v_here)) (in_map own_number ws m m_there)))
    | inr v_there ↦ same_number ws m v d.1 m_there v_there e
  ]
]

module _ (f : Frame) (checked : IsCheckedPlan f.plan) where
  parent_here : (t from to c : ℕ) → IsForkedWithin f.plan t from to c → parent_of f.plan c ≡ t
  parent_here t from to c s = parent_is f.plan t c (checked.codes.well_formed t s.0 (Forks c) s.3).0

  not_root : (t from to c : ℕ) → IsForkedWithin f.plan t from to c → 0 < c
  not_root t from to c s = (let l = child_later f.plan checked.tables t c (checked.codes.well_formed t s.0 (Forks c) s.3).0 in omega arith)

  leads_here : (own : List Action) (w v : Working) → w.seat.view.plan ≡ f.plan → MakesActions f own w v → LeadsByCode f.plan (own_number w) (own_place w.seat.view) own (own_place v.seat.view)
  leads_here own w v plan acts = subst (λ (q : Plan). LeadsByCode q (own_number w) (own_place w.seat.view) own (own_place v.seat.view)) plan acts.goes.place

  forker :
      {owns : List (List Action)} {olds news : List Working} (c : ℕ) → EachActs f owns olds news → ((w : Working) → Contains olds w → w.seat.view.plan ≡ f.plan) → Contains (all_forks owns) c →
      (w : Working) × (v : Working) × Contains olds w × IsForkedWithin f.plan (own_number w) (done_of w) (done_of v) c
  forker c no_task planned i = absurd (nothing_in_nil c i)
  forker c (one_task {own = own} {owns = owns} {before = a} {now = b} {befores = olds} {nows = news} acts p) planned i = elim (Contains-append_cases (tasks_forked own) (all_forks owns) c i) [
    | inl here ↦ (a, b, Contains-head a olds, fork_stands f.plan (own_number a) (own_place a.seat.view) own (own_place b.seat.view) c (leads_here own a b (planned a (Contains-head a olds)) acts) here)
    | inr there ↦ (let r = forker c p (λ w at. planned w (Contains-tail a olds w at)) there in (r.0, r.1, Contains-tail a olds r.0 r.2, r.3))
  ]

  forks_differ :
      {owns : List (List Action)} {olds news : List Working} → EachActs f owns olds news → ((w : Working) → Contains olds w → w.seat.view.plan ≡ f.plan) → Differ (map own_number olds) → Differ (all_forks owns)
  forks_differ no_task planned d = tt
  forks_differ (one_task {own = own} {owns = owns} {before = a} {now = b} {befores = olds} {nows = news} acts p) planned d =
      let leads = leads_here own a b (planned a (Contains-head a olds)) acts in
      differ_on (tasks_forked own) (all_forks owns) (fork_differ f.plan checked (own_number a) (own_place a.seat.view) own (own_place b.seat.view) leads)
      (forks_differ p (λ w at. planned w (Contains-tail a olds w at)) d.1)
      (λ c here there.
      let s = fork_stands f.plan (own_number a) (own_place a.seat.view) own (own_place b.seat.view) c leads here in
      let r = forker c p (λ w at. planned w (Contains-tail a olds w at)) there in
      let same : own_number r.0 ≡ own_number a = sym (parent_here (own_number r.0) (done_of r.0) (done_of r.1) c r.3) ∙ parent_here (own_number a) (done_of a) (done_of b) c s in
      d.0 (subst (λ t. Contains (map own_number olds) t) same (in_map own_number olds r.0 r.2)))

-- no two are one, and each but task 0 was forked by one of them
pub record IsFamily (f : Frame) (tasks : List Working) : Type 0 where
  pub differ : Differ (map own_number tasks)
  pub origin : (w : Working) → Contains tasks w → (own_number w ≡ 0) ⊎ ((m : Working) × Contains tasks m × IsForkedWithin f.plan (own_number m) 0 (done_of m) (own_number w))

module _ (f : Frame) (checked : IsCheckedPlan f.plan) (owns : List (List Action)) (olds news : List Working) (each : EachActs f owns olds news) (planned : (w : Working) → Contains olds w → w.seat.view.plan ≡ f.plan) (family : IsFamily f olds) where
  -- whoever is forked had no seat
  apart : (c : ℕ) → Contains (map own_number olds) c → Contains (all_forks owns) c → ⊥
  apart c old new =
      let w = from_map own_number olds c old in
      let v = forker f checked c each planned new in
      elim (family.origin w.0 w.1) [
        | inl root ↦ (let l = not_root f checked (own_number v.0) (done_of v.0) (done_of v.1) c v.3 in let e = w.2 in absurd (omega arith))
        | inr o ↦
            let s = subst (λ z. IsForkedWithin f.plan (own_number o.0) 0 (done_of o.0) z) w.2 o.2 in
            let same : o.0 ≡ v.0 = same_number olds o.0 v.0 family.differ o.1 v.2
            (sym (parent_here f checked (own_number o.0) 0 (done_of o.0) c s) ∙ parent_here f checked (own_number v.0) (done_of v.0) (done_of v.1) c v.3) in
            let first : s.0 < done_of v.0 = subst (λ (x : Working). s.0 < done_of x) same s.2 in
            forks_once f.plan checked (own_number v.0) s.0 v.3.0 c (let l = v.3.1 in omega arith) (ap (λ (x : Working). action_at f.plan (own_number x) s.0) (sym same) ∙ s.3) v.3.3
      ]

  pub still_differ : Differ (map own_number olds ++ all_forks owns)
  still_differ = differ_on (map own_number olds) (all_forks owns) family.differ (forks_differ f checked each planned family.differ) apart

  -- the numbers after a round
  pub olds_numbers : map own_number (map emptied news) ≡ map own_number olds
  olds_numbers = by_each each
    where
      by_each : {os : List (List Action)} {as' bs : List Working} → EachActs f os as' bs → map own_number (map emptied bs) ≡ map own_number as'
      by_each no_task = refl
      by_each (one_task {before = a} {now = b} {nows = bs} acts p) = ap (λ t. t ∷ map own_number (map emptied bs)) (same_task a.seat b.seat acts.goes.same) ∙ ap (λ ts. own_number a ∷ ts) (by_each p)

child_numbers : {f : Frame} {cs : List ℕ} {ks : List Known} → AreChildSeats f cs ks → map own_number (map fresh ks) ≡ cs
child_numbers no_child = refl
child_numbers (one_child {c = c} {cs = cs} {seat = k} {seats = ks} child p) =
    ap (λ t. t ∷ map own_number (map fresh ks)) (ap (λ o. unwrap_or o 0) child.own) ∙ ap (λ ts. c ∷ ts) (child_numbers p)

map_on : (xs ys : List Working) → map own_number (xs ++ ys) ≡ map own_number xs ++ map own_number ys
map_on [] ys = refl
map_on (x ∷ xs) ys = ap (λ ts. own_number x ∷ ts) (map_on xs ys)

news_numbers :
    {f : Frame} {owns : List (List Action)} {olds news : List Working} → EachActs f owns olds news → ((w : Working) → Contains olds w → w.children ≡ []) →
    map own_number (flat_map fresh_of news) ≡ all_forks owns
news_numbers no_task none = refl
news_numbers {f = f} (one_task {own = own} {owns = owns} {before = a} {now = b} {befores = olds} {nows = news} acts p) none =
    let seats : AreChildSeats f (tasks_forked own) b.children = subst (AreChildSeats f (tasks_forked own)) (sym (acts.children ∙ ap (λ ks. ks ++ acts.new) (none a (Contains-head a olds)))) acts.seats in
    map_on (fresh_of b) (flat_map fresh_of news)
    ∙ ap (λ ts. ts ++ map own_number (flat_map fresh_of news)) (child_numbers seats)
    ∙ ap (λ ts. tasks_forked own ++ ts) (news_numbers p (λ w at. none w (Contains-tail a olds w at)))

module _ (f : Frame) (checked : IsCheckedPlan f.plan) (owns : List (List Action)) (olds news : List Working) (each : EachActs f owns olds news) (planned : (w : Working) → Contains olds w → w.seat.view.plan ≡ f.plan) (none : (w : Working) → Contains olds w → w.children ≡ []) (family : IsFamily f olds) where
  abbrev then_all : List Working
  then_all = map emptied news ++ flat_map fresh_of news

  numbers_after : map own_number then_all ≡ map own_number olds ++ all_forks owns
  numbers_after =
      map_on (map emptied news) (flat_map fresh_of news)
      ∙ ap (λ ts. ts ++ map own_number (flat_map fresh_of news)) (olds_numbers f checked owns olds news each planned family)
      ∙ ap (λ ts. map own_number olds ++ ts) (news_numbers each none)

  -- a task stands no less far after a round
  farther : (own : List Action) (w v : Working) → Contains olds w → MakesActions f own w v → done_of w ≤ done_of v
  farther own w v i acts = go_less f.plan (own_number w) (own_place w.seat.view) own (own_place v.seat.view) (leads_here f checked own w v (planned w i) acts)

  stands_now : (own : List Action) (w v : Working) (from c : ℕ) → Contains olds w → MakesActions f own w v → IsForkedWithin f.plan (own_number w) from (done_of w) c → IsForkedWithin f.plan (own_number v) from (done_of v) c
  stands_now own w v from c i acts s =
      let l = farther own w v i acts in
      (s.0, s.1, (let m = s.2 in omega arith), ap (λ t. action_at f.plan t s.0) (same_task w.seat v.seat acts.goes.same) ∙ s.3)

  origin_after : (x : Working) → Contains then_all x → (own_number x ≡ 0) ⊎ ((m : Working) × Contains then_all m × IsForkedWithin f.plan (own_number m) 0 (done_of m) (own_number x))
  origin_after x i = elim (Contains-append_cases (map emptied news) (flat_map fresh_of news) x i) [
    | inl old ↦
        let v = from_map emptied news x old in
        let r = was v.0 each v.1 in
        let same : own_number x ≡ own_number r.0 = ap own_number (sym v.2) ∙ same_task r.0.seat v.0.seat r.3.goes.same in
        elim (family.origin r.0 r.2) [
          | inl root ↦ inl (same ∙ root)
          | inr o ↦
              let b = became o.0 each o.1 in
              inr (
                emptied b.0,
                Contains-append_left (map emptied news) (flat_map fresh_of news) (emptied b.0) (in_map emptied news b.0 b.2),
                subst (λ z. IsForkedWithin f.plan (own_number b.0) 0 (done_of b.0) z) (sym same) (stands_now b.1 o.0 b.0 0 (own_number r.0) o.1 b.3 o.2),
              )
        ]
    | inr new ↦
        let k = from_fresh news x new in
        let r = was k.0 each k.2 in
        let seats : AreChildSeats f (tasks_forked r.1) k.0.children = subst (AreChildSeats f (tasks_forked r.1)) (sym (r.3.children ∙ ap (λ ks. ks ++ r.3.new) (none r.0 r.2))) r.3.seats in
        let c = child_number k.1 seats k.3 in
        let same : own_number x ≡ c.0 = ap own_number (sym k.4) ∙ c.2 in
        let s = fork_stands f.plan (own_number r.0) (own_place r.0.seat.view) r.1 (own_place k.0.seat.view) c.0 (leads_here f checked r.1 r.0 k.0 (planned r.0 r.2) r.3) c.1 in
        inr (
          emptied k.0,
          Contains-append_left (map emptied news) (flat_map fresh_of news) (emptied k.0) (in_map emptied news k.0 k.2),
          subst (λ z. IsForkedWithin f.plan (own_number k.0) 0 (done_of k.0) z) (sym same)
              (s.0, omega arith, s.2, ap (λ t. action_at f.plan t s.0) (same_task r.0.seat k.0.seat r.3.goes.same) ∙ s.3),
        )
  ]
    where
      child_number : {cs : List ℕ} {ks : List Known} (k : Known) → AreChildSeats f cs ks → Contains ks k → (c : ℕ) × Contains cs c × (task_of k.view ≡ c)
      child_number k no_child i = absurd (nothing_in_nil k i)
      child_number k (one_child {c = d} {cs = cs} {seat = m} {seats = ks} child p) i = elim (Contains-cons_cases m ks k i) [
        | inl here ↦ (d, Contains-head d cs, ap (λ (z : Known). task_of z.view) (sym here) ∙ ap (λ o. unwrap_or o 0) child.own)
        | inr there ↦ (let q = child_number k p there in (q.0, Contains-tail d cs q.0 q.1, q.2))
      ]

  pub family_after : IsFamily f then_all
  family_after = record { differ = subst Differ (sym numbers_after) (still_differ f checked owns olds news each planned family); origin = origin_after }

-- the sum over numbers that differ is at most the sum over all numbers below a bound
abbrev pub sum_over : (ℕ → ℕ) → List ℕ → ℕ
sum_over g [] = 0
sum_over g (t ∷ ts) = g t + sum_over g ts

same_sum : (g h : ℕ → ℕ) (n : ℕ) → ((k : ℕ) → k < n → g k ≡ h k) → sum_below g n ≡ sum_below h n
same_sum g h zero e = refl
same_sum g h (suc n) e = (let r = same_sum g h n (λ k l. e k (omega arith)) in let m = e n (omega arith) in omega arith)

zeroed : (g : ℕ → ℕ) (t n : ℕ) → t < n → sum_below (updated g t 0) n + g t ≡ sum_below g n
zeroed g t zero l = absurd (omega arith)
zeroed g t (suc n) l = elim (cases_eq n t) [
  | inl here ↦
      (let none = updated_same g t n 0 here in
      let rest = same_sum (updated g t 0) g n (λ k m. updated_other g t k 0 (λ e. omega arith)) in
      let is : g t ≡ g n = ap g (sym here) in
      omega arith)
  | inr other ↦
      (let r = zeroed g t n (omega arith) in
      let m = updated_other g t n 0 other in
      omega arith)
]

same_over : (g : ℕ → ℕ) (t : ℕ) (ts : List ℕ) → (Contains ts t → ⊥) → sum_over (updated g t 0) ts ≡ sum_over g ts
same_over g t [] apart = refl
same_over g t (s ∷ ts) apart =
    (let r = same_over g t ts (λ i. apart (Contains-tail s ts t i)) in
    let m = updated_other g t s 0 (λ e. apart (subst (λ z. Contains (s ∷ ts) z) e (Contains-head s ts))) in
    omega arith)

pub differ_sum : (ts : List ℕ) (g : ℕ → ℕ) (n : ℕ) → Differ ts → ((t : ℕ) → Contains ts t → t < n) → sum_over g ts ≤ sum_below g n
differ_sum [] g n d small = omega arith
differ_sum (t ∷ ts) g n d small =
    (let r = differ_sum ts (updated g t 0) n d.1 (λ s i. small s (Contains-tail t ts s i)) in
    let z = zeroed g t n (small t (Contains-head t ts)) in
    let s = same_over g t ts d.0 in
    omega arith)
