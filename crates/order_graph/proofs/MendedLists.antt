-- The tasks of a stretch, those that reach the goal first; and tasks that are put at positions.
use Rattle.std.proofs.Common.{◌≡◌, ℕ, suc, ◌+◌, ◌-◌, ◌<◌, Bool, true, false, Option, None, Some, List, [], ◌∷◌, ◌++◌, length, refl, sym, ap, ◌∙◌, subst, inl, inr, arith, get_or, set, take, not, length-set, length-append, get_or-set_same, get_or-set_other}
use Rattle.std.specs.Prelude.{Contains, All, AllPairs, filter, is_some}
use Rattle.std.proofs.lemmas.Bool.{cases_Bool, cases_eq}
use Rattle.std.proofs.lemmas.List.{get_or_append_left, get_or_at, get_or_default, get_or-take, length-take}
use Rattle.std.proofs.lemmas.List.Elements.{All-contains, Contains-append_cases, Contains-append_left, Contains-append_right, Contains-get_or, Contains-push}
use Rattle.std.proofs.lemmas.List.Filters.{length-filter_both}
use Rattle.std.proofs.lemmas.List.Kept.{AllPairs-filter}
use Rattle.armus_base.specs.declared.ids.TaskId.{TaskId}
use Rattle.armus_base.specs.calls.Relations.{Walk}
use Rattle.dep_state.proofs.DeadSets.{same_task}
use Rattle.order_graph.specs.calls.Orders.{OrderValue, IsEdge, IsOrder, IsTaskOf, position_of}
use Rattle.order_graph.specs.inside.Distances.{IsListedIn, NeverReaches, TellDistances, TellsDistance, distance_in}
use Rattle.order_graph.specs.inside.Mending.{IsBetween, IsMended, IsStretch, MayPrecede}
use Rattle.order_graph.specs.inside.Rows.{AreSettled}
use Rattle.order_graph.proofs.ListPairs.{AllPairs-append, filter_members}
use Rattle.order_graph.proofs.NearestTasks.{tells_each}

-- what a distance that is told says
module _ (o : OrderValue) (goal t : TaskId) where
  told_some : (r : Option ℕ) → TellsDistance o goal t r → is_some r ≡ true → (n : ℕ) × Walk (IsEdge o) n t goal
  told_some None told on = absurd cc
  told_some (Some n) told on = (n, told.walk)

  told_none : (r : Option ℕ) → TellsDistance o goal t r → is_some r ≡ false → NeverReaches o goal t
  told_none None told off = told
  told_none (Some n) told off = absurd cc

module _ (o : OrderValue) (ok : IsOrder o) (goal b : TaskId) (to : IsTaskOf o b) (far : List (Option ℕ)) (tells : TellDistances o goal far) (ts : List TaskId)
    (is : IsStretch o b goal ts) (listed : All (IsListedIn o goal far) ts) where
  reach : TaskId → Bool
  reach t = is_some (distance_in o goal far t)

  stay : TaskId → Bool
  stay t = not (is_some (distance_in o goal far t))

  reaches : (t : TaskId) → Contains ts t → reach t ≡ true → (n : ℕ) × Walk (IsEdge o) n t goal
  unfolding reach
  reaches t m on = told_some o goal t (distance_in o goal far t) (tells_each o ok goal far tells t (All-contains (IsListedIn o goal far) ts t listed m)) on

  never : (t : TaskId) → Contains ts t → reach t ≡ false → NeverReaches o goal t
  unfolding reach
  never t m off = told_none o goal t (distance_in o goal far t) (tells_each o ok goal far tells t (All-contains (IsListedIn o goal far) ts t listed m)) off

  stay_off : (t : TaskId) → stay t ≡ true → reach t ≡ false
  unfolding reach stay
  stay_off t on = elim (cases_Bool (is_some (distance_in o goal far t))) [ inl a ↦ let h : stay t ≡ false = ap not a in absurd cc | inr off ↦ off ]

  off_stay : (t : TaskId) → reach t ≡ false → stay t ≡ true
  unfolding reach stay
  off_stay t off = ap not off

  -- the list has just the tasks between
  inside : (t : TaskId) → Contains ts t → IsBetween o b goal t
  inside t (k, lt, e) =
      let at = is.each k t lt in
      let same = ap (position_of o) e in
      (subst (λ x. IsTaskOf o x) e (is.tasks k t lt), omega arith, omega (arith, is.sized))

  outside : (t : TaskId) → IsBetween o b goal t → Contains ts t
  outside t (task, low, high) =
      let k : ℕ = position_of o t - position_of o b in
      let lt : k < length ts = omega (arith, is.sized) in
      (k, lt, ok.distinct (get_or ts k t) t (is.tasks k t lt) task (omega (arith, is.each k t lt)))

  front : List TaskId
  front = filter reach ts

  back : List TaskId
  back = filter stay ts

  ascending : AllPairs (λ x y. position_of o x < position_of o y) ts
  ascending i j d ij lt = omega (arith, is.each i d (omega arith), is.each j d lt)

  -- of two tasks that keep their order, none comes after the other by an old edge
  in_order : (x y : TaskId) → position_of o x < position_of o y → ((y ≡ goal) × (x ≡ b) → ⊥) → MayPrecede o goal b x y
  in_order x y lt new = record { two = λ e. omega (arith, ap (position_of o) e); no_edge = λ h. omega (arith, ok.forward y x h); not_new = new }

  module _ (none : NeverReaches o goal b) where
    front_precede : AllPairs (MayPrecede o goal b) front
    unfolding front
    front_precede i j d ij lt =
        let x : TaskId = get_or (filter reach ts) i d in
        let m = (filter_members reach ts x).0 (Contains-get_or (filter reach ts) i d (omega arith)) in
        in_order x (get_or (filter reach ts) j d) (AllPairs-filter (λ u v. position_of o u < position_of o v) reach ts ascending i j d ij lt) (λ (e, f).
        let (n, w) = reaches x m.0 m.1 in none n (subst (λ u. Walk (IsEdge o) n u goal) f w))

    goal_reaches : (y : TaskId) → Contains ts y → stay y ≡ true → y ≡ goal → ⊥
    goal_reaches y m on e = never y m (stay_off y on) 0 e

    back_precede : AllPairs (MayPrecede o goal b) back
    unfolding back
    back_precede i j d ij lt =
        let y : TaskId = get_or (filter stay ts) j d in
        let m = (filter_members stay ts y).0 (Contains-get_or (filter stay ts) j d lt) in
        in_order (get_or (filter stay ts) i d) y (AllPairs-filter (λ u v. position_of o u < position_of o v) stay ts ascending i j d ij lt) (λ (e, f). goal_reaches y m.0 m.1 e)

    across : (x y : TaskId) → Contains front x → Contains back y → MayPrecede o goal b x y
    unfolding front back
    across x y m n =
        let (mx, on) = (filter_members reach ts x).0 m in
        let (my, off) = (filter_members stay ts y).0 n in
        let (k, w) = reaches x mx on in
        let miss = never y my (stay_off y off) in
        record {
          two = λ e. miss k (subst (λ u. Walk (IsEdge o) k u goal) e w);
          no_edge = λ h. miss (suc k) (x, h, w);
          not_new = λ (e, f). goal_reaches y my off e;
        }

    pub mended_list : IsMended o goal b (filter (λ t. is_some (distance_in o goal far t)) ts ++ filter (λ t. not (is_some (distance_in o goal far t))) ts)
    unfolding front back reach stay
    mended_list =
        record {
          sized = omega (arith, length-append (filter reach ts) (filter stay ts), length-filter_both reach stay (λ x. refl) ts, is.sized);
          exact = λ t. (
            λ m. elim (Contains-append_cases (filter reach ts) (filter stay ts) t m) [
              | inl l ↦ inside t ((filter_members reach ts t).0 l).0
              | inr r ↦ inside t ((filter_members stay ts t).0 r).0
            ],
            λ h. let m = outside t h in
                elim (cases_Bool (reach t)) [
                  | inl on ↦ Contains-append_left (filter reach ts) (filter stay ts) t ((filter_members reach ts t).1 (m, on))
                  | inr off ↦ Contains-append_right (filter reach ts) (filter stay ts) t ((filter_members stay ts t).1 (m, off_stay t off))
                ],
          );
          precede = AllPairs-append (MayPrecede o goal b) (filter reach ts) (filter stay ts) front_precede back_precede across;
        }

-- a task of which no distance is told does not reach the goal
pub never_told :
    (o : OrderValue) (ok : IsOrder o) (goal : TaskId) (far : List (Option ℕ)) → TellDistances o goal far → (t : TaskId) → IsListedIn o goal far t →
    is_some (distance_in o goal far t) ≡ false → NeverReaches o goal t
never_told o ok goal far tells t listed off = told_none o goal t (distance_in o goal far t) (tells_each o ok goal far tells t listed) off

-- one more task is put at the next position
module _ (low : ℕ) (us : List TaskId) (t : TaskId) (positions now : List ℕ) (at after : List TaskId) (h : AreSettled low us positions now at after) where
  pub settle_more :
      (Contains us t → ⊥) → t.0 < length positions → low + length us < length at →
      AreSettled low (us ++ t ∷ []) positions (set now t.0 (low + length us)) at (set after (low + length us) t)
  settle_more new task room =
      let n = length-append us (t ∷ []) in
      let other : (u : TaskId) → Contains us u → u.0 ≡ t.0 → ⊥ = λ u m e. new (subst (λ x. Contains us x) (same_task u t e) m) in
      record {
        sized = length-set now t.0 (low + length us) ∙ h.sized;
        positions_here = λ k d lt. elim (cases_eq k (length us)) [
          | inl e ↦
              let here = get_or_at us t [] d k (sym e) in
              rw here (get_or-set_same now t.0 (low + length us) 0 (omega (arith, h.sized)) ∙ ap (λ j. low + j) (sym e))
          | inr ne ↦
              let l : k < length us = omega arith in
              let here = get_or_append_left us (t ∷ []) d k l in
              rw here (get_or-set_other now t.0 (get_or us k d).0 (low + length us) 0 (other (get_or us k d) (Contains-get_or us k d l)) ∙ h.positions_here k d l)
        ];
        positions_there = λ u none.
            get_or-set_other now t.0 u.0 (low + length us) 0 (λ e. none (subst (λ x. Contains (us ++ t ∷ []) x) (same_task t u (sym e)) (Contains-push us t))) ∙
            h.positions_there u (λ m. none (Contains-append_left us (t ∷ []) u m));
        at_sized = length-set after (low + length us) t ∙ h.at_sized;
        at_here = λ k d lt. elim (cases_eq k (length us)) [
          | inl e ↦
              let here = get_or_at us t [] d k (sym e) in
              rw (here, e) (get_or-set_same after (low + length us) t d (omega (arith, h.at_sized)))
          | inr ne ↦
              let l : k < length us = omega arith in
              let here = get_or_append_left us (t ∷ []) d k l in
              rw here (get_or-set_other after (low + length us) (low + k) t d (λ e. omega arith) ∙ h.at_here k d l)
        ];
        at_there = λ p d out.
            get_or-set_other after (low + length us) p t d (λ e. elim out [ inl a ↦ omega arith | inr c ↦ omega arith ]) ∙
            h.at_there p d (elim out [ inl a ↦ inl a | inr c ↦ inr (omega arith) ]);
      }

-- of tasks no two of which are the same, none stands among those ahead of it
pub not_ahead : (ts : List TaskId) (k : ℕ) (d : TaskId) → AllPairs (λ t u. t ≡ u → ⊥) ts → k < length ts → Contains (take k ts) (get_or ts k d) → ⊥
not_ahead ts k d two lt (j, l, e) =
    let n = length-take k ts in
    let jk : j < k = omega arith in
    let f = get_or-take k ts j (get_or ts k d) jk in
    two j k d jk lt (get_or_default ts j d (get_or ts k d) (omega arith) ∙ sym f ∙ e)
