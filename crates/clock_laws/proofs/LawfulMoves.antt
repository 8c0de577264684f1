-- The moves of an unfolding are lawful.
use Rattle.std.proofs.Common.{◌≡◌, ◌≢◌, ℕ, zero, suc, ◌+◌, ◌-◌, ◌<◌, ◌≤◌, Bool, true, false, Option, Some, None, Ok, List, [], ◌∷◌, ◌++◌, length, arith, sym, ◌∙◌, ap, subst, refl, ◌⊎◌, inl, inr}
use Rattle.std.specs.List.{list_any}
use Rattle.std.specs.Str.{bytes_eq}
use Rattle.std.specs.Prelude.{◌==◌, ◌||◌, if◌then◌else◌, is_some, map, option_to_list, slice_get, slice_index_or, unwrap_or}
use Rattle.std.proofs.lemmas.Bool.{cases_eq, cases_lt, eq-eqb}
use Rattle.std.proofs.lemmas.List.{append_assoc, append-nil, get_or-set_other, get_or-set_same, length-append, length-map}
use Rattle.std.proofs.lemmas.Option.{get_or_from_slice_get, slice_get_past, slice_get_within, unwrap_or-slice_get}
use Rattle.armus_base.specs.declared.ids.TaskId.{TaskId}
use Rattle.armus_base.specs.Limits.{max_tasks}
use Rattle.armus_base.specs.Pieces.{times}
use Rattle.armus_base.specs.Numbers.{task}
use Rattle.armus_base.specs.Plans.{action_at, actions, maker_of, parent_of}
use Rattle.armus_base.specs.CheckedPlans.{HasFork, IsCheckedPlan}
use Rattle.armus_base.proofs.Codes.{maker_is}
use Rattle.armus_base.proofs.Lists.{slice_get-append}
use Rattle.pl_plan.specs.Unfolding.{◌>>=◌}
use Rattle.pl_plan.proofs.Places.{at_more}
use Rattle.pl_plan.proofs.Tables.{slice_get-last}
use Rattle.pl_plan.proofs.VisitsLeave.{bind_ok, ok_is}
use Rattle.clock_syntax.specs.Trees.{ClockTree, async, clock_count, done, finish, loop, plain}
use Rattle.clock_semantics.specs.Moves.{Move, ActivityStanding, after_move, code_from, code_of_moves, no_standing, ops_of, opens, starts, advances, resumes, drops, begins, ends, stops}
use Rattle.clock_semantics.specs.Unfolding.{ClockComing, ClockPart, ClockStart, ClockUnfolding, Current, a_close, a_finish, a_loop, a_plain, a_turn, an_async, clock_act, clock_opening, clock_plan_of, clock_unfolded, come, come_all, coming, comings_of, counted_coming, governed_by, innermost, naming, nothing_known, numbers_of, plan_of_moves, standing_on, start_at, stop, unfold_activities, unfold_started, with_activity, with_clock_made, with_known, with_move}
use Rattle.clock_semantics.specs.calls.Making.{AreClocksOf, MayMake}
use Rattle.clock_semantics.proofs.ClockPlanIsChecked.{IsBetween, activity_keeps, begins_known, clock_plan_is_checked, move_keeps, opening_between, unfolded_between, visits_keep}
use Rattle.clock_semantics.proofs.Making.{IsMoveOf, MayRest, Stops, act_keeps, coming_counts, stopped, with_visits}
use Rattle.clock_semantics.proofs.MoveCodes.{SamePending, moves_at, same_after, same_ops, stood, stood-append}
use Rattle.clock_semantics.proofs.Unfolded.{IsUnfolding, as_forked}
use Rattle.clock_laws.proofs.Entries.{some_is}
use Rattle.clock_laws.proofs.Simulating.{IsPlanOfMoves, any_of}
use Rattle.clock_laws.proofs.Lawful.{AreIdleClocks, AreLawfulMoves, ClockKinds, IsFinishIfAny, IsLastIfEnd, IsLawfulMove}

-- ---- what is known of the clocks and finishes so far: each is one or the other

-- these are clocks, and none is pending
abbrev pub AreIdleIn : List Bool → (ℕ → Bool) → List ℕ → Type 0
AreIdleIn kinds pending [] = Unit {0}
AreIdleIn kinds pending (p ∷ ps) = (slice_get kinds p ≡ Some true × pending p ≡ false) × AreIdleIn kinds pending ps

-- these are finishes
abbrev pub AreFinishes : List Bool → List ℕ → Type 0
AreFinishes kinds [] = Unit {0}
AreFinishes kinds (f ∷ fs) = (slice_get kinds f ≡ Some false) × AreFinishes kinds fs

-- how an activity is started
abbrev pub StartsOn : List ClockStart → ℕ → ActivityStanding → Type 0
StartsOn beginnings c standing = (start : ClockStart) × (slice_get beginnings c ≡ Some start) × start.known.standing ≡ standing

-- activity t, which stands so, can make this move, which is not its end
abbrev pub IsMoveIn : List Bool → List TaskId → List ClockStart → ℕ → ActivityStanding → Move → Type 0
IsMoveIn kinds makers beginnings t s (opens p) = slice_get kinds p ≡ Some true
IsMoveIn kinds makers beginnings t s (starts c ps f) =
    AreIdleIn kinds s.pending ps × AreFinishes kinds (option_to_list f) × StartsOn beginnings c (standing_on ps f)
IsMoveIn kinds makers beginnings t s (advances p) = slice_get kinds p ≡ Some true
IsMoveIn kinds makers beginnings t s (resumes p) = slice_get kinds p ≡ Some true × s.pending p ≡ false
IsMoveIn kinds makers beginnings t s (drops p) = slice_get kinds p ≡ Some true
IsMoveIn kinds makers beginnings t s (begins f) = slice_get kinds f ≡ Some false
IsMoveIn kinds makers beginnings t s (ends f) = slice_get kinds f ≡ Some false × slice_get makers f ≡ Some (task t)
IsMoveIn kinds makers beginnings t s (stops ps) = ⊥

abbrev pub AreMovesIn : List Bool → List TaskId → List ClockStart → ℕ → ActivityStanding → List Move → Type 0
AreMovesIn kinds makers beginnings t s [] = Unit {0}
AreMovesIn kinds makers beginnings t s (m ∷ ms) = IsMoveIn kinds makers beginnings t s m × AreMovesIn kinds makers beginnings t (after_move m s) ms

-- what was there stays
abbrev pub Stays : {A : Type 0} → List A → List A → Type 0
Stays xs ys = (k : ℕ) (x : _) → slice_get xs k ≡ Some x → slice_get ys k ≡ Some x

stays_itself : {A : Type 0} (xs : List A) → Stays xs xs
stays_itself xs k x e = e

stays_more : {A : Type 0} (xs : List A) (y : A) → Stays xs (xs ++ y ∷ [])
stays_more xs y k x e = slice_get-append xs (y ∷ []) k (slice_get_within xs k x e) ∙ e

module _ (kinds kinds' : List Bool) (more : Stays kinds kinds') where
  idle_grow : (pending : ℕ → Bool) (ps : List ℕ) → AreIdleIn kinds pending ps → AreIdleIn kinds' pending ps
  idle_grow pending [] h = tt
  idle_grow pending (p ∷ ps) h = ((more p true h.0.0, h.0.1), idle_grow pending ps h.1)

  finishes_grow : (fs : List ℕ) → AreFinishes kinds fs → AreFinishes kinds' fs
  finishes_grow [] h = tt
  finishes_grow (f ∷ fs) h = (more f false h.0, finishes_grow fs h.1)

  module _ (makers makers' : List TaskId) (made : Stays makers makers') (beginnings beginnings' : List ClockStart) (begun : Stays beginnings beginnings') (t : ℕ) where
    move_grow : (s : ActivityStanding) (m : Move) → IsMoveIn kinds makers beginnings t s m → IsMoveIn kinds' makers' beginnings' t s m
    move_grow s (opens p) h = more p true h
    move_grow s (starts c ps f) h =
        (idle_grow s.pending ps h.0, finishes_grow (option_to_list f) h.1, (h.2.0, begun c h.2.0 h.2.1, h.2.2))
    move_grow s (advances p) h = more p true h
    move_grow s (resumes p) h = (more p true h.0, h.1)
    move_grow s (drops p) h = more p true h
    move_grow s (begins f) h = more f false h
    move_grow s (ends f) h = (more f false h.0, made f (task t) h.1)
    move_grow s (stops ps) h = h

    moves_grow : (s : ActivityStanding) (ms : List Move) → AreMovesIn kinds makers beginnings t s ms → AreMovesIn kinds' makers' beginnings' t s ms
    moves_grow s [] h = tt
    moves_grow s (m ∷ ms) h = (move_grow s m h.0, moves_grow (after_move m s) ms h.1)

moves_snoc :
    (kinds : List Bool) (makers : List TaskId) (beginnings : List ClockStart) (t : ℕ) (s : ActivityStanding) (ms : List Move) (m : Move) →
    AreMovesIn kinds makers beginnings t s ms → IsMoveIn kinds makers beginnings t (stood s ms) m → AreMovesIn kinds makers beginnings t s (ms ++ m ∷ [])
moves_snoc kinds makers beginnings t s [] m h now = (now, tt)
moves_snoc kinds makers beginnings t s (n ∷ ms) m h now = (h.0, moves_snoc kinds makers beginnings t (after_move n s) ms m h.1 now)

-- the finishes that govern, of which the first k are the activity's own
abbrev pub AreGoverning : List Bool → List TaskId → ℕ → ℕ → List ℕ → Type 0
AreGoverning kinds makers t zero fs = AreFinishes kinds fs
AreGoverning kinds makers t (suc k) [] = ⊥
AreGoverning kinds makers t (suc k) (f ∷ fs) = ((slice_get kinds f ≡ Some false) × (slice_get makers f ≡ Some (task t))) × AreGoverning kinds makers t k fs

governing_grow :
    (kinds kinds' : List Bool) (makers makers' : List TaskId) → Stays kinds kinds' → Stays makers makers' → (t k : ℕ) (fs : List ℕ) →
    AreGoverning kinds makers t k fs → AreGoverning kinds' makers' t k fs
governing_grow kinds kinds' makers makers' more made t zero fs h = finishes_grow kinds kinds' more fs h
governing_grow kinds kinds' makers makers' more made t (suc k) [] h = h
governing_grow kinds kinds' makers makers' more made t (suc k) (f ∷ fs) h =
    ((more f false h.0.0, made f (task t) h.0.1), governing_grow kinds kinds' makers makers' more made t k fs h.1)

innermost_finish :
    (kinds : List Bool) (makers : List TaskId) (t k : ℕ) (fs : List ℕ) → AreGoverning kinds makers t k fs → AreFinishes kinds (option_to_list (innermost fs))
innermost_finish kinds makers t zero [] h = tt
innermost_finish kinds makers t zero (f ∷ fs) h = (h.0, tt)
innermost_finish kinds makers t (suc k) [] h = absurd h
innermost_finish kinds makers t (suc k) (f ∷ fs) h = (h.0.0, tt)

-- ---- what holds of the unfolding while activity t is unfolded

-- the moves of an activity that has ended
pub record IsWholeIn (kinds : List Bool) (makers : List TaskId) (beginnings : List ClockStart) (a : ℕ) (xs : List Move) : Type 0 where
  pub start : ClockStart
  pub begun : slice_get beginnings a ≡ Some start
  pub before : List Move
  pub last : List ℕ
  pub rests : (q : ℕ) → start.known.standing.pending q ≡ false
  pub is : xs ≡ before ++ stops last ∷ []
  pub lawful : AreMovesIn kinds makers beginnings a start.known.standing before
  pub covers : (q : ℕ) → (stood start.known.standing before).members q ≡ true → list_any (λ p. p == q) last ≡ true

-- what is known of an activity that has not begun
pub record IsReadyIn (kinds : List Bool) (start : ClockStart) : Type 0 where
  pub names : (x : List ℕ) (p : ℕ) → start.known.names x ≡ Some p → slice_get kinds p ≡ Some true
  pub governs : AreFinishes kinds start.known.governing

-- activity t, which has k finishes of its own open, makes its moves
pub record IsLawfully (t k : ℕ) (u : ClockUnfolding) : Type 0 where
  pub kinds : List Bool
  pub sized : length kinds ≡ length u.makers
  pub root : StartsOn u.starts 0 no_standing
  pub own : ClockStart
  pub begun : slice_get u.starts t ≡ Some own
  pub rests : (q : ℕ) → own.known.standing.pending q ≡ false
  pub stands : u.now.standing ≡ stood own.known.standing (moves_at u t)
  pub now : AreMovesIn kinds u.makers u.starts t own.known.standing (moves_at u t)
  pub past : (a : ℕ) → a < t → IsWholeIn kinds u.makers u.starts a (moves_at u a)
  pub names : (x : List ℕ) (p : ℕ) → u.now.names x ≡ Some p → slice_get kinds p ≡ Some true
  pub governs : AreGoverning kinds u.makers t k u.now.governing
  pub ready : (a : ℕ) (start : ClockStart) → t < a → slice_get u.starts a ≡ Some start → IsReadyIn kinds start

whole_grows :
    (kinds kinds' : List Bool) (makers makers' : List TaskId) (beginnings beginnings' : List ClockStart) (a : ℕ) (xs xs' : List Move) → Stays kinds kinds' →
    Stays makers makers' → Stays beginnings beginnings' → xs' ≡ xs → IsWholeIn kinds makers beginnings a xs → IsWholeIn kinds' makers' beginnings' a xs'
whole_grows kinds kinds' makers makers' beginnings beginnings' a xs xs' more made begun e h =
    record {
      start = h.start;
      begun = begun a h.start h.begun;
      before = h.before;
      last = h.last;
      rests = h.rests;
      is = e ∙ h.is;
      lawful = moves_grow kinds kinds' more makers makers' made beginnings beginnings' begun a h.start.known.standing h.before h.lawful;
      covers = h.covers;
    }

ready_grows : (kinds kinds' : List Bool) (start : ClockStart) → Stays kinds kinds' → IsReadyIn kinds start → IsReadyIn kinds' start
ready_grows kinds kinds' start more h =
    record { names = λ x p e. more p true (h.names x p e); governs = finishes_grow kinds kinds' more start.known.governing h.governs }

-- one move more
module _ (t k k' : ℕ) (u v : ClockUnfolding) (m : Move) (h : IsLawfully t k u) (kinds' : List Bool) (more : Stays h.kinds kinds') (made : Stays u.makers v.makers)
    (begun : Stays u.starts v.starts) (sized' : length kinds' ≡ length v.makers) (here : t < length v.moves) (same : (a : ℕ) → moves_at v a ≡ moves_at u a)
    (st : v.now.standing ≡ u.now.standing) where
  own_moves : moves_at (with_move t m v) t ≡ moves_at u t ++ m ∷ []
  own_moves = get_or-set_same v.moves t (moves_at v t ++ m ∷ []) [] here ∙ ap (λ ms. ms ++ m ∷ []) (same t)

  other_moves : (a : ℕ) → a ≢ t → moves_at (with_move t m v) a ≡ moves_at u a
  other_moves a n = get_or-set_other v.moves t a (moves_at v t ++ m ∷ []) [] n ∙ same a

  moves_more :
      IsMoveIn kinds' v.makers v.starts t u.now.standing m → ((x : List ℕ) (p : ℕ) → v.now.names x ≡ Some p → slice_get kinds' p ≡ Some true) →
      AreGoverning kinds' v.makers t k' v.now.governing →
      ((a : ℕ) (start : ClockStart) → t < a → slice_get v.starts a ≡ Some start → IsReadyIn kinds' start) → IsLawfully t k' (with_move t m v)
  moves_more lawful names governs ready =
      record {
        kinds = kinds';
        sized = sized';
        root = (h.root.0, begun 0 h.root.0 h.root.1, h.root.2);
        own = h.own;
        begun = begun t h.own h.begun;
        rests = h.rests;
        stands =
            ap (after_move m) (st ∙ h.stands) ∙ sym (stood-append h.own.known.standing (moves_at u t) (m ∷ [])) ∙ ap (stood h.own.known.standing) (sym own_moves);
        now =
            subst (AreMovesIn kinds' v.makers v.starts t h.own.known.standing) (sym own_moves)
            (moves_snoc kinds' v.makers v.starts t h.own.known.standing (moves_at u t) m
            (moves_grow h.kinds kinds' more u.makers v.makers made u.starts v.starts begun t h.own.known.standing (moves_at u t) h.now)
            (subst (λ s. IsMoveIn kinds' v.makers v.starts t s m) h.stands lawful));
        past = λ a l.
            whole_grows h.kinds kinds' u.makers v.makers u.starts v.starts a (moves_at u a) (moves_at (with_move t m v) a) more made begun
            (other_moves a (λ e. absurd (omega arith))) (h.past a l);
        names = names;
        governs = governs;
        ready = ready;
      }

-- ---- each kind of move

-- names of an async
module _ (kinds : List Bool) (now : Current) (names : (x : List ℕ) (p : ℕ) → now.names x ≡ Some p → slice_get kinds p ≡ Some true) where
  idle_clocks : (earlier xs : List (List ℕ)) (ps : List ℕ) → AreClocksOf now earlier xs ps → AreIdleIn kinds now.standing.pending ps
  idle_clocks earlier [] [] h = tt
  idle_clocks earlier [] (p ∷ ps) h = absurd h
  idle_clocks earlier (x ∷ xs) [] h = absurd h
  idle_clocks earlier (x ∷ xs) (p ∷ ps) h = ((names x p h.0.named, h.2), idle_clocks (x ∷ earlier) xs ps h.3)

-- an element behind the last
last_or_before : {A : Type 0} (xs : List A) (y : A) (k : ℕ) (x : A) → slice_get (xs ++ y ∷ []) k ≡ Some x → (slice_get xs k ≡ Some x) ⊎ (k ≡ length xs × y ≡ x)
last_or_before xs y k x e =
    elim (cases_lt k (length xs)) [
      | inl l ↦ inl (sym (slice_get-append xs (y ∷ []) k l) ∙ e)
      | inr l ↦ elim (cases_eq k (length xs)) [
        | inl same ↦
            inr (same, some_is (sym (slice_get-last xs y) ∙ ap (slice_get (xs ++ y ∷ [])) (sym same) ∙ e))
        | inr other ↦
            absurd (let within = slice_get_within (xs ++ y ∷ []) k x e in let n = length-append xs (y ∷ []) in omega arith)
      ]
    ]

module _ (t k : ℕ) (u : ClockUnfolding) (h : IsLawfully t k u) (sound : IsUnfolding t u) where
  here_now : t < length u.moves
  here_now = sound.counts.here

  -- a move on clocks and finishes that are there
  stays_with :
      (m : Move) → IsMoveIn h.kinds u.makers u.starts t u.now.standing m → IsLawfully t k (with_move t m u)
  stays_with m lawful =
      moves_more t k k u u m h h.kinds (stays_itself h.kinds) (stays_itself u.makers) (stays_itself u.starts) h.sized here_now (λ a. refl) refl lawful h.names h.governs h.ready

  ready_more :
      (b : Bool) (a : ℕ) (start : ClockStart) → t < a → slice_get u.starts a ≡ Some start → IsReadyIn (h.kinds ++ b ∷ []) start
  ready_more b a start l e = ready_grows h.kinds (h.kinds ++ b ∷ []) start (stays_more h.kinds b) (h.ready a start l e)

  sized_more : (b : Bool) → length (h.kinds ++ b ∷ []) ≡ length (u.makers ++ task t ∷ [])
  sized_more b = length-append h.kinds (b ∷ []) ∙ ap (λ n. n + 1) h.sized ∙ sym (length-append u.makers (task t ∷ []))

  newest : (b : Bool) → slice_get (h.kinds ++ b ∷ []) (length u.makers) ≡ Some b
  newest b = ap (slice_get (h.kinds ++ b ∷ [])) (sym h.sized) ∙ slice_get-last h.kinds b

  opens_lawfully : (x : List ℕ) → IsLawfully t k (with_move t (opens (length u.makers)) (naming x (length u.makers) (with_clock_made t u)))
  opens_lawfully x =
      moves_more t k k u (naming x (length u.makers) (with_clock_made t u)) (opens (length u.makers)) h (h.kinds ++ true ∷ []) (stays_more h.kinds true)
      (stays_more u.makers (task t)) (stays_itself u.starts) (sized_more true) here_now (λ a. refl) refl (newest true)
      (λ y p e. by y p (bytes_eq x y) e)
      (governing_grow h.kinds (h.kinds ++ true ∷ []) u.makers (u.makers ++ task t ∷ []) (stays_more h.kinds true) (stays_more u.makers (task t)) t k u.now.governing h.governs)
      (ready_more true)
    where
      by :
          (y : List ℕ) (p : ℕ) (b : Bool) → (if b then Some (length u.makers) else u.now.names y) ≡ Some p → slice_get (h.kinds ++ true ∷ []) p ≡ Some true
      by y p true e = ap (slice_get (h.kinds ++ true ∷ [])) (sym (some_is e)) ∙ newest true
      by y p false e = stays_more h.kinds true p true (h.names y p e)

  begins_lawfully : IsLawfully t (suc k) (with_move t (begins (length u.makers)) (governed_by (length u.makers ∷ u.now.governing) (with_clock_made t u)))
  begins_lawfully =
      moves_more t k (suc k) u (governed_by (length u.makers ∷ u.now.governing) (with_clock_made t u)) (begins (length u.makers)) h (h.kinds ++ false ∷ [])
      (stays_more h.kinds false) (stays_more u.makers (task t)) (stays_itself u.starts) (sized_more false) here_now (λ a. refl) refl (newest false)
      (λ y p e. stays_more h.kinds false p true (h.names y p e)) (
        (newest false, slice_get-last u.makers (task t)),
        governing_grow h.kinds (h.kinds ++ false ∷ []) u.makers (u.makers ++ task t ∷ []) (stays_more h.kinds false) (stays_more u.makers (task t)) t k u.now.governing h.governs,
      )
      (ready_more false)

  starts_lawfully :
      (n : ℕ) (body : ClockTree) (xs : List (List ℕ)) (ps : List ℕ) → AreClocksOf u.now [] xs ps →
      IsLawfully t k (with_move t (starts (length u.parents) ps (innermost u.now.governing)) (with_activity t (start_at n body ps u.now) u))
  starts_lawfully n body xs ps clocks =
      let start : ClockStart = start_at n body ps u.now in
      let many : length u.starts ≡ length u.parents = sym (length-map u.starts as_forked) ∙ sound.acts.sound.starts in
      moves_more t k k u (with_activity t start u) (starts (length u.parents) ps (innermost u.now.governing)) h h.kinds (stays_itself h.kinds) (stays_itself u.makers)
      (stays_more u.starts start) h.sized (omega (arith, here_now, length-append u.moves ([] ∷ []))) (λ a. at_more u.moves [] a) refl (
        idle_clocks h.kinds u.now h.names [] xs ps clocks,
        innermost_finish h.kinds u.makers t k u.now.governing h.governs,
        (start, ap (slice_get (u.starts ++ start ∷ [])) (sym many) ∙ slice_get-last u.starts start, refl),
      )
      h.names h.governs
      (λ a s l e. elim (last_or_before u.starts start a s e) [
        | inl old ↦ h.ready a s l old
        | inr new ↦
            subst (IsReadyIn h.kinds) new.1
            (record { names = h.names; governs = innermost_finish h.kinds u.makers t k u.now.governing h.governs })
      ])

  ends_lawfully : (j f : ℕ) (fs : List ℕ) → k ≡ suc j → u.now.governing ≡ f ∷ fs → IsLawfully t j (with_move t (ends f) (governed_by fs u))
  ends_lawfully j f fs is governing =
      let all : AreGoverning h.kinds u.makers t (suc j) (f ∷ fs) = subst (λ i. AreGoverning h.kinds u.makers t i (f ∷ fs)) is (subst
      (AreGoverning h.kinds u.makers t k) governing h.governs) in
      moves_more t k j u (governed_by fs u) (ends f) h h.kinds (stays_itself h.kinds) (stays_itself u.makers) (stays_itself u.starts) h.sized here_now (λ a. refl) refl
      all.0 h.names all.1 h.ready

-- ---- comings, of which those of the ends of finishes are no more than those of their beginnings

-- how many finishes of its own are open after this part
abbrev pub open_after : ℕ → ClockPart → Option ℕ
open_after k a_finish = Some (suc k)
open_after zero a_close = None
open_after (suc k) a_close = Some k
open_after k part = Some k

abbrev OfSome : Option ℕ → (ℕ → Type 0) → Type 0
OfSome None P = ⊥
OfSome (Some k) P = P k

abbrev pub IsBalanced : List ClockComing → ℕ → Type 0
IsBalanced [] k = Unit {0}
IsBalanced (m ∷ ms) k = OfSome (open_after k m.part) (IsBalanced ms)

balanced_turns :
    (turn rest : List ClockComing) → ((rest : List ClockComing) (k : ℕ) → IsBalanced rest k → IsBalanced (turn ++ rest) k) → (n k : ℕ) → IsBalanced rest k →
    IsBalanced (times n turn ++ rest) k
balanced_turns turn rest once zero k h = h
balanced_turns turn rest once (suc n) k h =
    subst (λ ms. IsBalanced ms k) (sym (append_assoc turn (times n turn) rest)) (once (times n turn ++ rest) k (balanced_turns turn rest once n k h))

balanced : (n : ℕ) (p : ClockTree) (rest : List ClockComing) (k : ℕ) → IsBalanced rest k → IsBalanced (comings_of n p ++ rest) k
balanced n done rest k h = h
balanced n (plain s more) rest k h = balanced (n + 1) more rest k h
balanced n (async xs body more) rest k h = balanced (n + 1 + clock_count body) more rest k h
balanced n (finish body more) rest k h =
    subst (λ ms. IsBalanced ms (suc k)) (sym (append_assoc (comings_of (n + 1) body) (coming n a_close ∷ comings_of (n + 1 + clock_count body) more) rest))
    (balanced (n + 1) body (coming n a_close ∷ (comings_of (n + 1 + clock_count body) more ++ rest)) (suc k) (balanced (n + 1 + clock_count body) more rest k h))
balanced n (loop i body more) rest k h =
    subst (λ ms. IsBalanced ms k)
    (sym (append_assoc (times i (coming n a_turn ∷ comings_of (n + 1) body)) (comings_of (n + 1 + clock_count body) more) rest))
    (balanced_turns (coming n a_turn ∷ comings_of (n + 1) body) (comings_of (n + 1 + clock_count body) more ++ rest) (λ r j g. balanced (n + 1) body r j g) i k
    (balanced (n + 1 + clock_count body) more rest k h))

-- what holds of the unfolding while activity t makes its moves
abbrev IsMaking : ℕ → ℕ → ClockUnfolding → Type 0
IsMaking t k u = IsUnfolding t u × IsLawfully t k u

module _ (t : ℕ) where
  visits_lawfully : (k n : ℕ) (u : ClockUnfolding) → IsMaking t k u → IsMaking t k (with_visits n u)
  visits_lawfully k n u h = (
    visits_keep t u h.0 n,
    record {
      kinds = h.1.kinds;
      sized = h.1.sized;
      root = h.1.root;
      own = h.1.own;
      begun = h.1.begun;
      rests = h.1.rests;
      stands = h.1.stands;
      now = h.1.now;
      past = h.1.past;
      names = h.1.names;
      governs = h.1.governs;
      ready = h.1.ready;
    },
  )

  made_lawfully :
      (k j : ℕ) (u v : ClockUnfolding) (part : ClockPart) (m : Move) → IsMaking t k u → MayMake t u m v → IsMoveOf part m → open_after k part ≡ Some j →
      IsLawfully t j (with_move t m v)
  made_lawfully k j u v (a_plain x) (opens p) h may kind e =
      subst (λ i. IsLawfully t i (with_move t (opens p) v)) (some_is e)
      (subst (λ z. IsLawfully t k (with_move t (opens p) z)) (sym may.3)
      (subst (λ z. IsLawfully t k (with_move t (opens z) (naming may.2 z (with_clock_made t u)))) (sym may.1) (opens_lawfully t k u h.1 h.0 may.2)))
  made_lawfully k j u v (a_plain x) (advances p) h may kind e =
      subst (λ i. IsLawfully t i (with_move t (advances p) v)) (some_is e)
      (subst (λ z. IsLawfully t k (with_move t (advances p) z)) (sym may.2) (stays_with t k u h.1 h.0 (advances p) (h.1.names may.0 p may.1.named)))
  made_lawfully k j u v (a_plain x) (resumes p) h may kind e =
      subst (λ i. IsLawfully t i (with_move t (resumes p) v)) (some_is e)
      (subst (λ z. IsLawfully t k (with_move t (resumes p) z)) (sym may.3) (stays_with t k u h.1 h.0 (resumes p) (h.1.names may.0 p may.1.named, may.2)))
  made_lawfully k j u v (a_plain x) (drops p) h may kind e =
      subst (λ i. IsLawfully t i (with_move t (drops p) v)) (some_is e)
      (subst (λ z. IsLawfully t k (with_move t (drops p) z)) (sym may.2) (stays_with t k u h.1 h.0 (drops p) (h.1.names may.0 p may.1.named)))
  made_lawfully k j u v (an_async xs body) (starts c ps f) h may kind e =
      subst (λ i. IsLawfully t i (with_move t (starts c ps f) v)) (some_is e)
      (subst (λ z. IsLawfully t k (with_move t (starts c ps f) z)) (sym may.7)
      (subst (λ z. IsLawfully t k (with_move t (starts c ps z) (with_activity t (start_at may.5 may.6 ps u.now) u))) (sym may.2)
      (subst (λ z. IsLawfully t k (with_move t (starts z ps (innermost u.now.governing)) (with_activity t (start_at may.5 may.6 ps u.now) u))) (sym may.1)
      (starts_lawfully t k u h.1 h.0 may.5 may.6 may.3 ps may.4))))
  made_lawfully k j u v a_finish (begins f) h may kind e =
      subst (λ i. IsLawfully t i (with_move t (begins f) v)) (some_is e)
      (subst (λ z. IsLawfully t (suc k) (with_move t (begins f) z)) (sym may.2)
      (subst (λ z. IsLawfully t (suc k) (with_move t (begins z) (governed_by (z ∷ u.now.governing) (with_clock_made t u)))) (sym may.1) (begins_lawfully t k u h.1 h.0)))
  made_lawfully zero j u v a_close (ends f) h may kind e = absurd (cc)
  made_lawfully (suc k) j u v a_close (ends f) h may kind e =
      subst (λ i. IsLawfully t i (with_move t (ends f) v)) (some_is e)
      (subst (λ z. IsLawfully t k (with_move t (ends f) z)) (sym may.2) (ends_lawfully t (suc k) u h.1 h.0 k f may.0 refl may.1))
  made_lawfully k j u v part m h may kind e = absurd kind

  -- a part at which nothing comes to pass
  rests_lawfully :
      (P : ClockUnfolding → Type 0) (n k j : ℕ) (u : ClockUnfolding) (part : ClockPart) → open_after k part ≡ Some j → IsMaking t k u → MayRest P t n u part → IsMaking t j u
  rests_lawfully P n k j u (a_plain x) e h r = subst (λ i. IsMaking t i u) (some_is e) h
  rests_lawfully P n k j u (an_async xs body) e h r = absurd r
  rests_lawfully P n k j u a_finish e h r = absurd r
  rests_lawfully P n zero j u a_close e h r = absurd (cc)
  rests_lawfully P n (suc k) j u a_close e h r = absurd (subst (AreGoverning h.1.kinds u.makers t (suc k)) r h.1.governs)
  rests_lawfully P n k j u a_loop e h r = subst (λ i. IsMaking t i u) (some_is e) h
  rests_lawfully P n k j u a_turn e h r = subst (λ i. IsMaking t i u) (some_is e) h

  come_lawfully : (m : ClockComing) (k j : ℕ) (u w : ClockUnfolding) → IsMaking t k u → open_after k m.part ≡ Some j → come t m u ≡ Ok w → IsMaking t j w
  come_lawfully m k j u w h after e =
      let a = bind_ok (counted_coming m.statement m.part u) (clock_act t m.statement m.part) w e in
      let now = coming_counts (IsMaking t k) m.statement m.part u a.0 h (visits_lawfully k (u.visits + 1) u h) a.1 in
      act_keeps (IsMaking t j) t m.statement a.0 m.part (rests_lawfully (IsMaking t j) m.statement k j a.0 m.part after now)
      (λ z makes kind.
      (move_keeps t a.0 now.0 z makes, subst (IsLawfully t j) (sym makes.becomes) (made_lawfully k j a.0 makes.base m.part makes.move now makes.may kind after)))
      w a.2

  comings_lawfully : (ms : List ClockComing) (k : ℕ) (u w : ClockUnfolding) → IsBalanced ms k → IsMaking t k u → come_all t ms u ≡ Ok w → (j : ℕ) × IsMaking t j w
  unfolding come_all
  comings_lawfully [] k u w balance h e = (k, subst (IsMaking t k) (ok_is _ _ e) h)
  comings_lawfully (m ∷ ms) k u w balance h e =
      let a = bind_ok (come t m u) (come_all t ms) w e in
      by_part (open_after k m.part) refl balance (λ j is rest. comings_lawfully ms j a.0 w rest (come_lawfully m k j u a.0 h is a.1) a.2)
    where
      by_part :
          (o : Option ℕ) → open_after k m.part ≡ o → OfSome o (IsBalanced ms) →
          ((j : ℕ) → open_after k m.part ≡ Some j → IsBalanced ms j → (i : ℕ) × IsMaking t i w) → (i : ℕ) × IsMaking t i w
      by_part None is rest go = absurd rest
      by_part (Some j) is rest go = go j is rest

-- ---- between two activities

pub record IsLawfulBetween (t : ℕ) (u : ClockUnfolding) : Type 0 where
  pub kinds : List Bool
  pub sized : length kinds ≡ length u.makers
  pub root : StartsOn u.starts 0 no_standing
  pub past : (a : ℕ) → a < t → a < length u.starts → IsWholeIn kinds u.makers u.starts a (moves_at u a)
  pub ready : (a : ℕ) (start : ClockStart) → t ≤ a → slice_get u.starts a ≡ Some start → IsReadyIn kinds start

begins_lawful :
    (t : ℕ) (u : ClockUnfolding) (start : ClockStart) → IsBetween t u → IsLawfulBetween t u → slice_get u.starts t ≡ Some start → IsMaking t 0 (with_known start.known u)
begins_lawful t u start b h e =
    let ready = h.ready t start (omega arith) e in
    let none = b.idle t (omega arith) in (
      begins_known t u start b e,
      record {
        kinds = h.kinds;
        sized = h.sized;
        root = h.root;
        own = start;
        begun = e;
        rests = (b.ready t start (omega arith) e).rests;
        stands = ap (stood start.known.standing) (sym none);
        now = subst (AreMovesIn h.kinds u.makers u.starts t start.known.standing) (sym none) tt;
        past = λ a l. h.past a l (let within = slice_get_within u.starts t start e in omega arith);
        names = ready.names;
        governs = ready.governs;
        ready = λ a s l f. h.ready a s (omega arith) f;
      },
    )

-- each member with a number below n is among the members below n
any_numbers : (members : ℕ → Bool) (q : ℕ) → members q ≡ true → (n : ℕ) → q < n → list_any (λ p. p == q) (numbers_of members n) ≡ true
any_numbers members q is zero l = absurd (omega arith)
any_numbers members q is (suc n) l =
    any_of (λ p. p == q) (numbers_of members n) (option_to_list (if members n then Some n else None))
    ∙ elim (cases_eq q n) [
      | inl same ↦
          ap (λ b. b || (list_any (λ p. p == q) (numbers_of members n) || false))
          (ap (λ b. list_any (λ p. p == q) (option_to_list (if b then Some n else None))) (ap members (sym same) ∙ is)
          ∙ ap (λ b. b || false) (eq-eqb n q (sym same)))
      | inr other ↦ or_right_held (list_any (λ p. p == q) (option_to_list (if members n then Some n else None))) (list_any (λ p. p == q) (numbers_of members n))
          (any_numbers members q is n (omega arith))
    ]
  where
    or_right_held : (a b : Bool) → b ≡ true → (a || (b || false)) ≡ true
    or_right_held true b e = refl
    or_right_held false true e = refl
    or_right_held false false e = e

stops_lawful : (t k : ℕ) (u w : ClockUnfolding) → IsMaking t k u → Stops t u w → IsLawfulBetween (t + 1) w
stops_lawful t k u w h s =
    let ps = numbers_of u.now.standing.members (length u.makers) in
    let here = h.0.counts.here in
    subst (IsLawfulBetween (t + 1)) (sym s.becomes)
    (record {
      kinds = h.1.kinds;
      sized = h.1.sized;
      root = h.1.root;
      past = λ a l within. elim (cases_eq a t) [
        | inl same ↦
            subst (λ v. IsWholeIn h.1.kinds u.makers u.starts v (moves_at (with_move t (stops ps) u) v)) (sym same)
            (record {
              start = h.1.own;
              begun = h.1.begun;
              rests = h.1.rests;
              before = moves_at u t;
              last = ps;
              is = get_or-set_same u.moves t (moves_at u t ++ stops ps ∷ []) [] here;
              lawful = h.1.now;
              covers = λ q e.
                  (let member : u.now.standing.members q ≡ true = ap (λ (z : ActivityStanding). z.members q) h.1.stands ∙ e in
                  any_numbers u.now.standing.members q member (length u.makers) (h.0.knows.below q member));
            })
        | inr other ↦
            whole_grows h.1.kinds h.1.kinds u.makers u.makers u.starts u.starts a (moves_at u a) (moves_at (with_move t (stops ps) u) a) (stays_itself h.1.kinds)
            (stays_itself u.makers) (stays_itself u.starts) (get_or-set_other u.moves t a (moves_at u t ++ stops ps ∷ []) [] other) (h.1.past a (omega arith))
      ];
      ready = λ a start l e. h.1.ready a start (omega arith) e;
    })

none_past : {A : Type 0} (xs : List A) (k : ℕ) → slice_get xs k ≡ None → length xs ≤ k
none_past [] k e = omega arith
none_past (x ∷ xs) zero e = absurd (cc)
none_past (x ∷ xs) (suc k) e = (let l = none_past xs k e in omega arith)

activity_lawful :
    (t : ℕ) (u w : ClockUnfolding) (o : Option ClockStart) → IsBetween t u → IsLawfulBetween t u → slice_get u.starts t ≡ o → unfold_started t o u ≡ Ok w →
    IsLawfulBetween (t + 1) w
activity_lawful t u w None b h is e =
    subst (IsLawfulBetween (t + 1)) (ok_is _ _ e)
    (record {
      kinds = h.kinds;
      sized = h.sized;
      root = h.root;
      past = λ a l within. h.past a (let n = none_past u.starts t is in omega arith) within;
      ready = λ a start l f. h.ready a start (omega arith) f;
    })
activity_lawful t u w (Some start) b h is e =
    let a = bind_ok (come_all t (comings_of start.first start.body) (with_known start.known u)) (stop t (start.first - 1)) w e in
    let all = subst (λ ms. IsBalanced ms 0) (append-nil (comings_of start.first start.body)) (balanced start.first start.body [] 0 tt) in
    let made = comings_lawfully t (comings_of start.first start.body) 0 (with_known start.known u) a.0 all (begins_lawful t u start b h is) a.1 in
    stops_lawful t made.0 a.0 w made.1 (stopped t (start.first - 1) a.0 w a.2)

activities_lawful : (n t : ℕ) (u w : ClockUnfolding) → IsBetween t u → IsLawfulBetween t u → unfold_activities n t u ≡ Ok w → IsLawfulBetween (t + n) w
unfolding unfold_activities
activities_lawful zero t u w b h e = subst (IsLawfulBetween (t + 0)) (ok_is _ _ e) (subst (λ k. IsLawfulBetween k u) (omega arith) h)
activities_lawful (suc n) t u w b h e =
    let a = bind_ok (unfold_started t (slice_get u.starts t) u) (unfold_activities n (t + 1)) w e in
    subst (λ k. IsLawfulBetween k w) (omega arith)
    (activities_lawful n (t + 1) a.0 w (activity_keeps t u a.0 (slice_get u.starts t) b refl a.1) (activity_lawful t u a.0 (slice_get u.starts t) b h refl a.1) a.2)

opening_lawful : (p : ClockTree) → IsLawfulBetween 0 (clock_opening p)
opening_lawful p =
    record {
      kinds = [];
      sized = refl;
      root = (whole, refl, refl);
      past = λ a l within. absurd (omega arith);
      ready = first;
    }
  where
    whole : ClockStart
    whole = record { body = p; first = 1; known = nothing_known }

    first : (a : ℕ) (start : ClockStart) → 0 ≤ a → slice_get (clock_opening p).starts a ≡ Some start → IsReadyIn [] start
    first zero start l e = subst (IsReadyIn []) (some_is e) (record { names = λ x q f. absurd (cc); governs = tt })
    first (suc a) start l e = absurd (let q = slice_get_past (clock_opening p).starts (suc a) (omega arith) in cc)

pub unfolded_lawful : (p : ClockTree) (u : ClockUnfolding) → clock_unfolded p ≡ Ok u → IsLawfulBetween max_tasks u
unfolding clock_unfolded
unfolded_lawful p u e = activities_lawful max_tasks 0 (clock_opening p) u (opening_between p) (opening_lawful p) e

-- ---- so the plan is one of these moves

pub first_standing : Option ClockStart → ActivityStanding
first_standing None = no_standing
first_standing (Some start) = start.known.standing

-- the kinds of an unfolding
abbrev pub kinds_of : List Bool → List ClockStart → ClockKinds
kinds_of kinds beginnings = record { is = λ p. unwrap_or (slice_get kinds p) false; first = λ t. first_standing (slice_get beginnings t) }

module _ (kinds : List Bool) (makers : List TaskId) (beginnings : List ClockStart) (maker : ℕ → ℕ) (makes : (f t : ℕ) → slice_get makers f ≡ Some (task t) → maker f ≡ t) where
  abbrev all_kinds : ClockKinds
  all_kinds = kinds_of kinds beginnings

  idle_of : (pending : ℕ → Bool) (ps : List ℕ) → AreIdleIn kinds pending ps → AreIdleClocks all_kinds.is pending ps
  idle_of pending [] h = tt
  idle_of pending (p ∷ ps) h = ((ap (λ o. unwrap_or o false) h.0.0, h.0.1), idle_of pending ps h.1)

  finish_of : (f : Option ℕ) → AreFinishes kinds (option_to_list f) → IsFinishIfAny all_kinds.is f
  finish_of None h = tt
  finish_of (Some f) h = ap (λ o. unwrap_or o false) h.0

  lawful_move : (t : ℕ) (s : ActivityStanding) (m : Move) (ms : List Move) → IsMoveIn kinds makers beginnings t s m → IsLawfulMove all_kinds maker t s m × IsLastIfEnd m ms
  unfolding first_standing
  lawful_move t s (opens p) ms h = (ap (λ o. unwrap_or o false) h, tt)
  lawful_move t s (starts c ps f) ms h =
      ((idle_of s.pending ps h.0, finish_of f h.1, λ q. ap (λ (z : ActivityStanding). z.members q) (ap first_standing h.2.1 ∙ h.2.2)), tt)
  lawful_move t s (advances p) ms h = (ap (λ o. unwrap_or o false) h, tt)
  lawful_move t s (resumes p) ms h = ((ap (λ o. unwrap_or o false) h.0, h.1), tt)
  lawful_move t s (drops p) ms h = (ap (λ o. unwrap_or o false) h, tt)
  lawful_move t s (begins f) ms h = (ap (λ o. unwrap_or o false) h, tt)
  lawful_move t s (ends f) ms h = ((ap (λ o. unwrap_or o false) h.0, makes f t h.1), tt)
  lawful_move t s (stops ps) ms h = absurd h

  lawful_whole :
      (t : ℕ) (s : ActivityStanding) (before : List Move) (last : List ℕ) → AreMovesIn kinds makers beginnings t s before →
      ((q : ℕ) → (stood s before).members q ≡ true → list_any (λ p. p == q) last ≡ true) → AreLawfulMoves all_kinds maker t s (before ++ stops last ∷ [])
  lawful_whole t s [] last h covers = (covers, refl, λ q. refl)
  lawful_whole t s (m ∷ ms) last h covers =
      let now = lawful_move t s m (ms ++ stops last ∷ []) h.0 in
      (now.0, now.1, lawful_whole t (after_move m s) ms last h.1 covers)

-- the ops of moves go by the pending clocks alone
same_code : (s s' : ActivityStanding) (ms : List Move) → SamePending s s' → code_from s ms ≡ code_from s' ms
same_code s s' [] same = refl
same_code s s' (m ∷ ms) same =
    ap (λ os. os ++ code_from (after_move m s) ms) (same_ops s s' m same)
    ∙ ap (λ os. ops_of s' m ++ os) (same_code (after_move m s) (after_move m s') ms (same_after s s' m same))

moves_same : (xss : List (List Move)) (t : ℕ) → slice_index_or xss t [] ≡ unwrap_or (slice_get xss t) []
moves_same xss t = sym (unwrap_or-slice_get xss t [])

code_at : (xss : List (List Move)) (t : ℕ) → unwrap_or (slice_get (map code_of_moves xss) t) [] ≡ code_of_moves (unwrap_or (slice_get xss t) [])
code_at [] t = refl
code_at (xs ∷ xss) zero = refl
code_at (xs ∷ xss) (suc t) = code_at xss t

module _ (p : ClockTree) (u : ClockUnfolding) (e : clock_unfolded p ≡ Ok u) where
  between : IsBetween max_tasks u
  between = unfolded_between p u e

  pub lawful : IsLawfulBetween max_tasks u
  lawful = unfolded_lawful p u e

  plan_checked : IsCheckedPlan (plan_of_moves u)
  unfolding clock_plan_of
  plan_checked = clock_plan_is_checked p (plan_of_moves u) (ap (λ o. o >>= λ s. Ok (plan_of_moves s)) e)

  many_starts : length u.starts ≡ length u.parents
  many_starts = sym (length-map u.starts as_forked) ∙ between.sound.starts

  pub many_moves : length u.moves ≡ length u.parents
  many_moves = sym (length-map u.moves code_of_moves) ∙ between.sound.checked.tables.one_code_each

  abbrev pub kinds_now : ClockKinds
  kinds_now = kinds_of lawful.kinds u.starts

  makes_by : (f t : ℕ) → slice_get u.makers f ≡ Some (task t) → maker_of (plan_of_moves u) f ≡ t
  makes_by f t is = maker_is (plan_of_moves u) t f (task t, is, refl)

  -- an activity of the unfolding, or none
  is_whole : (t : ℕ) → t < length u.starts → IsWholeIn lawful.kinds u.makers u.starts t (moves_at u t)
  is_whole t l = lawful.past t (let few = between.sound.checked.limits.few_tasks in let many = many_starts in omega arith) l

  starts_idle : (t q : ℕ) → (kinds_now.first t).pending q ≡ false
  unfolding first_standing
  starts_idle t q =
      elim (cases_lt t (length u.starts)) [
        | inl l ↦ (let w = is_whole t l in ap (λ o. (first_standing o).pending q) w.begun ∙ w.rests q)
        | inr l ↦ ap (λ o. (first_standing o).pending q) (slice_get_past u.starts t l)
      ]

  are_lawful : (t : ℕ) → AreLawfulMoves kinds_now (maker_of (plan_of_moves u)) t (kinds_now.first t) (unwrap_or (slice_get u.moves t) [])
  unfolding first_standing
  are_lawful t =
      elim (cases_lt t (length u.starts)) [
        | inl l ↦
            (let w = is_whole t l in
            subst (AreLawfulMoves kinds_now (maker_of (plan_of_moves u)) t (kinds_now.first t)) (sym w.is ∙ moves_same u.moves t)
            (subst (λ s. AreLawfulMoves kinds_now (maker_of (plan_of_moves u)) t s (w.before ++ stops w.last ∷ [])) (ap first_standing (sym w.begun))
            (lawful_whole lawful.kinds u.makers u.starts (maker_of (plan_of_moves u)) makes_by t w.start.known.standing w.before w.last w.lawful w.covers)))
        | inr l ↦
            subst (AreLawfulMoves kinds_now (maker_of (plan_of_moves u)) t (kinds_now.first t)) (ap (λ o. unwrap_or o []) (sym (slice_get_past u.moves t
            (let n = many_starts in let m = many_moves in omega arith))))
            (λ q. ap (λ o. (first_standing o).members q) (slice_get_past u.starts t l))
      ]

  has_fork : (c : ℕ) → 0 < c → c < length u.parents → HasFork (plan_of_moves u) c
  unfolding action_at actions parent_of
  has_fork c some l =
      (let w = is_whole c (let n = many_starts in omega arith) in
      between.sound.forked c some
      (ap is_some (get_or_from_slice_get (map as_forked u.starts) c (as_forked w.start) None (mapped u.starts c w.start w.begun))))
    where
      mapped : (xs : List ClockStart) (k : ℕ) (x : ClockStart) → slice_get xs k ≡ Some x → slice_get (map as_forked xs) k ≡ Some (as_forked x)
      mapped [] k x e = absurd (cc)
      mapped (y ∷ ys) zero x e = ap (λ z. Some (as_forked z)) (some_is e)
      mapped (y ∷ ys) (suc k) x e = mapped ys k x e

  pub plan_is_of_moves : IsPlanOfMoves (plan_of_moves u) kinds_now (λ t. unwrap_or (slice_get u.moves t) [])
  unfolding first_standing
  plan_is_of_moves =
      record {
        checked = plan_checked;
        root = λ q. ap (λ (z : ActivityStanding). z.members q) (ap first_standing lawful.root.1 ∙ lawful.root.2);
        idle = starts_idle;
        codes = λ t. code_at u.moves t ∙ same_code no_standing (kinds_now.first t) (unwrap_or (slice_get u.moves t) []) (λ q. sym (starts_idle t q));
        lawful = are_lawful;
        forked = has_fork;
      }
