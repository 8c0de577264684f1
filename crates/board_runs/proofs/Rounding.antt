-- Turns one after the other, and side by side.
use Rattle.std.proofs.Common.{◌≡◌, ℕ, zero, suc, ◌+◌, ◌<◌, ◌≤◌, List, [], ◌∷◌, ◌++◌, Result, Ok, Err, IfOk, All, length, map, set, get_or, refl, ap, sym, subst, arith, false, inl, inr, ◌∙◌, sum_by}
use Rattle.std.proofs.lemmas.List.{map-append, map-id}
use Rattle.std.proofs.lemmas.List.Sums.{sum_by-append, sum_by-cons}
use Rattle.armus_base.specs.Plans.{Action}
use Rattle.board.specs.calls.Seats.{Frame, Known}
use Rattle.board_runs.specs.calls.Turns.{MakesActions, EachActs, EachEndsTurn, EndsTurnWithin, MayTakeTurn, TakesInOrder, TakesTurns, Working, by_one_worker, by_several, in_32_bits, in_64_bits, loads_between, loads_made_by, no_task, no_turn, one_task, one_turn}
use Rattle.board_runs.proofs.Goings.{acts_itself}

-- what is read and written in a list, through a function
pub map_get : {A B : Type 0} (f : A → B) (xs : List A) (n : ℕ) (d : A) → get_or (map f xs) n (f d) ≡ f (get_or xs n d)
map_get f [] n d = refl
map_get f (x ∷ xs) zero d = refl
map_get f (x ∷ xs) (suc n) d = map_get f xs n d

pub map_set : {A B : Type 0} (f : A → B) (xs : List A) (n : ℕ) (v : A) → map f (set xs n v) ≡ set (map f xs) n (f v)
map_set f [] n v = refl
map_set f (x ∷ xs) zero v = refl
map_set f (x ∷ xs) (suc n) v = ap (λ ys. f x ∷ ys) (map_set f xs n v)

-- the first n tasks have made their own steps and ended their turns, where so many loads were made before them and so many are made now, and the others have
-- made none
pub data IsSoFar (bound : ℕ) (f : Frame) : ℕ → ℕ → ℕ → List (List Action) → List Working → List Working → Type 0 where
  at_rest : {loads : ℕ} {rest : List Working} → IsSoFar bound f 0 loads loads [] rest rest
  one_done :
      {n loads total : ℕ} {own : List Action} {owns : List (List Action)} {a b : Working} {olds news : List Working} (made : ℕ) → MakesActions f own a b →
      b.seat.view.loads ≡ a.seat.view.loads + made → EndsTurnWithin bound (loads + made) a.seat b.seat → IsSoFar bound f n (loads + made) total owns olds news →
      IsSoFar bound f (suc n) loads total (own ∷ owns) (a ∷ olds) (b ∷ news)

-- what is true of each of a list is true of the first, and of each of the others
all_first : (P : Working → Type 0) (w : Working) (rest : List Working) → All P (w ∷ rest) → P w
all_first P w rest all = all 0 w (omega arith)

all_rest : (P : Working → Type 0) (w : Working) (rest : List Working) → All P (w ∷ rest) → All P rest
all_rest P w rest all = λ k d l. all (suc k) d (omega arith)

pub all_none : (P : Working → Type 0) → All P []
all_none P = λ k d l. absurd (omega arith)

pub all_more : (P : Working → Type 0) (w : Working) (rest : List Working) → P w → All P rest → All P (w ∷ rest)
all_more P w rest p all zero d l = p
all_more P w rest p all (suc k) d l = all k d (omega arith)

first_is : (P : Working → Type 0) (d : Working) (rest : List Working) → All P rest → 0 < length rest → P (get_or rest 0 d)
first_is P d [] all l = absurd (omega arith)
first_is P d (w ∷ rest) all l = all_first P w rest all

-- what was true of all is true of the next
pub next_is :
    {bound : ℕ} {f : Frame} {n loads total : ℕ} {owns : List (List Action)} {olds news : List Working} (P : Working → Type 0) (d : Working) →
    IsSoFar bound f n loads total owns olds news → All P olds → n < length news → P (get_or news n d)
next_is P d at_rest all l = first_is P d _ all l
next_is P d (one_done made acts more ends p) all l = next_is P d p (all_rest P _ _ all) (omega arith)

first_done :
    (bound loads made : ℕ) (f : Frame) (own : List Action) (d w : Working) (rest : List Working) → 0 < length rest → MakesActions f own (get_or rest 0 d) w →
    w.seat.view.loads ≡ (get_or rest 0 d).seat.view.loads + made → EndsTurnWithin bound (loads + made) (get_or rest 0 d).seat w.seat →
    IsSoFar bound f 1 loads (loads + made) (own ∷ []) rest (set rest 0 w)
first_done bound loads made f own d w [] l acts more ends = absurd (omega arith)
first_done bound loads made f own d w (b ∷ rest) l acts more ends = one_done made acts more ends at_rest

-- the next has had its turn
pub next_done :
    {bound : ℕ} {f : Frame} {n loads total : ℕ} {owns : List (List Action)} {olds news : List Working} (made : ℕ) (own : List Action) (d w : Working) →
    IsSoFar bound f n loads total owns olds news → n < length news → MakesActions f own (get_or news n d) w →
    w.seat.view.loads ≡ (get_or news n d).seat.view.loads + made → EndsTurnWithin bound (total + made) (get_or news n d).seat w.seat →
    IsSoFar bound f (suc n) loads (total + made) (owns ++ own ∷ []) olds (set news n w)
next_done {bound = bound} {loads = loads} made own d w at_rest l acts more ends = first_done bound loads made _ own d w _ l acts more ends
next_done made own d w (one_done made' acts' more' ends' p) l acts more ends =
    one_done made' acts' more' ends' (next_done made own d w p (omega arith) acts more ends)

pub rest_each : (f : Frame) (rest : List Working) → All (MayTakeTurn f) rest → EachActs f (map (λ w. []) rest) rest rest
rest_each f [] all = no_task
rest_each f (w ∷ rest) all = one_task (acts_itself f w (all_first (MayTakeTurn f) w rest all).kept) (rest_each f rest (all_rest (MayTakeTurn f) w rest all))

first_stops :
    (f : Frame) (own : List Action) (d w : Working) (rest : List Working) → All (MayTakeTurn f) rest → 0 < length rest → MakesActions f own (get_or rest 0 d) w →
    (owns : List (List Action)) × EachActs f owns rest (set rest 0 w)
first_stops f own d w [] all l acts = absurd (omega arith)
first_stops f own d w (b ∷ rest) all l acts = (own ∷ map (λ w. []) rest, one_task acts (rest_each f rest (all_rest (MayTakeTurn f) b rest all)))

-- the next has made some steps, and no other acts then
pub next_stops :
    {bound : ℕ} {f : Frame} {n loads total : ℕ} {owns : List (List Action)} {olds news : List Working} (own : List Action) (d w : Working) →
    IsSoFar bound f n loads total owns olds news → All (MayTakeTurn f) olds → n < length news → MakesActions f own (get_or news n d) w → (owns' : List (List Action)) × EachActs f owns' olds (set news n w)
next_stops own d w at_rest all l acts = first_stops _ own d w _ all l acts
next_stops own d w (one_done {own = own'} made' acts' more' ends' p) all l acts =
    let r = next_stops own d w p (all_rest (MayTakeTurn _) _ _ all) (omega arith) acts in
    (own' ∷ r.0, one_task acts' r.1)

none_each : (f : Frame) (rest : List Working) → 0 ≡ length rest → EachActs f [] rest rest
none_each f [] e = no_task
none_each f (w ∷ rest) e = absurd (omega arith)

none_end : (bound loads : ℕ) (rest : List Working) → 0 ≡ length rest → TakesInOrder bound loads rest rest
none_end bound loads [] e = no_turn
none_end bound loads (w ∷ rest) e = absurd (omega arith)

-- all have had their turns
pub all_each :
    {bound : ℕ} {f : Frame} {n loads total : ℕ} {owns : List (List Action)} {olds news : List Working} → IsSoFar bound f n loads total owns olds news →
    n ≡ length news → EachActs f owns olds news
all_each at_rest e = none_each _ _ e
all_each (one_done made acts more ends p) e = one_task acts (all_each p (omega arith))

pub all_end :
    {bound : ℕ} {f : Frame} {n loads total : ℕ} {owns : List (List Action)} {olds news : List Working} → IsSoFar bound f n loads total owns olds news →
    n ≡ length news → TakesInOrder bound loads olds news
all_end {bound = bound} {loads = loads} at_rest e = none_end bound loads _ e
all_end (one_done made acts more ends p) e = one_turn made more ends (all_end p (omega arith))

-- a bound on what the worker has counted, beginning with what it had counted before, is one on the loads that were made since
pub ends_by_made :
    (bound most start total made was counted : ℕ) (before now : Known) → most ≡ in_64_bits (start + bound) → was ≤ start + total →
    before.view.loads + counted ≤ now.view.loads + was → now.view.loads ≡ before.view.loads + made → EndsTurnWithin most counted before now →
    EndsTurnWithin bound (total + made) before now
ends_by_made bound most start total made was counted before now is had counts more (inl ends) = inl ends
ends_by_made bound most start total made was counted before now is had counts more (inr cut) = inr ((let many = cut.0 in omega arith), cut.1)

-- memory ran out
pub stopped :
    {E : Type 0} (bound : ℕ) (f : Frame) (olds news : List Working) (r : Result ℕ E) → IfOk r (λ n. ⊥) → (owns : List (List Action)) × EachActs f owns olds news →
    TakesTurns bound f olds news r
stopped bound f olds news (Ok n) bad p = absurd bad
stopped bound f olds news (Err e) bad p = record { owns = p.0; each = p.1; actions = tt; ends = tt }

-- no task has the lock then
pub each_free : {f : Frame} {owns : List (List Action)} {olds news : List Working} → EachActs f owns olds news → All (MayTakeTurn f) olds → All (λ (w : Working). w.seat.view.holds ≡ false) news
each_free no_task all = all_none (λ (w : Working). w.seat.view.holds ≡ false)
each_free (one_task acts p) all =
    all_more (λ (w : Working). w.seat.view.holds ≡ false) _ _ (acts.goes.same.holds ∙ (all_first (MayTakeTurn _) _ _ all).free) (each_free p (all_rest (MayTakeTurn _) _ _ all))

-- side by side
pub each_on :
    {f : Frame} {owns : List (List Action)} {olds news : List Working} (owns' : List (List Action)) (olds' news' : List Working) → EachActs f owns olds news → EachActs f owns' olds' news' →
    EachActs f (owns ++ owns') (olds ++ olds') (news ++ news')
each_on owns' olds' news' no_task q = q
each_on owns' olds' news' (one_task acts p) q = one_task acts (each_on owns' olds' news' p q)

-- a turn that has ended has ended so where more loads were made
ends_more : (bound less more : ℕ) (before now : Known) → less ≤ more → EndsTurnWithin bound less before now → EndsTurnWithin bound more before now
ends_more bound less more before now l (inl ends) = inl ends
ends_more bound less more before now l (inr cut) = inr ((let many = cut.0 in omega arith), cut.1)

abbrev pub loads_in : Working → ℕ
loads_in w = w.seat.view.loads

-- no load is lost
order_grows : {bound loads : ℕ} {olds news : List Working} → TakesInOrder bound loads olds news → loads_made_by olds ≤ loads_made_by news
order_grows no_turn = omega arith
order_grows (one_turn {before = before} {now = now} {befores = befores} {nows = nows} made more ends p) =
    let x = sum_by-cons loads_in before befores in
    let y = sum_by-cons loads_in now nows in
    let r = order_grows p in
    omega arith

turns_grow : {bound : ℕ} {olds news : List Working} → EachEndsTurn bound olds news → loads_made_by olds ≤ loads_made_by news
turns_grow (by_one_worker p) = order_grows p
turns_grow (by_several {front = a} {behind = b} {front_now = x} {behind_now = y} p q) =
    let s = sum_by-append loads_in a b in
    let t = sum_by-append loads_in x y in
    let l = turns_grow p in
    let r = turns_grow q in
    omega arith

-- each task has ended a turn, with this bound on so many loads of all
pub data AreTurned (bound total : ℕ) : List Working → List Working → Type 0 where
  no_turned : AreTurned bound total [] []
  one_turned :
      {before now : Working} {befores nows : List Working} → EndsTurnWithin bound total before.seat now.seat → AreTurned bound total befores nows →
      AreTurned bound total (before ∷ befores) (now ∷ nows)

turned_on :
    {bound total : ℕ} {olds news : List Working} (olds' news' : List Working) → AreTurned bound total olds news → AreTurned bound total olds' news' →
    AreTurned bound total (olds ++ olds') (news ++ news')
turned_on olds' news' no_turned q = q
turned_on olds' news' (one_turned ends p) q = one_turned ends (turned_on olds' news' p q)

order_turned :
    {bound loads : ℕ} {olds news : List Working} (total : ℕ) → loads + loads_between olds news ≤ total → TakesInOrder bound loads olds news →
    AreTurned bound total olds news
order_turned total l no_turn = no_turned
order_turned {bound = bound} {loads = loads} total l (one_turn {before = before} {now = now} {befores = befores} {nows = nows} made more ends p) =
    let x = sum_by-cons loads_in before befores in
    let y = sum_by-cons loads_in now nows in
    let r = order_grows p in
    one_turned (ends_more bound (loads + made) total before.seat now.seat (omega arith) ends) (order_turned total (omega arith) p)

pub each_turned :
    {bound : ℕ} {olds news : List Working} (total : ℕ) → loads_between olds news ≤ total → EachEndsTurn bound olds news → AreTurned bound total olds news
each_turned total l (by_one_worker p) = order_turned total (omega arith) p
each_turned {bound = bound} total l (by_several {front = a} {behind = b} {front_now = x} {behind_now = y} p q) =
    let s = sum_by-append loads_in a b in
    let t = sum_by-append loads_in x y in
    let g = turns_grow p in
    let h = turns_grow q in
    turned_on b y (each_turned total (omega arith) p) (each_turned total (omega arith) q)

-- two counts that stand still at their end add up to one that does
pub counts_add : (a b : ℕ) → in_32_bits (in_32_bits a + in_32_bits b) ≡ in_32_bits (a + b)
counts_add a b = omega arith

pub count_more : (a k : ℕ) → in_32_bits (in_32_bits a + k) ≡ in_32_bits (a + k)
count_more a k = omega arith

pub turns_on :
    {E : Type 0} (bound : ℕ) (f : Frame) (olds news olds' news' : List Working) (x y : Result ℕ E) (m n k : ℕ) → x ≡ Ok m → y ≡ Ok n → k ≡ in_32_bits (m + n) →
    TakesTurns bound f olds news x → TakesTurns bound f olds' news' y → TakesTurns {E = E} bound f (olds ++ olds') (news ++ news') (Ok k)
turns_on bound f olds news olds' news' x y m n k xs ys ks p' q' =
    let p = subst (TakesTurns bound f olds news) xs p' in
    let q = subst (TakesTurns bound f olds' news') ys q' in
    record {
      owns = p.owns ++ q.owns;
      each = each_on q.owns olds' news' p.each q.each;
      actions =
          ks ∙ ap (λ a. in_32_bits (a + n)) p.actions ∙ ap (λ b. in_32_bits (in_32_bits (sum_by length p.owns) + b)) q.actions
          ∙ counts_add (sum_by length p.owns) (sum_by length q.owns) ∙ ap in_32_bits (sym (sum_by-append length p.owns q.owns));
      ends = by_several p.ends q.ends;
    }

pub both_each :
    {E : Type 0} (bound : ℕ) (f : Frame) (olds news olds' news' : List Working) (x y : Result ℕ E) → TakesTurns bound f olds news x → TakesTurns bound f olds' news' y →
    (owns : List (List Action)) × EachActs f owns (olds ++ olds') (news ++ news')
both_each bound f olds news olds' news' x y p q = (p.owns ++ q.owns, each_on q.owns olds' news' p.each q.each)

-- the same through a function
pub over_both :
    {T E : Type 0} (bound : ℕ) (f : Frame) (w : T → Working) (ts a b x y : List T) (r : Result ℕ E) → ts ≡ a ++ b → TakesTurns bound f (map w a ++ map w b) (map w x ++ map w y) r →
    TakesTurns bound f (map w ts) (map w (x ++ y)) r
over_both bound f w ts a b x y r whole turns =
    subst (λ (ws : List Working). TakesTurns bound f ws (map w (x ++ y)) r) (sym (ap (map w) whole ∙ map-append w a b))
    (subst (λ (ws : List Working). TakesTurns bound f (map w a ++ map w b) ws r) (sym (map-append w x y)) turns)

-- two halves of a list took their turns, of which each answered this
module _ {T E : Type 0} {bound : ℕ} {f : Frame} {ts : List T} {first second : Result ℕ E} (w : T → Working) (a b x y : List T) (whole : ts ≡ a ++ b)
    (front : TakesTurns bound f (map w a) (map w x) first) (back : TakesTurns bound f (map w b) (map w y) second) where
  pub halves_stopped : (r : Result ℕ E) → IfOk r (λ n. ⊥) → TakesTurns bound f (map w ts) (map w (x ++ y)) r
  halves_stopped r bad =
      over_both bound f w ts a b x y r whole (stopped bound f (map w a ++ map w b) (map w x ++ map w y) r bad
      (both_each bound f (map w a) (map w x) (map w b) (map w y) first second front back))

  pub halves_on : {m n : ℕ} (k : ℕ) → first ≡ Ok m → second ≡ Ok n → k ≡ in_32_bits (m + n) → TakesTurns {E = E} bound f (map w ts) (map w (x ++ y)) (Ok k)
  halves_on {m = m} {n = n} k one two counted =
      over_both bound f w ts a b x y (Ok k) whole (turns_on bound f (map w a) (map w x) (map w b) (map w y) first second m n k one two counted front back)

-- and where the function changes nothing
pub of_itself : {E : Type 0} (bound : ℕ) (f : Frame) (olds news : List Working) (r : Result ℕ E) → TakesTurns bound f (map (λ w. w) olds) (map (λ w. w) news) r → TakesTurns bound f olds news r
of_itself bound f olds news r turns =
    subst (λ (ws : List Working). TakesTurns bound f ws news r) (map-id olds) (subst (λ (ws : List Working). TakesTurns bound f (map (λ w. w) olds) ws r) (map-id news) turns)

pub ready_itself : (f : Frame) (ws : List Working) → All (MayTakeTurn f) ws → All (MayTakeTurn f) (map (λ w. w) ws)
ready_itself f ws all = subst (λ (vs : List Working). All (MayTakeTurn f) vs) (sym (map-id ws)) all

pub ready_both :
    {T : Type 0} (f : Frame) (w : T → Working) (ts a b : List T) → ts ≡ a ++ b → All (MayTakeTurn f) (map w ts) → All (MayTakeTurn f) (map w a) × All (MayTakeTurn f) (map w b)
ready_both f w ts a b whole all =
    let both = subst (λ (ws : List Working). All (MayTakeTurn f) ws) (ap (map w) whole ∙ map-append w a b) all in
    (all_front (MayTakeTurn f) (map w a) (map w b) both, all_back (MayTakeTurn f) (map w a) (map w b) both)
  where
    all_front : (P : Working → Type 0) (xs ys : List Working) → All P (xs ++ ys) → All P xs
    all_front P [] ys all = all_none P
    all_front P (x ∷ xs) ys all = all_more P x xs (all_first P x (xs ++ ys) all) (all_front P xs ys (all_rest P x (xs ++ ys) all))

    all_back : (P : Working → Type 0) (xs ys : List Working) → All P (xs ++ ys) → All P ys
    all_back P [] ys all = all
    all_back P (x ∷ xs) ys all = all_back P xs ys (all_rest P x (xs ++ ys) all)
