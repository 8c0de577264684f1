-- Runs of the direct machine end: each step takes a move, or signals once before one.
use Rattle.std.proofs.Common.{◌≡◌, ◌≢◌, ℕ, zero, suc, ◌+◌, ◌*◌, ◌<◌, ◌≤◌, Bool, true, false, Option, Some, None, List, [], ◌∷◌, ◌++◌, length, append_assoc, arith, sym, ◌∙◌, ap, subst, refl, ◌⊎◌, inl, inr}
use Rattle.std.specs.Prelude.{if◌then◌else◌, is_some, nat_lt, slice_get, sum_by, unwrap_or}
use Rattle.std.specs.Option.{option_map}
use Rattle.std.proofs.lemmas.Bool.{cases_Bool, cases_eq, cases_lt}
use Rattle.std.proofs.lemmas.List.Sums.{sum_by-cons}
use Rattle.std.proofs.lemmas.Option.{slice_get_past}
use Rattle.armus_base.specs.Places.{some_before}
use Rattle.armus_base.proofs.Steps.{updated_other, updated_same}
use Rattle.armus_base.proofs.Tasks.{all_or_one}
use Rattle.clock_semantics.specs.Moves.{Move, opens, starts, advances, resumes, drops, begins, ends, stops}
use Rattle.clock_laws.specs.calls.Direct.{ClockState, IsClockEnd, advance_of, clock_run, clock_step, direct_opening, enrolling, enrolling_all, forgetting, going, joining, departing_all, move_of, settled, signalling, starting, step_from, with_entry}
use Rattle.clock_laws.proofs.Entries.{column_other, entry_at, entry_other, some_is}

-- how many steps an activity may make that has these moves left and remembers this
pub steps_left : List Move → (ℕ → Option ℕ) → ℕ
steps_left [] memory = 0
steps_left (advances p ∷ ms) memory = if is_some (memory p) then 2 * length ms + 1 else 2 * length ms + 2
steps_left (m ∷ ms) memory = 2 * length ms + 2

left_at_most : (ms : List Move) (memory : ℕ → Option ℕ) → steps_left ms memory ≤ 2 * length ms
unfolding steps_left
left_at_most [] memory = omega arith
left_at_most (opens p ∷ ms) memory = omega arith
left_at_most (starts c ps f ∷ ms) memory = omega arith
left_at_most (advances p ∷ ms) memory = go (is_some (memory p))
  where
    go : (b : Bool) → (if b then 2 * length ms + 1 else 2 * length ms + 2) ≤ 2 * suc (length ms)
    go true = omega arith
    go false = omega arith
left_at_most (resumes p ∷ ms) memory = omega arith
left_at_most (drops p ∷ ms) memory = omega arith
left_at_most (begins f ∷ ms) memory = omega arith
left_at_most (ends f ∷ ms) memory = omega arith
left_at_most (stops ps ∷ ms) memory = omega arith

left_same : (ms : List Move) (memory memory' : ℕ → Option ℕ) → ((p : ℕ) → memory' p ≡ memory p) → steps_left ms memory' ≡ steps_left ms memory
unfolding steps_left
left_same [] memory memory' same = refl
left_same (opens p ∷ ms) memory memory' same = refl
left_same (starts c ps f ∷ ms) memory memory' same = refl
left_same (advances p ∷ ms) memory memory' same = ap (λ o. if is_some o then 2 * length ms + 1 else 2 * length ms + 2) (same p)
left_same (resumes p ∷ ms) memory memory' same = refl
left_same (drops p ∷ ms) memory memory' same = refl
left_same (begins f ∷ ms) memory memory' same = refl
left_same (ends f ∷ ms) memory memory' same = refl
left_same (stops ps ∷ ms) memory memory' same = refl

-- a move is worth a step at least, and an advance of a clock on which nothing is remembered two
worth_one : (m : Move) (ms : List Move) (memory : ℕ → Option ℕ) → 2 * length ms < steps_left (m ∷ ms) memory
unfolding steps_left
worth_one (opens p) ms memory = omega arith
worth_one (starts c ps f) ms memory = omega arith
worth_one (advances p) ms memory = go (is_some (memory p))
  where
    go : (b : Bool) → 2 * length ms < (if b then 2 * length ms + 1 else 2 * length ms + 2)
    go true = omega arith
    go false = omega arith
worth_one (resumes p) ms memory = omega arith
worth_one (drops p) ms memory = omega arith
worth_one (begins f) ms memory = omega arith
worth_one (ends f) ms memory = omega arith
worth_one (stops ps) ms memory = omega arith

worth_two :
    (p : ℕ) (ms : List Move) (memory memory' : ℕ → Option ℕ) (k : ℕ) → memory p ≡ None → memory' p ≡ Some k →
    steps_left (advances p ∷ ms) memory' < steps_left (advances p ∷ ms) memory
unfolding steps_left
worth_two p ms memory memory' k e f =
    let was : steps_left (advances p ∷ ms) memory ≡ 2 * length ms + 2 = ap (λ o. if is_some o then 2 * length ms + 1 else 2 * length ms + 2) e in
    let is : steps_left (advances p ∷ ms) memory' ≡ 2 * length ms + 1 = ap (λ o. if is_some o then 2 * length ms + 1 else 2 * length ms + 2) f in
    omega arith

-- the steps that activity t may make
abbrev pub steps_of : ClockState → ℕ → ℕ
steps_of s t = steps_left (s.left t) (λ p. s.remembered p t)

-- activity t has fewer, and each other one as many, and the same moves
pub record TakesStep (t : ℕ) (s s' : ClockState) : Type 0 where
  pub fewer : steps_of s' t < steps_of s t
  pub others : (u : ℕ) → u ≢ t → steps_of s' u ≡ steps_of s u
  pub lefts : (u : ℕ) → u ≢ t → s'.left u ≡ s.left u

module _ (T t : ℕ) where
  -- a move is made
  moves_on :
      (s r : ClockState) (m : Move) (ms : List Move) → s.left t ≡ m ∷ ms → r.left ≡ s.left → ((p u : ℕ) → u ≢ t → r.remembered p u ≡ s.remembered p u) →
      TakesStep t s (settled T (going t ms r))
  moves_on s r m ms is lefts memories =
      record {
        fewer =
            (let less : steps_left (updated_left t) (λ p. r.remembered p t) ≤ 2 * length (updated_left t) = left_at_most (updated_left t) (λ p. r.remembered p t) in
            let same : updated_left t ≡ ms = updated_same r.left t t ms refl in
            let sized : length (updated_left t) ≡ length ms = ap length same in
            let more : 2 * length ms < steps_left (m ∷ ms) (λ p. s.remembered p t) = worth_one m ms (λ p. s.remembered p t) in
            let was : steps_of s t ≡ steps_left (m ∷ ms) (λ p. s.remembered p t) = ap (λ v. steps_left v (λ p. s.remembered p t)) is in
            omega arith);
        others = λ u n.
            ap (λ v. steps_left v (λ p. r.remembered p u)) (updated_other r.left t u ms n ∙ ap (λ f. f u) lefts)
            ∙ left_same (s.left u) (λ p. s.remembered p u) (λ p. r.remembered p u) (λ p. memories p u n);
        lefts = λ u n. updated_other r.left t u ms n ∙ ap (λ f. f u) lefts;
      }
    where
      updated_left : ℕ → List Move
      updated_left = (going t ms r).left

  enrolling_keeps : (c : ℕ) (ps : List ℕ) (s : ClockState) → (enrolling_all c ps s).remembered ≡ s.remembered × (enrolling_all c ps s).left ≡ s.left
  enrolling_keeps c [] s = (refl, refl)
  enrolling_keeps c (p ∷ ps) s = enrolling_keeps c ps (enrolling c p s)

  joining_keeps : (f : Option ℕ) (c : ℕ) (s : ClockState) → (joining f c s).remembered ≡ s.remembered × (joining f c s).left ≡ s.left
  joining_keeps None c s = (refl, refl)
  joining_keeps (Some f) c s = (refl, refl)

  module _ (s : ClockState) where
    advance_takes :
        (p : ℕ) (ms : List Move) → s.left t ≡ advances p ∷ ms → (o : Option ℕ) → s.remembered p t ≡ o → (r : ClockState) → advance_of t p ms o s ≡ Some r →
        TakesStep t s (settled T r)
    advance_takes p ms is None memory r e =
        subst (λ v. TakesStep t s (settled T v)) (some_is e)
        (record {
          fewer =
              (let is_now : with_entry s.remembered p t (Some (s.phase p)) p t ≡ Some (s.phase p) = entry_at s.remembered p t (Some (s.phase p)) p t refl refl in
              let less = worth_two p ms (λ q. s.remembered q t) (λ q. with_entry s.remembered p t (Some (s.phase p)) q t) (s.phase p) memory is_now in
              let was : steps_of s t ≡ steps_left (advances p ∷ ms) (λ q. s.remembered q t) = ap (λ v. steps_left v (λ q. s.remembered q t)) is in
              let now : steps_of (signalling t p s) t ≡ steps_left (advances p ∷ ms) (λ q. with_entry s.remembered p t (Some (s.phase p)) q t) =
              ap (λ v. steps_left v (λ q. with_entry s.remembered p t (Some (s.phase p)) q t)) is in
              omega arith);
          others = λ u n. left_same (s.left u) (λ q. s.remembered q u) (λ q. with_entry s.remembered p t (Some (s.phase p)) q u) (λ q. entry_other s.remembered p t (Some
              (s.phase p)) q u (λ _. n));
          lefts = λ u n. refl;
        })
    advance_takes p ms is (Some k) memory r e =
        elim (cases_Bool (nat_lt k (s.phase p))) [
          | inl above ↦
              subst (λ v. TakesStep t s (settled T v)) (some_is (sym (ap (λ b. if b then Some (going t ms (forgetting t p s)) else None) above) ∙ e))
              (moves_on s (forgetting t p s) (advances p) ms is refl (λ q u n. entry_other s.remembered p t None q u (λ _. n)))
          | inr below ↦ absurd (let none : None ≡ Some r = sym (ap (λ b. if b then Some (going t ms (forgetting t p s)) else None) below) ∙ e in cc)
        ]

    move_takes : (ms : List Move) → s.left t ≡ ms → (r : ClockState) → move_of T t ms s ≡ Some r → TakesStep t s (settled T r)
    move_takes [] is r e = absurd (cc)
    move_takes (opens p ∷ ms) is r e =
        subst (λ v. TakesStep t s (settled T v)) (some_is e) (moves_on s _ (opens p) ms is refl (λ q u n. refl))
    move_takes (starts c ps f ∷ ms) is r e =
        let kept = enrolling_keeps c ps s in
        let joined = joining_keeps f c (enrolling_all c ps s) in
        subst (λ v. TakesStep t s (settled T v)) (some_is e)
        (moves_on s (starting c (joining f c (enrolling_all c ps s))) (starts c ps f) ms is (joined.1 ∙ kept.1) (λ q u n. ap (λ g. g q u) (joined.0 ∙ kept.0)))
    move_takes (advances p ∷ ms) is r e = advance_takes p ms is (s.remembered p t) refl r e
    move_takes (resumes p ∷ ms) is r e =
        subst (λ v. TakesStep t s (settled T v)) (some_is e)
        (moves_on s _ (resumes p) ms is refl (λ q u n. entry_other s.remembered p t (Some (s.phase p)) q u (λ _. n)))
    move_takes (drops p ∷ ms) is r e =
        subst (λ v. TakesStep t s (settled T v)) (some_is e)
        (moves_on s _ (drops p) ms is refl (λ q u n. entry_other s.remembered p t None q u (λ _. n)))
    move_takes (begins f ∷ ms) is r e = subst (λ v. TakesStep t s (settled T v)) (some_is e) (moves_on s s (begins f) ms is refl (λ q u n. refl))
    move_takes (ends f ∷ ms) is r e =
        elim (cases_Bool (some_before (s.open_set f) T)) [
          | inl some ↦ absurd (let none : None ≡ Some r = sym (ap (λ b. if b then None else Some (going t ms s)) some) ∙ e in cc)
          | inr none ↦
              subst (λ v. TakesStep t s (settled T v)) (some_is (sym (ap (λ b. if b then None else Some (going t ms s)) none) ∙ e))
              (moves_on s s (ends f) ms is refl (λ q u n. refl))
        ]
    move_takes (stops ps ∷ ms) is r e =
        subst (λ v. TakesStep t s (settled T v)) (some_is e)
        (moves_on s (departing_all t s) (stops ps) ms is refl (λ q u n. column_other s.remembered t None q u n))

  takes_mapped :
      (s s' : ClockState) (o : Option ClockState) → move_of T t (s.left t) s ≡ o → option_map (settled T) o ≡ Some s' → TakesStep t s s'
  takes_mapped s s' None is e = absurd (cc)
  takes_mapped s s' (Some r) is e = subst (TakesStep t s) (some_is e) (move_takes s (s.left t) refl r is)

  pub step_takes : (s s' : ClockState) → clock_step T t s ≡ Some s' → TakesStep t s s'
  step_takes s s' e =
      elim (cases_Bool (s.started t)) [
        | inr idle ↦
            absurd (let none : None ≡ Some s' = sym (ap (λ b. if b then option_map (settled T) (move_of T t (s.left t) s) else None) idle) ∙ e in cc)
        | inl started ↦
            takes_mapped s s' (move_of T t (s.left t) s) refl
            (sym (ap (λ b. if b then option_map (settled T) (move_of T t (s.left t) s) else None) started) ∙ e)
      ]

-- ---- the sum over all activities

pub total : (ℕ → ℕ) → ℕ → ℕ
total f zero = 0
total f (suc n) = f n + total f n

total_same : (f g : ℕ → ℕ) (n : ℕ) → ((u : ℕ) → u < n → f u ≡ g u) → total f n ≡ total g n
unfolding total
total_same f g zero same = refl
total_same f g (suc n) same = (let a = same n (omega arith) in let b = total_same f g n (λ u l. same u (omega arith)) in omega arith)

total_less : (f g : ℕ → ℕ) (t : ℕ) → f t < g t → ((u : ℕ) → u ≢ t → f u ≡ g u) → (n : ℕ) → t < n → total f n < total g n
unfolding total
total_less f g t less same zero l = absurd (omega arith)
total_less f g t less same (suc n) l =
    elim (cases_eq n t) [
      | inl e ↦
          (let here : f n < g n = subst (λ v. f v < g v) (sym e) less in
          let rest = total_same f g n (λ u k. same u (λ h. absurd (omega arith))) in
          omega arith)
      | inr other ↦ (let here = same n other in let rest = total_less f g t less same n (omega arith) in omega arith)
    ]

total_at_most : (f g : ℕ → ℕ) (n : ℕ) → ((u : ℕ) → f u ≤ g u) → total f n ≤ total g n
unfolding total
total_at_most f g zero le = omega arith
total_at_most f g (suc n) le = (let a = le n in let b = total_at_most f g n le in omega arith)

total_first : (f : ℕ → ℕ) (n : ℕ) → total f (suc n) ≡ f 0 + total (λ u. f (suc u)) n
unfolding total
total_first f zero = omega arith
total_first f (suc n) = (let a = total_first f n in omega arith)

total_lengths : (xss : List (List Move)) (n : ℕ) → total (λ t. 2 * length (unwrap_or (slice_get xss t) [])) n ≤ 2 * sum_by length xss
unfolding total
total_lengths [] zero = omega arith
total_lengths [] (suc n) = (let a = total_lengths [] n in omega arith)
total_lengths (xs ∷ xss) zero = omega arith
total_lengths (xs ∷ xss) (suc n) = by_first (total_first (λ t. 2 * length (unwrap_or (slice_get (xs ∷ xss) t) [])) n) (total_lengths xss n)
  where
    by_first :
        total (λ t. 2 * length (unwrap_or (slice_get (xs ∷ xss) t) [])) (suc n) ≡ 2 * length xs + total (λ t. 2 * length (unwrap_or (slice_get xss t) [])) n →
        total (λ t. 2 * length (unwrap_or (slice_get xss t) [])) n ≤ 2 * sum_by length xss →
        total (λ t. 2 * length (unwrap_or (slice_get (xs ∷ xss) t) [])) (suc n) ≤ 2 * sum_by length (xs ∷ xss)
    by_first e l = omega (arith, e, l, sum_by-cons length xs xss)

-- ---- runs

module _ (T : ℕ) (moves : ℕ → List Move) (none_beyond : (t : ℕ) → T ≤ t → moves t ≡ []) where
  pub record HasRun (ts : List ℕ) (s : ClockState) : Type 0 where
    pub beyond : (t : ℕ) → T ≤ t → s.left t ≡ []
    pub bounded : length ts + total (steps_of s) T ≤ total (steps_of (direct_opening moves)) T

  -- who has no move makes no step
  no_step : (s : ClockState) (t : ℕ) → s.left t ≡ [] → clock_step T t s ≡ None
  no_step s t e =
      go (s.started t)
    where
      go : (b : Bool) → (if b then option_map (settled T) (move_of T t (s.left t) s) else None) ≡ None
      go true = ap (λ ms. option_map (settled T) (move_of T t ms s)) e
      go false = refl

  one_more : (t : ℕ) (ts : List ℕ) (s s' : ClockState) → HasRun ts s → clock_step T t s ≡ Some s' → HasRun (t ∷ ts) s'
  one_more t ts s s' has e =
      let takes = step_takes T t s s' e in
      let within : t < T = elim (cases_lt t T) [
        | inl l ↦ l
        | inr l ↦ absurd (let none = no_step s t (has.beyond t l) in let both : None ≡ Some s' = sym none ∙ e in cc)
      ] in
      record {
        beyond = λ u l. takes.lefts u (λ same. absurd (omega arith)) ∙ has.beyond u l;
        bounded = (let less = total_less (steps_of s') (steps_of s) t takes.fewer takes.others T within in let b = has.bounded in omega arith);
      }

  by_last :
      (t : ℕ) (ts : List ℕ) (s : ClockState) (o : Option ClockState) → ((r : ClockState) → o ≡ Some r → HasRun ts r) → step_from T t o ≡ Some s → HasRun (t ∷ ts) s
  by_last t ts s None before e = absurd (cc)
  by_last t ts s (Some r) before e = one_more t ts r s (before r refl) e

  pub has_run : (ts : List ℕ) (s : ClockState) → clock_run T (direct_opening moves) ts ≡ Some s → HasRun ts s
  has_run [] s e =
      subst (HasRun []) (some_is e) (record { beyond = none_beyond; bounded = omega arith })
  has_run (t ∷ ts) s e = by_last t ts s (clock_run T (direct_opening moves) ts) (λ r is. has_run ts r is) e

  pub step_within : (ts : List ℕ) (s : ClockState) → clock_run T (direct_opening moves) ts ≡ Some s → (t : ℕ) (s' : ClockState) → clock_step T t s ≡ Some s' → t < T
  step_within ts s run t s' e =
      elim (cases_lt t T) [
        | inl l ↦ l
        | inr l ↦ absurd (let none = no_step s t ((has_run ts s run).beyond t l) in let both : None ≡ Some s' = sym none ∙ e in cc)
      ]

  -- a state is an end, or some activity can make a step
  decided : (s : ClockState) (t : ℕ) → (clock_step T t s ≡ None) ⊎ ((s' : ClockState) × clock_step T t s ≡ Some s')
  decided s t = go (clock_step T t s) refl
    where
      go : (o : Option ClockState) → clock_step T t s ≡ o → (clock_step T t s ≡ None) ⊎ ((s' : ClockState) × clock_step T t s ≡ Some s')
      go None is = inl is
      go (Some s') is = inr (s', is)

  abbrev Continues : List ℕ → Type 0
  Continues ts = (more : List ℕ) × (r : ClockState) × clock_run T (direct_opening moves) (more ++ ts) ≡ Some r × IsClockEnd T r

  one_before : (t : ℕ) (ts : List ℕ) → Continues (t ∷ ts) → Continues ts
  one_before t ts c =
      (c.0 ++ t ∷ [], c.1, ap (clock_run T (direct_opening moves)) (append_assoc c.0 (t ∷ []) ts) ∙ c.2, c.3)

  ends_or_step :
      (ts : List ℕ) (s : ClockState) → clock_run T (direct_opening moves) ts ≡ Some s →
      IsClockEnd T s ⊎ ((t : ℕ) × (s' : ClockState) × clock_step T t s ≡ Some s')
  ends_or_step ts s run =
      let has = has_run ts s run in
      elim (all_or_one (λ t. clock_step T t s ≡ None) (λ t. (s' : ClockState) × clock_step T t s ≡ Some s') (decided s) T) [
        | inl all ↦ inl (λ t. elim (cases_lt t T) [ inl k ↦ all t k | inr k ↦ no_step s t (has.beyond t k) ])
        | inr one ↦ inr (one.0, one.2.0, one.2.1)
      ]

  -- with at most n steps left, a run goes on to an end
  pub goes_to_end : (n : ℕ) (ts : List ℕ) (s : ClockState) → clock_run T (direct_opening moves) ts ≡ Some s → total (steps_of s) T ≤ n → Continues ts
  goes_to_end zero ts s run l =
      elim (ends_or_step ts s run) [
        | inl rests ↦ ([], s, run, rests)
        | inr one ↦
            absurd (let more = has_run (one.0 ∷ ts) one.1 (ap (step_from T one.0) run ∙ one.2) in
            let less = (step_takes T one.0 s one.1 one.2).fewer in
            let within = step_within ts s run one.0 one.1 one.2 in
            let sum = total_less (steps_of one.1) (steps_of s) one.0 less (step_takes T one.0 s one.1 one.2).others T within in
            omega arith)
      ]
  goes_to_end (suc n) ts s run l =
      elim (ends_or_step ts s run) [
        | inl rests ↦ ([], s, run, rests)
        | inr one ↦
            let within = step_within ts s run one.0 one.1 one.2 in
            let sum = total_less (steps_of one.1) (steps_of s) one.0 (step_takes T one.0 s one.1 one.2).fewer (step_takes T one.0 s one.1 one.2).others T within in
            one_before one.0 ts (goes_to_end n (one.0 ∷ ts) one.1 (ap (step_from T one.0) run ∙ one.2) (omega arith))
      ]

-- ---- the moves of an unfolding

module _ (xss : List (List Move)) (T : ℕ) (few : length xss ≤ T) where
  abbrev moves_in : ℕ → List Move
  moves_in t = unwrap_or (slice_get xss t) []

  no_moves_beyond : (t : ℕ) → T ≤ t → moves_in t ≡ []
  no_moves_beyond t l = ap (λ o. unwrap_or o []) (slice_get_past xss t (omega arith))

  first_steps : total (steps_of (direct_opening moves_in)) T ≤ 2 * sum_by length xss
  first_steps =
      (let a = total_at_most (steps_of (direct_opening moves_in)) (λ t. 2 * length (moves_in t)) T (λ t. left_at_most (moves_in t) (λ p. None)) in
      let b = total_lengths xss T in
      omega arith)

  pub bounded_run : (ts : List ℕ) (s : ClockState) → clock_run T (direct_opening moves_in) ts ≡ Some s → length ts ≤ 2 * sum_by length xss
  bounded_run ts s run = (let has = (has_run T moves_in no_moves_beyond ts s run).bounded in let first = first_steps in omega arith)

  pub run_ends :
      (ts : List ℕ) (s : ClockState) → clock_run T (direct_opening moves_in) ts ≡ Some s →
      (more : List ℕ) × (r : ClockState) × clock_run T (direct_opening moves_in) (more ++ ts) ≡ Some r × IsClockEnd T r
  run_ends ts s run = goes_to_end T moves_in no_moves_beyond (total (steps_of s) T) ts s run (omega arith)
