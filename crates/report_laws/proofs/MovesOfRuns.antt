-- Which moves each activity of the direct machine has made, and that it remembers a phase of just those clocks that are pending behind them.
use mathlib.Core.Path.{fun_ext}
use Rattle.std.proofs.Common.{◌≡◌, ◌≢◌, ℕ, Bool, true, false, Option, Some, None, List, [], ◌∷◌, ◌++◌, append_assoc, sym, ◌∙◌, ap, subst, refl, inl, inr}
use Rattle.std.specs.Prelude.{if◌then◌else◌, is_some, nat_lt}
use Rattle.std.specs.Option.{option_map}
use Rattle.std.proofs.lemmas.Bool.{cases_Bool, cases_eq, false≢true}
use Rattle.armus_base.specs.Places.{some_before}
use Rattle.armus_base.specs.States.{updated}
use Rattle.armus_base.proofs.Steps.{updated_other, updated_same}
use Rattle.clock_semantics.specs.Moves.{ActivityStanding, Move, advances, after_move, begins, drops, ends, no_standing, opens, resumes, starts, stops}
use Rattle.clock_semantics.proofs.MoveCodes.{stood, stood-append}
use Rattle.clock_laws.specs.calls.Direct.{ClockState, advance_of, clock_run, clock_step, departing, departing_all, direct_opening, enrolling, enrolling_all, forgetting, going, joining, move_of, opening_clock, settled, signalling, starting, step_from, with_entry}
use Rattle.clock_laws.proofs.Entries.{column_at, column_other, entry_at, entry_other, some_is}
use Rattle.clock_laws.proofs.Lawful.{AreLawfulMoves, ClockKinds}

-- ---- moves

-- advances are of clocks, ends of finishes, and a stop is the last
abbrev pub AreOfKinds : (ℕ → Bool) → List Move → Type 0
AreOfKinds clock [] = Unit {0}
AreOfKinds clock (advances p ∷ ms) = clock p ≡ true × AreOfKinds clock ms
AreOfKinds clock (ends f ∷ ms) = clock f ≡ false × AreOfKinds clock ms
AreOfKinds clock (stops ps ∷ ms) = ms ≡ [] × AreOfKinds clock ms
AreOfKinds clock (opens p ∷ ms) = AreOfKinds clock ms
AreOfKinds clock (starts c ps f ∷ ms) = AreOfKinds clock ms
AreOfKinds clock (resumes p ∷ ms) = AreOfKinds clock ms
AreOfKinds clock (drops p ∷ ms) = AreOfKinds clock ms
AreOfKinds clock (begins f ∷ ms) = AreOfKinds clock ms

pub kinds_of_lawful : (clock : ClockKinds) (maker : ℕ → ℕ) (t : ℕ) (s : ActivityStanding) (ms : List Move) → AreLawfulMoves clock maker t s ms → AreOfKinds clock.is ms
kinds_of_lawful clock maker t s [] lawful = tt
kinds_of_lawful clock maker t s (opens p ∷ ms) lawful = kinds_of_lawful clock maker t (after_move (opens p) s) ms lawful.2
kinds_of_lawful clock maker t s (starts c ps f ∷ ms) lawful = kinds_of_lawful clock maker t s ms lawful.2
kinds_of_lawful clock maker t s (advances p ∷ ms) lawful = (lawful.0, kinds_of_lawful clock maker t (after_move (advances p) s) ms lawful.2)
kinds_of_lawful clock maker t s (resumes p ∷ ms) lawful = kinds_of_lawful clock maker t (after_move (resumes p) s) ms lawful.2
kinds_of_lawful clock maker t s (drops p ∷ ms) lawful = kinds_of_lawful clock maker t (after_move (drops p) s) ms lawful.2
kinds_of_lawful clock maker t s (begins f ∷ ms) lawful = kinds_of_lawful clock maker t (after_move (begins f) s) ms lawful.2
kinds_of_lawful clock maker t s (ends f ∷ ms) lawful = (lawful.0.0, kinds_of_lawful clock maker t (after_move (ends f) s) ms lawful.2)
kinds_of_lawful clock maker t s (stops ps ∷ ms) lawful = (lawful.1, kinds_of_lawful clock maker t no_standing ms lawful.2)

kinds_later : (clock : ℕ → Bool) (m : Move) (ms : List Move) → AreOfKinds clock (m ∷ ms) → AreOfKinds clock ms
kinds_later clock (opens p) ms k = k
kinds_later clock (starts c ps f) ms k = k
kinds_later clock (advances p) ms k = k.1
kinds_later clock (resumes p) ms k = k
kinds_later clock (drops p) ms k = k
kinds_later clock (begins f) ms k = k
kinds_later clock (ends f) ms k = k.1
kinds_later clock (stops ps) ms k = k.1

-- ---- where an activity has come

-- it remembers a phase of just those of these clocks that are pending; or it has signalled on one more, in an advance that it has still to make
pub data Remembers (clock : ℕ → Bool) (pending : ℕ → Bool) (memory : ℕ → Option ℕ) (left : List Move) : Type 0 where
  between : ((q : ℕ) → clock q ≡ true → pending q ≡ is_some (memory q)) → Remembers clock pending memory left
  signalled :
      (p : ℕ) (ms : List Move) → left ≡ advances p ∷ ms → pending p ≡ false → is_some (memory p) ≡ true →
      ((q : ℕ) → q ≢ p → clock q ≡ true → pending q ≡ is_some (memory q)) → Remembers clock pending memory left

-- of these moves it has made some, and these are left
pub record HasMade (clock : ℕ → Bool) (moves : List Move) (memory : ℕ → Option ℕ) (left : List Move) : Type 0 where
  pub made : List Move
  pub split : moves ≡ made ++ left
  pub kinds : AreOfKinds clock left
  pub remembers : Remembers clock (stood no_standing made).pending memory left

module _ (clock : ℕ → Bool) (moves : List Move) where
  abbrev Made : (ℕ → Option ℕ) → List Move → Type 0
  Made memory left = HasMade clock moves memory left

  -- where the same is left, and remembered
  pub same_made : (memory other : ℕ → Option ℕ) (left rest : List Move) → ((q : ℕ) → other q ≡ memory q) → rest ≡ left → Made memory left → Made other rest
  same_made memory other left rest alike is h = subst (λ ms. Made other ms) (sym is) (subst (λ f. Made f left) (sym (fun_ext alike)) h)

  -- one move more
  one_more :
      (memory other : ℕ → Option ℕ) (m : Move) (ms : List Move) (h : Made memory (m ∷ ms)) →
      ((q : ℕ) → clock q ≡ true → (after_move m (stood no_standing h.made)).pending q ≡ is_some (other q)) → Made other ms
  one_more memory other m ms h agree =
      record {
        made = h.made ++ m ∷ [];
        split = h.split ∙ sym (append_assoc h.made (m ∷ []) ms);
        kinds = kinds_later clock m ms h.kinds;
        remembers = between (λ q is. ap (λ (s : ActivityStanding). s.pending q) (stood-append no_standing h.made (m ∷ [])) ∙ agree q is);
      }

  -- before a move that is no advance
  pub agree_before :
      (memory : ℕ → Option ℕ) (m : Move) (ms : List Move) (h : Made memory (m ∷ ms)) → ((p : ℕ) → m ≡ advances p → ⊥) → (q : ℕ) → clock q ≡ true →
      (stood no_standing h.made).pending q ≡ is_some (memory q)
  agree_before memory m ms h other q is = by h.remembers
    where
      by : Remembers clock (stood no_standing h.made).pending memory (m ∷ ms) → (stood no_standing h.made).pending q ≡ is_some (memory q)
      by (between agree) = agree q is
      by (signalled p rest e none some agree) = absurd (other p (let same : m ≡ advances p = cc in same))

  -- and before an advance, but for its clock
  pub agree_beside :
      (memory : ℕ → Option ℕ) (p : ℕ) (ms : List Move) (h : Made memory (advances p ∷ ms)) → (q : ℕ) → q ≢ p → clock q ≡ true →
      (stood no_standing h.made).pending q ≡ is_some (memory q)
  agree_beside memory p ms h q other is = by h.remembers
    where
      by : Remembers clock (stood no_standing h.made).pending memory (advances p ∷ ms) → (stood no_standing h.made).pending q ≡ is_some (memory q)
      by (between agree) = agree q is
      by (signalled r rest e none some agree) = agree q (λ same. other (same ∙ (let one : r ≡ p = cc in one))) is

  -- what is pending and what is remembered changes alike
  alike_with :
      (t : ℕ) (pending : ℕ → Bool) (memory : ℕ → ℕ → Option ℕ) (p : ℕ) (b : Bool) (v : Option ℕ) → b ≡ is_some v →
      ((q : ℕ) → q ≢ p → clock q ≡ true → pending q ≡ is_some (memory q t)) → (q : ℕ) → clock q ≡ true →
      updated pending p b q ≡ is_some (with_entry memory p t v q t)
  alike_with t pending memory p b v e agree q is =
      elim (cases_eq q p) [
        | inl same ↦ updated_same pending p q b same ∙ e ∙ ap is_some (sym (entry_at memory p t v q t same refl))
        | inr other ↦ updated_other pending p q b other ∙ agree q other is ∙ ap is_some (sym (entry_other memory p t v q t (λ same. absurd (other same))))
      ]

  -- ---- one step

  module _ (T t : ℕ) where
    abbrev MadeIn : ClockState → Type 0
    MadeIn s = Made (λ q. s.remembered q t) (s.left t)

    -- a move by which it comes to this state, in which it has still its moves
    gone :
        (s r v : ClockState) (m : Move) (ms : List Move) (h : Made (λ q. s.remembered q t) (m ∷ ms)) →
        ((q : ℕ) → clock q ≡ true → (after_move m (stood no_standing h.made)).pending q ≡ is_some (r.remembered q t)) → Some (going t ms r) ≡ Some v → MadeIn v
    gone s r v m ms h agree e =
        subst MadeIn (some_is e)
        (same_made (λ q. r.remembered q t) (λ q. r.remembered q t) ms (updated r.left t ms t) (λ q. refl) (updated_same r.left t t ms refl)
        (one_more (λ q. s.remembered q t) (λ q. r.remembered q t) m ms h agree))

    enrolling_keeps : (c : ℕ) (ps : List ℕ) (s : ClockState) → (enrolling_all c ps s).remembered ≡ s.remembered
    enrolling_keeps c [] s = refl
    enrolling_keeps c (p ∷ ps) s = enrolling_keeps c ps (enrolling c p s)

    joining_keeps : (c : ℕ) (ps : List ℕ) (f : Option ℕ) (s : ClockState) → (joining f c (enrolling_all c ps s)).remembered ≡ s.remembered
    joining_keeps c ps None s = enrolling_keeps c ps s
    joining_keeps c ps (Some f) s = enrolling_keeps c ps s

    -- an advance, by what is remembered
    advance_made :
        (s v : ClockState) (p : ℕ) (ms : List Move) → Made (λ q. s.remembered q t) (advances p ∷ ms) → s.left t ≡ advances p ∷ ms → (o : Option ℕ) →
        s.remembered p t ≡ o → advance_of t p ms o s ≡ Some v → MadeIn v
    advance_made s v p ms h left None memory e =
        subst MadeIn (some_is e)
        (same_made (λ q. with_entry s.remembered p t (Some (s.phase p)) q t) (λ q. with_entry s.remembered p t (Some (s.phase p)) q t) (advances p ∷ ms) (s.left t) (λ q. refl) left
        (record { made = h.made; split = h.split; kinds = h.kinds; remembers = by h.remembers }))
      where
        some : is_some (with_entry s.remembered p t (Some (s.phase p)) p t) ≡ true
        some = ap is_some (entry_at s.remembered p t (Some (s.phase p)) p t refl refl)

        others : (q : ℕ) → q ≢ p → clock q ≡ true → (stood no_standing h.made).pending q ≡ is_some (with_entry s.remembered p t (Some (s.phase p)) q t)
        others q other is =
            agree_beside (λ r. s.remembered r t) p ms h q other is
            ∙ ap is_some (sym (entry_other s.remembered p t (Some (s.phase p)) q t (λ same. absurd (other same))))

        by :
            Remembers clock (stood no_standing h.made).pending (λ q. s.remembered q t) (advances p ∷ ms) →
            Remembers clock (stood no_standing h.made).pending (λ q. with_entry s.remembered p t (Some (s.phase p)) q t) (advances p ∷ ms)
        by (between agree) = signalled p ms refl (agree p h.kinds.0 ∙ ap is_some memory) some others
        by (signalled r rest same none was agree) =
            absurd (false≢true (ap is_some (sym memory) ∙ ap (λ q. is_some (s.remembered q t)) (let one : p ≡ r = cc in one) ∙ was))
    advance_made s v p ms h left (Some k) memory e =
        elim (cases_Bool (nat_lt k (s.phase p))) [
          | inl above ↦
              gone s (forgetting t p s) v (advances p) ms h
              (alike_with t (stood no_standing h.made).pending s.remembered p false None refl (agree_beside (λ q. s.remembered q t) p ms h))
              (sym (ap (λ b. if b then Some (going t ms (forgetting t p s)) else None) above) ∙ e)
          | inr below ↦
              absurd (let none : None ≡ Some v = sym (ap (λ b. if b then Some (going t ms (forgetting t p s)) else None) below) ∙ e in cc)
        ]

    -- the end of a finish, by whether its open set is empty
    end_made :
        (s v : ClockState) (f : ℕ) (ms : List Move) → Made (λ q. s.remembered q t) (ends f ∷ ms) →
        (if some_before (s.open_set f) T then None else Some (going t ms s)) ≡ Some v → MadeIn v
    end_made s v f ms h e =
        elim (cases_Bool (some_before (s.open_set f) T)) [
          | inl some ↦ absurd (let none : None ≡ Some v = sym (ap (λ b. if b then None else Some (going t ms s)) some) ∙ e in cc)
          | inr none ↦
              gone s s v (ends f) ms h
              (λ q is.
              updated_other (stood no_standing h.made).pending f q false (λ same. false≢true (sym h.kinds.0 ∙ ap clock (sym same) ∙ is))
              ∙ agree_before (λ r. s.remembered r t) (ends f) ms h (λ p. λ z. absurd (cc)) q is)
              (sym (ap (λ b. if b then None else Some (going t ms s)) none) ∙ e)
        ]

    own_step : (s v : ClockState) (ms : List Move) → Made (λ q. s.remembered q t) ms → s.left t ≡ ms → move_of T t ms s ≡ Some v → MadeIn v
    own_step s v [] h left e = absurd (cc)
    own_step s v (opens p ∷ ms) h left e =
        gone s (opening_clock t p s) v (opens p) ms h (agree_before (λ q. s.remembered q t) (opens p) ms h (λ q. λ z. absurd (cc))) e
    own_step s v (starts c ps f ∷ ms) h left e =
        gone s (starting c (joining f c (enrolling_all c ps s))) v (starts c ps f) ms h
        (λ q is. agree_before (λ r. s.remembered r t) (starts c ps f) ms h (λ r. λ z. absurd (cc)) q is ∙ ap (λ g. is_some (g q t)) (sym (joining_keeps c ps f s))) e
    own_step s v (advances p ∷ ms) h left e = advance_made s v p ms h left (s.remembered p t) refl e
    own_step s v (resumes p ∷ ms) h left e =
        gone s (signalling t p s) v (resumes p) ms h
        (alike_with t (stood no_standing h.made).pending s.remembered p true (Some (s.phase p)) refl
        (λ q other is. agree_before (λ r. s.remembered r t) (resumes p) ms h (λ r. λ z. absurd (cc)) q is))
        e
    own_step s v (drops p ∷ ms) h left e =
        gone s (departing t p s) v (drops p) ms h
        (alike_with t (stood no_standing h.made).pending s.remembered p false None refl
        (λ q other is. agree_before (λ r. s.remembered r t) (drops p) ms h (λ r. λ z. absurd (cc)) q is))
        e
    own_step s v (begins f ∷ ms) h left e = gone s s v (begins f) ms h (agree_before (λ q. s.remembered q t) (begins f) ms h (λ q. λ z. absurd (cc))) e
    own_step s v (ends f ∷ ms) h left e = end_made s v f ms h e
    own_step s v (stops ps ∷ ms) h left e =
        gone s (departing_all t s) v (stops ps) ms h (λ q is. ap is_some (sym (column_at s.remembered t None q t refl))) e

-- ---- the others

-- activity u has the same left in both states, and remembers the same
pub record IsSameFor (u : ℕ) (s v : ClockState) : Type 0 where
  pub left : v.left u ≡ s.left u
  pub memory : (q : ℕ) → v.remembered q u ≡ s.remembered q u

module _ (T t u : ℕ) (other : u ≢ t) where
  gone_other :
      (s r v : ClockState) (ms : List Move) → r.left ≡ s.left → ((q : ℕ) → r.remembered q u ≡ s.remembered q u) → Some (going t ms r) ≡ Some v → IsSameFor u s v
  gone_other s r v ms lefts memory e =
      subst (IsSameFor u s) (some_is e) (record { left = updated_other r.left t u ms other ∙ ap (λ f. f u) lefts; memory = memory })

  entry_beside : (s : ClockState) (p : ℕ) (o : Option ℕ) (q : ℕ) → with_entry s.remembered p t o q u ≡ s.remembered q u
  entry_beside s p o q = entry_other s.remembered p t o q u (λ same. other)

  enrolling_same : (c : ℕ) (ps : List ℕ) (s : ClockState) → ((enrolling_all c ps s).left ≡ s.left) × ((enrolling_all c ps s).remembered ≡ s.remembered)
  enrolling_same c [] s = (refl, refl)
  enrolling_same c (p ∷ ps) s = enrolling_same c ps (enrolling c p s)

  joining_same :
      (c : ℕ) (ps : List ℕ) (f : Option ℕ) (s : ClockState) →
      ((joining f c (enrolling_all c ps s)).left ≡ s.left) × ((joining f c (enrolling_all c ps s)).remembered ≡ s.remembered)
  joining_same c ps None s = enrolling_same c ps s
  joining_same c ps (Some f) s = enrolling_same c ps s

  advance_other : (s v : ClockState) (p : ℕ) (ms : List Move) (o : Option ℕ) → advance_of t p ms o s ≡ Some v → IsSameFor u s v
  advance_other s v p ms None e =
      subst (IsSameFor u s) (some_is e) (record { left = refl; memory = entry_beside s p (Some (s.phase p)) })
  advance_other s v p ms (Some k) e =
      elim (cases_Bool (nat_lt k (s.phase p))) [
        | inl above ↦
            gone_other s (forgetting t p s) v ms refl (entry_beside s p None) (sym (ap (λ b. if b then Some (going t ms (forgetting t p s)) else None) above) ∙ e)
        | inr below ↦ absurd (let none : None ≡ Some v = sym (ap (λ b. if b then Some (going t ms (forgetting t p s)) else None) below) ∙ e in cc)
      ]

  other_step : (s v : ClockState) (ms : List Move) → move_of T t ms s ≡ Some v → IsSameFor u s v
  other_step s v [] e = absurd (cc)
  other_step s v (opens p ∷ ms) e = gone_other s (opening_clock t p s) v ms refl (λ q. refl) e
  other_step s v (starts c ps f ∷ ms) e =
      let same = joining_same c ps f s in gone_other s (starting c (joining f c (enrolling_all c ps s))) v ms same.0 (λ q. ap (λ g. g q u) same.1) e
  other_step s v (advances p ∷ ms) e = advance_other s v p ms (s.remembered p t) e
  other_step s v (resumes p ∷ ms) e = gone_other s (signalling t p s) v ms refl (entry_beside s p (Some (s.phase p))) e
  other_step s v (drops p ∷ ms) e = gone_other s (departing t p s) v ms refl (entry_beside s p None) e
  other_step s v (begins f ∷ ms) e = gone_other s s v ms refl (λ q. refl) e
  other_step s v (ends f ∷ ms) e =
      elim (cases_Bool (some_before (s.open_set f) T)) [
        | inl some ↦ absurd (let none : None ≡ Some v = sym (ap (λ b. if b then None else Some (going t ms s)) some) ∙ e in cc)
        | inr none ↦ gone_other s s v ms refl (λ q. refl) (sym (ap (λ b. if b then None else Some (going t ms s)) none) ∙ e)
      ]
  other_step s v (stops ps ∷ ms) e = gone_other s (departing_all t s) v ms refl (λ q. column_other s.remembered t None q u other) e

-- ---- runs

module _ (T : ℕ) (clock : ℕ → Bool) (moves : ℕ → List Move) where
  -- each activity has made some of its moves
  abbrev pub AllMade : ClockState → Type 0
  AllMade s = (u : ℕ) → HasMade clock (moves u) (λ q. s.remembered q u) (s.left u)

  step_made : (t : ℕ) (s r : ClockState) → AllMade s → clock_step T t s ≡ Some r → AllMade r
  step_made t s r all e u =
      elim (cases_Bool (s.started t)) [
        | inr idle ↦ absurd (let none : None ≡ Some r = sym (ap (λ b. if b then option_map (settled T) (move_of T t (s.left t) s) else None) idle) ∙ e in cc)
        | inl started ↦ moved (move_of T t (s.left t) s) refl (sym (ap (λ b. if b then option_map (settled T) (move_of T t (s.left t) s) else None) started) ∙ e)
      ]
    where
      moved : (o : Option ClockState) → move_of T t (s.left t) s ≡ o → option_map (settled T) o ≡ Some r → HasMade clock (moves u) (λ q. r.remembered q u) (r.left u)
      moved None is e = absurd (cc)
      moved (Some v) is e =
          subst (λ (z : ClockState). HasMade clock (moves u) (λ q. z.remembered q u) (z.left u)) (some_is e) (elim (cases_eq u t) [
            | inl same ↦
                subst (λ w. HasMade clock (moves w) (λ q. v.remembered q w) (v.left w)) (sym same) (own_step clock (moves t) T t s v (s.left t) (all t) refl is)
            | inr other ↦
                let stays = other_step T t u other s v (s.left t) is in
                same_made clock (moves u) (λ q. s.remembered q u) (λ q. v.remembered q u) (s.left u) (v.left u) stays.memory stays.left (all u)
          ])

  by_last : (t : ℕ) (s : ClockState) (o : Option ClockState) → ((r : ClockState) → o ≡ Some r → AllMade r) → step_from T t o ≡ Some s → AllMade s
  by_last t s None before e = absurd (cc)
  by_last t s (Some r) before e = step_made t r s (before r refl) e

  pub run_made : (ts : List ℕ) (s : ClockState) → ((u : ℕ) → AreOfKinds clock (moves u)) → clock_run T (direct_opening moves) ts ≡ Some s → AllMade s
  run_made [] s kinds e =
      subst AllMade (some_is e) (λ u. record { made = []; split = refl; kinds = kinds u; remembers = between (λ q is. refl) })
  run_made (t ∷ ts) s kinds e = by_last t s (clock_run T (direct_opening moves) ts) (λ r is. run_made ts r kinds is) e
