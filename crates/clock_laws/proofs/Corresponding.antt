-- When a state of the machine on moves stands for one of the machine on the text, and that it does so when the clocks have gone on in both.
use Rattle.std.proofs.Common.{◌≡◌, ◌≢◌, ℕ, ◌+◌, ◌<◌, ◌≤◌, Bool, true, false, not, Option, Some, None, List, [], ◌∷◌, ◌++◌, length, sym, ◌∙◌, ap, refl, ◌⊎◌, inl, inr}
use Rattle.std.specs.Prelude.{◌&&◌, if◌then◌else◌, is_some, slice_index_or}
use Rattle.std.specs.Option.{option_map}
use Rattle.armus_base.specs.Places.{some_before}
use Rattle.clock_syntax.specs.Trees.{ClockTree, advance, plain}
use Rattle.clock_laws.specs.calls.Direct.{ClockState, is_through, settled}
use Rattle.clock_semantics.specs.Moves.{Move, ActivityStanding, begins, made_by, opens, started_by}
use Rattle.clock_semantics.specs.Unfolding.{ClockNames, ClockUnfolding, activities}
use Rattle.clock_semantics.proofs.MoveCodes.{moves_at}
use Rattle.clock_semantics.specs.calls.ProgramPoints.{ProgramPoint, before, closing, last, turning}
use Rattle.clock_laws.specs.TextMachine.{Acting, Activity, Clock, Continuation, Made, TextState, beginning, clocks_go_on, closes, goes_on, is_empty, is_there, leaves, over, reads, turns}
use Rattle.clock_laws.specs.TextNumbers.{IsActivityIn, IsMadeIn, made_in, number_in}
use Rattle.clock_laws.proofs.Makes.{Makes}
use Rattle.clock_laws.proofs.Tables.{Agrees, HaveNames, empties, is_in}

-- ---- kinds

-- whether a move makes a clock or a finish, if it makes one
abbrev pub kind_of : Move → List Bool
kind_of (opens p) = true ∷ []
kind_of (begins f) = false ∷ []
kind_of m = []

abbrev pub kinds_by : List Move → List Bool
kinds_by [] = []
kinds_by (m ∷ ms) = kind_of m ++ kinds_by ms

module _ (u : ClockUnfolding) where
  -- what is named so is a clock, and no finish
  abbrev pub is_clock : Made → Bool
  is_clock p = slice_index_or (kinds_by (moves_at u (number_in u p.maker))) p.before false

  -- a clock, a finish
  abbrev pub IsClock : Made → Type 0
  IsClock p = IsMadeIn u p × (is_clock p ≡ true)

  abbrev pub IsFinish : Made → Type 0
  IsFinish f = IsMadeIn u f × (is_clock f ≡ false)

  -- ---- where an activity stands in both

  -- what it has still to do is what stands behind this point
  pub data Fits : ProgramPoint → Continuation → Type 0 where
    reads_so : {n : ℕ} {body : ClockTree} {point : ProgramPoint} {rest : Continuation} → Fits point rest → Fits (before n body point) (reads body rest)
    turns_so : {n k : ℕ} {body : ClockTree} {point : ProgramPoint} {rest : Continuation} → Fits point rest → Fits (turning n k body point) (turns k body rest)
    closes_so : {n : ℕ} {f : Made} {point : ProgramPoint} {rest : Continuation} → Fits point rest → Fits (closing n (made_in u f) point) (closes f rest)
    leaves_so : {n : ℕ} {f : Option Made} → Fits (last n (option_map (made_in u) f)) (leaves f)

  -- the finishes of what is still to do are finishes
  abbrev pub Finishes : Continuation → Type 0
  Finishes (reads body rest) = Finishes rest
  Finishes (turns k body rest) = Finishes rest
  Finishes (closes f rest) = IsFinish f × Finishes rest
  Finishes (leaves None) = Unit {0}
  Finishes (leaves (Some f)) = IsFinish f
  Finishes over = Unit {0}

  -- the finish at the bottom, which governs the activity itself
  abbrev pub bottom : Continuation → Option Made
  bottom (reads body rest) = bottom rest
  bottom (turns k body rest) = bottom rest
  bottom (closes f rest) = bottom rest
  bottom (leaves f) = f
  bottom over = None

  -- the clock at whose advance it stands, if it stands at one
  abbrev pub target_at : Acting → Continuation → Option Made
  target_at x (reads (plain (advance y) more) rest) = x.names y
  target_at x rest = None

  -- what is known of an activity that has this still to do, with the names and the standing of the unfolding, and with the clocks on which it is registered
  pub record Knows (x : Acting) (c : Continuation) (names : ClockNames) (standing : ActivityStanding) (on : Made → Bool) : Type 0 where
    pub named : (y : List ℕ) → names y ≡ option_map (made_in u) (x.names y)
    pub clocks : (y : List ℕ) (p : Made) → x.names y ≡ Some p → IsClock p
    pub members : (p : Made) → IsClock p → standing.members (made_in u p) ≡ on p
    pub pending : (p : Made) → IsClock p → target_at x c ≢ Some p → standing.pending (made_in u p) ≡ is_some (x.remembers p)
    pub finishes : Finishes c

  -- it stands at a point, and makes these moves
  pub record Stands (x : Acting) (c : Continuation) (left : List Move) (on : Made → Bool) : Type 0 where
    pub point : ProgramPoint
    pub names : ClockNames
    pub standing : ActivityStanding
    pub fits : Fits point c
    pub makes : Makes u point names standing left
    pub knows : Knows x c names standing on

  -- activity number t acts so, and has these moves left
  pub record ActsAs (t : ℕ) (x : Acting) (left : List Move) (on : Made → Bool) : Type 0 where
    pub done : List Move
    pub split : moves_at u t ≡ done ++ left
    pub started : x.started ≡ length (started_by done)
    pub made : x.made ≡ length (made_by done)
    pub stands : ((x.rest ≡ over) × (left ≡ [])) ⊎ Stands x x.rest left on

  pub on_same : (t : ℕ) (x : Acting) (left : List Move) (on on' : Made → Bool) → ((p : Made) → on' p ≡ on p) → ActsAs t x left on → ActsAs t x left on'
  on_same t x left on on' same h =
      record { done = h.done; split = h.split; started = h.started; made = h.made; stands = by h.stands }
    where
      by : (((x.rest ≡ over) × (left ≡ [])) ⊎ Stands x x.rest left on) → (((x.rest ≡ over) × (left ≡ [])) ⊎ Stands x x.rest left on')
      by (inl e) = inl e
      by (inr s) =
          inr (record {
            point = s.point;
            names = s.names;
            standing = s.standing;
            fits = s.fits;
            makes = s.makes;
            knows = record {
              named = s.knows.named;
              clocks = s.knows.clocks;
              members = λ p c. s.knows.members p c ∙ sym (same p);
              pending = s.knows.pending;
              finishes = s.knows.finishes;
            };
          })

  -- ---- states

  -- the clocks on which activity a is registered
  abbrev pub registered : TextState → Activity → Made → Bool
  registered s a p = is_in a (s.clock_of p).enrolled

  -- the tables of both states agree
  pub record Tells (s : TextState) (m : ClockState) : Type 0 where
    pub phase : (p : Made) → IsMadeIn u p → (s.clock_of p).phase ≡ m.phase (made_in u p)
    pub enrolled : Agrees u (λ p a. is_in a (s.clock_of p).enrolled) m.enrolled
    pub unsignalled : Agrees u (λ p a. is_in a (s.clock_of p).unsignalled) m.unsignalled
    pub open_set : Agrees u (λ p a. is_in a (s.open_set p)) m.open_set
    pub remembers : Agrees u (λ p a. (s.acting a).remembers p) m.remembered
    pub started : (a : Activity) → IsActivityIn u a → is_there s a ≡ m.started (number_in u a)

  -- what holds of a state of the machine on the text
  pub record Holds (s : TextState) : Type 0 where
    pub inside : (a : Activity) → is_there s a ≡ true → IsActivityIn u a
    pub enrolled_in : (p : Made) (b : Activity) → is_in b (s.clock_of p).enrolled ≡ true → is_there s b ≡ true
    pub unsignalled_in : (p : Made) (b : Activity) → is_in b (s.clock_of p).unsignalled ≡ true → is_there s b ≡ true
    pub open_in : (p : Made) (b : Activity) → is_in b (s.open_set p) ≡ true → is_there s b ≡ true
    pub under : (p : Made) (b : Activity) → is_in b (s.open_set p) ≡ true → bottom (s.acting b).rest ≡ Some p
    pub fresh : (p : Made) (b : Activity) → (s.acting p.maker).made ≤ p.before →
        (is_in b (s.clock_of p).enrolled ≡ false) × (is_in b (s.clock_of p).unsignalled ≡ false)
    pub unstarted : (a : Activity) → is_there s a ≡ false → s.acting a ≡ beginning over (λ x. None)
    pub children : (k : ℕ) (a : Activity) → is_there s (k ∷ a) ≡ true → k < (s.acting a).started

  -- the two states correspond
  pub record Corresponds (s : TextState) (m : ClockState) : Type 0 where
    pub tells : Tells s m
    pub holds : Holds s
    pub acts : (a : Activity) → is_there s a ≡ true → ActsAs (number_in u a) (s.acting a) (m.left (number_in u a)) (registered s a)
    pub waits : (a : Activity) → IsActivityIn u a → is_there s a ≡ false → m.left (number_in u a) ≡ moves_at u (number_in u a)

  -- no clock has to go on
  abbrev pub IsSteady : TextState → Type 0
  IsSteady s = (p : Made) → goes_on (s.clock_of p) ≡ s.clock_of p

  -- ---- the clocks go on

  abbrev through : Clock → Bool
  through k = not (is_empty k.enrolled) && is_empty k.unsignalled

  phase_on : (k : Clock) → (goes_on k).phase ≡ (if through k then k.phase + 1 else k.phase)
  phase_on k = by (through k)
    where
      by : (b : Bool) → (if b then record k { phase = k.phase + 1; unsignalled = k.enrolled } else k).phase ≡ (if b then k.phase + 1 else k.phase)
      by true = refl
      by false = refl

  pub enrolled_on : (k : Clock) → (goes_on k).enrolled ≡ k.enrolled
  enrolled_on k = by (through k)
    where
      by : (b : Bool) → (if b then record k { phase = k.phase + 1; unsignalled = k.enrolled } else k).enrolled ≡ k.enrolled
      by true = refl
      by false = refl

  unsignalled_on : (k : Clock) → (goes_on k).unsignalled ≡ (if through k then k.enrolled else k.unsignalled)
  unsignalled_on k = by (through k)
    where
      by : (b : Bool) → (if b then record k { phase = k.phase + 1; unsignalled = k.enrolled } else k).unsignalled ≡ (if b then k.enrolled else k.unsignalled)
      by true = refl
      by false = refl

  -- who has gone on does not go on at once
  once : (k : Clock) → goes_on (goes_on k) ≡ goes_on k
  once k = by (through k) refl
    where
      none : (xs : List Activity) → (not (is_empty xs) && is_empty xs) ≡ false
      none [] = refl
      none (x ∷ xs) = refl

      by : (b : Bool) → through k ≡ b → goes_on (goes_on k) ≡ goes_on k
      by true e =
          let next : Clock = record k { phase = k.phase + 1; unsignalled = k.enrolled } in
          let first : goes_on k ≡ next = ap (λ (c : Bool). if c then next else k) e in
          let second : goes_on next ≡ next =
          ap (λ (c : Bool). if c then record next { phase = next.phase + 1; unsignalled = next.enrolled } else next) (none k.enrolled) in
          ap goes_on first ∙ second ∙ sym first
      by false e =
          let first : goes_on k ≡ k = ap (λ (c : Bool). if c then record k { phase = k.phase + 1; unsignalled = k.enrolled } else k) e in
          ap goes_on first

  pub steady_behind : (s : TextState) → IsSteady (clocks_go_on s)
  steady_behind s p = once (s.clock_of p)

  module _ (names : HaveNames u) (s : TextState) (m : ClockState) (h : Corresponds s m) where
    abbrev T : ℕ
    T = activities u

    same_through : (p : Made) → IsMadeIn u p → through (s.clock_of p) ≡ is_through T m (made_in u p)
    same_through p is =
        let k = s.clock_of p in
        let left = empties u names k.enrolled (m.enrolled (made_in u p)) (λ b e. h.holds.inside b (h.holds.enrolled_in p b e)) (λ b x. h.tells.enrolled p b is x) in
        let right = empties u names k.unsignalled (m.unsignalled (made_in u p)) (λ b e. h.holds.inside b (h.holds.unsignalled_in p b e))
        (λ b x. h.tells.unsignalled p b is x) in
        ap (λ b. b && is_empty k.unsignalled) (sym left)
        ∙ ap (λ b. some_before (m.enrolled (made_in u p)) T && b) (twice (is_empty k.unsignalled) ∙ ap not (sym right))
      where
        twice : (b : Bool) → b ≡ not (not b)
        twice true = refl
        twice false = refl

    tells_on : Tells (clocks_go_on s) (settled T m)
    tells_on =
        record {
          phase = λ p is.
              phase_on (s.clock_of p) ∙ ap (λ b. if b then (s.clock_of p).phase + 1 else (s.clock_of p).phase) (same_through p is)
              ∙ ap (λ n. if is_through T m (made_in u p) then n + 1 else n) (h.tells.phase p is);
          enrolled = λ p a is x. ap (is_in a) (enrolled_on (s.clock_of p)) ∙ h.tells.enrolled p a is x;
          unsignalled = λ p a is x.
              ap (is_in a) (unsignalled_on (s.clock_of p))
              ∙ ap (λ b. is_in a (if b then (s.clock_of p).enrolled else (s.clock_of p).unsignalled)) (same_through p is)
              ∙ either (is_through T m (made_in u p)) p a is x;
          open_set = h.tells.open_set;
          remembers = h.tells.remembers;
          started = h.tells.started;
        }
      where
        either : (b : Bool) (p : Made) (a : Activity) → IsMadeIn u p → IsActivityIn u a →
            is_in a (if b then (s.clock_of p).enrolled else (s.clock_of p).unsignalled)
            ≡ (if b then m.enrolled (made_in u p) (number_in u a) else m.unsignalled (made_in u p) (number_in u a))
        either true p a is x = h.tells.enrolled p a is x
        either false p a is x = h.tells.unsignalled p a is x

    holds_on : Holds (clocks_go_on s)
    holds_on =
        record {
          inside = h.holds.inside;
          enrolled_in = λ p b e. h.holds.enrolled_in p b (ap (is_in b) (sym (enrolled_on (s.clock_of p))) ∙ e);
          unsignalled_in = λ p b e. either (through (s.clock_of p)) p b (ap (is_in b) (sym (unsignalled_on (s.clock_of p))) ∙ e);
          open_in = h.holds.open_in;
          under = h.holds.under;
          fresh = λ p b l.
              let f = h.holds.fresh p b l in (
                ap (is_in b) (enrolled_on (s.clock_of p)) ∙ f.0,
                ap (is_in b) (unsignalled_on (s.clock_of p)) ∙ neither (through (s.clock_of p)) p b f.0 f.1,
              );
          unstarted = h.holds.unstarted;
          children = h.holds.children;
        }
      where
        either : (c : Bool) (p : Made) (b : Activity) → is_in b (if c then (s.clock_of p).enrolled else (s.clock_of p).unsignalled) ≡ true → is_there s b ≡ true
        either true p b e = h.holds.enrolled_in p b e
        either false p b e = h.holds.unsignalled_in p b e

        neither : (c : Bool) (p : Made) (b : Activity) → is_in b (s.clock_of p).enrolled ≡ false → is_in b (s.clock_of p).unsignalled ≡ false →
            is_in b (if c then (s.clock_of p).enrolled else (s.clock_of p).unsignalled) ≡ false
        neither true p b e g = e
        neither false p b e g = g

    pub corresponds_on : Corresponds (clocks_go_on s) (settled T m)
    corresponds_on =
        record {
          tells = tells_on;
          holds = holds_on;
          acts = λ a there.
              on_same (number_in u a) (s.acting a) (m.left (number_in u a)) (registered s a) (registered (clocks_go_on s) a)
              (λ p. ap (is_in a) (enrolled_on (s.clock_of p))) (h.acts a there);
          waits = h.waits;
        }
