-- The runs of the machine on the text, from its opening on, are runs of the machine on moves; and none comes to a fault.
use Rattle.std.proofs.Common.{◌≡◌, ℕ, ◌<◌, Bool, true, false, not, Option, Some, None, Ok, Err, List, [], ◌∷◌, sym, ◌∙◌, ap, subst, refl, ◌⊎◌, inl, inr}
use Rattle.std.specs.List.{list_any}
use Rattle.std.specs.Str.{bytes_eq}
use Rattle.std.specs.Prelude.{◌&&◌, ◌||◌, ◌==◌, if◌then◌else◌, is_some}
use Rattle.std.specs.Option.{option_map}
use Rattle.std.proofs.lemmas.Bool.{false≢true}
use Rattle.std.proofs.lemmas.Option.{unwrap_or-slice_get}
use Rattle.clock_syntax.specs.Trees.{ClockTree}
use Rattle.clock_laws.specs.calls.Direct.{ClockState, clock_step, direct_opening, step_from}
use Rattle.clock_laws.specs.calls.Laws.{IsDirectRun, moves_of}
use Rattle.clock_semantics.specs.Moves.{ActivityStanding}
use Rattle.clock_semantics.specs.Unfolding.{ClockNames, ClockStart, ClockUnfolding, activities, clock_unfolded}
use Rattle.clock_semantics.proofs.MoveCodes.{moves_at}
use Rattle.clock_semantics.specs.calls.ProgramPoints.{before, first_point, last}
use Rattle.clock_laws.specs.calls.TextLaws.{AreSteps, IsToldBy, a_step, no_step, of_text_alone}
use Rattle.clock_laws.specs.TextMachine.{Acting, Activity, Continuation, IsTextRun, Made, TextState, TextStep, and_clocks, and_step, clock_here, clock_or_kind, clocks_here, does_next, fails, goes, is_there, leaves, over, reads, text_opening, text_run, text_step, then_clocks, waits}
use Rattle.clock_laws.specs.TextNumbers.{IsActivityIn, made_in, number_in}
use Rattle.clock_laws.proofs.Corresponding.{ActsAs, Corresponds, Holds, IsClock, IsSteady, Knows, leaves_so, reads_so, registered, target_at}
use Rattle.clock_laws.proofs.EachMakes.{IsMade, is_made, root_begins, whole}
use Rattle.clock_laws.proofs.Makes.{AreNamed, Makes}
use Rattle.clock_laws.proofs.Numbers.{made_have_one, number_inside, number_is_named, one_name}
use Rattle.clock_laws.proofs.Stepped.{Stepped}
use Rattle.clock_laws.proofs.Stepping.{steps_alike}
use Rattle.clock_laws.proofs.Tables.{HaveNames, bytes_swap, is_in, same_activity, same_bytes}

goes_is : (s r : TextState) → ◌≡◌ {A = TextStep} (goes s) (goes r) → s ≡ r
goes_is s r e = cc

start_is : (x y : ClockStart) → ◌≡◌ {A = Option ClockStart} (Some x) (Some y) → x ≡ y
start_is x y e = cc

-- the moves of an activity, in two words
pub same_moves : (u : ClockUnfolding) (t : ℕ) → moves_of u t ≡ moves_at u t
same_moves u t = unwrap_or-slice_get u.moves t []

module _ (p : ClockTree) (u : ClockUnfolding) (e : clock_unfolded p ≡ Ok u) where
  pub have_names : HaveNames u
  have_names = record {
    inside = number_inside p u e;
    one = one_name p u e;
    one_made = made_have_one p u e;
    named = λ t l. let n = number_is_named p u e t l in (n.0, n.1, n.2);
  }

  pub each_made : (t : ℕ) → t < activities u → IsMade u t
  each_made = is_made p u e

  -- ---- the opening

  abbrev s0 : TextState
  s0 = text_opening p

  abbrev m0 : ClockState
  m0 = direct_opening (moves_of u)

  there_is_root : (a : Activity) → is_there s0 a ≡ true → [] ≡ a
  there_is_root a is = by (bytes_eq a []) refl is
    where
      by : (b : Bool) → bytes_eq a [] ≡ b → (bytes_eq a [] || false) ≡ true → [] ≡ a
      by true f is = sym (same_bytes a [] f)
      by false f is = absurd (false≢true (sym (ap (λ o. o || false) f) ∙ is))

  made_first : IsMade u 0
  made_first = each_made 0 (have_names.inside [] tt)

  first_is : made_first.start ≡ whole p u e
  first_is = start_is made_first.start (whole p u e) (sym made_first.begun ∙ root_begins p u e)

  root_acts : ActsAs u 0 (s0.acting []) (m0.left 0) (registered u s0 [])
  root_acts =
      record {
        done = [];
        split = sym (same_moves u 0);
        started = refl;
        made = refl;
        stands = inr (record {
          point = before 1 p (last 0 None);
          names = λ x. None;
          standing = (whole p u e).known.standing;
          fits = reads_so leaves_so;
          makes =
              subst (Makes u (before 1 p (last 0 None)) (λ x. None) (whole p u e).known.standing) (sym (same_moves u 0))
              (subst (λ (o : ClockStart). Makes u (first_point o) o.known.names o.known.standing (moves_at u 0)) first_is made_first.makes);
          knows = record {
            named = λ y. refl;
            clocks = λ y q f. absurd cc;
            members = λ q fine. refl;
            pending = λ q fine n. refl;
            finishes = tt;
          };
        });
      }

  opening_corresponds : Corresponds u s0 m0
  opening_corresponds =
      record {
        tells = record {
          phase = λ q is. refl;
          enrolled = λ q a is x. refl;
          unsignalled = λ q a is x. refl;
          open_set = λ q a is x. refl;
          remembers = λ q a is x. refl;
          started = λ a x.
              ap (λ o. o || false) (bytes_swap a [] ∙ same_activity u have_names [] a tt x) ∙ by (number_in u a == 0);
        };
        holds = record {
          inside = λ a is. subst (IsActivityIn u) (there_is_root a is) tt;
          enrolled_in = λ q b f. absurd (false≢true f);
          unsignalled_in = λ q b f. absurd (false≢true f);
          open_in = λ q b f. absurd (false≢true f);
          under = λ q b f. absurd (false≢true f);
          fresh = λ q b l. (refl, refl);
          unstarted = λ a is. nobody a (bytes_eq [] a) refl is;
          children = λ k a is. absurd (let f = there_is_root (k ∷ a) is in cc);
        };
        acts = λ a is.
            subst (λ b. ActsAs u (number_in u b) (s0.acting b) (m0.left (number_in u b)) (registered u s0 b)) (there_is_root a is) root_acts;
        waits = λ a x is. same_moves u (number_in u a);
      }
    where
      by : (b : Bool) → (b || false) ≡ b
      by true = refl
      by false = refl

      nobody : (a : Activity) (b : Bool) → bytes_eq [] a ≡ b → is_there s0 a ≡ false → s0.acting a ≡ record { rest = over; names = λ x. None; remembers = λ q. None; started = 0; made = 0 }
      nobody a true f is = absurd (false≢true (sym is ∙ ap (λ o. o || false) (bytes_swap a [] ∙ f)))
      nobody a false f is = ap (λ o. record { rest = if o then reads p (leaves None) else over; names = λ x. None; remembers = λ q. None; started = 0; made = 0 }) f

  -- ---- runs

  -- where a run has come, in both machines
  pub record Runs (steps : List Activity) (s : TextState) : Type 0 where
    pub ts : List ℕ
    pub m : ClockState
    pub are : AreSteps u steps ts
    pub run : IsDirectRun u ts m
    pub both : Corresponds u s m
    pub steady : IsSteady u s

  -- who is not there makes no step
  pub none_goes : (s : TextState) (a : Activity) → Holds u s → is_there s a ≡ false → text_step a s ≡ waits
  none_goes s a holds is = ap (λ (x : Acting). then_clocks (does_next a x.rest s)) (holds.unstarted a is)

  steps_on : (steps : List Activity) (a : Activity) (v r : TextState) → Runs steps v → text_step a v ≡ goes r → Runs (a ∷ steps) r
  steps_on steps a v r h step = by (is_there v a) refl
    where
      how :
          (there : is_there v a ≡ true) (st : Stepped u have_names v h.m h.both h.steady a there r) →
          (st.after ≡ h.m) ⊎ (clock_step (activities u) (number_in u a) h.m ≡ Some st.after) → Runs (a ∷ steps) r
      how there st (inl same) =
          record { ts = h.ts; m = st.after; are = of_text_alone a h.are; run = h.run ∙ ap (λ z. Some z) (sym same); both = st.both; steady = st.rests }
      how there st (inr made) =
          record {
            ts = number_in u a ∷ h.ts;
            m = st.after;
            are = a_step a h.are;
            run = ap (step_from (activities u) (number_in u a)) h.run ∙ made;
            both = st.both;
            steady = st.rests;
          }

      by : (b : Bool) → is_there v a ≡ b → Runs (a ∷ steps) r
      by true there = let st = steps_alike u have_names each_made v h.m h.both h.steady a there r step in how there st st.how
      by false none = absurd (let z = sym (none_goes v a h.both.holds none) ∙ step in cc)

  pub runs : (steps : List Activity) (s : TextState) → IsTextRun p steps s → Runs steps s
  runs [] s is =
      subst (Runs []) (goes_is s0 s is)
      (record { ts = []; m = m0; are = no_step; run = refl; both = opening_corresponds; steady = λ q. refl })
  runs (a ∷ steps) s is = by (text_run s0 steps) refl is (λ v earlier. runs steps v earlier)
    where
      by : (o : TextStep) → text_run s0 steps ≡ o → and_step a o ≡ goes s → ((v : TextState) → text_run s0 steps ≡ goes v → Runs steps v) → Runs (a ∷ steps) s
      by (goes v) earlier step rest = steps_on steps a v s (rest v earlier) step
      by waits earlier step rest = absurd cc
      by (fails k) earlier step rest = absurd cc

  pub told : (s : TextState) (m : ClockState) → Corresponds u s m → IsToldBy u s m
  told s m h = record {
    inside = h.holds.inside;
    started = h.tells.started;
    phase = h.tells.phase;
    enrolled = h.tells.enrolled;
    unsignalled = h.tells.unsignalled;
    open_set = h.tells.open_set;
    remembers = h.tells.remembers;
  }

-- ---- no run fails

module _ (u : ClockUnfolding) (s : TextState) (m : ClockState) (h : Corresponds u s m) (a : Activity) where
  abbrev x : Acting
  x = s.acting a

  -- a name stands for a clock, by the text
  named_clock : (o : Option Made) (p : ℕ) → Some p ≡ option_map (made_in u) o → (q : Made) × (o ≡ Some q) × (p ≡ made_in u q)
  named_clock None p e = absurd cc
  named_clock (Some q) p e = (q, refl, cc)

  -- where no test fails, a look-up finds the clock
  looked_up :
      (idle : Bool) (earlier : List (List ℕ)) (name : List ℕ) (q : Made) → x.names name ≡ Some q → is_in a (s.clock_of q).enrolled ≡ true →
      list_any (bytes_eq name) earlier ≡ false → (idle && is_some (x.remembers q)) ≡ false → clock_here idle earlier name a s ≡ Ok q
  looked_up idle earlier name q named on once rested =
      ap (clock_or_kind idle earlier name a s) named
      ∙ ap (λ o. if not o then Err 2 else (if list_any (bytes_eq name) earlier then Err 3 else (if idle && is_some (x.remembers q) then Err 4 else Ok q))) on
      ∙ ap (λ o. if o then Err 3 else (if idle && is_some (x.remembers q) then Err 4 else Ok q)) once
      ∙ ap (λ o. if o then Err 4 else Ok q) rested

  module _ (c : Continuation) (ns : ClockNames) (standing : ActivityStanding) (knows : Knows u x c ns standing (registered u s a)) where
    -- the clock of a name of the unfolding
    pub found_here :
        (idle : Bool) (earlier : List (List ℕ)) (name : List ℕ) (p : ℕ) → ns name ≡ Some p → standing.members p ≡ true → list_any (bytes_eq name) earlier ≡ false →
        (idle ≡ true → (target_at u x c ≡ None) × (standing.pending p ≡ false)) →
        (q : Made) × (x.names name ≡ Some q) × (p ≡ made_in u q) × (clock_here idle earlier name a s ≡ Ok q)
    found_here idle earlier name p named on once rested =
        let q = named_clock (x.names name) p (sym named ∙ knows.named name) in
        let fine = knows.clocks name q.0 q.1 in (
          q.0,
          q.1,
          q.2,
          looked_up idle earlier name q.0 q.1 (sym (knows.members q.0 fine) ∙ ap standing.members (sym q.2) ∙ on) once (by idle refl q.0 fine q.2),
        )
      where
        by : (b : Bool) → idle ≡ b → (q : Made) → IsClock u q → p ≡ made_in u q → (idle && is_some (x.remembers q)) ≡ false
        by true e q fine same =
            let r = rested e in
            ap (λ o. o && is_some (x.remembers q)) e
            ∙ sym (knows.pending q fine (λ t. absurd (let z = sym r.0 ∙ t in cc))) ∙ ap standing.pending (sym same) ∙ r.1
        by false e q fine same = ap (λ o. o && is_some (x.remembers q)) e

    pub all_found :
        (earlier xs : List (List ℕ)) (ps : List ℕ) → AreNamed ns standing earlier xs ps → target_at u x c ≡ None →
        (qs : List Made) × (clocks_here earlier xs a s ≡ Ok qs)
    all_found earlier [] [] named target = ([], refl)
    all_found earlier [] (p ∷ ps) named target = absurd named
    all_found earlier (y ∷ xs) [] named target = absurd named
    all_found earlier (y ∷ xs) (p ∷ ps) named target =
        let q = found_here true earlier y p named.0 named.1 named.2 (λ e. (target, named.3)) in
        let qs = all_found (y ∷ earlier) xs ps named.4 target in
        (q.0 ∷ qs.0, ap (λ o. and_clocks o (clocks_here (y ∷ earlier) xs a s)) q.3 ∙ ap (and_clocks (Ok q.0)) qs.1)
