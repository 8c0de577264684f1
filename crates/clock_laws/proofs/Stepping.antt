-- Each step of the machine on the text is one of the machine on moves, or it is silent there.
use Rattle.std.proofs.Common.{◌≡◌, ℕ, suc, ◌+◌, ◌<◌, Bool, true, false, not, Option, Some, None, List, [], ◌∷◌, sym, ◌∙◌, ap, subst, refl, ◌⊎◌, inl, inr}
use Rattle.std.specs.Prelude.{if◌then◌else◌, nat_lt}
use Rattle.std.specs.Option.{option_map}
use Rattle.clock_syntax.specs.Trees.{ClockTree, advance, async, clock, clock_count, done, drop, finish, loop, plain, resume, skip}
use Rattle.clock_laws.specs.calls.Direct.{ClockState, advance_of, departing, departing_all, enrolling_all, forgetting, going, joining, move_of, opening_clock, signalling, starting}
use Rattle.clock_semantics.specs.Moves.{Move, ActivityStanding, advances, begins, drops, ends, opens, registered_on, resumes, starts, stops, unregistered_from, with_pending}
use Rattle.clock_semantics.specs.Unfolding.{ClockNames, ClockUnfolding, activities, innermost}
use Rattle.clock_semantics.specs.calls.ProgramPoints.{ProgramPoint, before, closing, finishes_around, turning}
use Rattle.clock_laws.specs.TextMachine.{Acting, Activity, Continuation, Made, TextState, advance_on, clock_here, clocks_here, closes, departs, departs_from_all, does_next, goes, goes_to, governing, is_empty, is_there, has_made, leaves, opens_clock, next_made, over, reads, remembering, signals, text_step, then_clocks, turns, waits, with_open_set, without_activity}
use Rattle.clock_laws.specs.TextMachine.{starts_one as starts_one_text}
use Rattle.clock_laws.specs.TextNumbers.{IsActivityIn, made_in, number_in}
use Rattle.clock_laws.proofs.BehindSignals.{drops_now, passes_now}
use Rattle.clock_laws.proofs.Corresponding.{Corresponds, Fits, IsClock, IsSteady, Knows, Stands, closes_so, leaves_so, reads_so, registered, turns_so}
use Rattle.clock_laws.proofs.EachMakes.{IsMade}
use Rattle.clock_laws.proofs.Makes.{IsStart, Makes, advances_on, begins_one, drops_from, ends_one, has_read, has_turned, loops, opens_one, resumes_on, skips, starts_one, stops_here, turns_on}
use Rattle.clock_laws.proofs.MakingOne.{number, opens_now}
use Rattle.clock_laws.proofs.NextNames.{next_number}
use Rattle.clock_laws.proofs.OnFinishes.{begins_now, ends_now, stops_now}
use Rattle.clock_laws.proofs.OnOneClock.{inside, resumes_now, signals_here}
use Rattle.clock_laws.proofs.Starting.{governs_alike}
use Rattle.clock_laws.proofs.StartingOne.{are_clocks, starts_now}
use Rattle.clock_laws.proofs.Stepped.{Stepped, clock_found, clocks_found, found, moves_on, real, silent}
use Rattle.clock_laws.proofs.Tables.{HaveNames, empties}

number_is : (p q : ℕ) → ◌≡◌ {A = Option ℕ} (Some p) (Some q) → p ≡ q
number_is p q e = cc

module _ (u : ClockUnfolding) (names : HaveNames u) (each : (t : ℕ) → t < activities u → IsMade u t) (s : TextState) (m : ClockState) (h : Corresponds u s m)
    (steady : IsSteady u s) (a : Activity) (there : is_there s a ≡ true) where
  abbrev t : ℕ
  t = number_in u a

  abbrev x : Acting
  x = s.acting a

  abbrev T : ℕ
  T = activities u

  abbrev here : IsActivityIn u a
  here = inside u names s m h a there

  abbrev Step : TextState → Type 0
  Step r = Stepped u names s m h steady a there r

  -- the move that comes next
  next_is : (left : List Move) → m.left t ≡ left → (o : Option ClockState) → move_of T t left m ≡ o → move_of T t (m.left t) m ≡ o
  next_is left is o e = ap (λ ms. move_of T t ms m) is ∙ e

  -- the clock of a name by the text and by its number
  same_clock : (c : Continuation) (ns : ClockNames) (standing : ActivityStanding) → Knows u x c ns standing (registered u s a) → (name : List ℕ) (p : ℕ) (q : Made) → ns name ≡ Some p →
      x.names name ≡ Some q → p ≡ made_in u q
  same_clock c ns standing knows name p q named is = number_is p (made_in u q) (sym named ∙ knows.named name ∙ ap (option_map (made_in u)) is)

  -- ---- an advance

  module _ (n : ℕ) (name : List ℕ) (more : ClockTree) (rest : Continuation) (point : ProgramPoint) (ns : ClockNames) (standing : ActivityStanding) (p : ℕ) (ms : List Move)
      (fits : Fits u point rest) (named : ns name ≡ Some p) (on : standing.members p ≡ true) (makes_on : Makes u (before (n + 1) more point) ns (with_pending p false standing) ms)
      (knows : Knows u x (reads (plain (advance name) more) rest) ns standing (registered u s a)) (rest_is : x.rest ≡ reads (plain (advance name) more) rest)
      (left_is : m.left t ≡ advances p ∷ ms) (r : TextState) (q : Made) (names_it : x.names name ≡ Some q) where
    abbrev c : Continuation
    c = reads (plain (advance name) more) rest

    abbrev d : Continuation
    d = reads more rest

    it_is : IsClock u q
    it_is = knows.clocks name q names_it

    number_of : p ≡ made_in u q
    number_of = same_clock c ns standing knows name p q named names_it

    next_of : (o : Option ℕ) → x.remembers q ≡ o → move_of T t (m.left t) m ≡ advance_of t (made_in u q) ms o m
    next_of o is =
        ap (λ zs. move_of T t zs m) left_is ∙ ap (λ z. advance_of t z ms (m.remembered z t) m) number_of
        ∙ ap (λ z. advance_of t (made_in u q) ms z m) (sym (h.tells.remembers q a it_is.0 here) ∙ is)

    by_phase :
        (k : ℕ) → x.remembers q ≡ Some k → (b : Bool) → nat_lt k (s.clock_of q).phase ≡ b →
        then_clocks (if nat_lt k (s.clock_of q).phase then goes (goes_to a d (remembering a q None s)) else waits) ≡ goes r → Step r
    by_phase k is true e step =
        real u names s m h steady a there (goes_to a d (remembering a q None s)) r (going t ms (forgetting t (made_in u q) m))
        (next_of (Some k) is
        ∙ ap (λ z. if nat_lt k z then Some (going t ms (forgetting t (made_in u q) m)) else None) (sym (h.tells.phase q it_is.0))
        ∙ ap (λ z. if z then Some (going t ms (forgetting t (made_in u q) m)) else None) e)
        (passes_now u names s m h a there q it_is c (advances p ∷ ms) (before n (plain (advance name) more) point) ns standing rest_is left_is knows d (before (n + 1) more point) ms
        (reads_so fits) knows.finishes refl (ap (λ z. advances z ∷ ms) number_of)
        (subst (λ z. Makes u (before (n + 1) more point) ns (with_pending z false standing) ms) number_of makes_on) names_it)
        (sym (ap (λ z. then_clocks (if z then goes (goes_to a d (remembering a q None s)) else waits)) e) ∙ step)
    by_phase k is false e step =
        absurd (let z = sym (ap (λ z. then_clocks (if z then goes (goes_to a d (remembering a q None s)) else waits)) e) ∙ step in cc)

    by_memory : (o : Option ℕ) → x.remembers q ≡ o → then_clocks (advance_on a d s q o) ≡ goes r → Step r
    by_memory None is step =
        real u names s m h steady a there (signals a q s) r (signalling t (made_in u q) m) (next_of None is)
        (signals_here u names s m h a there q it_is c (advances p ∷ ms) (before n (plain (advance name) more) point) ns standing rest_is left_is knows (reads_so fits)
        (advances_on p named on makes_on) names_it names_it)
        step
    by_memory (Some k) is step = by_phase k is (nat_lt k (s.clock_of q).phase) refl step

    advances_case : then_clocks (advance_on a d s q (x.remembers q)) ≡ goes r → Step r
    advances_case step = by_memory (x.remembers q) refl step

  -- the number of a finish that begins
  begun_of : (c : Continuation) (ns : ClockNames) (standing : ActivityStanding) → Knows u x c ns standing (registered u s a) → x.rest ≡ c → (q : ℕ) (ms : List Move) →
      m.left t ≡ begins q ∷ ms → made_in u (next_made a s) ≡ q
  begun_of c ns standing knows rest_is q ms left_is =
      next_number u a x here (m.left t) (registered u s a) (h.acts a there) (begins q) ms left_is q false refl refl

  -- ---- an end of a finish

  closes_case :
      (n : ℕ) (f : Made) (rest : Continuation) (point : ProgramPoint) (ns : ClockNames) (standing : ActivityStanding) (ms : List Move) → Fits u point rest →
      Makes u point ns (unregistered_from (made_in u f) standing) ms → Knows u x (closes f rest) ns standing (registered u s a) → x.rest ≡ closes f rest →
      m.left t ≡ ends (made_in u f) ∷ ms → (r : TextState) → then_clocks (if is_empty (s.open_set f) then goes (goes_to a rest s) else waits) ≡ goes r → Step r
  closes_case n f rest point ns standing ms fits makes_on knows rest_is left_is r step = by (is_empty (s.open_set f)) refl
    where
      by : (b : Bool) → is_empty (s.open_set f) ≡ b → Step r
      by true e =
          real u names s m h steady a there (goes_to a rest s) r (going t ms m)
          (ap (λ zs. move_of T t zs m) left_is
          ∙ ap (λ z. if z then None else Some (going t ms m))
          (empties u names (s.open_set f) (m.open_set (made_in u f)) (λ b o. h.holds.inside b (h.holds.open_in f b o)) (λ b y. h.tells.open_set f b knows.finishes.0.0 y)
          ∙ ap not e))
          (ends_now u names s m h a there (closes f rest) (ends (made_in u f) ∷ ms) ns standing rest_is left_is knows refl rest point ms fits refl f knows.finishes.0 refl
          knows.finishes.1 makes_on)
          (sym (ap (λ z. then_clocks (if z then goes (goes_to a rest s) else waits)) e) ∙ step)
      by false e = absurd (let z = sym (ap (λ z. then_clocks (if z then goes (goes_to a rest s) else waits)) e) ∙ step in cc)

  -- ---- each kind of step

  by_makes :
      {point : ProgramPoint} {c : Continuation} {ns : ClockNames} {standing : ActivityStanding} {left : List Move} → Fits u point c → Makes u point ns standing left →
      Knows u x c ns standing (registered u s a) → x.rest ≡ c → m.left t ≡ left → (r : TextState) → then_clocks (does_next a c s) ≡ goes r → Step r
  by_makes {ns = ns} {standing = standing} {left = left} (reads_so {point = point} {rest = rest} fits) (has_read makes_on) knows rest_is left_is r step =
      silent u names s m h steady a there (goes_to a rest s) r
      (moves_on u names s m h steady a there (reads done rest) left (before 0 done point) ns standing rest_is left_is knows rest point fits makes_on knows.finishes refl refl)
      (λ p. refl) step
  by_makes {ns = ns} {standing = standing} {left = left} (turns_so {body = body} {point = point} {rest = rest} fits) (has_turned makes_on) knows rest_is left_is r step =
      silent u names s m h steady a there (goes_to a rest s) r
      (moves_on u names s m h steady a there (turns 0 body rest) left point ns standing rest_is left_is knows rest point fits makes_on knows.finishes refl refl)
      (λ p. refl) step
  by_makes {ns = ns} {standing = standing} {left = left} (reads_so {n = n} {point = point} {rest = rest} fits) (skips {more = more} makes_on) knows rest_is left_is r step =
      silent u names s m h steady a there (goes_to a (reads more rest) s) r
      (moves_on u names s m h steady a there (reads (plain skip more) rest) left point ns standing rest_is left_is knows (reads more rest) (before (n + 1) more point)
      (reads_so fits) makes_on knows.finishes refl refl)
      (λ p. refl) step
  by_makes {ns = ns} {standing = standing} {left = left} (reads_so {n = n} {point = point} {rest = rest} fits) (loops {k = k} {body = body} {more = more} makes_on) knows rest_is left_is r step =
      silent u names s m h steady a there (goes_to a (turns k body (reads more rest)) s) r
      (moves_on u names s m h steady a there (reads (loop k body more) rest) left point ns standing rest_is left_is knows (turns k body (reads more rest))
      (turning n k body (before (n + 1 + clock_count body) more point)) (turns_so (reads_so fits)) makes_on knows.finishes refl refl)
      (λ p. refl) step
  by_makes {ns = ns} {standing = standing} {left = left} (turns_so {n = n} {body = body} {point = point} {rest = rest} fits) (turns_on {k = k} makes_on) knows rest_is left_is r step =
      silent u names s m h steady a there (goes_to a (reads body (turns k body rest)) s) r
      (moves_on u names s m h steady a there (turns (suc k) body rest) left point ns standing rest_is left_is knows (reads body (turns k body rest))
      (before (n + 1) body (turning n k body point)) (reads_so (turns_so fits)) makes_on knows.finishes refl refl)
      (λ p. refl) step
  by_makes {ns = ns} {standing = standing} (reads_so {n = n} {point = point} {rest = rest} fits) (opens_one {x = name} {more = more} {ms = ms} q makes_on) knows rest_is left_is r step =
      let c : Continuation = reads (plain (clock name) more) rest in
      let d : Continuation = reads more rest in
      let at : ProgramPoint = before (n + 1) more point in
      let of = number u names s m h a there c (opens q ∷ ms) ns standing rest_is left_is knows refl d at ms (reads_so fits) refl name q refl knows.finishes makes_on in
      real u names s m h steady a there (opens_clock a name (next_made a s) (goes_to a d s)) r (going t ms (opening_clock t (made_in u (next_made a s)) m))
      (ap (λ zs. move_of T t zs m) left_is ∙ ap (λ z. Some (going t ms (opening_clock t z m))) (sym of))
      (opens_now u names s m h a there c (opens q ∷ ms) ns standing rest_is left_is knows refl d at ms (reads_so fits) refl name q refl knows.finishes makes_on)
      step
  by_makes {ns = ns} {standing = standing} (reads_so {n = n} {point = point} {rest = rest} fits) (advances_on {x = name} {more = more} {ms = ms} p named on makes_on) knows rest_is left_is r step =
      let g = found s a (λ q. advance_on a (reads more rest) s q (x.remembers q)) (clock_here false [] name a s) r step in
      advances_case n name more rest point ns standing p ms fits named on makes_on knows rest_is left_is r g.0 (clock_found s a false [] name g.0 g.1) g.2
  by_makes {ns = ns} {standing = standing} (reads_so {n = n} {point = point} {rest = rest} fits) (resumes_on {x = name} {more = more} {ms = ms} p named on idle makes_on) knows rest_is left_is r step =
      let c : Continuation = reads (plain (resume name) more) rest in
      let d : Continuation = reads more rest in
      let g = found s a (λ q. goes (goes_to a d (signals a q s))) (clock_here true [] name a s) r step in
      let it = clock_found s a true [] name g.0 g.1 in
      let of = same_clock c ns standing knows name p g.0 named it in
      real u names s m h steady a there (goes_to a d (signals a g.0 s)) r (going t ms (signalling t (made_in u g.0) m))
      (ap (λ zs. move_of T t zs m) left_is ∙ ap (λ z. Some (going t ms (signalling t z m))) of)
      (resumes_now u names s m h a there g.0 (knows.clocks name g.0 it) c (resumes p ∷ ms) point ns standing rest_is left_is knows d (before (n + 1) more point) ms
      (ap (λ z. resumes z ∷ ms) of) (reads_so fits) (subst (λ z. Makes u (before (n + 1) more point) ns (with_pending z true standing) ms) of makes_on) knows.finishes refl refl)
      g.2
  by_makes {ns = ns} {standing = standing} (reads_so {n = n} {point = point} {rest = rest} fits) (drops_from {x = name} {more = more} {ms = ms} p named on makes_on) knows rest_is left_is r step =
      let c : Continuation = reads (plain (drop name) more) rest in
      let d : Continuation = reads more rest in
      let g = found s a (λ q. goes (goes_to a d (departs a q s))) (clock_here false [] name a s) r step in
      let it = clock_found s a false [] name g.0 g.1 in
      let of = same_clock c ns standing knows name p g.0 named it in
      real u names s m h steady a there (goes_to a d (departs a g.0 s)) r (going t ms (departing t (made_in u g.0) m))
      (ap (λ zs. move_of T t zs m) left_is ∙ ap (λ z. Some (going t ms (departing t z m))) of)
      (drops_now u names s m h a there g.0 (knows.clocks name g.0 it) c (drops p ∷ ms) point ns standing rest_is left_is knows d (before (n + 1) more point) ms (reads_so fits)
      knows.finishes refl (ap (λ z. drops z ∷ ms) of) (subst (λ z. Makes u (before (n + 1) more point) ns (unregistered_from z standing) ms) of makes_on) refl)
      g.2
  by_makes {ns = ns} {standing = standing} (reads_so {n = n} {point = point} {rest = rest} fits) (starts_one {xs = xs} {body = body} {more = more} {ms = ms} number ps start named begun is_start makes_on) knows rest_is left_is r step =
      let c : Continuation = reads (async xs body more) rest in
      let d : Continuation = reads more rest in
      let g = found s a (λ qs. goes (starts_one_text a body qs d s)) (clocks_here [] xs a s) r step in
      let are = are_clocks u names each s m h a there c (starts number ps (innermost (finishes_around point)) ∷ ms) ns standing rest_is left_is knows refl [] xs ps g.0 named
      (clocks_found s a [] xs g.0 g.1) in
      let f = governing d in
      let alike : innermost (finishes_around point) ≡ option_map (made_in u) f = governs_alike u names fits in
      real u names s m h steady a there (starts_one_text a body g.0 d s) r
      (going t ms (starting number (joining (option_map (made_in u) f) number (enrolling_all number ps m))))
      (ap (λ zs. move_of T t zs m) left_is ∙ ap (λ z. Some (going t ms (starting number (joining z number (enrolling_all number ps m))))) alike)
      (starts_now u names each s m h a there c (starts number ps (innermost (finishes_around point)) ∷ ms) ns standing rest_is left_is knows refl d
      (before (n + 1 + clock_count body) more point) body number ps g.0 start ms are begun f refl
      (subst (λ z. IsStart start body ns ps z) alike is_start) (ap (λ z. starts number ps z ∷ ms) alike) (reads_so fits) knows.finishes refl makes_on)
      g.2
  by_makes {ns = ns} {standing = standing} (reads_so {n = n} {point = point} {rest = rest} fits) (begins_one {body = body} {more = more} {ms = ms} q makes_on) knows rest_is left_is r step =
      let c : Continuation = reads (finish body more) rest in
      let f = next_made a s in
      let d : Continuation = reads body (closes f (reads more rest)) in
      let behind : ProgramPoint = before (n + 1 + clock_count body) more point in
      let at : ProgramPoint = before (n + 1) body (closing n (made_in u f) behind) in
      let of : made_in u f ≡ q = begun_of c ns standing knows rest_is q ms left_is in
      real u names s m h steady a there (goes_to a d (has_made a s)) r (going t ms m)
      (ap (λ zs. move_of T t zs m) left_is)
      (begins_now u names s m h a there c (begins q ∷ ms) ns standing rest_is left_is knows refl d at ms (reads_so (closes_so (reads_so fits))) refl q refl
      (λ fin. (fin, knows.finishes)) (subst (λ z. Makes u (before (n + 1) body (closing n z behind)) ns (registered_on q standing) ms) (sym of) makes_on))
      step
  by_makes {ns = ns} {standing = standing} (closes_so {n = n} {f = f} {point = point} {rest = rest} fits) (ends_one {ms = ms} makes_on) knows rest_is left_is r step =
      closes_case n f rest point ns standing ms fits makes_on knows rest_is left_is r step
  by_makes {ns = ns} {standing = standing} (leaves_so {f = f}) (stops_here ps) knows rest_is left_is r step =
      real u names s m h steady a there (goes_to a over (with_open_set f (without_activity a) (departs_from_all a s))) r (going t [] (departing_all t m))
      (ap (λ zs. move_of T t zs m) left_is)
      (stops_now u names s m h a there (leaves f) (stops ps ∷ []) ns standing rest_is left_is knows refl f refl ps refl)
      step

  by_stands :
      (((x.rest ≡ over) × (m.left t ≡ [])) ⊎ Stands u x x.rest (m.left t) (registered u s a)) → (r : TextState) → text_step a s ≡ goes r → Step r
  by_stands (inl ended) r step = absurd (let z = sym (ap (λ c. then_clocks (does_next a c s)) ended.0) ∙ step in cc)
  by_stands (inr st) r step = by_makes st.fits st.makes st.knows refl refl r step

  pub steps_alike : (r : TextState) → text_step a s ≡ goes r → Step r
  steps_alike r step = by_stands (h.acts a there).stands r step
