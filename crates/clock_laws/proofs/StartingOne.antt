-- An activity that starts another one, in both machines.
use Rattle.std.proofs.Common.{◌≡◌, ◌≢◌, ℕ, ◌+◌, ◌<◌, ◌≤◌, Bool, true, false, Option, Some, None, List, [], ◌∷◌, ◌++◌, arith, sym, ◌∙◌, ap, subst, refl, ◌⊎◌, inl, inr}
use Rattle.std.specs.List.{list_any}
use Rattle.std.specs.Str.{bytes_eq}
use Rattle.std.specs.Prelude.{◌-◌, ◌&&◌, ◌||◌, ◌==◌, if◌then◌else◌, map, option_to_list, slice_get}
use Rattle.std.specs.Option.{option_map}
use Rattle.std.proofs.lemmas.Bool.{eqb-true, eq-eqb, false≢true}
use Rattle.armus_base.specs.States.{updated}
use Rattle.clock_syntax.specs.Trees.{ClockTree}
use Rattle.clock_laws.specs.calls.Direct.{ClockState, enrolling_all, going, joining, starting, with_entry}
use Rattle.clock_semantics.specs.Moves.{Move, ActivityStanding, starts}
use Rattle.clock_semantics.specs.Unfolding.{ClockNames, ClockStart, ClockUnfolding, activities, innermost}
use Rattle.clock_semantics.proofs.MoveCodes.{moves_at}
use Rattle.clock_semantics.specs.calls.ProgramPoints.{ProgramPoint, before, first_point, last}
use Rattle.clock_laws.specs.TextMachine.{Acting, Activity, Clock, Continuation, Made, TextState, acts, beginning, enrols_on, governing, is_made, is_there, leaves, over, reads, with_open_set}
use Rattle.clock_laws.specs.TextNumbers.{IsActivityIn, IsMadeIn, made_in, number_in}
use Rattle.clock_laws.proofs.Changing.{acts_other, acts_own, this_or_other}
use Rattle.clock_laws.proofs.Corresponding.{ActsAs, Corresponds, Finishes, Fits, Holds, IsClock, IsFinish, Knows, Tells, bottom, is_clock, leaves_so, on_same, reads_so, registered, target_at}
use Rattle.clock_laws.proofs.EachMakes.{IsMade}
use Rattle.clock_laws.proofs.Makes.{AreNamed, IsStart, Makes}
use Rattle.clock_laws.proofs.NextNames.{next_child, next_is_there}
use Rattle.clock_laws.proofs.OnOneClock.{inside, left_other, left_own}
use Rattle.clock_laws.proofs.Stepped.{StandFor, done_more}
use Rattle.clock_laws.proofs.Tables.{Agrees, HaveNames, bytes_itself, entry_agrees, in_more, is_in, made_itself, made_same, other_bytes, other_made, same_activity, same_bytes, same_made, same_test}
use Rattle.clock_laws.proofs.Starting.{Tables, enrols_acting, enrols_agree, enrols_in, enrols_leave, enrols_open, enrols_there, governed_by_finish, stands_in}

-- this finish, if it is one, is that one
abbrev governs_so : Option Made → Made → Bool
governs_so None q = false
governs_so (Some f) q = is_made f q

-- ---- an open set gains an activity

open_acting : (f : Option Made) (k : Activity) (s : TextState) → (with_open_set f (λ cs. k ∷ cs) s).acting ≡ s.acting
open_acting None k s = refl
open_acting (Some f) k s = refl

open_clocks : (f : Option Made) (k : Activity) (s : TextState) → (with_open_set f (λ cs. k ∷ cs) s).clock_of ≡ s.clock_of
open_clocks None k s = refl
open_clocks (Some f) k s = refl

open_there : (f : Option Made) (k : Activity) (s : TextState) → (with_open_set f (λ cs. k ∷ cs) s).there ≡ s.there
open_there None k s = refl
open_there (Some f) k s = refl

open_in : (f : Option Made) (k : Activity) (s : TextState) (q : Made) (b : Activity) →
    is_in b ((with_open_set f (λ cs. k ∷ cs) s).open_set q) ≡ (if governs_so f q && bytes_eq k b then true else is_in b (s.open_set q))
open_in None k s q b = refl
open_in (Some f) k s q b = by (is_made f q) refl
  where
    by : (c : Bool) → is_made f q ≡ c →
        is_in b (if c then k ∷ s.open_set f else s.open_set q) ≡ (if c && bytes_eq k b then true else is_in b (s.open_set q))
    by true e = in_more k b (s.open_set f) ∙ ap (λ z. if bytes_eq k b then true else is_in b (s.open_set z)) (made_same f q e)
    by false e = refl

start_is : (x y : ClockStart) → ◌≡◌ {A = Option ClockStart} (Some x) (Some y) → x ≡ y
start_is x y e = cc

number_is : (p q : ℕ) → ◌≡◌ {A = Option ℕ} (Some p) (Some q) → p ≡ q
number_is p q e = cc

made_is : (p q : Made) → ◌≡◌ {A = Option Made} (Some p) (Some q) → p ≡ q
made_is p q e = cc

or_true : (x y : Bool) → (x || y) ≡ true → (x ≡ true) ⊎ (y ≡ true)
or_true true y e = inl refl
or_true false y e = inr e

module _ (u : ClockUnfolding) (names : HaveNames u) (each : (t : ℕ) → t < activities u → IsMade u t) (s : TextState) (m : ClockState) (h : Corresponds u s m)
    (a : Activity) (there : is_there s a ≡ true) (c : Continuation) (left : List Move) (ns : ClockNames) (standing : ActivityStanding)
    (rest_is : (s.acting a).rest ≡ c) (left_is : m.left (number_in u a) ≡ left) (knows : Knows u (s.acting a) c ns standing (registered u s a))
    (target : target_at u (s.acting a) c ≡ None) where
  abbrev t : ℕ
  t = number_in u a

  abbrev x : Acting
  x = s.acting a

  abbrev here : IsActivityIn u a
  here = inside u names s m h a there

  -- the clocks of the names: by the text and by the numbers, each with the actor registered
  pub record AreClocks (ps : List ℕ) (qs : List Made) : Type 0 where
    pub numbers : ps ≡ map (made_in u) qs
    pub clocks : (q : Made) → stands_in q qs ≡ true → IsClock u q × (is_in a (s.clock_of q).enrolled ≡ true)

  pub are_clocks : (earlier xs : List (List ℕ)) (ps : List ℕ) (qs : List Made) → AreNamed ns standing earlier xs ps → StandFor s a xs qs → AreClocks ps qs
  are_clocks earlier [] [] [] named stand = record { numbers = refl; clocks = λ q e. absurd (false≢true e) }
  are_clocks earlier [] (p ∷ ps) qs named stand = absurd named
  are_clocks earlier [] [] (q ∷ qs) named stand = absurd stand
  are_clocks earlier (y ∷ xs) [] qs named stand = absurd named
  are_clocks earlier (y ∷ xs) (p ∷ ps) [] named stand = absurd stand
  are_clocks earlier (y ∷ xs) (p ∷ ps) (q ∷ qs) named stand =
      let rest = are_clocks (y ∷ earlier) xs ps qs named.4 stand.1 in
      let number : p ≡ made_in u q =
      number_is p (made_in u q) (sym named.0 ∙ knows.named y ∙ ap (option_map (made_in u)) stand.0) in
      let clock = knows.clocks y q stand.0 in
      let on : is_in a (s.clock_of q).enrolled ≡ true = sym (knows.members q clock) ∙ ap standing.members (sym number) ∙ named.1 in
      record {
        numbers = ap (λ z. z ∷ ps) number ∙ ap (λ zs. made_in u q ∷ zs) rest.numbers;
        clocks = λ r e. elim (or_true (is_made q r) (stands_in r qs) e) [
          | inl same ↦ subst (λ z. IsClock u z × (is_in a (s.clock_of z).enrolled ≡ true)) (made_same q r same) (clock, on)
          | inr later ↦ rest.clocks r later
        ];
      }

  module _ (d : Continuation) (at : ProgramPoint) (body : ClockTree) (number : ℕ) (ps : List ℕ) (qs : List Made) (start : ClockStart) (ms : List Move)
      (are : AreClocks ps qs) (begun : slice_get u.starts number ≡ Some start) (f : Option Made) (f_is : governing d ≡ f)
      (is_start : IsStart start body ns ps (option_map (made_in u) f)) (move : left ≡ starts number ps (option_map (made_in u) f) ∷ ms)
      (fits : Fits u at d) (finishes : Finishes u d) (bottoms : bottom u d ≡ bottom u c) (makes_on : Makes u at ns standing ms) where
    abbrev k : Activity
    k = x.started ∷ a

    abbrev busy : Acting
    busy = record x { rest = d; started = x.started + 1 }

    abbrev born : Acting
    born = beginning (reads body (leaves f)) x.names

    number_of : number_in u k ≡ number
    number_of = next_child u a x here (m.left t) (registered u s a) (h.acts a there) (starts number ps (option_map (made_in u) f)) ms (left_is ∙ move) number refl

    inside_too : IsActivityIn u k
    inside_too = next_is_there u a x here (m.left t) (registered u s a) (h.acts a there) (starts number ps (option_map (made_in u) f)) ms (left_is ∙ move) number refl

    -- it was not there
    new_one : is_there s k ≡ false
    new_one = by (is_there s k) refl
      where
        by : (b : Bool) → is_there s k ≡ b → is_there s k ≡ false
        by true e = absurd (let l = h.holds.children x.started a e in omega arith)
        by false e = e

    other_one : k ≢ a
    other_one e = false≢true (sym new_one ∙ ap (is_there s) e ∙ there)

    abbrev v : TextState
    v = record (acts a busy s) { there = k ∷ s.there }

    abbrev w : TextState
    w = acts k born v

    abbrev z : TextState
    z = enrols_on k qs w

    abbrev r : TextState
    r = with_open_set f (λ cs. k ∷ cs) z

    -- ---- who acts how

    acting_is : r.acting ≡ w.acting
    acting_is = open_acting f k z ∙ enrols_acting k qs w

    born_is : r.acting k ≡ born
    born_is = ap (λ (g : Activity → Acting). g k) acting_is ∙ acts_own k born v

    busy_is : r.acting a ≡ busy
    busy_is = ap (λ (g : Activity → Acting). g a) acting_is ∙ acts_other k born v a (λ e. other_one (sym e)) ∙ acts_own a busy s

    same_is : (b : Activity) → b ≢ a → b ≢ k → r.acting b ≡ s.acting b
    same_is b n l = ap (λ (g : Activity → Acting). g b) acting_is ∙ acts_other k born v b l ∙ acts_other a busy s b n

    unborn : s.acting k ≡ beginning over (λ y. None)
    unborn = h.holds.unstarted k new_one

    -- a part of how it acts that is as before for the actor and for the new one
    as_before : {A : Type 0} (g : Acting → A) → g busy ≡ g x → g born ≡ g (s.acting k) → (b : Activity) → g (r.acting b) ≡ g (s.acting b)
    as_before g old new b =
        elim (this_or_other a b) [
          | inl same ↦ subst (λ y. g (r.acting y) ≡ g (s.acting y)) (sym same) (ap g busy_is ∙ old)
          | inr n ↦ elim (this_or_other k b) [
            | inl same ↦ subst (λ y. g (r.acting y) ≡ g (s.acting y)) (sym same) (ap g born_is ∙ new)
            | inr l ↦ ap g (same_is b n l)
          ]
        ]

    -- ---- tables

    there_is : (b : Activity) → is_there r b ≡ (if bytes_eq k b then true else is_there s b)
    there_is b = ap (is_in b) (open_there f k z ∙ enrols_there k qs w) ∙ in_more k b s.there

    new_there : is_there r k ≡ true
    new_there = there_is k ∙ ap (λ b. if b then true else is_there s k) (bytes_itself k)

    old_there : (b : Activity) → b ≢ k → is_there r b ≡ is_there s b
    old_there b n = there_is b ∙ ap (λ y. if y then true else is_there s b) (other_bytes k b (λ e. n (sym e)))

    enrolled_is : (q : Made) (b : Activity) → is_in b (r.clock_of q).enrolled ≡ (if stands_in q qs && bytes_eq k b then true else is_in b (s.clock_of q).enrolled)
    enrolled_is q b =
        ap (λ (g : Made → Clock). is_in b (g q).enrolled) (open_clocks f k z) ∙ enrols_in (λ (y : Clock). y.enrolled) k (λ y. refl) qs w q b

    unsignalled_is : (q : Made) (b : Activity) → is_in b (r.clock_of q).unsignalled ≡ (if stands_in q qs && bytes_eq k b then true else is_in b (s.clock_of q).unsignalled)
    unsignalled_is q b =
        ap (λ (g : Made → Clock). is_in b (g q).unsignalled) (open_clocks f k z) ∙ enrols_in (λ (y : Clock). y.unsignalled) k (λ y. refl) qs w q b

    open_is : (q : Made) (b : Activity) → is_in b (r.open_set q) ≡ (if governs_so f q && bytes_eq k b then true else is_in b (s.open_set q))
    open_is q b =
        open_in f k z q b ∙ ap (λ (g : Made → List Activity). if governs_so f q && bytes_eq k b then true else is_in b (g q)) (enrols_open k qs w)

    abbrev registered_all : ClockState
    registered_all = enrolling_all number ps m

    abbrev n : ClockState
    n = going t ms (starting number (joining (option_map (made_in u) f) number registered_all))

    tables : Tables u names z (enrolling_all (number_in u k) (map (made_in u) qs) m)
    tables =
        enrols_agree u names k inside_too qs (λ q e. (are.clocks q e).0.0) w m
        (record { phase = h.tells.phase; enrolled = h.tells.enrolled; unsignalled = h.tells.unsignalled })

    by_numbers : enrolling_all (number_in u k) (map (made_in u) qs) m ≡ registered_all
    by_numbers = ap (λ i. enrolling_all i (map (made_in u) qs) m) number_of ∙ ap (λ is. enrolling_all number is m) (sym are.numbers)

    tables_now : Tables u names z registered_all
    tables_now = subst (Tables u names z) by_numbers tables

    joined_leaves : (g : Option ℕ) (i : ℕ) (y : ClockState) →
        ((joining g i y).phase ≡ y.phase) × ((joining g i y).enrolled ≡ y.enrolled) × ((joining g i y).unsignalled ≡ y.unsignalled)
        × ((joining g i y).remembered ≡ y.remembered) × ((joining g i y).started ≡ y.started) × ((joining g i y).left ≡ y.left)
    joined_leaves None i y = (refl, refl, refl, refl, refl, refl)
    joined_leaves (Some g) i y = (refl, refl, refl, refl, refl, refl)

    open_agrees : (g : Option Made) → f ≡ g → Agrees u (λ q b. is_in b (r.open_set q)) (joining (option_map (made_in u) g) number registered_all).open_set
    open_agrees None is q b y e =
        open_is q b ∙ ap (λ (o : Option Made). if governs_so o q && bytes_eq k b then true else is_in b (s.open_set q)) is ∙ h.tells.open_set q b y e
        ∙ ap (λ (g : ℕ → ℕ → Bool). g (made_in u q) (number_in u b)) (sym (enrols_leave u names number ps m).0)
    open_agrees (Some g) is q b y e =
        open_is q b ∙ ap (λ (o : Option Made). if governs_so o q && bytes_eq k b then true else is_in b (s.open_set q)) is
        ∙ entry_agrees u names (λ q b. is_in b (s.open_set q)) (λ q b. if is_made g q && bytes_eq k b then true else is_in b (s.open_set q)) m.open_set g k true
        (finish_made g is) inside_too (λ q b. refl) h.tells.open_set q b y e
        ∙ ap (λ (o : ℕ → ℕ → Bool). with_entry o (made_in u g) (number_in u k) true (made_in u q) (number_in u b)) (sym (enrols_leave u names number ps m).0)
        ∙ ap (λ i. with_entry registered_all.open_set (made_in u g) i true (made_in u q) (number_in u b)) number_of
      where
        finish_made : (g : Made) → f ≡ Some g → IsMadeIn u g
        finish_made g is = (subst (λ o. Finishes u (leaves o)) (f_is ∙ is) (governed_by_finish u names d finishes)).0

    started_now : (b : Activity) → IsActivityIn u b → is_there r b ≡ updated m.started number true (number_in u b)
    started_now b y =
        there_is b
        ∙ ap (λ o. if o then true else is_there s b) (same_activity u names k b inside_too y)
        ∙ ap (λ i. if number_in u b == i then true else is_there s b) number_of
        ∙ ap (λ o. if number_in u b == number then true else o) (h.tells.started b y)

    tells_now : Tells u r n
    tells_now =
        record {
          phase = λ q y.
              ap (λ (g : Made → Clock). (g q).phase) (open_clocks f k z) ∙ tables_now.phase q y ∙ ap (λ (g : ℕ → ℕ). g (made_in u q)) (sym (joined_leaves (option_map (made_in u) f) number registered_all).0);
          enrolled = λ q b y e.
              ap (λ (g : Made → Clock). is_in b (g q).enrolled) (open_clocks f k z) ∙ tables_now.enrolled q b y e
              ∙ ap (λ (g : ℕ → ℕ → Bool). g (made_in u q) (number_in u b)) (sym (joined_leaves (option_map (made_in u) f) number registered_all).1);
          unsignalled = λ q b y e.
              ap (λ (g : Made → Clock). is_in b (g q).unsignalled) (open_clocks f k z) ∙ tables_now.unsignalled q b y e
              ∙ ap (λ (g : ℕ → ℕ → Bool). g (made_in u q) (number_in u b)) (sym (joined_leaves (option_map (made_in u) f) number registered_all).2);
          open_set = open_agrees f refl;
          remembers = λ q b y e.
              as_before (λ (o : Acting). o.remembers q) refl (sym (ap (λ (o : Acting). o.remembers q) unborn)) b ∙ h.tells.remembers q b y e
              ∙ ap (λ (g : ℕ → ℕ → Option ℕ). g (made_in u q) (number_in u b)) (sym ((joined_leaves (option_map (made_in u) f) number registered_all).3 ∙ (enrols_leave u names number ps m).1));
          started = λ b y.
              started_now b y
              ∙ ap (λ (g : ℕ → Bool). updated g number true (number_in u b)) (sym ((joined_leaves (option_map (made_in u) f) number registered_all).4 ∙ (enrols_leave u names number ps m).2));
        }

    -- ---- what holds

    gained : (x y o : Bool) → (if x && y then true else o) ≡ true → (o ≡ true) ⊎ ((x ≡ true) × (y ≡ true))
    gained true true o e = inr (refl, refl)
    gained true false o e = inl e
    gained false y o e = inl e

    new_is : (b : Activity) → bytes_eq k b ≡ true → b ≡ k
    new_is b e = sym (same_bytes k b e)

    is_new_there : (b : Activity) → bytes_eq k b ≡ true → is_there r b ≡ true
    is_new_there b e = subst (λ y. is_there r y ≡ true) (sym (new_is b e)) new_there

    still_there : (b : Activity) → is_there s b ≡ true → is_there r b ≡ true
    still_there b e = there_is b ∙ by (bytes_eq k b)
      where
        by : (o : Bool) → (if o then true else is_there s b) ≡ true
        by true = refl
        by false = e

    -- where nothing was made yet, the actor is not registered, so it names no such clock
    not_fresh : (q : Made) → (s.acting q.maker).made ≤ q.before → stands_in q qs ≡ false
    not_fresh q l = by (stands_in q qs) refl
      where
        by : (o : Bool) → stands_in q qs ≡ o → stands_in q qs ≡ false
        by true e = absurd (false≢true (sym (h.holds.fresh q a l).0 ∙ (are.clocks q e).1))
        by false e = e

    made_before : (b : Activity) → (r.acting b).made ≡ (s.acting b).made
    made_before b = as_before (λ (o : Acting). o.made) refl (sym (ap (λ (o : Acting). o.made) unborn)) b

    holds_now : Holds u r
    holds_now =
        record {
          inside = λ b e. elim (this_or_other k b) [
            | inl same ↦ subst (IsActivityIn u) (sym same) inside_too
            | inr l ↦ h.holds.inside b (sym (old_there b l) ∙ e)
          ];
          enrolled_in = λ q b e. elim (gained (stands_in q qs) (bytes_eq k b) (is_in b (s.clock_of q).enrolled) (sym (enrolled_is q b) ∙ e)) [
            | inl old ↦ still_there b (h.holds.enrolled_in q b old)
            | inr new ↦ is_new_there b new.1
          ];
          unsignalled_in = λ q b e. elim (gained (stands_in q qs) (bytes_eq k b) (is_in b (s.clock_of q).unsignalled) (sym (unsignalled_is q b) ∙ e)) [
            | inl old ↦ still_there b (h.holds.unsignalled_in q b old)
            | inr new ↦ is_new_there b new.1
          ];
          open_in = λ q b e. elim (gained (governs_so f q) (bytes_eq k b) (is_in b (s.open_set q)) (sym (open_is q b) ∙ e)) [
            | inl old ↦ still_there b (h.holds.open_in q b old)
            | inr new ↦ is_new_there b new.1
          ];
          under = λ q b e. elim (gained (governs_so f q) (bytes_eq k b) (is_in b (s.open_set q)) (sym (open_is q b) ∙ e)) [
            | inl old ↦ under_old q b old
            | inr new ↦ under_new q b new.0 (new_is b new.1)
          ];
          fresh = λ q b l.
              let before : (s.acting q.maker).made ≤ q.before = omega (arith, l, made_before q.maker) in
              let none = not_fresh q before in
              let old = h.holds.fresh q b before in (
                enrolled_is q b ∙ ap (λ o. if o && bytes_eq k b then true else is_in b (s.clock_of q).enrolled) none ∙ old.0,
                unsignalled_is q b ∙ ap (λ o. if o && bytes_eq k b then true else is_in b (s.clock_of q).unsignalled) none ∙ old.1,
              );
          unstarted = λ b e.
              let other : b ≢ k = λ same. false≢true (sym e ∙ subst (λ y. is_there r y ≡ true) (sym same) new_there) in
              let was : is_there s b ≡ false = sym (old_there b other) ∙ e in
              same_is b (λ same. false≢true (sym was ∙ subst (λ y. is_there s y ≡ true) (sym same) there)) other ∙ h.holds.unstarted b was;
          children = λ i b e. elim (this_or_other k (i ∷ b)) [
            | inl same ↦ child_new i b same
            | inr l ↦ child_old i b (h.holds.children i b (sym (old_there (i ∷ b) l) ∙ e))
          ];
        }
      where
        under_old : (q : Made) (b : Activity) → is_in b (s.open_set q) ≡ true → bottom u (r.acting b).rest ≡ Some q
        under_old q b old =
            let before = h.holds.under q b old in
            let other : b ≢ k = λ same. false≢true (sym new_one ∙ subst (λ y. is_there s y ≡ true) same (h.holds.open_in q b old)) in
            elim (this_or_other a b) [
              | inl same ↦
                  subst (λ y. bottom u (r.acting y).rest ≡ Some q) (sym same)
                  (ap (λ (o : Acting). bottom u o.rest) busy_is ∙ bottoms ∙ ap (bottom u) (sym rest_is) ∙ subst (λ y. bottom u (s.acting y).rest ≡ Some q) same before)
              | inr l ↦ ap (λ (o : Acting). bottom u o.rest) (same_is b l other) ∙ before
            ]

        under_new : (q : Made) (b : Activity) → governs_so f q ≡ true → b ≡ k → bottom u (r.acting b).rest ≡ Some q
        under_new q b e same =
            subst (λ y. bottom u (r.acting y).rest ≡ Some q) (sym same) (ap (λ (o : Acting). bottom u o.rest) born_is ∙ by f refl e)
          where
            by : (o : Option Made) → f ≡ o → governs_so o q ≡ true → f ≡ Some q
            by None is e = absurd (false≢true e)
            by (Some g) is e = is ∙ ap (λ y. Some y) (made_same g q e)

        child_new : (i : ℕ) (b : Activity) → i ∷ b ≡ k → i < (r.acting b).started
        child_new i b same =
            let order : i ≡ x.started = cc in
            let starter : b ≡ a = cc in
            subst (λ y. i < (r.acting y).started) (sym starter) (omega (arith, order, ap (λ (o : Acting). o.started) busy_is))

        child_old : (i : ℕ) (b : Activity) → i < (s.acting b).started → i < (r.acting b).started
        child_old i b l =
            elim (this_or_other a b) [
              | inl same ↦
                  subst (λ y. i < (r.acting y).started) (sym same)
                  (omega (arith, subst (λ y. i < (s.acting y).started) same l, ap (λ (o : Acting). o.started) busy_is))
              | inr n ↦ elim (this_or_other k b) [
                | inl same ↦ absurd (omega (arith, subst (λ y. i < (s.acting y).started) same l, ap (λ (o : Acting). o.started) unborn))
                | inr l2 ↦ subst (λ (o : Acting). i < o.started) (sym (same_is b n l2)) l
              ]
            ]

    -- ---- who acts how in both machines

    still_registered : (b : Activity) → b ≢ k → (q : Made) → registered u r b q ≡ registered u s b q
    still_registered b l q =
        enrolled_is q b ∙ ap (λ o. if stands_in q qs && o then true else is_in b (s.clock_of q).enrolled) (other_bytes k b (λ e. l (sym e)))
        ∙ by (stands_in q qs) (is_in b (s.clock_of q).enrolled)
      where
        by : (y o : Bool) → (if y && false then true else o) ≡ o
        by true o = refl
        by false o = refl

    -- the new one is registered just on these clocks
    registered_new : (q : Made) → registered u r k q ≡ stands_in q qs
    registered_new q =
        enrolled_is q k ∙ ap (λ o. if stands_in q qs && o then true else is_in k (s.clock_of q).enrolled) (bytes_itself k)
        ∙ ap (λ o. if stands_in q qs && true then true else o) never ∙ by (stands_in q qs)
      where
        never : is_in k (s.clock_of q).enrolled ≡ false
        never = out (is_in k (s.clock_of q).enrolled) refl
          where
            out : (o : Bool) → is_in k (s.clock_of q).enrolled ≡ o → is_in k (s.clock_of q).enrolled ≡ false
            out true e = absurd (false≢true (sym new_one ∙ h.holds.enrolled_in q k e))
            out false e = e

        by : (y : Bool) → (if y && true then true else false) ≡ y
        by true = refl
        by false = refl

    -- on which clocks it is, by numbers
    by_number : (q : Made) → IsClock u q → (ps : List Made) → ((p : Made) → stands_in p ps ≡ true → IsClock u p) → (g : Option Made) → (f ≡ g) →
        list_any (λ i. i == made_in u q) (map (made_in u) ps ++ option_to_list (option_map (made_in u) g)) ≡ stands_in q ps
    by_number q clock [] all None is = refl
    by_number q clock [] all (Some g) is =
        ap (λ o. o || false)
        (swap (made_in u g) (made_in u q)
        ∙ sym (same_made u names g q (finish g is).0 clock.0)
        ∙ other_made g q (λ e. false≢true (sym (finish g is).1 ∙ ap (is_clock u) e ∙ clock.1)))
      where
        swap : (i j : ℕ) → (i == j) ≡ (j == i)
        swap i j = same_test (i == j) (j == i) (λ e. eq-eqb j i (sym (eqb-true i j e))) (λ e. eq-eqb i j (sym (eqb-true j i e)))

        finish : (g : Made) → f ≡ Some g → IsFinish u g
        finish g is = subst (λ o. Finishes u (leaves o)) (f_is ∙ is) (governed_by_finish u names d finishes)
    by_number q clock (p ∷ ps) all g is =
        ap (λ o. o || list_any (λ i. i == made_in u q) (map (made_in u) ps ++ option_to_list (option_map (made_in u) g)))
        (swap (made_in u p) (made_in u q) ∙ sym (same_made u names p q (all p (ap (λ o. o || stands_in p ps) (made_itself p))).0 clock.0))
        ∙ ap (λ o. is_made p q || o) (by_number q clock ps (λ r e. all r (right (is_made p r) (stands_in r ps) e)) g is)
      where
        swap : (i j : ℕ) → (i == j) ≡ (j == i)
        swap i j = same_test (i == j) (j == i) (λ e. eq-eqb j i (sym (eqb-true i j e))) (λ e. eq-eqb i j (sym (eqb-true j i e)))

        right : (x y : Bool) → y ≡ true → (x || y) ≡ true
        right true y e = refl
        right false y e = e

    left_same : (b : Activity) → IsActivityIn u b → b ≢ a → n.left (number_in u b) ≡ m.left (number_in u b)
    left_same b y l =
        left_other u names a b ms (starting number (joining (option_map (made_in u) f) number registered_all)) here y l
        ∙ ap (λ (g : ℕ → List Move). g (number_in u b))
        ((joined_leaves (option_map (made_in u) f) number registered_all).5 ∙ (enrols_leave u names number ps m).3)

    -- the new one begins with all its moves
    own_moves : n.left (number_in u k) ≡ moves_at u (number_in u k)
    own_moves = left_same k inside_too other_one ∙ h.waits k inside_too new_one

    abbrev made_so : IsMade u (number_in u k)
    made_so = each (number_in u k) (names.inside k inside_too)

    same_start : made_so.start ≡ start
    same_start = start_is made_so.start start (sym made_so.begun ∙ ap (slice_get u.starts) number_of ∙ begun)

    acts_new : ActsAs u (number_in u k) (r.acting k) (n.left (number_in u k)) (registered u r k)
    acts_new =
        subst (λ o. ActsAs u (number_in u k) o (n.left (number_in u k)) (registered u r k)) (sym born_is)
        (subst (λ zs. ActsAs u (number_in u k) born zs (registered u r k)) (sym own_moves)
        (record {
          done = [];
          split = refl;
          started = refl;
          made = refl;
          stands = inr (record {
            point = before start.first body (last (start.first - 1) (option_map (made_in u) f));
            names = start.known.names;
            standing = start.known.standing;
            fits = reads_so leaves_so;
            makes =
                subst (λ o. Makes u (before start.first body (last (start.first - 1) o)) start.known.names start.known.standing (moves_at u (number_in u k))) is_start.governs
                (subst (λ o. Makes u (before start.first o (last (start.first - 1) (innermost start.known.governing))) start.known.names start.known.standing (moves_at u (number_in u k)))
                is_start.body_is
                (subst (λ (o : ClockStart). Makes u (first_point o) o.known.names o.known.standing (moves_at u (number_in u k))) same_start made_so.makes));
            knows = record {
              named = λ y. ap (λ (g : ClockNames). g y) is_start.names_are ∙ knows.named y;
              clocks = knows.clocks;
              members = λ q clock.
                  is_start.members (made_in u q)
                  ∙ ap (λ is. list_any (λ i. i == made_in u q) (is ++ option_to_list (option_map (made_in u) f))) are.numbers
                  ∙ by_number q clock qs (λ p e. (are.clocks p e).0) f refl ∙ sym (registered_new q);
              pending = λ q clock differs. is_start.pending (made_in u q);
              finishes = subst (λ o. Finishes u (leaves o)) f_is (governed_by_finish u names d finishes);
            };
          });
        }))

    acts_own_now : ActsAs u t (r.acting a) (n.left t) (registered u r a)
    acts_own_now =
        subst (λ o. ActsAs u t o (n.left t) (registered u r a)) (sym busy_is)
        (subst (λ zs. ActsAs u t busy zs (registered u r a)) (sym (left_own u a ms (starting number (joining (option_map (made_in u) f) number registered_all))))
        (done_more u t x busy (m.left t) (starts number ps (option_map (made_in u) f) ∷ []) ms (registered u s a) (registered u r a) (h.acts a there) (left_is ∙ move)
        (omega arith) (omega arith)
        (inr (record {
          point = at;
          names = ns;
          standing = standing;
          fits = fits;
          makes = makes_on;
          knows = record {
            named = knows.named;
            clocks = knows.clocks;
            members = λ q clock. knows.members q clock ∙ sym (still_registered a (λ e. other_one (sym e)) q);
            pending = λ q clock differs. knows.pending q clock (λ e. absurd (let none = sym target ∙ e in cc));
            finishes = finishes;
          };
        }))))

    pub starts_now : Corresponds u r n
    starts_now =
        record {
          tells = tells_now;
          holds = holds_now;
          acts = λ b e. elim (this_or_other k b) [
            | inl same ↦ subst (λ y. ActsAs u (number_in u y) (r.acting y) (n.left (number_in u y)) (registered u r y)) (sym same) acts_new
            | inr l ↦ elim (this_or_other a b) [
              | inl same ↦ subst (λ y. ActsAs u (number_in u y) (r.acting y) (n.left (number_in u y)) (registered u r y)) (sym same) acts_own_now
              | inr other ↦
                  (let was = sym (old_there b l) ∙ e in
                  subst (λ o. ActsAs u (number_in u b) o (n.left (number_in u b)) (registered u r b)) (sym (same_is b other l))
                  (subst (λ zs. ActsAs u (number_in u b) (s.acting b) zs (registered u r b)) (sym (left_same b (h.holds.inside b was) other))
                  (on_same u (number_in u b) (s.acting b) (m.left (number_in u b)) (registered u s b) (registered u r b) (still_registered b l) (h.acts b was))))
            ]
          ];
          waits = λ b y e.
              let other : b ≢ k = λ same. false≢true (sym e ∙ subst (λ o. is_there r o ≡ true) (sym same) new_there) in
              let was = sym (old_there b other) ∙ e in
              left_same b y (λ same. false≢true (sym was ∙ subst (λ o. is_there s o ≡ true) (sym same) there)) ∙ h.waits b y was;
        }
