-- A finish that begins, one that ends, and the end of an activity.
use Rattle.std.proofs.Common.{◌≡◌, ◌≢◌, ℕ, ◌+◌, Bool, true, false, Option, Some, None, List, [], ◌∷◌, arith, sym, ◌∙◌, ap, subst, refl, inl, inr}
use Rattle.std.specs.Str.{bytes_eq}
use Rattle.std.specs.Prelude.{◌==◌, if◌then◌else◌}
use Rattle.std.proofs.lemmas.Bool.{false≢true}
use Rattle.clock_laws.specs.calls.Direct.{ClockState, departing_all, going}
use Rattle.clock_semantics.specs.Moves.{Move, ActivityStanding, begins, ends, registered_on, stops, unregistered_from}
use Rattle.clock_semantics.specs.Unfolding.{ClockNames, ClockUnfolding}
use Rattle.clock_semantics.specs.calls.ProgramPoints.{ProgramPoint}
use Rattle.clock_laws.specs.TextMachine.{Acting, Activity, Clock, Continuation, Made, TextState, departs_from_all, goes_to, is_made, is_there, leaves, left_by, has_made, next_made, over, with_open_set, without_activity}
use Rattle.clock_laws.specs.TextNumbers.{IsActivityIn, made_in, number_in}
use Rattle.clock_laws.proofs.Changing.{acts_other, acts_own, tells_acting}
use Rattle.clock_laws.proofs.Corresponding.{Corresponds, Finishes, Fits, IsClock, IsFinish, Knows, bottom, is_clock, registered, target_at}
use Rattle.clock_laws.proofs.Makes.{Makes}
use Rattle.clock_laws.proofs.NextNames.{next_is_made, next_kind, next_number}
use Rattle.clock_laws.proofs.OnOneClock.{inside, less, lists_acting, made_kept, moves_by}
use Rattle.clock_laws.proofs.Tables.{HaveNames, bytes_itself, column_agrees, in_without, is_in, made_itself, made_same, other_bytes, other_made, same_bytes, same_made}

module _ (u : ClockUnfolding) (names : HaveNames u) (s : TextState) (m : ClockState) (h : Corresponds u s m) (a : Activity) (there : is_there s a ≡ true)
    (c : Continuation) (left : List Move) (ns : ClockNames) (standing : ActivityStanding) (rest_is : (s.acting a).rest ≡ c) (left_is : m.left (number_in u a) ≡ left)
    (knows : Knows u (s.acting a) c ns standing (registered u s a)) (target : target_at u (s.acting a) c ≡ None) where
  abbrev t : ℕ
  t = number_in u a

  abbrev x : Acting
  x = s.acting a

  abbrev here : IsActivityIn u a
  here = inside u names s m h a there

  -- a clock is no finish
  apart : (r f : Made) → IsClock u r → IsFinish u f → (made_in u r == made_in u f) ≡ false
  apart r f is fin =
      sym (same_made u names f r fin.0 is.0)
      ∙ other_made f r (λ e. absurd (false≢true (sym fin.1 ∙ ap (is_clock u) e ∙ is.1)))

  module _ (d : Continuation) (at : ProgramPoint) (ms : List Move) (fits : Fits u at d) (bottoms : bottom u d ≡ bottom u c) where
    -- ---- a finish begins

    module _ (q : ℕ) (move : left ≡ begins q ∷ ms) (finishes : IsFinish u (next_made a s) → Finishes u d) (makes_on : Makes u at ns (registered_on q standing) ms) where
      abbrev f : Made
      f = next_made a s

      pub begun_number : made_in u f ≡ q
      begun_number = next_number u a x here (m.left t) (registered u s a) (h.acts a there) (begins q) ms (left_is ∙ move) q false refl refl

      finish : IsFinish u f
      finish = (
        next_is_made u a x here (m.left t) (registered u s a) (h.acts a there) (begins q) ms (left_is ∙ move) q false refl refl,
        next_kind u a x here (m.left t) (registered u s a) (h.acts a there) (begins q) ms (left_is ∙ move) q false refl refl,
      )

      pub begins_now : Corresponds u (goes_to a d (has_made a s)) (going t ms m)
      begins_now =
          let w = has_made a s in
          let v = goes_to a d w in
          let y : Acting = record x { rest = d; made = x.made + 1 } in
          let own : v.acting a ≡ y = acts_own a (record (w.acting a) { rest = d }) w ∙ ap (λ (z : Acting). record z { rest = d }) (acts_own a (record x { made = x.made + 1 }) s) in
          let other : (b : Activity) → b ≢ a → v.acting b ≡ s.acting b =
          λ b n. acts_other a (record (w.acting a) { rest = d }) w b n ∙ acts_other a (record x { made = x.made + 1 }) s b n in
          moves_by u names s m h a there v y (begins q) ms m refl own other refl (tells_acting u names s m h a there v.acting y own other (λ r. refl))
          (lists_acting u names s m h a there v.acting y own other (omega arith) (bottoms ∙ ap (bottom u) (sym rest_is))) (left_is ∙ move) (omega arith)
          (omega arith)
          (inr (record {
            point = at;
            names = ns;
            standing = registered_on q standing;
            fits = fits;
            makes = makes_on;
            knows = record {
              named = knows.named;
              clocks = knows.clocks;
              members = λ r is.
                  ap (λ k. if made_in u r == k then true else standing.members (made_in u r)) (sym begun_number)
                  ∙ ap (λ b. if b then true else standing.members (made_in u r)) (apart r f is finish) ∙ knows.members r is;
              pending = λ r is differs. knows.pending r is (λ e. absurd (let z = sym target ∙ e in cc));
              finishes = finishes finish;
            };
          }))

    -- ---- a finish ends

    pub ends_now :
        (f : Made) → IsFinish u f → left ≡ ends (made_in u f) ∷ ms → Finishes u d → Makes u at ns (unregistered_from (made_in u f) standing) ms →
        Corresponds u (goes_to a d s) (going t ms m)
    ends_now f finish move finishes makes_on =
        let v = goes_to a d s in
        let y : Acting = record x { rest = d } in
        let own : v.acting a ≡ y = acts_own a y s in
        let other = acts_other a y s in
        moves_by u names s m h a there v y (ends (made_in u f)) ms m refl own other refl (tells_acting u names s m h a there v.acting y own other (λ r. refl))
        (lists_acting u names s m h a there v.acting y own other (omega arith) (bottoms ∙ ap (bottom u) (sym rest_is))) (left_is ∙ move) (omega arith)
        (omega arith)
        (inr (record {
          point = at;
          names = ns;
          standing = unregistered_from (made_in u f) standing;
          fits = fits;
          makes = makes_on;
          knows = record {
            named = knows.named;
            clocks = knows.clocks;
            members = λ r is. ap (λ b. if b then false else standing.members (made_in u r)) (apart r f is finish) ∙ knows.members r is;
            pending = λ r is differs.
                ap (λ b. if b then false else standing.pending (made_in u r)) (apart r f is finish)
                ∙ knows.pending r is (λ e. absurd (let z = sym target ∙ e in cc));
            finishes = finishes;
          };
        }))

  -- ---- an activity ends

  module _ (f : Option Made) (ends_so : c ≡ leaves f) (ps : List ℕ) (move : left ≡ stops ps ∷ []) where
    abbrev w : TextState
    w = departs_from_all a s

    same_acting : (f : Option Made) (r : TextState) → (with_open_set f (without_activity a) r).acting ≡ r.acting
    same_acting None r = refl
    same_acting (Some g) r = refl

    same_clocks : (f : Option Made) (r : TextState) → (with_open_set f (without_activity a) r).clock_of ≡ r.clock_of
    same_clocks None r = refl
    same_clocks (Some g) r = refl

    same_there : (f : Option Made) (r : TextState) → (with_open_set f (without_activity a) r).there ≡ r.there
    same_there None r = refl
    same_there (Some g) r = refl

    abbrev z : TextState
    z = with_open_set f (without_activity a) w

    abbrev v : TextState
    v = goes_to a over z

    abbrev gone : Acting
    gone = record x { remembers = λ q. None; rest = over }

    own : v.acting a ≡ gone
    own =
        acts_own a (record (z.acting a) { rest = over }) z
        ∙ ap (λ (k : Activity → Acting). record (k a) { rest = over }) (same_acting f w)
        ∙ ap (λ (k : Acting). record k { rest = over }) (acts_own a (record x { remembers = λ q. None }) (record s { clock_of = λ q. left_by a (s.clock_of q) }))

    other : (b : Activity) → b ≢ a → v.acting b ≡ s.acting b
    other b n =
        acts_other a (record (z.acting a) { rest = over }) z b n ∙ ap (λ (k : Activity → Acting). k b) (same_acting f w)
        ∙ acts_other a (record x { remembers = λ q. None }) (record s { clock_of = λ q. left_by a (s.clock_of q) }) b n

    clock_is : (q : Made) → v.clock_of q ≡ left_by a (s.clock_of q)
    clock_is q = ap (λ (k : Made → Clock). k q) (same_clocks f w)

    left_enrolled : (q : Made) (b : Activity) → is_in b (v.clock_of q).enrolled ≡ (if bytes_eq a b then false else is_in b (s.clock_of q).enrolled)
    left_enrolled q b = ap (λ (k : Clock). is_in b k.enrolled) (clock_is q) ∙ in_without a b (s.clock_of q).enrolled

    left_unsignalled : (q : Made) (b : Activity) → is_in b (v.clock_of q).unsignalled ≡ (if bytes_eq a b then false else is_in b (s.clock_of q).unsignalled)
    left_unsignalled q b = ap (λ (k : Clock). is_in b k.unsignalled) (clock_is q) ∙ in_without a b (s.clock_of q).unsignalled

    -- the actor is in the open set of no other finish
    only_own : (q : Made) → is_in a (s.open_set q) ≡ true → f ≡ Some q
    only_own q e = sym (ap (bottom u) (rest_is ∙ ends_so)) ∙ h.holds.under q a e

    left_open : (q : Made) (b : Activity) → is_in b (v.open_set q) ≡ (if bytes_eq a b then false else is_in b (s.open_set q))
    left_open q b = by f refl
      where
        none_there : (o : Bool) → is_in b (s.open_set q) ≡ o → (bytes_eq a b ≡ true → o ≡ false) → (k : Bool) → bytes_eq a b ≡ k →
            is_in b (s.open_set q) ≡ (if bytes_eq a b then false else is_in b (s.open_set q))
        none_there o is n true e = is ∙ n e ∙ sym (ap (λ k. if k then false else is_in b (s.open_set q)) e)
        none_there o is n false e = sym (ap (λ k. if k then false else is_in b (s.open_set q)) e)

        not_in : (g : Option Made) → f ≡ g → (g ≢ Some q) → (o : Bool) → is_in b (s.open_set q) ≡ o → bytes_eq a b ≡ true → o ≡ false
        not_in g is n true e same =
            absurd (n (sym is ∙ only_own q (subst (λ k. is_in k (s.open_set q) ≡ true) (sym (same_bytes a b same)) e)))
        not_in g is n false e same = refl

        by_made : (g : Made) → f ≡ Some g → (k : Bool) → is_made g q ≡ k →
            is_in b (if k then without_activity a (s.open_set g) else s.open_set q) ≡ (if bytes_eq a b then false else is_in b (s.open_set q))
        by_made g is true e = in_without a b (s.open_set g) ∙ ap (λ k. if bytes_eq a b then false else is_in b (s.open_set k)) (made_same g q e)
        by_made g is false e =
            none_there (is_in b (s.open_set q)) refl
            (not_in (Some g) is (λ k. absurd (false≢true (sym e ∙ subst (λ y. is_made g y ≡ true) (some_made g q k) (made_itself g)))) (is_in b (s.open_set q)) refl)
            (bytes_eq a b) refl
          where
            some_made : (g q : Made) → ◌≡◌ {A = Option Made} (Some g) (Some q) → g ≡ q
            some_made g q e = cc

        by : (g : Option Made) → f ≡ g → is_in b ((with_open_set g (without_activity a) w).open_set q) ≡ (if bytes_eq a b then false else is_in b (s.open_set q))
        by None is =
            none_there (is_in b (s.open_set q)) refl (not_in None is (λ k. absurd cc) (is_in b (s.open_set q)) refl) (bytes_eq a b) refl
        by (Some g) is = by_made g is (is_made g q) refl

    none_remembered : (q : Made) (b : Activity) → (v.acting b).remembers q ≡ (if bytes_eq a b then None else (s.acting b).remembers q)
    none_remembered q b = by (bytes_eq a b) refl
      where
        by : (k : Bool) → bytes_eq a b ≡ k → (v.acting b).remembers q ≡ (if k then None else (s.acting b).remembers q)
        by true e = subst (λ k. (v.acting k).remembers q ≡ None) (same_bytes a b e) (ap (λ (k : Acting). k.remembers q) own)
        by false e =
            ap (λ (k : Acting). k.remembers q) (other b (λ same. absurd (false≢true (sym e ∙ subst (λ y. bytes_eq a y ≡ true) (sym same) (bytes_itself a)))))

    pub stops_now : Corresponds u v (going t [] (departing_all t m))
    stops_now =
        moves_by u names s m h a there v gone (stops ps) [] (departing_all t m) refl own other (same_there f w)
        (record {
          phase = λ q is. ap (λ (k : Clock). k.phase) (clock_is q) ∙ h.tells.phase q is;
          enrolled =
              column_agrees u names (λ q b. is_in b (s.clock_of q).enrolled) (λ q b. is_in b (v.clock_of q).enrolled) m.enrolled a false here left_enrolled
              h.tells.enrolled;
          unsignalled =
              column_agrees u names (λ q b. is_in b (s.clock_of q).unsignalled) (λ q b. is_in b (v.clock_of q).unsignalled) m.unsignalled a false here
              left_unsignalled
              h.tells.unsignalled;
          open_set = column_agrees u names (λ q b. is_in b (s.open_set q)) (λ q b. is_in b (v.open_set q)) m.open_set a false here left_open h.tells.open_set;
          remembers =
              column_agrees u names (λ q b. (s.acting b).remembers q) (λ q b. (v.acting b).remembers q) m.remembered a None here none_remembered
              h.tells.remembers;
          started = λ b is. ap (λ xs. is_in b xs) (same_there f w) ∙ h.tells.started b is;
        })
        (record {
          enrolled_in = λ q b e. inl (less (bytes_eq a b) (is_in b (s.clock_of q).enrolled) (sym (left_enrolled q b) ∙ e));
          unsignalled_in = λ q b e. inl (less (bytes_eq a b) (is_in b (s.clock_of q).unsignalled) (sym (left_unsignalled q b) ∙ e));
          open_in = λ q b e. less (bytes_eq a b) (is_in b (s.open_set q)) (sym (left_open q b) ∙ e);
          others = λ q b e. left_enrolled q b ∙ ap (λ k. if k then false else is_in b (s.clock_of q).enrolled) (other_bytes a b (λ k. e (sym k)));
          fresh = λ q b l.
              let before = h.holds.fresh q b (omega (arith, l, made_kept u names s m h a there v gone own other (omega arith) q.maker)) in (
                left_enrolled q b ∙ gone_too (bytes_eq a b) (is_in b (s.clock_of q).enrolled) before.0,
                left_unsignalled q b ∙ gone_too (bytes_eq a b) (is_in b (s.clock_of q).unsignalled) before.1,
              );
          bottom_same = λ q e.
              absurd (let none = sym (left_open q a) ∙ e in
              let itself = ap (λ k. if k then false else is_in a (s.open_set q)) (bytes_itself a) in false≢true (sym itself ∙ none));
        })
        (left_is ∙ move) (omega arith) (omega arith) (inl (refl, refl))
      where
        gone_too : (k o : Bool) → o ≡ false → (if k then false else o) ≡ false
        gone_too true o e = refl
        gone_too false o e = e
