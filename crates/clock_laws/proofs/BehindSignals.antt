-- The step behind an advance's signal, and a drop.
use Rattle.std.proofs.Common.{◌≡◌, ◌≢◌, ℕ, Bool, true, false, Option, Some, None, List, ◌∷◌, arith, sym, ◌∙◌, ap, subst, refl, ◌⊎◌, inl, inr}
use Rattle.std.specs.Str.{bytes_eq}
use Rattle.std.specs.Prelude.{◌&&◌, ◌==◌, if◌then◌else◌, is_some}
use Rattle.clock_laws.specs.calls.Direct.{ClockState, departing, forgetting, going}
use Rattle.clock_semantics.specs.Moves.{Move, ActivityStanding, advances, drops, unregistered_from, with_pending}
use Rattle.clock_semantics.specs.Unfolding.{ClockNames, ClockUnfolding}
use Rattle.clock_semantics.specs.calls.ProgramPoints.{ProgramPoint}
use Rattle.clock_laws.specs.TextMachine.{Acting, Activity, Clock, Continuation, Made, TextState, departs, goes_to, is_made, is_there, left_by, remembering, with_clock}
use Rattle.clock_laws.specs.TextNumbers.{IsActivityIn, made_in, number_in}
use Rattle.clock_laws.proofs.Changing.{acts_other, acts_own, clock_entry, phase_same, remember_entry}
use Rattle.clock_laws.proofs.Corresponding.{Corresponds, Finishes, Fits, IsClock, Knows, bottom, registered, target_at}
use Rattle.clock_laws.proofs.Makes.{Makes}
use Rattle.clock_laws.proofs.OnOneClock.{inside, less, lists_acting, lists_less, made_kept, moves_by}
use Rattle.clock_laws.proofs.Tables.{HaveNames, entry_agrees, in_without, bytes_itself, is_in, made_itself, other_bytes, same_made}

module _ (u : ClockUnfolding) (names : HaveNames u) (s : TextState) (m : ClockState) (h : Corresponds u s m) (a : Activity) (there : is_there s a ≡ true)
    (p : Made) (clock : IsClock u p) where
  abbrev t : ℕ
  t = number_in u a

  abbrev x : Acting
  x = s.acting a

  abbrev k : Clock
  k = s.clock_of p

  abbrev here : IsActivityIn u a
  here = inside u names s m h a there

  abbrev forgotten : Acting
  forgotten = record x { remembers = λ q. if is_made p q then None else x.remembers q }

  module _ (c : Continuation) (left : List Move) (point : ProgramPoint) (ns : ClockNames) (standing : ActivityStanding) (rest_is : x.rest ≡ c) (left_is : m.left t ≡ left)
      (knows : Knows u x c ns standing (registered u s a)) (d : Continuation) (at : ProgramPoint) (ms : List Move) (fits : Fits u at d) (finishes : Finishes u d)
      (bottoms : bottom u d ≡ bottom u c) where
    abbrev y : Acting
    y = record forgotten { rest = d }

    -- what is pending where this clock is not, or not any more
    pending_now :
        (q : Made) → IsClock u q → (b : Bool) → is_made p q ≡ b → (target_at u x c ≡ None ⊎ target_at u x c ≡ Some p) →
        (if made_in u q == made_in u p then false else standing.pending (made_in u q)) ≡ is_some (if is_made p q then None else x.remembers q)
    pending_now q is true e target =
        ap (λ b. if b then false else standing.pending (made_in u q)) (sym (same_made u names p q clock.0 is.0) ∙ e)
        ∙ sym (ap (λ b. is_some (if b then None else x.remembers q)) e)
    pending_now q is false e target =
        ap (λ b. if b then false else standing.pending (made_in u q)) (sym (same_made u names p q clock.0 is.0) ∙ e)
        ∙ knows.pending q is (λ z. elsewhere z target)
        ∙ sym (ap (λ b. is_some (if b then None else x.remembers q)) e)
      where
        same_target : (q r : Made) → ◌≡◌ {A = Option Made} (Some q) (Some r) → r ≡ q
        same_target q r e = cc

        elsewhere : target_at u x c ≡ Some q → (target_at u x c ≡ None ⊎ target_at u x c ≡ Some p) → ⊥
        elsewhere z (inl none) = absurd (let r = sym none ∙ z in cc)
        elsewhere z (inr some) =
            let same : p ≡ q = same_target q p (sym z ∙ some) in
            absurd (let r : is_made p q ≡ true = subst (λ w. is_made p w ≡ true) same (made_itself p) in cc)

    -- ---- the step behind a signal

    pub passes_now :
        left ≡ advances (made_in u p) ∷ ms → Makes u at ns (with_pending (made_in u p) false standing) ms → target_at u x c ≡ Some p →
        Corresponds u (goes_to a d (remembering a p None s)) (going t ms (forgetting t (made_in u p) m))
    passes_now move makes target =
        let w = remembering a p None s in
        let v = goes_to a d w in
        let own : v.acting a ≡ y = acts_own a (record (w.acting a) { rest = d }) w ∙ ap (λ (z : Acting). record z { rest = d }) (acts_own a forgotten s) in
        let other : (b : Activity) → b ≢ a → v.acting b ≡ s.acting b = λ b n. acts_other a (record (w.acting a) { rest = d }) w b n ∙ acts_other a forgotten s b n in
        moves_by u names s m h a there v y (advances (made_in u p)) ms (forgetting t (made_in u p) m) refl own other refl
        (record {
          phase = h.tells.phase;
          enrolled = h.tells.enrolled;
          unsignalled = h.tells.unsignalled;
          open_set = h.tells.open_set;
          remembers =
              entry_agrees u names (λ q b. (s.acting b).remembers q) (λ q b. (v.acting b).remembers q) m.remembered p a None clock.0 here
              (remember_entry s v a y p None own other (λ q. refl)) h.tells.remembers;
          started = h.tells.started;
        })
        (lists_acting u names s m h a there v.acting y own other (omega arith) (bottoms ∙ ap (bottom u) (sym rest_is))) (left_is ∙ move) (omega arith)
        (omega arith)
        (inr (record {
          point = at;
          names = ns;
          standing = with_pending (made_in u p) false standing;
          fits = fits;
          makes = makes;
          knows = record {
            named = knows.named;
            clocks = knows.clocks;
            members = knows.members;
            pending = λ q is differs. pending_now q is (is_made p q) refl (inr target);
            finishes = finishes;
          };
        }))

    -- ---- a drop

    left_enrolled :
        (q : Made) (b : Activity) → is_in b ((with_clock p (left_by a k) s).clock_of q).enrolled ≡ (if is_made p q && bytes_eq a b then false else is_in b (s.clock_of q).enrolled)
    left_enrolled = clock_entry s p (left_by a k) (λ (z : Clock). z.enrolled) a false (λ b. in_without a b k.enrolled)

    left_unsignalled :
        (q : Made) (b : Activity) → is_in b ((with_clock p (left_by a k) s).clock_of q).unsignalled ≡ (if is_made p q && bytes_eq a b then false else is_in b (s.clock_of q).unsignalled)
    left_unsignalled = clock_entry s p (left_by a k) (λ (z : Clock). z.unsignalled) a false (λ b. in_without a b k.unsignalled)

    pub drops_now :
        left ≡ drops (made_in u p) ∷ ms → Makes u at ns (unregistered_from (made_in u p) standing) ms → target_at u x c ≡ None →
        Corresponds u (goes_to a d (departs a p s)) (going t ms (departing t (made_in u p) m))
    drops_now move makes none =
        let w = departs a p s in
        let v = goes_to a d w in
        let own : v.acting a ≡ y =
        acts_own a (record (w.acting a) { rest = d }) w ∙ ap (λ (z : Acting). record z { rest = d }) (acts_own a forgotten (with_clock p (left_by a k) s)) in
        let other : (b : Activity) → b ≢ a → v.acting b ≡ s.acting b =
        λ b n. acts_other a (record (w.acting a) { rest = d }) w b n ∙ acts_other a forgotten (with_clock p (left_by a k) s) b n in
        moves_by u names s m h a there v y (drops (made_in u p)) ms (departing t (made_in u p) m) refl own other refl
        (record {
          phase = λ q is. phase_same s p (left_by a k) refl q ∙ h.tells.phase q is;
          enrolled =
              entry_agrees u names (λ q b. is_in b (s.clock_of q).enrolled) (λ q b. is_in b (v.clock_of q).enrolled) m.enrolled p a false clock.0 here
              left_enrolled
              h.tells.enrolled;
          unsignalled =
              entry_agrees u names (λ q b. is_in b (s.clock_of q).unsignalled) (λ q b. is_in b (v.clock_of q).unsignalled) m.unsignalled p a false clock.0 here
              left_unsignalled h.tells.unsignalled;
          open_set = h.tells.open_set;
          remembers =
              entry_agrees u names (λ q b. (s.acting b).remembers q) (λ q b. (v.acting b).remembers q) m.remembered p a None clock.0 here
              (remember_entry s v a y p None own other (λ q. refl)) h.tells.remembers;
          started = h.tells.started;
        })
        (lists_less u names s m h a there v
        (λ q b e. less (is_made p q && bytes_eq a b) (is_in b (s.clock_of q).enrolled) (sym (left_enrolled q b) ∙ e))
        (λ q b e. less (is_made p q && bytes_eq a b) (is_in b (s.clock_of q).unsignalled) (sym (left_unsignalled q b) ∙ e))
        (λ q b e. left_enrolled q b ∙ ap (λ z. if is_made p q && z then false else is_in b (s.clock_of q).enrolled) (other_bytes a b (λ z. e (sym z)))
        ∙ neither (is_made p q) (is_in b (s.clock_of q).enrolled))
        refl (made_kept u names s m h a there v y own other (omega arith))
        (ap (λ (z : Acting). bottom u z.rest) own ∙ bottoms ∙ ap (bottom u) (sym rest_is)))
        (left_is ∙ move) (omega arith) (omega arith)
        (inr (record {
          point = at;
          names = ns;
          standing = unregistered_from (made_in u p) standing;
          fits = fits;
          makes = makes;
          knows = record {
            named = knows.named;
            clocks = knows.clocks;
            members = λ q is.
                ap (λ b. if made_in u q == made_in u p then false else b) (knows.members q is)
                ∙ ap (λ b. if b then false else registered u s a q) (sym (same_made u names p q clock.0 is.0))
                ∙ own_entry (is_made p q) (is_in a (s.clock_of q).enrolled) ∙ sym (left_enrolled q a);
            pending = λ q is differs. pending_now q is (is_made p q) refl (inl none);
            finishes = finishes;
          };
        }))
      where
        neither : (b o : Bool) → (if b && false then false else o) ≡ o
        neither true o = refl
        neither false o = refl

        own_entry : (b o : Bool) → (if b then false else o) ≡ (if b && bytes_eq a a then false else o)
        own_entry true o = sym (ap (λ z. if z then false else o) itself)
          where
            itself : bytes_eq a a ≡ true
            itself = bytes_itself a
        own_entry false o = refl
