-- A clock that is made, a finish that begins, and one that ends.
use Rattle.std.proofs.Common.{◌≡◌, ◌≢◌, ℕ, ◌+◌, ◌≤◌, Bool, true, false, Some, None, List, [], ◌∷◌, arith, sym, ◌∙◌, ap, subst, refl, ◌⊎◌, inl, inr}
use Rattle.std.specs.Str.{bytes_eq}
use Rattle.std.specs.Prelude.{◌&&◌, ◌==◌, if◌then◌else◌}
use Rattle.std.specs.Option.{option_map}
use Rattle.std.proofs.lemmas.Bool.{false≢true}
use Rattle.armus_base.specs.States.{updated}
use Rattle.clock_laws.specs.calls.Direct.{ClockState, going, opening_clock}
use Rattle.clock_semantics.specs.Moves.{Move, ActivityStanding, opens, registered_on}
use Rattle.clock_semantics.specs.Unfolding.{ClockNames, ClockUnfolding}
use Rattle.clock_semantics.specs.calls.ProgramPoints.{ProgramPoint}
use Rattle.clock_laws.specs.TextMachine.{Acting, Activity, Clock, Continuation, Made, TextState, goes_to, is_made, is_there, opens_clock, next_made, with_clock}
use Rattle.clock_laws.specs.TextNumbers.{IsActivityIn, IsMadeIn, made_in, number_in}
use Rattle.clock_laws.proofs.Changing.{acts_other, acts_own, agrees_same, clock_entry, remember_same, this_or_other}
use Rattle.clock_laws.proofs.Corresponding.{Corresponds, Finishes, Fits, IsClock, Knows, Tells, bottom, is_clock, registered, target_at}
use Rattle.clock_laws.proofs.Makes.{Makes}
use Rattle.clock_laws.proofs.NextNames.{next_is_made, next_kind, next_number}
use Rattle.clock_laws.proofs.OnOneClock.{inside, moves_by}
use Rattle.clock_laws.proofs.Tables.{HaveNames, bytes_itself, entry_agrees, in_more, is_in, other_bytes, other_made, same_made}

module _ (u : ClockUnfolding) (names : HaveNames u) (s : TextState) (m : ClockState) (h : Corresponds u s m) (a : Activity) (there : is_there s a ≡ true)
    (c : Continuation) (left : List Move) (ns : ClockNames) (standing : ActivityStanding) (rest_is : (s.acting a).rest ≡ c) (left_is : m.left (number_in u a) ≡ left)
    (knows : Knows u (s.acting a) c ns standing (registered u s a)) (target : target_at u (s.acting a) c ≡ None) (d : Continuation) (at : ProgramPoint)
    (ms : List Move) (fits : Fits u at d) (bottoms : bottom u d ≡ bottom u c) where
  abbrev t : ℕ
  t = number_in u a

  abbrev x : Acting
  x = s.acting a

  abbrev here : IsActivityIn u a
  here = inside u names s m h a there

  abbrev p : Made
  p = next_made a s

  -- ---- a clock

  module _ (name : List ℕ) (q : ℕ) (move : left ≡ opens q ∷ ms) (finishes : Finishes u d)
      (makes_on : Makes u at (λ z. if bytes_eq name z then Some q else ns z) (registered_on q standing) ms) where
    pub number : made_in u p ≡ q
    number = next_number u a x here (m.left t) (registered u s a) (h.acts a there) (opens q) ms (left_is ∙ move) q true refl refl

    made : IsMadeIn u p
    made = next_is_made u a x here (m.left t) (registered u s a) (h.acts a there) (opens q) ms (left_is ∙ move) q true refl refl

    kind : is_clock u p ≡ true
    kind = next_kind u a x here (m.left t) (registered u s a) (h.acts a there) (opens q) ms (left_is ∙ move) q true refl refl

    abbrev new_clock : Clock
    new_clock = record { phase = 0; enrolled = a ∷ []; unsignalled = a ∷ [] }

    abbrev named_so : Acting
    named_so = record x { rest = d; names = λ z. if bytes_eq name z then Some p else x.names z; made = x.made + 1 }

    abbrev w : TextState
    w = goes_to a d s

    abbrev v : TextState
    v = opens_clock a name p w

    own : v.acting a ≡ named_so
    own =
        acts_own a (record (w.acting a) { names = λ z. if bytes_eq name z then Some p else (w.acting a).names z; made = (w.acting a).made + 1 }) (with_clock p new_clock w)
        ∙ ap (λ (z : Acting). record z { names = λ y. if bytes_eq name y then Some p else z.names y; made = z.made + 1 }) (acts_own a (record x { rest = d }) s)

    other : (b : Activity) → b ≢ a → v.acting b ≡ s.acting b
    other b n =
        acts_other a (record (w.acting a) { names = λ z. if bytes_eq name z then Some p else (w.acting a).names z; made = (w.acting a).made + 1 }) (with_clock p new_clock w) b n
        ∙ acts_other a (record x { rest = d }) s b n

    only_actor : (side : Clock → List Activity) → side new_clock ≡ a ∷ [] → ((b : Activity) → is_in b (side (s.clock_of p)) ≡ false) → (b : Activity) →
        is_in b (side new_clock) ≡ (if bytes_eq a b then true else is_in b (side (s.clock_of p)))
    only_actor side is none b = ap (is_in b) is ∙ in_more a b [] ∙ ap (λ z. if bytes_eq a b then true else z) (sym (none b))

    new_enrolled : (r : Made) (b : Activity) → is_in b (v.clock_of r).enrolled ≡ (if is_made p r && bytes_eq a b then true else is_in b (s.clock_of r).enrolled)
    new_enrolled =
        clock_entry s p new_clock (λ (z : Clock). z.enrolled) a true (only_actor (λ (z : Clock). z.enrolled) refl (λ b. (h.holds.fresh p b (omega arith)).0))

    new_unsignalled : (r : Made) (b : Activity) → is_in b (v.clock_of r).unsignalled ≡ (if is_made p r && bytes_eq a b then true else is_in b (s.clock_of r).unsignalled)
    new_unsignalled =
        clock_entry s p new_clock (λ (z : Clock). z.unsignalled) a true (only_actor (λ (z : Clock). z.unsignalled) refl (λ b. (h.holds.fresh p b (omega arith)).1))

    new_phase : (r : Made) → IsMadeIn u r → (b : Bool) → is_made p r ≡ b → (v.clock_of r).phase ≡ updated m.phase (made_in u p) 0 (made_in u r)
    new_phase r is true e =
        ap (λ b. (if b then new_clock else s.clock_of r).phase) e
        ∙ sym (ap (λ b. if b then 0 else m.phase (made_in u r)) (sym (same_made u names p r made is) ∙ e))
    new_phase r is false e =
        ap (λ b. (if b then new_clock else s.clock_of r).phase) e ∙ h.tells.phase r is
        ∙ sym (ap (λ b. if b then 0 else m.phase (made_in u r)) (sym (same_made u names p r made is) ∙ e))

    tells_open : Tells u v (opening_clock t (made_in u p) m)
    tells_open =
        record {
          phase = λ r is. new_phase r is (is_made p r) refl;
          enrolled =
              entry_agrees u names (λ r b. is_in b (s.clock_of r).enrolled) (λ r b. is_in b (v.clock_of r).enrolled) m.enrolled p a true made here new_enrolled h.tells.enrolled;
          unsignalled =
              entry_agrees u names (λ r b. is_in b (s.clock_of r).unsignalled) (λ r b. is_in b (v.clock_of r).unsignalled) m.unsignalled p a true made here new_unsignalled
              h.tells.unsignalled;
          open_set = h.tells.open_set;
          remembers =
              agrees_same u (λ r b. (s.acting b).remembers r) (λ r b. (v.acting b).remembers r) m.remembered (remember_same s v a named_so own other (λ r. refl))
              h.tells.remembers;
          started = h.tells.started;
        }

    -- who is in a list behind it
    gained : (b o : Bool) (c : Bool) → (if b && c then true else o) ≡ true → (o ≡ true) ⊎ (c ≡ true)
    gained true o true e = inr refl
    gained true o false e = inl e
    gained false o c e = inl e

    actor_is : (b : Activity) → bytes_eq a b ≡ true → b ≡ a
    actor_is b e = elim (this_or_other a b) [ inl same ↦ same | inr n ↦ absurd (false≢true (sym (other_bytes a b (λ z. n (sym z))) ∙ e)) ]

    not_new : (r : Made) (b : Activity) → is_made p r ≡ false →
        ((v.clock_of r).enrolled ≡ (s.clock_of r).enrolled) × ((v.clock_of r).unsignalled ≡ (s.clock_of r).unsignalled)
    not_new r b e = (ap (λ c. (if c then new_clock else s.clock_of r).enrolled) e, ap (λ c. (if c then new_clock else s.clock_of r).unsignalled) e)

    still_fresh : (r : Made) (b : Activity) → (v.acting r.maker).made ≤ r.before → (is_in b (v.clock_of r).enrolled ≡ false) × (is_in b (v.clock_of r).unsignalled ≡ false)
    still_fresh r b l =
        elim (this_or_other a r.maker) [
          | inl same ↦
              (let more : x.made + 1 ≤ r.before = subst (λ n. n ≤ r.before) (ap (λ z. (v.acting z).made) same ∙ ap (λ (z : Acting). z.made) own) l in
              let differs : is_made p r ≡ false = other_made p r (λ e. absurd (omega (arith, more, ap (λ (z : Made). z.before) e))) in
              by r b differs (subst (λ z. (s.acting z).made ≤ r.before) (sym same) (omega (arith, more))))
          | inr n ↦
              (let differs : is_made p r ≡ false = other_made p r (λ e. n (sym (ap (λ (z : Made). z.maker) e))) in
              by r b differs (omega (arith, l, ap (λ (z : Acting). z.made) (other r.maker n))))
        ]
      where
        by : (r : Made) (b : Activity) → is_made p r ≡ false → (s.acting r.maker).made ≤ r.before →
            (is_in b (v.clock_of r).enrolled ≡ false) × (is_in b (v.clock_of r).unsignalled ≡ false)
        by r b differs before =
            let same = not_new r b differs in
            let f = h.holds.fresh r b before in
            (ap (is_in b) same.0 ∙ f.0, ap (is_in b) same.1 ∙ f.1)

    pub opens_now : Corresponds u v (going t ms (opening_clock t (made_in u p) m))
    opens_now =
        moves_by u names s m h a there v named_so (opens q) ms (opening_clock t (made_in u p) m) refl own other refl tells_open
        (record {
          enrolled_in = λ r b e.
              elim (gained (is_made p r) (is_in b (s.clock_of r).enrolled) (bytes_eq a b) (sym (new_enrolled r b) ∙ e))
              [ inl old ↦ inl old | inr g ↦ inr (actor_is b g) ];
          unsignalled_in = λ r b e.
              elim (gained (is_made p r) (is_in b (s.clock_of r).unsignalled) (bytes_eq a b) (sym (new_unsignalled r b) ∙ e))
              [ inl old ↦ inl old | inr g ↦ inr (actor_is b g) ];
          open_in = λ r b e. e;
          others = λ r b n.
              new_enrolled r b ∙ ap (λ z. if is_made p r && z then true else is_in b (s.clock_of r).enrolled) (other_bytes a b (λ z. n (sym z)))
              ∙ neither (is_made p r) (is_in b (s.clock_of r).enrolled);
          fresh = still_fresh;
          bottom_same = λ r e. ap (λ (z : Acting). bottom u z.rest) own ∙ bottoms ∙ ap (bottom u) (sym rest_is);
        })
        (left_is ∙ move) (omega arith) (omega arith)
        (inr (record {
          point = at;
          names = λ z. if bytes_eq name z then Some q else ns z;
          standing = registered_on q standing;
          fits = fits;
          makes = makes_on;
          knows = record {
            named = λ z. by_name z (bytes_eq name z);
            clocks = λ z r e. by_clock z r (bytes_eq name z) e;
            members = λ r is.
                ap (λ n. if made_in u r == n then true else standing.members (made_in u r)) (sym number)
                ∙ ap (λ b. if b then true else standing.members (made_in u r)) (sym (same_made u names p r made is.0))
                ∙ ap (λ b. if is_made p r then true else b) (knows.members r is)
                ∙ own_entry (is_made p r) (is_in a (s.clock_of r).enrolled) ∙ sym (new_enrolled r a);
            pending = λ r is differs. knows.pending r is (λ e. absurd (let z = sym target ∙ e in cc));
            finishes = finishes;
          };
        }))
      where
        neither : (b o : Bool) → (if b && false then true else o) ≡ o
        neither true o = refl
        neither false o = refl

        own_entry : (b o : Bool) → (if b then true else o) ≡ (if b && bytes_eq a a then true else o)
        own_entry true o = sym (ap (λ z. if z then true else o) (bytes_itself a))
        own_entry false o = refl

        by_name : (z : List ℕ) (b : Bool) → (if b then Some q else ns z) ≡ option_map (made_in u) (if b then Some p else x.names z)
        by_name z true = ap (λ n. Some n) (sym number)
        by_name z false = knows.named z

        by_clock : (z : List ℕ) (r : Made) (b : Bool) → (if b then Some p else x.names z) ≡ Some r → IsClock u r
        by_clock z r true e = subst (IsClock u) (let same : p ≡ r = cc in same) (made, kind)
        by_clock z r false e = knows.clocks z r e
