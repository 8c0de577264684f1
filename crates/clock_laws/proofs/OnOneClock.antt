-- Steps on one clock: a signal, the step behind it, a resume and a drop.
use Rattle.std.proofs.Common.{◌≡◌, ◌≢◌, ℕ, ◌+◌, ◌≤◌, Bool, true, false, Option, Some, None, List, [], ◌∷◌, arith, sym, ◌∙◌, ap, subst, refl, ◌⊎◌, inl, inr, length}
use Rattle.std.specs.Str.{bytes_eq}
use Rattle.std.specs.Prelude.{◌&&◌, ◌==◌, if◌then◌else◌, is_some}
use Rattle.std.proofs.lemmas.Bool.{eq-eqb, false≢true}
use Rattle.clock_laws.specs.calls.Direct.{ClockState, going, signalling, with_entry}
use Rattle.clock_semantics.specs.Moves.{Move, ActivityStanding, made_by, resumes, started_by, with_pending}
use Rattle.clock_semantics.specs.Unfolding.{ClockNames, ClockUnfolding}
use Rattle.clock_semantics.specs.calls.ProgramPoints.{ProgramPoint}
use Rattle.clock_laws.specs.TextMachine.{Acting, Activity, Clock, Continuation, Made, TextState, goes_to, is_made, is_there, over, signalled_by, signals, with_clock}
use Rattle.clock_laws.specs.TextNumbers.{IsActivityIn, made_in, number_in}
use Rattle.clock_laws.proofs.Changing.{ListsChange, acts_other, acts_own, agrees_same, changed, clock_entry, clock_same, phase_same, remember_entry, this_or_other}
use Rattle.clock_laws.proofs.Corresponding.{ActsAs, Corresponds, Finishes, Fits, IsClock, Knows, Stands, Tells, bottom, registered, target_at}
use Rattle.clock_laws.proofs.Makes.{Makes}
use Rattle.clock_laws.proofs.Stepped.{done_more}
use Rattle.clock_laws.proofs.Tables.{Agrees, HaveNames, entry_agrees, in_without, is_in, made_itself, other_bytes, other_made, same_activity, same_made}

number_is : (p q : ℕ) → ◌≡◌ {A = Option ℕ} (Some p) (Some q) → p ≡ q
number_is p q e = cc

-- the moves that the actor has left, and those of another one
pub left_own : (u : ClockUnfolding) (a : Activity) (ms : List Move) (m : ClockState) → (going (number_in u a) ms m).left (number_in u a) ≡ ms
left_own u a ms m = ap (λ b. if b then ms else m.left (number_in u a)) (eq-eqb (number_in u a) (number_in u a) refl)

pub left_other :
    (u : ClockUnfolding) (names : HaveNames u) (a b : Activity) (ms : List Move) (m : ClockState) → IsActivityIn u a → IsActivityIn u b → b ≢ a →
    (going (number_in u a) ms m).left (number_in u b) ≡ m.left (number_in u b)
left_other u names a b ms m x y n =
    ap (λ c. if c then ms else m.left (number_in u b)) (sym (same_activity u names a b x y) ∙ other_bytes a b (λ e. n (sym e)))

-- a table entry that is taken away was there
pub less : (c o : Bool) → (if c then false else o) ≡ true → o ≡ true
less true o e = absurd (false≢true e)
less false o e = e

module _ (u : ClockUnfolding) (names : HaveNames u) (s : TextState) (m : ClockState) (h : Corresponds u s m) (a : Activity) (there : is_there s a ≡ true) where
  abbrev t : ℕ
  t = number_in u a

  abbrev x : Acting
  x = s.acting a

  pub inside : IsActivityIn u a
  inside = h.holds.inside a there

  -- ---- lists that only lose the actor

  pub lists_less :
      (v : TextState) → ((q : Made) (b : Activity) → is_in b (v.clock_of q).enrolled ≡ true → is_in b (s.clock_of q).enrolled ≡ true) →
      ((q : Made) (b : Activity) → is_in b (v.clock_of q).unsignalled ≡ true → is_in b (s.clock_of q).unsignalled ≡ true) →
      ((q : Made) (b : Activity) → b ≢ a → is_in b (v.clock_of q).enrolled ≡ is_in b (s.clock_of q).enrolled) → v.open_set ≡ s.open_set →
      ((b : Activity) → (s.acting b).made ≤ (v.acting b).made) → bottom u (v.acting a).rest ≡ bottom u x.rest → ListsChange u names s m h a there v
  lists_less v enrolled unsignalled others sets made bottoms =
      record {
        enrolled_in = λ p b e. inl (enrolled p b e);
        unsignalled_in = λ p b e. inl (unsignalled p b e);
        open_in = λ p b e. ap (λ (f : Made → List Activity). is_in b (f p)) (sym sets) ∙ e;
        others = others;
        fresh = λ p b l.
            let before = h.holds.fresh p b (omega (arith, l, made p.maker)) in (
              still (is_in b (v.clock_of p).enrolled) (is_in b (s.clock_of p).enrolled) refl (enrolled p b) before.0,
              still (is_in b (v.clock_of p).unsignalled) (is_in b (s.clock_of p).unsignalled) refl (unsignalled p b) before.1,
            );
        bottom_same = λ p e. bottoms;
      }
    where
      still : (c o : Bool) → c ≡ c → (c ≡ true → o ≡ true) → o ≡ false → c ≡ false
      still true o r f e = absurd (false≢true (sym e ∙ f refl))
      still false o r f e = refl

  pub made_kept : (v : TextState) (y : Acting) → v.acting a ≡ y → ((b : Activity) → b ≢ a → v.acting b ≡ s.acting b) → x.made ≤ y.made → (b : Activity) →
      (s.acting b).made ≤ (v.acting b).made
  made_kept v y own other more b =
      elim (this_or_other a b) [
        | inl same ↦ subst (λ z. (s.acting z).made ≤ (v.acting z).made) (sym same) (omega (arith, more, ap (λ (z : Acting). z.made) own))
        | inr n ↦ omega (arith, ap (λ (z : Acting). z.made) (other b n))
      ]

  -- and lists that stay
  pub lists_acting :
      (acting : Activity → Acting) (y : Acting) → acting a ≡ y → ((b : Activity) → b ≢ a → acting b ≡ s.acting b) → x.made ≤ y.made →
      bottom u y.rest ≡ bottom u x.rest →
      ListsChange u names s m h a there (record s { acting = acting })
  lists_acting acting y own other made bottoms =
      lists_less (record s { acting = acting }) (λ q b e. e) (λ q b e. e) (λ q b e. refl) refl (made_kept (record s { acting = acting }) y own other made)
      (ap (λ (z : Acting). bottom u z.rest) own ∙ bottoms)

  -- ---- the actor makes a move

  -- behind a move the actor is y, the tables are those of state n, and these moves are left
  pub moves_by :
      (v : TextState) (y : Acting) (moved : Move) (ms : List Move) (n : ClockState) → n.left ≡ m.left → v.acting a ≡ y →
      ((b : Activity) → b ≢ a → v.acting b ≡ s.acting b) → v.there ≡ s.there → Tells u v n → ListsChange u names s m h a there v → m.left t ≡ moved ∷ ms →
      y.started ≡ x.started + length (started_by (moved ∷ [])) → y.made ≡ x.made + length (made_by (moved ∷ [])) →
      (((y.rest ≡ over) × (ms ≡ [])) ⊎ Stands u y y.rest ms (registered u v a)) → Corresponds u v (going t ms n)
  moves_by v y moved ms n lefts own other same tells lists is started made stands =
      changed u names s m h a there v (going t ms n)
      (record {
        tells = record {
          phase = tells.phase;
          enrolled = tells.enrolled;
          unsignalled = tells.unsignalled;
          open_set = tells.open_set;
          remembers = tells.remembers;
          started = tells.started;
        };
        same_there = same;
        other_acts = other;
        other_left = λ b within k. left_other u names a b ms n inside within k ∙ ap (λ f. f (number_in u b)) lefts;
        lists = lists;
        started = omega (arith, started, ap (λ (z : Acting). z.started) own);
        own =
            subst (λ z. ActsAs u t z ((going t ms n).left t) (registered u v a)) (sym own)
            (subst (λ zs. ActsAs u t y zs (registered u v a)) (sym (left_own u a ms n))
            (done_more u t x y (m.left t) (moved ∷ []) ms (registered u s a) (registered u v a) (h.acts a there) is started made stands));
      })

  -- ---- a signal

  module _ (p : Made) (clock : IsClock u p) where
    abbrev k : Clock
    k = s.clock_of p

    abbrev signal : Option ℕ
    signal = Some k.phase

    abbrev signalled : Acting
    signalled = record x { remembers = λ q. if is_made p q then signal else x.remembers q }

    signal_unsignalled :
        (q : Made) (b : Activity) → is_in b ((with_clock p (signalled_by a k) s).clock_of q).unsignalled ≡ (if is_made p q && bytes_eq a b then false else is_in b (s.clock_of q).unsignalled)
    signal_unsignalled = clock_entry s p (signalled_by a k) (λ (z : Clock). z.unsignalled) a false (λ b. in_without a b k.unsignalled)

    -- the tables behind a signal, where the actor is y
    tells_signal :
        (v : TextState) (y : Acting) → v.there ≡ s.there → v.clock_of ≡ (with_clock p (signalled_by a k) s).clock_of → v.open_set ≡ s.open_set → v.acting a ≡ y →
        ((b : Activity) → b ≢ a → v.acting b ≡ s.acting b) → ((q : Made) → y.remembers q ≡ (if is_made p q then signal else x.remembers q)) →
        Tells u v (signalling t (made_in u p) m)
    tells_signal v y same clocks sets own other remembers =
        record {
          phase = λ q is.
              ap (λ (f : Made → Clock). (f q).phase) clocks ∙ phase_same s p (signalled_by a k) refl q ∙ h.tells.phase q is;
          enrolled =
              agrees_same u (λ q b. is_in b (s.clock_of q).enrolled) (λ q b. is_in b (v.clock_of q).enrolled) m.enrolled
              (λ q b. ap (λ (f : Made → Clock). is_in b (f q).enrolled) clocks ∙ clock_same s p (signalled_by a k) (λ (z : Clock). z.enrolled) (λ c. refl) q b)
              h.tells.enrolled;
          unsignalled =
              entry_agrees u names (λ q b. is_in b (s.clock_of q).unsignalled) (λ q b. is_in b (v.clock_of q).unsignalled) m.unsignalled p a false clock.0 inside
              (λ q b. ap (λ (f : Made → Clock). is_in b (f q).unsignalled) clocks ∙ signal_unsignalled q b) h.tells.unsignalled;
          open_set =
              agrees_same u (λ q b. is_in b (s.open_set q)) (λ q b. is_in b (v.open_set q)) m.open_set
              (λ q b. ap (λ (f : Made → List Activity). is_in b (f q)) sets) h.tells.open_set;
          remembers =
              subst (λ (n : ℕ). Agrees u (λ q b. (v.acting b).remembers q) (with_entry m.remembered (made_in u p) t (Some n))) (h.tells.phase p clock.0)
              (entry_agrees u names (λ q b. (s.acting b).remembers q) (λ q b. (v.acting b).remembers q) m.remembered p a signal clock.0 inside
              (remember_entry s v a y p signal own other remembers) h.tells.remembers);
          started = λ b is. ap (λ xs. is_in b xs) same ∙ h.tells.started b is;
        }

    -- the lists behind it
    lists_signal :
        (v : TextState) (y : Acting) → v.clock_of ≡ (with_clock p (signalled_by a k) s).clock_of → v.open_set ≡ s.open_set → v.acting a ≡ y →
        ((b : Activity) → b ≢ a → v.acting b ≡ s.acting b) → x.made ≤ y.made → bottom u y.rest ≡ bottom u x.rest → ListsChange u names s m h a there v
    lists_signal v y clocks sets own other made bottoms =
        lists_less v
        (λ q b e. sym (enrolled_kept q b) ∙ e)
        (λ q b e. less (is_made p q && bytes_eq a b) (is_in b (s.clock_of q).unsignalled)
        (sym (signal_unsignalled q b) ∙ sym (ap (λ (f : Made → Clock). is_in b (f q).unsignalled) clocks) ∙ e))
        (λ q b n. enrolled_kept q b) sets (made_kept v y own other made) (ap (λ (z : Acting). bottom u z.rest) own ∙ bottoms)
      where
        enrolled_kept : (q : Made) (b : Activity) → is_in b (v.clock_of q).enrolled ≡ is_in b (s.clock_of q).enrolled
        enrolled_kept q b =
            ap (λ (f : Made → Clock). is_in b (f q).enrolled) clocks ∙ clock_same s p (signalled_by a k) (λ (z : Clock). z.enrolled) (λ c. refl) q b

    -- on which clocks the actor is registered behind it
    still_registered : (v : TextState) → v.clock_of ≡ (with_clock p (signalled_by a k) s).clock_of → (q : Made) → registered u v a q ≡ registered u s a q
    still_registered v clocks q =
        ap (λ (f : Made → Clock). is_in a (f q).enrolled) clocks ∙ clock_same s p (signalled_by a k) (λ (z : Clock). z.enrolled) (λ c. refl) q a

    -- what is remembered of this clock, and of another one
    pub remembered_here : (o : Option ℕ) → (if is_made p p then o else x.remembers p) ≡ o
    remembered_here o = ap (λ b. if b then o else x.remembers p) (made_itself p)

    pub remembered_other : (o : Option ℕ) (q : Made) → q ≢ p → (if is_made p q then o else x.remembers q) ≡ x.remembers q
    remembered_other o q n = ap (λ b. if b then o else x.remembers q) (other_made p q (λ e. n (sym e)))

    module _ (c : Continuation) (left : List Move) (point : ProgramPoint) (ns : ClockNames) (standing : ActivityStanding) (rest_is : x.rest ≡ c) (left_is : m.left t ≡ left)
        (knows : Knows u x c ns standing (registered u s a)) where
      -- ---- a signal at an advance, which stays there

      pub signals_here : Fits u point c → Makes u point ns standing left → target_at u x c ≡ Some p → target_at u signalled c ≡ Some p →
          Corresponds u (signals a p s) (signalling t (made_in u p) m)
      signals_here fits makes at still_at =
          let w = with_clock p (signalled_by a k) s in
          let v = signals a p s in
          let own : v.acting a ≡ signalled = acts_own a signalled w in
          let other = acts_other a signalled w in
          changed u names s m h a there v (signalling t (made_in u p) m)
          (record {
            tells = tells_signal v signalled refl refl refl own other (λ q. refl);
            same_there = refl;
            other_acts = other;
            other_left = λ b is n. refl;
            lists = lists_signal v signalled refl refl own other (omega arith) refl;
            started = omega (arith, ap (λ (z : Acting). z.started) own);
            own =
                subst (λ z. ActsAs u t z (m.left t) (registered u v a)) (sym own)
                (done_more u t x signalled (m.left t) [] (m.left t) (registered u s a) (registered u v a) (h.acts a there) refl (omega arith) (omega arith)
                (inr (subst (λ z. Stands u signalled z (m.left t) (registered u v a)) (sym rest_is)
                (record {
                  point = point;
                  names = ns;
                  standing = standing;
                  fits = fits;
                  makes = subst (Makes u point ns standing) (sym left_is) makes;
                  knows = record {
                    named = knows.named;
                    clocks = knows.clocks;
                    members = λ q is. knows.members q is ∙ sym (still_registered v refl q);
                    pending = λ q is n.
                        let differs : q ≢ p = λ e. n (still_at ∙ ap (λ z. Some z) (sym e)) in
                        knows.pending q is (λ e. differs (same_target q p (sym e ∙ at))) ∙ ap is_some (sym (remembered_other signal q differs));
                    finishes = knows.finishes;
                  };
                }))));
          })
        where
          same_target : (q r : Made) → ◌≡◌ {A = Option Made} (Some q) (Some r) → q ≡ r
          same_target q r e = cc

      -- ---- a resume

      pub resumes_now :
          (d : Continuation) (at : ProgramPoint) (ms : List Move) → left ≡ resumes (made_in u p) ∷ ms → Fits u at d →
          Makes u at ns (with_pending (made_in u p) true standing) ms → Finishes u d → target_at u x c ≡ None → bottom u d ≡ bottom u c →
          Corresponds u (goes_to a d (signals a p s)) (going t ms (signalling t (made_in u p) m))
      resumes_now d at ms move fits makes finishes none bottoms =
          let w = with_clock p (signalled_by a k) s in
          let y : Acting = record signalled { rest = d } in
          let v = goes_to a d (signals a p s) in
          let own : v.acting a ≡ y = acts_own a (record ((signals a p s).acting a) { rest = d }) (signals a p s) ∙ ap (λ (z : Acting). record z { rest = d }) (acts_own a signalled w) in
          let other : (b : Activity) → b ≢ a → v.acting b ≡ s.acting b =
          λ b n. acts_other a (record ((signals a p s).acting a) { rest = d }) (signals a p s) b n ∙ acts_other a signalled w b n in
          moves_by v y (resumes (made_in u p)) ms (signalling t (made_in u p) m) refl own other refl (tells_signal v y refl refl refl own other (λ q. refl))
          (lists_signal v y refl refl own other (omega arith) (bottoms ∙ ap (bottom u) (sym rest_is))) (left_is ∙ move) (omega arith) (omega arith)
          (inr (record {
            point = at;
            names = ns;
            standing = with_pending (made_in u p) true standing;
            fits = fits;
            makes = makes;
            knows = record {
              named = knows.named;
              clocks = knows.clocks;
              members = λ q is. knows.members q is ∙ sym (still_registered v refl q);
              pending = λ q is differs. by q is (is_made p q) refl;
              finishes = finishes;
            };
          }))
        where
          by : (q : Made) → IsClock u q → (b : Bool) → is_made p q ≡ b →
              (if made_in u q == made_in u p then true else standing.pending (made_in u q)) ≡ is_some (if is_made p q then signal else x.remembers q)
          by q is true e =
              ap (λ b. if b then true else standing.pending (made_in u q)) (sym (same_made u names p q clock.0 is.0) ∙ e)
              ∙ sym (ap (λ b. is_some (if b then signal else x.remembers q)) e)
          by q is false e =
              ap (λ b. if b then true else standing.pending (made_in u q)) (sym (same_made u names p q clock.0 is.0) ∙ e)
              ∙ knows.pending q is (λ z. absurd (let r = sym none ∙ z in cc))
              ∙ sym (ap (λ b. is_some (if b then signal else x.remembers q)) e)
