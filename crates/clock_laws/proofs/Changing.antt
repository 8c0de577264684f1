-- Where one activity acts: what stays of the others, and which tables change at one entry.
use Rattle.std.proofs.Common.{◌≡◌, ◌≢◌, ℕ, ◌<◌, ◌≤◌, Bool, true, false, Option, Some, List, ◌∷◌, arith, sym, ◌∙◌, ap, subst, refl, ◌⊎◌, inl, inr}
use Rattle.std.specs.List.{list_any}
use Rattle.std.specs.Str.{bytes_eq}
use Rattle.std.specs.Prelude.{◌&&◌, if◌then◌else◌}
use Rattle.std.proofs.lemmas.Bool.{false≢true}
use Rattle.clock_laws.specs.calls.Direct.{ClockState}
use Rattle.clock_semantics.specs.Unfolding.{ClockUnfolding}
use Rattle.clock_laws.specs.TextMachine.{Acting, Activity, Clock, Made, TextState, acts, is_made, is_there, with_clock}
use Rattle.clock_laws.specs.TextNumbers.{IsActivityIn, number_in}
use Rattle.clock_laws.proofs.Corresponding.{ActsAs, Corresponds, Holds, Tells, bottom, on_same, registered}
use Rattle.clock_laws.proofs.Tables.{Agrees, HaveNames, bytes_itself, is_in, made_same, other_bytes, same_bytes}

-- an activity is this one, or another
pub this_or_other : (a b : Activity) → (b ≡ a) ⊎ (b ≢ a)
this_or_other a b = by (bytes_eq a b) refl
  where
    by : (c : Bool) → bytes_eq a b ≡ c → (b ≡ a) ⊎ (b ≢ a)
    by true e = inl (sym (same_bytes a b e))
    by false e = inr (λ same. absurd (false≢true (sym e ∙ subst (λ z. bytes_eq a z ≡ true) (sym same) (bytes_itself a))))

pub acts_own : (a : Activity) (y : Acting) (s : TextState) → (acts a y s).acting a ≡ y
acts_own a y s = ap (λ b. if b then y else s.acting a) (bytes_itself a)

pub acts_other : (a : Activity) (y : Acting) (s : TextState) (b : Activity) → b ≢ a → (acts a y s).acting b ≡ s.acting b
acts_other a y s b n = ap (λ c. if c then y else s.acting b) (other_bytes a b (λ e. n (sym e)))

-- ---- tables

pub agrees_same :
    {A : Type 0} (u : ClockUnfolding) (f f' : Made → Activity → A) (g : ℕ → ℕ → A) → ((q : Made) (b : Activity) → f' q b ≡ f q b) → Agrees u f g → Agrees u f' g
agrees_same u f f' g same agrees p a x y = same p a ∙ agrees p a x y

-- one clock changes
module _ (s : TextState) (p : Made) (k : Clock) (side : Clock → List Activity) where
  pub clock_entry :
      (a : Activity) (v : Bool) → ((b : Activity) → is_in b (side k) ≡ (if bytes_eq a b then v else is_in b (side (s.clock_of p)))) → (q : Made) (b : Activity) →
      is_in b (side ((with_clock p k s).clock_of q)) ≡ (if is_made p q && bytes_eq a b then v else is_in b (side (s.clock_of q)))
  clock_entry a v is q b = by (is_made p q) refl
    where
      by : (c : Bool) → is_made p q ≡ c →
          is_in b (side (if c then k else s.clock_of q)) ≡ (if c && bytes_eq a b then v else is_in b (side (s.clock_of q)))
      by true e = is b ∙ ap (λ z. if bytes_eq a b then v else is_in b (side (s.clock_of z))) (made_same p q e)
      by false e = refl

  pub clock_same :
      ((b : Activity) → is_in b (side k) ≡ is_in b (side (s.clock_of p))) → (q : Made) (b : Activity) →
      is_in b (side ((with_clock p k s).clock_of q)) ≡ is_in b (side (s.clock_of q))
  clock_same is q b = by (is_made p q) refl
    where
      by : (c : Bool) → is_made p q ≡ c → is_in b (side (if c then k else s.clock_of q)) ≡ is_in b (side (s.clock_of q))
      by true e = is b ∙ ap (λ z. is_in b (side (s.clock_of z))) (made_same p q e)
      by false e = refl

pub phase_same : (s : TextState) (p : Made) (k : Clock) → k.phase ≡ (s.clock_of p).phase → (q : Made) → ((with_clock p k s).clock_of q).phase ≡ (s.clock_of q).phase
phase_same s p k is q = by (is_made p q) refl
  where
    by : (c : Bool) → is_made p q ≡ c → (if c then k else s.clock_of q).phase ≡ (s.clock_of q).phase
    by true e = is ∙ ap (λ z. (s.clock_of z).phase) (made_same p q e)
    by false e = refl

-- the actor remembers something else of one clock
pub remember_entry :
    (s r : TextState) (a : Activity) (y : Acting) (p : Made) (v : Option ℕ) → r.acting a ≡ y → ((b : Activity) → b ≢ a → r.acting b ≡ s.acting b) →
    ((q : Made) → y.remembers q ≡ (if is_made p q then v else (s.acting a).remembers q)) → (q : Made) (b : Activity) →
    (r.acting b).remembers q ≡ (if is_made p q && bytes_eq a b then v else (s.acting b).remembers q)
remember_entry s r a y p v own other is q b = by (bytes_eq a b) refl
  where
    last : (c : Bool) → (if c then v else (s.acting a).remembers q) ≡ (if c && true then v else (s.acting a).remembers q)
    last true = refl
    last false = refl

    none : (c : Bool) → (s.acting b).remembers q ≡ (if c && false then v else (s.acting b).remembers q)
    none true = refl
    none false = refl

    by : (c : Bool) → bytes_eq a b ≡ c → (r.acting b).remembers q ≡ (if is_made p q && c then v else (s.acting b).remembers q)
    by true e =
        let same = same_bytes a b e in
        subst (λ z. (r.acting z).remembers q ≡ (if is_made p q && true then v else (s.acting z).remembers q)) same
        (ap (λ (z : Acting). z.remembers q) own ∙ is q ∙ last (is_made p q))
    by false e = ap (λ (z : Acting). z.remembers q) (other b (λ same. absurd (false≢true (sym e ∙ subst (λ z. bytes_eq a z ≡ true) (sym same) (bytes_itself a))))) ∙ none (is_made p q)

-- the actor remembers the same
pub remember_same :
    (s r : TextState) (a : Activity) (y : Acting) → r.acting a ≡ y → ((b : Activity) → b ≢ a → r.acting b ≡ s.acting b) →
    ((q : Made) → y.remembers q ≡ (s.acting a).remembers q) → (q : Made) (b : Activity) → (r.acting b).remembers q ≡ (s.acting b).remembers q
remember_same s r a y own other is q b =
    elim (this_or_other a b) [
      | inl same ↦ subst (λ z. (r.acting z).remembers q ≡ (s.acting z).remembers q) (sym same) (ap (λ (z : Acting). z.remembers q) own ∙ is q)
      | inr n ↦ ap (λ (z : Acting). z.remembers q) (other b n)
    ]

-- ---- the states behind

module _ (u : ClockUnfolding) (names : HaveNames u) (s : TextState) (m : ClockState) (h : Corresponds u s m) (a : Activity) (there : is_there s a ≡ true) where
  -- lists gain the actor alone
  pub record ListsChange (r : TextState) : Type 0 where
    pub enrolled_in : (p : Made) (b : Activity) → is_in b (r.clock_of p).enrolled ≡ true → (is_in b (s.clock_of p).enrolled ≡ true) ⊎ (b ≡ a)
    pub unsignalled_in : (p : Made) (b : Activity) → is_in b (r.clock_of p).unsignalled ≡ true → (is_in b (s.clock_of p).unsignalled ≡ true) ⊎ (b ≡ a)
    pub open_in : (p : Made) (b : Activity) → is_in b (r.open_set p) ≡ true → is_in b (s.open_set p) ≡ true
    pub others : (p : Made) (b : Activity) → b ≢ a → is_in b (r.clock_of p).enrolled ≡ is_in b (s.clock_of p).enrolled
    pub fresh : (p : Made) (b : Activity) → (r.acting p.maker).made ≤ p.before →
        (is_in b (r.clock_of p).enrolled ≡ false) × (is_in b (r.clock_of p).unsignalled ≡ false)
    pub bottom_same : (p : Made) → is_in a (r.open_set p) ≡ true → bottom u (r.acting a).rest ≡ bottom u (s.acting a).rest

  -- the tables are the same where the actor alone has changed, and remembers the same
  pub tells_acting :
      (acting : Activity → Acting) (y : Acting) → acting a ≡ y → ((b : Activity) → b ≢ a → acting b ≡ s.acting b) →
      ((q : Made) → y.remembers q ≡ (s.acting a).remembers q) →
      Tells u (record s { acting = acting }) m
  tells_acting acting y own other same =
      record {
        phase = h.tells.phase;
        enrolled = h.tells.enrolled;
        unsignalled = h.tells.unsignalled;
        open_set = h.tells.open_set;
        remembers =
            agrees_same u (λ q b. (s.acting b).remembers q) (λ q b. (acting b).remembers q) m.remembered
            (remember_same s (record s { acting = acting }) a y own other same) h.tells.remembers;
        started = h.tells.started;
      }

  -- where activity a acts, these are the states behind
  pub record Changes (r : TextState) (n : ClockState) : Type 0 where
    pub tells : Tells u r n
    pub same_there : r.there ≡ s.there
    pub other_acts : (b : Activity) → b ≢ a → r.acting b ≡ s.acting b
    pub other_left : (b : Activity) → IsActivityIn u b → b ≢ a → n.left (number_in u b) ≡ m.left (number_in u b)
    pub lists : ListsChange r
    pub started : (s.acting a).started ≤ (r.acting a).started
    pub own : ActsAs u (number_in u a) (r.acting a) (n.left (number_in u a)) (registered u r a)

  module _ (r : TextState) (n : ClockState) (c : Changes r n) where
    was_there : (b : Activity) → is_there r b ≡ is_there s b
    was_there b = ap (λ xs. list_any (bytes_eq b) xs) c.same_there

    either_there : (p : Made) (b : Activity) (x : Bool) → x ≡ is_there s b → x ≡ true → is_there r b ≡ true
    either_there p b x is e = was_there b ∙ sym is ∙ e

    actor_there : (b : Activity) → b ≡ a → is_there r b ≡ true
    actor_there b same = was_there b ∙ subst (λ z. is_there s z ≡ true) (sym same) there

    -- who is not there is another one
    not_actor : (b : Activity) → is_there r b ≡ false → b ≢ a
    not_actor b e same = false≢true (sym e ∙ actor_there b same)

    holds_behind : Holds u r
    holds_behind =
        record {
          inside = λ b e. h.holds.inside b (sym (was_there b) ∙ e);
          enrolled_in = λ p b e.
              elim (c.lists.enrolled_in p b e) [ inl old ↦ was_there b ∙ h.holds.enrolled_in p b old | inr same ↦ actor_there b same ];
          unsignalled_in = λ p b e.
              elim (c.lists.unsignalled_in p b e) [ inl old ↦ was_there b ∙ h.holds.unsignalled_in p b old | inr same ↦ actor_there b same ];
          open_in = λ p b e. was_there b ∙ h.holds.open_in p b (c.lists.open_in p b e);
          under = λ p b e.
              let before = h.holds.under p b (c.lists.open_in p b e) in
              elim (this_or_other a b) [
                | inl same ↦
                    subst (λ z. bottom u (r.acting z).rest ≡ Some p) (sym same)
                    (c.lists.bottom_same p (subst (λ z. is_in z (r.open_set p) ≡ true) same e) ∙ subst (λ z. bottom u (s.acting z).rest ≡ Some p) same before)
                | inr other ↦ ap (λ (z : Acting). bottom u z.rest) (c.other_acts b other) ∙ before
              ];
          fresh = c.lists.fresh;
          unstarted = λ b e. c.other_acts b (not_actor b e) ∙ h.holds.unstarted b (sym (was_there b) ∙ e);
          children = λ k b e.
              let before = h.holds.children k b (sym (was_there (k ∷ b)) ∙ e) in
              elim (this_or_other a b) [
                | inl same ↦
                    subst (λ z. k < (r.acting z).started) (sym same) (omega (arith, c.started, subst (λ z. k < (s.acting z).started) same before))
                | inr other ↦ subst (λ (z : Acting). k < z.started) (sym (c.other_acts b other)) before
              ];
        }

    pub changed : Corresponds u r n
    changed =
        record {
          tells = c.tells;
          holds = holds_behind;
          acts = λ b e.
              elim (this_or_other a b) [
                | inl same ↦
                    subst (λ z. ActsAs u (number_in u z) (r.acting z) (n.left (number_in u z)) (registered u r z)) (sym same) c.own
                | inr other ↦
                    (let was = sym (was_there b) ∙ e in
                    let inside = h.holds.inside b was in
                    subst (λ x. ActsAs u (number_in u b) x (n.left (number_in u b)) (registered u r b)) (sym (c.other_acts b other))
                    (subst (λ ms. ActsAs u (number_in u b) (s.acting b) ms (registered u r b)) (sym (c.other_left b inside other))
                    (on_same u (number_in u b) (s.acting b) (m.left (number_in u b)) (registered u s b) (registered u r b) (λ p. c.lists.others p b other)
                    (h.acts b was))))
              ];
          waits = λ b x e. c.other_left b x (not_actor b e) ∙ h.waits b x (sym (was_there b) ∙ e);
        }
