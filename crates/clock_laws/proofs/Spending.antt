-- Each step of the machine on the text takes one of the steps that its activities have left.
use Rattle.std.proofs.Common.{◌≡◌, ◌≢◌, ℕ, zero, suc, ◌+◌, ◌-◌, ◌*◌, ◌<◌, ◌≤◌, Bool, true, false, Option, Some, None, List, [], ◌∷◌, ◌++◌, arith, sym, ◌∙◌, ap, subst, refl, ◌⊎◌, inl, inr}
use Rattle.std.specs.Str.{bytes_eq}
use Rattle.std.specs.Prelude.{◌||◌, if◌then◌else◌, is_some, nat_lt}
use Rattle.std.proofs.lemmas.Bool.{false≢true}
use Rattle.clock_syntax.specs.Trees.{ClockTree, advance, async, clock, done, drop, finish, loop, plain, resume, skip}
use Rattle.clock_laws.specs.calls.TextLaws.{most_steps}
use Rattle.clock_laws.specs.TextMachine.{Acting, Activity, Continuation, Made, TextState, TextStep, acts, advance_on, beginning, clock_here, clocks_go_on, clocks_here, closes, departs, departs_from_all, does_next, enrols_on, goes, goes_to, governing, is_empty, is_made, is_there, leaves, left_by, has_made, opens_clock, next_made, over, reads, remembering, signalled_by, signals, starts_one, then_clocks, turns, waits, with_clock, with_open_set, without_activity}
use Rattle.clock_laws.proofs.Changing.{acts_other, acts_own, this_or_other}
use Rattle.clock_laws.proofs.Starting.{enrols_acting, enrols_there}
use Rattle.clock_laws.proofs.Stepped.{clock_found, found}
use Rattle.clock_laws.proofs.Tables.{bytes_itself, is_in, made_itself, other_bytes}

goes_is : (s r : TextState) → ◌≡◌ {A = TextStep} (goes s) (goes r) → s ≡ r
goes_is s r e = cc

-- ---- what is left

-- the steps of what is still to do
abbrev pub weight : Continuation → ℕ
weight (reads body rest) = most_steps body + weight rest
weight (turns k body rest) = k * (1 + most_steps body) + 1 + weight rest
weight (closes f rest) = 1 + weight rest
weight (leaves f) = 1
weight over = 0

-- one step less where a signal is remembered
abbrev memory_of : Acting → Option Made → ℕ
memory_of x None = 0
memory_of x (Some p) = if is_some (x.remembers p) then 1 else 0

-- where it stands at an advance behind its signal
abbrev signalled : Acting → Continuation → ℕ
signalled x (reads (plain (advance y) more) rest) = memory_of x (x.names y)
signalled x c = 0

-- the steps that an activity has left
abbrev pub worth : Acting → ℕ
worth x = weight x.rest - signalled x x.rest

-- those of a list of activities
abbrev pub total_of : (Activity → ℕ) → List Activity → ℕ
total_of f [] = 0
total_of f (a ∷ more) = f a + total_of f more

-- where one of a list has fewer, and the others no more
total_less :
    (f g : Activity → ℕ) (a : Activity) (extra : ℕ) (xs : List Activity) → is_in a xs ≡ true → f a + extra < g a → ((b : Activity) → b ≢ a → is_in b xs ≡ true → f b ≤ g b) →
    extra + total_of f xs < total_of g xs
total_less f g a extra [] is less others = absurd (false≢true is)
total_less f g a extra (b ∷ xs) is less others =
    elim (this_or_other a b) [
      | inl same ↦ elim (or_not a xs) [
        | inl again ↦
            (let rest = total_less f g a extra xs again less (λ c n l. others c n (right c b xs l)) in
            omega (arith, rest, less, ap f same, ap g same))
        | inr once ↦
            (let rest = no_more f g a xs once (λ c n l. others c n (right c b xs l)) in
            omega (arith, rest, less, ap f same, ap g same))
      ]
      | inr n ↦
          (let rest = total_less f g a extra xs (behind n is) less (λ c k l. others c k (right c b xs l)) in
          omega (arith, rest, others b n (first b xs)))
    ]
  where
    or_not : (a : Activity) (xs : List Activity) → (is_in a xs ≡ true) ⊎ (is_in a xs ≡ false)
    or_not a xs = by (is_in a xs) refl
      where
        by : (c : Bool) → is_in a xs ≡ c → (is_in a xs ≡ true) ⊎ (is_in a xs ≡ false)
        by true e = inl e
        by false e = inr e

    first : (b : Activity) (xs : List Activity) → is_in b (b ∷ xs) ≡ true
    first b xs = ap (λ c. c || is_in b xs) (bytes_itself b)

    right : (c b : Activity) (xs : List Activity) → is_in c xs ≡ true → is_in c (b ∷ xs) ≡ true
    right c b xs e = by (bytes_eq c b)
      where
        by : (o : Bool) → (o || is_in c xs) ≡ true
        by true = refl
        by false = e

    behind : b ≢ a → is_in a (b ∷ xs) ≡ true → is_in a xs ≡ true
    behind n e = sym (ap (λ o. o || is_in a xs) (other_bytes a b (λ k. n (sym k)))) ∙ e

    no_more : (f g : Activity → ℕ) (a : Activity) (xs : List Activity) → is_in a xs ≡ false → ((b : Activity) → b ≢ a → is_in b xs ≡ true → f b ≤ g b) → total_of f xs ≤ total_of g xs
    no_more f g a [] none others = omega arith
    no_more f g a (b ∷ xs) none others =
        let differs : b ≢ a = λ same. false≢true (sym none ∙ subst (λ z. is_in z (b ∷ xs) ≡ true) same (first b xs)) in
        let left : is_in a xs ≡ false = sym (ap (λ o. o || is_in a xs) (other_bytes a b (λ k. differs (sym k)))) ∙ none in
        omega (arith, no_more f g a xs left (λ c n l. others c n (right c b xs l)), others b differs (first b xs))

-- ---- a step

lower : (y : Acting) → worth y ≤ weight y.rest
lower y = omega arith

module _ (s : TextState) (a : Activity) where
  abbrev x : Acting
  x = s.acting a

  -- who is new, who acts as before, and what the actor has less
  pub record Spends (v : TextState) : Type 0 where
    pub new : List Activity
    pub there_is : v.there ≡ new ++ s.there
    pub others : (b : Activity) → b ≢ a → is_in b new ≡ false → v.acting b ≡ s.acting b
    pub apart : (b : Activity) → is_in b new ≡ true → is_there s b ≡ false
    pub fewer : worth (v.acting a) + total_of (λ b. worth (v.acting b)) new < worth x

  -- nobody is new
  alone : (v : TextState) → v.there ≡ s.there → ((b : Activity) → b ≢ a → v.acting b ≡ s.acting b) → worth (v.acting a) < worth x → Spends v
  alone v there others fewer = record { new = []; there_is = there; others = λ b n l. others b n; apart = λ b e. absurd (false≢true e); fewer = omega (arith, fewer) }

  -- this is still to do then
  goes_down :
      (v : TextState) (d : Continuation) → v.there ≡ s.there → ((b : Activity) → b ≢ a → v.acting b ≡ s.acting b) → (v.acting a).rest ≡ d → weight d < worth x → Spends v
  goes_down v d there others is less = alone v there others (omega (arith, lower (v.acting a), ap weight is, less))

  open_acting : (f : Option Made) (k : List Activity → List Activity) (r : TextState) → (with_open_set f k r).acting ≡ r.acting
  open_acting None k r = refl
  open_acting (Some g) k r = refl

  open_there : (f : Option Made) (k : List Activity → List Activity) (r : TextState) → (with_open_set f k r).there ≡ r.there
  open_there None k r = refl
  open_there (Some g) k r = refl

  module _ (c : Continuation) (rest_is : x.rest ≡ c) where
    worth_is : worth x ≡ weight c - signalled x c
    worth_is = ap (λ d. weight d - signalled x d) rest_is

    to : (d : Continuation) → signalled x c ≡ 0 → weight d < weight c → Spends (goes_to a d s)
    to d none less =
        goes_down (goes_to a d s) d refl (acts_other a (record x { rest = d }) s) (ap (λ (y : Acting). y.rest) (acts_own a (record x { rest = d }) s))
        (omega (arith, worth_is, none, less))

    -- behind another change of the actor's own
    to_from : (w : TextState) (d : Continuation) → w.there ≡ s.there → ((b : Activity) → b ≢ a → w.acting b ≡ s.acting b) → weight d < worth x → Spends (goes_to a d w)
    to_from w d there others less =
        goes_down (goes_to a d w) d there (λ b n. acts_other a (record (w.acting a) { rest = d }) w b n ∙ others b n)
        (ap (λ (y : Acting). y.rest) (acts_own a (record (w.acting a) { rest = d }) w)) less

  -- an activity that is started
  starts : (xs : List (List ℕ)) (body more : ClockTree) (rest : Continuation) (qs : List Made) → x.rest ≡ reads (async xs body more) rest → is_there s (x.started ∷ a) ≡ false →
      is_there s a ≡ true → Spends (starts_one a body qs (reads more rest) s)
  starts xs body more rest qs rest_is none there =
      record {
        new = k ∷ [];
        there_is = open_there f (λ cs. k ∷ cs) (enrols_on k qs w) ∙ enrols_there k qs w;
        others = λ b n l. ap (λ (g : Activity → Acting). g b) acting_is ∙ acts_other k born v b (λ e. absurd (false≢true (sym l ∙ ap (λ o. o || false) (subst (λ z. bytes_eq b z ≡ true) e (bytes_itself b))))) ∙ acts_other a busy s b n;
        apart = λ b e. elim (this_or_other k b) [
          | inl same ↦ subst (λ z. is_there s z ≡ false) (sym same) none
          | inr n ↦ absurd (false≢true (sym (ap (λ o. o || false) (other_bytes b k n)) ∙ e))
        ];
        fewer = omega (
          arith,
          lower busy,
          lower born,
          ap (λ (g : Activity → Acting). worth (g a)) acting_is,
          ap worth (acts_other k born v a other ∙ acts_own a busy s),
          ap (λ (g : Activity → Acting). worth (g k)) acting_is,
          ap worth (acts_own k born v),
          ap (λ d. weight d - signalled x d) rest_is,
        );
      }
    where
      k : Activity
      k = x.started ∷ a

      d : Continuation
      d = reads more rest

      f : Option Made
      f = governing d

      busy : Acting
      busy = record x { rest = d; started = x.started + 1 }

      born : Acting
      born = beginning (reads body (leaves f)) x.names

      v : TextState
      v = record (acts a busy s) { there = k ∷ s.there }

      w : TextState
      w = acts k born v

      acting_is : (starts_one a body qs d s).acting ≡ w.acting
      acting_is = open_acting f (λ cs. k ∷ cs) (enrols_on k qs w) ∙ enrols_acting k qs w

      other : a ≢ k
      other e = false≢true (sym none ∙ ap (is_there s) (sym e) ∙ there)

  -- ---- each kind

  behind : (v r : TextState) → Spends v → then_clocks (goes v) ≡ goes r → Spends r
  behind v r h e =
      subst Spends (goes_is (clocks_go_on v) r e) (record { new = h.new; there_is = h.there_is; others = h.others; apart = h.apart; fewer = h.fewer })

  advances : (y : List ℕ) (more : ClockTree) (rest : Continuation) (p : Made) → x.rest ≡ reads (plain (advance y) more) rest → x.names y ≡ Some p → (r : TextState) →
      (o : Option ℕ) → x.remembers p ≡ o → then_clocks (advance_on a (reads more rest) s p o) ≡ goes r → Spends r
  advances y more rest p rest_is named r None memory step =
      behind (signals a p s) r
      (alone (signals a p s) refl (acts_other a signal (with_clock p (signalled_by a (s.clock_of p)) s))
      (omega (
        arith,
        ap worth (acts_own a signal (with_clock p (signalled_by a (s.clock_of p)) s)),
        ap (λ d. weight d - signalled x d) rest_is,
        ap (λ d. weight d - signalled signal d) rest_is,
        ap (memory_of x) named ∙ ap (λ z. if is_some z then 1 else 0) memory,
        ap (memory_of signal) named ∙ ap (λ b. if is_some (if b then Some (s.clock_of p).phase else x.remembers p) then 1 else 0) (made_itself p),
      )))
      step
    where
      signal : Acting
      signal = record x { remembers = λ q. if is_made p q then Some (s.clock_of p).phase else x.remembers q }
  advances y more rest p rest_is named r (Some n) memory step = by (nat_lt n (s.clock_of p).phase) step
    where
      d : Continuation
      d = reads more rest

      gone : Acting
      gone = record x { remembers = λ q. if is_made p q then None else x.remembers q }

      by : (b : Bool) → then_clocks (if b then goes (goes_to a d (remembering a p None s)) else waits) ≡ goes r → Spends r
      by true step =
          behind (goes_to a d (remembering a p None s)) r
          (to_from (reads (plain (advance y) more) rest) rest_is (remembering a p None s) d refl (acts_other a gone s)
          (omega (
            arith,
            ap (λ d. weight d - signalled x d) rest_is,
            ap (memory_of x) named ∙ ap (λ z. if is_some z then 1 else 0) memory,
          )))
          step
      by false step = absurd cc

  pub spends : (c : Continuation) → x.rest ≡ c → is_there s a ≡ true → is_there s (x.started ∷ a) ≡ false → (r : TextState) → then_clocks (does_next a c s) ≡ goes r → Spends r
  spends (reads done rest) is there none r step = behind (goes_to a rest s) r (to (reads done rest) is rest refl (omega arith)) step
  spends (reads (plain (clock y) more) rest) is there none r step =
      let w : TextState = goes_to a (reads more rest) s in
      let p = next_made a s in
      let named : Acting = record (w.acting a) { names = λ z. if bytes_eq y z then Some p else (w.acting a).names z; made = (w.acting a).made + 1 } in
      let opened : TextState = with_clock p (record { phase = 0; enrolled = a ∷ []; unsignalled = a ∷ [] }) w in
      behind (opens_clock a y p w) r
      (goes_down (opens_clock a y p w) (reads more rest) refl
      (λ b n. acts_other a named opened b n ∙ acts_other a (record x { rest = reads more rest }) s b n)
      (ap (λ (z : Acting). z.rest) (acts_own a named opened) ∙ ap (λ (z : Acting). z.rest) (acts_own a (record x { rest = reads more rest }) s))
      (omega (arith, worth_is (reads (plain (clock y) more) rest) is)))
      step
  spends (reads (plain (advance y) more) rest) is there none r step =
      let g = found s a (λ q. advance_on a (reads more rest) s q (x.remembers q)) (clock_here false [] y a s) r step in
      advances y more rest g.0 is (clock_found s a false [] y g.0 g.1) r (x.remembers g.0) refl g.2
  spends (reads (plain (resume y) more) rest) is there none r step =
      let g = found s a (λ q. goes (goes_to a (reads more rest) (signals a q s))) (clock_here true [] y a s) r step in
      behind (goes_to a (reads more rest) (signals a g.0 s)) r
      (to_from (reads (plain (resume y) more) rest) is (signals a g.0 s) (reads more rest) refl
      (acts_other a (record x { remembers = λ q. if is_made g.0 q then Some (s.clock_of g.0).phase else x.remembers q }) (with_clock g.0 (signalled_by a (s.clock_of g.0)) s))
      (omega (arith, worth_is (reads (plain (resume y) more) rest) is)))
      g.2
  spends (reads (plain (drop y) more) rest) is there none r step =
      let g = found s a (λ q. goes (goes_to a (reads more rest) (departs a q s))) (clock_here false [] y a s) r step in
      behind (goes_to a (reads more rest) (departs a g.0 s)) r
      (to_from (reads (plain (drop y) more) rest) is (departs a g.0 s) (reads more rest) refl
      (acts_other a (record x { remembers = λ q. if is_made g.0 q then None else x.remembers q }) (with_clock g.0 (left_by a (s.clock_of g.0)) s))
      (omega (arith, worth_is (reads (plain (drop y) more) rest) is)))
      g.2
  spends (reads (plain skip more) rest) is there none r step =
      behind (goes_to a (reads more rest) s) r (to (reads (plain skip more) rest) is (reads more rest) refl (omega arith)) step
  spends (reads (async xs body more) rest) is there none r step =
      let g = found s a (λ qs. goes (starts_one a body qs (reads more rest) s)) (clocks_here [] xs a s) r step in
      behind (starts_one a body g.0 (reads more rest) s) r (starts xs body more rest g.0 is none there) g.2
  spends (reads (finish body more) rest) is there none r step =
      let d : Continuation = reads body (closes (next_made a s) (reads more rest)) in
      behind (goes_to a d (has_made a s)) r
      (to_from (reads (finish body more) rest) is (has_made a s) d refl (acts_other a (record x { made = x.made + 1 }) s)
      (omega (arith, worth_is (reads (finish body more) rest) is)))
      step
  spends (reads (loop k body more) rest) is there none r step =
      behind (goes_to a (turns k body (reads more rest)) s) r
      (to (reads (loop k body more) rest) is (turns k body (reads more rest)) refl (omega arith)) step
  spends (turns zero body rest) is there none r step = behind (goes_to a rest s) r (to (turns zero body rest) is rest refl (omega arith)) step
  spends (turns (suc k) body rest) is there none r step =
      behind (goes_to a (reads body (turns k body rest)) s) r
      (to (turns (suc k) body rest) is (reads body (turns k body rest)) refl (omega (arith, next k (1 + most_steps body)))) step
    where
      next : (k n : ℕ) → suc k * n ≡ n + k * n
      next k n = omega arith
  spends (closes f rest) is there none r step = by (is_empty (s.open_set f)) step
    where
      by : (b : Bool) → then_clocks (if b then goes (goes_to a rest s) else waits) ≡ goes r → Spends r
      by true step = behind (goes_to a rest s) r (to (closes f rest) is rest refl (omega arith)) step
      by false step = absurd cc
  spends (leaves f) is there none r step =
      behind (goes_to a over (with_open_set f (without_activity a) (departs_from_all a s))) r
      (to_from (leaves f) is (with_open_set f (without_activity a) (departs_from_all a s)) over (open_there f (without_activity a) (departs_from_all a s))
      (λ b n. ap (λ (g : Activity → Acting). g b) (open_acting f (without_activity a) (departs_from_all a s))
      ∙ acts_other a (record x { remembers = λ q. None }) (record s { clock_of = λ q. left_by a (s.clock_of q) }) b n)
      (omega (arith, worth_is (leaves f) is)))
      step
  spends over is there none r step = absurd cc

  pub total_falls :
      (r : TextState) → is_there s a ≡ true → (h : Spends r) →
      total_of (λ b. worth (r.acting b)) r.there < total_of (λ b. worth (s.acting b)) s.there
  total_falls r there h =
      let f : Activity → ℕ = λ b. worth (r.acting b) in
      let g : Activity → ℕ = λ b. worth (s.acting b) in
      let less =
      total_less f g a (total_of f h.new) s.there there h.fewer
      (λ b n l. omega (arith, ap worth (h.others b n (not_new b l)))) in
      omega (arith, less, ap (total_of f) h.there_is, both f h.new s.there)
    where
      both : (f : Activity → ℕ) (xs ys : List Activity) → total_of f (xs ++ ys) ≡ total_of f xs + total_of f ys
      both f [] ys = omega arith
      both f (b ∷ xs) ys = omega (arith, both f xs ys)

      not_new : (b : Activity) → is_in b s.there ≡ true → is_in b h.new ≡ false
      not_new b l = by (is_in b h.new) refl
        where
          by : (o : Bool) → is_in b h.new ≡ o → is_in b h.new ≡ false
          by true e = absurd (false≢true (sym (h.apart b e) ∙ l))
          by false e = e
