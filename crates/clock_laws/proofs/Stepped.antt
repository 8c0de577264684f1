-- What a step of the machine on the text leaves in both machines; and the steps that only the machine on the text makes.
use Rattle.std.proofs.Common.{◌≡◌, ℕ, ◌+◌, ◌≤◌, Bool, true, false, not, Option, Some, None, Result, Ok, Err, List, [], ◌∷◌, ◌++◌, length, append_assoc, arith, sym, ◌∙◌, ap, subst, refl, ◌⊎◌, inl, inr}
use Rattle.std.specs.List.{list_any}
use Rattle.std.specs.Str.{bytes_eq}
use Rattle.std.specs.Prelude.{◌&&◌, if◌then◌else◌, is_some}
use Rattle.std.specs.Option.{option_map}
use Rattle.std.proofs.lemmas.List.{length-append}
use Rattle.clock_laws.specs.calls.Direct.{ClockState, clock_step, move_of, settled}
use Rattle.clock_semantics.specs.Moves.{Move, ActivityStanding, made_by, started_by}
use Rattle.clock_semantics.specs.Unfolding.{ClockNames, ClockUnfolding, activities}
use Rattle.clock_semantics.specs.calls.ProgramPoints.{ProgramPoint}
use Rattle.clock_laws.specs.TextMachine.{Acting, Activity, Continuation, Made, TextState, TextStep, and_clocks, clock_here, clock_or_kind, clocks_go_on, clocks_here, goes, goes_on, goes_to, is_there, or_fails, over, then_clocks}
use Rattle.clock_laws.specs.TextNumbers.{number_in}
use Rattle.clock_semantics.proofs.AddsMoves.{made-append, started-append}
use Rattle.clock_laws.proofs.Changing.{ListsChange, acts_other, acts_own, changed, tells_acting}
use Rattle.clock_laws.proofs.Corresponding.{ActsAs, Corresponds, Finishes, Fits, IsSteady, Knows, Stands, bottom, corresponds_on, registered, steady_behind, target_at}
use Rattle.clock_laws.proofs.Makes.{Makes}
use Rattle.clock_laws.proofs.Tables.{HaveNames, is_in, same_bytes}

goes_is : (s r : TextState) → ◌≡◌ {A = TextStep} (goes s) (goes r) → s ≡ r
goes_is s r e = cc

lists_are : (ps qs : List Made) → ◌≡◌ {A = Result (List Made) ℕ} (Ok ps) (Ok qs) → ps ≡ qs
lists_are ps qs e = cc

-- ---- names that are looked up

module _ (s : TextState) (a : Activity) where
  -- a clock that is looked up is what the name stands for
  pub clock_found : (idle : Bool) (earlier : List (List ℕ)) (x : List ℕ) (p : Made) → clock_here idle earlier x a s ≡ Ok p → (s.acting a).names x ≡ Some p
  clock_found idle earlier x p e = by ((s.acting a).names x) refl e
    where
      last : (q : Made) (b c d : Bool) →
          ◌≡◌ {A = Result Made ℕ} (if not b then Err 2 else (if c then Err 3 else (if d then Err 4 else Ok q))) (Ok p) → q ≡ p
      last q false c d e = absurd cc
      last q true true d e = absurd cc
      last q true false true e = absurd cc
      last q true false false e = cc

      by : (o : Option Made) → (s.acting a).names x ≡ o → clock_or_kind idle earlier x a s o ≡ Ok p → (s.acting a).names x ≡ Some p
      by None is e = absurd cc
      by (Some q) is e =
          is
          ∙ ap (λ z. Some z)
          (last q (list_any (bytes_eq a) (s.clock_of q).enrolled) (list_any (bytes_eq x) earlier) (idle && is_some ((s.acting a).remembers q)) e)

  -- these names stand for these clocks
  abbrev pub StandFor : List (List ℕ) → List Made → Type 0
  StandFor [] [] = Unit {0}
  StandFor (x ∷ xs) (p ∷ ps) = ((s.acting a).names x ≡ Some p) × StandFor xs ps
  StandFor xs ps = ⊥

  pub clocks_found : (earlier xs : List (List ℕ)) (ps : List Made) → clocks_here earlier xs a s ≡ Ok ps → StandFor xs ps
  clocks_found earlier [] [] e = tt
  clocks_found earlier [] (p ∷ ps) e = absurd cc
  clocks_found earlier (x ∷ xs) ps e = by (clock_here true earlier x a s) refl (clocks_here (x ∷ earlier) xs a s) refl (λ qs are. clocks_found (x ∷ earlier) xs qs are) e
    where
      split : (q : Made) (qs : List Made) (ps : List Made) → q ∷ qs ≡ ps → (s.acting a).names x ≡ Some q → StandFor xs qs → StandFor (x ∷ xs) ps
      split q qs ps same named rest = subst (StandFor (x ∷ xs)) same (named, rest)

      by :
          (o : Result Made ℕ) → clock_here true earlier x a s ≡ o → (os : Result (List Made) ℕ) → clocks_here (x ∷ earlier) xs a s ≡ os →
          ((qs : List Made) → clocks_here (x ∷ earlier) xs a s ≡ Ok qs → StandFor xs qs) → and_clocks o os ≡ Ok ps → StandFor (x ∷ xs) ps
      by (Err k) is os are rest e = absurd cc
      by (Ok q) is (Err k) are rest e = absurd cc
      by (Ok q) is (Ok qs) are rest e =
          split q qs ps (lists_are (q ∷ qs) ps e) (clock_found true earlier x q is) (rest qs are)

  -- where a step is made behind a look-up, the look-up has found something
  pub found : {A : Type 0} (f : A → TextStep) (o : Result A ℕ) (r : TextState) → then_clocks (or_fails f o) ≡ goes r → (x : A) × (o ≡ Ok x) × (then_clocks (f x) ≡ goes r)
  found f (Ok x) r e = (x, refl, e)
  found f (Err k) r e = absurd cc

-- ---- what an activity has done

pub done_more :
    (u : ClockUnfolding) (t : ℕ) (x y : Acting) (left : List Move) (moves rest : List Move) (on on' : Made → Bool) → ActsAs u t x left on → left ≡ moves ++ rest →
    y.started ≡ x.started + length (started_by moves) → y.made ≡ x.made + length (made_by moves) →
    (((y.rest ≡ over) × (rest ≡ [])) ⊎ Stands u y y.rest rest on') → ActsAs u t y rest on'
done_more u t x y left moves rest on on' h is started made stands =
    record {
      done = h.done ++ moves;
      split = h.split ∙ ap (λ zs. h.done ++ zs) is ∙ sym (append_assoc h.done moves rest);
      started = omega
          (arith, started, h.started, ap length (started-append h.done moves), length-append (started_by h.done) (started_by moves));
      made = omega (arith, made, h.made, ap length (made-append h.done moves), length-append (made_by h.done) (made_by moves));
      stands = stands;
    }

-- ---- steps

module _ (u : ClockUnfolding) (names : HaveNames u) (s : TextState) (m : ClockState) (h : Corresponds u s m) (steady : IsSteady u s) (a : Activity)
    (there : is_there s a ≡ true) where
  abbrev t : ℕ
  t = number_in u a

  -- what a step of activity a leaves: the machine on moves rests, or makes a step of its own
  pub record Stepped (r : TextState) : Type 0 where
    pub after : ClockState
    pub how : (after ≡ m) ⊎ (clock_step (activities u) t m ≡ Some after)
    pub both : Corresponds u r after
    pub rests : IsSteady u r

  pub silent : (v r : TextState) → Corresponds u v m → ((p : Made) → v.clock_of p ≡ s.clock_of p) → then_clocks (goes v) ≡ goes r → Stepped r
  silent v r both same e =
      let steady_now : (p : Made) → goes_on (v.clock_of p) ≡ v.clock_of p = λ p. ap goes_on (same p) ∙ steady p ∙ sym (same p) in
      let stays : clocks_go_on v ≡ v = λ i. record v { clock_of = λ p. (steady_now p) i } in
      let behind : v ≡ r = sym stays ∙ goes_is (clocks_go_on v) r e in
      record { after = m; how = inl refl; both = subst (λ z. Corresponds u z m) behind both; rests = subst (λ z. IsSteady u z) behind steady_now }

  pub real : (v r : TextState) (n : ClockState) → move_of (activities u) t (m.left t) m ≡ Some n → Corresponds u v n → then_clocks (goes v) ≡ goes r → Stepped r
  real v r n moves both e =
      let behind : clocks_go_on v ≡ r = goes_is (clocks_go_on v) r e in
      let inside = h.holds.inside a there in
      let started : m.started t ≡ true = sym (h.tells.started a inside) ∙ there in
      record {
        after = settled (activities u) n;
        how =
            inr (ap (λ b. if b then option_map (settled (activities u)) (move_of (activities u) t (m.left t) m) else None) started
            ∙ ap (option_map (settled (activities u))) moves);
        both = subst (λ z. Corresponds u z (settled (activities u) n)) behind (corresponds_on u names v n both);
        rests = subst (λ z. IsSteady u z) behind (steady_behind u v);
      }

  -- where only what is still to do has changed
  pub same_lists : (v : TextState) → v.clock_of ≡ s.clock_of → v.open_set ≡ s.open_set → ((q : Made) → (v.acting q.maker).made ≡ (s.acting q.maker).made ⊎ ((s.acting q.maker).made ≤ (v.acting q.maker).made)) → bottom u (v.acting a).rest ≡ bottom u (s.acting a).rest → ListsChange u names s m h a there v
  same_lists v clocks sets made bottoms =
      record {
        enrolled_in = λ p b e. inl (ap (λ (f : Made → _). is_in b (f p).enrolled) (sym clocks) ∙ e);
        unsignalled_in = λ p b e. inl (ap (λ (f : Made → _). is_in b (f p).unsignalled) (sym clocks) ∙ e);
        open_in = λ p b e. ap (λ (f : Made → _). is_in b (f p)) (sym sets) ∙ e;
        others = λ p b n. ap (λ (f : Made → _). is_in b (f p).enrolled) clocks;
        fresh = λ p b l.
            let before = h.holds.fresh p b (elim (made p) [ inl e ↦ omega (arith, e) | inr k ↦ omega (arith, k) ]) in (
              ap (λ (f : Made → _). is_in b (f p).enrolled) clocks ∙ before.0,
              ap (λ (f : Made → _). is_in b (f p).unsignalled) clocks ∙ before.1,
            );
        bottom_same = λ p e. bottoms;
      }

  module _ (c : Continuation) (left : List Move) (point : ProgramPoint) (ns : ClockNames) (standing : ActivityStanding) (rest_is : (s.acting a).rest ≡ c)
      (left_is : m.left t ≡ left) (knows : Knows u (s.acting a) c ns standing (registered u s a)) where
    abbrev x : Acting
    x = s.acting a

    -- what it has still to do is now this
    pub moves_on :
        (d : Continuation) (at : ProgramPoint) → Fits u at d → Makes u at ns standing left → Finishes u d → target_at u x c ≡ None → bottom u d ≡ bottom u c →
        Corresponds u (goes_to a d s) m
    moves_on d at fits makes finishes none bottoms =
        let y : Acting = record x { rest = d } in
        let v = goes_to a d s in
        let own : v.acting a ≡ y = acts_own a y s in
        changed u names s m h a there v m
        (record {
          tells = tells_acting u names s m h a there v.acting y own (acts_other a y s) (λ q. refl);
          same_there = refl;
          other_acts = acts_other a y s;
          other_left = λ b is n. refl;
          lists = same_lists v refl refl (λ q. inl (made_same q.maker)) (ap (λ (z : Acting). bottom u z.rest) own ∙ bottoms ∙ ap (bottom u) (sym rest_is));
          started = omega (arith, ap (λ (z : Acting). z.started) own);
          own =
              subst (λ z. ActsAs u t z (m.left t) (registered u v a)) (sym own)
              (done_more u t x y (m.left t) [] (m.left t) (registered u s a) (registered u v a) (h.acts a there) refl (omega arith) (omega arith)
              (inr (record {
                point = at;
                names = ns;
                standing = standing;
                fits = fits;
                makes = subst (Makes u at ns standing) (sym left_is) makes;
                knows = record {
                  named = knows.named;
                  clocks = knows.clocks;
                  members = knows.members;
                  pending = λ p is n. knows.pending p is (λ e. absurd (let z = sym none ∙ e in cc));
                  finishes = finishes;
                };
              })));
        })
      where
        made_same : (b : Activity) → ((goes_to a d s).acting b).made ≡ (s.acting b).made
        made_same b = by (bytes_eq a b) refl
          where
            by : (k : Bool) → bytes_eq a b ≡ k → (if k then record x { rest = d } else s.acting b).made ≡ (s.acting b).made
            by true e = ap (λ z. (s.acting z).made) (same e)
              where
                same : bytes_eq a b ≡ true → a ≡ b
                same e = same_bytes a b e
            by false e = refl
