-- What is known of an activity, while clocks and finishes are made.
use Rattle.std.proofs.Common.{◌≡◌, ◌≢◌, ℕ, ◌+◌, ◌<◌, ◌≤◌, Bool, true, false, Some, List, [], ◌∷◌, ◌++◌, arith, sym, ◌∙◌, ap, subst, refl, inl, inr}
use Rattle.std.specs.Prelude.{if◌then◌else◌, option_to_list, ◌==◌, ◌||◌}
use Rattle.std.specs.List.{list_any}
use Rattle.std.specs.Str.{bytes_eq}
use Rattle.std.proofs.lemmas.Bool.{cases_eq, eq-eqb, eqb-true, false≢true, ne_eqb}
use Rattle.std.proofs.lemmas.Slice.Eq.{bytes_eq-Decides}
use Rattle.armus_base.specs.States.{updated}
use Rattle.clock_semantics.specs.Unfolding.{ClockNames, Current, innermost, nothing_known, standing_on}
use Rattle.clock_semantics.specs.calls.Making.{AreClocksOf}

-- p is none of these
abbrev pub IsApart : ℕ → List ℕ → Type 0
IsApart p [] = Unit {0}
IsApart p (f ∷ fs) = (f ≢ p) × IsApart p fs

-- each of these is below the one before it, and the first below n
abbrev pub AreFalling : ℕ → List ℕ → Type 0
AreFalling n [] = Unit {0}
AreFalling n (f ∷ fs) = (f < n) × AreFalling f fs

-- all of these are members
abbrev pub AreMembers : (ℕ → Bool) → List ℕ → Type 0
AreMembers members [] = Unit {0}
AreMembers members (p ∷ ps) = (members p ≡ true) × AreMembers members ps

-- Each name stands for a clock of its own below n, and for no finish that governs; the activity is a member of the finishes that govern it, of which each is
-- older than those in it, and of nothing with a number from n on.
pub record Knows (n : ℕ) (k : Current) : Type 0 where
  pub named : (x : List ℕ) (p : ℕ) → k.names x ≡ Some p → p < n
  pub one : (x y : List ℕ) (p : ℕ) → k.names x ≡ Some p → k.names y ≡ Some p → x ≡ y
  pub apart : (x : List ℕ) (p : ℕ) → k.names x ≡ Some p → IsApart p k.governing
  pub inside : AreMembers k.standing.members k.governing
  pub falls : AreFalling n k.governing
  pub below : (p : ℕ) → k.standing.members p ≡ true → p < n

-- ---- numbers

pub apart_above : (n : ℕ) (fs : List ℕ) → AreFalling n fs → IsApart n fs
apart_above n [] h = tt
apart_above n (f ∷ fs) h = (λ e. absurd (let l = h.0 in omega arith), apart_less f fs h.1 n h.0)
  where
    apart_less : (m : ℕ) (gs : List ℕ) → AreFalling m gs → (n : ℕ) → m < n → IsApart n gs
    apart_less m [] h n l = tt
    apart_less m (g ∷ gs) h n l = (λ e. absurd (let k = h.0 in omega arith), apart_less g gs h.1 n (let k = h.0 in omega arith))

pub falling_up : (m n : ℕ) (fs : List ℕ) → m ≤ n → AreFalling m fs → AreFalling n fs
falling_up m n [] le h = tt
falling_up m n (f ∷ fs) le h = (let k = h.0 in omega arith, h.1)

-- one that is a member becomes one more, or another one becomes none
pub updated_here : {A : Type 0} (f : ℕ → A) (p : ℕ) (v : A) → updated f p v p ≡ v
updated_here f p v = ap (λ b. if b then v else f p) (eq-eqb p p refl)

pub updated_other : {A : Type 0} (f : ℕ → A) (p : ℕ) (v : A) (q : ℕ) → q ≢ p → updated f p v q ≡ f q
updated_other f p v q n = ap (λ b. if b then v else f q) (ne_eqb q p n)

pub members_with : (members : ℕ → Bool) (p : ℕ) (v : Bool) (fs : List ℕ) → IsApart p fs → AreMembers members fs → AreMembers (updated members p v) fs
members_with members p v [] a h = tt
members_with members p v (f ∷ fs) a h = (updated_other members p v f a.0 ∙ h.0, members_with members p v fs a.1 h.1)

-- ---- what moves do

-- more clocks or finishes
pub knows_more : (m n : ℕ) (k : Current) → m ≤ n → Knows m k → Knows n k
knows_more m n k le h =
    record {
      named = λ x p e. omega (arith, h.named x p e);
      one = h.one;
      apart = h.apart;
      inside = h.inside;
      falls = falling_up m n k.governing le h.falls;
      below = λ p e. omega (arith, h.below p e);
    }

-- another set of pending clocks
pub knows_pending : (n : ℕ) (k : Current) (pending : ℕ → Bool) → Knows n k → Knows n (record k { standing = record k.standing { pending = pending } })
knows_pending n k pending h =
    record { named = h.named; one = h.one; apart = h.apart; inside = h.inside; falls = h.falls; below = h.below }

-- membership of p ends, which no finish is that governs
pub knows_less :
    (n p : ℕ) (k : Current) (pending : ℕ → Bool) → IsApart p k.governing → Knows n k →
    Knows n (record k { standing = record { members = updated k.standing.members p false; pending = pending } })
knows_less n p k pending a h =
    record {
      named = h.named;
      one = h.one;
      apart = h.apart;
      inside = members_with k.standing.members p false k.governing a h.inside;
      falls = h.falls;
      below = λ q e. elim (cases_eq q p) [
        | inl same ↦ absurd (false≢true (sym (updated_here k.standing.members p false) ∙ subst (λ v. updated k.standing.members p false v ≡ true) same e))
        | inr other ↦ h.below q (sym (updated_other k.standing.members p false q other) ∙ e)
      ];
    }

below_more : (n : ℕ) (members : ℕ → Bool) → ((p : ℕ) → members p ≡ true → p < n) → (p : ℕ) → updated members n true p ≡ true → p < n + 1
below_more n members h p e =
    elim (cases_eq p n) [ inl same ↦ omega arith | inr other ↦ omega (arith, h p (sym (updated_other members n true p other) ∙ e)) ]

-- the names with x for clock p
abbrev pub naming_of : List ℕ → ℕ → ClockNames → ClockNames
naming_of x p names y = if bytes_eq x y then Some p else names y

module _ (n : ℕ) (k : Current) (x : List ℕ) (h : Knows n k) where
  abbrev named_now : Current
  named_now = record k { names = naming_of x n k.names; standing = record k.standing { members = updated k.standing.members n true } }

  at_name : (P : List ℕ → ℕ → Type 0) → (P x n) → ((y : List ℕ) (p : ℕ) → k.names y ≡ Some p → P y p) → (y : List ℕ) (p : ℕ) → naming_of x n k.names y ≡ Some p → P y p
  at_name P new old y p e = by (bytes_eq x y) refl
    where
      by : (b : Bool) → bytes_eq x y ≡ b → P y p
      by true is =
          let same : x ≡ y = (bytes_eq-Decides x y).0 is in
          let number : n ≡ p = (let q : Some n ≡ Some p = ap (λ b. if b then Some n else k.names y) (sym is) ∙ e in cc) in
          subst (λ z. P z p) same (subst (P x) number new)
      by false is = old y p (ap (λ b. if b then Some n else k.names y) (sym is) ∙ e)

  new_one : (z : List ℕ) → naming_of x n k.names z ≡ Some n → x ≡ z
  new_one z f = at_name (λ z p. p ≡ n → x ≡ z) (λ same. refl) (λ z p old same. absurd (let l = h.named z p old in omega arith)) z n f refl

  old_one : (y : List ℕ) (p : ℕ) → k.names y ≡ Some p → (z : List ℕ) → naming_of x n k.names z ≡ Some p → y ≡ z
  old_one y p old z f =
      at_name (λ z q. q ≡ p → y ≡ z) (λ same. absurd (let l = h.named y p old in omega arith))
      (λ z q older same. h.one y z p old (subst (λ v. k.names z ≡ Some v) same older)) z p f refl

  -- a clock more, which x names
  pub knows_clock : Knows (n + 1) named_now
  knows_clock =
      record {
        named = at_name (λ y p. p < n + 1) (omega arith) (λ y p e. omega (arith, h.named y p e));
        one = λ y z p e f. at_name (λ y p. (z : List ℕ) → naming_of x n k.names z ≡ Some p → y ≡ z) new_one old_one y p e z f;
        apart = at_name (λ y p. IsApart p k.governing) (apart_above n k.governing h.falls) h.apart;
        inside = members_with k.standing.members n true k.governing (apart_above n k.governing h.falls) h.inside;
        falls = falling_up n (n + 1) k.governing (omega arith) h.falls;
        below = below_more n k.standing.members h.below;
      }

  -- a finish more, which governs
  pub knows_finish :
      Knows (n + 1) (record k { standing = record k.standing { members = updated k.standing.members n true }; governing = n ∷ k.governing })
  knows_finish =
      record {
        named = λ y p e. omega (arith, h.named y p e);
        one = h.one;
        apart = λ y p e. (λ same. absurd (let l = h.named y p e in omega arith), h.apart y p e);
        inside = (
          updated_here k.standing.members n true,
          members_with k.standing.members n true k.governing (apart_above n k.governing h.falls) h.inside,
        );
        falls = (omega arith, h.falls);
        below = below_more n k.standing.members h.below;
      }

-- the innermost finish governs no more
pub knows_end :
    (n : ℕ) (k : Current) (f : ℕ) (fs : List ℕ) (pending : ℕ → Bool) → k.governing ≡ f ∷ fs → Knows n k →
    Knows n (record k { standing = record { members = updated k.standing.members f false; pending = pending }; governing = fs })
knows_end n k f fs pending e h =
    let falls : AreFalling n (f ∷ fs) = subst (AreFalling n) e h.falls in
    let inside : AreMembers k.standing.members (f ∷ fs) = subst (AreMembers k.standing.members) e h.inside in
    let less = knows_less_members in
    record {
      named = h.named;
      one = h.one;
      apart = λ x p is. (subst (IsApart p) e (h.apart x p is)).1;
      inside = members_with k.standing.members f false fs (apart_above f fs falls.1) inside.1;
      falls = falling_up f n fs (let l = falls.0 in omega arith) falls.1;
      below = less;
    }
  where
    knows_less_members : (q : ℕ) → updated k.standing.members f false q ≡ true → q < n
    knows_less_members q is =
        elim (cases_eq q f) [
          | inl same ↦ absurd (false≢true (sym (updated_here k.standing.members f false) ∙ subst (λ v. updated k.standing.members f false v ≡ true) same is))
          | inr other ↦ h.below q (sym (updated_other k.standing.members f false q other) ∙ is)
        ]

-- ---- a start

pub clocks_inside : (now : Current) (earlier xs : List (List ℕ)) (ps : List ℕ) → AreClocksOf now earlier xs ps → AreMembers now.standing.members ps
clocks_inside now earlier [] [] h = tt
clocks_inside now earlier [] (p ∷ ps) h = absurd h
clocks_inside now earlier (x ∷ xs) [] h = absurd h
clocks_inside now earlier (x ∷ xs) (p ∷ ps) h = (h.0.registered, clocks_inside now (x ∷ earlier) xs ps h.3)

pub members-append : (members : ℕ → Bool) (ps qs : List ℕ) → AreMembers members ps → AreMembers members qs → AreMembers members (ps ++ qs)
members-append members [] qs h k = k
members-append members (p ∷ ps) qs h k = (h.0, members-append members ps qs h.1 k)

pub innermost_inside : (members : ℕ → Bool) (fs : List ℕ) → AreMembers members fs → AreMembers members (option_to_list (innermost fs))
innermost_inside members [] h = tt
innermost_inside members (f ∷ fs) h = (h.0, tt)

-- who is among members is one
pub among : (members : ℕ → Bool) (ps : List ℕ) (q : ℕ) → AreMembers members ps → list_any (λ p. p == q) ps ≡ true → members q ≡ true
among members [] q h e = absurd (false≢true e)
among members (p ∷ ps) q h e = by (p == q) refl (among members ps q h.1)
  where
    by : (b : Bool) → p == q ≡ b → (list_any (λ p. p == q) ps ≡ true → members q ≡ true) → members q ≡ true
    by true is rest = subst (λ v. members v ≡ true) (eqb-true p q is) h.0
    by false is rest = rest (ap (λ b. b || list_any (λ p. p == q) ps) (sym is) ∙ e)

started_apart : (p : ℕ) (fs : List ℕ) → IsApart p fs → IsApart p (option_to_list (innermost fs))
started_apart p [] h = tt
started_apart p (f ∷ fs) h = (h.0, tt)

started_falls : (n : ℕ) (fs : List ℕ) → AreFalling n fs → AreFalling n (option_to_list (innermost fs))
started_falls n [] h = tt
started_falls n (f ∷ fs) h = (h.0, tt)

any-append : (test : ℕ → Bool) (ps qs : List ℕ) → list_any test qs ≡ true → list_any test (ps ++ qs) ≡ true
any-append test [] qs e = e
any-append test (p ∷ ps) qs e = by (test p) refl (any-append test ps qs e)
  where
    by : (b : Bool) → test p ≡ b → list_any test (ps ++ qs) ≡ true → test p || list_any test (ps ++ qs) ≡ true
    by true is rest = ap (λ b. b || list_any test (ps ++ qs)) is
    by false is rest = ap (λ b. b || list_any test (ps ++ qs)) is ∙ rest

-- what is known of an activity that is started
pub knows_start :
    (n : ℕ) (k : Current) (xs : List (List ℕ)) (ps : List ℕ) → AreClocksOf k [] xs ps → Knows n k →
    Knows n (record { names = k.names; standing = standing_on ps (innermost k.governing); governing = option_to_list (innermost k.governing) })
knows_start n k xs ps clocks h =
    record {
      named = h.named;
      one = h.one;
      apart = λ x p e. started_apart p k.governing (h.apart x p e);
      inside = own k.governing;
      falls = started_falls n k.governing h.falls;
      below =
          λ q e. h.below q
          (among k.standing.members (ps ++ option_to_list (innermost k.governing)) q
          (members-append k.standing.members ps (option_to_list (innermost k.governing)) (clocks_inside k [] xs ps clocks)
          (innermost_inside k.standing.members k.governing h.inside)) e);
    }
  where
    own : (fs : List ℕ) → AreMembers (λ q. list_any (λ p. p == q) (ps ++ option_to_list (innermost fs))) (option_to_list (innermost fs))
    own [] = tt
    own (f ∷ fs) = (any-append (λ p. p == f) ps (f ∷ []) (ap (λ b. b || false) (eq-eqb f f refl)), tt)

pub knows_nothing : Knows 0 nothing_known
knows_nothing =
    record {
      named = λ x p e. absurd cc;
      one = λ x y p e f. absurd cc;
      apart = λ x p e. tt;
      inside = tt;
      falls = tt;
      below = λ p e. absurd (false≢true e);
    }
