-- What the checker keeps shows the unfolding's state.
use Rattle.std.proofs.Common.{◌≡◌, ℕ, zero, suc, ◌+◌, ◌<◌, ◌≤◌, ◌⊎◌, inl, inr, Bool, true, false, List, [], ◌∷◌, ◌++◌, length, map, Option, Some, sym, ap, ap₂, ◌∙◌, subst, refl, arith}
use Rattle.std.specs.Prelude.{slice_get, slice_set, slice_index_or, option_to_list, if◌then◌else◌, ◌==◌, ◌||◌}
use Rattle.std.specs.List.{list_any}
use Rattle.std.specs.Str.{bytes_eq}
use Rattle.std.proofs.Math.Path.{fun_ext}
use Rattle.std.proofs.lemmas.Bool.Decides.{nat_tests}
use Rattle.std.proofs.lemmas.List.{length-append, length-map, length-set, map-append, map-set, get_or-map, get_or-set_same, get_or-set_other}
use Rattle.armus_base.specs.States.{updated}
use Rattle.armus_base.specs.declared.ids.PhaserId.{PhaserId}
use Rattle.clock_syntax.specs.Trees.{ClockTree}
use Rattle.clock_semantics.specs.Moves.{Move, advances, after_move, begins, code_of_moves, drops, ends, no_standing, opens, ops_of, resumes, starts, stops}
use Rattle.clock_semantics.specs.Unfolding.{ClockStart, ClockUnfolding, Current, governed_by, innermost, naming, start_at, with_activity, with_clock_made, with_known, with_move}
use Rattle.clock_semantics.proofs.MoveCodes.{SamePending, code_more, pending_more, stood}
use Rattle.pl_plan.specs.calls.MemberRows.{marked}
use Rattle.armus_base.specs.Numbers.{phaser, task}
use Rattle.pl_plan.proofs.MemberRows.{marked_same, marked_other}
use Rattle.pl_plan.proofs.Places.{same_or, at_more}
use Rattle.clock_pl.specs.inside.ClockChecker.{ClockChecker, KeptKnown, KeptStart, clock_by_name, current, current_of, marked_all, names_with, standing_by_rows, start_kept}
use Rattle.clock_pl.specs.inside.ClockCheckerSteps.{innermost_alone, kept_start_at, known_after, with_activity_begun, with_governing, with_kept_activity, with_kept_clock, with_kept_name, with_known_changed, with_ops}
use Rattle.clock_pl.proofs.Names.{newly_named, others_named, named_short}

-- starts whose clocks have numbers of names, with nothing pending
abbrev pub AreFit : ℕ → List KeptStart → Type 0
AreFit n [] = Unit {0}
AreFit n (st ∷ sts) = (length st.known.clocks ≤ n) × (st.known.pending ≡ []) × AreFit n sts

-- what is kept shows these lists, and the activities from t on have made no move
pub record ShowsLists (t : ℕ) (k : ClockChecker) (s : ClockUnfolding) : Type 0 where
  pub parents : s.parents ≡ k.parents
  pub makers : s.makers ≡ k.makers
  pub codes : map code_of_moves s.moves ≡ k.codes
  pub starts : s.starts ≡ map (start_kept k.names) k.starts
  pub fits : AreFit (length k.names) k.starts
  pub many : length s.starts ≡ length s.moves
  pub counts : (s.ops ≡ k.counts.ops) × (s.visits ≡ k.counts.visits)
  pub later : (u : ℕ) → t ≤ u → slice_index_or s.moves u [] ≡ []

-- and what is known of activity t
pub record ShowsNow (t : ℕ) (k : ClockChecker) (s : ClockUnfolding) : Type 0 where
  pub lists : ShowsLists (t + 1) k s
  pub activity : k.activity ≡ t
  pub here : t < length s.moves
  pub pending : SamePending (stood no_standing (slice_index_or s.moves t [])) s.now.standing
  pub short : length k.known.clocks ≤ length k.names
  pub now : s.now ≡ current k

-- ---- rows

it_is : (q p : ℕ) → q ≡ p → (q == p) ≡ true
it_is q p e = grind (arith, nat_tests)

it_is_not : (q p : ℕ) → (q ≡ p → ⊥) → (q == p) ≡ false
it_is_not q p ne = grind (arith, nat_tests)

row_updated : (row : List Bool) (p : ℕ) (v : Bool) → updated (λ q. slice_index_or row q false) p v ≡ (λ q. slice_index_or (marked p v row) q false)
row_updated row p v = fun_ext (λ q. by q (same_or q p))
  where
    by : (q : ℕ) → (q ≡ p) ⊎ (q ≡ p → ⊥) → (if q == p then v else slice_index_or row q false) ≡ slice_index_or (marked p v row) q false
    by q (inl e) = ap (λ b. if b then v else slice_index_or row q false) (it_is q p e) ∙ sym (marked_same p v row) ∙ ap (λ i. slice_index_or (marked p v row) i false) (sym e)
    by q (inr ne) = ap (λ b. if b then v else slice_index_or row q false) (it_is_not q p ne) ∙ sym (marked_other p q v row ne)

unfoldable pub rows_of : Current → (ℕ → Bool) → (ℕ → Bool) → Current
rows_of c members pending = record c { standing = record { members = members; pending = pending } }

-- what is known after a move
current_after : (names : List (List ℕ)) (m : Move) (k : KeptKnown) →
    ◌≡◌ {A = Current} (record (current_of names k) { standing = after_move m (standing_by_rows k) }) (current_of names (known_after m k))
unfolding rows_of
current_after names (opens p) k = ap (λ f. rows_of (current_of names k) f (standing_by_rows k).pending) (row_updated k.members p true)
current_after names (starts c ps f) k = refl
current_after names (advances p) k = ap (rows_of (current_of names k) (standing_by_rows k).members) (row_updated k.pending p false)
current_after names (resumes p) k = ap (rows_of (current_of names k) (standing_by_rows k).members) (row_updated k.pending p true)
current_after names (drops p) k = ap₂ (rows_of (current_of names k)) (row_updated k.members p false) (row_updated k.pending p false)
current_after names (begins f) k = ap (λ g. rows_of (current_of names k) g (standing_by_rows k).pending) (row_updated k.members f true)
current_after names (ends f) k = ap₂ (rows_of (current_of names k)) (row_updated k.members f false) (row_updated k.pending f false)
current_after names (stops ps) k = refl

clocks_after : (m : Move) (k : KeptKnown) → (known_after m k).clocks ≡ k.clocks
clocks_after (opens p) k = refl
clocks_after (starts c ps f) k = refl
clocks_after (advances p) k = refl
clocks_after (resumes p) k = refl
clocks_after (drops p) k = refl
clocks_after (begins f) k = refl
clocks_after (ends f) k = refl
clocks_after (stops ps) k = refl

-- ---- moves

module _ (t : ℕ) (k : ClockChecker) (s : ClockUnfolding) (h : ShowsNow t k s) (m : Move) where
  pub ops_shown : ops_of s.now.standing m ≡ ops_of (standing_by_rows k.known) m
  ops_shown = ap (λ (c : Current). ops_of c.standing m) h.now

  code_shown : code_of_moves (slice_index_or s.moves t []) ≡ slice_index_or k.codes k.activity []
  code_shown =
      sym (get_or-map code_of_moves s.moves t [] [] h.here) ∙ ap (λ cs. slice_index_or cs t []) h.lists.codes ∙ ap (λ i. slice_index_or k.codes i []) (sym h.activity)

  codes_shown : map code_of_moves (slice_set s.moves t (slice_index_or s.moves t [] ++ m ∷ [])) ≡
      slice_set k.codes k.activity (slice_index_or k.codes k.activity [] ++ ops_of (standing_by_rows k.known) m)
  codes_shown =
      map-set code_of_moves s.moves t (slice_index_or s.moves t [] ++ m ∷ [])
      ∙ ap (slice_set (map code_of_moves s.moves) t)
      (code_more (slice_index_or s.moves t []) m s.now.standing h.pending
      ∙ ap₂ (λ xs ys. xs ++ ys) code_shown ops_shown)
      ∙ ap (λ cs. slice_set cs t (slice_index_or k.codes k.activity [] ++ ops_of (standing_by_rows k.known) m)) h.lists.codes
      ∙ ap (λ i. slice_set k.codes i (slice_index_or k.codes k.activity [] ++ ops_of (standing_by_rows k.known) m)) (sym h.activity)

  pub shows_moved : ShowsNow t (with_known_changed (known_after m k.known) (with_ops (ops_of (standing_by_rows k.known) m) k)) (with_move t m s)
  shows_moved = record {
    lists = record {
      parents = h.lists.parents;
      makers = h.lists.makers;
      codes = codes_shown;
      starts = h.lists.starts;
      fits = h.lists.fits;
      many = h.lists.many ∙ sym (length-set s.moves t (slice_index_or s.moves t [] ++ m ∷ []));
      counts = (ap₂ (λ a b. a + b) h.lists.counts.0 (ap length ops_shown), h.lists.counts.1);
      later = λ u l. get_or-set_other s.moves t u (slice_index_or s.moves t [] ++ m ∷ []) [] (λ e. omega arith) ∙ h.lists.later u l;
    };
    activity = h.activity;
    here = omega (arith, h.here, length-set s.moves t (slice_index_or s.moves t [] ++ m ∷ []));
    pending = λ q.
        ap (λ ms. (stood no_standing ms).pending q) (get_or-set_same s.moves t (slice_index_or s.moves t [] ++ m ∷ []) [] h.here)
        ∙ pending_more (slice_index_or s.moves t []) m s.now.standing h.pending q;
    short = subst (λ (cs : List (Option PhaserId)). length cs ≤ length k.names) (sym (clocks_after m k.known)) h.short;
    now = ap (λ (c : Current). record c { standing = after_move m c.standing }) h.now ∙ current_after k.names m k.known;
  }

-- ---- clocks, finishes and names

pub shows_clock : (t : ℕ) (k : ClockChecker) (s : ClockUnfolding) → ShowsNow t k s → ShowsNow t (with_kept_clock k) (with_clock_made t s)
shows_clock t k s h = record {
  lists = record {
    parents = h.lists.parents;
    makers = ap₂ (λ xs u. xs ++ task u ∷ []) h.lists.makers (sym h.activity);
    codes = h.lists.codes;
    starts = h.lists.starts;
    fits = h.lists.fits;
    many = h.lists.many;
    counts = h.lists.counts;
    later = h.lists.later;
  };
  activity = h.activity;
  here = h.here;
  pending = h.pending;
  short = h.short;
  now = h.now;
}

pub shows_governed : (t : ℕ) (k : ClockChecker) (s : ClockUnfolding) (fs : List PhaserId) → ShowsNow t k s →
    ShowsNow t (with_governing fs k) (governed_by (map (λ (p : PhaserId). p.0) fs) s)
shows_governed t k s fs h = record {
  lists = record {
    parents = h.lists.parents;
    makers = h.lists.makers;
    codes = h.lists.codes;
    starts = h.lists.starts;
    fits = h.lists.fits;
    many = h.lists.many;
    counts = h.lists.counts;
    later = h.lists.later;
  };
  activity = h.activity;
  here = h.here;
  pending = h.pending;
  short = h.short;
  now = ap (λ (c : Current). record c { governing = map (λ (p : PhaserId). p.0) fs }) h.now;
}

fits_more : (m n : ℕ) → m ≤ n → (sts : List KeptStart) → AreFit m sts → AreFit n sts
fits_more m n le [] f = tt
fits_more m n le (st ∷ sts) f = (omega (arith, f.0), f.1, fits_more m n le sts f.2)

names_longer : (x : List ℕ) (names : List (List ℕ)) → length names ≤ length (names_with x names)
names_longer x names = by (list_any (bytes_eq x) names)
  where
    by : (v : Bool) → length names ≤ length (if v then names else names ++ x ∷ [])
    by true = omega arith
    by false = omega (arith, length-append names (x ∷ []))

known_named : (names : List (List ℕ)) (x : List ℕ) (k : KeptKnown) → length k.clocks ≤ length names → current_of names k ≡ current_of (names_with x names) k
known_named names x k short = ap (λ f. record (current_of names k) { names = f }) (fun_ext (λ y. sym (others_named names x k.clocks short y)))

abbrev start_with : KeptStart → Current → ClockStart
start_with st c = record { body = st.body; first = st.before + 1; known = c }

starts_named : (names : List (List ℕ)) (x : List ℕ) (sts : List KeptStart) → AreFit (length names) sts → map (start_kept names) sts ≡ map (start_kept (names_with x names)) sts
starts_named names x [] f = refl
starts_named names x (st ∷ sts) f =
    ap₂ (λ (c : Current) (rest : List ClockStart). start_with st c ∷ rest) (known_named names x st.known f.0) (starts_named names x sts f.2)

pub shows_named : (t : ℕ) (k : ClockChecker) (s : ClockUnfolding) (x : List ℕ) (p : ℕ) → ShowsNow t k s → ShowsNow t (with_kept_name x p k) (naming x p s)
shows_named t k s x p h = record {
  lists = record {
    parents = h.lists.parents;
    makers = h.lists.makers;
    codes = h.lists.codes;
    starts = h.lists.starts ∙ starts_named k.names x k.starts h.lists.fits;
    fits = fits_more (length k.names) (length (names_with x k.names)) (names_longer x k.names) k.starts h.lists.fits;
    many = h.lists.many;
    counts = h.lists.counts;
    later = h.lists.later;
  };
  activity = h.activity;
  here = h.here;
  pending = h.pending;
  short = named_short k.names x (phaser p) k.known.clocks h.short;
  now = ap (λ (c : Current). record c { names = λ y. if bytes_eq x y then Some p else c.names y }) h.now
      ∙ ap (λ f. record (current k) { names = f }) (fun_ext (λ y. newly_named k.names x (phaser p) k.known.clocks h.short y));
}

-- ---- activities

marked_at : (ps : List PhaserId) (row : List Bool) (q : ℕ) → (list_any (λ p. p == q) (map (λ (p : PhaserId). p.0) ps) || slice_index_or row q false) ≡ slice_index_or
    (marked_all ps row) q false
marked_at [] row q = refl
marked_at (p ∷ ps) row q = by (same_or p.0 q) ∙ marked_at ps (marked p.0 true row) q
  where
    or_true : (b : Bool) → (b || true) ≡ true
    or_true true = refl
    or_true false = refl

    by : (p.0 ≡ q) ⊎ (p.0 ≡ q → ⊥) → (((p.0 == q) || list_any (λ p. p == q) (map (λ (p : PhaserId). p.0) ps)) || slice_index_or row q false) ≡
        (list_any (λ p. p == q) (map (λ (p : PhaserId). p.0) ps) || slice_index_or (marked p.0 true row) q false)
    by (inl e) =
        ap (λ b. (b || list_any (λ p. p == q) (map (λ (p : PhaserId). p.0) ps)) || slice_index_or row q false) (it_is p.0 q e)
        ∙ sym (ap (λ i. list_any (λ p. p == q) (map (λ (p : PhaserId). p.0) ps) || slice_index_or (marked p.0 true row) i false) (sym e)
        ∙ ap (λ b. list_any (λ p. p == q) (map (λ (p : PhaserId). p.0) ps) || b) (marked_same p.0 true row)
        ∙ or_true (list_any (λ p. p == q) (map (λ (p : PhaserId). p.0) ps)))
    by (inr ne) =
        ap (λ b. (b || list_any (λ p. p == q) (map (λ (p : PhaserId). p.0) ps)) || slice_index_or row q false) (it_is_not p.0 q ne)
        ∙ ap (λ b. list_any (λ p. p == q) (map (λ (p : PhaserId). p.0) ps) || b) (sym (marked_other p.0 q true row (λ e. ne (sym e))))

or_false : (b : Bool) → b ≡ (b || false)
or_false true = refl
or_false false = refl

governed_alone : (fs : List PhaserId) → option_to_list (innermost (map (λ (p : PhaserId). p.0) fs)) ≡ map (λ (p : PhaserId). p.0) (innermost_alone fs)
governed_alone [] = refl
governed_alone (f ∷ fs) = refl

numbers_back : (ps : List ℕ) → map (λ (p : PhaserId). p.0) (map phaser ps) ≡ ps
numbers_back [] = refl
numbers_back (p ∷ ps) = ap (λ xs. p ∷ xs) (numbers_back ps)

start_shown : (names : List (List ℕ)) (n : ℕ) (body : ClockTree) (ps : List ℕ) (now : KeptKnown) →
    start_at n body ps (current_of names now) ≡ start_kept names (kept_start_at n body (map phaser ps ++ innermost_alone now.governing) now)
start_shown names n body ps now =
    ap₂ begun_with (fun_ext members_are) (governed_alone now.governing)
  where
    begun_with : (ℕ → Bool) → List ℕ → ClockStart
    begun_with f g = record {
      body = body;
      first = n + 1;
      known = record { names = clock_by_name names now.clocks; standing = record { members = f; pending = λ p. false }; governing = g };
    }

    all_are : map (λ (p : PhaserId). p.0) (map phaser ps ++ innermost_alone now.governing) ≡ ps ++ option_to_list (innermost (map (λ (p : PhaserId). p.0) now.governing))
    all_are =
        map-append (λ (p : PhaserId). p.0) (map phaser ps) (innermost_alone now.governing)
        ∙ ap₂ (λ xs ys. xs ++ ys) (numbers_back ps) (sym (governed_alone now.governing))

    members_are : (q : ℕ) → list_any (λ p. p == q) (ps ++ option_to_list (innermost (map (λ (p : PhaserId). p.0) now.governing))) ≡
        slice_index_or (marked_all (map phaser ps ++ innermost_alone now.governing) []) q false
    members_are q =
        ap (list_any (λ p. p == q)) (sym all_are)
        ∙ or_false (list_any (λ p. p == q) (map (λ (p : PhaserId). p.0) (map phaser ps ++ innermost_alone now.governing)))
        ∙ marked_at (map phaser ps ++ innermost_alone now.governing) [] q

fits_push : (n : ℕ) (sts : List KeptStart) (st : KeptStart) → AreFit n sts → length st.known.clocks ≤ n → st.known.pending ≡ [] → AreFit n (sts ++ st ∷ [])
fits_push n [] st f short none = (short, none, tt)
fits_push n (q ∷ sts) st f short none = (f.0, f.1, fits_push n sts st f.2 short none)

pub shows_activity : (t : ℕ) (k : ClockChecker) (s : ClockUnfolding) (n : ℕ) (body : ClockTree) (ps : List ℕ) → ShowsNow t k s →
    ShowsNow t (with_kept_activity (kept_start_at n body (map phaser ps ++ innermost_alone k.known.governing) k.known) k) (with_activity t (start_at n body ps s.now) s)
shows_activity t k s n body ps h = record {
  lists = record {
    parents = ap₂ (λ xs u. xs ++ Some (task u) ∷ []) h.lists.parents (sym h.activity);
    makers = h.lists.makers;
    codes = map-append code_of_moves s.moves ([] ∷ []) ∙ ap (λ xs. xs ++ [] ∷ []) h.lists.codes;
    starts = ap₂ (λ xs st. xs ++ st ∷ []) h.lists.starts (ap (start_at n body ps) h.now ∙ start_shown k.names n body ps k.known)
        ∙ sym (map-append (start_kept k.names) k.starts (kept ∷ []));
    fits = fits_push (length k.names) k.starts kept h.lists.fits h.short refl;
    many = omega (arith, length-append s.starts (start_at n body ps s.now ∷ []), length-append s.moves ([] ∷ []), h.lists.many);
    counts = h.lists.counts;
    later = λ u l. at_more s.moves [] u ∙ h.lists.later u l;
  };
  activity = h.activity;
  here = omega (arith, h.here, length-append s.moves ([] ∷ []));
  pending = λ q. ap (λ ms. (stood no_standing ms).pending q) (at_more s.moves [] t) ∙ h.pending q;
  short = h.short;
  now = h.now;
}
  where
    kept : KeptStart
    kept = kept_start_at n body (map phaser ps ++ innermost_alone k.known.governing) k.known

-- ---- beginnings

fit_at : (n : ℕ) (sts : List KeptStart) (t : ℕ) (st : KeptStart) → AreFit n sts → slice_get sts t ≡ Some st → (length st.known.clocks ≤ n) × (st.known.pending ≡ [])
fit_at n [] t st f e = absurd cc
fit_at n (q ∷ sts) zero st f e = (let r : q ≡ st = cc in (subst (λ (z : KeptStart). length z.known.clocks ≤ n) r f.0, ap (λ (z : KeptStart). z.known.pending) (sym r) ∙ f.1))
fit_at n (q ∷ sts) (suc t) st f e = fit_at n sts t st f.2 e

within : (sts : List KeptStart) (t : ℕ) (st : KeptStart) → slice_get sts t ≡ Some st → t < length sts
within [] t st e = absurd cc
within (q ∷ sts) zero st e = omega arith
within (q ∷ sts) (suc t) st e = omega (arith, within sts t st e)

pub shows_begun : (t : ℕ) (k : ClockChecker) (s : ClockUnfolding) (st : KeptStart) → ShowsLists t k s → slice_get k.starts t ≡ Some st →
    ShowsNow t (with_activity_begun t st.known k) (with_known (current_of k.names st.known) s)
shows_begun t k s st h e = record {
  lists = record {
    parents = h.parents;
    makers = h.makers;
    codes = h.codes;
    starts = h.starts;
    fits = h.fits;
    many = h.many;
    counts = h.counts;
    later = λ u l. h.later u (omega arith);
  };
  activity = refl;
  here = omega (arith, within k.starts t st e, length-map k.starts (start_kept k.names), ap length h.starts, h.many);
  pending = λ q. ap (λ ms. (stood no_standing ms).pending q) (h.later t (omega arith)) ∙ ap (λ row. slice_index_or row q false) (sym fit.1);
  short = fit.0;
  now = refl;
}
  where
    fit : (length st.known.clocks ≤ length k.names) × (st.known.pending ≡ [])
    fit = fit_at (length k.names) k.starts t st h.fits e
