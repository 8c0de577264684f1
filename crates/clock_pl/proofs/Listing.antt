-- The clocks of the names of an async, one after the other.
use Rattle.std.proofs.Common.{◌≡◌, ℕ, ◌+◌, ◌<◌, ◌≤◌, Bool, true, false, not, List, [], ◌∷◌, ◌++◌, length, map, take, drop, get_or, Ok, Err, Result, sym, ap, ◌∙◌, subst, refl, append_assoc}
use Rattle.std.specs.Prelude.{◌||◌, ◌&&◌, option_to_list}
use Rattle.std.specs.List.{list_any}
use Rattle.std.specs.Str.{bytes_eq}
use Rattle.std.proofs.lemmas.List.{take_more, drop_more, drop_all, map-append, append-nil}
use Rattle.std.proofs.lemmas.List.Folds.{list_any-append}
use Rattle.armus_base.specs.declared.ids.PhaserId.{PhaserId}
use Rattle.armus_base.specs.declared.ids.TaskId.{TaskId}
use Rattle.armus_base.specs.declared.op.Op.{Op}
use Rattle.armus_base.specs.declared.op.Op.TheVariants.{Reg, Fork}
use Rattle.clock_syntax.specs.Trees.{ClockTree}
use Rattle.clock_semantics.specs.Moves.{ops_of, starts, ActivityStanding}
use Rattle.clock_semantics.specs.Unfolding.{Current, as_clock, clock_of, clocks_of, innermost, listed_twice, not_registered, still_pending}
use Rattle.clock_semantics.proofs.ByClockTable.{bind_assoc}
use Rattle.armus_base.specs.Numbers.{phaser}
use Rattle.pl_plan.specs.Unfolding.{Outcome, ◌>>=◌, fault_unless}
use Rattle.pl_plan.specs.declared.fault.CheckFault.{CheckFault}
use Rattle.clock_pl.specs.declared.fault.ClockEnd.{ClockEnd}
use Rattle.clock_pl.specs.declared.fault.ClockEnd.TheVariants as ends_by
use Rattle.clock_pl.specs.calls.ClockPlanning.{as_fault}
use Rattle.clock_pl.specs.inside.ClockChecker.{ClockChecker, current}
use Rattle.clock_pl.specs.inside.ClockCheckerSteps.{GivesValue, checker_async, checker_move, checker_next_activity, checker_ops, innermost_alone, kept_start_at, start_ops, with_kept_activity}

-- ---- steps that may fail

pub bind_same : {A B : Type 0} (o : Outcome A) (f g : A → Outcome B) → ((x : A) → f x ≡ g x) → (o >>= f) ≡ (o >>= g)
bind_same (Ok x) f g h = h x
bind_same (Err e) f g h = refl

pub bind_ok : {A : Type 0} (o : Outcome A) → (o >>= λ x. Ok x) ≡ o
bind_ok (Ok x) = refl
bind_ok (Err e) = refl

-- ---- names that are listed

or_turned : (a b : Bool) → (b || (a || false)) ≡ (a || b)
or_turned true true = refl
or_turned true false = refl
or_turned false true = refl
or_turned false false = refl

any_push : {A : Type 0} (p : A → Bool) (xs : List A) (x : A) → list_any p (x ∷ xs) ≡ list_any p (xs ++ x ∷ [])
any_push p xs x = sym (list_any-append p xs (x ∷ []) ∙ or_turned (p x) (list_any p xs))

clock_of_same : (idle : Bool) (n : ℕ) (a b : List (List ℕ)) (x : List ℕ) (now : Current) → list_any (bytes_eq x) a ≡ list_any (bytes_eq x) b →
    clock_of idle n a x now ≡ clock_of idle n b x now
unfolding clock_of
clock_of_same idle n a b x now e =
    ap (λ v. as_clock n (now.names x) >>= λ p. fault_unless (now.standing.members p) not_registered n >>= λ _. fault_unless (not v) listed_twice n >>= λ _.
    fault_unless (not (idle && now.standing.pending p)) still_pending n >>= λ _. Ok p) e

clocks_of_same : (n : ℕ) (a b : List (List ℕ)) (xs : List (List ℕ)) (now : Current) → ((y : List ℕ) → list_any (bytes_eq y) a ≡ list_any (bytes_eq y) b) →
    clocks_of n a xs now ≡ clocks_of n b xs now
unfolding clocks_of
clocks_of_same n a b [] now h = refl
clocks_of_same n a b (x ∷ xs) now h =
    ap (λ o. o >>= λ p. clocks_of n (x ∷ a) xs now >>= λ ps. Ok (p ∷ ps)) (clock_of_same true n a b x now (h x))
    ∙ ap (λ o. clock_of true n b x now >>= λ p. o >>= λ ps. Ok (p ∷ ps))
    (clocks_of_same n (x ∷ a) (x ∷ b) xs now (λ y. ap (λ v. bytes_eq y x || v) (h y)))

-- the clocks of all names are those of so many, and then those of the rest behind the listed ones
pub record Listed (n : ℕ) (names : List (List ℕ)) (now : Current) (listed : List (List ℕ)) (i : ℕ) (clocks : List PhaserId) : Type 0 where
  pub all : clocks_of n [] names now ≡ (clocks_of n listed (drop i names) now >>= λ ps. Ok (map (λ (p : PhaserId). p.0) clocks ++ ps))

module _ (n : ℕ) (names : List (List ℕ)) (now : Current) (listed : List (List ℕ)) (i : ℕ) (clocks : List PhaserId) (h : Listed n names now listed i clocks) where
  module _ (x : List ℕ) (d : List ℕ) (lt : i < length names) (is : x ≡ get_or names i d) where
    front : drop i names ≡ x ∷ drop (i + 1) names
    front = drop_more names i d lt ∙ ap (λ z. z ∷ drop (i + 1) names) (sym is)

    rest : List ℕ → Outcome (List ℕ)
    rest ps = Ok (map (λ (p : PhaserId). p.0) clocks ++ ps)

    next : clocks_of n [] names now ≡
        ((clock_of true n listed x now >>= λ p. clocks_of n (x ∷ listed) (drop (i + 1) names) now >>= λ ps. Ok (p ∷ ps))
        >>= λ ps. Ok (map (λ (p : PhaserId). p.0) clocks ++ ps))
    unfolding clocks_of
    next = h.all ∙ ap (λ z. clocks_of n listed z now >>= λ ps. Ok (map (λ (p : PhaserId). p.0) clocks ++ ps)) front

    pub listed_fails : (f : CheckFault) → clock_of true n listed x now ≡ Err f → clocks_of n [] names now ≡ Err f
    listed_fails f e = next ∙ ap (λ o. (o >>= λ p. clocks_of n (x ∷ listed) (drop (i + 1) names) now >>= λ ps. Ok (p ∷ ps))
        >>= λ ps. Ok (map (λ (p : PhaserId). p.0) clocks ++ ps)) e

    pub listed_err : (e : ClockEnd) (r : Result (List PhaserId) ClockEnd) → r ≡ Err e →
        GivesValue (λ (p : PhaserId). p.0) (Err e) (clock_of true n listed x now) → GivesValue (map (λ (p : PhaserId). p.0)) r (clocks_of n [] names now)
    listed_err (ends_by.Clock f) r is h =
        subst (λ z. GivesValue (map (λ (p : PhaserId). p.0)) z (clocks_of n [] names now)) (sym is) (listed_fails (as_fault f) h)
    listed_err ends_by.NoMemory r is h = subst (λ z. GivesValue (map (λ (p : PhaserId). p.0)) z (clocks_of n [] names now)) (sym is) tt

    pub listed_more : (p : PhaserId) (listed' : List (List ℕ)) → clock_of true n listed x now ≡ Ok p.0 → listed' ≡ listed ++ x ∷ [] →
        Listed n names now listed' (i + 1) (clocks ++ p ∷ [])
    listed_more p listed' e l = record {
      all = next ∙ ap (λ o. (o >>= λ p. clocks_of n (x ∷ listed) (drop (i + 1) names) now >>= λ ps. Ok (p ∷ ps))
          >>= λ ps. Ok (map (λ (p : PhaserId). p.0) clocks ++ ps)) e
          ∙ bind_assoc (clocks_of n (x ∷ listed) (drop (i + 1) names) now) (λ ps. Ok (p.0 ∷ ps)) (λ ps. Ok (map (λ (p : PhaserId). p.0) clocks ++ ps))
          ∙ ap (λ o. o >>= λ ps. Ok (map (λ (p : PhaserId). p.0) clocks ++ (p.0 ∷ ps)))
          (clocks_of_same n (x ∷ listed) listed' (drop (i + 1) names) now (λ y. any_push (bytes_eq y) listed x ∙ ap (λ z. list_any (bytes_eq y) z) (sym l)))
          ∙ bind_same (clocks_of n listed' (drop (i + 1) names) now) (λ ps. Ok (map (λ (p : PhaserId). p.0) clocks ++ (p.0 ∷ ps)))
          (λ ps. Ok (map (λ (p : PhaserId). p.0) (clocks ++ p ∷ []) ++ ps))
          (λ ps. ap Ok (sym (ap (λ z. z ++ ps) (map-append (λ (p : PhaserId). p.0) clocks (p ∷ []))
          ∙ append_assoc (map (λ (p : PhaserId). p.0) clocks) (p.0 ∷ []) ps)));
    }

  pub listed_all : length names ≤ i → clocks_of n [] names now ≡ Ok (map (λ (p : PhaserId). p.0) clocks)
  unfolding clocks_of
  listed_all le =
      h.all ∙ ap (λ z. clocks_of n listed z now >>= λ ps. Ok (map (λ (p : PhaserId). p.0) clocks ++ ps)) (drop_all i names le)
      ∙ ap Ok (append-nil (map (λ (p : PhaserId). p.0) clocks))

-- ---- ops

pub mapped_more : {A B : Type 0} (f : A → B) (xs : List A) (i : ℕ) (d : A) → i < length xs → map f (take i xs) ++ f (get_or xs i d) ∷ [] ≡ map f (take (i + 1) xs)
mapped_more f xs i d lt = sym (ap (map f) (take_more xs i d lt) ∙ map-append f (take i xs) (get_or xs i d ∷ []))

pub regs_more : (c : TaskId) (on : List PhaserId) (i : ℕ) (ops new : List Op) (d : PhaserId) → i < length on → ops ≡ map (λ p. Reg c p) (take i on) →
    new ≡ ops ++ Reg c (get_or on i d) ∷ [] → new ≡ map (λ p. Reg c p) (take (i + 1) on)
regs_more c on i ops new d lt h e = e ∙ ap (λ xs. xs ++ Reg c (get_or on i d) ∷ []) h ∙ mapped_more (λ p. Reg c p) on i d lt

-- ---- an async

phasers_back : (ps : List PhaserId) → map phaser (map (λ (p : PhaserId). p.0) ps) ≡ ps
phasers_back [] = refl
phasers_back (p ∷ ps) = ap (λ xs. p ∷ xs) (phasers_back ps)

regs_back : (c : TaskId) (ps : List PhaserId) → map (λ (p : ℕ). Reg c (phaser p)) (map (λ (p : PhaserId). p.0) ps) ≡ map (λ p. Reg c p) ps
regs_back c [] = refl
regs_back c (p ∷ ps) = ap (λ xs. Reg c p ∷ xs) (regs_back c ps)

governed_regs : (c : TaskId) (fs : List PhaserId) → map (λ (p : ℕ). Reg c (phaser p)) (option_to_list (innermost (map (λ (p : PhaserId). p.0) fs))) ≡ map (λ p. Reg c p)
    (innermost_alone fs)
governed_regs c [] = refl
governed_regs c (f ∷ fs) = refl

start_ops_are : (s : ActivityStanding) (c : TaskId) (ps fs : List PhaserId) →
    ops_of s (starts c.0 (map (λ (p : PhaserId). p.0) ps) (innermost (map (λ (p : PhaserId). p.0) fs))) ≡ start_ops c (ps ++ innermost_alone fs)
start_ops_are s c ps fs =
    ap (λ xs. xs ++ (map (λ (p : ℕ). Reg c (phaser p)) (option_to_list (innermost (map (λ (p : PhaserId). p.0) fs))) ++ Fork c ∷ [])) (regs_back c ps)
    ∙ ap (λ xs. map (λ p. Reg c p) ps ++ (xs ++ Fork c ∷ [])) (governed_regs c fs)
    ∙ sym (append_assoc (map (λ p. Reg c p) ps) (map (λ p. Reg c p) (innermost_alone fs)) (Fork c ∷ []))
    ∙ ap (λ xs. xs ++ Fork c ∷ []) (sym (map-append (λ p. Reg c p) ps (innermost_alone fs)))

pub async_is : (n : ℕ) (xs : List (List ℕ)) (body : ClockTree) (k : ClockChecker) (ps : List PhaserId) (c : TaskId) →
    clocks_of n [] xs (current k) ≡ Ok (map (λ (p : PhaserId). p.0) ps) → checker_next_activity n k ≡ Ok c.0 →
    checker_async n xs body k ≡ checker_ops n (start_ops c (ps ++ innermost_alone k.known.governing))
    (with_kept_activity (kept_start_at n body (ps ++ innermost_alone k.known.governing) k.known) k)
unfolding checker_async checker_move
async_is n xs body k ps c named next =
    ap (λ o. o >>= λ ps. checker_next_activity n k >>= λ c. checker_move n (starts c ps (innermost (current k).governing))
    (with_kept_activity (kept_start_at n body (map phaser ps ++ innermost_alone k.known.governing) k.known) k)) named
    ∙ ap (λ o. o >>= λ c. checker_move n (starts c (map (λ (p : PhaserId). p.0) ps) (innermost (current k).governing))
    (with_kept_activity (kept_start_at n body (map phaser (map (λ (p : PhaserId). p.0) ps) ++ innermost_alone k.known.governing) k.known) k)) next
    ∙ ap (λ zs. checker_move n (starts c.0 (map (λ (p : PhaserId). p.0) ps) (innermost (current k).governing))
    (with_kept_activity (kept_start_at n body (zs ++ innermost_alone k.known.governing) k.known) k)) (phasers_back ps)
    ∙ ap (λ ops. checker_ops n ops (with_kept_activity (kept_start_at n body (ps ++ innermost_alone k.known.governing) k.known) k) >>= λ k. Ok k)
    (start_ops_are (current k).standing c ps k.known.governing)
    ∙ bind_ok (checker_ops n (start_ops c (ps ++ innermost_alone k.known.governing))
    (with_kept_activity (kept_start_at n body (ps ++ innermost_alone k.known.governing) k.known) k))
