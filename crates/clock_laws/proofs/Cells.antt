-- How an activity stands on a clock or a finish, and its task on the phaser of the same number.
use Rattle.std.proofs.Common.{◌≡◌, ℕ, ◌+◌, ◌<◌, ◌≤◌, Bool, true, false, Option, Some, None, arith, sym, ◌∙◌, ap, subst, refl}
use Rattle.std.specs.Prelude.{is_some}
use Rattle.armus_base.specs.States.{next_phase}

-- by whether it is a clock, whether the activity made it, the clock's phase, whether it is in the first and the second set, what it remembers, whether
-- it is in the open set, and its task's phase
pub data AgreesAt : Bool → Bool → ℕ → Bool → Bool → Option ℕ → Bool → Option ℕ → Type 0 where
  outside : {c b : Bool} {n : ℕ} → AgreesAt c b n false false None false None
  unsignalling : {b : Bool} {n : ℕ} → AgreesAt true b n true true None false (Some n)
  signalled : {b : Bool} {n : ℕ} → AgreesAt true b n true false (Some n) false (Some (n + 1))
  gone_on : {b : Bool} {n k : ℕ} → n ≡ k + 1 → AgreesAt true b n true true (Some k) false (Some n)
  begun : {n : ℕ} → AgreesAt false true n false false None false (Some 0)
  governed : {n : ℕ} → AgreesAt false false n false false None true (Some 0)

pub agrees_from :
    (c b : Bool) (n n' : ℕ) (r r' u u' : Bool) (m m' : Option ℕ) (o o' : Bool) (w w' : Option ℕ) →
    n' ≡ n → r' ≡ r → u' ≡ u → m' ≡ m → o' ≡ o → w' ≡ w → AgreesAt c b n r u m o w → AgreesAt c b n' r' u' m' o' w'
agrees_from c b n n' r r' u u' m m' o o' w w' en er eu em eo ew x =
    subst (λ v. AgreesAt c b v r' u' m' o' w') (sym en)
    (subst (λ v. AgreesAt c b n v u' m' o' w') (sym er)
    (subst (λ v. AgreesAt c b n r v m' o' w') (sym eu)
    (subst (λ v. AgreesAt c b n r u v o' w') (sym em)
    (subst (λ v. AgreesAt c b n r u m v w') (sym eo)
    (subst (λ v. AgreesAt c b n r u m o v) (sym ew) x)))))

-- a member that remembers no signal signals
pub signals_at :
    {c b : Bool} {n : ℕ} {r u : Bool} {m : Option ℕ} {o : Bool} {w : Option ℕ} →
    AgreesAt c b n r u m o w → c ≡ true → m ≡ None → (j : ℕ) → w ≡ Some j → AgreesAt c b n r false (Some n) o (next_phase w)
signals_at outside e f j g = absurd (cc)
signals_at unsignalling e f j g = signalled
signals_at signalled e f j g = absurd (cc)
signals_at (gone_on h) e f j g = absurd (cc)
signals_at begun e f j g = absurd (cc)
signals_at governed e f j g = absurd (cc)

-- a member of a clock registers a child
pub enrols_at :
    {c b d : Bool} {n : ℕ} {r u r' u' : Bool} {m m' : Option ℕ} {o o' : Bool} {w w' : Option ℕ} →
    AgreesAt c b n r u m o w → AgreesAt c d n r' u' m' o' w' → c ≡ true → m ≡ None → (j : ℕ) → w ≡ Some j → w' ≡ None →
    AgreesAt c d n true true m' o' w
enrols_at outside y e f j g z = absurd (cc)
enrols_at unsignalling outside e f j g z = unsignalling
enrols_at unsignalling unsignalling e f j g z = absurd (cc)
enrols_at unsignalling signalled e f j g z = absurd (cc)
enrols_at unsignalling (gone_on h) e f j g z = absurd (cc)
enrols_at signalled y e f j g z = absurd (cc)
enrols_at (gone_on h) y e f j g z = absurd (cc)
enrols_at begun y e f j g z = absurd (cc)
enrols_at governed y e f j g z = absurd (cc)

-- a member of a finish stands at phase 0
pub finish_phase :
    {c b : Bool} {n : ℕ} {r u : Bool} {m : Option ℕ} {o : Bool} {w : Option ℕ} → AgreesAt c b n r u m o w → c ≡ false → (j : ℕ) → w ≡ Some j → w ≡ Some 0
finish_phase outside e j g = absurd (cc)
finish_phase unsignalling e j g = absurd (cc)
finish_phase signalled e j g = absurd (cc)
finish_phase (gone_on h) e j g = absurd (cc)
finish_phase begun e j g = refl
finish_phase governed e j g = refl

-- a child that did not make the finish joins it
pub joins_at :
    {c b : Bool} {n : ℕ} {r u : Bool} {m : Option ℕ} {o : Bool} {w : Option ℕ} →
    AgreesAt c b n r u m o w → c ≡ false → b ≡ false → w ≡ None → AgreesAt c b n r u m true (Some 0)
joins_at {c = c} {b = b} {n = n} outside e f z = subst (λ v. AgreesAt v b n false false None true (Some 0)) (sym e) (subst (λ v. AgreesAt false v n false false None true
    (Some 0)) (sym f) governed)
joins_at unsignalling e f z = absurd (cc)
joins_at signalled e f z = absurd (cc)
joins_at (gone_on h) e f z = absurd (cc)
joins_at begun e f z = absurd (cc)
joins_at governed e f z = absurd (cc)

-- whoever leaves a clock
pub leaves_at :
    {c b : Bool} {n : ℕ} {r u : Bool} {m : Option ℕ} {o : Bool} {w : Option ℕ} → AgreesAt c b n r u m o w → c ≡ true → AgreesAt c b n false false None o None
leaves_at outside e = outside
leaves_at unsignalling e = outside
leaves_at signalled e = outside
leaves_at (gone_on h) e = outside
leaves_at begun e = absurd (cc)
leaves_at governed e = absurd (cc)

-- whoever waits for its signal until the clock's phase is above
pub forgets_at :
    {c b : Bool} {n : ℕ} {r u : Bool} {m : Option ℕ} {o : Bool} {w : Option ℕ} →
    AgreesAt c b n r u m o w → (k : ℕ) → m ≡ Some k → k < n → AgreesAt c b n r u None o w
forgets_at outside k e l = absurd (cc)
forgets_at unsignalling k e l = absurd (cc)
forgets_at {n = n} signalled k e l = absurd (let same : n ≡ k = (cc) in omega arith)
forgets_at (gone_on h) k e l = unsignalling
forgets_at begun k e l = absurd (cc)
forgets_at governed k e l = absurd (cc)

-- a remembered phase is one below the task's own
pub remembers_below :
    {c b : Bool} {n : ℕ} {r u : Bool} {m : Option ℕ} {o : Bool} {w : Option ℕ} → AgreesAt c b n r u m o w → (k : ℕ) → m ≡ Some k → w ≡ Some (k + 1)
remembers_below outside k e = absurd (cc)
remembers_below unsignalling k e = absurd (cc)
remembers_below {n = n} signalled k e = (let same : n ≡ k = (cc) in ap (λ v. Some (v + 1)) same)
remembers_below {n = n} (gone_on {k = j} h) k e = (let same : j ≡ k = (cc) in ap Some (h ∙ ap (λ v. v + 1) same))
remembers_below begun k e = absurd (cc)
remembers_below governed k e = absurd (cc)

-- no member of a clock is below its phase
pub is_least :
    {c b : Bool} {n : ℕ} {r u : Bool} {m : Option ℕ} {o : Bool} {w : Option ℕ} → AgreesAt c b n r u m o w → c ≡ true → (j : ℕ) → w ≡ Some j → n ≤ j
is_least outside e j g = absurd (cc)
is_least {n = n} unsignalling e j g = (let same : n ≡ j = (cc) in omega arith)
is_least {n = n} signalled e j g = (let same : n + 1 ≡ j = (cc) in omega arith)
is_least {n = n} (gone_on h) e j g = (let same : n ≡ j = (cc) in omega arith)
is_least begun e j g = absurd (cc)
is_least governed e j g = absurd (cc)

-- a clock in which each has signalled goes on
pub goes_on_at :
    {c b : Bool} {n : ℕ} {r u : Bool} {m : Option ℕ} {o : Bool} {w : Option ℕ} → AgreesAt c b n r u m o w → u ≡ false → AgreesAt c b (n + 1) r r m o w
goes_on_at outside e = outside
goes_on_at unsignalling e = absurd (cc)
goes_on_at signalled e = gone_on refl
goes_on_at (gone_on h) e = absurd (cc)
goes_on_at begun e = begun
goes_on_at governed e = governed

-- a registered activity's task is a member
pub enrolled_member :
    {c b : Bool} {n : ℕ} {r u : Bool} {m : Option ℕ} {o : Bool} {w : Option ℕ} → AgreesAt c b n r u m o w → r ≡ true → (j : ℕ) × (w ≡ Some j)
enrolled_member outside e = absurd (cc)
enrolled_member {n = n} unsignalling e = (n, refl)
enrolled_member {n = n} signalled e = (n + 1, refl)
enrolled_member {n = n} (gone_on h) e = (n, refl)
enrolled_member begun e = absurd (cc)
enrolled_member governed e = absurd (cc)

-- one that has not signalled stands at the clock's phase
pub unsignalled_phase :
    {c b : Bool} {n : ℕ} {r u : Bool} {m : Option ℕ} {o : Bool} {w : Option ℕ} → AgreesAt c b n r u m o w → u ≡ true → w ≡ Some n
unsignalled_phase outside e = absurd (cc)
unsignalled_phase unsignalling e = refl
unsignalled_phase signalled e = absurd (cc)
unsignalled_phase (gone_on h) e = refl
unsignalled_phase begun e = absurd (cc)
unsignalled_phase governed e = absurd (cc)

-- a member of a clock is registered there
pub member_enrolled :
    {c b : Bool} {n : ℕ} {r u : Bool} {m : Option ℕ} {o : Bool} {w : Option ℕ} → AgreesAt c b n r u m o w → c ≡ true → (j : ℕ) → w ≡ Some j → r ≡ true
member_enrolled outside e j g = absurd (cc)
member_enrolled unsignalling e j g = refl
member_enrolled signalled e j g = refl
member_enrolled (gone_on h) e j g = refl
member_enrolled begun e j g = absurd (cc)
member_enrolled governed e j g = absurd (cc)

-- a member of a finish that is not in the open set made it
pub member_open :
    {c b : Bool} {n : ℕ} {r u : Bool} {m : Option ℕ} {o : Bool} {w : Option ℕ} →
    AgreesAt c b n r u m o w → c ≡ false → b ≡ false → (j : ℕ) → w ≡ Some j → o ≡ true
member_open outside e f j g = absurd (cc)
member_open unsignalling e f j g = absurd (cc)
member_open signalled e f j g = absurd (cc)
member_open (gone_on h) e f j g = absurd (cc)
member_open begun e f j g = absurd (cc)
member_open governed e f j g = refl

-- whoever is in an open set is a member at phase 0 that did not make the finish
pub open_phase :
    {c b : Bool} {n : ℕ} {r u : Bool} {m : Option ℕ} {o : Bool} {w : Option ℕ} → AgreesAt c b n r u m o w → o ≡ true → w ≡ Some 0 × b ≡ false
open_phase outside e = absurd (cc)
open_phase unsignalling e = absurd (cc)
open_phase signalled e = absurd (cc)
open_phase (gone_on h) e = absurd (cc)
open_phase begun e = absurd (cc)
open_phase governed e = (refl, refl)

-- the maker of a finish that is a member again is none that waits
pub drops_finish_at :
    {c b : Bool} {n : ℕ} {r u : Bool} {m : Option ℕ} {o : Bool} {w : Option ℕ} → AgreesAt c b n r u m o w → c ≡ false → b ≡ true → AgreesAt c b n r u m o None
drops_finish_at outside e f = outside
drops_finish_at unsignalling e f = absurd (cc)
drops_finish_at signalled e f = absurd (cc)
drops_finish_at (gone_on h) e f = absurd (cc)
drops_finish_at begun e f = outside
drops_finish_at governed e f = absurd (cc)

-- the maker of a new clock, and of a new finish
pub opens_at :
    {c b : Bool} {n : ℕ} {r u : Bool} {m : Option ℕ} {o : Bool} {w : Option ℕ} →
    AgreesAt c b n r u m o w → c ≡ true → w ≡ None → AgreesAt c b 0 true true m o (Some 0)
opens_at {c = c} {b = b} outside e z = subst (λ v. AgreesAt v b 0 true true None false (Some 0)) (sym e) unsignalling
opens_at unsignalling e z = absurd (cc)
opens_at signalled e z = absurd (cc)
opens_at (gone_on h) e z = absurd (cc)
opens_at begun e z = absurd (cc)
opens_at governed e z = absurd (cc)

pub begins_at :
    {c b : Bool} {n : ℕ} {r u : Bool} {m : Option ℕ} {o : Bool} {w : Option ℕ} →
    AgreesAt c b n r u m o w → c ≡ false → b ≡ true → w ≡ None → AgreesAt c b n r u m o (Some 0)
begins_at {c = c} {b = b} {n = n} outside e f z =
    subst (λ v. AgreesAt v b n false false None false (Some 0)) (sym e) (subst (λ v. AgreesAt false v n false false None false (Some 0)) (sym f) begun)
begins_at unsignalling e f z = absurd (cc)
begins_at signalled e f z = absurd (cc)
begins_at (gone_on h) e f z = absurd (cc)
begins_at begun e f z = absurd (cc)
begins_at governed e f z = absurd (cc)

-- whoever is no member, whatever the clock's phase
pub outside_at :
    {c b : Bool} {n : ℕ} {r u : Bool} {m : Option ℕ} {o : Bool} {w : Option ℕ} (k : ℕ) → AgreesAt c b n r u m o w → w ≡ None → AgreesAt c b k r u m o w
outside_at k outside z = outside
outside_at k unsignalling z = absurd (cc)
outside_at k signalled z = absurd (cc)
outside_at k (gone_on h) z = absurd (cc)
outside_at k begun z = absurd (cc)
outside_at k governed z = absurd (cc)

-- nobody remembers a signal on a finish
pub finish_forgets :
    {c b : Bool} {n : ℕ} {r u : Bool} {m : Option ℕ} {o : Bool} {w : Option ℕ} → AgreesAt c b n r u m o w → c ≡ false → m ≡ None
finish_forgets outside e = refl
finish_forgets unsignalling e = absurd (cc)
finish_forgets signalled e = absurd (cc)
finish_forgets (gone_on h) e = absurd (cc)
finish_forgets begun e = refl
finish_forgets governed e = refl

-- ---- what is said of an activity on a clock and on a finish

-- who is registered on a clock is a member
pub registered_is :
    {c b : Bool} {n : ℕ} {r u : Bool} {m : Option ℕ} {o : Bool} {w : Option ℕ} → AgreesAt c b n r u m o w → c ≡ true → r ≡ is_some w
registered_is outside e = refl
registered_is unsignalling e = refl
registered_is signalled e = refl
registered_is (gone_on h) e = refl
registered_is begun e = absurd (cc)
registered_is governed e = absurd (cc)

-- who has signalled stands one above
pub signalled_phase :
    {c b : Bool} {n : ℕ} {r u : Bool} {m : Option ℕ} {o : Bool} {w : Option ℕ} → AgreesAt c b n r u m o w → c ≡ true → u ≡ false → (j : ℕ) → w ≡ Some j → j ≡ n + 1
signalled_phase outside e f j g = absurd (cc)
signalled_phase unsignalling e f j g = absurd (cc)
signalled_phase {n = n} signalled e f j g = (let same : n + 1 ≡ j = (cc) in sym same)
signalled_phase (gone_on h) e f j g = absurd (cc)
signalled_phase begun e f j g = absurd (cc)
signalled_phase governed e f j g = absurd (cc)

-- a member that remembers nothing has not signalled
pub forgot_unsignalled :
    {c b : Bool} {n : ℕ} {r u : Bool} {m : Option ℕ} {o : Bool} {w : Option ℕ} → AgreesAt c b n r u m o w → c ≡ true → (j : ℕ) → w ≡ Some j → m ≡ None → u ≡ true
forgot_unsignalled outside e j g f = absurd (cc)
forgot_unsignalled unsignalling e j g f = refl
forgot_unsignalled signalled e j g f = absurd (cc)
forgot_unsignalled (gone_on h) e j g f = absurd (cc)
forgot_unsignalled begun e j g f = absurd (cc)
forgot_unsignalled governed e j g f = absurd (cc)
