-- Who is forked in a round, and which turns have ended where nobody is.
use Rattle.std.proofs.Common.{◌≡◌, ◌≢◌, ℕ, suc, Bool, true, false, List, [], ◌∷◌, ◌++◌, length, length-append, map, refl, sym, ap, ◌∙◌, arith}
use Rattle.std.specs.Prelude.{◌↔◌, All, Contains, sum_by}
use Rattle.std.specs.List.{flat_map}
use Rattle.std.proofs.lemmas.Bool.{false≢true}
use Rattle.std.proofs.lemmas.List.{length-map}
use Rattle.std.proofs.lemmas.List.Sums.{sum_by-cons}
use Rattle.armus_base.specs.Plans.{Action}
use Rattle.armus_base.proofs.Elements.{Contains-head, Contains-tail}
use Rattle.board.specs.calls.Seats.{Frame, Known}
use Rattle.board_runs.specs.calls.Turns.{EachActs, Working, no_task, one_task, tasks_forked}
use Rattle.board_runs.specs.calls.Rounds.{HasTakenTurn, all_forked, emptied, fresh, fresh_of}
use Rattle.board_runs.proofs.Goings.{none_in, same_task, seats_counted}
use Rattle.board_runs.proofs.Rounding.{AreTurned, all_more, all_none, no_turned, one_turned}

-- there is a new task for each that is forked
pub forks_counted :
    {f : Frame} {owns : List (List Action)} {olds news : List Working} → EachActs f owns olds news → ((w : Working) → Contains olds w → w.children ≡ []) →
    length (flat_map fresh_of news) ≡ length (all_forked owns)
forks_counted no_task none = refl
forks_counted (one_task {own = own} {owns = owns} {before = before} {now = now} {befores = befores} {nows = nows} acts p) none =
    let here : now.children ≡ acts.new = acts.children ∙ ap (λ (ks : List Known). ks ++ acts.new) (none before (Contains-head before befores)) in
    let a : length (fresh_of now) ≡ length acts.new = length-map now.children fresh ∙ ap length here in
    let b : length acts.new ≡ length (tasks_forked own) = seats_counted acts.seats in
    let c = length-append (fresh_of now) (flat_map fresh_of nows) in
    let d = length-append (tasks_forked own) (flat_map tasks_forked owns) in
    let r = forks_counted p (λ w i. none w (Contains-tail before befores w i)) in
    omega arith

-- where no step was made nobody was forked
pub still_forks : (owns : List (List Action)) → 0 ≡ sum_by length owns → all_forked owns ≡ []
still_forks [] e = refl
still_forks ([] ∷ owns) e = still_forks owns (let s = sum_by-cons (length {A = Action}) [] owns in omega arith)
still_forks ((x ∷ own) ∷ owns) e = absurd (let s = sum_by-cons (length {A = Action}) (x ∷ own) owns in omega arith)

-- what is told of a list is told of one that is as long
pub same_forked : (told : Bool) (xs : List Working) (cs : List ℕ) → length xs ≡ length cs → (told ≡ true ↔ (xs ≢ [])) → (told ≡ true ↔ (cs ≢ []))
same_forked told xs cs e iff = (
  (λ is none. iff.0 is (none_in xs (let z : length cs ≡ 0 = ap length none in omega arith))),
  (λ some. iff.1 (λ none. some (none_in cs (let z : length xs ≡ 0 = ap length none in omega arith)))),
)

pub none_forked : (told : Bool) (cs : List ℕ) → (told ≡ true ↔ (cs ≢ [])) → told ≡ false → cs ≡ []
none_forked told [] iff not_so = refl
none_forked told (c ∷ cs) iff not_so =
    absurd (false≢true (sym not_so ∙ iff.1 (λ none. let z : suc (length cs) ≡ 0 = ap length none in absurd (omega arith))))

pub not_forked : (told : Bool) (cs : List ℕ) → (told ≡ true ↔ (cs ≢ [])) → cs ≡ [] → told ≡ false
not_forked true cs iff none = absurd (iff.0 refl none)
not_forked false cs iff none = refl

taken_more :
    (bound total : ℕ) (w : Working) (olds ws : List Working) → All (HasTakenTurn bound total olds) ws → All (HasTakenTurn bound total (w ∷ olds)) ws
taken_more bound total w olds ws all = λ k d l.
    let t = all k d l in record { was = t.was; among = Contains-tail w olds t.was t.among; same = t.same; ends = t.ends }

-- whose turn has ended has taken it since, with the seats of its children or without them
pub have_turned :
    {bound total : ℕ} {f : Frame} {owns : List (List Action)} {olds news : List Working} → AreTurned bound total olds news → EachActs f owns olds news →
    All (HasTakenTurn bound total olds) (map emptied news)
have_turned {bound = bound} {total = total} no_turned no_task = all_none (HasTakenTurn bound total [])
have_turned {bound = bound} {total = total} (one_turned {before = a} {now = b} {befores = olds} {nows = news} ends p) (one_task acts q) =
    all_more (HasTakenTurn bound total (a ∷ olds)) (emptied b) (map emptied news)
    (record { was = a; among = Contains-head a olds; same = sym (same_task a.seat b.seat acts.goes.same); ends = ends })
    (taken_more bound total a olds (map emptied news) (have_turned p q))
