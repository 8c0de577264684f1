-- The places of tasks are noted, and their seats are taken in.
use Rattle.std.proofs.Common.{◌≡◌, ◌≢◌, ℕ, zero, suc, ◌<◌, List, [], ◌∷◌, ◌++◌, Some, false, length, map, set, sym, refl, ap, ◌∙◌, subst, arith, inl, inr, ◌⊎◌}
use Rattle.std.specs.Prelude.{Contains, slice_get, replicate}
use Rattle.std.proofs.lemmas.Bool.{cases_eq}
use Rattle.std.proofs.lemmas.List.{length-replicate, length-set}
use Rattle.std.proofs.lemmas.List.Elements.{Contains-append_cases, Contains-append_left, Contains-append_right}
use Rattle.armus_base.specs.Plans.{Plan}
use Rattle.armus_base.proofs.Elements.{Contains-cons_cases, Contains-head, from_map, in_map, nothing_in_nil}
use Rattle.armus_base.proofs.Lists.{slice_get-set_same, slice_get-set_other}
use Rattle.pl_core.specs.declared.place.Place.{Place as KeptPlace}
use Rattle.board.specs.calls.Seats.{Frame, Known, TakesIn}
use Rattle.board.specs.calls.Views.{seen, task_of}
use Rattle.board_runs.specs.calls.Turns.{Working, standing_of}
use Rattle.board_runs.specs.calls.TaskSeats.{ArePlacesOf, AreTaskSeats, IsSeatIn, KnowsTasks, own_number}
use Rattle.board_runs.specs.calls.Endings.{NotesPlaces, TakesAll}
use Rattle.board_runs.proofs.Between.{seats_of_tasks}
use Rattle.board_runs.proofs.Settling.{closed, taken_here, takes_more, whose}

pub one_noted :
    (tasks : List Working) (w : Working) (before now : List KeptPlace) (p : KeptPlace) → NotesPlaces tasks before now → own_number w < length before → p ≡ standing_of w.seat →
    NotesPlaces (tasks ++ w ∷ []) before (set now (own_number w) p)
one_noted tasks w before now p noted within is = record { count = length-set now (own_number w) p ∙ noted.count; each = each }
  where
    each : (t : ℕ) → t < length before →
        ((v : Working) × Contains (tasks ++ w ∷ []) v × own_number v ≡ t × slice_get (set now (own_number w) p) t ≡ Some (standing_of v.seat))
        ⊎ (((v : Working) → Contains (tasks ++ w ∷ []) v → own_number v ≢ t) × slice_get (set now (own_number w) p) t ≡ slice_get before t)
    each t l = elim (cases_eq (own_number w) t) [
      | inl same ↦
          inl (
            w,
            Contains-append_right tasks (w ∷ []) w (Contains-head w []),
            same,
            subst (λ n. slice_get (set now n p) t ≡ Some (standing_of w.seat)) (sym same)
                (slice_get-set_same now t p (let c = noted.count in omega arith) ∙ ap Some is),
          )
      | inr other ↦ elim (noted.each t l) [
        | inl r ↦ inl (r.0, Contains-append_left tasks (w ∷ []) r.0 r.1, r.2, slice_get-set_other now (own_number w) t p (λ e. other (sym e)) ∙ r.3)
        | inr r ↦
            inr (
              (λ v i. elim (Contains-append_cases tasks (w ∷ []) v i) [
                | inl there ↦ r.0 v there
                | inr last ↦ elim (Contains-cons_cases w [] v last) [
                  | inl here ↦ (λ e. other (ap own_number here ∙ e))
                  | inr no_way ↦ absurd (nothing_in_nil v no_way)
                ]
              ]),
              slice_get-set_other now (own_number w) t p (λ e. other (sym e)) ∙ r.1,
            )
      ]
    ]

-- those of one list after another's
pub noted_more :
    (plan : Plan) (xs ys : List Working) (before now : List KeptPlace) → ArePlacesOf plan xs before → NotesPlaces ys before now → ArePlacesOf plan (xs ++ ys) now
noted_more plan xs ys before now are noted = record { one_each = noted.count ∙ are.one_each; each = each }
  where
    each : (t : ℕ) → t < length plan.parents →
        ((v : Working) × Contains (xs ++ ys) v × own_number v ≡ t × slice_get now t ≡ Some (standing_of v.seat))
        ⊎ (((v : Working) → Contains (xs ++ ys) v → own_number v ≢ t) × slice_get now t ≡ Some (record { events = 0; refused = false }))
    each t l = elim (noted.each t (let c = are.one_each in omega arith)) [
      | inl r ↦ inl (r.0, Contains-append_right xs ys r.0 r.1, r.2, r.3)
      | inr r ↦ elim (are.each t l) [
        | inl s ↦ inl (s.0, Contains-append_left xs ys s.0 s.1, s.2, r.1 ∙ s.3)
        | inr s ↦ inr ((λ v i. elim (Contains-append_cases xs ys v i) [ inl here ↦ s.0 v here | inr there ↦ r.0 v there ]), r.1 ∙ s.1)
      ]
    ]

abbrev seat_of : Working → Known
seat_of w = w.seat

seats_more : (xs ys : List Working) → map seat_of (xs ++ ys) ≡ map seat_of xs ++ map seat_of ys
seats_more [] ys = refl
seats_more (x ∷ xs) ys = ap (λ ks. x.seat ∷ ks) (seats_more xs ys)

pub task_taken : (tasks : List Working) (w : Working) (a b c : Known) → TakesAll (map seat_of tasks) a b → TakesIn w.seat b c → TakesAll (map seat_of (tasks ++ w ∷ [])) a c
task_taken tasks w a b c takes more = subst (λ ks. TakesAll ks a c) (sym (seats_more tasks (w ∷ []))) (takes_more (map seat_of tasks) w.seat a b c takes more)

takes_on : (xs ys : List Known) (a b c : Known) → TakesAll xs a b → TakesAll ys b c → TakesAll (xs ++ ys) a c
takes_on [] ys a b c same q = subst (λ k. TakesAll ys k c) same q
takes_on (x ∷ xs) ys a b c p q = (p.0, p.1, takes_on xs ys p.0 b c p.2 q)

pub tasks_taken : (xs ys : List Working) (a b c : Known) → TakesAll (map seat_of xs) a b → TakesAll (map seat_of ys) b c → TakesAll (map seat_of (xs ++ ys)) a c
tasks_taken xs ys a b c p q = subst (λ ks. TakesAll ks a c) (sym (seats_more xs ys)) (takes_on (map seat_of xs) (map seat_of ys) a b c p q)

-- a viewer that has taken them all in knows them
pub knows :
    (f : Frame) (tasks : List Working) (a b : Known) → AreTaskSeats f (IsSeatIn tasks) → TakesAll (map seat_of tasks) a b → ((u : ℕ) → (seen a.view).exact u ≡ false) →
    KnowsTasks f tasks b
knows f tasks a b board_tasks takes unknown =
    let seats = map seat_of tasks in
    let all = seats_of_tasks f tasks seats refl board_tasks in
    record {
      closed = closed f seats a b all takes unknown;
      here = λ w i. taken_here seats a b w.seat takes (in_map seat_of tasks w i);
      only = λ u is. let k = whose f seats a b all takes unknown u is in let w = from_map seat_of tasks k.0 k.1 in (w.0, w.1, ap (λ (m : Known). task_of m.view) w.2 ∙ k.2);
    }

all_first : (n : ℕ) (p : KeptPlace) (t : ℕ) → t < n → slice_get (replicate n p) t ≡ Some p
all_first zero p t l = absurd (omega arith)
all_first (suc n) p zero l = refl
all_first (suc n) p (suc t) l = all_first n p t (omega arith)

-- where no task is, each place is the first
pub none_noted : (plan : Plan) (n : ℕ) → n ≡ length plan.parents → ArePlacesOf plan [] (replicate n (record { events = 0; refused = false }))
none_noted plan n count =
    record {
      one_each = length-replicate n (record { events = 0; refused = false }) ∙ count;
      each = λ t l. inr ((λ w i. absurd (nothing_in_nil w i)), all_first n (record { events = 0; refused = false }) t (omega arith));
    }
