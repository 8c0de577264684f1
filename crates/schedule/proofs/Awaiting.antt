-- An open pass, one await cell further.
use Rattle.std.proofs.Common.{◌≡◌, ◌<◌, ◌+◌, ◌*◌, ◌∙◌, ◌||◌, ℕ, zero, suc, Bool, true, false, List, [], ◌∷◌, ◌++◌, Option, Some, None, length, take, arith, sym, subst, ap, refl, append_assoc, length-append}
use Rattle.std.specs.Prelude.{All, slice_get, if◌then◌else◌, option_to_list, option_map, map, min, ◌==◌}
use Rattle.std.specs.List.{list_any}
use Rattle.std.proofs.lemmas.List.Elements.{All-append}
use Rattle.armus_base.specs.declared.event.Event.{Event}
use Rattle.armus_base.specs.calls.CheckedPlans.{Extends}
use Rattle.armus_base.specs.CheckedPlans.{IsCheckedPlan}
use Rattle.armus_base.specs.Finals.{given_below, is_event_of}
use Rattle.armus_base.specs.Plans.{Plan}
use Rattle.armus_base.specs.Runs.{IsPlainRun, state_after}
use Rattle.armus_base.specs.States.{Step}
use Rattle.schedule.specs.declared.pass.OpenPass.{OpenPass}
use Rattle.schedule.specs.declared.pass.FoundWaiting.{FoundWaiting}
use Rattle.schedule.specs.Passes.{PassLoads, event_found, event_after}
use Rattle.schedule.specs.inside.OpenPasses.{IsPassOf, HasPhases, KeepsEvent, phaser_of, waiting_found, awaited_phaser, status_with, row_found}
use Rattle.std.proofs.Common.{eq-eqb, get_or}
use Rattle.armus_base.proofs.Below.{given_from}
use Rattle.schedule.proofs.Marks.{given_more, given_same}
use Rattle.schedule.proofs.Rows.{any_given, slice_get_last}
use Rattle.pl_core.specs.calls.Worlds.{WorldValue, state_of}
use Rattle.schedule.specs.inside.Following.{IsAt}
use Rattle.schedule.proofs.Following.{state_is}
use Rattle.schedule.proofs.PassesNameTheDead.{published_phaser}

-- an extension of one load more extends the loads before it, and has that load next
pub extends_less : (all loads : PassLoads) (h : List Step) → Extends all (loads ++ h ∷ []) → Extends all loads
extends_less all loads h (new, same) = (h ∷ new, same ∙ append_assoc loads (h ∷ []) new)

pub has_next : (all loads : PassLoads) (h : List Step) → Extends all (loads ++ h ∷ []) → slice_get all (length loads) ≡ Some h
has_next all loads h (new, same) = ap (λ l. slice_get l (length loads)) (same ∙ append_assoc loads (h ∷ []) new) ∙ slice_get_last loads h new

-- what one load of an await cell that finds this event makes of a pass
pub record LoadsAwait (plan : Plan) (pass new : OpenPass) (found : Option Event) : Type 0 where
  pub kept : KeepsEvent pass new found
  pub awaited : new.loaded ≡ length plan.parents → new.awaited.items ≡ given_below (phaser_of new.waiting.items) (length plan.makers)

one_event : (p : ℕ) (o : Option Event) (t : ℕ) → list_any (λ (w : FoundWaiting). w.event.p.0 == p)
    (option_to_list (option_map (λ e. record { t = record { 0 = t }; event = e }) o)) ≡ is_event_of p o
one_event p None t = refl
one_event p (Some e) t = or_nothing (e.p.0 == p)
  where
    or_nothing : (b : Bool) → (b || false) ≡ b
    or_nothing true = refl
    or_nothing false = refl

min_less : (a b : ℕ) → a < b → min a b ≡ a
min_less a b l = omega arith

-- where some task waits, some phaser is awaited
some_awaited : (phasers : ℕ) (ws : List FoundWaiting) → 0 < length ws → All (λ (w : FoundWaiting). w.event.p.0 < phasers) ws → 0 < length (given_below (phaser_of ws) phasers)
some_awaited phasers [] l all = absurd (omega arith)
some_awaited phasers (w ∷ ws) l all =
    let p = w.event.p.0 in
    let (k, within, is) = given_from (phaser_of (w ∷ ws)) phasers p (record { 0 = p }) (all 0 w (omega arith))
    (ap (λ b. if (b || list_any (λ (v : FoundWaiting). v.event.p.0 == p) ws) then Some (record { 0 = p }) else None) (eq-eqb p p refl)) in
    omega arith

module _ (plan : Plan) (checked : IsCheckedPlan plan) (loads : PassLoads) (h : List Step) (run : IsPlainRun plan h) (pass new : OpenPass)
    (of : IsPassOf plan loads pass) (few : length loads < length plan.parents) (loads_one : LoadsAwait plan pass new ((state_after h).published pass.loaded))
  where
    here : pass.loaded ≡ length loads
    here = of.awaits.loaded ∙ min_less (length loads) (length plan.parents) few

    longer : length (loads ++ h ∷ []) ≡ length loads + 1
    longer = length-append loads (h ∷ [])

    waiting_more : (all : PassLoads) → Extends all (loads ++ h ∷ []) → new.waiting.items ≡ given_below (waiting_found all) new.loaded
    waiting_more all ext =
        let found : event_found all pass.loaded ≡ (state_after h).published pass.loaded =
        ap (λ t. event_after pass.loaded (slice_get all t)) here ∙ ap (event_after pass.loaded) (has_next all loads h ext) in
        loads_one.kept.waiting
        ∙ ap (λ l. l ++ option_to_list (option_map (λ e. record { t = record { 0 = pass.loaded }; event = e }) ((state_after h).published pass.loaded)))
        (of.awaits.waiting all (extends_less all loads h ext))
        ∙ ap (λ o. given_below (waiting_found all) pass.loaded ++ option_to_list (option_map (λ e. record { t = record { 0 = pass.loaded }; event = e }) o)) (sym found)
        ∙ sym (given_more (waiting_found all) pass.loaded)
        ∙ ap (given_below (waiting_found all)) (sym loads_one.kept.loaded)

    awaited_more : (all : PassLoads) → Extends all (loads ++ h ∷ []) → new.loaded ≡ length plan.parents → new.awaited.items ≡ given_below (awaited_phaser plan all) (length plan.makers)
    awaited_more all ext full =
        loads_one.awaited full
        ∙ given_same (phaser_of new.waiting.items) (awaited_phaser plan all) (length plan.makers) (λ p l.
        ap (λ b. if b then Some (record { 0 = p }) else None)
        (ap (list_any (λ (w : FoundWaiting). w.event.p.0 == p)) (waiting_more all ext ∙ ap (given_below (waiting_found all)) full)
        ∙ any_given (λ (w : FoundWaiting). w.event.p.0 == p) (waiting_found all) (λ t. is_event_of p (event_found all t)) (length plan.parents)
        (λ t m. one_event p (event_found all t) t)))

    phasers_more : All (λ (w : FoundWaiting). w.event.p.0 < length plan.makers) new.waiting.items
    phasers_more =
        subst (All (λ (w : FoundWaiting). w.event.p.0 < length plan.makers)) (sym loads_one.kept.waiting)
        (All-append (λ (w : FoundWaiting). w.event.p.0 < length plan.makers) pass.waiting.items _ of.awaits.phasers (one ((state_after h).published pass.loaded) refl))
      where
        one : (o : Option Event) → (state_after h).published pass.loaded ≡ o
            → All (λ (w : FoundWaiting). w.event.p.0 < length plan.makers) (option_to_list (option_map (λ e. record { t = record { 0 = pass.loaded }; event = e }) o))
        one None is = λ k d l. absurd (omega arith)
        one (Some e) is = λ k d l. first k d l (published_phaser plan checked h run.0 pass.loaded e is)
          where
            first : (k : ℕ) (d : FoundWaiting) → k < 1 → e.p.0 < length plan.makers →
                (get_or (record { t = record { 0 = pass.loaded }; event = e } ∷ []) k d).event.p.0 < length plan.makers
            first zero d l within = within
            first (suc k) d l within = absurd (omega arith)

    -- where some task waits, some phaser is awaited
    no_row : pass.row ≡ 0 × pass.column ≡ 0
    no_row = of.phases.first (omega (arith, here))

    phases_more : HasPhases plan (loads ++ h ∷ []) new
    phases_more =
        record {
          place = λ full. record {
            cells = cells full;
            row = (let z = no_row.0 in let s = loads_one.kept.row in omega arith);
            column = λ less. (let z = no_row.1 in let s = loads_one.kept.column in let w = no_row.0 in let r = loads_one.kept.row in
                let some = some_awaited (length plan.makers) new.waiting.items (omega arith) phasers_more in
                let l = ap length (loads_one.awaited full) in omega arith);
            last = λ _. loads_one.kept.column ∙ no_row.1;
          };
          first = λ _. (loads_one.kept.row ∙ no_row.0, loads_one.kept.column ∙ no_row.1);
          statuses = λ all ext. loads_one.kept.statuses ∙ of.phases.statuses all (extends_less all loads h ext)
              ∙ ap (λ k. map (status_with plan all) (take k pass.waiting.items)) no_row.0
              ∙ sym (ap (λ k. map (status_with plan all) (take k new.waiting.items)) (loads_one.kept.row ∙ no_row.0));
          members = λ all ext. loads_one.kept.members ∙ of.phases.members all (extends_less all loads h ext)
              ∙ ap (λ k. row_found plan all (slice_get pass.waiting.items pass.row) (take k pass.awaited.items)) no_row.1
              ∙ nothing_found all (slice_get pass.waiting.items pass.row)
              ∙ sym (ap (λ k. row_found plan all (slice_get new.waiting.items new.row) (take k new.awaited.items)) (loads_one.kept.column ∙ no_row.1) ∙
              nothing_found all (slice_get new.waiting.items new.row));
        }
      where
        nothing_found : (all : PassLoads) (o : Option FoundWaiting) → row_found plan all o [] ≡ []
        nothing_found all None = refl
        nothing_found all (Some w) = refl

        cells : new.loaded ≡ length plan.parents → length (loads ++ h ∷ []) ≡ length plan.parents + (new.row * length new.awaited.items + new.column)
        cells full =
            longer ∙ ap (λ k. k + 1) (sym here) ∙ sym loads_one.kept.loaded ∙ full
            ∙ sym (ap (λ k. length plan.parents + (k * length new.awaited.items + new.column)) (loads_one.kept.row ∙ no_row.0) ∙
            ap (λ k. length plan.parents + (0 * length new.awaited.items + k)) (loads_one.kept.column ∙ no_row.1) ∙
            nothing (length plan.parents) (length new.awaited.items))
          where
            nothing : (n k : ℕ) → n + (0 * k + 0) ≡ n
            nothing n k = omega arith

    pub awaits_more : IsPassOf plan (loads ++ h ∷ []) new
    awaits_more =
        record {
          awaits = record {
            loaded = loads_one.kept.loaded ∙ (let l = longer in let z = here in omega arith);
            waiting = waiting_more;
            awaited = awaited_more;
            phasers = phasers_more;
          };
          phases = phases_more;
        }

-- so a load of an await cell in a world that follows a run is a load of the pass
pub await_loaded :
    (plan : Plan) (w : WorldValue) (pass new : OpenPass) (found : Option Event) → IsCheckedPlan plan → plan ≡ w.plan → pass.loaded < length plan.parents →
    found ≡ (state_of w).published pass.loaded → LoadsAwait plan pass new found → (loads : PassLoads) (h : List Step) → IsAt w h → IsPassOf plan loads pass →
    IsPassOf plan (loads ++ h ∷ []) new
await_loaded plan w pass new found checked same next is one loads h at of =
    let run : IsPlainRun plan h = subst (λ q. IsPlainRun q h) (sym same) at.run in
    let there : found ≡ (state_after h).published pass.loaded = is ∙ ap (λ s. s.published pass.loaded) (state_is w h at) in
    awaits_more plan checked loads h run pass new of (let l = of.awaits.loaded in omega arith) (subst (LoadsAwait plan pass new) there one)
