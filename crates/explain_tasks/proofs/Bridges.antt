-- Two sayings are equal for the program just where they say the same.
use Rattle.std.proofs.Common.{◌≡◌, ℕ, Option, Some, None, refl, ap, ◌∙◌}
use Rattle.std.specs.Prelude.{◌&&◌, option_map, nat_eq}
use Rattle.std.specs.Option.{option_eq}
use Rattle.std.specs.Str.{bytes_eq}
use Rattle.explain_tasks.specs.Sayings.{same_event, same_forking, same_phase, same_said}
use Rattle.explain_tasks.specs.calls.SayingValues.{forking_said, said_by}
use Rattle.explain_tasks.specs.declared.saying.ForkingWords.{ForkingWords}
use Rattle.explain_tasks.specs.declared.saying.Saying.{Saying}
use Rattle.explain_tasks.specs.contracts.saying.ForkingWordsPartialEq.TheImpl.{eq-value as forking_value}
use Rattle.explain_tasks.specs.contracts.saying.SayingPartialEq.TheImpl.{eq-value as value}

phases : (a b : Option ℕ) → option_eq nat_eq a b ≡ same_phase a b
phases None None = refl
phases None (Some b) = refl
phases (Some a) None = refl
phases (Some a) (Some b) = refl

events : (a b : Option (ℕ × ℕ)) → option_eq (λ x y. nat_eq x.0 y.0 && nat_eq x.1 y.1) a b
    ≡ same_event (option_map (λ e. record { p = record { 0 = e.0 }; n = e.1 }) a) (option_map (λ e. record { p = record { 0 = e.0 }; n = e.1 }) b)
events None None = refl
events None (Some b) = refl
events (Some a) None = refl
events (Some a) (Some b) = refl

forkings : (a b : Option ForkingWords) → option_eq (λ x y. forking_value.it x y) a b ≡ same_forking (option_map forking_said a) (option_map forking_said b)
forkings None None = refl
forkings None (Some b) = refl
forkings (Some a) None = refl
forkings (Some a) (Some b) = refl

-- the test of the program is that of what is said
pub same_saying : (a b : Saying) → value.it a b ≡ same_said (said_by a) (said_by b)
same_saying a b =
    let last = bytes_eq a.next.items b.next.items in
    ap (λ v. bytes_eq a.front.items b.front.items && (bytes_eq a.name.items b.name.items && (v && (bytes_eq a.words.items b.words.items && (option_eq (λ (x : ℕ × ℕ) y. nat_eq x.0 y.0 && nat_eq x.1 y.1) a.event b.event && (option_eq (λ x y. forking_value.it x y) a.forking b.forking && last)))))) (phases a.phase b.phase)
    ∙ ap (λ v. bytes_eq a.front.items b.front.items && (bytes_eq a.name.items b.name.items && (same_phase a.phase b.phase && (bytes_eq a.words.items b.words.items && (v && (option_eq (λ x y. forking_value.it x y) a.forking b.forking && last)))))) (events a.event b.event)
    ∙ ap (λ v. bytes_eq a.front.items b.front.items && (bytes_eq a.name.items b.name.items && (same_phase a.phase b.phase && (bytes_eq a.words.items b.words.items && (same_event (said_by a).event (said_by b).event && (v && last)))))) (forkings a.forking b.forking)
