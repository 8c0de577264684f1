-- A line has one message.
use mathlib.Core.Path.{fun_ext}
use Rattle.std.proofs.Common.{◌≡◌, ℕ, Bool, true, false, Some, None, List, [], ◌∷◌, ◌++◌, refl, sym, ◌∙◌, ap, subst, inl, inr}
use Rattle.std.specs.Prelude.{Option, codes, find}
use Rattle.monitor_laws.specs.Lines.{TraceLine}
use Rattle.monitor_laws.specs.States.{Participant, TraceState, after_lines}
use Rattle.monitor_words.specs.Laws.{HasOneMessage, HasOneReason, HasSomeReason}
use Rattle.monitor_words.specs.Messages.{IsToldOf, asked_words, resolved_words, rows_told, those_only_in}
use Rattle.monitor_words.specs.Reasons.{EndedKeeps, InCircle, IsStuckBecause, SomebodyMissing, StuckBecause, StuckStops, ended_keeps}
use Rattle.monitor_words.specs.Sentences.{sentence_words, told_verdict}
use Rattle.monitor_words.specs.Stops.{IsCircle, TellsStuck, stops}
use Rattle.monitor_words.specs.Words.{message_line}
use Rattle.monitor_words.proofs.Circles.{first_circle_or_none, has_one_circle}

same_bit : (x y : Bool) → (x ≡ true → y ≡ true) → (y ≡ true → x ≡ true) → x ≡ y
same_bit true y to from = sym (to refl)
same_bit false true to from = from refl
same_bit false false to from = refl

-- the stuck tasks are told by one test
pub one_test : (s : TraceState) (one other : ℕ → Bool) → TellsStuck s one → TellsStuck s other → one ≡ other
one_test s one other tells too = fun_ext (λ k. same_bit (one k) (other k) (λ is. (too k).1 ((tells k).0 is)) (λ is. (tells k).1 ((too k).0 is)))

pub has_one_reason : HasOneReason
has_one_reason h stuck f (InCircle l) (InCircle k) one other = ap InCircle (has_one_circle h stuck f l k one other)
has_one_reason h stuck f (InCircle l) (EndedKeeps u) one other = absurd (other.0 l one.0.0)
has_one_reason h stuck f (InCircle l) (StuckStops u) one other = absurd (other.0 l one.0.0)
has_one_reason h stuck f (InCircle l) SomebodyMissing one other = absurd (other.0 l one.0.0)
has_one_reason h stuck f (EndedKeeps u) (InCircle k) one other = absurd (one.0 k other.0.0)
has_one_reason h stuck f (EndedKeeps u) (EndedKeeps v) one other = let e = sym one.1 ∙ other.1 in ap EndedKeeps (cc)
has_one_reason h stuck f (EndedKeeps u) (StuckStops v) one other = absurd (let e = sym one.1 ∙ other.1 in cc)
has_one_reason h stuck f (EndedKeeps u) SomebodyMissing one other = absurd (let e = sym one.1 ∙ other.1 in cc)
has_one_reason h stuck f (StuckStops u) (InCircle k) one other = absurd (one.0 k other.0.0)
has_one_reason h stuck f (StuckStops u) (EndedKeeps v) one other = absurd (let e = sym one.1 ∙ other.1 in cc)
has_one_reason h stuck f (StuckStops u) (StuckStops v) one other = let e = sym one.2 ∙ other.2 in ap StuckStops (cc)
has_one_reason h stuck f (StuckStops u) SomebodyMissing one other = absurd (let e = sym one.2 ∙ other.2 in cc)
has_one_reason h stuck f SomebodyMissing (InCircle k) one other = absurd (one.0 k other.0.0)
has_one_reason h stuck f SomebodyMissing (EndedKeeps v) one other = absurd (let e = sym one.1 ∙ other.1 in cc)
has_one_reason h stuck f SomebodyMissing (StuckStops v) one other = absurd (let e = sym one.2 ∙ other.2 in cc)
has_one_reason h stuck f SomebodyMissing SomebodyMissing one other = refl

pub has_some_reason : HasSomeReason
has_some_reason h stuck f = elim (first_circle_or_none h stuck f) [
  | inl first ↦ (InCircle first.0, first.1)
  | inr none ↦ by_ended none (find (ended_keeps f) (after_lines h).list) refl
]
  where
    by_stop :
        ((l : List Participant) → IsCircle (after_lines h) stuck f l → ⊥) → find (ended_keeps f) (after_lines h).list ≡ None → (o : Option Participant) →
        find (λ v. stops (after_lines h) stuck v f) (after_lines h).list ≡ o → (because : StuckBecause) × IsStuckBecause (after_lines h) stuck f because
    by_stop none nobody (Some u) is = (StuckStops u, (none, nobody, is))
    by_stop none nobody None is = (SomebodyMissing, (none, nobody, is))

    by_ended :
        ((l : List Participant) → IsCircle (after_lines h) stuck f l → ⊥) → (o : Option Participant) → find (ended_keeps f) (after_lines h).list ≡ o →
        (because : StuckBecause) × IsStuckBecause (after_lines h) stuck f because
    by_ended none (Some u) is = (EndedKeeps u, (none, is))
    by_ended none None is = by_stop none is (find (λ v. stops (after_lines h) stuck v f) (after_lines h).list) refl

-- what is told of these is one
one_told : (s : TraceState) (h : List TraceLine) (was stuck : ℕ → Bool) (newly : List Participant) (a b : List ℕ) →
    IsToldOf s (after_lines h) was stuck newly a → IsToldOf s (after_lines h) was stuck newly b → a ≡ b
one_told s h was stuck [] a b one other = one ∙ sym other
one_told s h was stuck (first ∷ others) a b one other =
    let e : other.0 ≡ one.0 = other.2 ∙ sym one.2 in
    let because : one.1 ≡ other.1 = has_one_reason h stuck one.0 one.1 other.1 one.3 (subst (λ x. IsStuckBecause (after_lines h) stuck x other.1) e other.3) in
    one.4
    ∙ ap (λ x. message_line (told_verdict x ++ sentence_words (codes " waits for ") one.0 x) ++ rows_told (after_lines h) was stuck one.0 (first ∷ others) x) because
    ∙ ap (λ x. message_line (told_verdict other.1 ++ sentence_words (codes " waits for ") x other.1) ++ rows_told (after_lines h) was stuck x (first ∷ others) other.1) (sym e)
    ∙ sym other.4

pub has_one_message : HasOneMessage
has_one_message h l one other a b =
    let was = one_test (after_lines h) a.was b.was a.before b.before in
    let stuck = one_test (after_lines (l ∷ h)) a.stuck b.stuck a.after b.after in
    let tells : IsToldOf (after_lines h) (after_lines (l ∷ h)) a.was a.stuck (those_only_in (after_lines (l ∷ h)) a.stuck a.was) b.told =
    subst (λ w. IsToldOf (after_lines h) (after_lines (l ∷ h)) w a.stuck (those_only_in (after_lines (l ∷ h)) a.stuck w) b.told) (sym was)
    (subst (λ x. IsToldOf (after_lines h) (after_lines (l ∷ h)) b.was x (those_only_in (after_lines (l ∷ h)) x b.was) b.told) (sym stuck) b.tells) in
    let told : a.told ≡ b.told = one_told (after_lines h) (l ∷ h) a.was a.stuck (those_only_in (after_lines (l ∷ h)) a.stuck a.was) a.told b.told a.tells tells in
    a.is
    ∙ ap (λ x. resolved_words (those_only_in (after_lines h) a.was a.stuck) ++ x ++ asked_words (after_lines (l ∷ h)) a.stuck l) told
    ∙ ap (λ w. resolved_words (those_only_in (after_lines h) w a.stuck) ++ b.told ++ asked_words (after_lines (l ∷ h)) a.stuck l) was
    ∙ ap (λ x. resolved_words (those_only_in (after_lines h) b.was x) ++ b.told ++ asked_words (after_lines (l ∷ h)) x l) stuck
    ∙ sym b.is
