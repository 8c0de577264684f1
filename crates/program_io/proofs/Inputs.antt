-- What a source offers is what was read of it.
use Rattle.std.proofs.Common.{◌≡◌, ◌≤◌, ◌∙◌, ◌++◌, ℕ, length, ap, sym, arith, append-nil, length-append}
use Rattle.std.specs.Prelude.{Option, Some, None}
use Rattle.std.specs.Io.KnownBytes.{Consumes, IsAtEnd}
use Rattle.armus_base.specs.Causes.{Rose, counted}
use Rattle.program_io.specs.Passages.{GaveTooMuch, HasInput, Offers, OffersTooMuch, Passage}
use Rattle.program_io.specs.Texts.{Text}

known_whole : (a : Option Text) (b : Option Text) (xs input : Text) → a ≡ Some xs → Consumes a b input → IsAtEnd b → xs ≡ input
known_whole None b xs input e p q = absurd (cc)
known_whole (Some ys) None xs input e p q = absurd p
known_whole (Some ys) (Some zs) xs input e p q =
    let same : xs ≡ ys = cc in
    same ∙ p ∙ ap (λ t. input ++ t) q ∙ append-nil input

known_front : (a : Option Text) (b : Option Text) (xs front : Text) → a ≡ Some xs → Consumes a b front → length front ≤ length xs
known_front None b xs front e p = absurd (cc)
known_front (Some ys) None xs front e p = absurd p
known_front (Some ys) (Some zs) xs front e p =
    let same : xs ≡ ys = cc in
    let joined : xs ≡ front ++ zs = same ∙ p in
    rw joined (simp length-append (omega arith))

pub same_input : (l : Option ℕ) (src : Passage) (input read : Text) → Offers l src input → HasInput l src read → input ≡ read
same_input (Some limit) src input read offers has = known_whole src.before src.after input read offers.0 has.0 has.1
same_input None src input read offers has = offers ∙ sym has

pub not_more : (l : Option ℕ) (src : Passage) (input : Text) → Offers l src input → GaveTooMuch l src → ⊥
not_more (Some limit) src input offers (front, gave, much) =
    let more = known_front src.before src.after input front offers.0 gave in omega (arith, more, much, offers.1)
not_more None src input offers much = much

pub not_long : (l : Option ℕ) (src : Passage) (read : Text) → OffersTooMuch l src → HasInput l src read → ⊥
not_long (Some limit) src read (bytes, known, more) has =
    let same : bytes ≡ read = known_whole src.before src.after bytes read known has.0 has.1 in
    omega (arith, ap length same, more, has.2)
not_long None src read more has = more

pub rose_from : (before now : ℕ) → now ≡ counted before → Rose before now
rose_from before now e = omega arith
