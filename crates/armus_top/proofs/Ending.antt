-- From what `finish` leaves to what the call leaves.
use Rattle.std.proofs.Common.{◌≡◌, ◌∙◌, ◌++◌, ℕ, List, inl, inr, ap, sym, subst}
use Rattle.std.specs.Prelude.{Option, Some, None}
use Rattle.std.specs.Io.KnownBytes.{Appends}
use Rattle.std.proofs.KnownBytes.{Appends-trans}
use Rattle.armus_base.specs.ReadAll.{TookFront}
use Rattle.armus_base.proofs.Fronts.{front_after}
use Rattle.armus_base.specs.Causes.{counted}
use Rattle.armus_top.specs.Commands.{limit_of, IsRefusedInput}
use Rattle.armus_top.proofs.Inputs.{answered_small, never_both}
use Rattle.program_io.proofs.EndsFinished.{ends_finished}
use Rattle.program_io.specs.Texts.{Text}
use Rattle.program_io.proofs.Inputs.{not_long, not_more, rose_from, same_input}
use Rattle.program_io.specs.calls.Writing.{Finished}
use Rattle.program_io.specs.Passages.{Passage, IsCalm, IsSound, Offers, OffersTooMuch, whole, read_fault, write_fault, no_memory}
use Rattle.armus_top.specs.Headline.{Completes, Ends, IsAccepted, IsCall, IsServed, Permits, limit_for, writes_lines}
use Rattle.command_line.specs.declared.command.Command.{Command}

only : {d e : Command} → Some d ≡ Some e → d ≡ e
only h = cc

pub by_finish : (c : Option Command) (src out : Passage) (text : Text) (status number : ℕ)
    → Finished out text status number → Permits c src status text → IsSound src → Ends c src out number
by_finish c src out text status number done permits still =
    ends_finished (Permits c src) (limit_for c) (writes_lines c) src out text status number done permits still

-- another name of the same text
pub finished_as : (out : Passage) (text shown : Text) (status number : ℕ) → shown ≡ text → Finished out shown status number → Finished out text status number
finished_as out text shown status number same done = subst (λ (t : Text). Finished out t status number) same done

-- a first piece was taken whole before `finish`
pub by_pieces : (out mid : Passage) (first text : Text) (status number : ℕ)
    → mid.faults_before ≡ out.faults_before → mid.faults_after ≡ out.faults_after → mid.after ≡ out.after
    → Appends out.before mid.before first → Finished mid text status number → Finished out (first ++ text) status number
by_pieces out mid first text status number faults faults_after same took (inl (is, rest, sound)) =
    inl (is, subst (λ b. Appends out.before b (first ++ text)) same (Appends-trans out.before mid.before mid.after first text took rest), cc)
by_pieces out mid first text status number faults faults_after same took (inr (five, failed, rest)) =
    inr (
      five,
      sym faults_after ∙ failed ∙ ap counted faults,
      subst (λ b. TookFront out.before b (first ++ text)) same
          (front_after out.before mid.before mid.after first text took rest),
    )

module _ (src : Passage) where
  -- what the words and the source permit has the status that the words and the input fix
  fixed : (c : Option Command) (number : ℕ) (text : Text) → Permits c src number text → Completes c src number
  fixed None number text permits = record {
    usage = λ _. permits.0;
    accepted = λ command input is offers fine. absurd (cc);
    refused = λ command input line is offers refused. absurd (cc);
    long = λ command is more. absurd (cc);
  }
  fixed (Some d) number text (inl (read, has, inl answered)) = record {
    usage = λ none. absurd (cc);
    accepted = λ command input is offers fine. answered_small d read text number answered;
    refused = λ command input line is offers refused.
        let offers_too : Offers (limit_of d) src input = subst (λ x. Offers (limit_of x) src input) (sym (only is)) offers in
        let refused_too : IsRefusedInput d input line = subst (λ x. IsRefusedInput x input line) (sym (only is)) refused in
        let whole : input ≡ read = same_input (limit_of d) src input read offers_too has in
        absurd (never_both d read line text number (subst (λ x. IsRefusedInput d x line) whole refused_too) answered);
    long = λ command is more. absurd (not_long (limit_of d) src read (subst (λ x. OffersTooMuch (limit_of x) src) (sym (only is)) more) has);
  }
  fixed (Some d) number text (inl (read, has, inr (three, refused))) = record {
    usage = λ none. absurd (cc);
    accepted = λ command input is offers fine.
        let offers_too : Offers (limit_of d) src input = subst (λ x. Offers (limit_of x) src input) (sym (only is)) offers in
        let fine_too : IsAccepted d input = subst (λ x. IsAccepted x input) (sym (only is)) fine in
        let whole : input ≡ read = same_input (limit_of d) src input read offers_too has in
        absurd (fine_too text (subst (λ x. IsRefusedInput d x text) (sym whole) refused));
    refused = λ command input line is offers other. three;
    long = λ command is more. three;
  }
  fixed (Some d) number text (inr (much, three, line)) = record {
    usage = λ none. absurd (cc);
    accepted = λ command input is offers fine.
        absurd (not_more (limit_of d) src input (subst (λ x. Offers (limit_of x) src input) (sym (only is)) offers) much);
    refused = λ command input line is offers other. three;
    long = λ command is more. three;
  }

pub completes : (c : Option Command) (src out : Passage) (number : ℕ) → Ends c src out number → IsCalm src out number → Completes c src number
completes c src out number (whole text permits took still sound) calm = fixed src c number text permits
completes c src out number (read_fault four does failed read sound kept) calm = absurd (calm.source (rose_from src.faults_before src.faults_after failed))
completes c src out number (write_fault five still failed part) calm = absurd (calm.sink (rose_from out.faults_before out.faults_after failed))
completes c src out number (no_memory six still read sound part) calm = absurd (calm.memory six)

pub served_by : {words : List Text} {src out : Passage} {same_source same_sink : Type 0} {number : ℕ} → IsCall words src out same_source same_sink number
    → IsServed words src out same_source same_sink number
served_by {src = src} {out = out} {number = number} call = record {
  call = call;
  complete = λ c means calm. completes c src out number (call.serves c means) calm;
}
