-- Each call has an answer.
use Rattle.std.proofs.Common.{◌≤◌, ℕ, List, inl, inr, refl}
use Rattle.std.specs.Prelude.{Option, Some, None}
use Rattle.command_line.specs.Commands.{IsGenerated, Means}
use Rattle.command_line.specs.declared.command.Command.{Command}
use Rattle.command_line.specs.declared.command.Command.TheVariants.{Gen}
use Rattle.command_line.specs.declared.table.TheConstants.{MAX_GENERATED}
use Rattle.command_line.proofs.EachMeaning.{each_meaning}
use Rattle.program_io.specs.Texts.{Text}
use Rattle.armus_top.specs.Texts.{usage_line}
use Rattle.armus_top.specs.Commands.{length_line, limit_of}
use Rattle.program_io.specs.Passages.{HasInput, Passage}
use Rattle.armus_top.specs.Headline.{Permits}
use Rattle.armus_top.specs.Inputs.{EachCallIsMet, HasGiven}
use Rattle.armus_top.specs.calls.Inputs.{FitsLimit, MayGenerate}
use Rattle.armus_top.proofs.InputsMet.{each_input_is_met}

fits_of : (limit : Option ℕ) (src : Passage) (input : Text) → HasInput limit src input → FitsLimit limit input
fits_of (Some limit) src input has = has.2
fits_of None src input has = has

few : (given : Option Text) (count : ℕ) → IsGenerated given count → count ≤ MAX_GENERATED
few (Some text) count is = is.to_most
few None count is = absurd is

may_of : (words : List Text) (c : Command) → Means words (Some c) → MayGenerate c
may_of words (Gen count) means = few _ count means.values
may_of words c means = tt

met : (words : List Text) (c : Option Command) → Means words c → (src : Passage) → HasGiven c src → (status : ℕ) × (text : Text) × Permits c src status text
met words None means src given = (2, usage_line, (refl, refl))
met words (Some c) means src (inl (input, has)) =
    let (status, text, answers) = each_input_is_met c input (fits_of (limit_of c) src input has) (may_of words c means) in
    (status, text, inl (input, has, answers))
met words (Some c) means src (inr much) = (3, length_line c, inr (much, refl, refl))

pub each_call_is_met : EachCallIsMet
each_call_is_met words = let (c, means) = each_meaning words in (c, means, met words c means)
