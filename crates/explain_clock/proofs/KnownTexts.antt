-- What is known of a text by its layout, is so of the text.
use Rattle.std.proofs.Common.{◌≡◌, ◌∙◌, ℕ, List, Option, ap}
use Rattle.clock_syntax.specs.Trees.{ClockTree}
use Rattle.clock_semantics.specs.Unfolding.{ClockUnfolding}
use Rattle.clock_source_map.specs.ClockOffsets.{clock_offsets}
use Rattle.clock_source_map.specs.calls.Values.{AreOriginsOf, OriginsValue}
use Rattle.explain_clock.specs.ClockFacts.{AreTextFacts, ClockTextValue}

pub known_text :
    (file : Option (List ℕ)) (text other : List ℕ) (p : ClockTree) (u : ClockUnfolding) (offsets : List ℕ) (o : OriginsValue) (f : ClockTextValue) →
    f ≡ record { text = text; file = file; offsets = offsets; begun = o.begun; things = o.things } → offsets ≡ clock_offsets other p → other ≡ text →
    AreOriginsOf u o → AreTextFacts file text p u f
known_text file text other p u offsets o f is at same origins = record {
  text_is = ap (λ (g : ClockTextValue). g.text) is;
  file_is = ap (λ (g : ClockTextValue). g.file) is;
  offsets_are = ap (λ (g : ClockTextValue). g.offsets) is ∙ at ∙ ap (λ t. clock_offsets t p) same;
  begun_are = ap (λ (g : ClockTextValue). g.begun) is ∙ origins.begun;
  things_are = ap (λ (g : ClockTextValue). g.things) is ∙ origins.things;
}
