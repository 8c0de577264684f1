use Rattle.armus_top.specs.inside.Reading.{too_long}
use Rattle.armus_top.proofs.requests.input_of.Goals as goal

pub returns-in-Err-TooLong-clause-ends : goal.returns-in-Err-TooLong-clause-ends
returns-in-Err-TooLong-clause-ends g c =
    let much = rw c.in-Err-TooLong.field-0-is at c.in-Err-TooLong.ensures.bytes in
    let still = rw c.in-Err-TooLong.field-0-is at c.in-Err-TooLong.ensures.told in
    too_long much still c.refuse.ensures.done
