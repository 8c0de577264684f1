-- Small texts of the language of clocks, read by computation.
use Rattle.std.proofs.Common.{refl, arith}
use Rattle.pl_syntax.specs.Tokens.{front}
use Rattle.pl_syntax.specs.Words.{clock_keyword_of}
use Rattle.clock_syntax.specs.calls.Laws.{ReadsClockTexts}

pub reads_clock_texts : ReadsClockTexts
unfolding front clock_keyword_of
reads_clock_texts =
    record {
      statements = record { reads = (_, refl, (_, refl, (_, refl, (_, refl, (_, refl, (_, refl, (_, refl, (_, refl, (_, refl, (_, refl, (_, refl, (_, refl, (_, refl, (_, refl, (_, refl, (_, refl, (_, refl, (_, refl, (_, refl, (_, refl, (_, refl, refl))))))))))))))))))))); shallow = omega arith };
      no_names = record { reads = (_, refl, (_, refl, (_, refl, (_, refl, (_, refl, (_, refl, refl)))))); shallow = omega arith };
      one_name = record { reads = (_, refl, (_, refl, (_, refl, (_, refl, (_, refl, (_, refl, (_, refl, (_, refl, (_, refl, refl))))))))); shallow = omega arith };
      three_names = record { reads = (_, refl, (_, refl, (_, refl, (_, refl, (_, refl, (_, refl, (_, refl, (_, refl, (_, refl, (_, refl, (_, refl, (_, refl, (_, refl, refl))))))))))))); shallow = omega arith };
      bodies = record { reads = (_, refl, (_, refl, (_, refl, (_, refl, (_, refl, (_, refl, (_, refl, (_, refl, refl)))))))); shallow = omega arith };
      free_words = record { reads = (_, refl, (_, refl, (_, refl, (_, refl, refl)))); shallow = omega arith };
    }
