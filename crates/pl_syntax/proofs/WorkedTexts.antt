-- Small texts, read by computation.
use Rattle.std.proofs.Common.{refl, arith}
use Rattle.pl_syntax.specs.Words.{keyword_of}
use Rattle.pl_syntax.specs.Tokens.{front}
use Rattle.pl_syntax.specs.calls.Laws.{ReadsTexts}

pub reads_texts : ReadsTexts
unfolding front keyword_of
reads_texts =
    record {
      blanks = record { reads = (_, refl, (_, refl, (_, refl, (_, refl, (_, refl, refl))))); shallow = omega arith };
      comments = record { reads = (_, refl, (_, refl, (_, refl, refl))); shallow = omega arith };
      dense = record {
        reads = (
          _,
          refl,
          (
            _,
            refl,
            (
              _,
              refl,
              (
                _,
                refl,
                (
                  _,
                  refl,
                  (
                    _,
                    refl,
                    (
                      _,
                      refl,
                      (
                        _,
                        refl,
                        (
                          _,
                          refl,
                          (_, refl, (_, refl, (_, refl, (_, refl, (_, refl, (_, refl, (_, refl, (_, refl, refl)))))))),
                        ),
                      ),
                    ),
                  ),
                ),
              ),
            ),
          ),
        );
        shallow = omega arith;
      };
      ahead = record {
        reads = (
          _,
          (_, refl, (_, refl, (_, refl, refl))),
          (
            _,
            refl,
            (
              _,
              refl,
              (
                _,
                refl,
                (
                  _,
                  refl,
                  (
                    _,
                    refl,
                    (_, refl, (_, refl, (_, refl, (_, refl, (_, refl, (_, refl, (_, refl, (_, refl, (_, refl, (_, refl, refl)))))))))),
                  ),
                ),
              ),
            ),
          ),
        );
        shallow = omega arith;
      };
      a_name = record { reads = (_, refl, (_, refl, (_, refl, (_, refl, (_, refl, (_, refl, (_, refl, refl))))))); shallow = omega arith };
    }
