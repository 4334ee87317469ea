use Rattle.std.proofs.Common.{◌≡◌}
use Rattle.codec.specs.Books.{end_of_set}
use Rattle.codec.proofs.reader.Reader.set_bytes.Given as goal

-- What is left to read from here answers what was to be read.
abbrev pub invariant-loop-more : goal.invariant-loop-more
invariant-loop-more l =
    record {
      input : l.self.bytes.now ≡ l.initial.self.bytes.now;
      left : end_of_set l.initial.self.bytes.now l.size l.more l.self.at ≡ end_of_set l.initial.self.bytes.now l.size l.width l.initial.self.at;
    }
