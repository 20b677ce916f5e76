use Rattle.std.proofs.Common.{[]}
use Rattle.meaning.specs.Text.{meant, atoms}
use Rattle.wire.specs.Bytes.{tokens_of}
use Rattle.words.proofs.Good.{good_readably, reads_good}
use Rattle.words.proofs.laws.good_are_read.Goals as goal

pub returns-clause-readable : goal.returns-clause-readable
returns-clause-readable c can ts depth ds pg few g = good_readably can few pg (meant 16 ds pg) [] ts depth g

pub returns-clause-read : goal.returns-clause-read
returns-clause-read c can bytes depth ds pg most before after r few g s =
    reads_good (atoms ds pg (tokens_of bytes)) bytes most before after r (good_readably can few pg (meant 16 ds pg) [] (tokens_of bytes) depth g) s
