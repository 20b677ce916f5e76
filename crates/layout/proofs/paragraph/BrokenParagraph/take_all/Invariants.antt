use Rattle.std.proofs.Common.{map}
use Rattle.std.specs.List.{AllByRecursion as All}
use Rattle.meaning.specs.Calls.{letters_of}
use Rattle.layout.specs.Paragraphs.{broken_lines, line_row, Within}
use Rattle.layout.specs.Finishes.{Takes}
use Rattle.layout.proofs.paragraph.BrokenParagraph.take_all.Given as goal

abbrev pub invariant-loop-words : goal.invariant-loop-words
invariant-loop-words l = record {
  within : All (Within l.self) l.words-iterator;
  taken : Takes l.initial.rows l.rows (letters_of (broken_lines l.self)) (map (line_row l.self) l.words-iterator);
}
