-- One paragraph after another is broken in the working part of the same book.
use Rattle.std.proofs.Common.{◌≡◌, drop, ◌∙◌}
use Rattle.layout.specs.Sheets.{working}
use Rattle.layout.specs.Keeping.{Keeps}
use Rattle.layout.specs.declared.book.Book.{Book}

pub keeps_more : (a b c : Book) → Keeps a b → Keeps b c → Keeps a c
keeps_more a b c p q =
    let behind : drop (working a.sheet.bulk) c.work.now ≡ drop (working a.sheet.bulk) b.work.now = rw p.sheet at q.behind in
    record {
      sheet = q.sheet ∙ p.sheet;
      paragraphs = q.paragraphs ∙ p.paragraphs;
      lent = q.lent ∙ p.lent;
      as_long = q.as_long ∙ p.as_long;
      behind = behind ∙ p.behind;
    }
