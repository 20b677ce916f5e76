-- An open book, when paragraphs of it were broken.
--   Keeps   what is as it was: its looks, its paragraphs, which numbers are lent for work, and those behind what a paragraph can need
use Rattle.std.specs.Prelude.{◌≡◌, length, drop}
use Rattle.layout.specs.Sheets.{working}
use Rattle.layout.specs.declared.book.Book.{Book}

pub record Keeps (before after : Book) : Type 0 where
  pub sheet : after.sheet ≡ before.sheet
  pub paragraphs : after.paragraphs ≡ before.paragraphs
  pub lent : after.work.ghost_name ≡ before.work.ghost_name
  pub as_long : length after.work.now ≡ length before.work.now
  pub behind : drop (working before.sheet.bulk) after.work.now ≡ drop (working before.sheet.bulk) before.work.now
