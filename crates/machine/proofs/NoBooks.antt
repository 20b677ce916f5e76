-- Memory that is no open book.
use Rattle.std.proofs.Common.{◌≡◌, Bool, true, false, length, refl}
use Rattle.meaning.specs.Text.{pick, all_written}
use Rattle.meaning.specs.Calls.{Call, put, cut, define, show, where_is, how_many, put_in, refused, size, call_number, good_call}
use Rattle.meaning.specs.Promise.{Memory}
use Rattle.wire.specs.Stage.{stage_calls}
use Rattle.store.specs.Opened.{limits_of, rest_of}
use Rattle.store.specs.Kept.{limits_at, is_open}
use Rattle.store.specs.Changes.{put_edit, put_in_edit, cut_edit}
use Rattle.machine.specs.Setter.{Wish, to_edit, to_show, to_find, to_count, unfit, bulk_of, wish_of, says_to, left_by_wish, says, next, NoBook}

module _ (m : Memory) (closed : is_open (length m.tokens) (rest_of m) ≡ false) where
  abbrev Refuses : Wish → Type 0
  Refuses w = (left_by_wish w m ≡ m) × (says_to w m ≡ refused 3 2)

  refuses_edit : (e : _) → Refuses (to_edit e)
  refuses_edit e = (rw closed refl, rw closed refl)

  refuses_show : (k r n : _) → Refuses (to_show k r n)
  refuses_show k r n = (rw closed refl, rw closed refl)

  refuses_find : Refuses to_find
  refuses_find = (refl, rw closed refl)

  refuses_count : Refuses to_count
  refuses_count = (rw closed refl, rw closed refl)

  by_call :
      (c : Call) (is_good : Bool) → good_call (limits_of (limits_at (rest_of m))) c ≡ is_good →
      (left_by_wish (pick is_good (wish_of (rest_of m) c) unfit) m ≡ m) × (says_to (pick is_good (wish_of (rest_of m) c) unfit) m ≡ pick is_good (refused 3 2) (refused 2 0))
  unfolding stage_calls call_number
  by_call c false e = (refl, refl)
  by_call (put k ts) true e = refuses_edit (put_edit k (all_written ts) (size ts) (bulk_of ts) (rest_of m))
  by_call (cut k) true e = refuses_edit (cut_edit k)
  by_call (define k ts) true e = let no : false ≡ true = e in cc
  by_call (show k r n) true e = refuses_show k r n
  by_call (where_is q) true e = refuses_find
  by_call how_many true e = refuses_count
  by_call (put_in k ts) true e = refuses_edit (put_in_edit k (all_written ts) (size ts) (bulk_of ts))

pub no_books : NoBook
unfolding says next
no_books m c closed = by_call m closed c (good_call (limits_of (limits_at (rest_of m))) c) refl
