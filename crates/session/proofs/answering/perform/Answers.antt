use Rattle.wire.specs.Reads.{call_of}
use Rattle.session.proofs.Questions.{find_made, count_made, show_performs}
use Rattle.session.proofs.Wishes.{edit_made, written, unwritten, unfit_made}
use Rattle.session.proofs.answering.perform.Goals as goal
use Rattle.session.proofs.answering.perform.Goals.{in-Edit, in-Find+in_ok-ok_or-in-Find, in-Count+in_ok-count_pages-in-Count}

pub returns-in_err-edit : goal.returns-in_err-edit
returns-in_err-edit c = unwritten _ _ _ _ (unfit_made _ _ _ c.in_err-edit.ensures) c.from_residual.ensures.1

pub returns-in_err-ok_or-in-Find : goal.returns-in_err-ok_or-in-Find
returns-in_err-ok_or-in-Find c =
    let ts = c.args.tokens.now in
    let rs = c.args.rest.now in
    let wished = rw c.in-Find.is at c.in_ok-edit.ensures in
    unwritten _ _ _ _ (rw c.in_err-ok_or-in-Find.was at (find_made ts rs _ wished c.look.ensures c.ok_or.ensures.value)) c.from_residual-in_err-ok_or-in-Find.ensures.1

pub returns-in_err-count_pages-in-Count : goal.returns-in_err-count_pages-in-Count
returns-in_err-count_pages-in-Count c =
    let ts = c.args.tokens.now in
    let rs = c.args.rest.now in
    let wished = rw c.in-Count.is at c.in_ok-edit.ensures in
    let pages = c.count_pages.ensures in
    unwritten _ _ _ _ (rw c.in_err-count_pages-in-Count.was at (count_made ts rs _ wished pages.value pages.after)) c.from_residual-in_err-count_pages-in-Count.ensures.1

pub returns-in-Show : goal.returns-in-Show
returns-in-Show c =
    let shown = c.show_rows.ensures in
    show_performs _ _ _ (rw c.in-Show.is at c.in_ok-edit.ensures) shown.value shown.written shown.after

pub returns : goal.returns
returns c =
    let ts = c.args.tokens.now in
    let rs = c.args.rest.now in
    let x = call_of c.args.call in
    let wished = c.in_ok-edit.ensures in
    written ts rs x c.match-branch-2.answer
    (elim c.match-branch-2.branch [
      | in-Edit w ↦ rw (w.tokens-is, w.rest-is, w.answer-is) (edit_made ts rs x (rw w.in-Edit.is at wished) w.change.ensures w.from-answer.ensures)
      | in-Find+in_ok-ok_or-in-Find w ↦
          rw (w.tokens-is, w.rest-is, w.answer-is) (rw w.in_ok-ok_or-in-Find.was at (find_made ts rs x (rw w.in-Find.is at wished) w.look.ensures w.ok_or.ensures.value))
      | in-Count+in_ok-count_pages-in-Count w ↦
          let pages = w.count_pages.ensures in
          rw (w.tokens-is, w.rest-is, w.answer-is) (rw w.in_ok-count_pages-in-Count.was at (count_made ts rs x (rw w.in-Count.is at wished) pages.value pages.after))
    ])
    c.write_answer.ensures.value c.write_answer.ensures.after
