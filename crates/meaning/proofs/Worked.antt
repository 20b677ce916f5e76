-- The examples hold: each is computed.
use Rattle.std.proofs.Common.{refl, lit<, lit≤}
use Rattle.meaning.specs.Text.{digits_in, plainly, defined, meant}
use Rattle.meaning.specs.Lines.{is_blank, split, long, natural, line_cost, BreaksUp, cost, try, best_in, place_letters, place_words, set_line, tags_of, feet_of, set_lines}
use Rattle.meaning.specs.Pages.{spaced, all_feet, fill, all_lines, among, tagged, page_of, agree, settle}
use Rattle.meaning.specs.Calls.{letters_of}
use Rattle.meaning.specs.Examples.{Examples, lettered, placed, as_seen, filled, greedy}

-- all that is computed with
words_open : Unit {0}
unfolding digits_in plainly defined meant is_blank split long natural line_cost BreaksUp cost try best_in
words_open = tt

pages_open : Unit {0}
unfolding place_letters place_words set_line tags_of feet_of set_lines spaced all_feet fill all_lines among tagged page_of agree settle letters_of
pages_open = tt

pub worked : Examples
unfolding words_open pages_open lettered placed as_seen filled greedy
worked =
    record {
      empty_text = λ g ds. refl;
      two_lines = (refl, refl);
      with_note = (refl, refl);
      with_number = (refl, refl);
      not_greedy =
          record {
            best_way = refl;
            greedy_way = refl;
            greedy_breaks = (lit< tt, lit≤ tt, (lit< tt, lit≤ tt, (lit< tt, lit≤ tt, 0)));
            best_cost = refl;
            greedy_cost = refl;
            worse = lit< tt;
            best_page = (refl, refl);
            greedy_lines = refl;
          };
    }
