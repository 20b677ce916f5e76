-- Memory that holds a text which fits is an open book.
use Rattle.std.proofs.Common.{◌≡◌, ℕ, ◌+◌, ◌≤◌, true, List, [], ◌++◌, length, sym, refl, arith}
use Rattle.std.proofs.lemmas.List.{append-nil, length-append, length-replicate}
use Rattle.std.proofs.lemmas.Bool.{le-leb, and_from, eq-eqb}
use Rattle.meaning.specs.Text.{Tokens}
use Rattle.meaning.specs.Calls.{Limits, sizes}
use Rattle.meaning.specs.Pages.{Looks}
use Rattle.meaning.specs.Promise.{GoodLooks, GoodLimits}
use Rattle.store.specs.Opened.{tokens_asked, kept_asked, words_asked, rest_asked, rest_of}
use Rattle.store.specs.Kept.{limits_at, counts_at, definitions_at, first_definition, table_kept, is_open}
use Rattle.store.proofs.Looking.{open_from_parts, within_from_parts}
use Rattle.store.proofs.Tables.{table_sum_zero}
use Rattle.machine.proofs.Splices.{length_padded}
use Rattle.machine.proofs.Rows.{forms, entries, length_entries, length_forms}
use Rattle.machine.proofs.Memories.{header_for, memory, length_header_at, Tells, rest_tells}
use Rattle.machine.proofs.Fits.{Fitting}

module _ (l : Limits) (g : Looks) (ps : List Tokens) (few : Fitting l ps) where
  pub length_tokens : length (memory l g ps).tokens ≡ tokens_asked l
  unfolding memory
  length_tokens = length_padded (tokens_asked l) (forms ps) (omega (arith, length_forms ps))

  pub length_kept : length (memory l g ps).kept ≡ kept_asked l
  unfolding memory
  length_kept =
      length_padded (kept_asked l) (header_for l g ps ++ entries ps)
      (omega (arith, length-append (header_for l g ps) (entries ps), length_header_at l g (length ps) (sizes ps) (length (forms ps)), length_entries ps, few.paragraphs_few))

  pub length_words : length (memory l g ps).words ≡ words_asked l
  unfolding memory
  length_words = length-replicate (words_asked l) 0

  -- slices of at least the size that is asked for, with numbers that say this of the paragraphs
  pub told_open : (bytes : ℕ) (rs : List ℕ) → Tells l g ps rs → tokens_asked l ≤ bytes → rest_asked l ≤ length rs → GoodLooks g → GoodLimits l → is_open bytes rs ≡ true
  told_open bytes rs h enough enough_numbers good small =
      let tables : table_kept rs ≡ true =
      rw (h.paragraphs, h.bytes, h.size, h.definitions, h.defined_size, h.defined_bytes, table_sum_zero (first_definition rs) rs, table_sum_zero (first_definition rs + 1) rs)
      (and_from _ true (and_from _ _ (eq-eqb _ _ (h.first_bytes ps [] (sym (append-nil ps)))) (eq-eqb _ _ (h.first_sizes ps [] (sym (append-nil ps))))) refl) in
      open_from_parts bytes rs (record {
        limits =
            rw (h.most_paragraphs, h.most_tokens, h.most_definitions, h.most_bulk)
            (and_from _ _ (le-leb _ _ small.0) (and_from _ _ (le-leb _ _ small.1) (and_from _ _ (le-leb _ _ small.2) (le-leb _ _ small.3))));
        bytes_enough = omega (arith, h.most_tokens, enough);
        numbers_enough = omega (arith, h.most_paragraphs, h.most_tokens, h.most_definitions, h.most_bulk, enough_numbers);
        looks =
            rw (h.across, h.rows)
            (and_from _ _ (and_from _ _ (le-leb _ _ good.across_enough.0) (le-leb _ _ good.across_enough.1))
            (and_from _ _ (le-leb _ _ good.rows_enough.0) (le-leb _ _ good.rows_enough.1)));
        counts =
            within_from_parts (counts_at rs) (definitions_at rs) (limits_at rs) (record {
              paragraphs = omega (arith, h.paragraphs, h.most_paragraphs, few.paragraphs_few);
              definitions = omega (arith, h.definitions);
              sizes = omega (arith, h.size, h.defined_size, h.most_tokens, few.tokens_few);
              bytes = omega (arith, h.bytes, h.most_tokens, length_forms ps, few.tokens_few);
              defined_bytes = omega (arith, h.defined_bytes);
            });
        table = tables;
      })

  pub memory_open : GoodLooks g → GoodLimits l → is_open (length (memory l g ps).tokens) (rest_of (memory l g ps)) ≡ true
  memory_open =
      told_open (length (memory l g ps).tokens) (rest_of (memory l g ps)) (rest_tells l g ps) (omega (arith, length_tokens))
      (omega (arith, length-append (memory l g ps).kept (memory l g ps).words, length_kept, length_words))
