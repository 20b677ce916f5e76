-- An edit of memory that holds paragraphs leaves what holds the paragraphs after it.
use Rattle.std.proofs.Common.{◌≡◌, ℕ, ◌+◌, ◌-◌, ◌*◌, ◌≤◌, ◌&&◌, leb, List, [], ◌∷◌, ◌++◌, length, get_or, set, sym, refl, ap, ◌∙◌, ap₂, add-zero, arith}
use Rattle.std.proofs.lemmas.List.{append_assoc, append-nil, length-append}
use Rattle.meaning.specs.Text.{Tokens, all_written}
use Rattle.meaning.specs.Calls.{Limits, size, sizes}
use Rattle.meaning.specs.Pages.{Looks}
use Rattle.store.specs.Opened.{header, tokens_asked, kept_asked}
use Rattle.store.specs.Kept.{table_sum}
use Rattle.store.specs.Changes.{Edit, bytes_gone, paragraphs_after, size_after, bytes_after, entry_of, edited_tokens, edited_rest, has_room, spliced}
use Rattle.machine.proofs.Splices.{padded, spliced_padded}
use Rattle.machine.proofs.Rows.{forms, entries, bulks, forms_append, entries_append, sizes_append, length_entries, length_forms}
use Rattle.machine.proofs.Memories.{header_at, header_for, kept_for, memory, length_header_at, Tells, kept_tells}

-- before paragraph k, old paragraphs give way to new ones
abbrev pub edit_for : ℕ → List Tokens → List Tokens → Edit
edit_for k olds news = record { at = k; gone = length olds; come = length news; bytes = forms news; size = sizes news; bulk = bulks news }

-- of none or one
entry_of_edit : (k : ℕ) (olds news : List Tokens) → length news ≤ 1 → entry_of (edit_for k olds news) ≡ entries news
unfolding sizes
entry_of_edit k olds [] h = refl
entry_of_edit k olds (p ∷ []) h = rw (append-nil (all_written p), add-zero (size p)) refl
entry_of_edit k olds (p ∷ (q ∷ ps)) h = absurd (omega arith)

module _ (l : Limits) (g : Looks) (ps olds qs news : List Tokens) where
  -- these between those before and those behind
  abbrev pub texts : List Tokens → List Tokens
  texts some = ps ++ (some ++ qs)

  length_texts : (some : List Tokens) → length (texts some) ≡ length ps + (length some + length qs)
  length_texts some = simp length-append

  sizes_texts : (some : List Tokens) → sizes (texts some) ≡ sizes ps + (sizes some + sizes qs)
  sizes_texts some = simp sizes_append

  forms_texts : (some : List Tokens) → forms (texts some) ≡ forms ps ++ (forms some ++ forms qs)
  forms_texts some = simp forms_append

  entries_texts : (some : List Tokens) → entries (texts some) ≡ entries ps ++ (entries some ++ entries qs)
  entries_texts some = simp entries_append

  bytes_texts : (some : List Tokens) → length (forms (texts some)) ≡ length (forms ps) + (length (forms some) + length (forms qs))
  bytes_texts some = ap length (forms_texts some) ∙ simp length-append

  abbrev e : Edit
  e = edit_for (length ps) olds news

  module _ (rs : List ℕ) (h : Tells l g (texts olds) rs) where
    bytes_before : table_sum 64 (length ps) rs ≡ length (forms ps)
    bytes_before = h.first_bytes ps (olds ++ qs) refl

    bytes_up_to : table_sum 64 (length ps + length olds) rs ≡ length (forms ps) + length (forms olds)
    bytes_up_to =
        ap (λ k. table_sum 64 k rs) (sym (length-append ps olds))
        ∙ (h.first_bytes (ps ++ olds) qs (sym (append_assoc ps olds qs)) ∙ (ap length (forms_append ps olds) ∙ length-append (forms ps) (forms olds)))

    sizes_before : table_sum 65 (length ps) rs ≡ sizes ps
    sizes_before = h.first_sizes ps (olds ++ qs) refl

    sizes_up_to : table_sum 65 (length ps + length olds) rs ≡ sizes ps + sizes olds
    sizes_up_to = ap (λ k. table_sum 65 k rs) (sym (length-append ps olds)) ∙ (h.first_sizes (ps ++ olds) qs (sym (append_assoc ps olds qs)) ∙ sizes_append ps olds)

    pub paragraphs_after_edit : paragraphs_after e rs ≡ length (texts news)
    paragraphs_after_edit = omega (arith, h.paragraphs, length_texts olds, length_texts news)

    pub size_after_edit : size_after e rs ≡ sizes (texts news)
    size_after_edit = omega (arith, h.size, sizes_before, sizes_up_to, sizes_texts olds, sizes_texts news)

    pub bytes_after_edit : bytes_after e rs ≡ length (forms (texts news))
    bytes_after_edit = omega (arith, h.bytes, bytes_before, bytes_up_to, bytes_texts olds, bytes_texts news)

    -- the limits let it through if they let the paragraphs through that there would be
    pub room_for :
        has_room e rs
        ≡ (leb (bulks news) l.bulk
        && ((leb (length (texts news)) l.paragraphs && leb 0 l.definitions) && (leb (sizes (texts news) + 0) l.tokens && (leb (length (forms (texts news))) (2 * l.tokens) && leb 0 (2 * l.tokens)))))
    room_for =
        rw (paragraphs_after_edit, size_after_edit, bytes_after_edit, h.most_bulk, h.most_paragraphs, h.most_tokens, h.most_definitions, h.definitions, h.defined_size, h.defined_bytes) refl

  edited_tokens_are :
      (n : ℕ) (rs : List ℕ) → Tells l g (texts olds) rs → length (forms (texts olds)) ≤ n → length (forms (texts news)) ≤ n →
      edited_tokens e (padded n (forms (texts olds))) rs ≡ padded n (forms (texts news))
  unfolding edited_tokens
  edited_tokens_are n rs h few still_few =
      let before = bytes_before rs h in
      let up_to_lem = bytes_up_to rs h in
      let gone : bytes_gone e rs ≡ length (forms olds) = omega arith in
      let behind : get_or rs 6 0 - table_sum 64 (length ps + length olds) rs ≡ length (forms qs) = omega (arith, h.bytes, bytes_texts olds) in
      rw (gone, before, behind, forms_texts olds)
      (spliced_padded n (forms ps) (forms olds) (forms qs) (forms news) (omega (arith, bytes_texts olds)) (omega (arith, bytes_texts news)) ∙ ap (padded n) (sym (forms_texts news)))

  spliced_kept :
      (n k : ℕ) (head new : List ℕ) → length head ≡ 64 → 64 + 4 * length (texts olds) ≤ n → 64 + 4 * length (texts news) ≤ n → k ≡ length (texts olds) → new ≡ entries news →
      spliced (padded n (head ++ entries (texts olds))) (64 + 4 * length ps) (4 * length olds) (4 * (k - (length ps + length olds))) new ≡ padded n (head ++ entries (texts news))
  spliced_kept n k head new long few still_few there is =
      let front : length (head ++ entries ps) ≡ 64 + 4 * length ps = simp (length-append, length_entries, long) in
      let behind : 4 * (k - (length ps + length olds)) ≡ length (entries qs) = omega (arith, length_texts olds, length_entries qs) in
      let as_parts : (some : List Tokens) → head ++ entries (texts some) ≡ (head ++ entries ps) ++ (entries some ++ entries qs) =
      λ some. ap (λ (xs : List ℕ). head ++ xs) (entries_texts some) ∙ sym (append_assoc head (entries ps) (entries some ++ entries qs)) in
      rw (← front, ← length_entries olds, behind, as_parts olds, as_parts news, is)
      (spliced_padded n (head ++ entries ps) (entries olds) (entries qs) (entries news)
      (omega (arith, length_texts olds, length_entries olds, length_entries qs)) (omega (arith, length_texts news, length_entries news, length_entries qs)))

  -- the counts are in the header alone
  set_counts : (n a b c a' b' c' : ℕ) (es : List ℕ) → set (set (set (padded n (header_at l g a b c ++ es)) 4 a') 5 b') 6 c' ≡ padded n (header_at l g a' b' c' ++ es)
  unfolding header_at header
  set_counts n a b c a' b' c' es = refl

  -- the limits let the paragraphs through that there are, and those that there would be
  pub edited_memory :
      length news ≤ 1 → length (texts olds) ≤ l.paragraphs → sizes (texts olds) ≤ l.tokens → length (texts news) ≤ l.paragraphs → sizes (texts news) ≤ l.tokens →
      record {
        tokens = edited_tokens e (memory l g (texts olds)).tokens (memory l g (texts olds)).kept;
        words = (memory l g (texts olds)).words;
        kept = edited_rest e (memory l g (texts olds)).kept;
      }
      ≡ memory l g (texts news)
  unfolding memory edited_rest
  edited_memory one few few_tokens still_few still_few_tokens =
      let rs : List ℕ = (memory l g (texts olds)).kept in
      let h : Tells l g (texts olds) rs = kept_tells l g (texts olds) in
      let tokens : edited_tokens e (padded (tokens_asked l) (forms (texts olds))) rs ≡ padded (tokens_asked l) (forms (texts news)) =
      edited_tokens_are (tokens_asked l) rs h (omega (arith, length_forms (texts olds))) (omega (arith, length_forms (texts news))) in
      let table =
      spliced_kept (kept_asked l) (get_or rs 4 0) (header_for l g (texts olds)) (entry_of e) (length_header_at l g _ _ _) (omega arith) (omega arith) h.paragraphs
      (entry_of_edit (length ps) olds news one) in
      let kept : edited_rest e rs ≡ kept_for l g (texts news) =
      ap (λ xs. set (set (set xs 4 (paragraphs_after e rs)) 5 (size_after e rs)) 6 (bytes_after e rs)) table
      ∙ (set_counts (kept_asked l) (length (texts olds)) (sizes (texts olds)) (length (forms (texts olds))) (paragraphs_after e rs) (size_after e rs) (bytes_after e rs) (entries (texts news))
      ∙ rw (paragraphs_after_edit rs h, size_after_edit rs h, bytes_after_edit rs h) refl) in
      ap₂ (λ (ts ks : List ℕ). record { tokens = ts; words = (memory l g (texts olds)).words; kept = ks }) tokens kept
