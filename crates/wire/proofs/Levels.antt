-- Tokens scanned by their bytes, with a count of how many notes and commands are open.
use Rattle.std.proofs.Common.{◌≡◌, ℕ, zero, suc, ◌+◌, ◌-◌, ◌<◌, ◌≤◌, List, [], ◌∷◌, length, get_or, drop, ◌⊎◌, sym, refl, ap, ◌∙◌, ap₂, inl, inr, add-one, arith}
use Rattle.std.proofs.lemmas.List.{drop_more}
use Rattle.meaning.specs.Text.{Token, Tokens, none, letter, space, mark, page_of, note, command, given}
use Rattle.wire.specs.Bytes.{Parsed, whole, broken, before, closed, token_first, parsed_in, parsed}
use Rattle.wire.specs.Cut.{extent_in, extent_of}
use Rattle.wire.specs.Kinds.{token_byte, token_width}
use Rattle.wire.specs.declared.kind.TokenKind.{TokenKind}
use Rattle.wire.specs.declared.kind.TokenKind.TheVariants as Kinds
use Rattle.wire.specs.declared.token.Extent.{Extent}
use Rattle.wire.specs.declared.token.Extent.TheVariants.{End, Close, Break}
use Rattle.wire.proofs.Parses.{parsed_step, parsed_end, parsed_unknown}

-- where a scan comes to, with what is left there
pub data Stop : Type 0 where
  ended : Stop
  closes : List ℕ → Stop
  breaks : List ℕ → Stop

abbrev pub stop_of : Parsed → Stop
stop_of (whole ts []) = ended
stop_of (whole ts (x ∷ left)) = closes (x ∷ left)
stop_of (broken ts left) = breaks left

-- an end byte closes what is open, and the scan goes on behind it
abbrev pub out_of : (List ℕ → Stop) → Stop → Stop
out_of outer ended = breaks []
out_of outer (closes []) = breaks []
out_of outer (closes (x ∷ left)) = outer left
out_of outer (breaks left) = breaks left

-- the scan of bytes in which so many notes and commands are open
unfoldable pub level : ℕ → List ℕ → Stop
level zero bs = stop_of (parsed bs)
level (suc d) bs = out_of (level d) (stop_of (parsed bs))

level_like : (d : ℕ) (xs bs : List ℕ) → stop_of (parsed xs) ≡ stop_of (parsed bs) → level d xs ≡ level d bs
unfolding level
level_like zero xs bs e = e
level_like (suc d) xs bs e = ap (out_of (level d)) e

level_breaks : (d : ℕ) (bs left : List ℕ) → stop_of (parsed bs) ≡ breaks left → level d bs ≡ breaks left
unfolding level
level_breaks zero bs left e = e
level_breaks (suc d) bs left e = ap (out_of (level d)) e

stop_of_before : (t : Token) (p : Parsed) → stop_of (before t p) ≡ stop_of p
stop_of_before t (whole ts []) = refl
stop_of_before t (whole ts (x ∷ left)) = refl
stop_of_before t (broken ts left) = refl

-- a token that opens nothing is passed over
level_before : (d : ℕ) (t : Token) (xs bs : List ℕ) → parsed xs ≡ before t (parsed bs) → level d xs ≡ level d bs
level_before d t xs bs e = level_like d xs bs (ap stop_of e ∙ stop_of_before t (parsed bs))

level_opens : (d : ℕ) (make : Tokens → Token) (xs bs : List ℕ) → parsed xs ≡ closed make parsed (parsed bs) → level d xs ≡ level (suc d) bs
unfolding level
level_opens d make xs bs e = go (parsed bs) e
  where
    go : (p : Parsed) → parsed xs ≡ closed make parsed p → level d xs ≡ out_of (level d) (stop_of p)
    go (whole ts []) f = level_breaks d xs [] (ap stop_of f)
    go (whole ts (x ∷ left)) f = level_before d (make ts) xs left f
    go (broken ts left) f = level_breaks d xs left (ap stop_of f)

level_ends : (d x : ℕ) (bs : List ℕ) → parsed (x ∷ bs) ≡ whole none (x ∷ bs) → level (suc d) (x ∷ bs) ≡ level d bs
unfolding level
level_ends d x bs e = ap (λ (p : Parsed). out_of (level d) (stop_of p)) e

-- how many are open behind a byte of a kind
abbrev pub depth_behind : TokenKind → ℕ → ℕ
depth_behind Kinds.Letter d = d
depth_behind Kinds.Space d = d
depth_behind Kinds.Mark d = d
depth_behind Kinds.PageOf d = d
depth_behind Kinds.Note d = d + 1
depth_behind Kinds.Command d = d + 1
depth_behind Kinds.Given d = d
depth_behind Kinds.End d = d - 1

pub deeper : (k : TokenKind) (d : ℕ) → (k ≡ Kinds.Note) ⊎ (k ≡ Kinds.Command) → depth_behind k d ≡ d + 1
deeper k d (inl is) = ap (λ x. depth_behind x d) is
deeper k d (inr is) = ap (λ x. depth_behind x d) is

pub no_end : (k : TokenKind) → (k ≡ Kinds.Note) ⊎ (k ≡ Kinds.Command) → k ≡ Kinds.End → ⊥
no_end k (inl is) e = cc
no_end k (inr is) e = cc

pub as_deep : (k : TokenKind) (d : ℕ) → (k ≡ Kinds.Note → ⊥) → (k ≡ Kinds.Command → ⊥) → (k ≡ Kinds.End → ⊥) → depth_behind k d ≡ d
as_deep Kinds.Letter d a b c = refl
as_deep Kinds.Space d a b c = refl
as_deep Kinds.Mark d a b c = refl
as_deep Kinds.PageOf d a b c = refl
as_deep Kinds.Note d a b c = absurd (a refl)
as_deep Kinds.Command d a b c = absurd (b refl)
as_deep Kinds.Given d a b c = refl
as_deep Kinds.End d a b c = absurd (c refl)

pub some_width : (k : TokenKind) → 0 < token_width k
some_width Kinds.Letter = omega arith
some_width Kinds.Space = omega arith
some_width Kinds.Mark = omega arith
some_width Kinds.PageOf = omega arith
some_width Kinds.Note = omega arith
some_width Kinds.Command = omega arith
some_width Kinds.Given = omega arith
some_width Kinds.End = omega arith

-- the scan goes on behind what a kind of token has
step : (k : TokenKind) (bs : List ℕ) (d : ℕ) → token_width k ≤ suc (length bs) → (k ≡ Kinds.End → 0 < d) → level d (token_byte k ∷ bs) ≡ level (depth_behind k d) (drop (token_width k) (token_byte k ∷ bs))
unfolding token_first
step Kinds.Letter [] d fits some = absurd (omega arith)
step Kinds.Letter (c ∷ bs) d fits some = level_before d (letter c) (0 ∷ (c ∷ bs)) bs (parsed_step 0 (c ∷ bs))
step Kinds.Space bs d fits some = level_before d space (1 ∷ bs) bs (parsed_step 1 bs)
step Kinds.Mark [] d fits some = absurd (omega arith)
step Kinds.Mark (c ∷ bs) d fits some = level_before d (mark c) (2 ∷ (c ∷ bs)) bs (parsed_step 2 (c ∷ bs))
step Kinds.PageOf [] d fits some = absurd (omega arith)
step Kinds.PageOf (c ∷ bs) d fits some = level_before d (page_of c) (3 ∷ (c ∷ bs)) bs (parsed_step 3 (c ∷ bs))
step Kinds.Note bs d fits some = rw add-one (level_opens d note (4 ∷ bs) bs (parsed_step 4 bs))
step Kinds.Command [] d fits some = absurd (omega arith)
step Kinds.Command (c ∷ bs) d fits some = rw add-one (level_opens d (command c) (5 ∷ (c ∷ bs)) bs (parsed_step 5 (c ∷ bs)))
step Kinds.Given bs d fits some = level_before d given (6 ∷ bs) bs (parsed_step 6 bs)
step Kinds.End bs zero fits some = absurd (omega (arith, some refl))
step Kinds.End bs (suc d) fits some = level_ends d 7 bs (parsed_step 7 bs) ∙ ap (λ n. level n bs) (omega arith)

-- it breaks where a token's byte is missing
short : (k : TokenKind) (bs : List ℕ) (d : ℕ) → suc (length bs) < token_width k → level d (token_byte k ∷ bs) ≡ breaks []
unfolding token_first
short Kinds.Letter [] d h = level_breaks d (0 ∷ []) [] (ap stop_of (parsed_step 0 []))
short Kinds.Letter (c ∷ bs) d h = absurd (omega arith)
short Kinds.Space bs d h = absurd (omega arith)
short Kinds.Mark [] d h = level_breaks d (2 ∷ []) [] (ap stop_of (parsed_step 2 []))
short Kinds.Mark (c ∷ bs) d h = absurd (omega arith)
short Kinds.PageOf [] d h = level_breaks d (3 ∷ []) [] (ap stop_of (parsed_step 3 []))
short Kinds.PageOf (c ∷ bs) d h = absurd (omega arith)
short Kinds.Note bs d h = absurd (omega arith)
short Kinds.Command [] d h = level_breaks d (5 ∷ []) [] (ap stop_of (parsed_step 5 []))
short Kinds.Command (c ∷ bs) d h = absurd (omega arith)
short Kinds.Given bs d h = absurd (omega arith)
short Kinds.End bs d h = absurd (omega arith)

abbrev extent_at : List ℕ → Stop → Extent
extent_at bs ended = End
extent_at bs (closes left) = Close (length bs - length left)
extent_at bs (breaks left) = Break (length bs - length left)

extent_of_stop : (bs : List ℕ) → extent_at bs (level 0 bs) ≡ extent_of bs
unfolding level
extent_of_stop bs = go (parsed bs)
  where
    go : (p : Parsed) → extent_at bs (stop_of p) ≡ extent_in bs p
    go (whole ts []) = refl
    go (whole ts (x ∷ left)) = refl
    go (broken ts left) = refl

level_none_left : (d : ℕ) → 0 < d → level d [] ≡ breaks []
unfolding level parsed_in
level_none_left zero h = absurd (omega arith)
level_none_left (suc d) h = refl

-- the scan of what is left, with d open, comes to what the whole comes to
module _ (bs rest : List ℕ) (d : ℕ) (so_far : level d rest ≡ level 0 bs) where
  stops_at : (s : Stop) (x : Extent) → level d rest ≡ s → x ≡ extent_at bs s → x ≡ extent_of bs
  stops_at s x e f = f ∙ (ap (extent_at bs) (sym e ∙ so_far) ∙ extent_of_stop bs)

  module _ (some : 0 < length rest) where
    split : rest ≡ get_or rest 0 0 ∷ drop 1 rest
    split = drop_more rest 0 0 some

    module _ (k : TokenKind) (is : token_byte k ≡ get_or rest 0 0) where
      led : rest ≡ token_byte k ∷ drop 1 rest
      led = split ∙ ap (λ x. x ∷ drop 1 rest) (sym is)

      pub passed : (behind : List ℕ) → (token_width k + length behind ≡ length rest) × (behind ≡ drop (token_width k) rest) → (k ≡ Kinds.End → 0 < d) → level (depth_behind k d) behind ≡ level 0 bs
      passed behind (fits, part) open_some =
          let left : behind ≡ drop (token_width k) (token_byte k ∷ drop 1 rest) = part ∙ ap (drop (token_width k)) led in
          ap (level (depth_behind k d)) left ∙ (sym (step k (drop 1 rest) d (omega (arith, ap length led, fits)) open_some) ∙ (ap (level d) (sym led) ∙ so_far))

      pub missing : length rest < token_width k → Break (length bs) ≡ extent_of bs
      missing h = stops_at (breaks []) _ (ap (level d) led ∙ short k (drop 1 rest) d (omega (arith, ap length led))) (ap Break (omega arith))

    pub ends_here : get_or rest 0 0 ≡ 7 → d ≡ 0 → Close (length bs - length rest) ≡ extent_of bs
    unfolding level
    ends_here e none_open =
        let led : rest ≡ 7 ∷ drop 1 rest = split ∙ ap (λ x. x ∷ drop 1 rest) e in
        stops_at (closes rest) _ (ap (λ m. level m rest) none_open ∙ (ap (λ xs. stop_of (parsed xs)) led ∙ (ap stop_of (parsed_end (drop 1 rest)) ∙ ap closes (sym led)))) refl

    pub nothing_here : 7 < get_or rest 0 0 → Break (length bs - length rest) ≡ extent_of bs
    nothing_here h =
        stops_at (breaks rest) _
        (ap (level d) split ∙ (level_breaks d _ _ (ap stop_of (parsed_unknown (get_or rest 0 0) (drop 1 rest) h)) ∙ ap breaks (sym split))) refl

  -- and at the end
  pub all_read : rest ≡ [] → d ≡ 0 → End ≡ extent_of bs
  unfolding level parsed_in
  all_read h e = stops_at ended End (ap₂ level e h) refl

  pub left_open : rest ≡ [] → (d ≡ 0 → ⊥) → Break (length bs) ≡ extent_of bs
  left_open h e = stops_at (breaks []) _ (ap (level d) h ∙ level_none_left d (omega arith)) (ap Break (omega arith))
