-- Tokens read one by one, each as the numbers of its atom behind those of the atoms before it.
use Rattle.std.proofs.Common.{◌≡◌, ℕ, ◌+◌, ◌-◌, ◌<◌, ◌≤◌, Bool, true, false, leb, List, [], ◌∷◌, ◌++◌, length, take, drop, Some, None, Option, sym, refl, ap, ap₂, ◌∙◌, subst, arith}
use Rattle.std.specs.Option.{option_map}
use Rattle.std.proofs.lemmas.List.{append-nil, append_assoc, length-append, length-drop, take_at, drop_at, drop-drop}
use Rattle.std.proofs.lemmas.Bool.{le-leb, lt-leb, leb-true, leb-false, and_from, and_parts}
use Rattle.meaning.specs.Text.{pick, Atom, none}
use Rattle.meaning.proofs.Picks.{pick_true, pick_false, some_picked}
use Rattle.wire.specs.Bytes.{tokens_of}
use Rattle.wire.specs.Cut.{token_of, First}
use Rattle.wire.specs.declared.token.Token.{Token}
use Rattle.words.specs.Atoms.{numbers_of, numbers, is_plain, all_plain}
use Rattle.words.specs.Reads.{before_all, stage_atom, stage_atoms, fitting, within, found_within, how_many, HoldsIfAny, PlainIfAny, OverIfAny, AtomPlainIfAny, Writes, ReadsSome}
use Rattle.words.proofs.Decoding.{numbers_append}
use Rattle.words.proofs.Reading.{followed_by, followed_by_none, followed_by_more}

pub all_plain_push : (xs : List Atom) (x : Atom) → all_plain xs ≡ true → is_plain x ≡ true → all_plain (xs ++ (x ∷ [])) ≡ true
unfolding all_plain
all_plain_push [] x p q = and_from (is_plain x) true q refl
all_plain_push (y ∷ ys) x p q =
    let h = and_parts (is_plain y) (all_plain ys) p in
    and_from (is_plain y) (all_plain (ys ++ (x ∷ []))) h.0 (all_plain_push ys x h.1 q)

pub within_some : (most : ℕ) (xs : List Atom) → length (numbers xs) ≤ most → within most (Some xs) ≡ Some xs
within_some most xs l = pick_true (leb (length (numbers xs)) most) (Some xs) None (le-leb (length (numbers xs)) most l)

pub within_few : (most : ℕ) (found : Option (List Atom)) (xs : List Atom) → within most found ≡ Some xs → length (numbers xs) ≤ most
within_few most None xs e = cc
within_few most (Some ys) xs e =
    let q = some_picked (leb (length (numbers ys)) most) xs ys (sym e) in
    omega (arith, leb-true (length (numbers ys)) most q.0, ap (λ (zs : List Atom). length (numbers zs)) q.1)

numbers_more : (xs : List Atom) (x : Atom) (ys : List Atom) → numbers (xs ++ (x ∷ ys)) ≡ numbers xs ++ (numbers_of x ++ numbers ys)
unfolding numbers
numbers_more xs x ys = numbers_append xs (x ∷ ys)

numbers_push : (xs : List Atom) (x : Atom) → numbers (xs ++ (x ∷ [])) ≡ numbers xs ++ numbers_of x
unfolding numbers
numbers_push xs x = numbers_append xs (x ∷ []) ∙ ap (λ (ns : List ℕ). numbers xs ++ ns) (append-nil (numbers_of x))

within_more : (most : ℕ) (xs : List Atom) (x : Atom) (o : Option (List Atom)) → most < length (numbers xs) + length (numbers_of x) → within most (followed_by xs (before_all (Some x) o)) ≡ None
within_more most xs x None l = refl
within_more most xs x (Some ys) l =
    pick_false (leb (length (numbers (xs ++ (x ∷ ys)))) most) (Some (xs ++ (x ∷ ys))) None
    (lt-leb _ most (omega (arith, ap length (numbers_more xs x ys), length-append (numbers xs) (numbers_of x ++ numbers ys), length-append (numbers_of x) (numbers ys))))

-- what has been read of the bytes, before the rest of them
pub record SoFar (bytes rest : List ℕ) (n : ℕ) (before row : List ℕ) : Type 0 where
  pub atoms : List Atom
  pub count : length (numbers atoms) ≡ n
  pub room : n ≤ length before
  pub plain : all_plain atoms ≡ true
  pub holds : row ≡ numbers atoms ++ drop n before
  pub all : stage_atoms (tokens_of bytes) ≡ followed_by atoms (stage_atoms (tokens_of rest))

pub none_so_far : (bytes before : List ℕ) → SoFar bytes bytes 0 before before
unfolding all_plain numbers
none_so_far bytes before =
    record { atoms = []; count = refl; room = omega arith; plain = refl; holds = refl; all = followed_by_none (stage_atoms (tokens_of bytes)) }

module _ (bytes before row : List ℕ) where
  reads_from :
      (o : Option (List Atom)) (r : Option ℕ) → found_within (length before) bytes ≡ o → r ≡ how_many o → HoldsIfAny o before row → PlainIfAny o → ReadsSome bytes before row r
  reads_from o r e count holds plain =
      record {
        count = count ∙ ap how_many (sym e);
        holds = subst (λ (p : Option (List Atom)). HoldsIfAny p before row) (sym e) holds;
        plain = subst PlainIfAny (sym e) plain;
      }

  reads_none : found_within (length before) bytes ≡ None → ReadsSome bytes before row None
  reads_none e = reads_from None None e refl tt tt

module _ {bytes rest : List ℕ} {n : ℕ} {before row : List ℕ} (s : SoFar bytes rest n before row) where
  pub row_long : length row ≡ length before
  row_long = omega (arith, ap length s.holds, length-append (numbers s.atoms) (drop n before), length-drop n before, s.count, s.room)

  -- what is lent for the next atom
  pub left_over : drop n row ≡ drop n before
  left_over = ap (drop n) s.holds ∙ drop_at (numbers s.atoms) (drop n before) n s.count

  -- at the end
  pub reads_all : tokens_of rest ≡ none → ReadsSome bytes before row (Some n)
  unfolding stage_atoms
  reads_all e =
      reads_from bytes before row (Some s.atoms) (Some n)
      (ap (within (length before)) (s.all ∙ ap (λ ts. followed_by s.atoms (stage_atoms ts)) e ∙ ap Some (append-nil s.atoms)) ∙ within_some (length before) s.atoms (omega (arith, s.count, s.room)))
      (ap Some (sym s.count))
      (s.holds ∙ ap (λ k. numbers s.atoms ++ drop k before) (sym s.count))
      s.plain

  module _ {t : Token} {behind : List ℕ} (first : First rest t behind) where
    first_is : (o : Option Atom) → stage_atom (token_of t) ≡ o → stage_atoms (tokens_of bytes) ≡ followed_by s.atoms (before_all o (stage_atoms (tokens_of behind)))
    unfolding stage_atoms
    first_is o e = s.all ∙ ap (followed_by s.atoms) (ap stage_atoms first.tokens ∙ ap (λ p. before_all p (stage_atoms (tokens_of behind))) e)

    -- there is no such atom, or no room for it
    pub reads_refused : {part after : List ℕ} (left : List ℕ) → length part ≡ length row - n → Writes (option_map numbers_of (stage_atom (token_of t))) part after None → ReadsSome bytes before left None
    reads_refused {part} {after} left long w = go (stage_atom (token_of t)) refl w.count
      where
        go : (o : Option Atom) → stage_atom (token_of t) ≡ o → None ≡ option_map length (fitting (length part) (option_map numbers_of o)) → ReadsSome bytes before left None
        go None e f = reads_none bytes before left (ap (within (length before)) (first_is None e))
        go (Some x) e f =
            reads_none bytes before left
            (ap (within (length before)) (first_is (Some x) e)
            ∙ within_more (length before) s.atoms x (stage_atoms (tokens_of behind)) (no_room (leb (length (numbers_of x)) (length part)) refl f))
          where
            no_room : (b : Bool) → leb (length (numbers_of x)) (length part) ≡ b → None ≡ option_map length (pick b (Some (numbers_of x)) None) → length before < length (numbers s.atoms) + length (numbers_of x)
            no_room true g h = cc
            no_room false g h = omega (arith, leb-false (length (numbers_of x)) (length part) g, long, row_long, s.count, s.room)

    -- its numbers stand behind the others
    pub so_far_more :
        {part after whole : List ℕ} {m : ℕ} → part ≡ drop n row → Writes (option_map numbers_of (stage_atom (token_of t))) part after (Some m) →
        AtomPlainIfAny (stage_atom (token_of t)) → whole ≡ take n row ++ after → SoFar bytes behind (n + m) before whole
    so_far_more {part} {after} {whole} {m} lent w plain e = go (stage_atom (token_of t)) refl w.count w.holds plain
      where
        go :
            (o : Option Atom) → stage_atom (token_of t) ≡ o → Some m ≡ option_map length (fitting (length part) (option_map numbers_of o)) →
            OverIfAny (fitting (length part) (option_map numbers_of o)) part after → AtomPlainIfAny o → SoFar bytes behind (n + m) before whole
        go None e f g p = cc
        go (Some x) is f g p = fits (leb (length (numbers_of x)) (length part)) refl f g
          where
            fits :
                (b : Bool) → leb (length (numbers_of x)) (length part) ≡ b → Some m ≡ option_map length (pick b (Some (numbers_of x)) None) →
                OverIfAny (pick b (Some (numbers_of x)) None) part after → SoFar bytes behind (n + m) before whole
            fits false h f g = cc
            fits true h f g =
                let ns : List ℕ = numbers_of x in
                let many : m ≡ length ns = cc in
                let left : part ≡ drop n before = lent ∙ left_over in
                let part_long : length part ≡ length before - n = ap length left ∙ length-drop n before in
                record {
                  atoms = s.atoms ++ (x ∷ []);
                  count = ap length (numbers_push s.atoms x) ∙ length-append (numbers s.atoms) ns ∙ omega (arith, s.count, many);
                  room = omega (arith, s.room, part_long, many, leb-true (length ns) (length part) h);
                  plain = all_plain_push s.atoms x s.plain p;
                  holds = e ∙ ap₂ (λ (a b : List ℕ). a ++ b) (ap (take n) s.holds ∙ take_at (numbers s.atoms) (drop n before) n s.count)
                      (g ∙ ap (λ (d : List ℕ). ns ++ d) (ap (drop (length ns)) left ∙ drop-drop (length ns) n before ∙ ap (λ (k : ℕ). drop k before) (omega (arith, many))))
                      ∙ sym (append_assoc (numbers s.atoms) ns (drop (n + m) before)) ∙ ap (λ (a : List ℕ). a ++ drop (n + m) before) (sym (numbers_push s.atoms x));
                  all = first_is (Some x) is ∙ followed_by_more s.atoms x (stage_atoms (tokens_of behind));
                }
