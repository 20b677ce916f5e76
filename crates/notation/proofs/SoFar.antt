-- A text is read piece by piece: what was said so far, and what is left.
use Rattle.std.proofs.Common.{◌≡◌, ℕ, zero, suc, ◌+◌, ◌<◌, ◌≤◌, List, [], ◌∷◌, ◌++◌, length, Some, None, Ok, Err, Result, sym, refl, ap, ◌∙◌, append_assoc, append-nil, arith}
use Rattle.std.proofs.lemmas.Result.{IfOk-at_ok}
use Rattle.notation.specs.declared.fault.Fault.{Fault}
use Rattle.notation.specs.declared.fault.Fault.TheVariants.{Unclosed}
use Rattle.notation.specs.declared.piece.Piece.{Piece}
use Rattle.notation.specs.declared.piece.Piece.TheVariants.{Letter, Space, Mark, PageOf, Note, Command, Given, Close}
use Rattle.notation.specs.Pieces.{form_of, depth_after, first_piece, piece_of, TakesPiece}
use Rattle.notation.specs.Noted.{all_closed, piece_then, noted_from}
use Rattle.notation.specs.Steps.{then, in_front}
use Rattle.notation.proofs.Thens.{in_front_nothing, in_front_both}
use Rattle.notation.proofs.Shorter.{first_piece_leaves, noted_from_step, noted_from_none}

-- the text said this before what is left, which stands so deep in braces, and it was appended
pub record SoFar (text before : List ℕ) (depth : ℕ) (left after : List ℕ) : Type 0 where
  pub said : List ℕ
  pub added : after ≡ before ++ said
  pub same : in_front said (noted_from depth left) ≡ noted_from 0 text
  pub few : depth + length left ≤ length text

pub so_far_none : (text before : List ℕ) → SoFar text before 0 text before
so_far_none text before = record { said = []; added = sym (append-nil before); same = in_front_nothing (noted_from 0 text); few = omega arith }

-- a piece makes a text at most one deeper
depth_after_le : (p : Piece) (depth d : ℕ) → depth_after p depth ≡ Ok d → d ≤ suc depth
depth_after_le (Letter b) depth d e = let same : depth ≡ d = cc in omega arith
depth_after_le Space depth d e = let same : depth ≡ d = cc in omega arith
depth_after_le (Mark n) depth d e = let same : depth ≡ d = cc in omega arith
depth_after_le (PageOf n) depth d e = let same : depth ≡ d = cc in omega arith
depth_after_le Note depth d e = let same : suc depth ≡ d = cc in omega arith
depth_after_le (Command n) depth d e = let same : suc depth ≡ d = cc in omega arith
depth_after_le Given depth d e = let same : depth ≡ d = cc in omega arith
depth_after_le Close zero d e = cc
depth_after_le Close (suc depth) d e = let same : depth ≡ d = cc in omega arith

-- what the first piece, and what stands behind it, make of a text
noted_by : (depth : ℕ) (bs : List ℕ) (r : Result (Piece × List ℕ) Fault) → piece_of bs ≡ Some r → noted_from depth bs ≡ then r (piece_then noted_from depth)
noted_by depth [] r e = cc
noted_by depth (b ∷ bs) r e = let same : first_piece b bs ≡ r = cc in rw (noted_from_step depth b bs, same) refl

noted_end : (depth : ℕ) (bs : List ℕ) → piece_of bs ≡ None → noted_from depth bs ≡ all_closed depth
noted_end depth [] e = noted_from_none depth
noted_end depth (b ∷ bs) e = cc

pub first_shorter : (b : ℕ) (bs : List ℕ) (p : Piece) (rest : List ℕ) → Ok (p, rest) ≡ first_piece b bs → length rest ≤ length bs
first_shorter b bs p rest e = IfOk-at_ok (λ q. length q.1 ≤ length bs) (sym e) (first_piece_leaves b bs)

piece_shorter : (bs : List ℕ) (p : Piece) (rest : List ℕ) → piece_of bs ≡ Some (Ok (p, rest)) → length rest < length bs
piece_shorter [] p rest e = cc
piece_shorter (b ∷ bs) p rest e = omega (arith, first_shorter b bs p rest (cc))

module _ (text before : List ℕ) (depth : ℕ) (left after : List ℕ) (so : SoFar text before depth left after) where
  pub so_far_fault : (e : Fault) (rest : List ℕ) → TakesPiece left (Some (Err e)) rest → noted_from 0 text ≡ Err e
  so_far_fault e rest is = sym so.same ∙ ap (in_front so.said) (noted_by depth left (Err e) is.0)

  module _ (p : Piece) (rest : List ℕ) (is : piece_of left ≡ Some (Ok (p, rest))) where
    so_far_by : in_front so.said (piece_then noted_from depth (p, rest)) ≡ noted_from 0 text
    so_far_by = ap (in_front so.said) (sym (noted_by depth left (Ok (p, rest)) is)) ∙ so.same

    pub so_far_deep : (e : Fault) → Err e ≡ depth_after p depth → noted_from 0 text ≡ Err e
    so_far_deep e deep = sym so_far_by ∙ rw (← deep) refl

    pub so_far_more : (d : ℕ) (after' : List ℕ) → Ok d ≡ depth_after p depth → after' ≡ after ++ form_of p → SoFar text before d rest after'
    so_far_more d after' deep e = record {
      said = so.said ++ form_of p;
      added = e ∙ (ap (λ xs. xs ++ form_of p) so.added ∙ append_assoc before so.said (form_of p));
      same = sym (in_front_both so.said (form_of p) (noted_from d rest)) ∙ (rw (← deep) at so_far_by);
      few = omega (arith, so.few, piece_shorter left p rest is, depth_after_le p depth d (sym deep));
    }

  pub so_far_open : piece_of left ≡ None → 0 < depth → noted_from 0 text ≡ Err Unclosed
  so_far_open end h = sym so.same ∙ (ap (in_front so.said) (noted_end depth left end) ∙ unclosed depth h)
    where
      unclosed : (n : ℕ) → 0 < n → in_front so.said (all_closed n) ≡ Err Unclosed
      unclosed zero h = absurd (let no : ⊥ = omega arith in no)
      unclosed (suc n) h = refl

  pub so_far_all : piece_of left ≡ None → depth ≡ 0 → (bs : List ℕ) × (noted_from 0 text ≡ Ok bs) × (after ≡ before ++ bs)
  so_far_all end e = (so.said, sym so.same ∙ rw (noted_end depth left end, e) (ap (λ bs. Ok bs) (append-nil so.said)), so.added)
