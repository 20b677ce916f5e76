-- `pick` at a test that is known, and a goal under `pick` by both ways.
use Rattle.std.proofs.Common.{◌≡◌, ℕ, Bool, true, false, Some, None, refl, arith}
use Rattle.meaning.specs.Text.{pick}

pub pick_true : {A : Type 0} (b : Bool) (x y : A) → b ≡ true → pick b x y ≡ x
pick_true b x y e = rw e refl

pub pick_false : {A : Type 0} (b : Bool) (x y : A) → b ≡ false → pick b x y ≡ y
pick_false b x y e = rw e refl

pub pick_both : {A : Type 0} (b : Bool) (x y : A) (P : A → Type 0) → (b ≡ true → P x) → (b ≡ false → P y) → P (pick b x y)
pick_both true x y P t f = t refl
pick_both false x y P t f = f refl

pub pick_same : {A : Type 0} (b : Bool) (x : A) → pick b x x ≡ x
pick_same true x = refl
pick_same false x = refl

-- what a test let through, and that it let nothing through
pub some_picked : {A : Type 0} (b : Bool) (a x : A) → Some a ≡ pick b (Some x) None → (b ≡ true) × (a ≡ x)
some_picked true a x e = (refl, cc)
some_picked false a x e = let z : ◌≡◌ {A = ℕ} 0 1 = cc in absurd (let n : ⊥ = omega arith in n)

pub none_picked : {A : Type 0} (b : Bool) (x : A) → None ≡ pick b (Some x) None → b ≡ false
none_picked true x e = let z : ◌≡◌ {A = ℕ} 0 1 = cc in absurd (let n : ⊥ = omega arith in n)
none_picked false x e = refl
