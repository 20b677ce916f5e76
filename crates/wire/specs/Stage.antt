-- What the present stage can do: kinds of tokens and calls, by their numbers. Letters, spaces and notes; all calls but define.
use Rattle.std.specs.Prelude.{ℕ, Bool, not, ◌||◌, ◌==◌, nat_lt}

unfoldable pub stage_tokens : ℕ → Bool
stage_tokens k = nat_lt k 2 || k == 4

unfoldable pub stage_calls : ℕ → Bool
stage_calls k = not (k == 2)
