-- Inner: only contracts of inner functions, and proofs, cite what stands here; no promise of a public call is made of it.
-- What a line that is not broken has, as numbers.
-- A line one step on.
use Rattle.std.specs.Prelude.{List, ℕ, ◌+◌, ◌≤◌, ◌<◌}
use Rattle.morph.specs.declared.Kind.{Kind}
use Rattle.morph.specs.Order.{reach_back, ahead_of}
use Rattle.sample.specs.Samples.{Samples}
use Rattle.line_judge.specs.Numbers.{window_of}
use Rattle.line_judge.specs.Steps.{State}

-- What a line that is not broken has, as numbers: `sound_broken` and `broken_sound` prove that these are the same.
pub record LineSound (kind : Kind) (left right pixels step start count : ℕ) : Type 0 where
  pub left_fits : left ≤ 31
  pub right_fits : right ≤ 31
  pub back_fits : reach_back kind left right ≤ 31
  pub ahead_fits : ahead_of kind left right ≤ 31
  pub some : 0 < pixels
  pub pixels_fit : pixels ≤ 65535
  pub step_fits : step ≤ pixels + ahead_of kind left right
  pub below : start < 63
  pub fits : count ≤ window_of kind left right

module _ {A : Type 0} (K : Samples A) (s : State A) where
  -- the state one step on, with this queue
  unfoldable pub onward : List A → List ℕ → ℕ → ℕ → State A
  onward values positions start count = record {
    kind = s.kind;
    left = s.left;
    right = s.right;
    pixels = s.pixels;
    step = s.step + 1;
    values = values;
    positions = positions;
    start = start;
    count = count;
  }
