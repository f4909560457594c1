-- What an accepted size is.
use Rattle.std.proofs.Common.{◌≡◌, ℕ, ◌≤◌, ◌<◌}
use Rattle.morph.specs.Numbers.{outside}
use Rattle.morph.proofs.Lists.{neither}
use Rattle.morph.proofs.Numbers.{given_zero, inside}
use Rattle.plan_record.specs.Numbers.{size_number}

pub size_accepted : (width rows : ℕ) → size_number width rows ≡ 0 → (0 < width) × (width ≤ 4096) × (0 < rows) × (rows ≤ 65535)
size_accepted width rows e =
    let (a, b) = neither (outside 4096 width) (outside 65535 rows) (given_zero 3 _ e) in
    let (w, v) = inside 4096 width a in
    let (r, q) = inside 65535 rows b in
    (w, v, r, q)
