-- `take_row` meets its contract: the row goes across, its columns into their row of the ring, and what came of it into the queues.
use Rattle.std.proofs.Common.{◌≡◌, refl, ap, ℕ, ◌+◌, ◌-◌, ◌*◌, ◌%◌, ◌≤◌, arith, w64, Fits, length}
use Rattle.stage.proofs.Stage.{lent_as}
use Rattle.origin.proofs.Stages.{ring_in, origins_taken}
use Rattle.stage_origin.proofs.take_row.Goals as goal
use Rattle.stage_origin.proofs.take_row.Goals.{After-size_of-places}
use Rattle.stage_origin.proofs.take_row.Given.{Over}

-- whichever row of the ring it is, its part is there, and its bounds are numbers of 64 bits
module _ (g : Over) (c : After-size_of-places g) (n : ℕ) where
  inside : n % c.size_of-places.result * length c.args.row.now + length c.args.row.now ≤ length c.args.columns.now
  inside = ring_in _ _ n c.args.columns.now _ _ _ (omega arith) (lent_as _ _ _ _ _ _ _ c.size_of-places.ensures.0 refl c.requires.2) c.requires.4

  fits :
      Fits w64 (n % c.size_of-places.result * length c.args.row.now)
      × Fits w64 (n % c.size_of-places.result * length c.args.row.now + length c.args.row.now)
      × Fits w64 (n % c.size_of-places.result * length c.args.row.now * 2)
  fits = let i = inside in (omega arith, omega arith, omega arith)

pub slice_bounds-across-end : goal.slice_bounds-across-end
slice_bounds-across-end g c = inside g (goal.at.slice_bounds-across-end g c).After-size_of-places _

pub returns : goal.returns
returns g c =
    let W = (length c.args.row.now) in
    let e = c.size_of-places.ensures.0 in
    let lo = c.args.t % c.size_of-places.result * W in
    let k : lo + W - lo ≡ W = omega arith in
    origins_taken g.S.Sample.samples _ _ _ _ _ _ _ _ _ _ _ _ c.requires.2 c.requires.4 (ap (λ n. c.args.t % n * W) e) k
    (rw (c.back_across.ensures.0, c.ahead_across.ensures.0) at c.across-a.ensures)
    (rw e at c.read_columns-c.ensures)
