-- A row that is finite has no such column, and any other is searched.
use Rattle.std.proofs.Common.{sym, ◌∙◌}
use Rattle.sample.specs.Samples.{rates}
use Rattle.sample.proofs.Rows.{none_first}
use Rattle.sample.proofs.rate.first_not_finite.Goals as goal

pub returns-then-all_finite : goal.returns-then-all_finite
returns-then-all_finite c = none_first rates c.args.row.now (sym c.all_finite.ensures ∙ c.if-all_finite.true)
