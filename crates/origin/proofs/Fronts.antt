-- The origins of the fronts: what is told of one, by the age that its cell keeps, and how the two rows fill up with them.
use Rattle.std.proofs.Common.{◌≡◌, sym, ◌∙◌, List, ℕ, ◌+◌, ◌-◌, ◌*◌, ◌%◌, ◌≤◌, ◌<◌, min, zero-mul, arith, le-leb, length, get_or, set}
use Rattle.std.proofs.lemmas.Bool.{lt-leb}
use Rattle.morph.specs.Lists.{tabulate}
use Rattle.morph.specs.Cell.{age_of}
use Rattle.morph.proofs.Lists.{length_tabulate, get_d_tabulate}
use Rattle.sample.proofs.Rows.{Filling, fill_start, fill_next}
use Rattle.columns.proofs.Cells.{next_cells}
use Rattle.origin.specs.Inner.{slot_of, told_row, told_column, front_kept}

-- ---- one front, whose cell keeps r and tells the age a

module _ (P s most a r : ℕ) (f : most ≡ min P s) (g : a ≡ age_of s r) where
  pub row_none : most < a → s ≡ told_row P s r
  unfolding told_row
  row_none h = rw (← g, ← f, lt-leb a most h)

  pub row_some : a ≤ most → s - a ≡ told_row P s r
  unfolding told_row
  row_some h = rw (← g, ← f, le-leb a most h)

  module _ (W x : ℕ) (columns : List ℕ) where
    pub column_none : most < a → 0 ≡ told_column P W s columns x r
    unfolding told_column
    column_none h = rw (← g, ← f, lt-leb a most h)

    pub column_near : (last : ℕ) → last ≡ s % P → a ≤ most → a ≤ last → get_or columns ((last - a) * W + x) 0 ≡ told_column P W s columns x r
    unfolding told_column slot_of
    column_near last e h k = rw (← g, ← f, ← e, le-leb a most h, le-leb a last k)

    pub column_far : (last : ℕ) → last ≡ s % P → a ≤ most → last < a → get_or columns ((last + P - a) * W + x) 0 ≡ told_column P W s columns x r
    unfolding told_column slot_of
    column_far last e h k = rw (← g, ← f, ← e, le-leb a most h, lt-leb a last k)

-- ---- the fronts go into the two rows

module _ (P s : ℕ) (ps cs ss rows cols : List ℕ) where
  abbrev row_at : ℕ → ℕ
  row_at x = told_row P s (front_kept P ps ss x)

  abbrev column_of : ℕ → ℕ
  column_of x = told_column P (length cols) s cs x (front_kept P ps ss x)

  -- the origins of the fronts of the columns before x, whose cells begin at lo, stand in the two rows
  pub record Telling (rows' cols' : List ℕ) (lo x : ℕ) : Type 0 where
    pub within : x ≤ length cols
    pub at : lo ≡ x * P
    pub rows_filled : Filling (tabulate (length cols) row_at) rows rows' x
    pub columns_filled : Filling (tabulate (length cols) column_of) cols cols' x

  pub telling_first : length rows ≡ length cols → Telling rows cols 0 0
  telling_first a = record {
    within = omega arith;
    at = sym (zero-mul P);
    rows_filled = fill_start (tabulate (length cols) row_at) rows (a ∙ sym (length_tabulate (length cols) row_at));
    columns_filled = fill_start (tabulate (length cols) column_of) cols (sym (length_tabulate (length cols) column_of));
  }

  module _ (rows' cols' : List ℕ) (lo x : ℕ) (g : Telling rows' cols' lo x) where
    kept_here : (at : ℕ) → at ≡ lo + get_or ss x 0 → get_or ps at 0 ≡ front_kept P ps ss x
    unfolding front_kept
    kept_here at e = rw (e, g.at)

    pub telling_next : (at r : ℕ) (rows'' cols'' : List ℕ) → x < length cols → at ≡ lo + get_or ss x 0 → r ≡ get_or ps at 0 → rows'' ≡ set rows' x (told_row P s r)
        → cols'' ≡ set cols' x (told_column P (length cols) s cs x r) → Telling rows'' cols'' (lo + P) (x + 1)
    telling_next at r rows'' cols'' h e k u v =
        let i : r ≡ front_kept P ps ss x = k ∙ kept_here at e in
        record {
          within = omega arith;
          at = next_cells P x lo g.at;
          rows_filled = rw u
              (fill_next (tabulate (length cols) row_at) rows rows' x g.rows_filled 0 (rw length_tabulate h) (told_row P s r) (rw (get_d_tabulate (length cols) row_at x 0 h, i)));
          columns_filled = rw v
              (fill_next (tabulate (length cols) column_of) cols cols' x g.columns_filled 0 (rw length_tabulate h) (told_column P (length cols) s cs x r) (rw (get_d_tabulate (length cols) column_of x 0 h, i)));
        }
