-- Lent memory as a front and what is behind it. By which idea: a list that is cut at a place and put together again is itself, and so are the four lists of a memory.
use mathlib.Core.Path.{◌≡◌, ap, ◌∙◌}
use mathlib.Core.List.{List, ◌++◌, append-nil}
use Prim.Native.Nat.{ℕ, ◌-◌, ◌≤◌}
use borrow.Rule.Slice.PartMut.{mid_of, put_mid, Post-is}
use borrow.Author.Rules.{part_to_end}
use borrow.Table.Elements.{same_len}
use lib.ListN.{length, take}
use lib.Seq.{length-take-le, take_at, drop_at, drop-length}
use Rattle.memory.specs.Memory.{Memory, memory, front_in, behind}

module _ {A : Type 0} where
  -- the front F before B
  abbrev pub append : Memory A → Memory A → Memory A
  append F B = memory (F.values ++ B.values) (F.positions ++ B.positions) (F.starts ++ B.starts) (F.lengths ++ B.lengths)

  -- that many cells and records
  pub record Sized (cells records : ℕ) (M : Memory A) : Type 0 where
    pub values_long : length M.values ≡ cells
    pub positions_long : length M.positions ≡ cells
    pub starts_long : length M.starts ≡ records
    pub lengths_long : length M.lengths ≡ records

  -- no fewer
  pub record AtLeast (cells records : ℕ) (M : Memory A) : Type 0 where
    pub values_long : cells ≤ length M.values
    pub positions_long : cells ≤ length M.positions
    pub starts_long : records ≤ length M.starts
    pub lengths_long : records ≤ length M.lengths

  -- as many as N has
  pub record AsLong (M N : Memory A) : Type 0 where
    pub values_long : length M.values ≡ length N.values
    pub positions_long : length M.positions ≡ length N.positions
    pub starts_long : length M.starts ≡ length N.starts
    pub lengths_long : length M.lengths ≡ length N.lengths

  module _ (cells records : ℕ) (F B : Memory A) (h : Sized cells records F) where
    pub append_front : front_in cells records (append F B) ≡ F
    append_front =
        rw (
          take_at F.values B.values cells h.values_long,
          take_at F.positions B.positions cells h.positions_long,
          take_at F.starts B.starts records h.starts_long,
          take_at F.lengths B.lengths records h.lengths_long,
        )

    pub append_behind : behind cells records (append F B) ≡ B
    append_behind =
        rw (
          drop_at F.values B.values cells h.values_long,
          drop_at F.positions B.positions cells h.positions_long,
          drop_at F.starts B.starts records h.starts_long,
          drop_at F.lengths B.lengths records h.lengths_long,
        )

  -- a front that comes back as long as it was lent leaves the memory as long
  pub append_long : (cells records : ℕ) (M F : Memory A) → AsLong F (front_in cells records M) → AsLong (append F (behind cells records M)) M
  append_long cells records M F h = record {
    values_long = same_len cells M.values F.values h.values_long;
    positions_long = same_len cells M.positions F.positions h.positions_long;
    starts_long = same_len records M.starts F.starts h.starts_long;
    lengths_long = same_len records M.lengths F.lengths h.lengths_long;
  }

-- ---- the rest of the memory is lent, and comes back

-- the end of a list, put in place of what stood there
put_end : {B : Type 0} (a : ℕ) (xs ys : List B) → a ≤ length xs → put_mid a (length xs - a) xs ys ≡ take a xs ++ ys
put_end a xs ys h = ap (λ l. take a xs ++ l) (ap (λ l. ys ++ l) (Post-is a (length xs) xs h ∙ drop-length xs) ∙ append-nil ys)

module _ {A : Type 0} (cells records : ℕ) (M : Memory A) where
  -- what is lent: from the cells and the records on to the end
  abbrev pub lent_rest : Memory A
  lent_rest =
      memory (mid_of cells (length M.values - cells) M.values) (mid_of cells (length M.positions - cells) M.positions) (mid_of records (length M.starts - records) M.starts)
      (mid_of records (length M.lengths - records) M.lengths)

  pub rest_behind : lent_rest ≡ behind cells records M
  rest_behind = rw (part_to_end M.values cells, part_to_end M.positions cells, part_to_end M.starts records, part_to_end M.lengths records)

  -- what is there when R has come back
  abbrev pub rest_back : Memory A → Memory A
  rest_back R =
      memory (put_mid cells (length M.values - cells) M.values R.values) (put_mid cells (length M.positions - cells) M.positions R.positions)
      (put_mid records (length M.starts - records) M.starts R.starts) (put_mid records (length M.lengths - records) M.lengths R.lengths)

  module _ (R : Memory A) (h : AtLeast cells records M) where
    pub back_append : rest_back R ≡ append (front_in cells records M) R
    back_append =
        rw (
          put_end cells M.values R.values h.values_long,
          put_end cells M.positions R.positions h.positions_long,
          put_end records M.starts R.starts h.starts_long,
          put_end records M.lengths R.lengths h.lengths_long,
        )

    front_sized : Sized cells records (front_in cells records M)
    front_sized = record {
      values_long = length-take-le cells M.values h.values_long;
      positions_long = length-take-le cells M.positions h.positions_long;
      starts_long = length-take-le records M.starts h.starts_long;
      lengths_long = length-take-le records M.lengths h.lengths_long;
    }

    pub back_front : front_in cells records (rest_back R) ≡ front_in cells records M
    back_front = ap (front_in cells records) back_append ∙ append_front cells records (front_in cells records M) R front_sized

    pub back_behind : behind cells records (rest_back R) ≡ R
    back_behind = ap (behind cells records) back_append ∙ append_behind cells records (front_in cells records M) R front_sized
