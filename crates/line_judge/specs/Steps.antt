-- A line step by step: what each call says and leaves, over a kind of samples K. Grey bytes and floats have the same promises.
use Rattle.std.specs.Prelude.{◌≡◌, ◌≢◌, Bool, true, false, cond, List, ℕ, ◌+◌, ◌-◌, leb, eqb, length, get_or, replicate}
use Rattle.morph.specs.declared.Kind.{Kind}
use Rattle.morph.specs.Order.{Order, order_of, reach_back, ahead_of, kind_of}
use Rattle.morph.specs.Lists.{Each}
use Rattle.morph.specs.Line.{Entry, queue, line_cost, Shown, found, refused as notShown}
use Rattle.morph.specs.Origin.{answer_at}
use Rattle.sample.specs.Samples.{Samples}
use Rattle.queue.specs.Queue.{listed}
use Rattle.line_judge.specs.Numbers.{window_of, line_start_number, broken, line_read_number, line_drain_number, line_read_out_number, place_of}

-- ---- the state, and what a call says

-- a line between two steps: its kind and extents, its N, the steps done, and the row queue's 63 places with its start and its length
pub record State (A : Type 0) : Type 0 where
  pub kind : Kind
  pub left : ℕ
  pub right : ℕ
  pub pixels : ℕ
  pub step : ℕ
  pub values : List A
  pub positions : List ℕ
  pub start : ℕ
  pub count : ℕ

-- "A step answers with an enum: a row with its number and the comparisons made, not yet with the comparisons made, or a refusal." Here the row is a pixel, an entry of its
-- value and "the position that gave the value" (02, 2/13); a refusal has document 01's number and the position that 8 names.
pub data PixelSaid (A : Type 0) : Type 0 where
  pixel : Entry A → ℕ → ℕ → PixelSaid A
  is_not_yet : ℕ → PixelSaid A
  refused : ℕ → ℕ → PixelSaid A

-- "Output x comes at step x + F": at step t the entry is told as pixel t - F, once t has come so far
unfoldable pub say_at : {A : Type 0} → ℕ → ℕ → Entry A → ℕ → PixelSaid A
say_at ahead t entry comparisons = cond (leb ahead t) (pixel entry (t - ahead) comparisons) (is_not_yet comparisons)

-- ---- the start

module _ {A : Type 0} (K : Samples A) where
  -- a line before its first step: nothing queued
  unfoldable pub first_line : ℕ → ℕ → ℕ → ℕ → State A
  first_line kind left right pixels = record {
    kind = kind_of kind;
    left = left;
    right = right;
    pixels = pixels;
    step = 0;
    values = replicate 63 K.zero;
    positions = replicate 63 0;
    start = 0;
    count = 0;
  }

  -- "a refused start .. hands back all zeros, kind erosion"
  pub record LineStart (kind left right pixels number : ℕ) (s : State A) : Type 0 where
    pub told : number ≡ line_start_number kind left right pixels
    pub refuses : line_start_number kind left right pixels ≢ 0 → s ≡ first_line 0 0 0 0
    pub begins : line_start_number kind left right pixels ≡ 0 → s ≡ first_line kind left right pixels

-- ---- the steps

module _ {A : Type 0} (K : Samples A) (s : State A) where
  abbrev pub Broken : Bool
  Broken = broken s.kind s.left s.right s.pixels s.step s.start s.count

  abbrev pub ReadNumber : A → ℕ
  ReadNumber v = line_read_number s.kind s.left s.right s.pixels s.step s.start s.count (K.good v)

  abbrev pub DrainNumber : ℕ
  DrainNumber = line_drain_number s.kind s.left s.right s.pixels s.step s.start s.count

  abbrev pub ReadOutNumber : ℕ → ℕ
  ReadOutNumber place = line_read_out_number s.kind s.left s.right s.pixels s.step s.start s.count place

  -- the queue, oldest first
  abbrev pub Queue : List (Entry A)
  Queue = listed K s.values s.positions s.start s.count

  -- the order, B, F and L
  abbrev pub O : Order A
  O = order_of s.kind K.order

  abbrev pub B : ℕ
  B = reach_back s.kind s.left s.right

  abbrev pub F : ℕ
  F = ahead_of s.kind s.left s.right

  abbrev pub L : ℕ
  L = window_of s.kind s.left s.right

  -- a run over the line xs of accepted pixels could have left this state
  pub record LeftBy (xs : List A) : Type 0 where
    pub long : length xs ≡ s.pixels
    pub good : Each (λ a. K.good a ≡ true) xs
    pub queued : Queue ≡ queue O L xs s.step

  -- what step t over the line xs says: "Output x comes at step x + F", with the position that gave it and document 01's comparisons
  abbrev pub pixel_said_over : List A → PixelSaid A
  pixel_said_over xs = say_at F s.step (answer_at O B F xs (s.step - F)) (line_cost O L xs s.step)

module _ {A : Type 0} (K : Samples A) (s : State A) (a : PixelSaid A) (s' : State A) where
  -- "Every refusal returns its number (8 its column too) and the state as given"
  pub record Refuses (number : ℕ) : Type 0 where
    pub says : a ≡ refused number (place_of number s.step)
    pub kept : s' ≡ s

  -- a step over the line xs: the queue is that of one step more, and the answer is the line's
  pub record Follows (xs : List A) : Type 0 where
    pub queued : Queue K s' ≡ queue (O K s) (L K s) xs (s.step + 1)
    pub says : a ≡ pixel_said_over K s xs

  -- An accepted step. Whatever the queue held, the step is counted, the rest stays and is sound, and the answer has the case and the number that are due.
  -- Over every line that could have left the state, and of which `next` says that this is its next step, the queue and the answer are the line's.
  pub record Accepts (next : List A → Type 0) : Type 0 where
    pub kind_kept : s'.kind ≡ s.kind
    pub left_kept : s'.left ≡ s.left
    pub right_kept : s'.right ≡ s.right
    pub pixels_kept : s'.pixels ≡ s.pixels
    pub counted : s'.step ≡ s.step + 1
    pub sound : Broken K s' ≡ false
    pub entry : Entry A
    pub comparisons : ℕ
    pub says : a ≡ say_at (F K s) s.step entry comparisons
    pub follows : (xs : List A) → LeftBy K s xs → next xs → Follows xs

  -- a step is refused exactly where its number is not 0
  pub record Answers (number : ℕ) (next : List A → Type 0) : Type 0 where
    pub refuses : number ≢ 0 → Refuses number
    pub accepts : number ≡ 0 → Accepts next

  -- the pixel v is offered: the line goes on with v as it is taken
  abbrev pub Reads : A → Type 0
  Reads v = Answers (ReadNumber K s v) (λ xs. get_or xs s.step K.order.blank ≡ K.taken v)

  -- a drain is asked: every line goes on with it
  abbrev pub Drains : Type 0
  Drains = Answers (DrainNumber K s) (λ xs. Unit {0})

-- ---- the read-out: exact on any contents

module _ {A : Type 0} (K : Samples A) (s : State A) where
  -- the entry of a queue place, the oldest at place 0
  unfoldable pub line_shown : ℕ → Shown A
  line_shown place =
      cond (eqb (ReadOutNumber K s place) 0)
      (found (get_or (Queue K s) place (record { value = K.order.blank; position = 0 })))
      (notShown (ReadOutNumber K s place))

-- ---- two states that a caller cannot tell apart

-- Equal but for where the queue starts in its ring and for the cells outside it, which document 01 excepts.
pub record SameLine {A : Type 0} (K : Samples A) (s s' : State A) : Type 0 where
  pub kind : s.kind ≡ s'.kind
  pub left : s.left ≡ s'.left
  pub right : s.right ≡ s'.right
  pub pixels : s.pixels ≡ s'.pixels
  pub step : s.step ≡ s'.step
  pub queued : Queue K s ≡ Queue K s'
