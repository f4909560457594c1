-- Whole runs of a line: the calls from its start on, and what they say together.
use Rattle.std.specs.Prelude.{◌≡◌, ◌≢◌, List, [], ◌∷◌, ◌++◌, map, ℕ, ◌+◌, ◌-◌, ◌*◌, ◌≤◌, ◌<◌, length, take, get_or}
use Rattle.std.proofs.Math.Option.{Option, none, some}
use Rattle.morph.specs.Order.{Order, order_of, reach_back, ahead_of, kind_of}
use Rattle.morph.specs.Lists.{tabulate, In}
use Rattle.morph.specs.Line.{Entry, output_at, best_at, filter_line, queue, line_cost, line_costs}
use Rattle.morph.specs.Origin.{answer_at, LatestEntry, positions_line}
use Rattle.sample.specs.Samples.{Samples}
use Rattle.line_judge.specs.Numbers.{window_of}
use Rattle.line_judge.specs.Steps.{State, PixelSaid, pixel, is_not_yet, refused, say_at, LineStart, ReadNumber, DrainNumber, Queue, Reads, Drains}

-- A run over the pixels `raw` as they are offered: an accepted start; then, in any order that is accepted, the pixel that is next, and drains; and calls that are refused,
-- of any pixel, in between. `said` are the answers of the accepted steps, the first first.
pub data LineRun {A : Type 0} (K : Samples A) (kind left right : ℕ) (raw : List A) : State A → List (PixelSaid A) → Type 0 where
  started : {s : State A} → LineStart K kind left right (length raw) 0 s → LineRun K kind left right raw s []
  offered : {s s' : State A} {a : PixelSaid A} {said : List (PixelSaid A)} → LineRun K kind left right raw s said → ReadNumber K s (get_or raw s.step K.order.blank) ≡ 0
      → Reads K s a s' (get_or raw s.step K.order.blank) → LineRun K kind left right raw s' (said ++ (a ∷ []))
  drained : {s s' : State A} {a : PixelSaid A} {said : List (PixelSaid A)} → LineRun K kind left right raw s said → DrainNumber K s ≡ 0 → Drains K s a s' → LineRun K kind left right raw s' (said ++ (a ∷ []))
  offer_refused : {s s' : State A} {a : PixelSaid A} {said : List (PixelSaid A)} (v : A) → LineRun K kind left right raw s said → ReadNumber K s v ≢ 0 → Reads K s a s' v → LineRun K kind left right raw s' said
  drain_refused : {s s' : State A} {a : PixelSaid A} {said : List (PixelSaid A)} → LineRun K kind left right raw s said → DrainNumber K s ≢ 0 → Drains K s a s' → LineRun K kind left right raw s' said

module _ {A : Type 0} where
  -- the pixel of an answer, and its comparisons
  abbrev pub pixel_of : PixelSaid A → Option A
  pixel_of (pixel entry number comparisons) = some entry.value
  pixel_of (is_not_yet comparisons) = none
  pixel_of (refused number position) = none

  abbrev pub pixel_comparisons : PixelSaid A → ℕ
  pixel_comparisons (pixel entry number comparisons) = comparisons
  pixel_comparisons (is_not_yet comparisons) = comparisons
  pixel_comparisons (refused number position) = 0

  -- what a list of answers tells, in their order: the pixels, and the positions that gave them; and the comparisons together
  abbrev pub entries_of : List (PixelSaid A) → List (Entry A)
  entries_of [] = []
  entries_of (pixel entry number comparisons ∷ said) = entry ∷ entries_of said
  entries_of (is_not_yet comparisons ∷ said) = entries_of said
  entries_of (refused number position ∷ said) = entries_of said

  abbrev pub pixels_of : List (PixelSaid A) → List A
  pixels_of said = map (λ e. e.value) (entries_of said)

  abbrev pub positions_of : List (PixelSaid A) → List ℕ
  positions_of said = map (λ e. e.position) (entries_of said)

  abbrev pub together : List (PixelSaid A) → ℕ
  together [] = 0
  together (a ∷ said) = pixel_comparisons a + together said

module _ {A : Type 0} (K : Samples A) (kind left right : ℕ) (raw : List A) where
  -- the line's order, B, F and L, and its pixels as they are taken
  abbrev pub order : Order A
  order = order_of (kind_of kind) K.order

  abbrev pub back : ℕ
  back = reach_back (kind_of kind) left right

  abbrev pub ahead : ℕ
  ahead = ahead_of (kind_of kind) left right

  abbrev pub line_window : ℕ
  line_window = window_of (kind_of kind) left right

  abbrev pub taken_line : List A
  taken_line = map K.taken raw

  -- what step t says
  abbrev pub pixel_said_at : ℕ → PixelSaid A
  pixel_said_at t = say_at ahead t (answer_at order back ahead taken_line (t - ahead)) (line_cost order line_window taken_line t)

  -- After some accepted steps, whatever was refused in between: they are counted; the queue is the line's; each answer is the line's, so that "output x comes at step
  -- x + F" and at no other; the pixels so far are the first of the filtered line, and the positions those that gave them; the comparisons are document 01's, and together
  -- "at most 2N - 2".
  pub record LineRan (s : State A) (said : List (PixelSaid A)) : Type 0 where
    pub counted : length said ≡ s.step
    pub bounded : s.step ≤ length raw + ahead
    pub queued : Queue K s ≡ queue order line_window taken_line s.step
    pub says : said ≡ tabulate s.step pixel_said_at
    pub outputs : (t : ℕ) → t < s.step → pixel_of (get_or said t (is_not_yet 0)) ≡ output_at (length raw) (best_at order back ahead taken_line) ahead t
    pub filtered : pixels_of said ≡ take (s.step - ahead) (filter_line order back ahead taken_line)
    pub positions : positions_of said ≡ take (s.step - ahead) (positions_line order back ahead taken_line)
    pub costs : together said ≡ line_costs order line_window taken_line s.step
    pub few : together said ≤ 2 * length raw - 2
    pub member : (v : A) → In v (pixels_of said) → In v taken_line

  -- "The line filter shall also return the position that gave the value, the latest one in the window where several are equal." (02, 2/13) Step x + F tells output x so, and of no other entry
  -- the sentence is true: `run_latest`.
  pub record LatestTold (said : List (PixelSaid A)) (x : ℕ) : Type 0 where
    pub entry : Entry A
    pub comparisons : ℕ
    pub says : get_or said (x + ahead) (is_not_yet 0) ≡ pixel entry x comparisons
    pub latest : LatestEntry order back ahead taken_line x entry
    pub only : (other : Entry A) → LatestEntry order back ahead taken_line x other → other ≡ entry
