-- A declared line and its answers: its state, and document 01's number and values for each case.
use Rattle.std.specs.Prelude.{Result, Ok, Err}
use Rattle.morph.specs.declared.refusal.Refusal.{Refusal}
use Rattle.morph.specs.Refusals.{refusal_number}
use Rattle.morph.specs.Line.{Shown, found, refused as notShown}
use Rattle.queue.specs.declared.Entry.{Entry}
use Rattle.line_judge.specs.declared.Shape.{Shape}
use Rattle.line_judge.specs.Steps.{State, PixelSaid, pixel, is_not_yet, refused}
use Rattle.line.specs.declared.Line.{Line}
use Rattle.line.specs.declared.Answer.{Answer}
use Rattle.line.specs.declared.Answer.TheVariants.{Pixel, NotYet, Refused}

module _ {A : Type 0} where
  abbrev pub line_state : Line A → State A
  line_state l = record {
    kind = l.kind;
    left = l.left;
    right = l.right;
    pixels = l.pixels;
    step = l.step;
    values = l.queue.values;
    positions = l.queue.positions;
    start = l.queue.start;
    count = l.queue.count;
  }

  -- what its calls are judged by
  abbrev pub shape_of : Line A → Shape
  shape_of l = record {
    kind = l.kind;
    left = l.left;
    right = l.right;
    pixels = l.pixels;
    step = l.step;
    start = l.queue.start;
    count = l.queue.count;
  }

  abbrev pub pixel_said : Answer A → PixelSaid A
  pixel_said (Pixel value position number comparisons) = pixel (record { value = value; position = position }) number comparisons
  pixel_said (NotYet comparisons) = is_not_yet comparisons
  pixel_said (Refused refusal position) = refused (refusal_number refusal) position

  abbrev pub entry_shown : Result (Entry A) Refusal → Shown A
  entry_shown (Ok e) = found (record { value = e.value; position = e.position })
  entry_shown (Err refusal) = notShown (refusal_number refusal)
