-- Inner: only contracts of inner functions, and proofs, cite what stands here; no promise of a public call is made of it.
-- What a machine means: a function from the bytes that are still to come to the bytes that are still to be written. The first machine means the answer, and a turn keeps the meaning.
use Rattle.std.specs.Prelude.{◌≡◌, Bool, true, false, cond, ◌⊎◌, List, [], ◌∷◌, ◌++◌, ℕ, ◌+◌, ◌-◌, ◌*◌, ◌≤◌, ◌<◌, min, ltb, length, take, drop, Float}
use Rattle.morph.specs.Picture.{Picture}
use Rattle.plan_record.specs.Plan.{used, plan_ahead}
use Rattle.memory.specs.Memory.{Memory, memory, Whole, Holds}
use Rattle.picture_state.specs.declared.State.{State}
use Rattle.picture_state.specs.declared.Ending.TheVariants.{Fixed}
use Rattle.picture_state.specs.declared.Answer.{Answer}
use Rattle.picture_state.specs.Numbers.{memory_judged}
use Rattle.picture_state.specs.Step.{RowSaid, row, is_not_yet, refused, row_said_of, RowStep, DrainStep}
use Rattle.job_read.specs.Layout.{sample_bytes_of}
use Rattle.answer.specs.Answer.{Coding, grey_rows, rate_rows, ending, answer_of}
use Rattle.answer.specs.Inner.{rest_answer}
use Rattle.turns.specs.declared.Phase.{Phase}
use Rattle.turns.specs.declared.Phase.TheVariants.{Head, Rows, Over}
use Rattle.turns.specs.declared.Machine.{Machine}
use Rattle.turns.specs.declared.Turned.{Turned}

-- ---- at the rows

module _ {A : Type 0} (C : Coding A) (kind : ℕ) where
  -- A job counts its rows, so that its run is fixed. The state and the memory are those after some rows were read, and what is still to be written is the rest of the answer after them. A step rests on no row that is
  -- still to come, so the memory holds what those steps leave of every picture that begins with the rows.
  pub record RowsMean (S : State) (M : Memory A) (f : List ℕ → List ℕ) : Type 0 where
    pub judged : memory_judged kind S M ≡ 0
    pub fixed : S.ending ≡ Fixed
    pub before : Picture A
    pub whole : Whole C.samples S.width (min S.step S.rows) before
    pub held :
        (p : Picture A) → Whole C.samples S.width S.rows p → take (length before) p ≡ before → Holds C.samples (used S.plan) S.width p S.step M
    pub tells : (bytes : List ℕ) → f bytes ≡ rest_answer C S.plan S.width S.rows S.step before bytes

  -- A step of either kind of samples, from a row's bytes to a frame: the picture's own step, a row where there are rows and a drain after them; a row that comes out stands
  -- in the frame, with its marker.
  pub record Framed (S : State) (M : Memory A) (bytes : List ℕ) (M' : Memory A) (frame : List ℕ) (answer : Answer) (S' : State) : Type 0 where
    pub out : List A
    pub out' : List A
    pub long : length out ≡ S.width
    pub offered : S.step < S.rows → RowStep C.samples kind S M (C.read S.width bytes) out M' out' answer S'
    pub drained : S.rows ≤ S.step → DrainStep C.samples kind S M out M' out' answer S'
    pub stands : (number comparisons : ℕ) → row_said_of answer ≡ row number comparisons → take (1 + S.width * C.size) frame ≡ 1 ∷ C.write out'

-- ---- the machine

-- the memory that a machine is lent, for both kinds of samples
pub record MachineMemory : Type 0 where
  pub greys : List ℕ
  pub rates : List Float
  pub positions : List ℕ
  pub starts : List ℕ
  pub lengths : List ℕ

abbrev pub machine_memory : List ℕ → List Float → List ℕ → List ℕ → List ℕ → MachineMemory
machine_memory g r p s l = record { greys = g; rates = r; positions = p; starts = s; lengths = l }

abbrev pub grey_memory : MachineMemory → Memory ℕ
grey_memory L = memory L.greys L.positions L.starts L.lengths

abbrev pub rate_memory : MachineMemory → Memory Float
rate_memory L = memory L.rates L.positions L.starts L.lengths

-- 4,096 cells of each kind, and 4,096 records
pub record MemoryRoom (L : MachineMemory) : Type 0 where
  pub greys : 4096 ≤ length L.greys
  pub rates : 4096 ≤ length L.rates
  pub positions : 4096 ≤ length L.positions
  pub starts : 4096 ≤ length L.starts
  pub lengths : 4096 ≤ length L.lengths

-- the bytes of a row of a state's picture
abbrev pub row_size_of : State → ℕ
row_size_of S = S.width * sample_bytes_of S.sample

-- the bytes that a machine at the rows wants at hand: a row's while there are rows, none for a drain, and one after the last step
unfoldable pub wants_of : State → ℕ
wants_of S = cond (ltb S.step S.rows) (row_size_of S) (cond (ltb S.step (S.rows + plan_ahead S.plan)) 0 1)

-- The first machine means the answer; at the rows it means the rest of it; and at the end nothing is left.
abbrev pub MeansAt : Phase → ℕ → State → MachineMemory → (List ℕ → List ℕ) → Type 0
MeansAt Head wants S L f = MemoryRoom L × (wants ≤ 86) × ((bytes : List ℕ) → f bytes ≡ answer_of bytes)
MeansAt Rows wants S L f =
    (wants ≡ wants_of S) × (((S.sample ≡ 0) × RowsMean grey_rows 0 S (grey_memory L) f) ⊎ ((S.sample ≡ 1) × RowsMean rate_rows 1 S (rate_memory L) f))
MeansAt Over wants S L f = (bytes : List ℕ) → f bytes ≡ []

abbrev pub Means : Machine → MachineMemory → (List ℕ → List ℕ) → Type 0
Means m L f = MeansAt m.phase m.wants m.state L f

-- a machine that means something with that memory
pub record Stands (m : Machine) (L : MachineMemory) : Type 0 where
  pub f : List ℕ → List ℕ
  pub means : Means m L f

abbrev pub is_over : Phase → Bool
is_over Head = false
is_over Rows = false
is_over Over = true

-- The turns that a machine may still take, at most. At the head: more than at the rows of any picture (65,535 rows, a look-ahead of 496), and fewer the more bytes it wants.
abbrev pub left_at : Phase → ℕ → State → ℕ
left_at Head wants S = 66200 - wants
left_at Rows wants S = S.rows + plan_ahead S.plan + 2 - S.step
left_at Over wants S = 0

abbrev pub left_of : Machine → ℕ
left_of m = left_at m.phase m.wants m.state

abbrev pub at_rows_of : State → Machine
at_rows_of S = record { phase = Rows; wants = wants_of S; state = S }

abbrev pub at_end : State → Machine
at_end S = record { phase = Over; wants = 0; state = S }

-- ---- a turn

-- What was to be written, of the bytes at hand and any that come after them, is what the turn puts, and then what the next machine means for the bytes that are left.
-- Where fewer bytes are at hand than the machine wants, the input has ended and none come after them.
pub record Goes (m : Machine) (bytes : List ℕ) (L : MachineMemory) (f : List ℕ → List ℕ) (frame : List ℕ) (r : Turned) : Type 0 where
  pub next : List ℕ → List ℕ
  pub means : Means r.machine L next
  pub same : (rest : List ℕ) → (length bytes < m.wants → rest ≡ []) → f (bytes ++ rest) ≡ take r.put frame ++ next (drop r.used bytes ++ rest)

-- A turn, with the memory before and after it and the frame after it: whatever the machine meant is kept, and it comes nearer to its end.
pub record Turns (m : Machine) (bytes : List ℕ) (L L' : MachineMemory) (frame : List ℕ) (r : Turned) : Type 0 where
  pub used_there : r.used ≤ length bytes
  pub put_there : r.put ≤ length frame
  pub fewer : is_over m.phase ≡ false → left_of r.machine < left_of m
  pub goes : (f : List ℕ → List ℕ) → Means m L f → Goes m bytes L' f frame r

-- ---- what a step's answer comes to

-- a step of the kind of samples that the state has
abbrev pub FramedBoth : State → MachineMemory → List ℕ → MachineMemory → List ℕ → Answer → State → Type 0
FramedBoth S L bytes L' frame answer S' =
    ((S.sample ≡ 0) × Framed grey_rows 0 S (grey_memory L) bytes (grey_memory L') frame answer S')
    ⊎ ((S.sample ≡ 1) × Framed rate_rows 1 S (rate_memory L) bytes (rate_memory L') frame answer S')

-- the end: it is written, and the machine is over
abbrev pub EndsWith : ℕ → State → List ℕ → Turned → Type 0
EndsWith number S frame r = (take 2 frame ≡ ending number) × (r ≡ record { machine = at_end S; used = 0; put = 2 })

-- the row is written, or nothing, and the machine stands at the rows; or it ends
abbrev pub ComesOf : RowSaid → State → State → ℕ → List ℕ → List ℕ → Turned → Type 0
ComesOf (row n c) before next used frame frame' r = (frame' ≡ frame) × (r ≡ record { machine = at_rows_of next; used = used; put = 1 + row_size_of next })
ComesOf (is_not_yet c) before next used frame frame' r = (frame' ≡ frame) × (r ≡ record { machine = at_rows_of next; used = used; put = 0 })
ComesOf (refused n c) before next used frame frame' r = EndsWith n before frame' r
