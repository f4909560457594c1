-- The program's loop. By which idea: for every byte string that may still come, the answer to all that came is what was given, and then what the machine means for what is
-- at hand and still to come. Once a read was short, nothing is still to come.
use mathlib.Core.Path.{◌≡◌, refl, sym, ap, ◌∙◌}
use mathlib.Core.Bool.{true, false, true≢false}
use mathlib.Core.Logic.{⊎_elim}
use mathlib.Core.List.{List, [], ◌++◌, append_assoc, append-nil}
use Prim.Native.Nat.{ℕ, zero, suc, ◌+◌, ◌-◌, ◌*◌, ◌≤◌, ◌<◌}
use native.Mathlib.Nat.{mul-le-mul_right}
use native.Mathlib.Omega.{arith}
use lib.Dec.{ltb}
use lib.ListN.{length, take, drop, length-append, length-drop, take-append-drop}
use lib.Seq.{length-take-le, take-add, take_at, drop_at}
use Rattle.std.proofs.Common.{Ok, Err, IsErrAnd}
use Rattle.std.specs.declared.result.Result.{Result}
use Rattle.morph.proofs.Lists.{split}
use Rattle.plan_record.specs.Plan.{plan_ahead}
use Rattle.picture_state.specs.declared.State.{State}
use Rattle.picture_start.specs.Start.{state_of_none}
use Rattle.picture_state.proofs.Step.{judged_fit}
use Rattle.job_read.specs.Layout.{sample_bytes_of}
use Rattle.answer.specs.Answer.{answer_of}
use Rattle.turns.specs.declared.Phase.{Phase}
use Rattle.turns.specs.declared.Phase.TheVariants.{Head, Rows, Over}
use Rattle.turns.specs.declared.Machine.{Machine}
use Rattle.turns.specs.declared.Turned.{Turned}
use Rattle.turns.specs.Inner.{MachineMemory, grey_memory, rate_memory, MemoryRoom, wants_of, MeansAt, Means, Stands, is_over, left_of, Turns}
use Rattle.turns.proofs.Cut.{over_nothing}
use Rattle.turns.proofs.Phases.{row_few}
use Rattle.program.specs.declared.Hand.{Hand}
use Rattle.ports.specs.declared.Moved.{Moved}
use Rattle.ports.specs.declared.Loss.{Loss}
use Rattle.program.specs.Ran.{ProgramRan}
use Rattle.ports.specs.Ports.{Latest, Due}
use Rattle.program.specs.Inner.{Settled, Fetched}

-- ---- what is wanted

sample_small : (n : ℕ) → sample_bytes_of n ≤ 4
sample_small zero = omega arith
sample_small (suc n) = omega arith

rows_want : (S : State) → S.width ≤ 4096 → wants_of S ≤ 16384
unfolding wants_of
rows_want S h =
    split (ltb S.step S.rows) (λ e. rw e (row_few S.width (sample_bytes_of S.sample) h (sample_small S.sample)))
    (λ e. split (ltb S.step (S.rows + plan_ahead S.plan)) (λ k. rw (e, k) (omega arith)) (λ k. rw (e, k) (omega arith)))

wants_at : (p : Phase) (wants : ℕ) (S : State) (L : MachineMemory) (f : List ℕ → List ℕ) → is_over p ≡ false → MeansAt p wants S L f → wants ≤ 16384
wants_at Head wants S L f o m = let h = m.1 in omega arith
wants_at Rows wants S L f o m =
    let w : S.width ≤ 4096 = ⊎_elim (λ g. (judged_fit 0 S (grey_memory L) g.1.judged).run.narrow) (λ g. (judged_fit 1 S (rate_memory L) g.1.judged).run.narrow) m.1 in
    let h = rows_want S w in
    let e = m.0 in
    omega arith
wants_at Over wants S L f o m = absurd (true≢false o)

-- a machine that is on wants no more than the buffer holds
pub wants_few : {m : Machine} {L : MachineMemory} → Stands m L → is_over m.phase ≡ false → m.wants ≤ 16384
wants_few {m} {L} s o = wants_at m.phase m.wants m.state L s.f o s.means

-- ---- what is lost

-- a loss lies within what was moved: as many bytes read, the same end, and no more bytes taken than were given
pub record Within (l : Loss) (m : Moved) : Type 0 where
  pub read : l.moved.read ≡ m.read
  pub ended : l.moved.ended ≡ m.ended
  pub few : l.moved.given + l.taken ≤ m.given

-- ---- the counts

-- a turn moves no more than a buffer's bytes, and one turn less is left
fewer_left : (moved more left next size most : ℕ) → moved + left * size ≤ most → more ≤ size → next < left → moved + more + next * size ≤ most
fewer_left moved more left next size most h k l =
    let e = mul-le-mul_right size l in
    let d : suc next * size ≡ size + next * size = omega arith in
    omega arith

-- ---- the run

-- with the bytes that are at hand, and what was moved
pub record Runs (hand : List ℕ) (L : MachineMemory) (m : Machine) (moved : Moved) : Type 0 where
  pub came : List ℕ
  pub earlier : List ℕ
  pub last : came ≡ earlier ++ hand
  pub out : List ℕ
  pub f : List ℕ → List ℕ
  pub means : Means m L f
  pub read : moved.read ≡ length came
  pub given : moved.given ≡ length out
  pub told : (rest : List ℕ) → (moved.ended ≡ true → rest ≡ []) → answer_of (came ++ rest) ≡ out ++ f (hand ++ rest)

runs_first : (L : MachineMemory) (m : Machine) (moved : Moved) → MemoryRoom L → m ≡ record { phase = Head; wants = 1; state = state_of_none } → moved ≡ record { read = 0; ended = false; given = 0 } → Runs [] L m moved
runs_first L m moved room e q = record {
  came = [];
  earlier = [];
  last = refl;
  out = [];
  f = answer_of;
  means = rw e (room, omega arith, λ bytes. refl);
  read = ap (λ m. m.read) q;
  given = ap (λ m. m.given) q;
  told = λ rest h. refl;
}

module _ {hand : List ℕ} {L : MachineMemory} {m : Machine} {moved : Moved} (r : Runs hand L m moved) where
  pub runs_stands : Stands m L
  runs_stands = record { f = r.f; means = r.means }

  -- more bytes came, and perhaps the input ended
  runs_more : (more : List ℕ) {moved' : Moved} → moved.ended ≡ false → moved'.read ≡ moved.read + length more → moved'.given ≡ moved.given → Runs (hand ++ more) L m moved'
  runs_more more e n g = record {
    came = r.came ++ more;
    earlier = r.earlier;
    last = ap (λ l. l ++ more) r.last ∙ append_assoc r.earlier hand more;
    out = r.out;
    f = r.f;
    means = r.means;
    read = n ∙ (let c = r.read in sym (length-append r.came more ∙ cc));
    given = g ∙ r.given;
    told = λ rest h.
        ap answer_of (append_assoc r.came more rest) ∙ r.told (more ++ rest) (λ t. absurd (true≢false (sym t ∙ e))) ∙ ap (λ l. r.out ++ r.f l) (sym (append_assoc hand more rest));
  }

  -- what a turn puts is due
  pub runs_due : {L' : MachineMemory} (frame : List ℕ) {t : Turned} → Turns m hand L L' frame t → (length hand < m.wants → moved.ended ≡ true) → Due moved hand frame t.put
  runs_due {L'} frame {t} h short =
      let g = h.goes r.f r.means in
      let p = length-take-le t.put frame h.put_there in
      record {
        earlier = r.earlier;
        read = r.read ∙ ap length r.last ∙ length-append r.earlier hand;
        next = λ rest q.
            let after = g.next (drop t.used hand ++ rest) in
            sym (ap (λ l. take t.put (drop moved.given (answer_of l))) (ap (λ l. l ++ rest) (sym r.last))
            ∙ ap (λ l. take t.put (drop moved.given l)) (r.told rest q ∙ ap (λ l. r.out ++ l) (g.same rest (λ s. q (short s))))
            ∙ ap (take t.put) (drop_at r.out (take t.put frame ++ after) moved.given (sym r.given))
            ∙ take_at (take t.put frame) after t.put p);
      }

  -- a turn was taken, and its bytes were given
  runs_turn : {L' : MachineMemory} {frame : List ℕ} {t : Turned} {moved' : Moved} → Turns m hand L L' frame t → (length hand < m.wants → moved.ended ≡ true)
      → moved' ≡ record { read = moved.read; ended = moved.ended; given = moved.given + t.put } → Runs (drop t.used hand) L' t.machine moved'
  runs_turn {L'} {frame} {t} {moved'} h short n =
      let g = h.goes r.f r.means in
      let p = length-take-le t.put frame h.put_there in
      let c = r.given in
      record {
        came = r.came;
        earlier = r.earlier ++ take t.used hand;
        last = r.last ∙ ap (λ l. r.earlier ++ l) (sym (take-append-drop t.used hand)) ∙ sym (append_assoc r.earlier (take t.used hand) (drop t.used hand));
        out = r.out ++ take t.put frame;
        f = g.next;
        means = g.means;
        read = ap (λ m. m.read) n ∙ r.read;
        given = ap (λ m. m.given) n ∙ sym (length-append r.out (take t.put frame) ∙ cc);
        told = λ rest q.
            let e : moved.ended ≡ true → rest ≡ [] = λ s. q (ap (λ m. m.ended) n ∙ s) in
            r.told rest e ∙ ap (λ l. r.out ++ l) (g.same rest (λ s. e (short s))) ∙ sym (append_assoc r.out (take t.put frame) (g.next (drop t.used hand ++ rest)));
      }

  -- a read or a write failed: what was taken is no more than a beginning of the answer
  pub runs_lost : (total : ℕ) {l : Loss} → Within l moved → ProgramRan (Err l) × Settled (Err l) total
  runs_lost total {l} e =
      let c = r.given in
      let k = e.few in (
        record {
          came = r.came;
          read = e.read ∙ r.read;
          gave = λ rest s.
              let n = ap length (r.told rest (λ t. s (e.ended ∙ t))) ∙ length-append r.out (r.f (hand ++ rest)) in
              omega arith;
        },
        tt,
      )

  -- at the end what was given is the answer
  pub runs_last : is_over m.phase ≡ true → ProgramRan (Ok moved)
  runs_last e = record {
    came = r.came;
    read = r.read;
    gave = λ rest s.
        r.given ∙ sym (ap length (r.told rest s ∙ ap (λ l. r.out ++ l) (over_nothing m.phase m.wants m.state L r.f e r.means (hand ++ rest)) ∙ append-nil r.out));
  }

-- what is told of a loss, of the answer that hands it on
pub told_lost : (r : Result Moved Loss) {l : Loss} (total : ℕ) → IsErrAnd r (λ e. e ≡ l) → ProgramRan (Err l) × Settled (Err l) total → ProgramRan r × Settled r total
told_lost (Ok m) total h p = absurd h
told_lost (Err e) total h p = rw h p

-- what a write that failed leaves
given_lost : (before : Moved) {l : Loss} (put : ℕ) → (l.moved ≡ before) × (l.taken < put) → Within l (record { read = before.read; ended = before.ended; given = before.given + put })
given_lost before {l} put e =
    let g = ap (λ m. m.given) e.0 in
    let k = e.1 in
    record { read = ap (λ m. m.read) e.0; ended = ap (λ m. m.ended) e.0; few = omega arith }

-- the same of a read
fetched_lost : (hand : Hand) {l : Loss} → (l.moved ≡ hand.moved) × (l.taken ≡ 0) → Within l hand.moved
fetched_lost hand {l} e =
    let g = ap (λ m. m.given) e.0 in
    let k = e.1 in
    record { read = ap (λ m. m.read) e.0; ended = ap (λ m. m.ended) e.0; few = omega arith }

-- ---- the bytes at hand in their buffer

-- The run goes on, with so many bytes at hand at the front of the buffer. What was moved stays countable: a turn moves no more than a buffer, and there are no more than 66,200.
pub record Going (bytes : List ℕ) (hand : Hand) (total : ℕ) (L : MachineMemory) (m : Machine) : Type 0 where
  pub all : total ≡ hand.moved.read + hand.moved.given
  pub runs : Runs (take hand.have bytes) L m hand.moved
  pub there : hand.have ≤ length bytes
  pub read_few : hand.moved.read + left_of m * 16384 ≤ 66200 * 16384
  pub given_few : hand.moved.given + left_of m * 16385 ≤ 66200 * 16385

pub going_first : (bytes : List ℕ) (total : ℕ) (L : MachineMemory) (m : Machine) (moved : Moved) → total ≡ 0 → MemoryRoom L → m ≡ record { phase = Head; wants = 1; state = state_of_none } → moved ≡ record { read = 0; ended = false; given = 0 }
    → Going bytes (record { moved = moved; have = 0 }) total L m
going_first bytes total L m moved none room e q =
    let a = ap (λ m. m.read) q in
    let b = ap (λ m. m.given) q in
    let l : left_of m ≡ 66199 = ap left_of e in
    record { all = omega arith; runs = runs_first L m moved room e q; there = omega arith; read_few = rw l (omega arith); given_few = rw l (omega arith) }

-- a read failed
pub going_lost : {bytes : List ℕ} {hand : Hand} {total : ℕ} {L : MachineMemory} {m : Machine} → Going bytes hand total L m → (total' : ℕ) {l : Loss} → (l.moved ≡ hand.moved) × (l.taken ≡ 0)
    → ProgramRan (Err l) × Settled (Err l) total'
going_lost {bytes} {hand} g total' e = runs_lost g.runs total' (fetched_lost hand e)

-- the counts that are at hand are the latest
pub going_latest : {bytes : List ℕ} {hand : Hand} {total : ℕ} {L : MachineMemory} {m : Machine} → Going bytes hand total L m → Latest hand.moved total
going_latest g = let r = g.read_few in let w = g.given_few in record { all = g.all; read_few = omega arith; given_few = omega arith }

module _ {bytes bytes' : List ℕ} {hand next : Hand} {wants total total' : ℕ} {L : MachineMemory} {m : Machine} (g : Going bytes hand total L m) (f : Fetched bytes bytes' hand wants total' next) where
  -- bytes were fetched
  pub runs_fetch : Runs (take next.have bytes') L m next.moved
  runs_fetch =
      split hand.moved.ended (λ e. rw ((f.after e).0, (f.after e).1, f.held) g.runs)
      (λ e.
      let k = next.have - hand.have in
      let a = f.more in
      let b = f.there in
      let c = f.read in
      let n : next.have ≡ hand.have + k = omega arith in
      let more = take k (drop hand.have bytes') in
      let l : length more ≡ k = length-take-le k (drop hand.have bytes') (omega (arith, length-drop hand.have bytes')) in
      let j : take next.have bytes' ≡ take hand.have bytes ++ more =
      ap (λ (i : ℕ). take i bytes') n ∙ take-add hand.have k bytes' ∙ ap (λ (l : List ℕ). l ++ more) f.held in
      rw j (runs_more g.runs more e (omega arith) f.given))

  pub hand_long : length (take next.have bytes') ≡ next.have
  hand_long = length-take-le next.have bytes' f.there

  pub fetched_latest : length bytes' ≡ 16384 → Latest next.moved total'
  fetched_latest size =
      let a = f.there in
      let b = f.read in
      let c = f.given in
      let d = g.read_few in
      let e = g.given_few in
      record { all = f.all; read_few = omega arith; given_few = omega arith }

  module _ {L' : MachineMemory} {frame : List ℕ} {r : Turned} (on : is_over m.phase ≡ false) (t : Turns m (take next.have bytes') L L' frame r) where
    pub used_few : r.used ≤ next.have
    used_few = let h = t.used_there in let e = hand_long in omega arith

    -- what the turn puts is due
    pub turned_due : (next.have < m.wants → next.moved.ended ≡ true) → Due next.moved (take next.have bytes') frame r.put
    turned_due short = let n = hand_long in runs_due runs_fetch frame t (λ (s : length (take next.have bytes') < m.wants). short (omega arith))

    -- the write of what the turn puts failed
    pub turned_lost : (next.have < m.wants → next.moved.ended ≡ true) → (total'' : ℕ) {l : Loss} → (l.moved ≡ next.moved) × (l.taken < r.put) → ProgramRan (Err l) × Settled (Err l) total''
    turned_lost short total'' e =
        let n = hand_long in
        runs_lost (runs_turn runs_fetch t (λ (s : length (take next.have bytes') < m.wants). short (omega arith)) refl) total'' (given_lost next.moved r.put e)

    -- as many bytes were fetched as are wanted, or all there are; a turn was taken, its bytes were given, and the bytes that it left are kept
    pub going_next : {bytes'' : List ℕ} {moved : Moved} {total'' left : ℕ} → (next.have < m.wants → next.moved.ended ≡ true) → length bytes' ≡ 16384 → length frame ≡ 16385 → length bytes'' ≡ length bytes'
        → (moved ≡ record { read = next.moved.read; ended = next.moved.ended; given = next.moved.given + r.put }) × (total'' ≡ moved.read + moved.given) → (left ≡ next.have - r.used) × (take left bytes'' ≡ drop r.used (take next.have bytes'))
        → Going bytes'' (record { moved = moved; have = left }) total'' L' r.machine
    going_next {bytes''} {moved} {total''} {left} short size framed long w k =
        let a = f.there in
        let b = f.read in
        let c = f.given in
        let d = g.read_few in
        let e = g.given_few in
        let h = t.fewer on in
        let p = t.put_there in
        let n = hand_long in
        let v = ap (λ m. m.read) w.0 in
        let x = ap (λ m. m.given) w.0 in
        let y = k.0 in
        let read = fewer_left hand.moved.read (next.have - hand.have) (left_of m) (left_of r.machine) 16384 (66200 * 16384) d (omega arith) h in
        let given = fewer_left hand.moved.given r.put (left_of m) (left_of r.machine) 16385 (66200 * 16385) e (omega arith) h in
        let z = f.more in
        record {
          all = w.1;
          runs = rw k.1 (runs_turn runs_fetch t (λ (s : length (take next.have bytes') < m.wants). short (omega arith)) w.0);
          there = omega arith;
          read_few = omega arith;
          given_few = omega arith;
        }
