-- The loop in memory. By which idea: what is written, and then what the machine means for the bytes that are left, is the answer.
use mathlib.Core.Path.{◌≡◌, refl, sym, ap, ◌∙◌}
use mathlib.Core.Bool.{true}
use mathlib.Core.List.{List, [], ◌++◌, append_assoc, append-nil}
use Prim.Native.Nat.{ℕ, ◌+◌, ◌-◌, ◌≤◌}
use native.Mathlib.Omega.{arith}
use borrow.Rule.Slice.PartMut.{put_mid}
use lib.ListN.{length, take, drop, length-append, length-drop, take-append-drop, drop_of_length-le}
use lib.Seq.{take_all, drop-drop, take_at, drop_at, length-take-le}
use Rattle.picture_state.specs.declared.State.{State}
use Rattle.answer.specs.Answer.{answer_of}
use Rattle.turns.specs.declared.Phase.TheVariants.{Head}
use Rattle.turns.specs.declared.Machine.{Machine}
use Rattle.turns.specs.declared.Turned.{Turned}
use Rattle.turns.specs.Inner.{MachineMemory, MemoryRoom, is_over, Means, Stands, Goes, Turns}
use Rattle.turns.proofs.Cut.{over_nothing}
use Rattle.job_loop.specs.Inner.{Fits, Puts}

-- ---- one turn

pub stands : {m : Machine} {L : MachineMemory} {bytes out : List ℕ} → Fits m L bytes out → Stands m L
stands h = record { f = h.f; means = h.means }

module _ {m : Machine} {L L' : MachineMemory} {bytes frame out : List ℕ} {r : Turned} (h : Fits m L bytes out) (t : Turns m bytes L L' frame r) where
  -- what is put is part of what was to be written, so there is room for it
  pub part_fits : r.put ≤ length out
  part_fits =
      let g = t.goes h.f h.means in
      let e = ap length (ap h.f (sym (append-nil bytes)) ∙ g.same [] (λ _. refl)) in
      let x = length-append (take r.put frame) (g.next (drop r.used bytes ++ [])) in
      let p = t.put_there in
      let w = h.fits in
      omega (arith, length-take-le r.put frame p)

  pub same_parts : length (take r.put frame) ≡ length (take r.put out)
  same_parts = length-take-le r.put frame t.put_there ∙ sym (length-take-le r.put out part_fits)

-- ---- the rest of a list

pub rest_whole : {A : Type 0} (l : List A) (at : ℕ) → take (length l - at) (drop at l) ≡ drop at l
rest_whole l at = let e = length-drop at l in take_all (length l - at) (drop at l) (omega arith)

-- the rest of a list, put in its place
pub rest_put : (l ys : List ℕ) (at : ℕ) → at ≤ length l → put_mid at (length l - at) l ys ≡ take at l ++ ys
rest_put l ys at h =
    ap (λ t. take at l ++ (ys ++ t)) (drop-drop (length l - at) at l ∙ drop_of_length-le l {i = at + (length l - at)} (omega arith)) ∙ ap (λ t. take at l ++ t) (append-nil ys)

-- ---- turn after turn

pub record Going (job before out : List ℕ) (L : MachineMemory) (m : Machine) (at done : ℕ) : Type 0 where
  pub f : List ℕ → List ℕ
  pub means : Means m L f
  pub told : answer_of job ≡ take done out ++ f (drop at job)
  pub behind : drop done out ≡ drop done before
  pub inside : at ≤ length job
  pub within : done ≤ length out

pub going_first : (job out : List ℕ) (L : MachineMemory) (m : Machine) (S : State) → MemoryRoom L → m ≡ record { phase = Head; wants = 1; state = S } → Going job out out L m 0 0
going_first job out L m S room e = record { f = answer_of; means = rw e (room, omega arith, λ bytes. refl); told = refl; behind = refl; inside = omega arith; within = omega arith }

module _ {job before out : List ℕ} {L : MachineMemory} {m : Machine} {at done : ℕ} (g : Going job before out L m at done) where
  module _ {bytes rest : List ℕ} (b : bytes ≡ drop at job) (o : rest ≡ drop done out) where
    pub going_fits : length (answer_of job) ≤ length out → Fits m L bytes rest
    going_fits h =
        let e = ap length g.told in
        let w = g.within in
        let x = length-append (take done out) (g.f (drop at job)) in
        let y : length (g.f bytes) ≡ length (g.f (drop at job)) = ap (λ l. length (g.f l)) b in
        record { f = g.f; means = g.means; fits = omega (arith, length-take-le done out w, ap length o, length-drop done out) }

    module _ {L' : MachineMemory} {frame rest' : List ℕ} {r : Turned} (p : Puts m bytes L L' frame rest rest' r) where
      goes : Goes m bytes L' g.f frame r
      goes = p.turns.goes g.f g.means

      -- what was to be written, as the turn puts it
      put : answer_of job ≡ take done out ++ (take r.put frame ++ goes.next (drop (at + r.used) job))
      put =
          g.told
          ∙ ap (λ l. take done out ++ l)
          (ap g.f (sym b ∙ sym (append-nil bytes)) ∙ goes.same [] (λ _. refl)
          ∙ ap (λ l. take r.put frame ++ goes.next l) (append-nil (drop r.used bytes) ∙ ap (drop r.used) b ∙ drop-drop r.used at job))

      pub used_inside : at + r.used ≤ length job
      used_inside =
          let v = g.inside in
          let z = p.turns.used_there in
          omega (arith, ap length b, length-drop at job)

      pub put_within : done + r.put ≤ length out
      put_within =
          let w = g.within in
          let z = p.inside in
          omega (arith, ap length o, length-drop done out)

      pub going_next : {out' : List ℕ} → out' ≡ take done out ++ rest' → Going job before out' L' r.machine (at + r.used) (done + r.put)
      going_next {out'} q =
          let w = g.within in
          let front = take done out ++ take r.put frame in
          let behind = drop (done + r.put) out in
          let n : length front ≡ done + r.put =
          length-append (take done out) (take r.put frame) ∙ omega (arith, length-take-le done out w, length-take-le r.put frame p.turns.put_there) in
          let d : drop r.put rest ≡ behind = ap (drop r.put) o ∙ drop-drop r.put done out in
          let s : out' ≡ front ++ behind =
          q ∙ ap (λ l. take done out ++ l) (p.stands ∙ ap (λ l. take r.put frame ++ l) d) ∙ sym (append_assoc (take done out) (take r.put frame) behind) in
          record {
            f = goes.next;
            means = goes.means;
            told = put ∙ sym (append_assoc (take done out) (take r.put frame) (goes.next (drop (at + r.used) job)))
                ∙ ap (λ l. l ++ goes.next (drop (at + r.used) job)) (sym (ap (take (done + r.put)) s ∙ take_at front behind (done + r.put) n));
            behind = ap (drop (done + r.put)) s ∙ drop_at front behind (done + r.put) n
                ∙ sym (drop-drop r.put done out) ∙ ap (drop r.put) g.behind ∙ drop-drop r.put done before;
            inside = used_inside;
            within = omega (arith, ap length s, length-append front behind);
          }

  pub going_last : is_over m.phase ≡ true → (done ≡ length (answer_of job)) × (out ≡ answer_of job ++ drop done before)
  going_last e =
      let a : answer_of job ≡ take done out = g.told ∙ ap (λ l. take done out ++ l) (over_nothing m.phase m.wants m.state L g.f e g.means (drop at job)) ∙ append-nil (take done out) in
      (sym (ap length a ∙ length-take-le done out g.within), sym (take-append-drop done out) ∙ ap (λ l. take done out ++ l) g.behind ∙ ap (λ l. l ++ drop done before) (sym a))
