-- The two turns that do not begin: one that waits means the answer as before, and a refused head is settled, by its own bytes or because no more come.
use mathlib.Core.Path.{◌≡◌, refl, sym, ap, ◌∙◌, subst}
use mathlib.Core.Logic.{◌⊎◌, ⊎_elim}
use mathlib.Core.List.{List, [], ◌∷◌, ◌++◌, append-nil}
use Prim.Native.Nat.{ℕ, ◌≤◌, ◌<◌}
use native.Mathlib.Omega.{arith}
use lib.ListN.{length, take, length-take}
use Rattle.picture_state.specs.declared.State.{State}
use Rattle.picture_start.specs.Start.{state_of_none}
use Rattle.answer.specs.Answer.{opening_number}
use Rattle.answer.specs.Inner.{head_wants_of}
use Rattle.answer.proofs.Opening.{head_settled, answer_refused}
use Rattle.turns.specs.declared.Phase.TheVariants.{Head}
use Rattle.turns.specs.declared.Machine.{Machine}
use Rattle.turns.specs.declared.Turned.{Turned}
use Rattle.turns.specs.Inner.{machine_memory, Means, left_of, EndsWith}
use Rattle.turn_head.specs.Inner.{HeadTurns}

-- ---- the turns

module _ (m : Machine) (bytes starts lengths frame : List ℕ) (few : m.wants ≤ 86) where
  pub waits : (wanted : ℕ) (next : Machine) → next ≡ record { phase = Head; wants = wanted; state = state_of_none } → m.wants < wanted → wanted ≤ 86
      → HeadTurns m bytes starts lengths starts lengths frame (record { machine = next; used = 0; put = 0 })
  waits wanted next e more most =
      let left = ap left_of e in
      record {
        used_there = omega arith;
        put_there = omega arith;
        fewer = omega arith;
        goes = λ greys rates positions f (room, _, means). record {
          next = f;
          means = subst (λ (m : Machine). Means m (machine_memory greys rates positions starts lengths) f) (sym e) (room, most, means);
          same = λ rest _. refl;
        };
      }

  -- nothing that comes after changes the number
  module _ (stands : length bytes < m.wants ⊎ head_wants_of bytes ≤ length bytes) where
    settled : (rest : List ℕ) → (length bytes < m.wants → rest ≡ []) → opening_number (bytes ++ rest) ≡ opening_number bytes
    settled rest none = ⊎_elim (λ l. ap (λ r. opening_number (bytes ++ r)) (none l) ∙ ap opening_number (append-nil bytes)) (λ w. head_settled bytes rest w) stands

    pub refuses : {number : ℕ} (S : State) (r : Turned) → number ≡ opening_number bytes → (number ≡ 0 → ⊥) → EndsWith number S frame r → HeadTurns m bytes starts lengths starts lengths frame r
    refuses {number} S r e h (put, turned) =
        let n : opening_number bytes ≡ 0 → ⊥ = λ z. h (e ∙ z) in
        let l : length (take 2 frame) ≡ 2 = ap length put in
        let k = length-take 2 frame in
        subst (λ (r : Turned). HeadTurns m bytes starts lengths starts lengths frame r) (sym turned)
        record {
          used_there = omega arith;
          put_there = omega arith;
          fewer = omega arith;
          goes = λ greys rates positions f (_, _, means). record {
            next = λ _. [];
            means = λ _. refl;
            same = λ rest none.
                means (bytes ++ rest) ∙ answer_refused bytes rest (settled rest none) n ∙ ap (λ (n : ℕ). 0 ∷ n ∷ []) (sym e) ∙ sym put ∙ sym (append-nil (take 2 frame));
          };
        }
