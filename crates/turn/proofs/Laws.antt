-- The turns at the head and at the end, as turns of any machine that stands there.
use mathlib.Core.Path.{◌≡◌, refl, sym, ap, ◌∙◌, subst}
use mathlib.Core.Bool.{true≢false}
use mathlib.Core.List.{List}
use Prim.Native.Nat.{ℕ, ◌≤◌}
use native.Mathlib.Omega.{arith}
use lib.Ieee.{Float}
use Rattle.turns.specs.declared.Phase.TheVariants.{Head, Over}
use Rattle.turns.specs.declared.Machine.{Machine}
use Rattle.turns.specs.declared.Turned.{Turned}
use Rattle.turns.specs.Inner.{MachineMemory, machine_memory, MemoryRoom, MeansAt, Stands, is_over, left_at, Turns}
use Rattle.turn_head.specs.Inner.{HeadTurns}

-- ---- at the head

pub head_stands : (m : Machine) (L : MachineMemory) → m.phase ≡ Head → Stands m L → MemoryRoom L × (m.wants ≤ 86)
head_stands m L e s =
    let (room, few, _) : MeansAt Head m.wants m.state L s.f = subst (λ p. MeansAt p m.wants m.state L s.f) e s.means in
    (room, few)

pub head_turns : (m : Machine) (bytes greys : List ℕ) (rates : List Float) (positions starts lengths starts' lengths' frame : List ℕ) (r : Turned) → m.phase ≡ Head
    → HeadTurns m bytes starts lengths starts' lengths' frame r → Turns m bytes (machine_memory greys rates positions starts lengths) (machine_memory greys rates positions starts' lengths') frame r
head_turns m bytes greys rates positions starts lengths starts' lengths' frame r e h = record {
  used_there = h.used_there;
  put_there = h.put_there;
  fewer = λ _. rw (ap (λ p. left_at p m.wants m.state) e) h.fewer;
  goes = λ f k. h.goes greys rates positions f (subst (λ p. MeansAt p m.wants m.state (machine_memory greys rates positions starts lengths) f) e k);
}

-- ---- at the end

pub over_turns : (m : Machine) (bytes : List ℕ) (L : MachineMemory) (frame : List ℕ) (r : Turned) → m.phase ≡ Over → r ≡ record { machine = m; used = 0; put = 0 } → Turns m bytes L L frame r
over_turns m bytes L frame r e q =
    subst (λ r. Turns m bytes L L frame r) (sym q)
    (record {
      used_there = omega arith;
      put_there = omega arith;
      fewer = λ o. absurd (true≢false (sym (ap is_over e) ∙ o));
      goes = λ f k. record {
        next = f;
        means = k;
        same = λ rest _. refl;
      };
    })
