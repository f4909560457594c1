-- However a job's bytes are cut into groups, the turns put its answer. By which idea: each turn keeps what the machine means, and at the end nothing is left.
use mathlib.Core.Path.{◌≡◌, refl, sym, ap, ◌∙◌}
use mathlib.Core.Bool.{true, true≢false}
use mathlib.Core.List.{List, [], ◌++◌}
use Prim.Native.Nat.{ℕ, ◌≤◌}
use lib.ListN.{take}
use Rattle.answer.specs.Answer.{answer_of}
use Rattle.picture_state.specs.declared.State.{State}
use Rattle.turns.specs.declared.Phase.{Phase}
use Rattle.turns.specs.declared.Phase.TheVariants.{Head, Rows, Over}
use Rattle.turns.specs.declared.Machine.{Machine}
use Rattle.turns.specs.Inner.{MachineMemory, MemoryRoom, is_over, MeansAt, Means}
use Rattle.turns.specs.Cut.{Cut, none, turned}

-- a machine that is over has nothing left to write
pub over_nothing : (p : Phase) (wants : ℕ) (S : State) (L : MachineMemory) (f : List ℕ → List ℕ) → is_over p ≡ true → MeansAt p wants S L f → (bytes : List ℕ) → f bytes ≡ []
over_nothing Head wants S L f e h bytes = absurd (true≢false (sym e))
over_nothing Rows wants S L f e h bytes = absurd (true≢false (sym e))
over_nothing Over wants S L f e h bytes = h bytes

-- what the turns put is what the machine meant
pub cut_means : {m : Machine} {L : MachineMemory} {bytes out : List ℕ} (f : List ℕ → List ℕ) → Cut m L bytes out → Means m L f → out ≡ f bytes
cut_means {m} {L} {bytes} f (none e) h = sym (over_nothing m.phase m.wants m.state L f e h bytes)
cut_means f (turned hand later L' frame r short t c) h =
    let g = t.goes f h in
    let i = cut_means g.next c g.means in
    ap (λ l. take r.put frame ++ l) i ∙ sym (g.same later short)

-- a machine at the head means the answer, on room enough
module _ (m : Machine) (L : MachineMemory) (head : m.phase ≡ Head) (few : m.wants ≤ 86) (room : MemoryRoom L) where
  first_means : Means m L answer_of
  first_means = rw head (room, few, λ bytes. refl)

  pub cut_answer : {bytes out : List ℕ} → Cut m L bytes out → out ≡ answer_of bytes
  cut_answer c = cut_means answer_of c first_means

  -- two ways of cutting the same bytes into groups put the same bytes
  pub cut_same : {bytes out out' : List ℕ} → Cut m L bytes out → Cut m L bytes out' → out ≡ out'
  cut_same c d = cut_answer c ∙ sym (cut_answer d)
