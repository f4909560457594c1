-- Bytes are moved to the front.
use Rattle.std.proofs.Common.{◌≡◌, refl, sym, ap, ◌∙◌, ℕ, ◌+◌, ◌-◌, ◌≤◌, List, length, take, drop, arith, length-drop}
use Rattle.std.proofs.lemmas.List.Edits.{take-paste}
use lib.Seq.{take-add, drop_at, length-take-le, paste}
use Rattle.program.proofs.keep.Goals as goal

moved_front : (l : List ℕ) (used have : ℕ) → used ≤ have → have ≤ length l → take (have - used) (paste l 0 (drop used l) (have - used)) ≡ drop used (take have l)
moved_front l used have h k =
    let e : have ≡ used + (have - used) = omega arith in
    let z : have - used ≡ 0 + (have - used) = omega arith in
    ap (λ n. take n (paste l 0 (drop used l) (have - used))) z ∙ take-paste l 0 (drop used l) (have - used) (omega arith) (omega (arith, length-drop used l))
    ∙ sym (ap (λ n. drop used (take n l)) e ∙ ap (drop used) (take-add used (have - used) l) ∙ drop_at (take used l) (take (have - used) (drop used l)) used (length-take-le used l (omega arith)))

pub returns : goal.returns
returns c = (refl, ap (take _) c.copy_within.ensures.after ∙ moved_front _ _ _ c.requires.0 c.requires.1)
