-- Each way out by its law.
use mathlib.Core.Path.{refl, sym, subst, ◌∙◌}
use native.Mathlib.Omega.{arith}
use Rattle.residue.specs.Residue.{Answered}
use Rattle.worn.specs.Inner.{Awaits}
use Rattle.worn.proofs.Answers.{room_there, pair_broken, pair_yes, pair_late, pair_closed, pair_input, pair_read, pair_sixteen}
use Rattle.worn.proofs.next.Goals as goal
use Rattle.worn.proofs.next.Goals.{Else-question, then-closed-question-via-then-closed-question, then-closed-question-via-else-closed-question+then-input-question}

-- the question breaks no rule and waits for a row, where there is one
awaits : (c : Else-question) → Awaits c.args.question
awaits c = record { unbroken = (sym c.is_broken.ensures ∙ c.if-is_broken.false); unsaid = sym c.is_over.ensures ∙ c.if-is_over.false; rest = c.if-question.false }

pub returns-then-is_broken : goal.returns-then-is_broken
returns-then-is_broken c = pair_broken _ _ _ (sym c.is_broken.ensures ∙ c.if-is_broken.true) refl

pub returns-then-is_over : goal.returns-then-is_over
returns-then-is_over c = pair_yes _ _ _ (sym c.is_broken.ensures ∙ c.if-is_broken.false) (sym c.is_over.ensures ∙ c.if-is_over.true) refl

pub returns-then-question : goal.returns-then-question
returns-then-question c = pair_late _ _ _ (sym c.is_broken.ensures ∙ c.if-is_broken.false) (sym c.is_over.ensures ∙ c.if-is_over.false) c.if-question.true refl

pub returns-then-closed-question : goal.returns-then-closed-question
returns-then-closed-question c =
    let w = awaits (goal.at.returns-then-closed-question c).Else-question in
    elim c.then-closed-question.branch [
      | then-closed-question-via-then-closed-question v ↦ pair_closed _ _ _ w v.if-closed-question.true refl
      | then-closed-question-via-else-closed-question+then-input-question v ↦ pair_input _ _ _ w v.if-closed-question.false v.if-input-question.true refl
    ]

pub with_row-requires : goal.with_row-requires
with_row-requires c =
    room_there _ _ _ (awaits (goal.at.with_row-requires c).Else-question) c.if-closed-question.false c.if-input-question.false (λ x. omega (arith, c.type_inv.closed x))
    (subst (Answered _ _ _ _ _ _ _ _) c.in-Sum.is c.dark.ensures)

pub returns-in-Sum : goal.returns-in-Sum
returns-in-Sum c =
    pair_read _ _ _ (awaits (goal.at.returns-in-Sum c).Else-question) c.if-closed-question.false c.if-input-question.false
    (subst (Answered _ _ _ _ _ _ _ _) c.in-Sum.is c.dark.ensures) (rw c.with_row.ensures refl)

pub returns-in-Refused : goal.returns-in-Refused
returns-in-Refused c =
    pair_sixteen _ _ _ (awaits (goal.at.returns-in-Refused c).Else-question) c.if-closed-question.false c.if-input-question.false
    (subst (Answered _ _ _ _ _ _ _ _) c.in-Refused.is c.dark.ensures) refl
