-- The count is there and accepted, or one byte is wanted; the stages are, or the head is not yet.
use mathlib.Core.Path.{◌≡◌, sym, ap, ◌∙◌}
use Prim.Native.Nat.{ℕ, ◌+◌, ◌≤◌}
use native.Mathlib.Omega.{arith}
use borrow.Author.Tests.{ltb-true, ltb-false}
use lib.ListN.{length, get_or}
use Rattle.std.proofs.lemmas.List.{get_or_read}
use Rattle.morph.proofs.Exits.{refused_some}
use Rattle.plan_record.specs.Plan.{count_number}
use Rattle.plan_record.proofs.Named.{counted}
use Rattle.job_read.specs.Layout.{head_begins}
use Rattle.job_read.proofs.Sections.{section_number}
use Rattle.turn_head.proofs.Opens.{wants_count, wants_refused, wants_stages, wants_head}
use Rattle.turn_head.proofs.head_wants.Goals as goal
use Rattle.turn_head.proofs.head_wants.Goals.{After-from-count, In-Ok}

there_at : (c : After-from-count) → 1 ≤ length c.args.bytes.now
there_at c = let l = ltb-true 0 (length c.args.bytes.now) (sym c.in-Some.ensures.item.0) in omega arith

same_at : (c : After-from-count) → c.from-count.result ≡ get_or c.args.bytes.now 0 0
same_at c = c.from-count.ensures ∙ get_or_read c.args.bytes.now 0 _ (there_at c) c.in-Some.ensures.item.1 0

few_at : (c : In-Ok) → count_number c.from-count.result ≡ 0
few_at c = sym c.in-Ok.ensures

most_at : (c : In-Ok) → c.from-count.result ≤ 16
most_at c = (counted c.from-count.result (few_at c)).1

pub returns-in_default : goal.returns-in_default
returns-in_default c =
    let l = ltb-false 0 (length c.args.bytes.now) (sym c.in_default.ensures.item.0) in
    (wants_count c.args.bytes.now (omega arith), omega arith)

pub returns-in_default-judge_count : goal.returns-in_default-judge_count
returns-in_default-judge_count c =
    let at = (goal.at.returns-in_default-judge_count c).After-from-count in
    let n = c.in_default-judge_count.ensures ∙ ap count_number (same_at at) in
    (wants_refused c.args.bytes.now (there_at at) (λ z. refused_some c.in_default-judge_count.field-0 (n ∙ z)), omega arith)

pub overflow_mul-end : goal.overflow_mul-end
overflow_mul-end c = omega (arith, most_at (goal.at.overflow_mul-end c).In-Ok)

pub overflow_add-end : goal.overflow_add-end
overflow_add-end c = omega (arith, most_at (goal.at.overflow_add-end c).In-Ok)

pub returns-then-plan_section-ne0 : goal.returns-then-plan_section-ne0
returns-then-plan_section-ne0 c =
    let bytes = c.args.bytes.now in
    let at = (goal.at.returns-then-plan_section-ne0 c).After-from-count in
    let ok = (goal.at.returns-then-plan_section-ne0 c).In-Ok in
    let s = section_number bytes c.plan_section.ensures in
    (ap head_begins (same_at at) ∙ wants_stages bytes (there_at at) (ap count_number (sym (same_at at)) ∙ few_at ok) (λ z. c.if-plan_section-ne0.true (s ∙ z)), omega (arith, most_at ok))

pub overflow_add-result : goal.overflow_add-result
overflow_add-result c = omega (arith, most_at (goal.at.overflow_add-result c).In-Ok)

pub returns : goal.returns
returns c =
    let bytes = c.args.bytes.now in
    let s = section_number bytes c.plan_section.ensures in
    (ap (λ (n : ℕ). head_begins n + 5) (same_at (goal.at.returns c).After-from-count) ∙ wants_head bytes (sym s ∙ c.if-plan_section-ne0.false), omega (arith, most_at (goal.at.returns c).In-Ok))
