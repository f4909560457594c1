-- The plan so far is that of the orders so far.
use Rattle.std.proofs.Common.{◌≡◌, sym, ap, ◌∙◌, ℕ, ◌+◌, ◌-◌, ◌*◌, ◌≤◌, ne_eqb, le-ltb, arith}
use Rattle.plan_record.specs.declared.Plan.{Plan}
use Rattle.plan_record.specs.Plan.{plan_of, sequence_stages, alternating_stages}
use Rattle.plan_record.specs.Inner.{added_all}
use Rattle.plan_record.proofs.Laws.{reading_accepted, sequence_more}
use Rattle.plan_named.proofs.sequences.Goals as goal

pub loop-extent-init : goal.loop-extent-init
unfolding alternating_stages
loop-extent-init c = (c.empty-plan.ensures.0, c.empty-plan.ensures.1)

more : (p r : Plan) (n k : ℕ) → n + 1 ≡ k → k ≤ 4 → r ≡ added_all p (sequence_stages k) → p ≡ plan_of (alternating_stages n) → (r ≡ plan_of (alternating_stages k)) × (r.count ≡ 4 * k)
more p r n k e h f g =
    let q = sequence_more n (omega arith) (f ∙ ap (λ (m : ℕ). added_all p (sequence_stages m)) (sym e)) g in
    (q.0 ∙ ap (λ (m : ℕ). plan_of (alternating_stages m)) e, q.1 ∙ ap (λ (m : ℕ). 4 * m) e)

pub loop-extent-preserved : goal.loop-extent-preserved
loop-extent-preserved c =
    let k = c.loop-extent.extent in
    let q = more c.loop-extent.plan c.add_sequence-plan.result (k - 1) k (omega arith) (omega arith) c.add_sequence-plan.ensures c.loop-extent.invariant.0 in
    (q.0 ∙ ap (λ (m : ℕ). plan_of (alternating_stages m)) (omega arith), omega arith)

pub returns-else-order-gt4-2 : goal.returns-else-order-gt4-2
returns-else-order-gt4-2 c =
    let k = c.loop-extent.extent in
    let q = more c.loop-extent.plan c.add_sequence-plan.result (k - 1) k (omega arith) (omega arith) c.add_sequence-plan.ensures c.loop-extent.invariant.0 in
    let n : k ≡ c.args.order = omega arith in
    reading_accepted (plan_of (alternating_stages c.args.order)) (simp (ne_eqb _ _ c.if-order-eq0.false, le-ltb _ _ c.if-order-gt4.false))
    (q.0 ∙ ap (λ (m : ℕ). plan_of (alternating_stages m)) n)
