-- Where answers come from: the front of a queue is the latest position that gave the answer, and a picture's origin is the last pixel under the rectangle that has its value. By which idea: an entry
-- stands while no later value equals or passes it.
use mathlib.Core.Path.{◌≡◌, refl, sym, ap, ◌∙◌, subst}
use mathlib.Core.Bool.{Bool, true, false, false≢true}
use mathlib.Core.List.{List, [], ◌∷◌}
use mathlib.Core.Logic.{◌⊎◌, inl, inr, ⊎_elim}
use Prim.Native.Nat.{ℕ, ◌+◌, ◌-◌, ◌<◌}
use native.Mathlib.Omega.{arith}
use borrow.Author.Tests.{ltb-true, ltb-false}
use lib.Dec.{ltb}
use lib.ListN.{length, get_or}
use lib.Seq.{slice}
use Rattle.morph.specs.Order.{Order}
use Rattle.morph.specs.Lists.{In}
use Rattle.morph.specs.Line.{Entry, positioned, best, best_at, standing, queue, front}
use Rattle.morph.specs.Picture.{Picture, pixel_at, Wide, Stage, Covers, apply_stage, across, column}
use Rattle.morph.specs.Plan.{column_queue}
use Rattle.morph.specs.Origin.{by_value, answer_at, LatestEntry, origin_row_of, origin_column, LastPixel}
use Rattle.morph.proofs.Lists.{split, values, values_positioned, place_in, each_get_d, slice_in}
use Rattle.morph.proofs.Line.{le_refl, best_greatest, over_best, queue_some, queue_sound, line_at, output_front}
use Rattle.morph.proofs.Plan.{stage_front, across_at, column_length}

module _ {A : Type 0} (O : Order A) where
  best_value : (l : List (Entry A)) → (best (by_value O) l).value ≡ best O (values l)
  best_value [] = refl
  best_value (e ∷ []) = refl
  best_value (e ∷ r ∷ l) =
      let i = best_value (r ∷ l) in
      split (O.le e.value (best O (values (r ∷ l)))) (λ p. let q : O.le e.value (best (by_value O) (r ∷ l)).value ≡ true = rw i p in rw (p, q) i) (λ p. let q : O.le e.value (best (by_value O) (r ∷ l)).value ≡ false = rw i p in rw (p, q))

  -- what stands first is the last of the best
  front_entry : (l : List (Entry A)) → get_or (standing O l) 0 (by_value O).blank ≡ best (by_value O) l
  front_entry [] = refl
  front_entry (e ∷ []) = refl
  front_entry (e ∷ r ∷ l) =
      let i = front_entry (r ∷ l) in
      let o = over_best O e r l in
      let v = best_value (r ∷ l) in
      split (O.le e.value (best O (values (r ∷ l))))
      (λ p. let q : O.le e.value (best (by_value O) (r ∷ l)).value ≡ true = rw v p in rw (o, p, q) i)
      (λ p. let q : O.le e.value (best (by_value O) (r ∷ l)).value ≡ false = rw v p in rw (o, p, q))

  module _ (back ahead : ℕ) (xs : List A) (x : ℕ) where
    -- after step x + F the front has the position that gave the answer
    pub answer_front : get_or (queue O (back + ahead + 1) xs (x + ahead + 1)) 0 (by_value O).blank ≡ answer_at O back ahead xs x
    unfolding queue answer_at
    answer_front = let e : x + ahead + 1 - (back + ahead + 1) ≡ x - back = omega arith in rw e (front_entry (positioned (x - back) (slice (x - back) (x + ahead + 1) xs)))

    pub answer_value : (answer_at O back ahead xs x).value ≡ best_at O back ahead xs x
    unfolding answer_at best_at
    answer_value = best_value (positioned (x - back) (slice (x - back) (x + ahead + 1) xs)) ∙ ap (best O) (values_positioned (x - back) (slice (x - back) (x + ahead + 1) xs))

    pub answer_latest : x < length xs → LatestEntry O back ahead xs x (answer_at O back ahead xs x)
    answer_latest h =
        let q = queue O (back + ahead + 1) xs (x + ahead + 1) in
        let some = queue_some O (back + ahead + 1) xs (x + ahead + 1) (omega arith) (omega arith) (omega arith) in
        let i : In (answer_at O back ahead xs x) (queue O (back + ahead + 1) xs (x + ahead + 1)) = subst (λ e. In e (queue O (back + ahead + 1) xs (x + ahead + 1))) answer_front (place_in (by_value O).blank q 0 some) in
        let s = queue_sound O (back + ahead + 1) xs (x + ahead + 1) (answer_at O back ahead xs x) i in
        record {
          left = omega (arith, s.recent);
          right = omega (arith, s.done);
          there = s.read;
          gives = s.value;
          value = answer_value;
          last = λ r a b c. s.greatest r a (omega arith) c;
        }

  -- no other entry is so
  pub latest_only : (back ahead : ℕ) (xs : List A) (x : ℕ) (e r : Entry A) → LatestEntry O back ahead xs x e → LatestEntry O back ahead xs x r → e ≡ r
  latest_only back ahead xs x e r h k =
      let v : e.value ≡ r.value = h.value ∙ sym k.value in
      let not-before : (a b : Entry A) → LatestEntry O back ahead xs x a → LatestEntry O back ahead xs x b → a.position < b.position → ⊥ =
      λ a b m n l. false≢true (sym (m.last b.position l n.right n.there) ∙ ap (O.le a.value) (sym n.gives ∙ n.value ∙ sym m.value) ∙ le_refl O a.value) in
      let p : e.position ≡ r.position =
      split (ltb e.position r.position) (λ t. absurd (not-before e r h k (ltb-true _ _ t)))
      (λ t. split (ltb r.position e.position) (λ u. absurd (not-before r e k h (ltb-true _ _ u))) (λ u. omega (arith, ltb-false e.position r.position t, ltb-false r.position e.position u))) in
      ap (λ a. record { value = a; position = e.position }) v ∙ ap (λ n. record { value = r.value; position = n }) p

-- ---- the definition by the rectangle

module _ {A : Type 0} (S : Stage A) (W : ℕ) (p : Picture A) (wide : Wide W p) (y x : ℕ) (k : y < length p) (h : x < W) where
  abbrev O' : Order A
  O' = S.order

  -- the across-results at x
  abbrev ups : List A
  ups = column S x (across S p)

  across_best : (r : ℕ) → r < length p → get_or ups r O'.blank ≡ best_at O' S.back S.ahead (get_or p r []) x
  across_best r l =
      let w : length (get_or p r []) ≡ W = each_get_d _ p r [] wide l in
      across_at S x p r ∙ line_at O' S.back S.ahead (get_or p r []) x O'.blank (omega arith)

  -- a pixel of a row's window is not over the row's across-result
  across_over : (r c : ℕ) → Covers S.back S.ahead S.above S.below p x y c r → O'.le (pixel_at O' p r c) (get_or ups r O'.blank) ≡ true
  unfolding best_at
  across_over r c u =
      rw (across_best r u.row)
      (best_greatest O' (slice (x - S.back) (x + S.ahead + 1) (get_or p r [])) (pixel_at O' p r c)
      (slice_in O'.blank (x - S.back) (x + S.ahead + 1) (get_or p r []) c (omega (arith, u.left)) (omega (arith, u.right)) u.column))

  front_pixel : front O' (queue O' (S.above + S.below + 1) ups (y + S.below + 1)) ≡ pixel_at O' (apply_stage S p) y x
  unfolding column_queue
  front_pixel = sym (stage_front S W p wide y x O'.blank k h)

  -- "the latest row whose across-result has the value, and in that row the latest column of its window" is the last pixel of the rectangle that has it
  pub origin_last : LastPixel S p y x (origin_row_of S p y x) (origin_column S p y x)
  unfolding origin_row_of origin_column
  origin_last =
      let e = answer_at O' S.above S.below ups y in
      let a = answer_latest O' S.above S.below ups y (rw (column_length S x p 0) k) in
      let r = e.position in
      let t : r < length p = rw (column_length S x p 0) at a.there in
      let w : length (get_or p r []) ≡ W = each_get_d _ p r [] wide t in
      let b = answer_latest O' S.back S.ahead (get_or p r []) x (omega arith) in
      let f = answer_at O' S.back S.ahead (get_or p r []) x in
      let here : pixel_at O' p r f.position ≡ e.value = sym b.gives ∙ b.value ∙ sym (across_best r t) ∙ sym a.gives in
      record {
        under = record { left = b.left; right = b.right; up = a.left; down = a.right; row = t; column = b.there };
        gives = here ∙ a.value ∙ output_front O' S.above S.below ups y ∙ front_pixel;
        last = λ r' c' u l.
            ⊎_elim
            (λ m. not_true _ (λ z.
            let g = a.last r' m u.down (rw (column_length S x p 0) u.row) in
            let z' : O'.le e.value (pixel_at O' p r' c') ≡ true = rw here at z in
            false≢true (sym g ∙ O'.trans _ _ _ z' (across_over r' c' u))))
            (λ (m, n). subst (λ v. O'.le v (pixel_at O' p r' c') ≡ false) b.gives (subst (λ i. O'.le f.value (pixel_at O' p i c') ≡ false) m (b.last c' n u.right (rw m u.column))))
            l;
      }
    where
      not_true : (b : Bool) → (b ≡ true → ⊥) → b ≡ false
      not_true true f = absurd (f refl)
      not_true false f = refl

  -- no other pixel is so
  pub last_only : (r c r' c' : ℕ) → LastPixel S p y x r c → LastPixel S p y x r' c' → (r ≡ r') × (c ≡ c')
  last_only r c r' c' a b =
      let v : pixel_at O' p r c ≡ pixel_at O' p r' c' = a.gives ∙ sym b.gives in
      let no : (r < r') ⊎ ((r ≡ r') × (c < c')) → ⊥ = λ l. false≢true (sym (a.last r' c' b.under l) ∙ ap (O'.le (pixel_at O' p r c)) (sym v) ∙ le_refl O' (pixel_at O' p r c)) in
      let on : (r' < r) ⊎ ((r' ≡ r) × (c' < c)) → ⊥ = λ l. false≢true (sym (b.last r c a.under l) ∙ ap (O'.le (pixel_at O' p r' c')) v ∙ le_refl O' (pixel_at O' p r' c')) in
      let rows : r ≡ r' = same r r' (λ l. no (inl l)) (λ l. on (inl l)) in
      (rows, same c c' (λ l. no (inr (rows, l))) (λ l. on (inr (sym rows, l))))
    where
      same : (a b : ℕ) → (a < b → ⊥) → (b < a → ⊥) → a ≡ b
      same a b f g = split (ltb a b) (λ t. absurd (f (ltb-true _ _ t))) (λ t. split (ltb b a) (λ u. absurd (g (ltb-true _ _ u))) (λ u. omega (arith, ltb-false a b t, ltb-false b a u)))
