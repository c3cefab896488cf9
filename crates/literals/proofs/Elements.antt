-- Elements, one after the other.
use mathlib.Core.Path.{◌≡◌, refl, sym, ◌∙◌, subst}
use mathlib.Core.List.{[]}
use mathlib.Core.Logic.{inl, inr}
use Prim.Native.Nat.{ℕ, ◌+◌, ◌-◌, ◌*◌, ◌≤◌}
use native.Mathlib.Omega.{arith}
use lib.ListN.{length, get_or}
use Rattle.checks.specs.Checks.{KindLine}
use Rattle.semantics.specs.Text.{Bytes}
use Rattle.semantics.specs.Tree as Tree
use Rattle.semantics.specs.Tree.{El}
use Rattle.semantics.specs.Tree.El.{next as next_el, star, at}
use Rattle.semantics.specs.Form.{number_of}
use Rattle.semantics.specs.Fold.{Result, bind, Names, fold_at0}
use Rattle.semantics.specs.Array.{Filled, place_next, set_wildcard, fill_element, el_value}
use Rattle.decimal.specs.Number as Number
use Rattle.lines.specs.Lines.{read_at, form_at}
use Rattle.values.specs.declared.ConstVal.{ConstVal}
use Rattle.values.specs.declared.ConstVal.TheVariants.{Int, Real, Str}
use Rattle.std.specs.Prelude.{Option, Some, Ok, Err}
use Rattle.values.specs.declared.NoValue.{NoValue}
use Rattle.values.specs.declared.NoValue.TheVariants as N
use Rattle.values.specs.Values.{value_in, result_in, Small, InRange, At, ResultAt, Outcome, answered}
use Rattle.slots.specs.Slots.{slot_bytes}
use Rattle.slots.proofs.Bits.{SlotStored, stored}
use Rattle.write.specs.Wrote.{over}
use Rattle.placements.specs.declared.Extent.{Extent}
use Rattle.placements.specs.Placements.{slot_at, element_in, Keeps, StringStands, Filling, Step, Places}
use Rattle.placements.proofs.Same.{keeps_then, keeps-less, keeps-kept}
use Rattle.placements.proofs.Fillings.{filling-kept, filling-value, filling-star, stored-element}
use Rattle.leaf.specs.Folds.{ex_at, Foldable, Folds}
use Rattle.names.specs.Table.{names_in}
use Rattle.literals.specs.Literals.{el_at, ses_at, AtTask, ValuedTask, ElementTask, above, Fills, placed, ElementFilled}
use Rattle.literals.proofs.Names.{log-kept, logged-kept}
use Rattle.literals.proofs.Lines.{good-line, last-form, el-next, el-star, el-at, el-value, value-ref}
use Rattle.literals.proofs.Selectors.{foldable, folds-to}

-- ---- a value that stands in its slot

standing-small : (top : ℕ) (v : ConstVal) → top ≤ 65535 → StringStands top v → Small v
standing-small top (Int z) h s = tt
standing-small top (Real x) h s = tt
standing-small top (Str p l) h s = (omega (arith, s.1, s.0), omega (arith, s.1))

stored-keeps : {t u : Bytes} (n : ℕ) {v : ConstVal} → n ≤ 16 → SlotStored t (12288 + 16 * n) v u → Keeps 16384 49152 t u
stored-keeps n h q = record { long = q.long; below = λ j x. q.others j (inl (omega arith)); above = λ j x y. q.others j (inr (omega arith)) }

module _ {s t : Bytes} {m r e : ℕ} {v : ConstVal} (k : ValuedTask s t m r e v) (far : Extent) where
  l : KindLine 76 s r
  l = k.task.line

  pub element-small : Small v
  element-small = standing-small (49152 + 256 * e) v (omega (arith, k.task.few)) k.stands

  element-is : element_in t e ≡ value_in t v
  unfolding element_in
  element-is = rw k.value

  module _ {f : ℕ} (hf : f ≡ form_at s (r - 1)) where
    pub element-next : f ≡ 20 → {y : Option Extent} {u : Bytes} → Places t e far place_next y u → Fills t e far (placed (names_in s t m) (el_at s r)) (Ok y) u
    element-next d {y} {u} p = record {
      keeps = keeps-less (omega arith) (omega arith) (p.keeps 49152);
      step = λ g one few q. rw (el-next l (sym hf ∙ d)) (p.step (above e) e g one (omega arith) few q);
    }

    pub element-star : 62464 ≤ length t → f ≡ 21 → {u : Bytes} → (u ≡ over t (12288 + 16 * 0) (slot_bytes v)) × InRange v → Fills t e far (placed (names_in s t m) (el_at s r)) (Ok (Some far)) u
    element-star long d {u} w =
        let p = stored t (12288 + 16 * 0) v (omega arith) element-small w in
        record {
          keeps = stored-keeps 0 (omega arith) p;
          step = λ g one few q. rw (el-star l (sym hf ∙ d)) (record { literal = set_wildcard (value_in t v) g; result = rw element-is; filling = filling-star q u (above e) (omega arith) 0 v k.stands p (omega arith) refl });
        }

    module _ (a : f ≡ 20 → ⊥) (b : f ≡ 21 → ⊥) where
      pub element-at : AtTask s t m r e
      element-at = record { task = k.task; form = last-form l (λ d. a (hf ∙ d)) (λ d. b (hf ∙ d)) }

      pub element-spans : {y : Outcome (Option Extent)} {u : Bytes} → Fills t e far (placed (names_in s t m) (at (el_value (el_at s r)) (ses_at s r))) y u → Fills t e far (placed (names_in s t m) (el_at s r)) y u
      element-spans {y} {u} p = record { keeps = p.keeps; step = λ g one few q. rw (el-at l element-at.form) (p.step g one few q) }

-- ---- an element: its value first

fills-as : (ns : Names) (e : El) (f : Filled) → fill_element ns e f ≡ bind (fold_at0 ns (el_value e)) (λ (v : Tree.ConstVal). placed ns e v f)
fills-as ns (next_el e) f = refl
fills-as ns (star e) f = refl
fills-as ns (at e ss) f = refl

at-stands : (k : ℕ) (v : ConstVal) → At (49152 + 256 * k) v → StringStands (49152 + 256 * (k + 1)) v
at-stands k (Int z) h = tt
at-stands k (Real x) h = tt
at-stands k (Str p l) h = (omega (arith, h.0), omega (arith, h.0, h.1), h.1)

module _ {s t : Bytes} {m r k : ℕ} (c : ElementTask s t m r k) (far : Extent) {q : ℕ} (hq : q ≡ Number.number_up_to 65536 (get_or (read_at s (r - 1)).fields 0 [])) where
  value_line : (q ≡ number_of (get_or (read_at s (r - 1)).fields 0 [])) × KindLine 69 s q
  value_line = good-line c.line 69 (get_or (read_at s (r - 1)).fields 0 []) q hq (value-ref c.line)

  pub value-foldable : 62464 ≤ length t → Foldable s t m q (49152 + 256 * k)
  value-foldable = foldable (record { line = value_line.1; log = c.log; few = omega (arith, c.few) })

  value-is : el_value (el_at s r) ≡ ex_at s q
  value-is = rw (el-value c.line, value_line.0)

  module _ {u : Bytes} {x : Outcome ConstVal} (g : Folds s t m 0 q (49152 + 256 * k) u x) where
    fills-to : (f : Filled) → fill_element (names_in s t m) (el_at s r) f ≡ bind (result_in u x) (λ (v : Tree.ConstVal). placed (names_in s t m) (el_at s r) v f)
    fills-to f = fills-as (names_in s t m) (el_at s r) f ∙ rw (value-is, ← folds-to g)

    keeps-fold : Keeps 16384 49152 t u
    keeps-fold = keeps-less (omega arith) (omega arith) (keeps-kept {a = 0} (omega arith) g.kept)

    pub turn-none : (n : NoValue) → x ≡ Err n → ElementFilled t k far (fill_element (names_in s t m) (el_at s r)) (Err n) u
    unfolding result_in
    turn-none n d = record { keeps = keeps-fold; step = λ f p. fills-to f ∙ go n d (placed (names_in s t m) (el_at s r)) f }
      where
        go : (n : NoValue) → x ≡ Err n → (g : Tree.ConstVal → Filled → Result Filled) (f : Filled) → bind (result_in u x) (λ (v : Tree.ConstVal). g v f) ≡ answered (Err n)
        go N.Failed d g f = rw d
        go N.LongString d g f = rw d

    module _ {v : ConstVal} (d : x ≡ Ok v) where
      value-stands : StringStands (49152 + 256 * (k + 1)) v
      value-stands = at-stands k v (subst (λ (z : Outcome ConstVal). ResultAt (49152 + 256 * k) z) d g.answer.at)

      pub value-small : Small v
      value-small = standing-small (49152 + 256 * (k + 1)) v (omega (arith, c.few)) value-stands

      module _ (long : 62464 ≤ length t) {w : Bytes} (e : (w ≡ over u (12288 + 16 * (k + 1)) (slot_bytes v)) × InRange v) where
        p : SlotStored u (12288 + 16 * (k + 1)) v w
        p = stored u (12288 + 16 * (k + 1)) v (omega (arith, c.few, long, g.kept.long)) value-small e

        keeps-value : Keeps 16384 49152 t w
        keeps-value = keeps_then keeps-fold (stored-keeps (k + 1) (omega (arith, c.few)) p)

        pub value-stored : ValuedTask s w m r (k + 1) v
        unfolding slot_at
        value-stored = record { task = record { line = c.line; log = logged-kept keeps-value c.log; few = omega (arith, c.few) }; stands = value-stands; value = p.value }

        pub turn-placed : {y : Outcome (Option Extent)} {z : Bytes} → Fills w (k + 1) far (placed (names_in s w m) (el_at s r)) y z → ElementFilled t k far (fill_element (names_in s t m) (el_at s r)) y z
        unfolding result_in
        turn-placed {y} {z} a = record {
          keeps = keeps_then keeps-value a.keeps;
          step = λ f b.
              let b' : Filling u (above k) k far.next far.reach f = filling-kept b u (omega (arith, c.few)) (omega arith) g.kept in
              let h = filling-value b' w (above (k + 1)) (omega arith) (k + 1) v value-stands p (omega (arith, c.few)) refl in
              let i = stored-element b' w (above (k + 1)) (omega arith) (k + 1) v value-stands p (omega (arith, c.few)) in
              subst (λ (q' : Result Filled). Step z (above (k + 1)) (k + 1) y q') (sym (fills-to f ∙ rw d)) (rw (log-kept keeps-value c.log, i) at (a.step f (omega arith) (omega (arith, c.few)) h));
        }
