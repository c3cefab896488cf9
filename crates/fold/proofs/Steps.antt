-- A step of a fold: what a line asks of the lines that it refers to, and what it makes of their values.
use mathlib.Core.Path.{◌≡◌, refl, sym, ap, ◌∙◌, subst}
use mathlib.Core.Bool.{Bool, true, false, cond}
use mathlib.Core.List.{List, []}
use Prim.Native.Nat.{ℕ, ◌+◌, ◌-◌, ◌≤◌, ◌<◌}
use native.Mathlib.Omega.{arith}
use lib.Dec.{eqb}
use lib.IntN.{ℤ, pos}
use lib.ListN.{length, get_or}
use borrow.Author.Tests.{ne_eqb, eqb-true, eqb-false}
use Rattle.semantics.specs.Text.{Bytes}
use Rattle.semantics.specs.Tree as Tree
use Rattle.semantics.specs.Tree.{Ex, basic_of}
use Rattle.semantics.specs.Tree.Ex.{unary, binary, cast, len}
use Rattle.semantics.specs.Tree.ConstVal.{v_str}
use Rattle.semantics.specs.Form.{Atom, forms, number_of, node_at}
use Rattle.semantics.specs.Form.Kind.{k_ty, k_ex}
use Rattle.std.specs.Prelude.{Result, Ok, Err}
use Rattle.semantics.specs.Fold as Fold
use Rattle.semantics.specs.Fold.{Names, bind, fold, fold_unary, fold_binary, fold_cast, fold_len}
use Rattle.semantics.specs.Fold.Result.{ok}
use Rattle.decimal.specs.Number as Number
use Rattle.form.specs.Table.{row_node}
use Rattle.lines.specs.Lines.{read_at, nodes_in, form_at}
use Rattle.checks.specs.Checks.{Kept}
use Rattle.checks.proofs.Kept.{kept-all, kept_then, kept_less}
use Rattle.values.specs.declared.ConstVal.{ConstVal}
use Rattle.values.specs.declared.ConstVal.TheVariants.{Int, Real, Str}
use Rattle.values.specs.declared.NoValue.{NoValue}
use Rattle.values.specs.declared.NoValue.TheVariants.{Failed, LongString}
use Rattle.values.specs.Values.{string_in, value_in, result_in, basic_at, string_size, At, ResultAt, Answers, Casts}
use Rattle.values.proofs.Values.{answers-as, answers-failed}
use Rattle.codes.specs.declared.unary.Unary.{Unary}
use Rattle.codes.specs.declared.binary.Binary.{Binary}
use Rattle.codes.specs.Operators.{unary_at, binary_at, unary_op, binary_op}
use Rattle.names.specs.Table.{names_in, ConstsLogged}
use Rattle.names.proofs.Laws.{part-kept, logged-kept, log-kept}
use Rattle.leaf.specs.Folds.{ex_at, fold_at, ExLine, Foldable, Folds}
use Rattle.fold.specs.Operators.{OperatorLine, operand_of, on_one, Applies}
use Rattle.leaf.proofs.Lines.{RefTo, in-sheet, ex-is, form-span, depth-some, field-good, ref-good, small-number, basic-is, made-unary, made-binary, made-cast, made-len, made-failing}

-- what holds of forms 13 to 16
by-form : (P : ℕ → Type 0) → P 13 → P 14 → P 15 → P 16 → (f : ℕ) → 13 ≤ f → f ≤ 16 → P f
by-form P a b c d f h k = go (eqb f 13) refl (eqb f 14) refl (eqb f 15) refl
  where
    go : (x : Bool) → eqb f 13 ≡ x → (y : Bool) → eqb f 14 ≡ y → (z : Bool) → eqb f 15 ≡ z → P f
    go true p y q z r = subst P (sym (eqb-true f 13 p)) a
    go false p true q z r = subst P (sym (eqb-true f 14 q)) b
    go false p false q true r = subst P (sym (eqb-true f 15 r)) c
    go false p false q false r =
        let e : f ≡ 16 = omega (arith, eqb-false f 13 p, eqb-false f 14 q, eqb-false f 15 r) in
        subst P (sym e) d

-- ---- folds by their definition

module _ (names : Names) (iota : ℤ) where
  unary-steps : (o : Tree.UnaryOp) (x : Ex) → fold names iota (unary o x) ≡ bind (fold names iota x) (fold_unary o)
  unfolding fold
  unary-steps o x = refl

  cast-steps : (o : Tree.Ty) (x : Ex) → fold names iota (cast o x) ≡ bind (fold names iota x) (λ v. ok (fold_cast (basic_of o) v))
  unfolding fold
  cast-steps o x = refl

  len-steps : (x : Ex) → fold names iota (len x) ≡ bind (fold names iota x) fold_len
  unfolding fold
  len-steps x = refl

  binary-steps : (x : Ex) (o : Tree.BinOp) (y : Ex) → fold names iota (binary x o y) ≡ bind (fold names iota x) (λ v. bind (fold names iota y) (fold_binary o v))
  unfolding fold
  binary-steps x o y = refl

-- ---- operands

module _ {s : Bytes} {r : ℕ} (l : OperatorLine s r) where
  abbrev fields : List Bytes
  fields = (read_at s (r - 1)).fields

  abbrev form_here : ℕ
  form_here = form_at s (r - 1)

  -- the only or left operand is an earlier expression
  operand-line : RefTo s r 69 (get_or fields (cond (eqb form_here 16) 0 1) []) (operand_of s r)
  unfolding forms operand_of
  operand-line =
      by-form (λ f. form_here ≡ f → RefTo s r 69 (get_or fields (cond (eqb f 16) 0 1) []) (number_of (get_or fields (cond (eqb f 16) 0 1) [])))
      (λ e. ref-good l.line 13 1 e k_ex refl) (λ e. ref-good l.line 14 1 e k_ex refl) (λ e. ref-good l.line 15 1 e k_ex refl) (λ e. ref-good l.line 16 0 e k_ex refl)
      form_here l.low l.high refl

  fold-two : (names : Names) (iota : ℤ) → form_here ≡ 14
      → fold names iota (ex_at s r) ≡ bind (fold names iota (ex_at s (operand_of s r))) (λ v. bind (fold names iota (ex_at s (number_of (get_or fields 2 [])))) (fold_binary (binary_at (number_of (get_or fields 0 []))) v))
  unfolding operand_of
  fold-two names iota e =
      let q : ex_at s r ≡ binary (ex_at s (number_of (get_or fields 1 []))) (binary_at (number_of (get_or fields 0 []))) (ex_at s (number_of (get_or fields 2 []))) =
      ex-is l.line ∙ ap (λ (f : ℕ). (row_node (nodes_in s) f fields).ex) e ∙ made-binary (nodes_in s) fields in
      rw (q, e) (binary-steps names iota (ex_at s (number_of (get_or fields 1 []))) (binary_at (number_of (get_or fields 0 []))) (ex_at s (number_of (get_or fields 2 []))))

  right-line : form_here ≡ 14 → RefTo s r 69 (get_or fields 2 []) (number_of (get_or fields 2 []))
  unfolding forms
  right-line e = ref-good l.line 14 2 e k_ex refl

  binary-number : form_here ≡ 14 → {o : ℕ} → o ≡ Number.number_up_to 65536 (get_or fields 0 []) → o ≡ number_of (get_or fields 0 [])
  unfolding forms
  binary-number e h = h ∙ small-number 18 (get_or fields 0 []) (omega arith) (field-good l.line 14 0 e Atom.binary_op refl)

  pub operand-first : {v : ℕ} → form_here ≡ 16 → v ≡ Number.number_up_to 65536 (get_or fields 0 []) → v ≡ operand_of s r
  operand-first e h = h ∙ (rw e at operand-line.exact)

  pub operand-second : {v : ℕ} → (form_here ≡ 16 → ⊥) → v ≡ Number.number_up_to 65536 (get_or fields 1 []) → v ≡ operand_of s r
  operand-second e h = h ∙ (rw (ne_eqb form_here 16 e) at operand-line.exact)

  -- a fold of a line with one operand goes on from the operand's value
  fold-one : (names : Names) (iota : ℤ) → (form_here ≡ 14 → ⊥) → fold names iota (ex_at s r) ≡ bind (fold names iota (ex_at s (operand_of s r))) (on_one (ex_at s r))
  unfolding operand_of
  fold-one names iota z =
      by-form (λ f. form_here ≡ f → fold names iota (ex_at s r) ≡ bind (fold names iota (ex_at s (number_of (get_or fields (cond (eqb f 16) 0 1) [])))) (on_one (ex_at s r)))
      (λ e. one-step (made e ∙ made-unary (nodes_in s) fields)) (λ e. absurd (z e)) (λ e. cast-step (made e ∙ made-cast (nodes_in s) fields)) (λ e. len-step (made e ∙ made-len (nodes_in s) fields))
      form_here l.low l.high refl
    where
      made : {f : ℕ} → form_here ≡ f → ex_at s r ≡ (row_node (nodes_in s) f fields).ex
      made e = ex-is l.line ∙ ap (λ (f : ℕ). (row_node (nodes_in s) f fields).ex) e

      one-step : {o : Tree.UnaryOp} {x : Ex} → ex_at s r ≡ unary o x → fold names iota (ex_at s r) ≡ bind (fold names iota x) (on_one (ex_at s r))
      one-step q = rw q (unary-steps names iota _ _)

      cast-step : {o : Tree.Ty} {x : Ex} → ex_at s r ≡ cast o x → fold names iota (ex_at s r) ≡ bind (fold names iota x) (on_one (ex_at s r))
      cast-step q = rw q (cast-steps names iota _ _)

      len-step : {x : Ex} → ex_at s r ≡ len x → fold names iota (ex_at s r) ≡ bind (fold names iota x) (on_one (ex_at s r))
      len-step q = rw q (len-steps names iota _)

-- ---- a line with one operand

module _ {s t : Bytes} {r : ℕ} {v : ConstVal} {top : ℕ} (a : Applies s t r v top) where
  made : {f : ℕ} → form_at s (r - 1) ≡ f → ex_at s r ≡ (row_node (nodes_in s) f (read_at s (r - 1)).fields).ex
  made e = ex-is a.line.line ∙ ap (λ (f : ℕ). (row_node (nodes_in s) f (read_at s (r - 1)).fields).ex) e

  pub applies-unary : form_at s (r - 1) ≡ 13 → {o : ℕ} (op : Unary) {x : Result ConstVal NoValue} → o ≡ Number.number_up_to 65536 (get_or (read_at s (r - 1)).fields 0 []) → unary_op op ≡ unary_at o
      → ((u : Bytes) (p : ℕ) → Answers u p x (fold_unary (unary_op op) (value_in u v)))
      → Answers t top x (on_one (ex_at s r) (value_in t v)) × Kept top t t
  unfolding forms
  applies-unary e {o} op h w b =
      let q : o ≡ number_of (get_or (read_at s (r - 1)).fields 0 []) = h ∙ small-number 3 (get_or (read_at s (r - 1)).fields 0 []) (omega arith) (field-good a.line.line 13 0 e Atom.unary_op refl) in
      let d : ex_at s r ≡ unary (unary_op op) (ex_at s (number_of (get_or (read_at s (r - 1)).fields 1 []))) = made e ∙ made-unary (nodes_in s) (read_at s (r - 1)).fields ∙ rw (w, q) in
      (answers-as (sym (ap (λ (x : Ex). on_one x (value_in t v)) d)) (b t top), kept-all)

  -- the line of the type
  pub cast-line : form_at s (r - 1) ≡ 15 → RefTo s r 75 (get_or (read_at s (r - 1)).fields 0 []) (number_of (get_or (read_at s (r - 1)).fields 0 []))
  unfolding forms
  cast-line e = ref-good a.line.line 15 0 e k_ty refl

  pub applies-cast : form_at s (r - 1) ≡ 15 → {k code : ℕ} → k ≡ Number.number_up_to 65536 (get_or (read_at s (r - 1)).fields 0 []) → code ≡ form_at s (k - 1) → {u : Bytes} {w : ConstVal}
      → Casts t top (fold_cast (basic_at code) (value_in t v)) u w → Answers u top (Ok w) (on_one (ex_at s r) (value_in t v)) × Kept top t u
  unfolding result_in
  applies-cast e {k} {code} h g b =
      let l = cast-line e in
      let j = number_of (get_or (read_at s (r - 1)).fields 0 []) in
      let q : k ≡ j = h ∙ l.exact in
      let d : ex_at s r ≡ cast (node_at (nodes_in s) j).ty (ex_at s (number_of (get_or (read_at s (r - 1)).fields 1 []))) = made e ∙ made-cast (nodes_in s) (read_at s (r - 1)).fields in
      let c : basic_at code ≡ basic_of (node_at (nodes_in s) j).ty = ap basic_at (g ∙ ap (λ (i : ℕ). form_at s (i - 1)) q) ∙ sym (basic-is s a.line.line.checked j l.first l.last l.kind) in
      (record { value = ap ok (b.value ∙ ap (λ z. fold_cast z (value_in t v)) c) ∙ sym (ap (λ (x : Ex). on_one x (value_in t v)) d); at = b.at }, b.kept)

  pub applies-len : (form_at s (r - 1) ≡ 13 → ⊥) → (form_at s (r - 1) ≡ 15 → ⊥) → {x : Result ConstVal NoValue} → ((p : ℕ) → Answers t p x (fold_len (value_in t v)))
      → Answers t top x (on_one (ex_at s r) (value_in t v)) × Kept top t t
  applies-len n1 n2 b =
      let e : form_at s (r - 1) ≡ 16 = omega (arith, n1, n2, a.one, a.line.low, a.line.high) in
      let d : ex_at s r ≡ len (ex_at s (number_of (get_or (read_at s (r - 1)).fields 0 []))) = made e ∙ made-len (nodes_in s) (read_at s (r - 1)).fields in
      (answers-as (sym (ap (λ (x : Ex). on_one x (value_in t v)) d)) (b top), kept-all)

-- ---- a step of the fold

-- a result that is no value ends it
stopped : (u : Bytes) (e : NoValue) (K : Tree.ConstVal → Fold.Result Tree.ConstVal) → bind (result_in u (Err e)) K ≡ result_in u (Err e)
unfolding result_in
stopped u Failed K = refl
stopped u LongString K = refl

-- a string keeps its bytes
value-kept : (top : ℕ) (u w : Bytes) (v : ConstVal) → At top v → Kept (top + string_size v) u w → value_in w v ≡ value_in u v
unfolding value_in string_in
value-kept top u w (Int z) h k = refl
value-kept top u w (Real x) h k = refl
value-kept top u w (Str p l) h k = ap v_str (part-kept k p l (omega (arith, h.0)))

size_small : (top : ℕ) (v : ConstVal) → At top v → string_size v ≤ 256
size_small top (Int z) h = omega arith
size_small top (Real x) h = omega arith
size_small top (Str p l) h = h.1

module _ {s t : Bytes} {m r top : ℕ} (a : Foldable s t m r top) where
  pub fails-behind : {iota : ℕ} → 16 < form_at s (r - 1) → Folds s t m iota r top t (Err Failed)
  unfolding fold_at
  fails-behind {iota} h =
      let w = form-span a.line in
      let f : form_at s (r - 1) ≡ 17 + (form_at s (r - 1) - 17) = omega arith in
      let d : ex_at s r ≡ (row_node (nodes_in s) (17 + (form_at s (r - 1) - 17)) (read_at s (r - 1)).fields).ex = ex-is a.line ∙ ap (λ (g : ℕ). (row_node (nodes_in s) g (read_at s (r - 1)).fields).ex) f in
      record { answer = answers-failed (sym (rw d (made-failing (nodes_in s) (names_in s t m) (pos iota) (read_at s (r - 1)).fields (form_at s (r - 1) - 17) (omega (arith, w.1))))) t top; kept = kept-all }

  module _ (low : 13 ≤ form_at s (r - 1)) (high : form_at s (r - 1) ≤ 16) where
    pub operator-line : OperatorLine s r
    operator-line = record { line = a.line; low = low; high = high }

    -- a line that it refers to can be folded behind a string
    below : {u : Bytes} → Kept top t u → {x : Bytes} {k : ℕ} → RefTo s r 69 x k → (p : ℕ) → top ≤ p → p ≤ top + 256 → Foldable s u m k p
    below w {k = k} b p h l = record {
      line = record { checked = a.line.checked; first = b.first; last = b.last; kind = b.kind };
      log = logged-kept (kept_less a.low w) a.log;
      low = omega (arith, a.low);
      room = omega (arith, a.room, b.lower, w.long);
    }

    pub operand-foldable : {k : ℕ} → k ≡ operand_of s r → Foldable s t m k top
    operand-foldable e = rw e (below kept-all (operand-line operator-line) top (omega arith) (omega arith))

    pub operand-before : {k : ℕ} → k ≡ operand_of s r → k < r
    operand-before e = omega (arith, e, (operand-line operator-line).before)

    -- the fold of the operand gave x
    module _ {iota k : ℕ} (hk : k ≡ operand_of s r) {u : Bytes} {x : Result ConstVal NoValue} (f : Folds s t m iota k top u x) where
      operand-result : fold (names_in s t m) (pos iota) (ex_at s (operand_of s r)) ≡ result_in u x
      unfolding fold_at
      operand-result = rw (← hk) (sym f.answer.value)

      goes-on : (K : Tree.ConstVal → Fold.Result Tree.ConstVal) → fold (names_in s t m) (pos iota) (ex_at s r) ≡ bind (fold (names_in s t m) (pos iota) (ex_at s (operand_of s r))) K → fold_at s t m iota r ≡ bind (result_in u x) K
      unfolding fold_at
      goes-on K e = e ∙ ap (λ z. bind z K) operand-result

      pub left-stops : {e : NoValue} → x ≡ Err e → Folds s t m iota r top u (Err e)
      left-stops {e} h = go (eqb (form_at s (r - 1)) 14) refl
        where
          ends : (K : Tree.ConstVal → Fold.Result Tree.ConstVal) → fold_at s t m iota r ≡ bind (result_in u x) K → Folds s t m iota r top u (Err e)
          ends K q = record { answer = record { value = sym (q ∙ ap (λ z. bind (result_in u z) K) h ∙ stopped u e K); at = tt }; kept = f.kept }

          go : (b : Bool) → eqb (form_at s (r - 1)) 14 ≡ b → Folds s t m iota r top u (Err e)
          go true q = ends _ (goes-on _ (fold-two operator-line (names_in s t m) (pos iota) (eqb-true (form_at s (r - 1)) 14 q)))
          go false q = ends _ (goes-on _ (fold-one operator-line (names_in s t m) (pos iota) (eqb-false (form_at s (r - 1)) 14 q)))

      module _ {v : ConstVal} (hv : x ≡ Ok v) where
        value-at : At top v
        value-at = subst (ResultAt top) hv f.answer.at

        pub applies : (form_at s (r - 1) ≡ 14 → ⊥) → Applies s u r v top
        applies z = record { line = operator-line; one = z; at = value-at; room = omega (arith, a.room, depth-some a.line, f.kept.long) }

        pub applied : (form_at s (r - 1) ≡ 14 → ⊥) → {w : Bytes} {y : Result ConstVal NoValue} → Answers w top y (on_one (ex_at s r) (value_in u v)) × Kept top u w → Folds s t m iota r top w y
        unfolding result_in
        applied z b = record {
          answer = answers-as (sym (goes-on (on_one (ex_at s r)) (fold-one operator-line (names_in s t m) (pos iota) z) ∙ rw hv)) b.0;
          kept = kept_then f.kept b.1;
        }

        module _ (e : form_at s (r - 1) ≡ 14) {g p : ℕ} (hg : g ≡ Number.number_up_to 65536 (get_or (read_at s (r - 1)).fields 2 [])) (hp : p ≡ string_size v) where
          right_is : g ≡ number_of (get_or (read_at s (r - 1)).fields 2 [])
          right_is = hg ∙ (right-line operator-line e).exact

          pub right-foldable : Foldable s u m g (top + p)
          right-foldable = let z = size_small top v value-at in rw right_is (below f.kept (right-line operator-line e) (top + p) (omega arith) (omega (arith, hp)))

          pub right-before : g < r
          right-before = omega (arith, right_is, (right-line operator-line e).before)

          -- the fold of the right operand gave y
          module _ {w : Bytes} {y : Result ConstVal NoValue} (b : Folds s u m iota g (top + p) w y) where
            pub right_kept : Kept top t w
            right_kept = kept_then f.kept (kept_less (omega arith) b.kept)

            right-result : fold (names_in s t m) (pos iota) (ex_at s (number_of (get_or (read_at s (r - 1)).fields 2 []))) ≡ result_in w y
            unfolding fold_at
            right-result = rw (← right_is, ← log-kept (kept_less a.low f.kept) a.log) (sym b.answer.value)

            both-results : fold_at s t m iota r ≡ bind (result_in w y) (fold_binary (binary_at (number_of (get_or (read_at s (r - 1)).fields 0 []))) (value_in u v))
            unfolding result_in
            both-results = goes-on _ (fold-two operator-line (names_in s t m) (pos iota) e) ∙ rw (hv, right-result)

            pub right-stops : {g : NoValue} → y ≡ Err g → Folds s t m iota r top w (Err g)
            right-stops {g} h = record { answer = record { value = sym (both-results ∙ ap (λ z. bind (result_in w z) (fold_binary (binary_at (number_of (get_or (read_at s (r - 1)).fields 0 []))) (value_in u v))) h ∙ stopped w g _); at = tt }; kept = right_kept }

            pub binary-folds : {z : ConstVal} → y ≡ Ok z → {o : ℕ} (op : Binary) → o ≡ Number.number_up_to 65536 (get_or (read_at s (r - 1)).fields 0 []) → binary_op op ≡ binary_at o → {q : Result ConstVal NoValue}
                → ((t : Bytes) (top : ℕ) → At top v → At (top + string_size v) z → top + 512 ≤ length t → Answers t top q (fold_binary (binary_op op) (value_in t v) (value_in t z)))
                → Folds s t m iota r top w q
            unfolding result_in
            binary-folds {z} hz {o} op ho hop {q} c =
                let i : binary_op op ≡ binary_at (number_of (get_or (read_at s (r - 1)).fields 0 [])) = hop ∙ ap binary_at (binary-number operator-line e ho) in
                let k : Kept (top + string_size v) u w = rw (← hp) b.kept in
                let x : At (top + string_size v) z = rw (← hp) (subst (ResultAt (top + p)) hz b.answer.at) in
                let d = (right-line operator-line e).lower in
                let room : top + 512 ≤ length w = omega (arith, a.room, d, right_kept.long, rw right_is at (depth-some right-foldable.line)) in
                record {
                  answer = answers-as (sym (both-results ∙ rw (hz, ← i, ← value-kept top u w v value-at k))) (c w top value-at x room);
                  kept = right_kept;
                }

-- ---- where the fold of a checked sheet's line begins

-- between the constants' strings and 32 strings below the end, wherever the working space ends, there is always room
pub foldable : {s t : Bytes} {m r top : ℕ} → ExLine s r → ConstsLogged s t m → 49152 ≤ top → top + 8192 ≤ length t → Foldable s t m r top
foldable {r = r} l g h k = record { line = l; log = g; low = h; room = omega (arith, l.checked.low (r - 1) (in-sheet l)) }

-- so in 65,536 bytes a fold may begin up to 57,344
pub foldable-below : {s t : Bytes} {m r top : ℕ} → ExLine s r → ConstsLogged s t m → 49152 ≤ top → top ≤ 57344 → 65536 ≤ length t → Foldable s t m r top
foldable-below l g h k long = foldable l g h (omega arith)
