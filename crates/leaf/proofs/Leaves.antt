-- Expressions without an operand that is folded: what numbers and strings say, and the values of names.
use mathlib.Core.Path.{◌≡◌, refl, sym, ap, ◌∙◌}
use mathlib.Core.Bool.{Bool, true, false, cond, ◌&&◌}
use mathlib.Core.List.{List, [], ◌∷◌}
use mathlib.Core.Logic.{inl}
use Rattle.std.specs.Prelude.{Option, None, Some, Result, Ok, Err}
use Rattle.std.specs.Option.{option_and_then, unwrap_or}
use Prim.Native.Nat.{ℕ, zero, suc, ◌+◌, ◌-◌, ◌/◌, ◌%◌, ◌≤◌, ◌<◌, min}
use native.Mathlib.Omega.{arith}
use lib.Dec.{ltb, eqb}
use lib.IntN.{ℤ, pos}
use lib.Ieee.{Float, binary64, of_bits}
use lib.ListN.{length, take, drop, get_or, length-drop}
use lib.Seq.{length-take-le, take_all}
use mir.Syntax.{w64}
use mir.Val.{SFits}
use mir.Facts.{to_z-of_z}
use Rattle.semantics.specs.Text.{Bytes, bytes, same, holds_of, or_else, int_of, unhex, is_utf8, from_big_endian, fields_of, parts_at, head_part, tail_parts, cut}
use Rattle.semantics.specs.Tree as Tree
use Rattle.semantics.specs.Tree.ConstVal.{v_int, v_real, v_str}
use Rattle.semantics.specs.Form.{Atom, forms, holds, between, not_nan, number_of, fields_from}
use Rattle.semantics.specs.Form.Kind.{k_ex}
use Rattle.semantics.specs.Fold.{signed64, int_ok, fold, from_option, plain, qualified, qualified_value, look_up, value_of}
use Rattle.semantics.specs.Fold.Result.{ok, failed}
use Rattle.ints.proofs.Widths.{held}
use Rattle.decimal.specs.Number as Number
use Rattle.decimal.specs.Number.{integer_of, whole}
use Rattle.hex_field.specs.Hex.{byte_at, eight_bytes, bits64_of}
use Rattle.hex_field.proofs.Hexes.{byte_of, unhex-length}
use Rattle.write.specs.declared.Writer.{Writer}
use Rattle.write.specs.Wrote.{over, Wrote}
use Rattle.write.specs.Writes.{Writes}
use Rattle.write.proofs.Writes.{writes_as, writes_next}
use Rattle.write.proofs.Wrote.{wrote_as}
use Rattle.form.specs.Table.{row_at, row_node}
use Rattle.semantics.proofs.Common.{never, both}
use Rattle.lines.specs.Lines.{text_at, read_at, nodes_in, form_at}
use Rattle.lines.proofs.Line.{fields-are, line-short}
use Rattle.checks.specs.Checks.{Kept}
use Rattle.checks.proofs.Kept.{kept-all, wrote_kept}
use Rattle.values.specs.declared.ConstVal.{ConstVal}
use Rattle.values.specs.declared.ConstVal.TheVariants.{Int, Real, Str}
use Rattle.values.specs.declared.NoValue.{NoValue}
use Rattle.values.specs.declared.NoValue.TheVariants.{Failed}
use Rattle.values.specs.Values.{string_in, value_in, result_in, At, Answers, Casts, RunsApart}
use Rattle.values.proofs.Values.{answers-as, answers-int, answers-real, answers-failed}
use Rattle.values.proofs.Written.{wrote-there}
use Rattle.chains.specs.Chains.{count_to}
use Rattle.names.specs.Table.{value_by, kind_of, bits_of, log_in, names_in, found, StringPlace}
use Rattle.names.proofs.Laws.{found-is, value-int, value-real, value-text, value-failed, answered}
use Rattle.leaf.specs.Folds.{ex_at, fold_at, scalar_of, ExLine, Foldable, Folds, Leaf, ScalarLine, AnsweredAt}
use Rattle.leaf.proofs.Lines.{RefTo, in-sheet, ex-is, form-span, depth-some, field-good, ref-good, made-scalar, made-ident, made-qualified, made-nameless}

-- ---- integers and reals

integer_read : (x : Bytes) → holds Atom.i64 x ≡ true → integer_of x ≡ Some (or_else (pos 0) (int_of x))
unfolding integer_of
integer_read x = go (int_of x)
  where
    go : (o : Option ℤ) → holds_of (between 9223372036854775808 9223372036854775807) o ≡ true → option_and_then whole o ≡ Some (or_else (pos 0) o)
    go None h = never h
    go (Some z) h = rw h

pub integer-is : (x : Bytes) {n : ℤ} → holds Atom.i64 x ≡ true → n ≡ unwrap_or (integer_of x) (pos 0) → SFits w64 n → (t : Bytes) (top : ℕ) → (value_in t (Int (held w64 n)) ≡ v_int (or_else (pos 0) (int_of x))) × At top (Int (held w64 n))
unfolding value_in
integer-is x h e f t top = (ap v_int (to_z-of_z f ∙ e ∙ rw (integer_read x h) refl), tt)

real_read : (x : Bytes) → holds Atom.real x ≡ true → bits64_of x ≡ Some (from_big_endian 0 (or_else [] (unhex x)))
unfolding bits64_of
real_read x = go (unhex x)
  where
    go : (o : Option Bytes) → holds_of (λ (bs : Bytes). eqb (length bs) 8 && not_nan (from_big_endian 0 bs)) o ≡ true → option_and_then eight_bytes o ≡ Some (from_big_endian 0 (or_else [] o))
    go None h = never h
    go (Some bs) h = rw (both (eqb (length bs) 8) (not_nan (from_big_endian 0 bs)) h).0

pub real-is : (x : Bytes) {n : ℕ} {y : Float} → holds Atom.real x ≡ true → n ≡ unwrap_or (bits64_of x) 0 → y ≡ of_bits binary64 n
    → (t : Bytes) (top : ℕ) → (value_in t (Real y) ≡ v_real (of_bits binary64 (from_big_endian 0 (or_else [] (unhex x))))) × At top (Real y)
unfolding value_in
real-is x h p e t top = (ap v_real (e ∙ ap (of_bits binary64) (p ∙ rw (real_read x h) refl)), tt)

-- ---- strings

text-read : (x : Bytes) → holds Atom.text x ≡ true → unhex x ≡ Some (or_else [] (unhex x))
text-read x = go (unhex x)
  where
    go : (o : Option Bytes) → holds_of is_utf8 o ≡ true → o ≡ Some (or_else [] o)
    go None h = never h
    go (Some bs) h = refl

module _ (x : Bytes) (h : holds Atom.text x ≡ true) where
  string-length : length x / 2 ≡ length (or_else [] (unhex x))
  string-length = let e = unhex-length x (or_else [] (unhex x)) (text-read x h) in omega (arith, e)

  pub string-more : {i b : ℕ} → i < length x / 2 → b ≡ unwrap_or (byte_at x i) 0
      → {u v w : Writer} → Writes u (take i (or_else [] (unhex x))) v → Writes v (b ∷ []) w → Writes u (take (i + 1) (or_else [] (unhex x))) w
  string-more {i} k g w y =
      writes_next (or_else [] (unhex x)) i (omega (arith, string-length)) w (writes_as (ap (λ (b : ℕ). b ∷ []) (g ∙ ap (λ (o : Option ℕ). unwrap_or o 0) (byte_of x (or_else [] (unhex x)) i (text-read x h) (omega (arith, string-length))))) y)

  pub string-put : {d : Bytes} {top : ℕ} {i : ℕ} {e : Bytes} {p : ℕ} → length x ≤ 255 → top + 256 ≤ length d → length x / 2 ≤ i → Wrote d top (take i (or_else [] (unhex x))) e p
      → Casts d top (v_str (or_else [] (unhex x))) e (Str top (length x / 2))
  unfolding value_in
  string-put {d} {top} {i} {e} {p} short room k w =
      let bs = or_else [] (unhex x) in
      let a : Wrote d top bs e p = wrote_as (take_all i bs (omega (arith, string-length))) w in
      let l = string-length in
      record { value = rw l (ap v_str (wrote-there a (omega arith))); at = (refl, omega arith); kept = wrote_kept a }

-- ---- a field is no longer than its line

-- the parts of a list that is cut behind its first byte, where those behind it are not longer than m
module _ (m : ℕ) where
  head-short : (ps : List Bytes) → ((i : ℕ) → length (get_or ps i []) ≤ m) → length (head_part ps) ≤ m
  head-short [] h = omega arith
  head-short (p ∷ ps) h = h 0

  tail-short : (ps : List Bytes) → ((i : ℕ) → length (get_or ps i []) ≤ m) → (i : ℕ) → length (get_or (tail_parts ps) i []) ≤ m
  tail-short [] h i = omega arith
  tail-short (p ∷ ps) h i = h (suc i)

  cut_short : (t : Bool) (b : ℕ) (ps : List Bytes) → ((i : ℕ) → length (get_or ps i []) ≤ m) → (j : ℕ) → length (get_or (cut t b ps) j []) ≤ suc m
  cut_short true b ps h zero = omega arith
  cut_short true b ps h (suc j) = omega (arith, h j)
  cut_short false b ps h zero = omega (arith, head-short ps h)
  cut_short false b ps h (suc j) = omega (arith, tail-short ps h j)

part-short : (c : ℕ) (l : Bytes) (j : ℕ) → length (get_or (parts_at c l) j []) ≤ length l
part-short c [] zero = omega arith
part-short c [] (suc j) = omega arith
part-short c (b ∷ l) j = cut_short (length l) (eqb b c) b (parts_at c l) (λ i. part-short c l i) j

field-short : (n : ℕ) (l : Bytes) (j : ℕ) → length (get_or (fields_from n l) j []) ≤ length l
field-short n l j = go (ltb (length l) n)
  where
    go : (b : Bool) → length (get_or (cond b [] (fields_of (drop n l))) j []) ≤ length l
    go true = omega arith
    go false = omega (arith, part-short 44 (drop n l) j, length-drop n l)

module _ {s : Bytes} {r : ℕ} (l : ExLine s r) where
  field-within : (j : ℕ) → length (get_or (read_at s (r - 1)).fields j []) ≤ 255
  field-within j =
      let h = in-sheet l in
      rw (fields-are s l.checked.whole (r - 1) h)
      (omega (arith, field-short (length (row_at (form_at s (r - 1))).words + 1) (text_at s (r - 1)) j, line-short (r - 1 + 1) (text_at s (r - 1)) (l.checked.whole.good (r - 1) h)))

-- ---- numbers and strings

module _ {s : Bytes} {r : ℕ} (l : ExLine s r) where
  module _ {x : Bytes} (hx : x ≡ get_or (read_at s (r - 1)).fields 0 []) where
    pub int-field : form_at s (r - 1) ≡ 8 → holds Atom.i64 x ≡ true
    unfolding forms
    int-field e = rw hx (field-good l 8 0 e Atom.i64 refl)

    pub real-field : form_at s (r - 1) ≡ 9 → holds Atom.real x ≡ true
    unfolding forms
    real-field e = rw hx (field-good l 9 0 e Atom.real refl)

    pub text-field : form_at s (r - 1) ≡ 10 → (holds Atom.text x ≡ true) × (length x ≤ 255)
    unfolding forms
    text-field e = rw hx (field-good l 10 0 e Atom.text refl, field-within l 0)

  scalar-fold : (t : Bytes) (m iota : ℕ) → form_at s (r - 1) < 11 → fold_at s t m iota r ≡ ok (scalar_of (form_at s (r - 1)) (get_or (read_at s (r - 1)).fields 0 []))
  unfolding fold_at fold
  scalar-fold t m iota h = rw (ex-is l, made-scalar (nodes_in s) (form_at s (r - 1)) (read_at s (r - 1)).fields (form-span l).0 h)

module _ (x : Bytes) where
  pub scalar-int : {f : ℕ} → f ≡ 8 → v_int (or_else (pos 0) (int_of x)) ≡ scalar_of f x
  unfolding scalar_of
  scalar-int e = rw e

  pub scalar_real : {f : ℕ} → f ≡ 9 → v_real (of_bits binary64 (from_big_endian 0 (or_else [] (unhex x)))) ≡ scalar_of f x
  unfolding scalar_of
  scalar_real e = rw e

  pub scalar-text : {f : ℕ} → f ≡ 10 → v_str (or_else [] (unhex x)) ≡ scalar_of f x
  unfolding scalar_of
  scalar-text e = rw e

-- what is neither `ex,int` nor `ex,real`
pub text-form : {s t : Bytes} {r top : ℕ} → ScalarLine s t r top → {f : ℕ} → f ≡ form_at s (r - 1) → (f ≡ 8 → ⊥) → (f ≡ 9 → ⊥) → form_at s (r - 1) ≡ 10
text-form l e a b = omega (arith, l.form, (form-span l.line).0, a, b, e)

pub scalar-casts : (t : Bytes) (top : ℕ) {v : ConstVal} {e g : Tree.ConstVal} → e ≡ g → ((t : Bytes) (top : ℕ) → (value_in t v ≡ e) × At top v) → Casts t top g t v
scalar-casts t top q h = let w = h t top in record { value = w.0 ∙ q; at = w.1; kept = kept-all }

-- ---- the value of a constant that was found

module _ {t : Bytes} {k : Option ℕ} {top : ℕ} (w : AnsweredAt t k top) where
  pub found_none : k ≡ None → Answers t top (Err Failed) (from_option (found t k)) × Kept top t t
  unfolding found
  found_none e = (answers-failed (rw e) t top, kept-all)

  module _ {i : ℕ} (some-k : k ≡ Some i) {kind b : ℕ} (hk : kind ≡ kind_of t i) (hb : b ≡ bits_of t i) where
    by-slot : found t k ≡ value_by t kind b
    by-slot = ap (found t) some-k ∙ found-is t i ∙ rw (hk, hb)

    pub found-int : kind ≡ 1 → {z : ℤ} → SFits w64 z → z ≡ signed64 b → Answers t top (Ok (Int (held w64 z))) (from_option (found t k)) × Kept top t t
    found-int e f q = (answers-int f (rw (by-slot, value-int t kind b e) (ap int_ok q)) t top, kept-all)

    pub found-real : kind ≡ 2 → {y : Float} → y ≡ of_bits binary64 b → Answers t top (Ok (Real y)) (from_option (found t k)) × Kept top t t
    found-real e q = (answers-real (rw (by-slot, value-real t kind b e) (ap (λ (u : Float). ok (v_real u)) q)) t top, kept-all)

    found-text : kind ≡ 3 → StringPlace b
    found-text e = rw hb (w.answered.text i some-k (sym hk ∙ e))

    pub found-apart : kind ≡ 3 → RunsApart (length t) (b % 65536) top (b / 65536)
    found-apart e =
        let x = found-text e in
        record { source = omega (arith, x.high, w.room, w.low); target = omega (arith, x.short, w.room); apart = inl (omega (arith, x.high, w.low)) }

    pub found-string : kind ≡ 3 → {u : Bytes} → u ≡ over t top (take (b / 65536) (drop (b % 65536) t)) → Answers u top (Ok (Str top (b / 65536))) (from_option (found t k)) × Kept top t u
    unfolding result_in value_in
    found-string e {u} q =
        let x = found-text e in
        let y = take (b / 65536) (drop (b % 65536) t) in
        let l : length y ≡ b / 65536 = length-take-le (b / 65536) (drop (b % 65536) t) (omega (arith, length-drop (b % 65536) t, x.high, w.room, w.low)) in
        let v : Wrote t top y u (min (top + length y) (length t + 1)) = record { bytes = q; place = refl } in
        let z : string_in u top (b / 65536) ≡ y = ap (string_in u top) (sym l) ∙ wrote-there v (omega (arith, l, x.short, w.room)) in
        (record { value = rw (by-slot, value-text t kind b e) (ap (λ (a : Bytes). ok (v_str a)) z); at = (refl, x.short) }, wrote_kept v)

    pub found-failed : (kind ≡ 1 → ⊥) → (kind ≡ 2 → ⊥) → (kind ≡ 3 → ⊥) → Answers t top (Err Failed) (from_option (found t k)) × Kept top t t
    found-failed n1 n2 n3 = (answers-failed (rw (by-slot, value-failed t kind b n1 n2 n3)) t top, kept-all)

-- ---- names

module _ {s t : Bytes} {m r top : ℕ} (a : Foldable s t m r top) where
  -- there is room for a string
  pub room-here : top + 256 ≤ length t
  room-here = omega (arith, a.room, depth-some a.line)

  pub answered-at : {k : Option ℕ} → count_to k ≤ m → AnsweredAt t k top
  answered-at {k} h = record {
    answered = answered a.log h;
    low = a.low;
    room = room-here;
  }

  fold-name : (iota : ℕ) → form_at s (r - 1) ≡ 11
      → fold_at s t m iota r ≡ cond (same (get_or (read_at s (r - 1)).fields 0 []) (bytes "iota")) (ok (v_int (pos iota))) (from_option (value_of (look_up (plain (get_or (read_at s (r - 1)).fields 0 [])) (log_in s t m))))
  unfolding fold_at fold
  fold-name iota e = rw (ex-is a.line, e, made-ident (nodes_in s) (read_at s (r - 1)).fields)

  module _ (e : form_at s (r - 1) ≡ 11) {x : Bytes} (hx : x ≡ get_or (read_at s (r - 1)).fields 0 []) where
    pub name-iota : {iota : ℕ} → same x (bytes "iota") ≡ true → SFits w64 (pos iota) → Folds s t m iota r top t (Ok (Int (held w64 (pos iota))))
    name-iota {iota} q f = record { answer = answers-int f (sym (fold-name iota e ∙ rw (← hx, q))) t top; kept = kept-all }

    pub name-found : {iota : ℕ} → same x (bytes "iota") ≡ false → (k : Option ℕ) → value_of (look_up (plain x) (log_in s t m)) ≡ found t k → {u : Bytes} {y : Result ConstVal NoValue}
        → Answers u top y (from_option (found t k)) × Kept top t u → Folds s t m iota r top u y
    name-found {iota} q k p b = record { answer = answers-as (sym (fold-name iota e ∙ rw (← hx, q, p))) b.0; kept = b.1 }

  -- the line of the module
  module _ (e : form_at s (r - 1) ≡ 12) {k : ℕ} (hk : k ≡ Number.number_up_to 65536 (get_or (read_at s (r - 1)).fields 0 [])) where
    module-ref : RefTo s r 69 (get_or (read_at s (r - 1)).fields 0 []) (number_of (get_or (read_at s (r - 1)).fields 0 []))
    unfolding forms
    module-ref = ref-good a.line 12 0 e k_ex refl

    module-is : k ≡ number_of (get_or (read_at s (r - 1)).fields 0 [])
    module-is = hk ∙ module-ref.exact

    pub module-line : ExLine s k
    module-line = let w = module-ref in rw module-is (record { checked = a.line.checked; first = w.first; last = w.last; kind = w.kind })

    fold-qualified : (iota : ℕ) → fold_at s t m iota r ≡ qualified_value (names_in s t m) (ex_at s k) (get_or (read_at s (r - 1)).fields 1 [])
    unfolding fold_at fold
    fold-qualified iota = rw (ex-is a.line, e, made-qualified (nodes_in s) (read_at s (r - 1)).fields, ← module-is)

    pub qualified-failed : {iota : ℕ} → (form_at s (k - 1) ≡ 11 → ⊥) → Folds s t m iota r top t (Err Failed)
    qualified-failed {iota} z =
        let w = form-span module-line in
        let f : form_at s (k - 1) ≡ 8 + (form_at s (k - 1) - 8) = omega (arith, w.0) in
        let d : ex_at s k ≡ (row_node (nodes_in s) (8 + (form_at s (k - 1) - 8)) (read_at s (k - 1)).fields).ex = ex-is module-line ∙ ap (λ (g : ℕ). (row_node (nodes_in s) g (read_at s (k - 1)).fields).ex) f in
        record {
          answer = answers-failed (sym (fold-qualified iota ∙ rw d (made-nameless (nodes_in s) failed _ (read_at s (k - 1)).fields (form_at s (k - 1) - 8) (omega (arith, w.1)) (λ h. z (omega (arith, h, w.0)))))) t top;
          kept = kept-all;
        }

    pub qualified-found : {iota : ℕ} → form_at s (k - 1) ≡ 11 → {x y : Bytes} → x ≡ get_or (read_at s (k - 1)).fields 0 [] → y ≡ get_or (read_at s (r - 1)).fields 1 [] → (i : Option ℕ) → value_of (look_up (qualified x y) (log_in s t m)) ≡ found t i
        → {u : Bytes} {z : Result ConstVal NoValue} → Answers u top z (from_option (found t i)) × Kept top t u → Folds s t m iota r top u z
    qualified-found {iota} f {x} {y} hx hy i p b =
        record {
          answer = answers-as (sym (fold-qualified iota ∙ rw (ex-is module-line, f, made-ident (nodes_in s) (read_at s (k - 1)).fields, ← hx, ← hy, p))) b.0;
          kept = b.1;
        }

  pub scalar-folds : {iota : ℕ} → form_at s (r - 1) < 11 → {u : Bytes} {v : ConstVal} → Casts t top (scalar_of (form_at s (r - 1)) (get_or (read_at s (r - 1)).fields 0 [])) u v → Folds s t m iota r top u (Ok v)
  unfolding result_in
  scalar-folds {iota} h b = record { answer = record { value = ap ok b.value ∙ sym (scalar-fold a.line t m iota h); at = b.at }; kept = b.kept }

-- what is neither a name nor a module's name
pub scalar-form : {s t : Bytes} {m r top : ℕ} → Leaf s t m r top → {f : ℕ} → f ≡ form_at s (r - 1) → (f ≡ 11 → ⊥) → (f ≡ 12 → ⊥) → form_at s (r - 1) < 11
scalar-form l e a b = omega (arith, l.form, a, b, e)
